-- The serial order of a script: each call alone, in line order.
use Rattle.std.specs.Prelude.{◌≡◌, ℕ, ◌+◌, List, [], ◌∷◌, ◌++◌, if◌then◌else◌, ◌==◌}
use Rattle.fal_base.specs.declared.call.Config.{Config}
use Rattle.fal_base.specs.declared.event.Event.{Event}
use Rattle.fal_base.specs.declared.event.Event.TheVariants.{Send}
use Rattle.fal_story.specs.Fresh.{IsDrained}

-- after the events before, the rest are for each lane in turn its Send and then the first fresh events other than Sends, until there is none
abbrev pub IsSerialFrom : Config → List Event → List ℕ → List Event → Type 0
IsSerialFrom config before [] rest = rest ≡ []
IsSerialFrom config before (lane ∷ lanes) rest =
    (more : List Event) × ((later : List Event) × ((rest ≡ Send lane ∷ more ++ later)
    × IsDrained config (before ++ Send lane ∷ []) more
    × IsSerialFrom config (before ++ Send lane ∷ more) lanes later))

-- the events of the serial order
abbrev pub IsSerialRun : Config → List ℕ → List Event → Type 0
IsSerialRun config lanes events = IsSerialFrom config [] lanes events

-- how many of these lanes are this one
abbrev pub counts : ℕ → List ℕ → ℕ
counts lane [] = 0
counts lane (other ∷ lanes) = (if other == lane then 1 else 0) + counts lane lanes
