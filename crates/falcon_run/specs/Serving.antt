-- The calls of a script while they are served.
use Rattle.std.specs.Prelude.{◌≡◌, ℕ, List, [], ◌∷◌, ◌++◌, length}
use Rattle.fal_base.specs.declared.call.Config.{Config}
use Rattle.fal_base.specs.declared.event.Event.{Event}
use Rattle.fal_base.specs.declared.event.Event.TheVariants.{Send}
use Rattle.fal_story.specs.Clusters.{calls_of_lane}
use Rattle.fal_story.specs.Fresh.{IsDrained, IsQuietAt, AreAnswered, came}
use Rattle.fal_story.specs.Run.{run, transcript}
use Rattle.fal_story.specs.Sending.{calls_sent}
use Rattle.falcon_run.specs.Serial.{IsSerialRun, counts}

-- each lane has as many calls as it stands among these lanes
abbrev pub HasCallsFor : Config → List ℕ → Type 0
HasCallsFor config lanes = (lane : ℕ) → counts lane lanes ≡ length (calls_of_lane config lane)

-- the lane's Send and then the first fresh events other than Sends, until there was none
abbrev pub IsServedAlone : Config → ℕ → List Event → List Event → Type 0
IsServedAlone config lane before after = (more : List Event) × ((after ≡ before ++ Send lane ∷ more) × IsDrained config (before ++ Send lane ∷ []) more)

-- a call for each of these lanes was sent alone, in this order, and no other. The cluster is quiet, and each of them is answered
pub record AreServed (config : Config) (lanes : List ℕ) (events : List Event) : Type 0 where
  pub serial : IsSerialRun config lanes events
  pub sent : (lane : ℕ) → calls_sent lane events ≡ counts lane lanes
  pub quiet : IsQuietAt config (run config events) (came events)
  pub answered : AreAnswered (transcript config events)
