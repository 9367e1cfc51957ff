-- How many calls each lane has sent.
use Rattle.std.specs.Prelude.{ℕ, ◌+◌, List, [], ◌∷◌, if◌then◌else◌, ◌==◌}
use Rattle.fal_base.specs.declared.event.Event.{Event}
use Rattle.fal_base.specs.declared.event.Event.TheVariants.{Send}

-- how many calls of this lane an event sends
abbrev pub calls_sent_by : ℕ → Event → ℕ
calls_sent_by lane (Send other) = if other == lane then 1 else 0
calls_sent_by lane other = 0

-- how many calls of this lane events send
abbrev pub calls_sent : ℕ → List Event → ℕ
calls_sent lane [] = 0
calls_sent lane (event ∷ events) = calls_sent_by lane event + calls_sent lane events
