use Rattle.std.proofs.Common.{◌≡◌, ◌++◌, map}
use Rattle.fal_story.specs.Fresh.{event_of_node}
use Rattle.fal_alone.proofs.fresh.push_dues.Given as goal

-- the events so far stand at the end
abbrev pub invariant-loop-own : goal.invariant-loop-own
invariant-loop-own l = l.events.items ≡ l.initial.events.items ++ map (λ own. event_of_node l.number own) l.yielded
