use Rattle.std.proofs.Common.{◌≡◌, []}
use Rattle.fal_script.specs.Configs.{lanes_of_script}
use Rattle.fal_script.proofs.handed.no_calls.Given as goal

-- so many lanes have no calls
abbrev pub invariant-loop : goal.invariant-loop
invariant-loop l = l.lists.items ≡ lanes_of_script [] l.counter
