use Rattle.std.proofs.Common.{◌≡◌, length}
use Rattle.fal_alone.specs.Opening.{AreClients}
use Rattle.fal_alone.proofs.opening.clients_of.Given as goal

abbrev pub invariant-loop-calls : goal.invariant-loop-calls
invariant-loop-calls l = record {
  lane : l.lane ≡ l.calls-index;
  count : length l.clients.items ≡ l.calls-index;
  are : AreClients l.config l.clients.items;
}
