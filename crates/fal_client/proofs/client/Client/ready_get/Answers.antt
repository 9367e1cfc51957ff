use Rattle.std.proofs.Common.{◌≡◌, true, List, ℕ, ap, sym, subst}
use Rattle.fal_wire.specs.Messages.{reading}
use Rattle.fal_client.specs.State.{ClientState}
use Rattle.fal_client.specs.Step.{IsInRange, is_to_lane, read_step}
use Rattle.fal_client.proofs.Ranges.{get_in_range}
use Rattle.fal_client.proofs.client.Client.ready_get.Goals as goal

pub read-requires : goal.read-requires
read-requires c =
    let lane = ap (λ (s : ClientState). s.lane) c.self.view_is in
    let is : is_to_lane c.args.self.now.lane c.args.envelope.now.to ≡ true = cc in
    subst (λ (bytes : List ℕ). IsInRange (read_step c.args.self.now c.args.envelope.now.point (reading bytes))) (sym c.as_slice.ensures)
    (get_in_range c.args.self.now c.args.envelope.now c.requires is)
