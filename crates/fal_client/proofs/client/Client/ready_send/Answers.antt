use Rattle.std.proofs.Common.{◌≡◌, true, sym}
use Rattle.std.specs.Prelude.{is_none}
use Rattle.fal_client.proofs.Ranges.{send_in_range}
use Rattle.fal_client.proofs.client.Client.ready_send.Goals as goal

pub start-requires-clause-range : goal.start-requires-clause-range
start-requires-clause-range c =
    let idle : is_none c.args.self.now.current ≡ true = cc in
    send_in_range c.args.self.now c.in-Some.call.now c.requires idle (sym c.in-Some.ensures)
