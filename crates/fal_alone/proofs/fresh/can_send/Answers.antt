use Rattle.std.proofs.Common.{◌&&◌, length, nat_lt, sym, ap, ◌∙◌}
use Rattle.fal_alone.proofs.Pushes.{can_send}
use Rattle.fal_alone.proofs.fresh.can_send.Goals as goal

pub returns-then-idle : goal.returns-then-idle
returns-then-idle c =
    let client = c.args.client.now in
    ap (nat_lt 0) c.left.ensures ∙ ap (λ b. b && nat_lt 0 (length client.left)) (sym c.if-idle.true ∙ c.idle.ensures) ∙ can_send client

pub returns-else-idle : goal.returns-else-idle
returns-else-idle c =
    let client = c.args.client.now in
    c.if-idle.false ∙ ap (λ b. b && nat_lt 0 (length client.left)) (sym c.if-idle.false ∙ c.idle.ensures) ∙ can_send client
