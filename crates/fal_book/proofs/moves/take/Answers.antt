use Rattle.std.proofs.Common.{rules, sym, ◌∙◌, ap, Some, ◌∷◌}
use Rattle.atomic_table.specs.Table.{rest}
use Rattle.fal_book.proofs.Asks.{waits_after, has_slot, found_book, took}
use Rattle.fal_book.proofs.moves.take.Goals as goal

pub reach-requires-clause-waits : goal.reach-requires-clause-waits
reach-requires-clause-waits g c = let b = g.B.Chronicle in waits_after b.entries b.setting b.actor_of _ _ _ c.requires.idle c.draw-ticket.ensures.drew

pub exchange-found-requires : goal.exchange-found-requires
exchange-found-requires g c = let b = g.B.Chronicle in
    let h = has_slot b.entries b.setting b.actor_of _ _ _ _ c.requires.idle c.draw-ticket.ensures.drew c.reach.ensures.reached in
    (search rules, (Some h.0, h.1 ∙ ap (λ z. (0, Some h.0) ∷ rest z) (sym h.1)))

pub unreachable-requires : goal.unreachable-requires
unreachable-requires g c = let b = g.B.Chronicle in
    let h = has_slot b.entries b.setting b.actor_of _ _ _ _ c.requires.idle c.draw-ticket.ensures.drew c.reach.ensures.reached in
    c.in_default.not-Some h.0 (found_book _ _ c.reach.new.seat.me h.1 c.exchange-found.ensures.2)

pub returns-clause-took : goal.returns-clause-took
returns-clause-took g c = let b = g.B.Chronicle in
    took b.entries b.setting b.actor_of _ _ _ _ _ _ c.draw-ticket.ensures.drew c.reach.ensures.reached
    (c.exchange-found.ensures.2 ∙ ap (λ z. (0, z) ∷ rest c.reach.new.seat.me.1) c.in-Some.is) c.exchange-found.ensures.3
