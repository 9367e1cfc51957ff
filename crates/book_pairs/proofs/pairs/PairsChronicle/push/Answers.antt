use Rattle.std.proofs.Common.{◌<◌, ◌+◌, ◌^◌, List, length, sym, ap, subst}
use Rattle.fal_book.proofs.Turns.{sound_more}
use Rattle.book_pairs.specs.declared.pair.Pair.{Pair}
use Rattle.book_pairs.specs.Pairs.{IsNext}
use Rattle.book_pairs.proofs.pairs.PairsChronicle.push.Goals as goal

pub invariant_of-self : goal.invariant_of-self
invariant_of-self c = let same = sym (ap (λ z. z.0) c.self.view_is) in
    rw (c.push_reserved.ensures.items) (sound_more IsNext tt c.self.inside.items.items c.args.event tt c.self.invariant
    (subst (λ (z : List Pair). IsNext tt z c.args.event tt) same c.requires.may) (subst (λ (z : List Pair). length z + 1 < 2 ^ 63) same c.requires.room.1))
