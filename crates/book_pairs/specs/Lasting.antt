-- The law of the book of pairs.
use Rattle.std.proofs.Common.{◌≡◌, ◌∙◌, ap, List, [], ◌++◌, length, append-nil, sym}
use Rattle.fal_book.specs.Entries.{entries_of}
use Rattle.fal_book.proofs.Lists.{entries_of-append}
use Rattle.book_pairs.specs.declared.pair.Pair.{Pair}
use Rattle.book_pairs.specs.Pairs.{IsNext, pair_actor}

-- what may stand after a list may stand after every longer one with no further pair of its actor
pub lasting : (c : Unit {0}) (xs ys : List Pair) (e : Pair) (o : Unit {0}) → IsNext c xs e o → entries_of pair_actor (pair_actor e) ys ≡ [] → IsNext c (xs ++ ys) e o
lasting c xs ys e o h none = h ∙ ap length (sym (entries_of-append pair_actor e.actor xs ys ∙ (ap (λ z. entries_of pair_actor e.actor xs ++ z) none ∙ append-nil (entries_of pair_actor e.actor xs))))
