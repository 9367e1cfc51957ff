-- Pairs of an actor and a number: each actor's numbers are 0, 1, 2 and so on.
use Rattle.std.specs.Prelude.{◌≡◌, ℕ, ◌==◌, not, List, ◌++◌, drop, filter, length}
use Rattle.fal_book.specs.Entries.{entries_of}
use Rattle.book_pairs.specs.declared.pair.Pair.{Pair}

abbrev pub pair_actor : Pair → ℕ
pair_actor p = p.actor

-- the pair may stand after this list: its number is how many pairs of its actor stand there
abbrev pub IsNext : Unit {0} → List Pair → Pair → Unit {0} → Type 0
IsNext c xs p o = p.number ≡ length (entries_of pair_actor p.actor xs)

-- the pairs of other actors than n
abbrev pub others_of : ℕ → List Pair → List Pair
others_of n xs = filter (λ p. not (p.actor == n)) xs

-- an actor hears the pairs of the others, from this place of the list on
abbrev pub Hears : Unit {0} → List Pair → ℕ → ℕ → List Pair → List Pair → Type 0
Hears c xs n from before after = after ≡ before ++ others_of n (drop from xs)
