-- The rule of the lock: what holds between any two steps of the table, of its two words, its slot and all seats.
-- Word 0 counts the turns passed and word 1 the tickets drawn. The slot has the book, or None while a seat has taken the book out of it.
use Rattle.std.specs.Prelude.{◌≡◌, ◌⊎◌, ℕ, ◌+◌, ◌%◌, ◌<◌, ◌≤◌, ◌^◌, List, [], ◌∷◌, length, Option, Some, None}
use mathlib.Core.Option.{some, none}
use lib.ListN.{get_elem?}
use Rattle.atomic_table.specs.Table.{State}
use Rattle.fal_book.specs.declared.view.Known.{Known}
use Rattle.fal_book.specs.declared.view.Ended.{Ended}
use Rattle.fal_book.specs.declared.view.Opening.{Opening}
use Rattle.fal_book.specs.Entries.{entries_of, StartsWith}

-- the sum of f over the views
abbrev pub total : {V : Type 0} → (V → ℕ) → List V → ℕ
total f [] = 0
total f (v ∷ vs) = f v + total f vs

-- 1 where there is a value, else 0
abbrev pub count_in : {A : Type 0} → Option A → ℕ
count_in None = 0
count_in (Some _) = 1

module _ {E C : Type 0} where
  -- 1 where the seat has a ticket, else 0. A seat that was given back has none
  abbrev pub ticket_count : Option (Known E C) → ℕ
  ticket_count None = 0
  ticket_count (Some v) = count_in v.ticket

  -- how many seats this one stands for: itself, and those that were given back to it
  abbrev pub seat_count : Option (Known E C) → ℕ
  seat_count None = 0
  seat_count (Some v) = 1 + length v.ended

  -- the seat with this id is in use, and knows v
  abbrev pub IsLive : List (Option (Known E C)) → ℕ → Known E C → Type 0
  IsLive views id v = get_elem? views id ≡ some (Some v)

module _ {E C : Type 0} (actor : E → ℕ) (c : C) (log : List E) (views : List (Option (Known E C))) where
  -- What is kept of a seat that was given back is so: its setting is that of all, its entries are its actor's in the list, and what it had seen is a beginning of the list.
  -- Its number is that of no seat in use
  pub record FitsEnded (w : Ended E C) : Type 0 where
    pub setting : w.setting ≡ c
    pub mine : w.mine ≡ entries_of actor w.number log
    pub seen : StartsWith log w.seen
    pub spent : get_elem? views w.number ≡ some None

  -- What the seat with number 0 knows besides is so: how many numbers were given out, that the list at the start is a beginning of the list,
  -- and that a number not yet given out has only the entries that it had at the start
  pub record FitsFirst (v : Known E C) : Type 0 where
    pub made : v.made ≡ length views
    pub opening : StartsWith log v.opening
    pub unmade : (n : ℕ) → v.made ≤ n → entries_of actor n log ≡ entries_of actor n v.opening

  -- What a seat knows is so. Its number is its id at the table, so that no two seats have one number. It has seen a beginning of the list, in which all entries of its actor stand
  pub record Fits (id : ℕ) (v : Known E C) : Type 0 where
    pub number : v.number ≡ id
    pub setting : v.setting ≡ c
    pub seen : StartsWith log v.seen
    pub mine : v.mine ≡ entries_of actor id log
    pub mine_seen : v.mine ≡ entries_of actor id v.seen
    pub ended : (k : ℕ) (w : Ended E C) → get_elem? v.ended k ≡ some w → FitsEnded w
    pub first : v.number ≡ 0 → FitsFirst v

module _ {B E C : Type 0} (entries : B → List E) (setting : B → C) (actor : E → ℕ) (ok : C → List E → Type 0) where
  -- the slot is at home and has a book with this list and this setting, and no seat is holding it
  abbrev pub IsAtHome : C → List E → State (Option B) (Option (Known E C)) → Type 0
  IsAtHome c log s = (b : B) × (s.homes ≡ some (Some b) ∷ []) × (entries b ≡ log) × (setting b ≡ c) × ((id : ℕ) (v : Known E C) → IsLive s.views id v → v.holding ≡ None)

  -- the slot is out with a seat, which is holding a book with this list
  abbrev pub IsOut : List E → State (Option B) (Option (Known E C)) → Type 0
  IsOut log s = (id : ℕ) × (v : Known E C) × (s.homes ≡ none ∷ []) × IsLive s.views id v × (v.holding ≡ Some log)

  -- the whole rule
  pub record IsKept (key : Opening B) (s : State (Option B) (Option (Known E C))) : Type 0 where
    -- the one setting, the list of the book, and the two words
    pub c : C
    pub log : List E
    pub passed : ℕ
    pub drawn : ℕ
    pub words : s.words ≡ passed ∷ drawn ∷ []
    pub passed_small : passed < 2 ^ 64
    -- there are at most 255 seats, so that no two tickets meet by going round 2^64
    pub seats : length s.views ≤ key.actors
    pub few : key.actors < 256
    -- as many seats have a ticket as tickets were drawn and not yet passed, by numbers that go round 2^64
    pub waiting : drawn ≡ (passed + total ticket_count s.views) % 2 ^ 64
    -- each ticket is one of those numbers
    pub ticket : (id : ℕ) (v : Known E C) → IsLive s.views id v → (t : ℕ) → v.ticket ≡ Some t → (k : ℕ) × (k < total ticket_count s.views) × (t ≡ (passed + k) % 2 ^ 64)
    -- no two seats have one ticket
    pub apart : (id other : ℕ) (v w : Known E C) (t : ℕ) → IsLive s.views id v → IsLive s.views other w → v.ticket ≡ Some t → w.ticket ≡ Some t → id ≡ other
    -- a seat that is holding the book has the turn, and holds the list
    pub holding : (id : ℕ) (v : Known E C) → IsLive s.views id v → (h : List E) → v.holding ≡ Some h → (v.ticket ≡ Some passed) × (h ≡ log)
    pub book : IsAtHome c log s ⊎ IsOut log s
    -- the list is legal under the setting, and short
    pub sound : ok c log
    pub each : (id : ℕ) (v : Known E C) → IsLive s.views id v → Fits actor c log s.views id v
    -- each seat is counted once, as itself or as one that was given back: none is lost
    pub whole : total seat_count s.views ≡ length s.views
