-- A seat as callers see it, and what the calls of a lock do to it.
use Rattle.std.specs.Prelude.{◌≡◌, ℕ, ◌≤◌, List, [], ◌∷◌, ◌++◌, length, Option, Some, None}
use Rattle.atomic_table.specs.declared.shared.Seat.{Seat}
use Rattle.atomic_table.specs.Seated.{TableId}
use Rattle.fal_book.specs.declared.view.Known.{Known}
use Rattle.fal_book.specs.Entries.{entries_of, StartsWith}

-- Which table it is at, the number of its actor, the setting of the book, the list that it has seen, its actor's entries, and how far it has looked.
-- The setting is there for every seat in use
pub record Sitting (E C : Type 0) : Type 0 where
  pub lock : TableId
  pub number : ℕ
  pub setting : Option C
  pub seen : List E
  pub mine : List E
  pub looked : ℕ

-- what a view has. That of a seat that was given back has nothing
module _ {E C : Type 0} where
  abbrev pub seen_in : Option (Known E C) → List E
  seen_in None = []
  seen_in (Some v) = v.seen

  abbrev pub mine_in : Option (Known E C) → List E
  mine_in None = []
  mine_in (Some v) = v.mine

  abbrev pub setting_in : Option (Known E C) → Option C
  setting_in None = None
  setting_in (Some v) = Some v.setting

module _ {E C : Type 0} (actor : E → ℕ) (ok : C → List E → Type 0) where
  -- What a seat knows between two calls: it has no ticket and is holding nothing, what it has seen is legal and short, and its entries are its actor's in that list
  pub record Rests (v : Known E C) (n : ℕ) (c : C) (looked : ℕ) : Type 0 where
    pub number : v.number ≡ n
    pub setting : v.setting ≡ c
    pub ticket : v.ticket ≡ None
    pub holding : v.holding ≡ None
    pub sound : ok c v.seen
    pub mine : v.mine ≡ entries_of actor n v.seen
    pub looked_at : looked ≤ length v.seen

module _ {B E C : Type 0} where
  -- the seat s of the table, with the actor n, that has looked as far as k
  abbrev pub sitting_of : Seat (Option B) (Option (Known E C)) → ℕ → ℕ → Sitting E C
  sitting_of s n k = record { lock = s.table_id; number = n; setting = setting_in s.me.0; seen = seen_in s.me.0; mine = mine_in s.me.0; looked = k }

  -- the seat of the table is between two calls, and has no slot in its hand
  abbrev pub IsSat : (E → ℕ) → (C → List E → Type 0) → Seat (Option B) (Option (Known E C)) → ℕ → ℕ → Type 0
  IsSat actor ok s n looked = (c : C) × ((s.me.1 ≡ []) × ((v : Known E C) × (s.me.0 ≡ Some v) × Rests actor ok v n c looked))

-- a lock as callers see it: which table it is, and how many actors it has
pub record LockId : Type 0 where
  pub table : TableId
  pub actors : ℕ

module _ {E C : Type 0} where
  -- the lock, the number and the setting are as before
  abbrev pub IsSameSitting : Sitting E C → Sitting E C → Type 0
  IsSameSitting s t = (t.lock ≡ s.lock) × (t.number ≡ s.number) × (t.setting ≡ s.setting)

  -- The entry e was made, once, as number n of the book. What the seat has seen begins with what it had seen, and ends with e; its actor's entries are those before, and e
  pub record Entered (s t : Sitting E C) (e : E) (n : ℕ) : Type 0 where
    pub between : List E
    pub seen : t.seen ≡ (s.seen ++ between) ++ e ∷ []
    pub mine : t.mine ≡ s.mine ++ e ∷ []
    pub number : n ≡ length (s.seen ++ between)

  -- Nothing was entered: the actor's entries and how far the seat has looked are as before, and what it has seen may have grown
  abbrev pub NothingEntered : Sitting E C → Sitting E C → Type 0
  NothingEntered s t = (t.mine ≡ s.mine) × (t.looked ≡ s.looked) × StartsWith t.seen s.seen

  -- The list so far was looked at, n entries long. What the seat has seen is that list, which begins with what it had seen; its actor's entries are as before
  pub record Looked (s t : Sitting E C) (n : ℕ) : Type 0 where
    pub looked : t.looked ≡ n
    pub all : n ≡ length t.seen
    pub seen : StartsWith t.seen s.seen
    pub mine : t.mine ≡ s.mine

module _ {E C : Type 0} (actor : E → ℕ) (c : C) (es : List E) where
  -- what the first seat knows, of a lock round a book with this setting and these entries, once so many numbers were given out
  abbrev pub first_view : ℕ → Known E C
  first_view made = record { number = 0; setting = c; seen = es; mine = entries_of actor 0 es; ticket = None; holding = None; ended = []; opening = es; made = made }

  -- the seat of the actor n at a new lock: it has the book's setting, has seen the book, and has its own entries in it
  abbrev pub newcomer : TableId → ℕ → Sitting E C
  newcomer lock n = record { lock = lock; number = n; setting = Some c; seen = es; mine = entries_of actor n es; looked = 0 }

module _ {E C : Type 0} (actor : E → ℕ) (c : C) (log : List E) where
  -- The book came back with this setting and this list: the seat's setting is the book's, its entries are its actor's in the book, and what it had seen is a beginning of the book
  pub record IsClosed (s : Sitting E C) : Type 0 where
    pub setting : s.setting ≡ Some c
    pub mine : s.mine ≡ entries_of actor s.number log
    pub seen : StartsWith log s.seen

module _ {E C : Type 0} (actor : E → ℕ) (ok : C → List E → Type 0) where
  -- What holds of every seat between two calls: what it has seen is legal under its setting and short, its entries are its actor's in that list, and it has looked no further
  pub record Knows (s : Sitting E C) : Type 0 where
    pub sound : (c : C) × (s.setting ≡ Some c) × ok c s.seen
    pub mine : s.mine ≡ entries_of actor s.number s.seen
    pub looked : s.looked ≤ length s.seen

-- the event may be pushed, with these outputs, after what the seat has seen
abbrev pub MayEnter : {C E O : Type 0} → (C → List E → E → O → Type 0) → Option C → List E → E → O → Type 0
MayEnter may None es e o = ⊥
MayEnter may (Some c) es e o = may c es e o
