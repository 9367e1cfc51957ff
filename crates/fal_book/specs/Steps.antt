-- What each kind of step tells its seat, and the views with which it leaves the seats.
use Rattle.std.specs.Prelude.{◌≡◌, ◌≢◌, ◌⊎◌, ℕ, ◌+◌, List, [], ◌∷◌, ◌++◌, Option, Some, None}
use Rattle.atomic_table.specs.Table.{Me}
use Rattle.fal_book.specs.declared.view.Known.{Known}
use Rattle.fal_book.specs.declared.view.Ended.{Ended}
use Rattle.fal_book.specs.declared.view.Opening.{Opening}
use Rattle.fal_book.specs.Entries.{entries_of, StartsWith}

module _ {B E C : Type 0} (entries : B → List E) (setting : B → C) (actor : E → ℕ) where
  -- the view of the first seat, which has number 0
  abbrev pub opening_view : Opening B → Option (Known E C)
  opening_view key = Some record {
    number = 0;
    setting = setting key.book.value;
    seen = entries key.book.value;
    mine = entries_of actor 0 (entries key.book.value);
    ticket = None;
    holding = None;
    ended = [];
    opening = entries key.book.value;
    made = 1;
  }

  -- Draw a ticket. Of the seat before, the word found and the seat after: the seat has the number found as its ticket
  abbrev pub Draws : Me (Option B) (Option (Known E C)) → ℕ → Me (Option B) (Option (Known E C)) → Type 0
  Draws me found after = (v : Known E C) → me.0 ≡ Some v → after ≡ (Some (record v { ticket = Some found }), me.1)

  -- the book b has the seat's setting, begins with what the seat has seen, and has just those entries of its actor that the seat knows
  pub record Finds (v : Known E C) (b : B) : Type 0 where
    pub setting_is : setting b ≡ v.setting
    pub seen_is : StartsWith (entries b) v.seen
    pub mine_is : v.mine ≡ entries_of actor v.number (entries b)

  -- See the turn. Where the word found is the seat's ticket, the seat takes the slot with the book b, and holds its list; else nothing changes
  abbrev pub Sees : Me (Option B) (Option (Known E C)) → ℕ → Me (Option B) (Option (Known E C)) → Type 0
  Sees me found after =
      (v : Known E C) → me.0 ≡ Some v
      → (v.ticket ≡ Some found → (b : B) × (after ≡ (Some (record v { holding = Some (entries b) }), (0, Some b) ∷ me.1)) × Finds v b)
      × (v.ticket ≢ Some found → after ≡ me)

  -- the view once the turn was passed with these entries in the book
  abbrev pub view_after_turn : Known E C → List E → Known E C
  view_after_turn v xs = record v { seen = xs; mine = entries_of actor v.number xs; ticket = None; holding = None }

  -- Pass the turn. The slot, with the book b in it, goes home, and the seat has seen the book's list
  abbrev pub Passes : Me (Option B) (Option (Known E C)) → ℕ → Me (Option B) (Option (Known E C)) → Type 0
  Passes me found after = (v : Known E C) (b : B) → me.0 ≡ Some v → me.1 ≡ (0, Some b) ∷ [] → after ≡ (Some (view_after_turn v (entries b)), [])

  -- Split a seat. The seat with number 0 has given out one number more
  abbrev pub view_after_split : Option (Known E C) → Option (Known E C)
  view_after_split None = None
  view_after_split (Some v) = Some (record v { made = v.made + 1 })

  -- the new seat has that number, and has seen the book's list at the start
  abbrev pub new_view : Option (Known E C) → Option (Known E C)
  new_view None = None
  new_view (Some v) = Some record {
    number = v.made;
    setting = v.setting;
    seen = v.opening;
    mine = entries_of actor v.made v.opening;
    ticket = None;
    holding = None;
    ended = [];
    opening = [];
    made = 0;
  }

-- what may be done to the book by the seat that holds it: nothing was added, or one entry of this seat's actor
abbrev pub Grown : {E : Type 0} → (E → ℕ) → ℕ → List E → List E → Type 0
Grown {E} actor n before after = (after ≡ before) ⊎ ((e : E) × (actor e ≡ n) × (after ≡ before ++ e ∷ []))

module _ {E C : Type 0} where
  -- what is kept of a seat that is given back
  abbrev pub ended_of : Known E C → Ended E C
  ended_of w = record { number = w.number; setting = w.setting; mine = w.mine; seen = w.seen }

  -- Join a seat. The first keeps what it knows, and has the second, and those that were given back to the second, among those given back to it
  abbrev pub joint_view : Option (Known E C) → Option (Known E C) → Option (Known E C)
  joint_view None w = None
  joint_view (Some v) None = Some v
  joint_view (Some v) (Some w) = Some (record v { ended = (v.ended ++ w.ended) ++ ended_of w ∷ [] })
