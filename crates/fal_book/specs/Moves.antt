-- What the moves of a seat ask and tell, each made of a few steps on the table. A seat at the table is its view, and the list of the slots in its hand with what each has.
use Rattle.std.specs.Prelude.{◌≡◌, ℕ, ◌<◌, List, [], ◌∷◌, Option, Some, None}
use Rattle.atomic_table.specs.Table.{Me}
use Rattle.atomic_table.specs.Seated.{TableId}
use Rattle.atomic_table.specs.declared.shared.Seat.{Seat}
use Rattle.fal_book.specs.declared.view.Known.{Known}
use Rattle.fal_book.specs.Steps.{Finds, Grown, view_after_turn, joint_view}

module _ {S V : Type 0} where
  -- the table and the id are the same
  abbrev pub IsSameSeat : Seat S V → Seat S V → Type 0
  IsSameSeat s t = (t.table_id ≡ s.table_id) × (t.id ≡ s.id)

-- two words and one slot
abbrev pub IsSized : TableId → Type 0
IsSized z = (z.words ≡ 2) × (z.slots ≡ 1)

module _ {B E C : Type 0} where
  -- the seat has no ticket, is holding nothing, and has no slot in its hand
  abbrev pub IsIdle : Me (Option B) (Option (Known E C)) → Type 0
  IsIdle me = (v : Known E C) × (me ≡ (Some v, [])) × (v.ticket ≡ None) × (v.holding ≡ None)

  -- the seat has the ticket t, and not yet the slot
  abbrev pub Waits : ℕ → Me (Option B) (Option (Known E C)) → Type 0
  Waits t me = (v : Known E C) × (me ≡ (Some v, [])) × (v.ticket ≡ Some t) × (v.holding ≡ None)

module _ {B E C : Type 0} (entries : B → List E) (setting : B → C) (actor : E → ℕ) where
  -- a ticket was drawn
  abbrev pub Drew : ℕ → Me (Option B) (Option (Known E C)) → Me (Option B) (Option (Known E C)) → Type 0
  Drew t me after = (v : Known E C) → me ≡ (Some v, []) → after ≡ (Some (record v { ticket = Some t }), [])

  -- the turn came, and the slot with the book is in the seat's hand
  abbrev pub Reached : Me (Option B) (Option (Known E C)) → Me (Option B) (Option (Known E C)) → Type 0
  Reached me after = (v : Known E C) → me ≡ (Some v, []) → (b : B) × (after ≡ (Some (record v { holding = Some (entries b) }), (0, Some b) ∷ [])) × Finds entries setting actor v b

  -- the book b was taken out of the slot
  abbrev pub Took : B → Me (Option B) (Option (Known E C)) → Me (Option B) (Option (Known E C)) → Type 0
  Took b me after = (v : Known E C) → me ≡ (Some v, []) → (t : ℕ) × (after ≡ (Some (record v { ticket = Some t; holding = Some (entries b) }), (0, None) ∷ [])) × Finds entries setting actor v b

  -- the book b may be given back: it has the setting of the book that was taken out, its list is sound, and it is that of the book taken out, or that with one entry more of this seat's actor
  abbrev pub MayGive : (C → List E → Type 0) → B → Me (Option B) (Option (Known E C)) → Type 0
  MayGive ok b me = (v : Known E C) × (h : List E) × (me ≡ (Some v, (0, None) ∷ [])) × (v.holding ≡ Some h) × (setting b ≡ v.setting) × ok v.setting (entries b) × Grown actor v.number h (entries b)

  -- the book b went back into the slot, and the turn was passed
  abbrev pub Gave : B → Me (Option B) (Option (Known E C)) → Me (Option B) (Option (Known E C)) → Type 0
  Gave b me after = (v : Known E C) → me ≡ (Some v, (0, None) ∷ []) → after ≡ (Some (view_after_turn entries setting actor v (entries b)), [])

module _ {B E C : Type 0} where
  -- the seat with number 0 may give out one number more
  abbrev pub MayMake : ℕ → Me (Option B) (Option (Known E C)) → Type 0
  MayMake actors me = (v : Known E C) × (me ≡ (Some v, [])) × (v.number ≡ 0) × (v.ticket ≡ None) × (v.holding ≡ None) × (v.made < actors)

  -- the other seat was given back to this one
  abbrev pub TookIn : Me (Option B) (Option (Known E C)) → Me (Option B) (Option (Known E C)) → Me (Option B) (Option (Known E C)) → Type 0
  TookIn me other after = (v w : Known E C) → me ≡ (Some v, []) → other ≡ (Some w, []) → after ≡ (joint_view (Some v) (Some w), [])
