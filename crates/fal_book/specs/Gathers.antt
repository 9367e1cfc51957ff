-- Seats that were joined to one.
use Rattle.std.specs.Prelude.{◌≡◌, ◌⊎◌, ℕ, ◌+◌, ◌≤◌, All, List, [], length, Option, Some, None}
use mathlib.Core.Option.{some}
use lib.ListN.{get_elem?}
use Rattle.atomic_table.specs.Table.{Me}
use Rattle.fal_book.specs.declared.view.Known.{Known}
use Rattle.fal_book.specs.declared.view.Ended.{Ended}
use Rattle.fal_book.specs.Sitting.{Sitting}

module _ {E C : Type 0} where
  -- the seat s is the one that knows v
  pub record IsOwn (v : Known E C) (s : Sitting E C) : Type 0 where
    pub number : v.number ≡ s.number
    pub setting : Some v.setting ≡ s.setting
    pub mine : v.mine ≡ s.mine
    pub seen : v.seen ≡ s.seen

  -- w is what was kept of the seat s
  pub record IsEnded (w : Ended E C) (s : Sitting E C) : Type 0 where
    pub number : w.number ≡ s.number
    pub setting : Some w.setting ≡ s.setting
    pub mine : w.mine ≡ s.mine
    pub seen : w.seen ≡ s.seen

  -- the seat s is the one that knows v, or was given back to it
  abbrev pub IsIn : Known E C → Sitting E C → Type 0
  IsIn v s = IsOwn v s ⊎ ((k : ℕ) × (w : Ended E C) × (get_elem? v.ended k ≡ some w) × IsEnded w s)

module _ {B E C : Type 0} where
  -- all these seats are in the one seat at the table, which is between two calls
  pub record Gathered (seats : List (Sitting E C)) (me : Me (Option B) (Option (Known E C))) : Type 0 where
    pub v : Known E C
    pub is : me ≡ (Some v, [])
    pub ticket : v.ticket ≡ None
    pub holding : v.holding ≡ None
    pub count : length seats ≤ 1 + length v.ended
    pub each : All (IsIn v) seats
