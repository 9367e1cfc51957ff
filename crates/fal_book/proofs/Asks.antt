-- What each move asks of the table, said of the seat as a whole.
use Rattle.std.proofs.Common.{◌≡◌, ℕ, ◌+◌, ◌%◌, ◌^◌, List, [], ◌∷◌, sym, refl, ap, ◌∙◌, subst}
use Rattle.std.specs.Prelude.{Option, Some, None}
use Rattle.atomic_table.specs.Table.{State, Me, rest, Allows, Splits, Joins}
use Rattle.fal_book.specs.declared.view.Known.{Known}
use Rattle.fal_book.specs.declared.view.Opening.{Opening}
use Rattle.fal_book.specs.Rule.{IsKept}
use Rattle.fal_book.specs.Steps.{Draws, Finds, Sees, Passes, view_after_split, new_view, joint_view}
use Rattle.fal_book.proofs.Seats.{splits, joins}
use Rattle.fal_book.specs.Moves.{IsIdle, Waits, Drew, Reached, Took, MayGive, Gave, MayMake}
use Rattle.fal_book.proofs.Keeps.{draws, sees, passes}

-- what the seat has in its hand
abbrev in_hand : {S : Type 0} → S → List (ℕ × S) → S
in_hand d [] = d
in_hand d (x ∷ xs) = x.1

module _ {B E C : Type 0} (entries : B → List E) (setting : B → C) (actor : E → ℕ) (ok : C → List E → Type 0) (key : Opening B) where
  abbrev V : Type 0
  V = Option (Known E C)

  abbrev M : Type 0
  M = Me (Option B) V

  abbrev Rule : State (Option B) V → Type 0
  Rule = IsKept entries setting actor ok key

  pub draws_at : (slots id : ℕ) (me : M) → IsIdle me → Allows Rule slots id me 1 (λ n. (n + 1) % 2 ^ 64) (Draws entries setting actor me)
  draws_at slots id me idle = subst (λ (m : M). Allows Rule slots id m 1 (λ n. (n + 1) % 2 ^ 64) (Draws entries setting actor m)) (sym idle.1)
      (draws entries setting actor ok key slots id idle.0 [] idle.2 idle.3)

  pub sees_at : (slots id t : ℕ) (me : M) → Waits t me → Allows Rule slots id me 0 (λ n. n) (Sees entries setting actor me)
  sees_at slots id t me waits = subst (λ (m : M). Allows Rule slots id m 0 (λ n. n) (Sees entries setting actor m)) (sym waits.1)
      (sees entries setting actor ok key slots id waits.0 t waits.2 waits.3)

  -- the book b stands in the slot, and not None
  pub passes_at : (slots id : ℕ) (b : B) (me after : M) → MayGive entries setting actor ok b me → after ≡ (me.0, (0, Some b) ∷ [])
      → Allows Rule slots id after 0 (λ n. (n + 1) % 2 ^ 64) (Passes entries setting actor after)
  passes_at slots id b me after may is =
      let here : after ≡ (Some may.0, (0, Some b) ∷ []) = is ∙ ap (λ (m : M). (m.0, (0, Some b) ∷ [])) may.2 in
      subst (λ (m : M). Allows Rule slots id m 0 (λ n. (n + 1) % 2 ^ 64) (Passes entries setting actor m)) (sym here)
      (passes entries setting actor ok key slots id may.0 b may.1 may.3 may.4 may.5 may.6)

-- what was found in the slot is the book
pub found_book : {B V : Type 0} (found : Option B) (b : B) (last : Me (Option B) V) → last.1 ≡ (0, Some b) ∷ [] → last.1 ≡ (0, found) ∷ rest last.1 → found ≡ Some b
found_book found b last is e = ap (in_hand found) (sym e ∙ is)

pub put_back : {B V : Type 0} (b : B) (v : V) (me after : Me (Option B) V) → me ≡ (v, (0, None) ∷ []) → after ≡ (me.0, (0, Some b) ∷ rest me.1) → after ≡ (me.0, (0, Some b) ∷ [])
put_back b v me after is e = e ∙ ap (λ z. (me.0, (0, Some b) ∷ rest z)) (ap (λ m. m.1) is)

module _ {B E C : Type 0} (entries : B → List E) (setting : B → C) (actor : E → ℕ) where
  abbrev W : Type 0
  W = Me (Option B) (Option (Known E C))

  pub waits_after : (t : ℕ) (me after : W) → IsIdle me → Drew entries setting actor t me after → Waits t after
  waits_after t me after idle drew = (record idle.0 { ticket = Some t }, drew idle.0 idle.1, refl, idle.3)

  pub has_slot : (t : ℕ) (me after last : W) → IsIdle me → Drew entries setting actor t me after → Reached entries setting actor after last
      → (b : B) × (last.1 ≡ (0, Some b) ∷ [])
  has_slot t me after last idle drew reached = let w = waits_after t me after idle drew in let r = reached w.0 w.1 in (r.0, ap (λ (m : W). m.1) r.1)

  pub took : (t : ℕ) (b : B) (me after last end : W) → Drew entries setting actor t me after → Reached entries setting actor after last
      → last.1 ≡ (0, Some b) ∷ rest last.1 → end ≡ (last.0, (0, None) ∷ rest last.1) → Took entries setting actor b me end
  took t b me after last end drew reached found is v at =
      let w : Known E C = record v { ticket = Some t } in
      let r = reached w (drew v at) in
      let same : b ≡ r.0 = (let e : Some b ≡ Some r.0 = found_book (Some b) r.0 last (ap (λ (m : W). m.1) r.1) found in cc) in (
        t,
        is ∙ (ap (λ (m : W). (m.0, (0, None) ∷ rest m.1)) r.1 ∙ ap (λ z. (Some (record w { holding = Some (entries z) }), (0, None) ∷ [])) (sym same)),
        let f = subst (λ z. Finds entries setting actor w z) (sym same) r.2 in record { setting_is = f.setting_is; seen_is = f.seen_is; mine_is = f.mine_is },
      )

  pub gave : (b : B) (me after end : W) (found : ℕ) → after ≡ (me.0, (0, Some b) ∷ []) → Passes entries setting actor after found end → Gave entries setting actor b me end
  gave b me after end found is passed v at = passed v b (ap (λ (m : W). m.0) (is ∙ ap (λ (m : W). (m.0, (0, Some b) ∷ [])) at)) (ap (λ (m : W). m.1) is)

module _ {B E C : Type 0} (entries : B → List E) (setting : B → C) (actor : E → ℕ) (ok : C → List E → Type 0) (key : Opening B) where
  abbrev Holds : State (Option B) (Option (Known E C)) → Type 0
  Holds = IsKept entries setting actor ok key

  pub splits_at : (id : ℕ) (me : Me (Option B) (Option (Known E C))) → MayMake key.actors me → Splits Holds id me.0 (view_after_split entries setting actor me.0) (new_view entries setting actor me.0)
  splits_at id me may = subst (λ (z : Option (Known E C)). Splits Holds id z (view_after_split entries setting actor z) (new_view entries setting actor z)) (λ i. (sym may.1 i).0)
      (splits entries setting actor ok key id may.0 may.2 may.3 may.4 may.5)

  pub joins_at : (id other : ℕ) (me you : Me (Option B) (Option (Known E C))) → IsIdle me → IsIdle you → Joins Holds id me.0 other you.0 (joint_view me.0 you.0) None
  joins_at id other me you a b = subst (λ (z : Option (Known E C) × Option (Known E C)). Joins Holds id z.0 other z.1 (joint_view z.0 z.1) None) (λ i. ((sym a.1 i).0, (sym b.1 i).0))
      (joins entries setting actor ok key id other a.0 b.0 a.2 a.3 b.2 b.3)
