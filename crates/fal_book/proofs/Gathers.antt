-- Seats are taken into one, and the book comes back.
use Rattle.std.proofs.Common.{◌≡◌, inl, inr, ⊎_elim, ℕ, ◌≤◌, List, [], ◌∷◌, ◌++◌, length, sym, refl, ap, ◌∙◌, subst, arith, length-append}
use Rattle.std.specs.Prelude.{All, Option, Some}
use mathlib.Core.Option.{some, some-injective}
use lib.ListN.{get_elem?}
use Rattle.atomic_table.specs.Table.{Me, Final, Seen}
use Rattle.atomic_table.specs.declared.shared.Seat.{Seat}
use Rattle.atomic_table.proofs.Lists.{at_longer, at_last}
use Rattle.fal_book.specs.declared.view.Known.{Known}
use Rattle.fal_book.specs.declared.view.Ended.{Ended}
use Rattle.fal_book.specs.Entries.{entries_of, StartsWith}
use Rattle.fal_book.specs.Steps.{ended_of}
use Rattle.fal_book.specs.Moves.{IsIdle, TookIn}
use Rattle.fal_book.specs.Sitting.{Sitting, sitting_of, seen_in, mine_in, setting_in, IsSat, IsClosed}
use Rattle.fal_book.specs.Gathers.{IsOwn, IsEnded, IsIn, Gathered}
use Rattle.std.proofs.lemmas.List.Elements.{All-nil, All-cons, All-weaker}
use Rattle.fal_book.specs.declared.view.Opening.{Opening}
use Rattle.fal_book.specs.Rule.{IsKept}
use Rattle.fal_book.proofs.Keeps.{some_same}
use Rattle.fal_book.proofs.Seats.{Closes, closes}

abbrev W : Type 0 → Type 0 → Type 0 → Type 0
W B E C = Me (Option B) (Option (Known E C))

module _ {B E C : Type 0} (actor : E → ℕ) (ok : C → List E → Type 0) where
  own_of : (p : Seat (Option B) (Option (Known E C))) (n looked : ℕ) (s : Sitting E C) → sitting_of p n looked ≡ s → (sat : IsSat actor ok p n looked) → IsOwn sat.1.1.0 s
  own_of p n looked s is sat = let r = sat.1.1.2 in let at = sat.1.1.1 in record {
    number = r.number ∙ ap (λ z. z.number) is;
    setting = ap setting_in (sym at) ∙ ap (λ z. z.setting) is;
    mine = ap mine_in (sym at) ∙ ap (λ z. z.mine) is;
    seen = ap seen_in (sym at) ∙ ap (λ z. z.seen) is;
  }

  me_of : (p : Seat (Option B) (Option (Known E C))) (n looked : ℕ) (sat : IsSat actor ok p n looked) → p.me ≡ (Some sat.1.1.0, [])
  me_of p n looked sat i = (sat.1.1.1 i, sat.1.0 i)

  pub gathers_one : (p : Seat (Option B) (Option (Known E C))) (n looked : ℕ) (s : Sitting E C) → sitting_of p n looked ≡ s → IsSat actor ok p n looked → Gathered (s ∷ []) p.me
  gathers_one p n looked s is sat = record {
    v = sat.1.1.0;
    is = me_of p n looked sat;
    ticket = sat.1.1.2.ticket;
    holding = sat.1.1.2.holding;
    count = omega arith;
    each = All-cons (IsIn sat.1.1.0) s [] (inl (own_of p n looked s is sat)) (All-nil (IsIn sat.1.1.0));
  }

  pub idle_one : (p : Seat (Option B) (Option (Known E C))) (n looked : ℕ) → IsSat actor ok p n looked → IsIdle p.me
  idle_one p n looked sat = (sat.1.1.0, me_of p n looked sat, sat.1.1.2.ticket, sat.1.1.2.holding)

  pub idle_all : (done : List (Sitting E C)) (me : W B E C) → Gathered done me → IsIdle me
  idle_all done me g = (g.v, g.is, g.ticket, g.holding)

  pub gathers_more : (done : List (Sitting E C)) (me after : W B E C) (q : Seat (Option B) (Option (Known E C))) (n looked : ℕ) (s : Sitting E C) → Gathered done me → sitting_of q n looked ≡ s → IsSat actor ok q n looked
      → TookIn me q.me after → Gathered (s ∷ done) after
  gathers_more done me after q n looked s g is sat took =
      let v = g.v in let w = sat.1.1.0 in let o = own_of q n looked s is sat in
      let x : Known E C = record v { ended = (v.ended ++ w.ended) ++ ended_of w ∷ [] } in
      let count = g.count in record {
        v = x;
        is = took v w g.is (me_of q n looked sat);
        ticket = g.ticket;
        holding = g.holding;
        count = omega (arith, length-append (v.ended ++ w.ended) (ended_of w ∷ []), length-append v.ended w.ended);
        each = All-cons (IsIn x) s done
            (inr (length (v.ended ++ w.ended), ended_of w, at_last (v.ended ++ w.ended) (ended_of w) (length (v.ended ++ w.ended)) refl, record { number = o.number; setting = o.setting; mine = o.mine; seen = o.seen }))
            (All-weaker (IsIn v) (IsIn x) (λ t h. ⊎_elim
            (λ (p : IsOwn v t). inl record { number = p.number; setting = p.setting; mine = p.mine; seen = p.seen })
            (λ (p : (k : ℕ) × (y : Ended E C) × (get_elem? v.ended k ≡ some y) × IsEnded y t).
            inr (p.0, p.1, at_longer (v.ended ++ w.ended) (ended_of w ∷ []) p.0 p.1 (at_longer v.ended w.ended p.0 p.1 p.2), p.3))
            h) done g.each);
      }

module _ {B E C : Type 0} (entries : B → List E) (setting : B → C) (actor : E → ℕ) (ok : C → List E → Type 0) (key : Opening B) where
  -- what the last state of the table says of the seat that took all others in, it says of all seats
  pub all_closed : (done : List (Sitting E C)) (me : Me (Option B) (Option (Known E C))) (g : Gathered done me) (b : B) → Closes entries setting actor ok key g.v b → All (IsClosed actor (setting b) (entries b)) done
  all_closed done me g b h = All-weaker (IsIn g.v) (IsClosed actor (setting b) (entries b))
      (λ s p. ⊎_elim
      (λ (o : IsOwn g.v s). record {
        setting = sym o.setting ∙ ap Some (sym h.setting_is);
        mine = sym o.mine ∙ (h.mine_is ∙ ap (λ z. entries_of actor z (entries b)) o.number);
        seen = subst (StartsWith (entries b)) o.seen h.seen_is;
      })
      (λ (o : (k : ℕ) × (w : Ended E C) × (get_elem? g.v.ended k ≡ some w) × IsEnded w s). let e = h.ended_are o.0 o.1 o.2 in record {
        setting = sym o.3.setting ∙ ap Some (e.0 ∙ sym h.setting_is);
        mine = sym o.3.mine ∙ (e.1 ∙ ap (λ z. entries_of actor z (entries b)) o.3.number);
        seen = subst (StartsWith (entries b)) o.3.seen e.2;
      })
      p)
      done g.each

  -- the book that comes back from the table
  pub closed_book : (ws : List ℕ) (xs : List (Option B)) (id : ℕ) (seats : List (Sitting E C)) (me : Me (Option B) (Option (Known E C))) → Gathered seats me → key.actors ≤ length seats
      → Final (Seen (IsKept entries setting actor ok key) id me.0) ws xs → (b : B) × (get_elem? xs 0 ≡ some (Some b)) × All (IsClosed actor (setting b) (entries b)) seats
  closed_book ws xs id seats me g all_in final =
      let last = subst (λ (z : Option (Known E C)). Final (Seen (IsKept entries setting actor ok key) id z) ws xs) (λ i. (g.is i).0) final in
      let count = g.count in
      let c = closes entries setting actor ok key ws xs id g.v g.holding (omega arith) last in (c.0, c.1, all_closed seats me g c.0 c.2)

  pub taken_book : (xs : List (Option B)) (b : B) (slot : Option B) → get_elem? xs 0 ≡ some (Some b) → get_elem? xs 0 ≡ some slot → slot ≡ Some b
  taken_book xs b slot e f = some-injective slot (Some b) (sym f ∙ e)

  pub closed_as : (xs : List (Option B)) (b book : B) (slot : Option B) (seats : List (Sitting E C)) → get_elem? xs 0 ≡ some (Some b) → get_elem? xs 0 ≡ some slot → slot ≡ Some book
      → All (IsClosed actor (setting b) (entries b)) seats → All (IsClosed actor (setting book) (entries book)) seats
  closed_as xs b book slot seats e f g h = subst (λ z. All (IsClosed actor (setting z) (entries z)) seats) (some_same b book (sym (taken_book xs b slot e f) ∙ g)) h
