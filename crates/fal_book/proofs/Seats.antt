-- Seats are made, given back, and the lock is opened and closed.
use Rattle.std.proofs.Common.{◌≡◌, ◌≢◌, inl, inr, ⊎_elim, ℕ, ◌+◌, ◌%◌, ◌<◌, ◌≤◌, ◌^◌, List, [], ◌∷◌, ◌++◌, length, set, sym, refl, ap, ap₂, ◌∙◌, subst, arith, length-append, length-set}
use Rattle.std.specs.Prelude.{Option, Some, None}
use mathlib.Core.Option.{some, some-ne-none}
use lib.ListN.{get_elem?}
use Rattle.atomic_table.specs.Table.{State, Splits, Joins, Final, Seen, opening}
use Rattle.atomic_table.proofs.Lists.{at_set, set_here, set_else, at_longer}
use Rattle.fal_book.specs.declared.view.Known.{Known}
use Rattle.fal_book.specs.declared.view.Ended.{Ended}
use Rattle.fal_book.specs.declared.view.Opening.{Opening}
use Rattle.fal_book.specs.Entries.{entries_of, StartsWith}
use Rattle.fal_book.specs.Rule.{total, ticket_count, seat_count, IsLive, FitsEnded, FitsFirst, Fits, IsAtHome, IsOut, IsKept}
use Rattle.fal_book.specs.Steps.{opening_view, view_after_split, new_view, ended_of, joint_view}
use Rattle.fal_book.proofs.Lists.{total_set, total_append, one_has_all, at_inside, at_end, at_either, starts_here}
use Rattle.fal_book.proofs.Keeps.{some_same, some_is_none, same_live, live_set, all_live, apart_set, spent_stays, ended_stays, first_stays, no_tickets}

module _ {E C : Type 0} where
  -- what holds of all seats, and of a new one at the end, holds of all
  all_longer : (vs : List (Option (Known E C))) (v : Known E C) (P : ℕ → Known E C → Type 0) → P (length vs) v → ((j : ℕ) (w : Known E C) → IsLive vs j w → P j w)
      → (j : ℕ) (w : Known E C) → IsLive (vs ++ Some v ∷ []) j w → P j w
  all_longer vs v P own others j w e = ⊎_elim (λ h. others j w h)
      (λ (t : (j ≡ length vs) × (Some v ≡ Some w)). subst (λ (x : ℕ × Known E C). P x.0 x.1) (λ i. (sym t.0 i, some_same v w t.1 i)) own)
      (at_end vs (Some v) (Some w) j e)

  -- what holds of the seat that took another in, and of each third one, holds of all
  all_joined : (vs : List (Option (Known E C))) (id other : ℕ) (v : Known E C) (P : ℕ → Known E C → Type 0) → P id v → ((j : ℕ) (w : Known E C) → j ≢ id → j ≢ other → IsLive vs j w → P j w)
      → (j : ℕ) (w : Known E C) → IsLive (set (set vs id (Some v)) other None) j w → P j w
  all_joined vs id other v P own others j w e = ⊎_elim
      (λ (t : (j ≡ other) × (None ≡ Some w)). absurd (let h = t.1 in cc))
      (λ (t : (j ≢ other) × IsLive (set vs id (Some v)) j w). ⊎_elim
      (λ (u : (j ≡ id) × (v ≡ w)). subst (λ (x : ℕ × Known E C). P x.0 x.1) (λ i. (sym u.0 i, u.1 i)) own)
      (λ (u : (j ≢ id) × IsLive vs j w). others j w u.0 t.0 u.1)
      (live_set vs id j v w t.1))
      (at_set (set vs id (Some v)) other j None (Some w) e)

module _ {B E C : Type 0} (entries : B → List E) (setting : B → C) (actor : E → ℕ) (ok : C → List E → Type 0) (key : Opening B) where
  abbrev V : Type 0
  V = Option (Known E C)

  abbrev Rule : State (Option B) V → Type 0
  Rule = IsKept entries setting actor ok key

  pub splits : (id : ℕ) (v : Known E C) → v.number ≡ 0 → v.ticket ≡ None → v.holding ≡ None → v.made < key.actors
      → Splits Rule id (Some v) (view_after_split entries setting actor (Some v)) (new_view entries setting actor (Some v))
  splits id v is_first free idle room s r at =
      let left : Known E C = record v { made = v.made + 1 } in
      let right : Known E C = record { number = v.made; setting = v.setting; seen = v.opening; mine = entries_of actor v.made v.opening; ticket = None; holding = None; ended = []; opening = []; made = 0 } in
      let ws : List V = set s.views id (Some left) in
      let vs : List V = ws ++ Some right ∷ [] in
      let long : length ws ≡ length s.views = length-set s.views id (Some left) in
      let longer : length vs ≡ length s.views + 1 = omega (arith, length-append ws (Some right ∷ [])) in
      let f = r.each id v at in
      let g = f.first is_first in
      let made = g.made in
      let inside = at_inside s.views id (Some v) at in
      let counted = total_set ticket_count s.views id (Some v) (Some left) at in
      let same : total ticket_count vs ≡ total ticket_count s.views = omega (arith, total_append ticket_count ws (Some right ∷ [])) in
      let gone : (n : ℕ) → get_elem? s.views n ≡ some None → (get_elem? vs n ≡ some None) × (entries_of actor n r.log ≡ entries_of actor n r.log) =
      λ n e. (at_longer ws (Some right ∷ []) n None (spent_stays s.views id n v left at e), refl) in
      let stays : (w : Ended E C) → FitsEnded actor r.c r.log s.views w → FitsEnded actor r.c r.log vs w = λ w. ended_stays actor r.c r.log r.log s.views vs w (starts_here r.log) (gone w.number) in
      record {
        c = r.c;
        log = r.log;
        passed = r.passed;
        drawn = r.drawn;
        words = r.words;
        passed_small = r.passed_small;
        seats = omega arith;
        few = r.few;
        waiting = r.waiting ∙ ap (λ z. (r.passed + z) % 2 ^ 64) (sym same);
        ticket = all_longer ws right (λ j u. (t : ℕ) → u.ticket ≡ Some t → (k : ℕ) × (k < total ticket_count vs) × (t ≡ (r.passed + k) % 2 ^ 64))
            (λ t e. some_is_none right.ticket t e refl)
            (all_live s.views id left (λ j u. (t : ℕ) → u.ticket ≡ Some t → (k : ℕ) × (k < total ticket_count vs) × (t ≡ (r.passed + k) % 2 ^ 64))
            (λ t e. some_is_none left.ticket t e free)
            (λ j u _ there t e. let h = r.ticket j u there t e in (h.0, omega arith, h.2)));
        apart = λ i j u x t at_i at_j a b.
            all_longer ws right (λ i u. u.ticket ≡ Some t → i ≡ j) (λ e. some_is_none right.ticket t e refl)
            (λ i u here e.
            all_longer ws right (λ j x. x.ticket ≡ Some t → i ≡ j) (λ e. some_is_none right.ticket t e refl)
            (λ j x there f. apart_set s.views id left (λ _ _ t _ _ a _. some_is_none left.ticket t a free) r.apart i j u x t here there e f)
            j x at_j b)
            i u at_i a;
        holding = all_longer ws right (λ j u. (h : List E) → u.holding ≡ Some h → (u.ticket ≡ Some r.passed) × (h ≡ r.log))
            (λ h e. some_is_none right.holding h e refl)
            (all_live s.views id left (λ j u. (h : List E) → u.holding ≡ Some h → (u.ticket ≡ Some r.passed) × (h ≡ r.log))
            (λ h e. some_is_none left.holding h e idle)
            (λ j u _ there h e. r.holding j u there h e));
        book = ⊎_elim
            (λ (p : IsAtHome entries setting actor ok r.c r.log s).
            inl (p.0, p.1, p.2, p.3, all_longer ws right (λ j u. u.holding ≡ None) refl (all_live s.views id left (λ j u. u.holding ≡ None) idle (λ j u _ there. p.4 j u there))))
            (λ (p : IsOut entries setting actor ok r.log s). inr (
              p.0,
              p.1,
              p.2,
              at_longer ws (Some right ∷ []) p.0 (Some p.1) (set_else s.views id p.0 (Some left) (λ same. let one : p.1 ≡ v = same_live s.views id p.1 v (subst (λ z. IsLive s.views z p.1) same p.3) at in some_is_none p.1.holding r.log p.4 (ap (λ (z : Known E C). z.holding) one ∙ idle)) ∙ p.3),
              p.4,
            ))
            r.book;
        sound = r.sound;
        each = all_longer ws right (Fits actor r.c r.log vs)
            (let here : v.made ≡ length ws = made ∙ sym long in record {
              number = here;
              setting = f.setting;
              seen = g.opening;
              mine = sym (g.unmade v.made (omega arith)) ∙ ap (λ z. entries_of actor z r.log) here;
              mine_seen = ap (λ z. entries_of actor z v.opening) here;
              ended = λ k w e. absurd (some-ne-none w (sym e));
              first = λ z. absurd (omega arith);
            })
            (all_live s.views id left (Fits actor r.c r.log vs)
            record {
              number = f.number;
              setting = f.setting;
              seen = f.seen;
              mine = f.mine;
              mine_seen = f.mine_seen;
              ended = λ k w e. stays w (f.ended k w e);
              first = λ z. record { made = omega arith; opening = g.opening; unmade = λ n far. g.unmade n (omega arith) };
            }
            (λ j u differ there. let h = r.each j u there in record {
              number = h.number;
              setting = h.setting;
              seen = h.seen;
              mine = h.mine;
              mine_seen = h.mine_seen;
              ended = λ k w e. stays w (h.ended k w e);
              first = λ z. absurd (differ (sym h.number ∙ (z ∙ (sym is_first ∙ f.number))));
            }));
        whole = let a = r.whole in omega (arith, total_set seat_count s.views id (Some v) (Some left) at, total_append seat_count ws (Some right ∷ []));
      }

  pub joins : (id other : ℕ) (v w : Known E C) → v.ticket ≡ None → v.holding ≡ None → w.ticket ≡ None → w.holding ≡ None
      → Joins Rule id (Some v) other (Some w) (joint_view (Some v) (Some w)) None
  joins id other v w free idle free_too idle_too s r at apart at_other =
      let x : Ended E C = ended_of w in
      let kept : Known E C = record v { ended = (v.ended ++ w.ended) ++ x ∷ [] } in
      let ws : List V = set s.views id (Some kept) in
      let vs : List V = set ws other None in
      let there : IsLive s.views other w = sym (set_else s.views id other (Some kept) apart) ∙ at_other in
      let long : length vs ≡ length s.views = length-set ws other None ∙ length-set s.views id (Some kept) in
      let inside : other < length ws = at_inside ws other (Some w) at_other in
      let f = r.each id v at in
      let g = r.each other w there in
      let none_of_v = no_tickets v free in
      let none_of_w = no_tickets w free_too in
      let counted = total_set ticket_count s.views id (Some v) (Some kept) at in
      let counted_too = total_set ticket_count ws other (Some w) None at_other in
      let same : total ticket_count vs ≡ total ticket_count s.views = omega arith in
      let spent : (n : ℕ) → get_elem? s.views n ≡ some None → get_elem? vs n ≡ some None = λ n e.
      set_else ws other n None (λ here. absurd (let h : some (Some w) ≡ some None = sym there ∙ (ap (get_elem? s.views) (sym here) ∙ e) in cc)) ∙ spent_stays s.views id n v kept at e in
      let stays : (y : Ended E C) → FitsEnded actor r.c r.log s.views y → FitsEnded actor r.c r.log vs y = λ y. ended_stays actor r.c r.log r.log s.views vs y (starts_here r.log) (λ e. (spent y.number e, refl)) in
      let gives_back : FitsEnded actor r.c r.log vs x = record {
        setting = g.setting;
        mine = g.mine ∙ ap (λ z. entries_of actor z r.log) (sym g.number);
        seen = g.seen;
        spent = ap (get_elem? vs) g.number ∙ set_here ws other None inside;
      } in
      let first_kept : (u : Known E C) → FitsFirst actor r.c r.log s.views u → FitsFirst actor r.c r.log vs u = λ u. first_stays actor r.c r.log r.log s.views vs u (starts_here r.log) long (λ n _. refl) in
      record {
        c = r.c;
        log = r.log;
        passed = r.passed;
        drawn = r.drawn;
        words = r.words;
        passed_small = r.passed_small;
        seats = let a = r.seats in omega arith;
        few = r.few;
        waiting = r.waiting ∙ ap (λ z. (r.passed + z) % 2 ^ 64) (sym same);
        ticket = all_joined s.views id other kept (λ j u. (t : ℕ) → u.ticket ≡ Some t → (k : ℕ) × (k < total ticket_count vs) × (t ≡ (r.passed + k) % 2 ^ 64))
            (λ t e. some_is_none v.ticket t e free)
            (λ j u _ _ here t e. let h = r.ticket j u here t e in (h.0, omega arith, h.2));
        apart = λ i j u y t at_i at_j a b.
            all_joined s.views id other kept (λ i u. u.ticket ≡ Some t → i ≡ j) (λ e. some_is_none v.ticket t e free)
            (λ i u _ _ here e.
            all_joined s.views id other kept (λ j y. y.ticket ≡ Some t → i ≡ j) (λ e. some_is_none v.ticket t e free)
            (λ j y _ _ here_too f. r.apart i j u y t here here_too e f)
            j y at_j b)
            i u at_i a;
        holding = all_joined s.views id other kept (λ j u. (h : List E) → u.holding ≡ Some h → (u.ticket ≡ Some r.passed) × (h ≡ r.log))
            (λ h e. some_is_none v.holding h e idle)
            (λ j u _ _ here h e. r.holding j u here h e);
        book = ⊎_elim
            (λ (p : IsAtHome entries setting actor ok r.c r.log s). inl (p.0, p.1, p.2, p.3, all_joined s.views id other kept (λ j u. u.holding ≡ None) idle (λ j u _ _ here. p.4 j u here)))
            (λ (p : IsOut entries setting actor ok r.log s).
            let is_not : (n : ℕ) (u : Known E C) → IsLive s.views n u → u.holding ≡ None → p.0 ≢ n = λ n u here rests same.
            let one : p.1 ≡ u = same_live s.views n p.1 u (subst (λ z. IsLive s.views z p.1) same p.3) here in some_is_none p.1.holding r.log p.4 (ap (λ (z : Known E C). z.holding) one ∙ rests) in
            inr (
              p.0,
              p.1,
              p.2,
              set_else ws other p.0 None (is_not other w there idle_too) ∙ (set_else s.views id p.0 (Some kept) (is_not id v at idle) ∙ p.3),
              p.4,
            ))
            r.book;
        sound = r.sound;
        each = all_joined s.views id other kept (Fits actor r.c r.log vs)
            record {
              number = f.number;
              setting = f.setting;
              seen = f.seen;
              mine = f.mine;
              mine_seen = f.mine_seen;
              ended = λ k y e. ⊎_elim
                  (λ h. ⊎_elim (λ h. stays y (f.ended k y h)) (λ (t : (i : ℕ) × (get_elem? w.ended i ≡ some y)). stays y (g.ended t.0 y t.1)) (at_either v.ended w.ended y k h))
                  (λ (t : (k ≡ length (v.ended ++ w.ended)) × (x ≡ y)). subst (FitsEnded actor r.c r.log vs) t.1 gives_back)
                  (at_end (v.ended ++ w.ended) x y k e);
              first = λ z. let h = first_kept v (f.first z) in record { made = h.made; opening = h.opening; unmade = h.unmade };
            }
            (λ j u _ _ here. let h = r.each j u here in record {
              number = h.number;
              setting = h.setting;
              seen = h.seen;
              mine = h.mine;
              mine_seen = h.mine_seen;
              ended = λ k y e. stays y (h.ended k y e);
              first = λ z. first_kept u (h.first z);
            });
        whole = let a = r.whole in omega (
          arith,
          total_set seat_count s.views id (Some v) (Some kept) at,
          total_set seat_count ws other (Some w) None at_other,
          length-append (v.ended ++ w.ended) (x ∷ []),
          length-append v.ended w.ended,
        );
      }

  -- the table at the start
  pub starts : (b : B) → key.book.value ≡ b → 0 < key.actors → key.actors < 256 → ok (setting b) (entries b)
      → Rule (opening (0 ∷ 0 ∷ []) (Some b ∷ []) (opening_view entries setting actor key))
  starts b is some_actor few sound =
      let v : Known E C = record {
        number = 0;
        setting = setting key.book.value;
        seen = entries key.book.value;
        mine = entries_of actor 0 (entries key.book.value);
        ticket = None;
        holding = None;
        ended = [];
        opening = entries key.book.value;
        made = 1;
      } in
      let only : (P : ℕ → Known E C → Type 0) → P 0 v → (j : ℕ) (u : Known E C) → IsLive (Some v ∷ []) j u → P j u = λ P own. all_longer [] v P own (λ j u e. absurd (some-ne-none (Some u) (sym e))) in
      record {
        c = setting key.book.value;
        log = entries key.book.value;
        passed = 0;
        drawn = 0;
        words = refl;
        passed_small = omega arith;
        seats = some_actor;
        few = few;
        waiting = refl;
        ticket = only (λ j u. (t : ℕ) → u.ticket ≡ Some t → (k : ℕ) × (k < total ticket_count (Some v ∷ [])) × (t ≡ (0 + k) % 2 ^ 64)) (λ t e. some_is_none v.ticket t e refl);
        apart = λ i j u x t at_i at_j a b. only (λ i u. u.ticket ≡ Some t → i ≡ j) (λ e. some_is_none v.ticket t e refl) i u at_i a;
        holding = only (λ j u. (h : List E) → u.holding ≡ Some h → (u.ticket ≡ Some 0) × (h ≡ entries key.book.value)) (λ h e. some_is_none v.holding h e refl);
        book = inl (b, refl, ap entries (sym is), ap setting (sym is), only (λ j u. u.holding ≡ None) refl);
        sound = subst (λ z. ok (setting z) (entries z)) (sym is) sound;
        each = only (Fits actor (setting key.book.value) (entries key.book.value) (Some v ∷ [])) record {
          number = refl;
          setting = refl;
          seen = starts_here v.seen;
          mine = refl;
          mine_seen = refl;
          ended = λ k w e. absurd (some-ne-none w (sym e));
          first = λ _. record { made = refl; opening = starts_here v.opening; unmade = λ n _. refl };
        };
        whole = refl;
      }

  -- the table at the end, where one seat took all others in
  pub record Closes (v : Known E C) (b : B) : Type 0 where
    pub setting_is : setting b ≡ v.setting
    pub seen_is : StartsWith (entries b) v.seen
    pub mine_is : v.mine ≡ entries_of actor v.number (entries b)
    pub ended_are : (k : ℕ) (w : Ended E C) → get_elem? v.ended k ≡ some w → (w.setting ≡ v.setting) × (w.mine ≡ entries_of actor w.number (entries b)) × StartsWith (entries b) w.seen

  pub closes : (ws : List ℕ) (xs : List (Option B)) (id : ℕ) (v : Known E C) → v.holding ≡ None → key.actors ≤ 1 + length v.ended → Final (Seen Rule id (Some v)) ws xs
      → (b : B) × (get_elem? xs 0 ≡ some (Some b)) × Closes v b
  closes ws xs id v idle all_in final =
      let s = final.0 in let r = final.1.0 in let at = final.1.1 in let f = r.each id v at in
      ⊎_elim
      (λ (p : IsAtHome entries setting actor ok r.c r.log s). (
        p.0,
        final.4 0 (Some p.0) (ap (λ hs. get_elem? hs 0) p.1),
        record {
          setting_is = p.3 ∙ sym f.setting;
          seen_is = subst (λ z. StartsWith z v.seen) (sym p.2) f.seen;
          mine_is = f.mine ∙ ap₂ (entries_of actor) (sym f.number) (sym p.2);
          ended_are = λ k w e. let h = f.ended k w e in (h.setting ∙ sym f.setting, h.mine ∙ ap (entries_of actor w.number) (sym p.2), subst (λ z. StartsWith z w.seen) (sym p.2) h.seen);
        },
      ))
      (λ (p : IsOut entries setting actor ok r.log s).
      let differ : id ≢ p.0 = λ same. let one : p.1 ≡ v = same_live s.views id p.1 v (subst (λ z. IsLive s.views z p.1) (sym same) p.3) at in some_is_none p.1.holding r.log p.4 (ap (λ (z : Known E C). z.holding) one ∙ idle) in
      let both = one_has_all seat_count s.views id p.0 (Some v) (Some p.1) at p.3 differ in
      let a = r.whole in let b = r.seats in absurd (omega arith))
      r.book
