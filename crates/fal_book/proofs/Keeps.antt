-- Each step keeps the rule.
use Rattle.std.proofs.Common.{◌≡◌, ◌≢◌, ◌⊎◌, inl, inr, ⊎_elim, ℕ, ◌+◌, ◌-◌, ◌%◌, ◌<◌, ◌≤◌, ◌^◌, List, [], ◌∷◌, ◌++◌, length, get_or, set, sym, refl, ap, ap₂, ◌∙◌, subst, arith, length-set}
use Rattle.std.specs.Prelude.{Option, Some, None}
use Rattle.std.proofs.Math.Nat.{mod-lt}
use mathlib.Core.Option.{some, none, some-injective, some-ne-none}
use mathlib.Core.Option as maybe
use mathlib.Core.Logic.{dite}
use native.Mathlib.Decide.{ℕ_discrete}
use lib.ListN.{get_elem?}
use Rattle.atomic_table.specs.Table.{State, Me, Act, keeps, takes, gives, Valid, homes_after, carried_after, Allows}
use Rattle.atomic_table.proofs.Lists.{at_set, set_here, set_else, set_again}
use Rattle.fal_book.specs.declared.view.Known.{Known}
use Rattle.fal_book.specs.declared.view.Ended.{Ended}
use Rattle.fal_book.specs.declared.view.Opening.{Opening}
use Rattle.fal_book.specs.Entries.{entries_of, StartsWith}
use Rattle.fal_book.specs.Rule.{total, count_in, ticket_count, seat_count, IsLive, FitsEnded, FitsFirst, Fits, IsAtHome, IsOut, IsKept}
use Rattle.fal_book.specs.Steps.{Draws, Finds, Sees, view_after_turn, Passes, Grown}
use Rattle.fal_book.proofs.Lists.{none_or, total_set, total_below, at_inside, starts_here, starts_on, entries_of-other, ring_apart, ring_step, ring_more, ring_back, ring_off}

pub some_same : {A : Type 0} (a b : A) → Some a ≡ Some b → a ≡ b
some_same a b e = cc

abbrev or_else : {B : Type 0} → B → Option B → B
or_else d None = d
or_else d (Some b) = b

-- the book in the hand, or another
abbrev held : {B : Type 0} → B → List (ℕ × Option B) → B
held d [] = d
held d (x ∷ xs) = or_else d x.1

pub some_is_none : {A X : Type 0} (o : Option A) (a : A) → o ≡ Some a → o ≡ None → X
some_is_none o a p q = absurd (let e : Some a ≡ None = sym p ∙ q in cc)

module _ {E C : Type 0} where
  one_ticket : (v : Option (Known E C)) → ticket_count v ≤ 1
  one_ticket None = omega arith
  one_ticket (Some v) = elim v.ticket as (λ t. count_in t ≤ 1) [ None ↦ omega arith | Some t ↦ omega arith ]

  -- two views at one place are one
  pub same_live : (vs : List (Option (Known E C))) (id : ℕ) (v w : Known E C) → IsLive vs id v → IsLive vs id w → v ≡ w
  same_live vs id v w a b = some_same v w (some-injective (Some v) (Some w) (sym a ∙ b))

  pub live_set : (vs : List (Option (Known E C))) (id j : ℕ) (v w : Known E C) → IsLive (set vs id (Some v)) j w → ((j ≡ id) × (v ≡ w)) ⊎ ((j ≢ id) × IsLive vs j w)
  live_set vs id j v w e = ⊎_elim (λ (t : (j ≡ id) × (Some v ≡ Some w)). inl (t.0, some_same v w t.1)) (λ t. inr t) (at_set vs id j (Some v) (Some w) e)

  -- what holds of the seat with its new view, and of each other seat, holds of all
  pub all_live : (vs : List (Option (Known E C))) (id : ℕ) (v : Known E C) (P : ℕ → Known E C → Type 0) → P id v → ((j : ℕ) (w : Known E C) → j ≢ id → IsLive vs j w → P j w)
      → (j : ℕ) (w : Known E C) → IsLive (set vs id (Some v)) j w → P j w
  all_live vs id v P own others j w e = ⊎_elim (λ (t : (j ≡ id) × (v ≡ w)). subst (λ (x : ℕ × Known E C). P x.0 x.1) (λ i. (sym t.0 i, t.1 i)) own)
      (λ (t : (j ≢ id) × IsLive vs j w). others j w t.0 t.1) (live_set vs id j v w e)

  -- a seat that was given back stays so where another view changes
  pub spent_stays : (vs : List (Option (Known E C))) (id n : ℕ) (v w : Known E C) → IsLive vs id v → get_elem? vs n ≡ some None → get_elem? (set vs id (Some w)) n ≡ some None
  spent_stays vs id n v w at e = set_else vs id n (Some w) (λ same. absurd (let h : some (Some v) ≡ some None = sym at ∙ (ap (get_elem? vs) (sym same) ∙ e) in cc)) ∙ e

  tickets_of : (v : Known E C) (t : ℕ) → v.ticket ≡ Some t → ticket_count (Some v) ≡ 1
  tickets_of v t e = ap count_in e

  pub no_tickets : (v : Known E C) → v.ticket ≡ None → ticket_count (Some v) ≡ 0
  no_tickets v e = ap count_in e

module _ {E : Type 0} (actor : E → ℕ) where
  grown_starts : (n : ℕ) (xs ys : List E) → Grown actor n xs ys → StartsWith ys xs
  grown_starts n xs ys g = ⊎_elim (λ (p : ys ≡ xs). subst (λ z. StartsWith z xs) (sym p) (starts_here xs)) (λ (p : (e : E) × (actor e ≡ n) × (ys ≡ xs ++ e ∷ [])). record { rest = p.0 ∷ []; is = p.2 }) g

  grown_other : (n m : ℕ) (xs ys : List E) → m ≢ n → Grown actor n xs ys → entries_of actor m ys ≡ entries_of actor m xs
  grown_other n m xs ys differ g = ⊎_elim (λ (p : ys ≡ xs). ap (entries_of actor m) p)
      (λ (p : (e : E) × (actor e ≡ n) × (ys ≡ xs ++ e ∷ [])). ap (entries_of actor m) p.2 ∙ entries_of-other actor m xs p.0 (λ same. differ (sym same ∙ p.1))) g

module _ {E C : Type 0} (actor : E → ℕ) (c : C) where
  pub ended_stays : (log log' : List E) (vs vs' : List (Option (Known E C))) (w : Ended E C) → StartsWith log' log
      → (get_elem? vs w.number ≡ some None → (get_elem? vs' w.number ≡ some None) × (entries_of actor w.number log' ≡ entries_of actor w.number log))
      → FitsEnded actor c log vs w → FitsEnded actor c log' vs' w
  ended_stays log log' vs vs' w more stays f = let now = stays f.spent in
      record { setting = f.setting; mine = f.mine ∙ sym now.1; seen = starts_on w.seen log log' f.seen more; spent = now.0 }

  pub first_stays : (log log' : List E) (vs vs' : List (Option (Known E C))) (v : Known E C) → StartsWith log' log → length vs' ≡ length vs
      → ((n : ℕ) → length vs ≤ n → entries_of actor n log' ≡ entries_of actor n log) → FitsFirst actor c log vs v → FitsFirst actor c log' vs' v
  first_stays log log' vs vs' v more same rest f = let made = f.made in record {
    made = f.made ∙ sym same;
    opening = starts_on v.opening log log' f.opening more;
    unmade = λ n h. rest n (omega arith) ∙ f.unmade n h;
  }

  -- what stays so of a seat, whatever is done by another
  fits_stays : (log log' : List E) (vs vs' : List (Option (Known E C))) (id : ℕ) (v : Known E C) → StartsWith log' log → length vs' ≡ length vs
      → ((n : ℕ) → get_elem? vs n ≡ some None → (get_elem? vs' n ≡ some None) × (entries_of actor n log' ≡ entries_of actor n log))
      → ((n : ℕ) → length vs ≤ n → entries_of actor n log' ≡ entries_of actor n log) → entries_of actor id log' ≡ entries_of actor id log
      → Fits actor c log vs id v → Fits actor c log' vs' id v
  fits_stays log log' vs vs' id v more same gone rest own f = record {
    number = f.number;
    setting = f.setting;
    seen = starts_on v.seen log log' f.seen more;
    mine = f.mine ∙ sym own;
    mine_seen = f.mine_seen;
    ended = λ k w at. ended_stays log log' vs vs' w more (gone w.number) (f.ended k w at);
    first = λ z. first_stays log log' vs vs' v more same rest (f.first z);
  }

  refit : (log : List E) (vs : List (Option (Known E C))) (id : ℕ) (v : Known E C) (t : Option ℕ) (h : Option (List E)) → Fits actor c log vs id v
      → Fits actor c log vs id (record v { ticket = t; holding = h })
  refit log vs id v t h f = record {
    number = f.number;
    setting = f.setting;
    seen = f.seen;
    mine = f.mine;
    mine_seen = f.mine_seen;
    ended = f.ended;
    first = λ z. let g = f.first z in record { made = g.made; opening = g.opening; unmade = g.unmade };
  }

module _ {E C : Type 0} where
  abbrev pub AreApart : List (Option (Known E C)) → Type 0
  AreApart vs = (i j : ℕ) (v w : Known E C) (t : ℕ) → IsLive vs i v → IsLive vs j w → v.ticket ≡ Some t → w.ticket ≡ Some t → i ≡ j

  pub apart_set : (vs : List (Option (Known E C))) (id : ℕ) (v : Known E C) → ((j : ℕ) (w : Known E C) (t : ℕ) → j ≢ id → IsLive vs j w → v.ticket ≡ Some t → w.ticket ≡ Some t → ⊥)
      → AreApart vs → AreApart (set vs id (Some v))
  apart_set vs id v fresh r i j u x t at_i at_j a b =
      ⊎_elim (λ (p : (i ≡ id) × (v ≡ u)).
      ⊎_elim (λ (q : (j ≡ id) × (v ≡ x)). p.0 ∙ sym q.0)
      (λ (q : (j ≢ id) × IsLive vs j x). absurd (fresh j x t q.0 q.1 (ap (λ (z : Known E C). z.ticket) p.1 ∙ a) b))
      (live_set vs id j v x at_j))
      (λ (p : (i ≢ id) × IsLive vs i u).
      ⊎_elim (λ (q : (j ≡ id) × (v ≡ x)). absurd (fresh i u t p.0 p.1 (ap (λ (z : Known E C). z.ticket) q.1 ∙ b) a))
      (λ (q : (j ≢ id) × IsLive vs j x). r i j u x t p.1 q.1 a b)
      (live_set vs id j v x at_j))
      (live_set vs id i v u at_i)

module _ {B E C : Type 0} (entries : B → List E) (setting : B → C) (actor : E → ℕ) (ok : C → List E → Type 0) (key : Opening B) where
  abbrev V : Type 0
  V = Option (Known E C)

  abbrev St : Type 0
  St = State (Option B) V

  abbrev Rule : St → Type 0
  Rule = IsKept entries setting actor ok key

  abbrev M : Type 0
  M = Me (Option B) V

  few_tickets : (s : St) → Rule s → total ticket_count s.views < 256
  few_tickets s r = let a = r.seats in let b = r.few in let t = total_below ticket_count s.views one_ticket in omega arith

  -- where one live view changes and the list does not, what fitted fits
  fits_here : (s : St) (r : Rule s) (id : ℕ) (v w : Known E C) → IsLive s.views id v → (j : ℕ) (u : Known E C) → IsLive s.views j u → Fits actor r.c r.log (set s.views id (Some w)) j u
  fits_here s r id v w at j u there = fits_stays actor r.c r.log r.log s.views (set s.views id (Some w)) j u (starts_here r.log) (length-set s.views id (Some w))
      (λ n e. (spent_stays s.views id n v w at e, refl)) (λ n _. refl) refl (r.each j u there)

  -- a seat draws a ticket
  drawn_on : (s : St) (r : Rule s) (id : ℕ) (v : Known E C) → IsLive s.views id v → v.ticket ≡ None → v.holding ≡ None
      → Rule record { words = r.passed ∷ (r.drawn + 1) % 2 ^ 64 ∷ []; homes = s.homes; views = set s.views id (Some (record v { ticket = Some r.drawn })) }
  drawn_on s r id v at free idle =
      let w : Known E C = record v { ticket = Some r.drawn } in
      let n : ℕ = total ticket_count s.views in
      let few = few_tickets s r in
      let counted = total_set ticket_count s.views id (Some v) (Some w) at in
      let none_before = no_tickets v free in
      let more : total ticket_count (set s.views id (Some w)) ≡ n + 1 = omega arith in
      let inside = at_inside s.views id (Some v) at in record {
        c = r.c;
        log = r.log;
        passed = r.passed;
        drawn = (r.drawn + 1) % 2 ^ 64;
        words = refl;
        passed_small = r.passed_small;
        seats = let a = r.seats in omega (arith, length-set s.views id (Some w));
        few = r.few;
        waiting = ring_more (2 ^ 64) r.drawn r.passed n r.waiting ∙ ap (λ z. (r.passed + z) % 2 ^ 64) (sym more);
        ticket = all_live s.views id w (λ j u. (t : ℕ) → u.ticket ≡ Some t → (k : ℕ) × (k < total ticket_count (set s.views id (Some w))) × (t ≡ (r.passed + k) % 2 ^ 64))
            (λ t e. (n, omega arith, sym (some_same r.drawn t e) ∙ r.waiting))
            (λ j u _ there t e. let h = r.ticket j u there t e in (h.0, omega arith, h.2));
        apart = apart_set s.views id w (λ j u t other there a b. let h = r.ticket j u there t b in
            ring_apart (2 ^ 64) r.passed h.0 n h.1 (omega arith) (sym h.2 ∙ (sym (some_same r.drawn t a) ∙ r.waiting))) r.apart;
        holding = all_live s.views id w (λ j u. (h : List E) → u.holding ≡ Some h → (u.ticket ≡ Some r.passed) × (h ≡ r.log))
            (λ h e. some_is_none v.holding h e idle)
            (λ j u _ there h e. r.holding j u there h e);
        book = ⊎_elim
            (λ (p : IsAtHome entries setting actor ok r.c r.log s). inl (p.0, p.1, p.2, p.3, all_live s.views id w (λ j u. u.holding ≡ None) idle (λ j u _ there. p.4 j u there)))
            (λ (p : IsOut entries setting actor ok r.log s). inr (
              p.0,
              p.1,
              p.2,
              set_else s.views id p.0 (Some w) (λ same. let one : p.1 ≡ v = same_live s.views id p.1 v (subst (λ z. IsLive s.views z p.1) same p.3) at in some_is_none p.1.holding r.log p.4 (ap (λ (z : Known E C). z.holding) one ∙ idle)) ∙ p.3,
              p.4,
            ))
            r.book;
        sound = r.sound;
        each = all_live s.views id w (Fits actor r.c r.log (set s.views id (Some w)))
            (refit actor r.c r.log (set s.views id (Some w)) id v (Some r.drawn) v.holding (fits_here s r id v w at id v at))
            (λ j u _ there. fits_here s r id v w at j u there);
        whole = let a = r.whole in omega (arith, total_set seat_count s.views id (Some v) (Some w) at, length-set s.views id (Some w));
      }

  pub draws : (slots id : ℕ) (v : Known E C) (cs : List (ℕ × Option B)) → v.ticket ≡ None → v.holding ≡ None
      → Allows Rule slots id (Some v, cs) 1 (λ n. (n + 1) % 2 ^ 64) (Draws entries setting actor (Some v, cs))
  draws slots id v cs free idle s r _ at _ =
      let P : List ℕ → Type 0 = λ ws. (w : V) × (a : Act (Option B)) × Valid s.homes cs a
      × Rule record { words = set ws 1 ((get_or ws 1 0 + 1) % 2 ^ 64); homes = homes_after s.homes cs a; views = set s.views id w }
      × Draws entries setting actor (Some v, cs) (get_or ws 1 0) (w, carried_after cs a) in
      subst P (sym r.words) (
        Some (record v { ticket = Some r.drawn }),
        keeps,
        tt,
        drawn_on s r id v at free idle,
        λ u e. ap (λ (z : Known E C). (Some (record z { ticket = Some r.drawn }), cs)) (some_same v u e),
      )

  -- the seat takes the book, where it is at home
  taken : (s : St) (r : Rule s) (id : ℕ) (v : Known E C) → IsLive s.views id v → v.ticket ≡ Some r.passed
      → Rule record { words = r.passed ∷ r.drawn ∷ []; homes = none ∷ []; views = set s.views id (Some (record v { holding = Some r.log })) }
  taken s r id v at mine =
      let w : Known E C = record v { holding = Some r.log } in
      let counted = total_set ticket_count s.views id (Some v) (Some w) at in
      let same : total ticket_count (set s.views id (Some w)) ≡ total ticket_count s.views = omega arith in
      let inside = at_inside s.views id (Some v) at in record {
        c = r.c;
        log = r.log;
        passed = r.passed;
        drawn = r.drawn;
        words = refl;
        passed_small = r.passed_small;
        seats = let a = r.seats in omega (arith, length-set s.views id (Some w));
        few = r.few;
        waiting = r.waiting ∙ ap (λ z. (r.passed + z) % 2 ^ 64) (sym same);
        ticket = all_live s.views id w (λ j u. (t : ℕ) → u.ticket ≡ Some t → (k : ℕ) × (k < total ticket_count (set s.views id (Some w))) × (t ≡ (r.passed + k) % 2 ^ 64))
            (λ t e. let h = r.ticket id v at t e in (h.0, omega arith, h.2))
            (λ j u _ there t e. let h = r.ticket j u there t e in (h.0, omega arith, h.2));
        apart = apart_set s.views id w (λ j u t other there a b. other (r.apart j id u v t there at b a)) r.apart;
        holding = all_live s.views id w (λ j u. (h : List E) → u.holding ≡ Some h → (u.ticket ≡ Some r.passed) × (h ≡ r.log))
            (λ h e. (mine, sym (some_same r.log h e)))
            (λ j u _ there h e. r.holding j u there h e);
        book = inr (id, w, refl, set_here s.views id (Some w) inside, refl);
        sound = r.sound;
        each = all_live s.views id w (Fits actor r.c r.log (set s.views id (Some w)))
            (refit actor r.c r.log (set s.views id (Some w)) id v v.ticket (Some r.log) (fits_here s r id v w at id v at))
            (λ j u _ there. fits_here s r id v w at j u there);
        whole = let a = r.whole in omega (arith, total_set seat_count s.views id (Some v) (Some w) at, length-set s.views id (Some w));
      }

  -- where the seat has the turn and does not hold the book, the book is at home
  is_home : (s : St) (r : Rule s) (id : ℕ) (v : Known E C) → IsLive s.views id v → v.ticket ≡ Some r.passed → v.holding ≡ None → IsAtHome entries setting actor ok r.c r.log s
  is_home s r id v at mine idle = ⊎_elim (λ p. p)
      (λ (p : IsOut entries setting actor ok r.log s).
      let turn = r.holding p.0 p.1 p.3 r.log p.4 in
      let here : p.0 ≡ id = r.apart p.0 id p.1 v r.passed p.3 at turn.0 mine in
      let one : p.1 ≡ v = same_live s.views id p.1 v (subst (λ z. IsLive s.views z p.1) here p.3) at in
      some_is_none p.1.holding r.log p.4 (ap (λ (z : Known E C). z.holding) one ∙ idle))
      r.book

  finds : (s : St) (r : Rule s) (id : ℕ) (v : Known E C) → IsLive s.views id v → (b : B) → entries b ≡ r.log → setting b ≡ r.c → Finds entries setting actor v b
  finds s r id v at b is set_is = let f = r.each id v at in record {
    setting_is = set_is ∙ sym f.setting;
    seen_is = subst (λ z. StartsWith z v.seen) (sym is) f.seen;
    mine_is = f.mine ∙ ap₂ (entries_of actor) (sym f.number) (sym is);
  }

  pub sees : (slots id : ℕ) (v : Known E C) (t : ℕ) → v.ticket ≡ Some t → v.holding ≡ None
      → Allows Rule slots id (Some v, []) 0 (λ n. n) (Sees entries setting actor (Some v, []))
  sees slots id v t ticket idle s r _ at _ =
      let P : List ℕ → Type 0 = λ ws. (w : V) × (a : Act (Option B)) × Valid s.homes [] a
      × Rule record { words = set ws 0 (get_or ws 0 0); homes = homes_after s.homes [] a; views = set s.views id w }
      × Sees entries setting actor (Some v, []) (get_or ws 0 0) (w, carried_after [] a) in
      let now : (w : V) × (a : Act (Option B)) × Valid s.homes [] a
      × Rule record { words = r.passed ∷ r.drawn ∷ []; homes = homes_after s.homes [] a; views = set s.views id w }
      × Sees entries setting actor (Some v, []) r.passed (w, carried_after [] a) =
      dite (ℕ_discrete t r.passed)
      (λ turn.
      let mine : v.ticket ≡ Some r.passed = ticket ∙ ap Some turn in
      let home = is_home s r id v at mine idle in
      let found = finds s r id v at home.0 home.2 home.3 in
      let w : Known E C = record v { holding = Some r.log } in
      let Q : List (maybe.Option (Option B)) → Type 0 = λ hs. Valid hs [] (takes 0 (Some home.0)) × Rule record { words = r.passed ∷ r.drawn ∷ []; homes = set hs 0 none; views = set s.views id (Some w) } in
      let went = subst Q (sym home.1) (refl, taken s r id v at mine) in (
        Some w,
        takes 0 (Some home.0),
        went.0,
        went.1,
        λ u e. (
          λ _. (home.0, (λ i. (Some (record (some_same v u e i) { holding = Some (sym home.2 i) }), (0, Some home.0) ∷ [])), subst (λ z. Finds entries setting actor z home.0) (some_same v u e) found),
          λ other. absurd (other (ap (λ (z : Known E C). z.ticket) (sym (some_same v u e)) ∙ mine)),
        ),
      ))
      (λ other. (
        Some v,
        keeps,
        tt,
        subst (λ vs. Rule record { words = r.passed ∷ r.drawn ∷ []; homes = s.homes; views = vs }) (sym (set_again s.views id (Some v) at)) (subst (λ ws. Rule record { words = ws; homes = s.homes; views = s.views }) r.words r),
        λ u e. (
          λ turn. absurd (other (some_same t r.passed (sym ticket ∙ (ap (λ (z : Known E C). z.ticket) (some_same v u e) ∙ turn)))),
          λ _. refl,
        ),
      )) in
      subst P (sym r.words) now

  -- the turn is passed, with the book b in the slot
  passed_turn : (s : St) (r : Rule s) (id : ℕ) (v : Known E C) (b : B) (h : List E) → IsLive s.views id v → v.holding ≡ Some h → setting b ≡ v.setting → ok v.setting (entries b)
      → Grown actor v.number h (entries b)
      → Rule record { words = (r.passed + 1) % 2 ^ 64 ∷ r.drawn ∷ []; homes = some (Some b) ∷ []; views = set s.views id (Some (view_after_turn entries setting actor v (entries b))) }
  passed_turn s r id v b h at hold set_is sound grown =
      let log' : List E = entries b in
      let w : Known E C = view_after_turn entries setting actor v log' in
      let vs : List V = set s.views id (Some w) in
      let n : ℕ = total ticket_count s.views in
      let few = few_tickets s r in
      let counted = total_set ticket_count s.views id (Some v) (Some w) at in
      let turn = r.holding id v at h hold in
      let one_before = tickets_of v r.passed turn.0 in
      let fewer : total ticket_count vs + 1 ≡ n = omega arith in
      let inside = at_inside s.views id (Some v) at in
      let f = r.each id v at in
      let from_log : Grown actor id r.log log' = subst (λ (z : ℕ × List E). Grown actor z.0 z.1 log') (λ i. (f.number i, turn.1 i)) grown in
      let more = grown_starts actor id r.log log' from_log in
      let others : (m : ℕ) → m ≢ id → entries_of actor m log' ≡ entries_of actor m r.log = λ m differ. grown_other actor id m r.log log' differ from_log in
      let gone : (m : ℕ) → get_elem? s.views m ≡ some None → (get_elem? vs m ≡ some None) × (entries_of actor m log' ≡ entries_of actor m r.log) =
      λ m e. (spent_stays s.views id m v w at e, others m (λ same. absurd (let z : some (Some v) ≡ some None = sym at ∙ (ap (get_elem? s.views) (sym same) ∙ e) in cc))) in
      let rest : (m : ℕ) → length s.views ≤ m → entries_of actor m log' ≡ entries_of actor m r.log = λ m far. others m (λ same. omega arith) in
      let elsewhere : (j : ℕ) (u : Known E C) (t : ℕ) → j ≢ id → IsLive s.views j u → u.ticket ≡ Some t → t ≢ r.passed = λ j u t differ there e same. differ (r.apart j id u v r.passed there at (e ∙ ap Some same) turn.0) in
      record {
        c = r.c;
        log = log';
        passed = (r.passed + 1) % 2 ^ 64;
        drawn = r.drawn;
        words = refl;
        passed_small = mod-lt (r.passed + 1) (omega arith);
        seats = let a = r.seats in omega (arith, length-set s.views id (Some w));
        few = r.few;
        waiting = r.waiting ∙ (ap (λ z. (r.passed + z) % 2 ^ 64) (sym fewer) ∙ sym (ring_step (2 ^ 64) r.passed (total ticket_count vs)));
        ticket = all_live s.views id w (λ j u. (t : ℕ) → u.ticket ≡ Some t → (k : ℕ) × (k < total ticket_count vs) × (t ≡ ((r.passed + 1) % 2 ^ 64 + k) % 2 ^ 64))
            (λ t e. some_is_none w.ticket t e refl)
            (λ j u differ there t e. let h = r.ticket j u there t e in
            let past : 0 < h.0 = ring_off (2 ^ 64) r.passed h.0 t r.passed_small h.2 (elsewhere j u t differ there e) in
            (h.0 - 1, omega arith, h.2 ∙ ring_back (2 ^ 64) r.passed h.0 past));
        apart = apart_set s.views id w (λ j u t other there a b. some_is_none w.ticket t a refl) r.apart;
        holding = all_live s.views id w (λ j u. (h : List E) → u.holding ≡ Some h → (u.ticket ≡ Some ((r.passed + 1) % 2 ^ 64)) × (h ≡ log'))
            (λ h e. some_is_none w.holding h e refl)
            (λ j u differ there h e. let held = r.holding j u there h e in absurd (elsewhere j u r.passed differ there held.0 refl));
        book = inl (
          b,
          refl,
          refl,
          set_is ∙ f.setting,
          all_live s.views id w (λ j u. u.holding ≡ None) refl
              (λ j u differ there. ⊎_elim (λ e. e) (λ (p : (h : List E) × (u.holding ≡ Some h)). let held = r.holding j u there p.0 p.1 in absurd (elsewhere j u r.passed differ there held.0 refl)) (none_or u.holding)),
        );
        sound = subst (λ z. ok z log') f.setting sound;
        each = all_live s.views id w (Fits actor r.c log' vs)
            record {
              number = f.number;
              setting = f.setting;
              seen = starts_here log';
              mine = ap (λ z. entries_of actor z log') f.number;
              mine_seen = ap (λ z. entries_of actor z log') f.number;
              ended = λ k x there. ended_stays actor r.c r.log log' s.views vs x more (gone x.number) (f.ended k x there);
              first = λ z. let g = first_stays actor r.c r.log log' s.views vs v more (length-set s.views id (Some w)) rest (f.first z) in record { made = g.made; opening = g.opening; unmade = g.unmade };
            }
            (λ j u differ there. fits_stays actor r.c r.log log' s.views vs j u more (length-set s.views id (Some w)) gone rest (others j differ) (r.each j u there));
        whole = let a = r.whole in omega (arith, total_set seat_count s.views id (Some v) (Some w) at, length-set s.views id (Some w));
      }

  pub passes : (slots id : ℕ) (v : Known E C) (b : B) (h : List E) → v.holding ≡ Some h → setting b ≡ v.setting → ok v.setting (entries b) → Grown actor v.number h (entries b)
      → Allows Rule slots id (Some v, (0, Some b) ∷ []) 0 (λ n. (n + 1) % 2 ^ 64) (Passes entries setting actor (Some v, (0, Some b) ∷ []))
  passes slots id v b h hold set_is sound grown s r _ at _ =
      let P : List ℕ → Type 0 = λ ws. (w : V) × (a : Act (Option B)) × Valid s.homes ((0, Some b) ∷ []) a
      × Rule record { words = set ws 0 ((get_or ws 0 0 + 1) % 2 ^ 64); homes = homes_after s.homes ((0, Some b) ∷ []) a; views = set s.views id w }
      × Passes entries setting actor (Some v, (0, Some b) ∷ []) (get_or ws 0 0) (w, carried_after ((0, Some b) ∷ []) a) in
      let out : s.homes ≡ none ∷ [] = ⊎_elim
      (λ (p : IsAtHome entries setting actor ok r.c r.log s). some_is_none v.holding h hold (p.4 id v at))
      (λ (p : IsOut entries setting actor ok r.log s). p.2) r.book in
      subst P (sym r.words) (
        Some (view_after_turn entries setting actor v (entries b)),
        gives,
        tt,
        subst (λ hs. Rule record { words = (r.passed + 1) % 2 ^ 64 ∷ r.drawn ∷ []; homes = set hs 0 (some (Some b)); views = set s.views id (Some (view_after_turn entries setting actor v (entries b))) }) (sym out)
            (passed_turn s r id v b h at hold set_is sound grown),
        λ u c e f. let same : v ≡ u = some_same v u e in let which : b ≡ c = ap (λ (z : List (ℕ × Option B)). held b z) f in
            ap₂ (λ (x : Known E C) (y : B). (Some (view_after_turn entries setting actor x (entries y)), [])) same which,
      )
