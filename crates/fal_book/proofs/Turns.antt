-- One turn of a seat between two calls: it takes the book b, gives back the book d, and what is then known.
use Rattle.std.proofs.Common.{◌≡◌, ℕ, ◌+◌, ◌<◌, ◌≤◌, ◌^◌, List, [], ◌∷◌, ◌++◌, length, sym, refl, ap, ◌∙◌, subst, arith, append_assoc, append-nil, length-append}
use Rattle.std.specs.Prelude.{Option, Some}
use Rattle.std.proofs.lemmas.List.{nil_from_length}
use Rattle.atomic_table.specs.Table.{Me}
use Rattle.atomic_table.specs.declared.shared.Seat.{Seat}
use Rattle.fal_book.specs.declared.view.Known.{Known}
use Rattle.fal_book.specs.Entries.{entries_of, StartsWith, LegalAfter, IsSound}
use Rattle.fal_book.specs.Steps.{Grown, view_after_turn}
use Rattle.fal_book.specs.Moves.{IsIdle, Took, MayGive, Gave}
use Rattle.fal_book.specs.Sitting.{Sitting, sitting_of, seen_in, mine_in, setting_in, MayEnter, IsSameSitting, Rests, IsSat, Entered, Looked, NothingEntered, Knows}
use Rattle.fal_book.proofs.Keeps.{some_same}
use Rattle.fal_book.proofs.Lists.{starts_length, entries_of-append, entries_of-own}

module _ {C E O : Type 0} (may : C → List E → E → O → Type 0) where
  legal_more : (c : C) (before xs : List E) (e : E) (o : O) → LegalAfter may c before xs → may c (before ++ xs) e o → LegalAfter may c before (xs ++ e ∷ [])
  legal_more c before [] e o h m = ((o, subst (λ z. may c z e o) (append-nil before) m), tt)
  legal_more c before (x ∷ xs) e o h m = (h.0, legal_more c (before ++ x ∷ []) xs e o h.1 (subst (λ z. may c z e o) (sym (append_assoc before (x ∷ []) xs)) m))

  -- a list to which an entry was added by the trait's leave
  pub sound_more : (c : C) (xs : List E) (e : E) (o : O) → IsSound may c xs → may c xs e o → length xs + 1 < 2 ^ 63 → IsSound may c (xs ++ e ∷ [])
  sound_more c xs e o s m room = record { legal = legal_more c [] xs e o s.legal m; short = omega (arith, length-append xs (e ∷ [])) }

no_more : {A : Type 0} (xs ys : List A) → xs ++ ys ≡ xs → ys ≡ []
no_more xs ys e = nil_from_length ys (omega (arith, length-append xs ys, ap length e))

module _ {B E C : Type 0} (entries : B → List E) (setting : B → C) (actor : E → ℕ) (ok : C → List E → Type 0) where
  abbrev W : Type 0
  W = Me (Option B) (Option (Known E C))

  abbrev Sits : W → ℕ → C → ℕ → Type 0
  Sits me n c looked = (me.1 ≡ []) × ((v : Known E C) × (me.0 ≡ Some v) × Rests actor ok v n c looked)

  pub whole_me : (me : W) (n : ℕ) (c : C) (looked : ℕ) (s : Sits me n c looked) → me ≡ (Some s.1.0, [])
  whole_me me n c looked s i = (s.1.1 i, s.0 i)

  pub idle_of : (me : W) (n : ℕ) (c : C) (looked : ℕ) → Sits me n c looked → IsIdle me
  idle_of me n c looked s = (s.1.0, whole_me me n c looked s, s.1.2.ticket, s.1.2.holding)

  pub may_give : (me after : W) (n : ℕ) (c : C) (looked : ℕ) (b d : B) → Sits me n c looked → Took entries setting actor b me after → setting d ≡ setting b → ok (setting b) (entries d)
      → Grown actor n (entries b) (entries d) → MayGive entries setting actor ok d after
  may_give me after n c looked b d s took same sound grown =
      let v = s.1.0 in let h = took v (whole_me me n c looked s) in (
        record v { ticket = Some h.0; holding = Some (entries b) },
        entries b,
        h.1,
        refl,
        same ∙ h.2.setting_is,
        subst (λ z. ok z (entries d)) h.2.setting_is sound,
        subst (λ z. Grown actor z (entries b) (entries d)) (sym s.1.2.number) grown,
      )

  -- what the seat knew and knows, in terms of the book before and after
  pub record Told (n : ℕ) (b d : B) (me end : W) : Type 0 where
    pub seen_before : StartsWith (entries b) (seen_in me.0)
    pub mine_before : mine_in me.0 ≡ entries_of actor n (entries b)
    pub mine_seen : mine_in me.0 ≡ entries_of actor n (seen_in me.0)
    pub seen_after : seen_in end.0 ≡ entries d
    pub mine_after : mine_in end.0 ≡ entries_of actor n (entries d)

  -- the same of the time before the book is given back
  pub record Found (n : ℕ) (c : C) (b : B) (me : W) : Type 0 where
    pub setting_is : setting b ≡ c
    pub seen_before : StartsWith (entries b) (seen_in me.0)
    pub mine_before : mine_in me.0 ≡ entries_of actor n (entries b)
    pub mine_seen : mine_in me.0 ≡ entries_of actor n (seen_in me.0)

  pub found : (me after : W) (n : ℕ) (c : C) (looked : ℕ) (b : B) → Sits me n c looked → Took entries setting actor b me after → Found n c b me
  found me after n c looked b s took =
      let v = s.1.0 in let at = whole_me me n c looked s in let h = took v at in let seen : seen_in me.0 ≡ v.seen = ap seen_in s.1.1 in let mine : mine_in me.0 ≡ v.mine = ap mine_in s.1.1 in
      record {
        setting_is = h.2.setting_is ∙ s.1.2.setting;
        seen_before = subst (StartsWith (entries b)) (sym seen) h.2.seen_is;
        mine_before = mine ∙ (h.2.mine_is ∙ ap (λ z. entries_of actor z (entries b)) s.1.2.number);
        mine_seen = mine ∙ (s.1.2.mine ∙ ap (entries_of actor n) (sym seen));
      }

  ended : (me after end : W) (n : ℕ) (c : C) (looked : ℕ) (b d : B) → (s : Sits me n c looked) → (h : Took entries setting actor b me after) → Gave entries setting actor d after end
      → end ≡ (Some (view_after_turn entries setting actor (record s.1.0 { ticket = Some (h s.1.0 (whole_me me n c looked s)).0; holding = Some (entries b) }) (entries d)), [])
  ended me after end n c looked b d s h gave = let t = h s.1.0 (whole_me me n c looked s) in gave (record s.1.0 { ticket = Some t.0; holding = Some (entries b) }) t.1

  pub told : (me after end : W) (n : ℕ) (c : C) (looked : ℕ) (b d : B) → Sits me n c looked → Took entries setting actor b me after → Gave entries setting actor d after end → Told n b d me end
  told me after end n c looked b d s h gave =
      let f = found me after n c looked b s h in let e = ended me after end n c looked b d s h gave in record {
        seen_before = f.seen_before;
        mine_before = f.mine_before;
        mine_seen = f.mine_seen;
        seen_after = ap (λ (m : W). seen_in m.0) e;
        mine_after = ap (λ (m : W). mine_in m.0) e ∙ ap (λ z. entries_of actor z (entries d)) s.1.2.number;
      }

  -- the seat rests again, and has looked as far as `look`
  pub rests_again : (me after end : W) (n : ℕ) (c : C) (looked look : ℕ) (b d : B) → Sits me n c looked → Took entries setting actor b me after → Gave entries setting actor d after end
      → ok (setting b) (entries d) → look ≤ length (entries d) → Sits end n c look
  rests_again me after end n c looked look b d s h gave sound far =
      let e = ended me after end n c looked b d s h gave in let v = s.1.0 in let f = found me after n c looked b s h in (
        ap (λ (m : W). m.1) e,
        (
          view_after_turn entries setting actor (record v { ticket = Some (h v (whole_me me n c looked s)).0; holding = Some (entries b) }) (entries d),
          ap (λ (m : W). m.0) e,
          record {
            number = s.1.2.number;
            setting = s.1.2.setting;
            ticket = refl;
            holding = refl;
            sound = subst (λ z. ok z (entries d)) f.setting_is sound;
            mine = ap (λ z. entries_of actor z (entries d)) s.1.2.number;
            looked_at = far;
          },
        ),
      )

  -- how far the seat has looked is within any list that begins with what it has seen
  pub looked_within : (me after : W) (n : ℕ) (c : C) (looked : ℕ) (b d : B) → Sits me n c looked → Took entries setting actor b me after → StartsWith (entries d) (entries b) → looked ≤ length (entries d)
  looked_within me after n c looked b d s h more = let v = s.1.0 in let t = h v (whole_me me n c looked s) in
      let a = s.1.2.looked_at in let p = starts_length v.seen (entries b) t.2.seen_is in let q = starts_length (entries b) (entries d) more in omega arith

  -- what may be pushed after what the seat has seen may be pushed now
  pub may_now : {O : Type 0} (may : C → List E → E → O → Type 0)
      → ((c : C) (xs ys : List E) (e : E) (o : O) → may c xs e o → entries_of actor (actor e) ys ≡ [] → may c (xs ++ ys) e o)
      → (me : W) (n : ℕ) (c : C) (b : B) (e : E) (o : O) → Found n c b me → actor e ≡ n → may c (seen_in me.0) e o → may (setting b) (entries b) e o
  may_now may lasts me n c b e o f own m =
      let ys = f.seen_before.rest in
      let all : entries_of actor n (seen_in me.0) ++ entries_of actor n ys ≡ entries_of actor n (seen_in me.0) =
      sym (entries_of-append actor n (seen_in me.0) ys) ∙ (ap (entries_of actor n) (sym f.seen_before.is) ∙ (sym f.mine_before ∙ f.mine_seen)) in
      let none : entries_of actor (actor e) ys ≡ [] = ap (λ z. entries_of actor z ys) own ∙ no_more (entries_of actor n (seen_in me.0)) (entries_of actor n ys) all in
      subst (λ (z : C × List E). may z.0 z.1 e o) (λ i. (sym f.setting_is i, sym f.seen_before.is i)) (lasts c (seen_in me.0) ys e o m none)

  pub nothing_entered : (p q : Seat (Option B) (Option (Known E C))) (n : ℕ) (looked : ℕ) (b d : B) (s : Sitting E C) → sitting_of p n looked ≡ s → Told n b d p.me q.me → entries d ≡ entries b
      → NothingEntered s (sitting_of q n looked)
  nothing_entered p q n looked b d s is t same = subst (λ z. NothingEntered z (sitting_of q n looked)) is (
    t.mine_after ∙ (ap (entries_of actor n) same ∙ sym t.mine_before),
    refl,
    subst (λ z. StartsWith z (seen_in p.me.0)) (sym (t.seen_after ∙ same)) t.seen_before,
  )

  pub entered : (p q : Seat (Option B) (Option (Known E C))) (n : ℕ) (looked : ℕ) (b d : B) (e : E) (count : ℕ) (s : Sitting E C) → sitting_of p n looked ≡ s → Told n b d p.me q.me
      → entries d ≡ entries b ++ e ∷ [] → actor e ≡ n → count ≡ length (entries b) → Entered s (sitting_of q n looked) e count
  entered p q n looked b d e count s is t more own at = subst (λ z. Entered z (sitting_of q n looked) e count) is record {
    between = t.seen_before.rest;
    seen = t.seen_after ∙ (more ∙ ap (λ z. z ++ e ∷ []) t.seen_before.is);
    mine = t.mine_after ∙ (ap (entries_of actor n) more ∙ (entries_of-own actor n (entries b) e own ∙ ap (λ z. z ++ e ∷ []) (sym t.mine_before)));
    number = at ∙ ap length t.seen_before.is;
  }

  -- the lock, the number and the setting stay
  pub same_sitting : (p q : Seat (Option B) (Option (Known E C))) (after : W) (n : ℕ) (c : C) (looked look : ℕ) (b d : B) (s : Sitting E C) → sitting_of p n looked ≡ s → Sits p.me n c looked
      → Took entries setting actor b p.me after → Gave entries setting actor d after q.me → q.table_id ≡ p.table_id → IsSameSitting s (sitting_of q n look)
  same_sitting p q after n c looked look b d s is sits h gave here =
      subst (λ z. IsSameSitting z (sitting_of q n look)) is (here, refl, ap (λ (m : W). setting_in m.0) (ended p.me after q.me n c looked b d sits h gave) ∙ sym (ap setting_in sits.1.1))

  -- the book went back as it was, and its list was looked at
  pub looks : (p q : Seat (Option B) (Option (Known E C))) (n : ℕ) (looked count : ℕ) (b : B) (s : Sitting E C) → sitting_of p n looked ≡ s → Told n b b p.me q.me → count ≡ length (entries b)
      → Looked s (sitting_of q n count) count
  looks p q n looked count b s is t at = subst (λ z. Looked z (sitting_of q n count) count) is record {
    looked = refl;
    all = at ∙ ap length (sym t.seen_after);
    seen = subst (λ z. StartsWith z (seen_in p.me.0)) (sym t.seen_after) t.seen_before;
    mine = t.mine_after ∙ sym t.mine_before;
  }

  -- what a clause on the setting, the list, the number and the last look says of the book, it says of the seat
  pub told_of : (P : C → List E → ℕ → ℕ → Type 0) (p q : Seat (Option B) (Option (Known E C))) (n looked : ℕ) (b : B) (s : Sitting E C) → sitting_of p n looked ≡ s → (sat : IsSat actor ok p n looked) → setting b ≡ sat.0
      → seen_in q.me.0 ≡ entries b → P (setting b) (entries b) n looked → (c : C) → s.setting ≡ Some c → P c (seen_in q.me.0) s.number s.looked
  told_of P p q n looked b s is sat same seen h c at =
      let here : setting b ≡ c = same ∙ (sym sat.1.1.2.setting ∙ some_same sat.1.1.0.setting c (ap setting_in (sym sat.1.1.1) ∙ (ap (λ z. z.setting) is ∙ at))) in
      subst (λ (z : Sitting E C). P c (seen_in q.me.0) z.number z.looked) is (subst (λ (z : C × List E). P z.0 z.1 n looked) (λ i. (here i, sym seen i)) h)

module _ {B E C O : Type 0} (entries : B → List E) (setting : B → C) (actor : E → ℕ) (may : C → List E → E → O → Type 0)
    (lasts : (c : C) (xs ys : List E) (e : E) (o : O) → may c xs e o → entries_of actor (actor e) ys ≡ [] → may c (xs ++ ys) e o) where
  -- the event may be pushed on the book r, which is b with room
  pub pushes : (p : Seat (Option B) (Option (Known E C))) (after : Me (Option B) (Option (Known E C))) (n looked : ℕ) (b r : B) (e : E) (o : O) (s : Sitting E C)
      → sitting_of p n looked ≡ s → IsSat actor (IsSound may) p n looked → Took entries setting actor b p.me after → actor e ≡ s.number → MayEnter may s.setting s.seen e o → IsSound may (setting b) (entries b)
      → entries r ≡ entries b → setting r ≡ setting b → length (entries r) + 1 < 2 ^ 63
      → (actor e ≡ n) × may (setting r) (entries r) e o × IsSound may (setting b) (entries b ++ e ∷ [])
  pushes p after n looked b r e o s is sits took own m sound same same_too room =
      let own' : actor e ≡ n = own ∙ sym (ap (λ z. z.number) is) in
      let c : C = sits.0 in
      let m' : may c (seen_in p.me.0) e o = subst (λ (z : Option C × List E). MayEnter may z.0 z.1 e o) (λ i. ((sym (ap (λ z. z.setting) is) ∙ (ap setting_in sits.1.1.1 ∙ ap Some sits.1.1.2.setting)) i, sym (ap (λ z. z.seen) is) i)) m in
      let now : may (setting b) (entries b) e o = may_now entries setting actor (IsSound may) may lasts p.me n c b e o (found entries setting actor (IsSound may) p.me after n c looked b sits.1 took) own' m' in (
        own',
        subst (λ (z : C × List E). may z.0 z.1 e o) (λ i. (sym same_too i, sym same i)) now,
        sound_more may (setting b) (entries b) e o sound now (omega (arith, ap length same)),
      )

pub knows : {B E C : Type 0} (actor : E → ℕ) (ok : C → List E → Type 0) (p : Seat (Option B) (Option (Known E C))) (n looked : ℕ) (s : Sitting E C) → sitting_of p n looked ≡ s → IsSat actor ok p n looked → Knows actor ok s
knows actor ok p n looked s is sat = let r = sat.1.1.2 in let at = sat.1.1.1 in
    subst (Knows actor ok) is record {
      sound = (sat.0, ap setting_in at ∙ ap Some r.setting, subst (ok sat.0) (sym (ap seen_in at)) r.sound);
      mine = ap mine_in at ∙ (r.mine ∙ ap (entries_of actor n) (sym (ap seen_in at)));
      looked = subst (λ z. looked ≤ length z) (sym (ap seen_in at)) r.looked_at;
    }
