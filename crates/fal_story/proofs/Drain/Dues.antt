-- How the numbers of envelopes that did not come change.
use Rattle.std.proofs.Common.{◌≡◌, ◌≢◌, ⊎_elim, ℕ, zero, suc, ◌+◌, ◌<◌, ◌≤◌, Bool, true, false, cond, List, [], ◌∷◌, ◌++◌, length, Some, refl, sym, ap, ◌∙◌, arith}
use Rattle.std.specs.Prelude.{slice_get, ◌==◌, if◌then◌else◌}
use Rattle.std.proofs.lemmas.Bool.{eq-eqb}
use Rattle.std.specs.List.{remove}
use Rattle.fal_base.specs.declared.event.Actor.{Actor}
use Rattle.fal_base.specs.declared.event.Envelope.{Envelope}
use Rattle.fal_base.specs.declared.event.Event.{Event}
use Rattle.fal_story.proofs.Lists.Grown.{put_other, tells, unequal}
use Rattle.fal_story.specs.Fresh.{came_with, came_from, came, is_actor, due_with, due_from}
use Rattle.fal_story.specs.World.{put}

came_from_snoc : (c : ℕ → Bool) (es : List Event) (e : Event) → came_from c (es ++ e ∷ []) ≡ came_with e (came_from c es)
came_from_snoc c [] e = refl
came_from_snoc c (x ∷ es) e = came_from_snoc (came_with x c) es e

pub came_snoc : (es : List Event) (e : Event) → came (es ++ e ∷ []) ≡ came_with e (came es)
unfolding came
came_snoc es e = came_from_snoc _ es e

same_number : (k e : ℕ) → k ≡ e → (k == e) ≡ true
same_number k e s = eq-eqb k e s

-- without a number
abbrev pub without : ℕ → List ℕ → List ℕ
without e [] = []
without e (k ∷ ks) = if k == e then without e ks else k ∷ without e ks

-- numbers that rise, from k
abbrev pub Rises : ℕ → List ℕ → Type 0
Rises k [] = Unit {0}
Rises k (x ∷ xs) = (k ≤ x) × Rises (suc x) xs

due_with_append : (t b : Bool) (k : ℕ) (ks js : List ℕ) → due_with t b k (ks ++ js) ≡ due_with t b k ks ++ js
due_with_append true true k ks js = refl
due_with_append true false k ks js = refl
due_with_append false b k ks js = refl

due_with_without : (t b : Bool) (e k : ℕ) (ks : List ℕ) → k ≢ e → due_with t b k (without e ks) ≡ without e (due_with t b k ks)
due_with_without true true e k ks ne = refl
due_with_without true false e k ks ne = sym (ap (λ b. cond b (without e ks) (k ∷ without e ks)) (unequal k e ne))
due_with_without false b e k ks ne = refl

due_with_gone : (t b : Bool) (e k : ℕ) (ks : List ℕ) → k ≡ e → due_with t true k (without e ks) ≡ without e (due_with t b k ks)
due_with_gone true true e k ks s = refl
due_with_gone true false e k ks s = sym (ap (λ b. cond b (without e ks) (k ∷ without e ks)) (same_number k e s))
due_with_gone false b e k ks s = refl

-- one more envelope is sent
pub due_snoc : (a : Actor) (c : ℕ → Bool) (k : ℕ) (xs : List Envelope) (x : Envelope) → due_from a c k (xs ++ x ∷ []) ≡ due_from a c k xs ++ due_with (is_actor a x.to) (c (length xs + k)) (length xs + k) []
due_snoc a c k [] x = let e : k ≡ 0 + k = omega arith in ap (λ m. due_with (is_actor a x.to) (c m) m []) e
due_snoc a c k (y ∷ xs) x =
    let e : length xs + suc k ≡ suc (length xs) + k = omega arith in
    let end = λ (m : ℕ). due_with (is_actor a x.to) (c m) m [] in
    ap (due_with (is_actor a y.to) (c k) k) (due_snoc a c (suc k) xs x ∙ ap (λ m. due_from a c (suc k) xs ++ end m) e)
    ∙ due_with_append (is_actor a y.to) (c k) k (due_from a c (suc k) xs) (end (suc (length xs) + k))

pub rises_weaker : (j k : ℕ) (xs : List ℕ) → j ≤ k → Rises k xs → Rises j xs
rises_weaker j k [] h r = tt
rises_weaker j k (x ∷ xs) h r = let y = r.0 in (omega arith, r.1)

pub due_rises : (a : Actor) (c : ℕ → Bool) (k : ℕ) (xs : List Envelope) → Rises k (due_from a c k xs)
due_rises a c k [] = tt
due_rises a c k (x ∷ xs) =
    let r = due_rises a c (suc k) xs in
    elim (is_actor a x.to) as (λ t. Rises k (due_with t (c k) k (due_from a c (suc k) xs))) [
      | false ↦ rises_weaker k (suc k) _ (omega arith) r
      | true ↦ elim (c k) as (λ b. Rises k (due_with true b k (due_from a c (suc k) xs))) [ true ↦ rises_weaker k (suc k) _ (omega arith) r | false ↦ (omega arith, r) ]
    ]

pub without_below : (e k : ℕ) (xs : List ℕ) → e < k → Rises k xs → without e xs ≡ xs
without_below e k [] h r = refl
without_below e k (x ∷ xs) h r =
    let y = r.0 in
    ap (λ b. cond b (without e xs) (x ∷ without e xs)) (unequal x e (λ z. absurd (omega arith)))
    ∙ ap (λ ys. x ∷ ys) (without_below e (suc x) xs (omega arith) r.1)

rises_at : (k i : ℕ) (xs : List ℕ) (e : ℕ) → Rises k xs → slice_get xs i ≡ Some e → k ≤ e
rises_at k i [] e r at = absurd (cc)
rises_at k zero (x ∷ xs) e r at = let s : x ≡ e = cc in let y = r.0 in omega arith
rises_at k (suc i) (x ∷ xs) e r at = let y = rises_at (suc x) i xs e r.1 at in let z = r.0 in omega arith

-- the number at a place is taken out
pub without_at : (e k i : ℕ) (xs : List ℕ) → Rises k xs → slice_get xs i ≡ Some e → remove xs i ≡ without e xs
without_at e k i [] r at = absurd (cc)
without_at e k zero (x ∷ xs) r at =
    let same : x ≡ e = cc in
    sym (ap (λ b. cond b (without e xs) (x ∷ without e xs)) (same_number x e same) ∙ without_below e (suc x) xs (let s = same in omega arith) r.1)
without_at e k (suc i) (x ∷ xs) r at =
    ap (λ ys. x ∷ ys) (without_at e (suc x) i xs r.1 at)
    ∙ sym (ap (λ b. cond b (without e xs) (x ∷ without e xs)) (unequal x e (λ z. let b = rises_at (suc x) i xs e r.1 at in absurd (omega arith))))

-- a number that is at no place
pub without_none : (e : ℕ) (xs : List ℕ) → ((i : ℕ) → slice_get xs i ≡ Some e → ⊥) → without e xs ≡ xs
without_none e [] h = refl
without_none e (x ∷ xs) h =
    ap (λ b. cond b (without e xs) (x ∷ without e xs)) (unequal x e (λ s. h 0 (ap Some s)))
    ∙ ap (λ ys. x ∷ ys) (without_none e xs (λ i at. h (suc i) at))

-- an envelope comes
pub due_came : (a : Actor) (c : ℕ → Bool) (e k : ℕ) (xs : List Envelope) → due_from a (put c e true) k xs ≡ without e (due_from a c k xs)
due_came a c e k [] = refl
due_came a c e k (x ∷ xs) =
    let t = is_actor a x.to in
    let ks = due_from a (put c e true) (suc k) xs in
    let more = due_came a c e (suc k) xs in
    ⊎_elim
    (λ h. ap (λ b. due_with t (cond b true (c k)) k ks) h.0 ∙ ap (due_with t true k) more ∙ due_with_gone t (c k) e k _ h.1)
    (λ h. ap (λ b. due_with t (cond b true (c k)) k ks) h.0 ∙ ap (due_with t (c k) k) more ∙ due_with_without t (c k) e k _ h.1)
    (tells k e)

-- an envelope to another comes
pub due_other : (a : Actor) (c : ℕ → Bool) (e k j : ℕ) (xs : List Envelope) (x : Envelope) → e ≡ j + k → slice_get xs j ≡ Some x → is_actor a x.to ≡ false → due_from a (put c e true) k xs ≡ due_from a c k xs
due_other a c e k j [] x s at away = absurd (cc)
due_other a c e k zero (y ∷ xs) x s at away =
    let same : y ≡ x = cc in
    let not : is_actor a y.to ≡ false = ap (λ (z : Envelope). is_actor a z.to) same ∙ away in
    ap (λ t. due_with t (put c e true k) k (due_from a (put c e true) (suc k) xs)) not ∙ (due_came a c e (suc k) xs ∙ without_below e (suc k) _ (omega arith) (due_rises a c (suc k) xs))
    ∙ sym (ap (λ t. due_with t (c k) k (due_from a c (suc k) xs)) not)
due_other a c e k (suc j) (y ∷ xs) x s at away =
    ap (λ b. due_with (is_actor a y.to) b k (due_from a (put c e true) (suc k) xs)) (put_other c e true k (λ z. absurd (omega arith)))
    ∙ ap (due_with (is_actor a y.to) (c k) k) (due_other a c e (suc k) j xs x (omega arith) at away)

-- what is due is an envelope to this actor that did not come
pub record IsDue (a : Actor) (c : ℕ → Bool) (k : ℕ) (xs : List Envelope) (e : ℕ) : Type 0 where
  pub fresh : c e ≡ false
  pub at : ℕ
  pub envelope : Envelope
  pub is : e ≡ at + k
  pub stands : slice_get xs at ≡ Some envelope
  pub to : is_actor a envelope.to ≡ true

due_later : (a : Actor) (c : ℕ → Bool) (k : ℕ) (y : Envelope) (xs : List Envelope) (e : ℕ) → IsDue a c (suc k) xs e → IsDue a c k (y ∷ xs) e
due_later a c k y xs e d = record { fresh = d.fresh; at = suc d.at; envelope = d.envelope; is = let s = d.is in omega arith; stands = d.stands; to = d.to }

due_now : (a : Actor) (c : ℕ → Bool) (k : ℕ) (y : Envelope) (xs : List Envelope) (t b : Bool) (ks : List ℕ) (e : ℕ) → is_actor a y.to ≡ t → c k ≡ b → slice_get (due_with t b k ks) 0 ≡ Some e → ((i : ℕ) → slice_get ks i ≡ Some e → IsDue a c (suc k) xs e) → IsDue a c k (y ∷ xs) e
due_now a c k y xs true true ks e s u at f = due_later a c k y xs e (f 0 at)
due_now a c k y xs false b ks e s u at f = due_later a c k y xs e (f 0 at)
due_now a c k y xs true false ks e s u at f = let z : k ≡ e = cc in record { fresh = ap c (sym z) ∙ u; at = 0; envelope = y; is = let w = z in omega arith; stands = refl; to = s }

due_then : (a : Actor) (c : ℕ → Bool) (k : ℕ) (y : Envelope) (xs : List Envelope) (t b : Bool) (ks : List ℕ) (i e : ℕ) → slice_get (due_with t b k ks) (suc i) ≡ Some e → ((i : ℕ) → slice_get ks i ≡ Some e → IsDue a c (suc k) xs e) → IsDue a c k (y ∷ xs) e
due_then a c k y xs true true ks i e at f = due_later a c k y xs e (f (suc i) at)
due_then a c k y xs false b ks i e at f = due_later a c k y xs e (f (suc i) at)
due_then a c k y xs true false ks i e at f = due_later a c k y xs e (f i at)

pub due_is : (a : Actor) (c : ℕ → Bool) (k : ℕ) (xs : List Envelope) (i e : ℕ) → slice_get (due_from a c k xs) i ≡ Some e → IsDue a c k xs e
due_is a c k [] i e at = absurd (cc)
due_is a c k (y ∷ xs) zero e at = due_now a c k y xs (is_actor a y.to) (c k) _ e refl refl at (λ i h. due_is a c (suc k) xs i e h)
due_is a c k (y ∷ xs) (suc i) e at = due_then a c k y xs (is_actor a y.to) (c k) _ i e at (λ i h. due_is a c (suc k) xs i e h)

none_here : (t b : Bool) (k : ℕ) (ks : List ℕ) → t ≡ true → due_with t b k ks ≡ [] → b ≡ true
none_here true true k ks h e = refl
none_here true false k ks h e = absurd (cc)
none_here false b k ks h e = absurd (cc)

none_later : (t b : Bool) (k : ℕ) (ks : List ℕ) → due_with t b k ks ≡ [] → ks ≡ []
none_later true true k ks e = e
none_later true false k ks e = absurd (cc)
none_later false b k ks e = e

-- where nothing is due to an actor, each envelope to it came
pub none_due : (a : Actor) (c : ℕ → Bool) (k : ℕ) (xs : List Envelope) → due_from a c k xs ≡ [] → (j : ℕ) (x : Envelope) → slice_get xs j ≡ Some x → is_actor a x.to ≡ true → c (j + k) ≡ true
none_due a c k [] none j x at is = absurd (cc)
none_due a c k (y ∷ xs) none zero x at is =
    let s : y ≡ x = cc in
    let z : k ≡ 0 + k = omega arith in
    ap c (sym z) ∙ none_here (is_actor a y.to) (c k) k _ (ap (λ (w : Envelope). is_actor a w.to) s ∙ is) none
none_due a c k (y ∷ xs) none (suc n) x at is =
    let m : n + suc k ≡ suc n + k = omega arith in
    ap c (sym m) ∙ none_due a c (suc k) xs (none_later (is_actor a y.to) (c k) k _ none) n x at is

all_here : (t b : Bool) (k : ℕ) → b ≡ true → due_with t b k [] ≡ []
all_here true true k h = refl
all_here true false k h = absurd (cc)
all_here false b k h = refl

-- where every envelope came, nothing is due
pub all_came : (a : Actor) (c : ℕ → Bool) (k : ℕ) (xs : List Envelope) → ((j : ℕ) (x : Envelope) → slice_get xs j ≡ Some x → c (j + k) ≡ true) → due_from a c k xs ≡ []
all_came a c k [] h = refl
all_came a c k (y ∷ xs) h =
    let z : 0 + k ≡ k = omega arith in
    ap (due_with (is_actor a y.to) (c k) k) (all_came a c (suc k) xs (λ j x at. let m : j + suc k ≡ suc j + k = omega arith in ap c m ∙ h (suc j) x at))
    ∙ all_here (is_actor a y.to) (c k) k (ap c (sym z) ∙ h 0 y refl)
