-- Lists that grow at their end, and functions changed at one place.
use Rattle.std.proofs.Common.{◌≡◌, ◌≢◌, ◌⊎◌, inl, inr, ⊎_elim, ℕ, zero, suc, ◌<◌, Bool, true, false, ◌||◌, cond, List, [], ◌∷◌, ◌++◌, length, Some, refl, sym, ap, ◌∙◌, subst, arith}
use mathlib.Core.Path.{fun_ext}
use Rattle.std.specs.Prelude.{slice_get, ◌==◌}
use Rattle.fal_story.specs.World.{put}
use Rattle.std.proofs.lemmas.Bool.{eq-eqb}
use Rattle.std.proofs.lemmas.Bool.Decides.{eqb_tells}

-- what stands in a list with one more item stood there before, or is the item, at the end
pub slice_get_snoc : {A : Type 0} (xs : List A) (x : A) (k : ℕ) (y : A) → slice_get (xs ++ x ∷ []) k ≡ Some y → (slice_get xs k ≡ Some y) ⊎ ((k ≡ length xs) × (x ≡ y))
slice_get_snoc [] x zero y e = inr (refl, cc)
slice_get_snoc [] x (suc k) y e = absurd (cc)
slice_get_snoc (z ∷ xs) x zero y e = inl e
slice_get_snoc (z ∷ xs) x (suc k) y e = ⊎_elim (λ h. inl h) (λ h. inr (ap suc h.0, h.1)) (slice_get_snoc xs x k y e)

pub slice_get_front : {A : Type 0} (xs ys : List A) (k : ℕ) (y : A) → slice_get xs k ≡ Some y → slice_get (xs ++ ys) k ≡ Some y
slice_get_front [] ys k y e = absurd (cc)
slice_get_front (x ∷ xs) ys zero y e = e
slice_get_front (x ∷ xs) ys (suc k) y e = slice_get_front xs ys k y e

pub slice_get_end : {A : Type 0} (xs : List A) (x : A) → slice_get (xs ++ x ∷ []) (length xs) ≡ Some x
slice_get_end [] x = refl
slice_get_end (y ∷ xs) x = slice_get_end xs x

pub slice_get_below : {A : Type 0} (xs : List A) (k : ℕ) (y : A) → slice_get xs k ≡ Some y → k < length xs
slice_get_below [] k y e = absurd (cc)
slice_get_below (x ∷ xs) zero y e = omega arith
slice_get_below (x ∷ xs) (suc k) y e = let h = slice_get_below xs k y e in omega arith

-- a test of two numbers, with what it says
pub tells : (a b : ℕ) → (((a == b) ≡ true) × (a ≡ b)) ⊎ (((a == b) ≡ false) × (a ≢ b))
tells a b = eqb_tells a b

-- the changed place, or another
pub put_same : {A : Type 0} (f : ℕ → A) (n : ℕ) (x : A) → put f n x n ≡ x
put_same f n x = rw (eq-eqb n n refl) refl

pub put_other : {A : Type 0} (f : ℕ → A) (n : ℕ) (x : A) (m : ℕ) → m ≢ n → put f n x m ≡ f m
put_other f n x m ne = ⊎_elim (λ h. absurd (ne h.1)) (λ h. ap (λ b. cond b x (f m)) h.0) (tells m n)

pub from_put : {A : Type 0} (f : ℕ → A) (n : ℕ) (x : A) (m : ℕ) (y : A) → put f n x m ≡ y → ((m ≡ n) × (x ≡ y)) ⊎ ((m ≢ n) × (f m ≡ y))
from_put f n x m y e =
    ⊎_elim
    (λ h. inl (h.1, sym (ap (λ b. cond b x (f m)) h.0) ∙ e))
    (λ h. inr (h.1, sym (ap (λ b. cond b x (f m)) h.0) ∙ e))
    (tells m n)

pub at_put : {A B : Type 0} (g : A → B) (f : ℕ → A) (n : ℕ) (x : A) → ◌≡◌ {A = ℕ → B} (λ m. g (put f n x m)) (put (λ m. g (f m)) n (g x))
at_put {A} {B} g f n x = fun_ext (λ m. elim (m == n) as (λ b. g (cond b x (f m)) ≡ cond b (g x) (g (f m))) [ true ↦ refl | false ↦ refl ])

pub put_back : {A : Type 0} (f : ℕ → A) (n : ℕ) → ◌≡◌ {A = ℕ → A} (put f n (f n)) f
put_back f n = fun_ext (λ m. ⊎_elim (λ h. ap (λ b. cond b (f n) (f m)) h.0 ∙ ap f (sym h.1)) (λ h. ap (λ b. cond b (f n) (f m)) h.0) (tells m n))

-- what holds of the new value at its place, and of the old ones elsewhere, holds of a changed function
pub put_all : {A : Type 0} (P : ℕ → A → Type 0) (f : ℕ → A) (n : ℕ) (x : A) → P n x → ((m : ℕ) → m ≢ n → P m (f m)) → (m : ℕ) → P m (put f n x m)
put_all P f n x here there m =
    ⊎_elim
    (λ h. subst (P m) (sym (ap (λ b. cond b x (f m)) h.0)) (subst (λ z. P z x) (sym h.1) here))
    (λ h. subst (P m) (sym (ap (λ b. cond b x (f m)) h.0)) (there m h.1))
    (tells m n)

pub put_both : {A B : Type 0} (P : ℕ → A → B → Type 0) (f : ℕ → A) (g : ℕ → B) (n : ℕ) (x : A) (y : B) → P n x y → ((m : ℕ) → m ≢ n → P m (f m) (g m)) → (m : ℕ) → P m (put f n x m) (put g n y m)
put_both P f g n x y here there m =
    let move = λ (b : Bool) (e : (m == n) ≡ b) (p : P m (cond b x (f m)) (cond b y (g m))). subst (λ c. P m (cond c x (f m)) (cond c y (g m))) (sym e) p in
    ⊎_elim (λ h. move true h.0 (subst (λ z. P z x y) (sym h.1) here)) (λ h. move false h.0 (there m h.1)) (tells m n)

pub put_four : {A B C D : Type 0} (P : ℕ → A → B → C → D → Type 0) (f : ℕ → A) (g : ℕ → B) (h : ℕ → C) (k : ℕ → D) (n : ℕ) (x : A) (y : B) (z : C) (w : D) → P n x y z w → ((m : ℕ) → m ≢ n → P m (f m) (g m) (h m) (k m)) → (m : ℕ) → P m (put f n x m) (put g n y m) (put h n z m) (put k n w m)
put_four P f g h k n x y z w here there m =
    let move = λ (b : Bool) (e : (m == n) ≡ b) (p : P m (cond b x (f m)) (cond b y (g m)) (cond b z (h m)) (cond b w (k m))). subst (λ c. P m (cond c x (f m)) (cond c y (g m)) (cond c z (h m)) (cond c w (k m))) (sym e) p in
    ⊎_elim (λ t. move true t.0 (subst (λ i. P i x y z w) (sym t.1) here)) (λ t. move false t.0 (there m t.1)) (tells m n)

pub unequal : (a b : ℕ) → a ≢ b → (a == b) ≡ false
unequal a b ne = ⊎_elim (λ h. absurd (ne h.1)) (λ h. h.0) (tells a b)

pub only_one : {A : Type 0} (x : A) (k : ℕ) (y : A) → slice_get (x ∷ []) k ≡ Some y → x ≡ y
only_one x k y e = ⊎_elim (λ h. absurd (cc)) (λ h. h.1) (slice_get_snoc [] x k y e)

pub put_put : {A : Type 0} (f : ℕ → A) (n : ℕ) (x y : A) → ◌≡◌ {A = ℕ → A} (put (put f n x) n y) (put f n y)
put_put f n x y = fun_ext (λ m. elim (m == n) as (λ b. cond b y (cond b x (f m)) ≡ cond b y (f m)) [ true ↦ refl | false ↦ refl ])

-- changes at two places may be made in either order
pub put_swap : {A : Type 0} (f : ℕ → A) (n m : ℕ) (x y : A) → n ≢ m → ◌≡◌ {A = ℕ → A} (put (put f n x) m y) (put (put f m y) n x)
put_swap {A} f n m x y apart = fun_ext (λ k. ⊎_elim {C = put (put f n x) m y k ≡ put (put f m y) n x k}
    (λ h. ap (λ b. cond b y (put f n x k)) h.0 ∙ sym (put_other (put f m y) n x k (λ e. apart (sym e ∙ h.1)) ∙ ap (λ b. cond b y (f k)) h.0))
    (λ h. ap (λ b. cond b y (put f n x k)) h.0 ∙ ap (λ v. cond (k == n) x v) (sym (put_other f m y k h.1)))
    (tells k m))

pub or_second : (a b : Bool) → b ≡ true → (a || b) ≡ true
or_second true b is = refl
or_second false b is = is
