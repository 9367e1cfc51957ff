-- Sums over views, entries of one actor, and numbers in a ring.
use Rattle.std.proofs.Common.{true, false, ◌≡◌, ◌≢◌, ◌⊎◌, inl, inr, ⊎_elim, ℕ, zero, suc, ◌+◌, ◌-◌, ◌%◌, ◌<◌, ◌≤◌, cond, eqb, List, [], ◌∷◌, ◌++◌, length, set, sym, refl, ap, ◌∙◌, arith, append_assoc, append-nil, length-append, eq-eqb, ne_eqb, mod-eq_of_lt}
use Rattle.std.specs.Prelude.{Option, Some, None}
use Rattle.std.proofs.Math.Nat.{mod-add-mod}
use mathlib.Core.Option.{some, some-injective, some-ne-none}
use lib.ListN.{get_elem?}
use Rattle.atomic_table.proofs.Lists.{one_turn}
use Rattle.fal_book.specs.Entries.{entries_of, StartsWith}
use Rattle.fal_book.specs.Rule.{total}

pub none_or : {A : Type 0} (o : Option A) → (o ≡ None) ⊎ ((a : A) × (o ≡ Some a))
none_or None = inl refl
none_or (Some a) = inr (a, refl)

-- the total after a change of one view
pub total_set : {V : Type 0} (f : V → ℕ) (vs : List V) (id : ℕ) (v w : V) → get_elem? vs id ≡ some v → total f (set vs id w) + f v ≡ total f vs + f w
total_set f [] id v w e = absurd (some-ne-none v (sym e))
total_set f (x ∷ xs) zero v w e = let same : f x ≡ f v = ap f (some-injective x v e) in omega arith
total_set f (x ∷ xs) (suc i) v w e = let h = total_set f xs i v w e in omega arith

pub total_append : {V : Type 0} (f : V → ℕ) (vs ws : List V) → total f (vs ++ ws) ≡ total f vs + total f ws
total_append f [] ws = omega arith
total_append f (x ∷ xs) ws = let h = total_append f xs ws in omega arith

pub total_below : {V : Type 0} (f : V → ℕ) (vs : List V) → ((v : V) → f v ≤ 1) → total f vs ≤ length vs
total_below f [] h = omega arith
total_below f (x ∷ xs) h = let a = h x in let b = total_below f xs h in omega arith

pub one_at : {V : Type 0} (f : V → ℕ) (vs : List V) (i : ℕ) (v : V) → get_elem? vs i ≡ some v → f v ≤ total f vs
one_at f [] i v a = absurd (some-ne-none v (sym a))
one_at f (x ∷ xs) zero v a = let same : f x ≡ f v = ap f (some-injective x v a) in omega arith
one_at f (x ∷ xs) (suc i) v a = let h = one_at f xs i v a in omega arith

-- where one view has all of the total, another has none of it
pub one_has_all : {V : Type 0} (f : V → ℕ) (vs : List V) (i j : ℕ) (v w : V) → get_elem? vs i ≡ some v → get_elem? vs j ≡ some w → i ≢ j → f v + f w ≤ total f vs
one_has_all f [] i j v w a b n = absurd (some-ne-none v (sym a))
one_has_all f (x ∷ xs) zero zero v w a b n = absurd (n refl)
one_has_all f (x ∷ xs) zero (suc j) v w a b n = let same : f x ≡ f v = ap f (some-injective x v a) in let h = one_at f xs j w b in omega arith
one_has_all f (x ∷ xs) (suc i) zero v w a b n = let same : f x ≡ f w = ap f (some-injective x w b) in let h = one_at f xs i v a in omega arith
one_has_all f (x ∷ xs) (suc i) (suc j) v w a b n = let h = one_has_all f xs i j v w a b (λ e. n (ap suc e)) in omega arith

pub at_inside : {A : Type 0} (l : List A) (i : ℕ) (a : A) → get_elem? l i ≡ some a → i < length l
at_inside [] i a e = absurd (some-ne-none a (sym e))
at_inside (x ∷ xs) zero a e = omega arith
at_inside (x ∷ xs) (suc i) a e = let h = at_inside xs i a e in omega arith

pub starts_here : {E : Type 0} (xs : List E) → StartsWith xs xs
starts_here xs = record { rest = []; is = sym (append-nil xs) }

pub starts_on : {E : Type 0} (a b c : List E) → StartsWith b a → StartsWith c b → StartsWith c a
starts_on a b c p q = record { rest = p.rest ++ q.rest; is = q.is ∙ (ap (λ z. z ++ q.rest) p.is ∙ append_assoc a p.rest q.rest) }

pub starts_length : {E : Type 0} (a b : List E) → StartsWith b a → length a ≤ length b
starts_length a b p = omega (arith, length-append a p.rest, ap length p.is)

module _ {E : Type 0} (actor : E → ℕ) where
  pub entries_of-append : (n : ℕ) (xs ys : List E) → entries_of actor n (xs ++ ys) ≡ entries_of actor n xs ++ entries_of actor n ys
  entries_of-append n [] ys = refl
  entries_of-append n (x ∷ xs) ys = let h = entries_of-append n xs ys in
      elim (eqb (actor x) n) as (λ b. cond b (x ∷ entries_of actor n (xs ++ ys)) (entries_of actor n (xs ++ ys)) ≡ cond b (x ∷ entries_of actor n xs) (entries_of actor n xs) ++ entries_of actor n ys)
      [ true ↦ ap (λ z. x ∷ z) h | false ↦ h ]

  pub entries_of-own : (n : ℕ) (xs : List E) (e : E) → actor e ≡ n → entries_of actor n (xs ++ e ∷ []) ≡ entries_of actor n xs ++ e ∷ []
  entries_of-own n xs e is = entries_of-append n xs (e ∷ []) ∙ ap (λ b. entries_of actor n xs ++ cond b (e ∷ []) []) (eq-eqb (actor e) n is)

  pub entries_of-other : (n : ℕ) (xs : List E) (e : E) → actor e ≢ n → entries_of actor n (xs ++ e ∷ []) ≡ entries_of actor n xs
  entries_of-other n xs e not_its = entries_of-append n xs (e ∷ []) ∙ (ap (λ b. entries_of actor n xs ++ cond b (e ∷ []) []) (ne_eqb (actor e) n not_its) ∙ append-nil (entries_of actor n xs))

-- the number k places on from a number in the ring
pub ring_apart : (n a j k : ℕ) → j < k → k < n → (a + j) % n ≡ (a + k) % n → ⊥
ring_apart n a j k less small e = let same : a + j ≡ a + k = one_turn (a + j) (a + k) n (omega arith) (omega arith) e in omega arith

pub ring_step : (n a k : ℕ) → ((a + 1) % n + k) % n ≡ (a + (k + 1)) % n
ring_step n a k = mod-add-mod (a + 1) n k ∙ ap (λ z. z % n) (omega arith)

pub ring_more : (n a b k : ℕ) → a ≡ (b + k) % n → (a + 1) % n ≡ (b + (k + 1)) % n
ring_more n a b k e = ap (λ z. (z + 1) % n) e ∙ (mod-add-mod (b + k) n 1 ∙ ap (λ z. z % n) (omega arith))

-- one place further on, counted from the next number
pub ring_back : (n a k : ℕ) → 0 < k → (a + k) % n ≡ ((a + 1) % n + (k - 1)) % n
ring_back n a k some_way = ap (λ z. (a + z) % n) (omega arith) ∙ sym (ring_step n a (k - 1))

-- a number of the ring other than the first is past it
pub ring_off : (n a k t : ℕ) → a < n → t ≡ (a + k) % n → t ≢ a → 0 < k
ring_off n a zero t small is differ = absurd (differ (is ∙ (ap (λ z. z % n) (omega arith) ∙ mod-eq_of_lt small)))
ring_off n a (suc k) t small is differ = omega arith

-- an item of a list with one more is one of the list, or the last
pub at_end : {A : Type 0} (l : List A) (a b : A) (j : ℕ) → get_elem? (l ++ a ∷ []) j ≡ some b → (get_elem? l j ≡ some b) ⊎ ((j ≡ length l) × (a ≡ b))
at_end [] a b zero e = inr (refl, some-injective a b e)
at_end [] a b (suc j) e = absurd (some-ne-none b (sym e))
at_end (x ∷ xs) a b zero e = inl e
at_end (x ∷ xs) a b (suc j) e = ⊎_elim (λ h. inl h) (λ (t : (j ≡ length xs) × (a ≡ b)). inr (ap suc t.0, t.1)) (at_end xs a b j e)

-- an item of two lists is one of the first or of the second
pub at_either : {A : Type 0} (l m : List A) (b : A) (j : ℕ) → get_elem? (l ++ m) j ≡ some b → (get_elem? l j ≡ some b) ⊎ ((k : ℕ) × (get_elem? m k ≡ some b))
at_either [] m b j e = inr (j, e)
at_either (x ∷ xs) m b zero e = inl e
at_either (x ∷ xs) m b (suc j) e = at_either xs m b j e
