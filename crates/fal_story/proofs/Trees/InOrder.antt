-- Names that are sorted: the same ones, and each once where none was there twice.
use Rattle.std.proofs.Common.{◌≡◌, ◌⊎◌, inl, inr, ⊎_elim, ℕ, zero, suc, ◌<◌, true, false, cond, List, [], ◌∷◌, ◌++◌, length, slice_index_or, refl, sym, ap, ◌∙◌, subst, arith}
use Rattle.std.specs.Prelude.{Contains}
use Rattle.std.specs.Cmp.Lexicographic.{slice_cmp, nat_list_cmp_total}
use Rattle.std.specs.FinMap.{nat_cmp-IsAntisymmetric, slice_cmp-IsAntisymmetric}
use Rattle.std.specs.Ordering.{nat_cmp, is_lt, ordering_reverse}
use Rattle.std.specs.declared.cmp.Ordering.{Ordering}
use Rattle.std.specs.declared.cmp.Ordering.TheVariants.{Less, Equal, Greater}
use Rattle.fal_base.specs.Listing.{AreRising}
use Rattle.fal_client.specs.Names.{is_before, with_sorted, sorted_by}

-- the name stands in the list
abbrev pub Has : List ℕ → List (List ℕ) → Type 0
Has name [] = ⊥
Has name (other ∷ names) = (name ≡ other) ⊎ Has name names

pub has_of : (name : List ℕ) (names : List (List ℕ)) → Contains names name → Has name names
has_of name [] x = let below = x.1 in absurd (omega arith)
has_of name (other ∷ names) x = at (λ later. has_of name names later) x.0 x.1 x.2
  where
    at : (Contains names name → Has name names) → (k : ℕ) → k < suc (length names) → slice_index_or (other ∷ names) k name ≡ name → (name ≡ other) ⊎ Has name names
    at later zero below is = inl (sym is)
    at later (suc k) below is = inr (later (k, omega arith, is))

pub contains_of : (name : List ℕ) (names : List (List ℕ)) → Has name names → Contains names name
contains_of name [] h = absurd h
contains_of name (other ∷ names) h = ⊎_elim (λ same. (0, omega arith, sym same)) (λ later. let x = contains_of name names later in let below = x.1 in (suc x.0, omega arith, x.2)) h

pub has_left : (name : List ℕ) (xs ys : List (List ℕ)) → Has name xs → Has name (xs ++ ys)
has_left name [] ys h = absurd h
has_left name (x ∷ xs) ys h = ⊎_elim (λ same. inl same) (λ later. inr (has_left name xs ys later)) h

pub has_right : (name : List ℕ) (xs ys : List (List ℕ)) → Has name ys → Has name (xs ++ ys)
has_right name [] ys h = h
has_right name (x ∷ xs) ys h = inr (has_right name xs ys h)

pub has_joined : (name : List ℕ) (xs ys : List (List ℕ)) → Has name (xs ++ ys) → Has name xs ⊎ Has name ys
has_joined name [] ys h = inr h
has_joined name (x ∷ xs) ys h = ⊎_elim (λ same. inl (inl same)) (λ later. ⊎_elim (λ a. inl (inr a)) (λ b. inr b) (has_joined name xs ys later)) h

-- no name stands twice
abbrev pub IsOnce : List (List ℕ) → Type 0
IsOnce [] = Unit {0}
IsOnce (name ∷ names) = (Has name names → ⊥) × IsOnce names

-- so it is of two lists that share no name
pub once_joined : (xs ys : List (List ℕ)) → IsOnce xs → IsOnce ys → ((name : List ℕ) → Has name xs → Has name ys → ⊥) → IsOnce (xs ++ ys)
once_joined [] ys a b apart = b
once_joined (x ∷ xs) ys a b apart =
    (λ h. ⊎_elim (λ here. a.0 here) (λ there. apart x (inl refl) there) (has_joined x xs ys h), once_joined xs ys a.1 b (λ name h. apart name (inr h)))

-- ---- names that rise

less_itself : (name : List ℕ) → slice_cmp nat_cmp name name ≡ Less → ⊥
less_itself name is =
    let back : slice_cmp nat_cmp name name ≡ ordering_reverse (slice_cmp nat_cmp name name) = nat_list_cmp_total.antisymm name name in
    let wrong : Less ≡ Greater = sym is ∙ back ∙ ap ordering_reverse is in
    absurd (cc)

-- each later name is greater than the first
rising_after : (first : List ℕ) (names : List (List ℕ)) → AreRising (first ∷ names) → (name : List ℕ) → Has name names → slice_cmp nat_cmp first name ≡ Less
rising_after first [] up name h = absurd h
rising_after first (next ∷ names) up name h = ⊎_elim
    (λ same. subst (λ z. slice_cmp nat_cmp first z ≡ Less) (sym same) up.0)
    (λ later. nat_list_cmp_total.trans first next name up.0 (rising_after next names up.1 name later))
    h

rising_rest : (first : List ℕ) (names : List (List ℕ)) → AreRising (first ∷ names) → AreRising names
rising_rest first [] up = tt
rising_rest first (next ∷ names) up = up.1

-- names that rise stand once
pub once_rising : (names : List (List ℕ)) → AreRising names → IsOnce names
once_rising [] up = tt
once_rising (name ∷ names) up = (λ h. less_itself name (rising_after name names up name h), once_rising names (rising_rest name names up))

-- ---- sorted

is_less : (a b : List ℕ) → is_before a b ≡ true → slice_cmp nat_cmp a b ≡ Less
is_less a b is = less (slice_cmp nat_cmp a b) is
  where
    less : (r : Ordering) → is_lt r ≡ true → r ≡ Less
    less Less is = refl
    less Equal is = cc
    less Greater is = cc

-- of two names that differ one comes first
other_less : (a b : List ℕ) → (b ≡ a → ⊥) → is_before a b ≡ false → slice_cmp nat_cmp b a ≡ Less
other_less a b apart is =
    elim (slice_cmp nat_cmp a b) as (λ r. slice_cmp nat_cmp a b ≡ r → is_lt r ≡ false → slice_cmp nat_cmp b a ≡ Less) [
      | Less ↦ λ e wrong. absurd (cc)
      | Equal ↦ λ e w. absurd (apart (sym (slice_cmp-IsAntisymmetric nat_cmp-IsAntisymmetric a b e)))
      | Greater ↦ λ e w. nat_list_cmp_total.antisymm b a ∙ ap ordering_reverse e
    ] refl is

-- a name put at its place is there, and so are the others
pub has_with : (z x : List ℕ) (names : List (List ℕ)) → Has z (x ∷ names) → Has z (with_sorted is_before x names)
has_with z x [] h = h
has_with z x (y ∷ ys) h = elim (is_before y x) as (λ b. Has z (cond b (y ∷ with_sorted is_before x ys) (x ∷ y ∷ ys))) [
  | true ↦ ⊎_elim (λ same. inr (has_with z x ys (inl same))) (λ other. ⊎_elim (λ same. inl same) (λ later. inr (has_with z x ys (inr later))) other) h
  | false ↦ h
]

-- and no others are
pub with_has : (z x : List ℕ) (names : List (List ℕ)) → Has z (with_sorted is_before x names) → Has z (x ∷ names)
with_has z x [] h = h
with_has z x (y ∷ ys) h = (elim (is_before y x) as (λ b. Has z (cond b (y ∷ with_sorted is_before x ys) (x ∷ y ∷ ys)) → Has z (x ∷ y ∷ ys)) [
  | true ↦ λ h. ⊎_elim (λ same. inr (inl same)) (λ later. ⊎_elim (λ same. inl same) (λ there. inr (inr there)) (with_has z x ys later)) h
  | false ↦ λ h. h
]) h

pub has_sorted : (name : List ℕ) (names : List (List ℕ)) → Has name names → Has name (sorted_by is_before names)
has_sorted name [] h = h
has_sorted name (x ∷ xs) h = has_with name x (sorted_by is_before xs) (⊎_elim (λ same. inl same) (λ later. inr (has_sorted name xs later)) h)

pub sorted_has : (name : List ℕ) (names : List (List ℕ)) → Has name (sorted_by is_before names) → Has name names
sorted_has name [] h = h
sorted_has name (x ∷ xs) h = ⊎_elim (λ same. inl same) (λ later. inr (sorted_has name xs later)) (with_has name x (sorted_by is_before xs) h)

-- what rises with a name put at its place rises after a lesser one
rising_below : (y x : List ℕ) (ys : List (List ℕ)) → AreRising (y ∷ ys) → slice_cmp nat_cmp y x ≡ Less → AreRising (with_sorted is_before x ys) → AreRising (y ∷ with_sorted is_before x ys)
rising_below y x [] up less rest = (less, rest)
rising_below y x (z ∷ zs) up less rest = (elim (is_before z x) as (λ b. AreRising (cond b (z ∷ with_sorted is_before x zs) (x ∷ z ∷ zs)) → AreRising (y ∷ cond b (z ∷ with_sorted is_before x zs) (x ∷ z ∷ zs))) [
  | true ↦ λ rest. (up.0, rest)
  | false ↦ λ rest. (less, rest)
]) rest

rising_with : (x : List ℕ) (names : List (List ℕ)) → (Has x names → ⊥) → AreRising names → AreRising (with_sorted is_before x names)
rising_with x [] none up = tt
rising_with x (y ∷ ys) none up =
    elim (is_before y x) as (λ b. is_before y x ≡ b → AreRising (cond b (y ∷ with_sorted is_before x ys) (x ∷ y ∷ ys))) [
      | true ↦ λ before. rising_below y x ys up (is_less y x before) (rising_with x ys (λ h. none (inr h)) (rising_rest y ys up))
      | false ↦ λ after. (other_less y x (λ same. none (inl same)) after, up)
    ] refl

-- sorted names that stand once rise
pub rising_sorted : (names : List (List ℕ)) → IsOnce names → AreRising (sorted_by is_before names)
rising_sorted [] once = tt
rising_sorted (x ∷ xs) once = rising_with x (sorted_by is_before xs) (λ h. once.0 (sorted_has x xs h)) (rising_sorted xs once.1)
