-- Lists of keys in which each key stands once.
use Rattle.std.proofs.Common.{◌≡◌, true, false, not, ◌||◌, cond, List, [], ◌∷◌, ◌++◌, refl, sym, ap, subst, ◌∙◌}
use Rattle.fal_base.specs.declared.key.Key.{Key}
use Rattle.fal_base.specs.Tree.{same_key}
use Rattle.fal_base.proofs.Maps.{same_key_is}
use Rattle.fal_dentry.specs.Walk.{is_among}
use Rattle.fal_batch.specs.Keys.{with_key, with_keys, are_distinct}
use Rattle.fal_batch.proofs.Truth.{or_false, or_assoc, both, both_first, both_second, neither, neither_first, neither_second, not_true}

-- the order of both does not matter
pub same_turned : (a b : Key) → same_key a b ≡ same_key b a
same_turned a b =
    elim (same_key a b) as (λ x. same_key a b ≡ x → x ≡ same_key b a) [
      | true ↦ λ e. sym ((same_key_is b a).1 (sym ((same_key_is a b).0 e)))
      | false ↦ λ e.
          elim (same_key b a) as (λ y. same_key b a ≡ y → false ≡ y) [
            | true ↦ λ f. sym e ∙ (same_key_is a b).1 (sym ((same_key_is b a).0 f))
            | false ↦ λ f. refl
          ] refl
    ] refl

among_push : (key k : Key) (ks : List Key) → is_among key (ks ++ k ∷ []) ≡ (is_among key ks || same_key k key)
among_push key k [] = or_false (same_key k key)
among_push key k (x ∷ xs) = ap (λ b. same_key x key || b) (among_push key k xs) ∙ sym (or_assoc (same_key x key) (is_among key xs) (same_key k key))

among_kept : (key k : Key) (ks : List Key) → is_among k ks ≡ true → is_among key ks ≡ (is_among key ks || same_key k key)
among_kept key k ks is =
    elim (same_key k key) as (λ b. same_key k key ≡ b → is_among key ks ≡ (is_among key ks || b)) [
      | true ↦ λ same. let here : is_among key ks ≡ true = subst (λ q. is_among q ks ≡ true) ((same_key_is k key).0 same) is in here ∙ sym (ap (λ b. b || true) here)
      | false ↦ λ apart. sym (or_false (is_among key ks))
    ] refl

among_with : (key k : Key) (ks : List Key) → is_among key (with_key ks k) ≡ (is_among key ks || same_key k key)
among_with key k ks =
    elim (is_among k ks) as (λ b. is_among k ks ≡ b → is_among key (cond b ks (ks ++ k ∷ [])) ≡ (is_among key ks || same_key k key)) [
      | true ↦ λ is. among_kept key k ks is
      | false ↦ λ is. among_push key k ks
    ] refl

-- the keys with others have the keys of both
pub among_all : (key : Key) (others ks : List Key) → is_among key (with_keys ks others) ≡ (is_among key ks || is_among key others)
among_all key [] ks = sym (or_false (is_among key ks))
among_all key (o ∷ os) ks =
    among_all key os (with_key ks o) ∙ ap (λ b. b || is_among key os) (among_with key o ks) ∙ or_assoc (is_among key ks) (same_key o key) (is_among key os)

distinct_push : (k : Key) (ks : List Key) → are_distinct ks ≡ true → is_among k ks ≡ false → are_distinct (ks ++ k ∷ []) ≡ true
distinct_push k [] h apart = refl
distinct_push k (x ∷ xs) h apart =
    let far : is_among x xs ≡ false = not_true _ (both_first (not (is_among x xs)) (are_distinct xs) h) in
    let other : same_key k x ≡ false = same_turned k x ∙ neither_first (same_key x k) (is_among k xs) apart in
    let alone : is_among x (xs ++ k ∷ []) ≡ false = among_push x k xs ∙ neither _ _ far other in
    both _ _ (ap not alone) (distinct_push k xs (both_second (not (is_among x xs)) (are_distinct xs) h) (neither_second (same_key x k) (is_among k xs) apart))

-- with one more key they stay distinct
pub distinct_with : (k : Key) (ks : List Key) → are_distinct ks ≡ true → are_distinct (with_key ks k) ≡ true
distinct_with k ks h =
    elim (is_among k ks) as (λ b. is_among k ks ≡ b → are_distinct (cond b ks (ks ++ k ∷ [])) ≡ true) [
      | true ↦ λ is. h
      | false ↦ λ is. distinct_push k ks h is
    ] refl

-- they stay distinct
pub distinct_all : (others ks : List Key) → are_distinct ks ≡ true → are_distinct (with_keys ks others) ≡ true
distinct_all [] ks h = h
distinct_all (o ∷ os) ks h = distinct_all os (with_key ks o) (distinct_with o ks h)
