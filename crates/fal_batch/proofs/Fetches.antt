-- The fetch of a key, among those that are to be opened.
use Rattle.std.proofs.Common.{◌≡◌, ℕ, suc, ◌+◌, Bool, true, false, not, cond, List, [], ◌∷◌, ◌++◌, length, get_or, set, nat_lt, ◌||◌, Some, None, refl, sym, ap, subst, arith}
use Rattle.std.specs.List.{position, prefix_len}
use Rattle.std.proofs.lemmas.Bool.Decides.{nat_tests}
use Rattle.fal_base.specs.declared.key.Key.{Key}
use Rattle.fal_base.specs.Tree.{same_key}
use Rattle.fal_batch.specs.declared.parts.Wanted.{Wanted}
use Rattle.fal_batch.specs.Plan.{is_wanted, with_waiter}

abbrev pub before : Key → List Wanted → ℕ
before key fetches = prefix_len (λ wanted. not (same_key wanted.key key)) fetches

-- one more waiter
abbrev pub joined : Wanted → ℕ → Wanted
joined wanted ticket = record wanted { waiters = wanted.waiters ++ ticket ∷ [] }

found : (key : Key) (ticket : ℕ) (fetches : List Wanted) (x : Wanted) → nat_lt (before key fetches) (length fetches) ≡ true → x ≡ get_or fetches (before key fetches) x
    → (is_wanted fetches key ≡ true) × (set fetches (before key fetches) (joined x ticket) ≡ with_waiter fetches key ticket)
found key ticket [] x lt is = cc
found key ticket (y ∷ ys) x lt is =
    elim (same_key y.key key) as (λ b. nat_lt (cond (not b) (1 + before key ys) 0) (suc (length ys)) ≡ true → x ≡ get_or (y ∷ ys) (cond (not b) (1 + before key ys) 0) x
    → ((b || is_wanted ys key) ≡ true) × (set (y ∷ ys) (cond (not b) (1 + before key ys) 0) (joined x ticket) ≡ cond b (joined y ticket ∷ ys) (y ∷ with_waiter ys key ticket))) [
      | true ↦ λ h e. (refl, ap (λ z. joined z ticket ∷ ys) e)
      | false ↦ λ h e.
          let more : 1 + before key ys ≡ suc (before key ys) = omega arith in
          let here : nat_lt (before key ys) (length ys) ≡ true = grind (arith, nat_tests) in
          let rest = found key ticket ys x here (subst (λ n. x ≡ get_or (y ∷ ys) n x) more e) in
          (rest.0, subst (λ n. set (y ∷ ys) n (joined x ticket) ≡ y ∷ with_waiter ys key ticket) (sym more) (ap (λ zs. y ∷ zs) rest.1))
    ] lt is

missing : (key : Key) (fetches : List Wanted) → nat_lt (before key fetches) (length fetches) ≡ false → is_wanted fetches key ≡ false
missing key [] past = refl
missing key (y ∷ ys) past =
    elim (same_key y.key key) as (λ b. nat_lt (cond (not b) (1 + before key ys) 0) (suc (length ys)) ≡ false → (b || is_wanted ys key) ≡ false) [
      | true ↦ λ h. absurd (grind (arith, nat_tests))
      | false ↦ λ h. missing key ys (grind (arith, nat_tests))
    ] past

chosen : (b : Bool) (n i : ℕ) → cond b (Some n) None ≡ Some i → (b ≡ true) × (n ≡ i)
chosen true n i is = (refl, cc)
chosen false n i is = cc

missed : (b : Bool) (n : ℕ) → cond b (Some n) None ≡ None → b ≡ false
missed true n is = cc
missed false n is = refl

-- the fetch at the place of the key's takes one more waiter
pub joined_at : (key : Key) (ticket : ℕ) (fetches : List Wanted) (i : ℕ) (x : Wanted) → position (λ wanted. same_key wanted.key key) fetches ≡ Some i → x ≡ get_or fetches i x
    → (is_wanted fetches key ≡ true) × (set fetches i (joined x ticket) ≡ with_waiter fetches key ticket)
joined_at key ticket fetches i x place is =
    let at = chosen (nat_lt (before key fetches) (length fetches)) (before key fetches) i place in
    let result = found key ticket fetches x at.0 (subst (λ n. x ≡ get_or fetches n x) (sym at.1) is) in
    (result.0, subst (λ n. set fetches n (joined x ticket) ≡ with_waiter fetches key ticket) at.1 result.1)

-- no fetch is the key's
pub not_wanted : (key : Key) (fetches : List Wanted) → position (λ wanted. same_key wanted.key key) fetches ≡ None → is_wanted fetches key ≡ false
not_wanted key fetches place = missing key fetches (missed (nat_lt (before key fetches) (length fetches)) (before key fetches) place)

-- a key that no fetch has gets one of its own
pub opened : (key : Key) (ticket : ℕ) (fetches : List Wanted) → is_wanted fetches key ≡ false → with_waiter fetches key ticket ≡ fetches ++ record { key = key; waiters = ticket ∷ [] } ∷ []
opened key ticket [] apart = refl
opened key ticket (y ∷ ys) apart =
    elim (same_key y.key key) as (λ b. (b || is_wanted ys key) ≡ false → cond b (joined y ticket ∷ ys) (y ∷ with_waiter ys key ticket) ≡ y ∷ ys ++ record { key = key; waiters = ticket ∷ [] } ∷ []) [
      | true ↦ λ h. cc
      | false ↦ λ h. ap (λ zs. y ∷ zs) (opened key ticket ys h)
    ] apart
