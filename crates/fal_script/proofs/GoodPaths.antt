-- The names of a path that was read are names, and few.
use Rattle.std.proofs.Common.{◌≡◌, ℕ, ◌+◌, ◌<◌, ◌≤◌, nat_lt, Bool, true, false, not, ◌||◌, ◌&&◌, cond, List, [], ◌∷◌, length, filter, Ok, Err, refl, ap, ◌∙◌, subst, arith}
use Rattle.std.specs.Prelude.{◌==◌, nat_le, is_ok}
use Rattle.std.specs.List.{AllByRecursion, list_any, list_all, slice_split, onto_first, starts_with}
use Rattle.std.proofs.lemmas.Bool.Decides.{nat_tests}
use Rattle.std.proofs.lemmas.List.Sums.{sum_by-cons}
use Rattle.fal_base.specs.declared.name.NameFault.TheVariants as name
use Rattle.fal_base.specs.declared.path.PathFault.TheVariants.{Relative, TooLong, NameTooLong, Dot, ZeroByte}
use Rattle.fal_base.specs.Paths.{breaks, components, is_dot, path_of}
use Rattle.fal_base.specs.Names.{is_name}
use Rattle.fal_base.specs.Paths.{path_bytes}

-- ---- tests of lists

neither : (a b : Bool) → (a || b) ≡ false → (a ≡ false) × (b ≡ false)
neither true b e = absurd (cc)
neither false b e = (refl, e)

none_of : {A : Type 0} (test : A → Bool) (xs : List A) → list_any test xs ≡ false → AllByRecursion (λ x. test x ≡ false) xs
none_of test [] e = tt
none_of test (x ∷ xs) e = let both = neither (test x) (list_any test xs) e in (both.0, none_of test xs both.1)

pub each_kept : {A : Type 0} (P : A → Type 0) (test : A → Bool) (xs : List A) → AllByRecursion P xs → AllByRecursion (λ x. P x × (test x ≡ true)) (filter test xs)
each_kept P test [] each = tt
each_kept P test (x ∷ xs) each =
    elim (test x) as (λ b. test x ≡ b → AllByRecursion (λ y. P y × (test y ≡ true)) (cond b (x ∷ filter test xs) (filter test xs))) [
      | true ↦ λ is. ((each.0, is), each_kept P test xs each.1)
      | false ↦ λ is. each_kept P test xs each.1
    ] refl

pub each_of_both : {A : Type 0} (P Q : A → Type 0) (xs : List A) → AllByRecursion P xs → AllByRecursion Q xs → AllByRecursion (λ x. P x × Q x) xs
each_of_both P Q [] h k = tt
each_of_both P Q (x ∷ xs) h k = ((h.0, k.0), each_of_both P Q xs h.1 k.1)

-- ---- the parts between slashes

onto_none : (test : ℕ → Bool) (x : ℕ) (parts : List (List ℕ)) → test x ≡ false → AllByRecursion (λ part. list_any test part ≡ false) parts → AllByRecursion (λ part. list_any test part ≡ false) (onto_first x parts)
onto_none test x [] is each = (ap (λ b. b || false) is, tt)
onto_none test x (part ∷ parts) is each = (ap (λ b. b || list_any test part) is ∙ each.0, each.1)

-- no part has a byte at which it was cut
parts_uncut : (cut : ℕ → Bool) (bytes : List ℕ) → AllByRecursion (λ part. list_any cut part ≡ false) (slice_split cut bytes)
parts_uncut cut [] = (refl, tt)
parts_uncut cut (x ∷ bytes) =
    let rest = parts_uncut cut bytes in
    elim (cut x) as (λ b. cut x ≡ b → AllByRecursion (λ part. list_any cut part ≡ false) (cond b ([] ∷ slice_split cut bytes) (onto_first x (slice_split cut bytes)))) [
      | true ↦ λ is. (refl, rest)
      | false ↦ λ is. onto_none cut x (slice_split cut bytes) is rest
    ] refl

-- no part has a byte that the whole has not
parts_without : (cut test : ℕ → Bool) (bytes : List ℕ) → list_any test bytes ≡ false → AllByRecursion (λ part. list_any test part ≡ false) (slice_split cut bytes)
parts_without cut test [] none = (refl, tt)
parts_without cut test (x ∷ bytes) none =
    let both = neither (test x) (list_any test bytes) none in
    let rest = parts_without cut test bytes both.1 in
    elim (cut x) as (λ b. AllByRecursion (λ part. list_any test part ≡ false) (cond b ([] ∷ slice_split cut bytes) (onto_first x (slice_split cut bytes)))) [
      | true ↦ (refl, rest)
      | false ↦ onto_none test x (slice_split cut bytes) both.0 rest
    ]

onto_bytes : (x : ℕ) (parts : List (List ℕ)) → 0 < path_bytes parts → path_bytes (onto_first x parts) ≡ path_bytes parts + 1
onto_bytes x [] some = absurd (omega arith)
onto_bytes x (part ∷ parts) some =
    let before = sum_by-cons (λ (n : List ℕ). length n + 1) part parts in
    let after = sum_by-cons (λ (n : List ℕ). length n + 1) (x ∷ part) parts in
    omega arith

-- the parts have the bytes, and a cut after each but the last
parts_bytes : (cut : ℕ → Bool) (bytes : List ℕ) → path_bytes (slice_split cut bytes) ≡ length bytes + 1
parts_bytes cut [] = let one = sum_by-cons (λ (n : List ℕ). length n + 1) [] [] in omega arith
parts_bytes cut (x ∷ bytes) =
    let rest = parts_bytes cut bytes in
    elim (cut x) as (λ b. path_bytes (cond b ([] ∷ slice_split cut bytes) (onto_first x (slice_split cut bytes))) ≡ length (x ∷ bytes) + 1) [
      | true ↦ let more = sum_by-cons (λ (n : List ℕ). length n + 1) [] (slice_split cut bytes) in omega arith
      | false ↦ let more = onto_bytes x (slice_split cut bytes) (omega arith) in omega arith
    ]

kept_bytes : (test : List ℕ → Bool) (parts : List (List ℕ)) → path_bytes (filter test parts) ≤ path_bytes parts
kept_bytes test [] = omega arith
kept_bytes test (part ∷ parts) =
    let rest = kept_bytes test parts in
    let all = sum_by-cons (λ (n : List ℕ). length n + 1) part parts in
    elim (test part) as (λ b. path_bytes (cond b (part ∷ filter test parts) (filter test parts)) ≤ path_bytes (part ∷ parts)) [
      | true ↦ let kept = sum_by-cons (λ (n : List ℕ). length n + 1) part (filter test parts) in omega arith
      | false ↦ omega arith
    ]

-- ---- a path that was read

-- the bytes break no rule
pub record Passes (bytes : List ℕ) (names : List (List ℕ)) : Type 0 where
  absolute : breaks Relative bytes ≡ false
  short : breaks TooLong bytes ≡ false
  short_names : breaks NameTooLong bytes ≡ false
  no_dot : breaks Dot bytes ≡ false
  no_zero : breaks ZeroByte bytes ≡ false
  pub names_are : components bytes ≡ names

all_passed : (a b c d e : Bool) (r names : List (List ℕ)) → cond a (Err Relative) (cond b (Err TooLong) (cond c (Err NameTooLong) (cond d (Err Dot) (cond e (Err ZeroByte) (Ok r))))) ≡ Ok names
    → (a ≡ false) × (b ≡ false) × (c ≡ false) × (d ≡ false) × (e ≡ false) × (r ≡ names)
all_passed true b c d e r names is = absurd (cc)
all_passed false true c d e r names is = absurd (cc)
all_passed false false true d e r names is = absurd (cc)
all_passed false false false true e r names is = absurd (cc)
all_passed false false false false true r names is = absurd (cc)
all_passed false false false false false r names is = (refl, refl, refl, refl, refl, cc)

pub passes : (bytes : List ℕ) (names : List (List ℕ)) → path_of bytes ≡ Ok names → Passes bytes names
unfolding path_of
passes bytes names is =
    let all = all_passed (breaks Relative bytes) (breaks TooLong bytes) (breaks NameTooLong bytes) (breaks Dot bytes) (breaks ZeroByte bytes) (components bytes) names is in
    record { absolute = all.0; short = all.1; short_names = all.2; no_dot = all.3; no_zero = all.4; names_are = all.5 }

is_true : (b : Bool) → not b ≡ false → b ≡ true
is_true true e = refl
is_true false e = absurd (cc)

-- the slash before the first name has a part of its own
bytes_of : (bytes : List ℕ) → breaks Relative bytes ≡ false → path_bytes (components bytes) ≤ length bytes
bytes_of [] absolute = absurd (cc)
bytes_of (x ∷ bytes) absolute =
    elim (x == 47) as (λ b. (x == 47) ≡ b → path_bytes (filter (λ part. nat_lt 0 (length part)) (cond b ([] ∷ slice_split (λ c. c == 47) bytes) (onto_first x (slice_split (λ c. c == 47) bytes)))) ≤ length (x ∷ bytes)) [
      | true ↦ λ is. let kept = kept_bytes (λ part. nat_lt 0 (length part)) (slice_split (λ c. c == 47) bytes) in let all = parts_bytes (λ c. c == 47) bytes in omega arith
      | false ↦ λ is. absurd (away is (is_true (starts_with ◌==◌ (x ∷ bytes) (47 ∷ [])) absolute))
    ] refl
  where
    away : (x == 47) ≡ false → ((47 == x) && true) ≡ true → ⊥
    away is e = grind (arith, nat_tests)

is_full : (name : List ℕ) → nat_lt 0 (length name) ≡ true → (length name == 0) ≡ false
is_full name e = grind (arith, nat_tests)

named : (a b c d e : Bool) (bytes : List ℕ) → a ≡ false → b ≡ false → c ≡ false → d ≡ false → e ≡ false
    → is_ok (cond a (Err name.Empty) (cond b (Err name.TooLong) (cond c (Err name.Slash) (cond d (Err name.ZeroByte) (cond e (Err name.Dot) (Ok bytes)))))) ≡ true
named true b c d e bytes p q r s t = absurd (cc)
named false true c d e bytes p q r s t = absurd (cc)
named false false true d e bytes p q r s t = absurd (cc)
named false false false true e bytes p q r s t = absurd (cc)
named false false false false true bytes p q r s t = absurd (cc)
named false false false false false bytes p q r s t = refl

abbrev IsPart : List ℕ → Type 0
IsPart part = ((list_any (λ b. b == 47) part ≡ false) × (list_any (λ b. b == 0) part ≡ false)) × (nat_lt 0 (length part) ≡ true)

abbrev IsShort : List ℕ → Type 0
IsShort part = (nat_lt 255 (length part) ≡ false) × (is_dot part ≡ false)

all_names : (names : List (List ℕ)) → AllByRecursion IsPart names → AllByRecursion IsShort names → list_all is_name names ≡ true
unfolding is_name
all_names [] parts short = refl
all_names (name ∷ names) parts short =
    let this : is_name name ≡ true =
    named (length name == 0) (nat_lt 255 (length name)) (list_any (λ b. b == 47) name) (list_any (λ b. b == 0) name) (is_dot name) name (is_full name parts.0.1) short.0.0 parts.0.0.0 parts.0.0.1 short.0.1 in
    ap (λ b. b && list_all is_name names) this ∙ all_names names parts.1 short.1

-- the names of a path that was read are names, and with a slash before each they have at most 4,095 bytes
pub good_path : (bytes : List ℕ) (names : List (List ℕ)) → path_of bytes ≡ Ok names → (nat_le (path_bytes names) 4095 ≡ true) × (list_all is_name names ≡ true)
good_path bytes names is =
    let p = passes bytes names is in
    let parts =
    each_kept (λ part. (list_any (λ b. b == 47) part ≡ false) × (list_any (λ b. b == 0) part ≡ false)) (λ part. nat_lt 0 (length part)) (slice_split (λ b. b == 47) bytes)
    (each_of_both _ _ (slice_split (λ b. b == 47) bytes) (parts_uncut (λ b. b == 47) bytes) (parts_without (λ b. b == 47) (λ b. b == 0) bytes p.no_zero)) in
    let short = each_of_both _ _ (components bytes) (none_of (λ name. nat_lt 255 (length name)) (components bytes) p.short_names) (none_of is_dot (components bytes) p.no_dot) in
    subst (λ (ns : List (List ℕ)). (nat_le (path_bytes ns) 4095 ≡ true) × (list_all is_name ns ≡ true)) p.names_are
    (few (path_bytes (components bytes)) (length bytes) (bytes_of bytes p.absolute) p.short, all_names (components bytes) parts short)
  where
    few : (a b : ℕ) → a ≤ b → nat_lt 4095 b ≡ false → nat_le a 4095 ≡ true
    few a b le short = grind (arith, nat_tests)
