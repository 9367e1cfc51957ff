-- Paths and names that are printed are read back.
use Rattle.std.proofs.Common.{◌≡◌, ℕ, ◌+◌, ◌<◌, ◌≤◌, Bool, true, false, cond, ◌||◌, nat_lt, List, [], ◌∷◌, ◌++◌, length, filter, Some, Result, Ok, Err, refl, ap, ◌∙◌, arith, append-nil, length-append}
use Rattle.std.specs.Prelude.{◌==◌, is_ok, codes}
use Rattle.std.specs.List.{All, AllByRecursion, list_all, list_any, slice_split}
use Rattle.std.proofs.lemmas.Bool.{and_parts}
use Rattle.std.proofs.lemmas.Bool.Decides.{nat_tests}
use Rattle.std.proofs.lemmas.List.Elements.{All-nil, All-cons, recursion_from_All}
use Rattle.std.proofs.lemmas.List.Splits.{slice_split_none, slice_split_at}
use Rattle.std.proofs.lemmas.List.Sums.{sum_by-cons}
use Rattle.fal_base.specs.declared.name.NameFault.TheVariants as name
use Rattle.fal_base.specs.declared.path.PathArg.{PathArg}
use Rattle.fal_base.specs.declared.path.PathArg.TheVariants.{Good, Bad}
use Rattle.fal_base.specs.declared.path.PathFault.{PathFault}
use Rattle.fal_base.specs.declared.path.PathFault.TheVariants.{TooLong, NameTooLong, Dot, ZeroByte}
use Rattle.fal_base.specs.Names.{name_of, is_name}
use Rattle.fal_base.specs.PathArgs.{arg_of, err_of, path_arg_of}
use Rattle.fal_base.specs.Paths.{breaks, components, is_dot, path_bytes, path_of}
use Rattle.fal_report.specs.Calls.{path_text}
use Rattle.fal_report.specs.Escapes.{escaped, each_after}
use Rattle.fal_script.specs.Arguments.{bytes_word, path_word, judged_name, name_word}
use Rattle.fal_script.specs.Escapes.{unescaped}
use Rattle.fal_script.specs.Printed.{AreBytes, IsPrintablePath, IsPrintableName}
use Rattle.fal_script.proofs.ReadBack.Escapes.{escaped_read, escaped_is_word, joined, names_read, names_dark}
use Rattle.fal_script.proofs.ReadBack.Words.{IsWord}

-- ---- names

-- what is no fault of a name
record IsNamed (bytes : List ℕ) : Type 0 where
  some : (length bytes == 0) ≡ false
  short : nat_lt 255 (length bytes) ≡ false
  no_slash : list_any (λ b. b == 47) bytes ≡ false
  no_zero : list_any (λ b. b == 0) bytes ≡ false
  no_dot : is_dot bytes ≡ false

tests : (a b c d e : Bool) (bytes : List ℕ) → is_ok (cond a (Err name.Empty) (cond b (Err name.TooLong) (cond c (Err name.Slash) (cond d (Err name.ZeroByte) (cond e (Err name.Dot) (Ok bytes)))))) ≡ true
    → (a ≡ false) × (b ≡ false) × (c ≡ false) × (d ≡ false) × (e ≡ false)
tests true b c d e bytes is = absurd (cc)
tests false true c d e bytes is = absurd (cc)
tests false false true d e bytes is = absurd (cc)
tests false false false true e bytes is = absurd (cc)
tests false false false false true bytes is = absurd (cc)
tests false false false false false bytes is = (refl, refl, refl, refl, refl)

is_named : (bytes : List ℕ) → is_name bytes ≡ true → IsNamed bytes
unfolding is_name
is_named bytes is =
    let t = tests (length bytes == 0) (nat_lt 255 (length bytes)) (list_any (λ b. b == 47) bytes) (list_any (λ b. b == 0) bytes) (is_dot bytes) bytes is in
    record { some = t.0; short = t.1; no_slash = t.2; no_zero = t.3; no_dot = t.4 }

all_named : (names : List (List ℕ)) → list_all is_name names ≡ true → AllByRecursion IsNamed names
all_named [] are = tt
all_named (bytes ∷ names) are = let p = and_parts (is_name bytes) (list_all is_name names) are in (is_named bytes p.0, all_named names p.1)

has_bytes : (bytes : List ℕ) → (length bytes == 0) ≡ false → 0 < length bytes
has_bytes bytes some = grind (arith, nat_tests)

name_is : (bytes : List ℕ) → IsNamed bytes → name_of bytes ≡ Ok bytes
name_is bytes is = rw (is.some, is.short, is.no_slash, is.no_zero, is.no_dot) refl

pub name_read : (bytes : List ℕ) → IsPrintableName bytes → name_word (escaped bytes) ≡ Ok bytes
unfolding name_word bytes_word
name_read bytes is =
    rw (escaped_read bytes (recursion_from_All (λ b. b < 256) bytes is.1)) (ap judged_name (name_is bytes (is_named bytes is.0)))

pub name_is_word : (bytes : List ℕ) → IsPrintableName bytes → IsWord (escaped bytes)
name_is_word bytes is = escaped_is_word bytes (has_bytes bytes (is_named bytes is.0).some)

-- ---- the names of a joined path

uncut : (bytes : List ℕ) → list_any (λ b. b == 47) bytes ≡ false → All (λ b. (b == 47) ≡ false) bytes
uncut [] none = All-nil (λ b. (b == 47) ≡ false)
uncut (b ∷ bytes) none = let p = neither (b == 47) (list_any (λ c. c == 47) bytes) none in All-cons (λ c. (c == 47) ≡ false) b bytes p.0 (uncut bytes p.1)
  where
    neither : (a c : Bool) → (a || c) ≡ false → (a ≡ false) × (c ≡ false)
    neither true c e = absurd (cc)
    neither false c e = (refl, e)

parts_are : (first : List ℕ) (names : List (List ℕ)) → IsNamed first → AllByRecursion IsNamed names → slice_split (λ b. b == 47) (first ++ joined names) ≡ first ∷ names
parts_are first [] is are = ap (slice_split (λ b. b == 47)) (append-nil first) ∙ slice_split_none (λ b. b == 47) first (uncut first is.no_slash)
parts_are first (next ∷ names) is are = slice_split_at (λ b. b == 47) first 47 (next ++ joined names) (uncut first is.no_slash) refl ∙ ap (λ parts. first ∷ parts) (parts_are next names are.0 are.1)

full : (bytes : List ℕ) → (length bytes == 0) ≡ false → nat_lt 0 (length bytes) ≡ true
full bytes some = grind (arith, nat_tests)

all_kept : (names : List (List ℕ)) → AllByRecursion IsNamed names → filter (λ part. nat_lt 0 (length part)) names ≡ names
all_kept [] are = refl
all_kept (bytes ∷ names) are = rw (full bytes are.0.some) (ap (λ ns. bytes ∷ ns) (all_kept names are.1))

components_are : (first : List ℕ) (names : List (List ℕ)) → IsNamed first → AllByRecursion IsNamed names → components (joined (first ∷ names)) ≡ first ∷ names
components_are first names is are = ap (filter (λ part. nat_lt 0 (length part))) (parts_are first names is are) ∙ all_kept (first ∷ names) (is, are)

none_any : {A : Type 0} (test : A → Bool) (xs : List A) → AllByRecursion (λ x. test x ≡ false) xs → list_any test xs ≡ false
none_any test [] each = refl
none_any test (x ∷ xs) each = rw (each.0) (none_any test xs each.1)

any_append : (test : ℕ → Bool) (a b : List ℕ) → list_any test a ≡ false → list_any test b ≡ false → list_any test (a ++ b) ≡ false
any_append test [] b first second = second
any_append test (x ∷ a) b first second = by (test x) (any_append test a b) first second
  where
    by : (t : Bool) → (list_any test a ≡ false → list_any test b ≡ false → list_any test (a ++ b) ≡ false) → (t || list_any test a) ≡ false → list_any test b ≡ false → (t || list_any test (a ++ b)) ≡ false
    by true more e k = absurd (cc)
    by false more e k = more e k

no_zeros : (names : List (List ℕ)) → AllByRecursion IsNamed names → list_any (λ b. b == 0) (joined names) ≡ false
no_zeros [] are = refl
no_zeros (bytes ∷ names) are = any_append (λ b. b == 0) bytes (joined names) are.0.no_zero (no_zeros names are.1)

joined_length : (names : List (List ℕ)) → length (joined names) ≡ path_bytes names
joined_length [] = refl
joined_length (bytes ∷ names) =
    let all = sum_by-cons (λ (n : List ℕ). length n + 1) bytes names in
    let both = length-append bytes (joined names) in
    let rest = joined_length names in omega arith

each_short : (names : List (List ℕ)) → AllByRecursion IsNamed names → AllByRecursion (λ part. nat_lt 255 (length part) ≡ false) names
each_short [] are = tt
each_short (bytes ∷ names) are = (are.0.short, each_short names are.1)

each_no_dot : (names : List (List ℕ)) → AllByRecursion IsNamed names → AllByRecursion (λ part. is_dot part ≡ false) names
each_no_dot [] are = tt
each_no_dot (bytes ∷ names) are = (are.0.no_dot, each_no_dot names are.1)

few : (n m : ℕ) → n ≡ m → m ≤ 4095 → nat_lt 4095 n ≡ false
few n m same small = grind (arith, nat_tests)

joined_is_path : (names : List (List ℕ)) → AllByRecursion IsNamed names → path_bytes names ≤ 4095 → 0 < length names → path_of (joined names) ≡ Ok names
unfolding path_of
joined_is_path [] are small some = absurd (omega arith)
joined_is_path (first ∷ names) are small some =
    let parts = components_are first names are.0 are.1 in
    let short : breaks TooLong (joined (first ∷ names)) ≡ false = few _ _ (joined_length (first ∷ names)) small in
    let short_names : breaks NameTooLong (joined (first ∷ names)) ≡ false = ap (list_any (λ part. nat_lt 255 (length part))) parts ∙ none_any (λ part. nat_lt 255 (length part)) (first ∷ names) (each_short (first ∷ names) are) in
    let no_dot : breaks Dot (joined (first ∷ names)) ≡ false = ap (list_any is_dot) parts ∙ none_any is_dot (first ∷ names) (each_no_dot (first ∷ names) are) in
    let no_zero : breaks ZeroByte (joined (first ∷ names)) ≡ false = no_zeros (first ∷ names) are in
    passed (breaks TooLong (joined (first ∷ names))) (breaks NameTooLong (joined (first ∷ names))) (breaks Dot (joined (first ∷ names))) (breaks ZeroByte (joined (first ∷ names))) (components (joined (first ∷ names))) (first ∷ names)
    short short_names no_dot no_zero parts
  where
    passed : (b c d e : Bool) (r ns : List (List ℕ)) → b ≡ false → c ≡ false → d ≡ false → e ≡ false → r ≡ ns → cond b (Err TooLong) (cond c (Err NameTooLong) (cond d (Err Dot) (cond e (Err ZeroByte) (Ok r)))) ≡ Ok ns
    passed b c d e r ns p q s t u = rw (p, q, s, t, u) refl

-- ---- paths

root_is_path : path_of (47 ∷ []) ≡ Ok []
unfolding path_of
root_is_path = refl

bad_is : (raw : List ℕ) (fault : PathFault) (r : Result (List (List ℕ)) PathFault) → err_of r ≡ Some fault → arg_of raw r ≡ Bad fault raw
bad_is raw fault (Ok names) is = absurd (cc)
bad_is raw fault (Err other) is = cc

each_bytes : (names : List (List ℕ)) → All AreBytes names → AllByRecursion (λ n. AllByRecursion (λ b. b < 256) n) names
each_bytes names are = by names (recursion_from_All AreBytes names are)
  where
    by : (ns : List (List ℕ)) → AllByRecursion AreBytes ns → AllByRecursion (λ n. AllByRecursion (λ b. b < 256) n) ns
    by [] are = tt
    by (n ∷ ns) are = (recursion_from_All (λ b. b < 256) n are.0, by ns are.1)

read_as : (word bytes : List ℕ) (path : PathArg) → unescaped word ≡ Some bytes → path_arg_of bytes ≡ path → path_word word ≡ Ok path
unfolding path_word bytes_word
read_as word bytes path is same = rw is (ap Ok same)

pub path_read : (path : PathArg) → IsPrintablePath path → path_word (path_text path) ≡ Ok path
path_read (Good []) is = read_as (codes "/") (47 ∷ []) (Good []) refl (ap (arg_of (47 ∷ [])) root_is_path)
path_read (Good (first ∷ names)) is =
    read_as (each_after 47 (first ∷ names)) (joined (first ∷ names)) (Good (first ∷ names)) (names_read (first ∷ names) (each_bytes (first ∷ names) is.1))
    (ap (arg_of (joined (first ∷ names))) (joined_is_path (first ∷ names) (all_named (first ∷ names) is.0) is.2 (omega arith)))
path_read (Bad fault raw) is = read_as (escaped raw) raw (Bad fault raw) (escaped_read raw (recursion_from_All (λ b. b < 256) raw is.1)) (bad_is raw fault (path_of raw) is.2)

pub path_is_word : (path : PathArg) → IsPrintablePath path → IsWord (path_text path)
path_is_word (Good []) is = record { some = omega arith; dark = (omega arith, tt) }
path_is_word (Good (first ∷ names)) is = record { some = omega arith; dark = names_dark (first ∷ names) }
path_is_word (Bad fault raw) is = escaped_is_word raw is.0
