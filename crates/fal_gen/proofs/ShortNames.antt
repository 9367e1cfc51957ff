-- The names of made scripts are names, of few bytes.
use Rattle.std.proofs.Common.{◌≡◌, ℕ, zero, suc, ◌<◌, ◌≤◌, Bool, true, false, ◌&&◌, nat_le, nat_lt, List, length, get_or, refl, subst, arith}
use Rattle.std.specs.Prelude.{IsTrue}
use Rattle.std.specs.Fmt.{digits}
use Rattle.std.specs.List.{list_all}
use Rattle.std.proofs.lemmas.Bool.{and_parts, leb-true, ltb-true}
use Rattle.std.proofs.lemmas.Bool.Decides.{nat_tests}
use Rattle.std.proofs.lemmas.List.Sums.{AllPass-from_list_all}
use Rattle.fal_base.specs.Names.{is_name}
use Rattle.fal_script.specs.Printed.{AreBytes}
use Rattle.fal_gen.specs.Calls.{lane_name, dir_name, file_name}

-- a name of at most three bytes
pub record IsShortName (name : List ℕ) : Type 0 where
  pub named : IsTrue (is_name name)
  pub bytes : AreBytes name
  pub few : length name ≤ 3

abbrev is_short : List ℕ → Bool
is_short name = is_name name && (list_all (λ b. nat_lt b 256) name && nat_le (length name) 3)

-- each number below this one passes
abbrev passes : (ℕ → Bool) → ℕ → Bool
passes test zero = true
passes test (suc k) = passes test k && test k

passes_at : (test : ℕ → Bool) (k n : ℕ) → n < k → passes test k ≡ true → test n ≡ true
passes_at test zero n low all = absurd (omega arith)
passes_at test (suc k) n low all =
    let parts = and_parts (passes test k) (test k) all in
    elim (nat_lt n k) as (λ b. nat_lt n k ≡ b → test n ≡ true) [
      | true ↦ λ is. passes_at test k n (grind (arith, nat_tests)) parts.0
      | false ↦ λ is. let same : k ≡ n = grind (arith, nat_tests) in subst (λ m. test m ≡ true) same parts.1
    ] refl

small_bytes : (bytes : List ℕ) → list_all (λ b. nat_lt b 256) bytes ≡ true → AreBytes bytes
small_bytes bytes all = λ k d low. ltb-true (get_or bytes k d) 256 (AllPass-from_list_all (λ b. nat_lt b 256) bytes all k d low)

is_short_name : (name : List ℕ) → is_short name ≡ true → IsShortName name
is_short_name name is =
    let parts = and_parts (is_name name) (list_all (λ b. nat_lt b 256) name && nat_le (length name) 3) is in
    let rest = and_parts (list_all (λ b. nat_lt b 256) name) (nat_le (length name) 3) parts.1 in
    record { named = parts.0; bytes = small_bytes name rest.0; few = leb-true (length name) 3 rest.1 }

-- the numbers of lanes, directories and files are below 16
pub lane_is_short : (lane : ℕ) → lane < 16 → IsShortName (lane_name lane)
unfolding is_name digits
lane_is_short lane low = is_short_name (lane_name lane) (passes_at (λ n. is_short (lane_name n)) 16 lane low refl)

pub dir_is_short : (dir : ℕ) → dir < 16 → IsShortName (dir_name dir)
unfolding is_name digits
dir_is_short dir low = is_short_name (dir_name dir) (passes_at (λ n. is_short (dir_name n)) 16 dir low refl)

pub file_is_short : (file : ℕ) → file < 16 → IsShortName (file_name file)
unfolding is_name digits
file_is_short file low = is_short_name (file_name file) (passes_at (λ n. is_short (file_name n)) 16 file low refl)
