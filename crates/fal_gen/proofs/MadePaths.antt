-- The paths of made scripts can be printed, and their texts are short.
use Rattle.std.proofs.Common.{◌≡◌, ℕ, ◌+◌, ◌*◌, ◌/◌, ◌%◌, ◌<◌, ◌≤◌, Bool, true, false, cond, ◌&&◌, List, [], ◌∷◌, ◌++◌, length, refl, arith, length-append}
use Rattle.std.specs.List.{AllByRecursion, list_all}
use Rattle.std.proofs.lemmas.List.Elements.{All-from_recursion}
use Rattle.std.proofs.lemmas.List.Sums.{sum_by-cons}
use Rattle.fal_base.specs.declared.path.PathArg.{PathArg}
use Rattle.fal_base.specs.declared.path.PathArg.TheVariants.{Good}
use Rattle.fal_base.specs.Names.{is_name}
use Rattle.fal_base.specs.Paths.{path_bytes}
use Rattle.fal_report.specs.Calls.{path_text}
use Rattle.fal_report.specs.Escapes.{escaped_byte, escaped, each_after, hex_digit, is_plain_byte}
use Rattle.fal_script.specs.Printed.{AreBytes, IsPrintablePath}
use Rattle.fal_gen.specs.Calls.{lane_name, dir_name, file_name, lane_path, dir_path, file_path}
use Rattle.fal_gen.proofs.ShortNames.{IsShortName, lane_is_short, dir_is_short, file_is_short}

-- ---- texts

-- the length of two pieces is at most that of both
pub joined : (a b : List ℕ) (m n : ℕ) → length a ≤ m → length b ≤ n → length (a ++ b) ≤ m + n
joined a b m n first second = let both = length-append a b in omega arith

byte_short : (byte : ℕ) → length (escaped_byte byte) ≤ 3
unfolding escaped_byte
byte_short byte = elim (is_plain_byte byte) as (λ b. length (cond b (byte ∷ []) (37 ∷ hex_digit (byte / 16) ∷ hex_digit (byte % 16) ∷ [])) ≤ 3) [ true ↦ omega arith | false ↦ omega arith ]

pub text_short : (bytes : List ℕ) → length (escaped bytes) ≤ 3 * length bytes
text_short [] = omega arith
text_short (byte ∷ bytes) =
    let one = byte_short byte in
    let rest = text_short bytes in
    let both = length-append (escaped_byte byte) (escaped bytes) in
    omega arith

each_short : (names : List (List ℕ)) → AllByRecursion IsShortName names → length (each_after 47 names) ≤ 10 * length names
each_short [] are = omega arith
each_short (name ∷ names) are =
    let few = are.0.few in
    let one = text_short name in
    let rest = each_short names are.1 in
    let both = length-append (47 ∷ escaped name) (each_after 47 names) in
    omega arith

-- ---- names

all_named : (names : List (List ℕ)) → AllByRecursion IsShortName names → list_all is_name names ≡ true
all_named [] are = refl
all_named (name ∷ names) are = both (is_name name) (list_all is_name names) are.0.named (all_named names are.1)
  where
    both : (a b : Bool) → a ≡ true → b ≡ true → (a && b) ≡ true
    both a b p q = rw (p, q) refl

all_bytes : (names : List (List ℕ)) → AllByRecursion IsShortName names → AllByRecursion AreBytes names
all_bytes [] are = tt
all_bytes (name ∷ names) are = (are.0.bytes, all_bytes names are.1)

all_few : (names : List (List ℕ)) → AllByRecursion IsShortName names → path_bytes names ≤ 4 * length names
all_few [] are = omega arith
all_few (name ∷ names) are =
    let few = are.0.few in
    let rest = all_few names are.1 in
    let sum = sum_by-cons (λ (n : List ℕ). length n + 1) name names in
    omega arith

-- ---- paths

-- a path that can be printed, with a short text
pub record IsMadePath (path : PathArg) : Type 0 where
  pub is : IsPrintablePath path
  pub few : length (path_text path) ≤ 30

path_made : (name : List ℕ) (names : List (List ℕ)) → AllByRecursion IsShortName (name ∷ names) → length names ≤ 2 → IsMadePath (Good (name ∷ names))
path_made name names are few =
    let bytes = all_few (name ∷ names) are in
    let text = each_short (name ∷ names) are in
    record {
      is = (all_named (name ∷ names) are, All-from_recursion AreBytes (name ∷ names) (all_bytes (name ∷ names) are), omega arith);
      few = omega arith;
    }

pub lane_made : (lane : ℕ) → lane < 16 → IsMadePath (lane_path lane)
unfolding lane_path
lane_made lane low = path_made (lane_name lane) [] (lane_is_short lane low, tt) (omega arith)

pub dir_made : (lane dir : ℕ) → lane < 16 → dir < 16 → IsMadePath (dir_path lane dir)
unfolding dir_path
dir_made lane dir low small = path_made (lane_name lane) (dir_name dir ∷ []) (lane_is_short lane low, (dir_is_short dir small, tt)) (omega arith)

pub file_made : (lane dir file : ℕ) → lane < 16 → dir < 16 → file < 16 → IsMadePath (file_path lane dir file)
unfolding file_path
file_made lane dir file low small few =
    path_made (lane_name lane) (dir_name dir ∷ file_name file ∷ []) (lane_is_short lane low, (dir_is_short dir small, (file_is_short file few, tt))) (omega arith)
