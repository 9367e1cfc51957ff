-- The arguments of a call, word by word. What is no argument of its form breaks a rule.
use Rattle.std.specs.Prelude.{◌≡◌, ℕ, List, [], ◌∷◌, codes, if◌then◌else◌, ◌==◌, Option, Some, None, Result, Ok, Err}
use Rattle.std.specs.List.{slice_split}
use Rattle.std.specs.Option.{option_and_then, option_map}
use Rattle.fal_base.specs.declared.call.Cred.{Cred}
use Rattle.fal_base.specs.declared.path.PathArg.{PathArg}
use Rattle.fal_base.specs.declared.rule.Rule.{Rule}
use Rattle.fal_base.specs.declared.rule.Rule.TheVariants.{Hash, ByParent, Node}
use Rattle.fal_base.specs.Names.{name_of}
use Rattle.fal_base.specs.PathArgs.{path_arg_of}
use Rattle.fal_script.specs.Escapes.{unescaped}
use Rattle.fal_script.specs.Numbers.{number_up_to, number_from_one, spelled_mode}
use Rattle.fal_script.specs.ReadAs.{or_rule, ◌=>>◌}
use Rattle.fal_script.specs.Words.{is_word}

-- how many nodes or lanes: 1 to 16
abbrev pub count_word : List ℕ → Option ℕ
count_word word = number_from_one 16 word

-- what stands before the first colon and what stands after it, or none where there is no colon
abbrev pub Halves : List ℕ → Option (List ℕ × List ℕ) → Type 0
Halves word None = slice_split (λ b. b == 58) word ≡ word ∷ []
Halves word (Some (front, back)) = slice_split (λ b. b == 58) word ≡ front ∷ slice_split (λ b. b == 58) back

-- two numbers up to 4,294,967,295 joined by one colon (58)
abbrev pub cred_parts : List (List ℕ) → Option Cred
cred_parts (uid ∷ gid ∷ []) = option_and_then (λ u. option_map (λ g. record { uid = u; gid = g }) (number_up_to 4294967295 gid)) (number_up_to 4294967295 uid)
cred_parts other = None

-- the caller: two numbers joined by one colon
unfoldable pub cred_word : List ℕ → Option Cred
cred_word word = cred_parts (slice_split (λ b. b == 58) word)

-- the bytes of a path or a name
unfoldable pub bytes_word : List ℕ → Result (List ℕ) ℕ
bytes_word word = or_rule 10 (unescaped word)

-- a path, good or bad
unfoldable pub path_word : List ℕ → Result PathArg ℕ
path_word word = bytes_word word =>> λ bytes. Ok (path_arg_of bytes)

-- the name, or rule 12 where the bytes are none
abbrev pub judged_name : {E : Type 0} → Result (List ℕ) E → Result (List ℕ) ℕ
judged_name (Ok name) = Ok name
judged_name (Err fault) = Err 12

-- a name
unfoldable pub name_word : List ℕ → Result (List ℕ) ℕ
name_word word = bytes_word word =>> λ bytes. judged_name (name_of bytes)

-- a mode
unfoldable pub mode_word : List ℕ → Result ℕ ℕ
mode_word word = or_rule 11 (spelled_mode word)

-- a number that is at most this large
unfoldable pub number_word : ℕ → List ℕ → Result ℕ ℕ
number_word most word = or_rule 11 (number_up_to most word)

-- `node:K`
abbrev pub node_parts : List (List ℕ) → Option Rule
node_parts (label ∷ node ∷ []) = if is_word (codes "node") label then option_map (λ k. Node k) (number_up_to 65535 node) else None
node_parts other = None

-- `hash`, `parent` or `node:K`
unfoldable pub spelled_rule : List ℕ → Option Rule
spelled_rule word =
    if is_word (codes "hash") word then Some Hash
    else (if is_word (codes "parent") word then Some ByParent else node_parts (slice_split (λ b. b == 58) word))

-- a rule of placement
unfoldable pub rule_word : List ℕ → Result Rule ℕ
rule_word word = or_rule 13 (spelled_rule word)
