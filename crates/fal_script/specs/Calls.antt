-- The calls of a script: `LANE UID:GID OPERATION ARGUMENTS`. The rules are judged from the left, in their order.
use Rattle.std.specs.Prelude.{ℕ, List, [], ◌∷◌, Result, Ok, Err}
use Rattle.fal_base.specs.declared.op.Op.{Op}
use Rattle.fal_base.specs.declared.op.Op.TheVariants as op
use Rattle.fal_base.specs.declared.path.PathArg.{PathArg}
use Rattle.fal_base.specs.declared.rule.Rule.{Rule}
use Rattle.fal_script.specs.declared.script.ScriptCall.{ScriptCall}
use Rattle.fal_script.specs.declared.verbs.Verb.{Verb}
use Rattle.fal_script.specs.declared.verbs.Verb.TheVariants as verb
use Rattle.fal_script.specs.Arguments.{cred_word, path_word, name_word, mode_word, number_word, rule_word}
use Rattle.fal_script.specs.Numbers.{number_from_one}
use Rattle.fal_script.specs.ReadAs.{or_rule, ◌=>>◌}
use Rattle.fal_script.specs.Verbs.{verb_word}

-- a path alone
unfoldable pub path_words : List (List ℕ) → Result PathArg ℕ
path_words (path ∷ []) = path_word path
path_words other = Err 9

-- a path, and a mode or another number
unfoldable pub path_number_words : (List ℕ → Result ℕ ℕ) → List (List ℕ) → Result (PathArg × ℕ) ℕ
path_number_words form (path ∷ number ∷ []) = path_word path =>> λ p. form number =>> λ n. Ok (p, n)
path_number_words form other = Err 9

-- a path, an owner and a group
unfoldable pub path_owner_words : List (List ℕ) → Result (PathArg × (ℕ × ℕ)) ℕ
path_owner_words (path ∷ uid ∷ gid ∷ []) = path_word path =>> λ p. number_word 4294967295 uid =>> λ u. number_word 4294967295 gid =>> λ g. Ok (p, (u, g))
path_owner_words other = Err 9

-- a path and another one
unfoldable pub two_path_words : List (List ℕ) → Result (PathArg × PathArg) ℕ
two_path_words (old ∷ new ∷ []) = path_word old =>> λ o. path_word new =>> λ n. Ok (o, n)
two_path_words other = Err 9

-- a name and its rule
unfoldable pub name_rule_words : List (List ℕ) → Result (List ℕ × Rule) ℕ
name_rule_words (name ∷ rule ∷ []) = name_word name =>> λ n. rule_word rule =>> λ r. Ok (n, r)
name_rule_words other = Err 9

-- an operation of these arguments
abbrev pub op_words : Verb → List (List ℕ) → Result Op ℕ
op_words verb.Mkdir arguments = path_number_words mode_word arguments =>> λ a. Ok (op.Mkdir a.0 a.1)
op_words verb.Create arguments = path_number_words mode_word arguments =>> λ a. Ok (op.Create a.0 a.1)
op_words verb.Stat arguments = path_words arguments =>> λ p. Ok (op.Stat p)
op_words verb.Access arguments = path_number_words (number_word 7) arguments =>> λ a. Ok (op.Access a.0 a.1)
op_words verb.Chmod arguments = path_number_words mode_word arguments =>> λ a. Ok (op.Chmod a.0 a.1)
op_words verb.Chown arguments = path_owner_words arguments =>> λ a. Ok (op.Chown a.0 a.1.0 a.1.1)
op_words verb.Truncate arguments = path_number_words (number_word 9223372036854775807) arguments =>> λ a. Ok (op.Truncate a.0 a.1)
op_words verb.Unlink arguments = path_words arguments =>> λ p. Ok (op.Unlink p)
op_words verb.Rmdir arguments = path_words arguments =>> λ p. Ok (op.Rmdir p)
op_words verb.Rename arguments = two_path_words arguments =>> λ a. Ok (op.Rename a.0 a.1)
op_words verb.List arguments = path_words arguments =>> λ p. Ok (op.List p)
op_words verb.Place arguments = name_rule_words arguments =>> λ a. Ok (op.Place a.0 a.1)

-- the call of a line's words, where there are so many lanes
unfoldable pub call_words : ℕ → List (List ℕ) → Result ScriptCall ℕ
call_words lanes (lane ∷ cred ∷ verb ∷ arguments) =
    or_rule 6 (number_from_one lanes lane) =>> λ l.
    or_rule 7 (cred_word cred) =>> λ c.
    or_rule 8 (verb_word verb) =>> λ v.
    op_words v arguments =>> λ o.
    Ok (record { lane = l; call = record { cred = c; op = o } })
call_words lanes other = Err 5
