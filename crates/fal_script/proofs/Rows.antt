-- Worked scripts: what they spell, which line breaks which rule, and the cluster that they ask for.
use Rattle.std.proofs.Common.{◌≡◌, ℕ, List, [], ◌∷◌, ◌++◌, Ok, Err, refl}
use Rattle.std.specs.Prelude.{codes}
use Rattle.fal_base.specs.declared.call.Call.{Call}
use Rattle.fal_base.specs.declared.op.Op.TheVariants.{Stat, Access}
use Rattle.fal_base.specs.declared.path.PathArg.TheVariants.{Good}
use Rattle.fal_base.specs.Paths.{path_of}
use Rattle.fal_script.specs.declared.fault.ScriptFault.TheVariants.{Fault}
use Rattle.fal_script.specs.declared.script.Script.{Script}
use Rattle.fal_script.specs.Arguments.{cred_word, bytes_word, path_word}
use Rattle.fal_script.specs.Calls.{path_words, path_number_words, call_words}
use Rattle.fal_script.specs.Configs.{config_of_script}
use Rattle.fal_script.specs.Escapes.{hex_value, hex_byte}
use Rattle.fal_script.specs.Numbers.{are_digits, is_number, number_up_to, number_from_one}
use Rattle.fal_script.specs.Script.{with_line, script_of}
use Rattle.fal_script.specs.Verbs.{verb_word}
use Rattle.fal_script.specs.Words.{is_word, words_of}

-- a script of one call, its header's counts and its call as given
abbrev spelled : List ℕ → List ℕ → List ℕ → List ℕ
spelled nodes lanes call = codes "falcon-script 1\n" ++ nodes ++ codes "\n" ++ lanes ++ codes "\n" ++ call

abbrev look : Call
look = record { cred = record { uid = 7; gid = 8 }; op = Stat (Good (codes "a%" ∷ [])) }

abbrev knock : Call
knock = record { cred = record { uid = 0; gid = 0 }; op = Access (Good []) 1 }

abbrev two_lanes : Script
two_lanes = record { nodes = 16; lanes = 2; lines = record { lane = 2; call = look } ∷ [] }

-- a comment, spaces and tabs, leading zeros, escapes of either case, and no line feed at the end
one_call : script_of (spelled (codes "nodes 16") (codes " lanes\t 02 ") (codes "# look\n\n2 7:08 stat %2f%61%25")) ≡ Ok two_lanes
unfolding is_word words_of with_line path_of cred_word bytes_word path_word hex_value hex_byte verb_word path_words call_words are_digits is_number number_up_to number_from_one
one_call = refl

-- lane 3 is none of two, and there is no lane 0
past_the_lanes : script_of (spelled (codes "nodes 1") (codes "lanes 2") (codes "3 7:8 stat /a\n")) ≡ Err (Fault 4 6)
unfolding is_word words_of with_line call_words are_digits is_number number_up_to number_from_one
past_the_lanes = refl

lane_none : script_of (spelled (codes "nodes 1") (codes "lanes 2") (codes "0 7:8 stat /a\n")) ≡ Err (Fault 4 6)
unfolding is_word words_of with_line call_words are_digits is_number number_up_to number_from_one
lane_none = refl

no_nodes : script_of (spelled (codes "nodes 0") (codes "lanes 1") (codes "1 7:8 stat /a\n")) ≡ Err (Fault 2 3)
unfolding is_word words_of with_line are_digits is_number number_up_to number_from_one
no_nodes = refl

many_lanes : script_of (spelled (codes "nodes 1") (codes "lanes 17") (codes "1 7:8 stat /a\n")) ≡ Err (Fault 3 4)
unfolding is_word words_of with_line are_digits is_number number_up_to number_from_one
many_lanes = refl

-- the lowest rule that a line breaks: a path's percent sign before its number
two_broken : script_of (spelled (codes "nodes 1") (codes "lanes 1") (codes "1 7:8 access /%2 9\n")) ≡ Err (Fault 4 10)
unfolding is_word words_of with_line cred_word bytes_word path_word hex_value hex_byte verb_word path_number_words call_words are_digits is_number number_up_to number_from_one
two_broken = refl

-- a header of two lines ends before line 3
cut_short : script_of (codes "falcon-script 1\nnodes 1") ≡ Err (Fault 3 14)
unfolding is_word words_of with_line are_digits is_number number_up_to number_from_one
cut_short = refl

-- each lane has its calls in line order, and a lane may have none
in_their_lanes :
    config_of_script (record { nodes = 2; lanes = 3; lines = record { lane = 3; call = look } ∷ record { lane = 1; call = look } ∷ record { lane = 3; call = knock } ∷ [] }) 5
    ≡ record { nodes = 2; batch = 5; lanes = (look ∷ []) ∷ [] ∷ (look ∷ knock ∷ []) ∷ [] }
in_their_lanes = refl
