-- What holds of each call that is read: its numbers are in range, and its paths are what bytes spell.
use Rattle.std.proofs.Common.{◌≡◌, ℕ, ◌<◌, ◌≤◌, ◌^◌, Bool, true, false, cond, ◌&&◌, nat_le, List, [], ◌∷◌, Option, None, Some, Result, Ok, Err, refl, sym, subst, ap, arith}
use Rattle.std.specs.List.{AllByRecursion, slice_split}
use Rattle.std.specs.Prelude.{codes, IsTrue, is_ok, ◌==◌}
use Rattle.std.proofs.lemmas.Bool.{and_parts, leb-true}
use Rattle.std.proofs.lemmas.Option.{cond_some, none-some, option_and_then_some, same_Some}
use Rattle.fal_base.specs.declared.call.Cred.{Cred}
use Rattle.fal_base.specs.declared.name.NameFault.{NameFault}
use Rattle.fal_base.specs.declared.name.NameFault.TheVariants.{Empty, TooLong, Slash, ZeroByte, Dot}
use Rattle.fal_base.specs.declared.op.Op.{Op}
use Rattle.fal_base.specs.declared.op.Op.TheVariants as op
use Rattle.fal_base.specs.declared.path.PathArg.{PathArg}
use Rattle.fal_base.specs.declared.rule.Rule.{Rule}
use Rattle.fal_base.specs.declared.rule.Rule.TheVariants.{Hash, ByParent, Node}
use Rattle.fal_base.specs.Names.{is_name, has_fault, name_of, name_unless}
use Rattle.fal_base.specs.PathArgs.{path_arg_of}
use Rattle.fal_script.specs.declared.script.ScriptCall.{ScriptCall}
use Rattle.fal_script.specs.declared.verbs.Verb.{Verb}
use Rattle.fal_script.specs.declared.verbs.Verb.TheVariants as verb
use Rattle.fal_script.specs.Arguments.{cred_parts, cred_word, bytes_word, path_word, judged_name, name_word, mode_word, number_word, node_parts, spelled_rule, rule_word}
use Rattle.fal_script.specs.Calls.{path_words, path_number_words, path_owner_words, two_path_words, name_rule_words, op_words, call_words}
use Rattle.fal_script.specs.Numbers.{is_number, value_after, number_up_to, from_one, number_from_one, is_mode, octal_after, spelled_mode}
use Rattle.fal_script.specs.Ranges.{IsSpelled, IsSpelledRule, IsOpOf, IsLineOf}
use Rattle.fal_script.specs.ReadAs.{or_rule, ◌=>>◌}
use Rattle.fal_script.specs.Verbs.{verb_word}
use Rattle.fal_script.specs.Words.{is_word}
use Rattle.fal_script.proofs.Results.{let_through, mapped, err-ok, same_Ok, ruled, both_read}

-- ---- numbers

number_small : (most : ℕ) (word : List ℕ) (n : ℕ) → number_up_to most word ≡ Some n → n ≤ most
unfolding number_up_to
number_small most word n is =
    let found = cond_some (is_number word && nat_le (value_after 0 word) most) (value_after 0 word) n is in
    subst (λ v. v ≤ most) found.1 (leb-true (value_after 0 word) most (and_parts _ _ found.0).1)

pub record IsFromOne (most n : ℕ) : Type 0 where
  pub some : 1 ≤ n
  pub within : n ≤ most

from_one_small : (most : ℕ) (o : Option ℕ) (n : ℕ) → ((m : ℕ) → o ≡ Some m → m ≤ most) → from_one o ≡ Some n → IsFromOne most n
from_one_small most None n small is = absurd (none-some _ is)
from_one_small most (Some m) n small is =
    let found = cond_some (nat_le 1 m) m n is in subst (IsFromOne most) found.1 (record { some = leb-true 1 m found.0; within = small m refl })

pub counted_small : (most : ℕ) (word : List ℕ) (n : ℕ) → number_from_one most word ≡ Some n → IsFromOne most n
unfolding number_from_one
counted_small most word n is = from_one_small most (number_up_to most word) n (number_small most word) is

mode_small : (word : List ℕ) (n : ℕ) → mode_word word ≡ Ok n → n < 512
unfolding spelled_mode mode_word
mode_small word n is =
    let found = cond_some (is_mode word && nat_le (octal_after 0 word) 511) (octal_after 0 word) n (ruled 11 (spelled_mode word) n is) in
    subst (λ v. v < 512) found.1 (below (octal_after 0 word) (leb-true (octal_after 0 word) 511 (and_parts _ _ found.0).1))
  where
    below : (v : ℕ) → v ≤ 511 → v < 512
    below v low = omega arith

word_small : (most : ℕ) (word : List ℕ) (n : ℕ) → number_word most word ≡ Ok n → n ≤ most
unfolding number_word
word_small most word n is = number_small most word n (ruled 11 (number_up_to most word) n is)

-- ---- callers, paths, names and rules

record IsSpelledCred (cred : Cred) : Type 0 where
  uid : cred.uid < 2 ^ 32
  gid : cred.gid < 2 ^ 32

parts_small : (parts : List (List ℕ)) (cred : Cred) → cred_parts parts ≡ Some cred → IsSpelledCred cred
parts_small [] cred is = absurd (none-some _ is)
parts_small (a ∷ []) cred is = absurd (none-some _ is)
parts_small (a ∷ b ∷ []) cred is =
    option_and_then_some _ (number_up_to 4294967295 a) cred is (λ u first rest.
    mapped _ (number_up_to 4294967295 b) cred rest (λ g second same.
    let low = number_small 4294967295 a u first in
    let high = number_small 4294967295 b g second in
    subst IsSpelledCred same (record { uid = omega (arith, low); gid = omega (arith, high) })))
parts_small (a ∷ b ∷ c ∷ parts) cred is = absurd (none-some _ is)

cred_small : (word : List ℕ) (cred : Cred) → cred_word word ≡ Some cred → IsSpelledCred cred
unfolding cred_word
cred_small word cred is = parts_small _ cred is

pub path_spelled : (word : List ℕ) (path : PathArg) → path_word word ≡ Ok path → IsSpelled path
unfolding path_word
path_spelled word path is = both_read (bytes_word word) (λ bytes. Ok (path_arg_of bytes)) path is (λ bytes some rest. (bytes, sym (same_Ok (path_arg_of bytes) path rest)))

-- bytes that are a name are that name
pub named_is : (faults : List NameFault) (bytes : List ℕ) (name : List ℕ) → judged_name (name_unless faults bytes) ≡ Ok name → (name_unless faults bytes ≡ Ok bytes) × (bytes ≡ name)
named_is [] bytes name is = (refl, same_Ok bytes name is)
named_is (fault ∷ faults) bytes name is = by (has_fault fault bytes) (named_is faults bytes name) is
  where
    by : (b : Bool) → (judged_name (name_unless faults bytes) ≡ Ok name → (name_unless faults bytes ≡ Ok bytes) × (bytes ≡ name)) → judged_name (cond b (Err fault) (name_unless faults bytes)) ≡ Ok name
        → (cond b (Err fault) (name_unless faults bytes) ≡ Ok bytes) × (bytes ≡ name)
    by true more is = absurd (err-ok 12 name is)
    by false more is = more is

pub name_spelled : (word : List ℕ) (name : List ℕ) → name_word word ≡ Ok name → IsTrue (is_name name)
unfolding name_word is_name
name_spelled word name is = both_read (bytes_word word) (λ bytes. judged_name (name_of bytes)) name is (λ bytes some rest.
    let found = named_is (Empty ∷ TooLong ∷ Slash ∷ ZeroByte ∷ Dot ∷ []) bytes name rest in subst (λ n. is_ok (name_of n) ≡ true) found.1 (ap is_ok found.0))

node_spelled : (parts : List (List ℕ)) (rule : Rule) → node_parts parts ≡ Some rule → IsSpelledRule rule
node_spelled [] rule is = absurd (none-some _ is)
node_spelled (a ∷ []) rule is = absurd (none-some _ is)
node_spelled (a ∷ b ∷ []) rule is =
    mapped (λ k. Node k) (number_up_to 65535 b) rule (let_through (is_word (codes "node") a) _ rule is).1
    (λ k some same. let low = number_small 65535 b k some in subst IsSpelledRule same (omega (arith, low)))
node_spelled (a ∷ b ∷ c ∷ parts) rule is = absurd (none-some _ is)

one_of_two : {X : Type 0} (P : X → Type 0) (b c : Bool) (x y : X) (o : Option X) (r : X) → P x → P y → (o ≡ Some r → P r)
    → cond b (Some x) (cond c (Some y) o) ≡ Some r → P r
one_of_two P true c x y o r first second third is = subst P (same_Some x r is) first
one_of_two P false true x y o r first second third is = subst P (same_Some y r is) second
one_of_two P false false x y o r first second third is = third is

rule_spelled : (word : List ℕ) (rule : Rule) → rule_word word ≡ Ok rule → IsSpelledRule rule
unfolding rule_word spelled_rule
rule_spelled word rule is =
    one_of_two IsSpelledRule (is_word (codes "hash") word) (is_word (codes "parent") word) Hash ByParent _ rule tt tt (node_spelled (slice_split (λ b. b == 58) word) rule) (ruled 13 (spelled_rule word) rule is)

-- ---- arguments

-- where each word has some property, paths and names of such words have theirs
module _ (Word : List ℕ → Type 0) (Path : PathArg → Type 0) (Name : List ℕ → Type 0) (of_path : (word : List ℕ) (path : PathArg) → Word word → path_word word ≡ Ok path → Path path)
    (of_name : (word name : List ℕ) → Word word → name_word word ≡ Ok name → Name name) where
  one_spelled : (words : List (List ℕ)) (path : PathArg) → AllByRecursion Word words → path_words words ≡ Ok path → Path path
  unfolding path_words
  one_spelled [] path are is = absurd (err-ok _ _ is)
  one_spelled (a ∷ []) path are is = of_path a path are.0 is
  one_spelled (a ∷ b ∷ words) path are is = absurd (err-ok _ _ is)

  -- a path, and a number of which something holds that holds of all of its form
  record IsPair (P : ℕ → Type 0) (pair : PathArg × ℕ) : Type 0 where
    path : Path pair.0
    number : P pair.1

  pair_spelled : (form : List ℕ → Result ℕ ℕ) (P : ℕ → Type 0) → ((word : List ℕ) (n : ℕ) → form word ≡ Ok n → P n) → (words : List (List ℕ)) (pair : PathArg × ℕ)
      → AllByRecursion Word words → path_number_words form words ≡ Ok pair → IsPair P pair
  unfolding path_number_words
  pair_spelled form P holds [] pair are is = absurd (err-ok _ _ is)
  pair_spelled form P holds (a ∷ []) pair are is = absurd (err-ok _ _ is)
  pair_spelled form P holds (a ∷ b ∷ []) pair are is =
      both_read (path_word a) _ pair is (λ p first rest.
      both_read (form b) _ pair rest (λ n second done. subst (IsPair P) (same_Ok (p, n) pair done) (record { path = of_path a p are.0 first; number = holds b n second })))
  pair_spelled form P holds (a ∷ b ∷ c ∷ words) pair are is = absurd (err-ok _ _ is)

  record IsOwned (made : PathArg × (ℕ × ℕ)) : Type 0 where
    path : Path made.0
    uid : made.1.0 < 2 ^ 32
    gid : made.1.1 < 2 ^ 32

  owner_spelled : (words : List (List ℕ)) (made : PathArg × (ℕ × ℕ)) → AllByRecursion Word words → path_owner_words words ≡ Ok made → IsOwned made
  unfolding path_owner_words
  owner_spelled [] made are is = absurd (err-ok _ _ is)
  owner_spelled (a ∷ []) made are is = absurd (err-ok _ _ is)
  owner_spelled (a ∷ b ∷ []) made are is = absurd (err-ok _ _ is)
  owner_spelled (a ∷ b ∷ c ∷ []) made are is =
      both_read (path_word a) _ made is (λ p first rest.
      both_read (number_word 4294967295 b) _ made rest (λ u second more.
      both_read (number_word 4294967295 c) _ made more (λ g third done.
      let low = word_small 4294967295 b u second in
      let high = word_small 4294967295 c g third in
      subst IsOwned (same_Ok (p, (u, g)) made done) (record { path = of_path a p are.0 first; uid = omega (arith, low); gid = omega (arith, high) }))))
  owner_spelled (a ∷ b ∷ c ∷ d ∷ words) made are is = absurd (err-ok _ _ is)

  record AreSpelled (pair : PathArg × PathArg) : Type 0 where
    old : Path pair.0
    new : Path pair.1

  two_spelled : (words : List (List ℕ)) (pair : PathArg × PathArg) → AllByRecursion Word words → two_path_words words ≡ Ok pair → AreSpelled pair
  unfolding two_path_words
  two_spelled [] pair are is = absurd (err-ok _ _ is)
  two_spelled (a ∷ []) pair are is = absurd (err-ok _ _ is)
  two_spelled (a ∷ b ∷ []) pair are is =
      both_read (path_word a) _ pair is (λ o first rest.
      both_read (path_word b) _ pair rest (λ n second done. subst AreSpelled (same_Ok (o, n) pair done) (record { old = of_path a o are.0 first; new = of_path b n are.1.0 second })))
  two_spelled (a ∷ b ∷ c ∷ words) pair are is = absurd (err-ok _ _ is)

  record IsPlaced (pair : List ℕ × Rule) : Type 0 where
    name : Name pair.0
    rule : IsSpelledRule pair.1

  placed_spelled : (words : List (List ℕ)) (pair : List ℕ × Rule) → AllByRecursion Word words → name_rule_words words ≡ Ok pair → IsPlaced pair
  unfolding name_rule_words
  placed_spelled [] pair are is = absurd (err-ok _ _ is)
  placed_spelled (a ∷ []) pair are is = absurd (err-ok _ _ is)
  placed_spelled (a ∷ b ∷ []) pair are is =
      both_read (name_word a) _ pair is (λ n first rest.
      both_read (rule_word b) _ pair rest (λ r second done. subst IsPlaced (same_Ok (n, r) pair done) (record { name = of_name a n are.0 first; rule = rule_spelled b r second })))
  placed_spelled (a ∷ b ∷ c ∷ words) pair are is = absurd (err-ok _ _ is)

  -- ---- operations and calls

  abbrev Spelled : Op → Type 0
  Spelled = IsOpOf Path Name

  path_op : (make : PathArg → Op) (words : List (List ℕ)) (o : Op) → ((p : PathArg) → Path p → Spelled (make p)) → AllByRecursion Word words → (path_words words =>> λ p. Ok (make p)) ≡ Ok o → Spelled o
  path_op make words o made are is = both_read (path_words words) _ o is (λ p some rest. subst Spelled (same_Ok (make p) o rest) (made p (one_spelled words p are some)))

  pair_op : (make : PathArg → ℕ → Op) (form : List ℕ → Result ℕ ℕ) (P : ℕ → Type 0) (words : List (List ℕ)) (o : Op) → ((word : List ℕ) (n : ℕ) → form word ≡ Ok n → P n)
      → ((p : PathArg) (n : ℕ) → Path p → P n → Spelled (make p n)) → AllByRecursion Word words → (path_number_words form words =>> λ a. Ok (make a.0 a.1)) ≡ Ok o → Spelled o
  pair_op make form P words o small made are is =
      both_read (path_number_words form words) _ o is (λ a some rest.
      let pair = pair_spelled form P small words a are some in subst Spelled (same_Ok (make a.0 a.1) o rest) (made a.0 a.1 pair.path pair.number))

  op_spelled : (verb : Verb) (words : List (List ℕ)) (o : Op) → AllByRecursion Word words → op_words verb words ≡ Ok o → Spelled o
  op_spelled verb.Mkdir words o are is = pair_op (λ p n. op.Mkdir p n) mode_word (λ n. n < 512) words o mode_small (λ p n path small. (path, small)) are is
  op_spelled verb.Create words o are is = pair_op (λ p n. op.Create p n) mode_word (λ n. n < 512) words o mode_small (λ p n path small. (path, small)) are is
  op_spelled verb.Stat words o are is = path_op (λ p. op.Stat p) words o (λ p path. path) are is
  op_spelled verb.Access words o are is =
      pair_op (λ p n. op.Access p n) (number_word 7) (λ n. n ≤ 7) words o (word_small 7) (λ p n path small. (path, omega (arith, small))) are is
  op_spelled verb.Chmod words o are is = pair_op (λ p n. op.Chmod p n) mode_word (λ n. n < 512) words o mode_small (λ p n path small. (path, small)) are is
  op_spelled verb.Chown words o are is =
      both_read (path_owner_words words) _ o is (λ a some rest.
      let made = owner_spelled words a are some in subst Spelled (same_Ok (op.Chown a.0 a.1.0 a.1.1) o rest) (made.path, made.uid, made.gid))
  op_spelled verb.Truncate words o are is =
      pair_op (λ p n. op.Truncate p n) (number_word 9223372036854775807) (λ n. n ≤ 9223372036854775807) words o (word_small 9223372036854775807) (λ p n path small. (path, omega (arith, small))) are is
  op_spelled verb.Unlink words o are is = path_op (λ p. op.Unlink p) words o (λ p path. path) are is
  op_spelled verb.Rmdir words o are is = path_op (λ p. op.Rmdir p) words o (λ p path. path) are is
  op_spelled verb.Rename words o are is =
      both_read (two_path_words words) _ o is (λ a some rest. let made = two_spelled words a are some in subst Spelled (same_Ok (op.Rename a.0 a.1) o rest) (made.old, made.new))
  op_spelled verb.List words o are is = path_op (λ p. op.List p) words o (λ p path. path) are is
  op_spelled verb.Place words o are is =
      both_read (name_rule_words words) _ o is (λ a some rest. let made = placed_spelled words a are some in subst Spelled (same_Ok (op.Place a.0 a.1) o rest) (made.name, made.rule))

  -- a call that is read
  pub words_spelled : (lanes : ℕ) (words : List (List ℕ)) (line : ScriptCall) → AllByRecursion Word words → call_words lanes words ≡ Ok line → IsLineOf Path Name lanes line
  unfolding call_words
  words_spelled lanes [] line are is = absurd (err-ok _ _ is)
  words_spelled lanes (a ∷ []) line are is = absurd (err-ok _ _ is)
  words_spelled lanes (a ∷ b ∷ []) line are is = absurd (err-ok _ _ is)
  words_spelled lanes (a ∷ b ∷ c ∷ words) line are is =
      both_read (or_rule 6 (number_from_one lanes a)) _ line is (λ lane first rest.
      both_read (or_rule 7 (cred_word b)) _ line rest (λ cred second more.
      both_read (or_rule 8 (verb_word c)) _ line more (λ verb third on.
      both_read (op_words verb words) _ line on (λ o fourth done.
      let here = counted_small lanes a lane (ruled 6 _ lane first) in
      let caller = cred_small b cred (ruled 7 _ cred second) in
      subst (IsLineOf Path Name lanes) (same_Ok (record { lane = lane; call = record { cred = cred; op = o } }) line done)
      (record {
        from_one = here.some;
        within = here.within;
        call = record { uid = caller.uid; gid = caller.gid; op = op_spelled verb words o are.1.1.1 fourth };
      })))))
