-- How long the spelling of a field is at most.
use Rattle.std.proofs.Common.{◌≡◌, ℕ, zero, suc, ◌+◌, ◌≤◌, Bool, List, [], ◌∷◌, length, arith}
use Rattle.std.specs.Int.{bytes_high_first}
use Rattle.std.specs.List.{flat_map}
use Rattle.std.proofs.lemmas.Bool.Decides.{nat_tests}
use Rattle.std.proofs.lemmas.List.{length-append}
use Rattle.std.proofs.lemmas.List.Sums.{sum_by-cons}
use Rattle.fal_base.specs.declared.call.CallId.{CallId}
use Rattle.fal_base.specs.declared.call.CallRec.{CallRec}
use Rattle.fal_base.specs.declared.call.Cred.{Cred}
use Rattle.fal_base.specs.declared.inode.Dentry.{Dentry}
use Rattle.fal_base.specs.declared.inode.Inode.{Inode}
use Rattle.fal_base.specs.declared.inode.Kind.{Kind}
use Rattle.fal_base.specs.declared.inode.Kind.TheVariants.{Dir as DirKind, File as FileKind}
use Rattle.fal_base.specs.declared.key.Key.{Key}
use Rattle.fal_base.specs.declared.op.Op.{Op}
use Rattle.fal_base.specs.declared.op.Op.TheVariants as op
use Rattle.fal_base.specs.declared.path.PathArg.{PathArg}
use Rattle.fal_base.specs.declared.path.PathArg.TheVariants.{Good, Bad}
use Rattle.fal_base.specs.declared.reply.Errno.{Errno}
use Rattle.fal_base.specs.declared.reply.Errno.TheVariants.{Eacces, Ebusy, Eexist, Einval, Eisdir, Enametoolong, Enoent, Enospc, Enotdir, Enotempty, Eperm}
use Rattle.fal_base.specs.declared.reply.Reply.{Reply}
use Rattle.fal_base.specs.declared.reply.Reply.TheVariants.{Fine, Fail, Stat, Names}
use Rattle.fal_base.specs.declared.rule.Rule.{Rule}
use Rattle.fal_base.specs.declared.rule.Rule.TheVariants.{Hash, ByParent, Node}
use Rattle.fal_wire.specs.declared.message.Found.{Found}
use Rattle.fal_wire.specs.declared.message.Found.TheVariants.{Nothing, File, Dir}
use Rattle.fal_wire.specs.Format.{Format, number, number_spelling, byte, text, judged, ◌▷◌, ◌⊗◌, shaped, nothing}
use Rattle.fal_wire.specs.Messages.{reply_body, fetch_ask_body, fetch_got_body}
use Rattle.fal_base.specs.Paths.{path_bytes}
use Rattle.fal_wire.specs.Names.{name_field, key_name_field, key_field, path_names, path_field, path_arg_field}
use Rattle.fal_wire.specs.Numbers.{asker_field, mode_field, want_field, size_field, ino_field, lane_field, ordinal_field, cred_field, id_field}
use Rattle.fal_wire.specs.Ops.{path_and_mode, path_and_want, path_and_owner, path_and_size, two_paths, name_and_rule, op_field, call_field}
use Rattle.fal_wire.specs.Rows.{kind_field, inode_field, dentry_field, rule_field, found_field, errno_field, reply_field}

-- what has a spelling has one of at most so many bytes
pub record IsShort (A : Type 0) (f : Format A) (most : ℕ) : Type 0 where
  pub most_bytes : (x : A) → f.Fits x → length (f.spell x) ≤ most

-- ---- how fields are put together

bytes_length : (n x : ℕ) → length (bytes_high_first n x) ≡ n
bytes_length zero x = omega arith
bytes_length (suc n) x = let h = bytes_length n x in omega arith

pub byte_short : IsShort ℕ byte 1
byte_short = record { most_bytes = λ x fits. omega arith }

pub number_short : (n : ℕ) → IsShort ℕ (number n) n
unfolding number_spelling
number_short n = record { most_bytes = λ x fits. let is = bytes_length n x in omega arith }

text_short : IsShort (List ℕ) text 256
text_short = record { most_bytes = λ x fits. omega arith }

pub nothing_short : IsShort (Unit {0}) nothing 0
nothing_short = record { most_bytes = λ x fits. omega arith }

pub judged_short : {A : Type 0} {f : Format A} {most : ℕ} (test : A → Bool) → IsShort A f most → IsShort A (judged f test) most
judged_short test h = record { most_bytes = λ x fits. h.most_bytes x fits.0 }

pub next_short : {A B : Type 0} {f : Format A} {m n : ℕ} (g : A → Format B) → IsShort A f m → ((a : A) → IsShort B (g a) n) → IsShort (A × B) (f ▷ g) (m + n)
next_short {A} {B} {f} {m} {n} g h k = record {
  most_bytes = λ x fits.
      let a = h.most_bytes x.0 fits.0 in
      let b = (k x.0).most_bytes x.1 fits.1 in
      let both = length-append (f.spell x.0) ((g x.0).spell x.1) in
      omega arith;
}

pub both_short : {A B : Type 0} {f : Format A} {g : Format B} {m n : ℕ} → IsShort A f m → IsShort B g n → IsShort (A × B) (f ⊗ g) (m + n)
both_short {A} {B} {f} {g} h k = next_short (λ _. g) h (λ _. k)

pub shaped_short : {A B : Type 0} {f : Format B} {most : ℕ} (fields : A → B) (make : B → A) → IsShort B f most → IsShort A (shaped fields make f) most
shaped_short fields make h = record { most_bytes = λ x fits. h.most_bytes (fields x) fits }

-- ---- the fields

lane_short : IsShort ℕ lane_field 1
unfolding lane_field
lane_short = judged_short _ byte_short

ordinal_short : IsShort ℕ ordinal_field 4
unfolding ordinal_field
ordinal_short = judged_short _ (number_short 4)

pub id_short : IsShort CallId id_field 13
unfolding id_field
id_short = shaped_short _ _ (both_short lane_short (both_short ordinal_short (both_short ordinal_short (number_short 4))))

cred_short : IsShort Cred cred_field 8
unfolding cred_field
cred_short = shaped_short _ _ (both_short (number_short 4) (number_short 4))

asker_short : IsShort ℕ asker_field 1
unfolding asker_field
asker_short = judged_short _ byte_short

ino_short : IsShort ℕ ino_field 8
unfolding ino_field
ino_short = judged_short _ (number_short 8)

mode_short : IsShort ℕ mode_field 2
unfolding mode_field
mode_short = judged_short _ (number_short 2)

size_short : IsShort ℕ size_field 8
unfolding size_field
size_short = judged_short _ (number_short 8)

want_short : IsShort ℕ want_field 1
unfolding want_field
want_short = judged_short _ byte_short

pub name_short : IsShort (List ℕ) name_field 256
unfolding name_field
name_short = judged_short _ text_short

key_name_short : (parent : ℕ) → IsShort (List ℕ) (key_name_field parent) 256
unfolding key_name_field
key_name_short parent = judged_short _ text_short

pub key_short : IsShort Key key_field 264
unfolding key_field
key_short = shaped_short _ _ (next_short key_name_field (number_short 8) key_name_short)

kind_most : (x : Kind) → kind_field.Fits x → length (kind_field.spell x) ≤ 1
unfolding kind_field
kind_most FileKind fits = omega arith
kind_most DirKind fits = omega arith

pub inode_short : IsShort Inode inode_field 27
unfolding inode_field
inode_short = shaped_short _ _ (both_short ino_short (both_short (record { most_bytes = kind_most }) (both_short mode_short (both_short (number_short 4) (both_short (number_short 4) size_short)))))

dentry_short : IsShort Dentry dentry_field 18
unfolding dentry_field
dentry_short = shaped_short _ _ (both_short ino_short (both_short mode_short (both_short (number_short 4) (number_short 4))))

errno_most : (x : Errno) → errno_field.Fits x → length (errno_field.spell x) ≤ 1
unfolding errno_field
errno_most Eacces fits = omega arith
errno_most Ebusy fits = omega arith
errno_most Eexist fits = omega arith
errno_most Einval fits = omega arith
errno_most Eisdir fits = omega arith
errno_most Enametoolong fits = omega arith
errno_most Enoent fits = omega arith
errno_most Enospc fits = omega arith
errno_most Enotdir fits = omega arith
errno_most Enotempty fits = omega arith
errno_most Eperm fits = omega arith

reply_most : (x : Reply) → reply_field.Fits x → length (reply_field.spell x) ≤ 28
unfolding reply_field
reply_most Fine fits = omega arith
reply_most (Fail errno) fits = let h = errno_most errno fits in omega arith
reply_most (Stat inode) fits = let h = inode_short.most_bytes inode fits in omega arith
reply_most (Names names) fits = absurd fits

found_most : (x : Found) → found_field.Fits x → length (found_field.spell x) ≤ 19
unfolding found_field
found_most Nothing fits = omega arith
found_most File fits = omega arith
found_most (Dir dentry) fits = let h = dentry_short.most_bytes dentry fits in omega arith

rule_most : (x : Rule) → rule_field.Fits x → length (rule_field.spell x) ≤ 3
unfolding rule_field
rule_most Hash fits = omega arith
rule_most ByParent fits = omega arith
rule_most (Node n) fits = let h = (number_short 2).most_bytes n fits in omega arith

pub rule_short : IsShort Rule rule_field 3
rule_short = record { most_bytes = rule_most }

-- ---- paths

-- each name is spelled with the byte of its length, where the path has a slash
names_length : (names : List (List ℕ)) → length (flat_map (λ (name : List ℕ). name_field.spell name) names) ≡ path_bytes names
unfolding name_field
names_length [] = omega arith
names_length (name ∷ names) =
    let rest = names_length names in
    let sum = sum_by-cons (λ (n : List ℕ). length n + 1) name names in
    let both = length-append (length name ∷ name) (flat_map (λ (n : List ℕ). name_field.spell n) names) in
    omega arith

path_short : IsShort (List (List ℕ)) path_field 4097
unfolding path_field path_names number_spelling
path_short = record {
  most_bytes = λ names fits.
      let few : path_bytes names ≤ 4095 = grind (arith, nat_tests) in
      let long = names_length names in
      omega arith;
}

path_arg_most : (x : PathArg) → path_arg_field.Fits x → length (path_arg_field.spell x) ≤ 4097
unfolding path_arg_field
path_arg_most (Good names) fits = path_short.most_bytes names fits
path_arg_most (Bad fault raw) fits = absurd fits

path_arg_short : IsShort PathArg path_arg_field 4097
path_arg_short = record { most_bytes = path_arg_most }

op_most : (x : Op) → op_field.Fits x → length (op_field.spell x) ≤ 8200
unfolding op_field path_and_mode path_and_want path_and_owner path_and_size two_paths name_and_rule
op_most (op.Mkdir path mode) fits = let h = (both_short path_arg_short mode_short).most_bytes (path, mode) fits in omega arith
op_most (op.Create path mode) fits = let h = (both_short path_arg_short mode_short).most_bytes (path, mode) fits in omega arith
op_most (op.Stat path) fits = let h = path_arg_short.most_bytes path fits in omega arith
op_most (op.Access path want) fits = let h = (both_short path_arg_short want_short).most_bytes (path, want) fits in omega arith
op_most (op.Chmod path mode) fits = let h = (both_short path_arg_short mode_short).most_bytes (path, mode) fits in omega arith
op_most (op.Chown path uid gid) fits = let h = (both_short path_arg_short (both_short (number_short 4) (number_short 4))).most_bytes (path, (uid, gid)) fits in omega arith
op_most (op.Truncate path size) fits = let h = (both_short path_arg_short size_short).most_bytes (path, size) fits in omega arith
op_most (op.Unlink path) fits = let h = path_arg_short.most_bytes path fits in omega arith
op_most (op.Rmdir path) fits = let h = path_arg_short.most_bytes path fits in omega arith
op_most (op.Rename old new) fits = let h = (both_short path_arg_short path_arg_short).most_bytes (old, new) fits in omega arith
op_most (op.List path) fits = let h = path_arg_short.most_bytes path fits in omega arith
op_most (op.Place name rule) fits =
    let named = name_short.most_bytes name fits.0 in
    let ruled = rule_most rule fits.1 in
    let both = length-append (name_field.spell name) (rule_field.spell rule) in
    omega arith

-- ---- the bodies of records

pub call_short : IsShort CallRec call_field 8225
unfolding call_field
call_short = shaped_short _ _ (both_short id_short (both_short cred_short (both_short (number_short 4) (record { most_bytes = op_most }))))

pub reply_body_short : IsShort (CallId × Reply) reply_body 41
unfolding reply_body
reply_body_short = both_short id_short (record { most_bytes = reply_most })

pub fetch_ask_short : IsShort (ℕ × (ℕ × Key)) fetch_ask_body 273
unfolding fetch_ask_body
fetch_ask_short = both_short asker_short (both_short (number_short 8) key_short)

pub fetch_got_short : IsShort (ℕ × (Key × Found)) fetch_got_body 291
unfolding fetch_got_body
fetch_got_short = both_short (number_short 8) (both_short key_short (record { most_bytes = found_most }))
