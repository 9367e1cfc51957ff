-- The four kinds of records that are sent here are within the ranges of the format where their fields are.
use Rattle.std.proofs.Common.{◌≡◌, ◌≢◌, ℕ, ◌<◌, ◌≤◌, ◌^◌, true, not, ◌&&◌, ◌||◌, ◌==◌, nat_lt, cond, List, [], ◌∷◌, length, Option, Some, None, refl, ap, ◌∙◌, arith}
use Rattle.std.proofs.lemmas.Bool.Decides.{nat_tests}
use Rattle.fal_base.specs.declared.call.CallId.{CallId}
use Rattle.fal_base.specs.declared.call.CallRec.{CallRec}
use Rattle.fal_base.specs.declared.inode.Dentry.{Dentry}
use Rattle.fal_base.specs.declared.inode.Inode.{Inode}
use Rattle.fal_base.specs.declared.inode.Kind.{Kind}
use Rattle.fal_base.specs.declared.inode.Kind.TheVariants.{Dir as DirKind, File as FileKind}
use Rattle.fal_base.specs.declared.key.Key.{Key}
use Rattle.fal_base.specs.declared.reply.Errno.{Errno}
use Rattle.fal_base.specs.declared.reply.Errno.TheVariants.{Eacces, Ebusy, Eexist, Einval, Eisdir, Enametoolong, Enoent, Enospc, Enotdir, Enotempty, Eperm}
use Rattle.fal_base.specs.declared.reply.Reply.{Reply}
use Rattle.fal_base.specs.declared.reply.Reply.TheVariants.{Fine, Fail, Stat}
use Rattle.fal_base.specs.Tree.{root_key, key_of}
use Rattle.fal_base.specs.Walk.{dentry_of}
use Rattle.fal_duty.specs.Duties.{found_of}
use Rattle.fal_run.specs.Letters.{passed_on}
use Rattle.fal_wire.specs.declared.message.Found.{Found}
use Rattle.fal_wire.specs.declared.message.Found.TheVariants.{File, Dir}
use Rattle.fal_wire.specs.declared.message.Message.TheVariants as message
use Rattle.fal_wire.specs.Messages.{FieldsFit, body_spelling, reply_body, fetch_ask_body, fetch_got_body}
use Rattle.fal_base.specs.Names.{is_name}
use Rattle.fal_wire.specs.Names.{is_key_name, name_field, key_name_field, key_field}
use Rattle.fal_wire.specs.Numbers.{asker_field, ino_field, id_field}
use Rattle.fal_wire.specs.Ops.{call_field}
use Rattle.fal_wire.specs.Rows.{inode_field, dentry_field, found_field, errno_field, reply_field}
use Rattle.fal_story.proofs.Lists.Grown.{unequal}
use Rattle.fal_story.proofs.Ranges.FieldLengths.{call_short, reply_body_short, fetch_ask_short, fetch_got_short}
use Rattle.fal_story.proofs.Ranges.RecordFits.{RecordFits}

-- ---- the four kinds

pub call_fits : (call : CallRec) → call_field.Fits call → RecordFits (message.Call call)
unfolding FieldsFit body_spelling
call_fits call fits = let h = call_short.most_bytes call fits in record { fields = fits; short = omega arith; dir = tt }

pub reply_fits : (id : CallId) (reply : Reply) → id_field.Fits id → reply_field.Fits reply → RecordFits (message.Reply id reply)
unfolding FieldsFit body_spelling reply_body
reply_fits id reply of_id of_reply = let h = reply_body_short.most_bytes (id, reply) (of_id, of_reply) in record { fields = (of_id, of_reply); short = omega arith; dir = tt }

pub ask_fits : (asker number : ℕ) (key : Key) → asker_field.Fits asker → number < 2 ^ 64 → key_field.Fits key → RecordFits (message.FetchAsk asker number key)
unfolding FieldsFit body_spelling fetch_ask_body
ask_fits asker number key of_asker below of_key =
    let h = fetch_ask_short.most_bytes (asker, (number, key)) (of_asker, (below, of_key)) in
    record { fields = (of_asker, (below, of_key)); short = omega arith; dir = tt }

pub got_fits : (number : ℕ) (key : Key) (what : Found) → number < 2 ^ 64 → key_field.Fits key → found_field.Fits what → RecordFits (message.FetchGot number key what)
unfolding FieldsFit body_spelling fetch_got_body
got_fits number key what below of_key of_found =
    let h = fetch_got_short.most_bytes (number, (key, what)) (below, (of_key, of_found)) in
    record { fields = (below, (of_key, of_found)); short = omega arith; dir = tt }

-- a node may ask
pub asker_fits : (node : ℕ) → node < 16 → asker_field.Fits node
unfolding asker_field
asker_fits node small = (omega arith, let is : nat_lt node 16 ≡ true = grind (arith, nat_tests) in ap (λ b. b || (node == 255)) is)

-- and so may the coordinator
pub coord_asks : asker_field.Fits 255
unfolding asker_field
coord_asks = (omega arith, refl)

-- ---- and their fields then are

pub call_of_record : (call : CallRec) → RecordFits (message.Call call) → call_field.Fits call
unfolding FieldsFit
call_of_record call fits = fits.fields

-- the fields of a question
pub record IsAsk (asker number : ℕ) (key : Key) : Type 0 where
  pub asker_in_range : asker_field.Fits asker
  pub number_in_range : number < 2 ^ 64
  pub key_in_range : key_field.Fits key

pub ask_fields : (asker number : ℕ) (key : Key) → FieldsFit (message.FetchAsk asker number key) → IsAsk asker number key
unfolding FieldsFit fetch_ask_body
ask_fields asker number key fits = record { asker_in_range = fits.0; number_in_range = fits.1.0; key_in_range = fits.1.1 }

pub got_dentry : (number : ℕ) (key : Key) (dentry : Dentry) → RecordFits (message.FetchGot number key (Dir dentry)) → dentry_field.Fits dentry
unfolding FieldsFit fetch_got_body found_field
got_dentry number key dentry fits = fits.fields.1.1

pub id_of_call : (call : CallRec) → call_field.Fits call → id_field.Fits call.id
unfolding call_field
id_of_call call fits = fits.0

-- a call that was not handed on too often can be handed on
pub passed_fits : (call : CallRec) → call.id.hop ≤ 20000 → call_field.Fits call → call_field.Fits (passed_on call)
unfolding call_field id_field
passed_fits call few fits =
    let id = fits.0 in
    ((id.0, (id.1.0, (id.1.1.0, omega arith))), fits.1)

-- ---- replies

errno_fits : (errno : Errno) → errno_field.Fits errno
unfolding errno_field
errno_fits Eacces = tt
errno_fits Ebusy = tt
errno_fits Eexist = tt
errno_fits Einval = tt
errno_fits Eisdir = tt
errno_fits Enametoolong = tt
errno_fits Enoent = tt
errno_fits Enospc = tt
errno_fits Enotdir = tt
errno_fits Enotempty = tt
errno_fits Eperm = tt

pub fail_fits : (errno : Errno) → reply_field.Fits (Fail errno)
unfolding reply_field
fail_fits errno = errno_fits errno

pub fine_fits : reply_field.Fits Fine
unfolding reply_field
fine_fits = tt

pub stat_fits : (inode : Inode) → inode_field.Fits inode → reply_field.Fits (Stat inode)
unfolding reply_field
stat_fits inode fits = fits

-- ---- keys

pub root_fits : key_field.Fits root_key
unfolding key_field key_name_field is_key_name
root_fits = (omega arith, (omega arith, refl))

-- a name is not empty
some_name : (bytes : List ℕ) → is_name bytes ≡ true → length bytes ≢ 0
unfolding is_name
some_name [] is none = cc
some_name (b ∷ bytes) is none = absurd (omega arith)

key_named : (parent : ℕ) (bytes : List ℕ) → 0 < parent → is_name bytes ≡ true → is_key_name parent bytes ≡ true
unfolding is_key_name
key_named parent bytes some is =
    ap (λ b. cond b (parent == 0) (not (parent == 0) && is_name bytes)) (unequal (length bytes) 0 (some_name bytes is))
    ∙ ap (λ b. not b && is_name bytes) (unequal parent 0 (λ e. absurd (omega arith)))
    ∙ is

pub under_fits : (dentry : Dentry) (name : List ℕ) → dentry_field.Fits dentry → name_field.Fits name → key_field.Fits (key_of dentry.ino name)
unfolding key_field key_name_field is_key_name dentry_field ino_field name_field
under_fits dentry name of_dentry of_name =
    let some : 0 < dentry.ino = grind (arith, nat_tests) in
    (of_dentry.0.0, (of_name.0, key_named dentry.ino name some of_name.1))

-- ---- rows and what is found

pub dentry_fits : (inode : Inode) → inode_field.Fits inode → dentry_field.Fits (dentry_of inode)
unfolding inode_field dentry_field
dentry_fits inode fits = (fits.0, (fits.1.1.0, (fits.1.1.1.0, fits.1.1.1.1.0)))

pub found_fits : (row : Option Inode) → ((inode : Inode) → row ≡ Some inode → inode_field.Fits inode) → found_field.Fits (found_of row)
unfolding found_field
found_fits None fits = tt
found_fits (Some inode) fits = elim inode.kind as (λ (kind : Kind). found_field.Fits (elim kind [ DirKind ↦ Dir (dentry_of inode) | FileKind ↦ File ])) [
  | DirKind ↦ dentry_fits inode (fits inode refl)
  | FileKind ↦ tt
]
