-- What an operation comes to, by the directories of its last names and by the rows under its last keys. What stands in a directory is
-- not known. No directory means the root path.
use Rattle.std.specs.Prelude.{ℕ, Bool, true, false, not, ◌&&◌, ◌||◌, List, [], ◌∷◌, Option, Some, None, if◌then◌else◌, ◌==◌, sum}
use Rattle.std.specs.List.{list_any}
use Rattle.fal_base.specs.declared.call.Cred.{Cred}
use Rattle.fal_base.specs.declared.inode.Dentry.{Dentry}
use Rattle.fal_base.specs.declared.inode.Inode.{Inode}
use Rattle.fal_base.specs.declared.key.Key.{Key}
use Rattle.fal_base.specs.declared.op.Op.{Op}
use Rattle.fal_base.specs.declared.op.Op.TheVariants as op
use Rattle.fal_base.specs.declared.path.PathArg.TheVariants.{Good}
use Rattle.fal_base.specs.declared.reply.Errno.{Errno}
use Rattle.fal_base.specs.declared.reply.Errno.TheVariants.{Eacces, Einval, Eisdir, Enoent, Enotdir, Enotempty, Eperm}
use Rattle.fal_base.specs.declared.row.Update.{Update}
use Rattle.fal_base.specs.Answer.{is_root}
use Rattle.fal_base.specs.Tree.{same_key}
use Rattle.fal_base.specs.Updates.{removing, putting, row_among}
use Rattle.fal_base.specs.Walk.{is_dir, kept_grants}
use Rattle.fal_dentry.specs.TreeWalk.{last_key, last_name}
use Rattle.fal_coord.specs.declared.judged.Verdict.{Verdict}
use Rattle.fal_coord.specs.declared.judged.Verdict.TheVariants as verdict
use Rattle.fal_coord.specs.declared.path_end.PathEnd.{PathEnd}

-- a verdict, its vectors seen as lists
pub data Judged : Type 0 where
  Fail : Errno → Judged
  Same : Judged
  -- the number of a directory, and the updates if nothing stands in it
  Count : ℕ → List Update → Judged
  Change : List Update → Judged

abbrev pub judged_of : Verdict → Judged
judged_of (verdict.Fail errno) = Fail errno
judged_of verdict.Same = Same
judged_of (verdict.Count dir updates) = Count dir updates.items
judged_of (verdict.Change updates) = Change updates.items

-- what is known of a path's end, by its directory and the rows told
abbrev pub end_of : List Update → Option Dentry → List (List ℕ) → PathEnd
end_of rows parent path = let key = last_key parent (last_name path) in record { parent = parent; key = key; row = row_among rows key }

-- no row is ENOENT
abbrev pub judged_at : Option Inode → (Inode → Judged) → Judged
judged_at None go = Fail Enoent
judged_at (Some inode) go = go inode

-- the errno of the first check that fails, or else what comes after them
abbrev pub judged_unless : List (Bool × Errno) → Judged → Judged
judged_unless [] judged = judged
judged_unless (check ∷ checks) judged = if check.0 then Fail check.1 else judged_unless checks judged

-- one row changes
abbrev pub putting_row : Key → Inode → Judged
putting_row key inode = Change (putting key inode ∷ [])

abbrev pub chmod_verdict : Cred → PathEnd → ℕ → Judged
chmod_verdict cred end mode = judged_at end.row (λ inode.
    judged_unless ((not (cred.uid == 0 || cred.uid == inode.uid), Eperm) ∷ []) (putting_row end.key (record inode { mode = mode })))

abbrev pub chown_verdict : Cred → PathEnd → ℕ → ℕ → Judged
chown_verdict cred end uid gid = judged_at end.row (λ inode.
    judged_unless ((not (cred.uid == 0), Eperm) ∷ []) (putting_row end.key (record inode { uid = uid; gid = gid })))

abbrev pub rmdir_verdict : Cred → PathEnd → Judged
rmdir_verdict cred end = judged_at end.row (λ inode.
    judged_unless ((not (kept_grants cred 2 end.parent), Eacces) ∷ (not (is_dir inode), Enotdir) ∷ []) (Count inode.ino (removing end.key ∷ [])))

-- by these updates a row comes to where something stands, or nothing
abbrev pub replace_verdict : Inode → Option Inode → List Update → Judged
replace_verdict moved None updates = Change updates
replace_verdict moved (Some there) updates = judged_unless
    ((not (is_dir moved) && is_dir there, Eisdir) ∷ (is_dir moved && not (is_dir there), Enotdir) ∷ [])
    (if is_dir there then Count there.ino updates else Change updates)

-- `passed` are the numbers on the way to the new end
abbrev pub rename_verdict : Cred → PathEnd → PathEnd → List ℕ → Judged
rename_verdict cred old new passed = judged_at old.row (λ moved.
    if same_key old.key new.key then Same else
    judged_unless ((not (kept_grants cred 2 old.parent && kept_grants cred 2 new.parent), Eacces)
    ∷ (is_dir moved && list_any (λ ino. ino == moved.ino) passed, Einval) ∷ [])
    (replace_verdict moved new.row (removing old.key ∷ putting new.key moved ∷ [])))

-- the verdict on an operation, by the directory of each path, the numbers passed on the last path, and the rows told.
-- Other operations are not decided by rows: what stands for them here is a mere filler. Callers rest on what it says in trees
unfoldable pub verdict_of : Cred → Op → List (Option Dentry) → List ℕ → List Update → Judged
verdict_of cred (op.Chmod (Good path) mode) (parent ∷ []) passed rows = chmod_verdict cred (end_of rows parent path) mode
verdict_of cred (op.Chown (Good path) uid gid) (parent ∷ []) passed rows = chown_verdict cred (end_of rows parent path) uid gid
verdict_of cred (op.Rmdir (Good path)) (parent ∷ []) passed rows = rmdir_verdict cred (end_of rows parent path)
verdict_of cred (op.Rename (Good from) (Good to)) (old_parent ∷ new_parent ∷ []) passed rows =
    rename_verdict cred (end_of rows old_parent from) (end_of rows new_parent to) passed
verdict_of cred other parents passed rows = Same

-- an operation that rows decide, and a directory for each of its paths. A rmdir or rename of the root is answered before any walk
abbrev pub is_for_rows : Op → List (Option Dentry) → Bool
is_for_rows (op.Chmod (Good path) mode) (parent ∷ []) = true
is_for_rows (op.Chown (Good path) uid gid) (parent ∷ []) = true
is_for_rows (op.Rmdir (Good path)) (parent ∷ []) = not (is_root path)
is_for_rows (op.Rename (Good from) (Good to)) (old_parent ∷ new_parent ∷ []) = not (is_root from || is_root to)
is_for_rows other parents = false

-- what the counts of a directory's rows make of a `Count`
abbrev pub counted_of : List ℕ → List Update → Judged
counted_of counts updates = if sum counts == 0 then Change updates else Fail Enotempty
