-- What the outcome of a call on one row says of the tree that the row and its directory stand in.
use Rattle.std.specs.Prelude.{◌≡◌, ℕ, Bool, true, false, ◌&&◌, List, Option, Some, None, IsSomeAnd}
use Rattle.std.specs.Option.{option_map}
use Rattle.fal_base.specs.declared.call.Cred.{Cred}
use Rattle.fal_base.specs.declared.inode.Dentry.{Dentry}
use Rattle.fal_base.specs.declared.inode.Inode.{Inode}
use Rattle.fal_base.specs.declared.inode.Kind.TheVariants.{Dir}
use Rattle.fal_base.specs.declared.key.Key.{Key}
use Rattle.fal_base.specs.declared.op.Op.{Op}
use Rattle.fal_base.specs.declared.op.Op.TheVariants as op
use Rattle.fal_base.specs.declared.reply.Reply.{Reply}
use Rattle.fal_base.specs.declared.reply.Reply.TheVariants.{Fine, Names}
use Rattle.fal_base.specs.Tree.{Tree, row_at, with_row, without_row, names_under}
use Rattle.fal_base.specs.Walk.{Ready, walk, is_dir, dentry_of}
use Rattle.fal_base.specs.Answer.{answer}
use Rattle.fal_base.specs.Change.{makes, change, is_fine}
use Rattle.fal_base.specs.Transcript.{is_list, is_names}
use Rattle.fal_exec.specs.RowCall.{row_names}
use Rattle.fal_exec.specs.declared.outcome.Change.{Change}
use Rattle.fal_exec.specs.declared.outcome.Change.TheVariants.{Keep, Put, Remove}
use Rattle.fal_exec.specs.declared.outcome.ExecOut.{ExecOut}
use Rattle.fal_exec.specs.declared.outcome.ExecOut.TheVariants.{Finish, Opened, PassOn}

-- a chmod or chown
abbrev pub is_of_owner : Op → Bool
is_of_owner (op.Chmod path mode) = true
is_of_owner (op.Chown path uid gid) = true
is_of_owner other = false

abbrev pub is_directory : Option Inode → Bool
is_directory None = false
is_directory (Some inode) = is_dir inode

-- a list that is answered with names
abbrev pub opens : Tree → Cred → Op → Bool
opens tree cred op = is_list op && is_names (answer tree cred op)

-- a chmod or chown of a directory that is answered ok
abbrev pub passes_on : Tree → Cred → Op → Key → Bool
passes_on tree cred op key = is_of_owner op && is_fine (answer tree cred op) && is_directory (row_at tree key)

-- the row's part of the tree's change: the row stays exactly where the call makes no commit
abbrev pub IsRowPart : Tree → Cred → Op → ℕ → Key → Change → Type 0
IsRowPart tree cred op fresh key Keep = makes tree cred op ≡ false
IsRowPart tree cred op fresh key (Put inode) = (makes tree cred op ≡ true) × (change tree cred op fresh ≡ with_row tree key inode)
IsRowPart tree cred op fresh key Remove = (makes tree cred op ≡ true) × (change tree cred op fresh ≡ without_row tree key)

-- the call is done, and was neither to be listed nor to be passed on
pub record IsFinished (tree : Tree) (cred : Cred) (op : Op) (fresh : ℕ) (key : Key) (reply : Reply) (row_change : Change) : Type 0 where
  pub answered : reply ≡ answer tree cred op
  pub part : IsRowPart tree cred op fresh key row_change
  pub not_opened : opens tree cred op ≡ false
  pub not_passed_on : passes_on tree cred op key ≡ false

-- the list is answered with the names under this directory, which stands there
pub record IsOpened (tree : Tree) (cred : Cred) (op : Op) (key : Key) (ino : ℕ) : Type 0 where
  pub opened : opens tree cred op ≡ true
  pub answered : answer tree cred op ≡ Names (names_under tree ino)
  pub directory : IsSomeAnd (row_at tree key) (λ dir. (dir.kind ≡ Dir) × (dir.ino ≡ ino))

pub record IsPassedOn (tree : Tree) (cred : Cred) (op : Op) (key : Key) : Type 0 where
  pub passed_on : passes_on tree cred op key ≡ true
  pub answered : answer tree cred op ≡ Fine

abbrev pub IsExecuted : Tree → Cred → Op → ℕ → Key → ExecOut → Type 0
IsExecuted tree cred op fresh key (Finish reply row_change) = IsFinished tree cred op fresh key reply row_change
IsExecuted tree cred op fresh key (Opened ino) = IsOpened tree cred op key ino
IsExecuted tree cred op fresh key PassOn = IsPassedOn tree cred op key

-- in every tree where the walk of the call's path is ready, and row and parent are the tree's, this comes of the call
abbrev pub IsExecutedInTrees : Option Inode → Option Dentry → Cred → Op → ℕ → ExecOut → Type 0
IsExecutedInTrees row parent cred op fresh out =
    (tree : Tree) (names : List (List ℕ)) (above : Option Inode) (passed : List ℕ) (key : Key) → row_names op ≡ Some names → walk tree cred names ≡ Ready above passed key
    → row ≡ row_at tree key → parent ≡ option_map dentry_of above → IsExecuted tree cred op fresh key out
