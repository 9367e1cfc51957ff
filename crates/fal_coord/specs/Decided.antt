-- What a verdict says of the trees in which what was kept for it is so.
use Rattle.std.specs.Prelude.{◌≡◌, ℕ, ◌<◌, true, false, List, [], ◌∷◌, length, Option, IsSome, Contains, map}
use Rattle.std.specs.Option.{option_map}
use Rattle.fal_base.specs.declared.call.Cred.{Cred}
use Rattle.fal_base.specs.declared.inode.Dentry.{Dentry}
use Rattle.fal_base.specs.declared.inode.Inode.{Inode}
use Rattle.fal_base.specs.declared.key.Key.{Key}
use Rattle.fal_base.specs.declared.op.Op.{Op}
use Rattle.fal_base.specs.declared.op.Op.TheVariants as op
use Rattle.fal_base.specs.declared.path.PathArg.TheVariants.{Good}
use Rattle.fal_base.specs.declared.reply.Errno.TheVariants.{Enotempty}
use Rattle.fal_base.specs.declared.reply.Reply.TheVariants as reply
use Rattle.fal_base.specs.declared.row.Update.{Update}
use Rattle.fal_base.specs.Answer.{answer}
use Rattle.fal_base.specs.Change.{makes, change}
use Rattle.fal_base.specs.Tree.{Tree, row_at, names_under}
use Rattle.fal_base.specs.Updates.{laid as tree_with}
use Rattle.fal_base.specs.Walk.{Ready, walk, dentry_of}
use Rattle.fal_coord.specs.declared.path_end.PathEnd.{PathEnd}
use Rattle.fal_coord.specs.Judged.{Judged, end_of, Fail, Same, Count, Change}

-- what is known of a path's end is so in the tree: the walk is ready there by this directory and these numbers, and this row stands there
pub record IsKept (tree : Tree) (cred : Cred) (path : List (List ℕ)) (end : PathEnd) (passed : List ℕ) : Type 0 where
  pub dir : Option Inode
  pub ready : walk tree cred path ≡ Ready dir passed end.key
  pub parent : option_map dentry_of dir ≡ end.parent
  pub row : row_at tree end.key ≡ end.row

-- so it is of each path; the numbers passed are those of the last one
abbrev pub AreKept : Tree → Cred → Op → List (Option Dentry) → List ℕ → List Update → Type 0
AreKept tree cred (op.Chmod (Good path) mode) (parent ∷ []) passed rows = IsKept tree cred path (end_of rows parent path) passed
AreKept tree cred (op.Chown (Good path) uid gid) (parent ∷ []) passed rows = IsKept tree cred path (end_of rows parent path) passed
AreKept tree cred (op.Rmdir (Good path)) (parent ∷ []) passed rows = IsKept tree cred path (end_of rows parent path) passed
AreKept tree cred (op.Rename (Good from) (Good to)) (old_parent ∷ new_parent ∷ []) passed rows =
    ((before : List ℕ) × IsKept tree cred from (end_of rows old_parent from) before) × IsKept tree cred to (end_of rows new_parent to) passed
AreKept tree cred other parents passed rows = ⊥

pub record IsSame (tree : Tree) (cred : Cred) (op : Op) : Type 0 where
  pub answered : answer tree cred op ≡ reply.Fine
  pub unmade : makes tree cred op ≡ false

-- the call makes a commit, which leaves the tree with these updates
pub record IsChange (tree : Tree) (cred : Cred) (op : Op) (updates : List Update) : Type 0 where
  pub answered : answer tree cred op ≡ reply.Fine
  pub made : makes tree cred op ≡ true
  pub laid : change tree cred op 0 ≡ tree_with updates tree

-- what stands in the directory with this number decides
pub record IsCount (tree : Tree) (cred : Cred) (op : Op) (dir : ℕ) (updates : List Update) : Type 0 where
  pub empty : length (names_under tree dir) ≡ 0 → IsChange tree cred op updates
  pub full : 0 < length (names_under tree dir) → answer tree cred op ≡ reply.Fail Enotempty

abbrev pub SaysOfTree : Tree → Cred → Op → Judged → Type 0
SaysOfTree tree cred op (Fail errno) = answer tree cred op ≡ reply.Fail errno
SaysOfTree tree cred op Same = IsSame tree cred op
SaysOfTree tree cred op (Count dir updates) = IsCount tree cred op dir updates
SaysOfTree tree cred op (Change updates) = IsChange tree cred op updates

-- in every tree in which all that was kept is so. Callers that need no tree see it closed
unfoldable pub SaysInTrees : Cred → Op → List (Option Dentry) → List ℕ → List Update → Judged → Type 0
SaysInTrees cred op parents passed rows judged = (tree : Tree) → AreKept tree cred op parents passed rows → SaysOfTree tree cred op judged

-- rows stand in the tree where they stand in some part of it
pub record ArePartsOf (parts : List Tree) (tree : Tree) : Type 0 where
  pub within : (part : Tree) → Contains parts part → (key : Key) → IsSome (row_at part key) → IsSome (row_at tree key)
  pub covers : (key : Key) → IsSome (row_at tree key) → (part : Tree) × Contains parts part × IsSome (row_at part key)

-- in every tree in which a `Count` says what is so, and whose parts have these counts
unfoldable pub SaysOfParts : List ℕ → List Update → Judged → Type 0
SaysOfParts counts updates judged =
    (tree : Tree) (parts : List Tree) (cred : Cred) (op : Op) (dir : ℕ) → ArePartsOf parts tree → counts ≡ map (λ part. length (names_under part dir)) parts
    → IsCount tree cred op dir updates → SaysOfTree tree cred op judged
