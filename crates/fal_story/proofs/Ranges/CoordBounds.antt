-- What holds of every value that the coordinator keeps, so that each record that it makes is within the ranges of the format.
use Rattle.std.proofs.Common.{◌≡◌, ℕ, ◌<◌, ◌≤◌, ◌^◌, List, [], ◌∷◌, Option, Some}
use Rattle.std.specs.Prelude.{IsTrue}
use Rattle.fal_base.specs.declared.call.CallRec.{CallRec}
use Rattle.fal_base.specs.declared.inode.Dentry.{Dentry}
use Rattle.fal_base.specs.declared.key.Key.{Key}
use Rattle.fal_base.specs.declared.row.NamedRow.{NamedRow}
use Rattle.fal_base.specs.declared.row.Update.{Update}
use Rattle.fal_base.specs.Maps.{value_at}
use Rattle.fal_coord.specs.declared.stage.Operation.{Operation}
use Rattle.fal_coord.specs.declared.stage.Stage.{Stage}
use Rattle.fal_coord.specs.declared.stage.Stage.TheVariants.{Idle, Walk, Lock, Count, Finish, Block, Install}
use Rattle.fal_coord.specs.State.{CoordState}
use Rattle.fal_coord.specs.Walks.{is_operation, is_walking, parents_of, walked_paths}
use Rattle.fal_dentry.specs.TreeWalk.{last_key, last_name}
use Rattle.fal_wire.specs.Names.{key_field}
use Rattle.fal_wire.specs.Ops.{call_field}
use Rattle.fal_wire.specs.Rows.{dentry_field, inode_field, row_field, updates_field}
use Rattle.fal_story.proofs.Lists.Each.{Each, Apart}

-- the last key of each path, in the directory to which its walk has come, can be spelled
abbrev pub EndsFit : List (List (List ℕ)) → List (Option Dentry) → Type 0
EndsFit [] [] = Unit {0}
EndsFit [] (parent ∷ parents) = ⊥
EndsFit (names ∷ paths) [] = ⊥
EndsFit (names ∷ paths) (parent ∷ parents) = key_field.Fits (last_key parent (last_name names)) × EndsFit paths parents

-- a call that the coordinator carries out, and that can be spelled
abbrev pub IsCarried : CallRec → Type 0
IsCarried call = call_field.Fits call × IsTrue (is_operation call.op)

-- one whose paths are walked
abbrev pub IsWalked : CallRec → Type 0
IsWalked call = call_field.Fits call × IsTrue (is_walking call.op)

pub record IsOperationRanged (operation : Operation) : Type 0 where
  pub call : call_field.Fits operation.call
  pub ends : EndsFit (walked_paths operation.call.op) (parents_of operation.walks)

-- what stands under the keys can be spelled
abbrev pub RowsFit : List Update → Type 0
RowsFit rows = Each (λ u. row_field.Fits u.row) rows

-- a row that nodes give away can be spelled
abbrev pub NamedRowFits : NamedRow → Type 0
NamedRowFits row = (row.parent < 256 ^ 8) × inode_field.Fits row.inode

-- the rows of a name that nodes gave away: of each directory there is one
pub record AreGiven (rows : List NamedRow) : Type 0 where
  pub fit : Each NamedRowFits rows
  pub apart : Apart (λ (row : NamedRow). row.parent) rows

-- while an operation is under way there is a first one, and what is known for it can be spelled
abbrev pub IsStageRanged : ℕ → Stage → Type 0
IsStageRanged number Idle = Unit {0}
IsStageRanged number (Walk call fetch key) = (0 < number) × IsWalked call
IsStageRanged number (Lock operation missing rows) = (0 < number) × IsOperationRanged operation × RowsFit rows
IsStageRanged number (Count operation rows dir updates missing counts) = (0 < number) × IsOperationRanged operation × updates_field.Fits updates
IsStageRanged number (Finish keys updates missing) = updates_field.Fits updates
IsStageRanged number (Block call missing rows) = (0 < number) × call_field.Fits call × AreGiven rows
IsStageRanged number (Install call missing) = Unit {0}

-- every call, directory and row that the coordinator keeps can be spelled, and each event numbers at most one fetch
pub record IsCoordRanged (events : ℕ) (c : CoordState) : Type 0 where
  pub waiting : Each IsCarried c.waiting
  pub replica : (key : Key) (dentry : Dentry) → value_at c.replica key ≡ Some dentry → dentry_field.Fits dentry
  pub stage : IsStageRanged c.operation c.stage
  pub asked : c.asked ≤ events
