-- The operation of a place: where each node is, which rows are on their way, and what records tell of it.
use Rattle.std.proofs.Common.{◌≡◌, ◌⊎◌, ℕ, ◌<◌, ◌≤◌, true, false, List, [], Option, Some, None}
use Rattle.fal_base.specs.declared.event.Actor.{Actor}
use Rattle.fal_base.specs.declared.event.Actor.TheVariants.{Node}
use Rattle.fal_base.specs.declared.key.Key.{Key}
use Rattle.fal_base.specs.declared.row.NamedRow.{NamedRow}
use Rattle.fal_base.specs.declared.row.Update.{Update}
use Rattle.fal_base.specs.declared.rule.Rule.{Rule}
use Rattle.fal_base.specs.Commits.{Commit}
use Rattle.fal_base.specs.Tree.{Tree, row_at}
use Rattle.fal_dentry.specs.Walk.{is_among}
use Rattle.fal_run.specs.declared.call.BatchCall.{BatchCall}
use Rattle.fal_inode.specs.Named.{puts}
use Rattle.fal_place.specs.Placement.{Placement, owner, with_rule}
use Rattle.fal_wire.specs.declared.message.Message.{Message}
use Rattle.fal_wire.specs.declared.message.Message.TheVariants as message
use Rattle.fal_base.specs.Updates.{laid, keys_of}
use Rattle.fal_story.proofs.View.{Post, IsPosted, Work, Rests, Blocks, Lands}
use Rattle.fal_story.proofs.Trees.Standing.{tree_now}
use Rattle.fal_story.proofs.Families.Operation.{IsMissing}
use Rattle.fal_story.proofs.Phase.{Phase, Plans}

abbrev pub IsBarred : Option (ℕ × List ℕ) → List ℕ → Type 0
IsBarred None name = ⊥
IsBarred (Some b) name = b.1 ≡ name

abbrev pub barred_by : ℕ → List ℕ → Option (ℕ × List ℕ)
barred_by operation name = Some (operation, name)

-- ---- where the nodes are

-- the Block has not come to the node, or is its next item
abbrev pub IsUnblocked : ℕ → List ℕ → Option Message → ℕ → Type 0
IsUnblocked operation name queued last = ((queued ≡ None) × (last < operation)) ⊎ ((queued ≡ Some (message.Block operation name)) × (last ≡ operation))

abbrev pub IsStill : ℕ → Option Message → ℕ → Type 0
IsStill operation queued last = (queued ≡ None) × (last ≡ operation)

-- a node has the table before and the name barred, or has the recorded table and nothing barred
abbrev pub Bar : Placement → ℕ → Work → ℕ → Placement → Option (ℕ × List ℕ) → Option Message → ℕ → List Update → Type 0
Bar table operation (Blocks lane name rule missing came) n own barred queued last due =
    (own ≡ table) × ((IsMissing n missing × (barred ≡ None) × (due ≡ []) × IsUnblocked operation name queued last) ⊎ ((barred ≡ barred_by operation name) × IsStill operation queued last))
Bar table operation (Lands name rule old missing) n own barred queued last due =
    (IsMissing n missing × (own ≡ old) × (barred ≡ barred_by operation name) × IsStill operation queued last) ⊎ ((own ≡ table) × (barred ≡ None) × (due ≡ []) × IsStill operation queued last)
Bar table operation other n own barred queued last due = (own ≡ table) × (barred ≡ None)

-- the recorded table is that before with the name's rule
abbrev pub IsGrown : Placement → Work → Type 0
IsGrown table (Lands name rule old missing) = table ≡ with_rule old name rule
IsGrown table other = Unit {0}

-- ---- rows that are on their way

-- all that is due is under the name
abbrev pub AreNamed : (ℕ → List Update) → Work → Type 0
AreNamed due (Blocks lane name rule missing came) = (n : ℕ) (key : Key) → is_among key (keys_of (due n)) ≡ true → key.name ≡ name
AreNamed due (Lands name rule old missing) = (n : ℕ) (key : Key) → is_among key (keys_of (due n)) ≡ true → key.name ≡ name
AreNamed due other = Unit {0}

-- of the rows that came: all are under the name, and of each key of it whose owner was heard they give what the tree has; of the others none came
abbrev pub HasCame : Placement → Tree → List ℕ → List ℕ → List Update → Type 0
HasCame table tree name missing came = (key : Key) → key.name ≡ name
    → (IsMissing (owner table key) missing × (row_at (laid came []) key ≡ None)) ⊎ ((IsMissing (owner table key) missing → ⊥) × (row_at (laid came []) key ≡ row_at tree key))

abbrev pub AreCame : Placement → Tree → Work → Type 0
AreCame table tree (Blocks lane name rule missing came) = ((key : Key) → is_among key (keys_of came) ≡ true → key.name ≡ name) × HasCame table tree name missing came
AreCame table tree other = Unit {0}

-- ---- what records tell

abbrev pub BlocksName : Work → List ℕ → Type 0
BlocksName (Blocks lane name rule missing came) asked = name ≡ asked
BlocksName other asked = ⊥

abbrev pub ToldBlocked : ℕ → Work → Option (ℕ × List ℕ) → List Update → List NamedRow → Type 0
ToldBlocked operation Rests barred due rows = Unit {0}
ToldBlocked operation (Blocks lane name rule missing came) barred due rows = (barred ≡ barred_by operation name) × (due ≡ puts name rows)
ToldBlocked operation (Lands name rule old missing) barred due rows = Unit {0}
ToldBlocked operation other barred due rows = ⊥

abbrev pub ToldInstall : Placement → Work → Option (ℕ × List ℕ) → List Update → ℕ → Rule → List NamedRow → Type 0
ToldInstall table Rests barred due version told rows = Unit {0}
ToldInstall table (Lands name rule old missing) barred due version told rows = (version ≡ table.version) × (told ≡ rule) × ((barred ≡ None) ⊎ (due ≡ puts name rows))
ToldInstall table other barred due version told rows = ⊥

abbrev pub ToldInstalled : Work → Option (ℕ × List ℕ) → Type 0
ToldInstalled Rests barred = Unit {0}
ToldInstalled (Lands name rule old missing) barred = barred ≡ None
ToldInstalled other barred = ⊥

abbrev pub IsToldBar : ℕ → Placement → ℕ → Work → (ℕ → Option (ℕ × List ℕ)) → (ℕ → List Update) → (ℕ → ℕ) → Actor → Message → Type 0
IsToldBar nodes table operation work barred due last to (message.Block o name) = (n : ℕ) × (to ≡ Node n) × (n < nodes) × ((o ≤ last n) ⊎ ((o ≡ operation) × BlocksName work name))
IsToldBar nodes table operation work barred due last to (message.Blocked o n rows) = (o ≤ operation) × (o ≡ operation → ToldBlocked operation work (barred n) (due n) rows)
IsToldBar nodes table operation work barred due last to (message.Install o version rule rows) = (n : ℕ) × (to ≡ Node n) × (n < nodes) × (o ≤ operation) × (o ≡ operation → ToldInstall table work (barred n) (due n) version rule rows)
IsToldBar nodes table operation work barred due last to (message.Installed o n) = (o ≤ operation) × (o ≡ operation → ToldInstalled work (barred n))
IsToldBar nodes table operation work barred due last to other = Unit {0}

pub record Bars (nodes : ℕ) (table : Placement) (tables : ℕ → Placement) (barred : ℕ → Option (ℕ × List ℕ)) (rows : ℕ → Tree) (due : ℕ → List Update) (queued : ℕ → Option Message) (last : ℕ → ℕ) (operation : ℕ) (work : Work)
    (posts : List Post) (commits : List Commit) (phase : ℕ → Phase) : Type 0 where
  pub stands : (n : ℕ) → n < nodes → Bar table operation work n (tables n) (barred n) (queued n) (last n) (due n)
  pub beyond : (n : ℕ) → nodes ≤ n → barred n ≡ None
  pub grown : IsGrown table work
  pub gone : (n : ℕ) (key : Key) → IsBarred (barred n) key.name → row_at (rows n) key ≡ None
  pub named : AreNamed due work
  pub came : AreCame table (tree_now commits) work
  pub told : (e p : ℕ) (to : Actor) (m : Message) → IsPosted posts e to p m → IsToldBar nodes table operation work barred due last to m
  pub clear : (l n : ℕ) (x : BatchCall) → phase l ≡ Plans n x → x.denied ≡ false → IsBarred (barred n) x.last.name → ⊥
