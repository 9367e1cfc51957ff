-- What the proofs see of a world: what the nodes know, what is under way, where each lane's call is, and what the coordinator is at.
use Rattle.std.proofs.Common.{◌≡◌, ◌⊎◌, inl, inr, ⊎_elim, ℕ, List, [], ◌∷◌, ◌++◌, Option, Some, ap}
use Rattle.std.specs.Prelude.{slice_get}
use Rattle.fal_base.specs.declared.call.Call.{Call}
use Rattle.fal_base.specs.declared.call.CallRec.{CallRec}
use Rattle.fal_base.specs.declared.entry.Entry.{Entry}
use Rattle.fal_base.specs.declared.event.Actor.{Actor}
use Rattle.fal_base.specs.declared.event.Actor.TheVariants.{Client, Node, Coord}
use Rattle.fal_base.specs.declared.inode.Dentry.{Dentry}
use Rattle.fal_base.specs.declared.key.Key.{Key}
use Rattle.fal_base.specs.declared.row.Update.{Update}
use Rattle.fal_base.specs.declared.rule.Rule.{Rule}
use Rattle.fal_base.specs.Commits.{Commit}
use Rattle.fal_base.specs.Tree.{Tree}
use Rattle.fal_dentry.specs.Walk.{Dentries}
use Rattle.fal_locks.specs.declared.holder.Shut.{Shut}
use Rattle.fal_place.specs.Placement.{Placement, Placing}
use Rattle.fal_base.specs.Marks.{Marks}
use Rattle.fal_wire.specs.declared.message.Message.{Message}
use Rattle.fal_story.proofs.Lists.Grown.{slice_get_snoc}
use Rattle.fal_story.proofs.Phase.{Phase}
use Rattle.fal_story.proofs.Trees.Standing.{tree_now}

-- ---- parts

-- an envelope with the message that its bytes say, if they are a record
pub record Post : Type 0 where
  pub to : Actor
  pub point : ℕ
  pub message : Option Message

-- a pending fetch: its number and its key
pub record Asking : Type 0 where
  pub number : ℕ
  pub key : Key

-- the coordinator has the number 255, which is no node's
abbrev pub seat : Actor → Actor
seat Coord = Node 255
seat (Node n) = Node n
seat (Client lane) = Client lane

-- a path that an operation has walked, and where the walk ended
pub record Kept : Type 0 where
  pub names : List (List ℕ)
  pub parent : Option Dentry
  pub passed : List ℕ
  pub last : Key

-- what the coordinator is at
pub data Work : Type 0 where
  Rests : Work
  Walks : (lane : ℕ) → Work
  -- keys are being shut; the nodes not yet heard, and the rows that came
  Locks : (lane : ℕ) (keys : List Key) (walks : List Kept) (missing : List ℕ) (rows : List Update) → Work
  -- rows under a directory are being counted; the sum of those that were told
  Counts : (lane : ℕ) (keys : List Key) (walks : List Kept) (missing : List ℕ) (rows : List Update) (dir : ℕ) (updates : List Update) (sum : ℕ) → Work
  -- nodes are to give away the rows of a name, which is placed; those not yet heard, and the rows that came
  Blocks : (lane : ℕ) (name : List ℕ) (rule : Rule) (missing : List ℕ) (rows : List Update) → Work
  -- the name is placed, and nodes are to take the rows that are theirs; the table before, and the nodes not yet heard
  Lands : (name : List ℕ) (rule : Rule) (old : Placement) (missing : List ℕ) → Work
  -- the operation is decided
  Ends : (keys : List Key) (updates : List Update) (missing : List ℕ) → Work

-- ---- components

-- of each node: what it has shut, the Lock that is its next item, the last operation that it heard of, and the updates that it has still to lay;
-- of the run: the number of the last operation, where it is, and the calls for which operations were started, by lane and seq;
-- of each lane: the keys on which the place of its call rests
pub record Operating : Type 0 where
  pub shut : ℕ → Option Shut
  pub queued : ℕ → Option Message
  pub last : ℕ → ℕ
  pub due : ℕ → List Update
  pub operation : ℕ
  pub work : Work
  pub starts : List (ℕ × ℕ)
  pub crossed : ℕ → List Key

-- where rows live: the recorded table, which is the coordinator's, and the placements that made it;
-- of each node its table, and the operation and the name of which it has given the rows away; of each lane the table that its client knows
pub record Mapped : Type 0 where
  pub table : Placement
  pub placings : List Placing
  pub tables : ℕ → Placement
  pub barred : ℕ → Option (ℕ × List ℕ)
  pub known : ℕ → Placement

pub record View : Type 0 where
  -- of each node: rows, replica, pending fetches, how many it has opened, the last calls taken, and how many inode numbers were drawn
  pub rows : ℕ → Tree
  pub replica : ℕ → Dentries
  pub fetches : ℕ → List Asking
  pub opened : ℕ → ℕ
  pub taken : ℕ → Marks
  pub drawn : ℕ → ℕ
  -- the run so far
  pub posts : List Post
  pub entries : List Entry
  pub commits : List Commit
  -- of each lane: how many calls were sent, the last of them, the commits when it was sent, and where it is
  pub seq : ℕ → ℕ
  pub call : ℕ → CallRec
  pub since : ℕ → ℕ
  pub phase : ℕ → Phase
  -- what an operation of the coordinator has under way, and where rows live
  pub op : Operating
  pub map : Mapped

abbrev pub now : View → Tree
now v = tree_now v.commits

abbrev pub plain : CallRec → Call
plain call = record { cred = call.cred; op = call.op }

-- ---- records under way

abbrev pub post : Actor → ℕ → Message → Post
post to point m = record { to = to; point = point; message = Some m }

abbrev pub IsPosted : List Post → ℕ → Actor → ℕ → Message → Type 0
IsPosted posts e to p m = slice_get posts e ≡ Some (post to p m)

-- what was sent is an earlier record or the new one
pub posted_more : (posts : List Post) (to : Actor) (p : ℕ) (m : Message) (e : ℕ) (other : Actor) (q : ℕ) (n : Message) → IsPosted (posts ++ post to p m ∷ []) e other q n
    → IsPosted posts e other q n ⊎ ((to ≡ other) × (p ≡ q) × (m ≡ n))
posted_more posts to p m e other q n h =
    ⊎_elim (λ x. inl x) (λ x. inr (ap (λ (z : Post). z.to) x.1, ap (λ (z : Post). z.point) x.1, same_message m n (ap (λ (z : Post). z.message) x.1))) (slice_get_snoc posts (post to p m) e (post other q n) h)
  where
    same_message : (a b : Message) → ◌≡◌ {A = Option Message} (Some a) (Some b) → a ≡ b
    same_message a b e = cc
