-- An actor at its seat: it is the replay of its own events, and what it heard was sent.
use Rattle.std.specs.Prelude.{◌≡◌, ℕ, ◌<◌, Bool, true, IsTrue, List, [], Some, slice_get}
use Rattle.std.specs.List.{All}
use Rattle.atomic_table.specs.Seated.{TableId}
use Rattle.fal_base.specs.declared.call.Config.{Config}
use Rattle.fal_base.specs.declared.event.Actor.{Actor}
use Rattle.fal_base.specs.declared.event.Actor.TheVariants.{Client, Coord, Node}
use Rattle.fal_base.specs.declared.event.Envelope.{Envelope}
use Rattle.fal_base.specs.declared.event.Event.{Event}
use Rattle.fal_base.specs.declared.event.Event.TheVariants as event
use Rattle.fal_book.specs.Entries as entries
use Rattle.fal_book.specs.Sitting.{Sitting, Knows}
use Rattle.fal_client.specs.declared.event.ClientEvent.{ClientEvent}
use Rattle.fal_client.specs.declared.event.ClientEvent.TheVariants as client
use Rattle.fal_client.specs.State.{ClientState}
use Rattle.fal_coord.specs.declared.event.CoordEvent.{CoordEvent}
use Rattle.fal_coord.specs.declared.event.CoordEvent.TheVariants as coord
use Rattle.fal_coord.specs.State.{CoordState}
use Rattle.fal_node.specs.declared.event.NodeEvent.{NodeEvent}
use Rattle.fal_node.specs.declared.event.NodeEvent.TheVariants as node
use Rattle.fal_node.specs.State.{NodeState}
use Rattle.fal_story.specs.declared.inbox.Arrived.{Arrived}
use Rattle.fal_story.specs.Actors.{number_of, actor_number}
use Rattle.fal_story.specs.Clusters.{IsCluster, is_lane, is_node}
use Rattle.fal_story.specs.Machines.{Machine, ClientMachine, CoordMachine, NodeMachine}
use Rattle.fal_story.specs.Pushing.{MayPush, all_sent}
use Rattle.fal_story.specs.Replay.{replay}

-- a seat at the book of a cluster
abbrev pub Seated : Type 0
Seated = Sitting Event Config

-- what holds of every such seat between two calls
abbrev pub IsKnown : Seated → Type 0
IsKnown s = Knows actor_number (entries.IsSound MayPush) s

-- what arrived stands under its number among these envelopes
abbrev pub IsSent : List Envelope → Arrived → Type 0
IsSent sent a = slice_get sent a.number ≡ Some a.envelope

-- the inbox has an envelope under this number
abbrev pub IsHeard : List Arrived → ℕ → Envelope → Type 0
IsHeard xs number envelope = (sent : List Envelope) → All (IsSent sent) xs → slice_get sent number ≡ Some envelope

-- the seat is that of this actor in a cluster that has it; the machine is the replay of the actor's events, and what is in the inbox was sent
pub record IsPost (has : Config → Bool) (a : Actor) (m : Machine) (s : Seated) (xs : List Arrived) : Type 0 where
  pub config : Config
  pub setting : s.setting ≡ Some config
  pub cluster : IsCluster config
  pub there : IsTrue (has config)
  pub number : s.number ≡ number_of a
  pub seated : number_of a < 255
  pub machine : replay config (all_sent config s.seen) a s.mine ≡ Some m
  pub inbox : All (IsSent (all_sent config s.seen)) xs

-- the client of this lane, at its seat
abbrev pub IsClientPost : ℕ → ClientState → Seated → List Arrived → Type 0
IsClientPost lane c s xs = IsPost (λ config. is_lane config lane) (Client lane) (ClientMachine c) s xs

-- the node of this number, at its seat
abbrev pub IsNodePost : ℕ → NodeState → Seated → List Arrived → Type 0
IsNodePost number n s xs = IsPost (λ config. is_node config number) (Node number) (NodeMachine n) s xs

-- the coordinator, at its seat
abbrev pub IsCoordPost : CoordState → Seated → List Arrived → Type 0
IsCoordPost c s xs = IsPost (λ config. true) Coord (CoordMachine c) s xs

-- the event is this one of the lane's client, which takes what was sent
abbrev pub IsOwnOfClientIn : List Envelope → ℕ → Event → ClientEvent → Type 0
IsOwnOfClientIn sent lane e client.Send = e ≡ event.Send lane
IsOwnOfClientIn sent lane e (client.Get envelope) = (k : ℕ) × ((e ≡ event.Get lane k) × (slice_get sent k ≡ Some envelope))

-- the event is this one of the lane's client, which takes what is in the inbox
abbrev pub IsOwnOfClient : List Arrived → ℕ → Event → ClientEvent → Type 0
IsOwnOfClient xs lane e own = (sent : List Envelope) → All (IsSent sent) xs → IsOwnOfClientIn sent lane e own

-- the event is this one of the node, which takes what was sent
abbrev pub IsOwnOfNodeIn : List Envelope → ℕ → Event → NodeEvent → Type 0
IsOwnOfNodeIn sent number e (node.Deliver envelope) = (k : ℕ) × ((e ≡ event.Deliver number k) × (slice_get sent k ≡ Some envelope))
IsOwnOfNodeIn sent number e node.Gather = e ≡ event.Gather number
IsOwnOfNodeIn sent number e (node.Exec batch) = e ≡ event.Exec number batch
IsOwnOfNodeIn sent number e (node.Release batch) = e ≡ event.Release number batch
IsOwnOfNodeIn sent number e (node.Serve item) = e ≡ event.Serve number item

-- the event is this one of the node, which takes what is in the inbox
abbrev pub IsOwnOfNode : List Arrived → ℕ → Event → NodeEvent → Type 0
IsOwnOfNode xs number e own = (sent : List Envelope) → All (IsSent sent) xs → IsOwnOfNodeIn sent number e own

-- the event is this one of the coordinator, which takes what was sent
abbrev pub IsOwnOfCoordIn : List Envelope → Event → CoordEvent → Type 0
IsOwnOfCoordIn sent e (coord.Hear envelope) = (k : ℕ) × ((e ≡ event.Hear k) × (slice_get sent k ≡ Some envelope))
IsOwnOfCoordIn sent e coord.Start = e ≡ event.Start

-- the event is this one of the coordinator, which takes what is in the inbox
abbrev pub IsOwnOfCoord : List Arrived → Event → CoordEvent → Type 0
IsOwnOfCoord xs e own = (sent : List Envelope) → All (IsSent sent) xs → IsOwnOfCoordIn sent e own

-- the seat is a new one at the book of this cluster, with this number
pub record IsNew (config : Config) (n : ℕ) (s : Seated) : Type 0 where
  pub setting : s.setting ≡ Some config
  pub number : s.number ≡ n
  pub seen : s.seen ≡ []
  pub mine : s.mine ≡ []

-- the seat is at this lock, and new at the book of this cluster
abbrev pub IsNewAt : Config → TableId → Seated → Type 0
IsNewAt config lock s = (s.lock ≡ lock) × IsNew config s.number s

-- the seat is at this lock
abbrev pub IsAt : TableId → Seated → Type 0
IsAt lock s = s.lock ≡ lock
