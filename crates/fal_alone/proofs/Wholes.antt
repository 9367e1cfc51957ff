-- A cluster in one value stays one: where only room changes, and after an event of one of its actors.
use Rattle.std.proofs.Common.{◌≡◌, ◌≢◌, ⊎_elim, ℕ, ◌+◌, Bool, List, ◌++◌, length, take, drop, set, Some, None, Option, IsTrue, refl, sym, ap, ◌∙◌, subst, arith}
use Rattle.std.specs.Prelude.{slice_get}
use Rattle.std.proofs.lemmas.Bool.Decides.{nat_tests}
use Rattle.std.proofs.lemmas.List.{take-append-le, length-set}
use Rattle.std.proofs.lemmas.Option.{same_Some}
use Rattle.std.proofs.Math.Seq.{take-length}
use Rattle.fal_base.specs.declared.event.Actor.{Actor}
use Rattle.fal_base.specs.declared.event.Actor.TheVariants.{Client, Node, Coord}
use Rattle.fal_base.specs.declared.event.Event.{Event}
use Rattle.fal_client.specs.State.{ClientState}
use Rattle.fal_coord.specs.State.{CoordState}
use Rattle.fal_node.specs.State.{NodeState}
use Rattle.fal_node.specs.Patch.{SeenNode}
use Rattle.fal_story.proofs.Lists.Grown.{put_same, put_other, tells, slice_get_below}
use Rattle.fal_story.specs.Actors.{actor_of}
use Rattle.fal_story.specs.Clusters.{is_lane, is_node}
use Rattle.fal_story.specs.Fresh.{came}
use Rattle.fal_story.specs.Machines.{Machine, ClientMachine, NodeMachine, CoordMachine}
use Rattle.fal_story.specs.Run.{run, envelopes_at}
use Rattle.fal_story.specs.Told.{Told}
use Rattle.fal_story.specs.World.{World, put}
use Rattle.fal_alone.proofs.Places.{set_same, set_other}
use Rattle.fal_alone.specs.Queues.{QueueSeen, Holds, HoldDue}
use Rattle.fal_alone.specs.Turns.{world_of, told_envelopes, with_event, Next, NextIn, IsClientIn, IsNodeIn, IsCoordIn}
use Rattle.fal_alone.specs.Whole.{IsWhole, IsWholeAt}

-- ---- lists of which one item is changed

-- what holds of the new item at its place, and of the old ones elsewhere, holds of each item
set_all : {A : Type 0} (P : ℕ → A → Type 0) (xs : List A) (k : ℕ) (x y : A) → slice_get xs k ≡ Some x → P k y → ((m : ℕ) (z : A) → m ≢ k → slice_get xs m ≡ Some z → P m z)
    → (m : ℕ) (z : A) → slice_get (set xs k y) m ≡ Some z → P m z
set_all P xs k x y at here there m z is =
    ⊎_elim
    (λ s. subst (λ n. P n z) (sym s.1) (subst (P k) (same_Some y z (sym (set_same xs k x y at) ∙ ap (slice_get (set xs k y)) (sym s.1) ∙ is)) here))
    (λ s. there m z s.1 (sym (set_other xs k m y s.1) ∙ is))
    (tells m k)

-- a slice that was lent from a list comes back
written : {A : Type 0} (n : ℕ) (xs ys : List A) → length ys ≡ length xs → length xs ≡ n → take n (ys ++ drop (length ys) xs) ≡ ys
written n xs ys same is = ap (λ m. take m (ys ++ drop (length ys) xs)) (sym is ∙ sym same) ∙ take-append-le (length ys) ys _ (omega arith) ∙ take-length ys

-- ---- the states of actors

-- the state in a machine of each kind
client_of : ClientState → Machine → ClientState
client_of other (ClientMachine c) = c
client_of other m = other

node_of : NodeState → Machine → NodeState
node_of other (NodeMachine n) = n
node_of other m = other

coord_of : CoordState → Machine → CoordState
coord_of other (CoordMachine c) = c
coord_of other m = other

-- machines are the same where what is in them is
pub client_is : (c d : ClientState) → ClientMachine c ≡ ClientMachine d → c ≡ d
unfolding client_of
client_is c d same = ap (client_of c) same

pub node_is : (m n : NodeState) → NodeMachine m ≡ NodeMachine n → m ≡ n
unfolding node_of
node_is m n same = ap (node_of m) same

pub coord_is : (c d : CoordState) → CoordMachine c ≡ CoordMachine d → c ≡ d
unfolding coord_of
coord_is c d same = ap (coord_of c) same

-- ---- the parts of a cluster

-- the clients, nodes and the coordinator are those of a world
abbrev AreClients : World → List ClientState → Type 0
AreClients w clients = (place : ℕ) (c : ClientState) → slice_get clients place ≡ Some c → c ≡ w.clients (place + 1)

abbrev AreNodes : World → List SeenNode → Type 0
AreNodes w nodes = (number : ℕ) (n : SeenNode) → slice_get nodes number ≡ Some n → n.state ≡ w.nodes number

-- each world that has these has those
abbrev ClientsStay : List ClientState → List ClientState → Type 0
ClientsStay clients others = (w : World) → AreClients w clients → AreClients w others

abbrev NodesStay : List SeenNode → List SeenNode → Type 0
NodesStay nodes rest = (w : World) → AreNodes w nodes → AreNodes w rest

-- where a world has these, the next one, after an event that leaves the actor in this state, has those
abbrev ClientsGo : Actor → Machine → List ClientState → List ClientState → Type 0
ClientsGo actor m clients others = (w u : World) → Next w u actor m → AreClients w clients → AreClients u others

abbrev NodesGo : Actor → Machine → List SeenNode → List SeenNode → Type 0
NodesGo actor m nodes rest = (w u : World) → Next w u actor m → AreNodes w nodes → AreNodes u rest

abbrev CoordGoes : Actor → Machine → CoordState → CoordState → Type 0
CoordGoes actor m coord d = (w u : World) → Next w u actor m → coord ≡ w.coord → d ≡ u.coord

-- another world has the same of them
other_clients : (w u : World) (clients : List ClientState) → u.clients ≡ w.clients → AreClients w clients → AreClients u clients
other_clients w u clients same are place c at = are place c at ∙ ap (λ f. f (place + 1)) (sym same)

other_nodes : (w u : World) (nodes : List SeenNode) → u.nodes ≡ w.nodes → AreNodes w nodes → AreNodes u nodes
other_nodes w u nodes same are number n at = are number n at ∙ ap (λ f. f number) (sym same)

-- one of them changes to that of another world
client_set : (w u : World) (clients : List ClientState) (place : ℕ) (c d : ClientState) → u.clients ≡ put w.clients (place + 1) d → slice_get clients place ≡ Some c
    → AreClients w clients → AreClients u (set clients place d)
client_set w u clients place c d same at are =
    set_all (λ m x. x ≡ u.clients (m + 1)) clients place c d at
    (sym (put_same w.clients (place + 1) d) ∙ ap (λ f. f (place + 1)) (sym same))
    (λ m x other old. are m x old ∙ sym (put_other w.clients (place + 1) d (m + 1) (λ e. other (omega arith))) ∙ ap (λ f. f (m + 1)) (sym same))

node_set : (w u : World) (nodes : List SeenNode) (number : ℕ) (n m : SeenNode) → u.nodes ≡ put w.nodes number m.state → slice_get nodes number ≡ Some n → AreNodes w nodes → AreNodes u (set nodes number m)
node_set w u nodes number n m same at are =
    set_all (λ k (x : SeenNode). x.state ≡ u.nodes k) nodes number n m at
    (sym (put_same w.nodes number m.state) ∙ ap (λ f. f number) (sym same))
    (λ k x other old. are k x old ∙ sym (put_other w.nodes number m.state k other) ∙ ap (λ f. f k) (sym same))

-- one of them stays, but for room
client_kept : (w : World) (clients : List ClientState) (place : ℕ) (c d : ClientState) → d ≡ c → slice_get clients place ≡ Some c → AreClients w clients → AreClients w (set clients place d)
client_kept w clients place c d same at are = set_all (λ m x. x ≡ w.clients (m + 1)) clients place c d at (same ∙ are place c at) (λ m x other old. are m x old)

node_kept : (w : World) (nodes : List SeenNode) (number : ℕ) (n m : SeenNode) → m.state ≡ n.state → slice_get nodes number ≡ Some n → AreNodes w nodes → AreNodes w (set nodes number m)
node_kept w nodes number n m same at are = set_all (λ k (x : SeenNode). x.state ≡ w.nodes k) nodes number n m at (same ∙ are number n at) (λ k x other old. are k x old)

-- ---- where only room changes

-- the queues hold the same, and the actors are those of the same worlds
kept : (lanes : ℕ) (o : Option World) (came : ℕ → Bool) (clients others : List ClientState) (nodes rest : List SeenNode) (coord d : CoordState) (queues after : List QueueSeen) → IsWholeAt lanes o came clients nodes coord queues
    → ClientsStay clients others → NodesStay nodes rest → d ≡ coord → ((numbers : ℕ → List ℕ) → Holds numbers queues → Holds numbers after)
    → IsWholeAt lanes o came others rest d after
kept lanes None came clients others nodes rest coord d queues after at of_clients of_nodes same held = absurd at
kept lanes (Some w) came clients others nodes rest coord d queues after at of_clients of_nodes same held = record {
  clients_are = of_clients w at.clients_are;
  nodes_are = of_nodes w at.nodes_are;
  coord_is = same ∙ at.coord_is;
  queues_are = held _ at.queues_are;
}

-- ---- after an event

-- the queues hold what is due then, and the actors are those of the next world
moved : (lanes : ℕ) (o p : Option World) (came later : ℕ → Bool) (actor : Actor) (m : Machine) (clients others : List ClientState) (nodes rest : List SeenNode) (coord d : CoordState) (queues after : List QueueSeen)
    → IsWholeAt lanes o came clients nodes coord queues → NextIn o p actor m → HoldDue lanes later (envelopes_at p) after
    → ClientsGo actor m clients others → NodesGo actor m nodes rest → CoordGoes actor m coord d
    → IsWholeAt lanes p later others rest d after
moved lanes None p came later actor m clients others nodes rest coord d queues after at next held of_clients of_nodes of_coord = absurd at
moved lanes (Some w) None came later actor m clients others nodes rest coord d queues after at next held of_clients of_nodes of_coord = absurd next
moved lanes (Some w) (Some u) came later actor m clients others nodes rest coord d queues after at next held of_clients of_nodes of_coord = record {
  clients_are = of_clients w u next at.clients_are;
  nodes_are = of_nodes w u next at.nodes_are;
  coord_is = of_coord w u next at.coord_is;
  queues_are = held;
}

-- ---- the whole cluster

module _ (told : Told) (clients : List ClientState) (nodes : List SeenNode) (coord : CoordState) (queues : List QueueSeen) (whole : IsWhole told.config told.events clients nodes coord queues) where
  -- the queues were lent as a slice, and come back as another one
  module _ (book : Told) (lent after : List QueueSeen) (n : ℕ) (same : length after ≡ length queues) (all : length queues ≡ n) (is : lent ≡ queues) where
    back : take n (after ++ drop (length after) queues) ≡ after
    back = written n queues after same all

    -- where the book is the same, and the queues hold the same
    module _ (stays : book ≡ told) (held : (numbers : ℕ → List ℕ) → Holds numbers lent → Holds numbers after) where
      kept_whole : (others : List ClientState) (rest : List SeenNode) (d : CoordState) → length others ≡ length clients → length rest ≡ length nodes → ClientsStay clients others
          → NodesStay nodes rest → d ≡ coord → IsWhole book.config book.events others rest d (take n (after ++ drop (length after) queues))
      kept_whole others rest d many count of_clients of_nodes still =
          subst (λ (t : Told). IsWhole t.config t.events others rest d (take n (after ++ drop (length after) queues))) (sym stays)
          (subst (IsWhole told.config told.events others rest d) (sym back) (record {
            clients_count = many ∙ whole.clients_count;
            nodes_count = count ∙ whole.nodes_count;
            queues_count = same ∙ whole.queues_count;
            at = kept (length told.config.lanes) (run told.config told.events) (came told.events) clients others nodes rest coord d queues after whole.at of_clients of_nodes still
                (λ numbers h. held numbers (subst (Holds numbers) (sym is) h));
          }))

      -- and a client is the same
      pub client_same : (place : ℕ) (c d : ClientState) → slice_get clients place ≡ Some c → d ≡ c → IsWhole book.config book.events (set clients place d) nodes coord (take n (after ++ drop (length after) queues))
      client_same place c d at still = kept_whole (set clients place d) nodes coord (length-set clients place d) refl (λ w are. client_kept w clients place c d still at are) (λ w are. are) refl

      -- or a node
      pub node_same : (number : ℕ) (s m : SeenNode) → slice_get nodes number ≡ Some s → m.state ≡ s.state → IsWhole book.config book.events clients (set nodes number m) coord (take n (after ++ drop (length after) queues))
      node_same number s m at still = kept_whole clients (set nodes number m) coord refl (length-set nodes number m) (λ w are. are) (λ w are. node_kept w nodes number s m still at are) refl

      -- or the coordinator
      pub coord_same : (d : CoordState) → d ≡ coord → IsWhole book.config book.events clients nodes d (take n (after ++ drop (length after) queues))
      coord_same d still = kept_whole clients nodes d refl refl (λ w are. are) (λ w are. are) still

    -- where the book has one event more, of this actor, and the queues hold what is due then
    module _ (event : Event) (actor : Actor) (m : Machine) (on : book ≡ with_event told event) (by : actor_of event ≡ actor) (next : NextIn (world_of told) (world_of (with_event told event)) (actor_of event) m)
        (held : HoldDue (length told.config.lanes) (came (with_event told event).events) (told_envelopes (with_event told event)) after) where
      moved_whole : (others : List ClientState) (rest : List SeenNode) (d : CoordState) → length others ≡ length clients → length rest ≡ length nodes → ClientsGo actor m clients others
          → NodesGo actor m nodes rest → CoordGoes actor m coord d → IsWhole book.config book.events others rest d (take n (after ++ drop (length after) queues))
      moved_whole others rest d many count of_clients of_nodes of_coord =
          let then = with_event told event in
          subst (λ (t : Told). IsWhole t.config t.events others rest d (take n (after ++ drop (length after) queues))) (sym on)
          (subst (IsWhole told.config then.events others rest d) (sym back) (record {
            clients_count = many ∙ whole.clients_count;
            nodes_count = count ∙ whole.nodes_count;
            queues_count = same ∙ whole.queues_count;
            at = moved (length told.config.lanes) (world_of told) (world_of then) (came told.events) (came then.events) actor m clients others nodes rest coord d queues after whole.at
                (subst (λ a. NextIn (world_of told) (world_of then) a m) by next) held of_clients of_nodes of_coord;
          }))

    module _ (event : Event) (on : book ≡ with_event told event) (held : HoldDue (length told.config.lanes) (came (with_event told event).events) (told_envelopes (with_event told event)) after) where
      -- after an event of a client
      pub client_next : (place : ℕ) (c d : ClientState) → slice_get clients place ≡ Some c → actor_of event ≡ Client (place + 1) → NextIn (world_of told) (world_of (with_event told event)) (actor_of event) (ClientMachine d)
          → IsWhole book.config book.events (set clients place d) nodes coord (take n (after ++ drop (length after) queues))
      client_next place c d at by next =
          moved_whole event (Client (place + 1)) (ClientMachine d) on by next held (set clients place d) nodes coord (length-set clients place d) refl
          (λ w u to are. client_set w u clients place c d to.clients at are) (λ w u to are. other_nodes w u nodes to.nodes are) (λ w u to is. is ∙ sym to.coord)

      -- after an event of a node
      pub node_next : (number : ℕ) (s m : SeenNode) → slice_get nodes number ≡ Some s → actor_of event ≡ Node number → NextIn (world_of told) (world_of (with_event told event)) (actor_of event) (NodeMachine m.state)
          → IsWhole book.config book.events clients (set nodes number m) coord (take n (after ++ drop (length after) queues))
      node_next number s m at by next =
          moved_whole event (Node number) (NodeMachine m.state) on by next held clients (set nodes number m) coord refl (length-set nodes number m)
          (λ w u to are. other_clients w u clients to.clients are) (λ w u to are. node_set w u nodes number s m to.nodes at are) (λ w u to is. is ∙ sym to.coord)

      -- after an event of the coordinator
      pub coord_next : (d : CoordState) → actor_of event ≡ Coord → NextIn (world_of told) (world_of (with_event told event)) (actor_of event) (CoordMachine d)
          → IsWhole book.config book.events clients nodes d (take n (after ++ drop (length after) queues))
      coord_next d by next =
          moved_whole event Coord (CoordMachine d) on by next held clients nodes d refl refl
          (λ w u to are. other_clients w u clients to.clients are) (λ w u to are. other_nodes w u nodes to.nodes are) (λ w u to is. sym to.coord)

  -- the client at a place is that of its lane, which is there
  pub client_at : (lane place : ℕ) (c d : ClientState) → lane ≡ place + 1 → slice_get clients place ≡ Some c → d ≡ c → IsTrue (is_lane told.config lane) × IsClientIn (world_of told) lane d
  client_at lane place c d number at same =
      let below = slice_get_below clients place c at in
      let lanes = whole.clients_count in
      let there : IsTrue (is_lane told.config lane) = grind (arith, nat_tests) in (
        there,
        elim (world_of told) as (λ o. IsWholeAt (length told.config.lanes) o (came told.events) clients nodes coord queues → IsClientIn o lane d) [
          | None ↦ λ is. absurd is
          | Some w ↦ λ is. same ∙ is.clients_are place c at ∙ ap w.clients (sym number)
        ] whole.at,
      )

  -- and the node at a place that of its number
  pub node_at : (number place : ℕ) (n m : SeenNode) → number ≡ place → slice_get nodes place ≡ Some n → m ≡ n → IsTrue (is_node told.config number) × IsNodeIn (world_of told) number m.state
  node_at number place n m is at same =
      let below = slice_get_below nodes place n at in
      let count = whole.nodes_count in
      let there : IsTrue (is_node told.config number) = grind (arith, nat_tests) in (
        there,
        elim (world_of told) as (λ o. IsWholeAt (length told.config.lanes) o (came told.events) clients nodes coord queues → IsNodeIn o number m.state) [
          | None ↦ λ z. absurd z
          | Some w ↦ λ z. ap (λ (x : SeenNode). x.state) same ∙ z.nodes_are place n at ∙ ap w.nodes (sym is)
        ] whole.at,
      )

  -- and the coordinator that of the run
  pub coord_at : IsCoordIn (world_of told) coord
  coord_at =
      elim (world_of told) as (λ o. IsWholeAt (length told.config.lanes) o (came told.events) clients nodes coord queues → IsCoordIn o coord) [
        | None ↦ λ is. absurd is
        | Some w ↦ λ is. is.coord_is
      ] whole.at
