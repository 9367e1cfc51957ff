-- What the clients, nodes, coordinator and queues of a cluster show is what is fresh after its run.
use Rattle.std.proofs.Common.{◌≡◌, ℕ, zero, suc, ◌+◌, ◌-◌, ◌<◌, nat_lt, Bool, true, false, cond, List, [], ◌∷◌, ◌++◌, length, map, Some, None, refl, sym, ap, subst, ◌∙◌, arith, length-append}
use Rattle.std.specs.Prelude.{slice_get}
use Rattle.std.specs.List.{flat_map, range_with_len}
use Rattle.std.proofs.lemmas.Bool.Decides.{nat_tests}
use Rattle.fal_base.specs.declared.call.Config.{Config}
use Rattle.fal_base.specs.declared.event.Actor.{Actor}
use Rattle.fal_base.specs.declared.event.Actor.TheVariants.{Client, Node, Coord}
use Rattle.fal_base.specs.declared.event.Event.{Event}
use Rattle.fal_base.specs.declared.event.Event.TheVariants as event
use Rattle.fal_client.specs.State.{ClientState}
use Rattle.fal_coord.specs.State.{CoordState}
use Rattle.fal_node.specs.Due.{dues}
use Rattle.fal_node.specs.Patch.{SeenNode}
use Rattle.fal_node.specs.State.{NodeState}
use Rattle.fal_story.specs.Fresh.{due, event_of_node, fresh_send, fresh_gets, fresh_at_node, fresh_start, fresh_at_coord, fresh_at, fresh_replies_at, came}
use Rattle.fal_story.specs.Run.{run}
use Rattle.fal_story.specs.World.{World}
use Rattle.fal_alone.specs.Queues.{QueueSeen, other_at, actor_at, HoldDue}
use Rattle.fal_alone.specs.Shown.{gets, all_gets, all_node_events, sends, all_lane_events, coord_events}
use Rattle.fal_alone.specs.Whole.{IsWhole, IsWholeIn, IsWholeAt}

-- ---- parts of a list

-- what stands in the first of two lists stands in both
pub in_front : {A : Type 0} (xs ys : List A) (k : ℕ) (x : A) → slice_get xs k ≡ Some x → (k < length xs) × (slice_get (xs ++ ys) k ≡ Some x)
in_front [] ys k x e = absurd (cc)
in_front (z ∷ xs) ys zero x e = (omega arith, e)
in_front (z ∷ xs) ys (suc k) x e = let h = in_front xs ys k x e in let b = h.0 in (omega arith, h.1)

-- what stands in the second stands so many places further on
pub in_back : {A : Type 0} (xs ys : List A) (k : ℕ) → slice_get (xs ++ ys) (length xs + k) ≡ slice_get ys k
in_back [] ys k = let e : 0 + k ≡ k = omega arith in ap (slice_get ys) e
in_back (z ∷ xs) ys k = let e : suc (length xs) + k ≡ suc (length xs + k) = omega arith in ap (slice_get (z ∷ xs ++ ys)) e ∙ in_back xs ys k

-- ---- whose queue stands at a place

-- the first queues are those of the lanes, from lane 1
pub lane_at : (lanes place : ℕ) → place < lanes → actor_at lanes place ≡ Client (place + 1)
lane_at lanes place below = let t : nat_lt place lanes ≡ true = grind (arith, nat_tests) in ap (λ b. cond b (Client (place + 1)) (other_at (place - lanes))) t

-- a queue that stands so many places after those
pub other_queue : (lanes past : ℕ) → actor_at lanes (lanes + past) ≡ other_at past
other_queue lanes past =
    let t : nat_lt (lanes + past) lanes ≡ false = grind (arith, nat_tests) in
    let n : lanes + past - lanes ≡ past = omega arith in
    ap (λ b. cond b (Client (lanes + past + 1)) (other_at (lanes + past - lanes))) t ∙ ap other_at n

-- ---- what actors of a range show

-- the queues, from some number on, hold what is due to these actors
abbrev AreDue : World → (ℕ → Bool) → (ℕ → Actor) → ℕ → List QueueSeen → Type 0
AreDue w c actor from queues = (k : ℕ) (q : QueueSeen) → slice_get queues k ≡ Some q → q.items ≡ due (actor (from + k)) c w.envelopes

-- the clients, from this lane on, are those of the world
abbrev AreClientsFrom : World → ℕ → List ClientState → Type 0
AreClientsFrom w lane clients = (k : ℕ) (c : ClientState) → slice_get clients k ≡ Some c → c ≡ w.clients (lane + k)

-- the nodes, from this number on, are those of the world
abbrev AreNodesFrom : World → ℕ → List SeenNode → Type 0
AreNodesFrom w number nodes = (k : ℕ) (n : SeenNode) → slice_get nodes k ≡ Some n → n.state ≡ w.nodes (number + k)

due_here : (w : World) (c : ℕ → Bool) (actor : ℕ → Actor) (from : ℕ) (q : QueueSeen) (queues : List QueueSeen) → AreDue w c actor from (q ∷ queues) → q.items ≡ due (actor from) c w.envelopes
due_here w c actor from q queues h = let e : from + 0 ≡ from = omega arith in h 0 q refl ∙ ap (λ n. due (actor n) c w.envelopes) e

due_later : (w : World) (c : ℕ → Bool) (actor : ℕ → Actor) (from : ℕ) (q : QueueSeen) (queues : List QueueSeen) → AreDue w c actor from (q ∷ queues) → AreDue w c actor (from + 1) queues
due_later w c actor from q queues h = λ k x at. let e : from + suc k ≡ from + 1 + k = omega arith in h (suc k) x at ∙ ap (λ n. due (actor n) c w.envelopes) e

module _ (w : World) (c : ℕ → Bool) where
  gets_are : (lane : ℕ) (queues : List QueueSeen) → AreDue w c Client lane queues → all_gets lane queues ≡ flat_map (λ l. fresh_gets w c l) (range_with_len lane (length queues))
  gets_are lane [] h = refl
  gets_are lane (q ∷ queues) h =
      let here = due_here w c Client lane q queues h in
      let rest = gets_are (lane + 1) queues (due_later w c Client lane q queues h) in
      ap (λ numbers. map (λ number. event.Get lane number) numbers ++ all_gets (lane + 1) queues) here ∙ ap (λ events. fresh_gets w c lane ++ events) rest

  lane_events_are : (lane : ℕ) (queues : List QueueSeen) (clients : List ClientState) → length queues ≡ length clients → AreDue w c Client lane queues → AreClientsFrom w lane clients
      → all_lane_events lane queues clients ≡ flat_map (λ l. fresh_send w l ++ fresh_gets w c l) (range_with_len lane (length clients))
  lane_events_are lane [] [] size h own = refl
  lane_events_are lane [] (x ∷ clients) size h own = absurd (omega arith)
  lane_events_are lane (q ∷ queues) [] size h own = absurd (omega arith)
  lane_events_are lane (q ∷ queues) (x ∷ clients) size h own =
      let numbers = due_here w c Client lane q queues h in
      let zeroth : lane + 0 ≡ lane = omega arith in
      let same : x ≡ w.clients lane = own 0 x refl ∙ ap w.clients zeroth in
      let fewer : length queues ≡ length clients = omega arith in
      let others = λ (k : ℕ) (y : ClientState) (at : slice_get clients k ≡ Some y). let e : lane + suc k ≡ lane + 1 + k = omega arith in own (suc k) y at ∙ ap w.clients e in
      let rest = lane_events_are (lane + 1) queues clients fewer (due_later w c Client lane q queues h) others in
      ap (λ (y : ClientState). (sends lane y ++ gets lane q) ++ all_lane_events (lane + 1) queues clients) same
      ∙ ap (λ ks. (fresh_send w lane ++ map (λ number. event.Get lane number) ks) ++ all_lane_events (lane + 1) queues clients) numbers
      ∙ ap (λ events. (fresh_send w lane ++ fresh_gets w c lane) ++ events) rest

  node_events_are : (number : ℕ) (queues : List QueueSeen) (nodes : List SeenNode) → length queues ≡ length nodes → AreDue w c Node number queues → AreNodesFrom w number nodes
      → all_node_events number queues nodes ≡ flat_map (λ n. fresh_at_node w c n) (range_with_len number (length nodes))
  node_events_are number [] [] size h own = refl
  node_events_are number [] (x ∷ nodes) size h own = absurd (omega arith)
  node_events_are number (q ∷ queues) [] size h own = absurd (omega arith)
  node_events_are number (q ∷ queues) (x ∷ nodes) size h own =
      let numbers = due_here w c Node number q queues h in
      let zeroth : number + 0 ≡ number = omega arith in
      let same : x.state ≡ w.nodes number = own 0 x refl ∙ ap w.nodes zeroth in
      let fewer : length queues ≡ length nodes = omega arith in
      let others = λ (k : ℕ) (y : SeenNode) (at : slice_get nodes k ≡ Some y). let e : number + suc k ≡ number + 1 + k = omega arith in own (suc k) y at ∙ ap w.nodes e in
      let rest = node_events_are (number + 1) queues nodes fewer (due_later w c Node number q queues h) others in
      ap (λ (s : NodeState). (map (λ envelope. event.Deliver number envelope) q.items ++ map (λ e. event_of_node number e) (dues s)) ++ all_node_events (number + 1) queues nodes) same
      ∙ ap (λ ks. (map (λ envelope. event.Deliver number envelope) ks ++ map (λ e. event_of_node number e) (dues (w.nodes number))) ++ all_node_events (number + 1) queues nodes) numbers
      ∙ ap (λ events. fresh_at_node w c number ++ events) rest

  -- the first queues are those of the lanes, the next one is the coordinator's, and the others are those of the nodes
  module _ (xs : List QueueSeen) (q : QueueSeen) (ys : List QueueSeen) (h : HoldDue (length xs) c w.envelopes (xs ++ q ∷ ys)) where
    lanes_due : AreDue w c Client 1 xs
    lanes_due k x at =
        let there = in_front xs (q ∷ ys) k x at in
        let e : k + 1 ≡ 1 + k = omega arith in
        h k x there.1 ∙ ap (λ a. due a c w.envelopes) (lane_at (length xs) k there.0 ∙ ap Client e)

    coord_due : q.items ≡ due Coord c w.envelopes
    coord_due = h (length xs + 0) q (in_back xs (q ∷ ys) 0) ∙ ap (λ a. due a c w.envelopes) (other_queue (length xs) 0)

    nodes_due : AreDue w c Node 0 ys
    nodes_due k x at =
        let e : k ≡ 0 + k = omega arith in
        h (length xs + suc k) x (in_back xs (q ∷ ys) (suc k) ∙ at) ∙ ap (λ a. due a c w.envelopes) (other_queue (length xs) (suc k) ∙ ap Node e)

    coord_events_are : (coord : CoordState) → coord ≡ w.coord → coord_events q coord ≡ fresh_at_coord w c
    coord_events_are coord same = ap (λ (x : CoordState). coord_events q x) same ∙ ap (λ numbers. map (λ number. event.Hear number) numbers ++ fresh_start w) coord_due

  clients_from : (clients : List ClientState) → ((place : ℕ) (x : ClientState) → slice_get clients place ≡ Some x → x ≡ w.clients (place + 1)) → AreClientsFrom w 1 clients
  clients_from clients h = λ k x at. let e : k + 1 ≡ 1 + k = omega arith in h k x at ∙ ap w.clients e

  nodes_from : (nodes : List SeenNode) → ((number : ℕ) (n : SeenNode) → slice_get nodes number ≡ Some n → n.state ≡ w.nodes number) → AreNodesFrom w 0 nodes
  nodes_from nodes h = λ k x at. let e : k ≡ 0 + k = omega arith in h k x at ∙ ap w.nodes e

-- ---- a whole cluster

module _ (config : Config) (events : List Event) (clients : List ClientState) (nodes : List SeenNode) (coord : CoordState) (queues xs : List QueueSeen) (q : QueueSeen) (ys : List QueueSeen)
    (whole : IsWhole config events clients nodes coord queues) (are : queues ≡ xs ++ q ∷ ys) (size : length xs ≡ length clients) where
  lanes_count : length xs ≡ length config.lanes
  lanes_count = size ∙ whole.clients_count

  nodes_count : length ys ≡ length nodes
  nodes_count = let a = lanes_count in let b = sym (length-append xs (q ∷ ys)) ∙ ap length (sym are) ∙ whole.queues_count in let d = whole.nodes_count in omega arith

  held : (w : World) → IsWholeIn (length config.lanes) w (came events) clients nodes coord queues → HoldDue (length xs) (came events) w.envelopes (xs ++ q ∷ ys)
  held w at = subst (HoldDue (length xs) (came events) w.envelopes) are (subst (λ n. HoldDue n (came events) w.envelopes queues) (sym lanes_count) at.queues_are)

  nodes_show : (w : World) → IsWholeIn (length config.lanes) w (came events) clients nodes coord queues
      → all_node_events 0 ys nodes ≡ flat_map (λ n. fresh_at_node w (came events) n) (range_with_len 0 config.nodes)
  nodes_show w at =
      node_events_are w (came events) 0 ys nodes nodes_count (nodes_due w (came events) xs q ys (held w at)) (nodes_from w (came events) nodes at.nodes_are)
      ∙ ap (λ n. flat_map (λ m. fresh_at_node w (came events) m) (range_with_len 0 n)) whole.nodes_count

  coord_shows : (w : World) → IsWholeIn (length config.lanes) w (came events) clients nodes coord queues → coord_events q coord ≡ fresh_at_coord w (came events)
  coord_shows w at = coord_events_are w (came events) xs q ys (held w at) coord at.coord_is

  -- what the queues, nodes and the coordinator show is what is fresh but Sends
  pub replies_are : all_gets 1 xs ++ all_node_events 0 ys nodes ++ coord_events q coord ≡ fresh_replies_at config (run config events) (came events)
  replies_are =
      elim (run config events) as (λ o. IsWholeAt (length config.lanes) o (came events) clients nodes coord queues → all_gets 1 xs ++ all_node_events 0 ys nodes ++ coord_events q coord ≡ fresh_replies_at config o (came events)) [
        | None ↦ λ at. absurd at
        | Some w ↦ λ at.
            let lanes = gets_are w (came events) 1 xs (lanes_due w (came events) xs q ys (held w at)) ∙ ap (λ n. flat_map (λ l. fresh_gets w (came events) l) (range_with_len 1 n)) lanes_count in
            let own = nodes_show w at in
            let last = coord_shows w at in
            (λ i. lanes i ++ own i ++ last i)
      ] whole.at

  -- what the clients, queues, nodes and the coordinator show is what is fresh
  pub fresh_are : all_lane_events 1 xs clients ++ all_node_events 0 ys nodes ++ coord_events q coord ≡ fresh_at config (run config events) (came events)
  fresh_are =
      elim (run config events) as (λ o. IsWholeAt (length config.lanes) o (came events) clients nodes coord queues → all_lane_events 1 xs clients ++ all_node_events 0 ys nodes ++ coord_events q coord ≡ fresh_at config o (came events)) [
        | None ↦ λ at. absurd at
        | Some w ↦ λ at.
            let lanes = lane_events_are w (came events) 1 xs clients size (lanes_due w (came events) xs q ys (held w at)) (clients_from w (came events) clients at.clients_are)
            ∙ ap (λ n. flat_map (λ l. fresh_send w l ++ fresh_gets w (came events) l) (range_with_len 1 n)) whole.clients_count in
            let own = nodes_show w at in
            let last = coord_shows w at in
            (λ i. lanes i ++ own i ++ last i)
      ] whole.at
