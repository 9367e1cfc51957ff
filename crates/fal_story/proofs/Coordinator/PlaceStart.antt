-- The coordinator begins with a call that places a name: the table refuses it, or every node is to give its rows of the name away.
use Rattle.std.proofs.Common.{◌≡◌, inr, ℕ, ◌+◌, ◌<◌, ◌≤◌, List, [], ◌∷◌, ◌++◌, length, Option, Some, None, false, refl, sym, ap, ◌∙◌, subst, arith, append-nil}
use Rattle.fal_base.specs.declared.call.CallRec.{CallRec}
use Rattle.fal_base.specs.declared.call.Config.{Config}
use Rattle.fal_base.specs.declared.event.Actor.TheVariants.{Node}
use Rattle.fal_base.specs.declared.event.Point.TheVariants.{Here}
use Rattle.fal_base.specs.declared.op.Op.{Op}
use Rattle.fal_base.specs.declared.op.Op.TheVariants as op
use Rattle.fal_base.specs.declared.reply.Errno.{Errno}
use Rattle.fal_base.specs.declared.reply.Reply.TheVariants.{Fail, Fine}
use Rattle.fal_coord.specs.declared.stage.Stage.TheVariants as stage
use Rattle.fal_coord.specs.Begin.{given_up, placing_by, started}
use Rattle.fal_coord.specs.Nodes.{numbers_below, to_nodes}
use Rattle.fal_coord.specs.Place.{blocking, place_refusal}
use Rattle.fal_coord.specs.State.{CoordState, Work, begun, at_stage}
use Rattle.fal_coord.specs.Walks.{placing_of}
use Rattle.fal_place.specs.Placement.{Placing}
use Rattle.fal_run.specs.Calls.{is_making}
use Rattle.fal_wire.specs.declared.message.Message.TheVariants as message
use Rattle.fal_wire.specs.Letters.{letter}
use Rattle.fal_story.proofs.Coordinator.Concludes.{some_below}
use Rattle.fal_story.proofs.Coordinator.CoordSends.{IsFineHere, coord_sends_all, fine_nodes}
use Rattle.fal_story.proofs.Coordinator.Placeable.{place_makes_none, placed_op, replies_refusal, reply_by}
use Rattle.fal_story.proofs.Coordinator.Walking.{IsWalking, goes_on, held_there, refuses, walking}
use Rattle.fal_story.proofs.Events.Doing.{awaited, name_in, rule_in, work_of}
use Rattle.fal_story.proofs.Events.GotEvent.{AllFit}
use Rattle.fal_story.proofs.Events.InCoord.{InCoord, EndsCoord, coord_ends, view_at}
use Rattle.fal_story.proofs.Events.Shows.{Ghost, Shows, IsPlaceable, askings_of, before_in, posts_of, view_of}
use Rattle.fal_story.proofs.Events.Tables.{coord_nodes, numbered_few}
use Rattle.fal_story.proofs.Good.{Good}
use Rattle.fal_story.proofs.Phase.{IsPast, Runs}
use Rattle.fal_story.proofs.Steps.Carried.{place_refused_good}
use Rattle.fal_story.proofs.Steps.Placed.{placing_good}
use Rattle.fal_story.proofs.Trees.PlaceAnswers.{table_reply}
use Rattle.fal_story.proofs.View.{Blocks}
use Rattle.fal_story.specs.Clusters.{IsCluster}
use Rattle.fal_story.specs.World.{World, put}

-- the call that it begins with, and what is known of it then
module _ (config : Config) (w : World) (h : Ghost) (c : CallRec) (calls : List CallRec) (placing : Placing) (cluster : IsCluster config) (shown : Shows config w h) (idle : w.coord.stage ≡ stage.Idle)
    (places : placing_of c.op ≡ Some placing)
    (s : IsWalking config w (started w.coord calls) (record h { starts = h.starts ++ (c.id.client, (w.clients c.id.client).seq) ∷ [] }) c) where
  abbrev l : ℕ
  l = c.id.client

  abbrev begins : Ghost
  begins = record h { starts = h.starts ++ (l, (w.clients l).seq) ∷ [] }

  abbrev coord : CoordState
  coord = started w.coord calls

  op_is : c.op ≡ op.Place placing.name placing.rule
  op_is = placed_op c.op placing places

  -- what the table replies, by what the coordinator finds
  replies : (refusal : Option Errno) → place_refusal w.coord.table c.cred placing ≡ refusal → table_reply config.nodes w.coord.table c.cred placing.name placing.rule ≡ reply_by refusal
  replies refusal is = subst (λ nodes. table_reply nodes w.coord.table c.cred placing.name placing.rule ≡ reply_by refusal) (coord_nodes config w h shown) (replies_refusal w.coord.table c.cred placing refusal is)

  -- ---- it is refused

  refused : (errno : Errno) → place_refusal w.coord.table c.cred placing ≡ Some errno → AllFit (given_up coord c (Here 0) errno).sent → EndsCoord config w (given_up coord c (Here 0) errno)
  unfolding started
  refused errno is fit =
      let v = walking config w coord begins l in
      let past : h.since l ≤ length w.commits = s.good.script.calls.past l in
      let called : (h.call l).op ≡ op.Place placing.name placing.rule = ap (λ (d : CallRec). d.op) (sym s.is) ∙ op_is in
      let answered : Fail errno ≡ table_reply config.nodes w.coord.table (h.call l).cred placing.name placing.rule =
      sym (replies (Some errno) is) ∙ ap (λ (d : CallRec). table_reply config.nodes w.coord.table d.cred placing.name placing.rule) s.is in
      refuses config w coord begins c s h (Here 0) errno shown
      (place_refused_good config v l 255 (length w.commits + 0) placing.name placing.rule (Fail errno) refl (held_there config w coord begins c s) refl called answered (λ same. cc) (omega arith) (omega arith) s.good) fit

  -- ---- nodes are told to give rows away

  abbrev at : Work
  at = begun (at_stage coord (stage.Block c (numbers_below coord.table.nodes) []))

  abbrev then : Ghost
  then = record begins { phase = put h.phase l Runs }

  module _ (fine : place_refusal w.coord.table c.cred placing ≡ None) where
    placeable : IsPlaceable config.nodes w.coord.table c
    placeable = record {
      places = op_is ∙ ap (λ (o : Op). op.Place (name_in o) (rule_in o)) (sym op_is);
      fine = subst (λ (o : Op). table_reply config.nodes w.coord.table c.cred (name_in o) (rule_in o) ≡ Fine) (sym op_is) (replies None fine);
    }

    blocks : InCoord config w at then
    unfolding started
    blocks =
        let v = view_of config w h in
        let nodes = coord_nodes config w h shown in
        let numbered = numbered_few config w h shown in
        let some = cluster.some_nodes in
        let unmaking = subst (λ (d : CallRec). is_making d.op ≡ false) s.is (place_makes_none c.op placing places) in
        let good = placing_good config v l 255 (name_in c.op) (rule_in c.op) (ap (work_of (before_in config h)) idle) (held_there config w coord begins c s) (λ past. subst IsPast s.waits past) unmaking shown.good in
        let same : record v { phase = then.phase; op = record v.op { operation = v.op.operation + 1; work = Blocks l (name_in c.op) (rule_in c.op) (numbers_below config.nodes) []; starts = begins.starts } } ≡ view_at config w at then =
        λ i. record (view_at config w at then) {
          fetches = put (λ m. askings_of (w.nodes m).waiting.fetches) 255 (ap awaited idle i);
          posts = sym (append-nil (posts_of w.envelopes)) i;
          entries = sym (append-nil w.entries) i;
          commits = sym (append-nil w.commits) i;
          op = record (view_at config w at then).op { work = Blocks l (name_in c.op) (rule_in c.op) (numbers_below (sym nodes i)) [] };
        } in
        goes_on config w coord begins c s coord.asked (stage.Block c (numbers_below coord.table.nodes) []) [] Runs h.crossed (λ z. cc) (λ n x z. cc) tt (λ a _. refl)
        (s.is, placeable, some_below coord.table.nodes (omega arith)) (omega arith) (subst (Good config) same good)

    block_fine : (n : ℕ) → n < config.nodes → IsFineHere config w at then (letter (Node n) (Here 0) (message.Block coord.operation placing.name))
    block_fine n below = record { asking = tt; records = (n, refl); operation = tt; bars = (n, refl, below, inr (refl, ap name_in op_is)); knowing = tt; listings = tt }

    sends_blocks : AllFit (blocking coord c placing.name).sent → EndsCoord config w (blocking coord c placing.name)
    unfolding blocking
    sends_blocks fit =
        let fine = fine_nodes config w at then (λ (n : ℕ). letter (Node n) (Here 0) (message.Block coord.operation placing.name)) coord.table.nodes (λ n below. block_fine n (subst (λ k. n < k) s.nodes below)) in
        (then, coord_ends config w h (blocking coord c placing.name) then fit shown (coord_sends_all config w at then (to_nodes coord.table.nodes (message.Block coord.operation placing.name)) fine blocks))

  -- ---- by what the table says

  pub place_begins : (refusal : Option Errno) → place_refusal w.coord.table c.cred placing ≡ refusal → AllFit (placing_by coord c placing refusal).sent → EndsCoord config w (placing_by coord c placing refusal)
  place_begins None is fit = sends_blocks is fit
  place_begins (Some errno) is fit = refused errno is fit
