-- Each event is within the ranges of the format, and keeps to them.
use Rattle.std.proofs.Common.{◌≡◌, ⊎_elim, ℕ, ◌+◌, ◌<◌, ◌≤◌, ◌^◌, Bool, true, false, cond, List, [], ◌∷◌, length, Some, refl, sym, subst, arith}
use Rattle.std.specs.Prelude.{map, IsTrue, ◌==◌}
use Rattle.std.specs.List.{find}
use Rattle.std.proofs.lemmas.Option.{same_Some}
use Rattle.fal_base.specs.declared.call.CallRec.{CallRec}
use Rattle.fal_base.specs.declared.call.Config.{Config}
use Rattle.fal_base.specs.declared.event.Actor.{Actor}
use Rattle.fal_base.specs.declared.event.Actor.TheVariants.{Client, Node}
use Rattle.fal_client.specs.declared.event.ClientEvent.{ClientEvent}
use Rattle.fal_client.specs.declared.event.ClientEvent.TheVariants as client
use Rattle.fal_client.specs.State.{Work as ClientWork}
use Rattle.fal_client.specs.Step.{IsInRange, client_step}
use Rattle.fal_coord.specs.State.{CoordState}
use Rattle.fal_node.specs.declared.batch.Batch.{Batch}
use Rattle.fal_run.specs.declared.call.BatchCall.{BatchCall}
use Rattle.fal_node.specs.declared.event.NodeEvent.{NodeEvent}
use Rattle.fal_node.specs.declared.event.NodeEvent.TheVariants as node
use Rattle.fal_wire.specs.declared.letter.Letter.{Letter}
use Rattle.fal_wire.specs.Letters.{output_of}
use Rattle.fal_node.specs.Letters.{Work}
use Rattle.fal_node.specs.Step.{IsWithin, node_step}
use Rattle.fal_place.specs.Placement.{Placement}
use Rattle.fal_wire.specs.Rows.{changes_field}
use Rattle.fal_story.proofs.Events.Shows.{Ghost, Shows, WaitsAt, PlannedAt, lane_of, planned_lane, pending_calls, calls_in}
use Rattle.fal_story.proofs.Events.Tables.{coord_version, own_table, own_version}
use Rattle.fal_story.proofs.Lists.Each.{Each, each_weaker, each_join, each_front, each_back}
use Rattle.fal_story.proofs.Lists.Grown.{put_all}
use Rattle.fal_story.proofs.Lists.Members.{each_in, in_at}
use Rattle.fal_story.proofs.Phase.{IsFor}
use Rattle.fal_story.proofs.Ranges.Bounds.{IsClientRanged, IsRanged, IsNodeRanged, IsNodeCounted, IsRecord, Comes, ComesToClient}
use Rattle.fal_story.proofs.Ranges.ClientRanges.{IsClient, client_of, send_keeps, get_keeps}
use Rattle.fal_story.proofs.Ranges.CoordBounds.{IsCoordRanged}
use Rattle.fal_story.proofs.Ranges.Counters.{few_fetches, few_calls}
use Rattle.fal_story.proofs.Ranges.Counts.{few_commits, few_taken, few_waiting}
use Rattle.fal_story.proofs.Ranges.DeliverRanges.{deliver_keeps}
use Rattle.fal_story.proofs.Ranges.ExecRanges.{HaveFewHops, HasFewHops, exec_keeps}
use Rattle.fal_story.proofs.Ranges.GatherRanges.{gather_keeps}
use Rattle.fal_story.proofs.Ranges.NodeRanges.{IsStart, IsTableRanged, KeepsRanges, LetterFits, counted_more, release_keeps, serve_keeps}
use Rattle.fal_story.proofs.Ranges.OwnRows.{few_rows, own_named, own_parents}
use Rattle.fal_story.proofs.Ranges.PlacingCounts.{few_placings}
use Rattle.fal_story.proofs.Ranges.TableRanges.{rules_fit}
use Rattle.fal_story.proofs.Ranges.ClientRanges as client_ranges
use Rattle.fal_story.specs.Clusters.{IsCluster, is_lane}
use Rattle.fal_story.specs.World.{World, put, posted, envelopes_of}

-- ---- the world after an event whose records fit

-- what an actor sent, as it goes out
pub letters_recorded : (from : Actor) (event commits : ℕ) (letters : List Letter) → Each LetterFits letters → Each IsRecord (envelopes_of from event commits (map output_of letters))
unfolding output_of
letters_recorded from event commits [] fit = tt
letters_recorded from event commits (letter ∷ letters) fit = ((letter.message, fit.0, refl), letters_recorded from event commits letters fit.1)

-- one more event, which is of another actor
coord_more : (events : ℕ) (c : CoordState) → IsCoordRanged events c → IsCoordRanged (events + 1) c
coord_more events c ranged = let asked = ranged.asked in record { waiting = ranged.waiting; replica = ranged.replica; stage = ranged.stage; asked = omega arith }

node_posts : (config : Config) (w : World) (n : ℕ) (work : Work) → IsRanged w → KeepsRanges w.events work
    → IsRanged (posted config (record w { nodes = put w.nodes n work.node }) (Node n) (map output_of work.sent) work.notes)
unfolding posted
node_posts config w n work ranged keeps = record {
  clients = ranged.clients;
  nodes = put_all (λ m x. IsNodeRanged x) w.nodes n work.node keeps.ranged (λ m _. ranged.nodes m);
  counted = put_all (λ m x. IsNodeCounted (w.events + 1) x) w.nodes n work.node keeps.counted (λ m _. counted_more w.events (w.nodes m) (ranged.counted m));
  coord = coord_more w.events w.coord ranged.coord;
  envelopes = each_join IsRecord w.envelopes _ ranged.envelopes (letters_recorded (Node n) w.events (length w.commits) work.sent keeps.letters);
}

client_posts : (config : Config) (w : World) (l : ℕ) (move : ClientWork) → IsRanged w → IsClientRanged move.client → Each LetterFits move.sent
    → IsRanged (posted config (record w { clients = put w.clients l move.client }) (Client l) (map output_of move.sent) move.notes)
unfolding posted
client_posts config w l move ranged client fit = record {
  clients = put_all (λ m c. IsClientRanged c) w.clients l move.client client (λ m _. ranged.clients m);
  nodes = ranged.nodes;
  counted = λ m. counted_more w.events (w.nodes m) (ranged.counted m);
  coord = coord_more w.events w.coord ranged.coord;
  envelopes = each_join IsRecord w.envelopes _ ranged.envelopes (letters_recorded (Client l) w.events (length w.commits) move.sent fit);
}

-- ---- what is known of a node before its step

-- the table that a node has can be spelled
table_ranged : (config : Config) (w : World) (n : ℕ) (h : Ghost) → IsCluster config → n < config.nodes → Shows config w h → IsTableRanged (w.nodes n).table
table_ranged config w n h cluster there shows =
    let few = few_placings config w h cluster shows in
    let own = own_version config w h shows n there in
    record {
      rules = subst (λ (t : Placement). changes_field.Fits t.rules) (sym (own_table config w h shows n there)) (rules_fit config w h (w.nodes n).table.version cluster shows few);
      version = omega arith;
    }

-- a call at a node was handed on no more often than commits and placements were made
few_hops : (config : Config) (w : World) (l n : ℕ) (h : Ghost) → IsCluster config → n < config.nodes → Shows config w h → IsFor n (h.phase l) → (h.call l).id.hop ≤ 20000
few_hops config w l n h cluster there shows is =
    let commits = few_commits config w h cluster shows in
    let placings = few_placings config w h cluster shows in
    let version = coord_version config w h shows in
    ⊎_elim {C = (h.call l).id.hop ≤ 20000} (λ none. omega arith) (λ x. let most = x.0 in omega arith) ((shows.good.lanes.routed l n is).there there)

start_of : (config : Config) (w : World) (n : ℕ) (h : Ghost) → IsCluster config → n < config.nodes → w.events < 2 ^ 63 → Shows config w h → IsRanged w → IsStart w.events (w.nodes n)
start_of config w n h cluster there few shows ranged =
    let placed = shows.placed n in
    let number = placed.number in
    let limit = placed.limit in
    let few_nodes = cluster.few_nodes in
    let small_batch = cluster.small_batch in
    let commits = few_commits config w h cluster shows in
    let drawn = shows.good.script.commits.few n in
    let counted = ranged.counted n in
    let tickets = counted.tickets in
    let fetches = counted.fetches in
    let operation = few_taken config w n h cluster there shows in
    let pending = few_fetches (w.nodes n).waiting placed.tidy in
    let waiting = few_calls (w.nodes n).waiting placed.tidy in
    let by_lanes = few_waiting config w n h shows in
    let few_lanes = cluster.few_lanes in
    record {
      few = few;
      ranged = ranged.nodes n;
      counted = counted;
      number = omega arith;
      limit = omega arith;
      drawn = omega arith;
      opened = omega arith;
      calls = omega arith;
      pending = omega arith;
      operation = operation;
      rows = few_rows config w h cluster shows n there ranged;
      parents = own_parents config w h cluster shows n there ranged;
      named = own_named config w h cluster shows n there ranged;
      hops = each_weaker (WaitsAt h.call h.phase n) _ (w.nodes n).waiting.calls (λ x at. subst (λ (c : CallRec). c.id.hop ≤ 20000) (sym at.1) (few_hops config w (lane_of x) n h cluster there shows (subst (IsFor n) (sym at.0) refl))) (shows.held n).waiters;
      table = table_ranged config w n h cluster there shows;
    }

-- the calls of a batch that is not executed are among those that a node keeps
calls_of_found : (P : BatchCall → Type 0) (test : Batch → Bool) (bs : List Batch) (b : Batch) → Each P (calls_in bs) → find test bs ≡ Some b → b.executed ≡ false → Each P b.calls
calls_of_found P test [] b each is yet = absurd (cc)
calls_of_found P test (c ∷ bs) b each is yet =
    elim (test c) as (λ t. cond t (Some c) (find test bs) ≡ Some b → Each P b.calls) [
      | true ↦ λ e.
          let here = subst (λ (x : Batch). Each P (pending_calls x)) (same_Some c b e) (each_front P (pending_calls c) (calls_in bs) each) in
          subst (λ t. Each P (cond t [] b.calls)) yet here
      | false ↦ λ e. calls_of_found P test bs b (each_back P (pending_calls c) (calls_in bs) each) e yet
    ] is

-- and each of these was not handed on too often
planned_hops : (config : Config) (w : World) (n : ℕ) (h : Ghost) (x : BatchCall) → IsCluster config → n < config.nodes → Shows config w h → PlannedAt h.call h.phase n x → HasFewHops x
planned_hops config w n h x cluster below shows at =
    subst (λ (c : CallRec). c.id.hop ≤ 20000) (sym at.1) (few_hops config w (planned_lane x) n h cluster below shows (subst (IsFor n) (sym at.0) refl))

hops_of : (config : Config) (w : World) (n : ℕ) (h : Ghost) → IsCluster config → n < config.nodes → Shows config w h → HaveFewHops (w.nodes n)
hops_of config w n h cluster below shows number batch there yet =
    calls_of_found HasFewHops (λ (b : Batch). b.number == number) (w.nodes n).batches batch
    (each_weaker (PlannedAt h.call h.phase n) _ (calls_in (w.nodes n).batches) (λ x at. planned_hops config w n h x cluster below shows at) (shows.held n).planned) there yet

node_keeps : (config : Config) (w : World) (n : ℕ) (h : Ghost) (e : NodeEvent) (work : Work) → IsCluster config → n < config.nodes → w.events < 2 ^ 63 → Shows config w h → IsRanged w
    → Comes w e → node_step (w.nodes n) e ≡ Some work → KeepsRanges w.events work
node_keeps config w n h (node.Deliver envelope) work cluster there few shows ranged comes is =
    deliver_keeps w.events (w.nodes n) envelope work (start_of config w n h cluster there few shows ranged) (each_in IsRecord w.envelopes envelope ranged.envelopes (in_at w.envelopes comes.0 envelope comes.1)) is
node_keeps config w n h node.Gather work cluster there few shows ranged comes is =
    gather_keeps w.events (w.nodes n) work (start_of config w n h cluster there few shows ranged) is
node_keeps config w n h (node.Exec number) work cluster there few shows ranged comes is =
    exec_keeps w.events (w.nodes n) number work (start_of config w n h cluster there few shows ranged) (hops_of config w n h cluster there shows) is
node_keeps config w n h (node.Release number) work cluster there few shows ranged comes is = release_keeps w.events (w.nodes n) number work (start_of config w n h cluster there few shows ranged) is
node_keeps config w n h (node.Serve number) work cluster there few shows ranged comes is = serve_keeps w.events (w.nodes n) number work (start_of config w n h cluster there few shows ranged) is

client_keeps : (config : Config) (w : World) (l : ℕ) (h : Ghost) (e : ClientEvent) (move : ClientWork) → IsCluster config → IsClient (w.clients l) → Shows config w h → IsRanged w
    → ComesToClient w e → client_step (w.clients l) e ≡ Some move → client_ranges.KeepsRanges move
client_keeps config w l h client.Send move cluster of shows ranged comes is = send_keeps (w.clients l) move of is
client_keeps config w l h (client.Get envelope) move cluster of shows ranged comes is =
    get_keeps config w l comes.0 h envelope move cluster shows of comes.1 (each_in IsRecord w.envelopes envelope ranged.envelopes (in_at w.envelopes comes.0 envelope comes.1)) is

-- ---- both events

-- a node's step is within the ranges, and keeps to them
pub node_in_range : (config : Config) (w : World) (n : ℕ) (h : Ghost) (e : NodeEvent) (work : Work) → IsCluster config → n < config.nodes → w.events < 2 ^ 63 → Shows config w h → IsRanged w
    → Comes w e → node_step (w.nodes n) e ≡ Some work
    → IsWithin work × IsRanged (posted config (record w { nodes = put w.nodes n work.node }) (Node n) (map output_of work.sent) work.notes)
node_in_range config w n h e work cluster there few shows ranged comes is =
    let keeps = node_keeps config w n h e work cluster there few shows ranged comes is in
    (keeps.within, node_posts config w n work ranged keeps)

-- and so does a client's
pub client_in_range : (config : Config) (w : World) (l : ℕ) (h : Ghost) (e : ClientEvent) (move : ClientWork) → IsCluster config → IsTrue (is_lane config l) → Shows config w h → IsRanged w
    → ComesToClient w e → client_step (w.clients l) e ≡ Some move
    → IsInRange move × IsRanged (posted config (record w { clients = put w.clients l move.client }) (Client l) (map output_of move.sent) move.notes)
client_in_range config w l h e move cluster there shows ranged comes is =
    let keeps = client_keeps config w l h e move cluster (client_of config w l h cluster there shows (ranged.clients l)) shows ranged comes is in
    (keeps.within, client_posts config w l move ranged keeps.ranged keeps.letters)
