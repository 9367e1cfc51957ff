-- The coordinator hears that a node has given its rows of a name away. With the last node the name is placed, and each node gets its share.
use Rattle.std.proofs.Common.{◌≡◌, ◌≢◌, inr, ℕ, ◌==◌, ◌+◌, ◌-◌, ◌<◌, ◌≤◌, true, false, ◌&&◌, List, [], ◌∷◌, ◌++◌, cond, length, Option, Some, refl, sym, ap, ◌∙◌, subst, arith, append-nil}
use Rattle.std.proofs.lemmas.List.{length_push, map-append}
use Rattle.fal_base.specs.declared.call.CallRec.{CallRec}
use Rattle.fal_base.specs.declared.call.Config.{Config}
use Rattle.fal_base.specs.declared.entry.Entry.TheVariants as entry
use Rattle.fal_base.specs.declared.event.Actor.TheVariants.{Node}
use Rattle.fal_base.specs.declared.event.Note.TheVariants as note
use Rattle.fal_base.specs.declared.event.Point.TheVariants.{Here}
use Rattle.fal_base.specs.declared.key.Key.{Key}
use Rattle.fal_base.specs.declared.op.Op.TheVariants as op
use Rattle.fal_base.specs.declared.reply.Reply.TheVariants.{Fine}
use Rattle.fal_base.specs.declared.row.NamedRow.{NamedRow}
use Rattle.fal_base.specs.declared.row.Update.{Update}
use Rattle.fal_base.specs.declared.rule.Rule.{Rule}
use Rattle.fal_base.specs.Tree.{key_of}
use Rattle.fal_base.specs.Updates.{putting}
use Rattle.fal_coord.specs.declared.stage.Stage.{Stage}
use Rattle.fal_coord.specs.declared.stage.Stage.TheVariants as stage
use Rattle.fal_coord.specs.Hear.{block_heard, take_blocked}
use Rattle.fal_coord.specs.Nodes.{is_missing, numbers_below, without_node}
use Rattle.fal_coord.specs.Place.{install_letters, name_placed, placed, placed_by}
use Rattle.fal_coord.specs.State.{Work, at_stage, begun}
use Rattle.fal_coord.specs.Walks.{placing_of}
use Rattle.fal_duty.specs.Duties.{owned}
use Rattle.fal_inode.specs.Named.{puts}
use Rattle.fal_move.specs.Moving.{by_parent, share_of}
use Rattle.fal_place.specs.Placement.{Placement, Placing, owner, table_after, with_rule}
use Rattle.fal_place.proofs.Carried.{table_after-append}
use Rattle.fal_wire.specs.declared.message.Message.TheVariants as message
use Rattle.fal_wire.specs.Letters.{letter, reply_letter}
use Rattle.fal_story.proofs.Coordinator.AtStage.{both_so, hosts_at, seen, seen_at, stays, stays_at}
use Rattle.fal_story.proofs.Coordinator.CallDone.{done_heard, done_held, done_holds, done_waiters}
use Rattle.fal_story.proofs.Coordinator.Concludes.{some_below}
use Rattle.fal_story.proofs.Coordinator.CoordSends.{IsFineHere, coord_sends_all, fine_nodes}
use Rattle.fal_story.proofs.Coordinator.Placeable.{fine_within}
use Rattle.fal_story.proofs.Events.Doing.{name_in, rule_in}
use Rattle.fal_story.proofs.Events.GotEvent.{AllFit}
use Rattle.fal_story.proofs.Events.InCoord.{InCoord, EndsCoord, coord_ends, view_at}
use Rattle.fal_story.proofs.Events.Shows.{Ghost, Shows, IsPlaceable, before_in, calls_in, posts_of}
use Rattle.fal_story.proofs.Events.Tables.{coord_nodes, recorded}
use Rattle.fal_story.proofs.Families.Lanes.{positive}
use Rattle.fal_story.proofs.Good.{Good}
use Rattle.fal_story.proofs.Lists.Each.{Each, each_join}
use Rattle.fal_story.proofs.Lists.Grown.{put_same}
use Rattle.fal_story.proofs.Phase.{Idle, Replies, Runs, Tells}
use Rattle.fal_story.proofs.Steps.Comes.{blocked_comes}
use Rattle.fal_story.proofs.Steps.Placed.{blocked_heard_good, placed_good}
use Rattle.fal_story.proofs.Trees.NextTable.{next_owner}
use Rattle.fal_story.proofs.Trees.Ordered.{by_parent_ordered, share_owned}
use Rattle.fal_story.proofs.Trees.PlaceAnswers.{table_reply}
use Rattle.fal_story.proofs.View.{Blocks, IsPosted, Lands}
use Rattle.fal_story.specs.Clusters.{IsCluster}
use Rattle.fal_story.specs.World.{World, put}

-- every node was heard: the name is placed
module _ (config : Config) (w : World) (h : Ghost) (c : CallRec) (rows : List NamedRow) (cluster : IsCluster config) (shown : Shows config w h) (is : c ≡ h.call c.id.client)
    (placeable : IsPlaceable config.nodes w.coord.table c) (numbered : w.coord.table.version < w.coord.operation) (good : Good config (seen config w (at_stage w.coord (stage.Block c [] rows)) h)) where
  abbrev l : ℕ
  l = c.id.client

  abbrev name : List ℕ
  name = name_in c.op

  abbrev rule : Rule
  rule = rule_in c.op

  abbrev placing : Placing
  placing = record { name = name; rule = rule }

  abbrev next : Placement
  next = with_rule w.coord.table name rule

  abbrev kept : List Update
  kept = puts name (by_parent rows)

  abbrev point : ℕ
  point = length w.commits + 0

  -- the ghost after it
  abbrev later : Ghost
  later = record h { phase = put h.phase l (Tells (Replies point Fine)); due = λ n. owned next n kept; placings = h.placings ++ placing ∷ [] }

  abbrev noted : Work
  noted = record {
    coord = record w.coord { table = next; stage = stage.Install c (numbers_below w.coord.table.nodes) };
    sent = [];
    notes = note.Placed l c.id.seq (w.coord.table.version + 1) ∷ [];
  }

  -- the table before the last placement is the one that was
  before_is : w.coord.table ≡ before_in config later
  before_is =
      let push = length_push h.placings placing in
      let last : length h.placings ≡ length (h.placings ++ placing ∷ []) - 1 = omega arith in
      recorded config w h shown ∙ sym (table_after-append config.nodes h.placings (placing ∷ []) (length h.placings) (omega arith)) ∙ ap (table_after config.nodes (h.placings ++ placing ∷ [])) last

  runs : h.phase l ≡ Runs
  runs = good.operation.running l refl

  seq_is : c.id.seq ≡ (w.clients l).seq
  seq_is =
      let busy : h.phase l ≢ Idle = λ idle. let both = sym idle ∙ runs in absurd (cc) in
      ap (λ (d : CallRec). d.id.seq) is ∙ good.script.calls.number l (positive good.lanes l busy)

  lives : (key : Key) → owner next key < config.nodes
  lives =
      let some = cluster.some_nodes in
      next_owner config.nodes w.coord.table name rule (coord_nodes config w h shown) (omega arith) (fine_within config.nodes w.coord.table c.cred name rule placeable.fine) good.ground.lives

  places : Good config (view_at config w noted later)
  places =
      let v = seen config w (at_stage w.coord (stage.Block c [] rows)) h in
      let past : h.since l ≤ length w.commits = good.script.calls.past l in
      let called : (h.call l).op ≡ op.Place name rule = ap (λ (d : CallRec). d.op) (sym is) ∙ placeable.places in
      let fine : table_reply config.nodes w.coord.table (h.call l).cred name rule ≡ Fine = ap (λ (d : CallRec). table_reply config.nodes w.coord.table d.cred name rule) (sym is) ∙ placeable.fine in
      let made = placed_good config v l name rule (puts name rows) kept point refl (by_parent_ordered name rows) lives called fine (omega arith) (omega arith) good in
      let same : record v {
        entries = w.entries ++ entry.Placed l ((w.clients l).seq) next.version ∷ [];
        phase = later.phase;
        op = record v.op { due = later.due; work = Lands name rule w.coord.table (numbers_below config.nodes) };
        map = record v.map { table = next; placings = later.placings };
      } ≡ view_at config w noted later = λ i. record (view_at config w noted later) {
        posts = sym (append-nil (posts_of w.envelopes)) i;
        entries = w.entries ++ entry.Placed l (sym seq_is i) next.version ∷ [];
        commits = sym (append-nil w.commits) i;
        op = record (view_at config w noted later).op { work = Lands name rule (before_is i) (numbers_below (sym (coord_nodes config w h shown) i)) };
      } in
      subst (Good config) same made

  step : InCoord config w noted later
  step =
      let hosts = shown.beside.hosts in
      let nodes = coord_nodes config w h shown in
      let some = cluster.some_nodes in
      record {
        good = places;
        held = λ n. done_held h.call h.phase l point Fine runs n (w.nodes n).waiting.calls (calls_in (w.nodes n).batches) (shown.held n);
        heard = λ a. done_heard h.call h.phase l point Fine runs config a (w.clients a) (shown.heard a);
        beside = record {
          queues = shown.beside.queues;
          holding = λ n. done_holds h.call h.phase l point Fine runs h.crossed n (w.nodes n) (shown.beside.holding n);
          hosts = record {
            waiters = done_waiters h.call h.phase l point Fine runs w.coord.waiting hosts.waiters;
            apart = hosts.apart;
            current = some_below w.coord.table.nodes (omega arith);
            numbered = omega arith;
          };
        };
      }

  install_fine : (n : ℕ) → n < config.nodes → IsFineHere config w noted later (letter (Node n) (Here 0) (message.Install w.coord.operation next.version rule (share_of next name n (by_parent rows))))
  install_fine n below = record { asking = tt; records = (n, refl); operation = tt; bars = (n, refl, below, omega arith, λ _. (refl, refl, inr (share_owned name next n (by_parent rows)))); knowing = tt; listings = tt }

  reply_fine : IsFineHere config w noted later (reply_letter c (Here 0) Fine)
  reply_fine = record { asking = tt; records = (l, refl, (refl, inr (seq_is, inr (put_same h.phase l (Tells (Replies point Fine)))))); operation = tt; bars = tt; knowing = tt; listings = tt }

  -- the Installs go to the nodes, and then the answer to the client
  sends : AllFit (name_placed w.coord c placing rows).sent → EndsCoord config w (name_placed w.coord c placing rows)
  unfolding name_placed
  sends fit =
      let installs = install_letters w.coord.operation next placing (by_parent rows) in
      let answer = reply_letter c (Here 0) Fine in
      let fine : Each (IsFineHere config w noted later) (installs ++ answer ∷ []) = each_join (IsFineHere config w noted later) installs (answer ∷ [])
      (fine_nodes config w noted later (λ (n : ℕ). letter (Node n) (Here 0) (message.Install w.coord.operation next.version rule (share_of next name n (by_parent rows)))) next.nodes
      (λ n below. install_fine n (subst (λ k. n < k) (coord_nodes config w h shown) below)))
      (reply_fine, tt) in
      (later, coord_ends config w h (name_placed w.coord c placing rows) later fit shown (coord_sends_all config w noted later (installs ++ answer ∷ []) fine step))

  lands : AllFit (placed w.coord c rows).sent → EndsCoord config w (placed w.coord c rows)
  lands fit =
      let there : Some placing ≡ placing_of c.op = sym (ap placing_of placeable.places) in
      subst (λ (o : Option Placing). AllFit (placed_by w.coord c rows o).sent → EndsCoord config w (placed_by w.coord c rows o)) there sends fit

-- a node is heard
module _ (config : Config) (w : World) (h : Ghost) (e p number node : ℕ) (told : List NamedRow) (cluster : IsCluster config) (shown : Shows config w h)
    (posted : IsPosted (posts_of w.envelopes) e (Node 255) p (message.Blocked number node told)) where
  module _ (c : CallRec) (missing : List ℕ) (rows : List NamedRow) (at : w.coord.stage ≡ stage.Block c missing rows) where
    -- with these nodes still to be heard
    hears_left : (left : List ℕ) → Good config (seen config w (at_stage w.coord (stage.Block c left (rows ++ told))) h) → AllFit (block_heard w.coord c (rows ++ told) left).sent → EndsCoord config w (block_heard w.coord c (rows ++ told) left)
    hears_left [] good fit =
        let hosts = hosts_at config w h shown (stage.Block c missing rows) at in
        lands config w h c (rows ++ told) cluster shown hosts.current.0 hosts.current.1 hosts.numbered good fit
    hears_left (n ∷ left) good fit =
        let hosts = hosts_at config w h shown (stage.Block c missing rows) at in
        stays_at config w h shown (at_stage w.coord (stage.Block c (n ∷ left) (rows ++ told))) good
        (record { waiters = hosts.waiters; apart = hosts.apart; current = (hosts.current.0, hosts.current.1, λ none. cc); numbered = hosts.numbered })

    hears : number ≡ w.coord.operation → is_missing node missing ≡ true → AllFit (block_heard w.coord c (rows ++ told) (without_node node missing)).sent → EndsCoord config w (block_heard w.coord c (rows ++ told) (without_node node missing))
    hears same gone fit =
        let v = seen config w (at_stage w.coord (stage.Block c missing rows)) h in
        let l = c.id.client in
        let name = name_in c.op in
        let rule = rule_in c.op in
        let came = puts name rows in
        let good = seen_at config w h shown (stage.Block c missing rows) at in
        let sent = subst (λ o. IsPosted (posts_of w.envelopes) e (Node 255) p (message.Blocked o node told)) same posted in
        let comes = blocked_comes config v e p node l (Node 255) name rule missing came told refl sent good in
        let heard = blocked_heard_good config v l name rule node missing came told refl gone comes.0 comes.1 good in
        let all : came ++ v.op.due node ≡ puts name (rows ++ told) = ap (λ us. came ++ us) comes.1 ∙ sym (map-append (λ (r : NamedRow). putting (key_of r.parent name) r.inode) rows told) in
        hears_left (without_node node missing) (subst (λ us. Good config (record v { op = record v.op { work = Blocks l name rule (without_node node missing) us } })) all heard) fit

  blocked_at : (s : Stage) → w.coord.stage ≡ s → AllFit (take_blocked w.coord number node told s).sent → EndsCoord config w (take_blocked w.coord number node told s)
  blocked_at (stage.Block c missing rows) at fit =
      elim ((number == w.coord.operation) && is_missing node missing) as (λ b. ((number == w.coord.operation) && is_missing node missing) ≡ b
      → AllFit (cond b (block_heard w.coord c (rows ++ told) (without_node node missing)) (begun w.coord)).sent
      → EndsCoord config w (cond b (block_heard w.coord c (rows ++ told) (without_node node missing)) (begun w.coord))) [
        | true ↦ λ is fit. let both = both_so number w.coord.operation (is_missing node missing) is in hears c missing rows at both.0 both.1 fit
        | false ↦ λ _ _. stays config w h shown
      ] refl fit
  blocked_at other at fit = stays config w h shown

pub blocked_heard : (config : Config) (w : World) (h : Ghost) (e p number node : ℕ) (rows : List NamedRow) → IsCluster config → Shows config w h → IsPosted (posts_of w.envelopes) e (Node 255) p (message.Blocked number node rows)
    → AllFit (take_blocked w.coord number node rows w.coord.stage).sent → EndsCoord config w (take_blocked w.coord number node rows w.coord.stage)
blocked_heard config w h e p number node rows cluster shown posted fit = blocked_at config w h e p number node rows cluster shown posted w.coord.stage refl fit
