-- The coordinator comes to the end of its operation, with a commit or without one: it tells each node the updates, and the client the answer.
use Rattle.std.proofs.Common.{◌≡◌, ◌≢◌, inl, inr, ℕ, zero, suc, ◌+◌, ◌≤◌, ◌<◌, true, false, List, [], ◌∷◌, ◌++◌, length, None, refl, sym, ap, ◌∙◌, subst, arith, append-nil}
use Rattle.std.specs.List.{All}
use Rattle.fal_base.specs.declared.call.CallRec.{CallRec}
use Rattle.fal_base.specs.declared.call.Config.{Config}
use Rattle.fal_base.specs.declared.entry.Entry.{Entry}
use Rattle.fal_base.specs.declared.entry.Entry.TheVariants as entry
use Rattle.fal_base.specs.declared.event.Actor.TheVariants.{Node}
use Rattle.fal_base.specs.declared.event.Note.{Note}
use Rattle.fal_base.specs.declared.event.Point.TheVariants.{Here}
use Rattle.fal_base.specs.declared.key.Key.{Key}
use Rattle.fal_base.specs.declared.reply.Reply.{Reply}
use Rattle.fal_base.specs.declared.reply.Reply.TheVariants as reply
use Rattle.fal_base.specs.declared.row.Update.{Update}
use Rattle.fal_base.specs.Answer.{answer}
use Rattle.fal_base.specs.Change.{makes}
use Rattle.fal_base.specs.Commits.{Commit}
use Rattle.fal_base.specs.Maps.{value_at}
use Rattle.fal_base.specs.Transcript.{call_of, commits_of, commit_by, is_names, is_place}
use Rattle.fal_coord.specs.declared.stage.Operation.{Operation}
use Rattle.fal_coord.specs.declared.stage.Stage.{Stage}
use Rattle.fal_coord.specs.declared.stage.Stage.TheVariants as stage
use Rattle.fal_coord.specs.Decide.{commit_note, decided}
use Rattle.fal_coord.specs.Nodes.{numbers_below, to_nodes}
use Rattle.fal_coord.specs.State.{CoordState, Work, at_stage}
use Rattle.fal_dentry.specs.Walk.{is_among, without_keys}
use Rattle.fal_duty.specs.Duties.{owned}
use Rattle.fal_wire.specs.declared.message.Message.TheVariants as message
use Rattle.fal_wire.specs.Letters.{letter, reply_letter}
use Rattle.fal_wire.specs.Messages.{Fits}
use Rattle.fal_story.proofs.Coordinator.AtStage.{seen}
use Rattle.fal_story.proofs.Coordinator.CallDone.{done_heard, done_held, done_holds, done_waiters}
use Rattle.fal_story.proofs.Coordinator.CoordSends.{IsFineHere, coord_sends_all, fine_nodes}
use Rattle.fal_story.proofs.Events.Doing.{awaited, work_of}
use Rattle.fal_story.proofs.Events.InCoord.{InCoord, EndsCoord, coord_ends, view_at}
use Rattle.fal_story.proofs.Events.Shows.{Ghost, Shows, askings_of, calls_in, posts_of, before_in}
use Rattle.fal_story.proofs.Events.Tables.{coord_nodes, numbered_few}
use Rattle.fal_story.proofs.Families.Lanes.{positive}
use Rattle.fal_story.proofs.Families.OperationEnds.{IsReady, ready_of}
use Rattle.fal_story.proofs.Good.{Good}
use Rattle.fal_story.proofs.Lists.Each.{Each, each_join}
use Rattle.fal_story.proofs.Lists.Grown.{put_put, put_same}
use Rattle.fal_story.proofs.Phase.{Idle, Tells, Replies, Runs}
use Rattle.fal_story.proofs.Steps.Carried.{dropped_good, dropped_none}
use Rattle.fal_story.proofs.Steps.Decided.{IsDecided, decided_commit, decided_good, ended_good}
use Rattle.fal_story.proofs.View.{View, Ends, now}
use Rattle.fal_story.specs.Clusters.{IsCluster}
use Rattle.fal_story.specs.World.{World, put, entries_of}

-- there is a first node
pub some_below : (nodes : ℕ) → 1 ≤ nodes → numbers_below nodes ≢ []
some_below zero some none = absurd (omega arith)
some_below (suc nodes) some none = cc

-- the operation stands at a stage in which every node was heard
module _ (config : Config) (w : World) (h : Ghost) (s : Stage) (operation : Operation) (cluster : IsCluster config) (shown : Shows config w h)
    (ready : IsReady (work_of (before_in config h) s) operation.call.id.client operation.keys) (quiet : awaited s ≡ []) (is : operation.call ≡ h.call operation.call.id.client)
    (good : Good config (seen config w (at_stage w.coord s) h)) where
  abbrev l : ℕ
  l = operation.call.id.client

  abbrev before : View
  before = seen config w (at_stage w.coord s) h

  -- it has dropped its own entries of the keys
  abbrev pub dropped : View
  dropped = record before { replica = put before.replica 255 (without_keys (before.replica 255) operation.keys) }

  pub dropped_there : Good config dropped
  dropped_there = dropped_good config before 255 operation.keys (inl refl) good

  pub dropped_off : (key : Key) → is_among key operation.keys ≡ true → value_at (dropped.replica 255) key ≡ None
  dropped_off key among = ap (λ r. value_at r key) (put_same before.replica 255 (without_keys w.coord.replica operation.keys)) ∙ dropped_none config before w.coord.replica operation.keys key among

  runs : h.phase l ≡ Runs
  runs = good.operation.running l (ready_of (work_of (before_in config h) s) l operation.keys ready)

  busy : h.phase l ≢ Idle
  busy idle = let both = sym idle ∙ runs in absurd (cc)

  above : 0 < (w.clients l).seq
  above = positive good.lanes l busy

  numbered : operation.call.id.seq ≡ (w.clients l).seq
  numbered = ap (λ (c : CallRec). c.id.seq) is ∙ good.script.calls.number l above

  -- the ghost after it
  abbrev later : Reply → (ℕ → List Update) → Ghost
  later reply due = record h { phase = put h.phase l (Tells (Replies (length w.commits) reply)); due = due }

  module _ (updates : List Update) (notes : List Note) (reply : Reply) where
    abbrev coord : CoordState
    coord = record w.coord { replica = without_keys w.coord.replica operation.keys; stage = stage.Finish operation.keys updates (numbers_below w.coord.table.nodes) }

    abbrev noted : Work
    noted = record { coord = coord; sent = []; notes = notes }

    abbrev after : (ℕ → List Update) → List Entry → List Commit → View
    after due entries commits = record dropped {
      commits = commits;
      entries = entries;
      phase = put h.phase l (Tells (Replies (length w.commits) reply));
      op = record dropped.op { due = due; work = Ends operation.keys updates (numbers_below config.nodes) };
    }

    concluded : (due : ℕ → List Update) (entries : List Entry) (commits : List Commit) → entries ≡ w.entries ++ entries_of (length w.commits) notes → commits ≡ w.commits ++ commits_of config (entries_of (length w.commits) notes)
        → Good config (after due entries commits) → InCoord config w noted (later reply due)
    concluded due entries commits as_noted as_made fine =
        let hosts = shown.beside.hosts in
        let nodes = coord_nodes config w h shown in
        let some = cluster.some_nodes in
        record {
          good = subst (Good config) same fine;
          held = λ n. done_held h.call h.phase l (length w.commits) reply runs n (w.nodes n).waiting.calls (calls_in (w.nodes n).batches) (shown.held n);
          heard = λ a. done_heard h.call h.phase l (length w.commits) reply runs config a (w.clients a) (shown.heard a);
          beside = record {
            queues = shown.beside.queues;
            holding = λ n. done_holds h.call h.phase l (length w.commits) reply runs h.crossed n (w.nodes n) (shown.beside.holding n);
            hosts = record {
              waiters = done_waiters h.call h.phase l (length w.commits) reply runs w.coord.waiting hosts.waiters;
              apart = hosts.apart;
              current = some_below w.coord.table.nodes (omega arith);
              numbered = numbered_few config w h shown;
            };
          };
        }
      where
        same : after due entries commits ≡ view_at config w noted (later reply due)
        same = λ i. record (view_at config w noted (later reply due)) {
          replica = put_put (λ m. (w.nodes m).replica) 255 w.coord.replica (without_keys w.coord.replica operation.keys) i;
          fetches = put (λ m. askings_of (w.nodes m).waiting.fetches) 255 (quiet i);
          posts = sym (append-nil (posts_of w.envelopes)) i;
          entries = as_noted i;
          commits = as_made i;
          op = record (view_at config w noted (later reply due)).op { work = Ends operation.keys updates (numbers_below (sym (coord_nodes config w h shown) i)) };
        }

    fine_commit : (due : ℕ → List Update) (n : ℕ) → IsFineHere config w noted (later reply due) (letter (Node n) (Here 0) (message.Commit w.coord.operation updates))
    fine_commit due n = record { asking = tt; records = (n, refl); operation = (omega arith, λ _. refl); bars = tt; knowing = tt; listings = tt }

    fine_reply : (due : ℕ → List Update) → IsFineHere config w noted (later reply due) (reply_letter operation.call (Here 0) reply)
    fine_reply due =
        let here : length w.commits + 0 ≡ length w.commits = omega arith in
        let told : put h.phase l (Tells (Replies (length w.commits) reply)) l ≡ Tells (Replies (length w.commits + 0) reply) =
        put_same h.phase l (Tells (Replies (length w.commits) reply)) ∙ ap (λ k. Tells (Replies k reply)) (sym here) in
        record { asking = tt; records = (l, refl, (refl, inr (numbered, inr told))); operation = tt; bars = tt; knowing = tt; listings = tt }

    -- the Commits go to the nodes, and then the answer to the client
    told_all : (due : ℕ → List Update) → InCoord config w noted (later reply due) → All (λ letter. Fits letter.message) (decided w.coord operation updates notes reply).sent → EndsCoord config w (decided w.coord operation updates notes reply)
    unfolding decided
    told_all due step fit =
        let commits = to_nodes w.coord.table.nodes (message.Commit w.coord.operation updates) in
        let answer = reply_letter operation.call (Here 0) reply in
        let fine : Each (IsFineHere config w noted (later reply due)) (commits ++ answer ∷ []) = each_join (IsFineHere config w noted (later reply due)) commits (answer ∷ [])
        (fine_nodes config w noted (later reply due) (λ (n : ℕ). letter (Node n) (Here 0) (message.Commit w.coord.operation updates)) w.coord.table.nodes (λ n _. fine_commit due n))
        (fine_reply due, tt) in
        (later reply due, coord_ends config w h (decided w.coord operation updates notes reply) (later reply due) fit shown (coord_sends_all config w noted (later reply due) (commits ++ answer ∷ []) fine step))

  -- the operation changes nothing
  pub ends_unchanged : (reply : Reply) → is_place (h.call l).op ≡ false → reply ≡ answer (now before) (h.call l).cred (h.call l).op → makes (now before) (h.call l).cred (h.call l).op ≡ false → is_names reply ≡ false
      → All (λ letter. Fits letter.message) (decided w.coord operation [] [] reply).sent → EndsCoord config w (decided w.coord operation [] [] reply)
  ends_unchanged reply tree answered unmade unlisted fit =
      let ended = ended_good config dropped l operation.keys reply ready tree unmade answered unlisted dropped_there in
      told_all [] [] reply h.due (concluded [] [] reply h.due w.entries w.commits (sym (append-nil w.entries)) (sym (append-nil w.commits)) ended) fit

  -- or makes its commit
  pub ends_changed : (updates : List Update) → IsDecided config dropped l operation.keys updates
      → All (λ letter. Fits letter.message) (decided w.coord operation updates (commit_note operation ∷ []) reply.Fine).sent → EndsCoord config w (decided w.coord operation updates (commit_note operation ∷ []) reply.Fine)
  ends_changed updates is_decided fit =
      let made = decided_good config dropped l operation.keys updates is_decided dropped_there in
      let due : ℕ → List Update = λ n. owned w.coord.table n updates in
      told_all updates (commit_note operation ∷ []) reply.Fine due
      (concluded updates (commit_note operation ∷ []) reply.Fine due (w.entries ++ entry.Commit l ((w.clients l).seq) 0 ∷ []) (w.commits ++ decided_commit dropped l ∷ [])
      (ap (λ s. w.entries ++ entry.Commit l s 0 ∷ []) (sym numbered))
      (ap (λ more. w.commits ++ more) (sym (ap (λ s. commit_by (call_of config l s) l s 0 ++ []) numbered ∙ ap (λ o. commit_by o l ((w.clients l).seq) 0 ++ []) (good.script.calls.named l above))))
      made)
      fit
