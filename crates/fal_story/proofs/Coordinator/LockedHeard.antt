-- The coordinator hears that a node has shut the keys of its operation, with its rows. With the last node it comes to the verdict.
use Rattle.std.proofs.Common.{◌≡◌, ◌==◌, ℕ, Bool, true, false, ◌&&◌, List, [], ◌∷◌, ◌++◌, cond, refl, sym, ap, ◌∙◌, subst, arith}
use Rattle.fal_base.specs.declared.call.Config.{Config}
use Rattle.fal_base.specs.declared.call.Cred.{Cred}
use Rattle.fal_base.specs.declared.event.Actor.TheVariants.{Node}
use Rattle.fal_base.specs.declared.event.Point.TheVariants.{Here}
use Rattle.fal_base.specs.declared.op.Op.{Op}
use Rattle.fal_base.specs.declared.reply.Errno.{Errno}
use Rattle.fal_base.specs.declared.reply.Reply.{Reply}
use Rattle.fal_base.specs.declared.reply.Reply.TheVariants as reply
use Rattle.fal_base.specs.declared.row.Update.{Update}
use Rattle.fal_base.specs.Answer.{answer}
use Rattle.fal_base.specs.Change.{changes, is_fine, makes}
use Rattle.fal_base.specs.Tree.{Tree}
use Rattle.fal_base.specs.Transcript.{is_names}
use Rattle.fal_coord.specs.declared.stage.Operation.{Operation}
use Rattle.fal_coord.specs.declared.stage.Stage.{Stage}
use Rattle.fal_coord.specs.declared.stage.Stage.TheVariants as stage
use Rattle.fal_coord.specs.Decide.{counting, decided, judged_work, verdict_on}
use Rattle.fal_coord.specs.Decided.{IsSame, SaysOfTree}
use Rattle.fal_coord.specs.Hear.{lock_heard, take_locked}
use Rattle.fal_coord.specs.Judged as judged
use Rattle.fal_coord.specs.Judged.{Judged}
use Rattle.fal_coord.specs.Nodes.{is_missing, numbers_below, to_nodes, without_node}
use Rattle.fal_coord.specs.State.{at_stage, begun}
use Rattle.fal_wire.specs.declared.message.Message.TheVariants as message
use Rattle.fal_wire.specs.Letters.{letter}
use Rattle.fal_story.proofs.Coordinator.AtStage.{both_so, comes_to, hosts_at, seen, seen_at, stays, stays_at}
use Rattle.fal_story.proofs.Coordinator.Concludes.{dropped_off, dropped_there, ends_changed, ends_unchanged, some_below}
use Rattle.fal_story.proofs.Coordinator.CoordSends.{coord_sends_all, fine_nodes}
use Rattle.fal_story.proofs.Coordinator.Suited.{suited_tree, IsSuited, is_suited}
use Rattle.fal_story.proofs.Events.Doing.{kept_of}
use Rattle.fal_story.proofs.Events.GotEvent.{AllFit}
use Rattle.fal_story.proofs.Events.InCoord.{EndsCoord, coord_ends}
use Rattle.fal_story.proofs.Events.Shows.{Ghost, Shows, Suits, posts_of}
use Rattle.fal_story.proofs.Events.Tables.{coord_nodes, numbered_few}
use Rattle.fal_story.proofs.Good.{Good}
use Rattle.fal_story.proofs.Steps.Arrives.{locked_comes}
use Rattle.fal_story.proofs.Steps.Carried.{counting_good, locked_good}
use Rattle.fal_story.proofs.Steps.Decides.{change_decides, count_stands, says_locked}
use Rattle.fal_story.proofs.View.{Counts, IsPosted, View, now}
use Rattle.fal_story.specs.Clusters.{IsCluster}
use Rattle.fal_story.specs.World.{World}

-- a call that fails makes no commit
pub fails_unmade : (tree : Tree) (cred : Cred) (op : Op) (errno : Errno) → answer tree cred op ≡ reply.Fail errno → makes tree cred op ≡ false
fails_unmade tree cred op errno is = ap (λ r. changes tree cred op && is_fine r) is ∙ and_false (changes tree cred op)
  where
    and_false : (b : Bool) → (b && false) ≡ false
    and_false true = refl
    and_false false = refl

-- every node was heard: the verdict
module _ (config : Config) (w : World) (h : Ghost) (operation : Operation) (rows : List Update) (cluster : IsCluster config) (shown : Shows config w h)
    (is : operation.call ≡ h.call operation.call.id.client) (suits : Suits operation) (good : Good config (seen config w (at_stage w.coord (stage.Lock operation [] rows)) h)) where
  abbrev l : ℕ
  l = operation.call.id.client

  abbrev locked : View
  locked = seen config w (at_stage w.coord (stage.Lock operation [] rows)) h

  abbrev cred : Cred
  cred = (h.call l).cred

  abbrev op : Op
  op = (h.call l).op

  suited : IsSuited operation (h.call l)
  suited = is_suited operation (h.call l) is suits

  -- what the verdict says is so
  says : (j : Judged) → verdict_on operation rows ≡ j → SaysOfTree (now locked) cred op j
  says j judges = subst (SaysOfTree (now locked) cred op) (suited.judged rows ∙ judges) (says_locked config locked l operation.keys (kept_of operation) rows suited.walks suited.fits suited.locked good refl)

  unchanged : (reply : Reply) → reply ≡ answer (now locked) cred op → makes (now locked) cred op ≡ false → is_names reply ≡ false → AllFit (decided w.coord operation [] [] reply).sent → EndsCoord config w (decided w.coord operation [] [] reply)
  unchanged reply answered unmade unlisted fit = ends_unchanged config w h (stage.Lock operation [] rows) operation cluster shown (refl, refl, refl) refl is good reply (suited_tree operation (h.call l) suited) answered unmade unlisted fit

  changed : (updates : List Update) → verdict_on operation rows ≡ judged.Change updates → AllFit (judged_work w.coord operation rows (judged.Change updates)).sent → EndsCoord config w (judged_work w.coord operation rows (judged.Change updates))
  changed updates judges fit =
      let s = stage.Lock operation [] rows in
      let there = dropped_there config w h s operation cluster shown (refl, refl, refl) refl is good in
      let off = dropped_off config w h s operation cluster shown (refl, refl, refl) refl is good in
      ends_changed config w h s operation cluster shown (refl, refl, refl) refl is good updates
      (change_decides config _ l operation.keys (kept_of operation) rows suited.walks suited.fits suited.locked there updates refl (suited.judged rows ∙ judges) off) fit

  -- the rows under a directory are to be counted
  counted : (dir : ℕ) (updates : List Update) → verdict_on operation rows ≡ judged.Count dir updates → AllFit (counting w.coord operation rows dir updates).sent → EndsCoord config w (counting w.coord operation rows dir updates)
  unfolding counting
  counted dir updates judges fit =
      let hosts = shown.beside.hosts in
      let nodes = coord_nodes config w h shown in
      let some = cluster.some_nodes in
      let coord = at_stage w.coord (stage.Count operation rows dir updates (numbers_below w.coord.table.nodes) []) in
      let stands = count_stands config locked l operation.keys (kept_of operation) rows suited.walks suited.fits suited.locked good dir updates refl (suited.judged rows ∙ judges) in
      let begins = counting_good config locked l operation.keys (kept_of operation) rows dir updates refl stands.0 stands.1 stands.2 good in
      let there : Good config (seen config w coord h) =
      subst (λ missing. Good config (record locked { op = record locked.op { work = Counts l operation.keys (kept_of operation) missing rows dir updates 0 } })) (ap numbers_below (sym nodes)) begins in
      let step = comes_to config w h shown coord there (record { waiters = hosts.waiters; apart = hosts.apart; current = (is, suits, some_below w.coord.table.nodes (omega arith), judges); numbered = numbered_few config w h shown }) in
      let fine = fine_nodes config w (begun coord) h (λ (n : ℕ). letter (Node n) (Here 0) (message.Count w.coord.operation dir)) w.coord.table.nodes
      (λ n _. record { asking = tt; records = (n, refl); operation = (omega arith, λ _. refl); bars = tt; knowing = tt; listings = tt }) in
      (h, coord_ends config w h (counting w.coord operation rows dir updates) h fit shown (coord_sends_all config w (begun coord) h (to_nodes w.coord.table.nodes (message.Count w.coord.operation dir)) fine step))

  judges : (j : Judged) → verdict_on operation rows ≡ j → AllFit (judged_work w.coord operation rows j).sent → EndsCoord config w (judged_work w.coord operation rows j)
  judges (judged.Fail errno) so fit = unchanged (reply.Fail errno) (sym (says (judged.Fail errno) so)) (fails_unmade (now locked) cred op errno (says (judged.Fail errno) so)) refl fit
  judges judged.Same so fit = let same : IsSame (now locked) cred op = says judged.Same so in unchanged reply.Fine (sym same.answered) same.unmade refl fit
  judges (judged.Count dir updates) so fit = counted dir updates so fit
  judges (judged.Change updates) so fit = changed updates so fit

-- a node is heard
module _ (config : Config) (w : World) (h : Ghost) (e p number node : ℕ) (told : List Update) (cluster : IsCluster config) (shown : Shows config w h)
    (posted : IsPosted (posts_of w.envelopes) e (Node 255) p (message.Locked number node told)) where
  module _ (operation : Operation) (missing : List ℕ) (rows : List Update) (at : w.coord.stage ≡ stage.Lock operation missing rows) where
    -- with these nodes still to be heard
    hears_left : (left : List ℕ) → Good config (seen config w (at_stage w.coord (stage.Lock operation left (rows ++ told))) h) → AllFit (lock_heard w.coord operation (rows ++ told) left).sent
        → EndsCoord config w (lock_heard w.coord operation (rows ++ told) left)
    hears_left [] good fit =
        let current = (hosts_at config w h shown (stage.Lock operation missing rows) at).current in
        judges config w h operation (rows ++ told) cluster shown current.0 current.1 good (verdict_on operation (rows ++ told)) refl fit
    hears_left (n ∷ left) good fit =
        let hosts = hosts_at config w h shown (stage.Lock operation missing rows) at in
        stays_at config w h shown (at_stage w.coord (stage.Lock operation (n ∷ left) (rows ++ told))) good
        (record { waiters = hosts.waiters; apart = hosts.apart; current = (hosts.current.0, hosts.current.1, λ none. cc); numbered = hosts.numbered })

    hears : number ≡ w.coord.operation → AllFit (lock_heard w.coord operation (rows ++ told) (without_node node missing)).sent → EndsCoord config w (lock_heard w.coord operation (rows ++ told) (without_node node missing))
    hears same fit =
        let v = seen config w (at_stage w.coord (stage.Lock operation missing rows)) h in
        let l = operation.call.id.client in
        let keys = operation.keys in
        let walks = kept_of operation in
        let good = seen_at config w h shown (stage.Lock operation missing rows) at in
        let sent = subst (λ o. IsPosted (posts_of w.envelopes) e (Node 255) p (message.Locked o node told)) same posted in
        let comes = locked_comes config v e p node l (Node 255) keys walks missing rows told refl sent good in
        hears_left (without_node node missing) (locked_good config v node l keys walks missing rows told refl comes.0 comes.1 good) fit

  locked_at : (s : Stage) → w.coord.stage ≡ s → AllFit (take_locked w.coord number node told s).sent → EndsCoord config w (take_locked w.coord number node told s)
  locked_at stage.Idle at fit = stays config w h shown
  locked_at (stage.Walk call awaited key) at fit = stays config w h shown
  locked_at (stage.Lock operation missing rows) at fit =
      elim ((number == w.coord.operation) && is_missing node missing) as (λ b. ((number == w.coord.operation) && is_missing node missing) ≡ b
      → AllFit (cond b (lock_heard w.coord operation (rows ++ told) (without_node node missing)) (begun w.coord)).sent
      → EndsCoord config w (cond b (lock_heard w.coord operation (rows ++ told) (without_node node missing)) (begun w.coord))) [
        | true ↦ λ is fit. hears operation missing rows at (both_so number w.coord.operation (is_missing node missing) is).0 fit
        | false ↦ λ _ _. stays config w h shown
      ] refl fit
  locked_at (stage.Count operation rows dir updates missing counts) at fit = stays config w h shown
  locked_at (stage.Finish keys updates missing) at fit = stays config w h shown
  locked_at (stage.Block call missing given) at fit = stays config w h shown
  locked_at (stage.Install call missing) at fit = stays config w h shown

pub locked_heard : (config : Config) (w : World) (h : Ghost) (e p number node : ℕ) (rows : List Update) → IsCluster config → Shows config w h → IsPosted (posts_of w.envelopes) e (Node 255) p (message.Locked number node rows)
    → AllFit (take_locked w.coord number node rows w.coord.stage).sent → EndsCoord config w (take_locked w.coord number node rows w.coord.stage)
locked_heard config w h e p number node rows cluster shown posted fit = locked_at config w h e p number node rows cluster shown posted w.coord.stage refl fit
