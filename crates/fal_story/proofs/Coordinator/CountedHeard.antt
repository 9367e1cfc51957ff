-- The coordinator hears how many entries the directory has at a node. With the last node it is known whether the directory is empty.
use Rattle.std.proofs.Common.{◌≡◌, ◌≢◌, ⊎_elim, ◌+◌, ◌==◌, ℕ, Bool, true, false, ◌&&◌, List, [], ◌∷◌, ◌++◌, cond, sum, refl, sym, ap, ◌∙◌, subst}
use Rattle.std.proofs.lemmas.List.Sums.{sum_by_push}
use Rattle.fal_base.specs.declared.call.Config.{Config}
use Rattle.fal_base.specs.declared.event.Actor.TheVariants.{Node}
use Rattle.fal_base.specs.declared.reply.Errno.TheVariants.{Enotempty}
use Rattle.fal_base.specs.declared.reply.Reply.TheVariants as reply
use Rattle.fal_base.specs.declared.row.Update.{Update}
use Rattle.fal_base.specs.Answer.{answer}
use Rattle.fal_coord.specs.declared.stage.Operation.{Operation}
use Rattle.fal_coord.specs.declared.stage.Stage.{Stage}
use Rattle.fal_coord.specs.declared.stage.Stage.TheVariants as stage
use Rattle.fal_coord.specs.Decide.{judged_work, verdict_on}
use Rattle.fal_coord.specs.Hear.{count_heard, take_counted}
use Rattle.fal_coord.specs.Judged as judged
use Rattle.fal_coord.specs.Judged.{counted_of}
use Rattle.fal_coord.specs.Nodes.{is_missing, without_node}
use Rattle.fal_coord.specs.State.{at_stage, begun}
use Rattle.fal_wire.specs.declared.message.Message.TheVariants as message
use Rattle.fal_story.proofs.Coordinator.AtStage.{both_so, hosts_at, seen, seen_at, stays, stays_at}
use Rattle.fal_story.proofs.Coordinator.Concludes.{dropped_off, dropped_there, ends_changed, ends_unchanged}
use Rattle.fal_story.proofs.Coordinator.LockedHeard.{fails_unmade}
use Rattle.fal_story.proofs.Coordinator.Suited.{suited_tree, IsSuited, is_suited}
use Rattle.fal_story.proofs.Events.Doing.{kept_of}
use Rattle.fal_story.proofs.Events.GotEvent.{AllFit}
use Rattle.fal_story.proofs.Events.InCoord.{EndsCoord}
use Rattle.fal_story.proofs.Events.Shows.{Ghost, Shows, Suits, posts_of}
use Rattle.fal_story.proofs.Good.{Good}
use Rattle.fal_story.proofs.Lists.Grown.{tells}
use Rattle.fal_story.proofs.Steps.Arrives.{counted_comes}
use Rattle.fal_story.proofs.Steps.Carried.{counted_good}
use Rattle.fal_story.proofs.Steps.Decides.{empty_decides, full_answers}
use Rattle.fal_story.proofs.View.{Counts, IsPosted, View, now}
use Rattle.fal_story.specs.Clusters.{IsCluster}
use Rattle.fal_story.specs.World.{World}

-- every node was heard
module _ (config : Config) (w : World) (h : Ghost) (operation : Operation) (rows : List Update) (dir : ℕ) (updates : List Update) (counts : List ℕ) (cluster : IsCluster config) (shown : Shows config w h)
    (is : operation.call ≡ h.call operation.call.id.client) (suits : Suits operation) (judges : verdict_on operation rows ≡ judged.Count dir updates)
    (good : Good config (seen config w (at_stage w.coord (stage.Count operation rows dir updates [] counts)) h)) where
  abbrev l : ℕ
  l = operation.call.id.client

  abbrev last : Stage
  last = stage.Count operation rows dir updates [] counts

  abbrev counted : View
  counted = seen config w (at_stage w.coord last) h

  suited : IsSuited operation (h.call l)
  suited = is_suited operation (h.call l) is suits

  -- nothing stands in the directory
  empties : sum counts ≡ 0 → AllFit (judged_work w.coord operation rows (judged.Change updates)).sent → EndsCoord config w (judged_work w.coord operation rows (judged.Change updates))
  empties none fit =
      let there = dropped_there config w h last operation cluster shown (refl, refl, refl) refl is good in
      let off = dropped_off config w h last operation cluster shown (refl, refl, refl) refl is good in
      ends_changed config w h last operation cluster shown (refl, refl, refl) refl is good updates
      (empty_decides config _ l operation.keys (kept_of operation) rows suited.walks suited.fits suited.locked there dir updates
      (ap (λ total. Counts l operation.keys (kept_of operation) [] rows dir updates total) none) (suited.judged rows ∙ judges) off)
      fit

  -- something does
  fills : sum counts ≢ 0 → AllFit (judged_work w.coord operation rows (judged.Fail Enotempty)).sent → EndsCoord config w (judged_work w.coord operation rows (judged.Fail Enotempty))
  fills some fit =
      let answers : answer (now counted) (h.call l).cred (h.call l).op ≡ reply.Fail Enotempty =
      full_answers config counted l operation.keys (kept_of operation) rows suited.walks suited.fits suited.locked good dir updates (sum counts) refl (suited.judged rows ∙ judges) some in
      ends_unchanged config w h last operation cluster shown (refl, refl, refl) refl is good (reply.Fail Enotempty) (suited_tree operation (h.call l) suited) (sym answers) (fails_unmade (now counted) (h.call l).cred (h.call l).op Enotempty answers) refl fit

  concludes : AllFit (judged_work w.coord operation rows (counted_of counts updates)).sent → EndsCoord config w (judged_work w.coord operation rows (counted_of counts updates))
  concludes fit =
      let P : Bool → Type 0 = λ b. AllFit (judged_work w.coord operation rows (cond b (judged.Change updates) (judged.Fail Enotempty))).sent
      → EndsCoord config w (judged_work w.coord operation rows (cond b (judged.Change updates) (judged.Fail Enotempty))) in
      ⊎_elim {C = P (sum counts == 0)} (λ x. subst P (sym x.0) (empties x.1)) (λ x. subst P (sym x.0) (fills x.1)) (tells (sum counts) 0) fit

-- a node is heard
module _ (config : Config) (w : World) (h : Ghost) (e p number node count : ℕ) (cluster : IsCluster config) (shown : Shows config w h) (posted : IsPosted (posts_of w.envelopes) e (Node 255) p (message.Counted number node count)) where
  module _ (operation : Operation) (rows : List Update) (dir : ℕ) (updates : List Update) (missing counts : List ℕ) (at : w.coord.stage ≡ stage.Count operation rows dir updates missing counts) where
    abbrev more : List ℕ
    more = counts ++ count ∷ []

    -- with these nodes still to be heard
    hears_left : (left : List ℕ) → Good config (seen config w (at_stage w.coord (stage.Count operation rows dir updates left more)) h) → AllFit (count_heard w.coord operation rows dir updates more left).sent
        → EndsCoord config w (count_heard w.coord operation rows dir updates more left)
    hears_left [] good fit =
        let current = (hosts_at config w h shown (stage.Count operation rows dir updates missing counts) at).current in
        concludes config w h operation rows dir updates more cluster shown current.0 current.1 current.3 good fit
    hears_left (n ∷ left) good fit =
        let hosts = hosts_at config w h shown (stage.Count operation rows dir updates missing counts) at in
        let current = hosts.current in
        stays_at config w h shown (at_stage w.coord (stage.Count operation rows dir updates (n ∷ left) more)) good
        (record { waiters = hosts.waiters; apart = hosts.apart; current = (current.0, current.1, (λ none. cc), current.3); numbered = hosts.numbered })

    hears : number ≡ w.coord.operation → AllFit (count_heard w.coord operation rows dir updates more (without_node node missing)).sent
        → EndsCoord config w (count_heard w.coord operation rows dir updates more (without_node node missing))
    hears same fit =
        let s = stage.Count operation rows dir updates missing counts in
        let v = seen config w (at_stage w.coord s) h in
        let l = operation.call.id.client in
        let keys = operation.keys in
        let walks = kept_of operation in
        let good = seen_at config w h shown s at in
        let sent = subst (λ o. IsPosted (posts_of w.envelopes) e (Node 255) p (message.Counted o node count)) same posted in
        let comes = counted_comes config v e p node count l (Node 255) keys walks missing rows dir updates (sum counts) refl sent good in
        let now_counted = counted_good config v node count l keys walks missing rows dir updates (sum counts) refl comes good in
        let total : sum counts + count ≡ sum more = sym (sum_by_push (λ n. n) counts count) in
        hears_left (without_node node missing)
        (subst (λ sum. Good config (record v { op = record v.op { work = Counts l keys walks (without_node node missing) rows dir updates sum } })) total now_counted) fit

  counted_at : (s : Stage) → w.coord.stage ≡ s → AllFit (take_counted w.coord number node count s).sent → EndsCoord config w (take_counted w.coord number node count s)
  counted_at stage.Idle at fit = stays config w h shown
  counted_at (stage.Walk call awaited key) at fit = stays config w h shown
  counted_at (stage.Lock operation missing rows) at fit = stays config w h shown
  counted_at (stage.Count operation rows dir updates missing counts) at fit =
      let more = counts ++ count ∷ [] in
      elim ((number == w.coord.operation) && is_missing node missing) as (λ b. ((number == w.coord.operation) && is_missing node missing) ≡ b
      → AllFit (cond b (count_heard w.coord operation rows dir updates more (without_node node missing)) (begun w.coord)).sent
      → EndsCoord config w (cond b (count_heard w.coord operation rows dir updates more (without_node node missing)) (begun w.coord))) [
        | true ↦ λ is fit. hears operation rows dir updates missing counts at (both_so number w.coord.operation (is_missing node missing) is).0 fit
        | false ↦ λ _ _. stays config w h shown
      ] refl fit
  counted_at (stage.Finish keys updates missing) at fit = stays config w h shown
  counted_at (stage.Block call missing given) at fit = stays config w h shown
  counted_at (stage.Install call missing) at fit = stays config w h shown

pub counted_heard : (config : Config) (w : World) (h : Ghost) (e p number node count : ℕ) → IsCluster config → Shows config w h → IsPosted (posts_of w.envelopes) e (Node 255) p (message.Counted number node count)
    → AllFit (take_counted w.coord number node count w.coord.stage).sent → EndsCoord config w (take_counted w.coord number node count w.coord.stage)
counted_heard config w h e p number node count cluster shown posted fit = counted_at config w h e p number node count cluster shown posted w.coord.stage refl fit
