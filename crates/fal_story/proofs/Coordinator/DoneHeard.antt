-- The coordinator hears that a node has laid its updates.
use Rattle.std.proofs.Common.{◌≡◌, ◌==◌, ℕ, true, false, ◌&&◌, List, [], ◌∷◌, cond, refl, subst}
use Rattle.fal_base.specs.declared.call.Config.{Config}
use Rattle.fal_base.specs.declared.event.Actor.TheVariants.{Node}
use Rattle.fal_base.specs.declared.key.Key.{Key}
use Rattle.fal_base.specs.declared.row.Update.{Update}
use Rattle.fal_coord.specs.declared.stage.Stage.{Stage}
use Rattle.fal_coord.specs.declared.stage.Stage.TheVariants as stage
use Rattle.fal_coord.specs.Hear.{finish_at, take_done}
use Rattle.fal_coord.specs.Nodes.{is_missing, without_node}
use Rattle.fal_coord.specs.State.{begun, at_stage}
use Rattle.fal_wire.specs.declared.message.Message.TheVariants as message
use Rattle.fal_story.proofs.Coordinator.AtStage.{both_so, hosts_at, seen, seen_at, stays, stays_at}
use Rattle.fal_story.proofs.Events.InCoord.{EndsCoord}
use Rattle.fal_story.proofs.Events.Shows.{Ghost, Shows, posts_of}
use Rattle.fal_story.proofs.Good.{Good}
use Rattle.fal_story.proofs.Steps.Arrives.{done_comes}
use Rattle.fal_story.proofs.Steps.Carried.{done_good, rested_good}
use Rattle.fal_story.proofs.View.{IsPosted}
use Rattle.fal_story.specs.World.{World}

module _ (config : Config) (w : World) (h : Ghost) (e p number node : ℕ) (shown : Shows config w h) (posted : IsPosted (posts_of w.envelopes) e (Node 255) p (message.Done number node)) where
  module _ (keys : List Key) (updates : List Update) (missing : List ℕ) (at : w.coord.stage ≡ stage.Finish keys updates missing) where
    -- with these nodes still to be heard
    finishes : (left : List ℕ) → Good config (seen config w (at_stage w.coord (stage.Finish keys updates left)) h) → EndsCoord config w (begun (at_stage w.coord (finish_at keys updates left)))
    finishes [] good =
        let hosts = hosts_at config w h shown (stage.Finish keys updates missing) at in
        let coord = at_stage w.coord (stage.Finish keys updates []) in
        let rested = rested_good config (seen config w coord h) keys updates refl good in
        stays_at config w h shown (at_stage w.coord stage.Idle) rested (record { waiters = hosts.waiters; apart = hosts.apart; current = tt; numbered = hosts.numbered })
    finishes (n ∷ left) good =
        let hosts = hosts_at config w h shown (stage.Finish keys updates missing) at in
        stays_at config w h shown (at_stage w.coord (stage.Finish keys updates (n ∷ left))) good (record { waiters = hosts.waiters; apart = hosts.apart; current = λ none. cc; numbered = hosts.numbered })

    hears : number ≡ w.coord.operation → EndsCoord config w (begun (at_stage w.coord (finish_at keys updates (without_node node missing))))
    hears same =
        let v = seen config w (at_stage w.coord (stage.Finish keys updates missing)) h in
        let good = seen_at config w h shown (stage.Finish keys updates missing) at in
        let sent = subst (λ o. IsPosted (posts_of w.envelopes) e (Node 255) p (message.Done o node)) same posted in
        finishes (without_node node missing) (done_good config v node keys updates missing refl (done_comes config v e p node (Node 255) keys updates missing refl sent good) good)

  done_at : (s : Stage) → w.coord.stage ≡ s → EndsCoord config w (begun (take_done w.coord number node s))
  done_at stage.Idle at = stays config w h shown
  done_at (stage.Walk call awaited key) at = stays config w h shown
  done_at (stage.Lock operation missing rows) at = stays config w h shown
  done_at (stage.Count operation rows dir updates missing counts) at = stays config w h shown
  done_at (stage.Block call missing given) at = stays config w h shown
  done_at (stage.Install call missing) at = stays config w h shown
  done_at (stage.Finish keys updates missing) at =
      elim ((number == w.coord.operation) && is_missing node missing) as (λ b. ((number == w.coord.operation) && is_missing node missing) ≡ b
      → EndsCoord config w (begun (cond b (at_stage w.coord (finish_at keys updates (without_node node missing))) w.coord))) [
        | true ↦ λ is. hears keys updates missing at (both_so number w.coord.operation (is_missing node missing) is).0
        | false ↦ λ _. stays config w h shown
      ] refl

  pub done_heard : EndsCoord config w (begun (take_done w.coord number node w.coord.stage))
  done_heard = done_at w.coord.stage refl
