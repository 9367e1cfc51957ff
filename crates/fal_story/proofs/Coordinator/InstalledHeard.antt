-- The coordinator hears that a node has taken its rows of the name that is placed.
use Rattle.std.proofs.Common.{◌≡◌, ◌==◌, ℕ, true, false, ◌&&◌, List, [], ◌∷◌, cond, refl, subst}
use Rattle.fal_base.specs.declared.call.CallRec.{CallRec}
use Rattle.fal_base.specs.declared.call.Config.{Config}
use Rattle.fal_base.specs.declared.event.Actor.TheVariants.{Node}
use Rattle.fal_coord.specs.declared.stage.Stage.{Stage}
use Rattle.fal_coord.specs.declared.stage.Stage.TheVariants as stage
use Rattle.fal_coord.specs.Hear.{install_at, take_installed}
use Rattle.fal_coord.specs.Nodes.{is_missing, without_node}
use Rattle.fal_coord.specs.State.{begun, at_stage}
use Rattle.fal_wire.specs.declared.message.Message.TheVariants as message
use Rattle.fal_story.proofs.Coordinator.AtStage.{both_so, hosts_at, seen, seen_at, stays, stays_at}
use Rattle.fal_story.proofs.Events.Doing.{name_in, rule_in}
use Rattle.fal_story.proofs.Events.InCoord.{EndsCoord}
use Rattle.fal_story.proofs.Events.Shows.{Ghost, Shows, before_in, posts_of}
use Rattle.fal_story.proofs.Good.{Good}
use Rattle.fal_story.proofs.Steps.Comes.{installed_comes}
use Rattle.fal_story.proofs.Steps.Placed.{installed_heard_good, landed_good}
use Rattle.fal_story.proofs.View.{IsPosted}
use Rattle.fal_story.specs.World.{World}

module _ (config : Config) (w : World) (h : Ghost) (e p number node : ℕ) (shown : Shows config w h) (posted : IsPosted (posts_of w.envelopes) e (Node 255) p (message.Installed number node)) where
  module _ (c : CallRec) (missing : List ℕ) (at : w.coord.stage ≡ stage.Install c missing) where
    -- with these nodes still to be heard
    lands : (left : List ℕ) → Good config (seen config w (at_stage w.coord (stage.Install c left)) h) → EndsCoord config w (begun (at_stage w.coord (install_at c left)))
    lands [] good =
        let hosts = hosts_at config w h shown (stage.Install c missing) at in
        let rested = landed_good config (seen config w (at_stage w.coord (stage.Install c [])) h) (name_in c.op) (rule_in c.op) (before_in config h) refl good in
        stays_at config w h shown (at_stage w.coord stage.Idle) rested (record { waiters = hosts.waiters; apart = hosts.apart; current = tt; numbered = hosts.numbered })
    lands (n ∷ left) good =
        let hosts = hosts_at config w h shown (stage.Install c missing) at in
        stays_at config w h shown (at_stage w.coord (stage.Install c (n ∷ left))) good (record { waiters = hosts.waiters; apart = hosts.apart; current = λ none. cc; numbered = hosts.numbered })

    hears : number ≡ w.coord.operation → EndsCoord config w (begun (at_stage w.coord (install_at c (without_node node missing))))
    hears same =
        let v = seen config w (at_stage w.coord (stage.Install c missing)) h in
        let name = name_in c.op in
        let rule = rule_in c.op in
        let old = before_in config h in
        let good = seen_at config w h shown (stage.Install c missing) at in
        let sent = subst (λ o. IsPosted (posts_of w.envelopes) e (Node 255) p (message.Installed o node)) same posted in
        lands (without_node node missing) (installed_heard_good config v name rule old node missing refl (installed_comes config v e p node (Node 255) name rule old missing refl sent good) good)

  installed_at : (s : Stage) → w.coord.stage ≡ s → EndsCoord config w (begun (take_installed w.coord number node s))
  installed_at (stage.Install c missing) at =
      elim ((number == w.coord.operation) && is_missing node missing) as (λ b. ((number == w.coord.operation) && is_missing node missing) ≡ b
      → EndsCoord config w (begun (cond b (at_stage w.coord (install_at c (without_node node missing))) w.coord))) [
        | true ↦ λ is. hears c missing at (both_so number w.coord.operation (is_missing node missing) is).0
        | false ↦ λ _. stays config w h shown
      ] refl
  installed_at other at = stays config w h shown

  pub installed_heard : EndsCoord config w (begun (take_installed w.coord number node w.coord.stage))
  installed_heard = installed_at w.coord.stage refl
