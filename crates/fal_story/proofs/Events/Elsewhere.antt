-- Calls that are at a node are not at the coordinator.
use Rattle.std.proofs.Common.{◌≢◌, ℕ, sym, subst}
use Rattle.fal_story.proofs.Events.HeldCalls.{one_node}
use Rattle.fal_story.proofs.Phase.{Phase, Runs, IsFor, IsHeld}
use Rattle.fal_story.proofs.Steps.Moved.{held_for}

pub for_elsewhere : (n : ℕ) (p : Phase) → n ≢ 255 → IsFor n p → (IsHeld 255 p → ⊥) × (p ≢ Runs)
for_elsewhere n p other at = (λ held. other (sym (one_node 255 n p (held_for 255 p held) at)), λ runs. subst (IsFor n) runs at)
