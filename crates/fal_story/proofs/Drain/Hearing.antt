-- The world after a node's work, in which nothing came.
use Rattle.std.proofs.Common.{◌≡◌, ℕ, Bool, length, map, refl}
use Rattle.fal_base.specs.declared.call.Config.{Config}
use Rattle.fal_base.specs.declared.event.Actor.TheVariants.{Node}
use Rattle.fal_node.specs.Letters.{Work}
use Rattle.fal_wire.specs.Letters.{output_of}
use Rattle.fal_story.proofs.Drain.Moving.{StaysHearing, posts_after}
use Rattle.fal_story.proofs.Drain.Staged.{IsHearing, hearing_kept, still_more, still_here}
use Rattle.fal_story.proofs.Events.InStep.{letter_posts}
use Rattle.fal_story.proofs.Events.Shows.{posts_of}
use Rattle.fal_story.proofs.Lists.Grown.{put_all}
use Rattle.fal_story.specs.World.{World, put, posted}

abbrev pub After : Config → World → ℕ → Work → World
After config w n k = posted config (record w { nodes = put w.nodes n k.node }) (Node n) (map output_of k.sent) k.notes

-- what is on the way for the coordinator is so still, where nothing comes
pub still_hearing : (w : World) (came : ℕ → Bool) (n : ℕ) (k : Work) → k.node.locks.shut ≡ (w.nodes n).locks.shut → k.node.last_operation ≡ (w.nodes n).last_operation
    → k.node.blocked ≡ (w.nodes n).blocked → StaysHearing w came came n k
still_hearing w came n k shut last blocked m =
    let old = posts_of w.envelopes in
    let more = letter_posts (length w.commits) k.sent in
    let still = λ (i : ℕ). still_more old old more came came i (still_here old came i) in
    put_all (λ i x. IsHearing old came w.coord.operation w.coord.stage i (w.nodes i) → IsHearing (posts_after w k) came w.coord.operation w.coord.stage i x) w.nodes n k.node
    (hearing_kept old (posts_after w k) came came w.coord.operation w.coord.stage n (w.nodes n) k.node (still n) shut last blocked)
    (λ i _. hearing_kept old (posts_after w k) came came w.coord.operation w.coord.stage i (w.nodes i) (w.nodes i) (still i) refl refl refl) m
