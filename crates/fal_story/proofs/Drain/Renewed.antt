-- The table that a client takes from a Stale of its current attempt.
use Rattle.std.proofs.Common.{◌≡◌, ℕ, List, Some, refl, ◌∙◌}
use Rattle.fal_base.specs.declared.call.CallId.{CallId}
use Rattle.fal_base.specs.declared.call.Config.{Config}
use Rattle.fal_base.specs.declared.event.Actor.TheVariants.{Client}
use Rattle.fal_base.specs.declared.rule.RuleChange.{RuleChange}
use Rattle.fal_client.specs.declared.current.Current.{Current}
use Rattle.fal_place.proofs.Carried.{catches_up}
use Rattle.fal_place.specs.Placement.{table_after, with_changes}
use Rattle.fal_wire.specs.declared.message.Message.TheVariants as message
use Rattle.fal_story.proofs.Events.Shows.{Ghost, Shows, posts_of}
use Rattle.fal_story.proofs.Families.Knowing.{stale_comes}
use Rattle.fal_story.proofs.View.{IsPosted}
use Rattle.fal_story.specs.World.{World}

-- it is the one of the later version, whether the call lists or not
pub next_table : (config : Config) (w : World) (h : Ghost) (l e p : ℕ) (id : CallId) (old new : ℕ) (changes : List RuleChange) (current : Current) → Shows config w h
    → IsPosted (posts_of w.envelopes) e (Client l) p (message.Stale id old new changes) → (w.clients l).current ≡ Some current → id.seq ≡ (w.clients l).seq → id.attempt ≡ current.attempt
    → with_changes (w.clients l).table new changes ≡ table_after config.nodes h.placings new
next_table config w h l e p id old new changes current s posted busy seq attempt =
    let table = (w.clients l).table in
    let next = with_changes table new changes in
    let y = (s.heard l).some current busy in
    (stale_comes s.good.knowing e p l old new id changes next posted (seq, attempt ∙ y.2) y.0 (catches_up table next new changes refl)).2
