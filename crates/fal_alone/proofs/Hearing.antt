-- The coordinator hears just what was sent to it.
use Rattle.std.proofs.Common.{◌≡◌, Some, None, cond, refl, sym, subst}
use Rattle.std.specs.Prelude.{IsSome}
use Rattle.fal_base.specs.declared.event.Actor.{Actor}
use Rattle.fal_base.specs.declared.event.Actor.TheVariants.{Client, Node, Coord}
use Rattle.fal_base.specs.declared.event.Envelope.{Envelope}
use Rattle.fal_coord.specs.declared.event.CoordEvent.TheVariants.{Hear}
use Rattle.fal_coord.specs.Hear.{heard}
use Rattle.fal_coord.specs.State.{CoordState, Work}
use Rattle.fal_coord.specs.Step.{is_to_coord, coord_step}

-- what it hears was sent to it
pub heard_was_sent : (c : CoordState) (x : Envelope) (work : Work) → coord_step c (Hear x) ≡ Some work → x.to ≡ Coord
unfolding coord_step
heard_was_sent c x work is = by_receiver x.to is
  where
    by_receiver : (to : Actor) → cond (is_to_coord to) (Some (heard c x)) None ≡ Some work → to ≡ Coord
    by_receiver (Client lane) e = absurd (cc)
    by_receiver (Node node) e = absurd (cc)
    by_receiver Coord e = refl

-- what was sent to it is heard
pub sent_is_heard : (c : CoordState) (x : Envelope) → x.to ≡ Coord → IsSome (coord_step c (Hear x))
unfolding coord_step
sent_is_heard c x to = subst (λ (a : Actor). IsSome (cond (is_to_coord a) (Some (heard c x)) None)) (sym to) refl
