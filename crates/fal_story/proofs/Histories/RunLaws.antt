-- The laws of legal runs.
use Rattle.std.proofs.Common.{◌≡◌, List, Some, None, refl, subst}
use Rattle.std.specs.Prelude.{IsSome}
use Rattle.fal_base.specs.declared.call.Config.{Config}
use Rattle.fal_base.specs.declared.event.Event.{Event}
use Rattle.fal_base.specs.Commits.{AreLegal}
use Rattle.fal_base.specs.EachOnce.{IsEachOnce}
use Rattle.fal_base.specs.Linear.{IsLinear}
use Rattle.fal_base.specs.Listing.{AreListings}
use Rattle.fal_base.specs.Places.{AreOlder, ArePlaced}
use Rattle.fal_story.proofs.Events.LegalRuns.{IsKept, legal_kept}
use Rattle.fal_story.specs.Run.{IsLegal, run, transcript, entries_at}
use Rattle.fal_story.specs.World.{World}

linear_at : (config : Config) (w : World) → IsKept config w → IsLinear config w.entries
linear_at config w k =
    let g = k.shows.good in
    record {
      legal = subst AreLegal g.script.joined.same g.script.commits.legal;
      answers = λ j l s p reply call is named place names. (g.script.answers j l s p reply is).2 call named place names;
    }

-- what holds of the transcript of a legal run, where it holds of the entries of each kept world
of_legal : (config : Config) (events : List Event) (P : List _ → Type 0) → ((w : World) → IsKept config w → P w.entries) → IsLegal config events → P (transcript config events)
of_legal config events P holds legal =
    elim (run config events) as (λ o. run config events ≡ o → IsSome o → P (entries_at o)) [
      | None ↦ λ t y. absurd (cc)
      | Some w ↦ λ t y. holds w (legal_kept config events w legal t)
    ] refl legal.enabled

-- each call is sent, committed and answered at most once, in this order
pub legal_each_once : (config : Config) (events : List Event) → IsLegal config events → IsEachOnce config (transcript config events)
legal_each_once config events = of_legal config events (IsEachOnce config) (λ w k. k.shows.good.script.once.each)

-- every answer is the tree's at its point
pub legal_linear : (config : Config) (events : List Event) → IsLegal config events → IsLinear config (transcript config events)
legal_linear config events = of_legal config events (IsLinear config) (linear_at config)

-- what is listed of a directory stood there
pub legal_listings : (config : Config) (events : List Event) → IsLegal config events → AreListings config (transcript config events)
legal_listings config events = of_legal config events (AreListings config) (λ w k. k.shows.good.listings.listed)

-- a client is told that it is stale only where it is, and only of changes that were made
pub legal_older : (config : Config) (events : List Event) → IsLegal config events → AreOlder (transcript config events)
legal_older config events = of_legal config events AreOlder (λ w k. k.shows.good.script.placements.older)

-- changes of placement count from 1, each found room, and each call that asks for one is answered by those before
pub legal_places : (config : Config) (events : List Event) → IsLegal config events → ArePlaced config (transcript config events)
legal_places config events = of_legal config events (ArePlaced config) (λ w k. k.shows.good.script.placements.placed)
