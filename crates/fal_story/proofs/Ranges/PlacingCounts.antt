-- A run has no more changes of placement than the cluster has calls.
use Rattle.std.proofs.Common.{◌≡◌, ◌≢◌, ℕ, suc, ◌≤◌, cond, List, [], ◌∷◌, length, Option, Some, None, refl, sym, arith}
use Rattle.std.specs.Prelude.{slice_get, count_by, IsSomeAnd}
use Rattle.std.proofs.lemmas.List.Sums.{sum_by-cons}
use Rattle.fal_base.specs.declared.call.Call.{Call}
use Rattle.fal_base.specs.declared.call.Config.{Config}
use Rattle.fal_base.specs.declared.entry.Entry.{Entry}
use Rattle.fal_base.specs.declared.entry.Entry.TheVariants as entry
use Rattle.fal_base.specs.EachOnce.{NotPlaced}
use Rattle.fal_base.specs.Transcript.{call_of, is_placed}
use Rattle.fal_story.proofs.Events.Shows.{Ghost, Shows}
use Rattle.fal_story.proofs.Lists.Each.{Each}
use Rattle.fal_story.proofs.Lists.Members.{IsIn}
use Rattle.fal_story.proofs.Ranges.Counts.{lanes_from, lanes_length, call_in}
use Rattle.fal_story.proofs.Ranges.NoMore.{Differ, no_more}
use Rattle.fal_story.specs.Clusters.{IsCluster}
use Rattle.fal_story.specs.World.{World}

-- the calls that were placed, by lane and number
abbrev places_in : List Entry → List (ℕ × ℕ)
places_in [] = []
places_in (entry.Placed lane seq version ∷ es) = (lane, seq) ∷ places_in es
places_in (other ∷ es) = places_in es

places_count : (es : List Entry) → length (places_in es) ≡ count_by is_placed es
places_count [] = refl
places_count (entry.Placed lane seq version ∷ es) = let h = places_count es in let more = sum_by-cons (λ (e : Entry). cond (is_placed e) 1 0) (entry.Placed lane seq version) es in omega arith
places_count (other ∷ es) = let h = places_count es in let more = sum_by-cons (λ (e : Entry). cond (is_placed e) 1 0) other es in omega arith

places_each : (P : ℕ × ℕ → Type 0) (es : List Entry) → ((j lane seq version : ℕ) → slice_get es j ≡ Some (entry.Placed lane seq version) → P (lane, seq)) → Each P (places_in es)
places_each P [] h = tt
places_each P (entry.Placed lane seq version ∷ es) h = (h 0 lane seq version refl, places_each P es (λ j. h (suc j)))
places_each P (other ∷ es) h = places_each P es (λ j. h (suc j))

-- no call is placed twice
abbrev PlacedOnce : List Entry → Type 0
PlacedOnce es = (j lane seq version : ℕ) → slice_get es j ≡ Some (entry.Placed lane seq version) → NotPlaced es j lane seq

once_rest : (e : Entry) (es : List Entry) → PlacedOnce (e ∷ es) → PlacedOnce es
once_rest e es h j lane seq version at i other lt is = h (suc j) lane seq version at (suc i) other (omega arith) is

places_differ : (es : List Entry) → PlacedOnce es → Differ (λ (x : ℕ × ℕ). x) (places_in es)
places_differ [] once = tt
places_differ (entry.Placed lane seq version ∷ es) once = (
  places_each (λ x. x ≢ (lane, seq)) es
      (λ j l s v at same. once (suc j) l s v at 0 version (omega arith) (λ k. Some (entry.Placed (sym same k).0 (sym same k).1 version))),
  places_differ es (once_rest _ es once),
)
places_differ (other ∷ es) once = places_differ es (once_rest other es once)

named_some : (P : Call → Type 0) (o : Option Call) → IsSomeAnd o P → (call : Call) × (o ≡ Some call)
named_some P None is = absurd is
named_some P (Some call) is = (call, refl)

-- each change is of a call, and no two of one
pub few_placings : (config : Config) (w : World) (h : Ghost) → IsCluster config → Shows config w h → length h.placings ≤ 10000
few_placings config w h cluster shows =
    let placed = shows.good.script.once.each.placed in
    let no_more_than = no_more (λ (x : ℕ × ℕ). x) (places_in w.entries) (lanes_from 1 config.lanes) (places_differ w.entries (λ j lane seq version at. (placed j lane seq version at).1))
    (places_each (λ x. IsIn x (lanes_from 1 config.lanes)) w.entries (λ j lane seq version at. let x = named_some _ (call_of config lane seq) (placed j lane seq version at).2 in call_in config lane seq x.0 x.1)) in
    let all = lanes_length 1 config.lanes in
    let few = cluster.few_calls in
    let count = places_count w.entries in
    let same = shows.good.script.placements.count in
    omega arith
