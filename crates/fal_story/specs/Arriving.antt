-- What an actor is told of the envelopes that were sent.
use Rattle.std.specs.Prelude.{◌≡◌, Bool, ℕ, ◌+◌, ◌≤◌, nat_le, ◌&&◌, if◌then◌else◌, ◌==◌, List, [], ◌∷◌, ◌++◌}
use Rattle.fal_base.specs.declared.call.Config.{Config}
use Rattle.fal_base.specs.declared.event.Envelope.{Envelope}
use Rattle.fal_base.specs.declared.event.Event.{Event}
use Rattle.fal_story.specs.declared.inbox.Arrived.{Arrived}
use Rattle.fal_story.specs.Actors.{number_of}
use Rattle.fal_story.specs.Pushing.{all_sent}

-- the envelope is to the actor of this number, and was sent by event `from` or a later one
abbrev pub arrives : ℕ → ℕ → Envelope → Bool
arrives number from x = number_of x.to == number && nat_le from x.sent_at

-- the envelopes that arrive, each with its number, where the first of the list has number `next`
abbrev pub arrived_next : ℕ → ℕ → ℕ → List Envelope → List Arrived
arrived_next next number from [] = []
arrived_next next number from (x ∷ xs) =
    if arrives number from x then record { number = next; envelope = x } ∷ arrived_next (next + 1) number from xs else arrived_next (next + 1) number from xs

-- the envelopes to the actor of this number that were sent by event `from` or a later one, each with its number
abbrev pub arrived : ℕ → ℕ → List Envelope → List Arrived
arrived number from sent = arrived_next 0 number from sent

-- an inbox is told what arrived
abbrev pub Arrives : Config → List Event → ℕ → ℕ → List Arrived → List Arrived → Type 0
Arrives config es number from before after = after ≡ before ++ arrived number from (all_sent config es)

-- the envelopes were sent by events from `first` to `last`, in the order of these
abbrev pub AreSentIn : ℕ → ℕ → List Envelope → Type 0
AreSentIn first last [] = first ≤ last
AreSentIn first last (x ∷ xs) = (first ≤ x.sent_at) × AreSentIn x.sent_at last xs

-- the envelopes stand in the order of the events that sent them
abbrev pub AreSentInOrder : List Envelope → Type 0
AreSentInOrder xs = (last : ℕ) × AreSentIn 0 last xs
