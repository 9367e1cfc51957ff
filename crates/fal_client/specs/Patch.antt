-- What a step changes in a client, which `apply` makes so, and which step that is.
use Rattle.std.specs.Prelude.{◌≡◌, ℕ, List, map, drop, slice_get, Option, Some, None}
use Rattle.std.specs.Option.{option_map}
use Rattle.fal_wire.specs.Letters.{output_of}
use Rattle.fal_client.specs.declared.patch.Patch.{Patch}
use Rattle.fal_client.specs.declared.patch.Patch.TheVariants as patch
use Rattle.fal_client.specs.declared.patch.Prepared.{Prepared}
use Rattle.fal_client.specs.declared.current.Current.{Current}
use Rattle.fal_client.specs.declared.current.Listing.{Listing}
use Rattle.fal_client.specs.declared.parts.Part.{Part}
use Rattle.fal_client.specs.declared.event.ClientEvent.{ClientEvent}
use Rattle.fal_client.specs.State.{ClientState, Work}
use Rattle.fal_client.specs.Step.{first_try, joined, client_step}

-- the parts of a listing under way
abbrev pub with_parts : List (Option Part) → Listing → Listing
with_parts parts listing = record listing { parts = parts }

abbrev pub tried_again : ℕ → List (Option Part) → Current → Current
tried_again attempt parts current = record current { attempt = attempt; listing = option_map (with_parts parts) current.listing }

abbrev pub listing_begun : Listing → Current → Current
listing_begun listing current = record current { listing = Some listing }

-- the client after the change
unfoldable pub patched : ClientState → Patch → ClientState
patched c patch.Keep = c
patched c (patch.Start seq) = record c { left = drop 1 c.left; seq = seq; current = option_map first_try (slice_get c.left 0) }
patched c (patch.Skip seq) = record c { left = drop 1 c.left; seq = seq; current = None }
patched c patch.Finish = record c { current = None }
patched c (patch.Retry attempt table parts) = record c { table = table; current = option_map (tried_again attempt parts) c.current }
patched c (patch.Open listing) = record c { current = option_map (listing_begun listing) c.current }
patched c (patch.Join node part) = record c { current = option_map (joined node part) c.current }

-- what was prepared is the step that does this work: the client after it, the records byte for byte, and the notes
pub record IsStep (c : ClientState) (work : Work) (prepared : Prepared) : Type 0 where
  pub client : work.client ≡ patched c prepared.patch
  pub sent : prepared.outputs.sent ≡ map output_of work.sent
  pub notes : prepared.outputs.notes ≡ work.notes

abbrev pub IsStepOf : ClientState → Option Work → Prepared → Type 0
IsStepOf c None prepared = ⊥
IsStepOf c (Some work) prepared = IsStep c work prepared

-- a step is prepared exactly where there is work, and does it
abbrev pub IsStepIf : ClientState → Option Work → Option Prepared → Type 0
IsStepIf c None None = Unit {0}
IsStepIf c None (Some prepared) = ⊥
IsStepIf c (Some work) None = ⊥
IsStepIf c (Some work) (Some prepared) = IsStep c work prepared

-- what was prepared is the client's step for the event
abbrev pub IsStepFor : ClientState → ClientEvent → Prepared → Type 0
IsStepFor c event prepared = IsStepOf c (client_step c event) prepared
