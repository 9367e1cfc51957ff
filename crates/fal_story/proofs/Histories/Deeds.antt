-- What an event under way leaves of the world, and which actor it changes.
use Rattle.std.proofs.Common.{◌≡◌, ◌≢◌, ⊎_elim, ℕ, true, false, Option, Some, None, refl, sym, ap, ◌∙◌, subst}
use Rattle.std.specs.Prelude.{◌==◌}
use Rattle.std.proofs.lemmas.Option.{none-some, same_Some}
use Rattle.fal_base.specs.declared.call.Config.{Config}
use Rattle.fal_base.specs.declared.event.Actor.{Actor}
use Rattle.fal_base.specs.declared.event.Actor.TheVariants.{Client, Node, Coord}
use Rattle.fal_base.specs.declared.event.Envelope.{Envelope}
use Rattle.fal_base.specs.declared.event.Event.{Event}
use Rattle.fal_client.specs.State.{Work as ClientWork}
use Rattle.fal_coord.specs.State.{Work as CoordWork}
use Rattle.fal_node.specs.Letters.{Work}
use Rattle.fal_story.proofs.Lists.Grown.{put_same, put_other, tells}
use Rattle.fal_story.specs.Actors.{actor_of, is_actor}
use Rattle.fal_story.specs.Machines.{Machine, ClientMachine, NodeMachine, CoordMachine, Made, client_made, node_made, coord_made, client_work, node_work, coord_work, machine_step, envelope_named}
use Rattle.fal_story.specs.Run.{Deed, machine_in, with_machine, deed_by, deed}
use Rattle.fal_story.specs.World.{World}

-- what an event under way leaves of the world, and who makes it
pub record IsDeed (w : World) (e : Event) (d : Deed) : Type 0 where
  pub envelopes : d.world.envelopes ≡ w.envelopes
  pub entries : d.world.entries ≡ w.entries
  pub commits : d.world.commits ≡ w.commits
  pub events : d.world.events ≡ w.events
  pub from : d.from ≡ actor_of e

-- what was recorded stays
record IsRecorded (w u : World) : Type 0 where
  envelopes : u.envelopes ≡ w.envelopes
  entries : u.entries ≡ w.entries
  commits : u.commits ≡ w.commits
  events : u.events ≡ w.events

with_keeps : (w : World) (a : Actor) (m : Machine) → IsRecorded w (with_machine w a m)
with_keeps w (Client l) (ClientMachine c) = record { envelopes = refl; entries = refl; commits = refl; events = refl }
with_keeps w (Node n) (NodeMachine s) = record { envelopes = refl; entries = refl; commits = refl; events = refl }
with_keeps w Coord (CoordMachine c) = record { envelopes = refl; entries = refl; commits = refl; events = refl }
with_keeps w a m = record { envelopes = refl; entries = refl; commits = refl; events = refl }

by_does : (w : World) (e : Event) (o : Option Made) (d : Deed) → deed_by w (actor_of e) o ≡ Some d → IsDeed w e d
by_does w e None d is = absurd (none-some d is)
by_does w e (Some made) d is =
    let k = with_keeps w (actor_of e) made.0 in
    subst (IsDeed w e) (same_Some _ d is) (record { envelopes = k.envelopes; entries = k.entries; commits = k.commits; events = k.events; from = refl })

-- what the actor of the event makes of it in this world
abbrev pub made_in : Config → World → Event → Option Made
made_in config w e = machine_step config (machine_in w (actor_of e)) e (envelope_named w.envelopes e)

pub deed_does : (config : Config) (w : World) (e : Event) (d : Deed) → deed config w e ≡ Some d → IsDeed w e d
unfolding deed
deed_does config w e d is = by_does w e (made_in config w e) d is

-- ---- the actor that made something

client_kind : (w : World) (l : ℕ) (o : Option ClientWork) (made : Made) → client_made o ≡ Some made → machine_in (with_machine w (Client l) made.0) (Client l) ≡ made.0
client_kind w l None made is = absurd (none-some made is)
client_kind w l (Some move) made is = subst (λ (z : Made). machine_in (with_machine w (Client l) z.0) (Client l) ≡ z.0) (same_Some _ made is) (ap ClientMachine (put_same w.clients l move.client))

node_kind : (w : World) (n : ℕ) (o : Option Work) (made : Made) → node_made o ≡ Some made → machine_in (with_machine w (Node n) made.0) (Node n) ≡ made.0
node_kind w n None made is = absurd (none-some made is)
node_kind w n (Some work) made is = subst (λ (z : Made). machine_in (with_machine w (Node n) z.0) (Node n) ≡ z.0) (same_Some _ made is) (ap NodeMachine (put_same w.nodes n work.node))

coord_kind : (w : World) (o : Option CoordWork) (made : Made) → coord_made o ≡ Some made → machine_in (with_machine w Coord made.0) Coord ≡ made.0
coord_kind w None made is = absurd (none-some made is)
coord_kind w (Some work) made is = subst (λ (z : Made). machine_in (with_machine w Coord z.0) Coord ≡ z.0) (same_Some _ made is) refl

-- it stands in its place in the world
pub stands : (config : Config) (w : World) (a : Actor) (e : Event) (envelope : Option Envelope) (made : Made) → machine_step config (machine_in w a) e envelope ≡ Some made → machine_in (with_machine w a made.0) a ≡ made.0
stands config w (Client l) e envelope made is = client_kind w l (client_work config (w.clients l) e envelope) made is
stands config w (Node n) e envelope made is = node_kind w n (node_work config (w.nodes n) e envelope) made is
stands config w Coord e envelope made is = coord_kind w (coord_work w.coord e envelope) made is

-- ---- the others

differ : (m n : ℕ) → (m == n) ≡ false → n ≢ m
differ m n other same = ⊎_elim (λ h. let wrong : true ≡ false = sym h.0 ∙ other in absurd (cc)) (λ h. h.1 (sym same)) (tells m n)

-- each other actor stays as it was
pub others_stay : (w : World) (a b : Actor) (m : Machine) → is_actor a b ≡ false → machine_in (with_machine w a m) b ≡ machine_in w b
others_stay w (Client l) (Client k) (ClientMachine c) other = ap ClientMachine (put_other w.clients l c k (differ l k other))
others_stay w (Client l) (Node k) (ClientMachine c) other = refl
others_stay w (Client l) Coord (ClientMachine c) other = refl
others_stay w (Node l) (Client k) (NodeMachine n) other = refl
others_stay w (Node l) (Node k) (NodeMachine n) other = ap NodeMachine (put_other w.nodes l n k (differ l k other))
others_stay w (Node l) Coord (NodeMachine n) other = refl
others_stay w Coord (Client k) (CoordMachine c) other = refl
others_stay w Coord (Node k) (CoordMachine c) other = refl
others_stay w Coord Coord m other = absurd (cc)
others_stay w a b m other = refl
