-- Records go to actors that are there.
use Rattle.std.proofs.Common.{◌≡◌, ◌≢◌, ℕ, zero, suc, ◌<◌, ◌%◌, ◌-◌, true, false, cond, List, [], ◌∷◌, length, map, Some, None, IsTrue, refl, sym, subst, ◌∙◌, arith}
use Rattle.std.specs.Prelude.{slice_get, IsSome}
use Rattle.std.proofs.lemmas.Bool.Decides.{nat_tests}
use Rattle.fal_base.specs.declared.call.Config.{Config}
use Rattle.fal_base.specs.declared.event.Actor.{Actor}
use Rattle.fal_base.specs.declared.event.Actor.TheVariants.{Client, Node, Coord}
use Rattle.fal_base.specs.declared.event.Envelope.{Envelope}
use Rattle.fal_base.specs.declared.key.Key.{Key}
use Rattle.fal_base.specs.declared.op.Op.{Op}
use Rattle.fal_base.specs.declared.op.Op.TheVariants as op
use Rattle.fal_base.specs.declared.path.PathArg.{PathArg}
use Rattle.fal_base.specs.declared.path.PathArg.TheVariants.{Good as GoodPath, Bad}
use Rattle.fal_base.specs.Transcript.{call_of, lane_call}
use Rattle.fal_client.specs.Paths.{addressee, node_for}
use Rattle.fal_wire.specs.declared.letter.Letter.{Letter}
use Rattle.fal_wire.specs.Letters.{output_of}
use Rattle.fal_place.specs.Hash.{name_hash}
use Rattle.fal_place.specs.Placement.{owner, route, route_of_last, is_root_key}
use Rattle.fal_story.proofs.Events.Shows.{Ghost, Shows, WaitsAt, lane_of, view_of}
use Rattle.fal_story.proofs.Good.{Good}
use Rattle.fal_story.proofs.Lists.Each.{Each, each_weaker}
use Rattle.fal_story.proofs.Lists.Grown.{slice_get_below}
use Rattle.fal_story.proofs.Phase.{Idle, Waits}
use Rattle.fal_story.proofs.Trees.Standing.{table_of}
use Rattle.fal_story.proofs.View.{View}
use Rattle.fal_story.specs.Clusters.{IsCluster, is_lane}
use Rattle.fal_story.specs.World.{World, envelopes_of}

-- an actor of the cluster
abbrev pub IsActor : Config → Actor → Type 0
IsActor config (Client lane) = IsTrue (is_lane config lane)
IsActor config (Node n) = n < config.nodes
IsActor config Coord = Unit {0}

-- ---- nodes

rest_below : (a n : ℕ) → 0 < n → a % n < n
rest_below a n some = omega arith

pub owner_there : (config : Config) (key : Key) → IsCluster config → owner (table_of config) key < config.nodes
owner_there config key cluster =
    let some = cluster.some_nodes in
    elim (is_root_key key) as (λ b. cond b 0 (name_hash key.name % config.nodes) < config.nodes) [ true ↦ omega arith | false ↦ rest_below (name_hash key.name) config.nodes (omega arith) ]

pub route_there : (config : Config) (names : List (List ℕ)) → IsCluster config → route (table_of config) names < config.nodes
route_there config names cluster =
    let some = cluster.some_nodes in
    elim (slice_get names (length names - 1)) as (λ o. route_of_last (table_of config) o < config.nodes) [ None ↦ omega arith | Some name ↦ rest_below (name_hash name) config.nodes (omega arith) ]

node_for_there : (config : Config) (path : PathArg) → IsCluster config → IsActor config (node_for (table_of config) path)
node_for_there config (GoodPath names) cluster = route_there config names cluster
node_for_there config (Bad fault raw) cluster = let some = cluster.some_nodes in omega arith

-- a call goes to an actor that is there
pub call_there : (config : Config) (call : Op) → IsCluster config → IsActor config (addressee (table_of config) call)
unfolding addressee
call_there config (op.Mkdir path mode) cluster = node_for_there config path cluster
call_there config (op.Create path mode) cluster = node_for_there config path cluster
call_there config (op.Stat path) cluster = node_for_there config path cluster
call_there config (op.Access path want) cluster = node_for_there config path cluster
call_there config (op.Truncate path size) cluster = node_for_there config path cluster
call_there config (op.Unlink path) cluster = node_for_there config path cluster
call_there config (op.Chmod path mode) cluster = node_for_there config path cluster
call_there config (op.Chown path uid gid) cluster = node_for_there config path cluster
call_there config (op.Rmdir path) cluster = tt
call_there config (op.Rename old new) cluster = tt
call_there config (op.Place name rule) cluster = tt
call_there config (op.List path) cluster = node_for_there config path cluster

-- ---- lanes

lane_of_call : (config : Config) (l s : ℕ) → IsSome (call_of config l s) → IsTrue (is_lane config l)
lane_of_call config zero s is = absurd (cc)
lane_of_call config (suc l) s is =
    elim (slice_get config.lanes l) as (λ o. slice_get config.lanes l ≡ o → IsSome (lane_call o s) → IsTrue (is_lane config (suc l))) [
      | None ↦ λ e y. absurd (cc)
      | Some calls ↦ λ e y. let below = slice_get_below config.lanes l calls e in grind (arith, nat_tests)
    ] refl is

-- a lane that has sent a call is there
pub sent_lane : (config : Config) (v : View) (l : ℕ) → Good config v → 0 < v.seq l → IsTrue (is_lane config l)
sent_lane config v l g some = lane_of_call config l (v.seq l) (subst (λ o. IsSome o) (sym (g.script.calls.named l some)) refl)

-- a lane with a call under way is there
pub lane_there : (config : Config) (v : View) (l : ℕ) → Good config v → v.phase l ≢ Idle → IsTrue (is_lane config l)
lane_there config v l g busy =
    elim (v.seq l) as (λ s. v.seq l ≡ s → IsTrue (is_lane config l)) [
      | zero ↦ λ e. absurd (busy (g.lanes.under_way.started l e))
      | suc s ↦ λ e. sent_lane config v l g (omega arith)
    ] refl

-- each waiting call is one of a lane that is there
pub waiters_there : (config : Config) (w : World) (n : ℕ) (h : Ghost) → Shows config w h → Each (λ y. IsTrue (is_lane config (lane_of y))) (w.nodes n).waiting.calls
waiters_there config w n h s =
    each_weaker (WaitsAt h.call h.phase n) _ (w.nodes n).waiting.calls
    (λ y at. lane_there config (view_of config w h) (lane_of y) s.good (λ e. let wrong : Idle ≡ Waits n y.fetch = sym e ∙ at.0 in absurd (cc)))
    (s.held n).waiters

-- ---- the records of letters

pub letters_go : (config : Config) (from : Actor) (event commits : ℕ) (letters : List Letter) → Each (λ (l : Letter). IsActor config l.to) letters
    → Each (λ (e : Envelope). IsActor config e.to) (envelopes_of from event commits (map output_of letters))
unfolding output_of
letters_go config from event commits [] h = tt
letters_go config from event commits (letter ∷ letters) h = (h.0, letters_go config from event commits letters h.1)
