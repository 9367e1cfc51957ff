-- The calls of a cluster, and to whom each of them goes.
use Rattle.std.proofs.Common.{◌≡◌, ◌≢◌, ◌∙◌, ℕ, zero, suc, List, [], ◌∷◌, Option, Some, None, refl, sym, ap, subst, arith}
use Rattle.std.specs.Prelude.{slice_get}
use Rattle.std.specs.List.{All}
use Rattle.std.proofs.lemmas.Option.{same_Some}
use Rattle.fal_base.specs.declared.call.Call.{Call}
use Rattle.fal_base.specs.declared.call.Config.{Config}
use Rattle.fal_base.specs.declared.event.Actor.{Actor}
use Rattle.fal_base.specs.declared.event.Actor.TheVariants.{Client, Node, Coord}
use Rattle.fal_base.specs.declared.op.Op.{Op}
use Rattle.fal_base.specs.declared.op.Op.TheVariants as op
use Rattle.fal_base.specs.declared.path.PathArg.{PathArg}
use Rattle.fal_base.specs.declared.path.PathArg.TheVariants.{Good as GoodPath, Bad}
use Rattle.fal_base.specs.OpPaths.{bad_path, fault_of, first_of}
use Rattle.fal_base.specs.Transcript.{call_of, numbered, lane_call}
use Rattle.fal_client.specs.Paths.{addressee, node_for}
use Rattle.fal_place.specs.Placement.{Placement, route}
use Rattle.fal_wire.specs.Names.{path_arg_field}
use Rattle.fal_wire.specs.Ops.{op_field, path_and_mode, path_and_want, path_and_owner, path_and_size, two_paths}
use Rattle.fal_story.proofs.View.{seat}
use Rattle.fal_story.specs.Clusters.{IsCluster, IsCall}

all_at : {A : Type 0} (P : A → Type 0) (xs : List A) (k : ℕ) (y : A) → All P xs → slice_get xs k ≡ Some y → P y
all_at P [] k y h e = absurd (cc)
all_at P (x ∷ xs) zero y h e = subst P (same_Some x y e) (h 0 x (omega arith))
all_at P (x ∷ xs) (suc k) y h e = all_at P xs k y (λ i d lt. h (suc i) d (omega arith)) e

all_of : {A : Type 0} (P : A → Type 0) (xs : List A) (s : ℕ) (y : A) → All P xs → numbered xs s ≡ Some y → P y
all_of P xs zero y h e = absurd (cc)
all_of P xs (suc k) y h e = all_at P xs k y h e

lane_is : (found : Option (List Call)) (s : ℕ) (call : Call) → ((calls : List Call) → found ≡ Some calls → All IsCall calls) → lane_call found s ≡ Some call → IsCall call
lane_is None s call all is = absurd (cc)
lane_is (Some calls) s call all is = all_of IsCall calls s call (all calls refl) is

-- each call of a cluster that may run is such a one
pub call_is : (config : Config) (l s : ℕ) (call : Call) → IsCluster config → call_of config l s ≡ Some call → IsCall call
call_is config l s call cluster is = lane_is (numbered config.lanes l) s call (λ calls e. all_of (λ calls. All IsCall calls) config.lanes l calls cluster.calls e) is

node_on : (table : Placement) (path : PathArg) → (n : ℕ) × (node_for table path ≡ Node n)
node_on table (GoodPath names) = (route table names, refl)
node_on table (Bad fault raw) = (0, refl)

-- a call on a path goes to a node
node_at : (table : Placement) (path : PathArg) → (n : ℕ) × (seat (node_for table path) ≡ Node n)
node_at table path = let to = node_on table path in (to.0, ap seat to.1)

-- who has a node's seat is that node
pub node_seat : (a : Actor) (m : ℕ) → m ≢ 255 → seat a ≡ Node m → a ≡ Node m
node_seat (Client lane) m other e = absurd (cc)
node_seat (Node n) m other e = e
node_seat Coord m other e = absurd (other (same_node (sym e)))
  where
    same_node : {a b : ℕ} → Node a ≡ Node b → a ≡ b
    same_node e = cc

-- a call goes to a node, or to the coordinator at its seat
pub seated_at : (table : Placement) (call : Op) → (n : ℕ) × (seat (addressee table call) ≡ Node n)
unfolding addressee
seated_at table (op.Mkdir path mode) = node_at table path
seated_at table (op.Create path mode) = node_at table path
seated_at table (op.Stat path) = node_at table path
seated_at table (op.Access path want) = node_at table path
seated_at table (op.Truncate path size) = node_at table path
seated_at table (op.Unlink path) = node_at table path
seated_at table (op.Chmod path mode) = node_at table path
seated_at table (op.Chown path uid gid) = node_at table path
seated_at table (op.Rmdir path) = (255, refl)
seated_at table (op.Rename old new) = (255, refl)
seated_at table (op.Place name rule) = (255, refl)
seated_at table (op.List path) = node_at table path

-- a path that a record can hold is a good one
good_of : (path : PathArg) → path_arg_field.Fits path → fault_of path ≡ None
unfolding path_arg_field
good_of (GoodPath names) fits = refl
good_of (Bad fault raw) fits = absurd fits

-- so a call that a record can hold has good paths
pub good_path : (o : Op) → op_field.Fits o → bad_path o ≡ None
unfolding op_field path_and_mode path_and_want path_and_owner path_and_size two_paths bad_path
good_path (op.Mkdir path mode) fits = good_of path fits.0
good_path (op.Create path mode) fits = good_of path fits.0
good_path (op.Stat path) fits = good_of path fits
good_path (op.Access path want) fits = good_of path fits.0
good_path (op.Chmod path mode) fits = good_of path fits.0
good_path (op.Chown path uid gid) fits = good_of path fits.0
good_path (op.Truncate path size) fits = good_of path fits.0
good_path (op.Unlink path) fits = good_of path fits
good_path (op.Rmdir path) fits = good_of path fits
good_path (op.Rename old new) fits = ap (λ f. first_of f (fault_of new)) (good_of old fits.0) ∙ good_of new fits.1
good_path (op.Place name rule) fits = refl
good_path (op.List path) fits = good_of path fits
