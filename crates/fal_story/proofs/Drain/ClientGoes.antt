-- Where a call goes by its client's table: to an actor that is there, which is one for it.
use Rattle.std.proofs.Common.{◌≡◌, ◌≢◌, ℕ, ◌<◌, ◌≤◌, List, [], None, IsTrue, is_some, refl, arith}
use Rattle.fal_base.specs.declared.call.Config.{Config}
use Rattle.fal_base.specs.declared.event.Actor.TheVariants.{Node}
use Rattle.fal_base.specs.declared.op.Op.{Op}
use Rattle.fal_base.specs.declared.op.Op.TheVariants as op
use Rattle.fal_base.specs.declared.path.PathArg.{PathArg}
use Rattle.fal_base.specs.declared.path.PathArg.TheVariants.{Good, Bad}
use Rattle.fal_base.specs.OpPaths.{bad_path}
use Rattle.fal_client.specs.Paths.{addressee, node_for}
use Rattle.fal_coord.specs.Walks.{is_operation}
use Rattle.fal_exec.specs.RowCall.{row_names}
use Rattle.fal_place.specs.Placement.{Placement, route}
use Rattle.fal_story.proofs.Drain.Actors.{IsActor}
use Rattle.fal_story.proofs.View.{seat}

module _ (config : Config) (table : Placement) (routes : (names : List (List ℕ)) → route table names < config.nodes) where
  node_there : (path : PathArg) → IsActor config (node_for table path)
  node_there (Good names) = routes names
  node_there (Bad fault raw) = let some = routes [] in omega arith

  -- a call goes to an actor that is there
  pub goes_there : (call : Op) → IsActor config (addressee table call)
  unfolding addressee
  goes_there (op.Mkdir path mode) = node_there path
  goes_there (op.Create path mode) = node_there path
  goes_there (op.Stat path) = node_there path
  goes_there (op.Access path want) = node_there path
  goes_there (op.Truncate path size) = node_there path
  goes_there (op.Unlink path) = node_there path
  goes_there (op.Chmod path mode) = node_there path
  goes_there (op.Chown path uid gid) = node_there path
  goes_there (op.Rmdir path) = tt
  goes_there (op.Rename old new) = tt
  goes_there (op.Place name rule) = tt
  goes_there (op.List path) = node_there path

  -- a node that is there does not sit where the coordinator does
  no_seat : (names : List (List ℕ)) (n : ℕ) → config.nodes ≤ 16 → seat (Node (route table names)) ≡ Node n → n ≢ 255
  no_seat names n few to own = let there = routes names in let here : route table names ≡ n = same_node (route table names) n to in absurd (omega arith)
    where
      same_node : (a b : ℕ) → Node a ≡ Node b → a ≡ b
      same_node a b e = cc

  seat_only : (n : ℕ) → seat (Node 255) ≡ Node n → n ≡ 255
  seat_only n to = cc

  -- what goes to the coordinator is an operation, and what goes to a node is a call that one row decides
  pub goes_suited : (call : Op) (n : ℕ) → config.nodes ≤ 16 → bad_path call ≡ None → seat (addressee table call) ≡ Node n
      → (n ≡ 255 → IsTrue (is_operation call)) × (n ≢ 255 → IsTrue (is_some (row_names call)))
  unfolding addressee bad_path
  goes_suited (op.Mkdir (Good names) mode) n few good to = ((λ own. absurd (no_seat names n few to own)), λ _. refl)
  goes_suited (op.Create (Good names) mode) n few good to = ((λ own. absurd (no_seat names n few to own)), λ _. refl)
  goes_suited (op.Stat (Good names)) n few good to = ((λ own. absurd (no_seat names n few to own)), λ _. refl)
  goes_suited (op.Access (Good names) want) n few good to = ((λ own. absurd (no_seat names n few to own)), λ _. refl)
  goes_suited (op.Chmod (Good names) mode) n few good to = ((λ own. absurd (no_seat names n few to own)), λ _. refl)
  goes_suited (op.Chown (Good names) uid gid) n few good to = ((λ own. absurd (no_seat names n few to own)), λ _. refl)
  goes_suited (op.Truncate (Good names) size) n few good to = ((λ own. absurd (no_seat names n few to own)), λ _. refl)
  goes_suited (op.Unlink (Good names)) n few good to = ((λ own. absurd (no_seat names n few to own)), λ _. refl)
  goes_suited (op.List (Good names)) n few good to = ((λ own. absurd (no_seat names n few to own)), λ _. refl)
  goes_suited (op.List (Bad fault raw)) n few good to = absurd (cc)
  goes_suited (op.Mkdir (Bad fault raw) mode) n few good to = absurd (cc)
  goes_suited (op.Create (Bad fault raw) mode) n few good to = absurd (cc)
  goes_suited (op.Stat (Bad fault raw)) n few good to = absurd (cc)
  goes_suited (op.Access (Bad fault raw) want) n few good to = absurd (cc)
  goes_suited (op.Chmod (Bad fault raw) mode) n few good to = absurd (cc)
  goes_suited (op.Chown (Bad fault raw) uid gid) n few good to = absurd (cc)
  goes_suited (op.Truncate (Bad fault raw) size) n few good to = absurd (cc)
  goes_suited (op.Unlink (Bad fault raw)) n few good to = absurd (cc)
  goes_suited (op.Rmdir (Good path)) n few good to = ((λ _. refl), λ other. absurd (other (seat_only n to)))
  goes_suited (op.Rmdir (Bad fault raw)) n few good to = absurd (cc)
  goes_suited (op.Rename (Good old) (Good new)) n few good to = ((λ _. refl), λ other. absurd (other (seat_only n to)))
  goes_suited (op.Rename (Good old) (Bad fault raw)) n few good to = absurd (cc)
  goes_suited (op.Rename (Bad fault raw) (Good new)) n few good to = absurd (cc)
  goes_suited (op.Rename (Bad fault raw) (Bad cause bytes)) n few good to = absurd (cc)
  goes_suited (op.Place name rule) n few good to = ((λ _. refl), λ other. absurd (other (seat_only n to)))
