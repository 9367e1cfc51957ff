-- The rows of the nodes at hand are those of the run, and so the tree that its commits leave.
use Rattle.std.proofs.Common.{◌≡◌, ℕ, suc, ◌+◌, List, [], ◌∷◌, length, map, Some, None, refl, ap, ◌∙◌, arith}
use Rattle.std.specs.Prelude.{slice_get}
use Rattle.std.specs.List.{range_with_len}
use Rattle.fal_base.specs.declared.call.Config.{Config}
use Rattle.fal_base.specs.declared.event.Event.{Event}
use Rattle.fal_base.specs.Tree.{Tree}
use Rattle.fal_client.specs.State.{ClientState}
use Rattle.fal_coord.specs.State.{CoordState}
use Rattle.fal_node.specs.Patch.{SeenNode}
use Rattle.fal_node.specs.State.{NodeState}
use Rattle.fal_story.proofs.Trees.RowsOnce.{rows_once}
use Rattle.fal_story.proofs.Trees.TreeRows.{rows_are_told}
use Rattle.fal_story.specs.AllRows.{AreOnce, all_rows, tree_left}
use Rattle.fal_story.specs.Fresh.{IsQuiet, IsQuietAt, came}
use Rattle.fal_story.specs.Run.{IsLegal, run}
use Rattle.fal_story.specs.Told.{Told}
use Rattle.fal_story.specs.World.{World}
use Rattle.fal_alone.specs.Queues.{QueueSeen}
use Rattle.fal_alone.specs.NodeRows.{rows_in, rows_at}
use Rattle.fal_alone.specs.Turns.{world_of}
use Rattle.fal_alone.specs.Whole.{IsWhole, IsWholeAt}

-- nodes that have these rows by number, from a first number on, have them in that order
pub rows_by_number : (nodes : List SeenNode) (rows : ℕ → Tree) (from : ℕ) → ((i : ℕ) (n : SeenNode) → slice_get nodes i ≡ Some n → n.state.rows ≡ rows (from + i))
    → map (λ (n : SeenNode). n.state.rows) nodes ≡ map rows (range_with_len from (length nodes))
rows_by_number [] rows from are = refl
rows_by_number (n ∷ nodes) rows from are =
    let start : from + 0 ≡ from = omega arith in
    let here : n.state.rows ≡ rows from = are 0 n refl ∙ ap rows start in
    let rest = rows_by_number nodes rows (from + 1) (λ i m at. let next : from + suc i ≡ (from + 1) + i = omega arith in are (suc i) m at ∙ ap rows next) in
    (λ i. here i ∷ rest i)

-- the rows of a whole cluster's nodes are those of its run
pub whole_rows : (config : Config) (events : List Event) (clients : List ClientState) (nodes : List SeenNode) (coord : CoordState) (queues : List QueueSeen) → IsWhole config events clients nodes coord queues
    → all_rows (map (λ (n : SeenNode). n.state.rows) nodes) ≡ rows_at config (run config events)
whole_rows config events clients nodes coord queues whole =
    elim (run config events) as (λ o. IsWholeAt (length config.lanes) o (came events) clients nodes coord queues → all_rows (map (λ (n : SeenNode). n.state.rows) nodes) ≡ rows_at config o) [
      | None ↦ λ is. absurd is
      | Some w ↦ λ is.
          ap all_rows (rows_by_number nodes (λ n. (w.nodes n).rows) 0 (λ i n there. let same : i ≡ 0 + i = omega arith in ap (λ (s : NodeState). s.rows) (is.nodes_are i n there) ∙ ap (λ k. (w.nodes k).rows) same))
          ∙ ap (λ count. all_rows (map (λ n. (w.nodes n).rows) (range_with_len 0 count))) whole.nodes_count
    ] whole.at

-- after a legal run that leaves a quiet cluster the rows of the nodes are the tree that the commits leave
pub quiet_rows : (told : Told) → IsLegal told.config told.events
    → (w : World) → world_of told ≡ Some w → IsQuiet told.config w (came told.events) → rows_in told.config w ≡ tree_left told.config told.events
quiet_rows told legal w at quiet = rows_are_told told.config told.events w legal at quiet.coord

pub quiet_rows_at : (told : Told) → IsLegal told.config told.events → IsQuietAt told.config (world_of told) (came told.events) → rows_at told.config (world_of told) ≡ tree_left told.config told.events
quiet_rows_at told legal quiet =
    elim (world_of told) as (λ o. world_of told ≡ o → IsQuietAt told.config o (came told.events) → rows_at told.config o ≡ tree_left told.config told.events) [
      | None ↦ λ _ is. absurd is
      | Some w ↦ λ at is. quiet_rows told legal w at is
    ] refl quiet

-- and no two nodes have a row under the same key
pub quiet_once : (told : Told) → IsLegal told.config told.events
    → (w : World) → world_of told ≡ Some w → IsQuiet told.config w (came told.events) → AreOnce w
quiet_once told legal w at quiet = rows_once told.config told.events w legal at
