-- The rows of several trees, put into one.
use Rattle.std.specs.Prelude.{◌≡◌, ℕ, List, [], ◌∷◌, length, IsSome}
use Rattle.std.specs.List.{fold}
use Rattle.fal_base.specs.declared.call.Config.{Config}
use Rattle.fal_base.specs.declared.event.Event.{Event}
use Rattle.fal_base.specs.declared.key.Key.{Key}
use Rattle.fal_base.specs.Commits.{tree_at}
use Rattle.fal_base.specs.Transcript.{commits_of}
use Rattle.fal_base.specs.Tree.{Tree, row_at, with_row}
use Rattle.fal_story.specs.Run.{transcript}
use Rattle.fal_story.specs.World.{World}

-- the tree with the rows of another one, which stand in place of its own under the same keys
abbrev pub with_tree : Tree → Tree → Tree
with_tree tree [] = tree
with_tree tree (row ∷ rows) = with_row (with_tree tree rows) row.0 row.1

-- the rows of all the trees
abbrev pub all_rows : List Tree → Tree
all_rows trees = fold with_tree [] trees

-- the tree that all commits of a run leave
abbrev pub tree_left : Config → List Event → Tree
tree_left config events = tree_at (commits_of config (transcript config events)) (length (commits_of config (transcript config events)))

-- no two nodes have a row under the same key
abbrev pub AreOnce : World → Type 0
AreOnce w = (a b : ℕ) (key : Key) → IsSome (row_at (w.nodes a).rows key) → IsSome (row_at (w.nodes b).rows key) → a ≡ b
