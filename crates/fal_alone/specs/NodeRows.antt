-- The rows of a cluster's nodes.
use Rattle.std.specs.Prelude.{[], map, Option, Some, None}
use Rattle.std.specs.List.{range_with_len}
use Rattle.fal_base.specs.declared.call.Config.{Config}
use Rattle.fal_base.specs.Tree.{Tree}
use Rattle.fal_story.specs.AllRows.{all_rows}
use Rattle.fal_story.specs.World.{World}

-- the rows of all nodes, from node 0 on, as one tree
abbrev pub rows_in : Config → World → Tree
rows_in config w = all_rows (map (λ number. (w.nodes number).rows) (range_with_len 0 config.nodes))

-- those of a run
abbrev pub rows_at : Config → Option World → Tree
rows_at config None = []
rows_at config (Some w) = rows_in config w
