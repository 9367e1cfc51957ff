-- The whole text of a run: how it was set, its entries in recorded order, the tree that it left, and the summary.
use Rattle.std.specs.Prelude.{ℕ, List, ◌++◌, length, codes}
use Rattle.std.specs.List.{flat_map}
use Rattle.fal_base.specs.declared.call.Config.{Config}
use Rattle.fal_base.specs.declared.entry.Entry.{Entry}
use Rattle.fal_base.specs.declared.row.TreeLine.{TreeLine}
use Rattle.fal_report.specs.Counts.{count_text, entry_counts, row_counts}
use Rattle.fal_report.specs.Entries.{entry_text}
use Rattle.fal_report.specs.Rows.{tree_text}

-- the summary alone: six numbers
unfoldable pub summary_text : List Entry → List TreeLine → List ℕ
summary_text entries rows = entry_counts entries ++ row_counts rows

unfoldable pub header_text : Config → List ℕ
header_text config = codes "falcon-transcript 1\n" ++ count_text (codes "nodes") config.nodes ++ count_text (codes "lanes") (length config.lanes)

unfoldable pub transcript_text : Config → List Entry → List TreeLine → List ℕ
transcript_text config entries rows = header_text config ++ flat_map (entry_text config) entries ++ tree_text rows ++ summary_text entries rows
