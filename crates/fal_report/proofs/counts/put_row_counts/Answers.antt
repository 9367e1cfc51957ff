-- Both counts, one after the other.
use Rattle.std.proofs.Common.{codes}
use Rattle.fal_report.proofs.Pieces.{after_piece, count-is}
use Rattle.fal_report.proofs.counts.put_row_counts.Goals as goal

pub returns : goal.returns
returns c =
    after_piece c.args.out.now.items c.put_count.new.out.items c.put_count-2.new.out.items _ _
    (count-is _ _ (codes "directories") _ _ c.in_ok-put_count.ensures c.directories.ensures)
    (count-is _ _ (codes "files") _ _ c.in_ok-put_count-2.ensures c.files.ensures)
