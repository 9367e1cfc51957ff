-- The title and both counts, one after the other.
use Rattle.std.proofs.Common.{codes}
use Rattle.fal_report.proofs.Pieces.{after_piece, count-is}
use Rattle.fal_report.specs.Transcripts.{header_text}
use Rattle.fal_report.proofs.text.put_header.Goals as goal

pub returns : goal.returns
unfolding header_text
returns c =
    after_piece c.args.out.now.items c.put_count.new.out.items c.put_count-2.new.out.items _ _
    (after_piece c.args.out.now.items c.put.new.out.items c.put_count.new.out.items (codes "falcon-transcript 1\n") _
    c.in_ok-put.ensures (count-is _ _ (codes "nodes") _ _ c.in_ok-put_count.ensures c.from.ensures))
    (count-is _ _ (codes "lanes") _ _ c.in_ok-put_count-2.ensures c.len.ensures)
