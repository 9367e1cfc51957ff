use Rattle.std.specs.Prelude.{codes}
use Rattle.fal_report.specs.Counts.{count_text}
use Rattle.fal_script.specs.Printed.{script_header_text}
use Rattle.fal_script.proofs.Pieces.{three_pieces}
use Rattle.fal_script.proofs.printing.put_header.Goals as goal

pub returns : goal.returns
unfolding script_header_text
returns c =
    three_pieces c.args.out.now.items c.extend_from_slice.new.self.items c.put_count.new.out.items c.put_count-2.new.out.items (codes "falcon-script 1\n") (count_text (codes "nodes") c.args.script.now.nodes)
    (count_text (codes "lanes") c.args.script.now.lanes) c.in_ok-extend_from_slice.ensures.items c.in_ok-put_count.ensures c.in_ok-put_count-2.ensures
