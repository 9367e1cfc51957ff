use Rattle.fal_script.proofs.ReadBack.Script.{text_read_back}
use Rattle.fal_script.proofs.printing.print.Goals as goal

pub returns-clause-read_back : goal.returns-clause-read_back
returns-clause-read_back c = text_read_back c.args.script.now c.in_ok-text.text.items c.in_ok-text.ensures
