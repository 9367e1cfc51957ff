use Rattle.std.proofs.Common.{sym}
use Rattle.fal_script.proofs.Colon.{halves_some, halves_none}
use Rattle.fal_script.proofs.arguments.halves.Goals as goal

pub returns-in-Some : goal.returns-in-Some
returns-in-Some c = halves_some c.args.word.now c.split_at.result.0.now c.split_at.result.1.now c.split_at-in-Some.result.1.now c.in-Some.at (sym c.in-Some.ensures) c.split_at.ensures.front c.split_at.ensures.back c.split_at-in-Some.ensures.back

pub returns-in-None : goal.returns-in-None
returns-in-None c = halves_none c.args.word.now (sym c.in-None.ensures)
