use Rattle.std.proofs.Common.{refl, sym}
use Rattle.fal_script.proofs.FirstLine.{cut_some, cut_all}
use Rattle.fal_script.proofs.lines.cut.Goals as goal

pub returns-in-Some : goal.returns-in-Some
returns-in-Some c = cut_some c.args.bytes.now c.split_at.result.0.now c.split_at.result.1.now c.split_at-in-Some.result.1.now c.in-Some.at c.in-Some.ensures c.split_at.ensures.front c.split_at.ensures.back c.split_at-in-Some.ensures.back

pub returns-in-None : goal.returns-in-None
returns-in-None c = cut_all c.args.bytes.now c.split_at-in-None.result.0.now c.split_at-in-None.result.1.now _ (sym (c.if-is_empty.ensures)) c.in-None.ensures refl c.split_at-in-None.ensures.front c.split_at-in-None.ensures.back
