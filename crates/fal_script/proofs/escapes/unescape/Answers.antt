use Rattle.fal_script.proofs.Unescaped.{next_byte}
use Rattle.fal_script.proofs.escapes.unescape.Goals as goal

pub loop-rest-preserved : goal.loop-rest-preserved
loop-rest-preserved c = next_byte c.loop-rest.bytes.items c.push.new.self.items c.args.word.now c.loop-rest.rest.now c.in-Some.after.now c.in-Some.byte c.loop-rest.invariant c.in-Some.ensures.0 c.in_ok-push.ensures.items
