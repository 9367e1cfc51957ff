use Rattle.std.proofs.Common.{◌+◌, ◌-◌, ◌/◌, ◌<◌, sym, subst, arith}
use Rattle.fal_base.specs.declared.event.Envelope.{Envelope}
use Rattle.fal_story.proofs.Histories.Orders.{arrived_past}
use Rattle.fal_story.proofs.inbox.place_from.Goals as goal

pub loop-low-preserved-then-sent-middle : goal.loop-low-preserved-then-sent-middle
loop-low-preserved-then-sent-middle c = record {
  order = omega arith;
  within = c.loop-low.invariant.within;
  past = arrived_past c.args.from (c.loop-low.low + (c.loop-low.high - c.loop-low.low) / 2) c.args.sent.now c.index-sent-middle.result c.requires (omega arith) c.index-sent-middle.is
      (subst (λ (e : Envelope). e.sent_at < c.args.from) (sym c.index-sent-middle.is) c.if-sent-middle.true);
}
