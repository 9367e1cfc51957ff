use Rattle.std.proofs.Common.{◌≤◌, ◌∙◌, rules, get_or, ⊎_elim, refl, sym, ap, subst, arith}
use Rattle.std.specs.Prelude.{slice_get, slice_set}
use Rattle.std.proofs.lemmas.Option.{same_Some, slice_get-get_or}
use Rattle.fal_story.proofs.Lists.Grown.{slice_get_below, tells}
use Rattle.fal_alone.specs.Queues.{QueueSeen}
use Rattle.fal_alone.proofs.Places.{holds_set, set_same, set_other}
use Rattle.fal_alone.proofs.queues.reserve.Goals as goal

pub returns-in_err-reserve-clause-same : goal.returns-in_err-reserve-clause-same
returns-in_err-reserve-clause-same c = λ numbers h.
    let queues = c.loop-i.queues in
    let i = c.loop-i.i in
    let p = get_or queues i c.index-queues-i.result in
    let at = slice_get-get_or queues i c.index-queues-i.result (search rules) in
    let held = c.loop-i.invariant.same numbers h in
    holds_set numbers numbers queues i p c.reserve.new.self at held (c.reserve.ensures.same ∙ held i p at) (λ j b ne. refl)

pub loop-i-preserved : goal.loop-i-preserved
loop-i-preserved c =
    let queues = c.loop-i.queues in
    let i = c.loop-i.i in
    let p = get_or queues i c.index-queues-i.result in
    let q = c.reserve.new.self in
    let at = slice_get-get_or queues i c.index-queues-i.result (search rules) in
    record {
      same = λ numbers h. let held = c.loop-i.invariant.same numbers h in holds_set numbers numbers queues i p q at held (c.reserve.ensures.same ∙ held i p at) (λ j b ne. refl);
      room = λ j x b e. ⊎_elim
          (λ s. subst (λ (z : QueueSeen). c.args.n ≤ z.spare) (same_Some q x (sym (set_same queues i p q at) ∙ ap (slice_get (slice_set queues i q)) (sym s.1) ∙ e)) c.in_ok-reserve.ensures.room)
          (λ s. c.loop-i.invariant.room j x (let ne = s.1 in omega arith) (sym (set_other queues i j q s.1) ∙ e))
          (tells j i);
    }

pub returns-clause-room : goal.returns-clause-room
returns-clause-room c = λ j q at. let b = slice_get_below c.loop-i.queues j q at in c.loop-i.invariant.room j q (omega arith) at
