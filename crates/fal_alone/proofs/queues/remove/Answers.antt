use Rattle.std.proofs.Common.{rules, get_or, sym, arith}
use Rattle.std.proofs.lemmas.Option.{slice_get-get_or}
use Rattle.fal_alone.proofs.Places.{takes, takes_none, room_set}
use Rattle.fal_alone.proofs.queues.remove.Goals as goal

pub returns-in-Some-clause-items : goal.returns-in-Some-clause-items
returns-in-Some-clause-items c = λ came envelopes sent h.
    let queues = c.args.queues.now in
    let i = c.in-Some.i in
    let p = get_or queues i c.index-queues-i.result in
    let at = slice_get-get_or queues i c.index-queues-i.result (search rules) in
    takes c.args.lanes c.args.nodes c.args.number i came envelopes c.args.to queues p c.take.new.self c.requires.size (sym c.in-Some.ensures) at c.take.ensures.items sent h

pub returns-in-Some-clause-room : goal.returns-in-Some-clause-room
returns-in-Some-clause-room c = λ n h.
    let queues = c.args.queues.now in
    let i = c.in-Some.i in
    let p = get_or queues i c.index-queues-i.result in
    let at = slice_get-get_or queues i c.index-queues-i.result (search rules) in
    let before = h i p at in
    let less = c.take.ensures.room in
    room_set n n queues i p c.take.new.self at h (omega arith) (omega arith)

pub returns-in_default-clause-items : goal.returns-in_default-clause-items
returns-in_default-clause-items c = λ came envelopes sent h. takes_none c.args.lanes c.args.nodes c.args.number came envelopes c.args.to c.args.queues.now c.requires.size (sym c.in_default.ensures) sent h
