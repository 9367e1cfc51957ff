use Rattle.std.proofs.Common.{rules, get_or, sym, arith}
use Rattle.std.proofs.lemmas.Option.{slice_get-get_or}
use Rattle.fal_alone.proofs.Places.{gives, gives_none, room_set}
use Rattle.fal_alone.proofs.queues.give.Goals as goal

pub returns-in-Some-clause-items : goal.returns-in-Some-clause-items
returns-in-Some-clause-items c = λ numbers h.
    let queues = c.args.queues.now in
    let i = c.in-Some.i in
    let p = get_or queues i c.index-queues-i.result in
    let at = slice_get-get_or queues i c.index-queues-i.result (search rules) in
    gives c.args.lanes c.args.nodes numbers c.args.to c.args.number i queues p c.push.new.self c.requires.size (sym c.in-Some.ensures) at c.push.ensures.items h

pub returns-in-Some-clause-room : goal.returns-in-Some-clause-room
returns-in-Some-clause-room c = λ n h.
    let queues = c.args.queues.now in
    let i = c.in-Some.i in
    let p = get_or queues i c.index-queues-i.result in
    let at = slice_get-get_or queues i c.index-queues-i.result (search rules) in
    let before = h i p at in
    let less = c.push.ensures.room in
    room_set _ n queues i p c.push.new.self at h (omega arith) (omega arith)

pub returns-in_default-clause-items : goal.returns-in_default-clause-items
returns-in_default-clause-items c = λ numbers h. gives_none c.args.lanes c.args.nodes numbers c.args.to c.args.number c.args.queues.now c.requires.size (sym c.in_default.ensures) h
