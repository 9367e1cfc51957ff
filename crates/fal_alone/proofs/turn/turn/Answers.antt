use Rattle.std.proofs.Common.{sym, subst, arith, rules}
use Rattle.fal_story.specs.Actors.{actor_of}
use Rattle.fal_alone.specs.Turns.{world_of, with_event, NextIn}
use Rattle.fal_alone.proofs.Turns.{turns, none_made, made_none, some_made}
use Rattle.fal_alone.proofs.turn.turn.Goals as goal

pub note-requires : goal.note-requires
note-requires g c =
    let step = c.in_ok-step.step in
    (turns c.args.book.now.told c.args.event _ _ (g.R.Role.after c.prepare.new.self step.0, step.1) c.legal.ensures c.requires.is c.in_ok-step.ensures.ok).follows

pub returns-clause-next : goal.returns-clause-next
returns-clause-next g c =
    let told = c.args.book.now.told in
    let step = c.in_ok-step.step in
    subst (NextIn (world_of told) (world_of (with_event told c.args.event)) (actor_of c.args.event)) (sym c.make.ensures)
    (turns told c.args.event _ _ (g.R.Role.after c.prepare.new.self step.0, step.1) c.legal.ensures c.requires.is c.in_ok-step.ensures.ok).next

pub returns-clause-takes : goal.returns-clause-takes
returns-clause-takes g c =
    let step = c.in_ok-step.step in
    (turns c.args.book.now.told c.args.event _ _ (g.R.Role.after c.prepare.new.self step.0, step.1) c.legal.ensures c.requires.is c.in_ok-step.ensures.ok).adds.takes

pub returns-clause-room : goal.returns-clause-room
returns-clause-room g c = λ place queue at.
    let step = c.in_ok-step.step in
    let sends = (turns c.args.book.now.told c.args.event _ _ (g.R.Role.after c.prepare.new.self step.0, step.1) c.legal.ensures c.requires.is c.in_ok-step.ensures.ok).adds.sends in
    let room = c.in-Ok.ensures.room place queue at in
    omega arith

pub returns-clause-refused : goal.returns-clause-refused
returns-clause-refused g c =
    let step = c.in_ok-step.step in
    (λ is. absurd (cc), λ none. absurd (some_made c.args.book.now.told c.args.event _ _ (g.R.Role.after c.prepare.new.self step.0, step.1) c.requires.is c.in_ok-step.ensures.ok none))

pub returns-in_default-clause-refused : goal.returns-in_default-clause-refused
returns-in_default-clause-refused g c =
    let step = c.in_ok-step.step in
    (λ is. absurd (cc), λ none. absurd (some_made c.args.book.now.told c.args.event _ _ (g.R.Role.after c.prepare.new.self step.0, step.1) c.requires.is c.in_ok-step.ensures.ok none))

pub returns-in_err-step-clause-refused : goal.returns-in_err-step-clause-refused
returns-in_err-step-clause-refused g c =
    let there = c.in_err-step.ensures.refused in
    let to = none_made c.args.book.now.told c.args.event _ _ c.requires.is in
    let back = made_none c.args.book.now.told c.args.event _ _ c.requires.is in
    (λ is. to (there.0 (search rules)), λ none. let refused = there.1 (back none) in search rules)
