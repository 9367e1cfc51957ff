use Rattle.std.proofs.Common.{◌∙◌, Ok, Err, IsSome, subst, arith, inl, inr}
use mathlib.Core.Bool.{false≢true}
use Rattle.fal_base.specs.Maps.{IsPlace}
use Rattle.fal_base.proofs.Places.{set_at, insert_at, absent_at}
use Rattle.fal_base.proofs.key_map.put_value.Goals as goal

pub unreachable-requires : goal.unreachable-requires
unreachable-requires g c =
    let es = c.args.entries.now.items in
    let place = subst (λ es. IsPlace c.args.key es (Err c.in-Err.at)) c.deref.ensures.value c.in-Err.ensures in
    elim c.requires.room [
      | inl room ↦ omega (arith, c.in_default.ensures.full)
      | inr found ↦ absurd (false≢true (subst IsSome (absent_at c.args.key es _ c.requires.in_order place) found))
    ]

pub returns-in-Ok-clause-items : goal.returns-in-Ok-clause-items
returns-in-Ok-clause-items g c =
    let place = subst (λ es. IsPlace c.args.key es (Ok c.in-Ok.at)) c.deref.ensures.value c.in-Ok.ensures in
    set_at c.args.key c.args.value c.args.entries.now.items _ _ place c.index_mut.ensures.value

pub returns-in-Ok-insert-clause-items : goal.returns-in-Ok-insert-clause-items
returns-in-Ok-insert-clause-items g c =
    let place = subst (λ es. IsPlace c.args.key es (Err c.in-Err.at)) c.deref.ensures.value c.in-Err.ensures in
    c.in-Ok-insert.ensures.items ∙ insert_at c.args.key c.args.value c.args.entries.now.items _ place

pub returns-in-Ok-insert-clause-kept : goal.returns-in-Ok-insert-clause-kept
returns-in-Ok-insert-clause-kept g c found =
    let es = c.args.entries.now.items in
    let place = subst (λ es. IsPlace c.args.key es (Err c.in-Err.at)) c.deref.ensures.value c.in-Err.ensures in
    absurd (false≢true (subst IsSome (absent_at c.args.key es _ c.requires.in_order place) found))
