use Rattle.std.proofs.Common.{◌∙◌, Ok, Err, Some, sym, ap, subst}
use Rattle.fal_base.specs.Maps.{IsPlace}
use Rattle.fal_base.proofs.Places.{found_at, remove_at, absent_at, kept_at}
use Rattle.fal_base.proofs.key_map.take_value.Goals as goal

pub returns-in-Ok-clause-value : goal.returns-in-Ok-clause-value
returns-in-Ok-clause-value g c =
    let place = subst (λ es. IsPlace c.args.key.now es (Ok c.in-Ok.at)) c.deref.ensures.value c.in-Ok.ensures in
    ap (λ e. Some e.1) c.remove-key.ensures.value ∙ sym (found_at c.args.key.now c.args.entries.now.items _ c.remove-key.result place)

pub returns-in-Ok-clause-items : goal.returns-in-Ok-clause-items
returns-in-Ok-clause-items g c =
    let place = subst (λ es. IsPlace c.args.key.now es (Ok c.in-Ok.at)) c.deref.ensures.value c.in-Ok.ensures in
    c.remove-key.ensures.items ∙ remove_at c.args.key.now c.args.entries.now.items _ c.remove-key.result c.requires place

pub returns-in-Err-clause-value : goal.returns-in-Err-clause-value
returns-in-Err-clause-value g c =
    let place = subst (λ es. IsPlace c.args.key.now es (Err c.in-Err.field-0)) c.deref.ensures.value c.in-Err.ensures in
    sym (absent_at c.args.key.now c.args.entries.now.items _ c.requires place)

pub returns-in-Err-clause-items : goal.returns-in-Err-clause-items
returns-in-Err-clause-items g c =
    let place = subst (λ es. IsPlace c.args.key.now es (Err c.in-Err.field-0)) c.deref.ensures.value c.in-Err.ensures in
    sym (kept_at c.args.key.now c.args.entries.now.items _ c.requires place)
