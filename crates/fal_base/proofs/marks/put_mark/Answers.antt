use Rattle.std.proofs.Common.{◌≡◌, ◌≢◌, ◌<◌, ℕ, length, get_or, arith, ap, sym, ◌∙◌}
use Rattle.std.proofs.lemmas.Grind.{common_steps}
use Rattle.std.proofs.lemmas.List.{get_or_default}
use Rattle.fal_base.specs.declared.mark.Mark.{Mark}
use Rattle.fal_base.specs.Marks.{mark_place}
use Rattle.fal_base.proofs.MarkPlaces.{put_at, put_new_at}
use Rattle.fal_base.proofs.marks.put_mark.Goals as goal
use Rattle.fal_base.proofs.marks.put_mark.Goals.{else-at-len-via-then-at-len+else-client-index, else-at-len-via-else-at-len}

pub returns-then-client-index-clause-marks : goal.returns-then-client-index-clause-marks
returns-then-client-index-clause-marks c =
    let ms = c.args.marks.now.items in
    let place : c.place-at.result ≡ mark_place c.args.client ms = c.place-at.ensures.place ∙ ap (mark_place c.args.client) c.deref.ensures.value in
    let within : c.place-at.result < length ms = grind (arith, common_steps) in
    let read : c.index.result.now ≡ c.index_mut.result.now = c.index.ensures ∙ get_or_default ms c.place-at.result c.index.result.now c.index_mut.result.now within ∙ sym c.index_mut.ensures.value in
    put_at c.args.client c.args.mark ms c.place-at.result c.index_mut.result.now place within c.index_mut.ensures.value (c.if-client-index.true ∙ ap (λ (m : ℕ × Mark). m.0) read)

pub returns-in-Ok-clause-marks : goal.returns-in-Ok-clause-marks
returns-in-Ok-clause-marks c =
    let ms = c.args.marks.now.items in
    let place : c.place-at.result ≡ mark_place c.args.client ms = c.place-at.ensures.place ∙ ap (mark_place c.args.client) c.deref.ensures.value in
    let d : ℕ × Mark = (c.args.client, c.args.mark) in
    let apart : c.place-at.result < length ms → c.args.client ≢ (get_or ms c.place-at.result d).0 = λ lt. elim c.else-at-len.branch [
      | else-at-len-via-then-at-len+else-client-index w ↦ λ same. w.if-client-index.false (same ∙ ap (λ (m : ℕ × Mark). m.0) (get_or_default ms c.place-at.result d w.index.result.now lt ∙ sym w.index.ensures))
      | else-at-len-via-else-at-len w ↦ absurd (grind (arith, common_steps))
    ] in
    c.in-Ok.ensures.items ∙ put_new_at c.args.client c.args.mark ms c.place-at.result d place apart
