use Rattle.std.proofs.Common.{◌≡◌, ◌==◌, false, [], sym, ap, ◌∙◌, arith}
use Rattle.std.proofs.lemmas.Grind.{common_steps}
use Rattle.fal_batch.specs.Fate.{walk_of}
use Rattle.fal_batch.specs.Idle.{is_skipped_after}
use Rattle.fal_batch.specs.Seen.{site_seen}
use Rattle.fal_batch.proofs.Skipped.{none_skipped, skipped_walked}
use Rattle.fal_batch.proofs.idle.is_walk_skipped.Goals as goal

pub returns-in-Ready : goal.returns-in-Ready
returns-in-Ready c =
    let s = site_seen c.args.site.now in
    let names = c.args.path.now in
    c.is_last_skipped.ensures ∙ ap (λ end. is_skipped_after s names end) c.in-Ready.ensures ∙ sym (skipped_walked s names (walk_of s c.args.call.now names))

pub returns-then-is_empty : goal.returns-then-is_empty
returns-then-is_empty c =
    let s = site_seen c.args.site.now in
    let some : (s.limit == 0) ≡ false = grind arith in
    let opens : s.shut ≡ [] = grind (arith, common_steps) in
    sym (none_skipped s c.args.call.now c.args.path.now opens some)
