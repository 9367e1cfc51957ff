use Rattle.std.proofs.Common.{◌+◌, ◌<◌, ◌≤◌, ◌&&◌, length, drop, filter_map, sym, ap, ◌∙◌, arith}
use Rattle.std.specs.List.{list_all}
use Rattle.fal_wait.specs.Waiting.{free_tickets}
use Rattle.fal_batch.specs.Plan.{no_plan, is_skipped, free_call, free_calls}
use Rattle.fal_batch.specs.Seen.{site_seen}
use Rattle.fal_batch.proofs.Empty.{idle_calls}
use Rattle.fal_batch.proofs.Skipped.{from_place, past_place}
use Rattle.fal_batch.proofs.idle.are_all_skipped.Goals as goal

pub returns-then-not-is_place_skipped : goal.returns-then-not-is_place_skipped
returns-then-not-is_place_skipped c =
    let s = site_seen c.args.site.now in
    let list = c.args.waiting.now.list in
    let at = c.loop-at.at in
    let within : at < length (free_tickets list) = omega arith in
    let rest = list_all (λ w. is_skipped s w.call) (filter_map (λ ticket. free_call list ticket) (drop (at + 1) (free_tickets list))) in
    sym (idle_calls s no_plan (free_calls list) ∙ sym c.loop-at.invariant ∙ from_place s (λ ticket. free_call list ticket) (free_tickets list) at within
    ∙ ap (λ b. b && rest) (sym c.if-not-is_place_skipped.ensures))

pub loop-at-preserved : goal.loop-at-preserved
loop-at-preserved c =
    let s = site_seen c.args.site.now in
    let list = c.args.waiting.now.list in
    let at = c.loop-at.at in
    let within : at < length (free_tickets list) = omega arith in
    let rest = list_all (λ w. is_skipped s w.call) (filter_map (λ ticket. free_call list ticket) (drop (at + 1) (free_tickets list))) in
    sym (from_place s (λ ticket. free_call list ticket) (free_tickets list) at within ∙ ap (λ b. b && rest) (sym c.if-not-is_place_skipped.ensures)) ∙ c.loop-at.invariant

pub returns : goal.returns
returns c =
    let s = site_seen c.args.site.now in
    let list = c.args.waiting.now.list in
    let at = c.loop-at.at in
    let end : length (free_tickets list) ≤ at = omega arith in
    sym (idle_calls s no_plan (free_calls list) ∙ sym c.loop-at.invariant ∙ past_place s (λ ticket. free_call list ticket) (free_tickets list) at end)
