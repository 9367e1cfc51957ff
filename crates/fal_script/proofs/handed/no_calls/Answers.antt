use Rattle.std.proofs.Common.{ap, ◌∙◌, ◌+◌, ◌∷◌, ◌++◌, [], sym, arith}
use Rattle.std.proofs.lemmas.List.FromFn.{map-range_with_len_more}
use Rattle.fal_script.specs.Configs.{lane_calls, lanes_of_script}
use Rattle.fal_script.proofs.handed.no_calls.Goals as goal

pub loop-preserved : goal.loop-preserved
loop-preserved c =
    c.in_ok-push.ensures.items
    ∙ ap (λ ls. ls ++ c.new.result ∷ []) c.loop.invariant
    ∙ ap (λ cs. lanes_of_script [] c.loop.counter ++ cs ∷ []) c.new.ensures
    ∙ sym (map-range_with_len_more (λ lane. lane_calls [] lane) 1 c.loop.counter (c.loop.counter + 1) (omega arith))
