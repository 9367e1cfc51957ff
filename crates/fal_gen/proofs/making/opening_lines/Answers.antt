use Rattle.std.proofs.Common.{◌≡◌, ℕ, ◌+◌, List, [], ◌∷◌, ◌++◌, sym, ap, ◌∙◌, arith}
use Rattle.std.proofs.lemmas.List.FromFn.{map-range_with_len_more}
use Rattle.fal_base.specs.declared.op.Op.TheVariants.{Mkdir}
use Rattle.fal_script.specs.declared.script.ScriptCall.{ScriptCall}
use Rattle.fal_gen.specs.Lines.{root_line, opening_line, opening_lines}
use Rattle.fal_gen.proofs.making.opening_lines.Goals as goal

-- one lane more
next_opening : (place : ℕ) (lines next : List ScriptCall) (line : ScriptCall) → lines ≡ opening_lines place → line ≡ opening_line (place + 1) → next ≡ lines ++ line ∷ [] → next ≡ opening_lines (place + 1)
next_opening place lines next line before is last =
    last ∙ ap (λ ls. ls ++ line ∷ []) before ∙ ap (λ l. opening_lines place ++ l ∷ []) is ∙ sym (map-range_with_len_more opening_line 1 place (place + 1) (omega arith))

pub loop-place-preserved : goal.loop-place-preserved
loop-place-preserved c =
    next_opening c.loop-place.place c.loop-place.lines c.push.new.self c.root_line.result c.loop-place.invariant
    (c.root_line.ensures ∙ ap (λ path. root_line (c.loop-place.place + 1) (Mkdir path 493)) c.in_ok-path.ensures) c.in_ok-push.ensures.ok
