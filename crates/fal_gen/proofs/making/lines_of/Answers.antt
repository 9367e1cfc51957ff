use Rattle.std.proofs.Common.{◌≡◌, ℕ, suc, ◌+◌, ◌-◌, List, [], ◌∷◌, ◌++◌, sym, ap, ◌∙◌, append_assoc, append-nil, arith}
use Rattle.rand_core.specs.Steps.{first_words}
use Rattle.rand_pcg.specs.Lcg.{Lcg}
use Rattle.rand_pcg.specs.Pcg.{pcg32}
use Rattle.fal_script.specs.declared.script.ScriptCall.{ScriptCall}
use Rattle.fal_gen.specs.Lines.{line_by, lines_from}
use Rattle.fal_gen.proofs.making.lines_of.Goals as goal

-- one call more is the first of those that were still to come
next_line : (left number : ℕ) (lines next : List ScriptCall) (line : ScriptCall) (source after : Lcg) (word : ℕ) → (word, after) ≡ pcg32 source → line ≡ line_by number word → next ≡ lines ++ line ∷ []
    → next ++ lines_from (number + 1) (first_words pcg32 left after) ≡ lines ++ lines_from number (first_words pcg32 (suc left) source)
unfolding first_words
next_line left number lines next line source after word drew is last =
    let rest = lines_from (number + 1) (first_words pcg32 left after) in
    ap (λ ls. ls ++ rest) last
    ∙ append_assoc lines (line ∷ []) rest
    ∙ ap (λ l. lines ++ l ∷ rest) is
    ∙ ap (λ (drawn : ℕ × Lcg). lines ++ line_by number drawn.0 ∷ lines_from (number + 1) (first_words pcg32 left drawn.1)) drew

-- with none to come, these are all
no_line : (number : ℕ) (lines : List ScriptCall) (source : Lcg) → lines ≡ lines ++ lines_from number (first_words pcg32 0 source)
unfolding first_words
no_line number lines source = sym (append-nil lines)

same_left : (number : ℕ) (lines : List ScriptCall) (source : Lcg) (left more : ℕ) → left ≡ more → lines ++ lines_from number (first_words pcg32 left source) ≡ lines ++ lines_from number (first_words pcg32 more source)
same_left number lines source left more same = ap (λ n. lines ++ lines_from number (first_words pcg32 n source)) same

pub loop-number-preserved : goal.loop-number-preserved
loop-number-preserved c =
    let low = c.loop-number-test.true in (
      omega arith,
      next_line (c.args.size - (c.loop-number.number + 1)) c.loop-number.number c.loop-number.lines c.push.new.self c.in_ok-line_by.field-0 c.loop-number.source c.next_word.new.self c.next_word.result c.next_word.ensures c.in_ok-line_by.ensures c.in_ok-push.ensures.ok
          ∙ same_left c.loop-number.number c.loop-number.lines c.loop-number.source (suc (c.args.size - (c.loop-number.number + 1))) (c.args.size - c.loop-number.number) (omega arith)
          ∙ c.loop-number.invariant.1,
    )

pub returns : goal.returns
returns c =
    no_line c.loop-number.number c.loop-number.lines c.loop-number.source
    ∙ same_left c.loop-number.number c.loop-number.lines c.loop-number.source 0 (c.args.size - c.loop-number.number) (omega arith)
    ∙ c.loop-number.invariant.1
