use Rattle.std.proofs.Common.{◌≡◌, ℕ, List, Option, ◌||◌, ◌==◌, length, nat_lt, ap, ◌++◌, ◌∙◌, map, rules, tests}
use Rattle.std.specs.Iterator.{Drains}
use Rattle.std.proofs.lemmas.Iterator.{YieldsList, items_from_drains}
use Rattle.std.proofs.lemmas.Iterator.Consumers.{YieldsList-at, YieldsList-from_filter}
use Rattle.std.proofs.lemmas.Iterator.Splits.{YieldsList-from_slice_split}
use Rattle.fal_script.specs.Words.{words_of}
use Rattle.fal_script.proofs.words.words_of.Goals as goal

-- all that the iterator gives is put
drained : {S A B : Type 0} {steps : S → Option A → S → Type 0} {v : A → B} {from start : S} {all : List B} (xs : List A) → Drains steps from xs → from ≡ start → YieldsList steps v start all → map v xs ≡ all
drained xs d same road = items_from_drains xs (d.1.0, d.1.1, λ u. (d.0, d.1.2)) (YieldsList-at same road)

-- the parts between spaces and tabs, those that are not empty
pub returns : goal.returns
unfolding words_of
returns c =
    let ran = c.in_ok-extend.ensures.ran in
    ap (map (λ w. w.now)) (ran.3.0 ∙ ap (λ l. l ++ ran.1) c.in_ok-words.ensures.items)
    ∙ drained ran.1 ran.4 ran.2
    (YieldsList-from_filter _ (λ (part : List ℕ). nat_lt 0 (length part))
    (YieldsList-at c.filter-parts.ensures.source (YieldsList-from_slice_split _ (λ b. b == 32 || b == 9) c.args.line.now c.split.ensures.rest c.split.ensures.done c.split.ensures.closure (λ x b q k. search (rules, tests))))
    c.filter-parts.ensures.closure (λ x r q k. search (rules, tests)))
