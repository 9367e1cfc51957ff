use Rattle.std.proofs.Common.{ℕ, List, length, nat_lt, ◌==◌, rules, tests}
use Rattle.std.proofs.lemmas.Iterator.Search.{any_from_yields_List}
use Rattle.std.proofs.lemmas.Iterator.Consumers.{YieldsList-at, YieldsList-from_filter}
use Rattle.std.proofs.lemmas.Iterator.Splits.{YieldsList-from_slice_split}
use Rattle.fal_base.proofs.path.has_long_name.Goals as goal

-- the pieces between slashes, those that are not empty, and a test of each
pub returns : goal.returns
returns c =
    any_from_yields_List (λ (name : List ℕ). nat_lt 255 (length name)) _ _ _ c.any.ensures.ran
    (YieldsList-from_filter _ (λ (part : List ℕ). nat_lt 0 (length part))
    (YieldsList-at c.filter.ensures.source (YieldsList-from_slice_split _ (λ b. b == 47) c.args.bytes.now c.split.ensures.rest c.split.ensures.done c.split.ensures.closure (λ x b q k. search (rules, tests))))
    c.filter.ensures.closure (λ x r q k. search (rules, tests)))
    (λ x b q k. search (rules, tests))
