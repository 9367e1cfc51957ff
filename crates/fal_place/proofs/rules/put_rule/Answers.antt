use Rattle.std.proofs.Common.{◌≡◌, ◌∙◌, ap, nat_lt}
use Rattle.std.specs.List.{insert, position_or_len}
use Rattle.fal_place.specs.Placement.{without_name}
use Rattle.fal_place.proofs.Rising.{insert_at_place}
use Rattle.fal_place.proofs.rules.put_rule.Goals as goal

-- the others stay, and the rule goes to its place among them
pub returns-clause-rules : goal.returns-clause-rules
returns-clause-rules c =
    let others = without_name c.args.change.name c.args.rules.now.items in
    let place : c.place_after-place.result ≡ position_or_len (λ rule. nat_lt c.args.change.version rule.version) others =
    c.place_after-place.ensures.place ∙ ap (λ xs. position_or_len (λ rule. nat_lt c.args.change.version rule.version) xs) (c.deref.ensures.value ∙ c.remove_name.ensures.rules) in
    c.in-Ok.ensures.items ∙ ap (λ xs. insert xs c.place_after-place.result c.args.change) c.remove_name.ensures.rules ∙ ap (λ at. insert others at c.args.change) place ∙ insert_at_place c.args.change others
