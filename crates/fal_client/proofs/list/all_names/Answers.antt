use Rattle.std.proofs.Common.{◌++◌, ap, ◌∙◌}
use Rattle.fal_client.specs.Names.{sorted_names}
use Rattle.fal_client.specs.Parts.{names_of}
use Rattle.fal_client.proofs.Sorting.{names_sorted}
use Rattle.fal_client.proofs.list.all_names.Goals as goal

pub returns : goal.returns
returns c =
    c.from_items.ensures
    ∙ names_sorted c.append_names.new.names.items c.sort.new.self.items c.in_ok-sort.ensures.permutation c.in_ok-sort.ensures.sorted
    ∙ ap sorted_names (c.in_ok-append_names.ensures ∙ ap (λ names. names ++ names_of c.args.parts.now) c.into_items-names.ensures)
