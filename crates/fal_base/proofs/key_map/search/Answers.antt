use Rattle.std.proofs.Common.{sym, ap, ◌∙◌, arith}
use Rattle.std.proofs.lemmas.Grind.{common_steps}
use Rattle.std.proofs.lemmas.List.{get_or_default}
use Rattle.fal_base.specs.Tree.{key_of, same_key}
use Rattle.fal_base.proofs.Places.{place_within, not_tied}
use Rattle.fal_base.proofs.key_map.search.Goals as goal
use Rattle.fal_base.proofs.key_map.search.Goals.{else-at-entries-via-then-at-entries+else-is_eq, else-at-entries-via-else-at-entries}

pub returns-else-at-entries : goal.returns-else-at-entries
returns-else-at-entries g c =
    let es = c.args.entries.now in
    let key = key_of c.args.parent c.args.name.now in
    let at = c.place-at.result in
    let within = place_within key es in (
      c.place-at.ensures,
      grind (arith, common_steps),
      λ other lt. elim c.else-at-entries.branch [
        | else-at-entries-via-then-at-entries+else-is_eq w ↦
            ap (λ e. same_key key e.0) (get_or_default es at other w.index-entries-at.result lt ∙ sym w.index-entries-at.is)
            ∙ not_tied es at w.index-entries-at.result key w.compare_parts.result w.index-entries-at.is w.compare_parts.ensures w.if-is_eq.ensures
        | else-at-entries-via-else-at-entries w ↦ absurd (grind (arith, common_steps))
      ],
    )
