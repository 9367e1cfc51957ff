use Rattle.std.proofs.Common.{◌≤◌, length, arith, sym, ap, ◌∙◌}
use Rattle.std.proofs.lemmas.Grind.{common_steps}
use Rattle.fal_io.proofs.Pieces.{moves_front}
use Rattle.fal_io.proofs.memory_source.MemSourceSource.take.Goals as goal

pub returns-clause-bytes : goal.returns-clause-bytes
returns-clause-bytes c =
    let enough : c.min-count.result ≤ length c.copy_from_slice.new.self = grind (arith, common_steps) in (
      ap (λ s. s.left) (sym c.self.view_is) ∙ moves_front c.self.inside.bytes.items c.args.buf.now _ _ _ (rw c.deref-2.ensures.value at c.copy_from_slice.ensures.after) enough,
      λ none room. grind (arith, common_steps),
    )
