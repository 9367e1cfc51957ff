use Rattle.std.proofs.Common.{◌≡◌, ◌==◌, true, cond, Some, None, sym, ap, ◌∙◌, subst}
use Rattle.std.specs.List.{find}
use Rattle.fal_node.specs.declared.batch.Batch.{Batch}
use Rattle.fal_node.specs.Letters.{begun}
use Rattle.fal_node.specs.Exec.{exec_all, with_executed, executed, execute}
use Rattle.fal_run.specs.Calls.{are_row_calls}
use Rattle.fal_node.specs.Step.{IsWithin}
use Rattle.fal_node.proofs.Sound.{found_batch}
use Rattle.fal_node.proofs.exec.execute.Goals as goal

pub run_batch-requires-clause-row_calls : goal.run_batch-requires-clause-row_calls
run_batch-requires-clause-row_calls c =
    let batches = c.node.inside.batches.items in
    let found = ap (λ xs. find (λ (batch : Batch). batch.number == c.args.number) xs) (sym c.deref.ensures.value) ∙ sym c.in-Some.ensures in
    subst (λ xs. are_row_calls xs ≡ true) (sym c.as_slice.ensures) (found_batch batches c.args.number c.in-Some.batch.now found c.node.invariant.batches_made.row_calls)

pub run_batch-requires-clause-within : goal.run_batch-requires-clause-within
unfolding executed
run_batch-requires-clause-within c =
    let n = c.args.node.now.state in
    let batch = c.in-Some.batch.now in
    let found = ap (λ xs. find (λ (batch : Batch). batch.number == c.args.number) xs) (sym c.deref.ensures.value) ∙ sym c.in-Some.ensures in
    let there = ap (λ s. find (λ (batch : Batch). batch.number == c.args.number) s.state.batches) (sym c.node.view_is) ∙ found in
    let enabled = ap (execute n c.args.number) there ∙ ap (λ b. cond b None (Some (executed n c.args.number batch))) c.if-batch.false in
    subst (λ xs. IsWithin (exec_all (begun (with_executed n c.args.number)) xs)) (sym c.as_slice.ensures) (c.requires (executed n c.args.number batch) enabled)
