-- A draft does what its patch says.
use Rattle.std.proofs.Common.{◌≡◌, ℕ, true, false, cond, List, [], ◌∷◌, ◌++◌, length, Some, refl, sym, ap, subst, ◌∙◌, arith}
use Rattle.std.proofs.lemmas.Bool.Decides.{nat_tests}
use Rattle.std.specs.Prelude.{◌==◌, ◌&&◌}
use Rattle.fal_base.specs.declared.event.Note.{Note}
use Rattle.fal_base.specs.declared.event.Point.TheVariants.{Here}
use Rattle.fal_base.specs.declared.key.Key.{Key}
use Rattle.fal_base.specs.declared.reply.Reply.{Reply}
use Rattle.fal_base.specs.declared.row.Update.{Update}
use Rattle.fal_dentry.specs.Walk.{without_keys}
use Rattle.fal_wire.specs.declared.message.Message.TheVariants as message
use Rattle.fal_wire.specs.Letters.{reply_letter}
use Rattle.fal_coord.specs.declared.draft.Draft.{Draft}
use Rattle.fal_coord.specs.declared.patch.Patch.TheVariants as patch
use Rattle.fal_coord.specs.declared.stage.Operation.{Operation}
use Rattle.fal_coord.specs.declared.stage.Stage.TheVariants.{Count, Finish}
use Rattle.fal_coord.specs.Decide.{counting, decided}
use Rattle.fal_coord.specs.Hear.{finish_at, lock_heard, take_done}
use Rattle.fal_coord.specs.Nodes.{is_missing, numbers_below, to_nodes, without_node}
use Rattle.fal_coord.specs.Patch.{counting_stage, decided_stage, decided_with, finished_stage, locked_keys, locked_stage, operation_at, patched}
use Rattle.fal_coord.specs.Ready.{Does}
use Rattle.fal_coord.specs.State.{CoordState, at_stage, begun}

-- the entries of a directory are to be counted
pub counting_draft : (coord : CoordState) (operation : Operation) (rows : List Update) (dir : ℕ) (updates : List Update) (missing : List ℕ) (draft : Draft)
    → operation_at coord.stage ≡ Some operation → missing ≡ numbers_below coord.table.nodes → draft.patch ≡ patch.Count rows dir updates missing
    → draft.letters.items ≡ to_nodes coord.table.nodes (message.Count coord.operation dir) → draft.notes.items ≡ [] → Does coord (counting coord operation rows dir updates) draft
unfolding counting counting_stage
counting_draft coord operation rows dir updates missing draft at numbers patch_is letters notes = record {
  coord_after = sym (ap (patched coord) patch_is ∙ ap (λ o. at_stage coord (counting_stage rows dir updates missing o)) at ∙ ap (λ ns. at_stage coord (Count operation rows dir updates ns [])) numbers);
  sent = letters;
  notes = notes;
}

-- a node has made the changes, and others have not
pub done_draft : (coord : CoordState) (number node : ℕ) (keys : List Key) (updates : List Update) (missing left : List ℕ) (draft : Draft)
    → coord.stage ≡ Finish keys updates missing → number ≡ coord.operation → is_missing node missing ≡ true → left ≡ without_node node missing → (length left == 0) ≡ false
    → draft.patch ≡ patch.Finish left → draft.letters.items ≡ [] → draft.notes.items ≡ [] → Does coord (begun (take_done coord number node coord.stage)) draft
unfolding finished_stage
done_draft coord number node keys updates missing left draft stage same missed rest some patch_is letters notes =
    subst (λ s. Does coord (begun (take_done coord number node s)) draft) (sym stage) (record {
      coord_after = heard ∙ sym (ap (patched coord) patch_is ∙ ap (λ s. at_stage coord (finished_stage left s)) stage);
      sent = letters;
      notes = notes;
    })
  where
    finishes : (ns : List ℕ) → (length ns == 0) ≡ false → at_stage coord (finish_at keys updates ns) ≡ at_stage coord (Finish keys updates ns)
    finishes [] none = absurd (cc)
    finishes (n ∷ ns) none = refl

    both : ((number == coord.operation) && is_missing node missing) ≡ true
    both = grind (arith, nat_tests)

    heard : take_done coord number node (Finish keys updates missing) ≡ at_stage coord (Finish keys updates left)
    heard = ap (λ b. cond b (at_stage coord (finish_at keys updates (without_node node missing))) coord) both ∙ ap (λ ns. at_stage coord (finish_at keys updates ns)) (sym rest) ∙ finishes left some

-- the operation is decided
pub decided_draft : (coord : CoordState) (operation : Operation) (updates : List Update) (said : List Note) (answer : Reply) (missing : List ℕ) (draft : Draft)
    → operation_at coord.stage ≡ Some operation → missing ≡ numbers_below coord.table.nodes → draft.patch ≡ patch.Decide updates missing
    → draft.letters.items ≡ to_nodes coord.table.nodes (message.Commit coord.operation updates) ++ reply_letter operation.call (Here 0) answer ∷ [] → draft.notes.items ≡ said
    → Does coord (decided coord operation updates said answer) draft
unfolding decided decided_stage locked_keys
decided_draft coord operation updates said answer missing draft at numbers patch_is letters notes = record {
  coord_after = sym (ap (patched coord) patch_is ∙ ap (decided_with coord updates missing) at
      ∙ ap (λ (ns : List ℕ). record coord { replica = without_keys coord.replica operation.keys; stage = Finish operation.keys updates ns }) numbers);
  sent = letters;
  notes = notes;
}

-- a node has shut the keys, and others have not
pub locked_draft : (coord : CoordState) (operation : Operation) (rows : List Update) (missing : List ℕ) (draft : Draft)
    → operation_at coord.stage ≡ Some operation → (length missing == 0) ≡ false → draft.patch ≡ patch.Lock missing rows → draft.letters.items ≡ [] → draft.notes.items ≡ []
    → Does coord (lock_heard coord operation rows missing) draft
unfolding locked_stage
locked_draft coord operation rows [] draft at none patch_is letters notes = absurd (cc)
locked_draft coord operation rows (n ∷ ns) draft at some patch_is letters notes = record {
  coord_after = sym (ap (patched coord) patch_is ∙ ap (λ o. at_stage coord (locked_stage (n ∷ ns) rows o)) at);
  sent = letters;
  notes = notes;
}
