-- A name is placed: the letters to the nodes, and what the drafts of a placement do.
use Rattle.std.proofs.Common.{◌≡◌, ℕ, suc, ◌+◌, true, false, cond, List, [], ◌∷◌, ◌++◌, map, length, Some, sym, ap, subst, refl, ◌∙◌, zero-add, arith}
use Rattle.std.specs.Prelude.{◌==◌, ◌&&◌, ◌<◌, ◌^◌}
use Rattle.std.specs.List.{range_with_len}
use Rattle.std.proofs.lemmas.Bool.Decides.{nat_tests}
use Rattle.std.proofs.lemmas.List.FromFn.{map-range_with_len_more}
use Rattle.fal_base.specs.declared.call.CallRec.{CallRec}
use Rattle.fal_base.specs.declared.event.Actor.TheVariants.{Node}
use Rattle.fal_base.specs.declared.event.Note.TheVariants.{Placed}
use Rattle.fal_base.specs.declared.event.Point.TheVariants.{Here}
use Rattle.fal_base.specs.declared.reply.Reply.TheVariants.{Fine}
use Rattle.fal_base.specs.declared.row.NamedRow.{NamedRow}
use Rattle.fal_move.specs.Moving.{by_parent, share_of}
use Rattle.fal_place.specs.Placement.{Placement, Placing, with_rule}
use Rattle.fal_wire.specs.declared.letter.Letter.{Letter}
use Rattle.fal_wire.specs.declared.message.Message.TheVariants as message
use Rattle.fal_wire.specs.Letters.{letter, reply_letter}
use Rattle.fal_coord.specs.declared.draft.Draft.{Draft}
use Rattle.fal_coord.specs.declared.patch.Patch.TheVariants as patch
use Rattle.fal_coord.specs.declared.stage.Stage.TheVariants.{Block, Install}
use Rattle.fal_coord.specs.Hear.{block_heard, take_blocked, install_at, take_installed}
use Rattle.fal_coord.specs.Nodes.{is_missing, numbers_below, without_node}
use Rattle.fal_coord.specs.Patch.{placing_call, blocked_stage, installed_stage, patched}
use Rattle.fal_coord.specs.Place.{install_letters, name_placed, placed, placed_by}
use Rattle.fal_coord.specs.Ready.{Does}
use Rattle.fal_coord.specs.State.{CoordState, at_stage, begun}
use Rattle.fal_coord.specs.Step.{IsInRange}
use Rattle.fal_coord.specs.Walks.{placing_of}

-- ---- letters

-- the letters to the first so many nodes
abbrev pub installs_below : ℕ → Placement → Placing → List NamedRow → ℕ → List Letter
installs_below operation table placing rows n =
    map (λ node. letter (Node node) (Here 0) (message.Install operation table.version placing.rule (share_of table placing.name node rows))) (range_with_len 0 n)

-- one node more
pub installs_more : (operation : ℕ) (table : Placement) (placing : Placing) (rows : List NamedRow) (n : ℕ) → installs_below operation table placing rows (n + 1)
    ≡ installs_below operation table placing rows n ++ letter (Node n) (Here 0) (message.Install operation table.version placing.rule (share_of table placing.name n rows)) ∷ []
installs_more operation table placing rows n =
    map-range_with_len_more (λ node. letter (Node node) (Here 0) (message.Install operation table.version placing.rule (share_of table placing.name node rows))) 0 n n (zero-add n)

-- the shares of so many nodes from one on
abbrev pub shares_from : Placement → List ℕ → List NamedRow → ℕ → ℕ → List (List NamedRow)
shares_from table name rows node left = map (λ n. share_of table name n rows) (range_with_len node left)

-- the first of the shares that are left is the node's own
pub first_share : (f : ℕ → List NamedRow) (node left after : ℕ) (share : List NamedRow) (others : List (List NamedRow)) → left ≡ suc after
    → share ∷ others ≡ map f (range_with_len node left) → share ≡ f node
first_share f node left after share others one is =
    let all : share ∷ others ≡ f node ∷ map f (range_with_len (node + 1) after) = is ∙ ap (λ n. map f (range_with_len node n)) one in cc

-- and the others are left for the nodes after it
pub other_shares : (f : ℕ → List NamedRow) (node left after : ℕ) (share : List NamedRow) (others : List (List NamedRow)) → left ≡ suc after
    → share ∷ others ≡ map f (range_with_len node left) → others ≡ map f (range_with_len (node + 1) after)
other_shares f node left after share others one is =
    let all : share ∷ others ≡ f node ∷ map f (range_with_len (node + 1) after) = is ∙ ap (λ n. map f (range_with_len node n)) one in cc

-- ---- ranges

-- the version of the next table is within the range
pub placed_below : (coord : CoordState) (call : CallRec) (placing : Placing) (rows : List NamedRow) → placing_of call.op ≡ Some placing → IsInRange (placed coord call rows) → coord.table.version + 1 < 2 ^ 32
unfolding name_placed
placed_below coord call placing rows at within = (subst (λ p. IsInRange (placed_by coord call rows p)) at within).version

-- a node that was missing is heard
pub blocked_within : (coord : CoordState) (number node : ℕ) (told : List NamedRow) (call : CallRec) (missing : List ℕ) (rows all : List NamedRow) (left : List ℕ)
    → coord.stage ≡ Block call missing rows → number ≡ coord.operation → is_missing node missing ≡ true → all ≡ rows ++ told → left ≡ without_node node missing
    → IsInRange (take_blocked coord number node told coord.stage) → IsInRange (block_heard coord call all left)
blocked_within coord number node told call missing rows all left stage same missed more rest within =
    subst (λ ns. IsInRange (block_heard coord call all ns)) (sym rest) (subst (λ rs. IsInRange (block_heard coord call rs (without_node node missing))) (sym more)
    (subst (λ b. IsInRange (cond b (block_heard coord call (rows ++ told) (without_node node missing)) (begun coord))) both (subst (λ s. IsInRange (take_blocked coord number node told s)) stage within)))
  where
    both : ((number == coord.operation) && is_missing node missing) ≡ true
    both = grind (arith, nat_tests)

-- ---- drafts

-- the name is placed by the next table
pub placed_draft : (coord : CoordState) (call : CallRec) (placing : Placing) (rows : List NamedRow) (table : Placement) (missing : List ℕ) (draft : Draft)
    → placing_call coord.stage ≡ Some call → table ≡ with_rule coord.table placing.name placing.rule → missing ≡ numbers_below table.nodes → draft.patch ≡ patch.Place table missing
    → draft.letters.items ≡ install_letters coord.operation table placing (by_parent rows) ++ reply_letter call (Here 0) Fine ∷ []
    → draft.notes.items ≡ Placed call.id.client call.id.seq table.version ∷ [] → Does coord (name_placed coord call placing rows) draft
unfolding name_placed installed_stage
placed_draft coord call placing rows table missing draft at next numbers patch_is letters notes = record {
  coord_after = sym (ap (patched coord) patch_is ∙ ap (λ o. record coord { table = table; stage = installed_stage missing o }) at
      ∙ ap (λ (ns : List ℕ). record coord { table = table; stage = Install call ns }) numbers
      ∙ ap (λ (t : Placement). record coord { table = t; stage = Install call (numbers_below t.nodes) }) next);
  sent = letters ∙ ap (λ (t : Placement). install_letters coord.operation t placing (by_parent rows) ++ reply_letter call (Here 0) Fine ∷ []) next;
  notes = notes ∙ ap (λ (t : Placement). Placed call.id.client call.id.seq t.version ∷ []) next;
}

-- a node has given its rows away, and others have not
pub blocked_draft : (coord : CoordState) (call : CallRec) (rows : List NamedRow) (missing : List ℕ) (draft : Draft)
    → placing_call coord.stage ≡ Some call → (length missing == 0) ≡ false → draft.patch ≡ patch.Block missing rows → draft.letters.items ≡ [] → draft.notes.items ≡ []
    → Does coord (block_heard coord call rows missing) draft
unfolding blocked_stage
blocked_draft coord call rows [] draft at some patch_is letters notes = absurd (cc)
blocked_draft coord call rows (n ∷ ns) draft at some patch_is letters notes = record {
  coord_after = sym (ap (patched coord) patch_is ∙ ap (λ o. at_stage coord (blocked_stage (n ∷ ns) rows o)) at);
  sent = letters;
  notes = notes;
}

-- a node has taken its rows, and others have not
pub installed_draft : (coord : CoordState) (number node : ℕ) (call : CallRec) (missing left : List ℕ) (draft : Draft)
    → coord.stage ≡ Install call missing → number ≡ coord.operation → is_missing node missing ≡ true → left ≡ without_node node missing → (length left == 0) ≡ false
    → draft.patch ≡ patch.Install left → draft.letters.items ≡ [] → draft.notes.items ≡ [] → Does coord (begun (take_installed coord number node coord.stage)) draft
unfolding installed_stage placing_call
installed_draft coord number node call missing left draft stage same missed rest some patch_is letters notes =
    subst (λ s. Does coord (begun (take_installed coord number node s)) draft) (sym stage) (record {
      coord_after = heard ∙ sym (ap (patched coord) patch_is ∙ ap (λ s. at_stage coord (installed_stage left (placing_call s))) stage);
      sent = letters;
      notes = notes;
    })
  where
    installs : (ns : List ℕ) → (length ns == 0) ≡ false → at_stage coord (install_at call ns) ≡ at_stage coord (Install call ns)
    installs [] none = absurd (cc)
    installs (n ∷ ns) none = refl

    both : ((number == coord.operation) && is_missing node missing) ≡ true
    both = grind (arith, nat_tests)

    heard : take_installed coord number node (Install call missing) ≡ at_stage coord (Install call left)
    heard = ap (λ b. cond b (at_stage coord (install_at call (without_node node missing))) coord) both ∙ ap (λ ns. at_stage coord (install_at call ns)) (sym rest) ∙ installs left some
