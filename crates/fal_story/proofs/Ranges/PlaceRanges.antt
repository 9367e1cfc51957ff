-- The coordinator places a name, and keeps to the ranges.
use Rattle.std.proofs.Common.{◌≡◌, ℕ, ◌<◌, ◌≤◌, ◌==◌, ◌&&◌, true, false, cond, List, [], ◌∷◌, ◌++◌, length, Option, Some, None, refl, subst, arith, eqb-true}
use Rattle.std.specs.List.{range_with_len}
use Rattle.std.proofs.lemmas.Option.{same_Some}
use Rattle.fal_base.specs.declared.call.CallRec.{CallRec}
use Rattle.fal_base.specs.declared.event.Actor.TheVariants.{Node}
use Rattle.fal_base.specs.declared.event.Point.TheVariants.{Here}
use Rattle.fal_base.specs.declared.op.Op.{Op}
use Rattle.fal_base.specs.declared.op.Op.TheVariants as op
use Rattle.fal_base.specs.declared.reply.Errno.{Errno}
use Rattle.fal_base.specs.declared.reply.Reply.TheVariants as reply
use Rattle.fal_base.specs.declared.row.NamedRow.{NamedRow}
use Rattle.fal_batch.proofs.Truth.{both_first, both_second}
use Rattle.fal_coord.specs.declared.stage.Stage.{Stage}
use Rattle.fal_coord.specs.declared.stage.Stage.TheVariants.{Block, Install}
use Rattle.fal_coord.specs.Begin.{placing_by}
use Rattle.fal_coord.specs.Hear.{block_heard, take_blocked, install_at, take_installed}
use Rattle.fal_coord.specs.Nodes.{is_missing, numbers_below, to_nodes, without_node}
use Rattle.fal_coord.specs.Place.{blocking, install_letters, name_placed, placed_by}
use Rattle.fal_coord.specs.State.{CoordState, begun, at_stage}
use Rattle.fal_coord.specs.Walks.{placing_of}
use Rattle.fal_move.specs.Moving.{by_parent, share_of}
use Rattle.fal_place.specs.Placement.{Placement, Placing, with_rule}
use Rattle.fal_wire.specs.declared.message.Message.TheVariants as message
use Rattle.fal_wire.specs.Letters.{letter, reply_letter}
use Rattle.fal_wire.specs.Names.{name_field}
use Rattle.fal_wire.specs.Numbers.{operation_field}
use Rattle.fal_wire.specs.Ops.{call_field, name_and_rule, op_field}
use Rattle.fal_wire.specs.Rows.{rule_field}
use Rattle.fal_story.proofs.Lists.Each.{Each, each_join}
use Rattle.fal_story.proofs.Lists.Members.{each_all, each_map}
use Rattle.fal_story.proofs.Ranges.CoordBounds.{AreGiven, IsStageRanged, NamedRowFits}
use Rattle.fal_story.proofs.Ranges.CoordParts.{IsAt, IsBase, KeepsRanges, all_fit, answer_fits, given_up_keeps, keeps_at, keeps_same, number_fits}
use Rattle.fal_story.proofs.Ranges.GivenNews.{StaysFew}
use Rattle.fal_story.proofs.Ranges.GivenRows.{share_is}
use Rattle.fal_story.proofs.Ranges.MessageRanges.{fine_fits}
use Rattle.fal_story.proofs.Ranges.NodeRanges.{LetterFits, letters_fit}
use Rattle.fal_story.proofs.Ranges.PlaceRecords.{block_fits, install_fits, version_fits}
use Rattle.fal_story.proofs.Ranges.RowRanges.{op_of_call}

-- ---- it starts

blocking_keeps : (events : ℕ) (c : CoordState) (call : CallRec) (name : List ℕ) → IsBase events c → 0 < c.operation → call_field.Fits call → name_field.Fits name → KeepsRanges events (blocking c call name)
unfolding blocking
blocking_keeps events c call name base some of_call of_name =
    let nodes = c.table.nodes in
    let block = message.Block c.operation name in
    keeps_at events c (Block call (numbers_below nodes) []) (to_nodes nodes block) [] base (some, of_call, record { fit = tt; apart = tt })
    (all_fit nodes block (block_fits c.operation name (number_fits events c base some) of_name))

pub placing_keeps : (events : ℕ) (c : CoordState) (call : CallRec) (placing : Placing) (refusal : Option Errno) → IsBase events c → 0 < c.operation → call_field.Fits call → name_field.Fits placing.name
    → KeepsRanges events (placing_by c call placing refusal)
placing_keeps events c call placing None base some of_call of_name = blocking_keeps events c call placing.name base some of_call of_name
placing_keeps events c call placing (Some errno) base some of_call of_name = given_up_keeps events c call (Here 0) errno base of_call

-- what a call asks for, by the call
op_placing_fits : (o : Op) (placing : Placing) → placing_of o ≡ Some placing → op_field.Fits o → name_field.Fits placing.name × rule_field.Fits placing.rule
unfolding op_field name_and_rule
op_placing_fits (op.Place name rule) placing is fits = subst (λ (p : Placing). name_field.Fits p.name × rule_field.Fits p.rule) (same_Some (record { name = name; rule = rule }) placing is) fits
op_placing_fits other placing is fits = absurd (cc)

pub placing_fits : (call : CallRec) (placing : Placing) → placing_of call.op ≡ Some placing → call_field.Fits call → name_field.Fits placing.name × rule_field.Fits placing.rule
placing_fits call placing is fits = op_placing_fits call.op placing is (op_of_call call fits)

-- ---- the rows come

installs_fit : (operation : ℕ) (table : Placement) (placing : Placing) (rows : List NamedRow) → operation_field.Fits operation → 0 < table.version → table.version ≤ 10001 → rule_field.Fits placing.rule → AreGiven rows → length rows ≤ 20002
    → Each LetterFits (install_letters operation table placing (by_parent rows))
installs_fit operation table placing rows of_operation some few_versions of_rule given few =
    each_map LetterFits (λ node. letter (Node node) (Here 0) (message.Install operation table.version placing.rule (share_of table placing.name node (by_parent rows)))) (range_with_len 0 table.nodes)
    (each_all _ (range_with_len 0 table.nodes) (λ node.
    let share = share_is table placing.name node rows given in
    let few_share = share.few in
    install_fits operation table.version placing.rule (share_of table placing.name node (by_parent rows)) of_operation (version_fits table.version some (omega arith)) of_rule (omega arith) share.fit share.ascend))

name_placed_keeps : (events : ℕ) (c : CoordState) (call : CallRec) (placing : Placing) (rows : List NamedRow) → IsBase events c → 0 < c.operation → call_field.Fits call → rule_field.Fits placing.rule → AreGiven rows → length rows ≤ 20002
    → KeepsRanges events (name_placed c call placing rows)
unfolding name_placed
name_placed_keeps events c call placing rows base some of_call of_rule given few =
    let before = base.few in
    let asked = base.asked in
    let operation = base.operation in
    let version = base.version in
    let next = with_rule c.table placing.name placing.rule in
    let sent = install_letters c.operation next placing (by_parent rows) ++ reply_letter call (Here 0) reply.Fine ∷ [] in
    let letters = each_join LetterFits (install_letters c.operation next placing (by_parent rows)) (reply_letter call (Here 0) reply.Fine ∷ [])
    (installs_fit c.operation next placing rows (number_fits events c base some) (omega arith) (omega arith) of_rule given few) (answer_fits call (Here 0) reply.Fine of_call fine_fits, tt) in
    record {
      within = record { records = letters_fit sent letters; operation = omega arith; asked = omega arith; version = omega arith };
      letters = letters;
      ranged = record { waiting = base.waiting; replica = base.replica; stage = tt; asked = omega arith };
    }

placed_keeps : (events : ℕ) (c : CoordState) (call : CallRec) (rows : List NamedRow) → IsAt events c → 0 < c.operation → call_field.Fits call → AreGiven rows → length rows ≤ 20002 → KeepsRanges events (placed_by c call rows (placing_of call.op))
placed_keeps events c call rows at some of_call given few =
    elim (placing_of call.op) as (λ (p : Option Placing). placing_of call.op ≡ p → KeepsRanges events (placed_by c call rows p)) [
      | None ↦ λ _. keeps_same events c at
      | Some placing ↦ λ is. name_placed_keeps events c call placing rows at.base some of_call (placing_fits call placing is of_call).1 given few
    ] refl

block_heard_keeps : (events : ℕ) (c : CoordState) (call : CallRec) (rows : List NamedRow) (missing : List ℕ) → IsAt events c → 0 < c.operation → call_field.Fits call → AreGiven rows → length rows ≤ 20002 → KeepsRanges events (block_heard c call rows missing)
block_heard_keeps events c call rows [] at some of_call given few = placed_keeps events c call rows at some of_call given few
block_heard_keeps events c call rows (node ∷ missing) at some of_call given few = keeps_at events c (Block call (node ∷ missing) rows) [] [] at.base (some, of_call, given) tt

pub blocked_keeps : (events : ℕ) (c : CoordState) (number node : ℕ) (told : List NamedRow) (s : Stage) → IsAt events c → IsStageRanged c.operation s → Each NamedRowFits told → (number ≡ c.operation → StaysFew node told s)
    → KeepsRanges events (take_blocked c number node told s)
blocked_keeps events c number node told (Block call missing rows) at stage fits news =
    let is_now = number == c.operation in
    let waits = is_missing node missing in
    elim (is_now && waits) as (λ b. (is_now && waits) ≡ b → KeepsRanges events (cond b (block_heard c call (rows ++ told) (without_node node missing)) (begun c))) [
      | true ↦ λ is.
          let few = news (eqb-true number c.operation (both_first is_now waits is)) (both_second is_now waits is) in
          block_heard_keeps events c call (rows ++ told) (without_node node missing) at stage.0 stage.1 (record { fit = each_join NamedRowFits rows told stage.2.fit fits; apart = few.apart }) few.few
      | false ↦ λ _. keeps_same events c at
    ] refl
blocked_keeps events c number node told other at stage fits news = keeps_same events c at

-- ---- the nodes have them

install_ranged : (number : ℕ) (call : CallRec) (missing : List ℕ) → IsStageRanged number (install_at call missing)
install_ranged number call [] = tt
install_ranged number call (node ∷ missing) = tt

pub installed_keeps : (events : ℕ) (c : CoordState) (number node : ℕ) (s : Stage) → IsAt events c → KeepsRanges events (begun (take_installed c number node s))
installed_keeps events c number node (Install call missing) at =
    let rest = without_node node missing in
    elim ((number == c.operation) && is_missing node missing) as (λ b. KeepsRanges events (begun (cond b (at_stage c (install_at call rest)) c))) [
      | true ↦ keeps_at events c (install_at call rest) [] [] at.base (install_ranged c.operation call rest) tt
      | false ↦ keeps_same events c at
    ]
installed_keeps events c number node other at = keeps_same events c at
