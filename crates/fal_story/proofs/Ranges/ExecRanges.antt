-- A node that executes a batch keeps to the ranges.
use Rattle.std.proofs.Common.{◌≡◌, ℕ, suc, ◌+◌, ◌<◌, ◌≤◌, Bool, true, false, cond, List, [], ◌∷◌, ◌++◌, length, Option, Some, None, refl, sym, ap, subst, arith}
use Rattle.std.specs.Prelude.{◌==◌}
use Rattle.std.proofs.lemmas.Option.{same_Some}
use Rattle.fal_base.specs.declared.call.CallRec.{CallRec}
use Rattle.fal_base.specs.declared.event.Note.{Note}
use Rattle.fal_base.specs.declared.event.Note.TheVariants as note
use Rattle.fal_base.specs.declared.inode.Inode.{Inode}
use Rattle.fal_base.specs.declared.op.Op.{Op}
use Rattle.fal_base.specs.Tree.{IsInOrder, row_at}
use Rattle.fal_exec.specs.declared.outcome.Change.{Change}
use Rattle.fal_exec.specs.declared.outcome.Change.TheVariants.{Keep, Put, Remove}
use Rattle.fal_exec.specs.declared.outcome.ExecOut.{ExecOut}
use Rattle.fal_exec.specs.declared.outcome.ExecOut.TheVariants.{Finish, Opened, PassOn}
use Rattle.fal_node.specs.declared.batch.Batch.{Batch}
use Rattle.fal_run.specs.declared.call.BatchCall.{BatchCall}
use Rattle.fal_node.specs.declared.event.NodeEvent.TheVariants.{Exec}
use Rattle.fal_node.specs.Exec.{as_executed, with_executed, exec_as, exec_one, exec_all, executed, execute}
use Rattle.fal_run.specs.Calls.{number_after, is_making, call_outcome, answer_letter, change_of, drawn_by, commit_notes}
use Rattle.fal_run.specs.Rows.{rows_after}
use Rattle.fal_node.specs.Letters.{Work, begun}
use Rattle.fal_run.specs.Letters.{commits_in, passed_on}
use Rattle.fal_node.specs.State.{NodeState, batch_of}
use Rattle.fal_node.specs.Step.{node_step}
use Rattle.fal_story.proofs.Lists.Each.{Each, each_both, each_weaker, each_join}
use Rattle.fal_story.proofs.Lists.Members.{each_in, each_map, find_in}
use Rattle.fal_story.proofs.Ranges.Bounds.{CallFits, IsNodeRanged, IsNodeCounted}
use Rattle.fal_story.proofs.Ranges.ListRecords.{opened_fits}
use Rattle.fal_story.proofs.Ranges.MessageRanges.{call_fits, reply_fits, id_of_call, passed_fits}
use Rattle.fal_story.proofs.Ranges.NodeRanges.{IsStart, KeepsRanges, LetterFits, within, counted_more}
use Rattle.fal_story.proofs.Ranges.RowCounts.{after_sorted}
use Rattle.fal_story.proofs.Ranges.RowRanges.{AreRowsRanged, IsOutRanged, change_fits, rows_ranged, call_ranged, fresh_fits}

-- a call that is planned was not handed on too often, and is in its ranges
abbrev pub IsFit : BatchCall → Type 0
IsFit p = (p.call.id.hop ≤ 20000) × CallFits p.call

-- the work on a node when so many calls of a batch are executed
record IsRun (x : NodeState) (k : Work) (done : ℕ) : Type 0 where
  rows : AreRowsRanged k.node.rows
  sorted : IsInOrder k.node.rows
  letters : Each LetterFits k.sent
  drawn : k.node.drawn ≤ x.drawn + done
  commits : commits_in k.notes ≤ done
  node : k.node ≡ record x { rows = k.node.rows; drawn = k.node.drawn }

-- ---- one call

commits_join : (xs ys : List Note) → commits_in (xs ++ ys) ≡ commits_in xs + commits_in ys
commits_join [] ys = omega arith
commits_join (note.Commit l s i ∷ ns) ys = let h = commits_join ns ys in omega arith
commits_join (note.Sent l s ∷ ns) ys = commits_join ns ys
commits_join (note.Opened l s i p ∷ ns) ys = commits_join ns ys
commits_join (note.Placed l s v ∷ ns) ys = commits_join ns ys
commits_join (note.Stale l s a b ∷ ns) ys = commits_join ns ys
commits_join (note.Answered l s p r ∷ ns) ys = commits_join ns ys

one_commit : (call : CallRec) (fresh : ℕ) (change : Change) → commits_in (commit_notes call fresh change) ≤ 1
one_commit call fresh Keep = omega arith
one_commit call fresh (Put inode) = omega arith
one_commit call fresh Remove = omega arith

one_drawn : (op : Op) (change : Change) → drawn_by op change ≤ 1
one_drawn op Keep = omega arith
one_drawn op (Put inode) = elim (is_making op) as (λ b. cond b 1 0 ≤ 1) [ true ↦ omega arith | false ↦ omega arith ]
one_drawn op Remove = omega arith

letter_fits : (call : CallRec) (commits : ℕ) (making : Bool) (row : Option Inode) (out : ExecOut) → IsOutRanged making row out → call.id.hop ≤ 20000 → CallFits call → LetterFits (answer_letter call commits out)
letter_fits call commits making row (Finish reply change) out few fits = reply_fits call.id reply (id_of_call call fits) out.0
letter_fits call commits making row (Opened ino) out few fits = opened_fits call.id ino (id_of_call call fits) out
letter_fits call commits making row PassOn out few fits = call_fits (passed_on call) (passed_fits call few fits)

run_as : (x : NodeState) (k : Work) (done : ℕ) (p : BatchCall) (outcome : ExecOut) → IsOutRanged (is_making p.call.op) (row_at k.node.rows p.last) outcome → p.call.id.hop ≤ 20000 → CallFits p.call → IsRun x k done → IsRun x (exec_as k p outcome) (suc done)
unfolding exec_as
run_as x k done p outcome out hops fits run =
    let drawn = run.drawn in
    let commits = run.commits in
    let change = change_of outcome in
    let of_change = change_fits (is_making p.call.op) (row_at k.node.rows p.last) outcome out in
    let fresh = number_after k.node.number k.node.drawn in
    let one = one_commit p.call fresh change in
    let one_number = one_drawn p.call.op change in
    let both = commits_join k.notes (commit_notes p.call fresh change) in
    record {
      rows = rows_ranged k.node.rows p.last (is_making p.call.op) (row_at k.node.rows p.last) change of_change run.rows;
      sorted = after_sorted k.node.rows p.last change run.sorted;
      letters = each_join LetterFits k.sent _ run.letters (letter_fits p.call (commits_in k.notes) (is_making p.call.op) (row_at k.node.rows p.last) outcome out hops fits, tt);
      drawn = omega arith;
      commits = omega arith;
      node = ap (λ (n : NodeState). record n { rows = rows_after k.node.rows p.last change; drawn = k.node.drawn + drawn_by p.call.op change }) run.node;
    }

run_one : (x : NodeState) (k : Work) (done : ℕ) (p : BatchCall) → x.number < 16 → x.drawn + done ≤ 20000 → IsFit p → IsRun x k done → IsRun x (exec_one k p) (suc done)
unfolding exec_one
run_one x k done p number few fit run =
    let drawn = run.drawn in
    let same : k.node.number ≡ x.number = ap (λ (n : NodeState). n.number) run.node in
    run_as x k done p (call_outcome k.node.number k.node.rows k.node.drawn p)
    (call_ranged k.node.number k.node.rows k.node.drawn p run.rows fit.1 (fresh_fits k.node.number k.node.drawn (omega arith) (omega arith))) fit.0 fit.1 run

-- ---- all of them

run_all : (x : NodeState) (k : Work) (done : ℕ) (ps : List BatchCall) → x.number < 16 → x.drawn + (done + length ps) ≤ 20000 → Each IsFit ps → IsRun x k done → IsRun x (exec_all k ps) (done + length ps)
run_all x k done [] number few fit run = let same : done ≡ done + 0 = omega arith in subst (IsRun x k) same run
run_all x k done (p ∷ ps) number few fit run =
    let next : suc done + length ps ≡ done + suc (length ps) = omega arith in
    subst (IsRun x (exec_all (exec_one k p) ps)) next
    (run_all x (exec_one k p) (suc done) ps number (omega arith) fit.1 (run_one x k done p number (omega arith) fit.0 run))

batch_same : (number : ℕ) (b : Batch) → (length b.calls ≤ 64) × Each (λ (p : BatchCall). CallFits p.call) b.calls
    → (length (as_executed number b).calls ≤ 64) × Each (λ (p : BatchCall). CallFits p.call) (as_executed number b).calls
batch_same number b h =
    elim (b.number == number) as (λ t. (length (cond t (record b { executed = true }) b).calls ≤ 64) × Each (λ (p : BatchCall). CallFits p.call) (cond t (record b { executed = true }) b).calls) [
      | true ↦ h
      | false ↦ h
    ]

executed_keeps : (events : ℕ) (x : NodeState) (number : ℕ) (batch : Batch) → IsStart events x → length batch.calls ≤ 64 → Each IsFit batch.calls → KeepsRanges events (executed x number batch)
unfolding executed with_executed
executed_keeps events x number batch start short fit =
    let y : NodeState = with_executed x number in
    let few = start.few in
    let drawn = start.drawn in
    let opened = start.opened in
    let small = start.number in
    let ranged = start.ranged in
    let more = counted_more events x start.counted in
    let run = run_all y (begun y) 0 batch.calls start.number (omega arith) fit (record { rows = ranged.rows; sorted = ranged.sorted; letters = tt; drawn = omega arith; commits = omega arith; node = refl }) in
    let work : Work = exec_all (begun y) batch.calls in
    let now : IsNodeCounted (events + 1) work.node =
    subst (IsNodeCounted (events + 1)) (sym run.node) (record { tickets = more.tickets; items = more.items; batches = more.batches; fetches = more.fetches }) in
    let run_drawn = run.drawn in
    let run_commits = run.commits in
    let same_opened : work.node.waiting.opened ≡ x.waiting.opened = ap (λ (n : NodeState). n.waiting.opened) run.node in
    let same_number : work.node.number ≡ x.number = ap (λ (n : NodeState). n.number) run.node in
    record {
      within = within events work few now run.letters (omega arith) (omega arith) (omega arith) (omega arith);
      letters = run.letters;
      ranged = subst IsNodeRanged (sym run.node) (record {
        rows = run.rows;
        sorted = run.sorted;
        replica = ranged.replica;
        waiting = ranged.waiting;
        items = ranged.items;
        batches = each_map _ (as_executed number) x.batches (each_weaker _ _ x.batches (λ b h. batch_same number b h) ranged.batches);
      });
      counted = now;
    }

execute_found : (events : ℕ) (x : NodeState) (number : ℕ) (batch : Option Batch) (work : Work) → IsStart events x
    → ((b : Batch) → batch ≡ Some b → b.executed ≡ false → (length b.calls ≤ 64) × Each IsFit b.calls) → execute x number batch ≡ Some work → KeepsRanges events work
execute_found events x number None work start fit is = absurd (cc)
execute_found events x number (Some batch) work start fit is =
    elim batch.executed as (λ b. batch.executed ≡ b → cond b None (Some (executed x number batch)) ≡ Some work → KeepsRanges events work) [
      | true ↦ λ _ e. absurd (cc)
      | false ↦ λ yet e. let h = fit batch refl yet in subst (KeepsRanges events) (same_Some (executed x number batch) work e) (executed_keeps events x number batch start h.0 h.1)
    ] refl is

-- a call that is planned was not handed on too often
abbrev pub HasFewHops : BatchCall → Type 0
HasFewHops p = p.call.id.hop ≤ 20000

-- the calls of a batch that is not executed are such ones
abbrev pub HaveFewHops : NodeState → Type 0
HaveFewHops x = (number : ℕ) (batch : Batch) → batch_of x number ≡ Some batch → batch.executed ≡ false → Each HasFewHops batch.calls

pub exec_keeps : (events : ℕ) (x : NodeState) (number : ℕ) (work : Work) → IsStart events x → HaveFewHops x → node_step x (Exec number) ≡ Some work → KeepsRanges events work
unfolding node_step
exec_keeps events x number work start hops is =
    execute_found events x number (batch_of x number) work start
    (λ batch there yet.
    let h = each_in (λ (b : Batch). (length b.calls ≤ 64) × Each (λ (p : BatchCall). CallFits p.call) b.calls) x.batches batch start.ranged.batches (find_in (λ (b : Batch). b.number == number) x.batches batch there).1 in
    (h.0, each_both HasFewHops _ IsFit batch.calls (λ p few fits. (few, fits)) (hops number batch there yet) h.1)) is
