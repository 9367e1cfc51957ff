-- Where the work of a whole batch is within the ranges, so is each of its calls.
use Rattle.std.proofs.Common.{◌≡◌, ℕ, suc, ◌+◌, ◌<◌, ◌≤◌, ◌^◌, Bool, true, false, ◌||◌, cond, nat_lt, List, [], ◌∷◌, ◌++◌, refl, sym, ap, ◌∙◌, subst, arith, append-nil, append_assoc}
use Rattle.std.specs.List.{All, list_any}
use Rattle.std.proofs.lemmas.Bool.Decides.{nat_tests}
use Rattle.std.proofs.lemmas.List.Elements.{All-head}
use Rattle.fal_base.specs.declared.call.CallRec.{CallRec}
use Rattle.fal_base.specs.declared.event.Note.{Note}
use Rattle.fal_base.specs.declared.event.Note.TheVariants as note
use Rattle.fal_exec.specs.declared.outcome.Change.{Change}
use Rattle.fal_exec.specs.declared.outcome.Change.TheVariants as change
use Rattle.fal_exec.specs.declared.outcome.ExecOut.{ExecOut}
use Rattle.fal_exec.specs.declared.outcome.ExecOut.TheVariants as out
use Rattle.fal_wire.specs.declared.message.Message.TheVariants as message
use Rattle.fal_wire.specs.Messages.{Fits, FieldsFit}
use Rattle.fal_wire.specs.Ops.{call_field}
use Rattle.fal_wire.specs.Numbers.{id_field}
use Rattle.fal_run.specs.declared.call.BatchCall.{BatchCall}
use Rattle.fal_wire.specs.declared.letter.Letter.{Letter}
use Rattle.fal_run.specs.declared.run.Run.{Run}
use Rattle.fal_base.specs.Tree.{Tree}
use Rattle.fal_run.specs.Letters.{commits_in}
use Rattle.fal_run.specs.Rows.{rows_changed}
use Rattle.fal_run.specs.Calls.{number_after, is_making, answer_letter, call_outcome, change_of, drawn_by, commit_notes}
use Rattle.fal_run.specs.Work.{RowWork, begun_on, run_one, run_all, made_by, is_numbered, IsRunWithin}
use Rattle.fal_run.proofs.Runs.{work_of}

-- a call that is in its ranges has a hop of four bytes
pub hop_fits : (call : CallRec) → Fits (message.Call call) → call.id.hop < 2 ^ 32
unfolding FieldsFit call_field id_field
hop_fits call h = h.fields.0.1.1.1

one_of_all : {X : Type 0} (P : X → Type 0) (xs : List X) (x : X) (ys : List X) → All P (xs ++ x ∷ ys) → P x
one_of_all P [] x ys h = All-head P x ys h
one_of_all P (y ∷ xs) x ys h = one_of_all P xs x ys (λ k d lt. h (suc k) d (omega arith))

-- the record that the next call is answered by
letter_of_one : ℕ → RowWork → BatchCall → Letter
letter_of_one node w p = answer_letter p.call (commits_in w.notes) (call_outcome node w.rows w.drawn p)

sent_one : (node : ℕ) (w : RowWork) (p : BatchCall) → (run_one node w p).sent ≡ w.sent ++ letter_of_one node w p ∷ []
unfolding run_one letter_of_one
sent_one node w p = refl

sent_grows : (node : ℕ) (w : RowWork) (calls : List BatchCall) → (more : List Letter) × ((run_all node w calls).sent ≡ w.sent ++ more)
sent_grows node w [] = ([], sym (append-nil w.sent))
sent_grows node w (p ∷ ps) =
    let r = sent_grows node (run_one node w p) ps in
    (letter_of_one node w p ∷ r.0, r.1 ∙ ap (λ xs. xs ++ r.0) (sent_one node w p) ∙ append_assoc w.sent (letter_of_one node w p ∷ []) r.0)

pub letter_fits : (node : ℕ) (w : RowWork) (p : BatchCall) (ps : List BatchCall) → IsRunWithin node (run_all node w (p ∷ ps))
    → Fits (answer_letter p.call (commits_in w.notes) (call_outcome node w.rows w.drawn p)).message
unfolding letter_of_one
letter_fits node w p ps h =
    let r = sent_grows node (run_one node w p) ps in
    let e = r.1 ∙ ap (λ xs. xs ++ r.0) (sent_one node w p) ∙ append_assoc w.sent (letter_of_one node w p ∷ []) r.0 in
    one_of_all (λ (l : Letter). Fits l.message) w.sent (letter_of_one node w p) r.0 (subst (λ xs. All (λ (l : Letter). Fits l.message) xs) e h.records)

pub pass_hop : (call : CallRec) (k : ℕ) (outcome : ExecOut) → Fits (answer_letter call k outcome).message → outcome ≡ out.PassOn → call.id.hop + 1 < 2 ^ 32
pass_hop call k outcome h e = hop_fits _ (subst (λ o. Fits (answer_letter call k o).message) e h)

pub drawn_grows : (node : ℕ) (w : RowWork) (calls : List BatchCall) → w.drawn ≤ (run_all node w calls).drawn
unfolding run_one
drawn_grows node w [] = omega arith
drawn_grows node w (p ∷ ps) = let h = drawn_grows node (run_one node w p) ps in omega arith

commits_front : (xs ys : List Note) → commits_in xs ≤ commits_in (xs ++ ys)
commits_front [] ys = omega arith
commits_front (note.Commit l s i ∷ ns) ys = let h = commits_front ns ys in omega arith
commits_front (note.Sent l s ∷ ns) ys = commits_front ns ys
commits_front (note.Opened l s i p ∷ ns) ys = commits_front ns ys
commits_front (note.Placed l s v ∷ ns) ys = commits_front ns ys
commits_front (note.Stale l s a b ∷ ns) ys = commits_front ns ys
commits_front (note.Answered l s p r ∷ ns) ys = commits_front ns ys

pub commits_grow : (node : ℕ) (w : RowWork) (calls : List BatchCall) → commits_in w.notes ≤ commits_in (run_all node w calls).notes
unfolding run_one
commits_grow node w [] = omega arith
commits_grow node w (p ∷ ps) =
    let here = commits_front w.notes (commit_notes p.call (number_after node w.drawn) (change_of (call_outcome node w.rows w.drawn p))) in
    let h = commits_grow node (run_one node w p) ps in
    omega arith

any_front : {X : Type 0} (test : X → Bool) (xs ys : List X) → list_any test xs ≡ true → list_any test (xs ++ ys) ≡ true
any_front test [] ys h = absurd (cc)
any_front test (x ∷ xs) ys h = elim (test x) as (λ b. (b || list_any test xs) ≡ true → (b || list_any test (xs ++ ys)) ≡ true) [ true ↦ λ _. refl | false ↦ λ later. any_front test xs ys later ] h

any_back : {X : Type 0} (test : X → Bool) (xs ys : List X) → list_any test ys ≡ true → list_any test (xs ++ ys) ≡ true
any_back test [] ys h = h
any_back test (x ∷ xs) ys h = elim (test x) as (λ b. (b || list_any test (xs ++ ys)) ≡ true) [ true ↦ refl | false ↦ any_back test xs ys h ]

-- a number that is drawn is noted
numbered_one : (call : CallRec) (fresh : ℕ) (change : Change) → 0 < fresh → 0 < drawn_by call.op change → list_any is_numbered (commit_notes call fresh change) ≡ true
numbered_one call fresh change.Keep some draws = absurd (omega arith)
numbered_one call fresh (change.Put inode) some draws =
    elim (is_making call.op) as (λ b. 0 < cond b 1 0 → (nat_lt 0 (cond b fresh 0) || false) ≡ true) [ true ↦ λ _. grind (arith, nat_tests) | false ↦ λ none. absurd (omega arith) ] draws
numbered_one call fresh change.Remove some draws = absurd (omega arith)

numbered_grow : (node : ℕ) (w : RowWork) (calls : List BatchCall) → list_any is_numbered w.notes ≡ true → list_any is_numbered (run_all node w calls).notes ≡ true
unfolding run_one
numbered_grow node w [] h = h
numbered_grow node w (p ∷ ps) h =
    numbered_grow node (run_one node w p) ps
    (any_front is_numbered w.notes (commit_notes p.call (number_after node w.drawn) (change_of (call_outcome node w.rows w.drawn p))) h)

-- where the next call draws a number, it fits
next_fits : (node : ℕ) (w : RowWork) (p : BatchCall) (ps : List BatchCall) → IsRunWithin node (run_all node w (p ∷ ps)) → 0 < drawn_by p.call.op (change_of (call_outcome node w.rows w.drawn p))
    → number_after node w.drawn < 2 ^ 64
unfolding run_one
next_fits node w p ps h draws =
    let change = change_of (call_outcome node w.rows w.drawn p) in
    let fresh = number_after node w.drawn in
    let noted = any_back is_numbered w.notes (commit_notes p.call fresh change) (numbered_one p.call fresh change (omega arith) draws) in
    let below = h.numbers (numbered_grow node (run_one node w p) ps noted) in
    let grows = drawn_grows node (run_one node w p) ps in
    omega arith

-- what is left of the batch is within the ranges, as the whole is
pub within_now : (node : ℕ) (rows : Tree) (before : ℕ) (run : Run) (whole : RowWork) (left : List BatchCall) (p : BatchCall) (ps : List BatchCall) → run_all node (made_by rows before run) left ≡ whole → left ≡ p ∷ ps → IsRunWithin node whole
    → IsRunWithin node (run_all node (made_by rows before run) (p ∷ ps))
within_now node rows before run whole left p ps same is within = subst (λ xs. IsRunWithin node (run_all node (made_by rows before run) xs)) is (subst (IsRunWithin node) (sym same) within)

pub number_now : (node : ℕ) (rows : Tree) (before : ℕ) (run : Run) (p : BatchCall) (ps : List BatchCall) → IsRunWithin node (run_all node (made_by rows before run) (p ∷ ps))
    → 0 < drawn_by p.call.op (change_of (call_outcome node (rows_changed rows run.changes.items) (before + run.drawn) p)) → number_after node (before + run.drawn) < 2 ^ 64
number_now node rows before run p ps h draws = next_fits node (made_by rows before run) p ps h draws

pub hop_now : (node : ℕ) (rows : Tree) (before : ℕ) (run : Run) (p : BatchCall) (ps : List BatchCall) → IsRunWithin node (run_all node (made_by rows before run) (p ∷ ps))
    → call_outcome node (rows_changed rows run.changes.items) (before + run.drawn) p ≡ out.PassOn → p.call.id.hop + 1 < 2 ^ 32
hop_now node rows before run p ps h passes =
    pass_hop p.call (commits_in run.notes.items) (call_outcome node (rows_changed rows run.changes.items) (before + run.drawn) p) (letter_fits node (made_by rows before run) p ps h) passes

pub few_now : (node : ℕ) (rows : Tree) (before : ℕ) (run : Run) (p : BatchCall) (ps : List BatchCall) → IsRunWithin node (run_all node (made_by rows before run) (p ∷ ps)) → run.commits ≡ commits_in run.notes.items → run.commits + 1 < 2 ^ 32
few_now node rows before run p ps h counted =
    let w : RowWork = made_by rows before run in
    let grows = commits_grow node w (p ∷ ps) in
    let below = h.commits in
    omega arith

pub run_start : (rows : Tree) (before : ℕ) → work_of rows before [] 0 [] [] ≡ begun_on rows before
run_start rows before = let zero_more : before + 0 ≡ before = omega arith in λ i. record { rows = rows; drawn = zero_more i; sent = []; notes = [] }
