-- A call that draws no inode number comes out alike, whichever is next.
use Rattle.std.proofs.Common.{◌≡◌, ℕ, ◌+◌, ◌<◌, ◌^◌, Bool, true, false, cond, not, Option, is_some, refl, sym, ap, ◌∙◌, subst, arith}
use Rattle.fal_base.specs.declared.call.Cred.{Cred}
use Rattle.fal_base.specs.declared.inode.Dentry.{Dentry}
use Rattle.fal_base.specs.declared.inode.Inode.{Inode}
use Rattle.fal_base.specs.declared.inode.Kind.TheVariants.{Dir, File}
use Rattle.fal_base.specs.declared.op.Op.{Op}
use Rattle.fal_base.specs.declared.op.Op.TheVariants as op
use Rattle.fal_base.specs.declared.reply.Errno.TheVariants.{Eacces, Eexist}
use Rattle.fal_base.specs.declared.reply.Reply.TheVariants.{Fail, Fine}
use Rattle.fal_base.specs.Change.{new_row}
use Rattle.fal_base.specs.Tree.{Tree, row_at}
use Rattle.fal_exec.specs.declared.outcome.Change.TheVariants.{Put}
use Rattle.fal_exec.specs.declared.outcome.ExecOut.{ExecOut}
use Rattle.fal_exec.specs.declared.outcome.ExecOut.TheVariants.{Finish}
use Rattle.fal_base.specs.Walk.{kept_grants}
use Rattle.fal_exec.specs.Outcome.{without_change, outcome_of}
use Rattle.fal_run.specs.declared.call.BatchCall.{BatchCall}
use Rattle.fal_run.specs.Calls.{number_after, call_outcome, change_of, draws, drawn_by, noted_number, is_making}

abbrev Draws : Op → ExecOut → Type 0
Draws call out = 0 < drawn_by call (change_of out)

-- a new row is put, or none
made_alike : (taken refused : Bool) (call : Op) (a b : Inode) → is_making call ≡ true
    → (Draws call (cond taken (without_change (Fail Eexist)) (cond refused (without_change (Fail Eacces)) (Finish Fine (Put a)))) → a ≡ b)
    → cond taken (without_change (Fail Eexist)) (cond refused (without_change (Fail Eacces)) (Finish Fine (Put a))) ≡ cond taken (without_change (Fail Eexist)) (cond refused (without_change (Fail Eacces)) (Finish Fine (Put b)))
made_alike true refused call a b making same = refl
made_alike false true call a b making same = refl
made_alike false false call a b making same = ap (λ i. Finish Fine (Put i)) (same (subst (λ t. 0 < cond t 1 0) (sym making) (omega arith)))

outcome_alike : (row : Option Inode) (parent : Option Dentry) (cred : Cred) (call : Op) (a b : ℕ) → (Draws call (outcome_of row parent cred call a) → a ≡ b) → outcome_of row parent cred call a ≡ outcome_of row parent cred call b
outcome_alike row parent cred (op.Mkdir path mode) a b same =
    made_alike (is_some row) (not (kept_grants cred 2 parent)) (op.Mkdir path mode) (new_row cred Dir mode a) (new_row cred Dir mode b) refl (λ draws. ap (new_row cred Dir mode) (same draws))
outcome_alike row parent cred (op.Create path mode) a b same =
    made_alike (is_some row) (not (kept_grants cred 2 parent)) (op.Create path mode) (new_row cred File mode a) (new_row cred File mode b) refl (λ draws. ap (new_row cred File mode) (same draws))
outcome_alike row parent cred (op.Stat path) a b same = refl
outcome_alike row parent cred (op.Access path want) a b same = refl
outcome_alike row parent cred (op.Chmod path mode) a b same = refl
outcome_alike row parent cred (op.Chown path uid gid) a b same = refl
outcome_alike row parent cred (op.Truncate path size) a b same = refl
outcome_alike row parent cred (op.Unlink path) a b same = refl
outcome_alike row parent cred (op.Rmdir path) a b same = refl
outcome_alike row parent cred (op.Rename old new) a b same = refl
outcome_alike row parent cred (op.List path) a b same = refl
outcome_alike row parent cred (op.Place name rule) a b same = refl

-- the outcome of a call that is not denied, by a number that is the next one where it is drawn
pub call_alike : (node : ℕ) (rows : Tree) (drawn : ℕ) (planned : BatchCall) (fresh : ℕ) → planned.denied ≡ false
    → (Draws planned.call.op (call_outcome node rows drawn planned) → number_after node drawn ≡ fresh)
    → call_outcome node rows drawn planned ≡ outcome_of (row_at rows planned.last) planned.parent planned.call.cred planned.call.op fresh
call_alike node rows drawn planned fresh passes same =
    let here : call_outcome node rows drawn planned ≡ outcome_of (row_at rows planned.last) planned.parent planned.call.cred planned.call.op (number_after node drawn) =
    ap (λ b. cond b (without_change (Fail Eacces)) (outcome_of (row_at rows planned.last) planned.parent planned.call.cred planned.call.op (number_after node drawn))) passes in
    here ∙ outcome_alike (row_at rows planned.last) planned.parent planned.call.cred planned.call.op (number_after node drawn) fresh
    (λ draws. same (subst (Draws planned.call.op) (sym here) draws))

-- where no number is drawn, none is noted
pub noted_alike : (call : Op) (inode : Inode) (a b : ℕ) → (0 < drawn_by call (Put inode) → a ≡ b) → noted_number call a ≡ noted_number call b
noted_alike call inode a b same = elim (is_making call) as (λ t. (0 < cond t 1 0 → a ≡ b) → cond t a 0 ≡ cond t b 0) [ true ↦ λ f. f (omega arith) | false ↦ λ _. refl ] same

-- a node that draws a number that fits has not drawn too many
drawn_fits : (call : Op) (inode : Inode) (node drawn more : ℕ) → (0 < drawn_by call (Put inode) → number_after node (drawn + more) < 2 ^ 64) → drawn + more < 2 ^ 64 → drawn + (more + draws call) < 2 ^ 64
drawn_fits call inode node drawn more fits few =
    elim (is_making call) as (λ t. (0 < cond t 1 0 → number_after node (drawn + more) < 2 ^ 64) → drawn + (more + cond t 1 0) < 2 ^ 64) [
      | true ↦ λ f. let below = f (omega arith) in omega arith
      | false ↦ λ _. omega arith
    ] fits

-- the same of a row that the outcome puts
pub put_fits : {outcome next : ExecOut} (call : Op) (inode : Inode) (node drawn more : ℕ) → outcome ≡ next → Put inode ≡ change_of outcome → (Draws call next → number_after node (drawn + more) < 2 ^ 64) → drawn + more < 2 ^ 64
    → drawn + (more + draws call) < 2 ^ 64
put_fits call inode node drawn more same put fits few = drawn_fits call inode node drawn more (λ now. fits (subst (λ ch. 0 < drawn_by call ch) (put ∙ ap change_of same) now)) few
