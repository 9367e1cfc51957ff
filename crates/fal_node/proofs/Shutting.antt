-- Keys are shut and opened again: what that takes, and what it keeps.
use Rattle.std.proofs.Common.{◌≡◌, ◌==◌, ℕ, suc, ◌+◌, Bool, true, false, not, ◌&&◌, ◌||◌, cond, List, [], ◌∷◌, ◌++◌, length, nat_lt, is_some, IsTrue, Option, Some, None, refl, ap, ◌∙◌, arith}
use Rattle.std.specs.List.{list_any, position, prefix_len}
use Rattle.std.specs.Option.{option_map}
use Rattle.std.proofs.lemmas.Bool.Decides.{nat_tests}
use Rattle.std.proofs.lemmas.List.Sums.{sum_by_push}
use Rattle.fal_base.specs.declared.key.Key.{Key}
use Rattle.fal_base.specs.declared.row.Update.{Update}
use Rattle.fal_base.specs.Tree.{Tree}
use Rattle.fal_base.specs.Updates.{laid, laid_at}
use Rattle.fal_locks.specs.declared.holder.Shut.{Shut}
use Rattle.fal_locks.specs.Locks.{LockTable, is_held, first_held}
use Rattle.fal_wait.specs.declared.waiting_call.WaitingCall.{WaitingCall}
use Rattle.fal_wait.specs.Waiting.{WaitList, unbound, after_cancel}
use Rattle.fal_wait.proofs.Ascending.{all_map}
use Rattle.fal_wait.proofs.Firsts.{before}
use Rattle.fal_batch.proofs.Truth.{both_first, both_second}
use Rattle.fal_node.specs.State.{is_of}
use Rattle.fal_node.specs.Patch.{rows_put}
use Rattle.fal_node.specs.Serve.{can_shut}
use Rattle.fal_node.specs.Sound.{are_row_waiters}
use Rattle.fal_run.specs.Calls.{is_row_op}

-- every call is free, and one row decides each of them still
pub sound_cancel : (list : WaitList) → are_row_waiters list.calls ≡ true → are_row_waiters (after_cancel list).calls ≡ true
sound_cancel list sound = all_map (λ (x : WaitingCall). is_row_op x.call.op) unbound (λ w. refl) list.calls ∙ sound

-- whether keys are shut, by the operation that has shut them
pub some_shut : (shut : Option Shut) → is_some (option_map (λ s. s.op) shut) ≡ is_some shut
some_shut None = refl
some_shut (Some shut) = refl

abbrev pub is_that : Option ℕ → ℕ → Bool
is_that None operation = false
is_that (Some op) operation = op == operation

-- and whether it is this one
pub is_of_op : (shut : Option Shut) (operation : ℕ) → is_that (option_map (λ s. s.op) shut) operation ≡ is_of shut operation
is_of_op None operation = refl
is_of_op (Some shut) operation = refl

-- one more update at the end is laid last
pub laid-push : (us : List Update) (u : Update) (tree : Tree) → laid (us ++ u ∷ []) tree ≡ laid_at (laid us tree) u.key u.row
laid-push [] u tree = refl
laid-push (x ∷ us) u tree = laid-push us u (laid_at tree x.key x.row)

pub rows_put-push : (us : List Update) (u : Update) → rows_put (us ++ u ∷ []) ≡ rows_put us + (cond (is_some u.row) 1 0)
rows_put-push us u = sum_by_push (λ (x : Update). cond (is_some x.row) 1 0) us u

is_false : (b : Bool) → not b ≡ true → b ≡ false
is_false true h = absurd (cc)
is_false false h = refl

none_there : (shut : Option Shut) → is_some shut ≡ false → shut ≡ None
none_there None h = refl
none_there (Some shut) h = absurd (cc)

-- where the keys can be shut, nothing is shut
pub nothing_shut : (table : LockTable) (keys : List Key) → IsTrue (can_shut table keys) → table.shut ≡ None
nothing_shut table keys can = none_there table.shut (is_false (is_some table.shut) (both_first (not (is_some table.shut)) (not (list_any (λ key. is_held table key) keys)) can))

none_before : {X : Type 0} (p : X → Bool) (xs : List X) → list_any p xs ≡ false → before p xs ≡ length xs
none_before p [] none = refl
none_before p (x ∷ xs) none =
    elim (p x) as (λ b. (b || list_any p xs) ≡ false → cond (not b) (1 + before p xs) 0 ≡ suc (length xs)) [
      | true ↦ λ h. absurd (cc)
      | false ↦ λ h. let rest = none_before p xs h in omega arith
    ] none

none_at : {X : Type 0} (p : X → Bool) (xs : List X) → list_any p xs ≡ false → position p xs ≡ None
none_at p xs none =
    let past = none_before p xs none in
    let end : nat_lt (before p xs) (length xs) ≡ false = grind (arith, nat_tests) in
    ap (λ b. cond b (Some (before p xs)) None) end

-- and no batch holds one of them
pub none_held : (table : LockTable) (keys : List Key) → IsTrue (can_shut table keys) → first_held table keys ≡ None
none_held table keys can =
    none_at (λ key. is_held table key) keys
    (is_false (list_any (λ key. is_held table key) keys) (both_second (not (is_some table.shut)) (not (list_any (λ key. is_held table key) keys)) can))
