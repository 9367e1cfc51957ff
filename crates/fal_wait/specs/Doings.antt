-- What becomes of a fetch, whatever is done with the list after it was opened.
use Rattle.std.specs.Prelude.{◌≡◌, ℕ, Bool, true, false, List, fold, Option, None, Some, if◌then◌else◌, ◌==◌}
use Rattle.std.specs.List.{list_any}
use Rattle.fal_base.specs.declared.call.CallRec.{CallRec}
use Rattle.fal_base.specs.declared.key.Key.{Key}
use Rattle.fal_wait.specs.Waiting.{WaitList, IsNumbered, fetch_of, after_admit, without_call, after_open, after_settle, after_cancel}

-- one call of `Waiting` that changes the list
pub data Doing : Type 0 where
  Admits : CallRec → Doing
  Removes : ℕ → Doing
  Opens : Key → List ℕ → Doing
  Settles : ℕ → Doing
  Cancels : Doing

abbrev pub after_doing : WaitList → Doing → WaitList
after_doing list (Admits call) = after_admit list call
after_doing list (Removes ticket) = without_call list ticket
after_doing list (Opens key waiters) = after_open list key waiters
after_doing list (Settles number) = after_settle list number
after_doing list Cancels = after_cancel list

abbrev pub after_doings : WaitList → List Doing → WaitList
after_doings list doings = fold after_doing list doings

-- whether the fetch with this number is then no longer pending
abbrev pub ends : ℕ → Doing → Bool
ends number (Admits call) = false
ends number (Removes ticket) = false
ends number (Opens key waiters) = false
ends number (Settles other) = other == number
ends number Cancels = true

-- a fetch is pending with exactly the waiters that it was opened with, until it is settled or all are cancelled, and never after that
abbrev pub IsPendingUntilEnded : WaitList → Type 0
IsPendingUntilEnded list =
    (key : Key) (waiters : List ℕ) (doings : List Doing)
    → fetch_of (after_doings (after_open list key waiters) doings) list.opened
    ≡ (if list_any (ends list.opened) doings then None else Some (record { number = list.opened; key = key; waiters = waiters }))
