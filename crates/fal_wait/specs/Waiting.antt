-- The calls that wait at a node, and the fetches that they wait on.
use Rattle.std.specs.Prelude.{ℕ, ◌+◌, Bool, false, List, [], ◌∷◌, ◌++◌, map, filter, Option, None, Some, is_none, IsTrue, if◌then◌else◌, ◌==◌}
use Rattle.std.specs.List.{find}
use Rattle.std.specs.Option.{option_map}
use Rattle.fal_base.specs.declared.key.Key.{Key}
use Rattle.fal_base.specs.declared.call.CallRec.{CallRec}
use Rattle.fal_wait.specs.declared.waiting_call.WaitingCall.{WaitingCall}
use Rattle.fal_wait.specs.declared.pending_fetch.PendingFetch.{PendingFetch}
use Rattle.fal_wait.specs.declared.pending_fetch.Fetch.{Fetch}
use Rattle.fal_wait.specs.declared.admit.Admit.{Admit}
use Rattle.fal_wait.specs.declared.admit.Admit.TheVariants as admit
use Rattle.fal_wait.specs.Lists.{are_ascending, without_first, has_number}
use Rattle.fal_base.specs.Marks.{Marks, mark_of, last_mark, with_mark, is_newer}

-- the waiting calls in the order of their arrival, the pending fetches in the order of their opening, the last mark taken of each client, and how many tickets were given and fetches opened so far
pub record WaitList : Type 0 where
  pub calls : List WaitingCall
  pub fetches : List PendingFetch
  pub last : Marks
  pub tickets : ℕ
  pub opened : ℕ

-- whether each ticket is below those after it, and below this number
abbrev pub are_rising : List WaitingCall → ℕ → Bool
are_rising calls end = are_ascending (λ (w : WaitingCall). w.ticket) calls end

-- what holds of each list: the tickets rise, and so do the numbers of the pending fetches; the next ticket and the next fetch's number are new
pub record IsNumbered (list : WaitList) : Type 0 where
  pub tickets : IsTrue (are_rising list.calls list.tickets)
  pub fetches : IsTrue (are_ascending (λ (f : PendingFetch). f.number) list.fetches list.opened)

-- what contracts see of `Waiting`: the list, and for how many more calls or fetches there is room
pub record WaitingSeen : Type 0 where
  pub list : WaitList
  pub spare : ℕ

-- how many numbers there are from 0 up to the last one
abbrev pub count_to : Option ℕ → ℕ
count_to None = 0
count_to (Some last) = last + 1

abbrev pub no_calls : WaitList
no_calls = record { calls = []; fetches = []; last = []; tickets = 0; opened = 0 }

-- the tickets of the calls without a pending fetch, in the order of arrival
abbrev pub free_tickets : WaitList → List ℕ
free_tickets list = map (λ w. w.ticket) (filter (λ w. is_none w.fetch) list.calls)

-- the call with this ticket
abbrev pub call_with_ticket : WaitList → ℕ → Option CallRec
call_with_ticket list ticket = option_map (λ w. w.call) (find (λ w. w.ticket == ticket) list.calls)

-- the pending fetch with this number
abbrev pub fetch_of : WaitList → ℕ → Option PendingFetch
fetch_of list number = find (λ f. f.number == number) list.fetches

-- what a fetch tells: its key and its waiters
abbrev pub parts_of : PendingFetch → Key × List ℕ
parts_of f = (f.key, f.waiters)

abbrev pub told_by : Fetch → Key × List ℕ
told_by f = (f.key, f.waiters.items)

-- whether the call is newer than the last that was taken of its client
abbrev pub is_new : WaitList → CallRec → Bool
is_new list call = is_newer (mark_of call.id) (last_mark list.last call.id.client)

-- the call waits, with the next ticket, and is the last taken of its client
unfoldable pub with_call : WaitList → CallRec → WaitList
with_call list call =
    record list {
      calls = list.calls ++ record { ticket = list.tickets; call = call; fetch = None } ∷ [];
      last = with_mark list.last call.id.client (mark_of call.id);
      tickets = list.tickets + 1;
    }

-- a call that is not newer changes nothing
abbrev pub after_admit : WaitList → CallRec → WaitList
after_admit list call = if is_new list call then with_call list call else list

abbrev pub admit_answer : WaitList → CallRec → Admit
admit_answer list call = if is_new list call then admit.Taken list.tickets else admit.Old

-- the call with this ticket has left. A fetch keeps the waiters that it was opened with
abbrev pub without_call : WaitList → ℕ → WaitList
without_call list ticket = record list { calls = without_first (λ w. w.ticket == ticket) list.calls }

-- the call waits on this fetch where it is one of the waiters
abbrev pub on_fetch : ℕ → List ℕ → WaitingCall → WaitingCall
on_fetch number waiters w = if has_number waiters w.ticket then record w { fetch = Some number } else w

-- the fetch is pending, with the next number, and its waiters wait on it
unfoldable pub after_open : WaitList → Key → List ℕ → WaitList
after_open list key waiters =
    record list {
      calls = map (λ w. on_fetch list.opened waiters w) list.calls;
      fetches = list.fetches ++ record { number = list.opened; key = key; waiters = waiters } ∷ [];
      opened = list.opened + 1;
    }

abbrev pub waits_on : ℕ → Option ℕ → Bool
waits_on number None = false
waits_on number (Some fetch) = fetch == number

-- the call is free where it waited on this fetch
abbrev pub off_fetch : ℕ → WaitingCall → WaitingCall
off_fetch number w = if waits_on number w.fetch then record w { fetch = None } else w

-- the fetch is no longer pending, and the calls that waited on it are free
unfoldable pub without_fetch : WaitList → ℕ → WaitList
without_fetch list number =
    record list {
      calls = map (λ w. off_fetch number w) list.calls;
      fetches = without_first (λ f. f.number == number) list.fetches;
    }

abbrev pub settled_by : WaitList → ℕ → Option PendingFetch → WaitList
settled_by list number None = list
settled_by list number (Some fetch) = without_fetch list number

-- a number that is not pending changes nothing
abbrev pub after_settle : WaitList → ℕ → WaitList
after_settle list number = settled_by list number (fetch_of list number)

abbrev pub unbound : WaitingCall → WaitingCall
unbound w = record w { fetch = None }

-- no fetch is pending, and each call is free
abbrev pub after_cancel : WaitList → WaitList
after_cancel list = record list { calls = map unbound list.calls; fetches = [] }
