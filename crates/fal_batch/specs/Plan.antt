-- What a node does with the free calls that wait at it: they are gone through in the order of their arrival.
use Rattle.std.specs.Prelude.{◌≡◌, ℕ, Bool, true, false, not, ◌&&◌, List, [], ◌∷◌, ◌++◌, length, map, filter, fold, filter_map, Option, Some, None, if◌then◌else◌, ◌==◌, nat_lt, IsTrue}
use Rattle.std.specs.Option.{option_map}
use Rattle.std.specs.List.{list_any, list_all}
use Rattle.fal_base.specs.declared.call.CallRec.{CallRec}
use Rattle.fal_base.specs.declared.key.Key.{Key}
use Rattle.fal_base.specs.Tree.{same_key}
use Rattle.fal_dentry.specs.Walk.{is_among}
use Rattle.fal_wait.specs.declared.waiting_call.WaitingCall.{WaitingCall}
use Rattle.fal_wait.specs.Waiting.{WaitList, free_tickets, call_with_ticket}
use Rattle.fal_batch.specs.declared.parts.Away.{Away}
use Rattle.fal_batch.specs.declared.parts.Wanted.{Wanted}
use Rattle.fal_batch.specs.declared.parts.Planned.{Planned}
use Rattle.fal_batch.specs.declared.parts.Sending.{Sending}
use Rattle.fal_batch.specs.declared.parts.Sending.TheVariants as sending
use Rattle.fal_batch.specs.Fate.{Setting, Fate, Skips, Leaves, Waits, Joins, fate, walk_of, walked_keys}
use Rattle.fal_base.specs.OpPaths.{op_names}
use Rattle.fal_batch.specs.Keys.{with_keys, are_distinct}

-- the calls that leave, the fetches to open, the records to send for both in their order, the calls of the batch, and the keys that it is to hold
pub record Planning : Type 0 where
  pub away : List Away
  pub fetches : List Wanted
  pub sends : List Sending
  pub calls : List Planned
  pub keys : List Key

abbrev pub no_plan : Planning
no_plan = record { away = []; fetches = []; sends = []; calls = []; keys = [] }

-- the call with a free ticket, if it is there
abbrev pub free_call : WaitList → ℕ → Option WaitingCall
free_call list ticket = option_map (λ call. record { ticket = ticket; call = call; fetch = None }) (call_with_ticket list ticket)

-- the calls without a pending fetch, in the order of their arrival
abbrev pub free_calls : WaitList → List WaitingCall
free_calls list = filter_map (λ ticket. free_call list ticket) (free_tickets list)

-- one more call leaves
unfoldable pub with_away : Planning → Away → Planning
with_away plan away = record plan { away = plan.away ++ away ∷ []; sends = plan.sends ++ sending.Away away ∷ [] }

-- whether a fetch of the key is to be opened
abbrev pub is_wanted : List Wanted → Key → Bool
is_wanted fetches key = list_any (λ wanted. same_key wanted.key key) fetches

-- one more call waits on the fetch of the key
abbrev pub with_waiter : List Wanted → Key → ℕ → List Wanted
with_waiter [] key ticket = record { key = key; waiters = ticket ∷ [] } ∷ []
with_waiter (wanted ∷ others) key ticket =
    if same_key wanted.key key then record wanted { waiters = wanted.waiters ++ ticket ∷ [] } ∷ others else wanted ∷ with_waiter others key ticket

-- a fetch is sent for once, at its first call
unfoldable pub with_wait : Planning → Key → ℕ → Planning
with_wait plan key ticket =
    record plan {
      fetches = with_waiter plan.fetches key ticket;
      sends = if is_wanted plan.fetches key then plan.sends else plan.sends ++ sending.Fetch key ∷ [];
    }

-- one more call joins the batch, which holds these keys for it
unfoldable pub with_planned : Planning → Planned → List Key → Planning
with_planned plan call keys = record plan { calls = plan.calls ++ call ∷ []; keys = with_keys plan.keys keys }

-- a call that would join a full batch is skipped
abbrev pub after_fate : ℕ → Planning → ℕ → Fate → Planning
after_fate limit plan ticket Skips = plan
after_fate limit plan ticket (Leaves to) = with_away plan (record { ticket = ticket; to = to })
after_fate limit plan ticket (Waits key) = with_wait plan key ticket
after_fate limit plan ticket (Joins denied parent last keys) =
    if nat_lt (length plan.calls) limit then with_planned plan (record { ticket = ticket; denied = denied; parent = parent; last = last }) keys else plan

-- the plan after one more free call
unfoldable pub plan_one : Setting → Planning → WaitingCall → Planning
plan_one s plan waiting = after_fate s.limit plan waiting.ticket (fate s waiting.call)

abbrev pub plan_calls : Setting → Planning → List WaitingCall → Planning
plan_calls s plan calls = fold (λ plan waiting. plan_one s plan waiting) plan calls

-- the plan after the call, where there is one
abbrev pub plan_if : Setting → Planning → Option WaitingCall → Planning
plan_if s plan None = plan
plan_if s plan (Some waiting) = plan_one s plan waiting

-- the plan for all the free calls
abbrev pub plan_of : Setting → WaitList → Planning
plan_of s list = plan_calls s no_plan (free_calls list)

-- whether the plan does nothing
abbrev pub is_idle : Planning → Bool
is_idle plan = (length plan.away == 0) && (length plan.fetches == 0) && (length plan.calls == 0)

abbrev pub is_skipped_by : ℕ → Fate → Bool
is_skipped_by limit Skips = true
is_skipped_by limit (Leaves to) = false
is_skipped_by limit (Waits key) = false
is_skipped_by limit (Joins denied parent last keys) = limit == 0

-- whether the call is skipped even before an empty batch
abbrev pub is_skipped : Setting → CallRec → Bool
is_skipped s call = is_skipped_by s.limit (fate s call)

abbrev pub is_joining_by : ℕ → Fate → Bool
is_joining_by limit Skips = false
is_joining_by limit (Leaves to) = false
is_joining_by limit (Waits key) = false
is_joining_by limit (Joins denied parent last keys) = nat_lt 0 limit

-- whether the call joins an empty batch
abbrev pub is_joining : Setting → CallRec → Bool
is_joining s call = is_joining_by s.limit (fate s call)

-- the keys that the walk of a call finds
abbrev pub path_keys : Setting → CallRec → Option (List (List ℕ)) → List Key
path_keys s call None = []
path_keys s call (Some names) = walked_keys (walk_of s call names)

abbrev pub call_keys : Setting → Option CallRec → List Key
call_keys s None = []
call_keys s (Some call) = path_keys s call (op_names call.op)

-- the keys of a planned call: those that its walk finds, and the last one where it is not denied
abbrev pub planned_keys : Setting → WaitList → Planned → List Key
planned_keys s list call = call_keys s (call_with_ticket list call.ticket) ++ (if call.denied then [] else call.last ∷ [])

-- a key is to be held exactly where some planned call has it
abbrev pub IsUnion : Setting → WaitList → Planning → Type 0
IsUnion s list plan = (key : Key) → is_among key plan.keys ≡ list_any (λ call. is_among key (planned_keys s list call)) plan.calls

-- there is no planned call exactly where no free call joins
abbrev pub IsEmptyWhereNoneJoins : Setting → WaitList → Planning → Type 0
IsEmptyWhereNoneJoins s list plan = (length plan.calls == 0) ≡ not (list_any (λ w. is_joining s w.call) (free_calls list))

-- the plan does nothing exactly where each free call is skipped
abbrev pub IsIdleWhereAllAreSkipped : Setting → WaitList → Planning → Type 0
IsIdleWhereAllAreSkipped s list plan = is_idle plan ≡ list_all (λ w. is_skipped s w.call) (free_calls list)

abbrev pub waits_for_by : Key → Fate → Bool
waits_for_by key Skips = false
waits_for_by key (Leaves to) = false
waits_for_by key (Waits other) = same_key other key
waits_for_by key (Joins denied parent last keys) = false

-- whether the call waits on a fetch of this key
abbrev pub waits_for : Setting → Key → CallRec → Bool
waits_for s key call = waits_for_by key (fate s call)

-- the tickets that wait on the fetch of the key
abbrev pub waiters_of : List Wanted → Key → List ℕ
waiters_of [] key = []
waiters_of (wanted ∷ others) key = if same_key wanted.key key then wanted.waiters else waiters_of others key

-- all the free calls that wait on a fetch of one key share one fetch
pub record IsShared (s : Setting) (list : WaitList) (plan : Planning) : Type 0 where
  pub one : IsTrue (are_distinct (map (λ wanted. wanted.key) plan.fetches))
  pub waiters : (key : Key) → waiters_of plan.fetches key ≡ map (λ w. w.ticket) (filter (λ w. waits_for s key w.call) (free_calls list))

-- whether no two of the calls have one ticket
abbrev pub tickets_differ : List WaitingCall → Bool
tickets_differ [] = true
tickets_differ (w ∷ ws) = not (list_any (λ other. other.ticket == w.ticket) ws) && tickets_differ ws
