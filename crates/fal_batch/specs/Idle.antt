-- Whether a call is skipped, told from where its walk ends alone.
use Rattle.std.specs.Prelude.{ℕ, Bool, true, false, not, ◌&&◌, List, Option, Some, None, if◌then◌else◌, ◌==◌, slice_get}
use Rattle.std.specs.Option.{option_and_then}
use Rattle.fal_base.specs.declared.key.Key.{Key}
use Rattle.fal_dentry.specs.Walk.{ReplicaWalk, Shut, Missing, Stop, Ready, is_among}
use Rattle.fal_dentry.specs.TreeWalk.{last_name, last_key}
use Rattle.fal_place.specs.Placement.{owner}
use Rattle.fal_wait.specs.declared.waiting_call.WaitingCall.{WaitingCall}
use Rattle.fal_wait.specs.Waiting.{WaitList, free_tickets}
use Rattle.fal_batch.specs.declared.ending.Ending.{Ending}
use Rattle.fal_batch.specs.declared.ending.Ending.TheVariants as ending
use Rattle.fal_batch.specs.Fate.{Setting, last_of, goes_by_parent}
use Rattle.fal_batch.specs.Plan.{free_call, is_skipped}

-- without the keys and the numbers on the way
abbrev pub ending_of : ReplicaWalk → Ending
ending_of (Shut key) = ending.Shut
ending_of (Missing key keys) = ending.Missing
ending_of (Stop errno keys) = ending.Stop
ending_of (Ready parent inos keys) = ending.Ready parent

-- whether a call is skipped that has reached this key
abbrev pub is_skipped_at : Setting → Bool → Key → Bool
is_skipped_at s by_parent last =
    if by_parent && not (owner s.table last == s.me) then false else
    if is_among last s.shut then true else s.limit == 0

-- whether a call is skipped whose walk ends so
abbrev pub is_skipped_after : Setting → List (List ℕ) → Ending → Bool
is_skipped_after s names ending.Shut = true
is_skipped_after s names ending.Missing = false
is_skipped_after s names ending.Stop = s.limit == 0
is_skipped_after s names (ending.Ready parent) = is_skipped_at s (goes_by_parent s.table (last_of names)) (last_key parent (last_name names))

-- whether the call is skipped, if there is one
abbrev pub is_skipped_if : Setting → Option WaitingCall → Bool
is_skipped_if s None = true
is_skipped_if s (Some waiting) = is_skipped s waiting.call

-- the call of the free ticket at this place
abbrev pub free_call_at : WaitList → ℕ → Option WaitingCall
free_call_at list at = option_and_then (λ ticket. free_call list ticket) (slice_get (free_tickets list) at)
