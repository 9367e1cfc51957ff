-- What an event may be asked for by its row.
use Rattle.std.proofs.Common.{◌≡◌, ℕ, Bool, true, cond, List, Option, Some, None, refl, ap, ◌∙◌, subst}
use Rattle.std.specs.Prelude.{slice_get, is_none}
use Rattle.std.specs.List.{list_all}
use Rattle.fal_base.specs.declared.call.Call.{Call}
use Rattle.fal_base.specs.declared.event.Envelope.{Envelope}
use Rattle.fal_base.specs.declared.rule.RuleChange.{RuleChange}
use Rattle.fal_place.specs.Placement.{is_within}
use Rattle.fal_wire.specs.Messages.{reading}
use Rattle.fal_client.specs.declared.current.Current.{Current}
use Rattle.fal_client.specs.declared.event.ClientEvent.TheVariants.{Send, Get}
use Rattle.fal_base.specs.OpPaths.{bad_path}
use Rattle.fal_client.specs.State.{ClientState, unchanged}
use Rattle.fal_client.specs.Step.{IsInRange, CanMake, is_to_lane, read_step, retried, told_stale, started, sent_next, got, client_step}

pub stale_in_range : (c : ClientState) (current : Current) (old new : ℕ) (changes : List RuleChange) → IsInRange (told_stale c current old new changes)
    → list_all (λ change. is_within c.table.nodes change.rule) changes ≡ true → IsInRange (retried c current old new changes)
unfolding told_stale
stale_in_range c current old new changes range all = subst (λ (b : Bool). IsInRange (cond b (retried c current old new changes) (unchanged c))) all range

pub get_in_range : (c : ClientState) (e : Envelope) → CanMake c (Get e) → is_to_lane c.lane e.to ≡ true → IsInRange (read_step c e.point (reading e.bytes))
unfolding client_step got
get_in_range c e can is = can (read_step c e.point (reading e.bytes)) (ap (got c e) is)

pub no_current : (x : Option Current) → is_none x ≡ true → x ≡ None
no_current None is = refl
no_current (Some x) is = cc

pub send_in_range : (c : ClientState) (call : Call) → CanMake c Send → is_none c.current ≡ true → slice_get c.left 0 ≡ Some call → IsInRange (started c call (bad_path call.op))
unfolding client_step sent_next
send_in_range c call can idle next =
    can (started c call (bad_path call.op)) (ap (λ x. sent_next c x (slice_get c.left 0)) (no_current c.current idle) ∙ ap (sent_next c None) next)
