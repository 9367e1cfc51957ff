-- The keys that a new batch holds are all those that its calls have.
use Rattle.std.proofs.Common.{◌≡◌, ⊎_elim, Bool, true, ◌||◌, List, [], ◌∷◌, ◌++◌, Some, cond, sym, ap, ◌∙◌, subst}
use Rattle.std.specs.List.{list_any}
use Rattle.fal_base.specs.declared.key.Key.{Key}
use Rattle.fal_batch.specs.declared.parts.Planned.{Planned}
use Rattle.fal_batch.specs.Fate.{Setting, Joins, fate}
use Rattle.fal_batch.specs.Plan.{plan_of, call_keys, planned_keys}
use Rattle.fal_batch.proofs.Joining.{joining_keys}
use Rattle.fal_batch.proofs.Union.{union_of}
use Rattle.fal_dentry.specs.Walk.{is_among}
use Rattle.fal_node.specs.Gather.{setting_at, plan_at, batch_calls}
use Rattle.fal_node.specs.State.{NodeState}
use Rattle.fal_run.specs.declared.call.BatchCall.{BatchCall}
use Rattle.fal_wait.specs.declared.waiting_call.WaitingCall.{WaitingCall}
use Rattle.fal_wait.specs.Waiting.{WaitList, call_with_ticket}
use Rattle.fal_story.proofs.Events.Shows.{IsTidy}
use Rattle.fal_story.proofs.Lists.Each.{Each}
use Rattle.fal_story.proofs.Lists.GatherLists.{call_with, batch_is, apart, joining}
use Rattle.fal_story.proofs.Lists.GatherPlan.{IsJoining}
use Rattle.fal_story.proofs.Lists.Grown.{or_second}
use Rattle.fal_story.proofs.Lists.MadeLists.{each_made, found}
use Rattle.fal_story.proofs.Lists.Members.{IsIn, each_by}

-- these are all the keys that the batch is to hold for the call
abbrev pub HasKeys : Setting → List Key → BatchCall → Type 0
HasKeys s held x = (keys : List Key) → fate s x.call ≡ Joins x.denied x.parent x.last keys → (key : Key) → is_among key keys ≡ true → is_among key held ≡ true

any_in : {A : Type 0} (p : A → Bool) (xs : List A) (x : A) → IsIn x xs → p x ≡ true → list_any p xs ≡ true
any_in p [] x m is = absurd m
any_in p (y ∷ ys) x m is = ⊎_elim (λ e. ap (λ b. b || list_any p ys) (ap p e ∙ is)) (λ r. or_second (p y) (list_any p ys) (any_in p ys x r is)) m

module _ (s : Setting) (list : WaitList) (t : IsTidy list) where
  -- those of a planned call
  own_keys : (w : WaitingCall) (x : Planned) → IsIn w list.calls → IsJoining s w x → IsIn x (plan_of s list).calls → HasKeys s (plan_of s list).keys (call_with w.call x)
  own_keys w x m j there keys is key among =
      let called : call_with_ticket list x.ticket ≡ Some w.call = found call_with (λ (y : Planned). y.ticket) (IsJoining s) (λ v y z. z.0) list (apart s list t) w x m j.0 in
      let same : planned_keys s list x ≡ keys = ap (λ o. call_keys s o ++ (cond x.denied [] (x.last ∷ []))) called ∙ sym (joining_keys x.denied x.parent x.last keys s w.call is) in
      union_of s list key ∙ any_in (λ y. is_among key (planned_keys s list y)) (plan_of s list).calls x there (ap (is_among key) same ∙ among)

  pub keys_held : Each (HasKeys s (plan_of s list).keys) (batch_calls list (plan_of s list).calls)
  keys_held =
      subst (Each (HasKeys s (plan_of s list).keys)) (sym (batch_is list (plan_of s list).calls))
      (each_made call_with (λ (y : Planned). y.ticket) (IsJoining s) (λ v y z. z.0) list (apart s list t) (λ x. IsIn x (plan_of s list).calls) (HasKeys s (plan_of s list).keys)
      (λ w x m free j there. own_keys w x m j there) (plan_of s list).calls (joining s list t) (each_by _ (plan_of s list).calls (λ x m. m)))

-- of a node that gathers
pub node_keys : (node : NodeState) → IsTidy node.waiting → Each (HasKeys (setting_at node) (plan_at node).keys) (batch_calls node.waiting (plan_at node).calls)
unfolding plan_at
node_keys node t = keys_held (setting_at node) node.waiting t
