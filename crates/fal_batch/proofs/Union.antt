-- The keys of a plan: each once, and those of its calls.
use Rattle.std.proofs.Common.{◌≡◌, ℕ, Bool, true, false, ◌||◌, cond, List, [], ◌∷◌, ◌++◌, length, nat_lt, filter_map, Some, None, refl, sym, ap, ap₂, ◌∙◌}
use Rattle.std.specs.List.{cons_option}
use Rattle.std.specs.Option.{option_map}
use Rattle.std.proofs.lemmas.List.Folds.{list_any-append}
use Rattle.fal_base.specs.declared.call.CallRec.{CallRec}
use Rattle.fal_base.specs.declared.key.Key.{Key}
use Rattle.fal_dentry.specs.Walk.{is_among}
use Rattle.fal_wait.specs.declared.waiting_call.WaitingCall.{WaitingCall}
use Rattle.fal_wait.specs.Waiting.{WaitList, call_with_ticket, free_tickets}
use Rattle.fal_batch.specs.declared.parts.Planned.{Planned}
use Rattle.fal_batch.specs.Fate.{Setting, Fate, Skips, Leaves, Waits, Joins, fate}
use Rattle.fal_batch.specs.Keys.{are_distinct}
use Rattle.fal_batch.specs.Plan.{Planning, no_plan, with_away, with_wait, with_planned, after_fate, plan_one, plan_calls, plan_of, free_call, planned_keys, call_keys, IsUnion}
use Rattle.fal_batch.proofs.Truth.{or_false}
use Rattle.fal_batch.proofs.KeyLists.{among_all, distinct_all}
use Rattle.fal_batch.proofs.Joining.{joining_keys}

distinct_fate : (limit : ℕ) (p : Planning) (ticket : ℕ) (f : Fate) → are_distinct p.keys ≡ true → are_distinct (after_fate limit p ticket f).keys ≡ true
unfolding with_away with_wait with_planned
distinct_fate limit p ticket Skips h = h
distinct_fate limit p ticket (Leaves to) h = h
distinct_fate limit p ticket (Waits key) h = h
distinct_fate limit p ticket (Joins denied parent last keys) h =
    elim (nat_lt (length p.calls) limit) as (λ b. are_distinct (cond b (with_planned p (record { ticket = ticket; denied = denied; parent = parent; last = last }) keys) p).keys ≡ true) [
      | true ↦ distinct_all keys p.keys h
      | false ↦ h
    ]

distinct_one : (s : Setting) (p : Planning) (w : WaitingCall) → are_distinct p.keys ≡ true → are_distinct (plan_one s p w).keys ≡ true
unfolding plan_one
distinct_one s p w h = distinct_fate s.limit p w.ticket (fate s w.call) h

pub distinct_calls : (s : Setting) (p : Planning) (calls : List WaitingCall) → are_distinct p.keys ≡ true → are_distinct (plan_calls s p calls).keys ≡ true
distinct_calls s p [] h = h
distinct_calls s p (w ∷ ws) h = distinct_calls s (plan_one s p w) ws (distinct_one s p w h)

module _ (s : Setting) (list : WaitList) where
  has : Key → Planned → Bool
  has key call = is_among key (planned_keys s list call)

  union_fate : (p : Planning) (ticket : ℕ) (call : CallRec) (f : Fate) → call_with_ticket list ticket ≡ Some call → fate s call ≡ f → IsUnion s list p → IsUnion s list (after_fate s.limit p ticket f)
  unfolding with_away with_wait with_planned
  union_fate p ticket call Skips is e h = h
  union_fate p ticket call (Leaves to) is e h = h
  union_fate p ticket call (Waits key) is e h = h
  union_fate p ticket call (Joins denied parent last keys) is e h =
      elim (nat_lt (length p.calls) s.limit) as (λ b. IsUnion s list (cond b (with_planned p (record { ticket = ticket; denied = denied; parent = parent; last = last }) keys) p)) [
        | true ↦ λ key.
            let planned : Planned = record { ticket = ticket; denied = denied; parent = parent; last = last } in
            let own : keys ≡ planned_keys s list planned =
            joining_keys denied parent last keys s call e ∙ ap (λ o. call_keys s o ++ (cond denied [] (last ∷ []))) (sym is) in
            among_all key keys p.keys ∙ ap₂ (λ a b. a || b) (h key) (ap (λ ks. is_among key ks) own ∙ sym (or_false (is_among key (planned_keys s list planned))))
            ∙ sym (list_any-append (λ c. is_among key (planned_keys s list c)) p.calls (planned ∷ []))
        | false ↦ h
      ]

  union_one : (p : Planning) (ticket : ℕ) (call : CallRec) → call_with_ticket list ticket ≡ Some call → IsUnion s list p → IsUnion s list (plan_one s p (record { ticket = ticket; call = call; fetch = None }))
  unfolding plan_one
  union_one p ticket call is h = union_fate p ticket call (fate s call) is refl h

  union_tickets : (p : Planning) (tickets : List ℕ) → IsUnion s list p → IsUnion s list (plan_calls s p (filter_map (λ ticket. free_call list ticket) tickets))
  union_tickets p [] h = h
  union_tickets p (t ∷ ts) h =
      elim (call_with_ticket list t) as (λ o. call_with_ticket list t ≡ o → IsUnion s list (plan_calls s p (cons_option (option_map (λ call. record { ticket = t; call = call; fetch = None }) o) (filter_map (λ ticket. free_call list ticket) ts)))) [
        | None ↦ λ is. union_tickets p ts h
        | Some call ↦ λ is. union_tickets (plan_one s p (record { ticket = t; call = call; fetch = None })) ts (union_one p t call is h)
      ] refl

  pub union_of : IsUnion s list (plan_of s list)
  union_of = union_tickets no_plan (free_tickets list) (λ key. refl)
