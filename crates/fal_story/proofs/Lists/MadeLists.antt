-- What is made of some calls of a waiting list, which are told by their tickets.
use Rattle.std.proofs.Common.{◌≡◌, ◌≢◌, inl, ⊎_elim, ℕ, List, [], ◌∷◌, ◌++◌, Option, Some, None, sym, ap, subst, ◌∙◌}
use Rattle.fal_base.specs.declared.call.CallRec.{CallRec}
use Rattle.fal_wait.specs.declared.waiting_call.WaitingCall.{WaitingCall}
use Rattle.fal_wait.specs.Waiting.{WaitList, call_with_ticket}
use Rattle.fal_story.proofs.Events.Shows.{lane_of}
use Rattle.fal_story.proofs.Lists.Each.{Each, Apart}
use Rattle.fal_story.proofs.Lists.GatherPlan.{Picked}
use Rattle.fal_story.proofs.Lists.Members.{IsIn, in_back, each_in, apart_same}
use Rattle.fal_story.proofs.Lists.WaitLists.{call_found}

-- with the call's record, where it is there
abbrev pub made_of : {A B : Type 0} → (CallRec → A → B) → Option CallRec → A → List B
made_of f None x = []
made_of f (Some call) x = f call x ∷ []

abbrev pub made : {A B : Type 0} → (CallRec → A → B) → (A → ℕ) → WaitList → List A → List B
made f ticket list [] = []
made f ticket list (x ∷ xs) = made_of f (call_with_ticket list (ticket x)) x ++ made f ticket list xs

module _ {A B : Type 0} (f : CallRec → A → B) (ticket : A → ℕ) (Is : WaitingCall → A → Type 0) (same : (w : WaitingCall) (x : A) → Is w x → w.ticket ≡ ticket x)
    (list : WaitList) (apart : Apart (λ w. w.ticket) list.calls) where
  pub found : (w : WaitingCall) (x : A) → IsIn w list.calls → w.ticket ≡ ticket x → call_with_ticket list (ticket x) ≡ Some w.call
  found w x m is = ap (call_with_ticket list) (sym is) ∙ each_in (λ v. call_with_ticket list v.ticket ≡ Some v.call) list.calls w (call_found list apart) m

  -- what holds of each with its call's record holds of each that is made
  pub each_made : (R : A → Type 0) (Q : B → Type 0) → ((w : WaitingCall) (x : A) → IsIn w list.calls → w.fetch ≡ None → Is w x → R x → Q (f w.call x)) → (xs : List A) → Each (Picked Is list.calls) xs → Each R xs
      → Each Q (made f ticket list xs)
  each_made R Q holds [] j r = tt
  each_made R Q holds (x ∷ xs) j r =
      subst (λ o. Each Q (made_of f o x ++ made f ticket list xs)) (sym (found j.0.0 x j.0.1.0 (same j.0.0 x j.0.1.2)))
      (holds j.0.0 x j.0.1.0 j.0.1.1 j.0.1.2 r.0, each_made R Q holds xs j.1 r.1)

  -- those made of calls of several lanes are of several lanes
  pub apart_made : (lane : B → ℕ) → ((c : CallRec) (x : A) → lane (f c x) ≡ c.id.client) → Apart lane_of list.calls → (xs : List A) → Apart ticket xs → Each (Picked Is list.calls) xs → Apart lane (made f ticket list xs)
  apart_made lane by lanes [] a j = tt
  apart_made lane by lanes (x ∷ xs) a j =
      let w = j.0.0 in
      let one = λ (v : WaitingCall) (y : A) (m : IsIn v list.calls) (e : lane (f v.call y) ≡ lane (f w.call x)). apart_same lane_of list.calls v w lanes m j.0.1.0 (sym (by v.call y) ∙ e ∙ by w.call x) in
      let others = each_made (λ y. ticket y ≢ ticket x) (λ b. lane b ≢ lane (f w.call x))
      (λ v y m free is ne e. ne (sym (same v y is) ∙ ap (λ (z : WaitingCall). z.ticket) (one v y m e) ∙ same w x j.0.1.2)) xs j.1 a.0 in
      subst (λ o. Apart lane (made_of f o x ++ made f ticket list xs)) (sym (found w x j.0.1.0 (same w x j.0.1.2))) (others, apart_made lane by lanes xs a.1 j.1)

  -- of a call with the ticket it is made
  pub in_made : (xs : List A) (x : A) → IsIn x xs → (w : WaitingCall) → IsIn w list.calls → w.ticket ≡ ticket x → IsIn (f w.call x) (made f ticket list xs)
  in_made [] x m w there is = absurd m
  in_made (y ∷ ys) x m w there is =
      ⊎_elim
      (λ e. subst (λ o. IsIn (f w.call x) (made_of f o y ++ made f ticket list ys)) (sym (ap (λ z. call_with_ticket list (ticket z)) e ∙ found w x there is)) (inl (ap (f w.call) e)))
      (λ r. in_back (made_of f (call_with_ticket list (ticket y)) y) (made f ticket list ys) (f w.call x) (in_made ys x r w there is))
      m
