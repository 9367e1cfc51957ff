-- The records of a gather: they ask for the directories whose fetches were opened, and hand on or answer the calls that leave, in the order of the plan.
use Rattle.std.proofs.Common.{◌≡◌, ℕ, ◌+◌, List, [], ◌∷◌, ◌++◌, map, filter_map, Option, Some, None, refl, ap, ◌∙◌, ⊎_elim, inl, inr}
use Rattle.fal_base.specs.declared.key.Key.{Key}
use Rattle.fal_batch.specs.declared.parts.Sending.{Sending}
use Rattle.fal_batch.specs.declared.parts.Sending.TheVariants as sending
use Rattle.fal_batch.specs.declared.parts.Wanted.{Wanted}
use Rattle.fal_batch.specs.Plan.{plan_of}
use Rattle.fal_node.specs.Gather.{setting_at, plan_at, away_letter, away_letters, ask_letter, gather_letters}
use Rattle.fal_node.specs.State.{NodeState}
use Rattle.fal_wait.specs.declared.pending_fetch.PendingFetch.{PendingFetch}
use Rattle.fal_wait.specs.Waiting.{WaitList, call_with_ticket}
use Rattle.fal_wire.specs.declared.letter.Letter.{Letter}
use Rattle.fal_story.proofs.Events.Shows.{IsTidy, askings_of}
use Rattle.fal_story.proofs.Lists.Each.{Each}
use Rattle.fal_story.proofs.Lists.GatherLists.{Leaver, leaver_with, leavers, asked_are, away_are}
use Rattle.fal_story.proofs.Lists.GatherPlan.{asked_of, away_of}
use Rattle.fal_story.proofs.Lists.MadeLists.{made_of}
use Rattle.fal_story.proofs.Lists.OpenedFetches.{keys_of, pending_of}
use Rattle.fal_story.proofs.View.{Asking}
use Rattle.fal_story.proofs.Lists.Members.{IsIn}

-- what a record is for
pub data Errand : Type 0 where
  Asks : Asking → Errand
  Parts : Leaver → Errand

abbrev pub letter_of : NodeState → Errand → Letter
letter_of node (Asks f) = ask_letter node f.number f.key
letter_of node (Parts y) = away_letter node y.call y.to

abbrev pub asking_of : Errand → Option Asking
asking_of (Asks f) = Some f
asking_of (Parts y) = None

abbrev pub leaver_of : Errand → Option Leaver
leaver_of (Asks f) = None
leaver_of (Parts y) = Some y

abbrev parts_of : List Leaver → List Errand
parts_of ys = map (λ y. Parts y) ys

-- the records of a plan, whose fetches have the next numbers
abbrev pub errands_of : WaitList → ℕ → List Sending → List Errand
errands_of list number [] = []
errands_of list number (sending.Away away ∷ sends) = parts_of (made_of leaver_with (call_with_ticket list away.ticket) away) ++ errands_of list number sends
errands_of list number (sending.Fetch key ∷ sends) = Asks (record { number = number; key = key }) ∷ errands_of list (number + 1) sends

letters_errands : (node : NodeState) (number : ℕ) (sends : List Sending) → gather_letters node number sends ≡ map (letter_of node) (errands_of node.waiting number sends)
letters_errands node number [] = refl
letters_errands node number (sending.Away away ∷ sends) =
    elim (call_with_ticket node.waiting away.ticket) as (λ o. away_letters node o away.to ++ gather_letters node number sends ≡ map (letter_of node) (parts_of (made_of leaver_with o away) ++ errands_of node.waiting number sends)) [
      | None ↦ letters_errands node number sends
      | Some call ↦ ap (λ ls. away_letter node call away.to ∷ ls) (letters_errands node number sends)
    ]
letters_errands node number (sending.Fetch key ∷ sends) = ap (λ ls. ask_letter node number key ∷ ls) (letters_errands node (number + 1) sends)

-- keys with the next numbers
abbrev numbered : ℕ → List Key → List Asking
numbered number [] = []
numbered number (key ∷ keys) = record { number = number; key = key } ∷ numbered (number + 1) keys

numbered_are : (number : ℕ) (fetches : List Wanted) → numbered number (keys_of fetches) ≡ askings_of (pending_of number fetches)
numbered_are number [] = refl
numbered_are number (wanted ∷ fetches) = ap (λ fs. record { number = number; key = wanted.key } ∷ fs) (numbered_are (number + 1) fetches)

asks_errands : (list : WaitList) (number : ℕ) (sends : List Sending) → filter_map asking_of (errands_of list number sends) ≡ numbered number (filter_map asked_of sends)
asks_errands list number [] = refl
asks_errands list number (sending.Away away ∷ sends) =
    elim (call_with_ticket list away.ticket) as (λ o. filter_map asking_of (parts_of (made_of leaver_with o away) ++ errands_of list number sends) ≡ numbered number (filter_map asked_of sends)) [
      | None ↦ asks_errands list number sends
      | Some call ↦ asks_errands list number sends
    ]
asks_errands list number (sending.Fetch key ∷ sends) = ap (λ fs. record { number = number; key = key } ∷ fs) (asks_errands list (number + 1) sends)

parts_errands : (list : WaitList) (number : ℕ) (sends : List Sending) → filter_map leaver_of (errands_of list number sends) ≡ leavers list (filter_map away_of sends)
parts_errands list number [] = refl
parts_errands list number (sending.Away away ∷ sends) =
    elim (call_with_ticket list away.ticket) as (λ o. filter_map leaver_of (parts_of (made_of leaver_with o away) ++ errands_of list number sends) ≡ made_of leaver_with o away ++ leavers list (filter_map away_of sends)) [
      | None ↦ parts_errands list number sends
      | Some call ↦ ap (λ ys. leaver_with call away ∷ ys) (parts_errands list number sends)
    ]
parts_errands list number (sending.Fetch key ∷ sends) = parts_errands list (number + 1) sends

-- the letters are those of these records, in this order; the fetches are asked for in their order, and the calls leave in theirs
pub record AreLetters (node : NodeState) (opened : List PendingFetch) (left : List Leaver) (errands : List Errand) (letters : List Letter) : Type 0 where
  pub letters_are : letters ≡ map (letter_of node) errands
  pub asked : filter_map asking_of errands ≡ askings_of opened
  pub parted : filter_map leaver_of errands ≡ left

pub gathered_letters : (node : NodeState) → IsTidy node.waiting
    → AreLetters node (pending_of node.waiting.opened (plan_at node).fetches) (leavers node.waiting (plan_at node).away)
    (errands_of node.waiting node.waiting.opened (plan_at node).sends) (gather_letters node node.waiting.opened (plan_at node).sends)
unfolding plan_at
gathered_letters node t =
    let list = node.waiting in
    let plan = plan_of (setting_at node) list in
    record {
      letters_are = letters_errands node list.opened plan.sends;
      asked = asks_errands list list.opened plan.sends ∙ ap (numbered list.opened) (asked_are (setting_at node) list t) ∙ numbered_are list.opened plan.fetches;
      parted = parts_errands list list.opened plan.sends ∙ ap (leavers list) (away_are (setting_at node) list t);
    }

-- what holds of each record that asks, and of each for a call that leaves, holds of each
pub each_errand : (P : Errand → Type 0) (errands : List Errand) → Each (λ f. P (Asks f)) (filter_map asking_of errands) → Each (λ y. P (Parts y)) (filter_map leaver_of errands) → Each P errands
each_errand P [] asks parts = tt
each_errand P (Asks f ∷ errands) asks parts = (asks.0, each_errand P errands asks.1 parts)
each_errand P (Parts y ∷ errands) asks parts = (parts.0, each_errand P errands asks parts.1)

-- who is asked for, and who leaves, is so by a record
pub asks_in : (errands : List Errand) (f : Asking) → IsIn f (filter_map asking_of errands) → IsIn (Asks f) errands
asks_in [] f at = at
asks_in (Asks g ∷ errands) f at = ⊎_elim (λ here. inl (ap (λ x. Asks x) here)) (λ there. inr (asks_in errands f there)) at
asks_in (Parts y ∷ errands) f at = inr (asks_in errands f at)

pub parts_in : (errands : List Errand) (y : Leaver) → IsIn y (filter_map leaver_of errands) → IsIn (Parts y) errands
parts_in [] y at = at
parts_in (Asks f ∷ errands) y at = inr (parts_in errands y at)
parts_in (Parts z ∷ errands) y at = ⊎_elim (λ here. inl (ap (λ x. Parts x) here)) (λ there. inr (parts_in errands y there)) at
