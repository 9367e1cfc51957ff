-- The queues after an event hold what is due: what came of the envelopes before it, and all that it sent.
use Rattle.std.proofs.Common.{◌≡◌, ℕ, ◌-◌, ◌≤◌, Bool, true, false, List, ◌++◌, length, take, Option, Some, None, refl, sym, ap, ◌∙◌, subst, arith, length-append}
use Rattle.std.specs.Prelude.{slice_get, IsSome}
use Rattle.std.proofs.lemmas.List.{take-append-le}
use Rattle.std.proofs.Math.Seq.{take-length}
use Rattle.fal_base.specs.declared.event.Actor.{Actor}
use Rattle.fal_base.specs.declared.event.Envelope.{Envelope}
use Rattle.fal_base.specs.declared.event.Event.{Event}
use Rattle.fal_base.specs.declared.event.Event.TheVariants as event
use Rattle.fal_story.proofs.Drain.Dues.{Rises, came_snoc, due_rises}
use Rattle.fal_story.proofs.Lists.Grown.{put_other, slice_get_below}
use Rattle.fal_story.proofs.Drain.MovingRuns.{legal_moves}
use Rattle.fal_story.specs.Fresh.{came_with, came}
use Rattle.fal_story.specs.Machines.{Machine}
use Rattle.fal_story.specs.Run.{IsLegal, run, envelopes_at}
use Rattle.fal_story.specs.Told.{Told}
use Rattle.fal_story.specs.World.{World}
use Rattle.fal_alone.specs.Queues.{QueueSeen, actor_at, HoldDue, HaveRoom, TakesItsOwn}
use Rattle.fal_alone.specs.Turns.{world_of, told_envelopes, with_event, sent_count, NextIn}

-- ---- the envelopes before an event are the front of those after it

take_front : (xs ys : List Envelope) → take (length xs) (xs ++ ys) ≡ xs
take_front xs ys = take-append-le (length xs) xs ys (omega arith) ∙ take-length xs

-- the second list begins with the first
pub record BeginsWith (before behind : List Envelope) : Type 0 where
  pub front : take (length before) behind ≡ before
  pub below : length before ≤ length behind

grown : (before behind sent : List Envelope) → behind ≡ before ++ sent → BeginsWith before behind
grown before behind sent is = record {
  front = ap (take (length before)) is ∙ take_front before sent;
  below = let l = ap length is ∙ length-append before sent in omega arith;
}

grows : (o p : Option World) (actor : Actor) (m : Machine) → NextIn o p actor m → BeginsWith (envelopes_at o) (envelopes_at p)
grows None p actor m next = absurd next
grows (Some w) None actor m next = absurd next
grows (Some w) (Some u) actor m next = grown w.envelopes u.envelopes next.sent next.envelopes

-- ---- no envelope came that was not sent

past_next : (xs : List Envelope) (c : ℕ → Bool) (e : Event) → ((k : ℕ) → length xs ≤ k → c k ≡ false) → TakesItsOwn e xs → (k : ℕ) → length xs ≤ k → came_with e c k ≡ false
past_next xs c (event.Get l m) past takes k h = let b = slice_get_below xs m takes.0 takes.1.0 in put_other c m true k (λ z. absurd (omega arith)) ∙ past k h
past_next xs c (event.Deliver n m) past takes k h = let b = slice_get_below xs m takes.0 takes.1.0 in put_other c m true k (λ z. absurd (omega arith)) ∙ past k h
past_next xs c (event.Hear m) past takes k h = let b = slice_get_below xs m takes.0 takes.1.0 in put_other c m true k (λ z. absurd (omega arith)) ∙ past k h
past_next xs c (event.Send l) past takes k h = past k h
past_next xs c (event.Gather n) past takes k h = past k h
past_next xs c (event.Exec n m) past takes k h = past k h
past_next xs c (event.Release n m) past takes k h = past k h
past_next xs c (event.Serve n m) past takes k h = past k h
past_next xs c event.Start past takes k h = past k h

past_told : (told : Told) → IsLegal told.config told.events → (k : ℕ) → length (told_envelopes told) ≤ k → came told.events k ≡ false
past_told told legal =
    elim (run told.config told.events) as (λ o. run told.config told.events ≡ o → IsSome o → (k : ℕ) → length (envelopes_at o) ≤ k → came told.events k ≡ false) [
      | None ↦ λ r some. absurd (cc)
      | Some w ↦ λ r some k h. (legal_moves told.config told.events w legal r).1.past k h
    ] refl legal.enabled

-- ---- what settling and catching up need

-- the numbers of a queue rise
pub held_rises : (lanes : ℕ) (told : Told) (queues : List QueueSeen) → HoldDue lanes (came told.events) (told_envelopes told) queues → (place : ℕ) (queue : QueueSeen) → slice_get queues place ≡ Some queue → Rises 0 queue.items
held_rises lanes told queues held place queue at = subst (Rises 0) (sym (held place queue at)) (due_rises (actor_at lanes place) (came told.events) 0 (told_envelopes told))

-- a book after an event, and how many envelopes there were before it
pub record IsAfter (told book : Told) (e : Event) (from : ℕ) : Type 0 where
  pub is : book ≡ with_event told e
  pub count : from ≡ length (told_envelopes told)
  pub begins : BeginsWith (told_envelopes told) (told_envelopes (with_event told e))

-- so it is after an event of an actor
pub after_event : (told book : Told) (e : Event) (from : ℕ) (actor : Actor) (m : Machine) → book ≡ with_event told e → from ≡ length (told_envelopes told) → NextIn (world_of told) (world_of (with_event told e)) actor m → IsAfter told book e from
after_event told book e from actor m is count next = record { is = is; count = count; begins = grows (world_of told) (world_of (with_event told e)) actor m next }

-- what came is settled, and the queues hold what is due of the front
pub front_held : (lanes from : ℕ) (told book : Told) (e : Event) (queues : List QueueSeen) → IsAfter told book e from → HoldDue lanes (came_with e (came told.events)) (told_envelopes told) queues
    → HoldDue lanes (came book.events) (take from (told_envelopes book)) queues
front_held lanes from told book e queues after held =
    subst (λ (b : Told). HoldDue lanes (came b.events) (take from (told_envelopes b)) queues) (sym after.is)
    (subst (λ c. HoldDue lanes c (take from (told_envelopes (with_event told e))) queues) (sym (came_snoc told.events e))
    (subst (λ xs. HoldDue lanes (came_with e (came told.events)) xs queues) (sym (ap (λ n. take n (told_envelopes (with_event told e))) after.count ∙ after.begins.front)) held))

-- none of the others came
pub rest_fresh : (from : ℕ) (told book : Told) (e : Event) → IsAfter told book e from → IsLegal told.config told.events → TakesItsOwn e (told_envelopes told) → (k : ℕ) → from ≤ k → came book.events k ≡ false
rest_fresh from told book e after legal takes k h =
    ap (λ (b : Told). came b.events k) after.is ∙ ap (λ c. c k) (came_snoc told.events e)
    ∙ past_next (told_envelopes told) (came told.events) e (past_told told legal) takes k (let f = after.count in omega arith)

-- there is room for them
pub rest_fits : (from : ℕ) (told book : Told) (e : Event) (queues : List QueueSeen) → IsAfter told book e from → HaveRoom (sent_count told e) queues → HaveRoom (length (told_envelopes book) - from) queues
rest_fits from told book e queues after room =
    subst (λ n. HaveRoom n queues) (sym (ap (λ (b : Told). length (told_envelopes b) - from) after.is ∙ ap (λ n. length (told_envelopes (with_event told e)) - n) after.count)) room
