-- How a call goes on is what its step makes of it.
use Rattle.std.proofs.Common.{◌≡◌, ◌+◌, true, false, cond, List, [], ◌∷◌, Option, Some, None, refl, sym, ap, ◌∙◌, subst}
use Rattle.std.specs.Prelude.{◌<◌, ◌^◌, IsTrue, slice_get}
use Rattle.std.specs.Option.{ForSome}
use Rattle.fal_base.specs.declared.call.CallRec.{CallRec}
use Rattle.fal_base.specs.declared.event.Point.TheVariants.{Here}
use Rattle.fal_base.specs.declared.inode.Dentry.{Dentry}
use Rattle.fal_base.specs.declared.key.Key.{Key}
use Rattle.fal_base.specs.declared.reply.Errno.{Errno}
use Rattle.fal_base.specs.declared.reply.Errno.TheVariants.{Ebusy}
use Rattle.fal_base.specs.declared.reply.Reply.TheVariants.{Fail}
use Rattle.fal_place.specs.Placement.{Placing}
use Rattle.fal_wire.specs.Letters.{reply_letter}
use Rattle.fal_coord.specs.declared.draft.Draft.{Draft}
use Rattle.fal_coord.specs.declared.patch.Next.TheVariants as next
use Rattle.fal_coord.specs.declared.patch.Patch.TheVariants as patch
use Rattle.fal_coord.specs.declared.paths_walk.PathsWalk.{PathsWalk}
use Rattle.fal_coord.specs.declared.paths_walk.PathsWalk.TheVariants.{Stopped, Lacking, Ready}
use Rattle.fal_coord.specs.Begin.{asking, locking, given_up, walked_as, walk_step, placing_by, begun_by, start, start_first, started}
use Rattle.fal_coord.specs.Hear.{learned}
use Rattle.fal_coord.specs.Onward.{walk_of, next_of, walk_letters, place_next, place_letters, begun_next, begun_letters, start_next, start_letters}
use Rattle.fal_coord.specs.Patch.{asked_after, stage_after, walked_call, with_next, started_with, walked_with, patched}
use Rattle.fal_coord.specs.Place.{place_refusal, blocking}
use Rattle.fal_coord.specs.Ready.{Does, DoesOf}
use Rattle.fal_coord.specs.Sound.{are_operations}
use Rattle.fal_coord.specs.State.{CoordState}
use Rattle.fal_coord.specs.Step.{IsInRange}
use Rattle.fal_coord.specs.Walks.{is_busy, is_operation, placing_of}
use Rattle.fal_coord.proofs.Sound.{first_operation}

-- ---- a walk's end

walked_coord : (coord : CoordState) (call : CallRec) (walk : PathsWalk) → (walked_as coord call walk).coord ≡ with_next coord call (next_of coord.table.nodes call.op walk)
unfolding asking locking asked_after stage_after
walked_coord coord call (Stopped errno) = refl
walked_coord coord call (Lacking key) = refl
walked_coord coord call (Ready walks) = refl

walked_sent : (coord : CoordState) (call : CallRec) (walk : PathsWalk) → (walked_as coord call walk).sent ≡ walk_letters coord coord.operation call walk
unfolding asking locking
walked_sent coord call (Stopped errno) = refl
walked_sent coord call (Lacking key) = refl
walked_sent coord call (Ready walks) = refl

walked_notes : (coord : CoordState) (call : CallRec) (walk : PathsWalk) → (walked_as coord call walk).notes ≡ []
unfolding asking locking
walked_notes coord call (Stopped errno) = refl
walked_notes coord call (Lacking key) = refl
walked_notes coord call (Ready walks) = refl

-- ---- a new operation

module _ (coord : CoordState) (calls : List CallRec) (call : CallRec) where
  first_sent : (walk : PathsWalk) → walk_letters (started coord calls) (coord.operation + 1) call walk ≡ walk_letters coord (coord.operation + 1) call walk
  unfolding started
  first_sent (Stopped errno) = refl
  first_sent (Lacking key) = refl
  first_sent (Ready walks) = refl

  placing_coord : (placing : Placing) (refused : Option Errno) → (placing_by (started coord calls) call placing refused).coord ≡ with_next (started coord calls) call (place_next coord.table.nodes refused)
  unfolding started blocking asked_after stage_after
  placing_coord placing None = refl
  placing_coord placing (Some errno) = refl

  placing_sent : (placing : Placing) (refused : Option Errno) → (placing_by (started coord calls) call placing refused).sent ≡ place_letters coord call placing refused
  unfolding started blocking
  placing_sent placing None = refl
  placing_sent placing (Some errno) = refl

  placing_notes : (placing : Placing) (refused : Option Errno) → (placing_by (started coord calls) call placing refused).notes ≡ []
  unfolding blocking
  placing_notes placing None = refl
  placing_notes placing (Some errno) = refl

  begun_coord : (placing : Option Placing) → (begun_by (started coord calls) call placing).coord ≡ with_next (started coord calls) call (begun_next coord call placing)
  unfolding started walk_step
  begun_coord None = walked_coord (started coord calls) call (walk_of coord None call)
  begun_coord (Some placing) = placing_coord placing (place_refusal coord.table call.cred placing)

  begun_sent : (placing : Option Placing) → (begun_by (started coord calls) call placing).sent ≡ begun_letters coord call placing
  unfolding started walk_step
  begun_sent None = walked_sent (started coord calls) call (walk_of coord None call) ∙ first_sent (walk_of coord None call)
  begun_sent (Some placing) = placing_sent placing (place_refusal coord.table call.cred placing)

  begun_notes : (placing : Option Placing) → (begun_by (started coord calls) call placing).notes ≡ []
  unfolding started walk_step
  begun_notes None = walked_notes (started coord calls) call (walk_of coord None call)
  begun_notes (Some placing) = placing_notes placing (place_refusal coord.table call.cred placing)

  start_coord : (start (started coord calls) call).coord ≡ with_next (started coord calls) call (start_next coord call)
  unfolding asked_after stage_after
  start_coord =
      elim (is_busy call.op) as (λ b. (cond b (given_up (started coord calls) call (Here 0) Ebusy) (begun_by (started coord calls) call (placing_of call.op))).coord ≡ with_next (started coord calls) call (cond b next.Rest (begun_next coord call (placing_of call.op)))) [
        | true ↦ refl
        | false ↦ begun_coord (placing_of call.op)
      ]

  start_sent : (start (started coord calls) call).sent ≡ start_letters coord call
  start_sent =
      elim (is_busy call.op) as (λ b. (cond b (given_up (started coord calls) call (Here 0) Ebusy) (begun_by (started coord calls) call (placing_of call.op))).sent ≡ cond b (reply_letter call (Here 0) (Fail Ebusy) ∷ []) (begun_letters coord call (placing_of call.op))) [
        | true ↦ refl
        | false ↦ begun_sent (placing_of call.op)
      ]

  start_notes : (start (started coord calls) call).notes ≡ []
  start_notes =
      elim (is_busy call.op) as (λ b. (cond b (given_up (started coord calls) call (Here 0) Ebusy) (begun_by (started coord calls) call (placing_of call.op))).notes ≡ []) [
        | true ↦ refl
        | false ↦ begun_notes (placing_of call.op)
      ]

  start_operation : (start (started coord calls) call).coord.operation ≡ coord.operation + 1
  unfolding started
  start_operation = ap (λ (c : CoordState). c.operation) start_coord

-- the first call that waits begins
pub first_does : (coord : CoordState) (waiting : List CallRec) (call : CallRec) (draft : Draft) → coord.waiting ≡ waiting → slice_get waiting 0 ≡ Some call
    → draft.patch ≡ patch.Start (start_next coord call) → draft.letters.items ≡ start_letters coord call → draft.notes.items ≡ [] → DoesOf coord (start_first coord waiting) (Some draft)
first_does coord [] call draft at first is sent notes = absurd (cc)
first_does coord (other ∷ calls) call draft at first is sent notes =
    let same : other ≡ call = cc in
    record {
      coord_after = start_coord coord calls other ∙ ap (λ (ws : List CallRec). started_with coord (start_next coord other) ws (slice_get ws 0)) (sym at) ∙ ap (λ (k : CallRec). patched coord (patch.Start (start_next coord k))) same ∙ ap (patched coord) (sym is);
      sent = sent ∙ ap (start_letters coord) (sym same) ∙ sym (start_sent coord calls other);
      notes = notes ∙ sym (start_notes coord calls other);
    }

-- its number is within the range
pub first_below : (coord : CoordState) (waiting : List CallRec) (call : CallRec) → slice_get waiting 0 ≡ Some call → ForSome (start_first coord waiting) IsInRange → coord.operation + 1 < 2 ^ 32
first_below coord [] call first within = absurd (cc)
first_below coord (other ∷ calls) call first within = subst (λ n. n < 2 ^ 32) (start_operation coord calls other) (within (start (started coord calls) other) refl).operation

-- and it is an operation
pub first_is_operation : (waiting : List CallRec) (call : CallRec) → slice_get waiting 0 ≡ Some call → IsTrue (are_operations waiting) → IsTrue (is_operation call.op)
first_is_operation [] call first sound = absurd (cc)
first_is_operation (other ∷ calls) call first sound = let same : other ≡ call = cc in subst (λ (k : CallRec). IsTrue (is_operation k.op)) same (first_operation other calls sound)

-- ---- a directory is learned

module _ (coord : CoordState) (call : CallRec) (key : Key) (dentry : Dentry) where
  learned_sent : (walk : PathsWalk) → walk_letters (learned coord key dentry) coord.operation call walk ≡ walk_letters coord coord.operation call walk
  unfolding learned
  learned_sent (Stopped errno) = refl
  learned_sent (Lacking key) = refl
  learned_sent (Ready walks) = refl

  abbrev learned_walk : PathsWalk
  learned_walk = walk_of coord (Some (record { key = key; dentry = dentry })) call

  -- the walk goes on with it
  pub learn_does : (draft : Draft) → walked_call coord.stage ≡ Some call → draft.patch ≡ patch.Learn key dentry (next_of coord.table.nodes call.op learned_walk)
      → draft.letters.items ≡ walk_letters coord coord.operation call learned_walk → draft.notes.items ≡ [] → Does coord (walk_step (learned coord key dentry) call) draft
  unfolding walk_step learned
  learn_does draft at is sent notes = record {
    coord_after = walked_coord (learned coord key dentry) call learned_walk
        ∙ ap (walked_with (learned coord key dentry) (next_of coord.table.nodes call.op learned_walk)) (sym at) ∙ ap (patched coord) (sym is);
    sent = sent ∙ sym (learned_sent learned_walk) ∙ sym (walked_sent (learned coord key dentry) call learned_walk);
    notes = notes ∙ sym (walked_notes (learned coord key dentry) call learned_walk);
  }
