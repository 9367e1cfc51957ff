-- The call that is under way is the ghost's.
use Rattle.std.proofs.Common.{◌≡◌, ⊎_elim, ℕ, Bool, true, ◌++◌, sym, ap, subst, ◌∙◌, arith}
use Rattle.fal_base.specs.declared.call.CallId.{CallId}
use Rattle.fal_base.specs.declared.call.CallRec.{CallRec}
use Rattle.fal_base.specs.declared.call.Config.{Config}
use Rattle.fal_base.specs.declared.event.Actor.TheVariants.{Node}
use Rattle.fal_base.specs.Marks.{mark_of, last_mark, is_newer}
use Rattle.fal_coord.specs.declared.stage.Stage.{Stage}
use Rattle.fal_coord.specs.declared.stage.Stage.TheVariants as stage
use Rattle.fal_wire.specs.declared.message.Message.TheVariants as message
use Rattle.fal_story.proofs.Drain.Follow.{IsUnder, Asked, Waiting, Planned, Hosted, Answered, Stale, Opened, IsLast, calls_of, hosted, marks_in}
use Rattle.fal_story.proofs.Events.Shows.{Ghost, Shows, IsCurrent, WaitsAt, WaitsThere, PlannedAt, calls_in, posts_of}
use Rattle.fal_story.proofs.Lists.Members.{IsIn, each_in}
use Rattle.fal_story.proofs.Phase as place
use Rattle.fal_story.proofs.View.{IsPosted}
use Rattle.fal_story.specs.World.{World}

-- a record that is newer is that of the call under way
pub asked_by : (config : Config) (w : World) (n : ℕ) (h : Ghost) (e p : ℕ) (c : CallRec) → Shows config w h → IsPosted (posts_of w.envelopes) e (Node n) p (message.Call c) → is_newer (mark_of c.id) (last_mark (marks_in w n) c.id.client) ≡ true
    → (c ≡ h.call c.id.client) × (h.phase c.id.client ≡ place.Asked n)
asked_by config w n h e p c s at newer = ⊎_elim (λ y. y) (λ old. absurd (cc)) (s.good.records.requests e n p c at)

-- a call that the coordinator keeps is its lane's
pub hosted_is : (config : Config) (w : World) (h : Ghost) (c : CallRec) → Shows config w h → IsIn c (hosted w.coord) → c ≡ h.call c.id.client
hosted_is config w h c s at = by_stage w.coord.stage s.beside.hosts.current at
  where
    waiter : IsIn c w.coord.waiting → c ≡ h.call c.id.client
    waiter here = (each_in (WaitsThere h.call h.phase) w.coord.waiting c s.beside.hosts.waiters here).1

    this : (d : CallRec) → d ≡ h.call d.id.client → d ≡ c → c ≡ h.call c.id.client
    this d is same = subst (λ (k : CallRec). k ≡ h.call k.id.client) same is

    by_stage : (t : Stage) → IsCurrent config.nodes w.coord.table h.call h.phase t → IsIn c (calls_of t ++ w.coord.waiting) → c ≡ h.call c.id.client
    by_stage stage.Idle current here = waiter here
    by_stage (stage.Walk call fetch key) current here = ⊎_elim (λ same. this call current.0 same) waiter here
    by_stage (stage.Lock operation missing rows) current here = ⊎_elim (λ same. this operation.call current.0 same) waiter here
    by_stage (stage.Count operation rows dir updates missing counts) current here = ⊎_elim (λ same. this operation.call current.0 same) waiter here
    by_stage (stage.Finish keys updates missing) current here = waiter here
    by_stage (stage.Block call missing rows) current here = ⊎_elim (λ same. this call current.0 same) waiter here
    by_stage (stage.Install call missing) current here = waiter here

-- a lane's last call that is under way, while its record to an actor was not taken yet
pub live_is : (config : Config) (w : World) (came : ℕ → Bool) (n : ℕ) (h : Ghost) (id : CallId) → Shows config w h → IsUnder (posts_of w.envelopes) came (marks_in w) w.nodes w.coord id → IsLast w id
    → h.phase id.client ≡ place.Asked n → id ≡ (h.call id.client).id
live_is config w came n h id s (Asked k p m call at fresh is newer suited) last asked =
    let new = subst (λ (j : CallId). is_newer (mark_of j) (last_mark (marks_in w m) j.client) ≡ true) (sym is) newer in
    sym is ∙ ap (λ (c : CallRec). c.id) (asked_by config w m h k p call s at new).0 ∙ ap (λ (j : CallId). (h.call j.client).id) is
live_is config w came n h id s (Waiting m x at is) last asked =
    sym is ∙ ap (λ (c : CallRec). c.id) (each_in (WaitsAt h.call h.phase m) (w.nodes m).waiting.calls x (s.held m).waiters at).1 ∙ ap (λ (j : CallId). (h.call j.client).id) is
live_is config w came n h id s (Planned m x at is) last asked =
    sym is ∙ ap (λ (c : CallRec). c.id) (each_in (PlannedAt h.call h.phase m) (calls_in (w.nodes m).batches) x (s.held m).planned at).1 ∙ ap (λ (j : CallId). (h.call j.client).id) is
live_is config w came n h id s (Hosted c at is) last asked = sym is ∙ ap (λ (c : CallRec). c.id) (hosted_is config w h c s at) ∙ ap (λ (j : CallId). (h.call j.client).id) is
live_is config w came n h id s (Answered k p reply at fresh) last asked =
    let now = last.0 in
    absurd (⊎_elim
    (λ low. omega arith)
    (λ z. ⊎_elim (λ idle. let wrong : place.Asked n ≡ place.Idle = sym asked ∙ idle in cc) (λ told. let wrong : place.Asked n ≡ place.Tells (place.Replies p reply) = sym asked ∙ told in cc) z.1)
    (s.good.records.responses k id.client p (message.Reply id reply) at).1)
live_is config w came n h id s (Stale k p old new changes at fresh) last asked =
    let now = last.0 in
    let attempt : id.attempt ≡ (h.call id.client).id.attempt = sym last.1.1.1 ∙ ((s.heard id.client).some last.1.0 last.1.1.0).2 in
    absurd (⊎_elim
    (λ older. ⊎_elim (λ low. omega arith) (λ less. let below = less.1 in omega arith) older)
    (λ y. ⊎_elim
    (λ live. let wrong : place.Asked n ≡ place.Told old new = sym asked ∙ live.1 in cc)
    (λ listed. ⊎_elim
    (λ idle. let wrong : place.Asked n ≡ place.Idle = sym asked ∙ idle in cc)
    (λ asks. let wrong : place.Asked n ≡ place.Tells (place.Lists asks.0 listed.0) = sym asked ∙ asks.1 in cc)
    listed.1.1)
    y)
    (s.good.knowing.stale k p id.client id old new changes at).3)
live_is config w came n h id s (Opened k p dir at fresh) last asked =
    let now = last.0 in
    absurd (⊎_elim
    (λ low. omega arith)
    (λ z. ⊎_elim
    (λ idle. let wrong : place.Asked n ≡ place.Idle = sym asked ∙ idle in cc)
    (λ told. ⊎_elim
    (λ opens. let wrong : place.Asked n ≡ place.Tells (place.Opens p dir) = sym asked ∙ opens in cc)
    (λ lists. let wrong : place.Asked n ≡ place.Tells (place.Lists p dir) = sym asked ∙ lists in cc)
    told)
    z.1)
    (s.good.records.responses k id.client p (message.Opened id dir) at).1)
