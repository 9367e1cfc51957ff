-- The coordinator walks for a call that it has begun with: what is known then, and how it gives the call up.
use Rattle.std.proofs.Common.{◌≡◌, ◌≢◌, inr, ℕ, ◌≤◌, List, [], length, None, refl, sym, ap, ◌∙◌, subst}
use Rattle.fal_base.specs.declared.call.CallRec.{CallRec}
use Rattle.fal_base.specs.declared.call.Config.{Config}
use Rattle.fal_base.specs.declared.event.Point.{Point}
use Rattle.fal_base.specs.declared.key.Key.{Key}
use Rattle.fal_base.specs.declared.reply.Errno.{Errno}
use Rattle.fal_base.specs.declared.reply.Reply.TheVariants.{Fail}
use Rattle.fal_base.specs.Answer.{answer}
use Rattle.fal_base.specs.Commits.{tree_at}
use Rattle.fal_coord.specs.declared.stage.Stage.{Stage}
use Rattle.fal_coord.specs.declared.stage.Stage.TheVariants as stage
use Rattle.fal_coord.specs.Begin.{given_up}
use Rattle.fal_coord.specs.State.{CoordState, begun, at_stage}
use Rattle.fal_run.specs.declared.call.BatchCall.{BatchCall}
use Rattle.fal_wire.specs.declared.letter.Letter.{Letter}
use Rattle.fal_wire.specs.Letters.{reply_letter}
use Rattle.fal_story.proofs.Coordinator.AtStage.{seen}
use Rattle.fal_story.proofs.Coordinator.CoordMoves.{IsThere, moved_heard, moved_held, moved_holds, moved_waiters}
use Rattle.fal_story.proofs.Coordinator.CoordSends.{coord_sends}
use Rattle.fal_story.proofs.Events.GotEvent.{AllFit}
use Rattle.fal_story.proofs.Events.HeldCalls.{AsksNone}
use Rattle.fal_story.proofs.Events.InCoord.{InCoord, EndsCoord, coord_ends, view_at, view_started}
use Rattle.fal_story.proofs.Events.Shows.{Ghost, Shows, Held, Heard, Holds, IsCurrent, IsNumbered, WaitsThere, askings_of, calls_in, last_of, listed_of, locks_in, operating, shut_of}
use Rattle.fal_story.proofs.Families.Lanes.{positive}
use Rattle.fal_story.proofs.Good.{Good}
use Rattle.fal_story.proofs.Lists.Each.{Apart, Each}
use Rattle.fal_story.proofs.Lists.Grown.{put_same}
use Rattle.fal_story.proofs.Phase.{Phase, Idle, Waits, Plans, Tells, Replies, IsHeld, IsUnanswered}
use Rattle.fal_story.proofs.Steps.Carried.{given_up_good}
use Rattle.fal_story.proofs.Steps.Refused.{refused_right}
use Rattle.fal_story.proofs.View.{View, Rests, Walks}
use Rattle.fal_story.specs.World.{World, put, point_of}

-- the view while it walks for the lane's call, and asks for nothing
abbrev pub walking : Config → World → CoordState → Ghost → ℕ → View
walking config w coord h l = record (seen config w coord h) {
  fetches = put (λ m. askings_of (w.nodes m).waiting.fetches) 255 [];
  op = record (operating config (shut_of w.nodes) (last_of w.nodes) coord h) { work = Walks l };
}

-- it walks for this call, which is none of those that wait
pub record IsWalking (config : Config) (w : World) (coord : CoordState) (h : Ghost) (c : CallRec) : Type 0 where
  pub good : Good config (walking config w coord h c.id.client)
  pub held : (n : ℕ) → Held h.call h.phase n (w.nodes n).waiting.calls (calls_in (w.nodes n).batches)
  pub heard : (l : ℕ) → Heard config h.call h.phase l (w.clients l)
  pub queues : (n : ℕ) → locks_in (w.nodes n).items ≡ listed_of (h.queued n)
  pub holding : (n : ℕ) → Holds h.phase h.crossed n (w.nodes n)
  pub nodes : coord.table.nodes ≡ config.nodes
  pub numbered : coord.table.version ≤ coord.operation
  pub waiters : Each (WaitsThere h.call h.phase) coord.waiting
  pub apart : Apart (λ (k : CallRec). k.id.client) coord.waiting
  pub others : Each (λ (k : CallRec). k.id.client ≢ c.id.client) coord.waiting
  pub is : c ≡ h.call c.id.client
  pub waits : h.phase c.id.client ≡ Waits 255 None

module _ (config : Config) (w : World) (coord : CoordState) (h : Ghost) (c : CallRec) (s : IsWalking config w coord h c) where
  abbrev l : ℕ
  l = c.id.client

  pub live : IsUnanswered (h.phase l)
  live = subst IsUnanswered (sym s.waits) tt

  pub held_there : IsHeld 255 (h.phase l)
  held_there = subst (IsHeld 255) (sym s.waits) refl

  -- the call goes on, and the coordinator is at another stage
  pub goes_on : (asked : ℕ) (at : Stage) (sent : List Letter) (q : Phase) (rests : ℕ → List Key) → q ≢ Idle → ((n : ℕ) (x : BatchCall) → q ≢ Plans n x) → AsksNone q → ((a : ℕ) → a ≢ l → h.crossed a ≡ rests a)
      → IsCurrent config.nodes coord.table h.call (put h.phase l q) at → IsNumbered coord.table.version coord.operation at
      → Good config (view_at config w (record { coord = record coord { asked = asked; stage = at }; sent = sent; notes = [] }) (record h { phase = put h.phase l q; crossed = rests }))
      → InCoord config w (record { coord = record coord { asked = asked; stage = at }; sent = sent; notes = [] }) (record h { phase = put h.phase l q; crossed = rests })
  goes_on asked at sent q rests busy unplanned none same current numbered good =
      let there : IsThere (h.phase l) = subst IsThere (sym s.waits) refl in
      record {
        good = good;
        held = λ n. moved_held h.call h.phase l q there busy unplanned n (w.nodes n).waiting.calls (calls_in (w.nodes n).batches) (s.held n);
        heard = moved_heard h.call h.phase l q there busy unplanned none config w s.heard;
        beside = record {
          queues = s.queues;
          holding = λ n. moved_holds h.call h.phase l q there busy unplanned h.crossed rests same n (w.nodes n) (s.holding n);
          hosts = record {
            waiters = moved_waiters h.call h.phase l q there busy unplanned coord.waiting s.others s.waiters;
            apart = s.apart;
            current = current;
            numbered = numbered;
          };
        };
      }

  -- ---- it gives the call up

  numbered : c.id.seq ≡ (w.clients l).seq
  numbered =
      let busy : h.phase l ≢ Idle = λ idle. let both = sym idle ∙ s.waits in absurd (cc) in
      ap (λ (d : CallRec). d.id.seq) s.is ∙ s.good.script.calls.number l (positive s.good.lanes l busy)

  -- what is seen once its answer is under way
  abbrev pub answered : ℕ → Errno → View
  answered k errno = record (walking config w coord h l) {
    phase = put h.phase l (Tells (Replies k (Fail errno)));
    op = record (operating config (shut_of w.nodes) (last_of w.nodes) coord h) { work = Rests };
  }

  -- the errno is its answer
  pub refuses : (h0 : Ghost) (point : Point) (errno : Errno) → Shows config w h0 → Good config (answered (point_of (length w.commits) point) errno)
      → AllFit (given_up coord c point errno).sent → EndsCoord config w (given_up coord c point errno)
  refuses h0 point errno shown up fit =
      let k = point_of (length w.commits) point in
      let q = Tells (Replies k (Fail errno)) in
      let later : Ghost = record h { phase = put h.phase l q } in
      let rested = begun (at_stage coord stage.Idle) in
      let step : InCoord config w rested later = goes_on coord.asked stage.Idle [] q h.crossed (λ z. cc) (λ n x z. cc) tt (λ a _. refl) tt s.numbered
      (subst (Good config) (view_started config (record w { coord = at_stage coord stage.Idle }) later) up) in
      let letter = reply_letter c point (Fail errno) in (
        later,
        coord_ends config w h0 (given_up coord c point errno) later fit shown
            (coord_sends config w rested later letter (record { asking = tt; records = (l, refl, (refl, inr (numbered, inr (put_same h.phase l q)))); operation = tt; bars = tt; knowing = tt; listings = tt }) step),
      )

  -- the call fails so, as the tree at the point says
  pub gives_up : (h0 : Ghost) (point : Point) (errno : Errno) → Shows config w h0 → h.since l ≤ point_of (length w.commits) point → point_of (length w.commits) point ≤ length w.commits
      → answer (tree_at w.commits (point_of (length w.commits) point)) c.cred c.op ≡ Fail errno → AllFit (given_up coord c point errno).sent → EndsCoord config w (given_up coord c point errno)
  gives_up h0 point errno shown from to fails fit =
      let v = walking config w coord h l in
      let k = point_of (length w.commits) point in
      let fails_there = subst (λ (d : CallRec). answer (tree_at w.commits k) d.cred d.op ≡ Fail errno) s.is fails in
      let right = refused_right config v l k errno s.good live from to fails_there in
      refuses h0 point errno shown (given_up_good config v l 255 k (Fail errno) refl held_there refl right s.good) fit
