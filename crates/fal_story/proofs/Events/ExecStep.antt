-- One call of a batch is executed.
use Rattle.std.proofs.Common.{◌≡◌, ◌≢◌, ◌⊎◌, inl, inr, ⊎_elim, ℕ, ◌+◌, ◌<◌, ◌≤◌, true, false, cond, List, [], ◌∷◌, ◌++◌, length, refl, sym, ap, subst, ◌∙◌, append-nil, arith}
use Rattle.fal_base.specs.declared.call.CallRec.{CallRec}
use Rattle.fal_base.specs.declared.call.Config.{Config}
use Rattle.fal_base.specs.declared.entry.Entry.TheVariants as entry
use Rattle.fal_base.specs.declared.event.Actor.TheVariants.{Client, Coord}
use Rattle.fal_base.specs.declared.event.Point.TheVariants.{Here}
use Rattle.fal_base.specs.declared.reply.Errno.TheVariants.{Eacces}
use Rattle.fal_base.specs.declared.reply.Reply.{Reply}
use Rattle.fal_base.specs.declared.reply.Reply.TheVariants.{Fail}
use Rattle.fal_base.specs.Transcript.{commits_of}
use Rattle.fal_base.specs.Tree.{row_at}
use Rattle.fal_exec.specs.declared.outcome.Change.{Change}
use Rattle.fal_exec.specs.declared.outcome.Change.TheVariants as change
use Rattle.fal_exec.specs.declared.outcome.ExecOut.{ExecOut}
use Rattle.fal_exec.specs.declared.outcome.ExecOut.TheVariants as out
use Rattle.fal_exec.specs.Outcome.{without_change, outcome_of}
use Rattle.fal_run.specs.declared.call.BatchCall.{BatchCall}
use Rattle.fal_node.specs.Exec.{exec_as, exec_one}
use Rattle.fal_run.specs.Calls.{number_after, call_outcome, drawn_by}
use Rattle.fal_run.specs.Rows.{rows_after}
use Rattle.fal_node.specs.Letters.{Work}
use Rattle.fal_run.specs.Letters.{commits_in, passed_on, pass_letter}
use Rattle.fal_wire.specs.Letters.{letter}
use Rattle.fal_wire.specs.declared.message.Message.{Message}
use Rattle.fal_wire.specs.declared.message.Message.TheVariants as message
use Rattle.fal_node.specs.State.{NodeState}
use Rattle.fal_story.proofs.Events.ExecNotes.{IsCounted, IsNoted, commit_noted, noted, point_in, point_now}
use Rattle.fal_story.proofs.Events.HandedCalls.{held_called, heard_called}
use Rattle.fal_story.proofs.Events.HeldCalls.{AsksNone, MovesAt, put_moves, others_held, heard_moves, held_done}
use Rattle.fal_story.proofs.Events.InStep.{InStep, view_in}
use Rattle.fal_story.proofs.Events.Running.{IsRunning, IsUnplanned, running_put, running_called}
use Rattle.fal_story.proofs.Events.Sends.{sends}
use Rattle.fal_story.proofs.Events.Shows.{Ghost, PlannedAt, planned_lane, calls_in}
use Rattle.fal_story.proofs.Families.Lanes.{positive, IsRight}
use Rattle.fal_story.proofs.Good.{Good}
use Rattle.fal_story.proofs.Lists.Each.{each_middle}
use Rattle.fal_story.proofs.Lists.Grown.{put_all, put_same, put_put}
use Rattle.fal_story.proofs.Phase.{Answer, Asked, Plans, Tells, Opens, Replies, IsFor, IsHeld}
use Rattle.fal_story.proofs.Steps.Called.{handed, handed_good}
use Rattle.fal_story.proofs.Steps.Executed.{IsOpening, IsOutcome, ino_of, commit_by, outcome_there, denied_right, kept_right, committed_good}
use Rattle.fal_story.proofs.Steps.Listed.{opened_good}
use Rattle.fal_story.proofs.Steps.Moved.{MayMove, moved_good}
use Rattle.fal_story.proofs.Steps.Posted.{IsFine}
use Rattle.fal_story.specs.World.{World, put, entries_of}

-- a batch is being executed, at a node that was so before: the waiting calls, the batches, the items and what is held stay
pub record InExec (config : Config) (w : World) (n : ℕ) (k : Work) (h : Ghost) (y : NodeState) (ps : List BatchCall) : Type 0 where
  pub step : InStep config w n k h y.waiting.calls ps
  pub counted : IsCounted config w k
  pub waiting : k.node.waiting ≡ y.waiting
  pub batches : k.node.batches ≡ y.batches
  pub items : k.node.items ≡ y.items
  pub holders : k.node.locks.holders ≡ y.locks.holders
  pub numbered : k.node.batches_numbered ≡ y.batches_numbered

-- the lane's call has come to this
abbrev pub came : Ghost → ℕ → Answer → Ghost
came h l answer = record h { phase = put h.phase l (Tells answer) }

-- to an answer
abbrev pub done : Ghost → ℕ → ℕ → Reply → Ghost
done h l point reply = came h l (Replies point reply)

-- the work with this change of its row, and with a record to its client
abbrev pub told : Work → BatchCall → Message → Change → Work
told k x m ch = record (noted k x ch) { sent = k.sent ++ letter (Client x.call.id.client) (Here (commits_in k.notes)) m ∷ [] }

-- which is the answer
abbrev pub answered : Work → BatchCall → Reply → Change → Work
answered k x reply ch = told k x (message.Reply x.call.id reply) ch

exec_is : (k : Work) (x : BatchCall) (reply : Reply) (ch : Change) → call_outcome k.node.number k.node.rows k.node.drawn x ≡ out.Finish reply ch → exec_one k x ≡ answered k x reply ch
unfolding exec_one exec_as
exec_is k x reply ch e = ap (exec_as k x) e

-- ---- a call that changes nothing

zero_more : (d : ℕ) → d ≡ d + 0
zero_more d = omega arith

-- the view in which only the call has moved
came_view : (config : Config) (w : World) (n : ℕ) (k : Work) (h : Ghost) (x : BatchCall) (l : ℕ) (answer : ℕ → Answer) → IsCounted config w k
    → record (view_in config w n k h) { phase = put h.phase l (Tells (answer (length (view_in config w n k h).commits))) } ≡ view_in config w n (noted k x change.Keep) (came h l (answer (point_in w k)))
came_view config w n k h x l answer c =
    let notes = sym (append-nil k.notes) in
    λ i. record (view_in config w n k h) {
      drawn = put (λ m. (w.nodes m).drawn) n (zero_more k.node.drawn i);
      entries = w.entries ++ entries_of (length w.commits) (notes i);
      commits = w.commits ++ commits_of config (entries_of (length w.commits) (notes i));
      phase = put h.phase l (Tells (answer (point_now config w n k h c i)));
    }

unchanged_good : (config : Config) (w : World) (n : ℕ) (k : Work) (h : Ghost) (x : BatchCall) (reply : Reply) → Good config (view_in config w n k h) → IsCounted config w k → h.phase (planned_lane x) ≡ Plans n x
    → (let v = view_in config w n k h in let l = planned_lane x in IsRight v.commits (v.seq l) (v.call l) (v.since l) l (length v.commits) reply)
    → Good config (view_in config w n (noted k x change.Keep) (done h (planned_lane x) (point_in w k) reply))
unchanged_good config w n k h x reply g c plans right =
    let v = view_in config w n k h in
    let l = planned_lane x in
    let q = Tells (Replies (length v.commits) reply) in
    let held : IsHeld n (h.phase l) = subst (IsHeld n) (sym plans) refl in
    let moved = moved_good config v (put h.phase l q) h.crossed
    (put_all (λ i p. ((p ≡ h.phase i) × (h.crossed i ≡ h.crossed i)) ⊎ MayMove config v i (h.phase i) p (h.crossed i)) h.phase l q (inr ((n, held), right)) (λ i _. inl (refl, refl))) g in
    subst (Good config) (came_view config w n k h x l (λ point. Replies point reply) c) moved

unchanged_counted : (config : Config) (w : World) (k : Work) (x : BatchCall) → IsCounted config w k → IsCounted config w (noted k x change.Keep)
unchanged_counted config w k x c = subst (λ notes. length (commits_of config (entries_of (length w.commits) notes)) ≡ commits_in notes) (sym (append-nil k.notes)) c

-- ---- a call that makes a commit

changed_good : (config : Config) (w : World) (n : ℕ) (k : Work) (h : Ghost) (x : BatchCall) (reply : Reply) (ch : Change) → Good config (view_in config w n k h) → IsCounted config w k → PlannedAt h.call h.phase n x → x.denied ≡ false
    → IsOutcome (view_in config w n k h) (planned_lane x) n x reply ch → ch ≢ change.Keep → n < 256 → IsNoted config w n k h x ch → Good config (view_in config w n (noted k x ch) (done h (planned_lane x) (point_in w k) reply))
changed_good config w n k h x reply ch g c at ready outcome changes below is =
    let v = view_in config w n k h in
    let l = planned_lane x in
    let rows = λ (m : ℕ). (w.nodes m).rows in
    let drawn = λ (m : ℕ). (w.nodes m).drawn in
    let good = committed_good config v l n x reply ch at.0 ready outcome changes below g in
    let same : record v {
      rows = put v.rows n (rows_after (v.rows n) x.last ch);
      drawn = put v.drawn n (v.drawn n + drawn_by (v.call l).op ch);
      entries = v.entries ++ entry.Commit l (v.seq l) (ino_of (v.call l).op (number_after n (v.drawn n)) ch) ∷ [];
      commits = v.commits ++ commit_by v l n ch ∷ [];
      phase = put v.phase l (Tells (Replies (length v.commits) reply));
    } ≡ view_in config w n (noted k x ch) (done h l (point_in w k) reply) = λ i. record v {
      rows = (ap (λ z. put (put rows n k.node.rows) n (rows_after z x.last ch)) (put_same rows n k.node.rows) ∙ put_put rows n k.node.rows (rows_after k.node.rows x.last ch)) i;
      drawn = (ap (λ z. put (put drawn n k.node.drawn) n (z + drawn_by (h.call l).op ch)) (put_same drawn n k.node.drawn) ∙ put_put drawn n k.node.drawn (k.node.drawn + drawn_by (h.call l).op ch)
          ∙ ap (λ (z : CallRec). put drawn n (k.node.drawn + drawn_by z.op ch)) (sym at.1)) i;
      entries = is.entries i;
      commits = is.commits i;
      phase = put h.phase l (Tells (Replies (point_now config w n k h c i) reply));
    } in
    subst (Good config) same good

-- ---- a call that is passed on

-- the lane's call is on its way to the coordinator, with its hop raised
abbrev pub passed_to : Ghost → ℕ → Ghost
passed_to h l = record h { call = put h.call l (handed (h.call l)); phase = put h.phase l (Asked 255) }

abbrev passing : Work → BatchCall → Work
passing k x = record (noted k x change.Keep) { sent = k.sent ++ pass_letter x.call (Here (commits_in k.notes)) Coord ∷ [] }

-- a call that opens a directory tells its client
opens_is : (k : Work) (x : BatchCall) (dir : ℕ) → call_outcome k.node.number k.node.rows k.node.drawn x ≡ out.Opened dir → exec_one k x ≡ told k x (message.Opened x.call.id dir) change.Keep
unfolding exec_one exec_as
opens_is k x dir e = ap (exec_as k x) e

pass_is : (k : Work) (x : BatchCall) → call_outcome k.node.number k.node.rows k.node.drawn x ≡ out.PassOn → exec_one k x ≡ passing k x
unfolding exec_one exec_as
pass_is k x e = ap (exec_as k x) e

passed_good : (config : Config) (w : World) (n : ℕ) (k : Work) (h : Ghost) (x : BatchCall) → config.nodes ≤ 255 → Good config (view_in config w n k h) → h.phase (planned_lane x) ≡ Plans n x
    → Good config (view_in config w n (noted k x change.Keep) (passed_to h (planned_lane x)))
passed_good config w n k h x few g plans =
    let v = view_in config w n k h in
    let l = planned_lane x in
    let c0 = length w.commits in
    let notes = sym (append-nil k.notes) in
    let same : record v { call = put v.call l (handed (v.call l)); phase = put v.phase l (Asked 255) } ≡ view_in config w n (noted k x change.Keep) (passed_to h l) = λ i. record v {
      drawn = put (λ m. (w.nodes m).drawn) n (zero_more k.node.drawn i);
      entries = w.entries ++ entries_of c0 (notes i);
      commits = w.commits ++ commits_of config (entries_of c0 (notes i));
      call = put h.call l (handed (h.call l));
      phase = put h.phase l (Asked 255);
    } in
    subst (Good config) same (handed_good config v l n x plans few g)

-- ---- the call leaves, with its answer or to the coordinator

-- a call of this lane was run: it is planned no more
abbrev pub Ran : Config → World → ℕ → Work → NodeState → List BatchCall → Ghost → ℕ → Type 0
Ran config w n k y ps h l = (later : Ghost) × (InExec config w n k later y ps × IsRunning n h later × IsUnplanned (later.phase l))

-- its number is that of its lane's call
planned_number : (config : Config) (w : World) (n : ℕ) (k : Work) (h : Ghost) (x : BatchCall) → Good config (view_in config w n k h) → PlannedAt h.call h.phase n x → x.call.id.seq ≡ (w.clients (planned_lane x)).seq
planned_number config w n k h x g at =
    ap (λ (z : CallRec). z.id.seq) at.1 ∙ g.script.calls.number (planned_lane x) (positive g.lanes (planned_lane x) (λ idle. let plans = at.0 in cc))

-- with a record to its client
leaves : (config : Config) (w : World) (n : ℕ) (k : Work) (h : Ghost) (y : NodeState) (xs : List BatchCall) (x : BatchCall) (ys : List BatchCall) (answer : Answer) (m : Message) (ch : Change) → AsksNone (Tells answer) → InExec config w n k h y (xs ++ x ∷ ys)
    → PlannedAt h.call h.phase n x → Good config (view_in config w n (noted k x ch) (came h (planned_lane x) answer)) → IsCounted config w (noted k x ch)
    → IsFine config (view_in config w n (noted k x ch) (came h (planned_lane x) answer)) (Client (planned_lane x)) (point_in w k) m → Ran config w n (told k x m ch) y (xs ++ ys) h (planned_lane x)
leaves config w n k h y xs x ys answer m ch none s at good counted fine =
    let l = planned_lane x in
    let q = Tells answer in
    let later = came h l answer in
    let list = y.waiting in
    let for : IsFor n (h.phase l) = subst (IsFor n) (sym at.0) refl in
    let off : IsUnplanned q = λ m z e. cc in
    let moves : MovesAt n h.phase later.phase = put_moves n l h.phase q for (λ z. cc) none in
    let placed = s.step.placed in
    let step : InStep config w n (noted k x ch) later list.calls (xs ++ ys) = record {
      good = good;
      here = held_done h.call h.phase n list.calls xs x ys q s.step.here;
      others = others_held w n h.call h.phase later.phase moves s.step.others;
      items = s.step.items;
      others_items = s.step.others_items;
      heard = heard_moves config w n h.call h.phase later.phase moves s.step.heard;
      kept = s.step.kept;
      placed = record { number = placed.number; limit = placed.limit; blocked = placed.blocked; tidy = placed.tidy };
      others_placed = s.step.others_placed;
    } in (
      later,
      (
        record {
          step = sends config w n (noted k x ch) later list.calls (xs ++ ys) (letter (Client l) (Here (commits_in k.notes)) m) fine step;
          counted = counted;
          waiting = s.waiting;
          batches = s.batches;
          items = s.items;
          holders = s.holders;
          numbered = s.numbered;
        },
        running_put n l h q for off,
        subst IsUnplanned (sym (put_same h.phase l q)) off,
      ),
    )

-- with its answer
replies : (config : Config) (w : World) (n : ℕ) (k : Work) (h : Ghost) (y : NodeState) (xs : List BatchCall) (x : BatchCall) (ys : List BatchCall) (reply : Reply) (ch : Change) → InExec config w n k h y (xs ++ x ∷ ys)
    → PlannedAt h.call h.phase n x → Good config (view_in config w n (noted k x ch) (done h (planned_lane x) (point_in w k) reply)) → IsCounted config w (noted k x ch)
    → Ran config w n (answered k x reply ch) y (xs ++ ys) h (planned_lane x)
replies config w n k h y xs x ys reply ch s at good counted =
    let l = planned_lane x in
    leaves config w n k h y xs x ys (Replies (point_in w k) reply) (message.Reply x.call.id reply) ch tt s at good counted
    (record { asking = tt; records = (l, refl, (refl, inr (planned_number config w n k h x s.step.good at, inr (put_same h.phase l (Tells (Replies (point_in w k) reply)))))); operation = tt; bars = tt; knowing = tt; listings = tt })

-- with its directory, which it has opened
opens : (config : Config) (w : World) (n : ℕ) (k : Work) (h : Ghost) (y : NodeState) (xs : List BatchCall) (x : BatchCall) (ys : List BatchCall) (dir : ℕ) → InExec config w n k h y (xs ++ x ∷ ys)
    → PlannedAt h.call h.phase n x → x.denied ≡ false → IsOpening (view_in config w n k h) (planned_lane x) n x dir → Ran config w n (told k x (message.Opened x.call.id dir) change.Keep) y (xs ++ ys) h (planned_lane x)
opens config w n k h y xs x ys dir s at ready opening =
    let l = planned_lane x in
    let good = opened_good config (view_in config w n k h) l n dir x at.0 ready opening s.step.good in
    leaves config w n k h y xs x ys (Opens (point_in w k) dir) (message.Opened x.call.id dir) change.Keep tt s at (subst (Good config) (came_view config w n k h x l (λ point. Opens point dir) s.counted) good)
    (unchanged_counted config w k x s.counted)
    (record { asking = tt; records = (l, refl, (refl, inr (planned_number config w n k h x s.step.good at, inr (inl (put_same h.phase l (Tells (Opens (point_in w k) dir))))))); operation = tt; bars = tt; knowing = tt; listings = tt })

hands_on : (config : Config) (w : World) (n : ℕ) (k : Work) (h : Ghost) (y : NodeState) (xs : List BatchCall) (x : BatchCall) (ys : List BatchCall) → config.nodes ≤ 255 → InExec config w n k h y (xs ++ x ∷ ys)
    → PlannedAt h.call h.phase n x → Ran config w n (passing k x) y (xs ++ ys) h (planned_lane x)
hands_on config w n k h y xs x ys few s at =
    let l = planned_lane x in
    let q = Asked 255 in
    let c = handed (h.call l) in
    let moved = put h.phase l q in
    let later = passed_to h l in
    let list = y.waiting in
    let for : IsFor n (h.phase l) = subst (IsFor n) (sym at.0) refl in
    let off : IsUnplanned q = λ m z e. cc in
    let moves : MovesAt n h.phase moved = put_moves n l h.phase q for (λ z. cc) tt in
    let free = λ (m : ℕ) (held : IsHeld m (moved l)). absurd (subst (IsHeld m) (put_same h.phase l q) held) in
    let placed = s.step.placed in
    let step : InStep config w n (noted k x change.Keep) later list.calls (xs ++ ys) = record {
      good = passed_good config w n k h x few s.step.good at.0;
      here = held_called h.call moved n list.calls (xs ++ ys) l c (free n) (held_done h.call h.phase n list.calls xs x ys q s.step.here);
      others = λ m apart. held_called h.call moved m (w.nodes m).waiting.calls (calls_in (w.nodes m).batches) l c (free m) (others_held w n h.call h.phase moved moves s.step.others m apart);
      items = s.step.items;
      others_items = s.step.others_items;
      heard = λ a. heard_called config h.call moved l c refl refl a (w.clients a) (heard_moves config w n h.call h.phase moved moves s.step.heard a);
      kept = s.step.kept;
      placed = record { number = placed.number; limit = placed.limit; blocked = placed.blocked; tidy = placed.tidy };
      others_placed = s.step.others_placed;
    } in
    let live : passed_on x.call ≡ put h.call l c l = ap passed_on at.1 ∙ sym (put_same h.call l c) in (
      later,
      (
        record {
          step = sends config w n (noted k x change.Keep) later list.calls (xs ++ ys) (pass_letter x.call (Here (commits_in k.notes)) Coord)
              (record { asking = tt; records = (255, refl, inl (live, put_same h.phase l q)); operation = tt; bars = tt; knowing = tt; listings = tt }) step;
          counted = unchanged_counted config w k x s.counted;
          waiting = s.waiting;
          batches = s.batches;
          items = s.items;
          holders = s.holders;
          numbered = s.numbered;
        },
        running_called n l h c q for off,
        subst IsUnplanned (sym (put_same h.phase l q)) off,
      ),
    )

-- ---- by its outcome

denied_outcome : (k : Work) (x : BatchCall) → x.denied ≡ true → call_outcome k.node.number k.node.rows k.node.drawn x ≡ out.Finish (Fail Eacces) change.Keep
denied_outcome k x denied = ap (λ b. cond b (without_change (Fail Eacces)) (outcome_of (row_at k.node.rows x.last) x.parent x.call.cred x.call.op (number_after k.node.number k.node.drawn))) denied

ready_outcome : (config : Config) (w : World) (n : ℕ) (k : Work) (h : Ghost) (x : BatchCall) (o : ExecOut) → PlannedAt h.call h.phase n x → k.node.number ≡ n → x.denied ≡ false
    → (let v = view_in config w n k h in let c = h.call (planned_lane x) in outcome_of (row_at (v.rows n) x.last) x.parent c.cred c.op (number_after n (v.drawn n)) ≡ o)
    → call_outcome k.node.number k.node.rows k.node.drawn x ≡ o
ready_outcome config w n k h x o at number ready outcome =
    let rows = sym (put_same (λ m. (w.nodes m).rows) n k.node.rows) in
    let drawn = sym (put_same (λ m. (w.nodes m).drawn) n k.node.drawn) in
    ap (λ b. cond b (without_change (Fail Eacces)) (outcome_of (row_at k.node.rows x.last) x.parent x.call.cred x.call.op (number_after k.node.number k.node.drawn))) ready
    ∙ (λ i. outcome_of (row_at (rows i) x.last) x.parent (at.1 i).cred (at.1 i).op (number_after (number i) (drawn i)))
    ∙ outcome

is_keep : (ch : Change) → (ch ≡ change.Keep) ⊎ (ch ≢ change.Keep)
is_keep change.Keep = inl refl
is_keep (change.Put inode) = inr (λ e. cc)
is_keep change.Remove = inr (λ e. cc)

module _ (config : Config) (w : World) (n : ℕ) (k : Work) (h : Ghost) (y : NodeState) (xs : List BatchCall) (x : BatchCall) (ys : List BatchCall) where
  abbrev Runs : Work → Type 0
  Runs made = Ran config w n made y (xs ++ ys) h (planned_lane x)

  denied_step : InExec config w n k h y (xs ++ x ∷ ys) → PlannedAt h.call h.phase n x → x.denied ≡ true → Runs (exec_one k x)
  denied_step s at denied =
      let reply = Fail Eacces in
      let right = denied_right config (view_in config w n k h) (planned_lane x) n x at.0 denied s.step.good in
      subst Runs (sym (exec_is k x reply change.Keep (denied_outcome k x denied)))
      (replies config w n k h y xs x ys reply change.Keep s at (unchanged_good config w n k h x reply s.step.good s.counted at.0 right) (unchanged_counted config w k x s.counted))

  done_step : n < 256 → InExec config w n k h y (xs ++ x ∷ ys) → PlannedAt h.call h.phase n x → x.denied ≡ false → (reply : Reply) (ch : Change) → IsOutcome (view_in config w n k h) (planned_lane x) n x reply ch → Runs (exec_one k x)
  done_step below s at ready reply ch outcome =
      let v = view_in config w n k h in
      let l = planned_lane x in
      let g = s.step.good in
      let kept_case = λ (same : ch ≡ change.Keep).
      let keeps : IsOutcome v l n x reply change.Keep = subst (IsOutcome v l n x reply) same outcome in
      subst (λ c. Runs (answered k x reply c)) (sym same)
      (replies config w n k h y xs x ys reply change.Keep s at (unchanged_good config w n k h x reply g s.counted at.0 (kept_right config v l n x reply at.0 ready keeps g)) (unchanged_counted config w k x s.counted)) in
      let changed_case = λ (changes : ch ≢ change.Keep).
      let is = commit_noted config w n k h x ch g s.counted at s.step.placed.number changes in
      replies config w n k h y xs x ys reply ch s at (changed_good config w n k h x reply ch g s.counted at ready outcome changes below is) is.counted in
      subst Runs (sym (exec_is k x reply ch (ready_outcome config w n k h x (out.Finish reply ch) at s.step.placed.number ready outcome))) (⊎_elim kept_case changed_case (is_keep ch))

  ready_step : config.nodes ≤ 255 → n < 256 → InExec config w n k h y (xs ++ x ∷ ys) → PlannedAt h.call h.phase n x → x.denied ≡ false → Runs (exec_one k x)
  ready_step few below s at ready =
      ⊎_elim
      (λ o. done_step below s at ready o.0 o.1.0 o.1.1)
      (λ more. ⊎_elim
      (λ passed. subst Runs (sym (pass_is k x (ready_outcome config w n k h x out.PassOn at s.step.placed.number ready passed))) (hands_on config w n k h y xs x ys few s at))
      (λ o. subst Runs (sym (opens_is k x o.0 (ready_outcome config w n k h x (out.Opened o.0) at s.step.placed.number ready o.1))) (opens config w n k h y xs x ys o.0 s at ready o.1))
      more)
      (outcome_there config (view_in config w n k h) (planned_lane x) n x at.0 s.step.good)

  pub call_step : config.nodes ≤ 255 → n < 256 → InExec config w n k h y (xs ++ x ∷ ys) → Runs (exec_one k x)
  call_step few below s =
      let at = each_middle (PlannedAt h.call h.phase n) xs x ys s.step.here.planned in
      elim x.denied as (λ b. x.denied ≡ b → Runs (exec_one k x)) [ true ↦ λ denied. denied_step s at denied | false ↦ λ ready. ready_step few below s at ready ] refl
