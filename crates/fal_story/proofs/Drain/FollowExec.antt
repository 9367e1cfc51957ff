-- Each call under way is found after a batch was executed: its calls are answered.
use Rattle.std.proofs.Common.{◌≡◌, ◌≢◌, ◌⊎◌, inl, inr, ⊎_elim, ℕ, ◌+◌, ◌<◌, ◌≤◌, Bool, true, false, cond, List, [], ◌∷◌, ◌++◌, length, map, Option, Some, None, IsTrue, refl, sym, ap, subst, ◌∙◌}
use Rattle.std.specs.Prelude.{◌==◌}
use Rattle.std.specs.List.{All, find}
use Rattle.std.proofs.lemmas.Option.{same_Some}
use Rattle.fal_base.specs.declared.call.CallId.{CallId}
use Rattle.fal_base.specs.declared.call.CallRec.{CallRec}
use Rattle.fal_base.specs.declared.call.Config.{Config}
use Rattle.fal_base.specs.declared.event.Actor.TheVariants.{Client, Coord}
use Rattle.fal_base.specs.declared.event.Point.{Point}
use Rattle.fal_base.specs.declared.event.Point.TheVariants.{Here}
use Rattle.fal_base.specs.declared.reply.Reply.{Reply}
use Rattle.fal_base.specs.declared.mark.Mark.{Mark}
use Rattle.fal_coord.specs.State.{CoordState}
use Rattle.fal_coord.specs.Walks.{is_operation}
use Rattle.fal_exec.specs.declared.outcome.ExecOut.{ExecOut}
use Rattle.fal_exec.specs.declared.outcome.ExecOut.TheVariants as out
use Rattle.fal_node.specs.declared.batch.Batch.{Batch}
use Rattle.fal_run.specs.declared.call.BatchCall.{BatchCall}
use Rattle.fal_wire.specs.declared.letter.Letter.{Letter}
use Rattle.fal_node.specs.Exec.{executed, exec_all, exec_one, exec_as, with_executed, as_executed}
use Rattle.fal_run.specs.Calls.{answer_letter, call_outcome}
use Rattle.fal_node.specs.Letters.{Work, begun}
use Rattle.fal_run.specs.Letters.{commits_in, pass_letter, passed_on as raised}
use Rattle.fal_wire.specs.declared.message.Message.TheVariants as message
use Rattle.fal_wire.specs.Letters.{letter, reply_letter}
use Rattle.fal_node.specs.State.{NodeState, batch_of}
use Rattle.fal_base.specs.Marks.{Marks, mark_of, last_mark, is_newer}
use Rattle.fal_wait.specs.Waiting.{WaitList}
use Rattle.fal_wire.specs.Messages.{Fits}
use Rattle.fal_story.proofs.Drain.Follow.{IsUpTo, IsNewest, marks_in, passed_on, IsUnder, Asked, Answered, Opened, IsFollowed, AreNumbered, under_node, waiting_now, planned_now, asked_now}
use Rattle.fal_story.proofs.Drain.FollowNode.{IsUnderAfter, IsFoundAfter, found_follows, marks_at}
use Rattle.fal_story.proofs.Drain.Moving.{IsMoving, posts_after}
use Rattle.fal_story.proofs.Drain.Hearing.{After}
use Rattle.fal_story.proofs.Drain.MovingExec.{IsBack, IsGiven, call_back, run_all, given_calls, batch_calls_are, marked_number}
use Rattle.fal_story.proofs.Drain.Sent.{letter_fresh}
use Rattle.fal_story.proofs.Events.InStep.{letter_posts}
use Rattle.fal_story.proofs.Events.Shows.{Ghost, Shows, PlannedAt, calls_in, pending_calls, posts_of}
use Rattle.fal_story.proofs.Lists.Each.{Each, Apart, each_weaker}
use Rattle.fal_story.proofs.Lists.Grown.{tells, unequal, put_all, put_other}
use Rattle.fal_story.proofs.Lists.Joined.{in_back, in_last}
use Rattle.fal_story.proofs.Lists.Members.{IsIn, each_in, each_map, apart_map, apart_as, find_in, in_front, in_join}
use Rattle.fal_story.proofs.Lists.Newer.{not_newer_later, newer_hop, newer_past}
use Rattle.fal_story.specs.World.{World, put}

-- the call's answer is among the letters
abbrev pub IsReplied : List Letter → CallRec → Type 0
IsReplied sent call = (point : Point) × ((reply : Reply) × IsIn (reply_letter call point reply) sent)

-- the directory that it lists is
abbrev pub IsOpened : List Letter → CallRec → Type 0
IsOpened sent call = (point : Point) × ((dir : ℕ) × IsIn (letter (Client call.id.client) point (message.Opened call.id dir)) sent)

-- the call is among them, on its way to the coordinator, which carries it out
abbrev pub IsHanded : List Letter → CallRec → Type 0
IsHanded sent call = (point : Point) × (IsIn (pass_letter call point Coord) sent × IsTrue (is_operation call.op))

abbrev pub IsDealt : List Letter → CallRec → Type 0
IsDealt sent call = IsReplied sent call ⊎ (IsOpened sent call ⊎ IsHanded sent call)

answer_told : (call : CallRec) (commits : ℕ) (o : ExecOut) (sent : List Letter) → IsBack call.op o → IsIn (answer_letter call commits o) sent → IsDealt sent call
answer_told call commits (out.Finish reply change) sent h at = inl (Here commits, (reply, at))
answer_told call commits (out.Opened ino) sent h at = inr (inl (Here commits, (ino, at)))
answer_told call commits out.PassOn sent h at = inr (inr (Here commits, (at, h)))

one_sent : (config : Config) (k : Work) (x : BatchCall) → IsGiven config x → IsDealt (exec_one k x).sent x.call
unfolding exec_one exec_as
one_sent config k x given =
    let o = call_outcome k.node.number k.node.rows k.node.drawn x in
    answer_told x.call (commits_in k.notes) o (exec_one k x).sent (call_back k.node.number k.node.rows k.node.drawn x given.fits given.rows) (in_last k.sent (answer_letter x.call (commits_in k.notes) o))

one_more : (k : Work) (x : BatchCall) (l : Letter) → IsIn l k.sent → IsIn l (exec_one k x).sent
unfolding exec_one exec_as
one_more k x l at = in_front k.sent _ l at

all_more : (k : Work) (xs : List BatchCall) (l : Letter) → IsIn l k.sent → IsIn l (exec_all k xs).sent
all_more k [] l at = at
all_more k (x ∷ xs) l at = all_more (exec_one k x) xs l (one_more k x l at)

dealt_more : (k : Work) (xs : List BatchCall) (call : CallRec) → IsDealt k.sent call → IsDealt (exec_all k xs).sent call
dealt_more k xs call dealt =
    ⊎_elim
    (λ told. inl (told.0, (told.1.0, all_more k xs _ told.1.1)))
    (λ z. ⊎_elim
    (λ opened. inr (inl (opened.0, (opened.1.0, all_more k xs _ opened.1.1))))
    (λ handed. inr (inr (handed.0, (all_more k xs _ handed.1.0, handed.1.1))))
    z)
    dealt

-- each call of the batch is answered, or opened, or handed on
all_sent : (config : Config) (k : Work) (xs : List BatchCall) → Each (IsGiven config) xs → Each (λ (x : BatchCall). IsDealt (exec_all k xs).sent x.call) xs
all_sent config k [] given = tt
all_sent config k (x ∷ xs) given = (dealt_more (exec_one k x) xs x.call (one_sent config k x given.0), all_sent config (exec_one k x) xs given.1)

-- ---- the other batches

-- a call is in the batch that is executed, or in another one, which is not marked
marked_calls : (number : ℕ) (bs : List Batch) (b : Batch) (y : BatchCall) → Apart (λ (x : Batch). x.number) bs → find (λ (x : Batch). x.number == number) bs ≡ Some b → b.executed ≡ false → IsIn y (calls_in bs)
    → IsIn y b.calls ⊎ IsIn y (calls_in (map (as_executed number) bs))
marked_calls number [] b y apart is waits at = absurd at
marked_calls number (c ∷ bs) b y apart is waits at =
    elim (c.number == number) as (λ t. (c.number == number) ≡ t → cond t (Some c) (find (λ (x : Batch). x.number == number) bs) ≡ Some b
    → IsIn y b.calls ⊎ IsIn y (pending_calls (cond t (record c { executed = true }) c) ++ calls_in (map (as_executed number) bs))) [
      | true ↦ λ t e.
          let same : c ≡ b = same_Some c b e in
          ⊎_elim
          (λ here. inl (subst (λ ys. IsIn y ys) (ap (λ (x : Batch). pending_calls x) same ∙ ap (λ v. cond v [] b.calls) waits) here))
          (λ there. inr (subst (λ ys. IsIn y ys) (unmarked (number_is c number t) bs apart.0) there))
          (in_join (pending_calls c) (calls_in bs) y at)
      | false ↦ λ t e.
          ⊎_elim
          (λ here. inr (in_front (pending_calls c) (calls_in (map (as_executed number) bs)) y here))
          (λ there. ⊎_elim (λ z. inl z) (λ z. inr (in_back (pending_calls c) (calls_in (map (as_executed number) bs)) y z)) (marked_calls number bs b y apart.1 e waits there))
          (in_join (pending_calls c) (calls_in bs) y at)
    ] refl is
  where
    number_is : (c : Batch) (number : ℕ) → (c.number == number) ≡ true → c.number ≡ number
    number_is c number t = ⊎_elim (λ z. z.1) (λ z. absurd (cc)) (tells c.number number)

    unmarked : c.number ≡ number → (bs : List Batch) → Each (λ (x : Batch). x.number ≢ c.number) bs → calls_in bs ≡ calls_in (map (as_executed number) bs)
    unmarked same [] h = refl
    unmarked same (x ∷ xs) h =
        let off : (x.number == number) ≡ false = unequal x.number number (λ e. h.0 (e ∙ sym same)) in
        ap (λ calls. pending_calls x ++ calls) (unmarked same xs h.1) ∙ ap (λ v. pending_calls (cond v (record x { executed = true }) x) ++ calls_in (map (as_executed number) xs)) (sym off)

marked_numbered : (number next : ℕ) (bs : List Batch) → AreNumbered bs next → AreNumbered (map (as_executed number) bs) next
marked_numbered number next bs h = record {
  apart = apart_map (λ (b : Batch). b.number) (as_executed number) bs (apart_as (λ (b : Batch). b.number) (λ b. (as_executed number b).number) bs (λ b. sym (marked_number number b)) h.apart);
  below = each_map (λ (b : Batch). b.number < next) (as_executed number) bs (each_weaker _ _ bs (λ b low. subst (λ i. i < next) (sym (marked_number number b)) low) h.below);
}

-- ---- the step

-- a reply that was sent is on its way
pub replied_under : (w : World) (came : ℕ → Bool) (k : Work) (taken : ℕ → Marks) (nodes : ℕ → NodeState) (coord : CoordState) (id : CallId) (call : CallRec) → ((i : ℕ) → length w.envelopes ≤ i → came i ≡ false) → IsReplied k.sent call
    → call.id ≡ id → IsUnder (posts_after w k) came taken nodes coord id
replied_under w came k taken nodes coord id call past told same =
    let fresh = letter_fresh w.envelopes came (length w.commits) k.sent (reply_letter call told.0 told.1.0) past told.1.1 in
    subst (λ i. IsUnder (posts_after w k) came taken nodes coord i) same (Answered fresh.0 fresh.1.0 told.1.0 fresh.1.1.0 fresh.1.1.1)

-- so is what tells of an opened directory
opened_under : (w : World) (came : ℕ → Bool) (k : Work) (taken : ℕ → Marks) (nodes : ℕ → NodeState) (coord : CoordState) (id : CallId) (call : CallRec) → ((i : ℕ) → length w.envelopes ≤ i → came i ≡ false) → IsOpened k.sent call
    → call.id ≡ id → IsUnder (posts_after w k) came taken nodes coord id
opened_under w came k taken nodes coord id call past told same =
    let fresh = letter_fresh w.envelopes came (length w.commits) k.sent (letter (Client call.id.client) told.0 (message.Opened call.id told.1.0)) past told.1.1 in
    subst (λ i. IsUnder (posts_after w k) came taken nodes coord i) same (Opened fresh.0 fresh.1.0 told.1.0 fresh.1.1.0 fresh.1.1.1)

-- a call stays up to its mark where its hop is raised
pub up_later : (m : Mark) (id : CallId) → IsUpTo m id → IsUpTo m (passed_on id (id.hop + 1))
up_later m id up = not_newer_later m (mark_of (passed_on id (id.hop + 1))) (Some (mark_of id)) (newer_hop (mark_of id)) up

-- it is newer there than what anybody has taken
pub newer_up : (id : CallId) (o : Option Mark) → ((m : Mark) → o ≡ Some m → IsUpTo m id) → is_newer (mark_of (passed_on id (id.hop + 1))) o ≡ true
newer_up id None up = refl
newer_up id (Some m) up = newer_past (mark_of id) (mark_of (passed_on id (id.hop + 1))) m (newer_hop (mark_of id)) (up m refl)

module _ (config : Config) (w : World) (came : ℕ → Bool) (n : ℕ) (k : Work) (other : n ≢ 255) (m : IsMoving config w came) where
  -- a call that was handed on is found with its hop raised
  handed_under : (id : CallId) (call : CallRec) → IsHanded k.sent call → call.id ≡ id → IsNewest (marks_in w) id → IsUnderAfter w came n k (passed_on id (id.hop + 1))
  handed_under id call handed same newest =
      let fresh = letter_fresh w.envelopes came (length w.commits) k.sent (pass_letter call handed.0 Coord) m.past handed.1.0 in
      let there : put (marks_in w) n k.node.waiting.last 255 ≡ marks_in w 255 = put_other (marks_in w) n k.node.waiting.last 255 (λ e. other (sym e)) in
      Asked fresh.0 fresh.1.0 255 (raised call) fresh.1.1.0 fresh.1.1.1 (ap (λ (j : CallId). passed_on j (j.hop + 1)) same)
      (subst (λ ms. is_newer (mark_of (passed_on id (id.hop + 1))) (last_mark ms id.client) ≡ true) (sym there) (newer_up id (last_mark (marks_in w 255) id.client) (λ mark is. newest 255 mark is)))
      ((λ _. handed.1.1), (λ away. absurd (away refl)))

executed_follows : (config : Config) (w : World) (came : ℕ → Bool) (n number : ℕ) (batch : Batch) (k : Work) → n ≢ 255 → IsMoving config w came → IsFollowed w came → All (λ (l : Letter). Fits l.message) k.sent
    → batch_of (w.nodes n) number ≡ Some batch → batch.executed ≡ false → k.node.waiting ≡ (w.nodes n).waiting → k.node.batches ≡ map (as_executed number) (w.nodes n).batches
    → k.node.batches_numbered ≡ (w.nodes n).batches_numbered → Each (λ (x : BatchCall). IsDealt k.sent x.call) batch.calls → IsFollowed (After config w n k) came
executed_follows config w came n number batch k other m f fit at waits waiting batches numbered dealt =
    let node = w.nodes n in
    let more = letter_posts (length w.commits) k.sent in
    let posts = posts_of w.envelopes in
    let taken = put (marks_in w) n k.node.waiting.last in
    let last : k.node.waiting.last ≡ marks_in w n = ap (λ (z : WaitList). z.last) waiting ∙ sym (marks_at w n other) in
    let upto = λ (id : CallId) (newest : IsNewest (marks_in w) id). put_all (λ i ms. (mark : Mark) → last_mark ms id.client ≡ Some mark → IsUpTo mark id) (marks_in w) n k.node.waiting.last
    (λ mark is. newest n mark (subst (λ ms. last_mark ms id.client ≡ Some mark) last is)) (λ i _. newest i) in
    let here = λ (id : CallId) (newest : IsNewest (marks_in w) id) (u : IsUnderAfter w came n k id). found_here id u (upto id newest) in
    let raised_here = λ (id : CallId) (newest : IsNewest (marks_in w) id) (u : IsUnderAfter w came n k (passed_on id (id.hop + 1))). found_raised id u (λ i mark is. up_later mark id (upto id newest i mark is)) in
    found_follows config w came came n k other fit f
    (λ id now under newest.
    under_node posts more came came (marks_in w) w.nodes w.coord n k.node id (IsFoundAfter w came n k id) (marks_at w n other) (here id newest) (λ i y there ne fresh. fresh)
    (λ i p call there fresh same newer suited.
    here id newest (asked_now posts more came (marks_in w) (put w.nodes n k.node) w.coord n i p k.node.waiting.last id call there fresh same
    (subst (λ (z : WaitList). is_newer (mark_of id) (last_mark z.last id.client) ≡ true) (sym waiting) newer) suited))
    (λ y there same. here id newest (waiting_now (posts ++ more) came taken w.nodes w.coord n k.node id y (subst (λ (z : WaitList). IsIn y z.calls) (sym waiting) there) same))
    (λ y there same.
    ⊎_elim
    (λ mine. ⊎_elim
    (λ told. here id newest (replied_under w came k taken (put w.nodes n k.node) w.coord id y.call m.past told same))
    (λ z. ⊎_elim
    (λ opened. here id newest (opened_under w came k taken (put w.nodes n k.node) w.coord id y.call m.past opened same))
    (λ handed. raised_here id newest (handed_under config w came n k other m id y.call handed same newest))
    z)
    (each_in (λ (x : BatchCall). IsDealt k.sent x.call) batch.calls y dealt mine))
    (λ left. here id newest (planned_now (posts ++ more) came taken w.nodes w.coord n k.node id y (subst (λ bs. IsIn y (calls_in bs)) (sym batches) left) same))
    (marked_calls number node.batches batch y (f.batches n).apart at waits there))
    under)
    (λ l mark is. f.marks n l mark (subst (λ ms. last_mark ms l ≡ Some mark) last is))
    (subst (λ bs. AreNumbered bs k.node.batches_numbered) (sym batches) (subst (λ next. AreNumbered (map (as_executed number) node.batches) next) (sym numbered) (marked_numbered number node.batches_numbered node.batches (f.batches n))))
  where
    found_here : (id : CallId) → IsUnderAfter w came n k id → IsNewest (put (marks_in w) n k.node.waiting.last) id → IsFoundAfter w came n k id
    found_here id u newest = record { hop = id.hop; under = u; newest = newest }

    found_raised : (id : CallId) → IsUnderAfter w came n k (passed_on id (id.hop + 1)) → IsNewest (put (marks_in w) n k.node.waiting.last) (passed_on id (id.hop + 1)) → IsFoundAfter w came n k id
    found_raised id u newest = record { hop = id.hop + 1; under = u; newest = newest }

pub exec_follows : (config : Config) (w : World) (came : ℕ → Bool) (n number : ℕ) (h : Ghost) (batch : Batch) → n ≢ 255 → Shows config w h → IsMoving config w came → IsFollowed w came → batch_of (w.nodes n) number ≡ Some batch
    → batch.executed ≡ false → All (λ (l : Letter). Fits l.message) (executed (w.nodes n) number batch).sent → IsFollowed (After config w n (executed (w.nodes n) number batch)) came
unfolding executed with_executed
exec_follows config w came n number h batch other s m f at waits fit =
    let node = w.nodes n in
    let found = find_in (λ (b : Batch). b.number == number) node.batches batch at in
    let planned = batch_calls_are (PlannedAt h.call h.phase n) node.batches batch found.1 waits (s.held n).planned in
    let given = given_calls config w n h batch.calls s planned in
    let run = run_all config (begun (with_executed node number)) batch.calls given tt in
    executed_follows config w came n number batch (executed node number batch) other m f fit at waits run.calls run.batches run.numbered (all_sent config (begun (with_executed node number)) batch.calls given)
