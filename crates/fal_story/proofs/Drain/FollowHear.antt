-- Each call under way is found after a record came to the coordinator, and after it began with a call.
use Rattle.std.proofs.Common.{◌≡◌, ◌≢◌, inl, ⊎_elim, ℕ, ◌≤◌, Bool, true, false, ◌&&◌, cond, List, [], ◌∷◌, ◌++◌, length, Option, Some, None, Result, Ok, Err, refl, sym, ap, subst, ◌∙◌, arith}
use Rattle.std.specs.Prelude.{slice_get, ◌==◌}
use Rattle.std.specs.List.{All}
use Rattle.std.specs.Result.{result_ok}
use Rattle.std.proofs.lemmas.Option.{same_Some}
use Rattle.fal_base.specs.declared.call.CallId.{CallId}
use Rattle.fal_base.specs.declared.call.CallRec.{CallRec}
use Rattle.fal_base.specs.declared.call.Config.{Config}
use Rattle.fal_base.specs.declared.event.Actor.TheVariants.{Client, Node, Coord}
use Rattle.fal_base.specs.declared.event.Envelope.{Envelope}
use Rattle.fal_base.specs.declared.event.Point.TheVariants.{Here}
use Rattle.fal_base.specs.declared.key.Key.{Key}
use Rattle.fal_base.specs.declared.mark.Mark.{Mark}
use Rattle.fal_base.specs.declared.reply.Errno.{Errno}
use Rattle.fal_base.specs.declared.reply.Errno.TheVariants.{Ebusy}
use Rattle.fal_base.specs.declared.row.NamedRow.{NamedRow}
use Rattle.fal_base.specs.declared.row.Update.{Update}
use Rattle.fal_base.specs.Marks.{Marks, is_newer, last_mark, mark_of}
use Rattle.fal_client.specs.Step.{id_at}
use Rattle.fal_coord.specs.declared.event.CoordEvent.TheVariants as coord_event
use Rattle.fal_coord.specs.declared.paths_walk.PathsWalk.{PathsWalk}
use Rattle.fal_coord.specs.declared.paths_walk.PathsWalk.TheVariants.{Stopped, Lacking, Ready}
use Rattle.fal_coord.specs.declared.stage.Operation.{Operation}
use Rattle.fal_coord.specs.declared.stage.Stage.{Stage}
use Rattle.fal_coord.specs.declared.stage.Stage.TheVariants as stage
use Rattle.fal_coord.specs.Begin.{walk_step, walked_as, asking, locking, started, start_first, begin, start, given_up, begun_by, placing_by}
use Rattle.fal_coord.specs.Decide.{counting, decided, judged_work, verdict_on}
use Rattle.fal_coord.specs.Hear.{taken, take_call, learned, found_at, take_found, lock_heard, take_locked, count_heard, take_counted, finish_at, take_done, block_heard, take_blocked, install_at, take_installed, take_message, take_read, heard}
use Rattle.fal_coord.specs.Judged as judged
use Rattle.fal_coord.specs.Judged.{Judged, counted_of}
use Rattle.fal_coord.specs.Nodes.{is_missing, without_node}
use Rattle.fal_coord.specs.Place.{blocking, name_placed, place_refusal, placed_by}
use Rattle.fal_coord.specs.State.{CoordState, Work, begun, at_stage}
use Rattle.fal_coord.specs.Step.{coord_step}
use Rattle.fal_coord.specs.Walks.{is_busy, is_operation, placing_of, walk_paths, walked_paths}
use Rattle.fal_place.specs.Placement.{Placing}
use Rattle.fal_wire.specs.declared.fault.WireFault.{WireFault}
use Rattle.fal_wire.specs.declared.letter.Letter.{Letter}
use Rattle.fal_wire.specs.declared.message.Found.{Found}
use Rattle.fal_wire.specs.declared.message.Found.TheVariants as found
use Rattle.fal_wire.specs.declared.message.Message.{Message}
use Rattle.fal_wire.specs.declared.message.Message.TheVariants as message
use Rattle.fal_wire.specs.Letters.{reply_letter}
use Rattle.fal_wire.specs.Messages.{Fits, reading}
use Rattle.fal_story.proofs.Drain.Follow.{IsUnder, Asked, Waiting, Planned, Hosted, Answered, Stale, Opened, IsFollowed, IsNewest, IsUpTo, IsSuited, calls_of, hosted, marks_in, passed_on, told_more}
use Rattle.fal_story.proofs.Drain.FollowCall.{same_posted, taken_marks}
use Rattle.fal_story.proofs.Drain.FollowCoord.{StaysHosted, given_stays, begun_stays, message_stays}
use Rattle.fal_story.proofs.Drain.FollowGhost.{asked_by}
use Rattle.fal_story.proofs.Drain.FollowNode.{AreMarked, marks_stay}
use Rattle.fal_story.proofs.Drain.Moving.{IsMoving}
use Rattle.fal_story.proofs.Drain.MovingCoord.{posts_at, both_are}
use Rattle.fal_story.proofs.Drain.MovingDeliver.{post_at, came_past, same_node}
use Rattle.fal_story.proofs.Drain.MovingHear.{IsComingHere, hears}
use Rattle.fal_story.proofs.Drain.Sent.{letter_fresh}
use Rattle.fal_story.proofs.Events.InCoord.{coord_after}
use Rattle.fal_story.proofs.Events.InStep.{letter_posts, posts_sent}
use Rattle.fal_story.proofs.Events.Shows.{Ghost, Shows, post_of, posts_of, taken_of}
use Rattle.fal_story.proofs.Lists.Grown.{tells, put_all, put_same, put_other, put_put, slice_get_front}
use Rattle.fal_story.proofs.Lists.Joined.{in_last, in_back}
use Rattle.fal_story.proofs.Lists.Members.{IsIn, in_front, in_join}
use Rattle.fal_story.proofs.Lists.Newer.{mark_cases}
use Rattle.fal_story.proofs.View.{Post, IsPosted, post, seat}
use Rattle.fal_story.specs.World.{World, put, posted, entries_of}

-- the records, the marks and the coordinator after its event
abbrev pub IsUnderThen : World → (ℕ → Bool) → Work → CallId → Type 0
IsUnderThen w later k id = IsUnder (posts_at w k) later (put (marks_in w) 255 k.coord.last) w.nodes k.coord id

-- the marks after the event
marks_then : (w : World) (k : Work) → ◌≡◌ {A = ℕ → Marks} (put (marks_in w) 255 k.coord.last) (taken_of w.nodes k.coord)
marks_then w k = put_put (λ m. (w.nodes m).waiting.last) 255 w.coord.last k.coord.last

pub coord_follows : (config : Config) (w : World) (came later : ℕ → Bool) (k : Work) → All (λ (l : Letter). Fits l.message) k.sent → IsFollowed w came
    → ((id : CallId) → IsUnder (posts_of w.envelopes) came (marks_in w) w.nodes w.coord id → IsUnderThen w later k id) → AreMarked w came k.coord.last → IsFollowed (coord_after config w k) later
unfolding posted
coord_follows config w came later k fit f still marks =
    let posts : posts_of (coord_after config w k).envelopes ≡ posts_at w k = posts_sent Coord w.events (length w.commits) w.envelopes k.sent fit in
    let taken = marks_then w k in
    record {
      busy = λ l current is unlisted.
          let b = f.busy l current is unlisted in
          let id = passed_on (id_at l (w.clients l).seq current.attempt) b.hop in
          record {
            hop = b.hop;
            under = subst (λ ps. IsUnder ps later (taken_of w.nodes k.coord) w.nodes k.coord id) (sym posts)
                (subst (λ (ms : ℕ → Marks). IsUnder (posts_at w k) later ms w.nodes k.coord id) taken (still id b.under));
            newest = subst (λ (ms : ℕ → Marks). IsNewest ms id) taken
                (put_all (λ i ms. (m : Mark) → last_mark ms l ≡ Some m → IsUpTo m id) (marks_in w) 255 k.coord.last (marks.newest id (refl, (current, (is, refl))) b.under b.newest) (λ i _. b.newest i));
          };
      over = λ l s some is. told_more w.entries (entries_of (length w.commits) k.notes) l s (f.over l s some is);
      marks = subst (λ (ms : ℕ → Marks). (i l : ℕ) (m : Mark) → last_mark (ms i) l ≡ Some m → m.seq ≤ (w.clients l).seq) taken
          (put_all (λ i ms. (l : ℕ) (m : Mark) → last_mark ms l ≡ Some m → m.seq ≤ (w.clients l).seq) (marks_in w) 255 k.coord.last marks.sent (λ i _. f.marks i));
      batches = f.batches;
    }

-- a record to someone else is on its way still
under_coord : (w : World) (came later : ℕ → Bool) (k : Work) (id : CallId) → ((i : ℕ) → length w.envelopes ≤ i → later i ≡ false)
    → ((i : ℕ) (y : Post) → slice_get (posts_of w.envelopes) i ≡ Some y → y.to ≢ Node 255 → came i ≡ false → later i ≡ false)
    → ((i p : ℕ) (call : CallRec) → IsPosted (posts_of w.envelopes) i (Node 255) p (message.Call call) → came i ≡ false → call.id ≡ id → is_newer (mark_of id) (last_mark w.coord.last id.client) ≡ true → IsSuited 255 call
    → IsUnderThen w later k id)
    → ((c : CallRec) → IsIn c (hosted w.coord) → StaysHosted k c) → IsUnder (posts_of w.envelopes) came (marks_in w) w.nodes w.coord id → IsUnderThen w later k id
under_coord w came later k id past others asked stays (Asked i p n call at fresh is newer suited) =
    ⊎_elim
    (λ t.
    let at_coord : IsPosted (posts_of w.envelopes) i (Node 255) p (message.Call call) = subst (λ j. IsPosted (posts_of w.envelopes) i (Node j) p (message.Call call)) t.1 at in
    asked i p call at_coord fresh is (subst (λ ms. is_newer (mark_of id) (last_mark ms id.client) ≡ true) (ap (marks_in w) t.1) newer) (subst (λ j. IsSuited j call) t.1 suited))
    (λ t. Asked i p n call (slice_get_front (posts_of w.envelopes) (letter_posts (length w.commits) k.sent) i _ at) (others i (post (Node n) p (message.Call call)) at (λ e. t.1 (same_node n 255 e)) fresh) is
    (subst (λ ms. is_newer (mark_of id) (last_mark ms id.client) ≡ true) (sym (put_other (marks_in w) 255 k.coord.last n t.1)) newer) suited)
    (tells n 255)
under_coord w came later k id past others asked stays (Waiting n x at is) = Waiting n x at is
under_coord w came later k id past others asked stays (Planned n x at is) = Planned n x at is
under_coord w came later k id past others asked stays (Hosted c at is) =
    ⊎_elim
    (λ kept. Hosted c kept is)
    (λ told.
    let fresh = letter_fresh w.envelopes later (length w.commits) k.sent (reply_letter c told.0 told.1.0) past told.1.1 in
    subst (λ j. IsUnderThen w later k j) is (Answered fresh.0 fresh.1.0 told.1.0 fresh.1.1.0 fresh.1.1.1))
    (stays c at)
under_coord w came later k id past others asked stays (Answered i p answer at fresh) =
    Answered i p answer (slice_get_front (posts_of w.envelopes) (letter_posts (length w.commits) k.sent) i _ at)
    (others i (post (Client id.client) p (message.Reply id answer)) at (λ e. let wrong : Client id.client ≡ Node 255 = e in absurd (cc)) fresh)
under_coord w came later k id past others asked stays (Stale i p old new changes at fresh) =
    Stale i p old new changes (slice_get_front (posts_of w.envelopes) (letter_posts (length w.commits) k.sent) i _ at)
    (others i (post (Client id.client) p (message.Stale id old new changes)) at (λ e. let wrong : Client id.client ≡ Node 255 = e in absurd (cc)) fresh)
under_coord w came later k id past others asked stays (Opened i p dir at fresh) =
    Opened i p dir (slice_get_front (posts_of w.envelopes) (letter_posts (length w.commits) k.sent) i _ at)
    (others i (post (Client id.client) p (message.Opened id dir)) at (λ e. let wrong : Client id.client ≡ Node 255 = e in absurd (cc)) fresh)

-- a call that is asked for is so still
asked_still : (w : World) (later : ℕ → Bool) (k : Work) (i p : ℕ) (id : CallId) (call : CallRec) → IsPosted (posts_of w.envelopes) i (Node 255) p (message.Call call) → later i ≡ false → call.id ≡ id
    → is_newer (mark_of id) (last_mark k.coord.last id.client) ≡ true → IsSuited 255 call → IsUnderThen w later k id
asked_still w later k i p id call at fresh is newer suited =
    Asked i p 255 call (slice_get_front (posts_of w.envelopes) (letter_posts (length w.commits) k.sent) i _ at) fresh is
    (subst (λ ms. is_newer (mark_of id) (last_mark ms id.client) ≡ true) (sym (put_same (marks_in w) 255 k.coord.last)) newer) suited

-- ---- the last marks

walked_last : (coord : CoordState) (call : CallRec) (end : PathsWalk) → (walked_as coord call end).coord.last ≡ coord.last
unfolding asking locking
walked_last coord call (Stopped errno) = refl
walked_last coord call (Lacking key) = refl
walked_last coord call (Ready walks) = refl

walk_last : (coord : CoordState) (call : CallRec) → (walk_step coord call).coord.last ≡ coord.last
unfolding walk_step
walk_last coord call = walked_last coord call (walk_paths coord.replica call.cred (walked_paths call.op))

placing_last : (coord : CoordState) (call : CallRec) (placing : Placing) (refused : Option Errno) → (placing_by coord call placing refused).coord.last ≡ coord.last
unfolding blocking
placing_last coord call placing None = refl
placing_last coord call placing (Some errno) = refl

begun_last : (coord : CoordState) (call : CallRec) (o : Option Placing) → (begun_by coord call o).coord.last ≡ coord.last
begun_last coord call None = walk_last coord call
begun_last coord call (Some placing) = placing_last coord call placing (place_refusal coord.table call.cred placing)

judged_last : (coord : CoordState) (operation : Operation) (rows : List Update) (j : Judged) → (judged_work coord operation rows j).coord.last ≡ coord.last
unfolding decided counting
judged_last coord operation rows (judged.Fail errno) = refl
judged_last coord operation rows judged.Same = refl
judged_last coord operation rows (judged.Change updates) = refl
judged_last coord operation rows (judged.Count dir updates) = refl

found_last : (coord : CoordState) (point : ℕ) (call : CallRec) (key : Key) (what : Found) → (found_at coord point call key what).coord.last ≡ coord.last
unfolding learned
found_last coord point call key (found.Dir dentry) = walk_last (learned coord key dentry) call
found_last coord point call key found.Nothing = refl
found_last coord point call key found.File = refl

got_last : (coord : CoordState) (point number : ℕ) (key : Key) (what : Found) (t : Stage) → (take_found coord point number key what t).coord.last ≡ coord.last
got_last coord point number key what (stage.Walk call awaited wanted) =
    elim (number == awaited) as (λ b. (cond b (found_at coord point call key what) (begun coord)).coord.last ≡ coord.last) [ true ↦ found_last coord point call key what | false ↦ refl ]
got_last coord point number key what other = refl

locked_last : (coord : CoordState) (number node : ℕ) (told : List Update) (t : Stage) → (take_locked coord number node told t).coord.last ≡ coord.last
locked_last coord number node told (stage.Lock operation missing rows) =
    elim ((number == coord.operation) && is_missing node missing) as (λ b. (cond b (lock_heard coord operation (rows ++ told) (without_node node missing)) (begun coord)).coord.last ≡ coord.last) [
      | true ↦ elim (without_node node missing) as (λ ms. (lock_heard coord operation (rows ++ told) ms).coord.last ≡ coord.last) [ [] ↦ judged_last coord operation (rows ++ told) (verdict_on operation (rows ++ told)) | y ∷ ys ↦ refl ]
      | false ↦ refl
    ]
locked_last coord number node told other = refl

counted_last : (coord : CoordState) (number node count : ℕ) (t : Stage) → (take_counted coord number node count t).coord.last ≡ coord.last
counted_last coord number node count (stage.Count operation rows dir updates missing counts) =
    elim ((number == coord.operation) && is_missing node missing) as (λ b. (cond b (count_heard coord operation rows dir updates (counts ++ count ∷ []) (without_node node missing)) (begun coord)).coord.last ≡ coord.last) [
      | true ↦ elim (without_node node missing) as (λ ms. (count_heard coord operation rows dir updates (counts ++ count ∷ []) ms).coord.last ≡ coord.last) [
        | [] ↦ judged_last coord operation rows (counted_of (counts ++ count ∷ []) updates)
        | y ∷ ys ↦ refl
      ]
      | false ↦ refl
    ]
counted_last coord number node count other = refl

done_last : (coord : CoordState) (number node : ℕ) (t : Stage) → (take_done coord number node t).last ≡ coord.last
done_last coord number node (stage.Finish keys updates missing) =
    elim ((number == coord.operation) && is_missing node missing) as (λ b. (cond b (at_stage coord (finish_at keys updates (without_node node missing))) coord).last ≡ coord.last) [ true ↦ refl | false ↦ refl ]
done_last coord number node other = refl

placed_last : (coord : CoordState) (call : CallRec) (rows : List NamedRow) (o : Option Placing) → (placed_by coord call rows o).coord.last ≡ coord.last
unfolding name_placed
placed_last coord call rows None = refl
placed_last coord call rows (Some placing) = refl

blocked_last : (coord : CoordState) (number node : ℕ) (told : List NamedRow) (t : Stage) → (take_blocked coord number node told t).coord.last ≡ coord.last
blocked_last coord number node told (stage.Block call missing rows) =
    elim ((number == coord.operation) && is_missing node missing) as (λ b. (cond b (block_heard coord call (rows ++ told) (without_node node missing)) (begun coord)).coord.last ≡ coord.last) [
      | true ↦ elim (without_node node missing) as (λ ms. (block_heard coord call (rows ++ told) ms).coord.last ≡ coord.last) [ [] ↦ placed_last coord call (rows ++ told) (placing_of call.op) | y ∷ ys ↦ refl ]
      | false ↦ refl
    ]
blocked_last coord number node told other = refl

installed_last : (coord : CoordState) (number node : ℕ) (t : Stage) → (take_installed coord number node t).last ≡ coord.last
installed_last coord number node (stage.Install call missing) =
    elim ((number == coord.operation) && is_missing node missing) as (λ b. (cond b (at_stage coord (install_at call (without_node node missing))) coord).last ≡ coord.last) [ true ↦ refl | false ↦ refl ]
installed_last coord number node other = refl

message_last : (coord : CoordState) (point : ℕ) (read : Message) → ((call : CallRec) → read ≡ message.Call call → ⊥) → (take_message coord point read).coord.last ≡ coord.last
message_last coord point (message.Call call) no_call = absurd (no_call call refl)
message_last coord point (message.FetchGot number key what) no_call = got_last coord point number key what coord.stage
message_last coord point (message.Locked number node rows) no_call = locked_last coord number node rows coord.stage
message_last coord point (message.Counted number node count) no_call = counted_last coord number node count coord.stage
message_last coord point (message.Done number node) no_call = done_last coord number node coord.stage
message_last coord point (message.Blocked number node rows) no_call = blocked_last coord number node rows coord.stage
message_last coord point (message.Installed number node) no_call = installed_last coord number node coord.stage
message_last coord point other no_call = refl

-- ---- Start

-- it begins with the first call that waits
begins_with : (coord : CoordState) (k : Work) (t : Stage) (calls : List CallRec) → coord.stage ≡ t → coord.waiting ≡ calls → begin coord t ≡ Some k → (k.coord.last ≡ coord.last) × ((c : CallRec) → IsIn c (hosted coord) → StaysHosted k c)
unfolding started
begins_with coord k stage.Idle [] at waits is = let none : None ≡ Some k = sym (ap (λ cs. start_first coord cs) waits) ∙ is in absurd (cc)
begins_with coord k stage.Idle (call ∷ calls) at waits is =
    let made : Some (start (started coord calls) call) ≡ Some k = sym (ap (λ cs. start_first coord cs) waits) ∙ is in
    let one = λ (c : CallRec) (here : IsIn c (hosted coord)). subst (λ cs. IsIn c cs) waits (subst (λ u. IsIn c (calls_of u ++ coord.waiting)) at here) in
    subst (λ (y : Work). (y.coord.last ≡ coord.last) × ((c : CallRec) → IsIn c (hosted coord) → StaysHosted y c)) (same_Some (start (started coord calls) call) k made)
    (elim (is_busy call.op) as (λ b. ((cond b (given_up (started coord calls) call (Here 0) Ebusy) (begun_by (started coord calls) call (placing_of call.op))).coord.last ≡ coord.last)
    × ((c : CallRec) → IsIn c (hosted coord) → StaysHosted (cond b (given_up (started coord calls) call (Here 0) Ebusy) (begun_by (started coord calls) call (placing_of call.op))) c)) [
      | true ↦ (refl, (λ c here. given_stays (started coord calls) call c (Here 0) Ebusy (one c here)))
      | false ↦ (begun_last (started coord calls) call (placing_of call.op), (λ c here. begun_stays (started coord calls) call c (placing_of call.op) (one c here)))
    ])
begins_with coord k (stage.Walk call awaited wanted) calls at waits is = absurd (cc)
begins_with coord k (stage.Lock operation missing rows) calls at waits is = absurd (cc)
begins_with coord k (stage.Count operation rows dir updates missing counts) calls at waits is = absurd (cc)
begins_with coord k (stage.Finish keys updates missing) calls at waits is = absurd (cc)
begins_with coord k (stage.Block call missing rows) calls at waits is = absurd (cc)
begins_with coord k (stage.Install call missing) calls at waits is = absurd (cc)

pub start_follows : (config : Config) (w : World) (came : ℕ → Bool) (k : Work) → IsMoving config w came → IsFollowed w came → coord_step w.coord coord_event.Start ≡ Some k → All (λ (l : Letter). Fits l.message) k.sent
    → IsFollowed (coord_after config w k) came
unfolding coord_step
start_follows config w came k m f is fit =
    let begins = begins_with w.coord k w.coord.stage w.coord.waiting refl refl is in
    coord_follows config w came came k fit f
    (λ id under.
    under_coord w came came k id m.past (λ i y at ne fresh. fresh)
    (λ i p call at fresh same newer suited. asked_still w came k i p id call at fresh same (subst (λ ms. is_newer (mark_of id) (last_mark ms id.client) ≡ true) (sym begins.0) newer) suited)
    begins.1 under)
    (marks_stay w came 255 k.coord.last f begins.0)

-- ---- Hear

module _ (config : Config) (w : World) (came : ℕ → Bool) (e : ℕ) (x : Envelope) (h : Ghost) (s : Shows config w h) (m : IsMoving config w came) (f : IsFollowed w came) (c : IsComingHere w e x) where
  abbrev old : List Post
  old = posts_of w.envelopes

  abbrev later : ℕ → Bool
  later = put came e true

  past_here : (i : ℕ) → length w.envelopes ≤ i → later i ≡ false
  past_here i high = came_past w.envelopes e x came c.at m.past i high

  here_is : (i : ℕ) (y : Post) → i ≡ e → slice_get old i ≡ Some y → y ≡ post_of x
  here_is i y same at = same_Some y (post_of x) (sym at ∙ ap (slice_get old) same ∙ post_at w.envelopes e x c.at)

  -- the envelopes to others are as they were
  others_fresh : (i : ℕ) (y : Post) → slice_get old i ≡ Some y → y.to ≢ Node 255 → came i ≡ false → later i ≡ false
  others_fresh i y at ne fresh =
      ⊎_elim (λ t. absurd (ne (ap (λ (z : Post). z.to) (here_is i y t.1 at) ∙ ap seat c.to))) (λ t. put_other came e true i t.1 ∙ fresh) (tells i e)

  -- what comes is no call
  plain_hears : (k : Work) → ((call : CallRec) → result_ok (reading x.bytes) ≡ Some (message.Call call) → ⊥) → k.coord.last ≡ w.coord.last → ((d : CallRec) → IsIn d (hosted w.coord) → StaysHosted k d)
      → All (λ (l : Letter). Fits l.message) k.sent → IsFollowed (coord_after config w k) later
  plain_hears k no_call last stays fit =
      coord_follows config w came later k fit f
      (λ id under.
      under_coord w came later k id past_here others_fresh
      (λ i p call at fresh same newer suited.
      ⊎_elim
      (λ t. absurd (no_call call (sym (ap (λ (z : Post). z.message) (here_is i _ t.1 at)))))
      (λ t. asked_still w later k i p id call at (put_other came e true i t.1 ∙ fresh) same (subst (λ ms. is_newer (mark_of id) (last_mark ms id.client) ≡ true) (sym last) newer) suited)
      (tells i e))
      stays under)
      (marks_stay w came 255 k.coord.last f last)

  -- a call comes
  posted_call : (call : CallRec) → reading x.bytes ≡ Ok (message.Call call) → IsPosted old e (Node 255) x.point (message.Call call)
  posted_call call is = post_at w.envelopes e x c.at ∙ (λ i. Some (record { to = seat (c.to i); point = x.point; message = result_ok (is i) }))

  both_true : (a b : Bool) → a ≡ true → b ≡ true → (a && b) ≡ true
  both_true true b first second = second
  both_true false b first second = absurd (cc)

  abbrev is_due : CallRec → Bool
  is_due call = is_operation call.op && is_newer (mark_of call.id) (last_mark w.coord.last call.id.client)

  -- it is none that is under way
  ignored : (call : CallRec) → reading x.bytes ≡ Ok (message.Call call) → is_due call ≡ false → IsFollowed (coord_after config w (begun w.coord)) later
  ignored call is off =
      coord_follows config w came later (begun w.coord) (λ i y lt. absurd (omega arith)) f
      (λ id under.
      under_coord w came later (begun w.coord) id past_here others_fresh
      (λ i p d at fresh same newer suited.
      ⊎_elim
      (λ t.
      let mine : d ≡ call = same_posted old e 255 p x.point d call (subst (λ j. IsPosted old j (Node 255) p (message.Call d)) t.1 at) (posted_call call is) in
      let due : is_due d ≡ true = both_true (is_operation d.op) (is_newer (mark_of d.id) (last_mark w.coord.last d.id.client)) (suited.0 refl) (subst (λ j. is_newer (mark_of j) (last_mark w.coord.last j.client) ≡ true) (sym same) newer) in
      let wrong : true ≡ false = sym due ∙ ap (λ y. is_due y) mine ∙ off in
      absurd (cc))
      (λ t. asked_still w later (begun w.coord) i p id d at (put_other came e true i t.1 ∙ fresh) same newer suited)
      (tells i e))
      (λ d at. inl at) under)
      (marks_stay w came 255 w.coord.last f refl)

  -- it is the one that is under way, and is kept now
  kept_now : (call : CallRec) → reading x.bytes ≡ Ok (message.Call call) → is_newer (mark_of call.id) (last_mark w.coord.last call.id.client) ≡ true → IsFollowed (coord_after config w (begun (taken w.coord call))) later
  unfolding taken
  kept_now call is newest =
      let k = begun (taken w.coord call) in
      let mine = asked_by config w 255 h e x.point call s (posted_call call is) newest in
      let at_end : IsIn call (hosted k.coord) = in_back (calls_of w.coord.stage) (w.coord.waiting ++ call ∷ []) call (in_last w.coord.waiting call) in
      coord_follows config w came later k (λ i y lt. absurd (omega arith)) f
      (λ id under.
      under_coord w came later k id past_here others_fresh
      (λ i p d at fresh same newer suited.
      ⊎_elim
      (λ t. Hosted call at_end (ap (λ (y : CallRec). y.id) (sym (same_posted old e 255 p x.point d call (subst (λ j. IsPosted old j (Node 255) p (message.Call d)) t.1 at) (posted_call call is))) ∙ same))
      (λ t.
      ⊎_elim
      (λ z.
      let theirs = asked_by config w 255 h i p d s at (subst (λ j. is_newer (mark_of j) (last_mark w.coord.last j.client) ≡ true) (sym same) newer) in
      let lane : d.id.client ≡ call.id.client = ap (λ (j : CallId). j.client) same ∙ z.0 in
      let one : d ≡ call = theirs.0 ∙ ap h.call lane ∙ sym mine.0 in
      Hosted call at_end (ap (λ (y : CallRec). y.id) (sym one) ∙ same))
      (λ z. asked_still w later k i p id d at (put_other came e true i t.1 ∙ fresh) same (ap (is_newer (mark_of id)) z.1 ∙ newer) suited)
      (mark_cases w.coord.last call.id.client (mark_of call.id) id.client))
      (tells i e))
      (λ d at. ⊎_elim
      (λ front. inl (in_front (calls_of w.coord.stage) (w.coord.waiting ++ call ∷ []) d front))
      (λ back. inl (in_back (calls_of w.coord.stage) (w.coord.waiting ++ call ∷ []) d (in_front w.coord.waiting (call ∷ []) d back)))
      (in_join (calls_of w.coord.stage) w.coord.waiting d at))
      under)
      (taken_marks config w came 255 h call s f mine)

  call_hears : (call : CallRec) → reading x.bytes ≡ Ok (message.Call call) → IsFollowed (coord_after config w (begun (take_call w.coord call))) later
  call_hears call is =
      elim (is_due call) as (λ b. is_due call ≡ b → IsFollowed (coord_after config w (begun (cond b (taken w.coord call) w.coord))) later) [
        | true ↦ λ due. kept_now call is (both_are (is_operation call.op) (is_newer (mark_of call.id) (last_mark w.coord.last call.id.client)) due).1
        | false ↦ λ off. ignored call is off
      ] refl

  other_hears : (read : Message) → reading x.bytes ≡ Ok read → ((call : CallRec) → read ≡ message.Call call → ⊥) → All (λ (l : Letter). Fits l.message) (take_message w.coord x.point read).sent
      → IsFollowed (coord_after config w (take_message w.coord x.point read)) later
  other_hears read is no_call fit =
      plain_hears (take_message w.coord x.point read) (λ call z. no_call call (same_Some read (message.Call call) (sym (ap result_ok is) ∙ z))) (message_last w.coord x.point read no_call)
      (λ d at. message_stays w.coord x.point read d no_call at) fit

  message_hears : (read : Message) → reading x.bytes ≡ Ok read → All (λ (l : Letter). Fits l.message) (take_message w.coord x.point read).sent → IsFollowed (coord_after config w (take_message w.coord x.point read)) later
  message_hears (message.Call call) is fit = call_hears call is
  message_hears read is fit = other_hears read is (λ call z. cc) fit

  read_hears : (read : Result Message WireFault) → reading x.bytes ≡ read → All (λ (l : Letter). Fits l.message) (take_read w.coord x.point read).sent → IsFollowed (coord_after config w (take_read w.coord x.point read)) later
  read_hears (Ok read) is fit = message_hears read is fit
  read_hears (Err fault) is fit = plain_hears (begun w.coord) (λ call z. let none : None ≡ Some (message.Call call) = sym (ap result_ok is) ∙ z in cc) refl (λ d at. inl at) fit

  heard_follows : All (λ (l : Letter). Fits l.message) (heard w.coord x).sent → IsFollowed (coord_after config w (heard w.coord x)) later
  unfolding heard
  heard_follows fit = read_hears (reading x.bytes) refl fit

pub hear_follows : (config : Config) (w : World) (came : ℕ → Bool) (e : ℕ) (x : Envelope) (h : Ghost) (k : Work) → Shows config w h → IsMoving config w came → IsFollowed w came → slice_get w.envelopes e ≡ Some x
    → coord_step w.coord (coord_event.Hear x) ≡ Some k → All (λ (l : Letter). Fits l.message) k.sent → IsFollowed (coord_after config w k) (put came e true)
hear_follows config w came e x h k s m f at is fit =
    hears w.coord x k (λ y. All (λ (l : Letter). Fits l.message) y.sent → IsFollowed (coord_after config w y) (put came e true))
    (λ to fit. heard_follows config w came e x h s m f (record { at = at; to = to }) fit) is fit
