-- What was found for a fetch comes to the node that asked.
use Rattle.std.proofs.Common.{◌≡◌, ◌≢◌, ◌⊎◌, inl, inr, ⊎_elim, ℕ, ◌<◌, ◌≤◌, ◌==◌, true, false, cond, List, [], ◌∷◌, ◌++◌, length, map, filter, Option, Some, None, refl, sym, ap, subst, ◌∙◌, append-nil, append_assoc, arith}
use Rattle.std.specs.Prelude.{slice_get}
use Rattle.std.specs.List.{All}
use Rattle.std.proofs.lemmas.Bool.{eqb-true}
use Rattle.fal_base.specs.declared.call.CallRec.{CallRec}
use Rattle.fal_base.specs.declared.call.Config.{Config}
use Rattle.fal_base.specs.declared.event.Actor.TheVariants.{Client, Node}
use Rattle.fal_base.specs.declared.event.Point.TheVariants.{Carried}
use Rattle.fal_base.specs.declared.inode.Dentry.{Dentry}
use Rattle.fal_base.specs.declared.inode.Inode.{Inode}
use Rattle.fal_base.specs.declared.inode.Kind.TheVariants.{Dir, File}
use Rattle.fal_base.specs.declared.key.Key.{Key}
use Rattle.fal_base.specs.declared.reply.Errno.{Errno}
use Rattle.fal_base.specs.declared.reply.Errno.TheVariants.{Enoent, Enotdir}
use Rattle.fal_base.specs.declared.reply.Reply.{Reply}
use Rattle.fal_base.specs.declared.reply.Reply.TheVariants.{Fail}
use Rattle.fal_base.specs.Commits.{tree_at}
use Rattle.fal_base.specs.Maps.{with_value}
use Rattle.fal_base.specs.Tree.{row_at}
use Rattle.fal_base.specs.Walk.{is_dir, dentry_of}
use Rattle.fal_batch.proofs.Truth.{both_first, both_second}
use Rattle.fal_duty.specs.Duties.{found_of}
use Rattle.fal_node.specs.Deliver.{learned, dismissed, refusals, refuse, settle, settle_pending}
use Rattle.fal_run.specs.declared.call.BatchCall.{BatchCall}
use Rattle.fal_wire.specs.Letters.{reply_letter}
use Rattle.fal_wire.specs.declared.letter.Letter.{Letter}
use Rattle.fal_node.specs.Letters.{begun}
use Rattle.fal_wait.specs.declared.pending_fetch.PendingFetch.{PendingFetch}
use Rattle.fal_wait.specs.declared.waiting_call.WaitingCall.{WaitingCall}
use Rattle.fal_wait.specs.Waiting.{fetch_of, after_settle, waits_on}
use Rattle.fal_wire.specs.declared.message.Found.{Found}
use Rattle.fal_wire.specs.declared.message.Found.TheVariants as found
use Rattle.fal_wire.specs.declared.message.Message.TheVariants as message
use Rattle.fal_wire.specs.Messages.{Fits}
use Rattle.fal_story.proofs.Events.Besides.{beside_still}
use Rattle.fal_story.proofs.Events.Doing.{awaited}
use Rattle.fal_story.proofs.Events.Freed.{IsFreed, freed_moves, beside_freed, seat_kept}
use Rattle.fal_story.proofs.Events.HeldCalls.{AsksNone, others_held, heard_moves, is_on, moved_off, off_all, on_is, held_freed, held_left}
use Rattle.fal_story.proofs.Events.InStep.{at_seat, view_begun, Ends, letter_post, letter_posts, sent_more, view_in, begins, ends}
use Rattle.fal_story.proofs.Events.Shows.{Ghost, Shows, Held, WaitsAt, lane_of, view_of, fetches_of, posts_of, askings_of, calls_in}
use Rattle.fal_story.proofs.Families.Asking.{IsOpened}
use Rattle.fal_story.proofs.Families.Lanes.{positive, IsRight}
use Rattle.fal_story.proofs.Families.Records.{IsResponse}
use Rattle.fal_story.proofs.Good.{Good}
use Rattle.fal_story.proofs.Lists.Each.{Each, each_weaker}
use Rattle.fal_story.proofs.Lists.Members.{each_filter, map_map}
use Rattle.fal_story.proofs.Lists.WaitLists.{tidy_settle, found_number, found_asking, settled_calls, settled_fetches, settled_last, settled_opened, askings_left, left, left_calls, left_fetches, left_last, left_opened, tidy_left, refusals_are}
use Rattle.fal_story.proofs.Phase.{Phase, Idle, Asked, Waits, Plans, Tells, Replies, IsUnanswered, IsFor, IsHeld, Runs, Told}
use Rattle.fal_story.proofs.Steps.Fetching.{closed_good}
use Rattle.fal_story.proofs.Steps.Learned.{learned_good}
use Rattle.fal_story.proofs.Steps.Moved.{MayMove, moved_good}
use Rattle.fal_story.proofs.Steps.Refused.{refused_right}
use Rattle.fal_story.proofs.Steps.Posted.{posted_good}
use Rattle.fal_story.proofs.Trees.PathWalks.{StopsAt, reached_fails}
use Rattle.fal_story.proofs.Trees.Standing.{HasDir}
use Rattle.fal_story.proofs.Trees.Ways.{reached_none, reached_file}
use Rattle.fal_story.proofs.View.{View, Post, Asking, IsPosted, now, post}
use Rattle.fal_story.specs.World.{World, put}

-- the records of all letters can be read
abbrev pub AllFit : List Letter → Type 0
AllFit letters = All (λ letter. Fits letter.message) letters

-- an event that changes nothing
pub stays : (config : Config) (w : World) (n : ℕ) (h : Ghost) → n ≢ 255 → Shows config w h → AllFit [] → Ends config w n (begun (w.nodes n))
stays config w n h other s fit = (
  h,
  ends config w n (begun (w.nodes n)) h other fit (beside_still config w.nodes w.coord h n (w.nodes n) refl refl refl refl s.beside) (begins config w n h other s),
)

abbrev pub asking_of : PendingFetch → Asking
asking_of f = record { number = f.number; key = f.key }

-- ---- the fetch that is answered

-- the fetches of a node in the view are its own
pub own_fetches : (w : World) (n : ℕ) → n ≢ 255 → fetches_of w.nodes w.coord n ≡ askings_of (w.nodes n).waiting.fetches
own_fetches w n other = at_seat (λ m. askings_of (w.nodes m).waiting.fetches) (awaited w.coord.stage) n other

-- the fetch is pending, was opened after so many commits, and the answer is younger
record IsAnswering (w : World) (n : ℕ) (h : Ghost) (p : ℕ) (f : PendingFetch) : Type 0 where
  pending : fetch_of (w.nodes n).waiting f.number ≡ Some f
  place : ℕ
  at : slice_get (askings_of (w.nodes n).waiting.fetches) place ≡ Some (asking_of f)
  since : ℕ
  is : IsOpened w.commits (posts_of w.envelopes) h.call h.since h.phase h.crossed n (asking_of f) since
  younger : since ≤ p

was_pending : (w : World) (n : ℕ) → n ≢ 255 → (j : ℕ) (f : Asking) → ((i : ℕ) × (slice_get (askings_of (w.nodes n).waiting.fetches) i ≡ Some f)) → (i : ℕ) × (slice_get (fetches_of w.nodes w.coord n) i ≡ Some f)
was_pending w n other j f at = (at.0, ap (λ fs. slice_get fs at.0) (own_fetches w n other) ∙ at.1)

-- the record with the fetch's own number and key
record HasAnswer (w : World) (n : ℕ) (h : Ghost) (e p number : ℕ) (key : Key) (what : Found) (f : PendingFetch) : Type 0 where
  answering : IsAnswering w n h p f
  key_is : key ≡ f.key
  posted : IsPosted (posts_of w.envelopes) e (Node n) p (message.FetchGot f.number f.key what)

answers : (config : Config) (w : World) (n : ℕ) (h : Ghost) (e p number : ℕ) (key : Key) (what : Found) (f : PendingFetch) → n ≢ 255 → Shows config w h
    → IsPosted (posts_of w.envelopes) e (Node n) p (message.FetchGot number key what) → fetch_of (w.nodes n).waiting number ≡ Some f → HasAnswer w n h e p number key what f
answers config w n h e p number key what f other s at found =
    let list = (w.nodes n).waiting in
    let same = found_number list number f found in
    let asked = found_asking list number f found in
    let open_at = (s.good.asking.fetches n asked.0 (asking_of f) (ap (λ fs. slice_get fs asked.0) (own_fetches w n other) ∙ asked.1)).1 in
    let at_number : IsPosted (posts_of w.envelopes) e (Node n) p (message.FetchGot f.number key what) = subst (λ j. IsPosted (posts_of w.envelopes) e (Node n) p (message.FetchGot j key what)) (sym same) at in
    let later = open_at.1.later e p key what at_number in
    record {
      answering = record {
        pending = subst (λ j. fetch_of list j ≡ Some f) (sym same) found;
        place = asked.0;
        at = asked.1;
        since = open_at.0;
        is = open_at.1;
        younger = later.1;
      };
      key_is = later.0;
      posted = subst (λ q. IsPosted (posts_of w.envelopes) e (Node n) p (message.FetchGot f.number q what)) later.0 at_number;
    }

-- ---- where its waiters go

on_waits : (n number : ℕ) (p : Phase) → is_on n number p ≡ true → p ≡ Waits n (Some number)
on_waits n number Idle on = absurd (cc)
on_waits n number (Asked m) on = absurd (cc)
on_waits n number (Waits m None) on = absurd (let b = both_second (m == n) false on in cc)
on_waits n number (Waits m (Some f)) on = λ i. Waits (eqb-true m n (both_first (m == n) (f == number) on) i) (Some (eqb-true f number (both_second (m == n) (f == number) on) i))
on_waits n number (Plans m x) on = absurd (cc)
on_waits n number Runs on = absurd (cc)
on_waits n number (Told old new) on = absurd (cc)
on_waits n number (Tells answer) on = absurd (cc)

-- a call stays where it is, or was a waiter and goes on
off_cases : (n number : ℕ) (q p : Phase) → (moved_off n number q p ≡ p) ⊎ ((p ≡ Waits n (Some number)) × (moved_off n number q p ≡ q))
off_cases n number q p = elim (is_on n number p) as (λ b. is_on n number p ≡ b → (cond b q p ≡ p) ⊎ ((p ≡ Waits n (Some number)) × (cond b q p ≡ q))) [
  | true ↦ λ on. inr (on_waits n number p on, refl)
  | false ↦ λ _. inl refl
] refl

off_freed : (n number : ℕ) (q : Phase) (phase : ℕ → Phase) → q ≢ Idle → ((m : ℕ) (x : BatchCall) → q ≢ Plans m x) → AsksNone q → (l : ℕ) → IsFreed n (phase l) (off_all n number q phase l)
off_freed n number q phase some unplanned none l =
    ⊎_elim (λ same. inl same) (λ y. inr (subst (IsFor n) (sym y.0) refl, (λ idle. some (sym y.1 ∙ idle)), (λ m x is. unplanned m x (sym y.1 ∙ is)), subst AsksNone (sym y.1) none)) (off_cases n number q (phase l))

off_may : (config : Config) (v : View) (n number : ℕ) (q : Phase) → ((l : ℕ) → v.phase l ≡ Waits n (Some number) → MayMove config v l (v.phase l) q (v.op.crossed l))
    → (l : ℕ) → ((off_all n number q v.phase l ≡ v.phase l) × (v.op.crossed l ≡ v.op.crossed l)) ⊎ MayMove config v l (v.phase l) (off_all n number q v.phase l) (v.op.crossed l)
off_may config v n number q may l =
    ⊎_elim (λ same. inl (same, refl)) (λ y. inr (subst (λ p. MayMove config v l (v.phase l) p (v.op.crossed l)) (sym y.1) (may l y.0))) (off_cases n number q (v.phase l))

-- ---- a directory was found

learns : (config : Config) (w : World) (n : ℕ) (h : Ghost) (e p : ℕ) (dentry : Dentry) (f : PendingFetch) → n < config.nodes → n ≢ 255 → Shows config w h → AllFit [] → IsAnswering w n h p f
    → IsPosted (posts_of w.envelopes) e (Node n) p (message.FetchGot f.number f.key (found.Dir dentry)) → Ends config w n (begun (learned (w.nodes n) f.number f.key dentry))
unfolding learned
learns config w n h e p dentry f there other s fit a at =
    let node = w.nodes n in
    let list = node.waiting in
    let settled = after_settle list f.number in
    let v = view_of config w h in
    let k = begun (learned node f.number f.key dentry) in
    let q = Waits n None in
    let later : Ghost = record h { phase = off_all n f.number q h.phase } in
    let pends : slice_get (v.fetches n) a.place ≡ Some (asking_of f) = ap (λ fs. slice_get fs a.place) (own_fetches w n other) ∙ a.at in
    let is : HasDir (now v) f.key dentry = s.good.asking.found_dirs e n p a.place (asking_of f) dentry pends at in
    let first = learned_good config v n f.key dentry (inr there) is (s.good.clear.fetch n a.place (asking_of f) pends) s.good in
    let v1 : View = record v { replica = put v.replica n (with_value (v.replica n) f.key dentry) } in
    let second = closed_good config v1 n (askings_of settled.fetches) (inr there)
    (λ j g z. was_pending w n other j g (askings_left list.fetches f.number j g (ap (λ fs. slice_get (askings_of fs) j) (sym (settled_fetches list f.number f a.pending)) ∙ z))) (λ own. absurd (other own)) first in
    let v2 : View = record v1 { fetches = put v1.fetches n (askings_of settled.fetches) } in
    let third = moved_good config v2 later.phase h.crossed (off_may config v2 n f.number q (λ l z. subst (IsHeld n) (sym z) refl)) second in
    let same : record v2 { phase = later.phase } ≡ view_in config w n k later = λ i. record (view_begun config w n h other i) {
      replica = put v.replica n (with_value (at_seat (λ m. (w.nodes m).replica) w.coord.replica n other i) f.key dentry);
      fetches = v2.fetches;
      opened = seat_kept (λ m. (w.nodes m).waiting.opened) w.coord.asked n settled.opened other (settled_opened list f.number) i;
      taken = seat_kept (λ m. (w.nodes m).waiting.last) w.coord.last n settled.last other (settled_last list f.number) i;
      phase = later.phase;
    } in
    let freed = off_freed n f.number q h.phase (λ z. cc) (λ m x z. cc) tt in
    let moves = freed_moves n h.phase later.phase freed in
    let beside = beside_freed config w.nodes w.coord h later n k.node other s.good.operation.running freed (λ l. refl) (λ l. refl) (λ m _. refl) (s.beside.queues n) refl refl refl s.beside in
    let placed = s.placed n in (
      later,
      ends config w n k later other fit beside (record {
        good = subst (Good config) same third;
        here = subst (λ ws. Held h.call later.phase n ws (calls_in node.batches)) (sym (settled_calls list f.number f a.pending)) (held_freed h.call h.phase n f.number list.calls (calls_in node.batches) (s.held n));
        others = others_held w n h.call h.phase later.phase moves (λ m _. s.held m);
        items = sent_more (posts_of w.envelopes) [] n node.items (s.items n);
        others_items = λ m _. s.items m;
        heard = heard_moves config w n h.call h.phase later.phase moves s.heard;
        kept = s.kept;
        placed = record { number = placed.number; limit = placed.limit; blocked = placed.blocked; tidy = tidy_settle list f.number placed.tidy };
        others_placed = λ m _. s.placed m;
      }),
    )

-- ---- nothing was found, or a file

pub none_found : (row : Option Inode) → found.Nothing ≡ found_of row → row ≡ None
none_found None e = refl
none_found (Some inode) e = absurd (elim inode.kind as (λ kind. found.Nothing ≡ elim kind [ Dir ↦ found.Dir (dentry_of inode) | File ↦ found.File ] → ⊥) [ Dir ↦ λ z. cc | File ↦ λ z. cc ] e)

pub file_found : (row : Option Inode) → found.File ≡ found_of row → (file : Inode) × ((row ≡ Some file) × (is_dir file ≡ false))
file_found None e = absurd (cc)
file_found (Some inode) e = (
  inode,
  (
    refl,
    elim inode.kind as (λ kind. found.File ≡ elim kind [ Dir ↦ found.Dir (dentry_of inode) | File ↦ found.File ] → elim kind [ Dir ↦ true | File ↦ false ] ≡ false) [ Dir ↦ λ z. absurd (cc) | File ↦ λ z. refl ] e,
  ),
)

-- a waiter's walk comes to the key at the answer's point, so this is its answer
waiter_right : (config : Config) (v : View) (n l p o : ℕ) (f : Asking) (errno : Errno) → Good config v → v.phase l ≡ Waits n (Some f.number) → IsOpened v.commits v.posts v.call v.since v.phase v.op.crossed n f o → o ≤ p → p ≤ length v.commits
    → StopsAt (tree_at v.commits p) f.key errno → IsRight v.commits (v.seq l) (v.call l) (v.since l) l p (Fail errno)
waiter_right config v n l p o f errno g waits is younger past stops =
    let mine = is.waiters l waits in
    let since = mine.0 in
    refused_right config v l p errno g (subst IsUnanswered (sym waits) tt) (omega arith) past (reached_fails (tree_at v.commits p) (v.call l) f.key errno stops (mine.1 p younger past))

-- the answers to these calls
abbrev pub told : ℕ → Reply → List WaitingCall → List Post
told p reply ws = map (λ w. post (Client (lane_of w)) p (message.Reply w.call.id reply)) ws

-- each of them is the answer to its lane's last call
abbrev AreAnswers : View → ℕ → Reply → List WaitingCall → Type 0
AreAnswers v p reply ws = Each (λ w. IsResponse v.seq v.phase (lane_of w) p (message.Reply w.call.id reply)) ws

told_good : (config : Config) (v : View) (p : ℕ) (reply : Reply) (ws : List WaitingCall) → AreAnswers v p reply ws → Good config v → Good config (record v { posts = v.posts ++ told p reply ws })
told_good config v p reply [] fine g = subst (λ posts. Good config (record v { posts = posts })) (sym (append-nil v.posts)) g
told_good config v p reply (w ∷ ws) fine g =
    let x = post (Client (lane_of w)) p (message.Reply w.call.id reply) in
    let one = posted_good config v (Client (lane_of w)) p (message.Reply w.call.id reply) (record { asking = tt; records = (lane_of w, refl, fine.0); operation = tt; bars = tt; knowing = tt; listings = tt }) g in
    subst (λ posts. Good config (record v { posts = posts })) (append_assoc v.posts (x ∷ []) (told p reply ws)) (told_good config (record v { posts = v.posts ++ x ∷ [] }) p reply ws fine.1 one)

-- the answer to a waiter is fine once it is done
waiter_fine : (config : Config) (w : World) (n : ℕ) (h : Ghost) (p : ℕ) (reply : Reply) (number : ℕ) (x : WaitingCall) → Shows config w h → WaitsAt h.call h.phase n x → waits_on number x.fetch ≡ true
    → IsResponse (λ l. (w.clients l).seq) (off_all n number (Tells (Replies p reply)) h.phase) (lane_of x) p (message.Reply x.call.id reply)
waiter_fine config w n h p reply number x s at on =
    let l = lane_of x in
    let some = positive s.good.lanes l (λ idle. let waits = at.0 in cc) in
    let is_last : x.call.id.seq ≡ (w.clients l).seq = ap (λ (c : CallRec). c.id.seq) at.1 ∙ s.good.script.calls.number l some in
    (refl, inr (is_last, inr (ap (λ b. cond b (Tells (Replies p reply)) (h.phase l)) (on_is h.call h.phase n number x at ∙ on))))

waiters_fine : (config : Config) (w : World) (n : ℕ) (h : Ghost) (p : ℕ) (reply : Reply) (number : ℕ) → Shows config w h
    → Each (λ x. IsResponse (λ m. (w.clients m).seq) (off_all n number (Tells (Replies p reply)) h.phase) (lane_of x) p (message.Reply x.call.id reply)) (filter (λ x. waits_on number x.fetch) (w.nodes n).waiting.calls)
waiters_fine config w n h p reply number s =
    each_filter _ (λ x. waits_on number x.fetch) (w.nodes n).waiting.calls (each_weaker (WaitsAt h.call h.phase n) _ (w.nodes n).waiting.calls (λ x at on. waiter_fine config w n h p reply number x s at on) (s.held n).waiters)

-- the waiters leave with this errno
leaves : (config : Config) (w : World) (n : ℕ) (h : Ghost) (p : ℕ) (errno : Errno) (f : PendingFetch) → n < config.nodes → n ≢ 255 → Shows config w h → IsAnswering w n h p f → p ≤ length w.commits → StopsAt (tree_at w.commits p) f.key errno
    → AllFit (refusals (w.nodes n).waiting errno p f.waiters) → Ends config w n (refuse (w.nodes n) p errno f)
unfolding dismissed
leaves config w n h p errno f there other s a past stops fit =
    let node = w.nodes n in
    let list = node.waiting in
    let reply = Fail errno in
    let q = Tells (Replies p reply) in
    let v = view_of config w h in
    let k = refuse node p errno f in
    let later : Ghost = record h { phase = off_all n f.number q h.phase } in
    let on = filter (λ (x : WaitingCall). waits_on f.number x.fetch) list.calls in
    let first = moved_good config v later.phase h.crossed
    (off_may config v n f.number q (λ l z. ((n, subst (IsHeld n) (sym z) refl), waiter_right config v n l p a.since (asking_of f) errno s.good z a.is a.younger past stops))) s.good in
    let v1 : View = record v { phase = later.phase } in
    let gone = left list f in
    let second = closed_good config v1 n (askings_of gone.fetches) (inr there)
    (λ j g z. was_pending w n other j g (askings_left list.fetches f.number j g (ap (λ fs. slice_get (askings_of fs) j) (sym (left_fetches list f (s.placed n).tidy a.pending)) ∙ z))) (λ own. absurd (other own)) first in
    let v2 : View = record v1 { fetches = put v1.fetches n (askings_of gone.fetches) } in
    let third = told_good config v2 p reply on (waiters_fine config w n h p reply f.number s) second in
    let sent = refusals_are list f errno p (s.placed n).tidy a.pending in
    let posts : told p reply on ≡ letter_posts (length w.commits) k.sent =
    sym (ap (letter_posts (length w.commits)) sent ∙ map_map (λ letter. letter_post (length w.commits) letter) (λ (x : WaitingCall). reply_letter x.call (Carried p) reply) on) in
    let same : record v2 { posts = v2.posts ++ told p reply on } ≡ view_in config w n k later = λ i. record (view_begun config w n h other i) {
      fetches = v2.fetches;
      opened = seat_kept (λ m. (w.nodes m).waiting.opened) w.coord.asked n gone.opened other (left_opened list f (s.placed n).tidy) i;
      taken = seat_kept (λ m. (w.nodes m).waiting.last) w.coord.last n gone.last other (left_last list f (s.placed n).tidy) i;
      posts = posts_of w.envelopes ++ posts i;
      phase = later.phase;
    } in
    let freed = off_freed n f.number q h.phase (λ z. cc) (λ m x z. cc) tt in
    let moves = freed_moves n h.phase later.phase freed in
    let beside = beside_freed config w.nodes w.coord h later n k.node other s.good.operation.running freed (λ l. refl) (λ l. refl) (λ m _. refl) (s.beside.queues n) refl refl refl s.beside in
    let placed = s.placed n in (
      later,
      ends config w n k later other fit beside (record {
        good = subst (Good config) same third;
        here = subst (λ ws. Held h.call later.phase n ws (calls_in node.batches)) (sym (left_calls list f placed.tidy a.pending)) (held_left h.call h.phase n f.number q list.calls (calls_in node.batches) (s.held n));
        others = others_held w n h.call h.phase later.phase moves (λ m _. s.held m);
        items = sent_more (posts_of w.envelopes) (letter_posts (length w.commits) k.sent) n node.items (s.items n);
        others_items = λ m _. s.items m;
        heard = heard_moves config w n h.call h.phase later.phase moves s.heard;
        kept = s.kept;
        placed = record { number = placed.number; limit = placed.limit; blocked = placed.blocked; tidy = tidy_left list f placed.tidy a.pending };
        others_placed = λ m _. s.placed m;
      }),
    )

-- ---- by what was found

pending_event : (config : Config) (w : World) (n : ℕ) (h : Ghost) (e p number : ℕ) (key : Key) (what : Found) (f : PendingFetch) → n < config.nodes → n ≢ 255 → Shows config w h
    → IsPosted (posts_of w.envelopes) e (Node n) p (message.FetchGot number key what) → fetch_of (w.nodes n).waiting number ≡ Some f → AllFit (settle (w.nodes n) p key what f).sent → Ends config w n (settle (w.nodes n) p key what f)
pending_event config w n h e p number key (found.Dir dentry) f there other s at pending fit =
    let a = answers config w n h e p number key (found.Dir dentry) f other s at pending in
    subst (λ q. Ends config w n (begun (learned (w.nodes n) f.number q dentry))) (sym a.key_is) (learns config w n h e p dentry f there other s fit a.answering a.posted)
pending_event config w n h e p number key found.Nothing f there other s at pending fit =
    let a = answers config w n h e p number key found.Nothing f other s at pending in
    let was = s.good.asking.founds e n p f.number f.key found.Nothing a.posted in
    let none = none_found (row_at (tree_at w.commits p) f.key) was.1 in
    leaves config w n h p Enoent f there other s a.answering was.0 (λ cred names on. reached_none (tree_at w.commits p) cred names f.key on none) fit
pending_event config w n h e p number key found.File f there other s at pending fit =
    let a = answers config w n h e p number key found.File f other s at pending in
    let was = s.good.asking.founds e n p f.number f.key found.File a.posted in
    let file = file_found (row_at (tree_at w.commits p) f.key) was.1 in
    leaves config w n h p Enotdir f there other s a.answering was.0 (λ cred names on. reached_file (tree_at w.commits p) cred names f.key file.0 on file.1.0 file.1.1) fit

pub got_event : (config : Config) (w : World) (n : ℕ) (h : Ghost) (e p number : ℕ) (key : Key) (what : Found) → n < config.nodes → n ≢ 255 → Shows config w h → IsPosted (posts_of w.envelopes) e (Node n) p (message.FetchGot number key what)
    → AllFit (settle_pending (w.nodes n) p key what (fetch_of (w.nodes n).waiting number)).sent → Ends config w n (settle_pending (w.nodes n) p key what (fetch_of (w.nodes n).waiting number))
got_event config w n h e p number key what there other s at fit =
    let node = w.nodes n in
    elim (fetch_of node.waiting number) as (λ o. fetch_of node.waiting number ≡ o → AllFit (settle_pending node p key what o).sent → Ends config w n (settle_pending node p key what o)) [
      | None ↦ λ _ y. stays config w n h other s y
      | Some f ↦ λ pending y. pending_event config w n h e p number key what f there other s at pending y
    ] refl fit
