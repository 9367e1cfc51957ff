-- Each call under way is found after a record came to a node.
use Rattle.std.proofs.Common.{◌≡◌, ◌≢◌, ◌⊎◌, inl, inr, ⊎_elim, ℕ, ◌≤◌, Bool, true, false, not, cond, List, [], ◌∷◌, ◌++◌, length, filter, Option, Some, None, Ok, refl, sym, ap, subst, ◌∙◌, arith}
use Rattle.std.specs.Prelude.{slice_get}
use Rattle.std.specs.List.{All}
use Rattle.std.specs.Result.{result_ok}
use Rattle.std.proofs.lemmas.Option.{same_Some}
use Rattle.fal_base.specs.declared.call.CallRec.{CallRec}
use Rattle.fal_base.specs.declared.call.Config.{Config}
use Rattle.fal_base.specs.declared.event.Actor.TheVariants.{Node}
use Rattle.fal_base.specs.declared.event.Envelope.{Envelope}
use Rattle.fal_base.specs.declared.event.Point.TheVariants.{Carried}
use Rattle.fal_base.specs.declared.inode.Dentry.{Dentry}
use Rattle.fal_base.specs.declared.key.Key.{Key}
use Rattle.fal_base.specs.declared.reply.Errno.{Errno}
use Rattle.fal_base.specs.declared.reply.Errno.TheVariants.{Enoent, Enotdir}
use Rattle.fal_base.specs.declared.reply.Reply.TheVariants.{Fail}
use Rattle.fal_wire.specs.Letters.{reply_letter}
use Rattle.fal_wire.specs.declared.letter.Letter.{Letter}
use Rattle.fal_node.specs.Deliver.{learned, dismissed, refusals, refuse, settle_pending}
use Rattle.fal_node.specs.Letters.{Work, begun}
use Rattle.fal_node.specs.State.{NodeState}
use Rattle.fal_wait.specs.declared.pending_fetch.PendingFetch.{PendingFetch}
use Rattle.fal_wait.specs.declared.waiting_call.WaitingCall.{WaitingCall}
use Rattle.fal_base.specs.Marks.{mark_of, last_mark, is_newer}
use Rattle.fal_wait.specs.Waiting.{WaitList, fetch_of, off_fetch, waits_on}
use Rattle.fal_wire.specs.declared.message.Found.{Found}
use Rattle.fal_wire.specs.declared.message.Found.TheVariants as found
use Rattle.fal_wire.specs.declared.message.Message.{Message}
use Rattle.fal_wire.specs.declared.message.Message.TheVariants as message
use Rattle.fal_wire.specs.Messages.{Fits, reading}
use Rattle.fal_story.proofs.Drain.Follow.{marks_in, IsFollowed, AreNumbered, under_node, waiting_now, planned_now, asked_now}
use Rattle.fal_story.proofs.Drain.FollowExec.{IsReplied, replied_under}
use Rattle.fal_story.proofs.Drain.FollowNode.{IsUnderAfter, marks_at, node_follows, marks_stay}
use Rattle.fal_story.proofs.Drain.Moving.{IsMoving}
use Rattle.fal_story.proofs.Drain.MovingDeliver.{IsComing, post_at, came_past}
use Rattle.fal_story.proofs.Drain.MovingServe.{After}
use Rattle.fal_story.proofs.Events.InStep.{letter_posts}
use Rattle.fal_story.proofs.Events.Shows.{Ghost, Shows, calls_in, post_of, posts_of}
use Rattle.fal_story.proofs.Lists.Grown.{tells, put_other}
use Rattle.fal_story.proofs.Lists.Members.{IsIn, in_map}
use Rattle.fal_story.proofs.Lists.WaitLists.{found_number, settled_calls, settled_last, left_calls, left_last, refusals_are}
use Rattle.fal_story.proofs.View.{Post, IsPosted, post, seat}
use Rattle.fal_story.specs.World.{World, put}

-- the envelope's post, as a message to this node
pub coming_post : (w : World) (n e : ℕ) (x : Envelope) (m : Message) → IsComing w n e x → reading x.bytes ≡ Ok m → IsPosted (posts_of w.envelopes) e (Node n) x.point m
coming_post w n e x m c read = post_at w.envelopes e x c.at ∙ (λ i. Some (record { to = seat (c.to i); point = x.point; message = result_ok (read i) }))

-- the envelopes to others are as they were
pub other_fresh : (w : World) (came : ℕ → Bool) (n e : ℕ) (x : Envelope) → IsComing w n e x → (k : ℕ) (y : Post) → slice_get (posts_of w.envelopes) k ≡ Some y → y.to ≢ Node n → came k ≡ false → put came e true k ≡ false
other_fresh w came n e x c k y at ne fresh =
    ⊎_elim
    (λ t. absurd (ne (ap (λ (z : Post). z.to) (same_Some y (post_of x) (sym at ∙ ap (slice_get (posts_of w.envelopes)) t.1 ∙ post_at w.envelopes e x c.at)) ∙ ap seat c.to)))
    (λ t. put_other came e true k t.1 ∙ fresh)
    (tells k e)

-- ---- a record that is no call

abbrev pub IsNoCall : Envelope → Type 0
IsNoCall x = (call : CallRec) → result_ok (reading x.bytes) ≡ Some (message.Call call) → ⊥

-- a waiting call stays, or its answer is sent
abbrev StaysOrReplied : NodeState → Work → Type 0
StaysOrReplied node k = (y : WaitingCall) → IsIn y node.waiting.calls → ((z : WaitingCall) × (IsIn z k.node.waiting.calls × (z.call ≡ y.call))) ⊎ IsReplied k.sent y.call

past_still : (xs : List Envelope) (e : ℕ) (x : Envelope) (came : ℕ → Bool) → slice_get xs e ≡ Some x → ((i : ℕ) → length xs ≤ i → came i ≡ false) → (i : ℕ) → length xs ≤ i → put came e true i ≡ false
past_still xs e x came at h = came_past xs e x came at h

other_follows : (config : Config) (w : World) (came : ℕ → Bool) (n e : ℕ) (x : Envelope) (k : Work) → n ≢ 255 → IsMoving config w came → IsFollowed w came → IsComing w n e x → IsNoCall x → All (λ (l : Letter). Fits l.message) k.sent
    → k.node.waiting.last ≡ (w.nodes n).waiting.last → StaysOrReplied (w.nodes n) k → k.node.batches ≡ (w.nodes n).batches → k.node.batches_numbered ≡ (w.nodes n).batches_numbered → IsFollowed (After config w n k) (put came e true)
other_follows config w came n e x k other m f c no_call fit last stays batches numbered =
    let more = letter_posts (length w.commits) k.sent in
    let posts = posts_of w.envelopes in
    let later = put came e true in
    let taken = put (marks_in w) n k.node.waiting.last in
    node_follows config w came later n k other fit f
    (λ id under.
    under_node posts more came later (marks_in w) w.nodes w.coord n k.node id (IsUnderAfter w later n k id) (marks_at w n other) (λ u. u) (other_fresh w came n e x c)
    (λ i p call there fresh same newer suited.
    asked_now posts more later (marks_in w) (put w.nodes n k.node) w.coord n i p k.node.waiting.last id call there
    (⊎_elim
    (λ t. absurd (no_call call (ap (λ (z : Post). z.message) (same_Some (post_of x) (post (Node n) p (message.Call call)) (sym (post_at w.envelopes e x c.at) ∙ ap (slice_get posts) (sym t.1) ∙ there)))))
    (λ t. put_other came e true i t.1 ∙ fresh) (tells i e))
    same (subst (λ ms. is_newer (mark_of id) (last_mark ms id.client) ≡ true) (sym last) newer) suited)
    (λ y there same.
    ⊎_elim
    (λ z. waiting_now (posts ++ more) later taken w.nodes w.coord n k.node id z.0 z.1.0 (ap (λ (d : CallRec). d.id) z.1.1 ∙ same))
    (λ z. replied_under w later k taken (put w.nodes n k.node) w.coord id y.call (past_still w.envelopes e x came c.at m.past) z same)
    (stays y there))
    (λ y there same. planned_now (posts ++ more) later taken w.nodes w.coord n k.node id y (subst (λ bs. IsIn y (calls_in bs)) (sym batches) there) same)
    under)
    (marks_stay w came n k.node.waiting.last f (last ∙ sym (marks_at w n other)))
    (subst (λ bs. AreNumbered bs k.node.batches_numbered) (sym batches) (subst (λ next. AreNumbered (w.nodes n).batches next) (sym numbered) (f.batches n)))

-- nothing changes in the waiting list
pub plain_follows : (config : Config) (w : World) (came : ℕ → Bool) (n e : ℕ) (x : Envelope) (k : Work) → n ≢ 255 → IsMoving config w came → IsFollowed w came → IsComing w n e x → IsNoCall x → All (λ (l : Letter). Fits l.message) k.sent
    → k.node.waiting ≡ (w.nodes n).waiting → k.node.batches ≡ (w.nodes n).batches → k.node.batches_numbered ≡ (w.nodes n).batches_numbered → IsFollowed (After config w n k) (put came e true)
plain_follows config w came n e x k other m f c no_call fit waiting batches numbered =
    other_follows config w came n e x k other m f c no_call fit (ap (λ (z : WaitList). z.last) waiting)
    (λ y at. inl (y, (subst (λ (z : WaitList). IsIn y z.calls) (sym waiting) at, refl))) batches numbered

-- ---- an answer to a fetch

off_call : (number : ℕ) (w : WaitingCall) → (off_fetch number w).call ≡ w.call
off_call number w = elim (waits_on number w.fetch) as (λ b. (cond b (record w { fetch = None }) w).call ≡ w.call) [ true ↦ refl | false ↦ refl ]

dir_follows : (config : Config) (w : World) (came : ℕ → Bool) (n e : ℕ) (key : Key) (dentry : Dentry) (x : Envelope) (fetch : PendingFetch) → n ≢ 255 → IsMoving config w came → IsFollowed w came → IsComing w n e x → IsNoCall x
    → fetch_of (w.nodes n).waiting fetch.number ≡ Some fetch → IsFollowed (After config w n (begun (learned (w.nodes n) fetch.number key dentry))) (put came e true)
unfolding learned
dir_follows config w came n e key dentry x fetch other m f c no_call is =
    let list = (w.nodes n).waiting in
    other_follows config w came n e x (begun (learned (w.nodes n) fetch.number key dentry)) other m f c no_call (λ i y lt. absurd (omega arith)) (settled_last list fetch.number)
    (λ y at. inl (off_fetch fetch.number y, (subst (λ ys. IsIn (off_fetch fetch.number y) ys) (sym (settled_calls list fetch.number fetch is)) (in_map (λ z. off_fetch fetch.number z) list.calls y at), off_call fetch.number y)))
    refl refl

-- a call is kept or not
in_filter : (p : WaitingCall → Bool) (ws : List WaitingCall) (y : WaitingCall) → IsIn y ws → p y ≡ true → IsIn y (filter p ws)
in_filter p [] y at is = absurd at
in_filter p (w ∷ ws) y at is =
    elim (p w) as (λ b. p w ≡ b → IsIn y (cond b (w ∷ filter p ws) (filter p ws))) [
      | true ↦ λ t. ⊎_elim (λ same. inl same) (λ r. inr (in_filter p ws y r is)) at
      | false ↦ λ t. ⊎_elim (λ same. let wrong : p y ≡ false = ap p (sym same) ∙ t in absurd (cc)) (λ r. in_filter p ws y r is) at
    ] refl

refused_follows : (config : Config) (w : World) (came : ℕ → Bool) (n e : ℕ) (errno : Errno) (x : Envelope) (fetch : PendingFetch) (h : Ghost) → n ≢ 255 → Shows config w h → IsMoving config w came → IsFollowed w came → IsComing w n e x → IsNoCall x
    → fetch_of (w.nodes n).waiting fetch.number ≡ Some fetch → All (λ (l : Letter). Fits l.message) (refuse (w.nodes n) x.point errno fetch).sent → IsFollowed (After config w n (refuse (w.nodes n) x.point errno fetch)) (put came e true)
unfolding dismissed
refused_follows config w came n e errno x fetch h other s m f c no_call is fit =
    let list = (w.nodes n).waiting in
    let tidy = (s.placed n).tidy in
    let told = refusals_are list fetch errno x.point tidy is in
    let letter = λ (y : WaitingCall). reply_letter y.call (Carried x.point) (Fail errno) in
    other_follows config w came n e x (refuse (w.nodes n) x.point errno fetch) other m f c no_call fit (left_last list fetch tidy)
    (λ y at.
    elim (waits_on fetch.number y.fetch) as (λ b. waits_on fetch.number y.fetch ≡ b → ((z : WaitingCall) × (IsIn z (refuse (w.nodes n) x.point errno fetch).node.waiting.calls × (z.call ≡ y.call))) ⊎ IsReplied (refusals list errno x.point fetch.waiters) y.call) [
      | true ↦ λ on. inr (Carried x.point, (Fail errno, subst (λ ls. IsIn (letter y) ls) (sym told) (in_map letter (filter (λ z. waits_on fetch.number z.fetch) list.calls) y (in_filter (λ z. waits_on fetch.number z.fetch) list.calls y at on))))
      | false ↦ λ off. inl (y, (subst (λ ys. IsIn y ys) (sym (left_calls list fetch tidy is)) (in_filter (λ z. not (waits_on fetch.number z.fetch)) list.calls y at (ap not off)), refl))
    ] refl)
    refl refl

pub settle_follows : (config : Config) (w : World) (came : ℕ → Bool) (n e : ℕ) (key : Key) (what : Found) (x : Envelope) (o : Option PendingFetch) (number : ℕ) (h : Ghost) → n ≢ 255 → Shows config w h → IsMoving config w came → IsFollowed w came
    → IsComing w n e x → IsNoCall x → fetch_of (w.nodes n).waiting number ≡ o → All (λ (l : Letter). Fits l.message) (settle_pending (w.nodes n) x.point key what o).sent
    → IsFollowed (After config w n (settle_pending (w.nodes n) x.point key what o)) (put came e true)
settle_follows config w came n e key what x None number h other s m f c no_call is fit = plain_follows config w came n e x (begun (w.nodes n)) other m f c no_call fit refl refl refl
settle_follows config w came n e key (found.Dir dentry) x (Some fetch) number h other s m f c no_call is fit =
    dir_follows config w came n e key dentry x fetch other m f c no_call (ap (fetch_of (w.nodes n).waiting) (found_number (w.nodes n).waiting number fetch is) ∙ is)
settle_follows config w came n e key found.Nothing x (Some fetch) number h other s m f c no_call is fit =
    refused_follows config w came n e Enoent x fetch h other s m f c no_call (ap (fetch_of (w.nodes n).waiting) (found_number (w.nodes n).waiting number fetch is) ∙ is) fit
settle_follows config w came n e key found.File x (Some fetch) number h other s m f c no_call is fit =
    refused_follows config w came n e Enotdir x fetch h other s m f c no_call (ap (fetch_of (w.nodes n).waiting) (found_number (w.nodes n).waiting number fetch is) ∙ is) fit
