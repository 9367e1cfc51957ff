-- Each call under way is found after a client sent, and after it heard.
use Rattle.std.proofs.Common.{◌≡◌, ◌≢◌, inl, inr, ⊎_elim, ℕ, ◌+◌, ◌<◌, ◌≤◌, Bool, true, false, List, [], ◌∷◌, ◌++◌, length, map, Option, Some, None, Result, Ok, Err, refl, sym, ap, subst, ◌∙◌, arith, true≢false}
use Rattle.std.specs.Prelude.{slice_get}
use Rattle.std.specs.declared.cmp.Ordering.TheVariants.{Less, Greater}
use Rattle.std.specs.Cmp.{nat_cmp_is}
use Rattle.std.specs.List.{All}
use Rattle.std.specs.Ordering.{nat_cmp, ordering_then, is_gt}
use Rattle.std.specs.Result.{result_ok}
use Rattle.std.proofs.lemmas.List.{map-append}
use Rattle.std.proofs.lemmas.Bool.Decides.{nat_tests}
use Rattle.std.proofs.lemmas.Option.{same_Some}
use Rattle.fal_base.specs.declared.call.Call.{Call}
use Rattle.fal_base.specs.declared.call.CallId.{CallId}
use Rattle.fal_base.specs.declared.call.CallRec.{CallRec}
use Rattle.fal_base.specs.declared.call.Config.{Config}
use Rattle.fal_base.specs.declared.entry.Entry.TheVariants as entry
use Rattle.fal_base.specs.declared.event.Actor.{Actor}
use Rattle.fal_base.specs.declared.event.Actor.TheVariants.{Client, Node}
use Rattle.fal_base.specs.declared.event.Envelope.{Envelope}
use Rattle.fal_base.specs.declared.event.Note.{Note}
use Rattle.fal_base.specs.declared.event.Note.TheVariants as note
use Rattle.fal_base.specs.declared.event.Output.{Output}
use Rattle.fal_base.specs.declared.event.Point.TheVariants.{Here, Carried}
use Rattle.fal_base.specs.declared.path.PathFault.{PathFault}
use Rattle.fal_base.specs.OpPaths.{bad_path}
use Rattle.fal_base.specs.declared.reply.Reply.{Reply}
use Rattle.fal_base.specs.declared.rule.RuleChange.{RuleChange}
use Rattle.fal_base.specs.declared.reply.Reply.TheVariants.{Fail, Names}
use Rattle.fal_base.specs.Answer.{errno_of}
use Rattle.fal_client.specs.declared.current.Current.{Current}
use Rattle.fal_client.specs.declared.current.Listing.{Listing}
use Rattle.fal_client.specs.declared.event.ClientEvent.TheVariants as client
use Rattle.fal_client.specs.Names.{sorted_names}
use Rattle.fal_client.specs.Parts.{greatest_point, names_of, no_parts}
use Rattle.fal_client.specs.Paths.{addressee}
use Rattle.fal_place.specs.Placement.{route, with_changes}
use Rattle.fal_client.specs.State.{ClientState, Work as ClientWork, unchanged}
use Rattle.fal_client.specs.Step.{client_step, begun, skipped, answered, retried, restarted, opened, opened_by, kept, listed, part_of, with_part, taken, first_try, letter_to, id_at}
use Rattle.fal_base.specs.declared.mark.Mark.{Mark}
use Rattle.fal_base.specs.Marks.{mark_cmp, mark_of, last_mark, is_newer}
use Rattle.fal_wire.specs.declared.fault.WireFault.{WireFault}
use Rattle.fal_wire.specs.declared.message.Message.{Message}
use Rattle.fal_wire.specs.declared.message.Message.TheVariants as message
use Rattle.fal_wire.specs.Messages.{Fits, reading}
use Rattle.fal_wire.proofs.ReadingLaws.{spelled_reads}
use Rattle.fal_wire.specs.Letters.{output_of}
use Rattle.fal_wire.specs.Ops.{op_field}
use Rattle.fal_story.proofs.Drain.ClientGoes.{goes_suited}
use Rattle.fal_story.proofs.Drain.Follow.{IsUnder, Asked, IsSuited, IsUpTo, marks_in, IsBusy, IsFollowed, passed_on, IsTold, IsOver, told_more, under_more}
use Rattle.fal_story.proofs.Drain.Moving.{IsMoving}
use Rattle.fal_story.proofs.Drain.MovingClient.{AfterClient}
use Rattle.fal_story.proofs.Drain.MovingDeliver.{post_at}
use Rattle.fal_story.proofs.Drain.Renewed.{next_table}
use Rattle.fal_story.proofs.Drain.Sent.{slice_get_back, posts_long}
use Rattle.fal_story.proofs.Events.ClientEvent.{sent_to}
use Rattle.fal_story.proofs.Events.EnabledClient.{sends, gets, gets_own, trial, IsTaking, IsUnheard}
use Rattle.fal_story.proofs.Events.InStep.{letter_posts, posts_sent}
use Rattle.fal_story.proofs.Events.Rules.{known_route}
use Rattle.fal_story.proofs.Events.ServedCalls.{good_path, seated_at}
use Rattle.fal_story.proofs.Events.Shows.{Ghost, Shows, post_of, posts_of}
use Rattle.fal_story.proofs.Events.StaleEvent.{again, trying}
use Rattle.fal_story.proofs.Events.Within.{reached_route, stale_within}
use Rattle.fal_story.proofs.Lists.Grown.{tells, put_all, put_other, slice_get_below, slice_get_end}
use Rattle.fal_story.proofs.Lists.Newer.{newer_attempt, newer_past, not_newer_later}
use Rattle.fal_story.proofs.View.{Post, IsPosted, post, seat}
use Rattle.fal_story.specs.Clusters.{IsCluster}
use Rattle.fal_story.specs.World.{World, put, posted, envelopes_of, entries_of}

-- a client's event, by what it does to its own call and to those of others
client_follows : (config : Config) (w : World) (came later : ℕ → Bool) (l : ℕ) (c : ClientState) (sent : List Output) (notes : List Note) (more : List Post) → IsFollowed w came
    → posts_of (envelopes_of (Client l) w.events (length w.commits) sent) ≡ more
    → ((current : Current) → c.current ≡ Some current → current.listing ≡ None → IsBusy (posts_of w.envelopes ++ more) later (marks_in w) w.nodes w.coord (id_at l c.seq current.attempt))
    → ((id : CallId) → id.client ≢ l → IsUnder (posts_of w.envelopes) came (marks_in w) w.nodes w.coord id → IsUnder (posts_of w.envelopes ++ more) later (marks_in w) w.nodes w.coord id)
    → ((s : ℕ) → 0 < s → IsOver c s → IsTold (w.entries ++ entries_of (length w.commits) notes) l s) → (w.clients l).seq ≤ c.seq
    → IsFollowed (posted config (record w { clients = put w.clients l c }) (Client l) sent notes) later
unfolding posted
client_follows config w came later l c sent notes more f is own others over grows =
    let es = envelopes_of (Client l) w.events (length w.commits) sent in
    let posts : posts_of (w.envelopes ++ es) ≡ posts_of w.envelopes ++ more = map-append (λ e. post_of e) w.envelopes es ∙ ap (λ ps. posts_of w.envelopes ++ ps) is in
    record {
      busy = subst (λ ps. (i : ℕ) (current : Current) → (put w.clients l c i).current ≡ Some current → current.listing ≡ None → IsBusy ps later (marks_in w) w.nodes w.coord (id_at i (put w.clients l c i).seq current.attempt)) (sym posts)
          (put_all (λ i x. (current : Current) → x.current ≡ Some current → current.listing ≡ None → IsBusy (posts_of w.envelopes ++ more) later (marks_in w) w.nodes w.coord (id_at i x.seq current.attempt)) w.clients l c own
          (λ i ne current at unlisted. let b = f.busy i current at unlisted in record { hop = b.hop; under = others (passed_on (id_at i (w.clients i).seq current.attempt) b.hop) ne b.under; newest = b.newest }));
      over = put_all (λ i x. (s : ℕ) → 0 < s → IsOver x s → IsTold (w.entries ++ entries_of (length w.commits) notes) i s) w.clients l c over
          (λ i _ s some at. told_more w.entries (entries_of (length w.commits) notes) i s (f.over i s some at));
      marks = λ n i m at. put_all (λ j x. last_mark (marks_in w n) j ≡ Some m → m.seq ≤ x.seq) w.clients l c (λ z. let low = f.marks n l m z in omega arith) (λ j _ z. f.marks n j m z) i at;
      batches = f.batches;
    }

-- ---- Send

-- a later call is newer
newer_seq : (a b : Mark) → b.seq < a.seq → is_newer a (Some b) ≡ true
unfolding mark_cmp
newer_seq a b low = ap (λ r. is_gt (ordering_then r (ordering_then (nat_cmp a.attempt b.attempt) (nat_cmp a.hop b.hop)))) (sym (nat_cmp_is a.seq b.seq Greater low))

-- so an earlier call is not
older_seq : (a b : Mark) → a.seq < b.seq → is_newer a (Some b) ≡ false
unfolding mark_cmp
older_seq a b low = ap (λ r. is_gt (ordering_then r (ordering_then (nat_cmp a.attempt b.attempt) (nat_cmp a.hop b.hop)))) (sym (nat_cmp_is a.seq b.seq Less low))

newer_than : (a : Mark) (o : Option Mark) → ((b : Mark) → o ≡ Some b → b.seq < a.seq) → is_newer a o ≡ true
newer_than a None h = refl
newer_than a (Some b) h = newer_seq a b (h b refl)

abbrev record_of : ClientState → Call → CallRec
record_of c call = record { id = id_at c.lane (c.seq + 1) 1; cred = call.cred; version = c.table.version; op = call.op }

-- what was over is so, and the last call was no longer under way
before_next : (w : World) (came : ℕ → Bool) (l s : ℕ) → IsFollowed w came → (w.clients l).current ≡ None → 0 < s → s < (w.clients l).seq + 1 → IsTold w.entries l s
before_next w came l s f none some low =
    ⊎_elim (λ t. f.over l s some (inr (t.1, none))) (λ t. let ne = t.1 in f.over l s some (inl (below s (w.clients l).seq low ne))) (tells s (w.clients l).seq)
  where
    below : (s q : ℕ) → s < q + 1 → s ≢ q → s < q
    below s q low ne = ⊎_elim (λ t. absurd (ne t.1)) (λ t. grind (arith, nat_tests)) (tells s q)

-- the post of a client's record, by itself
mail_is : (w : World) (l n : ℕ) (to : Actor) (m : Message) → seat to ≡ Node n → Fits m
    → posts_of (envelopes_of (Client l) w.events (length w.commits) (output_of (letter_to to m) ∷ [])) ≡ post (Node n) (length w.commits + 0) m ∷ []
unfolding output_of
mail_is w l n to m there fits = λ i. record { to = there i; point = length w.commits + 0; message = result_ok (spelled_reads m fits i) } ∷ []

skips : (config : Config) (w : World) (came : ℕ → Bool) (l : ℕ) (h : Ghost) (call : Call) (fault : PathFault) → Shows config w h → IsFollowed w came → (w.clients l).current ≡ None
    → IsFollowed (AfterClient config w l (skipped (w.clients l) fault)) came
unfolding skipped
skips config w came l h call fault s f none =
    let c = w.clients l in
    let notes = note.Sent c.lane (c.seq + 1) ∷ note.Answered c.lane (c.seq + 1) (Here 0) (Fail (errno_of fault)) ∷ [] in
    client_follows config w came came l (taken c) [] notes [] f refl
    (λ current e unlisted. absurd (cc))
    (λ id ne under. under_more (posts_of w.envelopes) [] came came (marks_in w) w.nodes w.coord id (λ k n p d at fresh. fresh) (λ k p reply at fresh. fresh) (λ k p old new changes at fresh. fresh) (λ k p dir at fresh. fresh) under)
    (λ q some at.
    ⊎_elim
    (λ low. told_more w.entries (entries_of (length w.commits) notes) l q (before_next w came l q f none some low))
    (λ z.
    let here : slice_get (entries_of (length w.commits) notes) 1 ≡ Some (entry.Answered l q (length w.commits + 0) (Fail (errno_of fault))) =
    (λ i. Some (entry.Answered ((s.heard l).lane i) (sym z.0 i) (length w.commits + 0) (Fail (errno_of fault)))) in
    (length w.entries + 1, (length w.commits + 0, (Fail (errno_of fault), slice_get_back w.entries (entries_of (length w.commits) notes) 1 _ here))))
    at)
    (omega arith)

begins : (config : Config) (w : World) (came : ℕ → Bool) (l : ℕ) (h : Ghost) (call : Call) → IsCluster config → Shows config w h → IsMoving config w came → IsFollowed w came → (w.clients l).current ≡ None
    → slice_get (w.clients l).left 0 ≡ Some call → bad_path call.op ≡ None → All (λ y. Fits y.message) (begun (w.clients l) call).sent → IsFollowed (AfterClient config w l (begun (w.clients l) call)) came
unfolding begun
begins config w came l h call cluster s m f none left good fit =
    let c = w.clients l in
    let called = record_of c call in
    let to = seated_at c.table call.op in
    let message_sent = letter_to (addressee c.table call.op) (message.Call called) in
    let notes = note.Sent c.lane (c.seq + 1) ∷ [] in
    let new : Post = post (Node to.0) (length w.commits + 0) (message.Call called) in
    let posts = mail_is w l to.0 (addressee c.table call.op) (message.Call called) to.1 (fit 0 message_sent (omega arith)) in
    let long = posts_long w.envelopes in
    let k : ℕ = length (posts_of w.envelopes) in
    let id_is : called.id ≡ id_at l (c.seq + 1) 1 = ap (λ i. id_at i (c.seq + 1) 1) (s.heard l).lane in
    client_follows config w came came l (record (taken c) { current = Some (first_try call) }) (output_of message_sent ∷ []) notes (new ∷ []) f posts
    (λ current e unlisted. subst (λ (x : Current). IsBusy (posts_of w.envelopes ++ new ∷ []) came (marks_in w) w.nodes w.coord (id_at l (c.seq + 1) x.attempt)) (same_Some (first_try call) current e) (record {
      hop = 0;
      under = Asked k (length w.commits + 0) to.0 called (slice_get_end (posts_of w.envelopes) new) (m.past k (omega arith)) id_is
          (newer_than (mark_of (id_at l (c.seq + 1) 1)) (last_mark (marks_in w to.0) l) (λ b is. let low = f.marks to.0 l b is in omega arith))
          (goes_suited config c.table (known_route config w h s l) call.op to.0 m.few good to.1);
      newest = λ i b is. older_seq b (mark_of (id_at l (c.seq + 1) 1)) (let low = f.marks i l b is in omega arith);
    }))
    (λ id ne under. under_more (posts_of w.envelopes) (new ∷ []) came came (marks_in w) w.nodes w.coord id (λ j n p d at fresh. fresh) (λ j p reply at fresh. fresh) (λ j p old new changes at fresh. fresh) (λ j p dir at fresh. fresh) under)
    (λ q some at.
    ⊎_elim
    (λ low. told_more w.entries (entries_of (length w.commits) notes) l q (before_next w came l q f none some low))
    (λ z. absurd (let wrong = z.1 in cc))
    at)
    (omega arith)

pub send_follows : (config : Config) (w : World) (came : ℕ → Bool) (l : ℕ) (h : Ghost) (m : ClientWork) → IsCluster config → Shows config w h → IsMoving config w came → IsFollowed w came → client_step (w.clients l) client.Send ≡ Some m
    → All (λ y. Fits y.message) m.sent → IsFollowed (AfterClient config w l m) came
send_follows config w came l h m cluster s moving f is =
    sends (w.clients l) m (λ y. All (λ z. Fits z.message) y.sent → IsFollowed (AfterClient config w l y) came)
    (λ call none left good fit. begins config w came l h call cluster s moving f none left good fit)
    (λ call fault none left bad fit. skips config w came l h call fault s f none)
    is

-- ---- Get

read_is : (r : Result Message WireFault) (m : Message) → result_ok r ≡ Some m → r ≡ Ok m
read_is (Ok n) m e = cc
read_is (Err fault) m e = absurd (cc)

-- the calls of which no answer, no later table and no opened directory came now
still_under : (w : World) (came : ℕ → Bool) (l number : ℕ) (x : Envelope) (id : CallId) (more : List Post) → slice_get w.envelopes number ≡ Some x → x.to ≡ Client l
    → ((reply : Reply) → id.client ≡ l → reading x.bytes ≡ Ok (message.Reply id reply) → ⊥) → ((old new : ℕ) (changes : List RuleChange) → id.client ≡ l → reading x.bytes ≡ Ok (message.Stale id old new changes) → ⊥)
    → ((dir : ℕ) → id.client ≡ l → reading x.bytes ≡ Ok (message.Opened id dir) → ⊥)
    → IsUnder (posts_of w.envelopes) came (marks_in w) w.nodes w.coord id → IsUnder (posts_of w.envelopes ++ more) (put came number true) (marks_in w) w.nodes w.coord id
still_under w came l number x id more at to unheard untold unopened under =
    under_more (posts_of w.envelopes) more came (put came number true) (marks_in w) w.nodes w.coord id
    (λ k n p d there fresh.
    ⊎_elim
    (λ t. let same = same_post k (post (Node n) p (message.Call d)) t.1 there in let wrong : Client l ≡ Node n = sym (ap seat to) ∙ ap (λ (z : Post). z.to) same in absurd (cc))
    (λ t. put_other came number true k t.1 ∙ fresh)
    (tells k number))
    (λ k p reply there fresh.
    ⊎_elim
    (λ t. let mine = here k p (message.Reply id reply) t.1 there in absurd (unheard reply mine.0 mine.1))
    (λ t. put_other came number true k t.1 ∙ fresh)
    (tells k number))
    (λ k p old new changes there fresh.
    ⊎_elim
    (λ t. let mine = here k p (message.Stale id old new changes) t.1 there in absurd (untold old new changes mine.0 mine.1))
    (λ t. put_other came number true k t.1 ∙ fresh)
    (tells k number))
    (λ k p dir there fresh.
    ⊎_elim
    (λ t. let mine = here k p (message.Opened id dir) t.1 there in absurd (unopened dir mine.0 mine.1))
    (λ t. put_other came number true k t.1 ∙ fresh)
    (tells k number))
    under
  where
    lane_same : (a b : ℕ) → Client a ≡ Client b → b ≡ a
    lane_same a b e = cc

    same_post : (k : ℕ) (y : Post) → k ≡ number → slice_get (posts_of w.envelopes) k ≡ Some y → post_of x ≡ y
    same_post k y same there = same_Some (post_of x) y (sym (post_at w.envelopes number x at) ∙ ap (slice_get (posts_of w.envelopes)) (sym same) ∙ there)

    here : (k p : ℕ) (m : Message) → k ≡ number → IsPosted (posts_of w.envelopes) k (Client id.client) p m → (id.client ≡ l) × (reading x.bytes ≡ Ok m)
    here k p m same there =
        let is = same_post k (post (Client id.client) p m) same there in
        let mine : Client l ≡ Client id.client = sym (ap seat to) ∙ ap (λ (z : Post). z.to) is in
        (lane_same l id.client mine, read_is (reading x.bytes) m (ap (λ (z : Post). z.message) is))

rests : (config : Config) (w : World) (came : ℕ → Bool) (l number : ℕ) (h : Ghost) (x : Envelope) → Shows config w h → IsFollowed w came → slice_get w.envelopes number ≡ Some x → x.to ≡ Client l → IsUnheard w l x
    → IsFollowed (AfterClient config w l (unchanged (w.clients l))) (put came number true)
rests config w came l number h x s f at to unheard =
    let c = w.clients l in
    client_follows config w came (put came number true) l c [] [] [] f refl
    (λ current busy unlisted.
    let b = f.busy l current busy unlisted in
    let id = passed_on (id_at l c.seq current.attempt) b.hop in
    record {
      hop = b.hop;
      under = still_under w came l number x id [] at to (λ reply same read. unheard (message.Reply id reply) read current busy refl refl)
          (λ old new changes same read. true≢false (sym (stale_within config w h s l number x.point id old new changes (sent_to w l number x (message.Stale id old new changes) at to read)) ∙ unheard (message.Stale id old new changes) read current busy refl refl))
          (λ dir same read. unheard (message.Opened id dir) read current busy refl refl unlisted)
          b.under;
      newest = b.newest;
    })
    (λ id ne under. still_under w came l number x id [] at to (λ reply same read. absurd (ne same)) (λ old new changes same read. absurd (ne same)) (λ dir same read. absurd (ne same)) under)
    (λ s some over. told_more w.entries [] l s (f.over l s some over))
    (omega arith)

-- the call is answered, at this point
answers : (config : Config) (w : World) (came : ℕ → Bool) (l number point : ℕ) (x : Envelope) (h : Ghost) (reply : Reply) → Shows config w h → IsFollowed w came → slice_get w.envelopes number ≡ Some x → x.to ≡ Client l
    → IsFollowed (AfterClient config w l (answered (w.clients l) point reply)) (put came number true)
unfolding answered
answers config w came l number point x h reply s f at to =
    let c = w.clients l in
    let notes = note.Answered c.lane c.seq (Carried point) reply ∷ [] in
    client_follows config w came (put came number true) l (record c { current = None }) [] notes [] f refl
    (λ current e unlisted. absurd (cc))
    (λ id ne under. still_under w came l number x id [] at to (λ told same read. absurd (ne same)) (λ old new changes same read. absurd (ne same)) (λ dir same read. absurd (ne same)) under)
    (λ q some over.
    ⊎_elim
    (λ low. told_more w.entries (entries_of (length w.commits) notes) l q (f.over l q some (inl low)))
    (λ z.
    let here : slice_get (entries_of (length w.commits) notes) 0 ≡ Some (entry.Answered l q point reply) = (λ i. Some (entry.Answered ((s.heard l).lane i) (sym z.0 i) point reply)) in
    (length w.entries + 0, (point, (reply, slice_get_back w.entries (entries_of (length w.commits) notes) 0 _ here))))
    over)
    (omega arith)

-- ---- a later table

-- the next attempt of a call is newer than all that were taken, since these are no newer than the last attempt
newer_try : (id : CallId) (m : Mark) → IsUpTo m id → is_newer (mark_of (id_at id.client id.seq (id.attempt + 1))) (Some m) ≡ true
newer_try id m up = newer_past (mark_of id) (mark_of (id_at id.client id.seq (id.attempt + 1))) m (newer_attempt (mark_of id)) up

-- none of which is newer than it
older_try : (id : CallId) (m : Mark) → IsUpTo m id → IsUpTo m (id_at id.client id.seq (id.attempt + 1))
older_try id m up = not_newer_later m (mark_of (id_at id.client id.seq (id.attempt + 1))) (Some (mark_of id)) (newer_attempt (mark_of id)) up

newer_than_all : (id : CallId) (o : Option Mark) → ((m : Mark) → o ≡ Some m → IsUpTo m id) → is_newer (mark_of (id_at id.client id.seq (id.attempt + 1))) o ≡ true
newer_than_all id None up = refl
newer_than_all id (Some m) up = newer_try id m (up m refl)

-- the call is on its way again, to an actor that is one for it
takes : (config : Config) (w : World) (came : ℕ → Bool) (l number : ℕ) (h : Ghost) (x : Envelope) (id : CallId) (old new : ℕ) (changes : List RuleChange) (call : Call) (attempt : ℕ) → Shows config w h → IsMoving config w came → IsFollowed w came
    → slice_get w.envelopes number ≡ Some x → x.to ≡ Client l → IsTaking w l x id old new changes call attempt
    → All (λ y. Fits y.message) (retried (w.clients l) (trial call attempt None) old new changes).sent
    → IsFollowed (AfterClient config w l (retried (w.clients l) (trial call attempt None) old new changes)) (put came number true)
unfolding retried
takes config w came l number h x id old new changes call attempt s m f at to taking fit =
    let c = w.clients l in
    let current : Current = trial call attempt None in
    let posted = sent_to w l number x (message.Stale id old new changes) at to taking.read in
    let table = with_changes c.table new changes in
    let same_table = next_table config w h l number x.point id old new changes current s posted taking.busy taking.seq taking.attempt in
    let y = (s.heard l).some current taking.busy in
    let good = good_path call.op (subst (λ (k : Call). op_field.Fits k.op) (sym y.1) (s.good.lanes.under_way.fits l y.0)) in
    let called = again c call (attempt + 1) new in
    let at_seat = seated_at table call.op in
    let n = at_seat.0 in
    let sent = letter_to (addressee table call.op) (message.Call called) in
    let notes = note.Stale c.lane c.seq old new ∷ [] in
    let later : ℕ → Bool = put came number true in
    let mail : Post = post (Node n) (length w.commits + 0) (message.Call called) in
    let posts = mail_is w l n (addressee table call.op) (message.Call called) at_seat.1 (fit 0 sent (omega arith)) in
    let long = posts_long w.envelopes in
    let k : ℕ = length (posts_of w.envelopes) in
    let below = slice_get_below w.envelopes number x at in
    let fresh : later k ≡ false = put_other came number true k (λ e. absurd (omega arith)) ∙ m.past k (omega arith) in
    let id_is : called.id ≡ id_at l c.seq (attempt + 1) = ap (λ i. id_at i c.seq (attempt + 1)) (s.heard l).lane in
    let b = f.busy l current taking.busy refl in
    let was = passed_on (id_at l c.seq attempt) b.hop in
    let suited : IsSuited n called = goes_suited config table (λ names. subst (λ t. route t names < config.nodes) (sym same_table) (reached_route config w h s new names)) call.op n m.few good at_seat.1 in
    client_follows config w came later l (trying c table call (attempt + 1)) (output_of sent ∷ []) notes (mail ∷ []) f posts
    (λ next e unlisted. subst (λ (z : Current). IsBusy (posts_of w.envelopes ++ mail ∷ []) later (marks_in w) w.nodes w.coord (id_at l c.seq z.attempt)) (same_Some (record { call = call; attempt = attempt + 1; listing = None }) next e) (record {
      hop = 0;
      under = Asked k (length w.commits + 0) n called (slice_get_end (posts_of w.envelopes) mail) fresh id_is (newer_than_all was (last_mark (marks_in w n) l) (λ z is. b.newest n z is)) suited;
      newest = λ i z is. older_try was z (b.newest i z is);
    }))
    (λ other ne under. still_under w came l number x other (mail ∷ []) at to (λ reply same read. absurd (ne same)) (λ old new changes same read. absurd (ne same)) (λ dir same read. absurd (ne same)) under)
    (λ q some over.
    ⊎_elim
    (λ low. told_more w.entries (entries_of (length w.commits) notes) l q (f.over l q some (inl low)))
    (λ z. absurd (let wrong = z.1 in cc))
    over)
    (omega arith)

-- ---- a listing

-- the call lists, so that its parts are followed
lists : (config : Config) (w : World) (came : ℕ → Bool) (l number : ℕ) (x : Envelope) (k : ClientWork) (current : Current) (listing : Listing) → IsFollowed w came → slice_get w.envelopes number ≡ Some x → x.to ≡ Client l
    → k.client.current ≡ Some current → current.listing ≡ Some listing → k.client.seq ≡ (w.clients l).seq → All (λ y. Fits y.message) k.sent → IsFollowed (AfterClient config w l k) (put came number true)
lists config w came l number x k current listing f at to busy has seq fit =
    let more = letter_posts (length w.commits) k.sent in
    client_follows config w came (put came number true) l k.client (map output_of k.sent) k.notes more f (posts_sent (Client l) w.events (length w.commits) [] k.sent fit)
    (λ other e unlisted.
    let same : current ≡ other = same_Some current other (sym busy ∙ e) in
    let wrong : ◌≡◌ {A = Option Listing} (Some listing) None = sym has ∙ ap (λ (z : Current). z.listing) same ∙ unlisted in
    absurd (cc))
    (λ id ne under. still_under w came l number x id more at to (λ told same read. absurd (ne same)) (λ old new changes same read. absurd (ne same)) (λ dir same read. absurd (ne same)) under)
    (λ q some over.
    ⊎_elim
    (λ low. told_more w.entries (entries_of (length w.commits) k.notes) l q (f.over l q some (inl (subst (λ i. q < i) seq low))))
    (λ z. let wrong : ◌≡◌ {A = Option Current} None (Some current) = sym z.1 ∙ busy in absurd (cc))
    over)
    (subst (λ i. (w.clients l).seq ≤ i) (sym seq) (itself (w.clients l).seq))
  where
    itself : (n : ℕ) → n ≤ n
    itself n = omega arith

pub get_follows : (config : Config) (w : World) (came : ℕ → Bool) (l number : ℕ) (h : Ghost) (x : Envelope) (m : ClientWork) → Shows config w h → IsMoving config w came → IsFollowed w came → slice_get w.envelopes number ≡ Some x
    → client_step (w.clients l) (client.Get x) ≡ Some m → All (λ y. Fits y.message) m.sent → IsFollowed (AfterClient config w l m) (put came number true)
unfolding opened kept listed retried
get_follows config w came l number h x m s moving f at is =
    let to = gets_own (w.clients l) x m is ∙ ap Client (s.heard l).lane in
    let c = w.clients l in
    let P : ClientWork → Type 0 = λ y. All (λ z. Fits z.message) y.sent → IsFollowed (AfterClient config w l y) (put came number true) in
    gets config w l number h x m P s at
    (λ unheard _. rests config w came l number h x s f at to unheard)
    (record {
      hears = λ id reply current a _. answers config w came l number x.point x h reply s f at to;
      takes = λ id old new changes call attempt taking fit. takes config w came l number h x id old new changes call attempt s moving f at to taking fit;
      restarts = λ id old new changes call attempt listing a fit. lists config w came l number x (retried c (trial call attempt (Some listing)) old new changes)
          (trial call (attempt + 1) (Some (restarted c.nodes listing))) (restarted c.nodes listing) f at to refl refl refl fit;
      opens = λ id dir call attempt a fit. lists config w came l number x (opened c (trial call attempt None) dir x.point)
          (opened_by c.nodes (trial call attempt None) dir x.point) (record { dir = dir; opened = x.point; parts = no_parts c.nodes }) f at to refl refl refl fit;
      keeps = λ id node names call attempt listing a missing more fit. lists config w came l number x (kept c (trial call attempt (Some listing)) node (part_of x.point names))
          (trial call attempt (Some (with_part listing node (part_of x.point names)))) (with_part listing node (part_of x.point names)) f at to refl refl refl fit;
      lasts = λ id node names call attempt listing a missing one _. answers config w came l number (greatest_point x.point listing.parts) x h (Names (sorted_names (names ++ names_of listing.parts))) s f at to;
    })
    is
