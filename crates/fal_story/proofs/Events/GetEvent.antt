-- A client hears a record.
use Rattle.std.proofs.Common.{◌≡◌, ℕ, [], ◌∷◌, ◌++◌, length, Some, None, Ok, refl, sym, ap, ◌∙◌, subst, append-nil}
use Rattle.std.specs.Prelude.{slice_get}
use Rattle.std.specs.List.{All}
use Rattle.fal_base.specs.declared.call.CallId.{CallId}
use Rattle.fal_base.specs.declared.call.Config.{Config}
use Rattle.fal_base.specs.declared.entry.Entry.TheVariants as entry
use Rattle.fal_base.specs.declared.event.Actor.TheVariants.{Client}
use Rattle.fal_base.specs.declared.event.Envelope.{Envelope}
use Rattle.fal_base.specs.declared.event.Note.TheVariants as note
use Rattle.fal_base.specs.declared.event.Point.TheVariants.{Carried}
use Rattle.fal_base.specs.declared.reply.Reply.{Reply}
use Rattle.fal_client.specs.declared.current.Current.{Current}
use Rattle.fal_client.specs.declared.event.ClientEvent.TheVariants as client
use Rattle.fal_client.specs.State.{ClientState, Work as ClientWork}
use Rattle.fal_client.specs.Step.{client_step, answered}
use Rattle.fal_wire.specs.declared.message.Message.{Message}
use Rattle.fal_wire.specs.declared.message.Message.TheVariants as message
use Rattle.fal_wire.specs.Messages.{Fits, reading}
use Rattle.fal_story.proofs.Events.Besides.{beside_at_client}
use Rattle.fal_story.proofs.Events.ClientEvent.{EndsClient, held_elsewhere, heard_other, same_known, sent_to, rests}
use Rattle.fal_story.proofs.Events.EnabledClient.{Makes, gets, gets_own}
use Rattle.fal_story.proofs.Events.Hearing.{reply_told}
use Rattle.fal_story.proofs.Listing.Keeping.{keeping_put}
use Rattle.fal_story.proofs.Listing.ListAgain.{restarts}
use Rattle.fal_story.proofs.Listing.ListEvents.{opens, keeps, lasts}
use Rattle.fal_story.proofs.Events.Shows.{Ghost, Shows, Heard, AreSent, view_of, posts_of}
use Rattle.fal_story.proofs.Events.StaleEvent.{retries}
use Rattle.fal_story.proofs.Good.{Good}
use Rattle.fal_story.proofs.Lists.Grown.{put_other, put_same, put_back, at_put, put_all}
use Rattle.fal_story.proofs.Phase.{Idle, Plans, Runs, Tells, Replies, IsHeld}
use Rattle.fal_story.proofs.Steps.Called.{heard_good}
use Rattle.fal_story.proofs.View.{View, IsPosted}
use Rattle.fal_story.specs.Clusters.{IsCluster}
use Rattle.fal_story.specs.World.{World, put, posted}

answers : (config : Config) (w : World) (l : ℕ) (h : Ghost) (number p : ℕ) (id : CallId) (reply : Reply) (current : Current) → Shows config w h → IsPosted (posts_of w.envelopes) number (Client l) p (message.Reply id reply)
    → (w.clients l).current ≡ Some current → id.seq ≡ (w.clients l).seq → EndsClient config w l (answered (w.clients l) p reply)
unfolding posted answered
answers config w l h number p id reply current s at busy last =
    let c = w.clients l in
    let v : View = view_of config w h in
    let x = s.heard l in
    let count = length w.commits in
    let done = reply_told config w l h s current busy number p id reply at last in
    let first = heard_good config v l p reply done s.good in
    let h' : Ghost = record h { phase = put h.phase l Idle } in
    let new : ClientState = record c { current = None } in
    let after : World = posted config (record w { clients = put w.clients l new }) (Client l) [] (note.Answered c.lane c.seq (Carried p) reply ∷ []) in
    let same : record v { entries = w.entries ++ entry.Answered l c.seq p reply ∷ []; phase = h'.phase } ≡ view_of config after h' = λ i. record v {
      posts = posts_of (sym (append-nil w.envelopes) i);
      entries = w.entries ++ entry.Answered (sym x.lane i) c.seq p reply ∷ [];
      commits = sym (append-nil w.commits) i;
      seq = sym (at_put (λ (y : ClientState). y.seq) w.clients l new ∙ put_back v.seq l) i;
      phase = h'.phase;
      map = record v.map { known = sym (same_known w.clients l new refl) i };
    } in (
      h',
      record {
        good = subst (Good config) same first;
        held = λ n. held_elsewhere h.call h.call h.phase h'.phase l (λ m is. subst (IsHeld m) done is) (λ m ne. (put_other h.phase l Idle m ne, refl)) n _ _ (s.held n);
        items = λ n. subst (λ es. AreSent (posts_of es) n (w.nodes n).items) (sym (append-nil w.envelopes)) (s.items n);
        heard = put_all (λ m y. Heard config h.call h'.phase m y) w.clients l new
            (record { lane = x.lane; nodes = x.nodes; left = x.left; none = λ _. put_same h.phase l Idle; some = λ y e. absurd (cc) })
            (λ m ne. heard_other config h.call h.call h.phase h'.phase m (w.clients m) (put_other h.phase l Idle m ne) refl (s.heard m));
        kept = keeping_put w.commits w.clients l new (λ y e. absurd (cc)) s.kept;
        placed = s.placed;
        beside = beside_at_client config w.nodes w.coord h l h.call h.since h'.phase s.good.operation.running (λ at. subst (IsHeld 255) done at) (λ e. let wrong : Tells (Replies p reply) ≡ Runs = sym done ∙ e in absurd (cc))
            (λ i b e. let wrong : Idle ≡ Plans i b = sym (put_same h.phase l Idle) ∙ e in absurd (cc)) (λ m ne. (put_other h.phase l Idle m ne, refl)) s.beside;
      },
    )

pub get_event : (config : Config) (w : World) (l number : ℕ) (x : Envelope) (h : Ghost) (m : ClientWork) → IsCluster config → Shows config w h → slice_get w.envelopes number ≡ Some x
    → client_step (w.clients l) (client.Get x) ≡ Some m → All (λ s. Fits s.message) m.sent → EndsClient config w l m
get_event config w l number x h m cluster s at is fit =
    let to : x.to ≡ Client l = gets_own (w.clients l) x m is ∙ ap Client (s.heard l).lane in
    let came = λ (n : Message) (read : reading x.bytes ≡ Ok n). sent_to w l number x n at to read in
    let Ends : ClientWork → Type 0 = λ work. All (λ s. Fits s.message) work.sent → EndsClient config w l work in
    let make : Makes w l x Ends = record {
      hears = λ id reply current y _. answers config w l h number x.point id reply current s (came (message.Reply id reply) y.read) y.busy y.seq;
      takes = λ id old new changes call attempt y fits. retries config w l number x.point h id old new changes call attempt cluster s (came (message.Stale id old new changes) y.read) y.busy y.seq y.attempt fits;
      restarts = λ id old new changes call attempt listing y fits. restarts config w l h number x.point id old new changes call attempt listing cluster s (came (message.Stale id old new changes) y.read) y.busy y.seq y.attempt fits;
      opens = λ id dir call attempt y fits. opens config w l h number x.point id dir call attempt cluster s (came (message.Opened id dir) y.read) y.busy y.seq fits;
      keeps = λ id node names call attempt listing y missing more _. keeps config w l h number x.point id node names call attempt listing s (came (message.ListPart id node names) y.read) y.busy y.seq y.attempt missing more;
      lasts = λ id node names call attempt listing y missing one _. lasts config w l h number x.point id node names call attempt listing s (came (message.ListPart id node names) y.read) y.busy y.seq y.attempt missing one;
    } in
    gets config w l number h x m Ends s at (λ _ _. rests config w l h s) make is fit
