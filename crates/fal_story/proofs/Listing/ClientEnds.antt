-- A client's event on a listing: the client has changed, its letters are sent, and its notes are recorded.
use Rattle.std.proofs.Common.{◌≡◌, ◌≢◌, ℕ, List, [], ◌++◌, length, map, sym, ap, ◌∙◌, subst, append-nil}
use Rattle.std.specs.List.{All}
use Rattle.fal_base.specs.declared.call.CallRec.{CallRec}
use Rattle.fal_base.specs.declared.call.Config.{Config}
use Rattle.fal_base.specs.declared.entry.Entry.{Entry}
use Rattle.fal_base.specs.declared.event.Actor.TheVariants.{Client}
use Rattle.fal_base.specs.Transcript.{commits_of}
use Rattle.fal_client.specs.State.{ClientState, Work as ClientWork}
use Rattle.fal_place.specs.Placement.{Placement}
use Rattle.fal_run.specs.declared.call.BatchCall.{BatchCall}
use Rattle.fal_wire.specs.declared.letter.Letter.{Letter}
use Rattle.fal_wire.specs.Letters.{output_of}
use Rattle.fal_wire.specs.Messages.{Fits}
use Rattle.fal_story.proofs.Events.Besides.{beside_at_client}
use Rattle.fal_story.proofs.Events.ClientEvent.{EndsClient, held_elsewhere, heard_other, sent_more}
use Rattle.fal_story.proofs.Events.InStep.{letter_posts, posts_sent}
use Rattle.fal_story.proofs.Listing.Keeping.{keeping_put}
use Rattle.fal_story.proofs.Events.Shows.{Ghost, Shows, Heard, AreSent, IsKeeping, known_of, posts_of, view_of}
use Rattle.fal_story.proofs.Good.{Good}
use Rattle.fal_story.proofs.Lists.Grown.{at_put, put_all, put_back}
use Rattle.fal_story.proofs.Phase.{Phase, Answer, Plans, Runs, Tells, IsHeld}
use Rattle.fal_story.proofs.View.{View}
use Rattle.fal_story.specs.World.{World, put, posted, entries_of}

-- the view after the event: with what was sent and noted, and the call, the place and the table of the lane
abbrev pub after_client : Config → World → ℕ → Ghost → List Letter → List Entry → Placement → (ℕ → CallRec) → (ℕ → Phase) → View
after_client config w l h sent entries table call phase = record (view_of config w h) {
  posts = posts_of w.envelopes ++ letter_posts (length w.commits) sent;
  entries = w.entries ++ entries;
  call = call;
  phase = phase;
  map = record (view_of config w h).map { known = put (known_of w.clients) l table };
}

-- what has to hold of the event: the call was executed before it, and is planned nowhere after it
pub record IsClientEnd (config : Config) (w : World) (l : ℕ) (h : Ghost) (m : ClientWork) (entries : List Entry) (table : Placement) (call : ℕ → CallRec) (phase : ℕ → Phase) (answer : Answer) : Type 0 where
  pub fits : All (λ s. Fits s.message) m.sent
  pub notes : entries_of (length w.commits) m.notes ≡ entries
  pub none : commits_of config entries ≡ []
  pub seq : m.client.seq ≡ (w.clients l).seq
  pub known : m.client.table ≡ table
  pub good : Good config (after_client config w l h m.sent entries table call phase)
  pub was : h.phase l ≡ Tells answer
  pub unplanned : (n : ℕ) (p : BatchCall) → phase l ≢ Plans n p
  pub others : (a : ℕ) → a ≢ l → (phase a ≡ h.phase a) × (call a ≡ h.call a)
  pub heard : Heard config call phase l m.client
  pub kept : IsKeeping w.commits m.client

pub client_ends : (config : Config) (w : World) (l : ℕ) (h : Ghost) (m : ClientWork) (entries : List Entry) (table : Placement) (call : ℕ → CallRec) (phase : ℕ → Phase) (answer : Answer) → Shows config w h
    → IsClientEnd config w l h m entries table call phase answer → EndsClient config w l m
unfolding posted
client_ends config w l h m entries table call phase answer s x =
    let count = length w.commits in
    let v = view_of config w h in
    let later : Ghost = record h { call = call; phase = phase } in
    let after : World = posted config (record w { clients = put w.clients l m.client }) (Client l) (map output_of m.sent) m.notes in
    let no_commits : commits_of config (entries_of count m.notes) ≡ [] = ap (commits_of config) x.notes ∙ x.none in
    let posts : posts_of w.envelopes ++ letter_posts count m.sent ≡ posts_of after.envelopes = sym (posts_sent (Client l) w.events count w.envelopes m.sent x.fits) in
    let commits : w.commits ≡ after.commits = sym (append-nil w.commits) ∙ ap (λ cs. w.commits ++ cs) (sym no_commits) in
    let seqs : ◌≡◌ {A = ℕ → ℕ} v.seq (λ a. (after.clients a).seq) = sym (at_put (λ (y : ClientState). y.seq) w.clients l m.client ∙ ap (put v.seq l) x.seq ∙ put_back v.seq l) in
    let known : put (known_of w.clients) l table ≡ known_of after.clients = sym (at_put (λ (y : ClientState). y.table) w.clients l m.client ∙ ap (put (known_of w.clients) l) x.known) in
    let same : after_client config w l h m.sent entries table call phase ≡ view_of config after later = λ i. record v {
      posts = posts i;
      entries = w.entries ++ sym x.notes i;
      commits = commits i;
      seq = seqs i;
      call = call;
      phase = phase;
      map = record v.map { known = known i };
    } in (
      later,
      record {
        good = subst (Good config) same x.good;
        held = λ n. held_elsewhere h.call call h.phase phase l (λ a at. subst (IsHeld a) x.was at) x.others n _ _ (s.held n);
        items = λ n. subst (λ ps. AreSent ps n (w.nodes n).items) posts (sent_more (posts_of w.envelopes) (letter_posts count m.sent) n (w.nodes n).items (s.items n));
        heard = put_all (λ a y. Heard config call phase a y) w.clients l m.client x.heard (λ a ne. heard_other config h.call call h.phase phase a (w.clients a) (x.others a ne).0 (x.others a ne).1 (s.heard a));
        kept = λ a. subst (λ cs. IsKeeping cs (after.clients a)) (append-nil w.commits ∙ commits) (keeping_put w.commits w.clients l m.client x.kept s.kept a);
        placed = s.placed;
        beside = beside_at_client config w.nodes w.coord h l call h.since phase s.good.operation.running (λ at. subst (IsHeld 255) x.was at) (λ e. let wrong : Tells answer ≡ Runs = sym x.was ∙ e in absurd (cc)) x.unplanned x.others s.beside;
      },
    )
