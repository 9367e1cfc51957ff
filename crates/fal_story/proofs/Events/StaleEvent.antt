-- A client hears that its table is stale: it takes the changes, and sends its call again by the newer table.
use Rattle.std.proofs.Common.{◌≡◌, ◌≢◌, inl, ⊎_elim, ℕ, ◌+◌, ◌<◌, List, [], ◌∷◌, ◌++◌, length, Some, None, refl, sym, ap, ◌∙◌, subst, arith, append-nil}
use Rattle.std.specs.List.{All}
use Rattle.std.proofs.lemmas.Option.{same_Some}
use Rattle.fal_base.specs.declared.call.Call.{Call}
use Rattle.fal_base.specs.declared.call.CallId.{CallId}
use Rattle.fal_base.specs.declared.call.CallRec.{CallRec}
use Rattle.fal_base.specs.declared.call.Config.{Config}
use Rattle.fal_base.specs.declared.entry.Entry.TheVariants as entry
use Rattle.fal_base.specs.declared.event.Actor.TheVariants.{Client, Node}
use Rattle.fal_base.specs.declared.event.Note.TheVariants as note
use Rattle.fal_base.specs.declared.rule.RuleChange.{RuleChange}
use Rattle.fal_client.specs.declared.current.Current.{Current}
use Rattle.fal_client.specs.declared.current.Listing.{Listing}
use Rattle.fal_client.specs.Paths.{addressee}
use Rattle.fal_client.specs.State.{ClientState}
use Rattle.fal_client.specs.Step.{retried as tried_again, id_at, letter_to}
use Rattle.fal_place.specs.Placement.{Placement, changes_since, table_after, with_changes}
use Rattle.fal_place.proofs.Carried.{catches_up, version-table_after}
use Rattle.fal_wire.specs.declared.message.Message.TheVariants as message
use Rattle.fal_wire.specs.Letters.{output_of}
use Rattle.fal_wire.specs.Messages.{Fits}
use Rattle.fal_story.proofs.Events.Besides.{beside_at_client}
use Rattle.fal_story.proofs.Events.ClientEvent.{EndsClient, held_elsewhere, heard_other, posts_with, sent_more}
use Rattle.fal_story.proofs.Events.Hearing.{lists_now, not_older}
use Rattle.fal_story.proofs.Events.HeldCalls.{AsksNone}
use Rattle.fal_story.proofs.Listing.Keeping.{keeping_put}
use Rattle.fal_story.proofs.Events.ServedCalls.{node_seat, seated_at}
use Rattle.fal_story.proofs.Events.Shows.{Ghost, Shows, Heard, AreKept, AreSent, IsListed, view_of, posts_of, known_of}
use Rattle.fal_story.proofs.Families.Knowing.{retried}
use Rattle.fal_story.proofs.Families.Lanes.{positive}
use Rattle.fal_story.proofs.Good.{Good}
use Rattle.fal_story.proofs.Lists.Grown.{put_other, put_same, put_back, at_put, put_all}
use Rattle.fal_story.proofs.Phase.{Phase, Idle, Asked, Plans, Runs, Told, Tells, Lists, IsHeld}
use Rattle.fal_story.proofs.Steps.Posted.{posted_good}
use Rattle.fal_story.proofs.Steps.Retried.{retried_good}
use Rattle.fal_story.proofs.View.{View, IsPosted, post, plain}
use Rattle.fal_story.specs.Clusters.{IsCluster}
use Rattle.fal_story.specs.World.{World, put, posted}

-- ---- the Stale of the current attempt

-- where the client asks for no parts, it is the live copy of the call, which is told
pub told_now : (config : Config) (w : World) (h : Ghost) (l e p : ℕ) (id : CallId) (old new : ℕ) (changes : List RuleChange) (current : Current) → Shows config w h
    → IsPosted (posts_of w.envelopes) e (Client l) p (message.Stale id old new changes) → (w.clients l).current ≡ Some current → id.seq ≡ (w.clients l).seq → id.attempt ≡ current.attempt → current.listing ≡ None
    → h.phase l ≡ Told old new
told_now config w h l e p id old new changes current s came busy seq attempt none =
    let y = (s.heard l).some current busy in
    let unlisted : IsListed config.nodes (h.phase l) None = subst (IsListed config.nodes (h.phase l)) none y.3 in
    ⊎_elim
    (λ older. absurd (not_older id (w.clients l).seq (h.call l) seq (attempt ∙ y.2) older))
    (λ z. ⊎_elim
    (λ live. live.1)
    (λ listed. absurd (⊎_elim (λ idle. y.0 idle) (λ asking. unlisted asking.0 listed.0 asking.1) listed.1.1))
    z)
    (s.good.knowing.stale e p l id old new changes came).3

-- while it lists, it asks by the table that it is told to be stale
pub asked_by : (config : Config) (w : World) (h : Ghost) (l e p : ℕ) (id : CallId) (old new : ℕ) (changes : List RuleChange) (current : Current) (listing : Listing) → Shows config w h
    → IsPosted (posts_of w.envelopes) e (Client l) p (message.Stale id old new changes) → (w.clients l).current ≡ Some current → id.seq ≡ (w.clients l).seq → id.attempt ≡ current.attempt → current.listing ≡ Some listing
    → old ≡ (w.clients l).table.version
asked_by config w h l e p id old new changes current listing s came busy seq attempt is =
    let y = (s.heard l).some current busy in
    let lists = lists_now config w l h s current busy listing is in
    ⊎_elim
    (λ older. absurd (not_older id (w.clients l).seq (h.call l) seq (attempt ∙ y.2) older))
    (λ z. ⊎_elim
    (λ live. let wrong : Tells (Lists listing.opened listing.dir) ≡ Told old new = sym lists ∙ live.1 in absurd (cc))
    (λ listed. ⊎_elim (λ idle. absurd (y.0 idle)) (λ asking. asking.2) listed.1.1)
    z)
    (s.good.knowing.stale e p l id old new changes came).3

-- with the changes to the table that it has, a client has the table of the later version
pub later_table : (config : Config) (w : World) (h : Ghost) (l e p : ℕ) (id : CallId) (old new : ℕ) (changes : List RuleChange) → Shows config w h
    → IsPosted (posts_of w.envelopes) e (Client l) p (message.Stale id old new changes) → old ≡ (w.clients l).table.version → with_changes (w.clients l).table new changes ≡ table_after config.nodes h.placings new
later_table config w h l e p id old new changes s came is =
    let table = (w.clients l).table in
    let x = s.good.knowing.stale e p l id old new changes came in
    let k = s.good.knowing.knows l in
    let later = x.0 in
    let same : old ≡ k.0 = is ∙ ap (λ (t : Placement). t.version) k.2 ∙ version-table_after config.nodes h.placings k.0 k.1 in
    catches_up table (with_changes table new changes) new changes refl config.nodes h.placings k.0 (omega arith) x.1 k.2 (x.2 ∙ ap (λ i. changes_since i (table_after config.nodes h.placings new)) same)

-- the client of a call that is told then has the table of the later version
pub takes_table : (config : Config) (w : World) (h : Ghost) (l e p : ℕ) (id : CallId) (old new : ℕ) (changes : List RuleChange) → Shows config w h
    → IsPosted (posts_of w.envelopes) e (Client l) p (message.Stale id old new changes) → h.phase l ≡ Told old new → with_changes (w.clients l).table new changes ≡ table_after config.nodes h.placings new
takes_table config w h l e p id old new changes s came told = later_table config w h l e p id old new changes s came (s.good.knowing.told l old new told).0

-- ---- the call as it is sent again

abbrev pub again : ClientState → Call → ℕ → ℕ → CallRec
again c call attempt version = record { id = id_at c.lane c.seq attempt; cred = call.cred; version = version; op = call.op }

-- it is the lane's call, at its next attempt
pub again_is : (config : Config) (w : World) (h : Ghost) (l new : ℕ) (current : Current) → Shows config w h → (w.clients l).current ≡ Some current
    → again (w.clients l) current.call (current.attempt + 1) new ≡ retried (h.call l) new
again_is config w h l new current s busy =
    let x = s.heard l in
    let y = x.some current busy in
    let above = positive s.good.lanes l y.0 in
    let lane = x.lane ∙ sym (s.good.script.calls.lane l above) in
    let number = sym (s.good.script.calls.number l above) in
    λ i. record {
      id = record { client = lane i; seq = number i; attempt = y.2 i + 1; hop = 0 };
      cred = (y.1 i).cred;
      version = new;
      op = (y.1 i).op;
    }

-- ---- the event

-- the client with the later table, at the next attempt
abbrev pub trying : ClientState → Placement → Call → ℕ → ClientState
trying c table call attempt = record c { table = table; current = Some (record { call = call; attempt = attempt; listing = None }) }

-- it knows its call at the next attempt
heard_again : (config : Config) (call call' : ℕ → CallRec) (phase phase' : ℕ → Phase) (l : ℕ) (c : ClientState) (table : Placement) (k : Call) (attempt : ℕ) → c.current ≡ Some (record { call = k; attempt = attempt; listing = None })
    → phase' l ≢ Idle → AsksNone (phase' l) → {new : ℕ} → call' l ≡ retried (call l) new → Heard config call phase l c → Heard config call' phase' l (trying c table k (attempt + 1))
heard_again config call call' phase phase' l c table k attempt busy under none {new} called x =
    let y = x.some (record { call = k; attempt = attempt; listing = None }) busy in
    record {
      lane = x.lane;
      nodes = x.nodes;
      left = x.left;
      none = λ e. absurd (cc);
      some = λ z e.
          let one = same_Some (record { call = k; attempt = attempt + 1; listing = None }) z e in (
            under,
            ap (λ (t : Current). t.call) (sym one) ∙ y.1 ∙ ap plain (sym called),
            ap (λ (t : Current). t.attempt) (sym one) ∙ ap (λ a. a + 1) y.2 ∙ ap (λ (r : CallRec). r.id.attempt) (sym called),
            subst (λ (t : Current). IsListed config.nodes (phase' l) t.listing) one (λ i j is. subst AsksNone is none),
          );
    }

resends : (config : Config) (w : World) (l : ℕ) (h : Ghost) (table : Placement) (call : Call) (attempt old new : ℕ) → IsCluster config → Shows config w h → (w.clients l).current ≡ Some (record { call = call; attempt = attempt; listing = None })
    → h.phase l ≡ Told old new → table ≡ table_after config.nodes h.placings new → Fits (message.Call (again (w.clients l) call (attempt + 1) new))
    → EndsClient config w l (record {
      client = trying (w.clients l) table call (attempt + 1);
      sent = letter_to (addressee table call.op) (message.Call (again (w.clients l) call (attempt + 1) new)) ∷ [];
      notes = note.Stale (w.clients l).lane (w.clients l).seq old new ∷ [];
    })
unfolding posted
resends config w l h table call attempt old new cluster s busy told caught fits =
    let c = w.clients l in
    let v : View = view_of config w h in
    let x = s.heard l in
    let current : Current = record { call = call; attempt = attempt; listing = None } in
    let y = x.some current busy in
    let count = length w.commits in
    let later = table_after config.nodes h.placings new in
    let next = retried (h.call l) new in
    let made = again c call (attempt + 1) new in
    let is : made ≡ next = again_is config w h l new current s busy in
    let to = seated_at table call.op in
    let n = to.0 in
    let few = cluster.few_nodes in
    let routed : n < config.nodes → addressee later (h.call l).op ≡ Node n = λ below.
    (λ i. addressee (sym caught i) (sym y.1 i).op) ∙ node_seat (addressee table call.op) n (λ own. absurd (omega arith)) to.1 in
    let first = retried_good config v l n old new told routed s.good in
    let h' : Ghost = record h { call = put h.call l next; phase = put h.phase l (Asked n) } in
    let v1 : View = record v { entries = w.entries ++ entry.Stale l c.seq old new ∷ []; call = h'.call; phase = h'.phase; map = record v.map { known = put v.map.known l later } } in
    let lane_is : made.id.client ≡ l = x.lane in
    let second = posted_good config v1 (Node n) count (message.Call made)
    (record { asking = tt; records = (n, refl, inl (is ∙ sym (ap h'.call lane_is ∙ put_same h.call l next), ap h'.phase lane_is ∙ put_same h.phase l (Asked n))); operation = tt; bars = tt; knowing = tt; listings = tt })
    first in
    let new_client = trying c table call (attempt + 1) in
    let sent = letter_to (addressee table call.op) (message.Call made) in
    let after : World = posted config (record w { clients = put w.clients l new_client }) (Client l) (output_of sent ∷ []) (note.Stale c.lane c.seq old new ∷ []) in
    let posts : posts_of w.envelopes ++ post (Node n) count (message.Call made) ∷ [] ≡ posts_of after.envelopes = posts_with w l n (addressee table call.op) (message.Call made) to.1 fits in
    let known : put v.map.known l later ≡ known_of after.clients = sym (at_put (λ (z : ClientState). z.table) w.clients l new_client ∙ ap (put (known_of w.clients) l) caught) in
    let same : record v1 { posts = v1.posts ++ post (Node n) count (message.Call made) ∷ [] } ≡ view_of config after h' = λ i. record v {
      posts = posts i;
      entries = w.entries ++ entry.Stale (sym x.lane i) c.seq old new ∷ [];
      commits = sym (append-nil w.commits) i;
      seq = sym (at_put (λ (z : ClientState). z.seq) w.clients l new_client ∙ put_back v.seq l) i;
      call = h'.call;
      phase = h'.phase;
      map = record v.map { known = known i };
    } in (
      h',
      record {
        good = subst (Good config) same second;
        held = λ m. held_elsewhere h.call h'.call h.phase h'.phase l (λ k at. subst (IsHeld k) told at) (λ k ne. (put_other h.phase l (Asked n) k ne, put_other h.call l next k ne)) m _ _ (s.held m);
        items = λ m. subst (λ ps. AreSent ps m (w.nodes m).items) posts (sent_more (posts_of w.envelopes) (post (Node n) count (message.Call made) ∷ []) m (w.nodes m).items (s.items m));
        heard = put_all (λ m z. Heard config h'.call h'.phase m z) w.clients l new_client
            (heard_again config h.call h'.call h.phase h'.phase l c table call attempt busy (λ idle. let wrong : Asked n ≡ Idle = sym (put_same h.phase l (Asked n)) ∙ idle in absurd (cc)) (subst AsksNone (sym (put_same h.phase l (Asked n))) tt) (put_same h.call l next) x)
            (λ m ne. heard_other config h.call h'.call h.phase h'.phase m (w.clients m) (put_other h.phase l (Asked n) m ne) (put_other h.call l next m ne) (s.heard m));
        kept = keeping_put w.commits w.clients l new_client (λ z e. subst (λ (t : Current). AreKept table w.commits t.listing) (same_Some (record { call = call; attempt = attempt + 1; listing = None }) z e) tt) s.kept;
        placed = s.placed;
        beside = beside_at_client config w.nodes w.coord h l h'.call h.since h'.phase s.good.operation.running (λ at. subst (IsHeld 255) told at) (λ e. let wrong : Told old new ≡ Runs = sym told ∙ e in absurd (cc))
            (λ i b e. let wrong : Asked n ≡ Plans i b = sym (put_same h.phase l (Asked n)) ∙ e in absurd (cc)) (λ m ne. (put_other h.phase l (Asked n) m ne, put_other h.call l next m ne)) s.beside;
      },
    )

pub retries : (config : Config) (w : World) (l e p : ℕ) (h : Ghost) (id : CallId) (old new : ℕ) (changes : List RuleChange) (call : Call) (attempt : ℕ) → IsCluster config → Shows config w h
    → IsPosted (posts_of w.envelopes) e (Client l) p (message.Stale id old new changes) → (w.clients l).current ≡ Some (record { call = call; attempt = attempt; listing = None })
    → id.seq ≡ (w.clients l).seq → id.attempt ≡ attempt
    → All (λ s. Fits s.message) (tried_again (w.clients l) (record { call = call; attempt = attempt; listing = None }) old new changes).sent
    → EndsClient config w l (tried_again (w.clients l) (record { call = call; attempt = attempt; listing = None }) old new changes)
unfolding tried_again
retries config w l e p h id old new changes call attempt cluster s posted busy seq same fit =
    let current : Current = record { call = call; attempt = attempt; listing = None } in
    let told = told_now config w h l e p id old new changes current s posted busy seq same refl in
    let table = with_changes (w.clients l).table new changes in
    let made = again (w.clients l) call (attempt + 1) new in
    resends config w l h table call attempt old new cluster s busy told (takes_table config w h l e p id old new changes s posted told) (fit 0 (letter_to (addressee table call.op) (message.Call made)) (omega arith))
