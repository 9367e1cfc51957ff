-- A client that lists hears that its table is stale: it takes the changes, and asks all nodes again by the newer table.
use Rattle.std.proofs.Common.{◌≡◌, ℕ, ◌+◌, List, [], ◌∷◌, ◌++◌, length, Some, None, refl, sym, ap, ◌∙◌, arith}
use Rattle.std.specs.List.{All}
use Rattle.std.proofs.lemmas.List.{length-replicate}
use Rattle.fal_base.specs.declared.call.Call.{Call}
use Rattle.fal_base.specs.declared.call.CallId.{CallId}
use Rattle.fal_base.specs.declared.call.CallRec.{CallRec}
use Rattle.fal_base.specs.declared.call.Config.{Config}
use Rattle.fal_base.specs.declared.entry.Entry.{Entry}
use Rattle.fal_base.specs.declared.entry.Entry.TheVariants as entry
use Rattle.fal_base.specs.declared.event.Actor.TheVariants.{Client}
use Rattle.fal_base.specs.declared.rule.RuleChange.{RuleChange}
use Rattle.fal_client.specs.declared.current.Current.{Current}
use Rattle.fal_client.specs.declared.current.Listing.{Listing}
use Rattle.fal_client.specs.Step.{id_at, restarted, retried as tried_again}
use Rattle.fal_place.specs.Placement.{Placement, table_after, with_changes}
use Rattle.fal_place.proofs.Carried.{version-table_after}
use Rattle.fal_wire.specs.declared.message.Message.TheVariants as message
use Rattle.fal_wire.specs.Messages.{Fits}
use Rattle.fal_story.proofs.Listing.ClientEnds.{client_ends}
use Rattle.fal_story.proofs.Events.ClientEvent.{EndsClient}
use Rattle.fal_story.proofs.Events.EnabledClient.{trial}
use Rattle.fal_story.proofs.Events.Hearing.{lists_now}
use Rattle.fal_story.proofs.Listing.ListAsks.{IsAsker, asks_good}
use Rattle.fal_story.proofs.Listing.ListEvents.{heard_as, kept_as, lists_busy, lists_unplanned}
use Rattle.fal_story.proofs.Events.Shows.{Ghost, Shows, known_of, posts_of, view_of}
use Rattle.fal_story.proofs.Events.StaleEvent.{asked_by, later_table}
use Rattle.fal_story.proofs.Families.Knowing.{retried}
use Rattle.fal_story.proofs.Families.Lanes.{positive}
use Rattle.fal_story.proofs.Lists.Grown.{put_other, put_same}
use Rattle.fal_story.proofs.Lists.Parts.{none_counted, none_there}
use Rattle.fal_story.proofs.Phase.{Tells, Lists}
use Rattle.fal_story.proofs.Steps.Listed.{again_good}
use Rattle.fal_story.proofs.View.{View, IsPosted, plain}
use Rattle.fal_story.specs.Clusters.{IsCluster}
use Rattle.fal_story.specs.World.{World, put}

pub restarts : (config : Config) (w : World) (l : ℕ) (h : Ghost) (e p : ℕ) (id : CallId) (old new : ℕ) (changes : List RuleChange) (call : Call) (attempt : ℕ) (listing : Listing) → IsCluster config → Shows config w h
    → IsPosted (posts_of w.envelopes) e (Client l) p (message.Stale id old new changes) → (w.clients l).current ≡ Some (trial call attempt (Some listing)) → id.seq ≡ (w.clients l).seq → id.attempt ≡ attempt
    → All (λ s. Fits s.message) (tried_again (w.clients l) (trial call attempt (Some listing)) old new changes).sent → EndsClient config w l (tried_again (w.clients l) (trial call attempt (Some listing)) old new changes)
unfolding tried_again
restarts config w l h e p id old new changes call attempt listing cluster s at busy last tried fit =
    let c = w.clients l in
    let v = view_of config w h in
    let x = s.heard l in
    let current = trial call attempt (Some listing) in
    let y = x.some current busy in
    let k = listing.opened in
    let dir = listing.dir in
    let is = lists_now config w l h s current busy listing refl in
    let stale = s.good.knowing.stale e p l id old new changes at in
    let was = asked_by config w h l e p id old new changes current listing s at busy last tried refl in
    let table = with_changes c.table new changes in
    let later = table_after config.nodes h.placings new in
    let caught : table ≡ later = later_table config w h l e p id old new changes s at was in
    let next = retried (h.call l) new in
    let calls = put h.call l next in
    let here_call : calls l ≡ next = put_same h.call l next in
    let q = Tells (Lists k dir) in
    let phase = put h.phase l q in
    let here : phase l ≡ q = put_same h.phase l q in
    let entries : List Entry = entry.Stale l c.seq old new ∷ [] in
    let known = put (known_of w.clients) l later in
    let v1 : View = record v { entries = w.entries ++ entries; call = calls; phase = phase; map = record v.map { known = known } } in
    let below = stale.1 in
    let version : table.version ≡ new = ap (λ (t : Placement). t.version) caught ∙ version-table_after config.nodes h.placings new stale.1 in
    let again : attempt + 1 ≡ (calls l).id.attempt = ap (λ a. a + 1) y.2 ∙ ap (λ (r : CallRec). r.id.attempt) (sym here_call) in
    let same_table : known l ≡ later = put_same (known_of w.clients) l later in
    let asker : IsAsker config v1 l k dir (id_at c.lane c.seq (attempt + 1)) table.version = record {
      lists = here;
      client = x.lane;
      seq = refl;
      attempt = again;
      same = ap (λ (t : Placement). t.version) caught ∙ ap (λ (t : Placement). t.version) (sym same_table);
      reached = omega arith;
      some = positive s.good.lanes l y.0;
    } in
    let now : Current = trial call (attempt + 1) (Some (restarted c.nodes listing)) in
    let some = cluster.some_nodes in
    let nodes = x.nodes in
    let counted = none_counted c.nodes in
    let work = tried_again c current old new changes in
    client_ends config w l h work entries later calls phase (Lists k dir) s (record {
      fits = fit;
      notes = ap (λ a. entry.Stale a c.seq old new ∷ []) x.lane;
      none = refl;
      seq = refl;
      known = caught;
      good = asks_good config v1 l k dir (id_at c.lane c.seq (attempt + 1)) table.version (length w.commits) c.nodes asker (again_good config v l k dir old new is was stale.0 stale.1 s.good);
      was = is;
      unplanned = lists_unplanned (phase l) k dir here;
      others = λ a ne. (put_other h.phase l q a ne, put_other h.call l next a ne);
      heard = heard_as config h.call calls h.phase phase l c table now (lists_busy (phase l) k dir here) (y.1 ∙ ap (λ r. plain r) (sym here_call)) again (here, length-replicate c.nodes None ∙ nodes, omega arith) x;
      kept = kept_as w.commits c table now (λ n part there. absurd (none_there c.nodes n part there));
    })
