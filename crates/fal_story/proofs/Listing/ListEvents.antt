-- A client's listing: its directory is opened, parts come, and with the last one it is answered.
use Rattle.std.proofs.Common.{◌≡◌, ◌≢◌, ⊎_elim, ℕ, zero, suc, ◌+◌, ◌<◌, ◌≤◌, true, List, [], ◌∷◌, ◌++◌, length, length-set, Some, None, refl, sym, ap, ◌∙◌, subst, arith, append-nil}
use Rattle.std.specs.Prelude.{slice_set}
use Rattle.std.specs.List.{All}
use Rattle.std.proofs.lemmas.List.{length-replicate}
use Rattle.std.proofs.lemmas.Option.{same_Some}
use Rattle.fal_base.specs.declared.call.Call.{Call}
use Rattle.fal_base.specs.declared.call.CallId.{CallId}
use Rattle.fal_base.specs.declared.call.CallRec.{CallRec}
use Rattle.fal_base.specs.declared.call.Config.{Config}
use Rattle.fal_base.specs.declared.entry.Entry.{Entry}
use Rattle.fal_base.specs.declared.entry.Entry.TheVariants as entry
use Rattle.fal_base.specs.declared.event.Actor.TheVariants.{Client}
use Rattle.fal_base.specs.declared.key.Key.{Key}
use Rattle.fal_base.specs.declared.reply.Reply.TheVariants.{Names}
use Rattle.fal_base.specs.Commits.{Commit}
use Rattle.fal_client.specs.declared.current.Current.{Current}
use Rattle.fal_client.specs.declared.current.Listing.{Listing}
use Rattle.fal_client.specs.declared.parts.Part.{Part}
use Rattle.fal_client.specs.Names.{sorted_names}
use Rattle.fal_client.specs.Parts.{greatest_point, is_missing, missing_count, names_of}
use Rattle.fal_client.specs.State.{ClientState}
use Rattle.fal_client.specs.Step.{answered, id_at, kept, listed, opened, opened_by, part_of, with_part}
use Rattle.fal_place.specs.Placement.{Placement, owner}
use Rattle.fal_place.proofs.Carried.{version-table_after}
use Rattle.fal_run.specs.declared.call.BatchCall.{BatchCall}
use Rattle.fal_wire.specs.declared.message.Message.TheVariants as message
use Rattle.fal_wire.specs.Messages.{Fits}
use Rattle.fal_story.proofs.Listing.ClientEnds.{after_client, client_ends}
use Rattle.fal_story.proofs.Events.ClientEvent.{EndsClient}
use Rattle.fal_story.proofs.Events.EnabledClient.{trial}
use Rattle.fal_story.proofs.Events.Hearing.{lists_now, opened_told, part_told}
use Rattle.fal_story.proofs.Listing.ListAsks.{IsAsker, asks_good}
use Rattle.fal_story.proofs.Events.Shows.{Ghost, Shows, Heard, AreKept, IsKeeping, IsListed, known_of, posts_of, view_of}
use Rattle.fal_story.proofs.Events.Within.{reached_lives}
use Rattle.fal_story.proofs.Families.Listings.{IsPart}
use Rattle.fal_story.proofs.Families.Lanes.{positive}
use Rattle.fal_story.proofs.Good.{Good}
use Rattle.fal_story.proofs.Lists.Grown.{put_back, put_other, put_same}
use Rattle.fal_story.proofs.Lists.Parts.{none_counted, none_there, one_less, part_there}
use Rattle.fal_story.proofs.Phase.{Phase, Idle, Plans, Tells, Opens, Lists}
use Rattle.fal_story.proofs.Steps.Listed.{begun_good, listed_good}
use Rattle.fal_story.proofs.Trees.Parted.{AreParts, all_listed}
use Rattle.fal_story.proofs.View.{View, IsPosted, plain}
use Rattle.fal_story.specs.Clusters.{IsCluster}
use Rattle.fal_story.specs.World.{World, put}

-- ---- what a client knows with another table and another current call

pub heard_as : (config : Config) (call call' : ℕ → CallRec) (phase phase' : ℕ → Phase) (l : ℕ) (c : ClientState) (table : Placement) (current : Current) → phase' l ≢ Idle → current.call ≡ plain (call' l)
    → current.attempt ≡ (call' l).id.attempt → IsListed config.nodes (phase' l) current.listing → Heard config call phase l c → Heard config call' phase' l (record c { table = table; current = Some current })
heard_as config call call' phase phase' l c table current busy same attempt listing x = record {
  lane = x.lane;
  nodes = x.nodes;
  left = x.left;
  none = λ e. absurd (cc);
  some = λ z e. subst (λ (t : Current). (phase' l ≢ Idle) × (t.call ≡ plain (call' l)) × (t.attempt ≡ (call' l).id.attempt) × IsListed config.nodes (phase' l) t.listing) (same_Some current z e) (busy, same, attempt, listing);
}

pub kept_as : (commits : List Commit) (c : ClientState) (table : Placement) (current : Current) → AreKept table commits current.listing → IsKeeping commits (record c { table = table; current = Some current })
kept_as commits c table current kept y e = subst (λ (t : Current). AreKept table commits t.listing) (same_Some current y e) kept

-- the table that a client knows was reached
pub known_reached : (config : Config) (w : World) (l : ℕ) (h : Ghost) → Shows config w h → (w.clients l).table.version ≤ length h.placings
known_reached config w l h s =
    let x = s.good.knowing.knows l in
    let below = x.1 in
    let is = ap (λ (t : Placement). t.version) x.2 ∙ version-table_after config.nodes h.placings x.0 x.1 in
    omega arith

-- by it each key lives at a node that is there
known_lives : (config : Config) (w : World) (l : ℕ) (h : Ghost) → Shows config w h → (key : Key) → owner (w.clients l).table key < config.nodes
known_lives config w l h s key = let x = s.good.knowing.knows l in subst (λ t. owner t key < config.nodes) (sym x.2) (reached_lives config w h s x.0 key)

pub lists_unplanned : (phase : Phase) (k dir : ℕ) → phase ≡ Tells (Lists k dir) → (n : ℕ) (p : BatchCall) → phase ≢ Plans n p
lists_unplanned phase k dir is n p e = let wrong : Tells (Lists k dir) ≡ Plans n p = sym is ∙ e in absurd (cc)

pub lists_busy : (phase : Phase) (k dir : ℕ) → phase ≡ Tells (Lists k dir) → phase ≢ Idle
lists_busy phase k dir is e = let wrong : Tells (Lists k dir) ≡ Idle = sym is ∙ e in absurd (cc)

-- ---- its directory is opened, and it asks each node for its part

pub opens : (config : Config) (w : World) (l : ℕ) (h : Ghost) (number p : ℕ) (id : CallId) (dir : ℕ) (call : Call) (attempt : ℕ) → IsCluster config → Shows config w h
    → IsPosted (posts_of w.envelopes) number (Client l) p (message.Opened id dir) → (w.clients l).current ≡ Some (trial call attempt None) → id.seq ≡ (w.clients l).seq
    → All (λ s. Fits s.message) (opened (w.clients l) (trial call attempt None) dir p).sent → EndsClient config w l (opened (w.clients l) (trial call attempt None) dir p)
unfolding opened
opens config w l h number p id dir call attempt cluster s at busy last fit =
    let c = w.clients l in
    let v = view_of config w h in
    let x = s.heard l in
    let current = trial call attempt None in
    let y = x.some current busy in
    let count = length w.commits in
    let is : h.phase l ≡ Tells (Opens p dir) = opened_told config w l h s current busy number p id dir at last refl in
    let q = Tells (Lists p dir) in
    let phase = put h.phase l q in
    let here : phase l ≡ q = put_same h.phase l q in
    let entries : List Entry = entry.Opened l c.seq dir p ∷ [] in
    let v1 : View = record v { entries = w.entries ++ entries; phase = phase } in
    let asker : IsAsker config v1 l p dir (id_at c.lane c.seq attempt) c.table.version = record { lists = here; client = x.lane; seq = refl; attempt = y.2; same = refl; reached = known_reached config w l h s; some = positive s.good.lanes l y.0 } in
    let work = opened c current dir p in
    let second = asks_good config v1 l p dir (id_at c.lane c.seq attempt) c.table.version count c.nodes asker (begun_good config v l p dir is s.good) in
    let now : Current = opened_by c.nodes current dir p in
    let some = cluster.some_nodes in
    let nodes = x.nodes in
    let counted = none_counted c.nodes in
    let same : record v1 { posts = v1.posts ++ _ } ≡ after_client config w l h work.sent entries c.table h.call phase = λ i. record (after_client config w l h work.sent entries c.table h.call phase) {
      map = record v.map { known = sym (put_back (known_of w.clients) l) i };
    } in
    client_ends config w l h work entries c.table h.call phase (Opens p dir) s (record {
      fits = fit;
      notes = ap (λ a. entry.Opened a c.seq dir p ∷ []) x.lane;
      none = refl;
      seq = refl;
      known = refl;
      good = subst (Good config) same second;
      was = is;
      unplanned = lists_unplanned (phase l) p dir here;
      others = λ a ne. (put_other h.phase l q a ne, refl);
      heard = heard_as config h.call h.call h.phase phase l c c.table now (lists_busy (phase l) p dir here) y.1 y.2 (here, length-replicate c.nodes None ∙ nodes, omega arith) x;
      kept = kept_as w.commits c c.table now (λ n part there. absurd (none_there c.nodes n part there));
    })

-- ---- a part comes, and others are missing

more_left : (n m : ℕ) → n ≡ m + 1 → n ≢ 1 → 0 < m
more_left n zero is other = absurd (other is)
more_left n (suc m) is other = omega arith

-- the part that came is its node's share, as those before are
parts_joined : (table : Placement) (commits : List Commit) (k dir p node : ℕ) (names : List (List ℕ)) (listing : Listing) → IsPart table commits k dir p node names → AreParts table commits k dir listing.parts
    → AreParts table commits k dir (slice_set listing.parts node (Some (part_of p names)))
parts_joined table commits k dir p node names listing came all n part there = ⊎_elim
    (λ y. subst (λ (z : Part). IsPart table commits k dir z.point n z.names) y.1 (subst (λ i. IsPart table commits k dir p i names) y.0 came))
    (λ old. all n part old)
    (part_there listing.parts node n (part_of p names) part there)

pub keeps : (config : Config) (w : World) (l : ℕ) (h : Ghost) (number p : ℕ) (id : CallId) (node : ℕ) (names : List (List ℕ)) (call : Call) (attempt : ℕ) (listing : Listing) → Shows config w h
    → IsPosted (posts_of w.envelopes) number (Client l) p (message.ListPart id node names) → (w.clients l).current ≡ Some (trial call attempt (Some listing)) → id.seq ≡ (w.clients l).seq → id.attempt ≡ attempt
    → is_missing listing.parts node ≡ true → missing_count listing.parts ≢ 1 → EndsClient config w l (kept (w.clients l) (trial call attempt (Some listing)) node (part_of p names))
unfolding kept
keeps config w l h number p id node names call attempt listing s at busy last tried missing more =
    let c = w.clients l in
    let v = view_of config w h in
    let x = s.heard l in
    let current = trial call attempt (Some listing) in
    let y = x.some current busy in
    let part = part_of p names in
    let is = lists_now config w l h s current busy listing refl in
    let came = part_told config w l h s current busy number p node id names listing at last tried refl in
    let now : Current = trial call attempt (Some (with_part listing node part)) in
    let left = more_left (missing_count listing.parts) (missing_count (slice_set listing.parts node (Some part))) (one_less listing.parts node part missing) more in
    let work = kept c current node part in
    let same : v ≡ after_client config w l h [] [] c.table h.call h.phase = λ i. record v {
      posts = sym (append-nil (posts_of w.envelopes)) i;
      entries = sym (append-nil w.entries) i;
      map = record v.map { known = sym (put_back (known_of w.clients) l) i };
    } in
    client_ends config w l h work [] c.table h.call h.phase (Lists listing.opened listing.dir) s (record {
      fits = λ i d below. absurd (omega arith);
      notes = refl;
      none = refl;
      seq = refl;
      known = refl;
      good = subst (Good config) same s.good;
      was = is;
      unplanned = lists_unplanned (h.phase l) listing.opened listing.dir is;
      others = λ a ne. (refl, refl);
      heard = heard_as config h.call h.call h.phase h.phase l c c.table now y.0 y.1 y.2 (is, length-set listing.parts node (Some part) ∙ y.3.1, left) x;
      kept = kept_as w.commits c c.table now (parts_joined c.table w.commits listing.opened listing.dir p node names listing came (s.kept l current busy));
    })

-- ---- the last part comes

pub lasts : (config : Config) (w : World) (l : ℕ) (h : Ghost) (number p : ℕ) (id : CallId) (node : ℕ) (names : List (List ℕ)) (call : Call) (attempt : ℕ) (listing : Listing) → Shows config w h
    → IsPosted (posts_of w.envelopes) number (Client l) p (message.ListPart id node names) → (w.clients l).current ≡ Some (trial call attempt (Some listing)) → id.seq ≡ (w.clients l).seq → id.attempt ≡ attempt
    → is_missing listing.parts node ≡ true → missing_count listing.parts ≡ 1 → EndsClient config w l (listed (w.clients l) listing (part_of p names))
unfolding listed answered
lasts config w l h number p id node names call attempt listing s at busy last tried missing one =
    let c = w.clients l in
    let v = view_of config w h in
    let x = s.heard l in
    let current = trial call attempt (Some listing) in
    let y = x.some current busy in
    let k = listing.opened in
    let dir = listing.dir in
    let is = lists_now config w l h s current busy listing refl in
    let came = part_told config w l h s current busy number p node id names listing at last tried refl in
    let e = greatest_point p listing.parts in
    let all = sorted_names (names ++ names_of listing.parts) in
    let holds = all_listed c.table w.commits config.nodes k dir node p names listing.parts (known_lives config w l h s) y.3.1 (s.kept l current busy) missing one came in
    let phase = put h.phase l Idle in
    let here : phase l ≡ Idle = put_same h.phase l Idle in
    let entries : List Entry = entry.Answered l c.seq e (Names all) ∷ [] in
    let first = listed_good config v l k dir e all is holds.0 holds.1 holds.2 s.good in
    let work = listed c listing (part_of p names) in
    let same : record v { entries = w.entries ++ entries; phase = phase } ≡ after_client config w l h [] entries c.table h.call phase = λ i. record (after_client config w l h [] entries c.table h.call phase) {
      posts = sym (append-nil (posts_of w.envelopes)) i;
      map = record v.map { known = sym (put_back (known_of w.clients) l) i };
    } in
    client_ends config w l h work entries c.table h.call phase (Lists k dir) s (record {
      fits = λ i d below. absurd (omega arith);
      notes = ap (λ a. entry.Answered a c.seq e (Names all) ∷ []) x.lane;
      none = refl;
      seq = refl;
      known = refl;
      good = subst (Good config) same first;
      was = is;
      unplanned = λ n b plans. let wrong : Idle ≡ Plans n b = sym here ∙ plans in absurd (cc);
      others = λ a ne. (put_other h.phase l Idle a ne, refl);
      heard = record { lane = x.lane; nodes = x.nodes; left = x.left; none = λ _. here; some = λ z w. absurd (cc) };
      kept = λ z w. absurd (cc);
    })
