-- A Count or a Commit comes to a node, which answers the coordinator where it has the keys shut.
use Rattle.std.proofs.Common.{◌≡◌, ◌≢◌, inl, ℕ, ◌+◌, ◌<◌, true, false, cond, List, [], ◌∷◌, length, Option, Some, None, refl, sym, ap, subst, ◌∙◌, arith}
use Rattle.std.proofs.lemmas.Bool.{eqb-true, eq-eqb}
use Rattle.fal_base.specs.declared.call.Config.{Config}
use Rattle.fal_base.specs.declared.event.Actor.TheVariants.{Node, Coord}
use Rattle.fal_base.specs.declared.event.Point.TheVariants.{Here}
use Rattle.fal_base.specs.declared.key.Key.{Key}
use Rattle.fal_base.specs.declared.row.Update.{Update}
use Rattle.fal_base.specs.Tree.{names_under}
use Rattle.fal_base.specs.Updates.{laid}
use Rattle.fal_duty.specs.Duties.{owned, count_told}
use Rattle.fal_locks.specs.declared.holder.Shut.{Shut}
use Rattle.fal_locks.specs.Locks.{unless_of}
use Rattle.fal_node.specs.Deliver.{reopened, take_count, take_commit}
use Rattle.fal_node.specs.Letters.{Work, begun}
use Rattle.fal_node.specs.State.{is_of}
use Rattle.fal_wire.specs.Letters.{letter}
use Rattle.fal_wire.specs.declared.message.Message.TheVariants as message
use Rattle.fal_story.proofs.Events.Besides.{beside_still}
use Rattle.fal_story.proofs.Events.Freed.{beside_freed}
use Rattle.fal_story.proofs.Events.GotEvent.{AllFit, stays}
use Rattle.fal_story.proofs.Events.InStep.{InStep, view_begun, view_in, Ends, begins, ends}
use Rattle.fal_story.proofs.Events.Sends.{sends}
use Rattle.fal_story.proofs.Events.Shows.{Ghost, Shows, operating, shut_of, last_of, view_of, posts_of, calls_in}
use Rattle.fal_story.proofs.Families.Operation.{ToldCounted, ToldDone, IsCounted, shut_by}
use Rattle.fal_story.proofs.Good.{Good}
use Rattle.fal_story.proofs.Lists.Grown.{put_back, put_same}
use Rattle.fal_story.proofs.Steps.Arrives.{MayCount, count_comes, commit_comes}
use Rattle.fal_story.proofs.Steps.Comes.{settled_table}
use Rattle.fal_story.proofs.Steps.Counting.{counts_rows}
use Rattle.fal_story.proofs.Steps.Posted.{IsFine}
use Rattle.fal_story.proofs.Steps.Reopened.{reopened_good}
use Rattle.fal_story.proofs.View.{View, IsPosted, Work as Doing, Rests, Walks, Locks, Counts, Ends as EndsAt, now, Blocks, Lands}
use Rattle.fal_story.specs.World.{World, put}

-- the keys that an operation has shut
shut_is : (operation : ℕ) (shut : Option Shut) → is_of shut operation ≡ true → (keys : List Key) × (shut ≡ shut_by operation keys)
shut_is operation None is = absurd (cc)
shut_is operation (Some shut) is = (shut.keys, λ i. Some (record { op = eqb-true shut.op operation is i; keys = shut.keys }))

-- ---- a Count

-- a node that counts its rows tells of the tree, or the operation is decided and the answer is nothing to it
told_of : (config : Config) (v : View) (n dir : ℕ) (work : Doing) → MayCount work dir (v.op.due n) → Good config v → ToldCounted v.map.table (now v) work n (length (names_under (v.rows n) dir))
told_of config v n dir Rests may g = absurd may
told_of config v n dir (Walks lane) may g = absurd may
told_of config v n dir (Locks lane keys walks missing rows) may g = absurd may
told_of config v n dir (Counts lane keys walks missing rows under updates sum) may g =
    subst (λ d. IsCounted v.map.table (now v) n d (length (names_under (v.rows n) dir))) (sym may.0) (counts_rows config v n dir may.1 g)
told_of config v n dir (Blocks lane name rule missing came) may g = absurd may
told_of config v n dir (Lands name rule old missing) may g = absurd may
told_of config v n dir (EndsAt keys updates missing) may g = tt

abbrev counting : World → ℕ → ℕ → ℕ → Work
counting w n operation dir = record (begun (w.nodes n)) { sent = letter Coord (Here 0) (count_told (w.nodes n).rows (w.nodes n).number operation dir) ∷ [] }

counts : (config : Config) (w : World) (n : ℕ) (h : Ghost) (e p operation dir : ℕ) → n < config.nodes → n ≢ 255 → Shows config w h → AllFit (counting w n operation dir).sent → IsPosted (posts_of w.envelopes) e (Node n) p (message.Count operation dir)
    → is_of (w.nodes n).locks.shut operation ≡ true → Ends config w n (counting w n operation dir)
counts config w n h e p operation dir there other s fit at is =
    let node = w.nodes n in
    let v = view_of config w h in
    let shut = shut_is operation node.locks.shut is in
    let comes = count_comes config v e p operation n dir (Node n) shut.0 at there shut.1 s.good in
    let same_operation : operation ≡ w.coord.operation = comes.0 in
    let number = length (names_under node.rows dir) in
    let fine : IsFine config v (Node 255) (length w.commits + 0) (message.Counted operation n number) = record {
      asking = tt;
      records = (255, refl);
      operation = (omega arith, λ _. told_of config v n dir v.op.work comes.1 s.good);
      bars = tt;
      knowing = tt;
      listings = tt;
    } in
    let mine : IsFine config (view_in config w n (begun node) h) (Node 255) (length w.commits + 0) (count_told node.rows node.number operation dir) =
    subst (λ m. IsFine config (view_in config w n (begun node) h) (Node 255) (length w.commits + 0) (message.Counted operation m number)) (sym (s.placed n).number)
    (subst (λ v. IsFine config v (Node 255) (length w.commits + 0) (message.Counted operation n number)) (view_begun config w n h other) fine) in (
      h,
      ends config w n (counting w n operation dir) h other fit (beside_still config w.nodes w.coord h n node refl refl refl refl s.beside)
          (sends config w n (begun node) h node.waiting.calls (calls_in node.batches) (letter Coord (Here 0) (count_told node.rows node.number operation dir)) mine (begins config w n h other s)),
    )

pub count_event : (config : Config) (w : World) (n : ℕ) (h : Ghost) (e p operation dir : ℕ) → n < config.nodes → n ≢ 255 → Shows config w h → AllFit (take_count (w.nodes n) operation dir).sent → IsPosted (posts_of w.envelopes) e (Node n) p (message.Count operation dir)
    → Ends config w n (take_count (w.nodes n) operation dir)
count_event config w n h e p operation dir there other s fit at =
    let node = w.nodes n in
    elim (is_of node.locks.shut operation) as (λ b. is_of node.locks.shut operation ≡ b → AllFit (cond b (counting w n operation dir) (begun node)).sent → Ends config w n (cond b (counting w n operation dir) (begun node))) [
      | true ↦ λ is y. counts config w n h e p operation dir there other s y at is
      | false ↦ λ _ y. stays config w n h other s y
    ] refl fit

-- ---- a Commit

abbrev opened : World → ℕ → ℕ → List Update → Work
opened w n operation updates = begun (reopened (w.nodes n) operation (owned (w.nodes n).table (w.nodes n).number updates))

abbrev committing : World → ℕ → ℕ → List Update → Work
committing w n operation updates =
    record { node = reopened (w.nodes n) operation (owned (w.nodes n).table (w.nodes n).number updates); sent = letter Coord (Here 0) (message.Done operation (w.nodes n).number) ∷ []; notes = [] }

commits : (config : Config) (w : World) (n : ℕ) (h : Ghost) (e p operation : ℕ) (updates : List Update) → n < config.nodes → n ≢ 255 → Shows config w h → AllFit (committing w n operation updates).sent
    → IsPosted (posts_of w.envelopes) e (Node n) p (message.Commit operation updates) → is_of (w.nodes n).locks.shut operation ≡ true → Ends config w n (committing w n operation updates)
unfolding reopened
commits config w n h e p operation updates there other s fit at is =
    let node = w.nodes n in
    let placed = s.placed n in
    let v = view_of config w h in
    let shut = shut_is operation node.locks.shut is in
    let comes = commit_comes config v e p operation n (Node n) shut.0 updates at there shut.1 s.good in
    let same_operation : operation ≡ w.coord.operation = comes.0 in
    let has : v.op.shut n ≡ shut_by w.coord.operation shut.0 = shut.1 ∙ ap (λ o. shut_by o shut.0) comes.0 in
    let good = reopened_good config v n shut.0 updates comes.1.0 comes.1.1 has s.good in
    let v1 : View = record v { rows = put v.rows n (laid (v.op.due n) (v.rows n)); op = record v.op { due = put v.op.due n []; shut = put v.op.shut n None } } in
    let later : Ghost = record h { due = put h.due n [] } in
    let k = opened w n operation updates in
    let due_is : h.due n ≡ owned node.table node.number updates = comes.2 ∙ (λ i. owned (sym (settled_table config v n comes.1.1 tt there s.good) i) (sym placed.number i) updates) in
    let closed : None ≡ unless_of operation node.locks.shut =
    sym (ap (unless_of operation) shut.1 ∙ ap (λ b. cond b None (shut_by operation shut.0)) (eq-eqb operation operation refl)) in
    let same : v1 ≡ view_in config w n k later = λ i. record (view_begun config w n h other i) {
      rows = put v.rows n (laid (due_is i) node.rows);
      op = operating config (put (shut_of w.nodes) n (closed i)) (sym (put_back (last_of w.nodes) n) i) w.coord later;
    } in
    let start = begins config w n h other s in
    let step : InStep config w n k later node.waiting.calls (calls_in node.batches) = record {
      good = subst (Good config) same good;
      here = start.here;
      others = start.others;
      items = start.items;
      others_items = start.others_items;
      heard = start.heard;
      kept = start.kept;
      placed = record { number = placed.number; limit = placed.limit; blocked = placed.blocked; tidy = placed.tidy };
      others_placed = start.others_placed;
    } in
    let fine : IsFine config v1 (Node 255) (length w.commits + 0) (message.Done operation n) = record {
      asking = tt;
      records = (255, refl);
      operation = (omega arith, λ _. subst (λ (d : Doing). ToldDone d (put v.op.shut n None n)) (sym comes.1.1) (put_same v.op.shut n None));
      bars = tt;
      knowing = tt;
      listings = tt;
    } in
    let mine : IsFine config (view_in config w n k later) (Node 255) (length w.commits + 0) (message.Done operation node.number) =
    subst (λ m. IsFine config (view_in config w n k later) (Node 255) (length w.commits + 0) (message.Done operation m)) (sym placed.number)
    (subst (λ v. IsFine config v (Node 255) (length w.commits + 0) (message.Done operation n)) same fine) in (
      later,
      ends config w n (committing w n operation updates) later other fit
          (beside_freed config w.nodes w.coord h later n k.node other s.good.operation.running (λ l. inl refl) (λ l. refl) (λ l. refl) (λ m _. refl) (s.beside.queues n) refl refl refl s.beside)
          (sends config w n k later node.waiting.calls (calls_in node.batches) (letter Coord (Here 0) (message.Done operation node.number)) mine step),
    )

pub commit_event : (config : Config) (w : World) (n : ℕ) (h : Ghost) (e p operation : ℕ) (updates : List Update) → n < config.nodes → n ≢ 255 → Shows config w h → AllFit (take_commit (w.nodes n) operation updates).sent
    → IsPosted (posts_of w.envelopes) e (Node n) p (message.Commit operation updates) → Ends config w n (take_commit (w.nodes n) operation updates)
commit_event config w n h e p operation updates there other s fit at =
    let node = w.nodes n in
    elim (is_of node.locks.shut operation) as (λ b. is_of node.locks.shut operation ≡ b → AllFit (cond b (committing w n operation updates) (begun node)).sent → Ends config w n (cond b (committing w n operation updates) (begun node))) [
      | true ↦ λ is y. commits config w n h e p operation updates there other s y at is
      | false ↦ λ _ y. stays config w n h other s y
    ] refl fit
