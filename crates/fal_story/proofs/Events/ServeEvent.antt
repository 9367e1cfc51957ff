-- An item is served, and a batch is released.
use Rattle.std.proofs.Common.{◌≡◌, ◌≢◌, inl, ⊎_elim, ℕ, ◌+◌, ◌<◌, Bool, true, false, not, ◌&&◌, ◌||◌, cond, List, [], ◌∷◌, ◌++◌, length, filter, Option, Some, None, refl, sym, ap, subst, ◌∙◌, arith}
use Rattle.std.specs.Prelude.{◌==◌, slice_get}
use Rattle.std.specs.List.{All, find, list_any}
use mathlib.Core.Path.{fun_ext}
use Rattle.std.proofs.lemmas.Bool.{eq-eqb, eqb-true}
use Rattle.std.proofs.lemmas.Cmp.{nat_list_eq_equiv}
use Rattle.std.proofs.lemmas.Map.Views.{any-filter_same}
use Rattle.std.proofs.lemmas.Option.{same_Some}
use Rattle.fal_base.specs.declared.barred.Barred.{Barred}
use Rattle.fal_base.specs.declared.barred.Barred.TheVariants as barred
use Rattle.fal_base.specs.declared.call.Config.{Config}
use Rattle.fal_base.specs.declared.event.Actor.TheVariants.{Node, Coord}
use Rattle.fal_base.specs.declared.event.Point.TheVariants.{Here}
use Rattle.fal_base.specs.declared.key.Key.{Key}
use Rattle.fal_base.specs.Tree.{IsInOrder, row_at}
use Rattle.fal_batch.proofs.KeyLists.{same_turned}
use Rattle.fal_batch.proofs.Truth.{both_first, both_second}
use Rattle.fal_batch.specs.Fate.{bars}
use Rattle.fal_duty.specs.Duties.{found_of}
use Rattle.fal_locks.specs.declared.holder.Holder.{Holder}
use Rattle.fal_locks.specs.declared.holder.Shut.{Shut}
use Rattle.fal_locks.specs.Keys.{has_key}
use Rattle.fal_locks.specs.Locks.{is_shut, shut_keys_of}
use Rattle.fal_node.specs.declared.batch.Batch.{Batch}
use Rattle.fal_node.specs.declared.blocking.Blocking.{Blocking}
use Rattle.fal_node.specs.declared.event.NodeEvent.TheVariants.{Release, Serve}
use Rattle.fal_node.specs.declared.item.Item.{Item}
use Rattle.fal_wire.specs.declared.letter.Letter.{Letter}
use Rattle.fal_node.specs.Letters.{Work, begun, asker_of}
use Rattle.fal_node.specs.Serve.{can_block, can_serve, can_shut, can_tell, owns, served, served_as, serve, service_of, fetch_letter, block_service, lock_service}
use Rattle.fal_node.specs.State.{NodeState, batch_of, blocked_names, item_of, without_item, released}
use Rattle.fal_node.specs.Step.{node_step, release, only_if}
use Rattle.fal_place.specs.Placement.{owner, same_name}
use Rattle.fal_wait.specs.Lists.{without_first}
use Rattle.fal_wire.specs.declared.message.Message.{Message}
use Rattle.fal_wire.specs.declared.message.Message.TheVariants as message
use Rattle.fal_wire.specs.Messages.{Fits}
use Rattle.fal_wire.specs.Letters.{letter}
use Rattle.fal_story.proofs.Events.Besides.{beside_still, beside_stepped}
use Rattle.fal_story.proofs.Events.Freed.{locks_without}
use Rattle.fal_story.proofs.Events.InStep.{InStep, Ends, begins, ends, view_begun}
use Rattle.fal_story.proofs.Events.Sends.{sends, each_found, each_without_first}
use Rattle.fal_story.proofs.Events.ServeBlock.{block_served}
use Rattle.fal_story.proofs.Listing.ServeList.{listed_ends}
use Rattle.fal_story.proofs.Events.ServeLock.{lock_served}
use Rattle.fal_story.proofs.Events.Shows.{Ghost, Shows, Beside, Held, Holds, barred_name, barred_of, is_lock, fetches_of, view_of, posts_of, calls_in, pending_calls}
use Rattle.fal_story.proofs.Events.Tables.{owner_at, owner_there}
use Rattle.fal_story.proofs.Families.Bars.{IsBarred}
use Rattle.fal_story.proofs.Lists.Grown.{tells, unequal}
use Rattle.fal_story.proofs.Lists.Members.{find_in, find_other}
use Rattle.fal_story.proofs.Phase.{Phase}
use Rattle.fal_story.proofs.Steps.Posted.{IsFine}
use Rattle.fal_story.proofs.View.{Asking, IsPosted, seat}
use Rattle.fal_story.proofs.Families.Clear.{IsShut}
use Rattle.fal_story.proofs.Steps.Reads.{read_row}
use Rattle.fal_story.specs.Clusters.{IsCluster}
use Rattle.fal_story.specs.World.{World, point_of, put}

-- ---- what a served item is

-- the item that was served
pub record IsServed (node : NodeState) (number : ℕ) (k : Work) : Type 0 where
  pub item : Item
  pub there : item_of node number ≡ Some item
  pub can : can_serve node item.message ≡ true
  pub work : served node item ≡ k

same_work : (a b : Work) → Some a ≡ Some b → a ≡ b
same_work a b e = cc

serve_is : (node : NodeState) (number : ℕ) (k : Work) (item : Option Item) → item_of node number ≡ item → serve node item ≡ Some k → IsServed node number k
serve_is node number k None there is = absurd (cc)
serve_is node number k (Some item) there is =
    elim (can_serve node item.message) as (λ b. can_serve node item.message ≡ b → cond b (Some (served node item)) None ≡ Some k → IsServed node number k) [
      | true ↦ λ can e. record { item = item; there = there; can = can; work = same_work (served node item) k e }
      | false ↦ λ can e. absurd (cc)
    ] refl is

step_served : (node : NodeState) (number : ℕ) (k : Work) → node_step node (Serve number) ≡ Some k → IsServed node number k
unfolding node_step
step_served node number k is = serve_is node number k (item_of node number) refl is

-- ---- the answer to a question

abbrev pub got : ℕ → ℕ → Key → NodeState → Letter
got asker number key node = letter (asker_of asker) (Here 0) (message.FetchGot number key (found_of (row_at node.rows key)))

-- it goes to the asker, who may be the coordinator
pub fetch_letter_is : (node : NodeState) (asker number : ℕ) (key : Key) → owner node.table key ≡ node.number → fetch_letter node asker number key ≡ got asker number key node
fetch_letter_is node asker number key owned =
    ap (λ b. cond b (letter (asker_of asker) (Here 0) (message.FetchGot number key (found_of (row_at node.rows key)))) (letter (Node (owner node.table key)) (Here 0) (message.FetchAsk asker number key))) (eq-eqb (owner node.table key) node.number owned)

-- the coordinator's number is its seat
pub asker_seat : (asker : ℕ) → seat (asker_of asker) ≡ Node asker
asker_seat asker = ⊎_elim
    (λ own. ap (λ b. seat (cond b Coord (Node asker))) own.0 ∙ ap Node (sym own.1))
    (λ other. ap (λ b. seat (cond b Coord (Node asker))) other.0)
    (tells asker 255)

-- the name is not blocked there
free_names : (operation : ℕ) (names : Barred) (name : List ℕ) → not (bars names name) ≡ true → IsBarred (barred_name operation names) name → ⊥
free_names operation barred.Nothing name free is = is
free_names operation (barred.One own) name free is = let blocked : same_name own name ≡ true = ap (same_name own) (sym is) ∙ nat_list_eq_equiv.refl own in cc
free_names operation barred.All name free is = is

free_name : (blocked : Option Blocking) (name : List ℕ) → not (bars (blocked_names blocked) name) ≡ true → IsBarred (barred_of blocked) name → ⊥
free_name None name free is = is
free_name (Some blocking) name free is = free_names blocking.operation blocking.names name free is

-- and where the key lives here, it is not shut
open_key : (node : NodeState) (key : Key) → owns node key ≡ true → can_tell node key ≡ true → IsShut node.locks.shut key → ⊥
open_key node key owned can is =
    let second = both_second (not (bars (blocked_names node.blocked) key.name)) (not (owns node key) || not (is_shut node.locks key)) can in
    let open' : not (is_shut node.locks key) ≡ true = sym (ap (λ b. not b || not (is_shut node.locks key)) owned) ∙ second in
    off node.locks.shut open' is
  where
    off : (shut : Option Shut) → not (has_key (shut_keys_of shut) key) ≡ true → IsShut shut key → ⊥
    off None free among = among
    off (Some s) free among = let here : has_key s.keys key ≡ true = ap (λ test. list_any test s.keys) (fun_ext (λ other. same_turned key other)) ∙ among in cc

module _ (config : Config) (w : World) (n : ℕ) (h : Ghost) (e p asker number : ℕ) (key : Key) (there : n < config.nodes) (s : Shows config w h) (sent : IsPosted (posts_of w.envelopes) e (Node n) p (message.FetchAsk asker number key))
    (can : can_tell (w.nodes n) key ≡ true) where
  -- the letter is fine to be sent now
  abbrev IsFineLetter : Letter → Type 0
  IsFineLetter l = IsFine config (view_of config w h) (seat l.to) (point_of (length w.commits) l.point) l.message

  free : IsBarred (barred_of (w.nodes n).blocked) key.name → ⊥
  free = free_name (w.nodes n).blocked key.name (both_first (not (bars (blocked_names (w.nodes n).blocked) key.name)) (not (owns (w.nodes n) key) || not (is_shut (w.nodes n).locks key)) can)

  -- a pending fetch of this number is for this key
  for_key : (j : ℕ) (f : Asking) → slice_get (fetches_of w.nodes w.coord asker) j ≡ Some f → f.number ≡ number → key ≡ f.key
  for_key j f at same = (s.good.asking.fetches asker j f at).1.1.asks e p (Node n) key (subst (λ i. IsPosted (posts_of w.envelopes) e (Node n) p (message.FetchAsk asker i key)) (sym same) sent)

  -- the owner tells the asker by its row, which is the tree's
  told_fine : owns (w.nodes n) key ≡ true → IsFineLetter (got asker number key (w.nodes n))
  told_fine owned =
      let node = w.nodes n in
      let own : owner w.coord.table key ≡ n = sym (owner_at config w h s n key there free) ∙ eqb-true (owner node.table key) node.number owned ∙ (s.placed n).number in
      let row = read_row config (view_of config w h) n key there own (open_key node key owned can) free s.good in
      subst (λ to. IsFine config (view_of config w h) to (length w.commits + 0) (message.FetchGot number key (found_of (row_at node.rows key)))) (sym (asker_seat asker))
      (record {
        asking = (asker, refl, omega arith, ap found_of row, (s.good.asking.numbers.ask e p (Node n) asker number key sent).1, for_key);
        records = (asker, refl);
        operation = tt;
        bars = tt;
        knowing = tt;
        listings = tt;
      })

  -- another node asks the owner, as it was asked
  asked_fine : IsFineLetter (letter (Node (owner (w.nodes n).table key)) (Here 0) (message.FetchAsk asker number key))
  asked_fine =
      let known = s.good.asking.numbers.ask e p (Node n) asker number key sent in
      let to = owner (w.nodes n).table key in
      record {
        asking = (known.0, known.1, (to, refl, owner_there config w h s n key there free, λ _. owner_at config w h s n key there free), for_key);
        records = (to, refl);
        operation = s.good.operation.told e p (Node n) (message.FetchAsk asker number key) sent;
        bars = tt;
        knowing = tt;
        listings = tt;
      }

  fine_served : IsFineLetter (fetch_letter (w.nodes n) asker number key)
  fine_served =
      elim (owns (w.nodes n) key) as (λ b. owns (w.nodes n) key ≡ b → IsFineLetter (cond b (got asker number key (w.nodes n)) (letter (Node (owner (w.nodes n).table key)) (Here 0) (message.FetchAsk asker number key)))) [
        | true ↦ told_fine
        | false ↦ λ _. asked_fine
      ] refl

-- ---- the step

served_in : (config : Config) (w : World) (n : ℕ) (h : Ghost) (e p at asker number : ℕ) (key : Key) → n < config.nodes → n ≢ 255 → Shows config w h
    → IsPosted (posts_of w.envelopes) e (Node n) p (message.FetchAsk asker number key) → can_tell (w.nodes n) key ≡ true
    → InStep config w n (served (w.nodes n) (record { number = at; message = message.FetchAsk asker number key })) h (w.nodes n).waiting.calls (calls_in (w.nodes n).batches)
unfolding served without_item
served_in config w n h e p at asker number key there other s sent can =
    let node = w.nodes n in
    let told = fetch_letter node asker number key in
    let y = sends config w n (begun node) h node.waiting.calls (calls_in node.batches) told
    (subst (λ v. IsFine config v (seat told.to) (point_of (length w.commits) told.point) told.message) (view_begun config w n h other) (fine_served config w n h e p asker number key there s sent can))
    (begins config w n h other s) in
    record {
      good = y.good;
      here = y.here;
      others = y.others;
      items = each_without_first _ (λ item. item.number == at) node.items y.items;
      others_items = y.others_items;
      heard = y.heard;
      kept = y.kept;
      placed = record { number = y.placed.number; limit = y.placed.limit; blocked = y.placed.blocked; tidy = y.placed.tidy };
      others_placed = y.others_placed;
    }

told_ends : (config : Config) (w : World) (n : ℕ) (h : Ghost) (item : Item) (asker number : ℕ) (key : Key) → n < config.nodes → n ≢ 255 → Shows config w h → item_of (w.nodes n) item.number ≡ Some item
    → item.message ≡ message.FetchAsk asker number key → can_tell (w.nodes n) key ≡ true → All (λ letter. Fits letter.message) (served (w.nodes n) item).sent → Ends config w n (served (w.nodes n) item)
unfolding served without_item
told_ends config w n h item asker number key below other s there is can fit =
    let sent = each_found _ (λ i. i.number == item.number) (w.nodes n).items item (s.items n) there in
    let explicit : item ≡ record { number = item.number; message = message.FetchAsk asker number key } = λ i. record { number = item.number; message = is i } in
    let in_step = served_in config w n h sent.0 sent.1.0 item.number asker number key below other s (subst (IsPosted (posts_of w.envelopes) sent.0 (Node n) sent.1.0) is sent.1.1) can in
    let still = locks_without (λ i. i.number == item.number) (w.nodes n).items item there (ap is_lock is) in
    let beside = beside_still config w.nodes w.coord h n (served (w.nodes n) (record { number = item.number; message = message.FetchAsk asker number key })).node still refl refl refl s.beside in (
      h,
      ends config w n (served (w.nodes n) item) h other fit
          (subst (λ (i : Item). Beside config (put w.nodes n (served (w.nodes n) i).node) w.coord h) (sym explicit) beside)
          (subst (λ (i : Item). InStep config w n (served (w.nodes n) i) h (served (w.nodes n) i).node.waiting.calls (calls_in (served (w.nodes n) i).node.batches)) (sym explicit) in_step),
    )

locked_ends : (config : Config) (w : World) (n : ℕ) (h : Ghost) (item : Item) (operation : ℕ) (keys : List Key) → n < config.nodes → n ≢ 255 → Shows config w h → item_of (w.nodes n) item.number ≡ Some item
    → item.message ≡ message.Lock operation keys → can_shut (w.nodes n).locks keys ≡ true → All (λ letter. Fits letter.message) (served (w.nodes n) item).sent → Ends config w n (served (w.nodes n) item)
unfolding served
locked_ends config w n h item operation keys below other s there is can fit =
    let same : served_as (lock_service (w.nodes n) operation keys) item.number ≡ served_as (service_of (w.nodes n) item.message) item.number =
    λ i. served_as (service_of (w.nodes n) (sym is i)) item.number in
    subst (Ends config w n) same (lock_served config w n h item operation keys below other s there is can (subst (λ (j : Work). All (λ letter. Fits letter.message) j.sent) (sym same) fit))

blocked_ends : (config : Config) (w : World) (n : ℕ) (h : Ghost) (item : Item) (operation : ℕ) (name : List ℕ) → n < config.nodes → n ≢ 255 → Shows config w h → IsInOrder (w.nodes n).rows → item_of (w.nodes n) item.number ≡ Some item
    → item.message ≡ message.Block operation name → can_block (w.nodes n) name ≡ true → All (λ letter. Fits letter.message) (served (w.nodes n) item).sent → Ends config w n (served (w.nodes n) item)
unfolding served
blocked_ends config w n h item operation name below other s sorted there is can fit =
    let same : served_as (block_service (w.nodes n) operation name) item.number ≡ served_as (service_of (w.nodes n) item.message) item.number =
    λ i. served_as (service_of (w.nodes n) (sym is i)) item.number in
    subst (Ends config w n) same (block_served config w n h item operation name below other s sorted there is can (subst (λ (j : Work). All (λ letter. Fits letter.message) j.sent) (sym same) fit))

-- by the kind of the item
served_by : (config : Config) (w : World) (n : ℕ) (h : Ghost) (item : Item) (m : Message) → n < config.nodes → n ≢ 255 → Shows config w h → IsInOrder (w.nodes n).rows → item_of (w.nodes n) item.number ≡ Some item
    → item.message ≡ m → can_serve (w.nodes n) m ≡ true → All (λ letter. Fits letter.message) (served (w.nodes n) item).sent → Ends config w n (served (w.nodes n) item)
served_by config w n h item (message.FetchAsk asker number key) below other s sorted there is can fit = told_ends config w n h item asker number key below other s there is can fit
served_by config w n h item (message.Lock operation keys) below other s sorted there is can fit = locked_ends config w n h item operation keys below other s there is can fit
served_by config w n h item (message.Block operation name) below other s sorted there is can fit = blocked_ends config w n h item operation name below other s sorted there is can fit
served_by config w n h item (message.ListAsk id version dir) below other s sorted there is can fit = listed_ends config w n h item id version dir below other s sorted there is can fit
served_by config w n h item others below other s sorted there is can fit = absurd (cc)

-- an item that is found has the number
numbered : (node : NodeState) (number : ℕ) (item : Item) → item_of node number ≡ Some item → item_of node item.number ≡ Some item
numbered node number item there =
    let same = eqb-true item.number number (find_in (λ (i : Item). i.number == number) node.items item there).0 in
    subst (λ k. item_of node k ≡ Some item) (sym same) there

-- no node has the coordinator's seat
apart_seat : (config : Config) (n : ℕ) → IsCluster config → n < config.nodes → n ≢ 255
apart_seat config n cluster there own = let few = cluster.few_nodes in absurd (omega arith)

pub serve_event : (config : Config) (w : World) (n number : ℕ) (h : Ghost) (k : Work) → IsCluster config → n < config.nodes → Shows config w h → IsInOrder (w.nodes n).rows → node_step (w.nodes n) (Serve number) ≡ Some k
    → All (λ letter. Fits letter.message) k.sent → Ends config w n k
serve_event config w n number h k cluster there s sorted is =
    let x = step_served (w.nodes n) number k is in
    subst (λ (j : Work). All (λ letter. Fits letter.message) j.sent → Ends config w n j) x.work
    (served_by config w n h x.item x.item.message there (apart_seat config n cluster there) s sorted (numbered (w.nodes n) number x.item x.there) refl x.can)

-- ---- a batch is released

-- a batch that was executed keeps no calls
pub calls_without : (test : Batch → Bool) (bs : List Batch) (b : Batch) → find test bs ≡ Some b → b.executed ≡ true → calls_in bs ≡ calls_in (without_first test bs)
calls_without test [] b is executed = absurd (cc)
calls_without test (c ∷ bs) b is executed =
    elim (test c) as (λ t. cond t (Some c) (find test bs) ≡ Some b → calls_in (c ∷ bs) ≡ calls_in (cond t bs (c ∷ without_first test bs))) [
      | true ↦ λ e. ap (λ (x : Bool). cond x [] c.calls ++ calls_in bs) (ap (λ (x : Batch). x.executed) (same_batch c b e) ∙ executed)
      | false ↦ λ e. ap (λ calls. pending_calls c ++ calls) (calls_without test bs b e executed)
    ] is
  where
    same_batch : (a b : Batch) → Some a ≡ Some b → a ≡ b
    same_batch a b e = cc

-- the batch that was released
pub record IsReleased (node : NodeState) (number : ℕ) (k : Work) : Type 0 where
  pub batch : Batch
  pub there : batch_of node number ≡ Some batch
  pub executed : batch.executed ≡ true
  pub work : begun (released node number) ≡ k

release_is : (node : NodeState) (number : ℕ) (k : Work) (batch : Option Batch) → batch_of node number ≡ batch → release node number batch ≡ Some k → IsReleased node number k
release_is node number k None there is = absurd (cc)
release_is node number k (Some batch) there is =
    elim batch.executed as (λ b. batch.executed ≡ b → only_if b (begun (released node number)) ≡ Some k → IsReleased node number k) [
      | true ↦ λ executed e. record { batch = batch; there = there; executed = executed; work = same_work (begun (released node number)) k e }
      | false ↦ λ executed e. absurd (cc)
    ] refl is

step_released : (node : NodeState) (number : ℕ) (k : Work) → node_step node (Release number) ≡ Some k → IsReleased node number k
unfolding node_step
step_released node number k is = release_is node number k (batch_of node number) refl is

-- a planned call is held by its batch, which is another
holds_released : (phase : ℕ → Phase) (crossed : ℕ → List Key) (n : ℕ) (x : NodeState) (number : ℕ) (batch : Batch) → batch_of x number ≡ Some batch → batch.executed ≡ true → Holds phase crossed n x → Holds phase crossed n (released x number)
unfolding released
holds_released phase crossed n x number batch there executed h = record {
  below = each_without_first _ (λ (b : Batch). b.number == number) x.batches h.below;
  planned = λ l p plans.
      let held = h.planned l p plans in
      let apart : held.batch.number ≢ number = λ same.
      let found : batch_of x number ≡ Some held.batch = subst (λ k. batch_of x k ≡ Some held.batch) same held.there in
      let one = same_Some held.batch batch (sym found ∙ there) in
      let both : false ≡ true = sym held.pending ∙ ap (λ (b : Batch). b.executed) one ∙ executed in
      cc in
      record {
        batch = held.batch;
        there = find_other (λ (b : Batch). b.number) x.batches held.batch.number number apart ∙ held.there;
        pending = held.pending;
        among = held.among;
        lane = held.lane;
        keys_held = λ key among. holding_other x.locks.holders held.batch.number number key apart ∙ held.keys_held key among;
      };
}
  where
    holding_other : (holders : List Holder) (m number : ℕ) (key : Key) → m ≢ number
        → list_any (λ (h : Holder). (h.number == m) && has_key h.keys key) (filter (λ (h : Holder). not (h.number == number)) holders) ≡ list_any (λ (h : Holder). (h.number == m) && has_key h.keys key) holders
    holding_other holders m number key apart = any-filter_same (λ (h : Holder). (h.number == m) && has_key h.keys key) (λ (h : Holder). not (h.number == number)) true
        (λ h is. ap not (unequal h.number number (λ same. apart (sym (eqb-true h.number m (both_first (h.number == m) (has_key h.keys key) is)) ∙ same)))) holders

released_ends : (config : Config) (w : World) (n number : ℕ) (h : Ghost) (batch : Batch) → n ≢ 255 → Shows config w h → batch_of (w.nodes n) number ≡ Some batch → batch.executed ≡ true
    → All (λ letter. Fits letter.message) (begun (released (w.nodes n) number)).sent → Ends config w n (begun (released (w.nodes n) number))
unfolding released
released_ends config w n number h batch other s there executed fit =
    let x = begins config w n h other s in
    let y = released (w.nodes n) number in
    let beside = beside_stepped config w.nodes w.coord h h n y s.good.operation.running (λ l. inl (refl, refl)) (λ m l p _ is. (is, refl)) (λ m _. refl) (s.beside.queues n)
    (holds_released h.phase h.crossed n (w.nodes n) number batch there executed (s.beside.holding n)) s.beside in (
      h,
      ends config w n (begun (released (w.nodes n) number)) h other fit beside (record {
        good = x.good;
        here = subst (λ ps. Held h.call h.phase n (w.nodes n).waiting.calls ps) (calls_without (λ b. b.number == number) (w.nodes n).batches batch there executed) x.here;
        others = x.others;
        items = x.items;
        others_items = x.others_items;
        heard = x.heard;
        kept = x.kept;
        placed = record { number = x.placed.number; limit = x.placed.limit; blocked = x.placed.blocked; tidy = x.placed.tidy };
        others_placed = x.others_placed;
      }),
    )

pub release_event : (config : Config) (w : World) (n number : ℕ) (h : Ghost) (k : Work) → IsCluster config → n < config.nodes → Shows config w h → node_step (w.nodes n) (Release number) ≡ Some k
    → All (λ letter. Fits letter.message) k.sent → Ends config w n k
release_event config w n number h k cluster there s is =
    let x = step_released (w.nodes n) number k is in
    subst (λ (j : Work). All (λ letter. Fits letter.message) j.sent → Ends config w n j) x.work (released_ends config w n number h x.batch (apart_seat config n cluster there) s x.there x.executed)
