-- A cluster goes on when a batch is released and when an item is served.
use Rattle.std.proofs.Common.{◌≡◌, ◌⊎◌, inl, inr, ⊎_elim, ℕ, ◌<◌, Bool, true, false, not, ◌||◌, cond, List, [], ◌∷◌, ◌++◌, length, filter, Option, Some, None, IsTrue, refl, sym, ap, subst, ◌∙◌, arith}
use Rattle.std.specs.Prelude.{◌==◌}
use Rattle.std.specs.List.{All, find}
use Rattle.fal_base.specs.declared.call.CallId.{CallId}
use Rattle.fal_base.specs.declared.call.Config.{Config}
use Rattle.fal_base.specs.declared.event.Actor.TheVariants.{Node, Coord}
use Rattle.fal_base.specs.declared.event.Point.TheVariants.{Here}
use Rattle.fal_base.specs.declared.key.Key.{Key}
use Rattle.fal_base.specs.declared.row.NamedRow.{NamedRow}
use Rattle.fal_base.specs.declared.row.Update.{Update}
use Rattle.fal_base.specs.Tree.{row_at}
use Rattle.fal_coord.specs.declared.stage.Stage.{Stage}
use Rattle.fal_coord.specs.declared.stage.Stage.TheVariants as stage
use Rattle.fal_batch.proofs.Truth.{both_first, not_true}
use Rattle.fal_batch.specs.Fate.{bars}
use Rattle.fal_duty.specs.Duties.{blocked_of, found_of, rows_of, locked_of}
use Rattle.fal_inode.specs.Named.{rows_named}
use Rattle.fal_locks.specs.declared.holder.Holder.{Holder}
use Rattle.fal_locks.specs.Locks.{is_shut}
use Rattle.fal_node.specs.declared.batch.Batch.{Batch}
use Rattle.fal_node.specs.declared.item.Item.{Item}
use Rattle.fal_wire.specs.declared.letter.Letter.{Letter}
use Rattle.fal_node.specs.Letters.{Work, begun, asker_of}
use Rattle.fal_node.specs.Serve.{block_service, blocking, can_serve, can_tell, fetch_service, list_service, lock_service, owns, served, served_as, service_of, shutting}
use Rattle.fal_node.specs.State.{NodeState, blocked_names, item_of, released, without_item}
use Rattle.fal_place.specs.Placement.{owner}
use Rattle.fal_wait.specs.declared.waiting_call.WaitingCall.{WaitingCall}
use Rattle.fal_wait.specs.Lists.{without_first}
use Rattle.fal_wait.specs.Waiting.{unbound}
use Rattle.fal_wire.specs.declared.message.Message.{Message}
use Rattle.fal_wire.specs.declared.message.Message.TheVariants as message
use Rattle.fal_wire.specs.Messages.{Fits}
use Rattle.fal_wire.specs.Letters.{letter}
use Rattle.fal_story.proofs.Drain.Actors.{IsActor, sent_lane}
use Rattle.fal_story.proofs.Drain.Blocked.{BarAt}
use Rattle.fal_story.proofs.Drain.Fresh.{IsFresh}
use Rattle.fal_story.proofs.Drain.Hearing.{still_hearing}
pub use Rattle.fal_story.proofs.Drain.Hearing.{After}
use Rattle.fal_story.proofs.Drain.Moving.{IsMoving, IsServable, AreServable, AreOfBatches, items_in, posts_after, items_after, node_moves}
use Rattle.fal_story.proofs.Drain.MovingStart.{StandsAt}
use Rattle.fal_story.proofs.Drain.OnWay.{IsOnWay, Asks, Keeps, Gets, AreOnWay, items_stay, way_more}
use Rattle.fal_story.proofs.Drain.Sent.{letter_fresh}
use Rattle.fal_story.proofs.Drain.Staged.{IsHearing, AreFreshStill, hearing_kept, hearing_same, still_more, still_here}
use Rattle.fal_story.proofs.Events.Freed.{lock_listed}
use Rattle.fal_story.proofs.Events.Rules.{name_free}
use Rattle.fal_story.proofs.Events.ServeEvent.{got, asker_seat}
use Rattle.fal_story.proofs.Events.Doing.{name_in}
use Rattle.fal_story.proofs.Events.InStep.{letter_posts}
use Rattle.fal_story.proofs.Events.Shows.{Ghost, Shows, posts_of, is_lock, locks_in, listed_of, view_of}
use Rattle.fal_story.proofs.Events.Tables.{owner_there}
use Rattle.fal_story.proofs.Lists.Each.{Each, each_weaker}
use Rattle.fal_story.proofs.Lists.Grown.{tells, put_all, slice_get_front}
use Rattle.fal_story.proofs.Lists.Members.{IsIn, find_in, each_all, each_in, each_map, each_without_first, same_number}
use Rattle.fal_story.proofs.View.{Post, IsPosted}
use Rattle.fal_story.specs.Clusters.{is_lane}
use Rattle.fal_story.specs.World.{World}

-- ---- a step that keeps the waiting calls and the items

pub keeps_moving : (config : Config) (w : World) (came : ℕ → Bool) (n : ℕ) (k : Work) → n < config.nodes → All (λ (l : Letter). Fits l.message) k.sent → IsMoving config w came
    → Each (λ (l : Letter). IsActor config l.to) k.sent → k.node.waiting.calls ≡ (w.nodes n).waiting.calls → k.node.items ≡ (w.nodes n).items → AreOfBatches k.node
    → k.node.locks.shut ≡ (w.nodes n).locks.shut → k.node.last_operation ≡ (w.nodes n).last_operation → k.node.blocked ≡ (w.nodes n).blocked → IsMoving config (After config w n k) came
keeps_moving config w came n k there fit m go calls items holders shut last blocked =
    let ways = λ (i f : ℕ) (o : IsOnWay (posts_of w.envelopes) came (items_in w) i f).
    way_more (posts_of w.envelopes) (letter_posts (length w.commits) k.sent) came (items_in w) (items_after w n k) i f (items_stay w.nodes n k.node (λ item at. subst (IsIn item) (sym items) at)) o in
    node_moves config w came came n k there fit m m.past go
    (subst (AreOnWay (posts_after w k) came (items_after w n k) n) (sym calls) (each_weaker _ _ (w.nodes n).waiting.calls (λ x h f is. ways n f (h f is)) (m.waits n)))
    (λ i f _ o. ways i f o) (subst AreServable (sym items) (m.servable n)) holders (still_hearing w came n k shut last blocked)

-- a batch goes with its keys
released_holders : (node : NodeState) (number : ℕ) → AreOfBatches node → AreOfBatches (released node number)
unfolding released
released_holders node number h = left node.locks.holders h
  where
    other : (b : Batch) (x : Holder) → b.number ≡ x.number → (x.number == number) ≡ false → (bs : List Batch) → IsIn b bs → IsIn b (without_first (λ (y : Batch). y.number == number) bs)
    other b x same ne [] at = absurd at
    other b x same ne (y ∷ bs) at =
        elim (y.number == number) as (λ t. (y.number == number) ≡ t → IsIn b (cond t bs (y ∷ without_first (λ (z : Batch). z.number == number) bs))) [
          | true ↦ λ is. ⊎_elim (λ e. let wrong : true ≡ false = sym is ∙ ap (λ (z : Batch). z.number == number) e ∙ ap (λ i. i == number) same ∙ ne in absurd (cc)) (λ r. r) at
          | false ↦ λ is. ⊎_elim (λ e. inl e) (λ r. inr (other b x same ne bs r)) at
        ] refl

    left : (hs : List Holder) → Each (λ (x : Holder). (b : Batch) × (IsIn b node.batches × (b.number ≡ x.number))) hs
        → Each (λ (x : Holder). (b : Batch) × (IsIn b (without_first (λ (y : Batch). y.number == number) node.batches) × (b.number ≡ x.number))) (filter (λ (x : Holder). not (x.number == number)) hs)
    left [] all = tt
    left (x ∷ hs) all =
        elim (x.number == number) as (λ t. (x.number == number) ≡ t → Each (λ (x : Holder). (b : Batch) × (IsIn b (without_first (λ (y : Batch). y.number == number) node.batches) × (b.number ≡ x.number)))
        (cond (not t) (x ∷ filter (λ (y : Holder). not (y.number == number)) hs) (filter (λ (y : Holder). not (y.number == number)) hs))) [
          | true ↦ λ is. left hs all.1
          | false ↦ λ is. ((all.0.0, (other all.0.0 x all.0.1.1 is node.batches all.0.1.0, all.0.1.1)), left hs all.1)
        ] refl

pub release_moves : (config : Config) (w : World) (came : ℕ → Bool) (n number : ℕ) → n < config.nodes → IsMoving config w came → IsMoving config (After config w n (begun (released (w.nodes n) number))) came
unfolding released
release_moves config w came n number there m = keeps_moving config w came n (begun (released (w.nodes n) number)) there (λ i x lt. absurd (omega arith)) m tt refl refl (released_holders (w.nodes n) number (m.holders n)) refl refl refl

-- ---- an item is served

-- who asks is there
asker_goes : (config : Config) (asker : ℕ) → (asker < config.nodes) ⊎ (asker ≡ 255) → IsActor config (asker_of asker)
asker_goes config asker who =
    ⊎_elim
    (λ own. subst (λ b. IsActor config (cond b Coord (Node asker))) (sym own.0) tt)
    (λ other. subst (λ b. IsActor config (cond b Coord (Node asker))) (sym other.0) (⊎_elim (λ below. below) (λ own. absurd (other.1 own)) who))
    (tells asker 255)

-- an item of the list is the one that was served, or is there still
pub still_kept : (number : ℕ) (items : List Item) (item x : Item) → find (λ i. i.number == number) items ≡ Some item → IsIn x items → (x ≡ item) ⊎ IsIn x (without_first (λ i. i.number == number) items)
still_kept number [] item x is at = absurd at
still_kept number (y ∷ ys) item x is at =
    elim (y.number == number) as (λ b. cond b (Some y) (find (λ i. i.number == number) ys) ≡ Some item → (x ≡ item) ⊎ IsIn x (cond b ys (y ∷ without_first (λ i. i.number == number) ys))) [
      | true ↦ λ e. let first : y ≡ item = cc in ⊎_elim (λ s. inl (sym s ∙ first)) (λ r. inr r) at
      | false ↦ λ e. ⊎_elim (λ s. inr (inl s)) (λ r. ⊎_elim (λ z. inl z) (λ z. inr (inr z)) (still_kept number ys item x e r)) at
    ] is

-- what is on the way stays so, but for the question that is served
served_ways : (w : World) (came : ℕ → Bool) (n : ℕ) (order : Message) (k : Work) → ((m f : ℕ) (key : Key) → order ≡ message.FetchAsk m f key → IsOnWay (posts_after w k) came (items_after w n k) m f)
    → ((x : Item) → IsIn x (w.nodes n).items → (x.message ≡ order) ⊎ IsIn x k.node.items)
    → (m f : ℕ) → IsOnWay (posts_of w.envelopes) came (items_in w) m f → IsOnWay (posts_after w k) came (items_after w n k) m f
served_ways w came n order k told left m f (Asks i p to q at fresh) = Asks i p to q (slice_get_front (posts_of w.envelopes) (letter_posts (length w.commits) k.sent) i _ at) fresh
served_ways w came n order k told left m f (Gets i p q what at fresh) = Gets i p q what (slice_get_front (posts_of w.envelopes) (letter_posts (length w.commits) k.sent) i _ at) fresh
served_ways w came n order k told left m f (Keeps i item q at is) =
    ⊎_elim
    (λ same. told m f q (sym same ∙ is))
    (λ still. Keeps i item q still is)
    (put_all (λ j x. IsIn item (w.nodes j).items → (item.message ≡ order) ⊎ IsIn item x.items) w.nodes n k.node (left item) (λ j _ there. inr there) i at)

-- the item goes, and one letter is sent
served_moves : (config : Config) (w : World) (came : ℕ → Bool) (n : ℕ) (order : Message) (k : Work) → n < config.nodes → IsMoving config w came → All (λ (l : Letter). Fits l.message) k.sent → Each (λ (l : Letter). IsActor config l.to) k.sent
    → ((m f : ℕ) (key : Key) → order ≡ message.FetchAsk m f key → IsOnWay (posts_after w k) came (items_after w n k) m f) → ((x : Item) → IsIn x (w.nodes n).items → (x.message ≡ order) ⊎ IsIn x k.node.items)
    → ((P : WaitingCall → Type 0) → ((y : WaitingCall) → y.fetch ≡ None → P y) → Each P (w.nodes n).waiting.calls → Each P k.node.waiting.calls) → AreServable k.node.items → AreOfBatches k.node
    → (IsHearing (posts_of w.envelopes) came w.coord.operation w.coord.stage n (w.nodes n) → IsHearing (posts_after w k) came w.coord.operation w.coord.stage n k.node)
    → IsMoving config (After config w n k) came
served_moves config w came n order k there m fit go told left calls servable holders hearing =
    let old = posts_of w.envelopes in
    let ways = served_ways w came n order k told left in
    let still = λ (i : ℕ). still_more old old (letter_posts (length w.commits) k.sent) came came i (still_here old came i) in
    node_moves config w came came n k there fit m m.past go
    (calls (λ y. (f : ℕ) → y.fetch ≡ Some f → IsOnWay (posts_after w k) came (items_after w n k) n f) (λ y free f is. let wrong : None ≡ Some f = sym free ∙ is in absurd (cc))
    (each_weaker _ _ (w.nodes n).waiting.calls (λ x h f is. ways n f (h f is)) (m.waits n)))
    (λ i f _ o. ways i f o) servable holders
    (λ i. put_all (λ i x. IsHearing old came w.coord.operation w.coord.stage i (w.nodes i) → IsHearing (posts_after w k) came w.coord.operation w.coord.stage i x) w.nodes n k.node hearing
    (λ i _. hearing_kept old (posts_after w k) came came w.coord.operation w.coord.stage i (w.nodes i) (w.nodes i) (still i) refl refl refl) i)

module _ (config : Config) (w : World) (came : ℕ → Bool) (n number : ℕ) (h : Ghost) (item : Item) (there : n < config.nodes) (s : Shows config w h) (m : IsMoving config w came) (at : item_of (w.nodes n) number ≡ Some item) where
  abbrev old : List Post
  old = posts_of w.envelopes

  found : ((item.number == number) ≡ true) × IsIn item (w.nodes n).items
  found = find_in (λ (i : Item). i.number == number) (w.nodes n).items item at

  -- each other item is there still
  left_of : (order : Message) → item.message ≡ order → (x : Item) → IsIn x (w.nodes n).items → (x.message ≡ order) ⊎ IsIn x (without_first (λ i. i.number == item.number) (w.nodes n).items)
  left_of order is x x_at =
      subst (λ j. (x.message ≡ order) ⊎ IsIn x (without_first (λ i. i.number == j) (w.nodes n).items)) (sym (same_number item.number number found.0))
      (⊎_elim (λ same. inl (ap (λ (i : Item). i.message) same ∙ is)) (λ still. inr still) (still_kept number (w.nodes n).items item x at x_at))

  left_servable : AreServable (without_first (λ i. i.number == item.number) (w.nodes n).items)
  left_servable = each_without_first (λ (i : Item). IsServable i.message) (λ i. i.number == item.number) (w.nodes n).items (m.servable n)

  -- what is on the way for the coordinator is so still
  still_at : (k : Work) → AreFreshStill old (posts_after w k) came came n
  still_at k = still_more old old (letter_posts (length w.commits) k.sent) came came n (still_here old came n)

  -- ---- a question

  -- the owner answers, and another node asks the owner
  abbrev letter_by : Bool → ℕ → ℕ → Key → Letter
  letter_by owned asker fetch key = cond owned (got asker fetch key (w.nodes n)) (letter (Node (owner (w.nodes n).table key)) (Here 0) (message.FetchAsk asker fetch key))

  -- the answer is on the way, or the question is
  asked_moves : (asker fetch : ℕ) (key : Key) → item.message ≡ message.FetchAsk asker fetch key → can_tell (w.nodes n) key ≡ true → All (λ (l : Letter). Fits l.message) (served_as (fetch_service (w.nodes n) asker fetch key) item.number).sent
      → IsMoving config (After config w n (served_as (fetch_service (w.nodes n) asker fetch key) item.number)) came
  unfolding without_item
  asked_moves asker fetch key asks can fit =
      let node = w.nodes n in
      let k = served_as (fetch_service node asker fetch key) item.number in
      let sent = each_in _ node.items item (s.items n) found.1 in
      let posted_at : IsPosted old sent.0 (Node n) sent.1.0 (message.FetchAsk asker fetch key) = subst (IsPosted old sent.0 (Node n) sent.1.0) asks sent.1.1 in
      let who = (s.good.asking.numbers.ask sent.0 sent.1.0 (Node n) asker fetch key posted_at).0 in
      let off = not_true (bars (blocked_names node.blocked) key.name) (both_first (not (bars (blocked_names node.blocked) key.name)) (not (owns node key) || not (is_shut node.locks key)) can) in
      let free = name_free node.blocked (s.placed n).blocked key.name off in
      let told = by_owner (owns node key) asker fetch key who (owner_there config w h s n key there free) in
      served_moves config w came n (message.FetchAsk asker fetch key) k there m fit (told.0, tt)
      (λ i f q same.
      let a : asker ≡ i = cc in
      let b : fetch ≡ f = cc in
      subst (λ j. IsOnWay (posts_after w k) came (items_after w n k) j f) a (subst (λ j. IsOnWay (posts_after w k) came (items_after w n k) asker j) b (told.1 (items_after w n k))))
      (left_of (message.FetchAsk asker fetch key) asks) (λ P none each. each) left_servable (m.holders n)
      (hearing_kept old (posts_after w k) came came w.coord.operation w.coord.stage n node k.node (still_at k) refl refl refl)
    where
      by_owner : (owned : Bool) (asker fetch : ℕ) (key : Key) → (asker < config.nodes) ⊎ (asker ≡ 255) → owner (w.nodes n).table key < config.nodes
          → IsActor config (letter_by owned asker fetch key).to × ((items : ℕ → List Item) → IsOnWay (old ++ letter_posts (length w.commits) (letter_by owned asker fetch key ∷ [])) came items asker fetch)
      by_owner true asker fetch key who owner_is =
          let reply = got asker fetch key (w.nodes n) in
          let p = letter_fresh w.envelopes came (length w.commits) (reply ∷ []) reply m.past (inl refl) in (
            asker_goes config asker who,
            λ items. Gets p.0 p.1.0 key (found_of (row_at (w.nodes n).rows key))
                (subst (λ to. IsPosted (old ++ letter_posts (length w.commits) (reply ∷ [])) p.0 to p.1.0 reply.message) (asker_seat asker) p.1.1.0) p.1.1.1,
          )
      by_owner false asker fetch key who owner_is =
          let question = letter_by false asker fetch key in
          let p = letter_fresh w.envelopes came (length w.commits) (question ∷ []) question m.past (inl refl) in
          (owner_is, λ items. Asks p.0 p.1.0 (owner (w.nodes n).table key) key p.1.1.0 p.1.1.1)

  -- ---- a Lock or a Block

  -- the order that is served is the one that is queued
  order_queued : (order : Message) → item.message ≡ order → is_lock order ≡ true → h.queued n ≡ Some order
  order_queued order is lock =
      listed (h.queued n) (subst (IsIn order) (s.beside.queues n) (subst (λ y. IsIn y (locks_in (w.nodes n).items)) is (lock_listed (λ i. i.number == number) (w.nodes n).items item at (ap (λ y. is_lock y) is ∙ lock))))
    where
      listed : (o : Option Message) → IsIn order (listed_of o) → o ≡ Some order
      listed None at = absurd at
      listed (Some y) at = ⊎_elim (λ same. ap Some same) (λ none. absurd none) at

  -- the coordinator hears of the Lock, if it still waits for the node
  lock_heard : (t : Stage) (operation : ℕ) (keys : List Key) (rows : List Update) (k : Work) → h.queued n ≡ Some (message.Lock operation keys) → StandsAt config w h s t n → k.node.last_operation ≡ (w.nodes n).last_operation
      → k.node.blocked ≡ (w.nodes n).blocked → IsFresh (posts_after w k) came (Node 255) (message.Locked operation n rows) → IsHearing old came w.coord.operation t n (w.nodes n) → IsHearing (posts_after w k) came w.coord.operation t n k.node
  lock_heard (stage.Lock o missing heard) operation keys rows k is stands last blocked told hearing =
      let number = w.coord.operation in
      let same : operation ≡ number =
      ⊎_elim
      (λ waits. ⊎_elim
      (λ away. let wrong : None ≡ Some (message.Lock operation keys) = sym away.1 ∙ is in absurd (cc))
      (λ queued. let both : Some (message.Lock number o.keys) ≡ Some (message.Lock operation keys) = sym queued.1 ∙ is in cc)
      waits.1)
      (λ closed. let wrong : None ≡ Some (message.Lock operation keys) = sym closed.1 ∙ is in absurd (cc))
      stands.1 in
      record {
        away = λ low. (still_at k).to (message.Lock number o.keys) tt (hearing.away (subst (λ (i : ℕ). i < number) last low));
        shut = λ some. (rows, subst (λ i. IsFresh (posts_after w k) came (Node 255) (message.Locked i n rows)) same told);
      }
  lock_heard (stage.Finish locked updates missing) operation keys rows k is stands last blocked told hearing =
      absurd (⊎_elim
      (λ closed. let wrong : None ≡ Some (message.Lock operation keys) = sym closed.2.1 ∙ is in cc)
      (λ opened. let wrong : None ≡ Some (message.Lock operation keys) = sym opened.2 ∙ is in cc)
      stands)
  lock_heard (stage.Block call missing given) operation keys rows k is stands last blocked told hearing =
      hearing_same old (posts_after w k) came came w.coord.operation (stage.Block call missing given) n (w.nodes n) k.node (still_at k) ((λ low. subst (λ (i : ℕ). i < w.coord.operation) last low), (λ some none. some (blocked ∙ none))) hearing
  lock_heard (stage.Install call missing) operation keys rows k is stands last blocked told hearing =
      hearing_same old (posts_after w k) came came w.coord.operation (stage.Install call missing) n (w.nodes n) k.node (still_at k) blocked hearing
  lock_heard other operation keys rows k is stands last blocked told hearing = hearing_same old (posts_after w k) came came w.coord.operation other n (w.nodes n) k.node (still_at k) tt hearing

  lock_moves : (operation : ℕ) (keys : List Key) → item.message ≡ message.Lock operation keys → All (λ (l : Letter). Fits l.message) (served_as (lock_service (w.nodes n) operation keys) item.number).sent
      → IsMoving config (After config w n (served_as (lock_service (w.nodes n) operation keys) item.number)) came
  unfolding without_item shutting
  lock_moves operation keys is fit =
      let node = w.nodes n in
      let k = served_as (lock_service node operation keys) item.number in
      let rows = rows_of node.table node.rows node.number keys in
      let told : IsFresh (posts_after w k) came (Node 255) (message.Locked operation n rows) =
      subst (λ j. IsFresh (posts_after w k) came (Node 255) (message.Locked operation j rows)) (s.placed n).number
      (letter_fresh w.envelopes came (length w.commits) k.sent (letter Coord (Here 0) (locked_of node.table node.rows node.number operation keys)) m.past (inl refl)) in
      served_moves config w came n (message.Lock operation keys) k there m fit (tt, tt) (λ i f q same. absurd (cc)) (left_of (message.Lock operation keys) is)
      (λ P none each. each_map P unbound node.waiting.calls (each_all _ node.waiting.calls (λ y. none (unbound y) refl))) left_servable (m.holders n)
      (lock_heard w.coord.stage operation keys rows k (order_queued (message.Lock operation keys) is refl) (s.good.operation.stands n there) refl refl told)

  -- the coordinator hears of the Block, if it still waits for the node
  block_heard : (t : Stage) (operation : ℕ) (name : List ℕ) (rows : List NamedRow) (k : Work) → h.queued n ≡ Some (message.Block operation name) → BarAt config w h s t n → k.node.last_operation ≡ (w.nodes n).last_operation
      → k.node.locks.shut ≡ (w.nodes n).locks.shut → IsFresh (posts_after w k) came (Node 255) (message.Blocked operation n rows) → IsHearing old came w.coord.operation t n (w.nodes n) → IsHearing (posts_after w k) came w.coord.operation t n k.node
  block_heard (stage.Block call missing given) operation name rows k is bar last shut told hearing =
      let number = w.coord.operation in
      let same : operation ≡ number =
      ⊎_elim
      (λ waits. ⊎_elim
      (λ away. let wrong : None ≡ Some (message.Block operation name) = sym away.0 ∙ is in absurd (cc))
      (λ queued. let both : Some (message.Block number (name_in call.op)) ≡ Some (message.Block operation name) = sym queued.0 ∙ is in cc)
      waits.3)
      (λ barred. let wrong : None ≡ Some (message.Block operation name) = sym barred.1.0 ∙ is in absurd (cc))
      bar.1 in
      record {
        away = λ low. (still_at k).to (message.Block number (name_in call.op)) tt (hearing.away (subst (λ (i : ℕ). i < number) last low));
        blocked = λ some. (rows, subst (λ i. IsFresh (posts_after w k) came (Node 255) (message.Blocked i n rows)) same told);
      }
  block_heard (stage.Install call missing) operation name rows k is bar last shut told hearing =
      absurd (⊎_elim
      (λ waits. let wrong : None ≡ Some (message.Block operation name) = sym waits.3.0 ∙ is in cc)
      (λ free. let wrong : None ≡ Some (message.Block operation name) = sym free.3.0 ∙ is in cc)
      bar)
  block_heard (stage.Lock o missing heard) operation name rows k is bar last shut told hearing =
      hearing_same old (posts_after w k) came came w.coord.operation (stage.Lock o missing heard) n (w.nodes n) k.node (still_at k) ((λ low. subst (λ (i : ℕ). i < w.coord.operation) last low), (λ some none. some (shut ∙ none))) hearing
  block_heard (stage.Finish locked updates missing) operation name rows k is bar last shut told hearing =
      hearing_same old (posts_after w k) came came w.coord.operation (stage.Finish locked updates missing) n (w.nodes n) k.node (still_at k) shut hearing
  block_heard other operation name rows k is bar last shut told hearing = hearing_same old (posts_after w k) came came w.coord.operation other n (w.nodes n) k.node (still_at k) tt hearing

  block_moves : (operation : ℕ) (name : List ℕ) → item.message ≡ message.Block operation name → All (λ (l : Letter). Fits l.message) (served_as (block_service (w.nodes n) operation name) item.number).sent
      → IsMoving config (After config w n (served_as (block_service (w.nodes n) operation name) item.number)) came
  unfolding without_item blocking
  block_moves operation name is fit =
      let node = w.nodes n in
      let k = served_as (block_service node operation name) item.number in
      let rows = rows_named node.rows name in
      let told : IsFresh (posts_after w k) came (Node 255) (message.Blocked operation n rows) =
      subst (λ j. IsFresh (posts_after w k) came (Node 255) (message.Blocked operation j rows)) (s.placed n).number
      (letter_fresh w.envelopes came (length w.commits) k.sent (letter Coord (Here 0) (blocked_of node.rows node.number operation name)) m.past (inl refl)) in
      served_moves config w came n (message.Block operation name) k there m fit (tt, tt) (λ i f q same. absurd (cc)) (left_of (message.Block operation name) is)
      (λ P none each. each) left_servable (m.holders n)
      (block_heard w.coord.stage operation name rows k (order_queued (message.Block operation name) is refl) (s.good.bars.stands n there) refl refl told)

  -- ---- what asks for a part of a listing

  -- its client is there, since the call was sent
  client_there : (id : CallId) (version dir : ℕ) → item.message ≡ message.ListAsk id version dir → IsTrue (is_lane config id.client)
  client_there id version dir is =
      let sent = each_in _ (w.nodes n).items item (s.items n) found.1 in
      let posted : IsPosted old sent.0 (Node n) sent.1.0 (message.ListAsk id version dir) = subst (IsPosted old sent.0 (Node n) sent.1.0) is sent.1.1 in
      let x = s.good.knowing.asks sent.0 sent.1.0 n id version dir posted in
      let some : 0 < id.seq = x.2 in
      sent_lane config (view_of config w h) id.client s.good
      (⊎_elim
      (λ older. ⊎_elim (λ less. let z : id.seq < (w.clients id.client).seq = less in omega arith) (λ y. let z : id.seq ≡ (w.clients id.client).seq = y.0 in omega arith) older)
      (λ listed. let z : id.seq ≡ (w.clients id.client).seq = listed.0.0 in omega arith)
      x.1)

  list_moves : (id : CallId) (version dir : ℕ) → item.message ≡ message.ListAsk id version dir → All (λ (l : Letter). Fits l.message) (served_as (list_service (w.nodes n) id version dir) item.number).sent
      → IsMoving config (After config w n (served_as (list_service (w.nodes n) id version dir) item.number)) came
  unfolding without_item
  list_moves id version dir is fit =
      let node = w.nodes n in
      let k = served_as (list_service node id version dir) item.number in
      served_moves config w came n (message.ListAsk id version dir) k there m fit (client_there id version dir is, tt) (λ i f q same. absurd (cc)) (left_of (message.ListAsk id version dir) is)
      (λ P none each. each) left_servable (m.holders n)
      (hearing_kept old (posts_after w k) came came w.coord.operation w.coord.stage n node k.node (still_at k) refl refl refl)

  -- ---- by the kind of the item

  kind_moves : (kind : Message) → item.message ≡ kind → can_serve (w.nodes n) kind ≡ true → All (λ (l : Letter). Fits l.message) (served_as (service_of (w.nodes n) kind) item.number).sent
      → IsMoving config (After config w n (served_as (service_of (w.nodes n) kind) item.number)) came
  kind_moves (message.FetchAsk asker fetch key) is can fit = asked_moves asker fetch key is can fit
  kind_moves (message.Lock operation keys) is can fit = lock_moves operation keys is fit
  kind_moves (message.Block operation name) is can fit = block_moves operation name is fit
  kind_moves (message.ListAsk id version dir) is can fit = list_moves id version dir is fit
  kind_moves other is can fit = absurd (cc)

  pub serve_moves : can_serve (w.nodes n) item.message ≡ true → All (λ (l : Letter). Fits l.message) (served (w.nodes n) item).sent → IsMoving config (After config w n (served (w.nodes n) item)) came
  unfolding served
  serve_moves can fit = kind_moves item.message refl can fit
