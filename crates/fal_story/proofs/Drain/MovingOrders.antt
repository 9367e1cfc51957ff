-- A cluster goes on when an order of the coordinator comes to a node.
use Rattle.std.proofs.Common.{◌≡◌, inl, inr, ⊎_elim, ℕ, ◌<◌, ◌≤◌, nat_lt, Bool, true, false, cond, List, [], ◌∷◌, length, Option, Some, None, Ok, refl, sym, ap, subst, ◌∙◌, arith}
use Rattle.std.specs.Prelude.{◌==◌}
use Rattle.std.specs.List.{All}
use Rattle.std.specs.Result.{result_ok}
use Rattle.std.proofs.lemmas.Bool.Decides.{nat_tests}
use Rattle.fal_base.specs.declared.call.Config.{Config}
use Rattle.fal_base.specs.declared.event.Actor.TheVariants.{Node, Coord}
use Rattle.fal_base.specs.declared.event.Envelope.{Envelope}
use Rattle.fal_base.specs.declared.event.Point.TheVariants.{Here}
use Rattle.fal_base.specs.declared.key.Key.{Key}
use Rattle.fal_base.specs.declared.row.Update.{Update}
use Rattle.fal_base.specs.Tree.{names_under}
use Rattle.fal_coord.specs.declared.stage.Stage.{Stage}
use Rattle.fal_coord.specs.declared.stage.Stage.TheVariants as stage
use Rattle.fal_duty.specs.Duties.{owned, count_told}
use Rattle.fal_locks.specs.declared.holder.Shut.{Shut}
use Rattle.fal_locks.specs.Locks.{unless_of}
use Rattle.fal_node.specs.declared.item.Item.{Item}
use Rattle.fal_node.specs.Deliver.{with_operation, take_operation, take_count, take_commit, reopened}
use Rattle.fal_node.specs.Letters.{Work, begun}
use Rattle.fal_node.specs.State.{NodeState, is_of, with_item}
use Rattle.fal_place.specs.Placement.{Placement}
use Rattle.fal_wire.specs.declared.letter.Letter.{Letter}
use Rattle.fal_wire.specs.declared.message.Found.{Found}
use Rattle.fal_wire.specs.declared.message.Message.{Message}
use Rattle.fal_wire.specs.declared.message.Message.TheVariants as message
use Rattle.fal_wire.specs.Letters.{letter}
use Rattle.fal_wire.specs.Messages.{Fits, reading}
use Rattle.fal_story.proofs.Drain.Fresh.{IsFresh, fresh_more, fresh_comes}
use Rattle.fal_story.proofs.Drain.Hearing.{After}
use Rattle.fal_story.proofs.Drain.Moving.{IsMoving, IsServable, posts_after}
use Rattle.fal_story.proofs.Drain.MovingDeliver.{IsComing, post_at, came_past, comes_hearing, no_seat, order_moves, same_client, same_node}
use Rattle.fal_story.proofs.Drain.Sent.{letter_fresh}
use Rattle.fal_story.proofs.Drain.Staged.{IsHearing, IsOrder, IsOrderAt, IsOrderedBy, IsSame, answer_ordered, hearing_by, same_by}
use Rattle.fal_story.proofs.Events.Doing.{work_of}
use Rattle.fal_story.proofs.Events.InStep.{letter_posts}
use Rattle.fal_story.proofs.Events.Shows.{Ghost, Shows, post_of, posts_of, before_in}
use Rattle.fal_story.proofs.Families.Operation.{Stands}
use Rattle.fal_story.proofs.Lists.Each.{each_join}
use Rattle.fal_story.proofs.Lists.Members.{in_front, same_number}
use Rattle.fal_story.proofs.View.{Post, seat}
use Rattle.fal_story.specs.World.{World, put}

module _ (config : Config) (w : World) (came : ℕ → Bool) (n e : ℕ) (x : Envelope) (there : n < config.nodes) (m : IsMoving config w came) (c : IsComing w n e x) where
  abbrev old : List Post
  old = posts_of w.envelopes

  abbrev later : ℕ → Bool
  later = put came e true

  -- what is on the way to the node is so still, or it is what came
  pub to_node : (k : Work) (order y : Message) → reading x.bytes ≡ Ok order → IsFresh old came (Node n) y → (order ≡ y → ⊥) → IsFresh (posts_after w k) later (Node n) y
  to_node k order y read f other =
      fresh_more old (letter_posts (length w.commits) k.sent) later (Node n) y
      (fresh_comes old came e (post_of x) (Node n) y (IsFresh old later (Node n) y) (post_at w.envelopes e x c.at) (λ still. still)
      (λ p z. absurd (other (same_client order y (sym (ap result_ok read) ∙ ap (λ (q : Post). q.message) z)))) f)

  pub to_coord : (k : Work) (y : Message) → IsOrderedBy n y → IsFresh old came (Node 255) y → IsFresh (posts_after w k) later (Node 255) y
  to_coord k y is f =
      fresh_more old (letter_posts (length w.commits) k.sent) later (Node 255) y
      (fresh_comes old came e (post_of x) (Node 255) y (IsFresh old later (Node 255) y) (post_at w.envelopes e x c.at) (λ still. still)
      (λ p z. absurd (no_seat config w came n there m (sym (same_node 255 n (sym (ap (λ (q : Post). q.to) z) ∙ ap seat c.to))))) f)

  pub no_ask : (order : Message) → IsOrder order → reading x.bytes ≡ Ok order → (i f : ℕ) (key : Key) → result_ok (reading x.bytes) ≡ Some (message.FetchAsk i f key) → ⊥
  no_ask order is read i f key z = subst IsOrder (same_client order (message.FetchAsk i f key) (sym (ap result_ok read) ∙ z)) is

  pub no_got : (order : Message) → IsOrder order → reading x.bytes ≡ Ok order → (f : ℕ) (key : Key) (what : Found) → result_ok (reading x.bytes) ≡ Some (message.FetchGot f key what) → ⊥
  no_got order is read f key what z = subst IsOrder (same_client order (message.FetchGot f key what) (sym (ap result_ok read) ∙ z)) is

  -- the order that comes is none that the stage waits for to come
  pub unasked_hearing : (s : Stage) (number : ℕ) (k : Work) (order : Message) → reading x.bytes ≡ Ok order → (IsOrderAt s number k.node order → ⊥) → IsSame s number (w.nodes n) k.node → IsHearing old came number s n (w.nodes n)
      → IsHearing (posts_after w k) later number s n k.node
  unasked_hearing s number k order read none same h =
      hearing_by old (posts_after w k) came later number s n (w.nodes n) k.node
      (λ y asked f. to_node k order y read f (λ is. none (subst (IsOrderAt s number k.node) (sym is) asked)))
      (λ y answers f. to_coord k y (answer_ordered s number n y answers) f) same h

  pub still_same : (s : Stage) (number : ℕ) → IsSame s number (w.nodes n) (w.nodes n)
  still_same s number = same_by s number (w.nodes n) (w.nodes n) refl (λ low. low) refl

  -- ---- a Lock or a Block

  -- an order that is kept, to be served later
  operation_comes : (operation : ℕ) (order : Message) → reading x.bytes ≡ Ok order → IsOrder order → IsServable order
      → ((s : Stage) (number : ℕ) (y : NodeState) → IsOrderAt s number y order → (y.last_operation < number) × (operation ≡ number))
      → IsMoving config (After config w n (begun (take_operation (w.nodes n) operation order))) later
  unfolding with_operation with_item
  operation_comes operation order read is can at_order =
      let node = w.nodes n in
      let s = w.coord.stage in
      let number = w.coord.operation in
      elim (nat_lt node.last_operation operation) as (λ b. nat_lt node.last_operation operation ≡ b → IsMoving config (After config w n (begun (cond b (with_operation node operation order) node))) later) [
        | true ↦ λ newer.
            let k = begun (with_operation node operation order) in
            let item : Item = record { number = node.items_numbered; message = order } in
            let below : node.last_operation < operation = grind (arith, nat_tests) in
            order_moves config w came n e x k there m c (no_ask order is read) (no_got order is read) (λ i y lt. absurd (omega arith)) tt
            (λ y at. in_front node.items (item ∷ []) y at) (each_join (λ (i : Item). IsServable i.message) node.items (item ∷ []) (m.servable n) (can, tt)) (λ posts late items h. h) (m.holders n)
            (comes_hearing w came n e x k (no_seat config w came n there m) c
            (unasked_hearing s number k order read (λ asked. let both = at_order s number k.node asked in let low = both.0 in let own = both.1 in omega arith)
            (same_by s number node k.node refl (λ low. omega arith) refl)))
        | false ↦ λ older.
            let past : operation ≤ node.last_operation = grind (arith, nat_tests) in
            order_moves config w came n e x (begun node) there m c (no_ask order is read) (no_got order is read) (λ i y lt. absurd (omega arith)) tt
            (λ y at. at) (m.servable n) (λ posts late items h. h) (m.holders n)
            (comes_hearing w came n e x (begun node) (no_seat config w came n there m) c
            (unasked_hearing s number (begun node) order read (λ asked. let both = at_order s number node asked in let low = both.0 in let own = both.1 in omega arith) (still_same s number)))
      ] refl

  pub lock_comes : (operation : ℕ) (keys : List Key) → reading x.bytes ≡ Ok (message.Lock operation keys) → IsMoving config (After config w n (begun (take_operation (w.nodes n) operation (message.Lock operation keys)))) later
  lock_comes operation keys read = operation_comes operation (message.Lock operation keys) read tt tt at_lock
    where
      at_lock : (s : Stage) (number : ℕ) (y : NodeState) → IsOrderAt s number y (message.Lock operation keys) → (y.last_operation < number) × (operation ≡ number)
      at_lock (stage.Lock o missing rows) number y is = is
      at_lock other number y is = absurd is

  pub block_comes : (operation : ℕ) (name : List ℕ) → reading x.bytes ≡ Ok (message.Block operation name) → IsMoving config (After config w n (begun (take_operation (w.nodes n) operation (message.Block operation name)))) later
  block_comes operation name read = operation_comes operation (message.Block operation name) read tt tt at_block
    where
      at_block : (s : Stage) (number : ℕ) (y : NodeState) → IsOrderAt s number y (message.Block operation name) → (y.last_operation < number) × (operation ≡ number)
      at_block (stage.Block call missing rows) number y is = is
      at_block other number y is = absurd is

  -- ---- a Count

  -- where the node has shut the keys of the operation, its answer goes out
  count_hearing : (table before : Placement) (s : Stage) (number operation dir : ℕ) (queued : Option Message) (due : List Update) (k : Work) → Stands table number (work_of before s) n (w.nodes n).locks.shut queued (w.nodes n).last_operation due
      → reading x.bytes ≡ Ok (message.Count operation dir) → k.node ≡ w.nodes n
      → (is_of (w.nodes n).locks.shut operation ≡ true → (count : ℕ) × IsFresh (posts_after w k) later (Node 255) (message.Counted operation n count))
      → IsHearing old came number s n (w.nodes n) → IsHearing (posts_after w k) later number s n k.node
  count_hearing table before (stage.Count o rows asked updates missing counts) number operation dir queued due k stands read same told h =
      ⊎_elim
      (λ f. elim (operation == number) as (λ b. (operation == number) ≡ b → IsHearing (posts_after w k) later number (stage.Count o rows asked updates missing counts) n k.node) [
        | true ↦ λ is.
            let this = same_number operation number is in
            let answer = told (ap (λ s. is_of s operation) stands.1.0 ∙ ap (λ i. number == i) this ∙ itself number) in
            inr (answer.0, subst (λ i. IsFresh (posts_after w k) later (Node 255) (message.Counted i n answer.0)) this answer.1)
        | false ↦ λ is. inl (to_node k (message.Count operation dir) (message.Count number asked) read f (λ e. let number_is : operation ≡ number = cc in let wrong : (operation == number) ≡ true = ap (λ i. i == number) number_is ∙ itself number in absurd (cc)))
      ] refl)
      (λ heard. inr (heard.0, to_coord k (message.Counted number n heard.0) refl heard.1)) h
    where
      itself : (i : ℕ) → (i == i) ≡ true
      itself i = grind (arith, nat_tests)
  count_hearing table before other number operation dir queued due k stands read same told h =
      unasked_hearing other number k (message.Count operation dir) read (λ asked. asked) (same_by other number (w.nodes n) k.node (ap (λ (y : NodeState). y.locks.shut) same)
      (λ low. subst (λ (y : NodeState). y.last_operation < number) same low) (ap (λ (y : NodeState). y.blocked) same)) h

  pub count_comes : (h : Ghost) (operation dir : ℕ) → Shows config w h → reading x.bytes ≡ Ok (message.Count operation dir) → All (λ (l : Letter). Fits l.message) (take_count (w.nodes n) operation dir).sent
      → IsMoving config (After config w n (take_count (w.nodes n) operation dir)) later
  count_comes h operation dir s read fit =
      let node = w.nodes n in
      let order = message.Count operation dir in
      let told = letter Coord (Here 0) (count_told node.rows node.number operation dir) in
      let k : Work = record (begun node) { sent = told ∷ [] } in
      elim (is_of node.locks.shut operation) as (λ b. is_of node.locks.shut operation ≡ b → All (λ (l : Letter). Fits l.message) (cond b k (begun node)).sent → IsMoving config (After config w n (cond b k (begun node))) later) [
        | true ↦ λ is fit.
            let sent = letter_fresh w.envelopes later (length w.commits) k.sent told (came_past w.envelopes e x came c.at m.past) (inl refl) in
            order_moves config w came n e x k there m c (no_ask order tt read) (no_got order tt read) fit (tt, tt) (λ y at. at) (m.servable n) (λ posts late items h. h) (m.holders n)
            (comes_hearing w came n e x k (no_seat config w came n there m) c
            (count_hearing w.coord.table (before_in config h) w.coord.stage w.coord.operation operation dir (h.queued n) (h.due n) k (s.good.operation.stands n there) read refl
            (λ _. (length (names_under node.rows dir), subst (λ i. IsFresh (posts_after w k) later (Node 255) (message.Counted operation i (length (names_under node.rows dir)))) (s.placed n).number sent))))
        | false ↦ λ is fit.
            order_moves config w came n e x (begun node) there m c (no_ask order tt read) (no_got order tt read) fit tt (λ y at. at) (m.servable n) (λ posts late items h. h) (m.holders n)
            (comes_hearing w came n e x (begun node) (no_seat config w came n there m) c
            (count_hearing w.coord.table (before_in config h) w.coord.stage w.coord.operation operation dir (h.queued n) (h.due n) (begun node) (s.good.operation.stands n there) read refl (λ yes. absurd (cc))))
      ] refl fit

  -- ---- a Commit

  -- the keys are opened, and the answer goes out
  opened_hearing : (table before : Placement) (s : Stage) (number operation : ℕ) (made : List Update) (queued : Option Message) (due : List Update) (k : Work)
      → Stands table number (work_of before s) n (w.nodes n).locks.shut queued (w.nodes n).last_operation due → reading x.bytes ≡ Ok (message.Commit operation made) → is_of (w.nodes n).locks.shut operation ≡ true
      → k.node.locks.shut ≡ None → k.node.last_operation ≡ (w.nodes n).last_operation → k.node.blocked ≡ (w.nodes n).blocked → IsFresh (posts_after w k) later (Node 255) (message.Done operation n)
      → IsHearing old came number s n (w.nodes n) → IsHearing (posts_after w k) later number s n k.node
  opened_hearing table before (stage.Finish locked updates missing) number operation made queued due k stands read is opened last blocked told h =
      let this : operation ≡ number =
      ⊎_elim
      (λ closed. sym (same_number number operation (sym (ap (λ t. is_of t operation) closed.2.0) ∙ is)))
      (λ free. let wrong : false ≡ true = sym (ap (λ t. is_of t operation) free.1) ∙ is in absurd (cc))
      stands in
      record {
        shut = λ some. absurd (some opened);
        freed = λ none. subst (λ i. IsFresh (posts_after w k) later (Node 255) (message.Done i n)) this told;
      }
  opened_hearing table before (stage.Lock o missing rows) number operation made queued due k stands read is opened last blocked told h =
      unasked_hearing (stage.Lock o missing rows) number k (message.Commit operation made) read (λ asked. asked) ((λ low. subst (λ (i : ℕ). i < number) last low), (λ some. absurd (some opened))) h
  opened_hearing table before (stage.Block call missing rows) number operation made queued due k stands read is opened last blocked told h =
      unasked_hearing (stage.Block call missing rows) number k (message.Commit operation made) read (λ asked. asked) ((λ low. subst (λ (i : ℕ). i < number) last low), (λ some none. some (blocked ∙ none))) h
  opened_hearing table before (stage.Install call missing) number operation made queued due k stands read is opened last blocked told h =
      unasked_hearing (stage.Install call missing) number k (message.Commit operation made) read (λ asked. asked) blocked h
  opened_hearing table before other number operation made queued due k stands read is opened last blocked told h =
      unasked_hearing other number k (message.Commit operation made) read (λ asked. asked) tt h

  -- it is not the operation's Commit that comes to a node that has shut keys of no such operation
  closed_hearing : (table before : Placement) (s : Stage) (number operation : ℕ) (made : List Update) (queued : Option Message) (due : List Update)
      → Stands table number (work_of before s) n (w.nodes n).locks.shut queued (w.nodes n).last_operation due → reading x.bytes ≡ Ok (message.Commit operation made) → is_of (w.nodes n).locks.shut operation ≡ false
      → IsHearing old came number s n (w.nodes n) → IsHearing (posts_after w (begun (w.nodes n))) later number s n (w.nodes n)
  closed_hearing table before s number operation made queued due stands read off h =
      unasked_hearing s number (begun (w.nodes n)) (message.Commit operation made) read (λ asked. not_shut s stands asked) (still_same s number) h
    where
      itself : (i : ℕ) → (i == i) ≡ true
      itself i = grind (arith, nat_tests)

      not_shut : (t : Stage) → Stands table number (work_of before t) n (w.nodes n).locks.shut queued (w.nodes n).last_operation due → IsOrderAt t number (w.nodes n) (message.Commit operation made) → ⊥
      not_shut (stage.Finish locked updates missing) stands asked =
          ⊎_elim
          (λ closed. let wrong : true ≡ false = sym (itself operation) ∙ ap (λ i. i == operation) asked.1 ∙ sym (ap (λ t. is_of t operation) closed.2.0) ∙ off in absurd (cc))
          (λ free. asked.0 free.1)
          stands
      not_shut other stands asked = asked

  none_after : (o : Option Shut) (operation : ℕ) → is_of o operation ≡ true → unless_of operation o ≡ None
  none_after None operation is = refl
  none_after (Some shut) operation is = ap (λ b. cond b None (Some shut)) is

  pub commit_comes : (h : Ghost) (operation : ℕ) (made : List Update) → Shows config w h → reading x.bytes ≡ Ok (message.Commit operation made) → All (λ (l : Letter). Fits l.message) (take_commit (w.nodes n) operation made).sent
      → IsMoving config (After config w n (take_commit (w.nodes n) operation made)) later
  unfolding reopened
  commit_comes h operation made s read fit =
      let node = w.nodes n in
      let order = message.Commit operation made in
      let told = letter Coord (Here 0) (message.Done operation node.number) in
      let k : Work = record { node = reopened node operation (owned node.table node.number made); sent = told ∷ []; notes = [] } in
      elim (is_of node.locks.shut operation) as (λ b. is_of node.locks.shut operation ≡ b → All (λ (l : Letter). Fits l.message) (cond b k (begun node)).sent → IsMoving config (After config w n (cond b k (begun node))) later) [
        | true ↦ λ is fit.
            let sent = letter_fresh w.envelopes later (length w.commits) k.sent told (came_past w.envelopes e x came c.at m.past) (inl refl) in
            order_moves config w came n e x k there m c (no_ask order tt read) (no_got order tt read) fit (tt, tt) (λ y at. at) (m.servable n) (λ posts late items h. h) (m.holders n)
            (comes_hearing w came n e x k (no_seat config w came n there m) c
            (opened_hearing w.coord.table (before_in config h) w.coord.stage w.coord.operation operation made (h.queued n) (h.due n) k (s.good.operation.stands n there) read is (none_after node.locks.shut operation is) refl refl
            (subst (λ i. IsFresh (posts_after w k) later (Node 255) (message.Done operation i)) (s.placed n).number sent)))
        | false ↦ λ is fit.
            order_moves config w came n e x (begun node) there m c (no_ask order tt read) (no_got order tt read) fit tt (λ y at. at) (m.servable n) (λ posts late items h. h) (m.holders n)
            (comes_hearing w came n e x (begun node) (no_seat config w came n there m) c
            (closed_hearing w.coord.table (before_in config h) w.coord.stage w.coord.operation operation made (h.queued n) (h.due n) (s.good.operation.stands n there) read is))
      ] refl fit
