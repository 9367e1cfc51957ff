-- A cluster goes on when a record comes to a node.
use Rattle.std.proofs.Common.{◌≡◌, ◌≢◌, ⊎_elim, ℕ, zero, suc, ◌<◌, Bool, true, false, not, cond, List, [], ◌∷◌, length, Option, Some, None, Ok, is_some, refl, sym, ap, subst, ◌∙◌, arith}
use Rattle.std.specs.Prelude.{slice_get, ◌==◌}
use Rattle.std.specs.List.{All}
use Rattle.std.specs.Option.{option_map}
use Rattle.std.specs.Result.{result_ok}
use Rattle.fal_base.specs.declared.call.CallId.{CallId}
use Rattle.fal_base.specs.declared.call.CallRec.{CallRec}
use Rattle.fal_base.specs.declared.call.Config.{Config}
use Rattle.fal_base.specs.declared.event.Actor.TheVariants.{Node}
use Rattle.fal_base.specs.declared.event.Envelope.{Envelope}
use Rattle.fal_base.specs.declared.key.Key.{Key}
use Rattle.fal_exec.specs.RowCall.{row_names}
use Rattle.fal_locks.specs.Locks.{LockTable}
use Rattle.fal_wire.specs.declared.letter.Letter.{Letter}
use Rattle.fal_node.specs.declared.item.Item.{Item}
use Rattle.fal_node.specs.Deliver.{admitted, take_call}
use Rattle.fal_node.specs.Letters.{Work, begun}
use Rattle.fal_node.specs.State.{NodeState, with_item}
use Rattle.fal_wait.specs.declared.waiting_call.WaitingCall.{WaitingCall}
use Rattle.fal_wait.specs.Waiting.{WaitList, after_admit, with_call, is_new, off_fetch, waits_on}
use Rattle.fal_wire.specs.declared.message.Found.{Found}
use Rattle.fal_wire.specs.declared.message.Message.{Message}
use Rattle.fal_wire.specs.declared.message.Message.TheVariants as message
use Rattle.fal_wire.specs.Messages.{Fits, reading}
use Rattle.fal_story.proofs.Drain.Actors.{IsActor}
use Rattle.fal_story.proofs.Drain.Fresh.{IsFresh, fresh_comes}
use Rattle.fal_story.proofs.Drain.Moving.{IsMoving, IsServable, AreServable, AreOfBatches, StaysHearing, IsPast, items_in, posts_after, items_after, node_moves, holders_same}
use Rattle.fal_story.proofs.Drain.Hearing.{After}
use Rattle.fal_story.proofs.Drain.OnWay.{IsOnWay, Keeps, AreOnWay, items_stay, way_more, way_comes}
use Rattle.fal_story.proofs.Drain.Staged.{IsHearing, IsOrder, AreFreshStill, hearing_kept, still_more}
use Rattle.fal_story.proofs.Events.InStep.{letter_posts}
use Rattle.fal_story.proofs.Events.Shows.{post_of, posts_of}
use Rattle.fal_story.proofs.Lists.Each.{Each, each_weaker, each_join}
use Rattle.fal_story.proofs.Lists.Grown.{tells, put_all, put_same, put_other, slice_get_below}
use Rattle.fal_story.proofs.Lists.Joined.{in_last}
use Rattle.fal_story.proofs.Lists.Members.{IsIn, in_front}
use Rattle.fal_story.proofs.View.{Post, seat}
use Rattle.fal_story.specs.World.{World, put}

-- the post of an envelope that was sent
pub post_at : (xs : List Envelope) (e : ℕ) (x : Envelope) → slice_get xs e ≡ Some x → slice_get (posts_of xs) e ≡ Some (post_of x)
post_at [] e x at = absurd (cc)
post_at (y ∷ ys) zero x at = ap (λ o. option_map post_of o) at
post_at (y ∷ ys) (suc e) x at = post_at ys e x at

pub came_past : (xs : List Envelope) (e : ℕ) (x : Envelope) (came : ℕ → Bool) → slice_get xs e ≡ Some x → IsPast (length xs) came → IsPast (length xs) (put came e true)
came_past xs e x came at h k high = let below = slice_get_below xs e x at in put_other came e true k (λ z. absurd (omega arith)) ∙ h k high

message_of : (x : Envelope) (y : Post) (m : Message) → reading x.bytes ≡ Ok m → post_of x ≡ y → Some m ≡ y.message
message_of x y m read e = sym (ap result_ok read) ∙ ap (λ (z : Post). z.message) e

pub same_client : (a b : Message) → Some a ≡ Some b → a ≡ b
same_client a b e = cc

pub same_node : (a b : ℕ) → Node a ≡ Node b → a ≡ b
same_node a b e = cc

-- an envelope to this node comes
pub record IsComing (w : World) (n e : ℕ) (x : Envelope) : Type 0 where
  pub at : slice_get w.envelopes e ≡ Some x
  pub to : x.to ≡ Node n

-- what is on the way for the coordinator is so still where a record comes to a node, but of its own order
pub comes_fresh : (w : World) (came : ℕ → Bool) (n e i : ℕ) (x : Envelope) → n ≢ 255 → IsComing w n e x → ((m : Message) → IsOrder m → i ≡ n → result_ok (reading x.bytes) ≡ Some m → ⊥)
    → AreFreshStill (posts_of w.envelopes) (posts_of w.envelopes) came (put came e true) i
comes_fresh w came n e i x other c none = record {
  to = λ m is at. fresh_comes (posts_of w.envelopes) came e (post_of x) (Node i) m (IsFresh (posts_of w.envelopes) (put came e true) (Node i) m) (post_at w.envelopes e x c.at) (λ still. still)
      (λ p z. absurd (none m is (same_node i n (sym (ap (λ (y : Post). y.to) z) ∙ ap seat c.to)) (ap (λ (y : Post). y.message) z))) at;
  back = λ m is at. fresh_comes (posts_of w.envelopes) came e (post_of x) (Node 255) m (IsFresh (posts_of w.envelopes) (put came e true) (Node 255) m) (post_at w.envelopes e x c.at) (λ still. still)
      (λ p z. absurd (other (sym (same_node 255 n (sym (ap (λ (y : Post). y.to) z) ∙ ap seat c.to))))) at;
}

pub comes_hearing : (w : World) (came : ℕ → Bool) (n e : ℕ) (x : Envelope) (k : Work) → n ≢ 255 → IsComing w n e x
    → (IsHearing (posts_of w.envelopes) came w.coord.operation w.coord.stage n (w.nodes n) → IsHearing (posts_after w k) (put came e true) w.coord.operation w.coord.stage n k.node)
    → StaysHearing w came (put came e true) n k
comes_hearing w came n e x k other c here m =
    let old = posts_of w.envelopes in
    let later = put came e true in
    put_all (λ i y. IsHearing old came w.coord.operation w.coord.stage i (w.nodes i) → IsHearing (posts_after w k) later w.coord.operation w.coord.stage i y) w.nodes n k.node here
    (λ i apart. hearing_kept old (posts_after w k) came later w.coord.operation w.coord.stage i (w.nodes i) (w.nodes i)
    (still_more old old (letter_posts (length w.commits) k.sent) came later i (comes_fresh w came n e i x other c (λ y is same read. apart same))) refl refl refl) m

-- the record is no order
abbrev pub IsNoOrder : Envelope → Type 0
IsNoOrder x = (m : Message) → IsOrder m → result_ok (reading x.bytes) ≡ Some m → ⊥

pub plain_hearing : (w : World) (came : ℕ → Bool) (n e : ℕ) (x : Envelope) (k : Work) → n ≢ 255 → IsComing w n e x → IsNoOrder x → k.node.locks.shut ≡ (w.nodes n).locks.shut → k.node.last_operation ≡ (w.nodes n).last_operation
    → k.node.blocked ≡ (w.nodes n).blocked → StaysHearing w came (put came e true) n k
plain_hearing w came n e x k other c none shut last blocked =
    let old = posts_of w.envelopes in
    comes_hearing w came n e x k other c
    (hearing_kept old (posts_after w k) came (put came e true) w.coord.operation w.coord.stage n (w.nodes n) k.node
    (still_more old old (letter_posts (length w.commits) k.sent) came (put came e true) n (comes_fresh w came n e n x other c (λ y is same read. none y is read))) shut last blocked)

-- a node is no seat
pub no_seat : (config : Config) (w : World) (came : ℕ → Bool) (n : ℕ) → n < config.nodes → IsMoving config w came → n ≢ 255
no_seat config w came n there m same = let few = m.few in omega arith

-- a record that is no question and no answer: what is on the way stays so
other_ways : (w : World) (came : ℕ → Bool) (n e : ℕ) (x : Envelope) (k : Work) → IsComing w n e x → ((i f : ℕ) (key : Key) → result_ok (reading x.bytes) ≡ Some (message.FetchAsk i f key) → ⊥)
    → ((f : ℕ) (key : Key) (what : Found) → result_ok (reading x.bytes) ≡ Some (message.FetchGot f key what) → ⊥) → ((item : Item) → IsIn item (w.nodes n).items → IsIn item k.node.items)
    → (m f : ℕ) → IsOnWay (posts_of w.envelopes) came (items_in w) m f → IsOnWay (posts_after w k) (put came e true) (items_after w n k) m f
other_ways w came n e x k c no_ask no_got kept m f o =
    way_more (posts_of w.envelopes) (letter_posts (length w.commits) k.sent) (put came e true) (items_in w) (items_after w n k) m f (items_stay w.nodes n k.node kept)
    (way_comes (posts_of w.envelopes) came (items_in w) e (post_of x) m f (IsOnWay (posts_of w.envelopes) (put came e true) (items_in w) m f) (post_at w.envelopes e x c.at)
    (λ still. still)
    (λ p to key is. absurd (no_ask m f key (ap (λ (z : Post). z.message) is)))
    (λ p key what is. absurd (no_got f key what (ap (λ (z : Post). z.message) is)))
    o)

-- no more calls wait on a fetch, and no item is gone
pub order_moves : (config : Config) (w : World) (came : ℕ → Bool) (n e : ℕ) (x : Envelope) (k : Work) → n < config.nodes → IsMoving config w came → IsComing w n e x
    → ((i f : ℕ) (key : Key) → result_ok (reading x.bytes) ≡ Some (message.FetchAsk i f key) → ⊥) → ((f : ℕ) (key : Key) (what : Found) → result_ok (reading x.bytes) ≡ Some (message.FetchGot f key what) → ⊥)
    → All (λ (l : Letter). Fits l.message) k.sent → Each (λ (l : Letter). IsActor config l.to) k.sent → ((item : Item) → IsIn item (w.nodes n).items → IsIn item k.node.items) → AreServable k.node.items
    → ((posts : List Post) (later : ℕ → Bool) (items : ℕ → List Item) → AreOnWay posts later items n (w.nodes n).waiting.calls → AreOnWay posts later items n k.node.waiting.calls)
    → AreOfBatches k.node → StaysHearing w came (put came e true) n k → IsMoving config (After config w n k) (put came e true)
order_moves config w came n e x k there m c no_ask no_got fit go kept servable calls holders hearing =
    let ways = other_ways w came n e x k c no_ask no_got kept in
    node_moves config w came (put came e true) n k there fit m (came_past w.envelopes e x came c.at m.past) go
    (calls (posts_after w k) (put came e true) (items_after w n k) (each_weaker _ _ (w.nodes n).waiting.calls (λ y h f is. ways n f (h f is)) (m.waits n)))
    (λ i f _ o. ways i f o) servable holders hearing

-- nothing is sent, and the record is no order
pub other_moves : (config : Config) (w : World) (came : ℕ → Bool) (n e : ℕ) (x : Envelope) (s : NodeState) → n < config.nodes → IsMoving config w came → IsComing w n e x
    → ((i f : ℕ) (key : Key) → result_ok (reading x.bytes) ≡ Some (message.FetchAsk i f key) → ⊥) → ((f : ℕ) (key : Key) (what : Found) → result_ok (reading x.bytes) ≡ Some (message.FetchGot f key what) → ⊥)
    → IsNoOrder x → s.items ≡ (w.nodes n).items → s.locks ≡ (w.nodes n).locks → s.last_operation ≡ (w.nodes n).last_operation → s.blocked ≡ (w.nodes n).blocked → s.batches ≡ (w.nodes n).batches
    → ((posts : List Post) (later : ℕ → Bool) (items : ℕ → List Item) → AreOnWay posts later items n (w.nodes n).waiting.calls → AreOnWay posts later items n s.waiting.calls)
    → IsMoving config (After config w n (begun s)) (put came e true)
other_moves config w came n e x s there m c no_ask no_got no_order items locks last blocked batches calls =
    order_moves config w came n e x (begun s) there m c no_ask no_got (λ i y lt. absurd (omega arith)) tt (λ item at. subst (IsIn item) (sym items) at) (subst AreServable (sym items) (m.servable n)) calls
    (holders_same (w.nodes n) s batches locks (m.holders n))
    (plain_hearing w came n e x (begun s) (no_seat config w came n there m) c no_order (ap (λ (t : LockTable). t.shut) locks) last blocked)

-- an order is read as one
pub same_kind : (m y : Message) → IsOrder y → Some m ≡ Some y → IsOrder m
same_kind m y is e = subst IsOrder (sym (same_client m y e)) is

-- ---- a call

admitted_calls : (posts : List Post) (came : ℕ → Bool) (items : ℕ → List Item) (n : ℕ) (list : WaitList) (call : CallRec) → AreOnWay posts came items n list.calls → AreOnWay posts came items n (after_admit list call).calls
unfolding with_call
admitted_calls posts came items n list call h =
    elim (is_new list call) as (λ b. AreOnWay posts came items n (cond b (with_call list call) list).calls) [
      | true ↦ each_join (λ (y : WaitingCall). (f : ℕ) → y.fetch ≡ Some f → IsOnWay posts came items n f) list.calls _ h ((λ f is. absurd (cc)), tt)
      | false ↦ h
    ]

pub call_moves : (config : Config) (w : World) (came : ℕ → Bool) (n e : ℕ) (x : Envelope) (call : CallRec) → n < config.nodes → IsMoving config w came → IsComing w n e x → reading x.bytes ≡ Ok (message.Call call)
    → IsMoving config (After config w n (begun (take_call (w.nodes n) call))) (put came e true)
unfolding admitted
call_moves config w came n e x call there m c read =
    let node = w.nodes n in
    let ask = λ (i f : ℕ) (key : Key) (is : result_ok (reading x.bytes) ≡ Some (message.FetchAsk i f key)). let z : Some (message.Call call) ≡ Some (message.FetchAsk i f key) = sym (ap result_ok read) ∙ is in absurd (cc) in
    let got = λ (f : ℕ) (key : Key) (what : Found) (is : result_ok (reading x.bytes) ≡ Some (message.FetchGot f key what)).
    let z : Some (message.Call call) ≡ Some (message.FetchGot f key what) = sym (ap result_ok read) ∙ is in absurd (cc) in
    let order = λ (y : Message) (is : IsOrder y) (z : result_ok (reading x.bytes) ≡ Some y). same_kind (message.Call call) y is (sym (ap result_ok read) ∙ z) in
    elim (is_some (row_names call.op)) as (λ b. IsMoving config (After config w n (begun (cond b (admitted node call) node))) (put came e true)) [
      | true ↦ other_moves config w came n e x (admitted node call) there m c ask got order refl refl refl refl refl (λ posts later items h. admitted_calls posts later items n node.waiting call h)
      | false ↦ other_moves config w came n e x node there m c ask got order refl refl refl refl refl (λ posts later items h. h)
    ]

-- ---- a question

pub ask_moves : (config : Config) (w : World) (came : ℕ → Bool) (n e asker number : ℕ) (key : Key) (x : Envelope) → n < config.nodes → IsMoving config w came → IsComing w n e x
    → reading x.bytes ≡ Ok (message.FetchAsk asker number key) → IsMoving config (After config w n (begun (with_item (w.nodes n) (message.FetchAsk asker number key)))) (put came e true)
unfolding with_item
ask_moves config w came n e asker number key x there m c read =
    let node = w.nodes n in
    let k = begun (with_item node (message.FetchAsk asker number key)) in
    let item : Item = record { number = node.items_numbered; message = message.FetchAsk asker number key } in
    let old = posts_of w.envelopes in
    let later = put came e true in
    let mine : IsIn item (items_after w n k n) = subst (λ (y : NodeState). IsIn item y.items) (sym (put_same w.nodes n k.node)) (in_last node.items item) in
    let ways = λ (i f : ℕ) (o : IsOnWay old came (items_in w) i f).
    way_comes old came (items_in w) e (post_of x) i f (IsOnWay (posts_after w k) later (items_after w n k) i f) (post_at w.envelopes e x c.at)
    (λ still. way_more old [] later (items_in w) (items_after w n k) i f (items_stay w.nodes n k.node (λ y there. in_front node.items (item ∷ []) y there)) still)
    (λ p to q is. let same = message_of x _ (message.FetchAsk asker number key) read is in Keeps n item q mine (same_client (message.FetchAsk asker number key) (message.FetchAsk i f q) same))
    (λ p q what is. let same : Some (message.FetchAsk asker number key) ≡ Some (message.FetchGot f q what) = message_of x _ (message.FetchAsk asker number key) read is in absurd (cc))
    o in
    node_moves config w came later n k there (λ i y lt. absurd (omega arith)) m (came_past w.envelopes e x came c.at m.past) tt
    (each_weaker _ _ node.waiting.calls (λ y h f is. ways n f (h f is)) (m.waits n))
    (λ i f _ o. ways i f o) (each_join (λ (i : Item). IsServable i.message) node.items (item ∷ []) (m.servable n) (tt, tt)) (m.holders n)
    (plain_hearing w came n e x k (no_seat config w came n there m) c (λ y is z. same_kind (message.FetchAsk asker number key) y is (sym (ap result_ok read) ∙ z)) refl refl refl)

-- ---- what asks for a part of a listing

pub list_comes : (config : Config) (w : World) (came : ℕ → Bool) (n e version dir : ℕ) (id : CallId) (x : Envelope) → n < config.nodes → IsMoving config w came → IsComing w n e x
    → reading x.bytes ≡ Ok (message.ListAsk id version dir) → IsMoving config (After config w n (begun (with_item (w.nodes n) (message.ListAsk id version dir)))) (put came e true)
unfolding with_item
list_comes config w came n e version dir id x there m c read =
    let node = w.nodes n in
    let k = begun (with_item node (message.ListAsk id version dir)) in
    let item : Item = record { number = node.items_numbered; message = message.ListAsk id version dir } in
    order_moves config w came n e x k there m c
    (λ i f key is. let z : Some (message.ListAsk id version dir) ≡ Some (message.FetchAsk i f key) = sym (ap result_ok read) ∙ is in absurd (cc))
    (λ f key what is. let z : Some (message.ListAsk id version dir) ≡ Some (message.FetchGot f key what) = sym (ap result_ok read) ∙ is in absurd (cc))
    (λ i y lt. absurd (omega arith)) tt (λ y at. in_front node.items (item ∷ []) y at) (each_join (λ (i : Item). IsServable i.message) node.items (item ∷ []) (m.servable n) (tt, tt))
    (λ posts later items h. h) (m.holders n)
    (plain_hearing w came n e x k (no_seat config w came n there m) c (λ y is z. same_kind (message.ListAsk id version dir) y is (sym (ap result_ok read) ∙ z)) refl refl refl)

-- ---- an answer

-- of all other fetches what is on the way stays so
got_ways : (w : World) (came : ℕ → Bool) (n e number : ℕ) (key : Key) (what : Found) (x : Envelope) (k : Work) → IsComing w n e x → reading x.bytes ≡ Ok (message.FetchGot number key what) → k.node.items ≡ (w.nodes n).items
    → (m f : ℕ) → (m ≡ n → f ≡ number → ⊥) → IsOnWay (posts_of w.envelopes) came (items_in w) m f → IsOnWay (posts_after w k) (put came e true) (items_after w n k) m f
got_ways w came n e number key what x k c read items m f other o =
    way_more (posts_of w.envelopes) (letter_posts (length w.commits) k.sent) (put came e true) (items_in w) (items_after w n k) m f (items_stay w.nodes n k.node (λ item there. subst (IsIn item) (sym items) there))
    (way_comes (posts_of w.envelopes) came (items_in w) e (post_of x) m f (IsOnWay (posts_of w.envelopes) (put came e true) (items_in w) m f) (post_at w.envelopes e x c.at)
    (λ still. still)
    (λ p to q is. let same : Some (message.FetchGot number key what) ≡ Some (message.FetchAsk m f q) = message_of x _ (message.FetchGot number key what) read is in absurd (cc))
    (λ p q found is.
    let same : Some (message.FetchGot number key what) ≡ Some (message.FetchGot f q found) = message_of x _ (message.FetchGot number key what) read is in
    let fetch : f ≡ number = cc in
    absurd (other (same_node m n (sym (ap (λ (z : Post). z.to) is) ∙ ap seat c.to)) fetch))
    o)

-- the letters go to actors that are there, and the calls that still wait on a fetch wait on another one
pub got_moves : (config : Config) (w : World) (came : ℕ → Bool) (n e number : ℕ) (key : Key) (what : Found) (x : Envelope) (k : Work) → n < config.nodes → IsMoving config w came → IsComing w n e x
    → reading x.bytes ≡ Ok (message.FetchGot number key what) → All (λ (l : Letter). Fits l.message) k.sent → Each (λ (l : Letter). IsActor config l.to) k.sent → k.node.items ≡ (w.nodes n).items
    → ((P : ℕ → Type 0) → Each (λ (y : WaitingCall). (f : ℕ) → y.fetch ≡ Some f → f ≢ number → P f) (w.nodes n).waiting.calls → Each (λ (y : WaitingCall). (f : ℕ) → y.fetch ≡ Some f → P f) k.node.waiting.calls)
    → k.node.locks ≡ (w.nodes n).locks → k.node.last_operation ≡ (w.nodes n).last_operation → k.node.blocked ≡ (w.nodes n).blocked → k.node.batches ≡ (w.nodes n).batches
    → IsMoving config (After config w n k) (put came e true)
got_moves config w came n e number key what x k there m c read fit go items calls locks last blocked batches =
    let ways = got_ways w came n e number key what x k c read items in
    node_moves config w came (put came e true) n k there fit m (came_past w.envelopes e x came c.at m.past) go
    (calls (λ f. IsOnWay (posts_after w k) (put came e true) (items_after w n k) n f) (each_weaker _ _ (w.nodes n).waiting.calls (λ y h f is ne. ways n f (λ _ same. ne same) (h f is)) (m.waits n)))
    (λ i f ne o. ways i f (λ same _. ne same) o) (subst AreServable (sym items) (m.servable n)) (holders_same (w.nodes n) k.node batches locks (m.holders n))
    (plain_hearing w came n e x k (no_seat config w came n there m) c (λ y is z. same_kind (message.FetchGot number key what) y is (sym (ap result_ok read) ∙ z)) (ap (λ (t : LockTable). t.shut) locks) last blocked)

-- a call that was taken off the fetch waits on another one, or on none
pub off_other : (number : ℕ) (y : WaitingCall) (P : ℕ → Type 0) → ((f : ℕ) → y.fetch ≡ Some f → f ≢ number → P f) → (f : ℕ) → (off_fetch number y).fetch ≡ Some f → P f
off_other number y P h f =
    elim (waits_on number y.fetch) as (λ b. waits_on number y.fetch ≡ b → (cond b (record y { fetch = None }) y).fetch ≡ Some f → P f) [
      | true ↦ λ on is. absurd (cc)
      | false ↦ λ on is. h f is (not_on number y.fetch f on is)
    ] refl
  where
    not_on : (number : ℕ) (o : Option ℕ) (f : ℕ) → waits_on number o ≡ false → o ≡ Some f → f ≢ number
    not_on number o f on is same = let z : (f == number) ≡ false = sym (ap (waits_on number) is) ∙ on in ⊎_elim (λ t. absurd (cc)) (λ t. t.1 same) (tells f number)

pub not_waiting : (number : ℕ) (o : Option ℕ) (f : ℕ) → not (waits_on number o) ≡ true → o ≡ Some f → f ≢ number
not_waiting number o f off is same = let z : not (f == number) ≡ true = sym (ap (λ p. not (waits_on number p)) is) ∙ off in ⊎_elim (λ t. absurd (let u : not true ≡ true = sym (ap not t.0) ∙ z in cc)) (λ t. t.1 same) (tells f number)
