-- Each call under way is found after a call came to a node, or any record.
use Rattle.std.proofs.Common.{◌≡◌, ◌≢◌, ⊎_elim, ℕ, zero, suc, ◌<◌, nat_lt, Bool, true, false, cond, List, [], ◌∷◌, ◌++◌, Some, None, Result, Ok, Err, is_some, refl, sym, ap, subst, ◌∙◌, arith}
use Rattle.std.specs.Prelude.{slice_get}
use Rattle.std.specs.List.{All}
use Rattle.std.specs.Result.{result_ok}
use Rattle.std.proofs.lemmas.Option.{same_Some}
use Rattle.fal_base.specs.declared.call.CallId.{CallId}
use Rattle.fal_base.specs.declared.call.CallRec.{CallRec}
use Rattle.fal_base.specs.declared.call.Config.{Config}
use Rattle.fal_base.specs.declared.event.Actor.TheVariants.{Node, Coord}
use Rattle.fal_base.specs.declared.event.Point.TheVariants.{Here}
use Rattle.fal_base.specs.declared.event.Envelope.{Envelope}
use Rattle.fal_exec.specs.RowCall.{row_names}
use Rattle.fal_wire.specs.declared.letter.Letter.{Letter}
use Rattle.fal_duty.specs.Duties.{owned, count_told}
use Rattle.fal_node.specs.Deliver.{admitted, take_call, take_message, take_read, with_operation, reopened, name_blocked, installed, install, install_named, delivered}
use Rattle.fal_place.specs.Placement.{is_within}
use Rattle.fal_wire.specs.Letters.{letter}
use Rattle.fal_node.specs.Letters.{Work, begun, is_asker}
use Rattle.fal_node.specs.State.{NodeState, with_item, is_of}
use Rattle.fal_node.specs.Step.{is_to_node}
use Rattle.fal_base.specs.declared.mark.Mark.{Mark}
use Rattle.fal_wait.specs.declared.waiting_call.WaitingCall.{WaitingCall}
use Rattle.fal_base.specs.Marks.{mark_of, last_mark, with_mark, is_newer}
use Rattle.fal_wait.specs.Waiting.{fetch_of, with_call, is_new}
use Rattle.fal_wire.specs.declared.fault.WireFault.{WireFault}
use Rattle.fal_wire.specs.declared.message.Message.{Message}
use Rattle.fal_wire.specs.declared.message.Message.TheVariants as message
use Rattle.fal_wire.specs.Messages.{Fits, reading}
use Rattle.fal_story.proofs.Drain.Follow.{IsFollowed, IsSuited, IsUpTo, marks_in, under_node, waiting_now, planned_now, asked_now}
use Rattle.fal_story.proofs.Drain.FollowDeliver.{coming_post, other_fresh, plain_follows, settle_follows}
use Rattle.fal_story.proofs.Drain.FollowNode.{AreMarked, IsUnderAfter, marks_at, node_follows, marks_stay}
use Rattle.fal_story.proofs.Drain.FollowGhost.{asked_by, live_is}
use Rattle.fal_story.proofs.Drain.Moving.{IsMoving}
use Rattle.fal_story.proofs.Drain.MovingDeliver.{IsComing, no_seat}
use Rattle.fal_story.proofs.Drain.MovingGot.{node_of}
use Rattle.fal_story.proofs.Drain.MovingServe.{After}
use Rattle.fal_story.proofs.Events.Shows.{Ghost, Shows, posts_of}
use Rattle.fal_story.proofs.Lists.Grown.{tells, put_other}
use Rattle.fal_story.proofs.Lists.Joined.{in_last}
use Rattle.fal_story.proofs.Lists.Members.{IsIn, in_front}
use Rattle.fal_story.proofs.Lists.Newer.{mark_cases, not_newer_itself}
use Rattle.fal_story.proofs.Phase.{Idle, Asked}
use Rattle.fal_story.proofs.View.{Post, IsPosted, post}
use Rattle.fal_story.specs.World.{World, put}

-- ---- the call that comes is the one under way

-- the call that comes has the number of its lane's last call
pub seq_by : (config : Config) (w : World) (n : ℕ) (h : Ghost) (c : CallRec) → Shows config w h → (c ≡ h.call c.id.client) × (h.phase c.id.client ≡ Asked n) → c.id.seq ≡ (w.clients c.id.client).seq
seq_by config w n h c s is =
    let l = c.id.client in
    let busy : h.phase l ≢ Idle = (λ e. let wrong : Idle ≡ Asked n = sym e ∙ is.1 in absurd (cc)) in
    let some : 0 < (w.clients l).seq = positive (w.clients l).seq (λ z. busy (s.good.lanes.under_way.started l z)) in
    ap (λ (d : CallRec). d.id.seq) is.0 ∙ s.good.script.calls.number l some
  where
    positive : (n : ℕ) → (n ≡ 0 → ⊥) → 0 < n
    positive zero ne = absurd (ne refl)
    positive (suc n) ne = omega arith

pub same_posted : (posts : List Post) (e n p q : ℕ) (a b : CallRec) → IsPosted posts e (Node n) p (message.Call a) → IsPosted posts e (Node n) q (message.Call b) → a ≡ b
same_posted posts e n p q a b x y = let m : Some (message.Call a) ≡ Some (message.Call b) = ap (λ (z : Post). z.message) (same_Some (post (Node n) p (message.Call a)) (post (Node n) q (message.Call b)) (sym x ∙ y)) in cc

-- ---- the call is not taken

-- it is none that is under way
not_taken : (config : Config) (w : World) (came : ℕ → Bool) (n e p : ℕ) (x : Envelope) (call : CallRec) → n ≢ 255 → IsFollowed w came → IsComing w n e x → IsPosted (posts_of w.envelopes) e (Node n) p (message.Call call)
    → (IsSuited n call → is_new (w.nodes n).waiting call ≡ true → ⊥) → IsFollowed (After config w n (begun (w.nodes n))) (put came e true)
not_taken config w came n e p x call other f c at old =
    let posts = posts_of w.envelopes in
    let later = put came e true in
    let node = w.nodes n in
    let taken = put (marks_in w) n node.waiting.last in
    node_follows config w came later n (begun node) other (λ i y lt. absurd (omega arith)) f
    (λ id under.
    under_node posts [] came later (marks_in w) w.nodes w.coord n node id (IsUnderAfter w later n (begun node) id) (marks_at w n other) (λ u. u) (other_fresh w came n e x c)
    (λ i q d there fresh same newer suited.
    ⊎_elim
    (λ t.
    let mine : d ≡ call = same_posted posts e n q p d call (subst (λ j. IsPosted posts j (Node n) q (message.Call d)) t.1 there) at in
    absurd (old (subst (IsSuited n) mine suited) (subst (λ (y : CallRec). is_new node.waiting y ≡ true) mine (subst (λ j. is_newer (mark_of j) (last_mark node.waiting.last j.client) ≡ true) (sym same) newer))))
    (λ t. asked_now posts [] later (marks_in w) (put w.nodes n node) w.coord n i q node.waiting.last id d there (put_other came e true i t.1 ∙ fresh) same newer suited)
    (tells i e))
    (λ y there same. waiting_now (posts ++ []) later taken w.nodes w.coord n node id y there same)
    (λ y there same. planned_now (posts ++ []) later taken w.nodes w.coord n node id y there same)
    under)
    (marks_stay w came n node.waiting.last f (sym (marks_at w n other))) (f.batches n)

-- ---- the call is taken

-- its mark is that of the call under way
pub taken_marks : (config : Config) (w : World) (came : ℕ → Bool) (n : ℕ) (h : Ghost) (call : CallRec) → Shows config w h → IsFollowed w came → (call ≡ h.call call.id.client) × (h.phase call.id.client ≡ Asked n)
    → AreMarked w came (with_mark (marks_in w n) call.id.client (mark_of call.id))
taken_marks config w came n h call s f mine =
    let last = marks_in w n in
    record {
      sent = λ l m is.
          ⊎_elim
          (λ z.
          let seq : m.seq ≡ call.id.seq = ap (λ (y : Mark). y.seq) (sym (same_Some (mark_of call.id) m (sym z.1 ∙ is))) in
          let own : call.id.seq ≡ (w.clients l).seq = seq_by config w n h call s mine ∙ ap (λ j. (w.clients j).seq) (sym z.0) in
          omega arith)
          (λ z. f.marks n l m (sym z.1 ∙ is))
          (mark_cases last call.id.client (mark_of call.id) l);
      newest = λ id now under newest m is.
          ⊎_elim
          (λ z.
          let new : mark_of call.id ≡ m = same_Some (mark_of call.id) m (sym z.1 ∙ is) in
          let same : id ≡ call.id = live_is config w came n h id s under now (ap h.phase z.0 ∙ mine.1) ∙ ap (λ (c : CallRec). c.id) (ap h.call z.0 ∙ sym mine.0) in
          subst (λ y. IsUpTo y id) new (ap (λ j. is_newer (mark_of call.id) (Some (mark_of j))) same ∙ not_newer_itself (mark_of call.id)))
          (λ z. newest n m (sym z.1 ∙ is))
          (mark_cases last call.id.client (mark_of call.id) id.client);
    }

taken : (config : Config) (w : World) (came : ℕ → Bool) (n e p : ℕ) (x : Envelope) (h : Ghost) (call : CallRec) → n ≢ 255 → Shows config w h → IsFollowed w came → IsComing w n e x
    → IsPosted (posts_of w.envelopes) e (Node n) p (message.Call call) → is_new (w.nodes n).waiting call ≡ true → IsFollowed (After config w n (begun (record (w.nodes n) { waiting = with_call (w.nodes n).waiting call }))) (put came e true)
unfolding with_call
taken config w came n e p x h call other s f c at newest =
    let posts = posts_of w.envelopes in
    let later = put came e true in
    let node = w.nodes n in
    let list = node.waiting in
    let after : NodeState = record node { waiting = with_call list call } in
    let own = marks_at w n other in
    let mine = asked_by config w n h e p call s at (subst (λ ms. is_newer (mark_of call.id) (last_mark ms call.id.client) ≡ true) (sym own) newest) in
    let here : WaitingCall = record { ticket = list.tickets; call = call; fetch = None } in
    let at_end : IsIn here after.waiting.calls = in_last list.calls here in
    let marks = put (marks_in w) n after.waiting.last in
    node_follows config w came later n (begun after) other (λ i y lt. absurd (omega arith)) f
    (λ id under.
    under_node posts [] came later (marks_in w) w.nodes w.coord n after id (IsUnderAfter w later n (begun after) id) own (λ u. u) (other_fresh w came n e x c)
    (λ i q d there fresh same newer suited.
    ⊎_elim
    (λ t. waiting_now (posts ++ []) later marks w.nodes w.coord n after id here at_end
    (ap (λ (y : CallRec). y.id) (sym (same_posted posts e n q p d call (subst (λ j. IsPosted posts j (Node n) q (message.Call d)) t.1 there) at)) ∙ same))
    (λ t.
    ⊎_elim
    (λ z.
    let theirs = asked_by config w n h i q d s there (subst (λ ms. is_newer (mark_of d.id) (last_mark ms d.id.client) ≡ true) (sym own) (subst (λ j. is_newer (mark_of j) (last_mark list.last j.client) ≡ true) (sym same) newer)) in
    let lane : d.id.client ≡ call.id.client = ap (λ (j : CallId). j.client) same ∙ z.0 in
    let one : d ≡ call = theirs.0 ∙ ap h.call lane ∙ sym mine.0 in
    waiting_now (posts ++ []) later marks w.nodes w.coord n after id here at_end (ap (λ (y : CallRec). y.id) (sym one) ∙ same))
    (λ z. asked_now posts [] later (marks_in w) (put w.nodes n after) w.coord n i q after.waiting.last id d there (put_other came e true i t.1 ∙ fresh) same (ap (is_newer (mark_of id)) z.1 ∙ newer) suited)
    (mark_cases list.last call.id.client (mark_of call.id) id.client))
    (tells i e))
    (λ y there same. waiting_now (posts ++ []) later marks w.nodes w.coord n after id y (in_front list.calls (here ∷ []) y there) same)
    (λ y there same. planned_now (posts ++ []) later marks w.nodes w.coord n after id y there same)
    under)
    (subst (λ ms. AreMarked w came (with_mark ms call.id.client (mark_of call.id))) own (taken_marks config w came n h call s f mine))
    (record { apart = (f.batches n).apart; below = (f.batches n).below })

call_follows : (config : Config) (w : World) (came : ℕ → Bool) (n e p : ℕ) (x : Envelope) (h : Ghost) (call : CallRec) → n < config.nodes → n ≢ 255 → Shows config w h → IsFollowed w came → IsComing w n e x
    → IsPosted (posts_of w.envelopes) e (Node n) p (message.Call call) → IsFollowed (After config w n (begun (take_call (w.nodes n) call))) (put came e true)
unfolding admitted
call_follows config w came n e p x h call there other s f c at =
    let node = w.nodes n in
    elim (is_some (row_names call.op)) as (λ b. is_some (row_names call.op) ≡ b → IsFollowed (After config w n (begun (cond b (admitted node call) node))) (put came e true)) [
      | true ↦ λ row.
          elim (is_new node.waiting call) as (λ b. is_new node.waiting call ≡ b → IsFollowed (After config w n (begun (record node { waiting = cond b (with_call node.waiting call) node.waiting }))) (put came e true)) [
            | true ↦ λ newest. taken config w came n e p x h call other s f c at newest
            | false ↦ λ old. not_taken config w came n e p x call other f c at (λ suited newest. absurd (cc))
          ] refl
      | false ↦ λ row. not_taken config w came n e p x call other f c at (λ suited newest. let some : is_some (row_names call.op) ≡ true = suited.1 other in absurd (cc))
    ] refl

-- ---- any record

-- one that is no call, and after which the waiting calls and the batches are the same
message_follows : (config : Config) (w : World) (came : ℕ → Bool) (n e : ℕ) (x : Envelope) (h : Ghost) (read : Message) → n < config.nodes → n ≢ 255 → Shows config w h → IsMoving config w came → IsFollowed w came → IsComing w n e x
    → reading x.bytes ≡ Ok read → All (λ (l : Letter). Fits l.message) (take_message (w.nodes n) x.point read).sent → IsFollowed (After config w n (take_message (w.nodes n) x.point read)) (put came e true)
unfolding with_item with_operation reopened installed
message_follows config w came n e x h (message.Call call) there other s m f c is fit = call_follows config w came n e x.point x h call there other s f c (coming_post w n e x (message.Call call) c is)
message_follows config w came n e x h (message.FetchAsk asker number key) there other s m f c is fit =
    let no_call = λ (call : CallRec) (z : result_ok (reading x.bytes) ≡ Some (message.Call call)). let y : Some (message.FetchAsk asker number key) ≡ Some (message.Call call) = sym (ap result_ok is) ∙ z in absurd (cc) in
    elim (is_asker (w.nodes n).table.nodes asker) as (λ b. IsFollowed (After config w n (begun (cond b (with_item (w.nodes n) (message.FetchAsk asker number key)) (w.nodes n)))) (put came e true)) [
      | true ↦ plain_follows config w came n e x (begun (with_item (w.nodes n) (message.FetchAsk asker number key))) other m f c no_call (λ i y lt. absurd (omega arith)) refl refl refl
      | false ↦ plain_follows config w came n e x (begun (w.nodes n)) other m f c no_call (λ i y lt. absurd (omega arith)) refl refl refl
    ]
message_follows config w came n e x h (message.ListAsk id version dir) there other s m f c is fit =
    plain_follows config w came n e x (begun (with_item (w.nodes n) (message.ListAsk id version dir))) other m f c
    (λ call z. let y : Some (message.ListAsk id version dir) ≡ Some (message.Call call) = sym (ap result_ok is) ∙ z in absurd (cc)) (λ i y lt. absurd (omega arith)) refl refl refl
message_follows config w came n e x h (message.FetchGot number key what) there other s m f c is fit =
    settle_follows config w came n e key what x (fetch_of (w.nodes n).waiting number) number h other s m f c
    (λ call z. let y : Some (message.FetchGot number key what) ≡ Some (message.Call call) = sym (ap result_ok is) ∙ z in absurd (cc)) refl fit
message_follows config w came n e x h (message.Lock operation keys) there other s m f c is fit =
    let no_call = λ (call : CallRec) (z : result_ok (reading x.bytes) ≡ Some (message.Call call)). let y : Some (message.Lock operation keys) ≡ Some (message.Call call) = sym (ap result_ok is) ∙ z in absurd (cc) in
    elim (nat_lt (w.nodes n).last_operation operation) as (λ b. IsFollowed (After config w n (begun (cond b (with_operation (w.nodes n) operation (message.Lock operation keys)) (w.nodes n)))) (put came e true)) [
      | true ↦ plain_follows config w came n e x (begun (with_operation (w.nodes n) operation (message.Lock operation keys))) other m f c no_call (λ i y lt. absurd (omega arith)) refl refl refl
      | false ↦ plain_follows config w came n e x (begun (w.nodes n)) other m f c no_call (λ i y lt. absurd (omega arith)) refl refl refl
    ]
message_follows config w came n e x h (message.Block operation name) there other s m f c is fit =
    let no_call = λ (call : CallRec) (z : result_ok (reading x.bytes) ≡ Some (message.Call call)). let y : Some (message.Block operation name) ≡ Some (message.Call call) = sym (ap result_ok is) ∙ z in absurd (cc) in
    elim (nat_lt (w.nodes n).last_operation operation) as (λ b. IsFollowed (After config w n (begun (cond b (with_operation (w.nodes n) operation (message.Block operation name)) (w.nodes n)))) (put came e true)) [
      | true ↦ plain_follows config w came n e x (begun (with_operation (w.nodes n) operation (message.Block operation name))) other m f c no_call (λ i y lt. absurd (omega arith)) refl refl refl
      | false ↦ plain_follows config w came n e x (begun (w.nodes n)) other m f c no_call (λ i y lt. absurd (omega arith)) refl refl refl
    ]
message_follows config w came n e x h (message.Install operation version rule rows) there other s m f c is fit =
    let node = w.nodes n in
    let no_call = λ (call : CallRec) (z : result_ok (reading x.bytes) ≡ Some (message.Call call)). let y : Some (message.Install operation version rule rows) ≡ Some (message.Call call) = sym (ap result_ok is) ∙ z in absurd (cc) in
    elim (is_within node.table.nodes rule) as (λ b. All (λ (l : Letter). Fits l.message) (cond b (install_named node operation version rule rows (name_blocked node.blocked operation)) (begun node)).sent
    → IsFollowed (After config w n (cond b (install_named node operation version rule rows (name_blocked node.blocked operation)) (begun node))) (put came e true)) [
      | true ↦ elim (name_blocked node.blocked operation) as (λ o. All (λ (l : Letter). Fits l.message) (install_named node operation version rule rows o).sent → IsFollowed (After config w n (install_named node operation version rule rows o)) (put came e true)) [
        | None ↦ λ fit. plain_follows config w came n e x (begun node) other m f c no_call fit refl refl refl
        | Some name ↦ λ fit. plain_follows config w came n e x (install node operation version rule rows name) other m f c no_call fit refl refl refl
      ]
      | false ↦ λ fit. plain_follows config w came n e x (begun node) other m f c no_call fit refl refl refl
    ] fit
message_follows config w came n e x h (message.Count operation dir) there other s m f c is fit =
    let node = w.nodes n in
    let no_call = λ (call : CallRec) (z : result_ok (reading x.bytes) ≡ Some (message.Call call)). let y : Some (message.Count operation dir) ≡ Some (message.Call call) = sym (ap result_ok is) ∙ z in absurd (cc) in
    let k : Work = record (begun node) { sent = letter Coord (Here 0) (count_told node.rows node.number operation dir) ∷ [] } in
    elim (is_of node.locks.shut operation) as (λ b. All (λ (l : Letter). Fits l.message) (cond b k (begun node)).sent → IsFollowed (After config w n (cond b k (begun node))) (put came e true)) [
      | true ↦ λ fit. plain_follows config w came n e x k other m f c no_call fit refl refl refl
      | false ↦ λ fit. plain_follows config w came n e x (begun node) other m f c no_call fit refl refl refl
    ] fit
message_follows config w came n e x h (message.Commit operation updates) there other s m f c is fit =
    let node = w.nodes n in
    let no_call = λ (call : CallRec) (z : result_ok (reading x.bytes) ≡ Some (message.Call call)). let y : Some (message.Commit operation updates) ≡ Some (message.Call call) = sym (ap result_ok is) ∙ z in absurd (cc) in
    let k : Work = record { node = reopened node operation (owned node.table node.number updates); sent = letter Coord (Here 0) (message.Done operation node.number) ∷ []; notes = [] } in
    elim (is_of node.locks.shut operation) as (λ b. All (λ (l : Letter). Fits l.message) (cond b k (begun node)).sent → IsFollowed (After config w n (cond b k (begun node))) (put came e true)) [
      | true ↦ λ fit. plain_follows config w came n e x k other m f c no_call fit refl refl refl
      | false ↦ λ fit. plain_follows config w came n e x (begun node) other m f c no_call fit refl refl refl
    ] fit
message_follows config w came n e x h kind there other s m f c is fit =
    plain_follows config w came n e x (begun (w.nodes n)) other m f c (λ call z. let y : Some kind ≡ Some (message.Call call) = sym (ap result_ok is) ∙ z in absurd (cc)) (λ i y lt. absurd (omega arith)) refl refl refl

read_follows : (config : Config) (w : World) (came : ℕ → Bool) (n e : ℕ) (x : Envelope) (h : Ghost) (read : Result Message WireFault) → n < config.nodes → n ≢ 255 → Shows config w h → IsMoving config w came → IsFollowed w came → IsComing w n e x
    → reading x.bytes ≡ read → All (λ (l : Letter). Fits l.message) (take_read (w.nodes n) x.point read).sent → IsFollowed (After config w n (take_read (w.nodes n) x.point read)) (put came e true)
read_follows config w came n e x h (Ok read) there other s m f c is fit = message_follows config w came n e x h read there other s m f c is fit
read_follows config w came n e x h (Err fault) there other s m f c is fit =
    plain_follows config w came n e x (begun (w.nodes n)) other m f c (λ call z. let y : None ≡ Some (message.Call call) = sym (ap result_ok is) ∙ z in absurd (cc)) (λ i y lt. absurd (omega arith)) refl refl refl

pub deliver_follows : (config : Config) (w : World) (came : ℕ → Bool) (n e : ℕ) (x : Envelope) (h : Ghost) → n < config.nodes → Shows config w h → IsMoving config w came → IsFollowed w came → slice_get w.envelopes e ≡ Some x
    → is_to_node x.to (w.nodes n).number ≡ true → All (λ (l : Letter). Fits l.message) (delivered (w.nodes n) x).sent → IsFollowed (After config w n (delivered (w.nodes n) x)) (put came e true)
unfolding delivered
deliver_follows config w came n e x h there s m f at to fit =
    read_follows config w came n e x h (reading x.bytes) there (no_seat config w came n there m) s m f (record { at = at; to = node_of x.to (w.nodes n).number to ∙ ap Node (s.placed n).number }) refl fit
