-- A call from its sending to its answer: it is sent, taken by an actor, handed on to the coordinator, answered.
use Rattle.std.proofs.Common.{◌≡◌, ◌≢◌, inl, ⊎_elim, ℕ, ◌+◌, ◌<◌, ◌≤◌, true, false, [], ◌∷◌, ◌++◌, length, Some, None, refl, sym, ◌∙◌, subst, ap}
use Rattle.fal_base.specs.declared.call.CallRec.{CallRec}
use Rattle.fal_base.specs.declared.call.Config.{Config}
use Rattle.fal_base.specs.declared.entry.Entry.TheVariants as entry
use Rattle.fal_base.specs.declared.event.Actor.TheVariants.{Node}
use Rattle.fal_base.specs.declared.op.Op.{Op}
use Rattle.fal_base.specs.declared.op.Op.TheVariants as op
use Rattle.fal_base.specs.declared.reply.Reply.{Reply}
use Rattle.fal_base.specs.Transcript.{call_of, is_names, is_place}
use Rattle.fal_client.specs.Paths.{addressee}
use Rattle.fal_run.specs.declared.call.BatchCall.{BatchCall}
use Rattle.fal_base.specs.Marks.{mark_of, last_mark, with_mark, is_newer}
use Rattle.fal_wire.specs.declared.message.Message.TheVariants as message
use Rattle.fal_wire.specs.Ops.{op_field}
use Rattle.fal_story.proofs.Families.Asking.{asking_called, asking_put}
use Rattle.fal_story.proofs.Families.Barring.{bars_put}
use Rattle.fal_story.proofs.Families.Clear.{clear_put}
use Rattle.fal_story.proofs.Families.Knowing.{Untold, known_first, knowing_handed, knowing_put, knowing_sent}
use Rattle.fal_story.proofs.Families.Lanes.{lanes_idle, lanes_sent, lanes_handed, lanes_put, positive, OwnsLast, routed_first, routed_passed, routed_up}
use Rattle.fal_story.proofs.Families.Listings.{listings_handed, listings_noted, listings_put, listings_sent, plain_answer}
use Rattle.fal_story.proofs.Families.OperationCalls.{operation_called, operation_moved, operation_sent}
use Rattle.fal_story.proofs.Families.Plans.{plans_called, plans_put}
use Rattle.fal_story.proofs.Families.Records.{records_handed, records_idle, records_sent, records_taken}
use Rattle.fal_story.proofs.Families.Script.{script_answered, script_sent, script_handed, script_put}
use Rattle.fal_story.proofs.Good.{Good}
use Rattle.fal_story.proofs.Lists.Grown.{put_all, put_other, put_same}
use Rattle.fal_story.proofs.Phase.{Phase, Idle, Asked, Waits, Plans, Runs, Tells, Replies, IsFor, IsPast, IsSteady, IsTaken, IsUnanswered, IsUnlisted, live_unlisted, steady_same}
use Rattle.fal_story.proofs.Steps.Posted.{posted_good}
use Rattle.fal_story.proofs.Trees.Unlisted.{place_unlisted}
use Rattle.fal_story.proofs.View.{IsPosted, plain, post, View, now}
use Rattle.fal_story.specs.World.{put}

-- the lane's next call
pub record IsNext (config : Config) (v : View) (l : ℕ) (call : CallRec) : Type 0 where
  pub idle : v.phase l ≡ Idle
  pub named : call_of config l (v.seq l + 1) ≡ Some (plain call)
  pub lane : call.id.client ≡ l
  pub number : call.id.seq ≡ v.seq l + 1
  pub hop : call.id.hop ≡ 0
  pub version : call.version ≡ (v.map.known l).version

pub asked_good : (config : Config) (v : View) (l n : ℕ) (call : CallRec) → IsNext config v l call → op_field.Fits call.op → ((m : ℕ) → m < config.nodes → n ≡ m → addressee (v.map.known l) call.op ≡ Node m) → Good config v
    → Good config (record v {
      entries = v.entries ++ entry.Sent l (v.seq l + 1) ∷ [];
      seq = put v.seq l (v.seq l + 1);
      call = put v.call l call;
      since = put v.since l (length v.commits);
      phase = put v.phase l (Asked n);
    })
asked_good config v l n call next fits to g = record {
  ground = g.ground;
  clear = clear_put g.clear l (Asked n) tt;
  asking = asking_called g.asking (put v.since l (length v.commits)) l call (Asked n) (λ a ne. put_other v.since l (length v.commits) a ne) tt;
  plans = plans_called g.plans l call (Asked n) tt;
  lanes = lanes_sent g.lanes l call (Asked n) (record { no_done = λ k r e. absurd (cc); routed = λ m is. routed_first config.nodes v.map.table v.commits m call next.hop (λ below none. ap (λ t. addressee t call.op) (sym (known_first g.knowing none l)) ∙ to m below is); fits = λ _. fits }) g.script.commits.older;
  script = script_sent g.script l call (Asked n) next.named next.lane next.number (λ k r e. absurd (cc));
  records = records_sent g.records l call (Asked n) next.idle;
  operation = operation_sent g.operation l call (Asked n) (λ e. let idle = next.idle in absurd (cc)) (λ e. absurd (cc));
  bars = bars_put g.bars l (Asked n) tt;
  knowing = knowing_sent g.knowing l call (Asked n) next.idle next.version (λ i j e. absurd (cc));
  listings = listings_noted (listings_sent g.listings l (length v.commits) call (Asked n) tt) (entry.Sent l (v.seq l + 1)) g.script.joined (λ m s k names same. cc);
}

-- a record that is newer than the last taken of its client is that of the call under way, which now waits here
pub taken_good : (config : Config) (v : View) (e n p : ℕ) (c : CallRec) → IsPosted v.posts e (Node n) p (message.Call c)
    → is_newer (mark_of c.id) (last_mark (v.taken n) c.id.client) ≡ true → Good config v
    → Good config (record v { taken = put v.taken n (with_mark (v.taken n) c.id.client (mark_of c.id)); phase = put v.phase c.id.client (Waits n None) })
taken_good config v e n p c sent newer g =
    let l = c.id.client in
    let was : (c ≡ v.call l) × (v.phase l ≡ Asked n) = ⊎_elim (λ x. x) (λ old. absurd (cc)) (g.records.requests e n p c sent) in
    let live : IsUnanswered (v.phase l) = subst IsUnanswered (sym was.1) tt in
    record {
      ground = g.ground;
      clear = clear_put g.clear l (Waits n None) tt;
      asking = asking_put g.asking l (Waits n None) tt;
      plans = plans_put g.plans l (Waits n None) tt;
      lanes = lanes_put g.lanes l (Waits n None) live (λ m at. subst (IsFor m) (sym was.1) at) (λ k reply e. absurd (cc));
      script = script_put g.script l (Waits n None) live (λ k reply e. absurd (cc));
      records = records_taken g.records n c was.0 was.1 newer;
      operation = operation_moved g.operation (put v.phase l (Waits n None)) (steady_asked v.phase l n was.1);
      bars = bars_put g.bars l (Waits n None) tt;
      knowing = knowing_put g.knowing l (Waits n None) (λ e. absurd (subst IsUnanswered e live)) (subst Untold (sym was.1) tt) tt;
      listings = listings_put g.listings l (Waits n None) (λ e. absurd (subst IsUnanswered e live)) (live_unlisted (v.phase l) live) tt;
    }
  where
    steady_asked : (phase : ℕ → Phase) (l n : ℕ) → phase l ≡ Asked n → (a : ℕ) → IsSteady (phase a) (put phase l (Waits n None) a)
    steady_asked phase l n asked = put_all (λ a q. IsSteady (phase a) q) phase l (Waits n None)
        (record { runs = λ e. let none : Asked n ≡ Runs = sym asked ∙ e in absurd (cc); ran = λ e. absurd (cc); past = λ past. absurd (subst IsPast asked past) })
        (λ a _. steady_same (phase a) (phase a) refl)

-- the call with its hop raised
abbrev pub handed : CallRec → CallRec
handed call = record call { id = record call.id { hop = call.id.hop + 1 } }

-- a planned call is handed on to the coordinator
pub handed_good : (config : Config) (v : View) (l n : ℕ) (x : BatchCall) → v.phase l ≡ Plans n x → config.nodes ≤ 255 → Good config v
    → Good config (record v { call = put v.call l (handed (v.call l)); phase = put v.phase l (Asked 255) })
handed_good config v l n x is few g =
    let c = handed (v.call l) in
    let live : IsUnanswered (v.phase l) = subst IsUnanswered (sym is) tt in
    record {
      ground = g.ground;
      clear = clear_put g.clear l (Asked 255) tt;
      asking = asking_called g.asking v.since l c (Asked 255) (λ a ne. refl) tt;
      plans = plans_called g.plans l c (Asked 255) tt;
      lanes = lanes_handed g.lanes l 255 c live refl (routed_up config.nodes v.map.table v.commits n (v.call l) c (g.plans.planned l n x is).0 few refl (g.lanes.routed l n (subst (IsFor n) (sym is) refl)));
      script = script_handed g.script l c (Asked 255) refl refl refl live (λ k r e. absurd (cc));
      records = records_handed g.records l c (Asked 255) (subst IsTaken (sym is) tt);
      operation = operation_called g.operation l c (Asked 255) (λ e. absurd (cc)) (λ e. absurd (cc)) (λ past. absurd (subst IsPast is past));
      bars = bars_put g.bars l (Asked 255) tt;
      knowing = knowing_handed g.knowing l c (Asked 255) refl refl (λ e. absurd (subst IsUnanswered e live)) (subst Untold (sym is) tt) tt;
      listings = listings_handed g.listings l c (Asked 255) refl (λ e. absurd (subst IsUnanswered e live)) (live_unlisted (v.phase l) live) tt;
    }

-- a node that does not own the last key of a call hands it on to the one that does; of a call that was not handed on before only by a rule that was set
pub passed_good : (config : Config) (v : View) (l n m : ℕ) → v.phase l ≡ Waits n None → n < config.nodes → m < config.nodes → (OwnsLast v.map.table (now v) n (v.call l) → ⊥) → OwnsLast v.map.table (now v) m (v.call l)
    → ((v.call l).id.hop ≡ 0 → 1 ≤ v.map.table.version) → Good config v
    → Good config (record v { call = put v.call l (handed (v.call l)); phase = put v.phase l (Asked m) })
passed_good config v l n m is below under other owns first g =
    let c = handed (v.call l) in
    let live : IsUnanswered (v.phase l) = subst IsUnanswered (sym is) tt in
    record {
      ground = g.ground;
      clear = clear_put g.clear l (Asked m) tt;
      asking = asking_called g.asking v.since l c (Asked m) (λ a ne. refl) tt;
      plans = plans_called g.plans l c (Asked m) tt;
      lanes = lanes_handed g.lanes l m c live refl (routed_passed config.nodes v.map.table v.commits n m (v.call l) c below under refl other first owns (g.lanes.routed l n (subst (IsFor n) (sym is) refl)));
      script = script_handed g.script l c (Asked m) refl refl refl live (λ k r e. absurd (cc));
      records = records_handed g.records l c (Asked m) (subst IsTaken (sym is) tt);
      operation = operation_called g.operation l c (Asked m) (λ e. absurd (cc)) (λ e. absurd (cc)) (λ past. absurd (subst IsPast is past));
      bars = bars_put g.bars l (Asked m) tt;
      knowing = knowing_handed g.knowing l c (Asked m) refl refl (λ e. absurd (subst IsUnanswered e live)) (subst Untold (sym is) tt) tt;
      listings = listings_handed g.listings l c (Asked m) refl (λ e. absurd (subst IsUnanswered e live)) (live_unlisted (v.phase l) live) tt;
    }

-- as one event's part: the call is handed on, and its record goes to the node
pub passed_sent_good : (config : Config) (v : View) (n m point : ℕ) (call : CallRec) → v.phase call.id.client ≡ Waits n None → call ≡ v.call call.id.client → n < config.nodes → m < config.nodes → (OwnsLast v.map.table (now v) n call → ⊥)
    → OwnsLast v.map.table (now v) m call → (call.id.hop ≡ 0 → 1 ≤ v.map.table.version) → Good config v
    → Good config (record v { call = put v.call call.id.client (handed call); phase = put v.phase call.id.client (Asked m); posts = v.posts ++ post (Node m) point (message.Call (handed call)) ∷ [] })
passed_sent_good config v n m point call is same below under other owns first g =
    let l = call.id.client in
    let c = handed call in
    let of_view = λ (P : CallRec → Type 0) (p : P call). subst P same p in
    let passed = passed_good config v l n m is below under (of_view (λ d. OwnsLast v.map.table (now v) n d → ⊥) other) (of_view (λ d. OwnsLast v.map.table (now v) m d) owns) (of_view (λ d. d.id.hop ≡ 0 → 1 ≤ v.map.table.version) first) g in
    let here : Good config (record v { call = put v.call l c; phase = put v.phase l (Asked m) }) = subst (λ (d : CallRec). Good config (record v { call = put v.call l (handed d); phase = put v.phase l (Asked m) })) (sym same) passed in
    posted_good config (record v { call = put v.call l c; phase = put v.phase l (Asked m) }) (Node m) point (message.Call c)
    (record { asking = tt; records = (m, refl, inl (sym (put_same v.call l c), put_same v.phase l (Asked m))); bars = tt; knowing = tt; listings = tt; operation = tt }) here

-- the answer under way to a call is no list of names
told_plain : (config : Config) (v : View) (l k : ℕ) (reply : Reply) → v.phase l ≡ Tells (Replies k reply) → Good config v → is_names reply ≡ false
told_plain config v l k reply done g = by (v.call l).op refl
  where
    by : (o : Op) → (v.call l).op ≡ o → is_names reply ≡ false
    by (op.Place name rule) places =
        let right = g.script.placements.right l k reply (plain (v.call l)) name rule done (g.script.calls.named l (positive g.lanes l (λ idle. absurd (cc)))) places in
        ap is_names right.served ∙ place_unlisted config.nodes _ (v.call l).cred name rule
    by other tree = (g.lanes.right l k reply done (ap is_place tree)).plain

-- the lane's call is answered
pub heard_good : (config : Config) (v : View) (l k : ℕ) (reply : Reply) → v.phase l ≡ Tells (Replies k reply) → Good config v
    → Good config (record v { entries = v.entries ++ entry.Answered l (v.seq l) k reply ∷ []; phase = put v.phase l Idle })
heard_good config v l k reply done g =
    let busy : v.phase l ≢ Idle = λ idle. absurd (cc) in
    let above : 0 < v.seq l = positive g.lanes l busy in
    record {
      ground = g.ground;
      clear = clear_put g.clear l Idle tt;
      asking = asking_put g.asking l Idle tt;
      plans = plans_put g.plans l Idle tt;
      lanes = lanes_idle g.lanes l;
      script = script_answered g.script l k reply above (λ i p r less h. g.script.once.unanswered l i p r busy h) (λ tree _. g.lanes.right l k reply done tree) (inl done);
      records = records_idle g.records l (Replies k reply) done;
      operation = operation_moved g.operation (put v.phase l Idle) (steady_idle v.phase l k reply done);
      bars = bars_put g.bars l Idle tt;
      knowing = knowing_put g.knowing l Idle (λ _. refl) (subst Untold (sym done) tt) tt;
      listings = listings_noted (listings_put g.listings l Idle (λ _. refl) (subst IsUnlisted (sym done) tt) tt) (entry.Answered l (v.seq l) k reply) g.script.joined (plain_answer l (v.seq l) k reply (told_plain config v l k reply done g));
    }
  where
    steady_idle : (phase : ℕ → Phase) (l k : ℕ) (reply : Reply) → phase l ≡ Tells (Replies k reply) → (a : ℕ) → IsSteady (phase a) (put phase l Idle a)
    steady_idle phase l k reply done = put_all (λ a q. IsSteady (phase a) q) phase l Idle
        (record { runs = λ e. let none : Tells (Replies k reply) ≡ Runs = sym done ∙ e in absurd (cc); ran = λ e. absurd (cc); past = λ past. tt })
        (λ a _. steady_same (phase a) (phase a) refl)
