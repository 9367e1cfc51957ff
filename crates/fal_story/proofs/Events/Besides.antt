-- What is known beside a view, while nodes change and calls move.
use Rattle.std.proofs.Common.{◌≡◌, ◌≢◌, ◌⊎◌, inl, inr, ⊎_elim, ℕ, ◌<◌, ◌==◌, true, List, refl, sym, ap, ◌∙◌, subst}
use Rattle.std.specs.List.{find}
use Rattle.fal_base.specs.declared.call.CallRec.{CallRec}
use Rattle.fal_base.specs.declared.call.Config.{Config}
use Rattle.fal_base.specs.declared.key.Key.{Key}
use Rattle.fal_coord.specs.State.{CoordState}
use Rattle.fal_coord.specs.declared.stage.Stage.{Stage}
use Rattle.fal_coord.specs.declared.stage.Stage.TheVariants as stage
use Rattle.fal_node.specs.declared.batch.Batch.{Batch}
use Rattle.fal_dentry.specs.Walk.{is_among}
use Rattle.fal_node.specs.State.{NodeState}
use Rattle.fal_place.specs.Placement.{Placement}
use Rattle.fal_run.specs.declared.call.BatchCall.{BatchCall}
use Rattle.fal_story.proofs.Events.Doing.{work_of}
use Rattle.fal_story.proofs.Events.Shows.{Ghost, Beside, Holds, Hosts, IsCurrent, WaitsThere, is_holding, locks_in, listed_of, before_in}
use Rattle.fal_story.proofs.Families.Operation.{IsOf}
use Rattle.fal_story.proofs.Lists.Each.{Each, each_weaker}
use Rattle.fal_story.proofs.Lists.Grown.{put_all, tells}
use Rattle.fal_story.proofs.Phase.{Phase, Plans, Runs, IsHeld}
use Rattle.fal_story.specs.World.{put}

-- ---- batches and locks

-- a node's batches and holders stay, and each call that is planned there was planned there before, and rests on the same keys
pub holds_kept : (phase later : ℕ → Phase) (crossed rests : ℕ → List Key) (n : ℕ) (x y : NodeState) → y.batches ≡ x.batches → y.locks.holders ≡ x.locks.holders → y.batches_numbered ≡ x.batches_numbered
    → ((l : ℕ) (p : BatchCall) → later l ≡ Plans n p → (phase l ≡ Plans n p) × (crossed l ≡ rests l)) → Holds phase crossed n x → Holds later rests n y
holds_kept phase later crossed rests n x y batches holders numbered same h = record {
  below = subst (λ (count : ℕ). Each (λ (b : Batch). b.number < count) y.batches) (sym numbered) (subst (Each (λ (b : Batch). b.number < x.batches_numbered)) (sym batches) h.below);
  planned = λ l p plans.
      let was = same l p plans in
      let held = h.planned l p was.0 in
      record {
        batch = held.batch;
        there = ap (λ (bs : List Batch). find (λ (b : Batch). b.number == held.batch.number) bs) batches ∙ held.there;
        pending = held.pending;
        among = held.among;
        lane = held.lane;
        keys_held = λ key among. ap (λ hs. is_holding (record { holders = hs; shut = y.locks.shut }) held.batch.number key) holders
            ∙ held.keys_held key (subst (λ keys. is_among key keys ≡ true) (sym was.1) among);
      };
}

-- ---- the coordinator

-- a lane's call and its phase stay, or the coordinator does not have the call
abbrev pub StaysThere : (ℕ → CallRec) → (ℕ → CallRec) → (ℕ → Phase) → (ℕ → Phase) → ℕ → Type 0
StaysThere call call' phase later l = ((later l ≡ phase l) × (call' l ≡ call l)) ⊎ ((IsHeld 255 (phase l) → ⊥) × (phase l ≢ Runs))

module _ (call call' : ℕ → CallRec) (phase later : ℕ → Phase) (same : (l : ℕ) → StaysThere call call' phase later l) where
  waits_kept : (c : CallRec) → WaitsThere call phase c → WaitsThere call' later c
  waits_kept c w = ⊎_elim
      (λ x. (x.0 ∙ w.0, w.1 ∙ sym x.1, w.2))
      (λ x. absurd (x.0 (subst (IsHeld 255) (sym w.0) refl)))
      (same c.id.client)

  walks_kept : (nodes : ℕ) (table : Placement) (c : CallRec) (number : ℕ) (key : Key) → IsCurrent nodes table call phase (stage.Walk c number key) → IsCurrent nodes table call' later (stage.Walk c number key)
  walks_kept nodes table c number key w = ⊎_elim
      (λ x. (w.0 ∙ sym x.1, x.0 ∙ w.1, w.2, w.3))
      (λ x. absurd (x.0 (subst (IsHeld 255) (sym w.1) refl)))
      (same c.id.client)

  runs_kept : (c : CallRec) → phase c.id.client ≡ Runs → c ≡ call c.id.client → c ≡ call' c.id.client
  runs_kept c runs is = ⊎_elim (λ x. is ∙ sym x.1) (λ x. absurd (x.1 runs)) (same c.id.client)

  current_kept : (nodes : ℕ) (table before : Placement) (s : Stage) → ((l : ℕ) → IsOf l (work_of before s) → phase l ≡ Runs) → IsCurrent nodes table call phase s → IsCurrent nodes table call' later s
  current_kept nodes table before stage.Idle running c = tt
  current_kept nodes table before (stage.Walk call number key) running c = walks_kept nodes table call number key c
  current_kept nodes table before (stage.Lock operation missing rows) running c = (runs_kept operation.call (running operation.call.id.client refl) c.0, c.1, c.2)
  current_kept nodes table before (stage.Count operation rows dir updates missing counts) running c = (runs_kept operation.call (running operation.call.id.client refl) c.0, c.1, c.2, c.3)
  current_kept nodes table before (stage.Finish keys updates missing) running c = c
  current_kept nodes table before (stage.Block call missing rows) running c = (runs_kept call (running call.id.client refl) c.0, c.1, c.2)
  current_kept nodes table before (stage.Install call missing) running c = c

  -- the calls that the coordinator keeps stay as they are
  pub hosts_kept : (config : Config) (before : Placement) (c : CoordState) → ((l : ℕ) → IsOf l (work_of before c.stage) → phase l ≡ Runs) → Hosts config call phase c → Hosts config call' later c
  hosts_kept config before c running h = record {
    waiters = each_weaker (WaitsThere call phase) (WaitsThere call' later) c.waiting waits_kept h.waiters;
    apart = h.apart;
    current = current_kept config.nodes c.table before c.stage running h.current;
    numbered = h.numbered;
  }

-- ---- a node's step

-- a node changes, and calls of it move or are handed on
pub beside_stepped : (config : Config) (nodes : ℕ → NodeState) (coord : CoordState) (h later : Ghost) (n : ℕ) (y : NodeState) → ((l : ℕ) → IsOf l (work_of (before_in config h) coord.stage) → h.phase l ≡ Runs)
    → ((l : ℕ) → StaysThere h.call later.call h.phase later.phase l)
    → ((m l : ℕ) (p : BatchCall) → m ≢ n → later.phase l ≡ Plans m p → (h.phase l ≡ Plans m p) × (h.crossed l ≡ later.crossed l))
    → ((m : ℕ) → m ≢ n → later.queued m ≡ h.queued m)
    → locks_in y.items ≡ listed_of (later.queued n) → Holds later.phase later.crossed n y → Beside config nodes coord h → Beside config (put nodes n y) coord later
beside_stepped config nodes coord h later n y running same planned queued locks holding b = record {
  queues = put_all (λ m x. locks_in x.items ≡ listed_of (later.queued m)) nodes n y locks (λ m apart. b.queues m ∙ ap listed_of (sym (queued m apart)));
  holding = put_all (λ m x. Holds later.phase later.crossed m x) nodes n y holding
      (λ m apart. holds_kept h.phase later.phase h.crossed later.crossed m (nodes m) (nodes m) refl refl refl (λ l p is. planned m l p apart is) (b.holding m));
  hosts = hosts_kept h.call later.call h.phase later.phase same config (before_in config h) coord running b.hosts;
}

-- a node changes that keeps its batches, holders and Locks, and no call moves
pub beside_still : (config : Config) (nodes : ℕ → NodeState) (coord : CoordState) (h : Ghost) (n : ℕ) (y : NodeState) → locks_in y.items ≡ locks_in (nodes n).items → y.batches ≡ (nodes n).batches
    → y.locks.holders ≡ (nodes n).locks.holders → y.batches_numbered ≡ (nodes n).batches_numbered → Beside config nodes coord h → Beside config (put nodes n y) coord h
beside_still config nodes coord h n y items batches holders numbered b = record {
  queues = put_all (λ m x. locks_in x.items ≡ listed_of (h.queued m)) nodes n y (items ∙ b.queues n) (λ m _. b.queues m);
  holding = put_all (λ m x. Holds h.phase h.crossed m x) nodes n y
      (holds_kept h.phase h.phase h.crossed h.crossed n (nodes n) y batches holders numbered (λ l p is. (is, refl)) (b.holding n))
      (λ m _. b.holding m);
  hosts = b.hosts;
}

-- ---- a client's step

-- a lane's call begins or ends, and no actor has it before or after
pub beside_at_client : (config : Config) (nodes : ℕ → NodeState) (coord : CoordState) (h : Ghost) (l : ℕ) (call : ℕ → CallRec) (since : ℕ → ℕ) (phase : ℕ → Phase) → ((l : ℕ) → IsOf l (work_of (before_in config h) coord.stage) → h.phase l ≡ Runs)
    → (IsHeld 255 (h.phase l) → ⊥) → h.phase l ≢ Runs → ((n : ℕ) (p : BatchCall) → phase l ≢ Plans n p) → ((m : ℕ) → m ≢ l → (phase m ≡ h.phase m) × (call m ≡ h.call m)) → Beside config nodes coord h
    → Beside config nodes coord (record h { call = call; since = since; phase = phase })
beside_at_client config nodes coord h l call since phase running free idle unplanned same b = record {
  queues = b.queues;
  holding = λ n. holds_kept h.phase phase h.crossed h.crossed n (nodes n) (nodes n) refl refl refl
      (λ m p plans. ⊎_elim {C = (h.phase m ≡ Plans n p) × (h.crossed m ≡ h.crossed m)}
      (λ here. absurd (unplanned n p (ap phase (sym here.1) ∙ plans)))
      (λ other. (sym (same m other.1).0 ∙ plans, refl))
      (tells m l))
      (b.holding n);
  hosts = hosts_kept h.call call h.phase phase
      (λ m. ⊎_elim {C = StaysThere h.call call h.phase phase m}
      (λ here. inr (subst (λ i. (IsHeld 255 (h.phase i) → ⊥) × (h.phase i ≢ Runs)) (sym here.1) (free, idle)))
      (λ other. inl (same m other.1))
      (tells m l))
      config (before_in config h) coord running b.hosts;
}
