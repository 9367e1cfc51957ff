-- The coordinator decides its operation: one commit, each node's part of the updates due, and the call done.
use Rattle.std.proofs.Common.{◌≡◌, ◌≢◌, ◌⊎◌, inl, ⊎_elim, ℕ, ◌<◌, ◌≤◌, true, false, List, [], ◌∷◌, ◌++◌, length, Some, None, refl, sym, ap, ◌∙◌, subst, arith, true≢false}
use Rattle.std.specs.Prelude.{slice_get}
use Rattle.fal_base.specs.declared.call.Config.{Config}
use Rattle.fal_base.specs.declared.entry.Entry.TheVariants as entry
use Rattle.fal_base.specs.declared.inode.Dentry.{Dentry}
use Rattle.fal_base.specs.declared.key.Key.{Key}
use Rattle.fal_base.specs.declared.reply.Reply.{Reply}
use Rattle.fal_base.specs.declared.reply.Reply.TheVariants.{Fine}
use Rattle.fal_base.specs.declared.row.Update.{Update}
use Rattle.fal_base.specs.Answer.{answer}
use Rattle.fal_base.specs.Change as tree
use Rattle.fal_base.specs.Change.{makes}
use Rattle.fal_base.specs.Commits.{Commit, tree_at}
use Rattle.fal_base.specs.Maps.{value_at}
use Rattle.fal_base.specs.Transcript.{is_names, is_place}
use Rattle.fal_base.specs.Tree.{row_at}
use Rattle.fal_base.specs.Updates.{laid, keys_of}
use Rattle.fal_base.proofs.Updates.{laid_off}
use Rattle.fal_coord.specs.Nodes.{numbers_below}
use Rattle.fal_dentry.specs.Walk.{is_among}
use Rattle.fal_duty.specs.Duties.{owned}
use Rattle.fal_story.proofs.Families.Asking.{IsCrossed, asking_committed, asking_put}
use Rattle.fal_story.proofs.Families.Barring.{bars_locks, bars_put, bars_stage, ready_locking}
use Rattle.fal_story.proofs.Families.Clear.{IsShut, clear_put}
use Rattle.fal_story.proofs.Families.Ground.{ground_decided}
use Rattle.fal_story.proofs.Families.Knowing.{Untold, knowing_put}
use Rattle.fal_story.proofs.Families.Lanes.{IsRight, lanes_committed, lanes_put, positive}
use Rattle.fal_story.proofs.Families.Listings.{listings_committed, listings_noted, listings_put}
use Rattle.fal_story.proofs.Families.Operation.{HasShut}
use Rattle.fal_story.proofs.Families.OperationEnds.{IsReady, ready_of, ready_quiet, ready_shut, operation_decided, operation_ended}
use Rattle.fal_story.proofs.Families.Plans.{plans_committed, plans_put}
use Rattle.fal_story.proofs.Families.Records.{records_done, records_moved}
use Rattle.fal_story.proofs.Families.Script.{Commits, IsDrawn, makes_tree, script_committed, script_put}
use Rattle.fal_story.proofs.Good.{Good}
use Rattle.fal_story.proofs.Lists.Grown.{slice_get_snoc, slice_get_end, tells}
use Rattle.fal_story.proofs.Phase.{Idle, Runs, Tells, Replies, IsCrossing, IsUnanswered, IsTaken, goes_put, live_unlisted, stays_put, taken_live}
use Rattle.fal_story.proofs.Trees.Changed.{IsChanged}
use Rattle.fal_story.proofs.Trees.Commits.{longer, tree_at_front, tree_now_snoc, legal_snoc}
use Rattle.fal_story.proofs.Trees.Standing.{tree_now}
use Rattle.fal_story.proofs.View.{Asking, View, Ends, now}
use Rattle.fal_story.specs.World.{put}

pub record IsDecided (config : Config) (v : View) (l : ℕ) (keys : List Key) (updates : List Update) : Type 0 where
  -- every node was heard
  pub stage : IsReady v.op.work l keys
  pub makes : makes (now v) (v.call l).cred (v.call l).op ≡ true
  pub fine : answer (now v) (v.call l).cred (v.call l).op ≡ Fine
  pub agree : (q : Key) → row_at (tree.change (now v) (v.call l).cred (v.call l).op 0) q ≡ row_at (laid updates (now v)) q
  pub within : (key : Key) → is_among key (keys_of updates) ≡ true → is_among key keys ≡ true
  -- the coordinator has dropped its own entries
  pub off : (key : Key) → is_among key keys ≡ true → value_at (v.replica 255) key ≡ None

abbrev pub decided_commit : View → ℕ → Commit
decided_commit v l = record { lane = l; seq = v.seq l; cred = (v.call l).cred; op = (v.call l).op; ino = 0 }

module _ (config : Config) (v : View) (l : ℕ) (keys : List Key) (updates : List Update) (is : IsDecided config v l keys updates) (g : Good config v) where
  abbrev c : Commit
  c = decided_commit v l

  abbrev grown : List Commit
  grown = v.commits ++ c ∷ []

  abbrev Safe : Key → Type 0
  Safe key = is_among key keys ≡ true → ⊥

  runs : v.phase l ≡ Runs
  runs = g.operation.running l (ready_of v.op.work l keys is.stage)

  taken : IsTaken (v.phase l)
  taken = subst IsTaken (sym runs) tt

  live : IsUnanswered (v.phase l)
  live = taken_live (v.phase l) taken

  busy : v.phase l ≢ Idle
  busy idle = subst IsTaken idle taken

  above : 0 < v.seq l
  above = positive g.lanes l busy

  -- ---- the tree

  after : tree_now grown ≡ tree.change (now v) (v.call l).cred (v.call l).op 0
  after = tree_now_snoc v.commits c

  agrees : (q : Key) → row_at (tree_now grown) q ≡ row_at (laid updates (now v)) q
  agrees q = ap (λ t. row_at t q) after ∙ is.agree q

  unlocked : (q : Key) → Safe q → is_among q (keys_of updates) ≡ false
  unlocked q safe = not_true (is_among q (keys_of updates)) (λ among. safe (is.within q among))
    where
      not_true : (b : _) → b ≢ true → b ≡ false
      not_true true off = absurd (off refl)
      not_true false off = refl

  changed : IsChanged (now v) (tree_now grown) Safe
  changed = record { others = λ q safe dir. agrees q ∙ laid_off updates (now v) q (unlocked q safe) }

  -- ---- no entry, fetch or call rests on a locked key

  stands : (n : ℕ) → n < config.nodes → (v.op.due n ≡ []) × HasShut v.op.operation keys (v.op.shut n) (v.op.queued n) (v.op.last n)
  stands n below = ready_shut v.map.table v.op.operation n l v.op.work keys (v.op.shut n) (v.op.queued n) (v.op.last n) (v.op.due n) is.stage (g.operation.stands n below)

  shut_there : (n : ℕ) (key : Key) → n < config.nodes → is_among key keys ≡ true → IsShut (v.op.shut n) key
  shut_there n key below among = subst (λ s. IsShut s key) (sym (stands n below).1.0) among

  -- a number is a node's, the coordinator's, or nobody's
  kind_of : (n : ℕ) → (n < config.nodes) ⊎ (config.nodes ≤ n)
  kind_of n = grind arith

  none_due : (n : ℕ) → v.op.due n ≡ []
  none_due n = ⊎_elim (λ below. (stands n below).0) (λ past. (g.ground.absent n past).0) (kind_of n)

  safe_entry : (n : ℕ) (key : Key) (dentry : Dentry) → value_at (v.replica n) key ≡ Some dentry → Safe key
  safe_entry n key dentry there among = ⊎_elim
      (λ below. let none = g.clear.replica n key (shut_there n key below among) in absurd (cc))
      (λ past. ⊎_elim
      (λ own. let none = ap (λ m. value_at (v.replica m) key) own.1 ∙ is.off key among in absurd (cc))
      (λ other. let none : value_at (v.replica n) key ≡ None = ap (λ r. value_at r key) ((g.ground.absent n past).1 other.1).0 in absurd (cc))
      (tells n 255))
      (kind_of n)

  -- a fetch that is pending is a node's
  at_node : (n j : ℕ) (f : Asking) → slice_get (v.fetches n) j ≡ Some f → n < config.nodes
  at_node n j f at = ⊎_elim
      (λ below. below)
      (λ past. ⊎_elim
      (λ own. let none : slice_get (v.fetches n) j ≡ None = ap (λ m. slice_get (v.fetches m) j) own.1 ∙ ap (λ fs. slice_get fs j) (ready_quiet v.op.work l keys (v.fetches 255) is.stage g.operation.quiet) in absurd (cc))
      (λ other. let none : slice_get (v.fetches n) j ≡ None = ap (λ fs. slice_get fs j) ((g.ground.absent n past).1 other.1).1 in absurd (cc))
      (tells n 255))
      (kind_of n)

  safe_fetch : (n j : ℕ) (f : Asking) → slice_get (v.fetches n) j ≡ Some f → Safe f.key
  safe_fetch n j f at among = g.clear.fetch n j f at (shut_there n f.key (at_node n j f at) among)

  safe_way : (n : ℕ) → n < config.nodes → (a : ℕ) → IsCrossing n (v.phase a) → (k : Key) → IsCrossed (v.op.crossed a) k → Safe k
  safe_way n below a crossing k crossed among = g.clear.ways a n k crossing crossed (shut_there n k below among)

  -- ---- the commit and the answer

  commits_now : Commits grown v.seq v.drawn
  commits_now =
      let more = longer v.commits c in
      record {
        older = λ i d there. ⊎_elim (λ y. g.script.commits.older i d y) (λ y. subst (λ (z : Commit). z.seq ≤ v.seq z.lane) y.1 (omega arith)) (slice_get_snoc v.commits c i d there);
        legal = legal_snoc v.commits c g.script.commits.legal is.makes (λ making. absurd (true≢false (sym making ∙ g.operation.unmaking l runs))) (λ _. refl);
        numbers = λ i d there. ⊎_elim (λ y. g.script.commits.numbers i d y) (λ y. subst (λ (z : Commit). IsDrawn v.drawn z.ino) y.1 (inl refl)) (slice_get_snoc v.commits c i d there);
        few = λ n. let past = g.script.commits.few n in omega arith;
      }

  right_now : IsRight grown (v.seq l) (v.call l) (v.since l) l (length v.commits) Fine
  right_now =
      let same : tree_at grown (length v.commits) ≡ now v = tree_at_front v.commits (c ∷ []) (length v.commits) (omega arith) in
      let more = longer v.commits c in
      record {
        tree = makes_tree (now v) (v.call l).cred (v.call l).op is.makes;
        plain = refl;
        from = g.script.calls.past l;
        to = omega arith;
        served = sym is.fine ∙ ap (λ t. answer t (v.call l).cred (v.call l).op) (sym same);
        made = λ _. (omega arith, (c, slice_get_end v.commits c, (refl, refl)));
        only = λ i d there by. ⊎_elim
            (λ y. absurd (g.lanes.uncommitted l i d live y by))
            (λ y. (y.0, ap (λ t. makes t (v.call l).cred (v.call l).op) same ∙ is.makes))
            (slice_get_snoc v.commits c i d there);
      }

  pub decided_good : Good config (record v {
    commits = v.commits ++ decided_commit v l ∷ [];
    entries = v.entries ++ entry.Commit l (v.seq l) 0 ∷ [];
    phase = put v.phase l (Tells (Replies (length v.commits) Fine));
    op = record v.op { due = λ n. owned v.map.table n updates; work = Ends keys updates (numbers_below config.nodes) };
  })
  decided_good = record {
    ground = ground_decided g.ground c updates Safe changed agrees none_due safe_entry;
    clear = clear_put g.clear l (Tells (Replies (length v.commits) Fine)) tt;
    asking = asking_committed g.asking c Safe changed safe_fetch (λ n j f at a waits. safe_way n (at_node n j f at) a (subst (IsCrossing n) (sym waits) refl)) l (length v.commits) Fine;
    plans = plans_committed g.plans c Safe changed (λ a n x planned. safe_way n (g.plans.planned a n x planned).0 a (subst (IsCrossing n) (sym planned) refl)) l (length v.commits) Fine;
    lanes = lanes_committed g.lanes c l (length v.commits) Fine refl busy right_now;
    script = script_committed g.script c l (length v.commits) Fine refl refl refl refl above live v.drawn commits_now;
    records = records_done g.records l (Replies (length v.commits) Fine) taken;
    operation = operation_decided g.operation l keys updates c (length v.commits) Fine is.stage is.within;
    bars = bars_put (bars_locks g.bars v.rows (λ n. owned v.map.table n updates) v.op.queued v.op.last (Ends keys updates (numbers_below config.nodes)) (v.commits ++ c ∷ []) (ready_locking v.op.work l keys is.stage) tt (λ n. omega arith)) l (Tells (Replies (length v.commits) Fine)) tt;
    knowing = knowing_put g.knowing l (Tells (Replies (length v.commits) Fine)) (λ e. absurd (subst IsUnanswered e live)) (subst Untold (sym runs) tt) tt;
    listings = listings_committed
        (listings_noted (listings_put g.listings l (Tells (Replies (length v.commits) Fine)) (λ e. absurd (subst IsUnanswered e live)) (live_unlisted (v.phase l) live) tt) (entry.Commit l (v.seq l) 0) g.script.joined (λ m s k names same. cc))
        c;
  }

-- the operation changes nothing: the answer is the one that it has now
pub ended_good : (config : Config) (v : View) (l : ℕ) (keys : List Key) (reply : Reply) → IsReady v.op.work l keys → is_place (v.call l).op ≡ false → makes (now v) (v.call l).cred (v.call l).op ≡ false → reply ≡ answer (now v) (v.call l).cred (v.call l).op → is_names reply ≡ false → Good config v
    → Good config (record v {
      phase = put v.phase l (Tells (Replies (length v.commits) reply));
      op = record v.op { work = Ends keys [] (numbers_below config.nodes) };
    })
ended_good config v l keys reply ready tree unmade answered plain g =
    let runs : v.phase l ≡ Runs = g.operation.running l (ready_of v.op.work l keys ready) in
    let live : IsUnanswered (v.phase l) = subst IsUnanswered (sym runs) tt in
    let p = Tells (Replies (length v.commits) reply) in
    let right : IsRight v.commits (v.seq l) (v.call l) (v.since l) l (length v.commits) reply = record {
      tree = tree;
      plain = plain;
      from = g.script.calls.past l;
      to = omega arith;
      served = answered;
      made = λ making. absurd (true≢false (sym making ∙ unmade));
      only = λ i c there by. absurd (g.lanes.uncommitted l i c live there by);
    } in
    record {
      ground = g.ground;
      clear = clear_put g.clear l p tt;
      asking = asking_put g.asking l p tt;
      plans = plans_put g.plans l p tt;
      lanes = lanes_put g.lanes l p live (λ m none. absurd none) (λ k r e _.
          let point : length v.commits ≡ k = cc in
          let told : reply ≡ r = cc in
          subst (IsRight v.commits (v.seq l) (v.call l) (v.since l) l k) told (subst (λ z. IsRight v.commits (v.seq l) (v.call l) (v.since l) l z reply) point right));
      script = script_put g.script l p live (λ _ _ _. tree);
      records = records_moved g.records (put v.phase l p) (goes_put v.phase l p live) (stays_put v.phase l p (subst IsTaken (sym runs) tt));
      operation = operation_ended g.operation l keys (length v.commits) reply ready;
      bars = bars_put (bars_stage g.bars (Ends keys [] (numbers_below config.nodes)) (ready_locking v.op.work l keys ready) tt) l p tt;
      knowing = knowing_put g.knowing l p (λ e. absurd (subst IsUnanswered e live)) (subst Untold (sym runs) tt) tt;
      listings = listings_put g.listings l p (λ e. absurd (subst IsUnanswered e live)) (live_unlisted (v.phase l) live) tt;
    }
