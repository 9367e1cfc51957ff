-- The steps of an operation, from its start to its end.
use Rattle.std.proofs.Common.{◌≡◌, ◌≢◌, ◌⊎◌, ℕ, ◌+◌, ◌<◌, ◌≤◌, true, false, not, cond, List, [], ◌∷◌, ◌++◌, length, Option, Some, None, refl, sym, ap, ◌∙◌, subst, IsSomeAnd, arith, true≢false}
use Rattle.std.specs.List.{All}
use Rattle.std.specs.Prelude.{slice_get}
use Rattle.std.specs.FinMap.Entries.{find-where_key}
use Rattle.fal_base.specs.declared.call.Config.{Config}
use Rattle.fal_base.specs.declared.inode.Dentry.{Dentry}
use Rattle.fal_base.specs.declared.inode.Inode.{Inode}
use Rattle.fal_base.specs.declared.key.Key.{Key}
use Rattle.fal_base.specs.declared.op.Op.TheVariants as op
use Rattle.fal_base.specs.declared.reply.Reply.{Reply}
use Rattle.fal_base.specs.declared.reply.Reply.TheVariants.{Fine}
use Rattle.fal_base.specs.declared.row.Update.{Update}
use Rattle.fal_base.specs.declared.rule.Rule.{Rule}
use Rattle.fal_base.specs.Maps.{value_at}
use Rattle.fal_base.proofs.Order.{same_of_tied}
use Rattle.fal_base.specs.Transcript.{is_place}
use Rattle.fal_base.specs.Tree.{key_cmp, row_at}
use Rattle.fal_coord.specs.Nodes.{numbers_below, without_node}
use Rattle.fal_dentry.specs.Walk.{Dentries, is_among, without_keys}
use Rattle.fal_duty.specs.Duties.{rows_of}
use Rattle.fal_run.specs.Calls.{is_making}
use Rattle.fal_wire.specs.declared.message.Message.{Message}
use Rattle.fal_wire.specs.declared.message.Message.TheVariants as message
use Rattle.fal_story.proofs.Families.Asking.{asking_put}
use Rattle.fal_story.proofs.Families.Barring.{IsPlain, bars_locks, bars_put, bars_stage, bars_started, is_locking, locking_plain}
use Rattle.fal_story.proofs.Families.Bars.{Bars}
use Rattle.fal_story.proofs.Families.Clear.{clear_dropped, clear_put, clear_shut}
use Rattle.fal_story.proofs.Families.Ground.{ground_dropped}
use Rattle.fal_story.proofs.Families.Knowing.{held_untold, knowing_put}
use Rattle.fal_story.proofs.Families.Lanes.{IsRight, lanes_put, positive}
use Rattle.fal_story.proofs.Families.Listings.{listings_put}
use Rattle.fal_story.proofs.Families.Operation.{Operation, IsKept, shut_by, IsCounted}
use Rattle.fal_story.proofs.Families.Placements.{answer_tells}
use Rattle.fal_story.proofs.Families.Plans.{plans_put}
use Rattle.fal_story.proofs.Families.Records.{records_moved}
use Rattle.fal_story.proofs.Families.Script.{Script, script_put, script_refused}
use Rattle.fal_story.proofs.Families.Stages.{operation_started, operation_locking, operation_given_up, operation_shut, operation_heard, operation_done, operation_rested, operation_counting, operation_counted}
use Rattle.fal_story.proofs.Good.{Good}
use Rattle.fal_story.proofs.Phase.{Runs, Tells, Replies, IsCrossing, IsHeld, IsPast, goes_put, held_live, held_taken, live_unlisted, stays_put, IsUnanswered}
use Rattle.fal_story.proofs.Trees.PlaceAnswers.{table_reply}
use Rattle.fal_story.proofs.View.{View, Work, Kept, Rests, Walks, Locks, Ends, now, Counts}
use Rattle.fal_story.specs.World.{put}

module _ (config : Config) (v : View) where
  -- ---- entries under keys leave a replica

  dropped_cases : (r : Dentries) (keys : List Key) (q : Key) → value_at (without_keys r keys) q ≡ cond (not (is_among q keys)) (value_at r q) None
  dropped_cases r keys q = find-where_key key_cmp (λ key. not (is_among key keys)) q (λ x tied. ap (λ k. not (is_among k keys)) (sym (same_of_tied q x tied))) r

  pub dropped_none : (r : Dentries) (keys : List Key) (q : Key) → is_among q keys ≡ true → value_at (without_keys r keys) q ≡ None
  dropped_none r keys q among = dropped_cases r keys q ∙ ap (λ b. cond (not b) (value_at r q) None) among

  dropped_some : (r : Dentries) (keys : List Key) (q : Key) (dentry : Dentry) → value_at (without_keys r keys) q ≡ Some dentry → value_at r q ≡ Some dentry
  dropped_some r keys q dentry is =
      elim (is_among q keys) as (λ b. cond (not b) (value_at r q) None ≡ Some dentry → value_at r q ≡ Some dentry) [ true ↦ λ e. absurd (cc) | false ↦ λ e. e ] (sym (dropped_cases r keys q) ∙ is)

  dropped_still : (r : Dentries) (keys : List Key) (q : Key) → value_at r q ≡ None → value_at (without_keys r keys) q ≡ None
  dropped_still r keys q none = dropped_cases r keys q ∙ elim (is_among q keys) as (λ b. cond (not b) (value_at r q) None ≡ None) [ true ↦ refl | false ↦ none ]

  pub dropped_good : (n : ℕ) (keys : List Key) → (n ≡ 255) ⊎ (n < config.nodes) → Good config v → Good config (record v { replica = put v.replica n (without_keys (v.replica n) keys) })
  dropped_good n keys who g = record {
    ground = ground_dropped g.ground n (without_keys (v.replica n) keys) who (dropped_some (v.replica n) keys);
    clear = clear_dropped g.clear n (without_keys (v.replica n) keys) (dropped_still (v.replica n) keys);
    asking = g.asking;
    plans = g.plans;
    lanes = g.lanes;
    script = g.script;
    records = g.records;
    operation = g.operation;
    bars = g.bars;
    knowing = g.knowing;
    listings = g.listings;
  }

  -- ---- an operation is started, or goes on

  -- what the operation alone reads changes, and nothing else
  pub operated_good : {queued : ℕ → Option Message} {last : ℕ → ℕ} {operation : ℕ} {work : Work} {starts : List (ℕ × ℕ)}
      → Operation config.nodes v.map.table v.op.shut queued last v.op.due operation work starts (v.fetches 255) v.posts v.commits v.seq v.call v.phase
      → Bars config.nodes v.map.table v.map.tables v.map.barred v.rows v.op.due queued last operation work v.posts v.commits v.phase → Good config v
      → Good config (record v { op = record v.op { queued = queued; last = last; operation = operation; work = work; starts = starts } })
  operated_good goes bars g = record {
    ground = g.ground;
    clear = g.clear;
    asking = g.asking;
    plans = g.plans;
    lanes = g.lanes;
    script = g.script;
    records = g.records;
    operation = goes;
    bars = bars;
    knowing = g.knowing;
    listings = g.listings;
  }

  pub started_good : (l : ℕ) → v.op.work ≡ Rests → (IsPast (v.phase l) → ⊥) → Good config v
      → Good config (record v { op = record v.op { operation = v.op.operation + 1; work = Walks l; starts = v.op.starts ++ (l, v.seq l) ∷ [] } })
  started_good l rests waits g = operated_good (operation_started g.operation l rests waits (positive g.lanes l (λ idle. waits (subst IsPast (sym idle) tt)))) (bars_started g.bars (Walks l) (subst IsPlain (sym rests) tt) tt) g

  -- ---- its walks are done

  pub locking_good : (l n : ℕ) (keys : List Key) (walks : List Kept) → v.op.work ≡ Walks l → IsHeld n (v.phase l) → v.fetches 255 ≡ [] → is_making (v.call l).op ≡ false → All (IsKept (now v) (v.call l).cred) walks → Good config v
      → Good config (record v { phase = put v.phase l Runs; op = record v.op { work = Locks l keys walks (numbers_below config.nodes) [] } })
  locking_good l n keys walks is held none unmaking kept g = record {
    ground = g.ground;
    clear = clear_put g.clear l Runs tt;
    asking = asking_put g.asking l Runs tt;
    plans = plans_put g.plans l Runs tt;
    lanes = lanes_put g.lanes l Runs (held_live n (v.phase l) held) (λ m none. absurd none) (λ k reply e. absurd (cc));
    script = script_put g.script l Runs (held_live n (v.phase l) held) (λ k reply e. absurd (cc));
    records = records_moved g.records (put v.phase l Runs) (goes_put v.phase l Runs (held_live n (v.phase l) held)) (stays_put v.phase l Runs (held_taken n (v.phase l) held));
    operation = operation_locking g.operation l keys walks is none unmaking kept g.ground.lives;
    bars = bars_put (bars_stage g.bars (Locks l keys walks (numbers_below config.nodes) []) (is_locking is tt) tt) l Runs tt;
    knowing = knowing_put g.knowing l Runs (λ e. absurd (subst IsUnanswered e (held_live n (v.phase l) held))) (held_untold n (v.phase l) held) tt;
    listings = listings_put g.listings l Runs (λ e. absurd (subst IsUnanswered e (held_live n (v.phase l) held))) (live_unlisted (v.phase l) (held_live n (v.phase l) held)) tt;
  }

  -- ---- its walk stops

  stopped_good : (l n k : ℕ) (reply : Reply) → v.op.work ≡ Walks l → IsHeld n (v.phase l) → v.fetches 255 ≡ [] → (is_place (v.call l).op ≡ false → IsRight v.commits (v.seq l) (v.call l) (v.since l) l k reply)
      → Script config v.entries v.commits v.map.placings v.map.known v.seq v.call v.since (put v.phase l (Tells (Replies k reply))) v.drawn → Good config v
      → Good config (record v { phase = put v.phase l (Tells (Replies k reply)); op = record v.op { work = Rests } })
  stopped_good l n k reply is held none right script g = record {
    ground = g.ground;
    clear = clear_put g.clear l (Tells (Replies k reply)) tt;
    asking = asking_put g.asking l (Tells (Replies k reply)) tt;
    plans = plans_put g.plans l (Tells (Replies k reply)) tt;
    lanes = lanes_put g.lanes l (Tells (Replies k reply)) (held_live n (v.phase l) held) (λ m none. absurd none) (λ i r e tree.
        let point : k ≡ i = cc in
        let told : reply ≡ r = cc in
        subst (IsRight v.commits (v.seq l) (v.call l) (v.since l) l i) told (subst (λ z. IsRight v.commits (v.seq l) (v.call l) (v.since l) l z reply) point (right tree)));
    script = script;
    records = records_moved g.records (put v.phase l (Tells (Replies k reply))) (goes_put v.phase l (Tells (Replies k reply)) (held_live n (v.phase l) held)) (stays_put v.phase l (Tells (Replies k reply)) (held_taken n (v.phase l) held));
    operation = operation_given_up g.operation l k reply is none;
    bars = bars_put (bars_stage g.bars Rests (is_locking is tt) tt) l (Tells (Replies k reply)) tt;
    knowing = knowing_put g.knowing l (Tells (Replies k reply)) (λ e. absurd (subst IsUnanswered e (held_live n (v.phase l) held))) (held_untold n (v.phase l) held) tt;
    listings = listings_put g.listings l (Tells (Replies k reply)) (λ e. absurd (subst IsUnanswered e (held_live n (v.phase l) held))) (live_unlisted (v.phase l) (held_live n (v.phase l) held)) tt;
  }

  pub given_up_good : (l n k : ℕ) (reply : Reply) → v.op.work ≡ Walks l → IsHeld n (v.phase l) → v.fetches 255 ≡ [] → IsRight v.commits (v.seq l) (v.call l) (v.since l) l k reply → Good config v
      → Good config (record v { phase = put v.phase l (Tells (Replies k reply)); op = record v.op { work = Rests } })
  given_up_good l n k reply is held none right g =
      stopped_good l n k reply is held none (λ _. right) (script_put g.script l (Tells (Replies k reply)) (held_live n (v.phase l) held) (λ _ _ _. right.tree)) g

  -- ---- it asks for a change of placement, which is refused

  pub place_refused_good : (l n k : ℕ) (name : List ℕ) (rule : Rule) (reply : Reply) → v.op.work ≡ Walks l → IsHeld n (v.phase l) → v.fetches 255 ≡ [] → (v.call l).op ≡ op.Place name rule
      → reply ≡ table_reply config.nodes v.map.table (v.call l).cred name rule → reply ≢ Fine → v.since l ≤ k → k ≤ length v.commits → Good config v
      → Good config (record v { phase = put v.phase l (Tells (Replies k reply)); op = record v.op { work = Rests } })
  place_refused_good l n k name rule reply is held none places answered refused from to g =
      let changes : is_place (v.call l).op ≡ true = ap is_place places in
      stopped_good l n k reply is held none (λ tree. absurd (true≢false (sym changes ∙ tree)))
      (script_refused g.script l k name rule places (positive g.lanes l (λ idle. subst (IsHeld n) idle held)) (held_live n (v.phase l) held) from to reply
      (answered ∙ answer_tells g.script.placements v.map.table (v.call l).cred name rule g.knowing.recorded) refused)
      g

  -- ---- a node serves its Lock

  pub shut_good : (n l : ℕ) (keys : List Key) (walks : List Kept) (missing : List ℕ) (rows : List Update) → v.op.work ≡ Locks l keys walks missing rows → n < config.nodes → v.op.queued n ≡ Some (message.Lock v.op.operation keys) → v.fetches n ≡ []
      → ((key : Key) → is_among key keys ≡ true → value_at (v.replica n) key ≡ None)
      → ((l : ℕ) (key : Key) → IsCrossing n (v.phase l) → is_among key (v.op.crossed l) ≡ true → is_among key keys ≡ true → ⊥) → Good config v
      → Good config (record v { op = record v.op { shut = put v.op.shut n (shut_by v.op.operation keys); queued = put v.op.queued n None } })
  shut_good n l keys walks missing rows is below item none gone off g = record {
    ground = g.ground;
    clear = clear_shut g.clear n (record { op = v.op.operation; keys = keys }) gone (λ j f at. let no : slice_get (v.fetches n) j ≡ None = ap (λ fs. slice_get fs j) none in absurd (cc)) off;
    asking = g.asking;
    plans = g.plans;
    lanes = g.lanes;
    script = g.script;
    records = g.records;
    operation = operation_shut g.operation n l keys walks missing rows is below item;
    bars = bars_locks g.bars v.rows v.op.due (put v.op.queued n None) v.op.last v.op.work v.commits (is_locking is tt) (locking_plain v.op.work (is_locking is tt)) (λ n. omega arith);
    knowing = g.knowing;
    listings = g.listings;
  }

  -- ---- the coordinator hears nodes

  pub locked_good : (n l : ℕ) (keys : List Key) (walks : List Kept) (missing : List ℕ) (rows given : List Update) → v.op.work ≡ Locks l keys walks missing rows → v.op.shut n ≡ shut_by v.op.operation keys → given ≡ rows_of v.map.table (now v) n keys → Good config v
      → Good config (record v { op = record v.op { work = Locks l keys walks (without_node n missing) (rows ++ given) } })
  locked_good n l keys walks missing rows given is has told g = operated_good (operation_heard g.operation n l keys walks missing rows given is has told) (bars_stage g.bars (Locks l keys walks (without_node n missing) (rows ++ given)) (is_locking is tt) tt) g

  pub done_good : (n : ℕ) (keys : List Key) (updates : List Update) (missing : List ℕ) → v.op.work ≡ Ends keys updates missing → v.op.shut n ≡ None → Good config v
      → Good config (record v { op = record v.op { work = Ends keys updates (without_node n missing) } })
  done_good n keys updates missing is laid g = operated_good (operation_done g.operation n keys updates missing is laid) (bars_stage g.bars (Ends keys updates (without_node n missing)) (is_locking is tt) tt) g

  pub rested_good : (keys : List Key) (updates : List Update) → v.op.work ≡ Ends keys updates [] → Good config v → Good config (record v { op = record v.op { work = Rests } })
  rested_good keys updates is g = operated_good (operation_rested g.operation keys updates is) (bars_stage g.bars Rests (is_locking is tt) tt) g

  -- ---- rows under a directory are counted

  pub counting_good : (l : ℕ) (keys : List Key) (walks : List Kept) (rows : List Update) (dir : ℕ) (updates : List Update) → v.op.work ≡ Locks l keys walks [] rows
      → (key : Key) → is_among key keys ≡ true → IsSomeAnd (row_at (now v) key) (λ (r : Inode). r.ino ≡ dir) → Good config v
      → Good config (record v { op = record v.op { work = Counts l keys walks (numbers_below config.nodes) rows dir updates 0 } })
  counting_good l keys walks rows dir updates is key among there g = operated_good (operation_counting g.operation l keys walks rows dir updates is g.ground.lives key among there) (bars_stage g.bars (Counts l keys walks (numbers_below config.nodes) rows dir updates 0) (is_locking is tt) tt) g

  pub counted_good : (n number l : ℕ) (keys : List Key) (walks : List Kept) (missing : List ℕ) (rows : List Update) (dir : ℕ) (updates : List Update) (sum : ℕ) → v.op.work ≡ Counts l keys walks missing rows dir updates sum
      → IsCounted v.map.table (now v) n dir number → Good config v
      → Good config (record v { op = record v.op { work = Counts l keys walks (without_node n missing) rows dir updates (sum + number) } })
  counted_good n number l keys walks missing rows dir updates sum is counted g = operated_good (operation_counted g.operation n number l keys walks missing rows dir updates sum is counted) (bars_stage g.bars (Counts l keys walks (without_node n missing) rows dir updates (sum + number)) (is_locking is tt) tt) g
