-- The steps of a place, over all families.
use Rattle.std.proofs.Common.{◌≡◌, ◌≢◌, ⊎_elim, ℕ, ◌<◌, ◌≤◌, ◌+◌, true, false, cond, List, [], ◌∷◌, ◌++◌, length, Some, None, refl, sym, ap, ◌∙◌, subst, arith, true≢false}
use Rattle.fal_base.specs.declared.call.Config.{Config}
use Rattle.fal_base.specs.declared.entry.Entry.TheVariants as entry
use Rattle.fal_base.specs.declared.key.Key.{Key}
use Rattle.fal_base.specs.declared.op.Op.TheVariants as op
use Rattle.fal_base.specs.declared.reply.Reply.{Reply}
use Rattle.fal_base.specs.declared.reply.Reply.TheVariants.{Fine}
use Rattle.fal_base.specs.declared.row.NamedRow.{NamedRow}
use Rattle.fal_base.specs.declared.row.Update.{Update}
use Rattle.fal_base.specs.declared.rule.Rule.{Rule}
use Rattle.fal_base.specs.Transcript.{is_place}
use Rattle.fal_base.specs.Tree.{Tree, row_at}
use Rattle.fal_dentry.specs.Walk.{is_among}
use Rattle.fal_run.specs.declared.call.BatchCall.{BatchCall}
use Rattle.fal_run.specs.Calls.{is_making}
use Rattle.fal_place.specs.Placement.{Placement, owner, with_rule}
use Rattle.fal_wire.specs.declared.message.Message.TheVariants as message
use Rattle.fal_base.specs.Updates.{laid, keys_of}
use Rattle.fal_duty.specs.Duties.{owned}
use Rattle.fal_coord.specs.Nodes.{numbers_below, without_node}
use Rattle.fal_place.proofs.Carried.{version-table_after}
use Rattle.fal_place.proofs.Tables.{owner_other}
use Rattle.fal_story.proofs.Lists.Grown.{put_all, unequal}
use Rattle.fal_story.proofs.Families.Lanes.{lanes_placed, lanes_put, positive}
use Rattle.fal_story.proofs.Families.Listings.{listings_noted, listings_put}
use Rattle.fal_story.specs.World.{put}
use Rattle.fal_story.proofs.Families.Asking.{asking_put, asking_retabled}
use Rattle.fal_story.proofs.Families.Barring.{bars_put, below_or}
use Rattle.fal_story.proofs.Families.Bars.{AreNamed, Bar, IsBarred, barred_by}
use Rattle.fal_inode.specs.Named.{puts}
use Rattle.fal_story.proofs.Families.Clear.{clear_put}
use Rattle.fal_story.proofs.Good.{Good}
use Rattle.fal_story.proofs.Families.Ground.{ground_reopened}
use Rattle.fal_story.proofs.Families.Knowing.{Untold, held_untold, knowing_placed, knowing_put}
use Rattle.fal_story.proofs.Families.Operation.{IsMissing, IsOf, Stands}
use Rattle.fal_story.proofs.Phase.{Runs, Tells, Replies, Plans, IsHeld, IsPast, IsTaken, IsUnanswered, goes_put, held_live, held_taken, live_unlisted, stays_put}
use Rattle.fal_story.proofs.Families.BarsPlaces.{bars_placing, bars_queued, bars_blocked, bars_heard, bars_placed, bars_installed, bars_done, bars_rested, came_whole, all_barred, all_landed}
use Rattle.fal_story.proofs.Families.Plans.{plans_put, plans_retabled}
use Rattle.fal_story.proofs.Families.Records.{records_moved}
use Rattle.fal_story.proofs.Families.GroundPlaces.{IsTakenOut, ground_blocked, ground_placed}
use Rattle.fal_story.proofs.Families.Placements.{answer_tells}
use Rattle.fal_story.proofs.Families.Script.{script_placed, script_put}
use Rattle.fal_story.proofs.Trees.PlaceAnswers.{fine_within, table_reply}
use Rattle.fal_story.proofs.Families.OperationPlaces.{operation_placing, operation_blocking, operation_name_placed, operation_landing, operation_landed}
use Rattle.fal_story.proofs.View.{View, Rests, Blocks, Lands, now}

-- the rows in another order
pub record IsOrdered (came kept : List Update) : Type 0 where
  pub same : (t : Tree) (key : Key) → row_at (laid kept t) key ≡ row_at (laid came t) key
  pub among : (key : Key) → is_among key (keys_of kept) ≡ true → is_among key (keys_of came) ≡ true

module _ (config : Config) (v : View) where
  -- ---- a place is started for a call that waits: each node is to give its rows of the name away

  pub placing_good : (l n : ℕ) (name : List ℕ) (rule : Rule) → v.op.work ≡ Rests → IsHeld n (v.phase l) → (IsPast (v.phase l) → ⊥) → is_making (v.call l).op ≡ false → Good config v
      → Good config (record v { phase = put v.phase l Runs; op = record v.op { operation = v.op.operation + 1; work = Blocks l name rule (numbers_below config.nodes) []; starts = v.op.starts ++ (l, v.seq l) ∷ [] } })
  placing_good l n name rule rests held waits unmaking g =
      let stands = λ (m : ℕ) (below : m < config.nodes). subst (λ w. Stands v.map.table v.op.operation w m (v.op.shut m) (v.op.queued m) (v.op.last m) (v.op.due m)) rests (g.operation.stands m below) in
      let none : (m : ℕ) → v.op.due m ≡ [] = λ m. ⊎_elim (λ below. (stands m below).0) (λ past. (g.ground.absent m past).0) (below_or m config.nodes) in
      record {
        ground = g.ground;
        clear = clear_put g.clear l Runs tt;
        asking = asking_put g.asking l Runs tt;
        plans = plans_put g.plans l Runs tt;
        lanes = lanes_put g.lanes l Runs (held_live n (v.phase l) held) (λ m no. absurd no) (λ k reply e. absurd (cc));
        script = script_put g.script l Runs (held_live n (v.phase l) held) (λ k reply e. absurd (cc));
        records = records_moved g.records (put v.phase l Runs) (goes_put v.phase l Runs (held_live n (v.phase l) held)) (stays_put v.phase l Runs (held_taken n (v.phase l) held));
        operation = operation_placing g.operation l name rule rests waits
            (positive g.lanes l (λ idle. waits (subst IsPast (sym idle) tt))) unmaking;
        knowing = knowing_put g.knowing l Runs (λ e. absurd (subst IsUnanswered e (held_live n (v.phase l) held))) (held_untold n (v.phase l) held) tt;
        listings = listings_put g.listings l Runs (λ e. absurd (subst IsUnanswered e (held_live n (v.phase l) held))) (live_unlisted (v.phase l) (held_live n (v.phase l) held)) tt;
        bars = bars_put (bars_placing g.bars l name rule rests none (λ m below. ((stands m below).2, (stands m below).3)) g.ground.lives) l Runs tt;
      }

  module _ (l : ℕ) (name : List ℕ) (rule : Rule) where
    -- ---- a Block comes to a node that has not heard of it

    pub block_queued_good : (n : ℕ) (missing : List ℕ) (came : List Update) → v.op.work ≡ Blocks l name rule missing came → v.op.last n < v.op.operation → Good config v
        → Good config (record v { op = record v.op { queued = put v.op.queued n (Some (message.Block v.op.operation name)); last = put v.op.last n v.op.operation } })
    block_queued_good n missing came is newer g =
        record {
          ground = g.ground;
          clear = g.clear;
          asking = g.asking;
          plans = g.plans;
          lanes = g.lanes;
          script = g.script;
          records = g.records;
          operation = operation_blocking g.operation l name rule missing missing came came v.op.work (put v.op.queued n (Some (message.Block v.op.operation name))) (put v.op.last n v.op.operation) v.op.due is is
              (put_all (λ m z. v.op.last m ≤ z) v.op.last n v.op.operation (omega arith) (λ m _. omega arith))
              (put_all (λ m z. m < config.nodes → z ≤ v.op.operation) v.op.last n v.op.operation (λ _. omega arith) (λ m _ below. last_past missing came is g m below));
          knowing = g.knowing;
          listings = g.listings;
          bars = bars_queued g.bars n l name rule missing came is newer;
        }
      where
        last_past : (missing : List ℕ) (came : List Update) → v.op.work ≡ Blocks l name rule missing came → Good config v → (m : ℕ) → m < config.nodes → v.op.last m ≤ v.op.operation
        last_past missing came is g m below = (subst (λ w. Stands v.map.table v.op.operation w m (v.op.shut m) (v.op.queued m) (v.op.last m) (v.op.due m)) is (g.operation.stands m below)).1

    -- ---- the node serves it: its rows of the name leave, and are due to it

    pub blocked_good : (n : ℕ) (missing : List ℕ) (came : List Update) (left : Tree) (given : List Update) → v.op.work ≡ Blocks l name rule missing came → n < config.nodes → v.op.queued n ≡ Some (message.Block v.op.operation name)
        → IsTakenOut name (v.rows n) left given → ((a : ℕ) (x : BatchCall) → v.phase a ≡ Plans n x → x.denied ≡ false → x.last.name ≢ name) → Good config v
        → Good config (record v {
          rows = put v.rows n left;
          op = record v.op { due = put v.op.due n given; queued = put v.op.queued n None };
          map = record v.map { barred = put v.map.barred n (barred_by v.op.operation name) };
        })
    blocked_good n missing came left given is below item taken off g =
        let bar = subst (λ w. Bar v.map.table v.op.operation w n (v.map.tables n) (v.map.barred n) (v.op.queued n) (v.op.last n) (v.op.due n)) is (g.bars.stands n below) in
        let none : v.op.due n ≡ [] = ⊎_elim (λ y. y.2) (λ y. let no = y.1.0 in absurd (cc)) bar.1 in
        record {
          ground = ground_blocked g.ground name n left given below none taken;
          clear = g.clear;
          asking = g.asking;
          plans = g.plans;
          lanes = g.lanes;
          script = g.script;
          records = g.records;
          operation = operation_blocking g.operation l name rule missing missing came came v.op.work (put v.op.queued n None) v.op.last (put v.op.due n given) is is (λ m. omega arith)
              (λ m under. (subst (λ w. Stands v.map.table v.op.operation w m (v.op.shut m) (v.op.queued m) (v.op.last m) (v.op.due m)) is (g.operation.stands m under)).1);
          knowing = g.knowing;
          listings = g.listings;
          bars = bars_blocked g.bars n l name rule missing came left given is below item taken off;
        }

    -- ---- the coordinator hears it, and keeps the rows

    pub blocked_heard_good : (n : ℕ) (missing : List ℕ) (came : List Update) (sent : List NamedRow) → v.op.work ≡ Blocks l name rule missing came → IsMissing n missing → v.map.barred n ≡ barred_by v.op.operation name → v.op.due n ≡ puts name sent → Good config v
        → Good config (record v { op = record v.op { work = Blocks l name rule (without_node n missing) (came ++ v.op.due n) } })
    blocked_heard_good n missing came sent is gone has told g = record {
      ground = g.ground;
      clear = g.clear;
      asking = g.asking;
      plans = g.plans;
      lanes = g.lanes;
      script = g.script;
      records = g.records;
      operation = operation_blocking g.operation l name rule missing (without_node n missing) came (came ++ v.op.due n) (Blocks l name rule (without_node n missing) (came ++ v.op.due n)) v.op.queued v.op.last v.op.due is refl (λ m. omega arith)
          (λ m under. (subst (λ w. Stands v.map.table v.op.operation w m (v.op.shut m) (v.op.queued m) (v.op.last m) (v.op.due m)) is (g.operation.stands m under)).1);
      knowing = g.knowing;
      listings = g.listings;
      bars = bars_heard g.bars n l name rule missing came sent is gone has told (g.ground.rows n);
    }

    -- ---- the last was heard: the name is placed, each node's share is due to it, and the call is answered

    abbrev table_now : Placement
    table_now = with_rule v.map.table name rule

    pub placed_good : (came kept : List Update) (k : ℕ) → v.op.work ≡ Blocks l name rule [] came → IsOrdered came kept → ((key : Key) → owner table_now key < config.nodes)
        → (v.call l).op ≡ op.Place name rule → table_reply config.nodes v.map.table (v.call l).cred name rule ≡ Fine → v.since l ≤ k → k ≤ length v.commits → Good config v
        → Good config (record v {
          entries = v.entries ++ entry.Placed l (v.seq l) table_now.version ∷ [];
          phase = put v.phase l (Tells (Replies k Fine));
          op = record v.op { due = λ n. owned table_now n kept; work = Lands name rule v.map.table (numbers_below config.nodes) };
          map = record v.map { table = table_now; placings = v.map.placings ++ record { name = name; rule = rule } ∷ [] };
        })
    placed_good came kept k is ordered lives places fine from to g =
        let reply : Reply = Fine in
        let is_place_call : is_place (v.call l).op ≡ true = ap is_place places in
        let version : v.map.table.version ≡ length v.map.placings = ap (λ (t : Placement). t.version) g.knowing.recorded ∙ version-table_after config.nodes v.map.placings (length v.map.placings) (omega arith) in
        let W = Blocks l name rule [] came in
        let whole = came_whole g.bars l name rule came is in
        let named : (key : Key) → is_among key (keys_of kept) ≡ true → key.name ≡ name = λ key among. whole.named key (ordered.among key among) in
        let runs : v.phase l ≡ Runs = g.operation.running l (subst (IsOf l) (sym is) refl) in
        let live : IsUnanswered (v.phase l) = subst IsUnanswered (sym runs) tt in
        let barred = λ (n : ℕ) (below : n < config.nodes). (all_barred g.bars l name rule came is n below).1 in
        let gone : (n : ℕ) (key : Key) → key.name ≡ name → row_at (v.rows n) key ≡ None = λ n key same. ⊎_elim
        (λ below. g.bars.gone n key (subst (λ b. IsBarred b key.name) (sym (barred n below)) (sym same)))
        (λ past.
        let under = g.ground.lives key in
        ap (λ us. row_at (laid us (v.rows n)) key) (sym (g.ground.absent n past).0) ∙ g.ground.rows n key ∙ ap (λ b. cond b (row_at (now v) key) None) (unequal _ _ (λ e. absurd (omega arith))))
        (below_or n config.nodes) in
        record {
          ground = ground_placed g.ground table_now name kept lives (owner_other v.map.table name rule) gone (subst (AreNamed v.op.due) is g.bars.named)
              (record { named = named; whole = λ key same. ordered.same [] key ∙ whole.whole key same });
          clear = clear_put g.clear l (Tells (Replies k reply)) tt;
          asking = asking_put (asking_retabled g.asking table_now (λ none. absurd (omega arith))) l (Tells (Replies k reply)) tt;
          plans = plans_put (plans_retabled g.plans table_now (λ a n x e ready. owner_other v.map.table name rule x.last (λ same.
              g.bars.clear a n x e ready (subst (λ b. IsBarred b x.last.name) (sym (barred n (g.plans.planned a n x e).0)) (sym same))))) l (Tells (Replies k reply)) tt;
          lanes = lanes_put (lanes_placed g.lanes table_now refl) l (Tells (Replies k reply)) live (λ m no. absurd no) (λ i r e tree. absurd (true≢false (sym is_place_call ∙ tree)));
          script = script_placed g.script l k name rule places (positive g.lanes l (λ idle. subst IsUnanswered idle live)) live from to table_now.version (ap (λ n. n + 1) version)
              (sym (answer_tells g.script.placements v.map.table (v.call l).cred name rule g.knowing.recorded) ∙ fine);
          records = records_moved g.records (put v.phase l (Tells (Replies k reply))) (goes_put v.phase l (Tells (Replies k reply)) live) (stays_put v.phase l (Tells (Replies k reply)) (subst IsTaken (sym runs) tt));
          operation = operation_name_placed g.operation l name rule [] (numbers_below config.nodes) came table_now v.map.table (λ n. owned table_now n kept) k reply is;
          knowing = knowing_put (knowing_placed g.knowing (record { name = name; rule = rule }) (fine_within config.nodes v.map.table (v.call l).cred name rule fine)) l (Tells (Replies k reply)) (λ e. absurd (subst IsUnanswered e live)) (subst Untold (sym runs) tt) tt;
          listings = listings_noted (listings_put g.listings l (Tells (Replies k reply)) (λ e. absurd (subst IsUnanswered e live)) (live_unlisted (v.phase l) live) tt) (entry.Placed l (v.seq l) table_now.version) g.script.joined (λ m s i names same. cc);
          bars = bars_put (bars_placed g.bars l name rule came kept is named) l (Tells (Replies k reply)) tt;
        }

  module _ (name : List ℕ) (rule : Rule) (old : Placement) where
    -- ---- an Install comes: the node takes its rows and the table

    pub installed_good : (n : ℕ) (missing : List ℕ) → v.op.work ≡ Lands name rule old missing → v.map.barred n ≡ barred_by v.op.operation name → Good config v
        → Good config (record v {
          rows = put v.rows n (laid (v.op.due n) (v.rows n));
          op = record v.op { due = put v.op.due n [] };
          map = record v.map { tables = put v.map.tables n v.map.table; barred = put v.map.barred n None };
        })
    installed_good n missing is has g = record {
      ground = ground_reopened g.ground n;
      clear = g.clear;
      asking = g.asking;
      plans = g.plans;
      lanes = g.lanes;
      script = g.script;
      records = g.records;
      operation = operation_landing g.operation name rule old missing missing v.op.work (put v.op.due n []) is is;
      knowing = g.knowing;
      listings = g.listings;
      bars = bars_installed g.bars n name rule old missing (laid (v.op.due n) (v.rows n)) is has;
    }

    -- ---- the coordinator hears it

    pub installed_heard_good : (n : ℕ) (missing : List ℕ) → v.op.work ≡ Lands name rule old missing → v.map.barred n ≡ None → Good config v
        → Good config (record v { op = record v.op { work = Lands name rule old (without_node n missing) } })
    installed_heard_good n missing is laid_now g = record {
      ground = g.ground;
      clear = g.clear;
      asking = g.asking;
      plans = g.plans;
      lanes = g.lanes;
      script = g.script;
      records = g.records;
      operation = operation_landing g.operation name rule old missing (without_node n missing) (Lands name rule old (without_node n missing)) v.op.due is refl;
      knowing = g.knowing;
      listings = g.listings;
      bars = bars_done g.bars n name rule old missing is laid_now;
    }

    pub landed_good : v.op.work ≡ Lands name rule old [] → Good config v → Good config (record v { op = record v.op { work = Rests } })
    landed_good is g = record {
      ground = g.ground;
      clear = g.clear;
      asking = g.asking;
      plans = g.plans;
      lanes = g.lanes;
      script = g.script;
      records = g.records;
      operation = operation_landed g.operation name rule old is (λ n below. let x = all_landed g.bars name rule old is n below in (x.2, x.3.0));
      knowing = g.knowing;
      listings = g.listings;
      bars = bars_rested g.bars name rule old is;
    }
