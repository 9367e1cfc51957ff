-- A listing from its opening to its answer: a directory is opened, its client is told, asks for parts and asks again by a later table, and
-- answers what came.
use Rattle.std.proofs.Common.{◌≡◌, ◌≢◌, ◌⊎◌, inl, inr, ℕ, ◌<◌, ◌≤◌, Bool, true, false, not, cond, List, [], ◌∷◌, ◌++◌, length, Option, Some, None, IsSomeAnd, refl, sym, ap, subst, arith, true≢false}
use Rattle.fal_base.specs.declared.call.Config.{Config}
use Rattle.fal_base.specs.declared.call.Cred.{Cred}
use Rattle.fal_base.specs.declared.entry.Entry.TheVariants as entry
use Rattle.fal_base.specs.declared.inode.Dentry.{Dentry}
use Rattle.fal_base.specs.declared.inode.Inode.{Inode}
use Rattle.fal_base.specs.declared.op.Op.{Op}
use Rattle.fal_base.specs.declared.op.Op.TheVariants as op
use Rattle.fal_base.specs.declared.path.PathArg.TheVariants.{Bad, Good as GoodPath}
use Rattle.fal_base.specs.declared.reply.Errno.TheVariants.{Eacces, Enotdir}
use Rattle.fal_base.specs.declared.reply.Reply.{Reply}
use Rattle.fal_base.specs.declared.reply.Reply.TheVariants.{Fail, Names}
use Rattle.fal_base.specs.Answer.{answer}
use Rattle.fal_base.specs.Listing.{HoldsBetween, OpensAt}
use Rattle.fal_base.specs.Transcript.{is_list, is_names, is_place}
use Rattle.fal_base.specs.Tree.{row_at}
use Rattle.fal_base.specs.Walk.{grants, is_dir}
use Rattle.fal_exec.proofs.InTrees.{in_trees}
use Rattle.fal_exec.specs.declared.outcome.ExecOut.TheVariants as out
use Rattle.fal_exec.specs.Executed.{IsExecuted, IsOpened}
use Rattle.fal_exec.specs.Outcome.{list_outcome, outcome_of, where_found, without_change}
use Rattle.fal_exec.specs.RowCall.{row_names}
use Rattle.fal_place.specs.Placement.{table_after}
use Rattle.fal_place.proofs.Carried.{version-table_after}
use Rattle.fal_place.proofs.Rising.{and_first}
use Rattle.fal_run.specs.declared.call.BatchCall.{BatchCall}
use Rattle.fal_run.specs.Calls.{number_after}
use Rattle.fal_story.proofs.Families.Asking.{asking_called, asking_put}
use Rattle.fal_story.proofs.Families.Barring.{bars_put}
use Rattle.fal_story.proofs.Families.Clear.{clear_put}
use Rattle.fal_story.proofs.Families.Knowing.{held_untold, knowing_again, knowing_listed, knowing_lists, knowing_put, retried}
use Rattle.fal_story.proofs.Families.Lanes.{IsRight, lanes_again, lanes_idle, lanes_moved, lanes_put, positive}
use Rattle.fal_story.proofs.Families.Listings.{IsOpenedFor, listings_again, listings_answered, listings_begun, listings_noted, listings_opened}
use Rattle.fal_story.proofs.Families.OperationCalls.{operation_called, operation_moved}
use Rattle.fal_story.proofs.Families.Plans.{plans_called, plans_put}
use Rattle.fal_story.proofs.Families.Records.{records_again, records_done, records_idle, records_moved}
use Rattle.fal_story.proofs.Families.Script.{script_answered, script_opened, script_put, script_staled}
use Rattle.fal_story.proofs.Good.{Good}
use Rattle.fal_story.proofs.Lists.Grown.{put_all}
use Rattle.fal_story.proofs.Phase.{Phase, Idle, Asked, Plans, Runs, Tells, Opens, Lists, Replies, Answer, Goes, IsFor, IsHeld, IsPast, IsSteady, Stays, goes_on, goes_same, held_live, held_taken, live_unlisted, steady_held, steady_same}
use Rattle.fal_story.proofs.Steps.Executed.{IsOpening, planned_here, row_here}
use Rattle.fal_story.proofs.View.{View, now}
use Rattle.fal_story.specs.World.{put}

-- ---- a directory that is opened

-- a directory with this number, which grants reading
abbrev IsReadable : Cred → ℕ → Inode → Type 0
IsReadable cred dir inode = (inode.ino ≡ dir) × (is_dir inode ≡ true) × (grants cred 4 inode ≡ true)

-- what a list opens is such a directory
row_opened : (cred : Cred) (dir : ℕ) (row : Option Inode) → where_found row (list_outcome cred) ≡ out.Opened dir → IsSomeAnd row (IsReadable cred dir)
row_opened cred dir None is = absurd (cc)
row_opened cred dir (Some inode) is = checked (is_dir inode) (grants cred 4 inode) refl refl is
  where
    checked : (directory granted : Bool) → is_dir inode ≡ directory → grants cred 4 inode ≡ granted
        → cond (not directory) (without_change (Fail Enotdir)) (cond (not granted) (without_change (Fail Eacces)) (out.Opened inode.ino)) ≡ out.Opened dir → IsReadable cred dir inode
    checked true true is_directory is_granted opens = (cc, is_directory, is_granted)
    checked true false is_directory is_granted opens = absurd (cc)
    checked false granted is_directory is_granted opens = absurd (cc)

-- and a call that opens one lists this path
call_opened : (row : Option Inode) (parent : Option Dentry) (cred : Cred) (call : Op) (fresh dir : ℕ) (names : List (List ℕ)) → is_list call ≡ true → row_names call ≡ Some names → outcome_of row parent cred call fresh ≡ out.Opened dir
    → (call ≡ op.List (GoodPath names)) × IsSomeAnd row (IsReadable cred dir)
call_opened row parent cred (op.List (GoodPath path)) fresh dir names lists named opens = (let same : path ≡ names = cc in ap (λ z. op.List (GoodPath z)) same, row_opened cred dir row opens)
call_opened row parent cred (op.List (Bad fault raw)) fresh dir names lists named opens = absurd (cc)
call_opened row parent cred other fresh dir names lists named opens = absurd (cc)

-- a planned call opens its directory, which stands now
pub opened_for : (config : Config) (v : View) (l n dir : ℕ) (x : BatchCall) → v.phase l ≡ Plans n x → x.denied ≡ false → IsOpening v l n x dir → Good config v → IsOpenedFor v.commits (v.call l) (v.since l) (length v.commits) dir
opened_for config v l n dir x is ready opening g =
    let call = v.call l in
    let fresh = number_after n (v.drawn n) in
    let plan = planned_here config v l n x false is ready g in
    let at = plan.1.1 in
    let row = row_here config v l n x is ready g in
    let opened : IsOpened (now v) call.cred call.op x.last dir = subst (IsExecuted (now v) call.cred call.op fresh x.last) opening
    (in_trees (row_at (v.rows n) x.last) x.parent call.cred call.op fresh (now v) plan.0 at.0.0 at.0.1.0 x.last plan.1.0 at.0.1.1 row (sym at.0.1.2)) in
    let lists = call_opened (row_at (v.rows n) x.last) x.parent call.cred call.op fresh dir plan.0 (and_first (is_list call.op) (is_names (answer (now v) call.cred call.op)) opened.opened) plan.1.0 opening in
    record {
      path = plan.0;
      lists = lists.0;
      from = g.script.calls.past l;
      to = omega arith;
      opens = subst (OpensAt (now v) call.cred dir) (sym at.0.1.1) (subst (λ r. IsSomeAnd r (IsReadable call.cred dir)) row lists.1);
    }

pub opened_good : (config : Config) (v : View) (l n dir : ℕ) (x : BatchCall) → v.phase l ≡ Plans n x → x.denied ≡ false → IsOpening v l n x dir → Good config v
    → Good config (record v { phase = put v.phase l (Tells (Opens (length v.commits) dir)) })
opened_good config v l n dir x is ready opening g =
    let k = length v.commits in
    let p = Tells (Opens k dir) in
    let held : IsHeld n (v.phase l) = subst (IsHeld n) (sym is) refl in
    let live = held_live n (v.phase l) held in
    let busy : v.phase l ≢ Idle = λ idle. absurd (cc) in
    record {
      ground = g.ground;
      clear = clear_put g.clear l p tt;
      asking = asking_put g.asking l p tt;
      plans = plans_put g.plans l p tt;
      lanes = lanes_put g.lanes l p live (λ m no. absurd no) (λ i reply e. absurd (cc));
      script = script_put g.script l p live (λ i reply e. absurd (cc));
      records = records_done g.records l (Opens k dir) (held_taken n (v.phase l) held);
      bars = bars_put g.bars l p tt;
      knowing = knowing_put g.knowing l p (λ e. absurd (busy e)) (held_untold n (v.phase l) held) tt;
      listings = listings_opened g.listings l k dir (live_unlisted (v.phase l) live) busy (opened_for config v l n dir x is ready opening g);
      operation = operation_moved g.operation (put v.phase l p) (put_all (λ a q. IsSteady (v.phase a) q) v.phase l p (steady_held n (v.phase l) p held tt) (λ a _. steady_same (v.phase a) (v.phase a) refl));
    }

-- ---- a listing that is under way

module _ (phase : ℕ → Phase) (l : ℕ) (told : Answer) (is : phase l ≡ Tells told) where
  is_busy : phase l ≢ Idle
  is_busy idle = absurd (cc)

  not_asked : (n : ℕ) → phase l ≢ Asked n
  not_asked n asked = absurd (cc)

  not_running : phase l ≢ Runs
  not_running runs = absurd (cc)

  -- it is answered, or told of its directory: no operation is about it
  steady_on : (p : Phase) → p ≢ Runs → IsPast p → (a : ℕ) → IsSteady (phase a) (put phase l p a)
  steady_on p apart past = put_all (λ a q. IsSteady (phase a) q) phase l p (record { runs = λ e. absurd (not_running e); ran = λ e. absurd (apart e); past = λ _. past }) (λ a _. steady_same (phase a) (phase a) refl)

-- its client is told of the directory
pub begun_good : (config : Config) (v : View) (l k dir : ℕ) → v.phase l ≡ Tells (Opens k dir) → Good config v
    → Good config (record v { entries = v.entries ++ entry.Opened l (v.seq l) dir k ∷ []; phase = put v.phase l (Tells (Lists k dir)) })
begun_good config v l k dir is g =
    let p = Tells (Lists k dir) in
    let above = positive g.lanes l (is_busy v.phase l (Opens k dir) is) in
    let lists : is_list (v.call l).op ≡ true = ap is_list (g.listings.opened l k dir (inl is)).lists in
    let goes = put_all (λ a q. Goes (v.phase a) q) v.phase l p (goes_on k dir (v.phase l) p is refl) (λ a _. goes_same (v.phase a) (v.phase a) refl) in
    record {
      ground = g.ground;
      clear = clear_put g.clear l p tt;
      asking = asking_put g.asking l p tt;
      plans = plans_put g.plans l p tt;
      lanes = lanes_moved g.lanes (put v.phase l p) goes
          (put_all (λ a q. (i : ℕ) (reply : Reply) → q ≡ Tells (Replies i reply) → is_place (v.call a).op ≡ false → (v.phase a ≡ Tells (Replies i reply)) ⊎ IsRight v.commits (v.seq a) (v.call a) (v.since a) a i reply) v.phase l p
          (λ i reply e. absurd (cc)) (λ a _ i reply e tree. inl e))
          (put_all (λ a q. (m : ℕ) → IsFor m q → IsFor m (v.phase a)) v.phase l p (λ m no. absurd no) (λ a _ m for. for));
      script = script_opened g.script l k dir is above lists;
      records = records_moved g.records (put v.phase l p) goes (put_all (λ a q. Stays (v.phase a) q) v.phase l p (λ n e. absurd (not_asked v.phase l (Opens k dir) is n e)) (λ a _ n e. e));
      bars = bars_put g.bars l p tt;
      knowing = knowing_lists g.knowing l k dir is;
      listings = listings_begun g.listings l k dir is g.script.joined;
      operation = operation_moved g.operation (put v.phase l p) (steady_on v.phase l (Opens k dir) is p (λ e. absurd (cc)) tt);
    }

-- it takes a later table, and asks for all parts again
pub again_good : (config : Config) (v : View) (l k dir old new : ℕ) → v.phase l ≡ Tells (Lists k dir) → old ≡ (v.map.known l).version → old < new → new ≤ length v.map.placings → Good config v
    → Good config (record v {
      entries = v.entries ++ entry.Stale l (v.seq l) old new ∷ [];
      call = put v.call l (retried (v.call l) new);
      phase = put v.phase l (Tells (Lists k dir));
      map = record v.map { known = put v.map.known l (table_after config.nodes v.map.placings new) };
    })
again_good config v l k dir old new is was later below g =
    let c = retried (v.call l) new in
    let t = table_after config.nodes v.map.placings new in
    let p = Tells (Lists k dir) in
    let busy = is_busy v.phase l (Lists k dir) is in
    let goes = goes_same (v.phase l) p (sym is) in
    record {
      ground = g.ground;
      clear = clear_put g.clear l p tt;
      asking = asking_called g.asking v.since l c p (λ a ne. refl) tt;
      plans = plans_called g.plans l c p tt;
      lanes = lanes_again g.lanes l c p busy refl (λ n no. no) (λ no. no) (λ i reply e. absurd (cc));
      script = script_staled g.script l old new t c p refl refl refl (positive g.lanes l busy) busy goes was (version-table_after config.nodes v.map.placings new below) later below (λ i reply e. absurd (cc));
      records = records_again g.records l c p (not_asked v.phase l (Lists k dir) is) goes;
      bars = bars_put g.bars l p tt;
      knowing = knowing_again g.knowing l k dir new is below;
      listings = listings_noted (listings_again g.listings l k dir new t is) (entry.Stale l (v.seq l) old new) g.script.joined (λ a s i names same. cc);
      operation = operation_called g.operation l c p (not_running v.phase l (Lists k dir) is) (λ e. absurd (cc)) (λ _. tt);
    }

-- all parts have come
pub listed_good : (config : Config) (v : View) (l k dir e : ℕ) (names : List (List ℕ)) → v.phase l ≡ Tells (Lists k dir) → k ≤ e → e ≤ length v.commits → HoldsBetween v.commits dir k e names → Good config v
    → Good config (record v { entries = v.entries ++ entry.Answered l (v.seq l) e (Names names) ∷ []; phase = put v.phase l Idle })
listed_good config v l k dir e names is onward to holds g =
    let busy = is_busy v.phase l (Lists k dir) is in
    let above = positive g.lanes l busy in
    let tree : is_place (v.call l).op ≡ false = ap is_place (g.listings.opened l k dir (inr is)).lists in
    let sent = g.script.calls.entry l above in
    record {
      ground = g.ground;
      clear = clear_put g.clear l Idle tt;
      asking = asking_put g.asking l Idle tt;
      plans = plans_put g.plans l Idle tt;
      lanes = lanes_idle g.lanes l;
      script = script_answered g.script l e (Names names) above (λ i p r less h. g.script.once.unanswered l i p r busy h) (λ _ plain. absurd (true≢false plain)) (inr tree);
      records = records_idle g.records l (Lists k dir) is;
      bars = bars_put g.bars l Idle tt;
      knowing = knowing_listed g.knowing l k dir is;
      listings = listings_answered g.listings l k dir e sent.0 names is g.script.joined (g.script.calls.named l above) sent.1 sent.2 onward to holds;
      operation = operation_moved g.operation (put v.phase l Idle) (steady_on v.phase l (Lists k dir) is Idle (λ e. absurd (cc)) tt);
    }
