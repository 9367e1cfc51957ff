-- A cluster goes on when a batch is executed.
use Rattle.std.proofs.Common.{◌≡◌, ◌≢◌, ⊎_elim, ℕ, ◌<◌, Bool, true, false, not, ◌||◌, is_some, cond, List, [], ◌∷◌, map, Option, Some, None, IsTrue, refl, sym, ap, subst, ◌∙◌}
use Rattle.std.specs.Prelude.{◌==◌}
use Rattle.std.specs.List.{All}
use Rattle.fal_base.specs.declared.call.CallRec.{CallRec}
use Rattle.fal_base.specs.declared.call.Config.{Config}
use Rattle.fal_base.specs.declared.call.Cred.{Cred}
use Rattle.fal_base.specs.declared.inode.Dentry.{Dentry}
use Rattle.fal_base.specs.declared.inode.Inode.{Inode}
use Rattle.fal_base.specs.declared.op.Op.{Op}
use Rattle.fal_base.specs.declared.op.Op.TheVariants as op
use Rattle.fal_base.specs.declared.path.PathArg.TheVariants.{Good, Bad}
use Rattle.fal_base.specs.declared.reply.Errno.{Errno}
use Rattle.fal_base.specs.declared.reply.Errno.TheVariants.{Eacces, Eexist, Eisdir, Enotdir, Eperm}
use Rattle.fal_base.specs.declared.reply.Reply.TheVariants.{Fail, Fine, Stat}
use Rattle.fal_base.specs.Tree.{Tree, row_at}
use Rattle.fal_base.specs.declared.inode.Kind.TheVariants.{Dir, File}
use Rattle.fal_base.specs.Change.{new_row}
use Rattle.fal_base.specs.Walk.{is_dir, grants, kept_grants}
use Rattle.fal_coord.specs.Walks.{is_operation}
use Rattle.fal_exec.specs.declared.outcome.Change.TheVariants.{Put, Remove}
use Rattle.fal_exec.specs.declared.outcome.ExecOut.{ExecOut}
use Rattle.fal_exec.specs.declared.outcome.ExecOut.TheVariants as out
use Rattle.fal_exec.specs.RowCall.{row_names}
use Rattle.fal_exec.specs.Outcome.{outcome_of, unless_refused, where_found, without_change, changed, make_outcome, access_outcome, chmod_outcome, chown_outcome, list_outcome, truncate_outcome, unlink_outcome}
use Rattle.fal_locks.specs.declared.holder.Holder.{Holder}
use Rattle.fal_locks.specs.Locks.{LockTable}
use Rattle.fal_node.specs.declared.batch.Batch.{Batch}
use Rattle.fal_run.specs.declared.call.BatchCall.{BatchCall}
use Rattle.fal_wire.specs.declared.letter.Letter.{Letter}
use Rattle.fal_node.specs.Exec.{executed, exec_all, exec_one, exec_as, as_executed, with_executed}
use Rattle.fal_run.specs.Calls.{answer_letter, call_outcome, number_after}
use Rattle.fal_node.specs.Letters.{Work, begun}
use Rattle.fal_run.specs.Letters.{commits_in}
use Rattle.fal_node.specs.State.{NodeState, batch_of}
use Rattle.fal_wait.specs.Waiting.{WaitList}
use Rattle.fal_wire.specs.Messages.{Fits}
use Rattle.fal_wire.specs.Names.{path_arg_field}
use Rattle.fal_wire.specs.Ops.{op_field, path_and_mode, path_and_owner}
use Rattle.fal_story.proofs.Drain.Actors.{IsActor, lane_there}
use Rattle.fal_story.proofs.Drain.Hearing.{After}
use Rattle.fal_story.proofs.Drain.Moving.{IsMoving, AreOfBatches}
use Rattle.fal_story.proofs.Drain.MovingServe.{keeps_moving}
use Rattle.fal_story.proofs.Events.Shows.{Ghost, Shows, PlannedAt, planned_lane, calls_in, pending_calls, view_of}
use Rattle.fal_story.proofs.Lists.Each.{Each, each_weaker, each_join, each_front, each_back}
use Rattle.fal_story.proofs.Lists.Members.{IsIn, find_in, in_map}
use Rattle.fal_story.proofs.Phase.{Idle, Plans}
use Rattle.fal_story.specs.Clusters.{is_lane}
use Rattle.fal_story.specs.World.{World}

-- the call is answered to its client, by a reply, or its directory is opened, or it is one that the coordinator carries out, and is passed on to it
abbrev pub IsBack : Op → ExecOut → Type 0
IsBack call (out.Finish reply change) = Unit {0}
IsBack call (out.Opened ino) = Unit {0}
IsBack call out.PassOn = IsTrue (is_operation call)

checked_back : (call : Op) (checks : List (Bool × Errno)) (o : ExecOut) → IsBack call o → IsBack call (unless_refused checks o)
checked_back call [] o h = h
checked_back call (check ∷ checks) o h = elim check.0 as (λ b. IsBack call (cond b (without_change (Fail check.1)) (unless_refused checks o))) [ true ↦ tt | false ↦ checked_back call checks o h ]

found_back : (call : Op) (row : Option Inode) (go : Inode → ExecOut) → ((inode : Inode) → IsBack call (go inode)) → IsBack call (where_found row go)
found_back call None go h = tt
found_back call (Some inode) go h = h inode

-- a directory's row is the coordinator's to change
changed_back : (call : Op) (inode now : Inode) → IsTrue (is_operation call) → IsBack call (changed inode now)
changed_back call inode now h = elim (is_dir inode) as (λ b. IsBack call (cond b out.PassOn (out.Finish Fine (Put now)))) [ true ↦ h | false ↦ tt ]

make_back : (call : Op) (row : Option Inode) (parent : Option Dentry) (cred : Cred) (made : Inode) → IsBack call (make_outcome row parent cred made)
make_back call row parent cred made = checked_back call ((is_some row, Eexist) ∷ (not (kept_grants cred 2 parent), Eacces) ∷ []) (out.Finish Fine (Put made)) tt

outcome_back : (row : Option Inode) (parent : Option Dentry) (cred : Cred) (call : Op) (fresh : ℕ) → op_field.Fits call → IsTrue (is_some (row_names call)) → IsBack call (outcome_of row parent cred call fresh)
unfolding op_field path_and_mode path_and_owner path_arg_field
outcome_back row parent cred (op.Mkdir path mode) fresh fits rows = make_back (op.Mkdir path mode) row parent cred (new_row cred Dir mode fresh)
outcome_back row parent cred (op.Create path mode) fresh fits rows = make_back (op.Create path mode) row parent cred (new_row cred File mode fresh)
outcome_back row parent cred (op.Stat path) fresh fits rows = found_back (op.Stat path) row (λ inode. without_change (Stat inode)) (λ inode. tt)
outcome_back row parent cred (op.Access path want) fresh fits rows =
    found_back (op.Access path want) row (access_outcome cred want) (λ inode. checked_back (op.Access path want) ((not (grants cred want inode), Eacces) ∷ []) (without_change Fine) tt)
outcome_back row parent cred (op.Chmod (Good names) mode) fresh fits rows =
    found_back (op.Chmod (Good names) mode) row (chmod_outcome cred mode)
    (λ inode. checked_back (op.Chmod (Good names) mode) ((not (cred.uid == 0 || cred.uid == inode.uid), Eperm) ∷ []) (changed inode (record inode { mode = mode })) (changed_back (op.Chmod (Good names) mode) inode (record inode { mode = mode }) refl))
outcome_back row parent cred (op.Chmod (Bad fault raw) mode) fresh fits rows = absurd (fits.0)
outcome_back row parent cred (op.Chown (Good names) uid gid) fresh fits rows =
    found_back (op.Chown (Good names) uid gid) row (chown_outcome cred uid gid)
    (λ inode. checked_back (op.Chown (Good names) uid gid) ((not (cred.uid == 0), Eperm) ∷ []) (changed inode (record inode { uid = uid; gid = gid })) (changed_back (op.Chown (Good names) uid gid) inode (record inode { uid = uid; gid = gid }) refl))
outcome_back row parent cred (op.Chown (Bad fault raw) uid gid) fresh fits rows = absurd (fits.0)
outcome_back row parent cred (op.Truncate path size) fresh fits rows =
    found_back (op.Truncate path size) row (truncate_outcome cred size)
    (λ inode. checked_back (op.Truncate path size) ((is_dir inode, Eisdir) ∷ (not (grants cred 2 inode), Eacces) ∷ []) (out.Finish Fine (Put (record inode { size = size }))) tt)
outcome_back row parent cred (op.Unlink path) fresh fits rows =
    found_back (op.Unlink path) row (unlink_outcome parent cred)
    (λ inode. checked_back (op.Unlink path) ((not (kept_grants cred 2 parent), Eacces) ∷ (is_dir inode, Eperm) ∷ []) (out.Finish Fine Remove) tt)
outcome_back row parent cred (op.Rmdir path) fresh fits rows = tt
outcome_back row parent cred (op.Rename old new) fresh fits rows = tt
outcome_back row parent cred (op.List path) fresh fits rows =
    found_back (op.List path) row (list_outcome cred)
    (λ inode. checked_back (op.List path) ((not (is_dir inode), Enotdir) ∷ (not (grants cred 4 inode), Eacces) ∷ []) (out.Opened inode.ino) tt)
outcome_back row parent cred (op.Place name rule) fresh fits rows = absurd (cc)

pub call_back : (number : ℕ) (rows : Tree) (drawn : ℕ) (x : BatchCall) → op_field.Fits x.call.op → IsTrue (is_some (row_names x.call.op)) → IsBack x.call.op (call_outcome number rows drawn x)
call_back number rows drawn x fits on_rows =
    elim x.denied as (λ b. IsBack x.call.op (cond b (without_change (Fail Eacces)) (outcome_of (row_at rows x.last) x.parent x.call.cred x.call.op (number_after number drawn)))) [
      | true ↦ tt
      | false ↦ outcome_back (row_at rows x.last) x.parent x.call.cred x.call.op (number_after number drawn) fits on_rows
    ]

answer_goes : (config : Config) (call : CallRec) (commits : ℕ) (o : ExecOut) → IsTrue (is_lane config call.id.client) → IsActor config (answer_letter call commits o).to
answer_goes config call commits (out.Finish reply change) there = there
answer_goes config call commits (out.Opened ino) there = there
answer_goes config call commits out.PassOn there = tt

pub marked_number : (number : ℕ) (b : Batch) → (as_executed number b).number ≡ b.number
marked_number number b = elim (b.number == number) as (λ t. (cond t (record b { executed = true }) b).number ≡ b.number) [ true ↦ refl | false ↦ refl ]

-- what a batch leaves of the node as it is, and where its answers go
pub record IsRun (config : Config) (k after : Work) : Type 0 where
  pub calls : after.node.waiting ≡ k.node.waiting
  pub items : after.node.items ≡ k.node.items
  pub batches : after.node.batches ≡ k.node.batches
  pub numbered : after.node.batches_numbered ≡ k.node.batches_numbered
  pub locks : after.node.locks ≡ k.node.locks
  pub last : after.node.last_operation ≡ k.node.last_operation
  pub blocked : after.node.blocked ≡ k.node.blocked
  pub go : Each (λ (l : Letter). IsActor config l.to) after.sent

-- a call that a record can hold and that one row decides, of a lane that is there
pub record IsGiven (config : Config) (x : BatchCall) : Type 0 where
  pub fits : op_field.Fits x.call.op
  pub rows : IsTrue (is_some (row_names x.call.op))
  pub lane : IsTrue (is_lane config x.call.id.client)

pub run_one : (config : Config) (k : Work) (x : BatchCall) → IsGiven config x → Each (λ (l : Letter). IsActor config l.to) k.sent → IsRun config k (exec_one k x)
unfolding exec_one exec_as
run_one config k x given go =
    let o = call_outcome k.node.number k.node.rows k.node.drawn x in
    record {
      calls = refl;
      items = refl;
      batches = refl;
      numbered = refl;
      locks = refl;
      last = refl;
      blocked = refl;
      go = each_join (λ (l : Letter). IsActor config l.to) k.sent (answer_letter x.call (commits_in k.notes) o ∷ []) go
          (answer_goes config x.call (commits_in k.notes) o given.lane, tt);
    }

pub run_all : (config : Config) (k : Work) (xs : List BatchCall) → Each (IsGiven config) xs → Each (λ (l : Letter). IsActor config l.to) k.sent → IsRun config k (exec_all k xs)
run_all config k [] given go = record { calls = refl; items = refl; batches = refl; numbered = refl; locks = refl; last = refl; blocked = refl; go = go }
run_all config k (x ∷ xs) given go =
    let one = run_one config k x given.0 go in
    let rest = run_all config (exec_one k x) xs given.1 one.go in
    record { calls = rest.calls ∙ one.calls; items = rest.items ∙ one.items; batches = rest.batches ∙ one.batches; numbered = rest.numbered ∙ one.numbered; locks = rest.locks ∙ one.locks; last = rest.last ∙ one.last; blocked = rest.blocked ∙ one.blocked; go = rest.go }

-- the calls of a batch that is not executed are among those that the node keeps
pub batch_calls_are : (P : BatchCall → Type 0) (bs : List Batch) (b : Batch) → IsIn b bs → b.executed ≡ false → Each P (calls_in bs) → Each P b.calls
batch_calls_are P [] b at waits h = absurd at
batch_calls_are P (c ∷ bs) b at waits h =
    ⊎_elim
    (λ e. subst (λ xs. Each P xs) (pending e) (each_front P (pending_calls c) (calls_in bs) h))
    (λ r. batch_calls_are P bs b r waits (each_back P (pending_calls c) (calls_in bs) h))
    at
  where
    pending : c ≡ b → pending_calls c ≡ b.calls
    pending e = ap (λ (x : Batch). pending_calls x) e ∙ ap (λ t. cond t [] b.calls) waits

pub given_calls : (config : Config) (w : World) (n : ℕ) (h : Ghost) (xs : List BatchCall) → Shows config w h → Each (PlannedAt h.call h.phase n) xs → Each (IsGiven config) xs
given_calls config w n h xs s planned =
    each_weaker _ _ xs (λ x at.
    let busy : h.phase (planned_lane x) ≢ Idle = (λ e. let wrong : Idle ≡ Plans n x = sym e ∙ at.0 in absurd (cc)) in
    record {
      fits = subst (λ (c : CallRec). op_field.Fits c.op) (sym at.1) (s.good.lanes.under_way.fits (planned_lane x) busy);
      rows = at.2;
      lane = lane_there config (view_of config w h) (planned_lane x) s.good busy;
    })
    planned

-- a batch that is marked has its number still
marked_holders : (number : ℕ) (x y : NodeState) → y.batches ≡ map (as_executed number) x.batches → y.locks ≡ x.locks → AreOfBatches x → AreOfBatches y
marked_holders number x y batches locks h =
    subst (λ (t : LockTable). Each (λ (h : Holder). (b : Batch) × (IsIn b y.batches × (b.number ≡ h.number))) t.holders) (sym locks)
    (subst (λ bs. Each (λ (h : Holder). (b : Batch) × (IsIn b bs × (b.number ≡ h.number))) x.locks.holders) (sym batches)
    (each_weaker _ _ x.locks.holders (λ h b. (as_executed number b.0, (in_map (as_executed number) x.batches b.0 b.1.0, marked_number number b.0 ∙ b.1.1))) h))

pub exec_moves : (config : Config) (w : World) (came : ℕ → Bool) (n number : ℕ) (h : Ghost) (batch : Batch) → n < config.nodes → Shows config w h → IsMoving config w came
    → batch_of (w.nodes n) number ≡ Some batch → batch.executed ≡ false → All (λ (l : Letter). Fits l.message) (executed (w.nodes n) number batch).sent
    → IsMoving config (After config w n (executed (w.nodes n) number batch)) came
unfolding executed with_executed
exec_moves config w came n number h batch there s m at waits fit =
    let node = w.nodes n in
    let where_found = find_in (λ (b : Batch). b.number == number) node.batches batch at in
    let planned = batch_calls_are (PlannedAt h.call h.phase n) node.batches batch where_found.1 waits (s.held n).planned in
    let run = run_all config (begun (with_executed node number)) batch.calls (given_calls config w n h batch.calls s planned) tt in
    keeps_moving config w came n (executed node number batch) there fit m run.go (ap (λ (x : WaitList). x.calls) run.calls) run.items
    (marked_holders number node (executed node number batch).node run.batches run.locks (m.holders n)) (ap (λ (t : LockTable). t.shut) run.locks) run.last run.blocked
