-- Each step leaves the coordinator sound.
use Rattle.std.proofs.Common.{◌≡◌, ℕ, Bool, true, false, not, ◌&&◌, ◌||◌, cond, List, [], ◌∷◌, ◌++◌, Option, Some, None, Result, Ok, Err, refl, sym, ap, subst, ◌∙◌}
use Rattle.std.specs.Prelude.{◌==◌, IsTrue, is_some}
use Rattle.std.specs.Option.{ForSome}
use Rattle.fal_base.specs.declared.call.CallRec.{CallRec}
use Rattle.fal_base.specs.declared.call.Cred.{Cred}
use Rattle.fal_base.specs.declared.event.Envelope.{Envelope}
use Rattle.fal_base.specs.declared.event.Point.TheVariants.{Here}
use Rattle.fal_base.specs.declared.key.Key.{Key}
use Rattle.fal_base.specs.declared.op.Op.{Op}
use Rattle.fal_base.specs.declared.op.Op.TheVariants as op
use Rattle.fal_base.specs.declared.path.PathArg.TheVariants.{Good}
use Rattle.fal_base.specs.declared.reply.Errno.{Errno}
use Rattle.fal_base.specs.declared.reply.Errno.TheVariants.{Ebusy}
use Rattle.fal_base.specs.declared.row.NamedRow.{NamedRow}
use Rattle.fal_base.specs.declared.row.Update.{Update}
use Rattle.fal_base.specs.declared.rule.Rule.{Rule}
use Rattle.fal_base.specs.Marks.{is_newer, last_mark, mark_of}
use Rattle.fal_dentry.specs.Walk as replica
use Rattle.fal_dentry.specs.Walk.{Dentries, ReplicaWalk, replica_walk}
use Rattle.fal_place.specs.Placement.{Placement, Placing}
use Rattle.fal_wire.specs.declared.fault.WireFault.{WireFault}
use Rattle.fal_wire.specs.declared.message.Found.{Found}
use Rattle.fal_wire.specs.declared.message.Found.TheVariants as found
use Rattle.fal_wire.specs.declared.message.Message.{Message}
use Rattle.fal_wire.specs.declared.message.Message.TheVariants as message
use Rattle.fal_wire.specs.Messages.{reading}
use Rattle.fal_coord.specs.declared.event.CoordEvent.{CoordEvent}
use Rattle.fal_coord.specs.declared.event.CoordEvent.TheVariants.{Hear, Start}
use Rattle.fal_coord.specs.declared.paths_walk.PathsWalk.{PathsWalk}
use Rattle.fal_coord.specs.declared.paths_walk.PathsWalk.TheVariants.{Stopped, Lacking, Ready}
use Rattle.fal_coord.specs.declared.stage.Operation.{Operation}
use Rattle.fal_coord.specs.declared.stage.PathWalk.{PathWalk}
use Rattle.fal_coord.specs.declared.stage.Stage.{Stage}
use Rattle.fal_coord.specs.declared.stage.Stage.TheVariants.{Idle, Walk, Lock, Count, Finish, Block, Install}
use Rattle.fal_coord.specs.Begin.{walked_as, walk_step, placing_by, begun_by, start, start_first, started, begin, asking, locking, given_up}
use Rattle.fal_coord.specs.Decide.{judged_work, verdict_on, counting, decided}
use Rattle.fal_coord.specs.Hear.{taken, take_call, learned, found_at, take_found, lock_heard, take_locked, count_heard, take_counted, finish_at, take_done, block_heard, take_blocked, install_at, take_installed, take_message, take_read, heard}
use Rattle.fal_coord.specs.Judged as judged
use Rattle.fal_coord.specs.Judged.{Judged, is_for_rows, counted_of}
use Rattle.fal_coord.specs.Nodes.{is_missing, without_node}
use Rattle.fal_coord.specs.Onward.{SuitsWalk}
use Rattle.fal_coord.specs.Place.{place_refusal, is_placeable, blocking, name_placed, placed_by}
use Rattle.fal_coord.specs.Sound.{IsSound, are_operations, is_walked, is_decidable, is_sound_stage}
use Rattle.fal_coord.specs.State.{CoordState, Work, begun, at_stage}
use Rattle.fal_coord.specs.Step.{coord_step, is_to_coord}
use Rattle.fal_coord.specs.Walks.{is_operation, is_walking, is_busy, placing_of, walk_paths, walked_paths, and_then}

-- ---- walks that are ready

abbrev SuitsNone : Op → PathsWalk → Type 0
SuitsNone call walk = SuitsWalk call walk

-- one path
suits_one : (call : Op) (walk : ReplicaWalk) → ((walked : PathWalk) → SuitsWalk call (Ready (walked ∷ []))) → SuitsWalk call (and_then walk (Ready []))
suits_one call (replica.Shut key) one = tt
suits_one call (replica.Missing key keys) one = tt
suits_one call (replica.Stop errno keys) one = tt
suits_one call (replica.Ready parent inos keys) one = one (record { parent = parent; inos = inos })

-- two paths
suits_two : (call : Op) (old new : ReplicaWalk) → ((from to : PathWalk) → SuitsWalk call (Ready (from ∷ to ∷ []))) → SuitsWalk call (and_then old (and_then new (Ready [])))
suits_two call (replica.Shut key) new two = tt
suits_two call (replica.Missing key keys) new two = tt
suits_two call (replica.Stop errno keys) new two = tt
suits_two call (replica.Ready parent inos keys) (replica.Shut key) two = tt
suits_two call (replica.Ready parent inos keys) (replica.Missing key more) two = tt
suits_two call (replica.Ready parent inos keys) (replica.Stop errno more) two = tt
suits_two call (replica.Ready parent inos keys) (replica.Ready other others more) two = two (record { parent = parent; inos = inos }) (record { parent = other; inos = others })

-- the walks of an operation that is not busy have a directory for each path
pub suits_walk : (entries : Dentries) (cred : Cred) (call : Op) → IsTrue (is_walked call) → SuitsWalk call (walk_paths entries cred (walked_paths call))
suits_walk entries cred (op.Chmod (Good path) mode) is = suits_one (op.Chmod (Good path) mode) (replica_walk entries cred path []) (λ walked. refl)
suits_walk entries cred (op.Chown (Good path) uid gid) is = suits_one (op.Chown (Good path) uid gid) (replica_walk entries cred path []) (λ walked. refl)
suits_walk entries cred (op.Rmdir (Good path)) is = suits_one (op.Rmdir (Good path)) (replica_walk entries cred path []) (λ walked. is)
suits_walk entries cred (op.Rename (Good old) (Good new)) is = suits_two (op.Rename (Good old) (Good new)) (replica_walk entries cred old []) (replica_walk entries cred new []) (λ from to. is)
suits_walk entries cred other is = absurd (cc)

-- ---- a call goes on

abbrev WorkIsSound : Work → Type 0
WorkIsSound work = IsSound work.coord.table work.coord.waiting work.coord.stage

at_idle : (coord : CoordState) → IsTrue (are_operations coord.waiting) → IsSound coord.table coord.waiting Idle
unfolding is_sound_stage
at_idle coord sound = record { calls_waiting = sound; stage_suits = refl }

as_sound : (coord : CoordState) (call : CallRec) (walk : PathsWalk) → IsTrue (are_operations coord.waiting) → IsTrue (is_walked call.op) → SuitsWalk call.op walk → WorkIsSound (walked_as coord call walk)
unfolding asking locking is_sound_stage
as_sound coord call (Stopped errno) sound is suits = at_idle coord sound
as_sound coord call (Lacking key) sound is suits = record { calls_waiting = sound; stage_suits = is }
as_sound coord call (Ready walks) sound is suits = record { calls_waiting = sound; stage_suits = suits }

walk_sound : (coord : CoordState) (call : CallRec) → IsTrue (are_operations coord.waiting) → IsTrue (is_walked call.op) → WorkIsSound (walk_step coord call)
unfolding walk_step
walk_sound coord call sound is = as_sound coord call (walk_paths coord.replica call.cred (walked_paths call.op)) sound is (suits_walk coord.replica call.cred call.op is)

-- an operation that is not busy and places no name is walked
pub not_busy : (call : Op) → IsTrue (is_operation call) → placing_of call ≡ None → is_busy call ≡ false → IsTrue (is_walked call)
not_busy call is none apart = ap (λ b. b && not (is_busy call)) (only_first (is_walking call) (is_some (placing_of call)) is (ap is_some none)) ∙ ap not apart
  where
    only_first : (a b : Bool) → IsTrue (a || b) → b ≡ false → IsTrue a
    only_first true b is off = refl
    only_first false b is off = absurd (cc)

-- a call that is no place places no name
pub places_none : (call : Op) → ((name : List ℕ) (rule : Rule) → call ≡ op.Place name rule → ⊥) → placing_of call ≡ None
places_none (op.Place name rule) other = absurd (other name rule refl)
places_none call other = refl

-- a placement that is not refused suits its stage
placing_sound : (coord : CoordState) (call : CallRec) (placing : Placing) (refused : Option Errno) → IsTrue (are_operations coord.waiting) → placing_of call.op ≡ Some placing
    → place_refusal coord.table call.cred placing ≡ refused → WorkIsSound (placing_by coord call placing refused)
unfolding blocking is_sound_stage
placing_sound coord call placing None sound at none = record { calls_waiting = sound; stage_suits = ap (is_placeable coord.table call) at ∙ ap (λ r. not (is_some r)) none }
placing_sound coord call placing (Some errno) sound at some = at_idle coord sound

begun_sound : (coord : CoordState) (call : CallRec) (placing : Option Placing) → IsTrue (are_operations coord.waiting) → IsTrue (is_operation call.op) → is_busy call.op ≡ false
    → placing_of call.op ≡ placing → WorkIsSound (begun_by coord call placing)
begun_sound coord call None sound is apart at = walk_sound coord call sound (not_busy call.op is at apart)
begun_sound coord call (Some placing) sound is apart at = placing_sound coord call placing (place_refusal coord.table call.cred placing) sound at refl

start_sound : (coord : CoordState) (call : CallRec) → IsTrue (are_operations coord.waiting) → IsTrue (is_operation call.op) → WorkIsSound (start coord call)
start_sound coord call sound is =
    elim (is_busy call.op) as (λ b. is_busy call.op ≡ b → WorkIsSound (cond b (given_up coord call (Here 0) Ebusy) (begun_by coord call (placing_of call.op)))) [
      | true ↦ λ busy. at_idle coord sound
      | false ↦ λ apart. begun_sound coord call (placing_of call.op) sound is apart refl
    ] refl

first_true : (a b : Bool) → IsTrue (a && b) → IsTrue a
first_true true b is = refl
first_true false b is = absurd (cc)

second_true : (a b : Bool) → IsTrue (a && b) → IsTrue b
second_true true b is = is
second_true false b is = absurd (cc)

-- the first call that waits is an operation, and so are the others
pub first_operation : (call : CallRec) (calls : List CallRec) → IsTrue (are_operations (call ∷ calls)) → IsTrue (is_operation call.op)
first_operation call calls sound = first_true (is_operation call.op) (are_operations calls) sound

first_sound : (coord : CoordState) (calls : List CallRec) → IsTrue (are_operations calls) → ForSome (start_first coord calls) WorkIsSound
unfolding started
first_sound coord [] sound work is = absurd (cc)
first_sound coord (call ∷ calls) sound work is =
    let same : start (started coord calls) call ≡ work = cc in
    subst WorkIsSound same (start_sound (started coord calls) call (second_true (is_operation call.op) (are_operations calls) sound) (first_operation call calls sound))

begin_sound : (coord : CoordState) (stage : Stage) → IsTrue (are_operations coord.waiting) → ForSome (begin coord stage) WorkIsSound
begin_sound coord Idle sound work is = first_sound coord coord.waiting sound work is
begin_sound coord (Walk call number key) sound work is = absurd (cc)
begin_sound coord (Lock operation missing rows) sound work is = absurd (cc)
begin_sound coord (Count operation rows dir updates missing counts) sound work is = absurd (cc)
begin_sound coord (Finish keys updates missing) sound work is = absurd (cc)
begin_sound coord (Block call missing rows) sound work is = absurd (cc)
begin_sound coord (Install call missing) sound work is = absurd (cc)

-- ---- a record comes

one_more : (calls : List CallRec) (call : CallRec) → IsTrue (are_operations calls) → IsTrue (is_operation call.op) → IsTrue (are_operations (calls ++ call ∷ []))
one_more [] call sound is = ap (λ b. b && true) is
one_more (first ∷ calls) call sound is = (λ i. first_true (is_operation first.op) (are_operations calls) sound i && one_more calls call (second_true (is_operation first.op) (are_operations calls) sound) is i)

module _ (coord : CoordState) (sound : IsSound coord.table coord.waiting coord.stage) where
  call_sound : (call : CallRec) → WorkIsSound (begun (take_call coord call))
  unfolding taken
  call_sound call =
      elim (is_operation call.op) as (λ b. is_operation call.op ≡ b → WorkIsSound (begun (cond (b && is_newer (mark_of call.id) (last_mark coord.last call.id.client)) (taken coord call) coord))) [
        | true ↦ λ is. elim (is_newer (mark_of call.id) (last_mark coord.last call.id.client)) as (λ b. WorkIsSound (begun (cond b (taken coord call) coord))) [
          | true ↦ record { calls_waiting = one_more coord.waiting call sound.calls_waiting is; stage_suits = sound.stage_suits }
          | false ↦ sound
        ]
        | false ↦ λ is. sound
      ] refl

  found_sound : (point : ℕ) (call : CallRec) (key : Key) (what : Found) → IsTrue (is_walked call.op) → WorkIsSound (found_at coord point call key what)
  unfolding learned
  found_sound point call key (found.Dir dentry) is = walk_sound (learned coord key dentry) call sound.calls_waiting is
  found_sound point call key found.Nothing is = at_idle coord sound.calls_waiting
  found_sound point call key found.File is = at_idle coord sound.calls_waiting

  if_sound : (b : Bool) (work : Work) → WorkIsSound work → WorkIsSound (cond b work (begun coord))
  if_sound true work is = is
  if_sound false work is = sound

  fetched_sound : (point number : ℕ) (key : Key) (what : Found) (stage : Stage) → IsTrue (is_sound_stage coord.table stage) → WorkIsSound (take_found coord point number key what stage)
  unfolding is_sound_stage
  fetched_sound point number key what (Walk call awaited wanted) is = if_sound (number == awaited) (found_at coord point call key what) (found_sound point call key what is)
  fetched_sound point number key what Idle is = sound
  fetched_sound point number key what (Lock operation missing rows) is = sound
  fetched_sound point number key what (Count operation rows dir updates missing counts) is = sound
  fetched_sound point number key what (Finish keys updates missing) is = sound
  fetched_sound point number key what (Block call missing rows) is = sound
  fetched_sound point number key what (Install call missing) is = sound

  judged_sound : (operation : Operation) (rows : List Update) (judged : Judged) → IsTrue (is_decidable operation) → WorkIsSound (judged_work coord operation rows judged)
  unfolding decided counting is_sound_stage
  judged_sound operation rows (judged.Fail errno) is = record { calls_waiting = sound.calls_waiting; stage_suits = refl }
  judged_sound operation rows judged.Same is = record { calls_waiting = sound.calls_waiting; stage_suits = refl }
  judged_sound operation rows (judged.Change updates) is = record { calls_waiting = sound.calls_waiting; stage_suits = refl }
  judged_sound operation rows (judged.Count dir updates) is = record { calls_waiting = sound.calls_waiting; stage_suits = is }

  lock_sound : (operation : Operation) (rows : List Update) (missing : List ℕ) → IsTrue (is_decidable operation) → WorkIsSound (lock_heard coord operation rows missing)
  unfolding is_sound_stage
  lock_sound operation rows [] is = judged_sound operation rows (verdict_on operation rows) is
  lock_sound operation rows (node ∷ missing) is = record { calls_waiting = sound.calls_waiting; stage_suits = is }

  locked_sound : (number node : ℕ) (told : List Update) (stage : Stage) → IsTrue (is_sound_stage coord.table stage) → WorkIsSound (take_locked coord number node told stage)
  unfolding is_sound_stage
  locked_sound number node told (Lock operation missing rows) is =
      if_sound ((number == coord.operation) && is_missing node missing) (lock_heard coord operation (rows ++ told) (without_node node missing)) (lock_sound operation (rows ++ told) (without_node node missing) is)
  locked_sound number node told Idle is = sound
  locked_sound number node told (Walk call awaited wanted) is = sound
  locked_sound number node told (Count operation rows dir updates missing counts) is = sound
  locked_sound number node told (Finish keys updates missing) is = sound
  locked_sound number node told (Block call missing rows) is = sound
  locked_sound number node told (Install call missing) is = sound

  count_sound : (operation : Operation) (rows : List Update) (dir : ℕ) (updates : List Update) (counts missing : List ℕ) → IsTrue (is_decidable operation) → WorkIsSound (count_heard coord operation rows dir updates counts missing)
  unfolding is_sound_stage
  count_sound operation rows dir updates counts [] is = judged_sound operation rows (counted_of counts updates) is
  count_sound operation rows dir updates counts (node ∷ missing) is = record { calls_waiting = sound.calls_waiting; stage_suits = is }

  counted_sound : (number node count : ℕ) (stage : Stage) → IsTrue (is_sound_stage coord.table stage) → WorkIsSound (take_counted coord number node count stage)
  unfolding is_sound_stage
  counted_sound number node count (Count operation rows dir updates missing counts) is =
      if_sound ((number == coord.operation) && is_missing node missing) (count_heard coord operation rows dir updates (counts ++ count ∷ []) (without_node node missing)) (count_sound operation rows dir updates (counts ++ count ∷ []) (without_node node missing) is)
  counted_sound number node count Idle is = sound
  counted_sound number node count (Walk call awaited wanted) is = sound
  counted_sound number node count (Lock operation missing rows) is = sound
  counted_sound number node count (Finish keys updates missing) is = sound
  counted_sound number node count (Block call missing rows) is = sound
  counted_sound number node count (Install call missing) is = sound

  finish_suits : (keys : List Key) (updates : List Update) (missing : List ℕ) → IsTrue (is_sound_stage coord.table (finish_at keys updates missing))
  unfolding is_sound_stage
  finish_suits keys updates [] = refl
  finish_suits keys updates (node ∷ missing) = refl

  done_sound : (number node : ℕ) (stage : Stage) → WorkIsSound (begun (take_done coord number node stage))
  unfolding is_sound_stage
  done_sound number node (Finish keys updates missing) =
      elim ((number == coord.operation) && is_missing node missing) as (λ b. WorkIsSound (begun (cond b (at_stage coord (finish_at keys updates (without_node node missing))) coord))) [
        | true ↦ record { calls_waiting = sound.calls_waiting; stage_suits = finish_suits keys updates (without_node node missing) }
        | false ↦ sound
      ]
  done_sound number node Idle = sound
  done_sound number node (Walk call awaited wanted) = sound
  done_sound number node (Lock operation missing rows) = sound
  done_sound number node (Count operation rows dir updates missing counts) = sound
  done_sound number node (Block call missing rows) = sound
  done_sound number node (Install call missing) = sound

  placed_sound : (call : CallRec) (rows : List NamedRow) (placing : Option Placing) → WorkIsSound (placed_by coord call rows placing)
  unfolding name_placed is_sound_stage
  placed_sound call rows None = sound
  placed_sound call rows (Some placing) = record { calls_waiting = sound.calls_waiting; stage_suits = refl }

  block_sound : (call : CallRec) (rows : List NamedRow) (missing : List ℕ) → IsTrue (is_placeable coord.table call (placing_of call.op)) → WorkIsSound (block_heard coord call rows missing)
  unfolding is_sound_stage
  block_sound call rows [] is = placed_sound call rows (placing_of call.op)
  block_sound call rows (node ∷ missing) is = record { calls_waiting = sound.calls_waiting; stage_suits = is }

  blocked_sound : (number node : ℕ) (told : List NamedRow) (stage : Stage) → IsTrue (is_sound_stage coord.table stage) → WorkIsSound (take_blocked coord number node told stage)
  unfolding is_sound_stage
  blocked_sound number node told (Block call missing rows) is =
      if_sound ((number == coord.operation) && is_missing node missing) (block_heard coord call (rows ++ told) (without_node node missing)) (block_sound call (rows ++ told) (without_node node missing) is)
  blocked_sound number node told Idle is = sound
  blocked_sound number node told (Walk call awaited wanted) is = sound
  blocked_sound number node told (Lock operation missing rows) is = sound
  blocked_sound number node told (Count operation rows dir updates missing counts) is = sound
  blocked_sound number node told (Finish keys updates missing) is = sound
  blocked_sound number node told (Install call missing) is = sound

  install_suits : (call : CallRec) (missing : List ℕ) → IsTrue (is_sound_stage coord.table (install_at call missing))
  unfolding is_sound_stage
  install_suits call [] = refl
  install_suits call (node ∷ missing) = refl

  installed_sound : (number node : ℕ) (stage : Stage) → WorkIsSound (begun (take_installed coord number node stage))
  installed_sound number node (Install call missing) =
      elim ((number == coord.operation) && is_missing node missing) as (λ b. WorkIsSound (begun (cond b (at_stage coord (install_at call (without_node node missing))) coord))) [
        | true ↦ record { calls_waiting = sound.calls_waiting; stage_suits = install_suits call (without_node node missing) }
        | false ↦ sound
      ]
  installed_sound number node Idle = sound
  installed_sound number node (Walk call awaited wanted) = sound
  installed_sound number node (Lock operation missing rows) = sound
  installed_sound number node (Count operation rows dir updates missing counts) = sound
  installed_sound number node (Finish keys updates missing) = sound
  installed_sound number node (Block call missing rows) = sound

  message_sound : (point : ℕ) (message : Message) → WorkIsSound (take_message coord point message)
  message_sound point (message.Call call) = call_sound call
  message_sound point (message.FetchGot number key what) = fetched_sound point number key what coord.stage sound.stage_suits
  message_sound point (message.Locked number node rows) = locked_sound number node rows coord.stage sound.stage_suits
  message_sound point (message.Counted number node count) = counted_sound number node count coord.stage sound.stage_suits
  message_sound point (message.Done number node) = done_sound number node coord.stage
  message_sound point (message.Reply id reply) = sound
  message_sound point (message.Stale id old new changes) = sound
  message_sound point (message.Opened id dir) = sound
  message_sound point (message.ListAsk id version dir) = sound
  message_sound point (message.ListPart id from names) = sound
  message_sound point (message.FetchAsk asker number key) = sound
  message_sound point (message.Lock number keys) = sound
  message_sound point (message.Count number dir) = sound
  message_sound point (message.Commit number updates) = sound
  message_sound point (message.Block number name) = sound
  message_sound point (message.Blocked number node rows) = blocked_sound number node rows coord.stage sound.stage_suits
  message_sound point (message.Install number version rule rows) = sound
  message_sound point (message.Installed number node) = installed_sound number node coord.stage

  read_sound : (point : ℕ) (read : Result Message WireFault) → WorkIsSound (take_read coord point read)
  read_sound point (Ok message) = message_sound point message
  read_sound point (Err fault) = sound

  heard_sound : (envelope : Envelope) → WorkIsSound (heard coord envelope)
  unfolding heard
  heard_sound envelope = read_sound envelope.point (reading envelope.bytes)

  hear_sound : (b : Bool) (envelope : Envelope) → ForSome (cond b (Some (heard coord envelope)) None) WorkIsSound
  hear_sound true envelope work is = let same : heard coord envelope ≡ work = cc in subst WorkIsSound same (heard_sound envelope)
  hear_sound false envelope work is = absurd (cc)

pub step_sound : (coord : CoordState) (event : CoordEvent) → IsSound coord.table coord.waiting coord.stage → ForSome (coord_step coord event) WorkIsSound
unfolding coord_step
step_sound coord (Hear envelope) sound = hear_sound coord sound (is_to_coord envelope.to) envelope
step_sound coord Start sound = begin_sound coord coord.stage sound.calls_waiting

-- ---- where no operation is under way

pub idle_sound : (table : Placement) (waiting : List CallRec) (stage : Stage) → IsTrue (are_operations waiting) → stage ≡ Idle → IsSound table waiting stage
unfolding is_sound_stage
idle_sound table waiting stage waits idle = subst (λ s. IsSound table waiting s) (sym idle) (record { calls_waiting = waits; stage_suits = refl })

pub opening_sound : (table : Placement) (waiting : List CallRec) (stage : Stage) → waiting ≡ [] → stage ≡ Idle → IsSound table waiting stage
opening_sound table waiting stage none idle = idle_sound table waiting stage (subst (λ w. IsTrue (are_operations w)) (sym none) refl) idle
