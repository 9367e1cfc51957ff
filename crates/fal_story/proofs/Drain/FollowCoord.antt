-- Each call under way is found after an event of the coordinator: it keeps the call, or answers it.
use Rattle.std.proofs.Common.{◌≡◌, ◌⊎◌, inl, inr, ⊎_elim, ℕ, true, false, ◌&&◌, cond, List, [], ◌∷◌, ◌++◌, Option, None, Some, refl, sym, ap, subst}
use Rattle.std.specs.Prelude.{◌==◌}
use Rattle.fal_base.specs.declared.call.CallRec.{CallRec}
use Rattle.fal_base.specs.declared.event.Note.{Note}
use Rattle.fal_base.specs.declared.event.Point.{Point}
use Rattle.fal_base.specs.declared.event.Point.TheVariants.{Here, Carried}
use Rattle.fal_base.specs.declared.key.Key.{Key}
use Rattle.fal_base.specs.declared.reply.Errno.{Errno}
use Rattle.fal_base.specs.declared.reply.Errno.TheVariants.{Enoent, Enotdir}
use Rattle.fal_base.specs.declared.reply.Reply.{Reply}
use Rattle.fal_base.specs.declared.reply.Reply.TheVariants as reply
use Rattle.fal_base.specs.declared.row.NamedRow.{NamedRow}
use Rattle.fal_base.specs.declared.row.Update.{Update}
use Rattle.fal_coord.specs.declared.paths_walk.PathsWalk.{PathsWalk}
use Rattle.fal_coord.specs.declared.paths_walk.PathsWalk.TheVariants.{Stopped, Lacking, Ready}
use Rattle.fal_coord.specs.declared.stage.Operation.{Operation}
use Rattle.fal_coord.specs.declared.stage.Stage.{Stage}
use Rattle.fal_coord.specs.declared.stage.Stage.TheVariants as stage
use Rattle.fal_coord.specs.Begin.{walk_step, walked_as, asking, locking, given_up, placing_by, begun_by}
use Rattle.fal_coord.specs.Decide.{counting, decided, judged_work, commit_note, verdict_on}
use Rattle.fal_coord.specs.Hear.{learned, found_at, take_found, lock_heard, take_locked, count_heard, take_counted, finish_at, take_done, block_heard, take_blocked, install_at, take_installed, take_message}
use Rattle.fal_coord.specs.Judged as judged
use Rattle.fal_coord.specs.Judged.{Judged, counted_of}
use Rattle.fal_coord.specs.Nodes.{is_missing, without_node, to_nodes}
use Rattle.fal_coord.specs.Place.{blocking, install_letters, name_placed, place_refusal, placed_by}
use Rattle.fal_coord.specs.State.{CoordState, Work, begun, at_stage}
use Rattle.fal_coord.specs.Walks.{placing_of, walk_paths, walked_paths}
use Rattle.fal_move.specs.Moving.{by_parent}
use Rattle.fal_place.specs.Placement.{Placing, with_rule}
use Rattle.fal_wire.specs.declared.message.Found.{Found}
use Rattle.fal_wire.specs.declared.message.Found.TheVariants as found
use Rattle.fal_wire.specs.declared.message.Message.{Message}
use Rattle.fal_wire.specs.declared.message.Message.TheVariants as message
use Rattle.fal_wire.specs.Letters.{reply_letter}
use Rattle.fal_story.proofs.Drain.Follow.{calls_of, hosted}
use Rattle.fal_story.proofs.Drain.FollowExec.{IsReplied}
use Rattle.fal_story.proofs.Lists.Joined.{in_back}
use Rattle.fal_story.proofs.Lists.Members.{IsIn}

-- ---- what becomes of the calls that the coordinator keeps

-- it keeps the call, or answers it
abbrev pub StaysHosted : Work → CallRec → Type 0
StaysHosted k c = IsIn c (hosted k.coord) ⊎ IsReplied k.sent c

-- the one call, or one of those that wait
abbrev pub IsOneOf : CallRec → CoordState → CallRec → Type 0
IsOneOf call coord c = (call ≡ c) ⊎ IsIn c coord.waiting

replied_first : (call c : CallRec) (point : Point) (answer : Reply) → call ≡ c → IsReplied (reply_letter call point answer ∷ []) c
replied_first call c point answer same = (point, (answer, inl (ap (λ (x : CallRec). reply_letter x point answer) same)))

pub given_stays : (coord : CoordState) (call c : CallRec) (point : Point) (errno : Errno) → IsOneOf call coord c → StaysHosted (given_up coord call point errno) c
given_stays coord call c point errno one = ⊎_elim (λ same. inr (replied_first call c point (reply.Fail errno) same)) (λ waits. inl waits) one

walked_stays : (coord : CoordState) (call c : CallRec) (end : PathsWalk) → IsOneOf call coord c → StaysHosted (walked_as coord call end) c
unfolding asking locking
walked_stays coord call c (Stopped errno) one = given_stays coord call c (Here 0) errno one
walked_stays coord call c (Lacking key) one = inl one
walked_stays coord call c (Ready walks) one = inl one

pub walk_stays : (coord : CoordState) (call c : CallRec) → IsOneOf call coord c → StaysHosted (walk_step coord call) c
unfolding walk_step
walk_stays coord call c one = walked_stays coord call c (walk_paths coord.replica call.cred (walked_paths call.op)) one

-- a placement is refused, or the coordinator keeps its call
placing_stays : (coord : CoordState) (call c : CallRec) (placing : Placing) (refused : Option Errno) → IsOneOf call coord c → StaysHosted (placing_by coord call placing refused) c
unfolding blocking
placing_stays coord call c placing None one = inl one
placing_stays coord call c placing (Some errno) one = given_stays coord call c (Here 0) errno one

pub begun_stays : (coord : CoordState) (call c : CallRec) (o : Option Placing) → IsOneOf call coord c → StaysHosted (begun_by coord call o) c
begun_stays coord call c None one = walk_stays coord call c one
begun_stays coord call c (Some placing) one = placing_stays coord call c placing (place_refusal coord.table call.cred placing) one

decided_stays : (coord : CoordState) (operation : Operation) (updates : List Update) (notes : List Note) (answer : Reply) (c : CallRec) → IsOneOf operation.call coord c → StaysHosted (decided coord operation updates notes answer) c
unfolding decided
decided_stays coord operation updates notes answer c one =
    ⊎_elim
    (λ same. let told = replied_first operation.call c (Here 0) answer same in inr (told.0, (told.1.0, in_back (to_nodes coord.table.nodes (message.Commit coord.operation updates)) (reply_letter operation.call (Here 0) answer ∷ []) _ told.1.1)))
    (λ waits. inl waits) one

judged_stays : (coord : CoordState) (operation : Operation) (rows : List Update) (j : Judged) (c : CallRec) → IsOneOf operation.call coord c → StaysHosted (judged_work coord operation rows j) c
unfolding counting
judged_stays coord operation rows (judged.Fail errno) c one = decided_stays coord operation [] [] (reply.Fail errno) c one
judged_stays coord operation rows judged.Same c one = decided_stays coord operation [] [] reply.Fine c one
judged_stays coord operation rows (judged.Change updates) c one = decided_stays coord operation updates (commit_note operation ∷ []) reply.Fine c one
judged_stays coord operation rows (judged.Count dir updates) c one = inl one

-- ---- a record that is no call

found_stays : (coord : CoordState) (point : ℕ) (call : CallRec) (key : Key) (what : Found) (c : CallRec) → IsOneOf call coord c → StaysHosted (found_at coord point call key what) c
unfolding learned
found_stays coord point call key (found.Dir dentry) c one = walk_stays (learned coord key dentry) call c one
found_stays coord point call key found.Nothing c one = given_stays coord call c (Carried point) Enoent one
found_stays coord point call key found.File c one = given_stays coord call c (Carried point) Enotdir one

-- what the stage keeps is the operation's call
at_host : (coord : CoordState) (t : Stage) (c : CallRec) → coord.stage ≡ t → IsIn c (calls_of t ++ coord.waiting) → StaysHosted (begun coord) c
at_host coord t c at one = inl (subst (λ u. IsIn c (calls_of u ++ coord.waiting)) (sym at) one)

got_stays : (coord : CoordState) (point number : ℕ) (key : Key) (what : Found) (t : Stage) (c : CallRec) → coord.stage ≡ t → IsIn c (calls_of t ++ coord.waiting) → StaysHosted (take_found coord point number key what t) c
got_stays coord point number key what (stage.Walk call awaited wanted) c at one =
    elim (number == awaited) as (λ b. StaysHosted (cond b (found_at coord point call key what) (begun coord)) c) [ true ↦ found_stays coord point call key what c one | false ↦ at_host coord (stage.Walk call awaited wanted) c at one ]
got_stays coord point number key what other c at one = at_host coord other c at one

locked_stays : (coord : CoordState) (number node : ℕ) (told : List Update) (t : Stage) (c : CallRec) → coord.stage ≡ t → IsIn c (calls_of t ++ coord.waiting) → StaysHosted (take_locked coord number node told t) c
locked_stays coord number node told (stage.Lock operation missing rows) c at one =
    elim ((number == coord.operation) && is_missing node missing) as (λ b. StaysHosted (cond b (lock_heard coord operation (rows ++ told) (without_node node missing)) (begun coord)) c) [
      | true ↦ elim (without_node node missing) as (λ ms. StaysHosted (lock_heard coord operation (rows ++ told) ms) c) [
        | [] ↦ judged_stays coord operation (rows ++ told) (verdict_on operation (rows ++ told)) c one
        | y ∷ ys ↦ inl one
      ]
      | false ↦ at_host coord (stage.Lock operation missing rows) c at one
    ]
locked_stays coord number node told other c at one = at_host coord other c at one

counted_stays : (coord : CoordState) (number node count : ℕ) (t : Stage) (c : CallRec) → coord.stage ≡ t → IsIn c (calls_of t ++ coord.waiting) → StaysHosted (take_counted coord number node count t) c
counted_stays coord number node count (stage.Count operation rows dir updates missing counts) c at one =
    elim ((number == coord.operation) && is_missing node missing) as (λ b. StaysHosted (cond b (count_heard coord operation rows dir updates (counts ++ count ∷ []) (without_node node missing)) (begun coord)) c) [
      | true ↦ elim (without_node node missing) as (λ ms. StaysHosted (count_heard coord operation rows dir updates (counts ++ count ∷ []) ms) c) [
        | [] ↦ judged_stays coord operation rows (counted_of (counts ++ count ∷ []) updates) c one
        | y ∷ ys ↦ inl one
      ]
      | false ↦ at_host coord (stage.Count operation rows dir updates missing counts) c at one
    ]
counted_stays coord number node count other c at one = at_host coord other c at one

done_stays : (coord : CoordState) (number node : ℕ) (t : Stage) (c : CallRec) → coord.stage ≡ t → IsIn c (calls_of t ++ coord.waiting) → StaysHosted (begun (take_done coord number node t)) c
done_stays coord number node (stage.Finish keys updates missing) c at one =
    elim ((number == coord.operation) && is_missing node missing) as (λ b. StaysHosted (begun (cond b (at_stage coord (finish_at keys updates (without_node node missing))) coord)) c) [
      | true ↦ elim (without_node node missing) as (λ ms. StaysHosted (begun (at_stage coord (finish_at keys updates ms))) c) [ [] ↦ inl one | y ∷ ys ↦ inl one ]
      | false ↦ at_host coord (stage.Finish keys updates missing) c at one
    ]
done_stays coord number node other c at one = at_host coord other c at one

-- a name is placed, and its call answered
placed_stays : (coord : CoordState) (call c : CallRec) (rows : List NamedRow) (o : Option Placing) → StaysHosted (begun coord) c → IsOneOf call coord c → StaysHosted (placed_by coord call rows o) c
unfolding name_placed
placed_stays coord call c rows None stays one = stays
placed_stays coord call c rows (Some placing) stays one =
    ⊎_elim
    (λ same. let told = replied_first call c (Here 0) reply.Fine same in
    inr (told.0, (told.1.0, in_back (install_letters coord.operation (with_rule coord.table placing.name placing.rule) placing (by_parent rows)) (reply_letter call (Here 0) reply.Fine ∷ []) _ told.1.1)))
    (λ waits. inl waits)
    one

blocked_stays : (coord : CoordState) (number node : ℕ) (told : List NamedRow) (t : Stage) (c : CallRec) → coord.stage ≡ t → IsIn c (calls_of t ++ coord.waiting) → StaysHosted (take_blocked coord number node told t) c
blocked_stays coord number node told (stage.Block call missing rows) c at one =
    elim ((number == coord.operation) && is_missing node missing) as (λ b. StaysHosted (cond b (block_heard coord call (rows ++ told) (without_node node missing)) (begun coord)) c) [
      | true ↦ elim (without_node node missing) as (λ ms. StaysHosted (block_heard coord call (rows ++ told) ms) c) [
        | [] ↦ placed_stays coord call c (rows ++ told) (placing_of call.op) (at_host coord (stage.Block call missing rows) c at one) one
        | y ∷ ys ↦ inl one
      ]
      | false ↦ at_host coord (stage.Block call missing rows) c at one
    ]
blocked_stays coord number node told other c at one = at_host coord other c at one

installed_stays : (coord : CoordState) (number node : ℕ) (t : Stage) (c : CallRec) → coord.stage ≡ t → IsIn c (calls_of t ++ coord.waiting) → StaysHosted (begun (take_installed coord number node t)) c
installed_stays coord number node (stage.Install call missing) c at one =
    elim ((number == coord.operation) && is_missing node missing) as (λ b. StaysHosted (begun (cond b (at_stage coord (install_at call (without_node node missing))) coord)) c) [
      | true ↦ elim (without_node node missing) as (λ ms. StaysHosted (begun (at_stage coord (install_at call ms))) c) [ [] ↦ inl one | y ∷ ys ↦ inl one ]
      | false ↦ at_host coord (stage.Install call missing) c at one
    ]
installed_stays coord number node other c at one = at_host coord other c at one

-- each call that is kept is so after the record, which is no call
pub message_stays : (coord : CoordState) (point : ℕ) (read : Message) (c : CallRec) → ((call : CallRec) → read ≡ message.Call call → ⊥) → IsIn c (hosted coord) → StaysHosted (take_message coord point read) c
message_stays coord point (message.Call call) c no_call one = absurd (no_call call refl)
message_stays coord point (message.FetchGot number key what) c no_call one = got_stays coord point number key what coord.stage c refl one
message_stays coord point (message.Locked number node rows) c no_call one = locked_stays coord number node rows coord.stage c refl one
message_stays coord point (message.Counted number node count) c no_call one = counted_stays coord number node count coord.stage c refl one
message_stays coord point (message.Done number node) c no_call one = done_stays coord number node coord.stage c refl one
message_stays coord point (message.Blocked number node rows) c no_call one = blocked_stays coord number node rows coord.stage c refl one
message_stays coord point (message.Installed number node) c no_call one = installed_stays coord number node coord.stage c refl one
message_stays coord point other c no_call one = inl one
