-- The coordinator keeps to the ranges.
use Rattle.std.proofs.Common.{◌≡◌, ⊎_elim, ℕ, ◌<◌, ◌≤◌, ◌^◌, ◌==◌, ◌&&◌, ◌||◌, Bool, true, false, cond, List, [], ◌∷◌, ◌++◌, Option, Some, None, Result, Ok, refl, sym, ap, subst, ◌∙◌, arith}
use Rattle.std.specs.Prelude.{IsTrue, is_some}
use Rattle.std.proofs.lemmas.Option.{same_Some}
use Rattle.fal_base.specs.declared.call.CallRec.{CallRec}
use Rattle.fal_base.specs.declared.event.Envelope.{Envelope}
use Rattle.fal_base.specs.declared.event.Note.{Note}
use Rattle.fal_base.specs.declared.event.Point.TheVariants.{Here, Carried}
use Rattle.fal_base.specs.declared.inode.Dentry.{Dentry}
use Rattle.fal_base.specs.declared.key.Key.{Key}
use Rattle.fal_base.specs.declared.reply.Errno.TheVariants.{Ebusy, Enoent, Enotdir}
use Rattle.fal_base.specs.declared.reply.Reply.{Reply}
use Rattle.fal_base.specs.declared.reply.Reply.TheVariants as reply
use Rattle.fal_base.specs.declared.row.NamedRow.{NamedRow}
use Rattle.fal_base.specs.declared.row.Update.{Update}
use Rattle.fal_base.specs.Marks.{is_newer, last_mark, mark_of}
use Rattle.fal_base.proofs.Maps.{put_cases}
use Rattle.fal_coord.specs.declared.event.CoordEvent.TheVariants.{Hear, Start}
use Rattle.fal_coord.specs.declared.paths_walk.PathsWalk.{PathsWalk}
use Rattle.fal_coord.specs.declared.paths_walk.PathsWalk.TheVariants.{Stopped, Lacking, Ready}
use Rattle.fal_coord.specs.declared.stage.Operation.{Operation}
use Rattle.fal_coord.specs.declared.stage.Stage.{Stage}
use Rattle.fal_coord.specs.declared.stage.Stage.TheVariants.{Idle, Walk, Lock, Count, Finish, Block, Install}
use Rattle.fal_coord.specs.Begin.{given_up, ask_letter, asking, locking, walked_as, walk_step, begun_by, start, started, start_first, begin}
use Rattle.fal_coord.specs.Decide.{verdict_on, counting, decided, commit_note, judged_work}
use Rattle.fal_coord.specs.Hear.{taken, take_call, learned, found_at, take_found, lock_heard, take_locked, count_heard, take_counted, finish_at, take_done, take_message, take_read, heard}
use Rattle.fal_coord.specs.Judged as judged
use Rattle.fal_coord.specs.Judged.{Judged, counted_of}
use Rattle.fal_coord.specs.Nodes.{is_missing, numbers_below, to_nodes, without_node}
use Rattle.fal_coord.specs.Place.{place_refusal}
use Rattle.fal_coord.specs.State.{CoordState, Work, begun, at_stage}
use Rattle.fal_coord.specs.Step.{coord_step, is_to_coord}
use Rattle.fal_coord.specs.Walks.{is_busy, is_operation, is_walking, last_inos, parents_of, placing_of, walked_paths, walk_paths, with_ends}
use Rattle.fal_dentry.specs.Walk.{without_keys}
use Rattle.fal_wire.specs.declared.fault.WireFault.{WireFault}
use Rattle.fal_place.specs.Placement.{Placing}
use Rattle.fal_wire.specs.declared.message.Found.{Found}
use Rattle.fal_wire.specs.declared.message.Found.TheVariants as found
use Rattle.fal_wire.specs.declared.message.Message.{Message}
use Rattle.fal_wire.specs.declared.message.Message.TheVariants as message
use Rattle.fal_wire.specs.Letters.{reply_letter}
use Rattle.fal_wire.specs.Messages.{reading}
use Rattle.fal_wire.specs.Names.{key_field}
use Rattle.fal_wire.specs.Ops.{call_field}
use Rattle.fal_wire.specs.Rows.{dentry_field, reply_field, updates_field}
use Rattle.fal_wire.proofs.ReadingLaws.{spelled_reads}
use Rattle.fal_story.proofs.Lists.Each.{Each, each_join}
use Rattle.fal_story.proofs.Ranges.Bounds.{IsRecord}
use Rattle.fal_story.proofs.Ranges.CoordBounds.{AreGiven, IsCarried, IsCoordRanged, IsOperationRanged, IsStageRanged, IsWalked, RowsFit}
use Rattle.fal_story.proofs.Ranges.CoordParts.{IsAt, IsBase, KeepsRanges, all_fit, answer_fits, given_up_keeps, keeps_at, keeps_same, number_fits}
use Rattle.fal_story.proofs.Ranges.CoordPaths.{few_paths, paths_named}
use Rattle.fal_story.proofs.Ranges.CoordVerdicts.{JudgedFits, counts_fit, verdict_fits}
use Rattle.fal_story.proofs.Ranges.CoordWalks.{ArePathsFit, ends_are, paths_fit, without_ranged}
use Rattle.fal_story.proofs.Ranges.GivenNews.{StaysFew}
use Rattle.fal_story.proofs.Ranges.MessageRanges.{ask_fits, call_of_record, coord_asks, fail_fits, fine_fits, got_dentry}
use Rattle.fal_story.proofs.Ranges.NodeRanges.{LetterFits, letters_fit}
use Rattle.fal_story.proofs.Ranges.OperationRecords.{commit_fits, count_fits, keys_fit, lock_fits, locked_fields, rows_of_updates, updates_are, updates_fit}
use Rattle.fal_story.proofs.Ranges.PlaceRanges.{blocked_keeps, installed_keeps, placing_fits, placing_keeps}
use Rattle.fal_story.proofs.Ranges.PlaceRecords.{ascend_apart, blocked_fields, rows_are}
use Rattle.fal_story.proofs.Ranges.RecordFits.{RecordFits, fits_of}
use Rattle.fal_story.proofs.Ranges.RowRanges.{op_of_call}

-- ---- a walk

asking_keeps : (events : ℕ) (c : CoordState) (call : CallRec) (key : Key) → IsBase events c → 0 < c.operation → IsWalked call → key_field.Fits key → KeepsRanges events (asking c call key)
unfolding asking
asking_keeps events c call key base some carried fits =
    let few = base.few in
    let asked = base.asked in
    let operation = base.operation in
    let version = base.version in
    let letters : Each LetterFits (ask_letter c key ∷ []) = (ask_fits 255 c.asked key coord_asks (omega arith) fits, tt) in
    record {
      within = record { records = letters_fit (ask_letter c key ∷ []) letters; operation = omega arith; asked = omega arith; version = omega arith };
      letters = letters;
      ranged = record { waiting = base.waiting; replica = base.replica; stage = (some, carried); asked = omega arith };
    }

walked_keeps : (events : ℕ) (c : CoordState) (call : CallRec) (end : PathsWalk) → IsBase events c → 0 < c.operation → IsWalked call → ArePathsFit (walked_paths call.op) end → KeepsRanges events (walked_as c call end)
unfolding locking
walked_keeps events c call (Stopped errno) base some carried end = given_up_keeps events c call (Here 0) errno base carried.0
walked_keeps events c call (Lacking key) base some carried end = asking_keeps events c call key base some carried end
walked_keeps events c call (Ready walks) base some carried end =
    let given = few_paths call.op carried.1 in
    let keys = with_ends [] (walked_paths call.op) walks in
    let are = ends_are (walked_paths call.op) walks given.0 given.1 end in
    let lock = message.Lock c.operation keys in
    let operation : Operation = record { call = call; keys = keys; walks = walks } in
    keeps_at events c (Lock operation (numbers_below c.table.nodes) []) (to_nodes c.table.nodes lock) [] base (some, record { call = carried.0; ends = end }, tt)
    (all_fit c.table.nodes lock (lock_fits c.operation keys (number_fits events c base some) (keys_fit keys are.some are.few are.fit)))

walk_keeps : (events : ℕ) (c : CoordState) (call : CallRec) → IsBase events c → 0 < c.operation → IsWalked call → KeepsRanges events (walk_step c call)
unfolding walk_step
walk_keeps events c call base some carried =
    walked_keeps events c call (walk_paths c.replica call.cred (walked_paths call.op)) base some carried
    (paths_fit c.replica call.cred (walked_paths call.op) base.replica (paths_named call.op (op_of_call call carried.0)))

begun_keeps : (events : ℕ) (c : CoordState) (call : CallRec) → IsBase events c → 0 < c.operation → IsCarried call → KeepsRanges events (begun_by c call (placing_of call.op))
begun_keeps events c call base some carried =
    elim (placing_of call.op) as (λ (p : Option Placing). placing_of call.op ≡ p → KeepsRanges events (begun_by c call p)) [
      | None ↦ λ none. walk_keeps events c call base some (carried.0, walks none)
      | Some placing ↦ λ is. placing_keeps events c call placing (place_refusal c.table call.cred placing) base some carried.0 (placing_fits call placing is carried.0).0
    ] refl
  where
    or_false : (b : Bool) → IsTrue (b || false) → IsTrue b
    or_false true is = refl
    or_false false is = is

    walks : placing_of call.op ≡ None → IsTrue (is_walking call.op)
    walks none = or_false (is_walking call.op) (sym (ap (λ p. is_walking call.op || is_some p) none) ∙ carried.1)

-- ---- an operation begins

first_keeps : (events : ℕ) (c : CoordState) (calls : List CallRec) (k : Work) → IsAt events c → c.operation ≤ 10000 → Each IsCarried calls → start_first c calls ≡ Some k → KeepsRanges events k
unfolding started
first_keeps events c [] k at few fits is = absurd (cc)
first_keeps events c (call ∷ calls) k at few fits is =
    let base = at.base in
    let next = started c calls in
    let begins : IsBase events next = record { few = base.few; waiting = fits.1; replica = base.replica; asked = base.asked; operation = omega arith; version = base.version } in
    let some : 0 < next.operation = omega arith in
    subst (KeepsRanges events) (same_Some (start next call) k is)
    (elim (is_busy call.op) as (λ b. KeepsRanges events (cond b (given_up next call (Here 0) Ebusy) (begun_by next call (placing_of call.op)))) [
      | true ↦ given_up_keeps events next call (Here 0) Ebusy begins fits.0.0
      | false ↦ begun_keeps events next call begins some fits.0
    ])

begin_keeps : (events : ℕ) (c : CoordState) (s : Stage) (k : Work) → IsAt events c → c.operation ≤ 10000 → begin c s ≡ Some k → KeepsRanges events k
begin_keeps events c Idle k at few is = first_keeps events c c.waiting k at few at.base.waiting is
begin_keeps events c (Walk call number key) k at few is = absurd (cc)
begin_keeps events c (Lock operation missing rows) k at few is = absurd (cc)
begin_keeps events c (Count operation rows dir updates missing counts) k at few is = absurd (cc)
begin_keeps events c (Finish keys updates missing) k at few is = absurd (cc)
begin_keeps events c (Block call missing rows) k at few is = absurd (cc)
begin_keeps events c (Install call missing) k at few is = absurd (cc)

-- ---- a call is heard

call_keeps : (events : ℕ) (c : CoordState) (call : CallRec) → IsAt events c → call_field.Fits call → KeepsRanges events (begun (take_call c call))
unfolding taken
call_keeps events c call at fits =
    let base = at.base in
    let newer = is_newer (mark_of call.id) (last_mark c.last call.id.client) in
    elim (is_operation call.op) as (λ b. is_operation call.op ≡ b → KeepsRanges events (begun (cond (b && newer) (taken c call) c))) [
      | true ↦ λ is. elim newer as (λ b. KeepsRanges events (begun (cond b (taken c call) c))) [
        | true ↦ keeps_same events (taken c call) (record {
          base = record { few = base.few; waiting = each_join IsCarried c.waiting (call ∷ []) base.waiting ((fits, is), tt); replica = base.replica; asked = base.asked; operation = base.operation; version = base.version };
          stage = at.stage;
        })
        | false ↦ keeps_same events c at
      ]
      | false ↦ λ _. keeps_same events c at
    ] refl

-- ---- what was found is heard

same_dentry : (a b : Dentry) → Some a ≡ Some b → a ≡ b
same_dentry a b e = cc

learned_base : (events : ℕ) (c : CoordState) (key : Key) (dentry : Dentry) → IsBase events c → dentry_field.Fits dentry → IsBase events (learned c key dentry)
unfolding learned
learned_base events c key dentry base fits = record {
  few = base.few;
  waiting = base.waiting;
  replica = λ q d is. ⊎_elim (λ e. subst dentry_field.Fits (same_dentry dentry d (sym e.1 ∙ is)) fits) (λ e. base.replica q d (sym e.1 ∙ is)) (put_cases q key dentry c.replica);
  asked = base.asked;
  operation = base.operation;
  version = base.version;
}

operation_same : (c : CoordState) (key : Key) (dentry : Dentry) → (learned c key dentry).operation ≡ c.operation
unfolding learned
operation_same c key dentry = refl

found_keeps : (events : ℕ) (c : CoordState) (point number : ℕ) (call : CallRec) (key : Key) (what : Found) → IsBase events c → 0 < c.operation → IsWalked call → RecordFits (message.FetchGot number key what)
    → KeepsRanges events (found_at c point call key what)
found_keeps events c point number call key (found.Dir dentry) base some carried fits =
    let same = operation_same c key dentry in
    walk_keeps events (learned c key dentry) call (learned_base events c key dentry base (got_dentry number key dentry fits)) (omega arith) carried
found_keeps events c point number call key found.Nothing base some carried fits = given_up_keeps events c call (Carried point) Enoent base carried.0
found_keeps events c point number call key found.File base some carried fits = given_up_keeps events c call (Carried point) Enotdir base carried.0

got_keeps : (events : ℕ) (c : CoordState) (point number : ℕ) (key : Key) (what : Found) (s : Stage) → IsAt events c → IsStageRanged c.operation s → RecordFits (message.FetchGot number key what)
    → KeepsRanges events (take_found c point number key what s)
got_keeps events c point number key what (Walk call awaited wanted) at stage fits =
    elim (number == awaited) as (λ b. KeepsRanges events (cond b (found_at c point call key what) (begun c))) [
      | true ↦ found_keeps events c point number call key what at.base stage.0 stage.1 fits
      | false ↦ keeps_same events c at
    ]
got_keeps events c point number key what other at stage fits = keeps_same events c at

-- ---- an operation is decided

decided_keeps : (events : ℕ) (c : CoordState) (operation : Operation) (updates : List Update) (notes : List Note) (answer : Reply) → IsBase events c → 0 < c.operation → IsOperationRanged operation
    → updates_field.Fits updates → reply_field.Fits answer → KeepsRanges events (decided c operation updates notes answer)
unfolding decided
decided_keeps events c operation updates notes answer base some ranged fits of_answer =
    let nodes = c.table.nodes in
    let commit = message.Commit c.operation updates in
    let dropped : CoordState = record c { replica = without_keys c.replica operation.keys } in
    let sent = to_nodes nodes commit ++ reply_letter operation.call (Here 0) answer ∷ [] in
    let letters = each_join LetterFits (to_nodes nodes commit) (reply_letter operation.call (Here 0) answer ∷ [])
    (all_fit nodes commit (commit_fits c.operation updates (number_fits events c base some) fits)) (answer_fits operation.call (Here 0) answer ranged.call of_answer, tt) in
    keeps_at events dropped (Finish operation.keys updates (numbers_below nodes)) sent notes
    (record { few = base.few; waiting = base.waiting; replica = without_ranged c.replica operation.keys base.replica; asked = base.asked; operation = base.operation; version = base.version }) fits letters

counting_keeps : (events : ℕ) (c : CoordState) (operation : Operation) (rows : List Update) (dir : ℕ) (updates : List Update) → IsBase events c → 0 < c.operation → IsOperationRanged operation
    → dir < 2 ^ 64 → updates_field.Fits updates → KeepsRanges events (counting c operation rows dir updates)
unfolding counting
counting_keeps events c operation rows dir updates base some ranged below fits =
    let nodes = c.table.nodes in
    let count = message.Count c.operation dir in
    keeps_at events c (Count operation rows dir updates (numbers_below nodes) []) (to_nodes nodes count) [] base (some, ranged, fits)
    (all_fit nodes count (count_fits c.operation dir (number_fits events c base some) below))

judged_keeps : (events : ℕ) (c : CoordState) (operation : Operation) (rows : List Update) (is : Judged) → IsBase events c → 0 < c.operation → IsOperationRanged operation → JudgedFits is
    → KeepsRanges events (judged_work c operation rows is)
judged_keeps events c operation rows (judged.Fail errno) base some ranged fits = decided_keeps events c operation [] [] (reply.Fail errno) base some ranged (updates_fit [] (omega arith) tt) (fail_fits errno)
judged_keeps events c operation rows judged.Same base some ranged fits = decided_keeps events c operation [] [] reply.Fine base some ranged (updates_fit [] (omega arith) tt) fine_fits
judged_keeps events c operation rows (judged.Change updates) base some ranged fits = decided_keeps events c operation updates (commit_note operation ∷ []) reply.Fine base some ranged fits fine_fits
judged_keeps events c operation rows (judged.Count dir updates) base some ranged fits = counting_keeps events c operation rows dir updates base some ranged fits.0 fits.1

-- ---- what nodes answer is heard

told_keeps : (events : ℕ) (c : CoordState) (operation : Operation) (rows : List Update) (missing : List ℕ) → IsBase events c → 0 < c.operation → IsOperationRanged operation → RowsFit rows
    → KeepsRanges events (lock_heard c operation rows missing)
told_keeps events c operation rows [] base some ranged fits =
    let call = operation.call in
    judged_keeps events c operation rows (verdict_on operation rows) base some ranged
    (verdict_fits call.cred call.op (parents_of operation.walks) (last_inos [] operation.walks) rows (op_of_call call ranged.call) ranged.ends fits)
told_keeps events c operation rows (node ∷ missing) base some ranged fits = keeps_at events c (Lock operation (node ∷ missing) rows) [] [] base (some, ranged, fits) tt

locked_keeps : (events : ℕ) (c : CoordState) (number node : ℕ) (told : List Update) (s : Stage) → IsAt events c → IsStageRanged c.operation s → RowsFit told → KeepsRanges events (take_locked c number node told s)
locked_keeps events c number node told (Lock operation missing rows) at stage fits =
    elim ((number == c.operation) && is_missing node missing) as (λ b. KeepsRanges events (cond b (lock_heard c operation (rows ++ told) (without_node node missing)) (begun c))) [
      | true ↦ told_keeps events c operation (rows ++ told) (without_node node missing) at.base stage.0 stage.1 (each_join _ rows told stage.2 fits)
      | false ↦ keeps_same events c at
    ]
locked_keeps events c number node told other at stage fits = keeps_same events c at

summed_keeps : (events : ℕ) (c : CoordState) (operation : Operation) (rows : List Update) (dir : ℕ) (updates : List Update) (counts missing : List ℕ) → IsBase events c → 0 < c.operation → IsOperationRanged operation
    → updates_field.Fits updates → KeepsRanges events (count_heard c operation rows dir updates counts missing)
summed_keeps events c operation rows dir updates counts [] base some ranged fits = judged_keeps events c operation rows (counted_of counts updates) base some ranged (counts_fit counts updates fits)
summed_keeps events c operation rows dir updates counts (node ∷ missing) base some ranged fits =
    keeps_at events c (Count operation rows dir updates (node ∷ missing) counts) [] [] base (some, ranged, fits) tt

counted_keeps : (events : ℕ) (c : CoordState) (number node count : ℕ) (s : Stage) → IsAt events c → IsStageRanged c.operation s → KeepsRanges events (take_counted c number node count s)
counted_keeps events c number node count (Count operation rows dir updates missing counts) at stage =
    elim ((number == c.operation) && is_missing node missing) as (λ b. KeepsRanges events (cond b (count_heard c operation rows dir updates (counts ++ count ∷ []) (without_node node missing)) (begun c))) [
      | true ↦ summed_keeps events c operation rows dir updates (counts ++ count ∷ []) (without_node node missing) at.base stage.0 stage.1 stage.2
      | false ↦ keeps_same events c at
    ]
counted_keeps events c number node count other at stage = keeps_same events c at

finish_ranged : (number : ℕ) (keys : List Key) (updates : List Update) (missing : List ℕ) → updates_field.Fits updates → IsStageRanged number (finish_at keys updates missing)
finish_ranged number keys updates [] fits = tt
finish_ranged number keys updates (node ∷ missing) fits = fits

done_keeps : (events : ℕ) (c : CoordState) (number node : ℕ) (s : Stage) → IsAt events c → IsStageRanged c.operation s → KeepsRanges events (begun (take_done c number node s))
done_keeps events c number node (Finish keys updates missing) at stage =
    let rest = without_node node missing in
    elim ((number == c.operation) && is_missing node missing) as (λ b. KeepsRanges events (begun (cond b (at_stage c (finish_at keys updates rest)) c))) [
      | true ↦ keeps_at events c (finish_at keys updates rest) [] [] at.base (finish_ranged c.operation keys updates rest stage) tt
      | false ↦ keeps_same events c at
    ]
done_keeps events c number node other at stage = keeps_same events c at

-- ---- any record

-- where rows are given away, those that came stay few
abbrev pub AreNews : CoordState → Message → Type 0
AreNews c m = (number node : ℕ) (told : List NamedRow) → m ≡ message.Blocked number node told → AreGiven told → number ≡ c.operation → StaysFew node told c.stage

message_keeps : (events : ℕ) (c : CoordState) (point : ℕ) (m : Message) → IsAt events c → RecordFits m → AreNews c m → KeepsRanges events (take_message c point m)
message_keeps events c point (message.Call call) at fits news = call_keeps events c call at (call_of_record call fits)
message_keeps events c point (message.FetchGot number key what) at fits news = got_keeps events c point number key what c.stage at at.stage fits
message_keeps events c point (message.Locked number node rows) at fits news =
    locked_keeps events c number node rows c.stage at at.stage (rows_of_updates rows (updates_are rows (locked_fields number node rows fits.fields)).fit)
message_keeps events c point (message.Counted number node count) at fits news = counted_keeps events c number node count c.stage at at.stage
message_keeps events c point (message.Done number node) at fits news = done_keeps events c number node c.stage at at.stage
message_keeps events c point (message.Blocked number node rows) at fits news =
    let are = rows_are rows (blocked_fields number node rows fits.fields) in
    blocked_keeps events c number node rows c.stage at at.stage are.fit (news number node rows refl (ascend_apart rows are.fit are.ascend))
message_keeps events c point (message.Installed number node) at fits news = installed_keeps events c number node c.stage at
message_keeps events c point other at fits news = keeps_same events c at

at_of : (events : ℕ) (c : CoordState) → events < 2 ^ 63 → c.operation ≤ 10000 → c.table.version ≤ 10000 → IsCoordRanged events c → IsAt events c
at_of events c few operation version ranged = record {
  base = record { few = few; waiting = ranged.waiting; replica = ranged.replica; asked = ranged.asked; operation = omega arith; version = version };
  stage = ranged.stage;
}

pub hear_keeps : (events : ℕ) (c : CoordState) (e : Envelope) (k : Work) → events < 2 ^ 63 → c.operation ≤ 10000 → c.table.version ≤ 10000 → IsCoordRanged events c → IsRecord e → ((m : Message) → reading e.bytes ≡ Ok m → AreNews c m) → coord_step c (Hear e) ≡ Some k → KeepsRanges events k
unfolding coord_step heard
hear_keeps events c e k few operation version ranged sent news is =
    let read : reading e.bytes ≡ Ok sent.0 = ap reading sent.2 ∙ spelled_reads sent.0 (fits_of sent.0 sent.1) in
    elim (is_to_coord e.to) as (λ b. cond b (Some (heard c e)) None ≡ Some k → KeepsRanges events k) [
      | true ↦ λ z. subst (KeepsRanges events) (same_Some (heard c e) k z)
          (subst (λ (r : Result Message WireFault). KeepsRanges events (take_read c e.point r)) (sym read) (message_keeps events c e.point sent.0 (at_of events c few operation version ranged) sent.1 (news sent.0 read)))
      | false ↦ λ z. absurd (cc)
    ] is

pub start_keeps : (events : ℕ) (c : CoordState) (k : Work) → events < 2 ^ 63 → c.operation ≤ 10000 → c.table.version ≤ 10000 → IsCoordRanged events c → coord_step c Start ≡ Some k → KeepsRanges events k
unfolding coord_step
start_keeps events c k few operation version ranged is = begin_keeps events c c.stage k (at_of events c few operation version ranged) operation is
