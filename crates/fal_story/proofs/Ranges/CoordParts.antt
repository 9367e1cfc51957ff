-- Parts of the coordinator's steps keep to the ranges.
use Rattle.std.proofs.Common.{ℕ, ◌+◌, ◌<◌, ◌≤◌, ◌^◌, List, [], ◌∷◌, arith}
use Rattle.std.specs.List.{range_with_len}
use Rattle.fal_base.specs.declared.call.CallRec.{CallRec}
use Rattle.fal_base.specs.declared.event.Actor.TheVariants.{Node}
use Rattle.fal_base.specs.declared.event.Note.{Note}
use Rattle.fal_base.specs.declared.event.Point.{Point}
use Rattle.fal_base.specs.declared.event.Point.TheVariants.{Here}
use Rattle.fal_base.specs.declared.reply.Errno.{Errno}
use Rattle.fal_base.specs.declared.reply.Reply.{Reply}
use Rattle.fal_base.specs.declared.reply.Reply.TheVariants as reply
use Rattle.fal_coord.specs.declared.stage.Stage.{Stage}
use Rattle.fal_coord.specs.declared.stage.Stage.TheVariants.{Idle}
use Rattle.fal_coord.specs.Begin.{given_up}
use Rattle.fal_coord.specs.Nodes.{to_nodes}
use Rattle.fal_coord.specs.State.{CoordState, Work, begun, at_stage}
use Rattle.fal_coord.specs.Step.{IsInRange}
use Rattle.fal_wire.specs.declared.letter.Letter.{Letter}
use Rattle.fal_wire.specs.declared.message.Message.{Message}
use Rattle.fal_wire.specs.Letters.{letter, reply_letter}
use Rattle.fal_wire.specs.Numbers.{operation_field}
use Rattle.fal_wire.specs.Ops.{call_field}
use Rattle.fal_wire.specs.Rows.{reply_field}
use Rattle.fal_story.proofs.Lists.Each.{Each}
use Rattle.fal_story.proofs.Lists.Members.{each_all, each_map}
use Rattle.fal_story.proofs.Ranges.CoordBounds.{IsCarried, IsCoordRanged, IsStageRanged}
use Rattle.fal_story.proofs.Ranges.FateRanges.{AreDentriesRanged}
use Rattle.fal_story.proofs.Ranges.MessageRanges.{fail_fits, id_of_call, reply_fits}
use Rattle.fal_story.proofs.Ranges.NodeRanges.{LetterFits, letters_fit}
use Rattle.fal_story.proofs.Ranges.OperationRecords.{operation_fits}
use Rattle.fal_story.proofs.Ranges.RecordFits.{RecordFits}

-- the step after so many events is within the ranges, and leaves the coordinator so
pub record KeepsRanges (events : ℕ) (k : Work) : Type 0 where
  pub within : IsInRange k
  pub letters : Each LetterFits k.sent
  pub ranged : IsCoordRanged (events + 1) k.coord

-- what is known of the coordinator while a step of it is under way, but for its stage
pub record IsBase (events : ℕ) (c : CoordState) : Type 0 where
  pub few : events < 2 ^ 63
  pub waiting : Each IsCarried c.waiting
  pub replica : AreDentriesRanged c.replica
  pub asked : c.asked ≤ events
  pub operation : c.operation ≤ 10001
  pub version : c.table.version ≤ 10000

-- its stage is so, too
pub record IsAt (events : ℕ) (c : CoordState) : Type 0 where
  pub base : IsBase events c
  pub stage : IsStageRanged c.operation c.stage

-- ---- parts

pub keeps_at : (events : ℕ) (c : CoordState) (s : Stage) (sent : List Letter) (notes : List Note) → IsBase events c → IsStageRanged c.operation s → Each LetterFits sent
    → KeepsRanges events (record { coord = at_stage c s; sent = sent; notes = notes })
keeps_at events c s sent notes base stage letters =
    let few = base.few in
    let asked = base.asked in
    let operation = base.operation in
    let version = base.version in
    record {
      within = record { records = letters_fit sent letters; operation = omega arith; asked = omega arith; version = omega arith };
      letters = letters;
      ranged = record { waiting = base.waiting; replica = base.replica; stage = stage; asked = omega arith };
    }

pub keeps_same : (events : ℕ) (c : CoordState) → IsAt events c → KeepsRanges events (begun c)
keeps_same events c at = keeps_at events c c.stage [] [] at.base at.stage tt

pub number_fits : (events : ℕ) (c : CoordState) → IsBase events c → 0 < c.operation → operation_field.Fits c.operation
number_fits events c base some = let few = base.operation in operation_fits c.operation some (omega arith)

pub all_fit : (nodes : ℕ) (m : Message) → RecordFits m → Each LetterFits (to_nodes nodes m)
all_fit nodes m fits = each_map LetterFits (λ node. letter (Node node) (Here 0) m) (range_with_len 0 nodes) (each_all _ (range_with_len 0 nodes) (λ node. fits))

pub answer_fits : (call : CallRec) (point : Point) (answer : Reply) → call_field.Fits call → reply_field.Fits answer → LetterFits (reply_letter call point answer)
answer_fits call point answer of_call of_answer = reply_fits call.id answer (id_of_call call of_call) of_answer

pub given_up_keeps : (events : ℕ) (c : CoordState) (call : CallRec) (point : Point) (errno : Errno) → IsBase events c → call_field.Fits call → KeepsRanges events (given_up c call point errno)
given_up_keeps events c call point errno base fits = keeps_at events c Idle (reply_letter call point (reply.Fail errno) ∷ []) [] base tt (answer_fits call point (reply.Fail errno) fits (fail_fits errno), tt)
