-- How an operation goes on once its keys are shut, and how it is decided.
use Rattle.std.specs.Prelude.{ℕ, List, [], ◌∷◌, ◌++◌}
use Rattle.fal_base.specs.declared.event.Note.{Note}
use Rattle.fal_base.specs.declared.event.Note.TheVariants as note
use Rattle.fal_base.specs.declared.event.Point.TheVariants.{Here}
use Rattle.fal_base.specs.declared.reply.Reply.{Reply}
use Rattle.fal_base.specs.declared.reply.Reply.TheVariants as reply
use Rattle.fal_base.specs.declared.row.Update.{Update}
use Rattle.fal_dentry.specs.Walk.{without_keys}
use Rattle.fal_wire.specs.declared.message.Message.TheVariants as message
use Rattle.fal_wire.specs.Letters.{reply_letter}
use Rattle.fal_coord.specs.declared.stage.Operation.{Operation}
use Rattle.fal_coord.specs.declared.stage.Stage.TheVariants.{Count, Finish}
use Rattle.fal_coord.specs.Judged as judged
use Rattle.fal_coord.specs.Judged.{Judged, verdict_of}
use Rattle.fal_coord.specs.Nodes.{numbers_below, to_nodes}
use Rattle.fal_coord.specs.State.{CoordState, Work, at_stage}
use Rattle.fal_coord.specs.Walks.{parents_of, last_inos}

-- the verdict on an operation, by the rows that the nodes have told
abbrev pub verdict_on : Operation → List Update → Judged
verdict_on operation rows =
    verdict_of operation.call.cred operation.call.op (parents_of operation.walks) (last_inos [] operation.walks) rows

-- every node is asked how many entries the directory has there
unfoldable pub counting : CoordState → Operation → List Update → ℕ → List Update → Work
counting coord operation rows dir updates = record {
  coord = at_stage coord (Count operation rows dir updates (numbers_below coord.table.nodes) []);
  sent = to_nodes coord.table.nodes (message.Count coord.operation dir);
  notes = [];
}

-- the operation's keys leave the replica, every node is told the updates, and then the client the answer
unfoldable pub decided : CoordState → Operation → List Update → List Note → Reply → Work
decided coord operation updates notes answer = record {
  coord = record coord { replica = without_keys coord.replica operation.keys; stage = Finish operation.keys updates (numbers_below coord.table.nodes) };
  sent = to_nodes coord.table.nodes (message.Commit coord.operation updates) ++ reply_letter operation.call (Here 0) answer ∷ [];
  notes = notes;
}

-- the commit of the operation
abbrev pub commit_note : Operation → Note
commit_note operation = note.Commit operation.call.id.client operation.call.id.seq 0

-- by what the operation comes to
abbrev pub judged_work : CoordState → Operation → List Update → Judged → Work
judged_work coord operation rows (judged.Fail errno) = decided coord operation [] [] (reply.Fail errno)
judged_work coord operation rows judged.Same = decided coord operation [] [] reply.Fine
judged_work coord operation rows (judged.Change updates) = decided coord operation updates (commit_note operation ∷ []) reply.Fine
judged_work coord operation rows (judged.Count dir updates) = counting coord operation rows dir updates
