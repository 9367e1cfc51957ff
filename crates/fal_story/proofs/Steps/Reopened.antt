-- A Lock comes to a node and is its next item; a Commit comes, and the node lays what is due and is open again.
use Rattle.std.proofs.Common.{◌≡◌, ℕ, ◌<◌, List, [], Some, None, ◌≤◌, arith}
use Rattle.fal_base.specs.declared.call.Config.{Config}
use Rattle.fal_base.specs.declared.key.Key.{Key}
use Rattle.fal_base.specs.declared.row.Update.{Update}
use Rattle.fal_base.specs.Updates.{laid}
use Rattle.fal_wire.specs.declared.message.Message.TheVariants as message
use Rattle.fal_story.proofs.Families.Barring.{bars_locks, is_locking, keys_locking, locking_plain}
use Rattle.fal_story.proofs.Families.Clear.{clear_reopened}
use Rattle.fal_story.proofs.Families.Ground.{ground_reopened}
use Rattle.fal_story.proofs.Families.Operation.{LocksKeys, shut_by}
use Rattle.fal_story.proofs.Families.OperationNodes.{operation_queued, operation_reopened}
use Rattle.fal_story.proofs.Good.{Good}
use Rattle.fal_story.proofs.Lists.Grown.{put_all}
use Rattle.fal_story.proofs.Steps.Carried.{operated_good}
use Rattle.fal_story.proofs.View.{View, Ends}
use Rattle.fal_story.specs.World.{put}

pub queued_good : (config : Config) (v : View) (n : ℕ) (keys : List Key) → n < config.nodes → v.op.last n < v.op.operation → LocksKeys v.op.work keys → Good config v
    → Good config (record v { op = record v.op { queued = put v.op.queued n (Some (message.Lock v.op.operation keys)); last = put v.op.last n v.op.operation } })
queued_good config v n keys below newer locks g =
    let locking = keys_locking v.op.work keys locks in
    operated_good config v (operation_queued g.operation n keys below newer locks)
    (bars_locks g.bars v.rows v.op.due (put v.op.queued n (Some (message.Lock v.op.operation keys))) (put v.op.last n v.op.operation) v.op.work v.commits locking (locking_plain v.op.work locking)
    (put_all (λ m z. v.op.last m ≤ z) v.op.last n v.op.operation (omega arith) (λ m _. omega arith)))
    g

pub reopened_good : (config : Config) (v : View) (n : ℕ) (keys : List Key) (updates : List Update) (missing : List ℕ) → v.op.work ≡ Ends keys updates missing → v.op.shut n ≡ shut_by v.op.operation keys → Good config v
    → Good config (record v { rows = put v.rows n (laid (v.op.due n) (v.rows n)); op = record v.op { due = put v.op.due n []; shut = put v.op.shut n None } })
reopened_good config v n keys updates missing ends shut g = record {
  ground = ground_reopened g.ground n;
  clear = clear_reopened g.clear n;
  asking = g.asking;
  plans = g.plans;
  lanes = g.lanes;
  script = g.script;
  records = g.records;
  operation = operation_reopened g.operation n keys updates missing ends shut;
  bars = bars_locks g.bars (put v.rows n (laid (v.op.due n) (v.rows n))) (put v.op.due n []) v.op.queued v.op.last v.op.work v.commits (is_locking ends tt) (locking_plain v.op.work (is_locking ends tt)) (λ n. omega arith);
  knowing = g.knowing;
  listings = g.listings;
}
