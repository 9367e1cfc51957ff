-- What the coordinator is at, read off its stage.
use Rattle.std.proofs.Common.{ℕ, List, [], ◌∷◌}
use Rattle.std.specs.Prelude.{sum}
use Rattle.fal_base.specs.declared.op.Op.{Op}
use Rattle.fal_base.specs.declared.op.Op.TheVariants as op
use Rattle.fal_base.specs.declared.rule.Rule.{Rule}
use Rattle.fal_base.specs.declared.rule.Rule.TheVariants.{Hash}
use Rattle.fal_coord.specs.declared.stage.Operation.{Operation}
use Rattle.fal_coord.specs.declared.stage.PathWalk.{PathWalk}
use Rattle.fal_coord.specs.declared.stage.Stage.{Stage}
use Rattle.fal_coord.specs.declared.stage.Stage.TheVariants as stage
use Rattle.fal_coord.specs.Walks.{walked_paths}
use Rattle.fal_dentry.specs.TreeWalk.{last_key, last_name}
use Rattle.fal_inode.specs.Named.{puts}
use Rattle.fal_story.proofs.View.{Asking, Kept, Work, Rests, Walks, Locks, Counts, Blocks, Lands, Ends}
use Rattle.fal_place.specs.Placement.{Placement}

-- where each path of an operation has ended
abbrev pub kept_walks : List (List (List ℕ)) → List PathWalk → List Kept
kept_walks (names ∷ paths) (walk ∷ walks) =
    record { names = names; parent = walk.parent; passed = walk.inos; last = last_key walk.parent (last_name names) } ∷ kept_walks paths walks
kept_walks paths walks = []

abbrev pub kept_of : Operation → List Kept
kept_of operation = kept_walks (walked_paths operation.call.op) operation.walks

-- the name that a call places, and its rule; for another call a filler
abbrev pub name_in : Op → List ℕ
name_in (op.Place name rule) = name
name_in other = []

abbrev pub rule_in : Op → Rule
rule_in (op.Place name rule) = rule
rule_in other = Hash

-- the table before the last placement is given, since no stage has it
abbrev pub work_of : Placement → Stage → Work
work_of before stage.Idle = Rests
work_of before (stage.Walk call number key) = Walks call.id.client
work_of before (stage.Lock operation missing rows) = Locks operation.call.id.client operation.keys (kept_of operation) missing rows
work_of before (stage.Count operation rows dir updates missing counts) = Counts operation.call.id.client operation.keys (kept_of operation) missing rows dir updates (sum counts)
work_of before (stage.Finish keys updates missing) = Ends keys updates missing
work_of before (stage.Block call missing rows) = Blocks call.id.client (name_in call.op) (rule_in call.op) missing (puts (name_in call.op) rows)
work_of before (stage.Install call missing) = Lands (name_in call.op) (rule_in call.op) before missing

-- the fetch for which the coordinator waits
abbrev pub awaited : Stage → List Asking
awaited (stage.Walk call number key) = record { number = number; key = key } ∷ []
awaited other = []
