-- What a plain tree answers to a change: no commit is judged first, then the new row's number.
use Rattle.std.specs.Prelude.{ℕ, Bool, true, false, not, ◌&&◌, ◌||◌, Result, Ok, Err, if◌then◌else◌, ◌==◌}
use Rattle.std.specs.List.{list_any}
use Rattle.fal_base.specs.declared.call.Cred.{Cred}
use Rattle.fal_base.specs.declared.op.Op.{Op}
use Rattle.fal_base.specs.declared.op.Op.TheVariants as op
use Rattle.fal_base.specs.Tree.{Tree}
use Rattle.fal_base.specs.Change.{makes}
use Rattle.fal_tree.specs.declared.fault.ApplyFault.{ApplyFault}
use Rattle.fal_tree.specs.declared.fault.ApplyFault.TheVariants.{NoCommit, NotFresh}

abbrev pub holds_number : Tree → ℕ → Bool
holds_number tree ino = list_any (λ e. e.1.ino == ino) tree

-- whether the operation brings a row with a number of its own
abbrev pub brings_row : Op → Bool
brings_row (op.Mkdir path mode) = true
brings_row (op.Create path mode) = true
brings_row other = false

abbrev pub is_fresh : Tree → Op → ℕ → Bool
is_fresh tree op ino = not (brings_row op && (ino == 0 || holds_number tree ino))

abbrev pub applied : Tree → Cred → Op → ℕ → Result (Unit {0}) ApplyFault
applied tree cred op ino = if not (makes tree cred op) then Err NoCommit else (if is_fresh tree op ino then Ok tt else Err NotFresh)
