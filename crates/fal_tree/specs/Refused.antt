-- The calls that the tree answers.
use Rattle.fal_base.specs.declared.op.Op.{Op}
use Rattle.fal_base.specs.declared.op.Op.TheVariants as op

-- a change of placement is no matter of the tree
abbrev pub IsOfTree : Op → Type 0
IsOfTree (op.Place name rule) = ⊥
IsOfTree other = Unit {0}
