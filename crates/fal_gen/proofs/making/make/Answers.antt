use Rattle.std.proofs.Common.{sym, ap, ◌∙◌, subst, length}
use Rattle.std.specs.List.{All}
use Rattle.fal_gen.specs.Lines.{IsMadeLine}
use Rattle.fal_gen.proofs.MadeLines.{lines_made, lines_count, made_is_printable}
use Rattle.fal_gen.proofs.making.make.Goals as goal

pub returns-clause-count : goal.returns-clause-count
returns-clause-count c = ap length c.in_ok-lines.ensures ∙ lines_count c.args.seed c.args.size

pub returns-clause-lines : goal.returns-clause-lines
returns-clause-lines c = subst (All IsMadeLine) (sym c.in_ok-lines.ensures) (lines_made c.args.seed c.args.size)

pub returns-clause-printable : goal.returns-clause-printable
returns-clause-printable c = made_is_printable c.in_ok-lines.lines (subst (All IsMadeLine) (sym c.in_ok-lines.ensures) (lines_made c.args.seed c.args.size))
