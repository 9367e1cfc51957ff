use Rattle.std.proofs.Common.{sym, ◌∙◌}
use Rattle.fal_coord.proofs.Deciding.{locked_draft}
use Rattle.fal_coord.proofs.hear.lock_heard.Goals as goal

pub returns-then-not-is_empty : goal.returns-then-not-is_empty
returns-then-not-is_empty c =
    locked_draft c.args.coord.now.state c.args.operation.now c.args.rows c.args.missing c.quiet_draft.result
    c.requires.at (sym c.is_empty.ensures ∙ c.if-not-is_empty.true) c.quiet_draft.ensures.patch c.quiet_draft.ensures.letters c.quiet_draft.ensures.notes
