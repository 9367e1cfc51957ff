use Rattle.std.proofs.Common.{sym, ◌∙◌}
use Rattle.fal_coord.proofs.Blocked.{blocked_draft}
use Rattle.fal_coord.proofs.placing.block_heard.Goals as goal

pub returns-then-not-is_empty : goal.returns-then-not-is_empty
returns-then-not-is_empty c =
    let draft = c.quiet_draft in
    blocked_draft c.args.coord.now.state c.args.call.now c.args.rows c.args.missing draft.result
    c.requires.at (sym c.is_empty.ensures ∙ c.if-not-is_empty.true) draft.ensures.patch draft.ensures.letters draft.ensures.notes
