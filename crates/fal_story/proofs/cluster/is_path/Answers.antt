use Rattle.std.proofs.Common.{sym, ◌∙◌}
use Rattle.fal_story.proofs.Ranges.Fitting.{path_fits, path_passes}
use Rattle.fal_story.proofs.cluster.is_path.Goals as goal

pub returns-then-is_short : goal.returns-then-is_short
returns-then-is_short c = (
  λ all. path_fits c.args.names.now (sym c.is_short.ensures ∙ c.if-is_short.true) (sym c.are_names.ensures ∙ all),
  λ fits. c.are_names.ensures ∙ (path_passes c.args.names.now fits).1,
)

pub returns-else-is_short : goal.returns-else-is_short
returns-else-is_short c = (
  λ short. absurd cc,
  λ fits. c.is_short.ensures ∙ (path_passes c.args.names.now fits).0,
)
