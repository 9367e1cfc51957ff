use Rattle.book_runs.proofs.Coords.{coord_new}
use Rattle.book_runs.proofs.coord_post.CoordPost.new.Goals as goal

pub invariant_of-result : goal.invariant_of-result
invariant_of-result c = coord_new c.args.config.now c.args.seat c.new.result.state c.new-2.result c.requires.cluster c.requires.new c.new.ensures c.new-2.ensures
