use Rattle.std.proofs.Common.{ap}
use Rattle.fal_coord.specs.Walks.{placing_of}
use Rattle.fal_coord.proofs.Blocked.{placed_below}
use Rattle.fal_coord.proofs.placing.placed.Goals as goal

pub place-requires-clause-below : goal.place-requires-clause-below
place-requires-clause-below c =
    placed_below c.args.coord.now.state c.args.call.now (record { name = c.in-Place.name; rule = c.in-Place.rule }) c.args.rows.now (ap placing_of c.in-Place.is) c.requires.within
