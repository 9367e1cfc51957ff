-- Where a call is sent by its paths.
use Rattle.fal_base.specs.declared.event.Actor.{Actor}
use Rattle.fal_base.specs.declared.event.Actor.TheVariants.{Node, Coord}
use Rattle.fal_base.specs.declared.op.Op.{Op}
use Rattle.fal_base.specs.declared.op.Op.TheVariants as op
use Rattle.fal_base.specs.declared.path.PathArg.{PathArg}
use Rattle.fal_base.specs.declared.path.PathArg.TheVariants.{Good, Bad}
use Rattle.fal_place.specs.Placement.{Placement, route}

-- the node to which a call on this path goes. A call on a bad path goes nowhere: what stands for it here is a mere filler
abbrev pub node_for : Placement → PathArg → Actor
node_for table (Good names) = Node (route table names)
node_for table (Bad fault raw) = Node 0

-- to whom a call goes: rmdir, rename and place to the coordinator, any other to the node that the table tells for its path
unfoldable pub addressee : Placement → Op → Actor
addressee table (op.Mkdir path mode) = node_for table path
addressee table (op.Create path mode) = node_for table path
addressee table (op.Stat path) = node_for table path
addressee table (op.Access path want) = node_for table path
addressee table (op.Chmod path mode) = node_for table path
addressee table (op.Chown path uid gid) = node_for table path
addressee table (op.Truncate path size) = node_for table path
addressee table (op.Unlink path) = node_for table path
addressee table (op.Rmdir path) = Coord
addressee table (op.Rename old new) = Coord
addressee table (op.List path) = node_for table path
addressee table (op.Place name rule) = Coord
