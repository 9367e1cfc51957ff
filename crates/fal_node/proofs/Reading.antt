-- What a node sends is read again.
use Rattle.std.proofs.Common.{◌≡◌, map, Some}
use Rattle.std.specs.Prelude.{All}
use Rattle.fal_wire.specs.Letters.{output_of}
use Rattle.fal_wire.proofs.LetterLaws.{IsRead, letters_read}
use Rattle.fal_node.specs.declared.event.NodeEvent.{NodeEvent}
use Rattle.fal_node.specs.State.{NodeState}
use Rattle.fal_node.specs.Letters.{Work}
use Rattle.fal_node.specs.Step.{StaysWithin, node_step}

pub records_read : (node : NodeState) (event : NodeEvent) (work : Work) → StaysWithin node event → node_step node event ≡ Some work → All IsRead (map output_of work.sent)
records_read node event work within is = letters_read work.sent (within work is).records
