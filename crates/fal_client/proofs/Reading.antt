-- What a client sends is read again.
use Rattle.std.proofs.Common.{◌≡◌, map, Some}
use Rattle.std.specs.Prelude.{All}
use Rattle.fal_wire.specs.Letters.{output_of}
use Rattle.fal_wire.proofs.LetterLaws.{IsRead, letters_read}
use Rattle.fal_client.specs.declared.event.ClientEvent.{ClientEvent}
use Rattle.fal_client.specs.State.{ClientState, Work}
use Rattle.fal_client.specs.Step.{CanMake, client_step}

pub records_read : (c : ClientState) (event : ClientEvent) (work : Work) → CanMake c event → client_step c event ≡ Some work → All IsRead (map output_of work.sent)
records_read c event work can is = letters_read work.sent (can work is).records
