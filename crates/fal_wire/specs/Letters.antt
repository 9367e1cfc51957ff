-- Messages on their way out, and their records.
use Rattle.fal_base.specs.declared.call.CallRec.{CallRec}
use Rattle.fal_base.specs.declared.event.Actor.{Actor}
use Rattle.fal_base.specs.declared.event.Actor.TheVariants.{Client}
use Rattle.fal_base.specs.declared.event.Output.{Output}
use Rattle.fal_base.specs.declared.event.Point.{Point}
use Rattle.fal_base.specs.declared.reply.Reply.{Reply}
use Rattle.fal_wire.specs.declared.letter.Letter.{Letter}
use Rattle.fal_wire.specs.declared.message.Message.{Message}
use Rattle.fal_wire.specs.declared.message.Message.TheVariants as message
use Rattle.fal_wire.specs.Messages.{spelling}

abbrev pub letter : Actor → Point → Message → Letter
letter to point message = record { to = to; point = point; message = message }

-- the answer to the client of a call
abbrev pub reply_letter : CallRec → Point → Reply → Letter
reply_letter call point reply = letter (Client call.id.client) point (message.Reply call.id reply)

-- a letter as it goes out: the record of its message
unfoldable pub output_of : Letter → Output
output_of letter = record { to = letter.to; point = letter.point; bytes = spelling letter.message }
