use Rattle.std.proofs.Common.{ℕ, Option, ◌∷◌, [], arith, subst}
use Rattle.std.specs.List.{All}
use Rattle.fal_wire.specs.declared.letter.Letter.{Letter}
use Rattle.fal_wire.specs.Messages.{Fits}
use Rattle.fal_client.specs.Paths.{addressee}
use Rattle.fal_client.specs.Step.{letter_to, call_message, asks_for}
use Rattle.fal_client.proofs.asks.ask_outputs.Goals as goal

-- the one letter of a list is within the ranges of its record
first_fits : (letter : Letter) → All (λ (l : Letter). Fits l.message) (letter ∷ []) → Fits letter.message
first_fits letter fit = fit 0 letter (omega arith)

pub call_outputs-requires : goal.call_outputs-requires
call_outputs-requires c =
    first_fits (letter_to (addressee c.args.table.now c.args.call.now.op) (call_message c.args.id c.args.table.now.version c.args.call.now))
    (subst (λ (dir : Option ℕ). All (λ (l : Letter). Fits l.message) (asks_for c.args.id c.args.table.now c.args.nodes c.args.call.now dir)) c.in-None.is c.requires)
