-- What is sent for one entry of a plan's row of records.
use Rattle.std.specs.Prelude.{ℕ, ◌+◌, List, [], ◌∷◌}
use Rattle.fal_wait.specs.Waiting.{call_with_ticket}
use Rattle.fal_batch.specs.declared.parts.Sending.{Sending}
use Rattle.fal_batch.specs.declared.parts.Sending.TheVariants as sending
use Rattle.fal_wire.specs.declared.letter.Letter.{Letter}
use Rattle.fal_node.specs.State.{NodeState}
use Rattle.fal_node.specs.Gather.{away_letters, ask_letter}

-- the records for it, where the next fetch has this number
abbrev pub sending_letters : NodeState → ℕ → Sending → List Letter
sending_letters node number (sending.Away away) = away_letters node (call_with_ticket node.waiting away.ticket) away.to
sending_letters node number (sending.Fetch key) = ask_letter node number key ∷ []

-- the number of the next fetch after it
abbrev pub next_number : ℕ → Sending → ℕ
next_number number (sending.Away away) = number
next_number number (sending.Fetch key) = number + 1
