-- What a step makes: the node after it, the messages that it sends and the notes for the transcript.
use Rattle.std.specs.Prelude.{ℕ, Bool, ◌||◌, List, [], ◌==◌, nat_lt, if◌then◌else◌}
use Rattle.fal_base.specs.declared.event.Actor.{Actor}
use Rattle.fal_base.specs.declared.event.Actor.TheVariants.{Node, Coord}
use Rattle.fal_base.specs.declared.event.Note.{Note}
use Rattle.fal_wire.specs.declared.letter.Letter.{Letter}
use Rattle.fal_node.specs.State.{NodeState}

pub record Work : Type 0 where
  pub node : NodeState
  pub sent : List Letter
  pub notes : List Note

-- nothing was sent or noted yet
abbrev pub begun : NodeState → Work
begun node = record { node = node; sent = []; notes = [] }

-- who asks for a directory: a node, or the coordinator by the number 255
abbrev pub asker_of : ℕ → Actor
asker_of asker = if asker == 255 then Coord else Node asker

-- whether someone has this number: a node of so many, or the coordinator
abbrev pub is_asker : ℕ → ℕ → Bool
is_asker nodes asker = nat_lt asker nodes || (asker == 255)
