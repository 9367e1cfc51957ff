-- What a client knows, and what a step of it makes.
use Rattle.std.specs.Prelude.{ℕ, List, [], Option, None}
use Rattle.fal_base.specs.declared.call.Call.{Call}
use Rattle.fal_base.specs.declared.event.Note.{Note}
use Rattle.fal_place.specs.Placement.{Placement, opening_table}
use Rattle.fal_wire.specs.declared.letter.Letter.{Letter}
use Rattle.fal_client.specs.declared.current.Current.{Current}

-- the lane, how many nodes there are, the placement table, the calls not yet sent, how many were sent, and the call under way
pub record ClientState : Type 0 where
  pub lane : ℕ
  pub nodes : ℕ
  pub table : Placement
  pub left : List Call
  pub seq : ℕ
  pub current : Option Current

-- the client of a lane before its first event
abbrev pub opening_client : ℕ → ℕ → List Call → ClientState
opening_client lane nodes calls = record { lane = lane; nodes = nodes; table = opening_table nodes; left = calls; seq = 0; current = None }

-- what a step makes: the client after it, the letters that it sends, and what it adds to the transcript
pub record Work : Type 0 where
  pub client : ClientState
  pub sent : List Letter
  pub notes : List Note

-- nothing changes
abbrev pub unchanged : ClientState → Work
unchanged c = record { client = c; sent = []; notes = [] }
