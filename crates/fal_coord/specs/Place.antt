-- A name is placed: every node gives its rows of the name away, and then each gets those that are its by the new table.
use Rattle.std.specs.Prelude.{ℕ, ◌+◌, ◌∷◌, [], ◌++◌, List, map, not, ◌==◌, Bool, true, false, is_some, Option, Some, None, if◌then◌else◌}
use Rattle.std.specs.List.{range_with_len}
use Rattle.fal_base.specs.declared.call.CallRec.{CallRec}
use Rattle.fal_base.specs.declared.call.Cred.{Cred}
use Rattle.fal_base.specs.declared.event.Actor.TheVariants.{Node}
use Rattle.fal_base.specs.declared.event.Note.TheVariants.{Placed}
use Rattle.fal_base.specs.declared.event.Point.TheVariants.{Here}
use Rattle.fal_base.specs.declared.reply.Errno.{Errno}
use Rattle.fal_base.specs.declared.reply.Errno.TheVariants.{Eperm, Einval, Enospc}
use Rattle.fal_base.specs.declared.reply.Reply.TheVariants.{Fine}
use Rattle.fal_base.specs.declared.row.NamedRow.{NamedRow}
use Rattle.fal_move.specs.Moving.{by_parent, share_of}
use Rattle.fal_place.specs.Placement.{Placement, Placing, is_full_for, is_within, with_rule}
use Rattle.fal_wire.specs.declared.letter.Letter.{Letter}
use Rattle.fal_wire.specs.declared.message.Message.TheVariants as message
use Rattle.fal_wire.specs.Letters.{letter, reply_letter}
use Rattle.fal_coord.specs.declared.stage.Stage.TheVariants.{Block, Install}
use Rattle.fal_coord.specs.Nodes.{numbers_below, to_nodes}
use Rattle.fal_coord.specs.State.{CoordState, Work, at_stage, begun}
use Rattle.fal_coord.specs.Walks.{placing_of}

-- why a name is not placed: the caller is not root, the rule names a node that is not there, or the table is full; in this order
abbrev pub place_refusal : Placement → Cred → Placing → Option Errno
place_refusal table cred placing =
    if not (cred.uid == 0) then Some Eperm else
    if not (is_within table.nodes placing.rule) then Some Einval else
    if is_full_for table placing.name then Some Enospc else None

-- whether the call places a name, and is not refused by the table
abbrev pub is_placeable : Placement → CallRec → Option Placing → Bool
is_placeable table call None = false
is_placeable table call (Some placing) = not (is_some (place_refusal table call.cred placing))

-- every node is to give its rows of the name away
unfoldable pub blocking : CoordState → CallRec → List ℕ → Work
blocking coord call name = record {
  coord = at_stage coord (Block call (numbers_below coord.table.nodes) []);
  sent = to_nodes coord.table.nodes (message.Block coord.operation name);
  notes = [];
}

-- each node is told the version and the rule, and gets its share of the rows
abbrev pub install_letters : ℕ → Placement → Placing → List NamedRow → List Letter
install_letters operation table placing rows =
    map (λ node. letter (Node node) (Here 0) (message.Install operation table.version placing.rule (share_of table placing.name node rows))) (range_with_len 0 table.nodes)

-- the table has the rule; every node gets its rows of the name, by their parents, and then the client its answer
unfoldable pub name_placed : CoordState → CallRec → Placing → List NamedRow → Work
name_placed coord call placing rows = record {
  coord = record coord { table = with_rule coord.table placing.name placing.rule; stage = Install call (numbers_below coord.table.nodes) };
  sent = install_letters coord.operation (with_rule coord.table placing.name placing.rule) placing (by_parent rows) ++ reply_letter call (Here 0) Fine ∷ [];
  notes = Placed call.id.client call.id.seq (coord.table.version + 1) ∷ [];
}

-- a call that places no name changes nothing; none such is ever at this stage
abbrev pub placed_by : CoordState → CallRec → List NamedRow → Option Placing → Work
placed_by coord call rows None = begun coord
placed_by coord call rows (Some placing) = name_placed coord call placing rows

-- the rows of every node have come
abbrev pub placed : CoordState → CallRec → List NamedRow → Work
placed coord call rows = placed_by coord call rows (placing_of call.op)
