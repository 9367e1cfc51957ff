-- The steps of a client: it sends its calls one after another, and hears what is answered.
use Rattle.std.specs.Prelude.{ℕ, ◌+◌, ◌^◌, ◌<◌, Bool, true, false, ◌&&◌, List, [], ◌∷◌, ◌++◌, map, drop, slice_get, slice_set, Option, Some, None, Result, Ok, Err, if◌then◌else◌, ◌==◌}
use Rattle.std.specs.List.{list_all, range_with_len, All}
use Rattle.std.specs.Option.{option_map, ForSome}
use Rattle.fal_base.specs.declared.call.Call.{Call}
use Rattle.fal_base.specs.declared.call.CallId.{CallId}
use Rattle.fal_base.specs.declared.event.Actor.{Actor}
use Rattle.fal_base.specs.declared.event.Actor.TheVariants.{Client, Node, Coord}
use Rattle.fal_base.specs.declared.event.Envelope.{Envelope}
use Rattle.fal_base.specs.declared.event.Note.TheVariants as note
use Rattle.fal_base.specs.declared.event.Point.TheVariants.{Here, Carried}
use Rattle.fal_base.specs.declared.path.PathFault.{PathFault}
use Rattle.fal_base.specs.declared.reply.Reply.{Reply}
use Rattle.fal_base.specs.declared.reply.Reply.TheVariants.{Fail, Names}
use Rattle.fal_base.specs.declared.rule.RuleChange.{RuleChange}
use Rattle.fal_base.specs.Answer.{errno_of}
use Rattle.fal_place.specs.Placement.{Placement, is_within, with_changes}
use Rattle.fal_wire.specs.declared.fault.WireFault.{WireFault}
use Rattle.fal_wire.specs.declared.letter.Letter.{Letter}
use Rattle.fal_wire.specs.declared.message.Message.{Message}
use Rattle.fal_wire.specs.declared.message.Message.TheVariants as message
use Rattle.fal_wire.specs.Letters.{letter}
use Rattle.fal_wire.specs.Messages.{reading, Fits}
use Rattle.fal_client.specs.declared.current.Current.{Current}
use Rattle.fal_client.specs.declared.current.Listing.{Listing}
use Rattle.fal_client.specs.declared.parts.Part.{Part}
use Rattle.fal_client.specs.declared.event.ClientEvent.{ClientEvent}
use Rattle.fal_client.specs.declared.event.ClientEvent.TheVariants.{Send, Get}
use Rattle.fal_client.specs.declared.news.News.{News}
use Rattle.fal_client.specs.declared.news.News.TheVariants as news
use Rattle.fal_client.specs.Names.{sorted_names}
use Rattle.fal_client.specs.News.{news_of}
use Rattle.fal_client.specs.Parts.{no_parts, is_missing, missing_count, names_of, greatest_point}
use Rattle.fal_base.specs.OpPaths.{bad_path}
use Rattle.fal_client.specs.Paths.{addressee}
use Rattle.fal_client.specs.State.{ClientState, Work, unchanged}

-- ---- the letters by which a client asks

-- a client commits nothing, so its letters stand at the point of the event
abbrev pub letter_to : Actor → Message → Letter
letter_to to message = letter to (Here 0) message

-- the call of this lane, number and attempt, from its client
abbrev pub id_at : ℕ → ℕ → ℕ → CallId
id_at lane seq attempt = record { client = lane; seq = seq; attempt = attempt; hop = 0 }

-- a call with the version of the table
abbrev pub call_message : CallId → ℕ → Call → Message
call_message id version call = message.Call (record { id = id; cred = call.cred; version = version; op = call.op })

-- what asks a node for its part of a listing
abbrev pub part_letter : CallId → ℕ → ℕ → ℕ → Letter
part_letter id version dir node = letter_to (Node node) (message.ListAsk id version dir)

-- what asks for a call by the table; or, where its directory is known, what asks each of so many nodes for its part
abbrev pub asks_for : CallId → Placement → ℕ → Call → Option ℕ → List Letter
asks_for id table nodes call None = letter_to (addressee table call.op) (call_message id table.version call) ∷ []
asks_for id table nodes call (Some dir) = map (part_letter id table.version dir) (range_with_len 0 nodes)

-- the directory of a listing under way
abbrev pub dir_of : Option Listing → Option ℕ
dir_of listing = option_map (λ l. l.dir) listing

-- what asks for the current call in this state
abbrev pub asks : ClientState → Current → List Letter
asks c current = asks_for (id_at c.lane c.seq current.attempt) c.table c.nodes current.call (dir_of current.listing)

-- ---- Send

-- the state after the next call was taken, before it is sent
abbrev pub taken : ClientState → ClientState
taken c = record c { left = drop 1 c.left; seq = c.seq + 1; current = None }

-- a call as it is sent first
abbrev pub first_try : Call → Current
first_try call = record { call = call; attempt = 1; listing = None }

-- the call becomes the current one and is sent
unfoldable pub begun : ClientState → Call → Work
begun c call = record {
  client = record (taken c) { current = Some (first_try call) };
  sent = asks (taken c) (first_try call);
  notes = note.Sent c.lane (c.seq + 1) ∷ [];
}

-- a call with a bad path is answered at once, and nothing is sent
unfoldable pub skipped : ClientState → PathFault → Work
skipped c fault = record {
  client = taken c;
  sent = [];
  notes = note.Sent c.lane (c.seq + 1) ∷ note.Answered c.lane (c.seq + 1) (Here 0) (Fail (errno_of fault)) ∷ [];
}

unfoldable pub started : ClientState → Call → Option PathFault → Work
started c call None = begun c call
started c call (Some fault) = skipped c fault

-- the next call is sent where there is no current one and one is left
unfoldable pub sent_next : ClientState → Option Current → Option Call → Option Work
sent_next c None (Some call) = Some (started c call (bad_path call.op))
sent_next c None None = None
sent_next c (Some current) next = None

-- ---- Get, by the kind of the record that came

-- the current call is answered
unfoldable pub answered : ClientState → ℕ → Reply → Work
answered c point reply = record { client = record c { current = None }; sent = []; notes = note.Answered c.lane c.seq (Carried point) reply ∷ [] }

-- a reply, with no listing under way
unfoldable pub replied : ClientState → ℕ → Reply → Option Listing → Work
replied c point reply None = answered c point reply
replied c point reply (Some listing) = unchanged c

-- no part of the listing is there
abbrev pub restarted : ℕ → Listing → Listing
restarted nodes listing = record listing { parts = no_parts nodes }

abbrev pub next_try : ℕ → Current → Current
next_try nodes current = record current { attempt = current.attempt + 1; listing = option_map (restarted nodes) current.listing }

-- a later table: the call is sent anew by it, or each node is asked again for its part
unfoldable pub retried : ClientState → Current → ℕ → ℕ → List RuleChange → Work
retried c current old new changes = record {
  client = record c { table = with_changes c.table new changes; current = Some (next_try c.nodes current) };
  sent = asks (record c { table = with_changes c.table new changes }) (next_try c.nodes current);
  notes = note.Stale c.lane c.seq old new ∷ [];
}

-- each rule that a table is told of has to name a node that is there, or none
unfoldable pub told_stale : ClientState → Current → ℕ → ℕ → List RuleChange → Work
told_stale c current old new changes =
    if list_all (λ change. is_within c.table.nodes change.rule) changes then retried c current old new changes else unchanged c

abbrev pub opened_by : ℕ → Current → ℕ → ℕ → Current
opened_by nodes current dir point = record current { listing = Some (record { dir = dir; opened = point; parts = no_parts nodes }) }

-- the directory's number is known: each node is asked for its part
unfoldable pub opened : ClientState → Current → ℕ → ℕ → Work
opened c current dir point = record {
  client = record c { current = Some (opened_by c.nodes current dir point) };
  sent = asks c (opened_by c.nodes current dir point);
  notes = note.Opened c.lane c.seq dir (Carried point) ∷ [];
}

-- with no listing under way
unfoldable pub told_opened : ClientState → Current → ℕ → ℕ → Option Listing → Work
told_opened c current dir point None = opened c current dir point
told_opened c current dir point (Some listing) = unchanged c

abbrev pub part_of : ℕ → List (List ℕ) → Part
part_of point names = record { point = point; names = names }

abbrev pub with_part : Listing → ℕ → Part → Listing
with_part listing node part = record listing { parts = slice_set listing.parts node (Some part) }

abbrev pub joined : ℕ → Part → Current → Current
joined node part current = record current { listing = option_map (λ l. with_part l node part) current.listing }

-- a node's part is kept
unfoldable pub kept : ClientState → Current → ℕ → Part → Work
kept c current node part = record { client = record c { current = Some (joined node part current) }; sent = []; notes = [] }

-- with the last part all names are answered, sorted, at the greatest point of the parts
unfoldable pub listed : ClientState → Listing → Part → Work
listed c listing part = answered c (greatest_point part.point listing.parts) (Names (sorted_names (part.names ++ names_of listing.parts)))

-- a part that is missing, with a listing under way
unfoldable pub told_part : ClientState → Current → ℕ → Part → Option Listing → Work
told_part c current node part None = unchanged c
told_part c current node part (Some listing) =
    if is_missing listing.parts node then (if missing_count listing.parts == 1 then listed c listing part else kept c current node part) else unchanged c

-- whether a record is about the current call and its attempt
abbrev pub is_about : ClientState → Current → CallId → Bool
is_about c current id = (id.seq == c.seq) && (id.attempt == current.attempt)

-- what a record about the current attempt changes, by its kind
unfoldable pub news_told : ClientState → Current → ℕ → News → Work
news_told c current point (news.Replied reply) = replied c point reply current.listing
news_told c current point (news.Stale old new changes) = told_stale c current old new changes
news_told c current point (news.Opened dir) = told_opened c current dir point current.listing
news_told c current point (news.Part node names) = told_part c current node (part_of point names) current.listing

-- a record about another call or attempt changes nothing, nor does one of a kind that a client does not hear
unfoldable pub heard_by : ClientState → Current → ℕ → Option (CallId × News) → Work
heard_by c current point None = unchanged c
heard_by c current point (Some x) = if is_about c current x.0 then news_told c current point x.1 else unchanged c

-- with no current call nothing changes
unfoldable pub heard : ClientState → ℕ → Option (CallId × News) → Option Current → Work
heard c point x None = unchanged c
heard c point x (Some current) = heard_by c current point x

-- bytes that are no record change nothing
unfoldable pub read_step : ClientState → ℕ → Result Message WireFault → Work
read_step c point (Ok m) = heard c point (news_of m) c.current
read_step c point (Err fault) = unchanged c

-- ---- both events

unfoldable pub is_to_lane : ℕ → Actor → Bool
is_to_lane lane (Client l) = l == lane
is_to_lane lane (Node n) = false
is_to_lane lane Coord = false

-- what came to this lane
unfoldable pub got : ClientState → Envelope → Bool → Option Work
got c e true = Some (read_step c e.point (reading e.bytes))
got c e false = None

-- the step of an event; none where the event is not enabled
unfoldable pub client_step : ClientState → ClientEvent → Option Work
client_step c Send = sent_next c c.current (slice_get c.left 0)
client_step c (Get e) = got c e (is_to_lane c.lane e.to)

-- ---- what may be asked of a client

abbrev pub attempt_of : Option Current → ℕ
attempt_of None = 0
attempt_of (Some current) = current.attempt

-- each message is within the ranges of its record, and no counter goes past its end
pub record IsInRange (work : Work) : Type 0 where
  pub records : All (λ letter. Fits letter.message) work.sent
  pub calls : work.client.seq < 2 ^ 32
  pub attempts : attempt_of work.client.current < 2 ^ 32

-- what the event makes, where it is enabled, is within the ranges
abbrev pub CanMake : ClientState → ClientEvent → Type 0
CanMake c event = ForSome (client_step c event) IsInRange
