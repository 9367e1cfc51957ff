-- What a client makes is within the ranges of the format.
use Rattle.std.proofs.Common.{◌≡◌, ℕ, zero, suc, ◌+◌, ◌<◌, ◌≤◌, ◌^◌, nat_lt, nat_le, true, List, [], ◌∷◌, ◌++◌, length, map, Option, Some, None, refl, sym, ap, ◌∙◌, subst, arith}
use Rattle.std.specs.Prelude.{slice_get, sum_by, IsTrue, Result, Ok}
use Rattle.std.specs.List.{All, range_with_len}
use Rattle.std.proofs.lemmas.Bool.Decides.{nat_tests}
use Rattle.std.proofs.lemmas.List.Elements.{All-nil}
use Rattle.std.proofs.lemmas.List.Sums.{sum_by-cons}
use Rattle.std.proofs.lemmas.Option.{same_Some}
use Rattle.fal_base.specs.declared.call.Call.{Call}
use Rattle.fal_base.specs.declared.call.CallId.{CallId}
use Rattle.fal_base.specs.declared.call.Config.{Config}
use Rattle.fal_base.specs.declared.event.Actor.TheVariants.{Client}
use Rattle.fal_base.specs.declared.event.Envelope.{Envelope}
use Rattle.fal_base.specs.declared.path.PathFault.{PathFault}
use Rattle.fal_base.specs.declared.reply.Reply.{Reply}
use Rattle.fal_base.specs.declared.reply.Reply.TheVariants.{Names}
use Rattle.fal_base.specs.declared.rule.RuleChange.{RuleChange}
use Rattle.fal_base.specs.OpPaths.{bad_path}
use Rattle.fal_base.specs.Transcript.{numbered, lane_call, call_of}
use Rattle.fal_batch.proofs.Truth.{both, both_first, both_second}
use Rattle.fal_client.specs.declared.current.Current.{Current}
use Rattle.fal_client.specs.declared.event.ClientEvent.TheVariants.{Send, Get}
use Rattle.fal_client.specs.State.{ClientState, Work as ClientWork, unchanged}
use Rattle.fal_client.specs.declared.current.Listing.{Listing}
use Rattle.fal_client.specs.declared.parts.Part.{Part}
use Rattle.fal_client.specs.Names.{sorted_names}
use Rattle.fal_client.specs.Parts.{greatest_point, names_of}
use Rattle.fal_client.specs.Step.{IsInRange, attempt_of, dir_of, id_at, call_message, part_letter, first_try, taken, begun, skipped, started, sent_next, answered, restarted, retried, opened, opened_by, joined, kept, listed, part_of, client_step}
use Rattle.fal_place.specs.Placement.{Placement, with_changes}
use Rattle.fal_place.proofs.Carried.{catches_up, version-table_after}
use Rattle.fal_wire.specs.declared.letter.Letter.{Letter}
use Rattle.fal_wire.specs.declared.message.Message.{Message}
use Rattle.fal_wire.specs.declared.message.Message.TheVariants as message
use Rattle.fal_wire.specs.declared.fault.WireFault.{WireFault}
use Rattle.fal_wire.specs.Messages.{Fits, reading}
use Rattle.fal_wire.proofs.ReadingLaws.{spelled_reads}
use Rattle.fal_wire.specs.Numbers.{lane_field, ordinal_field, cred_field, id_field}
use Rattle.fal_wire.specs.Ops.{op_field, call_field}
use Rattle.fal_story.proofs.Events.ClientEvent.{sent_to}
use Rattle.fal_story.proofs.Events.EnabledClient.{IsOfCurrent, gets, gets_own, trial}
use Rattle.fal_story.proofs.Events.ServedCalls.{good_path}
use Rattle.fal_story.proofs.Events.Shows.{Ghost, Shows}
use Rattle.fal_story.proofs.Families.Knowing.{stale_comes}
use Rattle.fal_story.proofs.Families.Lanes.{positive}
use Rattle.fal_story.proofs.Lists.Each.{Each, each_always}
use Rattle.fal_story.proofs.Lists.EachAll.{all_at}
use Rattle.fal_story.proofs.Lists.Grown.{slice_get_below}
use Rattle.fal_story.proofs.Lists.Members.{each_map}
use Rattle.fal_story.proofs.Ranges.Bounds.{IsClientRanged, IsRecord}
use Rattle.fal_story.proofs.Ranges.ListRecords.{list_ask_fits, opened_attempt, opened_dir}
use Rattle.fal_story.proofs.Ranges.MessageRanges.{call_fits}
use Rattle.fal_story.proofs.Ranges.NodeRanges.{LetterFits, letters_fit}
use Rattle.fal_story.proofs.Ranges.PlacingCounts.{few_placings}
use Rattle.fal_story.proofs.Ranges.RecordFits.{IsDirRanged, RecordFits, fits_of}
use Rattle.fal_story.specs.Clusters.{IsCluster, IsCall, is_lane}
use Rattle.fal_story.specs.World.{World}

-- ---- the calls of a cluster

part_of_sum : (lanes : List (List Call)) (k : ℕ) (calls : List Call) → slice_get lanes k ≡ Some calls → length calls ≤ sum_by (λ (cs : List Call). length cs) lanes
part_of_sum [] k calls is = absurd (cc)
part_of_sum (c ∷ lanes) zero calls is =
    let same : length c ≡ length calls = ap length (same_Some c calls is) in
    let sum = sum_by-cons (λ (cs : List Call). length cs) c lanes in
    omega arith
part_of_sum (c ∷ lanes) (suc k) calls is =
    let rest = part_of_sum lanes k calls is in
    let sum = sum_by-cons (λ (cs : List Call). length cs) c lanes in
    omega arith

-- a call of a lane, by its number
record IsOfLane (config : Config) (seq : ℕ) (call : Call) : Type 0 where
  below : seq ≤ 10000
  is_call : IsCall call

of_calls : (config : Config) (k seq : ℕ) (calls : List Call) (call : Call) → IsCluster config → slice_get config.lanes k ≡ Some calls → numbered calls seq ≡ Some call → IsOfLane config seq call
of_calls config k zero calls call cluster there is = absurd (cc)
of_calls config k (suc j) calls call cluster there is =
    let few = cluster.few_calls in
    let part = part_of_sum config.lanes k calls there in
    let at = slice_get_below calls j call is in
    record {
      below = omega arith;
      is_call = all_at IsCall calls j call (all_at (λ (cs : List Call). All IsCall cs) config.lanes k calls cluster.calls there) is;
    }

of_lane : (config : Config) (lane seq : ℕ) (call : Call) → IsCluster config → call_of config lane seq ≡ Some call → IsOfLane config seq call
of_lane config zero seq call cluster is = absurd (cc)
of_lane config (suc k) seq call cluster is =
    elim (slice_get config.lanes k) as (λ (o : Option (List Call)). slice_get config.lanes k ≡ o → lane_call o seq ≡ Some call → IsOfLane config seq call) [
      | None ↦ λ _ z. absurd (cc)
      | Some calls ↦ λ there z. of_calls config k seq calls call cluster there z
    ] refl is

-- ---- what is known of a client before a step

-- the call under way can be sent again
pub record CanGo (c : ClientState) (call : Call) : Type 0 where
  pub first : 0 < c.seq
  pub cred : cred_field.Fits call.cred
  pub op : op_field.Fits call.op

pub record IsClient (c : ClientState) : Type 0 where
  pub lane_some : 0 < c.lane
  pub lane_few : c.lane < 17
  pub seq : c.seq ≤ 10000
  pub tried : IsClientRanged c
  pub version : c.table.version ≤ 10000
  pub next : (call : Call) → slice_get c.left 0 ≡ Some call → (c.seq + 1 ≤ 10000) × IsCall call
  pub current : (current : Current) → c.current ≡ Some current → CanGo c current.call

seq_is : (config : Config) (w : World) (l : ℕ) (h : Ghost) → IsCluster config → Shows config w h → (w.clients l).seq ≤ 10000
seq_is config w l h cluster shows =
    elim (w.clients l).seq as (λ n. (w.clients l).seq ≡ n → n ≤ 10000) [
      | zero ↦ λ _. omega arith
      | suc k ↦ λ is.
          let some : 0 < (w.clients l).seq = omega arith in
          let r = of_lane config l (w.clients l).seq _ cluster (shows.good.script.calls.named l some) in
          let below = r.below in
          omega arith
    ] refl

-- the call under way
can_go : (config : Config) (w : World) (l : ℕ) (h : Ghost) (current : Current) → IsCluster config → Shows config w h → (w.clients l).current ≡ Some current → CanGo (w.clients l) current.call
can_go config w l h current cluster shows busy =
    let y = (shows.heard l).some current busy in
    let some = positive shows.good.lanes l y.0 in
    let of = of_lane config l (w.clients l).seq current.call cluster (shows.good.script.calls.named l some ∙ ap (λ (k : Call). Some k) (sym y.1)) in
    let fits : op_field.Fits current.call.op = subst (λ (k : Call). op_field.Fits k.op) (sym y.1) (shows.good.lanes.under_way.fits l y.0) in
    record { first = some; cred = (of.is_call.fits (good_path current.call.op fits)).0; op = fits }

pub client_of : (config : Config) (w : World) (l : ℕ) (h : Ghost) → IsCluster config → IsTrue (is_lane config l) → Shows config w h → IsClientRanged (w.clients l) → IsClient (w.clients l)
client_of config w l h cluster there shows tried =
    let heard = shows.heard l in
    let lane = heard.lane in
    let some : 0 < l = grind (arith, nat_tests, both_first (nat_lt 0 l) (nat_le l (length config.lanes)) there) in
    let last : l ≤ length config.lanes = grind (arith, nat_tests, both_second (nat_lt 0 l) (nat_le l (length config.lanes)) there) in
    let few = cluster.few_lanes in
    let placings = few_placings config w h cluster shows in
    let known = shows.good.knowing.knows l in
    let reached = known.1 in
    let version : (w.clients l).table.version ≡ known.0 = ap (λ (t : Placement). t.version) known.2 ∙ version-table_after config.nodes h.placings known.0 known.1 in
    record {
      lane_some = omega arith;
      lane_few = omega arith;
      seq = seq_is config w l h cluster shows;
      tried = tried;
      version = omega arith;
      next = λ call is.
          let of = of_lane config l ((w.clients l).seq + 1 + 0) call cluster (sym (heard.left 0) ∙ is) in
          let below = of.below in
          (omega arith, of.is_call);
      current = λ current busy. can_go config w l h current cluster shows busy;
    }

-- ---- a call is sent

-- the move is within the ranges, and so are its records, one by one, and the client after it
pub record KeepsRanges (move : ClientWork) : Type 0 where
  pub within : IsInRange move
  pub letters : Each LetterFits move.sent
  pub ranged : IsClientRanged move.client

id_fits : (lane seq attempt : ℕ) → 0 < lane → lane < 17 → 0 < seq → seq ≤ 10000 → 0 < attempt → attempt < 2 ^ 32 → id_field.Fits (id_at lane seq attempt)
unfolding id_field lane_field ordinal_field
id_fits lane seq attempt some few first below tried attempts =
    let from : nat_lt 0 lane ≡ true = grind (arith, nat_tests) in
    let to : nat_lt lane 17 ≡ true = grind (arith, nat_tests) in
    let ordinal : nat_lt 0 seq ≡ true = grind (arith, nat_tests) in
    let trial : nat_lt 0 attempt ≡ true = grind (arith, nat_tests) in
    ((omega arith, both (nat_lt 0 lane) (nat_lt lane 17) from to), ((omega arith, ordinal), ((omega arith, trial), omega arith)))

sent_fits : (id : CallId) (version : ℕ) (call : Call) → id_field.Fits id → version ≤ 10000 → cred_field.Fits call.cred → op_field.Fits call.op → RecordFits (call_message id version call)
unfolding call_field
sent_fits id version call of_id few of_cred of_op = call_fits (record { id = id; cred = call.cred; version = version; op = call.op }) (of_id, (of_cred, (omega arith, of_op)))

-- a client with no call is within its ranges
idle_ranged : (c : ClientState) → c.current ≡ None → IsClientRanged c
idle_ranged c none = record {
  tried = subst (λ o. attempt_of o ≤ 1 + c.table.version) (sym none) (omega arith);
  dir = λ current dir busy at. let wrong : ◌≡◌ {A = Option Current} None (Some current) = sym none ∙ busy in absurd (cc);
}

-- and so is one with this call
busy_ranged : (c : ClientState) (current : Current) → c.current ≡ Some current → current.attempt ≤ 1 + c.table.version → ((dir : ℕ) → dir_of current.listing ≡ Some dir → IsDirRanged dir) → IsClientRanged c
busy_ranged c current busy tried dirs = record {
  tried = subst (λ o. attempt_of o ≤ 1 + c.table.version) (sym busy) tried;
  dir = λ other dir at is. dirs dir (ap (λ (k : Current). dir_of k.listing) (same_Some current other (sym busy ∙ at)) ∙ is);
}

no_dir : (dir : ℕ) → ◌≡◌ {A = Option ℕ} None (Some dir) → IsDirRanged dir
no_dir dir is = absurd (cc)

same_dir : (dir other : ℕ) → IsDirRanged dir → ◌≡◌ {A = Option ℕ} (Some dir) (Some other) → IsDirRanged other
same_dir dir other ranged is = subst IsDirRanged (same_Some dir other is) ranged

begun_keeps : (c : ClientState) (call : Call) → IsClient c → c.seq + 1 ≤ 10000 → cred_field.Fits call.cred × op_field.Fits call.op → KeepsRanges (begun c call)
unfolding begun
begun_keeps c call is below fits =
    let of_call = sent_fits (id_at c.lane (c.seq + 1) 1) c.table.version call (id_fits c.lane (c.seq + 1) 1 is.lane_some is.lane_few (omega arith) below (omega arith) (omega arith)) is.version fits.0 fits.1 in
    let letters : Each LetterFits (begun c call).sent = (of_call, tt) in
    record { within = record { records = letters_fit (begun c call).sent letters; calls = omega arith; attempts = omega arith }; letters = letters; ranged = busy_ranged (begun c call).client (first_try call) refl (omega arith) no_dir }

skipped_keeps : (c : ClientState) (fault : PathFault) → c.seq + 1 ≤ 10000 → KeepsRanges (skipped c fault)
unfolding skipped
skipped_keeps c fault below = record { within = record { records = All-nil (λ (l : Letter). Fits l.message); calls = omega arith; attempts = omega arith }; letters = tt; ranged = idle_ranged (taken c) refl }

started_keeps : (c : ClientState) (call : Call) (fault : Option PathFault) → bad_path call.op ≡ fault → IsClient c → c.seq + 1 ≤ 10000 → IsCall call → KeepsRanges (started c call fault)
unfolding started
started_keeps c call None good is below of_call = begun_keeps c call is below (of_call.fits good)
started_keeps c call (Some fault) bad is below of_call = skipped_keeps c fault below

sent_keeps : (c : ClientState) (current : Option Current) (next : Option Call) (move : ClientWork) → slice_get c.left 0 ≡ next → IsClient c → sent_next c current next ≡ Some move → KeepsRanges move
unfolding sent_next
sent_keeps c None (Some call) move at is e =
    let of = is.next call at in
    subst KeepsRanges (same_Some (started c call (bad_path call.op)) move e) (started_keeps c call (bad_path call.op) refl is of.0 of.1)
sent_keeps c None None move at is e = absurd (cc)
sent_keeps c (Some current) next move at is e = absurd (cc)

pub send_keeps : (c : ClientState) (move : ClientWork) → IsClient c → client_step c Send ≡ Some move → KeepsRanges move
unfolding client_step
send_keeps c move is e = sent_keeps c c.current (slice_get c.left 0) move refl is e

-- ---- a record comes

unchanged_keeps : (c : ClientState) → IsClient c → KeepsRanges (unchanged c)
unchanged_keeps c is =
    let seq = is.seq in
    let tried = is.tried.tried in
    let version = is.version in
    record { within = record { records = All-nil (λ (l : Letter). Fits l.message); calls = omega arith; attempts = omega arith }; letters = tt; ranged = is.tried }

answered_keeps : (c : ClientState) (point : ℕ) (reply : Reply) → IsClient c → KeepsRanges (answered c point reply)
unfolding answered
answered_keeps c point reply is =
    let seq = is.seq in
    record { within = record { records = All-nil (λ (l : Letter). Fits l.message); calls = omega arith; attempts = omega arith }; letters = tt; ranged = idle_ranged (record c { current = None }) refl }

-- the questions to all nodes
asks_fit : (id : CallId) (version dir nodes : ℕ) → id_field.Fits id → version ≤ 10000 → IsDirRanged dir → Each LetterFits (map (part_letter id version dir) (range_with_len 0 nodes))
asks_fit id version dir nodes of_id few of_dir =
    each_map LetterFits (part_letter id version dir) (range_with_len 0 nodes) (each_always (λ n. LetterFits (part_letter id version dir n)) (λ n. list_ask_fits id version dir of_id few of_dir) (range_with_len 0 nodes))

module _ (c : ClientState) (call : Call) (attempt : ℕ) (is : IsClient c) where
  -- the current attempt is one more at most than the table's version
  abbrev IsTried : Option Listing → Type 0
  IsTried listing = c.current ≡ Some (trial call attempt listing)

  tried_most : (listing : Option Listing) → IsTried listing → attempt ≤ 1 + c.table.version
  tried_most listing busy = subst (λ o. attempt_of o ≤ 1 + c.table.version) busy is.tried.tried

  -- the directory that is listed has a number
  listed_dir : (listing : Listing) → IsTried (Some listing) → IsDirRanged listing.dir
  listed_dir listing busy = is.tried.dir (trial call attempt (Some listing)) listing.dir busy refl

  id_now : (listing : Option Listing) (tried : ℕ) → IsTried listing → 0 < tried → tried < 2 ^ 32 → id_field.Fits (id_at c.lane c.seq tried)
  id_now listing tried busy some few = id_fits c.lane c.seq tried is.lane_some is.lane_few (is.current (trial call attempt listing) busy).first is.seq some few

  -- a call is sent again only by a later table
  retried_keeps : (old new : ℕ) (changes : List RuleChange) → IsTried None → c.table.version < new → new ≤ 10000 → KeepsRanges (retried c (trial call attempt None) old new changes)
  unfolding retried
  retried_keeps old new changes busy later below =
      let can = is.current (trial call attempt None) busy in
      let seq = is.seq in
      let most = tried_most None busy in
      let work = retried c (trial call attempt None) old new changes in
      let letters : Each LetterFits work.sent = (sent_fits (id_at c.lane c.seq (attempt + 1)) new call (id_now None (attempt + 1) busy (omega arith) (omega arith)) below can.cred can.op, tt) in
      record {
        within = record { records = letters_fit work.sent letters; calls = omega arith; attempts = omega arith };
        letters = letters;
        ranged = busy_ranged work.client (trial call (attempt + 1) None) refl (omega arith) no_dir;
      }

  -- and so are the questions of a listing
  restarted_keeps : (old new : ℕ) (changes : List RuleChange) (listing : Listing) → IsTried (Some listing) → c.table.version < new → new ≤ 10000 → KeepsRanges (retried c (trial call attempt (Some listing)) old new changes)
  unfolding retried
  restarted_keeps old new changes listing busy later below =
      let seq = is.seq in
      let most = tried_most (Some listing) busy in
      let of_dir = listed_dir listing busy in
      let work = retried c (trial call attempt (Some listing)) old new changes in
      let letters : Each LetterFits work.sent = asks_fit (id_at c.lane c.seq (attempt + 1)) new listing.dir c.nodes (id_now (Some listing) (attempt + 1) busy (omega arith) (omega arith)) below of_dir in
      record {
        within = record { records = letters_fit work.sent letters; calls = omega arith; attempts = omega arith };
        letters = letters;
        ranged = busy_ranged work.client (trial call (attempt + 1) (Some (restarted c.nodes listing))) refl (omega arith) (λ dir same. same_dir listing.dir dir of_dir same);
      }

  -- a directory is told, and each node is asked
  opened_keeps : (dir point : ℕ) → IsTried None → 0 < attempt → IsDirRanged dir → KeepsRanges (opened c (trial call attempt None) dir point)
  unfolding opened
  opened_keeps dir point busy some of_dir =
      let seq = is.seq in
      let most = tried_most None busy in
      let version = is.version in
      let work = opened c (trial call attempt None) dir point in
      let letters : Each LetterFits work.sent = asks_fit (id_at c.lane c.seq attempt) c.table.version dir c.nodes (id_now None attempt busy some (omega arith)) is.version of_dir in
      record {
        within = record { records = letters_fit work.sent letters; calls = omega arith; attempts = omega arith };
        letters = letters;
        ranged = busy_ranged work.client (opened_by c.nodes (trial call attempt None) dir point) refl (omega arith) (λ other same. same_dir dir other of_dir same);
      }

  -- a part is kept
  kept_keeps : (node : ℕ) (part : Part) (listing : Listing) → IsTried (Some listing) → KeepsRanges (kept c (trial call attempt (Some listing)) node part)
  unfolding kept
  kept_keeps node part listing busy =
      let seq = is.seq in
      let most = tried_most (Some listing) busy in
      let version = is.version in
      let work = kept c (trial call attempt (Some listing)) node part in
      record {
        within = record { records = All-nil (λ (l : Letter). Fits l.message); calls = omega arith; attempts = omega arith };
        letters = tt;
        ranged = busy_ranged work.client (joined node part (trial call attempt (Some listing))) refl (omega arith) (λ dir same. same_dir listing.dir dir (listed_dir listing busy) same);
      }

module _ (config : Config) (w : World) (l number : ℕ) (h : Ghost) (x : Envelope) (cluster : IsCluster config) (shows : Shows config w h) (is : IsClient (w.clients l)) (at : slice_get w.envelopes number ≡ Some x) (to : x.to ≡ Client l) where
  -- a table that is taken is later
  later_than : (id : CallId) (old new : ℕ) (changes : List RuleChange) (call : Call) (attempt : ℕ) (listing : Option Listing) → IsOfCurrent w l x (message.Stale id old new changes) id call attempt listing
      → ((w.clients l).table.version < new) × (new ≤ 10000)
  later_than id old new changes call attempt listing taking =
      let posted = sent_to w l number x (message.Stale id old new changes) at to taking.read in
      let table = (w.clients l).table in
      let next = with_changes table new changes in
      let y = (shows.heard l).some (trial call attempt listing) taking.busy in
      let comes = stale_comes shows.good.knowing number x.point l old new id changes next posted (taking.seq, taking.attempt ∙ y.2) y.0 (catches_up table next new changes refl) in
      let was = comes.0.1 in
      let later = comes.0.2 in
      let reached = comes.1 in
      let placings = few_placings config w h cluster shows in
      (omega arith, omega arith)

  -- what was read can be spelled
  opened_ranged : (id : CallId) (dir : ℕ) → IsRecord x → reading x.bytes ≡ Ok (message.Opened id dir) → (0 < id.attempt) × IsDirRanged dir
  opened_ranged id dir sent read =
      let said : sent.0 ≡ message.Opened id dir = same_message sent.0 (message.Opened id dir) (sym (ap reading sent.2 ∙ spelled_reads sent.0 (fits_of sent.0 sent.1)) ∙ read) in
      let fits : RecordFits (message.Opened id dir) = subst RecordFits said sent.1 in
      (opened_attempt id dir fits, opened_dir id dir fits)
    where
      same_message : (a b : Message) → ◌≡◌ {A = Result Message WireFault} (Ok a) (Ok b) → a ≡ b
      same_message a b e = cc

pub get_keeps : (config : Config) (w : World) (l number : ℕ) (h : Ghost) (x : Envelope) (move : ClientWork) → IsCluster config → Shows config w h → IsClient (w.clients l) → slice_get w.envelopes number ≡ Some x → IsRecord x
    → client_step (w.clients l) (Get x) ≡ Some move → KeepsRanges move
unfolding listed
get_keeps config w l number h x move cluster shows is at sent made =
    let c = w.clients l in
    let to = gets_own c x move made ∙ ap Client (shows.heard l).lane in
    gets config w l number h x move KeepsRanges shows at
    (λ _. unchanged_keeps c is)
    (record {
      hears = λ id reply current _. answered_keeps c x.point reply is;
      takes = λ id old new changes call attempt taking. let later = later_than config w l number h x cluster shows is at to id old new changes call attempt None taking in retried_keeps c call attempt is old new changes taking.busy later.0 later.1;
      restarts = λ id old new changes call attempt listing taking. let later = later_than config w l number h x cluster shows is at to id old new changes call attempt (Some listing) taking in
          restarted_keeps c call attempt is old new changes listing taking.busy later.0 later.1;
      opens = λ id dir call attempt told. let ranged = opened_ranged config w l number h x cluster shows is at to id dir sent told.read in
          opened_keeps c call attempt is dir x.point told.busy (subst (λ n. 0 < n) told.attempt ranged.0) ranged.1;
      keeps = λ id node names call attempt listing told missing more. kept_keeps c call attempt is node (part_of x.point names) listing told.busy;
      lasts = λ id node names call attempt listing told missing one. answered_keeps c (greatest_point x.point listing.parts) (Names (sorted_names (names ++ names_of listing.parts))) is;
    })
    made
