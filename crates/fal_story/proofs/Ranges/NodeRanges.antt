-- A node that serves an item or releases a batch keeps to the ranges.
use Rattle.std.proofs.Common.{◌≡◌, ℕ, ◌+◌, ◌<◌, ◌≤◌, ◌^◌, IsSome, true, false, cond, List, [], ◌∷◌, length, Option, Some, None, refl, sym, subst, arith}
use Rattle.std.specs.Prelude.{◌==◌}
use Rattle.std.specs.List.{All}
use Rattle.std.proofs.lemmas.Bool.Decides.{nat_tests}
use Rattle.std.proofs.lemmas.Option.{same_Some}
use Rattle.fal_base.specs.declared.call.CallId.{CallId}
use Rattle.fal_base.specs.declared.event.Actor.TheVariants.{Client, Node}
use Rattle.fal_base.specs.declared.event.Point.TheVariants.{Here}
use Rattle.fal_base.specs.declared.key.Key.{Key}
use Rattle.fal_base.specs.Tree.{names_under, row_at}
use Rattle.fal_duty.specs.Duties.{fetched_of, found_of, part_of, rows_of}
use Rattle.fal_node.specs.declared.batch.Batch.{Batch}
use Rattle.fal_node.specs.declared.event.NodeEvent.TheVariants.{Release, Serve}
use Rattle.fal_node.specs.declared.item.Item.{Item}
use Rattle.fal_wire.specs.declared.letter.Letter.{Letter}
use Rattle.fal_node.specs.Letters.{Work, begun, asker_of}
use Rattle.fal_run.specs.Letters.{commits_in}
use Rattle.fal_node.specs.Serve.{owns, can_serve, fetch_letter, fetch_service, lock_service, block_service, blocking, is_behind, list_letter, list_service, service_of, served_as, shutting, served, serve}
use Rattle.fal_node.specs.State.{NodeState, batch_of, item_of, without_item, released}
use Rattle.fal_node.specs.Step.{IsWithin, node_step, release, only_if}
use Rattle.fal_inode.specs.Named.{rows_named}
use Rattle.fal_place.specs.Placement.{Placement, changes_since, owner}
use Rattle.fal_wait.specs.Lists.{without_first}
use Rattle.fal_wire.specs.declared.message.Message.{Message}
use Rattle.fal_wire.specs.declared.message.Message.TheVariants as message
use Rattle.fal_wire.specs.Messages.{Fits, FieldsFit}
use Rattle.fal_wire.specs.Letters.{letter}
use Rattle.fal_wire.specs.Numbers.{id_field}
use Rattle.fal_wire.specs.Rows.{changes_field}
use Rattle.fal_story.proofs.Lists.Each.{Each, each_weaker}
use Rattle.fal_story.proofs.Lists.EachAll.{all_of_each}
use Rattle.fal_story.proofs.Lists.Members.{each_in, find_in, same_number, each_without_first}
use Rattle.fal_story.proofs.Ranges.Bounds.{IsNodeRanged, IsNodeCounted, cancels, cancelling}
use Rattle.fal_story.proofs.Ranges.CoordWalks.{without_ranged}
use Rattle.fal_story.proofs.Ranges.Counters.{cancelling_found}
use Rattle.fal_story.proofs.Ranges.GivenRows.{left_ranged, left_sorted, named_ascend, named_fit, named_most}
use Rattle.fal_story.proofs.Ranges.ListRecords.{list_ask_id, part_fits}
use Rattle.fal_story.proofs.Ranges.MessageRanges.{ask_fits, got_fits, ask_fields, found_fits}
use Rattle.fal_story.proofs.Ranges.NamesUnder.{names_under_items}
use Rattle.fal_story.proofs.Ranges.OperationRecords.{keys_are, lock_fields, locked_fits, node_fits, updates_fit}
use Rattle.fal_story.proofs.Ranges.PlaceRecords.{block_fields, blocked_fits}
use Rattle.fal_story.proofs.Ranges.RecordFits.{HasDir, RecordFits, fits_of}
use Rattle.fal_story.proofs.Ranges.RowCounts.{few_names, few_told, rows_told}
use Rattle.fal_story.proofs.Ranges.StaleRecords.{since_fits, stale_fits}
use Rattle.fal_story.proofs.Ranges.TreeNames.{IsNamedKey}
use Rattle.fal_story.proofs.Ranges.WaitRanges.{fit_cancel}

-- the record can be spelled
abbrev pub LetterFits : Letter → Type 0
LetterFits letter = RecordFits letter.message

pub letters_fit : (letters : List Letter) → Each LetterFits letters → All (λ letter. Fits letter.message) letters
letters_fit letters fits = all_of_each (λ (letter : Letter). Fits letter.message) letters (each_weaker LetterFits _ letters (λ letter fit. fits_of letter.message fit) fits)

-- the rules of a table can be spelled, and at most 10,000 were made
pub record IsTableRanged (table : Placement) : Type 0 where
  pub rules : changes_field.Fits table.rules
  pub version : table.version ≤ 10000

-- what is known of a node before a step, after so many events of the cluster: at most 10,000 operations cancelled 16 fetches each. Its rows are
-- the tree's, of which each commit makes at most one, or are to be removed by an operation. A call is handed on at most once by each commit and placement
pub record IsStart (events : ℕ) (x : NodeState) : Type 0 where
  pub few : events < 2 ^ 63
  pub ranged : IsNodeRanged x
  pub counted : IsNodeCounted events x
  pub number : x.number < 16
  pub limit : x.limit ≤ 64
  pub drawn : x.drawn ≤ 10000
  pub opened : x.waiting.opened ≤ events + 160000
  pub calls : length x.waiting.calls ≤ 16
  pub pending : length x.waiting.fetches ≤ 16
  pub operation : x.last_operation ≤ 10000
  pub rows : length x.rows ≤ 10003
  pub parents : (key : Key) → IsSome (row_at x.rows key) → key.parent < 256 ^ 8
  pub named : (key : Key) → IsSome (row_at x.rows key) → IsNamedKey key
  pub hops : Each (λ w. w.call.id.hop ≤ 20000) x.waiting.calls
  pub table : IsTableRanged x.table

-- the step after so many events is within the ranges, and leaves the node so
pub record KeepsRanges (events : ℕ) (work : Work) : Type 0 where
  pub within : IsWithin work
  pub letters : Each LetterFits work.sent
  pub ranged : IsNodeRanged work.node
  pub counted : IsNodeCounted (events + 1) work.node

pub within : (events : ℕ) (work : Work) → events < 2 ^ 63 → IsNodeCounted (events + 1) work.node → Each LetterFits work.sent → work.node.waiting.opened ≤ events + 160016 → work.node.number < 16
    → work.node.drawn ≤ 20000 → commits_in work.notes ≤ 64 → IsWithin work
within events work few counted letters opened number drawn commits =
    let tickets = counted.tickets in
    let items = counted.items in
    let batches = counted.batches in
    record {
      records = letters_fit work.sent letters;
      tickets = omega arith;
      fetches = omega arith;
      items = omega arith;
      batches = omega arith;
      numbers = λ _. omega arith;
      commits = omega arith;
    }

pub counted_more : (events : ℕ) (x : NodeState) → IsNodeCounted events x → IsNodeCounted (events + 1) x
counted_more events x counted =
    let tickets = counted.tickets in
    let items = counted.items in
    let batches = counted.batches in
    let fetches = counted.fetches in
    record { tickets = omega arith; items = omega arith; batches = omega arith; fetches = omega arith }

-- nothing changes
pub keeps_same : (events : ℕ) (x : NodeState) → IsStart events x → KeepsRanges events (begun x)
keeps_same events x start =
    let few = start.few in
    let drawn = start.drawn in
    let opened = start.opened in
    let more = counted_more events x start.counted in
    record {
      within = within events (begun x) few more tt (omega arith) start.number (omega arith) (omega arith);
      letters = tt;
      ranged = start.ranged;
      counted = more;
    }

-- ---- an item is served

fetch_letter_fits : (x : NodeState) (asker number : ℕ) (key : Key) → IsNodeRanged x → FieldsFit (message.FetchAsk asker number key) → LetterFits (fetch_letter x asker number key)
fetch_letter_fits x asker number key ranged fits =
    let fields = ask_fields asker number key fits in
    elim (owns x key) as (λ b. LetterFits (cond b (letter (asker_of asker) (Here 0) (fetched_of x.rows number key)) (letter (Node (owner x.table key)) (Here 0) (message.FetchAsk asker number key)))) [
      | true ↦ got_fits number key (found_of (row_at x.rows key)) fields.number_in_range fields.key_in_range (found_fits (row_at x.rows key) (ranged.rows key))
      | false ↦ ask_fits asker number key fields.asker_in_range fields.number_in_range fields.key_in_range
    ]

-- the item that is served is the one that goes
abbrev IsGone : NodeState → ℕ → Message → Type 0
IsGone x number m = cancelling (without_first (λ (i : Item). i.number == number) x.items) + cancels m ≡ cancelling x.items

fetch_keeps : (events : ℕ) (x : NodeState) (number asker fetch : ℕ) (key : Key) → IsStart events x → FieldsFit (message.FetchAsk asker fetch key) → IsGone x number (message.FetchAsk asker fetch key)
    → KeepsRanges events (served_as (fetch_service x asker fetch key) number)
unfolding without_item
fetch_keeps events x number asker fetch key start fits gone =
    let few = start.few in
    let drawn = start.drawn in
    let opened = start.opened in
    let ranged = start.ranged in
    let more = counted_more events x start.counted in
    let fetches = more.fetches in
    let letters : Each LetterFits (fetch_letter x asker fetch key ∷ []) = (fetch_letter_fits x asker fetch key ranged fits, tt) in
    let work = served_as (fetch_service x asker fetch key) number in
    let now : IsNodeCounted (events + 1) (without_item x number) = record { tickets = more.tickets; items = more.items; batches = more.batches; fetches = omega arith } in
    record {
      within = within events work few now letters (omega arith) start.number (omega arith) (omega arith);
      letters = letters;
      ranged = record {
        rows = ranged.rows;
        sorted = ranged.sorted;
        replica = ranged.replica;
        waiting = ranged.waiting;
        items = each_without_first _ _ x.items ranged.items;
        batches = ranged.batches;
      };
      counted = now;
    }

lock_keeps : (events : ℕ) (x : NodeState) (number operation : ℕ) (keys : List Key) → IsStart events x → FieldsFit (message.Lock operation keys) → IsGone x number (message.Lock operation keys)
    → KeepsRanges events (served_as (lock_service x operation keys) number)
unfolding without_item shutting
lock_keeps events x number operation keys start fits gone =
    let few = start.few in
    let drawn = start.drawn in
    let opened = start.opened in
    let pending = start.pending in
    let ranged = start.ranged in
    let more = counted_more events x start.counted in
    let fetches = more.fetches in
    let fields = lock_fields operation keys fits in
    let are = keys_are keys fields.1 in
    let few_keys = are.few in
    let few_rows = few_told x.table x.rows x.number keys in
    let told = updates_fit (rows_of x.table x.rows x.number keys) (omega arith) (rows_told x.table x.rows x.number keys ranged.rows are.fit) in
    let work = served_as (lock_service x operation keys) number in
    let letters : Each LetterFits work.sent = (locked_fits operation x.number (rows_of x.table x.rows x.number keys) fields.0 (node_fits x.number start.number) told, tt) in
    let now : IsNodeCounted (events + 1) work.node = record { tickets = more.tickets; items = more.items; batches = more.batches; fetches = omega arith } in
    record {
      within = within events work few now letters (omega arith) start.number (omega arith) (omega arith);
      letters = letters;
      ranged = record {
        rows = ranged.rows;
        sorted = ranged.sorted;
        replica = without_ranged x.replica keys ranged.replica;
        waiting = fit_cancel x.waiting ranged.waiting;
        items = each_without_first _ _ x.items ranged.items;
        batches = ranged.batches;
      };
      counted = now;
    }

-- the rows of the name are told, and leave
block_keeps : (events : ℕ) (x : NodeState) (number operation : ℕ) (name : List ℕ) → IsStart events x → FieldsFit (message.Block operation name) → IsGone x number (message.Block operation name)
    → KeepsRanges events (served_as (block_service x operation name) number)
unfolding without_item blocking
block_keeps events x number operation name start fits gone =
    let few = start.few in
    let drawn = start.drawn in
    let opened = start.opened in
    let ranged = start.ranged in
    let more = counted_more events x start.counted in
    let fetches = more.fetches in
    let few_rows = start.rows in
    let given = rows_named x.rows name in
    let few_given = named_most x.rows name in
    let fields = block_fields operation name fits in
    let work = served_as (block_service x operation name) number in
    let letters : Each LetterFits work.sent =
    (blocked_fits operation x.number given fields.0 (node_fits x.number start.number) (omega arith) (named_fit x.rows name ranged.sorted ranged.rows start.parents) (named_ascend x.rows name ranged.sorted), tt) in
    let now : IsNodeCounted (events + 1) work.node = record { tickets = more.tickets; items = more.items; batches = more.batches; fetches = omega arith } in
    record {
      within = within events work few now letters (omega arith) start.number (omega arith) (omega arith);
      letters = letters;
      ranged = record {
        rows = left_ranged x.rows name ranged.rows;
        sorted = left_sorted x.rows name ranged.sorted;
        replica = ranged.replica;
        waiting = ranged.waiting;
        items = each_without_first _ _ x.items ranged.items;
        batches = ranged.batches;
      };
      counted = now;
    }

-- the client is told of a later table, or the names under a directory that has a number
list_letter_fits : (x : NodeState) (id : CallId) (version dir : ℕ) → IsNodeRanged x → x.number < 16 → length x.rows ≤ 10003 → ((key : Key) → IsSome (row_at x.rows key) → IsNamedKey key) → IsTableRanged x.table → id_field.Fits id → 0 < dir
    → LetterFits (list_letter x id version dir)
list_letter_fits x id version dir ranged number few named table of_id some =
    let few_under = few_names x.rows dir in
    elim (is_behind x version) as (λ b. is_behind x version ≡ b → LetterFits (letter (Client id.client) (Here 0) (cond b (message.Stale id version x.table.version (changes_since version x.table)) (part_of x.rows x.number id dir)))) [
      | true ↦ λ behind. stale_fits id version x.table.version (changes_since version x.table) of_id (grind (arith, nat_tests)) table.version (since_fits version x.table table.rules)
      | false ↦ λ _. part_fits id x.number (names_under x.rows dir) of_id (node_fits x.number number) (omega arith) (names_under_items x.rows dir some ranged.sorted named)
    ] refl

list_keeps : (events : ℕ) (x : NodeState) (number : ℕ) (id : CallId) (version dir : ℕ) → IsStart events x → FieldsFit (message.ListAsk id version dir) → 0 < dir → IsGone x number (message.ListAsk id version dir)
    → KeepsRanges events (served_as (list_service x id version dir) number)
unfolding without_item
list_keeps events x number id version dir start fits some gone =
    let few = start.few in
    let drawn = start.drawn in
    let opened = start.opened in
    let ranged = start.ranged in
    let more = counted_more events x start.counted in
    let fetches = more.fetches in
    let letters : Each LetterFits (list_letter x id version dir ∷ []) =
    (list_letter_fits x id version dir ranged start.number start.rows start.named start.table (list_ask_id id version dir fits) some, tt) in
    let work = served_as (list_service x id version dir) number in
    let now : IsNodeCounted (events + 1) (without_item x number) = record { tickets = more.tickets; items = more.items; batches = more.batches; fetches = omega arith } in
    record {
      within = within events work few now letters (omega arith) start.number (omega arith) (omega arith);
      letters = letters;
      ranged = record {
        rows = ranged.rows;
        sorted = ranged.sorted;
        replica = ranged.replica;
        waiting = ranged.waiting;
        items = each_without_first _ _ x.items ranged.items;
        batches = ranged.batches;
      };
      counted = now;
    }

service_keeps : (events : ℕ) (x : NodeState) (number : ℕ) (m : Message) → IsStart events x → FieldsFit m → HasDir m → IsGone x number m → (service_of x m).can ≡ true → KeepsRanges events (served_as (service_of x m) number)
service_keeps events x number (message.FetchAsk asker fetch key) start fits dir gone can = fetch_keeps events x number asker fetch key start fits gone
service_keeps events x number (message.ListAsk id version at) start fits dir gone can = list_keeps events x number id version at start fits dir gone
service_keeps events x number (message.Lock operation keys) start fits dir gone can = lock_keeps events x number operation keys start fits gone
service_keeps events x number (message.Block operation name) start fits dir gone can = block_keeps events x number operation name start fits gone
service_keeps events x number other start fits dir gone can = absurd (cc)

serve_found : (events : ℕ) (x : NodeState) (item : Option Item) (work : Work) → IsStart events x → ((i : Item) → item ≡ Some i → FieldsFit i.message × HasDir i.message × IsGone x i.number i.message) → serve x item ≡ Some work → KeepsRanges events work
unfolding served
serve_found events x None work start fits is = absurd (cc)
serve_found events x (Some item) work start fits is =
    elim (can_serve x item.message) as (λ b. can_serve x item.message ≡ b → cond b (Some (served x item)) None ≡ Some work → KeepsRanges events work) [
      | true ↦ λ can e. let h = fits item refl in subst (KeepsRanges events) (same_Some (served x item) work e) (service_keeps events x item.number item.message start h.0 h.1 h.2 can)
      | false ↦ λ _ e. absurd (cc)
    ] refl is

pub serve_keeps : (events : ℕ) (x : NodeState) (number : ℕ) (work : Work) → IsStart events x → node_step x (Serve number) ≡ Some work → KeepsRanges events work
unfolding node_step
serve_keeps events x number work start is =
    serve_found events x (item_of x number) work start
    (λ item there.
    let test = λ (i : Item). i.number == number in
    let found = find_in test x.items item there in
    let at : item.number ≡ number = same_number item.number number found.0 in
    let fit = each_in (λ (i : Item). FieldsFit i.message × HasDir i.message) x.items item start.ranged.items found.1 in (
      fit.0,
      fit.1,
      subst (λ n. IsGone x n item.message) (sym at) (cancelling_found test x.items item there),
    )) is

-- ---- a batch is released

released_keeps : (events : ℕ) (x : NodeState) (number : ℕ) → IsStart events x → KeepsRanges events (begun (released x number))
unfolding released
released_keeps events x number start =
    let few = start.few in
    let drawn = start.drawn in
    let opened = start.opened in
    let ranged = start.ranged in
    let more = counted_more events x start.counted in
    let now : IsNodeCounted (events + 1) (released x number) = record { tickets = more.tickets; items = more.items; batches = more.batches; fetches = more.fetches } in
    record {
      within = within events (begun (released x number)) few now tt (omega arith) start.number (omega arith) (omega arith);
      letters = tt;
      ranged = record { rows = ranged.rows; sorted = ranged.sorted; replica = ranged.replica; waiting = ranged.waiting; items = ranged.items; batches = each_without_first _ _ x.batches ranged.batches };
      counted = now;
    }

release_found : (events : ℕ) (x : NodeState) (number : ℕ) (batch : Option Batch) (work : Work) → IsStart events x → release x number batch ≡ Some work → KeepsRanges events work
release_found events x number None work start is = absurd (cc)
release_found events x number (Some batch) work start is =
    elim batch.executed as (λ b. only_if b (begun (released x number)) ≡ Some work → KeepsRanges events work) [
      | true ↦ λ e. subst (KeepsRanges events) (same_Some (begun (released x number)) work e) (released_keeps events x number start)
      | false ↦ λ e. absurd (cc)
    ] is

pub release_keeps : (events : ℕ) (x : NodeState) (number : ℕ) (work : Work) → IsStart events x → node_step x (Release number) ≡ Some work → KeepsRanges events work
unfolding node_step
release_keeps events x number work start is = release_found events x number (batch_of x number) work start is
