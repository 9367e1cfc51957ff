-- A node to which a record comes keeps to the ranges.
use Rattle.std.proofs.Common.{◌≡◌, ⊎_elim, ℕ, ◌+◌, ◌<◌, ◌≤◌, nat_lt, true, false, cond, List, [], ◌∷◌, length, Option, Some, None, Result, Ok, refl, sym, ap, subst, ◌∙◌, arith}
use Rattle.std.specs.Prelude.{is_some}
use Rattle.std.proofs.lemmas.Bool.Decides.{nat_tests}
use Rattle.std.proofs.lemmas.Option.{same_Some}
use Rattle.fal_base.specs.declared.call.CallRec.{CallRec}
use Rattle.fal_base.specs.declared.event.Actor.TheVariants.{Coord}
use Rattle.fal_base.specs.declared.event.Envelope.{Envelope}
use Rattle.fal_base.specs.declared.event.Point.TheVariants.{Here}
use Rattle.fal_base.specs.declared.inode.Dentry.{Dentry}
use Rattle.fal_base.specs.declared.key.Key.{Key}
use Rattle.fal_base.specs.declared.reply.Errno.{Errno}
use Rattle.fal_base.specs.declared.reply.Errno.TheVariants.{Enoent, Enotdir}
use Rattle.fal_base.specs.declared.reply.Reply.TheVariants.{Fail}
use Rattle.fal_base.specs.declared.row.NamedRow.{NamedRow}
use Rattle.fal_base.specs.declared.row.Update.{Update}
use Rattle.fal_base.specs.declared.rule.Rule.{Rule}
use Rattle.fal_base.specs.Tree.{names_under}
use Rattle.fal_base.specs.Updates.{laid}
use Rattle.fal_base.proofs.Maps.{put_cases}
use Rattle.fal_duty.specs.Duties.{owned, count_told}
use Rattle.fal_exec.specs.RowCall.{row_names}
use Rattle.fal_inode.specs.Named.{puts}
use Rattle.fal_node.specs.declared.event.NodeEvent.TheVariants.{Deliver}
use Rattle.fal_node.specs.Deliver.{admitted, take_call, learned, dismissed, refusal, refusals, refuse, settle, settle_pending, with_operation, take_operation, take_count, reopened, take_commit, installed, table_with, name_blocked, install_named, take_install, take_message, take_read, delivered}
use Rattle.fal_node.specs.Letters.{Work, begun, is_asker}
use Rattle.fal_node.specs.State.{NodeState, with_item, is_of}
use Rattle.fal_node.specs.Step.{is_to_node, node_step, only_if}
use Rattle.fal_place.specs.Placement.{is_within}
use Rattle.fal_wait.specs.declared.pending_fetch.PendingFetch.{PendingFetch}
use Rattle.fal_wait.specs.Waiting.{WaitList, call_with_ticket, fetch_of, after_settle}
use Rattle.fal_wire.specs.declared.fault.WireFault.{WireFault}
use Rattle.fal_wire.specs.declared.message.Found.{Found}
use Rattle.fal_wire.specs.declared.message.Found.TheVariants as found
use Rattle.fal_wire.specs.declared.message.Message.{Message}
use Rattle.fal_wire.specs.declared.message.Message.TheVariants as message
use Rattle.fal_wire.specs.declared.letter.Letter.{Letter}
use Rattle.fal_wire.specs.Letters.{letter}
use Rattle.fal_wire.specs.Messages.{reading}
use Rattle.fal_wire.specs.Rows.{dentry_field}
use Rattle.fal_wire.proofs.ReadingLaws.{spelled_reads}
use Rattle.fal_story.proofs.Lists.Each.{Each, each_join}
use Rattle.fal_story.proofs.Ranges.Bounds.{CallFits, IsNodeCounted, IsRecord, cancels}
use Rattle.fal_story.proofs.Ranges.CoordBounds.{RowsFit}
use Rattle.fal_story.proofs.Ranges.Counters.{withouts_same, admit_count, settle_count, cancelling_join}
use Rattle.fal_story.proofs.Ranges.MessageRanges.{reply_fits, call_of_record, got_dentry, id_of_call, fail_fits}
use Rattle.fal_story.proofs.Ranges.NodeRanges.{IsStart, KeepsRanges, LetterFits, within, counted_more, keeps_same}
use Rattle.fal_story.proofs.Ranges.OperationRecords.{commit_fields, count_fields, counted_fits, done_fits, node_fits, rows_of_updates, updates_are}
use Rattle.fal_story.proofs.Ranges.PlaceRecords.{install_fields, installed_fits, puts_fit, rows_are}
use Rattle.fal_story.proofs.Ranges.RecordFits.{RecordFits, fits_of}
use Rattle.fal_story.proofs.Ranges.RowCounts.{few_names, laid_ranged, laid_sorted, owned_fit}
use Rattle.fal_story.proofs.Ranges.WaitRanges.{WaitersFit, fit_admit, fit_withouts, fit_settle, waiter_of}

-- ---- a call

admitted_keeps : (events : ℕ) (x : NodeState) (call : CallRec) → IsStart events x → CallFits call → KeepsRanges events (begun (admitted x call))
unfolding admitted
admitted_keeps events x call start fits =
    let few = start.few in
    let drawn = start.drawn in
    let opened = start.opened in
    let ranged = start.ranged in
    let more = start.counted in
    let tickets = more.tickets in
    let items = more.items in
    let batches = more.batches in
    let fetches = more.fetches in
    let count = admit_count x.waiting call in
    let count_tickets = count.tickets in
    let count_opened = count.opened in
    let count_fetches = ap length count.fetches in
    let now : IsNodeCounted (events + 1) (admitted x call) = record { tickets = omega arith; items = omega arith; batches = omega arith; fetches = omega arith } in
    record {
      within = within events (begun (admitted x call)) few now tt (omega arith) start.number (omega arith) (omega arith);
      letters = tt;
      ranged = record { rows = ranged.rows; sorted = ranged.sorted; replica = ranged.replica; waiting = fit_admit x.waiting call fits ranged.waiting; items = ranged.items; batches = ranged.batches };
      counted = now;
    }

call_keeps : (events : ℕ) (x : NodeState) (call : CallRec) → IsStart events x → CallFits call → KeepsRanges events (begun (take_call x call))
call_keeps events x call start fits =
    elim (is_some (row_names call.op)) as (λ b. KeepsRanges events (begun (cond b (admitted x call) x))) [ true ↦ admitted_keeps events x call start fits | false ↦ keeps_same events x start ]

-- ---- a question

-- a question cancels no fetch
ask_keeps : (events : ℕ) (x : NodeState) (m : Message) → IsStart events x → RecordFits m → cancels m ≡ 0 → KeepsRanges events (begun (with_item x m))
unfolding with_item
ask_keeps events x m start fits none =
    let few = start.few in
    let drawn = start.drawn in
    let opened = start.opened in
    let ranged = start.ranged in
    let more = counted_more events x start.counted in
    let before = start.counted in
    let items = before.items in
    let fetches = more.fetches in
    let cancelled = cancelling_join x.items (record { number = x.items_numbered; message = m } ∷ []) in
    let now : IsNodeCounted (events + 1) (with_item x m) = record { tickets = more.tickets; items = omega arith; batches = more.batches; fetches = omega arith } in
    record {
      within = within events (begun (with_item x m)) few now tt (omega arith) start.number (omega arith) (omega arith);
      letters = tt;
      ranged = record { rows = ranged.rows; sorted = ranged.sorted; replica = ranged.replica; waiting = ranged.waiting; items = each_join _ x.items _ ranged.items ((fits.fields, fits.dir), tt); batches = ranged.batches };
      counted = now;
    }

-- ---- what was found

same_dentry : (a b : Dentry) → Some a ≡ Some b → a ≡ b
same_dentry a b e = cc

-- a fetch was settled
settled_counts : (events : ℕ) (x : NodeState) (number : ℕ) → IsNodeCounted events x → IsNodeCounted (events + 1) (record x { waiting = after_settle x.waiting number })
settled_counts events x number counted =
    let tickets = counted.tickets in
    let items = counted.items in
    let batches = counted.batches in
    let fetches = counted.fetches in
    let count = settle_count x.waiting number in
    let count_tickets = count.tickets in
    let count_opened = count.opened in
    let count_fetches = count.fetches in
    record { tickets = omega arith; items = omega arith; batches = omega arith; fetches = omega arith }

learned_keeps : (events : ℕ) (x : NodeState) (number : ℕ) (key : Key) (dentry : Dentry) → IsStart events x → dentry_field.Fits dentry → KeepsRanges events (begun (learned x number key dentry))
unfolding learned
learned_keeps events x number key dentry start fits =
    let few = start.few in
    let drawn = start.drawn in
    let opened = start.opened in
    let ranged = start.ranged in
    let counts = settled_counts events x number start.counted in
    let count = settle_count x.waiting number in
    let count_opened = count.opened in
    let now : IsNodeCounted (events + 1) (learned x number key dentry) = record { tickets = counts.tickets; items = counts.items; batches = counts.batches; fetches = counts.fetches } in
    record {
      within = within events (begun (learned x number key dentry)) few now tt (omega arith) start.number (omega arith) (omega arith);
      letters = tt;
      ranged = record {
        rows = ranged.rows;
        sorted = ranged.sorted;
        replica = λ q d is.
            ⊎_elim
            (λ e. subst dentry_field.Fits (same_dentry dentry d (sym e.1 ∙ is)) fits)
            (λ e. ranged.replica q d (sym e.1 ∙ is))
            (put_cases q key dentry x.replica);
        waiting = fit_settle x.waiting number ranged.waiting;
        items = ranged.items;
        batches = ranged.batches;
      };
      counted = now;
    }

refusal_fits : (call : Option CallRec) (errno : Errno) (point : ℕ) → ((c : CallRec) → call ≡ Some c → CallFits c) → Each LetterFits (refusal call errno point)
refusal_fits None errno point fits = tt
refusal_fits (Some call) errno point fits = (reply_fits call.id (Fail errno) (id_of_call call (fits call refl)) (fail_fits errno), tt)

refusals_fit : (list : WaitList) (errno : Errno) (point : ℕ) (tickets : List ℕ) → WaitersFit list → Each LetterFits (refusals list errno point tickets)
refusals_fit list errno point [] fits = tt
refusals_fit list errno point (ticket ∷ tickets) fits =
    each_join LetterFits (refusal (call_with_ticket list ticket) errno point) (refusals list errno point tickets)
    (refusal_fits (call_with_ticket list ticket) errno point (λ c is. waiter_of list ticket c is fits))
    (refusals_fit list errno point tickets fits)

refuse_keeps : (events : ℕ) (x : NodeState) (point : ℕ) (errno : Errno) (fetch : PendingFetch) → IsStart events x → KeepsRanges events (refuse x point errno fetch)
unfolding dismissed
refuse_keeps events x point errno fetch start =
    let few = start.few in
    let drawn = start.drawn in
    let opened = start.opened in
    let ranged = start.ranged in
    let counts = settled_counts events x fetch.number start.counted in
    let count = settle_count x.waiting fetch.number in
    let count_opened = count.opened in
    let same = withouts_same (after_settle x.waiting fetch.number) fetch.waiters in
    let tickets = counts.tickets in
    let fetches = counts.fetches in
    let same_tickets = same.0 in
    let same_opened = same.1 in
    let same_fetches = ap length same.2 in
    let now : IsNodeCounted (events + 1) (dismissed x fetch.number fetch.waiters) = record { tickets = omega arith; items = counts.items; batches = counts.batches; fetches = omega arith } in
    record {
      within = within events (refuse x point errno fetch) few now (refusals_fit x.waiting errno point fetch.waiters ranged.waiting) (omega arith) start.number (omega arith) (omega arith);
      letters = refusals_fit x.waiting errno point fetch.waiters ranged.waiting;
      ranged = record {
        rows = ranged.rows;
        sorted = ranged.sorted;
        replica = ranged.replica;
        waiting = fit_withouts (after_settle x.waiting fetch.number) fetch.waiters (fit_settle x.waiting fetch.number ranged.waiting);
        items = ranged.items;
        batches = ranged.batches;
      };
      counted = now;
    }

settle_keeps : (events : ℕ) (x : NodeState) (point number : ℕ) (key : Key) (what : Found) (fetch : PendingFetch) → IsStart events x → RecordFits (message.FetchGot number key what)
    → KeepsRanges events (settle x point key what fetch)
settle_keeps events x point number key (found.Dir dentry) fetch start fits = learned_keeps events x fetch.number key dentry start (got_dentry number key dentry fits)
settle_keeps events x point number key found.Nothing fetch start fits = refuse_keeps events x point Enoent fetch start
settle_keeps events x point number key found.File fetch start fits = refuse_keeps events x point Enotdir fetch start

got_keeps : (events : ℕ) (x : NodeState) (point number : ℕ) (key : Key) (what : Found) (fetch : Option PendingFetch) → IsStart events x → RecordFits (message.FetchGot number key what)
    → KeepsRanges events (settle_pending x point key what fetch)
got_keeps events x point number key what None start fits = keeps_same events x start
got_keeps events x point number key what (Some fetch) start fits = settle_keeps events x point number key what fetch start fits

-- ---- operations of the coordinator

-- an operation that is taken is to cancel fetches once at most
operation_keeps : (events : ℕ) (x : NodeState) (operation : ℕ) (m : Message) → IsStart events x → RecordFits m → cancels m ≤ 1 → nat_lt x.last_operation operation ≡ true
    → KeepsRanges events (begun (with_operation x operation m))
unfolding with_operation with_item
operation_keeps events x operation m start fits once newer =
    let few = start.few in
    let drawn = start.drawn in
    let opened = start.opened in
    let ranged = start.ranged in
    let more = counted_more events x start.counted in
    let before = start.counted in
    let items = before.items in
    let fetches = more.fetches in
    let later : x.last_operation < operation = grind (arith, nat_tests) in
    let cancelled = cancelling_join x.items (record { number = x.items_numbered; message = m } ∷ []) in
    let now : IsNodeCounted (events + 1) (with_operation x operation m) = record { tickets = more.tickets; items = omega arith; batches = more.batches; fetches = omega arith } in
    record {
      within = within events (begun (with_operation x operation m)) few now tt (omega arith) start.number (omega arith) (omega arith);
      letters = tt;
      ranged = record {
        rows = ranged.rows;
        sorted = ranged.sorted;
        replica = ranged.replica;
        waiting = ranged.waiting;
        items = each_join _ x.items _ ranged.items ((fits.fields, fits.dir), tt);
        batches = ranged.batches;
      };
      counted = now;
    }

-- a Lock, or a Block
order_keeps : (events : ℕ) (x : NodeState) (operation : ℕ) (m : Message) → IsStart events x → RecordFits m → cancels m ≤ 1 → KeepsRanges events (begun (take_operation x operation m))
order_keeps events x operation m start fits once =
    elim (nat_lt x.last_operation operation) as (λ b. nat_lt x.last_operation operation ≡ b → KeepsRanges events (begun (cond b (with_operation x operation m) x))) [
      | true ↦ λ newer. operation_keeps events x operation m start fits once newer
      | false ↦ λ _. keeps_same events x start
    ] refl

-- an answer that is sent where nothing changes
told_keeps : (events : ℕ) (x : NodeState) (letter : Letter) → IsStart events x → LetterFits letter → KeepsRanges events (record (begun x) { sent = letter ∷ [] })
told_keeps events x letter start fits =
    let few = start.few in
    let drawn = start.drawn in
    let opened = start.opened in
    let more = counted_more events x start.counted in
    let letters : Each LetterFits (letter ∷ []) = (fits, tt) in
    record {
      within = within events (record (begun x) { sent = letter ∷ [] }) few more letters (omega arith) start.number (omega arith) (omega arith);
      letters = letters;
      ranged = start.ranged;
      counted = more;
    }

count_keeps : (events : ℕ) (x : NodeState) (operation dir : ℕ) → IsStart events x → RecordFits (message.Count operation dir) → KeepsRanges events (take_count x operation dir)
count_keeps events x operation dir start fits =
    let rows = start.rows in
    let few = few_names x.rows dir in
    let told = counted_fits operation x.number (length (names_under x.rows dir)) (count_fields operation dir fits.fields) (node_fits x.number start.number) (omega arith) in
    let answer = letter Coord (Here 0) (count_told x.rows x.number operation dir) in
    elim (is_of x.locks.shut operation) as (λ b. KeepsRanges events (cond b (record (begun x) { sent = answer ∷ [] }) (begun x))) [
      | true ↦ told_keeps events x answer start told
      | false ↦ keeps_same events x start
    ]

-- other rows, with an answer
laid_keeps : (events : ℕ) (x y : NodeState) (updates : List Update) (letter : Letter) → IsStart events x → RowsFit updates → LetterFits letter → y ≡ record x { rows = laid updates x.rows; table = y.table; locks = y.locks; blocked = y.blocked }
    → KeepsRanges events (record { node = y; sent = letter ∷ []; notes = [] })
laid_keeps events x y updates letter start fits of_letter is =
    let few = start.few in
    let drawn = start.drawn in
    let opened = start.opened in
    let ranged = start.ranged in
    let more = counted_more events x start.counted in
    let z : NodeState = record x { rows = laid updates x.rows; table = y.table; locks = y.locks; blocked = y.blocked } in
    let letters : Each LetterFits (letter ∷ []) = (of_letter, tt) in
    let now : IsNodeCounted (events + 1) z = record { tickets = more.tickets; items = more.items; batches = more.batches; fetches = more.fetches } in
    subst (λ (n : NodeState). KeepsRanges events (record { node = n; sent = letter ∷ []; notes = [] })) (sym is)
    (record {
      within = within events (record { node = z; sent = letter ∷ []; notes = [] }) few now letters (omega arith) start.number (omega arith) (omega arith);
      letters = letters;
      ranged = record {
        rows = laid_ranged updates x.rows fits ranged.rows;
        sorted = laid_sorted updates x.rows ranged.sorted;
        replica = ranged.replica;
        waiting = ranged.waiting;
        items = ranged.items;
        batches = ranged.batches;
      };
      counted = now;
    })

commit_keeps : (events : ℕ) (x : NodeState) (operation : ℕ) (updates : List Update) → IsStart events x → RecordFits (message.Commit operation updates) → KeepsRanges events (take_commit x operation updates)
unfolding reopened
commit_keeps events x operation updates start fits =
    let own = owned x.table x.number updates in
    let fields = commit_fields operation updates fits.fields in
    let are = updates_are updates fields.1 in
    let answer = letter Coord (Here 0) (message.Done operation x.number) in
    elim (is_of x.locks.shut operation) as (λ b. KeepsRanges events (cond b (record { node = reopened x operation own; sent = answer ∷ []; notes = [] }) (begun x))) [
      | true ↦ laid_keeps events x (reopened x operation own) own answer start (owned_fit x.table x.number updates (rows_of_updates updates are.fit)) (done_fits operation x.number fields.0 (node_fits x.number start.number)) refl
      | false ↦ keeps_same events x start
    ]

-- ---- a name that is placed

named_keeps : (events : ℕ) (x : NodeState) (operation version : ℕ) (rule : Rule) (rows : List NamedRow) (name : Option (List ℕ)) → IsStart events x → RecordFits (message.Install operation version rule rows)
    → KeepsRanges events (install_named x operation version rule rows name)
unfolding installed
named_keeps events x operation version rule rows None start fits = keeps_same events x start
named_keeps events x operation version rule rows (Some name) start fits =
    let fields = install_fields operation version rule rows fits.fields in
    laid_keeps events x (installed x (table_with x.table version name rule) (puts name rows)) (puts name rows) (letter Coord (Here 0) (message.Installed operation x.number)) start
    (puts_fit name rows (rows_are rows fields.1).fit) (installed_fits operation x.number fields.0 (node_fits x.number start.number)) refl

install_keeps : (events : ℕ) (x : NodeState) (operation version : ℕ) (rule : Rule) (rows : List NamedRow) → IsStart events x → RecordFits (message.Install operation version rule rows)
    → KeepsRanges events (take_install x operation version rule rows)
install_keeps events x operation version rule rows start fits =
    elim (is_within x.table.nodes rule) as (λ b. KeepsRanges events (cond b (install_named x operation version rule rows (name_blocked x.blocked operation)) (begun x))) [
      | true ↦ named_keeps events x operation version rule rows (name_blocked x.blocked operation) start fits
      | false ↦ keeps_same events x start
    ]

-- ---- any record

message_keeps : (events : ℕ) (x : NodeState) (point : ℕ) (m : Message) → IsStart events x → RecordFits m → KeepsRanges events (take_message x point m)
message_keeps events x point (message.Call call) start fits = call_keeps events x call start (call_of_record call fits)
message_keeps events x point (message.FetchAsk asker number key) start fits =
    elim (is_asker x.table.nodes asker) as (λ b. KeepsRanges events (begun (cond b (with_item x (message.FetchAsk asker number key)) x))) [
      | true ↦ ask_keeps events x (message.FetchAsk asker number key) start fits refl
      | false ↦ keeps_same events x start
    ]
message_keeps events x point (message.FetchGot number key what) start fits = got_keeps events x point number key what (fetch_of x.waiting number) start fits
message_keeps events x point (message.ListAsk id version dir) start fits = ask_keeps events x (message.ListAsk id version dir) start fits refl
message_keeps events x point (message.Lock operation keys) start fits = order_keeps events x operation (message.Lock operation keys) start fits (omega arith)
message_keeps events x point (message.Count operation dir) start fits = count_keeps events x operation dir start fits
message_keeps events x point (message.Commit operation updates) start fits = commit_keeps events x operation updates start fits
message_keeps events x point (message.Block operation name) start fits = order_keeps events x operation (message.Block operation name) start fits (omega arith)
message_keeps events x point (message.Install operation version rule rows) start fits = install_keeps events x operation version rule rows start fits
message_keeps events x point other start fits = keeps_same events x start

delivered_keeps : (events : ℕ) (x : NodeState) (e : Envelope) → IsStart events x → IsRecord e → KeepsRanges events (delivered x e)
unfolding delivered
delivered_keeps events x e start sent =
    let read : reading e.bytes ≡ Ok sent.0 = ap reading sent.2 ∙ spelled_reads sent.0 (fits_of sent.0 sent.1) in
    subst (λ (r : Result Message WireFault). KeepsRanges events (take_read x e.point r)) (sym read) (message_keeps events x e.point sent.0 start sent.1)

pub deliver_keeps : (events : ℕ) (x : NodeState) (e : Envelope) (work : Work) → IsStart events x → IsRecord e → node_step x (Deliver e) ≡ Some work → KeepsRanges events work
unfolding node_step
deliver_keeps events x e work start sent is =
    elim (is_to_node e.to x.number) as (λ b. only_if b (delivered x e) ≡ Some work → KeepsRanges events work) [
      | true ↦ λ z. subst (KeepsRanges events) (same_Some (delivered x e) work z) (delivered_keeps events x e start sent)
      | false ↦ λ z. absurd (cc)
    ] is
