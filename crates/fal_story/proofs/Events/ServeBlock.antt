-- A node serves its Block: its rows of the name leave, and the name is blocked.
use Rattle.std.proofs.Common.{◌≡◌, ◌≢◌, inl, ⊎_elim, ℕ, ◌+◌, ◌<◌, ◌==◌, Bool, true, false, not, ◌&&◌, ◌||◌, List, [], ◌∷◌, ◌++◌, length, Option, Some, None, is_some, refl, sym, ap, subst, ◌∙◌}
use Rattle.std.specs.List.{list_any}
use Rattle.std.proofs.lemmas.Cmp.{nat_list_eq_equiv}
use Rattle.fal_base.specs.declared.call.CallRec.{CallRec}
use Rattle.fal_base.specs.declared.call.Config.{Config}
use Rattle.fal_base.specs.declared.event.Actor.TheVariants.{Node}
use Rattle.fal_base.specs.declared.key.Key.{Key}
use Rattle.fal_base.specs.declared.op.Op.{Op}
use Rattle.fal_base.specs.declared.op.Op.TheVariants as op
use Rattle.fal_base.specs.declared.row.Update.{Update}
use Rattle.fal_base.specs.declared.rule.Rule.{Rule}
use Rattle.fal_base.specs.Names.{is_name}
use Rattle.fal_base.specs.Tree.{IsInOrder, same_key}
use Rattle.fal_base.proofs.Maps.{same_key_is}
use Rattle.fal_batch.proofs.Truth.{both_second}
use Rattle.fal_coord.specs.declared.stage.Stage.{Stage}
use Rattle.fal_coord.specs.declared.stage.Stage.TheVariants as stage
use Rattle.fal_duty.specs.Duties.{blocked_of}
use Rattle.fal_inode.specs.Named.{puts, rows_named, without_named}
use Rattle.fal_locks.specs.declared.holder.Holder.{Holder}
use Rattle.fal_locks.specs.declared.holder.Shut.{Shut}
use Rattle.fal_locks.specs.Keys.{has_key, has_name}
use Rattle.fal_locks.specs.Locks.{is_name_held}
use Rattle.fal_node.specs.declared.item.Item.{Item}
use Rattle.fal_node.specs.Letters.{Work}
use Rattle.fal_node.specs.Serve.{block_service, blocking, can_block, served_as}
use Rattle.fal_node.specs.State.{item_of, without_item}
use Rattle.fal_place.specs.Placement.{Placement, same_name}
use Rattle.fal_run.specs.declared.call.BatchCall.{BatchCall}
use Rattle.fal_wire.specs.declared.message.Message.{Message}
use Rattle.fal_wire.specs.declared.message.Message.TheVariants as message
use Rattle.fal_wire.specs.Names.{name_field}
use Rattle.fal_wire.specs.Ops.{op_field, name_and_rule}
use Rattle.fal_story.proofs.Events.Doing.{work_of, name_in, rule_in}
use Rattle.fal_story.proofs.Events.Freed.{beside_freed, lock_listed, locks_gone}
use Rattle.fal_story.proofs.Events.GotEvent.{AllFit}
use Rattle.fal_story.proofs.Events.InStep.{view_begun, view_in, letter_posts, sent_more, Ends, begins, ends}
use Rattle.fal_story.proofs.Events.Sends.{each_without_first}
use Rattle.fal_story.proofs.Events.ServeLock.{listed_is}
use Rattle.fal_story.proofs.Events.Shows.{Ghost, Shows, IsCurrent, before_in, operating, mapped, shut_of, last_of, tables_of, barred_in, listed_of, is_lock, view_of, posts_of}
use Rattle.fal_story.proofs.Families.Bars.{Bar, barred_by}
use Rattle.fal_story.proofs.Families.Operation.{IsOf, Stands}
use Rattle.fal_story.proofs.Good.{Good}
use Rattle.fal_story.proofs.Lists.Grown.{put_back, put_other, put_same}
use Rattle.fal_story.proofs.Lists.Members.{IsIn}
use Rattle.fal_story.proofs.Phase.{Phase, Plans}
use Rattle.fal_story.proofs.Steps.Comes.{IsBlocking, served_block_good}
use Rattle.fal_story.proofs.Steps.Executed.{last_crossed}
use Rattle.fal_story.proofs.Trees.TakenOut.{taken_out}
use Rattle.fal_story.proofs.View.{View, Work as Doing, Rests, Walks, Locks, Counts, Ends as EndsAt, post, Blocks, Lands}
use Rattle.fal_story.specs.World.{World, put}

-- ---- no call at the node rests on a key with the name

or_true : (b : Bool) → (b || true) ≡ true
or_true true = refl
or_true false = refl

key_named : (keys : List Key) (key : Key) → has_key keys key ≡ true → has_name keys key.name ≡ true
key_named [] key has = absurd (cc)
key_named (k ∷ keys) key has =
    elim (same_key key k) as (λ b. same_key key k ≡ b → (b || has_key keys key) ≡ true → (same_name k.name key.name || has_name keys key.name) ≡ true) [
      | true ↦ λ same _. ap (λ b. b || has_name keys key.name) (ap (λ (o : Key). same_name o.name key.name) (sym ((same_key_is key k).0 same)) ∙ nat_list_eq_equiv.refl key.name)
      | false ↦ λ _ later. ap (λ b. same_name k.name key.name || b) (key_named keys key later) ∙ or_true (same_name k.name key.name)
    ] refl has

-- where a batch holds a key, a key with its name is held
holder_named : (holders : List Holder) (number : ℕ) (key : Key) → list_any (λ (h : Holder). (h.number == number) && has_key h.keys key) holders ≡ true → list_any (λ (h : Holder). has_name h.keys key.name) holders ≡ true
holder_named [] number key holds = holds
holder_named (h ∷ holders) number key holds =
    let others = list_any (λ (o : Holder). has_name o.keys key.name) holders in
    elim ((h.number == number) && has_key h.keys key) as (λ b. ((h.number == number) && has_key h.keys key) ≡ b → (b || list_any (λ (o : Holder). (o.number == number) && has_key o.keys key) holders) ≡ true → (has_name h.keys key.name || others) ≡ true) [
      | true ↦ λ own _. ap (λ b. b || others) (key_named h.keys key (both_second (h.number == number) (has_key h.keys key) own))
      | false ↦ λ _ later. ap (λ b. has_name h.keys key.name || b) (holder_named holders number key later) ∙ or_true (has_name h.keys key.name)
    ] refl holds

not_both : (b : Bool) → b ≡ true → not b ≡ true → ⊥
not_both true is off = cc
not_both false is off = cc

off_name : (config : Config) (w : World) (n : ℕ) (h : Ghost) (name : List ℕ) → Shows config w h → can_block (w.nodes n) name ≡ true → (l : ℕ) (x : BatchCall) → h.phase l ≡ Plans n x → x.denied ≡ false → x.last.name ≢ name
off_name config w n h name s can l x plans ready same =
    let node = w.nodes n in
    let held = (s.beside.holding n).planned l x plans in
    let is = holder_named node.locks.holders held.batch.number x.last (held.keys_held x.last (last_crossed config (view_of config w h) l n x plans ready s.good)) in
    not_both (is_name_held node.locks name) (ap (is_name_held node.locks) (sym same) ∙ is) (both_second (not (is_some node.blocked)) (not (is_name_held node.locks name)) can)

-- ---- the Block is that of the operation

same_block : (o p : ℕ) (name own : List ℕ) → ◌≡◌ {A = Option Message} (Some (message.Block o name)) (Some (message.Block p own)) → (o ≡ p) × (name ≡ own)
same_block o p name own e = (cc, cc)

no_lock : (o p : ℕ) (name : List ℕ) (keys : List Key) → ◌≡◌ {A = Option Message} (Some (message.Block o name)) (Some (message.Lock p keys)) → ⊥
no_lock o p name keys e = cc

abbrev IsOwn : ℕ → ℕ → List ℕ → Doing → Type 0
IsOwn operation o name work = (o ≡ operation) × IsBlocking work name

blocking_at : (table own : Placement) (operation n o : ℕ) (name : List ℕ) (work : Doing) (shut : Option Shut) (barred : Option (ℕ × List ℕ)) (queued : Option Message) (last : ℕ) (due : List Update) → queued ≡ Some (message.Block o name)
    → Stands table operation work n shut queued last due → Bar table operation work n own barred queued last due → IsOwn operation o name work
blocking_at table own operation n o name Rests shut barred queued last due is stands bar = let none = stands.2 in absurd (cc)
blocking_at table own operation n o name (Walks lane) shut barred queued last due is stands bar = let none = stands.2 in absurd (cc)
blocking_at table own operation n o name (Locks lane locked walks missing rows) shut barred queued last due is stands bar = ⊎_elim
    (λ x. ⊎_elim (λ away. let none = away.1 in absurd (cc)) (λ here. absurd (no_lock o operation name locked (sym is ∙ here.1))) x.1)
    (λ has. let none = has.1 in absurd (cc))
    stands.1
blocking_at table own operation n o name (Counts lane locked walks missing rows dir updates sum) shut barred queued last due is stands bar = let none = stands.1.1 in absurd (cc)
blocking_at table own operation n o name (Blocks lane asked rule missing came) shut barred queued last due is stands bar = ⊎_elim {C = IsOwn operation o name (Blocks lane asked rule missing came)}
    (λ x. ⊎_elim {C = IsOwn operation o name (Blocks lane asked rule missing came)}
    (λ away. let none = away.0 in absurd (cc))
    (λ here.
    let same = same_block o operation name asked (sym is ∙ here.0) in
    (same.0, record { lane = lane; rule = rule; missing = missing; came = came; is = ap (λ x. Blocks lane x rule missing came) (sym same.1) }))
    x.3)
    (λ x. let none = x.1.0 in absurd (cc))
    bar.1
blocking_at table own operation n o name (Lands asked rule old missing) shut barred queued last due is stands bar = ⊎_elim (λ x. let none = x.3.0 in absurd (cc)) (λ x. let none = x.3.0 in absurd (cc)) bar
blocking_at table own operation n o name (EndsAt locked updates missing) shut barred queued last due is stands bar = ⊎_elim
    (λ x. let none = x.2.1 in absurd (cc))
    (λ x. let none = x.2 in absurd (cc))
    stands

-- ---- it is a name

place_named : (o : Op) (name : List ℕ) (rule : Rule) → op_field.Fits o → o ≡ op.Place name rule → is_name name ≡ true
unfolding op_field name_and_rule name_field
place_named o name rule fits is = let whole = subst op_field.Fits is fits in whole.0.1

named_at : (before table : Placement) (nodes : ℕ) (call : ℕ → CallRec) (phase : ℕ → Phase) (t : Stage) (lane : ℕ) (name : List ℕ) (rule : Rule) (missing : List ℕ) (came : List Update) → work_of before t ≡ Blocks lane name rule missing came
    → ((a : ℕ) → IsOf a (work_of before t) → op_field.Fits (call a).op) → IsCurrent nodes table call phase t → is_name name ≡ true
named_at before table nodes call phase stage.Idle lane name rule missing came is fits current = absurd (cc)
named_at before table nodes call phase (stage.Walk c number key) lane name rule missing came is fits current = absurd (cc)
named_at before table nodes call phase (stage.Lock operation left rows) lane name rule missing came is fits current = absurd (cc)
named_at before table nodes call phase (stage.Count operation rows dir updates left counts) lane name rule missing came is fits current = absurd (cc)
named_at before table nodes call phase (stage.Finish keys updates left) lane name rule missing came is fits current = absurd (cc)
named_at before table nodes call phase (stage.Block c left rows) lane name rule missing came is fits current =
    let places : (call c.id.client).op ≡ op.Place (name_in c.op) (rule_in c.op) = ap (λ (d : CallRec). d.op) (sym current.0) ∙ current.1.places in
    let same : name_in c.op ≡ name = cc in
    subst (λ own. is_name own ≡ true) same (place_named (call c.id.client).op (name_in c.op) (rule_in c.op) (fits c.id.client refl) places)
named_at before table nodes call phase (stage.Install c left) lane name rule missing came is fits current = absurd (cc)

blocked_named : (config : Config) (w : World) (h : Ghost) (lane : ℕ) (name : List ℕ) (rule : Rule) (missing : List ℕ) (came : List Update) → Shows config w h → work_of (before_in config h) w.coord.stage ≡ Blocks lane name rule missing came → is_name name ≡ true
blocked_named config w h lane name rule missing came s is =
    named_at (before_in config h) w.coord.table config.nodes h.call h.phase w.coord.stage lane name rule missing came is
    (λ a own. s.good.lanes.under_way.fits a (λ idle. let runs = s.good.operation.running a own in cc)) s.beside.hosts.current

-- ---- the service

abbrev pub blocked_work : World → ℕ → ℕ → ℕ → List ℕ → Work
blocked_work w n number operation name = served_as (block_service (w.nodes n) operation name) number

pub block_served : (config : Config) (w : World) (n : ℕ) (h : Ghost) (item : Item) (operation : ℕ) (name : List ℕ) → n < config.nodes → n ≢ 255 → Shows config w h → IsInOrder (w.nodes n).rows → item_of (w.nodes n) item.number ≡ Some item
    → item.message ≡ message.Block operation name → can_block (w.nodes n) name ≡ true → AllFit (blocked_work w n item.number operation name).sent → Ends config w n (blocked_work w n item.number operation name)
unfolding blocking without_item
block_served config w n h item operation name there other s sorted found is can fit =
    let node = w.nodes n in
    let placed = s.placed n in
    let test = λ (i : Item). i.number == item.number in
    let v = view_of config w h in
    let sent = rows_named node.rows name in
    let lock = ap is_lock is in
    let listed = subst (IsIn item.message) (s.beside.queues n) (lock_listed test node.items item found lock) in
    let queued = listed_is (h.queued n) item.message listed in
    let queued_block : h.queued n ≡ Some (message.Block operation name) = queued ∙ ap Some is in
    let own = blocking_at v.map.table (v.map.tables n) w.coord.operation n operation name v.op.work (v.op.shut n) (v.map.barred n) (h.queued n) (v.op.last n) (h.due n) queued_block (s.good.operation.stands n there) (s.good.bars.stands n there) in
    let place = own.1 in
    let later : Ghost = record h { queued = put h.queued n None; due = put h.due n (puts name sent) } in
    let k = blocked_work w n item.number operation name in
    let good = served_block_good config v n place.lane (length w.commits + 0) name place.rule place.missing place.came (without_named node.rows name) sent place.is there
    (queued_block ∙ ap (λ o. Some (message.Block o name)) own.0) (taken_out name node.rows sorted) (off_name config w n h name s can) s.good in
    let v1 : View = record v {
      rows = put v.rows n (without_named node.rows name);
      op = record v.op { due = put v.op.due n (puts name sent); queued = put v.op.queued n None };
      map = record v.map { barred = put v.map.barred n (barred_by w.coord.operation name) };
      posts = v.posts ++ post (Node 255) (length w.commits + 0) (message.Blocked w.coord.operation n sent) ∷ [];
    } in
    let same : v1 ≡ view_in config w n k later = λ i. record (view_begun config w n h other i) {
      rows = v1.rows;
      op = operating config (sym (put_back (shut_of w.nodes) n) i) (sym (put_back (last_of w.nodes) n) i) w.coord later;
      map = mapped (sym (put_back (tables_of w.nodes) n) i) (put (barred_in w.nodes) n (barred_by (sym own.0 i) name)) w.clients w.coord later;
      posts = posts_of w.envelopes ++ post (Node 255) (length w.commits + 0) (blocked_of node.rows (sym placed.number i) (sym own.0 i) name) ∷ [];
    } in
    let gone = locks_gone test node.items item item.message found lock (s.beside.queues n ∙ ap listed_of queued) ∙ sym (ap listed_of (put_same h.queued n None)) in
    let named = blocked_named config w h place.lane name place.rule place.missing place.came s place.is in
    let start = begins config w n h other s in (
      later,
      ends config w n k later other fit
          (beside_freed config w.nodes w.coord h later n k.node other s.good.operation.running (λ l. inl refl) (λ l. refl) (λ l. refl) (λ m apart. put_other h.queued n None m apart) gone refl refl refl s.beside)
          (record {
            good = subst (Good config) same good;
            here = start.here;
            others = start.others;
            items = each_without_first _ test node.items (sent_more (posts_of w.envelopes) (letter_posts (length w.commits) k.sent) n node.items (s.items n));
            others_items = start.others_items;
            heard = start.heard;
            kept = start.kept;
            placed = record { number = placed.number; limit = placed.limit; blocked = (name, refl, named); tidy = placed.tidy };
            others_placed = start.others_placed;
          }),
    )
