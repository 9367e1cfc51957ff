-- A Lock comes to a node, and is its next item.
use Rattle.std.proofs.Common.{◌≡◌, ◌≢◌, inl, ⊎_elim, ℕ, ◌<◌, nat_lt, true, false, cond, List, [], ◌∷◌, ◌++◌, Option, Some, None, refl, sym, ap, subst, ◌∙◌, arith}
use Rattle.std.proofs.lemmas.Bool.Decides.{nat_tests}
use Rattle.fal_base.specs.declared.call.Config.{Config}
use Rattle.fal_base.specs.declared.event.Actor.TheVariants.{Node}
use Rattle.fal_base.specs.declared.key.Key.{Key}
use Rattle.fal_base.specs.declared.row.Update.{Update}
use Rattle.fal_locks.specs.declared.holder.Shut.{Shut}
use Rattle.fal_node.specs.declared.item.Item.{Item}
use Rattle.fal_node.specs.Deliver.{take_operation, with_operation}
use Rattle.fal_node.specs.Letters.{begun}
use Rattle.fal_node.specs.State.{with_item}
use Rattle.fal_place.specs.Placement.{Placement}
use Rattle.fal_wire.specs.declared.message.Message.{Message}
use Rattle.fal_wire.specs.declared.message.Message.TheVariants as message
use Rattle.fal_story.proofs.Events.Freed.{beside_freed, locks_join}
use Rattle.fal_story.proofs.Events.GotEvent.{AllFit, stays}
use Rattle.fal_story.proofs.Events.InStep.{view_begun, view_in, Ends, begins, ends}
use Rattle.fal_story.proofs.Events.Shows.{Ghost, Shows, operating, shut_of, last_of, is_lock, locks_in, listed_of, view_of, posts_of}
use Rattle.fal_story.proofs.Families.Operation.{LocksKeys, Stands}
use Rattle.fal_story.proofs.Good.{Good}
use Rattle.fal_story.proofs.Lists.Each.{each_join}
use Rattle.fal_story.proofs.Lists.Grown.{put_back, put_other, put_same, slice_get_front}
use Rattle.fal_story.proofs.Steps.Arrives.{lock_comes}
use Rattle.fal_story.proofs.Steps.Reopened.{queued_good}
use Rattle.fal_story.proofs.View.{IsPosted, Work, Rests, Walks, Locks, Counts, Ends as EndsAt, Blocks, Lands}
use Rattle.fal_story.specs.World.{World, put}

-- a node to which a newer Lock comes has no other
away_none : (table : Placement) (operation n : ℕ) (work : Work) (keys : List Key) (shut : Option Shut) (queued : Option Message) (last : ℕ) (due : List Update) → last < operation → LocksKeys work keys
    → Stands table operation work n shut queued last due → queued ≡ None
away_none table operation n Rests keys shut queued last due newer locks stands = absurd locks
away_none table operation n (Walks lane) keys shut queued last due newer locks stands = absurd locks
away_none table operation n (Locks lane locked walks missing rows) keys shut queued last due newer locks stands = ⊎_elim
    (λ x. ⊎_elim (λ away. away.1) (λ here. let same = here.2 in absurd (omega arith)) x.1)
    (λ has. has.1)
    stands.1
away_none table operation n (Counts lane locked walks missing rows dir updates sum) keys shut queued last due newer locks stands = stands.1.1
away_none table operation n (Blocks lane name rule missing came) keys shut queued last due newer locks stands = absurd locks
away_none table operation n (Lands name rule old missing) keys shut queued last due newer locks stands = absurd locks
away_none table operation n (EndsAt locked updates missing) keys shut queued last due newer locks stands = ⊎_elim (λ x. x.2.1) (λ x. x.2) stands

-- the record of a newer operation comes to a node that has no other to serve, and is its next item
pub operation_queues : (config : Config) (w : World) (n : ℕ) (h : Ghost) (e p operation : ℕ) (m : ℕ → Message) → n ≢ 255 → Shows config w h → AllFit [] → IsPosted (posts_of w.envelopes) e (Node n) p (m operation) → is_lock (m operation) ≡ true
    → operation ≡ w.coord.operation → h.queued n ≡ None
    → (let v = view_of config w h in Good config (record v { op = record v.op { queued = put v.op.queued n (Some (m v.op.operation)); last = put v.op.last n v.op.operation } }))
    → Ends config w n (begun (with_operation (w.nodes n) operation (m operation)))
unfolding with_operation with_item
operation_queues config w n h e p operation m other s fit at lock is none good =
    let node = w.nodes n in
    let v = view_of config w h in
    let k = begun (with_operation (w.nodes n) operation (m operation)) in
    let later : Ghost = record h { queued = put h.queued n (Some (m operation)) } in
    let same : record v { op = record v.op { queued = put v.op.queued n (Some (m v.op.operation)); last = put v.op.last n v.op.operation } } ≡ view_in config w n k later = λ i. record (view_begun config w n h other i) {
      op = operating config (sym (put_back (shut_of w.nodes) n) i) (put (last_of w.nodes) n (sym is i)) w.coord (record h { queued = put h.queued n (Some (m (sym is i))) });
    } in
    let item : Item = record { number = node.items_numbered; message = m operation } in
    let one : locks_in (item ∷ []) ≡ m operation ∷ [] = ap (λ b. cond b (m operation ∷ []) []) lock in
    let listed = locks_join node.items (item ∷ []) ∙ ap (λ ms. locks_in node.items ++ ms) one ∙ ap (λ ms. ms ++ m operation ∷ []) (s.beside.queues n ∙ ap listed_of none) ∙ sym (ap listed_of (put_same h.queued n (Some (m operation)))) in
    let start = begins config w n h other s in
    let placed = s.placed n in (
      later,
      ends config w n k later other fit
          (beside_freed config w.nodes w.coord h later n k.node other s.good.operation.running (λ l. inl refl) (λ l. refl) (λ l. refl) (λ i apart. put_other h.queued n (Some (m operation)) i apart) listed refl refl refl s.beside)
          (record {
            good = subst (Good config) same good;
            here = start.here;
            others = start.others;
            items = each_join _ node.items (item ∷ []) start.items ((e, (p, slice_get_front (posts_of w.envelopes) [] e _ at)), tt);
            others_items = start.others_items;
            heard = start.heard;
            kept = start.kept;
            placed = record { number = placed.number; limit = placed.limit; blocked = placed.blocked; tidy = placed.tidy };
            others_placed = start.others_placed;
          }),
    )

-- one that is not newer than the last changes nothing
pub operation_event : (config : Config) (w : World) (n : ℕ) (h : Ghost) (operation : ℕ) (m : Message) → n ≢ 255 → Shows config w h → AllFit []
    → ((w.nodes n).last_operation < operation → Ends config w n (begun (with_operation (w.nodes n) operation m))) → Ends config w n (begun (take_operation (w.nodes n) operation m))
operation_event config w n h operation m other s fit newer =
    let node = w.nodes n in
    elim (nat_lt node.last_operation operation) as (λ b. nat_lt node.last_operation operation ≡ b → Ends config w n (begun (cond b (with_operation node operation m) node))) [
      | true ↦ λ less. newer (grind (arith, nat_tests))
      | false ↦ λ _. stays config w n h other s fit
    ] refl

pub lock_event : (config : Config) (w : World) (n : ℕ) (h : Ghost) (e p operation : ℕ) (keys : List Key) → n ≢ 255 → Shows config w h → AllFit [] → IsPosted (posts_of w.envelopes) e (Node n) p (message.Lock operation keys)
    → Ends config w n (begun (take_operation (w.nodes n) operation (message.Lock operation keys)))
lock_event config w n h e p operation keys other s fit at = operation_event config w n h operation (message.Lock operation keys) other s fit (λ newer.
    let v = view_of config w h in
    let comes = lock_comes config v e p operation n keys at newer s.good in
    let newest : (w.nodes n).last_operation < w.coord.operation = subst (λ o. (w.nodes n).last_operation < o) comes.1 newer in
    let none = away_none v.map.table w.coord.operation n v.op.work keys (v.op.shut n) (h.queued n) (w.nodes n).last_operation (h.due n) newest comes.2 (s.good.operation.stands n comes.0) in
    operation_queues config w n h e p operation (λ o. message.Lock o keys) other s fit at refl comes.1 none (queued_good config v n keys comes.0 newest comes.2 s.good))
