-- What is known beside, and what a node's own place in the view is, while calls at a node move and none of them is newly planned.
use Rattle.std.proofs.Common.{◌≡◌, ◌≢◌, ◌⊎◌, inl, inr, ⊎_elim, ℕ, Bool, true, false, cond, List, [], ◌∷◌, ◌++◌, Some, refl, sym, ap, ◌∙◌, subst, append-nil}
use Rattle.std.specs.Prelude.{map, filter}
use Rattle.std.specs.List.{find}
use Rattle.std.proofs.lemmas.List.{map-append}
use Rattle.fal_base.specs.declared.call.CallRec.{CallRec}
use Rattle.fal_base.specs.declared.call.Config.{Config}
use Rattle.fal_coord.specs.State.{CoordState}
use Rattle.fal_node.specs.State.{NodeState}
use Rattle.fal_node.specs.declared.item.Item.{Item}
use Rattle.fal_run.specs.declared.call.BatchCall.{BatchCall}
use Rattle.fal_wait.specs.Lists.{without_first}
use Rattle.fal_wire.specs.declared.message.Message.{Message}
use Rattle.fal_story.proofs.Events.Besides.{StaysThere, beside_stepped, holds_kept}
use Rattle.fal_story.proofs.Events.Doing.{work_of}
use Rattle.fal_story.proofs.Events.HeldCalls.{AsksNone, MovesAt, one_node}
use Rattle.fal_story.proofs.Events.InStep.{at_seat}
use Rattle.fal_story.proofs.Events.Sends.{same_item}
use Rattle.fal_story.proofs.Events.Shows.{Ghost, Beside, is_lock, listed_of, locks_in, before_in}
use Rattle.fal_story.proofs.Families.Operation.{IsOf}
use Rattle.fal_story.proofs.Lists.Grown.{put_back}
use Rattle.fal_story.proofs.Lists.Members.{IsIn, in_map, in_filter, find_in, filter_join}
use Rattle.fal_story.proofs.Phase.{Phase, Idle, Plans, Runs, IsFor}
use Rattle.fal_story.proofs.Steps.Moved.{held_for}
use Rattle.fal_story.specs.World.{put}

-- ---- a node's own place in the view

-- what stands at a node's place in the view is put there again
pub seat_kept : {A : Type 0} (f : ℕ → A) (own : A) (n : ℕ) (x : A) → n ≢ 255 → x ≡ f n → ◌≡◌ {A = ℕ → A} (put f 255 own) (put (put f 255 own) n x)
seat_kept f own n x other same = sym (put_back (put f 255 own) n) ∙ ap (put (put f 255 own) n) (at_seat f own n other ∙ sym same)

-- ---- calls that move

-- a call stays where it is, or was at the node and goes on to another place, where it is not planned
abbrev pub IsFreed : ℕ → Phase → Phase → Type 0
IsFreed n p q = (q ≡ p) ⊎ (IsFor n p × (q ≢ Idle) × ((m : ℕ) (x : BatchCall) → q ≢ Plans m x) × AsksNone q)

pub freed_moves : (n : ℕ) (phase later : ℕ → Phase) → ((l : ℕ) → IsFreed n (phase l) (later l)) → MovesAt n phase later
freed_moves n phase later freed l = ⊎_elim (λ same. inl same) (λ x. inr (x.0, x.1, x.3)) (freed l)

-- a call that is planned was planned
freed_plans : (n m : ℕ) (p q : Phase) (x : BatchCall) → IsFreed n p q → q ≡ Plans m x → p ≡ Plans m x
freed_plans n m p q x freed is = ⊎_elim (λ same. sym same ∙ is) (λ y. absurd (y.2 m x is)) freed

freed_there : (n : ℕ) (call call' : ℕ → CallRec) (phase later : ℕ → Phase) (l : ℕ) → n ≢ 255 → call' l ≡ call l → IsFreed n (phase l) (later l) → StaysThere call call' phase later l
freed_there n call call' phase later l other same freed = ⊎_elim
    (λ x. inl (x, same))
    (λ x. inr ((λ held. other (one_node n 255 (phase l) x.0 (held_for 255 (phase l) held))), (λ runs. subst (IsFor n) runs x.0)))
    freed

-- a node changes that keeps its batches and holders, and calls there are freed
pub beside_freed : (config : Config) (nodes : ℕ → NodeState) (coord : CoordState) (h later : Ghost) (n : ℕ) (y : NodeState) → n ≢ 255 → ((l : ℕ) → IsOf l (work_of (before_in config h) coord.stage) → h.phase l ≡ Runs)
    → ((l : ℕ) → IsFreed n (h.phase l) (later.phase l)) → ((l : ℕ) → later.call l ≡ h.call l) → ((l : ℕ) → h.crossed l ≡ later.crossed l) → ((m : ℕ) → m ≢ n → later.queued m ≡ h.queued m)
    → locks_in y.items ≡ listed_of (later.queued n) → y.batches ≡ (nodes n).batches → y.locks.holders ≡ (nodes n).locks.holders → y.batches_numbered ≡ (nodes n).batches_numbered
    → Beside config nodes coord h → Beside config (put nodes n y) coord later
beside_freed config nodes coord h later n y other running freed called crossed queued locks batches holders numbered b =
    let plans : (m l : ℕ) (p : BatchCall) → later.phase l ≡ Plans m p → (h.phase l ≡ Plans m p) × (h.crossed l ≡ later.crossed l) = λ m l p is. (freed_plans n m (h.phase l) (later.phase l) p (freed l) is, crossed l) in
    beside_stepped config nodes coord h later n y running (λ l. freed_there n h.call later.call h.phase later.phase l other (called l) (freed l)) (λ m l p apart is. plans m l p is) queued locks
    (holds_kept h.phase later.phase h.crossed later.crossed n (nodes n) y batches holders numbered (λ l p is. plans n l p is) (b.holding n)) b

-- ---- the Locks among items

pub locks_join : (xs ys : List Item) → locks_in (xs ++ ys) ≡ locks_in xs ++ locks_in ys
locks_join xs ys =
    ap (filter (λ m. is_lock m)) (map-append (λ (item : Item). item.message) xs ys)
    ∙ filter_join (λ m. is_lock m) (map (λ (item : Item). item.message) xs) (map (λ (item : Item). item.message) ys)

-- an item that is no Lock comes
pub locks_more : (items : List Item) (item : Item) → is_lock item.message ≡ false → locks_in (items ++ item ∷ []) ≡ locks_in items
locks_more items item off = locks_join items (item ∷ []) ∙ ap (λ b. locks_in items ++ cond b (item.message ∷ []) []) off ∙ append-nil (locks_in items)

-- and goes
pub locks_without : (test : Item → Bool) (items : List Item) (item : Item) → find test items ≡ Some item → is_lock item.message ≡ false → locks_in (without_first test items) ≡ locks_in items
locks_without test [] item is off = absurd (cc)
locks_without test (x ∷ items) item is off =
    elim (test x) as (λ b. cond b (Some x) (find test items) ≡ Some item → locks_in (cond b items (x ∷ without_first test items)) ≡ locks_in (x ∷ items)) [
      | true ↦ λ e. sym (ap (λ b. cond b (x.message ∷ locks_in items) (locks_in items)) (ap (λ (i : Item). is_lock i.message) (same_item x item e) ∙ off))
      | false ↦ λ e. ap (λ ms. cond (is_lock x.message) (x.message ∷ ms) ms) (locks_without test items item e off)
    ] is

pub lock_listed : (test : Item → Bool) (items : List Item) (item : Item) → find test items ≡ Some item → is_lock item.message ≡ true → IsIn item.message (locks_in items)
lock_listed test items item is lock =
    in_filter (λ m. is_lock m) (map (λ (i : Item). i.message) items) item.message (in_map (λ (i : Item). i.message) items item (find_in test items item is).1) lock

-- the only Lock goes
pub locks_gone : (test : Item → Bool) (items : List Item) (item : Item) (m : Message) → find test items ≡ Some item → is_lock item.message ≡ true → locks_in items ≡ m ∷ [] → locks_in (without_first test items) ≡ []
locks_gone test [] item m is lock only = absurd (cc)
locks_gone test (x ∷ items) item m is lock only =
    elim (test x) as (λ b. cond b (Some x) (find test items) ≡ Some item → locks_in (cond b items (x ∷ without_first test items)) ≡ []) [
      | true ↦ λ e. rest (ap (λ (i : Item). is_lock i.message) (same_item x item e) ∙ lock)
      | false ↦ λ e. elim (is_lock x.message) as (λ b. is_lock x.message ≡ b → cond b (x.message ∷ locks_in (without_first test items)) (locks_in (without_first test items)) ≡ []) [
        | true ↦ λ l. absurd (subst (IsIn item.message) (rest l) (lock_listed test items item e lock))
        | false ↦ λ l. locks_gone test items item m e lock (sym (ap (λ b. cond b (x.message ∷ locks_in items) (locks_in items)) l) ∙ only)
      ] refl
    ] is
  where
    rest : is_lock x.message ≡ true → locks_in items ≡ []
    rest l = let whole : x.message ∷ locks_in items ≡ m ∷ [] = sym (ap (λ b. cond b (x.message ∷ locks_in items) (locks_in items)) l) ∙ only in cc
