-- A batch is executed.
use Rattle.std.proofs.Common.{◌≡◌, ◌≢◌, ℕ, ◌<◌, ◌≤◌, ◌==◌, true, false, cond, List, [], ◌∷◌, ◌++◌, map, Some, None, refl, sym, ap, subst, ◌∙◌, append_assoc, arith}
use Rattle.std.specs.List.{All, find}
use Rattle.std.proofs.lemmas.Option.{same_Some}
use Rattle.fal_base.specs.declared.call.Config.{Config}
use Rattle.fal_node.specs.declared.batch.Batch.{Batch}
use Rattle.fal_run.specs.declared.call.BatchCall.{BatchCall}
use Rattle.fal_node.specs.declared.event.NodeEvent.TheVariants as node
use Rattle.fal_node.specs.Exec.{as_executed, with_executed, exec_one, exec_all, executed, execute}
use Rattle.fal_node.specs.Letters.{Work, begun}
use Rattle.fal_node.specs.State.{NodeState, batch_of}
use Rattle.fal_node.specs.Step.{node_step}
use Rattle.fal_wait.specs.Waiting.{WaitList}
use Rattle.fal_wire.specs.Messages.{Fits}
use Rattle.fal_story.proofs.Events.Besides.{beside_stepped}
use Rattle.fal_story.proofs.Events.ExecHolds.{holds_executed}
use Rattle.fal_story.proofs.Events.ExecStep.{InExec, call_step}
use Rattle.fal_story.proofs.Events.HeldCalls.{held_marked}
use Rattle.fal_story.proofs.Events.InStep.{Ends, begins, ends}
use Rattle.fal_story.proofs.Events.Running.{IsRunning, IsUnplanned, running_none, running_next, run_stays, running_there, running_planned}
use Rattle.fal_story.proofs.Events.Shows.{Ghost, Shows, Held, Beside, pending_calls, calls_in, planned_lane, locks_in, listed_of}
use Rattle.fal_story.proofs.Lists.Each.{Each}
use Rattle.fal_story.specs.Clusters.{IsCluster}
use Rattle.fal_story.specs.World.{World, put}

-- ---- all calls of a batch

-- these calls were run, each of which is planned no more
abbrev AllRan : Config → World → ℕ → Work → NodeState → List BatchCall → Ghost → List BatchCall → Type 0
AllRan config w n k y ps h run = (later : Ghost) × (InExec config w n k later y ps × IsRunning n h later × Each (λ p. IsUnplanned (later.phase (planned_lane p))) run)

calls_run : (config : Config) (w : World) (n : ℕ) (k : Work) (h : Ghost) (y : NodeState) (xs ps ys : List BatchCall) → config.nodes ≤ 255 → n < 256 → InExec config w n k h y (xs ++ (ps ++ ys))
    → AllRan config w n (exec_all k ps) y (xs ++ ys) h ps
calls_run config w n k h y xs [] ys few below s = (h, (s, running_none n h, tt))
calls_run config w n k h y xs (p ∷ ps) ys few below s =
    let one = call_step config w n k h y xs p (ps ++ ys) few below s in
    let rest = calls_run config w n (exec_one k p) one.0 y xs ps ys few below one.1.0 in
    (rest.0, (rest.1.0, running_next n h one.0 rest.0 one.1.1 rest.1.1, (run_stays n (planned_lane p) one.0 rest.0 rest.1.1 one.1.2, rest.1.2)))

-- ---- the batch among the batches

-- its calls stand among those that are kept; once it is marked, and others of its number with it, some of the others are
record IsAmong (bs : List Batch) (number : ℕ) (batch : Batch) : Type 0 where
  front : List BatchCall
  back : List Batch
  before : calls_in bs ≡ front ++ (batch.calls ++ calls_in back)
  after : calls_in (map (as_executed number) bs) ≡ front ++ calls_in (map (as_executed number) back)

same_batch : (a b : Batch) → Some a ≡ Some b → a ≡ b
same_batch a b e = cc

among_rest : (number : ℕ) (c : Batch) (bs : List Batch) (batch : Batch) → as_executed number c ≡ c → IsAmong bs number batch → IsAmong (c ∷ bs) number batch
among_rest number c bs batch same a = record {
  front = pending_calls c ++ a.front;
  back = a.back;
  before = ap (λ z. pending_calls c ++ z) a.before ∙ sym (append_assoc (pending_calls c) a.front (batch.calls ++ calls_in a.back));
  after = (λ i. pending_calls (same i) ++ a.after i) ∙ sym (append_assoc (pending_calls c) a.front (calls_in (map (as_executed number) a.back)));
}

among_first : (number : ℕ) (c : Batch) (bs : List Batch) (batch : Batch) → (c.number == number) ≡ true → c ≡ batch → batch.executed ≡ false → IsAmong (c ∷ bs) number batch
among_first number c bs batch is same fresh = record {
  front = [];
  back = bs;
  before = ap (λ (z : Batch). pending_calls z ++ calls_in bs) same ∙ ap (λ b. cond b [] batch.calls ++ calls_in bs) fresh;
  after = ap (λ b. pending_calls (cond b (record c { executed = true }) c) ++ calls_in (map (as_executed number) bs)) is;
}

batch_among : (bs : List Batch) (number : ℕ) (batch : Batch) → find (λ b. b.number == number) bs ≡ Some batch → batch.executed ≡ false → IsAmong bs number batch
batch_among [] number batch e fresh = absurd (cc)
batch_among (c ∷ bs) number batch e fresh =
    elim (c.number == number) as (λ b. (c.number == number) ≡ b → cond b (Some c) (find (λ d. d.number == number) bs) ≡ Some batch → IsAmong (c ∷ bs) number batch) [
      | true ↦ λ is z. among_first number c bs batch is (same_batch c batch z) fresh
      | false ↦ λ is z. among_rest number c bs batch (ap (λ b. cond b (record c { executed = true }) c) is) (batch_among bs number batch z fresh)
    ] refl e

-- ---- the event

-- when all its calls were run
exec_ends : (config : Config) (w : World) (n number : ℕ) (k : Work) (h later : Ghost) (batch : Batch) (xs : List BatchCall) (back : List Batch) → n ≢ 255 → Shows config w h → batch_of (w.nodes n) number ≡ Some batch
    → All (λ letter. Fits letter.message) k.sent → InExec config w n k later (with_executed (w.nodes n) number) (xs ++ calls_in back) → IsRunning n h later → Each (λ p. IsUnplanned (later.phase (planned_lane p))) batch.calls
    → calls_in (map (as_executed number) (w.nodes n).batches) ≡ xs ++ calls_in (map (as_executed number) back) → Ends config w n k
unfolding with_executed
exec_ends config w n number k h later batch xs back other shown found fit s running run after =
    let x = w.nodes n in
    let marked = held_marked later.call later.phase n number x.waiting.calls xs back s.step.here in
    let here : Held later.call later.phase n k.node.waiting.calls (calls_in k.node.batches) = subst (λ (z : WaitList). Held later.call later.phase n z.calls (calls_in k.node.batches)) (sym s.waiting)
    (subst (Held later.call later.phase n x.waiting.calls) (sym (ap calls_in s.batches ∙ after)) marked) in
    let beside : Beside config (put w.nodes n k.node) w.coord later = beside_stepped config w.nodes w.coord h later n k.node shown.good.operation.running (running_there n h later other running)
    (λ m l p _ e. running_planned n h later running m l p e) (λ m _. running.queued m) (ap locks_in s.items ∙ shown.beside.queues n ∙ ap listed_of (sym (running.queued n)))
    (holds_executed n number x k.node batch h later found s.batches s.holders s.numbered running run (shown.beside.holding n)) shown.beside in (
      later,
      ends config w n k later other fit beside (record {
        good = s.step.good;
        here = here;
        others = s.step.others;
        items = s.step.items;
        others_items = s.step.others_items;
        heard = s.step.heard;
        kept = s.step.kept;
        placed = s.step.placed;
        others_placed = s.step.others_placed;
      }),
    )

batch_event : (config : Config) (w : World) (n number : ℕ) (h : Ghost) (batch : Batch) → config.nodes ≤ 255 → n < 256 → n ≢ 255 → Shows config w h → batch_of (w.nodes n) number ≡ Some batch → batch.executed ≡ false
    → All (λ letter. Fits letter.message) (executed (w.nodes n) number batch).sent → Ends config w n (executed (w.nodes n) number batch)
unfolding executed with_executed
batch_event config w n number h batch few below other s is fresh fit =
    let x = w.nodes n in
    let start = begins config w n h other s in
    let y = with_executed x number in
    let a = batch_among x.batches number batch is fresh in
    let placed = start.placed in
    let ran = calls_run config w n (begun y) h y a.front batch.calls (calls_in a.back) few below (record {
      step = record {
        good = start.good;
        here = subst (Held h.call h.phase n x.waiting.calls) a.before start.here;
        others = start.others;
        items = start.items;
        others_items = start.others_items;
        heard = start.heard;
        kept = start.kept;
        placed = record { number = placed.number; limit = placed.limit; blocked = placed.blocked; tidy = placed.tidy };
        others_placed = start.others_placed;
      };
      counted = refl;
      waiting = refl;
      batches = refl;
      items = refl;
      holders = refl;
      numbered = refl;
    }) in
    exec_ends config w n number (executed x number batch) h ran.0 batch a.front a.back other s is fit ran.1.0 ran.1.1 ran.1.2 a.after

pub exec_event : (config : Config) (w : World) (n number : ℕ) (h : Ghost) (work : Work) → IsCluster config → n < config.nodes → Shows config w h → node_step (w.nodes n) (node.Exec number) ≡ Some work
    → All (λ letter. Fits letter.message) work.sent → Ends config w n work
unfolding node_step
exec_event config w n number h work cluster there s is fit =
    let x = w.nodes n in
    let most = cluster.few_nodes in
    let few : config.nodes ≤ 255 = omega arith in
    let below : n < 256 = omega arith in
    let other : n ≢ 255 = λ own. absurd (omega arith) in
    elim (batch_of x number) as (λ o. batch_of x number ≡ o → execute x number o ≡ Some work → Ends config w n work) [
      | None ↦ λ _ z. absurd (cc)
      | Some batch ↦ λ found z.
          elim batch.executed as (λ b. batch.executed ≡ b → cond b None (Some (executed x number batch)) ≡ Some work → Ends config w n work) [
            | true ↦ λ _ y. absurd (cc)
            | false ↦ λ fresh y.
                let same = same_Some (executed x number batch) work y in
                subst (Ends config w n) same (batch_event config w n number h batch few below other s found fresh (subst (λ (k : Work). All (λ letter. Fits letter.message) k.sent) (sym same) fit))
          ] refl z
    ] refl is
