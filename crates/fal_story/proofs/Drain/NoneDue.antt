-- What it says of a cluster that nothing is due.
use Rattle.std.proofs.Common.{◌≡◌, ℕ, zero, suc, ◌+◌, ◌<◌, ◌≤◌, Bool, true, false, not, cond, List, [], ◌∷◌, ◌++◌, length, map, filter, Some, None, IsTrue, refl, sym, ap, subst, ◌∙◌, arith, eq-eqb}
use Rattle.std.specs.Prelude.{slice_get, ◌==◌}
use Rattle.std.specs.List.{flat_map, range_with_len}
use Rattle.std.proofs.lemmas.Bool.Decides.{nat_tests}
use Rattle.std.proofs.lemmas.Option.{same_Some}
use Rattle.fal_base.specs.declared.call.Config.{Config}
use Rattle.fal_base.specs.declared.event.Actor.{Actor}
use Rattle.fal_base.specs.declared.event.Actor.TheVariants.{Client, Node, Coord}
use Rattle.fal_base.specs.declared.event.Envelope.{Envelope}
use Rattle.fal_base.specs.declared.event.Event.TheVariants as event
use Rattle.fal_batch.specs.Plan.{is_idle}
use Rattle.fal_node.specs.declared.batch.Batch.{Batch}
use Rattle.fal_node.specs.declared.event.OwnEvent.TheVariants.{Gather, Exec, Release, Serve}
use Rattle.fal_node.specs.declared.item.Item.{Item}
use Rattle.fal_node.specs.Due.{dues, due_gather, due_execs, due_releases, due_serves}
use Rattle.fal_node.specs.Gather.{plan_at}
use Rattle.fal_node.specs.Serve.{can_serve}
use Rattle.fal_node.specs.State.{NodeState}
use Rattle.fal_story.proofs.Drain.Actors.{IsActor}
use Rattle.fal_story.proofs.Lists.Each.{Each}
use Rattle.fal_story.specs.Clusters.{is_lane}
use Rattle.fal_story.specs.Fresh.{is_actor, due_with, due_from, due, event_of_node, fresh_gets, fresh_at_node, fresh_start, fresh_at_coord, fresh_replies}
use Rattle.fal_story.specs.World.{World}

-- ---- lists that are empty

pub first_none : {A : Type 0} (xs : List A) → slice_get xs 0 ≡ None → xs ≡ []
first_none [] e = refl
first_none (x ∷ xs) e = absurd (cc)

pub join_none : {A : Type 0} (xs ys : List A) → xs ++ ys ≡ [] → (xs ≡ []) × (ys ≡ [])
join_none [] ys e = (refl, e)
join_none (x ∷ xs) ys e = absurd (cc)

map_none : {A B : Type 0} (f : A → B) (xs : List A) → map f xs ≡ [] → xs ≡ []
map_none f [] e = refl
map_none f (x ∷ xs) e = absurd (cc)

filter_none : {A : Type 0} (p : A → Bool) (xs : List A) → filter p xs ≡ [] → Each (λ x. p x ≡ false) xs
filter_none p [] e = tt
filter_none p (x ∷ xs) e =
    elim (p x) as (λ b. p x ≡ b → cond b (x ∷ filter p xs) (filter p xs) ≡ [] → Each (λ y. p y ≡ false) (x ∷ xs)) [
      | true ↦ λ is z. absurd (cc)
      | false ↦ λ is z. (is, filter_none p xs z)
    ] refl e

-- nothing comes of any number of a range
range_none : {A : Type 0} (f : ℕ → List A) (from count n : ℕ) → flat_map f (range_with_len from count) ≡ [] → from ≤ n → n < from + count → f n ≡ []
range_none f from zero n e low high = absurd (omega arith)
range_none f from (suc count) n e low high =
    let parts = join_none (f from) (flat_map f (range_with_len (from + 1) count)) e in
    elim (from == n) as (λ b. (from == n) ≡ b → f n ≡ []) [
      | true ↦ λ is. let same : from ≡ n = grind (arith, nat_tests) in subst (λ m. f m ≡ []) same parts.0
      | false ↦ λ is. let other : from + 1 ≤ n = grind (arith, nat_tests) in range_none f (from + 1) count n parts.1 other (omega arith)
    ] refl

-- ---- envelopes

is_actor_itself : (a : Actor) → is_actor a a ≡ true
is_actor_itself (Client l) = eq-eqb l l refl
is_actor_itself (Node n) = eq-eqb n n refl
is_actor_itself Coord = refl

due_none : (a : Actor) (came : ℕ → Bool) (from : ℕ) (xs : List Envelope) (k : ℕ) (x : Envelope) → due_from a came from xs ≡ [] → slice_get xs k ≡ Some x → is_actor a x.to ≡ true → came (from + k) ≡ true
due_none a came from [] k x e at is = absurd (cc)
due_none a came from (y ∷ ys) zero x e at is =
    let same : y ≡ x = same_Some y x at in
    let mine : is_actor a y.to ≡ true = ap (λ (z : Envelope). is_actor a z.to) same ∙ is in
    subst (λ i. came i ≡ true) (nothing from)
    (elim (came from) as (λ b. came from ≡ b → due_with true b from (due_from a came (suc from) ys) ≡ [] → b ≡ true) [
      | true ↦ λ t z. refl
      | false ↦ λ t z. absurd (cc)
    ] refl (ap (λ b. due_with b (came from) from (due_from a came (suc from) ys)) (sym mine) ∙ e))
  where
    nothing : (n : ℕ) → n ≡ n + 0
    nothing n = omega arith
due_none a came from (y ∷ ys) (suc k) x e at is = subst (λ i. came i ≡ true) (more from k) (due_none a came (suc from) ys k x (rest (is_actor a y.to) (came from) e) at is)
  where
    more : (n k : ℕ) → suc n + k ≡ n + suc k
    more n k = omega arith

    rest : (b c : Bool) → due_with b c from (due_from a came (suc from) ys) ≡ [] → due_from a came (suc from) ys ≡ []
    rest true true z = z
    rest true false z = absurd (cc)
    rest false c z = z

-- ---- a cluster

pub record NoneFresh (config : Config) (w : World) (came : ℕ → Bool) : Type 0 where
  pub all_came : (k : ℕ) (x : Envelope) → slice_get w.envelopes k ≡ Some x → IsActor config x.to → came k ≡ true
  pub no_dues : (n : ℕ) → n < config.nodes → dues (w.nodes n) ≡ []
  pub no_start : fresh_start w ≡ []

-- nothing is fresh at the coordinator
coord_due : (config : Config) (w : World) (came : ℕ → Bool) → fresh_replies config w came ≡ [] → (due Coord came w.envelopes ≡ []) × (fresh_start w ≡ [])
coord_due config w came e =
    let lanes = flat_map (λ lane. fresh_gets w came lane) (range_with_len 1 (length config.lanes)) in
    let nodes = flat_map (λ number. fresh_at_node w came number) (range_with_len 0 config.nodes) in
    let parts = join_none (map (λ number. event.Hear number) (due Coord came w.envelopes)) (fresh_start w) (join_none (lanes ++ nodes) (fresh_at_coord w came) e).1 in
    (map_none (λ number. event.Hear number) (due Coord came w.envelopes) parts.0, parts.1)

-- nor at lanes, nor at nodes
none_at : (config : Config) (w : World) (came : ℕ → Bool) → fresh_replies config w came ≡ []
    → (flat_map (λ lane. fresh_gets w came lane) (range_with_len 1 (length config.lanes)) ≡ []) × (flat_map (λ number. fresh_at_node w came number) (range_with_len 0 config.nodes) ≡ [])
none_at config w came e =
    let lanes = flat_map (λ lane. fresh_gets w came lane) (range_with_len 1 (length config.lanes)) in
    let nodes = flat_map (λ number. fresh_at_node w came number) (range_with_len 0 config.nodes) in
    join_none lanes nodes (join_none (lanes ++ nodes) (fresh_at_coord w came) e).0

lane_due : (config : Config) (w : World) (came : ℕ → Bool) (l : ℕ) → fresh_replies config w came ≡ [] → IsTrue (is_lane config l) → due (Client l) came w.envelopes ≡ []
lane_due config w came l e there =
    let low : 1 ≤ l = grind (arith, nat_tests) in
    let high : l < 1 + length config.lanes = grind (arith, nat_tests) in
    map_none (λ number. event.Get l number) (due (Client l) came w.envelopes)
    (range_none (λ lane. fresh_gets w came lane) 1 (length config.lanes) l (none_at config w came e).0 low high)

node_due : (config : Config) (w : World) (came : ℕ → Bool) (n : ℕ) → fresh_replies config w came ≡ [] → n < config.nodes → (due (Node n) came w.envelopes ≡ []) × (dues (w.nodes n) ≡ [])
node_due config w came n e there =
    let parts = join_none (map (λ envelope. event.Deliver n envelope) (due (Node n) came w.envelopes)) (map (λ x. event_of_node n x) (dues (w.nodes n)))
    (range_none (λ number. fresh_at_node w came number) 0 config.nodes n (none_at config w came e).1 (omega arith) (omega arith)) in
    (map_none (λ envelope. event.Deliver n envelope) (due (Node n) came w.envelopes) parts.0, map_none (λ x. event_of_node n x) (dues (w.nodes n)) parts.1)

came_if : (came : ℕ → Bool) (xs : List Envelope) (k : ℕ) (x : Envelope) → slice_get xs k ≡ Some x → due x.to came xs ≡ [] → came k ≡ true
came_if came xs k x at e = subst (λ i. came i ≡ true) (from_nothing k) (due_none x.to came 0 xs k x e at (is_actor_itself x.to))
  where
    from_nothing : (k : ℕ) → 0 + k ≡ k
    from_nothing k = omega arith

pub none_fresh : (config : Config) (w : World) (came : ℕ → Bool) → slice_get (fresh_replies config w came) 0 ≡ None → NoneFresh config w came
none_fresh config w came none =
    let e = first_none (fresh_replies config w came) none in
    record {
      all_came = λ k x at there. came_if came w.envelopes k x at (due_at e x.to there);
      no_dues = λ n there. (node_due config w came n e there).1;
      no_start = (coord_due config w came e).1;
    }
  where
    due_at : fresh_replies config w came ≡ [] → (a : Actor) → IsActor config a → due a came w.envelopes ≡ []
    due_at e (Client l) there = lane_due config w came l e there
    due_at e (Node n) there = (node_due config w came n e there).0
    due_at e Coord there = (coord_due config w came e).0

-- ---- a node

-- no free call is gathered, there is no batch, and the condition of no item holds
pub record NoneDue (node : NodeState) : Type 0 where
  pub idle : is_idle (plan_at node) ≡ true
  pub batches : node.batches ≡ []
  pub items : Each (λ (item : Item). can_serve node item.message ≡ false) node.items

neither_batch : (bs : List Batch) → Each (λ (b : Batch). not b.executed ≡ false) bs → Each (λ (b : Batch). b.executed ≡ false) bs → bs ≡ []
neither_batch [] h k = refl
neither_batch (b ∷ bs) h k = let z : not false ≡ false = sym (ap not k.0) ∙ h.0 in absurd (cc)

pub none_due : (node : NodeState) → dues node ≡ [] → NoneDue node
none_due node e =
    let c = join_none (due_gather node ++ due_execs node ++ due_releases node) (due_serves node) e in
    let b = join_none (due_gather node ++ due_execs node) (due_releases node) c.0 in
    let a = join_none (due_gather node) (due_execs node) b.0 in
    record {
      idle = elim (is_idle (plan_at node)) as (λ t. cond t [] (Gather ∷ []) ≡ [] → t ≡ true) [ true ↦ λ z. refl | false ↦ λ z. absurd (cc) ] a.0;
      batches = neither_batch node.batches (filter_none (λ (x : Batch). not x.executed) node.batches (map_none (λ (x : Batch). Exec x.number) (filter (λ x. not x.executed) node.batches) a.1))
          (filter_none (λ (x : Batch). x.executed) node.batches (map_none (λ (x : Batch). Release x.number) (filter (λ x. x.executed) node.batches) b.1));
      items = filter_none (λ (i : Item). can_serve node i.message) node.items (map_none (λ (i : Item). Serve i.number) (filter (λ i. can_serve node i.message) node.items) c.1);
    }
