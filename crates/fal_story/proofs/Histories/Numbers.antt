-- Actors of a cluster differ by their numbers, so an actor's own events are those with its number.
use Rattle.std.proofs.Common.{◌≡◌, ℕ, ◌+◌, ◌<◌, ◌≤◌, nat_lt, nat_le, true, false, ◌&&◌, cond, List, [], ◌∷◌, refl, sym, ap, ◌∙◌, subst, arith, eqb-true, eq-eqb}
use Rattle.std.specs.Prelude.{◌==◌}
use Rattle.std.proofs.lemmas.Bool.Decides.{nat_tests}
use Rattle.fal_base.specs.declared.event.Actor.{Actor}
use Rattle.fal_base.specs.declared.event.Actor.TheVariants.{Client, Node, Coord}
use Rattle.fal_base.specs.declared.event.Event.{Event}
use Rattle.fal_batch.proofs.Truth.{both, both_first, both_second}
use Rattle.fal_book.specs.Entries.{entries_of}
use Rattle.fal_story.specs.Actors.{actor_of, is_actor, own_events, client_number, node_number, number_of, actor_number}
use Rattle.fal_story.specs.Lasting.{same_actor}

-- ---- the numbers of actors that a cluster may have

record IsLaneNumber (lane n : ℕ) : Type 0 where
  some : 0 < lane
  few : lane ≤ 16
  is : n ≡ 16 + lane

lane_of_number : (lane n : ℕ) → client_number lane ≡ n → n < 255 → IsLaneNumber lane n
lane_of_number lane n at below =
    elim (nat_lt 0 lane && nat_le lane 16) as (λ b. (nat_lt 0 lane && nat_le lane 16) ≡ b → cond b (16 + lane) 255 ≡ n → IsLaneNumber lane n) [
      | true ↦ λ is z.
          let some : 0 < lane = grind (arith, nat_tests, both_first (nat_lt 0 lane) (nat_le lane 16) is) in
          let few : lane ≤ 16 = grind (arith, nat_tests, both_second (nat_lt 0 lane) (nat_le lane 16) is) in
          record { some = some; few = few; is = sym z }
      | false ↦ λ is z. absurd (omega arith)
    ] refl at

record IsNodeNumber (node n : ℕ) : Type 0 where
  few : node < 16
  is : n ≡ node

node_of_number : (node n : ℕ) → node_number node ≡ n → n < 255 → IsNodeNumber node n
node_of_number node n at below =
    elim (nat_lt node 16) as (λ b. nat_lt node 16 ≡ b → cond b node 255 ≡ n → IsNodeNumber node n) [
      | true ↦ λ is z. let few : node < 16 = grind (arith, nat_tests) in record { few = few; is = sym z }
      | false ↦ λ is z. absurd (omega arith)
    ] refl at

-- two actors with one number are one, where a cluster may have them
numbers_differ : (a b : Actor) → number_of b < 255 → number_of a ≡ number_of b → a ≡ b
numbers_differ (Client l) (Client m) below same =
    let x = lane_of_number l (client_number m) same below in
    let y = lane_of_number m (client_number m) refl below in
    let p = x.is in
    let q = y.is in
    let one : l ≡ m = omega arith in
    ap Client one
numbers_differ (Node l) (Node m) below same =
    let x = node_of_number l (node_number m) same below in
    let y = node_of_number m (node_number m) refl below in
    ap Node (sym x.is ∙ y.is)
numbers_differ (Client l) (Node m) below same =
    let x = lane_of_number l (node_number m) same below in
    let y = node_of_number m (node_number m) refl below in
    let p = x.is in
    let q = y.is in
    let f = y.few in
    absurd (omega arith)
numbers_differ (Node l) (Client m) below same =
    let x = node_of_number l (client_number m) same below in
    let y = lane_of_number m (client_number m) refl below in
    let p = x.is in
    let q = y.is in
    let f = x.few in
    absurd (omega arith)
numbers_differ (Client l) Coord below same = let x = lane_of_number l 16 same below in let p = x.is in let s = x.some in absurd (omega arith)
numbers_differ (Node l) Coord below same = let x = node_of_number l 16 same below in let p = x.is in let f = x.few in absurd (omega arith)
numbers_differ Coord (Client m) below same = let y = lane_of_number m (client_number m) refl below in let p = y.is in let s = y.some in absurd (omega arith)
numbers_differ Coord (Node m) below same = let y = node_of_number m (node_number m) refl below in let p = y.is in let f = y.few in absurd (omega arith)
numbers_differ Coord Coord below same = refl

pub lane_seated : (lane : ℕ) → 0 < lane → lane ≤ 16 → client_number lane < 255
lane_seated lane some few =
    let from : nat_lt 0 lane ≡ true = grind (arith, nat_tests) in
    let to : nat_le lane 16 ≡ true = grind (arith, nat_tests) in
    let low : 16 + lane < 255 = omega arith in
    subst (λ b. cond b (16 + lane) 255 < 255) (sym (both (nat_lt 0 lane) (nat_le lane 16) from to)) low

pub node_seated : (node : ℕ) → node < 16 → node_number node < 255
node_seated node few =
    let below : nat_lt node 16 ≡ true = grind (arith, nat_tests) in
    let low : node < 255 = omega arith in
    subst (λ b. cond b node 255 < 255) (sym below) low

-- ---- own events

itself : (a : Actor) → is_actor a a ≡ true
itself (Client l) = eq-eqb l l refl
itself (Node n) = eq-eqb n n refl
itself Coord = refl

by_number : (a b : Actor) → number_of a < 255 → is_actor a b ≡ (number_of b == number_of a)
by_number a b seated =
    elim (is_actor a b) as (λ t. is_actor a b ≡ t → t ≡ (number_of b == number_of a)) [
      | true ↦ λ is. sym (eq-eqb (number_of b) (number_of a) (ap number_of (sym (same_actor a b is))))
      | false ↦ λ is.
          elim (number_of b == number_of a) as (λ t. (number_of b == number_of a) ≡ t → false ≡ t) [
            | true ↦ λ same. sym is ∙ subst (λ c. is_actor a c ≡ true) (sym (numbers_differ b a seated (eqb-true (number_of b) (number_of a) same))) (itself a)
            | false ↦ λ same. refl
          ] refl
    ] refl

-- the events of an actor that a cluster may have are those with its number
pub own_by_number : (a : Actor) (es : List Event) → number_of a < 255 → own_events a es ≡ entries_of actor_number (number_of a) es
unfolding actor_number
own_by_number a [] seated = refl
own_by_number a (e ∷ es) seated =
    ap (λ xs. cond (is_actor a (actor_of e)) (e ∷ xs) xs) (own_by_number a es seated)
    ∙ ap (λ b. cond b (e ∷ entries_of actor_number (number_of a) es) (entries_of actor_number (number_of a) es)) (by_number a (actor_of e) seated)
