-- Queues by their places.
use Rattle.std.proofs.Common.{◌≡◌, ◌≢◌, ◌⊎◌, inl, inr, ⊎_elim, ℕ, zero, suc, ◌+◌, ◌-◌, ◌<◌, ◌≤◌, Bool, true, false, ◌&&◌, cond, List, [], ◌∷◌, ◌++◌, length, take, get_or, Some, None, refl, sym, ap, ◌∙◌, subst, arith, set, append-nil}
use Rattle.std.specs.Prelude.{slice_get, nat_lt, nat_le}
use Rattle.std.proofs.lemmas.Bool.Decides.{nat_tests}
use Rattle.std.proofs.lemmas.Option.{same_Some}
use Rattle.std.proofs.lemmas.List.{take_more, length-take-le}
use Rattle.fal_base.specs.declared.event.Actor.{Actor}
use Rattle.fal_base.specs.declared.event.Actor.TheVariants.{Client, Node, Coord}
use Rattle.fal_base.specs.declared.event.Envelope.{Envelope}
use Rattle.fal_story.specs.Fresh.{is_actor, due_with, due, due_from}
use Rattle.fal_story.specs.World.{put}
use Rattle.fal_story.proofs.Drain.Dues.{without, due_snoc, due_came, due_other}
use Rattle.fal_story.proofs.Lists.Grown.{tells, slice_get_below}
use Rattle.fal_alone.specs.Queues.{QueueSeen, other_at, actor_at, queue_place, Holds, HoldDue, HaveRoom, WasSentTo, given}

-- both of two tests hold
both : (a b : Bool) → (a && b) ≡ true → (a ≡ true) × (b ≡ true)
both true true e = (refl, refl)
both true false e = absurd (cc)
both false b e = absurd (cc)

-- one of two tests fails
either : (a b : Bool) → (a && b) ≡ false → (a ≡ false) ⊎ (b ≡ false)
either true true e = absurd (cc)
either true false e = inr refl
either false b e = inl refl

-- the queue at place j is the actor's exactly where j is place i
abbrev pub Picks : ℕ → ℕ → ℕ → Actor → Type 0
Picks lanes i j to = ((j ≡ i) × (is_actor (actor_at lanes j) to ≡ true)) ⊎ ((j ≢ i) × (is_actor (actor_at lanes j) to ≡ false))

-- no queue after those of the lanes is a lane's
no_client : (m lane : ℕ) → is_actor (other_at m) (Client lane) ≡ false
no_client zero lane = refl
no_client (suc m) lane = refl

-- the first of them is the coordinator's
first_other : (m : ℕ) → ((m ≡ 0) × (is_actor (other_at m) Coord ≡ true)) ⊎ ((m ≢ 0) × (is_actor (other_at m) Coord ≡ false))
first_other zero = inl (refl, refl)
first_other (suc m) = inr ((λ e. absurd (omega arith)), refl)

-- and the others are those of the nodes
later_other : (m node : ℕ) → ((m ≡ node + 1) × (is_actor (other_at m) (Node node) ≡ true)) ⊎ ((m ≢ node + 1) × (is_actor (other_at m) (Node node) ≡ false))
later_other zero node = inr ((λ e. absurd (omega arith)), refl)
later_other (suc m) node = ⊎_elim (λ h. let x = h.1 in inl ((omega arith), h.0)) (λ h. inr ((λ y. h.1 (omega arith)), h.0)) (tells m node)

-- an actor's place is the only one with its queue
pub place_some : (lanes nodes i j : ℕ) (to : Actor) → queue_place lanes nodes to ≡ Some i → Picks lanes i j to
place_some lanes nodes i j (Client lane) e =
    elim (nat_lt 0 lane && nat_le lane lanes) as (λ t. (nat_lt 0 lane && nat_le lane lanes) ≡ t → cond t (Some (lane - 1)) None ≡ Some i → Picks lanes i j (Client lane)) [
      | false ↦ λ t z. absurd (cc)
      | true ↦ λ t z.
          let s : lane - 1 ≡ i = cc in
          let tests = both (nat_lt 0 lane) (nat_le lane lanes) t in
          let low_test = tests.0 in
          let high_test = tests.1 in
          let low : 0 < lane = grind (arith, nat_tests) in
          let high : lane ≤ lanes = grind (arith, nat_tests) in
          elim (nat_lt j lanes) as (λ u. nat_lt j lanes ≡ u → ((j ≡ i) × (is_actor (cond u (Client (j + 1)) (other_at (j - lanes))) (Client lane) ≡ true)) ⊎ ((j ≢ i) × (is_actor (cond u (Client (j + 1)) (other_at (j - lanes))) (Client lane) ≡ false))) [
            | true ↦ λ u. ⊎_elim (λ h. let x = h.1 in inl ((omega arith), h.0)) (λ h. inr ((λ y. h.1 (omega arith)), h.0)) (tells (j + 1) lane)
            | false ↦ λ u. let v : lanes ≤ j = grind (arith, nat_tests) in inr ((λ y. absurd (omega arith)), no_client (j - lanes) lane)
          ] refl
    ] refl e
place_some lanes nodes i j (Node node) e =
    elim (nat_lt node nodes) as (λ t. nat_lt node nodes ≡ t → cond t (Some (lanes + 1 + node)) None ≡ Some i → Picks lanes i j (Node node)) [
      | false ↦ λ t z. absurd (cc)
      | true ↦ λ t z.
          let s : lanes + 1 + node ≡ i = cc in
          elim (nat_lt j lanes) as (λ u. nat_lt j lanes ≡ u → ((j ≡ i) × (is_actor (cond u (Client (j + 1)) (other_at (j - lanes))) (Node node) ≡ true)) ⊎ ((j ≢ i) × (is_actor (cond u (Client (j + 1)) (other_at (j - lanes))) (Node node) ≡ false))) [
            | true ↦ λ u. let v : j < lanes = grind (arith, nat_tests) in inr ((λ y. absurd (omega arith)), refl)
            | false ↦ λ u. let v : lanes ≤ j = grind (arith, nat_tests) in ⊎_elim (λ h. let x = h.0 in inl ((omega arith), h.1)) (λ h. inr ((λ y. h.0 (omega arith)), h.1)) (later_other (j - lanes) node)
          ] refl
    ] refl e
place_some lanes nodes i j Coord e =
    let s : lanes ≡ i = cc in
    elim (nat_lt j lanes) as (λ u. nat_lt j lanes ≡ u → ((j ≡ i) × (is_actor (cond u (Client (j + 1)) (other_at (j - lanes))) Coord ≡ true)) ⊎ ((j ≢ i) × (is_actor (cond u (Client (j + 1)) (other_at (j - lanes))) Coord ≡ false))) [
      | true ↦ λ u. let v : j < lanes = grind (arith, nat_tests) in inr ((λ y. absurd (omega arith)), refl)
      | false ↦ λ u. let v : lanes ≤ j = grind (arith, nat_tests) in ⊎_elim (λ h. let x = h.0 in inl ((omega arith), h.1)) (λ h. inr ((λ y. h.0 (omega arith)), h.1)) (first_other (j - lanes))
    ] refl

-- an actor without a place has no queue
pub place_none : (lanes nodes j : ℕ) (to : Actor) → queue_place lanes nodes to ≡ None → j < lanes + 1 + nodes → is_actor (actor_at lanes j) to ≡ false
place_none lanes nodes j (Client lane) e b =
    elim (nat_lt 0 lane && nat_le lane lanes) as (λ t. (nat_lt 0 lane && nat_le lane lanes) ≡ t → cond t (Some (lane - 1)) None ≡ None → is_actor (actor_at lanes j) (Client lane) ≡ false) [
      | true ↦ λ t z. absurd (cc)
      | false ↦ λ t z. elim (nat_lt j lanes) as (λ u. nat_lt j lanes ≡ u → is_actor (cond u (Client (j + 1)) (other_at (j - lanes))) (Client lane) ≡ false) [
        | true ↦ λ u.
            let v : j < lanes = grind (arith, nat_tests) in
            ⊎_elim
            (λ h. let x = h.1 in ⊎_elim (λ low. let w : lane ≤ 0 = grind (arith, nat_tests) in absurd (omega arith)) (λ high. let w : lanes < lane = grind (arith, nat_tests) in absurd (omega arith)) (either (nat_lt 0 lane) (nat_le lane lanes) t))
            (λ h. h.0)
            (tells (j + 1) lane)
        | false ↦ λ u. no_client (j - lanes) lane
      ] refl
    ] refl e
place_none lanes nodes j (Node node) e b =
    elim (nat_lt node nodes) as (λ t. nat_lt node nodes ≡ t → cond t (Some (lanes + 1 + node)) None ≡ None → is_actor (actor_at lanes j) (Node node) ≡ false) [
      | true ↦ λ t z. absurd (cc)
      | false ↦ λ t z. elim (nat_lt j lanes) as (λ u. nat_lt j lanes ≡ u → is_actor (cond u (Client (j + 1)) (other_at (j - lanes))) (Node node) ≡ false) [
        | true ↦ λ u. refl
        | false ↦ λ u.
            let v : lanes ≤ j = grind (arith, nat_tests) in
            let w : nodes ≤ node = grind (arith, nat_tests) in
            ⊎_elim (λ h. let x = h.0 in absurd (omega arith)) (λ h. h.1) (later_other (j - lanes) node)
      ] refl
    ] refl e
place_none lanes nodes j Coord e b = absurd (cc)

-- the place that was changed holds what it was changed to
pub set_same : {A : Type 0} (xs : List A) (k : ℕ) (x y : A) → slice_get xs k ≡ Some x → slice_get (set xs k y) k ≡ Some y
set_same [] k x y h = absurd (cc)
set_same (z ∷ xs) zero x y h = refl
set_same (z ∷ xs) (suc k) x y h = set_same xs k x y h

-- every other place holds what it held
pub set_other : {A : Type 0} (xs : List A) (k m : ℕ) (y : A) → m ≢ k → slice_get (set xs k y) m ≡ slice_get xs m
set_other [] k m y ne = refl
set_other (z ∷ xs) zero zero y ne = absurd (ne refl)
set_other (z ∷ xs) zero (suc m) y ne = refl
set_other (z ∷ xs) (suc k) zero y ne = refl
set_other (z ∷ xs) (suc k) (suc m) y ne = set_other xs k m y (λ e. ne (ap suc e))

-- a queue changes to one that holds what its place is to hold
pub holds_set : (numbers new : ℕ → List ℕ) (queues : List QueueSeen) (i : ℕ) (p q : QueueSeen) → slice_get queues i ≡ Some p → Holds numbers queues → q.items ≡ new i → ((j : ℕ) → j < length queues → j ≢ i → numbers j ≡ new j) → Holds new (set queues i q)
holds_set numbers new queues i p q at h here there j x e =
    ⊎_elim
    (λ s. ap (λ (z : QueueSeen). z.items) (same_Some x q (sym e ∙ ap (slice_get (set queues i q)) s.1 ∙ set_same queues i p q at)) ∙ here ∙ ap new (sym s.1))
    (λ s. let old = sym (set_other queues i j q s.1) ∙ e in h j x old ∙ there j (slice_get_below queues j x old) s.1)
    (tells j i)

-- a queue changes to one with room for so many
pub room_set : (n m : ℕ) (queues : List QueueSeen) (i : ℕ) (p q : QueueSeen) → slice_get queues i ≡ Some p → HaveRoom n queues → m ≤ n → m ≤ q.spare → HaveRoom m (set queues i q)
room_set n m queues i p q at h less here j x e =
    ⊎_elim
    (λ s. subst (λ (z : QueueSeen). m ≤ z.spare) (same_Some q x (sym (set_same queues i p q at) ∙ ap (slice_get (set queues i q)) (sym s.1) ∙ e)) here)
    (λ s. let y = h j x (sym (set_other queues i j q s.1) ∙ e) in omega arith)
    (tells j i)

-- a number goes to the queue of its actor
pub gives : (lanes nodes : ℕ) (numbers : ℕ → List ℕ) (to : Actor) (number i : ℕ) (queues : List QueueSeen) (p q : QueueSeen) → length queues ≡ lanes + 1 + nodes → queue_place lanes nodes to ≡ Some i → slice_get queues i ≡ Some p → q.items ≡ p.items ++ number ∷ [] → Holds numbers queues → Holds (given lanes numbers to number) (set queues i q)
gives lanes nodes numbers to number i queues p q count is at new h =
    let below = slice_get_below queues i p at in
    holds_set numbers (given lanes numbers to number) queues i p q at h
    (new ∙ ap (λ ks. ks ++ number ∷ []) (h i p at) ∙ ⊎_elim (λ y. ap (λ t. numbers i ++ due_with t false number []) (sym y.1)) (λ y. absurd (y.0 refl)) (place_some lanes nodes i i to is))
    (λ j b ne. sym (append-nil (numbers j)) ∙ ⊎_elim (λ y. absurd (ne y.0)) (λ y. ap (λ t. numbers j ++ due_with t false number []) (sym y.1)) (place_some lanes nodes i j to is))

-- a number for an actor without a queue goes nowhere
pub gives_none : (lanes nodes : ℕ) (numbers : ℕ → List ℕ) (to : Actor) (number : ℕ) (queues : List QueueSeen) → length queues ≡ lanes + 1 + nodes → queue_place lanes nodes to ≡ None → Holds numbers queues → Holds (given lanes numbers to number) queues
gives_none lanes nodes numbers to number queues count is h j x e =
    let below = slice_get_below queues j x e in
    h j x e ∙ sym (append-nil (numbers j)) ∙ ap (λ t. numbers j ++ due_with t false number []) (sym (place_none lanes nodes j to is (omega arith)))

-- one more envelope is due to its actor
pub due_given : (lanes j i : ℕ) (c : ℕ → Bool) (xs : List Envelope) (d : Envelope) → i < length xs → c i ≡ false → given lanes (λ j. due (actor_at lanes j) c (take i xs)) (get_or xs i d).to i j ≡ due (actor_at lanes j) c (take (i + 1) xs)
due_given lanes j i c xs d b fresh =
    let x = get_or xs i d in
    let a = actor_at lanes j in
    let n : length (take i xs) + 0 ≡ i = let y = length-take-le i xs (omega arith) in omega arith in
    sym (ap (due_from a c 0) (take_more xs i d b) ∙ due_snoc a c 0 (take i xs) x ∙ ap (λ m. due_from a c 0 (take i xs) ++ due_with (is_actor a x.to) (c m) m []) n ∙ ap (λ t. due_from a c 0 (take i xs) ++ due_with (is_actor a x.to) t i []) fresh)

-- an envelope comes to its actor, and its number leaves the queue
pub takes : (lanes nodes number i : ℕ) (c : ℕ → Bool) (xs : List Envelope) (to : Actor) (queues : List QueueSeen) (p q : QueueSeen) → length queues ≡ lanes + 1 + nodes → queue_place lanes nodes to ≡ Some i → slice_get queues i ≡ Some p → q.items ≡ without number p.items → WasSentTo to number xs → HoldDue lanes c xs queues → HoldDue lanes (put c number true) xs (set queues i q)
takes lanes nodes number i c xs to queues p q count is at new sent h =
    let zero_more : number ≡ number + 0 = omega arith in
    holds_set (λ j. due (actor_at lanes j) c xs) (λ j. due (actor_at lanes j) (put c number true) xs) queues i p q at h
    (new ∙ ap (without number) (h i p at) ∙ sym (due_came (actor_at lanes i) c number 0 xs))
    (λ j b ne. ⊎_elim (λ y. absurd (ne y.0)) (λ y. sym (due_other (actor_at lanes j) c number 0 number xs sent.0 zero_more sent.1.0 (ap (is_actor (actor_at lanes j)) sent.1.1 ∙ y.1))) (place_some lanes nodes i j to is))

-- an envelope comes to an actor without a queue
pub takes_none : (lanes nodes number : ℕ) (c : ℕ → Bool) (xs : List Envelope) (to : Actor) (queues : List QueueSeen) → length queues ≡ lanes + 1 + nodes → queue_place lanes nodes to ≡ None → WasSentTo to number xs → HoldDue lanes c xs queues → HoldDue lanes (put c number true) xs queues
takes_none lanes nodes number c xs to queues count is sent h j q at =
    let zero_more : number ≡ number + 0 = omega arith in
    let below = slice_get_below queues j q at in
    h j q at ∙ sym (due_other (actor_at lanes j) c number 0 number xs sent.0 zero_more sent.1.0 (ap (is_actor (actor_at lanes j)) sent.1.1 ∙ place_none lanes nodes j to is (omega arith)))
