-- Tables and clients: the recorded table is what the placements leave, each client knows one of their tables, what a Stale tells, and by
-- which table a client asks for the parts of a listing.
use Rattle.std.proofs.Common.{◌≡◌, ◌≢◌, ◌⊎◌, inl, inr, ⊎_elim, ℕ, ◌<◌, ◌≤◌, ◌+◌, Bool, true, List, [], ◌∷◌, ◌++◌, length, length-append, refl, sym, ap, ◌∙◌, subst, arith}
use Rattle.std.specs.Prelude.{IsTrue}
use Rattle.std.specs.List.{list_all}
use Rattle.fal_base.specs.declared.call.CallId.{CallId}
use Rattle.fal_base.specs.declared.call.CallRec.{CallRec}
use Rattle.fal_base.specs.declared.event.Actor.{Actor}
use Rattle.fal_base.specs.declared.event.Actor.TheVariants.{Client, Node}
use Rattle.fal_base.specs.declared.rule.RuleChange.{RuleChange}
use Rattle.fal_place.specs.Placement.{Placement, Placing, is_within, with_rule, table_after, changes_since, CatchesUp}
use Rattle.fal_place.proofs.Carried.{version-table_after, table_after-append, table_after-push}
use Rattle.fal_place.proofs.Rising.{and_both, and_first, and_second}
use Rattle.fal_wire.specs.declared.message.Message.{Message}
use Rattle.fal_wire.specs.declared.message.Message.TheVariants as message
use Rattle.fal_story.proofs.Lists.Grown.{put_all, put_both, put_four, put_other}
use Rattle.fal_story.proofs.View.{posted_more, Post, IsPosted, post}
use Rattle.fal_story.specs.World.{put}
use Rattle.fal_story.proofs.Phase.{Phase, Idle, Asked, Waits, Plans, Runs, Told, Tells, Opens, Lists, IsHeld}

-- the call by the new table: the next attempt, not handed on
abbrev pub retried : CallRec → ℕ → CallRec
retried call version = record call { id = record call.id { attempt = call.id.attempt + 1; hop = 0 }; version = version }

-- the call is not told, and its client asks for no parts
abbrev pub Untold : Phase → Type 0
Untold (Told old new) = ⊥
Untold (Tells (Lists point dir)) = ⊥
Untold other = Unit {0}

pub held_untold : (n : ℕ) (p : Phase) → IsHeld n p → Untold p
held_untold n (Told old new) held = absurd held
held_untold n (Tells (Lists point dir)) held = absurd held
held_untold n other held = tt

-- an earlier call of the lane, or an earlier attempt
abbrev pub IsOlder : CallId → ℕ → CallRec → Type 0
IsOlder id seq call = (id.seq < seq) ⊎ ((id.seq ≡ seq) × (id.attempt < call.id.attempt))

-- the record is of the attempt under way
abbrev pub IsOfAttempt : CallId → ℕ → CallRec → Type 0
IsOfAttempt id seq call = (id.seq ≡ seq) × (id.attempt ≡ call.id.attempt)

-- by the table of this version the client asks for parts of what it lists
abbrev pub IsAsking : Phase → Placement → ℕ → ℕ → Type 0
IsAsking phase known version dir = (point : ℕ) × (phase ≡ Tells (Lists point dir)) × (version ≡ known.version)

-- the record is of a listing of the directory that is answered, or under way by the table of this version
abbrev pub IsListed : CallId → ℕ → CallRec → Phase → Placement → ℕ → ℕ → Type 0
IsListed id seq call phase known version dir = IsOfAttempt id seq call × ((phase ≡ Idle) ⊎ IsAsking phase known version dir)

-- the record is of the attempt under way, and its one live copy
abbrev pub IsLive : CallId → ℕ → CallRec → Phase → ℕ → ℕ → Type 0
IsLive id seq call phase old new = IsOfAttempt id seq call × (phase ≡ Told old new)

-- what a Stale is about
abbrev pub IsKnown : CallId → ℕ → CallRec → Phase → Placement → ℕ → ℕ → Type 0
IsKnown id seq call phase known old new = IsOlder id seq call ⊎ (IsLive id seq call phase old new ⊎ ((dir : ℕ) × IsListed id seq call phase known old dir))

abbrev pub IsStale : ℕ → List Placing → (ℕ → Placement) → (ℕ → ℕ) → (ℕ → CallRec) → (ℕ → Phase) → ℕ → CallId → ℕ → ℕ → List RuleChange → Type 0
IsStale nodes placings known seq call phase l id old new changes =
    (old < new) × (new ≤ length placings) × (changes ≡ changes_since old (table_after nodes placings new)) × IsKnown id (seq l) (call l) (phase l) (known l) old new

-- what asks a node for its part of a listing, for a call that was sent
abbrev pub IsAsk : List Placing → (ℕ → Placement) → (ℕ → ℕ) → (ℕ → CallRec) → (ℕ → Phase) → CallId → ℕ → ℕ → Type 0
IsAsk placings known seq call phase id version dir =
    (version ≤ length placings) × (IsOlder id (seq id.client) (call id.client) ⊎ IsListed id (seq id.client) (call id.client) (phase id.client) (known id.client) version dir) × (0 < id.seq)

abbrev pub Stales : ℕ → List Placing → (ℕ → Placement) → List Post → (ℕ → ℕ) → (ℕ → CallRec) → (ℕ → Phase) → Type 0
Stales nodes placings known posts seq call phase =
    (e p l : ℕ) (id : CallId) (old new : ℕ) (changes : List RuleChange) → IsPosted posts e (Client l) p (message.Stale id old new changes) → IsStale nodes placings known seq call phase l id old new changes

abbrev pub Asks : List Placing → (ℕ → Placement) → List Post → (ℕ → ℕ) → (ℕ → CallRec) → (ℕ → Phase) → Type 0
Asks placings known posts seq call phase =
    (e p n : ℕ) (id : CallId) (version dir : ℕ) → IsPosted posts e (Node n) p (message.ListAsk id version dir) → IsAsk placings known seq call phase id version dir

-- the table is that of a version that was reached
abbrev pub IsReached : ℕ → List Placing → Placement → Type 0
IsReached nodes placings table = (j : ℕ) × (j ≤ length placings) × (table ≡ table_after nodes placings j)

pub record Knowing (nodes : ℕ) (table : Placement) (placings : List Placing) (known : ℕ → Placement) (posts : List Post) (seq : ℕ → ℕ) (call : ℕ → CallRec) (phase : ℕ → Phase) : Type 0 where
  pub recorded : table ≡ table_after nodes placings (length placings)
  -- each rule that was set is of nodes that are there
  pub within : IsTrue (list_all (λ placing. is_within nodes placing.rule) placings)
  pub knows : (l : ℕ) → IsReached nodes placings (known l)
  pub version : (l : ℕ) → phase l ≢ Idle → (call l).version ≡ (known l).version
  pub told : (l old new : ℕ) → phase l ≡ Told old new → (old ≡ (known l).version) × (old < new) × (new ≤ length placings)
  pub stale : Stales nodes placings known posts seq call phase
  pub asks : Asks placings known posts seq call phase

-- what has to hold of a record when it is sent
abbrev pub FineKnowing : ℕ → List Placing → (ℕ → Placement) → (ℕ → ℕ) → (ℕ → CallRec) → (ℕ → Phase) → Actor → Message → Type 0
FineKnowing nodes placings known seq call phase to (message.Stale id old new changes) = (l : ℕ) × (to ≡ Client l) × IsStale nodes placings known seq call phase l id old new changes
FineKnowing nodes placings known seq call phase to (message.ListAsk id version dir) = IsAsk placings known seq call phase id version dir
FineKnowing nodes placings known seq call phase to other = Unit {0}

all_one_more : {A : Type 0} (test : A → Bool) (xs : List A) (x : A) → IsTrue (list_all test xs) → IsTrue (test x) → IsTrue (list_all test (xs ++ x ∷ []))
all_one_more test [] x all is = and_both (test x) true is refl
all_one_more test (y ∷ xs) x all is = and_both (test y) (list_all test (xs ++ x ∷ [])) (and_first (test y) (list_all test xs) all) (all_one_more test xs x (and_second (test y) (list_all test xs) all) is)

same_client : (a b : ℕ) → Client a ≡ Client b → a ≡ b
same_client a b e = cc

fine_stale : (nodes : ℕ) (placings : List Placing) (known : ℕ → Placement) (seq : ℕ → ℕ) (call : ℕ → CallRec) (phase : ℕ → Phase) (to : Actor) (m : Message) → FineKnowing nodes placings known seq call phase to m
    → (l : ℕ) (id : CallId) (old new : ℕ) (changes : List RuleChange) → to ≡ Client l → m ≡ message.Stale id old new changes → IsStale nodes placings known seq call phase l id old new changes
fine_stale nodes placings known seq call phase to m fine l id old new changes here is =
    let x = subst (FineKnowing nodes placings known seq call phase to) is fine in
    subst (λ a. IsStale nodes placings known seq call phase a id old new changes) (sym (same_client l x.0 (sym here ∙ x.1))) x.2

-- ---- a lane's call, before and after an event

-- what was about the call before is about it after
record IsOnward (seq : ℕ) (call : CallRec) (phase : Phase) (known : Placement) (seq' : ℕ) (call' : CallRec) (phase' : Phase) (known' : Placement) : Type 0 where
  older : (id : CallId) → IsOlder id seq call → IsOlder id seq' call'
  live : (id : CallId) (old new : ℕ) → IsLive id seq call phase old new → IsOlder id seq' call' ⊎ IsLive id seq' call' phase' old new
  listed : (id : CallId) (version dir : ℕ) → IsListed id seq call phase known version dir → IsOlder id seq' call' ⊎ IsListed id seq' call' phase' known' version dir

onward_same : (seq : ℕ) (call : CallRec) (phase : Phase) (known : Placement) → IsOnward seq call phase known seq call phase known
onward_same seq call phase known = record { older = λ id o. o; live = λ id old new x. inr x; listed = λ id version dir x. inr x }

-- a later call, or a later attempt
onward_past : (seq : ℕ) (call : CallRec) (phase : Phase) (known : Placement) (seq' : ℕ) (call' : CallRec) (phase' : Phase) (known' : Placement)
    → ((id : CallId) → IsOlder id seq call ⊎ IsOfAttempt id seq call → IsOlder id seq' call') → IsOnward seq call phase known seq' call' phase' known'
onward_past seq call phase known seq' call' phase' known' past = record {
  older = λ id o. past id (inl o);
  live = λ id old new x. inl (past id (inr x.0));
  listed = λ id version dir x. inl (past id (inr x.0));
}

-- the call is of the same attempt, and moves from a place that is not told and asks for no parts
onward_untold : (seq : ℕ) (call : CallRec) (phase : Phase) (known : Placement) (call' : CallRec) (phase' : Phase) → call'.id.attempt ≡ call.id.attempt → (phase ≡ Idle → phase' ≡ Idle) → Untold phase
    → IsOnward seq call phase known seq call' phase' known
onward_untold seq call phase known call' phase' same still untold = record {
  older = λ id o. ⊎_elim (λ less. inl less) (λ y. let less = y.1 in inr (y.0, omega arith)) o;
  live = λ id old new x. absurd (subst Untold x.1 untold);
  listed = λ id version dir x. inr ((x.0.0, x.0.1 ∙ sym same), ⊎_elim (λ e. inl (still e)) (λ y. absurd (subst Untold y.1 untold)) x.1);
}

module _ (seq : ℕ) (call : CallRec) (phase : Phase) (known : Placement) (seq' : ℕ) (call' : CallRec) (phase' : Phase) (known' : Placement) (on : IsOnward seq call phase known seq' call' phase' known') where
  known_onward : (id : CallId) (old new : ℕ) → IsKnown id seq call phase known old new → IsKnown id seq' call' phase' known' old new
  known_onward id old new x = ⊎_elim
      (λ o. inl (on.older id o))
      (λ y. ⊎_elim
      (λ z. ⊎_elim (λ o. inl o) (λ w. inr (inl w)) (on.live id old new z))
      (λ z. ⊎_elim (λ o. inl o) (λ w. inr (inr (z.0, w))) (on.listed id old z.0 z.1))
      y)
      x

  asked_onward : (id : CallId) (version dir : ℕ) → IsOlder id seq call ⊎ IsListed id seq call phase known version dir → IsOlder id seq' call' ⊎ IsListed id seq' call' phase' known' version dir
  asked_onward id version dir x = ⊎_elim (λ o. inl (on.older id o)) (λ z. on.listed id version dir z) x

module _ {nodes : ℕ} {table : Placement} {placings : List Placing} {known : ℕ → Placement} {posts : List Post} {seq : ℕ → ℕ} {call : ℕ → CallRec} {phase : ℕ → Phase} (g : Knowing nodes table placings known posts seq call phase) where
  module _ (known' : ℕ → Placement) (seq' : ℕ → ℕ) (call' : ℕ → CallRec) (phase' : ℕ → Phase) (on : (a : ℕ) → IsOnward (seq a) (call a) (phase a) (known a) (seq' a) (call' a) (phase' a) (known' a)) where
    stales_onward : Stales nodes placings known' posts seq' call' phase'
    stales_onward e p l id old new changes posted =
        let x = g.stale e p l id old new changes posted in
        (x.0, x.1, x.2, known_onward (seq l) (call l) (phase l) (known l) (seq' l) (call' l) (phase' l) (known' l) (on l) id old new x.3)

    asks_onward : Asks placings known' posts seq' call' phase'
    asks_onward e p n id version dir posted =
        let x = g.asks e p n id version dir posted in
        let l = id.client in
        (x.0, asked_onward (seq l) (call l) (phase l) (known l) (seq' l) (call' l) (phase' l) (known' l) (on l) id version dir x.1, x.2)

  -- calls move, none from or to a Stale, and none that lists
  pub knowing_moved : (phase' : ℕ → Phase) → ((l : ℕ) → phase l ≡ Idle → phase' l ≡ Idle) → ((l old new : ℕ) → phase' l ≡ Told old new → phase l ≡ Told old new) → ((l old new : ℕ) → phase l ≡ Told old new → phase' l ≡ Told old new)
      → ((l point dir : ℕ) → phase l ≡ Tells (Lists point dir) → phase' l ≡ Tells (Lists point dir)) → Knowing nodes table placings known posts seq call phase'
  knowing_moved phase' still from to lists =
      let on = λ (a : ℕ). onward_moved a in
      record {
        recorded = g.recorded;
        within = g.within;
        knows = g.knows;
        version = λ l busy. g.version l (λ e. busy (still l e));
        told = λ l old new e. g.told l old new (from l old new e);
        stale = stales_onward known seq call phase' on;
        asks = asks_onward known seq call phase' on;
      }
    where
      onward_moved : (a : ℕ) → IsOnward (seq a) (call a) (phase a) (known a) (seq a) (call a) (phase' a) (known a)
      onward_moved a = record {
        older = λ id o. o;
        live = λ id old new x. inr (x.0, to a old new x.1);
        listed = λ id version dir x. inr (x.0, ⊎_elim (λ e. inl (still a e)) (λ y. inr (y.0, lists a y.0 dir y.1, y.2)) x.1);
      }

  onward_put : (l : ℕ) (p : Phase) → IsOnward (seq l) (call l) (phase l) (known l) (seq l) (call l) p (known l) → (a : ℕ) → IsOnward (seq a) (call a) (phase a) (known a) (seq a) (call a) (put phase l p a) (known a)
  onward_put l p on = put_all (λ a q. IsOnward (seq a) (call a) (phase a) (known a) (seq a) (call a) q (known a)) phase l p on (λ a _. onward_same (seq a) (call a) (phase a) (known a))

  onward_called : (l : ℕ) (c : CallRec) (p : Phase) (t : Placement) → IsOnward (seq l) (call l) (phase l) (known l) (seq l) c p t → (a : ℕ) → IsOnward (seq a) (call a) (phase a) (known a) (seq a) (put call l c a) (put phase l p a) (put known l t a)
  onward_called l c p t on = put_four (λ a d q t z. IsOnward (seq a) (call a) (phase a) (known a) (seq a) d q t) call phase known (λ z. z) l c p t l on (λ a _. onward_same (seq a) (call a) (phase a) (known a))

  -- a call is told
  pub knowing_told : (l old new : ℕ) → phase l ≢ Idle → Untold (phase l) → old ≡ (known l).version → old < new → new ≤ length placings → Knowing nodes table placings known posts seq call (put phase l (Told old new))
  knowing_told l old new busy untold is later below =
      let on = onward_put l (Told old new) (onward_untold (seq l) (call l) (phase l) (known l) (call l) (Told old new) refl (λ e. absurd (busy e)) untold) in
      record {
        recorded = g.recorded;
        within = g.within;
        knows = g.knows;
        version = put_all (λ a q. q ≢ Idle → (call a).version ≡ (known a).version) phase l (Told old new) (λ _. g.version l busy) (λ a _. g.version a);
        told = put_all (λ a q. (i j : ℕ) → q ≡ Told i j → (i ≡ (known a).version) × (i < j) × (j ≤ length placings)) phase l (Told old new)
            (λ i j e. let one : old ≡ i = cc in let two : new ≡ j = cc in (sym one ∙ is, omega arith, omega arith)) (λ a _. g.told a);
        stale = stales_onward known seq call (put phase l (Told old new)) on;
        asks = asks_onward known seq call (put phase l (Told old new)) on;
      }

  -- one record more
  pub knowing_posted : (to : Actor) (p : ℕ) (m : Message) → FineKnowing nodes placings known seq call phase to m → Knowing nodes table placings known (posts ++ post to p m ∷ []) seq call phase
  knowing_posted to p m fine = record {
    recorded = g.recorded;
    within = g.within;
    knows = g.knows;
    version = g.version;
    told = g.told;
    stale = λ e q l id old new changes h. ⊎_elim (λ x. g.stale e q l id old new changes x) (λ x. fine_stale nodes placings known seq call phase to m fine l id old new changes x.0 x.2) (posted_more posts to p m e (Client l) q (message.Stale id old new changes) h);
    asks = λ e q n id version dir h. ⊎_elim (λ x. g.asks e q n id version dir x) (λ x. subst (FineKnowing nodes placings known seq call phase to) x.2 fine) (posted_more posts to p m e (Node n) q (message.ListAsk id version dir) h);
  }

  -- a name is placed
  pub knowing_placed : (placing : Placing) → IsTrue (is_within nodes placing.rule) → Knowing nodes (with_rule table placing.name placing.rule) (placings ++ placing ∷ []) known posts seq call phase
  knowing_placed placing there =
      let more : length (placings ++ placing ∷ []) ≡ length placings + 1 = length-append placings (placing ∷ []) in
      record {
        recorded = ap (λ t. with_rule t placing.name placing.rule) g.recorded ∙ sym (table_after-push nodes placings placing) ∙ ap (table_after nodes (placings ++ placing ∷ [])) (sym more);
        within = all_one_more (λ placing. is_within nodes placing.rule) placings placing g.within there;
        knows = λ l. let x = g.knows l in (x.0, let below = x.1 in omega arith, x.2 ∙ sym (table_after-append nodes placings (placing ∷ []) x.0 x.1));
        version = g.version;
        told = λ l old new e. let x = g.told l old new e in let below = x.2 in (x.0, x.1, omega arith);
        stale = λ e p l id old new changes posted. let x = g.stale e p l id old new changes posted in let below = x.1 in
            (x.0, omega arith, x.2 ∙ ap (changes_since old) (sym (table_after-append nodes placings (placing ∷ []) new x.1)), x.3);
        asks = λ e p n id version dir posted. let x = g.asks e p n id version dir posted in let below = x.0 in (omega arith, x.1, x.2);
      }

  -- before the first placement there is one table
  pub table_first : table.version ≡ 0 → (new : ℕ) → new ≤ length placings → table ≡ table_after nodes placings new
  table_first none new below =
      let count : table.version ≡ length placings = ap (λ (t : Placement). t.version) g.recorded ∙ version-table_after nodes placings (length placings) (omega arith) in
      let same : length placings ≡ new = omega arith in
      g.recorded ∙ ap (table_after nodes placings) same

  -- which each client knows
  pub known_first : table.version ≡ 0 → (l : ℕ) → known l ≡ table
  known_first none l = let k = g.knows l in k.2 ∙ sym (table_first none k.0 k.1)

  -- its call was told of this table, or it asks for parts by it
  abbrev pub IsTaken : ℕ → ℕ → ℕ → Type 0
  IsTaken l old new = ((phase l ≡ Told old new) ⊎ ((point : ℕ) × ((dir : ℕ) × (phase l ≡ Tells (Lists point dir))))) × (old ≡ (known l).version) × (old < new)

  -- a client takes the changes of a Stale of its attempt, where it was told of it or asks for parts: it knows the later table
  pub stale_comes : (e p l old new : ℕ) (id : CallId) (changes : List RuleChange) (next : Placement) → IsPosted posts e (Client l) p (message.Stale id old new changes) → IsOfAttempt id (seq l) (call l) → phase l ≢ Idle
      → CatchesUp (known l) new changes next → IsTaken l old new × (new ≤ length placings) × (next ≡ table_after nodes placings new)
  stale_comes e p l old new id changes next posted of_attempt busy catches =
      let x = g.stale e p l id old new changes posted in
      let k = g.knows l in
      let later = x.0 in
      let taken = taken_by l id old new of_attempt busy x.0 x.3 in
      let same : old ≡ k.0 = taken.1 ∙ ap (λ (z : Placement). z.version) k.2 ∙ version-table_after nodes placings k.0 k.1 in
      (taken, x.1, catches nodes placings k.0 (omega arith) x.1 k.2 (x.2 ∙ ap (λ i. changes_since i (table_after nodes placings new)) same))
    where
      taken_by : (l : ℕ) (id : CallId) (old new : ℕ) → IsOfAttempt id (seq l) (call l) → phase l ≢ Idle → old < new → IsKnown id (seq l) (call l) (phase l) (known l) old new → IsTaken l old new
      taken_by l id old new of_attempt busy later x = ⊎_elim
          (λ o. let same = of_attempt.0 in let attempt = of_attempt.1 in absurd (⊎_elim (λ less. omega arith) (λ y. let less = y.1 in omega arith) o))
          (λ y. ⊎_elim
          (λ z. (inl z.1, (g.told l old new z.1).0, later))
          (λ z. ⊎_elim (λ idle. absurd (busy idle)) (λ w. (inr (w.0, (z.0, w.1)), w.2, later)) z.1.1)
          y)
          x

  retried_past : (l version : ℕ) (id : CallId) → IsOlder id (seq l) (call l) ⊎ IsOfAttempt id (seq l) (call l) → IsOlder id (seq l) (retried (call l) version)
  retried_past l version id x = ⊎_elim (λ o. ⊎_elim (λ less. inl less) (λ y. let less = y.1 in inr (y.0, omega arith)) o) (λ y. let same = y.1 in inr (y.0, omega arith)) x

  -- and tries its call again
  pub knowing_retried : (l m old new : ℕ) → phase l ≡ Told old new → new ≤ length placings
      → Knowing nodes table placings (put known l (table_after nodes placings new)) posts seq (put call l (retried (call l) new)) (put phase l (Asked m))
  knowing_retried l m old new is below =
      let t = table_after nodes placings new in
      let c = retried (call l) new in
      let on = onward_called l c (Asked m) t (onward_past (seq l) (call l) (phase l) (known l) (seq l) c (Asked m) t (retried_past l new)) in
      record {
        recorded = g.recorded;
        within = g.within;
        knows = put_all (λ a t. IsReached nodes placings t) known l t (new, below, refl) (λ a _. g.knows a);
        version = λ a. put_both (λ a c t. put phase l (Asked m) a ≢ Idle → c.version ≡ t.version) call known l c t
            (λ _. sym (version-table_after nodes placings new below))
            (λ a ne busy. g.version a (λ e. busy (put_other phase l (Asked m) a ne ∙ e))) a;
        told = λ a i j. put_both (λ a q t. q ≡ Told i j → (i ≡ t.version) × (i < j) × (j ≤ length placings)) phase known l (Asked m) t (λ e. absurd (cc)) (λ a _. g.told a i j) a;
        stale = stales_onward (put known l t) seq (put call l c) (put phase l (Asked m)) on;
        asks = asks_onward (put known l t) seq (put call l c) (put phase l (Asked m)) on;
      }

  -- or asks for the parts again
  pub knowing_again : (l point dir new : ℕ) → phase l ≡ Tells (Lists point dir) → new ≤ length placings
      → Knowing nodes table placings (put known l (table_after nodes placings new)) posts seq (put call l (retried (call l) new)) (put phase l (Tells (Lists point dir)))
  knowing_again l point dir new is below =
      let t = table_after nodes placings new in
      let c = retried (call l) new in
      let q = Tells (Lists point dir) in
      let on = onward_called l c q t (onward_past (seq l) (call l) (phase l) (known l) (seq l) c q t (retried_past l new)) in
      record {
        recorded = g.recorded;
        within = g.within;
        knows = put_all (λ a t. IsReached nodes placings t) known l t (new, below, refl) (λ a _. g.knows a);
        version = λ a. put_both (λ a c t. put phase l q a ≢ Idle → c.version ≡ t.version) call known l c t
            (λ _. sym (version-table_after nodes placings new below))
            (λ a ne busy. g.version a (λ e. busy (put_other phase l q a ne ∙ e))) a;
        told = λ a i j. put_both (λ a q t. q ≡ Told i j → (i ≡ t.version) × (i < j) × (j ≤ length placings)) phase known l q t (λ e. absurd (cc)) (λ a _. g.told a i j) a;
        stale = stales_onward (put known l t) seq (put call l c) (put phase l q) on;
        asks = asks_onward (put known l t) seq (put call l c) (put phase l q) on;
      }

  -- a lane's next call is sent, with the version that its client knows
  pub knowing_sent : (l : ℕ) (c : CallRec) (p : Phase) → phase l ≡ Idle → c.version ≡ (known l).version → ((i j : ℕ) → p ≢ Told i j) → Knowing nodes table placings known posts (put seq l (seq l + 1)) (put call l c) (put phase l p)
  knowing_sent l c p idle knows untold =
      let past = λ (id : CallId) (x : IsOlder id (seq l) (call l) ⊎ IsOfAttempt id (seq l) (call l)). next_past l id c x in
      let on = λ (a : ℕ). put_four (λ a s d q u. IsOnward (seq a) (call a) (phase a) (known a) s d q (known a)) seq call phase (λ z. z) l (seq l + 1) c p l
      (onward_past (seq l) (call l) (phase l) (known l) (seq l + 1) c p (known l) past) (λ a _. onward_same (seq a) (call a) (phase a) (known a)) a in
      record {
        recorded = g.recorded;
        within = g.within;
        knows = g.knows;
        version = put_both (λ a d q. q ≢ Idle → d.version ≡ (known a).version) call phase l c p (λ _. knows) (λ a _. g.version a);
        told = put_all (λ a q. (i j : ℕ) → q ≡ Told i j → (i ≡ (known a).version) × (i < j) × (j ≤ length placings)) phase l p (λ i j e. absurd (untold i j e)) (λ a _. g.told a);
        stale = stales_onward known (put seq l (seq l + 1)) (put call l c) (put phase l p) on;
        asks = asks_onward known (put seq l (seq l + 1)) (put call l c) (put phase l p) on;
      }
    where
      next_past : (l : ℕ) (id : CallId) (c : CallRec) → IsOlder id (seq l) (call l) ⊎ IsOfAttempt id (seq l) (call l) → IsOlder id (seq l + 1) c
      next_past l id c x = ⊎_elim (λ o. ⊎_elim (λ less. inl (omega arith)) (λ y. let same = y.0 in inl (omega arith)) o) (λ y. let same = y.0 in inl (omega arith)) x

  -- one call moves, not from or to a Stale
  pub knowing_handed : (l : ℕ) (c : CallRec) (p : Phase) → c.version ≡ (call l).version → c.id.attempt ≡ (call l).id.attempt → phase l ≢ Idle → Untold (phase l) → Untold p → Knowing nodes table placings known posts seq (put call l c) (put phase l p)
  knowing_handed l c p version attempt busy was is =
      let on = put_both (λ a d q. IsOnward (seq a) (call a) (phase a) (known a) (seq a) d q (known a)) call phase l c p (onward_untold (seq l) (call l) (phase l) (known l) c p attempt (λ e. absurd (busy e)) was)
      (λ a _. onward_same (seq a) (call a) (phase a) (known a)) in
      record {
        recorded = g.recorded;
        within = g.within;
        knows = g.knows;
        version = put_both (λ a d q. q ≢ Idle → d.version ≡ (known a).version) call phase l c p (λ _. version ∙ g.version l busy) (λ a _. g.version a);
        told = put_all (λ a q. (i j : ℕ) → q ≡ Told i j → (i ≡ (known a).version) × (i < j) × (j ≤ length placings)) phase l p (λ i j e. absurd (subst Untold e is)) (λ a _. g.told a);
        stale = stales_onward known seq (put call l c) (put phase l p) on;
        asks = asks_onward known seq (put call l c) (put phase l p) on;
      }

  -- one call moves to a place that is no Stale, from one that was no Stale, too, and asked for no parts
  put_onward : (l : ℕ) (p : Phase) → (phase l ≢ Idle) ⊎ (p ≡ Idle) → ((i j : ℕ) → p ≢ Told i j) → IsOnward (seq l) (call l) (phase l) (known l) (seq l) (call l) p (known l) → Knowing nodes table placings known posts seq call (put phase l p)
  put_onward l p still is here =
      let on = onward_put l p here in
      record {
        recorded = g.recorded;
        within = g.within;
        knows = g.knows;
        version = put_all (λ a q. q ≢ Idle → (call a).version ≡ (known a).version) phase l p (λ busy. g.version l (⊎_elim (λ was. was) (λ idle. absurd (busy idle)) still)) (λ a _. g.version a);
        told = put_all (λ a q. (i j : ℕ) → q ≡ Told i j → (i ≡ (known a).version) × (i < j) × (j ≤ length placings)) phase l p (λ i j e. absurd (is i j e)) (λ a _. g.told a);
        stale = stales_onward known seq call (put phase l p) on;
        asks = asks_onward known seq call (put phase l p) on;
      }

  pub knowing_put : (l : ℕ) (p : Phase) → (phase l ≡ Idle → p ≡ Idle) → Untold (phase l) → Untold p → Knowing nodes table placings known posts seq call (put phase l p)
  knowing_put l p still was is = put_onward l p (idle_or (phase l) p still) (λ i j e. subst Untold e is) (onward_untold (seq l) (call l) (phase l) (known l) (call l) p refl still was)
    where
      idle_or : (q p : Phase) → (q ≡ Idle → p ≡ Idle) → (q ≢ Idle) ⊎ (p ≡ Idle)
      idle_or Idle p still = inr (still refl)
      idle_or (Asked n) p still = inl (λ e. absurd (cc))
      idle_or (Waits n f) p still = inl (λ e. absurd (cc))
      idle_or (Plans n x) p still = inl (λ e. absurd (cc))
      idle_or Runs p still = inl (λ e. absurd (cc))
      idle_or (Told old new) p still = inl (λ e. absurd (cc))
      idle_or (Tells answer) p still = inl (λ e. absurd (cc))

  -- the client of a listing is told of its directory
  pub knowing_lists : (l point dir : ℕ) → phase l ≡ Tells (Opens point dir) → Knowing nodes table placings known posts seq call (put phase l (Tells (Lists point dir)))
  knowing_lists l point dir is =
      let busy : phase l ≢ Idle = λ e. let none : Tells (Opens point dir) ≡ Idle = sym is ∙ e in absurd (cc) in
      put_onward l (Tells (Lists point dir)) (inl busy) (λ i j e. absurd (cc)) (onward_untold (seq l) (call l) (phase l) (known l) (call l) (Tells (Lists point dir)) refl (λ e. absurd (busy e)) (subst Untold (sym is) tt))

  -- a listing is answered
  pub knowing_listed : (l point dir : ℕ) → phase l ≡ Tells (Lists point dir) → Knowing nodes table placings known posts seq call (put phase l Idle)
  knowing_listed l point dir is = put_onward l Idle (inr refl) (λ i j e. absurd (cc)) (record {
    older = λ id o. o;
    live = λ id old new x. let none : Tells (Lists point dir) ≡ Told old new = sym is ∙ x.1 in absurd (cc);
    listed = λ id version d x. inr (x.0, inl refl);
  })
