-- The fetches of a plan can be opened in turn: the waiters of each are free, and are not those of the fetches before it.
use Rattle.std.proofs.Common.{◌≡◌, ℕ, Bool, true, false, not, ◌&&◌, ◌||◌, ◌==◌, cond, List, [], ◌∷◌, map, filter, nat_lt, Some, is_none, refl, sym, ap, ◌∙◌, subst, arith}
use Rattle.std.specs.List.{list_all, list_any}
use Rattle.std.proofs.lemmas.Bool.Decides.{nat_tests}
use Rattle.fal_base.specs.declared.key.Key.{Key}
use Rattle.fal_base.specs.Tree.{same_key}
use Rattle.fal_base.proofs.Maps.{same_key_is}
use Rattle.fal_dentry.specs.Walk.{is_among}
use Rattle.fal_wait.specs.declared.waiting_call.WaitingCall.{WaitingCall}
use Rattle.fal_wait.specs.Lists.{has_number}
use Rattle.fal_wait.specs.Waiting.{WaitList, IsNumbered, are_rising, on_fetch, after_open}
use Rattle.fal_batch.specs.declared.parts.Wanted.{Wanted}
use Rattle.fal_batch.specs.Fate.{Setting, Fate, Skips, Leaves, Waits, Joins, fate}
use Rattle.fal_batch.specs.Keys.{are_distinct}
use Rattle.fal_batch.specs.Plan.{plan_of, free_calls, tickets_differ, waits_for, waits_for_by, waiters_of}
use Rattle.fal_batch.proofs.FreeCalls.{free_of, free_calls_are}
use Rattle.fal_batch.proofs.Shared.{shared_of}
use Rattle.fal_batch.proofs.Truth.{both, both_first, both_second, neither, neither_first, neither_second, not_true}
use Rattle.fal_node.specs.Ready.{CanOpen}
use Rattle.fal_wait.proofs.Numbered.{open_numbered}

-- tickets

other_number : (a b : ℕ) → nat_lt a b ≡ true → (b == a) ≡ false
other_number a b h = grind (arith, nat_tests)

itself : (n : ℕ) → (n == n) ≡ true
itself n = grind (arith, nat_tests)

turned : (m n : ℕ) → (m == n) ≡ false → (n == m) ≡ false
turned m n h = grind (arith, nat_tests)

none_same : (n : ℕ) (ws : List WaitingCall) → list_all (λ later. nat_lt n later.ticket) ws ≡ true → list_any (λ other. other.ticket == n) ws ≡ false
none_same n [] h = refl
none_same n (w ∷ ws) h =
    neither (w.ticket == n) (list_any (λ other. other.ticket == n) ws) (other_number n w.ticket (both_first (nat_lt n w.ticket) (list_all (λ later. nat_lt n later.ticket) ws) h))
    (none_same n ws (both_second (nat_lt n w.ticket) (list_all (λ later. nat_lt n later.ticket) ws) h))

-- tickets that rise differ
pub rising_differ : (ws : List WaitingCall) (end : ℕ) → are_rising ws end ≡ true → tickets_differ ws ≡ true
rising_differ [] end h = refl
rising_differ (w ∷ ws) end h =
    let more = both_second (list_all (λ later. nat_lt w.ticket later.ticket) ws) (nat_lt w.ticket end && are_rising ws end) h in
    let apart = none_same w.ticket ws (both_first (list_all (λ later. nat_lt w.ticket later.ticket) ws) (nat_lt w.ticket end && are_rising ws end) h) in
    both (not (list_any (λ other. other.ticket == w.ticket) ws)) (tickets_differ ws) (ap not apart) (rising_differ ws end (both_second (nat_lt w.ticket end) (are_rising ws end) more))

none_left : (p test : WaitingCall → Bool) (ws : List WaitingCall) → list_any p ws ≡ false → list_any p (filter test ws) ≡ false
none_left p test [] h = h
none_left p test (w ∷ ws) h =
    let rest = none_left p test ws (neither_second (p w) (list_any p ws) h) in
    elim (test w) as (λ b. list_any p (cond b (w ∷ filter test ws) (filter test ws)) ≡ false) [
      | true ↦ neither (p w) (list_any p (filter test ws)) (neither_first (p w) (list_any p ws) h) rest
      | false ↦ rest
    ]

differ_left : (test : WaitingCall → Bool) (ws : List WaitingCall) → tickets_differ ws ≡ true → tickets_differ (filter test ws) ≡ true
differ_left test [] h = h
differ_left test (w ∷ ws) h =
    let same : WaitingCall → Bool = λ other. other.ticket == w.ticket in
    let rest = differ_left test ws (both_second (not (list_any same ws)) (tickets_differ ws) h) in
    let apart = none_left same test ws (not_true (list_any same ws) (both_first (not (list_any same ws)) (tickets_differ ws) h)) in
    elim (test w) as (λ b. tickets_differ (cond b (w ∷ filter test ws) (filter test ws)) ≡ true) [
      | true ↦ both (not (list_any same (filter test ws))) (tickets_differ (filter test ws)) (ap not apart) rest
      | false ↦ rest
    ]

-- the waiters of a fetch among the free calls

abbrev tickets_of : List WaitingCall → List ℕ
tickets_of ws = map (λ w. w.ticket) ws

-- of these calls, those that pass the test have these numbers
abbrev AreThose : List ℕ → (WaitingCall → Bool) → List WaitingCall → Type 0
AreThose numbers q [] = Unit {0}
AreThose numbers q (w ∷ ws) = (has_number numbers w.ticket ≡ q w) × AreThose numbers q ws

number_is : (ws : List WaitingCall) (n : ℕ) → has_number (tickets_of ws) n ≡ list_any (λ other. other.ticket == n) ws
number_is [] n = refl
number_is (w ∷ ws) n = ap (λ b. (w.ticket == n) || b) (number_is ws n)

one_more : (n : ℕ) (numbers : List ℕ) (q : WaitingCall → Bool) (ws : List WaitingCall) → list_any (λ other. other.ticket == n) ws ≡ false → AreThose numbers q ws → AreThose (n ∷ numbers) q ws
one_more n numbers q [] apart h = tt
one_more n numbers q (w ∷ ws) apart h =
    let other = turned w.ticket n (neither_first (w.ticket == n) (list_any (λ o. o.ticket == n) ws) apart) in
    (ap (λ b. b || has_number numbers w.ticket) other ∙ h.0, one_more n numbers q ws (neither_second (w.ticket == n) (list_any (λ o. o.ticket == n) ws) apart) h.1)

those_all : (q : WaitingCall → Bool) (ws : List WaitingCall) → tickets_differ ws ≡ true → AreThose (tickets_of (filter q ws)) q ws
those_all q [] h = tt
those_all q (w ∷ ws) h =
    let same : WaitingCall → Bool = λ other. other.ticket == w.ticket in
    let apart = not_true (list_any same ws) (both_first (not (list_any same ws)) (tickets_differ ws) h) in
    let rest = those_all q ws (both_second (not (list_any same ws)) (tickets_differ ws) h) in
    elim (q w) as (λ b. (has_number (tickets_of (cond b (w ∷ filter q ws) (filter q ws))) w.ticket ≡ b) × AreThose (tickets_of (cond b (w ∷ filter q ws) (filter q ws))) q ws) [
      | true ↦ (ap (λ b. b || has_number (tickets_of (filter q ws)) w.ticket) (itself w.ticket), one_more w.ticket (tickets_of (filter q ws)) q ws apart rest)
      | false ↦ (number_is (filter q ws) w.ticket ∙ none_left same q ws apart, rest)
    ]

numbers_left : (numbers : List ℕ) (q : WaitingCall → Bool) (ws : List WaitingCall) → AreThose numbers q ws → filter (λ n. has_number numbers n) (tickets_of ws) ≡ tickets_of (filter q ws)
numbers_left numbers q [] h = refl
numbers_left numbers q (w ∷ ws) h =
    let rest = filter (λ n. has_number numbers n) (tickets_of ws) in
    ap (λ b. cond b (w.ticket ∷ rest) rest) h.0
    ∙ elim (q w) as (λ b. cond b (w.ticket ∷ rest) rest ≡ tickets_of (cond b (w ∷ filter q ws) (filter q ws))) [
      | true ↦ ap (λ ns. w.ticket ∷ ns) (numbers_left numbers q ws h.1)
      | false ↦ numbers_left numbers q ws h.1
    ]

others_left : (numbers : List ℕ) (q : WaitingCall → Bool) (ws : List WaitingCall) → AreThose numbers q ws → filter (λ w. not (has_number numbers w.ticket)) ws ≡ filter (λ w. not (q w)) ws
others_left numbers q [] h = refl
others_left numbers q (w ∷ ws) h =
    let rest = filter (λ v. not (has_number numbers v.ticket)) ws in
    ap (λ b. cond (not b) (w ∷ rest) rest) h.0 ∙ ap (λ vs. cond (not (q w)) (w ∷ vs) vs) (others_left numbers q ws h.1)

-- the calls that stay free where a fetch was opened
free_after : (number : ℕ) (waiters : List ℕ) (calls : List WaitingCall) → free_of (map (λ w. on_fetch number waiters w) calls) ≡ filter (λ w. not (has_number waiters w.ticket)) (free_of calls)
free_after number waiters [] = refl
free_after number waiters (w ∷ ws) =
    let rest = free_after number waiters ws in
    let left : List WaitingCall = free_of (map (λ v. on_fetch number waiters v) ws) in
    let stays : WaitingCall → Bool = λ v. not (has_number waiters v.ticket) in
    elim (is_none w.fetch) as (λ f. is_none w.fetch ≡ f
    → cond (is_none (on_fetch number waiters w).fetch) (on_fetch number waiters w ∷ left) left ≡ filter stays (cond f (w ∷ free_of ws) (free_of ws))) [
      | true ↦ λ e.
          elim (has_number waiters w.ticket) as (λ b. cond (is_none (cond b (record w { fetch = Some number }) w).fetch) (cond b (record w { fetch = Some number }) w ∷ left) left
          ≡ cond (not b) (w ∷ filter stays (free_of ws)) (filter stays (free_of ws))) [
            | true ↦ rest
            | false ↦ ap (λ f. cond f (w ∷ left) left) e ∙ ap (λ vs. w ∷ vs) rest
          ]
      | false ↦ λ e.
          elim (has_number waiters w.ticket) as (λ b. cond (is_none (cond b (record w { fetch = Some number }) w).fetch) (cond b (record w { fetch = Some number }) w ∷ left) left
          ≡ filter stays (free_of ws)) [
            | true ↦ rest
            | false ↦ ap (λ f. cond f (w ∷ left) left) e ∙ rest
          ]
    ] refl

-- fetches of different keys

one_key : (a b : Key) (f : Fate) → same_key a b ≡ false → waits_for_by a f ≡ true → waits_for_by b f ≡ false
one_key a b Skips apart h = refl
one_key a b (Leaves to) apart h = refl
one_key a b (Waits other) apart h = ap (λ k. same_key k b) ((same_key_is other a).0 h) ∙ apart
one_key a b (Joins denied parent last keys) apart h = refl

apart_left : (p q : WaitingCall → Bool) → ((w : WaitingCall) → p w ≡ true → q w ≡ false) → (ws : List WaitingCall) → filter p (filter (λ w. not (q w)) ws) ≡ filter p ws
apart_left p q apart [] = refl
apart_left p q apart (w ∷ ws) =
    let rest = apart_left p q apart ws in
    let left : List WaitingCall = filter (λ v. not (q v)) ws in
    elim (p w) as (λ b. p w ≡ b → filter p (cond (not (q w)) (w ∷ left) left) ≡ cond b (w ∷ filter p ws) (filter p ws)) [
      | true ↦ λ is. ap (λ b. filter p (cond (not b) (w ∷ left) left)) (apart w is) ∙ ap (λ b. cond b (w ∷ filter p left) (filter p left)) is ∙ ap (λ vs. w ∷ vs) rest
      | false ↦ λ is.
          elim (q w) as (λ b. filter p (cond (not b) (w ∷ left) left) ≡ filter p ws) [
            | true ↦ rest
            | false ↦ ap (λ b. cond b (w ∷ filter p left) (filter p left)) is ∙ rest
          ]
    ] refl

abbrev keys_of : List Wanted → List Key
keys_of fetches = map (λ wanted. wanted.key) fetches

module _ (s : Setting) where
  -- the tickets of the calls that wait on a fetch of the key
  abbrev group : Key → List WaitingCall → List ℕ
  group key free = tickets_of (filter (λ w. waits_for s key w.call) free)

  -- each fetch is for all of these calls that wait on its key
  abbrev AreGroups : List Wanted → List WaitingCall → Type 0
  AreGroups [] free = Unit {0}
  AreGroups (wanted ∷ fetches) free = (wanted.waiters ≡ group wanted.key free) × AreGroups fetches free

  groups_without : (key : Key) (fetches : List Wanted) (free : List WaitingCall) → is_among key (keys_of fetches) ≡ false → AreGroups fetches free
      → AreGroups fetches (filter (λ w. not (waits_for s key w.call)) free)
  groups_without key [] free apart h = tt
  groups_without key (u ∷ us) free apart h =
      let here = neither_first (same_key u.key key) (is_among key (keys_of us)) apart in
      let others = apart_left (λ w. waits_for s u.key w.call) (λ w. waits_for s key w.call) (λ w is. one_key u.key key (fate s w.call) here is) free in
      (h.0 ∙ sym (ap tickets_of others), groups_without key us free (neither_second (same_key u.key key) (is_among key (keys_of us)) apart) h.1)

  groups_of : (fetches : List Wanted) (free : List WaitingCall) → are_distinct (keys_of fetches) ≡ true
      → ((key : Key) → is_among key (keys_of fetches) ≡ true → waiters_of fetches key ≡ group key free) → AreGroups fetches free
  groups_of [] free one h = tt
  groups_of (u ∷ us) free one h =
      let same = (same_key_is u.key u.key).1 refl in
      let alone = not_true (is_among u.key (keys_of us)) (both_first (not (is_among u.key (keys_of us))) (are_distinct (keys_of us)) one) in
      let others : (key : Key) → is_among key (keys_of us) ≡ true → waiters_of us key ≡ group key free = λ key there.
      let apart : same_key u.key key ≡ false =
      elim (same_key u.key key) as (λ b. same_key u.key key ≡ b → b ≡ false) [
        | true ↦ λ e. sym there ∙ ap (λ k. is_among k (keys_of us)) (sym ((same_key_is u.key key).0 e)) ∙ alone
        | false ↦ λ e. refl
      ] refl in
      sym (ap (λ b. cond b u.waiters (waiters_of us key)) apart) ∙ h key (ap (λ b. b || is_among key (keys_of us)) apart ∙ there) in (
        sym (ap (λ b. cond b u.waiters (waiters_of us u.key)) same) ∙ h u.key (ap (λ b. b || is_among u.key (keys_of us)) same),
        groups_of us free (both_second (not (is_among u.key (keys_of us))) (are_distinct (keys_of us)) one) others,
      )

  opens : (fetches : List Wanted) (list : WaitList) → IsNumbered list → are_distinct (keys_of fetches) ≡ true → AreGroups fetches (free_of list.calls) → CanOpen list fetches
  unfolding after_open
  opens [] list sound one h = tt
  opens (u ∷ us) list sound one h =
      let free : List WaitingCall = free_of list.calls in
      let waits : WaitingCall → Bool = λ w. waits_for s u.key w.call in
      let differ = differ_left (λ w. is_none w.fetch) list.calls (rising_differ list.calls list.tickets sound.tickets) in
      let those : AreThose u.waiters waits free = subst (λ ns. AreThose ns waits free) (sym h.0) (those_all waits free differ) in
      let alone = not_true (is_among u.key (keys_of us)) (both_first (not (is_among u.key (keys_of us))) (are_distinct (keys_of us)) one) in
      let left = free_after list.opened u.waiters list.calls ∙ others_left u.waiters waits free those in (
        h.0 ∙ sym (numbers_left u.waiters waits free those),
        opens us (after_open list u.key u.waiters) (open_numbered list u.key u.waiters sound) (both_second (not (is_among u.key (keys_of us))) (are_distinct (keys_of us)) one)
            (subst (λ ws. AreGroups us ws) (sym left) (groups_without u.key us free alone h.1)),
      )

  pub can_open_plan : (list : WaitList) → IsNumbered list → CanOpen list (plan_of s list).fetches
  can_open_plan list sound =
      let shared = shared_of s list in
      let free = free_calls_are list (rising_differ list.calls list.tickets sound.tickets) in
      opens (plan_of s list).fetches list sound shared.one
      (subst (λ ws. AreGroups (plan_of s list).fetches ws) free (groups_of (plan_of s list).fetches (free_calls list) shared.one (λ key there. shared.waiters key)))
