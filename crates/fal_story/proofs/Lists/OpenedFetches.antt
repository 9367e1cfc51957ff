-- Fetches are opened, and the free calls that lack their keys wait on them.
use Rattle.std.proofs.Common.{◌≡◌, ◌⊎◌, inl, inr, ⊎_elim, ℕ, suc, ◌+◌, ◌<◌, ◌==◌, Bool, true, false, not, ◌&&◌, cond, List, [], ◌∷◌, ◌++◌, length, map, filter, Option, Some, None, is_none, is_some, IsSome, refl, sym, ap, subst, ◌∙◌, append-nil, append_assoc, eq-eqb, arith}
use Rattle.std.specs.List.{find}
use Rattle.std.proofs.lemmas.Option.{same_Some}
use Rattle.fal_base.specs.declared.key.Key.{Key}
use Rattle.fal_base.specs.Tree.{same_key}
use Rattle.fal_base.proofs.Maps.{same_key_is}
use Rattle.fal_batch.specs.declared.parts.Wanted.{Wanted}
use Rattle.fal_batch.specs.Fate.{Setting, Fate, Skips, Leaves, Waits, Joins, fate}
use Rattle.fal_batch.specs.Keys.{are_distinct}
use Rattle.fal_batch.specs.Plan.{waits_for, waits_for_by}
use Rattle.fal_batch.proofs.Truth.{both_first, both_second, neither_first, neither_second, not_true}
use Rattle.fal_dentry.specs.Walk.{is_among}
use Rattle.fal_node.specs.Gather.{with_fetches}
use Rattle.fal_wait.specs.declared.pending_fetch.PendingFetch.{PendingFetch}
use Rattle.fal_wait.specs.declared.waiting_call.WaitingCall.{WaitingCall}
use Rattle.fal_wait.specs.Lists.{has_number}
use Rattle.fal_wait.specs.Waiting.{WaitList, fetch_of, on_fetch, after_open, waits_on}
use Rattle.fal_story.proofs.Events.Shows.{IsTidy, IsTied}
use Rattle.fal_story.proofs.Lists.Each.{Each, Apart, each_weaker, each_join, each_both}
use Rattle.fal_story.proofs.Lists.Grown.{tells, unequal}
use Rattle.fal_story.proofs.Lists.Members.{IsIn, each_in, each_all, each_map, apart_map, apart_as, apart_push, find_in, map_same, map_itself, map_map, told_same}
use Rattle.fal_story.proofs.Lists.WaitLists.{tickets_of, rising_apart, rising_map, has_ticket}

-- ---- the fetches that are opened

-- whether the call is free and is to wait for the key
abbrev pub is_waiting : Setting → Key → WaitingCall → Bool
is_waiting s key w = is_none w.fetch && waits_for s key w.call

-- the call waits on the fetch of the key where it is to
abbrev pub bound : Setting → Key → ℕ → WaitingCall → WaitingCall
bound s key number w = cond (is_waiting s key w) (record w { fetch = Some number }) w

-- on those of these fetches, which have the next numbers
abbrev pub bound_all : Setting → ℕ → List Wanted → WaitingCall → WaitingCall
bound_all s number [] w = w
bound_all s number (wanted ∷ fetches) w = bound_all s (number + 1) fetches (bound s wanted.key number w)

abbrev pub pending_of : ℕ → List Wanted → List PendingFetch
pending_of number [] = []
pending_of number (wanted ∷ fetches) = record { number = number; key = wanted.key; waiters = wanted.waiters } ∷ pending_of (number + 1) fetches

ticket_bound : (s : Setting) (key : Key) (number : ℕ) (w : WaitingCall) → (bound s key number w).ticket ≡ w.ticket
ticket_bound s key number w = elim (is_waiting s key w) as (λ b. (cond b (record w { fetch = Some number }) w).ticket ≡ w.ticket) [ true ↦ refl | false ↦ refl ]

call_bound : (s : Setting) (key : Key) (number : ℕ) (w : WaitingCall) → (bound s key number w).call ≡ w.call
call_bound s key number w = elim (is_waiting s key w) as (λ b. (cond b (record w { fetch = Some number }) w).call ≡ w.call) [ true ↦ refl | false ↦ refl ]

pub ticket_bound_all : (s : Setting) (number : ℕ) (fetches : List Wanted) (w : WaitingCall) → (bound_all s number fetches w).ticket ≡ w.ticket
ticket_bound_all s number [] w = refl
ticket_bound_all s number (wanted ∷ fetches) w = ticket_bound_all s (number + 1) fetches (bound s wanted.key number w) ∙ ticket_bound s wanted.key number w

pub call_bound_all : (s : Setting) (number : ℕ) (fetches : List Wanted) (w : WaitingCall) → (bound_all s number fetches w).call ≡ w.call
call_bound_all s number [] w = refl
call_bound_all s number (wanted ∷ fetches) w = call_bound_all s (number + 1) fetches (bound s wanted.key number w) ∙ call_bound s wanted.key number w

waits_key : (key : Key) (f : Fate) → waits_for_by key f ≡ true → f ≡ Waits key
waits_key key Skips e = absurd (cc)
waits_key key (Leaves to) e = absurd (cc)
waits_key key (Waits other) e = ap Waits ((same_key_is other key).0 e)
waits_key key (Joins denied parent last keys) e = absurd (cc)

-- a call that waits on a fetch is not free for another
bound_stays : (s : Setting) (number : ℕ) (fetches : List Wanted) (w : WaitingCall) → is_none w.fetch ≡ false → bound_all s number fetches w ≡ w
bound_stays s number [] w e = refl
bound_stays s number (wanted ∷ fetches) w e =
    let here : bound s wanted.key number w ≡ w = ap (λ b. cond (b && waits_for s wanted.key w.call) (record w { fetch = Some number }) w) e in
    ap (bound_all s (number + 1) fetches) here ∙ bound_stays s (number + 1) fetches w e

pub none_free : (b : Bool) (fetch : Option ℕ) → (is_none fetch && b) ≡ true → (fetch ≡ None) × (b ≡ true)
none_free b None e = (refl, e)
none_free b (Some n) e = absurd (cc)

-- a call waits as it did, or was free and waits on one of the new fetches, of the key for which it is to wait
abbrev pub IsBound : Setting → List PendingFetch → WaitingCall → WaitingCall → Type 0
IsBound s fetches was w = (w ≡ was) ⊎ ((was.fetch ≡ None) × ((f : PendingFetch) × (IsIn f fetches × (fate s was.call ≡ Waits f.key) × (w ≡ record was { fetch = Some f.number }))))

pub bound_call : (s : Setting) (fetches : List PendingFetch) (was w : WaitingCall) → IsBound s fetches was w → w.call ≡ was.call
bound_call s fetches was w is = ⊎_elim (λ e. ap (λ (y : WaitingCall). y.call) e) (λ e. ap (λ (y : WaitingCall). y.call) e.1.1.2) is

pub bound_cases : (s : Setting) (number : ℕ) (fetches : List Wanted) (w : WaitingCall) → IsBound s (pending_of number fetches) w (bound_all s number fetches w)
bound_cases s number [] w = inl refl
bound_cases s number (wanted ∷ fetches) w =
    let f : PendingFetch = record { number = number; key = wanted.key; waiters = wanted.waiters } in
    elim (is_waiting s wanted.key w) as (λ b. is_waiting s wanted.key w ≡ b → IsBound s (f ∷ pending_of (number + 1) fetches) w (bound_all s (number + 1) fetches (cond b (record w { fetch = Some number }) w))) [
      | true ↦ λ is.
          let free = none_free (waits_for s wanted.key w.call) w.fetch is in
          inr (free.0, (f, (inl refl, waits_key wanted.key (fate s w.call) free.1, bound_stays s (number + 1) fetches (record w { fetch = Some number }) refl)))
      | false ↦ λ is. ⊎_elim (λ e. inl e) (λ e. inr (e.0, (e.1.0, (inr e.1.1.0, e.1.1.1, e.1.1.2)))) (bound_cases s (number + 1) fetches w)
    ] refl

-- ---- one fetch is opened

-- the waiters of a fetch are the calls that are to wait for its key
abbrev pub IsWanting : Setting → List WaitingCall → Wanted → Type 0
IsWanting s ws wanted = (wanted.waiters ≡ tickets_of (filter (λ w. is_waiting s wanted.key w) ws)) × (0 < length wanted.waiters)

-- the fetch is of a key for which a free call of the list is to wait
abbrev pub IsAsked : Setting → List WaitingCall → PendingFetch → Type 0
IsAsked s ws f = (w : WaitingCall) × (IsIn w ws × (w.fetch ≡ None) × (fate s w.call ≡ Waits f.key))

some_told : (p : WaitingCall → Bool) (ws : List WaitingCall) → 0 < length (tickets_of (filter p ws)) → (w : WaitingCall) × (IsIn w ws × (p w ≡ true))
some_told p [] h = absurd (omega arith)
some_told p (w ∷ ws) h =
    elim (p w) as (λ b. p w ≡ b → 0 < length (tickets_of (cond b (w ∷ filter p ws) (filter p ws))) → (v : WaitingCall) × (IsIn v (w ∷ ws) × (p v ≡ true))) [
      | true ↦ λ is _. (w, (inl refl, is))
      | false ↦ λ _ h. let rest = some_told p ws h in (rest.0, (inr rest.1.0, rest.1.1))
    ] refl h

pub each_asked : (s : Setting) (ws : List WaitingCall) (number : ℕ) (fetches : List Wanted) → Each (IsWanting s ws) fetches → Each (IsAsked s ws) (pending_of number fetches)
each_asked s ws number [] h = tt
each_asked s ws number (wanted ∷ fetches) h =
    let one = some_told (λ w. is_waiting s wanted.key w) ws (subst (λ ts. 0 < length ts) h.0.0 h.0.1) in
    let free = none_free (waits_for s wanted.key one.0.call) one.0.fetch one.1.1 in
    ((one.0, (one.1.0, free.0, waits_key wanted.key (fate s one.0.call) free.1)), each_asked s ws (number + 1) fetches h.1)

opened_is : (s : Setting) (list : WaitList) (wanted : Wanted) → Apart (λ w. w.ticket) list.calls → IsWanting s list.calls wanted
    → after_open list wanted.key wanted.waiters ≡ record list {
      calls = map (λ w. bound s wanted.key list.opened w) list.calls;
      fetches = list.fetches ++ record { number = list.opened; key = wanted.key; waiters = wanted.waiters } ∷ [];
      opened = list.opened + 1;
    }
unfolding after_open
opened_is s list wanted apart h =
    let among : Each (λ w. has_number wanted.waiters w.ticket ≡ is_waiting s wanted.key w) list.calls =
    subst (λ ts. Each (λ w. has_number ts w.ticket ≡ is_waiting s wanted.key w) list.calls) (sym h.0) (has_ticket (λ w. is_waiting s wanted.key w) list.calls apart) in
    let same : map (λ w. on_fetch list.opened wanted.waiters w) list.calls ≡ map (λ w. bound s wanted.key list.opened w) list.calls =
    map_same (λ w. on_fetch list.opened wanted.waiters w) (λ w. bound s wanted.key list.opened w) list.calls
    (each_weaker _ _ list.calls (λ w is. ap (λ b. cond b (record w { fetch = Some list.opened }) w) is) among) in
    λ i. record list {
      calls = same i;
      fetches = list.fetches ++ record { number = list.opened; key = wanted.key; waiters = wanted.waiters } ∷ [];
      opened = list.opened + 1;
    }

waits_one : (key other : Key) (f : Fate) → waits_for_by key f ≡ true → same_key other key ≡ false → waits_for_by other f ≡ false
waits_one key other Skips e apart = refl
waits_one key other (Leaves to) e apart = refl
waits_one key other (Waits k) e apart =
    elim (same_key k other) as (λ b. same_key k other ≡ b → b ≡ false) [
      | true ↦ λ is. let same : other ≡ key = sym ((same_key_is k other).0 is) ∙ (same_key_is k key).0 e in sym ((same_key_is other key).1 same) ∙ apart
      | false ↦ λ is. refl
    ] refl
waits_one key other (Joins denied parent last keys) e apart = refl

and_false : (a b : Bool) → b ≡ false → (a && b) ≡ false
and_false true b e = e
and_false false b e = refl

-- who is to wait for another key is the same after that
waiting_bound : (s : Setting) (key other : Key) (number : ℕ) (w : WaitingCall) → same_key other key ≡ false → is_waiting s other (bound s key number w) ≡ is_waiting s other w
waiting_bound s key other number w apart =
    elim (is_waiting s key w) as (λ b. is_waiting s key w ≡ b → is_waiting s other (cond b (record w { fetch = Some number }) w) ≡ is_waiting s other w) [
      | true ↦ λ is. sym (and_false (is_none w.fetch) (waits_for s other w.call) (waits_one key other (fate s w.call) (none_free (waits_for s key w.call) w.fetch is).1 apart))
      | false ↦ λ is. refl
    ] refl

abbrev pub keys_of : List Wanted → List Key
keys_of fetches = map (λ wanted. wanted.key) fetches

wanting_after : (s : Setting) (key : Key) (number : ℕ) (ws : List WaitingCall) (fetches : List Wanted) → is_among key (keys_of fetches) ≡ false → Each (IsWanting s ws) fetches
    → Each (IsWanting s (map (λ w. bound s key number w) ws)) fetches
wanting_after s key number ws [] apart h = tt
wanting_after s key number ws (wanted ∷ fetches) apart h =
    let other : same_key wanted.key key ≡ false = neither_first (same_key wanted.key key) (is_among key (keys_of fetches)) apart in
    let same = told_same (λ (w : WaitingCall). w.ticket) (λ w. bound s key number w) (λ w. is_waiting s wanted.key w) (λ w. is_waiting s wanted.key w) ws
    (each_all _ ws (λ w. (waiting_bound s key wanted.key number w other, ticket_bound s key number w))) in
    ((h.0.0 ∙ sym same, h.0.1), wanting_after s key number ws fetches (neither_second (same_key wanted.key key) (is_among key (keys_of fetches)) apart) h.1)

apart_bound : (s : Setting) (key : Key) (number : ℕ) (ws : List WaitingCall) → Apart (λ w. w.ticket) ws → Apart (λ w. w.ticket) (map (λ w. bound s key number w) ws)
apart_bound s key number ws h = apart_map (λ (w : WaitingCall). w.ticket) (λ w. bound s key number w) ws (apart_as _ _ ws (λ w. sym (ticket_bound s key number w)) h)

-- a call that waits on a pending fetch waits on none that is still to come
abbrev IsOld : ℕ → WaitingCall → Type 0
IsOld opened w = (number : ℕ) → w.fetch ≡ Some number → number < opened

waits_not : (opened : ℕ) (fetch : Option ℕ) → ((number : ℕ) → fetch ≡ Some number → number < opened) → waits_on opened fetch ≡ false
waits_not opened None h = refl
waits_not opened (Some number) h = let below = h number refl in unequal number opened (λ e. absurd (omega arith))

-- a fetch that is found among those below the count is below it
found_below : (fs : List PendingFetch) (number opened : ℕ) → Each (λ f. f.number < opened) fs → IsSome (find (λ f. f.number == number) fs) → number < opened
found_below fs number opened h is =
    elim (find (λ f. f.number == number) fs) as (λ o. find (λ f. f.number == number) fs ≡ o → IsSome o → number < opened) [
      | None ↦ λ e some. absurd (cc)
      | Some f ↦ λ e some.
          let found = find_in (λ (g : PendingFetch). g.number == number) fs f e in
          let below = each_in (λ (g : PendingFetch). g.number < opened) fs f h found.1 in
          ⊎_elim (λ t. subst (λ n. n < opened) t.1 below) (λ t. absurd (cc)) (tells f.number number)
    ] refl is

pub old_calls : (list : WaitList) → IsTidy list → Each (IsOld list.opened) list.calls
old_calls list t = each_weaker _ (IsOld list.opened) list.calls (λ w h number e. found_below list.fetches number list.opened t.below (h number e)) t.pending

found_push : (fs : List PendingFetch) (f : PendingFetch) (number : ℕ) → IsSome (find (λ g. g.number == number) fs) → IsSome (find (λ g. g.number == number) (fs ++ f ∷ []))
found_push [] f number h = absurd (cc)
found_push (g ∷ fs) f number h =
    elim (g.number == number) as (λ b. IsSome (cond b (Some g) (find (λ x. x.number == number) fs)) → IsSome (cond b (Some g) (find (λ x. x.number == number) (fs ++ f ∷ [])))) [
      | true ↦ λ e. refl
      | false ↦ λ e. found_push fs f number e
    ] h

found_last : (fs : List PendingFetch) (f : PendingFetch) → IsSome (find (λ g. g.number == f.number) (fs ++ f ∷ []))
found_last [] f = ap (λ b. is_some (cond b (Some f) None)) (eq-eqb f.number f.number refl)
found_last (g ∷ fs) f =
    elim (g.number == f.number) as (λ b. IsSome (cond b (Some g) (find (λ x. x.number == f.number) (fs ++ f ∷ [])))) [
      | true ↦ refl
      | false ↦ found_last fs f
    ]

-- who waits on a pending fetch, once another is opened
waits_bound : (s : Setting) (key : Key) (number m : ℕ) (w : WaitingCall) → m < number → waits_on m (bound s key number w).fetch ≡ waits_on m w.fetch
waits_bound s key number m w below =
    elim (is_waiting s key w) as (λ b. is_waiting s key w ≡ b → waits_on m (cond b (record w { fetch = Some number }) w).fetch ≡ waits_on m w.fetch) [
      | true ↦ λ is. unequal number m (λ e. absurd (omega arith)) ∙ sym (ap (waits_on m) (none_free (waits_for s key w.call) w.fetch is).0)
      | false ↦ λ is. refl
    ] refl

-- and who waits on that
waits_new : (s : Setting) (key : Key) (number : ℕ) (w : WaitingCall) → IsOld number w → waits_on number (bound s key number w).fetch ≡ is_waiting s key w
waits_new s key number w old =
    elim (is_waiting s key w) as (λ b. waits_on number (cond b (record w { fetch = Some number }) w).fetch ≡ b) [
      | true ↦ eq-eqb number number refl
      | false ↦ waits_not number w.fetch old
    ]

pending_bound : (s : Setting) (key : Key) (list : WaitList) (f : PendingFetch) (w : WaitingCall) → f.number ≡ list.opened → ((m : ℕ) → w.fetch ≡ Some m → IsSome (fetch_of list m))
    → (m : ℕ) → (bound s key list.opened w).fetch ≡ Some m → IsSome (find (λ g. g.number == m) (list.fetches ++ f ∷ []))
pending_bound s key list f w number h m =
    elim (is_waiting s key w) as (λ b. (cond b (record w { fetch = Some list.opened }) w).fetch ≡ Some m → IsSome (find (λ g. g.number == m) (list.fetches ++ f ∷ []))) [
      | true ↦ λ e. subst (λ k. IsSome (find (λ g. g.number == k) (list.fetches ++ f ∷ []))) (number ∙ same_Some list.opened m e) (found_last list.fetches f)
      | false ↦ λ e. found_push list.fetches f m (h m e)
    ]

tidy_open : (s : Setting) (list : WaitList) (wanted : Wanted) → IsTidy list → IsWanting s list.calls wanted → IsTidy (after_open list wanted.key wanted.waiters)
tidy_open s list wanted t h =
    let f : PendingFetch = record { number = list.opened; key = wanted.key; waiters = wanted.waiters } in
    let calls = map (λ w. bound s wanted.key list.opened w) list.calls in
    subst IsTidy (sym (opened_is s list wanted (rising_apart list.calls list.tickets t.tickets) h))
    (record {
      tickets = rising_map (λ w. bound s wanted.key list.opened w) (λ w. ticket_bound s wanted.key list.opened w) list.calls list.tickets ∙ t.tickets;
      apart = apart_push (λ (g : PendingFetch). g.number) list.fetches f (each_weaker _ _ list.fetches (λ g below e. absurd (omega arith)) t.below) t.apart;
      below = each_join (λ (g : PendingFetch). g.number < list.opened + 1) list.fetches (f ∷ []) (each_weaker _ _ list.fetches (λ g below. omega arith) t.below) (omega arith, tt);
      pending = each_map _ (λ w. bound s wanted.key list.opened w) list.calls (each_weaker _ _ list.calls (λ w p. pending_bound s wanted.key list f w refl p) t.pending);
      tied = each_join (IsTied calls) list.fetches (f ∷ [])
          (each_both (IsTied list.calls) (λ g. g.number < list.opened) (IsTied calls) list.fetches
          (λ g tied below. (
            tied.0 ∙ sym (told_same (λ (w : WaitingCall). w.ticket) (λ w. bound s wanted.key list.opened w) (λ w. waits_on g.number w.fetch) (λ w. waits_on g.number w.fetch) list.calls
                (each_all _ list.calls (λ w. (waits_bound s wanted.key list.opened g.number w below, ticket_bound s wanted.key list.opened w)))),
            tied.1,
          ))
          t.tied t.below) (
            (
              h.0 ∙ sym (told_same (λ (w : WaitingCall). w.ticket) (λ w. bound s wanted.key list.opened w) (λ w. waits_on list.opened w.fetch) (λ w. is_waiting s wanted.key w) list.calls
                  (each_weaker _ _ list.calls (λ w old. (waits_new s wanted.key list.opened w old, ticket_bound s wanted.key list.opened w)) (old_calls list t))),
              h.1,
            ),
            tt,
          );
    })

-- ---- all fetches are opened

pub with_fetches_is : (s : Setting) (list : WaitList) (fetches : List Wanted) → Apart (λ w. w.ticket) list.calls → are_distinct (keys_of fetches) ≡ true → Each (IsWanting s list.calls) fetches
    → with_fetches list fetches ≡ record list {
      calls = map (λ w. bound_all s list.opened fetches w) list.calls;
      fetches = list.fetches ++ pending_of list.opened fetches;
      opened = list.opened + length fetches;
    }
with_fetches_is s list [] apart distinct h =
    let calls : map (λ (w : WaitingCall). w) list.calls ≡ list.calls = map_itself (λ w. w) list.calls (each_all _ list.calls (λ w. refl)) in
    let none : list.opened + 0 ≡ list.opened = omega arith in
    λ i. record list { calls = sym calls i; fetches = sym (append-nil list.fetches) i; opened = sym none i }
with_fetches_is s list (wanted ∷ fetches) apart distinct h =
    let f : PendingFetch = record { number = list.opened; key = wanted.key; waiters = wanted.waiters } in
    let next : WaitList = record list { calls = map (λ w. bound s wanted.key list.opened w) list.calls; fetches = list.fetches ++ f ∷ []; opened = list.opened + 1 } in
    let alone = not_true (is_among wanted.key (keys_of fetches)) (both_first (not (is_among wanted.key (keys_of fetches))) (are_distinct (keys_of fetches)) distinct) in
    let rest = with_fetches_is s next fetches (apart_bound s wanted.key list.opened list.calls apart) (both_second (not (is_among wanted.key (keys_of fetches))) (are_distinct (keys_of fetches)) distinct)
    (wanting_after s wanted.key list.opened list.calls fetches alone h.1) in
    let calls = map_map (λ w. bound_all s (list.opened + 1) fetches w) (λ w. bound s wanted.key list.opened w) list.calls in
    let all = append_assoc list.fetches (f ∷ []) (pending_of (list.opened + 1) fetches) in
    let count : list.opened + 1 + length fetches ≡ list.opened + suc (length fetches) = omega arith in
    ap (λ l. with_fetches l fetches) (opened_is s list wanted apart h.0) ∙ rest ∙ (λ i. record list { calls = calls i; fetches = all i; opened = count i })

pub tidy_opens : (s : Setting) (list : WaitList) (fetches : List Wanted) → IsTidy list → are_distinct (keys_of fetches) ≡ true → Each (IsWanting s list.calls) fetches → IsTidy (with_fetches list fetches)
tidy_opens s list [] t distinct h = t
tidy_opens s list (wanted ∷ fetches) t distinct h =
    let alone = not_true (is_among wanted.key (keys_of fetches)) (both_first (not (is_among wanted.key (keys_of fetches))) (are_distinct (keys_of fetches)) distinct) in
    let more = both_second (not (is_among wanted.key (keys_of fetches))) (are_distinct (keys_of fetches)) distinct in
    let is = opened_is s list wanted (rising_apart list.calls list.tickets t.tickets) h.0 in
    tidy_opens s (after_open list wanted.key wanted.waiters) fetches (tidy_open s list wanted t h.0) more
    (subst (λ (l : WaitList). Each (IsWanting s l.calls) fetches) (sym is) (wanting_after s wanted.key list.opened list.calls fetches alone h.1))
