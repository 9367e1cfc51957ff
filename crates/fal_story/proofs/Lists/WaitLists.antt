-- Tidy waiting lists: what they are after a call is admitted, after a fetch is settled, and after its waiters have left.
use Rattle.std.proofs.Common.{◌≡◌, ◌≢◌, ⊎_elim, ℕ, ◌+◌, ◌<◌, ◌==◌, nat_lt, Bool, true, false, not, ◌&&◌, ◌||◌, cond, List, [], ◌∷◌, ◌++◌, map, filter, Option, Some, None, is_some, IsSome, refl, sym, ap, subst, ◌∙◌, append-nil, eq-eqb, arith}
use Rattle.std.specs.Prelude.{slice_get}
use Rattle.std.specs.List.{list_all}
use Rattle.std.specs.Option.{option_map}
use Rattle.std.proofs.lemmas.Bool.Decides.{nat_tests}
use Rattle.std.proofs.lemmas.Option.{same_Some}
use Rattle.fal_wire.specs.Letters.{reply_letter}
use Rattle.fal_base.specs.declared.call.CallRec.{CallRec}
use Rattle.fal_base.specs.declared.event.Point.TheVariants.{Carried}
use Rattle.fal_base.specs.declared.reply.Errno.{Errno}
use Rattle.fal_base.specs.declared.reply.Reply.TheVariants.{Fail}
use Rattle.fal_batch.proofs.Truth.{both, both_first, both_second}
use Rattle.fal_node.specs.Deliver.{without_calls, refusal, refusals}
use Rattle.fal_wait.specs.declared.pending_fetch.PendingFetch.{PendingFetch}
use Rattle.fal_wait.specs.declared.waiting_call.WaitingCall.{WaitingCall}
use Rattle.fal_wait.specs.Lists.{without_first, has_number}
use Rattle.fal_wait.specs.Waiting.{are_rising, WaitList, call_with_ticket, fetch_of, is_new, with_call, after_admit, without_call, off_fetch, waits_on, without_fetch, settled_by, after_settle}
use Rattle.fal_story.proofs.Events.Shows.{IsTidy, IsTied, askings_of}
use Rattle.fal_story.proofs.Lists.Each.{Each, Apart, each_weaker, each_join, each_both}
use Rattle.fal_story.proofs.Lists.Grown.{tells, unequal}
use Rattle.fal_story.proofs.Lists.Members.{in_at, at_in, each_in, each_by, each_all, each_map, each_filter, each_of_all, find_in, find_apart, find_other, in_map, filter_join, filter_filter, filter_all, kept_same, told_same, each_without_first, apart_without_first, gone_apart, gone_is_filter, in_without_first}
use Rattle.fal_story.proofs.View.{Asking}

-- ---- tickets that rise

below_apart : (a b : ℕ) → nat_lt a b ≡ true → b ≢ a
below_apart a b h e = absurd (grind (arith, nat_tests))

pub rising_apart : (ws : List WaitingCall) (end : ℕ) → are_rising ws end ≡ true → Apart (λ w. w.ticket) ws
rising_apart [] end h = tt
rising_apart (w ∷ ws) end h =
    let later = both_first (list_all (λ x. nat_lt w.ticket x.ticket) ws) (nat_lt w.ticket end && are_rising ws end) h in
    let more = both_second (list_all (λ x. nat_lt w.ticket x.ticket) ws) (nat_lt w.ticket end && are_rising ws end) h in
    (each_weaker _ _ ws (λ x below. below_apart w.ticket x.ticket below) (each_of_all (λ x. nat_lt w.ticket x.ticket) ws later), rising_apart ws end (both_second (nat_lt w.ticket end) (are_rising ws end) more))

all_map : {X : Type 0} (p : X → Bool) (f : X → X) → ((x : X) → p (f x) ≡ p x) → (xs : List X) → list_all p (map f xs) ≡ list_all p xs
all_map p f same [] = refl
all_map p f same (x ∷ xs) = λ i. same x i && all_map p f same xs i

pub rising_map : (f : WaitingCall → WaitingCall) → ((w : WaitingCall) → (f w).ticket ≡ w.ticket) → (ws : List WaitingCall) (end : ℕ) → are_rising (map f ws) end ≡ are_rising ws end
rising_map f same [] end = refl
rising_map f same (w ∷ ws) end =
    let later : list_all (λ x. nat_lt (f w).ticket x.ticket) (map f ws) ≡ list_all (λ x. nat_lt w.ticket x.ticket) ws =
    ap (λ n. list_all (λ x. nat_lt n x.ticket) (map f ws)) (same w) ∙ all_map (λ x. nat_lt w.ticket x.ticket) f (λ x. ap (λ n. nat_lt w.ticket n) (same x)) ws in
    λ i. later i && (nat_lt (same w i) end && rising_map f same ws end i)

all_filter : {X : Type 0} (p test : X → Bool) (xs : List X) → list_all p xs ≡ true → list_all p (filter test xs) ≡ true
all_filter p test [] h = h
all_filter p test (x ∷ xs) h =
    let rest = all_filter p test xs (both_second (p x) (list_all p xs) h) in
    elim (test x) as (λ b. list_all p (cond b (x ∷ filter test xs) (filter test xs)) ≡ true) [
      | true ↦ both (p x) (list_all p (filter test xs)) (both_first (p x) (list_all p xs) h) rest
      | false ↦ rest
    ]

rising_filter : (test : WaitingCall → Bool) (ws : List WaitingCall) (end : ℕ) → are_rising ws end ≡ true → are_rising (filter test ws) end ≡ true
rising_filter test [] end h = h
rising_filter test (w ∷ ws) end h =
    let later = both_first (list_all (λ x. nat_lt w.ticket x.ticket) ws) (nat_lt w.ticket end && are_rising ws end) h in
    let more = both_second (list_all (λ x. nat_lt w.ticket x.ticket) ws) (nat_lt w.ticket end && are_rising ws end) h in
    let rest = rising_filter test ws end (both_second (nat_lt w.ticket end) (are_rising ws end) more) in
    elim (test w) as (λ b. are_rising (cond b (w ∷ filter test ws) (filter test ws)) end ≡ true) [
      | true ↦ both (list_all (λ x. nat_lt w.ticket x.ticket) (filter test ws)) (nat_lt w.ticket end && are_rising (filter test ws) end) (all_filter (λ x. nat_lt w.ticket x.ticket) test ws later)
          (both (nat_lt w.ticket end) (are_rising (filter test ws) end) (both_first (nat_lt w.ticket end) (are_rising ws end) more) rest)
      | false ↦ rest
    ]

below_more : (a b : ℕ) → nat_lt a b ≡ true → nat_lt a (b + 1) ≡ true
below_more a b h = grind (arith, nat_tests)

below_next : (a : ℕ) → nat_lt a (a + 1) ≡ true
below_next a = grind (arith, nat_tests)

all_push : {X : Type 0} (p : X → Bool) (xs : List X) (x : X) → list_all p xs ≡ true → p x ≡ true → list_all p (xs ++ x ∷ []) ≡ true
all_push p [] x h k = both (p x) true k refl
all_push p (y ∷ ys) x h k = both (p y) (list_all p (ys ++ x ∷ [])) (both_first (p y) (list_all p ys) h) (all_push p ys x (both_second (p y) (list_all p ys) h) k)

rising_push : (ws : List WaitingCall) (w : WaitingCall) → are_rising ws w.ticket ≡ true → are_rising (ws ++ w ∷ []) (w.ticket + 1) ≡ true
rising_push [] w h = both (nat_lt w.ticket (w.ticket + 1)) true (below_next w.ticket) refl
rising_push (x ∷ xs) w h =
    let later = both_first (list_all (λ y. nat_lt x.ticket y.ticket) xs) (nat_lt x.ticket w.ticket && are_rising xs w.ticket) h in
    let more = both_second (list_all (λ y. nat_lt x.ticket y.ticket) xs) (nat_lt x.ticket w.ticket && are_rising xs w.ticket) h in
    let here = both_first (nat_lt x.ticket w.ticket) (are_rising xs w.ticket) more in
    let rest = both_second (nat_lt x.ticket w.ticket) (are_rising xs w.ticket) more in
    both (list_all (λ y. nat_lt x.ticket y.ticket) (xs ++ w ∷ [])) (nat_lt x.ticket (w.ticket + 1) && are_rising (xs ++ w ∷ []) (w.ticket + 1)) (all_push (λ y. nat_lt x.ticket y.ticket) xs w later here)
    (both (nat_lt x.ticket (w.ticket + 1)) (are_rising (xs ++ w ∷ []) (w.ticket + 1)) (below_more x.ticket w.ticket here) (rising_push xs w rest))

-- ---- tickets of some calls of a list

abbrev pub tickets_of : List WaitingCall → List ℕ
tickets_of ws = map (λ w. w.ticket) ws

no_ticket : (p : WaitingCall → Bool) (ws : List WaitingCall) (ticket : ℕ) → Each (λ w. w.ticket ≢ ticket) ws → has_number (tickets_of (filter p ws)) ticket ≡ false
no_ticket p [] ticket h = refl
no_ticket p (w ∷ ws) ticket h =
    let rest = no_ticket p ws ticket h.1 in
    elim (p w) as (λ b. has_number (tickets_of (cond b (w ∷ filter p ws) (filter p ws))) ticket ≡ false) [
      | true ↦ ap (λ b. b || has_number (tickets_of (filter p ws)) ticket) (unequal w.ticket ticket h.0) ∙ rest
      | false ↦ rest
    ]

-- the tickets of those that pass a test tell whether a call of the list passes
pub has_ticket : (p : WaitingCall → Bool) (ws : List WaitingCall) → Apart (λ w. w.ticket) ws → Each (λ w. has_number (tickets_of (filter p ws)) w.ticket ≡ p w) ws
has_ticket p [] h = tt
has_ticket p (w ∷ ws) h =
    let none = no_ticket p ws w.ticket h.0 in
    let rest = has_ticket p ws h.1 in
    elim (p w) as (λ b. (has_number (tickets_of (cond b (w ∷ filter p ws) (filter p ws))) w.ticket ≡ b) × Each (λ x. has_number (tickets_of (cond b (w ∷ filter p ws) (filter p ws))) x.ticket ≡ p x) ws) [
      | true ↦ (
        ap (λ b. b || has_number (tickets_of (filter p ws)) w.ticket) (eq-eqb w.ticket w.ticket refl),
        each_both _ _ _ ws (λ x is ne. ap (λ b. b || has_number (tickets_of (filter p ws)) x.ticket) (unequal w.ticket x.ticket (λ e. ne (sym e))) ∙ is) rest h.0,
      )
      | false ↦ (none, rest)
    ]

-- by its ticket a call is found
pub call_found : (list : WaitList) → Apart (λ w. w.ticket) list.calls → Each (λ w. call_with_ticket list w.ticket ≡ Some w.call) list.calls
call_found list h = each_by _ list.calls (λ w m. ap (λ o. option_map (λ (v : WaitingCall). v.call) o) (find_apart (λ (v : WaitingCall). v.ticket) list.calls w h m))

-- ---- a call is admitted

tidy_with : (list : WaitList) (call : CallRec) → IsTidy list → IsTidy (with_call list call)
unfolding with_call
tidy_with list call t =
    let w : WaitingCall = record { ticket = list.tickets; call = call; fetch = None } in
    record {
      tickets = rising_push list.calls w t.tickets;
      apart = t.apart;
      below = t.below;
      pending = each_join (λ (x : WaitingCall). (number : ℕ) → x.fetch ≡ Some number → IsSome (fetch_of list number)) list.calls (w ∷ []) t.pending ((λ number e. absurd (cc)), tt);
      tied = each_weaker (IsTied list.calls) (IsTied (list.calls ++ w ∷ [])) list.fetches (λ f h. (h.0 ∙ ap tickets_of (sym (free_waits f.number w list.calls refl)), h.1)) t.tied;
    }
  where
    free_waits : (number : ℕ) (w : WaitingCall) (ws : List WaitingCall) → w.fetch ≡ None → filter (λ x. waits_on number x.fetch) (ws ++ w ∷ []) ≡ filter (λ x. waits_on number x.fetch) ws
    free_waits number w ws free =
        filter_join (λ x. waits_on number x.fetch) ws (w ∷ []) ∙ ap (λ o. filter (λ x. waits_on number x.fetch) ws ++ cond (waits_on number o) (w ∷ []) []) free
        ∙ append-nil (filter (λ x. waits_on number x.fetch) ws)

pub tidy_admit : (list : WaitList) (call : CallRec) → IsTidy list → IsTidy (after_admit list call)
tidy_admit list call t = elim (is_new list call) as (λ b. IsTidy (cond b (with_call list call) list)) [ true ↦ tidy_with list call t | false ↦ t ]

-- ---- a fetch is settled

abbrev off_of : ℕ → Option ℕ → Option ℕ
off_of number fetch = cond (waits_on number fetch) None fetch

ticket_off : (number : ℕ) (w : WaitingCall) → (off_fetch number w).ticket ≡ w.ticket
ticket_off number w = elim (waits_on number w.fetch) as (λ b. (cond b (record w { fetch = None }) w).ticket ≡ w.ticket) [ true ↦ refl | false ↦ refl ]

fetch_off : (number : ℕ) (w : WaitingCall) → (off_fetch number w).fetch ≡ off_of number w.fetch
fetch_off number w = elim (waits_on number w.fetch) as (λ b. (cond b (record w { fetch = None }) w).fetch ≡ cond b None w.fetch) [ true ↦ refl | false ↦ refl ]

off_other : (m number : ℕ) (fetch : Option ℕ) → m ≢ number → waits_on m (off_of number fetch) ≡ waits_on m fetch
off_other m number None ne = refl
off_other m number (Some k) ne =
    ⊎_elim
    (λ e. ap (λ b. waits_on m (cond b None (Some k))) e.0 ∙ sym (unequal k m (λ same. ne (sym same ∙ e.1))))
    (λ e. ap (λ b. waits_on m (cond b None (Some k))) e.0)
    (tells k number)

-- a call that still waits waited on this fetch, which is another
off_still : (m number : ℕ) (fetch : Option ℕ) → off_of number fetch ≡ Some m → (fetch ≡ Some m) × (m ≢ number)
off_still m number None e = absurd (cc)
off_still m number (Some k) e =
    ⊎_elim
    (λ t. let no : None ≡ Some m = sym (ap (λ b. cond b None (Some k)) t.0) ∙ e in absurd (cc))
    (λ t. let is : Some k ≡ Some m = sym (ap (λ b. cond b None (Some k)) t.0) ∙ e in (is, λ same. t.1 (same_Some k m is ∙ same)))
    (tells k number)

tidy_without : (list : WaitList) (number : ℕ) → IsTidy list → IsTidy (without_fetch list number)
unfolding without_fetch
tidy_without list number t =
    record {
      tickets = rising_map (λ w. off_fetch number w) (λ w. ticket_off number w) list.calls list.tickets ∙ t.tickets;
      apart = apart_without_first (λ (f : PendingFetch). f.number) (λ f. f.number == number) list.fetches t.apart;
      below = each_without_first (λ (f : PendingFetch). f.number < list.opened) (λ f. f.number == number) list.fetches t.below;
      pending = each_map (λ (w : WaitingCall). (m : ℕ) → w.fetch ≡ Some m → IsSome (fetch_of (without_fetch list number) m)) (λ w. off_fetch number w) list.calls
          (each_weaker _ _ list.calls (λ w h m e.
          let was = off_still m number w.fetch (sym (fetch_off number w) ∙ e) in
          ap is_some (find_other (λ (f : PendingFetch). f.number) list.fetches m number was.1) ∙ h m was.0) t.pending);
      tied = each_both (IsTied list.calls) (λ f. f.number ≢ number) (IsTied (map (λ w. off_fetch number w) list.calls)) (without_first (λ f. f.number == number) list.fetches)
          (λ f h ne. (
            h.0 ∙ sym (told_same (λ (w : WaitingCall). w.ticket) (λ w. off_fetch number w) (λ w. waits_on f.number w.fetch) (λ w. waits_on f.number w.fetch) list.calls
                (each_all _ list.calls (λ w. (ap (waits_on f.number) (fetch_off number w) ∙ off_other f.number number w.fetch ne, ticket_off number w)))),
            h.1,
          ))
          (each_without_first (IsTied list.calls) (λ f. f.number == number) list.fetches t.tied)
          (gone_apart (λ (f : PendingFetch). f.number) number list.fetches t.apart);
    }

pub tidy_settle : (list : WaitList) (number : ℕ) → IsTidy list → IsTidy (after_settle list number)
tidy_settle list number t = elim (fetch_of list number) as (λ o. IsTidy (settled_by list number o)) [ None ↦ t | Some f ↦ tidy_without list number t ]

-- a fetch that is found has the number
pub found_number : (list : WaitList) (number : ℕ) (f : PendingFetch) → fetch_of list number ≡ Some f → f.number ≡ number
found_number list number f found =
    let is = (find_in (λ (g : PendingFetch). g.number == number) list.fetches f found).0 in
    ⊎_elim (λ e. e.1) (λ e. absurd (cc)) (tells f.number number)

-- and is pending in the view
pub found_asking : (list : WaitList) (number : ℕ) (f : PendingFetch) → fetch_of list number ≡ Some f → (j : ℕ) × (slice_get (askings_of list.fetches) j ≡ Some (record { number = f.number; key = f.key }))
found_asking list number f found =
    at_in (askings_of list.fetches) (record { number = f.number; key = f.key })
    (in_map (λ (g : PendingFetch). record { number = g.number; key = g.key }) list.fetches f (find_in (λ (g : PendingFetch). g.number == number) list.fetches f found).1)

pub settled_calls : (list : WaitList) (number : ℕ) (f : PendingFetch) → fetch_of list number ≡ Some f → (after_settle list number).calls ≡ map (λ w. off_fetch number w) list.calls
unfolding without_fetch
settled_calls list number f found = ap (λ o. (settled_by list number o).calls) found

pub settled_fetches : (list : WaitList) (number : ℕ) (f : PendingFetch) → fetch_of list number ≡ Some f → (after_settle list number).fetches ≡ without_first (λ g. g.number == number) list.fetches
unfolding without_fetch
settled_fetches list number f found = ap (λ o. (settled_by list number o).fetches) found

pub settled_last : (list : WaitList) (number : ℕ) → (after_settle list number).last ≡ list.last
unfolding without_fetch
settled_last list number = elim (fetch_of list number) as (λ o. (settled_by list number o).last ≡ list.last) [ None ↦ refl | Some f ↦ refl ]

pub settled_opened : (list : WaitList) (number : ℕ) → (after_settle list number).opened ≡ list.opened
unfolding without_fetch
settled_opened list number = elim (fetch_of list number) as (λ o. (settled_by list number o).opened ≡ list.opened) [ None ↦ refl | Some f ↦ refl ]

-- the fetches that are left were pending before
pub askings_left : (fetches : List PendingFetch) (number j : ℕ) (a : Asking) → slice_get (askings_of (without_first (λ g. g.number == number) fetches)) j ≡ Some a → (i : ℕ) × (slice_get (askings_of fetches) i ≡ Some a)
askings_left fetches number j a e =
    at_in (askings_of fetches) a (in_without_first (λ (g : PendingFetch). record { number = g.number; key = g.key }) (λ g. g.number == number) fetches a
    (in_at (askings_of (without_first (λ g. g.number == number) fetches)) j a e))

-- ---- calls leave

not_either : (a b : Bool) → (not a && not b) ≡ not (a || b)
not_either true b = refl
not_either false b = refl

equal_turned : (a b : ℕ) → (a == b) ≡ (b == a)
equal_turned a b = grind (arith, nat_tests)

-- without the calls with these tickets
pub withouts_are : (list : WaitList) (tickets : List ℕ) → Apart (λ w. w.ticket) list.calls → without_calls list tickets ≡ record list { calls = filter (λ w. not (has_number tickets w.ticket)) list.calls }
withouts_are list [] h =
    let all : filter (λ (w : WaitingCall). true) list.calls ≡ list.calls = filter_all (λ w. true) list.calls (each_all _ list.calls (λ w. refl)) in
    λ i. record list { calls = sym all i }
withouts_are list (ticket ∷ tickets) h =
    let rest = withouts_are (without_call list ticket) tickets (apart_without_first (λ (w : WaitingCall). w.ticket) (λ w. w.ticket == ticket) list.calls h) in
    let calls : filter (λ w. not (has_number tickets w.ticket)) (without_first (λ w. w.ticket == ticket) list.calls) ≡ filter (λ w. not (has_number (ticket ∷ tickets) w.ticket)) list.calls =
    ap (filter (λ w. not (has_number tickets w.ticket))) (gone_is_filter (λ (w : WaitingCall). w.ticket) ticket list.calls h)
    ∙ filter_filter (λ w. not (w.ticket == ticket)) (λ w. not (has_number tickets w.ticket)) (λ w. not (has_number (ticket ∷ tickets) w.ticket)) list.calls
    (each_all _ list.calls (λ w. not_either (w.ticket == ticket) (has_number tickets w.ticket) ∙ ap (λ b. not (b || has_number tickets w.ticket)) (equal_turned w.ticket ticket)))
    in
    rest ∙ (λ i. record list { calls = calls i })

-- a free call waits on nothing
free_leaves : (b : Bool) (number : ℕ) (fetch : Option ℕ) → (b ≡ true → fetch ≡ None) → (not b && waits_on number fetch) ≡ waits_on number fetch
free_leaves true number fetch free = sym (ap (waits_on number) (free refl))
free_leaves false number fetch free = refl

-- where free calls leave, the list stays tidy
pub tidy_withouts : (list : WaitList) (tickets : List ℕ) → IsTidy list → Each (λ w. has_number tickets w.ticket ≡ true → w.fetch ≡ None) list.calls → IsTidy (without_calls list tickets)
tidy_withouts list tickets t free =
    let stays = λ (w : WaitingCall). not (has_number tickets w.ticket) in
    subst IsTidy (sym (withouts_are list tickets (rising_apart list.calls list.tickets t.tickets)))
    (record {
      tickets = rising_filter stays list.calls list.tickets t.tickets;
      apart = t.apart;
      below = t.below;
      pending = each_filter _ stays list.calls (each_weaker _ _ list.calls (λ w h _. h) t.pending);
      tied = each_weaker (IsTied list.calls) (IsTied (filter stays list.calls)) list.fetches
          (λ f h. (
            h.0 ∙ ap tickets_of (sym (filter_filter stays (λ w. waits_on f.number w.fetch) (λ w. waits_on f.number w.fetch) list.calls
                (each_weaker _ _ list.calls (λ w is. free_leaves (has_number tickets w.ticket) f.number w.fetch is) free))),
            h.1,
          )) t.tied;
    })

-- ---- the waiters of a fetch leave

each_refused : (list : WaitList) (errno : Errno) (point : ℕ) (ws : List WaitingCall) → Each (λ w. call_with_ticket list w.ticket ≡ Some w.call) ws
    → refusals list errno point (tickets_of ws) ≡ map (λ w. reply_letter w.call (Carried point) (Fail errno)) ws
each_refused list errno point [] h = refl
each_refused list errno point (w ∷ ws) h =
    ap (λ o. refusal o errno point ++ refusals list errno point (tickets_of ws)) h.0 ∙ ap (λ ls. reply_letter w.call (Carried point) (Fail errno) ∷ ls) (each_refused list errno point ws h.1)

module _ (list : WaitList) (f : PendingFetch) where
  -- the list when the fetch is settled and its waiters have left
  abbrev pub left : WaitList
  left = without_calls (after_settle list f.number) f.waiters

  -- the waiters are the calls that wait on it
  waiters_are : IsTidy list → fetch_of list f.number ≡ Some f → Each (λ w. has_number f.waiters w.ticket ≡ waits_on f.number w.fetch) list.calls
  waiters_are t found =
      let tied = each_in (IsTied list.calls) list.fetches f t.tied (find_in (λ (g : PendingFetch). g.number == f.number) list.fetches f found).1 in
      subst (λ ts. Each (λ w. has_number ts w.ticket ≡ waits_on f.number w.fetch) list.calls) (sym tied.0)
      (has_ticket (λ w. waits_on f.number w.fetch) list.calls (rising_apart list.calls list.tickets t.tickets))

  left_is : IsTidy list → left ≡ record (after_settle list f.number) { calls = filter (λ w. not (has_number f.waiters w.ticket)) (after_settle list f.number).calls }
  left_is t =
      let s = tidy_settle list f.number t in
      withouts_are (after_settle list f.number) f.waiters (rising_apart (after_settle list f.number).calls (after_settle list f.number).tickets s.tickets)

  pub left_calls : IsTidy list → fetch_of list f.number ≡ Some f → left.calls ≡ filter (λ w. not (waits_on f.number w.fetch)) list.calls
  left_calls t found =
      ap (λ (l : WaitList). l.calls) (left_is t) ∙ ap (filter (λ w. not (has_number f.waiters w.ticket))) (settled_calls list f.number f found)
      ∙ kept_same (λ w. off_fetch f.number w) (λ w. not (has_number f.waiters w.ticket)) (λ w. not (waits_on f.number w.fetch)) list.calls
      (each_weaker _ _ list.calls (λ w is. (ap (λ n. not (has_number f.waiters n)) (ticket_off f.number w) ∙ ap not is, λ stays. off_stays f.number w stays)) (waiters_are t found))
    where
      off_stays : (number : ℕ) (w : WaitingCall) → not (waits_on number w.fetch) ≡ true → off_fetch number w ≡ w
      off_stays number w = elim (waits_on number w.fetch) as (λ b. not b ≡ true → cond b (record w { fetch = None }) w ≡ w) [ true ↦ λ e. absurd (cc) | false ↦ λ e. refl ]

  pub left_fetches : IsTidy list → fetch_of list f.number ≡ Some f → left.fetches ≡ without_first (λ g. g.number == f.number) list.fetches
  left_fetches t found = ap (λ (l : WaitList). l.fetches) (left_is t) ∙ settled_fetches list f.number f found

  pub left_last : IsTidy list → left.last ≡ list.last
  left_last t = ap (λ (l : WaitList). l.last) (left_is t) ∙ settled_last list f.number

  pub left_opened : IsTidy list → left.opened ≡ list.opened
  left_opened t = ap (λ (l : WaitList). l.opened) (left_is t) ∙ settled_opened list f.number

  pub tidy_left : IsTidy list → fetch_of list f.number ≡ Some f → IsTidy left
  tidy_left t found =
      tidy_withouts (after_settle list f.number) f.waiters (tidy_settle list f.number t)
      (subst (Each (λ w. has_number f.waiters w.ticket ≡ true → w.fetch ≡ None)) (sym (settled_calls list f.number f found))
      (each_map (λ (w : WaitingCall). has_number f.waiters w.ticket ≡ true → w.fetch ≡ None) (λ w. off_fetch f.number w) list.calls
      (each_weaker _ _ list.calls (λ w is among. fetch_off f.number w ∙ ap (λ b. cond b None w.fetch) (sym is ∙ ap (has_number f.waiters) (sym (ticket_off f.number w)) ∙ among)) (waiters_are t found))))

  -- each waiter is told, in the order of their arrival
  pub refusals_are : (errno : Errno) (point : ℕ) → IsTidy list → fetch_of list f.number ≡ Some f
      → refusals list errno point f.waiters ≡ map (λ w. reply_letter w.call (Carried point) (Fail errno)) (filter (λ w. waits_on f.number w.fetch) list.calls)
  refusals_are errno point t found =
      let tied = each_in (IsTied list.calls) list.fetches f t.tied (find_in (λ (g : PendingFetch). g.number == f.number) list.fetches f found).1 in
      let calls = call_found list (rising_apart list.calls list.tickets t.tickets) in
      ap (refusals list errno point) tied.0 ∙ each_refused list errno point (filter (λ w. waits_on f.number w.fetch) list.calls) (each_filter _ _ list.calls (each_weaker _ _ list.calls (λ w is _. is) calls))
