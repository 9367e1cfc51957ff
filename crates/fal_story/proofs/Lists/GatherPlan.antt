-- What a node's plan for its free calls does: the records ask for directories and speak of the calls that leave; each call that leaves or is planned is a free one with that fate.
use Rattle.std.proofs.Common.{◌≡◌, ◌≢◌, ◌⊎◌, inl, inr, ⊎_elim, ℕ, ◌<◌, nat_lt, Bool, true, false, ◌||◌, cond, List, [], ◌∷◌, ◌++◌, length, filter_map, Option, Some, None, refl, sym, ap, subst, ◌∙◌, append-nil, arith}
use Rattle.std.proofs.lemmas.List.Elements.{filter_map-append}
use Rattle.fal_base.specs.declared.key.Key.{Key}
use Rattle.fal_base.specs.Tree.{same_key}
use Rattle.fal_batch.specs.declared.parts.Away.{Away}
use Rattle.fal_batch.specs.declared.parts.Planned.{Planned}
use Rattle.fal_batch.specs.declared.parts.Sending.{Sending}
use Rattle.fal_batch.specs.declared.parts.Sending.TheVariants as sending
use Rattle.fal_batch.specs.declared.parts.Wanted.{Wanted}
use Rattle.fal_batch.specs.Fate.{Setting, Fate, Skips, Leaves, Waits, Joins, fate}
use Rattle.fal_batch.specs.Plan.{Planning, with_away, with_wait, with_planned, with_waiter, is_wanted, after_fate, plan_one, plan_calls}
use Rattle.fal_wait.specs.declared.waiting_call.WaitingCall.{WaitingCall}
use Rattle.fal_story.proofs.Lists.Each.{Each, Apart, each_join, each_both}
use Rattle.fal_story.proofs.Lists.Members.{IsIn, apart_push}
use Rattle.fal_story.proofs.Lists.OpenedFetches.{keys_of}

-- ---- the records

abbrev pub asked_of : Sending → Option Key
asked_of (sending.Away away) = None
asked_of (sending.Fetch key) = Some key

abbrev pub away_of : Sending → Option Away
away_of (sending.Away away) = Some away
away_of (sending.Fetch key) = None

put_before : (x : Key) (y : Key) (xs : List Key) (b : Bool) → cond b (x ∷ xs) (x ∷ xs ++ y ∷ []) ≡ x ∷ cond b xs (xs ++ y ∷ [])
put_before x y xs true = refl
put_before x y xs false = refl

keys_with : (fetches : List Wanted) (key : Key) (ticket : ℕ) → cond (is_wanted fetches key) (keys_of fetches) (keys_of fetches ++ key ∷ []) ≡ keys_of (with_waiter fetches key ticket)
keys_with [] key ticket = refl
keys_with (w ∷ ws) key ticket =
    elim (same_key w.key key) as (λ b. cond (b || is_wanted ws key) (keys_of (w ∷ ws)) (keys_of (w ∷ ws) ++ key ∷ [])
    ≡ keys_of (cond b (record w { waiters = w.waiters ++ ticket ∷ [] } ∷ ws) (w ∷ with_waiter ws key ticket))) [
      | true ↦ refl
      | false ↦ put_before w.key key (keys_of ws) (is_wanted ws key) ∙ ap (λ xs. w.key ∷ xs) (keys_with ws key ticket)
    ]

some_push : {A : Type 0} (xs : List A) (x : A) → 0 < length (xs ++ x ∷ [])
some_push [] x = omega arith
some_push (y ∷ ys) x = omega arith

abbrev pub HasWaiters : Wanted → Type 0
HasWaiters wanted = 0 < length wanted.waiters

some_with : (fetches : List Wanted) (key : Key) (ticket : ℕ) → Each HasWaiters fetches → Each HasWaiters (with_waiter fetches key ticket)
some_with [] key ticket h = (omega arith, tt)
some_with (w ∷ ws) key ticket h =
    elim (same_key w.key key) as (λ b. Each HasWaiters (cond b (record w { waiters = w.waiters ++ ticket ∷ [] } ∷ ws) (w ∷ with_waiter ws key ticket))) [
      | true ↦ (some_push w.waiters ticket, h.1)
      | false ↦ (h.0, some_with ws key ticket h.1)
    ]

-- the records are those of the fetches, each of which has waiters, and of the calls that leave
pub record IsGoing (p : Planning) : Type 0 where
  pub asked : filter_map asked_of p.sends ≡ keys_of p.fetches
  pub away : filter_map away_of p.sends ≡ p.away
  pub some : Each HasWaiters p.fetches

going_wait : (p : Planning) (key : Key) (ticket : ℕ) → IsGoing p → IsGoing (with_wait p key ticket)
unfolding with_wait
going_wait p key ticket g = record {
  asked = asks (is_wanted p.fetches key) ∙ keys_with p.fetches key ticket;
  away = none (is_wanted p.fetches key);
  some = some_with p.fetches key ticket g.some;
}
  where
    asks : (b : Bool) → filter_map asked_of (cond b p.sends (p.sends ++ sending.Fetch key ∷ [])) ≡ cond b (keys_of p.fetches) (keys_of p.fetches ++ key ∷ [])
    asks true = g.asked
    asks false = filter_map-append asked_of p.sends (sending.Fetch key ∷ []) ∙ ap (λ ks. ks ++ key ∷ []) g.asked

    none : (b : Bool) → filter_map away_of (cond b p.sends (p.sends ++ sending.Fetch key ∷ [])) ≡ p.away
    none true = g.away
    none false = filter_map-append away_of p.sends (sending.Fetch key ∷ []) ∙ append-nil (filter_map away_of p.sends) ∙ g.away

going_fate : (limit : ℕ) (p : Planning) (ticket : ℕ) (f : Fate) → IsGoing p → IsGoing (after_fate limit p ticket f)
unfolding with_away with_planned
going_fate limit p ticket Skips g = g
going_fate limit p ticket (Leaves to) g =
    let away : Away = record { ticket = ticket; to = to } in
    record {
      asked = filter_map-append asked_of p.sends (sending.Away away ∷ []) ∙ append-nil (filter_map asked_of p.sends) ∙ g.asked;
      away = filter_map-append away_of p.sends (sending.Away away ∷ []) ∙ ap (λ xs. xs ++ away ∷ []) g.away;
      some = g.some;
    }
going_fate limit p ticket (Waits key) g = going_wait p key ticket g
going_fate limit p ticket (Joins denied parent last keys) g =
    elim (nat_lt (length p.calls) limit) as (λ b. IsGoing (cond b (with_planned p (record { ticket = ticket; denied = denied; parent = parent; last = last }) keys) p)) [
      | true ↦ record { asked = g.asked; away = g.away; some = g.some }
      | false ↦ g
    ]

going_one : (s : Setting) (p : Planning) (w : WaitingCall) → IsGoing p → IsGoing (plan_one s p w)
unfolding plan_one
going_one s p w g = going_fate s.limit p w.ticket (fate s w.call) g

pub going_calls : (s : Setting) (p : Planning) (ws : List WaitingCall) → IsGoing p → IsGoing (plan_calls s p ws)
going_calls s p [] g = g
going_calls s p (w ∷ ws) g = going_calls s (plan_one s p w) ws (going_one s p w g)

-- ---- the calls that go into a list of the plan

-- it is made for a free call of these, as that call's fate says
abbrev pub Picked : {A : Type 0} → (WaitingCall → A → Type 0) → List WaitingCall → A → Type 0
Picked Is all x = (w : WaitingCall) × (IsIn w all × (w.fetch ≡ None) × Is w x)

-- at each call the list stays as it is, or one is added that is the call's
abbrev Adds : {A : Type 0} → Setting → (Planning → List A) → (WaitingCall → A → Type 0) → Type 0
Adds {A} s get Is = (p : Planning) (w : WaitingCall) → (get (plan_one s p w) ≡ get p) ⊎ ((x : A) × (Is w x × (get (plan_one s p w) ≡ get p ++ x ∷ [])))

picked_calls : {A : Type 0} (s : Setting) (get : Planning → List A) (Is : WaitingCall → A → Type 0) → Adds s get Is → (all : List WaitingCall) (p : Planning) (ws : List WaitingCall)
    → Each (λ w. IsIn w all × (w.fetch ≡ None)) ws → Each (Picked Is all) (get p) → Each (Picked Is all) (get (plan_calls s p ws))
picked_calls s get Is adds all p [] h j = j
picked_calls s get Is adds all p (w ∷ ws) h j =
    picked_calls s get Is adds all (plan_one s p w) ws h.1
    (⊎_elim
    (λ e. subst (Each (Picked Is all)) (sym e) j)
    (λ e. subst (Each (Picked Is all)) (sym e.1.1) (each_join (Picked Is all) (get p) (e.0 ∷ []) j ((w, (h.0.0, h.0.1, e.1.0)), tt)))
    (adds p w))

apart_picked : {A : Type 0} (s : Setting) (get : Planning → List A) (Is : WaitingCall → A → Type 0) (ticket : A → ℕ) → Adds s get Is → ((w : WaitingCall) (x : A) → Is w x → w.ticket ≡ ticket x)
    → (p : Planning) (ws : List WaitingCall) → Each (λ w. Each (λ x. ticket x ≢ w.ticket) (get p)) ws → Apart (λ w. w.ticket) ws → Apart ticket (get p) → Apart ticket (get (plan_calls s p ws))
apart_picked s get Is ticket adds same p [] h k a = a
apart_picked {A} s get Is ticket adds same p (w ∷ ws) h k a =
    ⊎_elim
    (λ e. apart_picked s get Is ticket adds same (plan_one s p w) ws (subst (λ (xs : List A). Each (λ v. Each (λ x. ticket x ≢ v.ticket) xs) ws) (sym e) h.1) k.1 (subst (Apart ticket) (sym e) a))
    (λ e.
    let here : w.ticket ≡ ticket e.0 = same w e.0 e.1.0 in
    let apart = each_both _ _ _ ws (λ v hs ne. each_join (λ x. ticket x ≢ v.ticket) (get p) (e.0 ∷ []) hs (λ one. ne (sym (here ∙ one)), tt)) h.1 k.0 in
    apart_picked s get Is ticket adds same (plan_one s p w) ws (subst (λ (xs : List A). Each (λ v. Each (λ x. ticket x ≢ v.ticket) xs) ws) (sym e.1.1) apart) k.1
    (subst (Apart ticket) (sym e.1.1) (apart_push ticket (get p) e.0 (subst (λ t. Each (λ x. ticket x ≢ t) (get p)) here h.0) a)))
    (adds p w)

-- ---- the calls that join the batch

-- the planned call is a free one that joins
abbrev pub IsJoining : Setting → WaitingCall → Planned → Type 0
IsJoining s w x = (w.ticket ≡ x.ticket) × ((keys : List Key) × (fate s w.call ≡ Joins x.denied x.parent x.last keys))

joins_fate : (s : Setting) (p : Planning) (w : WaitingCall) (f : Fate) → fate s w.call ≡ f
    → ((after_fate s.limit p w.ticket f).calls ≡ p.calls) ⊎ ((x : Planned) × (IsJoining s w x × ((after_fate s.limit p w.ticket f).calls ≡ p.calls ++ x ∷ [])))
unfolding with_away with_wait with_planned
joins_fate s p w Skips is = inl refl
joins_fate s p w (Leaves to) is = inl refl
joins_fate s p w (Waits key) is = inl refl
joins_fate s p w (Joins denied parent last keys) is =
    let x : Planned = record { ticket = w.ticket; denied = denied; parent = parent; last = last } in
    elim (nat_lt (length p.calls) s.limit) as (λ b. ((cond b (with_planned p x keys) p).calls ≡ p.calls) ⊎ ((x : Planned) × (IsJoining s w x × ((cond b (with_planned p (record { ticket = w.ticket; denied = denied; parent = parent; last = last }) keys) p).calls ≡ p.calls ++ x ∷ [])))) [
      | true ↦ inr (x, ((refl, (keys, is)), refl))
      | false ↦ inl refl
    ]

joins_one : (s : Setting) → Adds s (λ p. p.calls) (IsJoining s)
unfolding plan_one
joins_one s p w = joins_fate s p w (fate s w.call) refl

abbrev pub Joining : Setting → List WaitingCall → Planned → Type 0
Joining s all x = Picked (IsJoining s) all x

pub joining_calls : (s : Setting) (all : List WaitingCall) (p : Planning) (ws : List WaitingCall) → Each (λ w. IsIn w all × (w.fetch ≡ None)) ws → Each (Joining s all) p.calls → Each (Joining s all) (plan_calls s p ws).calls
joining_calls s = picked_calls s (λ p. p.calls) (IsJoining s) (joins_one s)

pub apart_calls : (s : Setting) (p : Planning) (ws : List WaitingCall) → Each (λ w. Each (λ x. x.ticket ≢ w.ticket) p.calls) ws → Apart (λ w. w.ticket) ws → Apart (λ x. x.ticket) p.calls
    → Apart (λ x. x.ticket) (plan_calls s p ws).calls
apart_calls s = apart_picked s (λ p. p.calls) (IsJoining s) (λ (x : Planned). x.ticket) (joins_one s) (λ w x is. is.0)

-- ---- the calls that leave

-- it is a free call's that leaves
abbrev pub IsLeaving : Setting → WaitingCall → Away → Type 0
IsLeaving s w a = (w.ticket ≡ a.ticket) × (fate s w.call ≡ Leaves a.to)

leaves_fate : (s : Setting) (p : Planning) (w : WaitingCall) (f : Fate) → fate s w.call ≡ f
    → ((after_fate s.limit p w.ticket f).away ≡ p.away) ⊎ ((a : Away) × (IsLeaving s w a × ((after_fate s.limit p w.ticket f).away ≡ p.away ++ a ∷ [])))
unfolding with_away with_wait with_planned
leaves_fate s p w Skips is = inl refl
leaves_fate s p w (Leaves to) is = inr (record { ticket = w.ticket; to = to }, ((refl, is), refl))
leaves_fate s p w (Waits key) is = inl refl
leaves_fate s p w (Joins denied parent last keys) is =
    elim (nat_lt (length p.calls) s.limit) as (λ b. ((cond b (with_planned p (record { ticket = w.ticket; denied = denied; parent = parent; last = last }) keys) p).away ≡ p.away)
    ⊎ ((a : Away) × (IsLeaving s w a × ((cond b (with_planned p (record { ticket = w.ticket; denied = denied; parent = parent; last = last }) keys) p).away ≡ p.away ++ a ∷ [])))) [
      | true ↦ inl refl
      | false ↦ inl refl
    ]

leaves_one : (s : Setting) → Adds s (λ p. p.away) (IsLeaving s)
unfolding plan_one
leaves_one s p w = leaves_fate s p w (fate s w.call) refl

abbrev pub Leaving : Setting → List WaitingCall → Away → Type 0
Leaving s all a = Picked (IsLeaving s) all a

pub leaving_calls : (s : Setting) (all : List WaitingCall) (p : Planning) (ws : List WaitingCall) → Each (λ w. IsIn w all × (w.fetch ≡ None)) ws → Each (Leaving s all) p.away → Each (Leaving s all) (plan_calls s p ws).away
leaving_calls s = picked_calls s (λ p. p.away) (IsLeaving s) (leaves_one s)

pub apart_away : (s : Setting) (p : Planning) (ws : List WaitingCall) → Each (λ w. Each (λ a. a.ticket ≢ w.ticket) p.away) ws → Apart (λ w. w.ticket) ws → Apart (λ a. a.ticket) p.away
    → Apart (λ a. a.ticket) (plan_calls s p ws).away
apart_away s = apart_picked s (λ p. p.away) (IsLeaving s) (λ (a : Away). a.ticket) (leaves_one s) (λ w a is. is.0)
