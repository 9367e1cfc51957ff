-- What nodes keep, and what clients know, while calls move.
use Rattle.std.proofs.Common.{◌≡◌, ◌≢◌, ◌⊎◌, inl, inr, ⊎_elim, ℕ, ◌==◌, Bool, true, false, not, ◌&&◌, cond, List, [], ◌∷◌, ◌++◌, map, filter, Option, Some, None, is_some, refl, sym, ap, subst, ◌∙◌, append_assoc, eq-eqb}
use mathlib.Core.Path.{fun_ext}
use Rattle.std.specs.Prelude.{if◌then◌else◌, IsTrue}
use Rattle.fal_base.specs.declared.call.CallRec.{CallRec}
use Rattle.fal_base.specs.declared.call.Config.{Config}
use Rattle.fal_client.specs.declared.current.Listing.{Listing}
use Rattle.fal_exec.specs.RowCall.{row_names}
use Rattle.fal_node.specs.declared.batch.Batch.{Batch}
use Rattle.fal_run.specs.declared.call.BatchCall.{BatchCall}
use Rattle.fal_node.specs.Exec.{as_executed}
use Rattle.fal_wait.specs.declared.waiting_call.WaitingCall.{WaitingCall}
use Rattle.fal_wait.specs.Waiting.{off_fetch, waits_on}
use Rattle.fal_story.proofs.Events.Shows.{Held, Heard, IsListed, WaitsAt, PlannedAt, lane_of, planned_lane, pending_calls, calls_in}
use Rattle.fal_story.proofs.Lists.Each.{Apart, each_weaker, each_both, each_without, each_middle, each_join, apart_without, apart_others}
use Rattle.fal_story.proofs.Lists.Grown.{put_all, put_same, put_other}
use Rattle.fal_story.proofs.Lists.Members.{each_map, each_filter, apart_map, apart_filter, apart_push}
use Rattle.fal_story.proofs.Phase.{Phase, Idle, Asked, Waits, Plans, Tells, Lists, IsFor, IsHeld, Runs, Told}
use Rattle.fal_story.proofs.Steps.Moved.{held_for}
use Rattle.fal_story.specs.World.{World, put}

-- ---- phases

pub for_not_idle : (n : ℕ) (p : Phase) → IsFor n p → p ≢ Idle
for_not_idle n Idle h e = absurd h
for_not_idle n (Asked m) h e = cc
for_not_idle n (Waits m f) h e = cc
for_not_idle n (Plans m x) h e = cc
for_not_idle n Runs h e = absurd h
for_not_idle n (Told old new) h e = absurd h
for_not_idle n (Tells answer) h e = absurd h

pub one_node : (m n : ℕ) (p : Phase) → IsFor m p → IsFor n p → m ≡ n
one_node m n Idle a b = absurd a
one_node m n (Asked i) a b = sym a ∙ b
one_node m n (Waits i f) a b = sym a ∙ b
one_node m n (Plans i x) a b = sym a ∙ b
one_node m n Runs a b = absurd a
one_node m n (Told old new) a b = absurd a
one_node m n (Tells answer) a b = absurd a

-- ---- what is kept elsewhere, and what clients know

-- the lanes that are kept stay
pub held_frame : (call : ℕ → CallRec) (phase later : ℕ → Phase) (n : ℕ) (ws : List WaitingCall) (ps : List BatchCall) → ((l : ℕ) → IsHeld n (phase l) → later l ≡ phase l) → Held call phase n ws ps → Held call later n ws ps
held_frame call phase later n ws ps same h = record {
  waiters = each_weaker (WaitsAt call phase n) (WaitsAt call later n) ws (λ w a. (same (lane_of w) (subst (IsHeld n) (sym a.0) refl) ∙ a.0, a.1, a.2, a.3)) h.waiters;
  planned = each_weaker (PlannedAt call phase n) (PlannedAt call later n) ps (λ x a. (same (planned_lane x) (subst (IsHeld n) (sym a.0) refl) ∙ a.0, a.1, a.2)) h.planned;
  waiters_apart = h.waiters_apart;
  planned_apart = h.planned_apart;
}

-- the client of the call does not ask for parts
abbrev pub AsksNone : Phase → Type 0
AsksNone (Tells (Lists point dir)) = ⊥
AsksNone other = Unit {0}

-- that of a call for a node does not
pub for_asks_none : (n : ℕ) (p : Phase) → IsFor n p → AsksNone p
for_asks_none n (Tells answer) h = absurd h
for_asks_none n other h = tt

-- only calls at one node, or on their way to it, move
abbrev pub MovesAt : ℕ → (ℕ → Phase) → (ℕ → Phase) → Type 0
MovesAt n phase later = (l : ℕ) → (later l ≡ phase l) ⊎ (IsFor n (phase l) × (later l ≢ Idle) × AsksNone (later l))

pub others_held : (w : World) (n : ℕ) (call : ℕ → CallRec) (phase later : ℕ → Phase) → MovesAt n phase later
    → ((m : ℕ) → m ≢ n → Held call phase m (w.nodes m).waiting.calls (calls_in (w.nodes m).batches)) → (m : ℕ) → m ≢ n → Held call later m (w.nodes m).waiting.calls (calls_in (w.nodes m).batches)
others_held w n call phase later moves h m ne =
    held_frame call phase later m (w.nodes m).waiting.calls (calls_in (w.nodes m).batches)
    (λ l at. ⊎_elim (λ same. same) (λ y. absurd (ne (one_node m n (phase l) (held_for m (phase l) at) y.0))) (moves l))
    (h m ne)

-- no listing is under way before and after
pub listed_none : (nodes : ℕ) (p q : Phase) (listing : Option Listing) → AsksNone p → AsksNone q → IsListed nodes p listing → IsListed nodes q listing
listed_none nodes p q None was is listed = λ k dir e. subst AsksNone e is
listed_none nodes p q (Some listing) was is listed = absurd (subst AsksNone listed.0 was)

-- clients know of their calls where those move
pub heard_moves : (config : Config) (w : World) (n : ℕ) (call : ℕ → CallRec) (phase later : ℕ → Phase) → MovesAt n phase later → ((l : ℕ) → Heard config call phase l (w.clients l)) → (l : ℕ) → Heard config call later l (w.clients l)
heard_moves config w n call phase later moves h l = record {
  lane = (h l).lane;
  nodes = (h l).nodes;
  left = (h l).left;
  none = λ e. let idle = (h l).none e in ⊎_elim (λ same. same ∙ idle) (λ y. absurd (for_not_idle n (phase l) y.0 idle)) (moves l);
  some = λ current e. let s = (h l).some current e in (
    λ idle. ⊎_elim (λ same. s.0 (sym same ∙ idle)) (λ y. y.1 idle) (moves l),
    s.1,
    s.2,
    ⊎_elim
        (λ same. subst (λ p. IsListed config.nodes p current.listing) (sym same) s.3)
        (λ y. listed_none config.nodes (phase l) (later l) current.listing (for_asks_none n (phase l) y.0) y.2 s.3)
        (moves l),
  );
}

-- ---- a call comes

pub put_moves : (n l : ℕ) (phase : ℕ → Phase) (q : Phase) → IsFor n (phase l) → q ≢ Idle → AsksNone q → MovesAt n phase (put phase l q)
put_moves n l phase q at some none m = put_all (λ i p. (p ≡ phase i) ⊎ (IsFor n (phase i) × (p ≢ Idle) × AsksNone p)) phase l q (inr (at, some, none)) (λ i _. inl refl) m

pub held_comes : (call : ℕ → CallRec) (phase : ℕ → Phase) (n : ℕ) (ws : List WaitingCall) (w : WaitingCall) (ps : List BatchCall) → n ≢ 255 → (IsHeld n (phase (lane_of w)) → ⊥) → w.call ≡ call (lane_of w) → IsTrue (is_some (row_names w.call.op)) → Held call phase n ws ps
    → Held call (put phase (lane_of w) (Waits n w.fetch)) n (ws ++ w ∷ []) ps
held_comes call phase n ws w ps other free same rows h =
    let l = lane_of w in
    let q = Waits n w.fetch in
    let later = put phase l q in
    let others = each_weaker (WaitsAt call phase n) (λ y. lane_of y ≢ l) ws (λ y a e. free (subst (IsHeld n) (sym a.0 ∙ ap phase e) refl)) h.waiters in
    let w_at : WaitsAt call later n w = (put_same phase l q, same, other, rows) in
    record {
      waiters = each_join (WaitsAt call later n) ws (w ∷ [])
          (each_both (WaitsAt call phase n) (λ y. lane_of y ≢ l) (WaitsAt call later n) ws (λ y a ne. (put_other phase l q (lane_of y) ne ∙ a.0, a.1, a.2, a.3)) h.waiters others) (w_at, tt);
      planned = each_weaker (PlannedAt call phase n) (PlannedAt call later n) ps (λ y a. (put_other phase l q (planned_lane y) (λ e. free (subst (IsHeld n) (sym a.0 ∙ ap phase e) refl)) ∙ a.0, a.1, a.2)) h.planned;
      waiters_apart = apart_push lane_of ws w others h.waiters_apart;
      planned_apart = h.planned_apart;
    }

-- ---- a fetch is settled

-- the call waits on this fetch
abbrev pub is_on : ℕ → ℕ → Phase → Bool
is_on n number Idle = false
is_on n number (Asked m) = false
is_on n number (Waits m fetch) = (m == n) && waits_on number fetch
is_on n number (Plans m x) = false
is_on n number Runs = false
is_on n number (Told old new) = false
is_on n number (Tells answer) = false

-- a call that waits on this fetch goes on to another place
abbrev pub moved_off : ℕ → ℕ → Phase → Phase → Phase
moved_off n number q p = if is_on n number p then q else p

abbrev pub off_all : ℕ → ℕ → Phase → (ℕ → Phase) → ℕ → Phase
off_all n number q phase l = moved_off n number q (phase l)

-- a waiting call is on the fetch by its phase where it is by its entry
pub on_is : (call : ℕ → CallRec) (phase : ℕ → Phase) (n number : ℕ) (w : WaitingCall) → WaitsAt call phase n w → is_on n number (phase (lane_of w)) ≡ waits_on number w.fetch
on_is call phase n number w a = ap (is_on n number) a.0 ∙ ap (λ b. b && waits_on number w.fetch) (eq-eqb n n refl)

lane_off : (number : ℕ) (w : WaitingCall) → lane_of (off_fetch number w) ≡ lane_of w
lane_off number w = elim (waits_on number w.fetch) as (λ b. lane_of (cond b (record w { fetch = None }) w) ≡ lane_of w) [ true ↦ refl | false ↦ refl ]

freed_at : (call : ℕ → CallRec) (phase : ℕ → Phase) (n number : ℕ) (w : WaitingCall) → WaitsAt call phase n w → WaitsAt call (off_all n number (Waits n None) phase) n (off_fetch number w)
freed_at call phase n number w a =
    elim (waits_on number w.fetch) as (λ b. is_on n number (phase (lane_of w)) ≡ b → WaitsAt call (off_all n number (Waits n None) phase) n (cond b (record w { fetch = None }) w)) [
      | true ↦ λ on. (ap (λ b. cond b (Waits n None) (phase (lane_of w))) on, a.1, a.2, a.3)
      | false ↦ λ on. (ap (λ b. cond b (Waits n None) (phase (lane_of w))) on ∙ a.0, a.1, a.2, a.3)
    ] (on_is call phase n number w a)

left_at : (call : ℕ → CallRec) (phase : ℕ → Phase) (n number : ℕ) (q : Phase) (w : WaitingCall) → WaitsAt call phase n w → not (waits_on number w.fetch) ≡ true → WaitsAt call (off_all n number q phase) n w
left_at call phase n number q w a off =
    let no_more : waits_on number w.fetch ≡ false = unnot (waits_on number w.fetch) off in
    (ap (λ b. cond b q (phase (lane_of w))) (on_is call phase n number w a ∙ no_more) ∙ a.0, a.1, a.2, a.3)
  where
    unnot : (b : Bool) → not b ≡ true → b ≡ false
    unnot true e = absurd (cc)
    unnot false e = refl

planned_off : (call : ℕ → CallRec) (phase : ℕ → Phase) (n number : ℕ) (q : Phase) (x : BatchCall) → PlannedAt call phase n x → PlannedAt call (off_all n number q phase) n x
planned_off call phase n number q x a = (ap (λ b. cond b q (phase (planned_lane x))) (ap (is_on n number) a.0) ∙ a.0, a.1, a.2)

pub held_freed : (call : ℕ → CallRec) (phase : ℕ → Phase) (n number : ℕ) (ws : List WaitingCall) (ps : List BatchCall) → Held call phase n ws ps
    → Held call (off_all n number (Waits n None) phase) n (map (λ w. off_fetch number w) ws) ps
held_freed call phase n number ws ps h = record {
  waiters = each_map (WaitsAt call (off_all n number (Waits n None) phase) n) (λ w. off_fetch number w) ws (each_weaker (WaitsAt call phase n) _ ws (λ w a. freed_at call phase n number w a) h.waiters);
  planned = each_weaker (PlannedAt call phase n) (PlannedAt call (off_all n number (Waits n None) phase) n) ps (λ x a. planned_off call phase n number (Waits n None) x a) h.planned;
  waiters_apart = apart_map lane_of (λ w. off_fetch number w) ws (subst (λ f. Apart f ws) (fun_ext (λ w. sym (lane_off number w))) h.waiters_apart);
  planned_apart = h.planned_apart;
}

pub held_left : (call : ℕ → CallRec) (phase : ℕ → Phase) (n number : ℕ) (q : Phase) (ws : List WaitingCall) (ps : List BatchCall) → Held call phase n ws ps
    → Held call (off_all n number q phase) n (filter (λ w. not (waits_on number w.fetch)) ws) ps
held_left call phase n number q ws ps h = record {
  waiters = each_filter (WaitsAt call (off_all n number q phase) n) (λ w. not (waits_on number w.fetch)) ws (each_weaker (WaitsAt call phase n) _ ws (λ w a off. left_at call phase n number q w a off) h.waiters);
  planned = each_weaker (PlannedAt call phase n) (PlannedAt call (off_all n number q phase) n) ps (λ x a. planned_off call phase n number q x a) h.planned;
  waiters_apart = apart_filter lane_of (λ w. not (waits_on number w.fetch)) ws h.waiters_apart;
  planned_apart = h.planned_apart;
}

-- ---- a planned call is done

pub held_done : (call : ℕ → CallRec) (phase : ℕ → Phase) (n : ℕ) (ws : List WaitingCall) (xs : List BatchCall) (x : BatchCall) (ys : List BatchCall) (q : Phase) → Held call phase n ws (xs ++ x ∷ ys)
    → Held call (put phase (planned_lane x) q) n ws (xs ++ ys)
held_done call phase n ws xs x ys q h =
    let l = planned_lane x in
    let later = put phase l q in
    let me = (each_middle (PlannedAt call phase n) xs x ys h.planned).0 in
    record {
      waiters = each_weaker (WaitsAt call phase n) (WaitsAt call later n) ws (λ y a. (put_other phase l q (lane_of y) (λ e. let z = ap phase e in cc) ∙ a.0, a.1, a.2, a.3)) h.waiters;
      planned = each_both (PlannedAt call phase n) (λ y. planned_lane y ≢ l) (PlannedAt call later n) (xs ++ ys) (λ y a ne. (put_other phase l q (planned_lane y) ne ∙ a.0, a.1, a.2))
          (each_without (PlannedAt call phase n) xs x ys h.planned) (apart_others planned_lane xs x ys h.planned_apart);
      waiters_apart = h.waiters_apart;
      planned_apart = apart_without planned_lane xs x ys h.planned_apart;
    }

-- ---- a batch is executed

held_drop : (call : ℕ → CallRec) (phase : ℕ → Phase) (n : ℕ) (ws : List WaitingCall) (xs ys zs : List BatchCall) → Held call phase n ws (xs ++ (ys ++ zs)) → Held call phase n ws (xs ++ zs)
held_drop call phase n ws xs [] zs h = h
held_drop call phase n ws xs (y ∷ ys) zs h = held_drop call phase n ws xs ys zs (record {
  waiters = h.waiters;
  planned = each_without (PlannedAt call phase n) xs y (ys ++ zs) h.planned;
  waiters_apart = h.waiters_apart;
  planned_apart = apart_without planned_lane xs y (ys ++ zs) h.planned_apart;
})

-- calls of batches that are marked are no longer kept as planned
pub held_marked : (call : ℕ → CallRec) (phase : ℕ → Phase) (n number : ℕ) (ws : List WaitingCall) (xs : List BatchCall) (bs : List Batch) → Held call phase n ws (xs ++ calls_in bs)
    → Held call phase n ws (xs ++ calls_in (map (as_executed number) bs))
held_marked call phase n number ws xs [] h = h
held_marked call phase n number ws xs (b ∷ bs) h =
    elim (b.number == number) as (λ t. Held call phase n ws (xs ++ (pending_calls (cond t (record b { executed = true }) b) ++ calls_in (map (as_executed number) bs)))) [
      | true ↦ held_marked call phase n number ws xs bs (held_drop call phase n ws xs (pending_calls b) (calls_in bs) h)
      | false ↦
          let moved = subst (Held call phase n ws) (sym (append_assoc xs (pending_calls b) (calls_in bs))) h in
          subst (Held call phase n ws) (append_assoc xs (pending_calls b) (calls_in (map (as_executed number) bs))) (held_marked call phase n number ws (xs ++ pending_calls b) bs moved)
    ]
