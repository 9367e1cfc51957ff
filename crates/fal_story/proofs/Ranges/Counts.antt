-- A run has no more commits than the cluster has calls, and a node no more waiting calls than there are lanes.
use Rattle.std.proofs.Common.{◌≡◌, ◌≢◌, inl, inr, ⊎_elim, ℕ, zero, suc, ◌+◌, ◌<◌, ◌≤◌, false, List, [], ◌∷◌, ◌++◌, length, Option, Some, None, refl, sym, ap, subst, arith}
use Rattle.std.specs.Prelude.{slice_get, sum_by, ◌==◌, IsTrue}
use Rattle.std.proofs.lemmas.Bool.Decides.{nat_tests}
use Rattle.std.proofs.lemmas.List.{length-append}
use Rattle.std.proofs.lemmas.List.Sums.{sum_by-cons}
use Rattle.fal_base.specs.declared.call.Call.{Call}
use Rattle.fal_base.specs.declared.call.Config.{Config}
use Rattle.fal_base.specs.declared.entry.Entry.{Entry}
use Rattle.fal_base.specs.declared.entry.Entry.TheVariants as entry
use Rattle.fal_base.specs.declared.row.Update.{Update}
use Rattle.fal_base.specs.Commits.{Commit}
use Rattle.fal_base.specs.EachOnce.{NotCommitted}
use Rattle.fal_base.specs.Transcript.{numbered, lane_call, call_of, commit_by, commits_of}
use Rattle.fal_locks.specs.declared.holder.Shut.{Shut}
use Rattle.fal_place.specs.Placement.{Placement}
use Rattle.fal_wire.specs.declared.message.Message.{Message}
use Rattle.fal_story.proofs.Drain.Actors.{waiters_there}
use Rattle.fal_story.proofs.Events.Doing.{work_of}
use Rattle.fal_story.proofs.Events.Shows.{Ghost, Shows, lane_of, before_in}
use Rattle.fal_story.proofs.Families.Operation.{Stands}
use Rattle.fal_story.proofs.Lists.Each.{Each, each_weaker, each_join}
use Rattle.fal_story.proofs.Lists.Members.{IsIn, at_in, each_by, in_front}
use Rattle.fal_story.proofs.Lists.Grown.{tells}
use Rattle.fal_story.proofs.Ranges.NoMore.{Differ, no_more}
use Rattle.fal_story.proofs.View.{Work, Rests, Walks, Locks, Counts, Ends, Blocks, Lands}
use Rattle.fal_story.specs.Clusters.{IsCluster, is_lane}
use Rattle.fal_story.specs.World.{World}

-- ---- the calls of a cluster, by lane and number

calls_from : ℕ → ℕ → List Call → List (ℕ × ℕ)
calls_from lane seq [] = []
calls_from lane seq (call ∷ calls) = (lane, seq) ∷ calls_from lane (suc seq) calls

pub lanes_from : ℕ → List (List Call) → List (ℕ × ℕ)
lanes_from lane [] = []
lanes_from lane (calls ∷ lanes) = calls_from lane 1 calls ++ lanes_from (suc lane) lanes

calls_length : (lane seq : ℕ) (calls : List Call) → length (calls_from lane seq calls) ≡ length calls
unfolding calls_from
calls_length lane seq [] = refl
calls_length lane seq (call ∷ calls) = ap suc (calls_length lane (suc seq) calls)

pub lanes_length : (lane : ℕ) (lanes : List (List Call)) → length (lanes_from lane lanes) ≡ sum_by (λ (calls : List Call). length calls) lanes
unfolding lanes_from
lanes_length lane [] = refl
lanes_length lane (calls ∷ lanes) =
    let here = calls_length lane 1 calls in
    let rest = lanes_length (suc lane) lanes in
    let both = length-append (calls_from lane 1 calls) (lanes_from (suc lane) lanes) in
    let sum = sum_by-cons (λ (calls : List Call). length calls) calls lanes in
    omega arith

call_among : (lane seq : ℕ) (calls : List Call) (k : ℕ) (call : Call) → slice_get calls k ≡ Some call → IsIn (lane, seq + k) (calls_from lane seq calls)
unfolding calls_from
call_among lane seq [] k call is = absurd (cc)
call_among lane seq (c ∷ calls) zero call is = inl (let here : seq ≡ seq + zero = omega arith in λ i. (lane, here i))
call_among lane seq (c ∷ calls) (suc k) call is =
    inr (let here : suc seq + k ≡ seq + suc k = omega arith in subst (λ s. IsIn (lane, s) (calls_from lane (suc seq) calls)) here (call_among lane (suc seq) calls k call is))

lane_among : (lane seq : ℕ) (calls : List Call) (call : Call) → numbered calls seq ≡ Some call → IsIn (lane, seq) (calls_from lane 1 calls)
lane_among lane zero calls call is = absurd (cc)
lane_among lane (suc k) calls call is = let here : 1 + k ≡ suc k = omega arith in subst (λ s. IsIn (lane, s) (calls_from lane 1 calls)) here (call_among lane 1 calls k call is)

in_back : {A : Type 0} (xs ys : List A) (x : A) → IsIn x ys → IsIn x (xs ++ ys)
in_back [] ys x m = m
in_back (z ∷ xs) ys x m = inr (in_back xs ys x m)

among_lanes : (lane : ℕ) (lanes : List (List Call)) (k seq : ℕ) (call : Call) → lane_call (slice_get lanes k) seq ≡ Some call → IsIn (lane + k, seq) (lanes_from lane lanes)
unfolding lanes_from
among_lanes lane [] k seq call is = absurd (cc)
among_lanes lane (calls ∷ lanes) zero seq call is =
    let here : lane ≡ lane + zero = omega arith in
    subst (λ l. IsIn (l, seq) (calls_from lane 1 calls ++ lanes_from (suc lane) lanes)) here (in_front _ (lanes_from (suc lane) lanes) _ (lane_among lane seq calls call is))
among_lanes lane (calls ∷ lanes) (suc k) seq call is =
    let here : suc lane + k ≡ lane + suc k = omega arith in
    subst (λ l. IsIn (l, seq) (calls_from lane 1 calls ++ lanes_from (suc lane) lanes)) here (in_back (calls_from lane 1 calls) _ _ (among_lanes (suc lane) lanes k seq call is))

pub call_in : (config : Config) (lane seq : ℕ) (call : Call) → call_of config lane seq ≡ Some call → IsIn (lane, seq) (lanes_from 1 config.lanes)
call_in config zero seq call is = absurd (cc)
call_in config (suc k) seq call is = let here : 1 + k ≡ suc k = omega arith in subst (λ l. IsIn (l, seq) (lanes_from 1 config.lanes)) here (among_lanes 1 config.lanes k seq call is)

-- ---- the commits of a transcript

abbrev of_call : Commit → ℕ × ℕ
of_call c = (c.lane, c.seq)

-- each commit is of an entry and of a call
pub commits_each : (config : Config) (P : Commit → Type 0) (es : List Entry)
    → ((j lane seq ino : ℕ) (call : Call) → slice_get es j ≡ Some (entry.Commit lane seq ino) → call_of config lane seq ≡ Some call → P (record { lane = lane; seq = seq; cred = call.cred; op = call.op; ino = ino }))
    → Each P (commits_of config es)
commits_each config P [] h = tt
commits_each config P (entry.Commit lane seq ino ∷ es) h =
    each_join P (commit_by (call_of config lane seq) lane seq ino) (commits_of config es)
    (elim (call_of config lane seq) as (λ o. call_of config lane seq ≡ o → Each P (commit_by o lane seq ino)) [ None ↦ λ _. tt | Some call ↦ λ is. (h 0 lane seq ino call refl is, tt) ] refl)
    (commits_each config P es (λ j. h (suc j)))
commits_each config P (entry.Sent lane seq ∷ es) h = commits_each config P es (λ j. h (suc j))
commits_each config P (entry.Opened lane seq ino point ∷ es) h = commits_each config P es (λ j. h (suc j))
commits_each config P (entry.Placed lane seq version ∷ es) h = commits_each config P es (λ j. h (suc j))
commits_each config P (entry.Stale lane seq old new ∷ es) h = commits_each config P es (λ j. h (suc j))
commits_each config P (entry.Answered lane seq point reply ∷ es) h = commits_each config P es (λ j. h (suc j))

-- no call has two commits
abbrev CommitOnce : List Entry → Type 0
CommitOnce es = (j lane seq ino : ℕ) → slice_get es j ≡ Some (entry.Commit lane seq ino) → NotCommitted es j lane seq

once_rest : (e : Entry) (es : List Entry) → CommitOnce (e ∷ es) → CommitOnce es
once_rest e es h j lane seq ino at i other lt is = h (suc j) lane seq ino at (suc i) other (omega arith) is

same_lane : (a b c d : ℕ) → ◌≡◌ {A = ℕ × ℕ} (a, b) (c, d) → (a ≡ c) × (b ≡ d)
same_lane a b c d e = (ap (λ x. x.0) e, ap (λ x. x.1) e)

commits_differ : (config : Config) (es : List Entry) → CommitOnce es → Differ of_call (commits_of config es)
commits_differ config [] once = tt
commits_differ config (entry.Commit lane seq ino ∷ es) once = elim (call_of config lane seq) as (λ o. Differ of_call (commit_by o lane seq ino ++ commits_of config es)) [
  | None ↦ commits_differ config es (once_rest _ es once)
  | Some call ↦ (
    commits_each config (λ c. of_call c ≢ (lane, seq)) es
        (λ j l s i d at _ same.
        let is = same_lane lane seq l s (sym same) in
        once (suc j) l s i at 0 ino (omega arith) (λ k. Some (entry.Commit (is.0 k) (is.1 k) ino))),
    commits_differ config es (once_rest _ es once),
  )
]
commits_differ config (entry.Sent lane seq ∷ es) once = commits_differ config es (once_rest _ es once)
commits_differ config (entry.Opened lane seq ino point ∷ es) once = commits_differ config es (once_rest _ es once)
commits_differ config (entry.Placed lane seq version ∷ es) once = commits_differ config es (once_rest _ es once)
commits_differ config (entry.Stale lane seq old new ∷ es) once = commits_differ config es (once_rest _ es once)
commits_differ config (entry.Answered lane seq point reply ∷ es) once = commits_differ config es (once_rest _ es once)

pub few_commits : (config : Config) (w : World) (h : Ghost) → IsCluster config → Shows config w h → length w.commits ≤ 10000
few_commits config w h cluster shows =
    let once : CommitOnce w.entries = λ j lane seq ino at. (shows.good.script.once.each.committed j lane seq ino at).1 in
    let no_more_than = no_more of_call (commits_of config w.entries) (lanes_from 1 config.lanes) (commits_differ config w.entries once)
    (commits_each config (λ c. IsIn (of_call c) (lanes_from 1 config.lanes)) w.entries (λ j lane seq ino call _ is. call_in config lane seq call is)) in
    let all = lanes_length 1 config.lanes in
    let few = cluster.few_calls in
    let same : length w.commits ≡ length (commits_of config w.entries) = ap length shows.good.script.joined.same in
    omega arith

-- ---- the operations of a run

numbered_below : {A : Type 0} (xs : List A) (s k : ℕ) (x : A) → 0 < s → s ≤ k → numbered xs k ≡ Some x → (y : A) × (numbered xs s ≡ Some y)
numbered_below xs s zero x some le is = absurd (cc)
numbered_below xs zero (suc k) x some le is = absurd (omega arith)
numbered_below [] (suc s) (suc k) x some le is = absurd (cc)
numbered_below (y ∷ ys) (suc zero) (suc k) x some le is = (y, refl)
numbered_below (y ∷ ys) (suc (suc s)) (suc zero) x some le is = absurd (omega arith)
numbered_below (y ∷ ys) (suc (suc s)) (suc (suc k)) x some le is = numbered_below ys (suc s) (suc k) x (omega arith) (omega arith) is

call_below : (calls : Option (List Call)) (s k : ℕ) (call : Call) → 0 < s → s ≤ k → lane_call calls k ≡ Some call → (other : Call) × (lane_call calls s ≡ Some other)
call_below None s k call some le is = absurd (cc)
call_below (Some calls) s k call some le is = numbered_below calls s k call some le is

-- a lane that has sent a call has sent those before it
sent_in : (config : Config) (lane s k : ℕ) (call : Call) → 0 < s → s ≤ k → call_of config lane k ≡ Some call → IsIn (lane, s) (lanes_from 1 config.lanes)
sent_in config zero s k call some le is = absurd (cc)
sent_in config (suc lane) s k call some le is =
    let x = call_below (slice_get config.lanes lane) s k call some le is in
    call_in config (suc lane) s x.0 x.1

starts_differ : (starts : List (ℕ × ℕ)) → ((i j : ℕ) (x : ℕ × ℕ) → slice_get starts i ≡ Some x → slice_get starts j ≡ Some x → i ≡ j) → Differ (λ (x : ℕ × ℕ). x) starts
starts_differ [] apart = tt
starts_differ (x ∷ xs) apart = (
  each_by _ xs (λ y among same.
      let at = at_in xs y among in
      let wrong : suc at.0 ≡ 0 = apart (suc at.0) 0 y at.1 (ap (λ (z : ℕ × ℕ). Some z) (sym same)) in
      absurd (omega arith)),
  starts_differ xs (λ i j y a b. let same : suc i ≡ suc j = apart (suc i) (suc j) y a b in omega arith),
)

-- each operation is of a call, and no two of one
pub few_operations : (config : Config) (w : World) (h : Ghost) → IsCluster config → Shows config w h → w.coord.operation ≤ 10000
few_operations config w h cluster shows =
    let starts = shows.good.operation.starts in
    let no_more_than = no_more (λ (x : ℕ × ℕ). x) h.starts (lanes_from 1 config.lanes) (starts_differ h.starts starts.apart)
    (each_by _ h.starts (λ x among.
    let at = at_in h.starts x among in
    let sent = starts.sent at.0 x.0 x.1 at.1 in
    let some = sent.0 in
    let le = sent.1 in
    sent_in config x.0 x.1 (w.clients x.0).seq _ some le (shows.good.script.calls.named x.0 (omega arith)))) in
    let all = lanes_length 1 config.lanes in
    let few = cluster.few_calls in
    let count = starts.count in
    omega arith

-- a node knows of no later operation
stands_last : (table : Placement) (operation : ℕ) (work : Work) (n : ℕ) (shut : Option Shut) (queued : Option Message) (last : ℕ) (due : List Update) → Stands table operation work n shut queued last due → last ≤ operation
stands_last table operation Rests n shut queued last due h = h.3
stands_last table operation (Walks lane) n shut queued last due h = let below = h.3 in omega arith
stands_last table operation (Locks lane keys walks missing rows) n shut queued last due h =
    ⊎_elim (λ x. ⊎_elim (λ y. let below = y.2 in omega arith) (λ y. let same = y.2 in omega arith) x.1) (λ x. let same = x.2 in omega arith) h.1
stands_last table operation (Counts lane keys walks missing rows dir updates sum) n shut queued last due h = let same = h.1.2 in omega arith
stands_last table operation (Blocks lane name rule missing came) n shut queued last due h = h.1
stands_last table operation (Lands name rule old missing) n shut queued last due h = h.1
stands_last table operation (Ends keys updates missing) n shut queued last due h = ⊎_elim (λ x. let same = x.2.2 in omega arith) (λ x. let same = x.3 in omega arith) h

pub few_taken : (config : Config) (w : World) (n : ℕ) (h : Ghost) → IsCluster config → n < config.nodes → Shows config w h → (w.nodes n).last_operation ≤ 10000
few_taken config w n h cluster there shows =
    let few = few_operations config w h cluster shows in
    let last : (w.nodes n).last_operation ≤ w.coord.operation = stands_last w.coord.table w.coord.operation (work_of (before_in config h) w.coord.stage) n (w.nodes n).locks.shut (h.queued n) (w.nodes n).last_operation (h.due n) (shows.good.operation.stands n there) in
    omega arith

-- ---- the lanes of a cluster

lanes_to : ℕ → List ℕ
lanes_to zero = []
lanes_to (suc k) = suc k ∷ lanes_to k

lanes_count : (k : ℕ) → length (lanes_to k) ≡ k
unfolding lanes_to
lanes_count zero = refl
lanes_count (suc k) = ap suc (lanes_count k)

lane_among_all : (k l : ℕ) → 0 < l → l ≤ k → IsIn l (lanes_to k)
unfolding lanes_to
lane_among_all zero l some le = absurd (omega arith)
lane_among_all (suc k) l some le = ⊎_elim (λ t. inl (sym t.1)) (λ t. inr (lane_among_all k l some (below l k t.0 le))) (tells l (suc k))
  where
    below : (l k : ℕ) → (l == suc k) ≡ false → l ≤ suc k → l ≤ k
    below l k ne le = grind (arith, nat_tests)

lane_listed : (config : Config) (l : ℕ) → IsTrue (is_lane config l) → IsIn l (lanes_to (length config.lanes))
lane_listed config l is =
    let some : 0 < l = grind (arith, nat_tests) in
    let le : l ≤ length config.lanes = grind (arith, nat_tests) in
    lane_among_all (length config.lanes) l some le

-- of each lane at most one call waits at a node
pub few_waiting : (config : Config) (w : World) (n : ℕ) (h : Ghost) → Shows config w h → length (w.nodes n).waiting.calls ≤ length config.lanes
few_waiting config w n h shows =
    let lanes = length config.lanes in
    let calls = (w.nodes n).waiting.calls in
    let few = no_more lane_of calls (lanes_to lanes) (shows.held n).waiters_apart (each_weaker _ (λ x. IsIn (lane_of x) (lanes_to lanes)) calls (λ x there. lane_listed config (lane_of x) there) (waiters_there config w n h shows)) in
    let all = lanes_count lanes in
    omega arith
