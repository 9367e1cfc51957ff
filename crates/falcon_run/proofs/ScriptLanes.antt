-- The lanes of a script's cluster have its lines, each in its own lane.
use Rattle.std.proofs.Common.{◌≡◌, ℕ, zero, suc, ◌+◌, ◌<◌, ◌≤◌, nat_lt, true, false, cond, List, [], ◌∷◌, length, map, filter, Option, Some, refl, sym, ap, ◌∙◌, arith}
use Rattle.std.specs.Prelude.{slice_get, sum_by, unwrap_or, ◌==◌}
use Rattle.std.specs.List.{range_with_len}
use Rattle.std.proofs.lemmas.Bool.Decides.{nat_tests}
use Rattle.std.proofs.lemmas.List.Sums.{sum_by-cons}
use Rattle.std.proofs.lemmas.Option.{slice_get_past}
use Rattle.std.proofs.lemmas.List.FromFn.{length-map-range_with_len}
use Rattle.fal_base.specs.declared.call.Call.{Call}
use Rattle.fal_script.specs.Configs.{lane_calls, order_of}
use Rattle.fal_script.specs.Ranges.{IsSpelledScript}
use Rattle.fal_script.specs.declared.script.Script.{Script}
use Rattle.fal_script.specs.declared.script.ScriptCall.{ScriptCall}
use Rattle.fal_story.specs.Clusters.{calls_of_lane}
use Rattle.falcon_run.specs.Headline.{cluster_of}
use Rattle.falcon_run.specs.Serial.{counts}
use Rattle.falcon_run.specs.Serving.{HasCallsFor}

-- ---- one lane

-- a lane has as many calls as it has lines
lane_counts : (lines : List ScriptCall) (lane : ℕ) → counts lane (order_of lines) ≡ length (lane_calls lines lane)
lane_counts [] lane = refl
lane_counts (line ∷ lines) lane =
    let rest = lane_counts lines lane in
    elim (line.lane == lane) as (λ b. cond b 1 0 + counts lane (order_of lines) ≡ length (map (λ (l : ScriptCall). l.call) (cond b (line ∷ filter (λ l. l.lane == lane) lines) (filter (λ l. l.lane == lane) lines)))) [
      | true ↦ omega arith
      | false ↦ omega arith
    ]

at_range : {A : Type 0} (f : ℕ → A) (from n k : ℕ) → k < n → slice_get (map f (range_with_len from n)) k ≡ Some (f (from + k))
at_range f from zero k few = absurd (omega arith)
at_range f from (suc n) zero few = ap (λ m. Some (f m)) (nothing_more from)
  where
    nothing_more : (m : ℕ) → m ≡ m + 0
    nothing_more m = omega arith
at_range f from (suc n) (suc k) few = at_range f (from + 1) n k (omega arith) ∙ ap (λ m. Some (f m)) (one_later from k)
  where
    one_later : (m k : ℕ) → m + 1 + k ≡ m + suc k
    one_later m k = omega arith

none_on : (lines : List ScriptCall) (lane : ℕ) → ((k : ℕ) (line : ScriptCall) → slice_get lines k ≡ Some line → (line.lane == lane) ≡ false) → counts lane (order_of lines) ≡ 0
none_on [] lane away = refl
none_on (line ∷ lines) lane away = ap (λ b. cond b 1 0 + counts lane (order_of lines)) (away 0 line refl) ∙ (let rest = none_on lines lane (λ k l at. away (suc k) l at) in omega arith)

on_lane : (script : Script) → IsSpelledScript script → (k : ℕ) → counts (suc k) (order_of script.lines) ≡ length (calls_of_lane (cluster_of script) (suc k))
on_lane script range k =
    elim (nat_lt k script.lanes) as (λ b. nat_lt k script.lanes ≡ b → counts (suc k) (order_of script.lines) ≡ length (calls_of_lane (cluster_of script) (suc k))) [
      | true ↦ λ is.
          let few : k < script.lanes = grind (arith, nat_tests) in
          let place : 1 + k ≡ suc k = omega arith in
          lane_counts script.lines (suc k)
          ∙ ap (λ m. length (lane_calls script.lines m)) (sym place)
          ∙ sym (ap (λ (o : Option (List Call)). length (unwrap_or o [])) (at_range (λ lane. lane_calls script.lines lane) 1 script.lanes k few))
      | false ↦ λ is.
          let past : script.lanes ≤ k = grind (arith, nat_tests) in
          let count = length-map-range_with_len (λ lane. lane_calls script.lines lane) 1 script.lanes in
          none_on script.lines (suc k) (λ j line at. let within = (range.lines j line at).within in less line.lane k (omega arith))
          ∙ sym (ap (λ (o : Option (List Call)). length (unwrap_or o [])) (slice_get_past (map (λ lane. lane_calls script.lines lane) (range_with_len 1 script.lanes)) k (omega arith)))
    ] refl
  where
    less : (a b : ℕ) → a ≤ b → (a == suc b) ≡ false
    less a b le = grind (arith, nat_tests)

-- each lane of a script's cluster has as many calls as it stands among the lanes of the script's lines
pub has_calls : (script : Script) → IsSpelledScript script → HasCallsFor (cluster_of script) (order_of script.lines)
has_calls script range zero = none_on script.lines 0 (λ j line at. let low = (range.lines j line at).from_one in above line.lane low)
  where
    above : (a : ℕ) → 1 ≤ a → (a == 0) ≡ false
    above a low = grind (arith, nat_tests)
has_calls script range (suc k) = on_lane script range k

-- ---- all lanes

-- whether a number is one of so many from a first one
hits : ℕ → ℕ → ℕ → ℕ
hits a from zero = 0
hits a from (suc n) = cond (a == from) 1 0 + hits a (from + 1) n

no_hits : (a from n : ℕ) → a < from → hits a from n ≡ 0
unfolding hits
no_hits a from zero low = refl
no_hits a from (suc n) low =
    let rest = no_hits a (from + 1) n (omega arith) in
    let other : (a == from) ≡ false = grind (arith, nat_tests) in
    ap (λ b. cond b 1 0 + hits a (from + 1) n) other ∙ omega arith

one_hit : (a from n : ℕ) → hits a from n ≤ 1
unfolding hits
one_hit a from zero = omega arith
one_hit a from (suc n) =
    elim (a == from) as (λ b. (a == from) ≡ b → cond b 1 0 + hits a (from + 1) n ≤ 1) [
      | true ↦ λ is. let low : a < from + 1 = grind (arith, nat_tests) in let none = no_hits a (from + 1) n low in omega arith
      | false ↦ λ is. let rest = one_hit a (from + 1) n in omega arith
    ] refl

abbrev all_lanes : List ScriptCall → ℕ → ℕ → ℕ
all_lanes lines from n = sum_by (λ (calls : List Call). length calls) (map (λ lane. lane_calls lines lane) (range_with_len from n))

one_line : (line : ScriptCall) (lines : List ScriptCall) (from n : ℕ) → all_lanes (line ∷ lines) from n ≡ hits line.lane from n + all_lanes lines from n
unfolding hits
one_line line lines from zero = refl
one_line line lines from (suc n) =
    let rest = one_line line lines (from + 1) n in
    let with = sum_by-cons (λ (calls : List Call). length calls) (lane_calls (line ∷ lines) from) (map (λ lane. lane_calls (line ∷ lines) lane) (range_with_len (from + 1) n)) in
    let without = sum_by-cons (λ (calls : List Call). length calls) (lane_calls lines from) (map (λ lane. lane_calls lines lane) (range_with_len (from + 1) n)) in
    let here : length (lane_calls (line ∷ lines) from) ≡ cond (line.lane == from) 1 0 + length (lane_calls lines from) =
    sym (lane_counts (line ∷ lines) from) ∙ ap (λ k. cond (line.lane == from) 1 0 + k) (lane_counts lines from) in
    omega arith

no_line : (from n : ℕ) → all_lanes [] from n ≡ 0
no_line from zero = refl
no_line from (suc n) =
    let rest = no_line (from + 1) n in
    let more = sum_by-cons (λ (calls : List Call). length calls) [] (map (λ lane. lane_calls [] lane) (range_with_len (from + 1) n)) in
    omega arith

-- the lanes together have at most as many calls as there are lines
pub few_calls : (lines : List ScriptCall) (from n : ℕ) → all_lanes lines from n ≤ length lines
few_calls [] from n = let none = no_line from n in omega arith
few_calls (line ∷ lines) from n =
    let rest = few_calls lines from n in
    let more = one_line line lines from n in
    let one = one_hit line.lane from n in
    omega arith
