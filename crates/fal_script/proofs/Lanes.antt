-- The calls of each lane.
use Rattle.std.proofs.Common.{◌≡◌, ◌≢◌, ℕ, suc, ◌+◌, ◌<◌, true, false, cond, Some, List, [], ◌∷◌, ◌++◌, map, filter, get_or, set, refl, sym, ap, ◌∙◌, subst, arith, append-nil, eq-eqb, eqb-true}
use Rattle.std.specs.Prelude.{◌==◌, slice_get}
use Rattle.std.specs.List.{All, range_with_len}
use Rattle.std.proofs.lemmas.List.Elements.{All-cons, All-head, All-nil, All-rest}
use Rattle.std.proofs.lemmas.List.{ext_get_or, get_or-set_other, get_or-set_same, length-set}
use Rattle.std.proofs.lemmas.List.FromFn.{get_or-map-range_with_len, length-map-range_with_len, map-range_with_len_more}
use Rattle.fal_base.specs.declared.call.Call.{Call}
use Rattle.fal_script.specs.declared.script.Script.{Script}
use Rattle.fal_script.specs.declared.script.ScriptCall.{ScriptCall}
use Rattle.fal_script.specs.Configs.{lane_calls, lanes_of_script}
use Rattle.fal_script.specs.Ranges.{IsSpelledLine, IsSpelledScript}

-- one lane more, and its calls
pub next_lane : (lines read : List ScriptCall) (n : ℕ) (lanes next : List (List Call)) (calls : List Call) → read ≡ lines → lanes ≡ map (λ lane. lane_calls lines lane) (range_with_len 1 n)
    → calls ≡ lane_calls read (n + 1) → next ≡ lanes ++ calls ∷ [] → next ≡ map (λ lane. lane_calls lines lane) (range_with_len 1 (n + 1))
next_lane lines read n lanes next calls same before last is =
    is
    ∙ ap (λ ls. ls ++ calls ∷ []) before
    ∙ ap (λ cs. map (λ lane. lane_calls lines lane) (range_with_len 1 n) ++ cs ∷ []) (last ∙ ap (λ ls. lane_calls ls (n + 1)) same)
    ∙ sym (map-range_with_len_more (λ lane. lane_calls lines lane) 1 n (n + 1) (omega arith))

-- ---- one line more

apart : (a b : ℕ) → a ≢ b → (a == b) ≡ false
apart a b ne = elim (a == b) as (λ t. (a == b) ≡ t → t ≡ false) [ true ↦ λ is. absurd (ne (eqb-true a b is)) | false ↦ λ is. refl ] refl

-- a lane with one line more at the end
lane_more : (lines : List ScriptCall) (line : ScriptCall) (lane : ℕ) → lane_calls (lines ++ line ∷ []) lane ≡ lane_calls lines lane ++ cond (line.lane == lane) (line.call ∷ []) []
lane_more [] line lane =
    elim (line.lane == lane) as (λ b. map (λ (l : ScriptCall). l.call) (cond b (line ∷ []) []) ≡ cond b (line.call ∷ []) []) [ true ↦ refl | false ↦ refl ]
lane_more (first ∷ lines) line lane =
    let rest = lane_more lines line lane in
    elim (first.lane == lane) as (λ b. map (λ (l : ScriptCall). l.call) (cond b (first ∷ filter (λ l. l.lane == lane) (lines ++ line ∷ [])) (filter (λ l. l.lane == lane) (lines ++ line ∷ [])))
    ≡ map (λ (l : ScriptCall). l.call) (cond b (first ∷ filter (λ l. l.lane == lane) lines) (filter (λ l. l.lane == lane) lines)) ++ cond (line.lane == lane) (line.call ∷ []) []) [
      | true ↦ ap (λ cs. first.call ∷ cs) rest
      | false ↦ rest
    ]

-- a list over the numbers from 1, with another item at one place
set_over_range : {A : Type 0} (f g : ℕ → A) (n i : ℕ) (x : A) → x ≡ g (1 + i) → ((j : ℕ) → j ≢ i → f (1 + j) ≡ g (1 + j)) → i < n → set (map f (range_with_len 1 n)) i x ≡ map g (range_with_len 1 n)
set_over_range {A} f g n i x is others low =
    let count = length-map-range_with_len f 1 n in
    let counted = length-map-range_with_len g 1 n in
    let same = length-set before i x in
    ext_get_or x (set before i x) after (omega arith) (λ j below. each j (omega arith))
  where
    before : List A
    before = map f (range_with_len 1 n)

    after : List A
    after = map g (range_with_len 1 n)

    each : (j : ℕ) → j < n → get_or (set before i x) j x ≡ get_or after j x
    each j below =
        let count = length-map-range_with_len f 1 n in
        elim (j == i) as (λ b. (j == i) ≡ b → get_or (set before i x) j x ≡ get_or after j x) [
          | true ↦ λ at.
              subst (λ (k : ℕ). get_or (set before i x) k x ≡ get_or after k x) (sym (eqb-true j i at))
              (get_or-set_same before i x x (omega arith) ∙ is ∙ sym (get_or-map-range_with_len g 1 n i (1 + i) x low refl))
          | false ↦ λ at.
              get_or-set_other before i j x x (differ at)
              ∙ get_or-map-range_with_len f 1 n j (1 + j) x below refl
              ∙ others j (differ at)
              ∙ sym (get_or-map-range_with_len g 1 n j (1 + j) x below refl)
        ] refl
      where
        differ : (j == i) ≡ false → j ≢ i
        differ at same = let yes = eq-eqb j i same in absurd cc

-- the call of one line more stands at the end of its lane
pub line_put : (lines : List ScriptCall) (line : ScriptCall) (n i : ℕ) (lists : List (List Call)) (calls old : List Call) → line.lane ≡ 1 + i → i < n → lists ≡ lanes_of_script lines n
    → old ≡ get_or lists i old → calls ≡ old ++ line.call ∷ [] → set lists i calls ≡ lanes_of_script (lines ++ line ∷ []) n
line_put lines line n i lists calls old lane low is at more =
    ap (λ ls. set ls i calls) is
    ∙ set_over_range (λ l. lane_calls lines l) (λ l. lane_calls (lines ++ line ∷ []) l) n i calls
    (more ∙ ap (λ cs. cs ++ line.call ∷ []) was ∙ sym (lane_more lines line (1 + i) ∙ ap (λ b. lane_calls lines (1 + i) ++ cond b (line.call ∷ []) []) (eq-eqb line.lane (1 + i) lane)))
    (λ j ne. sym (lane_more lines line (1 + j) ∙ ap (λ b. lane_calls lines (1 + j) ++ cond b (line.call ∷ []) []) (apart line.lane (1 + j) (λ same. ne (place j same))) ∙ append-nil (lane_calls lines (1 + j))))
    low
  where
    was : old ≡ lane_calls lines (1 + i)
    was = at ∙ ap (λ ls. get_or ls i old) is ∙ get_or-map-range_with_len (λ l. lane_calls lines l) 1 n i (1 + i) old low refl

    place : (j : ℕ) → line.lane ≡ 1 + j → j ≡ i
    place j same = omega arith

-- the lines of a script, one by one
each_line : (lines : List ScriptCall) (lanes : ℕ) → ((j : ℕ) (line : ScriptCall) → slice_get lines j ≡ Some line → IsSpelledLine lanes line) → All (IsSpelledLine lanes) lines
each_line [] lanes each = All-nil (IsSpelledLine lanes)
each_line (line ∷ lines) lanes each = All-cons (IsSpelledLine lanes) line lines (each 0 line refl) (each_line lines lanes (λ j l at. each (suc j) l at))

pub all_lines : (script : Script) (lines : List ScriptCall) → IsSpelledScript script → lines ≡ script.lines → All (IsSpelledLine script.lanes) lines
all_lines script lines range is = subst (All (IsSpelledLine script.lanes)) (sym is) (each_line script.lines script.lanes range.lines)

-- the first of the lines that are left, and those behind it
pub first_line : (lanes : ℕ) (line : ScriptCall) (lines rest : List ScriptCall) → rest ≡ line ∷ lines → All (IsSpelledLine lanes) rest → IsSpelledLine lanes line
first_line lanes line lines rest is each = All-head (IsSpelledLine lanes) line lines (subst (All (IsSpelledLine lanes)) is each)

pub further_lines : (lanes : ℕ) (line : ScriptCall) (lines rest : List ScriptCall) → rest ≡ line ∷ lines → All (IsSpelledLine lanes) rest → All (IsSpelledLine lanes) lines
further_lines lanes line lines rest is each = All-rest (IsSpelledLine lanes) line lines rest is each
