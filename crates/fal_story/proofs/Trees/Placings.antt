-- The placement changes of a transcript, the names that have a rule after them, and the table that they leave.
use Rattle.std.proofs.Common.{◌≡◌, ◌≢◌, ◌⊎◌, inl, inr, ⊎_elim, ℕ, zero, suc, ◌+◌, Bool, true, false, not, ◌||◌, cond, List, [], ◌∷◌, ◌++◌, length, fold, filter, nat_lt, Option, Some, None, refl, sym, ap, ◌∙◌, subst, arith, append_assoc}
use Rattle.std.specs.Prelude.{slice_get, ◌==◌}
use Rattle.std.specs.List.{list_any}
use Rattle.std.specs.Cmp.Lexicographic.{bytes_decides}
use Rattle.std.proofs.lemmas.List.Filters.{length-filter_both}
use Rattle.std.proofs.lemmas.List.Folds.{list_any-append}
use Rattle.std.proofs.lemmas.List.{length_push}
use Rattle.std.proofs.lemmas.List.{take_all}
use Rattle.std.proofs.lemmas.Option.{same_Some}
use Rattle.fal_base.specs.declared.call.Call.{Call}
use Rattle.fal_base.specs.declared.call.Config.{Config}
use Rattle.fal_base.specs.declared.entry.Entry.{Entry}
use Rattle.fal_base.specs.declared.entry.Entry.TheVariants as entry
use Rattle.fal_base.specs.declared.op.Op.{Op}
use Rattle.fal_base.specs.declared.op.Op.TheVariants as op
use Rattle.fal_base.specs.declared.rule.Rule.{Rule}
use Rattle.fal_base.specs.declared.rule.RuleChange.{RuleChange}
use Rattle.fal_base.specs.Places.{is_ruled, placed_name, call_name, with_name, names_ruled, told}
use Rattle.fal_base.specs.Transcript.{call_of, is_place}
use Rattle.fal_place.specs.Placement.{Placement, Placing, same_name, has_rule, insert_by_version, without_name, with_change, with_rule, opening_table, after_placings, table_after}

-- ---- the changes of a transcript

-- the change that a call asks for
abbrev pub placing_of : Op → List Placing
placing_of (op.Place name rule) = record { name = name; rule = rule } ∷ []
placing_of other = []

-- whether a call asks for one
pub tells_place : (o : Op) → (is_place o ≡ false) ⊎ ((name : List ℕ) × ((rule : Rule) × (o ≡ op.Place name rule)))
tells_place (op.Place name rule) = inr (name, (rule, refl))
tells_place other = inl refl

abbrev pub placing_by : Option Call → List Placing
placing_by None = []
placing_by (Some call) = placing_of call.op

-- the changes of the Placed entries, in their order
abbrev pub placings_of : Config → List Entry → List Placing
placings_of config [] = []
placings_of config (entry.Placed lane seq version ∷ entries) = placing_by (call_of config lane seq) ++ placings_of config entries
placings_of config (other ∷ entries) = placings_of config entries

pub placings_append : (config : Config) (es fs : List Entry) → placings_of config (es ++ fs) ≡ placings_of config es ++ placings_of config fs
placings_append config [] fs = refl
placings_append config (entry.Placed lane seq version ∷ es) fs =
    ap (λ ps. placing_by (call_of config lane seq) ++ ps) (placings_append config es fs) ∙ sym (append_assoc (placing_by (call_of config lane seq)) _ _)
placings_append config (other ∷ es) fs = placings_append config es fs

-- ---- the names that have a rule

pub names_append : (config : Config) (names : List (List ℕ)) (es fs : List Entry) → names_ruled config names (es ++ fs) ≡ names_ruled config (names_ruled config names es) fs
names_append config names [] fs = refl
names_append config names (entry.Placed lane seq version ∷ es) fs = names_append config (with_name names (call_name (call_of config lane seq))) es fs
names_append config names (other ∷ es) fs = names_append config names es fs

-- a test of two names, with what it says
pub name_tells : (a b : List ℕ) → ((same_name a b ≡ true) × (a ≡ b)) ⊎ ((same_name a b ≡ false) × (a ≢ b))
name_tells a b = elim (same_name a b) as (λ t. same_name a b ≡ t → ((t ≡ true) × (a ≡ b)) ⊎ ((t ≡ false) × (a ≢ b))) [
  | true ↦ λ e. inl (refl, (bytes_decides a b).0 e)
  | false ↦ λ e. inr (refl, λ same. let yes : same_name a b ≡ true = (bytes_decides a b).1 same in absurd (cc))
] refl

pub name_itself : (name : List ℕ) → same_name name name ≡ true
name_itself name = (bytes_decides name name).1 refl

-- a name that has a rule keeps one
pub ruled_with : (names more : List (List ℕ)) (name : List ℕ) → is_ruled name names ≡ true → is_ruled name (with_name names more) ≡ true
ruled_with names [] name is = is
ruled_with names (new ∷ more) name is = elim (is_ruled new names) as (λ b. is_ruled name (cond b names (names ++ new ∷ [])) ≡ true) [
  | true ↦ is
  | false ↦ list_any-append (λ other. same_name other name) names (new ∷ []) ∙ ap (λ b. b || is_ruled name (new ∷ [])) is
]

pub ruled_names : (config : Config) (names : List (List ℕ)) (es : List Entry) (name : List ℕ) → is_ruled name names ≡ true → is_ruled name (names_ruled config names es) ≡ true
ruled_names config names [] name is = is
ruled_names config names (entry.Placed lane seq version ∷ es) name is = let more = call_name (call_of config lane seq) in ruled_names config (with_name names more) es name (ruled_with names more name is)
ruled_names config names (other ∷ es) name is = ruled_names config names es name is

-- a name that is placed gets one
pub ruled_new : (names : List (List ℕ)) (name : List ℕ) → is_ruled name (with_name names (name ∷ [])) ≡ true
ruled_new names name = elim (is_ruled name names) as (λ b. is_ruled name names ≡ b → is_ruled name (cond b names (names ++ name ∷ [])) ≡ true) [
  | true ↦ λ is. is
  | false ↦ λ is. list_any-append (λ other. same_name other name) names (name ∷ []) ∙ ap (λ b. b || is_ruled name (name ∷ [])) is ∙ ap (λ b. b || false) (name_itself name)
] refl

-- the name of a call that has a Placed entry has a rule
pub placed_ruled : (config : Config) (names : List (List ℕ)) (es : List Entry) (i lane seq version : ℕ) (call : Call) (name : List ℕ) (rule : Rule) → slice_get es i ≡ Some (entry.Placed lane seq version)
    → call_of config lane seq ≡ Some call → call.op ≡ op.Place name rule → is_ruled name (names_ruled config names es) ≡ true
placed_ruled config names [] i lane seq version call name rule at named places = absurd (cc)
placed_ruled config names (e ∷ es) zero lane seq version call name rule at named places =
    let one : call_name (call_of config lane seq) ≡ name ∷ [] = ap call_name named ∙ ap placed_name places in
    let new : is_ruled name (with_name names (call_name (call_of config lane seq))) ≡ true = subst (λ more. is_ruled name (with_name names more) ≡ true) (sym one) (ruled_new names name) in
    subst (λ x. is_ruled name (names_ruled config names (x ∷ es)) ≡ true) (sym (same_Some e _ at)) (ruled_names config (with_name names (call_name (call_of config lane seq))) es name new)
placed_ruled config names (entry.Placed a b v ∷ es) (suc i) lane seq version call name rule at named places = placed_ruled config (with_name names (call_name (call_of config a b))) es i lane seq version call name rule at named places
placed_ruled config names (other ∷ es) (suc i) lane seq version call name rule at named places = placed_ruled config names es i lane seq version call name rule at named places

-- ---- and what a client was told

pub told_append : (lane version : ℕ) (es fs : List Entry) → told lane version (es ++ fs) ≡ told lane (told lane version es) fs
told_append lane version [] fs = refl
told_append lane version (entry.Stale other seq old new ∷ es) fs = told_append lane (cond (other == lane) new version) es fs
told_append lane version (other ∷ es) fs = told_append lane version es fs

-- ---- the table

abbrev pub names_after : List (List ℕ) → List Placing → List (List ℕ)
names_after names placings = fold (λ ns placing. with_name ns (placing.name ∷ [])) names placings

pub names_placings : (config : Config) (names : List (List ℕ)) (es : List Entry) → names_ruled config names es ≡ names_after names (placings_of config es)
names_placings config names [] = refl
names_placings config names (entry.Placed lane seq version ∷ es) = by_call (call_of config lane seq) (λ ns. names_placings config ns es)
  where
    by_op : (o : Op) → ((ns : List (List ℕ)) → names_ruled config ns es ≡ names_after ns (placings_of config es))
        → names_ruled config (with_name names (placed_name o)) es ≡ names_after names (placing_of o ++ placings_of config es)
    by_op (op.Place name rule) rest = rest (with_name names (name ∷ []))
    by_op other rest = rest names

    by_call : (found : Option Call) → ((ns : List (List ℕ)) → names_ruled config ns es ≡ names_after ns (placings_of config es))
        → names_ruled config (with_name names (call_name found)) es ≡ names_after names (placing_by found ++ placings_of config es)
    by_call None rest = rest names
    by_call (Some call) rest = by_op call.op rest
names_placings config names (other ∷ es) = names_placings config names es

-- the rules that have a name
abbrev rules_of : List ℕ → List RuleChange → List RuleChange
rules_of name rules = filter (λ change. same_name change.name name) rules

-- the rules are of these names, one of each
pub record AreOf (names : List (List ℕ)) (rules : List RuleChange) : Type 0 where
  pub count : length rules ≡ length names
  pub once : (name : List ℕ) → length (rules_of name rules) ≡ cond (is_ruled name names) 1 0

inserted : (test : RuleChange → Bool) (change : RuleChange) (rules : List RuleChange) → length (filter test (insert_by_version change rules)) ≡ cond (test change) 1 0 + length (filter test rules)
inserted test change [] = elim (test change) as (λ b. length (cond b (change ∷ []) []) ≡ cond b 1 0 + 0) [ true ↦ refl | false ↦ refl ]
inserted test change (rule ∷ rules) =
    let rest = inserted test change rules in
    let kept = filter test rules in
    elim (nat_lt change.version rule.version) as (λ b. length (filter test (cond b (change ∷ rule ∷ rules) (rule ∷ insert_by_version change rules))) ≡ cond (test change) 1 0 + length (filter test (rule ∷ rules))) [
      | true ↦ elim (test change) as (λ b. length (cond b (change ∷ filter test (rule ∷ rules)) (filter test (rule ∷ rules))) ≡ cond b 1 0 + length (filter test (rule ∷ rules))) [ true ↦ omega arith | false ↦ omega arith ]
      | false ↦ elim (test rule) as (λ b. length (cond b (rule ∷ filter test (insert_by_version change rules)) (filter test (insert_by_version change rules))) ≡ cond (test change) 1 0 + length (cond b (rule ∷ kept) kept)) [ true ↦ omega arith | false ↦ omega arith ]
    ]

insert_longer : (change : RuleChange) (rules : List RuleChange) → length (insert_by_version change rules) ≡ length rules + 1
insert_longer change [] = refl
insert_longer change (rule ∷ rules) =
    let rest = insert_longer change rules in
    elim (nat_lt change.version rule.version) as (λ b. length (cond b (change ∷ rule ∷ rules) (rule ∷ insert_by_version change rules)) ≡ length (rule ∷ rules) + 1) [ true ↦ omega arith | false ↦ omega arith ]

-- none of the other rules has the name
left_out : (name : List ℕ) (rules : List RuleChange) → length (rules_of name (without_name name rules)) ≡ 0
left_out name [] = refl
left_out name (rule ∷ rules) =
    let others = without_name name rules in
    let rest = left_out name rules in
    elim (same_name rule.name name) as (λ b. same_name rule.name name ≡ b → length (rules_of name (cond (not b) (rule ∷ others) others)) ≡ 0) [
      | true ↦ λ e. rest
      | false ↦ λ e. ap (λ b. length (cond b (rule ∷ rules_of name others) (rules_of name others))) e ∙ rest
    ] refl

-- those of other names stay
left_in : (name other : List ℕ) (rules : List RuleChange) → other ≢ name → length (rules_of other (without_name name rules)) ≡ length (rules_of other rules)
left_in name other [] apart = refl
left_in name other (rule ∷ rules) apart =
    let others = without_name name rules in
    let rest = left_in name other rules apart in
    ⊎_elim {C = length (rules_of other (without_name name (rule ∷ rules))) ≡ length (rules_of other (rule ∷ rules))}
    (λ (same : (same_name rule.name name ≡ true) × (rule.name ≡ name)).
    let not_other : same_name rule.name other ≡ false = ⊎_elim (λ t. absurd (apart (sym t.1 ∙ same.1))) (λ t. t.0) (name_tells rule.name other) in
    ap (λ b. length (rules_of other (cond (not b) (rule ∷ others) others))) same.0 ∙ rest ∙ sym (ap (λ b. length (cond b (rule ∷ rules_of other rules) (rules_of other rules))) not_other))
    (λ (differ : (same_name rule.name name ≡ false) × (rule.name ≢ name)).
    ap (λ b. length (rules_of other (cond (not b) (rule ∷ others) others))) differ.0 ∙
    elim (same_name rule.name other) as (λ b. length (cond b (rule ∷ rules_of other others) (rules_of other others)) ≡ length (cond b (rule ∷ rules_of other rules) (rules_of other rules))) [ true ↦ omega arith | false ↦ rest ])
    (name_tells rule.name name)

-- one more change
of_with : (names : List (List ℕ)) (rules : List RuleChange) (change : RuleChange) → AreOf names rules → AreOf (with_name names (change.name ∷ [])) (with_change rules change)
of_with names rules change are =
    let name = change.name in
    let more = with_name names (name ∷ []) in
    record {
      count =
          let parts = length-filter_both (λ (c : RuleChange). same_name c.name name) (λ (c : RuleChange). not (same_name c.name name)) (λ c. refl) rules in
          let longer = insert_longer change (without_name name rules) in
          let of_name = are.once name in
          let all = are.count in
          elim (is_ruled name names) as (λ b. length (rules_of name rules) ≡ cond b 1 0 → length (with_change rules change) ≡ length (cond b names (names ++ name ∷ []))) [
            | true ↦ λ one. omega arith
            | false ↦ λ none. let push = length_push names name in omega arith
          ] of_name;
      once = λ other. inserted (λ c. same_name c.name other) change (without_name name rules) ∙ ⊎_elim {C = cond (same_name name other) 1 0 + length (rules_of other (without_name name rules)) ≡ cond (is_ruled other more) 1 0}
          (λ (same : (same_name name other ≡ true) × (name ≡ other)).
          let none : length (rules_of other (without_name name rules)) ≡ 0 = subst (λ n. length (rules_of n (without_name name rules)) ≡ 0) same.1 (left_out name rules) in
          let has : is_ruled other more ≡ true = subst (λ n. is_ruled n more ≡ true) same.1 (ruled_new names name) in
          ap (λ b. cond b 1 0 + length (rules_of other (without_name name rules))) same.0 ∙ ap (λ n. 1 + n) none ∙ sym (ap (λ b. cond b 1 0) has))
          (λ (differ : (same_name name other ≡ false) × (name ≢ other)).
          let kept = left_in name other rules (λ e. differ.1 (sym e)) in
          let same : 0 + length (rules_of other (without_name name rules)) ≡ length (rules_of other rules) = omega arith in
          let has : is_ruled other more ≡ is_ruled other names = elim (is_ruled name names) as (λ b. is_ruled other (cond b names (names ++ name ∷ [])) ≡ is_ruled other names) [
            | true ↦ refl
            | false ↦ list_any-append (λ n. same_name n other) names (name ∷ []) ∙ ap (λ b. is_ruled other names || (b || false)) differ.0 ∙ or_none (is_ruled other names)
          ] in
          ap (λ b. cond b 1 0 + length (rules_of other (without_name name rules))) differ.0 ∙ same ∙ are.once other ∙ sym (ap (λ b. cond b 1 0) has))
          (name_tells name other);
    }
  where
    or_none : (b : Bool) → (b || false) ≡ b
    or_none true = refl
    or_none false = refl

pub of_after : (names : List (List ℕ)) (table : Placement) (placings : List Placing) → AreOf names table.rules → AreOf (names_after names placings) (after_placings table placings).rules
of_after names table [] are = are
of_after names table (placing ∷ placings) are =
    of_after (with_name names (placing.name ∷ [])) (with_rule table placing.name placing.rule) placings
    (of_with names table.rules (record { name = placing.name; rule = placing.rule; version = table.version + 1 }) are)

any_of : {A : Type 0} (test : A → Bool) (xs : List A) (b : Bool) → length (filter test xs) ≡ cond b 1 0 → list_any test xs ≡ b
any_of test [] true is = absurd (omega arith)
any_of test [] false is = refl
any_of test (x ∷ xs) b is = elim (test x) as (λ t. length (cond t (x ∷ filter test xs) (filter test xs)) ≡ cond b 1 0 → (t || list_any test xs) ≡ b) [
  | true ↦ elim b as (λ c. length (x ∷ filter test xs) ≡ cond c 1 0 → true ≡ c) [ true ↦ λ e. refl | false ↦ λ e. absurd (omega arith) ]
  | false ↦ any_of test xs b
] is

-- the names that have a rule in the table after all changes are those that the transcript tells, one rule of each
pub record IsTableOf (names : List (List ℕ)) (table : Placement) : Type 0 where
  pub rules : length table.rules ≡ length names
  pub has : (name : List ℕ) → has_rule table name ≡ is_ruled name names

pub table_is_of : (config : Config) (nodes : ℕ) (entries : List Entry) (placings : List Placing) → placings ≡ placings_of config entries → IsTableOf (names_ruled config [] entries) (table_after nodes placings (length placings))
table_is_of config nodes entries placings same =
    let whole : table_after nodes placings (length placings) ≡ after_placings (opening_table nodes) placings = ap (after_placings (opening_table nodes)) (take_all (length placings) placings (omega arith)) in
    let names : names_ruled config [] entries ≡ names_after [] placings = names_placings config [] entries ∙ ap (names_after []) (sym same) in
    let are = of_after [] (opening_table nodes) placings (record { count = refl; once = λ name. refl }) in
    subst (λ ns. IsTableOf ns (table_after nodes placings (length placings))) (sym names) (subst (IsTableOf (names_after [] placings)) (sym whole)
    (record { rules = are.count; has = λ name. any_of (λ c. same_name c.name name) (after_placings (opening_table nodes) placings).rules (is_ruled name (names_after [] placings)) (are.once name) }))
