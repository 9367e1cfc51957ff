-- Rules in the order of their versions: where a rule goes, and that the order stays.
use Rattle.std.proofs.Common.{◌≡◌, ℕ, suc, ◌+◌, ◌<◌, ◌≤◌, Bool, true, false, not, ◌&&◌, cond, List, [], ◌∷◌, ◌++◌, filter, nat_lt, nat_le, refl, ap, sym, ◌∙◌, arith}
use Rattle.std.specs.Prelude.{IsTrue}
use Rattle.std.specs.List.{insert, position_or_len, list_all}
use Rattle.std.proofs.lemmas.Bool.{leb-true, le-leb, ltb-true, lt-ltb}
use Rattle.std.proofs.lemmas.Bool.Decides.{nat_tests}
use Rattle.fal_base.specs.declared.rule.RuleChange.{RuleChange}
use Rattle.fal_place.specs.Placement.{insert_by_version, with_change, without_name, rises_from, IsByVersion}

pub and_first : (a b : Bool) → IsTrue (a && b) → IsTrue a
and_first true b both = refl
and_first false b both = both

pub and_second : (a b : Bool) → IsTrue (a && b) → IsTrue b
and_second true b both = both
and_second false b both = cc

pub and_both : (a b : Bool) → IsTrue a → IsTrue b → IsTrue (a && b)
and_both true b one two = two
and_both false b one two = one

pub not_later : (a b : ℕ) → nat_lt a b ≡ false → b ≤ a
not_later a b is = grind (arith, nat_tests)

pub never_later : (a b : ℕ) → b ≤ a → nat_lt a b ≡ false
never_later a b le = grind (arith, nat_tests)

-- a rule goes in by an insert before the first one of a later version
pub insert_at_place : (change : RuleChange) (rules : List RuleChange) → insert rules (position_or_len (λ rule. nat_lt change.version rule.version) rules) change ≡ insert_by_version change rules
insert_at_place change [] = refl
insert_at_place change (rule ∷ rules) =
    let place = position_or_len (λ other. nat_lt change.version other.version) rules in
    let one : 1 + place ≡ suc place = omega arith in
    elim (nat_lt change.version rule.version) as (λ later. insert (rule ∷ rules) (cond (not later) (1 + place) 0) change ≡ cond later (change ∷ rule ∷ rules) (rule ∷ insert_by_version change rules)) [
      | true ↦ refl
      | false ↦ rw one (ap (λ xs. rule ∷ xs) (insert_at_place change rules))
    ]

rises_from-lower : (low high : ℕ) (rules : List RuleChange) → low ≤ high → IsTrue (rises_from high rules) → IsTrue (rises_from low rules)
rises_from-lower low high [] le rises = refl
rises_from-lower low high (rule ∷ rules) le rises =
    let first : high ≤ rule.version = leb-true _ _ (and_first _ _ rises) in
    and_both _ _ (le-leb low rule.version (omega arith)) (and_second _ _ rises)

-- some rules of an order are in order
pub rises_from-filter : (test : RuleChange → Bool) (from : ℕ) (rules : List RuleChange) → IsTrue (rises_from from rules) → IsTrue (rises_from from (filter test rules))
rises_from-filter test from [] rises = refl
rises_from-filter test from (rule ∷ rules) rises =
    let rest = rises_from-filter test rule.version rules (and_second _ _ rises) in
    elim (test rule) as (λ kept. IsTrue (rises_from from (cond kept (rule ∷ filter test rules) (filter test rules)))) [
      | true ↦ and_both _ _ (and_first _ _ rises) rest
      | false ↦ rises_from-lower from rule.version _ (leb-true _ _ (and_first _ _ rises)) rest
    ]

rises_from-insert_by_version : (change : RuleChange) (from : ℕ) (rules : List RuleChange) → from ≤ change.version → IsTrue (rises_from from rules) → IsTrue (rises_from from (insert_by_version change rules))
rises_from-insert_by_version change from [] le rises = and_both _ _ (le-leb from change.version le) refl
rises_from-insert_by_version change from (rule ∷ rules) le rises =
    elim (nat_lt change.version rule.version) as (λ later. nat_lt change.version rule.version ≡ later → IsTrue (rises_from from (cond later (change ∷ rule ∷ rules) (rule ∷ insert_by_version change rules)))) [
      | true ↦ λ is.
          let lt : change.version < rule.version = ltb-true _ _ is in
          and_both _ _ (le-leb from change.version le) (and_both _ _ (le-leb change.version rule.version (omega arith)) (and_second _ _ rises))
      | false ↦ λ is. and_both _ _ (and_first _ _ rises) (rises_from-insert_by_version change rule.version rules (not_later _ _ is) (and_second _ _ rises))
    ] refl

-- a rule that is set keeps the order
pub by_version-with_change : (rules : List RuleChange) (change : RuleChange) → IsByVersion rules → IsByVersion (with_change rules change)
by_version-with_change rules change rises = rises_from-insert_by_version change 0 (without_name change.name rules) (omega arith) (rises_from-filter _ 0 rules rises)

insert_by_version_front : (change : RuleChange) (from : ℕ) (rules : List RuleChange) → change.version < from → IsTrue (rises_from from rules) → insert_by_version change rules ≡ change ∷ rules
insert_by_version_front change from [] lt rises = refl
insert_by_version_front change from (rule ∷ rules) lt rises =
    let first : from ≤ rule.version = leb-true _ _ (and_first _ _ rises) in
    ap (λ later. cond later (change ∷ rule ∷ rules) (rule ∷ insert_by_version change rules)) (lt-ltb change.version rule.version (omega arith))

rises_from_itself : (rule : RuleChange) (rules : List RuleChange) → IsTrue (rises_from rule.version rules) → IsTrue (rises_from rule.version (rule ∷ rules))
rises_from_itself rule rules rises = and_both _ _ (le-leb rule.version rule.version (omega arith)) rises

-- to place a rule and to leave some out are done in either turn
pub filter-insert_by_version : (test : RuleChange → Bool) (change : RuleChange) (from : ℕ) (rules : List RuleChange) → IsTrue (rises_from from rules)
    → filter test (insert_by_version change rules) ≡ cond (test change) (insert_by_version change (filter test rules)) (filter test rules)
filter-insert_by_version test change from [] rises = refl
filter-insert_by_version test change from (rule ∷ rules) rises =
    let others = filter test rules in
    let rest : filter test (insert_by_version change rules) ≡ cond (test change) (insert_by_version change others) others = filter-insert_by_version test change rule.version rules (and_second _ _ rises) in
    elim (nat_lt change.version rule.version) as (λ later. nat_lt change.version rule.version ≡ later → filter test (cond later (change ∷ rule ∷ rules) (rule ∷ insert_by_version change rules)) ≡ cond (test change) (insert_by_version change (filter test (rule ∷ rules))) (filter test (rule ∷ rules))) [
      | true ↦ λ is.
          let lt : change.version < rule.version = ltb-true _ _ is in
          ap (λ xs. cond (test change) xs (filter test (rule ∷ rules))) (sym (insert_by_version_front change rule.version _ lt (rises_from-filter test rule.version (rule ∷ rules) (rises_from_itself rule rules (and_second _ _ rises)))))
      | false ↦ λ is. elim (test rule) as (λ kept. cond kept (rule ∷ filter test (insert_by_version change rules)) (filter test (insert_by_version change rules)) ≡ cond (test change) (insert_by_version change (cond kept (rule ∷ others) others)) (cond kept (rule ∷ others) others)) [
        | true ↦ elim (test change) as (λ c. filter test (insert_by_version change rules) ≡ cond c (insert_by_version change others) others → rule ∷ filter test (insert_by_version change rules) ≡ cond c (insert_by_version change (rule ∷ others)) (rule ∷ others)) [
          | true ↦ λ e. ap (λ xs. rule ∷ xs) e ∙ sym (ap (λ later. cond later (change ∷ rule ∷ others) (rule ∷ insert_by_version change others)) is)
          | false ↦ λ e. ap (λ xs. rule ∷ xs) e
        ] rest
        | false ↦ rest
      ]
    ] refl

-- a rule of no lower version than any goes to the end
pub insert_by_version_end : (change : RuleChange) (bound : ℕ) (rules : List RuleChange) → bound ≤ change.version → IsTrue (list_all (λ rule. nat_le rule.version bound) rules) → insert_by_version change rules ≡ rules ++ change ∷ []
insert_by_version_end change bound [] le up_to = refl
insert_by_version_end change bound (rule ∷ rules) le up_to =
    let first : rule.version ≤ bound = leb-true _ _ (and_first _ _ up_to) in
    ap (λ later. cond later (change ∷ rule ∷ rules) (rule ∷ insert_by_version change rules)) (never_later change.version rule.version (omega arith)) ∙ ap (λ xs. rule ∷ xs) (insert_by_version_end change bound rules le (and_second _ _ up_to))
