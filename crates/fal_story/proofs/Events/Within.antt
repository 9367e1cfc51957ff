-- Rules are of nodes that are there: in each table that the placements have left, and in the changes that a Stale tells.
use Rattle.std.proofs.Common.{◌≡◌, ℕ, zero, suc, ◌+◌, ◌-◌, ◌<◌, Bool, true, false, cond, List, [], ◌∷◌, length, take, refl, sym, subst, arith, nat_lt}
use Rattle.std.specs.Prelude.{IsTrue, slice_get}
use Rattle.std.specs.List.{list_all}
use Rattle.std.proofs.lemmas.Bool.Decides.{nat_tests}
use Rattle.std.proofs.Math.Nat.{mod-lt}
use Rattle.fal_base.specs.declared.call.CallId.{CallId}
use Rattle.fal_base.specs.declared.call.Config.{Config}
use Rattle.fal_base.specs.declared.event.Actor.TheVariants.{Client}
use Rattle.fal_base.specs.declared.key.Key.{Key}
use Rattle.fal_base.specs.declared.rule.Rule.{Rule}
use Rattle.fal_base.specs.declared.rule.Rule.TheVariants as rule
use Rattle.fal_base.specs.declared.rule.RuleChange.{RuleChange}
use Rattle.fal_base.specs.Tree.{root_key}
use Rattle.fal_place.specs.Hash.{key_hash, name_hash}
use Rattle.fal_place.specs.Placement.{Placement, Placing, AllWithin, after_placings, changes_since, is_root_key, is_within, opening_table, owner, owner_by, route, rule_of, same_name, table_after, with_rule}
use Rattle.fal_place.proofs.Carried.{nodes-table_after}
use Rattle.fal_place.proofs.Rising.{and_both, and_first, and_second}
use Rattle.fal_place.proofs.Within.{list_all-filter, list_all-with_change, within-rule_found}
use Rattle.fal_wire.specs.declared.message.Message.TheVariants as message
use Rattle.fal_story.proofs.Events.Shows.{Ghost, Shows, posts_of}
use Rattle.fal_story.proofs.Events.Tables.{known_nodes}
use Rattle.fal_story.proofs.Trees.Rules.{route_lives}
use Rattle.fal_story.proofs.View.{IsPosted}
use Rattle.fal_story.specs.World.{World}

-- ---- tables

within_after : (nodes : ℕ) (table : Placement) (placings : List Placing) → IsTrue (list_all (λ placing. is_within nodes placing.rule) placings) → AllWithin nodes table.rules → AllWithin nodes (after_placings table placings).rules
within_after nodes table [] all is = is
within_after nodes table (placing ∷ placings) all is =
    let test = λ (p : Placing). is_within nodes p.rule in
    within_after nodes (with_rule table placing.name placing.rule) placings (and_second (test placing) (list_all test placings) all)
    (list_all-with_change (λ (c : RuleChange). is_within nodes c.rule) table.rules (record { name = placing.name; rule = placing.rule; version = table.version + 1 }) (and_first (test placing) (list_all test placings) all) is)

all_front : {A : Type 0} (test : A → Bool) (xs : List A) (n : ℕ) → IsTrue (list_all test xs) → IsTrue (list_all test (take n xs))
all_front test xs zero all = refl
all_front test [] (suc n) all = refl
all_front test (x ∷ xs) (suc n) all = and_both (test x) (list_all test (take n xs)) (and_first (test x) (list_all test xs) all) (all_front test xs n (and_second (test x) (list_all test xs) all))

-- the rules of a table that placements left
pub table_within : (nodes : ℕ) (placings : List Placing) (version : ℕ) → IsTrue (list_all (λ placing. is_within nodes placing.rule) placings) → AllWithin nodes (table_after nodes placings version).rules
table_within nodes placings version all = within_after nodes (opening_table nodes) (take version placings) (all_front (λ (p : Placing). is_within nodes p.rule) placings version all) refl

-- ---- where keys live

below_of : (a b : ℕ) → nat_lt a b ≡ true → a < b
below_of a b is = grind (arith, nat_tests)

owner_by_there : (nodes : ℕ) (key : Key) (r : Rule) → 0 < nodes → IsTrue (is_within nodes r) → owner_by nodes key r < nodes
owner_by_there nodes key rule.Hash some is = mod-lt (name_hash key.name) some
owner_by_there nodes key rule.ByParent some is = mod-lt (key_hash key.parent key.name) some
owner_by_there nodes key (rule.Node n) some is = below_of n nodes is

-- by a table whose rules are of nodes that are there a key lives at one that is there
owner_within : (table : Placement) (key : Key) → 0 < table.nodes → AllWithin table.nodes table.rules → owner table key < table.nodes
owner_within table key some all = elim (is_root_key key) as (λ b. cond b 0 (owner_by table.nodes key (rule_of table key.name)) < table.nodes) [
  | true ↦ some
  | false ↦ owner_by_there table.nodes key (rule_of table key.name) some (within-rule_found table.nodes (λ change. same_name change.name key.name) table.rules all)
]

-- ---- in a cluster

module _ (config : Config) (w : World) (h : Ghost) (s : Shows config w h) where
  -- by each table that was reached a key lives at a node that is there
  pub reached_lives : (j : ℕ) (key : Key) → owner (table_after config.nodes h.placings j) key < config.nodes
  reached_lives j key =
      let some : 0 < config.nodes = let root = s.good.ground.lives root_key in omega arith in
      let nodes = nodes-table_after config.nodes h.placings j in
      subst (λ n. owner (table_after config.nodes h.placings j) key < n) nodes
      (owner_within (table_after config.nodes h.placings j) key (subst (λ n. 0 < n) (sym nodes) some) (subst (λ n. AllWithin n (table_after config.nodes h.placings j).rules) (sym nodes) (table_within config.nodes h.placings j s.good.knowing.within)))

  -- and a call goes to one
  pub reached_route : (j : ℕ) (names : List (List ℕ)) → route (table_after config.nodes h.placings j) names < config.nodes
  reached_route j names = route_lives config.nodes (table_after config.nodes h.placings j) (nodes-table_after config.nodes h.placings j) (reached_lives j) (slice_get names (length names - 1))

  -- what a Stale tells
  pub stale_within : (l e p : ℕ) (id : CallId) (old new : ℕ) (changes : List RuleChange) → IsPosted (posts_of w.envelopes) e (Client l) p (message.Stale id old new changes)
      → list_all (λ change. is_within (w.clients l).table.nodes change.rule) changes ≡ true
  stale_within l e p id old new changes posted =
      let x = s.good.knowing.stale e p l id old new changes posted in
      let told : AllWithin config.nodes (changes_since old (table_after config.nodes h.placings new)) =
      list_all-filter (λ (c : RuleChange). is_within config.nodes c.rule) (λ (c : RuleChange). nat_lt old c.version) (table_after config.nodes h.placings new).rules (table_within config.nodes h.placings new s.good.knowing.within) in
      subst (λ n. AllWithin n changes) (sym (known_nodes config w h s l)) (subst (AllWithin config.nodes) (sym x.2) told)
