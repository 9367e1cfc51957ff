-- The placement table: at which node the keys with a name live, by the rules that placement changes set.
use Rattle.std.specs.Prelude.{◌≡◌, ◌≤◌, ℕ, ◌+◌, ◌-◌, ◌%◌, Bool, true, not, ◌&&◌, List, [], ◌∷◌, length, take, filter, find, fold, Option, Some, None, IsTrue, if◌then◌else◌, ◌==◌, nat_lt, nat_le, slice_get}
use Rattle.std.specs.List.{list_any, list_all}
use Rattle.std.specs.Cmp.Lexicographic.{pointwise}
use Rattle.fal_base.specs.declared.key.Key.{Key}
use Rattle.fal_base.specs.declared.rule.Rule.{Rule}
use Rattle.fal_base.specs.declared.rule.Rule.TheVariants.{Hash, ByParent, Node}
use Rattle.fal_base.specs.declared.rule.RuleChange.{RuleChange}
use Rattle.fal_place.specs.Hash.{name_hash, key_hash}

-- how many nodes there are, how many changes were made, and the last rule of each name, the lowest version first
pub record Placement : Type 0 where
  pub nodes : ℕ
  pub version : ℕ
  pub rules : List RuleChange

abbrev pub same_name : List ℕ → List ℕ → Bool
same_name a b = pointwise ◌==◌ a b

-- whether a rule names no node, or one of so many nodes
abbrev pub is_within : ℕ → Rule → Bool
is_within nodes Hash = true
is_within nodes ByParent = true
is_within nodes (Node node) = nat_lt node nodes

-- Hash, or what was found
abbrev pub rule_found : Option RuleChange → Rule
rule_found None = Hash
rule_found (Some change) = change.rule

-- a name's rule, which is Hash where none was set
abbrev pub rule_of : Placement → List ℕ → Rule
rule_of table name = rule_found (find (λ change. same_name change.name name) table.rules)

abbrev pub has_rule : Placement → List ℕ → Bool
has_rule table name = list_any (λ change. same_name change.name name) table.rules

-- where a key lives by its name's rule
abbrev pub owner_by : ℕ → Key → Rule → ℕ
owner_by nodes key Hash = name_hash key.name % nodes
owner_by nodes key ByParent = key_hash key.parent key.name % nodes
owner_by nodes key (Node node) = node

abbrev pub is_root_key : Key → Bool
is_root_key key = (key.parent == 0) && (length key.name == 0)

-- the node at which a key lives: node 0 for the root's, else by the rule of the key's name
abbrev pub owner : Placement → Key → ℕ
owner table key = if is_root_key key then 0 else owner_by table.nodes key (rule_of table key.name)

-- where a call on a name goes by the name's rule: by ByParent too it goes to the hash's node, since no parent is known yet
abbrev pub route_by : ℕ → List ℕ → Rule → ℕ
route_by nodes name Hash = name_hash name % nodes
route_by nodes name ByParent = name_hash name % nodes
route_by nodes name (Node node) = node

-- where a call on a path with this last name goes, if it has one
abbrev pub route_of_last : Placement → Option (List ℕ) → ℕ
route_of_last table None = 0
route_of_last table (Some name) = route_by table.nodes name (rule_of table name)

-- the node to which a call on a path goes: node 0 for the root, else by the rule of the last name
abbrev pub route : Placement → List (List ℕ) → ℕ
route table names = route_of_last table (slice_get names (length names - 1))

-- the rules of the other names
abbrev pub without_name : List ℕ → List RuleChange → List RuleChange
without_name name rules = filter (λ change. not (same_name change.name name)) rules

-- the rules with this one in its place: before the first of a later version
abbrev pub insert_by_version : RuleChange → List RuleChange → List RuleChange
insert_by_version change [] = change ∷ []
insert_by_version change (rule ∷ rules) = if nat_lt change.version rule.version then change ∷ rule ∷ rules else rule ∷ insert_by_version change rules

-- the rules after this one is set, in place of its name's earlier one
abbrev pub with_change : List RuleChange → RuleChange → List RuleChange
with_change rules change = insert_by_version change (without_name change.name rules)

-- the table with no rules
abbrev pub opening_table : ℕ → Placement
opening_table nodes = record { nodes = nodes; version = 0; rules = [] }

-- the table of the next version, in which a name has this rule
abbrev pub with_rule : Placement → List ℕ → Rule → Placement
with_rule table name rule =
    record { nodes = table.nodes; version = table.version + 1; rules = with_change table.rules (record { name = name; rule = rule; version = table.version + 1 }) }

-- whether there is no room for a rule of this name: there are 1,024 rules, and none is the name's
abbrev pub is_full_for : Placement → List ℕ → Bool
is_full_for table name = nat_le 1024 (length table.rules) && not (has_rule table name)

-- the rules set after a version
abbrev pub changes_since : ℕ → Placement → List RuleChange
changes_since version table = filter (λ change. nat_lt version change.version) table.rules

-- the table of that version, after it took these changes in turn
abbrev pub with_changes : Placement → ℕ → List RuleChange → Placement
with_changes table to changes = record { nodes = table.nodes; version = to; rules = fold with_change table.rules changes }

-- a placement change: a name and the rule that it gets
pub record Placing : Type 0 where
  pub name : List ℕ
  pub rule : Rule

-- a table after some placement changes
abbrev pub after_placings : Placement → List Placing → Placement
after_placings table placings = fold (λ t placing. with_rule t placing.name placing.rule) table placings

-- the table of a version: what the first so many placement changes leave, the last one of each name
abbrev pub table_after : ℕ → List Placing → ℕ → Placement
table_after nodes placings version = after_placings (opening_table nodes) (take version placings)

-- a table that took changes has caught up: where it was the table of a version, and the changes are what the table of a later version
-- tells since then, it is now that later table
abbrev pub CatchesUp : Placement → ℕ → List RuleChange → Placement → Type 0
CatchesUp old to changes new =
    (nodes : ℕ) (placings : List Placing) (from : ℕ) → from ≤ to → to ≤ length placings
    → old ≡ table_after nodes placings from → changes ≡ changes_since from (table_after nodes placings to) → new ≡ table_after nodes placings to

-- whether no version is below the one before it, from this one on
abbrev pub rises_from : ℕ → List RuleChange → Bool
rises_from version [] = true
rises_from version (change ∷ changes) = nat_le version change.version && rises_from change.version changes

-- no rule stands before one of a lower version
abbrev pub IsByVersion : List RuleChange → Type 0
IsByVersion changes = IsTrue (rises_from 0 changes)

-- no rule names a node that is not there
abbrev pub AllWithin : ℕ → List RuleChange → Type 0
AllWithin nodes changes = IsTrue (list_all (λ change. is_within nodes change.rule) changes)

-- what holds of each table: 1 to 16 nodes, rules for these nodes alone, in the order of their versions
pub record IsSoundTable (nodes : ℕ) (rules : List RuleChange) : Type 0 where
  pub some_nodes : 1 ≤ nodes
  pub few_nodes : nodes ≤ 16
  pub within : AllWithin nodes rules
  pub by_version : IsByVersion rules
