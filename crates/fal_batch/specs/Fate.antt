-- What a node does with one call that waits at it, but for the limit of the batch.
use Rattle.std.specs.Prelude.{ℕ, ◌-◌, Bool, true, false, not, ◌&&◌, List, [], ◌∷◌, ◌++◌, length, slice_get, Option, Some, None, if◌then◌else◌, ◌==◌, nat_lt}
use Rattle.fal_base.specs.declared.barred.Barred.{Barred}
use Rattle.fal_base.specs.declared.barred.Barred.TheVariants as barred
use Rattle.fal_base.specs.declared.call.CallRec.{CallRec}
use Rattle.fal_base.specs.declared.inode.Dentry.{Dentry}
use Rattle.fal_base.specs.declared.key.Key.{Key}
use Rattle.fal_base.specs.declared.rule.Rule.{Rule}
use Rattle.fal_base.specs.declared.rule.Rule.TheVariants.{Hash, ByParent, Node}
use Rattle.fal_base.specs.OpPaths.{op_names}
use Rattle.fal_base.specs.Tree.{root_key}
use Rattle.fal_dentry.specs.Walk.{Dentries, ReplicaWalk, Shut, Missing, Stop, Ready, is_among, replica_walk}
use Rattle.fal_dentry.specs.TreeWalk.{last_name, last_key}
use Rattle.fal_place.specs.Placement.{Placement, same_name, rule_of, owner, route}

-- what the node has at hand: its number, its placement table, the names that are blocked, the directories it knows of, the keys that are shut, and the most calls of a batch
pub record Setting : Type 0 where
  pub me : ℕ
  pub table : Placement
  pub blocked : Barred
  pub dentries : Dentries
  pub shut : List Key
  pub limit : ℕ

-- what becomes of a call
pub data Fate : Type 0 where
  Skips : Fate
  -- to this node, or to its client
  Leaves : Option ℕ → Fate
  -- on a fetch of this key
  Waits : Key → Fate
  -- whether it is denied, the directory of its last name, its last key, and the keys that the batch holds for it
  Joins : Bool → Option Dentry → Key → List Key → Fate

-- the last name. The root path has none
abbrev pub last_of : List (List ℕ) → Option (List ℕ)
last_of names = slice_get names (length names - 1)

-- all names are every name but the empty one, which is the root's
abbrev pub bars : Barred → List ℕ → Bool
bars barred.Nothing name = false
bars (barred.One other) name = same_name other name
bars barred.All name = not (length name == 0)

-- whether the last name is blocked. The root path is not
abbrev pub is_blocked : Barred → Option (List ℕ) → Bool
is_blocked blocked None = false
is_blocked blocked (Some name) = bars blocked name

abbrev pub is_by_parent : Rule → Bool
is_by_parent Hash = false
is_by_parent ByParent = true
is_by_parent (Node node) = false

-- whether the last name's keys live by the hash of parent and name. The root's key does not
abbrev pub goes_by_parent : Placement → Option (List ℕ) → Bool
goes_by_parent table None = false
goes_by_parent table (Some name) = is_by_parent (rule_of table name)

-- whether the call comes from its client, with a table that is older than this one
abbrev pub is_stale : Placement → CallRec → Bool
is_stale table call = (call.id.hop == 0) && nat_lt call.version table.version

-- a call that belongs to another node goes there, unless its client is to be told of its old table
abbrev pub away_to : Placement → CallRec → ℕ → Option ℕ
away_to table call node = if is_stale table call then None else Some node

-- the keys of the directories found on the way
abbrev pub walked_keys : ReplicaWalk → List Key
walked_keys (Shut key) = []
walked_keys (Missing key keys) = keys
walked_keys (Stop errno keys) = keys
walked_keys (Ready parent inos keys) = keys

-- the call has reached this key, and with it these directories
abbrev pub fate_at : Setting → Bool → Option Dentry → List Key → Key → Fate
fate_at s by_parent parent keys last =
    if by_parent && not (owner s.table last == s.me) then Leaves (Some (owner s.table last)) else
    if is_among last s.shut then Skips else Joins false parent last (keys ++ last ∷ [])

abbrev pub fate_walked : Setting → List (List ℕ) → ReplicaWalk → Fate
fate_walked s names (Shut key) = Skips
fate_walked s names (Missing key keys) = Waits key
fate_walked s names (Stop errno keys) = Joins true None root_key keys
fate_walked s names (Ready parent inos keys) = fate_at s (goes_by_parent s.table (last_of names)) parent keys (last_key parent (last_name names))

abbrev pub walk_of : Setting → CallRec → List (List ℕ) → ReplicaWalk
walk_of s call names = replica_walk s.dentries call.cred names s.shut

-- whether the last name alone tells that the call belongs to another node
abbrev pub is_elsewhere : Setting → List (List ℕ) → Bool
is_elsewhere s names = not (goes_by_parent s.table (last_of names)) && not (route s.table names == s.me)

-- a call whose op has not exactly one good path is none for a batch
abbrev pub fate_by : Setting → CallRec → Option (List (List ℕ)) → Fate
fate_by s call None = Skips
fate_by s call (Some names) =
    if is_blocked s.blocked (last_of names) then Skips else
    if is_elsewhere s names then Leaves (away_to s.table call (route s.table names)) else fate_walked s names (walk_of s call names)

-- in this order: its last name is blocked; it belongs to another node by its last name alone; its walk meets a shut key, lacks a directory, or is denied search;
-- it belongs to another node by its last key; its last key is shut; or else it is ready
unfoldable pub fate : Setting → CallRec → Fate
fate s call = fate_by s call (op_names call.op)
