-- The walk of a path over a replica, which has of the tree's directories only those that it was told of.
use Rattle.std.specs.Prelude.{ℕ, Bool, not, List, [], ◌∷◌, Option, Some, None, if◌then◌else◌}
use Rattle.std.specs.List.{list_any}
use Rattle.std.specs.FinMap.Entries.{where_key}
use Rattle.fal_base.specs.declared.call.Cred.{Cred}
use Rattle.fal_base.specs.declared.reply.Errno.{Errno}
use Rattle.fal_base.specs.declared.reply.Errno.TheVariants.{Eacces}
use Rattle.fal_base.specs.declared.inode.Dentry.{Dentry}
use Rattle.fal_base.specs.declared.key.Key.{Key}
use Rattle.fal_base.specs.Tree.{key_cmp, key_of, root_key, same_key}
use Rattle.fal_base.specs.Walk.{dentry_grants}
use Rattle.fal_base.specs.Maps.{value_at}

abbrev pub Dentries : Type 0
Dentries = List (Key × Dentry)

-- where a walk over a replica ends, with the keys found before
pub data ReplicaWalk : Type 0 where
  Shut : Key → ReplicaWalk
  Missing : Key → List Key → ReplicaWalk
  Stop : Errno → List Key → ReplicaWalk
  -- the directory of the last name, and the numbers of the directories passed
  Ready : Option Dentry → List ℕ → List Key → ReplicaWalk

abbrev pub is_among : Key → List Key → Bool
is_among key keys = list_any (λ other. same_key other key) keys

-- the entries whose keys are none of these
abbrev pub without_keys : Dentries → List Key → Dentries
without_keys entries keys = where_key key_cmp (λ key. not (is_among key keys)) entries

-- one more directory was found under this key, with this number, and passed
abbrev pub past : Key → ℕ → ReplicaWalk → ReplicaWalk
past key ino (Shut shut) = Shut shut
past key ino (Missing gap keys) = Missing gap (key ∷ keys)
past key ino (Stop errno keys) = Stop errno (key ∷ keys)
past key ino (Ready parent inos keys) = Ready parent (ino ∷ inos) (key ∷ keys)

-- on into the directory under the key, where there is one
abbrev pub into_dir : Key → Option Dentry → (Dentry → ReplicaWalk) → ReplicaWalk
into_dir key None go = Missing key []
into_dir key (Some dir) go = go dir

-- on through the directory under the key: a shut key ends the walk before the look-up, and the look-up comes before the search check
abbrev pub walk_on : Dentries → Cred → List Key → Option Dentry → Key → List (List ℕ) → ReplicaWalk
walk_on entries cred shut parent key [] = Ready parent [] []
walk_on entries cred shut parent key (name ∷ names) =
    if is_among key shut then Shut key else into_dir key (value_at entries key) (λ dir.
    if dentry_grants cred 1 dir then past key dir.ino (walk_on entries cred shut (Some dir) (key_of dir.ino name) names) else Stop Eacces (key ∷ []))

-- from the root on
abbrev pub replica_walk : Dentries → Cred → List (List ℕ) → List Key → ReplicaWalk
replica_walk entries cred names shut = walk_on entries cred shut None root_key names
