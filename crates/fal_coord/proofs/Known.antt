-- What the coordinator's walks meet.
use Rattle.std.proofs.Common.{◌≡◌, ℕ, true, false, cond, List, [], ◌∷◌, ◌++◌, Some, refl, sym, ap, ◌∙◌, append_assoc}
use Rattle.std.specs.FinMap.Entries.{find-put}
use Rattle.fal_base.specs.declared.key.Key.{Key}
use Rattle.fal_base.specs.Maps.{value_at}
use Rattle.fal_base.specs.Tree.{key_cmp, same_key}
use Rattle.fal_base.proofs.Order.{key_cmp_total}
use Rattle.fal_dentry.specs.Walk as replica
use Rattle.fal_dentry.specs.Walk.{Dentries, ReplicaWalk, past, replica_walk}
use Rattle.fal_coord.specs.declared.paths_walk.PathsWalk.{PathsWalk}
use Rattle.fal_coord.specs.declared.walks.Learned.{Learned}
use Rattle.fal_coord.specs.declared.walks.WalkEnd.TheVariants as end
use Rattle.fal_coord.specs.Known.{with_learned, ended, joined}
use Rattle.fal_coord.specs.Walks.{and_then}

-- what is learned stands under its key
pub known_same : (entries : Dentries) (learned : Learned) (q : Key) → same_key q learned.key ≡ true → value_at (with_learned entries (Some learned)) q ≡ Some learned.dentry
known_same entries learned q is = find-put key_cmp key_cmp_total q learned.key learned.dentry entries ∙ ap (λ b. cond b (Some learned.dentry) (value_at entries q)) is

-- and nothing else is new
pub known_other : (entries : Dentries) (learned : Learned) (q : Key) → same_key q learned.key ≡ false → value_at (with_learned entries (Some learned)) q ≡ value_at entries q
known_other entries learned q is = find-put key_cmp key_cmp_total q learned.key learned.dentry entries ∙ ap (λ b. cond b (Some learned.dentry) (value_at entries q)) is

-- one directory more was passed
pub ended_past : (inos : List ℕ) (key : Key) (ino : ℕ) (walk : ReplicaWalk) → ended inos (past key ino walk) ≡ ended (inos ++ ino ∷ []) walk
ended_past inos key ino (replica.Shut shut) = refl
ended_past inos key ino (replica.Missing gap keys) = refl
ended_past inos key ino (replica.Stop errno keys) = refl
ended_past inos key ino (replica.Ready parent others keys) = ap (λ ns. end.Ready (record { parent = parent; inos = ns })) (sym (append_assoc inos (ino ∷ []) others))

-- where a path is ready, the rest follows
pub joined_walk : (walk : ReplicaWalk) (rest : PathsWalk) → joined (ended [] walk) rest ≡ and_then walk rest
joined_walk (replica.Shut shut) rest = refl
joined_walk (replica.Missing gap keys) rest = refl
joined_walk (replica.Stop errno keys) rest = refl
joined_walk (replica.Ready parent others keys) rest = refl
