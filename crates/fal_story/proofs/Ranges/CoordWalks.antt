-- The ends of walks over a replica whose directories can be spelled.
use Rattle.std.proofs.Common.{◌≡◌, ℕ, ◌+◌, ◌<◌, ◌≤◌, true, false, not, cond, List, [], ◌∷◌, ◌++◌, length, Option, Some, None, refl, sym, ap, ◌∙◌, subst, arith}
use Rattle.std.specs.FinMap.Entries.{find-where_key}
use Rattle.fal_base.specs.declared.call.Cred.{Cred}
use Rattle.fal_base.specs.declared.inode.Dentry.{Dentry}
use Rattle.fal_base.specs.declared.key.Key.{Key}
use Rattle.fal_base.specs.declared.reply.Errno.TheVariants.{Eacces}
use Rattle.fal_base.specs.Maps.{value_at}
use Rattle.fal_base.specs.Tree.{key_cmp, key_of, root_key}
use Rattle.fal_base.specs.Walk.{dentry_grants}
use Rattle.fal_base.proofs.Order.{same_of_tied}
use Rattle.fal_coord.specs.declared.paths_walk.PathsWalk.{PathsWalk}
use Rattle.fal_coord.specs.declared.paths_walk.PathsWalk.TheVariants as paths
use Rattle.fal_coord.specs.declared.stage.PathWalk.{PathWalk}
use Rattle.fal_coord.specs.Walks.{and_then, with_walk, walk_paths, parents_of, with_key, with_ends}
use Rattle.fal_dentry.specs.TreeWalk.{last_key, last_name}
use Rattle.fal_dentry.specs.Walk.{Dentries, ReplicaWalk, Shut, Missing, Stop, Ready, is_among, past, into_dir, walk_on, replica_walk, without_keys}
use Rattle.fal_wire.specs.Names.{key_field}
use Rattle.fal_wire.specs.Rows.{dentry_field}
use Rattle.fal_story.proofs.Lists.Each.{Each, each_join}
use Rattle.fal_story.proofs.Ranges.CoordBounds.{EndsFit}
use Rattle.fal_story.proofs.Ranges.FateRanges.{AreDentriesRanged, NamesFit}
use Rattle.fal_story.proofs.Ranges.MessageRanges.{root_fits, under_fits}

-- ---- a replica that some keys leave

pub without_ranged : (entries : Dentries) (keys : List Key) → AreDentriesRanged entries → AreDentriesRanged (without_keys entries keys)
without_ranged entries keys ranged q dentry is =
    elim (is_among q keys) as (λ b. cond (not b) (value_at entries q) None ≡ Some dentry → dentry_field.Fits dentry) [
      | true ↦ λ e. absurd (cc)
      | false ↦ λ e. ranged q dentry e
    ] (sym (find-where_key key_cmp (λ key. not (is_among key keys)) q (λ x tied. ap (λ k. not (is_among k keys)) (sym (same_of_tied q x tied))) entries) ∙ is)

-- ---- one walk

-- the key that is lacking can be spelled, or the last one of the path
abbrev IsEndFit : List (List ℕ) → ReplicaWalk → Type 0
IsEndFit names (Shut key) = ⊥
IsEndFit names (Missing key keys) = key_field.Fits key
IsEndFit names (Stop errno keys) = Unit {0}
IsEndFit names (Ready parent inos keys) = key_field.Fits (last_key parent (last_name names))

past_fit : (key : Key) (ino : ℕ) (given names : List (List ℕ)) (walk : ReplicaWalk) → IsEndFit names walk → last_name given ≡ last_name names → IsEndFit given (past key ino walk)
past_fit key ino given names (Shut shut) h same = h
past_fit key ino given names (Missing gap keys) h same = h
past_fit key ino given names (Stop errno keys) h same = tt
past_fit key ino given names (Ready parent inos keys) h same = subst (λ name. key_field.Fits (last_key parent name)) (sym same) h

into_fit : (names : List (List ℕ)) (key : Key) (found : Option Dentry) (go : Dentry → ReplicaWalk) → key_field.Fits key → ((dir : Dentry) → found ≡ Some dir → IsEndFit names (go dir)) → IsEndFit names (into_dir key found go)
into_fit names key None go fits h = fits
into_fit names key (Some dir) go fits h = h dir refl

under_fit : (entries : Dentries) (cred : Cred) (dir : Dentry) (name : List ℕ) (names : List (List ℕ)) → AreDentriesRanged entries → key_field.Fits (key_of dir.ino name) → NamesFit names
    → IsEndFit (name ∷ names) (walk_on entries cred [] (Some dir) (key_of dir.ino name) names)
under_fit entries cred dir name [] ranged fits named = fits
under_fit entries cred dir name (next ∷ names) ranged fits named =
    let key = key_of dir.ino name in
    into_fit (name ∷ next ∷ names) key (value_at entries key) _ fits
    (λ inner there.
    elim (dentry_grants cred 1 inner) as (λ b. IsEndFit (name ∷ next ∷ names) (cond b (past key inner.ino (walk_on entries cred [] (Some inner) (key_of inner.ino next) names)) (Stop Eacces (key ∷ [])))) [
      | true ↦ past_fit key inner.ino (name ∷ next ∷ names) (next ∷ names) _ (under_fit entries cred inner next names ranged (under_fits inner next (ranged key inner there) named.0) named.1) refl
      | false ↦ tt
    ])

walk_fit : (entries : Dentries) (cred : Cred) (names : List (List ℕ)) → AreDentriesRanged entries → NamesFit names → IsEndFit names (replica_walk entries cred names [])
walk_fit entries cred [] ranged named = root_fits
walk_fit entries cred (name ∷ names) ranged named =
    into_fit (name ∷ names) root_key (value_at entries root_key) _ root_fits
    (λ dir there.
    elim (dentry_grants cred 1 dir) as (λ b. IsEndFit (name ∷ names) (cond b (past root_key dir.ino (walk_on entries cred [] (Some dir) (key_of dir.ino name) names)) (Stop Eacces (root_key ∷ [])))) [
      | true ↦ past_fit root_key dir.ino (name ∷ names) (name ∷ names) _ (under_fit entries cred dir name names ranged (under_fits dir name (ranged root_key dir there) named.0) named.1) refl
      | false ↦ tt
    ])

-- ---- the walks of an operation

-- the key that is lacking can be spelled, or the last key of each path
abbrev pub ArePathsFit : List (List (List ℕ)) → PathsWalk → Type 0
ArePathsFit given (paths.Stopped errno) = Unit {0}
ArePathsFit given (paths.Lacking key) = key_field.Fits key
ArePathsFit given (paths.Ready walks) = EndsFit given (parents_of walks)

with_fit : (names : List (List ℕ)) (given : List (List (List ℕ))) (walk : PathWalk) (rest : PathsWalk) → key_field.Fits (last_key walk.parent (last_name names)) → ArePathsFit given rest
    → ArePathsFit (names ∷ given) (with_walk walk rest)
with_fit names given walk (paths.Stopped errno) here h = tt
with_fit names given walk (paths.Lacking key) here h = h
with_fit names given walk (paths.Ready walks) here h = (here, h)

then_fit : (names : List (List ℕ)) (given : List (List (List ℕ))) (walk : ReplicaWalk) (rest : PathsWalk) → IsEndFit names walk → ArePathsFit given rest → ArePathsFit (names ∷ given) (and_then walk rest)
then_fit names given (Shut key) rest here h = absurd here
then_fit names given (Missing key keys) rest here h = here
then_fit names given (Stop errno keys) rest here h = tt
then_fit names given (Ready parent inos keys) rest here h = with_fit names given (record { parent = parent; inos = inos }) rest here h

pub paths_fit : (entries : Dentries) (cred : Cred) (given : List (List (List ℕ))) → AreDentriesRanged entries → Each NamesFit given → ArePathsFit given (walk_paths entries cred given)
paths_fit entries cred [] ranged named = tt
paths_fit entries cred (names ∷ given) ranged named =
    then_fit names given (replica_walk entries cred names []) (walk_paths entries cred given) (walk_fit entries cred names ranged named.0) (paths_fit entries cred given ranged named.1)

-- ---- the keys of an operation

-- no more keys than there are paths beside those before, none is lost, and there is one where there is a path
record AreEnds (before given keys : ℕ) : Type 0 where
  most : keys ≤ before + given
  least : before ≤ keys
  some : 0 < given → 0 < keys

with_key_ends : (keys : List Key) (key : Key) → Each key_field.Fits keys → key_field.Fits key
    → Each key_field.Fits (with_key keys key) × (length (with_key keys key) ≤ length keys + 1) × (0 < length (with_key keys key)) × (length keys ≤ length (with_key keys key))
with_key_ends [] key fits of_key = ((of_key, tt), omega arith, omega arith, omega arith)
with_key_ends (k ∷ keys) key fits of_key =
    elim (is_among key (k ∷ keys)) as (λ b. Each key_field.Fits (cond b (k ∷ keys) (k ∷ (keys ++ key ∷ []))) × (length (cond b (k ∷ keys) (k ∷ (keys ++ key ∷ []))) ≤ length (k ∷ keys) + 1)
    × (0 < length (cond b (k ∷ keys) (k ∷ (keys ++ key ∷ [])))) × (length (k ∷ keys) ≤ length (cond b (k ∷ keys) (k ∷ (keys ++ key ∷ []))))) [
      | true ↦ (fits, omega arith, omega arith, omega arith)
      | false ↦ let one = pushed keys key in ((fits.0, each_join _ keys (key ∷ []) fits.1 (of_key, tt)), omega arith, omega arith, omega arith)
    ]
  where
    pushed : (keys : List Key) (key : Key) → length (keys ++ key ∷ []) ≡ length keys + 1
    pushed [] key = refl
    pushed (k ∷ keys) key = let h = pushed keys key in omega arith

ends_from : (keys : List Key) (given : List (List (List ℕ))) (walks : List PathWalk) → EndsFit given (parents_of walks) → Each key_field.Fits keys
    → Each key_field.Fits (with_ends keys given walks) × AreEnds (length keys) (length given) (length (with_ends keys given walks))
ends_from keys [] [] ends fits = (fits, record { most = omega arith; least = omega arith; some = λ some. absurd (omega arith) })
ends_from keys [] (walk ∷ walks) ends fits = absurd ends
ends_from keys (names ∷ given) [] ends fits = absurd ends
ends_from keys (names ∷ given) (walk ∷ walks) ends fits =
    let key = last_key walk.parent (last_name names) in
    let here = with_key_ends keys key fits ends.0 in
    let most = here.1 in
    let some = here.2 in
    let least = here.3 in
    let rest = ends_from (with_key keys key) given walks ends.1 here.0 in
    let rest_most = rest.1.most in
    let rest_least = rest.1.least in
    (rest.0, record { most = omega arith; least = omega arith; some = λ _. omega arith })

-- the last keys of one or two paths
pub record AreLasts (keys : List Key) : Type 0 where
  pub some : 0 < length keys
  pub few : length keys ≤ 2
  pub fit : Each key_field.Fits keys

pub ends_are : (given : List (List (List ℕ))) (walks : List PathWalk) → 0 < length given → length given ≤ 2 → EndsFit given (parents_of walks) → AreLasts (with_ends [] given walks)
ends_are given walks some few ends =
    let h = ends_from [] given walks ends tt in
    let most = h.1.most in
    record { some = h.1.some some; few = omega arith; fit = h.0 }
