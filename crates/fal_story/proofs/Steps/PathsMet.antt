-- What the coordinator's walks over a replica of true entries say of the tree's walks: they stop where these do, lack a key to which these come, or are ready as these are.
use Rattle.std.proofs.Common.{◌≡◌, ℕ, suc, true, false, ◌||◌, ◌&&◌, List, [], ◌∷◌, length, Option, Some, None, if◌then◌else◌, refl, sym, ap, ◌∙◌}
use Rattle.std.specs.List.{All}
use Rattle.std.proofs.lemmas.List.Elements.{All-cons, All-nil}
use Rattle.fal_base.specs.declared.call.Cred.{Cred}
use Rattle.fal_base.specs.declared.inode.Dentry.{Dentry}
use Rattle.fal_base.specs.declared.key.Key.{Key}
use Rattle.fal_base.specs.declared.reply.Errno.TheVariants.{Eacces}
use Rattle.fal_base.specs.Maps.{value_at}
use Rattle.fal_base.specs.Tree.{Tree, key_of, root_key}
use Rattle.fal_base.specs.Walk.{dentry_grants, walk}
use Rattle.fal_coord.specs.declared.paths_walk.PathsWalk.{PathsWalk}
use Rattle.fal_coord.specs.declared.paths_walk.PathsWalk.TheVariants.{Stopped, Lacking, Ready}
use Rattle.fal_coord.specs.Walks.{walk_paths, and_then}
use Rattle.fal_dentry.specs.TreeWalk.{way}
use Rattle.fal_dentry.specs.Walk as replica
use Rattle.fal_dentry.specs.Walk.{Dentries, ReplicaWalk, is_among, into_dir, past, replica_walk, walk_on}
use Rattle.fal_story.proofs.Events.Doing.{kept_walks}
use Rattle.fal_story.proofs.Families.Operation.{IsKept}
use Rattle.fal_story.proofs.Lists.Grown.{or_second}
use Rattle.fal_story.proofs.Trees.Footprint.{comes_among}
use Rattle.fal_story.proofs.Trees.Met.{AreDirs, Met, met_way}
use Rattle.fal_story.proofs.Trees.PathWalks.{first_stop, stop_or}
use Rattle.fal_story.proofs.Trees.Standing.{is_ready, reaches}

-- ---- a walk over a replica stops for want of search permission alone

abbrev StopsAsDenied : ReplicaWalk → Type 0
StopsAsDenied (replica.Stop errno keys) = errno ≡ Eacces
StopsAsDenied other = Unit {0}

denied_past : (key : Key) (ino : ℕ) (end : ReplicaWalk) → StopsAsDenied end → StopsAsDenied (past key ino end)
denied_past key ino (replica.Shut shut) is = tt
denied_past key ino (replica.Missing gap keys) is = tt
denied_past key ino (replica.Stop errno keys) is = is
denied_past key ino (replica.Ready parent inos keys) is = tt

denied_on : (entries : Dentries) (cred : Cred) (parent : Option Dentry) (key : Key) (names : List (List ℕ)) → StopsAsDenied (walk_on entries cred [] parent key names)
denied_on entries cred parent key [] = tt
denied_on entries cred parent key (name ∷ names) =
    let beyond = λ (dir : Dentry). past key dir.ino (walk_on entries cred [] (Some dir) (key_of dir.ino name) names) in
    elim (value_at entries key) as (λ o. StopsAsDenied (into_dir key o (λ dir. if dentry_grants cred 1 dir then beyond dir else replica.Stop Eacces (key ∷ [])))) [
      | None ↦ tt
      | Some dir ↦ elim (dentry_grants cred 1 dir) as (λ b. StopsAsDenied (if b then beyond dir else replica.Stop Eacces (key ∷ []))) [
        | true ↦ denied_past key dir.ino _ (denied_on entries cred (Some dir) (key_of dir.ino name) names)
        | false ↦ refl
      ]
    ]

-- ---- the walks of several paths

module _ (tree : Tree) (entries : Dentries) (cred : Cred) where
  -- of the tree's walks of these paths, by how those over the replica end
  abbrev pub AreMet : List (List (List ℕ)) → PathsWalk → Type 0
  AreMet paths (Stopped errno) = (errno ≡ Eacces) × (first_stop tree cred paths ≡ Some errno)
  AreMet paths (Lacking key) = reaches tree cred paths key ≡ true
  AreMet paths (Ready walks) = All (IsKept tree cred) (kept_walks paths walks) × (length walks ≡ length paths)

  ready_met : (names : List (List ℕ)) (paths : List (List (List ℕ))) (parent : Option Dentry) (inos : List ℕ) (keys : List Key) → Met tree entries cred [] names (way tree cred names) (walk tree cred names) (replica.Ready parent inos keys)
      → (later : PathsWalk) → AreMet paths later → AreMet (names ∷ paths) (and_then (replica.Ready parent inos keys) later)
  ready_met names paths parent inos keys met (Stopped errno) is = (is.0, ap (λ w. stop_or w (first_stop tree cred paths)) met.0.1 ∙ is.1)
  ready_met names paths parent inos keys met (Lacking key) is =
      or_second (is_among key (way tree cred names)) _ (ap (λ w. is_ready w && reaches tree cred paths key) met.0.1 ∙ is)
  ready_met names paths parent inos keys met (Ready walks) is = (All-cons (IsKept tree cred) _ _ (met.0.0, (met.0.1, met.0.2)) is.0, ap suc is.1)

  met_end : (names : List (List ℕ)) (paths : List (List (List ℕ))) (end : ReplicaWalk) → Met tree entries cred [] names (way tree cred names) (walk tree cred names) end → StopsAsDenied end
      → (later : PathsWalk) → AreMet paths later → AreMet (names ∷ paths) (and_then end later)
  met_end names paths (replica.Shut key) met denied later is = let none = met.3 in absurd (cc)
  met_end names paths (replica.Missing gap keys) met denied later is = ap (λ b. b || (is_ready (walk tree cred names) && reaches tree cred paths gap)) (comes_among gap (way tree cred names) keys met.0)
  met_end names paths (replica.Stop errno keys) met denied later is = (denied, ap (λ w. stop_or w (first_stop tree cred paths)) met.0 ∙ ap (λ e. Some e) (sym denied))
  met_end names paths (replica.Ready parent inos keys) met denied later is = ready_met names paths parent inos keys met later is

  pub met_paths : AreDirs tree entries → (paths : List (List (List ℕ))) → AreMet paths (walk_paths entries cred paths)
  met_paths dirs [] = (All-nil (IsKept tree cred), refl)
  met_paths dirs (names ∷ paths) =
      met_end names paths (replica_walk entries cred names []) (met_way tree entries cred [] dirs names) (denied_on entries cred None root_key names) (walk_paths entries cred paths) (met_paths dirs paths)
