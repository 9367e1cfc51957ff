-- Each row of the tree that commits leave stands under the root's key, or under one that has a name.
use Rattle.std.proofs.Common.{◌≡◌, ◌⊎◌, inl, inr, ⊎_elim, ℕ, true, false, cond, not, ◌&&◌, List, [], ◌∷◌, Option, Some, None, refl, sym, ◌∙◌, subst}
use Rattle.std.specs.Prelude.{IsTrue}
use Rattle.std.specs.List.{list_all}
use Rattle.fal_base.specs.declared.call.Config.{Config}
use Rattle.fal_base.specs.declared.call.Cred.{Cred}
use Rattle.fal_base.specs.declared.entry.Entry.{Entry}
use Rattle.fal_base.specs.declared.inode.Inode.{Inode}
use Rattle.fal_base.specs.declared.inode.Kind.TheVariants.{Dir, File}
use Rattle.fal_base.specs.declared.key.Key.{Key}
use Rattle.fal_base.specs.declared.op.Op.{Op}
use Rattle.fal_base.specs.declared.op.Op.TheVariants as op
use Rattle.fal_base.specs.declared.path.PathArg.{PathArg}
use Rattle.fal_base.specs.declared.path.PathArg.TheVariants.{Good, Bad}
use Rattle.fal_base.specs.declared.reply.Errno.TheVariants.{Eacces, Enotdir}
use Rattle.fal_base.specs.Change.{change, last_key_of, makes, move, new_row, update}
use Rattle.fal_base.specs.Commits.{Commit, AreLegalFrom, tree_after}
use Rattle.fal_base.specs.Names.{is_name}
use Rattle.fal_base.specs.OpPaths.{bad_path}
use Rattle.fal_base.specs.Tree.{Tree, tree0, key_of, root_key, row_at, with_row, without_row}
use Rattle.fal_base.specs.Transcript.{commits_of}
use Rattle.fal_base.specs.Walk.{Walked, Stop, Ready, walk, walk_from, into, passing, is_dir, grants}
use Rattle.fal_base.proofs.Maps.{put_cases}
use Rattle.fal_base.proofs.Numbers.{gone_some}
use Rattle.fal_batch.proofs.Truth.{both_first, both_second}
use Rattle.fal_wire.specs.Names.{path_arg_field}
use Rattle.fal_wire.specs.Ops.{op_field, path_and_mode, two_paths}
use Rattle.fal_story.proofs.Events.ServedCalls.{call_is}
use Rattle.fal_story.proofs.Lists.Each.{Each}
use Rattle.fal_story.proofs.Ranges.Counts.{commits_each}
use Rattle.fal_story.proofs.Ranges.Fitting.{path_passes}
use Rattle.fal_story.proofs.Trees.Commits.{tree_at_end}
use Rattle.fal_story.proofs.Trees.Standing.{tree_now}
use Rattle.fal_story.specs.Clusters.{IsCluster}

-- the root's key, or a key that has a name
abbrev pub IsNamedKey : Key → Type 0
IsNamedKey key = (key ≡ root_key) ⊎ (is_name key.name ≡ true)

abbrev IsNamed : Tree → Type 0
IsNamed tree = (key : Key) (row : Inode) → row_at tree key ≡ Some row → IsNamedKey key

-- ---- where walks end

abbrev EndsNamed : Walked → Type 0
EndsNamed (Stop errno) = Unit {0}
EndsNamed (Ready parent passed last) = IsNamedKey last

passing_named : (ino : ℕ) (w : Walked) → EndsNamed w → EndsNamed (passing ino w)
passing_named ino (Stop errno) is = tt
passing_named ino (Ready parent passed last) is = is

into_named : (row : Option Inode) (go : Inode → Walked) → ((dir : Inode) → EndsNamed (go dir)) → EndsNamed (into row go)
into_named None go later = tt
into_named (Some dir) go later = elim (is_dir dir) as (λ b. EndsNamed (cond b (go dir) (Stop Enotdir))) [ true ↦ later dir | false ↦ tt ]

from_named : (tree : Tree) (cred : Cred) (dir : Inode) (names : List (List ℕ)) → list_all is_name names ≡ true → EndsNamed (walk_from tree cred dir names)
from_named tree cred dir [] all = inl refl
from_named tree cred dir (name ∷ []) all =
    elim (grants cred 1 dir) as (λ b. EndsNamed (cond b (Ready (Some dir) (dir.ino ∷ []) (key_of dir.ino name)) (Stop Eacces))) [ true ↦ inr (both_first (is_name name) true all) | false ↦ tt ]
from_named tree cred dir (name ∷ next ∷ names) all =
    elim (grants cred 1 dir) as (λ b. EndsNamed (cond b (into (row_at tree (key_of dir.ino name)) (λ inner. passing dir.ino (walk_from tree cred inner (next ∷ names)))) (Stop Eacces))) [
      | true ↦ into_named (row_at tree (key_of dir.ino name)) _ (λ inner. passing_named dir.ino (walk_from tree cred inner (next ∷ names)) (from_named tree cred inner (next ∷ names) (both_second (is_name name) (list_all is_name (next ∷ names)) all)))
      | false ↦ tt
    ]

walk_named : (tree : Tree) (cred : Cred) (names : List (List ℕ)) → list_all is_name names ≡ true → EndsNamed (walk tree cred names)
walk_named tree cred [] all = inl refl
walk_named tree cred (name ∷ names) all = into_named (row_at tree root_key) (λ root. walk_from tree cred root (name ∷ names)) (λ dir. from_named tree cred dir (name ∷ names) all)

-- each component of the path is a name
abbrev HasNames : PathArg → Type 0
HasNames (Good names) = list_all is_name names ≡ true
HasNames (Bad fault raw) = Unit {0}

last_named : (tree : Tree) (cred : Cred) (path : PathArg) → HasNames path → IsNamedKey (last_key_of tree cred path)
last_named tree cred (Bad fault raw) named = inl refl
last_named tree cred (Good names) named = elim (walk tree cred names) as (λ (w : Walked). EndsNamed w → IsNamedKey (elim w [ Stop errno ↦ root_key | Ready parent passed last ↦ last ])) [
  | Stop errno ↦ λ _. inl refl
  | Ready parent passed last ↦ λ ends. ends
] (walk_named tree cred names named)

-- ---- changes

with_named : (tree : Tree) (key : Key) (inode : Inode) → IsNamedKey key → IsNamed tree → IsNamed (with_row tree key inode)
with_named tree key inode here named q row there = ⊎_elim (λ x. subst IsNamedKey (sym x.0) here) (λ x. named q row (sym x.1 ∙ there)) (put_cases q key inode tree)

without_named : (tree : Tree) (key : Key) → IsNamed tree → IsNamed (without_row tree key)
without_named tree key named q row there = named q row (gone_some tree key q row there).1

update_named : (tree : Tree) (key : Key) (f : Inode → Inode) → IsNamed tree → IsNamed (update tree key f)
update_named tree key f named =
    elim (row_at tree key) as (λ (o : Option Inode). row_at tree key ≡ o → IsNamed (elim o [ None ↦ tree | Some inode ↦ with_row tree key (f inode) ])) [
      | None ↦ λ _. named
      | Some inode ↦ λ there. with_named tree key (f inode) (named key inode there) named
    ] refl

move_named : (tree : Tree) (from to : Key) → IsNamedKey to → IsNamed tree → IsNamed (move tree from to)
move_named tree from to here named =
    elim (row_at tree from) as (λ (o : Option Inode). IsNamed (elim o [ None ↦ tree | Some inode ↦ with_row (without_row tree from) to inode ])) [
      | None ↦ named
      | Some inode ↦ with_named (without_row tree from) to inode here (without_named tree from named)
    ]

-- what the operation names is named; of two paths, where both are good
abbrev NamesWell : Op → Type 0
NamesWell (op.Mkdir path mode) = HasNames path
NamesWell (op.Create path mode) = HasNames path
NamesWell (op.Rename (Good old) new) = HasNames new
NamesWell other = Unit {0}

-- a rename of a bad path makes no commit
renamed : (tree : Tree) (cred : Cred) (old new : PathArg) → IsTrue (makes tree cred (op.Rename old new)) → NamesWell (op.Rename old new) → HasNames new
renamed tree cred (Good old) new is well = well
renamed tree cred (Bad fault raw) new is well = absurd (both_second_false (not _) is)
  where
    both_second_false : (b : _) → (b && false) ≡ true → ⊥
    both_second_false true e = cc
    both_second_false false e = cc

change_named : (tree : Tree) (cred : Cred) (call : Op) (ino : ℕ) → IsTrue (makes tree cred call) → NamesWell call → IsNamed tree → IsNamed (change tree cred call ino)
change_named tree cred (op.Mkdir path mode) ino is well named = with_named tree (last_key_of tree cred path) (new_row cred Dir mode ino) (last_named tree cred path well) named
change_named tree cred (op.Create path mode) ino is well named = with_named tree (last_key_of tree cred path) (new_row cred File mode ino) (last_named tree cred path well) named
change_named tree cred (op.Stat path) ino is well named = named
change_named tree cred (op.Access path want) ino is well named = named
change_named tree cred (op.Chmod path mode) ino is well named = update_named tree (last_key_of tree cred path) (λ (z : Inode). record z { mode = mode }) named
change_named tree cred (op.Chown path uid gid) ino is well named = update_named tree (last_key_of tree cred path) (λ (z : Inode). record z { uid = uid; gid = gid }) named
change_named tree cred (op.Truncate path size) ino is well named = update_named tree (last_key_of tree cred path) (λ (z : Inode). record z { size = size }) named
change_named tree cred (op.Unlink path) ino is well named = without_named tree (last_key_of tree cred path) named
change_named tree cred (op.Rmdir path) ino is well named = without_named tree (last_key_of tree cred path) named
change_named tree cred (op.Rename old new) ino is well named = move_named tree (last_key_of tree cred old) (last_key_of tree cred new) (last_named tree cred new (renamed tree cred old new is well)) named
change_named tree cred (op.List path) ino is well named = named
change_named tree cred (op.Place name rule) ino is well named = named

after_named : (tree : Tree) (earlier : List ℕ) (commits : List Commit) → AreLegalFrom tree earlier commits → Each (λ (c : Commit). NamesWell c.op) commits → IsNamed tree → IsNamed (tree_after tree commits)
after_named tree earlier [] legal well named = named
after_named tree earlier (c ∷ cs) legal well named =
    after_named (change tree c.cred c.op c.ino) (c.ino ∷ earlier) cs legal.2 well.1 (change_named tree c.cred c.op c.ino legal.0 well.0 named)

-- ---- the calls of a cluster

path_names : (path : PathArg) → path_arg_field.Fits path → HasNames path
unfolding path_arg_field
path_names (Good names) fits = (path_passes names fits).1
path_names (Bad fault raw) fits = absurd fits

mkdir_well : (path : PathArg) (mode : ℕ) → (bad_path (op.Mkdir path mode) ≡ None → op_field.Fits (op.Mkdir path mode)) → HasNames path
unfolding bad_path op_field path_and_mode
mkdir_well (Good names) mode fits = path_names (Good names) (fits refl).0
mkdir_well (Bad fault raw) mode fits = tt

create_well : (path : PathArg) (mode : ℕ) → (bad_path (op.Create path mode) ≡ None → op_field.Fits (op.Create path mode)) → HasNames path
unfolding bad_path op_field path_and_mode
create_well (Good names) mode fits = path_names (Good names) (fits refl).0
create_well (Bad fault raw) mode fits = tt

rename_well : (old new : PathArg) → (bad_path (op.Rename old new) ≡ None → op_field.Fits (op.Rename old new)) → NamesWell (op.Rename old new)
unfolding bad_path op_field two_paths
rename_well (Good old) (Good new) fits = path_names (Good new) (fits refl).1
rename_well (Good old) (Bad fault raw) fits = tt
rename_well (Bad fault raw) new fits = tt

op_well : (o : Op) → (bad_path o ≡ None → op_field.Fits o) → NamesWell o
op_well (op.Mkdir path mode) fits = mkdir_well path mode fits
op_well (op.Create path mode) fits = create_well path mode fits
op_well (op.Rename old new) fits = rename_well old new fits
op_well other fits = tt

commits_well : (config : Config) (entries : List Entry) → IsCluster config → Each (λ (c : Commit). NamesWell c.op) (commits_of config entries)
commits_well config entries cluster =
    commits_each config (λ (c : Commit). NamesWell c.op) entries (λ j lane seq ino call there is. op_well call.op (λ good. ((call_is config lane seq call cluster is).fits good).1))

-- ---- the tree

start_named : IsNamed tree0
start_named = with_named [] root_key _ (inl refl) (λ key row there. absurd (no_row row there))
  where
    no_row : (row : Inode) → ◌≡◌ {A = Option Inode} None (Some row) → ⊥
    no_row row is = cc

pub tree_named : (config : Config) (entries : List Entry) (commits : List Commit) → IsCluster config → commits ≡ commits_of config entries → AreLegalFrom tree0 [] commits → (key : Key) (row : Inode) → row_at (tree_now commits) key ≡ Some row → IsNamedKey key
tree_named config entries commits cluster same legal =
    subst IsNamed (sym (tree_at_end commits)) (after_named tree0 [] commits legal (subst (Each (λ (c : Commit). NamesWell c.op)) (sym same) (commits_well config entries cluster)) start_named)
