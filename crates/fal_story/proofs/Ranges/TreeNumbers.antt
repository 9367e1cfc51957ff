-- How great the numbers are in the tree that commits leave: no greater than those of the commits.
use Rattle.std.proofs.Common.{◌≡◌, ⊎_elim, ℕ, suc, ◌<◌, true, false, cond, List, [], ◌∷◌, Option, Some, None, refl, sym, ◌∙◌, subst, arith}
use Rattle.std.specs.Prelude.{slice_get}
use Rattle.std.proofs.lemmas.Option.{same_Some}
use Rattle.fal_base.specs.declared.call.Cred.{Cred}
use Rattle.fal_base.specs.declared.inode.Inode.{Inode}
use Rattle.fal_base.specs.declared.inode.Kind.TheVariants.{Dir, File}
use Rattle.fal_base.specs.declared.key.Key.{Key}
use Rattle.fal_base.specs.declared.op.Op.{Op}
use Rattle.fal_base.specs.declared.op.Op.TheVariants as op
use Rattle.fal_base.specs.declared.path.PathArg.{PathArg}
use Rattle.fal_base.specs.declared.path.PathArg.TheVariants.{Good, Bad}
use Rattle.fal_base.specs.declared.reply.Errno.TheVariants.{Eacces, Enotdir}
use Rattle.fal_base.specs.Change.{change, last_key_of, move, new_row, update}
use Rattle.fal_base.specs.Commits.{Commit, tree_after}
use Rattle.fal_base.specs.Tree.{Tree, tree0, key_of, root_key, row_at, with_row, without_row}
use Rattle.fal_base.specs.Walk.{Walked, Stop, Ready, walk, walk_from, into, passing, is_dir, grants}
use Rattle.fal_base.proofs.Maps.{put_cases}
use Rattle.fal_base.proofs.Numbers.{gone_some}
use Rattle.fal_story.proofs.Trees.Commits.{tree_at_end}
use Rattle.fal_story.proofs.Trees.Standing.{tree_now}

-- each row has a number below the bound, and so has the directory above it
pub record IsLow (bound : ℕ) (tree : Tree) : Type 0 where
  pub numbers : (key : Key) (row : Inode) → row_at tree key ≡ Some row → row.ino < bound
  pub parents : (key : Key) (row : Inode) → row_at tree key ≡ Some row → key.parent < bound

-- ---- where walks end

abbrev EndsLow : ℕ → Walked → Type 0
EndsLow bound (Stop errno) = Unit {0}
EndsLow bound (Ready parent passed last) = last.parent < bound

passing_low : (bound ino : ℕ) (w : Walked) → EndsLow bound w → EndsLow bound (passing ino w)
passing_low bound ino (Stop errno) is = tt
passing_low bound ino (Ready parent passed last) is = is

into_low : (bound : ℕ) (row : Option Inode) (go : Inode → Walked) → ((dir : Inode) → row ≡ Some dir → EndsLow bound (go dir)) → EndsLow bound (into row go)
into_low bound None go later = tt
into_low bound (Some dir) go later = elim (is_dir dir) as (λ b. EndsLow bound (cond b (go dir) (Stop Enotdir))) [ true ↦ later dir refl | false ↦ tt ]

from_low : (bound : ℕ) (tree : Tree) (cred : Cred) (dir : Inode) (names : List (List ℕ)) → IsLow bound tree → 0 < bound → dir.ino < bound → EndsLow bound (walk_from tree cred dir names)
from_low bound tree cred dir [] low some here = some
from_low bound tree cred dir (name ∷ []) low some here =
    elim (grants cred 1 dir) as (λ b. EndsLow bound (cond b (Ready (Some dir) (dir.ino ∷ []) (key_of dir.ino name)) (Stop Eacces))) [ true ↦ here | false ↦ tt ]
from_low bound tree cred dir (name ∷ next ∷ names) low some here =
    let key = key_of dir.ino name in
    elim (grants cred 1 dir) as (λ b. EndsLow bound (cond b (into (row_at tree key) (λ inner. passing dir.ino (walk_from tree cred inner (next ∷ names)))) (Stop Eacces))) [
      | true ↦ into_low bound (row_at tree key) _ (λ inner at. passing_low bound dir.ino (walk_from tree cred inner (next ∷ names)) (from_low bound tree cred inner (next ∷ names) low some (low.numbers key inner at)))
      | false ↦ tt
    ]

walk_low : (bound : ℕ) (tree : Tree) (cred : Cred) (names : List (List ℕ)) → IsLow bound tree → 0 < bound → EndsLow bound (walk tree cred names)
walk_low bound tree cred [] low some = some
walk_low bound tree cred (name ∷ names) low some =
    into_low bound (row_at tree root_key) (λ root. walk_from tree cred root (name ∷ names)) (λ dir at. from_low bound tree cred dir (name ∷ names) low some (low.numbers root_key dir at))

abbrev IsUnderLow : ℕ → Key → Type 0
IsUnderLow bound key = key.parent < bound

last_low : (bound : ℕ) (tree : Tree) (cred : Cred) (path : PathArg) → IsLow bound tree → 0 < bound → (last_key_of tree cred path).parent < bound
last_low bound tree cred (Bad fault raw) low some = some
last_low bound tree cred (Good names) low some = elim (walk tree cred names) as (λ (w : Walked). EndsLow bound w → IsUnderLow bound (elim w [ Stop errno ↦ root_key | Ready parent passed last ↦ last ])) [
  | Stop errno ↦ λ _. some
  | Ready parent passed last ↦ λ ends. ends
] (walk_low bound tree cred names low some)

-- ---- changes

with_low : (bound : ℕ) (tree : Tree) (key : Key) (inode : Inode) → key.parent < bound → inode.ino < bound → IsLow bound tree → IsLow bound (with_row tree key inode)
with_low bound tree key inode parent number low = record {
  numbers = λ q row there. ⊎_elim (λ x. subst (λ (i : Inode). i.ino < bound) (same_Some inode row (sym x.1 ∙ there)) number) (λ x. low.numbers q row (sym x.1 ∙ there)) (put_cases q key inode tree);
  parents = λ q row there. ⊎_elim (λ x. subst (λ (k : Key). k.parent < bound) (sym x.0) parent) (λ x. low.parents q row (sym x.1 ∙ there)) (put_cases q key inode tree);
}

without_low : (bound : ℕ) (tree : Tree) (key : Key) → IsLow bound tree → IsLow bound (without_row tree key)
without_low bound tree key low = record {
  numbers = λ q row there. low.numbers q row (gone_some tree key q row there).1;
  parents = λ q row there. low.parents q row (gone_some tree key q row there).1;
}

update_low : (bound : ℕ) (tree : Tree) (key : Key) (f : Inode → Inode) → ((z : Inode) → (f z).ino ≡ z.ino) → IsLow bound tree → IsLow bound (update tree key f)
update_low bound tree key f keeps low =
    elim (row_at tree key) as (λ (o : Option Inode). row_at tree key ≡ o → IsLow bound (elim o [ None ↦ tree | Some inode ↦ with_row tree key (f inode) ])) [
      | None ↦ λ _. low
      | Some inode ↦ λ there. with_low bound tree key (f inode) (low.parents key inode there) (subst (λ n. n < bound) (sym (keeps inode)) (low.numbers key inode there)) low
    ] refl

move_low : (bound : ℕ) (tree : Tree) (from to : Key) → to.parent < bound → IsLow bound tree → IsLow bound (move tree from to)
move_low bound tree from to parent low =
    elim (row_at tree from) as (λ (o : Option Inode). row_at tree from ≡ o → IsLow bound (elim o [ None ↦ tree | Some inode ↦ with_row (without_row tree from) to inode ])) [
      | None ↦ λ _. low
      | Some inode ↦ λ there. with_low bound (without_row tree from) to inode parent (low.numbers from inode there) (without_low bound tree from low)
    ] refl

change_low : (bound : ℕ) (tree : Tree) (cred : Cred) (call : Op) (ino : ℕ) → ino < bound → IsLow bound tree → IsLow bound (change tree cred call ino)
change_low bound tree cred (op.Mkdir path mode) ino less low = with_low bound tree (last_key_of tree cred path) (new_row cred Dir mode ino) (last_low bound tree cred path low (omega arith)) less low
change_low bound tree cred (op.Create path mode) ino less low = with_low bound tree (last_key_of tree cred path) (new_row cred File mode ino) (last_low bound tree cred path low (omega arith)) less low
change_low bound tree cred (op.Stat path) ino less low = low
change_low bound tree cred (op.Access path want) ino less low = low
change_low bound tree cred (op.Chmod path mode) ino less low = update_low bound tree (last_key_of tree cred path) (λ (z : Inode). record z { mode = mode }) (λ z. refl) low
change_low bound tree cred (op.Chown path uid gid) ino less low = update_low bound tree (last_key_of tree cred path) (λ (z : Inode). record z { uid = uid; gid = gid }) (λ z. refl) low
change_low bound tree cred (op.Truncate path size) ino less low = update_low bound tree (last_key_of tree cred path) (λ (z : Inode). record z { size = size }) (λ z. refl) low
change_low bound tree cred (op.Unlink path) ino less low = without_low bound tree (last_key_of tree cred path) low
change_low bound tree cred (op.Rmdir path) ino less low = without_low bound tree (last_key_of tree cred path) low
change_low bound tree cred (op.Rename old new) ino less low = move_low bound tree (last_key_of tree cred old) (last_key_of tree cred new) (last_low bound tree cred new low (omega arith)) low
change_low bound tree cred (op.List path) ino less low = low
change_low bound tree cred (op.Place name rule) ino less low = low

-- each commit has a number below the bound
abbrev pub AreBelow : ℕ → List Commit → Type 0
AreBelow bound commits = (i : ℕ) (c : Commit) → slice_get commits i ≡ Some c → c.ino < bound

after_low : (bound : ℕ) (tree : Tree) (commits : List Commit) → AreBelow bound commits → IsLow bound tree → IsLow bound (tree_after tree commits)
after_low bound tree [] below low = low
after_low bound tree (c ∷ cs) below low = after_low bound (change tree c.cred c.op c.ino) cs (λ i d at. below (suc i) d at) (change_low bound tree c.cred c.op c.ino (below 0 c refl) low)

abbrev root : Inode
root = record { ino = 1; kind = Dir; mode = 493; uid = 0; gid = 0; size = 0 }

no_row : (bound : ℕ) (commit : Inode) → ◌≡◌ {A = Option Inode} None (Some commit) → ⊥
no_row bound commit is = cc

start_low : (bound : ℕ) → 1 < bound → IsLow bound tree0
start_low bound some = with_low bound [] root_key root (omega arith) some (record { numbers = λ key row there. absurd (no_row bound row there); parents = λ key row there. absurd (no_row bound row there) })

pub tree_low : (bound : ℕ) (commits : List Commit) → 1 < bound → AreBelow bound commits → IsLow bound (tree_now commits)
tree_low bound commits some below = subst (IsLow bound) (sym (tree_at_end commits)) (after_low bound tree0 commits below (start_low bound some))
