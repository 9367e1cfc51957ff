-- The tree after legal commits is well formed.
use Rattle.std.proofs.Common.{◌≡◌, ◌≢◌, ⊎_elim, Bool, true, false, not, ◌||◌, ◌&&◌, ℕ, zero, suc, List, [], ◌∷◌, take, cond, Option, Some, None, refl, sym, ap, ◌∙◌, subst}
use Rattle.std.specs.Prelude.{◌==◌, IsSome, IsSomeAnd, is_some, if◌then◌else◌}
use Rattle.std.specs.List.{list_any}
use Rattle.fal_base.specs.declared.call.Cred.{Cred}
use Rattle.fal_base.specs.declared.inode.Inode.{Inode}
use Rattle.fal_base.specs.declared.inode.Kind.{Kind}
use Rattle.fal_base.specs.declared.inode.Kind.TheVariants.{Dir, File}
use Rattle.fal_base.specs.declared.key.Key.{Key}
use Rattle.fal_base.specs.declared.op.Op.{Op}
use Rattle.fal_base.specs.declared.op.Op.TheVariants as op
use Rattle.fal_base.specs.declared.path.PathArg.{PathArg}
use Rattle.fal_base.specs.declared.path.PathArg.TheVariants.{Good, Bad}
use Rattle.fal_base.specs.declared.reply.Errno.TheVariants.{Eacces, Ebusy, Eexist, Einval, Eisdir, Enotdir, Enotempty, Eperm}
use Rattle.fal_base.specs.declared.reply.Reply.{Reply}
use Rattle.fal_base.specs.declared.reply.Reply.TheVariants.{Fine}
use Rattle.fal_base.specs.Answer.{checked, found, has_entries, is_root, make_answer, parent_grants, rename_answer, replace_answer, rmdir_answer, unlink_answer, walked}
use Rattle.fal_base.specs.Change.{change, is_fine, last_key_of, makes, move, new_row, update}
use Rattle.fal_base.specs.Commits.{Commit, tree_after, tree_at, AreLegalFrom, AreLegal}
use Rattle.fal_base.specs.Tree.{Tree, tree0, root_key, row_at, same_key, with_row, without_row, IsInOrder, IsWellFormed}
use Rattle.fal_base.specs.Walk.{Ready, walk, is_dir}
use Rattle.fal_base.proofs.Maps.{put_cases}
use Rattle.fal_base.proofs.Order.{in_order_change}
use Rattle.fal_base.proofs.Numbers.{AreNumbered, change_numbered, start_numbered}
use Rattle.fal_base.proofs.Parents.{HasDir, AreUnder, ends_under, new_under, kept_under, gone_under, moved_under, empty_is}
use Rattle.fal_base.proofs.Reached.{passed, both_are, none_of, was_found, was_ready, last_of, was_reached}

-- ---- the root's key

under_number : (tree : Tree) (earlier : List ℕ) (key : Key) → AreNumbered tree earlier → HasDir tree key.parent → key ≢ root_key
under_number tree earlier key x d e = x.some d.key d.dir d.there (sym (d.same ∙ ap (λ (k : Key). k.parent) e))

not_dir : (tree : Tree) (key : Key) (inode : Inode) → row_at tree key ≡ Some inode → is_dir inode ≡ false → AreUnder tree → key ≢ root_key
not_dir tree key inode there file x e =
    let same : Some inode ≡ Some x.root = sym there ∙ ap (row_at tree) e ∙ x.root_there in
    let one : inode ≡ x.root = cc in
    let wrong : true ≡ false = sym x.root_is ∙ ap is_dir (sym one) ∙ file in
    absurd (cc)

-- ---- mkdir and create

made_under : (tree : Tree) (cred : Cred) (path : PathArg) (kind : Kind) (mode ino : ℕ) → is_fine (make_answer tree cred path) ≡ true → AreUnder tree → AreUnder (with_row tree (last_key_of tree cred path) (new_row cred kind mode ino))
made_under tree cred path kind mode ino fine x =
    let r = was_reached tree cred path (λ parent last row. checked ((is_some row, Eexist) ∷ (not (parent_grants cred 2 parent), Eacces) ∷ []) Fine) fine in
    let none = none_of (row_at tree r.last) (passed (is_some (row_at tree r.last)) Eexist _ r.fine).0 in
    subst (λ key. AreUnder (with_row tree key (new_row cred kind mode ino))) (sym r.key)
    (named r.names r.parent r.passes r.last r.ready none)
  where
    named : (names : List (List ℕ)) (parent : Option Inode) (passes : List ℕ) (last : Key) → walk tree cred names ≡ Ready parent passes last → row_at tree last ≡ None → AreUnder (with_row tree last (new_row cred kind mode ino))
    named [] parent passes last ready none =
        let same : last ≡ root_key = cc in
        let both : None ≡ Some x.root = sym none ∙ ap (row_at tree) same ∙ x.root_there in
        absurd (cc)
    named (name ∷ names) parent passes last ready none = new_under tree last (new_row cred kind mode ino) none (ends_under tree cred name names parent passes last ready).0 x

-- ---- chmod, chown and truncate

updated_under : (tree : Tree) (key : Key) (f : Inode → Inode) → ((z : Inode) → is_dir (f z) ≡ is_dir z) → ((z : Inode) → (f z).ino ≡ z.ino) → AreUnder tree → AreUnder (update tree key f)
updated_under tree key f kind number x =
    elim (row_at tree key) as (λ (o : Option Inode). row_at tree key ≡ o → AreUnder (elim o [ None ↦ tree | Some inode ↦ with_row tree key (f inode) ])) [
      | None ↦ λ _. x
      | Some inode ↦ λ there. kept_under tree key inode (f inode) there (kind inode) (number inode) x
    ] refl

-- ---- unlink and rmdir

unlinked_under : (tree : Tree) (cred : Cred) (path : PathArg) → is_fine (unlink_answer tree cred path) ≡ true → AreUnder tree → AreUnder (without_row tree (last_key_of tree cred path))
unlinked_under tree cred path fine x =
    let r = was_reached tree cred path (λ parent last row. found row (λ inode. checked ((not (parent_grants cred 2 parent), Eacces) ∷ (is_dir inode, Eperm) ∷ []) Fine)) fine in
    let f = was_found (row_at tree r.last) (λ inode. checked ((not (parent_grants cred 2 r.parent), Eacces) ∷ (is_dir inode, Eperm) ∷ []) Fine) r.fine in
    let file = (passed (is_dir f.inode) Eperm _ (passed (not (parent_grants cred 2 r.parent)) Eacces _ f.fine).1).0 in
    subst (λ key. AreUnder (without_row tree key)) (sym r.key)
    (gone_under tree r.last (not_dir tree r.last f.inode f.there file x)
    (λ dir there is q row at under. let same : Some dir ≡ Some f.inode = sym there ∙ f.there in let one : dir ≡ f.inode = cc in let wrong : true ≡ false = sym is ∙ ap is_dir one ∙ file in absurd (cc)) x)

removed_under : (tree : Tree) (earlier : List ℕ) (cred : Cred) (path : PathArg) → is_fine (rmdir_answer tree cred path) ≡ true → AreNumbered tree earlier → AreUnder tree → AreUnder (without_row tree (last_key_of tree cred path))
removed_under tree earlier cred (Bad fault raw) fine n x = absurd (cc)
removed_under tree earlier cred (Good []) fine n x = absurd (cc)
removed_under tree earlier cred (Good (name ∷ names)) fine n x =
    let inner = (passed (is_root (name ∷ names)) Ebusy _ fine).1 in
    let w = was_ready (walk tree cred (name ∷ names)) (λ parent passed last. found (row_at tree last) (λ inode.
    checked ((not (parent_grants cred 2 parent), Eacces) ∷ (not (is_dir inode), Enotdir) ∷ (has_entries tree inode, Enotempty) ∷ []) Fine)) inner in
    let f = was_found (row_at tree w.last) (λ inode. checked ((not (parent_grants cred 2 w.parent), Eacces) ∷ (not (is_dir inode), Enotdir) ∷ (has_entries tree inode, Enotempty) ∷ []) Fine) w.fine in
    let empty = (passed (has_entries tree f.inode) Enotempty _ (passed (not (is_dir f.inode)) Enotdir _ (passed (not (parent_grants cred 2 w.parent)) Eacces _ f.fine).1).1).0 in
    let above = (ends_under tree cred name names w.parent w.passes w.last w.ready).0 in
    subst (λ key. AreUnder (without_row tree key)) (sym (last_of tree cred (name ∷ names) w.parent w.passes w.last w.ready))
    (gone_under tree w.last (under_number tree earlier w.last n above)
    (λ dir there is q row at. let same : Some dir ≡ Some f.inode = sym there ∙ f.there in let one : dir ≡ f.inode = cc in subst (λ (d : Inode). q.parent ≢ d.ino) (sym one) (empty_is tree f.inode empty q row at)) x)

-- ---- rename

-- what was replaced has no entries
replaced_empty : (tree : Tree) (moved : Inode) (row : Option Inode) → is_fine (replace_answer tree moved row) ≡ true → (dir : Inode) → row ≡ Some dir → is_dir dir ≡ true → has_entries tree dir ≡ false
replaced_empty tree moved None fine dir there is = absurd (cc)
replaced_empty tree moved (Some old) fine dir there is =
    let one : old ≡ dir = cc in
    let both = (passed (is_dir old && has_entries tree old) Enotempty _ (passed (is_dir moved && not (is_dir old)) Enotdir _ (passed (not (is_dir moved) && is_dir old) Eisdir _ fine).1).1).0 in
    subst (λ (d : Inode). has_entries tree d ≡ false) one (right (is_dir old) (has_entries tree old) (ap is_dir one ∙ is) both)
  where
    right : (a b : Bool) → a ≡ true → (a && b) ≡ false → b ≡ false
    right true b is none = none
    right false b is none = absurd (cc)

-- a directory does not come under itself
stays_outside : (passes : List ℕ) (moved : Inode) (parent : ℕ) → (is_dir moved && list_any (λ ino. ino == moved.ino) passes) ≡ false → list_any (λ ino. ino == parent) passes ≡ true → is_dir moved ≡ true → parent ≢ moved.ino
stays_outside passes moved parent none some is same =
    let wrong : (true && true) ≡ false = ap (λ b. true && b) (sym (subst (λ n. list_any (λ ino. ino == n) passes ≡ true) same some)) ∙ ap (λ b. b && list_any (λ ino. ino == moved.ino) passes) (sym is) ∙ none in
    absurd (cc)

-- what is answered once both walks are ready, and then once there is something to move
abbrev onto : Tree → Cred → Option Inode → Key → Option Inode → List ℕ → Key → Inode → Reply
onto tree cred old_parent old_last new_parent new_passed new_last moved =
    if same_key old_last new_last then Fine else
    checked ((not (parent_grants cred 2 old_parent && parent_grants cred 2 new_parent), Eacces) ∷ (is_dir moved && list_any (λ ino. ino == moved.ino) new_passed, Einval) ∷ []) (replace_answer tree moved (row_at tree new_last))

abbrev going : Tree → Cred → Option Inode → Key → Option Inode → List ℕ → Key → Reply
going tree cred old_parent old_last new_parent new_passed new_last = found (row_at tree old_last) (onto tree cred old_parent old_last new_parent new_passed new_last)

unlike : (b : Bool) → b ≡ false → (one rest : Reply) → is_fine (cond b one rest) ≡ true → is_fine rest ≡ true
unlike true is one rest fine = absurd (cc)
unlike false is one rest fine = fine

renamed_under : (tree : Tree) (earlier : List ℕ) (cred : Cred) (old new : PathArg) → is_fine (rename_answer tree cred old new) ≡ true → same_key (last_key_of tree cred old) (last_key_of tree cred new) ≡ false → AreNumbered tree earlier → AreUnder tree
    → AreUnder (move tree (last_key_of tree cred old) (last_key_of tree cred new))
renamed_under tree earlier cred (Bad fault raw) new fine apart n x = absurd (cc)
renamed_under tree earlier cred (Good from) (Bad fault raw) fine apart n x = absurd (cc)
renamed_under tree earlier cred (Good []) (Good to) fine apart n x = absurd (cc)
renamed_under tree earlier cred (Good (a ∷ more)) (Good []) fine apart n x =
    let wrong = (passed (is_root (a ∷ more) || true) Ebusy _ fine).0 in
    absurd (any_true (is_root (a ∷ more)) wrong)
  where
    any_true : (a : Bool) → (a || true) ≡ false → ⊥
    any_true true is = absurd (cc)
    any_true false is = absurd (cc)
renamed_under tree earlier cred (Good (a ∷ more)) (Good (b ∷ others)) fine apart n x =
    let inner = (passed (is_root (a ∷ more) || is_root (b ∷ others)) Ebusy _ fine).1 in
    let w = was_ready (walk tree cred (a ∷ more)) (λ old_parent old_passed old_last. walked (walk tree cred (b ∷ others)) (going tree cred old_parent old_last)) inner in
    let v = was_ready (walk tree cred (b ∷ others)) (going tree cred w.parent w.last) w.fine in
    let f = was_found (row_at tree w.last) (onto tree cred w.parent w.last v.parent v.passes v.last) v.fine in
    let from_key = last_of tree cred (a ∷ more) w.parent w.passes w.last w.ready in
    let to_key = last_of tree cred (b ∷ others) v.parent v.passes v.last v.ready in
    let other : same_key w.last v.last ≡ false = ap (λ k. same_key k v.last) (sym from_key) ∙ ap (same_key (last_key_of tree cred (Good (a ∷ more)))) (sym to_key) ∙ apart in
    let checks = unlike (same_key w.last v.last) other _ _ f.fine in
    let grants = passed (not (parent_grants cred 2 w.parent && parent_grants cred 2 v.parent)) Eacces _ checks in
    let inside = passed (is_dir f.inode && list_any (λ ino. ino == f.inode.ino) v.passes) Einval _ grants.1 in
    let above = ends_under tree cred a more w.parent w.passes w.last w.ready in
    let below = ends_under tree cred b others v.parent v.passes v.last v.ready in
    let done : AreUnder (with_row (without_row tree w.last) v.last f.inode) =
    moved_under tree w.last v.last f.inode f.there (under_number tree earlier w.last n above.0) (under_number tree earlier v.last n below.0) below.0
    (stays_outside v.passes f.inode v.last.parent inside.0 below.1)
    (λ dir there is. empty_is tree dir (replaced_empty tree f.inode (row_at tree v.last) inside.1 dir there is)) x in
    let moves : move tree w.last v.last ≡ with_row (without_row tree w.last) v.last f.inode = ap (λ (o : Option Inode). elim o [ None ↦ tree | Some inode ↦ with_row (without_row tree w.last) v.last inode ]) f.there in
    subst (λ key. AreUnder (move tree key (last_key_of tree cred (Good (b ∷ others))))) (sym from_key) (subst (λ key. AreUnder (move tree w.last key)) (sym to_key) (subst AreUnder (sym moves) done))

-- ---- any change

change_under : (tree : Tree) (earlier : List ℕ) (cred : Cred) (call : Op) (ino : ℕ) → makes tree cred call ≡ true → AreNumbered tree earlier → AreUnder tree → AreUnder (change tree cred call ino)
change_under tree earlier cred (op.Mkdir path mode) ino made n x = made_under tree cred path Dir mode ino made x
change_under tree earlier cred (op.Create path mode) ino made n x = made_under tree cred path File mode ino made x
change_under tree earlier cred (op.Stat path) ino made n x = x
change_under tree earlier cred (op.Access path want) ino made n x = x
change_under tree earlier cred (op.Chmod path mode) ino made n x = updated_under tree (last_key_of tree cred path) (λ (z : Inode). record z { mode = mode }) (λ z. refl) (λ z. refl) x
change_under tree earlier cred (op.Chown path uid gid) ino made n x = updated_under tree (last_key_of tree cred path) (λ (z : Inode). record z { uid = uid; gid = gid }) (λ z. refl) (λ z. refl) x
change_under tree earlier cred (op.Truncate path size) ino made n x = updated_under tree (last_key_of tree cred path) (λ (z : Inode). record z { size = size }) (λ z. refl) (λ z. refl) x
change_under tree earlier cred (op.Unlink path) ino made n x = unlinked_under tree cred path made x
change_under tree earlier cred (op.Rmdir path) ino made n x = removed_under tree earlier cred path made n x
change_under tree earlier cred (op.Rename old new) ino made n x =
    let both = both_are (not (same_key (last_key_of tree cred old) (last_key_of tree cred new))) (is_fine (rename_answer tree cred old new)) made in
    renamed_under tree earlier cred old new both.1 (off (same_key (last_key_of tree cred old) (last_key_of tree cred new)) both.0) n x
  where
    off : (b : Bool) → not b ≡ true → b ≡ false
    off true is = absurd (cc)
    off false is = refl
change_under tree earlier cred (op.List path) ino made n x = x
change_under tree earlier cred (op.Place name rule) ino made n x = x

-- ---- the tree after legal commits

record IsGrown (tree : Tree) (earlier : List ℕ) : Type 0 where
  sorted : IsInOrder tree
  numbered : AreNumbered tree earlier
  under : AreUnder tree

grown_after : (tree : Tree) (earlier : List ℕ) (commits : List Commit) → AreLegalFrom tree earlier commits → IsGrown tree earlier → (numbers : List ℕ) × IsGrown (tree_after tree commits) numbers
grown_after tree earlier [] legal x = (earlier, x)
grown_after tree earlier (c ∷ cs) legal x = grown_after (change tree c.cred c.op c.ino) (c.ino ∷ earlier) cs legal.2 (record {
  sorted = in_order_change tree c.cred c.op c.ino x.sorted;
  numbered = change_numbered tree earlier c.cred c.op c.ino legal.1 x.numbered;
  under = change_under tree earlier c.cred c.op c.ino legal.0 x.numbered x.under;
})

legal_front : (tree : Tree) (earlier : List ℕ) (commits : List Commit) (k : ℕ) → AreLegalFrom tree earlier commits → AreLegalFrom tree earlier (take k commits)
legal_front tree earlier commits zero legal = tt
legal_front tree earlier [] (suc k) legal = tt
legal_front tree earlier (c ∷ cs) (suc k) legal = (legal.0, legal.1, legal_front (change tree c.cred c.op c.ino) (c.ino ∷ earlier) cs k legal.2)

start_under : AreUnder tree0
start_under = record {
  root = record { ino = 1; kind = Dir; mode = 493; uid = 0; gid = 0; size = 0 };
  root_there = ⊎_elim (λ y. y.1) (λ y. absurd (y.0 refl)) (put_cases root_key root_key (record { ino = 1; kind = Dir; mode = 493; uid = 0; gid = 0; size = 0 }) []);
  root_is = refl;
  parents = λ key row there other. ⊎_elim (λ y. absurd (other y.0)) (λ y. let none : row_at tree0 key ≡ None = y.1 in absurd (cc)) (put_cases key root_key (record { ino = 1; kind = Dir; mode = 493; uid = 0; gid = 0; size = 0 }) []);
}

dir_of : (inode : Inode) → is_dir inode ≡ true → inode.kind ≡ Dir
dir_of inode is = of_kind inode.kind is
  where
    of_kind : (kind : Kind) → (elim kind as (λ _. Bool) [ Dir ↦ true | File ↦ false ]) ≡ true → kind ≡ Dir
    of_kind Dir is = refl
    of_kind File is = absurd (cc)

grown_is : (tree : Tree) (earlier : List ℕ) → IsGrown tree earlier → IsWellFormed tree
grown_is tree earlier x = record {
  in_order = x.sorted;
  root = rw x.under.root_there (dir_of x.under.root x.under.root_is);
  parents = λ key some other. above key (row_at tree key) refl some other;
  numbers = x.numbered.differ;
}
  where
    above : (key : Key) (row : Option Inode) → row_at tree key ≡ row → IsSome row → key ≢ root_key → (parent : Key) × IsSomeAnd (row_at tree parent) (λ dir. (dir.kind ≡ Dir) × (dir.ino ≡ key.parent))
    above key None there some other = absurd (cc)
    above key (Some row) there some other = let d = x.under.parents key row there other in (d.key, rw d.there (dir_of d.dir d.is, d.same))

-- after each number of legal commits
pub well_formed : (commits : List Commit) (k : ℕ) → AreLegal commits → IsWellFormed (tree_at commits k)
well_formed commits k legal =
    let grown = grown_after tree0 [] (take k commits) (legal_front tree0 [] commits k legal) (record { sorted = refl; numbered = start_numbered; under = start_under }) in
    grown_is (tree_at commits k) grown.0 grown.1
