-- From the invariant to a decision: what the verdict on the rows that came says is so in the tree as it is now.
use Rattle.std.proofs.Common.{◌≡◌, ◌≢◌, ⊎_elim, ℕ, true, false, ◌||◌, List, [], ◌∷◌, map, Option, Some, None, IsSomeAnd, IsTrue, if◌then◌else◌, refl, sym, ap, ◌∙◌, subst}
use Rattle.std.specs.List.{All}
use Rattle.std.proofs.lemmas.List.Elements.{All-head, All-tail}
use Rattle.std.proofs.lemmas.Option.{same_Some}
use Rattle.fal_base.specs.declared.call.Config.{Config}
use Rattle.fal_base.specs.declared.call.Cred.{Cred}
use Rattle.fal_base.specs.declared.inode.Dentry.{Dentry}
use Rattle.fal_base.specs.declared.inode.Inode.{Inode}
use Rattle.fal_base.specs.declared.key.Key.{Key}
use Rattle.fal_base.specs.declared.op.Op.{Op}
use Rattle.fal_base.specs.declared.op.Op.TheVariants as op
use Rattle.fal_base.specs.declared.path.PathArg.TheVariants.{Good as GoodPath}
use Rattle.fal_base.specs.declared.reply.Errno.TheVariants.{Enotempty}
use Rattle.fal_base.specs.declared.reply.Reply.TheVariants.{Fail}
use Rattle.fal_base.specs.declared.row.Update.{Update}
use Rattle.fal_base.specs.Answer.{answer}
use Rattle.fal_base.specs.Maps.{value_at}
use Rattle.fal_base.specs.Tree.{Tree, row_at, same_key}
use Rattle.fal_base.specs.Updates.{keys_of, row_among}
use Rattle.fal_base.specs.Walk.{Ready}
use Rattle.fal_base.proofs.Entries.{name_of_row, no_names}
use Rattle.fal_coord.specs.Decided as decided
use Rattle.fal_coord.specs.Decided.{SaysOfTree, SaysInTrees}
use Rattle.fal_coord.specs.Judged.{Judged, Change, Count, end_of, is_for_rows, verdict_of}
use Rattle.fal_coord.proofs.InTrees.{in_trees}
use Rattle.fal_coord.proofs.Within.{last_keys, updates_of, within}
use Rattle.fal_dentry.proofs.LastKey.{last_is_last}
use Rattle.fal_dentry.specs.TreeWalk.{last_key, last_name}
use Rattle.fal_dentry.specs.Walk.{is_among}
use Rattle.fal_story.proofs.Families.Operation.{AreHeard, AreKept, IsKept, row_told}
use Rattle.fal_story.proofs.Families.OperationEnds.{IsReady}
use Rattle.fal_story.proofs.Good.{Good}
use Rattle.fal_story.proofs.Steps.Arrives.{none_counted, some_counted}
use Rattle.fal_story.proofs.Steps.CountedDirs.{IsFound, counts_found, first_among}
use Rattle.fal_story.proofs.Steps.Decided.{IsDecided}
use Rattle.fal_story.proofs.View.{View, Kept, Locks, Counts, now}

-- ---- the walks that were kept, as the verdict takes them

-- they are of the operation's paths
abbrev pub AreWalks : Op → List Kept → Type 0
AreWalks (op.Chmod (GoodPath path) mode) (w ∷ []) = path ≡ w.names
AreWalks (op.Chown (GoodPath path) uid gid) (w ∷ []) = path ≡ w.names
AreWalks (op.Rmdir (GoodPath path)) (w ∷ []) = path ≡ w.names
AreWalks (op.Rename (GoodPath from) (GoodPath to)) (a ∷ b ∷ []) = (from ≡ a.names) × (to ≡ b.names)
AreWalks other walks = ⊥

abbrev pub parents_of : List Kept → List (Option Dentry)
parents_of walks = map (λ w. w.parent) walks

-- the numbers that the last one passed
abbrev pub passed_of : List Kept → List ℕ
passed_of [] = []
passed_of (w ∷ []) = w.passed
passed_of (w ∷ next ∷ walks) = passed_of (next ∷ walks)

abbrev pub lasts_of : List Kept → List Key
lasts_of walks = map (λ w. w.last) walks

pub told_row : (rows : List Update) (key : Key) (row : Option Inode) → row_told rows key ≡ Some row → row_among rows key ≡ row
told_row [] key row is = cc
told_row (u ∷ us) key row is =
    elim (same_key u.key key) as (λ b. (if b then Some u.row else row_told us key) ≡ Some row → (if b then u.row else row_among us key) ≡ row) [ true ↦ λ is. same_Some _ _ is | false ↦ told_row us key row ] is

later_among : (other key : Key) (keys : List Key) → is_among key keys ≡ true → is_among key (other ∷ keys) ≡ true
later_among other key keys is = elim (same_key other key) as (λ b. (b || is_among key keys) ≡ true) [ true ↦ refl | false ↦ is ]

module _ (tree : Tree) (cred : Cred) where
  last_is : (w : Kept) → IsKept tree cred w → w.last ≡ last_key w.parent (last_name w.names)
  last_is w kept = last_is_last tree cred w.names kept.0 w.passed w.last kept.1.0 ∙ ap (λ p. last_key p (last_name w.names)) kept.1.1

  kept_end : (rows : List Update) (path : List (List ℕ)) (w : Kept) → path ≡ w.names → IsKept tree cred w → row_told rows w.last ≡ Some (row_at tree w.last) → decided.IsKept tree cred path (end_of rows w.parent path) w.passed
  kept_end rows path w same kept told = subst (λ p. decided.IsKept tree cred p (end_of rows w.parent p) w.passed) (sym same) (record {
    dir = kept.0;
    ready = kept.1.0 ∙ ap (Ready kept.0 w.passed) (last_is w kept);
    parent = kept.1.1;
    row = subst (λ k. row_at tree k ≡ row_among rows k) (last_is w kept) (sym (told_row rows w.last (row_at tree w.last) told));
  })

  are_kept : (rows : List Update) (call : Op) (walks : List Kept) → AreWalks call walks → All (IsKept tree cred) walks → ((key : Key) → is_among key (lasts_of walks) ≡ true → row_told rows key ≡ Some (row_at tree key))
      → decided.AreKept tree cred call (parents_of walks) (passed_of walks) rows
  are_kept rows (op.Chmod (GoodPath path) mode) (w ∷ []) are kept told = kept_end rows path w are (All-head (IsKept tree cred) w [] kept) (told w.last (first_among w.last []))
  are_kept rows (op.Chown (GoodPath path) uid gid) (w ∷ []) are kept told = kept_end rows path w are (All-head (IsKept tree cred) w [] kept) (told w.last (first_among w.last []))
  are_kept rows (op.Rmdir (GoodPath path)) (w ∷ []) are kept told = kept_end rows path w are (All-head (IsKept tree cred) w [] kept) (told w.last (first_among w.last []))
  are_kept rows (op.Rename (GoodPath from) (GoodPath to)) (a ∷ b ∷ []) are kept told = (
    (a.passed, kept_end rows from a are.0 (All-head (IsKept tree cred) a (b ∷ []) kept) (told a.last (first_among a.last (b.last ∷ [])))),
    kept_end rows to b are.1 (All-head (IsKept tree cred) b [] (All-tail (IsKept tree cred) a (b ∷ []) kept)) (told b.last (later_among a.last b.last (b.last ∷ []) (first_among b.last []))),
  )
  are_kept rows other walks are kept told = absurd are

  last_key_is : (path : List (List ℕ)) (w : Kept) → path ≡ w.names → IsKept tree cred w → last_key w.parent (last_name path) ≡ w.last
  last_key_is path w same kept = ap (λ p. last_key w.parent (last_name p)) same ∙ sym (last_is w kept)

  -- the keys that the verdict may change are those of the walks
  lasts_are : (call : Op) (walks : List Kept) → AreWalks call walks → All (IsKept tree cred) walks → last_keys call (parents_of walks) ≡ lasts_of walks
  lasts_are (op.Chmod (GoodPath path) mode) (w ∷ []) are kept = ap (λ k. k ∷ []) (last_key_is path w are (All-head (IsKept tree cred) w [] kept))
  lasts_are (op.Chown (GoodPath path) uid gid) (w ∷ []) are kept = ap (λ k. k ∷ []) (last_key_is path w are (All-head (IsKept tree cred) w [] kept))
  lasts_are (op.Rmdir (GoodPath path)) (w ∷ []) are kept = ap (λ k. k ∷ []) (last_key_is path w are (All-head (IsKept tree cred) w [] kept))
  lasts_are (op.Rename (GoodPath from) (GoodPath to)) (a ∷ b ∷ []) are kept =
      ap (λ k. k ∷ last_key b.parent (last_name to) ∷ []) (last_key_is from a are.0 (All-head (IsKept tree cred) a (b ∷ []) kept))
      ∙ ap (λ k. a.last ∷ k ∷ []) (last_key_is to b are.1 (All-head (IsKept tree cred) b [] (All-tail (IsKept tree cred) a (b ∷ []) kept)))
  lasts_are other walks are kept = absurd are

-- the law of the verdict, in one tree
says_there : (tree : Tree) (cred : Cred) (call : Op) (parents : List (Option Dentry)) (passed : List ℕ) (rows : List Update) → IsTrue (is_for_rows call parents) → decided.AreKept tree cred call parents passed rows
    → SaysOfTree tree cred call (verdict_of cred call parents passed rows)
unfolding SaysInTrees
says_there tree cred call parents passed rows fits kept = in_trees cred call parents passed rows fits tree kept

-- ---- the last keys of the operation's walks are locked, and every node was heard

module _ (config : Config) (v : View) (l : ℕ) (keys : List Key) (walks : List Kept) (rows : List Update) (are : AreWalks (v.call l).op walks) (fits : IsTrue (is_for_rows (v.call l).op (parents_of walks)))
    (locked : (key : Key) → is_among key (lasts_of walks) ≡ true → is_among key keys ≡ true) (g : Good config v) where
  abbrev cred : Cred
  cred = (v.call l).cred

  abbrev pub judged : Judged
  judged = verdict_of cred (v.call l).op (parents_of walks) (passed_of walks) rows

  -- what the verdict says is so, where no directory is to be counted
  pub says_locked : v.op.work ≡ Locks l keys walks [] rows → SaysOfTree (now v) cred (v.call l).op judged
  says_locked at =
      let heard = subst (AreHeard v.map.table (now v)) at g.operation.heard in
      says_there (now v) cred (v.call l).op (parents_of walks) (passed_of walks) rows fits (are_kept (now v) cred rows (v.call l).op walks are (subst (AreKept (now v) v.call) at g.operation.walks)
      (λ key among. ⊎_elim {C = row_told rows key ≡ Some (row_at (now v) key)} (λ x. let none = x.0 in absurd (cc)) (λ x. x.1) (heard key (locked key among))))

  -- and where one was
  pub says_counted : (dir : ℕ) (updates : List Update) (sum : ℕ) → v.op.work ≡ Counts l keys walks [] rows dir updates sum → SaysOfTree (now v) cred (v.call l).op judged
  says_counted dir updates sum at =
      let heard = subst (AreHeard v.map.table (now v)) at g.operation.heard in
      says_there (now v) cred (v.call l).op (parents_of walks) (passed_of walks) rows fits
      (are_kept (now v) cred rows (v.call l).op walks are (subst (AreKept (now v) v.call) at g.operation.walks) (λ key among. heard key (locked key among)))

  -- a verdict's updates are for the locked keys
  updates_locked : All (IsKept (now v) cred) walks → (key : Key) → is_among key (keys_of (updates_of judged)) ≡ true → is_among key keys ≡ true
  updates_locked kept key told =
      elim (is_among key (last_keys (v.call l).op (parents_of walks))) as (λ b. is_among key (last_keys (v.call l).op (parents_of walks)) ≡ b → is_among key keys ≡ true) [
        | true ↦ λ last. locked key (ap (is_among key) (sym (lasts_are (now v) cred (v.call l).op walks are kept)) ∙ last)
        | false ↦ λ off. let none = within key cred (v.call l).op (parents_of walks) (passed_of walks) rows off in let wrong : true ≡ false = sym told ∙ none in absurd (cc)
      ] refl

  -- the directory that is to be counted stands under a locked key
  pub count_stands : (dir : ℕ) (updates : List Update) → v.op.work ≡ Locks l keys walks [] rows → judged ≡ Count dir updates → (key : Key) × (is_among key keys ≡ true) × IsSomeAnd (row_at (now v) key) (λ (r : Inode). r.ino ≡ dir)
  count_stands dir updates at is =
      let heard = subst (AreHeard v.map.table (now v)) at g.operation.heard in
      let kept = subst (AreKept (now v) v.call) at g.operation.walks in
      let found = subst (IsFound (last_keys (v.call l).op (parents_of walks)) rows) is (counts_found cred (v.call l).op (parents_of walks) (passed_of walks) rows) in
      let inside : is_among found.0 keys ≡ true = locked found.0 (ap (is_among found.0) (sym (lasts_are (now v) cred (v.call l).op walks are kept)) ∙ found.1) in
      let told : row_told rows found.0 ≡ Some (row_at (now v) found.0) = ⊎_elim {C = row_told rows found.0 ≡ Some (row_at (now v) found.0)} (λ x. let none = x.0 in absurd (cc)) (λ x. x.1) (heard found.0 inside) in
      (found.0, inside, subst (λ row. IsSomeAnd row (λ (r : Inode). r.ino ≡ dir)) (told_row rows found.0 (row_at (now v) found.0) told) found.2)

  decides : (updates : List Update) → IsReady v.op.work l keys → decided.IsChange (now v) cred (v.call l).op updates → ((key : Key) → is_among key (keys_of updates) ≡ true → is_among key keys ≡ true)
      → ((key : Key) → is_among key keys ≡ true → value_at (v.replica 255) key ≡ None) → IsDecided config v l keys updates
  decides updates stage change inside off = record {
    stage = stage;
    makes = change.made;
    fine = change.answered;
    agree = λ q. ap (λ t. row_at t q) change.laid;
    within = inside;
    off = off;
  }

  -- the verdict is a change
  pub change_decides : (updates : List Update) → v.op.work ≡ Locks l keys walks [] rows → judged ≡ Change updates → ((key : Key) → is_among key keys ≡ true → value_at (v.replica 255) key ≡ None) → IsDecided config v l keys updates
  change_decides updates at is off =
      decides updates (subst (λ w. IsReady w l keys) (sym at) (refl, refl, refl)) (subst (SaysOfTree (now v) cred (v.call l).op) is (says_locked at))
      (λ key told. updates_locked (subst (AreKept (now v) v.call) at g.operation.walks) key (ap (λ j. is_among key (keys_of (updates_of j))) is ∙ told)) off

  -- the verdict hangs on a directory, in which no node has counted a row
  pub empty_decides : (dir : ℕ) (updates : List Update) → v.op.work ≡ Counts l keys walks [] rows dir updates 0 → judged ≡ Count dir updates → ((key : Key) → is_among key keys ≡ true → value_at (v.replica 255) key ≡ None)
      → IsDecided config v l keys updates
  empty_decides dir updates at is off =
      let says : decided.IsCount (now v) cred (v.call l).op dir updates = subst (SaysOfTree (now v) cred (v.call l).op) is (says_counted dir updates 0 at) in
      decides updates (subst (λ w. IsReady w l keys) (sym at) (refl, refl, refl)) (says.empty (no_names dir (now v) (none_counted config v l keys walks rows dir updates at g)))
      (λ key told. updates_locked (subst (AreKept (now v) v.call) at g.operation.walks) key (ap (λ j. is_among key (keys_of (updates_of j))) is ∙ told)) off

  -- or some node has
  pub full_answers : (dir : ℕ) (updates : List Update) (sum : ℕ) → v.op.work ≡ Counts l keys walks [] rows dir updates sum → judged ≡ Count dir updates → sum ≢ 0 → answer (now v) cred (v.call l).op ≡ Fail Enotempty
  full_answers dir updates sum at is some =
      let says : decided.IsCount (now v) cred (v.call l).op dir updates = subst (SaysOfTree (now v) cred (v.call l).op) is (says_counted dir updates sum at) in
      says.full (name_of_row dir (now v) (some_counted config v l keys walks [] rows dir updates sum at some g))
