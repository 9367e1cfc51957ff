-- The rows of a name leave their nodes, are on their way, and come to their owners by a new table: the clause of the rows stays.
use Rattle.std.proofs.Common.{◌≡◌, ◌≢◌, ⊎_elim, ℕ, ◌<◌, ◌≤◌, Bool, true, false, not, cond, List, [], Option, None, refl, sym, ap, ◌∙◌, arith}
use Rattle.std.specs.Prelude.{◌==◌}
use Rattle.std.specs.FinMap.Entries.{find-where_key, where_key}
use Rattle.std.proofs.lemmas.Cmp.{nat_list_eq_equiv}
use Rattle.fal_base.specs.declared.inode.Inode.{Inode}
use Rattle.fal_base.specs.declared.key.Key.{Key}
use Rattle.fal_base.specs.declared.row.Update.{Update}
use Rattle.fal_base.specs.Commits.{Commit}
use Rattle.fal_base.proofs.Order.{same_of_tied}
use Rattle.fal_base.specs.Tree.{Tree, key_cmp, row_at}
use Rattle.fal_dentry.specs.Walk.{Dentries, is_among}
use Rattle.fal_place.specs.Placement.{Placement, owner, same_name}
use Rattle.fal_base.specs.Updates.{laid, keys_of}
use Rattle.fal_base.proofs.Updates.{laid_off, laid_same}
use Rattle.fal_duty.specs.Duties.{owned}
use Rattle.fal_place.proofs.Tables.{name_cases}
use Rattle.fal_story.proofs.Lists.Grown.{put_all, put_both}
use Rattle.fal_story.proofs.View.{Asking}
use Rattle.fal_story.proofs.Trees.Standing.{row_of, tree_now}
use Rattle.fal_story.specs.World.{put}
use Rattle.fal_story.proofs.Families.Ground.{Ground}
use Rattle.fal_story.proofs.Trees.Laid.{laid_owned, owned_none}

-- the rows without those of the name
abbrev pub off_name : List ℕ → Tree → Tree
off_name name tree = where_key key_cmp (λ key. not (same_name key.name name)) tree

-- a node's rows of the name are taken out, and told as puts
pub record IsTakenOut (name : List ℕ) (rows left : Tree) (given : List Update) : Type 0 where
  pub same : (key : Key) → row_at (laid given left) key ≡ row_at rows key
  pub gone : (key : Key) → key.name ≡ name → row_at left key ≡ None
  pub named : (key : Key) → is_among key (keys_of given) ≡ true → key.name ≡ name

-- the updates are the tree's rows of the name, and no others
pub record IsWhole (name : List ℕ) (tree : Tree) (kept : List Update) : Type 0 where
  pub named : (key : Key) → is_among key (keys_of kept) ≡ true → key.name ≡ name
  pub whole : (key : Key) → key.name ≡ name → row_at (laid kept []) key ≡ row_at tree key

off_cases : (name : List ℕ) (tree : Tree) (q : Key) → row_at (off_name name tree) q ≡ cond (not (same_name q.name name)) (row_at tree q) None
off_cases name tree q = find-where_key key_cmp (λ key. not (same_name key.name name)) q (λ x tied. ap (λ k. not (same_name k.name name)) (sym (same_of_tied q x tied))) tree

pub name_off : (key : Key) (name : List ℕ) → same_name key.name name ≡ false → key.name ≢ name
name_off key name off same = let is : true ≡ false = sym (nat_list_eq_equiv.refl name) ∙ ap (λ n. same_name n name) (sym same) ∙ off in absurd (cc)

pub not_among : (key : Key) (us : List Update) (name : List ℕ) → ((q : Key) → is_among q (keys_of us) ≡ true → q.name ≡ name) → key.name ≢ name → is_among key (keys_of us) ≡ false
not_among key us name named other =
    elim (is_among key (keys_of us)) as (λ b. is_among key (keys_of us) ≡ b → b ≡ false) [ true ↦ λ e. absurd (other (named key e)) | false ↦ λ e. refl ] refl

-- with the rows of the name laid on the others, it is the tree
whole_laid : (name : List ℕ) (tree : Tree) (kept : List Update) → IsWhole name tree kept → (q : Key) → row_at (laid kept (off_name name tree)) q ≡ row_at tree q
whole_laid name tree kept is q = ⊎_elim
    (λ x. laid_same kept (off_name name tree) [] q (off_cases name tree q ∙ ap (λ b. cond (not b) (row_at tree q) None) x.0) ∙ is.whole q x.1)
    (λ off. laid_off kept (off_name name tree) q (not_among q kept name is.named (name_off q name off)) ∙ off_cases name tree q ∙ ap (λ b. cond (not b) (row_at tree q) None) off)
    (name_cases q.name name)

module _ {nodes : ℕ} {table : Placement} {rows : ℕ → Tree} {due : ℕ → List Update} {replica : ℕ → Dentries} {fetches : ℕ → List Asking} {commits : List Commit} (g : Ground nodes table rows due replica fetches commits) where
  -- the rows of a name are taken out of a node, and due to it
  pub ground_blocked : (name : List ℕ) (n : ℕ) (left : Tree) (given : List Update) → n < nodes → due n ≡ [] → IsTakenOut name (rows n) left given → Ground nodes table (put rows n left) (put due n given) replica fetches commits
  ground_blocked name n left given below none taken = record {
    lives = g.lives;
    rows = put_both (λ m r us. (key : Key) → row_at (laid us r) key ≡ row_of table (tree_now commits) m key) rows due n left given
        (λ key. taken.same key ∙ ap (λ us. row_at (laid us (rows n)) key) (sym none) ∙ g.rows n key) (λ m _. g.rows m);
    absent = put_all (λ m us. nodes ≤ m → (us ≡ []) × (m ≢ 255 → (replica m ≡ []) × (fetches m ≡ []))) due n given (λ past. absurd (omega arith)) (λ m _. g.absent m);
    replicas = g.replicas;
  }

  -- the table changes for the name: each of its rows is due to its new owner
  pub ground_placed : (table' : Placement) (name : List ℕ) (kept : List Update) → ((key : Key) → owner table' key < nodes) → ((key : Key) → key.name ≢ name → owner table' key ≡ owner table key)
      → ((n : ℕ) (key : Key) → key.name ≡ name → row_at (rows n) key ≡ None) → ((n : ℕ) (key : Key) → is_among key (keys_of (due n)) ≡ true → key.name ≡ name) → IsWhole name (tree_now commits) kept
      → Ground nodes table' rows (λ n. owned table' n kept) replica fetches commits
  ground_placed table' name kept lives others gone named whole =
      let bare : (n : ℕ) (q : Key) → row_at (rows n) q ≡ row_of table' (off_name name (tree_now commits)) n q = λ n q. ⊎_elim
      (λ x. gone n q x.1 ∙ nothing (owner table' q == n) (off_cases name (tree_now commits) q ∙ ap (λ b. cond (not b) (row_at (tree_now commits) q) None) x.0))
      (λ off.
      sym (laid_off (due n) (rows n) q (not_among q (due n) name (named n) (name_off q name off))) ∙ g.rows n q
      ∙ ap (λ o. cond (o == n) (row_at (tree_now commits) q) None) (sym (others q (name_off q name off)))
      ∙ ap (λ r. cond (owner table' q == n) r None) (sym (off_cases name (tree_now commits) q ∙ ap (λ b. cond (not b) (row_at (tree_now commits) q) None) off)))
      (name_cases q.name name) in
      record {
        lives = lives;
        rows = λ n key. laid_owned table' n kept (rows n) (off_name name (tree_now commits)) (bare n) key ∙ ap (λ r. cond (owner table' key == n) r None) (whole_laid name (tree_now commits) kept whole key);
        absent = λ n past. (owned_none table' n kept (λ key same. let below = lives key in absurd (omega arith)), (g.absent n past).1);
        replicas = g.replicas;
      }
    where
      nothing : (b : Bool) {r : Option Inode} → r ≡ None → None ≡ cond b r None
      nothing true e = sym e
      nothing false e = refl
