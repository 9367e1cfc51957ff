-- Rows and replicas.
use Rattle.std.proofs.Common.{◌≡◌, ◌≢◌, ◌⊎◌, ⊎_elim, ℕ, ◌<◌, ◌≤◌, List, [], ◌∷◌, ◌++◌, Option, Some, None, false, true, cond, refl, sym, ap, ◌∙◌, subst, arith}
use Rattle.std.specs.Prelude.{◌==◌}
use Rattle.std.proofs.lemmas.Bool.{eq-eqb}
use Rattle.fal_base.specs.declared.inode.Dentry.{Dentry}
use Rattle.fal_base.specs.declared.inode.Inode.{Inode}
use Rattle.fal_base.specs.declared.key.Key.{Key}
use Rattle.fal_base.specs.declared.row.Update.{Update}
use Rattle.fal_base.specs.Commits.{Commit}
use Rattle.fal_base.specs.Maps.{value_at, with_value}
use Rattle.fal_base.proofs.Maps.{put_cases}
use Rattle.fal_base.specs.Tree.{Tree, row_at}
use Rattle.fal_base.specs.Updates.{laid, laid_at, keys_of}
use Rattle.fal_base.proofs.Updates.{laid_swap}
use Rattle.fal_dentry.specs.Walk.{Dentries, is_among}
use Rattle.fal_duty.specs.Duties.{owned}
use Rattle.fal_place.specs.Placement.{Placement, owner}
use Rattle.fal_story.proofs.Lists.Grown.{put_all, put_both, unequal}
use Rattle.fal_story.proofs.Trees.Changed.{IsChanged, dir_kept}
use Rattle.fal_story.proofs.Trees.Laid.{laid_owned, own_laid, other_laid, owned_none}
use Rattle.fal_story.proofs.Trees.Standing.{HasDir, row_of, tree_now}
use Rattle.fal_story.proofs.View.{Asking}
use Rattle.fal_story.specs.World.{put}

-- with what a node has still to lay, its rows are the tree's of the keys that it owns
abbrev pub Rows : Placement → (ℕ → Tree) → (ℕ → List Update) → List Commit → Type 0
Rows table rows due commits = (n : ℕ) (key : Key) → row_at (laid (due n) (rows n)) key ≡ row_of table (tree_now commits) n key

abbrev pub Replicas : (ℕ → Dentries) → List Commit → Type 0
Replicas replica commits = (n : ℕ) (key : Key) (dentry : Dentry) → value_at (replica n) key ≡ Some dentry → HasDir (tree_now commits) key dentry

-- a number that is no node's
abbrev pub IsAbsent : (ℕ → List Update) → (ℕ → Dentries) → (ℕ → List Asking) → ℕ → Type 0
IsAbsent due replica fetches n = (due n ≡ []) × (n ≢ 255 → (replica n ≡ []) × (fetches n ≡ []))

pub record Ground (nodes : ℕ) (table : Placement) (kept : ℕ → Tree) (due : ℕ → List Update) (replica : ℕ → Dentries) (fetches : ℕ → List Asking) (commits : List Commit) : Type 0 where
  pub lives : (key : Key) → owner table key < nodes
  pub rows : Rows table kept due commits
  pub absent : (n : ℕ) → nodes ≤ n → IsAbsent due replica fetches n
  pub replicas : Replicas replica commits

same_dentry : (a b : Dentry) → Some a ≡ Some b → a ≡ b
same_dentry a b e = cc

module _ {nodes : ℕ} {table : Placement} {rows : ℕ → Tree} {due : ℕ → List Update} {replica : ℕ → Dentries} {fetches : ℕ → List Asking} {commits : List Commit} (g : Ground nodes table rows due replica fetches commits) where
  -- one more directory in a replica, which stands there
  pub ground_learned : (n : ℕ) (key : Key) (dentry : Dentry) → (n ≡ 255) ⊎ (n < nodes) → HasDir (tree_now commits) key dentry
      → Ground nodes table rows due (put replica n (with_value (replica n) key dentry)) fetches commits
  ground_learned n key dentry who is = record {
    lives = g.lives;
    rows = g.rows;
    absent = put_all (λ m r. nodes ≤ m → (due m ≡ []) × (m ≢ 255 → (r ≡ []) × (fetches m ≡ []))) replica n (with_value (replica n) key dentry)
        (λ past. ((g.absent n past).0, λ other. ⊎_elim (λ own. absurd (other own)) (λ below. absurd (omega arith)) who))
        (λ m _. g.absent m);
    replicas = put_all (λ m r. (q : Key) (d : Dentry) → value_at r q ≡ Some d → HasDir (tree_now commits) q d) replica n (with_value (replica n) key dentry)
        (λ q d h. ⊎_elim
        (λ x. subst (HasDir (tree_now commits) q) (same_dentry dentry d (sym x.1 ∙ h)) (subst (λ k. HasDir (tree_now commits) k dentry) (sym x.0) is))
        (λ x. g.replicas n q d (sym x.1 ∙ h))
        (put_cases q key dentry (replica n)))
        (λ m _. g.replicas m);
  }

  -- a node lays what is due: the clause of its rows is the same by computation
  pub ground_reopened : (n : ℕ) → Ground nodes table (put rows n (laid (due n) (rows n))) (put due n []) replica fetches commits
  ground_reopened n = record {
    lives = g.lives;
    rows = put_both (λ m r us. (key : Key) → row_at (laid us r) key ≡ row_of table (tree_now commits) m key) rows due n (laid (due n) (rows n)) [] (g.rows n) (λ m _. g.rows m);
    absent = put_all (λ m us. nodes ≤ m → (us ≡ []) × (m ≢ 255 → (replica m ≡ []) × (fetches m ≡ []))) due n [] (λ past. (refl, (g.absent n past).1)) (λ m _. g.absent m);
    replicas = g.replicas;
  }

  -- an operation is decided: each node has its part of the updates due
  module _ (c : Commit) (updates : List Update) (Safe : Key → Type 0) (changed : IsChanged (tree_now commits) (tree_now (commits ++ c ∷ [])) Safe) where
    pub ground_decided : ((q : Key) → row_at (tree_now (commits ++ c ∷ [])) q ≡ row_at (laid updates (tree_now commits)) q) → ((n : ℕ) → due n ≡ [])
        → ((n : ℕ) (key : Key) (dentry : Dentry) → value_at (replica n) key ≡ Some dentry → Safe key)
        → Ground nodes table rows (λ n. owned table n updates) replica fetches (commits ++ c ∷ [])
    ground_decided agree none safe = record {
      lives = g.lives;
      rows = λ n key.
          laid_owned table n updates (rows n) (tree_now commits) (λ q. ap (λ us. row_at (laid us (rows n)) q) (sym (none n)) ∙ g.rows n q) key
          ∙ ap (λ o. cond (owner table key == n) o None) (sym (agree key));
      absent = λ n past. (owned_none table n updates (λ key same. let below = g.lives key in absurd (omega arith)), (g.absent n past).1);
      replicas = λ n key dentry there. dir_kept (tree_now commits) (tree_now (commits ++ c ∷ [])) Safe key dentry changed (safe n key dentry there) (g.replicas n key dentry there);
    }

  -- a node changes a row of its own, under a key of which nothing is due, as the tree changes
  module _ (c : Commit) (Safe : Key → Type 0) (changed : IsChanged (tree_now commits) (tree_now (commits ++ c ∷ [])) Safe) where
    pub ground_executed : (n : ℕ) (key : Key) (row : Option Inode) → owner table key ≡ n → is_among key (keys_of (due n)) ≡ false → tree_now (commits ++ c ∷ []) ≡ laid_at (tree_now commits) key row
        → ((n : ℕ) (key : Key) (dentry : Dentry) → value_at (replica n) key ≡ Some dentry → Safe key)
        → Ground nodes table (put rows n (laid_at (rows n) key row)) due replica fetches (commits ++ c ∷ [])
    ground_executed n key row own off after safe =
        let is : (owner table key == n) ≡ true = eq-eqb _ _ own in
        let rows_now : (m : ℕ) (q : Key) → row_at (laid (due m) (put rows n (laid_at (rows n) key row) m)) q ≡ row_of table (laid_at (tree_now commits) key row) m q = put_all (λ m r. (q : Key) → row_at (laid (due m) r) q ≡ row_of table (laid_at (tree_now commits) key row) m q) rows n (laid_at (rows n) key row)
        (λ q. laid_swap (due n) (rows n) key q row off ∙ own_laid table n (laid (due n) (rows n)) (tree_now commits) key row own is (g.rows n) q)
        (λ m apart. other_laid table m (laid (due m) (rows m)) (tree_now commits) key row (unequal _ _ (λ same. apart (sym same ∙ own))) (g.rows m)) in
        record {
          lives = g.lives;
          rows = λ m q. rows_now m q ∙ ap (λ t. row_of table t m q) (sym after);
          absent = g.absent;
          replicas = λ n key dentry there. dir_kept (tree_now commits) (tree_now (commits ++ c ∷ [])) Safe key dentry changed (safe n key dentry there) (g.replicas n key dentry there);
        }

  -- a replica loses entries
  pub ground_dropped : (n : ℕ) (r : Dentries) → ((n ≡ 255) ⊎ (n < nodes)) → ((key : Key) (dentry : Dentry) → value_at r key ≡ Some dentry → value_at (replica n) key ≡ Some dentry) → Ground nodes table rows due (put replica n r) fetches commits
  ground_dropped n r who fewer = record {
    lives = g.lives;
    rows = g.rows;
    absent = put_all (λ m r. nodes ≤ m → (due m ≡ []) × (m ≢ 255 → (r ≡ []) × (fetches m ≡ []))) replica n r
        (λ past. ((g.absent n past).0, λ other. ⊎_elim (λ own. absurd (other own)) (λ below. absurd (omega arith)) who))
        (λ m _. g.absent m);
    replicas = put_all (λ m r. (q : Key) (d : Dentry) → value_at r q ≡ Some d → HasDir (tree_now commits) q d) replica n r (λ q d h. g.replicas n q d (fewer q d h)) (λ m _. g.replicas m);
  }

  -- other fetches are pending
  pub ground_fetched : (n : ℕ) (fs : List Asking) → ((n ≡ 255) ⊎ (n < nodes)) → Ground nodes table rows due replica (put fetches n fs) commits
  ground_fetched n fs who = record {
    lives = g.lives;
    rows = g.rows;
    absent = put_all (λ m fs. nodes ≤ m → (due m ≡ []) × (m ≢ 255 → (replica m ≡ []) × (fs ≡ []))) fetches n fs
        (λ past. ((g.absent n past).0, λ other. ⊎_elim (λ own. absurd (other own)) (λ below. absurd (omega arith)) who))
        (λ m _. g.absent m);
    replicas = g.replicas;
  }
