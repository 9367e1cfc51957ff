-- The rows of all nodes together are the tree that the commits leave.
use Rattle.std.proofs.Common.{◌≡◌, ◌≢◌, ◌⊎◌, inl, inr, ◌&&◌, ⊎_elim, ℕ, zero, suc, ◌+◌, ◌<◌, ◌≤◌, Bool, true, false, cond, List, [], ◌∷◌, length, Option, Some, None, refl, sym, ap, ◌∙◌, subst, arith}
use Rattle.std.specs.Prelude.{map, take, nat_lt, ◌==◌}
use Rattle.std.proofs.lemmas.Bool.Decides.{nat_tests}
use Rattle.std.specs.List.{fold, range_with_len}
use Rattle.std.specs.Option.{option_or}
use Rattle.std.specs.FinMap.Entries.{find-put, same_entries}
use Rattle.fal_base.specs.declared.call.Config.{Config}
use Rattle.fal_base.specs.declared.event.Event.{Event}
use Rattle.fal_base.specs.declared.inode.Inode.{Inode}
use Rattle.fal_base.specs.declared.key.Key.{Key}
use Rattle.fal_base.specs.Change.{change}
use Rattle.fal_base.specs.Commits.{Commit, tree_after, tree_at}
use Rattle.fal_base.specs.Transcript.{commits_of}
use Rattle.fal_base.specs.Tree.{Tree, tree0, key_cmp, same_key, row_at, IsInOrder}
use Rattle.fal_base.proofs.Order.{key_cmp_total, same_of_tied, held, in_order_with, in_order_change}
use Rattle.fal_base.specs.Updates.{laid}
use Rattle.fal_coord.specs.declared.stage.Stage.{Stage}
use Rattle.fal_coord.specs.declared.stage.Stage.TheVariants as stage
use Rattle.fal_coord.specs.State.{CoordState, is_idle, is_quiet}
use Rattle.fal_place.specs.Placement.{owner, Placement}
use Rattle.fal_story.proofs.Events.Doing.{work_of}
use Rattle.fal_story.proofs.Events.LegalRuns.{IsKept, legal_kept}
use Rattle.fal_story.proofs.Events.Shows.{view_of, before_in}
use Rattle.fal_story.proofs.Families.Operation.{Stands}
use Rattle.fal_story.proofs.Good.{Good}
use Rattle.fal_story.proofs.Lists.Grown.{tells}
use Rattle.fal_story.specs.AllRows.{with_tree, all_rows, tree_left}
use Rattle.fal_story.specs.Clusters.{IsCluster}
use Rattle.fal_story.specs.Run.{IsLegal, run, entries_at}
use Rattle.fal_story.proofs.View.{View, Rests}
use Rattle.fal_story.specs.World.{World}

-- ---- trees in order

-- trees in order with the same rows are one
pub same_tree : (a b : Tree) → IsInOrder a → IsInOrder b → ((key : Key) → row_at a key ≡ row_at b key) → a ≡ b
same_tree a b of_a of_b same = same_entries key_cmp key_cmp_total same_of_tied a b (held _ of_a) (held _ of_b) same

in_order_after : (tree : Tree) (commits : List Commit) → IsInOrder tree → IsInOrder (tree_after tree commits)
in_order_after tree [] sorted = sorted
in_order_after tree (c ∷ cs) sorted = in_order_after (change tree c.cred c.op c.ino) cs (in_order_change tree c.cred c.op c.ino sorted)

-- after any commits the tree is in order
pub in_order : (commits : List Commit) (k : ℕ) → IsInOrder (tree_at commits k)
in_order commits k = in_order_after tree0 (take k commits) refl

-- ---- trees put into one

pub in_order_with_tree : (tree rows : Tree) → IsInOrder tree → IsInOrder (with_tree tree rows)
in_order_with_tree tree [] sorted = sorted
in_order_with_tree tree (row ∷ rows) sorted = in_order_with (with_tree tree rows) row.0 row.1 (in_order_with_tree tree rows sorted)

in_order_fold : (tree : Tree) (trees : List Tree) → IsInOrder tree → IsInOrder (fold with_tree tree trees)
in_order_fold tree [] sorted = sorted
in_order_fold tree (rows ∷ trees) sorted = in_order_fold (with_tree tree rows) trees (in_order_with_tree tree rows sorted)

-- what several trees have in one is in order
pub in_order_all : (trees : List Tree) → IsInOrder (all_rows trees)
in_order_all trees = in_order_fold [] trees refl

-- under each key stands what the other tree has there, or else what stood there
pub row_with_tree : (tree rows : Tree) (q : Key) → row_at (with_tree tree rows) q ≡ option_or (row_at rows q) (row_at tree q)
row_with_tree tree [] q = refl
row_with_tree tree (row ∷ rows) q =
    find-put key_cmp key_cmp_total q row.0 row.1 (with_tree tree rows)
    ∙ elim (same_key q row.0) as (λ b. cond b (Some row.1) (row_at (with_tree tree rows) q) ≡ option_or (cond b (Some row.1) (row_at rows q)) (row_at tree q)) [
      | true ↦ refl
      | false ↦ row_with_tree tree rows q
    ]

again : (b : Bool) (x : Option Inode) → option_or (cond b x None) x ≡ x
again true None = refl
again true (Some inode) = refl
again false x = refl

or_none : (x : Option Inode) → option_or x None ≡ x
or_none None = refl
or_none (Some inode) = refl

-- of trees by number, the one with this number has this row under a key, and no other one has any
module _ (rows : ℕ → Tree) (q : Key) (own : ℕ) (x : Option Inode) (has : (n : ℕ) → row_at (rows n) q ≡ cond (own == n) x None) where
  passed : (tree : Tree) (from count : ℕ) → row_at tree q ≡ x → row_at (fold with_tree tree (map rows (range_with_len from count))) q ≡ x
  passed tree from zero is = is
  passed tree from (suc count) is =
      passed (with_tree tree (rows from)) (from + 1) count
      (row_with_tree tree (rows from) q ∙ (λ i. option_or (has from i) (is i)) ∙ again (own == from) x)

  reached : (tree : Tree) (from count : ℕ) → row_at tree q ≡ None → from ≤ own → own < from + count → row_at (fold with_tree tree (map rows (range_with_len from count))) q ≡ x
  reached tree from zero none above below = absurd (omega arith)
  reached tree from (suc count) none above below =
      let here = row_with_tree tree (rows from) q ∙ (λ i. option_or (has from i) (none i)) ∙ or_none (cond (own == from) x None) in
      ⊎_elim
      (λ h. passed (with_tree tree (rows from)) (from + 1) count (here ∙ ap (λ b. cond b x None) h.0))
      (λ h. let apart : own ≢ from = h.1 in
      reached (with_tree tree (rows from)) (from + 1) count (here ∙ ap (λ b. cond b x None) h.0) (omega arith) (omega arith))
      (tells own from)

-- ---- the rows of the nodes

abbrev trees_of : Config → World → List Tree
trees_of config w = map (λ n. (w.nodes n).rows) (range_with_len 0 config.nodes)

-- no operation is under way
is_at_rest : (before : Placement) (c : CoordState) → is_quiet c ≡ true → work_of before c.stage ≡ Rests
is_at_rest before c quiet = rests_at c.stage (second (length c.waiting == 0) (is_idle c.stage) quiet)
  where
    second : (a b : Bool) → (a && b) ≡ true → b ≡ true
    second true b is = is
    second false b is = absurd (cc)

    rests_at : (s : Stage) → is_idle s ≡ true → work_of before s ≡ Rests
    rests_at stage.Idle is = refl
    rests_at (stage.Walk call number key) is = absurd (cc)
    rests_at (stage.Lock operation missing rows) is = absurd (cc)
    rests_at (stage.Count operation rows dir updates missing counts) is = absurd (cc)
    rests_at (stage.Finish keys updates missing) is = absurd (cc)
    rests_at (stage.Block call missing rows) is = absurd (cc)
    rests_at (stage.Install call missing) is = absurd (cc)

pub below_or_past : (a b : ℕ) → (a < b) ⊎ (b ≤ a)
below_or_past a b = elim (nat_lt a b) as (λ t. nat_lt a b ≡ t → (a < b) ⊎ (b ≤ a)) [ true ↦ λ is. inl (grind (arith, nat_tests)) | false ↦ λ is. inr (grind (arith, nat_tests)) ] refl

-- where no operation is under way, no node has anything to lay
none_due_at_rest : (config : Config) (v : View) (n : ℕ) → v.op.work ≡ Rests → Good config v → v.op.due n ≡ []
none_due_at_rest config v n rests g = ⊎_elim {C = v.op.due n ≡ []}
    (λ below. (subst (λ w. Stands v.map.table v.op.operation w n (v.op.shut n) (v.op.queued n) (v.op.last n) (v.op.due n)) rests (g.operation.stands n below)).0)
    (λ past. (g.ground.absent n past).0)
    (below_or_past n config.nodes)

kept_rows : (config : Config) (w : World) → IsCluster config → is_quiet w.coord ≡ true → IsKept config w → all_rows (trees_of config w) ≡ tree_at w.commits (length w.commits)
kept_rows config w cluster quiet k =
    let some : 0 < config.nodes = let s = cluster.some_nodes in omega arith in
    let tree = tree_at w.commits (length w.commits) in
    let rests = is_at_rest (before_in config k.ghost) w.coord quiet in
    let due = λ (n : ℕ). none_due_at_rest config (view_of config w k.ghost) n rests k.shows.good in
    let rows = λ (n : ℕ) (q : Key). sym (ap (λ us. row_at (laid us (w.nodes n).rows) q) (due n)) ∙ k.shows.good.ground.rows n q in
    same_tree (all_rows (trees_of config w)) tree (in_order_all (trees_of config w)) (in_order w.commits (length w.commits)) (λ q.
    let below : owner w.coord.table q < config.nodes = k.shows.good.ground.lives q in
    reached (λ n. (w.nodes n).rows) q (owner w.coord.table q) (row_at tree q) (λ n. rows n q) [] 0 config.nodes refl (omega arith) (omega arith))

-- after a legal run that leaves no operation under way the rows of the nodes, from node 0 on, are the tree that the commits leave
pub rows_are_tree : (config : Config) (events : List Event) (w : World) → IsLegal config events → run config events ≡ Some w → is_quiet w.coord ≡ true
    → all_rows (map (λ n. (w.nodes n).rows) (range_with_len 0 config.nodes)) ≡ tree_at w.commits (length w.commits)
rows_are_tree config events w legal at quiet = kept_rows config w legal.cluster quiet (legal_kept config events w legal at)

-- and so the tree that the transcript leaves
pub rows_are_told : (config : Config) (events : List Event) (w : World) → IsLegal config events → run config events ≡ Some w → is_quiet w.coord ≡ true
    → all_rows (map (λ n. (w.nodes n).rows) (range_with_len 0 config.nodes)) ≡ tree_left config events
rows_are_told config events w legal at quiet =
    let k = legal_kept config events w legal at in
    kept_rows config w legal.cluster quiet k
    ∙ ap (λ commits. tree_at commits (length commits)) (k.shows.good.script.joined.same ∙ ap (λ o. commits_of config (entries_at o)) (sym at))
