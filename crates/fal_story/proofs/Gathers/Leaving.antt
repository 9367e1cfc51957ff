-- The calls that leave a node: each belongs to another node by the coordinator's table, or its client knows an older table than the node.
use Rattle.std.proofs.Common.{◌≡◌, ◌≢◌, ⊎_elim, ℕ, ◌<◌, ◌≤◌, ◌==◌, nat_lt, true, false, not, List, Option, Some, None, IsSomeAnd, if◌then◌else◌, refl, sym, ap, subst, ◌∙◌, eq-eqb, arith}
use Rattle.std.proofs.lemmas.Bool.Decides.{nat_tests}
use Rattle.std.proofs.lemmas.Option.{same_Some}
use Rattle.fal_base.specs.declared.call.CallRec.{CallRec}
use Rattle.fal_base.specs.declared.call.Config.{Config}
use Rattle.fal_base.specs.declared.event.Actor.TheVariants.{Node}
use Rattle.fal_base.specs.declared.inode.Inode.{Inode}
use Rattle.fal_base.specs.declared.key.Key.{Key}
use Rattle.fal_base.specs.declared.op.Op.{Op}
use Rattle.fal_base.specs.declared.op.Op.TheVariants as op
use Rattle.fal_base.specs.declared.path.PathArg.{PathArg}
use Rattle.fal_base.specs.declared.path.PathArg.TheVariants.{Good, Bad}
use Rattle.fal_base.specs.OpPaths.{good_names, op_names}
use Rattle.fal_base.specs.Tree.{Tree}
use Rattle.fal_base.specs.Walk as tree_walk
use Rattle.fal_batch.proofs.Truth.{both_first, both_second, not_true}
use Rattle.fal_batch.specs.Fate.{Setting, Leaves, fate, last_of, goes_by_parent, is_stale, is_elsewhere, away_to}
use Rattle.fal_client.specs.Paths.{addressee, node_for}
use Rattle.fal_node.specs.Gather.{setting_at}
use Rattle.fal_place.specs.Placement.{Placement, opening_table, owner, route, table_after}
use Rattle.fal_wait.specs.declared.waiting_call.WaitingCall.{WaitingCall}
use Rattle.fal_story.proofs.Gathers.Fates.{IsAway, IsUnblocked, IsFateOf, named_op}
use Rattle.fal_story.proofs.Gathers.Going.{HasNames, fate_named, names_at}
use Rattle.fal_story.proofs.Events.Rules.{both_nodes, name_free, own_first, own_lives, own_route, root_free, rules_agree}
use Rattle.fal_story.proofs.Events.Shows.{Ghost, Shows, WaitsAt, barred_of, lane_of}
use Rattle.fal_story.proofs.Events.Tables.{coord_version, owner_at, recorded}
use Rattle.fal_story.proofs.Families.Bars.{IsBarred}
use Rattle.fal_story.proofs.Families.Lanes.{OwnsLast, OwnsNames}
use Rattle.fal_story.proofs.Phase.{IsFor}
use Rattle.fal_story.proofs.Trees.Rules.{RulesAgree, by_parent_same, route_same}
use Rattle.fal_story.proofs.Trees.Standing.{tree_now}
use Rattle.fal_story.specs.World.{World}

-- ---- where the client sent it

same_node : (a b : ℕ) → Node a ≡ Node b → a ≡ b
same_node a b e = cc

path_here : (table : Placement) (path : PathArg) (names : List (List ℕ)) (n : ℕ) → good_names path ≡ Some names → node_for table path ≡ Node n → route table names ≡ n
path_here table (Good names) other n is to = ap (route table) (sym (same_Some names other is)) ∙ same_node (route table names) n to
path_here table (Bad fault raw) other n is to = absurd (cc)

pub sent_here : (table : Placement) (o : Op) (names : List (List ℕ)) (n : ℕ) → op_names o ≡ Some names → addressee table o ≡ Node n → route table names ≡ n
unfolding addressee
sent_here table (op.Mkdir path mode) names n is to = path_here table path names n is to
sent_here table (op.Create path mode) names n is to = path_here table path names n is to
sent_here table (op.Stat path) names n is to = path_here table path names n is to
sent_here table (op.Access path want) names n is to = path_here table path names n is to
sent_here table (op.Chmod path mode) names n is to = path_here table path names n is to
sent_here table (op.Chown path uid gid) names n is to = path_here table path names n is to
sent_here table (op.Truncate path size) names n is to = path_here table path names n is to
sent_here table (op.Unlink path) names n is to = path_here table path names n is to
sent_here table (op.Rmdir path) names n is to = absurd (cc)
sent_here table (op.Rename old new) names n is to = absurd (cc)
sent_here table (op.List path) names n is to = path_here table path names n is to
sent_here table (op.Place name rule) names n is to = absurd (cc)

-- no name goes by its parent where there are no rules
never_by_parent : (nodes : ℕ) (last : Option (List ℕ)) → goes_by_parent (opening_table nodes) last ≡ false
never_by_parent nodes None = refl
never_by_parent nodes (Some name) = refl

-- ---- calls that leave, by what the node has at hand

-- that belong to another node by their last names alone
record IsApart (s : Setting) (names : List (List ℕ)) : Type 0 where
  by_name : goes_by_parent s.table (last_of names) ≡ false
  other : route s.table names ≢ s.me

apart_is : (s : Setting) (names : List (List ℕ)) → is_elsewhere s names ≡ true → IsApart s names
apart_is s names is =
    let a = goes_by_parent s.table (last_of names) in
    let b = route s.table names == s.me in
    let off : b ≡ false = not_true b (both_second (not a) (not b) is) in
    record {
      by_name = not_true a (both_first (not a) (not b) is);
      other = λ same. let wrong : true ≡ false = sym (eq-eqb (route s.table names) s.me same) ∙ off in absurd (cc);
    }

sent_to : (s : Setting) (call : CallRec) (m node : ℕ) → Some m ≡ away_to s.table call node → m ≡ node
sent_to s call m node is = elim (is_stale s.table call) as (λ b. Some m ≡ (if b then None else Some node) → m ≡ node) [ true ↦ λ e. absurd (cc) | false ↦ λ e. same_Some m node e ] is

pub told_of : (s : Setting) (call : CallRec) (node : ℕ) → None ≡ away_to s.table call node → call.version < s.table.version
told_of s call node is = elim (is_stale s.table call) as (λ b. is_stale s.table call ≡ b → None ≡ (if b then None else Some node) → call.version < s.table.version) [
  | true ↦ λ stale _. let older = both_second (call.id.hop == 0) (nat_lt call.version s.table.version) stale in grind (arith, nat_tests)
  | false ↦ λ _ e. absurd (cc)
] refl is

module _ (s : Setting) (table : Placement) (tree : Tree) (call : CallRec) (names : List (List ℕ)) where
  -- a call that is handed on belongs to the other node, and not to this one, by each table that gives its last name and its last key one place
  passed_owns : (m : ℕ) → s.table.nodes ≡ table.nodes → RulesAgree s.table table (last_of names) → ((key : Key) → IsUnblocked s key → owner s.table key ≡ owner table key) → IsAway s tree call (Some m) names
      → OwnsNames table tree m call.cred names × (OwnsNames table tree s.me call.cred names → ⊥)
  passed_owns m nodes agree owners is =
      let parent_is = by_parent_same s.table table (last_of names) agree in
      let route_is = route_same s.table table (last_of names) nodes agree in
      ⊎_elim
      (λ away.
      let apart = apart_is s names away.0 in
      let to : m ≡ route s.table names = sent_to s call m (route s.table names) away.1 in
      let by : goes_by_parent table (last_of names) ≡ false = sym parent_is ∙ apart.by_name in (
        record { by_name = λ _. sym (to ∙ route_is); by_parent = λ wrong. let e : false ≡ true = sym by ∙ wrong in absurd (cc) },
        λ owns. apart.other (route_is ∙ owns.by_name by),
      ))
      (λ away.
      let w = away.1 in
      let to : m ≡ owner s.table w.2 = same_Some m (owner s.table w.2) w.5 in
      let own = owners w.2 w.6 in
      let by : goes_by_parent table (last_of names) ≡ true = sym parent_is ∙ away.0 in (
        record {
          by_name = λ wrong. let e : true ≡ false = sym by ∙ wrong in absurd (cc);
          by_parent = λ _ dir passed last ends. let same : w.2 ≡ last = last_same w.0 dir w.1 passed w.2 last (sym w.3 ∙ ends) in ap (owner table) (sym same) ∙ sym (to ∙ own);
        },
        λ owns. w.4 (own ∙ owns.by_parent by w.0 w.1 w.2 w.3),
      ))
      is
    where
      last_same : (d e : Option Inode) (p q : List ℕ) (a b : Key) → tree_walk.Ready d p a ≡ tree_walk.Ready e q b → a ≡ b
      last_same d e p q a b same = cc

  -- to a node that is there
  passed_there : (count m : ℕ) → ((key : Key) → owner s.table key < count) → route s.table names < count → IsAway s tree call (Some m) names → m < count
  passed_there count m lives goes is =
      ⊎_elim
      (λ away. subst (λ k. k < count) (sym (sent_to s call m (route s.table names) away.1)) goes)
      (λ away. subst (λ k. k < count) (sym (same_Some m (owner s.table away.1.2) away.1.5)) (lives away.1.2))
      is

  -- where there are no rules no call leaves the node to which its client sent it
  first_stays : (to : Option ℕ) (nodes : ℕ) → s.table ≡ opening_table nodes → route s.table names ≡ s.me → IsAway s tree call to names → ⊥
  first_stays to nodes first here is =
      ⊎_elim
      (λ away. (apart_is s names away.0).other here)
      (λ away. let wrong : false ≡ true = sym (ap (λ t. goes_by_parent t (last_of names)) first ∙ never_by_parent nodes (last_of names)) ∙ away.0 in absurd (cc))
      is

  -- whose client is told knows an older table
  told_older : IsAway s tree call None names → call.version < s.table.version
  told_older is = ⊎_elim (λ away. told_of s call (route s.table names) away.1) (λ away. let wrong = away.1.5 in absurd (cc)) is

-- ---- at a node

module _ (config : Config) (w : World) (n : ℕ) (h : Ghost) (there : n < config.nodes) (other : n ≢ 255) (s : Shows config w h) where
  abbrev setting : Setting
  setting = setting_at (w.nodes n)

  abbrev tree : Tree
  tree = tree_now w.commits

  -- a key whose name is not blocked has the owner that it has by the coordinator's table
  pub unbarred : (key : Key) → IsUnblocked setting key → IsBarred (barred_of (w.nodes n).blocked) key.name → ⊥
  unbarred key is = ⊎_elim
      (λ empty. subst (λ name. IsBarred (barred_of (w.nodes n).blocked) name → ⊥) (sym empty) (root_free (w.nodes n).blocked (s.placed n).blocked))
      (λ off. name_free (w.nodes n).blocked (s.placed n).blocked key.name off)
      is

  pub owner_is : (key : Key) → IsUnblocked setting key → owner (w.nodes n).table key ≡ owner w.coord.table key
  owner_is key is = owner_at config w h s n key there (unbarred key is)

  -- the call belongs to that node now, and not to this one; and some rule was set
  pub record IsPassed (call : CallRec) (m : ℕ) : Type 0 where
    pub below : m < config.nodes
    pub not_here : OwnsLast w.coord.table tree n call → ⊥
    pub owns : OwnsLast w.coord.table tree m call
    pub later : 1 ≤ w.coord.table.version

  -- it leaves to that node, or to its client, who knows an older table
  abbrev pub MayLeave : CallRec → Option ℕ → Type 0
  MayLeave call None = call.version < (w.nodes n).table.version
  MayLeave call (Some m) = IsPassed call m

  -- before the first placement the call is where it was sent
  first_here : (c : WaitingCall) (at : WaitsAt h.call h.phase n c) → w.coord.table.version ≡ 0 → route (w.nodes n).table (names_at config w n h other s c at).0 ≡ n
  first_here c at none =
      let names = names_at config w n h other s c at in
      let to : addressee w.coord.table c.call.op ≡ Node n = ap (λ (k : CallRec). addressee w.coord.table k.op) at.1 ∙ ((s.good.lanes.routed (lane_of c) n (subst (IsFor n) (sym at.0) refl)).first there none).1 in
      ap (λ t. route t names.0) (own_first config w h s none n there) ∙ sent_here w.coord.table c.call.op names.0 n (named_op c.call.op names.0 names.1.0) to

  first_table : w.coord.table.version ≡ 0 → (w.nodes n).table ≡ opening_table config.nodes
  first_table none = own_first config w h s none n there ∙ recorded config w h s ∙ ap (table_after config.nodes h.placings) (sym (coord_version config w h s) ∙ none)

  -- so by a first table none leaves
  later_now : (c : WaitingCall) (at : WaitsAt h.call h.phase n c) (to : Option ℕ) → IsAway setting tree c.call to (names_at config w n h other s c at).0 → 1 ≤ w.coord.table.version
  later_now c at to is =
      let names = (names_at config w n h other s c at).0 in
      elim (w.coord.table.version == 0) as (λ b. (w.coord.table.version == 0) ≡ b → 1 ≤ w.coord.table.version) [
        | true ↦ λ e. let none : w.coord.table.version ≡ 0 = grind (arith, nat_tests) in
            absurd (first_stays setting w.coord.table tree c.call names to config.nodes (first_table none) (first_here c at none ∙ sym (s.placed n).number) is)
        | false ↦ λ e. grind (arith, nat_tests)
      ] refl

  owns_last : (table : Placement) (m : ℕ) (call : CallRec) (names : HasNames call.op) → OwnsNames table tree m call.cred names.0 → OwnsLast table tree m call
  owns_last table m call names owns = subst (λ o. IsSomeAnd o (λ ns. OwnsNames table tree m call.cred ns)) (sym names.1.0) owns

  owns_names : (table : Placement) (m : ℕ) (call : CallRec) (names : HasNames call.op) → OwnsLast table tree m call → OwnsNames table tree m call.cred names.0
  owns_names table m call names owns = subst (λ o. IsSomeAnd o (λ ns. OwnsNames table tree m call.cred ns)) names.1.0 owns

  leaves_as : (c : WaitingCall) (at : WaitsAt h.call h.phase n c) (to : Option ℕ) → IsFateOf setting tree c.call (Some (names_at config w n h other s c at).0) (Leaves to) → MayLeave c.call to
  leaves_as c at None is = told_older setting w.coord.table tree c.call (names_at config w n h other s c at).0 is.1
  leaves_as c at (Some m) is =
      let names = names_at config w n h other s c at in
      let number = (s.placed n).number in
      let both = passed_owns setting w.coord.table tree c.call names.0 m (both_nodes config w h s n there) (rules_agree config w h s n (last_of names.0) there is.0) owner_is is.1 in
      record {
        below = passed_there setting w.coord.table tree c.call names.0 config.nodes m (own_lives config w h s n there) (own_route config w h s n there names.0) is.1;
        not_here = λ owns. both.1 (owns_names w.coord.table setting.me c.call names (subst (λ k. OwnsLast w.coord.table tree k c.call) (sym number) owns));
        owns = owns_last w.coord.table m c.call names both.0;
        later = later_now c at (Some m) is.1;
      }

  pub leaves_now : (c : WaitingCall) → WaitsAt h.call h.phase n c → (to : Option ℕ) → fate setting c.call ≡ Leaves to → MayLeave c.call to
  leaves_now c at to is = leaves_as c at to (subst (IsFateOf setting tree c.call (Some (names_at config w n h other s c at).0)) is (fate_named config w n h other s c at))
