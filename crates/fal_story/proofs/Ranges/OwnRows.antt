-- The rows of a node are the tree's, or are still to be removed by an operation that is decided.
use Rattle.std.proofs.Common.{◌≡◌, ◌⊎◌, inl, inr, ⊎_elim, ℕ, ◌<◌, ◌≤◌, ◌^◌, ◌==◌, ◌||◌, ◌&&◌, Bool, true, false, not, cond, List, [], ◌∷◌, ◌++◌, length, Option, Some, None, refl, sym, ap, ◌∙◌, subst, arith}
use Rattle.std.specs.Prelude.{is_some, IsSome}
use Rattle.std.proofs.lemmas.List.{length-append, length-map}
use Rattle.fal_base.specs.declared.call.Config.{Config}
use Rattle.fal_base.specs.declared.inode.Inode.{Inode}
use Rattle.fal_base.specs.declared.key.Key.{Key}
use Rattle.fal_base.specs.declared.row.Update.{Update}
use Rattle.fal_base.specs.Names.{is_name}
use Rattle.fal_base.specs.Tree.{Tree, row_at, root_key, same_key}
use Rattle.fal_base.specs.Updates.{keys_of}
use Rattle.fal_base.proofs.Maps.{same_key_is}
use Rattle.fal_base.proofs.Updates.{laid_off}
use Rattle.fal_batch.proofs.Truth.{both_second}
use Rattle.fal_coord.specs.declared.stage.Stage.{Stage}
use Rattle.fal_coord.specs.declared.stage.Stage.TheVariants as stage
use Rattle.fal_dentry.specs.Walk.{is_among}
use Rattle.fal_locks.specs.declared.holder.Shut.{Shut}
use Rattle.fal_place.specs.Placement.{Placement, owner}
use Rattle.fal_wire.specs.declared.message.Message.{Message}
use Rattle.fal_wire.specs.Names.{is_key_name, key_field, key_name_field}
use Rattle.fal_wire.specs.Rows.{updates_field}
use Rattle.fal_story.proofs.Events.Doing.{work_of}
use Rattle.fal_story.proofs.Events.Shows.{Ghost, Shows, before_in, barred_of}
use Rattle.fal_story.proofs.Families.Operation.{Stands}
use Rattle.fal_story.proofs.Families.Script.{IsDrawn}
use Rattle.fal_story.proofs.Lists.Each.{Each, each_weaker}
use Rattle.fal_story.proofs.Lists.Members.{IsIn, each_in, each_map, in_back, in_front, same_number}
use Rattle.fal_story.proofs.Ranges.Bounds.{IsRanged}
use Rattle.fal_story.proofs.Ranges.CoordBounds.{IsStageRanged}
use Rattle.fal_story.proofs.Ranges.Counts.{few_commits}
use Rattle.fal_story.proofs.Ranges.NoMore.{no_more}
use Rattle.fal_story.proofs.Ranges.OperationRecords.{UpdateFits, updates_are, updates_fit}
use Rattle.fal_story.proofs.Ranges.RowCounts.{entry_at, keys_differ}
use Rattle.fal_story.proofs.Ranges.TreeBounds.{keys_in, stands_in, tree_most}
use Rattle.fal_story.proofs.Ranges.TreeNames.{IsNamedKey, tree_named}
use Rattle.fal_story.proofs.Ranges.TreeNumbers.{AreBelow, tree_low}
use Rattle.fal_story.proofs.Steps.Reads.{IsFree, due_free}
use Rattle.fal_story.proofs.Trees.Laid.{owned_among}
use Rattle.fal_story.proofs.Trees.Standing.{tree_now}
use Rattle.fal_story.specs.Clusters.{IsCluster}
use Rattle.fal_story.specs.World.{World}

-- the updates of an operation that is decided
abbrev pub decided_updates : Stage → List Update
decided_updates (stage.Finish keys updates missing) = updates
decided_updates other = []

-- an update that is due is of the operation, or of the name that is on its way
due_decided : (table before : Placement) (operation n : ℕ) (s : Stage) (shut : Option Shut) (queued : Option Message) (last : ℕ) (due : List Update) (key : Key) → Stands table operation (work_of before s) n shut queued last due
    → IsFree (work_of before s) due key → is_among key (keys_of due) ≡ true → is_among key (keys_of (decided_updates s)) ≡ true
due_decided table before operation n stage.Idle shut queued last due key stands free among = sym (ap (λ us. is_among key (keys_of us)) stands.0) ∙ among
due_decided table before operation n (stage.Walk call number wanted) shut queued last due key stands free among = sym (ap (λ us. is_among key (keys_of us)) stands.0) ∙ among
due_decided table before operation n (stage.Lock operating missing rows) shut queued last due key stands free among = sym (ap (λ us. is_among key (keys_of us)) stands.0) ∙ among
due_decided table before operation n (stage.Count operating rows dir updates missing counts) shut queued last due key stands free among = sym (ap (λ us. is_among key (keys_of us)) stands.0) ∙ among
due_decided table before operation n (stage.Block call missing rows) shut queued last due key stands free among = sym free ∙ among
due_decided table before operation n (stage.Install call missing) shut queued last due key stands free among = sym free ∙ among
due_decided table before operation n (stage.Finish keys updates missing) shut queued last due key stands free among = ⊎_elim
    (λ x. owned_among table n updates key (sym (ap (λ us. is_among key (keys_of us)) x.0) ∙ among))
    (λ x. let none : is_among key [] ≡ true = sym (ap (λ us. is_among key (keys_of us)) x.0) ∙ among in absurd (cc))
    stands

among_in : (key : Key) (keys : List Key) → is_among key keys ≡ true → IsIn key keys
among_in key [] among = absurd (cc)
among_in key (k ∷ keys) among =
    elim (same_key k key) as (λ b. same_key k key ≡ b → (b || is_among key keys) ≡ true → (k ≡ key) ⊎ IsIn key keys) [
      | true ↦ λ same _. inl ((same_key_is k key).0 same)
      | false ↦ λ _ later. inr (among_in key keys later)
    ] refl among

pub of_owner : (b : Bool) (row : Option Inode) → IsSome (cond b row None) → IsSome row
of_owner true row some = some
of_owner false row some = absurd (cc)

none_fit : updates_field.Fits []
none_fit = updates_fit [] (omega arith) tt

decided_fit : (number : ℕ) (s : Stage) → IsStageRanged number s → updates_field.Fits (decided_updates s)
decided_fit number (stage.Finish keys updates missing) ranged = ranged
decided_fit number stage.Idle ranged = none_fit
decided_fit number (stage.Walk call fetch key) ranged = none_fit
decided_fit number (stage.Lock operation missing rows) ranged = none_fit
decided_fit number (stage.Count operation rows dir updates missing counts) ranged = none_fit
decided_fit number (stage.Block call missing rows) ranged = none_fit
decided_fit number (stage.Install call missing) ranged = none_fit

parent_fits : (key : Key) → key_field.Fits key → key.parent < 256 ^ 8
unfolding key_field
parent_fits key fits = fits.0

-- what an update is for can be spelled
key_of_update : (updates : List Update) (key : Key) → Each UpdateFits updates → IsIn key (keys_of updates) → key_field.Fits key
key_of_update updates key fits among = each_in key_field.Fits (keys_of updates) key (each_map key_field.Fits (λ (u : Update). u.key) updates (each_weaker UpdateFits _ updates (λ u h. h.0) fits)) among

name_is : (key : Key) → key_field.Fits key → IsNamedKey key
unfolding key_field key_name_field is_key_name
name_is key fits =
    elim (length key.name == 0) as (λ b. (length key.name == 0) ≡ b → cond b (key.parent == 0) (not (key.parent == 0) && is_name key.name) ≡ true → IsNamedKey key) [
      | true ↦ λ none at. inl (root_is key.parent key.name (same_number key.parent 0 at) (same_number (length key.name) 0 none))
      | false ↦ λ _ is. inr (both_second (not (key.parent == 0)) (is_name key.name) is)
    ] refl fits.1.1
  where
    root_is : (parent : ℕ) (name : List ℕ) → parent ≡ 0 → length name ≡ 0 → record { parent = parent; name = name } ≡ root_key
    root_is parent [] at none = ap (λ p. record { parent = p; name = [] }) at
    root_is parent (b ∷ name) at none = absurd (omega arith)

-- a number that was drawn by so few is small
drawn_low : (drawn : ℕ → ℕ) (ino : ℕ) → ((n : ℕ) → drawn n ≤ 10000) → IsDrawn drawn ino → ino < 256 ^ 8
drawn_low drawn ino few is = ⊎_elim {C = ino < 256 ^ 8} (λ none. omega arith) (λ x. let most = few x.0 in let node = x.1.1 in let less = x.1.2 in let same = x.1.3 in omega arith) is

module _ (config : Config) (w : World) (h : Ghost) (cluster : IsCluster config) (shows : Shows config w h) where
  abbrev pub now : Tree
  now = tree_now w.commits

  -- the tree has few rows
  pub few_now : length now ≤ 10001
  few_now = let most = tree_most w.commits in let few = few_commits config w h cluster shows in omega arith

  numbers_low : AreBelow (256 ^ 8) w.commits
  numbers_low i c at =
      let few = few_commits config w h cluster shows in
      drawn_low (λ n. (w.nodes n).drawn) c.ino (λ n. let most = shows.good.script.commits.few n in omega arith) (shows.good.script.commits.numbers i c at)

  -- and each stands under a directory whose number can be spelled
  pub now_parents : (key : Key) → IsSome (row_at now key) → key.parent < 256 ^ 8
  now_parents key some =
      let low = tree_low (256 ^ 8) w.commits (omega arith) numbers_low in
      elim (row_at now key) as (λ (o : Option Inode). row_at now key ≡ o → IsSome o → key.parent < 256 ^ 8) [ None ↦ λ _ none. absurd (cc) | Some row ↦ λ there _. low.parents key row there ] refl some

  -- and under a key that has a name, or the root's
  pub now_named : (key : Key) → IsSome (row_at now key) → IsNamedKey key
  now_named key some =
      elim (row_at now key) as (λ (o : Option Inode). row_at now key ≡ o → IsSome o → IsNamedKey key) [
        | None ↦ λ _ none. absurd (cc)
        | Some row ↦ λ there _. tree_named config w.entries w.commits cluster shows.good.script.joined.same shows.good.script.commits.legal key row there
      ] refl some

  -- a node's row is the tree's, or one that the operation changes
  own_row : (n : ℕ) (key : Key) → n < config.nodes → IsSome (row_at (w.nodes n).rows key) → IsSome (row_at now key) ⊎ (is_among key (keys_of (decided_updates w.coord.stage)) ≡ true)
  own_row n key there some =
      elim (is_among key (keys_of (h.due n))) as (λ b. is_among key (keys_of (h.due n)) ≡ b → IsSome (row_at now key) ⊎ (is_among key (keys_of (decided_updates w.coord.stage)) ≡ true)) [
        | true ↦ λ among. inr (due_decided w.coord.table (before_in config h) w.coord.operation n w.coord.stage (w.nodes n).locks.shut (h.queued n) (w.nodes n).last_operation (h.due n) key (shows.good.operation.stands n there) free among)
        | false ↦ λ off. inl (of_owner (owner w.coord.table key == n) (row_at now key) (subst IsSome (sym (laid_off (h.due n) (w.nodes n).rows key off) ∙ shows.good.ground.rows n key) some))
      ] refl
    where
      -- the node has a row there, so that its name is not the one that is blocked
      free : IsFree (work_of (before_in config h) w.coord.stage) (h.due n) key
      free = due_free w.coord.table w.coord.operation n (work_of (before_in config h) w.coord.stage) (w.nodes n).table (barred_of (w.nodes n).blocked) (h.queued n) (w.nodes n).last_operation h.due key
          (shows.good.bars.stands n there) shows.good.bars.named (λ barred. let wrong : false ≡ true = sym (ap is_some (shows.good.bars.gone n key barred)) ∙ some in absurd (cc))

  -- so that it has few
  pub few_rows : (n : ℕ) → n < config.nodes → IsRanged w → length (w.nodes n).rows ≤ 10003
  few_rows n there ranged =
      let updates = decided_updates w.coord.stage in
      let rows = (w.nodes n).rows in
      let sorted = (ranged.nodes n).sorted in
      let all = keys_in now ++ keys_of updates in
      let among = each_weaker _ (λ (e : Key × Inode). IsIn e.0 all) rows
      (λ e at. ⊎_elim (λ some. in_front (keys_in now) (keys_of updates) e.0 (stands_in now e.0 some)) (λ told. in_back (keys_in now) (keys_of updates) e.0 (among_in e.0 (keys_of updates) told)) (own_row n e.0 there (ap is_some at)))
      (entry_at rows sorted) in
      let no_more_than = no_more (λ (e : Key × Inode). e.0) rows all (keys_differ rows sorted) among in
      let both = length-append (keys_in now) (keys_of updates) in
      let of_tree = length-map now (λ (e : Key × Inode). e.0) in
      let of_updates = length-map updates (λ (u : Update). u.key) in
      let few = few_now in
      let few_updates = (updates_are updates (decided_fit w.coord.operation w.coord.stage ranged.coord.stage)).few in
      omega arith

  -- which stand under directories whose numbers can be spelled
  pub own_parents : (n : ℕ) → n < config.nodes → IsRanged w → (key : Key) → IsSome (row_at (w.nodes n).rows key) → key.parent < 256 ^ 8
  own_parents n there ranged key some =
      let updates = decided_updates w.coord.stage in
      let fit = (updates_are updates (decided_fit w.coord.operation w.coord.stage ranged.coord.stage)).fit in
      ⊎_elim {C = key.parent < 256 ^ 8}
      (λ stands. now_parents key stands)
      (λ told. parent_fits key (key_of_update updates key fit (among_in key (keys_of updates) told)))
      (own_row n key there some)

  -- and under keys that have names, but for the root's
  pub own_named : (n : ℕ) → n < config.nodes → IsRanged w → (key : Key) → IsSome (row_at (w.nodes n).rows key) → IsNamedKey key
  own_named n there ranged key some =
      let updates = decided_updates w.coord.stage in
      let fit = (updates_are updates (decided_fit w.coord.operation w.coord.stage ranged.coord.stage)).fit in
      ⊎_elim {C = IsNamedKey key}
      (λ stands. now_named key stands)
      (λ told. name_is key (key_of_update updates key fit (among_in key (keys_of updates) told)))
      (own_row n key there some)
