-- What a node gives away comes to the coordinator as rows of the tree, of which none came before.
use Rattle.std.proofs.Common.{◌≡◌, ◌≢◌, ⊎_elim, ℕ, ◌≤◌, ◌==◌, ◌||◌, Bool, true, false, cond, List, [], ◌∷◌, ◌++◌, length, Option, Some, None, refl, sym, ap, ◌∙◌, subst, arith, true≢false}
use Rattle.std.specs.Prelude.{is_some, IsSome}
use Rattle.std.proofs.lemmas.List.{length-append, length-map}
use Rattle.fal_base.specs.declared.call.CallRec.{CallRec}
use Rattle.fal_base.specs.declared.call.Config.{Config}
use Rattle.fal_base.specs.declared.event.Actor.{Actor}
use Rattle.fal_base.specs.declared.inode.Inode.{Inode}
use Rattle.fal_base.specs.declared.key.Key.{Key}
use Rattle.fal_base.specs.declared.row.NamedRow.{NamedRow}
use Rattle.fal_base.specs.Tree.{Tree, key_of, row_at}
use Rattle.fal_base.specs.Updates.{laid, keys_of}
use Rattle.fal_base.proofs.Maps.{same_key_is}
use Rattle.fal_coord.specs.declared.stage.Stage.{Stage}
use Rattle.fal_coord.specs.declared.stage.Stage.TheVariants as stage
use Rattle.fal_coord.specs.Nodes.{is_missing}
use Rattle.fal_dentry.specs.Walk.{is_among}
use Rattle.fal_inode.specs.Named.{puts}
use Rattle.fal_place.specs.Placement.{owner}
use Rattle.fal_wire.specs.declared.message.Message.TheVariants as message
use Rattle.fal_story.proofs.Events.Doing.{name_in, work_of}
use Rattle.fal_story.proofs.Events.Shows.{Ghost, Shows, barred_of, before_in, posts_of}
use Rattle.fal_story.proofs.Families.Bars.{AreCame, HasCame, ToldBlocked}
use Rattle.fal_story.proofs.Families.BarsPlaces.{puts_off}
use Rattle.fal_story.proofs.Lists.Each.{Each, Apart, each_weaker}
use Rattle.fal_story.proofs.Lists.Grown.{or_second}
use Rattle.fal_story.proofs.Lists.Members.{IsIn, apart_join, same_number}
use Rattle.fal_story.proofs.Ranges.CoordBounds.{AreGiven, IsStageRanged}
use Rattle.fal_story.proofs.Ranges.NoMore.{Differ, no_more}
use Rattle.fal_story.proofs.Ranges.OwnRows.{few_now, of_owner}
use Rattle.fal_story.proofs.Ranges.TreeBounds.{keys_in, stands_in}
use Rattle.fal_story.proofs.Trees.Standing.{tree_now}
use Rattle.fal_story.proofs.View.{IsPosted}
use Rattle.fal_story.specs.Clusters.{IsCluster}
use Rattle.fal_story.specs.World.{World}

-- ---- rows of a name under their keys

abbrev key_at : List ℕ → NamedRow → Key
key_at name row = key_of row.parent name

among_first : (key : Key) (keys : List Key) → is_among key (key ∷ keys) ≡ true
among_first key keys = ap (λ b. b || is_among key keys) ((same_key_is key key).1 refl)

put_among : (name : List ℕ) (rows : List NamedRow) → Each (λ row. is_among (key_at name row) (keys_of (puts name rows)) ≡ true) rows
put_among name [] = tt
put_among name (row ∷ rows) = (
  among_first (key_at name row) (keys_of (puts name rows)),
  each_weaker _ (λ (other : NamedRow). is_among (key_at name other) (keys_of (puts name (row ∷ rows))) ≡ true) rows (λ other is. or_second _ _ is) (put_among name rows),
)

-- where rows are put, some stands
put_stands : (name : List ℕ) (rows : List NamedRow) (t : Tree) (key : Key) → is_among key (keys_of (puts name rows)) ≡ true → IsSome (row_at (laid (puts name rows) t) key)
put_stands name rows t key among =
    elim (row_at (laid (puts name rows) t) key) as (λ (o : Option Inode). row_at (laid (puts name rows) t) key ≡ o → IsSome o) [
      | None ↦ λ none. absurd (true≢false (sym among ∙ puts_off name rows t key none))
      | Some row ↦ λ _. refl
    ] refl

keys_differ : (name : List ℕ) (rows : List NamedRow) → Apart (λ (row : NamedRow). row.parent) rows → Differ (key_at name) rows
keys_differ name [] apart = tt
keys_differ name (row ∷ rows) apart = (each_weaker _ (λ (other : NamedRow). key_at name other ≢ key_at name row) rows (λ other ne same. ne (ap (λ (k : Key). k.parent) same)) apart.0, keys_differ name rows apart.1)

-- rows of different directories that stand in the tree are no more than it has
few_standing : (tree : Tree) (name : List ℕ) (rows : List NamedRow) → Apart (λ (row : NamedRow). row.parent) rows → Each (λ row. IsSome (row_at tree (key_at name row))) rows → length rows ≤ length tree
few_standing tree name rows apart stand =
    let most = no_more (key_at name) rows (keys_in tree) (keys_differ name rows apart) (each_weaker _ (λ (row : NamedRow). IsIn (key_at name row) (keys_in tree)) rows (λ row some. stands_in tree (key_at name row) some) stand) in
    let same = length-map tree (λ (e : Key × Inode). e.0) in
    omega arith

-- the rows are few, and of different directories
pub record IsFew (rows : List NamedRow) : Type 0 where
  pub few : length rows ≤ 20002
  pub apart : Apart (λ (row : NamedRow). row.parent) rows

-- with what this node gives away, the rows that came are so
abbrev pub StaysFew : ℕ → List NamedRow → Stage → Type 0
StaysFew node told (stage.Block call missing rows) = is_missing node missing ≡ true → IsFew (rows ++ told)
StaysFew node told other = Unit {0}

-- ---- a record that a node has given its rows away

owner_is : (b : Bool) (row : Option Inode) → IsSome (cond b row None) → b ≡ true
owner_is true row some = refl
owner_is false row some = absurd (cc)

module _ (config : Config) (w : World) (h : Ghost) (cluster : IsCluster config) (shows : Shows config w h) (call : CallRec) (missing : List ℕ) (rows : List NamedRow) (is : w.coord.stage ≡ stage.Block call missing rows) where
  abbrev name : List ℕ
  name = name_in call.op

  abbrev tree : Tree
  tree = tree_now w.commits

  abbrev Standing : NamedRow → Type 0
  Standing row = IsSome (row_at tree (key_at name row))

  came : HasCame w.coord.table tree name missing (puts name rows)
  came = (subst (λ s. AreCame w.coord.table tree (work_of (before_in config h) s)) is shows.good.bars.came).1

  -- each row that came is the tree's
  kept_stand : Each Standing rows
  kept_stand = each_weaker _ Standing rows (λ row among.
      let key = key_at name row in
      let some = put_stands name rows [] key among in
      ⊎_elim {C = Standing row}
      (λ gone. let wrong : false ≡ true = sym (ap is_some gone.1) ∙ some in absurd (cc))
      (λ there. subst IsSome there.1 some)
      (came key refl)) (put_among name rows)

  module _ (node : ℕ) (told : List NamedRow) (due : h.due node ≡ puts name told) (waits : is_missing node missing ≡ true) where
    told_at : (row : NamedRow) → is_among (key_at name row) (keys_of (puts name told)) ≡ true → IsSome (cond (owner w.coord.table (key_at name row) == node) (row_at tree (key_at name row)) None)
    told_at row among =
        subst IsSome (sym (ap (λ us. row_at (laid us (w.nodes node).rows) (key_at name row)) due) ∙ shows.good.ground.rows node (key_at name row)) (put_stands name told (w.nodes node).rows (key_at name row) among)

    -- each that comes is so, too
    told_stand : Each Standing told
    told_stand = each_weaker _ Standing told (λ row among. of_owner (owner w.coord.table (key_at name row) == node) (row_at tree (key_at name row)) (told_at row among)) (put_among name told)

    -- and none came before
    told_new : Each (λ row. is_among (key_at name row) (keys_of (puts name rows)) ≡ false) told
    told_new = each_weaker _ (λ (row : NamedRow). is_among (key_at name row) (keys_of (puts name rows)) ≡ false) told (λ row among.
        let key = key_at name row in
        let own = same_number (owner w.coord.table key) node (owner_is (owner w.coord.table key == node) (row_at tree key) (told_at row among)) in
        ⊎_elim {C = is_among key (keys_of (puts name rows)) ≡ false}
        (λ gone. puts_off name rows [] key gone.1)
        (λ there. absurd (there.0 (subst (λ n. is_missing n missing ≡ true) (sym own) waits)))
        (came key refl)) (put_among name told)

    other_parents : Each (λ row. Each (λ other. other.parent ≢ row.parent) told) rows
    other_parents = each_weaker _ (λ (row : NamedRow). Each (λ (other : NamedRow). other.parent ≢ row.parent) told) rows
        (λ row among. each_weaker _ (λ (other : NamedRow). other.parent ≢ row.parent) told
        (λ other new same. true≢false (sym among ∙ ap (λ n. is_among (key_of n name) (keys_of (puts name rows))) (sym same) ∙ new)) told_new)
        (put_among name rows)

    block_few : AreGiven rows → AreGiven told → IsFew (rows ++ told)
    block_few kept given =
        let few_kept = few_standing tree name rows kept.apart kept_stand in
        let few_told = few_standing tree name told given.apart told_stand in
        let few = few_now config w h cluster shows in
        let both = length-append rows told in
        record { few = omega arith; apart = apart_join (λ (row : NamedRow). row.parent) rows told other_parents kept.apart given.apart }

module _ (config : Config) (w : World) (h : Ghost) (cluster : IsCluster config) (shows : Shows config w h) where
  -- what was posted leaves the rows few
  pub stays_few : (e p node : ℕ) (to : Actor) (told : List NamedRow) (s : Stage) → w.coord.stage ≡ s → IsPosted (posts_of w.envelopes) e to p (message.Blocked w.coord.operation node told) → IsStageRanged w.coord.operation s → AreGiven told
      → StaysFew node told s
  stays_few e p node to told (stage.Block call missing rows) is posted ranged given = λ waits.
      let x = shows.good.bars.told e p to (message.Blocked w.coord.operation node told) posted in
      let due = subst (λ s. ToldBlocked w.coord.operation (work_of (before_in config h) s) (barred_of (w.nodes node).blocked) (h.due node) told) is (x.1 refl) in
      block_few config w h cluster shows call missing rows is node told due.1 waits ranged.2 given
  stays_few e p node to told other is posted ranged given = tt
