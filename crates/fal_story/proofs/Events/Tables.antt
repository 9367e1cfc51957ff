-- The tables of nodes, of clients and of the coordinator: each is one that the placements have left, and where a name is not blocked at a
-- node, its table gives the name the rule that it has now.
use Rattle.std.proofs.Common.{◌≡◌, ⊎_elim, ℕ, ◌<◌, ◌≤◌, ◌-◌, length, sym, ap, ◌∙◌, subst, arith}
use Rattle.fal_base.specs.declared.call.Config.{Config}
use Rattle.fal_base.specs.declared.key.Key.{Key}
use Rattle.fal_coord.specs.declared.stage.Stage.{Stage}
use Rattle.fal_coord.specs.declared.stage.Stage.TheVariants as stage
use Rattle.fal_place.specs.Placement.{Placement, owner, table_after}
use Rattle.fal_place.proofs.Carried.{nodes-table_after, version-table_after}
use Rattle.fal_story.proofs.Events.Doing.{work_of}
use Rattle.fal_story.proofs.Events.Shows.{Ghost, Shows, IsNumbered, barred_of, before_in, view_of}
use Rattle.fal_story.proofs.Families.Bars.{Bar, IsBarred}
use Rattle.fal_story.proofs.Families.Knowing.{IsReached}
use Rattle.fal_story.proofs.Steps.Comes.{same_owner}
use Rattle.fal_story.specs.World.{World}

module _ (config : Config) (w : World) (h : Ghost) (s : Shows config w h) where
  -- the coordinator's is that after all placements
  pub recorded : w.coord.table ≡ table_after config.nodes h.placings (length h.placings)
  recorded = s.good.knowing.recorded

  pub coord_version : w.coord.table.version ≡ length h.placings
  coord_version = ap (λ (t : Placement). t.version) recorded ∙ version-table_after config.nodes h.placings (length h.placings) (omega arith)

  pub coord_nodes : w.coord.table.nodes ≡ config.nodes
  coord_nodes = ap (λ (t : Placement). t.nodes) recorded ∙ nodes-table_after config.nodes h.placings (length h.placings)

  numbered_at : (t : Stage) → IsNumbered w.coord.table.version w.coord.operation t → w.coord.table.version ≤ w.coord.operation
  numbered_at (stage.Block call missing rows) below = omega arith
  numbered_at other within = within

  -- no more names are placed than operations were begun
  pub numbered_few : w.coord.table.version ≤ w.coord.operation
  numbered_few = numbered_at w.coord.stage s.beside.hosts.numbered

  pub placings_few : length h.placings ≤ w.coord.operation
  placings_few = subst (λ k. k ≤ w.coord.operation) coord_version numbered_few

  reached_at : (n : ℕ) (t : Stage) → Bar w.coord.table w.coord.operation (work_of (before_in config h) t) n (w.nodes n).table (barred_of (w.nodes n).blocked) (h.queued n) (w.nodes n).last_operation (h.due n) → IsReached config.nodes h.placings (w.nodes n).table
  reached_at n (stage.Block call missing rows) bar = (length h.placings, omega arith, bar.0 ∙ recorded)
  reached_at n (stage.Install call missing) bar = ⊎_elim
      (λ x. (length h.placings - 1, omega arith, x.1))
      (λ x. (length h.placings, omega arith, x.0 ∙ recorded))
      bar
  reached_at n stage.Idle bar = (length h.placings, omega arith, bar.0 ∙ recorded)
  reached_at n (stage.Walk call number key) bar = (length h.placings, omega arith, bar.0 ∙ recorded)
  reached_at n (stage.Lock operation missing rows) bar = (length h.placings, omega arith, bar.0 ∙ recorded)
  reached_at n (stage.Count operation rows dir updates missing counts) bar = (length h.placings, omega arith, bar.0 ∙ recorded)
  reached_at n (stage.Finish keys updates missing) bar = (length h.placings, omega arith, bar.0 ∙ recorded)

  -- a node's is that after some of them
  pub own_reached : (n : ℕ) → n < config.nodes → IsReached config.nodes h.placings (w.nodes n).table
  own_reached n there = reached_at n w.coord.stage (s.good.bars.stands n there)

  pub own_nodes : (n : ℕ) → n < config.nodes → (w.nodes n).table.nodes ≡ config.nodes
  own_nodes n there = let x = own_reached n there in ap (λ (t : Placement). t.nodes) x.2 ∙ nodes-table_after config.nodes h.placings x.0

  pub own_version : (n : ℕ) → n < config.nodes → (w.nodes n).table.version ≤ length h.placings
  own_version n there =
      let x = own_reached n there in
      let below = x.1 in
      let is = ap (λ (t : Placement). t.version) x.2 ∙ version-table_after config.nodes h.placings x.0 x.1 in
      omega arith

  -- it is that of its version
  pub own_table : (n : ℕ) → n < config.nodes → (w.nodes n).table ≡ table_after config.nodes h.placings (w.nodes n).table.version
  own_table n there =
      let x = own_reached n there in
      x.2 ∙ ap (table_after config.nodes h.placings) (sym (ap (λ (t : Placement). t.version) x.2 ∙ version-table_after config.nodes h.placings x.0 x.1))

  -- a client's is that of its version
  pub known_table : (l : ℕ) → (w.clients l).table ≡ table_after config.nodes h.placings (w.clients l).table.version
  known_table l =
      let x = s.good.knowing.knows l in
      x.2 ∙ ap (table_after config.nodes h.placings) (sym (ap (λ (t : Placement). t.version) x.2 ∙ version-table_after config.nodes h.placings x.0 x.1))

  pub known_nodes : (l : ℕ) → (w.clients l).table.nodes ≡ config.nodes
  known_nodes l = let x = s.good.knowing.knows l in ap (λ (t : Placement). t.nodes) x.2 ∙ nodes-table_after config.nodes h.placings x.0

  -- where a key's name is not blocked at a node, its owner is that by the coordinator's table
  pub owner_at : (n : ℕ) (key : Key) → n < config.nodes → (IsBarred (barred_of (w.nodes n).blocked) key.name → ⊥) → owner (w.nodes n).table key ≡ owner w.coord.table key
  owner_at n key there free = same_owner config (view_of config w h) n key there free s.good

  pub owner_there : (n : ℕ) (key : Key) → n < config.nodes → (IsBarred (barred_of (w.nodes n).blocked) key.name → ⊥) → owner (w.nodes n).table key < config.nodes
  owner_there n key there free = subst (λ m. m < config.nodes) (sym (owner_at n key there free)) (s.good.ground.lives key)
