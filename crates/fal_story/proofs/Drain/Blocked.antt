-- Which name a node has blocked, and what the stage of the coordinator says of it.
use Rattle.std.proofs.Common.{◌≡◌, ◌≢◌, ⊎_elim, ℕ, ◌<◌, true, cond, List, Option, Some, None, refl, sym, ap, subst, ◌∙◌}
use Rattle.std.proofs.lemmas.Option.{same_Some}
use Rattle.fal_base.specs.declared.barred.Barred.{Barred}
use Rattle.fal_base.specs.declared.barred.Barred.TheVariants as barred
use Rattle.fal_base.specs.declared.call.CallRec.{CallRec}
use Rattle.fal_base.specs.declared.call.Config.{Config}
use Rattle.fal_base.specs.declared.row.NamedRow.{NamedRow}
use Rattle.fal_coord.specs.declared.stage.Stage.{Stage}
use Rattle.fal_coord.specs.declared.stage.Stage.TheVariants as stage
use Rattle.fal_coord.specs.Nodes.{is_missing}
use Rattle.fal_node.specs.declared.blocking.Blocking.{Blocking}
use Rattle.fal_node.specs.Deliver.{name_blocked, one_name}
use Rattle.fal_story.proofs.Events.Doing.{work_of, name_in}
use Rattle.fal_story.proofs.Events.Shows.{Ghost, Shows, HasOneName, barred_name, barred_of, before_in}
use Rattle.fal_story.proofs.Families.Bars.{Bar, barred_by}
use Rattle.fal_story.proofs.Lists.Grown.{tells}
use Rattle.fal_story.specs.World.{World}

-- ---- what is blocked at a node

-- where no name is, nothing is
pub none_of : (o : Option Blocking) → HasOneName o → barred_of o ≡ None → o ≡ None
none_of None one none = refl
none_of (Some blocking) one none = let wrong : Some (blocking.operation, one.0) ≡ None = sym (ap (λ names. barred_of (Some (record blocking { names = names }))) one.1) ∙ none in absurd (cc)

-- where a name is, something is
pub some_of : (o : Option Blocking) (operation : ℕ) (name : List ℕ) → barred_of o ≡ barred_by operation name → o ≢ None
some_of o operation name is none = let wrong : None ≡ barred_by operation name = sym (ap barred_of none) ∙ is in cc

-- the name that the operation has blocked
pub named_of : (o : Option Blocking) (operation : ℕ) (name : List ℕ) → HasOneName o → barred_of o ≡ barred_by operation name → name_blocked o operation ≡ Some name
named_of None operation name one is = absurd (cc)
named_of (Some blocking) operation name one is =
    let both : (blocking.operation, one.0) ≡ (operation, name) = same_Some (blocking.operation, one.0) (operation, name) (sym (ap (λ names. barred_of (Some (record blocking { names = names }))) one.1) ∙ is) in
    ap (λ names. name_blocked (Some (record blocking { names = names })) operation) one.1
    ∙ ⊎_elim
    (λ same. ap (λ b. cond b (Some one.0) None) same.0 ∙ ap (λ (p : ℕ × List ℕ). Some p.1) both)
    (λ apart. absurd (apart.1 (ap (λ (p : ℕ × List ℕ). p.0) both)))
    (tells blocking.operation operation)

pub named_by : (o : Option Blocking) (operation : ℕ) (name : List ℕ) → name_blocked o operation ≡ Some name → barred_of o ≡ barred_by operation name
named_by None operation name is = absurd (cc)
named_by (Some blocking) operation name is =
    ⊎_elim
    (λ same. by_names blocking.names same.1 (sym (ap (λ b. cond b (one_name blocking.names) None) same.0) ∙ is))
    (λ apart. let wrong : None ≡ Some name = sym (ap (λ b. cond b (one_name blocking.names) None) apart.0) ∙ is in absurd (cc))
    (tells blocking.operation operation)
  where
    by_names : (names : Barred) → blocking.operation ≡ operation → one_name names ≡ Some name → barred_name blocking.operation names ≡ barred_by operation name
    by_names barred.Nothing same e = absurd (cc)
    by_names (barred.One other) same e = λ i. Some (same i, same_Some other name e i)
    by_names barred.All same e = absurd (cc)

-- ---- what the stage says of a node

-- the operation of the stage, if one is under way, is none of a name
abbrev pub IsKeyed : Stage → Type 0
IsKeyed (stage.Block call missing rows) = ⊥
IsKeyed (stage.Install call missing) = ⊥
IsKeyed other = Unit {0}

module _ (config : Config) (w : World) (h : Ghost) (s : Shows config w h) where
  abbrev pub BarAt : Stage → ℕ → Type 0
  BarAt t n = Bar w.coord.table w.coord.operation (work_of (before_in config h) t) n (w.nodes n).table (barred_of (w.nodes n).blocked) (h.queued n) (w.nodes n).last_operation (h.due n)

  pub bar_at : (t : Stage) (n : ℕ) → w.coord.stage ≡ t → n < config.nodes → BarAt t n
  bar_at t n at there = subst (λ t. BarAt t n) at (s.good.bars.stands n there)

  free_at : (t : Stage) (n : ℕ) → IsKeyed t → BarAt t n → (w.nodes n).blocked ≡ None
  free_at (stage.Block call missing rows) n keyed bar = absurd keyed
  free_at (stage.Install call missing) n keyed bar = absurd keyed
  free_at other n keyed bar = none_of (w.nodes n).blocked (s.placed n).blocked bar.1

  -- nothing is blocked
  pub none_blocked : (t : Stage) (n : ℕ) → w.coord.stage ≡ t → IsKeyed t → n < config.nodes → (w.nodes n).blocked ≡ None
  none_blocked t n at keyed there = free_at t n keyed (bar_at t n at there)

  -- where nothing is blocked at a node, it has the recorded table
  pub recorded_at : (n : ℕ) → n < config.nodes → (w.nodes n).blocked ≡ None → (w.nodes n).table ≡ w.coord.table
  recorded_at n there free = by_stage w.coord.stage (s.good.bars.stands n there)
    where
      by_stage : (t : Stage) → BarAt t n → (w.nodes n).table ≡ w.coord.table
      by_stage (stage.Block call missing rows) bar = bar.0
      by_stage (stage.Install call missing) bar = ⊎_elim (λ x. absurd (some_of (w.nodes n).blocked w.coord.operation (name_in call.op) x.2 free)) (λ x. x.0) bar
      by_stage other bar = bar.0

  -- each node but those that are still to be heard has blocked the name
  pub block_some : (call : CallRec) (missing : List ℕ) (rows : List NamedRow) (n : ℕ) → w.coord.stage ≡ stage.Block call missing rows → n < config.nodes → (is_missing n missing ≡ true → ⊥) → (w.nodes n).blocked ≢ None
  block_some call missing rows n at there heard =
      let x = bar_at (stage.Block call missing rows) n at there in
      ⊎_elim (λ waits. absurd (heard waits.0)) (λ barred. some_of (w.nodes n).blocked w.coord.operation (name_in call.op) barred.0) x.1
