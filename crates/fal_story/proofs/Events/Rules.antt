-- Where calls go by the tables of nodes and clients: always to a node that is there, and by a node's table as by the coordinator's, where the last name is not blocked at the node.
use Rattle.std.proofs.Common.{◌≡◌, ⊎_elim, ℕ, ◌<◌, true, false, List, [], length, Option, Some, None, sym, ap, ◌∙◌, subst, arith}
use Rattle.fal_base.specs.declared.barred.Barred.TheVariants as blocked
use Rattle.fal_base.specs.declared.call.Config.{Config}
use Rattle.fal_base.specs.declared.key.Key.{Key}
use Rattle.fal_base.specs.declared.row.Update.{Update}
use Rattle.fal_base.specs.Names.{is_name}
use Rattle.fal_batch.specs.Fate.{bars, is_blocked}
use Rattle.fal_node.specs.declared.blocking.Blocking.{Blocking}
use Rattle.fal_node.specs.State.{blocked_names}
use Rattle.fal_place.specs.Placement.{Placement, owner, route, rule_of, table_after}
use Rattle.fal_wire.specs.declared.message.Message.{Message}
use Rattle.fal_story.proofs.Events.Shows.{Ghost, Shows, HasOneName, barred_of, barred_name}
use Rattle.fal_story.proofs.Events.Tables.{coord_nodes, coord_version, known_nodes, own_nodes, own_reached, own_table, own_version, recorded}
use Rattle.fal_story.proofs.Events.Within.{reached_lives}
use Rattle.fal_story.proofs.Families.Bars.{Bar, IsBarred, IsGrown}
use Rattle.fal_story.proofs.Trees.Placings.{name_itself}
use Rattle.fal_story.proofs.Trees.Rules.{RulesAgree, route_lives, rule_other}
use Rattle.fal_story.proofs.View.{Work, Blocks, Lands}
use Rattle.fal_story.specs.World.{World}

-- ---- the name that is blocked

-- a name that the walk is not kept off by is not the blocked one
pub name_free : (b : Option Blocking) → HasOneName b → (name : List ℕ) → bars (blocked_names b) name ≡ false → IsBarred (barred_of b) name → ⊥
name_free None one name off is = is
name_free (Some b) one name off is =
    let same : one.0 ≡ name = subst (λ names. IsBarred (barred_name b.operation names) name) one.1 is in
    let wrong : true ≡ false = sym (name_itself name) ∙ ap (λ other. bars (blocked.One other) name) (sym same) ∙ ap (λ names. bars names name) (sym one.1) ∙ off in
    absurd (cc)

-- nor is the empty one, which is the root's
pub root_free : (b : Option Blocking) → HasOneName b → IsBarred (barred_of b) [] → ⊥
unfolding is_name
root_free None one is = is
root_free (Some b) one is =
    let same : one.0 ≡ [] = subst (λ names. IsBarred (barred_name b.operation names) []) one.1 is in
    let wrong : false ≡ true = ap is_name (sym same) ∙ one.2 in
    absurd (cc)

-- ---- the rule by a node's own table

rule_at : (table : Placement) (operation n : ℕ) (work : Work) (own : Placement) (barred : Option (ℕ × List ℕ)) (queued : Option Message) (last : ℕ) (due : List Update) (name : List ℕ) → Bar table operation work n own barred queued last due → IsGrown table work
    → (IsBarred barred name → ⊥) → rule_of own name ≡ rule_of table name
rule_at table operation n (Blocks lane placed rule missing came) own barred queued last due name bar grown free = ap (λ t. rule_of t name) bar.0
rule_at table operation n (Lands placed rule old missing) own barred queued last due name bar grown free = ⊎_elim
    (λ x. ap (λ t. rule_of t name) x.1 ∙ sym (rule_other old placed rule name (λ same. free (subst (λ b. IsBarred b name) (sym x.2) (sym same)))) ∙ ap (λ t. rule_of t name) (sym grown))
    (λ x. ap (λ t. rule_of t name) x.0)
    bar
rule_at table operation n other own barred queued last due name bar grown free = ap (λ t. rule_of t name) bar.0

module _ (config : Config) (w : World) (h : Ghost) (s : Shows config w h) where
  abbrev own : ℕ → Placement
  own n = (w.nodes n).table

  -- ---- who is meant is there

  pub own_lives : (n : ℕ) → n < config.nodes → (key : Key) → owner (own n) key < config.nodes
  own_lives n there key = let x = own_reached config w h s n there in subst (λ t. owner t key < config.nodes) (sym x.2) (reached_lives config w h s x.0 key)

  pub known_lives : (l : ℕ) (key : Key) → owner (w.clients l).table key < config.nodes
  known_lives l key = let x = s.good.knowing.knows l in subst (λ t. owner t key < config.nodes) (sym x.2) (reached_lives config w h s x.0 key)

  pub own_route : (n : ℕ) → n < config.nodes → (names : List (List ℕ)) → route (own n) names < config.nodes
  own_route n there names = route_lives config.nodes (own n) (own_nodes config w h s n there) (own_lives n there) _

  pub known_route : (l : ℕ) (names : List (List ℕ)) → route (w.clients l).table names < config.nodes
  known_route l names = route_lives config.nodes (w.clients l).table (known_nodes config w h s l) (known_lives l) _

  -- ---- and is the one by the coordinator's table

  -- before the first placement there is one table
  pub own_first : w.coord.table.version ≡ 0 → (n : ℕ) → n < config.nodes → own n ≡ w.coord.table
  own_first none n there =
      let count = coord_version config w h s in
      let most = own_version config w h s n there in
      let same : (own n).version ≡ length h.placings = omega arith in
      own_table config w h s n there ∙ ap (table_after config.nodes h.placings) same ∙ sym (recorded config w h s)

  pub own_rule : (n : ℕ) (name : List ℕ) → n < config.nodes → (IsBarred (barred_of (w.nodes n).blocked) name → ⊥) → rule_of (own n) name ≡ rule_of w.coord.table name
  own_rule n name there free =
      let v = s.good.bars in
      rule_at w.coord.table w.coord.operation n _ (own n) (barred_of (w.nodes n).blocked) (h.queued n) (w.nodes n).last_operation (h.due n) name (v.stands n there) v.grown free

  pub rules_agree : (n : ℕ) (last : Option (List ℕ)) → n < config.nodes → is_blocked (blocked_names (w.nodes n).blocked) last ≡ false → RulesAgree (own n) w.coord.table last
  rules_agree n None there off = tt
  rules_agree n (Some name) there off = own_rule n name there (name_free (w.nodes n).blocked (s.placed n).blocked name off)

  pub both_nodes : (n : ℕ) → n < config.nodes → (own n).nodes ≡ w.coord.table.nodes
  both_nodes n there = own_nodes config w h s n there ∙ sym (coord_nodes config w h s)
