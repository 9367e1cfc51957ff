-- A cluster goes on when an Install comes to a node.
use Rattle.std.proofs.Common.{◌≡◌, inl, ⊎_elim, ℕ, ◌+◌, ◌<◌, nat_lt, Bool, true, false, cond, List, [], ◌∷◌, length, Option, Some, None, Ok, IsTrue, refl, sym, ap, subst, ◌∙◌}
use Rattle.std.specs.List.{All, list_all}
use Rattle.std.proofs.lemmas.Option.{same_Some}
use Rattle.fal_base.specs.declared.call.CallRec.{CallRec}
use Rattle.fal_base.specs.declared.call.Config.{Config}
use Rattle.fal_base.specs.declared.event.Actor.TheVariants.{Node, Coord}
use Rattle.fal_base.specs.declared.event.Envelope.{Envelope}
use Rattle.fal_base.specs.declared.event.Point.TheVariants.{Here}
use Rattle.fal_base.specs.declared.row.NamedRow.{NamedRow}
use Rattle.fal_base.specs.declared.rule.Rule.{Rule}
use Rattle.fal_base.specs.declared.rule.RuleChange.{RuleChange}
use Rattle.fal_coord.specs.declared.stage.Stage.{Stage}
use Rattle.fal_coord.specs.declared.stage.Stage.TheVariants as stage
use Rattle.fal_node.specs.Deliver.{name_blocked, installed, install, install_named, take_install}
use Rattle.fal_node.specs.Letters.{Work, begun}
use Rattle.fal_place.specs.Placement.{Placement, insert_by_version, is_within, with_rule, without_name}
use Rattle.fal_place.proofs.Rising.{and_first, and_second}
use Rattle.fal_wire.specs.declared.letter.Letter.{Letter}
use Rattle.fal_wire.specs.declared.message.Message.{Message}
use Rattle.fal_wire.specs.declared.message.Message.TheVariants as message
use Rattle.fal_wire.specs.Letters.{letter}
use Rattle.fal_wire.specs.Messages.{Fits, reading}
use Rattle.fal_story.proofs.Drain.Blocked.{bar_at, named_by, named_of, none_of}
use Rattle.fal_story.proofs.Drain.Fresh.{IsFresh}
use Rattle.fal_story.proofs.Drain.FollowDeliver.{coming_post}
use Rattle.fal_story.proofs.Drain.Hearing.{After}
use Rattle.fal_story.proofs.Drain.Moving.{IsMoving, posts_after}
use Rattle.fal_story.proofs.Drain.MovingDeliver.{IsComing, came_past, comes_hearing, no_seat, order_moves}
use Rattle.fal_story.proofs.Drain.MovingOrders.{no_ask, no_got, still_same, unasked_hearing}
use Rattle.fal_story.proofs.Drain.Sent.{letter_fresh}
use Rattle.fal_story.proofs.Drain.Staged.{IsHearing, IsOrderAt}
use Rattle.fal_story.proofs.Events.Doing.{name_in, rule_in, work_of}
use Rattle.fal_story.proofs.Events.Shows.{Ghost, Shows, barred_of, before_in, posts_of}
use Rattle.fal_story.proofs.Events.Tables.{own_nodes, recorded}
use Rattle.fal_story.proofs.Events.Within.{table_within}
use Rattle.fal_story.proofs.Families.Bars.{IsGrown, ToldInstall, barred_by}
use Rattle.fal_story.proofs.View.{Post}
use Rattle.fal_story.specs.World.{World, put}

-- the rule that was put among others is one that all are
inserted : (test : RuleChange → Bool) (change : RuleChange) (rules : List RuleChange) → IsTrue (list_all test (insert_by_version change rules)) → IsTrue (test change)
inserted test change [] all = and_first (test change) true all
inserted test change (r ∷ rules) all =
    elim (nat_lt change.version r.version) as (λ b. IsTrue (list_all test (cond b (change ∷ r ∷ rules) (r ∷ insert_by_version change rules))) → IsTrue (test change)) [
      | true ↦ λ is. and_first (test change) (list_all test (r ∷ rules)) is
      | false ↦ λ is. inserted test change rules (and_second (test r) (list_all test (insert_by_version change rules)) is)
    ] all

-- the rule of the name that is placed is of nodes that are there
rule_there : (config : Config) (w : World) (h : Ghost) (call : CallRec) (missing : List ℕ) → Shows config w h → w.coord.stage ≡ stage.Install call missing → is_within config.nodes (rule_in call.op) ≡ true
rule_there config w h call missing s at =
    let before = before_in config h in
    let test = λ (c : RuleChange). is_within config.nodes c.rule in
    let grown : w.coord.table ≡ with_rule before (name_in call.op) (rule_in call.op) = subst (λ t. IsGrown w.coord.table (work_of before t)) at s.good.bars.grown in
    let all : IsTrue (list_all test w.coord.table.rules) = subst (λ (t : Placement). IsTrue (list_all test t.rules)) (sym (recorded config w h s)) (table_within config.nodes h.placings (length h.placings) s.good.knowing.within) in
    inserted test (record { name = name_in call.op; rule = rule_in call.op; version = before.version + 1 }) (without_name (name_in call.op) before.rules) (subst (λ (t : Placement). IsTrue (list_all test t.rules)) grown all)

module _ (config : Config) (w : World) (came : ℕ → Bool) (n e : ℕ) (x : Envelope) (h : Ghost) (there : n < config.nodes) (s : Shows config w h) (m : IsMoving config w came) (c : IsComing w n e x) where
  abbrev old : List Post
  old = posts_of w.envelopes

  abbrev later : ℕ → Bool
  later = put came e true

  module _ (operation version : ℕ) (rule : Rule) (rows : List NamedRow) (read : reading x.bytes ≡ Ok (message.Install operation version rule rows)) where
    abbrev order : Message
    order = message.Install operation version rule rows

    -- ---- nothing changes

    -- the node has blocked the name for which the stage waits, and the rule is of nodes that are there
    not_asked : (t : Stage) → w.coord.stage ≡ t → ((name : List ℕ) → name_blocked (w.nodes n).blocked operation ≡ Some name → is_within (w.nodes n).table.nodes rule ≡ true → ⊥)
        → IsOrderAt t w.coord.operation (w.nodes n) order → ⊥
    not_asked (stage.Install call missing) at off asked =
        let node = w.nodes n in
        let told = s.good.bars.told e x.point (Node n) order (coming_post w n e x order c read) in
        let install = subst (λ t. ToldInstall w.coord.table (work_of (before_in config h) t) (barred_of (w.nodes told.0).blocked) (h.due told.0) version rule rows) at (told.4 asked.1) in
        let within : is_within node.table.nodes rule ≡ true =
        ap (λ i. is_within i rule) (own_nodes config w h s n there) ∙ ap (is_within config.nodes) install.1 ∙ rule_there config w h call missing s at in
        ⊎_elim
        (λ waits. off (name_in call.op) (named_of node.blocked operation (name_in call.op) (s.placed n).blocked (waits.2 ∙ ap (λ i. barred_by i (name_in call.op)) (sym asked.1))) within)
        (λ free. asked.0 (none_of node.blocked (s.placed n).blocked free.1))
        (bar_at config w h s (stage.Install call missing) n at there)
    not_asked other at off asked = asked

    stays_hearing : ((name : List ℕ) → name_blocked (w.nodes n).blocked operation ≡ Some name → is_within (w.nodes n).table.nodes rule ≡ true → ⊥) → IsHearing old came w.coord.operation w.coord.stage n (w.nodes n)
        → IsHearing (posts_after w (begun (w.nodes n))) later w.coord.operation w.coord.stage n (w.nodes n)
    stays_hearing off hearing =
        unasked_hearing config w came n e x there m c w.coord.stage w.coord.operation (begun (w.nodes n)) order read (not_asked w.coord.stage refl off)
        (still_same config w came n e x there m c w.coord.stage w.coord.operation) hearing

    -- ---- the name gets its rule

    -- the answer goes out
    landed_hearing : (t : Stage) (name : List ℕ) (k : Work) → w.coord.stage ≡ t → name_blocked (w.nodes n).blocked operation ≡ Some name → k.node.locks.shut ≡ (w.nodes n).locks.shut
        → k.node.last_operation ≡ (w.nodes n).last_operation → k.node.blocked ≡ None → IsFresh (posts_after w k) later (Node 255) (message.Installed operation n)
        → IsHearing old came w.coord.operation t n (w.nodes n) → IsHearing (posts_after w k) later w.coord.operation t n k.node
    landed_hearing (stage.Install call missing) name k at is shut last free told hearing =
        let number = w.coord.operation in
        let barred = named_by (w.nodes n).blocked operation name is in
        let this : operation ≡ number =
        ⊎_elim
        (λ waits. ap (λ (b : ℕ × List ℕ). b.0) (same_Some (operation, name) (number, name_in call.op) (sym barred ∙ waits.2)))
        (λ open_now. let wrong : None ≡ barred_by operation name = sym open_now.1 ∙ barred in absurd (cc))
        (bar_at config w h s (stage.Install call missing) n at there) in
        record {
          blocked = λ some. absurd (some free);
          freed = λ _. subst (λ i. IsFresh (posts_after w k) later (Node 255) (message.Installed i n)) this told;
        }
    landed_hearing (stage.Block call missing came_rows) name k at is shut last free told hearing =
        unasked_hearing config w came n e x there m c (stage.Block call missing came_rows) w.coord.operation k order read (λ asked. asked) ((λ low. subst (λ (i : ℕ). i < w.coord.operation) last low), (λ some. absurd (some free))) hearing
    landed_hearing (stage.Lock o missing came_rows) name k at is shut last free told hearing =
        unasked_hearing config w came n e x there m c (stage.Lock o missing came_rows) w.coord.operation k order read (λ asked. asked)
        ((λ low. subst (λ (i : ℕ). i < w.coord.operation) last low), (λ some none. some (shut ∙ none))) hearing
    landed_hearing (stage.Finish keys updates missing) name k at is shut last free told hearing =
        unasked_hearing config w came n e x there m c (stage.Finish keys updates missing) w.coord.operation k order read (λ asked. asked) shut hearing
    landed_hearing other name k at is shut last free told hearing = unasked_hearing config w came n e x there m c other w.coord.operation k order read (λ asked. asked) tt hearing

    -- ---- by what is blocked

    by_name : (o : Option (List ℕ)) → name_blocked (w.nodes n).blocked operation ≡ o → All (λ (l : Letter). Fits l.message) (install_named (w.nodes n) operation version rule rows o).sent
        → IsMoving config (After config w n (install_named (w.nodes n) operation version rule rows o)) later
    unfolding installed
    by_name None is fit =
        order_moves config w came n e x (begun (w.nodes n)) there m c (no_ask config w came n e x there m c order tt read) (no_got config w came n e x there m c order tt read) fit tt (λ y at. at) (m.servable n) (λ posts late items h. h) (m.holders n)
        (comes_hearing w came n e x (begun (w.nodes n)) (no_seat config w came n there m) c (stays_hearing (λ name some within. let wrong : None ≡ Some name = sym is ∙ some in cc)))
    by_name (Some name) is fit =
        let node = w.nodes n in
        let k = install node operation version rule rows name in
        let sent = letter_fresh w.envelopes later (length w.commits) k.sent (letter Coord (Here 0) (message.Installed operation node.number)) (came_past w.envelopes e x came c.at m.past) (inl refl) in
        order_moves config w came n e x k there m c (no_ask config w came n e x there m c order tt read) (no_got config w came n e x there m c order tt read) fit (tt, tt) (λ y at. at) (m.servable n) (λ posts late items h. h) (m.holders n)
        (comes_hearing w came n e x k (no_seat config w came n there m) c
        (landed_hearing w.coord.stage name k refl is refl refl refl (subst (λ i. IsFresh (posts_after w k) later (Node 255) (message.Installed operation i)) (s.placed n).number sent)))

    pub install_moves : All (λ (l : Letter). Fits l.message) (take_install (w.nodes n) operation version rule rows).sent → IsMoving config (After config w n (take_install (w.nodes n) operation version rule rows)) later
    install_moves fit =
        let node = w.nodes n in
        elim (is_within node.table.nodes rule) as (λ b. is_within node.table.nodes rule ≡ b → All (λ (l : Letter). Fits l.message) (cond b (install_named node operation version rule rows (name_blocked node.blocked operation)) (begun node)).sent
        → IsMoving config (After config w n (cond b (install_named node operation version rule rows (name_blocked node.blocked operation)) (begun node))) later) [
          | true ↦ λ within fit. by_name (name_blocked node.blocked operation) refl fit
          | false ↦ λ off fit.
              order_moves config w came n e x (begun node) there m c (no_ask config w came n e x there m c order tt read) (no_got config w came n e x there m c order tt read) fit tt (λ y at. at) (m.servable n) (λ posts late items h. h) (m.holders n)
              (comes_hearing w came n e x (begun node) (no_seat config w came n there m) c (stays_hearing (λ name some within. let wrong : true ≡ false = sym within ∙ off in cc)))
        ] refl fit
