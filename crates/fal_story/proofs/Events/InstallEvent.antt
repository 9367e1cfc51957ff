-- An Install comes to a node, which takes the table and its rows of the name where this operation has blocked one.
use Rattle.std.proofs.Common.{◌≡◌, ◌≢◌, inl, ℕ, ◌+◌, ◌==◌, true, false, cond, List, [], length, Option, Some, None, refl, sym, ap, subst, ◌∙◌, arith}
use Rattle.std.proofs.lemmas.Bool.{eqb-true}
use Rattle.fal_base.specs.declared.barred.Barred.{Barred}
use Rattle.fal_base.specs.declared.barred.Barred.TheVariants as barred
use Rattle.fal_base.specs.declared.call.Config.{Config}
use Rattle.fal_base.specs.declared.event.Actor.TheVariants.{Node, Coord}
use Rattle.fal_base.specs.declared.event.Point.TheVariants.{Here}
use Rattle.fal_base.specs.declared.row.NamedRow.{NamedRow}
use Rattle.fal_base.specs.declared.rule.Rule.{Rule}
use Rattle.fal_base.specs.Updates.{laid}
use Rattle.fal_inode.specs.Named.{puts}
use Rattle.fal_node.specs.declared.blocking.Blocking.{Blocking}
use Rattle.fal_node.specs.Deliver.{install, install_named, installed, name_blocked, one_name, table_with, take_install}
use Rattle.fal_node.specs.Letters.{Work, begun}
use Rattle.fal_place.specs.Placement.{Placement, is_within, with_rule}
use Rattle.fal_wire.specs.Letters.{letter}
use Rattle.fal_wire.specs.declared.message.Message.TheVariants as message
use Rattle.fal_story.proofs.Events.Freed.{beside_freed}
use Rattle.fal_story.proofs.Events.GotEvent.{AllFit, stays}
use Rattle.fal_story.proofs.Events.InStep.{InStep, view_begun, view_in, Ends, begins, ends}
use Rattle.fal_story.proofs.Events.Sends.{sends}
use Rattle.fal_story.proofs.Events.Shows.{Ghost, Shows, operating, mapped, shut_of, last_of, tables_of, barred_of, barred_in, view_of, posts_of, calls_in}
use Rattle.fal_story.proofs.Families.Bars.{ToldInstalled, barred_by}
use Rattle.fal_story.proofs.Good.{Good}
use Rattle.fal_story.proofs.Lists.Grown.{put_back, put_same}
use Rattle.fal_story.proofs.Steps.Comes.{install_comes}
use Rattle.fal_story.proofs.Steps.Placed.{installed_good}
use Rattle.fal_story.proofs.Steps.Posted.{IsFine}
use Rattle.fal_story.proofs.View.{View, IsPosted, Work as Doing}
use Rattle.fal_story.specs.World.{World, put}

-- ---- the name that the operation has blocked

one_is : (operation : ℕ) (names : Barred) (name : List ℕ) → one_name names ≡ Some name → (blocking : Blocking) → blocking.names ≡ names → blocking.operation ≡ operation → barred_of (Some blocking) ≡ barred_by operation name
one_is operation barred.Nothing name is blocking names number = absurd (cc)
one_is operation (barred.One own) name is blocking names number =
    let same : own ≡ name = cc in
    ap barred_of (λ i. Some (record { operation = number i; names = names i })) ∙ ap (barred_by operation) same
one_is operation barred.All name is blocking names number = absurd (cc)

blocked_is : (operation : ℕ) (blocked : Option Blocking) (name : List ℕ) → name_blocked blocked operation ≡ Some name → barred_of blocked ≡ barred_by operation name
blocked_is operation None name is = absurd (cc)
blocked_is operation (Some blocking) name is =
    elim (blocking.operation == operation) as (λ b. (blocking.operation == operation) ≡ b → cond b (one_name blocking.names) None ≡ Some name → barred_of (Some blocking) ≡ barred_by operation name) [
      | true ↦ λ own one. one_is operation blocking.names name one blocking refl (eqb-true blocking.operation operation own)
      | false ↦ λ _ none. absurd (cc)
    ] refl is

-- the table of the next version is that in which the name has the rule
table_grown : (own table : Placement) (version : ℕ) (name : List ℕ) (rule : Rule) → version ≡ table.version → table ≡ with_rule own name rule → table ≡ table_with own version name rule
table_grown own table version name rule same grown = grown ∙ ap (λ v. table_with own v name rule) (sym (same ∙ ap (λ (t : Placement). t.version) grown))

-- ---- it comes

abbrev landed : World → ℕ → ℕ → Rule → List NamedRow → List ℕ → Work
landed w n version rule rows name = begun (installed (w.nodes n) (table_with (w.nodes n).table version name rule) (puts name rows))

installs : (config : Config) (w : World) (n : ℕ) (h : Ghost) (e p operation version : ℕ) (rule : Rule) (rows : List NamedRow) (name : List ℕ) → n ≢ 255 → Shows config w h → AllFit (install (w.nodes n) operation version rule rows name).sent
    → IsPosted (posts_of w.envelopes) e (Node n) p (message.Install operation version rule rows) → name_blocked (w.nodes n).blocked operation ≡ Some name → Ends config w n (install (w.nodes n) operation version rule rows name)
unfolding installed
installs config w n h e p operation version rule rows name other s fit at is =
    let node = w.nodes n in
    let placed = s.placed n in
    let v = view_of config w h in
    let has = blocked_is operation node.blocked name is in
    let lands = install_comes config v e p n operation version name rule rows at has s.good in
    let good = installed_good config v name rule lands.old n lands.missing lands.is (has ∙ ap (λ o. barred_by o name) lands.number) s.good in
    let v1 : View = record v {
      rows = put v.rows n (laid (v.op.due n) (v.rows n));
      op = record v.op { due = put v.op.due n [] };
      map = record v.map { tables = put v.map.tables n v.map.table; barred = put v.map.barred n None };
    } in
    let later : Ghost = record h { due = put h.due n [] } in
    let k = landed w n version rule rows name in
    let table_is = table_grown node.table w.coord.table version name rule lands.version_is lands.table_is in
    let same : v1 ≡ view_in config w n k later = λ i. record (view_begun config w n h other i) {
      rows = put v.rows n (laid (lands.rows i) node.rows);
      op = operating config (sym (put_back (shut_of w.nodes) n) i) (sym (put_back (last_of w.nodes) n) i) w.coord later;
      map = mapped (put (tables_of w.nodes) n (table_is i)) (put (barred_in w.nodes) n None) w.clients w.coord later;
    } in
    let start = begins config w n h other s in
    let step : InStep config w n k later node.waiting.calls (calls_in node.batches) = record {
      good = subst (Good config) same good;
      here = start.here;
      others = start.others;
      items = start.items;
      others_items = start.others_items;
      heard = start.heard;
      kept = start.kept;
      placed = record { number = placed.number; limit = placed.limit; blocked = tt; tidy = placed.tidy };
      others_placed = start.others_placed;
    } in
    let same_operation : operation ≡ w.coord.operation = lands.number in
    let fine : IsFine config v1 (Node 255) (length w.commits + 0) (message.Installed operation n) = record {
      asking = tt;
      records = (255, refl);
      operation = tt;
      bars = (omega arith, λ _. subst (λ (d : Doing). ToldInstalled d (put v.map.barred n None n)) (sym lands.is) (put_same v.map.barred n None));
      knowing = tt;
      listings = tt;
    } in
    let mine : IsFine config (view_in config w n k later) (Node 255) (length w.commits + 0) (message.Installed operation node.number) =
    subst (λ m. IsFine config (view_in config w n k later) (Node 255) (length w.commits + 0) (message.Installed operation m)) (sym placed.number)
    (subst (λ v. IsFine config v (Node 255) (length w.commits + 0) (message.Installed operation n)) same fine) in (
      later,
      ends config w n (install node operation version rule rows name) later other fit
          (beside_freed config w.nodes w.coord h later n k.node other s.good.operation.running (λ l. inl refl) (λ l. refl) (λ l. refl) (λ m _. refl) (s.beside.queues n) refl refl refl s.beside)
          (sends config w n k later node.waiting.calls (calls_in node.batches) (letter Coord (Here 0) (message.Installed operation node.number)) mine step),
    )

-- where this operation has blocked no name here, nothing changes
named_event : (config : Config) (w : World) (n : ℕ) (h : Ghost) (e p operation version : ℕ) (rule : Rule) (rows : List NamedRow) (blocked : Option (List ℕ)) → n ≢ 255 → Shows config w h → AllFit (install_named (w.nodes n) operation version rule rows blocked).sent
    → IsPosted (posts_of w.envelopes) e (Node n) p (message.Install operation version rule rows) → name_blocked (w.nodes n).blocked operation ≡ blocked → Ends config w n (install_named (w.nodes n) operation version rule rows blocked)
named_event config w n h e p operation version rule rows None other s fit at is = stays config w n h other s fit
named_event config w n h e p operation version rule rows (Some name) other s fit at is = installs config w n h e p operation version rule rows name other s fit at is

pub install_event : (config : Config) (w : World) (n : ℕ) (h : Ghost) (e p operation version : ℕ) (rule : Rule) (rows : List NamedRow) → n ≢ 255 → Shows config w h → AllFit (take_install (w.nodes n) operation version rule rows).sent
    → IsPosted (posts_of w.envelopes) e (Node n) p (message.Install operation version rule rows) → Ends config w n (take_install (w.nodes n) operation version rule rows)
install_event config w n h e p operation version rule rows other s fit at =
    let node = w.nodes n in
    elim (is_within node.table.nodes rule) as (λ b. AllFit (cond b (install_named node operation version rule rows (name_blocked node.blocked operation)) (begun node)).sent
    → Ends config w n (cond b (install_named node operation version rule rows (name_blocked node.blocked operation)) (begun node))) [
      | true ↦ λ y. named_event config w n h e p operation version rule rows (name_blocked node.blocked operation) other s y at refl
      | false ↦ λ y. stays config w n h other s y
    ] fit
