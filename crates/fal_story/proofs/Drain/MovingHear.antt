-- A cluster goes on when a record comes to the coordinator.
use Rattle.std.proofs.Common.{◌≡◌, ◌≢◌, ℕ, ◌<◌, Bool, true, false, ◌&&◌, cond, List, [], ◌∷◌, ◌++◌, length, Some, None, IsTrue, Result, Ok, Err, refl, sym, ap, subst, ◌∙◌, arith, eq-eqb}
use Rattle.std.specs.Prelude.{slice_get, ◌==◌}
use Rattle.std.specs.List.{All}
use Rattle.std.specs.Result.{result_ok}
use Rattle.std.proofs.lemmas.Option.{same_Some}
use Rattle.fal_base.specs.declared.call.CallRec.{CallRec}
use Rattle.fal_base.specs.declared.call.Config.{Config}
use Rattle.fal_base.specs.declared.event.Actor.{Actor}
use Rattle.fal_base.specs.declared.event.Actor.TheVariants.{Client, Node, Coord}
use Rattle.fal_base.specs.declared.event.Envelope.{Envelope}
use Rattle.fal_base.specs.declared.event.Point.TheVariants.{Carried}
use Rattle.fal_base.specs.declared.key.Key.{Key}
use Rattle.fal_base.specs.declared.reply.Errno.TheVariants.{Enoent, Enotdir}
use Rattle.fal_base.specs.declared.reply.Reply.TheVariants as reply
use Rattle.fal_base.specs.declared.row.NamedRow.{NamedRow}
use Rattle.fal_base.specs.declared.row.Update.{Update}
use Rattle.fal_base.specs.Marks.{is_newer, last_mark, mark_of}
use Rattle.fal_coord.specs.declared.event.CoordEvent.TheVariants as coord_event
use Rattle.fal_coord.specs.declared.stage.Operation.{Operation}
use Rattle.fal_coord.specs.declared.stage.Stage.{Stage}
use Rattle.fal_coord.specs.declared.stage.Stage.TheVariants as stage
use Rattle.fal_coord.specs.Decide.{verdict_on}
use Rattle.fal_coord.specs.Hear.{taken, learned, found_at, take_found, lock_heard, take_locked, count_heard, take_counted, finish_at, take_done, block_heard, take_blocked, install_at, take_installed, take_message, take_read, heard}
use Rattle.fal_coord.specs.Judged.{counted_of}
use Rattle.fal_coord.specs.Nodes.{is_missing, without_node}
use Rattle.fal_coord.specs.State.{CoordState, Work, begun, at_stage}
use Rattle.fal_coord.specs.Step.{coord_step, is_to_coord}
use Rattle.fal_coord.specs.Walks.{is_operation}
use Rattle.fal_wire.specs.declared.fault.WireFault.{WireFault}
use Rattle.fal_wire.specs.declared.letter.Letter.{Letter}
use Rattle.fal_wire.specs.declared.message.Found.{Found}
use Rattle.fal_wire.specs.declared.message.Found.TheVariants as found
use Rattle.fal_wire.specs.declared.message.Message.{Message}
use Rattle.fal_wire.specs.declared.message.Message.TheVariants as message
use Rattle.fal_wire.specs.Letters.{reply_letter}
use Rattle.fal_wire.specs.Messages.{Fits, reading}
use Rattle.fal_story.proofs.Drain.Blocked.{block_some, some_of}
use Rattle.fal_story.proofs.Drain.Fresh.{IsFresh, fresh_more, fresh_comes}
use Rattle.fal_story.proofs.Drain.Moving.{IsMoving, IsPast, items_in}
use Rattle.fal_story.proofs.Drain.MovingCoord.{IsWell, both_are, posts_at, coord_moves, idle_well, walk_well, placed_well, judged_well, tabled}
use Rattle.fal_story.proofs.Drain.MovingDeliver.{post_at, came_past, same_node}
use Rattle.fal_story.proofs.Drain.OnWay.{IsOnWay, way_comes, way_more}
use Rattle.fal_story.proofs.Drain.Staged.{IsReport, answer_report, IsWalking, IsHearing, IsAnswerAt, missing_of, missing_without, each_but, same_by, hearing_by}
use Rattle.fal_story.proofs.Events.Doing.{name_in, work_of}
use Rattle.fal_story.proofs.Events.InCoord.{coord_after}
use Rattle.fal_story.proofs.Events.InStep.{letter_posts}
use Rattle.fal_story.proofs.Events.Shows.{Ghost, Shows, IsCurrent, barred_of, post_of, posts_of, before_in}
use Rattle.fal_story.proofs.Families.Bars.{ToldBlocked, barred_by}
use Rattle.fal_story.proofs.Families.Operation.{IsOf, shut_by, ToldLocked}
use Rattle.fal_story.proofs.Lists.Members.{same_number}
use Rattle.fal_story.proofs.Trees.Standing.{tree_now}
use Rattle.fal_story.proofs.View.{IsPosted, Post, seat}
use Rattle.fal_story.specs.Clusters.{is_lane}
use Rattle.fal_story.specs.World.{World, put}
use Rattle.fal_story.proofs.Drain.MovingStart.{walk_open, count_shut, lock_shut, waits_there, runs_there}

-- ---- Hear

-- an envelope to the coordinator comes
pub record IsComingHere (w : World) (e : ℕ) (x : Envelope) : Type 0 where
  pub at : slice_get w.envelopes e ≡ Some x
  pub to : x.to ≡ Coord

module _ (config : Config) (w : World) (came : ℕ → Bool) (e : ℕ) (x : Envelope) (h : Ghost) (s : Shows config w h) (m : IsMoving config w came) (c : IsComingHere w e x) where
  abbrev old : List Post
  old = posts_of w.envelopes

  abbrev later : ℕ → Bool
  later = put came e true

  here_past : IsPast (length w.envelopes) later
  here_past = came_past w.envelopes e x came c.at m.past

  -- the record's post
  pub posted_here : (read : Message) → reading x.bytes ≡ Ok read → IsPosted old e (Node 255) x.point read
  posted_here read is = post_at w.envelopes e x c.at ∙ (λ i. Some (record { to = seat (c.to i); point = x.point; message = result_ok (is i) }))

  -- what is on the way stays so, but for the answer that comes
  way_still : (k : Work) (n f : ℕ) → (n ≡ 255 → (key : Key) (what : Found) → result_ok (reading x.bytes) ≡ Some (message.FetchGot f key what) → ⊥) → IsOnWay old came (items_in w) n f → IsOnWay (posts_at w k) later (items_in w) n f
  way_still k n f none o =
      way_more old (letter_posts (length w.commits) k.sent) later (items_in w) (items_in w) n f (λ i item at. at)
      (way_comes old came (items_in w) e (post_of x) n f (IsOnWay old later (items_in w) n f) (post_at w.envelopes e x c.at) (λ still. still)
      (λ p to key is.
      let owned = s.good.asking.owners e p n f (Node to) key (post_at w.envelopes e x c.at ∙ ap Some is) in
      let low = owned.2 in
      let few = m.few in
      let here : 255 ≡ owned.0 = same_node 255 owned.0 (sym (ap seat c.to) ∙ ap (λ (z : Post). z.to) is ∙ owned.1) in
      absurd (omega arith))
      (λ p key what is. absurd (none (same_node n 255 (sym (ap (λ (z : Post). z.to) is) ∙ ap seat c.to)) key what (ap (λ (z : Post). z.message) is)))
      o)

  to_still : (k : Work) (n : ℕ) (y : Message) → n ≢ 255 → IsFresh old came (Node n) y → IsFresh (posts_at w k) later (Node n) y
  to_still k n y other f =
      fresh_more old (letter_posts (length w.commits) k.sent) later (Node n) y
      (fresh_comes old came e (post_of x) (Node n) y (IsFresh old later (Node n) y) (post_at w.envelopes e x c.at) (λ still. still)
      (λ p z. absurd (other (same_node n 255 (sym (ap (λ (q : Post). q.to) z) ∙ ap seat c.to)))) f)

  back_still : (k : Work) (y : Message) → (result_ok (reading x.bytes) ≡ Some y → ⊥) → IsFresh old came (Node 255) y → IsFresh (posts_at w k) later (Node 255) y
  back_still k y other f =
      fresh_more old (letter_posts (length w.commits) k.sent) later (Node 255) y
      (fresh_comes old came e (post_of x) (Node 255) y (IsFresh old later (Node 255) y) (post_at w.envelopes e x c.at) (λ still. still) (λ p z. absurd (other (ap (λ (q : Post). q.message) z))) f)

  hears_on : (k : Work) (t : Stage) (number n : ℕ) → n ≢ 255 → ((y : Message) → IsAnswerAt t number n y → result_ok (reading x.bytes) ≡ Some y → ⊥) → IsHearing old came number t n (w.nodes n)
      → IsHearing (posts_at w k) later number t n (w.nodes n)
  hears_on k t number n other none before =
      hearing_by old (posts_at w k) came later number t n (w.nodes n) (w.nodes n) (λ y _ f. to_still k n y other f) (λ y is f. back_still k y (none y is) f)
      (same_by t number (w.nodes n) (w.nodes n) refl (λ low. low) refl) before

  no_seat_there : (n : ℕ) → n < config.nodes → n ≢ 255
  no_seat_there n there same = let few = m.few in omega arith

  -- the stage stays, and what comes is not what it waits for
  pub stays_well : (coord : CoordState) (t : Stage) → coord.stage ≡ w.coord.stage → coord.operation ≡ w.coord.operation → w.coord.stage ≡ t
      → ((call : CallRec) (f : ℕ) (wanted key : Key) (what : Found) → t ≡ stage.Walk call f wanted → result_ok (reading x.bytes) ≡ Some (message.FetchGot f key what) → ⊥)
      → ((n : ℕ) → is_missing n (missing_of t) ≡ true → (y : Message) → IsAnswerAt t w.coord.operation n y → result_ok (reading x.bytes) ≡ Some y → ⊥) → IsWell config w later (begun coord)
  stays_well coord t same number at no_got no_answer =
      let k = begun coord in
      let there : coord.stage ≡ t = same ∙ at in
      record {
        go = tt;
        staged = record {
          walking = subst (IsWalking (posts_at w k) later (items_in w)) (sym there) (walks_on t no_got (subst (IsWalking old came (items_in w)) at m.staged.walking));
          named = λ n is. m.staged.named n (subst (λ t. is_missing n (missing_of t) ≡ true) same is);
          hearing = λ n is.
              let waits = subst (λ t. is_missing n (missing_of t) ≡ true) same is in
              subst (λ t. IsHearing (posts_at w k) later coord.operation t n (w.nodes n)) (sym there)
              (subst (λ i. IsHearing (posts_at w k) later i t n (w.nodes n)) (sym number)
              (hears_on k t w.coord.operation n (no_seat_there n (m.staged.named n waits)) (no_answer n (subst (λ t. is_missing n (missing_of t) ≡ true) at waits))
              (subst (λ t. IsHearing old came w.coord.operation t n (w.nodes n)) at (m.staged.hearing n waits))));
        };
      }
    where
      walks_on : (t : Stage) → ((call : CallRec) (f : ℕ) (wanted key : Key) (what : Found) → t ≡ stage.Walk call f wanted → result_ok (reading x.bytes) ≡ Some (message.FetchGot f key what) → ⊥)
          → IsWalking old came (items_in w) t → IsWalking (posts_at w (begun coord)) later (items_in w) t
      walks_on (stage.Walk call f wanted) none way = way_still (begun coord) 255 f (λ _ key what read. none call f wanted key what refl read) way
      walks_on other none way = tt

  -- the answer that would be waited for is what comes
  comes_now : (t : Stage) (read : Message) → reading x.bytes ≡ Ok read → (number n : ℕ) (y : Message) → IsAnswerAt t number n y → result_ok (reading x.bytes) ≡ Some y → IsAnswerAt t number n read
  comes_now t read is number n y answers z = subst (IsAnswerAt t number n) (sym (same_Some read y (sym (ap result_ok is) ∙ z))) answers

  read_now : (read y : Message) → reading x.bytes ≡ Ok read → result_ok (reading x.bytes) ≡ Some y → read ≡ y
  read_now read y is z = same_Some read y (sym (ap result_ok is) ∙ z)

  itself : (i : ℕ) → (i == i) ≡ true
  itself i = eq-eqb i i refl

  -- an answer of a node for which the stage does not wait
  pub off_well : (t : Stage) (read : Message) → w.coord.stage ≡ t → reading x.bytes ≡ Ok read → IsReport read → ((n : ℕ) → is_missing n (missing_of t) ≡ true → IsAnswerAt t w.coord.operation n read → ⊥) → IsWell config w later (begun w.coord)
  off_well t read at is report none =
      stays_well w.coord t refl refl at
      (λ call f goal key what there z. subst IsReport (read_now read (message.FetchGot f key what) is z) report)
      (λ n waits y answers z. none n waits (comes_now t read is w.coord.operation n y answers z))

  -- ---- what was fetched

  by_found : (call : CallRec) (awaited : ℕ) (wanted key : Key) → w.coord.stage ≡ stage.Walk call awaited wanted → IsTrue (is_lane config call.id.client) → (what : Found) → IsWell config w later (found_at w.coord x.point call key what)
  unfolding learned
  by_found call awaited wanted key at lane (found.Dir dentry) = walk_well config w later here_past (learned w.coord key dentry) call (tabled config w h s) lane (λ n there. walk_open config w h s call awaited wanted n at there)
  by_found call awaited wanted key at lane found.Nothing = idle_well config w later here_past w.coord (reply_letter call (Carried x.point) (reply.Fail Enoent) ∷ []) [] (lane, tt)
  by_found call awaited wanted key at lane found.File = idle_well config w later here_past w.coord (reply_letter call (Carried x.point) (reply.Fail Enotdir) ∷ []) [] (lane, tt)

  found_well : (number : ℕ) (key : Key) (what : Found) (t : Stage) → w.coord.stage ≡ t → reading x.bytes ≡ Ok (message.FetchGot number key what) → IsWell config w later (take_found w.coord x.point number key what t)
  found_well number key what (stage.Walk call awaited wanted) at read =
      let current = subst (λ t. IsCurrent config.nodes w.coord.table h.call h.phase t) at s.beside.hosts.current in
      let lane = waits_there config w h s call.id.client (Some awaited) current.1 in
      elim (number == awaited) as (λ b. (number == awaited) ≡ b → IsWell config w later (cond b (found_at w.coord x.point call key what) (begun w.coord))) [
        | true ↦ λ is. by_found call awaited wanted key at lane what
        | false ↦ λ is. stays_well w.coord (stage.Walk call awaited wanted) refl refl at
            (λ other f goal q told there z.
            let second = read_now (message.FetchGot number key what) (message.FetchGot f q told) read z in
            let a : awaited ≡ f = cc in
            let b : number ≡ f = cc in
            let wrong : (number == awaited) ≡ true = ap (λ i. number == i) (a ∙ sym b) ∙ itself number in
            absurd (cc))
            (λ n missing y answers z. absurd (cc))
      ] refl
  found_well number key what other at read =
      stays_well w.coord other refl refl at (λ call f goal q told there z. cc)
      (λ n waits y answers z. answer_report other w.coord.operation n (message.FetchGot number key what) (comes_now other (message.FetchGot number key what) read w.coord.operation n y answers z))

  -- ---- what nodes answer

  -- an answer that is of another operation, or of a node that was heard
  pub not_waited : (number node n : ℕ) (missing : List ℕ) → ((number == w.coord.operation) && is_missing node missing) ≡ false → is_missing n missing ≡ true → (number ≡ w.coord.operation) × (node ≡ n) → ⊥
  not_waited number node n missing off waits is =
      let first : (number == w.coord.operation) ≡ true = ap (λ i. i == w.coord.operation) is.0 ∙ itself w.coord.operation in
      let second : is_missing node missing ≡ true = ap (λ i. is_missing i missing) is.1 ∙ waits in
      let wrong : true ≡ false = sym (ap (λ b. b && is_missing node missing) first ∙ second) ∙ off in
      cc

  -- the stage goes on with the other nodes
  pub waits_well : (t u : Stage) (node : ℕ) (read : Message) → w.coord.stage ≡ t → reading x.bytes ≡ Ok read → without_node node (missing_of t) ≡ missing_of u → IsWalking (posts_at w (begun (at_stage w.coord u))) later (items_in w) u
      → ((n : ℕ) → IsHearing (posts_at w (begun (at_stage w.coord u))) later w.coord.operation t n (w.nodes n) → IsHearing (posts_at w (begun (at_stage w.coord u))) later w.coord.operation u n (w.nodes n))
      → ((n : ℕ) → IsAnswerAt t w.coord.operation n read → node ≡ n) → IsWell config w later (begun (at_stage w.coord u))
  waits_well t u node read at is left walk same sender =
      let was = λ (n : ℕ) (waits : is_missing n (missing_of u) ≡ true). missing_without n node (missing_of t) (subst (λ ms. is_missing n ms ≡ true) (sym left) waits) in
      let before = λ (n : ℕ) (waits : is_missing n (missing_of u) ≡ true). subst (λ t. is_missing n (missing_of t) ≡ true) (sym at) (was n waits).1 in
      record {
        go = tt;
        staged = record {
          walking = walk;
          named = λ n waits. m.staged.named n (before n waits);
          hearing = λ n waits. same n (hears_on (begun (at_stage w.coord u)) t w.coord.operation n (no_seat_there n (m.staged.named n (before n waits)))
              (λ y answers z. (was n waits).0 (sym (sender n (comes_now t read is w.coord.operation n y answers z))))
              (subst (λ t. IsHearing old came w.coord.operation t n (w.nodes n)) at (m.staged.hearing n (before n waits))));
        };
      }

  -- ---- a Lock is answered

  -- with the last node each has shut the keys
  all_shut : (n : ℕ) → n < config.nodes → (operation : Operation) (missing : List ℕ) (rows : List Update) (node : ℕ) → w.coord.stage ≡ stage.Lock operation missing rows → without_node node missing ≡ []
      → (w.nodes node).locks.shut ≡ shut_by w.coord.operation operation.keys → (w.nodes n).locks.shut ≢ None
  all_shut n there operation missing rows node at last shut =
      each_but (λ i. (w.nodes i).locks.shut ≢ None) n node missing last
      (λ none. let wrong : None ≡ shut_by w.coord.operation operation.keys = sym none ∙ shut in cc)
      (λ heard. lock_shut config w h s operation missing rows n at there heard)

  locked_well : (number node : ℕ) (told : List Update) (t : Stage) → w.coord.stage ≡ t → reading x.bytes ≡ Ok (message.Locked number node told) → IsWell config w later (take_locked w.coord number node told t)
  locked_well number node told (stage.Lock operation missing rows) at read =
      let lane = runs_there config w h s operation.call.id.client (subst (λ t. IsOf operation.call.id.client (work_of (before_in config h) t)) (sym at) refl) in
      elim ((number == w.coord.operation) && is_missing node missing) as (λ b. ((number == w.coord.operation) && is_missing node missing) ≡ b
      → IsWell config w later (cond b (lock_heard w.coord operation (rows ++ told) (without_node node missing)) (begun w.coord))) [
        | true ↦ λ is.
            let both = both_are (number == w.coord.operation) (is_missing node missing) is in
            let posted = s.good.operation.told e x.point (Node 255) (message.Locked number node told) (posted_here (message.Locked number node told) read) in
            let shut = (subst (λ t. ToldLocked w.coord.table (tree_now w.commits) w.coord.operation (work_of (before_in config h) t) (w.nodes node).locks.shut node told) at (posted.1 (same_number number w.coord.operation both.0))).0 in
            elim (without_node node missing) as (λ ms. without_node node missing ≡ ms → IsWell config w later (lock_heard w.coord operation (rows ++ told) ms)) [
              | [] ↦ λ last. judged_well config w later here_past w.coord operation (rows ++ told) (verdict_on operation (rows ++ told)) (tabled config w h s) lane
                  (λ n there. all_shut n there operation missing rows node at last shut)
              | y ∷ ys ↦ λ left. waits_well (stage.Lock operation missing rows) (stage.Lock operation (y ∷ ys) (rows ++ told)) node (message.Locked number node told) at read left tt (λ n z. z) (λ n is. is.1)
            ] refl
        | false ↦ λ off. off_well (stage.Lock operation missing rows) (message.Locked number node told) at read tt (λ n waits is. not_waited number node n missing off waits is)
      ] refl
  locked_well number node told other at read = off_well other (message.Locked number node told) at read tt (λ n waits is. is)

  counted_well : (number node count : ℕ) (t : Stage) → w.coord.stage ≡ t → reading x.bytes ≡ Ok (message.Counted number node count) → IsWell config w later (take_counted w.coord number node count t)
  counted_well number node count (stage.Count operation rows dir updates missing counts) at read =
      let t = stage.Count operation rows dir updates missing counts in
      let lane = runs_there config w h s operation.call.id.client (subst (λ t. IsOf operation.call.id.client (work_of (before_in config h) t)) (sym at) refl) in
      elim ((number == w.coord.operation) && is_missing node missing) as (λ b. ((number == w.coord.operation) && is_missing node missing) ≡ b
      → IsWell config w later (cond b (count_heard w.coord operation rows dir updates (counts ++ count ∷ []) (without_node node missing)) (begun w.coord))) [
        | true ↦ λ is.
            elim (without_node node missing) as (λ ms. without_node node missing ≡ ms → IsWell config w later (count_heard w.coord operation rows dir updates (counts ++ count ∷ []) ms)) [
              | [] ↦ λ last. judged_well config w later here_past w.coord operation rows (counted_of (counts ++ count ∷ []) updates) (tabled config w h s) lane
                  (λ n there. count_shut config w h s operation rows dir updates missing counts n at there)
              | y ∷ ys ↦ λ left. waits_well t (stage.Count operation rows dir updates (y ∷ ys) (counts ++ count ∷ [])) node (message.Counted number node count) at read left tt (λ n z. z) (λ n is. is.1)
            ] refl
        | false ↦ λ off. off_well t (message.Counted number node count) at read tt (λ n waits is. not_waited number node n missing off waits is)
      ] refl
  counted_well number node count other at read = off_well other (message.Counted number node count) at read tt (λ n waits is. is)

  done_well : (number node : ℕ) (t : Stage) → w.coord.stage ≡ t → reading x.bytes ≡ Ok (message.Done number node) → IsWell config w later (begun (take_done w.coord number node t))
  done_well number node (stage.Finish keys updates missing) at read =
      let t = stage.Finish keys updates missing in
      elim ((number == w.coord.operation) && is_missing node missing) as (λ b. ((number == w.coord.operation) && is_missing node missing) ≡ b
      → IsWell config w later (begun (cond b (at_stage w.coord (finish_at keys updates (without_node node missing))) w.coord))) [
        | true ↦ λ is.
            elim (without_node node missing) as (λ ms. without_node node missing ≡ ms → IsWell config w later (begun (at_stage w.coord (finish_at keys updates ms)))) [
              | [] ↦ λ last. idle_well config w later here_past w.coord [] [] tt
              | y ∷ ys ↦ λ left. waits_well t (stage.Finish keys updates (y ∷ ys)) node (message.Done number node) at read left tt (λ n z. z) (λ n is. is.1)
            ] refl
        | false ↦ λ off. off_well t (message.Done number node) at read tt (λ n waits is. not_waited number node n missing off waits is)
      ] refl
  done_well number node other at read = off_well other (message.Done number node) at read tt (λ n waits is. is)

  -- ---- a Block or an Install is answered

  -- with the last node each has blocked the name
  all_blocked : (n : ℕ) → n < config.nodes → (call : CallRec) (missing : List ℕ) (rows : List NamedRow) (node : ℕ) → w.coord.stage ≡ stage.Block call missing rows → without_node node missing ≡ []
      → barred_of (w.nodes node).blocked ≡ barred_by w.coord.operation (name_in call.op) → (w.nodes n).blocked ≢ None
  all_blocked n there call missing rows node at last barred =
      each_but (λ i. (w.nodes i).blocked ≢ None) n node missing last
      (some_of (w.nodes node).blocked w.coord.operation (name_in call.op) barred)
      (λ heard. block_some config w h s call missing rows n at there heard)

  blocked_well : (number node : ℕ) (told : List NamedRow) (t : Stage) → w.coord.stage ≡ t → reading x.bytes ≡ Ok (message.Blocked number node told) → IsWell config w later (take_blocked w.coord number node told t)
  blocked_well number node told (stage.Block call missing rows) at read =
      let lane = runs_there config w h s call.id.client (subst (λ t. IsOf call.id.client (work_of (before_in config h) t)) (sym at) refl) in
      let current = subst (λ t. IsCurrent config.nodes w.coord.table h.call h.phase t) at s.beside.hosts.current in
      elim ((number == w.coord.operation) && is_missing node missing) as (λ b. ((number == w.coord.operation) && is_missing node missing) ≡ b
      → IsWell config w later (cond b (block_heard w.coord call (rows ++ told) (without_node node missing)) (begun w.coord))) [
        | true ↦ λ is.
            let both = both_are (number == w.coord.operation) (is_missing node missing) is in
            let posted = s.good.bars.told e x.point (Node 255) (message.Blocked number node told) (posted_here (message.Blocked number node told) read) in
            let barred = (subst (λ t. ToldBlocked w.coord.operation (work_of (before_in config h) t) (barred_of (w.nodes node).blocked) (h.due node) told) at (posted.1 (same_number number w.coord.operation both.0))).0 in
            elim (without_node node missing) as (λ ms. without_node node missing ≡ ms → IsWell config w later (block_heard w.coord call (rows ++ told) ms)) [
              | [] ↦ λ last. placed_well config w later here_past w.coord call (rows ++ told) (tabled config w h s) lane current.1.places (λ n there. all_blocked n there call missing rows node at last barred)
              | y ∷ ys ↦ λ left. waits_well (stage.Block call missing rows) (stage.Block call (y ∷ ys) (rows ++ told)) node (message.Blocked number node told) at read left tt (λ n z. z) (λ n is. is.1)
            ] refl
        | false ↦ λ off. off_well (stage.Block call missing rows) (message.Blocked number node told) at read tt (λ n waits is. not_waited number node n missing off waits is)
      ] refl
  blocked_well number node told other at read = off_well other (message.Blocked number node told) at read tt (λ n waits is. is)

  installed_well : (number node : ℕ) (t : Stage) → w.coord.stage ≡ t → reading x.bytes ≡ Ok (message.Installed number node) → IsWell config w later (begun (take_installed w.coord number node t))
  installed_well number node (stage.Install call missing) at read =
      let t = stage.Install call missing in
      elim ((number == w.coord.operation) && is_missing node missing) as (λ b. ((number == w.coord.operation) && is_missing node missing) ≡ b
      → IsWell config w later (begun (cond b (at_stage w.coord (install_at call (without_node node missing))) w.coord))) [
        | true ↦ λ is.
            elim (without_node node missing) as (λ ms. without_node node missing ≡ ms → IsWell config w later (begun (at_stage w.coord (install_at call ms)))) [
              | [] ↦ λ last. idle_well config w later here_past w.coord [] [] tt
              | y ∷ ys ↦ λ left. waits_well t (stage.Install call (y ∷ ys)) node (message.Installed number node) at read left tt (λ n z. z) (λ n is. is.1)
            ] refl
        | false ↦ λ off. off_well t (message.Installed number node) at read tt (λ n waits is. not_waited number node n missing off waits is)
      ] refl
  installed_well number node other at read = off_well other (message.Installed number node) at read tt (λ n waits is. is)

  -- ---- any record

  -- one that is neither a directory nor an answer of a node
  other_well : (coord : CoordState) (read : Message) → coord.stage ≡ w.coord.stage → coord.operation ≡ w.coord.operation → reading x.bytes ≡ Ok read → ((f : ℕ) (key : Key) (what : Found) → read ≡ message.FetchGot f key what → ⊥)
      → (IsReport read → ⊥) → IsWell config w later (begun coord)
  other_well coord read same number is no_got no_report =
      stays_well coord w.coord.stage same number refl (λ call f wanted key what there z. no_got f key what (read_now read (message.FetchGot f key what) is z))
      (λ n waits y answers z. no_report (answer_report w.coord.stage w.coord.operation n read (comes_now w.coord.stage read is w.coord.operation n y answers z)))

  message_well : (read : Message) → reading x.bytes ≡ Ok read → IsWell config w later (take_message w.coord x.point read)
  unfolding taken
  message_well (message.Call call) is =
      elim (is_operation call.op && is_newer (mark_of call.id) (last_mark w.coord.last call.id.client)) as (λ b. IsWell config w later (begun (cond b (taken w.coord call) w.coord))) [
        | true ↦ other_well (taken w.coord call) (message.Call call) refl refl is (λ f key what z. cc) (λ none. none)
        | false ↦ other_well w.coord (message.Call call) refl refl is (λ f key what z. cc) (λ none. none)
      ]
  message_well (message.FetchGot number key what) is = found_well number key what w.coord.stage refl is
  message_well (message.Locked number node rows) is = locked_well number node rows w.coord.stage refl is
  message_well (message.Counted number node count) is = counted_well number node count w.coord.stage refl is
  message_well (message.Done number node) is = done_well number node w.coord.stage refl is
  message_well (message.Blocked number node rows) is = blocked_well number node rows w.coord.stage refl is
  message_well (message.Installed number node) is = installed_well number node w.coord.stage refl is
  message_well other is = other_well w.coord other refl refl is (λ f key what z. cc) (λ none. none)

  read_well : (read : Result Message WireFault) → reading x.bytes ≡ read → IsWell config w later (take_read w.coord x.point read)
  read_well (Ok read) is = message_well read is
  read_well (Err fault) is =
      stays_well w.coord w.coord.stage refl refl refl (λ call f wanted key what there z. let no : None ≡ Some (message.FetchGot f key what) = sym (ap result_ok is) ∙ z in cc)
      (λ n waits y answers z. let no : None ≡ Some y = sym (ap result_ok is) ∙ z in cc)

  hear_moved : All (λ (l : Letter). Fits l.message) (heard w.coord x).sent → IsMoving config (coord_after config w (heard w.coord x)) later
  unfolding heard
  hear_moved fit =
      let k = heard w.coord x in
      coord_moves config w came later k fit m here_past (λ n f other o. way_still k n f (λ same key what z. other same) o) (read_well (reading x.bytes) refl)

coord_of : (to : Actor) → is_to_coord to ≡ true → to ≡ Coord
coord_of (Client lane) is = absurd (cc)
coord_of (Node n) is = absurd (cc)
coord_of Coord is = refl

-- what the coordinator hears
pub hears : (coord : CoordState) (x : Envelope) (k : Work) (P : Work → Type 0) → (x.to ≡ Coord → P (heard coord x)) → coord_step coord (coord_event.Hear x) ≡ Some k → P k
unfolding coord_step
hears coord x k P holds is =
    elim (is_to_coord x.to) as (λ b. is_to_coord x.to ≡ b → cond b (Some (heard coord x)) None ≡ Some k → P k) [
      | true ↦ λ to z. subst P (same_Some (heard coord x) k z) (holds (coord_of x.to to))
      | false ↦ λ to z. absurd (cc)
    ] refl is

pub hear_moves : (config : Config) (w : World) (came : ℕ → Bool) (e : ℕ) (x : Envelope) (h : Ghost) (k : Work) → Shows config w h → IsMoving config w came → slice_get w.envelopes e ≡ Some x
    → coord_step w.coord (coord_event.Hear x) ≡ Some k → All (λ (l : Letter). Fits l.message) k.sent → IsMoving config (coord_after config w k) (put came e true)
hear_moves config w came e x h k s m at is fit =
    hears w.coord x k (λ y. All (λ (l : Letter). Fits l.message) y.sent → IsMoving config (coord_after config w y) (put came e true))
    (λ to fit. hear_moved config w came e x h s m (record { at = at; to = to }) fit) is fit
