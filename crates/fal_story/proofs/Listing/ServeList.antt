-- A node answers a question for its part of a listing: with its share of what stands under the directory, or by the changes of placement
-- that the asker has not.
use Rattle.std.proofs.Common.{◌≡◌, ◌≢◌, ◌⊎◌, inl, inr, ⊎_elim, ℕ, ◌+◌, ◌<◌, Bool, true, false, not, ◌&&◌, ◌||◌, cond, List, length, Option, Some, None, refl, sym, ap, subst, ◌∙◌, arith}
use Rattle.std.specs.Prelude.{◌==◌, is_some, nat_lt}
use Rattle.std.specs.List.{All}
use Rattle.std.proofs.lemmas.Bool.{eqb-true}
use Rattle.std.proofs.lemmas.Bool.Decides.{nat_tests}
use Rattle.fal_base.specs.declared.call.CallId.{CallId}
use Rattle.fal_base.specs.declared.call.Config.{Config}
use Rattle.fal_base.specs.declared.event.Actor.TheVariants.{Client, Node}
use Rattle.fal_base.specs.declared.key.Key.{Key}
use Rattle.fal_base.specs.Commits.{tree_at}
use Rattle.fal_base.specs.Tree.{names_under, row_at, IsInOrder}
use Rattle.fal_base.proofs.Updates.{laid_off}
use Rattle.fal_batch.proofs.Truth.{both_first, both_second}
use Rattle.fal_locks.specs.declared.holder.Shut.{Shut}
use Rattle.fal_node.specs.declared.blocking.Blocking.{Blocking}
use Rattle.fal_node.specs.declared.item.Item.{Item}
use Rattle.fal_node.specs.Letters.{begun}
use Rattle.fal_node.specs.Serve.{can_list, is_behind, is_open, list_letter, list_message, served}
use Rattle.fal_node.specs.State.{item_of, without_item}
use Rattle.fal_place.specs.Placement.{changes_since, table_after}
use Rattle.fal_wire.specs.declared.message.Message.{Message}
use Rattle.fal_wire.specs.declared.message.Message.TheVariants as message
use Rattle.fal_wire.specs.Messages.{Fits}
use Rattle.fal_story.proofs.Events.Besides.{beside_still}
use Rattle.fal_story.proofs.Events.Freed.{locks_without}
use Rattle.fal_story.proofs.Events.InStep.{InStep, Ends, begins, ends, view_begun}
use Rattle.fal_story.proofs.Events.Sends.{sends, each_found, each_without_first}
use Rattle.fal_story.proofs.Events.Shows.{Ghost, Shows, Beside, barred_of, is_lock, view_of, posts_of, calls_in}
use Rattle.fal_story.proofs.Events.Tables.{known_table, own_table, own_version, owner_at}
use Rattle.fal_story.proofs.Families.Bars.{IsBarred}
use Rattle.fal_story.proofs.Families.Clear.{IsShut}
use Rattle.fal_story.proofs.Families.Knowing.{IsAsk, IsAsking}
use Rattle.fal_story.proofs.Families.Listings.{IsPartFor, IsShare}
use Rattle.fal_story.proofs.Steps.Posted.{IsFine}
use Rattle.fal_story.proofs.Steps.Reads.{none_due}
use Rattle.fal_story.proofs.Trees.Shares.{rows_share}
use Rattle.fal_story.proofs.Trees.Standing.{row_of}
use Rattle.fal_story.proofs.View.{IsPosted, now}
use Rattle.fal_story.specs.World.{World, put}

-- an option that is not there is None
not_some : {A : Type 0} (o : Option A) → not (is_some o) ≡ true → o ≡ None
not_some None is = refl
not_some (Some x) is = absurd (cc)

-- where nothing is shut, no key is
none_shut : (shut : Option Shut) (key : Key) → shut ≡ None → IsShut shut key → ⊥
none_shut None key none is = is
none_shut (Some s) key none is = cc

-- where nothing is blocked, no name is
none_barred : (blocked : Option Blocking) (name : List ℕ) → blocked ≡ None → IsBarred (barred_of blocked) name → ⊥
none_barred None name none is = is
none_barred (Some b) name none is = cc

-- either of two is so, and the first is not
or_else : (a b : Bool) → a ≡ false → (a || b) ≡ true → b ≡ true
or_else true b off is = absurd (cc)
or_else false b off is = is

-- a version that is behind another is less
less_is : (a b : ℕ) → nat_lt a b ≡ true → a < b
less_is a b is = grind (arith, nat_tests)

module _ (config : Config) (w : World) (n : ℕ) (h : Ghost) (e p version dir : ℕ) (id : CallId) (there : n < config.nodes) (s : Shows config w h) (sorted : IsInOrder (w.nodes n).rows)
    (sent : IsPosted (posts_of w.envelopes) e (Node n) p (message.ListAsk id version dir)) (can : can_list (w.nodes n) version ≡ true) where
  -- the message is fine to be sent to its client now
  abbrev IsFineNow : Message → Type 0
  IsFineNow m = IsFine config (view_of config w h) (Client id.client) (length w.commits + 0) m

  -- what it asks for is of a listing that is answered or under way, or of an earlier attempt
  asked : IsAsk h.placings (λ l. (w.clients l).table) (λ l. (w.clients l).seq) h.call h.phase id version dir
  asked = s.good.knowing.asks e p n id version dir sent

  -- the asker has an earlier table
  stale_fine : is_behind (w.nodes n) version ≡ true → IsFineNow (message.Stale id version (w.nodes n).table.version (changes_since version (w.nodes n).table))
  stale_fine behind = record {
    asking = tt;
    records = (id.client, refl, refl);
    operation = tt;
    bars = tt;
    knowing = (
      id.client,
      refl,
      (
        less_is version (w.nodes n).table.version behind,
        own_version config w h s n there,
        ap (changes_since version) (own_table config w h s n there),
        ⊎_elim (λ older. inl older) (λ x. inr (inr (dir, x))) asked.1,
      ),
    );
    listings = tt;
  }

  -- by the same table, where nothing is shut or blocked
  module _ (same : version ≡ (w.nodes n).table.version) (open' : is_open (w.nodes n) ≡ true) where
    unshut : (w.nodes n).locks.shut ≡ None
    unshut = not_some (w.nodes n).locks.shut (both_first (not (is_some (w.nodes n).locks.shut)) (not (is_some (w.nodes n).blocked)) open')

    unblocked : (w.nodes n).blocked ≡ None
    unblocked = not_some (w.nodes n).blocked (both_second (not (is_some (w.nodes n).locks.shut)) (not (is_some (w.nodes n).blocked)) open')

    free : (key : Key) → IsBarred (barred_of (w.nodes n).blocked) key.name → ⊥
    free key = none_barred (w.nodes n).blocked key.name unblocked

    -- the node's rows are the tree's of the keys that it owns
    rows_here : (key : Key) → row_at (w.nodes n).rows key ≡ row_of (w.nodes n).table (now (view_of config w h)) n key
    rows_here key =
        sym (laid_off (h.due n) (w.nodes n).rows key (none_due config (view_of config w h) n key there (none_shut (w.nodes n).locks.shut key unshut) (free key) s.good)) ∙ s.good.ground.rows n key
        ∙ ap (λ o. cond (o == n) (row_at (now (view_of config w h)) key) None) (sym (owner_at config w h s n key there (free key)))

    -- the asker's table is the node's
    known_here : version ≡ (w.clients id.client).table.version → (w.nodes n).table ≡ (w.clients id.client).table
    known_here known = own_table config w h s n there ∙ ap (table_after config.nodes h.placings) (sym same ∙ known) ∙ sym (known_table config w h s id.client)

    -- its names are its share at this point
    share : IsShare (w.nodes n).table (tree_at w.commits (length w.commits + 0)) dir n (names_under (w.nodes n).rows dir)
    share =
        let here : length w.commits ≡ length w.commits + 0 = omega arith in
        subst (λ k. IsShare (w.nodes n).table (tree_at w.commits k) dir n (names_under (w.nodes n).rows dir)) here (rows_share (w.nodes n).table (now (view_of config w h)) (w.nodes n).rows dir n sorted rows_here)

    -- for a listing that is under way they are its part
    part_for : IsAsking (h.phase id.client) (w.clients id.client).table version dir → IsPartFor (h.phase id.client) (w.clients id.client).table w.commits (length w.commits + 0) n (names_under (w.nodes n).rows dir)
    part_for x =
        let past = (s.good.listings.opened id.client x.0 dir (inr x.1)).to in (
          x.0,
          (
            dir,
            x.1,
            record {
              from = omega arith;
              to = omega arith;
              share = subst (λ t. IsShare t (tree_at w.commits (length w.commits + 0)) dir n (names_under (w.nodes n).rows dir)) (known_here x.2) share;
            },
          ),
        )

    -- so that they may be told
    part_fine : IsFineNow (message.ListPart id (w.nodes n).number (names_under (w.nodes n).rows dir))
    part_fine = subst (λ m. IsFineNow (message.ListPart id m (names_under (w.nodes n).rows dir))) (sym (s.placed n).number) (record {
      asking = tt;
      records = (id.client, refl, refl);
      operation = tt;
      bars = tt;
      knowing = tt;
      listings = (id.client, refl, ⊎_elim (λ older. inl older) (λ x. inr (x.0, ⊎_elim (λ idle. inl idle) (λ y. inr (part_for y)) x.1)) asked.1);
    })

  -- the answer is fine to be sent
  fine_listed : IsFineNow (list_message (w.nodes n) id version dir)
  fine_listed =
      let node = w.nodes n in
      elim (is_behind node version) as (λ b. is_behind node version ≡ b
      → IsFineNow (cond b (message.Stale id version node.table.version (changes_since version node.table)) (message.ListPart id node.number (names_under node.rows dir)))) [
        | true ↦ stale_fine
        | false ↦ λ off.
            let later = or_else (is_behind node version) ((version == node.table.version) && is_open node) off can in
            part_fine (eqb-true version node.table.version (both_first (version == node.table.version) (is_open node) later)) (both_second (version == node.table.version) (is_open node) later)
      ] refl

-- ---- the step

-- the letter goes out, and the item goes
listed_in : (config : Config) (w : World) (n : ℕ) (h : Ghost) (e p at version dir : ℕ) (id : CallId) → n < config.nodes → n ≢ 255 → Shows config w h → IsInOrder (w.nodes n).rows
    → IsPosted (posts_of w.envelopes) e (Node n) p (message.ListAsk id version dir) → can_list (w.nodes n) version ≡ true
    → InStep config w n (served (w.nodes n) (record { number = at; message = message.ListAsk id version dir })) h (w.nodes n).waiting.calls (calls_in (w.nodes n).batches)
unfolding served without_item
listed_in config w n h e p at version dir id there other s sorted sent can =
    let node = w.nodes n in
    let told = list_letter node id version dir in
    let y = sends config w n (begun node) h node.waiting.calls (calls_in node.batches) told
    (subst (λ v. IsFine config v (Client id.client) (length w.commits + 0) told.message) (view_begun config w n h other) (fine_listed config w n h e p version dir id there s sorted sent can))
    (begins config w n h other s) in
    record {
      good = y.good;
      here = y.here;
      others = y.others;
      items = each_without_first _ (λ item. item.number == at) node.items y.items;
      others_items = y.others_items;
      heard = y.heard;
      kept = y.kept;
      placed = record { number = y.placed.number; limit = y.placed.limit; blocked = y.placed.blocked; tidy = y.placed.tidy };
      others_placed = y.others_placed;
    }

-- after it the world shows what it did
pub listed_ends : (config : Config) (w : World) (n : ℕ) (h : Ghost) (item : Item) (id : CallId) (version dir : ℕ) → n < config.nodes → n ≢ 255 → Shows config w h → IsInOrder (w.nodes n).rows → item_of (w.nodes n) item.number ≡ Some item
    → item.message ≡ message.ListAsk id version dir → can_list (w.nodes n) version ≡ true → All (λ letter. Fits letter.message) (served (w.nodes n) item).sent → Ends config w n (served (w.nodes n) item)
unfolding served without_item
listed_ends config w n h item id version dir below other s sorted there is can fit =
    let sent = each_found _ (λ i. i.number == item.number) (w.nodes n).items item (s.items n) there in
    let explicit : item ≡ record { number = item.number; message = message.ListAsk id version dir } = λ i. record { number = item.number; message = is i } in
    let in_step = listed_in config w n h sent.0 sent.1.0 item.number version dir id below other s sorted (subst (IsPosted (posts_of w.envelopes) sent.0 (Node n) sent.1.0) is sent.1.1) can in
    let still = locks_without (λ i. i.number == item.number) (w.nodes n).items item there (ap is_lock is) in
    let beside = beside_still config w.nodes w.coord h n (served (w.nodes n) (record { number = item.number; message = message.ListAsk id version dir })).node still refl refl refl s.beside in (
      h,
      ends config w n (served (w.nodes n) item) h other fit
          (subst (λ (i : Item). Beside config (put w.nodes n (served (w.nodes n) i).node) w.coord h) (sym explicit) beside)
          (subst (λ (i : Item). InStep config w n (served (w.nodes n) i) h (served (w.nodes n) i).node.waiting.calls (calls_in (served (w.nodes n) i).node.batches)) (sym explicit) in_step),
    )
