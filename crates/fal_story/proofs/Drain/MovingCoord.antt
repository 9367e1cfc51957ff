-- A cluster goes on after what the coordinator makes: an answer, a question, or a record to each node.
use Rattle.std.proofs.Common.{◌≡◌, ◌≢◌, inl, inr, ⊎_elim, ℕ, zero, suc, ◌+◌, ◌<◌, ◌≤◌, Bool, true, false, ◌&&◌, List, [], ◌∷◌, ◌++◌, length, map, Option, Some, None, IsTrue, refl, sym, ap, subst, arith}
use Rattle.std.specs.Prelude.{◌==◌}
use Rattle.std.specs.List.{All, range_with_len}
use Rattle.std.proofs.lemmas.Bool.Decides.{nat_tests}
use Rattle.std.proofs.lemmas.Option.{same_Some}
use Rattle.fal_base.specs.declared.call.CallRec.{CallRec}
use Rattle.fal_base.specs.declared.call.Config.{Config}
use Rattle.fal_base.specs.declared.event.Actor.TheVariants.{Node, Coord}
use Rattle.fal_base.specs.declared.event.Envelope.{Envelope}
use Rattle.fal_base.specs.declared.event.Note.{Note}
use Rattle.fal_base.specs.declared.event.Point.TheVariants.{Here}
use Rattle.fal_base.specs.declared.key.Key.{Key}
use Rattle.fal_base.specs.declared.op.Op.{Op}
use Rattle.fal_base.specs.declared.op.Op.TheVariants as op
use Rattle.fal_base.specs.declared.reply.Errno.{Errno}
use Rattle.fal_base.specs.declared.reply.Reply.{Reply}
use Rattle.fal_base.specs.declared.reply.Reply.TheVariants as reply
use Rattle.fal_base.specs.declared.row.NamedRow.{NamedRow}
use Rattle.fal_base.specs.declared.row.Update.{Update}
use Rattle.fal_coord.specs.declared.paths_walk.PathsWalk.{PathsWalk}
use Rattle.fal_coord.specs.declared.paths_walk.PathsWalk.TheVariants.{Stopped, Lacking, Ready}
use Rattle.fal_coord.specs.declared.stage.Operation.{Operation}
use Rattle.fal_coord.specs.declared.stage.Stage.TheVariants as stage
use Rattle.fal_coord.specs.Begin.{walk_step, walked_as, asking, ask_letter, locking, placing_by, begun_by}
use Rattle.fal_coord.specs.Decide.{counting, decided, judged_work, commit_note}
use Rattle.fal_coord.specs.Judged as judged
use Rattle.fal_coord.specs.Judged.{Judged}
use Rattle.fal_coord.specs.Nodes.{to_nodes}
use Rattle.fal_coord.specs.Place.{blocking, install_letters, name_placed, place_refusal, placed, placed_by}
use Rattle.fal_coord.specs.State.{CoordState, Work, at_stage}
use Rattle.fal_coord.specs.Walks.{placing_of, walk_paths, walked_paths}
use Rattle.fal_node.specs.Due.{is_quiet}
use Rattle.fal_node.specs.State.{NodeState}
use Rattle.fal_move.specs.Moving.{by_parent, share_of}
use Rattle.fal_place.specs.Placement.{Placement, Placing, owner, with_rule}
use Rattle.fal_wait.specs.declared.waiting_call.WaitingCall.{WaitingCall}
use Rattle.fal_wire.specs.declared.letter.Letter.{Letter}
use Rattle.fal_wire.specs.declared.message.Message.{Message}
use Rattle.fal_wire.specs.declared.message.Message.TheVariants as message
use Rattle.fal_wire.specs.Letters.{letter, reply_letter, output_of}
use Rattle.fal_wire.specs.Messages.{Fits}
use Rattle.fal_story.proofs.Drain.Actors.{IsActor, letters_go}
use Rattle.fal_story.proofs.Drain.Moving.{IsMoving, IsPast, items_in, more_past}
use Rattle.fal_story.proofs.Drain.OnWay.{IsOnWay, Asks, AreOnWay}
use Rattle.fal_story.proofs.Drain.Fresh.{IsFresh}
use Rattle.fal_story.proofs.Drain.Sent.{letter_fresh}
use Rattle.fal_story.proofs.Drain.Staged.{IsStaged, missing_below}
use Rattle.fal_story.proofs.Events.InCoord.{coord_after}
use Rattle.fal_story.proofs.Events.InStep.{letter_posts, posts_sent}
use Rattle.fal_story.proofs.Events.Doing.{name_in, rule_in}
use Rattle.fal_story.proofs.Events.Shows.{Ghost, Shows, posts_of}
use Rattle.fal_story.proofs.Events.Tables.{coord_nodes}
use Rattle.fal_story.proofs.Lists.Each.{Each, each_weaker, each_join}
use Rattle.fal_story.proofs.Lists.Grown.{tells}
use Rattle.fal_story.proofs.Lists.Members.{IsIn, in_front, in_map, each_map}
use Rattle.fal_story.proofs.View.{Post}
use Rattle.fal_story.specs.Clusters.{is_lane}
use Rattle.fal_story.specs.World.{World, posted, envelopes_of}

-- ---- quiet nodes

pub no_length : {A : Type 0} (xs : List A) → (length xs == 0) ≡ true → xs ≡ []
no_length [] e = refl
no_length (x ∷ xs) e = let wrong : (suc (length xs) == 0) ≡ false = grind (arith, nat_tests) in absurd (cc)

pub both_are : (a b : Bool) → (a && b) ≡ true → (a ≡ true) × (b ≡ true)
both_are true b e = (refl, e)
both_are false b e = absurd (cc)

pub quiet_lists : (node : NodeState) → is_quiet node ≡ true → (node.batches ≡ []) × (node.waiting.calls ≡ [])
quiet_lists node quiet =
    let parts = both_are (length node.batches == 0) (length node.waiting.calls == 0) (both_are ((length node.batches == 0) && (length node.waiting.calls == 0)) (length node.items == 0) quiet).0 in
    (no_length node.batches parts.0, no_length node.waiting.calls parts.1)

-- ---- records to each node

in_range : (from count n : ℕ) → from ≤ n → n < from + count → IsIn n (range_with_len from count)
in_range from zero n low high = absurd (omega arith)
in_range from (suc count) n low high = ⊎_elim (λ t. inl t.1) (λ t. let other = t.1 in inr (in_range (from + 1) count n (next from n low other) (omega arith))) (tells from n)
  where
    next : (a b : ℕ) → a ≤ b → a ≢ b → a + 1 ≤ b
    next a b low other = grind arith

pub each_range : (P : ℕ → Type 0) (from count : ℕ) → ((n : ℕ) → n < from + count → P n) → Each P (range_with_len from count)
each_range P from zero holds = tt
each_range P from (suc count) holds = (holds from (omega arith), each_range P (from + 1) count (λ n below. holds n (omega arith)))

pub each_told : (count n : ℕ) (of : ℕ → Message) → n < count → IsIn (letter (Node n) (Here 0) (of n)) (map (λ i. letter (Node i) (Here 0) (of i)) (range_with_len 0 count))
each_told count n of below = in_map (λ (i : ℕ). letter (Node i) (Here 0) (of i)) (range_with_len 0 count) n (in_range 0 count n (omega arith) (omega arith))

pub node_told : (count n : ℕ) (m : Message) → n < count → IsIn (letter (Node n) (Here 0) m) (to_nodes count m)
node_told count n m below = each_told count n (λ i. m) below

pub each_go : (config : Config) (count : ℕ) (of : ℕ → Message) → count ≡ config.nodes → Each (λ (l : Letter). IsActor config l.to) (map (λ i. letter (Node i) (Here 0) (of i)) (range_with_len 0 count))
each_go config count of same =
    each_map (λ (l : Letter). IsActor config l.to) (λ i. letter (Node i) (Here 0) (of i)) (range_with_len 0 count)
    (each_range (λ i. i < config.nodes) 0 count (λ n below. let few = same in omega arith))

nodes_go : (config : Config) (count : ℕ) (m : Message) → count ≡ config.nodes → Each (λ (l : Letter). IsActor config l.to) (to_nodes count m)
nodes_go config count m same = each_go config count (λ i. m) same

-- ---- what the coordinator makes

-- the records after the coordinator's work
abbrev pub posts_at : World → Work → List Post
posts_at w k = posts_of w.envelopes ++ letter_posts (length w.commits) k.sent

-- its letters go to actors that are there, and what it waits for is on the way
pub record IsWell (config : Config) (w : World) (later : ℕ → Bool) (k : Work) : Type 0 where
  pub go : Each (λ (l : Letter). IsActor config l.to) k.sent
  pub staged : IsStaged config.nodes (posts_at w k) later w.nodes k.coord

-- its table is one of the cluster's nodes, and gives each key to one of them
pub record IsTabled (config : Config) (table : Placement) : Type 0 where
  pub nodes : table.nodes ≡ config.nodes
  pub lives : (key : Key) → owner table key < config.nodes

pub tabled : (config : Config) (w : World) (h : Ghost) → Shows config w h → IsTabled config w.coord.table
tabled config w h s = record { nodes = coord_nodes config w h s; lives = s.good.ground.lives }

-- the cluster goes on after it
pub coord_moves : (config : Config) (w : World) (came later : ℕ → Bool) (k : Work) → All (λ (l : Letter). Fits l.message) k.sent → IsMoving config w came → IsPast (length w.envelopes) later
    → ((n f : ℕ) → n ≢ 255 → IsOnWay (posts_of w.envelopes) came (items_in w) n f → IsOnWay (posts_at w k) later (items_in w) n f) → IsWell config w later k → IsMoving config (coord_after config w k) later
unfolding posted
coord_moves config w came later k fit m past ways well =
    let es = envelopes_of Coord w.events (length w.commits) (map output_of k.sent) in
    let posts : posts_of (w.envelopes ++ es) ≡ posts_at w k = posts_sent Coord w.events (length w.commits) w.envelopes k.sent fit in
    let few = m.few in
    record {
      few = m.few;
      past = more_past w.envelopes es later past;
      within = each_join (λ (e : Envelope). IsActor config e.to) w.envelopes es m.within (letters_go config Coord w.events (length w.commits) k.sent well.go);
      waits = λ n. subst (λ ps. AreOnWay ps later (items_in w) n (w.nodes n).waiting.calls) (sym posts)
          (⊎_elim
          (λ seat. let there = seat.1 in subst (λ calls. AreOnWay (posts_at w k) later (items_in w) n calls) (sym (quiet_lists (w.nodes n) (m.beyond n (omega arith))).1) tt)
          (λ node. each_weaker _ _ (w.nodes n).waiting.calls (λ (x : WaitingCall) h f is. ways n f node.1 (h f is)) (m.waits n))
          (tells n 255));
      servable = m.servable;
      beyond = m.beyond;
      holders = m.holders;
      staged = subst (λ ps. IsStaged config.nodes ps later w.nodes k.coord) (sym posts) well.staged;
    }

module _ (config : Config) (w : World) (later : ℕ → Bool) (past : IsPast (length w.envelopes) later) where
  -- no operation is under way
  pub idle_well : (coord : CoordState) (sent : List Letter) (notes : List Note) → Each (λ (l : Letter). IsActor config l.to) sent → IsWell config w later (record { coord = at_stage coord stage.Idle; sent = sent; notes = notes })
  idle_well coord sent notes go = record { go = go; staged = record { walking = tt; named = λ n is. absurd (cc); hearing = λ n is. tt } }

  asking_well : (coord : CoordState) (call : CallRec) (key : Key) → IsTabled config coord.table → IsWell config w later (asking coord call key)
  unfolding asking
  asking_well coord call key table =
      let k = asking coord call key in
      let there = table.lives key in
      let f = letter_fresh w.envelopes later (length w.commits) k.sent (ask_letter coord key) past (inl refl) in
      record {
        go = (there, tt);
        staged = record { walking = Asks f.0 f.1.0 (owner coord.table key) key f.1.1.0 f.1.1.1; named = λ n is. absurd (cc); hearing = λ n is. tt };
      }

  locking_well : (coord : CoordState) (call : CallRec) (keys : List Key) (walks : List _) → IsTabled config coord.table → ((n : ℕ) → n < config.nodes → (w.nodes n).locks.shut ≡ None) → IsWell config w later (locking coord call keys walks)
  unfolding locking
  locking_well coord call keys walks table none =
      let k = locking coord call keys walks in
      let order = message.Lock coord.operation keys in
      let same = table.nodes in
      record {
        go = nodes_go config coord.table.nodes order same;
        staged = record {
          walking = tt;
          named = λ n is. let below = missing_below n coord.table.nodes is in omega arith;
          hearing = λ n is. record {
            away = λ low. letter_fresh w.envelopes later (length w.commits) k.sent (letter (Node n) (Here 0) order) past (node_told coord.table.nodes n order (missing_below n coord.table.nodes is));
            shut = λ some. absurd (some (none n (let below = missing_below n coord.table.nodes is in omega arith)));
          };
        };
      }

  walked_well : (coord : CoordState) (call : CallRec) (end : PathsWalk) → IsTabled config coord.table → IsTrue (is_lane config call.id.client) → ((n : ℕ) → n < config.nodes → (w.nodes n).locks.shut ≡ None)
      → IsWell config w later (walked_as coord call end)
  walked_well coord call (Stopped errno) table lane none = idle_well coord (reply_letter call (Here 0) (reply.Fail errno) ∷ []) [] (lane, tt)
  walked_well coord call (Lacking key) table lane none = asking_well coord call key table
  walked_well coord call (Ready walks) table lane none = locking_well coord call _ walks table none

  pub walk_well : (coord : CoordState) (call : CallRec) → IsTabled config coord.table → IsTrue (is_lane config call.id.client) → ((n : ℕ) → n < config.nodes → (w.nodes n).locks.shut ≡ None)
      → IsWell config w later (walk_step coord call)
  unfolding walk_step
  walk_well coord call table lane none = walked_well coord call (walk_paths coord.replica call.cred (walked_paths call.op)) table lane none

  -- every node is to block a name
  blocking_well : (coord : CoordState) (call : CallRec) (name : List ℕ) → IsTabled config coord.table → name ≡ name_in call.op → ((n : ℕ) → n < config.nodes → (w.nodes n).blocked ≡ None)
      → IsWell config w later (blocking coord call name)
  unfolding blocking
  blocking_well coord call name table is none =
      let k = blocking coord call name in
      let order = message.Block coord.operation name in
      let same = table.nodes in
      record {
        go = nodes_go config coord.table.nodes order same;
        staged = record {
          walking = tt;
          named = λ n is. let below = missing_below n coord.table.nodes is in omega arith;
          hearing = λ n waits. record {
            away = λ low. subst (λ i. IsFresh (posts_at w k) later (Node n) (message.Block coord.operation i)) is
                (letter_fresh w.envelopes later (length w.commits) k.sent (letter (Node n) (Here 0) order) past (node_told coord.table.nodes n order (missing_below n coord.table.nodes waits)));
            blocked = λ some. absurd (some (none n (let below = missing_below n coord.table.nodes waits in omega arith)));
          };
        };
      }

  placing_well : (coord : CoordState) (call : CallRec) (placing : Placing) (refused : Option Errno) → IsTabled config coord.table → IsTrue (is_lane config call.id.client) → placing.name ≡ name_in call.op
      → ((n : ℕ) → n < config.nodes → (w.nodes n).blocked ≡ None) → IsWell config w later (placing_by coord call placing refused)
  placing_well coord call placing None table lane is none = blocking_well coord call placing.name table is none
  placing_well coord call placing (Some errno) table lane is none = idle_well coord (reply_letter call (Here 0) (reply.Fail errno) ∷ []) [] (lane, tt)

  -- the coordinator begins with a call
  pub begun_well : (coord : CoordState) (call : CallRec) → IsTabled config coord.table → IsTrue (is_lane config call.id.client) → ((n : ℕ) → n < config.nodes → (w.nodes n).locks.shut ≡ None)
      → ((n : ℕ) → n < config.nodes → (w.nodes n).blocked ≡ None) → IsWell config w later (begun_by coord call (placing_of call.op))
  begun_well coord call table lane none free = by_placing (placing_of call.op) refl
    where
      named : (c : Op) (placing : Placing) → placing_of c ≡ Some placing → placing.name ≡ name_in c
      named (op.Place name rule) placing is = ap (λ (p : Placing). p.name) (sym (same_Some (record { name = name; rule = rule }) placing is))
      named other placing is = absurd (cc)

      by_placing : (o : Option Placing) → placing_of call.op ≡ o → IsWell config w later (begun_by coord call o)
      by_placing None is = walk_well coord call table lane none
      by_placing (Some placing) is = placing_well coord call placing (place_refusal coord.table call.cred placing) table lane (named call.op placing is) free

  -- the name is placed: every node is told, and has the name blocked still
  pub placed_well : (coord : CoordState) (call : CallRec) (rows : List NamedRow) → IsTabled config coord.table → IsTrue (is_lane config call.id.client) → call.op ≡ op.Place (name_in call.op) (rule_in call.op)
      → ((n : ℕ) → n < config.nodes → (w.nodes n).blocked ≢ None) → IsWell config w later (placed coord call rows)
  unfolding name_placed
  placed_well coord call rows table lane places some =
      let placing : Placing = record { name = name_in call.op; rule = rule_in call.op } in
      let k = name_placed coord call placing rows in
      let grown = with_rule coord.table placing.name placing.rule in
      let order = λ (n : ℕ). message.Install coord.operation grown.version placing.rule (share_of grown placing.name n (by_parent rows)) in
      let told = reply_letter call (Here 0) reply.Fine in
      let installs = install_letters coord.operation grown placing (by_parent rows) in
      let same = table.nodes in
      let well : IsWell config w later k = record {
        go = each_join (λ (l : Letter). IsActor config l.to) installs (told ∷ []) (each_go config grown.nodes order same) (lane, tt);
        staged = record {
          walking = tt;
          named = λ n is. let below = missing_below n coord.table.nodes is in omega arith;
          hearing = λ n is. record {
            blocked = λ _. (
              order n,
              (
                refl,
                letter_fresh w.envelopes later (length w.commits) k.sent (letter (Node n) (Here 0) (order n)) past
                    (in_front installs (told ∷ []) _ (each_told grown.nodes n order (missing_below n coord.table.nodes is))),
              ),
            );
            freed = λ open_now. absurd (some n (let below = missing_below n coord.table.nodes is in omega arith) open_now);
          };
        };
      } in
      subst (λ o. IsWell config w later (placed_by coord call rows o)) (sym (ap placing_of places)) well

  counting_well : (coord : CoordState) (operation : Operation) (rows : List Update) (dir : ℕ) (updates : List Update) → IsTabled config coord.table → IsWell config w later (counting coord operation rows dir updates)
  unfolding counting
  counting_well coord operation rows dir updates table =
      let k = counting coord operation rows dir updates in
      let order = message.Count coord.operation dir in
      let same = table.nodes in
      record {
        go = nodes_go config coord.table.nodes order same;
        staged = record {
          walking = tt;
          named = λ n is. let below = missing_below n coord.table.nodes is in omega arith;
          hearing = λ n is. inl (letter_fresh w.envelopes later (length w.commits) k.sent (letter (Node n) (Here 0) order) past (node_told coord.table.nodes n order (missing_below n coord.table.nodes is)));
        };
      }

  decided_well : (coord : CoordState) (operation : Operation) (updates : List Update) (notes : List Note) (answer : Reply) → IsTabled config coord.table → IsTrue (is_lane config operation.call.id.client)
      → ((n : ℕ) → n < config.nodes → (w.nodes n).locks.shut ≢ None) → IsWell config w later (decided coord operation updates notes answer)
  unfolding decided
  decided_well coord operation updates notes answer table lane shut =
      let k = decided coord operation updates notes answer in
      let order = message.Commit coord.operation updates in
      let told = reply_letter operation.call (Here 0) answer in
      let same = table.nodes in
      record {
        go = each_join (λ (l : Letter). IsActor config l.to) (to_nodes coord.table.nodes order) (told ∷ []) (nodes_go config coord.table.nodes order same) (lane, tt);
        staged = record {
          walking = tt;
          named = λ n is. let below = missing_below n coord.table.nodes is in omega arith;
          hearing = λ n is. record {
            shut = λ some. letter_fresh w.envelopes later (length w.commits) k.sent (letter (Node n) (Here 0) order) past
                (in_front (to_nodes coord.table.nodes order) (told ∷ []) _ (node_told coord.table.nodes n order (missing_below n coord.table.nodes is)));
            freed = λ open_now. absurd (shut n (let below = missing_below n coord.table.nodes is in omega arith) open_now);
          };
        };
      }

  pub judged_well : (coord : CoordState) (operation : Operation) (rows : List Update) (j : Judged) → IsTabled config coord.table → IsTrue (is_lane config operation.call.id.client)
      → ((n : ℕ) → n < config.nodes → (w.nodes n).locks.shut ≢ None) → IsWell config w later (judged_work coord operation rows j)
  judged_well coord operation rows (judged.Fail errno) table lane shut = decided_well coord operation [] [] (reply.Fail errno) table lane shut
  judged_well coord operation rows judged.Same table lane shut = decided_well coord operation [] [] reply.Fine table lane shut
  judged_well coord operation rows (judged.Change updates) table lane shut = decided_well coord operation updates (commit_note operation ∷ []) reply.Fine table lane shut
  judged_well coord operation rows (judged.Count dir updates) table lane shut = counting_well coord operation rows dir updates table
