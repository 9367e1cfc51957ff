-- What keeps a run going: no number is past, records go to actors that are there, and each call that waits has something on the way.
use Rattle.std.proofs.Common.{◌≡◌, ◌≢◌, ℕ, ◌<◌, ◌≤◌, Bool, true, false, List, ◌++◌, length, map, refl, sym, subst, arith, length-append}
use Rattle.std.specs.List.{All}
use Rattle.std.proofs.lemmas.List.{map-append}
use Rattle.fal_base.specs.declared.call.Config.{Config}
use Rattle.fal_base.specs.declared.event.Actor.{Actor}
use Rattle.fal_base.specs.declared.event.Actor.TheVariants.{Node}
use Rattle.fal_base.specs.declared.event.Envelope.{Envelope}
use Rattle.fal_base.specs.declared.event.Output.{Output}
use Rattle.fal_base.specs.declared.event.Note.{Note}
use Rattle.fal_client.specs.State.{ClientState}
use Rattle.fal_locks.specs.declared.holder.Holder.{Holder}
use Rattle.fal_locks.specs.Locks.{LockTable}
use Rattle.fal_node.specs.declared.batch.Batch.{Batch}
use Rattle.fal_node.specs.declared.item.Item.{Item}
use Rattle.fal_wire.specs.declared.letter.Letter.{Letter}
use Rattle.fal_node.specs.Due.{is_quiet}
use Rattle.fal_node.specs.Letters.{Work}
use Rattle.fal_node.specs.State.{NodeState}
use Rattle.fal_wire.specs.declared.message.Message.{Message}
use Rattle.fal_wire.specs.declared.message.Message.TheVariants as message
use Rattle.fal_wire.specs.Messages.{Fits}
use Rattle.fal_wire.specs.Letters.{output_of}
use Rattle.fal_story.proofs.Drain.Actors.{IsActor, letters_go}
use Rattle.fal_story.proofs.Drain.OnWay.{IsOnWay, AreOnWay, items_with, way_more}
use Rattle.fal_story.proofs.Drain.Staged.{IsStaged, IsHearing, AreFreshStill, hearing_kept, still_more, walking_kept}
use Rattle.fal_story.proofs.Events.InStep.{letter_posts, posts_sent}
use Rattle.fal_story.proofs.Events.Shows.{post_of, posts_of}
use Rattle.fal_story.proofs.Lists.Each.{Each, each_weaker, each_join}
use Rattle.fal_story.proofs.Lists.Grown.{put_all}
use Rattle.fal_story.proofs.Lists.Members.{IsIn}
use Rattle.fal_story.proofs.View.{Post}
use Rattle.fal_story.specs.World.{World, put, posted, envelopes_of}

abbrev pub items_in : World → ℕ → List Item
items_in w n = (w.nodes n).items

-- no record came that was not sent
abbrev pub IsPast : ℕ → (ℕ → Bool) → Type 0
IsPast count came = (k : ℕ) → count ≤ k → came k ≡ false

-- what is asked of an item, by the kind of its message: that it can be served where no batch is left, no key is shut and no name is blocked.
-- A node keeps nothing but questions, Locks and Blocks as items, and what asks for parts of listings
abbrev pub IsServable : Message → Type 0
IsServable (message.FetchAsk asker number key) = Unit {0}
IsServable (message.Call call) = ⊥
IsServable (message.Reply id reply) = ⊥
IsServable (message.Stale id old new changes) = ⊥
IsServable (message.Opened id dir) = ⊥
IsServable (message.ListAsk id version dir) = Unit {0}
IsServable (message.ListPart id node names) = ⊥
IsServable (message.FetchGot number key what) = ⊥
IsServable (message.Lock op keys) = Unit {0}
IsServable (message.Locked op node rows) = ⊥
IsServable (message.Count op dir) = ⊥
IsServable (message.Counted op node number) = ⊥
IsServable (message.Commit op updates) = ⊥
IsServable (message.Done op node) = ⊥
IsServable (message.Block op name) = Unit {0}
IsServable (message.Blocked op node rows) = ⊥
IsServable (message.Install op version rule rows) = ⊥
IsServable (message.Installed op node) = ⊥

abbrev pub AreServable : List Item → Type 0
AreServable items = Each (λ item. IsServable item.message) items

-- each holder of keys is a batch
abbrev pub AreOfBatches : NodeState → Type 0
AreOfBatches x = Each (λ (h : Holder). (b : Batch) × (IsIn b x.batches × (b.number ≡ h.number))) x.locks.holders

pub holders_same : (x y : NodeState) → y.batches ≡ x.batches → y.locks ≡ x.locks → AreOfBatches x → AreOfBatches y
holders_same x y batches locks h =
    subst (λ (t : LockTable). Each (λ (h : Holder). (b : Batch) × (IsIn b y.batches × (b.number ≡ h.number))) t.holders) (sym locks)
    (subst (λ bs. Each (λ (h : Holder). (b : Batch) × (IsIn b bs × (b.number ≡ h.number))) x.locks.holders) (sym batches) h)

pub record IsMoving (config : Config) (w : World) (came : ℕ → Bool) : Type 0 where
  pub few : config.nodes ≤ 16
  pub past : IsPast (length w.envelopes) came
  pub within : Each (λ (e : Envelope). IsActor config e.to) w.envelopes
  pub waits : (n : ℕ) → AreOnWay (posts_of w.envelopes) came (items_in w) n (w.nodes n).waiting.calls
  pub servable : (n : ℕ) → AreServable (w.nodes n).items
  pub beyond : (n : ℕ) → config.nodes ≤ n → is_quiet (w.nodes n) ≡ true
  pub holders : (n : ℕ) → AreOfBatches (w.nodes n)
  pub staged : IsStaged config.nodes (posts_of w.envelopes) came w.nodes w.coord

pub more_past : (xs ys : List Envelope) (came : ℕ → Bool) → IsPast (length xs) came → IsPast (length (xs ++ ys)) came
more_past xs ys came h k at = let l = length-append xs ys in h k (omega arith)

-- a client's event: records are sent, and what came may be more
pub client_moves : (config : Config) (w : World) (came later : ℕ → Bool) (l : ℕ) (c : ClientState) (from : Actor) (sent : List Output) (notes : List Note) → IsMoving config w came
    → IsPast (length w.envelopes) later → Each (λ (e : Envelope). IsActor config e.to) (envelopes_of from w.events (length w.commits) sent)
    → ((n f : ℕ) → IsOnWay (posts_of w.envelopes) came (items_in w) n f → IsOnWay (posts_of w.envelopes) later (items_in w) n f)
    → ((n : ℕ) → AreFreshStill (posts_of w.envelopes) (posts_of w.envelopes) came later n)
    → IsMoving config (posted config (record w { clients = put w.clients l c }) from sent notes) later
unfolding posted
client_moves config w came later l c from sent notes m past go ways fresh =
    let es = envelopes_of from w.events (length w.commits) sent in
    let old = posts_of w.envelopes in
    let more : posts_of (w.envelopes ++ es) ≡ old ++ posts_of es = map-append (λ e. post_of e) w.envelopes es in
    record {
      few = m.few;
      past = more_past w.envelopes es later past;
      within = each_join (λ (e : Envelope). IsActor config e.to) w.envelopes es m.within go;
      waits = λ n. subst (λ ps. AreOnWay ps later (items_in w) n (w.nodes n).waiting.calls) (sym (map-append (λ e. post_of e) w.envelopes es))
          (each_weaker _ _ (w.nodes n).waiting.calls (λ x h f is. way_more (posts_of w.envelopes) (posts_of es) later (items_in w) (items_in w) n f (λ i item at. at) (ways n f (h f is))) (m.waits n));
      servable = m.servable;
      beyond = m.beyond;
      holders = m.holders;
      staged = subst (λ ps. IsStaged config.nodes ps later w.nodes w.coord) (sym more) (record {
        walking = walking_kept w.coord.stage old (old ++ posts_of es) came later (items_in w) (items_in w) (λ f o. way_more old (posts_of es) later (items_in w) (items_in w) 255 f (λ i item at. at) (ways 255 f o)) m.staged.walking;
        named = m.staged.named;
        hearing = λ n is. hearing_kept old (old ++ posts_of es) came later w.coord.operation w.coord.stage n (w.nodes n) (w.nodes n) (still_more old old (posts_of es) came later n (fresh n)) refl refl refl (m.staged.hearing n is);
      });
    }

-- the records after a node's work
abbrev pub posts_after : World → Work → List Post
posts_after w k = posts_of w.envelopes ++ letter_posts (length w.commits) k.sent

abbrev pub items_after : World → ℕ → Work → ℕ → List Item
items_after w n k = items_with w.nodes n k.node

-- what is on the way for the coordinator stays so at this node, and at others
abbrev pub StaysHearing : World → (ℕ → Bool) → (ℕ → Bool) → ℕ → Work → Type 0
StaysHearing w came later n k = (m : ℕ) → IsHearing (posts_of w.envelopes) came w.coord.operation w.coord.stage m (w.nodes m)
    → IsHearing (posts_after w k) later w.coord.operation w.coord.stage m (put w.nodes n k.node m)

-- a node's event, by what it does here and to what is on the way elsewhere
pub node_moves : (config : Config) (w : World) (came later : ℕ → Bool) (n : ℕ) (k : Work) → n < config.nodes → All (λ (letter : Letter). Fits letter.message) k.sent → IsMoving config w came
    → IsPast (length w.envelopes) later → Each (λ (letter : Letter). IsActor config letter.to) k.sent
    → AreOnWay (posts_after w k) later (items_after w n k) n k.node.waiting.calls
    → ((m f : ℕ) → m ≢ n → IsOnWay (posts_of w.envelopes) came (items_in w) m f → IsOnWay (posts_after w k) later (items_after w n k) m f)
    → AreServable k.node.items → AreOfBatches k.node → StaysHearing w came later n k → IsMoving config (posted config (record w { nodes = put w.nodes n k.node }) (Node n) (map output_of k.sent) k.notes) later
unfolding posted
node_moves config w came later n k there fit m past go here others servable holders hearing =
    let es = envelopes_of (Node n) w.events (length w.commits) (map output_of k.sent) in
    let posts : posts_of (w.envelopes ++ es) ≡ posts_after w k = posts_sent (Node n) w.events (length w.commits) w.envelopes k.sent fit in
    let few = m.few in
    record {
      few = m.few;
      past = more_past w.envelopes es later past;
      within = each_join (λ (e : Envelope). IsActor config e.to) w.envelopes es m.within (letters_go config (Node n) w.events (length w.commits) k.sent go);
      waits = subst (λ ps. (i : ℕ) → AreOnWay ps later (items_after w n k) i (put w.nodes n k.node i).waiting.calls) (sym posts)
          (put_all (λ i x. AreOnWay (posts_after w k) later (items_after w n k) i x.waiting.calls) w.nodes n k.node here
          (λ i ne. each_weaker _ _ (w.nodes i).waiting.calls (λ x h f is. others i f ne (h f is)) (m.waits i)));
      servable = put_all (λ i x. AreServable x.items) w.nodes n k.node servable (λ i _. m.servable i);
      beyond = put_all (λ i x. config.nodes ≤ i → is_quiet x ≡ true) w.nodes n k.node (λ high. absurd (omega arith)) (λ i _. m.beyond i);
      holders = put_all (λ i x. AreOfBatches x) w.nodes n k.node holders (λ i _. m.holders i);
      staged = subst (λ ps. IsStaged config.nodes ps later (put w.nodes n k.node) w.coord) (sym posts) (record {
        walking = walking_kept w.coord.stage (posts_of w.envelopes) (posts_after w k) came later (items_in w) (items_after w n k) (λ f o. others 255 f (λ e. absurd (omega arith)) o) m.staged.walking;
        named = m.staged.named;
        hearing = λ i is. hearing i (m.staged.hearing i is);
      });
    }
