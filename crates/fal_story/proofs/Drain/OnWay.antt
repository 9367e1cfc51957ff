-- What brings a fetch nearer: its question on the way, or kept by a node as an item, or the answer on the way.
use Rattle.std.proofs.Common.{◌≡◌, ⊎_elim, ℕ, Bool, true, false, List, ◌++◌, Some, sym, ap, ◌∙◌}
use Rattle.std.specs.Prelude.{slice_get}
use Rattle.std.proofs.lemmas.Option.{same_Some}
use Rattle.fal_base.specs.declared.event.Actor.TheVariants.{Node}
use Rattle.fal_base.specs.declared.key.Key.{Key}
use Rattle.fal_node.specs.declared.item.Item.{Item}
use Rattle.fal_node.specs.State.{NodeState}
use Rattle.fal_wait.specs.declared.waiting_call.WaitingCall.{WaitingCall}
use Rattle.fal_wire.specs.declared.message.Found.{Found}
use Rattle.fal_wire.specs.declared.message.Message.TheVariants as message
use Rattle.fal_story.proofs.Lists.Each.{Each}
use Rattle.fal_story.proofs.Lists.Grown.{tells, put_all, put_other, slice_get_front}
use Rattle.fal_story.proofs.Lists.Members.{IsIn}
use Rattle.fal_story.proofs.View.{Post, IsPosted, post}
use Rattle.fal_story.specs.World.{put}

-- fetch f of node n is on the way
pub data IsOnWay (posts : List Post) (came : ℕ → Bool) (items : ℕ → List Item) (n f : ℕ) : Type 0 where
  Asks : (k p to : ℕ) (key : Key) → IsPosted posts k (Node to) p (message.FetchAsk n f key) → came k ≡ false → IsOnWay posts came items n f
  Keeps : (m : ℕ) (item : Item) (key : Key) → IsIn item (items m) → item.message ≡ message.FetchAsk n f key → IsOnWay posts came items n f
  Gets : (k p : ℕ) (key : Key) (what : Found) → IsPosted posts k (Node n) p (message.FetchGot f key what) → came k ≡ false → IsOnWay posts came items n f

-- each call that waits on a fetch has something on the way
abbrev pub AreOnWay : List Post → (ℕ → Bool) → (ℕ → List Item) → ℕ → List WaitingCall → Type 0
AreOnWay posts came items n calls = Each (λ w. (f : ℕ) → w.fetch ≡ Some f → IsOnWay posts came items n f) calls

-- the items of nodes, of which one has changed
abbrev pub items_with : (ℕ → NodeState) → ℕ → NodeState → ℕ → List Item
items_with nodes n x m = (put nodes n x m).items

-- more records are sent, and no item is gone
pub way_more : (posts more : List Post) (came : ℕ → Bool) (items items' : ℕ → List Item) (n f : ℕ) → ((m : ℕ) (item : Item) → IsIn item (items m) → IsIn item (items' m))
    → IsOnWay posts came items n f → IsOnWay (posts ++ more) came items' n f
way_more posts more came items items' n f kept (Asks k p to key at fresh) = Asks k p to key (slice_get_front posts more k _ at) fresh
way_more posts more came items items' n f kept (Keeps m item key at is) = Keeps m item key (kept m item at) is
way_more posts more came items items' n f kept (Gets k p key what at fresh) = Gets k p key what (slice_get_front posts more k _ at) fresh

pub items_stay : (nodes : ℕ → NodeState) (n : ℕ) (x : NodeState) → ((item : Item) → IsIn item (nodes n).items → IsIn item x.items) → (m : ℕ) (item : Item) → IsIn item (nodes m).items → IsIn item (items_with nodes n x m)
items_stay nodes n x kept m item = put_all (λ i y. IsIn item (nodes i).items → IsIn item y.items) nodes n x (kept item) (λ i _ at. at) m

-- a record comes: what is on the way is so still, or it was the one that came
pub way_comes : (posts : List Post) (came : ℕ → Bool) (items : ℕ → List Item) (e : ℕ) (x : Post) (n f : ℕ) (R : Type 0) → slice_get posts e ≡ Some x
    → (IsOnWay posts (put came e true) items n f → R)
    → ((p to : ℕ) (key : Key) → x ≡ post (Node to) p (message.FetchAsk n f key) → R)
    → ((p : ℕ) (key : Key) (what : Found) → x ≡ post (Node n) p (message.FetchGot f key what) → R)
    → IsOnWay posts came items n f → R
way_comes posts came items e x n f R here still asked told (Asks k p to key at fresh) =
    ⊎_elim
    (λ s. asked p to key (same_Some x (post (Node to) p (message.FetchAsk n f key)) (sym here ∙ ap (slice_get posts) (sym s.1) ∙ at)))
    (λ s. still (Asks k p to key at (put_other came e true k s.1 ∙ fresh)))
    (tells k e)
way_comes posts came items e x n f R here still asked told (Keeps m item key at is) = still (Keeps m item key at is)
way_comes posts came items e x n f R here still asked told (Gets k p key what at fresh) =
    ⊎_elim
    (λ s. told p key what (same_Some x (post (Node n) p (message.FetchGot f key what)) (sym here ∙ ap (slice_get posts) (sym s.1) ∙ at)))
    (λ s. still (Gets k p key what at (put_other came e true k s.1 ∙ fresh)))
    (tells k e)
