-- What brings nearer the part of a node that a client asks for: the question on its way or kept as an item, the part on its way, or a later
-- table by which the client asks anew.
use Rattle.std.proofs.Common.{◌≡◌, ◌≢◌, ⊎_elim, ℕ, zero, suc, ◌+◌, ◌<◌, Bool, true, false, List, [], ◌∷◌, ◌++◌, length, Option, Some, None, refl, sym, ap, ◌∙◌, arith}
use Rattle.std.specs.Prelude.{slice_get, slice_set}
use Rattle.std.proofs.lemmas.List.Sums.{sum_by-cons}
use Rattle.std.proofs.lemmas.Option.{same_Some}
use Rattle.fal_base.specs.declared.call.CallId.{CallId}
use Rattle.fal_base.specs.declared.call.Config.{Config}
use Rattle.fal_base.specs.declared.event.Actor.TheVariants.{Client, Node}
use Rattle.fal_base.specs.declared.rule.RuleChange.{RuleChange}
use Rattle.fal_client.specs.declared.current.Current.{Current}
use Rattle.fal_client.specs.declared.current.Listing.{Listing}
use Rattle.fal_client.specs.declared.parts.Part.{Part}
use Rattle.fal_client.specs.Parts.{is_missing, missing_count}
use Rattle.fal_client.specs.State.{ClientState}
use Rattle.fal_client.specs.Step.{id_at}
use Rattle.fal_node.specs.declared.item.Item.{Item}
use Rattle.fal_wire.specs.declared.message.Message.TheVariants as message
use Rattle.fal_story.proofs.Drain.Moving.{items_in}
use Rattle.fal_story.proofs.Events.Shows.{posts_of}
use Rattle.fal_story.proofs.Lists.Grown.{tells, put_other, slice_get_front}
use Rattle.fal_story.proofs.Lists.Members.{IsIn}
use Rattle.fal_story.proofs.View.{Post, IsPosted, post}
use Rattle.fal_story.specs.World.{World, put}

-- the part of this node for the attempt is on the way
pub data IsPartOnWay (posts : List Post) (came : ℕ → Bool) (items : ℕ → List Item) (id : CallId) (n : ℕ) : Type 0 where
  Asks : (k p version dir : ℕ) → IsPosted posts k (Node n) p (message.ListAsk id version dir) → came k ≡ false → IsPartOnWay posts came items id n
  Keeps : (item : Item) (version dir : ℕ) → IsIn item (items n) → item.message ≡ message.ListAsk id version dir → IsPartOnWay posts came items id n
  Tells : (k p : ℕ) (names : List (List ℕ)) → IsPosted posts k (Client id.client) p (message.ListPart id n names) → came k ≡ false → IsPartOnWay posts came items id n
  Renews : (k p old new : ℕ) (changes : List RuleChange) → IsPosted posts k (Client id.client) p (message.Stale id old new changes) → came k ≡ false → IsPartOnWay posts came items id n

-- of each node whose part is missing it is
abbrev pub ArePartsOnWay : ℕ → List Post → (ℕ → Bool) → (ℕ → List Item) → ℕ → ClientState → Type 0
ArePartsOnWay nodes posts came items l c =
    (current : Current) (listing : Listing) (n : ℕ) → c.current ≡ Some current → current.listing ≡ Some listing → n < nodes → is_missing listing.parts n ≡ true → IsPartOnWay posts came items (id_at l c.seq current.attempt) n

abbrev pub AreAsked : Config → World → (ℕ → Bool) → Type 0
AreAsked config w came = (l : ℕ) → ArePartsOnWay config.nodes (posts_of w.envelopes) came (items_in w) l (w.clients l)

-- more records are sent, and no item is gone
pub part_more : (posts more : List Post) (came : ℕ → Bool) (items items' : ℕ → List Item) (id : CallId) (n : ℕ) → ((item : Item) → IsIn item (items n) → IsIn item (items' n))
    → IsPartOnWay posts came items id n → IsPartOnWay (posts ++ more) came items' id n
part_more posts more came items items' id n kept (Asks k p version dir at fresh) = Asks k p version dir (slice_get_front posts more k _ at) fresh
part_more posts more came items items' id n kept (Keeps item version dir at is) = Keeps item version dir (kept item at) is
part_more posts more came items items' id n kept (Tells k p names at fresh) = Tells k p names (slice_get_front posts more k _ at) fresh
part_more posts more came items items' id n kept (Renews k p old new changes at fresh) = Renews k p old new changes (slice_get_front posts more k _ at) fresh

-- a record comes: the part is on the way still, or it was the one that came
pub part_comes : (posts : List Post) (came : ℕ → Bool) (items : ℕ → List Item) (e : ℕ) (x : Post) (id : CallId) (n : ℕ) (R : Type 0) → slice_get posts e ≡ Some x
    → (IsPartOnWay posts (put came e true) items id n → R)
    → ((p version dir : ℕ) → x ≡ post (Node n) p (message.ListAsk id version dir) → R)
    → ((p : ℕ) (names : List (List ℕ)) → x ≡ post (Client id.client) p (message.ListPart id n names) → R)
    → ((p old new : ℕ) (changes : List RuleChange) → x ≡ post (Client id.client) p (message.Stale id old new changes) → R)
    → IsPartOnWay posts came items id n → R
part_comes posts came items e x id n R here still asked told renewed (Asks k p version dir at fresh) =
    ⊎_elim
    (λ s. asked p version dir (same_Some x (post (Node n) p (message.ListAsk id version dir)) (sym here ∙ ap (slice_get posts) (sym s.1) ∙ at)))
    (λ s. still (Asks k p version dir at (put_other came e true k s.1 ∙ fresh)))
    (tells k e)
part_comes posts came items e x id n R here still asked told renewed (Keeps item version dir at is) = still (Keeps item version dir at is)
part_comes posts came items e x id n R here still asked told renewed (Tells k p names at fresh) =
    ⊎_elim
    (λ s. told p names (same_Some x (post (Client id.client) p (message.ListPart id n names)) (sym here ∙ ap (slice_get posts) (sym s.1) ∙ at)))
    (λ s. still (Tells k p names at (put_other came e true k s.1 ∙ fresh)))
    (tells k e)
part_comes posts came items e x id n R here still asked told renewed (Renews k p old new changes at fresh) =
    ⊎_elim
    (λ s. renewed p old new changes (same_Some x (post (Client id.client) p (message.Stale id old new changes)) (sym here ∙ ap (slice_get posts) (sym s.1) ∙ at)))
    (λ s. still (Renews k p old new changes at (put_other came e true k s.1 ∙ fresh)))
    (tells k e)

-- ---- parts

-- where parts are missing, that of some node is
pub some_missing : (parts : List (Option Part)) → 0 < missing_count parts → (n : ℕ) × ((n < length parts) × (is_missing parts n ≡ true))
some_missing [] some = absurd (omega arith)
some_missing (None ∷ parts) some = (0, (omega arith, refl))
some_missing (Some part ∷ parts) some =
    let count : missing_count (Some part ∷ parts) ≡ 0 + missing_count parts = sum_by-cons _ (Some part) parts in
    let x = some_missing parts (omega arith) in
    let below = x.1.0 in
    (suc x.0, (omega arith, x.1.1))

-- what is missing after a part has come is another node's, and was missing
pub missing_other : (parts : List (Option Part)) (node n : ℕ) (part : Part) → is_missing (slice_set parts node (Some part)) n ≡ true → is_missing parts node ≡ true → (n ≢ node) × (is_missing parts n ≡ true)
missing_other [] node n part is was = absurd (cc)
missing_other (y ∷ parts) zero zero part is was = absurd (cc)
missing_other (y ∷ parts) zero (suc n) part is was = ((λ e. absurd (cc)), is)
missing_other (y ∷ parts) (suc node) zero part is was = ((λ e. absurd (cc)), is)
missing_other (y ∷ parts) (suc node) (suc n) part is was = let x = missing_other parts node n part is was in ((λ e. x.0 (down n node e)), x.1)
  where
    down : (a b : ℕ) → suc a ≡ suc b → a ≡ b
    down a b e = omega arith
