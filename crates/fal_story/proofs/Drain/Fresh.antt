-- A record that was sent and did not come.
use Rattle.std.proofs.Common.{◌≡◌, ⊎_elim, ℕ, Bool, true, false, List, ◌++◌, Some, sym, ap, ◌∙◌}
use Rattle.std.specs.Prelude.{slice_get}
use Rattle.std.proofs.lemmas.Option.{same_Some}
use Rattle.fal_base.specs.declared.event.Actor.{Actor}
use Rattle.fal_wire.specs.declared.message.Message.{Message}
use Rattle.fal_story.proofs.Lists.Grown.{tells, put_other, slice_get_front}
use Rattle.fal_story.proofs.View.{Post, IsPosted, post}
use Rattle.fal_story.specs.World.{put}

-- the message is on its way to the actor
abbrev pub IsFresh : List Post → (ℕ → Bool) → Actor → Message → Type 0
IsFresh posts came to m = (k : ℕ) × ((p : ℕ) × (IsPosted posts k to p m × (came k ≡ false)))

-- more records are sent
pub fresh_more : (posts more : List Post) (came : ℕ → Bool) (to : Actor) (m : Message) → IsFresh posts came to m → IsFresh (posts ++ more) came to m
fresh_more posts more came to m f = (f.0, (f.1.0, (slice_get_front posts more f.0 (post to f.1.0 m) f.1.1.0, f.1.1.1)))

-- a record comes: the message is on its way still, or it was the one that came
pub fresh_comes : (posts : List Post) (came : ℕ → Bool) (e : ℕ) (x : Post) (to : Actor) (m : Message) (R : Type 0) → slice_get posts e ≡ Some x
    → (IsFresh posts (put came e true) to m → R) → ((p : ℕ) → x ≡ post to p m → R) → IsFresh posts came to m → R
fresh_comes posts came e x to m R here still told f =
    ⊎_elim
    (λ s. told f.1.0 (same_Some x (post to f.1.0 m) (sym here ∙ ap (slice_get posts) (sym s.1) ∙ f.1.1.0)))
    (λ s. still (f.0, (f.1.0, (f.1.1.0, put_other came e true f.0 s.1 ∙ f.1.1.1))))
    (tells f.0 e)
