-- The letters of an event are records that did not come.
use Rattle.std.proofs.Common.{◌≡◌, ℕ, suc, ◌+◌, ◌≤◌, Bool, false, List, [], ◌∷◌, ◌++◌, length, Some, refl, ap, subst, arith}
use Rattle.std.specs.Prelude.{slice_get}
use Rattle.fal_base.specs.declared.event.Envelope.{Envelope}
use Rattle.fal_wire.specs.declared.letter.Letter.{Letter}
use Rattle.fal_story.proofs.Drain.Fresh.{IsFresh}
use Rattle.fal_story.proofs.Events.InStep.{letter_posts, letter_post}
use Rattle.fal_story.proofs.Events.Shows.{posts_of}
use Rattle.fal_story.proofs.Lists.Members.{IsIn, in_map, at_in}
use Rattle.fal_story.proofs.View.{seat}
use Rattle.fal_story.specs.World.{point_of}

pub posts_long : (xs : List Envelope) → length (posts_of xs) ≡ length xs
posts_long [] = refl
posts_long (x ∷ xs) = ap suc (posts_long xs)

-- what stands in the second of two lists
pub slice_get_back : {A : Type 0} (xs ys : List A) (j : ℕ) (y : A) → slice_get ys j ≡ Some y → slice_get (xs ++ ys) (length xs + j) ≡ Some y
slice_get_back [] ys j y at = subst (λ i. slice_get ys i ≡ Some y) (nothing j) at
  where
    nothing : (j : ℕ) → j ≡ 0 + j
    nothing j = omega arith
slice_get_back (x ∷ xs) ys j y at = subst (λ i. slice_get (x ∷ xs ++ ys) i ≡ Some y) (more (length xs) j) (slice_get_back xs ys j y at)
  where
    more : (a j : ℕ) → suc (a + j) ≡ suc a + j
    more a j = omega arith

-- each letter that was sent is on its way
pub letter_fresh : (xs : List Envelope) (came : ℕ → Bool) (commits : ℕ) (sent : List Letter) (l : Letter) → ((i : ℕ) → length xs ≤ i → came i ≡ false) → IsIn l sent
    → IsFresh (posts_of xs ++ letter_posts commits sent) came (seat l.to) l.message
letter_fresh xs came commits sent l past at =
    let there = at_in (letter_posts commits sent) (letter_post commits l) (in_map (λ (y : Letter). letter_post commits y) sent l at) in
    let long = posts_long xs in
    let i : ℕ = length (posts_of xs) + there.0 in
    (i, (point_of commits l.point, (slice_get_back (posts_of xs) (letter_posts commits sent) there.0 (letter_post commits l) there.1, past i (omega arith))))
