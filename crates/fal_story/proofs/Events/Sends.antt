-- A letter is sent in a step under way, and lists without the first item that passes a test.
use Rattle.std.proofs.Common.{◌≡◌, ℕ, Bool, true, false, cond, List, [], ◌∷◌, ◌++◌, length, Some, sym, ap, subst, ◌∙◌, append_assoc}
use Rattle.std.specs.List.{find}
use Rattle.std.proofs.lemmas.List.{map-append}
use Rattle.fal_base.specs.declared.call.Config.{Config}
use Rattle.fal_run.specs.declared.call.BatchCall.{BatchCall}
use Rattle.fal_wire.specs.declared.letter.Letter.{Letter}
use Rattle.fal_node.specs.Letters.{Work}
use Rattle.fal_wait.specs.declared.waiting_call.WaitingCall.{WaitingCall}
use Rattle.fal_wait.specs.Lists.{without_first}
use Rattle.fal_story.proofs.Events.InStep.{InStep, view_in, letter_post, letter_posts, sent_more}
use Rattle.fal_story.proofs.Events.Shows.{Ghost, AreSent, posts_of}
use Rattle.fal_story.proofs.Good.{Good}
use Rattle.fal_story.proofs.Lists.Each.{Each}
use Rattle.fal_story.proofs.Steps.Posted.{IsFine, posted_good}
use Rattle.fal_story.proofs.View.{Post, seat}
use Rattle.fal_story.specs.World.{World, point_of}

-- the posts of the letters so far, and of one more
pub posts_push : (commits : ℕ) (posts : List Post) (letters : List Letter) (letter : Letter)
    → (posts ++ letter_posts commits letters) ++ letter_post commits letter ∷ [] ≡ posts ++ letter_posts commits (letters ++ letter ∷ [])
posts_push commits posts letters letter =
    append_assoc posts (letter_posts commits letters) (letter_post commits letter ∷ [])
    ∙ ap (λ more. posts ++ more) (sym (map-append (λ l. letter_post commits l) letters (letter ∷ [])))

-- one more letter, which is fine
pub sends : (config : Config) (w : World) (n : ℕ) (k : Work) (h : Ghost) (ws : List WaitingCall) (ps : List BatchCall) (letter : Letter)
    → IsFine config (view_in config w n k h) (seat letter.to) (point_of (length w.commits) letter.point) letter.message → InStep config w n k h ws ps
    → InStep config w n (record k { sent = k.sent ++ letter ∷ [] }) h ws ps
sends config w n k h ws ps letter fine s =
    record {
      good = subst (Good config) same (posted_good config (view_in config w n k h) (seat letter.to) (point_of (length w.commits) letter.point) letter.message fine s.good);
      here = s.here;
      others = s.others;
      items = subst (λ posts. AreSent posts n k.node.items) (posts_push (length w.commits) (posts_of w.envelopes) k.sent letter)
          (sent_more (posts_of w.envelopes ++ letter_posts (length w.commits) k.sent) (letter_post (length w.commits) letter ∷ []) n k.node.items s.items);
      others_items = s.others_items;
      heard = s.heard;
      kept = s.kept;
      placed = s.placed;
      others_placed = s.others_placed;
    }
  where
    same : record (view_in config w n k h) { posts = (posts_of w.envelopes ++ letter_posts (length w.commits) k.sent) ++ letter_post (length w.commits) letter ∷ [] }
        ≡ view_in config w n (record k { sent = k.sent ++ letter ∷ [] }) h
    same = λ i. record (view_in config w n k h) { posts = posts_push (length w.commits) (posts_of w.envelopes) k.sent letter i }

pub same_item : {A : Type 0} (a b : A) → Some a ≡ Some b → a ≡ b
same_item a b e = cc

-- what holds of each item holds of the one that was found
pub each_found : {A : Type 0} (P : A → Type 0) (test : A → Bool) (xs : List A) (x : A) → Each P xs → find test xs ≡ Some x → P x
each_found P test [] x each is = absurd (cc)
each_found P test (y ∷ ys) x each is =
    elim (test y) as (λ b. cond b (Some y) (find test ys) ≡ Some x → P x) [
      | true ↦ λ e. subst P (same_item y x e) each.0
      | false ↦ λ e. each_found P test ys x each.1 e
    ] is

-- and of the others
pub each_without_first : {A : Type 0} (P : A → Type 0) (test : A → Bool) (xs : List A) → Each P xs → Each P (without_first test xs)
each_without_first P test [] each = tt
each_without_first P test (y ∷ ys) each =
    elim (test y) as (λ b. Each P (cond b ys (y ∷ without_first test ys))) [
      | true ↦ each.1
      | false ↦ (each.0, each_without_first P test ys each.1)
    ]
