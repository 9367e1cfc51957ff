-- Lists of events that grow item by item, and the first events of two lists.
use Rattle.std.proofs.Common.{◌≡◌, ℕ, zero, suc, ◌+◌, ◌<◌, ◌≤◌, nat_lt, true, ◌&&◌, Option, is_some, is_none, List, [], ◌∷◌, ◌++◌, length, map, take, Some, None, refl, sym, ap, ◌∙◌, arith, append_assoc}
use Rattle.std.specs.Prelude.{slice_get}
use Rattle.std.proofs.lemmas.List.{length_push}
use Rattle.std.proofs.lemmas.Bool.Decides.{nat_tests}
use Rattle.std.proofs.lemmas.Option.{slice_get_within}
use Rattle.fal_base.specs.declared.call.Call.{Call}
use Rattle.fal_client.specs.declared.current.Current.{Current}
use Rattle.fal_client.specs.declared.event.ClientEvent.TheVariants as client
use Rattle.fal_client.specs.State.{ClientState}
use Rattle.fal_client.specs.Step.{client_step, sent_next}
use Rattle.fal_node.specs.Patch.{SeenNode}
use Rattle.fal_alone.specs.Queues.{QueueSeen}
use Rattle.fal_alone.specs.Shown.{all_lane_events, all_node_events}

-- ---- the first of two lists

-- the first of a list is the first of that list with more after it
pub first_front : {A : Type 0} (xs ys : List A) (x : A) → Some x ≡ slice_get xs 0 → Some x ≡ slice_get (xs ++ ys) 0
first_front [] ys x e = absurd (cc)
first_front (y ∷ xs) ys x e = e

-- where there is no first, the first of what follows is the first of both
pub first_back : {A : Type 0} (xs ys : List A) → None ≡ slice_get xs 0 → slice_get (xs ++ ys) 0 ≡ slice_get ys 0
first_back [] ys e = refl
first_back (y ∷ xs) ys e = absurd (cc)

-- ---- one event for each item

-- so many items have their events at the end
pub record ArePushed {A B : Type 0} (f : A → B) (xs : List A) (old events : List B) (count : ℕ) : Type 0 where
  pub so_far : events ≡ old ++ map f (take count xs)
  pub few : count ≤ length events
  pub within : count ≤ length xs

made_more : {A B : Type 0} (f : A → B) (xs : List A) (k : ℕ) (x : A) → slice_get xs k ≡ Some x → map f (take (k + 1) xs) ≡ map f (take k xs) ++ f x ∷ []
made_more f [] k x e = absurd (cc)
made_more f (y ∷ xs) zero x e = let same : y ≡ x = cc in ap (λ z. f z ∷ []) same
made_more f (y ∷ xs) (suc k) x e =
    let s : suc k + 1 ≡ suc (k + 1) = omega arith in ap (λ n. map f (take n (y ∷ xs))) s ∙ ap (λ ys. f y ∷ ys) (made_more f xs k x e)

all_made : {A B : Type 0} (f : A → B) (xs : List A) (k : ℕ) → slice_get xs k ≡ None → map f (take k xs) ≡ map f xs
all_made f [] zero e = refl
all_made f [] (suc k) e = refl
all_made f (x ∷ xs) zero e = absurd (cc)
all_made f (x ∷ xs) (suc k) e = ap (λ ys. f x ∷ ys) (all_made f xs k e)

-- one item more
pub push_more : {A B : Type 0} (f : A → B) (xs : List A) (old before after : List B) (count : ℕ) (x : A) → ArePushed f xs old before count → slice_get xs count ≡ Some x → after ≡ before ++ f x ∷ []
    → ArePushed f xs old after (count + 1)
push_more f xs old before after count x p at is =
    let few = p.few in
    let longer : length after ≡ length before + 1 = ap length is ∙ length_push before (f x) in
    let below : count < length xs = slice_get_within xs count x at in
    record {
      so_far = is ∙ ap (λ es. es ++ f x ∷ []) p.so_far ∙ append_assoc old (map f (take count xs)) (f x ∷ []) ∙ ap (λ es. old ++ es) (sym (made_more f xs count x at));
      few = omega arith;
      within = omega arith;
    }

-- no item is left
pub push_ends : {A B : Type 0} (f : A → B) (xs : List A) (old events : List B) (count : ℕ) → ArePushed f xs old events count → slice_get xs count ≡ None → events ≡ old ++ map f xs
push_ends f xs old events count p none = p.so_far ∙ ap (λ ys. old ++ ys) (all_made f xs count none)

-- ---- Sends

-- a client has a Send exactly where no call is under way and one is left
pub can_send : (c : ClientState) → (is_none c.current && nat_lt 0 (length c.left)) ≡ is_some (client_step c client.Send)
unfolding client_step sent_next
can_send c = by_parts c.current c.left
  where
    by_parts : (current : Option Current) (left : List Call) → (is_none current && nat_lt 0 (length left)) ≡ is_some (sent_next c current (slice_get left 0))
    by_parts (Some current) left = refl
    by_parts None [] = refl
    by_parts None (call ∷ left) = let some : nat_lt 0 (suc (length left)) ≡ true = grind (arith, nat_tests) in some

-- ---- no actor is left

-- with no client left, no lane has an event
pub no_lane : (lane : ℕ) (queues : List QueueSeen) (clients : List ClientState) → length clients ≡ 0 → all_lane_events lane queues clients ≡ []
no_lane lane [] clients e = refl
no_lane lane (queue ∷ queues) [] e = refl
no_lane lane (queue ∷ queues) (c ∷ clients) e = absurd (omega arith)

-- with no node left, no node has an event
pub no_node : (number : ℕ) (queues : List QueueSeen) (nodes : List SeenNode) → length nodes ≡ 0 → all_node_events number queues nodes ≡ []
no_node number [] nodes e = refl
no_node number (queue ∷ queues) [] e = refl
no_node number (queue ∷ queues) (n ∷ nodes) e = absurd (omega arith)
