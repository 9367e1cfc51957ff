-- The walks of an operation with several paths, one after the other: where they come to a key, and by which keys.
use Rattle.std.proofs.Common.{◌≡◌, ℕ, Bool, true, false, ◌||◌, ◌&&◌, List, [], ◌∷◌, ◌++◌, if◌then◌else◌, refl, ap, ◌∙◌}
use Rattle.std.specs.List.{All}
use Rattle.std.proofs.lemmas.List.Elements.{All-head, All-tail, All-cons, All-nil}
use Rattle.fal_base.specs.declared.call.Cred.{Cred}
use Rattle.fal_base.specs.declared.key.Key.{Key}
use Rattle.fal_base.specs.Tree.{Tree}
use Rattle.fal_base.specs.Walk.{Walked, Stop, Ready, walk}
use Rattle.fal_dentry.specs.TreeWalk.{way}
use Rattle.fal_dentry.specs.Walk.{is_among}
use Rattle.fal_story.proofs.Trees.Standing.{is_ready, reaches}
use Rattle.fal_story.proofs.Trees.Changed.{IsChanged, IsEnded, up_to, reach_kept, walk_kept, way_kept}

-- the keys up to there
abbrev pub ways_to : Tree → Cred → List (List (List ℕ)) → Key → List Key
ways_to t cred [] key = []
ways_to t cred (p ∷ ps) key = if is_among key (way t cred p) then up_to key (way t cred p) else way t cred p ++ ways_to t cred ps key

front_all : {X : Type 0} (P : X → Type 0) (xs ys : List X) → All P (xs ++ ys) → All P xs
front_all P [] ys all = All-nil P
front_all P (x ∷ xs) ys all = All-cons P x xs (All-head P x _ all) (front_all P xs ys (All-tail P x _ all))

back_all : {X : Type 0} (P : X → Type 0) (xs ys : List X) → All P (xs ++ ys) → All P ys
back_all P [] ys all = all
back_all P (x ∷ xs) ys all = back_all P xs ys (All-tail P x _ all)

ready_ended : (w : Walked) → is_ready w ≡ true → IsEnded w
ready_ended (Stop errno) is = absurd (cc)
ready_ended (Ready parent passed last) is = tt

both_true : (a b : Bool) → (a && b) ≡ true → (a ≡ true) × (b ≡ true)
both_true true b is = (refl, is)
both_true false b is = absurd (cc)

module _ (t u : Tree) (Safe : Key → Type 0) (cred : Cred) (changed : IsChanged t u Safe) (key : Key) where
  -- what the walks come to, they come to after the change, by the same keys
  pub paths_kept : (ps : List (List (List ℕ))) → All Safe (ways_to t cred ps key) → reaches t cred ps key ≡ true → (reaches u cred ps key ≡ true) × (ways_to u cred ps key ≡ ways_to t cred ps key)
  paths_kept [] safe is = absurd (cc)
  paths_kept (p ∷ ps) safe is =
      elim (is_among key (way t cred p)) as (λ b. is_among key (way t cred p) ≡ b → All Safe (if b then up_to key (way t cred p) else way t cred p ++ ways_to t cred ps key) → (b || (is_ready (walk t cred p) && reaches t cred ps key)) ≡ true
      → (reaches u cred (p ∷ ps) key ≡ true) × (ways_to u cred (p ∷ ps) key ≡ (if b then up_to key (way t cred p) else way t cred p ++ ways_to t cred ps key))) [
        | true ↦ λ here safe is. let z = reach_kept t u Safe cred changed p key safe here in (
          ap (λ b. b || (is_ready (walk u cred p) && reaches u cred ps key)) z.0,
          ap (λ b. if b then up_to key (way u cred p) else way u cred p ++ ways_to u cred ps key) z.0 ∙ z.1,
        )
        | false ↦ λ gone safe is.
            let ready = both_true _ _ is in
            let front = front_all Safe (way t cred p) _ safe in
            let ended = ready_ended (walk t cred p) ready.0 in
            let same_walk = walk_kept t u Safe cred changed p front ended in
            let same_way = way_kept t u Safe cred changed p front ended in
            let rest = paths_kept ps (back_all Safe (way t cred p) _ safe) ready.1 in
            let off : is_among key (way u cred p) ≡ false = ap (is_among key) same_way ∙ gone in (
              ap (λ b. b || (is_ready (walk u cred p) && reaches u cred ps key)) off ∙ ap (λ w. is_ready w && reaches u cred ps key) same_walk ∙ ap (λ b. b && reaches u cred ps key) ready.0 ∙ rest.0,
              ap (λ b. if b then up_to key (way u cred p) else way u cred p ++ ways_to u cred ps key) off ∙ ap (λ ks. ks ++ ways_to u cred ps key) same_way ∙ ap (λ ks. way t cred p ++ ks) rest.1,
            )
      ] refl safe is
