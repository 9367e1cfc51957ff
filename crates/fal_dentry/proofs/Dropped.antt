-- Keys that are dropped one after another.
use Rattle.std.proofs.Common.{◌≡◌, true, false, not, ◌||◌, List, [], ◌∷◌, length, cond, refl, ap, arith}
use Rattle.fal_base.specs.declared.key.Key.{Key}
use Rattle.fal_base.specs.Tree.{same_key}
use Rattle.fal_base.specs.Maps.{without_key}
use Rattle.fal_dentry.specs.Walk.{Dentries, is_among, without_keys}

drop_none : (es : Dentries) → without_keys es [] ≡ es
drop_none [] = refl
drop_none (e ∷ es) = ap (λ rest. e ∷ rest) (drop_none es)

pub drop_no_more : (es : Dentries) (keys : List Key) → length keys ≡ 0 → without_keys es keys ≡ es
drop_no_more es [] none = drop_none es
drop_no_more es (key ∷ keys) none = absurd (omega arith)

pub drop_one : (es : Dentries) (key : Key) (keys : List Key) → without_keys (without_key es key) keys ≡ without_keys es (key ∷ keys)
drop_one [] key keys = refl
drop_one (e ∷ es) key keys =
    let rest = drop_one es key keys in
    elim (same_key key e.0) as (λ b. without_keys (cond (not b) (e ∷ without_key es key) (without_key es key)) keys ≡ cond (not (b || is_among e.0 keys)) (e ∷ without_keys es (key ∷ keys)) (without_keys es (key ∷ keys))) [
      | true ↦ rest
      | false ↦ ap (λ others. cond (not (is_among e.0 keys)) (e ∷ others) others) rest
    ]
