-- What holds of each of some keys.
use Rattle.std.proofs.Common.{◌≡◌, true, false, ◌||◌, List, [], ◌∷◌, refl, subst}
use Rattle.std.specs.List.{All}
use Rattle.std.proofs.lemmas.List.Elements.{All-head, All-tail}
use Rattle.fal_base.proofs.Maps.{same_key_is}
use Rattle.fal_base.specs.declared.key.Key.{Key}
use Rattle.fal_base.specs.Tree.{same_key}
use Rattle.fal_dentry.specs.Walk.{is_among}

-- it holds of one that is among them
pub all_among : (P : Key → Type 0) (keys : List Key) (key : Key) → All P keys → is_among key keys ≡ true → P key
all_among P [] key all among = absurd (cc)
all_among P (k ∷ keys) key all among =
    elim (same_key k key) as (λ b. same_key k key ≡ b → (b || is_among key keys) ≡ true → P key) [
      | true ↦ λ same _. subst P ((same_key_is k key).0 same) (All-head P k keys all)
      | false ↦ λ apart among. all_among P keys key (All-tail P k keys all) among
    ] refl among
