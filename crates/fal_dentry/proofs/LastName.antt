-- The last of some names.
use Rattle.std.proofs.Common.{◌≡◌, ℕ, suc, ◌-◌, List, [], ◌∷◌, length, slice_get, Option, refl, ap, sym, ◌∙◌, arith}
use Rattle.std.specs.Option.{unwrap_or}
use Rattle.fal_dentry.specs.TreeWalk.{last_name}

last_from : (name : List ℕ) (names : List (List ℕ)) → last_name (name ∷ names) ≡ unwrap_or (slice_get (name ∷ names) (length names)) []
last_from name [] = refl
last_from name (next ∷ names) = last_from next names

last_at : (names : List (List ℕ)) → last_name names ≡ unwrap_or (slice_get names (length names - 1)) []
last_at [] = refl
last_at (name ∷ names) =
    let back : length names ≡ suc (length names) - 1 = omega arith in
    last_from name names ∙ ap (λ n. unwrap_or (slice_get (name ∷ names) n) []) back

pub last_is : (names : List (List ℕ)) (last : Option (List ℕ)) → last ≡ slice_get names (length names - 1) → last_name names ≡ unwrap_or last []
last_is names last is = last_at names ∙ ap (λ o. unwrap_or o []) (sym is)
