-- Lists of keys, in the order of their first use.
use Rattle.std.specs.Prelude.{Bool, true, not, ◌&&◌, List, [], ◌∷◌, ◌++◌, fold, if◌then◌else◌}
use Rattle.fal_base.specs.declared.key.Key.{Key}
use Rattle.fal_dentry.specs.Walk.{is_among}

-- the keys with this one, once
abbrev pub with_key : List Key → Key → List Key
with_key keys key = if is_among key keys then keys else keys ++ key ∷ []

-- the keys with each of the others, once
abbrev pub with_keys : List Key → List Key → List Key
with_keys keys others = fold with_key keys others

-- whether no key comes twice
abbrev pub are_distinct : List Key → Bool
are_distinct [] = true
are_distinct (key ∷ keys) = not (is_among key keys) && are_distinct keys
