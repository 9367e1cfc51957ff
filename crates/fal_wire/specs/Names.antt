-- Names, keys and paths.
use Rattle.std.specs.Prelude.{ℕ, Bool, not, ◌&&◌, true, List, [], length, Option, Some, None, nat_le, ◌==◌, if◌then◌else◌}
use Rattle.std.specs.Ordering.{nat_cmp, is_lt}
use Rattle.std.specs.Cmp.Lexicographic.{slice_cmp}
use Rattle.fal_base.specs.Names.{is_name}
use Rattle.fal_base.specs.Paths.{path_bytes}
use Rattle.fal_base.specs.declared.key.Key.{Key}
use Rattle.fal_base.specs.declared.path.PathArg.{PathArg}
use Rattle.fal_base.specs.declared.path.PathArg.TheVariants.{Good, Bad}
use Rattle.fal_wire.specs.Format.{Format, number, text, judged, ◌▷◌, shaped, made, counted}

unfoldable pub name_field : Format (List ℕ)
name_field = judged text is_name

-- whether the bytes are the name in a key: none exactly under parent 0
unfoldable pub is_key_name : ℕ → List ℕ → Bool
is_key_name parent bytes = if length bytes == 0 then parent == 0 else not (parent == 0) && is_name bytes

unfoldable pub key_name_field : ℕ → Format (List ℕ)
key_name_field parent = judged text (is_key_name parent)

-- the parent's number, and the name
unfoldable pub key_field : Format Key
key_field = shaped (λ k. (k.parent, k.name)) (λ f. record { parent = f.0; name = f.1 }) (number 8 ▷ key_name_field)

-- so many names
unfoldable pub path_names : Format (List (List ℕ))
path_names = counted (number 2) (λ _. name_field)

-- a path has at most 4,095 bytes, which is judged after its last name
unfoldable pub path_field : Format (List (List ℕ))
path_field = judged path_names (λ names. nat_le (path_bytes names) 4095)

abbrev pub good_spelling : PathArg → List ℕ
good_spelling (Good names) = path_field.spell names
good_spelling (Bad fault raw) = []

abbrev pub IsGood : PathArg → Type 0
IsGood (Good names) = path_field.Fits names
IsGood (Bad fault raw) = ⊥

-- the path of a call: only good ones have a spelling
unfoldable pub path_arg_field : Format PathArg
path_arg_field = record { read = made Good path_field; spell = good_spelling; Fits = IsGood }

-- whether a name comes after the one before it, by bytes
unfoldable pub comes_after : Option (List ℕ) → List ℕ → Bool
comes_after None name = true
comes_after (Some before) name = is_lt (slice_cmp nat_cmp before name)

-- a name in a list of names that ascend
unfoldable pub next_name : Option (List ℕ) → Format (List ℕ)
next_name last = judged name_field (comes_after last)

unfoldable pub names_field : Format (List (List ℕ))
names_field = counted (number 4) next_name
