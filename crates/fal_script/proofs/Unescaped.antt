-- The bytes that the front of a word and the rest of it stand for.
use Rattle.std.proofs.Common.{◌≡◌, ℕ, List, [], ◌∷◌, ◌++◌, Option, Some, None, refl, sym, ap, ◌∙◌, append_assoc}
use Rattle.std.specs.Option.{option_map}
use Rattle.fal_script.specs.Escapes.{unescaped, with_byte}

one_more : (bytes : List ℕ) (byte : ℕ) (rest : Option (List ℕ)) → option_map (λ bs. (bytes ++ byte ∷ []) ++ bs) rest ≡ option_map (λ bs. bytes ++ bs) (with_byte (Some byte) rest)
one_more bytes byte None = refl
one_more bytes byte (Some bs) = ap Some (append_assoc bytes (byte ∷ []) bs)

-- one byte more, and what comes after it
pub next_byte : (bytes more word rest after : List ℕ) (byte : ℕ) → option_map (λ bs. bytes ++ bs) (unescaped rest) ≡ unescaped word → unescaped rest ≡ with_byte (Some byte) (unescaped after)
    → more ≡ bytes ++ byte ∷ [] → option_map (λ bs. more ++ bs) (unescaped after) ≡ unescaped word
next_byte bytes more word rest after byte same front is =
    ap (λ m. option_map (λ bs. m ++ bs) (unescaped after)) is ∙ one_more bytes byte (unescaped after) ∙ ap (option_map (λ bs. bytes ++ bs)) (sym front) ∙ same
