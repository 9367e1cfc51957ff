-- Bytes that are plain are written as they are.
use Rattle.std.proofs.Common.{◌≡◌, ℕ, true, List, [], ◌∷◌, ◌++◌, refl, ap, ◌∙◌}
use Rattle.std.proofs.lemmas.Bool.{and_parts}
use Rattle.std.specs.List.{list_all}
use Rattle.fal_report.specs.Escapes.{is_plain_byte, escaped_byte, escaped}

pub escaped_byte-plain : (byte : ℕ) → is_plain_byte byte ≡ true → escaped_byte byte ≡ byte ∷ []
unfolding escaped_byte
escaped_byte-plain byte plain = rw plain refl

pub escaped-plain : (bytes : List ℕ) → list_all is_plain_byte bytes ≡ true → escaped bytes ≡ bytes
escaped-plain [] plain = refl
escaped-plain (byte ∷ bytes) plain =
    let parts = and_parts (is_plain_byte byte) (list_all is_plain_byte bytes) plain in
    ap (λ piece. piece ++ escaped bytes) (escaped_byte-plain byte parts.0) ∙ ap (λ rest. byte ∷ rest) (escaped-plain bytes parts.1)
