-- Three pieces, one after another.
use Rattle.std.proofs.Common.{◌≡◌, ℕ, List, ◌++◌, ap, ◌∙◌, append_assoc}

pub three_pieces : (out first second third a b c : List ℕ) → first ≡ out ++ a → second ≡ first ++ b → third ≡ second ++ c → third ≡ out ++ (a ++ (b ++ c))
three_pieces out first second third a b c one two three =
    three ∙ ap (λ o. o ++ c) (two ∙ ap (λ o. o ++ b) one) ∙ append_assoc (out ++ a) b c ∙ append_assoc out a (b ++ c)
