-- One piece of a text after another.
use Rattle.std.proofs.Common.{◌≡◌, ℕ, List, ◌++◌, ap, ◌∙◌, append_assoc}
use Rattle.fal_report.specs.Counts.{count_text}

pub after_piece : (before between after a b : List ℕ) → between ≡ before ++ a → after ≡ between ++ b → after ≡ before ++ (a ++ b)
after_piece before between after a b first second = second ∙ ap (λ text. text ++ b) first ∙ append_assoc before a b

-- a count of what is counted by another word
pub count-is : (before after label : List ℕ) (n m : ℕ) → after ≡ before ++ count_text label n → n ≡ m → after ≡ before ++ count_text label m
count-is before after label n m written same = written ∙ ap (λ k. before ++ count_text label k) same
