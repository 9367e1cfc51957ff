-- Where the first line of some bytes ends.
use Rattle.std.proofs.Common.{◌≡◌, ◌≢◌, ℕ, nat_eq, zero, suc, ◌<◌, true, false, List, [], ◌∷◌, length, get_or, take, drop, Some, None, refl, ap, ◌∙◌, arith, eqb}
use Rattle.std.proofs.lemmas.Bool.Decides.{nat_tests}
use Rattle.std.proofs.lemmas.Grind.{common_steps}
use Rattle.fal_script.specs.Lines.{text_lines, longer, Cuts, EndsAt}

same_byte : (b : ℕ) → b ≡ 10 → eqb b 10 ≡ true
same_byte b is = grind (arith, nat_tests)

other_byte : (b : ℕ) → b ≢ 10 → eqb b 10 ≡ false
other_byte b is = grind (arith, nat_tests)

-- the first line, and then those of the rest
first_line : (bytes : List ℕ) (at : ℕ) → at < length bytes → get_or bytes at 0 ≡ 10 → ((k : ℕ) → k < at → get_or bytes k 0 ≢ 10)
    → text_lines bytes ≡ take at bytes ∷ text_lines (drop (suc at) bytes)
first_line [] at within is before = absurd (omega arith)
first_line (b ∷ bs) zero within is before = rw (same_byte b is) refl
first_line (b ∷ bs) (suc at) within is before =
    rw (other_byte b (before 0 (omega arith)))
    (ap (longer b) (first_line bs at (omega arith) is (λ k lt. before (suc k) (omega arith))))

-- no line feed: all bytes are one line
only_line : (b : ℕ) (bytes : List ℕ) → ((k : ℕ) → k < length (b ∷ bytes) → get_or (b ∷ bytes) k 0 ≢ 10) → text_lines (b ∷ bytes) ≡ (b ∷ bytes) ∷ []
only_line b [] none = rw (other_byte b (none 0 (omega arith))) refl
only_line b (c ∷ bs) none =
    rw (other_byte b (none 0 (omega arith))) (ap (longer b) (only_line c bs (λ k lt. none (suc k) (omega arith))))

drop_one : (bytes : List ℕ) (at : ℕ) → drop 1 (drop at bytes) ≡ drop (suc at) bytes
drop_one [] zero = refl
drop_one [] (suc at) = refl
drop_one (b ∷ bs) zero = refl
drop_one (b ∷ bs) (suc at) = drop_one bs at

-- cut after the first line feed
pub cut_some : (bytes line mid rest : List ℕ) (at : ℕ) → EndsAt bytes (Some at) → line ≡ take at bytes → mid ≡ drop at bytes → rest ≡ drop 1 mid → Cuts bytes (Some (line, rest))
cut_some bytes line mid rest at ends front back after =
    let left : rest ≡ drop (suc at) bytes = after ∙ ap (drop 1) back ∙ drop_one bytes at in (
      rw (front, left) (first_line bytes at ends.0 ends.1 ends.2),
      shorter bytes rest at ends.0 left,
    )
  where
    shorter : (bytes rest : List ℕ) (at : ℕ) → at < length bytes → rest ≡ drop (suc at) bytes → length rest < length bytes
    shorter bytes rest at within left = grind (arith, common_steps)

-- cut after all bytes, where there are some and no line feed
pub cut_all : (bytes line rest : List ℕ) (n : ℕ) → nat_eq (length bytes) 0 ≡ false → EndsAt bytes None → n ≡ length bytes → line ≡ take n bytes → rest ≡ drop n bytes → Cuts bytes (Some (line, rest))
cut_all [] line rest n some none all front left = absurd (cc)
cut_all (b ∷ bytes) line rest n some none all front left =
    let first : line ≡ b ∷ bytes = grind (arith, common_steps) in
    let last : rest ≡ [] = grind (arith, common_steps) in
    rw (first, last) (only_line b bytes none, omega arith)
