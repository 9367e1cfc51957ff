-- Words that are joined by spaces are read back, and so are lines that are ended.
use Rattle.std.proofs.Common.{◌≡◌, ℕ, ◌<◌, true, false, cond, ◌||◌, List, [], ◌∷◌, ◌++◌, length, filter, nat_lt, refl, ap, ◌∙◌, arith, eqb}
use Rattle.std.specs.Prelude.{◌==◌}
use Rattle.std.specs.List.{All, AllByRecursion, slice_split}
use Rattle.std.proofs.lemmas.Bool.Decides.{nat_tests}
use Rattle.std.proofs.lemmas.List.Elements.{All-nil, All-cons}
use Rattle.std.proofs.lemmas.List.Splits.{slice_split_none, slice_split_at}
use Rattle.fal_script.specs.Lines.{text_lines, longer}
use Rattle.fal_script.specs.Words.{words_of}

pub each_append : (P : ℕ → Type 0) (a b : List ℕ) → AllByRecursion P a → AllByRecursion P b → AllByRecursion P (a ++ b)
each_append P [] b front back = back
each_append P (x ∷ a) b front back = (front.0, each_append P a b front.1 back)

pub each_weaker : {A : Type 0} (P Q : A → Type 0) (a : List A) → ((x : A) → P x → Q x) → AllByRecursion P a → AllByRecursion Q a
each_weaker P Q [] weaker each = tt
each_weaker P Q (x ∷ a) weaker each = (weaker x each.0, each_weaker P Q a weaker each.1)

-- a word has bytes, and each is greater than a space
pub record IsWord (word : List ℕ) : Type 0 where
  pub some : 0 < length word
  pub dark : AllByRecursion (λ b. 32 < b) word

no_gap : (b : ℕ) → 32 < b → (b == 32 || b == 9) ≡ false
no_gap b dark = grind (arith, nat_tests)

no_gaps : (word : List ℕ) → AllByRecursion (λ b. 32 < b) word → All (λ b. (b == 32 || b == 9) ≡ false) word
no_gaps [] dark = All-nil (λ b. (b == 32 || b == 9) ≡ false)
no_gaps (b ∷ bs) dark = All-cons (λ c. (c == 32 || c == 9) ≡ false) b bs (no_gap b dark.0) (no_gaps bs dark.1)

-- the words with a space between two of them
abbrev pub spaced : List (List ℕ) → List ℕ
spaced [] = []
spaced (word ∷ []) = word
spaced (word ∷ next ∷ words) = word ++ 32 ∷ spaced (next ∷ words)

has_bytes : (word : List ℕ) → 0 < length word → nat_lt 0 (length word) ≡ true
has_bytes word some = grind (arith, nat_tests)

kept : (word : List ℕ) (parts : List (List ℕ)) → IsWord word → filter (λ part. nat_lt 0 (length part)) (word ∷ parts) ≡ word ∷ filter (λ part. nat_lt 0 (length part)) parts
kept word parts is = ap (λ b. cond b (word ∷ filter (λ part. nat_lt 0 (length part)) parts) (filter (λ part. nat_lt 0 (length part)) parts)) (has_bytes word is.some)

pub words_spaced : (words : List (List ℕ)) → AllByRecursion IsWord words → words_of (spaced words) ≡ words
unfolding words_of
words_spaced [] are = refl
words_spaced (word ∷ []) are =
    ap (filter (λ part. nat_lt 0 (length part))) (slice_split_none (λ b. b == 32 || b == 9) word (no_gaps word are.0.dark)) ∙ kept word [] are.0
words_spaced (word ∷ next ∷ words) are =
    ap (filter (λ part. nat_lt 0 (length part))) (slice_split_at (λ b. b == 32 || b == 9) word 32 (spaced (next ∷ words)) (no_gaps word are.0.dark) refl)
    ∙ kept word (slice_split (λ b. b == 32 || b == 9) (spaced (next ∷ words))) are.0
    ∙ ap (λ ws. word ∷ ws) (words_spaced (next ∷ words) are.1)

-- no byte of joined words ends a line
pub spaced_is_line : (words : List (List ℕ)) → AllByRecursion IsWord words → AllByRecursion (λ b. 31 < b) (spaced words)
spaced_is_line [] are = tt
spaced_is_line (word ∷ []) are = each_weaker (λ b. 32 < b) (λ b. 31 < b) word (λ b dark. omega (arith, dark)) are.0.dark
spaced_is_line (word ∷ next ∷ words) are =
    each_append (λ b. 31 < b) word (32 ∷ spaced (next ∷ words)) (each_weaker (λ b. 32 < b) (λ b. 31 < b) word (λ b dark. omega (arith, dark)) are.0.dark) (omega arith, spaced_is_line (next ∷ words) are.1)

no_feed : (b : ℕ) → 31 < b → eqb b 10 ≡ false
no_feed b light = grind (arith, nat_tests)

-- a line that is ended, and then those of the rest
pub line_ended : (line rest : List ℕ) → AllByRecursion (λ b. 31 < b) line → text_lines (line ++ 10 ∷ rest) ≡ line ∷ text_lines rest
line_ended [] rest light = refl
line_ended (b ∷ line) rest light = rw (no_feed b light.0) (ap (longer b) (line_ended line rest light.1))
