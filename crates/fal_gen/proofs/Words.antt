-- The words of a generator, and that they have 32 bits.
use Rattle.std.proofs.Common.{ℕ, zero, suc, ◌*◌, ◌/◌, ◌%◌, ◌<◌, ◌^◌, arith, bit_or}
use Rattle.std.specs.List.{AllByRecursion}
use Rattle.std.proofs.Math.Nat.{div-le_self}
use Rattle.std.proofs.lemmas.Nat.{or_lt}
use Rattle.rand_core.specs.Steps.{first_words}
use Rattle.rand_pcg.specs.Lcg.{Lcg}
use Rattle.rand_pcg.specs.Pcg.{output_xsh_rr, pcg32}

abbrev pub IsWord : ℕ → Type 0
IsWord word = word < 2 ^ 32

-- both parts of a rotation fit
turned : (n k j : ℕ) → n < 2 ^ 32 → bit_or (n / 2 ^ k) (n * 2 ^ j % 2 ^ 32) < 2 ^ 32
turned n k j small = let less = div-le_self n (2 ^ k) in or_lt 32 (n / 2 ^ k) (n * 2 ^ j % 2 ^ 32) (omega arith) (omega arith)

word_small : (state : ℕ) → IsWord (output_xsh_rr state)
word_small state = turned _ _ _ (omega arith)

pub words_small : (count : ℕ) (source : Lcg) → AllByRecursion IsWord (first_words pcg32 count source)
unfolding first_words
words_small zero source = tt
words_small (suc count) source = (word_small source.state, words_small count (pcg32 source).1)
