-- Where choices come from: the words of 32 bits of a PCG generator (XSH RR 64/32) on stream 54, one word a choice.
use Rattle.std.specs.Prelude.{ℕ, List}
use Rattle.rand_core.specs.Steps.{first_words}
use Rattle.rand_pcg.specs.Lcg.{Lcg, started, increment_of}
use Rattle.rand_pcg.specs.Pcg.{multiplier_64, pcg32}

-- the generator of a seed
unfoldable pub source_of : ℕ → Lcg
source_of seed = started 64 multiplier_64 seed (increment_of 64 54)

-- the first words of a seed, so many of them
abbrev pub words_of_seed : ℕ → ℕ → List ℕ
words_of_seed seed count = first_words pcg32 count (source_of seed)
