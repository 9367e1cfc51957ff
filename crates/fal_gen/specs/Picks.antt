-- What a chooser picks by a word.
use Rattle.std.specs.Prelude.{ℕ, ◌/◌, ◌%◌, ◌<◌, ◌&&◌, not, if◌then◌else◌, ◌==◌}
use Rattle.rand_pcg.specs.Lcg.{Lcg}
use Rattle.rand_pcg.specs.Pcg.{pcg32}
use Rattle.fal_gen.specs.declared.chooser.Pick.{Pick}
use Rattle.fal_gen.specs.declared.chooser.Pick.TheVariants.{Fresh, Again, Nothing}

-- by the lowest three bits whether a fresh event or an envelope that was sent, where there is one, and by the others which
unfoldable pub pick_by : ℕ → ℕ → ℕ → Pick
pick_by fresh sent word =
    if word % 8 == 0 && not (sent == 0) then Again (word / 8 % sent)
    else (if fresh == 0 then Nothing else Fresh (word / 8 % fresh))

-- what is picked by the next word, and the generator after it
abbrev pub next_pick : ℕ → ℕ → Lcg → Pick × Lcg
next_pick fresh sent source = (pick_by fresh sent (pcg32 source).0, (pcg32 source).1)

-- what is picked is there
abbrev pub IsThere : ℕ → ℕ → Pick → Type 0
IsThere fresh sent (Fresh at) = at < fresh
IsThere fresh sent (Again envelope) = envelope < sent
IsThere fresh sent Nothing = Unit
