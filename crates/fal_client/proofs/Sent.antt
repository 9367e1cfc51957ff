-- The letters by which a client asks.
use Rattle.std.proofs.Common.{◌≡◌, ℕ, ◌+◌, [], ◌∷◌, ◌++◌, map, zero-add}
use Rattle.std.specs.List.{range_with_len}
use Rattle.std.proofs.lemmas.List.FromFn.{map-range_with_len_more}
use Rattle.fal_base.specs.declared.call.CallId.{CallId}
use Rattle.fal_client.specs.Step.{part_letter}

-- one node more is asked for its part
pub letters_more : (id : CallId) (version dir n : ℕ)
    → map (part_letter id version dir) (range_with_len 0 (n + 1)) ≡ map (part_letter id version dir) (range_with_len 0 n) ++ part_letter id version dir n ∷ []
letters_more id version dir n = map-range_with_len_more (part_letter id version dir) 0 n n (zero-add n)
