-- What one read or write after another takes or appends.
use Rattle.std.proofs.Common.{◌≡◌, ℕ, ◌+◌, ◌-◌, ◌≤◌, List, ◌++◌, length, take, drop, sym, subst, arith, ap, ◌∙◌}
use Rattle.std.specs.declared.option.Option.{Option}
use Rattle.std.specs.Io.KnownBytes.{Appends}
use Rattle.std.proofs.KnownBytes.{Appends-trans}
use Rattle.std.proofs.Math.Seq.{take-add}
use Rattle.std.proofs.lemmas.List.{take-append-le, take-append-drop}
use Rattle.std.proofs.lemmas.Grind.{common_steps}

-- a front of a piece is a front of the bytes that the piece begins
front_of_piece : (n m : ℕ) (xs : List ℕ) → n ≤ length (take m xs) → take n (take m xs) ≡ take n xs
front_of_piece n m xs within = grind (arith, common_steps)

-- what a write appended stands behind what was appended before
pub appends_more : (a b c : Option (List ℕ)) (bytes : List ℕ) (start size n : ℕ) → n ≤ length (take size (drop start bytes)) → Appends a b (take start bytes) → Appends b c (take n (take size (drop start bytes))) → Appends a c (take (start + n) bytes)
appends_more a b c bytes start size n within first next = subst (Appends a c) (sym (take-add start n bytes)) (Appends-trans a b c _ _ first (subst (Appends b c) (front_of_piece n size (drop start bytes) within) next))

take_same : (n : ℕ) (xs : List ℕ) → take n (take n xs) ≡ take n xs
take_same n xs = grind (arith, common_steps)

drop_after : (at n : ℕ) (xs : List ℕ) → drop n (drop at xs) ≡ drop (at + n) xs
drop_after at n xs = grind (arith, common_steps)

-- a source's front moves into a buffer
pub moves_front : (bytes buf piece : List ℕ) (at n : ℕ) → piece ≡ take (at + n - at) (drop at bytes) → n ≤ length piece → drop at bytes ≡ take n (piece ++ drop n buf) ++ drop (at + n) bytes
moves_front bytes buf piece at n is enough =
    let count : at + n - at ≡ n = omega arith in
    let front : take n (piece ++ drop n buf) ≡ take n (drop at bytes) = take-append-le n piece _ enough ∙ ap (take n) is ∙ ap (λ k. take n (take k (drop at bytes))) count ∙ take_same n (drop at bytes) in
    sym (take-append-drop n (drop at bytes)) ∙ ap (λ xs. xs ++ drop n (drop at bytes)) (sym front) ∙ ap (λ xs. take n (piece ++ drop n buf) ++ xs) (drop_after at n bytes)
