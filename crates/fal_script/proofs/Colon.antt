-- A word that is cut at its first colon.
use Rattle.std.proofs.Common.{◌≡◌, ℕ, ◌+◌, ◌≤◌, nat_lt, Bool, true, false, cond, ◌&&◌, nat_le, List, [], ◌∷◌, length, take, drop, Option, Some, None, refl, sym, ap, ◌∙◌, arith}
use Rattle.std.specs.Prelude.{◌==◌}
use Rattle.std.specs.List.{All, list_all, slice_split, position, position_or_len, join_with_byte}
use Rattle.std.specs.Option.{option_and_then, option_map}
use Rattle.std.proofs.lemmas.Bool.{ltb-true, ltb-false, leb-true, and_parts}
use Rattle.std.proofs.lemmas.Bool.Decides.{nat_tests}
use Rattle.std.proofs.lemmas.List.{drop-drop}
use Rattle.std.proofs.lemmas.List.Elements.{All-nil, All-cons}
use Rattle.std.proofs.lemmas.List.Splits.{slice_split_first, slice_split_none, join_with_byte-slice_split}
use Rattle.std.proofs.lemmas.List.Sums.{fails_before_first}
use Rattle.std.proofs.lemmas.Option.{cond_some, none-some}
use Rattle.fal_base.specs.declared.call.Cred.{Cred}
use Rattle.fal_script.specs.Arguments.{Halves, cred_parts, cred_word}
use Rattle.fal_script.specs.Numbers.{is_digit, are_digits, is_number, value_after, number_up_to}

-- ---- the cut

-- the front is the first part, and the back has the others
pub halves_some : (word front mid back : List ℕ) (at : ℕ) → position (λ b. b == 58) word ≡ Some at → front ≡ take at word → mid ≡ drop at word → back ≡ drop 1 mid → Halves word (Some (front, back))
halves_some word front mid back at found first rest after =
    let place = cond_some (nat_lt (position_or_len (λ b. b == 58) word) (length word)) (position_or_len (λ b. b == 58) word) at found in
    let last : back ≡ drop (at + 1) word = after ∙ ap (drop 1) rest ∙ drop-drop 1 at word in
    rw (first, last, sym place.1) (slice_split_first (λ b. b == 58) word 0 (ltb-true _ _ place.0))

-- without a colon the word is the one part
pub halves_none : (word : List ℕ) → position (λ b. b == 58) word ≡ None → Halves word None
halves_none word found =
    let past = ltb-false _ _ (unplaced (nat_lt (position_or_len (λ b. b == 58) word) (length word)) (position_or_len (λ b. b == 58) word) found) in
    slice_split_none (λ b. b == 58) word (λ k d within. fails_before_first (λ b. b == 58) word k d (omega (arith, within, past)))
  where
    unplaced : (b : Bool) (x : ℕ) → cond b (Some x) None ≡ None → b ≡ false
    unplaced true x is = absurd (none-some x (sym is))
    unplaced false x is = refl

-- ---- the caller

no_colons : (word : List ℕ) → list_all is_digit word ≡ true → All (λ b. (b == 58) ≡ false) word
no_colons [] are = All-nil (λ b. (b == 58) ≡ false)
no_colons (d ∷ word) are =
    let both = and_parts (is_digit d) (list_all is_digit word) are in
    All-cons (λ b. (b == 58) ≡ false) d word (other d (leb-true d 57 (and_parts (nat_le 48 d) (nat_le d 57) both.0).1)) (no_colons word both.1)
  where
    other : (b : ℕ) → b ≤ 57 → (b == 58) ≡ false
    other b low = grind (arith, nat_tests)

-- a number has no colon
number_whole : (most : ℕ) (word : List ℕ) (n : ℕ) → number_up_to most word ≡ Some n → slice_split (λ b. b == 58) word ≡ word ∷ []
unfolding number_up_to is_number are_digits
number_whole most word n is =
    let found = cond_some (is_number word && nat_le (value_after 0 word) most) (value_after 0 word) n is in
    let number = and_parts (is_number word) (nat_le (value_after 0 word) most) found.0 in
    slice_split_none (λ b. b == 58) word (no_colons word (and_parts (nat_le 1 (length word) && nat_le (length word) 20) (list_all is_digit word) number.0).1)

abbrev both : Option ℕ → Option ℕ → Option Cred
both uid gid = option_and_then (λ u. option_map (λ g. record { uid = u; gid = g }) gid) uid

no_second : (uid : Option ℕ) → both uid None ≡ None
no_second None = refl
no_second (Some u) = refl

no_gid : (uid gid : List ℕ) → number_up_to 4294967295 gid ≡ None → cred_parts (uid ∷ gid ∷ []) ≡ None
no_gid uid gid none = ap (both (number_up_to 4294967295 uid)) none ∙ no_second (number_up_to 4294967295 uid)

-- the back is not cut further: where it has a colon, it is no number
more_parts : (uid gid : List ℕ) → cred_parts (uid ∷ gid ∷ []) ≡ cred_parts (uid ∷ slice_split (λ b. b == 58) gid)
more_parts uid gid = by (number_up_to 4294967295 gid) refl
  where
    refused : (parts : List (List ℕ)) → number_up_to 4294967295 gid ≡ None → slice_split (λ b. b == 58) gid ≡ parts → cred_parts (uid ∷ parts) ≡ None
    refused [] none are = refl
    refused (g ∷ []) none are =
        let same : gid ≡ g = sym (join_with_byte-slice_split 58 gid) ∙ ap (join_with_byte 58) are in
        no_gid uid g (ap (number_up_to 4294967295) (sym same) ∙ none)
    refused (g ∷ h ∷ parts) none are = refl

    by : (o : Option ℕ) → number_up_to 4294967295 gid ≡ o → cred_parts (uid ∷ gid ∷ []) ≡ cred_parts (uid ∷ slice_split (λ b. b == 58) gid)
    by None is = no_gid uid gid is ∙ sym (refused (slice_split (λ b. b == 58) gid) is refl)
    by (Some g) is = ap (λ parts. cred_parts (uid ∷ parts)) (sym (number_whole 4294967295 gid g is))

pub cred_cut : (word uid gid : List ℕ) → Halves word (Some (uid, gid)) → cred_parts (uid ∷ gid ∷ []) ≡ cred_word word
unfolding cred_word
cred_cut word uid gid cut = more_parts uid gid ∙ ap cred_parts (sym cut)

pub cred_uncut : (word : List ℕ) → Halves word None → cred_word word ≡ None
unfolding cred_word
cred_uncut word cut = ap cred_parts cut
