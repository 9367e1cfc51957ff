-- A number that was read has the bytes that were read as its bytes.
use Rattle.std.proofs.Common.{◌≡◌, ℕ, zero, suc, ◌+◌, ◌*◌, ◌^◌, ◌<◌, ◌≤◌, ◌/◌, false, ltb, List, [], ◌∷◌, ◌++◌, length, take, drop, Ok, refl, sym, ap, subst, ◌∙◌, arith, inl, inr}
use Rattle.std.specs.Int.{byte_at as byte_of, bytes_high_first}
use Rattle.std.proofs.Math.Nat.{mod-lt, mul-le-mul_right}
use Rattle.std.proofs.lemmas.Bool.{cases_lt, ltb-false, le-ltb}
use Rattle.std.proofs.lemmas.List.{take_at, drop_at, take-append-drop, length-append, length-take, get_or-drop, get_or-take, get_or_past, append-nil}
use Rattle.byteorder.specs.Endian.{big_from, big_number, big_bytes}
use Rattle.byteorder.specs.Numbers.{big_from-cons, big_from-append, big_from-lt, big_number-reads_back, length-bytes_high_first}
use Rattle.fal_wire.specs.declared.fault.WireFault.TheVariants.{Length}
use Rattle.fal_wire.specs.Format.{place, number, number_at, number_spelling, text, text_at, IsBytes}
use Rattle.fal_wire.proofs.Laws.{guard_ok, Took, Laws, IsBytes-rest}

pub IsBytes-drop : (n : ℕ) (bytes : List ℕ) → IsBytes bytes → IsBytes (drop n bytes)
IsBytes-drop n bytes h i = rw get_or-drop (h (n + i))

IsBytes-take : (n : ℕ) (bytes : List ℕ) → IsBytes bytes → IsBytes (take n bytes)
IsBytes-take n bytes h i =
    elim (cases_lt i n) [
      | inl lt ↦ rw (get_or-take n bytes i 0 lt) (h i)
      | inr le ↦ rw (get_or_past (take n bytes) i 0 (omega (arith, length-take n bytes))) (omega arith)
    ]

-- two numbers with a high digit and a low part below its place
high_is : (p a b c d : ℕ) → c < p → d < p → a * p + c ≡ b * p + d → a ≡ b
high_is p a b c d low_c low_d e =
    elim (cases_lt a b) [
      | inl less ↦ let h : suc a * p ≤ b * p = mul-le-mul_right p (omega arith) in absurd (omega (arith, h))
      | inr more ↦ elim (cases_lt b a) [
        | inl less ↦ let h : suc b * p ≤ a * p = mul-le-mul_right p (omega arith) in absurd (omega (arith, h))
        | inr same ↦ omega arith
      ]
    ]

-- bytes of one length that make one number are the same
pub same_bytes : (n : ℕ) (xs ys : List ℕ) → length xs ≡ n → length ys ≡ n → IsBytes xs → IsBytes ys → big_from 0 n xs ≡ big_from 0 n ys → xs ≡ ys
same_bytes zero [] [] lx ly fx fy e = refl
same_bytes zero (x ∷ xs) ys lx ly fx fy e = absurd (omega arith)
same_bytes zero [] (y ∷ ys) lx ly fx fy e = absurd (omega arith)
same_bytes (suc n) [] ys lx ly fx fy e = absurd (omega arith)
same_bytes (suc n) (x ∷ xs) [] lx ly fx fy e = absurd (omega arith)
same_bytes (suc n) (x ∷ xs) (y ∷ ys) lx ly fx fy e =
    let gx = IsBytes-rest x xs fx in
    let gy = IsBytes-rest y ys fy in
    let cx = big_from-cons 0 n x xs in
    let cy = big_from-cons 0 n y ys in
    let lowx = big_from-lt 0 n xs gx in
    let lowy = big_from-lt 0 n ys gy in
    let sums : x * 256 ^ n + big_from 0 n xs ≡ y * 256 ^ n + big_from 0 n ys = ap (λ (r : ℕ). x * 256 ^ n + r) (sym cx) ∙ e ∙ ap (λ (r : ℕ). y * 256 ^ n + r) cy in
    let head : x ≡ y = high_is (256 ^ n) x y (big_from 0 n xs) (big_from 0 n ys) lowx lowy sums in
    let moved : x * 256 ^ n + big_from 0 n xs ≡ x * 256 ^ n + big_from 0 n ys = sums ∙ ap (λ (d : ℕ). d * 256 ^ n + big_from 0 n ys) (sym head) in
    let rest : xs ≡ ys = same_bytes n xs ys (omega arith) (omega arith) gx gy (omega arith) in
    cc

byte_below : (k x : ℕ) → byte_of k x < 256
byte_below zero x = mod-lt x (omega arith)
byte_below (suc k) x = mod-lt (x / 256 ^ suc k) (omega arith)

bytes_below : (n x : ℕ) → IsBytes (bytes_high_first n x)
bytes_below zero x i = omega arith
bytes_below (suc n) x zero = byte_below n x
bytes_below (suc n) x (suc i) = bytes_below n x i

-- the bytes of a number that was read
pub read_bytes : (n : ℕ) (bytes : List ℕ) → IsBytes bytes → n ≤ length bytes → big_bytes n (big_number n bytes) ≡ take n bytes
read_bytes n bytes fits long =
    let front : length (take n bytes) ≡ n = omega (arith, length-take n bytes) in
    let same : big_from 0 n (take n bytes) ≡ big_from 0 n bytes = sym (big_from-append n (take n bytes) (drop n bytes) (omega arith)) ∙ ap (big_from 0 n) (take-append-drop n bytes) in
    let back : big_from 0 n (big_bytes n (big_number n bytes)) ≡ big_number n bytes = ap (big_from 0 n) (sym (append-nil (big_bytes n (big_number n bytes)))) ∙ big_number-reads_back n (big_number n bytes) [] (big_from-lt 0 n bytes fits) in
    same_bytes n (big_bytes n (big_number n bytes)) (take n bytes) (length-bytes_high_first n (big_number n bytes)) front (bytes_below n (big_number n bytes)) (IsBytes-take n bytes fits) (back ∙ sym same)

number_takes : (n : ℕ) (end : ℕ) (bytes : List ℕ) (x : ℕ × List ℕ) → IsBytes bytes → number_at n end bytes ≡ Ok x → Took (number n) bytes x
unfolding number_at number_spelling
number_takes n end bytes x fits e =
    let g = guard_ok (ltb (length bytes) n) (Length (place end bytes)) (big_number n bytes, drop n bytes) x e in
    let long : n ≤ length bytes = ltb-false _ _ g.0 in
    subst (λ (y : ℕ × List ℕ). Took (number n) bytes y) g.1
    (record { parts = sym (take-append-drop n bytes) ∙ ap (λ (front : List ℕ). front ++ drop n bytes) (sym (read_bytes n bytes fits long)); rest_fits = IsBytes-drop n bytes fits }, big_from-lt 0 n bytes fits)

number_again : (n : ℕ) (end : ℕ) (x : ℕ) (rest : List ℕ) → x < 256 ^ n → number_at n end (big_bytes n x ++ rest) ≡ Ok (x, rest)
unfolding number_at number_spelling
number_again n end x rest lt =
    let len = length-bytes_high_first n x in
    let long : ltb (length (big_bytes n x ++ rest)) n ≡ false = le-ltb _ _ (omega (arith, length-append (big_bytes n x) rest)) in
    rw (long, big_number-reads_back n x rest lt, drop_at (big_bytes n x) rest n len) refl

pub number_laws : (n : ℕ) → Laws ℕ (number n)
unfolding number_spelling
number_laws n = record { takes = number_takes n; again = number_again n }

-- ---- a length and so many bytes

text_takes : (end : ℕ) (bytes : List ℕ) (x : List ℕ × List ℕ) → IsBytes bytes → text_at end bytes ≡ Ok x → Took text bytes x
unfolding text_at
text_takes end [] x fits e = absurd cc
text_takes end (n ∷ rest) x fits e =
    let g = guard_ok (ltb (length rest) n) (Length (place end (n ∷ rest))) (take n rest, drop n rest) x e in
    let long : n ≤ length rest = ltb-false _ _ g.0 in
    let len : length (take n rest) ≡ n = omega (arith, length-take n rest) in
    let few : n < 256 = fits 0 in
    subst (λ (y : List ℕ × List ℕ). Took text (n ∷ rest) y) g.1
    (record { parts = ap (λ (bs : List ℕ). n ∷ bs) (sym (take-append-drop n rest)) ∙ ap (λ (k : ℕ). k ∷ (take n rest ++ drop n rest)) (sym len); rest_fits = IsBytes-drop n rest (IsBytes-rest n rest fits) }, omega arith)

text_again : (end : ℕ) (x : List ℕ) (rest : List ℕ) → length x < 256 → text_at end ((length x ∷ x) ++ rest) ≡ Ok (x, rest)
unfolding text_at
text_again end x rest lt =
    let long : ltb (length (x ++ rest)) (length x) ≡ false = le-ltb _ _ (omega (arith, length-append x rest)) in
    rw (long, take_at x rest (length x) refl, drop_at x rest (length x) refl) refl

pub text_laws : Laws (List ℕ) text
text_laws = record { takes = text_takes; again = text_again }
