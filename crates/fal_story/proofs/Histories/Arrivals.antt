-- What arrives of a list of envelopes, one envelope after another.
use Rattle.std.proofs.Common.{◌≡◌, ◌∙◌, ap, refl, sym, ◌<◌, take, get_or, ℕ, ◌+◌, List, [], ◌∷◌, ◌++◌, length, Bool, true, false, if◌then◌else◌, append-nil, arith}
use Rattle.std.proofs.lemmas.List.{take_more, length-take-le}
use Rattle.fal_base.specs.declared.event.Envelope.{Envelope}
use Rattle.fal_story.specs.declared.inbox.Arrived.{Arrived}
use Rattle.fal_story.specs.Arriving.{arrived_next, arrives}

-- an item more in front, or none
in_front : (b : Bool) (x : Arrived) (xs ys zs : List Arrived) → xs ≡ ys ++ zs → (if b then x ∷ xs else xs) ≡ (if b then x ∷ ys else ys) ++ zs
in_front true x xs ys zs is = ap (λ items. x ∷ items) is
in_front false x xs ys zs is = is

-- what arrives of two lists is what arrives of the first, and then of the second, whose first envelope has the next number
pub next_append : (next number from : ℕ) (xs ys : List Envelope) → arrived_next next number from (xs ++ ys) ≡ arrived_next next number from xs ++ arrived_next (next + length xs) number from ys
next_append next number from [] ys = let same : next ≡ next + length {A = Envelope} [] = omega arith in ap (λ n. arrived_next n number from ys) same
next_append next number from (x ∷ xs) ys =
    let later : next + 1 + length xs ≡ next + length (x ∷ xs) = omega arith in
    in_front (arrives number from x) (record { number = next; envelope = x }) (arrived_next (next + 1) number from (xs ++ ys)) (arrived_next (next + 1) number from xs)
    (arrived_next (next + length (x ∷ xs)) number from ys) (next_append (next + 1) number from xs ys ∙ ap (λ n. arrived_next (next + 1) number from xs ++ arrived_next n number from ys) later)

-- one item at the end, or none
at_end : (b : Bool) (x : Arrived) (xs : List Arrived) → xs ++ (if b then x ∷ [] else []) ≡ (if b then xs ++ x ∷ [] else xs)
at_end true x xs = refl
at_end false x xs = append-nil xs

-- what arrives with one envelope more, of which it is known whether it does
arrived_more : (next number from i k : ℕ) (news : List Envelope) (x : Envelope) (b : Bool) → k ≡ next + i → i < length news → x ≡ get_or news i x → b ≡ arrives number from x
    → arrived_next next number from (take (i + 1) news)
    ≡ (if b then arrived_next next number from (take i news) ++ record { number = k; envelope = x } ∷ [] else arrived_next next number from (take i news))
arrived_more next number from i k news x b place below is for =
    let before : List Arrived = arrived_next next number from (take i news) in
    let count : length (take i news) ≡ i = length-take-le i news (omega arith) in
    let at : next + length (take i news) ≡ k = omega arith in
    ap (arrived_next next number from) (take_more news i x below)
    ∙ (ap (λ y. arrived_next next number from (take i news ++ y ∷ [])) (sym is)
    ∙ (next_append next number from (take i news) (x ∷ [])
    ∙ (ap (λ n. before ++ arrived_next n number from (x ∷ [])) at
    ∙ (at_end (arrives number from x) (record { number = k; envelope = x }) before ∙ ap (λ c. if c then before ++ record { number = k; envelope = x } ∷ [] else before) (sym for)))))

-- the envelope at i arrives
pub arrived_yes : (next number from i k : ℕ) (news : List Envelope) (x : Envelope) → k ≡ next + i → i < length news → x ≡ get_or news i x → true ≡ arrives number from x
    → arrived_next next number from (take (i + 1) news) ≡ arrived_next next number from (take i news) ++ record { number = k; envelope = x } ∷ []
arrived_yes next number from i k news x place below is for = arrived_more next number from i k news x true place below is for

-- the envelope at i does not arrive
pub arrived_no : (next number from i : ℕ) (news : List Envelope) (x : Envelope) → i < length news → x ≡ get_or news i x → false ≡ arrives number from x
    → arrived_next next number from (take (i + 1) news) ≡ arrived_next next number from (take i news)
arrived_no next number from i news x below is for = arrived_more next number from i (next + i) news x false refl below is for
