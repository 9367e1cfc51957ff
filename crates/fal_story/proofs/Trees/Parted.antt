-- The names of all nodes' shares, sorted, are what stood under the directory.
use Rattle.std.proofs.Common.{◌≡◌, ◌≢◌, ⊎_elim, ℕ, zero, suc, ◌+◌, ◌<◌, ◌≤◌, max, true, cond, List, [], ◌∷◌, ◌++◌, length, Option, Some, None, is_none, refl, sym, ap, ◌∙◌, subst, arith}
use Rattle.std.specs.Prelude.{slice_get}
use Rattle.std.proofs.lemmas.List.Sums.{sum_by-cons}
use Rattle.fal_base.specs.Commits.{Commit, tree_at}
use Rattle.fal_base.specs.declared.key.Key.{Key}
use Rattle.fal_base.specs.Listing.{HoldsBetween, StandsUnder}
use Rattle.fal_base.specs.Tree.{key_of}
use Rattle.fal_client.specs.declared.parts.Part.{Part}
use Rattle.fal_client.specs.Names.{is_before, sorted_by, sorted_names}
use Rattle.fal_client.specs.Parts.{greatest_point, is_missing, missing_count, names_at, names_of}
use Rattle.fal_place.specs.Placement.{Placement, owner}
use Rattle.fal_story.proofs.Families.Listings.{IsPart}
use Rattle.fal_story.proofs.Lists.Grown.{tells}
use Rattle.fal_story.proofs.Trees.InOrder.{Has, IsOnce, contains_of, has_of, has_joined, has_left, has_right, has_sorted, once_joined, once_rising, rising_sorted, sorted_has}

-- each part that is there is its node's share
abbrev pub AreParts : Placement → List Commit → ℕ → ℕ → List (Option Part) → Type 0
AreParts table commits k dir parts = (n : ℕ) (part : Part) → slice_get parts n ≡ Some (Some part) → IsPart table commits k dir part.point n part.names

-- ---- which parts there are

missing_first : (place : Option Part) (parts : List (Option Part)) → missing_count (place ∷ parts) ≡ cond (is_none place) 1 0 + missing_count parts
missing_first place parts = sum_by-cons (λ x. cond (is_none x) 1 0) place parts

-- where no part is missing, each node's part is there
all_there : (parts : List (Option Part)) (m : ℕ) → missing_count parts ≡ 0 → m < length parts → (part : Part) × (slice_get parts m ≡ Some (Some part))
all_there [] m none below = absurd (omega arith)
all_there (None ∷ parts) m none below = let first = missing_first None parts in absurd (omega arith)
all_there (Some part ∷ parts) zero none below = (part, refl)
all_there (Some part ∷ parts) (suc m) none below = let first = missing_first (Some part) parts in all_there parts m (omega arith) (omega arith)

-- where one part is missing, all others are there
others_there : (parts : List (Option Part)) (n m : ℕ) → is_missing parts n ≡ true → missing_count parts ≡ 1 → m ≢ n → m < length parts → (part : Part) × (slice_get parts m ≡ Some (Some part))
others_there [] n m missing one apart below = absurd (omega arith)
others_there (None ∷ parts) zero zero missing one apart below = absurd (apart refl)
others_there (None ∷ parts) zero (suc m) missing one apart below = let first = missing_first None parts in all_there parts m (omega arith) (omega arith)
others_there (None ∷ parts) (suc n) m missing one apart below = let first = missing_first None parts in absurd (some_missing parts n missing (omega arith))
  where
    some_missing : (parts : List (Option Part)) (n : ℕ) → is_missing parts n ≡ true → missing_count parts ≡ 0 → ⊥
    some_missing [] n missing none = cc
    some_missing (None ∷ parts) n missing none = let first = missing_first None parts in omega arith
    some_missing (Some part ∷ parts) zero missing none = cc
    some_missing (Some part ∷ parts) (suc n) missing none = let first = missing_first (Some part) parts in some_missing parts n missing (omega arith)
others_there (Some part ∷ parts) zero m missing one apart below = absurd (cc)
others_there (Some part ∷ parts) (suc n) zero missing one apart below = (part, refl)
others_there (Some part ∷ parts) (suc n) (suc m) missing one apart below = let first = missing_first (Some part) parts in others_there parts n m missing (omega arith) (λ same. apart (ap suc same)) (omega arith)

-- ---- the greatest point

greatest_from : (p : ℕ) (parts : List (Option Part)) → p ≤ greatest_point p parts
greatest_from p [] = omega arith
greatest_from p (None ∷ parts) = greatest_from p parts
greatest_from p (Some part ∷ parts) = let later = greatest_from (max p part.point) parts in omega arith

greatest_past : (p m : ℕ) (part : Part) (parts : List (Option Part)) → slice_get parts m ≡ Some (Some part) → part.point ≤ greatest_point p parts
greatest_past p m part [] there = absurd (cc)
greatest_past p zero part (None ∷ parts) there = absurd (cc)
greatest_past p zero part (Some other ∷ parts) there =
    let same : other ≡ part = cc in
    let point : other.point ≡ part.point = ap (λ (x : Part). x.point) same in
    let later = greatest_from (max p other.point) parts in
    omega arith
greatest_past p (suc m) part (None ∷ parts) there = greatest_past p m part parts there
greatest_past p (suc m) part (Some other ∷ parts) there = greatest_past (max p other.point) m part parts there

greatest_within : (p last : ℕ) (parts : List (Option Part)) → p ≤ last → ((m : ℕ) (part : Part) → slice_get parts m ≡ Some (Some part) → part.point ≤ last) → greatest_point p parts ≤ last
greatest_within p last [] first all = first
greatest_within p last (None ∷ parts) first all = greatest_within p last parts first (λ m part there. all (suc m) part there)
greatest_within p last (Some part ∷ parts) first all = let one = all 0 part refl in greatest_within (max p part.point) last parts (omega arith) (λ m part there. all (suc m) part there)

-- ---- the names of the parts

-- a name of a part is among the names of all, and each is a part's
part_has : (name : List ℕ) (m : ℕ) (part : Part) (parts : List (Option Part)) → slice_get parts m ≡ Some (Some part) → Has name part.names → Has name (names_of parts)
part_has name m part [] there h = absurd (cc)
part_has name zero part (None ∷ parts) there h = absurd (cc)
part_has name zero part (Some other ∷ parts) there h = let same : other ≡ part = cc in has_left name other.names (names_of parts) (subst (λ (x : Part). Has name x.names) (sym same) h)
part_has name (suc m) part (place ∷ parts) there h = has_right name (names_at place) (names_of parts) (part_has name m part parts there h)

has_part : (name : List ℕ) (parts : List (Option Part)) → Has name (names_of parts) → (m : ℕ) × ((part : Part) × (slice_get parts m ≡ Some (Some part)) × Has name part.names)
has_part name [] h = absurd h
has_part name (None ∷ parts) h = let x = has_part name parts h in (suc x.0, x.1)
has_part name (Some part ∷ parts) h = ⊎_elim
    (λ here. (0, (part, refl, here)))
    (λ later. let x = has_part name parts later in (suc x.0, x.1))
    (has_joined name part.names (names_of parts) h)

-- parts whose names are of different nodes share none
once_parts : (node : List ℕ → ℕ) (base : ℕ) (parts : List (Option Part))
    → ((m : ℕ) (part : Part) → slice_get parts m ≡ Some (Some part) → IsOnce part.names × ((name : List ℕ) → Has name part.names → node name ≡ base + m)) → IsOnce (names_of parts)
once_parts node base [] are = tt
once_parts node base (None ∷ parts) are = once_parts node (suc base) parts (λ m part there. let x = are (suc m) part there in (x.0, λ name h. let at = x.1 name h in omega arith))
once_parts node base (Some part ∷ parts) are =
    let first = are 0 part refl in
    once_joined part.names (names_of parts) first.0
    (once_parts node (suc base) parts (λ m part there. let x = are (suc m) part there in (x.0, λ name h. let at = x.1 name h in omega arith)))
    (λ name here there.
    let one = first.1 name here in
    let x = has_part name parts there in
    let other = (are (suc x.0) x.1.0 x.1.1).1 name x.1.2 in
    omega arith)

-- ---- all together

module _ (table : Placement) (commits : List Commit) (nodes k dir n p : ℕ) (names : List (List ℕ)) (parts : List (Option Part)) (there : (key : Key) → owner table key < nodes) (count : length parts ≡ nodes) (all : AreParts table commits k dir parts)
    (missing : is_missing parts n ≡ true) (one : missing_count parts ≡ 1) (part : IsPart table commits k dir p n names) where
  abbrev last : ℕ
  last = greatest_point p parts

  abbrev joined : List (List ℕ)
  joined = names ++ names_of parts

  abbrev node : List ℕ → ℕ
  node name = owner table (key_of dir name)

  -- the node's part is not among those that are there
  not_there : (m : ℕ) (other : Part) → slice_get parts m ≡ Some (Some other) → m ≢ n
  not_there m other is same = let here = subst (λ z. slice_get parts z ≡ Some (Some other)) same is in absurd (cc)

  once : IsOnce joined
  once = once_joined names (names_of parts) (once_rising names part.share.rising)
      (once_parts node 0 parts (λ m other is. let x = all m other is in (once_rising other.names x.share.rising, λ name h. let at = (x.share.only name (contains_of name other.names h)).1 in omega arith)))
      (λ name here h.
      let x = has_part name parts h in
      let mine = (part.share.only name (contains_of name names here)).1 in
      let its = ((all x.0 x.1.0 x.1.1).share.only name (contains_of name x.1.0.names x.1.2)).1 in
      not_there x.0 x.1.0 x.1.1 (sym its ∙ mine))

  within : last ≤ length commits
  within = greatest_within p (length commits) parts part.to (λ m other is. (all m other is).to)

  -- a name that stands throughout is in its node's part
  has_throughout : (name : List ℕ) → ((j : ℕ) → k ≤ j → j ≤ last → StandsUnder (tree_at commits j) dir name) → Has name joined
  has_throughout name stands = ⊎_elim
      (λ mine. has_left name names (names_of parts) (has_of name names (part.share.has name (stands p part.from (greatest_from p parts)) mine.1)))
      (λ its.
      let below = there (key_of dir name) in
      let x = others_there parts n (node name) missing one its.1 (omega arith) in
      let y = all (node name) x.0 x.1 in
      has_right name names (names_of parts) (part_has name (node name) x.0 parts x.1 (has_of name x.0.names (y.share.has name (stands x.0.point y.from (greatest_past p (node name) x.0 parts x.1)) refl))))
      (tells (node name) n)

  -- and each name of a part stands at the point of it
  stands_sometime : (name : List ℕ) → Has name joined → (j : ℕ) × (k ≤ j) × (j ≤ last) × StandsUnder (tree_at commits j) dir name
  stands_sometime name h = ⊎_elim
      (λ mine. (p, part.from, greatest_from p parts, (part.share.only name (contains_of name names mine)).0))
      (λ its. let x = has_part name parts its in let y = all x.0 x.1.0 x.1.1 in (x.1.0.point, y.from, greatest_past p x.0 x.1.0 parts x.1.1, (y.share.only name (contains_of name x.1.0.names x.1.2)).0))
      (has_joined name names (names_of parts) h)

  holds : HoldsBetween commits dir k last (sorted_names joined)
  unfolding sorted_names
  holds = record {
    rising = rising_sorted joined once;
    throughout = λ name stands. contains_of name (sorted_by is_before joined) (has_sorted name joined (has_throughout name stands));
    sometime = λ name among. stands_sometime name (sorted_has name joined (has_of name (sorted_by is_before joined) among));
  }

-- where the last part has come, the names of all are what is to be listed, up to the greatest point
pub all_listed : (table : Placement) (commits : List Commit) (nodes k dir n p : ℕ) (names : List (List ℕ)) (parts : List (Option Part)) → ((key : Key) → owner table key < nodes) → length parts ≡ nodes → AreParts table commits k dir parts
    → is_missing parts n ≡ true → missing_count parts ≡ 1 → IsPart table commits k dir p n names
    → (k ≤ greatest_point p parts) × (greatest_point p parts ≤ length commits) × HoldsBetween commits dir k (greatest_point p parts) (sorted_names (names ++ names_of parts))
all_listed table commits nodes k dir n p names parts there count all missing one part =
    let from = part.from in
    let past = greatest_from p parts in
    (omega arith, within table commits nodes k dir n p names parts there count all missing one part, holds table commits nodes k dir n p names parts there count all missing one part)
