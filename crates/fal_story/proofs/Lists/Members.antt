-- The items of lists, and lists of which some items are kept or changed.
use Rattle.std.proofs.Common.{◌≡◌, ◌≢◌, ◌⊎◌, inl, inr, ⊎_elim, ℕ, zero, suc, ◌==◌, Bool, true, false, not, ◌&&◌, cond, List, [], ◌∷◌, ◌++◌, map, filter, Some, None, refl, sym, ap, subst, ◌∙◌, eq-eqb}
use mathlib.Core.Path.{fun_ext}
use Rattle.std.specs.Prelude.{slice_get}
use Rattle.std.specs.List.{find, list_all}
use Rattle.fal_batch.proofs.Truth.{both_first, both_second}
use Rattle.fal_wait.specs.Lists.{without_first}
use Rattle.fal_story.proofs.Lists.Each.{Each, Apart, each_weaker, each_join}
use Rattle.fal_story.proofs.Lists.Grown.{tells, unequal}

-- the item stands in the list
abbrev pub IsIn : {A : Type 0} → A → List A → Type 0
IsIn x [] = ⊥
IsIn x (y ∷ ys) = (y ≡ x) ⊎ IsIn x ys

pub in_at : {A : Type 0} (xs : List A) (j : ℕ) (x : A) → slice_get xs j ≡ Some x → IsIn x xs
in_at [] j x e = absurd (cc)
in_at (y ∷ ys) zero x e = let same : y ≡ x = cc in inl same
in_at (y ∷ ys) (suc j) x e = inr (in_at ys j x e)

pub at_in : {A : Type 0} (xs : List A) (x : A) → IsIn x xs → (j : ℕ) × (slice_get xs j ≡ Some x)
at_in [] x m = absurd m
at_in (y ∷ ys) x m = ⊎_elim (λ e. (zero, ap Some e)) (λ r. let z = at_in ys x r in (suc z.0, z.1)) m

pub in_front : {A : Type 0} (xs ys : List A) (x : A) → IsIn x xs → IsIn x (xs ++ ys)
in_front [] ys x m = absurd m
in_front (z ∷ xs) ys x m = ⊎_elim (λ e. inl e) (λ r. inr (in_front xs ys x r)) m

pub in_back : {A : Type 0} (xs ys : List A) (x : A) → IsIn x ys → IsIn x (xs ++ ys)
in_back [] ys x m = m
in_back (z ∷ xs) ys x m = inr (in_back xs ys x m)

pub in_join : {A : Type 0} (xs ys : List A) (x : A) → IsIn x (xs ++ ys) → IsIn x xs ⊎ IsIn x ys
in_join [] ys x m = inr m
in_join (z ∷ xs) ys x m = ⊎_elim (λ e. inl (inl e)) (λ r. ⊎_elim (λ a. inl (inr a)) (λ b. inr b) (in_join xs ys x r)) m

pub in_map : {A B : Type 0} (f : A → B) (xs : List A) (x : A) → IsIn x xs → IsIn (f x) (map f xs)
in_map f [] x m = absurd m
in_map f (y ∷ ys) x m = ⊎_elim (λ e. inl (ap f e)) (λ r. inr (in_map f ys x r)) m

pub map_in : {A B : Type 0} (f : A → B) (xs : List A) (y : B) → IsIn y (map f xs) → (x : A) × (IsIn x xs × (f x ≡ y))
map_in f [] y m = absurd m
map_in f (x ∷ xs) y m = ⊎_elim (λ e. (x, (inl refl, e))) (λ r. let z = map_in f xs y r in (z.0, (inr z.1.0, z.1.1))) m

pub in_filter : {A : Type 0} (p : A → Bool) (xs : List A) (x : A) → IsIn x xs → p x ≡ true → IsIn x (filter p xs)
in_filter p [] x m is = absurd m
in_filter p (y ∷ ys) x m is =
    ⊎_elim
    (λ e. subst (λ b. IsIn x (cond b (y ∷ filter p ys) (filter p ys))) (sym (ap p e ∙ is)) (inl e))
    (λ r. elim (p y) as (λ b. IsIn x (cond b (y ∷ filter p ys) (filter p ys))) [ true ↦ inr (in_filter p ys x r is) | false ↦ in_filter p ys x r is ])
    m

-- ---- what holds of each item

pub each_in : {A : Type 0} (P : A → Type 0) (xs : List A) (x : A) → Each P xs → IsIn x xs → P x
each_in P [] x h m = absurd m
each_in P (y ∷ ys) x h m = ⊎_elim (λ e. subst P e h.0) (λ r. each_in P ys x h.1 r) m

pub each_by : {A : Type 0} (P : A → Type 0) (xs : List A) → ((x : A) → IsIn x xs → P x) → Each P xs
each_by P [] f = tt
each_by P (x ∷ xs) f = (f x (inl refl), each_by P xs (λ y m. f y (inr m)))

pub each_all : {A : Type 0} (P : A → Type 0) (xs : List A) → ((x : A) → P x) → Each P xs
each_all P xs f = each_by P xs (λ x m. f x)

pub each_map : {A B : Type 0} (P : B → Type 0) (f : A → B) (xs : List A) → Each (λ x. P (f x)) xs → Each P (map f xs)
each_map P f [] h = tt
each_map P f (x ∷ xs) h = (h.0, each_map P f xs h.1)

pub each_filter : {A : Type 0} (P : A → Type 0) (p : A → Bool) (xs : List A) → Each (λ x. p x ≡ true → P x) xs → Each P (filter p xs)
each_filter P p [] h = tt
each_filter P p (x ∷ xs) h =
    let rest = each_filter P p xs h.1 in
    elim (p x) as (λ b. p x ≡ b → Each P (cond b (x ∷ filter p xs) (filter p xs))) [
      | true ↦ λ is. (h.0 is, rest)
      | false ↦ λ _. rest
    ] refl

pub each_of_all : {A : Type 0} (p : A → Bool) (xs : List A) → list_all p xs ≡ true → Each (λ x. p x ≡ true) xs
each_of_all p [] h = tt
each_of_all p (x ∷ xs) h = (both_first (p x) (list_all p xs) h, each_of_all p xs (both_second (p x) (list_all p xs) h))

-- ---- lists whose items differ by a number

pub apart_map : {A B : Type 0} (g : B → ℕ) (f : A → B) (xs : List A) → Apart (λ x. g (f x)) xs → Apart g (map f xs)
apart_map g f [] h = tt
apart_map g f (x ∷ xs) h = (each_map (λ y. g y ≢ g (f x)) f xs h.0, apart_map g f xs h.1)

-- by another function that gives the same numbers
pub apart_as : {A : Type 0} (f g : A → ℕ) (xs : List A) → ((x : A) → f x ≡ g x) → Apart f xs → Apart g xs
apart_as {A} f g xs same h = subst (λ (k : A → ℕ). Apart k xs) (fun_ext same) h

pub apart_filter : {A : Type 0} (g : A → ℕ) (p : A → Bool) (xs : List A) → Apart g xs → Apart g (filter p xs)
apart_filter g p [] h = tt
apart_filter g p (x ∷ xs) h =
    let rest = apart_filter g p xs h.1 in
    elim (p x) as (λ b. Apart g (cond b (x ∷ filter p xs) (filter p xs))) [
      | true ↦ (each_filter (λ y. g y ≢ g x) p xs (each_weaker _ _ xs (λ y ne _. ne) h.0), rest)
      | false ↦ rest
    ]

pub apart_push : {A : Type 0} (g : A → ℕ) (xs : List A) (x : A) → Each (λ y. g y ≢ g x) xs → Apart g xs → Apart g (xs ++ x ∷ [])
apart_push g [] x h k = (tt, tt)
apart_push g (z ∷ xs) x h k = (each_join (λ y. g y ≢ g z) xs (x ∷ []) k.0 (λ e. h.0 (sym e), tt), apart_push g xs x h.1 k.1)

pub apart_join : {A : Type 0} (g : A → ℕ) (xs ys : List A) → Each (λ x. Each (λ y. g y ≢ g x) ys) xs → Apart g xs → Apart g ys → Apart g (xs ++ ys)
apart_join g [] ys h k l = l
apart_join g (x ∷ xs) ys h k l = (each_join (λ y. g y ≢ g x) xs ys k.0 h.0, apart_join g xs ys h.1 k.1 l)

pub apart_back : {A : Type 0} (g : A → ℕ) (xs ys : List A) → Apart g (xs ++ ys) → Apart g ys
apart_back g [] ys h = h
apart_back g (x ∷ xs) ys h = apart_back g xs ys h.1

-- items with one number are one
pub apart_same : {A : Type 0} (g : A → ℕ) (xs : List A) (x y : A) → Apart g xs → IsIn x xs → IsIn y xs → g x ≡ g y → x ≡ y
apart_same g [] x y h m k e = absurd m
apart_same g (z ∷ zs) x y h m k e =
    ⊎_elim
    (λ a. ⊎_elim (λ b. sym a ∙ b) (λ b. absurd (each_in (λ w. g w ≢ g z) zs y h.0 b (sym e ∙ ap g (sym a)))) k)
    (λ a. ⊎_elim (λ b. absurd (each_in (λ w. g w ≢ g z) zs x h.0 a (e ∙ ap g (sym b)))) (λ b. apart_same g zs x y h.1 a b e) k)
    m

-- ---- what is found

-- one that passes the test
pub find_in : {A : Type 0} (p : A → Bool) (xs : List A) (x : A) → find p xs ≡ Some x → (p x ≡ true) × IsIn x xs
find_in p [] x e = absurd (cc)
find_in p (y ∷ ys) x e =
    elim (p y) as (λ b. p y ≡ b → cond b (Some y) (find p ys) ≡ Some x → (p x ≡ true) × ((y ≡ x) ⊎ IsIn x ys)) [
      | true ↦ λ is f. let same : y ≡ x = cc in (subst (λ z. p z ≡ true) same is, inl same)
      | false ↦ λ _ f. let rest = find_in p ys x f in (rest.0, inr rest.1)
    ] refl e

pub find_none : {A : Type 0} (p : A → Bool) (xs : List A) → find p xs ≡ None → Each (λ x. p x ≡ false) xs
find_none p [] e = tt
find_none p (y ∷ ys) e =
    elim (p y) as (λ b. p y ≡ b → cond b (Some y) (find p ys) ≡ None → Each (λ x. p x ≡ false) (y ∷ ys)) [
      | true ↦ λ is f. absurd (cc)
      | false ↦ λ is f. (is, find_none p ys f)
    ] refl e

pub same_number : (a b : ℕ) → (a == b) ≡ true → a ≡ b
same_number a b e = ⊎_elim (λ t. t.1) (λ t. absurd (cc)) (tells a b)

-- by a number that no item has none is found
pub find_absent : {A : Type 0} (g : A → ℕ) (n : ℕ) (xs : List A) → Each (λ x. g x ≢ n) xs → find (λ x. g x == n) xs ≡ None
find_absent g n [] h = refl
find_absent g n (x ∷ xs) h = ap (λ b. cond b (Some x) (find (λ y. g y == n) xs)) (unequal (g x) n h.0) ∙ find_absent g n xs h.1

-- by its number an item is found
pub find_apart : {A : Type 0} (g : A → ℕ) (xs : List A) (x : A) → Apart g xs → IsIn x xs → find (λ y. g y == g x) xs ≡ Some x
find_apart g [] x h m = absurd m
find_apart g (y ∷ ys) x h m =
    ⊎_elim
    (λ e. ap (λ b. cond b (Some y) (find (λ z. g z == g x) ys)) (eq-eqb (g y) (g x) (ap g e)) ∙ ap Some e)
    (λ r. ap (λ b. cond b (Some y) (find (λ z. g z == g x) ys)) (unequal (g y) (g x) (λ e. each_in (λ w. g w ≢ g y) ys x h.0 r (sym e))) ∙ find_apart g ys x h.1 r)
    m

-- ---- lists of which some items are kept or changed

pub filter_join : {A : Type 0} (p : A → Bool) (xs ys : List A) → filter p (xs ++ ys) ≡ filter p xs ++ filter p ys
filter_join p [] ys = refl
filter_join p (x ∷ xs) ys =
    elim (p x) as (λ b. cond b (x ∷ filter p (xs ++ ys)) (filter p (xs ++ ys)) ≡ cond b (x ∷ filter p xs) (filter p xs) ++ filter p ys) [
      | true ↦ ap (λ zs. x ∷ zs) (filter_join p xs ys)
      | false ↦ filter_join p xs ys
    ]

-- of the items that pass one test those that pass another, where the two agree with a third
pub filter_filter : {A : Type 0} (p q r : A → Bool) (xs : List A) → Each (λ x. (p x && q x) ≡ r x) xs → filter q (filter p xs) ≡ filter r xs
filter_filter p q r [] h = refl
filter_filter p q r (x ∷ xs) h =
    let rest = filter_filter p q r xs h.1 in
    elim (p x) as (λ b. (b && q x) ≡ r x → filter q (cond b (x ∷ filter p xs) (filter p xs)) ≡ cond (r x) (x ∷ filter r xs) (filter r xs)) [
      | true ↦ λ e. ap (λ b. cond b (x ∷ filter q (filter p xs)) (filter q (filter p xs))) e ∙ ap (λ zs. cond (r x) (x ∷ zs) zs) rest
      | false ↦ λ e. rest ∙ ap (λ b. cond b (x ∷ filter r xs) (filter r xs)) e
    ] h.0

pub filter_all : {A : Type 0} (p : A → Bool) (xs : List A) → Each (λ x. p x ≡ true) xs → filter p xs ≡ xs
filter_all p [] h = refl
filter_all p (x ∷ xs) h = ap (λ b. cond b (x ∷ filter p xs) (filter p xs)) h.0 ∙ ap (λ zs. x ∷ zs) (filter_all p xs h.1)

pub filter_same : {A : Type 0} (p q : A → Bool) (xs : List A) → Each (λ x. p x ≡ q x) xs → filter p xs ≡ filter q xs
filter_same p q [] h = refl
filter_same p q (x ∷ xs) h = ap (λ b. cond b (x ∷ filter p xs) (filter p xs)) h.0 ∙ ap (λ zs. cond (q x) (x ∷ zs) zs) (filter_same p q xs h.1)

pub map_same : {A B : Type 0} (f g : A → B) (xs : List A) → Each (λ x. f x ≡ g x) xs → map f xs ≡ map g xs
map_same f g [] h = refl
map_same f g (x ∷ xs) h = λ i. h.0 i ∷ map_same f g xs h.1 i

pub map_itself : {A : Type 0} (f : A → A) (xs : List A) → Each (λ x. f x ≡ x) xs → map f xs ≡ xs
map_itself f [] h = refl
map_itself f (x ∷ xs) h = λ i. h.0 i ∷ map_itself f xs h.1 i

pub map_map : {A B C : Type 0} (f : B → C) (g : A → B) (xs : List A) → map f (map g xs) ≡ map (λ x. f (g x)) xs
map_map f g [] = refl
map_map f g (x ∷ xs) = ap (λ zs. f (g x) ∷ zs) (map_map f g xs)

-- those kept of changed items are those kept of the items, where these do not change
pub kept_same : {A : Type 0} (f : A → A) (p q : A → Bool) (xs : List A) → Each (λ x. (p (f x) ≡ q x) × (q x ≡ true → f x ≡ x)) xs → filter p (map f xs) ≡ filter q xs
kept_same f p q [] h = refl
kept_same f p q (x ∷ xs) h =
    let rest = kept_same f p q xs h.1 in
    ap (λ b. cond b (f x ∷ filter p (map f xs)) (filter p (map f xs))) h.0.0 ∙
    elim (q x) as (λ b. q x ≡ b → cond b (f x ∷ filter p (map f xs)) (filter p (map f xs)) ≡ cond b (x ∷ filter q xs) (filter q xs)) [
      | true ↦ λ is. (λ i. h.0.1 is i ∷ rest i)
      | false ↦ λ _. rest
    ] refl

-- what is told of those kept, where the change is not seen in it
pub told_same : {A B : Type 0} (g : A → B) (f : A → A) (p q : A → Bool) (xs : List A) → Each (λ x. (p (f x) ≡ q x) × (g (f x) ≡ g x)) xs → map g (filter p (map f xs)) ≡ map g (filter q xs)
told_same g f p q [] h = refl
told_same g f p q (x ∷ xs) h =
    let rest = told_same g f p q xs h.1 in
    ap (λ b. map g (cond b (f x ∷ filter p (map f xs)) (filter p (map f xs)))) h.0.0 ∙
    elim (q x) as (λ b. map g (cond b (f x ∷ filter p (map f xs)) (filter p (map f xs))) ≡ map g (cond b (x ∷ filter q xs) (filter q xs))) [
      | true ↦ λ i. h.0.1 i ∷ rest i
      | false ↦ rest
    ]

-- ---- lists without the first item that passes a test

pub each_without_first : {A : Type 0} (P : A → Type 0) (p : A → Bool) (xs : List A) → Each P xs → Each P (without_first p xs)
each_without_first P p [] h = tt
each_without_first P p (x ∷ xs) h =
    elim (p x) as (λ b. Each P (cond b xs (x ∷ without_first p xs))) [
      | true ↦ h.1
      | false ↦ (h.0, each_without_first P p xs h.1)
    ]

pub apart_without_first : {A : Type 0} (g : A → ℕ) (p : A → Bool) (xs : List A) → Apart g xs → Apart g (without_first p xs)
apart_without_first g p [] h = tt
apart_without_first g p (x ∷ xs) h =
    elim (p x) as (λ b. Apart g (cond b xs (x ∷ without_first p xs))) [
      | true ↦ h.1
      | false ↦ (each_without_first (λ y. g y ≢ g x) p xs h.0, apart_without_first g p xs h.1)
    ]

-- where numbers differ, no other item has the number of the one that is gone
pub gone_apart : {A : Type 0} (g : A → ℕ) (n : ℕ) (xs : List A) → Apart g xs → Each (λ x. g x ≢ n) (without_first (λ x. g x == n) xs)
gone_apart g n [] h = tt
gone_apart g n (x ∷ xs) h =
    ⊎_elim
    (λ e. subst (λ b. Each (λ y. g y ≢ n) (cond b xs (x ∷ without_first (λ y. g y == n) xs))) (sym e.0) (each_weaker _ _ xs (λ y ne same. ne (same ∙ sym e.1)) h.0))
    (λ e. subst (λ b. Each (λ y. g y ≢ n) (cond b xs (x ∷ without_first (λ y. g y == n) xs))) (sym e.0) (e.1, gone_apart g n xs h.1))
    (tells (g x) n)

pub gone_is_filter : {A : Type 0} (g : A → ℕ) (n : ℕ) (xs : List A) → Apart g xs → without_first (λ x. g x == n) xs ≡ filter (λ x. not (g x == n)) xs
gone_is_filter g n [] h = refl
gone_is_filter g n (x ∷ xs) h =
    ⊎_elim
    (λ e. subst (λ b. cond b xs (x ∷ without_first (λ y. g y == n) xs) ≡ cond (not b) (x ∷ filter (λ y. not (g y == n)) xs) (filter (λ y. not (g y == n)) xs)) (sym e.0)
    (sym (filter_all (λ y. not (g y == n)) xs (each_weaker _ _ xs (λ y ne. ap not (unequal (g y) n (λ same. ne (same ∙ sym e.1)))) h.0))))
    (λ e. subst (λ b. cond b xs (x ∷ without_first (λ y. g y == n) xs) ≡ cond (not b) (x ∷ filter (λ y. not (g y == n)) xs) (filter (λ y. not (g y == n)) xs)) (sym e.0)
    (ap (λ ys. x ∷ ys) (gone_is_filter g n xs h.1)))
    (tells (g x) n)

pub in_without_first : {A B : Type 0} (f : A → B) (p : A → Bool) (xs : List A) (y : B) → IsIn y (map f (without_first p xs)) → IsIn y (map f xs)
in_without_first f p [] y m = m
in_without_first f p (x ∷ xs) y m =
    elim (p x) as (λ b. IsIn y (map f (cond b xs (x ∷ without_first p xs))) → (f x ≡ y) ⊎ IsIn y (map f xs)) [
      | true ↦ λ r. inr r
      | false ↦ λ r. ⊎_elim (λ e. inl e) (λ z. inr (in_without_first f p xs y z)) r
    ] m

-- an item of another number is found as before
pub find_other : {A : Type 0} (g : A → ℕ) (xs : List A) (m number : ℕ) → m ≢ number → find (λ x. g x == m) (without_first (λ x. g x == number) xs) ≡ find (λ x. g x == m) xs
find_other g [] m number ne = refl
find_other g (x ∷ xs) m number ne =
    ⊎_elim
    (λ e. ap (λ b. find (λ y. g y == m) (cond b xs (x ∷ without_first (λ y. g y == number) xs))) e.0
    ∙ sym (ap (λ b. cond b (Some x) (find (λ y. g y == m) xs)) (unequal (g x) m (λ same. ne (sym same ∙ e.1)))))
    (λ e. ap (λ b. find (λ y. g y == m) (cond b xs (x ∷ without_first (λ y. g y == number) xs))) e.0
    ∙ ap (λ o. cond (g x == m) (Some x) o) (find_other g xs m number ne))
    (tells (g x) number)
