-- Lists of entries, each of which names an actor.
use Rattle.std.specs.Prelude.{◌≡◌, ℕ, ◌<◌, ◌^◌, ◌==◌, cond, List, [], ◌∷◌, ◌++◌, length}

-- `later` begins with `first`
pub record StartsWith {E : Type 0} (later first : List E) : Type 0 where
  pub rest : List E
  pub is : later ≡ first ++ rest

module _ {E : Type 0} (actor : E → ℕ) where
  -- the entries of the actor n, in their order
  abbrev pub entries_of : ℕ → List E → List E
  entries_of n [] = []
  entries_of n (e ∷ es) = cond (actor e == n) (e ∷ entries_of n es) (entries_of n es)

module _ {C E O : Type 0} (may_push : C → List E → E → O → Type 0) where
  -- each entry of `es` could be pushed, with some outputs, after `before` and the entries that stand before it
  abbrev pub LegalAfter : C → List E → List E → Type 0
  LegalAfter c before [] = Unit {0}
  LegalAfter c before (e ∷ es) = ((o : O) × may_push c before e o) × LegalAfter c (before ++ e ∷ []) es

  -- each entry could be pushed after those before it
  abbrev pub IsLegal : C → List E → Type 0
  IsLegal c es = LegalAfter c [] es

  -- what every chronicle's list is: legal under its setting, and of fewer than 2^63 entries
  pub record IsSound (c : C) (es : List E) : Type 0 where
    pub legal : IsLegal c es
    pub short : length es < 2 ^ 63
