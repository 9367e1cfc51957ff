-- What an answer tells of the answers that it comes from.
use Rattle.std.proofs.Common.{◌≡◌, ℕ, Bool, true, false, cond, Option, None, Some, Result, Ok, Err, refl, subst, true≢false}
use Rattle.std.specs.Option.{option_map}
use Rattle.std.specs.Result.{is_ok, result_unwrap_or}
use Rattle.std.proofs.lemmas.Option.{none-some, same_Some}
use Rattle.fal_script.specs.ReadAs.{or_rule, ◌=>>◌}

-- what a test lets through has passed it
pub let_through : {X : Type 0} (b : Bool) (o : Option X) (r : X) → cond b o None ≡ Some r → (b ≡ true) × (o ≡ Some r)
let_through true o r is = (refl, is)
let_through false o r is = absurd (none-some r is)

module _ {X Y Z : Type 0} where
  pub mapped : (f : X → Y) (o : Option X) (r : Y) → option_map f o ≡ Some r → ((x : X) → o ≡ Some x → f x ≡ r → Z) → Z
  mapped f None r is then = absurd (none-some _ is)
  mapped f (Some x) r is then = then x refl (same_Some (f x) r is)

module _ {X E : Type 0} where
  -- a value as an answer
  abbrev pub ok_of : X → Result X E
  ok_of x = Ok x

  pub err-ok : (e : E) (x : X) → Err e ≡ Ok x → ⊥
  err-ok e x is = true≢false (subst (λ (r : Result X E). is_ok r ≡ false) is refl)

  pub same_Ok : (x y : X) → ok_of x ≡ ok_of y → x ≡ y
  same_Ok x y is = subst (λ (r : Result X E). x ≡ result_unwrap_or r x) is refl

module _ {X : Type 0} where
  pub ruled : (rule : ℕ) (o : Option X) (x : X) → or_rule rule o ≡ Ok x → o ≡ Some x
  ruled rule None x is = absurd (err-ok rule x is)
  ruled rule (Some y) x is = subst (λ (z : X). Some y ≡ Some z) (same_Ok y x is) refl

  pub tested : (b : Bool) (e : ℕ) (r : Result X ℕ) (x : X) → cond b (Err e) r ≡ Ok x → (b ≡ false) × (r ≡ Ok x)
  tested true e r x is = absurd (err-ok e x is)
  tested false e r x is = (refl, is)

-- an answer of two steps has both
module _ {X Y Z : Type 0} where
  pub both_read : (r : Result X ℕ) (next : X → Result Y ℕ) (y : Y) → (r =>> next) ≡ Ok y → ((x : X) → r ≡ Ok x → next x ≡ Ok y → Z) → Z
  both_read (Ok x) next y is then = then x refl is
  both_read (Err rule) next y is then = absurd (err-ok rule y is)
