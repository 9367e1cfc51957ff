-- What stands under each key once a map has changed.
use Rattle.std.proofs.Common.{◌≡◌, ◌≢◌, ◌⊎◌, ◌↔◌, true, false, not, List, Some, None, refl, sym, ap, subst, ◌∙◌, cond, inl, inr}
use Rattle.std.specs.declared.cmp.Ordering.{Ordering}
use Rattle.std.specs.declared.cmp.Ordering.TheVariants.{Less, Equal, Greater}
use Rattle.std.specs.Cmp.{tied_itself}
use Rattle.std.specs.Ordering.{is_eq}
use Rattle.std.specs.FinMap.Entries.{find-put, find-where_key}
use Rattle.fal_base.specs.declared.key.Key.{Key}
use Rattle.fal_base.specs.Tree.{key_cmp, same_key}
use Rattle.fal_base.specs.Maps.{value_at, with_value, without_key}
use Rattle.fal_base.proofs.Order.{key_cmp_total, same_of_tied}

equal_of : (r : Ordering) → is_eq r ≡ true → r ≡ Equal
equal_of Less is = cc
equal_of Equal is = refl
equal_of Greater is = cc

-- the comparison of keys decides whether they are one
pub same_key_is : (a b : Key) → same_key a b ≡ true ↔ a ≡ b
same_key_is a b = (λ same. same_of_tied a b (equal_of _ same), λ is. subst (λ k. same_key a k ≡ true) is (ap is_eq (tied_itself key_cmp_total a)))

module _ {X : Type 0} where
  -- under the key that was put stands the value, and under each other one what stood there
  pub put_cases : (q key : Key) (value : X) (es : List (Key × X)) → ((q ≡ key) × (value_at (with_value es key value) q ≡ Some value)) ⊎ ((q ≢ key) × (value_at (with_value es key value) q ≡ value_at es q))
  put_cases q key value es =
      elim (same_key q key) as (λ b. same_key q key ≡ b → value_at (with_value es key value) q ≡ cond b (Some value) (value_at es q) → ((q ≡ key) × (value_at (with_value es key value) q ≡ Some value)) ⊎ ((q ≢ key) × (value_at (with_value es key value) q ≡ value_at es q))) [
        | true ↦ λ same is. inl ((same_key_is q key).0 same, is)
        | false ↦ λ apart is. inr (λ one. let wrong : true ≡ false = sym ((same_key_is q key).1 one) ∙ apart in cc, is)
      ] refl (find-put key_cmp key_cmp_total q key value es)

  -- under the key that was taken stands nothing, and under each other one what stood there
  pub removed_cases : (q key : Key) (es : List (Key × X)) → ((q ≡ key) × (value_at (without_key es key) q ≡ None)) ⊎ ((q ≢ key) × (value_at (without_key es key) q ≡ value_at es q))
  removed_cases q key es =
      elim (same_key key q) as (λ b. same_key key q ≡ b → value_at (without_key es key) q ≡ cond (not b) (value_at es q) None → ((q ≡ key) × (value_at (without_key es key) q ≡ None)) ⊎ ((q ≢ key) × (value_at (without_key es key) q ≡ value_at es q))) [
        | true ↦ λ same is. inl (sym ((same_key_is key q).0 same), is)
        | false ↦ λ apart is. inr (λ one. let wrong : true ≡ false = sym ((same_key_is key q).1 (sym one)) ∙ apart in cc, is)
      ] refl (find-where_key key_cmp (λ other. not (same_key key other)) q (λ x tied. ap (λ k. not (same_key key k)) (sym (same_of_tied q x tied))) es)
