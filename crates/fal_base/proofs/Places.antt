-- Where a key stands among entries in the order of their keys, and what an edit at that place does.
use Rattle.std.proofs.Common.{◌≡◌, ℕ, zero, suc, ◌+◌, ◌<◌, ◌≤◌, Bool, true, false, not, ◌&&◌, List, [], ◌∷◌, length, get_or, set, refl, sym, ap, ◌∙◌, subst, arith, Some, None, Ok, Err, cond}
use Rattle.std.specs.Prelude.{IsTrue}
use Rattle.std.specs.List.{insert, remove}
use Rattle.std.specs.declared.cmp.Ordering.{Ordering}
use Rattle.std.specs.declared.cmp.Ordering.TheVariants.{Less, Equal, Greater}
use Rattle.std.specs.Ordering.{is_eq, is_gt, is_lt, ordering_reverse}
use Rattle.std.specs.FinMap.Entries.{by_order, below_all, is_sorted-put, is_sorted-where_key}
use Rattle.fal_base.specs.declared.key.Key.{Key}
use Rattle.fal_base.specs.Tree.{key_cmp, same_key}
use Rattle.fal_base.specs.Maps.{AreInOrder, value_at, with_value, without_key, place_of, IsPlace}
use Rattle.fal_base.proofs.Order.{key_cmp_total, held, told}

and_first : (a b : Bool) → IsTrue (a && b) → IsTrue a
and_first true b both = refl
and_first false b both = both

and_second : (a b : Bool) → IsTrue (a && b) → IsTrue b
and_second true b both = both
and_second false b both = cc

less_of : (r : Ordering) → IsTrue (is_lt r) → r ≡ Less
less_of Less is = refl
less_of Equal is = cc
less_of Greater is = cc

greater_of : (r : Ordering) → true ≡ is_gt r → r ≡ Greater
greater_of Less is = cc
greater_of Equal is = cc
greater_of Greater is = refl

module _ {X : Type 0} where
  first_below : (other : Key) (e : Key × X) (es : List (Key × X)) → IsTrue (below_all key_cmp other (e ∷ es)) → key_cmp other e.0 ≡ Less
  first_below other e es below = less_of _ (and_first _ _ below)

  -- a key below all is not found
  none_below : (key other : Key) (es : List (Key × X)) → key_cmp key other ≡ Less → IsTrue (below_all key_cmp other es) → value_at es key ≡ None
  none_below key other [] less below = refl
  none_below key other (e ∷ es) less below =
      let next : key_cmp key e.0 ≡ Less = key_cmp_total.trans key other e.0 less (first_below other e es below) in
      ap (λ r. cond (is_eq r) (Some e.1) (value_at es key)) next ∙ none_below key other es less (and_second _ _ below)

  -- nor taken out
  kept_below : (key other : Key) (es : List (Key × X)) → key_cmp key other ≡ Less → IsTrue (below_all key_cmp other es) → without_key es key ≡ es
  kept_below key other [] less below = refl
  kept_below key other (e ∷ es) less below =
      let next : key_cmp key e.0 ≡ Less = key_cmp_total.trans key other e.0 less (first_below other e es below) in
      ap (λ r. cond (not (is_eq r)) (e ∷ without_key es key) (without_key es key)) next ∙ ap (λ rest. e ∷ rest) (kept_below key other es less (and_second _ _ below))

  -- each entry of a list is above what is below all of it
  below_at : (other : Key) (es : List (Key × X)) (i : ℕ) (d : Key × X) → IsTrue (below_all key_cmp other es) → i < length es → key_cmp other (get_or es i d).0 ≡ Less
  below_at other [] i d below lt = absurd (omega arith)
  below_at other (e ∷ es) zero d below lt = first_below other e es below
  below_at other (e ∷ es) (suc i) d below lt = below_at other es i d (and_second _ _ below) (omega arith)

  -- a key above an entry stands after it
  place_after : (key : Key) (es : List (Key × X)) (i : ℕ) (d : Key × X) → AreInOrder es → i < length es → key_cmp key (get_or es i d).0 ≡ Greater → i < place_of key es
  place_after key [] i d sorted lt above = absurd (omega arith)
  place_after key (e ∷ es) zero d sorted lt above = subst (λ r. 0 < by_order r 0 0 (suc (place_of key es))) (sym above) (omega arith)
  place_after key (e ∷ es) (suc i) d sorted lt above =
      let at = get_or es i d in
      let under : key_cmp at.0 key ≡ Less = key_cmp_total.antisymm at.0 key ∙ ap ordering_reverse above in
      let first : key_cmp e.0 key ≡ Less = key_cmp_total.trans e.0 at.0 key (below_at e.0 es i d (and_first _ _ sorted) (omega arith)) under in
      let over : key_cmp key e.0 ≡ Greater = key_cmp_total.antisymm key e.0 ∙ ap ordering_reverse first in
      let rest : i < place_of key es = place_after key es i d (and_second _ _ sorted) (omega arith) above in
      subst (λ r. suc i < by_order r 0 0 (suc (place_of key es))) (sym over) (omega (arith, rest))

  -- a key that is not above an entry stands there or before
  place_before : (key : Key) (es : List (Key × X)) (i : ℕ) (d : Key × X) → i < length es → (key_cmp key (get_or es i d).0 ≡ Greater → ⊥) → place_of key es ≤ i
  place_before key [] i d lt not_above = omega arith
  place_before key (e ∷ es) zero d lt not_above =
      elim (key_cmp key e.0) as (λ r. (r ≡ Greater → ⊥) → by_order r 0 0 (suc (place_of key es)) ≤ 0) [
        | Less ↦ λ no_more. omega arith
        | Equal ↦ λ no_more. omega arith
        | Greater ↦ λ no_more. absurd (no_more refl)
      ] not_above
  place_before key (e ∷ es) (suc i) d lt not_above =
      let rest = place_before key es i d (omega arith) not_above in
      elim (key_cmp key e.0) as (λ r. by_order r 0 0 (suc (place_of key es)) ≤ suc i) [
        | Less ↦ omega arith
        | Equal ↦ omega arith
        | Greater ↦ omega (arith, rest)
      ]

  -- one step of a search: after what the key is above, or not
  pub step_after : (key : Key) (es : List (Key × X)) (i : ℕ) (d : Key × X) (r : Ordering) → AreInOrder es → i < length es → r ≡ key_cmp key (get_or es i d).0 → true ≡ is_gt r → i + 1 ≤ place_of key es
  step_after key es i d r sorted lt is above =
      let after = place_after key es i d sorted lt (sym is ∙ greater_of r above) in omega (arith, after)

  pub step_before : (key : Key) (es : List (Key × X)) (i : ℕ) (d : Key × X) (r : Ordering) → i < length es → r ≡ key_cmp key (get_or es i d).0 → false ≡ is_gt r → place_of key es ≤ i
  step_before key es i d r lt is not_above =
      place_before key es i d lt (λ above. let wrong : false ≡ true = not_above ∙ ap is_gt (is ∙ above) in cc)

  pub place_within : (key : Key) (es : List (Key × X)) → place_of key es ≤ length es
  place_within key [] = omega arith
  place_within key (e ∷ es) =
      let rest = place_within key es in
      elim (key_cmp key e.0) as (λ r. by_order r 0 0 (suc (place_of key es)) ≤ suc (length es)) [
        | Less ↦ omega arith
        | Equal ↦ omega arith
        | Greater ↦ omega (arith, rest)
      ]

  -- the entry at the place has the key: its value is what is found
  found_here : (key : Key) (es : List (Key × X)) (d : Key × X) → place_of key es < length es → same_key key (get_or es (place_of key es) d).0 ≡ true → value_at es key ≡ Some (get_or es (place_of key es) d).1
  found_here key [] d lt same = absurd (omega arith)
  found_here key (e ∷ es) d lt same =
      elim (key_cmp key e.0) as (λ r. key_cmp key e.0 ≡ r → by_order r 0 0 (suc (place_of key es)) < suc (length es) → same_key key (get_or (e ∷ es) (by_order r 0 0 (suc (place_of key es))) d).0 ≡ true
      → cond (is_eq r) (Some e.1) (value_at es key) ≡ Some (get_or (e ∷ es) (by_order r 0 0 (suc (place_of key es))) d).1) [
        | Less ↦ λ r lt same. let wrong : false ≡ true = sym (ap is_eq r) ∙ same in cc
        | Equal ↦ λ r lt same. refl
        | Greater ↦ λ r lt same. found_here key es d (omega arith) same
      ] refl lt same

  -- no entry at the place has the key: nothing is found
  absent_here : (key : Key) (es : List (Key × X)) (d : Key × X) → AreInOrder es → (place_of key es < length es → same_key key (get_or es (place_of key es) d).0 ≡ false) → value_at es key ≡ None
  absent_here key [] d sorted apart = refl
  absent_here key (e ∷ es) d sorted apart =
      elim (key_cmp key e.0) as (λ r. key_cmp key e.0 ≡ r → (by_order r 0 0 (suc (place_of key es)) < suc (length es) → same_key key (get_or (e ∷ es) (by_order r 0 0 (suc (place_of key es))) d).0 ≡ false)
      → cond (is_eq r) (Some e.1) (value_at es key) ≡ None) [
        | Less ↦ λ r apart. none_below key e.0 es r (and_first _ _ sorted)
        | Equal ↦ λ r apart. let wrong : true ≡ false = sym (ap is_eq r) ∙ apart (omega arith) in cc
        | Greater ↦ λ r apart. absent_here key es d (and_second _ _ sorted) (λ lt. apart (omega arith))
      ] refl apart

  -- the entry at the place has the key: it gets the value
  put_here : (key : Key) (value : X) (es : List (Key × X)) (found : Key × X) → place_of key es < length es → found ≡ get_or es (place_of key es) found → same_key key found.0 ≡ true
      → set es (place_of key es) (found.0, value) ≡ with_value es key value
  put_here key value [] found lt is same = absurd (omega arith)
  put_here key value (e ∷ es) found below here alike =
      elim (key_cmp key e.0) as (λ r. key_cmp key e.0 ≡ r → by_order r 0 0 (suc (place_of key es)) < suc (length es) → found ≡ get_or (e ∷ es) (by_order r 0 0 (suc (place_of key es))) found → same_key key found.0 ≡ true
      → set (e ∷ es) (by_order r 0 0 (suc (place_of key es))) (found.0, value) ≡ by_order r ((key, value) ∷ e ∷ es) ((e.0, value) ∷ es) (e ∷ with_value es key value)) [
        | Less ↦ λ r lt is same. let alike : same_key key e.0 ≡ true = subst (λ x. same_key key x.0 ≡ true) is same in let wrong : false ≡ true = sym (ap is_eq r) ∙ alike in cc
        | Equal ↦ λ r lt is same. ap (λ x. (x.0, value) ∷ es) is
        | Greater ↦ λ r lt is same. ap (λ rest. e ∷ rest) (put_here key value es found (omega arith) is same)
      ] refl below here alike

  -- no entry at the place has the key: it goes there
  put_new : (key : Key) (value : X) (es : List (Key × X)) (d : Key × X) → (place_of key es < length es → same_key key (get_or es (place_of key es) d).0 ≡ false)
      → insert es (place_of key es) (key, value) ≡ with_value es key value
  put_new key value [] d new = refl
  put_new key value (e ∷ es) d apart =
      elim (key_cmp key e.0) as (λ r. key_cmp key e.0 ≡ r → (by_order r 0 0 (suc (place_of key es)) < suc (length es) → same_key key (get_or (e ∷ es) (by_order r 0 0 (suc (place_of key es))) d).0 ≡ false)
      → insert (e ∷ es) (by_order r 0 0 (suc (place_of key es))) (key, value) ≡ by_order r ((key, value) ∷ e ∷ es) ((e.0, value) ∷ es) (e ∷ with_value es key value)) [
        | Less ↦ λ r new. refl
        | Equal ↦ λ r new. let wrong : true ≡ false = sym (ap is_eq r) ∙ new (omega arith) in cc
        | Greater ↦ λ r new. ap (λ rest. e ∷ rest) (put_new key value es d (λ lt. new (omega arith)))
      ] refl apart

  -- the entry at the place has the key: it is the one that goes
  taken_here : (key : Key) (es : List (Key × X)) (d : Key × X) → AreInOrder es → place_of key es < length es → same_key key (get_or es (place_of key es) d).0 ≡ true → remove es (place_of key es) ≡ without_key es key
  taken_here key [] d sorted lt same = absurd (omega arith)
  taken_here key (e ∷ es) d sorted lt same =
      elim (key_cmp key e.0) as (λ r. key_cmp key e.0 ≡ r → by_order r 0 0 (suc (place_of key es)) < suc (length es) → same_key key (get_or (e ∷ es) (by_order r 0 0 (suc (place_of key es))) d).0 ≡ true
      → remove (e ∷ es) (by_order r 0 0 (suc (place_of key es))) ≡ cond (not (is_eq r)) (e ∷ without_key es key) (without_key es key)) [
        | Less ↦ λ r lt same. let wrong : false ≡ true = sym (ap is_eq r) ∙ same in cc
        | Equal ↦ λ r lt same. sym (kept_tied key e.0 es r (and_first _ _ sorted))
        | Greater ↦ λ r lt same. ap (λ rest. e ∷ rest) (taken_here key es d (and_second _ _ sorted) (omega arith) same)
      ] refl lt same
    where
      kept_tied : (key other : Key) (es : List (Key × X)) → key_cmp key other ≡ Equal → IsTrue (below_all key_cmp other es) → without_key es key ≡ es
      kept_tied key other [] tied below = refl
      kept_tied key other (e ∷ es) tied below =
          let next : key_cmp key e.0 ≡ Less = key_cmp_total.congr key other e.0 tied ∙ first_below other e es below in
          ap (λ r. cond (not (is_eq r)) (e ∷ without_key es key) (without_key es key)) next ∙ ap (λ rest. e ∷ rest) (kept_tied key other es tied (and_second _ _ below))

  -- no entry at the place has the key: none goes
  kept_here : (key : Key) (es : List (Key × X)) (d : Key × X) → AreInOrder es → (place_of key es < length es → same_key key (get_or es (place_of key es) d).0 ≡ false) → without_key es key ≡ es
  kept_here key [] d sorted apart = refl
  kept_here key (e ∷ es) d sorted apart =
      elim (key_cmp key e.0) as (λ r. key_cmp key e.0 ≡ r → (by_order r 0 0 (suc (place_of key es)) < suc (length es) → same_key key (get_or (e ∷ es) (by_order r 0 0 (suc (place_of key es))) d).0 ≡ false)
      → cond (not (is_eq r)) (e ∷ without_key es key) (without_key es key) ≡ e ∷ es) [
        | Less ↦ λ r apart. ap (λ rest. e ∷ rest) (kept_below key e.0 es r (and_first _ _ sorted))
        | Equal ↦ λ r apart. let wrong : true ≡ false = sym (ap is_eq r) ∙ apart (omega arith) in cc
        | Greater ↦ λ r apart. ap (λ rest. e ∷ rest) (kept_here key es d (and_second _ _ sorted) (λ lt. apart (omega arith)))
      ] refl apart

  -- a comparison that gave no tie
  pub not_tied : (es : List (Key × X)) (at : ℕ) (read : Key × X) (key : Key) (r : Ordering) → read ≡ get_or es at read → r ≡ key_cmp key (get_or es at read).0 → false ≡ is_eq r → same_key key read.0 ≡ false
  not_tied es at read key r is compared apart = ap (λ e. same_key key e.0) is ∙ ap is_eq (sym compared) ∙ sym apart

  -- what a search answers, read as what is found and what an edit does
  pub found_at : (key : Key) (es : List (Key × X)) (at : ℕ) (d : Key × X) → IsPlace key es (Ok at) → value_at es key ≡ Some (get_or es at d).1
  found_at key es at d is =
      subst (λ k. k < length es → same_key key (get_or es k d).0 ≡ true → value_at es key ≡ Some (get_or es k d).1) (sym is.0) (found_here key es d) is.1 (is.2 d)

  pub absent_at : (key : Key) (es : List (Key × X)) (at : ℕ) → AreInOrder es → IsPlace key es (Err at) → value_at es key ≡ None
  absent_at key [] at sorted is = refl
  absent_at key (e ∷ es) at sorted is = absent_here key (e ∷ es) e sorted (subst (λ k. k < length (e ∷ es) → same_key key (get_or (e ∷ es) k e).0 ≡ false) is.0 (is.2 e))

  pub set_at : (key : Key) (value : X) (es : List (Key × X)) (at : ℕ) (found : Key × X) → IsPlace key es (Ok at) → found ≡ get_or es at found → set es at (found.0, value) ≡ with_value es key value
  set_at key value es at found is read =
      subst (λ k. k < length es → found ≡ get_or es k found → same_key key found.0 ≡ true → set es k (found.0, value) ≡ with_value es key value) (sym is.0) (put_here key value es found) is.1 read (ap (λ e. same_key key e.0) read ∙ is.2 found)

  pub insert_at : (key : Key) (value : X) (es : List (Key × X)) (at : ℕ) → IsPlace key es (Err at) → insert es at (key, value) ≡ with_value es key value
  insert_at key value es at is =
      subst (λ k. (k < length es → same_key key (get_or es k (key, value)).0 ≡ false) → insert es k (key, value) ≡ with_value es key value) (sym is.0) (put_new key value es (key, value)) (is.2 (key, value))

  pub remove_at : (key : Key) (es : List (Key × X)) (at : ℕ) (d : Key × X) → AreInOrder es → IsPlace key es (Ok at) → remove es at ≡ without_key es key
  remove_at key es at d sorted is =
      subst (λ k. k < length es → same_key key (get_or es k d).0 ≡ true → remove es k ≡ without_key es key) (sym is.0) (taken_here key es d sorted) is.1 (is.2 d)

  pub kept_at : (key : Key) (es : List (Key × X)) (at : ℕ) → AreInOrder es → IsPlace key es (Err at) → without_key es key ≡ es
  kept_at key [] at sorted is = refl
  kept_at key (e ∷ es) at sorted is = kept_here key (e ∷ es) e sorted (subst (λ k. k < length (e ∷ es) → same_key key (get_or (e ∷ es) k e).0 ≡ false) is.0 (is.2 e))

  -- changes keep the order
  pub in_order_put : (key : Key) (value : X) (es : List (Key × X)) → AreInOrder es → AreInOrder (with_value es key value)
  in_order_put key value es sorted = told _ (is_sorted-put key_cmp key_cmp_total key value es (held _ sorted))

  pub in_order_taken : (key : Key) (es : List (Key × X)) → AreInOrder es → AreInOrder (without_key es key)
  in_order_taken key es sorted = told _ (is_sorted-where_key key_cmp _ es (held _ sorted))
