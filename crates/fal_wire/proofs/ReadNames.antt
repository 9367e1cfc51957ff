-- The names that are read are names.
use Rattle.std.proofs.Common.{◌≡◌, ℕ, zero, suc, true, ◌&&◌, List, [], ◌∷◌, Option, Some, None, Ok, refl, ap, ◌∙◌, subst}
use Rattle.std.specs.List.{list_all}
use Rattle.fal_base.specs.Names.{is_name}
use Rattle.fal_wire.specs.declared.fault.WireFault.TheVariants.{Value}
use Rattle.fal_wire.specs.Format.{◌>>=◌, place, number, many_at, passed, text_at}
use Rattle.fal_wire.specs.Names.{name_field, path_names}
use Rattle.fal_wire.proofs.Laws.{bind_ok, pass_ok, ok_is}

one_is_name : (end : ℕ) (bytes : List ℕ) (x : List ℕ × List ℕ) → name_field.read end bytes ≡ Ok x → is_name x.0 ≡ true
unfolding name_field
one_is_name end bytes x e =
    let a = bind_ok (text_at end bytes) (passed is_name (place end bytes)) x e in
    let g = pass_ok (is_name a.0.0) (Value (place end bytes)) a.0 x a.2 in
    subst (λ (y : List ℕ × List ℕ). is_name y.0 ≡ true) g.1 g.0

many_are_names : (last : Option (List ℕ)) (n end : ℕ) (bytes : List ℕ) (x : List (List ℕ) × List ℕ) → many_at (λ _. name_field) last n end bytes ≡ Ok x → list_all is_name x.0 ≡ true
unfolding many_at
many_are_names last zero end bytes x e = subst (λ (y : List (List ℕ) × List ℕ). list_all is_name y.0 ≡ true) (ok_is ([], bytes) x e) refl
many_are_names last (suc n) end bytes x e =
    let a = bind_ok (name_field.read end bytes) (λ (y : List ℕ × List ℕ). many_at (λ _. name_field) (Some y.0) n end y.1 >>= λ ys. Ok (y.0 ∷ ys.0, ys.1)) x e in
    let b = bind_ok (many_at (λ _. name_field) (Some a.0.0) n end a.0.1) (λ (ys : List (List ℕ) × List ℕ). Ok (a.0.0 ∷ ys.0, ys.1)) x a.2 in
    let whole : List (List ℕ) × List ℕ = (a.0.0 ∷ b.0.0, b.0.1) in
    let first = one_is_name end bytes a.0 a.1 in
    subst (λ (y : List (List ℕ) × List ℕ). list_all is_name y.0 ≡ true) (ok_is whole x b.2)
    (ap (λ t. t && list_all is_name b.0.0) first ∙ many_are_names (Some a.0.0) n end a.0.1 b.0 b.1)

pub read_are_names : (end : ℕ) (bytes : List ℕ) (names : List (List ℕ)) (rest : List ℕ) → path_names.read end bytes ≡ Ok (names, rest) → list_all is_name names ≡ true
unfolding path_names
read_are_names end bytes names rest e =
    let counted = bind_ok ((number 2).read end bytes >>= λ (a : ℕ × List ℕ). many_at (λ _. name_field) None a.0 end a.1 >>= λ (b : List (List ℕ) × List ℕ). Ok ((a.0, b.0), b.1)) (λ (p : (ℕ × List (List ℕ)) × List ℕ). Ok (p.0.1, p.1)) (names, rest) e in
    let first = bind_ok ((number 2).read end bytes) (λ (a : ℕ × List ℕ). many_at (λ _. name_field) None a.0 end a.1 >>= λ (b : List (List ℕ) × List ℕ). Ok ((a.0, b.0), b.1)) counted.0 counted.1 in
    let many = bind_ok (many_at (λ _. name_field) None first.0.0 end first.0.1) (λ (b : List (List ℕ) × List ℕ). Ok ((first.0.0, b.0), b.1)) counted.0 first.2 in
    let whole : (ℕ × List (List ℕ)) × List ℕ = ((first.0.0, many.0.0), many.0.1) in
    let inner : whole ≡ counted.0 = ok_is whole counted.0 many.2 in
    let told : List (List ℕ) × List ℕ = (counted.0.0.1, counted.0.1) in
    subst (λ (y : List (List ℕ) × List ℕ). list_all is_name y.0 ≡ true) (ok_is told (names, rest) counted.2)
    (subst (λ (p : (ℕ × List (List ℕ)) × List ℕ). list_all is_name p.0.1 ≡ true) inner (many_are_names None first.0.0 end first.0.1 many.0 many.1))
