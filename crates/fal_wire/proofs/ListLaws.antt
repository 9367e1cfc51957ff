-- Lists of items, and values of several forms, are lawful.
use Rattle.std.proofs.Common.{◌≡◌, ℕ, zero, suc, eqb, List, [], ◌∷◌, ◌++◌, length, Option, Some, None, Result, Ok, refl, sym, ap, subst, ◌∙◌, append_assoc, inl, inr}
use Rattle.std.specs.List.{flat_map, AllByRecursion}
use Rattle.std.proofs.lemmas.Bool.{eqb-true}
use Rattle.std.proofs.lemmas.List.Concat.{flat_map-cons}
use Rattle.fal_wire.specs.declared.fault.WireFault.{WireFault}
use Rattle.fal_wire.specs.declared.fault.WireFault.TheVariants.{Value}
use Rattle.fal_wire.specs.Format.{◌>>=◌, place, Format, byte_at, ◌▷◌, made, many_at, AreItems, many, counted, Layout, content_spelling, ContentFits, Branch, chosen_at, tagged, IsBytes}
use Rattle.fal_wire.proofs.Laws.{bind_ok, chosen, ok_is, fine, Takes, Takes-then, Took, Laws, next_laws, shaped_laws, byte_laws}

-- each item is spelled in one way, whatever stands before it
abbrev pub OneSpelling : (A : Type 0) → (Option A → Format A) → Type 0
OneSpelling A item = (last : Option A) (x : A) → (item last).spell x ≡ (item None).spell x

many_take : (A : Type 0) (item : Option A → Format A) → ((last : Option A) → Laws A (item last)) → OneSpelling A item → (last : Option A) (n : ℕ) (end : ℕ) (bytes : List ℕ) (x : List A × List ℕ) → IsBytes bytes → many_at item last n end bytes ≡ Ok x
    → Takes bytes (flat_map (item None).spell x.0) x.1 × ((length x.0 ≡ n) × AreItems item last x.0)
unfolding many_at
many_take A item laws one last zero end bytes x fits e =
    subst (λ (y : List A × List ℕ). Takes bytes (flat_map (item None).spell y.0) y.1 × ((length y.0 ≡ 0) × AreItems item last y.0)) (ok_is ([], bytes) x e) (record { parts = refl; rest_fits = fits }, (refl, tt))
many_take A item laws one last (suc n) end bytes x fits e =
    let a = bind_ok ((item last).read end bytes) (λ (y : A × List ℕ). many_at item (Some y.0) n end y.1 >>= λ ys. Ok (y.0 ∷ ys.0, ys.1)) x e in
    let b = bind_ok (many_at item (Some a.0.0) n end a.0.1) (λ (ys : List A × List ℕ). Ok (a.0.0 ∷ ys.0, ys.1)) x a.2 in
    let first = (laws last).takes end bytes a.0 fits a.1 in
    let here : Takes bytes ((item None).spell a.0.0) a.0.1 = subst (λ (s : List ℕ). Takes bytes s a.0.1) (one last a.0.0) first.0 in
    let others = many_take A item laws one (Some a.0.0) n end a.0.1 b.0 first.0.rest_fits b.1 in
    let both = Takes-then bytes ((item None).spell a.0.0) a.0.1 (flat_map (item None).spell b.0.0) b.0.1 here others.0 in
    let whole : List A × List ℕ = (a.0.0 ∷ b.0.0, b.0.1) in
    subst (λ (y : List A × List ℕ). Takes bytes (flat_map (item None).spell y.0) y.1 × ((length y.0 ≡ suc n) × AreItems item last y.0)) (ok_is whole x b.2)
    (rw flat_map-cons both, (ap suc others.1.0, (first.1, others.1.1)))

many_again : (A : Type 0) (item : Option A → Format A) → ((last : Option A) → Laws A (item last)) → OneSpelling A item → (last : Option A) (end : ℕ) (xs : List A) (rest : List ℕ) → AreItems item last xs → many_at item last (length xs) end (flat_map (item None).spell xs ++ rest) ≡ Ok (xs, rest)
unfolding many_at
many_again A item laws one last end [] rest fits = refl
many_again A item laws one last end (x ∷ xs) rest fits =
    let regrouped : flat_map (item None).spell (x ∷ xs) ++ rest ≡ (item last).spell x ++ (flat_map (item None).spell xs ++ rest) =
    ap (λ (s : List ℕ). s ++ rest) (flat_map-cons (item None).spell x xs) ∙ append_assoc ((item None).spell x) (flat_map (item None).spell xs) rest ∙ ap (λ (s : List ℕ). s ++ (flat_map (item None).spell xs ++ rest)) (sym (one last x)) in
    ap (many_at item last (suc (length xs)) end) regrouped
    ∙ ap (λ (r : Result (A × List ℕ) WireFault). r >>= λ (y : A × List ℕ). many_at item (Some y.0) (length xs) end y.1 >>= λ ys. Ok (y.0 ∷ ys.0, ys.1)) ((laws last).again end x (flat_map (item None).spell xs ++ rest) fits.0)
    ∙ ap (λ (r : Result (List A × List ℕ) WireFault). r >>= λ (ys : List A × List ℕ). Ok (x ∷ ys.0, ys.1)) (many_again A item laws one (Some x) end xs rest fits.1)

pub many_laws : (A : Type 0) (item : Option A → Format A) → ((last : Option A) → Laws A (item last)) → OneSpelling A item → (n : ℕ) → Laws (List A) (many item n)
many_laws A item laws one n = record {
  takes = λ end bytes x fits e. many_take A item laws one None n end bytes x fits e;
  again = λ end xs rest fits. subst (λ (k : ℕ). many_at item None k end (flat_map (item None).spell xs ++ rest) ≡ Ok (xs, rest)) fits.0 (many_again A item laws one None end xs rest fits.1);
}

pub counted_laws : (A : Type 0) (count : Format ℕ) (item : Option A → Format A) → Laws ℕ count → ((last : Option A) → Laws A (item last)) → OneSpelling A item → Laws (List A) (counted count item)
counted_laws A count item count_is laws one =
    shaped_laws (List A) (ℕ × List A) (λ xs. (length xs, xs)) (λ p. p.1) (count ▷ λ n. many item n)
    (next_laws ℕ (List A) count (λ n. many item n) count_is (λ n. many_laws A item laws one n))
    (λ xs. refl)
    (λ p fits. ap (λ (n : ℕ). (n, p.1)) fits.1.0)

-- ---- values of several forms

-- what a branch of this number reads is laid out under that number
abbrev pub TookContent : {A : Type 0} → (A → Layout) → ℕ → List ℕ → A × List ℕ → Type 0
TookContent laid tag bytes x = Takes bytes (content_spelling (laid x.0)) x.1 × ContentFits (laid x.0) × ((laid x.0).tag ≡ tag)

abbrev pub IsBranch : {A : Type 0} → (A → Layout) → Branch A → Type 0
IsBranch {A} laid b = (end : ℕ) (bytes : List ℕ) (x : A × List ℕ) → IsBytes bytes → b.1 end bytes ≡ Ok x → TookContent laid b.0 bytes x

pub branch_law : (A B : Type 0) (laid : A → Layout) (tag : ℕ) (make : B → A) (f : Format B) → Laws B f → ((b : B) → content_spelling (laid (make b)) ≡ f.spell b) → ((b : B) → f.Fits b → ContentFits (laid (make b))) → ((b : B) → (laid (make b)).tag ≡ tag) → IsBranch laid (tag, made make f)
branch_law A B laid tag make f laws spelled fit tagged_so end bytes x fits e =
    let a = bind_ok (f.read end bytes) (λ (y : B × List ℕ). Ok (make y.0, y.1)) x e in
    let t = laws.takes end bytes a.0 fits a.1 in
    let whole : A × List ℕ = (make a.0.0, a.0.1) in
    subst (λ (y : A × List ℕ). TookContent laid tag bytes y) (ok_is whole x a.2)
    (subst (λ (s : List ℕ). Takes bytes s a.0.1) (sym (spelled a.0.0)) t.0, fit a.0.0 t.1, tagged_so a.0.0)

pub chosen_takes : (A : Type 0) (laid : A → Layout) (branches : List (Branch A)) → AllByRecursion (IsBranch laid) branches → (fault : WireFault) (tag : ℕ) (end : ℕ) (bytes : List ℕ) (x : A × List ℕ) → IsBytes bytes → chosen_at branches fault tag end bytes ≡ Ok x → TookContent laid tag bytes x
chosen_takes A laid [] all fault tag end bytes x fits e = absurd cc
chosen_takes A laid (b ∷ bs) all fault tag end bytes x fits e =
    elim (chosen (eqb tag b.0) (b.1 end bytes) (chosen_at bs fault tag end bytes) (fine x) e) [
      | inl here ↦ subst (λ (k : ℕ). TookContent laid k bytes x) (sym (eqb-true _ _ here.0)) (all.0 end bytes x fits here.1)
      | inr there ↦ chosen_takes A laid bs all.1 fault tag end bytes x fits there.1
    ]

pub made_again : (A B : Type 0) (make : B → A) (f : Format B) → Laws B f → (b : B) (end : ℕ) (rest : List ℕ) → f.Fits b → made make f end (f.spell b ++ rest) ≡ Ok (make b, rest)
made_again A B make f laws b end rest fits = ap (λ (r : Result (B × List ℕ) WireFault). r >>= λ (y : B × List ℕ). Ok (make y.0, y.1)) (laws.again end b rest fits)

tagged_takes : (A : Type 0) (laid : A → Layout) (branches : List (Branch A)) → AllByRecursion (IsBranch laid) branches → (end : ℕ) (bytes : List ℕ) (x : A × List ℕ) → IsBytes bytes → (tagged laid branches).read end bytes ≡ Ok x → Took (tagged laid branches) bytes x
tagged_takes A laid branches all end bytes x fits e =
    let a = bind_ok (byte_at end bytes) (λ (tag : ℕ × List ℕ). chosen_at branches (Value (place end bytes)) tag.0 end tag.1) x e in
    let t = byte_laws.takes end bytes a.0 fits a.1 in
    let u = chosen_takes A laid branches all (Value (place end bytes)) a.0.0 end a.0.1 x t.0.rest_fits a.2 in
    let both = Takes-then bytes (a.0.0 ∷ []) a.0.1 (content_spelling (laid x.0)) x.1 t.0 u.0 in
    (subst (λ (k : ℕ). Takes bytes (k ∷ content_spelling (laid x.0)) x.1) (sym u.2) both, u.1)

pub tagged_laws : (A : Type 0) (laid : A → Layout) (branches : List (Branch A)) → AllByRecursion (IsBranch laid) branches → ((end : ℕ) (x : A) (rest : List ℕ) → (tagged laid branches).Fits x → (tagged laid branches).read end ((tagged laid branches).spell x ++ rest) ≡ Ok (x, rest)) → Laws A (tagged laid branches)
tagged_laws A laid branches all again = record { takes = tagged_takes A laid branches all; again = again }
