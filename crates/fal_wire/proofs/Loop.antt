-- Reading items one after the other, as a loop does.
use Rattle.std.proofs.Common.{◌≡◌, ℕ, suc, ◌-◌, ◌+◌, ◌≤◌, ◌<◌, List, [], ◌∷◌, ◌++◌, length, Option, Some, None, Result, Ok, Err, refl, sym, ap, ◌∙◌, append_assoc, arith}
use Rattle.std.specs.Prelude.{slice_get}
use Rattle.std.proofs.lemmas.List.{append-nil, length-append}
use Rattle.fal_wire.specs.declared.fault.WireFault.{WireFault}
use Rattle.fal_wire.specs.declared.fault.Stop.{Stop}
use Rattle.fal_wire.specs.declared.fault.Stop.TheVariants.{Memory, Fault}
use Rattle.fal_wire.specs.Format.{◌>>=◌, Format, many_at}
use Rattle.fal_wire.specs.Gives.{Fails}

-- what was read before, and what is still read
abbrev pub with_front : {A : Type 0} → List A → Result (List A × List ℕ) WireFault → Result (List A × List ℕ) WireFault
with_front front read = read >>= λ x. Ok (front ++ x.0, x.1)

-- the last item, if there is one
abbrev pub last_of : {A : Type 0} → List A → Option A
last_of xs = slice_get xs (length xs - 1)

at_seam : {A : Type 0} (xs : List A) (x : A) → slice_get (xs ++ x ∷ []) (length xs) ≡ Some x
at_seam [] x = refl
at_seam (y ∷ ys) x = at_seam ys x

last_push : {A : Type 0} (xs : List A) (x : A) → last_of (xs ++ x ∷ []) ≡ Some x
last_push xs x = let k : length (xs ++ x ∷ []) - 1 ≡ length xs = omega (arith, length-append xs (x ∷ [])) in ap (slice_get (xs ++ x ∷ [])) k ∙ at_seam xs x

regroup : {A : Type 0} (front : List A) (x : A) (read : Result (List A × List ℕ) WireFault) → with_front front (read >>= λ xs. Ok (x ∷ xs.0, xs.1)) ≡ with_front (front ++ x ∷ []) read
regroup {A} front x (Ok xs) = ap (λ (ys : List A). Ok (ys, xs.1)) (simp append_assoc)
regroup front x (Err f) = refl

pub goes_on : (A : Type 0) (item : Option A → Format A) (front : List A) (count i end : ℕ) (bytes : List ℕ) (x : A) (after : List ℕ) (total : Result (List A × List ℕ) WireFault) → i < count → (item (last_of front)).read end bytes ≡ Ok (x, after)
    → with_front front (many_at item (last_of front) (count - i) end bytes) ≡ total → with_front (front ++ x ∷ []) (many_at item (last_of (front ++ x ∷ [])) (count - (i + 1)) end after) ≡ total
unfolding many_at
goes_on A item front count i end bytes x after total lt h so_far =
    let k : count - i ≡ suc (count - (i + 1)) = omega arith in
    let one : with_front front (many_at item (last_of front) (count - i) end bytes) ≡ with_front (front ++ x ∷ []) (many_at item (Some x) (count - (i + 1)) end after) =
    ap (λ (n : ℕ). with_front front (many_at item (last_of front) n end bytes)) k
    ∙ ap (λ (r : Result (A × List ℕ) WireFault). with_front front (r >>= λ (y : A × List ℕ). many_at item (Some y.0) (count - (i + 1)) end y.1 >>= λ ys. Ok (y.0 ∷ ys.0, ys.1))) h
    ∙ regroup front x (many_at item (Some x) (count - (i + 1)) end after) in
    ap (λ (last : Option A). with_front (front ++ x ∷ []) (many_at item last (count - (i + 1)) end after)) (last_push front x) ∙ sym one ∙ so_far

pub ends : (A : Type 0) (item : Option A → Format A) (stop : Stop) (front : List A) (count i end : ℕ) (bytes : List ℕ) (total : Result (List A × List ℕ) WireFault) → i < count → Fails stop ((item (last_of front)).read end bytes)
    → with_front front (many_at item (last_of front) (count - i) end bytes) ≡ total → Fails stop total
unfolding many_at
ends A item Memory front count i end bytes total lt h so_far = tt
ends A item (Fault f) front count i end bytes total lt h so_far =
    let k : count - i ≡ suc (count - (i + 1)) = omega arith in
    let one : with_front front (many_at item (last_of front) (count - i) end bytes) ≡ Err f =
    ap (λ (n : ℕ). with_front front (many_at item (last_of front) n end bytes)) k
    ∙ ap (λ (r : Result (A × List ℕ) WireFault). with_front front (r >>= λ (y : A × List ℕ). many_at item (Some y.0) (count - (i + 1)) end y.1 >>= λ ys. Ok (y.0 ∷ ys.0, ys.1))) h in
    sym so_far ∙ one

pub is_done : (A : Type 0) (item : Option A → Format A) (front : List A) (count i end : ℕ) (bytes : List ℕ) (total : Result (List A × List ℕ) WireFault) → count ≤ i → with_front front (many_at item (last_of front) (count - i) end bytes) ≡ total → total ≡ Ok (front, bytes)
unfolding many_at
is_done A item front count i end bytes total le so_far =
    let k : count - i ≡ 0 = omega arith in
    let one : with_front front (many_at item (last_of front) (count - i) end bytes) ≡ Ok (front, bytes) =
    ap (λ (n : ℕ). with_front front (many_at item (last_of front) n end bytes)) k ∙ ap (λ (xs : List A). Ok (xs, bytes)) (append-nil front) in
    sym so_far ∙ one

starts : {A : Type 0} (read : Result (List A × List ℕ) WireFault) → with_front [] read ≡ read
starts (Ok x) = refl
starts (Err f) = refl

pub begins : (A : Type 0) (item : Option A → Format A) (items : List A) (count end : ℕ) (bytes : List ℕ) → items ≡ [] → with_front items (many_at item (last_of items) (count - 0) end bytes) ≡ many_at item None count end bytes
begins A item items count end bytes none =
    ap (λ (xs : List A). with_front xs (many_at item (last_of xs) (count - 0) end bytes)) none
    ∙ ap (λ (n : ℕ). with_front [] (many_at item None n end bytes)) (omega arith)
    ∙ starts (many_at item None count end bytes)
