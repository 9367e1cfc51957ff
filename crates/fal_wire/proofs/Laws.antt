-- A format is lawful: what is read is spelled so, and what is spelled so is read. Each way to put formats together keeps that.
use Rattle.std.proofs.Common.{◌≡◌, ◌⊎◌, ℕ, suc, Bool, true, false, cond, List, [], ◌∷◌, ◌++◌, Result, Ok, Err, refl, sym, ap, subst, ◌∙◌, append_assoc, inl, inr}
use Rattle.fal_wire.specs.declared.fault.WireFault.{WireFault}
use Rattle.fal_wire.specs.declared.fault.WireFault.TheVariants.{Value}
use Rattle.fal_wire.specs.Format.{◌>>=◌, place, Format, byte, byte_at, passed, judged, ◌▷◌, ◌⊗◌, shaped, nothing, IsBytes}

-- the value of a step that did not fail
pub bind_ok : {A B : Type 0} (r : Result A WireFault) (f : A → Result B WireFault) (y : B) → (r >>= f) ≡ Ok y → (x : A) × (r ≡ Ok x) × (f x ≡ Ok y)
bind_ok (Ok x) f y e = (x, refl, e)
bind_ok (Err d) f y e = absurd cc

-- a test that did not fail
pub guard_ok : {A : Type 0} (b : Bool) (d : WireFault) (x y : A) → cond b (Err d) (Ok x) ≡ Ok y → (b ≡ false) × (x ≡ y)
guard_ok true d x y e = absurd cc
guard_ok false d x y e = (refl, cc)

pub pass_ok : {A : Type 0} (b : Bool) (d : WireFault) (x y : A) → cond b (Ok x) (Err d) ≡ Ok y → (b ≡ true) × (x ≡ y)
pass_ok true d x y e = (refl, cc)
pass_ok false d x y e = absurd cc

-- which side of a choice was taken
pub chosen : {A : Type 0} (b : Bool) (x y z : A) → cond b x y ≡ z → ((b ≡ true) × (x ≡ z)) ⊎ ((b ≡ false) × (y ≡ z))
chosen true x y z e = inl (refl, e)
chosen false x y z e = inr (refl, e)

abbrev pub fine : {A : Type 0} → A → Result A WireFault
fine x = Ok x

pub ok_is : {A : Type 0} (x y : A) → fine x ≡ fine y → x ≡ y
ok_is x y e = cc

-- what a reader took from the front
pub record Takes (bytes spelled rest : List ℕ) : Type 0 where
  pub parts : bytes ≡ spelled ++ rest
  pub rest_fits : IsBytes rest

pub Takes-then : (a x b y c : List ℕ) → Takes a x b → Takes b y c → Takes a (x ++ y) c
Takes-then a x b y c p q = record { parts = p.parts ∙ ap (λ (t : List ℕ). x ++ t) q.parts ∙ sym (append_assoc x y c); rest_fits = q.rest_fits }

-- what a reader that answered Ok has read
abbrev pub Took : {A : Type 0} → Format A → List ℕ → A × List ℕ → Type 0
Took f bytes x = Takes bytes (f.spell x.0) x.1 × f.Fits x.0

pub record Laws (A : Type 0) (f : Format A) : Type 0 where
  pub takes : (end : ℕ) (bytes : List ℕ) (x : A × List ℕ) → IsBytes bytes → f.read end bytes ≡ Ok x → Took f bytes x
  pub again : (end : ℕ) (x : A) (rest : List ℕ) → f.Fits x → f.read end (f.spell x ++ rest) ≡ Ok (x, rest)

-- ---- a field with a test

judged_takes : (A : Type 0) (f : Format A) (test : A → Bool) → Laws A f → (end : ℕ) (bytes : List ℕ) (x : A × List ℕ) → IsBytes bytes → (judged f test).read end bytes ≡ Ok x → Took (judged f test) bytes x
judged_takes A f test laws end bytes x fits e =
    let a = bind_ok (f.read end bytes) (passed test (place end bytes)) x e in
    let g = pass_ok (test a.0.0) (Value (place end bytes)) a.0 x a.2 in
    let t = laws.takes end bytes a.0 fits a.1 in
    subst (λ (y : A × List ℕ). Took (judged f test) bytes y) g.1 (t.0, (t.1, g.0))

pub judged_laws : (A : Type 0) (f : Format A) (test : A → Bool) → Laws A f → Laws A (judged f test)
judged_laws A f test laws = record {
  takes = judged_takes A f test laws;
  again = λ end x rest fits. ap (λ (r : Result (A × List ℕ) WireFault). r >>= passed test (place end (f.spell x ++ rest))) (laws.again end x rest fits.0) ∙ rw fits.1 refl;
}

-- ---- a field and the next

next_takes : (A B : Type 0) (f : Format A) (g : A → Format B) → Laws A f → ((a : A) → Laws B (g a)) → (end : ℕ) (bytes : List ℕ) (x : (A × B) × List ℕ) → IsBytes bytes → (f ▷ g).read end bytes ≡ Ok x → Took (f ▷ g) bytes x
next_takes A B f g first second end bytes x fits e =
    let a = bind_ok (f.read end bytes) (λ (a : A × List ℕ). (g a.0).read end a.1 >>= λ b. Ok ((a.0, b.0), b.1)) x e in
    let b = bind_ok ((g a.0.0).read end a.0.1) (λ (b : B × List ℕ). Ok ((a.0.0, b.0), b.1)) x a.2 in
    let t = first.takes end bytes a.0 fits a.1 in
    let u = (second a.0.0).takes end a.0.1 b.0 t.0.rest_fits b.1 in
    let whole : (A × B) × List ℕ = ((a.0.0, b.0.0), b.0.1) in
    subst (λ (y : (A × B) × List ℕ). Took (f ▷ g) bytes y) (ok_is whole x b.2)
    (Takes-then bytes (f.spell a.0.0) a.0.1 ((g a.0.0).spell b.0.0) b.0.1 t.0 u.0, (t.1, u.1))

next_again : (A B : Type 0) (f : Format A) (g : A → Format B) → Laws A f → ((a : A) → Laws B (g a)) → (end : ℕ) (x : A × B) (rest : List ℕ) → (f ▷ g).Fits x → (f ▷ g).read end ((f ▷ g).spell x ++ rest) ≡ Ok (x, rest)
next_again A B f g first second end x rest fits =
    ap ((f ▷ g).read end) (append_assoc (f.spell x.0) ((g x.0).spell x.1) rest)
    ∙ ap (λ (r : Result (A × List ℕ) WireFault). r >>= λ (a : A × List ℕ). (g a.0).read end a.1 >>= λ b. Ok ((a.0, b.0), b.1)) (first.again end x.0 ((g x.0).spell x.1 ++ rest) fits.0)
    ∙ ap (λ (r : Result (B × List ℕ) WireFault). r >>= λ (b : B × List ℕ). Ok ((x.0, b.0), b.1)) ((second x.0).again end x.1 rest fits.1)

pub next_laws : (A B : Type 0) (f : Format A) (g : A → Format B) → Laws A f → ((a : A) → Laws B (g a)) → Laws (A × B) (f ▷ g)
next_laws A B f g first second = record { takes = next_takes A B f g first second; again = next_again A B f g first second }

pub both_laws : {A B : Type 0} {f : Format A} {g : Format B} → Laws A f → Laws B g → Laws (A × B) (f ⊗ g)
both_laws {A} {B} {f} {g} first second = next_laws A B f (λ _. g) first (λ _. second)

-- ---- the fields of a record

shaped_takes : (A B : Type 0) (fields : A → B) (make : B → A) (f : Format B) → Laws B f → ((b : B) → f.Fits b → fields (make b) ≡ b) → (end : ℕ) (bytes : List ℕ) (x : A × List ℕ) → IsBytes bytes → (shaped fields make f).read end bytes ≡ Ok x → Took (shaped fields make f) bytes x
shaped_takes A B fields make f laws forth end bytes x fits e =
    let a = bind_ok (f.read end bytes) (λ (y : B × List ℕ). Ok (make y.0, y.1)) x e in
    let t = laws.takes end bytes a.0 fits a.1 in
    let whole : A × List ℕ = (make a.0.0, a.0.1) in
    subst (λ (y : A × List ℕ). Took (shaped fields make f) bytes y) (ok_is whole x a.2)
    (subst (λ (b : B). Takes bytes (f.spell b) a.0.1 × f.Fits b) (sym (forth a.0.0 t.1)) t)

pub shaped_laws : (A B : Type 0) (fields : A → B) (make : B → A) (f : Format B) → Laws B f → ((a : A) → make (fields a) ≡ a) → ((b : B) → f.Fits b → fields (make b) ≡ b) → Laws A (shaped fields make f)
shaped_laws A B fields make f laws back forth = record {
  takes = shaped_takes A B fields make f laws forth;
  again = λ end x rest fits. ap (λ (r : Result (B × List ℕ) WireFault). r >>= λ (y : B × List ℕ). Ok (make y.0, y.1)) (laws.again end (fields x) rest fits) ∙ ap (λ (a : A). fine (a, rest)) (back x);
}

-- ---- one byte, and none

pub IsBytes-rest : (b : ℕ) (bytes : List ℕ) → IsBytes (b ∷ bytes) → IsBytes bytes
IsBytes-rest b bytes h i = h (suc i)

byte_takes : (end : ℕ) (bytes : List ℕ) (x : ℕ × List ℕ) → IsBytes bytes → byte_at end bytes ≡ Ok x → Took byte bytes x
byte_takes end [] x fits e = absurd cc
byte_takes end (b ∷ rest) x fits e =
    subst (λ (y : ℕ × List ℕ). Took byte (b ∷ rest) y) (ok_is (b, rest) x e) (record { parts = refl; rest_fits = IsBytes-rest b rest fits }, fits 0)

pub byte_laws : Laws ℕ byte
byte_laws = record { takes = byte_takes; again = λ end x rest fits. refl }

nothing_takes : (end : ℕ) (bytes : List ℕ) (x : Unit {0} × List ℕ) → IsBytes bytes → nothing.read end bytes ≡ Ok x → Took nothing bytes x
nothing_takes end bytes x fits e = subst (λ (y : Unit {0} × List ℕ). Took nothing bytes y) (ok_is (tt, bytes) x e) (record { parts = refl; rest_fits = fits }, tt)

pub nothing_laws : Laws (Unit {0}) nothing
nothing_laws = record { takes = nothing_takes; again = λ end x rest fits. refl }
