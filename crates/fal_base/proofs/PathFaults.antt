-- Bytes that break no rule are the path of their components.
use Rattle.std.proofs.Common.{◌≡◌, ℕ, Bool, true, false, cond, List, None, Result, Ok, Err, refl}
use Rattle.fal_base.specs.declared.path.PathFault.{PathFault}
use Rattle.fal_base.specs.declared.path.PathFault.TheVariants.{Relative, TooLong, NameTooLong, Dot, ZeroByte}
use Rattle.fal_base.specs.PathArgs.{err_of, fault_in}
use Rattle.fal_base.specs.Paths.{breaks, components, path_of}

-- the names, unless one of five tests is passed
abbrev judged : Bool → Bool → Bool → Bool → Bool → List (List ℕ) → Result (List (List ℕ)) PathFault
judged a b c d e names = cond a (Err Relative) (cond b (Err TooLong) (cond c (Err NameTooLong) (cond d (Err Dot) (cond e (Err ZeroByte) (Ok names)))))

none_passed : (a b c d e : Bool) (names : List (List ℕ)) → err_of (judged a b c d e names) ≡ None → (c ≡ false) × (judged a b c d e names ≡ Ok names)
none_passed false false false false false names is = (refl, refl)
none_passed true b c d e names is = absurd cc
none_passed false true c d e names is = absurd cc
none_passed false false true d e names is = absurd cc
none_passed false false false true e names is = absurd cc
none_passed false false false false true names is = absurd cc

pub none_broken : (bytes : List ℕ) → fault_in bytes ≡ None → (breaks NameTooLong bytes ≡ false) × (path_of bytes ≡ Ok (components bytes))
unfolding path_of
none_broken bytes is = none_passed (breaks Relative bytes) (breaks TooLong bytes) (breaks NameTooLong bytes) (breaks Dot bytes) (breaks ZeroByte bytes) (components bytes) is
