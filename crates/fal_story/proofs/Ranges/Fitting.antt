-- Which operations a record can hold, by tests.
use Rattle.std.proofs.Common.{◌≡◌, ◌↔◌, ℕ, ◌+◌, ◌<◌, ◌≤◌, ◌^◌, Bool, true, false, cond, ◌&&◌, List, [], ◌∷◌, length, Option, Some, None, Result, Err, refl, sym, ◌∙◌, IsTrue, arith}
use Rattle.std.specs.Prelude.{is_ok, nat_le, nat_lt, ◌==◌}
use Rattle.std.specs.List.{All, list_all}
use Rattle.std.proofs.lemmas.Bool.Decides.{nat_tests}
use Rattle.std.proofs.lemmas.List.Elements.{All-cons, All-head, All-nil, All-tail}
use Rattle.std.proofs.lemmas.List.Sums.{sum_by-cons}
use Rattle.fal_base.specs.declared.call.Call.{Call}
use Rattle.fal_base.specs.declared.op.Op.{Op}
use Rattle.fal_base.specs.declared.op.Op.TheVariants as op
use Rattle.fal_base.specs.declared.path.PathArg.{PathArg}
use Rattle.fal_base.specs.declared.path.PathArg.TheVariants.{Good, Bad}
use Rattle.fal_base.specs.declared.path.PathFault.{PathFault}
use Rattle.fal_base.specs.declared.rule.Rule.{Rule}
use Rattle.fal_base.specs.declared.rule.Rule.TheVariants as rule
use Rattle.fal_base.specs.OpPaths.{bad_path, fault_of, paths_of}
use Rattle.fal_base.specs.PathArgs.{IsRead}
use Rattle.fal_story.specs.Held.{ArePathsHeld}
use Rattle.fal_story.specs.Clusters.{IsCall, IsCallInRange, IsOpInRange, IsPathInRange, IsRuleInRange}
use Rattle.fal_wire.specs.Format.{AreItems}
use Rattle.fal_base.specs.Names.{is_name}
use Rattle.fal_base.specs.Paths.{path_bytes}
use Rattle.fal_wire.specs.Names.{name_field, path_names, path_field, path_arg_field}
use Rattle.fal_wire.specs.Numbers.{cred_field, mode_field, want_field, size_field}
use Rattle.fal_wire.specs.Ops.{path_and_mode, path_and_want, path_and_owner, path_and_size, two_paths, name_and_rule, op_field}
use Rattle.fal_wire.specs.Rows.{rule_field}

-- ---- names

both_true : (a b : Bool) → (a && b) ≡ true → (a ≡ true) × (b ≡ true)
both_true true b h = (refl, h)
both_true false b h = absurd cc

-- what passed two tests, one after the other, passed the second
second_passed : {A E : Type 0} (a b : Bool) (d e : E) (r : Result A E) → is_ok (cond a (Err d) (cond b (Err e) r)) ≡ true → b ≡ false
second_passed true b d e r h = absurd cc
second_passed false true d e r h = absurd cc
second_passed false false d e r h = refl

pub short_name : (name : List ℕ) → is_name name ≡ true → length name < 256
unfolding is_name
short_name name h = let long = second_passed (length name == 0) (nat_lt 255 (length name)) _ _ _ h in grind (arith, nat_tests)

names_fit : (before : Option (List ℕ)) (names : List (List ℕ)) → list_all is_name names ≡ true → AreItems (λ _. name_field) before names
unfolding name_field
names_fit before [] h = tt
names_fit before (name ∷ names) h =
    let both = both_true (is_name name) (list_all is_name names) h in
    ((short_name name both.0, both.0), names_fit (Some name) names both.1)

names_pass : (before : Option (List ℕ)) (names : List (List ℕ)) → AreItems (λ _. name_field) before names → list_all is_name names ≡ true
unfolding name_field
names_pass before [] fit = refl
names_pass before (name ∷ names) fit = rw fit.0.1 (names_pass (Some name) names fit.1)

-- each name has a slash before it
few_names : (names : List (List ℕ)) → length names ≤ path_bytes names
few_names [] = omega arith
few_names (name ∷ names) = let few = few_names names in let more = sum_by-cons (λ (n : List ℕ). length n + 1) name names in omega arith

pub path_fits : (names : List (List ℕ)) → nat_le (path_bytes names) 4095 ≡ true → list_all is_name names ≡ true → path_field.Fits names
unfolding path_field path_names
path_fits names short all =
    let few = few_names names in
    let most : length names < 256 ^ 2 = grind (arith, nat_tests) in
    ((most, (refl, names_fit None names all)), short)

pub path_passes : (names : List (List ℕ)) → path_field.Fits names → (nat_le (path_bytes names) 4095 ≡ true) × (list_all is_name names ≡ true)
unfolding path_field path_names
path_passes names fits = (fits.1, names_pass None names fits.0.1.1)

-- ---- operations

-- a bad path has the fault of its bytes, and a record can hold the operation where its path is good
abbrev pub IsHeldOp : Op → Type 0
IsHeldOp o = All IsRead (paths_of o) × (bad_path o ≡ None → op_field.Fits o)

-- a bad path has the fault of its bytes, and a record can hold a good one, where the rest passed a test too
abbrev pub IsHeld : PathArg → Bool → Type 0
IsHeld path rest = IsRead path × (fault_of path ≡ None → path_arg_field.Fits path × IsTrue rest)

pub good_held : (names : List (List ℕ)) (rest : Bool) → IsHeld (Good names) rest ↔ (path_field.Fits names × IsTrue rest)
unfolding path_arg_field
good_held names rest = (λ h. h.1 refl, λ h. (tt, λ good. h))

pub bad_held : (fault : PathFault) (raw : List ℕ) (rest : Bool) → IsRead (Bad fault raw) → IsHeld (Bad fault raw) rest
bad_held fault raw rest is = (is, λ good. absurd cc)

one_read : (path : PathArg) → IsRead path → All IsRead (path ∷ [])
one_read path is = All-cons IsRead path [] is (All-nil IsRead)

pub mkdir_is : (path : PathArg) (mode : ℕ) → IsHeld path (nat_lt mode 512) ↔ IsHeldOp (op.Mkdir path mode)
unfolding bad_path op_field path_and_mode mode_field
mkdir_is path mode = (
  λ h. (one_read path h.0, λ good. let p = h.1 good in (p.0, (grind (arith, nat_tests), p.1))),
  λ h. (All-head IsRead path [] h.0, λ good. let p = h.1 good in (p.0, p.1.1)),
)

pub create_is : (path : PathArg) (mode : ℕ) → IsHeld path (nat_lt mode 512) ↔ IsHeldOp (op.Create path mode)
unfolding bad_path op_field path_and_mode mode_field
create_is path mode = (
  λ h. (one_read path h.0, λ good. let p = h.1 good in (p.0, (grind (arith, nat_tests), p.1))),
  λ h. (All-head IsRead path [] h.0, λ good. let p = h.1 good in (p.0, p.1.1)),
)

pub access_is : (path : PathArg) (want : ℕ) → IsHeld path (nat_lt want 8) ↔ IsHeldOp (op.Access path want)
unfolding bad_path op_field path_and_want want_field
access_is path want = (
  λ h. (one_read path h.0, λ good. let p = h.1 good in (p.0, (grind (arith, nat_tests), p.1))),
  λ h. (All-head IsRead path [] h.0, λ good. let p = h.1 good in (p.0, p.1.1)),
)

pub truncate_is : (path : PathArg) (size : ℕ) → IsHeld path (nat_lt size (2 ^ 63)) ↔ IsHeldOp (op.Truncate path size)
unfolding bad_path op_field path_and_size size_field
truncate_is path size = (
  λ h. (one_read path h.0, λ good. let p = h.1 good in (p.0, (grind (arith, nat_tests), p.1))),
  λ h. (All-head IsRead path [] h.0, λ good. let p = h.1 good in (p.0, p.1.1)),
)

pub stat_is : (path : PathArg) → IsHeld path true ↔ IsHeldOp (op.Stat path)
unfolding bad_path op_field
stat_is path = (λ h. (one_read path h.0, λ good. (h.1 good).0), λ h. (All-head IsRead path [] h.0, λ good. (h.1 good, refl)))

pub list_is : (path : PathArg) → IsHeld path true ↔ IsHeldOp (op.List path)
unfolding bad_path op_field
list_is path = (λ h. (one_read path h.0, λ good. (h.1 good).0), λ h. (All-head IsRead path [] h.0, λ good. (h.1 good, refl)))

pub unlink_is : (path : PathArg) → IsHeld path true ↔ IsHeldOp (op.Unlink path)
unfolding bad_path op_field
unlink_is path = (λ h. (one_read path h.0, λ good. (h.1 good).0), λ h. (All-head IsRead path [] h.0, λ good. (h.1 good, refl)))

pub rmdir_is : (path : PathArg) → IsHeld path true ↔ IsHeldOp (op.Rmdir path)
unfolding bad_path op_field
rmdir_is path = (λ h. (one_read path h.0, λ good. (h.1 good).0), λ h. (All-head IsRead path [] h.0, λ good. (h.1 good, refl)))

pub chmod_is : (path : PathArg) (mode : ℕ) → IsHeld path (nat_lt mode 512) ↔ IsHeldOp (op.Chmod path mode)
unfolding bad_path op_field path_and_mode mode_field
chmod_is path mode = (
  λ h. (one_read path h.0, λ good. let p = h.1 good in (p.0, (grind (arith, nat_tests), p.1))),
  λ h. (All-head IsRead path [] h.0, λ good. let p = h.1 good in (p.0, p.1.1)),
)

-- the numbers of a user and of a group are as wide as their fields
pub chown_is : (path : PathArg) (uid gid : ℕ) → uid < 2 ^ 32 → gid < 2 ^ 32 → IsHeld path true ↔ IsHeldOp (op.Chown path uid gid)
unfolding bad_path op_field path_and_owner
chown_is path uid gid user group =
    let of_user : uid < 256 ^ 4 = omega arith in
    let of_group : gid < 256 ^ 4 = omega arith in (
      λ h. (one_read path h.0, λ good. ((h.1 good).0, (of_user, of_group))),
      λ h. (All-head IsRead path [] h.0, λ good. ((h.1 good).0, refl)),
    )

pub good_paths_held : (old new : List (List ℕ)) → ArePathsHeld (Good old) (Good new) ↔ (path_field.Fits old × path_field.Fits new)
unfolding bad_path path_arg_field
good_paths_held old new = (λ h. h.2 refl, λ h. (tt, tt, λ good. h))

-- where one of the two paths is bad
pub bad_paths_held : (old new : PathArg) (fault : PathFault) → bad_path (op.Rename old new) ≡ Some fault → ArePathsHeld old new ↔ (IsRead old × IsRead new)
bad_paths_held old new fault bad = (λ h. (h.0, h.1), λ h. (h.0, h.1, λ good. let wrong : ◌≡◌ {A = Option PathFault} (Some fault) None = sym bad ∙ good in absurd cc))

pub rename_is : (old new : PathArg) → ArePathsHeld old new ↔ IsHeldOp (op.Rename old new)
unfolding op_field two_paths
rename_is old new = (
  λ h. (All-cons IsRead old (new ∷ []) h.0 (one_read new h.1), h.2),
  λ h. (All-head IsRead old (new ∷ []) h.0, All-head IsRead new [] (All-tail IsRead old (new ∷ []) h.0), h.1),
)

rule_fits : (rule : Rule) → IsRuleInRange rule → rule_field.Fits rule
unfolding rule_field
rule_fits rule.Hash is = tt
rule_fits rule.ByParent is = tt
rule_fits (rule.Node node) is = omega arith

rule_passes : (rule : Rule) → rule_field.Fits rule → IsRuleInRange rule
unfolding rule_field
rule_passes rule.Hash fits = tt
rule_passes rule.ByParent fits = tt
rule_passes (rule.Node node) fits = omega arith

pub place_is : (name : List ℕ) (rule : Rule) → (IsTrue (is_name name) × IsRuleInRange rule) ↔ IsHeldOp (op.Place name rule)
unfolding bad_path op_field name_and_rule name_field
place_is name rule = (
  λ is. (All-nil IsRead, λ good. ((short_name name is.0, is.0), rule_fits rule is.1)),
  λ h. let fits = h.1 refl in (fits.0.1, rule_passes rule fits.1),
)

-- one thing as good as another, which is as good as a third
pub as_good : {A B C : Type 0} → A ↔ B → B ↔ C → A ↔ C
as_good f g = (λ a. g.0 (f.0 a), λ c. f.1 (g.1 c))

pub at_most : (n most : ℕ) → n ≤ most → nat_le n most ≡ true
at_most n most h = grind (arith, nat_tests)

-- ---- calls in range

held_in_range : (path : PathArg) (rest : Bool) → IsPathInRange path → rest ≡ true → IsHeld path rest
held_in_range (Good names) rest is passed = (good_held names rest).1 (path_fits names (at_most (path_bytes names) 4095 is.1) is.0, passed)
held_in_range (Bad fault raw) rest is passed = bad_held fault raw rest is

paths_in_range : (old new : PathArg) → IsPathInRange old → IsPathInRange new → ArePathsHeld old new
unfolding bad_path
paths_in_range (Good old) (Good new) of_old of_new =
    (good_paths_held old new).1 (path_fits old (at_most (path_bytes old) 4095 of_old.1) of_old.0, path_fits new (at_most (path_bytes new) 4095 of_new.1) of_new.0)
paths_in_range (Good old) (Bad fault raw) of_old of_new = (bad_paths_held (Good old) (Bad fault raw) fault refl).1 (tt, of_new)
paths_in_range (Bad fault raw) (Good new) of_old of_new = (bad_paths_held (Bad fault raw) (Good new) fault refl).1 (of_old, tt)
paths_in_range (Bad fault raw) (Bad other bytes) of_old of_new = (bad_paths_held (Bad fault raw) (Bad other bytes) fault refl).1 (of_old, of_new)

low : (n most : ℕ) → n < most → nat_lt n most ≡ true
low n most less = grind (arith, nat_tests)

op_in_range : (o : Op) → IsOpInRange o → IsHeldOp o
op_in_range (op.Mkdir path mode) is = (mkdir_is path mode).0 (held_in_range path (nat_lt mode 512) is.0 (low mode 512 is.1))
op_in_range (op.Create path mode) is = (create_is path mode).0 (held_in_range path (nat_lt mode 512) is.0 (low mode 512 is.1))
op_in_range (op.Stat path) is = (stat_is path).0 (held_in_range path true is refl)
op_in_range (op.Access path want) is = (access_is path want).0 (held_in_range path (nat_lt want 8) is.0 (low want 8 is.1))
op_in_range (op.Truncate path size) is = (truncate_is path size).0 (held_in_range path (nat_lt size (2 ^ 63)) is.0 (low size (2 ^ 63) is.1))
op_in_range (op.Unlink path) is = (unlink_is path).0 (held_in_range path true is refl)
op_in_range (op.Chmod path mode) is = (chmod_is path mode).0 (held_in_range path (nat_lt mode 512) is.0 (low mode 512 is.1))
op_in_range (op.Chown path uid gid) is = (chown_is path uid gid is.1 is.2).0 (held_in_range path true is.0 refl)
op_in_range (op.Rmdir path) is = (rmdir_is path).0 (held_in_range path true is refl)
op_in_range (op.Rename old new) is = (rename_is old new).0 (paths_in_range old new is.0 is.1)
op_in_range (op.List path) is = (list_is path).0 (held_in_range path true is refl)
op_in_range (op.Place name rule) is = (place_is name rule).0 is

pub call_in_range : (call : Call) → IsCallInRange call → IsCall call
unfolding cred_field
call_in_range call is =
    let uid_small = is.uid in
    let gid_small = is.gid in
    let uid : call.cred.uid < 256 ^ 4 = omega arith in
    let gid : call.cred.gid < 256 ^ 4 = omega arith in
    let can = op_in_range call.op is.op in
    record { read = can.0; fits = λ good. ((uid, gid), can.1 good) }
