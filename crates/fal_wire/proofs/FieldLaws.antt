-- Each field is lawful.
use Rattle.std.proofs.Common.{◌≡◌, ◌++◌, ℕ, List, Option, None, Ok, refl}
use Rattle.fal_base.specs.declared.call.CallId.{CallId}
use Rattle.fal_base.specs.declared.call.Cred.{Cred}
use Rattle.fal_base.specs.declared.key.Key.{Key}
use Rattle.fal_base.specs.declared.path.PathArg.{PathArg}
use Rattle.fal_base.specs.declared.path.PathArg.TheVariants.{Good, Bad}
use Rattle.fal_wire.specs.Format.{byte, number, text, ◌⊗◌, ◌▷◌, IsBytes}
use Rattle.fal_wire.specs.Numbers.{node_field, asker_field, operation_field, version_field, mode_field, want_field, size_field, ino_field, one_or_two, at_most_two, rule_count, version_above, lane_field, ordinal_field, cred_field, id_field}
use Rattle.fal_base.specs.Names.{is_name}
use Rattle.fal_wire.specs.Names.{name_field, is_key_name, key_name_field, key_field, path_names, path_field, good_spelling, IsGood, path_arg_field, comes_after, next_name, names_field}
use Rattle.fal_wire.proofs.Laws.{Laws, Took, Takes, bind_ok, ok_is, judged_laws, next_laws, both_laws, shaped_laws, byte_laws}
use Rattle.fal_wire.proofs.NumberLaws.{number_laws, text_laws}
use Rattle.fal_wire.proofs.ListLaws.{counted_laws, made_again}
use Rattle.std.proofs.Common.{subst}

pub node_laws : Laws ℕ node_field
unfolding node_field
node_laws = judged_laws ℕ byte _ byte_laws

pub asker_laws : Laws ℕ asker_field
unfolding asker_field
asker_laws = judged_laws ℕ byte _ byte_laws

pub operation_laws : Laws ℕ operation_field
unfolding operation_field
operation_laws = judged_laws ℕ (number 4) _ (number_laws 4)

pub version_laws : Laws ℕ version_field
unfolding version_field
version_laws = judged_laws ℕ (number 4) _ (number_laws 4)

pub mode_laws : Laws ℕ mode_field
unfolding mode_field
mode_laws = judged_laws ℕ (number 2) _ (number_laws 2)

pub want_laws : Laws ℕ want_field
unfolding want_field
want_laws = judged_laws ℕ byte _ byte_laws

pub size_laws : Laws ℕ size_field
unfolding size_field
size_laws = judged_laws ℕ (number 8) _ (number_laws 8)

pub ino_laws : Laws ℕ ino_field
unfolding ino_field
ino_laws = judged_laws ℕ (number 8) _ (number_laws 8)

pub one_or_two_laws : Laws ℕ one_or_two
unfolding one_or_two
one_or_two_laws = judged_laws ℕ byte _ byte_laws

pub at_most_two_laws : Laws ℕ at_most_two
unfolding at_most_two
at_most_two_laws = judged_laws ℕ byte _ byte_laws

pub rule_count_laws : Laws ℕ rule_count
unfolding rule_count
rule_count_laws = judged_laws ℕ (number 2) _ (number_laws 2)

pub version_above_laws : (old : ℕ) → Laws ℕ (version_above old)
unfolding version_above
version_above_laws old = judged_laws ℕ (number 4) _ (number_laws 4)

lane_laws : Laws ℕ lane_field
unfolding lane_field
lane_laws = judged_laws ℕ byte _ byte_laws

ordinal_laws : Laws ℕ ordinal_field
unfolding ordinal_field
ordinal_laws = judged_laws ℕ (number 4) _ (number_laws 4)

pub cred_laws : Laws Cred cred_field
unfolding cred_field
cred_laws = shaped_laws Cred (ℕ × ℕ) _ _ (number 4 ⊗ number 4) (both_laws (number_laws 4) (number_laws 4)) (λ c. refl) (λ f fits. refl)

pub id_laws : Laws CallId id_field
unfolding id_field
id_laws = shaped_laws CallId (ℕ × (ℕ × (ℕ × ℕ))) _ _ (lane_field ⊗ ordinal_field ⊗ ordinal_field ⊗ number 4)
    (both_laws lane_laws (both_laws ordinal_laws (both_laws ordinal_laws (number_laws 4)))) (λ i. refl) (λ f fits. refl)

-- ---- names, keys, paths

pub name_laws : Laws (List ℕ) name_field
unfolding name_field
name_laws = judged_laws (List ℕ) text is_name text_laws

key_name_laws : (parent : ℕ) → Laws (List ℕ) (key_name_field parent)
unfolding key_name_field
key_name_laws parent = judged_laws (List ℕ) text (is_key_name parent) text_laws

pub key_laws : Laws Key key_field
unfolding key_field
key_laws = shaped_laws Key (ℕ × List ℕ) _ _ (number 8 ▷ key_name_field) (next_laws ℕ (List ℕ) (number 8) key_name_field (number_laws 8) key_name_laws) (λ k. refl) (λ f fits. refl)

path_names_laws : Laws (List (List ℕ)) path_names
unfolding path_names
path_names_laws = counted_laws (List ℕ) (number 2) (λ _. name_field) (number_laws 2) (λ _. name_laws) (λ last x. refl)

path_laws : Laws (List (List ℕ)) path_field
unfolding path_field
path_laws = judged_laws (List (List ℕ)) path_names _ path_names_laws

path_arg_takes : (end : ℕ) (bytes : List ℕ) (x : PathArg × List ℕ) → IsBytes bytes → path_arg_field.read end bytes ≡ Ok x → Took path_arg_field bytes x
unfolding path_arg_field
path_arg_takes end bytes x fits e =
    let a = bind_ok (path_field.read end bytes) (λ (y : List (List ℕ) × List ℕ). Ok (Good y.0, y.1)) x e in
    let t = path_laws.takes end bytes a.0 fits a.1 in
    let whole : PathArg × List ℕ = (Good a.0.0, a.0.1) in
    subst (λ (y : PathArg × List ℕ). Takes bytes (good_spelling y.0) y.1 × IsGood y.0) (ok_is whole x a.2) t

path_arg_again : (end : ℕ) (x : PathArg) (rest : List ℕ) → path_arg_field.Fits x → path_arg_field.read end (path_arg_field.spell x ++ rest) ≡ Ok (x, rest)
unfolding path_arg_field
path_arg_again end (Good names) rest fits = made_again PathArg (List (List ℕ)) Good path_field path_laws names end rest fits
path_arg_again end (Bad fault raw) rest fits = absurd fits

pub path_arg_laws : Laws PathArg path_arg_field
path_arg_laws = record { takes = path_arg_takes; again = path_arg_again }

next_name_laws : (last : Option (List ℕ)) → Laws (List ℕ) (next_name last)
unfolding next_name
next_name_laws last = judged_laws (List ℕ) name_field (comes_after last) name_laws

next_name_spelling : (last : Option (List ℕ)) (x : List ℕ) → (next_name last).spell x ≡ (next_name None).spell x
unfolding next_name
next_name_spelling last x = refl

pub names_laws : Laws (List (List ℕ)) names_field
unfolding names_field
names_laws = counted_laws (List ℕ) (number 4) next_name (number_laws 4) next_name_laws next_name_spelling
