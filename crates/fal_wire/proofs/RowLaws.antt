-- Inodes, rows, rules and answers are lawful.
use Rattle.std.proofs.Common.{◌≡◌, ◌++◌, ◌∷◌, ℕ, List, [], Option, Some, None, Ok, refl}
use Rattle.fal_base.specs.declared.inode.Dentry.{Dentry}
use Rattle.fal_base.specs.declared.inode.Inode.{Inode}
use Rattle.fal_base.specs.declared.inode.Kind.{Kind}
use Rattle.fal_base.specs.declared.inode.Kind.TheVariants.{Dir as DirKind, File as FileKind}
use Rattle.fal_base.specs.declared.key.Key.{Key}
use Rattle.fal_base.specs.declared.reply.Errno.{Errno}
use Rattle.fal_base.specs.declared.reply.Errno.TheVariants.{Eacces, Ebusy, Eexist, Einval, Eisdir, Enametoolong, Enoent, Enospc, Enotdir, Enotempty, Eperm}
use Rattle.fal_base.specs.declared.reply.Reply.{Reply}
use Rattle.fal_base.specs.declared.reply.Reply.TheVariants.{Fine, Fail, Stat, Names}
use Rattle.fal_base.specs.declared.row.NamedRow.{NamedRow}
use Rattle.fal_base.specs.declared.row.Update.{Update}
use Rattle.fal_base.specs.declared.rule.Rule.{Rule}
use Rattle.fal_base.specs.declared.rule.Rule.TheVariants.{Hash, ByParent, Node}
use Rattle.fal_base.specs.declared.rule.RuleChange.{RuleChange}
use Rattle.fal_wire.specs.declared.message.Found.{Found}
use Rattle.fal_wire.specs.declared.message.Found.TheVariants.{Nothing, File, Dir}
use Rattle.fal_wire.specs.Format.{number, ◌⊗◌, nothing}
use Rattle.fal_wire.specs.Numbers.{ino_field, mode_field, size_field, one_or_two, at_most_two, rule_count}
use Rattle.fal_wire.specs.Names.{name_field, key_field}
use Rattle.fal_wire.specs.Rows.{kind_layout, kind_branches, kind_field, inode_field, dentry_field, row_layout, row_branches, row_field, update_field, parent_of, is_above, next_parent, next_row, rows_field, keys_field, updates_field, rule_layout, rule_branches, rule_field, next_version, next_change, changes_field, found_layout, found_branches, found_field, errno_layout, errno_branches, errno_field, reply_layout, reply_branches, reply_field}
use Rattle.fal_wire.proofs.Laws.{Laws, judged_laws, both_laws, shaped_laws, nothing_laws}
use Rattle.fal_wire.proofs.NumberLaws.{number_laws}
use Rattle.fal_wire.proofs.ListLaws.{IsBranch, branch_law, made_again, tagged_laws, counted_laws}
use Rattle.fal_wire.proofs.FieldLaws.{ino_laws, mode_laws, size_laws, one_or_two_laws, at_most_two_laws, rule_count_laws, name_laws, key_laws}

kind_again : (end : ℕ) (x : Kind) (rest : List ℕ) → kind_field.Fits x → kind_field.read end (kind_field.spell x ++ rest) ≡ Ok (x, rest)
unfolding kind_field
kind_again end FileKind rest fits = refl
kind_again end DirKind rest fits = refl

kind_laws : Laws Kind kind_field
unfolding kind_field
kind_laws = tagged_laws Kind kind_layout kind_branches (
  branch_law Kind (Unit {0}) kind_layout 0 (λ _. FileKind) nothing nothing_laws (λ _. refl) (λ _ fits. fits) (λ _. refl),
  (branch_law Kind (Unit {0}) kind_layout 1 (λ _. DirKind) nothing nothing_laws (λ _. refl) (λ _ fits. fits) (λ _. refl), tt),
)
    kind_again

pub inode_laws : Laws Inode inode_field
unfolding inode_field
inode_laws = shaped_laws Inode (ℕ × (Kind × (ℕ × (ℕ × (ℕ × ℕ))))) _ _ (ino_field ⊗ kind_field ⊗ mode_field ⊗ number 4 ⊗ number 4 ⊗ size_field)
    (both_laws ino_laws (both_laws kind_laws (both_laws mode_laws (both_laws (number_laws 4) (both_laws (number_laws 4) size_laws))))) (λ i. refl) (λ f fits. refl)

pub dentry_laws : Laws Dentry dentry_field
unfolding dentry_field
dentry_laws = shaped_laws Dentry (ℕ × (ℕ × (ℕ × ℕ))) _ _ (ino_field ⊗ mode_field ⊗ number 4 ⊗ number 4)
    (both_laws ino_laws (both_laws mode_laws (both_laws (number_laws 4) (number_laws 4)))) (λ d. refl) (λ f fits. refl)

row_again : (end : ℕ) (x : Option Inode) (rest : List ℕ) → row_field.Fits x → row_field.read end (row_field.spell x ++ rest) ≡ Ok (x, rest)
unfolding row_field
row_again end None rest fits = refl
row_again end (Some inode) rest fits = made_again (Option Inode) Inode (λ i. Some i) inode_field inode_laws inode end rest fits

row_laws : Laws (Option Inode) row_field
unfolding row_field
row_laws = tagged_laws (Option Inode) row_layout row_branches (
  branch_law (Option Inode) (Unit {0}) row_layout 0 (λ _. None) nothing nothing_laws (λ _. refl) (λ _ fits. fits) (λ _. refl),
  (branch_law (Option Inode) Inode row_layout 1 (λ i. Some i) inode_field inode_laws (λ _. refl) (λ _ fits. fits) (λ _. refl), tt),
)
    row_again

update_laws : Laws Update update_field
unfolding update_field
update_laws = shaped_laws Update (Key × Option Inode) _ _ (key_field ⊗ row_field) (both_laws key_laws row_laws) (λ u. refl) (λ f fits. refl)

next_parent_laws : (last : Option NamedRow) → Laws ℕ (next_parent last)
unfolding next_parent
next_parent_laws last = judged_laws ℕ (number 8) (is_above (parent_of last)) (number_laws 8)

next_row_laws : (last : Option NamedRow) → Laws NamedRow (next_row last)
unfolding next_row
next_row_laws last = shaped_laws NamedRow (ℕ × Inode) _ _ (next_parent last ⊗ inode_field) (both_laws (next_parent_laws last) inode_laws) (λ r. refl) (λ f fits. refl)

next_row_spelling : (last : Option NamedRow) (x : NamedRow) → (next_row last).spell x ≡ (next_row None).spell x
unfolding next_row next_parent
next_row_spelling last x = refl

pub rows_laws : Laws (List NamedRow) rows_field
unfolding rows_field
rows_laws = counted_laws NamedRow (number 4) next_row (number_laws 4) next_row_laws next_row_spelling

pub keys_laws : Laws (List Key) keys_field
unfolding keys_field
keys_laws = counted_laws Key one_or_two (λ _. key_field) one_or_two_laws (λ _. key_laws) (λ last x. refl)

pub updates_laws : Laws (List Update) updates_field
unfolding updates_field
updates_laws = counted_laws Update at_most_two (λ _. update_field) at_most_two_laws (λ _. update_laws) (λ last x. refl)

rule_again : (end : ℕ) (x : Rule) (rest : List ℕ) → rule_field.Fits x → rule_field.read end (rule_field.spell x ++ rest) ≡ Ok (x, rest)
unfolding rule_field
rule_again end Hash rest fits = refl
rule_again end ByParent rest fits = refl
rule_again end (Node n) rest fits = made_again Rule ℕ (λ n. Node n) (number 2) (number_laws 2) n end rest fits

pub rule_laws : Laws Rule rule_field
unfolding rule_field
rule_laws = tagged_laws Rule rule_layout rule_branches (
  branch_law Rule (Unit {0}) rule_layout 0 (λ _. Hash) nothing nothing_laws (λ _. refl) (λ _ fits. fits) (λ _. refl),
  (
    branch_law Rule (Unit {0}) rule_layout 1 (λ _. ByParent) nothing nothing_laws (λ _. refl) (λ _ fits. fits) (λ _. refl),
    (branch_law Rule ℕ rule_layout 2 (λ n. Node n) (number 2) (number_laws 2) (λ _. refl) (λ _ fits. fits) (λ _. refl), tt),
  ),
)
    rule_again

next_version_laws : (last : Option RuleChange) → Laws ℕ (next_version last)
unfolding next_version
next_version_laws last = judged_laws ℕ (number 4) _ (number_laws 4)

next_change_laws : (last : Option RuleChange) → Laws RuleChange (next_change last)
unfolding next_change
next_change_laws last = shaped_laws RuleChange (List ℕ × (Rule × ℕ)) _ _ (name_field ⊗ rule_field ⊗ next_version last) (both_laws name_laws (both_laws rule_laws (next_version_laws last))) (λ c. refl) (λ f fits. refl)

next_change_spelling : (last : Option RuleChange) (x : RuleChange) → (next_change last).spell x ≡ (next_change None).spell x
unfolding next_change next_version
next_change_spelling last x = refl

pub changes_laws : Laws (List RuleChange) changes_field
unfolding changes_field
changes_laws = counted_laws RuleChange rule_count next_change rule_count_laws next_change_laws next_change_spelling

found_again : (end : ℕ) (x : Found) (rest : List ℕ) → found_field.Fits x → found_field.read end (found_field.spell x ++ rest) ≡ Ok (x, rest)
unfolding found_field
found_again end Nothing rest fits = refl
found_again end File rest fits = refl
found_again end (Dir dentry) rest fits = made_again Found Dentry (λ d. Dir d) dentry_field dentry_laws dentry end rest fits

pub found_laws : Laws Found found_field
unfolding found_field
found_laws = tagged_laws Found found_layout found_branches (
  branch_law Found (Unit {0}) found_layout 0 (λ _. Nothing) nothing nothing_laws (λ _. refl) (λ _ fits. fits) (λ _. refl),
  (
    branch_law Found (Unit {0}) found_layout 1 (λ _. File) nothing nothing_laws (λ _. refl) (λ _ fits. fits) (λ _. refl),
    (branch_law Found Dentry found_layout 2 (λ d. Dir d) dentry_field dentry_laws (λ _. refl) (λ _ fits. fits) (λ _. refl), tt),
  ),
)
    found_again

errno_again : (end : ℕ) (x : Errno) (rest : List ℕ) → errno_field.Fits x → errno_field.read end (errno_field.spell x ++ rest) ≡ Ok (x, rest)
unfolding errno_field
errno_again end Eacces rest fits = refl
errno_again end Ebusy rest fits = refl
errno_again end Eexist rest fits = refl
errno_again end Einval rest fits = refl
errno_again end Eisdir rest fits = refl
errno_again end Enametoolong rest fits = refl
errno_again end Enoent rest fits = refl
errno_again end Enospc rest fits = refl
errno_again end Enotdir rest fits = refl
errno_again end Enotempty rest fits = refl
errno_again end Eperm rest fits = refl

errno_law : (n : ℕ) (errno : Errno) → (errno_layout errno).tag ≡ n → IsBranch errno_layout (n, λ end bytes. Ok (errno, bytes))
errno_law n Eacces same = branch_law Errno (Unit {0}) errno_layout n (λ _. Eacces) nothing nothing_laws (λ _. refl) (λ _ fits. fits) (λ _. same)
errno_law n Ebusy same = branch_law Errno (Unit {0}) errno_layout n (λ _. Ebusy) nothing nothing_laws (λ _. refl) (λ _ fits. fits) (λ _. same)
errno_law n Eexist same = branch_law Errno (Unit {0}) errno_layout n (λ _. Eexist) nothing nothing_laws (λ _. refl) (λ _ fits. fits) (λ _. same)
errno_law n Einval same = branch_law Errno (Unit {0}) errno_layout n (λ _. Einval) nothing nothing_laws (λ _. refl) (λ _ fits. fits) (λ _. same)
errno_law n Eisdir same = branch_law Errno (Unit {0}) errno_layout n (λ _. Eisdir) nothing nothing_laws (λ _. refl) (λ _ fits. fits) (λ _. same)
errno_law n Enametoolong same = branch_law Errno (Unit {0}) errno_layout n (λ _. Enametoolong) nothing nothing_laws (λ _. refl) (λ _ fits. fits) (λ _. same)
errno_law n Enoent same = branch_law Errno (Unit {0}) errno_layout n (λ _. Enoent) nothing nothing_laws (λ _. refl) (λ _ fits. fits) (λ _. same)
errno_law n Enospc same = branch_law Errno (Unit {0}) errno_layout n (λ _. Enospc) nothing nothing_laws (λ _. refl) (λ _ fits. fits) (λ _. same)
errno_law n Enotdir same = branch_law Errno (Unit {0}) errno_layout n (λ _. Enotdir) nothing nothing_laws (λ _. refl) (λ _ fits. fits) (λ _. same)
errno_law n Enotempty same = branch_law Errno (Unit {0}) errno_layout n (λ _. Enotempty) nothing nothing_laws (λ _. refl) (λ _ fits. fits) (λ _. same)
errno_law n Eperm same = branch_law Errno (Unit {0}) errno_layout n (λ _. Eperm) nothing nothing_laws (λ _. refl) (λ _ fits. fits) (λ _. same)

-- an errno is spelled by its number alone
pub errno_spelling : (errno : Errno) → errno_field.spell errno ≡ (errno_layout errno).tag ∷ []
unfolding errno_field
errno_spelling Eacces = refl
errno_spelling Ebusy = refl
errno_spelling Eexist = refl
errno_spelling Einval = refl
errno_spelling Eisdir = refl
errno_spelling Enametoolong = refl
errno_spelling Enoent = refl
errno_spelling Enospc = refl
errno_spelling Enotdir = refl
errno_spelling Enotempty = refl
errno_spelling Eperm = refl

errno_laws : Laws Errno errno_field
unfolding errno_field
errno_laws = tagged_laws Errno errno_layout errno_branches (
  errno_law 1 Eacces refl,
  (
    errno_law 2 Ebusy refl,
    (
      errno_law 3 Eexist refl,
      (
        errno_law 4 Einval refl,
        (
          errno_law 5 Eisdir refl,
          (
            errno_law 6 Enametoolong refl,
            (errno_law 7 Enoent refl, (errno_law 8 Enospc refl, (errno_law 9 Enotdir refl, (errno_law 10 Enotempty refl, (errno_law 11 Eperm refl, tt))))),
          ),
        ),
      ),
    ),
  ),
)
    errno_again

reply_again : (end : ℕ) (x : Reply) (rest : List ℕ) → reply_field.Fits x → reply_field.read end (reply_field.spell x ++ rest) ≡ Ok (x, rest)
unfolding reply_field
reply_again end Fine rest fits = refl
reply_again end (Fail errno) rest fits = made_again Reply Errno (λ e. Fail e) errno_field errno_laws errno end rest fits
reply_again end (Stat inode) rest fits = made_again Reply Inode (λ i. Stat i) inode_field inode_laws inode end rest fits
reply_again end (Names names) rest fits = absurd fits

pub reply_laws : Laws Reply reply_field
unfolding reply_field
reply_laws = tagged_laws Reply reply_layout reply_branches (
  branch_law Reply (Unit {0}) reply_layout 0 (λ _. Fine) nothing nothing_laws (λ _. refl) (λ _ fits. fits) (λ _. refl),
  (
    branch_law Reply Errno reply_layout 1 (λ e. Fail e) errno_field errno_laws (λ _. refl) (λ _ fits. fits) (λ _. refl),
    (branch_law Reply Inode reply_layout 2 (λ i. Stat i) inode_field inode_laws (λ _. refl) (λ _ fits. fits) (λ _. refl), tt),
  ),
)
    reply_again
