-- Inodes, rows, rules and what is answered.
use Rattle.std.specs.Prelude.{ℕ, Bool, true, List, [], ◌∷◌, Option, Some, None, nat_lt}
use Rattle.fal_base.specs.declared.inode.Dentry.{Dentry}
use Rattle.fal_base.specs.declared.inode.Inode.{Inode}
use Rattle.fal_base.specs.declared.inode.Kind.{Kind}
use Rattle.fal_base.specs.declared.inode.Kind.TheVariants.{Dir as DirKind, File as FileKind}
use Rattle.fal_base.specs.declared.key.Key.{Key}
use Rattle.fal_base.specs.declared.reply.Errno.{Errno}
use Rattle.fal_base.specs.declared.reply.Errno.TheVariants.{Eacces, Ebusy, Eexist, Einval, Eisdir, Enametoolong, Enoent, Enospc, Enotdir, Enotempty, Eperm}
use Rattle.fal_base.specs.declared.reply.Reply.{Reply}
use Rattle.fal_base.specs.declared.reply.Reply.TheVariants.{Fine, Fail, Stat, Names}
use Rattle.fal_base.specs.declared.row.NamedRow.{NamedRow}
use Rattle.fal_base.specs.declared.row.Update.{Update}
use Rattle.fal_base.specs.declared.rule.Rule.{Rule}
use Rattle.fal_base.specs.declared.rule.Rule.TheVariants.{Hash, ByParent, Node}
use Rattle.fal_base.specs.declared.rule.RuleChange.{RuleChange}
use Rattle.fal_wire.specs.declared.message.Found.{Found}
use Rattle.fal_wire.specs.declared.message.Found.TheVariants.{Nothing, File, Dir}
use Rattle.fal_wire.specs.Format.{Format, number, judged, ◌⊗◌, shaped, made, nothing, never, Layout, layout, Branch, tagged, counted}
use Rattle.fal_wire.specs.Numbers.{ino_field, mode_field, size_field, one_or_two, at_most_two, rule_count}
use Rattle.fal_wire.specs.Names.{name_field, key_field}

-- 0 a file, 1 a directory
abbrev pub kind_layout : Kind → Layout
kind_layout FileKind = layout 0 nothing tt
kind_layout DirKind = layout 1 nothing tt

abbrev pub kind_branches : List (Branch Kind)
kind_branches = (0, made (λ _. FileKind) nothing) ∷ (1, made (λ _. DirKind) nothing) ∷ []

unfoldable pub kind_field : Format Kind
kind_field = tagged kind_layout kind_branches

-- number, kind, mode, uid, gid, size
unfoldable pub inode_field : Format Inode
inode_field = shaped (λ i. (i.ino, (i.kind, (i.mode, (i.uid, (i.gid, i.size))))))
    (λ f. record { ino = f.0; kind = f.1.0; mode = f.1.1.0; uid = f.1.1.1.0; gid = f.1.1.1.1.0; size = f.1.1.1.1.1 })
    (ino_field ⊗ kind_field ⊗ mode_field ⊗ number 4 ⊗ number 4 ⊗ size_field)

-- number, mode, uid, gid
unfoldable pub dentry_field : Format Dentry
dentry_field = shaped (λ d. (d.ino, (d.mode, (d.uid, d.gid)))) (λ f. record { ino = f.0; mode = f.1.0; uid = f.1.1.0; gid = f.1.1.1 })
    (ino_field ⊗ mode_field ⊗ number 4 ⊗ number 4)

-- 0 none, 1 an inode
abbrev pub row_layout : Option Inode → Layout
row_layout None = layout 0 nothing tt
row_layout (Some inode) = layout 1 inode_field inode

abbrev pub row_branches : List (Branch (Option Inode))
row_branches = (0, made (λ _. None) nothing) ∷ (1, made (λ inode. Some inode) inode_field) ∷ []

unfoldable pub row_field : Format (Option Inode)
row_field = tagged row_layout row_branches

-- a key, and what stands under it
unfoldable pub update_field : Format Update
update_field = shaped (λ u. (u.key, u.row)) (λ f. record { key = f.0; row = f.1 }) (key_field ⊗ row_field)

-- whether a number is greater than the one before it
abbrev pub is_above : Option ℕ → ℕ → Bool
is_above None n = true
is_above (Some before) n = nat_lt before n

abbrev pub parent_of : Option NamedRow → Option ℕ
parent_of None = None
parent_of (Some row) = Some row.parent

-- a parent's number in a list where parents ascend
unfoldable pub next_parent : Option NamedRow → Format ℕ
next_parent last = judged (number 8) (is_above (parent_of last))

-- the parent's number, and the inode
unfoldable pub next_row : Option NamedRow → Format NamedRow
next_row last = shaped (λ r. (r.parent, r.inode)) (λ f. record { parent = f.0; inode = f.1 }) (next_parent last ⊗ inode_field)

unfoldable pub rows_field : Format (List NamedRow)
rows_field = counted (number 4) next_row

-- so many keys
unfoldable pub keys_field : Format (List Key)
keys_field = counted one_or_two (λ _. key_field)

unfoldable pub updates_field : Format (List Update)
updates_field = counted at_most_two (λ _. update_field)

-- 0 by the name's hash, 1 by parent, 2 at this node
abbrev pub rule_layout : Rule → Layout
rule_layout Hash = layout 0 nothing tt
rule_layout ByParent = layout 1 nothing tt
rule_layout (Node n) = layout 2 (number 2) n

abbrev pub rule_branches : List (Branch Rule)
rule_branches = (0, made (λ _. Hash) nothing) ∷ (1, made (λ _. ByParent) nothing) ∷ (2, made (λ n. Node n) (number 2)) ∷ []

unfoldable pub rule_field : Format Rule
rule_field = tagged rule_layout rule_branches

abbrev pub version_before : Option RuleChange → ℕ
version_before None = 0
version_before (Some change) = change.version

-- a version in a list where versions ascend from 1 on
unfoldable pub next_version : Option RuleChange → Format ℕ
next_version last = judged (number 4) (λ n. nat_lt (version_before last) n)

-- name, rule, version
unfoldable pub next_change : Option RuleChange → Format RuleChange
next_change last = shaped (λ c. (c.name, (c.rule, c.version))) (λ f. record { name = f.0; rule = f.1.0; version = f.1.1 })
    (name_field ⊗ rule_field ⊗ next_version last)

unfoldable pub changes_field : Format (List RuleChange)
changes_field = counted rule_count next_change

-- 0 none, 1 a file, 2 a directory
abbrev pub found_layout : Found → Layout
found_layout Nothing = layout 0 nothing tt
found_layout File = layout 1 nothing tt
found_layout (Dir dentry) = layout 2 dentry_field dentry

abbrev pub found_branches : List (Branch Found)
found_branches = (0, made (λ _. Nothing) nothing) ∷ (1, made (λ _. File) nothing) ∷ (2, made (λ d. Dir d) dentry_field) ∷ []

unfoldable pub found_field : Format Found
found_field = tagged found_layout found_branches

-- 1 to 11, by the alphabet
abbrev pub errno_layout : Errno → Layout
errno_layout Eacces = layout 1 nothing tt
errno_layout Ebusy = layout 2 nothing tt
errno_layout Eexist = layout 3 nothing tt
errno_layout Einval = layout 4 nothing tt
errno_layout Eisdir = layout 5 nothing tt
errno_layout Enametoolong = layout 6 nothing tt
errno_layout Enoent = layout 7 nothing tt
errno_layout Enospc = layout 8 nothing tt
errno_layout Enotdir = layout 9 nothing tt
errno_layout Enotempty = layout 10 nothing tt
errno_layout Eperm = layout 11 nothing tt

-- the branch of an errno
abbrev pub errno_branch : ℕ → Errno → Branch Errno
errno_branch n errno = (n, made (λ _. errno) nothing)

abbrev pub errno_branches : List (Branch Errno)
errno_branches =
    errno_branch 1 Eacces ∷ errno_branch 2 Ebusy ∷ errno_branch 3 Eexist ∷ errno_branch 4 Einval ∷ errno_branch 5 Eisdir ∷ errno_branch 6 Enametoolong
    ∷ errno_branch 7 Enoent ∷ errno_branch 8 Enospc ∷ errno_branch 9 Enotdir ∷ errno_branch 10 Enotempty ∷ errno_branch 11 Eperm ∷ []

unfoldable pub errno_field : Format Errno
errno_field = tagged errno_layout errno_branches

-- 0 fine, 1 an errno, 2 an inode. Names are no reply of a record
abbrev pub reply_layout : Reply → Layout
reply_layout Fine = layout 0 nothing tt
reply_layout (Fail errno) = layout 1 errno_field errno
reply_layout (Stat inode) = layout 2 inode_field inode
reply_layout (Names names) = layout 3 never tt

abbrev pub reply_branches : List (Branch Reply)
reply_branches = (0, made (λ _. Fine) nothing) ∷ (1, made (λ e. Fail e) errno_field) ∷ (2, made (λ i. Stat i) inode_field) ∷ []

unfoldable pub reply_field : Format Reply
reply_field = tagged reply_layout reply_branches
