-- An inode as text: its number, its kind, its mode, its owner and group, and its size.
use Rattle.std.specs.Prelude.{ℕ, ◌+◌, ◌/◌, ◌%◌, List, [], ◌∷◌, ◌++◌, codes}
use Rattle.std.specs.Fmt.{decimal}
use Rattle.fal_base.specs.declared.inode.Inode.{Inode}
use Rattle.fal_base.specs.declared.inode.Kind.{Kind}
use Rattle.fal_base.specs.declared.inode.Kind.TheVariants.{Dir, File}

abbrev pub kind_text : Kind → List ℕ
kind_text File = codes "file"
kind_text Dir = codes "dir"

-- the nine permission bits as three octal digits
abbrev pub mode_text : ℕ → List ℕ
mode_text mode = (48 + mode / 64 % 8) ∷ (48 + mode / 8 % 8) ∷ (48 + mode % 8) ∷ []

-- a pair of numbers, joined by a colon
abbrev pub owner_text : ℕ → ℕ → List ℕ
owner_text uid gid = decimal uid ++ codes ":" ++ decimal gid

abbrev pub inode_text : Inode → List ℕ
inode_text inode =
    decimal inode.ino ++ codes " " ++ kind_text inode.kind ++ codes " " ++ mode_text inode.mode ++ codes " " ++ owner_text inode.uid inode.gid ++ codes " "
    ++ decimal inode.size
