-- Each answer of chmod, chown, list, rmdir and rename, in one tree.
use Rattle.std.proofs.Common.{◌≡◌, [], ◌∷◌, refl, true, None}
use Rattle.std.specs.Prelude.{codes}
use Rattle.fal_base.specs.declared.call.Cred.{Cred}
use Rattle.fal_base.specs.declared.op.Op.TheVariants.{Mkdir, Create, Chmod, Chown, List as Lists, Rmdir, Rename}
use Rattle.fal_base.specs.declared.path.PathArg.{PathArg}
use Rattle.fal_base.specs.declared.path.PathArg.TheVariants.{Good, Bad}
use Rattle.fal_base.specs.declared.path.PathFault.TheVariants.{TooLong, Dot}
use Rattle.fal_base.specs.declared.reply.Errno.TheVariants.{Eacces, Ebusy, Einval, Enametoolong, Enoent, Enotdir, Enotempty, Eperm}
use Rattle.fal_base.specs.declared.reply.Reply.TheVariants.{Fine, Fail, Names}
use Rattle.fal_base.specs.Answer.{answer}
use Rattle.fal_base.specs.Change.{change, makes}
use Rattle.fal_base.specs.Tree.{Tree, tree0, key_cmp, key_of, names_under, row_at}

abbrev root : Cred
root = record { uid = 0; gid = 0 }

abbrev guest : Cred
guest = record { uid = 1000; gid = 100 }

-- the root has the directories /a, with /a/b in it, and /p, which only its owner may read, and the file /f
abbrev tree : Tree
tree =
    let one = change tree0 root (Mkdir (Good (codes "a" ∷ [])) 493) 256 in
    let two = change one root (Mkdir (Good (codes "a" ∷ codes "b" ∷ [])) 493) 512 in
    let three = change two root (Create (Good (codes "f" ∷ [])) 420) 768 in
    change three root (Mkdir (Good (codes "p" ∷ [])) 448) 1024

abbrev top : PathArg
top = Good []

abbrev a : PathArg
a = Good (codes "a" ∷ [])

abbrev b : PathArg
b = Good (codes "a" ∷ codes "b" ∷ [])

abbrev f : PathArg
f = Good (codes "f" ∷ [])

abbrev p : PathArg
p = Good (codes "p" ∷ [])

abbrev missing : PathArg
missing = Good (codes "x" ∷ [])

-- ---- chmod and chown

chmod_fine : answer tree root (Chmod a 448) ≡ Fine
unfolding key_cmp
chmod_fine = refl

chmod_by_another : answer tree guest (Chmod a 448) ≡ Fail Eperm
unfolding key_cmp
chmod_by_another = refl

chmod_of_nothing : answer tree root (Chmod missing 448) ≡ Fail Enoent
unfolding key_cmp
chmod_of_nothing = refl

chmod_below_a_file : answer tree root (Chmod (Good (codes "f" ∷ codes "x" ∷ codes "y" ∷ [])) 448) ≡ Fail Enotdir
unfolding key_cmp
chmod_below_a_file = refl

chmod_behind_a_door : answer tree guest (Chmod (Good (codes "p" ∷ codes "x" ∷ [])) 448) ≡ Fail Eacces
unfolding key_cmp
chmod_behind_a_door = refl

chown_fine : answer tree root (Chown f 1000 100) ≡ Fine
unfolding key_cmp
chown_fine = refl

chown_by_another : answer tree guest (Chown f 1000 100) ≡ Fail Eperm
unfolding key_cmp
chown_by_another = refl

chown_of_nothing : answer tree root (Chown missing 1000 100) ≡ Fail Enoent
unfolding key_cmp
chown_of_nothing = refl

-- ---- list

list_the_root : answer tree guest (Lists top) ≡ Names (codes "a" ∷ codes "f" ∷ codes "p" ∷ [])
unfolding key_cmp
list_the_root = refl

list_a_file : answer tree root (Lists f) ≡ Fail Enotdir
unfolding key_cmp
list_a_file = refl

list_without_reading : answer tree guest (Lists p) ≡ Fail Eacces
unfolding key_cmp
list_without_reading = refl

list_nothing : answer tree root (Lists missing) ≡ Fail Enoent
unfolding key_cmp
list_nothing = refl

-- ---- rmdir

rmdir_fine : answer tree root (Rmdir b) ≡ Fine
unfolding key_cmp
rmdir_fine = refl

rmdir_the_root : answer tree root (Rmdir top) ≡ Fail Ebusy
unfolding key_cmp
rmdir_the_root = refl

rmdir_nothing : answer tree root (Rmdir missing) ≡ Fail Enoent
unfolding key_cmp
rmdir_nothing = refl

rmdir_without_writing : answer tree guest (Rmdir b) ≡ Fail Eacces
unfolding key_cmp
rmdir_without_writing = refl

rmdir_a_file : answer tree root (Rmdir f) ≡ Fail Enotdir
unfolding key_cmp
rmdir_a_file = refl

rmdir_with_entries : answer tree root (Rmdir a) ≡ Fail Enotempty
unfolding key_cmp
rmdir_with_entries = refl

-- ---- rename; what else it answers stands in Rows

rename_fine : answer tree root (Rename b (Good (codes "c" ∷ []))) ≡ Fine
unfolding key_cmp
rename_fine = refl

rename_makes : makes tree root (Rename b (Good (codes "c" ∷ []))) ≡ true
unfolding key_cmp
rename_makes = refl

-- the row stands under its new key alone, with its number
rename_moves : names_under (change tree root (Rename b (Good (codes "c" ∷ []))) 0) 256 ∷ names_under (change tree root (Rename b (Good (codes "c" ∷ []))) 0) 1 ∷ []
    ≡ [] ∷ (codes "a" ∷ codes "c" ∷ codes "f" ∷ codes "p" ∷ []) ∷ []
unfolding key_cmp
rename_moves = refl

rename_replaces : row_at (change tree root (Rename f (Good (codes "g" ∷ []))) 0) (key_of 1 (codes "f")) ≡ None
unfolding key_cmp
rename_replaces = refl

rename_without_writing : answer tree guest (Rename f (Good (codes "g" ∷ []))) ≡ Fail Eacces
unfolding key_cmp
rename_without_writing = refl

rename_below_a_file : answer tree root (Rename (Good (codes "f" ∷ codes "x" ∷ codes "y" ∷ [])) (Good (codes "g" ∷ []))) ≡ Fail Enotdir
unfolding key_cmp
rename_below_a_file = refl

-- a bad path is answered before all else, the old one first
rename_too_long : answer tree root (Rename (Bad TooLong []) (Bad Dot [])) ≡ Fail Enametoolong
unfolding key_cmp
rename_too_long = refl

rename_with_a_dot : answer tree root (Rename top (Bad Dot [])) ≡ Fail Einval
unfolding key_cmp
rename_with_a_dot = refl
