-- Worked examples of the definitions.
use Rattle.std.proofs.Common.{◌≡◌, ℕ, List, [], ◌∷◌, refl, Ok, Err, false}
use Rattle.std.specs.Prelude.{codes}
use Rattle.fal_base.specs.declared.call.Cred.{Cred}
use Rattle.fal_base.specs.declared.op.Op.TheVariants.{Mkdir, Create, Rename}
use Rattle.fal_base.specs.declared.reply.Errno.TheVariants.{Eacces, Einval, Eisdir, Enoent, Enotdir, Enotempty, Ebusy}
use Rattle.fal_base.specs.declared.reply.Reply.TheVariants.{Fine, Fail}
use Rattle.fal_base.specs.declared.path.PathArg.{PathArg}
use Rattle.fal_base.specs.declared.path.PathArg.TheVariants.{Good}
use Rattle.fal_base.specs.declared.path.PathFault.TheVariants.{Dot, Relative}
use Rattle.fal_base.specs.Paths.{path_of}
use Rattle.fal_base.specs.Tree.{Tree, tree0, key_cmp}
use Rattle.fal_base.specs.Answer.{answer}
use Rattle.fal_base.specs.Change.{change, makes}

abbrev at : List (List ℕ) → PathArg
at names = Good names

abbrev root : Cred
root = record { uid = 0; gid = 0 }

abbrev guest : Cred
guest = record { uid = 1000; gid = 100 }

abbrev a : List ℕ
a = codes "a"

abbrev b : List ℕ
b = codes "b"

abbrev c : List ℕ
c = codes "c"

abbrev f : List ℕ
f = codes "f"

doubled_slashes : path_of (codes "//a///b/") ≡ Ok (a ∷ b ∷ [])
unfolding path_of
doubled_slashes = refl

a_dot : path_of (codes "/a/./b") ≡ Err Dot
unfolding path_of
a_dot = refl

relative : path_of (codes "a") ≡ Err Relative
unfolding path_of
relative = refl

-- /a, /a/b and /f
abbrev tree : Tree
tree =
    let one = change tree0 root (Mkdir (at (a ∷ [])) 493) 256 in
    let two = change one root (Mkdir (at (a ∷ b ∷ [])) 493) 512 in
    change two root (Create (at (f ∷ [])) 420) 768

below_itself : answer tree root (Rename (at (a ∷ [])) (at (a ∷ b ∷ c ∷ []))) ≡ Fail Einval
unfolding key_cmp
below_itself = refl

onto_full : answer tree root (Rename (at (a ∷ b ∷ [])) (at (a ∷ []))) ≡ Fail Enotempty
unfolding key_cmp
onto_full = refl

onto_itself : answer tree root (Rename (at (a ∷ [])) (at (a ∷ []))) ≡ Fine
unfolding key_cmp
onto_itself = refl

onto_itself_makes : makes tree root (Rename (at (a ∷ [])) (at (a ∷ []))) ≡ false
unfolding key_cmp
onto_itself_makes = refl

file_onto_directory : answer tree root (Rename (at (f ∷ [])) (at (a ∷ []))) ≡ Fail Eisdir
unfolding key_cmp
file_onto_directory = refl

directory_onto_file : answer tree root (Rename (at (a ∷ [])) (at (f ∷ []))) ≡ Fail Enotdir
unfolding key_cmp
directory_onto_file = refl

nothing_there : answer tree root (Rename (at (codes "x" ∷ [])) (at (codes "y" ∷ []))) ≡ Fail Enoent
unfolding key_cmp
nothing_there = refl

the_root_moves : answer tree root (Rename (at []) (at (codes "z" ∷ []))) ≡ Fail Ebusy
unfolding key_cmp
the_root_moves = refl

guest_makes : answer tree guest (Mkdir (at (codes "e" ∷ [])) 493) ≡ Fail Eacces
unfolding key_cmp
guest_makes = refl
