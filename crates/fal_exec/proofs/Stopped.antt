-- What the tree says of a call whose walk stops: its errno, and no commit.
use Rattle.std.proofs.Common.{◌≡◌, ℕ, Bool, true, false, ◌&&◌, List, Some, refl, ap, ◌∙◌}
use Rattle.fal_base.specs.declared.call.Cred.{Cred}
use Rattle.fal_base.specs.declared.op.Op.{Op}
use Rattle.fal_base.specs.declared.op.Op.TheVariants as op
use Rattle.fal_base.specs.declared.path.PathArg.TheVariants.{Good, Bad}
use Rattle.fal_base.specs.declared.reply.Errno.{Errno}
use Rattle.fal_base.specs.declared.reply.Reply.TheVariants.{Fail}
use Rattle.fal_base.specs.Tree.{Tree}
use Rattle.fal_base.specs.Walk.{Stop, walk}
use Rattle.fal_base.specs.Answer.{answer}
use Rattle.fal_base.specs.Change.{makes, changes, is_fine}
use Rattle.fal_exec.specs.RowCall.{row_names}

same_names : (a b : List (List ℕ)) → Some a ≡ Some b → a ≡ b
same_names a b is = cc

and_none : (b : Bool) → (b && false) ≡ false
and_none true = refl
and_none false = refl

pub stopped_answer : (tree : Tree) (cred : Cred) (call : Op) (names : List (List ℕ)) (errno : Errno) → row_names call ≡ Some names → walk tree cred names ≡ Stop errno → answer tree cred call ≡ Fail errno
stopped_answer tree cred (op.Mkdir (Good here) mode) names errno is stops = let stops_here : walk tree cred here ≡ Stop errno = ap (walk tree cred) (same_names here names is) ∙ stops in rw stops_here
stopped_answer tree cred (op.Mkdir (Bad fault raw) mode) names errno is stops = cc
stopped_answer tree cred (op.Create (Good here) mode) names errno is stops = let stops_here : walk tree cred here ≡ Stop errno = ap (walk tree cred) (same_names here names is) ∙ stops in rw stops_here
stopped_answer tree cred (op.Create (Bad fault raw) mode) names errno is stops = cc
stopped_answer tree cred (op.Stat (Good here)) names errno is stops = let stops_here : walk tree cred here ≡ Stop errno = ap (walk tree cred) (same_names here names is) ∙ stops in rw stops_here
stopped_answer tree cred (op.Stat (Bad fault raw)) names errno is stops = cc
stopped_answer tree cred (op.Access (Good here) want) names errno is stops = let stops_here : walk tree cred here ≡ Stop errno = ap (walk tree cred) (same_names here names is) ∙ stops in rw stops_here
stopped_answer tree cred (op.Access (Bad fault raw) want) names errno is stops = cc
stopped_answer tree cred (op.Chmod (Good here) mode) names errno is stops = let stops_here : walk tree cred here ≡ Stop errno = ap (walk tree cred) (same_names here names is) ∙ stops in rw stops_here
stopped_answer tree cred (op.Chmod (Bad fault raw) mode) names errno is stops = cc
stopped_answer tree cred (op.Chown (Good here) uid gid) names errno is stops = let stops_here : walk tree cred here ≡ Stop errno = ap (walk tree cred) (same_names here names is) ∙ stops in rw stops_here
stopped_answer tree cred (op.Chown (Bad fault raw) uid gid) names errno is stops = cc
stopped_answer tree cred (op.Truncate (Good here) size) names errno is stops = let stops_here : walk tree cred here ≡ Stop errno = ap (walk tree cred) (same_names here names is) ∙ stops in rw stops_here
stopped_answer tree cred (op.Truncate (Bad fault raw) size) names errno is stops = cc
stopped_answer tree cred (op.Unlink (Good here)) names errno is stops = let stops_here : walk tree cred here ≡ Stop errno = ap (walk tree cred) (same_names here names is) ∙ stops in rw stops_here
stopped_answer tree cred (op.Unlink (Bad fault raw)) names errno is stops = cc
stopped_answer tree cred (op.List (Good here)) names errno is stops = let stops_here : walk tree cred here ≡ Stop errno = ap (walk tree cred) (same_names here names is) ∙ stops in rw stops_here
stopped_answer tree cred (op.List (Bad fault raw)) names errno is stops = cc
stopped_answer tree cred (op.Rmdir path) names errno is stops = cc
stopped_answer tree cred (op.Rename old new) names errno is stops = cc
stopped_answer tree cred (op.Place name rule) names errno is stops = cc

pub stopped_makes : (tree : Tree) (cred : Cred) (call : Op) (names : List (List ℕ)) (errno : Errno) → row_names call ≡ Some names → walk tree cred names ≡ Stop errno → makes tree cred call ≡ false
stopped_makes tree cred call names errno is stops = ap (λ reply. changes tree cred call && is_fine reply) (stopped_answer tree cred call names errno is stops) ∙ and_none (changes tree cred call)
