-- What is known where a call is answered Fine: each check passed, and where the walk ended.
use Rattle.std.proofs.Common.{◌≡◌, Bool, true, false, ◌&&◌, ℕ, List, Option, Some, None, cond, refl, ap}
use Rattle.std.specs.Prelude.{is_some}
use Rattle.fal_base.specs.declared.call.Cred.{Cred}
use Rattle.fal_base.specs.declared.inode.Inode.{Inode}
use Rattle.fal_base.specs.declared.key.Key.{Key}
use Rattle.fal_base.specs.declared.path.PathArg.{PathArg}
use Rattle.fal_base.specs.declared.path.PathArg.TheVariants.{Good, Bad}
use Rattle.fal_base.specs.declared.reply.Errno.{Errno}
use Rattle.fal_base.specs.declared.reply.Reply.{Reply}
use Rattle.fal_base.specs.declared.reply.Reply.TheVariants.{Fail}
use Rattle.fal_base.specs.Answer.{found, reached, walked}
use Rattle.fal_base.specs.Change.{is_fine, last_key_of}
use Rattle.fal_base.specs.Tree.{Tree, root_key, row_at}
use Rattle.fal_base.specs.Walk.{Walked, Stop, Ready, walk}

-- a check that passed, and what is answered after it
pub passed : (check : Bool) (errno : Errno) (rest : Reply) → is_fine (cond check (Fail errno) rest) ≡ true → (check ≡ false) × (is_fine rest ≡ true)
passed true errno rest fine = absurd (cc)
passed false errno rest fine = (refl, fine)

pub both_are : (a b : Bool) → (a && b) ≡ true → (a ≡ true) × (b ≡ true)
both_are true b is = (refl, is)
both_are false b is = absurd (cc)

pub none_of : {X : Type 0} (o : Option X) → is_some o ≡ false → o ≡ None
none_of None is = refl
none_of (Some x) is = absurd (cc)

-- something was found
pub record IsFound (row : Option Inode) (go : Inode → Reply) : Type 0 where
  pub inode : Inode
  pub there : row ≡ Some inode
  pub fine : is_fine (go inode) ≡ true

pub was_found : (row : Option Inode) (go : Inode → Reply) → is_fine (found row go) ≡ true → IsFound row go
was_found None go fine = absurd (cc)
was_found (Some inode) go fine = record { inode = inode; there = refl; fine = fine }

-- the walk came to its end
pub record IsReady (walk : Walked) (go : Option Inode → List ℕ → Key → Reply) : Type 0 where
  pub parent : Option Inode
  pub passes : List ℕ
  pub last : Key
  pub ready : walk ≡ Ready parent passes last
  pub fine : is_fine (go parent passes last) ≡ true

pub was_ready : (walk : Walked) (go : Option Inode → List ℕ → Key → Reply) → is_fine (walked walk go) ≡ true → IsReady walk go
was_ready (Stop errno) go fine = absurd (cc)
was_ready (Ready parent passes last) go fine = record { parent = parent; passes = passes; last = last; ready = refl; fine = fine }

-- where the walk of a path ended
pub last_of : (tree : Tree) (cred : Cred) (names : List (List ℕ)) (parent : Option Inode) (passes : List ℕ) (last : Key) → walk tree cred names ≡ Ready parent passes last → last_key_of tree cred (Good names) ≡ last
last_of tree cred names parent passes last ready = ap (λ (w : Walked). elim w [ Stop errno ↦ root_key | Ready parent passed last ↦ last ]) ready

pub record IsReached (tree : Tree) (cred : Cred) (path : PathArg) (go : Option Inode → Key → Option Inode → Reply) : Type 0 where
  pub names : List (List ℕ)
  pub parent : Option Inode
  pub passes : List ℕ
  pub last : Key
  pub ready : walk tree cred names ≡ Ready parent passes last
  pub key : last_key_of tree cred path ≡ last
  pub fine : is_fine (go parent last (row_at tree last)) ≡ true

pub was_reached : (tree : Tree) (cred : Cred) (path : PathArg) (go : Option Inode → Key → Option Inode → Reply) → is_fine (reached tree cred path go) ≡ true → IsReached tree cred path go
was_reached tree cred (Bad fault raw) go fine = absurd (cc)
was_reached tree cred (Good names) go fine =
    let w = was_ready (walk tree cred names) (λ parent passed last. go parent last (row_at tree last)) fine in
    record { names = names; parent = w.parent; passes = w.passes; last = w.last; ready = w.ready; key = last_of tree cred names w.parent w.passes w.last w.ready; fine = w.fine }
