use Rattle.std.proofs.Common.{◌↔◌, IsTrue, sym, subst}
use Rattle.fal_base.specs.declared.op.Op.{Op}
use Rattle.fal_story.proofs.Ranges.Fitting.{IsHeldOp, access_is, as_good, chmod_is, create_is, list_is, mkdir_is, place_is, rename_is, rmdir_is, stat_is, truncate_is, unlink_is}
use Rattle.fal_story.proofs.cluster.is_op.Goals as goal

pub returns-in-Mkdir : goal.returns-in-Mkdir
returns-in-Mkdir c =
    subst (λ (o : Op). IsTrue c.is_held.result ↔ IsHeldOp o) (sym c.in-Mkdir.is) (as_good c.is_held.ensures (mkdir_is c.in-Mkdir.path c.in-Mkdir.mode))

pub returns-in-Create : goal.returns-in-Create
returns-in-Create c =
    subst (λ (o : Op). IsTrue c.is_held-in-Create.result ↔ IsHeldOp o) (sym c.in-Create.is) (as_good c.is_held-in-Create.ensures (create_is c.in-Create.path c.in-Create.mode))

pub returns-in-Stat : goal.returns-in-Stat
returns-in-Stat c =
    subst (λ (o : Op). IsTrue c.is_held-in-Stat.result ↔ IsHeldOp o) (sym c.in-Stat.is) (as_good c.is_held-in-Stat.ensures (stat_is c.in-Stat.path))

pub returns-in-Access : goal.returns-in-Access
returns-in-Access c =
    subst (λ (o : Op). IsTrue c.is_held-in-Access.result ↔ IsHeldOp o) (sym c.in-Access.is) (as_good c.is_held-in-Access.ensures (access_is c.in-Access.path c.in-Access.want))

pub returns-in-Truncate : goal.returns-in-Truncate
returns-in-Truncate c =
    subst (λ (o : Op). IsTrue c.is_held-in-Truncate.result ↔ IsHeldOp o) (sym c.in-Truncate.is) (as_good c.is_held-in-Truncate.ensures (truncate_is c.in-Truncate.path c.in-Truncate.size))

pub returns-in-Unlink : goal.returns-in-Unlink
returns-in-Unlink c =
    subst (λ (o : Op). IsTrue c.is_held-in-Unlink.result ↔ IsHeldOp o) (sym c.in-Unlink.is) (as_good c.is_held-in-Unlink.ensures (unlink_is c.in-Unlink.path))

pub returns-in-Chmod : goal.returns-in-Chmod
returns-in-Chmod c =
    subst (λ (o : Op). IsTrue c.is_held-in-Chmod.result ↔ IsHeldOp o) (sym c.in-Chmod.is) (as_good c.is_held-in-Chmod.ensures (chmod_is c.in-Chmod.path c.in-Chmod.mode))

pub returns-in-Chown : goal.returns-in-Chown
returns-in-Chown c =
    subst (λ (o : Op). IsTrue c.is_chown.result ↔ IsHeldOp o) (sym c.in-Chown.is) c.is_chown.ensures

pub returns-in-Rmdir : goal.returns-in-Rmdir
returns-in-Rmdir c =
    subst (λ (o : Op). IsTrue c.is_held-in-Rmdir.result ↔ IsHeldOp o) (sym c.in-Rmdir.is) (as_good c.is_held-in-Rmdir.ensures (rmdir_is c.in-Rmdir.path))

pub returns-in-Rename : goal.returns-in-Rename
returns-in-Rename c =
    subst (λ (o : Op). IsTrue c.are_held.result ↔ IsHeldOp o) (sym c.in-Rename.is) (as_good c.are_held.ensures (rename_is c.in-Rename.old c.in-Rename.new))

pub returns-in-Place : goal.returns-in-Place
returns-in-Place c = subst (λ (o : Op). IsTrue c.is_placing.result ↔ IsHeldOp o) (sym c.in-Place.is) (as_good c.is_placing.ensures (place_is c.in-Place.name c.in-Place.rule))

pub returns-in-List : goal.returns-in-List
returns-in-List c =
    subst (λ (o : Op). IsTrue c.is_held-in-List.result ↔ IsHeldOp o) (sym c.in-List.is) (as_good c.is_held-in-List.ensures (list_is c.in-List.path))
