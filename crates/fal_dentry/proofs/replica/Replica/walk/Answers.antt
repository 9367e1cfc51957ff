use Rattle.std.proofs.Common.{◌≡◌, IfOk, subst}
use Rattle.fal_dentry.specs.Seen.{walk_seen}
use Rattle.fal_dentry.specs.Walk.{replica_walk}
use Rattle.fal_dentry.proofs.OnTree.{answered_of}
use Rattle.fal_dentry.proofs.replica.Replica.walk.Goals as goal

pub returns-clause-tree : goal.returns-clause-tree
returns-clause-tree c =
    let entries = c.args.self.now.entries in
    let cred = c.args.cred.now in
    let shut = c.args.shut.now in
    let answer = c.walk_names.result in
    answered_of entries cred c.args.path.now shut answer
    (subst (λ names. IfOk answer (λ walk. walk_seen walk ≡ replica_walk entries cred names shut)) c.names.ensures c.walk_names.ensures)
