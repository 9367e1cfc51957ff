use Rattle.std.proofs.Common.{sym, ap, subst, refl, ◌∙◌}
use Rattle.fal_locks.specs.Locks.{first_shut}
use Rattle.fal_batch.specs.Keys.{are_distinct}
use Rattle.fal_batch.specs.Plan.{no_plan, plan_of, free_calls, IsUnion, IsEmptyWhereNoneJoins, IsIdleWhereAllAreSkipped, IsShared}
use Rattle.fal_batch.specs.Seen.{setting_of}
use Rattle.fal_batch.proofs.Union.{distinct_calls, union_of}
use Rattle.fal_batch.proofs.Empty.{empty_calls, idle_calls}
use Rattle.fal_batch.proofs.Open.{first_open, open_calls}
use Rattle.fal_batch.proofs.Shared.{shared_of}
use Rattle.fal_batch.proofs.planning.plan.Goals as goal

pub returns-clause-distinct : goal.returns-clause-distinct
returns-clause-distinct c =
    let s = setting_of c.args.replica.now.entries c.args.locks.now.table c.args.table.now c.args.me c.args.blocked.now c.args.limit in
    ap (λ p. are_distinct p.keys) c.in_ok-plan.ensures.plan ∙ distinct_calls s no_plan (free_calls c.args.waiting.now.list) refl

pub returns-clause-open : goal.returns-clause-open
returns-clause-open c =
    let s = setting_of c.args.replica.now.entries c.args.locks.now.table c.args.table.now c.args.me c.args.blocked.now c.args.limit in
    ap (λ p. first_shut c.args.locks.now.table p.keys) c.in_ok-plan.ensures.plan
    ∙ first_open c.args.locks.now.table (plan_of s c.args.waiting.now.list).keys (open_calls s no_plan (free_calls c.args.waiting.now.list) refl)

pub returns-clause-union : goal.returns-clause-union
returns-clause-union c =
    let s = setting_of c.args.replica.now.entries c.args.locks.now.table c.args.table.now c.args.me c.args.blocked.now c.args.limit in
    let list = c.args.waiting.now.list in
    subst (λ p. IsUnion s list p) (sym c.in_ok-plan.ensures.plan) (union_of s list)

pub returns-clause-empty : goal.returns-clause-empty
returns-clause-empty c =
    let s = setting_of c.args.replica.now.entries c.args.locks.now.table c.args.table.now c.args.me c.args.blocked.now c.args.limit in
    let list = c.args.waiting.now.list in
    subst (λ p. IsEmptyWhereNoneJoins s list p) (sym c.in_ok-plan.ensures.plan) (empty_calls s no_plan (free_calls list))

pub returns-clause-idle : goal.returns-clause-idle
returns-clause-idle c =
    let s = setting_of c.args.replica.now.entries c.args.locks.now.table c.args.table.now c.args.me c.args.blocked.now c.args.limit in
    let list = c.args.waiting.now.list in
    subst (λ p. IsIdleWhereAllAreSkipped s list p) (sym c.in_ok-plan.ensures.plan) (idle_calls s no_plan (free_calls list))

pub returns-clause-shared : goal.returns-clause-shared
returns-clause-shared c =
    let s = setting_of c.args.replica.now.entries c.args.locks.now.table c.args.table.now c.args.me c.args.blocked.now c.args.limit in
    let list = c.args.waiting.now.list in
    subst (λ p. IsShared s list p) (sym c.in_ok-plan.ensures.plan) (shared_of s list)
