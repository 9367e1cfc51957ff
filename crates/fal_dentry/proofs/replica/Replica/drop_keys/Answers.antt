use Rattle.std.proofs.Common.{◌∙◌, sym, ap, arith}
use Rattle.fal_dentry.specs.Walk.{without_keys}
use Rattle.fal_dentry.proofs.Dropped.{drop_one, drop_no_more}
use Rattle.fal_dentry.proofs.replica.Replica.drop_keys.Goals as goal

pub loop-key-preserved : goal.loop-key-preserved
loop-key-preserved c =
    let es = c.loop-key.self-inside.map.entries in
    record {
      entries =
          ap (λ left. without_keys left c.in-Some.others.now) c.take.ensures.entries ∙ drop_one es c.in-Some.key.now c.in-Some.others.now ∙ ap (without_keys es) (sym c.in-Some.ensures.cases.0)
          ∙ c.loop-key.invariant.entries;
      room = omega (arith, c.take.ensures.room, c.loop-key.invariant.room);
    }

pub returns-clause-entries : goal.returns-clause-entries
returns-clause-entries c =
    sym (drop_no_more c.loop-key.self-inside.map.entries c.loop-key.rest.now c.in_default.ensures.cases) ∙ c.loop-key.invariant.entries
