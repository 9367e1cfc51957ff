use Rattle.std.proofs.Common.{inl, sym, ◌∙◌, ap, Ok}
use Rattle.fal_base.proofs.PathFaults.{none_broken}
use Rattle.fal_base.proofs.path.Path.read.Goals as goal

pub names_of-requires : goal.names_of-requires
names_of-requires c = (none_broken c.args.bytes.now (sym c.fault.ensures ∙ c.in_default.is)).0

pub returns-in-Ok : goal.returns-in-Ok
returns-in-Ok c = inl (ap Ok c.in-Ok.ensures ∙ sym (none_broken c.args.bytes.now (sym c.fault.ensures ∙ c.in_default.is)).1)
