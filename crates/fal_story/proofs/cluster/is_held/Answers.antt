use Rattle.std.proofs.Common.{◌↔◌, IsTrue, List, ℕ, sym, subst}
use Rattle.fal_base.specs.declared.path.PathArg.{PathArg}
use Rattle.fal_wire.specs.Names.{path_field}
use Rattle.fal_story.proofs.Ranges.Fitting.{IsHeld, good_held}
use Rattle.fal_story.proofs.cluster.is_held.Goals as goal

pub returns-then-rest : goal.returns-then-rest
returns-then-rest c =
    let names = c.in-Good.path in
    let is = subst (λ (ns : List (List ℕ)). IsTrue c.is_path.result ↔ path_field.Fits ns) c.names.ensures c.is_path.ensures in
    let held = good_held names c.args.rest in
    subst (λ (p : PathArg). IsTrue c.is_path.result ↔ IsHeld p c.args.rest) (sym c.in-Good.is)
    (λ path. held.1 (is.0 path, c.if-rest.true), λ h. is.1 (held.0 h).0)
