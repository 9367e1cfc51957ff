use Rattle.std.proofs.Common.{◌↔◌, ℕ, List, IsTrue, refl, sym, subst}
use Rattle.fal_base.specs.declared.path.PathArg.{PathArg}
use Rattle.fal_base.specs.declared.path.PathArg.TheVariants.{Good, Bad}
use Rattle.fal_base.specs.OpPaths.{bad_path}
use Rattle.fal_base.specs.PathArgs.{IsRead}
use Rattle.fal_base.specs.declared.path.PathFault.{PathFault}
use Rattle.fal_wire.specs.Names.{path_field}
use Rattle.fal_story.specs.Held.{ArePathsHeld}
use Rattle.fal_story.proofs.Ranges.Fitting.{good_paths_held, bad_paths_held}
use Rattle.fal_story.proofs.cluster.are_held.Goals as goal

pub returns-then-is_path : goal.returns-then-is_path
returns-then-is_path c =
    let held = good_paths_held c.in-Good.from c.in-Good-new.to in
    let first = subst path_field.Fits c.names.ensures (c.is_path.ensures.0 c.if-is_path.true) in
    let both : IsTrue c.is_path-then-is_path.result ↔ ArePathsHeld (Good c.in-Good.from) (Good c.in-Good-new.to) = (
      λ yes. held.1 (first, subst path_field.Fits c.names-then-is_path.ensures (c.is_path-then-is_path.ensures.0 yes)),
      λ h. c.is_path-then-is_path.ensures.1 (subst path_field.Fits (sym c.names-then-is_path.ensures) (held.0 h).1),
    ) in
    subst (λ (o : PathArg). IsTrue c.is_path-then-is_path.result ↔ ArePathsHeld o c.args.new.now) (sym c.in-Good.is)
    (subst (λ (n : PathArg). IsTrue c.is_path-then-is_path.result ↔ ArePathsHeld (Good c.in-Good.from) n) (sym c.in-Good-new.is) both)

pub returns-else-is_path : goal.returns-else-is_path
returns-else-is_path c =
    let held = good_paths_held c.in-Good.from c.in-Good-new.to in
    let none : IsTrue c.is_path.result ↔ ArePathsHeld (Good c.in-Good.from) (Good c.in-Good-new.to) = (
      λ yes. let no = c.if-is_path.false in absurd (cc),
      λ h. c.is_path.ensures.1 (subst path_field.Fits (sym c.names.ensures) (held.0 h).0),
    ) in
    subst (λ (o : PathArg). IsTrue c.is_path.result ↔ ArePathsHeld o c.args.new.now) (sym c.in-Good.is)
    (subst (λ (n : PathArg). IsTrue c.is_path.result ↔ ArePathsHeld (Good c.in-Good.from) n) (sym c.in-Good-new.is) none)

pub returns-in-Bad-new : goal.returns-in-Bad-new
unfolding bad_path
returns-in-Bad-new c =
    let held = bad_paths_held (Good c.in-Good.from) (Bad c.in-Bad-new.fault c.in-Bad-new.raw) c.in-Bad-new.fault refl in
    let read = subst (λ (n : PathArg). IsTrue c.is_read.result ↔ IsRead n) c.in-Bad-new.is c.is_read.ensures in
    let only : IsTrue c.is_read.result ↔ ArePathsHeld (Good c.in-Good.from) (Bad c.in-Bad-new.fault c.in-Bad-new.raw) = (λ yes. held.1 (tt, read.0 yes), λ h. read.1 (held.0 h).1) in
    subst (λ (o : PathArg). IsTrue c.is_read.result ↔ ArePathsHeld o c.args.new.now) (sym c.in-Good.is)
    (subst (λ (n : PathArg). IsTrue c.is_read.result ↔ ArePathsHeld (Good c.in-Good.from) n) (sym c.in-Bad-new.is) only)

-- the old path is bad, so the two hold nothing more than that each is read
first_bad : (fault : PathFault) (raw : List ℕ) (new : PathArg) → ArePathsHeld (Bad fault raw) new ↔ (IsRead (Bad fault raw) × IsRead new)
unfolding bad_path
first_bad fault raw (Good names) = bad_paths_held (Bad fault raw) (Good names) fault refl
first_bad fault raw (Bad other bytes) = bad_paths_held (Bad fault raw) (Bad other bytes) fault refl

pub returns-then-is_read : goal.returns-then-is_read
returns-then-is_read c =
    let held = first_bad c.in-Bad.fault c.in-Bad.raw c.args.new.now in
    let old = subst (λ (o : PathArg). IsRead o) c.in-Bad.is (c.is_read-in-Bad.ensures.0 c.if-is_read.true) in
    let read = c.is_read-then-is_read.ensures in
    subst (λ (o : PathArg). IsTrue c.is_read-then-is_read.result ↔ ArePathsHeld o c.args.new.now) (sym c.in-Bad.is)
    (λ yes. held.1 (old, read.0 yes), λ h. read.1 (held.0 h).1)
