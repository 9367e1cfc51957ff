use Rattle.std.proofs.Common.{◌≡◌, true, sym, ap, subst, ◌∙◌}
use Rattle.fal_story.specs.Fresh.{IsQuietAt, came}
use Rattle.fal_story.specs.Told.{Told}
use Rattle.fal_alone.proofs.QuietRuns.{no_numbers, all_quiet, quiet_run, run_quiet}
use Rattle.fal_alone.specs.Turns.{world_of}
use Rattle.fal_alone.proofs.cluster.Cluster.quiet.Goals as goal
use Rattle.fal_alone.proofs.cluster.Cluster.quiet.Goals.{then-are_empty, else-are_empty}

pub returns-then-are_quiet : goal.returns-then-are_quiet
returns-then-are_quiet c =
    let inside = c.self.inside in
    let so = c.if-are_quiet.true in
    elim c.if-are_empty.branch [
      | then-are_empty w ↦
          let value = w.value-is in
          let nodes_quiet : w.are_quiet.result ≡ true = cc in
          let empty = ap no_numbers (sym c.deref.ensures.value) ∙ sym c.are_empty.ensures ∙ w.if-are_empty.true in
          let quiet = ap all_quiet (sym w.deref-then-are_empty.ensures.value) ∙ sym w.are_quiet.ensures ∙ nodes_quiet in (
            λ yes. subst (λ (told : Told). IsQuietAt told.config (world_of told) (came told.events)) c.self.view_is
                (quiet_run inside.book.told.config inside.book.told.events inside.clients.items inside.nodes.items inside.coord.state inside.queues.items c.self.invariant c.legal.ensures empty quiet (sym c.quiet.ensures ∙ yes)),
            λ is. c.quiet.ensures
                ∙ (run_quiet inside.book.told.config inside.book.told.events inside.clients.items inside.nodes.items inside.coord.state inside.queues.items c.self.invariant
                (subst (λ (told : Told). IsQuietAt told.config (world_of told) (came told.events)) (sym c.self.view_is) is)).rests,
          )
      | else-are_empty w ↦ let value = w.value-is in absurd (cc)
    ]

pub returns-else-are_quiet : goal.returns-else-are_quiet
returns-else-are_quiet c =
    let inside = c.self.inside in
    let no = c.if-are_quiet.false in (
      λ yes. absurd (cc),
      λ is.
          let rest = run_quiet inside.book.told.config inside.book.told.events inside.clients.items inside.nodes.items inside.coord.state inside.queues.items c.self.invariant
          (subst (λ (told : Told). IsQuietAt told.config (world_of told) (came told.events)) (sym c.self.view_is) is) in
          elim c.if-are_empty.branch [
            | then-are_empty w ↦
                let value = w.value-is in
                let quiet : w.are_quiet.result ≡ true = w.are_quiet.ensures ∙ ap all_quiet w.deref-then-are_empty.ensures.value ∙ rest.quiet in
                absurd (cc)
            | else-are_empty w ↦
                let some = w.if-are_empty.false in
                let empty : c.are_empty.result ≡ true = c.are_empty.ensures ∙ ap no_numbers c.deref.ensures.value ∙ rest.empty in
                absurd (cc)
          ],
    )
