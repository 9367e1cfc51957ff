use Rattle.std.proofs.Common.{◌∙◌, ap, subst, sym, rules, count_by}
use Rattle.fal_story.specs.Rooms.{is_commit_note}
use Rattle.fal_story.specs.Run.{Follows}
use Rattle.fal_story.specs.Told.{SeenBook}
use Rattle.fal_story.proofs.Histories.Books.{book_stepped}
use Rattle.fal_story.proofs.Trees.Noted.{noted_commits}
use Rattle.fal_story.proofs.book.Book.put.Goals as goal

pub invariant_of-self : goal.invariant_of-self
invariant_of-self c = book_stepped c.self.inside.config c.self.inside.events.items c.push_reserved.new.self.items c.self.inside.sent.items c.add_envelopes.new.sent.items c.self.inside.entries.items c.add_entries.new.entries.items
    c.self.inside.commits c.commits_in-made.result c.args.event c.args.outputs.sent c.args.outputs.notes c.self.invariant (subst (λ (seen : SeenBook). Follows seen.told.config seen.told.events c.args.event c.args.outputs.sent c.args.outputs.notes) (sym c.self.view_is) c.requires.follows)
    (search rules) (search rules) (search rules) (c.commits_in-made.ensures ∙ (ap (count_by is_commit_note) c.as_slice.ensures ∙ sym (noted_commits c.self.inside.commits c.args.outputs.notes))) (search rules) (search rules)
