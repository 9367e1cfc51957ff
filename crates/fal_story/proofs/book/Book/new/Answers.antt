use Rattle.fal_story.proofs.Histories.Books.{book_begins}
use Rattle.fal_story.proofs.book.Book.new.Goals as goal

-- src/book.rt:63:5
pub invariant_of-result : goal.invariant_of-result
invariant_of-result c = book_begins c.args.config c.new.result.items c.new-2.result.items c.new-3.result.items c.requires c.new.ensures.items c.new-2.ensures.items c.new-3.ensures.items
