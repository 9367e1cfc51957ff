use Rattle.book_runs.proofs.coord_post.CoordPost.look.Goals as goal

pub invariant_of-self : goal.invariant_of-self
invariant_of-self g c = c.look_on.ensures.kept _ _ _ c.self.invariant
