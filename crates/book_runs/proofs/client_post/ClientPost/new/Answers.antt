use Rattle.std.proofs.Common.{ap, ◌∙◌}
use Rattle.fal_client.specs.State.{opening_client}
use Rattle.book_runs.proofs.Clients.{client_new}
use Rattle.book_runs.proofs.client_post.ClientPost.new.Goals as goal

pub invariant_of-result : goal.invariant_of-result
invariant_of-result c = client_new c.args.lane c.args.config.now c.args.seat c.new.result c.new-2.result c.requires.cluster c.requires.there c.requires.new (c.new.ensures ∙ ap (opening_client c.args.lane c.args.config.now.nodes) c.in_ok-calls.ensures) c.new-2.ensures
