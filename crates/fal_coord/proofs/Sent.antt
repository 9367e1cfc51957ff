-- The letters to all nodes.
use Rattle.std.proofs.Common.{◌≡◌, ℕ, ◌+◌, [], ◌∷◌, ◌++◌, zero-add}
use Rattle.std.proofs.lemmas.List.FromFn.{map-range_with_len_more}
use Rattle.fal_base.specs.declared.event.Actor.TheVariants.{Node}
use Rattle.fal_base.specs.declared.event.Point.TheVariants.{Here}
use Rattle.fal_wire.specs.declared.message.Message.{Message}
use Rattle.fal_wire.specs.Letters.{letter}
use Rattle.fal_coord.specs.Nodes.{to_nodes}

-- one node more is told
pub letters_more : (message : Message) (n : ℕ) → to_nodes (n + 1) message ≡ to_nodes n message ++ letter (Node n) (Here 0) message ∷ []
letters_more message n = map-range_with_len_more (λ node. letter (Node node) (Here 0) message) 0 n n (zero-add n)
