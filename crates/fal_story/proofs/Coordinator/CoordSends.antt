-- Letters are sent in a step of the coordinator under way.
use Rattle.std.proofs.Common.{◌≡◌, ℕ, zero, suc, ◌+◌, ◌<◌, List, [], ◌∷◌, ◌++◌, length, map, sym, subst, append-nil, append_assoc, arith}
use Rattle.std.specs.List.{range_with_len}
use Rattle.fal_base.specs.declared.call.Config.{Config}
use Rattle.fal_coord.specs.State.{Work}
use Rattle.fal_wire.specs.declared.letter.Letter.{Letter}
use Rattle.fal_story.proofs.Events.InCoord.{InCoord, view_at}
use Rattle.fal_story.proofs.Events.InStep.{letter_post}
use Rattle.fal_story.proofs.Events.Sends.{posts_push}
use Rattle.fal_story.proofs.Events.Shows.{Ghost, posts_of}
use Rattle.fal_story.proofs.Good.{Good}
use Rattle.fal_story.proofs.Lists.Each.{Each, each_weaker}
use Rattle.fal_story.proofs.Lists.Members.{each_map}
use Rattle.fal_story.proofs.Steps.Posted.{IsFine, posted_good}
use Rattle.fal_story.proofs.View.{seat}
use Rattle.fal_story.specs.World.{World, point_of}

-- what has to hold of a letter when the coordinator sends it
abbrev pub IsFineHere : Config → World → Work → Ghost → Letter → Type 0
IsFineHere config w k h letter = IsFine config (view_at config w k h) (seat letter.to) (point_of (length w.commits) letter.point) letter.message

-- one more letter, which is fine
pub coord_sends : (config : Config) (w : World) (k : Work) (h : Ghost) (letter : Letter) → IsFineHere config w k h letter → InCoord config w k h
    → InCoord config w (record k { sent = k.sent ++ letter ∷ [] }) h
coord_sends config w k h letter fine s =
    record {
      good = subst (Good config) same (posted_good config (view_at config w k h) (seat letter.to) (point_of (length w.commits) letter.point) letter.message fine s.good);
      held = s.held;
      heard = s.heard;
      beside = s.beside;
    }
  where
    same : record (view_at config w k h) { posts = (view_at config w k h).posts ++ letter_post (length w.commits) letter ∷ [] } ≡ view_at config w (record k { sent = k.sent ++ letter ∷ [] }) h
    same = λ i. record (view_at config w k h) { posts = posts_push (length w.commits) (posts_of w.envelopes) k.sent letter i }

-- what is fine does not depend on the letters before it
fine_more : (config : Config) (w : World) (k : Work) (h : Ghost) (more : List Letter) (letter : Letter) → IsFineHere config w k h letter → IsFineHere config w (record k { sent = more }) h letter
fine_more config w k h more letter fine = record { asking = fine.asking; records = fine.records; operation = fine.operation; bars = fine.bars; knowing = fine.knowing; listings = fine.listings }

-- letters, each of which is fine
pub coord_sends_all : (config : Config) (w : World) (k : Work) (h : Ghost) (letters : List Letter) → Each (IsFineHere config w k h) letters → InCoord config w k h
    → InCoord config w (record k { sent = k.sent ++ letters }) h
coord_sends_all config w k h [] fine s = subst (λ sent. InCoord config w (record k { sent = sent }) h) (sym (append-nil k.sent)) s
coord_sends_all config w k h (letter ∷ letters) fine s =
    let more = k.sent ++ letter ∷ [] in
    let rest = each_weaker (IsFineHere config w k h) (IsFineHere config w (record k { sent = more }) h) letters (λ l x. fine_more config w k h more l x) fine.1 in
    subst (λ sent. InCoord config w (record k { sent = sent }) h) (append_assoc k.sent (letter ∷ []) letters)
    (coord_sends_all config w (record k { sent = more }) h letters rest (coord_sends config w k h letter fine.0 s))

-- numbers from the first on are below the end
each_below : (nodes from count : ℕ) → from + count ≡ nodes → Each (λ n. n < nodes) (range_with_len from count)
each_below nodes from zero end = tt
each_below nodes from (suc count) end = (omega arith, each_below nodes (from + 1) count (omega arith))

-- letters to the nodes, of which each is fine
pub fine_nodes : (config : Config) (w : World) (k : Work) (h : Ghost) (f : ℕ → Letter) (nodes : ℕ) → ((n : ℕ) → n < nodes → IsFineHere config w k h (f n)) → Each (IsFineHere config w k h) (map f (range_with_len 0 nodes))
fine_nodes config w k h f nodes fine = each_map (IsFineHere config w k h) f (range_with_len 0 nodes)
    (each_weaker (λ n. n < nodes) (λ n. IsFineHere config w k h (f n)) (range_with_len 0 nodes) fine (each_below nodes 0 nodes (omega arith)))
