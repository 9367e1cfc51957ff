-- Each event of the coordinator is within the ranges of the format, and keeps to them.
use Rattle.std.proofs.Common.{◌≡◌, ℕ, ◌<◌, ◌≤◌, ◌^◌, length, Some, Ok, refl, ap, ◌∙◌, subst, arith}
use Rattle.std.specs.Prelude.{slice_get}
use Rattle.std.specs.Result.{result_ok}
use Rattle.fal_base.specs.declared.call.Config.{Config}
use Rattle.fal_base.specs.declared.event.Actor.TheVariants.{Coord}
use Rattle.fal_base.specs.declared.event.Envelope.{Envelope}
use Rattle.fal_coord.specs.declared.event.CoordEvent.{CoordEvent}
use Rattle.fal_coord.specs.declared.event.CoordEvent.TheVariants as coord
use Rattle.fal_coord.specs.State.{Work}
use Rattle.fal_coord.specs.Step.{IsInRange, coord_step}
use Rattle.fal_wire.specs.declared.message.Message.{Message}
use Rattle.fal_wire.specs.declared.message.Message.TheVariants as message
use Rattle.fal_wire.specs.Messages.{reading}
use Rattle.fal_story.proofs.Events.DeliverEvent.{post_at}
use Rattle.fal_story.proofs.Events.InCoord.{coord_after}
use Rattle.fal_story.proofs.Events.Shows.{Ghost, Shows, posts_of}
use Rattle.fal_story.proofs.Events.Tables.{coord_version}
use Rattle.fal_story.proofs.Lists.Each.{each_join}
use Rattle.fal_story.proofs.Lists.Members.{each_in, in_at}
use Rattle.fal_story.proofs.Ranges.Bounds.{IsRanged, IsRecord, ComesToCoord}
use Rattle.fal_story.proofs.Ranges.CoordParts.{KeepsRanges}
use Rattle.fal_story.proofs.Ranges.CoordRanges.{AreNews, hear_keeps, start_keeps}
use Rattle.fal_story.proofs.Ranges.Counts.{few_operations}
use Rattle.fal_story.proofs.Ranges.GivenNews.{stays_few}
use Rattle.fal_story.proofs.Ranges.InRange.{letters_recorded}
use Rattle.fal_story.proofs.Ranges.PlacingCounts.{few_placings}
use Rattle.fal_story.proofs.Ranges.NodeRanges.{counted_more}
use Rattle.fal_story.proofs.View.{IsPosted, seat}
use Rattle.fal_story.specs.Clusters.{IsCluster}
use Rattle.fal_story.specs.World.{World, posted}

coord_posts : (config : Config) (w : World) (k : Work) → IsRanged w → KeepsRanges w.events k → IsRanged (coord_after config w k)
unfolding posted
coord_posts config w k ranged keeps = record {
  clients = ranged.clients;
  nodes = ranged.nodes;
  counted = λ n. counted_more w.events (w.nodes n) (ranged.counted n);
  coord = keeps.ranged;
  envelopes = each_join IsRecord w.envelopes _ ranged.envelopes (letters_recorded Coord w.events (length w.commits) k.sent keeps.letters);
}

-- no more placements were made than there are calls
few_versions : (config : Config) (w : World) (h : Ghost) → IsCluster config → Shows config w h → w.coord.table.version ≤ 10000
few_versions config w h cluster shows = let few = few_placings config w h cluster shows in let version = coord_version config w h shows in omega arith

-- what came leaves the rows few that nodes gave away
news_of : (config : Config) (w : World) (h : Ghost) (number : ℕ) (e : Envelope) (m : Message) → IsCluster config → Shows config w h → IsRanged w → slice_get w.envelopes number ≡ Some e → reading e.bytes ≡ Ok m → AreNews w.coord m
news_of config w h number e m cluster shows ranged at read o node told is given now =
    let posted : IsPosted (posts_of w.envelopes) number (seat e.to) e.point m = post_at w.envelopes number e at ∙ ap (λ r. Some (record { to = seat e.to; point = e.point; message = result_ok r })) read in
    let told_now : m ≡ message.Blocked w.coord.operation node told = is ∙ ap (λ i. message.Blocked i node told) now in
    stays_few config w h cluster shows number e.point node (seat e.to) told w.coord.stage refl (subst (IsPosted (posts_of w.envelopes) number (seat e.to) e.point) told_now posted) ranged.coord.stage given

coord_keeps : (config : Config) (w : World) (h : Ghost) (e : CoordEvent) (k : Work) → IsCluster config → w.events < 2 ^ 63 → Shows config w h → IsRanged w
    → ComesToCoord w e → coord_step w.coord e ≡ Some k → KeepsRanges w.events k
coord_keeps config w h (coord.Hear envelope) k cluster few shows ranged comes is =
    hear_keeps w.events w.coord envelope k few (few_operations config w h cluster shows) (few_versions config w h cluster shows) ranged.coord
    (each_in IsRecord w.envelopes envelope ranged.envelopes (in_at w.envelopes comes.0 envelope comes.1)) (λ m read. news_of config w h comes.0 envelope m cluster shows ranged comes.1 read) is
coord_keeps config w h coord.Start k cluster few shows ranged comes is = start_keeps w.events w.coord k few (few_operations config w h cluster shows) (few_versions config w h cluster shows) ranged.coord is

-- the coordinator's step is within the ranges, and keeps to them
pub coord_in_range : (config : Config) (w : World) (h : Ghost) (e : CoordEvent) (k : Work) → IsCluster config → w.events < 2 ^ 63 → Shows config w h → IsRanged w
    → ComesToCoord w e → coord_step w.coord e ≡ Some k → IsInRange k × IsRanged (coord_after config w k)
coord_in_range config w h e k cluster few shows ranged comes is =
    let keeps = coord_keeps config w h e k cluster few shows ranged comes is in
    (keeps.within, coord_posts config w k ranged keeps)
