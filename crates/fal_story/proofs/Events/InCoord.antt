-- A step of the coordinator under way: how it begins and how it ends.
use Rattle.std.proofs.Common.{◌≡◌, ℕ, ◌++◌, length, sym, subst, append-nil}
use Rattle.std.specs.Prelude.{map}
use Rattle.std.specs.List.{All}
use Rattle.fal_base.specs.declared.call.Config.{Config}
use Rattle.fal_base.specs.declared.event.Actor.TheVariants.{Coord}
use Rattle.fal_base.specs.Transcript.{commits_of}
use Rattle.fal_coord.specs.State.{Work, begun}
use Rattle.fal_wire.specs.Letters.{output_of}
use Rattle.fal_wire.specs.Messages.{Fits}
use Rattle.fal_story.proofs.Events.InStep.{letter_posts, posts_sent, sent_more}
use Rattle.fal_story.proofs.Events.Shows.{operating, replicas_of, fetches_of, opened_of, taken_of, shut_of, last_of, mapped, Ghost, Shows, Beside, Held, Heard, AreSent, view_of, posts_of, calls_in, tables_of, barred_in}
use Rattle.fal_story.proofs.Listing.Keeping.{keeping_more}
use Rattle.fal_story.proofs.Good.{Good}
use Rattle.fal_story.proofs.View.{View}
use Rattle.fal_story.specs.World.{World, posted, entries_of, envelopes_of}

-- the view of a world in which the coordinator is at work k
abbrev pub view_at : Config → World → Work → Ghost → View
view_at config w k h = record {
  rows = λ m. (w.nodes m).rows;
  replica = replicas_of w.nodes k.coord;
  fetches = fetches_of w.nodes k.coord;
  opened = opened_of w.nodes k.coord;
  taken = taken_of w.nodes k.coord;
  drawn = λ m. (w.nodes m).drawn;
  posts = posts_of w.envelopes ++ letter_posts (length w.commits) k.sent;
  entries = w.entries ++ entries_of (length w.commits) k.notes;
  commits = w.commits ++ commits_of config (entries_of (length w.commits) k.notes);
  seq = λ l. (w.clients l).seq;
  call = h.call;
  since = h.since;
  phase = h.phase;
  op = operating config (shut_of w.nodes) (last_of w.nodes) k.coord h;
  map = mapped (tables_of w.nodes) (barred_in w.nodes) w.clients k.coord h;
}

-- the coordinator is at work k
pub record InCoord (config : Config) (w : World) (k : Work) (h : Ghost) : Type 0 where
  pub good : Good config (view_at config w k h)
  pub held : (n : ℕ) → Held h.call h.phase n (w.nodes n).waiting.calls (calls_in (w.nodes n).batches)
  pub heard : (l : ℕ) → Heard config h.call h.phase l (w.clients l)
  pub beside : Beside config w.nodes k.coord h

-- the view at the beginning
pub view_started : (config : Config) (w : World) (h : Ghost) → view_of config w h ≡ view_at config w (begun w.coord) h
view_started config w h = λ i. record (view_of config w h) {
  posts = sym (append-nil (posts_of w.envelopes)) i;
  entries = sym (append-nil w.entries) i;
  commits = sym (append-nil w.commits) i;
}

pub starts_at : (config : Config) (w : World) (h : Ghost) → Shows config w h → InCoord config w (begun w.coord) h
starts_at config w h s = record { good = subst (Good config) (view_started config w h) s.good; held = s.held; heard = s.heard; beside = s.beside }

-- the world after the coordinator's event
abbrev pub coord_after : Config → World → Work → World
coord_after config w k = posted config (record w { coord = k.coord }) Coord (map output_of k.sent) k.notes

-- the records of the letters are sent, each of which can be read
pub coord_ends : (config : Config) (w : World) (h : Ghost) (k : Work) (later : Ghost) → All (λ letter. Fits letter.message) k.sent → Shows config w h → InCoord config w k later → Shows config (coord_after config w k) later
unfolding posted
coord_ends config w h k later fit shown s =
    record {
      good = subst (Good config) same s.good;
      held = s.held;
      items = λ n. subst (λ posts. AreSent posts n (w.nodes n).items) (sym sent) (sent_more (posts_of w.envelopes) (letter_posts (length w.commits) k.sent) n (w.nodes n).items (shown.items n));
      heard = s.heard;
      kept = λ l. keeping_more w.commits (commits_of config (entries_of (length w.commits) k.notes)) (w.clients l) (shown.kept l);
      placed = shown.placed;
      beside = s.beside;
    }
  where
    sent : posts_of (w.envelopes ++ envelopes_of Coord w.events (length w.commits) (map output_of k.sent)) ≡ posts_of w.envelopes ++ letter_posts (length w.commits) k.sent
    sent = posts_sent Coord w.events (length w.commits) w.envelopes k.sent fit

    same : view_at config w k later ≡ view_of config (coord_after config w k) later
    same = λ i. record (view_at config w k later) { posts = sym sent i }

-- the world after the event shows what there is
abbrev pub EndsCoord : Config → World → Work → Type 0
EndsCoord config w k = (h : Ghost) × Shows config (coord_after config w k) h
