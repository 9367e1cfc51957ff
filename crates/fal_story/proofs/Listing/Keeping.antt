-- The parts that a client keeps stay shares of their nodes where commits are made.
use Rattle.std.proofs.Common.{ℕ, List, [], ◌++◌, Option, Some, None}
use Rattle.fal_base.specs.Commits.{Commit}
use Rattle.fal_client.specs.declared.current.Listing.{Listing}
use Rattle.fal_client.specs.State.{ClientState}
use Rattle.fal_place.specs.Placement.{Placement}
use Rattle.fal_story.proofs.Events.Shows.{AreKept, IsKeeping}
use Rattle.fal_story.proofs.Families.Listings.{part_more}
use Rattle.fal_story.proofs.Lists.Grown.{put_all}
use Rattle.fal_story.specs.World.{put}

kept_more : (table : Placement) (commits more : List Commit) (listing : Option Listing) → AreKept table commits listing → AreKept table (commits ++ more) listing
kept_more table commits more None kept = tt
kept_more table commits more (Some listing) kept = λ n part at. part_more table commits more listing.opened listing.dir part.point n part.names (kept n part at)

pub keeping_more : (commits more : List Commit) (c : ClientState) → IsKeeping commits c → IsKeeping (commits ++ more) c
keeping_more commits more c kept current is = kept_more c.table commits more current.listing (kept current is)

-- one client changes, and no commit is made
pub keeping_put : (commits : List Commit) (clients : ℕ → ClientState) (l : ℕ) (c : ClientState) → IsKeeping commits c → ((m : ℕ) → IsKeeping commits (clients m)) → (m : ℕ) → IsKeeping (commits ++ []) (put clients l c m)
keeping_put commits clients l c here others = put_all (λ m y. IsKeeping (commits ++ []) y) clients l c (keeping_more commits [] c here) (λ m _. keeping_more commits [] (clients m) (others m))
