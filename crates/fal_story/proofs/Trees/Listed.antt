-- Listings in a transcript that grows.
use Rattle.std.proofs.Common.{◌≡◌, ◌≢◌, ⊎_elim, ℕ, ◌≤◌, List, [], ◌∷◌, ◌++◌, length, sym, ap, ◌∙◌, subst, arith}
use Rattle.fal_base.specs.declared.call.Call.{Call}
use Rattle.fal_base.specs.declared.call.Config.{Config}
use Rattle.fal_base.specs.declared.entry.Entry.{Entry}
use Rattle.fal_base.specs.declared.entry.Entry.TheVariants as entry
use Rattle.fal_base.specs.declared.reply.Reply.TheVariants.{Names}
use Rattle.fal_base.specs.Commits.{Commit, tree_at}
use Rattle.fal_base.specs.Listing.{AreListings, HoldsBetween, IsListing, OpensAt, StandsUnder}
use Rattle.fal_base.specs.Transcript.{commits_of}
use Rattle.fal_base.specs.Walk.{walk}
use Rattle.fal_story.proofs.Lists.Grown.{slice_get_below, slice_get_front, slice_get_snoc}
use Rattle.fal_story.proofs.Trees.Commits.{tree_at_front}
use Rattle.fal_story.proofs.Trees.Transcript.{IsJoined, at_front, at_within, commits_append}

-- what is listed between two points is so where later commits are made
pub holds_front : (commits more : List Commit) (dir b e : ℕ) (names : List (List ℕ)) → e ≤ length commits → HoldsBetween commits dir b e names → HoldsBetween (commits ++ more) dir b e names
holds_front commits more dir b e names within x = record {
  rising = x.rising;
  throughout = λ name stands. x.throughout name (λ k from to. subst (λ t. StandsUnder t dir name) (tree_at_front commits more k (omega arith)) (stands k from to));
  sometime = λ name among. let y = x.sometime name among in let to = y.2 in (y.0, y.1, y.2, subst (λ t. StandsUnder t dir name) (sym (tree_at_front commits more y.0 (omega arith))) y.3);
}

-- a listing stays one where an entry is added
pub listing_more : (config : Config) (entries : List Entry) (e : Entry) (commits : List Commit) (j lane seq p : ℕ) (names : List (List ℕ)) (call : Call) → IsJoined config entries commits → j ≤ length entries
    → IsListing config entries j lane seq p names call → IsListing config (entries ++ e ∷ []) j lane seq p names call
listing_more config entries e commits j lane seq p names call joined within x =
    let cs = commits_of config entries in
    let ds = commits_of config (e ∷ []) in
    let append = commits_append config entries (e ∷ []) in
    let inside = at_within entries j in
    let to = x.to in
    let onward = x.onward in
    let count = joined.count ∙ ap length joined.same in
    let last : p ≤ length cs = omega arith in
    let first : x.b ≤ length cs = omega arith in
    let opened : tree_at (commits_of config (entries ++ e ∷ [])) x.b ≡ tree_at cs x.b = ap (λ c. tree_at c x.b) append ∙ tree_at_front cs ds x.b first in
    let below = slice_get_below entries x.sent _ x.is_sent in
    let second = at_front entries (e ∷ []) j within in
    record {
      path = x.path;
      lists = x.lists;
      sent = x.sent;
      is_sent = slice_get_front entries (e ∷ []) x.sent _ x.is_sent;
      opened = x.opened;
      dir = x.dir;
      b = x.b;
      is_opened = slice_get_front entries (e ∷ []) x.opened _ x.is_opened;
      from = let from = x.from in let same = at_front entries (e ∷ []) x.sent (omega arith) in omega arith;
      onward = x.onward;
      to = omega arith;
      opens = subst (λ t. OpensAt t call.cred x.dir (walk t call.cred x.path)) (sym opened) x.opens;
      holds = subst (λ c. HoldsBetween c x.dir x.b p names) (sym append) (holds_front cs ds x.dir x.b p names last x.holds);
    }

pub listings_more : (config : Config) (entries : List Entry) (e : Entry) (commits : List Commit) → IsJoined config entries commits → ((l s k : ℕ) (names : List (List ℕ)) → e ≢ entry.Answered l s k (Names names)) → AreListings config entries
    → AreListings config (entries ++ e ∷ [])
listings_more config entries e commits joined plain all j lane seq p names call is named = ⊎_elim
    (λ y. let below = slice_get_below entries j _ y in listing_more config entries e commits j lane seq p names call joined (omega arith) (all j lane seq p names call y named))
    (λ y. absurd (plain lane seq p names y.1))
    (slice_get_snoc entries e j _ is)
