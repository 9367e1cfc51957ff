-- What a record of the current attempt says of the place of its call.
use Rattle.std.proofs.Common.{◌≡◌, ◌⊎◌, ⊎_elim, ℕ, List, Option, Some, None, refl, sym, ◌∙◌, subst, arith}
use Rattle.fal_base.specs.declared.call.CallId.{CallId}
use Rattle.fal_base.specs.declared.call.CallRec.{CallRec}
use Rattle.fal_base.specs.declared.call.Config.{Config}
use Rattle.fal_base.specs.declared.event.Actor.TheVariants.{Client}
use Rattle.fal_base.specs.declared.reply.Reply.{Reply}
use Rattle.fal_base.specs.Commits.{Commit}
use Rattle.fal_client.specs.declared.current.Current.{Current}
use Rattle.fal_client.specs.declared.current.Listing.{Listing}
use Rattle.fal_place.specs.Placement.{Placement}
use Rattle.fal_wire.specs.declared.message.Message.TheVariants as message
use Rattle.fal_story.proofs.Events.HeldCalls.{AsksNone}
use Rattle.fal_story.proofs.Events.Shows.{Ghost, Shows, IsListed, posts_of}
use Rattle.fal_story.proofs.Families.Knowing.{IsOlder}
use Rattle.fal_story.proofs.Families.Listings.{IsPart, IsPartFor}
use Rattle.fal_story.proofs.Phase.{Phase, Tells, Replies, Opens, Lists}
use Rattle.fal_story.proofs.View.{IsPosted}
use Rattle.fal_story.specs.World.{World}

-- a record of the current attempt is no older one
pub not_older : (id : CallId) (seq : ℕ) (call : CallRec) → id.seq ≡ seq → id.attempt ≡ call.id.attempt → IsOlder id seq call → ⊥
not_older id seq call number attempt older = ⊎_elim (λ less. omega arith) (λ y. let less = y.1 in omega arith) older

-- where the client asks for no parts, no listing is under way
pub no_listing : (nodes : ℕ) (phase : Phase) (listing : Option Listing) → AsksNone phase → IsListed nodes phase listing → listing ≡ None
no_listing nodes phase None none listed = refl
no_listing nodes phase (Some listing) none listed = absurd (subst AsksNone listed.0 none)

-- a part that is told for the call's listing is a part of that one
part_for : (phase : Phase) (k dir : ℕ) (table : Placement) (commits : List Commit) (p n : ℕ) (names : List (List ℕ)) → phase ≡ Tells (Lists k dir) → IsPartFor phase table commits p n names → IsPart table commits k dir p n names
part_for phase k dir table commits p n names is (j, (d, was, part)) =
    let same : Tells (Lists j d) ≡ Tells (Lists k dir) = sym was ∙ is in
    let point : j ≡ k = cc in
    let number : d ≡ dir = cc in
    subst (λ i. IsPart table commits i dir p n names) point (subst (λ i. IsPart table commits j i p n names) number part)

module _ (config : Config) (w : World) (l : ℕ) (h : Ghost) (s : Shows config w h) (current : Current) (busy : (w.clients l).current ≡ Some current) where
  -- an answer is under way
  pub reply_told : (e p : ℕ) (id : CallId) (reply : Reply) → IsPosted (posts_of w.envelopes) e (Client l) p (message.Reply id reply) → id.seq ≡ (w.clients l).seq → h.phase l ≡ Tells (Replies p reply)
  reply_told e p id reply at last =
      let x = (s.heard l).some current busy in
      ⊎_elim (λ y. absurd (omega arith)) (λ y. ⊎_elim (λ z. absurd (x.0 z)) (λ z. z) y.1) (s.good.records.responses e l p (message.Reply id reply) at).1

  -- so there is no listing
  pub reply_unlisted : (e p : ℕ) (id : CallId) (reply : Reply) → IsPosted (posts_of w.envelopes) e (Client l) p (message.Reply id reply) → id.seq ≡ (w.clients l).seq → current.listing ≡ None
  reply_unlisted e p id reply at last =
      no_listing config.nodes (h.phase l) current.listing (subst AsksNone (sym (reply_told e p id reply at last)) tt) ((s.heard l).some current busy).3

  -- a directory is opened, of which the client was not told yet
  pub opened_told : (e p : ℕ) (id : CallId) (dir : ℕ) → IsPosted (posts_of w.envelopes) e (Client l) p (message.Opened id dir) → id.seq ≡ (w.clients l).seq → current.listing ≡ None → h.phase l ≡ Tells (Opens p dir)
  opened_told e p id dir at last none =
      let x = (s.heard l).some current busy in
      let unlisted : IsListed config.nodes (h.phase l) None = subst (IsListed config.nodes (h.phase l)) none x.3 in
      ⊎_elim
      (λ y. absurd (omega arith))
      (λ y. ⊎_elim (λ z. absurd (x.0 z)) (λ z. ⊎_elim (λ is. is) (λ is. absurd (unlisted p dir is)) z) y.1)
      (s.good.records.responses e l p (message.Opened id dir) at).1

  -- a listing is under way
  pub lists_now : (listing : Listing) → current.listing ≡ Some listing → h.phase l ≡ Tells (Lists listing.opened listing.dir)
  lists_now listing is = (subst (IsListed config.nodes (h.phase l)) is ((s.heard l).some current busy).3).0

  -- a node's part of it has come
  pub part_told : (e p n : ℕ) (id : CallId) (names : List (List ℕ)) (listing : Listing) → IsPosted (posts_of w.envelopes) e (Client l) p (message.ListPart id n names) → id.seq ≡ (w.clients l).seq → id.attempt ≡ current.attempt
      → current.listing ≡ Some listing → IsPart (w.clients l).table w.commits listing.opened listing.dir p n names
  part_told e p n id names listing at last attempt is =
      let x = (s.heard l).some current busy in
      ⊎_elim
      (λ older. absurd (not_older id (w.clients l).seq (h.call l) last (attempt ∙ x.2) older))
      (λ y. ⊎_elim (λ idle. absurd (x.0 idle)) (λ part. part_for (h.phase l) listing.opened listing.dir (w.clients l).table w.commits p n names (lists_now listing is) part) y.1)
      (s.good.listings.parts e l p n id names at)
