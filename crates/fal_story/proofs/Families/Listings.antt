-- Listings: a directory that is opened stood at its point, each part that is told is a node's share of what stood under it, and what was
-- listed.
use Rattle.std.proofs.Common.{◌≡◌, ◌≢◌, ◌⊎◌, inl, inr, ⊎_elim, ℕ, ◌≤◌, ◌+◌, false, true≢false, List, [], ◌∷◌, ◌++◌, length, length-append, Some, refl, sym, ap, ◌∙◌, subst, arith}
use Rattle.std.specs.Prelude.{slice_get, Contains}
use Rattle.std.proofs.lemmas.Option.{same_Some}
use Rattle.fal_base.specs.declared.call.CallId.{CallId}
use Rattle.fal_base.specs.declared.call.CallRec.{CallRec}
use Rattle.fal_base.specs.declared.call.Config.{Config}
use Rattle.fal_base.specs.declared.entry.Entry.{Entry}
use Rattle.fal_base.specs.declared.entry.Entry.TheVariants as entry
use Rattle.fal_base.specs.declared.event.Actor.{Actor}
use Rattle.fal_base.specs.declared.event.Actor.TheVariants.{Client}
use Rattle.fal_base.specs.declared.op.Op.TheVariants as op
use Rattle.fal_base.specs.declared.path.PathArg.TheVariants.{Good}
use Rattle.fal_base.specs.declared.reply.Reply.{Reply}
use Rattle.fal_base.specs.declared.reply.Reply.TheVariants.{Names}
use Rattle.fal_base.specs.Commits.{Commit, tree_at}
use Rattle.fal_base.specs.Listing.{AreListings, AreRising, HoldsBetween, IsListing, OpensAt, StandsUnder}
use Rattle.fal_base.specs.Transcript.{at, call_of, is_names}
use Rattle.fal_base.specs.Tree.{Tree, key_of}
use Rattle.fal_base.specs.Walk.{walk}
use Rattle.fal_place.specs.Placement.{Placement, owner}
use Rattle.fal_wire.specs.declared.message.Message.{Message}
use Rattle.fal_wire.specs.declared.message.Message.TheVariants as message
use Rattle.fal_story.proofs.Families.Knowing.{IsOfAttempt, IsOlder, retried}
use Rattle.fal_story.proofs.Lists.Grown.{put_all, put_both, put_four, slice_get_below, slice_get_end, slice_get_front, slice_get_snoc}
use Rattle.fal_story.proofs.Phase.{Phase, Idle, Tells, Opens, Lists, IsUnlisted}
use Rattle.fal_story.proofs.Trees.Commits.{longer, tree_at_front}
use Rattle.fal_story.proofs.Trees.Listed.{listing_more, listings_more}
use Rattle.fal_story.proofs.Trees.Transcript.{IsJoined, at_end, at_front, joined_more}
use Rattle.fal_story.proofs.View.{plain, posted_more, Post, IsPosted, post}
use Rattle.fal_story.specs.World.{put}

-- the call lists a directory that was opened for it at this point, since it was sent
pub record IsOpenedFor (commits : List Commit) (call : CallRec) (since k dir : ℕ) : Type 0 where
  pub path : List (List ℕ)
  pub lists : call.op ≡ op.List (Good path)
  pub from : since ≤ k
  pub to : k ≤ length commits
  pub opens : OpensAt (tree_at commits k) call.cred dir (walk (tree_at commits k) call.cred path)

-- the directory was opened at this point, whether its client is told or not
abbrev pub HasOpened : Phase → ℕ → ℕ → Type 0
HasOpened phase k dir = (phase ≡ Tells (Opens k dir)) ⊎ (phase ≡ Tells (Lists k dir))

-- these are the names under the directory whose rows live at the node by the table
pub record IsShare (table : Placement) (tree : Tree) (dir n : ℕ) (names : List (List ℕ)) : Type 0 where
  pub rising : AreRising names
  pub has : (name : List ℕ) → StandsUnder tree dir name → owner table (key_of dir name) ≡ n → Contains names name
  pub only : (name : List ℕ) → Contains names name → StandsUnder tree dir name × (owner table (key_of dir name) ≡ n)

-- a node's share at a point since the directory was opened
pub record IsPart (table : Placement) (commits : List Commit) (k dir p n : ℕ) (names : List (List ℕ)) : Type 0 where
  pub from : k ≤ p
  pub to : p ≤ length commits
  pub share : IsShare table (tree_at commits p) dir n names

-- a part is under way for a listing, which goes on
abbrev pub IsPartFor : Phase → Placement → List Commit → ℕ → ℕ → List (List ℕ) → Type 0
IsPartFor phase table commits p n names = (k : ℕ) × ((dir : ℕ) × (phase ≡ Tells (Lists k dir)) × IsPart table commits k dir p n names)

-- what is told as a part is of an earlier attempt, or of a call that was answered, or it is a part
abbrev pub IsToldPart : ℕ → CallRec → Phase → Placement → List Commit → ℕ → CallId → ℕ → List (List ℕ) → Type 0
IsToldPart seq call phase table commits p id n names = IsOlder id seq call ⊎ (IsOfAttempt id seq call × ((phase ≡ Idle) ⊎ IsPartFor phase table commits p n names))

abbrev pub Parts : List Post → (ℕ → ℕ) → (ℕ → CallRec) → (ℕ → Phase) → (ℕ → Placement) → List Commit → Type 0
Parts posts seq call phase known commits =
    (e l p n : ℕ) (id : CallId) (names : List (List ℕ)) → IsPosted posts e (Client l) p (message.ListPart id n names) → IsToldPart (seq l) (call l) (phase l) (known l) commits p id n names

-- the transcript tells of the directory
abbrev pub IsNoted : List Entry → ℕ → ℕ → ℕ → ℕ → Type 0
IsNoted entries l seq k dir = (i : ℕ) × (slice_get entries i ≡ Some (entry.Opened l seq dir k))

pub record Listings (config : Config) (known : ℕ → Placement) (posts : List Post) (entries : List Entry) (commits : List Commit) (seq : ℕ → ℕ) (call : ℕ → CallRec) (since : ℕ → ℕ) (phase : ℕ → Phase) : Type 0 where
  pub opened : (l k dir : ℕ) → HasOpened (phase l) k dir → IsOpenedFor commits (call l) (since l) k dir
  pub noted : (l k dir : ℕ) → phase l ≡ Tells (Lists k dir) → IsNoted entries l (seq l) k dir
  pub parts : Parts posts seq call phase known commits
  pub listed : AreListings config entries

-- it stays one where later commits are made
pub part_more : (table : Placement) (commits more : List Commit) (k dir p n : ℕ) (names : List (List ℕ)) → IsPart table commits k dir p n names → IsPart table (commits ++ more) k dir p n names
part_more table commits more k dir p n names x =
    let to = x.to in
    let long = length-append commits more in
    record { from = x.from; to = omega arith; share = subst (λ t. IsShare table t dir n names) (sym (tree_at_front commits more p x.to)) x.share }

-- what has to hold of a record when it is sent
abbrev pub FineListings : (ℕ → Placement) → List Commit → (ℕ → ℕ) → (ℕ → CallRec) → (ℕ → Phase) → Actor → ℕ → Message → Type 0
FineListings known commits seq call phase to p (message.ListPart id n names) = (l : ℕ) × (to ≡ Client l) × IsToldPart (seq l) (call l) (phase l) (known l) commits p id n names
FineListings known commits seq call phase to p other = Unit {0}

-- an entry that is no listing
abbrev pub IsPlainEntry : Entry → Type 0
IsPlainEntry e = (l s k : ℕ) (names : List (List ℕ)) → e ≢ entry.Answered l s k (Names names)

pub plain_answer : (l s k : ℕ) (reply : Reply) → is_names reply ≡ false → IsPlainEntry (entry.Answered l s k reply)
plain_answer l s k reply plain m t i names same = let told : reply ≡ Names names = cc in true≢false (sym (ap is_names told) ∙ plain)

-- what holds of the parts of one listing that is answered holds of the parts of its equal
same_listing : (P : ℕ → ℕ → ℕ → List (List ℕ) → Type 0) (l s k m t i : ℕ) (ns ms : List (List ℕ)) → entry.Answered l s k (Names ns) ≡ entry.Answered m t i (Names ms) → P l s k ns → P m t i ms
same_listing P l s k m t i ns ms e h =
    let lane : l ≡ m = cc in
    let number : s ≡ t = cc in
    let point : k ≡ i = cc in
    let names : ns ≡ ms = cc in
    subst (λ z. P z t i ms) lane (subst (λ z. P l z i ms) number (subst (λ z. P l s z ms) point (subst (λ z. P l s k z) names h)))

same_client : (a b : ℕ) → Client a ≡ Client b → a ≡ b
same_client a b e = cc

-- ---- a lane's call, before and after an event

-- no listing begins, one that goes on is the same, and parts that are told stay parts
record IsOnward (commits : List Commit) (seq : ℕ) (call : CallRec) (since : ℕ) (phase : Phase) (known : Placement) (seq' : ℕ) (call' : CallRec) (since' : ℕ) (phase' : Phase) (known' : Placement) : Type 0 where
  opened : (k dir : ℕ) → HasOpened phase' k dir → IsOpenedFor commits call' since' k dir
  noted : (k dir : ℕ) → phase' ≡ Tells (Lists k dir) → (phase ≡ Tells (Lists k dir)) × (seq' ≡ seq)
  parts : (p n : ℕ) (id : CallId) (names : List (List ℕ)) → IsToldPart seq call phase known commits p id n names → IsToldPart seq' call' phase' known' commits p id n names

unlisted_opens : (p : Phase) (k dir : ℕ) → IsUnlisted p → HasOpened p k dir → ⊥
unlisted_opens p k dir un h = ⊎_elim (λ e. subst IsUnlisted e un) (λ e. subst IsUnlisted e un) h

-- no listing is under way before and after
onward_unlisted : (commits : List Commit) (seq : ℕ) (call : CallRec) (since : ℕ) (phase : Phase) (known : Placement) (call' : CallRec) (since' : ℕ) (phase' : Phase) (known' : Placement) → IsUnlisted phase → IsUnlisted phase'
    → ((id : CallId) → IsOlder id seq call → IsOlder id seq call') → ((id : CallId) → IsOfAttempt id seq call → IsOlder id seq call' ⊎ (IsOfAttempt id seq call' × (phase ≡ Idle → phase' ≡ Idle)))
    → IsOnward commits seq call since phase known seq call' since' phase' known'
onward_unlisted commits seq call since phase known call' since' phase' known' was is older same = record {
  opened = λ k dir h. absurd (unlisted_opens phase' k dir is h);
  noted = λ k dir e. absurd (subst IsUnlisted e is);
  parts = λ p n id names x. ⊎_elim
      (λ o. inl (older id o))
      (λ y. ⊎_elim (λ o. inl o) (λ z. inr (z.0, ⊎_elim (λ idle. inl (z.1 idle)) (λ part. absurd (subst IsUnlisted part.1.1 was)) y.1)) (same id y.0))
      x;
}

-- an earlier call of the lane, or an earlier attempt, of which no listing is under way
onward_past : (commits : List Commit) (seq : ℕ) (call : CallRec) (since : ℕ) (phase : Phase) (known : Placement) (seq' : ℕ) (call' : CallRec) (since' : ℕ) (phase' : Phase) (known' : Placement) → IsUnlisted phase'
    → ((id : CallId) → IsOlder id seq call ⊎ IsOfAttempt id seq call → IsOlder id seq' call') → IsOnward commits seq call since phase known seq' call' since' phase' known'
onward_past commits seq call since phase known seq' call' since' phase' known' is past = record {
  opened = λ k dir h. absurd (unlisted_opens phase' k dir is h);
  noted = λ k dir e. absurd (subst IsUnlisted e is);
  parts = λ p n id names x. inl (past id (⊎_elim (λ o. inl o) (λ y. inr y.0) x));
}

module _ {config : Config} {known : ℕ → Placement} {posts : List Post} {entries : List Entry} {commits : List Commit} {seq : ℕ → ℕ} {call : ℕ → CallRec} {since : ℕ → ℕ} {phase : ℕ → Phase} (g : Listings config known posts entries commits seq call since phase) where
  onward_same : (a : ℕ) → IsOnward commits (seq a) (call a) (since a) (phase a) (known a) (seq a) (call a) (since a) (phase a) (known a)
  onward_same a = record { opened = λ k dir h. g.opened a k dir h; noted = λ k dir e. (e, refl); parts = λ p n id names x. x }

  listings_onward : (known' : ℕ → Placement) (seq' : ℕ → ℕ) (call' : ℕ → CallRec) (since' : ℕ → ℕ) (phase' : ℕ → Phase)
      → ((a : ℕ) → IsOnward commits (seq a) (call a) (since a) (phase a) (known a) (seq' a) (call' a) (since' a) (phase' a) (known' a)) → Listings config known' posts entries commits seq' call' since' phase'
  listings_onward known' seq' call' since' phase' on = record {
    opened = λ l k dir h. (on l).opened k dir h;
    noted = λ l k dir e. let y = (on l).noted k dir e in let x = g.noted l k dir y.0 in (x.0, x.1 ∙ ap (λ s. Some (entry.Opened l s dir k)) (sym y.1));
    parts = λ e l p n id names posted. (on l).parts p n id names (g.parts e l p n id names posted);
    listed = g.listed;
  }

  -- calls move, none from or to a listing
  pub listings_moved : (phase' : ℕ → Phase) → ((l : ℕ) → phase l ≡ Idle → phase' l ≡ Idle) → ((l k dir : ℕ) → HasOpened (phase' l) k dir → phase' l ≡ phase l) → ((l k dir : ℕ) → phase l ≡ Tells (Lists k dir) → phase' l ≡ Tells (Lists k dir))
      → Listings config known posts entries commits seq call since phase'
  listings_moved phase' still from lists = listings_onward known seq call since phase' (λ a. record {
    opened = λ k dir h. g.opened a k dir (subst (λ q. HasOpened q k dir) (from a k dir h) h);
    noted = λ k dir e. (sym (from a k dir (inr e)) ∙ e, refl);
    parts = λ p n id names x. ⊎_elim (λ o. inl o) (λ y. inr (y.0, ⊎_elim (λ idle. inl (still a idle)) (λ z. inr (z.0, (z.1.0, lists a z.0 z.1.0 z.1.1, z.1.2))) y.1)) x;
  })

  -- one call moves, not from or to a listing
  pub listings_put : (l : ℕ) (p : Phase) → (phase l ≡ Idle → p ≡ Idle) → IsUnlisted (phase l) → IsUnlisted p → Listings config known posts entries commits seq call since (put phase l p)
  listings_put l p still was is = listings_onward known seq call since (put phase l p)
      (put_all (λ a q. IsOnward commits (seq a) (call a) (since a) (phase a) (known a) (seq a) (call a) (since a) q (known a)) phase l p
      (onward_unlisted commits (seq l) (call l) (since l) (phase l) (known l) (call l) (since l) p (known l) was is (λ id o. o) (λ id y. inr (y, still)))
      (λ a _. onward_same a))

  -- a call is handed on: the same attempt
  pub listings_handed : (l : ℕ) (c : CallRec) (p : Phase) → c.id.attempt ≡ (call l).id.attempt → phase l ≢ Idle → IsUnlisted (phase l) → IsUnlisted p → Listings config known posts entries commits seq (put call l c) since (put phase l p)
  listings_handed l c p same busy was is = listings_onward known seq (put call l c) since (put phase l p)
      (put_both (λ a d q. IsOnward commits (seq a) (call a) (since a) (phase a) (known a) (seq a) d (since a) q (known a)) call phase l c p
      (onward_unlisted commits (seq l) (call l) (since l) (phase l) (known l) c (since l) p (known l) was is
      (λ id o. ⊎_elim (λ less. inl less) (λ y. let less = y.1 in inr (y.0, omega arith)) o)
      (λ id y. inr ((y.0, y.1 ∙ sym same), λ idle. absurd (busy idle))))
      (λ a _. onward_same a))

  retried_past : (l version : ℕ) (id : CallId) → IsOlder id (seq l) (call l) ⊎ IsOfAttempt id (seq l) (call l) → IsOlder id (seq l) (retried (call l) version)
  retried_past l version id x = ⊎_elim (λ o. ⊎_elim (λ less. inl less) (λ y. let less = y.1 in inr (y.0, omega arith)) o) (λ y. let same = y.1 in inr (y.0, omega arith)) x

  -- a call is tried again by a later table
  pub listings_retried : (l version : ℕ) (table : Placement) (p : Phase) → IsUnlisted p → Listings config (put known l table) posts entries commits seq (put call l (retried (call l) version)) since (put phase l p)
  listings_retried l version table p is = listings_onward (put known l table) seq (put call l (retried (call l) version)) since (put phase l p)
      (put_four (λ a d q t z. IsOnward commits (seq a) (call a) (since a) (phase a) (known a) (seq a) d (since a) q t) call phase known since l (retried (call l) version) p table (since l)
      (onward_past commits (seq l) (call l) (since l) (phase l) (known l) (seq l) (retried (call l) version) (since l) p table is (retried_past l version))
      (λ a _. onward_same a))

  -- or its listing is
  pub listings_again : (l k dir version : ℕ) (table : Placement) → phase l ≡ Tells (Lists k dir)
      → Listings config (put known l table) posts entries commits seq (put call l (retried (call l) version)) since (put phase l (Tells (Lists k dir)))
  listings_again l k dir version table is = listings_onward (put known l table) seq (put call l (retried (call l) version)) since (put phase l (Tells (Lists k dir)))
      (put_four (λ a d q t z. IsOnward commits (seq a) (call a) (since a) (phase a) (known a) (seq a) d (since a) q t) call phase known since l (retried (call l) version) (Tells (Lists k dir)) table (since l)
      (record {
        opened = λ j d h. let x = g.opened l j d (⊎_elim (λ e. let none : Tells (Lists k dir) ≡ Tells (Opens j d) = e in absurd (cc)) (λ e. inr (is ∙ e)) h) in record { path = x.path; lists = x.lists; from = x.from; to = x.to; opens = x.opens };
        noted = λ j d e. (is ∙ e, refl);
        parts = λ p n id names x. inl (retried_past l version id (⊎_elim (λ o. inl o) (λ y. inr y.0) x));
      })
      (λ a _. onward_same a))

  -- a lane's next call is sent
  pub listings_sent : (l s : ℕ) (c : CallRec) (p : Phase) → IsUnlisted p → Listings config known posts entries commits (put seq l (seq l + 1)) (put call l c) (put since l s) (put phase l p)
  listings_sent l s c p is = listings_onward known (put seq l (seq l + 1)) (put call l c) (put since l s) (put phase l p)
      (put_four (λ a t d u q. IsOnward commits (seq a) (call a) (since a) (phase a) (known a) t d u q (known a)) seq call since phase l (seq l + 1) c s p
      (onward_past commits (seq l) (call l) (since l) (phase l) (known l) (seq l + 1) c s p (known l) is (λ id x. ⊎_elim (λ o. ⊎_elim (λ less. inl (omega arith)) (λ y. let same = y.0 in inl (omega arith)) o) (λ y. let same = y.0 in inl (omega arith)) x))
      (λ a _. onward_same a))

  -- a directory is opened for a call
  pub listings_opened : (l k dir : ℕ) → IsUnlisted (phase l) → phase l ≢ Idle → IsOpenedFor commits (call l) (since l) k dir → Listings config known posts entries commits seq call since (put phase l (Tells (Opens k dir)))
  listings_opened l k dir was busy opened = listings_onward known seq call since (put phase l (Tells (Opens k dir)))
      (put_all (λ a q. IsOnward commits (seq a) (call a) (since a) (phase a) (known a) (seq a) (call a) (since a) q (known a)) phase l (Tells (Opens k dir))
      (record {
        opened = λ j d h. opened_as j d h;
        noted = λ j d e. let none : Tells (Opens k dir) ≡ Tells (Lists j d) = e in absurd (cc);
        parts = λ p n id names x. ⊎_elim (λ o. inl o) (λ y. inr (y.0, ⊎_elim (λ idle. absurd (busy idle)) (λ part. absurd (subst IsUnlisted part.1.1 was)) y.1)) x;
      })
      (λ a _. onward_same a))
    where
      opened_as : (j d : ℕ) → HasOpened (Tells (Opens k dir)) j d → IsOpenedFor commits (call l) (since l) j d
      opened_as j d h = ⊎_elim
          (λ e. let point : k ≡ j = cc in let under : dir ≡ d = cc in subst (λ z. IsOpenedFor commits (call l) (since l) z d) point (subst (λ z. IsOpenedFor commits (call l) (since l) k z) under opened))
          (λ e. let none : Tells (Opens k dir) ≡ Tells (Lists j d) = e in absurd (cc))
          h

  -- its client is told
  pub listings_begun : (l k dir : ℕ) → phase l ≡ Tells (Opens k dir) → IsJoined config entries commits
      → Listings config known posts (entries ++ entry.Opened l (seq l) dir k ∷ []) commits seq call since (put phase l (Tells (Lists k dir)))
  listings_begun l k dir is joined =
      let e = entry.Opened l (seq l) dir k in
      let p = Tells (Lists k dir) in
      record {
        opened = put_all (λ a q. (j d : ℕ) → HasOpened q j d → IsOpenedFor commits (call a) (since a) j d) phase l p (λ j d h. g.opened l j d (inl (is ∙ was_opened k dir j d h))) (λ a _. g.opened a);
        noted = put_all (λ a q. (j d : ℕ) → q ≡ Tells (Lists j d) → IsNoted (entries ++ e ∷ []) a (seq a) j d) phase l p
            (λ j d same. (length entries, slice_get_end entries e ∙ ap (λ z. Some z) (noted_as l (seq l) k dir j d same)))
            (λ a _ j d same. let x = g.noted a j d same in (x.0, slice_get_front entries (e ∷ []) x.0 _ x.1));
        parts = λ i a q n id names posted. put_all (λ a r. IsToldPart (seq a) (call a) (phase a) (known a) commits q id n names → IsToldPart (seq a) (call a) r (known a) commits q id n names) phase l p
            (λ x. ⊎_elim (λ o. inl o) (λ y. absurd (⊎_elim (λ idle. not_idle k dir (phase l) is idle) (λ part. not_listing k dir part.0 part.1.0 (phase l) is part.1.1) y.1)) x)
            (λ a _ x. x) a (g.parts i a q n id names posted);
        listed = listings_more config entries e commits joined (λ m t i names same. cc) g.listed;
      }
    where
      was_opened : (k dir j d : ℕ) → HasOpened (Tells (Lists k dir)) j d → Tells (Opens k dir) ≡ Tells (Opens j d)
      was_opened k dir j d h = ⊎_elim
          (λ e. let none : Tells (Lists k dir) ≡ Tells (Opens j d) = e in absurd (cc))
          (λ e. let same : Tells (Lists k dir) ≡ Tells (Lists j d) = e in cc)
          h

      noted_as : (l s k dir j d : ℕ) → Tells (Lists k dir) ≡ Tells (Lists j d) → entry.Opened l s dir k ≡ entry.Opened l s d j
      noted_as l s k dir j d same = cc

      not_idle : (k dir : ℕ) (q : Phase) → q ≡ Tells (Opens k dir) → q ≡ Idle → ⊥
      not_idle k dir q is idle = cc

      not_listing : (k dir j d : ℕ) (q : Phase) → q ≡ Tells (Opens k dir) → q ≡ Tells (Lists j d) → ⊥
      not_listing k dir j d q is lists = cc

  -- and it answers all names
  module _ (l k dir e i : ℕ) (names : List (List ℕ)) (is : phase l ≡ Tells (Lists k dir)) (joined : IsJoined config entries commits) (named : call_of config l (seq l) ≡ Some (plain (call l)))
      (sent : slice_get entries i ≡ Some (entry.Sent l (seq l))) (at_sent : at entries i ≡ since l) (onward : k ≤ e) (to : e ≤ length commits) (holds : HoldsBetween commits dir k e names) where
    abbrev told_all : Entry
    told_all = entry.Answered l (seq l) e (Names names)

    -- what it answers is a listing
    listing_now : IsListing config (entries ++ told_all ∷ []) (length entries) l (seq l) e names (plain (call l))
    listing_now =
        let x = g.opened l k dir (inr is) in
        let y = g.noted l k dir is in
        let below = slice_get_below entries i _ sent in
        let first = at_front entries (told_all ∷ []) i (omega arith) in
        let last = at_end entries (told_all ∷ []) in
        let count = joined.count in
        let all = (joined_more config entries told_all commits refl joined).same in
        record {
          path = x.path;
          lists = x.lists;
          sent = i;
          is_sent = slice_get_front entries (told_all ∷ []) i _ sent;
          opened = y.0;
          dir = dir;
          b = k;
          is_opened = slice_get_front entries (told_all ∷ []) y.0 _ y.1;
          from = let from = x.from in omega arith;
          onward = onward;
          to = omega arith;
          opens = subst (λ cs. OpensAt (tree_at cs k) (call l).cred dir (walk (tree_at cs k) (call l).cred x.path)) all x.opens;
          holds = subst (λ cs. HoldsBetween cs dir k e names) all holds;
        }

    listed_now : AreListings config (entries ++ told_all ∷ [])
    listed_now j lane s p ns c there is_call = ⊎_elim
        (λ y. let below = slice_get_below entries j _ y in listing_more config entries told_all commits j lane s p ns c joined (omega arith) (g.listed j lane s p ns c y is_call))
        (λ y. same_listing (λ m t q zs. call_of config m t ≡ Some c → IsListing config (entries ++ told_all ∷ []) j m t q zs c) l (seq l) e lane s p names ns y.1
        (λ by. subst (λ z. IsListing config (entries ++ told_all ∷ []) z l (seq l) e names c) (sym y.0) (subst (λ z. IsListing config (entries ++ told_all ∷ []) (length entries) l (seq l) e names z) (same_Some (plain (call l)) c (sym named ∙ by)) listing_now))
        is_call)
        (slice_get_snoc entries told_all j _ there)

    pub listings_answered : Listings config known posts (entries ++ told_all ∷ []) commits seq call since (put phase l Idle)
    listings_answered = record {
      opened = put_all (λ a q. (j d : ℕ) → HasOpened q j d → IsOpenedFor commits (call a) (since a) j d) phase l Idle (λ j d h. absurd (unlisted_opens Idle j d tt h)) (λ a _. g.opened a);
      noted = put_all (λ a q. (j d : ℕ) → q ≡ Tells (Lists j d) → IsNoted (entries ++ told_all ∷ []) a (seq a) j d) phase l Idle
          (λ j d none. absurd (subst IsUnlisted none tt))
          (λ a _ j d same. let x = g.noted a j d same in (x.0, slice_get_front entries (told_all ∷ []) x.0 _ x.1));
      parts = λ i a q n id ns posted. put_all (λ a r. IsToldPart (seq a) (call a) (phase a) (known a) commits q id n ns → IsToldPart (seq a) (call a) r (known a) commits q id n ns) phase l Idle
          (λ x. ⊎_elim (λ o. inl o) (λ y. inr (y.0, inl refl)) x)
          (λ a _ x. x) a (g.parts i a q n id ns posted);
      listed = listed_now;
    }

  -- one record more
  pub listings_posted : (to : Actor) (p : ℕ) (m : Message) → FineListings known commits seq call phase to p m → Listings config known (posts ++ post to p m ∷ []) entries commits seq call since phase
  listings_posted to p m fine = record {
    opened = g.opened;
    noted = g.noted;
    parts = λ e l q n id names h. ⊎_elim (λ x. g.parts e l q n id names x) (λ x. fine_part l q n id names x) (posted_more posts to p m e (Client l) q (message.ListPart id n names) h);
    listed = g.listed;
  }
    where
      fine_part : (l q n : ℕ) (id : CallId) (names : List (List ℕ)) → (to ≡ Client l) × (p ≡ q) × (m ≡ message.ListPart id n names) → IsToldPart (seq l) (call l) (phase l) (known l) commits q id n names
      fine_part l q n id names same =
          let x = subst (λ z. FineListings known commits seq call phase to z (message.ListPart id n names)) same.1 (subst (FineListings known commits seq call phase to p) same.2 fine) in
          subst (λ a. IsToldPart (seq a) (call a) (phase a) (known a) commits q id n names) (sym (same_client l x.0 (sym same.0 ∙ x.1))) x.2

  -- one entry more, which is no listing
  pub listings_noted : (e : Entry) → IsJoined config entries commits → IsPlainEntry e → Listings config known posts (entries ++ e ∷ []) commits seq call since phase
  listings_noted e joined plain = record {
    opened = g.opened;
    noted = λ l k dir is. let x = g.noted l k dir is in (x.0, slice_get_front entries (e ∷ []) x.0 _ x.1);
    parts = g.parts;
    listed = listings_more config entries e commits joined plain g.listed;
  }

  -- one commit more
  pub listings_committed : (c : Commit) → Listings config known posts entries (commits ++ c ∷ []) seq call since phase
  listings_committed c = record {
    opened = λ l k dir h. opened_later l k dir (g.opened l k dir h);
    noted = g.noted;
    parts = λ e l p n id names posted. ⊎_elim
        (λ o. inl o)
        (λ y. inr (y.0, ⊎_elim (λ idle. inl idle) (λ z. inr (z.0, (z.1.0, z.1.1, part_more (known l) commits (c ∷ []) z.0 z.1.0 p n names z.1.2))) y.1))
        (g.parts e l p n id names posted);
    listed = g.listed;
  }
    where
      opened_later : (l k dir : ℕ) → IsOpenedFor commits (call l) (since l) k dir → IsOpenedFor (commits ++ c ∷ []) (call l) (since l) k dir
      opened_later l k dir x =
          let to = x.to in
          let more = longer commits c in
          record { path = x.path; lists = x.lists; from = x.from; to = omega arith; opens = subst (λ t. OpensAt t (call l).cred dir (walk t (call l).cred x.path)) (sym (tree_at_front commits (c ∷ []) k x.to)) x.opens }
