-- Where each lane's call is, and what its answer has to be.
use Rattle.std.proofs.Common.{◌≡◌, ◌≢◌, ◌⊎◌, inl, inr, ⊎_elim, ℕ, ◌+◌, ◌<◌, ◌≤◌, List, [], ◌∷◌, ◌++◌, length, Option, Some, IsSomeAnd, true, false, refl, sym, ap, ◌∙◌, subst, arith}
use Rattle.std.specs.Prelude.{slice_get, ◌==◌}
use Rattle.fal_base.specs.declared.call.CallRec.{CallRec}
use Rattle.fal_base.specs.declared.call.Cred.{Cred}
use Rattle.fal_base.specs.declared.event.Actor.TheVariants.{Node}
use Rattle.fal_base.specs.declared.inode.Inode.{Inode}
use Rattle.fal_base.specs.declared.key.Key.{Key}
use Rattle.fal_base.specs.declared.reply.Reply.{Reply}
use Rattle.fal_base.specs.Answer.{answer}
use Rattle.fal_base.specs.Change.{makes}
use Rattle.fal_base.specs.Commits.{Commit, tree_at}
use Rattle.fal_base.specs.Transcript.{is_names, is_place}
use Rattle.fal_story.proofs.Lists.Grown.{slice_get_snoc, slice_get_front, tells, from_put, put_all, put_both, put_four}
use Rattle.fal_story.proofs.Phase.{Phase, Idle, Asked, Tells, Replies, Goes, IsFor, IsUnanswered, goes_put}
use Rattle.fal_story.proofs.Trees.Commits.{longer, tree_at_front}
use Rattle.fal_story.proofs.Trees.Standing.{tree_now}
use Rattle.fal_base.specs.Linear.{IsBy}
use Rattle.fal_base.specs.Tree.{Tree}
use Rattle.fal_base.specs.Walk.{Ready, walk}
use Rattle.fal_client.specs.Paths.{addressee}
use Rattle.fal_exec.specs.RowCall.{row_names}
use Rattle.fal_batch.specs.Fate.{goes_by_parent, last_of}
use Rattle.fal_place.specs.Placement.{Placement, owner, route}
use Rattle.fal_wire.specs.Ops.{op_field}
use Rattle.fal_story.specs.World.{put}

-- what the answer of a lane's call about the tree has to be
pub record IsRight (commits : List Commit) (seq : ℕ) (call : CallRec) (since l k : ℕ) (reply : Reply) : Type 0 where
  pub tree : is_place call.op ≡ false
  -- what is listed comes in parts
  pub plain : is_names reply ≡ false
  pub from : since ≤ k
  pub to : k ≤ length commits
  pub served : reply ≡ answer (tree_at commits k) call.cred call.op
  pub made : makes (tree_at commits k) call.cred call.op ≡ true → (k < length commits) × ((c : Commit) × (slice_get commits k ≡ Some c) × IsBy l seq c)
  pub only : (i : ℕ) (c : Commit) → slice_get commits i ≡ Some c → IsBy l seq c → (i ≡ k) × (makes (tree_at commits k) call.cred call.op ≡ true)

abbrev pub Right : List Commit → (ℕ → ℕ) → (ℕ → CallRec) → (ℕ → ℕ) → (ℕ → Phase) → Type 0
Right commits seq call since phase = (l k : ℕ) (reply : Reply) → phase l ≡ Tells (Replies k reply) → is_place (call l).op ≡ false → IsRight commits (seq l) (call l) (since l) l k reply

abbrev pub Uncommitted : List Commit → (ℕ → ℕ) → (ℕ → Phase) → Type 0
Uncommitted commits seq phase = (l i : ℕ) (c : Commit) → IsUnanswered (phase l) → slice_get commits i ≡ Some c → IsBy l (seq l) c → ⊥

-- a lane without a call has nothing under way, and a call that is under way is one that a record can hold
pub record UnderWay (seq : ℕ → ℕ) (call : ℕ → CallRec) (phase : ℕ → Phase) : Type 0 where
  pub started : (l : ℕ) → seq l ≡ 0 → phase l ≡ Idle
  pub fits : (l : ℕ) → phase l ≢ Idle → op_field.Fits (call l).op

-- calls with these names belong to the node: by the last name alone, or by parent, where the walk ends at a key that the node owns
pub record OwnsNames (table : Placement) (tree : Tree) (n : ℕ) (cred : Cred) (names : List (List ℕ)) : Type 0 where
  pub by_name : goes_by_parent table (last_of names) ≡ false → route table names ≡ n
  pub by_parent : goes_by_parent table (last_of names) ≡ true → (dir : Option Inode) (passed : List ℕ) (last : Key) → walk tree cred names ≡ Ready dir passed last → owner table last ≡ n

abbrev pub OwnsLast : Placement → Tree → ℕ → CallRec → Type 0
OwnsLast table tree n call = IsSomeAnd (row_names call.op) (λ names. OwnsNames table tree n call.cred names)

-- how often a call was handed on: to a node no more often than commits and placements were made, and as often only where the call
-- belongs to the node now; once more to the coordinator; and before the first placement to no node: each has the calls that were sent to it
pub record IsRouted (nodes : ℕ) (table : Placement) (commits : List Commit) (n : ℕ) (call : CallRec) : Type 0 where
  pub there : n < nodes → (call.id.hop ≡ 0) ⊎ ((call.id.hop ≤ length commits + table.version) × (call.id.hop ≡ length commits + table.version → OwnsLast table (tree_now commits) n call))
  pub beyond : nodes ≤ n → call.id.hop ≤ 1 + (length commits + table.version)
  pub first : n < nodes → table.version ≡ 0 → (call.id.hop ≡ 0) × (addressee table call.op ≡ Node n)

abbrev pub Routed : ℕ → Placement → List Commit → (ℕ → CallRec) → (ℕ → Phase) → Type 0
Routed nodes table commits call phase = (l n : ℕ) → IsFor n (phase l) → IsRouted nodes table commits n (call l)

pub record Lanes (nodes : ℕ) (table : Placement) (commits : List Commit) (seq : ℕ → ℕ) (call : ℕ → CallRec) (since : ℕ → ℕ) (phase : ℕ → Phase) : Type 0 where
  pub right : Right commits seq call since phase
  pub uncommitted : Uncommitted commits seq phase
  pub under_way : UnderWay seq call phase
  pub routed : Routed nodes table commits call phase

-- an answer stays right when another call makes a commit
pub right_more : (commits : List Commit) (c : Commit) (seq : ℕ) (call : CallRec) (since l k : ℕ) (reply : Reply) → (IsBy l seq c → ⊥) → IsRight commits seq call since l k reply
    → IsRight (commits ++ c ∷ []) seq call since l k reply
right_more commits c seq call since l k reply other x =
    let same = tree_at_front commits (c ∷ []) k x.to in
    record {
      tree = x.tree;
      plain = x.plain;
      from = x.from;
      to = let a = x.to in let b = longer commits c in omega arith;
      served = x.served ∙ ap (λ t. answer t call.cred call.op) (sym same);
      made = λ is. let y = x.made (ap (λ t. makes t call.cred call.op) (sym same) ∙ is) in let a = y.0 in let b = longer commits c in (omega arith, (y.1.0, slice_get_front commits (c ∷ []) k _ y.1.1, y.1.2));
      only = λ i d there by. ⊎_elim
          (λ y. let z = x.only i d y by in (z.0, ap (λ t. makes t call.cred call.op) same ∙ z.1))
          (λ y. absurd (other (subst (IsBy l seq) (sym y.1) by)))
          (slice_get_snoc commits c i d there);
    }

-- a call that may begin: it is under way to its node, or it is not under way at all
pub record Begins (nodes : ℕ) (table : Placement) (commits : List Commit) (call : CallRec) (q : Phase) : Type 0 where
  pub no_done : (k : ℕ) (reply : Reply) → q ≢ Tells (Replies k reply)
  pub routed : (n : ℕ) → IsFor n q → IsRouted nodes table commits n call
  pub fits : q ≢ Idle → op_field.Fits call.op

-- ---- hops

routed_more : (nodes : ℕ) (table : Placement) (commits : List Commit) (c : Commit) (n : ℕ) (call : CallRec) → IsRouted nodes table commits n call → IsRouted nodes table (commits ++ c ∷ []) n call
routed_more nodes table commits c n call is =
    let more = longer commits c in
    record {
      there = λ below. ⊎_elim (λ x. inl x) (λ x. let most = x.0 in inr (omega arith, λ same. absurd (omega arith))) (is.there below);
      beyond = λ past. let most = is.beyond past in omega arith;
      first = is.first;
    }

-- a call that is sent was not handed on; before the first placement it goes where its path says
pub routed_first : (nodes : ℕ) (table : Placement) (commits : List Commit) (n : ℕ) (call : CallRec) → call.id.hop ≡ 0 → (n < nodes → table.version ≡ 0 → addressee table call.op ≡ Node n) → IsRouted nodes table commits n call
routed_first nodes table commits n call zero_hop to = record { there = λ _. inl zero_hop; beyond = λ _. omega arith; first = λ below none. (zero_hop, to below none) }

routed_placed : (nodes : ℕ) (table table' : Placement) (commits : List Commit) (n : ℕ) (call : CallRec) → table'.version ≡ table.version + 1 → IsRouted nodes table commits n call → IsRouted nodes table' commits n call
routed_placed nodes table table' commits n call next is = record {
  there = λ below. ⊎_elim (λ x. inl x) (λ x. let most = x.0 in inr (omega arith, λ same. absurd (omega arith))) (is.there below);
  beyond = λ past. let most = is.beyond past in omega arith;
  first = λ below none. absurd (omega arith);
}

-- a node that does not own the call's last key hands it on to the one that does; at first it does so only by a rule that was set
pub routed_passed : (nodes : ℕ) (table : Placement) (commits : List Commit) (n m : ℕ) (call next : CallRec) → n < nodes → m < nodes → next.id.hop ≡ call.id.hop + 1 → (OwnsLast table (tree_now commits) n call → ⊥)
    → (call.id.hop ≡ 0 → 1 ≤ table.version) → OwnsLast table (tree_now commits) m next → IsRouted nodes table commits n call → IsRouted nodes table commits m next
routed_passed nodes table commits n m call next below under raised other first owns is = record {
  there = λ _. inr (
    ⊎_elim
        (λ x. let some = first x in omega arith)
        (λ x. let most = x.0 in ⊎_elim {C = next.id.hop ≤ length commits + table.version} (λ (same : ((call.id.hop == length commits + table.version) ≡ true) × (call.id.hop ≡ length commits + table.version)). absurd (other (x.1 same.1))) (λ (apart : ((call.id.hop == length commits + table.version) ≡ false) × (call.id.hop ≢ length commits + table.version)). let ne = apart.1 in grind arith) (tells call.id.hop (length commits + table.version)))
        (is.there below),
    λ _. owns,
  );
  beyond = λ past. absurd (omega arith);
  first = λ _ none. let some = first (is.first below none).0 in absurd (omega arith);
}

-- to the coordinator it goes from a node
pub routed_up : (nodes : ℕ) (table : Placement) (commits : List Commit) (n : ℕ) (call next : CallRec) → n < nodes → nodes ≤ 255 → next.id.hop ≡ call.id.hop + 1 → IsRouted nodes table commits n call → IsRouted nodes table commits 255 next
routed_up nodes table commits n call next below few raised is = record {
  there = λ under. absurd (omega arith);
  beyond = λ _. ⊎_elim (λ x. omega arith) (λ x. let most = x.0 in omega arith) (is.there below);
  first = λ under. absurd (omega arith);
}

module _ {nodes : ℕ} {table : Placement} {commits : List Commit} {seq : ℕ → ℕ} {call : ℕ → CallRec} {since : ℕ → ℕ} {phase : ℕ → Phase} (g : Lanes nodes table commits seq call since phase) where
  same_done : (P : ℕ → Reply → Type 0) (k i : ℕ) (reply r : Reply) → Tells (Replies k reply) ≡ Tells (Replies i r) → P k reply → P i r
  same_done P k i reply r e h =
      let point : k ≡ i = cc in
      let told : reply ≡ r = cc in
      subst (P i) told (subst (λ z. P z reply) point h)

  -- a call that is under way has a number
  pub positive : (l : ℕ) → phase l ≢ Idle → 0 < seq l
  positive l busy = ⊎_elim (λ none. absurd (busy (g.under_way.started l none.1))) (λ some. let apart = some.1 in omega arith) (tells (seq l) 0)

  -- a call makes its commit, and is done
  pub lanes_committed : (c : Commit) (l k : ℕ) (reply : Reply) → c.lane ≡ l → phase l ≢ Idle → IsRight (commits ++ c ∷ []) (seq l) (call l) (since l) l k reply
      → Lanes nodes table (commits ++ c ∷ []) seq call since (put phase l (Tells (Replies k reply)))
  lanes_committed c l k reply by_lane busy right = record {
    right = put_all (λ a p. (i : ℕ) (r : Reply) → p ≡ Tells (Replies i r) → is_place (call a).op ≡ false → IsRight (commits ++ c ∷ []) (seq a) (call a) (since a) a i r) phase l (Tells (Replies k reply))
        (λ i r same _. same_done (IsRight (commits ++ c ∷ []) (seq l) (call l) (since l) l) k i reply r same right)
        (λ a apart i r same tree. right_more commits c (seq a) (call a) (since a) a i r (λ by. apart (sym by.0 ∙ by_lane)) (g.right a i r same tree));
    uncommitted = put_all (λ a p. (i : ℕ) (d : Commit) → IsUnanswered p → slice_get (commits ++ c ∷ []) i ≡ Some d → IsBy a (seq a) d → ⊥) phase l (Tells (Replies k reply))
        (λ i d none. absurd none)
        (λ a apart i d waits there by. ⊎_elim (λ y. g.uncommitted a i d waits y by) (λ y. apart (sym (sym by_lane ∙ ap (λ (z : Commit). z.lane) y.1 ∙ by.0))) (slice_get_snoc commits c i d there));
    under_way = record {
      started = put_all (λ a p. seq a ≡ 0 → p ≡ Idle) phase l (Tells (Replies k reply)) (λ none. absurd (busy (g.under_way.started l none))) (λ a _. g.under_way.started a);
      fits = put_all (λ a p. p ≢ Idle → op_field.Fits (call a).op) phase l (Tells (Replies k reply)) (λ _. g.under_way.fits l busy) (λ a _. g.under_way.fits a);
    };
    routed = put_all (λ a p. (n : ℕ) → IsFor n p → IsRouted nodes table (commits ++ c ∷ []) n (call a)) phase l (Tells (Replies k reply)) (λ n none. absurd none) (λ a _ n is. routed_more nodes table commits c n (call a) (g.routed a n is));
  }

  -- calls move, those that are answered by what is right, and each at its node
  pub lanes_moved : (phase' : ℕ → Phase) → ((l : ℕ) → Goes (phase l) (phase' l)) → ((l k : ℕ) (reply : Reply) → phase' l ≡ Tells (Replies k reply) → is_place (call l).op ≡ false → (phase l ≡ Tells (Replies k reply)) ⊎ IsRight commits (seq l) (call l) (since l) l k reply)
      → ((l n : ℕ) → IsFor n (phase' l) → IsFor n (phase l)) → Lanes nodes table commits seq call since phase'
  lanes_moved phase' goes right for = record {
    right = λ l k reply e tree. ⊎_elim (λ same. g.right l k reply same tree) (λ is. is) (right l k reply e tree);
    uncommitted = λ l i c live. g.uncommitted l i c ((goes l).live live);
    under_way = record {
      started = λ l e. (goes l).still (g.under_way.started l e);
      fits = λ l busy. g.under_way.fits l (λ e. busy ((goes l).still e));
    };
    routed = λ l n is. g.routed l n (for l n is);
  }

  -- a call that was not executed moves, and stays at its node, and is answered by what is right
  pub lanes_put : (l : ℕ) (p : Phase) → IsUnanswered (phase l) → ((n : ℕ) → IsFor n p → IsFor n (phase l)) → ((k : ℕ) (reply : Reply) → p ≡ Tells (Replies k reply) → is_place (call l).op ≡ false → IsRight commits (seq l) (call l) (since l) l k reply)
      → Lanes nodes table commits seq call since (put phase l p)
  lanes_put l p live for right = lanes_moved (put phase l p) (goes_put phase l p live)
      (λ a k reply e tree. ⊎_elim
      (λ y. inr (subst (λ i. IsRight commits (seq i) (call i) (since i) i k reply) (sym y.0) (right k reply y.1 (subst (λ i. is_place (call i).op ≡ false) y.0 tree))))
      (λ y. inl y.1)
      (from_put phase l p a _ e))
      (put_all (λ a q. (m : ℕ) → IsFor m q → IsFor m (phase a)) phase l p for (λ a _ m is. is))

  -- a lane's next call begins
  pub lanes_sent : (l : ℕ) (c : CallRec) (p : Phase) → Begins nodes table commits c p → ((i : ℕ) (d : Commit) → slice_get commits i ≡ Some d → d.seq ≤ seq d.lane)
      → Lanes nodes table commits (put seq l (seq l + 1)) (put call l c) (put since l (length commits)) (put phase l p)
  lanes_sent l c p begins older = record {
    right = λ m k r. put_four (λ i s x y p. p ≡ Tells (Replies k r) → is_place x.op ≡ false → IsRight commits s x y i k r) seq call since phase l (seq l + 1) c (length commits) p
        (λ w. absurd (begins.no_done k r w)) (λ i _ w. g.right i k r w) m;
    uncommitted = λ m i d. put_four (λ n s x y p. IsUnanswered p → slice_get commits i ≡ Some d → IsBy n s d → ⊥) seq call since phase l (seq l + 1) c (length commits) p
        (λ _ h by. let x = older i d h in let y = ap seq by.0 in let z = by.1 in absurd (omega arith))
        (λ n _ h. g.uncommitted n i d h)
        m;
    under_way = record {
      started = put_both (λ i s p. s ≡ 0 → p ≡ Idle) seq phase l (seq l + 1) p (λ z. absurd (omega arith)) (λ i _. g.under_way.started i);
      fits = put_both (λ i x p. p ≢ Idle → op_field.Fits x.op) call phase l c p begins.fits (λ i _. g.under_way.fits i);
    };
    routed = put_both (λ i x p. (n : ℕ) → IsFor n p → IsRouted nodes table commits n x) call phase l c p begins.routed (λ i _. g.routed i);
  }

  -- a call is handed on, or tried again
  pub lanes_handed : (l m : ℕ) (c : CallRec) → IsUnanswered (phase l) → c.op ≡ (call l).op → IsRouted nodes table commits m c → Lanes nodes table commits seq (put call l c) since (put phase l (Asked m))
  lanes_handed l m c live same routed =
      let busy : phase l ≢ Idle = λ e. subst IsUnanswered e live in
      record {
        right = λ a k r. put_both (λ i x p. p ≡ Tells (Replies k r) → is_place x.op ≡ false → IsRight commits (seq i) x (since i) i k r) call phase l c (Asked m) (λ w. absurd (cc)) (λ i _ w. g.right i k r w) a;
        uncommitted = put_all (λ a p. (i : ℕ) (d : Commit) → IsUnanswered p → slice_get commits i ≡ Some d → IsBy a (seq a) d → ⊥) phase l (Asked m) (λ i d _. g.uncommitted l i d live) (λ a _. g.uncommitted a);
        under_way = record {
          started = put_all (λ a p. seq a ≡ 0 → p ≡ Idle) phase l (Asked m) (λ none. absurd (busy (g.under_way.started l none))) (λ a _. g.under_way.started a);
          fits = put_both (λ i x p. p ≢ Idle → op_field.Fits x.op) call phase l c (Asked m) (λ _. subst op_field.Fits (sym same) (g.under_way.fits l busy)) (λ i _. g.under_way.fits i);
        };
        routed = put_both (λ i x p. (n : ℕ) → IsFor n p → IsRouted nodes table commits n x) call phase l c (Asked m) (λ n at. subst (λ z. IsRouted nodes table commits z c) at routed) (λ i _. g.routed i);
      }

  -- a listing is tried again: the call is the same, but for its attempt and version
  pub lanes_again : (l : ℕ) (c : CallRec) (p : Phase) → phase l ≢ Idle → c.op ≡ (call l).op → ((n : ℕ) → IsFor n p → ⊥) → (IsUnanswered p → ⊥) → ((k : ℕ) (reply : Reply) → p ≢ Tells (Replies k reply))
      → Lanes nodes table commits seq (put call l c) since (put phase l p)
  lanes_again l c p busy same for live done = record {
    right = λ a k r. put_both (λ i x p. p ≡ Tells (Replies k r) → is_place x.op ≡ false → IsRight commits (seq i) x (since i) i k r) call phase l c p (λ w. absurd (done k r w)) (λ i _ w. g.right i k r w) a;
    uncommitted = put_all (λ a p. (i : ℕ) (d : Commit) → IsUnanswered p → slice_get commits i ≡ Some d → IsBy a (seq a) d → ⊥) phase l p (λ i d is. absurd (live is)) (λ a _. g.uncommitted a);
    under_way = record {
      started = put_all (λ a p. seq a ≡ 0 → p ≡ Idle) phase l p (λ none. absurd (busy (g.under_way.started l none))) (λ a _. g.under_way.started a);
      fits = put_both (λ i x p. p ≢ Idle → op_field.Fits x.op) call phase l c p (λ _. subst op_field.Fits (sym same) (g.under_way.fits l busy)) (λ i _. g.under_way.fits i);
    };
    routed = put_both (λ i x p. (n : ℕ) → IsFor n p → IsRouted nodes table commits n x) call phase l c p (λ n at. absurd (for n at)) (λ i _. g.routed i);
  }

  -- a lane's call is answered
  pub lanes_idle : (l : ℕ) → Lanes nodes table commits seq call since (put phase l Idle)
  lanes_idle l = record {
    right = λ m i a e. ⊎_elim (λ h. absurd (cc)) (λ h. g.right m i a h.1) (from_put phase l _ m _ e);
    uncommitted = put_all (λ m p. (i : ℕ) (c : Commit) → IsUnanswered p → slice_get commits i ≡ Some c → IsBy m (seq m) c → ⊥) phase l Idle (λ i c x. absurd x) (λ m _. g.uncommitted m);
    under_way = record {
      started = put_all (λ m p. seq m ≡ 0 → p ≡ Idle) phase l Idle (λ z. refl) (λ m _. g.under_way.started m);
      fits = put_all (λ m p. p ≢ Idle → op_field.Fits (call m).op) phase l Idle (λ z. absurd (z refl)) (λ m _. g.under_way.fits m);
    };
    routed = put_all (λ a p. (n : ℕ) → IsFor n p → IsRouted nodes table commits n (call a)) phase l Idle (λ n none. absurd none) (λ a _. g.routed a);
  }

  -- the table is the next one
  pub lanes_placed : (table' : Placement) → table'.version ≡ table.version + 1 → Lanes nodes table' commits seq call since phase
  lanes_placed table' next = record { right = g.right; uncommitted = g.uncommitted; under_way = g.under_way; routed = λ l n is. routed_placed nodes table table' commits n (call l) next (g.routed l n is) }
