-- Calls move, records are sent and fetches change, none of which is the operation's own.
use Rattle.std.proofs.Common.{◌≡◌, ◌≢◌, ◌⊎◌, inl, inr, ⊎_elim, ℕ, ◌+◌, ◌≤◌, false, List, [], ◌∷◌, ◌++◌, Option, Some, refl, sym, ◌∙◌, subst, arith}
use Rattle.std.specs.List.{All}
use Rattle.std.specs.Prelude.{slice_get}
use Rattle.fal_base.specs.declared.call.CallRec.{CallRec}
use Rattle.fal_base.specs.declared.event.Actor.{Actor}
use Rattle.fal_base.specs.declared.row.Update.{Update}
use Rattle.fal_base.specs.Commits.{Commit}
use Rattle.fal_base.specs.Tree.{Tree}
use Rattle.fal_run.specs.Calls.{is_making}
use Rattle.fal_place.specs.Placement.{Placement}
use Rattle.fal_wire.specs.declared.message.Message.{Message}
use Rattle.fal_locks.specs.declared.holder.Shut.{Shut}
use Rattle.fal_story.proofs.Families.Operation.{AreKept, IsKept, IsOf, IsQuiet, IsTold, Operation, operation_placed}
use Rattle.fal_story.proofs.Lists.Grown.{from_put, put_all, put_both, put_other}
use Rattle.fal_story.proofs.Phase.{Phase, Runs, IsPast, IsSteady}
use Rattle.fal_story.proofs.Trees.Standing.{tree_now}
use Rattle.fal_story.proofs.View.{posted_more, Post, Asking, post, Work, Rests, Walks, Locks, Counts, Ends, Blocks, Lands}
use Rattle.fal_story.specs.World.{put}

-- another lane's call
kept_call : (tree : Tree) (call call' : ℕ → CallRec) (work : Work) → ((a : ℕ) → IsOf a work → call' a ≡ call a) → AreKept tree call work → AreKept tree call' work
kept_call tree call call' Rests same kept = tt
kept_call tree call call' (Walks lane) same kept = tt
kept_call tree call call' (Locks lane keys walks missing rows) same kept = subst (λ (c : CallRec). All (IsKept tree c.cred) walks) (sym (same lane refl)) kept
kept_call tree call call' (Counts lane keys walks missing rows dir updates sum) same kept = subst (λ (c : CallRec). All (IsKept tree c.cred) walks) (sym (same lane refl)) kept
kept_call tree call call' (Blocks lane name rule missing came) same kept = tt
kept_call tree call call' (Lands name rule old missing) same kept = tt
kept_call tree call call' (Ends keys updates missing) same kept = tt

module _ {nodes : ℕ} {table : Placement} {shut : ℕ → Option Shut} {queued : ℕ → Option Message} {last : ℕ → ℕ} {due : ℕ → List Update} {operation : ℕ} {work : Work} {starts : List (ℕ × ℕ)}
    {own : List Asking} {posts : List Post} {commits : List Commit} {seq : ℕ → ℕ} {call : ℕ → CallRec} {phase : ℕ → Phase} (g : Operation nodes table shut queued last due operation work starts own posts commits seq call phase) where
  -- calls move that are not the operation's
  pub operation_moved : (phase' : ℕ → Phase) → ((l : ℕ) → IsSteady (phase l) (phase' l)) → Operation nodes table shut queued last due operation work starts own posts commits seq call phase'
  operation_moved phase' steady = record {
    stands = g.stands;
    beyond = g.beyond;
    told = g.told;
    walks = g.walks;
    heard = g.heard;
    within = g.within;
    dirs = g.dirs;
    counts = g.counts;
    runs = λ l runs. g.runs l ((steady l).ran runs);
    running = λ l is. (steady l).runs (g.running l is);
    unmaking = λ l runs. g.unmaking l ((steady l).ran runs);
    quiet = g.quiet;
    starts = record {
      count = g.starts.count;
      apart = g.starts.apart;
      sent = g.starts.sent;
      last = λ i l at. ⊎_elim (λ walks. inl walks) (λ past. inr ((steady l).past past)) (g.starts.last i l at);
    };
  }

  -- one record more, of which what it tells is so
  pub operation_posted : (to : Actor) (p : ℕ) (m : Message) → IsTold nodes table (tree_now commits) operation work shut last to m
      → Operation nodes table shut queued last due operation work starts own (posts ++ post to p m ∷ []) commits seq call phase
  operation_posted to p m fine =
      operation_placed g g.stands g.beyond
      (λ e q other n h. ⊎_elim
      (λ x. g.told e q other n x)
      (λ x. subst (IsTold nodes table (tree_now commits) operation work shut last other) x.2 (subst (λ z. IsTold nodes table (tree_now commits) operation work shut last z m) x.0 fine))
      (posted_more posts to p m e other q n h))

  -- the coordinator has other fetches pending
  pub operation_fetched : (own' : List Asking) → IsQuiet work own' → Operation nodes table shut queued last due operation work starts own' posts commits seq call phase
  operation_fetched own' quiet = record {
    stands = g.stands;
    beyond = g.beyond;
    told = g.told;
    walks = g.walks;
    heard = g.heard;
    within = g.within;
    dirs = g.dirs;
    counts = g.counts;
    runs = g.runs;
    running = g.running;
    unmaking = g.unmaking;
    quiet = quiet;
    starts = g.starts;
  }

  -- a lane has another call, or its call another place; it was not the operation's and is not
  pub operation_called : (l : ℕ) (c : CallRec) (p : Phase) → phase l ≢ Runs → p ≢ Runs → (IsPast (phase l) → IsPast p)
      → Operation nodes table shut queued last due operation work starts own posts commits seq (put call l c) (put phase l p)
  operation_called l c p was is past =
      let other = λ (a : ℕ) (of : IsOf a work) (same : a ≡ l). was (subst (λ z. phase z ≡ Runs) same (g.running a of)) in
      record {
        stands = g.stands;
        beyond = g.beyond;
        told = g.told;
        walks = kept_call (tree_now commits) call (put call l c) work (λ a of. put_other call l c a (other a of)) g.walks;
        heard = g.heard;
        within = g.within;
        dirs = g.dirs;
        counts = g.counts;
        runs = λ a runs. ⊎_elim (λ y. absurd (is y.1)) (λ y. g.runs a y.1) (from_put phase l p a Runs runs);
        running = λ a of. put_other phase l p a (other a of) ∙ g.running a of;
        unmaking = put_both (λ a d q. q ≡ Runs → is_making d.op ≡ false) call phase l c p (λ e. absurd (is e)) (λ a _. g.unmaking a);
        quiet = g.quiet;
        starts = record {
          count = g.starts.count;
          apart = g.starts.apart;
          sent = g.starts.sent;
          last = λ i a at. ⊎_elim (λ walks. inl walks) (λ x. inr (put_all (λ a q. IsPast (phase a) → IsPast q) phase l p past (λ a _ x. x) a x)) (g.starts.last i a at);
        };
      }

  -- a lane's next call is sent
  pub operation_sent : (l : ℕ) (c : CallRec) (p : Phase) → phase l ≢ Runs → p ≢ Runs
      → Operation nodes table shut queued last due operation work starts own posts commits (put seq l (seq l + 1)) (put call l c) (put phase l p)
  operation_sent l c p was is =
      let other = λ (a : ℕ) (of : IsOf a work) (same : a ≡ l). was (subst (λ z. phase z ≡ Runs) same (g.running a of)) in
      record {
        stands = g.stands;
        beyond = g.beyond;
        told = g.told;
        walks = kept_call (tree_now commits) call (put call l c) work (λ a of. put_other call l c a (other a of)) g.walks;
        heard = g.heard;
        within = g.within;
        dirs = g.dirs;
        counts = g.counts;
        runs = λ a runs. ⊎_elim (λ y. absurd (is y.1)) (λ y. g.runs a y.1) (from_put phase l p a Runs runs);
        running = λ a of. put_other phase l p a (other a of) ∙ g.running a of;
        unmaking = put_both (λ a d q. q ≡ Runs → is_making d.op ≡ false) call phase l c p (λ e. absurd (is e)) (λ a _. g.unmaking a);
        quiet = g.quiet;
        starts = record {
          count = g.starts.count;
          apart = g.starts.apart;
          sent = λ i a s at. let x = g.starts.sent i a s at in (x.0, put_all (λ a z. s ≤ seq a → s ≤ z) seq l (seq l + 1) (λ y. omega arith) (λ a _ y. y) a x.1);
          last = λ i. put_both (λ a s q. slice_get starts i ≡ Some (a, s) → (work ≡ Walks a) ⊎ IsPast q) seq phase l (seq l + 1) p
              (λ at. let x = g.starts.sent i l (seq l + 1) at in let past = x.1 in absurd (omega arith))
              (λ a _. g.starts.last i a);
        };
      }
