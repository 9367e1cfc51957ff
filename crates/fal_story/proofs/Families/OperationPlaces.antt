-- The family of the operation while it is a place: nothing is shut, and no record of an operation on keys has its number.
use Rattle.std.proofs.Common.{◌≡◌, ◌≢◌, inl, inr, ⊎_elim, ℕ, ◌<◌, ◌≤◌, ◌+◌, false, List, [], ◌∷◌, ◌++◌, Option, None, sym, ap, ◌∙◌, subst, arith}
use Rattle.fal_base.specs.declared.call.CallRec.{CallRec}
use Rattle.fal_base.specs.declared.event.Actor.{Actor}
use Rattle.fal_base.specs.declared.reply.Reply.{Reply}
use Rattle.fal_base.specs.declared.row.Update.{Update}
use Rattle.fal_base.specs.declared.rule.Rule.{Rule}
use Rattle.fal_base.specs.Commits.{Commit}
use Rattle.fal_base.specs.Tree.{Tree}
use Rattle.fal_run.specs.Calls.{is_making}
use Rattle.fal_place.specs.Placement.{Placement}
use Rattle.fal_wire.specs.declared.message.Message.{Message}
use Rattle.fal_wire.specs.declared.message.Message.TheVariants as message
use Rattle.fal_coord.specs.Nodes.{numbers_below}
use Rattle.fal_locks.specs.declared.holder.Shut.{Shut}
use Rattle.fal_story.proofs.Lists.Grown.{from_put, put_all, put_same}
use Rattle.fal_story.proofs.View.{Post, Asking, Work, Rests, Blocks, Lands}
use Rattle.fal_story.proofs.Trees.Standing.{tree_now}
use Rattle.fal_story.specs.World.{put}
use Rattle.fal_story.proofs.Families.Operation.{Operation, IsTold}
use Rattle.fal_story.proofs.Phase.{Phase, Runs, Tells, Replies, IsPast}
use Rattle.fal_story.proofs.Families.Stages.{starts_started, starts_walked, starts_on, at}

module _ (nodes : ℕ) (table table' : Placement) (tree : Tree) (operation : ℕ) (work : Work) (shut : ℕ → Option Shut) (last last' : ℕ → ℕ) (later : (n : ℕ) → last n ≤ last' n) where
  told_blocks : (lane : ℕ) (name : List ℕ) (rule : Rule) (missing : List ℕ) (came : List Update) (to : Actor) (m : Message) → IsTold nodes table tree operation (Blocks lane name rule missing came) shut last to m
      → IsTold nodes table' tree operation work shut last' to m
  told_blocks lane name rule missing came to (message.Lock o keys) told = (told.0, told.1, told.2, inl (⊎_elim (λ x. let more = later told.0 in omega arith) (λ x. absurd x.1) told.3))
  told_blocks lane name rule missing came to (message.Locked o n rows) told = (told.0, λ same. absurd (told.1 same))
  told_blocks lane name rule missing came to (message.Commit o updates) told = (told.0, λ same. absurd (told.1 same))
  told_blocks lane name rule missing came to (message.Done o n) told = (told.0, λ same. absurd (told.1 same))
  told_blocks lane name rule missing came to (message.Count o dir) told = (told.0, λ same. absurd (told.1 same))
  told_blocks lane name rule missing came to (message.Counted o n number) told = (told.0, λ same. absurd (told.1 same))
  told_blocks lane name rule missing came to (message.FetchAsk asker number key) told = told
  told_blocks lane name rule missing came to other told = tt

  told_lands : (name : List ℕ) (rule : Rule) (old : Placement) (missing : List ℕ) (to : Actor) (m : Message) → IsTold nodes table tree operation (Lands name rule old missing) shut last to m
      → IsTold nodes table' tree operation work shut last' to m
  told_lands name rule old missing to (message.Lock o keys) told = (told.0, told.1, told.2, inl (⊎_elim (λ x. let more = later told.0 in omega arith) (λ x. absurd x.1) told.3))
  told_lands name rule old missing to (message.Locked o n rows) told = (told.0, λ same. absurd (told.1 same))
  told_lands name rule old missing to (message.Commit o updates) told = (told.0, λ same. absurd (told.1 same))
  told_lands name rule old missing to (message.Done o n) told = (told.0, λ same. absurd (told.1 same))
  told_lands name rule old missing to (message.Count o dir) told = (told.0, λ same. absurd (told.1 same))
  told_lands name rule old missing to (message.Counted o n number) told = (told.0, λ same. absurd (told.1 same))
  told_lands name rule old missing to (message.FetchAsk asker number key) told = told
  told_lands name rule old missing to other told = tt

-- from no operation to a place, which walks nothing
told_place : (nodes : ℕ) (table : Placement) (tree : Tree) (operation : ℕ) (work : Work) (shut : ℕ → Option Shut) (last : ℕ → ℕ) (to : Actor) (m : Message) → IsTold nodes table tree operation Rests shut last to m → IsTold nodes table tree (operation + 1) work shut last to m
told_place nodes table tree operation work shut last to (message.Lock o keys) told = (told.0, told.1, told.2, inl (⊎_elim (λ x. x) (λ x. absurd x.1) told.3))
told_place nodes table tree operation work shut last to (message.Locked o n rows) told = let past = told.0 in (omega arith, λ same. absurd (omega arith))
told_place nodes table tree operation work shut last to (message.Commit o updates) told = let past = told.0 in (omega arith, λ same. absurd (omega arith))
told_place nodes table tree operation work shut last to (message.Done o n) told = let past = told.0 in (omega arith, λ same. absurd (omega arith))
told_place nodes table tree operation work shut last to (message.Count o dir) told = let past = told.0 in (omega arith, λ same. absurd (omega arith))
told_place nodes table tree operation work shut last to (message.Counted o n number) told = let past = told.0 in (omega arith, λ same. absurd (omega arith))
told_place nodes table tree operation work shut last to (message.FetchAsk asker number key) told = λ own. let some = told own in omega arith
told_place nodes table tree operation work shut last to other told = tt

module _ {nodes : ℕ} {table : Placement} {shut : ℕ → Option Shut} {queued : ℕ → Option Message} {last : ℕ → ℕ} {due : ℕ → List Update} {operation : ℕ} {work : Work} {starts : List (ℕ × ℕ)} {own : List Asking} {posts : List Post}
    {commits : List Commit} {seq : ℕ → ℕ} {call : ℕ → CallRec} {phase : ℕ → Phase} (g : Operation nodes table shut queued last due operation work starts own posts commits seq call phase) where
  -- a place is started for a call that waits
  pub operation_placing : (l : ℕ) (name : List ℕ) (rule : Rule) → work ≡ Rests → (IsPast (phase l) → ⊥) → 0 < seq l → is_making (call l).op ≡ false
      → Operation nodes table shut queued last due (operation + 1) (Blocks l name rule (numbers_below nodes) []) (starts ++ (l, seq l) ∷ []) own posts commits seq call (put phase l Runs)
  operation_placing l name rule rests waits some unmaking =
      let h = at g Rests rests in
      let W = Blocks l name rule (numbers_below nodes) [] in
      record {
        stands = λ n below. let x = h.stands n below in let past = x.3 in (x.1, omega arith);
        beyond = g.beyond;
        told = λ e p to m posted. told_place nodes table (tree_now commits) operation W shut last to m (h.told e p to m posted);
        walks = tt;
        heard = tt;
        within = tt;
        dirs = tt;
        counts = tt;
        runs = λ a runs. ⊎_elim (λ y. sym y.0) (λ y. absurd (h.runs a y.1)) (from_put phase l Runs a Runs runs);
        running = λ a is. ap (put phase l Runs) (sym is) ∙ put_same phase l Runs;
        unmaking = λ a runs. ⊎_elim (λ y. ap (λ i. is_making (call i).op) y.0 ∙ unmaking) (λ y. absurd (h.runs a y.1)) (from_put phase l Runs a Runs runs);
        quiet = h.quiet;
        starts = starts_walked (starts ++ (l, seq l) ∷ []) (operation + 1) W seq phase l Runs tt (starts_started starts operation seq phase l waits some h.starts);
      }

  -- a place goes on among the nodes
  pub operation_blocking : (l : ℕ) (name : List ℕ) (rule : Rule) (missing missing' : List ℕ) (came came' : List Update) (work' : Work) (queued' : ℕ → Option Message) (last' : ℕ → ℕ) (due' : ℕ → List Update) → work ≡ Blocks l name rule missing came → work' ≡ Blocks l name rule missing' came'
      → ((n : ℕ) → last n ≤ last' n) → ((n : ℕ) → n < nodes → last' n ≤ operation)
      → Operation nodes table shut queued' last' due' operation work' starts own posts commits seq call phase
  operation_blocking l name rule missing missing' came came' work' queued' last' due' is goes later past =
      let h = at g (Blocks l name rule missing came) is in
      let W = Blocks l name rule missing' came' in
      subst (λ w. Operation nodes table shut queued' last' due' operation w starts own posts commits seq call phase) (sym goes)
      (record {
        stands = λ n below. ((h.stands n below).0, past n below);
        beyond = g.beyond;
        told = λ e p to m posted. told_blocks nodes table table (tree_now commits) operation W shut last last' later l name rule missing came to m (h.told e p to m posted);
        walks = tt;
        heard = tt;
        within = tt;
        dirs = tt;
        counts = tt;
        runs = h.runs;
        running = h.running;
        unmaking = h.unmaking;
        quiet = h.quiet;
        starts = starts_on starts operation (Blocks l name rule missing came) W seq phase (λ a e. absurd (cc)) h.starts;
      })

  -- the name is placed, and the call is answered
  pub operation_name_placed : (l : ℕ) (name : List ℕ) (rule : Rule) (missing left : List ℕ) (came : List Update) (table' old : Placement) (due' : ℕ → List Update) (k : ℕ) (reply : Reply) → work ≡ Blocks l name rule missing came
      → Operation nodes table' shut queued last due' operation (Lands name rule old left) starts own posts commits seq call (put phase l (Tells (Replies k reply)))
  operation_name_placed l name rule missing left came table' old due' k reply is =
      let h = at g (Blocks l name rule missing came) is in
      let W = Lands name rule old left in
      let alone = λ (a : ℕ) (ne : a ≢ l) (runs : phase a ≡ Runs). ne (sym (h.runs a runs)) in
      record {
        stands = λ n below. h.stands n below;
        beyond = g.beyond;
        told = λ e p to m posted. told_blocks nodes table table' (tree_now commits) operation W shut last last (λ n. omega arith) l name rule missing came to m (h.told e p to m posted);
        walks = tt;
        heard = tt;
        within = tt;
        dirs = tt;
        counts = tt;
        runs = λ a runs. ⊎_elim (λ y. absurd (cc)) (λ y. absurd (alone a y.0 y.1)) (from_put phase l (Tells (Replies k reply)) a Runs runs);
        running = λ a none. absurd none;
        unmaking = λ a runs. ⊎_elim (λ y. absurd (cc)) (λ y. absurd (alone a y.0 y.1)) (from_put phase l (Tells (Replies k reply)) a Runs runs);
        quiet = h.quiet;
        starts = record {
          count = h.starts.count;
          apart = h.starts.apart;
          sent = h.starts.sent;
          last = λ i a here. inr (put_all (λ a q. IsPast (phase a) → IsPast q) phase l (Tells (Replies k reply)) (λ _. tt) (λ a _ past. past) a (⊎_elim (λ walks. absurd (cc)) (λ past. past) (h.starts.last i a here)));
        };
      }

  pub operation_landing : (name : List ℕ) (rule : Rule) (old : Placement) (missing missing' : List ℕ) (work' : Work) (due' : ℕ → List Update) → work ≡ Lands name rule old missing → work' ≡ Lands name rule old missing'
      → Operation nodes table shut queued last due' operation work' starts own posts commits seq call phase
  operation_landing name rule old missing missing' work' due' is goes =
      let h = at g (Lands name rule old missing) is in
      let W = Lands name rule old missing' in
      subst (λ w. Operation nodes table shut queued last due' operation w starts own posts commits seq call phase) (sym goes)
      (record {
        stands = λ n below. h.stands n below;
        beyond = g.beyond;
        told = λ e p to m posted. told_lands nodes table table (tree_now commits) operation W shut last last (λ n. omega arith) name rule old missing to m (h.told e p to m posted);
        walks = tt;
        heard = tt;
        within = tt;
        dirs = tt;
        counts = tt;
        runs = h.runs;
        running = λ a none. absurd none;
        unmaking = h.unmaking;
        quiet = h.quiet;
        starts = starts_on starts operation (Lands name rule old missing) W seq phase (λ a e. absurd (cc)) h.starts;
      })

  -- each node has taken its rows
  pub operation_landed : (name : List ℕ) (rule : Rule) (old : Placement) → work ≡ Lands name rule old [] → ((n : ℕ) → n < nodes → (due n ≡ []) × (queued n ≡ None))
      → Operation nodes table shut queued last due operation Rests starts own posts commits seq call phase
  operation_landed name rule old is none =
      let h = at g (Lands name rule old []) is in
      record {
        stands = λ n below. ((none n below).0, (h.stands n below).0, (none n below).1, (h.stands n below).1);
        beyond = g.beyond;
        told = λ e p to m posted. told_lands nodes table table (tree_now commits) operation Rests shut last last (λ n. omega arith) name rule old [] to m (h.told e p to m posted);
        walks = tt;
        heard = tt;
        within = tt;
        dirs = tt;
        counts = tt;
        runs = h.runs;
        running = λ a none. absurd none;
        unmaking = h.unmaking;
        quiet = h.quiet;
        starts = starts_on starts operation (Lands name rule old []) Rests seq phase (λ a e. absurd (cc)) h.starts;
      }
