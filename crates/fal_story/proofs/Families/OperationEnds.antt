-- The operation is decided, or ends without a commit: what was told stays so.
use Rattle.std.proofs.Common.{◌≡◌, ◌≢◌, inl, inr, ⊎_elim, ℕ, true, false, List, [], ◌∷◌, ◌++◌, Option, refl, sym, ap, ◌∙◌, subst}
use Rattle.std.specs.List.{list_any}
use Rattle.std.specs.Prelude.{◌==◌}
use Rattle.fal_base.specs.declared.call.CallRec.{CallRec}
use Rattle.fal_base.specs.declared.event.Actor.{Actor}
use Rattle.fal_base.specs.declared.key.Key.{Key}
use Rattle.fal_base.specs.declared.reply.Reply.{Reply}
use Rattle.fal_base.specs.declared.row.Update.{Update}
use Rattle.fal_base.specs.Commits.{Commit}
use Rattle.fal_base.specs.Tree.{Tree}
use Rattle.fal_base.specs.Updates.{keys_of}
use Rattle.fal_coord.specs.Nodes.{numbers_below}
use Rattle.fal_dentry.specs.Walk.{is_among}
use Rattle.fal_duty.specs.Duties.{owned}
use Rattle.fal_place.specs.Placement.{Placement}
use Rattle.fal_wire.specs.declared.message.Message.{Message}
use Rattle.fal_wire.specs.declared.message.Message.TheVariants as message
use Rattle.fal_locks.specs.declared.holder.Shut.{Shut}
use Rattle.fal_story.proofs.Families.Operation.{HasShut, IsOf, IsQuiet, IsTold, LocksKeys, Operation, Stands, ToldCommit, ToldDone, among_below}
use Rattle.fal_story.proofs.Lists.Grown.{from_put, put_all}
use Rattle.fal_story.proofs.Phase.{Phase, Runs, Tells, Replies, IsPast}
use Rattle.fal_story.proofs.Trees.Standing.{tree_now}
use Rattle.fal_story.proofs.View.{Post, Asking, Work, Rests, Walks, Locks, Counts, Ends, Blocks, Lands}
use Rattle.fal_story.specs.World.{put}

-- ---- the decision

-- the operation of this lane has locked these keys, and every node was heard
abbrev pub IsReady : Work → ℕ → List Key → Type 0
IsReady Rests l keys = ⊥
IsReady (Walks lane) l keys = ⊥
IsReady (Locks lane locked walks missing rows) l keys = (lane ≡ l) × (locked ≡ keys) × (missing ≡ [])
IsReady (Counts lane locked walks missing rows dir updates sum) l keys = (lane ≡ l) × (locked ≡ keys) × (missing ≡ [])
IsReady (Blocks lane name rule left came) l keys = ⊥
IsReady (Lands name rule old left) l keys = ⊥
IsReady (Ends locked updates missing) l keys = ⊥

pub ready_of : (work : Work) (l : ℕ) (keys : List Key) → IsReady work l keys → IsOf l work
ready_of Rests l keys is = is
ready_of (Walks lane) l keys is = absurd is
ready_of (Locks lane locked walks missing rows) l keys is = is.0
ready_of (Counts lane locked walks missing rows dir updates sum) l keys is = is.0
ready_of (Blocks lane name rule left came) l keys is = absurd is
ready_of (Lands name rule old left) l keys is = absurd is
ready_of (Ends locked updates missing) l keys is = absurd is

pub ready_quiet : (work : Work) (l : ℕ) (keys : List Key) (own : List Asking) → IsReady work l keys → IsQuiet work own → own ≡ []
ready_quiet Rests l keys own is quiet = quiet
ready_quiet (Walks lane) l keys own is quiet = absurd is
ready_quiet (Locks lane locked walks missing rows) l keys own is quiet = quiet
ready_quiet (Counts lane locked walks missing rows dir updates sum) l keys own is quiet = quiet
ready_quiet (Blocks lane name rule left came) l keys own is quiet = absurd is
ready_quiet (Lands name rule old left) l keys own is quiet = absurd is
ready_quiet (Ends locked updates missing) l keys own is quiet = quiet

same_lane : (work : Work) (a l : ℕ) → IsOf a work → IsOf l work → a ≡ l
same_lane Rests a l p q = absurd p
same_lane (Walks lane) a l p q = absurd p
same_lane (Locks lane keys walks missing rows) a l p q = sym p ∙ q
same_lane (Counts lane keys walks missing rows dir updates sum) a l p q = sym p ∙ q
same_lane (Blocks lane name rule left came) a l p q = sym p ∙ q
same_lane (Lands name rule old left) a l p q = absurd p
same_lane (Ends keys updates missing) a l p q = absurd p

not_walking : (work : Work) (l a : ℕ) (keys : List Key) → IsReady work l keys → work ≡ Walks a → ⊥
not_walking work l a keys is walks = subst (λ w. IsReady w l keys) walks is

-- then each node has them shut, and nothing due
pub ready_shut : (table : Placement) (operation n l : ℕ) (work : Work) (keys : List Key) (shut : Option Shut) (queued : Option Message) (last : ℕ) (due : List Update) → IsReady work l keys
    → Stands table operation work n shut queued last due → (due ≡ []) × HasShut operation keys shut queued last
ready_shut table operation n l Rests keys shut queued last due is stands = absurd is
ready_shut table operation n l (Walks lane) keys shut queued last due is stands = absurd is
ready_shut table operation n l (Locks lane locked walks missing rows) keys shut queued last due is stands = (
  stands.0,
  subst (λ ks. HasShut operation ks shut queued last) is.1
      (⊎_elim (λ x. let none : false ≡ true = ap (list_any (λ m. m == n)) (sym is.2) ∙ x.0 in absurd (cc)) (λ x. x) stands.1),
)
ready_shut table operation n l (Counts lane locked walks missing rows dir updates sum) keys shut queued last due is stands = (stands.0, subst (λ ks. HasShut operation ks shut queued last) is.1 stands.1)
ready_shut table operation n l (Blocks lane name rule left came) keys shut queued last due is stands = absurd is
ready_shut table operation n l (Lands name rule old left) keys shut queued last due is stands = absurd is
ready_shut table operation n l (Ends locked updates missing) keys shut queued last due is stands = absurd is

-- what was told stays so
decided_keys : (work : Work) (l : ℕ) (keys other : List Key) (updates : List Update) (missing : List ℕ) → IsReady work l keys → LocksKeys work other → LocksKeys (Ends keys updates missing) other
decided_keys Rests l keys other updates missing is locks = absurd is
decided_keys (Walks lane) l keys other updates missing is locks = absurd is
decided_keys (Locks lane locked walks gone rows) l keys other updates missing is locks = sym is.1 ∙ locks
decided_keys (Counts lane locked walks gone rows dir made sum) l keys other updates missing is locks = sym is.1 ∙ locks
decided_keys (Blocks lane name rule left came) l keys other updates missing is locks = absurd is
decided_keys (Lands name rule old left) l keys other updates missing is locks = absurd is
decided_keys (Ends locked made gone) l keys other updates missing is locks = absurd is

no_commit : (work : Work) (l : ℕ) (keys : List Key) (updates : List Update) → IsReady work l keys → ToldCommit work updates → ⊥
no_commit Rests l keys updates is told = is
no_commit (Walks lane) l keys updates is told = is
no_commit (Locks lane locked walks missing rows) l keys updates is told = told
no_commit (Counts lane locked walks missing rows dir made sum) l keys updates is told = told
no_commit (Blocks lane name rule left came) l keys updates is told = is
no_commit (Lands name rule old left) l keys updates is told = is
no_commit (Ends locked made missing) l keys updates is told = is

no_done : (work : Work) (l : ℕ) (keys : List Key) (shut : Option Shut) → IsReady work l keys → ToldDone work shut → ⊥
no_done Rests l keys shut is told = is
no_done (Walks lane) l keys shut is told = is
no_done (Locks lane locked walks missing rows) l keys shut is told = told
no_done (Counts lane locked walks missing rows dir made sum) l keys shut is told = told
no_done (Blocks lane name rule left came) l keys shut is told = is
no_done (Lands name rule old left) l keys shut is told = is
no_done (Ends locked made missing) l keys shut is told = is

told_decided : (nodes : ℕ) (table : Placement) (tree after : Tree) (operation : ℕ) (work : Work) (shut : ℕ → Option Shut) (last : ℕ → ℕ) (to : Actor) (l : ℕ) (keys : List Key) (updates : List Update) (missing : List ℕ) → IsReady work l keys
    → (m : Message) → IsTold nodes table tree operation work shut last to m → IsTold nodes table after operation (Ends keys updates missing) shut last to m
told_decided nodes table tree after operation work shut last to l keys updates missing is (message.Lock o others) told =
    (told.0, told.1, told.2, ⊎_elim (λ x. inl x) (λ x. inr (x.0, decided_keys work l keys others updates missing is x.1)) told.3)
told_decided nodes table tree after operation work shut last to l keys updates missing is (message.Locked o n rows) told = (told.0, λ same. tt)
told_decided nodes table tree after operation work shut last to l keys updates missing is (message.Commit o made) told = (told.0, λ same. absurd (no_commit work l keys made is (told.1 same)))
told_decided nodes table tree after operation work shut last to l keys updates missing is (message.Done o n) told = (told.0, λ same. absurd (no_done work l keys (shut n) is (told.1 same)))
told_decided nodes table tree after operation work shut last to l keys updates missing is (message.Count o dir) told = (told.0, λ same. tt)
told_decided nodes table tree after operation work shut last to l keys updates missing is (message.Counted o n number) told = (told.0, λ same. tt)
told_decided nodes table tree after operation work shut last to l keys updates missing is (message.FetchAsk asker number key) told = told
told_decided nodes table tree after operation work shut last to l keys updates missing is other told = tt

module _ {nodes : ℕ} {table : Placement} {shut : ℕ → Option Shut} {queued : ℕ → Option Message} {last : ℕ → ℕ} {due : ℕ → List Update} {operation : ℕ} {work : Work} {starts : List (ℕ × ℕ)}
    {own : List Asking} {posts : List Post} {commits : List Commit} {seq : ℕ → ℕ} {call : ℕ → CallRec} {phase : ℕ → Phase} (g : Operation nodes table shut queued last due operation work starts own posts commits seq call phase) where
  -- its call is answered, and the keys are to be opened again
  operation_answered : (after : List Commit) (due' : ℕ → List Update) (l : ℕ) (keys : List Key) (updates : List Update) (k : ℕ) (reply : Reply) → IsReady work l keys → ((n : ℕ) → due n ≡ [] → due' n ≡ owned table n updates)
      → ((key : Key) → is_among key (keys_of updates) ≡ true → is_among key keys ≡ true)
      → Operation nodes table shut queued last due' operation (Ends keys updates (numbers_below nodes)) starts own posts after seq call (put phase l (Tells (Replies k reply)))
  operation_answered after due' l keys updates k reply is owes within =
      let alone = λ (a : ℕ) (ne : a ≢ l) (runs : phase a ≡ Runs). ne (same_lane work a l (g.runs a runs) (ready_of work l keys is)) in
      record {
        stands = λ n below. let x = ready_shut table operation n l work keys (shut n) (queued n) (last n) (due n) is (g.stands n below) in inl (owes n x.0, among_below nodes n below, x.1);
        beyond = g.beyond;
        told = λ e p to m posted. told_decided nodes table (tree_now commits) (tree_now after) operation work shut last to l keys updates (numbers_below nodes) is m (g.told e p to m posted);
        walks = tt;
        heard = tt;
        within = within;
        dirs = tt;
        counts = tt;
        runs = λ a runs. ⊎_elim (λ y. absurd (cc)) (λ y. absurd (alone a y.0 y.1)) (from_put phase l (Tells (Replies k reply)) a Runs runs);
        running = λ a none. absurd none;
        unmaking = λ a runs. ⊎_elim (λ y. absurd (cc)) (λ y. absurd (alone a y.0 y.1)) (from_put phase l (Tells (Replies k reply)) a Runs runs);
        quiet = ready_quiet work l keys own is g.quiet;
        starts = record {
          count = g.starts.count;
          apart = g.starts.apart;
          sent = g.starts.sent;
          last = λ i a at. inr (put_all (λ a q. IsPast (phase a) → IsPast q) phase l (Tells (Replies k reply)) (λ _. tt) (λ a _ past. past) a
              (⊎_elim (λ walks. absurd (not_walking work l a keys is walks)) (λ past. past) (g.starts.last i a at)));
        };
      }

  pub operation_decided : (l : ℕ) (keys : List Key) (updates : List Update) (c : Commit) (k : ℕ) (reply : Reply) → IsReady work l keys → ((key : Key) → is_among key (keys_of updates) ≡ true → is_among key keys ≡ true)
      → Operation nodes table shut queued last (λ n. owned table n updates) operation (Ends keys updates (numbers_below nodes)) starts own posts (commits ++ c ∷ []) seq call (put phase l (Tells (Replies k reply)))
  operation_decided l keys updates c k reply is within = operation_answered (commits ++ c ∷ []) (λ n. owned table n updates) l keys updates k reply is (λ n none. refl) within

  -- the operation changes nothing
  pub operation_ended : (l : ℕ) (keys : List Key) (k : ℕ) (reply : Reply) → IsReady work l keys
      → Operation nodes table shut queued last due operation (Ends keys [] (numbers_below nodes)) starts own posts commits seq call (put phase l (Tells (Replies k reply)))
  operation_ended l keys k reply is = operation_answered commits due l keys [] k reply is (λ n none. none) (λ key none. absurd (cc))
