-- What was told of the operation is so at its next stage.
use Rattle.std.proofs.Common.{◌≡◌, inl, ⊎_elim, ℕ, ◌+◌, ◌<◌, List, Option, None, refl, arith}
use Rattle.fal_base.specs.declared.event.Actor.{Actor}
use Rattle.fal_base.specs.declared.key.Key.{Key}
use Rattle.fal_base.specs.declared.row.Update.{Update}
use Rattle.fal_base.specs.Tree.{Tree}
use Rattle.fal_duty.specs.Duties.{rows_of}
use Rattle.fal_place.specs.Placement.{Placement}
use Rattle.fal_wire.specs.declared.message.Message.{Message}
use Rattle.fal_wire.specs.declared.message.Message.TheVariants as message
use Rattle.fal_locks.specs.declared.holder.Shut.{Shut}
use Rattle.fal_story.proofs.Families.Operation.{IsTold, shut_by}
use Rattle.fal_story.proofs.Lists.Grown.{put_all}
use Rattle.fal_story.proofs.View.{Kept, Rests, Walks, Locks, Ends, Counts}
use Rattle.fal_story.specs.World.{put}

-- ---- what was told, at the next stage

module _ (nodes : ℕ) (table : Placement) (tree : Tree) (operation : ℕ) (shut : ℕ → Option Shut) (last : ℕ → ℕ) where
  pub told_started : (lane : ℕ) (to : Actor) (m : Message) → IsTold nodes table tree operation Rests shut last to m → IsTold nodes table tree (operation + 1) (Walks lane) shut last to m
  told_started lane to (message.Lock o keys) told = (told.0, told.1, told.2, ⊎_elim (λ x. inl x) (λ x. absurd x.1) told.3)
  told_started lane to (message.Locked o n rows) told = let past = told.0 in (omega arith, λ same. absurd (omega arith))
  told_started lane to (message.Commit o updates) told = let past = told.0 in (omega arith, λ same. absurd (omega arith))
  told_started lane to (message.Done o n) told = let past = told.0 in (omega arith, λ same. absurd (omega arith))
  told_started lane to (message.Count o dir) told = let past = told.0 in (omega arith, λ same. absurd (omega arith))
  told_started lane to (message.Counted o n number) told = let past = told.0 in (omega arith, λ same. absurd (omega arith))
  told_started lane to (message.FetchAsk asker number key) told = λ own. let some = told own in omega arith
  told_started lane to other told = tt

  pub told_locking : (l : ℕ) (keys : List Key) (walks : List Kept) (missing : List ℕ) (rows : List Update) (to : Actor) (m : Message) → IsTold nodes table tree operation (Walks l) shut last to m
      → IsTold nodes table tree operation (Locks l keys walks missing rows) shut last to m
  told_locking l keys walks missing rows to (message.Lock o others) told = (told.0, told.1, told.2, ⊎_elim (λ x. inl x) (λ x. absurd x.1) told.3)
  told_locking l keys walks missing rows to (message.Locked o n given) told = (told.0, λ same. absurd (told.1 same))
  told_locking l keys walks missing rows to (message.Commit o updates) told = (told.0, λ same. absurd (told.1 same))
  told_locking l keys walks missing rows to (message.Done o n) told = (told.0, λ same. absurd (told.1 same))
  told_locking l keys walks missing rows to (message.Count o dir) told = (told.0, λ same. absurd (told.1 same))
  told_locking l keys walks missing rows to (message.Counted o n number) told = (told.0, λ same. absurd (told.1 same))
  told_locking l keys walks missing rows to (message.FetchAsk asker number key) told = told
  told_locking l keys walks missing rows to other told = tt

  -- a node is heard, and what it told is kept
  pub told_heard : (l : ℕ) (keys : List Key) (walks : List Kept) (missing missing' : List ℕ) (rows rows' : List Update) (to : Actor) (m : Message) → IsTold nodes table tree operation (Locks l keys walks missing rows) shut last to m
      → IsTold nodes table tree operation (Locks l keys walks missing' rows') shut last to m
  told_heard l keys walks missing missing' rows rows' to (message.Lock o others) told = told
  told_heard l keys walks missing missing' rows rows' to (message.Locked o n given) told = told
  told_heard l keys walks missing missing' rows rows' to (message.Commit o updates) told = told
  told_heard l keys walks missing missing' rows rows' to (message.Done o n) told = told
  told_heard l keys walks missing missing' rows rows' to (message.Count o dir) told = told
  told_heard l keys walks missing missing' rows rows' to (message.Counted o n number) told = told
  told_heard l keys walks missing missing' rows rows' to (message.FetchAsk asker number key) told = told
  told_heard l keys walks missing missing' rows rows' to other told = tt

  pub told_done : (keys : List Key) (updates : List Update) (missing missing' : List ℕ) (to : Actor) (m : Message) → IsTold nodes table tree operation (Ends keys updates missing) shut last to m
      → IsTold nodes table tree operation (Ends keys updates missing') shut last to m
  told_done keys updates missing missing' to (message.Lock o others) told = told
  told_done keys updates missing missing' to (message.Locked o n given) told = told
  told_done keys updates missing missing' to (message.Commit o made) told = told
  told_done keys updates missing missing' to (message.Done o n) told = told
  told_done keys updates missing missing' to (message.Count o dir) told = told
  told_done keys updates missing missing' to (message.Counted o n number) told = told
  told_done keys updates missing missing' to (message.FetchAsk asker number key) told = told
  told_done keys updates missing missing' to other told = tt

  -- the operation is given up, or ended at each node
  pub told_given_up : (l : ℕ) (to : Actor) (m : Message) → IsTold nodes table tree operation (Walks l) shut last to m → IsTold nodes table tree operation Rests shut last to m
  told_given_up l to (message.Lock o keys) told = told
  told_given_up l to (message.Locked o n rows) told = (told.0, λ same. tt)
  told_given_up l to (message.Commit o updates) told = (told.0, λ same. tt)
  told_given_up l to (message.Done o n) told = (told.0, λ same. tt)
  told_given_up l to (message.Count o dir) told = (told.0, λ same. tt)
  told_given_up l to (message.Counted o n number) told = (told.0, λ same. tt)
  told_given_up l to (message.FetchAsk asker number key) told = told
  told_given_up l to other told = tt

  pub told_ended : (keys : List Key) (updates : List Update) (missing : List ℕ) → ((n : ℕ) → n < nodes → last n ≡ operation) → (to : Actor) (m : Message) → IsTold nodes table tree operation (Ends keys updates missing) shut last to m
      → IsTold nodes table tree operation Rests shut last to m
  told_ended keys updates missing all to (message.Lock o others) told = (told.0, told.1, told.2, inl (⊎_elim (λ x. x) (λ x. let same = all told.0 told.2 in let o_is = x.0 in omega arith) told.3))
  told_ended keys updates missing all to (message.Locked o n rows) told = (told.0, λ same. tt)
  told_ended keys updates missing all to (message.Commit o made) told = (told.0, λ same. tt)
  told_ended keys updates missing all to (message.Done o n) told = (told.0, λ same. tt)
  told_ended keys updates missing all to (message.Count o dir) told = (told.0, λ same. tt)
  told_ended keys updates missing all to (message.Counted o n number) told = (told.0, λ same. tt)
  told_ended keys updates missing all to (message.FetchAsk asker number key) told = told
  told_ended keys updates missing all to other told = tt

  -- a node shuts the keys
  pub told_shut : (l : ℕ) (keys : List Key) (walks : List Kept) (missing : List ℕ) (rows : List Update) (n : ℕ) → shut n ≡ None → (to : Actor) (m : Message) → IsTold nodes table tree operation (Locks l keys walks missing rows) shut last to m
      → IsTold nodes table tree operation (Locks l keys walks missing rows) (put shut n (shut_by operation keys)) last to m
  told_shut l keys walks missing rows n none to (message.Lock o others) told = told
  told_shut l keys walks missing rows n none to (message.Locked o m given) told =
      (told.0, λ same. put_all (λ m s. (shut m ≡ shut_by operation keys) × (given ≡ rows_of table tree m keys) → (s ≡ shut_by operation keys) × (given ≡ rows_of table tree m keys)) shut n (shut_by operation keys) (λ x. (refl, x.1)) (λ m _ x. x) m (told.1 same))
  told_shut l keys walks missing rows n none to (message.Commit o made) told = told
  told_shut l keys walks missing rows n none to (message.Done o m) told = (told.0, λ same. absurd (told.1 same))
  told_shut l keys walks missing rows n none to (message.Count o dir) told = told
  told_shut l keys walks missing rows n none to (message.Counted o m number) told = told
  told_shut l keys walks missing rows n none to (message.FetchAsk asker number key) told = told
  told_shut l keys walks missing rows n none to other told = tt

  -- the rows under a directory are to be counted; a node is heard
  pub told_counting : (l : ℕ) (keys : List Key) (walks : List Kept) (missing missing' : List ℕ) (rows : List Update) (dir : ℕ) (updates : List Update) (to : Actor) (m : Message) → IsTold nodes table tree operation (Locks l keys walks missing rows) shut last to m
      → IsTold nodes table tree operation (Counts l keys walks missing' rows dir updates 0) shut last to m
  told_counting l keys walks missing missing' rows dir updates to (message.Lock o others) told = told
  told_counting l keys walks missing missing' rows dir updates to (message.Locked o n given) told = told
  told_counting l keys walks missing missing' rows dir updates to (message.Commit o made) told = told
  told_counting l keys walks missing missing' rows dir updates to (message.Done o n) told = told
  told_counting l keys walks missing missing' rows dir updates to (message.Count o asked) told = (told.0, λ same. absurd (told.1 same))
  told_counting l keys walks missing missing' rows dir updates to (message.Counted o n number) told = (told.0, λ same. absurd (told.1 same))
  told_counting l keys walks missing missing' rows dir updates to (message.FetchAsk asker number key) told = told
  told_counting l keys walks missing missing' rows dir updates to other told = tt

  pub told_counted : (l : ℕ) (keys : List Key) (walks : List Kept) (missing missing' : List ℕ) (rows : List Update) (dir : ℕ) (updates : List Update) (sum sum' : ℕ) (to : Actor) (m : Message)
      → IsTold nodes table tree operation (Counts l keys walks missing rows dir updates sum) shut last to m → IsTold nodes table tree operation (Counts l keys walks missing' rows dir updates sum') shut last to m
  told_counted l keys walks missing missing' rows dir updates sum sum' to (message.Lock o others) told = told
  told_counted l keys walks missing missing' rows dir updates sum sum' to (message.Locked o n given) told = told
  told_counted l keys walks missing missing' rows dir updates sum sum' to (message.Commit o made) told = told
  told_counted l keys walks missing missing' rows dir updates sum sum' to (message.Done o n) told = told
  told_counted l keys walks missing missing' rows dir updates sum sum' to (message.Count o asked) told = told
  told_counted l keys walks missing missing' rows dir updates sum sum' to (message.Counted o n number) told = told
  told_counted l keys walks missing missing' rows dir updates sum sum' to (message.FetchAsk asker number key) told = told
  told_counted l keys walks missing missing' rows dir updates sum sum' to other told = tt
