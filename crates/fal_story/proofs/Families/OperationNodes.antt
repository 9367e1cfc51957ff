-- A node hears of the operation, and lays what is due when it is decided.
use Rattle.std.proofs.Common.{◌≡◌, inl, inr, ⊎_elim, ℕ, ◌<◌, ◌≤◌, List, [], Option, Some, None, refl, sym, ap, arith}
use Rattle.fal_base.specs.declared.call.CallRec.{CallRec}
use Rattle.fal_base.specs.declared.event.Actor.{Actor}
use Rattle.fal_base.specs.declared.key.Key.{Key}
use Rattle.fal_base.specs.declared.row.Update.{Update}
use Rattle.fal_base.specs.Commits.{Commit}
use Rattle.fal_base.specs.Tree.{Tree}
use Rattle.fal_place.specs.Placement.{Placement}
use Rattle.fal_wire.specs.declared.message.Message.{Message}
use Rattle.fal_wire.specs.declared.message.Message.TheVariants as message
use Rattle.fal_locks.specs.declared.holder.Shut.{Shut}
use Rattle.fal_story.proofs.Families.Operation.{IsTold, LocksKeys, Operation, operation_placed, Stands, ToldDone, ToldLocked, shut_by}
use Rattle.fal_story.proofs.Lists.Grown.{put_all, put_both}
use Rattle.fal_story.proofs.Phase.{Phase}
use Rattle.fal_story.proofs.Trees.Standing.{tree_now}
use Rattle.fal_story.proofs.View.{Post, Asking, Work, Rests, Walks, Locks, Counts, Ends, Blocks, Lands}
use Rattle.fal_story.specs.World.{put}

-- ---- a node that hears of the operation, and one that is done with it

-- a node to which a newer Lock comes was away
stands_queued : (table : Placement) (operation n : ℕ) (work : Work) (keys : List Key) (shut : Option Shut) (queued : Option Message) (last : ℕ) (due : List Update) → last < operation → LocksKeys work keys
    → Stands table operation work n shut queued last due → Stands table operation work n shut (Some (message.Lock operation keys)) operation due
stands_queued table operation n Rests keys shut queued last due newer locks stands = absurd locks
stands_queued table operation n (Walks lane) keys shut queued last due newer locks stands = absurd locks
stands_queued table operation n (Locks lane locked walks missing rows) keys shut queued last due newer locks stands = (
  stands.0,
  inl (⊎_elim
      (λ x. (x.0, inr (⊎_elim (λ away. (away.0, ap (λ ks. Some (message.Lock operation ks)) (sym locks), refl)) (λ here. let same = here.2 in absurd (omega arith)) x.1)))
      (λ here. let same = here.2 in absurd (omega arith))
      stands.1),
)
stands_queued table operation n (Counts lane locked walks missing rows dir updates sum) keys shut queued last due newer locks stands = let same = stands.1.2 in absurd (omega arith)
stands_queued table operation n (Blocks lane name rule left came) keys shut queued last due newer locks stands = absurd locks
stands_queued table operation n (Lands name rule old left) keys shut queued last due newer locks stands = absurd locks
stands_queued table operation n (Ends locked updates missing) keys shut queued last due newer locks stands = absurd (⊎_elim (λ x. let same = x.2.2 in omega arith) (λ x. let same = x.3 in omega arith) stands)

-- what was told stays so when a node has heard of a later operation
told_later : (nodes : ℕ) (table : Placement) (tree : Tree) (operation : ℕ) (work : Work) (shut : ℕ → Option Shut) (last : ℕ → ℕ) (n o : ℕ) → last n < o → (to : Actor) (m : Message) → IsTold nodes table tree operation work shut last to m
    → IsTold nodes table tree operation work shut (put last n o) to m
told_later nodes table tree operation work shut last n o newer to (message.Lock old keys) told =
    (told.0, told.1, told.2, ⊎_elim (λ x. inl (put_all (λ m z. old ≤ last m → old ≤ z) last n o (λ y. omega arith) (λ m _ y. y) told.0 x)) (λ x. inr x) told.3)
told_later nodes table tree operation work shut last n o newer to (message.Locked old m rows) told = told
told_later nodes table tree operation work shut last n o newer to (message.Commit old updates) told = told
told_later nodes table tree operation work shut last n o newer to (message.Done old m) told = told
told_later nodes table tree operation work shut last n o newer to (message.Count old dir) told = told
told_later nodes table tree operation work shut last n o newer to (message.Counted old m number) told = told
told_later nodes table tree operation work shut last n o newer to (message.FetchAsk asker number key) told = told
told_later nodes table tree operation work shut last n o newer to other told = tt

-- a node that has the keys of a decided operation shut is open once they are laid
stands_open : (table : Placement) (operation n : ℕ) (work : Work) (keys : List Key) (updates : List Update) (missing : List ℕ) (shut : Option Shut) (queued : Option Message) (last : ℕ) (due : List Update) → work ≡ Ends keys updates missing
    → shut ≡ shut_by operation keys → Stands table operation work n shut queued last due → Stands table operation work n None queued last []
stands_open table operation n Rests keys updates missing shut queued last due ends is stands = absurd (cc)
stands_open table operation n (Walks lane) keys updates missing shut queued last due ends is stands = absurd (cc)
stands_open table operation n (Locks lane locked walks gone rows) keys updates missing shut queued last due ends is stands = absurd (cc)
stands_open table operation n (Counts lane locked walks gone rows dir made sum) keys updates missing shut queued last due ends is stands = absurd (cc)
stands_open table operation n (Blocks lane name rule left came) keys updates missing shut queued last due ends is stands = absurd (cc)
stands_open table operation n (Lands name rule old left) keys updates missing shut queued last due ends is stands = absurd (cc)
stands_open table operation n (Ends locked made gone) keys updates missing shut queued last due ends is stands =
    inr (⊎_elim (λ x. (refl, refl, x.2.1, x.2.2)) (λ x. let none = x.1 in absurd (cc)) stands)

done_open : (work : Work) (keys : List Key) (updates : List Update) (missing : List ℕ) (shut : Option Shut) → work ≡ Ends keys updates missing → ToldDone work shut → ToldDone work None
done_open Rests keys updates missing shut ends told = tt
done_open (Walks lane) keys updates missing shut ends told = absurd told
done_open (Locks lane locked walks gone rows) keys updates missing shut ends told = absurd told
done_open (Counts lane locked walks gone rows dir made sum) keys updates missing shut ends told = absurd told
done_open (Blocks lane name rule left came) keys updates missing shut ends told = absurd told
done_open (Lands name rule old left) keys updates missing shut ends told = absurd told
done_open (Ends locked made gone) keys updates missing shut ends told = refl

locked_open : (table : Placement) (tree : Tree) (operation : ℕ) (work : Work) (keys : List Key) (updates : List Update) (missing : List ℕ) (shut : Option Shut) (n : ℕ) (rows : List Update) → work ≡ Ends keys updates missing
    → ToldLocked table tree operation work shut n rows → ToldLocked table tree operation work None n rows
locked_open table tree operation Rests keys updates missing shut n rows ends told = tt
locked_open table tree operation (Walks lane) keys updates missing shut n rows ends told = absurd told
locked_open table tree operation (Locks lane locked walks gone kept) keys updates missing shut n rows ends told = absurd (cc)
locked_open table tree operation (Counts lane locked walks gone kept dir made sum) keys updates missing shut n rows ends told = absurd (cc)
locked_open table tree operation (Blocks lane name rule left came) keys updates missing shut n rows ends told = absurd told
locked_open table tree operation (Lands name rule old left) keys updates missing shut n rows ends told = absurd told
locked_open table tree operation (Ends locked made gone) keys updates missing shut n rows ends told = tt

told_open : (nodes : ℕ) (table : Placement) (tree : Tree) (operation : ℕ) (work : Work) (shut : ℕ → Option Shut) (last : ℕ → ℕ) (n : ℕ) (keys : List Key) (updates : List Update) (missing : List ℕ) → work ≡ Ends keys updates missing → (to : Actor) (m : Message)
    → IsTold nodes table tree operation work shut last to m → IsTold nodes table tree operation work (put shut n None) last to m
told_open nodes table tree operation work shut last n keys updates missing ends to (message.Lock o others) told = told
told_open nodes table tree operation work shut last n keys updates missing ends to (message.Locked o m rows) told =
    (told.0, λ same. put_all (λ m s. ToldLocked table tree operation work (shut m) m rows → ToldLocked table tree operation work s m rows) shut n None (locked_open table tree operation work keys updates missing (shut n) n rows ends) (λ m _ x. x) m (told.1 same))
told_open nodes table tree operation work shut last n keys updates missing ends to (message.Commit o made) told = told
told_open nodes table tree operation work shut last n keys updates missing ends to (message.Done o m) told =
    (told.0, λ same. put_all (λ m s. ToldDone work (shut m) → ToldDone work s) shut n None (done_open work keys updates missing (shut n) ends) (λ m _ x. x) m (told.1 same))
told_open nodes table tree operation work shut last n keys updates missing ends to (message.Count o dir) told = told
told_open nodes table tree operation work shut last n keys updates missing ends to (message.Counted o m number) told = told
told_open nodes table tree operation work shut last n keys updates missing ends to (message.FetchAsk asker number key) told = told
told_open nodes table tree operation work shut last n keys updates missing ends to other told = tt

module _ {nodes : ℕ} {table : Placement} {shut : ℕ → Option Shut} {queued : ℕ → Option Message} {last : ℕ → ℕ} {due : ℕ → List Update} {operation : ℕ} {work : Work} {starts : List (ℕ × ℕ)}
    {own : List Asking} {posts : List Post} {commits : List Commit} {seq : ℕ → ℕ} {call : ℕ → CallRec} {phase : ℕ → Phase} (g : Operation nodes table shut queued last due operation work starts own posts commits seq call phase) where
  -- a Lock comes to a node: it is its next item
  pub operation_queued : (n : ℕ) (keys : List Key) → n < nodes → last n < operation → LocksKeys work keys
      → Operation nodes table shut (put queued n (Some (message.Lock operation keys))) (put last n operation) due operation work starts own posts commits seq call phase
  operation_queued n keys below newer locks =
      operation_placed g
      (put_both (λ m q x. m < nodes → Stands table operation work m (shut m) q x (due m)) queued last n (Some (message.Lock operation keys)) operation
      (λ _. stands_queued table operation n work keys (shut n) (queued n) (last n) (due n) newer locks (g.stands n below)) (λ m _. g.stands m))
      g.beyond
      (λ e p to m posted. told_later nodes table (tree_now commits) operation work shut last n operation newer to m (g.told e p to m posted))

  -- a node lays what is due, and is open again
  pub operation_reopened : (n : ℕ) (keys : List Key) (updates : List Update) (missing : List ℕ) → work ≡ Ends keys updates missing → shut n ≡ shut_by operation keys
      → Operation nodes table (put shut n None) queued last (put due n []) operation work starts own posts commits seq call phase
  operation_reopened n keys updates missing ends is =
      operation_placed g
      (put_both (λ m s us. m < nodes → Stands table operation work m s (queued m) (last m) us) shut due n None []
      (λ below. stands_open table operation n work keys updates missing (shut n) (queued n) (last n) (due n) ends is (g.stands n below)) (λ m _. g.stands m))
      (put_all (λ m s. nodes ≤ m → s ≡ None) shut n None (λ _. refl) (λ m _. g.beyond m))
      (λ e p to m posted. told_open nodes table (tree_now commits) operation work shut last n keys updates missing ends to m (g.told e p to m posted))
