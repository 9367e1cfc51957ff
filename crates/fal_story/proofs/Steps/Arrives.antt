-- What a record of an operation tells whoever takes it: the premises of the steps.
use Rattle.std.proofs.Common.{◌≢◌, ◌≡◌, inr, ⊎_elim, ℕ, ◌<◌, true, List, [], ◌∷◌, ◌++◌, Option, Some, None, refl, sym, ap, ◌∙◌, subst, arith}
use Rattle.std.proofs.lemmas.Option.{same_Some}
use Rattle.fal_base.specs.declared.call.Config.{Config}
use Rattle.fal_base.specs.declared.event.Actor.{Actor}
use Rattle.fal_base.specs.declared.event.Actor.TheVariants.{Node}
use Rattle.fal_base.specs.declared.key.Key.{Key}
use Rattle.fal_base.specs.declared.row.Update.{Update}
use Rattle.fal_dentry.specs.Walk.{is_among, without_keys}
use Rattle.fal_place.specs.Placement.{Placement, owner}
use Rattle.fal_wire.specs.declared.message.Message.{Message}
use Rattle.fal_wire.specs.declared.message.Message.TheVariants as message
use Rattle.fal_locks.specs.declared.holder.Shut.{Shut}
use Rattle.fal_story.proofs.Families.Operation.{LocksKeys, Stands, ToldCommit, ToldLocked, ToldDone, shut_by, AreCounted, IsCounted, ToldCounted, ToldCount}
use Rattle.fal_story.proofs.Good.{Good}
use Rattle.fal_story.proofs.Lists.Grown.{put_same}
use Rattle.fal_story.proofs.Phase.{IsCrossing}
use Rattle.fal_story.proofs.Steps.Carried.{dropped_good, dropped_none, shut_good}
use Rattle.fal_story.proofs.Steps.Posted.{posted_good}
use Rattle.fal_story.proofs.Steps.Reads.{read_locked}
use Rattle.fal_story.proofs.View.{IsPosted, post, View, Kept, Work, Rests, Walks, Locks, Counts, Ends, now, Blocks, Lands}
use Rattle.fal_story.specs.World.{put}
use Rattle.fal_base.specs.Tree.{row_at}
use Rattle.fal_base.specs.Maps.{value_at}
use Rattle.fal_base.proofs.Entries.{SomeUnder}
use Rattle.fal_duty.specs.Duties.{owned, rows_of}

-- a Lock that is newer than the last is that of the operation, and comes to a node
pub lock_comes : (config : Config) (v : View) (e p o n : ℕ) (keys : List Key) → IsPosted v.posts e (Node n) p (message.Lock o keys) → v.op.last n < o → Good config v → (n < config.nodes) × (o ≡ v.op.operation) × LocksKeys v.op.work keys
lock_comes config v e p o n keys posted newer g =
    let told = g.operation.told e p (Node n) (message.Lock o keys) posted in
    let same : n ≡ told.0 = same_node n told.0 told.1 in
    let new = ⊎_elim {C = (o ≡ v.op.operation) × LocksKeys v.op.work keys} (λ old. let last = ap v.op.last same in absurd (omega arith)) (λ new. new) told.3 in
    (subst (λ m. m < config.nodes) (sym same) told.2, new.0, new.1)
  where
    same_node : (a b : ℕ) → Node a ≡ Node b → a ≡ b
    same_node a b e = cc

same_shut : (o operation : ℕ) (keys locked : List Key) → shut_by o keys ≡ shut_by operation locked → (o ≡ operation) × (keys ≡ locked)
same_shut o operation keys locked same = let one = same_Some _ _ same in (ap (λ (s : Shut). s.op) one, ap (λ (s : Shut). s.keys) one)

-- a Commit of the operation for which a node has keys shut: the operation is decided, and its part of these updates is due
commit_at : (table : Placement) (operation n o : ℕ) (work : Work) (keys : List Key) (updates : List Update) (shut : Option Shut) (queued : Option Message) (last : ℕ) (due : List Update) → shut ≡ shut_by o keys → (o ≡ operation → ToldCommit work updates)
    → Stands table operation work n shut queued last due → (o ≡ operation) × ((missing : List ℕ) × (work ≡ Ends keys updates missing)) × (due ≡ owned table n updates)
commit_at table operation n o Rests keys updates shut queued last due is told stands = let none = stands.1 in absurd (cc)
commit_at table operation n o (Walks lane) keys updates shut queued last due is told stands = let none = stands.1 in absurd (cc)
commit_at table operation n o (Locks lane locked walks missing rows) keys updates shut queued last due is told stands = absurd (⊎_elim
    (λ x. ⊎_elim (λ away. let none = away.0 in cc) (λ item. let none = item.0 in cc) x.1)
    (λ has. told (same_shut o operation keys locked (sym is ∙ has.0)).0)
    stands.1)
commit_at table operation n o (Counts lane locked walks missing rows dir made sum) keys updates shut queued last due is told stands = absurd (told (same_shut o operation keys locked (sym is ∙ stands.1.0)).0)
commit_at table operation n o (Blocks lane name rule left came) keys updates shut queued last due is told stands = let none = stands.0 in absurd (cc)
commit_at table operation n o (Lands name rule old left) keys updates shut queued last due is told stands = let none = stands.0 in absurd (cc)
commit_at table operation n o (Ends locked made missing) keys updates shut queued last due is told stands = ⊎_elim
    (λ x.
    let same = same_shut o operation keys locked (sym is ∙ x.2.0) in
    let as_told = told same.0 in
    (same.0, (missing, λ i. Ends (sym same.1 i) (as_told i) missing), x.0 ∙ ap (owned table n) as_told))
    (λ x. let none = x.1 in absurd (cc))
    stands

pub commit_comes : (config : Config) (v : View) (e p o n : ℕ) (to : Actor) (keys : List Key) (updates : List Update) → IsPosted v.posts e to p (message.Commit o updates) → n < config.nodes → v.op.shut n ≡ shut_by o keys → Good config v
    → (o ≡ v.op.operation) × ((missing : List ℕ) × (v.op.work ≡ Ends keys updates missing)) × (v.op.due n ≡ owned v.map.table n updates)
commit_comes config v e p o n to keys updates posted below is g =
    commit_at v.map.table v.op.operation n o v.op.work keys updates (v.op.shut n) (v.op.queued n) (v.op.last n) (v.op.due n) is (g.operation.told e p to (message.Commit o updates) posted).1 (g.operation.stands n below)

-- a Count of the operation for which a node has keys shut: it is of the directory that is counted, and nothing is due; or the operation is decided, and the answer is nothing to it
abbrev pub MayCount : Work → ℕ → List Update → Type 0
MayCount (Counts lane keys walks missing rows dir updates sum) asked due = (dir ≡ asked) × (due ≡ [])
MayCount (Ends keys updates missing) asked due = Unit {0}
MayCount other asked due = ⊥

count_at : (table : Placement) (operation n o dir : ℕ) (work : Work) (keys : List Key) (shut : Option Shut) (queued : Option Message) (last : ℕ) (due : List Update) → shut ≡ shut_by o keys → (o ≡ operation → ToldCount work dir)
    → Stands table operation work n shut queued last due → (o ≡ operation) × MayCount work dir due
count_at table operation n o dir Rests keys shut queued last due is told stands = let none = stands.1 in absurd (cc)
count_at table operation n o dir (Walks lane) keys shut queued last due is told stands = let none = stands.1 in absurd (cc)
count_at table operation n o dir (Locks lane locked walks missing rows) keys shut queued last due is told stands = absurd (⊎_elim
    (λ x. ⊎_elim (λ away. let none = away.0 in cc) (λ item. let none = item.0 in cc) x.1)
    (λ has. told (same_shut o operation keys locked (sym is ∙ has.0)).0)
    stands.1)
count_at table operation n o dir (Counts lane locked walks missing rows under made sum) keys shut queued last due is told stands = let same = (same_shut o operation keys locked (sym is ∙ stands.1.0)).0 in (same, (told same, stands.0))
count_at table operation n o dir (Blocks lane name rule left came) keys shut queued last due is told stands = let none = stands.0 in absurd (cc)
count_at table operation n o dir (Lands name rule old left) keys shut queued last due is told stands = let none = stands.0 in absurd (cc)
count_at table operation n o dir (Ends locked made missing) keys shut queued last due is told stands = ⊎_elim {C = (o ≡ operation) × MayCount (Ends locked made missing) dir due}
    (λ x. ((same_shut o operation keys locked (sym is ∙ x.2.0)).0, tt))
    (λ x. let none = x.1 in absurd (cc))
    stands

pub count_comes : (config : Config) (v : View) (e p o n dir : ℕ) (to : Actor) (keys : List Key) → IsPosted v.posts e to p (message.Count o dir) → n < config.nodes → v.op.shut n ≡ shut_by o keys → Good config v
    → (o ≡ v.op.operation) × MayCount v.op.work dir (v.op.due n)
count_comes config v e p o n dir to keys posted below is g =
    count_at v.map.table v.op.operation n o dir v.op.work keys (v.op.shut n) (v.op.queued n) (v.op.last n) (v.op.due n) is (g.operation.told e p to (message.Count o dir) posted).1 (g.operation.stands n below)

-- what the coordinator hears
pub locked_comes : (config : Config) (v : View) (e p n l : ℕ) (to : Actor) (keys : List Key) (walks : List Kept) (missing : List ℕ) (rows given : List Update) → v.op.work ≡ Locks l keys walks missing rows
    → IsPosted v.posts e to p (message.Locked v.op.operation n given) → Good config v → (v.op.shut n ≡ shut_by v.op.operation keys) × (given ≡ rows_of v.map.table (now v) n keys)
locked_comes config v e p n l to keys walks missing rows given is posted g =
    subst (λ w. ToldLocked v.map.table (now v) v.op.operation w (v.op.shut n) n given) is ((g.operation.told e p to (message.Locked v.op.operation n given) posted).1 refl)

pub done_comes : (config : Config) (v : View) (e p n : ℕ) (to : Actor) (keys : List Key) (updates : List Update) (missing : List ℕ) → v.op.work ≡ Ends keys updates missing
    → IsPosted v.posts e to p (message.Done v.op.operation n) → Good config v → v.op.shut n ≡ None
done_comes config v e p n to keys updates missing is posted g = subst (λ w. ToldDone w (v.op.shut n)) is ((g.operation.told e p to (message.Done v.op.operation n) posted).1 refl)

pub counted_comes : (config : Config) (v : View) (e p n number l : ℕ) (to : Actor) (keys : List Key) (walks : List Kept) (missing : List ℕ) (rows : List Update) (dir : ℕ) (updates : List Update) (sum : ℕ)
    → v.op.work ≡ Counts l keys walks missing rows dir updates sum → IsPosted v.posts e to p (message.Counted v.op.operation n number) → Good config v → IsCounted v.map.table (now v) n dir number
counted_comes config v e p n number l to keys walks missing rows dir updates sum is posted g =
    subst (λ w. ToldCounted v.map.table (now v) w n number) is ((g.operation.told e p to (message.Counted v.op.operation n number) posted).1 refl)

-- where each node was heard and the sum is zero, no row is under the directory; where it is not, there is one
pub none_counted : (config : Config) (v : View) (l : ℕ) (keys : List Key) (walks : List Kept) (rows : List Update) (dir : ℕ) (updates : List Update) → v.op.work ≡ Counts l keys walks [] rows dir updates 0 → Good config v
    → (key : Key) → key.parent ≡ dir → row_at (now v) key ≡ None
none_counted config v l keys walks rows dir updates is g key under =
    let counts = subst (λ w. AreCounted v.map.table (now v) w) is g.operation.counts in
    ⊎_elim (λ gone. absurd (cc)) (λ none. none refl key under refl) (counts.0 (owner v.map.table key))

pub some_counted : (config : Config) (v : View) (l : ℕ) (keys : List Key) (walks : List Kept) (missing : List ℕ) (rows : List Update) (dir : ℕ) (updates : List Update) (sum : ℕ) → v.op.work ≡ Counts l keys walks missing rows dir updates sum → sum ≢ 0 → Good config v
    → SomeUnder (now v) dir
some_counted config v l keys walks missing rows dir updates sum is some g = (subst (λ w. AreCounted v.map.table (now v) w) is g.operation.counts).1 some

-- ---- a node serves its Lock: it drops its entries of the keys, shuts them, and tells its rows

pub served_lock_good : (config : Config) (v : View) (n l : ℕ) (keys : List Key) (walks : List Kept) (missing : List ℕ) (rows : List Update) (point : ℕ) → v.op.work ≡ Locks l keys walks missing rows → n < config.nodes
    → v.op.queued n ≡ Some (message.Lock v.op.operation keys) → v.fetches n ≡ [] → ((l : ℕ) (key : Key) → IsCrossing n (v.phase l) → is_among key (v.op.crossed l) ≡ true → is_among key keys ≡ true → ⊥) → Good config v
    → Good config (record v {
      replica = put v.replica n (without_keys (v.replica n) keys);
      op = record v.op { shut = put v.op.shut n (shut_by v.op.operation keys); queued = put v.op.queued n None };
      posts = v.posts ++ post (Node 255) point (message.Locked v.op.operation n (rows_of v.map.table (v.rows n) n keys)) ∷ [];
    })
served_lock_good config v n l keys walks missing rows point is below item none off g =
    let first = dropped_good config v n keys (inr below) g in
    let v1 = record v { replica = put v.replica n (without_keys (v.replica n) keys) } in
    let second = shut_good config v1 n l keys walks missing rows is below item none
    (λ key among. ap (λ r. value_at r key) (put_same v.replica n (without_keys (v.replica n) keys)) ∙ dropped_none config v (v.replica n) keys key among) off first in
    let due = (subst (λ w. Stands v.map.table v.op.operation w n (v.op.shut n) (v.op.queued n) (v.op.last n) (v.op.due n)) is (g.operation.stands n below)).0 in
    posted_good config (record v1 { op = record v.op { shut = put v.op.shut n (shut_by v.op.operation keys); queued = put v.op.queued n None } }) (Node 255) point (message.Locked v.op.operation n (rows_of v.map.table (v.rows n) n keys))
    (record {
      asking = tt;
      records = (255, refl);
      operation = (
        omega arith,
        λ _. subst (λ w. ToldLocked v.map.table (now v) v.op.operation w (put v.op.shut n (shut_by v.op.operation keys) n) n (rows_of v.map.table (v.rows n) n keys)) (sym is)
            (put_same v.op.shut n (shut_by v.op.operation keys), read_locked config v n keys due g),
      );
      bars = tt;
      knowing = tt;
      listings = tt;
    })
    second
