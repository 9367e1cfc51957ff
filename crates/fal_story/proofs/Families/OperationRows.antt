-- A row changes under a key that nobody has shut: the operation is where it was.
use Rattle.std.proofs.Common.{◌≡◌, ◌≢◌, inl, inr, ⊎_elim, ℕ, ◌<◌, true, ◌||◌, List, [], ◌∷◌, ◌++◌, Option, Some, IsSome, IsSomeAnd, refl, sym, ap, ◌∙◌, subst}
use Rattle.std.specs.List.{All}
use Rattle.std.proofs.lemmas.List.Elements.{All-weaker}
use Rattle.std.specs.Prelude.{if◌then◌else◌}
use Rattle.fal_base.specs.declared.call.CallRec.{CallRec}
use Rattle.fal_base.specs.declared.call.Cred.{Cred}
use Rattle.fal_base.specs.declared.event.Actor.{Actor}
use Rattle.fal_base.specs.declared.inode.Inode.{Inode}
use Rattle.fal_base.specs.declared.key.Key.{Key}
use Rattle.fal_base.specs.declared.reply.Reply.{Reply}
use Rattle.fal_base.specs.declared.row.Update.{Update}
use Rattle.fal_base.specs.Commits.{Commit}
use Rattle.fal_base.proofs.Maps.{same_key_is}
use Rattle.fal_base.specs.Tree.{Tree, row_at, same_key}
use Rattle.fal_base.proofs.Entries.{SomeUnder}
use Rattle.fal_dentry.specs.TreeWalk.{way}
use Rattle.fal_dentry.specs.Walk.{is_among}
use Rattle.fal_duty.specs.Duties.{rows_of}
use Rattle.fal_place.specs.Placement.{Placement, owner}
use Rattle.fal_wire.specs.declared.message.Message.{Message}
use Rattle.fal_wire.specs.declared.message.Message.TheVariants as message
use Rattle.fal_locks.specs.declared.holder.Shut.{Shut}
use Rattle.fal_story.proofs.Families.Operation.{AreCounted, AreHeard, AreKept, HasDirs, IsCounted, IsKept, IsTold, Operation, Stands, ToldCounted, ToldLocked, row_told, shut_by}
use Rattle.fal_story.proofs.Lists.Grown.{from_put, put_all, tells, or_second}
use Rattle.fal_story.proofs.Phase.{Phase, Runs, Tells, Replies, IsPast}
use Rattle.fal_story.proofs.Trees.Changed.{IsChanged, ready_kept}
use Rattle.fal_story.proofs.Trees.Standing.{tree_now, NoneUnder}
use Rattle.fal_story.proofs.View.{Post, Asking, Kept, Work, Rests, Walks, Locks, Counts, Ends, Blocks, Lands}
use Rattle.fal_story.specs.World.{put}

-- ---- a row that changes under a key that nobody has shut

-- the tree is the same under each key that its owner has shut for the operation
abbrev pub IsUntouched : Placement → Tree → Tree → ℕ → (ℕ → Option Shut) → Type 0
IsUntouched table t u operation shut = (keys : List Key) (key : Key) → is_among key keys ≡ true → shut (owner table key) ≡ shut_by operation keys → row_at u key ≡ row_at t key

among_first : (key : Key) (keys : List Key) → is_among key (key ∷ keys) ≡ true
among_first key keys = ap (λ b. b || is_among key keys) ((same_key_is key key).1 refl)

pub rows_same : (table : Placement) (t u : Tree) (n : ℕ) (keys : List Key) → ((key : Key) → is_among key keys ≡ true → owner table key ≡ n → row_at u key ≡ row_at t key) → rows_of table u n keys ≡ rows_of table t n keys
rows_same table t u n [] same = refl
rows_same table t u n (key ∷ keys) same =
    let rest = rows_same table t u n keys (λ k among. same k (or_second (same_key key k) _ among)) in
    ⊎_elim
    (λ x.
    ap (λ b. if b then record { key = key; row = row_at u key } ∷ rows_of table u n keys else rows_of table u n keys) x.0
    ∙ (λ i. record { key = key; row = same key (among_first key keys) x.1 i } ∷ rest i)
    ∙ ap (λ b. if b then record { key = key; row = row_at t key } ∷ rows_of table t n keys else rows_of table t n keys) (sym x.0))
    (λ x.
    ap (λ b. if b then record { key = key; row = row_at u key } ∷ rows_of table u n keys else rows_of table u n keys) x.0
    ∙ rest
    ∙ ap (λ b. if b then record { key = key; row = row_at t key } ∷ rows_of table t n keys else rows_of table t n keys) (sym x.0))
    (tells (owner table key) n)

-- it is the same under a directory of which the rows are counted
abbrev pub IsUnder : Tree → Tree → Work → Type 0
IsUnder t u (Counts lane keys walks missing rows dir updates sum) = (key : Key) → key.parent ≡ dir → row_at u key ≡ row_at t key
IsUnder t u other = Unit {0}

module _ (table : Placement) (t u : Tree) (operation : ℕ) (shut : ℕ → Option Shut) (same : IsUntouched table t u operation shut) where
  none_under : (n dir : ℕ) → ((key : Key) → key.parent ≡ dir → row_at u key ≡ row_at t key) → NoneUnder table t n dir → NoneUnder table u n dir
  none_under n dir still none key is own = still key is ∙ none key is own

  some_under : (dir : ℕ) → ((key : Key) → key.parent ≡ dir → row_at u key ≡ row_at t key) → SomeUnder t dir → SomeUnder u dir
  some_under dir still some = (some.0, some.1, subst IsSome (sym (still some.0 some.1)) some.2)

  told_rows : (n : ℕ) (keys : List Key) (rows : List Update) → (shut n ≡ shut_by operation keys) × (rows ≡ rows_of table t n keys) → (shut n ≡ shut_by operation keys) × (rows ≡ rows_of table u n keys)
  told_rows n keys rows told = (told.0, told.1 ∙ sym (rows_same table t u n keys (λ key among own. same keys key among (ap shut own ∙ told.0))))

  told_locked : (work : Work) (n : ℕ) (rows : List Update) → ToldLocked table t operation work (shut n) n rows → ToldLocked table u operation work (shut n) n rows
  told_locked Rests n rows told = tt
  told_locked (Walks lane) n rows told = absurd told
  told_locked (Locks lane keys walks missing kept) n rows told = told_rows n keys rows told
  told_locked (Counts lane keys walks missing kept dir updates sum) n rows told = told_rows n keys rows told
  told_locked (Blocks lane name rule missing came) n rows told = absurd told
  told_locked (Lands name rule old missing) n rows told = absurd told
  told_locked (Ends keys updates missing) n rows told = tt

  is_counted : (n dir number : ℕ) → ((key : Key) → key.parent ≡ dir → row_at u key ≡ row_at t key) → IsCounted table t n dir number → IsCounted table u n dir number
  is_counted n dir number still told = (λ none. none_under n dir still (told.0 none), λ some. some_under dir still (told.1 some))

  counted_untouched : (work : Work) → IsUnder t u work → (n number : ℕ) → ToldCounted table t work n number → ToldCounted table u work n number
  counted_untouched Rests under n number told = tt
  counted_untouched (Walks lane) under n number told = told
  counted_untouched (Locks lane keys walks missing rows) under n number told = told
  counted_untouched (Counts lane keys walks missing rows dir updates sum) under n number told = is_counted n dir number under told
  counted_untouched (Blocks lane name rule missing came) under n number told = told
  counted_untouched (Lands name rule old missing) under n number told = told
  counted_untouched (Ends keys updates missing) under n number told = tt

  counts_untouched : (work : Work) → IsUnder t u work → AreCounted table t work → AreCounted table u work
  counts_untouched Rests under counts = tt
  counts_untouched (Walks lane) under counts = tt
  counts_untouched (Locks lane keys walks missing rows) under counts = tt
  counts_untouched (Counts lane keys walks missing rows dir updates sum) under counts =
      (λ n. ⊎_elim (λ gone. inl gone) (λ none. inr (λ zero_sum. none_under n dir under (none zero_sum))) (counts.0 n), λ some. some_under dir under (counts.1 some))
  counts_untouched (Blocks lane name rule missing came) under counts = tt
  counts_untouched (Lands name rule old missing) under counts = tt
  counts_untouched (Ends keys updates missing) under counts = tt

  dirs_untouched : (nodes : ℕ) (queued : ℕ → Option Message) (last : ℕ → ℕ) (due : ℕ → List Update) (work : Work) → ((key : Key) → owner table key < nodes)
      → ((n : ℕ) → n < nodes → Stands table operation work n (shut n) (queued n) (last n) (due n)) → HasDirs t work → HasDirs u work
  dirs_untouched nodes queued last due Rests lives stands dirs = tt
  dirs_untouched nodes queued last due (Walks lane) lives stands dirs = tt
  dirs_untouched nodes queued last due (Locks lane keys walks missing rows) lives stands dirs = tt
  dirs_untouched nodes queued last due (Counts lane keys walks missing rows dir updates sum) lives stands dirs =
      (dirs.0, dirs.1, subst (λ row. IsSomeAnd row (λ (r : Inode). r.ino ≡ dir)) (sym (same keys dirs.0 dirs.1 (stands (owner table dirs.0) (lives dirs.0)).1.0)) dirs.2)
  dirs_untouched nodes queued last due (Blocks lane name rule missing came) lives stands dirs = tt
  dirs_untouched nodes queued last due (Lands name rule old missing) lives stands dirs = tt
  dirs_untouched nodes queued last due (Ends keys updates missing) lives stands dirs = tt

  told_untouched : (nodes : ℕ) (work : Work) → IsUnder t u work → (last : ℕ → ℕ) (to : Actor) (m : Message) → IsTold nodes table t operation work shut last to m → IsTold nodes table u operation work shut last to m
  told_untouched nodes work under last to (message.Lock o keys) told = told
  told_untouched nodes work under last to (message.Locked o n rows) told = (told.0, λ now. told_locked work n rows (told.1 now))
  told_untouched nodes work under last to (message.Commit o updates) told = told
  told_untouched nodes work under last to (message.Done o n) told = told
  told_untouched nodes work under last to (message.Count o dir) told = told
  told_untouched nodes work under last to (message.Counted o n number) told = (told.0, λ now. counted_untouched work under n number (told.1 now))
  told_untouched nodes work under last to (message.FetchAsk asker number key) told = told
  told_untouched nodes work under last to other told = tt

  row_kept : (rows : List Update) (keys : List Key) (key : Key) → is_among key keys ≡ true → shut (owner table key) ≡ shut_by operation keys → row_told rows key ≡ Some (row_at t key) → row_told rows key ≡ Some (row_at u key)
  row_kept rows keys key among has kept = kept ∙ ap (λ row. Some row) (sym (same keys key among has))

  heard_untouched : (nodes : ℕ) (queued : ℕ → Option Message) (last : ℕ → ℕ) (due : ℕ → List Update) (work : Work) → ((key : Key) → owner table key < nodes)
      → ((n : ℕ) → n < nodes → Stands table operation work n (shut n) (queued n) (last n) (due n)) → AreHeard table t work → AreHeard table u work
  heard_untouched nodes queued last due Rests lives stands heard = tt
  heard_untouched nodes queued last due (Walks lane) lives stands heard = tt
  heard_untouched nodes queued last due (Locks lane keys walks missing rows) lives stands heard = λ key among. ⊎_elim
      (λ gone. inl gone)
      (λ kept. ⊎_elim
      (λ away. absurd (kept.0 away.0))
      (λ has. inr (kept.0, row_kept rows keys key among has.0 kept.1))
      (stands (owner table key) (lives key)).1)
      (heard key among)
  heard_untouched nodes queued last due (Counts lane keys walks missing rows dir updates sum) lives stands heard = λ key among. row_kept rows keys key among (stands (owner table key) (lives key)).1.0 (heard key among)
  heard_untouched nodes queued last due (Blocks lane name rule missing came) lives stands heard = tt
  heard_untouched nodes queued last due (Lands name rule old missing) lives stands heard = tt
  heard_untouched nodes queued last due (Ends keys updates missing) lives stands heard = tt

-- the kept walks end as they did
module _ (t u : Tree) (changed : IsChanged t u (λ q. Unit {0})) where
  all_safe : (keys : List Key) → All (λ q. Unit {0}) keys
  all_safe keys k d below = tt

  walks_all : (cred : Cred) (walks : List Kept) → All (IsKept t cred) walks → All (IsKept u cred) walks
  walks_all cred walks all = All-weaker (IsKept t cred) (IsKept u cred) (λ w is. (is.0, ((ready_kept t u (λ q. Unit {0}) cred changed w.names is.0 w.passed w.last (all_safe (way t cred w.names)) is.1.0).0, is.1.1))) walks all

  walks_untouched : (call : ℕ → CallRec) (work : Work) → AreKept t call work → AreKept u call work
  walks_untouched call Rests kept = tt
  walks_untouched call (Walks lane) kept = tt
  walks_untouched call (Locks lane keys walks missing rows) kept = walks_all (call lane).cred walks kept
  walks_untouched call (Counts lane keys walks missing rows dir updates sum) kept = walks_all (call lane).cred walks kept
  walks_untouched call (Blocks lane name rule missing came) kept = tt
  walks_untouched call (Lands name rule old missing) kept = tt
  walks_untouched call (Ends keys updates missing) kept = tt

module _ {nodes : ℕ} {table : Placement} {shut : ℕ → Option Shut} {queued : ℕ → Option Message} {last : ℕ → ℕ} {due : ℕ → List Update} {operation : ℕ} {work : Work} {starts : List (ℕ × ℕ)}
    {own : List Asking} {posts : List Post} {commits : List Commit} {seq : ℕ → ℕ} {call : ℕ → CallRec} {phase : ℕ → Phase} (g : Operation nodes table shut queued last due operation work starts own posts commits seq call phase) where
  -- a planned call makes its commit, under a key that nobody has shut
  pub operation_executed : (c : Commit) (l k : ℕ) (reply : Reply) → phase l ≢ Runs → ((key : Key) → owner table key < nodes) → IsChanged (tree_now commits) (tree_now (commits ++ c ∷ [])) (λ q. Unit {0})
      → IsUntouched table (tree_now commits) (tree_now (commits ++ c ∷ [])) operation shut → IsUnder (tree_now commits) (tree_now (commits ++ c ∷ [])) work
      → Operation nodes table shut queued last due operation work starts own posts (commits ++ c ∷ []) seq call (put phase l (Tells (Replies k reply)))
  operation_executed c l k reply apart lives changed same under = record {
    stands = g.stands;
    beyond = g.beyond;
    told = λ e p to m posted. told_untouched table (tree_now commits) (tree_now (commits ++ c ∷ [])) operation shut same nodes work under last to m (g.told e p to m posted);
    walks = walks_untouched (tree_now commits) (tree_now (commits ++ c ∷ [])) changed call work g.walks;
    heard = heard_untouched table (tree_now commits) (tree_now (commits ++ c ∷ [])) operation shut same nodes queued last due work lives g.stands g.heard;
    within = g.within;
    dirs = dirs_untouched table (tree_now commits) (tree_now (commits ++ c ∷ [])) operation shut same nodes queued last due work lives g.stands g.dirs;
    counts = counts_untouched table (tree_now commits) (tree_now (commits ++ c ∷ [])) operation shut same work under g.counts;
    runs = λ a runs. ⊎_elim (λ y. absurd (cc)) (λ y. g.runs a y.1) (from_put phase l (Tells (Replies k reply)) a Runs runs);
    running = λ a is. put_all (λ a q. phase a ≡ Runs → q ≡ Runs) phase l (Tells (Replies k reply)) (λ runs. absurd (apart runs)) (λ a _ runs. runs) a (g.running a is);
    unmaking = λ a runs. ⊎_elim (λ y. absurd (cc)) (λ y. g.unmaking a y.1) (from_put phase l (Tells (Replies k reply)) a Runs runs);
    quiet = g.quiet;
    starts = record {
      count = g.starts.count;
      apart = g.starts.apart;
      sent = g.starts.sent;
      last = λ i a at. ⊎_elim (λ walks. inl walks) (λ past. inr (put_all (λ a q. IsPast (phase a) → IsPast q) phase l (Tells (Replies k reply)) (λ _. tt) (λ a _ past. past) a past)) (g.starts.last i a at);
    };
  }
