-- The operation goes from stage to stage.
use Rattle.std.proofs.Common.{◌⊎◌, ◌≢◌, ◌≡◌, Bool, false, inl, inr, ⊎_elim, ℕ, ◌+◌, ◌<◌, ◌≤◌, true, false, ◌||◌, List, [], ◌∷◌, ◌++◌, Option, Some, None, refl, sym, ap, ◌∙◌, subst, arith, length-append, IsSomeAnd}
use Rattle.std.specs.List.{All, list_any}
use Rattle.std.proofs.lemmas.Bool.{eq-eqb}
use Rattle.std.specs.Prelude.{slice_get, ◌==◌, if◌then◌else◌}
use Rattle.fal_base.specs.declared.call.CallRec.{CallRec}
use Rattle.fal_base.specs.declared.inode.Inode.{Inode}
use Rattle.fal_base.specs.declared.key.Key.{Key}
use Rattle.fal_base.specs.declared.reply.Reply.{Reply}
use Rattle.fal_base.specs.declared.row.Update.{Update}
use Rattle.fal_base.specs.Commits.{Commit}
use Rattle.fal_base.proofs.Maps.{same_key_is}
use Rattle.fal_base.specs.Tree.{Tree, row_at, same_key}
use Rattle.fal_coord.specs.Nodes.{numbers_below, without_node}
use Rattle.fal_dentry.specs.Walk.{is_among}
use Rattle.fal_duty.specs.Duties.{rows_of}
use Rattle.fal_run.specs.Calls.{is_making}
use Rattle.fal_place.specs.Placement.{Placement, owner}
use Rattle.fal_wire.specs.declared.message.Message.{Message}
use Rattle.fal_wire.specs.declared.message.Message.TheVariants as message
use Rattle.fal_locks.specs.declared.holder.Shut.{Shut}
use Rattle.fal_story.proofs.Families.Operation.{Operation, operation_placed, Starts, Stands, IsTold, IsMissing, IsKept, row_told, among_below, shut_by, IsCounted}
use Rattle.fal_story.proofs.Families.Told.{told_counted, told_counting, told_done, told_ended, told_given_up, told_heard, told_locking, told_shut, told_started}
use Rattle.fal_story.proofs.Lists.Grown.{from_put, put_all, put_both, put_same, tells, unequal, slice_get_snoc}
use Rattle.fal_story.proofs.Phase.{Phase, Runs, Tells, Replies, IsPast}
use Rattle.fal_story.proofs.Trees.Standing.{tree_now}
use Rattle.fal_story.proofs.View.{Post, Asking, Kept, Work, Rests, Walks, Locks, Ends, Counts}
use Rattle.fal_story.specs.World.{put}

-- ---- calls for which operations were started

pub starts_started : (starts : List (ℕ × ℕ)) (operation : ℕ) (seq : ℕ → ℕ) (phase : ℕ → Phase) (l : ℕ) → (IsPast (phase l) → ⊥) → 0 < seq l → Starts starts operation Rests seq phase
    → Starts (starts ++ (l, seq l) ∷ []) (operation + 1) (Walks l) seq phase
starts_started starts operation seq phase l waits some x =
    let new = λ (i : ℕ) (at : slice_get starts i ≡ Some (l, seq l)). ⊎_elim {C = ⊥} (λ e. absurd (cc)) (λ past. waits past) (x.last i l at) in
    record {
      count = length-append starts ((l, seq l) ∷ []) ∙ ap (λ n. n + 1) x.count;
      apart = λ i j y here there. ⊎_elim
          (λ a. ⊎_elim (λ b. x.apart i j y a b) (λ b. absurd (new i (a ∙ ap (λ z. Some z) (sym b.1)))) (slice_get_snoc starts (l, seq l) j y there))
          (λ a. ⊎_elim (λ b. absurd (new j (b ∙ ap (λ z. Some z) (sym a.1)))) (λ b. a.0 ∙ sym b.0) (slice_get_snoc starts (l, seq l) j y there))
          (slice_get_snoc starts (l, seq l) i y here);
      sent = λ i a s at. ⊎_elim
          (λ y. x.sent i a s y)
          (λ y. subst (λ (z : ℕ × ℕ). (0 < z.1) × (z.1 ≤ seq z.0)) y.1 (some, omega arith))
          (slice_get_snoc starts (l, seq l) i (a, s) at);
      last = λ i a at. ⊎_elim
          (λ y. ⊎_elim (λ e. absurd (cc)) (λ past. inr past) (x.last i a y))
          (λ y. inl (ap (λ (z : ℕ × ℕ). Walks z.0) y.1))
          (slice_get_snoc starts (l, seq l) i (a, seq a) at);
    }

same_walk : (a b : ℕ) → Walks a ≡ Walks b → a ≡ b
same_walk a b e = cc

-- the call that walks goes on to a place where the operation has it, or is done
pub starts_walked : (starts : List (ℕ × ℕ)) (operation : ℕ) (work : Work) (seq : ℕ → ℕ) (phase : ℕ → Phase) (l : ℕ) (p : Phase) → IsPast p → Starts starts operation (Walks l) seq phase → Starts starts operation work seq (put phase l p)
starts_walked starts operation work seq phase l p is x = record {
  count = x.count;
  apart = x.apart;
  sent = x.sent;
  last = λ i a at. inr (⊎_elim
      (λ e. subst IsPast (sym (ap (put phase l p) (sym (same_walk l a e)) ∙ put_same phase l p)) is)
      (λ past. put_all (λ a q. IsPast (phase a) → IsPast q) phase l p (λ _. is) (λ a _ past. past) a past)
      (x.last i a at));
}

-- the stage changes, and no call walks
pub starts_on : (starts : List (ℕ × ℕ)) (operation : ℕ) (work work' : Work) (seq : ℕ → ℕ) (phase : ℕ → Phase) → ((a : ℕ) → work ≡ Walks a → ⊥) → Starts starts operation work seq phase → Starts starts operation work' seq phase
starts_on starts operation work work' seq phase none x = record { count = x.count; apart = x.apart; sent = x.sent; last = λ i a at. inr (⊎_elim (λ e. absurd (none a e)) (λ past. past) (x.last i a at)) }

-- ---- nodes that were not heard

-- another node stays among them
pub still_missing : (n m : ℕ) (missing : List ℕ) → m ≢ n → IsMissing m missing → IsMissing m (without_node n missing)
still_missing n m [] apart is = is
still_missing n m (k ∷ missing) apart is = ⊎_elim
    (λ x. ap (λ b. list_any (λ z. z == m) (if b then without_node n missing else k ∷ without_node n missing)) x.0
    ∙ still_missing n m missing apart (sym (ap (λ b. b || list_any (λ z. z == m) missing) (unequal k m (λ e. apart (sym e ∙ x.1)))) ∙ is))
    (λ x. ap (λ b. list_any (λ z. z == m) (if b then without_node n missing else k ∷ without_node n missing)) x.0
    ∙ elim (k == m) as (λ b. (b || list_any (λ z. z == m) missing) ≡ true → (b || list_any (λ z. z == m) (without_node n missing)) ≡ true) [ true ↦ λ _. refl | false ↦ λ is. still_missing n m missing apart is ] is)
    (tells k n)

-- no more are missing than were, and the node itself is not
pub was_missing : (n m : ℕ) (missing : List ℕ) → IsMissing m (without_node n missing) → IsMissing m missing
was_missing n m [] is = is
was_missing n m (k ∷ missing) is =
    elim (k == n) as (λ b. list_any (λ z. z == m) (if b then without_node n missing else k ∷ without_node n missing) ≡ true → ((k == m) || list_any (λ z. z == m) missing) ≡ true) [
      | true ↦ λ is. second (k == m) _ (was_missing n m missing is)
      | false ↦ λ is. elim (k == m) as (λ b. (b || list_any (λ z. z == m) (without_node n missing)) ≡ true → (b || list_any (λ z. z == m) missing) ≡ true) [ true ↦ λ _. refl | false ↦ λ is. was_missing n m missing is ] is
    ] is
  where
    second : (a b : Bool) → b ≡ true → (a || b) ≡ true
    second true b is = refl
    second false b is = is

pub not_missing : (n : ℕ) (missing : List ℕ) → IsMissing n (without_node n missing) → ⊥
not_missing n [] is = absurd (cc)
not_missing n (k ∷ missing) is = ⊎_elim
    (λ x. not_missing n missing (sym (ap (λ b. list_any (λ z. z == n) (if b then without_node n missing else k ∷ without_node n missing)) x.0) ∙ is))
    (λ x. not_missing n missing (sym (ap (λ b. b || list_any (λ z. z == n) (without_node n missing)) x.0) ∙ sym (ap (λ b. list_any (λ z. z == n) (if b then without_node n missing else k ∷ without_node n missing)) x.0) ∙ is))
    (tells k n)

-- the rows of a node have each of the keys that it owns, and no other
row_there : (table : Placement) (tree : Tree) (n : ℕ) (keys : List Key) (key : Key) → owner table key ≡ n → is_among key keys ≡ true → row_told (rows_of table tree n keys) key ≡ Some (row_at tree key)
row_there table tree n [] key own among = absurd (cc)
row_there table tree n (k ∷ keys) key own among =
    elim (same_key k key) as (λ b. same_key k key ≡ b → (b || is_among key keys) ≡ true → row_told (if owner table k == n then record { key = k; row = row_at tree k } ∷ rows_of table tree n keys else rows_of table tree n keys) key ≡ Some (row_at tree key)) [
      | true ↦ λ same _.
          let one = (same_key_is k key).0 same in
          let mine : (owner table k == n) ≡ true = eq-eqb _ _ (ap (owner table) one ∙ own) in
          ap (λ b. row_told (if b then record { key = k; row = row_at tree k } ∷ rows_of table tree n keys else rows_of table tree n keys) key) mine
          ∙ ap (λ b. if b then Some (row_at tree k) else row_told (rows_of table tree n keys) key) same ∙ ap (λ z. Some (row_at tree z)) one
      | false ↦ λ apart is.
          let rest = row_there table tree n keys key own is in
          elim (owner table k == n) as (λ b. row_told (if b then record { key = k; row = row_at tree k } ∷ rows_of table tree n keys else rows_of table tree n keys) key ≡ Some (row_at tree key)) [
            | true ↦ ap (λ b. if b then Some (row_at tree k) else row_told (rows_of table tree n keys) key) apart ∙ rest
            | false ↦ rest
          ]
    ] refl among

row_gone : (table : Placement) (tree : Tree) (n : ℕ) (keys : List Key) (key : Key) → owner table key ≢ n → row_told (rows_of table tree n keys) key ≡ None
row_gone table tree n [] key other = refl
row_gone table tree n (k ∷ keys) key other =
    let rest = row_gone table tree n keys key other in
    ⊎_elim
    (λ x. ap (λ b. row_told (if b then record { key = k; row = row_at tree k } ∷ rows_of table tree n keys else rows_of table tree n keys) key) x.0
    ∙ elim (same_key k key) as (λ b. same_key k key ≡ b → (if b then Some (row_at tree k) else row_told (rows_of table tree n keys) key) ≡ None) [
      | true ↦ λ same. absurd (other (ap (owner table) (sym ((same_key_is k key).0 same)) ∙ x.1))
      | false ↦ λ apart. rest
    ] refl)
    (λ x. ap (λ b. row_told (if b then record { key = k; row = row_at tree k } ∷ rows_of table tree n keys else rows_of table tree n keys) key) x.0 ∙ rest)
    (tells (owner table k) n)

told_front : (rows more : List Update) (key : Key) (row : Option Inode) → row_told rows key ≡ Some row → row_told (rows ++ more) key ≡ Some row
told_front [] more key row is = absurd (cc)
told_front (u ∷ rows) more key row is =
    elim (same_key u.key key) as (λ b. (if b then Some u.row else row_told rows key) ≡ Some row → (if b then Some u.row else row_told (rows ++ more) key) ≡ Some row) [ true ↦ λ is. is | false ↦ λ is. told_front rows more key row is ] is

told_back : (rows more : List Update) (key : Key) → row_told rows key ≡ None → row_told (rows ++ more) key ≡ row_told more key
told_back [] more key none = refl
told_back (u ∷ rows) more key none =
    elim (same_key u.key key) as (λ b. (if b then Some u.row else row_told rows key) ≡ None → (if b then Some u.row else row_told (rows ++ more) key) ≡ row_told more key) [ true ↦ λ is. absurd (cc) | false ↦ λ is. told_back rows more key is ] none

module _ {nodes : ℕ} {table : Placement} {shut : ℕ → Option Shut} {queued : ℕ → Option Message} {last : ℕ → ℕ} {due : ℕ → List Update} {operation : ℕ} {work : Work} {starts : List (ℕ × ℕ)} {own : List Asking} {posts : List Post}
    {commits : List Commit} {seq : ℕ → ℕ} {call : ℕ → CallRec} {phase : ℕ → Phase} (g : Operation nodes table shut queued last due operation work starts own posts commits seq call phase) where
  pub at : (w : Work) → work ≡ w → Operation nodes table shut queued last due operation w starts own posts commits seq call phase
  at w same = subst (λ z. Operation nodes table shut queued last due operation z starts own posts commits seq call phase) same g

  -- an operation is started for a call that waits
  pub operation_started : (l : ℕ) → work ≡ Rests → (IsPast (phase l) → ⊥) → 0 < seq l
      → Operation nodes table shut queued last due (operation + 1) (Walks l) (starts ++ (l, seq l) ∷ []) own posts commits seq call phase
  operation_started l rests waits some = let h = at Rests rests in record {
    stands = λ n below. let x = h.stands n below in let past = x.3 in (x.0, x.1, x.2, omega arith);
    beyond = g.beyond;
    told = λ e p to m posted. told_started nodes table (tree_now commits) operation shut last l to m (h.told e p to m posted);
    walks = tt;
    heard = tt;
    within = tt;
    dirs = tt;
    counts = tt;
    runs = λ a runs. absurd (h.runs a runs);
    running = λ a is. absurd is;
    unmaking = h.unmaking;
    quiet = tt;
    starts = starts_started starts operation seq phase l waits some h.starts;
  }

  -- the walks are done: every node is to shut the keys
  pub operation_locking : (l : ℕ) (keys : List Key) (walks : List Kept) → work ≡ Walks l → own ≡ [] → is_making (call l).op ≡ false → All (IsKept (tree_now commits) (call l).cred) walks → ((key : Key) → owner table key < nodes)
      → Operation nodes table shut queued last due operation (Locks l keys walks (numbers_below nodes) []) starts own posts commits seq call (put phase l Runs)
  operation_locking l keys walks is none unmaking kept lives = let h = at (Walks l) is in record {
    stands = λ n below. let x = h.stands n below in (x.0, inl (among_below nodes n below, inl (x.1, x.2, x.3)));
    beyond = g.beyond;
    told = λ e p to m posted. told_locking nodes table (tree_now commits) operation shut last l keys walks (numbers_below nodes) [] to m (h.told e p to m posted);
    walks = kept;
    heard = λ key among. inl (among_below nodes (owner table key) (lives key), refl);
    within = tt;
    dirs = tt;
    counts = tt;
    runs = λ a runs. ⊎_elim (λ y. sym y.0) (λ y. absurd (h.runs a y.1)) (from_put phase l Runs a Runs runs);
    running = λ a is. ap (put phase l Runs) (sym is) ∙ put_same phase l Runs;
    unmaking = λ a runs. ⊎_elim (λ y. ap (λ i. is_making (call i).op) y.0 ∙ unmaking) (λ y. absurd (h.runs a y.1)) (from_put phase l Runs a Runs runs);
    quiet = none;
    starts = starts_walked starts operation (Locks l keys walks (numbers_below nodes) []) seq phase l Runs tt h.starts;
  }

  -- the walk stops: the operation is given up
  pub operation_given_up : (l k : ℕ) (reply : Reply) → work ≡ Walks l → own ≡ [] → Operation nodes table shut queued last due operation Rests starts own posts commits seq call (put phase l (Tells (Replies k reply)))
  operation_given_up l k reply is none = let h = at (Walks l) is in record {
    stands = λ n below. let x = h.stands n below in let past = x.3 in (x.0, x.1, x.2, omega arith);
    beyond = g.beyond;
    told = λ e p to m posted. told_given_up nodes table (tree_now commits) operation shut last l to m (h.told e p to m posted);
    walks = tt;
    heard = tt;
    within = tt;
    dirs = tt;
    counts = tt;
    runs = λ a runs. ⊎_elim (λ y. absurd (cc)) (λ y. absurd (h.runs a y.1)) (from_put phase l (Tells (Replies k reply)) a Runs runs);
    running = λ a none. absurd none;
    unmaking = λ a runs. ⊎_elim (λ y. absurd (cc)) (λ y. absurd (h.runs a y.1)) (from_put phase l (Tells (Replies k reply)) a Runs runs);
    quiet = none;
    starts = starts_walked starts operation Rests seq phase l (Tells (Replies k reply)) tt h.starts;
  }

  -- a node serves its Lock
  pub operation_shut : (n l : ℕ) (keys : List Key) (walks : List Kept) (missing : List ℕ) (rows : List Update) → work ≡ Locks l keys walks missing rows → n < nodes → queued n ≡ Some (message.Lock operation keys)
      → Operation nodes table (put shut n (shut_by operation keys)) (put queued n None) last due operation work starts own posts commits seq call phase
  operation_shut n l keys walks missing rows is below item = let h = at (Locks l keys walks missing rows) is in
      let here = h.stands n below in
      let waits : (shut n ≡ None) × (last n ≡ operation) = ⊎_elim
      (λ x. ⊎_elim (λ away. let none = away.1 in absurd (cc)) (λ queued. (queued.0, queued.2)) x.1)
      (λ has. let none = has.1 in absurd (cc)) here.1 in
      operation_placed g
      (put_both (λ m s q. m < nodes → Stands table operation work m s q (last m) (due m)) shut queued n (shut_by operation keys) None
      (λ _. subst (λ w. Stands table operation w n (shut_by operation keys) None (last n) (due n)) (sym is) (here.0, inr (refl, refl, waits.1))) (λ m _. g.stands m))
      (put_all (λ m s. nodes ≤ m → s ≡ None) shut n (shut_by operation keys) (λ past. absurd (omega arith)) (λ m _. g.beyond m))
      (λ e p to m posted. subst (λ w. IsTold nodes table (tree_now commits) operation w (put shut n (shut_by operation keys)) last to m) (sym is)
      (told_shut nodes table (tree_now commits) operation shut last l keys walks missing rows n waits.0 to m (h.told e p to m posted)))

  -- the coordinator hears that a node has shut the keys, and its rows
  pub operation_heard : (n l : ℕ) (keys : List Key) (walks : List Kept) (missing : List ℕ) (rows given : List Update) → work ≡ Locks l keys walks missing rows → shut n ≡ shut_by operation keys → given ≡ rows_of table (tree_now commits) n keys
      → Operation nodes table shut queued last due operation (Locks l keys walks (without_node n missing) (rows ++ given)) starts own posts commits seq call phase
  operation_heard n l keys walks missing rows given is has told = let h = at (Locks l keys walks missing rows) is in record {
    stands = λ m below. let x = h.stands m below in (
      x.0,
      ⊎_elim
          (λ y. ⊎_elim
          (λ same. let s = ap shut same.1 in ⊎_elim (λ away. let none = away.0 in absurd (cc)) (λ queued. let none = queued.0 in absurd (cc)) y.1)
          (λ apart. inl (still_missing n m missing apart.1 y.0, y.1))
          (tells m n))
          (λ y. inr y)
          x.1,
    );
    beyond = g.beyond;
    told = λ e p to m posted. told_heard nodes table (tree_now commits) operation shut last l keys walks missing (without_node n missing) rows (rows ++ given) to m (h.told e p to m posted);
    walks = h.walks;
    heard = λ key among. ⊎_elim
        (λ gone. ⊎_elim
        (λ same. inr (
          (λ is. not_missing n missing (subst (λ m. IsMissing m (without_node n missing)) same.1 is)),
          told_back rows given key gone.1 ∙ ap (λ us. row_told us key) told ∙ row_there table (tree_now commits) n keys key same.1 among,
        ))
        (λ apart. inl (still_missing n (owner table key) missing apart.1 gone.0, told_back rows given key gone.1 ∙ ap (λ us. row_told us key) told ∙ row_gone table (tree_now commits) n keys key apart.1))
        (tells (owner table key) n))
        (λ kept. inr ((λ is. kept.0 (was_missing n (owner table key) missing is)), told_front rows given key _ kept.1))
        (h.heard key among);
    within = tt;
    dirs = tt;
    counts = tt;
    runs = h.runs;
    running = h.running;
    unmaking = h.unmaking;
    quiet = h.quiet;
    starts = starts_on starts operation (Locks l keys walks missing rows) (Locks l keys walks (without_node n missing) (rows ++ given)) seq phase (λ a e. absurd (cc)) h.starts;
  }

  -- a node has made its updates
  pub operation_done : (n : ℕ) (keys : List Key) (updates : List Update) (missing : List ℕ) → work ≡ Ends keys updates missing → shut n ≡ None
      → Operation nodes table shut queued last due operation (Ends keys updates (without_node n missing)) starts own posts commits seq call phase
  operation_done n keys updates missing is open' = let h = at (Ends keys updates missing) is in record {
    stands = λ m below. ⊎_elim
        (λ y. ⊎_elim
        (λ same. let s = ap shut same.1 in let has = y.2.0 in absurd (cc))
        (λ apart. inl (y.0, still_missing n m missing apart.1 y.1, y.2))
        (tells m n))
        (λ y. inr y)
        (h.stands m below);
    beyond = g.beyond;
    told = λ e p to m posted. told_done nodes table (tree_now commits) operation shut last keys updates missing (without_node n missing) to m (h.told e p to m posted);
    walks = tt;
    heard = tt;
    within = h.within;
    dirs = tt;
    counts = tt;
    runs = h.runs;
    running = h.running;
    unmaking = h.unmaking;
    quiet = h.quiet;
    starts = starts_on starts operation (Ends keys updates missing) (Ends keys updates (without_node n missing)) seq phase (λ a e. absurd (cc)) h.starts;
  }

  -- each node has
  pub operation_rested : (keys : List Key) (updates : List Update) → work ≡ Ends keys updates [] → Operation nodes table shut queued last due operation Rests starts own posts commits seq call phase
  operation_rested keys updates is = let h = at (Ends keys updates []) is in
      let all : (n : ℕ) → n < nodes → (due n ≡ []) × (shut n ≡ None) × (queued n ≡ None) × (last n ≡ operation) = λ n below. ⊎_elim (λ x. let none = x.1 in absurd (cc)) (λ x. x) (h.stands n below) in
      record {
        stands = λ n below. let x = all n below in let same = x.3 in (x.0, x.1, x.2, omega arith);
        beyond = g.beyond;
        told = λ e p to m posted. told_ended nodes table (tree_now commits) operation shut last keys updates [] (λ n below. (all n below).3) to m (h.told e p to m posted);
        walks = tt;
        heard = tt;
        within = tt;
        dirs = tt;
        counts = tt;
        runs = h.runs;
        running = λ a none. absurd none;
        unmaking = h.unmaking;
        quiet = h.quiet;
        starts = starts_on starts operation (Ends keys updates []) Rests seq phase (λ a e. absurd (cc)) h.starts;
      }

  -- every node has the keys shut, and the rows under a directory are to be counted
  pub operation_counting : (l : ℕ) (keys : List Key) (walks : List Kept) (rows : List Update) (dir : ℕ) (updates : List Update) → work ≡ Locks l keys walks [] rows → ((key : Key) → owner table key < nodes)
      → (key : Key) → is_among key keys ≡ true → IsSomeAnd (row_at (tree_now commits) key) (λ (r : Inode). r.ino ≡ dir)
      → Operation nodes table shut queued last due operation (Counts l keys walks (numbers_below nodes) rows dir updates 0) starts own posts commits seq call phase
  operation_counting l keys walks rows dir updates is lives key among there = let h = at (Locks l keys walks [] rows) is in record {
    stands = λ n below. let x = h.stands n below in (x.0, ⊎_elim (λ y. let none = y.0 in absurd (cc)) (λ y. y) x.1);
    beyond = g.beyond;
    told = λ e p to m posted. told_counting nodes table (tree_now commits) operation shut last l keys walks [] (numbers_below nodes) rows dir updates to m (h.told e p to m posted);
    walks = h.walks;
    heard = λ key among. ⊎_elim (λ y. let none = y.0 in absurd (cc)) (λ y. y.1) (h.heard key among);
    within = tt;
    dirs = (key, among, there);
    counts = (
      λ n. ⊎_elim
          (λ below. inl (among_below nodes n below))
          (λ past. inr (λ _ q under own. let below = lives q in absurd (omega arith)))
          (below_or n),
      λ some. absurd (some refl),
    );
    runs = h.runs;
    running = h.running;
    unmaking = h.unmaking;
    quiet = h.quiet;
    starts = starts_on starts operation (Locks l keys walks [] rows) (Counts l keys walks (numbers_below nodes) rows dir updates 0) seq phase (λ a e. absurd (cc)) h.starts;
  }
    where
      below_or : (n : ℕ) → (n < nodes) ⊎ (nodes ≤ n)
      below_or n = grind arith

  -- a node has told how many there are
  pub operation_counted : (n number l : ℕ) (keys : List Key) (walks : List Kept) (missing : List ℕ) (rows : List Update) (dir : ℕ) (updates : List Update) (sum : ℕ) → work ≡ Counts l keys walks missing rows dir updates sum
      → IsCounted table (tree_now commits) n dir number
      → Operation nodes table shut queued last due operation (Counts l keys walks (without_node n missing) rows dir updates (sum + number)) starts own posts commits seq call phase
  operation_counted n number l keys walks missing rows dir updates sum is counted = let h = at (Counts l keys walks missing rows dir updates sum) is in record {
    stands = h.stands;
    beyond = g.beyond;
    told = λ e p to m posted. told_counted nodes table (tree_now commits) operation shut last l keys walks missing (without_node n missing) rows dir updates sum (sum + number) to m (h.told e p to m posted);
    walks = h.walks;
    heard = h.heard;
    within = tt;
    dirs = h.dirs;
    counts = (
      λ m. ⊎_elim
          (λ same. inr (λ none key under own. counted.0 (omega arith) key under (own ∙ same.1)))
          (λ apart. ⊎_elim (λ gone. inl (still_missing n m missing apart.1 gone)) (λ none. inr (λ zero_sum. none (omega arith))) (h.counts.0 m))
          (tells m n),
      λ some. ⊎_elim
          (λ same. h.counts.1 (λ zero_sum. let one = same.1 in some (omega arith)))
          (λ apart. counted.1 apart.1)
          (tells number 0),
    );
    runs = h.runs;
    running = h.running;
    unmaking = h.unmaking;
    quiet = h.quiet;
    starts = starts_on starts operation (Counts l keys walks missing rows dir updates sum) (Counts l keys walks (without_node n missing) rows dir updates (sum + number)) seq phase (λ a e. absurd (cc)) h.starts;
  }
