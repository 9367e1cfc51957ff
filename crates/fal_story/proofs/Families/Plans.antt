-- Calls that are planned.
use Rattle.std.proofs.Common.{◌≡◌, ◌⊎◌, inl, ⊎_elim, refl, ℕ, ◌<◌, Bool, true, false, List, [], ◌∷◌, ◌++◌, Option, IsSomeAnd, sym, subst, ◌∙◌}
use Rattle.std.specs.List.{All}
use Rattle.std.specs.Option.{option_map}
use Rattle.std.proofs.lemmas.List.Elements.{All-weaker}
use Rattle.fal_base.specs.declared.call.CallRec.{CallRec}
use Rattle.fal_base.specs.declared.inode.Inode.{Inode}
use Rattle.fal_base.specs.declared.key.Key.{Key}
use Rattle.fal_base.specs.declared.reply.Errno.TheVariants.{Eacces}
use Rattle.fal_base.specs.declared.reply.Reply.{Reply}
use Rattle.fal_base.specs.Commits.{Commit}
use Rattle.fal_base.specs.Tree.{Tree}
use Rattle.fal_base.specs.Walk.{Stop, Ready, walk, dentry_of}
use Rattle.fal_dentry.specs.TreeWalk.{way}
use Rattle.fal_exec.specs.RowCall.{row_names}
use Rattle.fal_run.specs.declared.call.BatchCall.{BatchCall}
use Rattle.fal_place.specs.Placement.{Placement, owner}
use Rattle.fal_story.proofs.Families.Asking.{IsCrossed, weaker}
use Rattle.fal_story.proofs.Lists.Grown.{from_put, put_both}
use Rattle.fal_story.proofs.Phase.{Phase, Plans, Tells, Replies, IsBare}
use Rattle.fal_story.proofs.Trees.Changed.{IsChanged, ready_kept, denied_kept}
use Rattle.fal_story.proofs.Trees.Standing.{tree_now}
use Rattle.fal_story.specs.World.{put}

-- the walk of the call ends as planned, by keys that are among those crossed; and so is its last key, which this node owns
abbrev pub IsPlannedAs : Placement → Tree → ℕ → CallRec → List Key → BatchCall → Bool → List (List ℕ) → Type 0
IsPlannedAs table tree n call crossed x true names = (walk tree call.cred names ≡ Stop Eacces) × All (IsCrossed crossed) (way tree call.cred names)
IsPlannedAs table tree n call crossed x false names =
    ((dir : Option Inode) × ((passed : List ℕ) × (walk tree call.cred names ≡ Ready dir passed x.last) × (option_map dentry_of dir ≡ x.parent)))
    × All (IsCrossed crossed) (way tree call.cred names) × (owner table x.last ≡ n) × IsCrossed crossed x.last

abbrev pub IsPlanned : Placement → Tree → ℕ → CallRec → List Key → BatchCall → Type 0
IsPlanned table tree n call crossed x = IsSomeAnd (row_names call.op) (λ names. IsPlannedAs table tree n call crossed x x.denied names)

-- each is planned at a node
abbrev pub Planned : ℕ → Placement → List Commit → (ℕ → CallRec) → (ℕ → Phase) → (ℕ → List Key) → Type 0
Planned nodes table commits call phase crossed = (l n : ℕ) (x : BatchCall) → phase l ≡ Plans n x → (n < nodes) × IsPlanned table (tree_now commits) n (call l) (crossed l) x

pub record Planning (nodes : ℕ) (table : Placement) (commits : List Commit) (call : ℕ → CallRec) (phase : ℕ → Phase) (crossed : ℕ → List Key) : Type 0 where
  pub planned : Planned nodes table commits call phase crossed

-- ---- one commit more

module _ (t u : Tree) (Safe : Key → Type 0) (changed : IsChanged t u Safe) (table : Placement) (n : ℕ) (call : CallRec) (crossed : List Key) (x : BatchCall) (safe : (k : Key) → IsCrossed crossed k → Safe k) where
  safe_way : (names : List (List ℕ)) → All (IsCrossed crossed) (way t call.cred names) → All Safe (way t call.cred names)
  safe_way names all = All-weaker (IsCrossed crossed) Safe safe (way t call.cred names) all

  planned_as : (denied : Bool) (names : List (List ℕ)) → IsPlannedAs table t n call crossed x denied names → IsPlannedAs table u n call crossed x denied names
  planned_as true names is = let z = denied_kept t u Safe call.cred changed names (safe_way names is.1) is.0 in (z.0, subst (All (IsCrossed crossed)) (sym z.1) is.1)
  planned_as false names is =
      let z = ready_kept t u Safe call.cred changed names is.0.0 is.0.1.0 x.last (safe_way names is.1) is.0.1.1 in
      ((is.0.0, (is.0.1.0, z.0, is.0.1.2)), subst (All (IsCrossed crossed)) (sym z.1) is.1, is.2, is.3)

  planned_kept : IsPlanned table t n call crossed x → IsPlanned table u n call crossed x
  planned_kept is = weaker (row_names call.op) _ _ (planned_as x.denied) is

-- ---- another table

pub retabled : (table table' : Placement) (t : Tree) (n : ℕ) (call : CallRec) (crossed : List Key) (x : BatchCall) (denied : Bool) → (denied ≡ false → owner table' x.last ≡ owner table x.last) → (names : List (List ℕ))
    → IsPlannedAs table t n call crossed x denied names → IsPlannedAs table' t n call crossed x denied names
retabled table table' t n call crossed x true same names is = is
retabled table table' t n call crossed x false same names is = (is.0, is.1, same refl ∙ is.2, is.3)

module _ {nodes : ℕ} {table : Placement} {commits : List Commit} {call : ℕ → CallRec} {phase : ℕ → Phase} {crossed : ℕ → List Key} (g : Planning nodes table commits call phase crossed) where
  -- a call makes its commit, and is done
  pub plans_committed : (c : Commit) (Safe : Key → Type 0) → IsChanged (tree_now commits) (tree_now (commits ++ c ∷ [])) Safe
      → ((l n : ℕ) (x : BatchCall) → phase l ≡ Plans n x → (k : Key) → IsCrossed (crossed l) k → Safe k) → (l k : ℕ) (reply : Reply)
      → Planning nodes table (commits ++ c ∷ []) call (put phase l (Tells (Replies k reply))) crossed
  plans_committed c Safe changed safe l k reply = record {
    planned = λ a n x e. ⊎_elim
        (λ y. absurd (cc))
        (λ y. let z = g.planned a n x y.1 in (z.0, planned_kept (tree_now commits) (tree_now (commits ++ c ∷ [])) Safe changed table n (call a) (crossed a) x (safe a n x y.1) z.1))
        (from_put phase l (Tells (Replies k reply)) a _ e);
  }

  -- calls move, those to a plan to one that is right
  pub plans_moved : (phase' : ℕ → Phase) (crossed' : ℕ → List Key)
      → ((l n : ℕ) (x : BatchCall) → phase' l ≡ Plans n x → ((phase l ≡ Plans n x) × (crossed l ≡ crossed' l)) ⊎ ((n < nodes) × IsPlanned table (tree_now commits) n (call l) (crossed' l) x))
      → Planning nodes table commits call phase' crossed'
  plans_moved phase' crossed' moves = record {
    planned = λ l n x e. ⊎_elim
        (λ same. let z = g.planned l n x same.0 in (z.0, subst (λ keys. IsPlanned table (tree_now commits) n (call l) keys x) same.1 z.1))
        (λ new. new)
        (moves l n x e);
  }

  -- a call moves to a place that rests on nothing
  pub plans_put : (l : ℕ) (p : Phase) → IsBare p → Planning nodes table commits call (put phase l p) crossed
  plans_put l p bare = plans_moved (put phase l p) crossed (λ a n x e. ⊎_elim
      (λ y. absurd (subst IsBare y.1 bare))
      (λ y. inl (y.1, refl))
      (from_put phase l p a _ e))

  -- a lane has another call, which is not planned
  pub plans_called : (l : ℕ) (c : CallRec) (p : Phase) → IsBare p → Planning nodes table commits (put call l c) (put phase l p) crossed
  plans_called l c p bare = record {
    planned = λ a n x. put_both (λ a d q. q ≡ Plans n x → (n < nodes) × IsPlanned table (tree_now commits) n d (crossed a) x) call phase l c p (λ e. absurd (subst IsBare e bare)) (λ a _. g.planned a n x) a;
  }

  -- the table changes for names that are not planned
  pub plans_retabled : (table' : Placement) → ((l n : ℕ) (x : BatchCall) → phase l ≡ Plans n x → x.denied ≡ false → owner table' x.last ≡ owner table x.last) → Planning nodes table' commits call phase crossed
  plans_retabled table' same = record {
    planned = λ l n x e. let z = g.planned l n x e in (z.0, weaker (row_names (call l).op) _ _ (retabled table table' (tree_now commits) n (call l) (crossed l) x x.denied (same l n x e)) z.1);
  }
