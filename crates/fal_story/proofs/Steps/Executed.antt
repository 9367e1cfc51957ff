-- A planned call is executed.
use Rattle.std.proofs.Common.{◌≡◌, ◌≢◌, ◌⊎◌, inl, inr, ⊎_elim, ℕ, ◌+◌, ◌<◌, ◌≤◌, Bool, true, false, cond, List, [], ◌∷◌, ◌++◌, length, Option, Some, None, IsSomeAnd, refl, sym, ap, ◌∙◌, subst, arith, true≢false}
use Rattle.std.specs.List.{All}
use Rattle.std.specs.Prelude.{slice_get}
use Rattle.fal_base.specs.declared.call.CallRec.{CallRec}
use Rattle.fal_base.specs.declared.call.Config.{Config}
use Rattle.fal_base.specs.declared.entry.Entry.TheVariants as entry
use Rattle.fal_base.specs.declared.call.Cred.{Cred}
use Rattle.fal_base.specs.declared.inode.Inode.{Inode}
use Rattle.fal_base.specs.declared.key.Key.{Key}
use Rattle.fal_base.specs.declared.op.Op.{Op}
use Rattle.fal_base.specs.declared.op.Op.TheVariants as op
use Rattle.fal_base.specs.declared.reply.Errno.TheVariants.{Eacces}
use Rattle.fal_base.specs.declared.reply.Reply.{Reply}
use Rattle.fal_base.specs.declared.reply.Reply.TheVariants.{Fail}
use Rattle.fal_base.specs.Answer.{answer}
use Rattle.fal_base.specs.Change as tree
use Rattle.fal_base.specs.Change.{makes}
use Rattle.fal_base.specs.Commits.{Commit, tree_at}
use Rattle.fal_base.specs.Transcript.{is_names, is_place}
use Rattle.fal_base.specs.Walk.{Ready, walk}
use Rattle.fal_base.specs.Tree.{Tree, row_at}
use Rattle.fal_base.specs.Updates.{laid_at, keys_of}
use Rattle.fal_exec.proofs.InTrees.{in_trees}
use Rattle.fal_exec.proofs.Stopped.{stopped_answer, stopped_makes}
use Rattle.fal_exec.specs.declared.outcome.Change.{Change}
use Rattle.fal_exec.specs.declared.outcome.Change.TheVariants as change
use Rattle.fal_exec.specs.declared.outcome.ExecOut.TheVariants as out
use Rattle.fal_exec.specs.Executed.{IsExecuted, IsFinished, IsRowPart, is_directory}
use Rattle.fal_exec.specs.Outcome.{outcome_of}
use Rattle.fal_exec.specs.RowCall.{row_names}
use Rattle.fal_dentry.proofs.UnderWay.{no_parent, under_number}
use Rattle.fal_dentry.specs.TreeWalk.{way}
use Rattle.fal_dentry.specs.Walk.{is_among}
use Rattle.fal_place.specs.Placement.{owner}
use Rattle.fal_run.specs.declared.call.BatchCall.{BatchCall}
use Rattle.fal_run.specs.Calls.{is_making, number_after, noted_number, drawn_by, draws}
use Rattle.fal_run.specs.Rows.{rows_after}
use Rattle.fal_story.proofs.Families.Asking.{IsCrossed, asking_committed}
use Rattle.fal_story.proofs.Families.Barring.{bars_executed, bars_put}
use Rattle.fal_story.proofs.Families.Bars.{Bars}
use Rattle.fal_story.proofs.Families.Clear.{IsShut, clear_put}
use Rattle.fal_story.proofs.Families.Ground.{Ground, ground_executed}
use Rattle.fal_story.proofs.Families.Knowing.{Untold, knowing_put}
use Rattle.fal_story.proofs.Families.Lanes.{IsRight, lanes_committed, positive}
use Rattle.fal_story.proofs.Families.Listings.{listings_committed, listings_noted, listings_put}
use Rattle.fal_story.proofs.Families.Operation.{HasDirs, Stands}
use Rattle.fal_story.proofs.Families.OperationRows.{IsUnder, IsUntouched, operation_executed}
use Rattle.fal_story.proofs.Families.Plans.{IsPlannedAs, plans_committed}
use Rattle.fal_story.proofs.Families.Records.{records_done}
use Rattle.fal_story.proofs.Families.Script.{Commits, IsDrawn, script_committed}
use Rattle.fal_story.proofs.Good.{Good}
use Rattle.fal_story.proofs.Lists.Grown.{put_same, slice_get_snoc, slice_get_end, put_all}
use Rattle.fal_story.proofs.Phase.{Idle, Plans, Tells, Replies, IsCrossing, IsTaken, IsUnanswered, IsUnlisted}
use Rattle.fal_story.proofs.Steps.Outcomes.{finished_plain, outcome_ends, outcome_off_dirs, remove_makes_none}
use Rattle.fal_story.proofs.Steps.Reads.{none_due, read_row, not_true}
use Rattle.fal_story.proofs.Trees.Changed.{IsChanged}
use Rattle.fal_story.proofs.Trees.CommitRows.{changed_at, change_noted, noted_made, noted_none, IsChangedAt, row_left}
use Rattle.fal_story.proofs.Trees.Commits.{longer, IsNewNumber, tree_at_front, tree_now_snoc, legal_snoc}
use Rattle.fal_story.proofs.Trees.Numbers.{numbers_differ, numbers_some}
use Rattle.fal_story.proofs.Trees.Standing.{tree_now}
use Rattle.fal_story.proofs.Trees.Among.{all_among}
use Rattle.fal_story.proofs.View.{View, Work, Rests, Walks, Locks, Counts, Ends, now, Blocks, Lands}
use Rattle.fal_story.specs.World.{put}

-- what comes of a planned call, by the node's rows
abbrev pub IsOutcome : View → ℕ → ℕ → BatchCall → Reply → Change → Type 0
IsOutcome v l n x reply ch = outcome_of (row_at (v.rows n) x.last) x.parent (v.call l).cred (v.call l).op (number_after n (v.drawn n)) ≡ out.Finish reply ch

-- the number that the commit is noted with
abbrev pub ino_of : Op → ℕ → Change → ℕ
ino_of op fresh change.Keep = 0
ino_of op fresh (change.Put inode) = noted_number op fresh
ino_of op fresh change.Remove = 0

abbrev pub commit_by : View → ℕ → ℕ → Change → Commit
commit_by v l n ch = record { lane = l; seq = v.seq l; cred = (v.call l).cred; op = (v.call l).op; ino = ino_of (v.call l).op (number_after n (v.drawn n)) ch }

rows_after_is : (t : Tree) (key : Key) (ch : Change) → ch ≢ change.Keep → rows_after t key ch ≡ laid_at t key (row_left ch)
rows_after_is t key change.Keep changes = absurd (changes refl)
rows_after_is t key (change.Put inode) changes = refl
rows_after_is t key change.Remove changes = refl

-- ---- what a planned call rests on

some_of : {A : Type 0} (o : Option A) (P : A → Type 0) → IsSomeAnd o P → (x : A) × ((o ≡ Some x) × P x)
some_of None P is = absurd is
some_of (Some x) P is = (x, (refl, is))

-- the plan stands in the tree as it is
pub planned_here : (config : Config) (v : View) (l n : ℕ) (x : BatchCall) (denied : Bool) → v.phase l ≡ Plans n x → x.denied ≡ denied → Good config v
    → (names : List (List ℕ)) × ((row_names (v.call l).op ≡ Some names) × IsPlannedAs v.map.table (now v) n (v.call l) (v.op.crossed l) x denied names)
planned_here config v l n x denied is as_denied g =
    subst (λ b. (names : List (List ℕ)) × ((row_names (v.call l).op ≡ Some names) × IsPlannedAs v.map.table (now v) n (v.call l) (v.op.crossed l) x b names)) as_denied
    (some_of (row_names (v.call l).op) _ (g.plans.planned l n x is).1)

row_tree : (o : Op) (names : List (List ℕ)) → row_names o ≡ Some names → is_place o ≡ false
row_tree (op.Place name rule) names is = absurd (cc)
row_tree other names is = refl

-- one row decides it, so it is a call about the tree
planned_tree : (config : Config) (v : View) (l n : ℕ) (x : BatchCall) → v.phase l ≡ Plans n x → Good config v → is_place (v.call l).op ≡ false
planned_tree config v l n x is g = let one = some_of (row_names (v.call l).op) _ (g.plans.planned l n x is).1 in row_tree (v.call l).op one.0 one.1.0

under_way : (v : View) (l n : ℕ) (x : BatchCall) → v.phase l ≡ Plans n x → v.phase l ≢ Idle
under_way v l n x is idle = cc

-- the node owns the row, and the call rests on its key, which is not shut there
own_here : (config : Config) (v : View) (l n : ℕ) (x : BatchCall) → v.phase l ≡ Plans n x → x.denied ≡ false → Good config v → (owner v.map.table x.last ≡ n) × (IsShut (v.op.shut n) x.last → ⊥)
own_here config v l n x is ready g =
    let plan = (planned_here config v l n x false is ready g).1.1 in
    (plan.2, g.clear.ways l n x.last (subst (IsCrossing n) (sym is) refl) plan.3)

-- and it rests on it
pub last_crossed : (config : Config) (v : View) (l n : ℕ) (x : BatchCall) → v.phase l ≡ Plans n x → x.denied ≡ false → Good config v → is_among x.last (v.op.crossed l) ≡ true
last_crossed config v l n x is ready g = (planned_here config v l n x false is ready g).1.1.3

off_due : (config : Config) (v : View) (l n : ℕ) (x : BatchCall) → v.phase l ≡ Plans n x → x.denied ≡ false → Good config v → is_among x.last (keys_of (v.op.due n)) ≡ false
off_due config v l n x is ready g = none_due config v n x.last (g.plans.planned l n x is).0 (own_here config v l n x is ready g).1 (g.bars.clear l n x is ready) g

-- its row is the tree's
pub row_here : (config : Config) (v : View) (l n : ℕ) (x : BatchCall) → v.phase l ≡ Plans n x → x.denied ≡ false → Good config v → row_at (v.rows n) x.last ≡ row_at (now v) x.last
row_here config v l n x is ready g = let here = own_here config v l n x is ready g in read_row config v n x.last (g.plans.planned l n x is).0 here.0 here.1 (g.bars.clear l n x is ready) g

-- what came of it is what the tree says of the call
finished_here : (config : Config) (v : View) (l n : ℕ) (x : BatchCall) (reply : Reply) (ch : Change) → v.phase l ≡ Plans n x → x.denied ≡ false → IsOutcome v l n x reply ch → Good config v
    → IsFinished (now v) (v.call l).cred (v.call l).op (number_after n (v.drawn n)) x.last reply ch
finished_here config v l n x reply ch is ready outcome g =
    let plan = planned_here config v l n x false is ready g in
    let at = plan.1.1 in
    let row = row_here config v l n x is ready g in
    subst (IsExecuted (now v) (v.call l).cred (v.call l).op (number_after n (v.drawn n)) x.last) outcome
    (in_trees (row_at (v.rows n) x.last) x.parent (v.call l).cred (v.call l).op (number_after n (v.drawn n)) (now v) plan.0 at.0.0 at.0.1.0 x.last plan.1.0 at.0.1.1 row (sym at.0.1.2))

-- a call that makes no commit now has its answer now
unmade_right : (config : Config) (v : View) (l n : ℕ) (x : BatchCall) (reply : Reply) → v.phase l ≡ Plans n x → reply ≡ answer (now v) (v.call l).cred (v.call l).op → is_names reply ≡ false → makes (now v) (v.call l).cred (v.call l).op ≡ false
    → Good config v → IsRight v.commits (v.seq l) (v.call l) (v.since l) l (length v.commits) reply
unmade_right config v l n x reply is answered plain unmade g = record {
  tree = planned_tree config v l n x is g;
  plain = plain;
  from = g.script.calls.past l;
  to = omega arith;
  served = answered;
  made = λ making. absurd (true≢false (sym making ∙ unmade));
  only = λ i c there by. absurd (g.lanes.uncommitted l i c (subst IsUnanswered (sym is) tt) there by);
}

-- what comes of a planned call, by the node's rows, where it is passed on
abbrev pub IsHandedOn : View → ℕ → ℕ → BatchCall → Type 0
IsHandedOn v l n x = outcome_of (row_at (v.rows n) x.last) x.parent (v.call l).cred (v.call l).op (number_after n (v.drawn n)) ≡ out.PassOn

-- or where it opens its directory
abbrev pub IsOpening : View → ℕ → ℕ → BatchCall → ℕ → Type 0
IsOpening v l n x dir = outcome_of (row_at (v.rows n) x.last) x.parent (v.call l).cred (v.call l).op (number_after n (v.drawn n)) ≡ out.Opened dir

-- a planned call is done, or passed on, or opens a directory
pub outcome_there : (config : Config) (v : View) (l n : ℕ) (x : BatchCall) → v.phase l ≡ Plans n x → Good config v
    → ((reply : Reply) × ((ch : Change) × IsOutcome v l n x reply ch)) ⊎ (IsHandedOn v l n x ⊎ ((dir : ℕ) × IsOpening v l n x dir))
outcome_there config v l n x is g = outcome_ends (row_at (v.rows n) x.last) x.parent (v.call l).cred (v.call l).op (number_after n (v.drawn n))

-- a call that is denied, and one that changes nothing, are answered now
pub denied_right : (config : Config) (v : View) (l n : ℕ) (x : BatchCall) → v.phase l ≡ Plans n x → x.denied ≡ true → Good config v
    → IsRight v.commits (v.seq l) (v.call l) (v.since l) l (length v.commits) (Fail Eacces)
denied_right config v l n x is denied g =
    let plan = planned_here config v l n x true is denied g in
    unmade_right config v l n x (Fail Eacces) is (sym (stopped_answer (now v) (v.call l).cred (v.call l).op plan.0 Eacces plan.1.0 plan.1.1.0)) refl (stopped_makes (now v) (v.call l).cred (v.call l).op plan.0 Eacces plan.1.0 plan.1.1.0) g

pub kept_right : (config : Config) (v : View) (l n : ℕ) (x : BatchCall) (reply : Reply) → v.phase l ≡ Plans n x → x.denied ≡ false → IsOutcome v l n x reply change.Keep → Good config v
    → IsRight v.commits (v.seq l) (v.call l) (v.since l) l (length v.commits) reply
kept_right config v l n x reply is ready outcome g =
    let done = finished_here config v l n x reply change.Keep is ready outcome g in
    unmade_right config v l n x reply is done.answered (finished_plain (now v) (v.call l).cred (v.call l).op (number_after n (v.drawn n)) x.last reply change.Keep done) done.part g

-- ---- a commit

part_made : (cred : Cred) (call : Op) (t : Tree) (fresh : ℕ) (key : Key) (ch : Change) → ch ≢ change.Keep → IsRowPart t cred call fresh key ch → (makes t cred call ≡ true) × (tree.change t cred call fresh ≡ rows_after t key ch)
part_made cred call t fresh key change.Keep changes part = absurd (changes refl)
part_made cred call t fresh key (change.Put inode) changes part = part
part_made cred call t fresh key change.Remove changes part = part

module _ (v : View) (l n : ℕ) (x : BatchCall) (reply : Reply) where
  takes_none : IsOutcome v l n x reply change.Remove → is_making (v.call l).op ≡ false
  takes_none outcome = remove_makes_none (row_at (v.rows n) x.last) x.parent (v.call l).cred (v.call l).op (number_after n (v.drawn n)) reply outcome

  ino_is : (ch : Change) → ch ≢ change.Keep → IsOutcome v l n x reply ch → ino_of (v.call l).op (number_after n (v.drawn n)) ch ≡ noted_number (v.call l).op (number_after n (v.drawn n))
  ino_is change.Keep changes outcome = absurd (changes refl)
  ino_is (change.Put inode) changes outcome = refl
  ino_is change.Remove changes outcome = sym (noted_none (v.call l).op (number_after n (v.drawn n)) (takes_none outcome))

  draws_is : (ch : Change) → ch ≢ change.Keep → IsOutcome v l n x reply ch → drawn_by (v.call l).op ch ≡ draws (v.call l).op
  draws_is change.Keep changes outcome = absurd (changes refl)
  draws_is (change.Put inode) changes outcome = refl
  draws_is change.Remove changes outcome = sym (ap (λ b. cond b 1 0) (takes_none outcome))

-- the numbers that were drawn differ
module _ (drawn : ℕ → ℕ) (n : ℕ) (below : n < 256) where
  apart_numbers : (d m e : ℕ) → m < 256 → number_after m e ≡ number_after n d → (m ≡ n) × (e ≡ d)
  apart_numbers d m e small same = omega arith

  new_number : (commits : List Commit) → ((i : ℕ) (c : Commit) → slice_get commits i ≡ Some c → IsDrawn drawn c.ino) → IsNewNumber commits (number_after n (drawn n))
  new_number commits numbers = record {
    not_root = omega arith;
    some = omega arith;
    unused = λ i c there same. ⊎_elim
        (λ none. let other : 0 ≡ number_after n (drawn n) = sym none ∙ same in omega arith)
        (λ old.
        let one = apart_numbers (drawn n) old.0 old.1.0 old.1.1 (sym old.1.3 ∙ same) in
        let less = old.1.2 in
        let as_many = ap drawn one.0 in
        let d = one.1 in
        omega arith)
        (numbers i c there);
  }

  drawn_more : (count ino : ℕ) → IsDrawn drawn ino → IsDrawn (put drawn n (drawn n + count)) ino
  drawn_more count ino is = ⊎_elim
      (λ none. inl none)
      (λ old. inr (old.0, (old.1.0, old.1.1, put_all (λ m z. old.1.0 < drawn m → old.1.0 < z) drawn n (drawn n + count) (λ less. omega arith) (λ m _ less. less) old.0 old.1.2, old.1.3)))
      is

  -- the number of a new row, or none
  drawn_now : (making : Bool) → IsDrawn (put drawn n (drawn n + cond making 1 0)) (cond making (number_after n (drawn n)) 0)
  drawn_now true = inr (n, (drawn n, below, subst (λ z. drawn n < z) (sym (put_same drawn n (drawn n + 1))) (omega arith), refl))
  drawn_now false = inl refl

draws_few : (call : Op) → draws call ≤ 1
draws_few call = elim (is_making call) as (λ b. cond b 1 0 ≤ 1) [ true ↦ omega arith | false ↦ omega arith ]

module _ (config : Config) (v : View) (l n : ℕ) (x : BatchCall) (reply : Reply) (ch : Change) (is : v.phase l ≡ Plans n x) (ready : x.denied ≡ false) (outcome : IsOutcome v l n x reply ch) (changes : ch ≢ change.Keep)
    (below : n < 256) (g : Good config v) where
  abbrev call : CallRec
  call = v.call l

  abbrev fresh : ℕ
  fresh = number_after n (v.drawn n)

  abbrev added : Commit
  added = commit_by v l n ch

  abbrev grown : List Commit
  grown = v.commits ++ added ∷ []

  abbrev drawn_after : ℕ → ℕ
  drawn_after = put v.drawn n (v.drawn n + drawn_by call.op ch)

  made : (makes (now v) call.cred call.op ≡ true) × (tree.change (now v) call.cred call.op fresh ≡ rows_after (now v) x.last ch)
  made = part_made call.cred call.op (now v) fresh x.last ch changes (finished_here config v l n x reply ch is ready outcome g).part

  -- the tree changes as the row does
  tree_after : tree_now grown ≡ rows_after (now v) x.last ch
  tree_after =
      tree_now_snoc v.commits added ∙ ap (tree.change (now v) call.cred call.op) (ino_is v l n x reply ch changes outcome) ∙ change_noted (now v) call.cred call.op fresh ∙ made.1

  -- where the row changes, the tree has no directory
  off_dir : is_directory (row_at (now v) x.last) ≡ false
  off_dir =
      ap is_directory (sym (row_here config v l n x is ready g))
      ∙ outcome_off_dirs (row_at (v.rows n) x.last) x.parent call.cred call.op fresh reply ch outcome changes

  changed : IsChangedAt (now v) (tree_now grown) x.last
  changed = subst (λ t. IsChangedAt (now v) t x.last) (sym tree_after) (changed_at (now v) x.last ch changes off_dir)

  above : 0 < v.seq l
  above = positive g.lanes l (under_way v l n x is)

  -- the call's own answer
  right_now : IsRight grown (v.seq l) call (v.since l) l (length v.commits) reply
  right_now =
      let same : tree_at grown (length v.commits) ≡ now v = tree_at_front v.commits (added ∷ []) (length v.commits) (omega arith) in
      let done = finished_here config v l n x reply ch is ready outcome g in
      let more = longer v.commits added in
      record {
        tree = planned_tree config v l n x is g;
        plain = finished_plain (now v) call.cred call.op fresh x.last reply ch done;
        from = g.script.calls.past l;
        to = omega arith;
        served = done.answered ∙ ap (λ t. answer t call.cred call.op) (sym same);
        made = λ _. (omega arith, (added, slice_get_end v.commits added, (refl, refl)));
        only = λ i c there by. ⊎_elim
            (λ y. absurd (g.lanes.uncommitted l i c (subst IsUnanswered (sym is) tt) y by))
            (λ y. (y.0, ap (λ t. makes t call.cred call.op) same ∙ made.0))
            (slice_get_snoc v.commits added i c there);
      }

  number_now : is_making call.op ≡ true → IsNewNumber v.commits added.ino
  number_now making =
      subst (IsNewNumber v.commits) (sym (ino_is v l n x reply ch changes outcome ∙ noted_made call.op fresh making)) (new_number v.drawn n below v.commits g.script.commits.numbers)

  no_number : is_making call.op ≢ true → added.ino ≡ 0
  no_number not_making = ino_is v l n x reply ch changes outcome ∙ noted_none call.op fresh (not_true (is_making call.op) not_making)

  commits_now : Commits grown v.seq drawn_after
  commits_now =
      let more = longer v.commits added in
      let drawing = draws_is v l n x reply ch changes outcome in
      let few = draws_few call.op in
      record {
        older = λ i c there. ⊎_elim (λ y. g.script.commits.older i c y) (λ y. subst (λ (z : Commit). z.seq ≤ v.seq z.lane) y.1 (omega arith)) (slice_get_snoc v.commits added i c there);
        legal = legal_snoc v.commits added g.script.commits.legal made.0 number_now no_number;
        numbers = λ i c there. ⊎_elim
            (λ y. drawn_more v.drawn n below (drawn_by call.op ch) c.ino (g.script.commits.numbers i c y))
            (λ y. subst (λ (z : Commit). IsDrawn drawn_after z.ino) y.1
            (subst (IsDrawn drawn_after) (sym (ino_is v l n x reply ch changes outcome))
            (subst (λ count. IsDrawn (put v.drawn n (v.drawn n + count)) (noted_number call.op fresh)) (sym drawing) (drawn_now v.drawn n below (is_making call.op)))))
            (slice_get_snoc v.commits added i c there);
        few = λ a. put_all (λ m d. v.drawn m ≤ length v.commits → d ≤ length grown) v.drawn n (v.drawn n + drawn_by call.op ch) (λ past. omega arith) (λ m _ past. omega arith) a (g.script.commits.few a);
      }

  -- a directory stays: where the row changes, there is none
  kept : IsChanged (now v) (tree_now grown) (λ q. Unit {0})
  kept = record { others = λ q _ dir. changed.others q (λ same. let wrong : true ≡ false = sym dir ∙ ap (λ k. is_directory (row_at (now v) k)) same ∙ changed.no_dir in absurd (cc)) }

  -- a key that its owner has shut is another one
  untouched : IsUntouched v.map.table (now v) (tree_now grown) v.op.operation v.op.shut
  untouched keys key among shut = changed.others key (λ same.
      let here = own_here config v l n x is ready g in
      here.1 (subst (λ s. IsShut s x.last) (sym (ap v.op.shut (sym here.0 ∙ ap (owner v.map.table) (sym same)) ∙ shut)) (subst (λ k. is_among k keys ≡ true) same among)))

  -- the directory of the last key is another one than one whose key is shut here
  not_under : (dir : ℕ) (locked : Key) → IsShut (v.op.shut n) locked → IsSomeAnd (row_at (now v) locked) (λ (r : Inode). r.ino ≡ dir) → x.last.parent ≡ dir → ⊥
  not_under dir locked shut is_dir under =
      let r = some_of (row_at (now v) locked) (λ (r : Inode). r.ino ≡ dir) is_dir in
      let plan = planned_here config v l n x false is ready g in
      by_parent plan.1.1.0.0 r.0 r.1.0 (under ∙ sym r.1.1) plan.0 plan.1.1.1 plan.1.1.0.1.0 plan.1.1.0.1.1
    where
      by_parent : (d : Option Inode) (r : Inode) → row_at (now v) locked ≡ Some r → x.last.parent ≡ r.ino → (names : List (List ℕ)) → All (IsCrossed (v.op.crossed l)) (way (now v) call.cred names) → (passed : List ℕ)
          → walk (now v) call.cred names ≡ Ready d passed x.last → ⊥
      by_parent None r row same names all passed ready = numbers_some v.commits g.script.commits.legal locked r row (sym (no_parent (now v) call.cred names passed x.last ready) ∙ same)
      by_parent (Some dir) r row same names all passed ready =
          let among = under_number (now v) call.cred names dir passed x.last locked r (numbers_differ v.commits g.script.commits.legal) ready row same in
          g.clear.ways l n locked (subst (IsCrossing n) (sym is) refl) (all_among (IsCrossed (v.op.crossed l)) (way (now v) call.cred names) locked all among) shut

  under_at : (work : Work) → v.op.work ≡ work → IsUnder (now v) (tree_now grown) work
  under_at Rests same = tt
  under_at (Walks lane) same = tt
  under_at (Locks lane keys walks missing rows) same = tt
  under_at (Counts lane keys walks missing rows dir updates sum) same = λ key under.
      let dirs = subst (HasDirs (now v)) same g.operation.dirs in
      let stands = subst (λ w. Stands v.map.table v.op.operation w n (v.op.shut n) (v.op.queued n) (v.op.last n) (v.op.due n)) same (g.operation.stands n (g.plans.planned l n x is).0) in
      changed.others key (λ last. not_under dir dirs.0 (subst (λ s. IsShut s dirs.0) (sym stands.1.0) dirs.1) dirs.2 (ap (λ (k : Key). k.parent) (sym last) ∙ under))
  under_at (Blocks lane name rule left came) same = tt
  under_at (Lands name rule old left) same = tt
  under_at (Ends keys updates missing) same = tt

  under : IsUnder (now v) (tree_now grown) v.op.work
  under = under_at v.op.work refl

-- a call that changes its row is a commit, and is answered at the point of that commit
pub committed_good : (config : Config) (v : View) (l n : ℕ) (x : BatchCall) (reply : Reply) (ch : Change) → v.phase l ≡ Plans n x → x.denied ≡ false → IsOutcome v l n x reply ch
    → ch ≢ change.Keep → n < 256 → Good config v
    → Good config (record v {
      rows = put v.rows n (rows_after (v.rows n) x.last ch);
      drawn = put v.drawn n (v.drawn n + drawn_by (v.call l).op ch);
      entries = v.entries ++ entry.Commit l (v.seq l) (ino_of (v.call l).op (number_after n (v.drawn n)) ch) ∷ [];
      commits = v.commits ++ commit_by v l n ch ∷ [];
      phase = put v.phase l (Tells (Replies (length v.commits) reply));
    })
committed_good config v l n x reply ch is ready outcome changes below g =
    let c = commit_by v l n ch in
    let k = length v.commits in
    let own = (own_here config v l n x is ready g).0 in
    let after = tree_after config v l n x reply ch is ready outcome changes below g in
    let at = kept config v l n x reply ch is ready outcome changes below g in
    let taken : IsTaken (v.phase l) = subst IsTaken (sym is) tt in
    let Safe = λ (q : Key). Unit {0} in
    record {
      ground = subst (λ r. Ground config.nodes v.map.table (put v.rows n r) v.op.due v.replica v.fetches (v.commits ++ c ∷ [])) (sym (rows_after_is (v.rows n) x.last ch changes))
          (ground_executed g.ground c Safe at n x.last (row_left ch) own (off_due config v l n x is ready g) (after ∙ rows_after_is (now v) x.last ch changes) (λ _ _ _ _. tt));
      clear = clear_put g.clear l (Tells (Replies k reply)) tt;
      asking = asking_committed g.asking c Safe at (λ _ _ _ _. tt) (λ _ _ _ _ _ _ _ _. tt) l k reply;
      plans = plans_committed g.plans c Safe at (λ _ _ _ _ _ _. tt) l k reply;
      lanes = lanes_committed g.lanes c l k reply refl (under_way v l n x is) (right_now config v l n x reply ch is ready outcome changes below g);
      script = script_committed g.script c l k reply refl refl refl refl (positive g.lanes l (under_way v l n x is)) (subst IsUnanswered (sym is) tt) (put v.drawn n (v.drawn n + drawn_by (v.call l).op ch)) (commits_now config v l n x reply ch is ready outcome changes below g);
      records = records_done g.records l (Replies k reply) taken;
      operation = operation_executed g.operation c l k reply (λ runs. absurd (cc)) g.ground.lives at (untouched config v l n x reply ch is ready outcome changes below g) (under config v l n x reply ch is ready outcome changes below g);
      bars = subst (λ r. Bars config.nodes v.map.table v.map.tables v.map.barred (put v.rows n r) v.op.due v.op.queued v.op.last v.op.operation v.op.work v.posts (v.commits ++ c ∷ []) (put v.phase l (Tells (Replies k reply)))) (sym (rows_after_is (v.rows n) x.last ch changes))
          (bars_put (bars_executed g.bars c n x.last (row_left ch) (g.plans.planned l n x is).0 own (g.bars.clear l n x is ready) (after ∙ rows_after_is (now v) x.last ch changes)) l (Tells (Replies k reply)) tt);
      knowing = knowing_put g.knowing l (Tells (Replies k reply)) (λ e. absurd (under_way v l n x is e)) (subst Untold (sym is) tt) tt;
      listings = listings_committed
          (listings_noted (listings_put g.listings l (Tells (Replies k reply)) (λ e. absurd (under_way v l n x is e)) (subst IsUnlisted (sym is) tt) tt) (entry.Commit l (v.seq l) (ino_of (v.call l).op (number_after n (v.drawn n)) ch)) g.script.joined
          (λ m s i names same. cc))
          c;
    }
