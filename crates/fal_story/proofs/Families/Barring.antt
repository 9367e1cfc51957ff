-- The family of a place under each kind of change, and its own steps.
use Rattle.std.proofs.Common.{◌≡◌, ◌≢◌, ◌⊎◌, inl, inr, ⊎_elim, ℕ, ◌<◌, ◌≤◌, ◌+◌, false, List, [], ◌∷◌, ◌++◌, Option, None, refl, sym, ap, ◌∙◌, subst, arith}
use Rattle.fal_base.specs.declared.event.Actor.{Actor}
use Rattle.fal_base.specs.declared.inode.Inode.{Inode}
use Rattle.fal_base.specs.declared.key.Key.{Key}
use Rattle.fal_base.specs.declared.row.NamedRow.{NamedRow}
use Rattle.fal_base.specs.declared.row.Update.{Update}
use Rattle.fal_base.specs.declared.rule.Rule.{Rule}
use Rattle.fal_base.specs.Commits.{Commit}
use Rattle.fal_base.specs.Tree.{Tree, row_at}
use Rattle.fal_run.specs.declared.call.BatchCall.{BatchCall}
use Rattle.fal_place.specs.Placement.{Placement, owner}
use Rattle.fal_wire.specs.declared.message.Message.{Message}
use Rattle.fal_wire.specs.declared.message.Message.TheVariants as message
use Rattle.fal_base.specs.Updates.{laid_at}
use Rattle.fal_base.proofs.Updates.{laid_cases}
use Rattle.fal_story.proofs.Lists.Grown.{from_put, put_all, put_four}
use Rattle.fal_story.proofs.View.{posted_more, Post, post, Work, Rests, Blocks, Lands}
use Rattle.fal_story.proofs.Trees.Standing.{tree_now}
use Rattle.fal_story.specs.World.{put}
use Rattle.fal_story.proofs.Families.Bars.{IsBarred, Bar, IsGrown, AreNamed, AreCame, BlocksName, ToldBlocked, ToldInstall, ToldInstalled, IsToldBar, Bars}
use Rattle.fal_story.proofs.Families.Operation.{IsMissing, LocksKeys}
use Rattle.fal_story.proofs.Families.OperationEnds.{IsReady}
use Rattle.fal_story.proofs.Phase.{Phase, Plans, IsBare}

-- the operation is no place, or there is none
abbrev pub IsPlain : Work → Type 0
IsPlain (Blocks lane name rule missing came) = ⊥
IsPlain (Lands name rule old missing) = ⊥
IsPlain other = Unit {0}

-- there is one, which is no place
abbrev pub IsLocking : Work → Type 0
IsLocking Rests = ⊥
IsLocking (Blocks lane name rule missing came) = ⊥
IsLocking (Lands name rule old missing) = ⊥
IsLocking other = Unit {0}

pub locking_plain : (work : Work) → IsLocking work → IsPlain work
locking_plain Rests is = tt
locking_plain (Blocks lane name rule missing came) is = is
locking_plain (Lands name rule old missing) is = is
locking_plain other is = tt

bar_plain : (table : Placement) (operation n : ℕ) (work : Work) (own : Placement) (barred : Option (ℕ × List ℕ)) (queued : Option Message) (last : ℕ) (due : List Update) → IsPlain work
    → Bar table operation work n own barred queued last due → (own ≡ table) × (barred ≡ None)
bar_plain table operation n (Blocks lane name rule missing came) own barred queued last due plain bar = absurd plain
bar_plain table operation n (Lands name rule old missing) own barred queued last due plain bar = absurd plain
bar_plain table operation n other own barred queued last due plain bar = bar

plain_bar : (table : Placement) (operation n : ℕ) (work : Work) (own : Placement) (barred : Option (ℕ × List ℕ)) (queued : Option Message) (last : ℕ) (due : List Update) → IsPlain work
    → (own ≡ table) × (barred ≡ None) → Bar table operation work n own barred queued last due
plain_bar table operation n (Blocks lane name rule missing came) own barred queued last due plain bar = absurd plain
plain_bar table operation n (Lands name rule old missing) own barred queued last due plain bar = absurd plain
plain_bar table operation n other own barred queued last due plain bar = bar

plain_grown : (table : Placement) (work : Work) → IsPlain work → IsGrown table work
plain_grown table (Blocks lane name rule missing came) plain = tt
plain_grown table (Lands name rule old missing) plain = absurd plain
plain_grown table other plain = tt

plain_named : (due : ℕ → List Update) (work : Work) → IsPlain work → AreNamed due work
plain_named due (Blocks lane name rule missing came) plain = absurd plain
plain_named due (Lands name rule old missing) plain = absurd plain
plain_named due other plain = tt

plain_came : (table : Placement) (tree : Tree) (work : Work) → IsPlain work → AreCame table tree work
plain_came table tree (Blocks lane name rule missing came) plain = absurd plain
plain_came table tree (Lands name rule old missing) plain = tt
plain_came table tree other plain = tt

-- ---- what was told, when an operation on keys goes on

no_name : (work : Work) (name : List ℕ) → IsPlain work → BlocksName work name → ⊥
no_name (Blocks lane name rule missing came) asked plain is = plain
no_name (Lands name rule old missing) asked plain is = plain
no_name other asked plain is = is

no_blocked : (operation : ℕ) (work : Work) (barred : Option (ℕ × List ℕ)) (due : List Update) (rows : List NamedRow) → IsLocking work → ToldBlocked operation work barred due rows → ⊥
no_blocked operation Rests barred due rows is told = is
no_blocked operation (Blocks lane name rule missing came) barred due rows is told = is
no_blocked operation (Lands name rule old missing) barred due rows is told = is
no_blocked operation other barred due rows is told = told

no_install : (table : Placement) (work : Work) (barred : Option (ℕ × List ℕ)) (due : List Update) (version : ℕ) (rule : Rule) (rows : List NamedRow) → IsLocking work → ToldInstall table work barred due version rule rows → ⊥
no_install table Rests barred due version rule rows is told = is
no_install table (Blocks lane name rule' missing came) barred due version rule rows is told = is
no_install table (Lands name rule' old missing) barred due version rule rows is told = is
no_install table other barred due version rule rows is told = told

no_installed : (work : Work) (barred : Option (ℕ × List ℕ)) → IsLocking work → ToldInstalled work barred → ⊥
no_installed Rests barred is told = is
no_installed (Blocks lane name rule missing came) barred is told = is
no_installed (Lands name rule old missing) barred is told = is
no_installed other barred is told = told

module _ (nodes : ℕ) (table : Placement) (operation : ℕ) (work work' : Work) (barred : ℕ → Option (ℕ × List ℕ)) (due due' : ℕ → List Update) (last last' : ℕ → ℕ) (later : (n : ℕ) → last n ≤ last' n) where
  told_locking : IsLocking work → (to : Actor) (m : Message) → IsToldBar nodes table operation work barred due last to m → IsToldBar nodes table operation work' barred due' last' to m
  told_locking is to (message.Block o name) told = (told.0, told.1, told.2, inl (⊎_elim (λ x. let more = later told.0 in omega arith) (λ x. absurd (no_name work name (locking_plain work is) x.1)) told.3))
  told_locking is to (message.Blocked o n rows) told = (told.0, λ same. absurd (no_blocked operation work (barred n) (due n) rows is (told.1 same)))
  told_locking is to (message.Install o version rule rows) told = (told.0, told.1, told.2, told.3, λ same. absurd (no_install table work (barred told.0) (due told.0) version rule rows is (told.4 same)))
  told_locking is to (message.Installed o n) told = (told.0, λ same. absurd (no_installed work (barred n) is (told.1 same)))
  told_locking is to other told = tt

  pub told_started : IsPlain work → (to : Actor) (m : Message) → IsToldBar nodes table operation work barred due last to m → IsToldBar nodes table (operation + 1) work' barred due' last' to m
  told_started is to (message.Block o name) told = (told.0, told.1, told.2, inl (⊎_elim (λ x. let more = later told.0 in omega arith) (λ x. absurd (no_name work name is x.1)) told.3))
  told_started is to (message.Blocked o n rows) told = let past = told.0 in (omega arith, λ same. absurd (omega arith))
  told_started is to (message.Install o version rule rows) told = let past = told.3 in (told.0, told.1, told.2, omega arith, λ same. absurd (omega arith))
  told_started is to (message.Installed o n) told = let past = told.0 in (omega arith, λ same. absurd (omega arith))
  told_started is to other told = tt

pub below_or : (n nodes : ℕ) → (n < nodes) ⊎ (nodes ≤ n)
below_or n nodes = grind arith

pub put_three : {A B C : Type 0} (P : ℕ → A → B → C → Type 0) (f : ℕ → A) (g : ℕ → B) (h : ℕ → C) (n : ℕ) (x : A) (y : B) (z : C) → P n x y z → ((m : ℕ) → m ≢ n → P m (f m) (g m) (h m)) → (m : ℕ) → P m (put f n x m) (put g n y m) (put h n z m)
put_three P f g h n x y z here there m = put_four (λ m a b c d. P m a b c) f g h h n x y z z here there m

module _ {nodes : ℕ} {table : Placement} {tables : ℕ → Placement} {barred : ℕ → Option (ℕ × List ℕ)} {rows : ℕ → Tree} {due : ℕ → List Update} {queued : ℕ → Option Message} {last : ℕ → ℕ} {operation : ℕ} {work : Work}
    {posts : List Post} {commits : List Commit} {phase : ℕ → Phase} (g : Bars nodes table tables barred rows due queued last operation work posts commits phase) where
  pub at_work : (w : Work) → work ≡ w → Bars nodes table tables barred rows due queued last operation w posts commits phase
  at_work w same = subst (λ z. Bars nodes table tables barred rows due queued last operation z posts commits phase) same g

  -- calls move, none to a plan of which the name is barred
  pub bars_moved : (phase' : ℕ → Phase) → ((l n : ℕ) (x : BatchCall) → phase' l ≡ Plans n x → (phase l ≡ Plans n x) ⊎ (x.denied ≡ false → IsBarred (barred n) x.last.name → ⊥))
      → Bars nodes table tables barred rows due queued last operation work posts commits phase'
  bars_moved phase' moves = record {
    stands = g.stands;
    beyond = g.beyond;
    grown = g.grown;
    gone = g.gone;
    named = g.named;
    came = g.came;
    told = g.told;
    clear = λ l n x e ready is. ⊎_elim (λ same. g.clear l n x same ready is) (λ off. off ready is) (moves l n x e);
  }

  pub bars_put : (l : ℕ) (p : Phase) → IsBare p → Bars nodes table tables barred rows due queued last operation work posts commits (put phase l p)
  bars_put l p bare = bars_moved (put phase l p) (λ a n x e. ⊎_elim (λ y. absurd (subst IsBare y.1 bare)) (λ y. inl y.1) (from_put phase l p a _ e))

  -- one record more
  pub bars_posted : (to : Actor) (p : ℕ) (m : Message) → IsToldBar nodes table operation work barred due last to m → Bars nodes table tables barred rows due queued last operation work (posts ++ post to p m ∷ []) commits phase
  bars_posted to p m fine = record {
    stands = g.stands;
    beyond = g.beyond;
    grown = g.grown;
    gone = g.gone;
    named = g.named;
    came = g.came;
    clear = g.clear;
    told = λ e q other n h. ⊎_elim
        (λ x. g.told e q other n x)
        (λ x. subst (IsToldBar nodes table operation work barred due last other) x.2 (subst (λ z. IsToldBar nodes table operation work barred due last z m) x.0 fine))
        (posted_more posts to p m e other q n h);
  }

  -- there is no place: then nothing is barred
  pub plain_open : IsPlain work → (n : ℕ) → barred n ≡ None
  plain_open plain n = ⊎_elim (λ below. (bar_plain table operation n work (tables n) (barred n) (queued n) (last n) (due n) plain (g.stands n below)).1) (λ past. g.beyond n past) (below_or n nodes)

  bars_plain : (rows' : ℕ → Tree) (due' : ℕ → List Update) (queued' : ℕ → Option Message) (last' : ℕ → ℕ) (operation' : ℕ) (work' : Work) (commits' : List Commit) → IsPlain work → IsPlain work'
      → ((to : Actor) (m : Message) → IsToldBar nodes table operation work barred due last to m → IsToldBar nodes table operation' work' barred due' last' to m)
      → Bars nodes table tables barred rows' due' queued' last' operation' work' posts commits' phase
  bars_plain rows' due' queued' last' operation' work' commits' plain plain' told = record {
    stands = λ n below. plain_bar table operation' n work' (tables n) (barred n) (queued' n) (last' n) (due' n) plain' (bar_plain table operation n work (tables n) (barred n) (queued n) (last n) (due n) plain (g.stands n below));
    beyond = g.beyond;
    grown = plain_grown table work' plain';
    gone = λ n key is. absurd (subst (λ b. IsBarred b key.name) (plain_open plain n) is);
    named = plain_named due' work' plain';
    came = plain_came table (tree_now commits') work' plain';
    told = λ e p to m posted. told to m (g.told e p to m posted);
    clear = g.clear;
  }

  -- an operation on keys goes on, or ends
  pub bars_locks : (rows' : ℕ → Tree) (due' : ℕ → List Update) (queued' : ℕ → Option Message) (last' : ℕ → ℕ) (work' : Work) (commits' : List Commit) → IsLocking work → IsPlain work' → ((n : ℕ) → last n ≤ last' n)
      → Bars nodes table tables barred rows' due' queued' last' operation work' posts commits' phase
  bars_locks rows' due' queued' last' work' commits' locking plain' later =
      bars_plain rows' due' queued' last' operation work' commits' (locking_plain work locking) plain' (told_locking nodes table operation work work' barred due due' last last' later locking)

  -- one starts
  pub bars_started : (work' : Work) → IsPlain work → IsPlain work' → Bars nodes table tables barred rows due queued last (operation + 1) work' posts commits phase
  bars_started work' plain plain' = bars_plain rows due queued last (operation + 1) work' commits plain plain' (told_started nodes table operation work work' barred due due last last (λ n. omega arith) plain)

  pub bars_stage : (work' : Work) → IsLocking work → IsPlain work' → Bars nodes table tables barred rows due queued last operation work' posts commits phase
  bars_stage work' locking plain' = bars_locks rows due queued last work' commits locking plain' (λ n. omega arith)

  -- a node changes a row of its own, under a name that it has not barred, as the tree changes
  pub bars_executed : (c : Commit) (n : ℕ) (key : Key) (row : Option Inode) → n < nodes → owner table key ≡ n → (IsBarred (barred n) key.name → ⊥) → tree_now (commits ++ c ∷ []) ≡ laid_at (tree_now commits) key row
      → Bars nodes table tables barred (put rows n (laid_at (rows n) key row)) due queued last operation work posts (commits ++ c ∷ []) phase
  bars_executed c n key row below own open' after = record {
    stands = g.stands;
    beyond = g.beyond;
    grown = g.grown;
    named = g.named;
    told = g.told;
    clear = g.clear;
    gone = put_all (λ m r. (q : Key) → IsBarred (barred m) q.name → row_at r q ≡ None) rows n (laid_at (rows n) key row)
        (λ q is. ⊎_elim (λ x. absurd (open' (subst (λ (k : Key). IsBarred (barred n) k.name) x.0 is))) (λ x. x.1 ∙ g.gone n q is) (laid_cases (rows n) key q row))
        (λ m _. g.gone m);
    came = came_on work refl;
  }
    where
      still : (lane : ℕ) (name : List ℕ) (rule : Rule) (missing : List ℕ) (came : List Update) → work ≡ Blocks lane name rule missing came → (q : Key) → q.name ≡ name → (IsMissing (owner table q) missing → ⊥)
          → row_at (tree_now (commits ++ c ∷ [])) q ≡ row_at (tree_now commits) q
      still lane name rule missing came is q named heard = ap (λ t. row_at t q) after ∙ ⊎_elim
          (λ x.
          let here : owner table q ≡ n = ap (owner table) x.0 ∙ own in
          let stands = subst (λ w. Bar table operation w n (tables n) (barred n) (queued n) (last n) (due n)) is (g.stands n below) in
          absurd (⊎_elim (λ y. heard (subst (λ m. IsMissing m missing) (sym here) y.0)) (λ y. open' (subst (λ b. IsBarred b key.name) (sym y.0) (sym named ∙ ap (λ (k : Key). k.name) x.0))) stands.1))
          (λ x. x.1)
          (laid_cases (tree_now commits) key q row)

      came_on : (w : Work) → work ≡ w → AreCame table (tree_now (commits ++ c ∷ [])) w
      came_on (Blocks lane name rule missing came) is =
          let h = subst (AreCame table (tree_now commits)) is g.came in
          (h.0, λ q named. ⊎_elim (λ y. inl y) (λ y. inr (y.0, y.1 ∙ sym (still lane name rule missing came is q named y.0))) (h.1 q named))
      came_on (Lands name rule old missing) is = tt
      came_on other is = tt

-- stages in which there is an operation on keys
pub keys_locking : (work : Work) (keys : List Key) → LocksKeys work keys → IsLocking work
keys_locking Rests keys is = is
keys_locking (Blocks lane name rule missing came) keys is = is
keys_locking (Lands name rule old missing) keys is = is
keys_locking other keys is = tt

pub ready_locking : (work : Work) (l : ℕ) (keys : List Key) → IsReady work l keys → IsLocking work
ready_locking Rests l keys is = is
ready_locking (Blocks lane name rule missing came) l keys is = is
ready_locking (Lands name rule old missing) l keys is = is
ready_locking other l keys is = tt

pub is_locking : {work w : Work} → work ≡ w → IsLocking w → IsLocking work
is_locking same is = subst IsLocking (sym same) is
