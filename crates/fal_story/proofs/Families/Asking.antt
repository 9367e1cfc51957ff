-- What nodes ask for and what is found for them.
use Rattle.std.proofs.Common.{◌≡◌, ◌≢◌, ◌⊎◌, inl, ⊎_elim, ℕ, ◌+◌, ◌<◌, ◌≤◌, true, false, List, [], ◌∷◌, ◌++◌, length, Option, Some, None, IsSomeAnd, refl, sym, ap, ◌∙◌, subst, arith}
use Rattle.std.specs.List.{All}
use Rattle.std.specs.Prelude.{slice_get}
use Rattle.std.proofs.lemmas.List.Elements.{All-weaker}
use Rattle.fal_base.specs.declared.call.CallRec.{CallRec}
use Rattle.fal_base.specs.declared.event.Actor.{Actor}
use Rattle.fal_base.specs.declared.event.Actor.TheVariants.{Node}
use Rattle.fal_base.specs.declared.key.Key.{Key}
use Rattle.fal_base.specs.declared.reply.Reply.{Reply}
use Rattle.fal_base.specs.Commits.{Commit, tree_at}
use Rattle.fal_base.specs.Tree.{Tree, row_at}
use Rattle.fal_dentry.specs.Walk.{is_among}
use Rattle.fal_duty.specs.Duties.{found_of}
use Rattle.fal_place.specs.Placement.{Placement, owner}
use Rattle.fal_wire.specs.declared.message.Found.{Found}
use Rattle.fal_wire.specs.declared.message.Found.TheVariants as found
use Rattle.fal_wire.specs.declared.message.Message.{Message}
use Rattle.fal_wire.specs.declared.message.Message.TheVariants as message
use Rattle.fal_story.proofs.Lists.Grown.{from_put, put_all, put_both, slice_get_snoc}
use Rattle.fal_story.proofs.Phase.{Phase, Waits, Tells, Replies, IsBare}
use Rattle.fal_story.proofs.Trees.Changed.{IsChanged, dir_kept}
use Rattle.fal_story.proofs.Trees.Commits.{longer, tree_at_front}
use Rattle.fal_story.proofs.Trees.Paths.{ways_to, paths_kept}
use Rattle.fal_story.proofs.Trees.Standing.{HasDir, Reaches, call_paths, tree_now}
use Rattle.fal_story.proofs.View.{posted_more, Post, Asking, IsPosted, post}
use Rattle.fal_base.specs.declared.inode.Dentry.{Dentry}
use Rattle.fal_base.specs.declared.inode.Inode.{Inode}
use Rattle.fal_base.specs.declared.inode.Kind.{Kind}
use Rattle.fal_base.specs.declared.inode.Kind.TheVariants.{Dir, File}
use Rattle.fal_base.specs.Walk.{is_dir, dentry_of}
use Rattle.fal_story.specs.World.{put}

-- a directory that was found for a pending fetch stands there now
abbrev pub FoundDirs : (ℕ → List Asking) → List Post → List Commit → Type 0
FoundDirs fetches posts commits =
    (e n p j : ℕ) (f : Asking) (dentry : Dentry) → slice_get (fetches n) j ≡ Some f → IsPosted posts e (Node n) p (message.FetchGot f.number f.key (found.Dir dentry))
    → HasDir (tree_now commits) f.key dentry

-- what was found was there at its point
abbrev pub Founds : List Post → List Commit → Type 0
Founds posts commits =
    (e n p number : ℕ) (key : Key) (what : Found) → IsPosted posts e (Node n) p (message.FetchGot number key what)
    → (p ≤ length commits) × (what ≡ found_of (row_at (tree_at commits p) key))

-- a question goes to a node, and before the first placement to the one that owns the key
abbrev pub GoesTo : ℕ → Placement → Actor → Key → Type 0
GoesTo nodes table to key = (n : ℕ) × (to ≡ Node n) × (n < nodes) × (table.version ≡ 0 → n ≡ owner table key)

abbrev pub Owners : ℕ → Placement → List Post → Type 0
Owners nodes table posts = (e p n number : ℕ) (to : Actor) (key : Key) → IsPosted posts e to p (message.FetchAsk n number key) → GoesTo nodes table to key

abbrev pub IsCrossed : List Key → Key → Type 0
IsCrossed crossed key = is_among key crossed ≡ true

-- the way of the call up to the key is among these keys
abbrev pub Crosses : Tree → CallRec → Key → List Key → Type 0
Crosses tree call key crossed = All (IsCrossed crossed) (ways_to tree call.cred (call_paths call.op) key)

-- a fetch was opened after o commits: not before a call that waits on it was sent; from then on the walk of each of them has come to the key; and each answer is younger
pub record IsOpened (commits : List Commit) (posts : List Post) (call : ℕ → CallRec) (since : ℕ → ℕ) (phase : ℕ → Phase) (crossed : ℕ → List Key) (n : ℕ) (f : Asking) (o : ℕ) : Type 0 where
  pub past : o ≤ length commits
  pub later : (e p : ℕ) (key : Key) (what : Found) → IsPosted posts e (Node n) p (message.FetchGot f.number key what) → (key ≡ f.key) × (o ≤ p)
  pub asks : (e p : ℕ) (to : Actor) (key : Key) → IsPosted posts e to p (message.FetchAsk n f.number key) → key ≡ f.key
  pub waiters : (l : ℕ) → phase l ≡ Waits n (Some f.number)
      → (since l ≤ o) × ((k : ℕ) → o ≤ k → k ≤ length commits → Reaches (tree_at commits k) (call l) f.key) × Crosses (tree_now commits) (call l) f.key (crossed l)

abbrev pub IsPending : (ℕ → ℕ) → List Commit → List Post → (ℕ → CallRec) → (ℕ → ℕ) → (ℕ → Phase) → (ℕ → List Key) → ℕ → Asking → Type 0
IsPending opened commits posts call since phase crossed n f = (f.number < opened n) × ((o : ℕ) × IsOpened commits posts call since phase crossed n f o)

abbrev pub WaitsDrawn : (ℕ → Phase) → (ℕ → ℕ) → Type 0
WaitsDrawn phase opened = (l n number : ℕ) → phase l ≡ Waits n (Some number) → number < opened n

-- numbers of fetches were drawn; who asks is a node or the coordinator
pub record Numbers (nodes : ℕ) (posts : List Post) (opened : ℕ → ℕ) : Type 0 where
  pub got : (e n p number : ℕ) (key : Key) (what : Found) → IsPosted posts e (Node n) p (message.FetchGot number key what) → number < opened n
  pub ask : (e p : ℕ) (to : Actor) (n number : ℕ) (key : Key) → IsPosted posts e to p (message.FetchAsk n number key) → ((n < nodes) ⊎ (n ≡ 255)) × (number < opened n)

pub record Askings (nodes : ℕ) (table : Placement) (pending : ℕ → List Asking) (opened : ℕ → ℕ) (posts : List Post) (commits : List Commit) (call : ℕ → CallRec) (since : ℕ → ℕ) (phase : ℕ → Phase) (crossed : ℕ → List Key) : Type 0 where
  pub found_dirs : FoundDirs pending posts commits
  pub founds : Founds posts commits
  pub fetches : (n j : ℕ) (f : Asking) → slice_get (pending n) j ≡ Some f → IsPending opened commits posts call since phase crossed n f
  pub numbers : Numbers nodes posts opened
  pub waits_drawn : WaitsDrawn phase opened
  pub owners : Owners nodes table posts

-- ---- what has to hold of a record when it is sent

-- a pending fetch of this number is for this key
abbrev pub IsForKey : (ℕ → List Asking) → ℕ → ℕ → Key → Type 0
IsForKey pending n number key = (j : ℕ) (f : Asking) → slice_get (pending n) j ≡ Some f → f.number ≡ number → key ≡ f.key

abbrev pub FineAsking : ℕ → Placement → (ℕ → List Asking) → (ℕ → ℕ) → List Commit → Actor → ℕ → Message → Type 0
FineAsking nodes table pending opened commits to p (message.FetchAsk n number key) = ((n < nodes) ⊎ (n ≡ 255)) × (number < opened n) × GoesTo nodes table to key × IsForKey pending n number key
FineAsking nodes table pending opened commits to p (message.FetchGot number key what) =
    (n : ℕ) × (to ≡ Node n) × (p ≡ length commits) × (what ≡ found_of (row_at (tree_now commits) key)) × (number < opened n) × IsForKey pending n number key
FineAsking nodes table pending opened commits to p other = Unit {0}

-- what holds of an answer to a fetch
pub record IsGot (pending : ℕ → List Asking) (opened : ℕ → ℕ) (commits : List Commit) (n p number : ℕ) (key : Key) (what : Found) : Type 0 where
  pub point : p ≡ length commits
  pub is : what ≡ found_of (row_at (tree_now commits) key)
  pub drawn : number < opened n
  pub key_of : IsForKey pending n number key

module _ (nodes : ℕ) (table : Placement) (pending : ℕ → List Asking) (opened : ℕ → ℕ) (commits : List Commit) where
  fine_at : (to other : Actor) (p q : ℕ) (m n : Message) → FineAsking nodes table pending opened commits to p m → (to ≡ other) × (p ≡ q) × (m ≡ n) → FineAsking nodes table pending opened commits other q n
  fine_at to other p q m n fine same =
      subst (FineAsking nodes table pending opened commits other q) same.2
      (subst (λ z. FineAsking nodes table pending opened commits other z m) same.1 (subst (λ z. FineAsking nodes table pending opened commits z p m) same.0 fine))

  fine_got : (n p number : ℕ) (key : Key) (what : Found) → FineAsking nodes table pending opened commits (Node n) p (message.FetchGot number key what) → IsGot pending opened commits n p number key what
  fine_got n p number key what fine =
      let same = sym (same_node n fine.0 fine.1) in
      record { point = fine.2; is = fine.3; drawn = subst (λ i. number < opened i) same fine.4; key_of = subst (λ i. IsForKey pending i number key) same fine.5 }
    where
      same_node : (a b : ℕ) → Node a ≡ Node b → a ≡ b
      same_node a b e = cc

-- ---- one commit more

pub weaker : {X : Type 0} (o : Option X) (P Q : X → Type 0) → ((x : X) → P x → Q x) → IsSomeAnd o P → IsSomeAnd o Q
weaker None P Q f p = p
weaker (Some x) P Q f p = f x p

last_or : (k n m : ℕ) → m ≡ n + 1 → k ≤ m → (k ≤ n) ⊎ (k ≡ m)
last_or k n m one to = grind arith

module _ (t u : Tree) (Safe : Key → Type 0) (changed : IsChanged t u Safe) (call : CallRec) (q : Key) (crossed : List Key) (safe : (k : Key) → IsCrossed crossed k → Safe k) where
  both_kept : Reaches t call q → Crosses t call q crossed → Reaches u call q × (ways_to u call.cred (call_paths call.op) q ≡ ways_to t call.cred (call_paths call.op) q)
  both_kept reaches crosses =
      paths_kept t u Safe call.cred changed q (call_paths call.op) (All-weaker (IsCrossed crossed) Safe safe (ways_to t call.cred (call_paths call.op) q) crosses) reaches

  reaches_kept : Reaches t call q → Crosses t call q crossed → Reaches u call q
  reaches_kept reaches crosses = (both_kept reaches crosses).0

  crosses_kept : Reaches t call q → Crosses t call q crossed → Crosses u call q crossed
  crosses_kept reaches crosses = subst (All (IsCrossed crossed)) (sym (both_kept reaches crosses).1) crosses

founds_kept : (commits : List Commit) (c : Commit) (posts : List Post) → Founds posts commits → Founds posts (commits ++ c ∷ [])
founds_kept commits c posts founds e n p number key what posted =
    let x = founds e n p number key what posted in
    let past = x.0 in
    let more = longer commits c in
    (omega arith, x.1 ∙ ap (λ t. found_of (row_at t key)) (sym (tree_at_front commits (c ∷ []) p past)))

-- a directory that was found stands there
found_dir : (row : Option Inode) (dentry : Dentry) → found.Dir dentry ≡ found_of row → IsSomeAnd row (λ dir. (is_dir dir ≡ true) × (dentry_of dir ≡ dentry))
found_dir None dentry e = absurd (cc)
found_dir (Some dir) dentry e = of_kind dir.kind refl e
  where
    of_kind : (kind : Kind) → dir.kind ≡ kind → found.Dir dentry ≡ elim kind [ Dir ↦ found.Dir (dentry_of dir) | File ↦ found.File ] → (is_dir dir ≡ true) × (dentry_of dir ≡ dentry)
    of_kind Dir k e = (ap (λ (z : Kind). elim z [ Dir ↦ true | File ↦ false ]) k, cc)
    of_kind File k e = absurd (cc)

module _ {nodes : ℕ} {table : Placement} {fetches : ℕ → List Asking} {opened : ℕ → ℕ} {posts : List Post} {commits : List Commit} {call : ℕ → CallRec} {since : ℕ → ℕ} {phase : ℕ → Phase} {crossed : ℕ → List Key}
    (g : Askings nodes table fetches opened posts commits call since phase crossed) where
  module _ (c : Commit) (Safe : Key → Type 0) (changed : IsChanged (tree_now commits) (tree_now (commits ++ c ∷ [])) Safe)
      (safe_key : (n j : ℕ) (f : Asking) → slice_get (fetches n) j ≡ Some f → Safe f.key)
      (safe_way : (n j : ℕ) (f : Asking) → slice_get (fetches n) j ≡ Some f → (l : ℕ) → phase l ≡ Waits n (Some f.number) → (k : Key) → IsCrossed (crossed l) k → Safe k) where
    abbrev more : List Commit
    more = commits ++ c ∷ []

    reached_on : (a : ℕ) (q : Key) (o : ℕ) → ((k : Key) → IsCrossed (crossed a) k → Safe k) → o ≤ length commits → Crosses (tree_now commits) (call a) q (crossed a)
        → ((k : ℕ) → o ≤ k → k ≤ length commits → Reaches (tree_at commits k) (call a) q) → (k : ℕ) → o ≤ k → k ≤ length more → Reaches (tree_at more k) (call a) q
    reached_on a q o safe past crosses reaches k from to = ⊎_elim
        (λ h. subst (λ t. Reaches t (call a) q) (sym (tree_at_front commits (c ∷ []) k h)) (reaches k from h))
        (λ h. subst (λ z. Reaches (tree_at more z) (call a) q) (sym h)
        (reaches_kept (tree_now commits) (tree_now more) Safe changed (call a) q (crossed a) safe (reaches (length commits) past (omega arith)) crosses))
        (last_or k (length commits) (length more) (longer commits c) to)

    opened_kept : (l k : ℕ) (reply : Reply) (n j : ℕ) (f : Asking) (o : ℕ) → slice_get (fetches n) j ≡ Some f → IsOpened commits posts call since phase crossed n f o
        → IsOpened more posts call since (put phase l (Tells (Replies k reply))) crossed n f o
    opened_kept l k reply n j f o at x = record {
      past = let a = x.past in let b = longer commits c in omega arith;
      later = x.later;
      asks = x.asks;
      waiters = λ a e. ⊎_elim
          (λ y. absurd (cc))
          (λ y. let z = x.waiters a y.1 in let safe = safe_way n j f at a y.1 in (
            z.0,
            reached_on a f.key o safe x.past z.2 z.1,
            crosses_kept (tree_now commits) (tree_now more) Safe changed (call a) f.key (crossed a) safe (z.1 (length commits) x.past (omega arith)) z.2,
          ))
          (from_put phase l (Tells (Replies k reply)) a _ e);
    }

    -- a call makes its commit, and is done
    pub asking_committed : (l k : ℕ) (reply : Reply) → Askings nodes table fetches opened posts more call since (put phase l (Tells (Replies k reply))) crossed
    asking_committed l k reply = record {
      found_dirs = λ e n p j f dentry at posted. dir_kept (tree_now commits) (tree_now more) Safe f.key dentry changed (safe_key n j f at) (g.found_dirs e n p j f dentry at posted);
      founds = founds_kept commits c posts g.founds;
      fetches = λ n j f at. let z = g.fetches n j f at in (z.0, (z.1.0, opened_kept l k reply n j f z.1.0 at z.1.1));
      numbers = g.numbers;
      waits_drawn = λ a n number e. ⊎_elim (λ y. absurd (cc)) (λ y. g.waits_drawn a n number y.1) (from_put phase l (Tells (Replies k reply)) a _ e);
      owners = g.owners;
    }

  -- calls move, none to a fetch that is pending
  pub asking_moved : (phase' : ℕ → Phase) (crossed' : ℕ → List Key)
      → ((l n number : ℕ) → phase' l ≡ Waits n (Some number)
      → (number < opened n) × (((phase l ≡ Waits n (Some number)) × (crossed l ≡ crossed' l)) ⊎ ((j : ℕ) (f : Asking) → slice_get (fetches n) j ≡ Some f → f.number ≢ number)))
      → Askings nodes table fetches opened posts commits call since phase' crossed'
  asking_moved phase' crossed' moves = record {
    found_dirs = g.found_dirs;
    founds = g.founds;
    fetches = λ n j f at. let z = g.fetches n j f at in let x = z.1.1 in (
      z.0,
      (
        z.1.0,
        record {
          past = x.past;
          later = x.later;
          asks = x.asks;
          waiters = λ l e. ⊎_elim
              (λ same. let y = x.waiters l same.0 in (y.0, y.1, subst (λ keys. Crosses (tree_now commits) (call l) f.key keys) same.1 y.2))
              (λ none. absurd (none j f at refl))
              (moves l n f.number e).1;
        },
      ),
    );
    numbers = g.numbers;
    waits_drawn = λ l n number e. (moves l n number e).0;
    owners = g.owners;
  }

  -- one record more
  pub asking_posted : (to : Actor) (p : ℕ) (m : Message) → FineAsking nodes table fetches opened commits to p m → Askings nodes table fetches opened (posts ++ post to p m ∷ []) commits call since phase crossed
  asking_posted to p m fine =
      let more = λ (e : ℕ) (other : Actor) (q : ℕ) (n : Message) (h : IsPosted (posts ++ post to p m ∷ []) e other q n). posted_more posts to p m e other q n h in
      let same = λ (other : Actor) (q : ℕ) (n : Message) (s : (to ≡ other) × (p ≡ q) × (m ≡ n)). fine_at nodes table fetches opened commits to other p q m n fine s in
      let got = λ (n q number : ℕ) (key : Key) (what : Found) (s : (to ≡ Node n) × (p ≡ q) × (m ≡ message.FetchGot number key what)).
      fine_got nodes table fetches opened commits n q number key what (same (Node n) q (message.FetchGot number key what) s) in
      let ask = λ (other : Actor) (n q number : ℕ) (key : Key) (s : (to ≡ other) × (p ≡ q) × (m ≡ message.FetchAsk n number key)).
      same other q (message.FetchAsk n number key) s in
      record {
        found_dirs = λ e n q j f dentry at h. ⊎_elim
            (λ x. g.found_dirs e n q j f dentry at x)
            (λ x. found_dir (row_at (tree_now commits) f.key) dentry (got n q f.number f.key (found.Dir dentry) x).is)
            (more e (Node n) q (message.FetchGot f.number f.key (found.Dir dentry)) h);
        founds = λ e n q number key what h. ⊎_elim
            (λ x. g.founds e n q number key what x)
            (λ x.
            let is = got n q number key what x in
            let now_point = is.point in
            (omega arith, subst (λ z. what ≡ found_of (row_at (tree_at commits z) key)) (sym is.point) is.is))
            (more e (Node n) q (message.FetchGot number key what) h);
        fetches = λ n j f at. let was = g.fetches n j f at in let o = was.1.1 in (
          was.0,
          (
            was.1.0,
            record {
              past = o.past;
              later = λ e q key what h. ⊎_elim
                  (λ x. o.later e q key what x)
                  (λ x. let is = got n q f.number key what x in let point = is.point in let past = o.past in (is.key_of j f at refl, omega arith))
                  (more e (Node n) q (message.FetchGot f.number key what) h);
              asks = λ e q other key h. ⊎_elim (λ x. o.asks e q other key x) (λ x. (ask other n q f.number key x).3 j f at refl) (more e other q (message.FetchAsk n f.number key) h);
              waiters = o.waiters;
            },
          ),
        );
        numbers = record {
          got = λ e n q number key what h. ⊎_elim (λ x. g.numbers.got e n q number key what x) (λ x. (got n q number key what x).drawn) (more e (Node n) q (message.FetchGot number key what) h);
          ask = λ e q other n number key h. ⊎_elim (λ x. g.numbers.ask e q other n number key x) (λ x. let is = ask other n q number key x in (is.0, is.1)) (more e other q (message.FetchAsk n number key) h);
        };
        waits_drawn = g.waits_drawn;
        owners = λ e q n number other key h. ⊎_elim (λ x. g.owners e q n number other key x) (λ x. (ask other n q number key x).2) (more e other q (message.FetchAsk n number key) h);
      }

  -- a call moves to a place that rests on nothing
  pub asking_put : (l : ℕ) (p : Phase) → IsBare p → Askings nodes table fetches opened posts commits call since (put phase l p) crossed
  asking_put l p bare = asking_moved (put phase l p) crossed (λ a n number e. ⊎_elim
      (λ y. absurd (subst IsBare y.1 bare))
      (λ y. (g.waits_drawn a n number y.1, inl (y.1, refl)))
      (from_put phase l p a _ e))

  -- some fetches are no longer pending
  pub asking_closed : (n : ℕ) (fs : List Asking) → ((j : ℕ) (f : Asking) → slice_get fs j ≡ Some f → (i : ℕ) × (slice_get (fetches n) i ≡ Some f))
      → Askings nodes table (put fetches n fs) opened posts commits call since phase crossed
  asking_closed n fs among = record {
    found_dirs = λ e m p j f dentry.
        put_all (λ m l. slice_get l j ≡ Some f → IsPosted posts e (Node m) p (message.FetchGot f.number f.key (found.Dir dentry)) → HasDir (tree_now commits) f.key dentry) fetches n fs
        (λ at. g.found_dirs e n p (among j f at).0 f dentry (among j f at).1)
        (λ m _. g.found_dirs e m p j f dentry)
        m;
    founds = g.founds;
    fetches = put_all (λ m l. (j : ℕ) (f : Asking) → slice_get l j ≡ Some f → IsPending opened commits posts call since phase crossed m f) fetches n fs
        (λ j f at. g.fetches n (among j f at).0 f (among j f at).1)
        (λ m _. g.fetches m);
    numbers = g.numbers;
    waits_drawn = g.waits_drawn;
    owners = g.owners;
  }

  -- more numbers of fetches are drawn
  opened_more : (n count m number : ℕ) → opened n ≤ count → number < opened m → number < put opened n count m
  opened_more n count m number more = put_all (λ m d. number < opened m → number < d) opened n count (λ h. omega arith) (λ m _ h. h) m

  pub asking_raised : (n count : ℕ) → opened n ≤ count → Askings nodes table fetches (put opened n count) posts commits call since phase crossed
  asking_raised n count more = record {
    found_dirs = g.found_dirs;
    founds = g.founds;
    fetches = λ m j f at. (opened_more n count m f.number more (g.fetches m j f at).0, (g.fetches m j f at).1);
    numbers = record {
      got = λ e m p number key what h. opened_more n count m number more (g.numbers.got e m p number key what h);
      ask = λ e p to m number key h. let x = g.numbers.ask e p to m number key h in (x.0, opened_more n count m number more x.1);
    };
    waits_drawn = λ l m number e. opened_more n count m number more (g.waits_drawn l m number e);
    owners = g.owners;
  }

  -- a fetch is pending whose number nothing had; the walks of its waiters come to its key now, by keys that they have crossed
  pub asking_pended : (n : ℕ) (f : Asking) → f.number < opened n → ((l : ℕ) → since l ≤ length commits)
      → ((e p : ℕ) (key : Key) (what : Found) → IsPosted posts e (Node n) p (message.FetchGot f.number key what) → ⊥)
      → ((e p : ℕ) (to : Actor) (key : Key) → IsPosted posts e to p (message.FetchAsk n f.number key) → ⊥)
      → ((l : ℕ) → phase l ≡ Waits n (Some f.number) → Reaches (tree_now commits) (call l) f.key × Crosses (tree_now commits) (call l) f.key (crossed l))
      → Askings nodes table (put fetches n (fetches n ++ f ∷ [])) opened posts commits call since phase crossed
  asking_pended n f below since_past no_got no_ask reach =
      let new : IsOpened commits posts call since phase crossed n f (length commits) = record {
        past = omega arith;
        later = λ e p key what h. absurd (no_got e p key what h);
        asks = λ e p to key h. absurd (no_ask e p to key h);
        waiters = λ l e. let is = reach l e in (since_past l, (λ k from to. let at : length commits ≡ k = omega arith in subst (λ i. Reaches (tree_at commits i) (call l) f.key) at is.0), is.1);
      } in
      record {
        found_dirs = λ e m p j h dentry.
            put_all (λ m l. slice_get l j ≡ Some h → IsPosted posts e (Node m) p (message.FetchGot h.number h.key (found.Dir dentry)) → HasDir (tree_now commits) h.key dentry) fetches n (fetches n ++ f ∷ [])
            (λ at came. ⊎_elim
            (λ x. g.found_dirs e n p j h dentry x came)
            (λ x. absurd (no_got e p h.key (found.Dir dentry) (subst (λ (z : Asking). IsPosted posts e (Node n) p (message.FetchGot z.number h.key (found.Dir dentry))) (sym x.1) came)))
            (slice_get_snoc (fetches n) f j h at))
            (λ m _. g.found_dirs e m p j h dentry)
            m;
        founds = g.founds;
        fetches = put_all (λ m l. (j : ℕ) (h : Asking) → slice_get l j ≡ Some h → IsPending opened commits posts call since phase crossed m h) fetches n (fetches n ++ f ∷ [])
            (λ j h at. ⊎_elim (λ x. g.fetches n j h x) (λ x. subst (IsPending opened commits posts call since phase crossed n) x.1 (below, (length commits, new))) (slice_get_snoc (fetches n) f j h at))
            (λ m _. g.fetches m);
        numbers = g.numbers;
        waits_drawn = g.waits_drawn;
        owners = g.owners;
      }

  -- a lane has another call, which waits on nothing
  pub asking_called : (since' : ℕ → ℕ) (l : ℕ) (c : CallRec) (p : Phase) → ((a : ℕ) → a ≢ l → since' a ≡ since a) → IsBare p → Askings nodes table fetches opened posts commits (put call l c) since' (put phase l p) crossed
  asking_called since' l c p same bare = record {
    found_dirs = g.found_dirs;
    founds = g.founds;
    fetches = λ n j f at. let z = g.fetches n j f at in let x = z.1.1 in (
      z.0,
      (
        z.1.0,
        record {
          past = x.past;
          later = x.later;
          asks = x.asks;
          waiters = put_both
              (λ a d q. q ≡ Waits n (Some f.number) → (since' a ≤ z.1.0) × ((k : ℕ) → z.1.0 ≤ k → k ≤ length commits → Reaches (tree_at commits k) d f.key) × Crosses (tree_now commits) d f.key (crossed a))
              call phase l c p
              (λ w. absurd (subst IsBare w bare))
              (λ a ne w. let y = x.waiters a w in (subst (λ i. i ≤ z.1.0) (sym (same a ne)) y.0, y.1, y.2));
        },
      ),
    );
    numbers = g.numbers;
    waits_drawn = λ a n number e. ⊎_elim (λ y. absurd (subst IsBare y.1 bare)) (λ y. g.waits_drawn a n number y.1) (from_put phase l p a _ e);
    owners = g.owners;
  }

  -- the next table, which is not the first
  pub asking_retabled : (table' : Placement) → table'.version ≢ 0 → Askings nodes table' fetches opened posts commits call since phase crossed
  asking_retabled table' later = record {
    found_dirs = g.found_dirs;
    founds = g.founds;
    fetches = g.fetches;
    numbers = g.numbers;
    waits_drawn = g.waits_drawn;
    owners = λ e p n number to key posted. let x = g.owners e p n number to key posted in (x.0, x.1, x.2, λ none. absurd (later none));
  }
