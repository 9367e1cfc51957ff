-- A linear transcript has one order in which one plain tree serves it.
use Rattle.std.proofs.Common.{◌≡◌, ℕ, zero, suc, ◌+◌, true, false, not, ◌&&◌, ◌||◌, cond, List, [], ◌∷◌, ◌++◌, length, take, Some, None, Option, nat_eq, refl, sym, ap, ◌∙◌, subst, append_assoc, append-nil, true≢false, length-append}
use Rattle.std.specs.Prelude.{slice_get}
use Rattle.std.proofs.lemmas.Bool.{and_parts, or_parts, not-true, eqb-true, eq-eqb}
use Rattle.std.proofs.lemmas.Option.{same_Some}
use Rattle.std.proofs.Math.Seq.{take-append_seam}
use Rattle.fal_base.specs.declared.call.Call.{Call}
use Rattle.fal_base.specs.declared.call.Config.{Config}
use Rattle.fal_base.specs.declared.call.Cred.{Cred}
use Rattle.fal_base.specs.declared.entry.Entry.{Entry}
use Rattle.fal_base.specs.declared.entry.Entry.TheVariants as entry
use Rattle.fal_base.specs.declared.op.Op.{Op}
use Rattle.fal_base.specs.declared.op.Op.TheVariants as op
use Rattle.fal_base.specs.declared.path.PathArg.TheVariants.{Good}
use Rattle.fal_base.specs.declared.reply.Reply.{Reply}
use Rattle.fal_base.specs.declared.reply.Reply.TheVariants as reply
use Rattle.fal_base.specs.Answer.{answer}
use Rattle.fal_base.specs.Change.{makes, change}
use Rattle.fal_base.specs.Commits.{Commit, tree_after, tree_at, AreLegalFrom}
use Rattle.fal_base.specs.History.{Item, Reads, Makes, has_commit, reads_item, reads_at, history_from, history, IsServed}
use Rattle.fal_base.specs.Linear.{IsBy, IsLinear}
use Rattle.fal_base.specs.Listing.{AreListings}
use Rattle.fal_base.specs.Transcript.{call_of, commit_by, commits_of, is_names, is_place}
use Rattle.fal_base.specs.Tree.{Tree, tree0}

-- a commit of the call is found
pub commit_found : (commits : List Commit) (lane seq i : ℕ) (commit : Commit) → slice_get commits i ≡ Some commit → IsBy lane seq commit → has_commit commits lane seq ≡ true
commit_found [] lane seq i commit e by = absurd (cc)
commit_found (first ∷ commits) lane seq zero commit e by =
    let same : first ≡ commit = same_Some first commit e in
    ap (λ b. cond b true (has_commit commits lane seq))
    (ap (λ b. b && nat_eq first.seq seq) (eq-eqb first.lane lane (ap (λ (c : Commit). c.lane) same ∙ by.0)) ∙ eq-eqb first.seq seq (ap (λ (c : Commit). c.seq) same ∙ by.1))
commit_found (first ∷ commits) lane seq (suc i) commit e by =
    elim (nat_eq first.lane lane && nat_eq first.seq seq) as (λ b. cond b true (has_commit commits lane seq) ≡ true) [ true ↦ refl | false ↦ commit_found commits lane seq i commit e by ]

tree_after_append : (tree : Tree) (commits more : List Commit) → tree_after tree (commits ++ more) ≡ tree_after (tree_after tree commits) more
tree_after_append tree [] more = refl
tree_after_append tree (c ∷ commits) more = tree_after_append (change tree c.cred c.op c.ino) commits more

-- the tree at the point where these commits end
tree_before : (commits before rest : List Commit) → commits ≡ before ++ rest → tree_at commits (length before) ≡ tree_after tree0 before
tree_before commits before rest e = ap (λ c. tree_at c (length before)) e ∙ ap (tree_after tree0) (take-append_seam before rest)

at_middle : {A : Type 0} (xs : List A) (y : A) (ys : List A) → slice_get (xs ++ y ∷ ys) (length xs) ≡ Some y
at_middle [] y ys = refl
at_middle (x ∷ xs) y ys = at_middle xs y ys

-- each commit is made in the tree before it
legal_at : (tree : Tree) (earlier : List ℕ) (commits : List Commit) → AreLegalFrom tree earlier commits → (k : ℕ) (commit : Commit) → slice_get commits k ≡ Some commit
    → makes (tree_after tree (take k commits)) commit.cred commit.op ≡ true
legal_at tree earlier [] legal k commit e = absurd (cc)
legal_at tree earlier (first ∷ commits) legal zero commit e = subst (λ (c : Commit). makes tree c.cred c.op ≡ true) (same_Some first commit e) legal.0
legal_at tree earlier (first ∷ commits) legal (suc k) commit e = legal_at (change tree first.cred first.op first.ino) (first.ino ∷ earlier) commits legal.2 k commit e

-- the call of a commit
abbrev pub IsCallOf : Config → Commit → Type 0
IsCallOf config commit = (call : Call) × (call_of config commit.lane commit.seq ≡ Some call) × (commit.cred ≡ call.cred) × (commit.op ≡ call.op)

first_call : (config : Config) (lane seq ino : ℕ) (call : Call) (commits : List Commit) (commit : Commit) → ((k : ℕ) → slice_get commits k ≡ Some commit → IsCallOf config commit) → (k : ℕ) → call_of config lane seq ≡ Some call
    → slice_get (commit_by (Some call) lane seq ino ++ commits) k ≡ Some commit → IsCallOf config commit
first_call config lane seq ino call commits commit more zero named e = subst (IsCallOf config) (same_Some _ commit e) (call, named, refl, refl)
first_call config lane seq ino call commits commit more (suc k) named e = more k e

pub commit_call : (config : Config) (entries : List Entry) (k : ℕ) (commit : Commit) → slice_get (commits_of config entries) k ≡ Some commit → IsCallOf config commit
commit_call config [] k commit e = absurd (cc)
commit_call config (entry.Sent lane seq ∷ entries) k commit e = commit_call config entries k commit e
commit_call config (entry.Opened lane seq ino point ∷ entries) k commit e = commit_call config entries k commit e
commit_call config (entry.Placed lane seq version ∷ entries) k commit e = commit_call config entries k commit e
commit_call config (entry.Stale lane seq old new ∷ entries) k commit e = commit_call config entries k commit e
commit_call config (entry.Answered lane seq point answer ∷ entries) k commit e = commit_call config entries k commit e
commit_call config (entry.Commit lane seq ino ∷ entries) k commit e =
    let more = commit_call config entries in
    elim (call_of config lane seq) as (λ o. call_of config lane seq ≡ o → slice_get (commit_by o lane seq ino ++ commits_of config entries) k ≡ Some commit → IsCallOf config commit) [
      | None ↦ λ named at. more k commit at
      | Some call ↦ λ named at. first_call config lane seq ino call (commits_of config entries) commit (λ i. more i commit) k named at
    ] refl e

-- a change of placement makes no commit
no_place : (tree : Tree) (cred : Cred) (o : Op) → makes tree cred o ≡ true → is_place o ≡ false
no_place tree cred (op.Place name rule) made = absurd (cc)
no_place tree cred (op.Mkdir path mode) made = refl
no_place tree cred other made = refl

-- nor does a listing
no_list : (tree : Tree) (cred : Cred) (o : Op) (path : List (List ℕ)) → o ≡ op.List (Good path) → makes tree cred o ≡ true → ⊥
no_list tree cred o path same made = let wrong : false ≡ true = sym (ap (makes tree cred) same) ∙ made in cc

named_only : (config : Config) (entries : List Entry) → AreListings config entries → (j lane seq point : ℕ) (reply : Reply) (call : Call) → slice_get entries j ≡ Some (entry.Answered lane seq point reply)
    → call_of config lane seq ≡ Some call → (tree : Tree) → makes tree call.cred call.op ≡ true → is_names reply ≡ false
named_only config entries listings j lane seq point (reply.Names names) call e named tree made =
    let listing = listings j lane seq point names call e named in
    absurd (no_list tree call.cred call.op listing.path listing.lists made)
named_only config entries listings j lane seq point reply.Fine call e named tree made = refl
named_only config entries listings j lane seq point (reply.Fail errno) call e named tree made = refl
named_only config entries listings j lane seq point (reply.Stat inode) call e named tree made = refl

-- what the answered calls of one point say
abbrev AreRight : Config → List Commit → Tree → ℕ → List Entry → Type 0
AreRight config commits tree k entries =
    (j lane seq : ℕ) (reply : Reply) (call : Call) → slice_get entries j ≡ Some (entry.Answered lane seq k reply) → has_commit commits lane seq ≡ false → call_of config lane seq ≡ Some call
    → is_place call.op || is_names reply ≡ false → (reply ≡ answer tree call.cred call.op) × (makes tree call.cred call.op ≡ false)

one_served : (config : Config) (entries : List Entry) (tree : Tree) (lane seq : ℕ) (reply : Reply) (found : Option Call) (items : List Item)
    → ((call : Call) → found ≡ Some call → is_place call.op || is_names reply ≡ false → (reply ≡ answer tree call.cred call.op) × (makes tree call.cred call.op ≡ false))
    → IsServed entries tree items → IsServed entries tree (reads_item found lane seq reply ++ items)
one_served config entries tree lane seq reply None items right served = served
one_served config entries tree lane seq reply (Some call) items right served =
    elim (is_place call.op || is_names reply)
    as (λ b. is_place call.op || is_names reply ≡ b → IsServed entries tree (cond b [] (Reads lane seq call reply ∷ []) ++ items))
    [ true ↦ λ e. served | false ↦ λ e. let says = right call refl e in (says.0, says.1, served) ]
    refl

-- the calls that read at one point are served by its tree
reads_served : (config : Config) (commits : List Commit) (all : List Entry) (tree : Tree) (k : ℕ) (entries : List Entry) (items : List Item) → AreRight config commits tree k entries → IsServed all tree items
    → IsServed all tree (reads_at config commits k entries ++ items)
reads_served config commits all tree k [] items right served = served
reads_served config commits all tree k (entry.Sent lane seq ∷ entries) items right served = reads_served config commits all tree k entries items (λ j. right (suc j)) served
reads_served config commits all tree k (entry.Commit lane seq ino ∷ entries) items right served = reads_served config commits all tree k entries items (λ j. right (suc j)) served
reads_served config commits all tree k (entry.Opened lane seq ino point ∷ entries) items right served = reads_served config commits all tree k entries items (λ j. right (suc j)) served
reads_served config commits all tree k (entry.Placed lane seq version ∷ entries) items right served = reads_served config commits all tree k entries items (λ j. right (suc j)) served
reads_served config commits all tree k (entry.Stale lane seq old new ∷ entries) items right served = reads_served config commits all tree k entries items (λ j. right (suc j)) served
reads_served config commits all tree k (entry.Answered lane seq point reply ∷ entries) items right served =
    let more = reads_served config commits all tree k entries items (λ j. right (suc j)) served in
    let rest = reads_at config commits k entries in
    elim (nat_eq point k && not (has_commit commits lane seq))
    as (λ b. nat_eq point k && not (has_commit commits lane seq) ≡ b → IsServed all tree ((cond b (reads_item (call_of config lane seq) lane seq reply) [] ++ reads_at config commits k entries) ++ items)) [
      | false ↦ λ e. more
      | true ↦ λ e.
          let parts = and_parts _ _ e in
          subst (IsServed all tree) (sym (append_assoc (reads_item (call_of config lane seq) lane seq reply) rest items))
          (one_served config all tree lane seq reply (call_of config lane seq) (rest ++ items)
          (λ call named kind. right zero lane seq reply call (ap (λ p. Some (entry.Answered lane seq p reply)) (eqb-true point k parts.0)) (not-true _ parts.1) named kind) more)
    ] refl

-- what a call that reads at this point was answered
read_right : (config : Config) (entries : List Entry) → IsLinear config entries → (before rest : List Commit) → commits_of config entries ≡ before ++ rest
    → AreRight config (commits_of config entries) (tree_after tree0 before) (length before) entries
read_right config entries linear before rest e j lane seq reply call stands off named kind =
    let commits = commits_of config entries in
    let kinds = or_parts _ _ kind in
    let says = linear.answers j lane seq (length before) reply call stands named kinds.0 kinds.1 in
    let tree = tree_before commits before rest e in (
      says.served ∙ ap (λ t. answer t call.cred call.op) tree,
      elim (makes (tree_at commits (length before)) call.cred call.op)
          as (λ b. makes (tree_at commits (length before)) call.cred call.op ≡ b → makes (tree_after tree0 before) call.cred call.op ≡ false) [
            | true ↦ λ made. let own = (says.made made).1 in absurd (true≢false (sym (commit_found commits lane seq (length before) own.0 own.1 own.2) ∙ off))
            | false ↦ λ made. sym (ap (λ t. makes t call.cred call.op) tree) ∙ made
          ] refl,
    )

-- what the call of a commit was answered
made_right : (config : Config) (entries : List Entry) → IsLinear config entries → AreListings config entries → (k : ℕ) (commit : Commit) → slice_get (commits_of config entries) k ≡ Some commit
    → makes (tree_at (commits_of config entries) k) commit.cred commit.op ≡ true → (j point : ℕ) (reply : Reply) → slice_get entries j ≡ Some (entry.Answered commit.lane commit.seq point reply)
    → reply ≡ answer (tree_at (commits_of config entries) k) commit.cred commit.op
made_right config entries linear listings k commit stands made j point reply answered =
    let commits = commits_of config entries in
    let own = commit_call config entries k commit stands in
    let call = own.0 in
    let called : makes (tree_at commits k) call.cred call.op ≡ true = ap (λ c. makes (tree_at commits k) c call.op) (sym own.2) ∙ ap (makes (tree_at commits k) commit.cred) (sym own.3) ∙ made in
    let place = no_place (tree_at commits k) call.cred call.op called in
    let names = named_only config entries listings j commit.lane commit.seq point reply call answered own.1 (tree_at commits k) called in
    let says = linear.answers j commit.lane commit.seq point reply call answered own.1 place names in
    let here = (says.only k commit stands (refl, refl)).0 in
    says.served ∙ ap (λ q. answer (tree_at commits q) call.cred call.op) (sym here) ∙ ap (λ c. answer (tree_at commits k) c call.op) (sym own.2) ∙ ap (answer (tree_at commits k) commit.cred) (sym own.3)

-- from one point on
served_from : (config : Config) (entries : List Entry) → IsLinear config entries → AreListings config entries → (before rest : List Commit) → commits_of config entries ≡ before ++ rest
    → IsServed entries (tree_after tree0 before) (history_from config (commits_of config entries) entries (length before) rest)
served_from config entries linear listings before [] e =
    subst (IsServed entries (tree_after tree0 before)) (append-nil _)
    (reads_served config (commits_of config entries) entries (tree_after tree0 before) (length before) entries [] (read_right config entries linear before [] e) tt)
served_from config entries linear listings before (c ∷ rest) e =
    let commits = commits_of config entries in
    let k = length before in
    let tree = tree_before commits before (c ∷ rest) e in
    let stands : slice_get commits k ≡ Some c = ap (λ z. slice_get z k) e ∙ at_middle before c rest in
    let made = legal_at tree0 [] commits linear.legal k c stands in
    let longer : length (before ++ c ∷ []) ≡ k + 1 = length-append before (c ∷ []) in
    let next = served_from config entries linear listings (before ++ c ∷ []) rest (e ∙ sym (append_assoc before (c ∷ []) rest)) in
    let changed = tree_after_append tree0 before (c ∷ []) in
    reads_served config commits entries (tree_after tree0 before) k entries (Makes c ∷ history_from config commits entries (k + 1) rest) (read_right config entries linear before (c ∷ rest) e) (
      ap (λ t. makes t c.cred c.op) (sym tree) ∙ made,
      (λ j point reply answered. made_right config entries linear listings k c stands made j point reply answered ∙ ap (λ t. answer t c.cred c.op) tree),
      subst (λ t. IsServed entries t (history_from config commits entries (k + 1) rest)) changed
          (subst (λ q. IsServed entries (tree_after tree0 (before ++ c ∷ [])) (history_from config commits entries q rest)) longer next),
    )

pub linear_is_served : (config : Config) (entries : List Entry) → IsLinear config entries → AreListings config entries → IsServed entries tree0 (history config entries)
linear_is_served config entries linear listings = served_from config entries linear listings [] (commits_of config entries) refl
