-- Where a call was sent, where its commit stands and where it was answered.
use Rattle.std.proofs.Common.{◌≡◌, ⊎_elim, ℕ, zero, suc, ◌+◌, ◌<◌, Bool, true, false, cond, List, [], ◌∷◌, ◌++◌, take, count_by, IsSome, Some, None, Option, nat_eq, refl, sym, ap, ◌∙◌, subst, arith}
use Rattle.std.specs.Prelude.{slice_get}
use Rattle.std.proofs.lemmas.Bool.{cases_order, eq-eqb}
use Rattle.std.proofs.lemmas.Option.{same_Some}
use Rattle.fal_base.specs.declared.call.Call.{Call}
use Rattle.fal_base.specs.declared.call.Config.{Config}
use Rattle.fal_base.specs.declared.entry.Entry.{Entry}
use Rattle.fal_base.specs.declared.entry.Entry.TheVariants as entry
use Rattle.fal_base.specs.declared.reply.Reply.{Reply}
use Rattle.fal_base.specs.Commits.{Commit}
use Rattle.fal_base.specs.EachOnce.{IsOpen, IsEachOnce}
use Rattle.fal_base.specs.Transcript.{call_of, commit_by, commits_of, is_commit, at, sents}
use Rattle.fal_law.proofs.Counts.{count_cons, count_yes, count_no, count_past}

-- a call of this lane is sent here
is_sent : ℕ → Entry → Bool
is_sent lane (entry.Sent other seq) = nat_eq other lane
is_sent lane other = false

sents_count : (lane : ℕ) (entries : List Entry) → sents lane entries ≡ count_by (is_sent lane) entries
unfolding is_sent
sents_count lane [] = refl
sents_count lane (entry.Sent other seq ∷ entries) = ap (λ n. cond (nat_eq other lane) 1 0 + n) (sents_count lane entries) ∙ sym (count_cons (is_sent lane) (entry.Sent other seq) entries)
sents_count lane (other ∷ entries) = let more = sents_count lane entries in let one = count_cons (is_sent lane) other entries in omega (arith, more, one)

sent_counts : (lane seq : ℕ) → is_sent lane (entry.Sent lane seq) ≡ true
unfolding is_sent
sent_counts lane seq = eq-eqb lane lane refl

-- the number of a call that is sent at j
sent_seq : (config : Config) (entries : List Entry) → IsEachOnce config entries → (j lane seq : ℕ) → slice_get entries j ≡ Some (entry.Sent lane seq) → seq ≡ count_by (is_sent lane) (take j entries) + 1
sent_seq config entries once j lane seq e = (once.sent j lane seq e).0 ∙ ap (λ n. n + 1) (sents_count lane (take j entries))

-- a call is sent once
pub one_sent : (config : Config) (entries : List Entry) → IsEachOnce config entries → (i j lane seq : ℕ) → slice_get entries i ≡ Some (entry.Sent lane seq) → slice_get entries j ≡ Some (entry.Sent lane seq) → i ≡ j
one_sent config entries once i j lane seq e f =
    let first = sent_seq config entries once i lane seq e in
    let second = sent_seq config entries once j lane seq f in
    let counts = sent_counts lane seq in
    ⊎_elim (λ h. h)
    (⊎_elim
    (λ h. let past = count_past (is_sent lane) entries i j (entry.Sent lane seq) e counts h in absurd (omega (arith, first, second, past)))
    (λ h. let past = count_past (is_sent lane) entries j i (entry.Sent lane seq) f counts h in absurd (omega (arith, first, second, past))))
    (cases_order i j)

-- before each place at which it is open
pub sent_before : (config : Config) (entries : List Entry) → IsEachOnce config entries → (j c lane seq : ℕ) → slice_get entries j ≡ Some (entry.Sent lane seq) → IsOpen entries c lane seq → j < c
sent_before config entries once j c lane seq e open_at =
    subst (λ i. i < c) (one_sent config entries once open_at.place j lane seq open_at.sent e) open_at.before

-- a call is answered once, at one point
pub one_answer : (config : Config) (entries : List Entry) → IsEachOnce config entries → (i j lane seq point other : ℕ) (reply answer : Reply) → slice_get entries i ≡ Some (entry.Answered lane seq point reply)
    → slice_get entries j ≡ Some (entry.Answered lane seq other answer) → i ≡ j
one_answer config entries once i j lane seq point other reply answer e f =
    ⊎_elim (λ h. h)
    (⊎_elim
    (λ h. absurd ((once.answered j lane seq other answer f).0.unanswered i point reply h e))
    (λ h. absurd ((once.answered i lane seq point reply e).0.unanswered j other answer h f)))
    (cases_order i j)

-- an open call is one of the config's
pub open_called : (config : Config) (entries : List Entry) → IsEachOnce config entries → (j lane seq : ℕ) → IsOpen entries j lane seq → IsSome (call_of config lane seq)
open_called config entries once j lane seq open_at = (once.sent open_at.place lane seq open_at.sent).1

-- each commit that is recorded is of a call of the config
abbrev pub AreCalled : Config → List Entry → Type 0
AreCalled config entries = (j lane seq ino : ℕ) → slice_get entries j ≡ Some (entry.Commit lane seq ino) → IsSome (call_of config lane seq)

pub commits_called : (config : Config) (entries : List Entry) → IsEachOnce config entries → AreCalled config entries
commits_called config entries once j lane seq ino e = open_called config entries once j lane seq (once.committed j lane seq ino e).0

-- where the entry of commit k stands
pub record IsEntryOf (entries : List Entry) (k : ℕ) (commit : Commit) : Type 0 where
  pub place : ℕ
  pub stands : slice_get entries place ≡ Some (entry.Commit commit.lane commit.seq commit.ino)
  pub count : at entries place ≡ k

later_entry : (x : Entry) (entries : List Entry) (k : ℕ) (commit : Commit) → is_commit x ≡ false → IsEntryOf entries k commit → IsEntryOf (x ∷ entries) k commit
later_entry x entries k commit other found =
    let count = found.count in
    let one = count_no is_commit x (take found.place entries) other in
    record { place = suc found.place; stands = found.stands; count = omega (arith, count, one) }

next_entry : (x : Entry) (entries : List Entry) (k : ℕ) (commit : Commit) → is_commit x ≡ true → IsEntryOf entries k commit → IsEntryOf (x ∷ entries) (suc k) commit
next_entry x entries k commit counts found =
    let count = found.count in
    let one = count_yes is_commit x (take found.place entries) counts in
    record { place = suc found.place; stands = found.stands; count = omega (arith, count, one) }

first_entry : (lane seq ino : ℕ) (call : Call) (entries : List Entry) (commits : List Commit) (commit : Commit) → ((k : ℕ) → slice_get commits k ≡ Some commit → IsEntryOf entries k commit) → (k : ℕ)
    → slice_get (commit_by (Some call) lane seq ino ++ commits) k ≡ Some commit → IsEntryOf (entry.Commit lane seq ino ∷ entries) k commit
first_entry lane seq ino call entries commits commit more zero e =
    record { place = 0; stands = ap (λ (c : Commit). Some (entry.Commit c.lane c.seq c.ino)) (same_Some _ commit e); count = refl }
first_entry lane seq ino call entries commits commit more (suc k) e = next_entry (entry.Commit lane seq ino) entries k commit refl (more k e)

called_entry : (lane seq ino : ℕ) (found : Option Call) (entries : List Entry) (commits : List Commit) (commit : Commit) → IsSome found → ((k : ℕ) → slice_get commits k ≡ Some commit → IsEntryOf entries k commit) → (k : ℕ)
    → slice_get (commit_by found lane seq ino ++ commits) k ≡ Some commit → IsEntryOf (entry.Commit lane seq ino ∷ entries) k commit
called_entry lane seq ino None entries commits commit some more k e = absurd (cc)
called_entry lane seq ino (Some call) entries commits commit some more k e = first_entry lane seq ino call entries commits commit more k e

pub commit_entry : (config : Config) (entries : List Entry) → AreCalled config entries → (k : ℕ) (commit : Commit) → slice_get (commits_of config entries) k ≡ Some commit → IsEntryOf entries k commit
commit_entry config [] called k commit e = absurd (cc)
commit_entry config (entry.Sent lane seq ∷ entries) called k commit e = later_entry _ entries k commit refl (commit_entry config entries (λ j. called (suc j)) k commit e)
commit_entry config (entry.Opened lane seq ino point ∷ entries) called k commit e = later_entry _ entries k commit refl (commit_entry config entries (λ j. called (suc j)) k commit e)
commit_entry config (entry.Placed lane seq version ∷ entries) called k commit e = later_entry _ entries k commit refl (commit_entry config entries (λ j. called (suc j)) k commit e)
commit_entry config (entry.Stale lane seq old new ∷ entries) called k commit e = later_entry _ entries k commit refl (commit_entry config entries (λ j. called (suc j)) k commit e)
commit_entry config (entry.Answered lane seq point answer ∷ entries) called k commit e = later_entry _ entries k commit refl (commit_entry config entries (λ j. called (suc j)) k commit e)
commit_entry config (entry.Commit lane seq ino ∷ entries) called k commit e =
    called_entry lane seq ino (call_of config lane seq) entries (commits_of config entries) commit (called zero lane seq ino refl) (λ i f. commit_entry config entries (λ j. called (suc j)) i commit f) k e
