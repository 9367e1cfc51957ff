-- A transcript that grows.
use Rattle.std.proofs.Common.{◌≡◌, ◌⊎◌, inl, inr, ⊎_elim, ℕ, zero, suc, ◌+◌, ◌<◌, ◌≤◌, false, cond, List, [], ◌∷◌, ◌++◌, length, Option, Some, None, refl, sym, ap, ◌∙◌, arith, append_assoc, append-nil}
use Rattle.std.specs.Prelude.{slice_get, count_by}
use Rattle.std.proofs.lemmas.List.{take-append-le}
use Rattle.std.proofs.lemmas.List.Sums.{sum_by-take-le, sum_by_push}
use Rattle.std.proofs.Math.Seq.{take-append_seam}
use Rattle.fal_base.specs.declared.call.Call.{Call}
use Rattle.fal_base.specs.declared.call.CallRec.{CallRec}
use Rattle.fal_base.specs.declared.call.Config.{Config}
use Rattle.fal_base.specs.declared.entry.Entry.{Entry}
use Rattle.fal_base.specs.declared.entry.Entry.TheVariants as entry
use Rattle.fal_base.specs.declared.reply.Reply.{Reply}
use Rattle.fal_base.specs.Answer.{answer}
use Rattle.fal_base.specs.Change.{makes}
use Rattle.fal_base.specs.Commits.{Commit, tree_at}
use Rattle.fal_base.specs.Linear.{IsBy, IsAnswer}
use Rattle.fal_base.specs.Transcript.{call_of, commit_by, commits_of, is_commit, at}
use Rattle.fal_story.proofs.Lists.Grown.{slice_get_front, slice_get_below, only_one}
use Rattle.fal_story.proofs.Trees.Commits.{tree_at_front}
use Rattle.fal_story.proofs.View.{plain}

-- the commits are those of the entries
pub record IsJoined (config : Config) (entries : List Entry) (commits : List Commit) : Type 0 where
  pub same : commits ≡ commits_of config entries
  pub count : count_by is_commit entries ≡ length commits

-- a lane's last call
pub record Calls (config : Config) (entries : List Entry) (commits : List Commit) (seq : ℕ → ℕ) (call : ℕ → CallRec) (since : ℕ → ℕ) : Type 0 where
  pub named : (l : ℕ) → 0 < seq l → call_of config l (seq l) ≡ Some (plain (call l))
  pub lane : (l : ℕ) → 0 < seq l → (call l).id.client ≡ l
  pub number : (l : ℕ) → 0 < seq l → (call l).id.seq ≡ seq l
  pub past : (l : ℕ) → since l ≤ length commits
  pub entry : (l : ℕ) → 0 < seq l → (i : ℕ) × (slice_get entries i ≡ Some (entry.Sent l (seq l))) × (at entries i ≡ since l)

-- what stands in two lists joined stands in one of them
pub slice_get_joined : {A : Type 0} (xs ys : List A) (k : ℕ) (y : A) → slice_get (xs ++ ys) k ≡ Some y → (slice_get xs k ≡ Some y) ⊎ ((i : ℕ) × (k ≡ length xs + i) × (slice_get ys i ≡ Some y))
slice_get_joined [] ys k y e = inr (k, omega arith, e)
slice_get_joined (x ∷ xs) ys zero y e = inl e
slice_get_joined (x ∷ xs) ys (suc k) y e = ⊎_elim (λ h. inl h) (λ h. let i = h.0 in let a = h.1 in inr (i, omega arith, h.2)) (slice_get_joined xs ys k y e)

pub commits_append : (config : Config) (es fs : List Entry) → commits_of config (es ++ fs) ≡ commits_of config es ++ commits_of config fs
commits_append config [] fs = refl
commits_append config (entry.Sent lane seq ∷ es) fs = commits_append config es fs
commits_append config (entry.Commit lane seq ino ∷ es) fs =
    ap (λ cs. commit_by (call_of config lane seq) lane seq ino ++ cs) (commits_append config es fs) ∙ sym (append_assoc (commit_by (call_of config lane seq) lane seq ino) _ _)
commits_append config (entry.Opened lane seq ino point ∷ es) fs = commits_append config es fs
commits_append config (entry.Placed lane seq version ∷ es) fs = commits_append config es fs
commits_append config (entry.Stale lane seq old new ∷ es) fs = commits_append config es fs
commits_append config (entry.Answered lane seq point reply ∷ es) fs = commits_append config es fs

pub at_front : (es fs : List Entry) (j : ℕ) → j ≤ length es → at (es ++ fs) j ≡ at es j
at_front es fs j h = ap (count_by is_commit) (take-append-le j es fs h)

pub at_end : (es fs : List Entry) → at (es ++ fs) (length es) ≡ count_by is_commit es
at_end es fs = ap (count_by is_commit) (take-append_seam es fs)

pub at_within : (es : List Entry) (j : ℕ) → at es j ≤ count_by is_commit es
at_within es j = sum_by-take-le (λ e. cond (is_commit e) 1 0) es j

pub count_snoc : (es : List Entry) (e : Entry) → count_by is_commit (es ++ e ∷ []) ≡ count_by is_commit es + cond (is_commit e) 1 0
count_snoc es e = sum_by_push (λ e. cond (is_commit e) 1 0) es e

-- ---- one more entry

no_commits : (config : Config) (e : Entry) → is_commit e ≡ false → commits_of config (e ∷ []) ≡ []
no_commits config (entry.Sent lane seq) off = refl
no_commits config (entry.Commit lane seq ino) off = cc
no_commits config (entry.Opened lane seq ino point) off = refl
no_commits config (entry.Placed lane seq version) off = refl
no_commits config (entry.Stale lane seq old new) off = refl
no_commits config (entry.Answered lane seq point reply) off = refl

-- an entry that is no commit
pub joined_more : (config : Config) (entries : List Entry) (e : Entry) (commits : List Commit) → is_commit e ≡ false → IsJoined config entries commits → IsJoined config (entries ++ e ∷ []) commits
joined_more config entries e commits off joined =
    let count = joined.count in
    let more : count_by is_commit (entries ++ e ∷ []) ≡ count_by is_commit entries + 0 = count_snoc entries e ∙ ap (λ b. count_by is_commit entries + cond b 1 0) off in
    record {
      same = joined.same ∙ sym (commits_append config entries (e ∷ []) ∙ ap (λ cs. commits_of config entries ++ cs) (no_commits config e off) ∙ append-nil (commits_of config entries));
      count = omega arith;
    }

pub calls_more : (config : Config) (entries : List Entry) (e : Entry) (commits : List Commit) (seq : ℕ → ℕ) (call : ℕ → CallRec) (since : ℕ → ℕ) → Calls config entries commits seq call since
    → Calls config (entries ++ e ∷ []) commits seq call since
calls_more config entries e commits seq call since c = record {
  named = c.named;
  lane = c.lane;
  number = c.number;
  past = c.past;
  entry = λ l h. let x = c.entry l h in let below = slice_get_below entries x.0 _ x.1 in (x.0, slice_get_front entries (e ∷ []) x.0 _ x.1, at_front entries (e ∷ []) x.0 (omega arith) ∙ x.2);
}

by_call : (found : Option Call) (l s ino : ℕ) (i : ℕ) (c : Commit) → slice_get (commit_by found l s ino ++ []) i ≡ Some c → (l ≡ c.lane) × (s ≡ c.seq)
by_call None l s ino i c there = absurd (cc)
by_call (Some call) l s ino i c there = let same = only_one (record { lane = l; seq = s; cred = call.cred; op = call.op; ino = ino }) i c there in (ap (λ (x : Commit). x.lane) same, ap (λ (x : Commit). x.seq) same)

-- an entry that is no commit of the call adds none of its commits
not_by : (config : Config) (e : Entry) (lane seq : ℕ) → ((ino : ℕ) → e ≡ entry.Commit lane seq ino → ⊥) → (i : ℕ) (c : Commit) → slice_get (commits_of config (e ∷ [])) i ≡ Some c → IsBy lane seq c → ⊥
not_by config (entry.Sent l s) lane seq other i c there by = cc
not_by config (entry.Commit l s ino) lane seq other i c there by = let same = by_call (call_of config l s) l s ino i c there in let a : l ≡ lane = same.0 ∙ by.0 in let b : s ≡ seq = same.1 ∙ by.1 in other ino (cc)
not_by config (entry.Opened l s ino point) lane seq other i c there by = cc
not_by config (entry.Placed l s version) lane seq other i c there by = cc
not_by config (entry.Stale l s old new) lane seq other i c there by = cc
not_by config (entry.Answered l s point reply) lane seq other i c there by = cc

-- an answer stays right where no commit of its call is added
pub answer_more : (config : Config) (entries : List Entry) (e : Entry) (commits : List Commit) (j lane seq k : ℕ) (reply : Reply) (call : Call) → IsJoined config entries commits → j < length entries
    → ((ino : ℕ) → e ≡ entry.Commit lane seq ino → ⊥) → IsAnswer config entries j lane seq k reply call → IsAnswer config (entries ++ e ∷ []) j lane seq k reply call
answer_more config entries e commits j lane seq k reply call joined within other a =
    let cs = commits_of config entries in
    let ds = commits_of config (e ∷ []) in
    let append = commits_append config entries (e ∷ []) in
    let inside = at_within entries j in
    let to = a.to in
    let count = joined.count ∙ ap length joined.same in
    let past : k ≤ length cs = omega arith in
    let same : tree_at (commits_of config (entries ++ e ∷ [])) k ≡ tree_at cs k = ap (λ x. tree_at x k) append ∙ tree_at_front cs ds k past in
    let before = a.before in
    let first = at_front entries (e ∷ []) a.sent (omega arith) in
    let second = at_front entries (e ∷ []) j (omega arith) in
    record {
      sent = a.sent;
      is_sent = slice_get_front entries (e ∷ []) a.sent _ a.is_sent;
      before = a.before;
      from = let from = a.from in omega arith;
      to = omega arith;
      served = a.served ∙ ap (λ t. answer t call.cred call.op) (sym same);
      made = λ is. let x = a.made (ap (λ t. makes t call.cred call.op) (sym same) ∙ is) in let below = x.0 in (omega arith, (x.1.0, ap (λ z. slice_get z k) append ∙ slice_get_front cs ds k _ x.1.1, x.1.2));
      only = λ i c there by. ⊎_elim
          (λ x. let y = a.only i c x by in (y.0, ap (λ t. makes t call.cred call.op) same ∙ y.1))
          (λ x. absurd (not_by config e lane seq other x.0 c x.2 by))
          (slice_get_joined cs ds i c (ap (λ z. slice_get z i) (sym append) ∙ there));
    }
