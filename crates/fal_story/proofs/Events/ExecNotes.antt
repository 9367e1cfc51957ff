-- What is noted of a call that is executed: at which point it is, and its commit.
use Rattle.std.proofs.Common.{◌≡◌, ◌≢◌, ℕ, ◌+◌, List, [], ◌∷◌, ◌++◌, length, refl, sym, ap, ◌∙◌, append_assoc, length-append, arith}
use Rattle.std.proofs.lemmas.List.{map-append}
use Rattle.fal_base.specs.declared.call.CallRec.{CallRec}
use Rattle.fal_base.specs.declared.call.Config.{Config}
use Rattle.fal_base.specs.declared.entry.Entry.TheVariants as entry
use Rattle.fal_base.specs.declared.event.Note.{Note}
use Rattle.fal_base.specs.declared.event.Note.TheVariants as note
use Rattle.fal_base.specs.Transcript.{commits_of, commit_by as joined_commit}
use Rattle.fal_exec.specs.declared.outcome.Change.{Change}
use Rattle.fal_exec.specs.declared.outcome.Change.TheVariants as change
use Rattle.fal_run.specs.declared.call.BatchCall.{BatchCall}
use Rattle.fal_run.specs.Calls.{number_after, drawn_by, commit_notes}
use Rattle.fal_run.specs.Rows.{rows_after}
use Rattle.fal_node.specs.Letters.{Work}
use Rattle.fal_run.specs.Letters.{commits_in}
use Rattle.fal_story.proofs.Events.InStep.{view_in}
use Rattle.fal_story.proofs.Events.Shows.{Ghost, PlannedAt, planned_lane}
use Rattle.fal_story.proofs.Families.Lanes.{positive}
use Rattle.fal_story.proofs.Good.{Good}
use Rattle.fal_story.proofs.Lists.Grown.{put_same}
use Rattle.fal_story.proofs.Steps.Executed.{ino_of, commit_by}
use Rattle.fal_story.proofs.Trees.Transcript.{commits_append}
use Rattle.fal_story.specs.World.{World, entries_of, entry_of}

-- the commits of the notes so far are as many as are counted
abbrev pub IsCounted : Config → World → Work → Type 0
IsCounted config w k = length (commits_of config (entries_of (length w.commits) k.notes)) ≡ commits_in k.notes

-- the work with this change of a call's row, but for the answer
abbrev pub noted : Work → BatchCall → Change → Work
noted k x ch = record {
  node = record k.node { rows = rows_after k.node.rows x.last ch; drawn = k.node.drawn + drawn_by x.call.op ch };
  sent = k.sent;
  notes = k.notes ++ commit_notes x.call (number_after k.node.number k.node.drawn) ch;
}

-- ---- points

-- the point of a call that is executed now
abbrev pub point_in : World → Work → ℕ
point_in w k = length w.commits + commits_in k.notes

pub point_now : (config : Config) (w : World) (n : ℕ) (k : Work) (h : Ghost) → IsCounted config w k → length (view_in config w n k h).commits ≡ point_in w k
point_now config w n k h c = length-append w.commits (commits_of config (entries_of (length w.commits) k.notes)) ∙ ap (λ i. length w.commits + i) c

-- ---- the note of a commit

notes_are : (call : CallRec) (fresh : ℕ) (ch : Change) → ch ≢ change.Keep → commit_notes call fresh ch ≡ note.Commit call.id.client call.id.seq (ino_of call.op fresh ch) ∷ []
notes_are call fresh change.Keep changes = absurd (changes refl)
notes_are call fresh (change.Put inode) changes = refl
notes_are call fresh change.Remove changes = refl

commits_push : (notes : List Note) (l s i : ℕ) → commits_in (notes ++ note.Commit l s i ∷ []) ≡ commits_in notes + 1
commits_push [] l s i = refl
commits_push (note.Commit a b c ∷ ns) l s i = let h = commits_push ns l s i in omega arith
commits_push (note.Sent a b ∷ ns) l s i = commits_push ns l s i
commits_push (note.Opened a b c p ∷ ns) l s i = commits_push ns l s i
commits_push (note.Placed a b v ∷ ns) l s i = commits_push ns l s i
commits_push (note.Stale a b old new ∷ ns) l s i = commits_push ns l s i
commits_push (note.Answered a b p r ∷ ns) l s i = commits_push ns l s i

-- what the notes of a commit come to
pub record IsNoted (config : Config) (w : World) (n : ℕ) (k : Work) (h : Ghost) (x : BatchCall) (ch : Change) : Type 0 where
  pub entries : let v = view_in config w n k h in
      v.entries ++ entry.Commit (planned_lane x) (v.seq (planned_lane x)) (ino_of (v.call (planned_lane x)).op (number_after n (v.drawn n)) ch) ∷ [] ≡ w.entries ++ entries_of (length w.commits) (noted k x ch).notes
  pub commits : let v = view_in config w n k h in v.commits ++ commit_by v (planned_lane x) n ch ∷ [] ≡ w.commits ++ commits_of config (entries_of (length w.commits) (noted k x ch).notes)
  pub counted : IsCounted config w (noted k x ch)

pub commit_noted : (config : Config) (w : World) (n : ℕ) (k : Work) (h : Ghost) (x : BatchCall) (ch : Change) → Good config (view_in config w n k h) → IsCounted config w k → PlannedAt h.call h.phase n x → k.node.number ≡ n → ch ≢ change.Keep
    → IsNoted config w n k h x ch
commit_noted config w n k h x ch g c at number changes =
    let v = view_in config w n k h in
    let l = planned_lane x in
    let c0 = length w.commits in
    let es = entries_of c0 k.notes in
    let fresh = number_after k.node.number k.node.drawn in
    let ns = commit_notes x.call fresh ch in
    let some = positive g.lanes l (λ idle. let plans = at.0 in cc) in
    let seq : x.call.id.seq ≡ v.seq l = ap (λ (z : CallRec). z.id.seq) at.1 ∙ g.script.calls.number l some in
    let drawn : k.node.drawn ≡ v.drawn n = sym (put_same (λ m. (w.nodes m).drawn) n k.node.drawn) in
    let ino = ino_of (v.call l).op (number_after n (v.drawn n)) ch in
    let is = notes_are x.call fresh ch changes in
    let one : entries_of c0 ns ≡ entry.Commit l (v.seq l) ino ∷ [] =
    ap (entries_of c0) is ∙ (λ i. entry.Commit l (seq i) (ino_of (at.1 i).op (number_after (number i) (drawn i)) ch) ∷ []) in
    let pushed : entries_of c0 (k.notes ++ ns) ≡ es ++ entry.Commit l (v.seq l) ino ∷ [] = map-append (λ z. entry_of c0 z) k.notes ns ∙ ap (λ more. es ++ more) one in
    let joined : commits_of config (entries_of c0 (k.notes ++ ns)) ≡ commits_of config es ++ commit_by v l n ch ∷ [] =
    ap (commits_of config) pushed ∙ commits_append config es (entry.Commit l (v.seq l) ino ∷ [])
    ∙ ap (λ o. commits_of config es ++ (joined_commit o l (v.seq l) ino ++ [])) (g.script.calls.named l some) in
    record {
      entries = append_assoc w.entries es (entry.Commit l (v.seq l) ino ∷ []) ∙ ap (λ more. w.entries ++ more) (sym pushed);
      commits = append_assoc w.commits (commits_of config es) (commit_by v l n ch ∷ []) ∙ ap (λ more. w.commits ++ more) (sym joined);
      counted = ap length joined ∙ length-append (commits_of config es) (commit_by v l n ch ∷ []) ∙ ap (λ z. z + 1) c
          ∙ sym (ap (λ more. commits_in (k.notes ++ more)) is ∙ commits_push k.notes x.call.id.client x.call.id.seq (ino_of x.call.op fresh ch));
    }
