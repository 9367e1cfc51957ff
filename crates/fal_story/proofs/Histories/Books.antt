-- A book stays one: a run has one more event.
use Rattle.std.proofs.Common.{◌≡◌, ℕ, ◌+◌, ◌<◌, ◌^◌, cond, List, [], ◌∷◌, ◌++◌, length, Some, None, Option, refl, sym, ap, ◌∙◌, subst, arith}
use Rattle.std.specs.Prelude.{count_by, IsSome, IsSomeAnd}
use Rattle.std.proofs.lemmas.List.{length-append}
use Rattle.std.proofs.lemmas.List.Sums.{sum_by-append}
use Rattle.fal_base.specs.declared.call.Config.{Config}
use Rattle.fal_base.specs.declared.entry.Entry.{Entry}
use Rattle.fal_base.specs.declared.event.Envelope.{Envelope}
use Rattle.fal_base.specs.declared.event.Event.{Event}
use Rattle.fal_base.specs.declared.event.Note.{Note}
use Rattle.fal_base.specs.declared.event.Output.{Output}
use Rattle.fal_base.specs.Transcript.{commits_of, is_commit}
use Rattle.fal_story.proofs.Events.LegalRuns.{legal_kept}
use Rattle.fal_story.proofs.Histories.Deeds.{IsDeed}
pub use Rattle.fal_story.proofs.Histories.Deeds.{deed_does}
use Rattle.fal_story.specs.Actors.{actor_of}
use Rattle.fal_story.specs.Clusters.{IsCluster}
use Rattle.fal_story.specs.Run.{Deed, deed, done, step, run_from, run, Makes, Follows, IsLegal}
use Rattle.fal_story.specs.Told.{IsBook, HasAt}
use Rattle.fal_story.specs.World.{World, posted, envelopes_of, entries_of, opening_world}

-- one more event at the end of a run
abbrev pub then : Config → Option World → Event → Option World
then config None e = None
then config (Some w) e = step config w e

from_snoc : (config : Config) (o : Option World) (es : List Event) (e : Event) → run_from config o (es ++ e ∷ []) ≡ then config (run_from config o es) e
from_snoc config None [] e = refl
from_snoc config (Some w) [] e = refl
from_snoc config None (x ∷ es) e = refl
from_snoc config (Some w) (x ∷ es) e = from_snoc config (step config w x) es e

pub run_snoc : (config : Config) (es : List Event) (e : Event) → run config (es ++ e ∷ []) ≡ then config (run config es) e
unfolding run
run_snoc config es e = from_snoc config (Some (opening_world config)) es e

-- the world after it
abbrev pub world_then : Config → World → Deed → World
world_then config w d = posted config d.world d.from d.sent d.notes

-- the entries of a legal run have as many commits as its world
counted : (config : Config) (es : List Event) (w : World) → IsLegal config es → run config es ≡ Some w → count_by is_commit w.entries ≡ length w.commits
counted config es w legal at = (legal_kept config es w legal at).shows.good.script.joined.count

count_more : (es fs : List Entry) → count_by is_commit (es ++ fs) ≡ count_by is_commit es + count_by is_commit fs
count_more es fs = sum_by-append (λ e. cond (is_commit e) 1 0) es fs

-- the world after the event, with what it adds
has_then : (config : Config) (w : World) (e : Event) (d : Deed) (sent : List Envelope) (entries : List Entry) (commits events : ℕ) → HasAt (Some w) sent entries commits events → IsDeed w e d
    → length (commits_of config (entries_of commits d.notes)) ≡ count_by is_commit (entries_of commits d.notes)
    → HasAt (Some (world_then config w d)) (sent ++ envelopes_of (actor_of e) events commits d.sent) (entries ++ entries_of commits d.notes) (commits + count_by is_commit (entries_of commits d.notes)) (events + 1)
unfolding posted
has_then config w e d sent entries commits events has does same =
    let envelopes : sent ≡ d.world.envelopes = has.0 ∙ sym does.envelopes in
    let noted : entries ≡ d.world.entries = has.1 ∙ sym does.entries in
    let count : commits ≡ length d.world.commits = has.2 ∙ sym (ap length does.commits) in
    let number : events ≡ d.world.events = has.3 ∙ sym does.events in
    let from : actor_of e ≡ d.from = sym does.from in
    let made : length (commits_of config (entries_of (length d.world.commits) d.notes)) ≡ count_by is_commit (entries_of commits d.notes)
    = subst (λ k. length (commits_of config (entries_of k d.notes)) ≡ count_by is_commit (entries_of commits d.notes)) count same in
    let sum : length (d.world.commits ++ commits_of config (entries_of (length d.world.commits) d.notes)) ≡ length d.world.commits + length (commits_of config (entries_of (length d.world.commits) d.notes))
    = length-append d.world.commits (commits_of config (entries_of (length d.world.commits) d.notes)) in (
      λ i. envelopes i ++ envelopes_of (from i) (number i) (count i) d.sent,
      λ i. noted i ++ entries_of (count i) d.notes,
      omega arith,
      ap (λ n. n + 1) number,
    )

-- what the event commits, as its entries tell
made_then : (config : Config) (w : World) (e : Event) (d : Deed) (commits : ℕ) → count_by is_commit w.entries ≡ length w.commits → count_by is_commit (world_then config w d).entries ≡ length (world_then config w d).commits
    → IsDeed w e d → commits ≡ length w.commits → length (commits_of config (entries_of commits d.notes)) ≡ count_by is_commit (entries_of commits d.notes)
unfolding posted
made_then config w e d commits before behind does is =
    let count : length d.world.commits ≡ commits = ap length does.commits ∙ sym is in
    let old : count_by is_commit d.world.entries ≡ length w.commits = ap (count_by is_commit) does.entries ∙ before in
    let new : count_by is_commit (d.world.entries ++ entries_of commits d.notes) ≡ length (d.world.commits ++ commits_of config (entries_of commits d.notes))
    = subst (λ k. count_by is_commit (d.world.entries ++ entries_of k d.notes) ≡ length (d.world.commits ++ commits_of config (entries_of k d.notes))) count behind in
    let left = count_more d.world.entries (entries_of commits d.notes) in
    let right : length (d.world.commits ++ commits_of config (entries_of commits d.notes)) ≡ length d.world.commits + length (commits_of config (entries_of commits d.notes))
    = length-append d.world.commits (commits_of config (entries_of commits d.notes)) in
    let same : length d.world.commits ≡ length w.commits = ap length does.commits in
    omega arith

moved_has : (o p : Option World) (sent : List Envelope) (entries : List Entry) (commits n m : ℕ) → o ≡ p → n ≡ m → HasAt o sent entries commits n → HasAt p sent entries commits m
moved_has o p sent entries commits n m here there has = subst (λ q. HasAt q sent entries commits m) here (subst (λ k. HasAt o sent entries commits k) there has)

book_at : (config : Config) (es : List Event) (sent : List Envelope) (entries : List Entry) (commits : ℕ) (e : Event) (w : World) (d : Deed)
    → IsBook config es sent entries commits → length es + 1 < 2 ^ 63 → commits + count_by is_commit (entries_of commits d.notes) < 2 ^ 63 → run config es ≡ Some w → deed config w e ≡ Some d
    → IsBook config (es ++ e ∷ []) (sent ++ envelopes_of (actor_of e) (length es) commits d.sent) (entries ++ entries_of commits d.notes) (commits + count_by is_commit (entries_of commits d.notes))
book_at config es sent entries commits e w d book few few_commits at is =
    let does = deed_does config w e d is in
    let has : HasAt (Some w) sent entries commits (length es) = subst (λ o. HasAt o sent entries commits (length es)) at book.at in
    let after : run config (es ++ e ∷ []) ≡ Some (world_then config w d) = run_snoc config es e ∙ ap (λ o. then config o e) at ∙ ap (done config) is in
    let long : length (es ++ e ∷ []) ≡ length es + 1 = length-append es (e ∷ []) in
    let fewer : length (es ++ e ∷ []) < 2 ^ 63 = omega arith in
    let before : IsLegal config es = record { cluster = book.cluster; enabled = subst IsSome (sym at) refl; few = book.few } in
    let behind : IsLegal config (es ++ e ∷ []) = record { cluster = book.cluster; enabled = subst IsSome (sym after) refl; few = fewer } in
    let made = made_then config w e d commits (counted config es w before at) (counted config (es ++ e ∷ []) (world_then config w d) behind after) does has.2 in
    record {
      cluster = book.cluster;
      few = fewer;
      few_commits = few_commits;
      at = moved_has (Some (world_then config w d)) (run config (es ++ e ∷ [])) (sent ++ envelopes_of (actor_of e) (length es) commits d.sent) (entries ++ entries_of commits d.notes)
          (commits + count_by is_commit (entries_of commits d.notes)) (length es + 1) (length (es ++ e ∷ [])) (sym after) (sym long) (has_then config w e d sent entries commits (length es) has does made);
    }

-- a book with one more event
pub book_next : (config : Config) (es : List Event) (sent : List Envelope) (entries : List Entry) (commits : ℕ) (e : Event) (outputs : List Output) (notes : List Note)
    → IsBook config es sent entries commits → length es + 1 < 2 ^ 63 → commits + count_by is_commit (entries_of commits notes) < 2 ^ 63 → Follows config es e outputs notes
    → IsBook config (es ++ e ∷ []) (sent ++ envelopes_of (actor_of e) (length es) commits outputs) (entries ++ entries_of commits notes) (commits + count_by is_commit (entries_of commits notes))
book_next config es sent entries commits e outputs notes book few few_commits follows =
    elim (run config es) as (λ o. run config es ≡ o → Makes config o e outputs notes → IsBook config (es ++ e ∷ []) (sent ++ envelopes_of (actor_of e) (length es) commits outputs) (entries ++ entries_of commits notes) (commits + count_by is_commit (entries_of commits notes))) [
      | None ↦ λ t y. absurd y
      | Some w ↦ λ t y. elim (deed config w e) as (λ o. deed config w e ≡ o → IsSomeAnd o (λ d. (d.sent ≡ outputs) × (d.notes ≡ notes))
          → IsBook config (es ++ e ∷ []) (sent ++ envelopes_of (actor_of e) (length es) commits outputs) (entries ++ entries_of commits notes) (commits + count_by is_commit (entries_of commits notes))) [
            | None ↦ λ s z. absurd z
            | Some d ↦ λ s z. subst (λ os. IsBook config (es ++ e ∷ []) (sent ++ envelopes_of (actor_of e) (length es) commits os) (entries ++ entries_of commits notes) (commits + count_by is_commit (entries_of commits notes))) z.0
                (subst (λ ns. commits + count_by is_commit (entries_of commits ns) < 2 ^ 63 → IsBook config (es ++ e ∷ []) (sent ++ envelopes_of (actor_of e) (length es) commits d.sent) (entries ++ entries_of commits ns) (commits + count_by is_commit (entries_of commits ns))) z.1
                (λ below. book_at config es sent entries commits e w d book few below t s) few_commits)
          ] refl y
    ] refl follows

-- a book without events
pub book_begins : (config : Config) (es : List Event) (sent : List Envelope) (entries : List Entry) → IsCluster config → es ≡ [] → sent ≡ [] → entries ≡ [] → IsBook config es sent entries 0
unfolding run
book_begins config es sent entries cluster no_event none_sent no_entry =
    subst (λ xs. IsBook config xs sent entries 0) (sym no_event)
    (record { cluster = cluster; few = omega arith; few_commits = omega arith; at = (none_sent, no_entry, refl, refl) })

-- the same, of lists that are these
pub book_stepped : (config : Config) (es es' : List Event) (sent sent' : List Envelope) (entries entries' : List Entry) (commits made : ℕ) (e : Event) (outputs : List Output) (notes : List Note)
    → IsBook config es sent entries commits → Follows config es e outputs notes → es' ≡ es ++ e ∷ [] → sent' ≡ sent ++ envelopes_of (actor_of e) (length es) commits outputs
    → entries' ≡ entries ++ entries_of commits notes → made ≡ count_by is_commit (entries_of commits notes) → length es + 1 < 2 ^ 63 → commits + made < 2 ^ 63
    → IsBook config es' sent' entries' (commits + made)
book_stepped config es es' sent sent' entries entries' commits made e outputs notes book follows events posted noted counted few few_commits =
    subst (λ xs. IsBook config xs sent' entries' (commits + made)) (sym events)
    (subst (λ xs. IsBook config (es ++ e ∷ []) xs entries' (commits + made)) (sym posted)
    (subst (λ xs. IsBook config (es ++ e ∷ []) (sent ++ envelopes_of (actor_of e) (length es) commits outputs) xs (commits + made)) (sym noted)
    (subst (λ n. IsBook config (es ++ e ∷ []) (sent ++ envelopes_of (actor_of e) (length es) commits outputs) (entries ++ entries_of commits notes) (commits + n)) (sym counted)
    (book_next config es sent entries commits e outputs notes book few (subst (λ n. commits + n < 2 ^ 63) counted few_commits) follows))))
