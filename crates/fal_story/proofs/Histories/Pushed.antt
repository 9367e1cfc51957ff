-- The lists of events that may be pushed one after another are the legal runs.
use Rattle.std.proofs.Common.{◌≡◌, ◌↔◌, List, [], ◌∷◌, ◌++◌, Option, Some, None, refl, sym, ◌∙◌, subst}
use Rattle.std.specs.Prelude.{IsSome, IsSomeAnd}
use Rattle.std.proofs.lemmas.Option.{none-some}
use Rattle.fal_base.specs.declared.call.Config.{Config}
use Rattle.fal_base.specs.declared.event.Event.{Event}
use Rattle.fal_base.specs.declared.event.Outputs.{Outputs}
use Rattle.fal_book.specs.Entries.{LegalAfter, IsSound}
use Rattle.fal_story.proofs.Histories.Deeds.{made_in}
use Rattle.fal_story.proofs.Histories.Replays.{Agrees, agrees_first, agrees_then, agrees, outcome_is, world_after}
use Rattle.fal_story.specs.Actors.{actor_of}
use Rattle.fal_story.specs.Clusters.{IsCluster}
use Rattle.fal_story.specs.Machines.{Made}
use Rattle.fal_story.specs.Pushing.{MayPush, sent_by, all_sent}
use Rattle.fal_story.specs.Run.{deed_by, deed, done, run_from, run, IsLegal, Makes, Follows, envelopes_at, commits_at}
use Rattle.fal_story.specs.World.{World, opening_world}

-- ---- what was sent by a legal run

-- the envelopes are those of the run
pub legal_sent : (config : Config) (es : List Event) → IsLegal config es → all_sent config es ≡ envelopes_at (run config es)
legal_sent config es legal =
    elim (run config es) as (λ o. run config es ≡ o → IsSome o → all_sent config es ≡ envelopes_at o) [
      | None ↦ λ t y. absurd (cc)
      | Some w ↦ λ t y. (agrees config es w t).envelopes
    ] refl legal.enabled

-- there are as many commits as in the run
pub legal_commits : (config : Config) (es : List Event) → IsLegal config es → (sent_by config es).commits ≡ commits_at (run config es)
legal_commits config es legal =
    elim (run config es) as (λ o. run config es ≡ o → IsSome o → (sent_by config es).commits ≡ commits_at o) [
      | None ↦ λ t y. absurd (cc)
      | Some w ↦ λ t y. (agrees config es w t).commits
    ] refl legal.enabled

-- ---- one event that may be pushed

-- what may be pushed after a legal run is enabled there
pub pushed_follows : (config : Config) (es : List Event) (e : Event) (o : Outputs) → IsLegal config es → MayPush config es e o → Follows config es e o.sent o.notes
unfolding deed
pushed_follows config es e o legal may =
    elim (run config es) as (λ p. run config es ≡ p → IsSome p → Makes config p e o.sent o.notes) [
      | None ↦ λ t y. absurd (cc)
      | Some w ↦ λ t y. subst (λ (m : Option Made). IsSomeAnd (deed_by w (actor_of e) m) (λ d. (d.sent ≡ o.sent) × (d.notes ≡ o.notes))) (sym may.makes ∙ outcome_is config es w e (agrees config es w t)) (refl, refl)
    ] refl legal.enabled

pushed_by : (config : Config) (es : List Event) (w : World) (e : Event) (made : Made) → IsCluster config → Agrees config es w → made_in config w e ≡ Some made → MayPush config es e made.1
pushed_by config es w e made cluster a is = record { cluster = cluster; after = made.0; makes = outcome_is config es w e a ∙ is }

-- what is enabled after a legal run may be pushed
pub follows_pushed : (config : Config) (es : List Event) (e : Event) (o : Outputs) → IsLegal config es → Follows config es e o.sent o.notes → MayPush config es e o
unfolding deed
follows_pushed config es e o legal follows =
    elim (run config es) as (λ p. run config es ≡ p → Makes config p e o.sent o.notes → MayPush config es e o) [
      | None ↦ λ t y. absurd y
      | Some w ↦ λ t y. elim (made_in config w e) as (λ p. made_in config w e ≡ p → IsSomeAnd (deed_by w (actor_of e) p) (λ d. (d.sent ≡ o.sent) × (d.notes ≡ o.notes)) → MayPush config es e o) [
        | None ↦ λ s z. absurd z
        | Some made ↦ λ s z. subst (λ q. MayPush config es e q) (λ i. record { sent = z.0 i; notes = z.1 i }) (pushed_by config es w e made legal.cluster (agrees config es w t) s)
      ] refl y
    ] refl follows

-- ---- whole lists

dead : (config : Config) (es : List Event) (u : World) → run_from config None es ≡ Some u → ⊥
dead config [] u z = none-some u z
dead config (x ∷ xs) u z = none-some u z

legal_after : (config : Config) (before es : List Event) (w u : World) → IsCluster config → Agrees config before w → run_from config (Some w) es ≡ Some u → LegalAfter MayPush config before es
unfolding deed
legal_after config before [] w u cluster a at = tt
legal_after config before (e ∷ es) w u cluster a at =
    elim (made_in config w e) as (λ o. made_in config w e ≡ o → run_from config (done config (deed_by w (actor_of e) o)) es ≡ Some u → LegalAfter MayPush config before (e ∷ es)) [
      | None ↦ λ t z. absurd (dead config es u z)
      | Some made ↦ λ t z. (
        (made.1, pushed_by config before w e made cluster a t),
        legal_after config (before ++ e ∷ []) es (world_after config w e made) u cluster (agrees_then config before w e made a t) z,
      )
    ] refl at

runs_after : (config : Config) (before es : List Event) (w : World) → Agrees config before w → LegalAfter MayPush config before es → IsSome (run_from config (Some w) es)
unfolding deed
runs_after config before [] w a legal = refl
runs_after config before (e ∷ es) w a legal =
    let may = legal.0.1 in
    elim (made_in config w e) as (λ o. made_in config w e ≡ o → IsSome (run_from config (done config (deed_by w (actor_of e) o)) es)) [
      | None ↦ λ t. absurd (none-some (may.after, legal.0.0) (sym (outcome_is config before w e a ∙ t) ∙ may.makes))
      | Some made ↦ λ t. runs_after config (before ++ e ∷ []) es (world_after config w e made) (agrees_then config before w e made a t) legal.1
    ] refl

-- a legal run is a list each of whose events may be pushed after those before it
pub legal_sound : (config : Config) (es : List Event) → IsLegal config es → IsSound MayPush config es
unfolding run
legal_sound config es legal =
    let o = run_from config (Some (opening_world config)) es in
    record {
      legal = elim o as (λ p. o ≡ p → IsSome p → LegalAfter MayPush config [] es) [
        | None ↦ λ t y. absurd (cc)
        | Some u ↦ λ t y. legal_after config [] es (opening_world config) u legal.cluster (agrees_first config) t
      ] refl legal.enabled;
      short = legal.few;
    }

-- and such a list is a legal run
pub sound_legal : (config : Config) (es : List Event) → IsCluster config → IsSound MayPush config es → IsLegal config es
unfolding run
sound_legal config es cluster sound = record { cluster = cluster; enabled = runs_after config [] es (opening_world config) (agrees_first config) sound.legal; few = sound.short }

-- the two together
pub sound_is_legal : (config : Config) (es : List Event) → IsCluster config → IsSound MayPush config es ↔ IsLegal config es
sound_is_legal config es cluster = (sound_legal config es cluster, legal_sound config es)

-- what may be pushed after a legal run, with its outputs, is what is enabled there with these
pub pushed_is_next : (config : Config) (es : List Event) (e : Event) (o : Outputs) → IsLegal config es → MayPush config es e o ↔ Follows config es e o.sent o.notes
pushed_is_next config es e o legal = (pushed_follows config es e o legal, follows_pushed config es e o legal)
