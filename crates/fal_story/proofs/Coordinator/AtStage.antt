-- The coordinator at a stage of its operation.
use Rattle.std.proofs.Common.{◌≡◌, ⊎_elim, ℕ, ◌==◌, Bool, true, false, ◌&&◌, sym, ap, ◌∙◌, subst}
use Rattle.std.proofs.lemmas.List.Elements.{All-nil}
use Rattle.fal_base.specs.declared.call.Config.{Config}
use Rattle.fal_coord.specs.declared.stage.Stage.{Stage}
use Rattle.fal_coord.specs.State.{CoordState, begun, at_stage}
use Rattle.fal_wire.specs.Messages.{Fits}
use Rattle.fal_story.proofs.Events.InCoord.{InCoord, EndsCoord, coord_ends, starts_at, view_started}
use Rattle.fal_story.proofs.Events.Shows.{Ghost, Hosts, Shows, view_of}
use Rattle.fal_story.proofs.Good.{Good}
use Rattle.fal_story.proofs.Lists.Grown.{tells}
use Rattle.fal_story.proofs.View.{View}
use Rattle.fal_story.specs.World.{World}

-- what is seen of the world where this is the coordinator
abbrev pub seen : Config → World → CoordState → Ghost → View
seen config w coord h = view_of config (record w { coord = coord }) h

module _ (config : Config) (w : World) (h : Ghost) (shown : Shows config w h) where
  -- the coordinator is at this stage
  pub seen_at : (stage : Stage) → w.coord.stage ≡ stage → Good config (seen config w (at_stage w.coord stage) h)
  seen_at stage is = subst (λ s. Good config (seen config w (at_stage w.coord s) h)) is shown.good

  pub hosts_at : (stage : Stage) → w.coord.stage ≡ stage → Hosts config h.call h.phase (at_stage w.coord stage)
  hosts_at stage is = subst (λ s. Hosts config h.call h.phase (at_stage w.coord s)) is shown.beside.hosts

  -- it comes to another one, and has sent nothing yet
  pub comes_to : (coord : CoordState) → Good config (seen config w coord h) → Hosts config h.call h.phase coord → InCoord config w (begun coord) h
  comes_to coord good hosts = record {
    good = subst (Good config) (view_started config (record w { coord = coord }) h) good;
    held = shown.held;
    heard = shown.heard;
    beside = record { queues = shown.beside.queues; holding = shown.beside.holding; hosts = hosts };
  }

  -- it stays as it comes there
  pub stays_at : (coord : CoordState) → Good config (seen config w coord h) → Hosts config h.call h.phase coord → EndsCoord config w (begun coord)
  stays_at coord good hosts = (h, coord_ends config w h (begun coord) h (All-nil (λ letter. Fits letter.message)) shown (comes_to coord good hosts))

  -- it makes nothing of the event
  pub stays : EndsCoord config w (begun w.coord)
  stays = (h, coord_ends config w h (begun w.coord) h (All-nil (λ letter. Fits letter.message)) shown (starts_at config w h shown))

-- a record is of the operation, and its sender was still to be heard
pub both_so : (a b : ℕ) (more : Bool) → ((a == b) && more) ≡ true → (a ≡ b) × (more ≡ true)
both_so a b more is = ⊎_elim
    (λ x. (x.1, sym (ap (λ t. t && more) x.0) ∙ is))
    (λ x. let none : false ≡ true = sym (ap (λ t. t && more) x.0) ∙ is in absurd (cc))
    (tells a b)
