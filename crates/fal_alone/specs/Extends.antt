-- A run that goes on from another.
use Rattle.std.specs.Prelude.{◌≡◌, ◌++◌, List}
use Rattle.fal_base.specs.declared.event.Event.{Event}
use Rattle.fal_story.specs.Fresh.{IsDrained}
use Rattle.fal_story.specs.Told.{Told}

-- the same cluster, with more events after those of before
abbrev pub Extends : Told → Told → Type 0
Extends before after = (after.config ≡ before.config) × ((more : List Event) × (after.events ≡ before.events ++ more))

-- each further event was the first fresh one other than a Send, until there was none
abbrev pub DrainsTo : Told → Told → Type 0
DrainsTo before after = (more : List Event) × ((after.events ≡ before.events ++ more) × IsDrained before.config before.events more)
