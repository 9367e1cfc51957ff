-- Before its first event a cluster has served nothing, and is quiet.
use Rattle.std.proofs.Common.{◌≡◌, List, [], refl, sym, subst}
use Rattle.fal_base.specs.declared.call.Config.{Config}
use Rattle.fal_base.specs.declared.event.Event.{Event}
use Rattle.fal_coord.specs.State.{opening_coord}
use Rattle.fal_node.specs.State.{opening_node}
use Rattle.fal_story.specs.Fresh.{came}
use Rattle.fal_story.specs.Run.{run}
use Rattle.falcon_run.specs.Serving.{AreServed}

nothing_yet : (config : Config) → AreServed config [] []
unfolding run came opening_node opening_coord
nothing_yet config = record { serial = refl; sent = λ lane. refl; quiet = record { all_came = λ number envelope is. absurd (cc); nodes = λ number. refl; coord = refl }; answered = λ j lane seq is. absurd (cc) }

-- no events serve no calls
pub none_served : (config : Config) (events : List Event) → events ≡ [] → AreServed config [] events
none_served config events none = subst (λ (es : List Event). AreServed config [] es) (sym none) (nothing_yet config)
