-- What an actor prepared is what it makes of its event, as a run has it.
use Rattle.std.proofs.Common.{◌≡◌, Option, Some, None, refl, sym, ◌∙◌}
use Rattle.std.specs.Prelude.{IsNone, IsSome}
use Rattle.fal_base.specs.declared.event.Outputs.{Outputs}
use Rattle.fal_client.specs.declared.patch.Patch.{Patch as ClientPatch}
use Rattle.fal_client.specs.declared.patch.Prepared.{Prepared as ClientPrepared}
use Rattle.fal_client.specs.Patch.{IsStepOf as IsClientStep, patched as patched_client}
use Rattle.fal_client.specs.State.{ClientState, Work as ClientWork}
use Rattle.fal_coord.specs.declared.patch.Patch.{Patch as CoordPatch}
use Rattle.fal_coord.specs.declared.patch.Prepared.{Prepared as CoordPrepared}
use Rattle.fal_coord.specs.Patch.{SeenCoord, patched as patched_coord}
use Rattle.fal_coord.specs.Ready.{IsStepOf as IsCoordStep}
use Rattle.fal_coord.specs.State.{Work as CoordWork}
use Rattle.fal_node.specs.declared.patch.Patch.{Patch}
use Rattle.fal_node.specs.declared.patch.Prepared.{Prepared}
use Rattle.fal_node.specs.Letters.{Work}
use Rattle.fal_node.specs.Patch.{SeenNode, patched}
use Rattle.fal_node.specs.Ready.{IsStepOf}
use Rattle.fal_story.specs.Machines.{ClientMachine, NodeMachine, CoordMachine, Made, client_made, node_made, coord_made}

-- ---- where there is no work

-- a step that makes something of work makes nothing exactly where there is none
pub nothing_made : {A : Type 0} (made : Option A → Option Made) → IsNone (made None) → (work : Option A) → IsNone work → IsNone (made work)
nothing_made made nothing None none = nothing
nothing_made made nothing (Some work) none = absurd (cc)

pub no_work : {A : Type 0} (made : Option A → Option Made) → ((a : A) → IsSome (made (Some a))) → (work : Option A) → IsNone (made work) → IsNone work
no_work made something None none = refl
no_work made something (Some work) none = let some = something work in absurd (cc)

-- ---- clients

client_step_made : (c : ClientState) (work : Option ClientWork) (p : ClientPrepared) → IsClientStep c work p → client_made work ≡ Some (ClientMachine (patched_client c p.patch), p.outputs)
client_step_made c None p step = absurd step
client_step_made c (Some work) p step = λ i. Some (ClientMachine (step.client i), record { sent = sym step.sent i; notes = sym step.notes i })

-- the step that a client prepared, once its outputs were handed over
pub client_prepared : (c d : ClientState) (work : Option ClientWork) (p : ClientPrepared) (patch : ClientPatch) (o : Outputs) → IsClientStep c work p → d ≡ c → patch ≡ p.patch → o ≡ p.outputs
    → client_made work ≡ Some (ClientMachine (patched_client d patch), o)
client_prepared c d work p patch o step same is outputs =
    client_step_made c work p step ∙ (λ i. Some (ClientMachine (patched_client (sym same i) (sym is i)), sym outputs i))

-- ---- the coordinator

coord_step_made : (s : SeenCoord) (work : Option CoordWork) (p : CoordPrepared) → IsCoordStep s work p → coord_made work ≡ Some (CoordMachine (patched_coord s.state p.patch), p.outputs)
coord_step_made s None p step = absurd step
coord_step_made s (Some work) p step = λ i. Some (CoordMachine (step.coord_after i), record { sent = sym step.sent i; notes = sym step.notes i })

-- the step that the coordinator prepared, once its outputs were handed over
pub coord_prepared : (s : SeenCoord) (work : Option CoordWork) (p : CoordPrepared) (patch : CoordPatch) (o : Outputs) → IsCoordStep s work p → patch ≡ p.patch → o ≡ p.outputs
    → coord_made work ≡ Some (CoordMachine (patched_coord s.state patch), o)
coord_prepared s work p patch o step is outputs = coord_step_made s work p step ∙ (λ i. Some (CoordMachine (patched_coord s.state (sym is i)), sym outputs i))

-- ---- nodes

node_step_made : (s : SeenNode) (work : Option Work) (p : Prepared) → IsStepOf s work p → node_made work ≡ Some (NodeMachine (patched s.state p.patch), p.outputs)
node_step_made s None p step = absurd step
node_step_made s (Some work) p step = λ i. Some (NodeMachine (step.node i), record { sent = sym step.sent i; notes = sym step.notes i })

-- the step that a node prepared, once its outputs were handed over
pub node_prepared : (s : SeenNode) (work : Option Work) (p : Prepared) (patch : Patch) (o : Outputs) → IsStepOf s work p → patch ≡ p.patch → o ≡ p.outputs → node_made work ≡ Some (NodeMachine (patched s.state patch), o)
node_prepared s work p patch o step is outputs = node_step_made s work p step ∙ (λ i. Some (NodeMachine (patched s.state (sym is i)), sym outputs i))
