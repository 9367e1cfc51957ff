-- A draft with its records, where there is room for it, is the step of its event.
use Rattle.std.proofs.Common.{◌≡◌, map, Option, Some, None, refl, sym, ap, ◌∙◌, subst}
use Rattle.std.specs.Prelude.{IsNone, IsSome}
use Rattle.std.specs.List.{All}
use Rattle.std.specs.Option.{ForSome}
use Rattle.fal_wire.specs.Messages.{Fits}
use Rattle.fal_node.specs.declared.draft.Draft.{Draft}
use Rattle.fal_node.specs.declared.event.NodeEvent.{NodeEvent}
use Rattle.fal_wire.specs.declared.letter.Letter.{Letter}
use Rattle.fal_node.specs.declared.patch.Prepared.{Prepared}
use Rattle.fal_node.specs.State.{NodeState}
use Rattle.fal_wire.specs.Letters.{output_of}
use Rattle.fal_node.specs.Letters.{Work}
use Rattle.fal_node.specs.Patch.{SeenNode, patched}
use Rattle.fal_node.specs.Step.{IsWithin, StaysWithin, node_step}
use Rattle.fal_node.specs.Ready.{CanDraft, CanPatch, HasRoom, DoesOf, IsStepOf, IsStepFor}
use Rattle.fal_node.proofs.Counters.{can_change}

pub letters_fit : (node : NodeState) (work : Option Work) (draft : Draft) → DoesOf node work (Some draft) → ForSome work IsWithin → All (λ (l : Letter). Fits l.message) draft.letters.items
letters_fit node None draft does within = absurd does
letters_fit node (Some work) draft does within = subst (λ ls. All (λ (l : Letter). Fits l.message) ls) (sym does.sent) (within work refl).records

step_made : (s : SeenNode) (work : Option Work) (draft : Draft) (prepared : Prepared) → DoesOf s.state work (Some draft) → ForSome work IsWithin → CanDraft s.state draft.patch → HasRoom s.room draft.patch
    → prepared.patch ≡ draft.patch → prepared.outputs.sent ≡ map output_of draft.letters.items → prepared.outputs.notes ≡ draft.notes.items → IsStepOf s work prepared
step_made s None draft prepared does within can room patch sent notes = absurd does
step_made s (Some work) draft prepared does within can room patch sent notes = record {
  node = does.node_after ∙ ap (patched s.state) (sym patch);
  sent = sent ∙ ap (map output_of) does.sent;
  notes = notes ∙ does.notes;
  can_apply = subst (CanPatch s) (sym patch) (room, can_change s.state work draft.patch does.node_after (within work refl) can);
}

-- where there is a draft, it becomes the step
pub step_for : (s : SeenNode) (node : NodeState) (event : NodeEvent) (draft : Draft) (prepared : Prepared) → s.state ≡ node → DoesOf node (node_step node event) (Some draft) → StaysWithin node event
    → CanDraft node draft.patch → HasRoom s.room draft.patch → prepared.patch ≡ draft.patch → prepared.outputs.sent ≡ map output_of draft.letters.items → prepared.outputs.notes ≡ draft.notes.items
    → IsStepFor s event prepared
step_for s node event draft prepared same does within can room patch sent notes =
    step_made s (node_step s.state event) draft prepared
    (subst (λ n. DoesOf n (node_step n event) (Some draft)) (sym same) does)
    (subst (λ n. StaysWithin n event) (sym same) within)
    (subst (λ n. CanDraft n draft.patch) (sym same) can)
    room patch sent notes

-- and the event is enabled
pub enabled : (node : NodeState) (work : Option Work) (draft : Draft) → DoesOf node work (Some draft) → IsNone work → ⊥
enabled node None draft does none = does
enabled node (Some work) draft does none = absurd (cc)

-- where there is none, it is not
pub not_enabled : (node : NodeState) (work : Option Work) → DoesOf node work None → IsNone work
not_enabled node None does = refl
not_enabled node (Some work) does = absurd does

-- where there is work, it is enabled
pub some_enabled : (work : Option Work) → IsSome work → IsNone work → ⊥
some_enabled None some none = absurd (cc)
some_enabled (Some work) some none = absurd (cc)
