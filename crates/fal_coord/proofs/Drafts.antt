-- A draft with its records, where there is room for it, is the step of its event.
use Rattle.std.proofs.Common.{◌≡◌, map, Option, Some, None, refl, sym, ap, ◌∙◌, subst}
use Rattle.std.specs.Prelude.{IsNone, IsSome}
use Rattle.std.specs.List.{All}
use Rattle.std.specs.Option.{ForSome}
use Rattle.fal_wire.specs.Messages.{Fits}
use Rattle.fal_wire.specs.Letters.{output_of}
use Rattle.fal_wire.specs.declared.letter.Letter.{Letter}
use Rattle.fal_coord.specs.declared.draft.Draft.{Draft}
use Rattle.fal_coord.specs.declared.event.CoordEvent.{CoordEvent}
use Rattle.fal_coord.specs.declared.patch.Prepared.{Prepared}
use Rattle.fal_coord.specs.Patch.{SeenCoord, patched}
use Rattle.fal_coord.specs.Ready.{CanPatch, HasRoom, IsLegal, DoesOf, IsStepOf, IsStepFor}
use Rattle.fal_coord.specs.Sound.{IsSound}
use Rattle.fal_coord.specs.State.{CoordState, Work}
use Rattle.fal_coord.specs.Step.{CanMake, IsInRange, coord_step}
use Rattle.fal_coord.proofs.Sound.{step_sound}

pub letters_fit : (coord : CoordState) (work : Option Work) (draft : Draft) → DoesOf coord work (Some draft) → ForSome work IsInRange → All (λ (l : Letter). Fits l.message) draft.letters.items
letters_fit coord None draft does within = absurd does
letters_fit coord (Some work) draft does within = subst (λ ls. All (λ (l : Letter). Fits l.message) ls) (sym does.sent) (within work refl).records

step_made : (s : SeenCoord) (work : Option Work) (draft : Draft) (prepared : Prepared) → DoesOf s.state work (Some draft) → ForSome work IsInRange → ForSome work (λ w. IsSound w.coord.table w.coord.waiting w.coord.stage) → HasRoom s.room draft.patch
    → prepared.patch ≡ draft.patch → prepared.outputs.sent ≡ map output_of draft.letters.items → prepared.outputs.notes ≡ draft.notes.items → IsStepOf s work prepared
step_made s None draft prepared does within sound room patch sent notes = absurd does
step_made s (Some work) draft prepared does within sound room patch sent notes = record {
  coord_after = does.coord_after ∙ ap (patched s.state) (sym patch);
  sent = sent ∙ ap (map output_of) does.sent;
  notes = notes ∙ does.notes;
  can_apply = subst (CanPatch s) (sym patch) (room, subst IsLegal does.coord_after (record { sound = sound work refl; operation = (within work refl).operation; asked = (within work refl).asked }));
}

-- where there is a draft, it becomes the step
pub step_for : (s : SeenCoord) (coord : CoordState) (event : CoordEvent) (draft : Draft) (prepared : Prepared) → s.state ≡ coord → IsSound s.state.table s.state.waiting s.state.stage → DoesOf coord (coord_step coord event) (Some draft) → CanMake coord event
    → HasRoom s.room draft.patch → prepared.patch ≡ draft.patch → prepared.outputs.sent ≡ map output_of draft.letters.items → prepared.outputs.notes ≡ draft.notes.items
    → IsStepFor s event prepared
step_for s coord event draft prepared same sound does within room patch sent notes =
    step_made s (coord_step s.state event) draft prepared
    (subst (λ n. DoesOf n (coord_step n event) (Some draft)) (sym same) does)
    (subst (λ n. CanMake n event) (sym same) within)
    (step_sound s.state event sound)
    room patch sent notes

-- and the event is enabled
pub enabled : (coord : CoordState) (work : Option Work) (draft : Draft) → DoesOf coord work (Some draft) → IsNone work → ⊥
enabled coord None draft does none = does
enabled coord (Some work) draft does none = absurd (cc)

-- where there is none, it is not
pub not_enabled : (coord : CoordState) (work : Option Work) → DoesOf coord work None → IsNone work
not_enabled coord None does = refl
not_enabled coord (Some work) does = absurd does

-- where there is work, it is enabled
pub some_enabled : (work : Option Work) → IsSome work → IsNone work → ⊥
some_enabled None some none = absurd (cc)
some_enabled (Some work) some none = absurd (cc)
