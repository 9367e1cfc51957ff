-- What was prepared for an event is its step.
use Rattle.std.proofs.Common.{Option, Some, None, refl}
use Rattle.std.specs.Prelude.{IsNone, IsSome}
use Rattle.fal_client.specs.State.{ClientState, Work}
use Rattle.fal_client.specs.declared.patch.Prepared.{Prepared}
use Rattle.fal_client.specs.Patch.{IsStepIf, IsStepOf}

-- where something was prepared, it is the step
pub step_made : (c : ClientState) (work : Option Work) (prepared : Prepared) → IsStepIf c work (Some prepared) → IsStepOf c work prepared
step_made c None prepared is = absurd is
step_made c (Some work) prepared is = is

-- where something was prepared, the event is enabled
pub enabled : (c : ClientState) (work : Option Work) (prepared : Prepared) → IsStepIf c work (Some prepared) → IsNone work → ⊥
enabled c None prepared is none = is
enabled c (Some work) prepared is none = absurd (cc)

-- where nothing was, it is not
pub not_enabled : (c : ClientState) (work : Option Work) → IsStepIf c work None → IsNone work
not_enabled c None is = refl
not_enabled c (Some work) is = absurd is

-- where there is work, the event is enabled
pub some_enabled : (work : Option Work) → IsSome work → IsNone work → ⊥
some_enabled None some none = absurd (cc)
some_enabled (Some work) some none = absurd (cc)
