-- What a function of the code gives, against a reader on lists.
use Rattle.std.specs.Prelude.{◌≡◌, Result, Ok, Err}
use Rattle.fal_wire.specs.declared.fault.WireFault.{WireFault}
use Rattle.fal_wire.specs.declared.fault.Stop.{Stop}
use Rattle.fal_wire.specs.declared.fault.Stop.TheVariants.{Memory, Fault}

-- it stopped for this fault, or because memory ran out
abbrev pub Fails : {Y : Type 0} → Stop → Result Y WireFault → Type 0
Fails Memory answer = Unit {0}
Fails (Fault fault) answer = answer ≡ Err fault

-- what was returned, seen by view, is the answer, unless memory ran out
abbrev pub Gives : {X Y : Type 0} → (X → Y) → Result X Stop → Result Y WireFault → Type 0
Gives view (Ok x) answer = answer ≡ Ok (view x)
Gives view (Err stop) answer = Fails stop answer
