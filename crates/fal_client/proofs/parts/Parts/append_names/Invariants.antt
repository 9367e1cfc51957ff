use Rattle.std.proofs.Common.{◌≡◌, ◌++◌, take}
use Rattle.fal_client.specs.Parts.{names_of}
use Rattle.fal_client.proofs.parts.Parts.append_names.Given as goal

-- the names so far are appended
abbrev pub invariant-loop-place : goal.invariant-loop-place
invariant-loop-place l = l.names.items ≡ l.initial.names.items ++ names_of (take l.place-index l.place-items)
