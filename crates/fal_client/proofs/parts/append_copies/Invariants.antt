use Rattle.std.proofs.Common.{◌≡◌, ◌++◌, take}
use Rattle.fal_client.proofs.parts.append_copies.Given as goal

-- the names so far are appended
abbrev pub invariant-loop-name : goal.invariant-loop-name
invariant-loop-name l = l.names.items ≡ l.initial.names.items ++ take l.name-index l.more
