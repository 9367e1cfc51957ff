-- How far the calls of each client have come at a node.
use Rattle.std.specs.Prelude.{ℕ, suc, Bool, true, List, [], ◌∷◌, Option, None, Some}
use Rattle.std.specs.declared.cmp.Ordering.{Ordering}
use Rattle.std.specs.Ordering.{nat_cmp, ordering_then, is_gt}
use Rattle.std.specs.FinMap.Entries.{find, put, by_order}
use Rattle.fal_base.specs.declared.call.CallId.{CallId}
use Rattle.fal_base.specs.declared.mark.Mark.{Mark}

-- by the call's number, then by the attempt, then by how often it was passed on
unfoldable pub mark_cmp : Mark → Mark → Ordering
mark_cmp a b = ordering_then (nat_cmp a.seq b.seq) (ordering_then (nat_cmp a.attempt b.attempt) (nat_cmp a.hop b.hop))

abbrev pub mark_of : CallId → Mark
mark_of id = record { seq = id.seq; attempt = id.attempt; hop = id.hop }

-- the last mark of each client, in the order of the clients' numbers
abbrev pub Marks : Type 0
Marks = List (ℕ × Mark)

abbrev pub last_mark : Marks → ℕ → Option Mark
last_mark marks client = find nat_cmp client marks

abbrev pub with_mark : Marks → ℕ → Mark → Marks
with_mark marks client mark = put nat_cmp client mark marks

-- a client's first call is newer than nothing
abbrev pub is_newer : Mark → Option Mark → Bool
is_newer mark None = true
is_newer mark (Some last) = is_gt (mark_cmp mark last)

-- the place of the first client that is not below this one
abbrev pub mark_place : ℕ → Marks → ℕ
mark_place client [] = 0
mark_place client (m ∷ ms) = by_order (nat_cmp client m.0) 0 0 (suc (mark_place client ms))
