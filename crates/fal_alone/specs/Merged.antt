-- Two lists of lines in the order of their keys, taken as one.
use Rattle.std.specs.Prelude.{◌≡◌, ◌⊎◌, Bool, true, false, List, [], ◌∷◌}
use Rattle.std.specs.Ordering.{is_lt}
use Rattle.fal_base.specs.declared.row.TreeLine.{TreeLine}
use Rattle.fal_base.specs.Tree.{key_cmp}

-- whether the next line is one of the second list
abbrev pub is_second_next : List TreeLine → List TreeLine → Bool
is_second_next first [] = false
is_second_next [] (other ∷ second) = true
is_second_next (line ∷ first) (other ∷ second) = is_lt (key_cmp other.key line.key)

-- the next line is taken out of the list that it heads
abbrev pub TakesNext : List TreeLine → List TreeLine → TreeLine → List TreeLine → List TreeLine → Type 0
TakesNext first second line first-left second-left =
    ((first ≡ line ∷ first-left) × (second ≡ second-left)) ⊎ ((is_second_next first second ≡ true) × (first ≡ first-left) × (second ≡ line ∷ second-left))
