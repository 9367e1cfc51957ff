-- Worked examples of the definitions.
use Rattle.std.proofs.Common.{◌≡◌, ℕ, List, [], ◌∷◌, refl}
use Rattle.std.specs.Prelude.{codes}
use Rattle.fal_base.specs.declared.rule.Rule.TheVariants.{ByParent, Node}
use Rattle.fal_base.specs.Tree.{key_of, root_key}
use Rattle.fal_place.specs.Hash.{name_hash, key_hash}
use Rattle.fal_place.specs.Placement.{Placing, opening_table, with_rule, owner, route, changes_since, with_changes, table_after}

hash_of_nothing : name_hash [] ≡ 0xcbf29ce484222325
unfolding name_hash
hash_of_nothing = refl

hash_of_a : name_hash (codes "a") ≡ 0xaf63dc4c8601ec8c
unfolding name_hash
hash_of_a = refl

hash_of_a_key : key_hash 257 (codes "x") ≡ 0xdd5e553a1faae575
unfolding name_hash key_hash
hash_of_a_key = refl

-- the owners on so many nodes of the names a, b, c and x under directory 1
abbrev owners : ℕ → List ℕ
owners nodes =
    let at = λ (name : List ℕ). owner (opening_table nodes) (key_of 1 name) in
    at (codes "a") ∷ at (codes "b") ∷ at (codes "c") ∷ at (codes "x") ∷ []

owners_of_three_nodes : owners 3 ≡ 1 ∷ 1 ∷ 0 ∷ 2 ∷ []
unfolding name_hash
owners_of_three_nodes = refl

owners_of_two_nodes : owners 2 ≡ 0 ∷ 1 ∷ 0 ∷ 1 ∷ []
unfolding name_hash
owners_of_two_nodes = refl

the_roots_owner : owner (with_rule (opening_table 3) [] (Node 2)) root_key ≡ 0
the_roots_owner = refl

-- x by parent, and c at node 2
abbrev placings : List Placing
placings =
    record { name = codes "x"; rule = ByParent } ∷ record { name = codes "c"; rule = Node 1 } ∷ record { name = codes "x"; rule = Node 0 } ∷
    record { name = codes "x"; rule = ByParent } ∷ record { name = codes "c"; rule = Node 2 } ∷ []

owner_by_parent : owner (table_after 3 placings 5) (key_of 257 (codes "x")) ≡ 0
unfolding name_hash key_hash
owner_by_parent = refl

owner_that_is_named : owner (table_after 3 placings 5) (key_of 257 (codes "c")) ≡ 2
owner_that_is_named = refl

route_of_the_root : route (table_after 3 placings 5) [] ≡ 0
route_of_the_root = refl

route_by_parent : route (table_after 3 placings 5) (codes "c" ∷ codes "x" ∷ []) ≡ 2
unfolding name_hash
route_by_parent = refl

route_that_is_named : route (table_after 3 placings 1) (codes "x" ∷ codes "c" ∷ []) ≡ 0
unfolding name_hash
route_that_is_named = refl

changed_since_three : changes_since 3 (table_after 3 placings 5)
    ≡ record { name = codes "x"; rule = ByParent; version = 4 } ∷ record { name = codes "c"; rule = Node 2; version = 5 } ∷ []
changed_since_three = refl

caught_up : with_changes (table_after 3 placings 2) 5 (changes_since 2 (table_after 3 placings 5)) ≡ table_after 3 placings 5
caught_up = refl
