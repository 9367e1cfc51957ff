-- Nothing is due at a quiet node.
use Rattle.std.proofs.Common.{◌≡◌, Bool, true, false, ◌&&◌, not, suc, cond, List, [], ◌∷◌, ◌++◌, length, map, filter, ◌==◌, refl, ap, ◌∙◌, arith}
use Rattle.std.proofs.lemmas.Bool.Decides.{nat_tests}
use Rattle.fal_batch.specs.Plan.{plan_of, is_idle}
use Rattle.fal_node.specs.declared.batch.Batch.{Batch}
use Rattle.fal_node.specs.declared.item.Item.{Item}
use Rattle.fal_node.specs.declared.event.OwnEvent.{OwnEvent}
use Rattle.fal_node.specs.declared.event.OwnEvent.TheVariants.{Gather, Exec, Release, Serve}
use Rattle.fal_node.specs.Due.{dues, due_gather, due_execs, due_releases, due_serves, is_quiet}
use Rattle.fal_node.specs.Gather.{setting_at, plan_at}
use Rattle.fal_node.specs.Serve.{can_serve}
use Rattle.fal_node.specs.State.{NodeState}

none_left : {X : Type 0} (xs : List X) → (length xs == 0) ≡ true → xs ≡ []
none_left [] none = refl
none_left (x ∷ xs) none = let wrong : (suc (length xs) == 0) ≡ false = grind (arith, nat_tests) in absurd (cc)

both : (a b c : Bool) → (a && b && c) ≡ true → (a ≡ true) × (b ≡ true) × (c ≡ true)
both true true true e = (refl, refl, refl)
both true true false e = absurd (cc)
both true false c e = absurd (cc)
both false b c e = absurd (cc)

-- no call waits, so the plan does nothing
none_gathered : (node : NodeState) → node.waiting.calls ≡ [] → due_gather node ≡ []
unfolding plan_at
none_gathered node none = ap (λ calls. cond (is_idle (plan_of (setting_at node) (record node.waiting { calls = calls }))) [] (Gather ∷ [])) none

pub none_due : (node : NodeState) → is_quiet node ≡ true → dues node ≡ []
none_due node quiet =
    let none = both (length node.batches == 0) (length node.waiting.calls == 0) (length node.items == 0) quiet in
    let batches = none_left node.batches none.0 in
    ap (λ (events : List OwnEvent). events ++ due_execs node ++ due_releases node ++ due_serves node) (none_gathered node (none_left node.waiting.calls none.1))
    ∙ ap (λ (bs : List Batch). map (λ b. Exec b.number) (filter (λ b. not b.executed) bs) ++ map (λ b. Release b.number) (filter (λ b. b.executed) bs) ++ due_serves node) batches
    ∙ ap (λ (items : List Item). map (λ i. Serve i.number) (filter (λ i. can_serve node i.message) items)) (none_left node.items none.2)
