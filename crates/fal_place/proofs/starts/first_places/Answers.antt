use Rattle.std.proofs.Common.{◌≡◌, ◌∙◌, ◌≤◌, ◌<◌, ◌+◌, ◌-◌, ap, sym, subst, List, ℕ, length, drop, replicate, arith}
use Rattle.std.proofs.lemmas.List.{length-set, length-replicate}
use Rattle.fal_place.specs.Starts.{start_of, first_of}
use Rattle.fal_place.proofs.Firsts.{start_of-replicate, start_inside, first_from}
use Rattle.fal_place.proofs.starts.first_places.Goals as goal

-- at first each place is the end
pub loop-place-init : goal.loop-place-init
loop-place-init c =
    let end = length c.args.rules.now in
    let all : c.in_ok-starts.starts.items ≡ replicate 1024 end = c.in_ok-starts.ensures.items_if_clones_equal (λ y same. same) in
    let start : (name : List ℕ) → start_of c.in_ok-starts.starts.items name ≡ end = λ name. ap (λ starts. start_of starts name) all ∙ start_of-replicate end name in
    record {
      slots = ap length all ∙ length-replicate 1024 end;
      inside = omega arith;
      there = λ name. subst (λ s. s ≤ end) (sym (start name)) (omega arith);
      first = λ name. ap (λ s. first_of name (drop s c.args.rules.now)) (start name);
    }

pub loop-place-preserved : goal.loop-place-preserved
loop-place-preserved c =
    let at = c.loop-place.place - 1 in
    let rules = c.args.rules.now in
    let next : at + 1 ≡ c.loop-place.place = omega arith in
    let there : c.slot_of-slot.result < length c.loop-place.starts.items = subst (λ n. c.slot_of-slot.result < n) (sym c.loop-place.invariant.slots) c.slot_of-slot.ensures.there in
    record {
      slots = length-set c.loop-place.starts.items c.slot_of-slot.result at ∙ c.loop-place.invariant.slots;
      inside = omega arith;
      there = λ name. start_inside rules c.loop-place.starts.items at c.slot_of-slot.result _ (omega arith) c.slot_of-slot.ensures.slot there name (c.loop-place.invariant.there name);
      first = λ name. first_from rules c.loop-place.starts.items at c.slot_of-slot.result _ (omega arith) c.slot_of-slot.ensures.slot there name (c.loop-place.invariant.first name ∙ ap (λ n. first_of name (drop n rules)) (sym next));
    }

pub returns : goal.returns
returns c = λ name.
    let none : c.loop-place.place ≡ 0 = omega arith in
    record {
      inside = c.loop-place.invariant.there name;
      first = c.loop-place.invariant.first name ∙ ap (λ n. first_of name (drop n c.args.rules.now)) none;
    }
