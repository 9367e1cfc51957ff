-- The order of the marks of a client's calls: what is not newer than a mark stays so when the mark grows.
use Rattle.std.proofs.Common.{◌≡◌, ◌≢◌, ◌⊎◌, inl, inr, ℕ, ◌+◌, ◌<◌, cond, true, false, Option, Some, None, refl, sym, ap, ◌∙◌, arith}
use Rattle.std.specs.declared.cmp.Ordering.{Ordering}
use Rattle.std.specs.declared.cmp.Ordering.TheVariants.{Less, Equal, Greater}
use Rattle.std.specs.Ordering.{nat_cmp, ordering_then, ordering_reverse, is_gt, is_eq, MatchOrdering}
use Rattle.std.specs.Cmp.{nat_cmp_is, IsTotalOrder, then_total, on_total, nat_cmp_total, tied_itself}
use Rattle.std.specs.FinMap.Entries.{find-put}
use Rattle.std.proofs.lemmas.Cmp.{ranked}
use Rattle.fal_base.specs.declared.mark.Mark.{Mark}
use Rattle.fal_base.specs.Marks.{Marks, mark_cmp, last_mark, with_mark, is_newer}

mark_cmp_total : IsTotalOrder mark_cmp
unfolding mark_cmp
mark_cmp_total = then_total (on_total (λ m. m.seq) nat_cmp_total) (then_total (on_total (λ m. m.attempt) nat_cmp_total) (on_total (λ m. m.hop) nat_cmp_total))

greater_of : (r : Ordering) → is_gt r ≡ true → r ≡ Greater
greater_of Less is = cc
greater_of Equal is = cc
greater_of Greater is = refl

turned : (a b : Mark) → is_gt (mark_cmp a b) ≡ true → mark_cmp b a ≡ Less
turned a b is = mark_cmp_total.antisymm b a ∙ ap ordering_reverse (greater_of _ is)

turned_back : (a b : Mark) → mark_cmp b a ≡ Less → is_gt (mark_cmp a b) ≡ true
turned_back a b is = ap is_gt (mark_cmp_total.antisymm a b ∙ ap ordering_reverse is)

-- a mark is not newer than itself
pub not_newer_itself : (m : Mark) → is_newer m (Some m) ≡ false
not_newer_itself m = ap is_gt (tied_itself mark_cmp_total m)

-- what is not newer than the last mark is not newer than one that is
pub not_newer_later : (a b : Mark) (last : Option Mark) → is_newer b last ≡ true → is_newer a last ≡ false → is_newer a (Some b) ≡ false
not_newer_later a b None newer old = absurd (cc)
not_newer_later a b (Some last) newer old =
    elim (is_gt (mark_cmp a b)) as (λ r. is_gt (mark_cmp a b) ≡ r → r ≡ false) [
      | true ↦ λ is. let beyond : is_gt (mark_cmp a last) ≡ true = turned_back a last (mark_cmp_total.trans last b a (turned b last newer) (turned a b is)) in absurd (cc)
      | false ↦ λ is. refl
    ] refl

-- what is newer than the last mark is newer than one that is not
pub newer_past : (a b m : Mark) → is_newer b (Some a) ≡ true → is_newer m (Some a) ≡ false → is_newer b (Some m) ≡ true
newer_past a b m newer old =
    let above : mark_cmp a b ≡ Less = turned b a newer in
    turned_back b m
    (elim (mark_cmp m a) as (λ r. mark_cmp m a ≡ r → is_gt r ≡ false → mark_cmp m b ≡ Less) [
      | Less ↦ λ is _. mark_cmp_total.trans m a b is above
      | Equal ↦ λ is _. mark_cmp_total.congr m a b is ∙ above
      | Greater ↦ λ is no. absurd (cc)
    ] refl old)

-- a call that is handed on is newer
pub newer_hop : (m : Mark) → is_newer (record m { hop = m.hop + 1 }) (Some m) ≡ true
unfolding mark_cmp
newer_hop m =
    let higher : m.hop < m.hop + 1 = omega arith in
    ap (λ r. is_gt (ordering_then r (ordering_then (nat_cmp m.attempt m.attempt) (nat_cmp (m.hop + 1) m.hop)))) (sym (nat_cmp_is m.seq m.seq Equal refl))
    ∙ ap (λ r. is_gt (ordering_then r (nat_cmp (m.hop + 1) m.hop))) (sym (nat_cmp_is m.attempt m.attempt Equal refl))
    ∙ ap (λ r. is_gt r) (sym (nat_cmp_is (m.hop + 1) m.hop Greater higher))

-- and so is one that is tried again
pub newer_attempt : (m : Mark) → is_newer (record m { attempt = m.attempt + 1; hop = 0 }) (Some m) ≡ true
unfolding mark_cmp
newer_attempt m =
    let higher : m.attempt < m.attempt + 1 = omega arith in
    ap (λ r. is_gt (ordering_then r (ordering_then (nat_cmp (m.attempt + 1) m.attempt) (nat_cmp 0 m.hop)))) (sym (nat_cmp_is m.seq m.seq Equal refl))
    ∙ ap (λ r. is_gt (ordering_then r (nat_cmp 0 m.hop))) (sym (nat_cmp_is (m.attempt + 1) m.attempt Greater higher))

-- the mark of the client that was put, or of another
abbrev pub IsMarkOf : Marks → ℕ → Mark → ℕ → Type 0
IsMarkOf marks client mark q =
    ((q ≡ client) × (last_mark (with_mark marks client mark) q ≡ Some mark)) ⊎ ((q ≢ client) × (last_mark (with_mark marks client mark) q ≡ last_mark marks q))

pub mark_cases : (marks : Marks) (client : ℕ) (mark : Mark) (q : ℕ) → IsMarkOf marks client mark q
mark_cases marks client mark q =
    elim (nat_cmp q client) as (λ r. MatchOrdering r (q < client) (q ≡ client) (client < q)
    → last_mark (with_mark marks client mark) q ≡ cond (is_eq r) (Some mark) (last_mark marks q) → IsMarkOf marks client mark q) [
      | Less ↦ λ c is. inr ((λ e. absurd (omega arith)), is)
      | Equal ↦ λ c is. inl (c, is)
      | Greater ↦ λ c is. inr ((λ e. absurd (omega arith)), is)
    ] (ranked q client _ refl) (find-put nat_cmp nat_cmp_total q client mark marks)
