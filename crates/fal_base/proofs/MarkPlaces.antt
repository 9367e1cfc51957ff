-- Where a client's mark goes among marks in the order of the clients.
use Rattle.std.proofs.Common.{◌≡◌, ◌≢◌, ℕ, suc, ◌<◌, [], ◌∷◌, length, get_or, set, refl, sym, ap, subst, arith}
use Rattle.std.specs.List.{insert}
use Rattle.std.specs.declared.cmp.Ordering.TheVariants.{Less, Equal, Greater}
use Rattle.std.specs.Ordering.{nat_cmp, MatchOrdering}
use Rattle.std.specs.FinMap.Entries.{by_order}
use Rattle.std.proofs.lemmas.Cmp.{ranked}
use Rattle.fal_base.specs.declared.mark.Mark.{Mark}
use Rattle.fal_base.specs.Marks.{Marks, mark_place, with_mark}

put_here : (client : ℕ) (mark : Mark) (ms : Marks) (found : ℕ × Mark) → mark_place client ms < length ms → found ≡ get_or ms (mark_place client ms) found → client ≡ found.0
    → set ms (mark_place client ms) (found.0, mark) ≡ with_mark ms client mark
put_here client mark [] found lt is same = absurd (omega arith)
put_here client mark (m ∷ ms) found below here alike =
    elim (nat_cmp client m.0) as (λ r. MatchOrdering r (client < m.0) (client ≡ m.0) (m.0 < client) → by_order r 0 0 (suc (mark_place client ms)) < suc (length ms)
    → found ≡ get_or (m ∷ ms) (by_order r 0 0 (suc (mark_place client ms))) found → client ≡ found.0
    → set (m ∷ ms) (by_order r 0 0 (suc (mark_place client ms))) (found.0, mark) ≡ by_order r ((client, mark) ∷ m ∷ ms) ((m.0, mark) ∷ ms) (m ∷ with_mark ms client mark)) [
      | Less ↦ λ c lt is same. let first : found.0 ≡ m.0 = ap (λ x. x.0) is in absurd (omega arith)
      | Equal ↦ λ c lt is same. ap (λ x. (x.0, mark) ∷ ms) is
      | Greater ↦ λ c lt is same. ap (λ rest. m ∷ rest) (put_here client mark ms found (omega arith) is same)
    ] (ranked client m.0 _ refl) below here alike

put_new : (client : ℕ) (mark : Mark) (ms : Marks) (d : ℕ × Mark) → (mark_place client ms < length ms → client ≢ (get_or ms (mark_place client ms) d).0)
    → insert ms (mark_place client ms) (client, mark) ≡ with_mark ms client mark
put_new client mark [] d apart = refl
put_new client mark (m ∷ ms) d apart =
    elim (nat_cmp client m.0) as (λ r. MatchOrdering r (client < m.0) (client ≡ m.0) (m.0 < client)
    → (by_order r 0 0 (suc (mark_place client ms)) < suc (length ms) → client ≢ (get_or (m ∷ ms) (by_order r 0 0 (suc (mark_place client ms))) d).0)
    → insert (m ∷ ms) (by_order r 0 0 (suc (mark_place client ms))) (client, mark) ≡ by_order r ((client, mark) ∷ m ∷ ms) ((m.0, mark) ∷ ms) (m ∷ with_mark ms client mark)) [
      | Less ↦ λ c new. refl
      | Equal ↦ λ c new. absurd (new (omega arith) c)
      | Greater ↦ λ c new. ap (λ rest. m ∷ rest) (put_new client mark ms d (λ lt. new (omega arith)))
    ] (ranked client m.0 _ refl) apart

-- the mark at the client's place is replaced
pub put_at : (client : ℕ) (mark : Mark) (ms : Marks) (at : ℕ) (found : ℕ × Mark) → at ≡ mark_place client ms → at < length ms → found ≡ get_or ms at found → client ≡ found.0
    → set ms at (found.0, mark) ≡ with_mark ms client mark
put_at client mark ms at found place lt is same =
    subst (λ n. set ms n (found.0, mark) ≡ with_mark ms client mark) (sym place)
    (put_here client mark ms found (subst (λ n. n < length ms) place lt) (subst (λ n. found ≡ get_or ms n found) place is) same)

-- a new client's mark goes to its place
pub put_new_at : (client : ℕ) (mark : Mark) (ms : Marks) (at : ℕ) (d : ℕ × Mark) → at ≡ mark_place client ms → (at < length ms → client ≢ (get_or ms at d).0)
    → insert ms at (client, mark) ≡ with_mark ms client mark
put_new_at client mark ms at d place apart =
    subst (λ n. insert ms n (client, mark) ≡ with_mark ms client mark) (sym place)
    (put_new client mark ms d (subst (λ n. n < length ms → client ≢ (get_or ms n d).0) place apart))
