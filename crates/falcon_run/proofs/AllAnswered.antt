-- Each call of a cluster is answered where each that was sent is, and all were sent.
use Rattle.std.proofs.Common.{◌≡◌, ℕ, zero, suc, ◌+◌, ◌<◌, ◌≤◌, true, false, cond, List, [], ◌∷◌, length, take, Option, Some, None, refl, ap, ◌∙◌, subst, arith, eqb-true}
use Rattle.std.specs.Prelude.{slice_get, ◌==◌, IsSome, unwrap_or}
use Rattle.fal_base.specs.declared.call.Call.{Call}
use Rattle.fal_base.specs.declared.call.Config.{Config}
use Rattle.fal_base.specs.declared.entry.Entry.{Entry}
use Rattle.fal_base.specs.declared.entry.Entry.TheVariants.{Sent, Commit, Opened, Placed, Stale, Answered}
use Rattle.fal_base.specs.declared.reply.Reply.{Reply}
use Rattle.fal_base.specs.EachOnce.{IsEachOnce}
use Rattle.fal_base.specs.Transcript.{call_of, lane_call, numbered, sents}
use Rattle.fal_story.specs.Clusters.{calls_of_lane}
use Rattle.fal_story.specs.Fresh.{AreAnswered}
use Rattle.falcon_run.specs.Recorded.{AreAllAnswered}

-- ---- the call of a number

numbered_below : (calls : List Call) (seq : ℕ) → IsSome (numbered calls seq) → (0 < seq) × (seq ≤ length calls)
numbered_below calls zero some = absurd (cc)
numbered_below [] (suc k) some = absurd (cc)
numbered_below (call ∷ calls) (suc zero) some = (omega arith, omega arith)
numbered_below (call ∷ calls) (suc (suc k)) some = let rest = (numbered_below calls (suc k) some).1 in (omega arith, omega arith)

-- a call that is there has one of the numbers of its lane
pub call_below : (config : Config) (lane seq : ℕ) → IsSome (call_of config lane seq) → (0 < seq) × (seq ≤ length (calls_of_lane config lane))
call_below config lane seq some =
    elim (numbered config.lanes lane) as (λ (o : Option (List Call)). IsSome (lane_call o seq) → (0 < seq) × (seq ≤ length (unwrap_or o []))) [
      | None ↦ λ t. absurd (cc)
      | Some calls ↦ λ t. numbered_below calls seq t
    ] some

-- ---- the entry of a number

-- the entry by which a lane's call of this number was sent
record IsSentAt (lane seq : ℕ) (entries : List Entry) : Type 0 where
  place : ℕ
  number : ℕ
  at : slice_get entries place ≡ Some (Sent lane number)
  before : sents lane (take place entries) + 1 ≡ seq

deeper : (lane seq : ℕ) (entry : Entry) (entries : List Entry) → ((k : ℕ) → sents lane (take (suc k) (entry ∷ entries)) ≡ sents lane (take k entries)) → IsSentAt lane seq entries → IsSentAt lane seq (entry ∷ entries)
deeper lane seq entry entries same is = let s = same is.place in let b = is.before in record { place = suc is.place; number = is.number; at = is.at; before = omega arith }

after_sent : (lane seq other s : ℕ) (entries : List Entry) → (other == lane) ≡ true → IsSentAt lane seq entries → IsSentAt lane (suc seq) (Sent other s ∷ entries)
after_sent lane seq other s entries same is =
    let here : sents lane (take (suc is.place) (Sent other s ∷ entries)) ≡ 1 + sents lane (take is.place entries) = ap (λ b. cond b 1 0 + sents lane (take is.place entries)) same in
    let b = is.before in
    record { place = suc is.place; number = is.number; at = is.at; before = omega arith }

sent_at : (lane seq : ℕ) (entries : List Entry) → 0 < seq → seq ≤ sents lane entries → IsSentAt lane seq entries
sent_at lane seq [] some few = absurd (omega arith)
sent_at lane zero (entry ∷ entries) some few = absurd (omega arith)
sent_at lane (suc n) (Sent other s ∷ entries) some few =
    elim (other == lane) as (λ b. (other == lane) ≡ b → suc n ≤ cond b 1 0 + sents lane entries → IsSentAt lane (suc n) (Sent other s ∷ entries)) [
      | false ↦ λ is all. deeper lane (suc n) (Sent other s) entries (λ k. ap (λ b. cond b 1 0 + sents lane (take k entries)) is ∙ nothing_before (sents lane (take k entries))) (sent_at lane (suc n) entries some (omega arith))
      | true ↦ λ is all.
          elim n as (λ m. suc m ≤ 1 + sents lane entries → IsSentAt lane (suc m) (Sent other s ∷ entries)) [
            | zero ↦ λ _. record { place = 0; number = s; at = ap (λ l. Some (Sent l s)) (eqb-true other lane is); before = refl }
            | suc m ↦ λ more. after_sent lane (suc m) other s entries is (sent_at lane (suc m) entries (omega arith) (omega arith))
          ] all
    ] refl few
  where
    nothing_before : (k : ℕ) → 0 + k ≡ k
    nothing_before k = omega arith
sent_at lane (suc n) (Commit a s ino ∷ entries) some few = deeper lane (suc n) (Commit a s ino) entries (λ k. refl) (sent_at lane (suc n) entries some few)
sent_at lane (suc n) (Opened a s ino point ∷ entries) some few = deeper lane (suc n) (Opened a s ino point) entries (λ k. refl) (sent_at lane (suc n) entries some few)
sent_at lane (suc n) (Placed a s version ∷ entries) some few = deeper lane (suc n) (Placed a s version) entries (λ k. refl) (sent_at lane (suc n) entries some few)
sent_at lane (suc n) (Stale a s old new ∷ entries) some few = deeper lane (suc n) (Stale a s old new) entries (λ k. refl) (sent_at lane (suc n) entries some few)
sent_at lane (suc n) (Answered a s point reply ∷ entries) some few = deeper lane (suc n) (Answered a s point reply) entries (λ k. refl) (sent_at lane (suc n) entries some few)

-- all calls were sent, and so all are answered
pub all_answered : (config : Config) (entries : List Entry) → IsEachOnce config entries → AreAnswered entries → ((lane : ℕ) → sents lane entries ≡ length (calls_of_lane config lane)) → AreAllAnswered config entries
all_answered config entries once answered all lane seq some =
    let below = call_below config lane seq some in
    let high = below.1 in
    let every = all lane in
    let sent = sent_at lane seq entries below.0 (omega arith) in
    let number : sent.number ≡ seq = (once.sent sent.place lane sent.number sent.at).0 ∙ sent.before in
    subst (λ (s : ℕ). (i : ℕ) × ((point : ℕ) × ((reply : Reply) × (slice_get entries i ≡ Some (Answered lane s point reply))))) number (answered sent.place lane sent.number sent.at)
