-- The history of a linear transcript keeps the order of real time.
use Rattle.std.proofs.Common.{◌≡◌, ◌⊎◌, inl, inr, ⊎_elim, ℕ, ◌<◌, ◌≤◌, List, Some, refl, sym, ap, ◌∙◌, subst, arith}
use Rattle.std.specs.Prelude.{slice_get}
use Rattle.std.proofs.lemmas.Bool.{cases_lt, cases_order, or_parts}
use Rattle.std.proofs.lemmas.Option.{slice_get_within}
use Rattle.fal_base.specs.declared.call.Call.{Call}
use Rattle.fal_base.specs.declared.call.Config.{Config}
use Rattle.fal_base.specs.declared.entry.Entry.{Entry}
use Rattle.fal_base.specs.declared.entry.Entry.TheVariants as entry
use Rattle.fal_base.specs.declared.reply.Reply.{Reply}
use Rattle.fal_base.specs.EachOnce.{IsEachOnce}
use Rattle.fal_base.specs.History.{Item, Reads, Makes, history, IsOf, KeepsOrder}
use Rattle.fal_base.specs.Linear.{IsLinear, IsAnswer}
use Rattle.fal_base.specs.Transcript.{is_commit, at}
use Rattle.fal_law.proofs.Counts.{count_past, count_rises}
use Rattle.fal_law.proofs.Keys.{HasKey, rise_pair, history_rises}
use Rattle.fal_law.proofs.Positions.{one_answer, one_sent, sent_before, commits_called, commit_entry}

-- an item that reads is an answer
read_answer : (config : Config) (entries : List Entry) → IsLinear config entries → (lane seq point place : ℕ) (call : Call) (reply : Reply) → HasKey config entries (Reads lane seq call reply) point place
    → IsAnswer config entries place lane seq point reply call
read_answer config entries linear lane seq point place call reply has =
    let kinds = or_parts _ _ has.2 in
    linear.answers place lane seq point reply call has.0 has.1 kinds.0 kinds.1

-- of a call that is answered at i: it reads, at a point that was reached by then and with that answer, or it is a commit that stands before i
abbrev IsAnsweredBy : List Entry → ℕ → ℕ → ℕ → Type 0
IsAnsweredBy entries i point place = ((point ≤ at entries i) × (place ≡ i)) ⊎ (point < at entries i)

answered_by : (config : Config) (entries : List Entry) → IsEachOnce config entries → IsLinear config entries → (i lane seq told : ℕ) (reply : Reply) → slice_get entries i ≡ Some (entry.Answered lane seq told reply)
    → (item : Item) → IsOf lane seq item → (point place : ℕ) → HasKey config entries item point place → IsAnsweredBy entries i point place
answered_by config entries once linear i lane seq told reply answered (Reads other number call answer) by point place has =
    let says = read_answer config entries linear other number point place call answer has in
    let own : slice_get entries i ≡ Some (entry.Answered other number told reply) = answered ∙ ap (λ l. Some (entry.Answered l seq told reply)) (sym by.0) ∙ ap (λ s. Some (entry.Answered other s told reply)) (sym by.1) in
    let same = one_answer config entries once place i other number point told answer reply has.0 own in
    inl (subst (λ p. point ≤ at entries p) same says.to, same)
answered_by config entries once linear i lane seq told reply answered (Makes commit) by point place has =
    let found = commit_entry config entries (commits_called config entries once) point commit has.0 in
    let own : slice_get entries i ≡ Some (entry.Answered commit.lane commit.seq told reply) =
    answered ∙ ap (λ l. Some (entry.Answered l seq told reply)) (sym by.0) ∙ ap (λ s. Some (entry.Answered commit.lane s told reply)) (sym by.1)
    in
    let unanswered = (once.committed found.place commit.lane commit.seq commit.ino found.stands).0.unanswered in
    ⊎_elim (λ same. absurd (let wrong : Some (entry.Answered commit.lane commit.seq told reply) ≡ Some (entry.Commit commit.lane commit.seq commit.ino) = sym own ∙ ap (slice_get entries) same ∙ found.stands in cc))
    (⊎_elim
    (λ before. absurd (unanswered i told reply before own))
    (λ after. let past = count_past is_commit entries found.place i _ found.stands refl after in let count = found.count in inr (omega (arith, past, count))))
    (cases_order i found.place)

-- of a call that is sent at j: its point was not passed by then, and its place comes after j
abbrev IsSentBefore : List Entry → ℕ → ℕ → ℕ → Type 0
IsSentBefore entries j point place = (at entries j ≤ point) × (j < place)

sent_by : (config : Config) (entries : List Entry) → IsEachOnce config entries → IsLinear config entries → (j lane seq : ℕ) → slice_get entries j ≡ Some (entry.Sent lane seq) → (item : Item) → IsOf lane seq item → (point place : ℕ)
    → HasKey config entries item point place → IsSentBefore entries j point place
sent_by config entries once linear j lane seq sent (Reads other number call answer) by point place has =
    let says = read_answer config entries linear other number point place call answer has in
    let own : slice_get entries j ≡ Some (entry.Sent other number) = sent ∙ ap (λ l. Some (entry.Sent l seq)) (sym by.0) ∙ ap (λ s. Some (entry.Sent other s)) (sym by.1) in
    let same = one_sent config entries once says.sent j other number says.is_sent own in
    (subst (λ p. at entries p ≤ point) same says.from, subst (λ p. p < place) same says.before)
sent_by config entries once linear j lane seq sent (Makes commit) by point place has =
    let found = commit_entry config entries (commits_called config entries once) point commit has.0 in
    let own : slice_get entries j ≡ Some (entry.Sent commit.lane commit.seq) = sent ∙ ap (λ l. Some (entry.Sent l seq)) (sym by.0) ∙ ap (λ s. Some (entry.Sent commit.lane s)) (sym by.1) in
    let open_at = (once.committed found.place commit.lane commit.seq commit.ino found.stands).0 in
    let before = sent_before config entries once j found.place commit.lane commit.seq own open_at in
    let rises = count_rises is_commit entries j found.place (omega (arith, before)) in
    let count = found.count in
    let within = slice_get_within entries j _ sent in
    let end = has.1 in
    (omega (arith, rises, count), omega (arith, within, end))

-- what is answered before another call is sent is not ordered behind it
not_back : (entries : List Entry) (i j point place other there : ℕ) → i < j → IsSentBefore entries j point place → IsAnsweredBy entries i other there → point ≤ other → (point ≡ other → place ≤ there) → ⊥
not_back entries i j point place other there before sent answered points places =
    let rises = count_rises is_commit entries i j (omega arith) in
    let least = sent.0 in
    let later = sent.1 in
    ⊎_elim
    (λ h. let most = h.0 in let same = h.1 in let below = places (omega (arith, rises, least, most, points)) in omega (arith, below, later, same, before))
    (λ h. omega (arith, rises, least, h, points))
    answered

pub linear_keeps_order : (config : Config) (entries : List Entry) → IsEachOnce config entries → IsLinear config entries → KeepsOrder entries (history config entries)
linear_keeps_order config entries once linear i j point lane seq other number reply a b first second answered sent before at_a at_b of_first of_second =
    ⊎_elim (λ h. h)
    (λ h.
    let both = rise_pair config entries 0 0 (history config entries) (history_rises config entries) b a second first h at_b at_a in
    absurd (not_back entries i j both.point both.place both.next.point both.next.place before
    (sent_by config entries once linear j other number sent second of_second both.point both.place both.has)
    (answered_by config entries once linear i lane seq point reply answered first of_first both.next.point both.next.place both.next.has)
    both.next.above.0 both.next.above.1))
    (cases_lt a b)
