-- Each call once, over a transcript that grows.
use Rattle.std.proofs.Common.{◌≡◌, ◌≢◌, ⊎_elim, ℕ, zero, suc, ◌+◌, ◌<◌, ◌≤◌, true, false, cond, List, [], ◌∷◌, ◌++◌, length, Some, refl, sym, ap, ◌∙◌, subst, arith, take}
use Rattle.std.specs.Prelude.{slice_get, IsSome, IsSomeAnd, ◌==◌}
use Rattle.std.proofs.lemmas.Bool.{eq-eqb, eqb-true}
use Rattle.std.proofs.lemmas.List.{take-append-le}
use Rattle.std.proofs.lemmas.Option.{same_Some}
use Rattle.std.proofs.Math.Seq.{take-append_seam}
use Rattle.fal_base.specs.declared.call.Config.{Config}
use Rattle.fal_base.specs.declared.entry.Entry.{Entry}
use Rattle.fal_base.specs.declared.entry.Entry.TheVariants.{Sent, Commit, Opened, Placed, Stale, Answered}
use Rattle.fal_base.specs.declared.reply.Reply.{Reply}
use Rattle.fal_base.specs.EachOnce.{NotAnswered, NotCommitted, NotOpened, NotPlaced, IsOpen, IsLastSent, IsEachOnce}
use Rattle.fal_base.specs.Transcript.{call_of, sents, is_list, is_place}
use Rattle.fal_story.proofs.Lists.Grown.{slice_get_front, slice_get_snoc, slice_get_below, put_all, put_both, unequal}
use Rattle.fal_story.proofs.Phase.{Phase, Idle, Tells, Replies, Opens, Lists, Goes, IsUnanswered, IsUnopened}
use Rattle.fal_story.specs.World.{put}

-- each call once: so many were sent; nothing answers a call that is under way, no commit and no change of placement is of one that is not
-- executed, and no directory was opened for one whose client was told of none
pub record Once (config : Config) (entries : List Entry) (seq : ℕ → ℕ) (phase : ℕ → Phase) : Type 0 where
  pub each : IsEachOnce config entries
  pub sent : (l : ℕ) → sents l entries ≡ seq l
  pub unanswered : (l i k : ℕ) (reply : Reply) → phase l ≢ Idle → slice_get entries i ≡ Some (Answered l (seq l) k reply) → ⊥
  pub uncommitted : (l i ino : ℕ) → IsUnanswered (phase l) → slice_get entries i ≡ Some (Commit l (seq l) ino) → ⊥
  pub unplaced : (l i version : ℕ) → IsUnanswered (phase l) → slice_get entries i ≡ Some (Placed l (seq l) version) → ⊥
  pub unopened : (l i ino point : ℕ) → IsUnopened (phase l) → slice_get entries i ≡ Some (Opened l (seq l) ino point) → ⊥

pub sents_snoc : (l : ℕ) (es : List Entry) (e : Entry) → sents l (es ++ e ∷ []) ≡ sents l es + sents l (e ∷ [])
sents_snoc l [] e = omega arith
sents_snoc l (Sent a s ∷ es) e = let h = sents_snoc l es e in omega arith
sents_snoc l (Commit a s i ∷ es) e = sents_snoc l es e
sents_snoc l (Opened a s i p ∷ es) e = sents_snoc l es e
sents_snoc l (Placed a s v ∷ es) e = sents_snoc l es e
sents_snoc l (Stale a s old new ∷ es) e = sents_snoc l es e
sents_snoc l (Answered a s k r ∷ es) e = sents_snoc l es e

-- a call that was sent is one more than those before it
pub sents_past : (l s j : ℕ) (es : List Entry) → slice_get es j ≡ Some (Sent l s) → sents l (take j es) + 1 ≤ sents l es
sents_past l s j [] at = absurd (cc)
sents_past l s zero (e ∷ es) at =
    subst (λ (x : Entry). 1 ≤ sents l (x ∷ es)) (sym (same_Some e (Sent l s) at)) (subst (λ b. 1 ≤ cond b 1 0 + sents l es) (sym (eq-eqb l l refl)) (omega arith))
sents_past l s (suc j) (Sent a t ∷ es) at =
    let rest = sents_past l s j es at in
    elim (a == l) as (λ b. cond b 1 0 + sents l (take j es) + 1 ≤ cond b 1 0 + sents l es) [ true ↦ omega arith | false ↦ omega arith ]
sents_past l s (suc j) (other ∷ es) at = sents_past l s j es at

-- ---- what stood before a place, with one more entry at the end

not_answered_more : (es : List Entry) (e : Entry) (j l s : ℕ) → j ≤ length es → NotAnswered es j l s → NotAnswered (es ++ e ∷ []) j l s
not_answered_more es e j l s within none i k r less h = ⊎_elim (λ y. none i k r less y) (λ y. let z = y.0 in absurd (omega arith)) (slice_get_snoc es e i _ h)

not_committed_more : (es : List Entry) (e : Entry) (j l s : ℕ) → j ≤ length es → NotCommitted es j l s → NotCommitted (es ++ e ∷ []) j l s
not_committed_more es e j l s within none i ino less h = ⊎_elim (λ y. none i ino less y) (λ y. let z = y.0 in absurd (omega arith)) (slice_get_snoc es e i _ h)

not_opened_more : (es : List Entry) (e : Entry) (j l s : ℕ) → j ≤ length es → NotOpened es j l s → NotOpened (es ++ e ∷ []) j l s
not_opened_more es e j l s within none i ino p less h = ⊎_elim (λ y. none i ino p less y) (λ y. let z = y.0 in absurd (omega arith)) (slice_get_snoc es e i _ h)

not_placed_more : (es : List Entry) (e : Entry) (j l s : ℕ) → j ≤ length es → NotPlaced es j l s → NotPlaced (es ++ e ∷ []) j l s
not_placed_more es e j l s within none i v less h = ⊎_elim (λ y. none i v less y) (λ y. let z = y.0 in absurd (omega arith)) (slice_get_snoc es e i _ h)

open_more : (es : List Entry) (e : Entry) (j l s : ℕ) → j ≤ length es → IsOpen es j l s → IsOpen (es ++ e ∷ []) j l s
open_more es e j l s within x = record {
  place = x.place;
  before = x.before;
  sent = slice_get_front es (e ∷ []) x.place _ x.sent;
  unanswered = not_answered_more es e j l s within x.unanswered;
}

last_more : (es : List Entry) (e : Entry) (j l s : ℕ) → j ≤ length es → IsLastSent es j l s → IsLastSent (es ++ e ∷ []) j l s
last_more es e j l s within last = ap (sents l) (take-append-le j es (e ∷ []) within) ∙ last

-- ---- a lane's last call

-- where a lane's last call was sent
record Sending (es : List Entry) (l : ℕ) : Type 0 where
  place : ℕ
  number : ℕ
  at : slice_get es place ≡ Some (Sent l number)
  last : sents l (take place es) + 1 ≡ sents l es

later_sending : (l : ℕ) (e : Entry) (es : List Entry) → ((fs : List Entry) → sents l (e ∷ fs) ≡ sents l (e ∷ []) + sents l fs) → Sending es l → Sending (e ∷ es) l
later_sending l e es adds x =
    let front = adds (take x.place es) in
    let whole = adds es in
    let last = x.last in
    record { place = suc x.place; number = x.number; at = x.at; last = omega arith }

sending : (l : ℕ) (es : List Entry) → 0 < sents l es → Sending es l
sending l [] some = absurd (omega arith)
sending l (Sent a s ∷ es) some =
    elim (sents l es) as (λ n. sents l es ≡ n → Sending (Sent a s ∷ es) l) [
      | suc n ↦ λ more. later_sending l (Sent a s) es (λ fs. omega arith) (sending l es (omega arith))
      | zero ↦ λ none. elim (a == l) as (λ b. (a == l) ≡ b → Sending (Sent a s ∷ es) l) [
        | true ↦ λ is. record {
          place = 0;
          number = s;
          at = ap (λ m. Some (Sent m s)) (eqb-true a l is);
          last = let one : sents l (Sent a s ∷ es) ≡ 1 + sents l es = ap (λ b. cond b 1 0 + sents l es) is in omega arith;
        }
        | false ↦ λ other. let same : sents l (Sent a s ∷ es) ≡ 0 + sents l es = ap (λ b. cond b 1 0 + sents l es) other in absurd (omega arith)
      ] refl
    ] refl
sending l (other ∷ es) some = later_sending l other es (λ fs. omega arith) (sending l es some)

-- a lane's last call was sent
last_sent : (config : Config) (es : List Entry) (l s : ℕ) → IsEachOnce config es → sents l es ≡ s → 0 < s → (i : ℕ) × ((i < length es) × (slice_get es i ≡ Some (Sent l s)))
last_sent config es l s x is some =
    let last = sending l es (omega arith) in
    let counts = last.last in
    let number : last.number ≡ s = (x.sent last.place l last.number last.at).0 ∙ counts ∙ is in
    (last.place, (slice_get_below es last.place _ last.at, last.at ∙ ap (λ n. Some (Sent l n)) number))

open_at_end : (config : Config) (es : List Entry) (e : Entry) (l s : ℕ) → IsEachOnce config es → sents l es ≡ s → 0 < s → NotAnswered es (length es) l s → IsOpen (es ++ e ∷ []) (length es) l s
open_at_end config es e l s x is some none =
    let sent = last_sent config es l s x is some in
    record {
      place = sent.0;
      before = sent.1.0;
      sent = slice_get_front es (e ∷ []) sent.0 _ sent.1.1;
      unanswered = not_answered_more es e (length es) l s (omega arith) none;
    }

last_at_end : (es : List Entry) (e : Entry) (l s : ℕ) → sents l es ≡ s → IsLastSent (es ++ e ∷ []) (length es) l s
last_at_end es e l s is = ap (sents l) (take-append_seam es (e ∷ [])) ∙ is

-- ---- one more entry

-- what has to hold of a new entry
abbrev EntryFits : Config → List Entry → Entry → Type 0
EntryFits config es (Sent l s) = (s ≡ sents l es + 1) × IsSome (call_of config l s)
EntryFits config es (Commit l s ino) = (sents l es ≡ s) × (0 < s) × NotAnswered es (length es) l s × NotCommitted es (length es) l s
EntryFits config es (Opened l s ino point) = (sents l es ≡ s) × (0 < s) × NotAnswered es (length es) l s × NotOpened es (length es) l s × IsSomeAnd (call_of config l s) (λ call. is_list call.op ≡ true)
EntryFits config es (Placed l s version) = (sents l es ≡ s) × (0 < s) × NotAnswered es (length es) l s × NotPlaced es (length es) l s × IsSomeAnd (call_of config l s) (λ call. is_place call.op ≡ true)
EntryFits config es (Stale l s old new) = (sents l es ≡ s) × (0 < s) × NotAnswered es (length es) l s
EntryFits config es (Answered l s k r) = (sents l es ≡ s) × (0 < s) × NotAnswered es (length es) l s

each_more : (config : Config) (es : List Entry) (e : Entry) → IsEachOnce config es → EntryFits config es e → IsEachOnce config (es ++ e ∷ [])
each_more config es e x fits =
    record {
      sent = λ j l s h. ⊎_elim
          (λ y. let z = x.sent j l s y in let b = slice_get_below es j _ y in (z.0 ∙ ap (λ t. sents l t + 1) (sym (take-append-le j es (e ∷ []) (omega arith))), z.1))
          (λ y. let z = subst (EntryFits config es) y.1 fits in (z.0 ∙ ap (λ t. sents l t + 1) (sym (ap (λ i. take i (es ++ e ∷ [])) y.0 ∙ take-append_seam es (e ∷ []))), z.1))
          (slice_get_snoc es e j _ h);
      answered = λ j l s k r h. ⊎_elim
          (λ y. let b = slice_get_below es j _ y in let z = x.answered j l s k r y in (open_more es e j l s (omega arith) z.0, last_more es e j l s (omega arith) z.1))
          (λ y. let z = subst (EntryFits config es) y.1 fits in subst (λ i. IsOpen (es ++ e ∷ []) i l s × IsLastSent (es ++ e ∷ []) i l s) (sym y.0)
          (open_at_end config es e l s x z.0 z.1 z.2, last_at_end es e l s z.0))
          (slice_get_snoc es e j _ h);
      committed = λ j l s ino h. ⊎_elim
          (λ y. let z = x.committed j l s ino y in let b = slice_get_below es j _ y in (open_more es e j l s (omega arith) z.0, not_committed_more es e j l s (omega arith) z.1))
          (λ y. let z = subst (EntryFits config es) y.1 fits in subst (λ i. IsOpen (es ++ e ∷ []) i l s × NotCommitted (es ++ e ∷ []) i l s) (sym y.0)
          (open_at_end config es e l s x z.0 z.1 z.2, not_committed_more es e (length es) l s (omega arith) z.3))
          (slice_get_snoc es e j _ h);
      opened = λ j l s ino p h. ⊎_elim
          (λ y. let z = x.opened j l s ino p y in let b = slice_get_below es j _ y in (open_more es e j l s (omega arith) z.0, not_opened_more es e j l s (omega arith) z.1, z.2))
          (λ y. let z = subst (EntryFits config es) y.1 fits in (
            subst (λ i. IsOpen (es ++ e ∷ []) i l s) (sym y.0) (open_at_end config es e l s x z.0 z.1 z.2),
            subst (λ i. NotOpened (es ++ e ∷ []) i l s) (sym y.0) (not_opened_more es e (length es) l s (omega arith) z.3),
            z.4,
          ))
          (slice_get_snoc es e j _ h);
      placed = λ j l s v h. ⊎_elim
          (λ y. let z = x.placed j l s v y in let b = slice_get_below es j _ y in (open_more es e j l s (omega arith) z.0, not_placed_more es e j l s (omega arith) z.1, z.2))
          (λ y. let z = subst (EntryFits config es) y.1 fits in (
            subst (λ i. IsOpen (es ++ e ∷ []) i l s) (sym y.0) (open_at_end config es e l s x z.0 z.1 z.2),
            subst (λ i. NotPlaced (es ++ e ∷ []) i l s) (sym y.0) (not_placed_more es e (length es) l s (omega arith) z.3),
            z.4,
          ))
          (slice_get_snoc es e j _ h);
      stale = λ j l s old new h. ⊎_elim
          (λ y. let b = slice_get_below es j _ y in open_more es e j l s (omega arith) (x.stale j l s old new y))
          (λ y. let z = subst (EntryFits config es) y.1 fits in subst (λ i. IsOpen (es ++ e ∷ []) i l s) (sym y.0) (open_at_end config es e l s x z.0 z.1 z.2))
          (slice_get_snoc es e j _ h);
    }

-- what nothing before was, and the new entry is not either
none_more : (es : List Entry) (e : Entry) (y : Entry) → (e ≡ y → ⊥) → ((i : ℕ) → slice_get es i ≡ Some y → ⊥) → (i : ℕ) → slice_get (es ++ e ∷ []) i ≡ Some y → ⊥
none_more es e y new old i h = ⊎_elim (λ z. old i z) (λ z. new z.1) (slice_get_snoc es e i y h)

-- a call that is not yet executed is
pub once_committed : (config : Config) (entries : List Entry) (seq : ℕ → ℕ) (phase : ℕ → Phase) (l ino k : ℕ) (reply : Reply) → IsUnanswered (phase l) → 0 < seq l → Once config entries seq phase
    → Once config (entries ++ Commit l (seq l) ino ∷ []) seq (put phase l (Tells (Replies k reply)))
once_committed config entries seq phase l ino k reply live some x =
    let e = Commit l (seq l) ino in
    let was : phase l ≢ Idle = λ idle. subst IsUnanswered idle live in
    record {
      each = each_more config entries e x.each (x.sent l, some, (λ i p r less h. x.unanswered l i p r was h), (λ i n less h. x.uncommitted l i n live h));
      sent = λ m. let y = sents_snoc m entries e in let z = x.sent m in omega arith;
      unanswered = λ m i p r. put_all (λ m q. q ≢ Idle → slice_get (entries ++ e ∷ []) i ≡ Some (Answered m (seq m) p r) → ⊥) phase l (Tells (Replies k reply))
          (λ _. none_more entries e _ (λ same. cc) (λ i. x.unanswered l i p r was) i)
          (λ m _ q. none_more entries e _ (λ same. cc) (λ i. x.unanswered m i p r q) i) m;
      uncommitted = λ m i n. put_all (λ m q. IsUnanswered q → slice_get (entries ++ e ∷ []) i ≡ Some (Commit m (seq m) n) → ⊥) phase l (Tells (Replies k reply))
          (λ q. absurd q)
          (λ m ne q. none_more entries e _ (λ same. ne (sym (let b : l ≡ m = cc in b))) (λ i. x.uncommitted m i n q) i) m;
      unplaced = λ m i v. put_all (λ m q. IsUnanswered q → slice_get (entries ++ e ∷ []) i ≡ Some (Placed m (seq m) v) → ⊥) phase l (Tells (Replies k reply))
          (λ q. absurd q)
          (λ m _ q. none_more entries e _ (λ same. cc) (λ i. x.unplaced m i v q) i) m;
      unopened = λ m i n p. put_all (λ m q. IsUnopened q → slice_get (entries ++ e ∷ []) i ≡ Some (Opened m (seq m) n p) → ⊥) phase l (Tells (Replies k reply))
          (λ q. absurd q)
          (λ m _ q. none_more entries e _ (λ same. cc) (λ i. x.unopened m i n p q) i) m;
    }

-- or its change of placement
pub once_placed : (config : Config) (entries : List Entry) (seq : ℕ → ℕ) (phase : ℕ → Phase) (l version k : ℕ) (reply : Reply) → IsUnanswered (phase l) → 0 < seq l → IsSomeAnd (call_of config l (seq l)) (λ call. is_place call.op ≡ true) → Once config entries seq phase
    → Once config (entries ++ Placed l (seq l) version ∷ []) seq (put phase l (Tells (Replies k reply)))
once_placed config entries seq phase l version k reply live some places x =
    let e = Placed l (seq l) version in
    let was : phase l ≢ Idle = λ idle. subst IsUnanswered idle live in
    record {
      each = each_more config entries e x.each (x.sent l, some, (λ i p r less h. x.unanswered l i p r was h), (λ i v less h. x.unplaced l i v live h), places);
      sent = λ m. let y = sents_snoc m entries e in let z = x.sent m in omega arith;
      unanswered = λ m i p r. put_all (λ m q. q ≢ Idle → slice_get (entries ++ e ∷ []) i ≡ Some (Answered m (seq m) p r) → ⊥) phase l (Tells (Replies k reply))
          (λ _. none_more entries e _ (λ same. cc) (λ i. x.unanswered l i p r was) i)
          (λ m _ q. none_more entries e _ (λ same. cc) (λ i. x.unanswered m i p r q) i) m;
      uncommitted = λ m i n. put_all (λ m q. IsUnanswered q → slice_get (entries ++ e ∷ []) i ≡ Some (Commit m (seq m) n) → ⊥) phase l (Tells (Replies k reply))
          (λ q. absurd q)
          (λ m _ q. none_more entries e _ (λ same. cc) (λ i. x.uncommitted m i n q) i) m;
      unplaced = λ m i v. put_all (λ m q. IsUnanswered q → slice_get (entries ++ e ∷ []) i ≡ Some (Placed m (seq m) v) → ⊥) phase l (Tells (Replies k reply))
          (λ q. absurd q)
          (λ m ne q. none_more entries e _ (λ same. ne (sym (let b : l ≡ m = cc in b))) (λ i. x.unplaced m i v q) i) m;
      unopened = λ m i n p. put_all (λ m q. IsUnopened q → slice_get (entries ++ e ∷ []) i ≡ Some (Opened m (seq m) n p) → ⊥) phase l (Tells (Replies k reply))
          (λ q. absurd q)
          (λ m _ q. none_more entries e _ (λ same. cc) (λ i. x.unopened m i n p q) i) m;
    }

-- the client of one learns that its table is stale, and goes on with the call
pub once_staled : (config : Config) (entries : List Entry) (seq : ℕ → ℕ) (phase : ℕ → Phase) (l old new : ℕ) (q : Phase) → phase l ≢ Idle → Goes (phase l) q → 0 < seq l → Once config entries seq phase
    → Once config (entries ++ Stale l (seq l) old new ∷ []) seq (put phase l q)
once_staled config entries seq phase l old new q was goes some x =
    let e = Stale l (seq l) old new in
    record {
      each = each_more config entries e x.each (x.sent l, some, (λ i p r less h. x.unanswered l i p r was h));
      sent = λ m. let y = sents_snoc m entries e in let z = x.sent m in omega arith;
      unanswered = λ m i p r. put_all (λ m t. t ≢ Idle → slice_get (entries ++ e ∷ []) i ≡ Some (Answered m (seq m) p r) → ⊥) phase l q
          (λ _. none_more entries e _ (λ same. cc) (λ i. x.unanswered l i p r was) i)
          (λ m _ t. none_more entries e _ (λ same. cc) (λ i. x.unanswered m i p r t) i) m;
      uncommitted = λ m i n. put_all (λ m t. IsUnanswered t → slice_get (entries ++ e ∷ []) i ≡ Some (Commit m (seq m) n) → ⊥) phase l q
          (λ t. none_more entries e _ (λ same. cc) (λ i. x.uncommitted l i n (goes.live t)) i)
          (λ m _ t. none_more entries e _ (λ same. cc) (λ i. x.uncommitted m i n t) i) m;
      unplaced = λ m i v. put_all (λ m t. IsUnanswered t → slice_get (entries ++ e ∷ []) i ≡ Some (Placed m (seq m) v) → ⊥) phase l q
          (λ t. none_more entries e _ (λ same. cc) (λ i. x.unplaced l i v (goes.live t)) i)
          (λ m _ t. none_more entries e _ (λ same. cc) (λ i. x.unplaced m i v t) i) m;
      unopened = λ m i n p. put_all (λ m t. IsUnopened t → slice_get (entries ++ e ∷ []) i ≡ Some (Opened m (seq m) n p) → ⊥) phase l q
          (λ t. none_more entries e _ (λ same. cc) (λ i. x.unopened l i n p (goes.unopened t)) i)
          (λ m _ t. none_more entries e _ (λ same. cc) (λ i. x.unopened m i n p t) i) m;
    }

-- the client of a listing is told of its directory
pub once_opened : (config : Config) (entries : List Entry) (seq : ℕ → ℕ) (phase : ℕ → Phase) (l dir point : ℕ) → phase l ≡ Tells (Opens point dir) → 0 < seq l → IsSomeAnd (call_of config l (seq l)) (λ call. is_list call.op ≡ true) → Once config entries seq phase
    → Once config (entries ++ Opened l (seq l) dir point ∷ []) seq (put phase l (Tells (Lists point dir)))
once_opened config entries seq phase l dir point is some lists x =
    let e = Opened l (seq l) dir point in
    let q = Tells (Lists point dir) in
    let was : phase l ≢ Idle = λ idle. let none : Tells (Opens point dir) ≡ Idle = sym is ∙ idle in absurd (cc) in
    let closed : IsUnopened (phase l) = subst IsUnopened (sym is) tt in
    record {
      each = each_more config entries e x.each (x.sent l, some, (λ i p r less h. x.unanswered l i p r was h), (λ i n p less h. x.unopened l i n p closed h), lists);
      sent = λ m. let y = sents_snoc m entries e in let z = x.sent m in omega arith;
      unanswered = λ m i p r. put_all (λ m t. t ≢ Idle → slice_get (entries ++ e ∷ []) i ≡ Some (Answered m (seq m) p r) → ⊥) phase l q
          (λ _. none_more entries e _ (λ same. cc) (λ i. x.unanswered l i p r was) i)
          (λ m _ t. none_more entries e _ (λ same. cc) (λ i. x.unanswered m i p r t) i) m;
      uncommitted = λ m i n. put_all (λ m t. IsUnanswered t → slice_get (entries ++ e ∷ []) i ≡ Some (Commit m (seq m) n) → ⊥) phase l q
          (λ t. absurd t)
          (λ m _ t. none_more entries e _ (λ same. cc) (λ i. x.uncommitted m i n t) i) m;
      unplaced = λ m i v. put_all (λ m t. IsUnanswered t → slice_get (entries ++ e ∷ []) i ≡ Some (Placed m (seq m) v) → ⊥) phase l q
          (λ t. absurd t)
          (λ m _ t. none_more entries e _ (λ same. cc) (λ i. x.unplaced m i v t) i) m;
      unopened = λ m i n p. put_all (λ m t. IsUnopened t → slice_get (entries ++ e ∷ []) i ≡ Some (Opened m (seq m) n p) → ⊥) phase l q
          (λ t. absurd t)
          (λ m ne t. none_more entries e _ (λ same. ne (sym (let b : l ≡ m = cc in b))) (λ i. x.unopened m i n p t) i) m;
    }

-- the lane's next call was not sent, so that it has no answer, no commit and no change of placement yet
next_unsent : (config : Config) (entries : List Entry) (seq : ℕ → ℕ) (phase : ℕ → Phase) (l j : ℕ) → Once config entries seq phase → IsOpen entries j l (seq l + 1) → ⊥
next_unsent config entries seq phase l j x is =
    let number = (x.each.sent is.place l (seq l + 1) is.sent).0 in
    let more = sents_past l (seq l + 1) is.place entries is.sent in
    let all = x.sent l in
    absurd (omega arith)

next_unanswered : (config : Config) (entries : List Entry) (seq : ℕ → ℕ) (phase : ℕ → Phase) (l i k : ℕ) (reply : Reply) → Once config entries seq phase → slice_get entries i ≡ Some (Answered l (seq l + 1) k reply) → ⊥
next_unanswered config entries seq phase l i k reply x h = next_unsent config entries seq phase l i x (x.each.answered i l (seq l + 1) k reply h).0

next_uncommitted : (config : Config) (entries : List Entry) (seq : ℕ → ℕ) (phase : ℕ → Phase) (l i ino : ℕ) → Once config entries seq phase → slice_get entries i ≡ Some (Commit l (seq l + 1) ino) → ⊥
next_uncommitted config entries seq phase l i ino x h = next_unsent config entries seq phase l i x (x.each.committed i l (seq l + 1) ino h).0

next_unplaced : (config : Config) (entries : List Entry) (seq : ℕ → ℕ) (phase : ℕ → Phase) (l i version : ℕ) → Once config entries seq phase → slice_get entries i ≡ Some (Placed l (seq l + 1) version) → ⊥
next_unplaced config entries seq phase l i version x h = next_unsent config entries seq phase l i x (x.each.placed i l (seq l + 1) version h).0

next_unopened : (config : Config) (entries : List Entry) (seq : ℕ → ℕ) (phase : ℕ → Phase) (l i ino point : ℕ) → Once config entries seq phase → slice_get entries i ≡ Some (Opened l (seq l + 1) ino point) → ⊥
next_unopened config entries seq phase l i ino point x h = next_unsent config entries seq phase l i x (x.each.opened i l (seq l + 1) ino point h).0

-- a call is sent
pub once_sent : (config : Config) (entries : List Entry) (seq : ℕ → ℕ) (phase : ℕ → Phase) (l : ℕ) (q : Phase) → IsSome (call_of config l (seq l + 1)) → Once config entries seq phase
    → Once config (entries ++ Sent l (seq l + 1) ∷ []) (put seq l (seq l + 1)) (put phase l q)
once_sent config entries seq phase l q named x =
    let e = Sent l (seq l + 1) in
    record {
      each = each_more config entries e x.each (ap (λ n. n + 1) (sym (x.sent l)), named);
      sent = λ m. sents_snoc m entries e ∙ put_all (λ m s. sents m entries + sents m (e ∷ []) ≡ s) seq l (seq l + 1)
          (ap (λ b. sents l entries + (cond b 1 0 + 0)) (eq-eqb l l refl) ∙ (let z = x.sent l in omega arith))
          (λ m ne. ap (λ b. sents m entries + (cond b 1 0 + 0)) (unequal l m (λ y. ne (sym y))) ∙ (let z = x.sent m in omega arith)) m;
      unanswered = λ m i p r. put_both (λ m s t. t ≢ Idle → slice_get (entries ++ e ∷ []) i ≡ Some (Answered m s p r) → ⊥) seq phase l (seq l + 1) q
          (λ _. none_more entries e _ (λ same. cc) (λ j. next_unanswered config entries seq phase l j p r x) i)
          (λ m _ t. none_more entries e _ (λ same. cc) (λ j. x.unanswered m j p r t) i) m;
      uncommitted = λ m i n. put_both (λ m s t. IsUnanswered t → slice_get (entries ++ e ∷ []) i ≡ Some (Commit m s n) → ⊥) seq phase l (seq l + 1) q
          (λ _. none_more entries e _ (λ same. cc) (λ j. next_uncommitted config entries seq phase l j n x) i)
          (λ m _ t. none_more entries e _ (λ same. cc) (λ j. x.uncommitted m j n t) i) m;
      unplaced = λ m i v. put_both (λ m s t. IsUnanswered t → slice_get (entries ++ e ∷ []) i ≡ Some (Placed m s v) → ⊥) seq phase l (seq l + 1) q
          (λ _. none_more entries e _ (λ same. cc) (λ j. next_unplaced config entries seq phase l j v x) i)
          (λ m _ t. none_more entries e _ (λ same. cc) (λ j. x.unplaced m j v t) i) m;
      unopened = λ m i n p. put_both (λ m s t. IsUnopened t → slice_get (entries ++ e ∷ []) i ≡ Some (Opened m s n p) → ⊥) seq phase l (seq l + 1) q
          (λ _. none_more entries e _ (λ same. cc) (λ j. next_unopened config entries seq phase l j n p x) i)
          (λ m _ t. none_more entries e _ (λ same. cc) (λ j. x.unopened m j n p t) i) m;
    }

-- the lane's last call is answered, which was not
pub once_answered : (config : Config) (entries : List Entry) (seq : ℕ → ℕ) (phase : ℕ → Phase) (l k : ℕ) (reply : Reply) → 0 < seq l → NotAnswered entries (length entries) l (seq l) → Once config entries seq phase
    → Once config (entries ++ Answered l (seq l) k reply ∷ []) seq (put phase l Idle)
once_answered config entries seq phase l k reply some none x =
    let e = Answered l (seq l) k reply in
    record {
      each = each_more config entries e x.each (x.sent l, some, none);
      sent = λ m. let y = sents_snoc m entries e in let z = x.sent m in omega arith;
      unanswered = λ m i p r. put_all (λ m t. t ≢ Idle → slice_get (entries ++ e ∷ []) i ≡ Some (Answered m (seq m) p r) → ⊥) phase l Idle
          (λ t. absurd (t refl))
          (λ m ne t. none_more entries e _ (λ same. ne (sym (let b : l ≡ m = cc in b))) (λ j. x.unanswered m j p r t) i) m;
      uncommitted = λ m i n. put_all (λ m t. IsUnanswered t → slice_get (entries ++ e ∷ []) i ≡ Some (Commit m (seq m) n) → ⊥) phase l Idle
          (λ t. absurd t)
          (λ m ne t. none_more entries e _ (λ same. cc) (λ j. x.uncommitted m j n t) i) m;
      unplaced = λ m i v. put_all (λ m t. IsUnanswered t → slice_get (entries ++ e ∷ []) i ≡ Some (Placed m (seq m) v) → ⊥) phase l Idle
          (λ t. absurd t)
          (λ m ne t. none_more entries e _ (λ same. cc) (λ j. x.unplaced m j v t) i) m;
      unopened = λ m i n p. put_all (λ m t. IsUnopened t → slice_get (entries ++ e ∷ []) i ≡ Some (Opened m (seq m) n p) → ⊥) phase l Idle
          (λ t. absurd t)
          (λ m ne t. none_more entries e _ (λ same. cc) (λ j. x.unopened m j n p t) i) m;
    }

-- nothing answers the call that was sent just now
pub just_sent : (config : Config) (entries : List Entry) (seq : ℕ → ℕ) (phase : ℕ → Phase) (l : ℕ) → Once config entries seq phase
    → NotAnswered (entries ++ Sent l (seq l + 1) ∷ []) (length (entries ++ Sent l (seq l + 1) ∷ [])) l (seq l + 1)
just_sent config entries seq phase l x i k r less = none_more entries (Sent l (seq l + 1)) _ (λ same. cc) (λ j. next_unanswered config entries seq phase l j k r x) i
