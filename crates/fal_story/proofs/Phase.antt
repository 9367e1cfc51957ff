-- Where a call is.
use Rattle.std.proofs.Common.{ℕ, Option, Some, None, ◌≡◌, ◌⊎◌, inl, inr, refl, sym, subst, ◌∙◌}
use Rattle.fal_base.specs.declared.reply.Reply.{Reply}
use Rattle.fal_story.proofs.Lists.Grown.{put_all}
use Rattle.fal_story.specs.World.{put}
use Rattle.fal_run.specs.declared.call.BatchCall.{BatchCall}

-- what a call that was executed has come to: an answer, with its point; or the directory that it lists, which was opened at a point
pub data Answer : Type 0 where
  Replies : (point : ℕ) (reply : Reply) → Answer
  -- its client is not told of the directory yet
  Opens : (point dir : ℕ) → Answer
  -- its client asks each node for its part
  Lists : (point dir : ℕ) → Answer

-- where the one live copy of a lane's call is
pub data Phase : Type 0 where
  -- no call is under way
  Idle : Phase
  -- its record to this node was not taken yet
  Asked : (n : ℕ) → Phase
  Waits : (n : ℕ) (fetch : Option ℕ) → Phase
  Plans : (n : ℕ) (planned : BatchCall) → Phase
  -- it is the operation that is carried out: walked, and not yet decided
  Runs : Phase
  -- the table of its client is of this version, and a later one is under way to it
  Told : (old new : ℕ) → Phase
  -- it was executed: its answer is under way, or the parts of it
  Tells : (answer : Answer) → Phase

-- the call was not yet executed
abbrev pub IsUnanswered : Phase → Type 0
IsUnanswered Idle = ⊥
IsUnanswered (Asked n) = Unit {0}
IsUnanswered (Waits n f) = Unit {0}
IsUnanswered (Plans n x) = Unit {0}
IsUnanswered Runs = Unit {0}
IsUnanswered (Told old new) = Unit {0}
IsUnanswered (Tells answer) = ⊥

-- the call was not yet executed, or its client has still to be told of the directory that it lists
abbrev pub IsUnopened : Phase → Type 0
IsUnopened Idle = ⊥
IsUnopened (Asked n) = Unit {0}
IsUnopened (Waits n f) = Unit {0}
IsUnopened (Plans n x) = Unit {0}
IsUnopened Runs = Unit {0}
IsUnopened (Told old new) = Unit {0}
IsUnopened (Tells (Replies point reply)) = ⊥
IsUnopened (Tells (Opens point dir)) = Unit {0}
IsUnopened (Tells (Lists point dir)) = ⊥

pub live_unopened : (p : Phase) → IsUnanswered p → IsUnopened p
live_unopened Idle is = is
live_unopened (Asked n) is = tt
live_unopened (Waits n f) is = tt
live_unopened (Plans n x) is = tt
live_unopened Runs is = tt
live_unopened (Told old new) is = tt
live_unopened (Tells answer) is = absurd is

-- no listing is under way
abbrev pub IsUnlisted : Phase → Type 0
IsUnlisted (Tells (Opens point dir)) = ⊥
IsUnlisted (Tells (Lists point dir)) = ⊥
IsUnlisted other = Unit {0}

pub live_unlisted : (p : Phase) → IsUnanswered p → IsUnlisted p
live_unlisted Idle is = tt
live_unlisted (Asked n) is = tt
live_unlisted (Waits n f) is = tt
live_unlisted (Plans n x) is = tt
live_unlisted Runs is = tt
live_unlisted (Told old new) is = tt
live_unlisted (Tells answer) is = absurd is

-- the call was not yet executed, and is at this node or on its way to it
abbrev pub IsFor : ℕ → Phase → Type 0
IsFor n Idle = ⊥
IsFor n (Asked m) = m ≡ n
IsFor n (Waits m f) = m ≡ n
IsFor n (Plans m x) = m ≡ n
IsFor n Runs = ⊥
IsFor n (Told old new) = ⊥
IsFor n (Tells answer) = ⊥

-- the node keeps the call
abbrev pub IsHeld : ℕ → Phase → Type 0
IsHeld n Idle = ⊥
IsHeld n (Asked m) = ⊥
IsHeld n (Waits m f) = m ≡ n
IsHeld n (Plans m x) = m ≡ n
IsHeld n Runs = ⊥
IsHeld n (Told old new) = ⊥
IsHeld n (Tells answer) = ⊥

-- the place of the call at this node rests on the keys that it has crossed
abbrev pub IsCrossing : ℕ → Phase → Type 0
IsCrossing n Idle = ⊥
IsCrossing n (Asked m) = ⊥
IsCrossing n (Waits m None) = ⊥
IsCrossing n (Waits m (Some fetch)) = m ≡ n
IsCrossing n (Plans m x) = m ≡ n
IsCrossing n Runs = ⊥
IsCrossing n (Told old new) = ⊥
IsCrossing n (Tells answer) = ⊥

-- the call was taken by an actor, and is not answered
abbrev pub IsTaken : Phase → Type 0
IsTaken Idle = ⊥
IsTaken (Asked n) = ⊥
IsTaken (Waits n f) = Unit {0}
IsTaken (Plans n x) = Unit {0}
IsTaken Runs = Unit {0}
IsTaken (Told old new) = Unit {0}
IsTaken (Tells answer) = ⊥

pub taken_live : (p : Phase) → IsTaken p → IsUnanswered p
taken_live Idle is = is
taken_live (Asked n) is = absurd is
taken_live (Waits n f) is = tt
taken_live (Plans n x) is = tt
taken_live Runs is = tt
taken_live (Told old new) is = tt
taken_live (Tells answer) is = is

-- the call for which an operation was started, and decided or given up
abbrev pub IsPast : Phase → Type 0
IsPast Idle = Unit {0}
IsPast (Asked n) = ⊥
IsPast (Waits n f) = ⊥
IsPast (Plans n x) = ⊥
IsPast Runs = Unit {0}
IsPast (Told old new) = ⊥
IsPast (Tells answer) = Unit {0}

-- ---- calls that move

-- of a call that moves: it is under way if it was, is not executed only if it was not, and stays answered; a listing goes on
pub record Goes (p q : Phase) : Type 0 where
  pub still : p ≡ Idle → q ≡ Idle
  pub live : IsUnanswered q → IsUnanswered p
  pub unopened : IsUnopened q → IsUnopened p
  pub done : (point : ℕ) (reply : Reply) → p ≡ Tells (Replies point reply) → q ≡ Tells (Replies point reply)
  pub opened : (point dir : ℕ) → p ≡ Tells (Opens point dir) → (q ≡ Tells (Opens point dir)) ⊎ (q ≡ Tells (Lists point dir))
  pub listing : (point dir : ℕ) → p ≡ Tells (Lists point dir) → q ≡ Tells (Lists point dir)

-- one that is on its way to an actor stays so
abbrev pub Stays : Phase → Phase → Type 0
Stays p q = (n : ℕ) → p ≡ Asked n → q ≡ Asked n

-- it is the operation's if it was
pub record IsSteady (p q : Phase) : Type 0 where
  pub runs : p ≡ Runs → q ≡ Runs
  pub ran : q ≡ Runs → p ≡ Runs
  pub past : IsPast p → IsPast q

-- a place where an actor has the call, or its answer
abbrev pub IsPlace : Phase → Type 0
IsPlace Idle = ⊥
IsPlace (Asked n) = ⊥
IsPlace (Waits n f) = Unit {0}
IsPlace (Plans n x) = Unit {0}
IsPlace Runs = ⊥
IsPlace (Told old new) = Unit {0}
IsPlace (Tells answer) = Unit {0}

pub goes_same : (p q : Phase) → q ≡ p → Goes p q
goes_same p q same = record {
  still = λ e. same ∙ e;
  live = λ e. subst IsUnanswered same e;
  unopened = λ e. subst IsUnopened same e;
  done = λ point reply e. same ∙ e;
  opened = λ point dir e. inl (same ∙ e);
  listing = λ point dir e. same ∙ e;
}

pub steady_same : (p q : Phase) → q ≡ p → IsSteady p q
steady_same p q same = record { runs = λ e. same ∙ e; ran = λ e. sym same ∙ e; past = λ e. subst IsPast (sym same) e }

-- a call that was not executed goes anywhere
pub goes_live : (p q : Phase) → IsUnanswered p → Goes p q
goes_live p q live = record {
  still = λ e. absurd (subst IsUnanswered e live);
  live = λ _. live;
  unopened = λ _. live_unopened p live;
  done = λ point reply e. absurd (subst IsUnanswered e live);
  opened = λ point dir e. absurd (subst IsUnanswered e live);
  listing = λ point dir e. absurd (subst IsUnanswered e live);
}

-- the client of a listing is told of its directory
pub goes_on : (point dir : ℕ) (p q : Phase) → p ≡ Tells (Opens point dir) → q ≡ Tells (Lists point dir) → Goes p q
goes_on point dir p q was is = record {
  still = λ e. let none : Tells (Opens point dir) ≡ Idle = sym was ∙ e in absurd (cc);
  live = λ e. absurd (subst IsUnanswered is e);
  unopened = λ e. absurd (subst IsUnopened is e);
  done = λ k reply e. let none : Tells (Opens point dir) ≡ Tells (Replies k reply) = sym was ∙ e in absurd (cc);
  opened = λ k d e. inr (is ∙ (let same : Tells (Opens point dir) ≡ Tells (Opens k d) = sym was ∙ e in cc));
  listing = λ k d e. let none : Tells (Opens point dir) ≡ Tells (Lists k d) = sym was ∙ e in absurd (cc);
}

pub stays_taken : (p q : Phase) → IsTaken p → Stays p q
stays_taken p q taken n e = absurd (subst IsTaken e taken)

pub held_taken : (n : ℕ) (p : Phase) → IsHeld n p → IsTaken p
held_taken n Idle h = h
held_taken n (Asked m) h = absurd h
held_taken n (Waits m f) h = tt
held_taken n (Plans m x) h = tt
held_taken n Runs h = absurd h
held_taken n (Told old new) h = absurd h
held_taken n (Tells answer) h = h

pub held_live : (n : ℕ) (p : Phase) → IsHeld n p → IsUnanswered p
held_live n Idle h = h
held_live n (Asked m) h = absurd h
held_live n (Waits m f) h = tt
held_live n (Plans m x) h = tt
held_live n Runs h = absurd h
held_live n (Told old new) h = absurd h
held_live n (Tells answer) h = h

held_not_past : (n : ℕ) (p : Phase) → IsHeld n p → IsPast p → ⊥
held_not_past n Idle h past = h
held_not_past n (Asked m) h past = h
held_not_past n (Waits m f) h past = past
held_not_past n (Plans m x) h past = past
held_not_past n Runs h past = h
held_not_past n (Told old new) h past = h
held_not_past n (Tells answer) h past = h

pub steady_held : (n : ℕ) (p q : Phase) → IsHeld n p → IsPlace q → IsSteady p q
steady_held n p q held place = record {
  runs = λ e. absurd (subst (IsHeld n) e held);
  ran = λ e. absurd (subst IsPlace e place);
  past = λ past. absurd (held_not_past n p held past);
}

-- the place rests on no keys
abbrev pub IsBare : Phase → Type 0
IsBare Idle = Unit {0}
IsBare (Asked n) = Unit {0}
IsBare (Waits n None) = Unit {0}
IsBare (Waits n (Some fetch)) = ⊥
IsBare (Plans n x) = ⊥
IsBare Runs = Unit {0}
IsBare (Told old new) = Unit {0}
IsBare (Tells answer) = Unit {0}

pub bare_crosses : (n : ℕ) (p : Phase) → IsBare p → IsCrossing n p → ⊥
bare_crosses n Idle bare is = is
bare_crosses n (Asked m) bare is = is
bare_crosses n (Waits m None) bare is = is
bare_crosses n (Waits m (Some fetch)) bare is = bare
bare_crosses n (Plans m x) bare is = bare
bare_crosses n Runs bare is = is
bare_crosses n (Told old new) bare is = is
bare_crosses n (Tells answer) bare is = is

pub goes_put : (phase : ℕ → Phase) (l : ℕ) (p : Phase) → IsUnanswered (phase l) → (a : ℕ) → Goes (phase a) (put phase l p a)
goes_put phase l p live = put_all (λ a q. Goes (phase a) q) phase l p (goes_live (phase l) p live) (λ a _. goes_same (phase a) (phase a) refl)

pub stays_put : (phase : ℕ → Phase) (l : ℕ) (p : Phase) → IsTaken (phase l) → (a : ℕ) → Stays (phase a) (put phase l p a)
stays_put phase l p taken = put_all (λ a q. Stays (phase a) q) phase l p (stays_taken (phase l) p taken) (λ a _ n e. e)
