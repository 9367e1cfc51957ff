-- The items of a history stand in the order of their points; at one point the reads stand in the order of their answers, and then comes the commit.
use Rattle.std.proofs.Common.{◌≡◌, ℕ, zero, suc, ◌+◌, ◌≤◌, true, false, not, ◌&&◌, ◌||◌, cond, List, [], ◌∷◌, ◌++◌, length, Some, None, Option, nat_eq, refl, sym, ap, ◌∙◌, subst, append_assoc, append-nil, arith}
use Rattle.std.specs.Prelude.{slice_get}
use Rattle.std.proofs.lemmas.Bool.{and_parts, eqb-true}
use Rattle.std.proofs.lemmas.Option.{same_Some}
use Rattle.fal_base.specs.declared.call.Call.{Call}
use Rattle.fal_base.specs.declared.call.Config.{Config}
use Rattle.fal_base.specs.declared.entry.Entry.{Entry}
use Rattle.fal_base.specs.declared.entry.Entry.TheVariants as entry
use Rattle.fal_base.specs.declared.reply.Reply.{Reply}
use Rattle.fal_base.specs.Commits.{Commit}
use Rattle.fal_base.specs.History.{Item, Reads, Makes, has_commit, reads_item, reads_at, history_from, history}
use Rattle.fal_base.specs.Transcript.{call_of, commits_of, is_names, is_place}

-- an item's point, and the place of its answer; the call of a commit comes after every answer
abbrev pub HasKey : Config → List Entry → Item → ℕ → ℕ → Type 0
HasKey config entries (Reads lane seq call reply) point place =
    (slice_get entries place ≡ Some (entry.Answered lane seq point reply)) × (call_of config lane seq ≡ Some call) × (is_place call.op || is_names reply ≡ false)
HasKey config entries (Makes commit) point place = (slice_get (commits_of config entries) point ≡ Some commit) × (place ≡ length entries)

-- by point, and then by place
abbrev pub IsNotAbove : ℕ → ℕ → ℕ → ℕ → Type 0
IsNotAbove k place point other = (k ≤ point) × (k ≡ point → place ≤ other)

-- the keys of these items rise, from this one on
abbrev pub KeysRise : Config → List Entry → ℕ → ℕ → List Item → Type 0
KeysRise config entries k from [] = Unit {0}
KeysRise config entries k from (item ∷ items) = (point : ℕ) × (place : ℕ) × IsNotAbove k from point place × HasKey config entries item point place × KeysRise config entries point (place + 1) items

below_both : (a b c d e f : ℕ) → IsNotAbove a b c d → IsNotAbove c d e f → IsNotAbove a b e f
below_both a b c d e f x y = omega arith

rise_from : (config : Config) (entries : List Entry) (k from point place : ℕ) (items : List Item) → IsNotAbove k from point place → KeysRise config entries point place items → KeysRise config entries k from items
rise_from config entries k from point place [] below rise = tt
rise_from config entries k from point place (item ∷ items) below rise = (rise.0, rise.1, below_both k from point place rise.0 rise.1 below rise.2, rise.3, rise.4)

-- an item with its key, which is not below this one
pub record IsKept (config : Config) (entries : List Entry) (k from : ℕ) (item : Item) : Type 0 where
  pub point : ℕ
  pub place : ℕ
  pub above : IsNotAbove k from point place
  pub has : HasKey config entries item point place

below_next : (a b c d : ℕ) → IsNotAbove a b c d → IsNotAbove a b c (d + 1)
below_next a b c d x = omega arith

rise_later : (config : Config) (entries : List Entry) (k from : ℕ) (items : List Item) → KeysRise config entries k from items → (a : ℕ) (item : Item) → slice_get items a ≡ Some item → IsKept config entries k from item
rise_later config entries k from [] rise a item e = absurd (cc)
rise_later config entries k from (x ∷ items) rise zero item e =
    record { point = rise.0; place = rise.1; above = rise.2; has = subst (λ y. HasKey config entries y rise.0 rise.1) (same_Some x item e) rise.3 }
rise_later config entries k from (x ∷ items) rise (suc a) item e =
    let later = rise_later config entries rise.0 (rise.1 + 1) items rise.4 a item e in
    record {
      point = later.point;
      place = later.place;
      above = below_both k from rise.0 (rise.1 + 1) later.point later.place (below_next k from rise.0 rise.1 rise.2) later.above;
      has = later.has;
    }

-- two items, of which the second has no lower key
pub record AreKept (config : Config) (entries : List Entry) (item other : Item) : Type 0 where
  pub point : ℕ
  pub place : ℕ
  pub has : HasKey config entries item point place
  pub next : IsKept config entries point place other

pub rise_pair : (config : Config) (entries : List Entry) (k from : ℕ) (items : List Item) → KeysRise config entries k from items → (b a : ℕ) (item other : Item) → b ≤ a → slice_get items b ≡ Some item
    → slice_get items a ≡ Some other → AreKept config entries item other
rise_pair config entries k from [] rise b a item other le e f = absurd (cc)
rise_pair config entries k from (x ∷ items) rise zero zero item other le e f =
    record {
      point = rise.0;
      place = rise.1;
      has = subst (λ y. HasKey config entries y rise.0 rise.1) (same_Some x item e) rise.3;
      next = record { point = rise.0; place = rise.1; above = omega arith; has = subst (λ y. HasKey config entries y rise.0 rise.1) (same_Some x other f) rise.3 };
    }
rise_pair config entries k from (x ∷ items) rise zero (suc a) item other le e f =
    let later = rise_later config entries rise.0 rise.1 items (rise_from config entries rise.0 rise.1 rise.0 (rise.1 + 1) items (omega arith) rise.4) a other f in
    record { point = rise.0; place = rise.1; has = subst (λ y. HasKey config entries y rise.0 rise.1) (same_Some x item e) rise.3; next = later }
rise_pair config entries k from (x ∷ items) rise (suc b) zero item other le e f = absurd (omega arith)
rise_pair config entries k from (x ∷ items) rise (suc b) (suc a) item other le e f = rise_pair config entries rise.0 (rise.1 + 1) items rise.4 b a item other (omega arith) e f

-- a list is what stands in another one from this place on
abbrev pub StandsFrom : {A : Type 0} → List A → ℕ → List A → Type 0
StandsFrom all from items = (j place : ℕ) → place ≡ from + j → slice_get items j ≡ slice_get all place

stands_next : {A : Type 0} (all : List A) (from : ℕ) (item : A) (items : List A) → StandsFrom all from (item ∷ items) → StandsFrom all (from + 1) items
stands_next all from item items stands j place e = stands (suc j) place (omega arith)

-- one answer, and what comes after it
one_rises : (config : Config) (all : List Entry) (k place lane seq : ℕ) (reply : Reply) (found : Option Call) (items : List Item) → slice_get all place ≡ Some (entry.Answered lane seq k reply) → call_of config lane seq ≡ found
    → KeysRise config all k (place + 1) items → KeysRise config all k place (reads_item found lane seq reply ++ items)
one_rises config all k place lane seq reply None items stands named rise = rise_from config all k place k (place + 1) items (omega arith) rise
one_rises config all k place lane seq reply (Some call) items stands named rise =
    elim (is_place call.op || is_names reply)
    as (λ b. is_place call.op || is_names reply ≡ b → KeysRise config all k place (cond b [] (Reads lane seq call reply ∷ []) ++ items)) [
      | true ↦ λ e. rise_from config all k place k (place + 1) items (omega arith) rise
      | false ↦ λ e. (k, place, omega arith, (stands, named, e), rise)
    ] refl

reads_rise : (config : Config) (all : List Entry) (commits : List Commit) (k place : ℕ) (entries : List Entry) (items : List Item) → StandsFrom all place entries → place + length entries ≡ length all
    → KeysRise config all k (length all) items → KeysRise config all k place (reads_at config commits k entries ++ items)
reads_rise config all commits k place [] items stands end rise = rise_from config all k place k (length all) items (omega arith) rise
reads_rise config all commits k place (entry.Answered lane seq point reply ∷ entries) items stands end rise =
    let more = reads_rise config all commits k (place + 1) entries items (stands_next all place _ entries stands) (omega arith) rise in
    let rest = reads_at config commits k entries in
    elim (nat_eq point k && not (has_commit commits lane seq))
    as (λ b. nat_eq point k && not (has_commit commits lane seq) ≡ b → KeysRise config all k place ((cond b (reads_item (call_of config lane seq) lane seq reply) [] ++ reads_at config commits k entries) ++ items)) [
      | false ↦ λ e. rise_from config all k place k (place + 1) (rest ++ items) (omega arith) more
      | true ↦ λ e.
          let same : point ≡ k = eqb-true point k (and_parts _ _ e).0 in
          let here : slice_get all place ≡ Some (entry.Answered lane seq k reply) = sym (stands zero place (omega arith)) ∙ ap (λ p. Some (entry.Answered lane seq p reply)) same in
          subst (KeysRise config all k place) (sym (append_assoc (reads_item (call_of config lane seq) lane seq reply) rest items))
          (one_rises config all k place lane seq reply (call_of config lane seq) (rest ++ items) here refl more)
    ] refl
reads_rise config all commits k place (other ∷ entries) items stands end rise =
    let more = reads_rise config all commits k (place + 1) entries items (stands_next all place _ entries stands) (omega arith) rise in
    rise_from config all k place k (place + 1) (reads_at config commits k entries ++ items) (omega arith) more

from_start : {A : Type 0} (all : List A) → StandsFrom all 0 all
from_start all j place e = ap (slice_get all) (omega (arith, e))

rises_from : (config : Config) (entries : List Entry) (k : ℕ) (rest : List Commit) → StandsFrom (commits_of config entries) k rest → KeysRise config entries k 0 (history_from config (commits_of config entries) entries k rest)
rises_from config entries k [] stands =
    subst (KeysRise config entries k 0) (append-nil _) (reads_rise config entries (commits_of config entries) k 0 entries [] (from_start entries) (omega arith) tt)
rises_from config entries k (commit ∷ rest) stands =
    let items = history_from config (commits_of config entries) entries (k + 1) rest in
    let more = rises_from config entries (k + 1) rest (stands_next (commits_of config entries) k commit rest stands) in
    let later = rise_from config entries k (length entries + 1) (k + 1) 0 items (omega arith) more in
    reads_rise config entries (commits_of config entries) k 0 entries (Makes commit ∷ items) (from_start entries) (omega arith)
    (k, length entries, omega arith, (sym (stands zero k (omega arith)), refl), later)

-- the keys of a history rise
pub history_rises : (config : Config) (entries : List Entry) → KeysRise config entries 0 0 (history config entries)
history_rises config entries = rises_from config entries 0 (commits_of config entries) (from_start (commits_of config entries))
