-- What a change of placement is answered, over a transcript that grows: what was right stays right.
use Rattle.std.proofs.Common.{◌≡◌, ◌≢◌, ◌⊎◌, inl, inr, ⊎_elim, ℕ, ◌+◌, ◌<◌, ◌≤◌, true, false, not, ◌&&◌, cond, List, [], ◌∷◌, ◌++◌, length, nat_le, Some, refl, sym, ap, ◌∙◌, subst, arith, take}
use Rattle.std.specs.Prelude.{slice_get, IsTrue, count_by, ◌==◌, ◌↔◌}
use Rattle.std.proofs.lemmas.Bool.Decides.{nat_tests, eqb_tells, leb_tells}
use Rattle.std.proofs.lemmas.List.{length_push, take-append-le}
use Rattle.std.proofs.Math.Seq.{take-append_seam}
use Rattle.fal_base.specs.declared.call.Call.{Call}
use Rattle.fal_base.specs.declared.call.Config.{Config}
use Rattle.fal_base.specs.declared.call.Cred.{Cred}
use Rattle.fal_base.specs.declared.entry.Entry.{Entry}
use Rattle.fal_base.specs.declared.entry.Entry.TheVariants as entry
use Rattle.fal_base.specs.declared.op.Op.TheVariants as op
use Rattle.fal_base.specs.declared.reply.Errno.TheVariants.{Eperm, Einval, Enospc}
use Rattle.fal_base.specs.declared.reply.Reply.{Reply}
use Rattle.fal_base.specs.declared.reply.Reply.TheVariants.{Fine, Fail}
use Rattle.fal_base.specs.declared.rule.Rule.{Rule}
use Rattle.fal_base.specs.declared.rule.Rule.TheVariants as rule
use Rattle.fal_base.specs.Answer.{checked}
use Rattle.fal_base.specs.Places.{is_ruled, is_full, is_outside, placed_name, call_name, with_name, names_ruled, ruled_before, place_answer, told, ArePlaced, AreOlder, IsPlaceAnswer}
use Rattle.fal_base.specs.Transcript.{call_of, at, placed, is_commit, is_placed}
use Rattle.fal_place.specs.Placement.{Placement, has_rule, is_full_for, is_within}
use Rattle.fal_story.proofs.Lists.Grown.{slice_get_below, slice_get_front, slice_get_snoc}
use Rattle.fal_story.proofs.Trees.Placings.{IsTableOf, names_append, placed_ruled, ruled_new, ruled_with}
use Rattle.fal_story.proofs.Trees.Transcript.{at_end, at_front, count_snoc}

-- ---- what a change of placement is answered, by the names that have a rule

-- there is room for these names
abbrev pub HasRoom : List (List ℕ) → List (List ℕ) → Type 0
HasRoom names [] = Unit {0}
HasRoom names (name ∷ more) = (is_ruled name names ≡ true) ⊎ (length names < 1024)

-- with the next name there are still no more than 1,024
pub few_with : (names more : List (List ℕ)) → length names ≤ 1024 → HasRoom names more → length (with_name names more) ≤ 1024
few_with names [] few room = few
few_with names (name ∷ more) few room =
    let push = length_push names name in
    elim (is_ruled name names) as (λ b. is_ruled name names ≡ b → length (cond b names (names ++ name ∷ [])) ≤ 1024) [
      | true ↦ λ is. few
      | false ↦ λ none. ⊎_elim {C = length (names ++ name ∷ []) ≤ 1024} (λ is. absurd (cc)) (λ less. omega arith) room
    ] refl

-- where no more names fit, the next name had a rule
full_keeps : (names more : List (List ℕ)) (name : List ℕ) → HasRoom names more → is_full names name ≡ true → with_name names more ≡ names
full_keeps names [] name room full = refl
full_keeps names (new ∷ more) name room full =
    ⊎_elim {C = with_name names (new ∷ more) ≡ names}
    (λ is. ap (λ b. cond b names (names ++ new ∷ [])) is)
    (λ less.
    let not_all : (length names == 1024) ≡ false = grind (arith, nat_tests) in
    let wrong : is_full names name ≡ false = ap (λ b. b && not (is_ruled name names)) not_all in
    absurd (cc))
    room

-- a name that has a rule finds room
ruled_fits : (names : List (List ℕ)) (name : List ℕ) → is_ruled name names ≡ true → is_full names name ≡ false
ruled_fits names name is = ap (λ b. (length names == 1024) && not b) is ∙ elim (length names == 1024) as (λ b. (b && false) ≡ false) [ true ↦ refl | false ↦ refl ]

-- an answer stays the same when one more name gets a rule
pub answer_keeps : (nodes : ℕ) (names more : List (List ℕ)) (cred : Cred) (name : List ℕ) (rule : Rule) → HasRoom names more → (place_answer nodes names cred name rule ≡ Fine → is_ruled name names ≡ true)
    → place_answer nodes (with_name names more) cred name rule ≡ place_answer nodes names cred name rule
answer_keeps nodes names more cred name rule room fine =
    let next = with_name names more in
    elim (not (cred.uid == 0)) as (λ b. (cond b (Fail Eperm) (cond (is_outside rule nodes) (Fail Einval) (cond (is_full names name) (Fail Enospc) Fine)) ≡ Fine → is_ruled name names ≡ true)
    → cond b (Fail Eperm) (cond (is_outside rule nodes) (Fail Einval) (cond (is_full next name) (Fail Enospc) Fine)) ≡ cond b (Fail Eperm) (cond (is_outside rule nodes) (Fail Einval) (cond (is_full names name) (Fail Enospc) Fine))) [
      | true ↦ λ _. refl
      | false ↦ elim (is_outside rule nodes) as (λ b. (cond b (Fail Einval) (cond (is_full names name) (Fail Enospc) Fine) ≡ Fine → is_ruled name names ≡ true)
          → cond b (Fail Einval) (cond (is_full next name) (Fail Enospc) Fine) ≡ cond b (Fail Einval) (cond (is_full names name) (Fail Enospc) Fine)) [
            | true ↦ λ _. refl
            | false ↦ λ is. ap (λ b. cond b (Fail Enospc) Fine) (elim (is_full names name) as (λ b. is_full names name ≡ b → (cond b (Fail Enospc) Fine ≡ Fine → is_ruled name names ≡ true) → is_full next name ≡ b) [
              | true ↦ λ full _. ap (λ ns. is_full ns name) (full_keeps names more name room full) ∙ full
              | false ↦ λ _ ruled. ruled_fits next name (ruled_with names more name (ruled refl))
            ] refl is)
          ]
    ] fine

-- where a change is answered ok there is room for its name
pub fine_room : (nodes : ℕ) (names : List (List ℕ)) (cred : Cred) (name : List ℕ) (rule : Rule) → length names ≤ 1024 → place_answer nodes names cred name rule ≡ Fine → HasRoom names (name ∷ [])
fine_room nodes names cred name rule few =
    elim (not (cred.uid == 0)) as (λ b. cond b (Fail Eperm) (cond (is_outside rule nodes) (Fail Einval) (cond (is_full names name) (Fail Enospc) Fine)) ≡ Fine → HasRoom names (name ∷ [])) [
      | true ↦ λ wrong. absurd (cc)
      | false ↦ elim (is_outside rule nodes) as (λ b. cond b (Fail Einval) (cond (is_full names name) (Fail Enospc) Fine) ≡ Fine → HasRoom names (name ∷ [])) [
        | true ↦ λ wrong. absurd (cc)
        | false ↦ ⊎_elim {C = cond (is_full names name) (Fail Enospc) Fine ≡ Fine → HasRoom names (name ∷ [])}
            (λ (all : ((length names == 1024) ≡ true) × (length names ≡ 1024)). elim (is_ruled name names) as (λ b. is_ruled name names ≡ b → cond ((length names == 1024) && not b) (Fail Enospc) Fine ≡ Fine → HasRoom names (name ∷ [])) [
              | true ↦ λ is _. inl is
              | false ↦ λ none wrong. absurd (let e : Fail Enospc ≡ Fine = sym (ap (λ b. cond (b && true) (Fail Enospc) Fine) all.0) ∙ wrong in cc)
            ] refl)
            (λ (some : ((length names == 1024) ≡ false) × (length names ≢ 1024)) _. inr (let apart = some.1 in omega arith))
            (eqb_tells (length names) 1024)
      ]
    ]

-- and once the name has its rule, that is still the answer
pub fine_placed : (nodes : ℕ) (names : List (List ℕ)) (cred : Cred) (name : List ℕ) (rule : Rule) → place_answer nodes names cred name rule ≡ Fine → place_answer nodes (with_name names (name ∷ [])) cred name rule ≡ Fine
fine_placed nodes names cred name rule =
    let next = with_name names (name ∷ []) in
    elim (not (cred.uid == 0)) as (λ b. cond b (Fail Eperm) (cond (is_outside rule nodes) (Fail Einval) (cond (is_full names name) (Fail Enospc) Fine)) ≡ Fine → cond b (Fail Eperm) (cond (is_outside rule nodes) (Fail Einval) (cond (is_full next name) (Fail Enospc) Fine)) ≡ Fine) [
      | true ↦ λ wrong. wrong
      | false ↦ elim (is_outside rule nodes) as (λ b. cond b (Fail Einval) (cond (is_full names name) (Fail Enospc) Fine) ≡ Fine → cond b (Fail Einval) (cond (is_full next name) (Fail Enospc) Fine) ≡ Fine) [
        | true ↦ λ wrong. wrong
        | false ↦ λ _. ap (λ b. cond b (Fail Enospc) Fine) (ruled_fits next name (ruled_new names name))
      ]
    ]

-- the table tells the same: whether there is room, and so the answer
pub table_full : (names : List (List ℕ)) (table : Placement) (name : List ℕ) → length names ≤ 1024 → IsTableOf names table → is_full_for table name ≡ is_full names name
table_full names table name few is =
    let test : nat_le 1024 (length table.rules) ≡ (length names == 1024) = ap (nat_le 1024) is.rules ∙ le_is_same (length names) few in
    ap (λ b. b && not (has_rule table name)) test ∙ ap (λ b. (length names == 1024) && not b) (is.has name)
  where
    le_is_same : (n : ℕ) → n ≤ 1024 → nat_le 1024 n ≡ (n == 1024)
    le_is_same n few = ⊎_elim (λ t. ⊎_elim {C = nat_le 1024 n ≡ (n == 1024)} (λ s. s.0 ∙ sym t.0) (λ s. let a = s.1 in let b = t.1 in absurd (omega arith)) (leb_tells 1024 n))
        (λ t. ⊎_elim {C = nat_le 1024 n ≡ (n == 1024)} (λ s. let a = s.1 in let b = t.1 in absurd (omega arith)) (λ s. s.0 ∙ sym t.0) (leb_tells 1024 n))
        (eqb_tells n 1024)

within_is : (rule : Rule) (nodes : ℕ) → not (is_within nodes rule) ≡ is_outside rule nodes
within_is rule.Hash nodes = refl
within_is rule.ByParent nodes = refl
within_is (rule.Node n) nodes = refl

-- what a change is answered by a table
abbrev pub table_reply : ℕ → Placement → Cred → List ℕ → Rule → Reply
table_reply nodes table cred name rule = checked ((not (cred.uid == 0), Eperm) ∷ (not (is_within nodes rule), Einval) ∷ (is_full_for table name, Enospc) ∷ []) Fine

pub table_answer : (nodes : ℕ) (names : List (List ℕ)) (table : Placement) (cred : Cred) (name : List ℕ) (rule : Rule) → length names ≤ 1024 → IsTableOf names table
    → table_reply nodes table cred name rule ≡ place_answer nodes names cred name rule
table_answer nodes names table cred name rule few is =
    let out = within_is rule nodes in
    let full = table_full names table name few is in
    λ i. checked ((not (cred.uid == 0), Eperm) ∷ (out i, Einval) ∷ (full i, Enospc) ∷ []) Fine

-- a change that is answered ok is of nodes that are there
pub fine_within : (nodes : ℕ) (table : Placement) (cred : Cred) (name : List ℕ) (rule : Rule) → table_reply nodes table cred name rule ≡ Fine → IsTrue (is_within nodes rule)
fine_within nodes table cred name rule =
    elim (not (cred.uid == 0)) as (λ b. cond b (Fail Eperm) (cond (not (is_within nodes rule)) (Fail Einval) (cond (is_full_for table name) (Fail Enospc) Fine)) ≡ Fine → IsTrue (is_within nodes rule)) [
      | true ↦ λ wrong. absurd (cc)
      | false ↦ elim (is_within nodes rule) as (λ b. cond (not b) (Fail Einval) (cond (is_full_for table name) (Fail Enospc) Fine) ≡ Fine → IsTrue b) [ true ↦ λ _. refl | false ↦ λ wrong. absurd (cc) ]
    ]

-- ---- the answer under way

-- what the answer under way to a call that changes the placement has to be
pub record IsPlaceRight (config : Config) (entries : List Entry) (seq since l k : ℕ) (reply : Reply) (cred : Cred) (name : List ℕ) (rule : Rule) : Type 0 where
  pub from : since ≤ k
  pub to : k ≤ count_by is_commit entries
  pub served : reply ≡ place_answer config.nodes (names_ruled config [] entries) cred name rule
  pub placed : (reply ≡ Fine) ↔ ((i : ℕ) × ((version : ℕ) × (slice_get entries i ≡ Some (entry.Placed l seq version))))

-- the name that a new entry gives a rule
abbrev pub name_by : Config → Entry → List (List ℕ)
name_by config (entry.Placed lane seq version) = call_name (call_of config lane seq)
name_by config other = []

pub names_snoc : (config : Config) (es : List Entry) (e : Entry) → names_ruled config [] (es ++ e ∷ []) ≡ with_name (names_ruled config [] es) (name_by config e)
names_snoc config es e = names_append config [] es (e ∷ []) ∙ by_kind e
  where
    by_kind : (x : Entry) → names_ruled config (names_ruled config [] es) (x ∷ []) ≡ with_name (names_ruled config [] es) (name_by config x)
    by_kind (entry.Placed lane seq version) = refl
    by_kind other = refl

-- it stays right where another call is placed, or none
pub right_more : (config : Config) (es : List Entry) (e : Entry) (seq since l k : ℕ) (reply : Reply) (call : Call) (name : List ℕ) (rule : Rule) → call_of config l seq ≡ Some call → call.op ≡ op.Place name rule
    → HasRoom (names_ruled config [] es) (name_by config e) → ((version : ℕ) → e ≢ entry.Placed l seq version) → IsPlaceRight config es seq since l k reply call.cred name rule
    → IsPlaceRight config (es ++ e ∷ []) seq since l k reply call.cred name rule
right_more config es e seq since l k reply call name rule named places room other x =
    let names = names_ruled config [] es in
    let ruled : place_answer config.nodes names call.cred name rule ≡ Fine → is_ruled name names ≡ true = λ fine. let there = x.placed.0 (x.served ∙ fine) in placed_ruled config [] es there.0 l seq there.1.0 call name rule there.1.1 named places in
    record {
      from = x.from;
      to = let to = x.to in let more = count_snoc es e in omega arith;
      served = x.served ∙ sym (answer_keeps config.nodes names (name_by config e) call.cred name rule room ruled) ∙ ap (λ ns. place_answer config.nodes ns call.cred name rule) (sym (names_snoc config es e));
      placed = (
        λ fine. let there = x.placed.0 fine in (there.0, (there.1.0, slice_get_front es (e ∷ []) there.0 _ there.1.1)),
        λ there. ⊎_elim (λ before. x.placed.1 (there.0, (there.1.0, before))) (λ new. absurd (other there.1.0 new.1)) (slice_get_snoc es e there.0 _ there.1.1),
      );
    }

-- ---- the transcript

placed_front : (es fs : List Entry) (j : ℕ) → j ≤ length es → placed (es ++ fs) j ≡ placed es j
placed_front es fs j h = ap (count_by is_placed) (take-append-le j es fs h)

placed_end : (es fs : List Entry) → placed (es ++ fs) (length es) ≡ count_by is_placed es
placed_end es fs = ap (count_by is_placed) (take-append_seam es fs)

ruled_front : (config : Config) (es fs : List Entry) (j : ℕ) → j ≤ length es → ruled_before config (es ++ fs) j ≡ ruled_before config es j
ruled_front config es fs j h = ap (names_ruled config []) (take-append-le j es fs h)

ruled_end : (config : Config) (es fs : List Entry) → ruled_before config (es ++ fs) (length es) ≡ names_ruled config [] es
ruled_end config es fs = ap (names_ruled config []) (take-append_seam es fs)

-- what has to hold of a new entry, so that changes and answers stay right
abbrev pub PlaceFits : Config → List Entry → Entry → Type 0
PlaceFits config es (entry.Placed l s version) =
    (version ≡ count_by is_placed es + 1) × HasRoom (names_ruled config [] es) (call_name (call_of config l s)) × ((j k : ℕ) (reply : Reply) → slice_get es j ≡ Some (entry.Answered l s k reply) → ⊥)
PlaceFits config es (entry.Answered l s k reply) =
    (call : Call) (name : List ℕ) (rule : Rule) → call_of config l s ≡ Some call → call.op ≡ op.Place name rule → IsPlaceAnswer config (es ++ entry.Answered l s k reply ∷ []) (length es) l s k reply call.cred name rule
PlaceFits config es other = Unit {0}

-- an answer that stands stays right
place_answer_more : (config : Config) (es : List Entry) (e : Entry) (j l s k : ℕ) (reply : Reply) (cred : Cred) (name : List ℕ) (rule : Rule) → j < length es → ((version : ℕ) → e ≢ entry.Placed l s version)
    → IsPlaceAnswer config es j l s k reply cred name rule → IsPlaceAnswer config (es ++ e ∷ []) j l s k reply cred name rule
place_answer_more config es e j l s k reply cred name rule within other x =
    let below = slice_get_below es x.sent _ x.is_sent in
    let first = at_front es (e ∷ []) x.sent (omega arith) in
    let second = at_front es (e ∷ []) j (omega arith) in
    record {
      sent = x.sent;
      is_sent = slice_get_front es (e ∷ []) x.sent _ x.is_sent;
      from = let from = x.from in omega arith;
      to = let to = x.to in omega arith;
      served = x.served ∙ ap (λ ns. place_answer config.nodes ns cred name rule) (sym (ruled_front config es (e ∷ []) j (omega arith)));
      placed = (
        λ fine. let there = x.placed.0 fine in (there.0, (there.1.0, slice_get_front es (e ∷ []) there.0 _ there.1.1)),
        λ there. ⊎_elim (λ before. x.placed.1 (there.0, (there.1.0, before))) (λ new. absurd (other there.1.0 new.1)) (slice_get_snoc es e there.0 _ there.1.1),
      );
    }

-- the call of an answer that stands is not the one that is placed now
unplaced : (config : Config) (es : List Entry) (e : Entry) (j l s k : ℕ) (reply : Reply) → PlaceFits config es e → slice_get es j ≡ Some (entry.Answered l s k reply) → (version : ℕ) → e ≢ entry.Placed l s version
unplaced config es e j l s k reply fits answered version is = (subst (PlaceFits config es) is fits).2 j k reply answered

room_for : (config : Config) (names : List (List ℕ)) (l s : ℕ) (call : Call) (name : List ℕ) (rule : Rule) → call_of config l s ≡ Some call → call.op ≡ op.Place name rule → HasRoom names (call_name (call_of config l s))
    → (is_ruled name names ≡ true) ⊎ (length names < 1024)
room_for config names l s call name rule named places room = subst (HasRoom names) (ap call_name named ∙ ap placed_name places) room

pub placed_more : (config : Config) (es : List Entry) (e : Entry) → PlaceFits config es e → ArePlaced config es → ArePlaced config (es ++ e ∷ [])
placed_more config es e fits x = record {
  versions = λ j l s version there. ⊎_elim
      (λ y. let below = slice_get_below es j _ y in x.versions j l s version y ∙ ap (λ n. n + 1) (sym (placed_front es (e ∷ []) j (omega arith))))
      (λ y. let z = subst (PlaceFits config es) y.1 fits in z.0 ∙ ap (λ n. n + 1) (sym (ap (placed (es ++ e ∷ [])) y.0 ∙ placed_end es (e ∷ []))))
      (slice_get_snoc es e j _ there);
  room = λ j l s version call name rule there named places. ⊎_elim
      (λ y. let below = slice_get_below es j _ y in subst (λ ns. (is_ruled name ns ≡ true) ⊎ (length ns < 1024)) (sym (ruled_front config es (e ∷ []) j (omega arith))) (x.room j l s version call name rule y named places))
      (λ y.
      let z = subst (PlaceFits config es) y.1 fits in
      subst (λ ns. (is_ruled name ns ≡ true) ⊎ (length ns < 1024)) (sym (ap (ruled_before config (es ++ e ∷ [])) y.0 ∙ ruled_end config es (e ∷ []))) (room_for config (names_ruled config [] es) l s call name rule named places z.1))
      (slice_get_snoc es e j _ there);
  answers = λ j l s k reply call name rule there named places. ⊎_elim
      (λ y. place_answer_more config es e j l s k reply call.cred name rule (slice_get_below es j _ y) (unplaced config es e j l s k reply fits y) (x.answers j l s k reply call name rule y named places))
      (λ y.
      let now = subst (PlaceFits config es) y.1 fits in
      subst (λ n. IsPlaceAnswer config (es ++ e ∷ []) n l s k reply call.cred name rule) (sym y.0) (subst (λ z. IsPlaceAnswer config (es ++ z ∷ []) (length es) l s k reply call.cred name rule) (sym y.1) (now call name rule named places)))
      (slice_get_snoc es e j _ there);
}

-- the answer under way is recorded
pub recorded_right : (config : Config) (es : List Entry) (seq since l k sent : ℕ) (reply : Reply) (cred : Cred) (name : List ℕ) (rule : Rule) → slice_get es sent ≡ Some (entry.Sent l seq) → at es sent ≡ since
    → IsPlaceRight config es seq since l k reply cred name rule → IsPlaceAnswer config (es ++ entry.Answered l seq k reply ∷ []) (length es) l seq k reply cred name rule
recorded_right config es seq since l k sent reply cred name rule is_sent at_sent x =
    let e = entry.Answered l seq k reply in
    let below = slice_get_below es sent _ is_sent in
    let first = at_front es (e ∷ []) sent (omega arith) in
    let last = at_end es (e ∷ []) in
    record {
      sent = sent;
      is_sent = slice_get_front es (e ∷ []) sent _ is_sent;
      from = let from = x.from in omega arith;
      to = let to = x.to in omega arith;
      served = x.served ∙ ap (λ ns. place_answer config.nodes ns cred name rule) (sym (ruled_end config es (e ∷ [])));
      placed = (
        λ fine. let there = x.placed.0 fine in (there.0, (there.1.0, slice_get_front es (e ∷ []) there.0 _ there.1.1)),
        λ there. ⊎_elim (λ before. x.placed.1 (there.0, (there.1.0, before))) (λ new. absurd (cc)) (slice_get_snoc es e there.0 _ there.1.1),
      );
    }

-- ---- what clients are told

abbrev pub OlderFits : List Entry → Entry → Type 0
OlderFits es (entry.Stale l s old new) = (old ≡ told l 0 es) × (old < new) × (new ≤ count_by is_placed es)
OlderFits es other = Unit {0}

pub older_more : (es : List Entry) (e : Entry) → OlderFits es e → AreOlder es → AreOlder (es ++ e ∷ [])
older_more es e fits x j l s old new there = ⊎_elim
    (λ y.
    let below = slice_get_below es j _ y in
    let z = x j l s old new y in
    let count = placed_front es (e ∷ []) j (omega arith) in
    let most = z.2 in
    (z.0 ∙ ap (told l 0) (sym (take-append-le j es (e ∷ []) (omega arith))), z.1, omega arith))
    (λ y.
    let z = subst (OlderFits es) y.1 fits in
    let count = ap (placed (es ++ e ∷ [])) y.0 ∙ placed_end es (e ∷ []) in
    let most = z.2 in
    (z.0 ∙ ap (told l 0) (sym (ap (λ n. take n (es ++ e ∷ [])) y.0 ∙ take-append_seam es (e ∷ []))), z.1, omega arith))
    (slice_get_snoc es e j _ there)
