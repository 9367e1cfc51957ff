-- Changes of placement: the transcript of them, what the answer under way to one has to be, and what each client was last told.
use Rattle.std.proofs.Common.{◌≡◌, ◌≢◌, ◌⊎◌, inl, inr, ⊎_elim, ℕ, ◌+◌, ◌<◌, ◌≤◌, true, false, cond, List, [], ◌∷◌, ◌++◌, length, Some, refl, sym, ap, ◌∙◌, subst, arith, append-nil, true≢false}
use Rattle.std.specs.Prelude.{slice_get, count_by, ◌==◌}
use Rattle.std.proofs.lemmas.Bool.{eq-eqb}
use Rattle.std.proofs.lemmas.List.{length_push}
use Rattle.std.proofs.lemmas.List.Sums.{sum_by_push}
use Rattle.std.proofs.lemmas.Option.{same_Some}
use Rattle.fal_base.specs.declared.call.Call.{Call}
use Rattle.fal_base.specs.declared.call.Config.{Config}
use Rattle.fal_base.specs.declared.call.Cred.{Cred}
use Rattle.fal_base.specs.declared.entry.Entry.{Entry}
use Rattle.fal_base.specs.declared.entry.Entry.TheVariants as entry
use Rattle.fal_base.specs.declared.op.Op.TheVariants as op
use Rattle.fal_base.specs.declared.reply.Reply.{Reply}
use Rattle.fal_base.specs.declared.reply.Reply.TheVariants.{Fine}
use Rattle.fal_base.specs.declared.rule.Rule.{Rule}
use Rattle.fal_base.specs.Places.{names_ruled, place_answer, call_name, placed_name, told, with_name, ArePlaced, AreOlder}
use Rattle.fal_base.specs.Transcript.{at, call_of, is_commit, is_place, is_placed}
use Rattle.fal_place.specs.Placement.{Placement, Placing, table_after}
use Rattle.fal_story.proofs.Lists.Grown.{from_put, put_all, put_four, slice_get_end, unequal}
use Rattle.fal_story.proofs.Phase.{Phase, Idle, Tells, Replies}
use Rattle.fal_story.proofs.Trees.PlaceAnswers.{HasRoom, IsPlaceRight, OlderFits, PlaceFits, few_with, fine_placed, fine_room, name_by, names_snoc, older_more, placed_more, recorded_right, right_more, table_answer, table_reply}
use Rattle.fal_story.proofs.Trees.Placings.{IsTableOf, placing_by, placing_of, placings_append, placings_of, table_is_of, told_append}
use Rattle.fal_story.proofs.Trees.Transcript.{count_snoc}
use Rattle.fal_story.specs.World.{put}

pub record Placements (config : Config) (entries : List Entry) (placings : List Placing) (known : ℕ → Placement) (seq since : ℕ → ℕ) (phase : ℕ → Phase) : Type 0 where
  -- the changes are those of the Placed entries
  pub same : placings ≡ placings_of config entries
  pub count : count_by is_placed entries ≡ length placings
  pub few : length (names_ruled config [] entries) ≤ 1024
  pub placed : ArePlaced config entries
  -- each client knows the table of the version that it was last told
  pub knows : (l : ℕ) → told l 0 entries ≡ (known l).version
  pub older : AreOlder entries
  -- what the answer under way to a change has to be
  pub right : (l k : ℕ) (reply : Reply) (call : Call) (name : List ℕ) (rule : Rule) → phase l ≡ Tells (Replies k reply) → call_of config l (seq l) ≡ Some call → call.op ≡ op.Place name rule
      → IsPlaceRight config entries (seq l) (since l) l k reply call.cred name rule

-- the call changes no placement
abbrev pub IsOfTree : Config → ℕ → ℕ → Type 0
IsOfTree config lane seq = (call : Call) → call_of config lane seq ≡ Some call → is_place call.op ≡ false

not_of_tree : (config : Config) (l s : ℕ) (call : Call) (name : List ℕ) (rule : Rule) → IsOfTree config l s → call_of config l s ≡ Some call → call.op ≡ op.Place name rule → ⊥
not_of_tree config l s call name rule tree named places = let no = tree call named in let yes : is_place call.op ≡ true = ap is_place places in true≢false (sym yes ∙ no)

-- an entry that is no change of placement gives no name a rule
unplaced_name : (config : Config) (e : Entry) → is_placed e ≡ false → name_by config e ≡ []
unplaced_name config (entry.Placed l s version) off = absurd (true≢false off)
unplaced_name config other off = refl

unplaced_placings : (config : Config) (e : Entry) → is_placed e ≡ false → placings_of config (e ∷ []) ≡ []
unplaced_placings config (entry.Placed l s version) off = absurd (true≢false off)
unplaced_placings config other off = refl

placed_snoc : (es : List Entry) (e : Entry) → count_by is_placed (es ++ e ∷ []) ≡ count_by is_placed es + cond (is_placed e) 1 0
placed_snoc es e = sum_by_push (λ e. cond (is_placed e) 1 0) es e

right_same : (config : Config) (entries : List Entry) (s t l k i : ℕ) (reply r : Reply) (call c : Call) (name n : List ℕ) (rule u : Rule) → k ≡ i → reply ≡ r → call ≡ c → name ≡ n → rule ≡ u
    → IsPlaceRight config entries s t l k reply call.cred name rule → IsPlaceRight config entries s t l i r c.cred n u
right_same config entries s t l k i reply r call c name n rule u point said is_call is_name is_rule x =
    subst (λ z. IsPlaceRight config entries s t l z r c.cred n u) point
    (subst (λ z. IsPlaceRight config entries s t l k z c.cred n u) said
    (subst (λ (z : Call). IsPlaceRight config entries s t l k reply z.cred n u) is_call
    (subst (λ z. IsPlaceRight config entries s t l k reply call.cred z u) is_name
    (subst (λ z. IsPlaceRight config entries s t l k reply call.cred name z) is_rule x))))

module _ {config : Config} {entries : List Entry} {placings : List Placing} {known : ℕ → Placement} {seq since : ℕ → ℕ} {phase : ℕ → Phase} (g : Placements config entries placings known seq since phase) where
  -- the recorded table tells which names have a rule
  pub table_tells : IsTableOf (names_ruled config [] entries) (table_after config.nodes placings (length placings))
  table_tells = table_is_of config config.nodes entries placings g.same

  -- and so what a change is answered now
  pub answer_tells : (table : Placement) (cred : Cred) (name : List ℕ) (rule : Rule) → table ≡ table_after config.nodes placings (length placings)
      → table_reply config.nodes table cred name rule ≡ place_answer config.nodes (names_ruled config [] entries) cred name rule
  answer_tells table cred name rule recorded = table_answer config.nodes (names_ruled config [] entries) table cred name rule g.few (subst (IsTableOf (names_ruled config [] entries)) (sym recorded) table_tells)

  -- calls move; who is told an answer to a change was told it before
  pub placements_moved : (phase' : ℕ → Phase) → ((l k : ℕ) (reply : Reply) → phase' l ≡ Tells (Replies k reply) → (phase l ≡ Tells (Replies k reply)) ⊎ IsOfTree config l (seq l))
      → Placements config entries placings known seq since phase'
  placements_moved phase' from = record {
    same = g.same;
    count = g.count;
    few = g.few;
    placed = g.placed;
    knows = g.knows;
    older = g.older;
    right = λ l k reply call name rule e named places. ⊎_elim (λ was. g.right l k reply call name rule was named places) (λ tree. absurd (not_of_tree config l (seq l) call name rule tree named places)) (from l k reply e);
  }

  -- one entry more, which is no change of placement
  pub placements_noted : (e : Entry) (known' : ℕ → Placement) → is_placed e ≡ false → PlaceFits config entries e → OlderFits entries e → ((l : ℕ) → told l (told l 0 entries) (e ∷ []) ≡ (known' l).version)
      → Placements config (entries ++ e ∷ []) placings known' seq since phase
  placements_noted e known' off fits older knows =
      let names = names_ruled config [] entries in
      let none = unplaced_name config e off in
      let names_now : names_ruled config [] (entries ++ e ∷ []) ≡ names = names_snoc config entries e ∙ ap (with_name names) none in
      record {
        same = g.same ∙ sym (placings_append config entries (e ∷ []) ∙ ap (λ ps. placings_of config entries ++ ps) (unplaced_placings config e off) ∙ append-nil (placings_of config entries));
        count = let more = placed_snoc entries e ∙ ap (λ b. count_by is_placed entries + cond b 1 0) off in let was = g.count in omega arith;
        few = subst (λ ns. length ns ≤ 1024) (sym names_now) g.few;
        placed = placed_more config entries e fits g.placed;
        knows = λ l. told_append l 0 entries (e ∷ []) ∙ knows l;
        older = older_more entries e older g.older;
        right = λ l k reply call name rule told named places. right_more config entries e (seq l) (since l) l k reply call name rule named places (subst (HasRoom names) (sym none) tt)
            (λ version is. true≢false (sym (ap is_placed is) ∙ off)) (g.right l k reply call name rule told named places);
      }

put_tells : (config : Config) (seq : ℕ → ℕ) (phase : ℕ → Phase) (l : ℕ) (p : Phase) → ((k : ℕ) (reply : Reply) → p ≡ Tells (Replies k reply) → IsOfTree config l (seq l)) → (a k : ℕ) (reply : Reply) → put phase l p a ≡ Tells (Replies k reply)
    → (phase a ≡ Tells (Replies k reply)) ⊎ IsOfTree config a (seq a)
put_tells config seq phase l p tells a k reply e = ⊎_elim (λ y. inr (subst (λ i. IsOfTree config i (seq i)) (sym y.0) (tells k reply y.1))) (λ y. inl y.1) (from_put phase l p a _ e)

module _ {config : Config} {entries : List Entry} {placings : List Placing} {known : ℕ → Placement} {seq since : ℕ → ℕ} {phase : ℕ → Phase} (g : Placements config entries placings known seq since phase) where
  -- a lane's next call is sent
  pub placements_sent : (l : ℕ) (p : Phase) → ((k : ℕ) (reply : Reply) → p ≢ Tells (Replies k reply))
      → Placements config (entries ++ entry.Sent l (seq l + 1) ∷ []) placings known (put seq l (seq l + 1)) (put since l (count_by is_commit entries)) (put phase l p)
  placements_sent l p none =
      let e = entry.Sent l (seq l + 1) in
      let x = placements_noted g e known refl tt tt g.knows in
      record {
        same = x.same;
        count = x.count;
        few = x.few;
        placed = x.placed;
        knows = x.knows;
        older = x.older;
        right = λ a k reply call name rule told named places. put_four (λ a s t q r. q ≡ Tells (Replies k reply) → call_of config a s ≡ Some call → IsPlaceRight config (entries ++ e ∷ []) s t a k reply call.cred name rule)
            seq since phase phase l (seq l + 1) (count_by is_commit entries) p p
            (λ told _. absurd (none k reply told))
            (λ a _ told named. x.right a k reply call name rule told named places)
            a told named;
      }

  -- a call about the tree makes its commit
  pub placements_committed : (l ino k : ℕ) (reply : Reply) → IsOfTree config l (seq l) → Placements config (entries ++ entry.Commit l (seq l) ino ∷ []) placings known seq since (put phase l (Tells (Replies k reply)))
  placements_committed l ino k reply tree =
      placements_moved (placements_noted g (entry.Commit l (seq l) ino) known refl tt tt g.knows) (put phase l (Tells (Replies k reply))) (put_tells config seq phase l (Tells (Replies k reply)) (λ _ _ _. tree))

  -- the client of a listing is told of its directory
  pub placements_opened : (l dir point : ℕ) (p : Phase) → ((k : ℕ) (reply : Reply) → p ≢ Tells (Replies k reply)) → Placements config (entries ++ entry.Opened l (seq l) dir point ∷ []) placings known seq since (put phase l p)
  placements_opened l dir point p none =
      placements_moved (placements_noted g (entry.Opened l (seq l) dir point) known refl tt tt g.knows) (put phase l p) (put_tells config seq phase l p (λ k reply told. absurd (none k reply told)))

  -- a lane's call is answered
  pub placements_answered : (l k sent : ℕ) (reply : Reply) → slice_get entries sent ≡ Some (entry.Sent l (seq l)) → at entries sent ≡ since l → (phase l ≡ Tells (Replies k reply)) ⊎ IsOfTree config l (seq l)
      → Placements config (entries ++ entry.Answered l (seq l) k reply ∷ []) placings known seq since (put phase l Idle)
  placements_answered l k sent reply is_sent at_sent told =
      placements_moved
      (placements_noted g (entry.Answered l (seq l) k reply) known refl
      (λ call name rule named places. recorded_right config entries (seq l) (since l) l k sent reply call.cred name rule is_sent at_sent
      (⊎_elim (λ was. g.right l k reply call name rule was named places) (λ tree. absurd (not_of_tree config l (seq l) call name rule tree named places)) told))
      tt g.knows)
      (put phase l Idle) (put_tells config seq phase l Idle (λ i r e. absurd (cc)))

  module _ (l k : ℕ) (call : Call) (name : List ℕ) (rule : Rule) (named : call_of config l (seq l) ≡ Some call) (places : call.op ≡ op.Place name rule) (from : since l ≤ k) (to : k ≤ count_by is_commit entries) where
    -- what is right of the lane's call is right of it under each name
    told_now : (es : List Entry) (reply : Reply) → IsPlaceRight config es (seq l) (since l) l k reply call.cred name rule → (i : ℕ) (r : Reply) (c : Call) (n : List ℕ) (u : Rule)
        → Tells (Replies k reply) ≡ Tells (Replies i r) → call_of config l (seq l) ≡ Some c → c.op ≡ op.Place n u → IsPlaceRight config es (seq l) (since l) l i r c.cred n u
    told_now es reply x i r c n u e is does =
        let point : k ≡ i = cc in
        let said : reply ≡ r = cc in
        let is_call : call ≡ c = same_Some call c (sym named ∙ is) in
        let same : op.Place name rule ≡ op.Place n u = sym places ∙ ap (λ (z : Call). z.op) is_call ∙ does in
        let is_name : name ≡ n = cc in
        let is_rule : rule ≡ u = cc in
        right_same config es (seq l) (since l) l k i reply r call c name n rule u point said is_call is_name is_rule x

    -- a change is refused
    pub placements_refused : (reply : Reply) → reply ≡ place_answer config.nodes (names_ruled config [] entries) call.cred name rule → reply ≢ Fine → ((i version : ℕ) → slice_get entries i ≡ Some (entry.Placed l (seq l) version) → ⊥)
        → Placements config entries placings known seq since (put phase l (Tells (Replies k reply)))
    placements_refused reply is refused none =
        let now : IsPlaceRight config entries (seq l) (since l) l k reply call.cred name rule = record {
          from = from;
          to = to;
          served = is;
          placed = (λ fine. absurd (refused fine), λ there. absurd (none there.0 there.1.0 there.1.1));
        } in
        record {
          same = g.same;
          count = g.count;
          few = g.few;
          placed = g.placed;
          knows = g.knows;
          older = g.older;
          right = λ a i r c n u told is does. put_all (λ a q. q ≡ Tells (Replies i r) → call_of config a (seq a) ≡ Some c → IsPlaceRight config entries (seq a) (since a) a i r c.cred n u) phase l (Tells (Replies k reply))
              (λ told is. told_now entries reply now i r c n u told is does)
              (λ a _ told is. g.right a i r c n u told is does)
              a told is;
        }

    -- a change is made
    pub placements_placed : (version : ℕ) → version ≡ length placings + 1 → place_answer config.nodes (names_ruled config [] entries) call.cred name rule ≡ Fine → ((i : ℕ) (reply : Reply) → phase l ≢ Tells (Replies i reply))
        → ((j i : ℕ) (reply : Reply) → slice_get entries j ≡ Some (entry.Answered l (seq l) i reply) → ⊥)
        → Placements config (entries ++ entry.Placed l (seq l) version ∷ []) (placings ++ record { name = name; rule = rule } ∷ []) known seq since (put phase l (Tells (Replies k Fine)))
    placements_placed version next fine untold unanswered =
        let e = entry.Placed l (seq l) version in
        let placing : Placing = record { name = name; rule = rule } in
        let names = names_ruled config [] entries in
        let is_name : call_name (call_of config l (seq l)) ≡ name ∷ [] = ap call_name named ∙ ap placed_name places in
        let room = fine_room config.nodes names call.cred name rule g.few fine in
        let room_now : HasRoom names (call_name (call_of config l (seq l))) = subst (HasRoom names) (sym is_name) room in
        let names_now : names_ruled config [] (entries ++ e ∷ []) ≡ with_name names (name ∷ []) = names_snoc config entries e ∙ ap (with_name names) is_name in
        let is_placing : placings_of config (e ∷ []) ≡ placing ∷ [] = ap (λ o. placing_by o ++ []) named ∙ ap (λ o. placing_of o ++ []) places in
        let is_next : version ≡ count_by is_placed entries + 1 = next ∙ ap (λ n. n + 1) (sym g.count) in
        let now : IsPlaceRight config (entries ++ e ∷ []) (seq l) (since l) l k Fine call.cred name rule = record {
          from = from;
          to = let more = count_snoc entries e in omega arith;
          served = sym (fine_placed config.nodes names call.cred name rule fine) ∙ ap (λ ns. place_answer config.nodes ns call.cred name rule) (sym names_now);
          placed = (λ _. (length entries, (version, slice_get_end entries e)), λ _. refl);
        } in
        record {
          same = ap (λ ps. ps ++ placing ∷ []) g.same ∙ ap (λ ps. placings_of config entries ++ ps) (sym is_placing) ∙ sym (placings_append config entries (e ∷ []));
          count = let more = placed_snoc entries e in let was = g.count in let longer = length_push placings placing in omega arith;
          few = subst (λ ns. length ns ≤ 1024) (sym names_now) (few_with names (name ∷ []) g.few room);
          placed = placed_more config entries e (is_next, room_now, unanswered) g.placed;
          knows = λ a. told_append a 0 entries (e ∷ []) ∙ g.knows a;
          older = older_more entries e tt g.older;
          right = λ a i r c n u told is does. put_all (λ a q. q ≡ Tells (Replies i r) → call_of config a (seq a) ≡ Some c → IsPlaceRight config (entries ++ e ∷ []) (seq a) (since a) a i r c.cred n u) phase l (Tells (Replies k Fine))
              (λ told is. told_now (entries ++ e ∷ []) Fine now i r c n u told is does)
              (λ a apart told is. right_more config entries e (seq a) (since a) a i r c n u is does room_now (λ v same. apart (sym (let lane : l ≡ a = cc in lane))) (g.right a i r c n u told is does))
              a told is;
        }

  -- a client takes the changes up to a version
  pub placements_staled : (l old new : ℕ) (table : Placement) (p : Phase) → old ≡ (known l).version → table.version ≡ new → old < new → new ≤ length placings → ((k : ℕ) (reply : Reply) → p ≢ Tells (Replies k reply))
      → Placements config (entries ++ entry.Stale l (seq l) old new ∷ []) placings (put known l table) seq since (put phase l p)
  placements_staled l old new table p was is later within none =
      let e = entry.Stale l (seq l) old new in
      let count = g.count in
      placements_moved
      (placements_noted g e (put known l table) refl tt (was ∙ sym (g.knows l), later, omega arith)
      (put_all (λ a t. cond (l == a) new (told a 0 entries) ≡ t.version) known l table
      (ap (λ b. cond b new (told l 0 entries)) (eq-eqb l l refl) ∙ sym is)
      (λ a apart. ap (λ b. cond b new (told a 0 entries)) (unequal l a (λ y. apart (sym y))) ∙ g.knows a)))
      (put phase l p) (put_tells config seq phase l p (λ k reply told. absurd (none k reply told)))
