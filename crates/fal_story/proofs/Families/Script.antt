-- The transcript: commits, the last calls, answers, each call once, changes of placement.
use Rattle.std.proofs.Common.{◌≡◌, ◌≢◌, ◌⊎◌, inl, inr, ⊎_elim, ℕ, zero, suc, ◌+◌, ◌<◌, ◌≤◌, true, false, List, [], ◌∷◌, ◌++◌, length, Option, Some, None, refl, sym, ap, ◌∙◌, subst, arith, true≢false}
use Rattle.std.specs.Prelude.{slice_get, IsTrue, IsSomeAnd}
use Rattle.std.proofs.lemmas.Option.{same_Some}
use Rattle.fal_base.specs.declared.call.Call.{Call}
use Rattle.fal_base.specs.declared.call.CallRec.{CallRec}
use Rattle.fal_base.specs.declared.call.Config.{Config}
use Rattle.fal_base.specs.declared.call.Cred.{Cred}
use Rattle.fal_base.specs.declared.entry.Entry.{Entry}
use Rattle.fal_base.specs.declared.entry.Entry.TheVariants as entry
use Rattle.fal_base.specs.declared.op.Op.{Op}
use Rattle.fal_base.specs.declared.op.Op.TheVariants as op
use Rattle.fal_base.specs.declared.reply.Reply.{Reply}
use Rattle.fal_base.specs.declared.reply.Reply.TheVariants.{Fine}
use Rattle.fal_base.specs.declared.rule.Rule.{Rule}
use Rattle.fal_base.specs.Change.{change, makes}
use Rattle.fal_base.specs.Commits.{Commit, AreLegal, AreLegalFrom, tree_after}
use Rattle.fal_base.specs.EachOnce.{NotAnswered}
use Rattle.fal_base.specs.Linear.{IsAnswer}
use Rattle.fal_base.specs.Transcript as transcript
use Rattle.fal_base.specs.Places.{names_ruled, place_answer}
use Rattle.fal_base.specs.Transcript.{at, call_of, commits_of, is_commit, is_list, is_names, is_place, lane_call, numbered}
use Rattle.fal_base.specs.Tree.{Tree, tree0}
use Rattle.fal_place.specs.Placement.{Placement, Placing}
use Rattle.fal_story.proofs.Families.Lanes.{IsRight}
use Rattle.fal_story.proofs.Families.Placements.{IsOfTree, Placements, placements_answered, placements_committed, placements_moved, placements_opened, placements_placed, placements_refused, placements_sent, placements_staled}
use Rattle.fal_story.proofs.Lists.Grown.{slice_get_snoc, slice_get_below, slice_get_front, slice_get_end, from_put, put_all, put_both, put_four, put_same}
use Rattle.fal_story.proofs.Phase.{Phase, Idle, Tells, Replies, Opens, Lists, Goes, IsUnanswered, goes_put}
use Rattle.fal_story.proofs.Trees.Commits.{longer}
use Rattle.fal_story.proofs.Trees.Once.{Once, once_answered, once_committed, once_opened, once_placed, once_sent, once_staled}
use Rattle.fal_story.proofs.Trees.Transcript.{answer_more, at_end, at_front, calls_more, commits_append, count_snoc, joined_more, IsJoined, Calls}
use Rattle.fal_story.proofs.View.{plain}
use Rattle.fal_run.specs.Calls.{number_after}
use Rattle.fal_story.specs.World.{put}

-- a number that was drawn by a node, or none
abbrev pub IsDrawn : (ℕ → ℕ) → ℕ → Type 0
IsDrawn drawn ino = (ino ≡ 0) ⊎ ((n : ℕ) × ((d : ℕ) × (n < 256) × (d < drawn n) × (ino ≡ number_after n d)))

pub record Commits (commits : List Commit) (seq : ℕ → ℕ) (drawn : ℕ → ℕ) : Type 0 where
  pub older : (i : ℕ) (c : Commit) → slice_get commits i ≡ Some c → c.seq ≤ seq c.lane
  pub legal : AreLegal commits
  pub numbers : (i : ℕ) (c : Commit) → slice_get commits i ≡ Some c → IsDrawn drawn c.ino
  pub few : (n : ℕ) → drawn n ≤ length commits

-- the answers so far; what a change of placement is answered is said with the changes, and what is listed with the listings
abbrev pub Answers : Config → List Entry → (ℕ → ℕ) → (ℕ → Phase) → Type 0
Answers config entries seq phase =
    (j l s k : ℕ) (reply : Reply) → slice_get entries j ≡ Some (entry.Answered l s k reply)
    → (s ≤ seq l) × (s ≡ seq l → phase l ≡ Idle) × ((call : Call) → call_of config l s ≡ Some call → is_place call.op ≡ false → is_names reply ≡ false → IsAnswer config entries j l s k reply call)

pub record Script (config : Config) (entries : List Entry) (made : List Commit) (placings : List Placing) (known : ℕ → Placement) (seq : ℕ → ℕ) (call : ℕ → CallRec) (since : ℕ → ℕ) (phase : ℕ → Phase) (drawn : ℕ → ℕ) : Type 0 where
  pub commits : Commits made seq drawn
  pub joined : IsJoined config entries made
  pub calls : Calls config entries made seq call since
  pub answers : Answers config entries seq phase
  pub once : Once config entries seq phase
  pub placements : Placements config entries placings known seq since phase

-- what holds of the parts of one answer holds of the parts of its equal
answered_parts : (P : ℕ → ℕ → ℕ → Reply → Type 0) (l s k m t i : ℕ) (r a : Reply) → entry.Answered l s k r ≡ entry.Answered m t i a → P l s k r → P m t i a
answered_parts P l s k m t i r a e h =
    let b : l ≡ m = cc in
    let c : s ≡ t = cc in
    let d : k ≡ i = cc in
    let f : r ≡ a = cc in
    subst (λ z. P z t i a) b (subst (λ z. P l z i a) c (subst (λ z. P l s z a) d (subst (λ z. P l s k z) f h)))

numbered_from_one : (config : Config) (l s : ℕ) (c : Call) → call_of config l s ≡ Some c → 0 < s
numbered_from_one config l zero c is = absurd (none (numbered config.lanes l) is)
  where
    none : (calls : Option (List Call)) → lane_call calls 0 ≡ Some c → ⊥
    none None is = cc
    none (Some calls) is = cc
numbered_from_one config l (suc s) c is = omega arith

last_makes : (tree : Tree) (earlier : List ℕ) (cs : List Commit) (c : Commit) → AreLegalFrom tree earlier (cs ++ c ∷ []) → IsTrue (makes (tree_after tree cs) c.cred c.op)
last_makes tree earlier [] c legal = legal.0
last_makes tree earlier (d ∷ cs) c legal = last_makes (change tree d.cred d.op d.ino) (d.ino ∷ earlier) cs c legal.2

-- a call that makes a commit changes no placement
pub makes_tree : (tree : Tree) (cred : Cred) (o : Op) → IsTrue (makes tree cred o) → is_place o ≡ false
makes_tree tree cred (op.Place name rule) is = absurd (cc)
makes_tree tree cred other is = refl

module _ {config : Config} {entries : List Entry} {commits : List Commit} {placings : List Placing} {known : ℕ → Placement} {seq : ℕ → ℕ} {call : ℕ → CallRec} {since : ℕ → ℕ} {phase : ℕ → Phase} {drawn : ℕ → ℕ}
    (g : Script config entries commits placings known seq call since phase drawn) where
  -- the call of the config is the lane's last one
  named_now : (l : ℕ) (c : Call) → call_of config l (seq l) ≡ Some c → plain (call l) ≡ c
  named_now l c is = same_Some _ _ (sym (g.calls.named l (numbered_from_one config l (seq l) c is)) ∙ is)

  of_tree : (l : ℕ) → is_place (call l).op ≡ false → IsOfTree config l (seq l)
  of_tree l tree c is = subst (λ (c : Call). is_place c.op ≡ false) (named_now l c is) tree

  module _ (c : Commit) (l k : ℕ) (reply : Reply) (by_lane : c.lane ≡ l) (by_seq : c.seq ≡ seq l) (by_cred : c.cred ≡ (call l).cred) (by_op : c.op ≡ (call l).op) (above : 0 < seq l) (live : IsUnanswered (phase l)) where
    abbrev noted : Entry
    noted = entry.Commit l (seq l) c.ino

    busy : phase l ≢ Idle
    busy idle = subst IsUnanswered idle live

    same_commit : (lane number : ℕ) → record { lane = l; seq = seq l; cred = (call l).cred; op = (call l).op; ino = c.ino } ≡ c
    same_commit lane number = λ i. record { lane = sym by_lane i; seq = sym by_seq i; cred = sym by_cred i; op = sym by_op i; ino = c.ino }

    joined_now : IsJoined config (entries ++ noted ∷ []) (commits ++ c ∷ [])
    joined_now =
        let count = g.joined.count in
        let counted = count_snoc entries noted in
        let more = longer commits c in
        record {
          same = ap (λ cs. cs ++ c ∷ []) g.joined.same
              ∙ ap (λ d. commits_of config entries ++ d ∷ []) (sym (same_commit l k))
              ∙ ap (λ o. commits_of config entries ++ (transcript.commit_by o l (seq l) c.ino ++ [])) (sym (g.calls.named l above)) ∙ sym (commits_append config entries (noted ∷ []));
          count = omega arith;
        }

    answers_now : Answers config (entries ++ noted ∷ []) seq (put phase l (Tells (Replies k reply)))
    answers_now j a s i r there = ⊎_elim
        (λ y. let z = g.answers j a s i r y in (
          z.0,
          put_all (λ a q. (s ≡ seq a → phase a ≡ Idle) → s ≡ seq a → q ≡ Idle) phase l (Tells (Replies k reply)) (λ was same. absurd (busy (was same))) (λ a _ was. was) a z.1,
          λ call named tree plain. answer_more config entries noted commits j a s i r call g.joined (slice_get_below entries j _ y)
              (λ number same.
              let lane : l ≡ a = cc in
              let at : seq l ≡ s = cc in
              busy (ap phase lane ∙ z.1 (sym at ∙ ap seq lane)))
              (z.2 call named tree plain),
        ))
        (λ y. absurd (cc))
        (slice_get_snoc entries noted j _ there)

    -- a call makes its commit, and is done
    pub script_committed : (drawn' : ℕ → ℕ) → Commits (commits ++ c ∷ []) seq drawn'
        → Script config (entries ++ noted ∷ []) (commits ++ c ∷ []) placings known seq call since (put phase l (Tells (Replies k reply))) drawn'
    script_committed drawn' now =
        let tree : is_place (call l).op ≡ false = subst (λ o. is_place o ≡ false) by_op (makes_tree (tree_after tree0 commits) c.cred c.op (last_makes tree0 [] commits c now.legal)) in
        let more = longer commits c in
        let calls = calls_more config entries noted commits seq call since g.calls in
        record {
          commits = now;
          joined = joined_now;
          calls = record { named = calls.named; lane = calls.lane; number = calls.number; past = λ a. let past = calls.past a in omega arith; entry = calls.entry };
          answers = answers_now;
          once = once_committed config entries seq phase l c.ino k reply live above g.once;
          placements = placements_committed g.placements l c.ino k reply (of_tree l tree);
        }

  moved_with : (phase' : ℕ → Phase) → ((l : ℕ) → Goes (phase l) (phase' l)) → Placements config entries placings known seq since phase' → Script config entries commits placings known seq call since phase' drawn
  moved_with phase' goes placements = record {
    commits = g.commits;
    joined = g.joined;
    calls = g.calls;
    answers = λ j l s k reply at. let x = g.answers j l s k reply at in (x.0, (λ last. (goes l).still (x.1 last)), x.2);
    once = record {
      each = g.once.each;
      sent = g.once.sent;
      unanswered = λ l i k reply busy. g.once.unanswered l i k reply (λ e. busy ((goes l).still e));
      uncommitted = λ l i ino live. g.once.uncommitted l i ino ((goes l).live live);
      unplaced = λ l i version live. g.once.unplaced l i version ((goes l).live live);
      unopened = λ l i ino point closed. g.once.unopened l i ino point ((goes l).unopened closed);
    };
    placements = placements;
  }

  -- calls move; none that changes the placement is answered
  pub script_moved : (phase' : ℕ → Phase) → ((l : ℕ) → Goes (phase l) (phase' l)) → ((l k : ℕ) (reply : Reply) → phase' l ≡ Tells (Replies k reply) → (phase l ≡ Tells (Replies k reply)) ⊎ (is_place (call l).op ≡ false))
      → Script config entries commits placings known seq call since phase' drawn
  script_moved phase' goes tells = moved_with phase' goes (placements_moved g.placements phase' (λ l k reply e. ⊎_elim (λ was. inl was) (λ tree. inr (of_tree l tree)) (tells l k reply e)))

  put_tells : (l : ℕ) (p : Phase) → ((k : ℕ) (reply : Reply) → p ≡ Tells (Replies k reply) → is_place (call l).op ≡ false) → (a k : ℕ) (reply : Reply) → put phase l p a ≡ Tells (Replies k reply)
      → (phase a ≡ Tells (Replies k reply)) ⊎ (is_place (call a).op ≡ false)
  put_tells l p tells a k reply e = ⊎_elim (λ y. inr (subst (λ i. is_place (call i).op ≡ false) (sym y.0) (tells k reply y.1))) (λ y. inl y.1) (from_put phase l p a _ e)

  pub script_put : (l : ℕ) (p : Phase) → IsUnanswered (phase l) → ((k : ℕ) (reply : Reply) → p ≡ Tells (Replies k reply) → is_place (call l).op ≡ false) → Script config entries commits placings known seq call since (put phase l p) drawn
  script_put l p live tells = script_moved (put phase l p) (goes_put phase l p live) (put_tells l p tells)

  -- a lane's next call is sent
  module _ (l : ℕ) (c : CallRec) (p : Phase) (named : call_of config l (seq l + 1) ≡ Some (plain c)) (lane : c.id.client ≡ l) (number : c.id.seq ≡ seq l + 1) where
    abbrev sent_now : Entry
    sent_now = entry.Sent l (seq l + 1)

    sent_calls : Calls config (entries ++ sent_now ∷ []) commits (put seq l (seq l + 1)) (put call l c) (put since l (length commits))
    sent_calls =
        let x = calls_more config entries sent_now commits seq call since g.calls in
        record {
          named = put_four (λ i s x y p. 0 < s → call_of config i s ≡ Some (plain x)) seq call since phase l (seq l + 1) c (length commits) p (λ _. named) (λ i _. x.named i);
          lane = put_four (λ i s x y p. 0 < s → x.id.client ≡ i) seq call since phase l (seq l + 1) c (length commits) p (λ _. lane) (λ i _. x.lane i);
          number = put_four (λ i s x y p. 0 < s → x.id.seq ≡ s) seq call since phase l (seq l + 1) c (length commits) p (λ _. number) (λ i _. x.number i);
          past = put_all (λ i y. y ≤ length commits) since l (length commits) (omega arith) (λ i _. x.past i);
          entry = put_four (λ i s x y p. 0 < s → (j : ℕ) × (slice_get (entries ++ sent_now ∷ []) j ≡ Some (entry.Sent i s)) × (at (entries ++ sent_now ∷ []) j ≡ y))
              seq call since phase l (seq l + 1) c (length commits) p
              (λ _. (length entries, slice_get_end entries sent_now, at_end entries (sent_now ∷ []) ∙ g.joined.count))
              (λ i _. x.entry i);
        }

    pub script_sent : ((k : ℕ) (reply : Reply) → p ≢ Tells (Replies k reply)) → Script config (entries ++ sent_now ∷ []) commits placings known (put seq l (seq l + 1)) (put call l c) (put since l (length commits)) (put phase l p) drawn
    script_sent none = record {
      commits = record {
        older = λ i d h. let x = g.commits.older i d h in put_all (λ m s. d.seq ≤ seq m → d.seq ≤ s) seq l (seq l + 1) (λ y. omega arith) (λ m _ y. y) d.lane x;
        legal = g.commits.legal;
        numbers = g.commits.numbers;
        few = g.commits.few;
      };
      joined = joined_more config entries sent_now commits refl g.joined;
      calls = sent_calls;
      answers = λ j m s i a h. ⊎_elim
          (λ y. let x = g.answers j m s i a y in let z = put_both (λ n t u. (s ≤ seq n) × (s ≡ seq n → phase n ≡ Idle) → (s ≤ t) × (s ≡ t → u ≡ Idle)) seq phase l (seq l + 1) p
          (λ w. let o = w.0 in (omega arith, λ u. absurd (omega arith)))
          (λ n _ w. w)
          m (x.0, x.1) in
          (z.0, z.1, λ d is tree plain. answer_more config entries sent_now commits j m s i a d g.joined (slice_get_below entries j _ y) (λ ino w. absurd (cc)) (x.2 d is tree plain)))
          (λ y. absurd (cc))
          (slice_get_snoc entries sent_now j _ h);
      once = once_sent config entries seq phase l p (rw named refl) g.once;
      placements = subst (λ n. Placements config (entries ++ sent_now ∷ []) placings known (put seq l (seq l + 1)) (put since l n) (put phase l p)) g.joined.count (placements_sent g.placements l p none);
    }

  -- a call is the same, but for its attempt, hop and version
  handed_calls : (l : ℕ) (c : CallRec) → plain c ≡ plain (call l) → c.id.client ≡ (call l).id.client → c.id.seq ≡ (call l).id.seq → Calls config entries commits seq (put call l c) since
  handed_calls l c same lane number = record {
    named = put_all (λ i x. 0 < seq i → call_of config i (seq i) ≡ Some (plain x)) call l c (λ some. g.calls.named l some ∙ ap (λ z. Some z) (sym same)) (λ i _. g.calls.named i);
    lane = put_all (λ i x. 0 < seq i → x.id.client ≡ i) call l c (λ some. lane ∙ g.calls.lane l some) (λ i _. g.calls.lane i);
    number = put_all (λ i x. 0 < seq i → x.id.seq ≡ seq i) call l c (λ some. number ∙ g.calls.number l some) (λ i _. g.calls.number i);
    past = g.calls.past;
    entry = g.calls.entry;
  }

  -- a call is handed on
  pub script_handed : (l : ℕ) (c : CallRec) (p : Phase) → plain c ≡ plain (call l) → c.id.client ≡ (call l).id.client → c.id.seq ≡ (call l).id.seq → IsUnanswered (phase l) → ((k : ℕ) (reply : Reply) → p ≢ Tells (Replies k reply))
      → Script config entries commits placings known seq (put call l c) since (put phase l p) drawn
  script_handed l c p same lane number live none =
      let moved = script_put l p live (λ k reply e. absurd (none k reply e)) in
      record {
        commits = moved.commits;
        joined = moved.joined;
        calls = handed_calls l c same lane number;
        answers = moved.answers;
        once = moved.once;
        placements = moved.placements;
      }

  -- the lane's call is answered
  module _ (l k : ℕ) (reply : Reply) (above : 0 < seq l) (none : NotAnswered entries (length entries) l (seq l))
      (right : is_place (call l).op ≡ false → is_names reply ≡ false → IsRight commits (seq l) (call l) (since l) l k reply) (told : (phase l ≡ Tells (Replies k reply)) ⊎ (is_place (call l).op ≡ false)) where
    abbrev answered_now : Entry
    answered_now = entry.Answered l (seq l) k reply

    answered : (d : Call) → call_of config l (seq l) ≡ Some d → is_place d.op ≡ false → is_names reply ≡ false → IsAnswer config (entries ++ answered_now ∷ []) (length entries) l (seq l) k reply d
    answered d named tree plain =
        let right = right (subst (λ (x : Call). is_place x.op ≡ false) (sym (named_now l d named)) tree) plain in
        let q = (joined_more config entries answered_now commits refl g.joined).same in
        let a = subst (λ cs. IsRight cs (seq l) (call l) (since l) l k reply) q right in
        let x = g.calls.entry l above in
        let below = slice_get_below entries x.0 _ x.1 in
        let first = at_front entries (answered_now ∷ []) x.0 (omega arith) in
        let last = at_end entries (answered_now ∷ []) in
        let all = ap length q in
        let count = g.joined.count in
        subst (λ d. IsAnswer config (entries ++ answered_now ∷ []) (length entries) l (seq l) k reply d) (named_now l d named)
        (record {
          sent = x.0;
          is_sent = slice_get_front entries (answered_now ∷ []) x.0 _ x.1;
          before = below;
          from = let y = x.2 in let z = right.from in omega arith;
          to = let z = right.to in omega arith;
          served = a.served;
          made = λ m. let y = a.made m in let z = y.0 in (omega arith, y.1);
          only = a.only;
        })

    pub script_answered : Script config (entries ++ answered_now ∷ []) commits placings known seq call since (put phase l Idle) drawn
    script_answered = record {
      commits = g.commits;
      joined = joined_more config entries answered_now commits refl g.joined;
      calls = calls_more config entries answered_now commits seq call since g.calls;
      answers = λ j m s i a h. ⊎_elim
          (λ y. let x = g.answers j m s i a y in (
            x.0,
            put_all (λ m q. (s ≡ seq m → phase m ≡ Idle) → s ≡ seq m → q ≡ Idle) phase l Idle (λ z w. refl) (λ m _ z. z) m x.1,
            λ d is tree plain. answer_more config entries answered_now commits j m s i a d g.joined (slice_get_below entries j _ y) (λ ino w. absurd (cc)) (x.2 d is tree plain),
          ))
          (λ y. answered_parts
          (λ m s i a. (s ≤ seq m) × (s ≡ seq m → put phase l Idle m ≡ Idle) × ((d : Call) → call_of config m s ≡ Some d → is_place d.op ≡ false → is_names a ≡ false → IsAnswer config (entries ++ answered_now ∷ []) j m s i a d))
          l (seq l) k m s i reply a y.1
          (omega arith, (λ _. put_same phase l Idle), λ d is tree plain. subst (λ z. IsAnswer config (entries ++ answered_now ∷ []) z l (seq l) k reply d) (sym y.0) (answered d is tree plain)))
          (slice_get_snoc entries answered_now j _ h);
      once = once_answered config entries seq phase l k reply above none g.once;
      placements =
          let x = g.calls.entry l above in
          placements_answered g.placements l k x.0 reply x.1 x.2 (⊎_elim (λ was. inl was) (λ tree. inr (of_tree l tree)) told);
    }

  -- ---- changes of placement

  -- answers stay right with an entry that is none of a commit, and of no new answer
  answers_more : (e : Entry) → is_commit e ≡ false → ((l s k : ℕ) (reply : Reply) → e ≢ entry.Answered l s k reply) → (l : ℕ) (p : Phase) → phase l ≢ Idle → Answers config (entries ++ e ∷ []) seq (put phase l p)
  answers_more e off unanswered l p busy j a s i r there = ⊎_elim
      (λ y. let z = g.answers j a s i r y in (
        z.0,
        put_all (λ a q. (s ≡ seq a → phase a ≡ Idle) → s ≡ seq a → q ≡ Idle) phase l p (λ was same. absurd (busy (was same))) (λ a _ was. was) a z.1,
        λ call named tree plain. answer_more config entries e commits j a s i r call g.joined (slice_get_below entries j _ y) (λ ino same. let on : is_commit e ≡ true = ap is_commit same in true≢false (sym on ∙ off)) (z.2 call named tree plain),
      ))
      (λ y. absurd (unanswered a s i r y.1))
      (slice_get_snoc entries e j _ there)

  unanswered_now : (l : ℕ) → IsUnanswered (phase l) → phase l ≢ Idle
  unanswered_now l live idle = subst IsUnanswered idle live

  module _ (l k : ℕ) (name : List ℕ) (rule : Rule) (places : (call l).op ≡ op.Place name rule) (above : 0 < seq l) (live : IsUnanswered (phase l)) (from : since l ≤ k) (to : k ≤ length commits) where
    -- a change is made, and is done
    pub script_placed : (version : ℕ) → version ≡ length placings + 1 → place_answer config.nodes (names_ruled config [] entries) (call l).cred name rule ≡ Fine
        → Script config (entries ++ entry.Placed l (seq l) version ∷ []) commits (placings ++ record { name = name; rule = rule } ∷ []) known seq call since (put phase l (Tells (Replies k Fine))) drawn
    script_placed version next fine =
        let e = entry.Placed l (seq l) version in
        let count = g.joined.count in
        let is_change : is_place (call l).op ≡ true = ap is_place places in
        record {
          commits = g.commits;
          joined = joined_more config entries e commits refl g.joined;
          calls = calls_more config entries e commits seq call since g.calls;
          answers = answers_more e refl (λ m s i r same. cc) l (Tells (Replies k Fine)) (unanswered_now l live);
          once = once_placed config entries seq phase l version k Fine live above (subst (λ o. IsSomeAnd o (λ c. is_place c.op ≡ true)) (sym (g.calls.named l above)) is_change) g.once;
          placements = placements_placed g.placements l k (plain (call l)) name rule (g.calls.named l above) places from (omega arith) version next fine
              (λ i reply told. subst IsUnanswered told live)
              (λ j i reply there. g.once.unanswered l j i reply (unanswered_now l live) there);
        }

    -- a change is refused
    pub script_refused : (reply : Reply) → reply ≡ place_answer config.nodes (names_ruled config [] entries) (call l).cred name rule → reply ≢ Fine
        → Script config entries commits placings known seq call since (put phase l (Tells (Replies k reply))) drawn
    script_refused reply is refused =
        let count = g.joined.count in
        moved_with (put phase l (Tells (Replies k reply))) (goes_put phase l (Tells (Replies k reply)) live)
        (placements_refused g.placements l k (plain (call l)) name rule (g.calls.named l above) places from (omega arith) reply is refused (λ i version there. g.once.unplaced l i version live there))

  -- a client learns that its table is stale, takes the changes, and goes on with its call
  pub script_staled : (l old new : ℕ) (table : Placement) (c : CallRec) (p : Phase) → plain c ≡ plain (call l) → c.id.client ≡ (call l).id.client → c.id.seq ≡ (call l).id.seq → 0 < seq l → phase l ≢ Idle → Goes (phase l) p
      → old ≡ (known l).version → table.version ≡ new → old < new → new ≤ length placings → ((k : ℕ) (reply : Reply) → p ≢ Tells (Replies k reply))
      → Script config (entries ++ entry.Stale l (seq l) old new ∷ []) commits placings (put known l table) seq (put call l c) since (put phase l p) drawn
  script_staled l old new table c p same lane number above busy goes was is later within told =
      let e = entry.Stale l (seq l) old new in
      record {
        commits = g.commits;
        joined = joined_more config entries e commits refl g.joined;
        calls = calls_more config entries e commits seq (put call l c) since (handed_calls l c same lane number);
        answers = answers_more e refl (λ m s i r same. cc) l p busy;
        once = once_staled config entries seq phase l old new p busy goes above g.once;
        placements = placements_staled g.placements l old new table p was is later within told;
      }

  -- the client of a listing is told of its directory
  pub script_opened : (l point dir : ℕ) → phase l ≡ Tells (Opens point dir) → 0 < seq l → is_list (call l).op ≡ true
      → Script config (entries ++ entry.Opened l (seq l) dir point ∷ []) commits placings known seq call since (put phase l (Tells (Lists point dir))) drawn
  script_opened l point dir is above lists =
      let e = entry.Opened l (seq l) dir point in
      let p = Tells (Lists point dir) in
      let busy : phase l ≢ Idle = λ idle. let none : Tells (Opens point dir) ≡ Idle = sym is ∙ idle in absurd (cc) in
      record {
        commits = g.commits;
        joined = joined_more config entries e commits refl g.joined;
        calls = calls_more config entries e commits seq call since g.calls;
        answers = answers_more e refl (λ m s i r same. cc) l p busy;
        once = once_opened config entries seq phase l dir point is above (subst (λ o. IsSomeAnd o (λ c. is_list c.op ≡ true)) (sym (g.calls.named l above)) lists) g.once;
        placements = placements_opened g.placements l dir point p (λ i r told. absurd (cc));
      }
