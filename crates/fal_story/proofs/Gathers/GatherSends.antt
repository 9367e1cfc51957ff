-- What a node sends when it gathers: it asks for directories, and calls leave it, in the order of the plan.
use Rattle.std.proofs.Common.{◌≡◌, ◌≢◌, ◌⊎◌, inl, inr, ⊎_elim, ℕ, ◌+◌, ◌<◌, ◌≤◌, List, [], ◌∷◌, ◌++◌, length, map, filter_map, Option, Some, None, refl, sym, ap, subst, ◌∙◌, append-nil, append_assoc}
use Rattle.fal_base.specs.declared.call.CallRec.{CallRec}
use Rattle.fal_base.specs.declared.call.Config.{Config}
use Rattle.fal_base.specs.declared.event.Actor.{Actor}
use Rattle.fal_base.specs.declared.event.Actor.TheVariants.{Node}
use Rattle.fal_base.specs.declared.key.Key.{Key}
use Rattle.fal_node.specs.Gather.{ask_letter, away_letter}
use Rattle.fal_node.specs.State.{NodeState}
use Rattle.fal_place.specs.Placement.{owner, changes_since, table_after}
use Rattle.fal_wire.specs.declared.message.Found.{Found}
use Rattle.fal_wire.specs.declared.message.Message.TheVariants as message
use Rattle.fal_story.proofs.Events.InStep.{letter_post, letter_posts}
use Rattle.fal_story.proofs.Families.Asking.{Crosses, GoesTo, IsForKey}
use Rattle.fal_story.proofs.Families.Clear.{IsShut}
use Rattle.fal_story.proofs.Families.Lanes.{OwnsLast}
use Rattle.fal_story.proofs.Good.{Good}
use Rattle.fal_story.proofs.Lists.Each.{Apart, Each}
use Rattle.fal_story.proofs.Lists.GatherLetters.{Asks, Errand, Parts, leaver_of, letter_of}
use Rattle.fal_story.proofs.Lists.GatherLists.{Leaver, left_lane}
use Rattle.fal_story.proofs.Lists.Grown.{put_back, put_other, put_put, put_same, tells}
use Rattle.fal_story.proofs.Lists.Members.{IsIn}
use Rattle.fal_story.proofs.Phase.{Phase, Asked, Told, Waits}
use Rattle.fal_story.proofs.Steps.Called.{handed, passed_sent_good}
use Rattle.fal_story.proofs.Steps.Fetching.{IsNewFetch, pended_good}
use Rattle.fal_story.proofs.Steps.Posted.{posted_good}
use Rattle.fal_story.proofs.Steps.Retried.{told_sent_good}
use Rattle.fal_story.proofs.Trees.Standing.{Reaches}
use Rattle.fal_story.proofs.View.{View, Post, Asking, IsPosted, now}
use Rattle.fal_story.specs.World.{put}

-- ---- many fetches are pending

-- nothing has the number yet, and the walks of its waiters come to its key
abbrev pub IsPendable : View → ℕ → Asking → Type 0
IsPendable v n f =
    (f.number < v.opened n) × ((e p : ℕ) (key : Key) (what : Found) → IsPosted v.posts e (Node n) p (message.FetchGot f.number key what) → ⊥)
    × ((e p : ℕ) (to : Actor) (key : Key) → IsPosted v.posts e to p (message.FetchAsk n f.number key) → ⊥)
    × ((l : ℕ) → v.phase l ≡ Waits n (Some f.number) → Reaches (now v) (v.call l) f.key × Crosses (now v) (v.call l) f.key (v.op.crossed l))
    × (IsShut (v.op.shut n) f.key → ⊥)

pub all_pended : (config : Config) (v : View) (n : ℕ) (fs : List Asking) → n < config.nodes → n ≢ 255 → Each (IsPendable v n) fs → Good config v → Good config (record v { fetches = put v.fetches n (v.fetches n ++ fs) })
all_pended config v n [] there other h g =
    let same : ◌≡◌ {A = ℕ → List Asking} v.fetches (put v.fetches n (v.fetches n ++ [])) = sym (ap (put v.fetches n) (append-nil (v.fetches n)) ∙ put_back v.fetches n) in
    subst (λ (fetches : ℕ → List Asking). Good config (record v { fetches = fetches })) same g
all_pended config v n (f ∷ fs) there other h g =
    let one = put v.fetches n (v.fetches n ++ f ∷ []) in
    let next = record v { fetches = one } in
    let new : IsNewFetch config v n f = record { who = inr there; below = h.0.0; no_got = h.0.1; no_ask = h.0.2; reach = h.0.3; off = h.0.4; walks = λ own. absurd (other own) } in
    let rest = all_pended config next n fs there other h.1 (pended_good config v n f new g) in
    let same : ◌≡◌ {A = ℕ → List Asking} (put one n (one n ++ fs)) (put v.fetches n (v.fetches n ++ f ∷ fs)) =
    ap (λ xs. put one n (xs ++ fs)) (put_same v.fetches n (v.fetches n ++ f ∷ [])) ∙ put_put v.fetches n (v.fetches n ++ f ∷ []) ((v.fetches n ++ f ∷ []) ++ fs)
    ∙ ap (put v.fetches n) (append_assoc (v.fetches n) (f ∷ []) fs) in
    subst (λ (fetches : ℕ → List Asking). Good config (record v { fetches = fetches })) same rest

-- ---- calls leave

-- a call that is handed on has its hop raised, and is on its way there; one whose client is told stays as it is
abbrev pub left_call : CallRec → Option ℕ → CallRec
left_call call None = call
left_call call (Some m) = handed call

abbrev pub left_phase : NodeState → CallRec → Option ℕ → Phase
left_phase x call None = Told call.version x.table.version
left_phase x call (Some m) = Asked m

-- the calls and where they are when all of these have left
abbrev pub calls_after : List Errand → (ℕ → CallRec) → ℕ → CallRec
calls_after [] call = call
calls_after (Asks f ∷ errands) call = calls_after errands call
calls_after (Parts y ∷ errands) call = calls_after errands (put call (left_lane y) (left_call y.call y.to))

abbrev pub phases_after : NodeState → List Errand → (ℕ → Phase) → ℕ → Phase
phases_after x [] phase = phase
phases_after x (Asks f ∷ errands) phase = phases_after x errands phase
phases_after x (Parts y ∷ errands) phase = phases_after x errands (put phase (left_lane y) (left_phase x y.call y.to))

-- a lane's call has left, or is where it was
abbrev pub HasLeft : NodeState → List Errand → (ℕ → CallRec) → (ℕ → Phase) → ℕ → Type 0
HasLeft x errands call phase l =
    (y : Leaver) × (IsIn y (filter_map leaver_of errands) × (left_lane y ≡ l) × (calls_after errands call l ≡ left_call y.call y.to) × (phases_after x errands phase l ≡ left_phase x y.call y.to))

pub left_cases : (x : NodeState) (errands : List Errand) (call : ℕ → CallRec) (phase : ℕ → Phase) (l : ℕ)
    → ((calls_after errands call l ≡ call l) × (phases_after x errands phase l ≡ phase l)) ⊎ HasLeft x errands call phase l
left_cases x [] call phase l = inl (refl, refl)
left_cases x (Asks f ∷ errands) call phase l = left_cases x errands call phase l
left_cases x (Parts y ∷ errands) call phase l =
    let c = left_call y.call y.to in
    let p = left_phase x y.call y.to in
    ⊎_elim
    (λ same. ⊎_elim {C = ((calls_after (Parts y ∷ errands) call l ≡ call l) × (phases_after x (Parts y ∷ errands) phase l ≡ phase l)) ⊎ HasLeft x (Parts y ∷ errands) call phase l}
    (λ here. inr (
      y,
      (
        inl refl,
        sym here.1,
        same.0 ∙ ap (put call (left_lane y) c) here.1 ∙ put_same call (left_lane y) c,
        same.1 ∙ ap (put phase (left_lane y) p) here.1 ∙ put_same phase (left_lane y) p,
      ),
    ))
    (λ apart. inl (same.0 ∙ put_other call (left_lane y) c l apart.1, same.1 ∙ put_other phase (left_lane y) p l apart.1))
    (tells l (left_lane y)))
    (λ z. inr (z.0, (inr z.1.0, z.1.1, z.1.2, z.1.3)))
    (left_cases x errands (put call (left_lane y) c) (put phase (left_lane y) p) l)

-- the call belongs to that node and not to this one, and some rule was set; or its client has an older table than this node
abbrev pub MayPart : Config → View → NodeState → CallRec → Option ℕ → Type 0
MayPart config v x call None =
    (call.version ≡ (v.map.known call.id.client).version) × (call.version < x.table.version) × (x.table.version ≤ length v.map.placings)
    × (x.table ≡ table_after config.nodes v.map.placings x.table.version) × (call.id.seq ≡ v.seq call.id.client)
MayPart config v x call (Some m) = (m < config.nodes) × (OwnsLast v.map.table (now v) x.number call → ⊥) × OwnsLast v.map.table (now v) m call × (1 ≤ v.map.table.version)

-- it waits for nothing at the node, and may leave
abbrev pub IsParting : Config → View → NodeState → CallRec → Option ℕ → Type 0
IsParting config v x call to = (v.phase call.id.client ≡ Waits x.number None) × (call ≡ v.call call.id.client) × MayPart config v x call to

abbrev parted : View → NodeState → ℕ → CallRec → Option ℕ → View
parted v x commits call to =
    record v {
      call = put v.call call.id.client (left_call call to);
      phase = put v.phase call.id.client (left_phase x call to);
      posts = v.posts ++ letter_post commits (away_letter x call to) ∷ [];
    }

one_parted : (config : Config) (v : View) (x : NodeState) (commits : ℕ) (call : CallRec) (to : Option ℕ) → x.number < config.nodes → IsParting config v x call to → Good config v → Good config (parted v x commits call to)
one_parted config v x commits call None there is g =
    let l = call.id.client in
    let may = is.2 in
    let told = told_sent_good config v l x.number call.version x.table.version (commits + 0) call.id (changes_since call.version x.table) is.0 refl may.4 (ap (λ (c : CallRec). c.id.attempt) is.1) may.0 may.1 may.2 (ap (changes_since call.version) may.3) g in
    let same : ◌≡◌ {A = ℕ → CallRec} v.call (put v.call l call) = sym (ap (put v.call l) is.1 ∙ put_back v.call l) in
    subst (λ (calls : ℕ → CallRec). Good config (record (parted v x commits call None) { call = calls })) same told
one_parted config v x commits call (Some m) there is g =
    let may = is.2 in
    passed_sent_good config v x.number m (commits + 0) call is.0 is.1 there may.0 may.1 may.2 (λ _. may.3) g

-- ---- the records go out, in the order of the plan

abbrev pub posts_by : ℕ → NodeState → List Errand → List Post
posts_by commits x errands = letter_posts commits (map (letter_of x) errands)

-- the record asks for the directory of a pending fetch, or is of a call that leaves
abbrev pub IsSendable : Config → View → NodeState → Errand → Type 0
IsSendable config v x (Asks f) = (f.number < v.opened x.number) × IsForKey v.fetches x.number f.number f.key × GoesTo config.nodes v.map.table (Node (owner x.table f.key)) f.key
IsSendable config v x (Parts y) = IsParting config v x y.call y.to

-- those of other lanes may still leave
parting_kept : (config : Config) (v : View) (x : NodeState) (commits : ℕ) (call : CallRec) (to : Option ℕ) (errands : List Errand) → Each (λ y. left_lane y ≢ call.id.client) (filter_map leaver_of errands)
    → Each (IsSendable config v x) errands → Each (IsSendable config (parted v x commits call to) x) errands
parting_kept config v x commits call to [] apart h = tt
parting_kept config v x commits call to (Asks f ∷ errands) apart h = (h.0, parting_kept config v x commits call to errands apart h.1)
parting_kept config v x commits call to (Parts y ∷ errands) apart h = (
  (
    put_other v.phase call.id.client (left_phase x call to) (left_lane y) apart.0 ∙ h.0.0,
    h.0.1 ∙ sym (put_other v.call call.id.client (left_call call to) (left_lane y) apart.0),
    may_kept y.call y.to h.0.2,
  ),
  parting_kept config v x commits call to errands apart.1 h.1,
)
  where
    may_kept : (c : CallRec) (m : Option ℕ) → MayPart config v x c m → MayPart config (parted v x commits call to) x c m
    may_kept c None is = is
    may_kept c (Some m) is = is

pub all_sent : (config : Config) (v : View) (x : NodeState) (commits : ℕ) (errands : List Errand) → x.number < config.nodes → x.number ≢ 255 → Apart left_lane (filter_map leaver_of errands) → Each (IsSendable config v x) errands → Good config v
    → Good config (record v { call = calls_after errands v.call; phase = phases_after x errands v.phase; posts = v.posts ++ posts_by commits x errands })
all_sent config v x commits [] there other apart h g = subst (λ posts. Good config (record v { posts = posts })) (sym (append-nil v.posts)) g
all_sent config v x commits (Asks f ∷ errands) there other apart h g =
    let to = owner x.table f.key in
    let one = letter_post commits (ask_letter x f.number f.key) in
    let next = record v { posts = v.posts ++ one ∷ [] } in
    let first = posted_good config v (Node to) (commits + 0) (message.FetchAsk x.number f.number f.key)
    (record { asking = (inl there, h.0.0, h.0.2, h.0.1); records = (to, refl); operation = λ own. absurd (other own); bars = tt; knowing = tt; listings = tt }) g in
    subst (λ posts. Good config (record v { call = calls_after errands v.call; phase = phases_after x errands v.phase; posts = posts })) (append_assoc v.posts (one ∷ []) (posts_by commits x errands))
    (all_sent config next x commits errands there other apart h.1 first)
all_sent config v x commits (Parts y ∷ errands) there other apart h g =
    let one = letter_post commits (away_letter x y.call y.to) in
    let next = parted v x commits y.call y.to in
    let first = one_parted config v x commits y.call y.to there h.0 g in
    subst (λ posts. Good config (record next { call = calls_after errands next.call; phase = phases_after x errands next.phase; posts = posts })) (append_assoc v.posts (one ∷ []) (posts_by commits x errands))
    (all_sent config next x commits errands there other apart.1 (parting_kept config v x commits y.call y.to errands apart.0 h.1) first)
