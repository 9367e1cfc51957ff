-- Records of calls and of answers that are under way.
use Rattle.std.proofs.Common.{◌≡◌, ◌≢◌, ◌⊎◌, inl, inr, ⊎_elim, ℕ, ◌<◌, true, false, List, [], ◌∷◌, ◌++◌, Some, None, subst, refl, sym, ap, ◌+◌, ◌∙◌, arith}
use Rattle.fal_base.specs.declared.call.CallRec.{CallRec}
use Rattle.fal_base.specs.declared.event.Actor.{Actor}
use Rattle.fal_base.specs.declared.event.Actor.TheVariants.{Client, Node}
use Rattle.fal_base.specs.declared.reply.Reply.{Reply}
use Rattle.fal_base.specs.Marks.{Marks, mark_of, last_mark, with_mark, is_newer}
use Rattle.fal_base.specs.declared.mark.Mark.{Mark}
use Rattle.fal_wire.specs.declared.message.Message.{Message}
use Rattle.fal_wire.specs.declared.message.Message.TheVariants as message
use Rattle.fal_story.proofs.Lists.Grown.{put_all, put_both, put_other, put_same, tells}
use Rattle.fal_story.proofs.Lists.Newer.{mark_cases, not_newer_itself, not_newer_later}
use Rattle.fal_story.proofs.Phase.{Phase, Answer, Idle, Asked, Waits, Tells, Replies, Opens, Lists, Goes, IsTaken, IsUnanswered, Stays, taken_live}
use Rattle.fal_story.proofs.View.{posted_more, Post, IsPosted, post}
use Rattle.fal_story.specs.World.{put}

abbrev pub IsRequest : (ℕ → Marks) → (ℕ → CallRec) → (ℕ → Phase) → ℕ → CallRec → Type 0
IsRequest taken call phase n c =
    ((c ≡ call c.id.client) × (phase c.id.client ≡ Asked n)) ⊎ (is_newer (mark_of c.id) (last_mark (taken n) c.id.client) ≡ false)

abbrev pub Requests : List Post → (ℕ → Marks) → (ℕ → CallRec) → (ℕ → Phase) → Type 0
Requests posts taken call phase = (e n p : ℕ) (c : CallRec) → IsPosted posts e (Node n) p (message.Call c) → IsRequest taken call phase n c

-- the call has come to this: an answer is under way; a directory is opened, whether its client is told or not
abbrev pub HasCome : Phase → Answer → Type 0
HasCome phase (Replies p reply) = phase ≡ Tells (Replies p reply)
HasCome phase (Opens p dir) = (phase ≡ Tells (Opens p dir)) ⊎ (phase ≡ Tells (Lists p dir))
HasCome phase (Lists p dir) = ⊥

abbrev pub IsHeard : Phase → Answer → Type 0
IsHeard phase told = (phase ≡ Idle) ⊎ HasCome phase told

-- it is an earlier call of the lane, or was heard, or has come to this
abbrev pub IsSettled : ℕ → Phase → ℕ → Answer → Type 0
IsSettled seq phase s told = (s < seq) ⊎ ((s ≡ seq) × IsHeard phase told)

abbrev pub IsResponse : (ℕ → ℕ) → (ℕ → Phase) → ℕ → ℕ → Message → Type 0
IsResponse seq phase l p (message.Reply id reply) = (id.client ≡ l) × IsSettled (seq l) (phase l) id.seq (Replies p reply)
IsResponse seq phase l p (message.Opened id dir) = (id.client ≡ l) × IsSettled (seq l) (phase l) id.seq (Opens p dir)
IsResponse seq phase l p (message.Stale id old new changes) = id.client ≡ l
IsResponse seq phase l p (message.ListPart id node names) = id.client ≡ l
IsResponse seq phase l p other = ⊥

-- a call that is not executed has come to nothing
unheard : (phase : Phase) (told : Answer) → IsUnanswered phase → IsHeard phase told → ⊥
unheard phase (Replies p reply) live heard = ⊎_elim (λ e. subst IsUnanswered e live) (λ e. subst IsUnanswered e live) heard
unheard phase (Opens p dir) live heard = ⊎_elim (λ e. subst IsUnanswered e live) (λ h. ⊎_elim (λ e. subst IsUnanswered e live) (λ e. subst IsUnanswered e live) h) heard
unheard phase (Lists p dir) live heard = ⊎_elim (λ e. subst IsUnanswered e live) (λ h. h) heard

unheard_taken : (phase : Phase) (told : Answer) → IsTaken phase → IsHeard phase told → ⊥
unheard_taken phase told taken = unheard phase told (taken_live phase taken)

-- what was heard, or is under way, stays so where the call moves
heard_goes : (phase next : Phase) (told : Answer) → Goes phase next → IsHeard phase told → IsHeard next told
heard_goes phase next (Replies p reply) goes heard = ⊎_elim (λ e. inl (goes.still e)) (λ e. inr (goes.done p reply e)) heard
heard_goes phase next (Opens p dir) goes heard = ⊎_elim (λ e. inl (goes.still e)) (λ h. inr (⊎_elim (λ e. goes.opened p dir e) (λ e. inr (goes.listing p dir e)) h)) heard
heard_goes phase next (Lists p dir) goes heard = ⊎_elim (λ e. inl (goes.still e)) (λ h. inr h) heard

abbrev pub Responses : List Post → (ℕ → ℕ) → (ℕ → Phase) → Type 0
Responses posts seq phase = (e l p : ℕ) (m : Message) → IsPosted posts e (Client l) p m → IsResponse seq phase l p m

pub record Records (posts : List Post) (taken : ℕ → Marks) (seq : ℕ → ℕ) (call : ℕ → CallRec) (phase : ℕ → Phase) : Type 0 where
  pub requests : Requests posts taken call phase
  pub responses : Responses posts seq phase

-- ---- what has to hold of a record when it is sent: of one that is no call and goes to no client, that it goes to a node
abbrev pub FineRecords : (ℕ → Marks) → (ℕ → ℕ) → (ℕ → CallRec) → (ℕ → Phase) → Actor → ℕ → Message → Type 0
FineRecords taken seq call phase to p (message.Call c) = (n : ℕ) × (to ≡ Node n) × IsRequest taken call phase n c
FineRecords taken seq call phase to p (message.Reply id reply) = (l : ℕ) × (to ≡ Client l) × IsResponse seq phase l p (message.Reply id reply)
FineRecords taken seq call phase to p (message.Opened id dir) = (l : ℕ) × (to ≡ Client l) × IsResponse seq phase l p (message.Opened id dir)
FineRecords taken seq call phase to p (message.Stale id old new changes) = (l : ℕ) × (to ≡ Client l) × (id.client ≡ l)
FineRecords taken seq call phase to p (message.ListPart id node names) = (l : ℕ) × (to ≡ Client l) × (id.client ≡ l)
FineRecords taken seq call phase to p other = (n : ℕ) × (to ≡ Node n)

same_client : (a b : ℕ) → Client a ≡ Client b → a ≡ b
same_client a b e = cc

module _ (taken : ℕ → Marks) (seq : ℕ → ℕ) (call : ℕ → CallRec) (phase : ℕ → Phase) where
  fine_at : (to other : Actor) (p q : ℕ) (m n : Message) → FineRecords taken seq call phase to p m → (to ≡ other) × (p ≡ q) × (m ≡ n) → FineRecords taken seq call phase other q n
  fine_at to other p q m n fine same =
      subst (FineRecords taken seq call phase other q) same.2 (subst (λ z. FineRecords taken seq call phase other z m) same.1 (subst (λ z. FineRecords taken seq call phase z p m) same.0 fine))

  fine_request : (n p : ℕ) (c : CallRec) → FineRecords taken seq call phase (Node n) p (message.Call c) → IsRequest taken call phase n c
  fine_request n p c fine = subst (λ i. IsRequest taken call phase i c) (sym (same_node n fine.0 fine.1)) fine.2
    where
      same_node : (a b : ℕ) → Node a ≡ Node b → a ≡ b
      same_node a b e = cc

  fine_response : (l p : ℕ) (m : Message) → FineRecords taken seq call phase (Client l) p m → IsResponse seq phase l p m
  fine_response l p (message.Call c) fine = let e = fine.1 in absurd (cc)
  fine_response l p (message.Reply id reply) fine = subst (λ i. IsResponse seq phase i p (message.Reply id reply)) (sym (same_client l fine.0 fine.1)) fine.2
  fine_response l p (message.Opened id dir) fine = subst (λ i. IsResponse seq phase i p (message.Opened id dir)) (sym (same_client l fine.0 fine.1)) fine.2
  fine_response l p (message.Stale id old new changes) fine = fine.2 ∙ sym (same_client l fine.0 fine.1)
  fine_response l p (message.ListPart id node names) fine = fine.2 ∙ sym (same_client l fine.0 fine.1)
  fine_response l p other fine = let e = fine.1 in absurd (cc)

-- the lane has a later call, or another phase
response_kept : (seq seq' : ℕ → ℕ) (phase phase' : ℕ → Phase) (l p : ℕ) (m : Message)
    → ((s : ℕ) (told : Answer) → IsSettled (seq l) (phase l) s told → IsSettled (seq' l) (phase' l) s told) → IsResponse seq phase l p m → IsResponse seq' phase' l p m
response_kept seq seq' phase phase' l p (message.Reply id reply) f r = (r.0, f id.seq (Replies p reply) r.1)
response_kept seq seq' phase phase' l p (message.Opened id dir) f r = (r.0, f id.seq (Opens p dir) r.1)
response_kept seq seq' phase phase' l p (message.Stale id old new changes) f r = r
response_kept seq seq' phase phase' l p (message.ListPart id node names) f r = r
response_kept seq seq' phase phase' l p other f r = absurd r

-- a call that was not executed is where it may be
settled_live : (seq : ℕ → ℕ) (phase : ℕ → Phase) (l : ℕ) (p : Phase) → IsUnanswered (phase l) → (a s : ℕ) (told : Answer) → IsSettled (seq a) (phase a) s told → IsSettled (seq a) (put phase l p a) s told
settled_live seq phase l p live a s told = put_all (λ a q. IsSettled (seq a) (phase a) s told → IsSettled (seq a) q s told) phase l p
    (λ h. ⊎_elim (λ less. inl less) (λ y. absurd (unheard (phase l) told live y.1)) h) (λ a _ h. h) a

-- once the call of this mark was taken at a node, no record of another one is newer there that was not so before
old_still : (taken : ℕ → Marks) (n client m q : ℕ) (mark other : Mark) → is_newer mark (last_mark (taken n) client) ≡ true → is_newer other (last_mark (taken m) q) ≡ false
    → is_newer other (last_mark (put taken n (with_mark (taken n) client mark) m) q) ≡ false
old_still taken n client m q mark other newer =
    put_all (λ m marks. is_newer other (last_mark (taken m) q) ≡ false → is_newer other (last_mark marks q) ≡ false) taken n (with_mark (taken n) client mark)
    (λ old. ⊎_elim
    (λ x. ap (is_newer other) x.1 ∙ not_newer_later other mark (last_mark (taken n) client) newer (ap (λ i. is_newer other (last_mark (taken n) i)) (sym x.0) ∙ old))
    (λ x. ap (is_newer other) x.1 ∙ old)
    (mark_cases (taken n) client mark q))
    (λ m _ old. old)
    m

old_itself : (taken : ℕ → Marks) (n client m q : ℕ) (mark other : Mark) → m ≡ n → q ≡ client → other ≡ mark → is_newer other (last_mark (put taken n (with_mark (taken n) client mark) m) q) ≡ false
old_itself taken n client m q mark other here same alike =
    ap (λ i. is_newer other (last_mark (put taken n (with_mark (taken n) client mark) i) q)) here
    ∙ ap (λ marks. is_newer other (last_mark marks q)) (put_same taken n (with_mark (taken n) client mark))
    ∙ ⊎_elim (λ x. ap (is_newer other) x.1 ∙ ap (λ a. is_newer a (Some mark)) alike ∙ not_newer_itself mark) (λ x. absurd (x.0 same)) (mark_cases (taken n) client mark q)

-- records of calls, after one was taken
request_taken : (taken : ℕ → Marks) (call : ℕ → CallRec) (phase : ℕ → Phase) (n m : ℕ) (c other : CallRec) → c ≡ call c.id.client → phase c.id.client ≡ Asked n
    → is_newer (mark_of c.id) (last_mark (taken n) c.id.client) ≡ true → IsRequest taken call phase m other
    → IsRequest (put taken n (with_mark (taken n) c.id.client (mark_of c.id))) call (put phase c.id.client (Waits n None)) m other
request_taken taken call phase n m c other is asked newer request =
    ⊎_elim
    (λ x. ⊎_elim
    (λ same.
    let here : m ≡ n = same_asked (sym x.1 ∙ ap phase same.1 ∙ asked) in
    let alike : other ≡ c = x.0 ∙ ap call same.1 ∙ sym is in
    inr (old_itself taken n c.id.client m other.id.client (mark_of c.id) (mark_of other.id) here same.1 (ap (λ (z : CallRec). mark_of z.id) alike)))
    (λ apart. inl (x.0, put_other phase c.id.client (Waits n None) other.id.client apart.1 ∙ x.1))
    (tells other.id.client c.id.client))
    (λ old. inr (old_still taken n c.id.client m other.id.client (mark_of c.id) (mark_of other.id) newer old))
    request
  where
    same_asked : {a b : ℕ} → Asked a ≡ Asked b → a ≡ b
    same_asked e = cc

module _ {posts : List Post} {taken : ℕ → Marks} {seq : ℕ → ℕ} {call : ℕ → CallRec} {phase : ℕ → Phase} (g : Records posts taken seq call phase) where
  -- a call that was taken is executed
  pub records_done : (l : ℕ) (answer : Answer) → IsTaken (phase l) → Records posts taken seq call (put phase l (Tells answer))
  records_done l answer is = record {
    requests = λ e m p c posted. ⊎_elim
        (λ y. inl (y.0, put_all (λ a q. phase a ≡ Asked m → q ≡ Asked m) phase l (Tells answer) (λ z. absurd (subst IsTaken z is)) (λ a _ z. z) c.id.client y.1))
        (λ y. inr y)
        (g.requests e m p c posted);
    responses = λ e a p m posted. response_kept seq seq phase (put phase l (Tells answer)) a p m (settled_live seq phase l (Tells answer) (taken_live (phase l) is) a) (g.responses e a p m posted);
  }

  -- calls move, none that is on its way to an actor
  pub records_moved : (phase' : ℕ → Phase) → ((l : ℕ) → Goes (phase l) (phase' l)) → ((l : ℕ) → Stays (phase l) (phase' l)) → Records posts taken seq call phase'
  records_moved phase' goes stays = record {
    requests = λ e n p c sent. ⊎_elim (λ x. inl (x.0, stays c.id.client n x.1)) (λ old. inr old) (g.requests e n p c sent);
    responses = λ e l p m sent. response_kept seq seq phase phase' l p m (λ s told h. ⊎_elim (λ less. inl less) (λ y. inr (y.0, heard_goes (phase l) (phase' l) told (goes l) y.1)) h) (g.responses e l p m sent);
  }

  -- one record more
  pub records_posted : (to : Actor) (p : ℕ) (m : Message) → FineRecords taken seq call phase to p m → Records (posts ++ post to p m ∷ []) taken seq call phase
  records_posted to p m fine = record {
    requests = λ e n q c h. ⊎_elim
        (λ x. g.requests e n q c x)
        (λ x. fine_request taken seq call phase n q c (fine_at taken seq call phase to (Node n) p q m (message.Call c) fine x))
        (posted_more posts to p m e (Node n) q (message.Call c) h);
    responses = λ e l q n h. ⊎_elim
        (λ x. g.responses e l q n x)
        (λ x. fine_response taken seq call phase l q n (fine_at taken seq call phase to (Client l) p q m n fine x))
        (posted_more posts to p m e (Client l) q n h);
  }

  -- a call is handed on to another actor: only its record there is newer
  pub records_handed : (l : ℕ) (c : CallRec) (p : Phase) → IsTaken (phase l) → Records posts taken seq (put call l c) (put phase l p)
  records_handed l c p is = record {
    requests = λ e n q d sent. ⊎_elim
        (λ y. inl (put_both (λ i b t. (d ≡ call i) × (phase i ≡ Asked n) → (d ≡ b) × (t ≡ Asked n)) call phase l c p (λ z. absurd (subst IsTaken z.1 is)) (λ i _ z. z) d.id.client y))
        (λ y. inr y)
        (g.requests e n q d sent);
    responses = λ e a q m sent. response_kept seq seq phase (put phase l p) a q m (settled_live seq phase l p (taken_live (phase l) is) a) (g.responses e a q m sent);
  }

  -- a listing is tried again: only the call's attempt is another
  pub records_again : (l : ℕ) (c : CallRec) (p : Phase) → ((n : ℕ) → phase l ≢ Asked n) → Goes (phase l) p → Records posts taken seq (put call l c) (put phase l p)
  records_again l c p apart goes = record {
    requests = λ e n q d sent. ⊎_elim
        (λ y. inl (put_both (λ i b t. (d ≡ call i) × (phase i ≡ Asked n) → (d ≡ b) × (t ≡ Asked n)) call phase l c p (λ z. absurd (apart n z.1)) (λ i _ z. z) d.id.client y))
        (λ y. inr y)
        (g.requests e n q d sent);
    responses = λ e a q m sent. response_kept seq seq phase (put phase l p) a q m
        (λ s told. put_all (λ a t. IsSettled (seq a) (phase a) s told → IsSettled (seq a) t s told) phase l p
        (λ h. ⊎_elim (λ less. inl less) (λ y. inr (y.0, heard_goes (phase l) p told goes y.1)) h) (λ a _ h. h) a)
        (g.responses e a q m sent);
  }

  -- a lane's next call is sent
  pub records_sent : (l : ℕ) (c : CallRec) (p : Phase) → phase l ≡ Idle → Records posts taken (put seq l (seq l + 1)) (put call l c) (put phase l p)
  records_sent l c p idle = record {
    requests = λ x n q d h. ⊎_elim
        (λ y. inl (put_both (λ i b t. (d ≡ call i) × (phase i ≡ Asked n) → (d ≡ b) × (t ≡ Asked n)) call phase l c p (λ z. let w = z.1 in absurd (cc)) (λ i _ z. z) d.id.client y))
        (λ y. inr y)
        (g.requests x n q d h);
    responses = λ x m q msg h. response_kept seq (put seq l (seq l + 1)) phase (put phase l p) m q msg
        (λ s told. put_both (λ i t u. IsSettled (seq i) (phase i) s told → IsSettled t u s told) seq phase l (seq l + 1) p
        (λ y. inl (⊎_elim (λ z. let w : s < seq l = z in let o : s < seq l + 1 = omega arith in o) (λ z. let w = z.0 in omega arith) y))
        (λ i _ y. y)
        m)
        (g.responses x m q msg h);
  }

  -- an actor takes a call
  pub records_taken : (n : ℕ) (c : CallRec) → c ≡ call c.id.client → phase c.id.client ≡ Asked n → is_newer (mark_of c.id) (last_mark (taken n) c.id.client) ≡ true
      → Records posts (put taken n (with_mark (taken n) c.id.client (mark_of c.id))) seq call (put phase c.id.client (Waits n None))
  records_taken n c is asked newer = record {
    requests = λ i m q other z. request_taken taken call phase n m c other is asked newer (g.requests i m q other z);
    responses = λ i m q other z. response_kept seq seq phase (put phase c.id.client (Waits n None)) m q other (settled_live seq phase c.id.client (Waits n None) (subst IsUnanswered (sym asked) tt) m) (g.responses i m q other z);
  }

  -- a lane's call is answered
  pub records_idle : (l : ℕ) (answer : Answer) → phase l ≡ Tells answer → Records posts taken seq call (put phase l Idle)
  records_idle l answer done = record {
    requests = λ x n p c h. ⊎_elim
        (λ y. inl (y.0, put_all (λ j q. phase j ≡ Asked n → q ≡ Asked n) phase l Idle (λ z. let none : Tells answer ≡ Asked n = sym done ∙ z in absurd (cc)) (λ j _ z. z) c.id.client y.1))
        (λ y. inr y)
        (g.requests x n p c h);
    responses = λ x m p msg h. response_kept seq seq phase (put phase l Idle) m p msg
        (λ s told. put_all (λ m q. IsSettled (seq m) (phase m) s told → IsSettled (seq m) q s told) phase l Idle
        (λ y. ⊎_elim (λ z. inl z) (λ z. inr (z.0, inl refl)) y)
        (λ m _ y. y)
        m)
        (g.responses x m p msg h);
  }
