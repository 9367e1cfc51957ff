-- What the coordinator waits for is on the way, at each of its stages.
use Rattle.std.proofs.Common.{◌≡◌, ◌≢◌, ◌⊎◌, inl, inr, ⊎_elim, ℕ, zero, suc, ◌<◌, Bool, true, false, ◌||◌, List, [], ◌∷◌, ◌++◌, None, sym, subst, ◌∙◌, cond, ap, refl, arith}
use Rattle.std.specs.Prelude.{◌==◌}
use Rattle.fal_base.specs.declared.event.Actor.TheVariants.{Node}
use Rattle.fal_base.specs.declared.key.Key.{Key}
use Rattle.fal_base.specs.declared.row.NamedRow.{NamedRow}
use Rattle.fal_base.specs.declared.row.Update.{Update}
use Rattle.fal_coord.specs.declared.stage.Stage.{Stage}
use Rattle.fal_coord.specs.declared.stage.Stage.TheVariants as stage
use Rattle.fal_coord.specs.Nodes.{is_missing, without_node, numbers_below}
use Rattle.fal_coord.specs.State.{CoordState}
use Rattle.fal_node.specs.declared.item.Item.{Item}
use Rattle.fal_node.specs.State.{NodeState}
use Rattle.fal_wire.specs.declared.message.Message.{Message}
use Rattle.fal_wire.specs.declared.message.Message.TheVariants as message
use Rattle.fal_story.proofs.Drain.Fresh.{IsFresh, fresh_more}
use Rattle.fal_story.proofs.Drain.OnWay.{IsOnWay}
use Rattle.fal_story.proofs.Events.Doing.{name_in}
use Rattle.fal_story.proofs.Lists.Grown.{tells}
use Rattle.fal_story.proofs.View.{Post}

-- ---- what a stage waits for

-- the nodes that are still to be heard
abbrev pub missing_of : Stage → List ℕ
missing_of (stage.Lock operation missing rows) = missing
missing_of (stage.Count operation rows dir updates missing counts) = missing
missing_of (stage.Finish keys updates missing) = missing
missing_of (stage.Block call missing rows) = missing
missing_of (stage.Install call missing) = missing
missing_of other = []

-- a node to which the operation has not come has its Lock on the way; one that has shut keys has its answer on the way
pub record IsLocking (posts : List Post) (came : ℕ → Bool) (operation : ℕ) (keys : List Key) (n : ℕ) (x : NodeState) : Type 0 where
  pub away : x.last_operation < operation → IsFresh posts came (Node n) (message.Lock operation keys)
  pub shut : x.locks.shut ≢ None → (rows : List Update) × IsFresh posts came (Node 255) (message.Locked operation n rows)

abbrev pub IsCounting : List Post → (ℕ → Bool) → ℕ → ℕ → ℕ → Type 0
IsCounting posts came operation dir n = IsFresh posts came (Node n) (message.Count operation dir) ⊎ ((number : ℕ) × IsFresh posts came (Node 255) (message.Counted operation n number))

-- a node that has keys shut has the Commit on the way; one that has none has its answer on the way
pub record IsEnding (posts : List Post) (came : ℕ → Bool) (operation : ℕ) (updates : List Update) (n : ℕ) (x : NodeState) : Type 0 where
  pub shut : x.locks.shut ≢ None → IsFresh posts came (Node n) (message.Commit operation updates)
  pub freed : x.locks.shut ≡ None → IsFresh posts came (Node 255) (message.Done operation n)

-- a node to which the operation has not come has its Block on the way; one that has blocked the name has its answer on the way
pub record IsBlocking (posts : List Post) (came : ℕ → Bool) (operation : ℕ) (name : List ℕ) (n : ℕ) (x : NodeState) : Type 0 where
  pub away : x.last_operation < operation → IsFresh posts came (Node n) (message.Block operation name)
  pub blocked : x.blocked ≢ None → (rows : List NamedRow) × IsFresh posts came (Node 255) (message.Blocked operation n rows)

-- an Install of the operation
abbrev pub IsInstall : ℕ → Message → Type 0
IsInstall operation (message.Install o version rule rows) = o ≡ operation
IsInstall operation other = ⊥

-- a node that has a name blocked has its Install on the way; one that has none has its answer on the way
pub record IsLanding (posts : List Post) (came : ℕ → Bool) (operation : ℕ) (n : ℕ) (x : NodeState) : Type 0 where
  pub blocked : x.blocked ≢ None → (order : Message) × (IsInstall operation order × IsFresh posts came (Node n) order)
  pub freed : x.blocked ≡ None → IsFresh posts came (Node 255) (message.Installed operation n)

-- what is on the way to a node that is still to be heard, or from it
abbrev pub IsHearing : List Post → (ℕ → Bool) → ℕ → Stage → ℕ → NodeState → Type 0
IsHearing posts came number (stage.Lock operation missing rows) n x = IsLocking posts came number operation.keys n x
IsHearing posts came number (stage.Count operation rows dir updates missing counts) n x = IsCounting posts came number dir n
IsHearing posts came number (stage.Finish keys updates missing) n x = IsEnding posts came number updates n x
IsHearing posts came number (stage.Block call missing rows) n x = IsBlocking posts came number (name_in call.op) n x
IsHearing posts came number (stage.Install call missing) n x = IsLanding posts came number n x
IsHearing posts came number other n x = Unit {0}

-- the fetch of a walk is on the way
abbrev pub IsWalking : List Post → (ℕ → Bool) → (ℕ → List Item) → Stage → Type 0
IsWalking posts came items (stage.Walk call fetch key) = IsOnWay posts came items 255 fetch
IsWalking posts came items other = Unit {0}

pub record IsStaged (count : ℕ) (posts : List Post) (came : ℕ → Bool) (nodes : ℕ → NodeState) (coord : CoordState) : Type 0 where
  pub walking : IsWalking posts came (λ m. (nodes m).items) coord.stage
  pub named : (n : ℕ) → is_missing n (missing_of coord.stage) ≡ true → n < count
  pub hearing : (n : ℕ) → is_missing n (missing_of coord.stage) ≡ true → IsHearing posts came coord.operation coord.stage n (nodes n)

-- ---- lists of nodes

-- one of the others is another node, and was among them
pub missing_without : (n j : ℕ) (xs : List ℕ) → is_missing n (without_node j xs) ≡ true → (n ≢ j) × (is_missing n xs ≡ true)
missing_without n j [] is = absurd (cc)
missing_without n j (x ∷ xs) is =
    ⊎_elim
    (λ t. let z = missing_without n j xs (ap (λ b. is_missing n (cond b (without_node j xs) (x ∷ without_node j xs))) (sym t.0) ∙ is) in (z.0, second (x == n) (is_missing n xs) z.1))
    (λ t. by_first (missing_without n j xs) t.1 (ap (λ b. is_missing n (cond b (without_node j xs) (x ∷ without_node j xs))) (sym t.0) ∙ is))
    (tells x j)
  where
    second : (a b : Bool) → b ≡ true → (a || b) ≡ true
    second true b e = refl
    second false b e = e

    by_first : (is_missing n (without_node j xs) ≡ true → (n ≢ j) × (is_missing n xs ≡ true)) → x ≢ j → ((x == n) || is_missing n (without_node j xs)) ≡ true → (n ≢ j) × (((x == n) || is_missing n xs) ≡ true)
    by_first rest other e =
        ⊎_elim
        (λ t. ((λ same. other (t.1 ∙ same)), ap (λ b. b || is_missing n xs) t.0))
        (λ t. let z = rest (ap (λ b. b || is_missing n (without_node j xs)) (sym t.0) ∙ e) in (z.0, second (x == n) (is_missing n xs) z.1))
        (tells x n)

-- one that was among them is among the others, or is the one that is taken out
pub missing_with : (n j : ℕ) (xs : List ℕ) → is_missing n xs ≡ true → (n ≡ j) ⊎ (is_missing n (without_node j xs) ≡ true)
missing_with n j [] is = absurd (cc)
missing_with n j (x ∷ xs) is =
    ⊎_elim
    (λ t. ⊎_elim
    (λ first. inl (sym first.1 ∙ t.1))
    (λ later. ⊎_elim (λ same. inl same) (λ left. inr (ap (λ b. is_missing n (cond b (without_node j xs) (x ∷ without_node j xs))) t.0 ∙ left)) (missing_with n j xs (ap (λ b. b || is_missing n xs) (sym later.0) ∙ is)))
    (tells x n))
    (λ t. ⊎_elim
    (λ first. inr (ap (λ b. is_missing n (cond b (without_node j xs) (x ∷ without_node j xs))) t.0 ∙ ap (λ b. b || is_missing n (without_node j xs)) first.0))
    (λ later. ⊎_elim
    (λ same. inl same)
    (λ left. inr (ap (λ b. is_missing n (cond b (without_node j xs) (x ∷ without_node j xs))) t.0 ∙ ap (λ b. b || is_missing n (without_node j xs)) later.0 ∙ left))
    (missing_with n j xs (ap (λ b. b || is_missing n xs) (sym later.0) ∙ is)))
    (tells x n))
    (tells x j)

-- what holds of the node that is taken out, where no other is left, and of each that is not among them, holds of each
pub each_but : (P : ℕ → Type 0) (n j : ℕ) (xs : List ℕ) → without_node j xs ≡ [] → P j → ((is_missing n xs ≡ true → ⊥) → P n) → P n
each_but P n j xs none here other =
    elim (is_missing n xs) as (λ b. is_missing n xs ≡ b → P n) [
      | true ↦ λ among. ⊎_elim
          (λ same. subst P (sym same) here)
          (λ left. let wrong : is_missing n [] ≡ true = subst (λ ms. is_missing n ms ≡ true) none left in absurd (cc))
          (missing_with n j xs among)
      | false ↦ λ off. other (λ is. absurd (cc))
    ] refl

pub missing_below : (n count : ℕ) → is_missing n (numbers_below count) ≡ true → n < count
missing_below n zero is = absurd (cc)
missing_below n (suc count) is =
    ⊎_elim
    (λ t. let same = t.1 in omega arith)
    (λ t. let below = missing_below n count (ap (λ b. b || is_missing n (numbers_below count)) (sym t.0) ∙ is) in omega arith)
    (tells count n)

-- ---- orders and answers

-- the records that the coordinator sends to each node
abbrev pub IsOrder : Message → Type 0
IsOrder (message.Lock operation keys) = Unit {0}
IsOrder (message.Count operation dir) = Unit {0}
IsOrder (message.Commit operation updates) = Unit {0}
IsOrder (message.Block operation name) = Unit {0}
IsOrder (message.Install operation version rule rows) = Unit {0}
IsOrder other = ⊥

-- the answers of a node to them
abbrev pub IsOrderedBy : ℕ → Message → Type 0
IsOrderedBy n (message.Locked operation node rows) = node ≡ n
IsOrderedBy n (message.Counted operation node number) = node ≡ n
IsOrderedBy n (message.Done operation node) = node ≡ n
IsOrderedBy n (message.Blocked operation node rows) = node ≡ n
IsOrderedBy n (message.Installed operation node) = node ≡ n
IsOrderedBy n other = ⊥

-- what is on the way to the node and from it is so still
pub record AreFreshStill (posts later_posts : List Post) (came later : ℕ → Bool) (n : ℕ) : Type 0 where
  pub to : (m : Message) → IsOrder m → IsFresh posts came (Node n) m → IsFresh later_posts later (Node n) m
  pub back : (m : Message) → IsOrderedBy n m → IsFresh posts came (Node 255) m → IsFresh later_posts later (Node 255) m

-- the order that has to be on the way to the node
abbrev pub IsOrderAt : Stage → ℕ → NodeState → Message → Type 0
IsOrderAt (stage.Lock operation missing rows) number x (message.Lock o keys) = (x.last_operation < number) × (o ≡ number)
IsOrderAt (stage.Count operation rows dir updates missing counts) number x (message.Count o asked) = o ≡ number
IsOrderAt (stage.Finish keys updates missing) number x (message.Commit o made) = (x.locks.shut ≢ None) × (o ≡ number)
IsOrderAt (stage.Block call missing rows) number x (message.Block o name) = (x.last_operation < number) × (o ≡ number)
IsOrderAt (stage.Install call missing) number x (message.Install o version rule rows) = (x.blocked ≢ None) × (o ≡ number)
IsOrderAt s number x other = ⊥

order_at : (s : Stage) (number : ℕ) (x : NodeState) (m : Message) → IsOrderAt s number x m → IsOrder m
order_at (stage.Lock operation missing rows) number x (message.Lock o keys) is = tt
order_at (stage.Count operation rows dir updates missing counts) number x (message.Count o asked) is = tt
order_at (stage.Finish keys updates missing) number x (message.Commit o made) is = tt
order_at (stage.Block call missing rows) number x (message.Block o name) is = tt
order_at (stage.Install call missing) number x (message.Install o version rule rows) is = tt
order_at s number x other is = absurd is

-- the answer of the node for which the stage waits
abbrev pub IsAnswerAt : Stage → ℕ → ℕ → Message → Type 0
IsAnswerAt (stage.Lock operation missing rows) number n (message.Locked o node told) = (o ≡ number) × (node ≡ n)
IsAnswerAt (stage.Count operation rows dir updates missing counts) number n (message.Counted o node count) = (o ≡ number) × (node ≡ n)
IsAnswerAt (stage.Finish keys updates missing) number n (message.Done o node) = (o ≡ number) × (node ≡ n)
IsAnswerAt (stage.Block call missing rows) number n (message.Blocked o node told) = (o ≡ number) × (node ≡ n)
IsAnswerAt (stage.Install call missing) number n (message.Installed o node) = (o ≡ number) × (node ≡ n)
IsAnswerAt s number n other = ⊥

pub answer_ordered : (s : Stage) (number n : ℕ) (m : Message) → IsAnswerAt s number n m → IsOrderedBy n m
answer_ordered (stage.Lock operation missing rows) number n (message.Locked o node told) is = is.1
answer_ordered (stage.Count operation rows dir updates missing counts) number n (message.Counted o node count) is = is.1
answer_ordered (stage.Finish keys updates missing) number n (message.Done o node) is = is.1
answer_ordered (stage.Block call missing rows) number n (message.Blocked o node told) is = is.1
answer_ordered (stage.Install call missing) number n (message.Installed o node) is = is.1
answer_ordered s number n other is = absurd is

-- it is a node's answer to an order
abbrev pub IsReport : Message → Type 0
IsReport (message.Locked o node told) = Unit {0}
IsReport (message.Counted o node count) = Unit {0}
IsReport (message.Done o node) = Unit {0}
IsReport (message.Blocked o node told) = Unit {0}
IsReport (message.Installed o node) = Unit {0}
IsReport other = ⊥

pub answer_report : (s : Stage) (number n : ℕ) (m : Message) → IsAnswerAt s number n m → IsReport m
answer_report (stage.Lock operation missing rows) number n (message.Locked o node told) is = tt
answer_report (stage.Count operation rows dir updates missing counts) number n (message.Counted o node count) is = tt
answer_report (stage.Finish keys updates missing) number n (message.Done o node) is = tt
answer_report (stage.Block call missing rows) number n (message.Blocked o node told) is = tt
answer_report (stage.Install call missing) number n (message.Installed o node) is = tt
answer_report s number n other is = absurd is

-- ---- how it stays so

-- what the stage asks of a node it may ask still: no order has to be on the way that had not to be before, and no answer
abbrev pub IsSame : Stage → ℕ → NodeState → NodeState → Type 0
IsSame (stage.Lock operation missing rows) number x y = (y.last_operation < number → x.last_operation < number) × (y.locks.shut ≢ None → x.locks.shut ≢ None)
IsSame (stage.Finish keys updates missing) number x y = y.locks.shut ≡ x.locks.shut
IsSame (stage.Block call missing rows) number x y = (y.last_operation < number → x.last_operation < number) × (y.blocked ≢ None → x.blocked ≢ None)
IsSame (stage.Install call missing) number x y = y.blocked ≡ x.blocked
IsSame other number x y = Unit {0}

pub same_by : (s : Stage) (number : ℕ) (x y : NodeState) → y.locks.shut ≡ x.locks.shut → (y.last_operation < number → x.last_operation < number) → y.blocked ≡ x.blocked → IsSame s number x y
same_by (stage.Lock operation missing rows) number x y shut last blocked = (last, (λ some none. some (shut ∙ none)))
same_by (stage.Finish keys updates missing) number x y shut last blocked = shut
same_by (stage.Block call missing rows) number x y shut last blocked = (last, (λ some none. some (blocked ∙ none)))
same_by (stage.Install call missing) number x y shut last blocked = blocked
same_by other number x y shut last blocked = tt

-- what the stage waits for is on the way still
pub hearing_by : (posts later_posts : List Post) (came later : ℕ → Bool) (number : ℕ) (s : Stage) (n : ℕ) (x y : NodeState) → ((m : Message) → IsOrderAt s number y m → IsFresh posts came (Node n) m → IsFresh later_posts later (Node n) m)
    → ((m : Message) → IsAnswerAt s number n m → IsFresh posts came (Node 255) m → IsFresh later_posts later (Node 255) m)
    → IsSame s number x y → IsHearing posts came number s n x → IsHearing later_posts later number s n y
hearing_by posts later_posts came later number (stage.Lock operation missing rows) n x y to back same h = record {
  away = λ low. to (message.Lock number operation.keys) (low, refl) (h.away (same.0 low));
  shut = λ some. let told = h.shut (same.1 some) in (told.0, back (message.Locked number n told.0) (refl, refl) told.1);
}
hearing_by posts later_posts came later number (stage.Count operation rows dir updates missing counts) n x y to back same h =
    ⊎_elim (λ asked. inl (to (message.Count number dir) refl asked)) (λ told. inr (told.0, back (message.Counted number n told.0) (refl, refl) told.1)) h
hearing_by posts later_posts came later number (stage.Finish keys updates missing) n x y to back same h = record {
  shut = λ some. to (message.Commit number updates) (some, refl) (h.shut (λ none. some (same ∙ none)));
  freed = λ none. back (message.Done number n) (refl, refl) (h.freed (sym same ∙ none));
}
hearing_by posts later_posts came later number (stage.Block call missing rows) n x y to back same h = record {
  away = λ low. to (message.Block number (name_in call.op)) (low, refl) (h.away (same.0 low));
  blocked = λ some. let told = h.blocked (same.1 some) in (told.0, back (message.Blocked number n told.0) (refl, refl) told.1);
}
hearing_by posts later_posts came later number (stage.Install call missing) n x y to back same h = record {
  blocked = λ some. let order = h.blocked (λ none. some (same ∙ none)) in (order.0, (order.1.0, to order.0 (asked order.0 some order.1.0) order.1.1));
  freed = λ none. back (message.Installed number n) (refl, refl) (h.freed (sym same ∙ none));
}
  where
    asked : (m : Message) → y.blocked ≢ None → IsInstall number m → IsOrderAt (stage.Install call missing) number y m
    asked (message.Install o version rule rows) some is = (some, is)
    asked other some is = absurd is
hearing_by posts later_posts came later number other n x y to back same h = tt

pub hearing_same : (posts later_posts : List Post) (came later : ℕ → Bool) (number : ℕ) (s : Stage) (n : ℕ) (x y : NodeState) → AreFreshStill posts later_posts came later n → IsSame s number x y
    → IsHearing posts came number s n x → IsHearing later_posts later number s n y
hearing_same posts later_posts came later number s n x y f same h =
    hearing_by posts later_posts came later number s n x y (λ m is. f.to m (order_at s number y m is)) (λ m is. f.back m (answer_ordered s number n m is)) same h

-- the node has shut what it had shut, has blocked what it had blocked, and has heard of the same operations
pub hearing_kept : (posts later_posts : List Post) (came later : ℕ → Bool) (number : ℕ) (s : Stage) (n : ℕ) (x y : NodeState) → AreFreshStill posts later_posts came later n
    → y.locks.shut ≡ x.locks.shut → y.last_operation ≡ x.last_operation → y.blocked ≡ x.blocked → IsHearing posts came number s n x → IsHearing later_posts later number s n y
hearing_kept posts later_posts came later number s n x y f shut last blocked h =
    hearing_same posts later_posts came later number s n x y f (same_by s number x y shut (λ low. subst (λ (i : ℕ). i < number) last low) blocked) h

pub still_more : (posts later_posts more : List Post) (came later : ℕ → Bool) (n : ℕ) → AreFreshStill posts later_posts came later n → AreFreshStill posts (later_posts ++ more) came later n
still_more posts later_posts more came later n f = record {
  to = λ m is at. fresh_more later_posts more later (Node n) m (f.to m is at);
  back = λ m is at. fresh_more later_posts more later (Node 255) m (f.back m is at);
}

-- nothing comes
pub still_here : (posts : List Post) (came : ℕ → Bool) (n : ℕ) → AreFreshStill posts posts came came n
still_here posts came n = record { to = λ m is at. at; back = λ m is at. at }

pub walking_kept : (s : Stage) (posts later_posts : List Post) (came later : ℕ → Bool) (items later_items : ℕ → List Item) → ((f : ℕ) → IsOnWay posts came items 255 f → IsOnWay later_posts later later_items 255 f)
    → IsWalking posts came items s → IsWalking later_posts later later_items s
walking_kept (stage.Walk call fetch key) posts later_posts came later items later_items ways h = ways fetch h
walking_kept other posts later_posts came later items later_items ways h = tt
