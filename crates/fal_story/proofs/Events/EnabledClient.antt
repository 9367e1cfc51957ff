-- What a client's step makes of an event, where that is enabled.
use Rattle.std.proofs.Common.{◌≡◌, ◌≢◌, ℕ, List, Bool, true, false, ◌&&◌, cond, Option, Some, None, Result, Ok, Err, refl, sym, ap, subst, ◌∙◌, eqb-true, eq-eqb}
use Rattle.std.specs.Prelude.{slice_get, ◌==◌}
use Rattle.std.specs.List.{list_all}
use Rattle.std.proofs.lemmas.Option.{same_Some}
use Rattle.fal_base.specs.declared.call.Call.{Call}
use Rattle.fal_base.specs.declared.call.CallId.{CallId}
use Rattle.fal_base.specs.declared.call.Config.{Config}
use Rattle.fal_base.specs.declared.event.Actor.{Actor}
use Rattle.fal_base.specs.declared.event.Actor.TheVariants.{Client}
use Rattle.fal_base.specs.declared.event.Envelope.{Envelope}
use Rattle.fal_base.specs.declared.path.PathFault.{PathFault}
use Rattle.fal_base.specs.declared.reply.Reply.{Reply}
use Rattle.fal_base.specs.declared.rule.RuleChange.{RuleChange}
use Rattle.fal_client.specs.declared.current.Current.{Current}
use Rattle.fal_client.specs.declared.current.Listing.{Listing}
use Rattle.fal_client.specs.declared.event.ClientEvent.TheVariants as client
use Rattle.fal_client.specs.declared.news.News.TheVariants as news
use Rattle.fal_client.specs.News.{news_of}
use Rattle.fal_client.specs.Parts.{is_missing, missing_count}
use Rattle.fal_base.specs.OpPaths.{bad_path}
use Rattle.fal_client.specs.State.{ClientState, Work as ClientWork, unchanged}
use Rattle.fal_client.specs.Step.{client_step, got, is_to_lane as is_for, read_step, heard, heard_by, news_told, replied, answered, is_about, sent_next, started, begun, skipped, retried, told_stale, told_opened, opened, told_part, part_of, kept, listed}
use Rattle.fal_place.specs.Placement.{is_within}
use Rattle.fal_wire.specs.declared.fault.WireFault.{WireFault}
use Rattle.fal_wire.specs.declared.message.Message.{Message}
use Rattle.fal_wire.specs.declared.message.Message.TheVariants as message
use Rattle.fal_wire.specs.Messages.{reading}
use Rattle.fal_story.proofs.Events.ClientEvent.{sent_to}
use Rattle.fal_story.proofs.Events.Hearing.{reply_unlisted}
use Rattle.fal_story.proofs.Events.Shows.{Ghost, Shows, posts_of}
use Rattle.fal_story.proofs.View.{IsPosted}
use Rattle.fal_story.specs.World.{World}

-- ---- Send

-- a call with a good path is sent, and one with a bad path is answered at once
sends_bad : (c : ClientState) (call : Call) (m : ClientWork) (P : ClientWork → Type 0) (bad : Option PathFault) → (bad ≡ None → P (begun c call)) → ((fault : PathFault) → bad ≡ Some fault → P (skipped c fault))
    → started c call bad ≡ m → P m
unfolding started
sends_bad c call m P None good skip is = subst P is (good refl)
sends_bad c call m P (Some fault) good skip is = subst P is (skip fault refl)

sends_next : (c : ClientState) (m : ClientWork) (P : ClientWork → Type 0) (current : Option Current) (next : Option Call)
    → ((call : Call) → current ≡ None → next ≡ Some call → bad_path call.op ≡ None → P (begun c call))
    → ((call : Call) (fault : PathFault) → current ≡ None → next ≡ Some call → bad_path call.op ≡ Some fault → P (skipped c fault)) → sent_next c current next ≡ Some m → P m
unfolding sent_next
sends_next c m P None None good skip is = absurd (cc)
sends_next c m P (Some current) next good skip is = absurd (cc)
sends_next c m P None (Some call) good skip is =
    sends_bad c call m P (bad_path call.op) (λ e. good call refl refl e) (λ fault e. skip call fault refl refl e) (same_Some (started c call (bad_path call.op)) m is)

pub sends : (c : ClientState) (m : ClientWork) (P : ClientWork → Type 0)
    → ((call : Call) → c.current ≡ None → slice_get c.left 0 ≡ Some call → bad_path call.op ≡ None → P (begun c call))
    → ((call : Call) (fault : PathFault) → c.current ≡ None → slice_get c.left 0 ≡ Some call → bad_path call.op ≡ Some fault → P (skipped c fault)) → client_step c client.Send ≡ Some m → P m
unfolding client_step
sends c m P good skip is = sends_next c m P c.current (slice_get c.left 0) good skip is

-- ---- Get

lane_to : (lane : ℕ) (to : Actor) → is_for lane to ≡ true → to ≡ Client lane
unfolding is_for
lane_to lane (Client l) is = ap Client (eqb-true l lane is)
lane_to lane other is = absurd (cc)

here_only : (c : ClientState) (x : Envelope) (here : Bool) (m : ClientWork) → got c x here ≡ Some m → (here ≡ true) × (read_step c x.point (reading x.bytes) ≡ m)
unfolding got
here_only c x false m is = absurd (cc)
here_only c x true m is = (refl, same_Some (read_step c x.point (reading x.bytes)) m is)

-- an envelope to this lane comes
pub gets_own : (c : ClientState) (x : Envelope) (m : ClientWork) → client_step c (client.Get x) ≡ Some m → x.to ≡ Client c.lane
unfolding client_step
gets_own c x m is = lane_to c.lane x.to (here_only c x (is_for c.lane x.to) m is).0

-- the current call's answer is heard, or nothing changes
pub record IsAnswered (w : World) (l : ℕ) (x : Envelope) (id : CallId) (reply : Reply) (current : Current) : Type 0 where
  pub busy : (w.clients l).current ≡ Some current
  pub read : reading x.bytes ≡ Ok (message.Reply id reply)
  pub seq : id.seq ≡ (w.clients l).seq

abbrev pub Hears : World → ℕ → Envelope → (ClientWork → Type 0) → Type 0
Hears w l x P = (id : CallId) (reply : Reply) (current : Current) → IsAnswered w l x id reply current → P (answered (w.clients l) x.point reply)

-- the current attempt of the call, with this listing
abbrev pub trial : Call → ℕ → Option Listing → Current
trial call attempt listing = record { call = call; attempt = attempt; listing = listing }

-- a record of the current attempt of the call, which has this listing
pub record IsOfCurrent (w : World) (l : ℕ) (x : Envelope) (m : Message) (id : CallId) (call : Call) (tried : ℕ) (listing : Option Listing) : Type 0 where
  pub busy : (w.clients l).current ≡ Some (trial call tried listing)
  pub read : reading x.bytes ≡ Ok m
  pub seq : id.seq ≡ (w.clients l).seq
  pub attempt : id.attempt ≡ tried

-- a later table for the current attempt of the call, all rules of which are of nodes that are there, is taken
abbrev pub IsTaking : World → ℕ → Envelope → CallId → ℕ → ℕ → List RuleChange → Call → ℕ → Type 0
IsTaking w l x id old new changes call tried = IsOfCurrent w l x (message.Stale id old new changes) id call tried None

abbrev pub Takes : World → ℕ → Envelope → (ClientWork → Type 0) → Type 0
Takes w l x P = (id : CallId) (old new : ℕ) (changes : List RuleChange) (call : Call) (attempt : ℕ) → IsTaking w l x id old new changes call attempt → P (retried (w.clients l) (trial call attempt None) old new changes)

-- so it is while the call lists
abbrev pub Restarts : World → ℕ → Envelope → (ClientWork → Type 0) → Type 0
Restarts w l x P =
    (id : CallId) (old new : ℕ) (changes : List RuleChange) (call : Call) (attempt : ℕ) (listing : Listing) → IsOfCurrent w l x (message.Stale id old new changes) id call attempt (Some listing)
    → P (retried (w.clients l) (trial call attempt (Some listing)) old new changes)

-- a directory that is opened is told
abbrev pub Opens : World → ℕ → Envelope → (ClientWork → Type 0) → Type 0
Opens w l x P =
    (id : CallId) (dir : ℕ) (call : Call) (attempt : ℕ) → IsOfCurrent w l x (message.Opened id dir) id call attempt None → P (opened (w.clients l) (trial call attempt None) dir x.point)

-- a part that is missing comes, and others are missing still
abbrev pub Keeps : World → ℕ → Envelope → (ClientWork → Type 0) → Type 0
Keeps w l x P =
    (id : CallId) (node : ℕ) (names : List (List ℕ)) (call : Call) (attempt : ℕ) (listing : Listing) → IsOfCurrent w l x (message.ListPart id node names) id call attempt (Some listing)
    → is_missing listing.parts node ≡ true → missing_count listing.parts ≢ 1 → P (kept (w.clients l) (trial call attempt (Some listing)) node (part_of x.point names))

-- the last part comes
abbrev pub Lasts : World → ℕ → Envelope → (ClientWork → Type 0) → Type 0
Lasts w l x P =
    (id : CallId) (node : ℕ) (names : List (List ℕ)) (call : Call) (attempt : ℕ) (listing : Listing) → IsOfCurrent w l x (message.ListPart id node names) id call attempt (Some listing)
    → is_missing listing.parts node ≡ true → missing_count listing.parts ≡ 1 → P (listed (w.clients l) listing (part_of x.point names))

-- what is made of a record about the current attempt of the call
pub record Makes (w : World) (l : ℕ) (x : Envelope) (P : ClientWork → Type 0) : Type 0 where
  pub hears : Hears w l x P
  pub takes : Takes w l x P
  pub restarts : Restarts w l x P
  pub opens : Opens w l x P
  pub keeps : Keeps w l x P
  pub lasts : Lasts w l x P

-- what comes is no answer to the current attempt of the call, however often that was passed on, no directory that was opened for it, and no part
-- that it misses; and a later table for it only where one of its rules is of no node that is there
abbrev pub Unheard : World → ℕ → Envelope → Message → Type 0
Unheard w l x (message.Reply id reply) = (current : Current) → (w.clients l).current ≡ Some current → id.seq ≡ (w.clients l).seq → id.attempt ≡ current.attempt → ⊥
Unheard w l x (message.Stale id old new changes) =
    (current : Current) → (w.clients l).current ≡ Some current → id.seq ≡ (w.clients l).seq → id.attempt ≡ current.attempt → list_all (λ change. is_within (w.clients l).table.nodes change.rule) changes ≡ false
Unheard w l x (message.Opened id dir) = (current : Current) → (w.clients l).current ≡ Some current → id.seq ≡ (w.clients l).seq → id.attempt ≡ current.attempt → current.listing ≡ None → ⊥
Unheard w l x (message.ListPart id node names) =
    (current : Current) (listing : Listing) → (w.clients l).current ≡ Some current → id.seq ≡ (w.clients l).seq → id.attempt ≡ current.attempt → current.listing ≡ Some listing → is_missing listing.parts node ≡ false
Unheard w l x other = Unit {0}

abbrev pub IsUnheard : World → ℕ → Envelope → Type 0
IsUnheard w l x = (m : Message) → reading x.bytes ≡ Ok m → Unheard w l x m

-- what was read is not heard
unheard_as : (w : World) (l : ℕ) (x : Envelope) (m : Message) → reading x.bytes ≡ Ok m → Unheard w l x m → IsUnheard w l x
unheard_as w l x m read unheard n is = subst (Unheard w l x) (same_message m n (sym read ∙ is)) unheard
  where
    same_message : (a b : Message) → ◌≡◌ {A = Result Message WireFault} (Ok a) (Ok b) → a ≡ b
    same_message a b e = cc

both_true : (a b : Bool) → (a && b) ≡ true → (a ≡ true) × (b ≡ true)
both_true true b e = (refl, e)
both_true false b e = absurd (cc)

-- a record of the current attempt is about it
about_is : (c : ClientState) (current : Current) (id : CallId) → id.seq ≡ c.seq → id.attempt ≡ current.attempt → is_about c current id ≡ true
about_is c current id seq attempt = ap (λ b. b && (id.attempt == current.attempt)) (eq-eqb id.seq c.seq seq) ∙ eq-eqb id.attempt current.attempt attempt

-- one that is not about it is none of the current attempt
not_about : (c : ClientState) (current other : Current) (id : CallId) → is_about c current id ≡ false → c.current ≡ Some current → c.current ≡ Some other → id.seq ≡ c.seq → id.attempt ≡ other.attempt → ⊥
not_about c current other id off busy at seq attempt =
    let mine : other ≡ current = same_Some other current (sym at ∙ busy) in
    let about : is_about c current id ≡ true = about_is c current id seq (attempt ∙ ap (λ (y : Current). y.attempt) mine) in
    absurd (cc)

-- a call that is the current one, whose listing is this
listed_as : (current : Current) (listing : Option Listing) → current.listing ≡ listing → ◌≡◌ {A = Current} current (trial current.call current.attempt listing)
listed_as current listing is = λ i. record current { listing = is i }

module _ (w : World) (l : ℕ) (x : Envelope) (m : Message) (current : Current) (P : ClientWork → Type 0) (read : reading x.bytes ≡ Ok m) (busy : (w.clients l).current ≡ Some current) where
  of_current : (id : CallId) (listing : Option Listing) → id.seq ≡ (w.clients l).seq → id.attempt ≡ current.attempt → current.listing ≡ listing → IsOfCurrent w l x m id current.call current.attempt listing
  of_current id listing seq attempt is = record { busy = busy ∙ ap (λ k. Some k) (listed_as current listing is); read = read; seq = seq; attempt = attempt }

  -- what is made of it is what is made of a call with its listing
  as_listed : (listing : Option Listing) (made : Current → ClientWork) → current.listing ≡ listing → P (made (trial current.call current.attempt listing)) → P (made current)
  as_listed listing made is p = subst (λ k. P (made k)) (sym (listed_as current listing is)) p

-- the one that is current is this one
mine : (c : ClientState) (current other : Current) → c.current ≡ Some current → c.current ≡ Some other → other ≡ current
mine c current other busy at = same_Some other current (sym at ∙ busy)

replies : (config : Config) (w : World) (l e : ℕ) (h : Ghost) (x : Envelope) (id : CallId) (reply : Reply) (current : Current) (P : ClientWork → Type 0) → Shows config w h → IsPosted (posts_of w.envelopes) e (Client l) x.point (message.Reply id reply)
    → reading x.bytes ≡ Ok (message.Reply id reply) → (w.clients l).current ≡ Some current → (IsUnheard w l x → P (unchanged (w.clients l))) → Makes w l x P
    → P (heard_by (w.clients l) current x.point (Some (id, news.Replied reply)))
unfolding heard_by news_told replied
replies config w l e h x id reply current P s posted read busy rest make =
    let c = w.clients l in
    elim (is_about c current id) as (λ b. is_about c current id ≡ b → P (cond b (replied c x.point reply current.listing) (unchanged c))) [
      | true ↦ λ is.
          let seq = eqb-true id.seq c.seq (both_true (id.seq == c.seq) (id.attempt == current.attempt) is).0 in
          subst (λ o. P (replied c x.point reply o)) (sym (reply_unlisted config w l h s current busy e x.point id reply posted seq)) (make.hears id reply current (record { busy = busy; read = read; seq = seq }))
      | false ↦ λ off. rest (unheard_as w l x (message.Reply id reply) read (λ other at seq attempt. not_about c current other id off busy at seq attempt))
    ] refl

-- a later table for the current attempt
takes : (w : World) (l : ℕ) (x : Envelope) (id : CallId) (old new : ℕ) (changes : List RuleChange) (current : Current) (P : ClientWork → Type 0)
    → reading x.bytes ≡ Ok (message.Stale id old new changes) → (w.clients l).current ≡ Some current → id.seq ≡ (w.clients l).seq → id.attempt ≡ current.attempt
    → (IsUnheard w l x → P (unchanged (w.clients l))) → Makes w l x P → P (told_stale (w.clients l) current old new changes)
unfolding told_stale
takes w l x id old new changes current P read busy seq attempt rest make =
    let c = w.clients l in
    let m = message.Stale id old new changes in
    let made = λ (k : Current). retried c k old new changes in
    let all = λ (cs : List RuleChange). list_all (λ (change : RuleChange). is_within c.table.nodes change.rule) cs in
    elim (all changes) as (λ b. all changes ≡ b → P (cond b (retried c current old new changes) (unchanged c))) [
      | true ↦ λ _. elim current.listing as (λ o. current.listing ≡ o → P (retried c current old new changes)) [
        | None ↦ λ is. as_listed w l x m current P read busy None made is (make.takes id old new changes current.call current.attempt (of_current w l x m current P read busy id None seq attempt is))
        | Some listing ↦ λ is. as_listed w l x m current P read busy (Some listing) made is
            (make.restarts id old new changes current.call current.attempt listing (of_current w l x m current P read busy id (Some listing) seq attempt is))
      ] refl
      | false ↦ λ none. rest (unheard_as w l x m read (λ other at one two. none))
    ] refl

stales : (w : World) (l : ℕ) (x : Envelope) (id : CallId) (old new : ℕ) (changes : List RuleChange) (current : Current) (P : ClientWork → Type 0)
    → reading x.bytes ≡ Ok (message.Stale id old new changes) → (w.clients l).current ≡ Some current
    → (IsUnheard w l x → P (unchanged (w.clients l))) → Makes w l x P → P (heard_by (w.clients l) current x.point (Some (id, news.Stale old new changes)))
unfolding heard_by news_told
stales w l x id old new changes current P read busy rest make =
    let c = w.clients l in
    elim (is_about c current id) as (λ b. is_about c current id ≡ b → P (cond b (told_stale c current old new changes) (unchanged c))) [
      | true ↦ λ e. let about = both_true (id.seq == c.seq) (id.attempt == current.attempt) e in
          takes w l x id old new changes current P read busy (eqb-true id.seq c.seq about.0) (eqb-true id.attempt current.attempt about.1) rest make
      | false ↦ λ off. rest (unheard_as w l x (message.Stale id old new changes) read (λ other at seq attempt. absurd (not_about c current other id off busy at seq attempt)))
    ] refl

-- a directory is told
opens : (w : World) (l : ℕ) (x : Envelope) (id : CallId) (dir : ℕ) (current : Current) (P : ClientWork → Type 0) → reading x.bytes ≡ Ok (message.Opened id dir) → (w.clients l).current ≡ Some current
    → (IsUnheard w l x → P (unchanged (w.clients l))) → Makes w l x P → P (heard_by (w.clients l) current x.point (Some (id, news.Opened dir)))
unfolding heard_by news_told told_opened
opens w l x id dir current P read busy rest make =
    let c = w.clients l in
    let m = message.Opened id dir in
    elim (is_about c current id) as (λ b. is_about c current id ≡ b → P (cond b (told_opened c current dir x.point current.listing) (unchanged c))) [
      | true ↦ λ e.
          let about = both_true (id.seq == c.seq) (id.attempt == current.attempt) e in
          let seq = eqb-true id.seq c.seq about.0 in
          let attempt = eqb-true id.attempt current.attempt about.1 in
          elim current.listing as (λ o. current.listing ≡ o → P (told_opened c current dir x.point o)) [
            | None ↦ λ is. as_listed w l x m current P read busy None (λ k. opened c k dir x.point) is (make.opens id dir current.call current.attempt (of_current w l x m current P read busy id None seq attempt is))
            | Some listing ↦ λ is. rest (unheard_as w l x m read (λ other at one two none.
                let same = mine c current other busy at in
                let wrong : ◌≡◌ {A = Option Listing} (Some listing) None = sym is ∙ ap (λ (k : Current). k.listing) (sym same) ∙ none in absurd (cc)))
          ] refl
      | false ↦ λ off. rest (unheard_as w l x m read (λ other at seq attempt none. not_about c current other id off busy at seq attempt))
    ] refl

-- a node's part comes while the call lists
joins : (w : World) (l : ℕ) (x : Envelope) (id : CallId) (node : ℕ) (names : List (List ℕ)) (current : Current) (listing : Listing) (P : ClientWork → Type 0) → reading x.bytes ≡ Ok (message.ListPart id node names)
    → (w.clients l).current ≡ Some current → id.seq ≡ (w.clients l).seq → id.attempt ≡ current.attempt → current.listing ≡ Some listing
    → (IsUnheard w l x → P (unchanged (w.clients l))) → Makes w l x P → P (told_part (w.clients l) current node (part_of x.point names) (Some listing))
unfolding told_part
joins w l x id node names current listing P read busy seq attempt is rest make =
    let c = w.clients l in
    let m = message.ListPart id node names in
    let part = part_of x.point names in
    let of = of_current w l x m current P read busy id (Some listing) seq attempt is in
    elim (is_missing listing.parts node) as (λ b. is_missing listing.parts node ≡ b → P (cond b (cond (missing_count listing.parts == 1) (listed c listing part) (kept c current node part)) (unchanged c))) [
      | true ↦ λ missing. elim (missing_count listing.parts == 1) as (λ b. (missing_count listing.parts == 1) ≡ b → P (cond b (listed c listing part) (kept c current node part))) [
        | true ↦ λ one. make.lasts id node names current.call current.attempt listing of missing (eqb-true (missing_count listing.parts) 1 one)
        | false ↦ λ more. as_listed w l x m current P read busy (Some listing) (λ k. kept c k node part) is
            (make.keeps id node names current.call current.attempt listing of missing (λ one. let wrong = eq-eqb (missing_count listing.parts) 1 one in absurd (cc)))
      ] refl
      | false ↦ λ none. rest (unheard_as w l x m read (λ other its at one two with.
          let same = mine c current other busy at in
          let listing_is : its ≡ listing = same_Some its listing (sym with ∙ ap (λ (k : Current). k.listing) same ∙ is) in
          ap (λ (k : Listing). is_missing k.parts node) listing_is ∙ none))
    ] refl

parts : (w : World) (l : ℕ) (x : Envelope) (id : CallId) (node : ℕ) (names : List (List ℕ)) (current : Current) (P : ClientWork → Type 0) → reading x.bytes ≡ Ok (message.ListPart id node names) → (w.clients l).current ≡ Some current
    → (IsUnheard w l x → P (unchanged (w.clients l))) → Makes w l x P → P (heard_by (w.clients l) current x.point (Some (id, news.Part node names)))
unfolding heard_by news_told told_part
parts w l x id node names current P read busy rest make =
    let c = w.clients l in
    let m = message.ListPart id node names in
    let part = part_of x.point names in
    elim (is_about c current id) as (λ b. is_about c current id ≡ b → P (cond b (told_part c current node part current.listing) (unchanged c))) [
      | true ↦ λ e.
          let about = both_true (id.seq == c.seq) (id.attempt == current.attempt) e in
          elim current.listing as (λ o. current.listing ≡ o → P (told_part c current node part o)) [
            | None ↦ λ is. rest (unheard_as w l x m read (λ other its at one two with.
                let same = mine c current other busy at in
                let wrong : ◌≡◌ {A = Option Listing} None (Some its) = sym is ∙ ap (λ (k : Current). k.listing) (sym same) ∙ with in absurd (cc)))
            | Some listing ↦ λ is. joins w l x id node names current listing P read busy (eqb-true id.seq c.seq about.0) (eqb-true id.attempt current.attempt about.1) is rest make
          ] refl
      | false ↦ λ off. rest (unheard_as w l x m read (λ other its at seq attempt with. absurd (not_about c current other id off busy at seq attempt)))
    ] refl

-- where no call is under way nothing is heard
none_unheard : (w : World) (l : ℕ) (x : Envelope) → (w.clients l).current ≡ None → (m : Message) → Unheard w l x m
none_unheard w l x none (message.Reply id reply) = λ current at seq attempt. let wrong : None ≡ Some current = sym none ∙ at in absurd (cc)
none_unheard w l x none (message.Stale id old new changes) = λ current at seq attempt. let wrong : None ≡ Some current = sym none ∙ at in absurd (cc)
none_unheard w l x none (message.Opened id dir) = λ current at seq attempt listing. let wrong : None ≡ Some current = sym none ∙ at in absurd (cc)
none_unheard w l x none (message.ListPart id node names) = λ current listing at seq attempt is. let wrong : None ≡ Some current = sym none ∙ at in absurd (cc)
none_unheard w l x none other = tt

hears : (config : Config) (w : World) (l number : ℕ) (h : Ghost) (x : Envelope) (m : Message) (P : ClientWork → Type 0) → Shows config w h → IsPosted (posts_of w.envelopes) number (Client l) x.point m → reading x.bytes ≡ Ok m
    → (IsUnheard w l x → P (unchanged (w.clients l))) → Makes w l x P → P (heard (w.clients l) x.point (news_of m) (w.clients l).current)
unfolding heard news_of
hears config w l number h x (message.Reply id reply) P s posted read rest make =
    elim (w.clients l).current as (λ o. (w.clients l).current ≡ o → P (heard (w.clients l) x.point (Some (id, news.Replied reply)) o)) [
      | None ↦ λ e. rest (λ m _. none_unheard w l x e m)
      | Some current ↦ λ e. replies config w l number h x id reply current P s posted read e rest make
    ] refl
hears config w l number h x (message.Stale id old new changes) P s posted read rest make =
    elim (w.clients l).current as (λ o. (w.clients l).current ≡ o → P (heard (w.clients l) x.point (Some (id, news.Stale old new changes)) o)) [
      | None ↦ λ e. rest (λ m _. none_unheard w l x e m)
      | Some current ↦ λ e. stales w l x id old new changes current P read e rest make
    ] refl
hears config w l number h x (message.Opened id dir) P s posted read rest make =
    elim (w.clients l).current as (λ o. (w.clients l).current ≡ o → P (heard (w.clients l) x.point (Some (id, news.Opened dir)) o)) [
      | None ↦ λ e. rest (λ m _. none_unheard w l x e m)
      | Some current ↦ λ e. opens w l x id dir current P read e rest make
    ] refl
hears config w l number h x (message.ListPart id node names) P s posted read rest make =
    elim (w.clients l).current as (λ o. (w.clients l).current ≡ o → P (heard (w.clients l) x.point (Some (id, news.Part node names)) o)) [
      | None ↦ λ e. rest (λ m _. none_unheard w l x e m)
      | Some current ↦ λ e. parts w l x id node names current P read e rest make
    ] refl
hears config w l number h x other P s posted read rest make = absurd (s.good.records.responses number l x.point other posted)

reads : (config : Config) (w : World) (l number : ℕ) (h : Ghost) (x : Envelope) (read : Result Message WireFault) (P : ClientWork → Type 0) → Shows config w h → slice_get w.envelopes number ≡ Some x → x.to ≡ Client l
    → reading x.bytes ≡ read → (IsUnheard w l x → P (unchanged (w.clients l))) → Makes w l x P → P (read_step (w.clients l) x.point read)
unfolding read_step
reads config w l number h x (Err fault) P s at to is rest make = rest (λ m z. let wrong : Err fault ≡ Ok m = sym is ∙ z in absurd (cc))
reads config w l number h x (Ok m) P s at to is rest make = hears config w l number h x m P s (sent_to w l number x m at to is) is rest make

pub gets : (config : Config) (w : World) (l number : ℕ) (h : Ghost) (x : Envelope) (m : ClientWork) (P : ClientWork → Type 0) → Shows config w h → slice_get w.envelopes number ≡ Some x
    → (IsUnheard w l x → P (unchanged (w.clients l))) → Makes w l x P → client_step (w.clients l) (client.Get x) ≡ Some m → P m
unfolding client_step
gets config w l number h x m P s at rest make is =
    let c = w.clients l in
    let here = here_only c x (is_for c.lane x.to) m is in
    subst P here.1 (reads config w l number h x (reading x.bytes) P s at (lane_to c.lane x.to here.0 ∙ ap Client (s.heard l).lane) refl rest make)
