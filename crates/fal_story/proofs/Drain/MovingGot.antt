-- A cluster goes on when an answer to a fetch comes, or any record.
use Rattle.std.proofs.Common.{◌≡◌, ◌⊎◌, ⊎_elim, ℕ, ◌<◌, Bool, true, false, not, ◌||◌, ◌==◌, cond, nat_lt, filter, Option, Some, None, Result, Ok, Err, IsTrue, refl, sym, ap, subst, ◌∙◌, arith}
use Rattle.std.specs.Prelude.{slice_get, IsSome}
use Rattle.std.specs.List.{All}
use Rattle.std.specs.Result.{result_ok}
use Rattle.std.proofs.lemmas.Bool.Decides.{nat_tests}
use Rattle.fal_base.specs.declared.call.Config.{Config}
use Rattle.fal_base.specs.declared.event.Actor.{Actor}
use Rattle.fal_base.specs.declared.event.Actor.TheVariants.{Client, Node, Coord}
use Rattle.fal_base.specs.declared.event.Envelope.{Envelope}
use Rattle.fal_base.specs.declared.event.Point.TheVariants.{Carried}
use Rattle.fal_base.specs.declared.inode.Dentry.{Dentry}
use Rattle.fal_base.specs.declared.key.Key.{Key}
use Rattle.fal_base.specs.declared.reply.Errno.{Errno}
use Rattle.fal_base.specs.declared.reply.Errno.TheVariants.{Enoent, Enotdir}
use Rattle.fal_base.specs.declared.reply.Reply.TheVariants.{Fail}
use Rattle.fal_wire.specs.Letters.{reply_letter}
use Rattle.fal_wire.specs.declared.letter.Letter.{Letter}
use Rattle.fal_node.specs.Deliver.{learned, dismissed, refusals, refuse, settle, settle_pending, take_message, take_read, delivered}
use Rattle.fal_node.specs.Letters.{begun, is_asker}
use Rattle.fal_node.specs.State.{with_item}
use Rattle.fal_node.specs.Step.{is_to_node}
use Rattle.fal_wait.specs.declared.pending_fetch.PendingFetch.{PendingFetch}
use Rattle.fal_wait.specs.declared.waiting_call.WaitingCall.{WaitingCall}
use Rattle.fal_wait.specs.Waiting.{fetch_of, off_fetch, waits_on}
use Rattle.fal_wire.specs.declared.fault.WireFault.{WireFault}
use Rattle.fal_wire.specs.declared.message.Found.{Found}
use Rattle.fal_wire.specs.declared.message.Found.TheVariants as found
use Rattle.fal_wire.specs.declared.message.Message.{Message}
use Rattle.fal_wire.specs.declared.message.Message.TheVariants as message
use Rattle.fal_wire.specs.Messages.{Fits, reading}
use Rattle.fal_story.proofs.Drain.Actors.{IsActor, waiters_there}
use Rattle.fal_story.proofs.Drain.Moving.{IsMoving}
use Rattle.fal_story.proofs.Drain.MovingDeliver.{IsComing, other_moves, call_moves, ask_moves, list_comes, got_moves, off_other, not_waiting, same_kind}
use Rattle.fal_story.proofs.Drain.MovingInstall.{install_moves}
use Rattle.fal_story.proofs.Drain.MovingOrders.{block_comes, lock_comes, count_comes, commit_comes}
use Rattle.fal_story.proofs.Drain.FollowDeliver.{coming_post}
use Rattle.fal_story.proofs.Drain.MovingServe.{After}
use Rattle.fal_story.proofs.Events.Shows.{Ghost, Shows}
use Rattle.fal_story.proofs.Events.Tables.{own_nodes}
use Rattle.fal_story.proofs.Lists.Each.{Each, each_weaker, each_both}
use Rattle.fal_story.proofs.Lists.Grown.{tells}
use Rattle.fal_story.proofs.Lists.Members.{each_map, each_filter}
use Rattle.fal_story.proofs.Lists.WaitLists.{found_number, settled_calls, left_calls, refusals_are}
use Rattle.fal_story.specs.Clusters.{is_lane}
use Rattle.fal_story.specs.World.{World, put}

-- the fetch is not pending, so nobody waits on it
unknown_moves : (config : Config) (w : World) (came : ℕ → Bool) (n e number : ℕ) (key : Key) (what : Found) (x : Envelope) (h : Ghost) → n < config.nodes → Shows config w h → IsMoving config w came → IsComing w n e x
    → reading x.bytes ≡ Ok (message.FetchGot number key what) → fetch_of (w.nodes n).waiting number ≡ None → IsMoving config (After config w n (begun (w.nodes n))) (put came e true)
unknown_moves config w came n e number key what x h there s m c read none =
    got_moves config w came n e number key what x (begun (w.nodes n)) there m c read (λ i y lt. absurd (omega arith)) tt refl
    (λ P each. each_both _ (λ (y : WaitingCall). (f : ℕ) → y.fetch ≡ Some f → IsSome (fetch_of (w.nodes n).waiting f)) _ (w.nodes n).waiting.calls
    (λ y p pending f is. p f is (λ same. let some : IsSome (fetch_of (w.nodes n).waiting number) = subst (λ j. IsSome (fetch_of (w.nodes n).waiting j)) same (pending f is) in let wrong = subst (λ o. IsSome o) none some in absurd (cc)))
    each (s.placed n).tidy.pending)
    refl refl refl refl

-- a directory was found: its waiters are free
dir_moves : (config : Config) (w : World) (came : ℕ → Bool) (n e number : ℕ) (key : Key) (dentry : Dentry) (x : Envelope) (fetch : PendingFetch) → n < config.nodes → IsMoving config w came → IsComing w n e x
    → reading x.bytes ≡ Ok (message.FetchGot number key (found.Dir dentry)) → fetch_of (w.nodes n).waiting fetch.number ≡ Some fetch → fetch.number ≡ number
    → IsMoving config (After config w n (begun (learned (w.nodes n) fetch.number key dentry))) (put came e true)
unfolding learned
dir_moves config w came n e number key dentry x fetch there m c read is same =
    let list = (w.nodes n).waiting in
    got_moves config w came n e number key (found.Dir dentry) x (begun (learned (w.nodes n) fetch.number key dentry)) there m c read (λ i y lt. absurd (omega arith)) tt refl
    (λ P each. subst (Each (λ (y : WaitingCall). (f : ℕ) → y.fetch ≡ Some f → P f)) (sym (settled_calls list fetch.number fetch is))
    (each_map (λ (y : WaitingCall). (f : ℕ) → y.fetch ≡ Some f → P f) (λ y. off_fetch fetch.number y) list.calls
    (each_weaker _ _ list.calls (λ y p. off_other fetch.number y P (λ f at ne. p f at (λ z. ne (z ∙ sym same)))) each)))
    refl refl refl refl

-- nothing to walk through was found: its waiters leave
refused_moves : (config : Config) (w : World) (came : ℕ → Bool) (n e number : ℕ) (key : Key) (what : Found) (errno : Errno) (x : Envelope) (fetch : PendingFetch) (h : Ghost) → n < config.nodes → Shows config w h → IsMoving config w came
    → IsComing w n e x → reading x.bytes ≡ Ok (message.FetchGot number key what) → fetch_of (w.nodes n).waiting fetch.number ≡ Some fetch → fetch.number ≡ number
    → All (λ (l : Letter). Fits l.message) (refuse (w.nodes n) x.point errno fetch).sent → IsMoving config (After config w n (refuse (w.nodes n) x.point errno fetch)) (put came e true)
unfolding dismissed
refused_moves config w came n e number key what errno x fetch h there s m c read is same fit =
    let list = (w.nodes n).waiting in
    let tidy = (s.placed n).tidy in
    let go : Each (λ (l : Letter). IsActor config l.to) (refusals list errno x.point fetch.waiters) =
    subst (Each (λ (l : Letter). IsActor config l.to)) (sym (refusals_are list fetch errno x.point tidy is))
    (each_map (λ (l : Letter). IsActor config l.to) (λ y. reply_letter y.call (Carried x.point) (Fail errno)) (filter (λ y. waits_on fetch.number y.fetch) list.calls)
    (each_filter (λ (y : WaitingCall). IsTrue (is_lane config y.call.id.client)) (λ y. waits_on fetch.number y.fetch) list.calls (each_weaker _ _ list.calls (λ y at _. at) (waiters_there config w n h s)))) in
    got_moves config w came n e number key what x (refuse (w.nodes n) x.point errno fetch) there m c read fit go refl
    (λ P each. subst (Each (λ (y : WaitingCall). (f : ℕ) → y.fetch ≡ Some f → P f)) (sym (left_calls list fetch tidy is))
    (each_filter (λ (y : WaitingCall). (f : ℕ) → y.fetch ≡ Some f → P f) (λ y. not (waits_on fetch.number y.fetch)) list.calls
    (each_weaker _ _ list.calls (λ y p off f at. p f at (λ z. not_waiting fetch.number y.fetch f off at (z ∙ sym same))) each)))
    refl refl refl refl

settle_moves : (config : Config) (w : World) (came : ℕ → Bool) (n e number : ℕ) (key : Key) (what : Found) (x : Envelope) (fetch : PendingFetch) (h : Ghost) → n < config.nodes → Shows config w h → IsMoving config w came
    → IsComing w n e x → reading x.bytes ≡ Ok (message.FetchGot number key what) → fetch_of (w.nodes n).waiting fetch.number ≡ Some fetch → fetch.number ≡ number
    → All (λ (l : Letter). Fits l.message) (settle (w.nodes n) x.point key what fetch).sent → IsMoving config (After config w n (settle (w.nodes n) x.point key what fetch)) (put came e true)
settle_moves config w came n e number key (found.Dir dentry) x fetch h there s m c read is same fit = dir_moves config w came n e number key dentry x fetch there m c read is same
settle_moves config w came n e number key found.Nothing x fetch h there s m c read is same fit = refused_moves config w came n e number key found.Nothing Enoent x fetch h there s m c read is same fit
settle_moves config w came n e number key found.File x fetch h there s m c read is same fit = refused_moves config w came n e number key found.File Enotdir x fetch h there s m c read is same fit

pending_moves : (config : Config) (w : World) (came : ℕ → Bool) (n e number : ℕ) (key : Key) (what : Found) (x : Envelope) (o : Option PendingFetch) (h : Ghost) → n < config.nodes → Shows config w h → IsMoving config w came
    → IsComing w n e x → reading x.bytes ≡ Ok (message.FetchGot number key what) → fetch_of (w.nodes n).waiting number ≡ o
    → All (λ (l : Letter). Fits l.message) (settle_pending (w.nodes n) x.point key what o).sent → IsMoving config (After config w n (settle_pending (w.nodes n) x.point key what o)) (put came e true)
pending_moves config w came n e number key what x None h there s m c read is fit = unknown_moves config w came n e number key what x h there s m c read is
pending_moves config w came n e number key what x (Some fetch) h there s m c read is fit =
    let same = found_number (w.nodes n).waiting number fetch is in
    settle_moves config w came n e number key what x fetch h there s m c read (ap (fetch_of (w.nodes n).waiting) same ∙ is) same fit

-- ---- any record

asker_known : (nodes asker : ℕ) → (asker < nodes) ⊎ (asker ≡ 255) → is_asker nodes asker ≡ true
asker_known nodes asker who =
    ⊎_elim
    (λ below. let there : nat_lt asker nodes ≡ true = grind (arith, nat_tests) in ap (λ b. b || (asker == 255)) there)
    (λ is. let coordinator : (asker == 255) ≡ true = grind (arith, nat_tests) in elim (nat_lt asker nodes) as (λ b. (b || (asker == 255)) ≡ true) [ true ↦ refl | false ↦ coordinator ])
    who

-- who asks is there
asker_there : (config : Config) (w : World) (n e asker number : ℕ) (key : Key) (x : Envelope) (h : Ghost) → n < config.nodes → Shows config w h → IsComing w n e x → reading x.bytes ≡ Ok (message.FetchAsk asker number key)
    → is_asker (w.nodes n).table.nodes asker ≡ true
asker_there config w n e asker number key x h there s c is =
    let who = (s.good.asking.numbers.ask e x.point (Node n) asker number key (coming_post w n e x (message.FetchAsk asker number key) c is)).0 in
    ap (λ count. is_asker count asker) (own_nodes config w h s n there) ∙ asker_known config.nodes asker who

message_moves : (config : Config) (w : World) (came : ℕ → Bool) (n e : ℕ) (x : Envelope) (h : Ghost) (read : Message) → n < config.nodes → Shows config w h → IsMoving config w came → IsComing w n e x → reading x.bytes ≡ Ok read
    → All (λ (l : Letter). Fits l.message) (take_message (w.nodes n) x.point read).sent → IsMoving config (After config w n (take_message (w.nodes n) x.point read)) (put came e true)
message_moves config w came n e x h (message.Call call) there s m c is fit = call_moves config w came n e x call there m c is
message_moves config w came n e x h (message.FetchAsk asker number key) there s m c is fit =
    subst (λ b. IsMoving config (After config w n (begun (cond b (with_item (w.nodes n) (message.FetchAsk asker number key)) (w.nodes n)))) (put came e true)) (sym (asker_there config w n e asker number key x h there s c is))
    (ask_moves config w came n e asker number key x there m c is)
message_moves config w came n e x h (message.ListAsk id version dir) there s m c is fit = list_comes config w came n e version dir id x there m c is
message_moves config w came n e x h (message.FetchGot number key what) there s m c is fit =
    pending_moves config w came n e number key what x (fetch_of (w.nodes n).waiting number) h there s m c is refl fit
message_moves config w came n e x h (message.Lock operation keys) there s m c is fit = lock_comes config w came n e x there m c operation keys is
message_moves config w came n e x h (message.Count operation dir) there s m c is fit = count_comes config w came n e x there m c h operation dir s is fit
message_moves config w came n e x h (message.Commit operation updates) there s m c is fit = commit_comes config w came n e x there m c h operation updates s is fit
message_moves config w came n e x h (message.Block operation name) there s m c is fit = block_comes config w came n e x there m c operation name is
message_moves config w came n e x h (message.Install operation version rule rows) there s m c is fit = install_moves config w came n e x h there s m c operation version rule rows is fit
message_moves config w came n e x h other there s m c is fit =
    other_moves config w came n e x (w.nodes n) there m c
    (λ i f key z. let y : Some other ≡ Some (message.FetchAsk i f key) = sym (ap result_ok is) ∙ z in absurd (cc))
    (λ f key what z. let y : Some other ≡ Some (message.FetchGot f key what) = sym (ap result_ok is) ∙ z in absurd (cc))
    (λ y order z. same_kind other y order (sym (ap result_ok is) ∙ z))
    refl refl refl refl refl (λ posts later items y. y)

read_moves : (config : Config) (w : World) (came : ℕ → Bool) (n e : ℕ) (x : Envelope) (h : Ghost) (read : Result Message WireFault) → n < config.nodes → Shows config w h → IsMoving config w came → IsComing w n e x → reading x.bytes ≡ read
    → All (λ (l : Letter). Fits l.message) (take_read (w.nodes n) x.point read).sent → IsMoving config (After config w n (take_read (w.nodes n) x.point read)) (put came e true)
read_moves config w came n e x h (Ok read) there s m c is fit = message_moves config w came n e x h read there s m c is fit
read_moves config w came n e x h (Err fault) there s m c is fit =
    other_moves config w came n e x (w.nodes n) there m c
    (λ i f key z. let y : None ≡ Some (message.FetchAsk i f key) = sym (ap result_ok is) ∙ z in absurd (cc))
    (λ f key what z. let y : None ≡ Some (message.FetchGot f key what) = sym (ap result_ok is) ∙ z in absurd (cc))
    (λ y order z. let none : None ≡ Some y = sym (ap result_ok is) ∙ z in absurd (cc))
    refl refl refl refl refl (λ posts later items y. y)

pub node_of : (to : Actor) (number : ℕ) → is_to_node to number ≡ true → to ≡ Node number
node_of (Client lane) number is = absurd (cc)
node_of (Node n) number is = ⊎_elim (λ t. ap Node t.1) (λ t. absurd (cc)) (tells n number)
node_of Coord number is = absurd (cc)

pub deliver_moves : (config : Config) (w : World) (came : ℕ → Bool) (n e : ℕ) (x : Envelope) (h : Ghost) → n < config.nodes → Shows config w h → IsMoving config w came → slice_get w.envelopes e ≡ Some x
    → is_to_node x.to (w.nodes n).number ≡ true → All (λ (l : Letter). Fits l.message) (delivered (w.nodes n) x).sent → IsMoving config (After config w n (delivered (w.nodes n) x)) (put came e true)
unfolding delivered
deliver_moves config w came n e x h there s m at to fit =
    read_moves config w came n e x h (reading x.bytes) there s m (record { at = at; to = node_of x.to (w.nodes n).number to ∙ ap Node (s.placed n).number }) refl fit
