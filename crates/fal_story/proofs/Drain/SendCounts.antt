-- How many calls each lane of a run has sent, and that it can send the next one once they are answered.
use Rattle.std.proofs.Common.{◌≡◌, ⊎_elim, ℕ, zero, suc, ◌+◌, ◌<◌, ◌≤◌, ◌^◌, nat_lt, nat_le, Bool, true, false, cond, List, [], ◌∷◌, ◌++◌, length, map, take, Option, Some, None, refl, sym, ap, ◌∙◌, subst, arith, eq-eqb}
use Rattle.std.specs.Prelude.{slice_get, ◌==◌, ◌&&◌, is_some, unwrap_or, IsSome, IsSomeAnd}
use Rattle.std.specs.List.{flat_map, range_with_len}
use Rattle.std.proofs.lemmas.Bool.Decides.{nat_tests}
use Rattle.std.proofs.lemmas.Option.{same_Some}
use Rattle.fal_base.specs.declared.call.Call.{Call}
use Rattle.fal_base.specs.declared.call.Config.{Config}
use Rattle.fal_base.specs.declared.event.Actor.TheVariants.{Client, Node, Coord}
use Rattle.fal_base.specs.declared.event.Envelope.{Envelope}
use Rattle.fal_base.specs.declared.event.Event.{Event}
use Rattle.fal_base.specs.declared.event.Event.TheVariants as event
use Rattle.fal_base.specs.Transcript.{call_of, lane_call, numbered, sents}
use Rattle.fal_client.specs.declared.current.Current.{Current}
use Rattle.fal_client.specs.declared.event.ClientEvent.TheVariants as client
use Rattle.fal_client.specs.State.{ClientState, Work as ClientWork}
use Rattle.fal_coord.specs.declared.event.CoordEvent.TheVariants as coord_event
use Rattle.fal_coord.specs.State.{Work as CoordWork}
use Rattle.fal_coord.specs.Step.{coord_step}
use Rattle.fal_client.specs.Step.{begun, skipped, answered, retried, client_step, sent_next, started, kept, listed, opened}
use Rattle.fal_base.specs.OpPaths.{bad_path}
use Rattle.fal_node.specs.declared.event.OwnEvent.{OwnEvent}
use Rattle.fal_node.specs.declared.event.OwnEvent.TheVariants as own
use Rattle.fal_node.specs.declared.event.NodeEvent.TheVariants as node
use Rattle.fal_node.specs.Due.{dues}
use Rattle.fal_node.specs.Letters.{Work}
use Rattle.fal_node.specs.Step.{node_step}
use Rattle.fal_story.proofs.Lists.Each.{Each, each_join}
use Rattle.fal_story.proofs.Events.EnabledClient as enabled
use Rattle.fal_story.proofs.Events.LegalRuns.{IsKept, step_kept, step_counts, legal_kept}
use Rattle.fal_story.proofs.Lists.Grown.{put_all, slice_get_below, tells, unequal}
use Rattle.fal_story.proofs.Drain.MovingRuns.{after_client, after_node, after_coord}
use Rattle.fal_story.proofs.Events.Opening.{opening_ghost, opening_shows, opening_ranged}
use Rattle.fal_story.specs.Clusters.{IsCluster, calls_of_lane, is_lane, is_node}
use Rattle.fal_story.specs.Fresh.{due, event_of_node, fresh_gets, fresh_at_node, fresh_at_coord, fresh_replies, fresh_replies_at, first_reply, came, AreAnswered, IsDrained, fresh_start}
use Rattle.fal_story.specs.Machines.{coord_hears, coord_made}
use Rattle.fal_story.specs.Run.{deed_by, IsEnabled, IsLegal, client_deed, client_hears, deed, done, entries_at, node_deed, node_hears, only_where, run, run_from, step, transcript}
use Rattle.fal_story.specs.World.{World, opening_world, posted, put}
use Rattle.fal_story.specs.Sending.{calls_sent_by, calls_sent}

-- ---- one event

-- the client sends so many calls, at most one, and that while none is under way
pub record Paces (n : ℕ) (c d : ClientState) : Type 0 where
  pub seq : d.seq ≡ c.seq + n
  pub few : n ≤ 1
  pub idle : 0 < n → c.current ≡ None

paces_one : (c d : ClientState) → d.seq ≡ c.seq + 1 → c.current ≡ None → Paces 1 c d
paces_one c d is none = record { seq = is; few = omega arith; idle = λ some. none }

paces_none : (c d : ClientState) → d.seq ≡ c.seq → Paces 0 c d
paces_none c d is = record { seq = omega arith; few = omega arith; idle = λ some. absurd (omega arith) }

send_paces : (c : ClientState) (m : ClientWork) → client_step c client.Send ≡ Some m → Paces 1 c m.client
unfolding begun skipped
send_paces c m is =
    enabled.sends c m (λ (y : ClientWork). Paces 1 c y.client) (λ call none left good. paces_one c _ refl none) (λ call fault none left bad. paces_one c _ refl none) is

get_paces : (config : Config) (w : World) (l number : ℕ) (x : Envelope) (m : ClientWork) → IsKept config w → slice_get w.envelopes number ≡ Some x → client_step (w.clients l) (client.Get x) ≡ Some m → Paces 0 (w.clients l) m.client
unfolding answered retried opened kept listed
get_paces config w l number x m k at is =
    enabled.gets config w l number k.ghost x m (λ (y : ClientWork). Paces 0 (w.clients l) y.client) k.shows at (λ unheard. paces_none _ _ refl)
    (record {
      hears = λ id reply current heard. paces_none _ _ refl;
      takes = λ id old new changes call attempt taking. paces_none _ _ refl;
      restarts = λ id old new changes call attempt listing taking. paces_none _ _ refl;
      opens = λ id dir call attempt told. paces_none _ _ refl;
      keeps = λ id node names call attempt listing told missing more. paces_none _ _ refl;
      lasts = λ id node names call attempt listing told missing one. paces_none _ _ refl;
    })
    is

module _ (config : Config) (w u : World) (l : ℕ) (k : IsKept config w) where
  abbrev Sends : ℕ → World → Type 0
  Sends n v = Paces n (w.clients l) (v.clients l)

  -- one more call of a lane
  one_more : (m : ℕ) (c : ClientState) → Paces 1 (w.clients m) c → Paces (cond (m == l) 1 0) (w.clients l) (put w.clients m c l)
  one_more m c one =
      put_all (λ (j : ℕ) (s : ClientState). Paces (cond (m == j) 1 0) (w.clients j) s) w.clients m c
      (subst (λ b. Paces (cond b 1 0) (w.clients m) c) (sym (eq-eqb m m refl)) one)
      (λ j ne. subst (λ b. Paces (cond b 1 0) (w.clients j) (w.clients j)) (sym (unequal m j (λ same. ne (sym same)))) (paces_none _ _ refl))
      l

  no_more : (m : ℕ) (c : ClientState) → Paces 0 (w.clients m) c → Paces 0 (w.clients l) (put w.clients m c l)
  no_more m c none = put_all (λ (j : ℕ) (s : ClientState). Paces 0 (w.clients j) s) w.clients m c none (λ j ne. paces_none _ _ refl) l

  send_sends : (m : ℕ) → done config (client_deed w m (only_where (is_lane config m) (client_step (w.clients m) client.Send))) ≡ Some u → Sends (cond (m == l) 1 0) u
  unfolding posted
  send_sends m at =
      after_client config w u m (client_step (w.clients m) client.Send) (Sends (cond (m == l) 1 0)) (λ move there is. one_more m move.client (send_paces (w.clients m) move is)) at

  get_sends : (m number : ℕ) (o : Option Envelope) → slice_get w.envelopes number ≡ o → done config (client_deed w m (only_where (is_lane config m) (client_hears (w.clients m) o))) ≡ Some u → Sends 0 u
  unfolding posted
  get_sends m number None at is = after_client config w u m None (Sends 0) (λ move there e. absurd (cc)) is
  get_sends m number (Some x) at is =
      after_client config w u m (client_step (w.clients m) (client.Get x)) (Sends 0) (λ move there e. no_more m move.client (get_paces config w m number x move k at e)) is

  node_sends : (n : ℕ) (o : Option Work) → done config (node_deed w n (only_where (is_node config n) o)) ≡ Some u → Sends 0 u
  unfolding posted
  node_sends n o at = after_node config w u n o (Sends 0) (λ work there is. paces_none _ _ refl) at

  coord_sends : (o : Option CoordWork) → done config (deed_by w Coord (coord_made o)) ≡ Some u → Sends 0 u
  unfolding posted
  coord_sends o at = after_coord config w u o (Sends 0) (λ work is. paces_none _ _ refl) at

  -- an event sends as many calls as it counts
  pub step_sends : (e : Event) → step config w e ≡ Some u → Sends (calls_sent_by l e) u
  unfolding deed
  step_sends (event.Send m) at = send_sends m at
  step_sends (event.Get m number) at = get_sends m number (slice_get w.envelopes number) refl at
  step_sends (event.Deliver n number) at = node_sends n (node_hears (w.nodes n) (slice_get w.envelopes number)) at
  step_sends (event.Gather n) at = node_sends n (node_step (w.nodes n) node.Gather) at
  step_sends (event.Exec n number) at = node_sends n (node_step (w.nodes n) (node.Exec number)) at
  step_sends (event.Release n number) at = node_sends n (node_step (w.nodes n) (node.Release number)) at
  step_sends (event.Serve n number) at = node_sends n (node_step (w.nodes n) (node.Serve number)) at
  step_sends (event.Hear number) at = coord_sends (coord_hears w.coord (slice_get w.envelopes number)) at
  step_sends event.Start at = coord_sends (coord_step w.coord coord_event.Start) at

-- ---- runs

nothing_more : (n : ℕ) → n ≡ n + 0
nothing_more n = omega arith

run_sends : (config : Config) (w u : World) (events : List Event) (l : ℕ) → IsCluster config → w.events + length events < 2 ^ 63 → IsKept config w → run_from config (Some w) events ≡ Some u
    → (u.clients l).seq ≡ (w.clients l).seq + calls_sent l events
run_sends config w u [] l cluster few k at = sym (ap (λ (v : World). (v.clients l).seq) (same_Some w u at)) ∙ nothing_more (w.clients l).seq
run_sends config w u (e ∷ es) l cluster few k at =
    elim (step config w e) as (λ o. step config w e ≡ o → run_from config o es ≡ Some u → (u.clients l).seq ≡ (w.clients l).seq + (calls_sent_by l e + calls_sent l es)) [
      | None ↦ λ t z. absurd (dead es z)
      | Some v ↦ λ t z.
          let counted : v.events ≡ suc w.events = step_counts config w v e t in
          let front : w.events < 2 ^ 63 = omega arith in
          let rest : v.events + length es < 2 ^ 63 = omega arith in
          let first = (step_sends config w v l k e t).seq in
          let others = run_sends config v u es l cluster rest (step_kept config w v e cluster front k t) z in
          omega arith
    ] refl at
  where
    dead : (es : List Event) → run_from config None es ≡ Some u → ⊥
    dead [] z = cc
    dead (x ∷ xs) z = cc

-- each client has sent as many calls as its lane has Sends
pub legal_sends : (config : Config) (events : List Event) (w : World) (l : ℕ) → IsLegal config events → run config events ≡ Some w → (w.clients l).seq ≡ calls_sent l events
unfolding run
legal_sends config events w l legal at =
    let few = legal.few in
    let front : 0 + length events < 2 ^ 63 = omega arith in
    let all = run_sends config (opening_world config) w events l legal.cluster front (record { ghost = opening_ghost; shows = opening_shows config legal.cluster; ranged = opening_ranged config }) at in
    all ∙ none_yet (calls_sent l events)
  where
    none_yet : (n : ℕ) → 0 + n ≡ n
    none_yet n = omega arith

-- and so as many are recorded as sent
pub legal_sents : (config : Config) (events : List Event) (l : ℕ) → IsLegal config events → sents l (transcript config events) ≡ calls_sent l events
legal_sents config events l legal =
    elim (run config events) as (λ o. run config events ≡ o → sents l (entries_at o) ≡ calls_sent l events) [
      | None ↦ λ at. let some = legal.enabled in let wrong : is_some (run config events) ≡ false = ap is_some at in absurd (cc)
      | Some w ↦ λ at. let k = legal_kept config events w legal at in k.shows.good.script.once.sent l ∙ legal_sends config events w l legal at
    ] refl

-- ---- no fresh event but a Send is one

abbrev IsReply : Event → Type 0
IsReply e = (l : ℕ) → calls_sent_by l e ≡ 0

each_map : {A B : Type 0} (P : B → Type 0) (f : A → B) (xs : List A) → ((x : A) → P (f x)) → Each P (map f xs)
each_map P f [] holds = tt
each_map P f (x ∷ xs) holds = (holds x, each_map P f xs holds)

each_flat : {A B : Type 0} (P : B → Type 0) (f : A → List B) (xs : List A) → ((x : A) → Each P (f x)) → Each P (flat_map f xs)
each_flat P f [] holds = tt
each_flat P f (x ∷ xs) holds = each_join P (f x) (flat_map f xs) (holds x) (each_flat P f xs holds)

own_reply : (number : ℕ) (e : OwnEvent) → IsReply (event_of_node number e)
own_reply number own.Gather l = refl
own_reply number (own.Exec batch) l = refl
own_reply number (own.Release batch) l = refl
own_reply number (own.Serve item) l = refl

replies : (config : Config) (w : World) (came : ℕ → Bool) → Each IsReply (fresh_replies config w came)
replies config w came =
    each_join IsReply (lanes ++ nodes) (fresh_at_coord w came)
    (each_join IsReply lanes nodes
    (each_flat IsReply (λ lane. fresh_gets w came lane) (range_with_len 1 (length config.lanes)) (λ lane. each_map IsReply (λ number. event.Get lane number) (due (Client lane) came w.envelopes) (λ number l. refl)))
    (each_flat IsReply (λ number. fresh_at_node w came number) (range_with_len 0 config.nodes)
    (λ number. each_join IsReply (map (λ envelope. event.Deliver number envelope) (due (Node number) came w.envelopes)) (map (λ e. event_of_node number e) (dues (w.nodes number)))
    (each_map IsReply (λ envelope. event.Deliver number envelope) (due (Node number) came w.envelopes) (λ envelope l. refl))
    (each_map IsReply (λ e. event_of_node number e) (dues (w.nodes number)) (λ e. own_reply number e)))))
    (each_join IsReply (map (λ number. event.Hear number) (due Coord came w.envelopes)) (fresh_start w) (each_map IsReply (λ number. event.Hear number) (due Coord came w.envelopes) (λ number l. refl))
    (elim (is_some (coord_step w.coord coord_event.Start)) as (λ b. Each IsReply (cond b (event.Start ∷ []) [])) [ true ↦ ((λ l. refl), tt) | false ↦ tt ]))
  where
    lanes : List Event
    lanes = flat_map (λ lane. fresh_gets w came lane) (range_with_len 1 (length config.lanes))

    nodes : List Event
    nodes = flat_map (λ number. fresh_at_node w came number) (range_with_len 0 config.nodes)

first_of_each : {A : Type 0} (P : A → Type 0) (xs : List A) (x : A) → Each P xs → slice_get xs 0 ≡ Some x → P x
first_of_each P [] x each at = absurd (cc)
first_of_each P (y ∷ ys) x each at = subst P (same_Some y x at) each.0

first_is_reply : (config : Config) (events : List Event) (e : Event) → first_reply config events ≡ Some e → IsReply e
first_is_reply config events e is =
    elim (run config events) as (λ o. slice_get (fresh_replies_at config o (came events)) 0 ≡ Some e → IsReply e) [
      | None ↦ λ at. absurd (cc)
      | Some w ↦ λ at. first_of_each IsReply (fresh_replies config w (came events)) e (replies config w (came events)) at
    ] is

-- events of which none is a Send
nothing_sent : (l : ℕ) (events : List Event) → ((k : ℕ) (event : Event) → slice_get events k ≡ Some event → calls_sent_by l event ≡ 0) → calls_sent l events ≡ 0
nothing_sent l [] each = refl
nothing_sent l (event ∷ events) each = let first = each 0 event refl in let rest = nothing_sent l events (λ k e at. each (suc k) e at) in omega arith

-- the first fresh events other than Sends send no call
pub drained_sends : (config : Config) (events more : List Event) (l : ℕ) → IsDrained config events more → calls_sent l more ≡ 0
drained_sends config events more l drained = nothing_sent l more (λ k event at. first_is_reply config (events ++ take k more) event (drained.each k event at) l)

-- ---- the next call

-- a lane and its next call
record HasNext (config : Config) (lane seq : ℕ) : Type 0 where
  there : is_lane config lane ≡ true
  call : Call
  is : call_of config lane (seq + 1 + 0) ≡ Some call

at_below : {A : Type 0} (xs : List A) (k : ℕ) → k < length xs → (x : A) × (slice_get xs k ≡ Some x)
at_below [] k low = absurd (omega arith)
at_below (x ∷ xs) zero low = (x, refl)
at_below (x ∷ xs) (suc k) low = at_below xs k (omega arith)

has_next : (config : Config) (lane seq : ℕ) → seq < length (calls_of_lane config lane) → HasNext config lane seq
has_next config zero seq low = absurd (omega arith)
has_next config (suc place) seq low =
    elim (slice_get config.lanes place) as (λ (o : Option (List Call)). slice_get config.lanes place ≡ o → seq < length (unwrap_or o []) → HasNext config (suc place) seq) [
      | None ↦ λ at few. absurd (omega arith)
      | Some calls ↦ λ at few.
          let here = slice_get_below config.lanes place calls at in
          let next = at_below calls seq few in
          record {
            there = within place (length config.lanes) here;
            call = next.0;
            is = ap (λ o. lane_call o (seq + 1 + 0)) at ∙ ap (numbered calls) (one_later seq) ∙ next.1;
          }
    ] refl low
  where
    within : (n most : ℕ) → n < most → (nat_lt 0 (suc n) && nat_le (suc n) most) ≡ true
    within n most low = grind (arith, nat_tests)

    one_later : (n : ℕ) → n + 1 + 0 ≡ suc n
    one_later n = omega arith

sends_next : (c : ClientState) (call : Call) → c.current ≡ None → slice_get c.left 0 ≡ Some call → client_step c client.Send ≡ Some (started c call (bad_path call.op))
unfolding client_step sent_next
sends_next c call none left = ap (λ o. sent_next c o (slice_get c.left 0)) none ∙ ap (λ o. sent_next c None o) left

-- where each call that was sent is answered no client has a call under way
none_busy : (config : Config) (w : World) (lane : ℕ) (current : Current) → IsKept config w → AreAnswered w.entries → (w.clients lane).current ≡ Some current → ⊥
none_busy config w lane current k answered busy =
    let good = k.shows.good in
    let under = ((k.shows.heard lane).some current busy).0 in
    ⊎_elim
    (λ none. under (good.lanes.under_way.started lane none.1))
    (λ some. let ne = some.1 in let sent = good.script.calls.entry lane (omega arith) in let told = answered sent.0 lane (w.clients lane).seq sent.1 in good.script.once.unanswered lane told.0 told.1.0 told.1.1.0 under told.1.1.1)
    (tells (w.clients lane).seq 0)

idle : (config : Config) (w : World) (lane : ℕ) → IsKept config w → AreAnswered w.entries → (w.clients lane).current ≡ None
idle config w lane k answered =
    elim (w.clients lane).current as (λ o. (w.clients lane).current ≡ o → o ≡ None) [ None ↦ λ is. refl | Some current ↦ λ is. absurd (none_busy config w lane current k answered is) ] refl

some_deed : (config : Config) (w : World) (lane : ℕ) (move : ClientWork) → is_lane config lane ≡ true → client_step (w.clients lane) client.Send ≡ Some move → is_some (deed config w (event.Send lane)) ≡ true
unfolding deed
some_deed config w lane move there is = ap (λ b. is_some (client_deed w lane (only_where b (client_step (w.clients lane) client.Send)))) there ∙ ap (λ o. is_some (client_deed w lane o)) is

send_enabled : (config : Config) (events : List Event) (w : World) (lane : ℕ) → IsLegal config events → run config events ≡ Some w → AreAnswered w.entries → calls_sent lane events < length (calls_of_lane config lane)
    → is_some (deed config w (event.Send lane)) ≡ true
send_enabled config events w lane legal at answered left =
    let k = legal_kept config events w legal at in
    let c = w.clients lane in
    let sent = legal_sends config events w lane legal at in
    let next = has_next config lane c.seq (omega arith) in
    some_deed config w lane _ next.there (sends_next c next.call (idle config w lane k answered) ((k.shows.heard lane).left 0 ∙ next.is))

-- where each call that was sent is answered a lane's Send is enabled, if the lane has a call left
pub answered_sends : (config : Config) (events : List Event) (lane : ℕ) → IsLegal config events → AreAnswered (transcript config events) → calls_sent lane events < length (calls_of_lane config lane)
    → IsEnabled config events (event.Send lane)
answered_sends config events lane legal answered left =
    elim (run config events) as (λ o. run config events ≡ o → IsSome o → AreAnswered (entries_at o) → IsSomeAnd o (λ w. IsSome (deed config w (event.Send lane)))) [
      | None ↦ λ at some told. absurd (cc)
      | Some w ↦ λ at some told. send_enabled config events w lane legal at told left
    ] refl legal.enabled answered
