-- The call of the operation is answered: what nodes keep, what clients know, and which calls wait at the coordinator stays.
use Rattle.std.proofs.Common.{◌≡◌, ⊎_elim, ℕ, List, refl, sym, ap, ◌∙◌, subst}
use Rattle.fal_base.specs.declared.call.CallRec.{CallRec}
use Rattle.fal_base.specs.declared.call.Config.{Config}
use Rattle.fal_base.specs.declared.key.Key.{Key}
use Rattle.fal_base.specs.declared.reply.Reply.{Reply}
use Rattle.fal_client.specs.State.{ClientState}
use Rattle.fal_node.specs.State.{NodeState}
use Rattle.fal_run.specs.declared.call.BatchCall.{BatchCall}
use Rattle.fal_wait.specs.declared.waiting_call.WaitingCall.{WaitingCall}
use Rattle.fal_story.proofs.Events.Besides.{holds_kept}
use Rattle.fal_story.proofs.Events.HeldCalls.{AsksNone, held_frame, listed_none}
use Rattle.fal_story.proofs.Events.Shows.{Held, Heard, Holds, IsListed, WaitsThere}
use Rattle.fal_story.proofs.Lists.Each.{Each, each_weaker}
use Rattle.fal_story.proofs.Lists.Grown.{from_put, put_all, put_other}
use Rattle.fal_story.proofs.Phase.{Phase, Idle, Plans, Runs, Tells, Replies, IsHeld}
use Rattle.fal_story.specs.World.{put}

module _ (call : ℕ → CallRec) (phase : ℕ → Phase) (l k : ℕ) (reply : Reply) (runs : phase l ≡ Runs) where
  abbrev done : Phase
  done = Tells (Replies k reply)

  abbrev later : ℕ → Phase
  later = put phase l done

  -- a call that an actor keeps is another
  other_stays : (n a : ℕ) → IsHeld n (phase a) → later a ≡ phase a
  other_stays n a held = put_other phase l done a (λ same. subst (IsHeld n) (ap phase same ∙ runs) held)

  pub done_held : (n : ℕ) (ws : List WaitingCall) (ps : List BatchCall) → Held call phase n ws ps → Held call later n ws ps
  done_held n ws ps held = held_frame call phase later n ws ps (other_stays n) held

  pub done_holds : (crossed : ℕ → List Key) (n : ℕ) (x : NodeState) → Holds phase crossed n x → Holds later crossed n x
  done_holds crossed n x holds = holds_kept phase later crossed crossed n x x refl refl refl
      (λ a p plans. ⊎_elim (λ here. absurd (cc)) (λ there. (there.1, refl)) (from_put phase l done a (Plans n p) plans)) holds

  pub done_waiters : (waiting : List CallRec) → Each (WaitsThere call phase) waiting → Each (WaitsThere call later) waiting
  done_waiters waiting waits = each_weaker (WaitsThere call phase) (WaitsThere call later) waiting
      (λ c there. (other_stays 255 c.id.client (subst (IsHeld 255) (sym there.0) refl) ∙ there.0, there.1, there.2)) waits

  -- no lane becomes idle, and none is so no more
  pub done_heard : (config : Config) (a : ℕ) (c : ClientState) → Heard config call phase a c → Heard config call later a c
  done_heard config a c heard = record {
    lane = heard.lane;
    nodes = heard.nodes;
    left = heard.left;
    none = λ e. let idle = heard.none e in put_other phase l done a (λ same. let both = ap phase same ∙ runs in absurd (cc)) ∙ idle;
    some = λ current e. let x = heard.some current e in (
      (λ idle. ⊎_elim (λ here. absurd (cc)) (λ there. x.0 there.1) (from_put phase l done a Idle idle)),
      x.1,
      x.2,
      put_all (λ i p. IsListed config.nodes (phase i) current.listing → IsListed config.nodes p current.listing) phase l done
          (listed_none config.nodes (phase l) done current.listing (subst AsksNone (sym runs) tt) tt) (λ i _ y. y) a x.3,
    );
  }
