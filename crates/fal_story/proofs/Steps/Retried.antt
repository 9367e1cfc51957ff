-- A call whose client has an older table: it is told, and tried again.
use Rattle.std.proofs.Common.{inl, inr, length, ◌≤◌, ◌≡◌, ℕ, List, [], ◌∷◌, ◌++◌, None, refl, sym, subst, ◌<◌, ap, ◌∙◌}
use Rattle.fal_base.specs.declared.call.Config.{Config}
use Rattle.fal_base.specs.declared.call.CallId.{CallId}
use Rattle.fal_base.specs.declared.entry.Entry.TheVariants as entry
use Rattle.fal_base.specs.declared.event.Actor.TheVariants.{Client, Node}
use Rattle.fal_base.specs.declared.rule.RuleChange.{RuleChange}
use Rattle.fal_client.specs.Paths.{addressee}
use Rattle.fal_place.specs.Placement.{table_after, changes_since}
use Rattle.fal_place.proofs.Carried.{version-table_after}
use Rattle.fal_wire.specs.declared.message.Message.TheVariants as message
use Rattle.fal_story.proofs.View.{post, View}
use Rattle.fal_story.specs.World.{put}
use Rattle.fal_story.proofs.Steps.Posted.{posted_good}
use Rattle.fal_story.proofs.Families.Asking.{asking_called, asking_put}
use Rattle.fal_story.proofs.Families.Barring.{bars_put}
use Rattle.fal_story.proofs.Families.Clear.{clear_put}
use Rattle.fal_story.proofs.Good.{Good}
use Rattle.fal_story.proofs.Families.Knowing.{held_untold, knowing_told, knowing_retried, retried, table_first}
use Rattle.fal_story.proofs.Families.Lanes.{lanes_handed, lanes_put, positive, routed_first}
use Rattle.fal_story.proofs.Families.Listings.{listings_noted, listings_put, listings_retried}
use Rattle.fal_story.proofs.Families.OperationCalls.{operation_called, operation_moved}
use Rattle.fal_story.proofs.Phase.{Asked, Waits, Told, IsHeld, IsPast, IsSteady, IsTaken, IsUnanswered, goes_live, goes_put, held_live, held_taken, live_unlisted, stays_put, steady_held, steady_same}
use Rattle.fal_story.proofs.Families.Plans.{plans_called, plans_put}
use Rattle.fal_story.proofs.Families.Records.{records_handed, records_moved}
use Rattle.fal_story.proofs.Families.Script.{script_put, script_staled}
use Rattle.fal_story.proofs.Lists.Grown.{put_all, put_same}

-- a node tells the client of a call that waits
pub told_good : (config : Config) (v : View) (l n old new : ℕ) → v.phase l ≡ Waits n None → old ≡ (v.map.known l).version → old < new → new ≤ length v.map.placings → Good config v → Good config (record v { phase = put v.phase l (Told old new) })
told_good config v l n old new is was later below g =
    let p = Told old new in
    let held : IsHeld n (v.phase l) = subst (IsHeld n) (sym is) refl in
    let live = held_live n (v.phase l) held in
    record {
      ground = g.ground;
      clear = clear_put g.clear l p tt;
      asking = asking_put g.asking l p tt;
      plans = plans_put g.plans l p tt;
      lanes = lanes_put g.lanes l p live (λ m no. absurd no) (λ k reply e. absurd (cc));
      script = script_put g.script l p live (λ k reply e. absurd (cc));
      records = records_moved g.records (put v.phase l p) (goes_put v.phase l p live) (stays_put v.phase l p (held_taken n (v.phase l) held));
      bars = bars_put g.bars l p tt;
      knowing = knowing_told g.knowing l old new (λ e. absurd (subst IsUnanswered e live)) (held_untold n (v.phase l) held) was later below;
      listings = listings_put g.listings l p (λ e. absurd (subst IsUnanswered e live)) (live_unlisted (v.phase l) live) tt;
      operation = operation_moved g.operation (put v.phase l p) (put_all (λ a q. IsSteady (v.phase a) q) v.phase l p (steady_held n (v.phase l) p held tt) (λ a _. steady_same (v.phase a) (v.phase a) refl));
    }

-- the client has taken the newer table, and sends its call again, to a node or to the coordinator
pub retried_good : (config : Config) (v : View) (l m old new : ℕ) → v.phase l ≡ Told old new → (m < config.nodes → addressee (table_after config.nodes v.map.placings new) (v.call l).op ≡ Node m) → Good config v
    → Good config (record v {
      entries = v.entries ++ entry.Stale l (v.seq l) old new ∷ [];
      call = put v.call l (retried (v.call l) new);
      phase = put v.phase l (Asked m);
      map = record v.map { known = put v.map.known l (table_after config.nodes v.map.placings new) };
    })
retried_good config v l m old new is to g =
    let c = retried (v.call l) new in
    let told = g.knowing.told l old new is in
    let live : IsUnanswered (v.phase l) = subst IsUnanswered (sym is) tt in
    record {
      ground = g.ground;
      clear = clear_put g.clear l (Asked m) tt;
      asking = asking_called g.asking v.since l c (Asked m) (λ a ne. refl) tt;
      plans = plans_called g.plans l c (Asked m) tt;
      lanes = lanes_handed g.lanes l m c live refl (routed_first config.nodes v.map.table v.commits m c refl (λ below none. ap (λ t. addressee t (v.call l).op) (table_first g.knowing none new (g.knowing.told l old new is).2) ∙ to below));
      script = script_staled g.script l old new (table_after config.nodes v.map.placings new) c (Asked m) refl refl refl (positive g.lanes l (λ idle. subst IsUnanswered idle live)) (λ idle. subst IsUnanswered idle live) (goes_live (v.phase l) (Asked m) live)
          told.0 (version-table_after config.nodes v.map.placings new told.2) told.1 told.2 (λ k r e. absurd (cc));
      records = records_handed g.records l c (Asked m) (subst IsTaken (sym is) tt);
      bars = bars_put g.bars l (Asked m) tt;
      knowing = knowing_retried g.knowing l m old new is (g.knowing.told l old new is).2;
      listings = listings_noted (listings_retried g.listings l new (table_after config.nodes v.map.placings new) (Asked m) tt) (entry.Stale l (v.seq l) old new) g.script.joined (λ a s k names same. cc);
      operation = operation_called g.operation l c (Asked m) (λ e. absurd (cc)) (λ e. absurd (cc)) (λ past. absurd (subst IsPast is past));
    }

-- as one event's part: the call is told, and the record goes to its client
pub told_sent_good : (config : Config) (v : View) (l n old new point : ℕ) (id : CallId) (changes : List RuleChange) → v.phase l ≡ Waits n None → id.client ≡ l → id.seq ≡ v.seq l → id.attempt ≡ (v.call l).id.attempt → old ≡ (v.map.known l).version → old < new → new ≤ length v.map.placings
    → changes ≡ changes_since old (table_after config.nodes v.map.placings new) → Good config v
    → Good config (record v { phase = put v.phase l (Told old new); posts = v.posts ++ post (Client l) point (message.Stale id old new changes) ∷ [] })
told_sent_good config v l n old new point id changes is client number attempt was later below all g =
    posted_good config (record v { phase = put v.phase l (Told old new) }) (Client l) point (message.Stale id old new changes)
    (record { asking = tt; records = (l, refl, client); operation = tt; bars = tt; knowing = (l, refl, (later, below, all, inr (inl ((number, attempt), put_same v.phase l (Told old new))))); listings = tt })
    (told_good config v l n old new is was later below g)
