-- What a node or the coordinator asks for.
use Rattle.std.proofs.Common.{◌≡◌, ◌⊎◌, ⊎_elim, ℕ, ◌<◌, ◌≤◌, List, [], ◌∷◌, ◌++◌, Some, refl, sym, subst}
use Rattle.std.specs.Prelude.{slice_get}
use Rattle.fal_base.specs.declared.call.Config.{Config}
use Rattle.fal_base.specs.declared.event.Actor.{Actor}
use Rattle.fal_base.specs.declared.event.Actor.TheVariants.{Node}
use Rattle.fal_base.specs.declared.key.Key.{Key}
use Rattle.fal_wire.specs.declared.message.Found.{Found}
use Rattle.fal_wire.specs.declared.message.Message.TheVariants as message
use Rattle.fal_story.proofs.Families.Asking.{Crosses, asking_closed, asking_raised, asking_pended}
use Rattle.fal_story.proofs.Families.Clear.{IsShut, clear_fetched}
use Rattle.fal_story.proofs.Families.Ground.{ground_fetched}
use Rattle.fal_story.proofs.Families.Operation.{IsQuiet}
use Rattle.fal_story.proofs.Families.OperationCalls.{operation_fetched}
use Rattle.fal_story.proofs.Good.{Good}
use Rattle.fal_story.proofs.Lists.Grown.{put_all, slice_get_snoc}
use Rattle.fal_story.proofs.Phase.{Waits}
use Rattle.fal_story.proofs.Trees.Standing.{Reaches}
use Rattle.fal_story.proofs.View.{Asking, IsPosted, View, now}
use Rattle.fal_story.specs.World.{put}

-- the coordinator's fetches are those that there were, or may be as they are
own_fetches : (v : View) (n : ℕ) (fs : List Asking) → IsQuiet v.op.work (v.fetches 255) → (n ≡ 255 → IsQuiet v.op.work fs) → IsQuiet v.op.work (put v.fetches n fs 255)
own_fetches v n fs quiet new = put_all (λ m fs. 255 ≡ m → IsQuiet v.op.work fs) v.fetches n fs (λ same. new (sym same)) (λ m _ same. subst (λ z. IsQuiet v.op.work (v.fetches z)) same quiet) 255 refl

pub closed_good : (config : Config) (v : View) (n : ℕ) (fs : List Asking) → (n ≡ 255) ⊎ (n < config.nodes) → ((j : ℕ) (f : Asking) → slice_get fs j ≡ Some f → (i : ℕ) × (slice_get (v.fetches n) i ≡ Some f))
    → (n ≡ 255 → IsQuiet v.op.work fs) → Good config v → Good config (record v { fetches = put v.fetches n fs })
closed_good config v n fs who among quiet g = record {
  ground = ground_fetched g.ground n fs who;
  clear = clear_fetched g.clear n fs (λ j f at. g.clear.fetch n (among j f at).0 f (among j f at).1);
  asking = asking_closed g.asking n fs among;
  plans = g.plans;
  lanes = g.lanes;
  script = g.script;
  records = g.records;
  operation = operation_fetched g.operation (put v.fetches n fs 255) (own_fetches v n fs g.operation.quiet quiet);
  bars = g.bars;
  knowing = g.knowing;
  listings = g.listings;
}

pub raised_good : (config : Config) (v : View) (n count : ℕ) → v.opened n ≤ count → Good config v → Good config (record v { opened = put v.opened n count })
raised_good config v n count more g = record {
  ground = g.ground;
  clear = g.clear;
  asking = asking_raised g.asking n count more;
  plans = g.plans;
  lanes = g.lanes;
  script = g.script;
  records = g.records;
  operation = g.operation;
  bars = g.bars;
  knowing = g.knowing;
  listings = g.listings;
}

-- a fetch is pending for a key that is not shut, whose number nothing had
pub record IsNewFetch (config : Config) (v : View) (n : ℕ) (f : Asking) : Type 0 where
  pub who : (n ≡ 255) ⊎ (n < config.nodes)
  pub below : f.number < v.opened n
  pub no_got : (e p : ℕ) (key : Key) (what : Found) → IsPosted v.posts e (Node n) p (message.FetchGot f.number key what) → ⊥
  pub no_ask : (e p : ℕ) (to : Actor) (key : Key) → IsPosted v.posts e to p (message.FetchAsk n f.number key) → ⊥
  pub reach : (l : ℕ) → v.phase l ≡ Waits n (Some f.number) → Reaches (now v) (v.call l) f.key × Crosses (now v) (v.call l) f.key (v.op.crossed l)
  pub off : IsShut (v.op.shut n) f.key → ⊥
  pub walks : n ≡ 255 → IsQuiet v.op.work (v.fetches n ++ f ∷ [])

pub pended_good : (config : Config) (v : View) (n : ℕ) (f : Asking) → IsNewFetch config v n f → Good config v → Good config (record v { fetches = put v.fetches n (v.fetches n ++ f ∷ []) })
pended_good config v n f is g = record {
  ground = ground_fetched g.ground n (v.fetches n ++ f ∷ []) is.who;
  clear = clear_fetched g.clear n (v.fetches n ++ f ∷ []) (λ j h at. ⊎_elim (λ x. g.clear.fetch n j h x) (λ x. subst (λ (z : Asking). IsShut (v.op.shut n) z.key → ⊥) x.1 is.off) (slice_get_snoc (v.fetches n) f j h at));
  asking = asking_pended g.asking n f is.below g.script.calls.past is.no_got is.no_ask is.reach;
  plans = g.plans;
  lanes = g.lanes;
  script = g.script;
  records = g.records;
  operation = operation_fetched g.operation (put v.fetches n (v.fetches n ++ f ∷ []) 255) (own_fetches v n (v.fetches n ++ f ∷ []) g.operation.quiet is.walks);
  bars = g.bars;
  knowing = g.knowing;
  listings = g.listings;
}
