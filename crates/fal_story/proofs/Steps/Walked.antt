-- The coordinator lacks a directory on the walks of its call: a fetch is opened, for which the call waits, and the owner is asked.
use Rattle.std.proofs.Common.{◌≡◌, ◌≢◌, ◌⊎◌, inl, inr, ⊎_elim, ℕ, ◌+◌, ◌<◌, ◌≤◌, List, [], ◌∷◌, ◌++◌, Some, None, refl, sym, ap, ◌∙◌, subst, arith}
use Rattle.std.specs.Prelude.{slice_get}
use Rattle.fal_base.specs.declared.call.Config.{Config}
use Rattle.fal_base.specs.declared.event.Actor.TheVariants.{Node}
use Rattle.fal_base.specs.declared.key.Key.{Key}
use Rattle.fal_place.specs.Placement.{owner}
use Rattle.fal_wire.specs.declared.message.Message.TheVariants as message
use Rattle.fal_story.proofs.Families.Asking.{Crosses}
use Rattle.fal_story.proofs.Families.Clear.{IsShut}
use Rattle.fal_story.proofs.Families.Operation.{IsQuiet, Stands}
use Rattle.fal_story.proofs.Good.{Good}
use Rattle.fal_story.proofs.Lists.Grown.{from_put, only_one, put_both, put_same}
use Rattle.fal_story.proofs.Phase.{Waits, IsHeld}
use Rattle.fal_story.proofs.Steps.Fetching.{pended_good, raised_good}
use Rattle.fal_story.proofs.Steps.Moved.{MayMove, moved_good}
use Rattle.fal_story.proofs.Steps.Posted.{posted_good}
use Rattle.fal_story.proofs.Trees.Footprint.{among_itself}
use Rattle.fal_story.proofs.Trees.Paths.{ways_to}
use Rattle.fal_story.proofs.Trees.Standing.{Reaches, call_paths}
use Rattle.fal_story.proofs.View.{Asking, post, View, Walks, now}
use Rattle.fal_story.specs.World.{put}

module _ (config : Config) (v : View) (l : ℕ) (key : Key) (point : ℕ) where
  abbrev pub number : ℕ
  number = v.opened 255

  abbrev pub crossed_now : List Key
  crossed_now = ways_to (now v) (v.call l).cred (call_paths (v.call l).op) key

  abbrev pub fetch : Asking
  fetch = record { number = number; key = key }

  abbrev pub raised : View
  raised = record v { opened = put v.opened 255 (v.opened 255 + 1) }

  abbrev pub moved : View
  moved = record raised { phase = put v.phase l (Waits 255 (Some number)); op = record v.op { crossed = put v.op.crossed l crossed_now } }

  abbrev pub pended : View
  pended = record moved { fetches = put v.fetches 255 (v.fetches 255 ++ fetch ∷ []) }

  pub record IsLacking : Type 0 where
    pub few : config.nodes ≤ 255
    pub work : v.op.work ≡ Walks l
    pub waits : v.phase l ≡ Waits 255 None
    pub none : v.fetches 255 ≡ []
    pub lacks : Reaches (now v) (v.call l) key

  -- the coordinator has nothing shut
  open_there : (q : Key) → IsLacking → Good config v → IsShut (v.op.shut 255) q → ⊥
  open_there q is g shut = subst (λ s. IsShut s q) (g.operation.beyond 255 is.few) shut

  crosses : Crosses (now v) (v.call l) key crossed_now
  crosses = among_itself crossed_now

  -- the operation has a number, which no node has heard of
  has_begun : v.op.work ≡ Walks l → Good config v → 0 < v.op.operation
  has_begun walks g =
      let n = owner v.map.table key in
      let stands = subst (λ w. Stands v.map.table v.op.operation w n (v.op.shut n) (v.op.queued n) (v.op.last n) (v.op.due n)) walks (g.operation.stands n (g.ground.lives key)) in
      let newer = stands.3 in
      omega arith

  pub lacking_good : IsLacking → Good config v → Good config (record pended { posts = v.posts ++ post (Node (owner v.map.table key)) point (message.FetchAsk 255 number key) ∷ [] })
  lacking_good is g =
      let below : number < v.opened 255 + 1 = omega arith in
      let first = raised_good config v 255 (v.opened 255 + 1) (omega arith) g in
      let no_fetch = λ (j : ℕ) (f : Asking) (at : slice_get (v.fetches 255) j ≡ Some f). let gone : slice_get (v.fetches 255) j ≡ None = ap (λ fs. slice_get fs j) is.none in absurd {A = f.number ≢ number} (cc) in
      let second = moved_good config raised (put v.phase l (Waits 255 (Some number))) (put v.op.crossed l crossed_now)
      (put_both (λ a q ks. ((q ≡ v.phase a) × (v.op.crossed a ≡ ks)) ⊎ MayMove config raised a (v.phase a) q ks) v.phase v.op.crossed l (Waits 255 (Some number)) crossed_now
      (inr (subst (IsHeld 255) (sym is.waits) refl, below, no_fetch, λ q _. open_there q is g))
      (λ a _. inl (refl, refl)))
      first in
      let third = pended_good config moved 255 fetch (record {
        who = inl refl;
        below = below;
        no_got = λ e p q what posted. let drawn = g.asking.numbers.got e 255 p number q what posted in absurd (omega arith);
        no_ask = λ e p to q posted. let drawn = (g.asking.numbers.ask e p to 255 number q posted).1 in absurd (omega arith);
        reach = λ a waits. ⊎_elim
            (λ x. subst (λ i. Reaches (now v) (v.call i) key × Crosses (now v) (v.call i) key (put v.op.crossed l crossed_now i)) (sym x.0) (is.lacks, subst (Crosses (now v) (v.call l) key) (sym (put_same v.op.crossed l crossed_now)) crosses))
            (λ x. let drawn = g.asking.waits_drawn a 255 number x.1 in absurd (omega arith))
            (from_put v.phase l (Waits 255 (Some number)) a _ waits);
        off = open_there key is g;
        walks = λ _. subst (λ w. IsQuiet w (v.fetches 255 ++ fetch ∷ [])) (sym is.work) tt;
      }) second in
      posted_good config pended (Node (owner v.map.table key)) point (message.FetchAsk 255 number key)
      (record {
        asking = (inr refl, below, (owner v.map.table key, refl, g.ground.lives key, λ _. refl), λ j f at _. ap (λ (z : Asking). z.key) (only_one fetch j f (sym (ap (λ fs. slice_get (fs ++ fetch ∷ []) j) is.none) ∙ at)));
        records = (owner v.map.table key, refl);
        operation = λ _. has_begun is.work g;
        bars = tt;
        knowing = tt;
        listings = tt;
      })
      third
