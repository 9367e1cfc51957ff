-- After every legal run each row stands at the owner of its key, even where an operation has still to be carried out at some nodes.
use Rattle.std.proofs.Common.{◌≡◌, ◌⊎◌, inl, inr, ⊎_elim, ℕ, ◌||◌, true, false, cond, List, [], ◌∷◌, Option, None, Some, refl, sym, ap, ◌∙◌, subst, eqb-true}
use Rattle.std.specs.Prelude.{◌==◌, IsSome, is_some, if◌then◌else◌}
use Rattle.fal_base.specs.declared.call.Config.{Config}
use Rattle.fal_base.specs.declared.event.Event.{Event}
use Rattle.fal_base.specs.declared.key.Key.{Key}
use Rattle.fal_base.specs.declared.row.Update.{Update}
use Rattle.fal_base.specs.Tree.{row_at, same_key}
use Rattle.fal_base.specs.Updates.{keys_of}
use Rattle.fal_base.proofs.Maps.{same_key_is}
use Rattle.fal_base.proofs.Updates.{laid_off}
use Rattle.fal_dentry.specs.Walk.{is_among}
use Rattle.fal_duty.specs.Duties.{owned}
use Rattle.fal_place.specs.Placement.{Placement, owner}
use Rattle.fal_story.proofs.Events.LegalRuns.{legal_kept}
use Rattle.fal_story.proofs.Events.Shows.{view_of}
use Rattle.fal_story.proofs.Families.Operation.{Stands}
use Rattle.fal_story.proofs.Good.{Good}
use Rattle.fal_story.proofs.Steps.Reads.{IsFree, due_free}
use Rattle.fal_story.proofs.Trees.Standing.{row_of}
use Rattle.fal_story.proofs.Trees.TreeRows.{below_or_past}
use Rattle.fal_story.proofs.View.{View, Work, Rests, Walks, Locks, Counts, Ends, now, Blocks, Lands}
use Rattle.fal_story.specs.AllRows.{AreOnce}
use Rattle.fal_story.specs.Run.{IsLegal, run}
use Rattle.fal_story.specs.World.{World}

-- an update among those of a node is of a key that lives there
owned_live : (table : Placement) (n : ℕ) (us : List Update) (key : Key) → is_among key (keys_of (owned table n us)) ≡ true → owner table key ≡ n
owned_live table n [] key is = absurd (cc)
owned_live table n (u ∷ us) key is =
    elim (owner table u.key == n) as (λ b. (owner table u.key == n) ≡ b → is_among key (keys_of (if b then u ∷ owned table n us else owned table n us)) ≡ true → owner table key ≡ n) [
      | true ↦ λ own among. elim (same_key u.key key) as (λ b. same_key u.key key ≡ b → (b || is_among key (keys_of (owned table n us))) ≡ true → owner table key ≡ n) [
        | true ↦ λ same _. sym (ap (owner table) ((same_key_is u.key key).0 same)) ∙ eqb-true (owner table u.key) n own
        | false ↦ λ _ later. owned_live table n us key later
      ] refl among
      | false ↦ λ _ among. owned_live table n us key among
    ] refl is

-- of a key whose rows are not on their way, nothing is due at a node, or its part of the updates
due_is : (table : Placement) (operation n : ℕ) (work : Work) (shut : Option _) (queued : Option _) (last : ℕ) (due : List Update) (key : Key) → IsFree work due key → Stands table operation work n shut queued last due
    → (is_among key (keys_of due) ≡ false) ⊎ ((us : List Update) × (due ≡ owned table n us))
due_is table operation n Rests shut queued last due key free stands = inl (ap (λ us. is_among key (keys_of us)) stands.0)
due_is table operation n (Walks lane) shut queued last due key free stands = inl (ap (λ us. is_among key (keys_of us)) stands.0)
due_is table operation n (Locks lane keys walks missing rows) shut queued last due key free stands = inl (ap (λ us. is_among key (keys_of us)) stands.0)
due_is table operation n (Counts lane keys walks missing rows dir updates sum) shut queued last due key free stands = inl (ap (λ us. is_among key (keys_of us)) stands.0)
due_is table operation n (Blocks lane name rule missing came) shut queued last due key free stands = inl free
due_is table operation n (Lands name rule old missing) shut queued last due key free stands = inl free
due_is table operation n (Ends keys updates missing) shut queued last due key free stands = ⊎_elim (λ x. inr (updates, x.0)) (λ x. inl (ap (λ us. is_among key (keys_of us)) x.0)) stands

-- a node's row stands under a key that lives there
own_key : (config : Config) (v : View) (n : ℕ) (key : Key) → Good config v → IsSome (row_at (v.rows n) key) → owner v.map.table key ≡ n
own_key config v n key g is =
    elim (is_among key (keys_of (v.op.due n))) as (λ b. is_among key (keys_of (v.op.due n)) ≡ b → owner v.map.table key ≡ n) [
      | true ↦ λ among. ⊎_elim {C = owner v.map.table key ≡ n}
          (λ none. absurd (cc))
          (λ some. owned_live v.map.table n some.0 key (subst (λ us. is_among key (keys_of us) ≡ true) some.1 among))
          due
      | false ↦ λ off. by_owner (subst (λ o. IsSome o) (sym (laid_off (v.op.due n) (v.rows n) key off) ∙ g.ground.rows n key) is)
    ] refl
  where
    -- a row stands there, so that its name is not blocked
    due : (is_among key (keys_of (v.op.due n)) ≡ false) ⊎ ((us : List Update) × (v.op.due n ≡ owned v.map.table n us))
    due = ⊎_elim
        (λ below. due_is v.map.table v.op.operation n v.op.work (v.op.shut n) (v.op.queued n) (v.op.last n) (v.op.due n) key
        (due_free v.map.table v.op.operation n v.op.work (v.map.tables n) (v.map.barred n) (v.op.queued n) (v.op.last n) v.op.due key (g.bars.stands n below) g.bars.named (λ barred. let wrong : false ≡ true = sym (ap is_some (g.bars.gone n key barred)) ∙ is in absurd (cc)))
        (g.operation.stands n below))
        (λ past. inl (ap (λ us. is_among key (keys_of us)) (g.ground.absent n past).0))
        (below_or_past n config.nodes)

    by_owner : IsSome (row_of v.map.table (now v) n key) → owner v.map.table key ≡ n
    by_owner some =
        elim (owner v.map.table key == n) as (λ b. (owner v.map.table key == n) ≡ b → IsSome (cond b (row_at (now v) key) None) → owner v.map.table key ≡ n) [
          | true ↦ λ own _. eqb-true (owner v.map.table key) n own
          | false ↦ λ _ none. absurd (cc)
        ] refl some

-- so after a legal run no two nodes have a row under the same key
pub rows_once : (config : Config) (events : List Event) (w : World) → IsLegal config events → run config events ≡ Some w → AreOnce w
rows_once config events w legal at a b key here there =
    let k = legal_kept config events w legal at in
    sym (own_key config (view_of config w k.ghost) a key k.shows.good here) ∙ own_key config (view_of config w k.ghost) b key k.shows.good there
