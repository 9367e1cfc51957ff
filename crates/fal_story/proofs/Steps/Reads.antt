-- Who reads a row of its own, under a key that it has not shut, or that it shuts just now, reads the tree's.
use Rattle.std.proofs.Common.{◌≡◌, ◌≢◌, ⊎_elim, ℕ, ◌<◌, Bool, true, false, cond, List, [], Option, None, refl, sym, ap, ◌∙◌, subst}
use Rattle.std.proofs.lemmas.Bool.{eq-eqb}
use Rattle.fal_base.specs.declared.call.Config.{Config}
use Rattle.fal_base.specs.declared.key.Key.{Key}
use Rattle.fal_base.specs.declared.row.Update.{Update}
use Rattle.fal_base.specs.Tree.{row_at}
use Rattle.fal_base.specs.Updates.{laid, keys_of}
use Rattle.fal_base.proofs.Updates.{laid_off}
use Rattle.fal_dentry.specs.Walk.{is_among}
use Rattle.fal_duty.specs.Duties.{rows_of}
use Rattle.fal_place.specs.Placement.{Placement, owner}
use Rattle.fal_wire.specs.declared.message.Message.{Message}
use Rattle.fal_locks.specs.declared.holder.Shut.{Shut}
use Rattle.fal_story.proofs.Families.Bars.{IsBarred, barred_by, Bar, AreNamed}
use Rattle.fal_story.proofs.Families.Clear.{IsShut}
use Rattle.fal_story.proofs.Families.Operation.{AreWithin, Stands}
use Rattle.fal_story.proofs.Families.OperationRows.{rows_same}
use Rattle.fal_story.proofs.Good.{Good}
use Rattle.fal_story.proofs.Trees.Laid.{owned_among}
use Rattle.fal_story.proofs.View.{View, Work, Rests, Walks, Locks, Counts, Ends, now, Blocks, Lands}

pub not_true : (b : Bool) → b ≢ true → b ≡ false
not_true true off = absurd (off refl)
not_true false off = refl

-- where a name is on its way, nothing of the key is due
abbrev pub IsFree : Work → List Update → Key → Type 0
IsFree (Blocks lane name rule missing came) due key = is_among key (keys_of due) ≡ false
IsFree (Lands name rule old missing) due key = is_among key (keys_of due) ≡ false
IsFree other due key = Unit {0}

off_name : (name : List ℕ) (operation : ℕ) (barred : Option (ℕ × List ℕ)) (due : List Update) (key : Key) → barred ≡ barred_by operation name → ((q : Key) → is_among q (keys_of due) ≡ true → q.name ≡ name) → (IsBarred barred key.name → ⊥)
    → is_among key (keys_of due) ≡ false
off_name name operation barred due key has named open' = not_true _ (λ among. open' (subst (λ b. IsBarred b key.name) (sym has) (sym (named key among))))

pub due_free : (table : Placement) (operation n : ℕ) (work : Work) (own : Placement) (barred : Option (ℕ × List ℕ)) (queued : Option Message) (last : ℕ) (due : ℕ → List Update) (key : Key) → Bar table operation work n own barred queued last (due n) → AreNamed due work
    → (IsBarred barred key.name → ⊥) → IsFree work (due n) key
due_free table operation n (Blocks lane name rule missing came) own barred queued last due key bar named open' =
    ⊎_elim (λ x. ap (λ us. is_among key (keys_of us)) x.2) (λ x. off_name name operation barred (due n) key x.0 (named n) open') bar.1
due_free table operation n (Lands name rule old missing) own barred queued last due key bar named open' =
    ⊎_elim (λ x. off_name name operation barred (due n) key x.2 (named n) open') (λ x. ap (λ us. is_among key (keys_of us)) x.2) bar
due_free table operation n other own barred queued last due key bar named open' = tt

-- nothing of the key is due there
due_off : (table : Placement) (operation n : ℕ) (work : Work) (shut : Option Shut) (queued : Option Message) (last : ℕ) (due : List Update) (key : Key) → AreWithin work → (IsShut shut key → ⊥) → IsFree work due key
    → Stands table operation work n shut queued last due → is_among key (keys_of due) ≡ false
due_off table operation n Rests shut queued last due key within off free stands = ap (λ us. is_among key (keys_of us)) stands.0
due_off table operation n (Walks lane) shut queued last due key within off free stands = ap (λ us. is_among key (keys_of us)) stands.0
due_off table operation n (Blocks lane name rule missing came) shut queued last due key within off free stands = free
due_off table operation n (Lands name rule old missing) shut queued last due key within off free stands = free
due_off table operation n (Locks lane keys walks missing rows) shut queued last due key within off free stands = ap (λ us. is_among key (keys_of us)) stands.0
due_off table operation n (Counts lane keys walks missing rows dir updates sum) shut queued last due key within off free stands = ap (λ us. is_among key (keys_of us)) stands.0
due_off table operation n (Ends keys updates missing) shut queued last due key within off free stands = ⊎_elim
    (λ x. ap (λ us. is_among key (keys_of us)) x.0 ∙ not_true _ (λ among. off (subst (λ s. IsShut s key) (sym x.2.0) (within key (owned_among table n updates key among)))))
    (λ x. ap (λ us. is_among key (keys_of us)) x.0)
    stands

pub none_due : (config : Config) (v : View) (n : ℕ) (key : Key) → n < config.nodes → (IsShut (v.op.shut n) key → ⊥) → (IsBarred (v.map.barred n) key.name → ⊥) → Good config v → is_among key (keys_of (v.op.due n)) ≡ false
none_due config v n key below off open' g = due_off v.map.table v.op.operation n v.op.work (v.op.shut n) (v.op.queued n) (v.op.last n) (v.op.due n) key g.operation.within off
    (due_free v.map.table v.op.operation n v.op.work (v.map.tables n) (v.map.barred n) (v.op.queued n) (v.op.last n) v.op.due key (g.bars.stands n below) g.bars.named open') (g.operation.stands n below)

pub read_row : (config : Config) (v : View) (n : ℕ) (key : Key) → n < config.nodes → owner v.map.table key ≡ n → (IsShut (v.op.shut n) key → ⊥) → (IsBarred (v.map.barred n) key.name → ⊥) → Good config v → row_at (v.rows n) key ≡ row_at (now v) key
read_row config v n key below own off open' g =
    sym (laid_off (v.op.due n) (v.rows n) key (none_due config v n key below off open' g)) ∙ g.ground.rows n key ∙ ap (λ b. cond b (row_at (now v) key) None) (eq-eqb _ _ own)

-- the rows that a node tells when it shuts keys, where nothing is due
pub read_locked : (config : Config) (v : View) (n : ℕ) (keys : List Key) → v.op.due n ≡ [] → Good config v → rows_of v.map.table (v.rows n) n keys ≡ rows_of v.map.table (now v) n keys
read_locked config v n keys none g = rows_same v.map.table (now v) (v.rows n) n keys (λ key among own.
    sym (ap (λ us. row_at (laid us (v.rows n)) key) none) ∙ g.ground.rows n key ∙ ap (λ b. cond b (row_at (now v) key) None) (eq-eqb _ _ own))
