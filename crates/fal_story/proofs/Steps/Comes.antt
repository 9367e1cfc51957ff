-- What the records of a place tell when they come, and who owns a key by a node's own table.
use Rattle.std.proofs.Common.{◌≡◌, ◌≢◌, ⊎_elim, ℕ, ◌<◌, List, [], ◌∷◌, ◌++◌, Option, Some, None, refl, sym, ap, ◌∙◌, subst, arith, false}
use Rattle.fal_base.specs.declared.call.Config.{Config}
use Rattle.fal_base.specs.declared.event.Actor.{Actor}
use Rattle.fal_base.specs.declared.event.Actor.TheVariants.{Node}
use Rattle.fal_base.specs.declared.key.Key.{Key}
use Rattle.fal_base.specs.declared.row.NamedRow.{NamedRow}
use Rattle.fal_base.specs.declared.row.Update.{Update}
use Rattle.fal_base.specs.declared.rule.Rule.{Rule}
use Rattle.fal_base.specs.Tree.{Tree}
use Rattle.fal_run.specs.declared.call.BatchCall.{BatchCall}
use Rattle.fal_place.specs.Placement.{Placement, owner, with_rule}
use Rattle.fal_wire.specs.declared.message.Message.{Message}
use Rattle.fal_wire.specs.declared.message.Message.TheVariants as message
use Rattle.fal_place.proofs.Tables.{owner_other}
use Rattle.fal_story.proofs.Lists.Grown.{put_same}
use Rattle.fal_story.proofs.View.{IsPosted, post, View, Work, Blocks, Lands}
use Rattle.fal_story.specs.World.{put}
use Rattle.fal_story.proofs.Families.Bars.{Bar, BlocksName, IsBarred, IsGrown, ToldBlocked, ToldInstall, ToldInstalled, barred_by}
use Rattle.fal_inode.specs.Named.{puts}
use Rattle.fal_story.proofs.Good.{Good}
use Rattle.fal_story.proofs.Phase.{Plans}
use Rattle.fal_story.proofs.Steps.Placed.{blocked_good}
use Rattle.fal_story.proofs.Families.GroundPlaces.{IsTakenOut}
use Rattle.fal_story.proofs.Steps.Posted.{posted_good}

-- ---- the owner by a node's own table

owner_at : (table : Placement) (operation n : ℕ) (work : Work) (own : Placement) (barred : Option (ℕ × List ℕ)) (queued : Option Message) (last : ℕ) (due : List Update) (key : Key) → Bar table operation work n own barred queued last due → IsGrown table work
    → (IsBarred barred key.name → ⊥) → owner own key ≡ owner table key
owner_at table operation n (Blocks lane name rule missing came) own barred queued last due key bar grown open' = ap (λ t. owner t key) bar.0
owner_at table operation n (Lands name rule old missing) own barred queued last due key bar grown open' = ⊎_elim
    (λ x. ap (λ t. owner t key) x.1 ∙ sym (owner_other old name rule key (λ same. open' (subst (λ b. IsBarred b key.name) (sym x.2) (sym same)))) ∙ ap (λ t. owner t key) (sym grown))
    (λ x. ap (λ t. owner t key) x.0)
    bar
owner_at table operation n other own barred queued last due key bar grown open' = ap (λ t. owner t key) bar.0

-- where a key's name is not barred at a node, the node's own table and the recorded one give it one owner
pub same_owner : (config : Config) (v : View) (n : ℕ) (key : Key) → n < config.nodes → (IsBarred (v.map.barred n) key.name → ⊥) → Good config v → owner (v.map.tables n) key ≡ owner v.map.table key
same_owner config v n key below open' g = owner_at v.map.table v.op.operation n v.op.work (v.map.tables n) (v.map.barred n) (v.op.queued n) (v.op.last n) (v.op.due n) key (g.bars.stands n below) g.bars.grown open'

-- the nodes do not take another table
abbrev pub IsSettled : Work → Type 0
IsSettled (Lands name rule old missing) = ⊥
IsSettled other = Unit {0}

settled_at : (table : Placement) (operation n : ℕ) (work : Work) (own : Placement) (barred : Option (ℕ × List ℕ)) (queued : Option Message) (last : ℕ) (due : List Update) → IsSettled work → Bar table operation work n own barred queued last due → own ≡ table
settled_at table operation n (Blocks lane name rule missing came) own barred queued last due settled bar = bar.0
settled_at table operation n (Lands name rule old missing) own barred queued last due settled bar = absurd settled
settled_at table operation n other own barred queued last due settled bar = bar.0

-- then a node's own table is the recorded one
pub settled_table : (config : Config) (v : View) (n : ℕ) {work : Work} → v.op.work ≡ work → IsSettled work → n < config.nodes → Good config v → v.map.tables n ≡ v.map.table
settled_table config v n is settled below g =
    settled_at v.map.table v.op.operation n v.op.work (v.map.tables n) (v.map.barred n) (v.op.queued n) (v.op.last n) (v.op.due n) (subst IsSettled (sym is) settled) (g.bars.stands n below)

same_node : (a b : ℕ) → Node a ≡ Node b → a ≡ b
same_node a b e = cc

-- ---- Block

-- the operation places this name, and its nodes give their rows away
pub record IsBlocking (work : Work) (name : List ℕ) : Type 0 where
  pub lane : ℕ
  pub rule : Rule
  pub missing : List ℕ
  pub came : List Update
  pub is : work ≡ Blocks lane name rule missing came

blocks_name : (work : Work) (name : List ℕ) → BlocksName work name → IsBlocking work name
blocks_name (Blocks lane own rule missing came) name same = record { lane = lane; rule = rule; missing = missing; came = came; is = ap (λ x. Blocks lane x rule missing came) same }
blocks_name other name same = absurd same

-- one that is newer than all that the node has heard of is the operation's
pub block_comes : (config : Config) (v : View) (e p n o : ℕ) (name : List ℕ) → IsPosted v.posts e (Node n) p (message.Block o name) → v.op.last n < o → Good config v → (n < config.nodes) × (o ≡ v.op.operation) × IsBlocking v.op.work name
block_comes config v e p n o name posted newer g =
    let told = g.bars.told e p (Node n) (message.Block o name) posted in
    let same = same_node n told.0 told.1 in
    let under = told.2 in
    let at_last = ap v.op.last same in
    ⊎_elim {C = (n < config.nodes) × (o ≡ v.op.operation) × IsBlocking v.op.work name} (λ old. absurd (omega arith)) (λ x. (omega arith, x.0, blocks_name v.op.work name x.1)) told.3

-- ---- Blocked: of this operation, it tells just what the node gave away

pub blocked_comes : (config : Config) (v : View) (e p n l : ℕ) (to : Actor) (name : List ℕ) (rule : Rule) (missing : List ℕ) (came : List Update) (sent : List NamedRow) → v.op.work ≡ Blocks l name rule missing came
    → IsPosted v.posts e to p (message.Blocked v.op.operation n sent) → Good config v → (v.map.barred n ≡ barred_by v.op.operation name) × (v.op.due n ≡ puts name sent)
blocked_comes config v e p n l to name rule missing came sent is posted g =
    subst (λ w. ToldBlocked v.op.operation w (v.map.barred n) (v.op.due n) sent) is ((g.bars.told e p to (message.Blocked v.op.operation n sent) posted).1 refl)

-- ---- Install, at a node that has the name of this operation barred

-- the name is placed, and the record has its rule, its table's version, and the rows that are due to the node, whose own table is the one before
pub record IsLanding (v : View) (n : ℕ) (o version : ℕ) (name : List ℕ) (rule : Rule) (sent : List NamedRow) : Type 0 where
  pub old : Placement
  pub missing : List ℕ
  pub number : o ≡ v.op.operation
  pub is : v.op.work ≡ Lands name rule old missing
  pub version_is : version ≡ v.map.table.version
  pub table_is : v.map.table ≡ with_rule (v.map.tables n) name rule
  pub rows : v.op.due n ≡ puts name sent

some_pair : (x y : ℕ × List ℕ) → Some x ≡ Some y → x ≡ y
some_pair x y e = cc

same_bar : (o operation : ℕ) (a b : List ℕ) → barred_by o a ≡ barred_by operation b → (o ≡ operation) × (a ≡ b)
same_bar o operation a b e = let p = some_pair (o, a) (operation, b) e in (ap (λ (z : ℕ × List ℕ). z.0) p, ap (λ (z : ℕ × List ℕ). z.1) p)

install_at : (config : Config) (v : View) (n o version : ℕ) (name : List ℕ) (rule : Rule) (sent : List NamedRow) (work : Work) → v.op.work ≡ work → v.map.barred n ≡ barred_by o name
    → Bar v.map.table v.op.operation work n (v.map.tables n) (v.map.barred n) (v.op.queued n) (v.op.last n) (v.op.due n) → IsGrown v.map.table work → (o ≡ v.op.operation → ToldInstall v.map.table work (v.map.barred n) (v.op.due n) version rule sent) → IsLanding v n o version name rule sent
install_at config v n o version name rule sent (Blocks lane own asked missing came) is has bar grown told =
    absurd (⊎_elim (λ x. let none = x.1 in absurd (cc)) (λ x. told (same_bar o v.op.operation name own (sym has ∙ x.0)).0) bar.1)
install_at config v n o version name rule sent (Lands own asked old missing) is has bar grown told = ⊎_elim
    (λ x.
    let same = same_bar o v.op.operation name own (sym has ∙ x.2) in
    let tells = told same.0 in
    record {
      old = old;
      missing = missing;
      number = same.0;
      is = is ∙ (λ i. Lands (sym same.1 i) (sym tells.1 i) old missing);
      version_is = tells.0;
      table_is = grown ∙ (λ i. with_rule (sym x.1 i) (sym same.1 i) (sym tells.1 i));
      rows = ⊎_elim (λ none. absurd (cc)) (λ rows. rows ∙ ap (λ z. puts z sent) (sym same.1)) tells.2;
    })
    (λ x. let none = x.1 in absurd (cc))
    bar
install_at config v n o version name rule sent other is has bar grown told = let none = bar.1 in absurd (cc)

pub install_comes : (config : Config) (v : View) (e p n o version : ℕ) (name : List ℕ) (rule : Rule) (sent : List NamedRow) → IsPosted v.posts e (Node n) p (message.Install o version rule sent) → v.map.barred n ≡ barred_by o name → Good config v
    → IsLanding v n o version name rule sent
install_comes config v e p n o version name rule sent posted has g =
    let told = g.bars.told e p (Node n) (message.Install o version rule sent) posted in
    let same = same_node n told.0 told.1 in
    let below : n < config.nodes = subst (λ m. m < config.nodes) (sym same) told.2 in
    install_at config v n o version name rule sent v.op.work refl has (g.bars.stands n below) g.bars.grown (subst (λ m. o ≡ v.op.operation → ToldInstall v.map.table v.op.work (v.map.barred m) (v.op.due m) version rule sent) (sym same) told.4)

-- ---- Installed

pub installed_comes : (config : Config) (v : View) (e p n : ℕ) (to : Actor) (name : List ℕ) (rule : Rule) (old : Placement) (missing : List ℕ) → v.op.work ≡ Lands name rule old missing → IsPosted v.posts e to p (message.Installed v.op.operation n) → Good config v
    → v.map.barred n ≡ None
installed_comes config v e p n to name rule old missing is posted g = subst (λ w. ToldInstalled w (v.map.barred n)) is ((g.bars.told e p to (message.Installed v.op.operation n) posted).1 refl)

-- ---- a node serves its Block as one event: it gives its rows away, and tells them

pub served_block_good : (config : Config) (v : View) (n l point : ℕ) (name : List ℕ) (rule : Rule) (missing : List ℕ) (came : List Update) (left : Tree) (sent : List NamedRow) → v.op.work ≡ Blocks l name rule missing came → n < config.nodes
    → v.op.queued n ≡ Some (message.Block v.op.operation name) → IsTakenOut name (v.rows n) left (puts name sent) → ((a : ℕ) (x : BatchCall) → v.phase a ≡ Plans n x → x.denied ≡ false → x.last.name ≢ name) → Good config v
    → Good config (record v {
      rows = put v.rows n left;
      op = record v.op { due = put v.op.due n (puts name sent); queued = put v.op.queued n None };
      map = record v.map { barred = put v.map.barred n (barred_by v.op.operation name) };
      posts = v.posts ++ post (Node 255) point (message.Blocked v.op.operation n sent) ∷ [];
    })
served_block_good config v n l point name rule missing came left sent is below item taken off g =
    posted_good config
    (record v { rows = put v.rows n left; op = record v.op { due = put v.op.due n (puts name sent); queued = put v.op.queued n None }; map = record v.map { barred = put v.map.barred n (barred_by v.op.operation name) } })
    (Node 255) point (message.Blocked v.op.operation n sent)
    (record {
      asking = tt;
      records = (255, refl);
      operation = tt;
      knowing = tt;
      listings = tt;
      bars = (
        omega arith,
        λ _. subst (λ w. ToldBlocked v.op.operation w (put v.map.barred n (barred_by v.op.operation name) n) (put v.op.due n (puts name sent) n) sent) (sym is)
            (put_same v.map.barred n (barred_by v.op.operation name), put_same v.op.due n (puts name sent)),
      );
    })
    (blocked_good config v l name rule n missing came left (puts name sent) is below item taken off g)
