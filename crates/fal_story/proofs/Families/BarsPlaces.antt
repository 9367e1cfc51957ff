-- The steps of a place in its own family: it starts, a Block comes, rows are given away and heard of, the name is placed, rows are taken and this is heard of.
use Rattle.std.proofs.Common.{◌≡◌, ◌≢◌, ◌⊎◌, inl, inr, ⊎_elim, ℕ, ◌<◌, ◌≤◌, ◌+◌, Bool, true, false, cond, ◌||◌, List, [], ◌∷◌, ◌++◌, Option, Some, None, refl, sym, ap, ◌∙◌, subst, arith}
use Rattle.fal_base.specs.declared.event.Actor.{Actor}
use Rattle.fal_base.specs.declared.key.Key.{Key}
use Rattle.fal_base.specs.declared.row.NamedRow.{NamedRow}
use Rattle.fal_base.specs.declared.row.Update.{Update}
use Rattle.fal_base.specs.declared.rule.Rule.{Rule}
use Rattle.fal_base.specs.Commits.{Commit}
use Rattle.fal_base.proofs.Maps.{same_key_is}
use Rattle.fal_base.specs.Tree.{Tree, key_of, row_at, same_key, with_row}
use Rattle.fal_dentry.specs.Walk.{is_among}
use Rattle.fal_run.specs.declared.call.BatchCall.{BatchCall}
use Rattle.fal_place.specs.Placement.{Placement, owner, with_rule}
use Rattle.fal_wire.specs.declared.message.Message.{Message}
use Rattle.fal_wire.specs.declared.message.Message.TheVariants as message
use Rattle.fal_base.specs.Updates.{laid, laid_at, keys_of}
use Rattle.fal_base.proofs.Updates.{laid_cases, laid_off, laid_same}
use Rattle.fal_duty.specs.Duties.{owned}
use Rattle.fal_coord.specs.Nodes.{numbers_below, without_node}
use Rattle.fal_story.proofs.Lists.Grown.{put_all, put_both, tells, unequal}
use Rattle.fal_story.proofs.View.{Post, Work, Rests, Blocks, Lands}
use Rattle.fal_story.proofs.Trees.Standing.{row_of, tree_now}
use Rattle.fal_story.specs.World.{put}
use Rattle.fal_story.proofs.Families.Barring.{told_started, put_three, at_work}
use Rattle.fal_story.proofs.Families.Bars.{IsBarred, barred_by, Bar, AreNamed, IsStill, IsToldBar, Bars}
use Rattle.fal_inode.specs.Named.{puts}
use Rattle.fal_story.proofs.Trees.Laid.{owned_among}
use Rattle.fal_story.proofs.Families.Operation.{IsMissing, among_below}
use Rattle.fal_story.proofs.Phase.{Phase, Plans}
use Rattle.fal_story.proofs.Families.GroundPlaces.{IsTakenOut, IsWhole}
use Rattle.fal_story.proofs.Families.Stages.{still_missing, was_missing, not_missing}

-- ---- lists of puts

pub laid_more : (us more : List Update) (t : Tree) → laid (us ++ more) t ≡ laid more (laid us t)
laid_more [] more t = refl
laid_more (u ∷ us) more t = laid_more us more (laid_at t u.key u.row)

or_else : (a b c : Bool) → (b ≡ true → (c ≡ true)) → (a || b) ≡ true → (a ≡ true) ⊎ (c ≡ true)
or_else true b c f is = inl refl
or_else false b c f is = inr (f is)

among_both : (key : Key) (us more : List Update) → is_among key (keys_of (us ++ more)) ≡ true → (is_among key (keys_of us) ≡ true) ⊎ (is_among key (keys_of more) ≡ true)
among_both key [] more is = inr is
among_both key (u ∷ us) more is =
    elim (same_key u.key key) as (λ b. (b || is_among key (keys_of (us ++ more))) ≡ true → ((b || is_among key (keys_of us)) ≡ true) ⊎ (is_among key (keys_of more) ≡ true)) [
      | true ↦ λ _. inl refl
      | false ↦ λ is. among_both key us more is
    ] is

apart_key : (k key : Key) → key ≢ k → same_key k key ≡ false
apart_key k key other = elim (same_key k key) as (λ b. same_key k key ≡ b → b ≡ false) [ true ↦ λ e. absurd (other (sym ((same_key_is k key).0 e))) | false ↦ λ e. refl ] refl

-- where puts leave nothing, none was put
pub puts_off : (name : List ℕ) (rows : List NamedRow) (t : Tree) (key : Key) → row_at (laid (puts name rows) t) key ≡ None → is_among key (keys_of (puts name rows)) ≡ false
puts_off name [] t key none = refl
puts_off name (r ∷ rows) t key none =
    let k = key_of r.parent name in
    let rest = puts_off name rows (with_row t k r.inode) key none in
    let there : row_at (laid_at t k (Some r.inode)) key ≡ None = sym (laid_off (puts name rows) (laid_at t k (Some r.inode)) key rest) ∙ none in
    ⊎_elim
    (λ x. let wrong : Some r.inode ≡ None = sym x.1 ∙ there in absurd (cc))
    (λ x. ap (λ b. b || is_among key (keys_of (puts name rows))) (apart_key k key x.0) ∙ rest)
    (laid_cases t k key (Some r.inode))

module _ {nodes : ℕ} {table : Placement} {tables : ℕ → Placement} {barred : ℕ → Option (ℕ × List ℕ)} {rows : ℕ → Tree} {due : ℕ → List Update} {queued : ℕ → Option Message} {last : ℕ → ℕ} {operation : ℕ} {work : Work}
    {posts : List Post} {commits : List Commit} {phase : ℕ → Phase} (g : Bars nodes table tables barred rows due queued last operation work posts commits phase) where
  -- a place starts: each node is to give its rows of the name away
  pub bars_placing : (l : ℕ) (name : List ℕ) (rule : Rule) → work ≡ Rests → ((n : ℕ) → due n ≡ []) → ((n : ℕ) → n < nodes → (queued n ≡ None) × (last n ≤ operation)) → ((key : Key) → owner table key < nodes)
      → Bars nodes table tables barred rows due queued last (operation + 1) (Blocks l name rule (numbers_below nodes) []) posts commits phase
  bars_placing l name rule rests none still lives = let h = at_work g Rests rests in record {
    stands = λ n below. let x = h.stands n below in let past = (still n below).1 in (x.0, inl (among_below nodes n below, x.1, none n, inl ((still n below).0, omega arith)));
    beyond = g.beyond;
    grown = tt;
    gone = g.gone;
    named = λ n key is. let no : is_among key [] ≡ true = ap (λ us. is_among key (keys_of us)) (sym (none n)) ∙ is in absurd (cc);
    came = (λ key is. absurd (cc), λ key _. inl (among_below nodes (owner table key) (lives key), refl));
    told = λ e p to m posted. told_started nodes table operation Rests (Blocks l name rule (numbers_below nodes) []) barred due due last last (λ n. omega arith) tt to m (h.told e p to m posted);
    clear = g.clear;
  }

  -- a Block comes to a node: it is its next item
  pub bars_queued : (n l : ℕ) (name : List ℕ) (rule : Rule) (missing : List ℕ) (came : List Update) → work ≡ Blocks l name rule missing came → last n < operation
      → Bars nodes table tables barred rows due (put queued n (Some (message.Block operation name))) (put last n operation) operation work posts commits phase
  bars_queued n l name rule missing came is newer = let h = at_work g (Blocks l name rule missing came) is in record {
    stands = subst (λ w. (m : ℕ) → m < nodes → Bar table operation w m (tables m) (barred m) (put queued n (Some (message.Block operation name)) m) (put last n operation m) (due m)) (sym is)
        (put_both (λ m q z. m < nodes → Bar table operation (Blocks l name rule missing came) m (tables m) (barred m) q z (due m)) queued last n (Some (message.Block operation name)) operation
        (λ below. let x = h.stands n below in (x.0, ⊎_elim (λ y. inl (y.0, y.1, y.2, inr (refl, refl))) (λ y. let same = y.1.1 in absurd (omega arith)) x.1))
        (λ m _. h.stands m));
    beyond = g.beyond;
    grown = g.grown;
    gone = g.gone;
    named = g.named;
    came = g.came;
    told = λ e p to m posted. told_last to m (g.told e p to m posted);
    clear = g.clear;
  }
    where
      told_last : (to : Actor) (m : Message) → IsToldBar nodes table operation work barred due last to m → IsToldBar nodes table operation work barred due (put last n operation) to m
      told_last to (message.Block o asked) told = (told.0, told.1, told.2, ⊎_elim (λ x. inl (put_all (λ m z. o ≤ last m → o ≤ z) last n operation (λ y. omega arith) (λ m _ y. y) told.0 x)) (λ x. inr x) told.3)
      told_last to (message.Blocked o m given) told = told
      told_last to (message.Install o version asked given) told = told
      told_last to (message.Installed o m) told = told
      told_last to other told = tt

  -- a node gives its rows of the name away
  pub bars_blocked : (n l : ℕ) (name : List ℕ) (rule : Rule) (missing : List ℕ) (came : List Update) (left : Tree) (given : List Update) → work ≡ Blocks l name rule missing came → n < nodes → queued n ≡ Some (message.Block operation name)
      → IsTakenOut name (rows n) left given → ((a : ℕ) (x : BatchCall) → phase a ≡ Plans n x → x.denied ≡ false → x.last.name ≢ name)
      → Bars nodes table tables (put barred n (barred_by operation name)) (put rows n left) (put due n given) (put queued n None) last operation work posts commits phase
  bars_blocked n l name rule missing came left given is below item taken off =
      let W = Blocks l name rule missing came in
      let h = at_work g W is in
      let here = h.stands n below in
      let waits : (barred n ≡ None) × (last n ≡ operation) = ⊎_elim (λ y. ⊎_elim (λ z. let none = z.0 in absurd (cc)) (λ z. (y.1, z.1)) y.3) (λ y. let none = y.1.0 in absurd (cc)) here.1 in
      record {
        stands = subst (λ w. (m : ℕ) → m < nodes → Bar table operation w m (tables m) (put barred n (barred_by operation name) m) (put queued n None m) (last m) (put due n given m)) (sym is)
            (put_three (λ m b q us. m < nodes → Bar table operation W m (tables m) b q (last m) us) barred queued due n (barred_by operation name) None given
            (λ _. (here.0, inr (refl, (refl, waits.1)))) (λ m _. h.stands m));
        beyond = put_all (λ m b. nodes ≤ m → b ≡ None) barred n (barred_by operation name) (λ past. absurd (omega arith)) (λ m _. g.beyond m);
        grown = g.grown;
        gone = put_both (λ m b r. (key : Key) → IsBarred b key.name → row_at r key ≡ None) barred rows n (barred_by operation name) left (λ key e. taken.gone key (sym e)) (λ m _. g.gone m);
        named = subst (λ w. AreNamed (put due n given) w) (sym is) (put_all (λ m us. (key : Key) → is_among key (keys_of us) ≡ true → key.name ≡ name) due n given taken.named (λ m _. h.named m));
        came = g.came;
        told = λ e p to m posted. subst (λ w. IsToldBar nodes table operation w (put barred n (barred_by operation name)) (put due n given) last to m) (sym is) (told_more waits.0 to m (h.told e p to m posted));
        clear = λ a m x e ready. put_all (λ m b. phase a ≡ Plans m x → IsBarred b x.last.name → ⊥) barred n (barred_by operation name) (λ at same. off a x at ready (sym same)) (λ m _ at. g.clear a m x at ready) m e;
      }
    where
      told_more : barred n ≡ None → (to : Actor) (m : Message) → IsToldBar nodes table operation (Blocks l name rule missing came) barred due last to m
          → IsToldBar nodes table operation (Blocks l name rule missing came) (put barred n (barred_by operation name)) (put due n given) last to m
      told_more none to (message.Block o asked) told = told
      told_more none to (message.Blocked o k sent) told = (
        told.0,
        λ same.
            put_both (λ k b us. (barred k ≡ barred_by operation name) × (due k ≡ puts name sent) → (b ≡ barred_by operation name) × (us ≡ puts name sent)) barred due n (barred_by operation name) given
            (λ x. let no = x.0 in absurd (cc)) (λ k _ x. x) k (told.1 same),
      )
      told_more none to (message.Install o version asked sent) told = (told.0, told.1, told.2, told.3, λ same. absurd (told.4 same))
      told_more none to (message.Installed o k) told = (told.0, λ same. absurd (told.1 same))
      told_more none to other told = tt

  -- the coordinator hears which rows a node gave away
  pub bars_heard : (n l : ℕ) (name : List ℕ) (rule : Rule) (missing : List ℕ) (came : List Update) (sent : List NamedRow) → work ≡ Blocks l name rule missing came → IsMissing n missing → barred n ≡ barred_by operation name → due n ≡ puts name sent
      → ((key : Key) → row_at (laid (due n) (rows n)) key ≡ row_of table (tree_now commits) n key)
      → Bars nodes table tables barred rows due queued last operation (Blocks l name rule (without_node n missing) (came ++ due n)) posts commits phase
  bars_heard n l name rule missing came sent is gone has told has_rows = let h = at_work g (Blocks l name rule missing came) is in
      let bare : (key : Key) → key.name ≡ name → row_at (rows n) key ≡ None = λ key named. g.gone n key (subst (λ b. IsBarred b key.name) (sym has) (sym named)) in
      record {
        stands = λ m below. let x = h.stands m below in (
          x.0,
          ⊎_elim
              (λ y. ⊎_elim (λ same. let b = ap barred same.1 in let none = y.1 in absurd (cc)) (λ apart. inl (still_missing n m missing apart.1 y.0, y.1, y.2, y.3)) (tells m n))
              (λ y. inr y)
              x.1,
        );
        beyond = g.beyond;
        grown = tt;
        gone = g.gone;
        named = h.named;
        came = (
          λ key among. ⊎_elim (λ x. h.came.0 key x) (λ x. h.named n key x) (among_both key came (due n) among),
          λ key named. ⊎_elim
              (λ y.
              let as_laid : row_at (laid (came ++ due n) []) key ≡ row_of table (tree_now commits) n key = ap (λ t. row_at t key) (laid_more came (due n) []) ∙ laid_same (due n) (laid came []) (rows n) key (y.1 ∙ sym (bare key named)) ∙ has_rows key in
              ⊎_elim
              (λ same. inr ((λ z. not_missing n missing (subst (λ m. IsMissing m (without_node n missing)) same.1 z)), as_laid ∙ ap (λ b. cond b (row_at (tree_now commits) key) None) same.0))
              (λ apart. inl (still_missing n (owner table key) missing apart.1 y.0, as_laid ∙ ap (λ b. cond b (row_at (tree_now commits) key) None) apart.0))
              (tells (owner table key) n))
              (λ y. inr (
                (λ z. y.0 (was_missing n (owner table key) missing z)),
                (let other : owner table key ≢ n = λ same. y.0 (subst (λ m. IsMissing m missing) (sym same) gone) in
                    let none : row_at (laid (puts name sent) (rows n)) key ≡ None = ap (λ us. row_at (laid us (rows n)) key) (sym told) ∙ has_rows key ∙ ap (λ b. cond b (row_at (tree_now commits) key) None) (unequal _ _ other) in
                    ap (λ t. row_at t key) (laid_more came (due n) []) ∙ ap (λ us. row_at (laid us (laid came [])) key) told ∙ laid_off (puts name sent) (laid came []) key (puts_off name sent (rows n) key none) ∙ y.1),
              ))
              (h.came.1 key named),
        );
        told = λ e p to m posted. told_on to m (h.told e p to m posted);
        clear = g.clear;
      }
    where
      told_on : (to : Actor) (m : Message) → IsToldBar nodes table operation (Blocks l name rule missing came) barred due last to m → IsToldBar nodes table operation (Blocks l name rule (without_node n missing) (came ++ due n)) barred due last to m
      told_on to (message.Block o asked) told = told
      told_on to (message.Blocked o k given) told = told
      told_on to (message.Install o version asked given) told = told
      told_on to (message.Installed o k) told = told
      told_on to other told = tt

  -- when each node was heard, the rows that came are the tree's of the name
  pub came_whole : (l : ℕ) (name : List ℕ) (rule : Rule) (came : List Update) → work ≡ Blocks l name rule [] came → IsWhole name (tree_now commits) came
  came_whole l name rule came is = let h = at_work g (Blocks l name rule [] came) is in record {
    named = h.came.0;
    whole = λ key named. ⊎_elim (λ y. let no = y.0 in absurd (cc)) (λ y. y.1) (h.came.1 key named);
  }

  pub all_barred : (l : ℕ) (name : List ℕ) (rule : Rule) (came : List Update) → work ≡ Blocks l name rule [] came → (n : ℕ) → n < nodes → (tables n ≡ table) × (barred n ≡ barred_by operation name) × IsStill operation (queued n) (last n)
  all_barred l name rule came is n below = let x = (at_work g (Blocks l name rule [] came) is).stands n below in ⊎_elim (λ y. let no = y.0 in absurd (cc)) (λ y. (x.0, y.0, y.1)) x.1

  -- the name is placed
  pub bars_placed : (l : ℕ) (name : List ℕ) (rule : Rule) (came kept : List Update) → work ≡ Blocks l name rule [] came → ((key : Key) → is_among key (keys_of kept) ≡ true → key.name ≡ name)
      → Bars nodes (with_rule table name rule) tables barred rows (λ n. owned (with_rule table name rule) n kept) queued last operation (Lands name rule table (numbers_below nodes)) posts commits phase
  bars_placed l name rule came kept is named = let h = at_work g (Blocks l name rule [] came) is in record {
    stands = λ n below. let x = all_barred l name rule came is n below in inl (among_below nodes n below, x.0, x.1, x.2);
    beyond = g.beyond;
    grown = refl;
    gone = g.gone;
    named = λ n key among. named key (owned_among (with_rule table name rule) n kept key among);
    came = tt;
    told = λ e p to m posted. told_placed to m (h.told e p to m posted);
    clear = g.clear;
  }
    where
      told_placed : (to : Actor) (m : Message) → IsToldBar nodes table operation (Blocks l name rule [] came) barred due last to m
          → IsToldBar nodes (with_rule table name rule) operation (Lands name rule table (numbers_below nodes)) barred (λ n. owned (with_rule table name rule) n kept) last to m
      told_placed to (message.Block o asked) told = (told.0, told.1, told.2, inl (⊎_elim (λ x. x) (λ x. let same = (all_barred l name rule came is told.0 told.2).2.1 in let o_is = x.0 in omega arith) told.3))
      told_placed to (message.Blocked o k given) told = (told.0, λ same. tt)
      told_placed to (message.Install o version asked given) told = (told.0, told.1, told.2, told.3, λ same. absurd (told.4 same))
      told_placed to (message.Installed o k) told = (told.0, λ same. absurd (told.1 same))
      told_placed to other told = tt

  -- a node takes its rows, and the new table
  pub bars_installed : (n : ℕ) (name : List ℕ) (rule : Rule) (old : Placement) (missing : List ℕ) (left : Tree) → work ≡ Lands name rule old missing → barred n ≡ barred_by operation name
      → Bars nodes table (put tables n table) (put barred n None) (put rows n left) (put due n []) queued last operation work posts commits phase
  bars_installed n name rule old missing left is has = let h = at_work g (Lands name rule old missing) is in record {
    stands = subst (λ w. (m : ℕ) → m < nodes → Bar table operation w m (put tables n table m) (put barred n None m) (queued m) (last m) (put due n [] m)) (sym is)
        (put_three (λ m t b us. m < nodes → Bar table operation (Lands name rule old missing) m t b (queued m) (last m) us) tables barred due n table None []
        (λ below. inr (refl, refl, refl, ⊎_elim (λ y. y.3) (λ y. let no = y.1 in absurd (cc)) (h.stands n below))) (λ m _. h.stands m));
    beyond = put_all (λ m b. nodes ≤ m → b ≡ None) barred n None (λ _. refl) (λ m _. g.beyond m);
    grown = g.grown;
    gone = put_both (λ m b r. (key : Key) → IsBarred b key.name → row_at r key ≡ None) barred rows n None left (λ key e. absurd e) (λ m _. g.gone m);
    named = subst (λ w. AreNamed (put due n []) w) (sym is) (put_all (λ m us. (key : Key) → is_among key (keys_of us) ≡ true → key.name ≡ name) due n [] (λ key e. absurd (cc)) (λ m _. h.named m));
    came = g.came;
    told = λ e p to m posted. subst (λ w. IsToldBar nodes table operation w (put barred n None) (put due n []) last to m) (sym is) (told_open to m (h.told e p to m posted));
    clear = λ a m x e ready. put_all (λ m b. phase a ≡ Plans m x → IsBarred b x.last.name → ⊥) barred n None (λ _ no. no) (λ m _ at. g.clear a m x at ready) m e;
  }
    where
      told_open : (to : Actor) (m : Message) → IsToldBar nodes table operation (Lands name rule old missing) barred due last to m → IsToldBar nodes table operation (Lands name rule old missing) (put barred n None) (put due n []) last to m
      told_open to (message.Block o asked) told = told
      told_open to (message.Blocked o k given) told = (told.0, λ same. tt)
      told_open to (message.Install o version asked given) told = (
        told.0,
        told.1,
        told.2,
        told.3,
        λ same. let x = told.4 same in (
          x.0,
          x.1,
          put_both (λ k b us. (barred k ≡ None) ⊎ (due k ≡ puts name given) → (b ≡ None) ⊎ (us ≡ puts name given)) barred due n None [] (λ _. inl refl) (λ k _ y. y) told.0 x.2,
        ),
      )
      told_open to (message.Installed o k) told = (told.0, λ same. put_all (λ k b. barred k ≡ None → b ≡ None) barred n None (λ _. refl) (λ k _ y. y) k (told.1 same))
      told_open to other told = tt

  -- the coordinator hears that a node has
  pub bars_done : (n : ℕ) (name : List ℕ) (rule : Rule) (old : Placement) (missing : List ℕ) → work ≡ Lands name rule old missing → barred n ≡ None
      → Bars nodes table tables barred rows due queued last operation (Lands name rule old (without_node n missing)) posts commits phase
  bars_done n name rule old missing is laid_now = let h = at_work g (Lands name rule old missing) is in record {
    stands = λ m below. ⊎_elim
        (λ y. ⊎_elim (λ same. let b = ap barred same.1 in let has = y.2 in absurd (cc)) (λ apart. inl (still_missing n m missing apart.1 y.0, y.1, y.2, y.3)) (tells m n))
        (λ y. inr y)
        (h.stands m below);
    beyond = g.beyond;
    grown = h.grown;
    gone = g.gone;
    named = h.named;
    came = tt;
    told = λ e p to m posted. told_on to m (h.told e p to m posted);
    clear = g.clear;
  }
    where
      told_on : (to : Actor) (m : Message) → IsToldBar nodes table operation (Lands name rule old missing) barred due last to m → IsToldBar nodes table operation (Lands name rule old (without_node n missing)) barred due last to m
      told_on to (message.Block o asked) told = told
      told_on to (message.Blocked o k given) told = told
      told_on to (message.Install o version asked given) told = told
      told_on to (message.Installed o k) told = told
      told_on to other told = tt

  -- each node has
  pub all_landed : (name : List ℕ) (rule : Rule) (old : Placement) → work ≡ Lands name rule old [] → (n : ℕ) → n < nodes → (tables n ≡ table) × (barred n ≡ None) × (due n ≡ []) × IsStill operation (queued n) (last n)
  all_landed name rule old is n below = ⊎_elim (λ y. let no = y.0 in absurd (cc)) (λ y. y) ((at_work g (Lands name rule old []) is).stands n below)

  pub bars_rested : (name : List ℕ) (rule : Rule) (old : Placement) → work ≡ Lands name rule old [] → Bars nodes table tables barred rows due queued last operation Rests posts commits phase
  bars_rested name rule old is = let h = at_work g (Lands name rule old []) is in record {
    stands = λ n below. let x = all_landed name rule old is n below in (x.0, x.1);
    beyond = g.beyond;
    grown = tt;
    gone = g.gone;
    named = tt;
    came = tt;
    told = λ e p to m posted. told_rests to m (h.told e p to m posted);
    clear = g.clear;
  }
    where
      told_rests : (to : Actor) (m : Message) → IsToldBar nodes table operation (Lands name rule old []) barred due last to m → IsToldBar nodes table operation Rests barred due last to m
      told_rests to (message.Block o asked) told = (told.0, told.1, told.2, ⊎_elim (λ x. inl x) (λ x. absurd x.1) told.3)
      told_rests to (message.Blocked o k given) told = (told.0, λ same. tt)
      told_rests to (message.Install o version asked given) told = (told.0, told.1, told.2, told.3, λ same. tt)
      told_rests to (message.Installed o k) told = (told.0, λ same. tt)
      told_rests to other told = tt
