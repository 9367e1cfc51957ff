-- Of rows with numbers that differ, what numbers they have after a change.
use Rattle.std.proofs.Common.{◌≡◌, ◌≢◌, ◌⊎◌, inl, inr, ⊎_elim, ℕ, Bool, true, false, not, ◌||◌, List, [], ◌∷◌, Option, Some, None, refl, sym, ap, ◌∙◌, subst}
use Rattle.std.specs.List.{list_any}
use Rattle.std.specs.Prelude.{◌==◌, IsTrue}
use Rattle.std.proofs.lemmas.Bool.{eq-eqb}
use Rattle.std.proofs.lemmas.Option.{same_Some}
use Rattle.fal_base.specs.declared.call.Cred.{Cred}
use Rattle.fal_base.specs.declared.inode.Inode.{Inode}
use Rattle.fal_base.specs.declared.inode.Kind.TheVariants.{Dir, File}
use Rattle.fal_base.specs.declared.key.Key.{Key}
use Rattle.fal_base.specs.declared.op.Op.{Op}
use Rattle.fal_base.specs.declared.op.Op.TheVariants as op
use Rattle.fal_base.specs.Change.{change, last_key_of, move, new_row, update}
use Rattle.fal_base.specs.Commits.{Commit, tree_after, HasNumber, AreLegal, AreLegalFrom}
use Rattle.fal_base.specs.Tree.{Tree, tree0, root_key, row_at, with_row, without_row}
use Rattle.fal_base.proofs.Maps.{put_cases, removed_cases}

abbrev IsEarlier : List ℕ → ℕ → Type 0
IsEarlier earlier n = (n ≡ 1) ⊎ (list_any (λ m. m == n) earlier ≡ true)

-- rows with one number stand under one key
abbrev pub DoNumbersDiffer : Tree → Type 0
DoNumbersDiffer t = (a b : Key) (x y : Inode) → row_at t a ≡ Some x → row_at t b ≡ Some y → x.ino ≡ y.ino → a ≡ b

pub record AreNumbered (t : Tree) (earlier : List ℕ) : Type 0 where
  pub some : (key : Key) (row : Inode) → row_at t key ≡ Some row → 0 ≢ row.ino
  -- the root's number, or that of an earlier commit
  pub given : (key : Key) (row : Inode) → row_at t key ≡ Some row → IsEarlier earlier row.ino
  pub differ : DoNumbersDiffer t

more_earlier : (earlier : List ℕ) (n m : ℕ) → IsEarlier earlier n → IsEarlier (m ∷ earlier) n
more_earlier earlier n m is = ⊎_elim (λ root. inl root) (λ e. inr (second (m == n) _ e)) is
  where
    second : (a b : Bool) → b ≡ true → (a || b) ≡ true
    second true b is = refl
    second false b is = is

-- one more number
more_numbered : (t : Tree) (earlier : List ℕ) (m : ℕ) → AreNumbered t earlier → AreNumbered t (m ∷ earlier)
more_numbered t earlier m x = record { some = x.some; given = λ key row there. more_earlier earlier row.ino m (x.given key row there); differ = x.differ }

not_new : (earlier : List ℕ) (n : ℕ) → 1 ≢ n → IsTrue (not (list_any (λ m. m == n) earlier)) → IsEarlier earlier n → ⊥
not_new earlier n root unused is = ⊎_elim (λ e. root (sym e)) (λ e. let wrong : not true ≡ true = ap not (sym e) ∙ unused in absurd (cc)) is

same_row : (x y : Inode) → Some x ≡ Some y → x.ino ≡ y.ino
same_row x y e = ap (λ (z : Inode). z.ino) (same_Some x y e)

-- a row with a new number
new_numbered : (t : Tree) (earlier : List ℕ) (key : Key) (inode : Inode) → 1 ≢ inode.ino → 0 ≢ inode.ino → IsTrue (not (list_any (λ m. m == inode.ino) earlier)) → AreNumbered t earlier → AreNumbered (with_row t key inode) (inode.ino ∷ earlier)
new_numbered t earlier key inode root zero unused x = record {
  some = λ q row there. ⊎_elim (λ y. subst (λ n. 0 ≢ n) (same_row inode row (sym y.1 ∙ there)) zero) (λ y. x.some q row (sym y.1 ∙ there)) (put_cases q key inode t);
  given = λ q row there. ⊎_elim
      (λ y. inr (ap (λ b. b || list_any (λ m. m == row.ino) earlier) (eq-eqb inode.ino row.ino (same_row inode row (sym y.1 ∙ there)))))
      (λ y. more_earlier earlier row.ino inode.ino (x.given q row (sym y.1 ∙ there)))
      (put_cases q key inode t);
  differ = λ a b r s here there same. ⊎_elim
      (λ y. ⊎_elim
      (λ z. y.0 ∙ sym z.0)
      (λ z. absurd (not_new earlier inode.ino root unused (subst (IsEarlier earlier) (sym same ∙ sym (same_row inode r (sym y.1 ∙ here))) (x.given b s (sym z.1 ∙ there)))))
      (put_cases b key inode t))
      (λ y. ⊎_elim
      (λ z. absurd (not_new earlier inode.ino root unused (subst (IsEarlier earlier) (same ∙ sym (same_row inode s (sym z.1 ∙ there))) (x.given a r (sym y.1 ∙ here)))))
      (λ z. x.differ a b r s (sym y.1 ∙ here) (sym z.1 ∙ there) same)
      (put_cases b key inode t))
      (put_cases a key inode t);
}

-- a row of which only other fields change
kept_numbered : (t : Tree) (earlier : List ℕ) (key : Key) (old inode : Inode) → row_at t key ≡ Some old → inode.ino ≡ old.ino → AreNumbered t earlier → AreNumbered (with_row t key inode) earlier
kept_numbered t earlier key old inode was keeps x = record {
  some = λ q row there. ⊎_elim (λ y. subst (λ n. 0 ≢ n) (sym keeps ∙ same_row inode row (sym y.1 ∙ there)) (x.some key old was)) (λ y. x.some q row (sym y.1 ∙ there)) (put_cases q key inode t);
  given = λ q row there. ⊎_elim
      (λ y. subst (IsEarlier earlier) (sym keeps ∙ same_row inode row (sym y.1 ∙ there)) (x.given key old was))
      (λ y. x.given q row (sym y.1 ∙ there))
      (put_cases q key inode t);
  differ = λ a b r s here there same. ⊎_elim
      (λ y. ⊎_elim
      (λ z. y.0 ∙ sym z.0)
      (λ z. y.0 ∙ x.differ key b old s was (sym z.1 ∙ there) (sym keeps ∙ same_row inode r (sym y.1 ∙ here) ∙ same))
      (put_cases b key inode t))
      (λ y. ⊎_elim
      (λ z. x.differ a key r old (sym y.1 ∙ here) was (same ∙ sym (same_row inode s (sym z.1 ∙ there)) ∙ keeps) ∙ sym z.0)
      (λ z. x.differ a b r s (sym y.1 ∙ here) (sym z.1 ∙ there) same)
      (put_cases b key inode t))
      (put_cases a key inode t);
}

pub gone_some : (t : Tree) (key q : Key) (row : Inode) → row_at (without_row t key) q ≡ Some row → (q ≢ key) × (row_at t q ≡ Some row)
gone_some t key q row there = ⊎_elim (λ y. let none = y.1 in absurd (cc)) (λ y. (y.0, sym y.1 ∙ there)) (removed_cases q key t)

gone_numbered : (t : Tree) (earlier : List ℕ) (key : Key) → AreNumbered t earlier → AreNumbered (without_row t key) earlier
gone_numbered t earlier key x = record {
  some = λ q row there. x.some q row (gone_some t key q row there).1;
  given = λ q row there. x.given q row (gone_some t key q row there).1;
  differ = λ a b r s here there same. x.differ a b r s (gone_some t key a r here).1 (gone_some t key b s there).1 same;
}

-- a row that moves from one key to another
moved_numbered : (t : Tree) (earlier : List ℕ) (from to : Key) (inode : Inode) → row_at t from ≡ Some inode → AreNumbered t earlier → AreNumbered (with_row (without_row t from) to inode) earlier
moved_numbered t earlier from to inode was x = record {
  some = λ q row there. ⊎_elim (λ y. subst (λ n. 0 ≢ n) (same_row inode row (sym y.1 ∙ there)) (x.some from inode was)) (λ y. x.some q row (gone_some t from q row (sym y.1 ∙ there)).1) (put_cases q to inode (without_row t from));
  given = λ q row there. ⊎_elim
      (λ y. subst (IsEarlier earlier) (same_row inode row (sym y.1 ∙ there)) (x.given from inode was))
      (λ y. x.given q row (gone_some t from q row (sym y.1 ∙ there)).1)
      (put_cases q to inode (without_row t from));
  differ = λ a b r s here there same. ⊎_elim
      (λ y. ⊎_elim
      (λ z. y.0 ∙ sym z.0)
      (λ z. let old = gone_some t from b s (sym z.1 ∙ there) in absurd (old.0 (sym (x.differ from b inode s was old.1 (same_row inode r (sym y.1 ∙ here) ∙ same)))))
      (put_cases b to inode (without_row t from)))
      (λ y. ⊎_elim
      (λ z. let old = gone_some t from a r (sym y.1 ∙ here) in absurd (old.0 (x.differ a from r inode old.1 was (same ∙ sym (same_row inode s (sym z.1 ∙ there))))))
      (λ z. x.differ a b r s (gone_some t from a r (sym y.1 ∙ here)).1 (gone_some t from b s (sym z.1 ∙ there)).1 same)
      (put_cases b to inode (without_row t from)))
      (put_cases a to inode (without_row t from));
}

update_numbered : (t : Tree) (earlier : List ℕ) (key : Key) (f : Inode → Inode) → ((z : Inode) → (f z).ino ≡ z.ino) → AreNumbered t earlier → AreNumbered (update t key f) earlier
update_numbered t earlier key f keeps x =
    elim (row_at t key) as (λ (o : Option Inode). row_at t key ≡ o → AreNumbered (elim o [ None ↦ t | Some inode ↦ with_row t key (f inode) ]) earlier) [
      | None ↦ λ none. x
      | Some inode ↦ λ there. kept_numbered t earlier key inode (f inode) there (keeps inode) x
    ] refl

move_numbered : (t : Tree) (earlier : List ℕ) (from to : Key) → AreNumbered t earlier → AreNumbered (move t from to) earlier
move_numbered t earlier from to x =
    elim (row_at t from) as (λ (o : Option Inode). row_at t from ≡ o → AreNumbered (elim o [ None ↦ t | Some inode ↦ with_row (without_row t from) to inode ]) earlier) [
      | None ↦ λ none. x
      | Some inode ↦ λ there. moved_numbered t earlier from to inode there x
    ] refl

pub change_numbered : (t : Tree) (earlier : List ℕ) (cred : Cred) (call : Op) (ino : ℕ) → HasNumber call ino earlier → AreNumbered t earlier → AreNumbered (change t cred call ino) (ino ∷ earlier)
change_numbered t earlier cred (op.Mkdir path mode) ino has x = new_numbered t earlier (last_key_of t cred path) (new_row cred Dir mode ino) has.0 has.1 has.2 x
change_numbered t earlier cred (op.Create path mode) ino has x = new_numbered t earlier (last_key_of t cred path) (new_row cred File mode ino) has.0 has.1 has.2 x
change_numbered t earlier cred (op.Stat path) ino has x = more_numbered t earlier ino x
change_numbered t earlier cred (op.Access path want) ino has x = more_numbered t earlier ino x
change_numbered t earlier cred (op.Chmod path mode) ino has x = more_numbered _ earlier ino (update_numbered t earlier (last_key_of t cred path) (λ (z : Inode). record z { mode = mode }) (λ z. refl) x)
change_numbered t earlier cred (op.Chown path uid gid) ino has x = more_numbered _ earlier ino (update_numbered t earlier (last_key_of t cred path) (λ (z : Inode). record z { uid = uid; gid = gid }) (λ z. refl) x)
change_numbered t earlier cred (op.Truncate path size) ino has x = more_numbered _ earlier ino (update_numbered t earlier (last_key_of t cred path) (λ (z : Inode). record z { size = size }) (λ z. refl) x)
change_numbered t earlier cred (op.Unlink path) ino has x = more_numbered _ earlier ino (gone_numbered t earlier (last_key_of t cred path) x)
change_numbered t earlier cred (op.Rmdir path) ino has x = more_numbered _ earlier ino (gone_numbered t earlier (last_key_of t cred path) x)
change_numbered t earlier cred (op.Rename old new) ino has x = more_numbered _ earlier ino (move_numbered t earlier (last_key_of t cred old) (last_key_of t cred new) x)
change_numbered t earlier cred (op.List path) ino has x = more_numbered t earlier ino x
change_numbered t earlier cred (op.Place name rule) ino has x = more_numbered t earlier ino x

after_numbered : (t : Tree) (earlier : List ℕ) (cs : List Commit) → AreLegalFrom t earlier cs → AreNumbered t earlier → (numbers : List ℕ) × AreNumbered (tree_after t cs) numbers
after_numbered t earlier [] legal x = (earlier, x)
after_numbered t earlier (c ∷ cs) legal x = after_numbered (change t c.cred c.op c.ino) (c.ino ∷ earlier) cs legal.2 (change_numbered t earlier c.cred c.op c.ino legal.1 x)

abbrev root : Inode
root = record { ino = 1; kind = Dir; mode = 493; uid = 0; gid = 0; size = 0 }

pub start_numbered : AreNumbered tree0 []
start_numbered = record {
  some = λ key row there. ⊎_elim (λ y. subst (λ n. 0 ≢ n) (same_row root row (sym y.1 ∙ there)) (λ e. absurd (cc))) (λ y. let none : row_at tree0 key ≡ None = y.1 in absurd (cc)) (put_cases key root_key root []);
  given = λ key row there. ⊎_elim (λ y. inl (sym (same_row root row (sym y.1 ∙ there)))) (λ y. let none : row_at tree0 key ≡ None = y.1 in absurd (cc)) (put_cases key root_key root []);
  differ = λ a b r s here there same. ⊎_elim
      (λ y. ⊎_elim (λ z. y.0 ∙ sym z.0) (λ z. let none : row_at tree0 b ≡ None = z.1 in absurd (cc)) (put_cases b root_key root []))
      (λ y. let none : row_at tree0 a ≡ None = y.1 in absurd (cc))
      (put_cases a root_key root []);
}

-- in the tree that legal commits leave
pub numbers_after : (commits : List Commit) → AreLegal commits → (numbers : List ℕ) × AreNumbered (tree_after tree0 commits) numbers
numbers_after commits legal = after_numbered tree0 [] commits legal start_numbered

pub numbers_differ : (commits : List Commit) → AreLegal commits → DoNumbersDiffer (tree_after tree0 commits)
numbers_differ commits legal = (numbers_after commits legal).1.differ
