-- An operation whose call and walks suit each other: what is kept of its walks is what the verdict takes, and the keys that it locks are their last ones.
use Rattle.std.proofs.Common.{◌≡◌, ℕ, true, false, ◌||◌, List, [], ◌∷◌, Option, IsTrue, refl, sym, ap, ◌∙◌, subst}
use Rattle.fal_base.specs.declared.call.CallRec.{CallRec}
use Rattle.fal_base.specs.declared.inode.Dentry.{Dentry}
use Rattle.fal_base.specs.declared.key.Key.{Key}
use Rattle.fal_base.specs.declared.op.Op.{Op}
use Rattle.fal_base.specs.declared.op.Op.TheVariants as op
use Rattle.fal_base.specs.declared.path.PathArg.TheVariants.{Good as GoodPath}
use Rattle.fal_base.specs.declared.row.Update.{Update}
use Rattle.fal_base.specs.Transcript.{is_place}
use Rattle.fal_base.specs.Tree.{same_key}
use Rattle.fal_batch.proofs.KeyLists.{among_all}
use Rattle.fal_coord.specs.declared.stage.Operation.{Operation}
use Rattle.fal_coord.specs.declared.stage.PathWalk.{PathWalk}
use Rattle.fal_coord.specs.Decide.{verdict_on}
use Rattle.fal_coord.specs.Judged.{is_for_rows, verdict_of}
use Rattle.fal_coord.specs.Walks as walks
use Rattle.fal_coord.specs.Walks.{last_inos, walked_paths, with_ends, with_key}
use Rattle.fal_dentry.specs.TreeWalk.{last_key, last_name}
use Rattle.fal_dentry.specs.Walk.{is_among}
use Rattle.fal_story.proofs.Events.Doing.{kept_of, kept_walks}
use Rattle.fal_story.proofs.Events.Shows.{Suits}
use Rattle.fal_story.proofs.Lists.Grown.{or_second}
use Rattle.fal_story.proofs.Steps.Decides.{AreWalks, lasts_of, parents_of, passed_of}
use Rattle.fal_story.proofs.View.{Kept}

-- ---- the walks

-- what is kept of the walks is what the verdict takes
pub record AreTaken (call : Op) (made : List PathWalk) (kept : List Kept) : Type 0 where
  pub are : AreWalks call kept
  pub parents : parents_of kept ≡ walks.parents_of made
  pub passed : passed_of kept ≡ last_inos [] made

pub are_taken : (call : Op) (made : List PathWalk) → IsTrue (is_for_rows call (walks.parents_of made)) → AreTaken call made (kept_walks (walked_paths call) made)
are_taken (op.Chmod (GoodPath path) mode) (walk ∷ []) fits = record { are = refl; parents = refl; passed = refl }
are_taken (op.Chown (GoodPath path) uid gid) (walk ∷ []) fits = record { are = refl; parents = refl; passed = refl }
are_taken (op.Rmdir (GoodPath path)) (walk ∷ []) fits = record { are = refl; parents = refl; passed = refl }
are_taken (op.Rename (GoodPath from) (GoodPath to)) (a ∷ b ∷ []) fits = record { are = (refl, refl); parents = refl; passed = refl }
are_taken other made fits = absurd (cc)

-- ---- the keys

-- a key is among the keys with one more where it was among them, or is that one
with_old : (key k : Key) (keys : List Key) → is_among key keys ≡ true → is_among key (with_key keys k) ≡ true
with_old key k keys is = among_all key (k ∷ []) keys ∙ ap (λ b. b || is_among key (k ∷ [])) is

with_new : (key k : Key) (keys : List Key) → same_key k key ≡ true → is_among key (with_key keys k) ≡ true
with_new key k keys is = among_all key (k ∷ []) keys ∙ or_second (is_among key keys) _ (ap (λ b. b || false) is)

ends_old : (key : Key) (keys : List Key) (paths : List (List (List ℕ))) (made : List PathWalk) → is_among key keys ≡ true → is_among key (with_ends keys paths made) ≡ true
ends_old key keys [] made is = is
ends_old key keys (names ∷ paths) [] is = is
ends_old key keys (names ∷ paths) (walk ∷ made) is =
    let last = last_key walk.parent (last_name names) in ends_old key (with_key keys last) paths made (with_old key last keys is)

-- the last key of each walk is locked
pub lasts_locked : (key : Key) (keys : List Key) (paths : List (List (List ℕ))) (made : List PathWalk) → is_among key (lasts_of (kept_walks paths made)) ≡ true → is_among key (with_ends keys paths made) ≡ true
lasts_locked key keys [] made is = absurd (cc)
lasts_locked key keys (names ∷ paths) [] is = absurd (cc)
lasts_locked key keys (names ∷ paths) (walk ∷ made) is =
    let last = last_key walk.parent (last_name names) in
    elim (same_key last key) as (λ b. same_key last key ≡ b → (b || is_among key (lasts_of (kept_walks paths made))) ≡ true → is_among key (with_ends (with_key keys last) paths made) ≡ true) [
      | true ↦ λ same _. ends_old key (with_key keys last) paths made (with_new key last keys same)
      | false ↦ λ _ later. lasts_locked key (with_key keys last) paths made later
    ] refl is

-- ---- the operation

-- it is of this lane's call
pub record IsSuited (operation : Operation) (call : CallRec) : Type 0 where
  pub walks : AreWalks call.op (kept_of operation)
  pub fits : IsTrue (is_for_rows call.op (parents_of (kept_of operation)))
  pub locked : (key : Key) → is_among key (lasts_of (kept_of operation)) ≡ true → is_among key operation.keys ≡ true
  pub judged : (rows : List Update) → verdict_of call.cred call.op (parents_of (kept_of operation)) (passed_of (kept_of operation)) rows ≡ verdict_on operation rows

rows_tree : (o : Op) (parents : List (Option Dentry)) → IsTrue (is_for_rows o parents) → is_place o ≡ false
rows_tree (op.Place name rule) parents fits = absurd (cc)
rows_tree other parents fits = refl

-- it is about the tree
pub suited_tree : (operation : Operation) (call : CallRec) → IsSuited operation call → is_place call.op ≡ false
suited_tree operation call is = rows_tree call.op (parents_of (kept_of operation)) is.fits

pub is_suited : (operation : Operation) (call : CallRec) → operation.call ≡ call → Suits operation → IsSuited operation call
is_suited operation call same suits =
    let taken = are_taken operation.call.op operation.walks suits.rows in
    let kept = kept_of operation in
    record {
      walks = subst (λ (c : CallRec). AreWalks c.op kept) same taken.are;
      fits = subst (λ (c : CallRec). IsTrue (is_for_rows c.op (parents_of kept))) same (subst (λ parents. IsTrue (is_for_rows operation.call.op parents)) (sym taken.parents) suits.rows);
      locked = λ key last. ap (is_among key) suits.keys ∙ lasts_locked key [] (walked_paths operation.call.op) operation.walks last;
      judged = λ rows i. verdict_of (sym same i).cred (sym same i).op (taken.parents i) (taken.passed i) rows;
    }
