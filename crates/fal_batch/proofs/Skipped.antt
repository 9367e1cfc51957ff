-- Whether a call is skipped, told from where its walk ends alone.
use Rattle.std.proofs.Common.{◌≡◌, ℕ, suc, zero, ◌+◌, ◌<◌, ◌≤◌, Bool, true, false, not, ◌&&◌, cond, List, [], ◌∷◌, ◌++◌, length, drop, filter_map, slice_get, Option, Some, None, ◌==◌, refl, sym, ap, ◌∙◌, subst, arith}
use Rattle.std.specs.List.{list_all, cons_option}
use Rattle.std.specs.Option.{option_and_then}
use Rattle.fal_base.specs.declared.inode.Dentry.{Dentry}
use Rattle.fal_base.specs.declared.key.Key.{Key}
use Rattle.fal_base.specs.declared.call.CallRec.{CallRec}
use Rattle.fal_base.specs.declared.call.Cred.{Cred}
use Rattle.fal_base.specs.declared.reply.Errno.TheVariants.{Eacces}
use Rattle.fal_base.specs.Maps.{value_at}
use Rattle.fal_base.specs.Tree.{key_of, root_key}
use Rattle.fal_base.specs.Walk.{dentry_grants}
use Rattle.fal_dentry.specs.Walk.{Dentries, ReplicaWalk, Shut, Missing, Stop, Ready, into_dir, is_among, past, replica_walk, walk_on}
use Rattle.fal_dentry.specs.TreeWalk.{last_name, last_key}
use Rattle.fal_place.specs.Placement.{owner}
use Rattle.fal_wait.specs.declared.waiting_call.WaitingCall.{WaitingCall}
use Rattle.fal_batch.specs.Fate.{Setting, Leaves, Skips, Joins, fate_at, fate_walked, last_of, goes_by_parent, walk_of}
use Rattle.fal_batch.specs.Idle.{ending_of, is_skipped_at, is_skipped_after, is_skipped_if}
use Rattle.fal_batch.specs.Plan.{is_skipped, is_skipped_by}

-- a walk that goes on ends where the rest of it does
pub ending_past : (key : Key) (ino : ℕ) (walk : ReplicaWalk) → ending_of (past key ino walk) ≡ ending_of walk
ending_past key ino (Shut other) = refl
ending_past key ino (Missing gap keys) = refl
ending_past key ino (Stop errno keys) = refl
ending_past key ino (Ready parent inos keys) = refl

skipped_key : (s : Setting) (by_parent : Bool) (parent : Option Dentry) (keys : List Key) (last : Key) → is_skipped_by s.limit (fate_at s by_parent parent keys last) ≡ is_skipped_at s by_parent last
skipped_key s by_parent parent keys last =
    elim (by_parent && not (owner s.table last == s.me)) as (λ b. is_skipped_by s.limit (cond b (Leaves (Some (owner s.table last))) (cond (is_among last s.shut) Skips (Joins false parent last (keys ++ last ∷ []))))
    ≡ cond b false (cond (is_among last s.shut) true (s.limit == 0))) [
      | true ↦ refl
      | false ↦ elim (is_among last s.shut) as (λ b. is_skipped_by s.limit (cond b Skips (Joins false parent last (keys ++ last ∷ []))) ≡ cond b true (s.limit == 0)) [ true ↦ refl | false ↦ refl ]
    ]

pub skipped_walked : (s : Setting) (names : List (List ℕ)) (walk : ReplicaWalk) → is_skipped_by s.limit (fate_walked s names walk) ≡ is_skipped_after s names (ending_of walk)
skipped_walked s names (Shut key) = refl
skipped_walked s names (Missing key keys) = refl
skipped_walked s names (Stop errno keys) = refl
skipped_walked s names (Ready parent inos keys) = skipped_key s (goes_by_parent s.table (last_of names)) parent keys (last_key parent (last_name names))

-- whether a walk ends elsewhere than at a shut key
abbrev pub IsOpen : ReplicaWalk → Type 0
IsOpen (Shut key) = ⊥
IsOpen (Missing key keys) = Unit {0}
IsOpen (Stop errno keys) = Unit {0}
IsOpen (Ready parent inos keys) = Unit {0}

past_open : (key : Key) (ino : ℕ) (walk : ReplicaWalk) → IsOpen walk → IsOpen (past key ino walk)
past_open key ino (Shut other) opens = opens
past_open key ino (Missing gap keys) opens = tt
past_open key ino (Stop errno keys) opens = tt
past_open key ino (Ready parent inos keys) opens = tt

-- where no key is shut, no walk ends at one
walk_open : (entries : Dentries) (cred : Cred) (parent : Option Dentry) (key : Key) (names : List (List ℕ)) → IsOpen (walk_on entries cred [] parent key names)
walk_open entries cred parent key [] = tt
walk_open entries cred parent key (name ∷ names) =
    elim (value_at entries key) as (λ found. IsOpen (into_dir key found (λ dir. cond (dentry_grants cred 1 dir) (past key dir.ino (walk_on entries cred [] (Some dir) (key_of dir.ino name) names)) (Stop Eacces (key ∷ []))))) [
      | None ↦ tt
      | Some dir ↦
          elim (dentry_grants cred 1 dir) as (λ b. IsOpen (cond b (past key dir.ino (walk_on entries cred [] (Some dir) (key_of dir.ino name) names)) (Stop Eacces (key ∷ [])))) [
            | true ↦ past_open key dir.ino (walk_on entries cred [] (Some dir) (key_of dir.ino name) names) (walk_open entries cred (Some dir) (key_of dir.ino name) names)
            | false ↦ tt
          ]
    ]

reached_open : (s : Setting) (by_parent : Bool) (last : Key) → s.shut ≡ [] → (s.limit == 0) ≡ false → is_skipped_at s by_parent last ≡ false
reached_open s by_parent last opens some =
    elim (by_parent && not (owner s.table last == s.me)) as (λ b. cond b false (cond (is_among last s.shut) true (s.limit == 0)) ≡ false) [
      | true ↦ refl
      | false ↦ ap (λ keys. cond (is_among last keys) true (s.limit == 0)) opens ∙ some
    ]

ended_open : (s : Setting) (names : List (List ℕ)) (walk : ReplicaWalk) → IsOpen walk → s.shut ≡ [] → (s.limit == 0) ≡ false → is_skipped_after s names (ending_of walk) ≡ false
ended_open s names (Shut key) wrong opens some = absurd wrong
ended_open s names (Missing key keys) ends opens some = refl
ended_open s names (Stop errno keys) ends opens some = some
ended_open s names (Ready parent inos keys) ends opens some = reached_open s (goes_by_parent s.table (last_of names)) (last_key parent (last_name names)) opens some

-- where no key is shut and a batch has room for a call, no call is skipped by its walk
pub none_skipped : (s : Setting) (call : CallRec) (names : List (List ℕ)) → s.shut ≡ [] → (s.limit == 0) ≡ false → is_skipped_by s.limit (fate_walked s names (walk_of s call names)) ≡ false
none_skipped s call names opens some =
    skipped_walked s names (walk_of s call names)
    ∙ ended_open s names (walk_of s call names) (subst (λ shut. IsOpen (replica_walk s.dentries call.cred names shut)) (sym opens) (walk_open s.dentries call.cred None root_key names)) opens some

-- one more call that is there or not
pub skipped_cons : (s : Setting) (o : Option WaitingCall) (ws : List WaitingCall) → list_all (λ w. is_skipped s w.call) (cons_option o ws) ≡ (is_skipped_if s o && list_all (λ w. is_skipped s w.call) ws)
skipped_cons s None ws = refl
skipped_cons s (Some w) ws = refl

-- from this place on: what stands there, and the rest
pub from_place : (s : Setting) (f : ℕ → Option WaitingCall) (ts : List ℕ) (at : ℕ) → at < length ts
    → list_all (λ w. is_skipped s w.call) (filter_map f (drop at ts)) ≡ (is_skipped_if s (option_and_then f (slice_get ts at)) && list_all (λ w. is_skipped s w.call) (filter_map f (drop (at + 1) ts)))
from_place s f [] at lt = absurd (omega arith)
from_place s f (t ∷ ts) zero lt = skipped_cons s (f t) (filter_map f ts)
from_place s f (t ∷ ts) (suc at) lt =
    let more : suc at + 1 ≡ suc (at + 1) = omega arith in
    subst (λ n. list_all (λ w. is_skipped s w.call) (filter_map f (drop at ts)) ≡ (is_skipped_if s (option_and_then f (slice_get ts at)) && list_all (λ w. is_skipped s w.call) (filter_map f (drop n (t ∷ ts)))))
    (sym more) (from_place s f ts at (omega arith))

nothing_left : (at : ℕ) → drop {A = ℕ} at [] ≡ []
nothing_left zero = refl
nothing_left (suc at) = refl

-- past the end nothing is left
pub past_place : (s : Setting) (f : ℕ → Option WaitingCall) (ts : List ℕ) (at : ℕ) → length ts ≤ at → list_all (λ w. is_skipped s w.call) (filter_map f (drop at ts)) ≡ true
past_place s f [] at le = ap (λ ns. list_all (λ w. is_skipped s w.call) (filter_map f ns)) (nothing_left at)
past_place s f (t ∷ ts) zero le = absurd (omega arith)
past_place s f (t ∷ ts) (suc at) le = past_place s f ts at (omega arith)
