-- No key of a plan is shut.
use Rattle.std.proofs.Common.{◌≡◌, ℕ, ◌+◌, Bool, true, false, not, ◌&&◌, ◌||◌, cond, List, [], ◌∷◌, ◌++◌, length, nat_lt, ◌==◌, Option, Some, None, refl, ap, subst, ◌∙◌, arith}
use Rattle.std.specs.List.{list_any, prefix_len}
use Rattle.std.proofs.lemmas.Bool.Decides.{nat_tests}
use Rattle.std.proofs.lemmas.List.Folds.{list_any-append}
use Rattle.fal_base.specs.declared.call.CallRec.{CallRec}
use Rattle.fal_base.specs.declared.call.Cred.{Cred}
use Rattle.fal_base.specs.declared.inode.Dentry.{Dentry}
use Rattle.fal_base.specs.declared.key.Key.{Key}
use Rattle.fal_base.specs.declared.reply.Errno.TheVariants.{Eacces}
use Rattle.fal_base.specs.Tree.{key_of, root_key, same_key}
use Rattle.fal_base.specs.Maps.{value_at}
use Rattle.fal_base.specs.Walk.{dentry_grants}
use Rattle.fal_dentry.specs.Walk.{Dentries, ReplicaWalk, Shut, Missing, Stop, Ready, is_among, past, into_dir, walk_on}
use Rattle.fal_dentry.specs.TreeWalk.{last_name, last_key}
use Rattle.fal_locks.specs.Keys.{has_key}
use Rattle.fal_locks.specs.Locks.{LockTable, shut_keys, first_shut}
use Rattle.fal_place.specs.Placement.{owner, route}
use Rattle.fal_wait.specs.declared.waiting_call.WaitingCall.{WaitingCall}
use Rattle.fal_batch.specs.Fate.{Setting, Fate, Skips, Leaves, Waits, Joins, fate, fate_by, fate_at, fate_walked, is_blocked, is_elsewhere, last_of, walk_of, walked_keys, away_to, goes_by_parent}
use Rattle.fal_base.specs.OpPaths.{op_names}
use Rattle.fal_batch.specs.Keys.{with_key, with_keys}
use Rattle.fal_batch.specs.Plan.{Planning, with_away, with_wait, with_planned, after_fate, plan_one, plan_calls}
use Rattle.fal_batch.proofs.Truth.{neither, neither_first, neither_second}
use Rattle.fal_batch.proofs.KeyLists.{same_turned}

-- whether one of the keys is shut
abbrev pub some_shut : List Key → List Key → Bool
some_shut shut keys = list_any (λ key. is_among key shut) keys

module _ (shut : List Key) where
  push_open : (keys : List Key) (key : Key) → some_shut shut keys ≡ false → is_among key shut ≡ false → some_shut shut (keys ++ key ∷ []) ≡ false
  push_open keys key h k = list_any-append (λ q. is_among q shut) keys (key ∷ []) ∙ neither (some_shut shut keys) (is_among key shut || false) h (neither (is_among key shut) false k refl)

  past_open : (key : Key) (ino : ℕ) (walk : ReplicaWalk) → is_among key shut ≡ false → some_shut shut (walked_keys walk) ≡ false → some_shut shut (walked_keys (past key ino walk)) ≡ false
  past_open key ino (Shut other) k h = refl
  past_open key ino (Missing gap keys) k h = neither (is_among key shut) (some_shut shut keys) k h
  past_open key ino (Stop errno keys) k h = neither (is_among key shut) (some_shut shut keys) k h
  past_open key ino (Ready dir inos keys) k h = neither (is_among key shut) (some_shut shut keys) k h

  -- a walk finds no shut key
  walk_open : (entries : Dentries) (cred : Cred) (parent : Option Dentry) (key : Key) (names : List (List ℕ)) → some_shut shut (walked_keys (walk_on entries cred shut parent key names)) ≡ false
  walk_open entries cred parent key [] = refl
  walk_open entries cred parent key (name ∷ names) =
      elim (is_among key shut) as (λ b. is_among key shut ≡ b → some_shut shut (walked_keys (cond b (Shut key) (into_dir key (value_at entries key) (λ dir.
      cond (dentry_grants cred 1 dir) (past key dir.ino (walk_on entries cred shut (Some dir) (key_of dir.ino name) names)) (Stop Eacces (key ∷ [])))))) ≡ false) [
        | true ↦ λ is. refl
        | false ↦ λ is.
            elim (value_at entries key) as (λ o. some_shut shut (walked_keys (into_dir key o (λ dir.
            cond (dentry_grants cred 1 dir) (past key dir.ino (walk_on entries cred shut (Some dir) (key_of dir.ino name) names)) (Stop Eacces (key ∷ []))))) ≡ false) [
              | None ↦ refl
              | Some dir ↦
                  elim (dentry_grants cred 1 dir) as (λ b. some_shut shut (walked_keys (cond b (past key dir.ino (walk_on entries cred shut (Some dir) (key_of dir.ino name) names)) (Stop Eacces (key ∷ [])))) ≡ false) [
                    | true ↦ past_open key dir.ino (walk_on entries cred shut (Some dir) (key_of dir.ino name) names) is (walk_open entries cred (Some dir) (key_of dir.ino name) names)
                    | false ↦ neither (is_among key shut) false is refl
                  ]
            ]
      ] refl

  open_with : (keys : List Key) (key : Key) → some_shut shut keys ≡ false → is_among key shut ≡ false → some_shut shut (with_key keys key) ≡ false
  open_with keys key h k =
      elim (is_among key keys) as (λ b. some_shut shut (cond b keys (keys ++ key ∷ [])) ≡ false) [
        | true ↦ h
        | false ↦ push_open keys key h k
      ]

  open_all : (others keys : List Key) → some_shut shut keys ≡ false → some_shut shut others ≡ false → some_shut shut (with_keys keys others) ≡ false
  open_all [] keys h k = h
  open_all (o ∷ os) keys h k =
      open_all os (with_key keys o) (open_with keys o h (neither_first (is_among o shut) (some_shut shut os) k)) (neither_second (is_among o shut) (some_shut shut os) k)

module _ (denied : Bool) (parent : Option Dentry) (last : Key) (keys : List Key) where
  abbrev Joined : Fate → Type 0
  Joined f = f ≡ Joins denied parent last keys

  at_key : (s : Setting) (by_parent : Bool) (dir : Option Dentry) (walked : List Key) (key : Key) → some_shut s.shut walked ≡ false → Joined (fate_at s by_parent dir walked key)
      → some_shut s.shut keys ≡ false
  at_key s by_parent dir walked key h =
      elim (by_parent && not (owner s.table key == s.me)) as (λ b. Joined (cond b (Leaves (Some (owner s.table key))) (cond (is_among key s.shut) Skips (Joins false dir key (walked ++ key ∷ [])))) → some_shut s.shut keys ≡ false) [
        | true ↦ λ e. absurd (cc)
        | false ↦
            elim (is_among key s.shut) as (λ b. is_among key s.shut ≡ b → Joined (cond b Skips (Joins false dir key (walked ++ key ∷ []))) → some_shut s.shut keys ≡ false) [
              | true ↦ λ is e. absurd (cc)
              | false ↦ λ is e.
                  let all : walked ++ key ∷ [] ≡ keys = cc in
                  subst (λ ks. some_shut s.shut ks ≡ false) all (push_open s.shut walked key h is)
            ] refl
      ]

  walked_open : (s : Setting) (names : List (List ℕ)) (walk : ReplicaWalk) → some_shut s.shut (walked_keys walk) ≡ false → Joined (fate_walked s names walk) → some_shut s.shut keys ≡ false
  walked_open s names (Shut key) h e = absurd (cc)
  walked_open s names (Missing key ks) h e = absurd (cc)
  walked_open s names (Stop errno ks) h e =
      let all : ks ≡ keys = cc in
      subst (λ ks. some_shut s.shut ks ≡ false) all h
  walked_open s names (Ready dir inos ks) h e = at_key s (goes_by_parent s.table (last_of names)) dir ks (last_key dir (last_name names)) h e

  by_names : (s : Setting) (call : CallRec) (names : Option (List (List ℕ))) → Joined (fate_by s call names) → some_shut s.shut keys ≡ false
  by_names s call None e = absurd (cc)
  by_names s call (Some names) e =
      elim (is_blocked s.blocked (last_of names)) as (λ b. Joined (cond b Skips (cond (is_elsewhere s names) (Leaves (away_to s.table call (route s.table names))) (fate_walked s names (walk_of s call names))))
      → some_shut s.shut keys ≡ false) [
        | true ↦ λ f. absurd (cc)
        | false ↦
            elim (is_elsewhere s names) as (λ b. Joined (cond b (Leaves (away_to s.table call (route s.table names))) (fate_walked s names (walk_of s call names))) → some_shut s.shut keys ≡ false) [
              | true ↦ λ f. absurd (cc)
              | false ↦ walked_open s names (walk_of s call names) (walk_open s.shut s.dentries call.cred None root_key names)
            ]
      ] e

  joining_open : (s : Setting) (call : CallRec) → Joined (fate s call) → some_shut s.shut keys ≡ false
  unfolding fate
  joining_open s call e = by_names s call (op_names call.op) e

open_fate : (s : Setting) (p : Planning) (w : WaitingCall) (f : Fate) → fate s w.call ≡ f → some_shut s.shut p.keys ≡ false → some_shut s.shut (after_fate s.limit p w.ticket f).keys ≡ false
unfolding with_away with_wait with_planned
open_fate s p w Skips e h = h
open_fate s p w (Leaves to) e h = h
open_fate s p w (Waits key) e h = h
open_fate s p w (Joins denied parent last keys) e h =
    elim (nat_lt (length p.calls) s.limit) as (λ b. some_shut s.shut (cond b (with_planned p (record { ticket = w.ticket; denied = denied; parent = parent; last = last }) keys) p).keys ≡ false) [
      | true ↦ open_all s.shut keys p.keys h (joining_open denied parent last keys s w.call e)
      | false ↦ h
    ]

open_one : (s : Setting) (p : Planning) (w : WaitingCall) → some_shut s.shut p.keys ≡ false → some_shut s.shut (plan_one s p w).keys ≡ false
unfolding plan_one
open_one s p w h = open_fate s p w (fate s w.call) refl h

pub open_calls : (s : Setting) (p : Planning) (calls : List WaitingCall) → some_shut s.shut p.keys ≡ false → some_shut s.shut (plan_calls s p calls).keys ≡ false
open_calls s p [] h = h
open_calls s p (w ∷ ws) h = open_calls s (plan_one s p w) ws (open_one s p w h)

-- both ways to look for a key agree
has_is : (key : Key) (keys : List Key) → has_key keys key ≡ is_among key keys
has_is key [] = refl
has_is key (x ∷ xs) = ap (λ b. b || has_key xs key) (same_turned key x) ∙ ap (λ b. same_key x key || b) (has_is key xs)

none_before : (shut keys : List Key) → some_shut shut keys ≡ false → prefix_len (λ key. not (has_key shut key)) keys ≡ length keys
none_before shut [] h = refl
none_before shut (k ∷ ks) h =
    let here : not (has_key shut k) ≡ true = ap not (has_is k shut ∙ neither_first (is_among k shut) (some_shut shut ks) h) in
    let rest = none_before shut ks (neither_second (is_among k shut) (some_shut shut ks) h) in
    ap (λ b. cond b (1 + prefix_len (λ key. not (has_key shut key)) ks) 0) here ∙ omega (arith, rest)

itself : (n : ℕ) → nat_lt n n ≡ false
itself n = grind (arith, nat_tests)

pub first_open : (table : LockTable) (keys : List Key) → some_shut (shut_keys table) keys ≡ false → first_shut table keys ≡ None
first_open table keys h =
    ap (λ n. cond (nat_lt n (length keys)) (Some n) None) (none_before (shut_keys table) keys h) ∙ ap (λ b. cond b (Some (length keys)) None) (itself (length keys))
