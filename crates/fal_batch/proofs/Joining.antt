-- The keys that the batch holds for a call that joins it.
use Rattle.std.proofs.Common.{◌≡◌, ℕ, Bool, true, false, not, ◌&&◌, cond, List, [], ◌∷◌, ◌++◌, Option, Some, None, sym, ap, ◌∙◌, append-nil, ◌==◌}
use Rattle.fal_base.specs.declared.call.CallRec.{CallRec}
use Rattle.fal_base.specs.declared.inode.Dentry.{Dentry}
use Rattle.fal_base.specs.declared.key.Key.{Key}
use Rattle.fal_dentry.specs.Walk.{ReplicaWalk, Shut, Missing, Stop, Ready, is_among}
use Rattle.fal_dentry.specs.TreeWalk.{last_name, last_key}
use Rattle.fal_place.specs.Placement.{owner, route}
use Rattle.fal_batch.specs.Fate.{Setting, Fate, Skips, Leaves, Joins, fate, fate_by, fate_at, fate_walked, is_blocked, is_elsewhere, last_of, walk_of, walked_keys, away_to, goes_by_parent}
use Rattle.fal_base.specs.OpPaths.{op_names}
use Rattle.fal_batch.specs.Plan.{path_keys}

module _ (denied : Bool) (parent : Option Dentry) (last : Key) (keys : List Key) where
  abbrev Joined : Fate → Type 0
  Joined f = f ≡ Joins denied parent last keys

  abbrev with_last : List Key → List Key
  with_last walked = walked ++ (cond denied [] (last ∷ []))

  at_key : (s : Setting) (by_parent : Bool) (dir : Option Dentry) (walked : List Key) (key : Key) → Joined (fate_at s by_parent dir walked key) → keys ≡ with_last walked
  at_key s by_parent dir walked key =
      elim (by_parent && not (owner s.table key == s.me)) as (λ b. Joined (cond b (Leaves (Some (owner s.table key))) (cond (is_among key s.shut) Skips (Joins false dir key (walked ++ key ∷ [])))) → keys ≡ with_last walked) [
        | true ↦ λ e. absurd (cc)
        | false ↦
            elim (is_among key s.shut) as (λ b. Joined (cond b Skips (Joins false dir key (walked ++ key ∷ []))) → keys ≡ with_last walked) [
              | true ↦ λ e. absurd (cc)
              | false ↦ λ e.
                  let no : false ≡ denied = cc in
                  let same : key ≡ last = cc in
                  let all : walked ++ key ∷ [] ≡ keys = cc in
                  sym all ∙ ap (λ k. walked ++ k ∷ []) same ∙ ap (λ b. walked ++ cond b [] (last ∷ [])) no
            ]
      ]

  walked : (s : Setting) (names : List (List ℕ)) (walk : ReplicaWalk) → Joined (fate_walked s names walk) → keys ≡ with_last (walked_keys walk)
  walked s names (Shut key) e = absurd (cc)
  walked s names (Missing key ks) e = absurd (cc)
  walked s names (Stop errno ks) e =
      let yes : true ≡ denied = cc in
      let all : ks ≡ keys = cc in
      sym all ∙ sym (append-nil ks) ∙ ap (λ b. ks ++ cond b [] (last ∷ [])) yes
  walked s names (Ready dir inos ks) e = at_key s (goes_by_parent s.table (last_of names)) dir ks (last_key dir (last_name names)) e

  by_names : (s : Setting) (call : CallRec) (names : Option (List (List ℕ))) → Joined (fate_by s call names) → keys ≡ with_last (path_keys s call names)
  by_names s call None e = absurd (cc)
  by_names s call (Some names) e =
      elim (is_blocked s.blocked (last_of names)) as (λ b. Joined (cond b Skips (cond (is_elsewhere s names) (Leaves (away_to s.table call (route s.table names))) (fate_walked s names (walk_of s call names))))
      → keys ≡ with_last (walked_keys (walk_of s call names))) [
        | true ↦ λ f. absurd (cc)
        | false ↦
            elim (is_elsewhere s names) as (λ b. Joined (cond b (Leaves (away_to s.table call (route s.table names))) (fate_walked s names (walk_of s call names))) → keys ≡ with_last (walked_keys (walk_of s call names))) [
              | true ↦ λ f. absurd (cc)
              | false ↦ walked s names (walk_of s call names)
            ]
      ] e

  -- those that its walk finds, and the last one where it is not denied
  pub joining_keys : (s : Setting) (call : CallRec) → Joined (fate s call) → keys ≡ path_keys s call (op_names call.op) ++ (cond denied [] (last ∷ []))
  unfolding fate
  joining_keys s call e = by_names s call (op_names call.op) e
