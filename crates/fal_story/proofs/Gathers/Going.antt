-- What becomes of the calls that wait at a node: each has a fate by the tree, and where nothing is shut or blocked none is skipped.
use Rattle.std.proofs.Common.{◌≡◌, ◌≢◌, ⊎_elim, ℕ, true, false, List, [], Option, Some, None, is_some, IsTrue, refl, sym, ap, subst, ◌∙◌}
use Rattle.std.proofs.lemmas.Option.{same_Some}
use Rattle.fal_base.specs.declared.barred.Barred.TheVariants.{Nothing}
use Rattle.fal_base.specs.declared.call.CallRec.{CallRec}
use Rattle.fal_base.specs.declared.call.Config.{Config}
use Rattle.fal_base.specs.declared.op.Op.{Op}
use Rattle.fal_base.specs.declared.op.Op.TheVariants as op
use Rattle.fal_base.specs.declared.path.PathArg.{PathArg}
use Rattle.fal_base.specs.declared.path.PathArg.TheVariants.{Good, Bad}
use Rattle.fal_base.specs.OpPaths.{good_names}
use Rattle.fal_base.specs.Tree.{Tree}
use Rattle.fal_batch.specs.Fate.{Setting, Fate, Skips, Leaves, Waits, Joins, fate, is_blocked, last_of}
use Rattle.fal_dentry.specs.Walk.{is_among}
use Rattle.fal_exec.specs.RowCall.{row_names}
use Rattle.fal_locks.specs.Locks.{shut_keys_of}
use Rattle.fal_node.specs.Gather.{setting_at}
use Rattle.fal_node.specs.State.{blocked_names}
use Rattle.fal_wait.specs.declared.waiting_call.WaitingCall.{WaitingCall}
use Rattle.fal_wire.specs.Names.{path_field, path_arg_field}
use Rattle.fal_wire.specs.Ops.{op_field, path_and_mode, path_and_want, path_and_owner, path_and_size}
use Rattle.fal_story.proofs.Gathers.Fates.{IsFate, IsFateOf, fate_is}
use Rattle.fal_story.proofs.Events.InStep.{at_seat}
use Rattle.fal_story.proofs.Events.Shows.{Ghost, Shows, WaitsAt, lane_of}
use Rattle.fal_story.proofs.Lists.Each.{Each, each_weaker}
use Rattle.fal_story.proofs.Phase.{Idle}
use Rattle.fal_story.proofs.Phase as phase
use Rattle.fal_story.proofs.Trees.Met.{AreDirs}
use Rattle.fal_story.proofs.Trees.Standing.{tree_now}
use Rattle.fal_story.specs.World.{World}

-- ---- the names of a call

-- the call has one good path
abbrev pub HasNames : Op → Type 0
HasNames call = (names : List (List ℕ)) × ((row_names call ≡ Some names) × path_field.Fits names)

path_names_fit : (path : PathArg) (names : List (List ℕ)) → good_names path ≡ Some names → path_arg_field.Fits path → path_field.Fits names
unfolding path_arg_field
path_names_fit (Good names) other is fits = subst path_field.Fits (same_Some names other is) fits
path_names_fit (Bad fault raw) other is fits = absurd fits

-- of a call that one row decides and that a record can hold the names fit
names_fit : (call : Op) (names : List (List ℕ)) → row_names call ≡ Some names → op_field.Fits call → path_field.Fits names
unfolding op_field path_and_mode path_and_want path_and_owner path_and_size
names_fit (op.Mkdir path mode) names is fits = path_names_fit path names is fits.0
names_fit (op.Create path mode) names is fits = path_names_fit path names is fits.0
names_fit (op.Stat path) names is fits = path_names_fit path names is fits
names_fit (op.Access path want) names is fits = path_names_fit path names is fits.0
names_fit (op.Chmod path mode) names is fits = path_names_fit path names is fits.0
names_fit (op.Chown path uid gid) names is fits = path_names_fit path names is fits.0
names_fit (op.Truncate path size) names is fits = path_names_fit path names is fits.0
names_fit (op.Unlink path) names is fits = path_names_fit path names is fits
names_fit (op.Rmdir path) names is fits = absurd (cc)
names_fit (op.Rename old new) names is fits = absurd (cc)
names_fit (op.List path) names is fits = path_names_fit path names is fits
names_fit (op.Place name rule) names is fits = absurd (cc)

names_of : (call : Op) (o : Option (List (List ℕ))) → row_names call ≡ o → IsTrue (is_some o) → op_field.Fits call → HasNames call
names_of call None is some fits = absurd (cc)
names_of call (Some names) is some fits = (names, (is, names_fit call names is fits))

-- ---- calls that are not skipped

-- the call leaves, is to wait for a directory, or is ready
abbrev pub GoesOn : Fate → Type 0
GoesOn Skips = ⊥
GoesOn (Leaves to) = Unit {0}
GoesOn (Waits key) = Unit {0}
GoesOn (Joins denied parent last keys) = Unit {0}

bars_none : (last : Option (List ℕ)) → is_blocked Nothing last ≡ false
bars_none None = refl
bars_none (Some name) = refl

-- it is not skipped where nothing is blocked or shut
goes_by : (s : Setting) (tree : Tree) (call : CallRec) (names : List (List ℕ)) (f : Fate) → s.blocked ≡ Nothing → s.shut ≡ [] → IsFateOf s tree call (Some names) f → GoesOn f
goes_by s tree call names Skips blocked shut is =
    ⊎_elim
    (λ bars. let wrong : false ≡ true = sym (bars_none (last_of names)) ∙ ap (λ b. is_blocked b (last_of names)) (sym blocked) ∙ bars in absurd (cc))
    (λ meets. let wrong : false ≡ true = ap (is_among meets.0) (sym shut) ∙ meets.2 in absurd (cc))
    is
goes_by s tree call names (Leaves to) blocked shut is = tt
goes_by s tree call names (Waits key) blocked shut is = tt
goes_by s tree call names (Joins denied parent last keys) blocked shut is = tt

-- ---- the calls that wait at a node

module _ (config : Config) (w : World) (n : ℕ) (h : Ghost) (other : n ≢ 255) (s : Shows config w h) where
  abbrev setting : Setting
  setting = setting_at (w.nodes n)

  abbrev tree : Tree
  tree = tree_now w.commits

  -- each directory of the replica is the tree's
  dirs_at : AreDirs tree (w.nodes n).replica
  dirs_at = subst (AreDirs tree) (at_seat (λ m. (w.nodes m).replica) w.coord.replica n other) (s.good.ground.replicas n)

  pub waits_busy : (c : WaitingCall) → WaitsAt h.call h.phase n c → h.phase (lane_of c) ≢ Idle
  waits_busy c at e = let wrong : Idle ≡ phase.Waits n c.fetch = sym e ∙ at.0 in absurd (cc)

  pub names_at : (c : WaitingCall) → WaitsAt h.call h.phase n c → HasNames c.call.op
  names_at c at = names_of c.call.op (row_names c.call.op) refl at.3 (subst (λ (k : CallRec). op_field.Fits k.op) (sym at.1) (s.good.lanes.under_way.fits (lane_of c) (waits_busy c at)))

  -- each waiting call has a fate by the tree
  pub fate_now : (c : WaitingCall) → WaitsAt h.call h.phase n c → IsFate setting tree c.call (fate setting c.call)
  fate_now c at = let names = names_at c at in fate_is setting tree c.call names.0 dirs_at names.1.0 names.1.1

  pub fate_named : (c : WaitingCall) (at : WaitsAt h.call h.phase n c) → IsFateOf setting tree c.call (Some (names_at c at).0) (fate setting c.call)
  fate_named c at = subst (λ o. IsFateOf setting tree c.call o (fate setting c.call)) (names_at c at).1.0 (fate_now c at)

  -- none is skipped where nothing is blocked or shut
  goes_now : (w.nodes n).blocked ≡ None → (w.nodes n).locks.shut ≡ None → (c : WaitingCall) → WaitsAt h.call h.phase n c → GoesOn (fate setting c.call)
  goes_now free none c at =
      let blocked : setting.blocked ≡ Nothing = ap (λ b. blocked_names b) free in
      let shut : setting.shut ≡ [] = ap (λ o. shut_keys_of o) none in
      goes_by setting tree c.call (names_at c at).0 (fate setting c.call) blocked shut (fate_named c at)

  pub fates_go : (w.nodes n).blocked ≡ None → (w.nodes n).locks.shut ≡ None → Each (λ x. GoesOn (fate setting x.call)) (w.nodes n).waiting.calls
  fates_go free none = each_weaker (WaitsAt h.call h.phase n) _ (w.nodes n).waiting.calls (λ x at. goes_now free none x at) (s.held n).waiters
