-- What a call at a node waits on is a key in the ranges, and where its client is told of a later table that has a higher version.
use Rattle.std.proofs.Common.{◌≡◌, ℕ, Bool, true, false, not, ◌&&◌, cond, List, [], ◌∷◌, ◌++◌, Option, Some, None, refl, sym, subst, ◌==◌, ◌<◌}
use Rattle.std.proofs.lemmas.Option.{same_Some}
use Rattle.fal_base.specs.declared.call.CallRec.{CallRec}
use Rattle.fal_base.specs.declared.call.Cred.{Cred}
use Rattle.fal_base.specs.declared.inode.Dentry.{Dentry}
use Rattle.fal_base.specs.declared.key.Key.{Key}
use Rattle.fal_base.specs.declared.op.Op.{Op}
use Rattle.fal_base.specs.declared.op.Op.TheVariants as op
use Rattle.fal_base.specs.declared.path.PathArg.{PathArg}
use Rattle.fal_base.specs.declared.path.PathArg.TheVariants.{Good, Bad}
use Rattle.fal_base.specs.declared.reply.Errno.TheVariants.{Eacces}
use Rattle.fal_base.specs.Maps.{value_at}
use Rattle.fal_base.specs.Tree.{key_of, root_key}
use Rattle.fal_base.specs.Walk.{dentry_grants}
use Rattle.fal_batch.specs.Fate.{Setting, Fate, Skips, Leaves, Waits, Joins, last_of, is_blocked, goes_by_parent, away_to, fate_at, fate_walked, walk_of, is_elsewhere, fate_by, fate}
use Rattle.fal_base.specs.OpPaths.{good_names, op_names}
use Rattle.fal_dentry.specs.TreeWalk.{last_key, last_name}
use Rattle.fal_dentry.specs.Walk.{Dentries, ReplicaWalk, Shut, Missing, Stop, Ready, is_among, past, into_dir, walk_on}
use Rattle.fal_place.specs.Placement.{route, owner}
use Rattle.fal_wire.specs.Format.{AreItems}
use Rattle.fal_wire.specs.Names.{name_field, key_field, path_names, path_field, path_arg_field}
use Rattle.fal_wire.specs.Ops.{path_and_mode, path_and_want, path_and_owner, path_and_size, op_field, call_field}
use Rattle.fal_wire.specs.Rows.{dentry_field}
use Rattle.fal_story.proofs.Lists.Each.{Each}
use Rattle.fal_story.proofs.Ranges.MessageRanges.{root_fits, under_fits}
use Rattle.fal_story.proofs.Ranges.RowRanges.{op_of_call}
use Rattle.fal_story.proofs.Gathers.Leaving.{told_of}

-- ---- the names of a call

abbrev pub NamesFit : List (List ℕ) → Type 0
NamesFit names = Each name_field.Fits names

items_fit : (last : Option (List ℕ)) (names : List (List ℕ)) → AreItems (λ _. name_field) last names → NamesFit names
items_fit last [] h = tt
items_fit last (name ∷ names) h = (h.0, items_fit (Some name) names h.1)

path_names_fit : (names : List (List ℕ)) → path_field.Fits names → NamesFit names
unfolding path_field path_names
path_names_fit names h = items_fit None names h.0.1.1

pub path_fit : (path : PathArg) (names : List (List ℕ)) → good_names path ≡ Some names → path_arg_field.Fits path → NamesFit names
unfolding path_arg_field
path_fit (Good names) other is h = subst NamesFit (same_Some names other is) (path_names_fit names h)
path_fit (Bad fault raw) other is h = absurd h

op_names_fit : (o : Op) (names : List (List ℕ)) → op_names o ≡ Some names → op_field.Fits o → NamesFit names
unfolding op_field path_and_mode path_and_want path_and_owner path_and_size
op_names_fit (op.Mkdir path mode) names is h = path_fit path names is h.0
op_names_fit (op.Create path mode) names is h = path_fit path names is h.0
op_names_fit (op.Stat path) names is h = path_fit path names is h
op_names_fit (op.Access path want) names is h = path_fit path names is h.0
op_names_fit (op.Chmod path mode) names is h = path_fit path names is h.0
op_names_fit (op.Chown path uid gid) names is h = path_fit path names is h.0
op_names_fit (op.Truncate path size) names is h = path_fit path names is h.0
op_names_fit (op.Unlink path) names is h = path_fit path names is h
op_names_fit (op.Rmdir path) names is h = path_fit path names is h
op_names_fit (op.Rename old new) names is h = absurd (cc)
op_names_fit (op.List path) names is h = path_fit path names is h
op_names_fit (op.Place name rule) names is h = absurd (cc)

-- ---- the walk

abbrev pub AreDentriesRanged : Dentries → Type 0
AreDentriesRanged entries = (key : Key) (dentry : Dentry) → value_at entries key ≡ Some dentry → dentry_field.Fits dentry

abbrev WalkFits : ReplicaWalk → Type 0
WalkFits (Shut key) = Unit {0}
WalkFits (Missing key keys) = key_field.Fits key
WalkFits (Stop errno keys) = Unit {0}
WalkFits (Ready parent inos keys) = Unit {0}

past_fits : (key : Key) (ino : ℕ) (walk : ReplicaWalk) → WalkFits walk → WalkFits (past key ino walk)
past_fits key ino (Shut shut) h = tt
past_fits key ino (Missing gap keys) h = h
past_fits key ino (Stop errno keys) h = tt
past_fits key ino (Ready parent inos keys) h = tt

into_fits : (key : Key) (found : Option Dentry) (go : Dentry → ReplicaWalk) → key_field.Fits key → ((dir : Dentry) → found ≡ Some dir → WalkFits (go dir)) → WalkFits (into_dir key found go)
into_fits key None go fits h = fits
into_fits key (Some dir) go fits h = h dir refl

walk_fits : (entries : Dentries) (cred : Cred) (shut : List Key) (parent : Option Dentry) (key : Key) (names : List (List ℕ)) → AreDentriesRanged entries → key_field.Fits key → NamesFit names
    → WalkFits (walk_on entries cred shut parent key names)
walk_fits entries cred shut parent key [] ranged fits named = tt
walk_fits entries cred shut parent key (name ∷ names) ranged fits named =
    elim (is_among key shut) as (λ b. WalkFits (cond b (Shut key) (into_dir key (value_at entries key) (λ dir.
    cond (dentry_grants cred 1 dir) (past key dir.ino (walk_on entries cred shut (Some dir) (key_of dir.ino name) names)) (Stop Eacces (key ∷ [])))))) [
      | true ↦ tt
      | false ↦ into_fits key (value_at entries key) _ fits (λ dir there.
          elim (dentry_grants cred 1 dir) as (λ b. WalkFits (cond b (past key dir.ino (walk_on entries cred shut (Some dir) (key_of dir.ino name) names)) (Stop Eacces (key ∷ [])))) [
            | true ↦ past_fits key dir.ino _ (walk_fits entries cred shut (Some dir) (key_of dir.ino name) names ranged (under_fits dir name (ranged key dir there) named.0) named.1)
            | false ↦ tt
          ])
    ]

-- ---- what becomes of the call

-- where its client is told that knows an older table, and where it waits the key is in the ranges
abbrev pub FateFits : Setting → CallRec → Fate → Type 0
FateFits s call Skips = Unit {0}
FateFits s call (Leaves to) = to ≡ None → call.version < s.table.version
FateFits s call (Waits key) = key_field.Fits key
FateFits s call (Joins denied parent last keys) = Unit {0}

at_fits : (s : Setting) (call : CallRec) (by_parent : Bool) (parent : Option Dentry) (keys : List Key) (last : Key) → FateFits s call (fate_at s by_parent parent keys last)
at_fits s call by_parent parent keys last =
    let joins = Joins false parent last (keys ++ last ∷ []) in
    let own : FateFits s call (cond (is_among last s.shut) Skips joins) = elim (is_among last s.shut) as (λ b. FateFits s call (cond b Skips joins)) [ true ↦ tt | false ↦ tt ] in
    elim (by_parent && not (owner s.table last == s.me)) as (λ b. FateFits s call (cond b (Leaves (Some (owner s.table last))) (cond (is_among last s.shut) Skips joins))) [
      | true ↦ λ e. absurd (cc)
      | false ↦ own
    ]

walked_fits : (s : Setting) (call : CallRec) (names : List (List ℕ)) (walk : ReplicaWalk) → WalkFits walk → FateFits s call (fate_walked s names walk)
walked_fits s call names (Shut key) h = tt
walked_fits s call names (Missing key keys) h = h
walked_fits s call names (Stop errno keys) h = tt
walked_fits s call names (Ready parent inos keys) h = at_fits s call (goes_by_parent s.table (last_of names)) parent keys (last_key parent (last_name names))

by_fits : (s : Setting) (call : CallRec) (names : Option (List (List ℕ))) → AreDentriesRanged s.dentries → ((ns : List (List ℕ)) → names ≡ Some ns → NamesFit ns) → FateFits s call (fate_by s call names)
by_fits s call None ranged fit = tt
by_fits s call (Some names) ranged fit =
    let away = Leaves (away_to s.table call (route s.table names)) in
    let walked = fate_walked s names (walk_of s call names) in
    let on : FateFits s call (cond (is_elsewhere s names) away walked) = elim (is_elsewhere s names) as (λ b. FateFits s call (cond b away walked)) [
      | true ↦ λ e. told_of s call (route s.table names) (sym e)
      | false ↦ walked_fits s call names (walk_of s call names) (walk_fits s.dentries call.cred s.shut None root_key names ranged root_fits (fit names refl))
    ] in
    elim (is_blocked s.blocked (last_of names)) as (λ b. FateFits s call (cond b Skips (cond (is_elsewhere s names) away walked))) [ true ↦ tt | false ↦ on ]

pub fate_fits : (s : Setting) (call : CallRec) → AreDentriesRanged s.dentries → call_field.Fits call → FateFits s call (fate s call)
unfolding fate
fate_fits s call ranged fits = by_fits s call (op_names call.op) ranged (λ names is. op_names_fit call.op names is (op_of_call call fits))
