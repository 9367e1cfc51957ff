-- The walks of all paths of a call: where the first that is not ready stops, and what the answer then is.
use Rattle.std.proofs.Common.{◌≡◌, ℕ, Bool, true, false, ◌||◌, ◌&&◌, List, [], ◌∷◌, ◌++◌, Option, Some, None, IsSomeAnd, if◌then◌else◌, refl, sym, ap, ◌∙◌, subst}
use Rattle.std.specs.List.{All}
use Rattle.std.proofs.lemmas.Option.{same_Some}
use Rattle.fal_base.specs.declared.call.CallRec.{CallRec}
use Rattle.fal_base.specs.declared.call.Cred.{Cred}
use Rattle.fal_base.specs.declared.inode.Inode.{Inode}
use Rattle.fal_base.specs.declared.key.Key.{Key}
use Rattle.fal_base.specs.declared.op.Op.{Op}
use Rattle.fal_base.specs.declared.op.Op.TheVariants as op
use Rattle.fal_base.specs.declared.path.PathArg.TheVariants.{Good}
use Rattle.fal_base.specs.declared.reply.Errno.{Errno}
use Rattle.fal_base.specs.declared.reply.Errno.TheVariants.{Ebusy}
use Rattle.fal_base.specs.declared.reply.Reply.{Reply}
use Rattle.fal_base.specs.declared.reply.Reply.TheVariants.{Fail}
use Rattle.fal_base.specs.Answer.{answer, walked, is_root}
use Rattle.fal_base.specs.Change.{makes, changes, is_fine}
use Rattle.fal_base.specs.Tree.{Tree}
use Rattle.fal_base.specs.Walk.{Walked, Stop, Ready, walk}
use Rattle.fal_coord.specs.Walks.{walked_paths, is_busy, is_walking}
use Rattle.fal_dentry.specs.TreeWalk.{way}
use Rattle.fal_dentry.specs.Walk.{is_among}
use Rattle.fal_exec.proofs.Stopped.{stopped_answer}
use Rattle.fal_exec.specs.RowCall.{row_names}
use Rattle.fal_story.proofs.Families.Asking.{Crosses, IsCrossed}
use Rattle.fal_story.proofs.Trees.Changed.{up_to}
use Rattle.fal_story.proofs.Trees.Paths.{ways_to}
use Rattle.fal_story.proofs.Trees.Standing.{Reaches, is_ready, reaches, paths_or, call_paths}

-- ---- a call of one path

one_reached : (tree : Tree) (call : CallRec) (key : Key) (rest : List (List (List ℕ))) (o : Option (List (List ℕ)))
    → IsSomeAnd o (λ names. is_among key (way tree call.cred names) ≡ true) → reaches tree call.cred (paths_or o rest) key ≡ true
one_reached tree call key rest None is = absurd is
one_reached tree call key rest (Some names) is = ap (λ b. b || (is_ready (walk tree call.cred names) && false)) is

one_crossed : (tree : Tree) (call : CallRec) (key : Key) (crossed : List Key) (rest : List (List (List ℕ))) (o : Option (List (List ℕ)))
    → IsSomeAnd o (λ names. is_among key (way tree call.cred names) ≡ true) → IsSomeAnd o (λ names. All (IsCrossed crossed) (up_to key (way tree call.cred names))) → All (IsCrossed crossed) (ways_to tree call.cred (paths_or o rest) key)
one_crossed tree call key crossed rest None is all = absurd is
one_crossed tree call key crossed rest (Some names) is all =
    subst (λ b. All (IsCrossed crossed) (if b then up_to key (way tree call.cred names) else way tree call.cred names ++ [])) (sym is) all

-- the walk of its path comes to the key, by keys that it has crossed
pub reaches_by : (tree : Tree) (call : CallRec) (key : Key) → IsSomeAnd (row_names call.op) (λ names. is_among key (way tree call.cred names) ≡ true) → Reaches tree call key
reaches_by tree call key is = one_reached tree call key _ (row_names call.op) is

pub crosses_by : (tree : Tree) (call : CallRec) (key : Key) (crossed : List Key) → IsSomeAnd (row_names call.op) (λ names. is_among key (way tree call.cred names) ≡ true)
    → IsSomeAnd (row_names call.op) (λ names. All (IsCrossed crossed) (up_to key (way tree call.cred names))) → Crosses tree call key crossed
crosses_by tree call key crossed is all = one_crossed tree call key crossed _ (row_names call.op) is all

-- ---- where the walks stop

abbrev pub stop_or : Walked → Option Errno → Option Errno
stop_or (Stop errno) later = Some errno
stop_or (Ready parent passed last) later = later

-- the errno of the first walk that is not ready
abbrev pub first_stop : Tree → Cred → List (List (List ℕ)) → Option Errno
first_stop tree cred [] = None
first_stop tree cred (names ∷ rest) = stop_or (walk tree cred names) (first_stop tree cred rest)

-- each walk that comes to the key stops there
abbrev pub StopsAt : Tree → Key → Errno → Type 0
StopsAt tree key errno = (cred : Cred) (names : List (List ℕ)) → is_among key (way tree cred names) ≡ true → walk tree cred names ≡ Stop errno

ready_or : (w : Walked) (reach : Bool) (later : Option Errno) (errno : Errno) → (reach ≡ true → later ≡ Some errno) → (is_ready w && reach) ≡ true → stop_or w later ≡ Some errno
ready_or (Stop other) reach later errno on is = absurd (cc)
ready_or (Ready parent passed last) reach later errno on is = on is

-- walks that come to such a key stop
pub reach_stops : (tree : Tree) (cred : Cred) (key : Key) (errno : Errno) (ps : List (List (List ℕ))) → StopsAt tree key errno → reaches tree cred ps key ≡ true → first_stop tree cred ps ≡ Some errno
reach_stops tree cred key errno [] stops is = absurd (cc)
reach_stops tree cred key errno (names ∷ rest) stops is =
    elim (is_among key (way tree cred names)) as (λ b. is_among key (way tree cred names) ≡ b → (b || (is_ready (walk tree cred names) && reaches tree cred rest key)) ≡ true → stop_or (walk tree cred names) (first_stop tree cred rest) ≡ Some errno) [
      | true ↦ λ on _. ap (λ w. stop_or w (first_stop tree cred rest)) (stops cred names on)
      | false ↦ λ _ is. ready_or (walk tree cred names) (reaches tree cred rest key) (first_stop tree cred rest) errno (reach_stops tree cred key errno rest stops) is
    ] refl is

-- ---- what is answered then

only_stop : (w : Walked) (errno : Errno) → stop_or w None ≡ Some errno → w ≡ Stop errno
only_stop (Stop other) errno is = ap Stop (same_Some other errno is)
only_stop (Ready parent passed last) errno is = absurd (cc)

by_second : (w : Walked) (errno : Errno) (go : Option Inode → List ℕ → Key → Reply) → stop_or w None ≡ Some errno → walked w go ≡ Fail errno
by_second (Stop other) errno go is = ap Fail (same_Some other errno is)
by_second (Ready parent passed last) errno go is = absurd (cc)

by_first : (w : Walked) (later : Option Errno) (errno : Errno) (go : Option Inode → List ℕ → Key → Reply) → ((parent : Option Inode) (passed : List ℕ) (last : Key) → later ≡ Some errno → go parent passed last ≡ Fail errno)
    → stop_or w later ≡ Some errno → walked w go ≡ Fail errno
by_first (Stop other) later errno go on is = ap Fail (same_Some other errno is)
by_first (Ready parent passed last) later errno go on is = on parent passed last is

abbrev Going : Type 0
Going = Option Inode → List ℕ → Key → Reply

rmdir_stopped : (tree : Tree) (cred : Cred) (errno : Errno) (b : Bool) (path : List (List ℕ)) (go : Going) → first_stop tree cred (if b then [] else path ∷ []) ≡ Some errno
    → (if b then Fail Ebusy else walked (walk tree cred path) go) ≡ Fail errno
rmdir_stopped tree cred errno true path go is = absurd (cc)
rmdir_stopped tree cred errno false path go is = by_second (walk tree cred path) errno go is

rename_stopped : (tree : Tree) (cred : Cred) (errno : Errno) (b : Bool) (old new : List (List ℕ)) (go : Option Inode → List ℕ → Key → Going) → first_stop tree cred (if b then [] else old ∷ new ∷ []) ≡ Some errno
    → (if b then Fail Ebusy else walked (walk tree cred old) (λ parent passed last. walked (walk tree cred new) (go parent passed last))) ≡ Fail errno
rename_stopped tree cred errno true old new go is = absurd (cc)
rename_stopped tree cred errno false old new go is =
    by_first (walk tree cred old) (stop_or (walk tree cred new) None) errno (λ parent passed last. walked (walk tree cred new) (go parent passed last))
    (λ parent passed last later. by_second (walk tree cred new) errno (go parent passed last) later)
    is

operation_stopped : (tree : Tree) (cred : Cred) (call : Op) (errno : Errno) → row_names call ≡ None → first_stop tree cred (if is_busy call then [] else walked_paths call) ≡ Some errno → answer tree cred call ≡ Fail errno
operation_stopped tree cred (op.Rmdir (Good path)) errno none is = rmdir_stopped tree cred errno (is_root path) path _ is
operation_stopped tree cred (op.Rename (Good old) (Good new)) errno none is = rename_stopped tree cred errno (is_root old || is_root new) old new _ is
operation_stopped tree cred (op.Chmod (Good path) mode) errno none is = absurd (cc)
operation_stopped tree cred (op.Chown (Good path) uid gid) errno none is = absurd (cc)
operation_stopped tree cred other errno none is = absurd (cc)

-- the answer is the errno of the first walk that stops, and there is no commit
pub paths_stopped : (tree : Tree) (cred : Cred) (call : Op) (errno : Errno) → first_stop tree cred (call_paths call) ≡ Some errno → answer tree cred call ≡ Fail errno
paths_stopped tree cred call errno is =
    elim (row_names call) as (λ o. row_names call ≡ o → first_stop tree cred (paths_or o (if is_busy call then [] else walked_paths call)) ≡ Some errno → answer tree cred call ≡ Fail errno) [
      | None ↦ λ none is. operation_stopped tree cred call errno none is
      | Some names ↦ λ one is. stopped_answer tree cred call names errno one (only_stop (walk tree cred names) errno is)
    ] refl is

-- a call whose walks come to a key where they stop fails so
pub reached_fails : (tree : Tree) (call : CallRec) (key : Key) (errno : Errno) → StopsAt tree key errno → Reaches tree call key → answer tree call.cred call.op ≡ Fail errno
reached_fails tree call key errno stops is = paths_stopped tree call.cred call.op errno (reach_stops tree call.cred key errno (call_paths call.op) stops is)

and_none : (b : Bool) → (b && false) ≡ false
and_none true = refl
and_none false = refl

-- what fails makes no commit
pub failed_makes : (tree : Tree) (cred : Cred) (call : Op) (errno : Errno) → answer tree cred call ≡ Fail errno → makes tree cred call ≡ false
failed_makes tree cred call errno fails = ap (λ reply. changes tree cred call && is_fine reply) fails ∙ and_none (changes tree cred call)

-- ---- an operation

-- of an operation, but of one on the root, these are the paths that the coordinator walks
pub operation_paths_are : (call : Op) → is_walking call ≡ true → is_busy call ≡ false → call_paths call ≡ walked_paths call
operation_paths_are (op.Chmod (Good path) mode) is busy = refl
operation_paths_are (op.Chown (Good path) uid gid) is busy = refl
operation_paths_are (op.Rmdir (Good path)) is busy = ap (λ b. if b then [] else path ∷ []) busy
operation_paths_are (op.Rename (Good old) (Good new)) is busy = ap (λ b. if b then [] else old ∷ new ∷ []) busy
operation_paths_are other is busy = absurd (cc)

-- a busy one is answered by that
pub busy_answered : (tree : Tree) (cred : Cred) (call : Op) → is_busy call ≡ true → answer tree cred call ≡ Fail Ebusy
busy_answered tree cred (op.Rmdir (Good path)) busy = rw busy refl
busy_answered tree cred (op.Rename (Good old) (Good new)) busy = rw busy refl
busy_answered tree cred other busy = absurd (cc)
