-- The keys on which the place of a call rests: where its walk was made those of its way, and its last; where it waits for a directory those up to that one.
use Rattle.std.proofs.Common.{◌≡◌, true, false, ◌||◌, List, [], ◌∷◌, ◌++◌, Option, Some, None, ℕ, refl, sym, ap, subst, ◌∙◌, append-nil}
use Rattle.std.specs.Prelude.{if◌then◌else◌}
use Rattle.std.specs.List.{All}
use Rattle.std.proofs.lemmas.List.Elements.{All-weaker, All-cons, All-nil}
use Rattle.fal_base.specs.declared.call.CallRec.{CallRec}
use Rattle.fal_base.specs.declared.call.Cred.{Cred}
use Rattle.fal_base.specs.declared.key.Key.{Key}
use Rattle.fal_base.proofs.Maps.{same_key_is}
use Rattle.fal_base.specs.Tree.{Tree, same_key}
use Rattle.fal_base.specs.Walk.{Walked, Stop, Ready, walk}
use Rattle.fal_dentry.specs.TreeWalk.{way}
use Rattle.fal_dentry.specs.Walk.{is_among}
use Rattle.fal_exec.specs.RowCall.{row_names}
use Rattle.fal_story.proofs.Lists.Grown.{or_second}
use Rattle.fal_story.proofs.Trees.Changed.{up_to}

abbrev pub last_of_walk : Walked → List Key
last_of_walk (Stop errno) = []
last_of_walk (Ready dir passed last) = last ∷ []

abbrev pub footprint_of : Tree → Cred → Option (List (List ℕ)) → List Key
footprint_of tree cred None = []
footprint_of tree cred (Some names) = way tree cred names ++ last_of_walk (walk tree cred names)

abbrev pub footprint : Tree → CallRec → List Key
footprint tree call = footprint_of tree call.cred (row_names call.op)

-- of a call that waits for the directory under a key: those of its way up to there
abbrev pub way_to_of : Tree → Cred → Key → Option (List (List ℕ)) → List Key
way_to_of tree cred key None = []
way_to_of tree cred key (Some names) = up_to key (way tree cred names)

abbrev pub way_to : Tree → CallRec → Key → List Key
way_to tree call key = way_to_of tree call.cred key (row_names call.op)

abbrev IsOf : List Key → Key → Type 0
IsOf keys key = is_among key keys ≡ true

-- each key of a list is among it
pub among_front : (xs ys : List Key) → All (λ key. is_among key (xs ++ ys) ≡ true) xs
among_front [] ys = All-nil (IsOf ([] ++ ys))
among_front (x ∷ xs) ys =
    All-cons (IsOf ((x ∷ xs) ++ ys)) x xs
    (ap (λ b. b || is_among x (xs ++ ys)) ((same_key_is x x).1 refl))
    (All-weaker (IsOf (xs ++ ys)) (IsOf ((x ∷ xs) ++ ys)) (λ key is. or_second (same_key x key) (is_among key (xs ++ ys)) is) xs (among_front xs ys))

pub among_itself : (keys : List Key) → All (λ key. is_among key keys ≡ true) keys
among_itself keys = subst (λ ks. All (IsOf ks) keys) (append-nil keys) (among_front keys [])

pub among_end : (xs : List Key) (key : Key) → is_among key (xs ++ key ∷ []) ≡ true
among_end [] key = ap (λ b. b || false) ((same_key_is key key).1 refl)
among_end (x ∷ xs) key = or_second (same_key x key) (is_among key (xs ++ key ∷ [])) (among_end xs key)

-- a key to which a way comes is one of its keys
pub up_among : (key : Key) (keys : List Key) → is_among key (up_to key keys) ≡ true → is_among key keys ≡ true
up_among key [] is = is
up_among key (k ∷ keys) is =
    elim (same_key k key) as (λ b. same_key k key ≡ b → is_among key (if b then k ∷ [] else k ∷ up_to key keys) ≡ true → (b || is_among key keys) ≡ true) [
      | true ↦ λ same _. refl
      | false ↦ λ apart is. up_among key keys (sym (ap (λ b. b || is_among key (up_to key keys)) apart) ∙ is)
    ] refl is

pub comes_among : (key : Key) (way passed : List Key) → up_to key way ≡ passed ++ key ∷ [] → is_among key way ≡ true
comes_among key way passed is = up_among key way (ap (is_among key) is ∙ among_end passed key)
