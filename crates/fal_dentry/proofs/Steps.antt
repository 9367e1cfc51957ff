-- The walk over a replica, directory by directory.
use Rattle.std.proofs.Common.{◌≡◌, ℕ, true, false, List, [], ◌∷◌, ◌++◌, Option, Some, None, if◌then◌else◌, refl, sym, ap, ◌∙◌, append_assoc}
use Rattle.fal_base.specs.declared.call.Cred.{Cred}
use Rattle.fal_base.specs.declared.inode.Dentry.{Dentry}
use Rattle.fal_base.specs.declared.key.Key.{Key}
use Rattle.fal_base.specs.declared.reply.Errno.TheVariants.{Eacces}
use Rattle.fal_base.specs.Tree.{key_of}
use Rattle.fal_base.specs.Walk.{dentry_grants}
use Rattle.fal_base.specs.Maps.{value_at}
use Rattle.fal_dentry.specs.Walk.{Dentries, ReplicaWalk, Shut, Missing, Stop, Ready, is_among, past, into_dir, walk_on}

-- the directories under these keys were found, with these numbers, and passed
abbrev pub all_past : List Key → List ℕ → ReplicaWalk → ReplicaWalk
all_past keys inos (Shut key) = Shut key
all_past keys inos (Missing key more) = Missing key (keys ++ more)
all_past keys inos (Stop errno more) = Stop errno (keys ++ more)
all_past keys inos (Ready parent others more) = Ready parent (inos ++ others) (keys ++ more)

pub one_more : (keys : List Key) (inos : List ℕ) (key : Key) (ino : ℕ) (end : ReplicaWalk) → all_past keys inos (past key ino end) ≡ all_past (keys ++ key ∷ []) (inos ++ ino ∷ []) end
one_more keys inos key ino (Shut shut) = refl
one_more keys inos key ino (Missing gap more) = ap (Missing gap) (sym (append_assoc keys (key ∷ []) more))
one_more keys inos key ino (Stop errno more) = ap (Stop errno) (sym (append_assoc keys (key ∷ []) more))
one_more keys inos key ino (Ready parent others more) = λ i. Ready parent (sym (append_assoc inos (ino ∷ []) others) i) (sym (append_assoc keys (key ∷ []) more) i)

module _ (entries : Dentries) (cred : Cred) (shut : List Key) (parent : Option Dentry) (key : Key) (name : List ℕ) (names : List (List ℕ)) where
  -- the walk once the directory is found
  abbrev pub found : Dentry → ReplicaWalk
  found dir = if dentry_grants cred 1 dir then past key dir.ino (walk_on entries cred shut (Some dir) (key_of dir.ino name) names) else Stop Eacces (key ∷ [])

  pub at_shut : is_among key shut ≡ true → walk_on entries cred shut parent key (name ∷ names) ≡ Shut key
  at_shut is = ap (λ b. if b then Shut key else into_dir key (value_at entries key) found) is

  at_open : is_among key shut ≡ false → walk_on entries cred shut parent key (name ∷ names) ≡ into_dir key (value_at entries key) found
  at_open is = ap (λ b. if b then Shut key else into_dir key (value_at entries key) found) is

  pub at_gap : is_among key shut ≡ false → value_at entries key ≡ None → walk_on entries cred shut parent key (name ∷ names) ≡ Missing key []
  at_gap is none = at_open is ∙ ap (λ o. into_dir key o found) none

  module _ (dir : Dentry) where
    at_dir : is_among key shut ≡ false → value_at entries key ≡ Some dir → walk_on entries cred shut parent key (name ∷ names) ≡ found dir
    at_dir is some = at_open is ∙ ap (λ o. into_dir key o found) some

    pub at_refused : is_among key shut ≡ false → value_at entries key ≡ Some dir → dentry_grants cred 1 dir ≡ false → walk_on entries cred shut parent key (name ∷ names) ≡ Stop Eacces (key ∷ [])
    at_refused is some refused = at_dir is some ∙ ap (λ b. if b then past key dir.ino (walk_on entries cred shut (Some dir) (key_of dir.ino name) names) else Stop Eacces (key ∷ [])) refused

    pub at_granted : is_among key shut ≡ false → value_at entries key ≡ Some dir → dentry_grants cred 1 dir ≡ true → walk_on entries cred shut parent key (name ∷ names) ≡ past key dir.ino (walk_on entries cred shut (Some dir) (key_of dir.ino name) names)
    at_granted is some granted = at_dir is some ∙ ap (λ b. if b then past key dir.ino (walk_on entries cred shut (Some dir) (key_of dir.ino name) names) else Stop Eacces (key ∷ [])) granted

    pub walk_passes : (keys : List Key) (inos : List ℕ) → is_among key shut ≡ false → value_at entries key ≡ Some dir → dentry_grants cred 1 dir ≡ true
        → all_past (keys ++ key ∷ []) (inos ++ dir.ino ∷ []) (walk_on entries cred shut (Some dir) (key_of dir.ino name) names) ≡ all_past keys inos (walk_on entries cred shut parent key (name ∷ names))
    walk_passes keys inos is some granted = sym (ap (all_past keys inos) (at_granted is some granted) ∙ one_more keys inos key dir.ino _)
