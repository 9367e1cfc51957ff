-- What a shut key keeps off: no entry, no pending fetch, and no call whose place rests on the key.
use Rattle.std.proofs.Common.{◌≡◌, ⊎_elim, ℕ, true, List, Option, Some, None, subst, ◌∙◌}
use Rattle.std.specs.Prelude.{slice_get}
use Rattle.fal_base.specs.declared.inode.Dentry.{Dentry}
use Rattle.fal_base.specs.declared.key.Key.{Key}
use Rattle.fal_base.specs.Maps.{value_at, with_value}
use Rattle.fal_base.proofs.Maps.{put_cases}
use Rattle.fal_dentry.specs.Walk.{Dentries, is_among}
use Rattle.fal_locks.specs.declared.holder.Shut.{Shut}
use Rattle.fal_story.proofs.Lists.Grown.{put_all}
use Rattle.fal_story.proofs.Phase.{Phase, IsBare, IsCrossing, bare_crosses}
use Rattle.fal_story.proofs.View.{Asking}
use Rattle.fal_story.specs.World.{put}

abbrev pub IsShut : Option Shut → Key → Type 0
IsShut None key = ⊥
IsShut (Some s) key = is_among key s.keys ≡ true

abbrev pub IsOff : (ℕ → Option Shut) → (ℕ → List Key) → (ℕ → Phase) → ℕ → Type 0
IsOff shut crossed phase l = (n : ℕ) (key : Key) → IsCrossing n (phase l) → is_among key (crossed l) ≡ true → IsShut (shut n) key → ⊥

pub record Clear (shut : ℕ → Option Shut) (known : ℕ → Dentries) (pending : ℕ → List Asking) (crossed : ℕ → List Key) (phase : ℕ → Phase) : Type 0 where
  pub replica : (n : ℕ) (key : Key) → IsShut (shut n) key → value_at (known n) key ≡ None
  pub fetch : (n j : ℕ) (f : Asking) → slice_get (pending n) j ≡ Some f → IsShut (shut n) f.key → ⊥
  pub ways : (l : ℕ) → IsOff shut crossed phase l

module _ {shut : ℕ → Option Shut} {replica : ℕ → Dentries} {fetches : ℕ → List Asking} {crossed : ℕ → List Key} {phase : ℕ → Phase} (g : Clear shut replica fetches crossed phase) where
  -- calls move to places that rest on no shut key
  pub clear_moved : (crossed' : ℕ → List Key) (phase' : ℕ → Phase) → ((l : ℕ) → IsOff shut crossed' phase' l) → Clear shut replica fetches crossed' phase'
  clear_moved crossed' phase' off = record { replica = g.replica; fetch = g.fetch; ways = off }

  -- a call moves to a place that rests on no key
  pub clear_put : (l : ℕ) (p : Phase) → IsBare p → Clear shut replica fetches crossed (put phase l p)
  clear_put l p bare = record {
    replica = g.replica;
    fetch = g.fetch;
    ways = put_all (λ l p. (n : ℕ) (key : Key) → IsCrossing n p → is_among key (crossed l) ≡ true → IsShut (shut n) key → ⊥) phase l p (λ n key is _ _. bare_crosses n p bare is) (λ l _. g.ways l);
  }

  -- one more directory in a replica
  pub clear_learned : (n : ℕ) (key : Key) (dentry : Dentry) → (IsShut (shut n) key → ⊥) → Clear shut (put replica n (with_value (replica n) key dentry)) fetches crossed phase
  clear_learned n key dentry off = record {
    replica = put_all (λ m r. (q : Key) → IsShut (shut m) q → value_at r q ≡ None) replica n (with_value (replica n) key dentry)
        (λ q is. ⊎_elim (λ x. absurd (off (subst (IsShut (shut n)) x.0 is))) (λ x. x.1 ∙ g.replica n q is) (put_cases q key dentry (replica n)))
        (λ m _. g.replica m);
    fetch = g.fetch;
    ways = g.ways;
  }

  -- a node opens its keys
  pub clear_reopened : (n : ℕ) → Clear (put shut n None) replica fetches crossed phase
  clear_reopened n = record {
    replica = put_all (λ m s. (q : Key) → IsShut s q → value_at (replica m) q ≡ None) shut n None (λ q is. absurd is) (λ m _. g.replica m);
    fetch = put_all (λ m s. (j : ℕ) (f : Asking) → slice_get (fetches m) j ≡ Some f → IsShut s f.key → ⊥) shut n None (λ j f at is. is) (λ m _. g.fetch m);
    ways = λ l n' key at among. put_all (λ m s. IsCrossing m (phase l) → IsShut s key → ⊥) shut n None (λ _ is. is) (λ m _ at is. g.ways l m key at among is) n' at;
  }

  -- a replica loses entries
  pub clear_dropped : (n : ℕ) (r : Dentries) → ((key : Key) → value_at (replica n) key ≡ None → value_at r key ≡ None) → Clear shut (put replica n r) fetches crossed phase
  clear_dropped n r fewer = record {
    replica = put_all (λ m r. (q : Key) → IsShut (shut m) q → value_at r q ≡ None) replica n r (λ q is. fewer q (g.replica n q is)) (λ m _. g.replica m);
    fetch = g.fetch;
    ways = g.ways;
  }

  -- a node shuts keys, under which it has no entry, for which it asks nothing, and on which none of its calls rests
  pub clear_shut : (n : ℕ) (s : Shut) → ((key : Key) → is_among key s.keys ≡ true → value_at (replica n) key ≡ None) → ((j : ℕ) (f : Asking) → slice_get (fetches n) j ≡ Some f → is_among f.key s.keys ≡ true → ⊥)
      → ((l : ℕ) (key : Key) → IsCrossing n (phase l) → is_among key (crossed l) ≡ true → is_among key s.keys ≡ true → ⊥) → Clear (put shut n (Some s)) replica fetches crossed phase
  clear_shut n s none asks off = record {
    replica = put_all (λ m s. (q : Key) → IsShut s q → value_at (replica m) q ≡ None) shut n (Some s) none (λ m _. g.replica m);
    fetch = put_all (λ m s. (j : ℕ) (f : Asking) → slice_get (fetches m) j ≡ Some f → IsShut s f.key → ⊥) shut n (Some s) asks (λ m _. g.fetch m);
    ways = λ l m key at among. put_all (λ m s. IsCrossing m (phase l) → IsShut s key → ⊥) shut n (Some s) (λ at is. off l key at among is) (λ m _ at is. g.ways l m key at among is) m at;
  }

  -- other fetches are pending, none for a shut key
  pub clear_fetched : (n : ℕ) (fs : List Asking) → ((j : ℕ) (f : Asking) → slice_get fs j ≡ Some f → IsShut (shut n) f.key → ⊥) → Clear shut replica (put fetches n fs) crossed phase
  clear_fetched n fs off = record {
    replica = g.replica;
    fetch = put_all (λ m fs. (j : ℕ) (f : Asking) → slice_get fs j ≡ Some f → IsShut (shut m) f.key → ⊥) fetches n fs off (λ m _. g.fetch m);
    ways = g.ways;
  }
