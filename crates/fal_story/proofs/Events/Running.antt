-- What becomes of lanes while a node executes calls: each stays where it is, or its call was at the node and is planned no more.
use Rattle.std.proofs.Common.{◌≡◌, ◌≢◌, ◌⊎◌, inl, inr, ⊎_elim, ℕ, refl, sym, subst, ◌∙◌}
use Rattle.fal_base.specs.declared.call.CallRec.{CallRec}
use Rattle.fal_run.specs.declared.call.BatchCall.{BatchCall}
use Rattle.fal_story.proofs.Events.Besides.{StaysThere}
use Rattle.fal_story.proofs.Events.Elsewhere.{for_elsewhere}
use Rattle.fal_story.proofs.Events.Shows.{Ghost}
use Rattle.fal_story.proofs.Lists.Grown.{put_all, put_both}
use Rattle.fal_story.proofs.Phase.{Phase, Plans, IsFor}
use Rattle.fal_story.specs.World.{put}

abbrev pub IsUnplanned : Phase → Type 0
IsUnplanned p = (m : ℕ) (x : BatchCall) → p ≢ Plans m x

abbrev pub HasStayed : Ghost → Ghost → ℕ → Type 0
HasStayed h later l = (later.phase l ≡ h.phase l) × (later.call l ≡ h.call l)

abbrev pub HasRun : ℕ → Ghost → Ghost → ℕ → Type 0
HasRun n h later l = IsFor n (h.phase l) × IsUnplanned (later.phase l)

pub record IsRunning (n : ℕ) (h later : Ghost) : Type 0 where
  pub crossed : (l : ℕ) → later.crossed l ≡ h.crossed l
  pub queued : (m : ℕ) → later.queued m ≡ h.queued m
  pub lanes : (l : ℕ) → HasStayed h later l ⊎ HasRun n h later l

pub running_none : (n : ℕ) (h : Ghost) → IsRunning n h h
running_none n h = record { crossed = λ l. refl; queued = λ m. refl; lanes = λ l. inl (refl, refl) }

-- one call goes on to another place
pub running_put : (n l : ℕ) (h : Ghost) (q : Phase) → IsFor n (h.phase l) → IsUnplanned q → IsRunning n h (record h { phase = put h.phase l q })
running_put n l h q at off = record {
  crossed = λ a. refl;
  queued = λ m. refl;
  lanes = put_all (λ a p. ((p ≡ h.phase a) × (h.call a ≡ h.call a)) ⊎ (IsFor n (h.phase a) × IsUnplanned p)) h.phase l q (inr (at, off)) (λ a _. inl (refl, refl));
}

-- as another record
pub running_called : (n l : ℕ) (h : Ghost) (c : CallRec) (q : Phase) → IsFor n (h.phase l) → IsUnplanned q → IsRunning n h (record h { call = put h.call l c; phase = put h.phase l q })
running_called n l h c q at off = record {
  crossed = λ a. refl;
  queued = λ m. refl;
  lanes = put_both (λ a d p. ((p ≡ h.phase a) × (d ≡ h.call a)) ⊎ (IsFor n (h.phase a) × IsUnplanned p)) h.call h.phase l c q (inr (at, off)) (λ a _. inl (refl, refl));
}

-- what is planned no more stays so
pub run_stays : (n l : ℕ) (h later : Ghost) → IsRunning n h later → IsUnplanned (h.phase l) → IsUnplanned (later.phase l)
run_stays n l h later r off = ⊎_elim {C = IsUnplanned (later.phase l)} (λ same m x e. off m x (sym same.0 ∙ e)) (λ run. run.1) (r.lanes l)

pub running_next : (n : ℕ) (a b c : Ghost) → IsRunning n a b → IsRunning n b c → IsRunning n a c
running_next n a b c r t = record {
  crossed = λ l. t.crossed l ∙ r.crossed l;
  queued = λ m. t.queued m ∙ r.queued m;
  lanes = λ l. ⊎_elim {C = HasStayed a c l ⊎ HasRun n a c l}
      (λ one. ⊎_elim (λ two. inl (two.0 ∙ one.0, two.1 ∙ one.1)) (λ run. inr (subst (IsFor n) one.0 run.0, run.1)) (t.lanes l))
      (λ run. inr (run.0, run_stays n l b c t run.1))
      (r.lanes l);
}

-- the coordinator's calls stay
pub running_there : (n : ℕ) (h later : Ghost) → n ≢ 255 → IsRunning n h later → (l : ℕ) → StaysThere h.call later.call h.phase later.phase l
running_there n h later other r l = ⊎_elim (λ same. inl same) (λ run. inr (for_elsewhere n (h.phase l) other run.0)) (r.lanes l)

-- a call that is still planned was planned before, and rests on the same keys
pub running_planned : (n : ℕ) (h later : Ghost) → IsRunning n h later → (m l : ℕ) (p : BatchCall) → later.phase l ≡ Plans m p → (h.phase l ≡ Plans m p) × (h.crossed l ≡ later.crossed l)
running_planned n h later r m l p e = ⊎_elim {C = (h.phase l ≡ Plans m p) × (h.crossed l ≡ later.crossed l)} (λ same. (sym same.0 ∙ e, sym (r.crossed l))) (λ run. absurd (run.1 m p e)) (r.lanes l)
