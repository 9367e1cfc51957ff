-- A run that takes its first fresh event again and again.
use Rattle.std.proofs.Common.{◌≡◌, ⊎_elim, ℕ, List, [], ◌∷◌, ◌++◌, length, Some, None, refl, sym, ap, subst, ◌∙◌, arith}
use Rattle.std.specs.Prelude.{slice_get, take}
use Rattle.std.proofs.lemmas.List.{append_assoc, append-nil, take-append-le}
use Rattle.fal_base.specs.declared.call.Config.{Config}
use Rattle.fal_base.specs.declared.event.Event.{Event}
use Rattle.fal_story.proofs.Lists.Grown.{slice_get_snoc, slice_get_below}
use Rattle.fal_story.specs.Fresh.{first_reply}
use Rattle.fal_story.specs.Told.{Told}
use Rattle.fal_alone.specs.Extends.{Extends, DrainsTo}
use Rattle.fal_alone.specs.Turns.{with_event}

-- each event was the first fresh one
abbrev pub AreFirst : Config → List Event → List Event → Type 0
AreFirst config events more = (k : ℕ) (e : Event) → slice_get more k ≡ Some e → first_reply config (events ++ take k more) ≡ Some e

-- the run so far: each event beyond those of before was the first fresh one
pub record Drains (before now : Told) : Type 0 where
  pub config : now.config ≡ before.config
  pub more : List Event
  pub events : now.events ≡ before.events ++ more
  pub each : AreFirst before.config before.events more

take_all : {A : Type 0} (xs ys : List A) → take (length xs) (xs ++ ys) ≡ xs
take_all [] ys = refl
take_all (x ∷ xs) ys = ap (λ zs. x ∷ zs) (take_all xs ys)

first_snoc : (config : Config) (events more : List Event) (e : Event) → AreFirst config events more → first_reply config (events ++ more) ≡ Some e → AreFirst config events (more ++ e ∷ [])
first_snoc config events more e each first k x at =
    ⊎_elim
    (λ old.
    let below = slice_get_below more k x old in
    subst (λ xs. first_reply config (events ++ xs) ≡ Some x) (sym (take-append-le k more (e ∷ []) (omega arith))) (each k x old))
    (λ new.
    subst (λ n. first_reply config (events ++ take n (more ++ e ∷ [])) ≡ Some x) (sym new.0)
    (subst (λ xs. first_reply config (events ++ xs) ≡ Some x) (sym (take_all more (e ∷ []))) (first ∙ ap Some new.1)))
    (slice_get_snoc more e k x at)

-- nothing was taken yet
pub drains_not_yet : (before : Told) → Drains before before
drains_not_yet before = record { config = refl; more = []; events = sym (append-nil before.events); each = λ k e at. absurd (cc) }

-- the first fresh event is taken
pub drains_on : (before now next : Told) (e : Event) → Drains before now → first_reply now.config now.events ≡ Some e → next ≡ with_event now e → Drains before next
drains_on before now next e d first is =
    let here : first_reply before.config (before.events ++ d.more) ≡ Some e = subst (λ c. first_reply c (before.events ++ d.more) ≡ Some e) d.config (subst (λ es. first_reply now.config es ≡ Some e) d.events first) in
    subst (Drains before) (sym is) (record {
      config = d.config;
      more = d.more ++ e ∷ [];
      events = ap (λ es. es ++ e ∷ []) d.events ∙ append_assoc before.events d.more (e ∷ []);
      each = first_snoc before.config before.events d.more e d.each here;
    })

pub drains_extend : (before now : Told) → Drains before now → Extends before now
drains_extend before now d = (d.config, (d.more, d.events))

-- with none left
pub drains_to : (before now : Told) → Drains before now → first_reply now.config now.events ≡ None → DrainsTo before now
drains_to before now d none =
    let here : first_reply before.config (before.events ++ d.more) ≡ None = subst (λ c. first_reply c (before.events ++ d.more) ≡ None) d.config (subst (λ es. first_reply now.config es ≡ None) d.events none) in
    (d.more, (d.events, record { each = d.each; none = here }))
