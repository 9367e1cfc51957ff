-- What keeps held keys and shut keys apart.
use Rattle.std.proofs.Common.{◌≡◌, ℕ, Bool, true, false, not, ◌||◌, ◌==◌, List, [], ◌∷◌, length, filter, cond, nat_lt, refl, sym, ap, ◌∙◌, subst, Some, None, arith, suc, ◌+◌}
use Rattle.std.specs.List.{list_any, position, prefix_len}
use Rattle.std.specs.Ordering.{nat_cmp}
use Rattle.std.specs.Cmp.Lexicographic.{slice_cmp}
use Rattle.std.proofs.lemmas.List.Folds.{list_any-append}
use Rattle.std.proofs.lemmas.Map.Lookups.{CmpEqualImpliesEq, exact_unsigned, exact_bytes, exact_pairs}
use Rattle.std.proofs.lemmas.Map.Views.{tells_apart}
use Rattle.std.proofs.lemmas.Bool.Decides.{nat_tests}
use Rattle.fal_base.specs.declared.key.Key.{Key}
use Rattle.fal_base.specs.Tree.{key_cmp, same_key}
use Rattle.fal_locks.specs.declared.holder.Holder.{Holder}
use Rattle.fal_locks.specs.Keys.{has_key}
use Rattle.fal_locks.specs.Locks.{LockTable, IsApart, is_held, is_shut, shut_keys, first_shut, first_held, with_holder, without_holder, with_shut}

-- the order tells keys apart
pub key_exact : CmpEqualImpliesEq key_cmp
unfolding key_cmp
key_exact a b tie =
    ap (λ (p : ℕ × List ℕ). record { parent = p.0; name = p.1 })
    (exact_pairs nat_cmp (slice_cmp nat_cmp) exact_unsigned exact_bytes (a.parent, a.name) (b.parent, b.name) tie)

abbrev pub before : (Key → Bool) → List Key → ℕ
before p keys = prefix_len (λ key. not (p key)) keys

later : (p : Key → Bool) (key : Key) (keys : List Key) → nat_lt (before p (key ∷ keys)) (suc (length keys)) ≡ false → (p key ≡ false) × (nat_lt (before p keys) (length keys) ≡ false)
later p key keys absent =
    elim (p key) as (λ b. nat_lt (cond (not b) (1 + before p keys) 0) (suc (length keys)) ≡ false → (b ≡ false) × (nat_lt (before p keys) (length keys) ≡ false)) [
      | true ↦ λ h. grind (arith, nat_tests)
      | false ↦ λ h. (refl, grind (arith, nat_tests))
    ] absent

fails_on : (p : Key → Bool) (keys : List Key) → nat_lt (before p keys) (length keys) ≡ false → (key : Key) → has_key keys key ≡ true → p key ≡ false
fails_on p [] absent key among = cc
fails_on p (other ∷ keys) absent key among =
    let here = later p other keys absent in
    elim (same_key key other) as (λ b. same_key key other ≡ b → (b || has_key keys key) ≡ true → p key ≡ false) [
      | true ↦ λ same _. subst (λ k. p k ≡ false) (sym (tells_apart key_exact key other same)) here.0
      | false ↦ λ _ rest. fails_on p keys here.1 key rest
    ] refl among

no_place : (p : Key → Bool) (keys : List Key) → position p keys ≡ None → nat_lt (before p keys) (length keys) ≡ false
no_place p keys none =
    elim (nat_lt (before p keys) (length keys)) as (λ b. cond b (Some (before p keys)) None ≡ None → b ≡ false) [
      | true ↦ λ h. cc
      | false ↦ λ h. refl
    ] none

-- where no key of a list passes a test, none of its keys does
pub fails_among : (p : Key → Bool) (keys : List Key) → position p keys ≡ None → (key : Key) → has_key keys key ≡ true → p key ≡ false
fails_among p keys none = fails_on p keys (no_place p keys none)

either : (a b : Bool) → (a || b) ≡ true → (a ≡ false → b ≡ true)
either true b h wrong = cc
either false b h _ = h

-- keys of which none is shut are held, too
pub apart_with : (table : LockTable) (holder : ℕ) (keys : List Key) → IsApart table → first_shut table keys ≡ None → IsApart (with_holder table holder keys)
apart_with table holder keys apart none key held =
    elim (is_held table key) as (λ b. is_held table key ≡ b → is_shut table key ≡ false) [
      | true ↦ λ yes. apart key yes
      | false ↦ λ no.
          let both = sym (list_any-append (λ (h : Holder). has_key h.keys key) table.holders (record { number = holder; keys = keys } ∷ [])) ∙ held in
          let here : (has_key keys key || false) ≡ true = either _ _ both no in
          fails_among (λ k. is_shut table k) keys none key (elim (has_key keys key) as (λ b. (b || false) ≡ true → b ≡ true) [ true ↦ λ h. refl | false ↦ λ h. h ] here)
    ] refl

kept_any : (p q : Holder → Bool) (holders : List Holder) → list_any p (filter q holders) ≡ true → list_any p holders ≡ true
kept_any p q [] any = any
kept_any p q (h ∷ hs) any =
    elim (q h) as (λ b. list_any p (cond b (h ∷ filter q hs) (filter q hs)) ≡ true → (p h || list_any p hs) ≡ true) [
      | true ↦ λ e. elim (p h) as (λ b. (b || list_any p (filter q hs)) ≡ true → (b || list_any p hs) ≡ true) [ true ↦ λ _. refl | false ↦ λ r. kept_any p q hs r ] e
      | false ↦ λ e. elim (p h) as (λ b. (b || list_any p hs) ≡ true) [ true ↦ refl | false ↦ kept_any p q hs e ]
    ] any

-- a batch holds nothing any more
pub apart_without : (table : LockTable) (holder : ℕ) → IsApart table → IsApart (without_holder table holder)
apart_without table holder apart key held = apart key (kept_any (λ h. has_key h.keys key) (λ h. not (h.number == holder)) table.holders held)

-- keys of which none is held are shut
pub apart_shut : (table : LockTable) (op : ℕ) (keys : List Key) → first_held table keys ≡ None → IsApart (with_shut table op keys)
apart_shut table op keys none key held =
    elim (has_key keys key) as (λ b. has_key keys key ≡ b → b ≡ false) [
      | true ↦ λ among. let no : is_held table key ≡ false = fails_among (λ k. is_held table k) keys none key among in sym held ∙ no
      | false ↦ λ _. refl
    ] refl

-- the first held key, where holders and keys were read
pub first_held_of : (table : LockTable) (holders : List Holder) (given keys : List Key) → holders ≡ table.holders → given ≡ keys
    → first_held table keys ≡ position (λ key. list_any (λ (h : Holder). has_key h.keys key) holders) given
first_held_of table holders given keys same alike =
    sym (ap (λ (hs : List Holder). position (λ key. list_any (λ (h : Holder). has_key h.keys key) hs) given) same ∙ ap (λ ks. first_held table ks) alike)

-- the first shut key, where the shut keys and the keys were read
pub first_shut_of : (table : LockTable) (closed given keys : List Key) → closed ≡ shut_keys table → given ≡ keys
    → first_shut table keys ≡ position (λ key. has_key closed key) given
first_shut_of table closed given keys same alike =
    sym (ap (λ ks. position (λ key. has_key ks key) given) same ∙ ap (λ ks. first_shut table ks) alike)
