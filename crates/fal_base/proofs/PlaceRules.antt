-- Worked answers to changes of placement, at the limit of rules too; what a stale client is told; and a change of placement.
use Rattle.std.proofs.Common.{◌≡◌, inr, ℕ, zero, suc, ◌+◌, ◌<◌, ◌≤◌, List, [], ◌∷◌, length, Some, refl, subst, arith}
use Rattle.std.specs.Prelude.{codes, slice_get, take}
use Rattle.std.proofs.lemmas.Option.{same_Some}
use Rattle.fal_base.specs.declared.call.Call.{Call}
use Rattle.fal_base.specs.declared.call.Config.{Config}
use Rattle.fal_base.specs.declared.call.Cred.{Cred}
use Rattle.fal_base.specs.declared.entry.Entry.{Entry}
use Rattle.fal_base.specs.declared.entry.Entry.TheVariants.{Sent, Placed, Stale, Answered}
use Rattle.fal_base.specs.declared.op.Op.{Op}
use Rattle.fal_base.specs.declared.op.Op.TheVariants.{Place}
use Rattle.fal_base.specs.declared.reply.Errno.TheVariants.{Eperm, Einval, Enospc}
use Rattle.fal_base.specs.declared.reply.Reply.{Reply}
use Rattle.fal_base.specs.declared.reply.Reply.TheVariants.{Fine, Fail}
use Rattle.fal_base.specs.declared.rule.Rule.{Rule}
use Rattle.fal_base.specs.declared.rule.Rule.TheVariants.{Hash, Node}
use Rattle.fal_base.specs.Places.{place_answer, ruled_before, told, ArePlaced, AreOlder, IsPlaceAnswer}
use Rattle.fal_base.specs.Transcript.{call_of, placed}

abbrev root : Cred
root = record { uid = 0; gid = 0 }

abbrev guest : Cred
guest = record { uid = 7; gid = 0 }

-- ---- answers

-- so many names, each of one number
abbrev ruled : ℕ → List (List ℕ)
ruled zero = []
ruled (suc n) = (n ∷ []) ∷ ruled n

room_for_one : place_answer 3 (ruled 1023) root (codes "ab") Hash ≡ Fine
room_for_one = refl

no_room : place_answer 3 (ruled 1024) root (codes "ab") Hash ≡ Fail Enospc
no_room = refl

room_for_a_name_with_a_rule : place_answer 3 (ruled 1024) root (7 ∷ []) Hash ≡ Fine
room_for_a_name_with_a_rule = refl

the_last_node : place_answer 3 [] root (codes "ab") (Node 2) ≡ Fine
the_last_node = refl

no_such_node : place_answer 3 [] root (codes "ab") (Node 3) ≡ Fail Einval
no_such_node = refl

by_another : place_answer 3 (ruled 1024) guest (codes "ab") (Node 3) ≡ Fail Eperm
by_another = refl

no_such_node_first : place_answer 3 (ruled 1024) root (codes "ab") (Node 3) ≡ Fail Einval
no_such_node_first = refl

-- ---- stale

-- what the entry says at place j, where it is a Stale
abbrev Tells : List Entry → ℕ → Entry → Type 0
Tells entries j (Stale lane seq old new) = (old ≡ told lane 0 (take j entries)) × (old < new) × (new ≤ placed entries j)
Tells entries j other = Unit {0}

abbrev newer : List Entry
newer = Placed 1 1 1 ∷ Stale 2 1 0 1 ∷ []

newer_is_told : AreOlder newer
newer_is_told zero lane seq old new is = absurd (cc)
newer_is_told (suc zero) lane seq old new is = subst (Tells newer 1) (same_Some (Stale 2 1 0 1) (Stale lane seq old new) is) (refl, omega arith, omega arith)
newer_is_told (suc (suc j)) lane seq old new is = absurd (cc)

equal_versions : AreOlder (Placed 1 1 1 ∷ Stale 2 1 0 1 ∷ Stale 2 1 1 1 ∷ []) → ⊥
equal_versions older = let less : 1 < 1 = (older 2 2 1 1 1 refl).1 in absurd (omega arith)

-- of a version that was not placed yet
too_new : AreOlder (Stale 2 1 0 1 ∷ Placed 1 1 1 ∷ []) → ⊥
too_new older = let few : 1 ≤ 0 = (older 0 2 1 0 1 refl).2 in absurd (omega arith)

-- from another version than the lane was told last
not_the_last : AreOlder (Placed 1 1 1 ∷ Placed 1 2 2 ∷ Stale 2 1 0 1 ∷ Stale 2 1 0 2 ∷ []) → ⊥
not_the_last older = let last : ◌≡◌ {A = ℕ} 0 1 = (older 3 2 1 0 2 refl).0 in absurd (omega arith)

-- ---- places

abbrev put : Call
put = record { cred = root; op = Place (codes "ab") Hash }

abbrev config : Config
config = record { nodes = 1; batch = 1; lanes = (put ∷ []) ∷ [] }

abbrev placing : List Entry
placing = Sent 1 1 ∷ Placed 1 1 1 ∷ Answered 1 1 0 Fine ∷ []

-- what the entries say at place j
abbrev IsCounted : List Entry → ℕ → Entry → Type 0
IsCounted entries j (Placed lane seq version) = version ≡ placed entries j + 1
IsCounted entries j other = Unit {0}

abbrev IsAnsweredAt : List Entry → ℕ → Entry → Type 0
IsAnsweredAt entries j (Answered lane seq point reply) =
    (call : Call) (name : List ℕ) (rule : Rule) → call_of config lane seq ≡ Some call → call.op ≡ Place name rule → IsPlaceAnswer config entries j lane seq point reply call.cred name rule
IsAnsweredAt entries j other = Unit {0}

-- what an operation says where it is a change of placement
abbrev IsAnswerTo : Cred → Op → Type 0
IsAnswerTo cred (Place name rule) = IsPlaceAnswer config placing 2 1 1 0 Fine cred name rule
IsAnswerTo cred other = Unit {0}

put_is_answered : IsAnswerTo root (Place (codes "ab") Hash)
put_is_answered = record { sent = 0; is_sent = refl; from = omega arith; to = omega arith; served = refl; placed = (λ fine. (1, (1, refl)), λ there. refl) }

versions : (j lane seq version : ℕ) → slice_get placing j ≡ Some (Placed lane seq version) → version ≡ placed placing j + 1
versions zero lane seq version is = absurd (cc)
versions (suc zero) lane seq version is = subst (IsCounted placing 1) (same_Some (Placed 1 1 1) (Placed lane seq version) is) refl
versions (suc (suc zero)) lane seq version is = absurd (cc)
versions (suc (suc (suc j))) lane seq version is = absurd (cc)

room : (j lane seq version : ℕ) → slice_get placing j ≡ Some (Placed lane seq version) → length (ruled_before config placing j) < 1024
room zero lane seq version is = absurd (cc)
room (suc zero) lane seq version is = omega arith
room (suc (suc zero)) lane seq version is = absurd (cc)
room (suc (suc (suc j))) lane seq version is = absurd (cc)

answers : (j lane seq point : ℕ) (reply : Reply) → slice_get placing j ≡ Some (Answered lane seq point reply) → IsAnsweredAt placing j (Answered lane seq point reply)
answers zero lane seq point reply is = absurd (cc)
answers (suc zero) lane seq point reply is = absurd (cc)
answers (suc (suc zero)) lane seq point reply is = subst (IsAnsweredAt placing 2) (same_Some (Answered 1 1 0 Fine) (Answered lane seq point reply) is)
    (λ call name rule named places. subst (λ (o : Op). IsAnswerTo call.cred o) places (subst (λ (c : Call). IsAnswerTo c.cred c.op) (same_Some put call named) put_is_answered))
answers (suc (suc (suc j))) lane seq point reply is = absurd (cc)

placing_is_right : ArePlaced config placing
placing_is_right = record {
  versions = versions;
  room = λ j lane seq version call name rule is _ _. inr (room j lane seq version is);
  answers = λ j lane seq point reply call name rule is named places. answers j lane seq point reply is call name rule named places;
}

first_is_one : ArePlaced config (Sent 1 1 ∷ Placed 1 1 2 ∷ []) → ⊥
first_is_one x = let wrong : ◌≡◌ {A = ℕ} 2 1 = x.versions 1 1 1 2 refl in absurd (omega arith)

fine_without_a_change : ArePlaced config (Sent 1 1 ∷ Answered 1 1 0 Fine ∷ []) → ⊥
fine_without_a_change x =
    let there = (x.answers 1 1 1 0 Fine put (codes "ab") Hash refl refl refl).placed.0 refl in
    none there.0 there.1.0 there.1.1
  where
    none : (i version : ℕ) → slice_get (Sent 1 1 ∷ Answered 1 1 0 Fine ∷ []) i ≡ Some (Placed 1 1 version) → ⊥
    none zero version is = absurd (cc)
    none (suc zero) version is = absurd (cc)
    none (suc (suc i)) version is = absurd (cc)
