-- A worked legal history, and two that are none: a reply that the tree does not give, and a call that stands before one that was answered first.
use Rattle.std.proofs.Common.{◌≡◌, ℕ, zero, suc, ◌<◌, List, [], ◌∷◌, Some, refl, arith}
use Rattle.std.specs.Prelude.{codes, slice_get}
use Rattle.fal_base.specs.declared.call.Call.{Call}
use Rattle.fal_base.specs.declared.call.Config.{Config}
use Rattle.fal_base.specs.declared.call.Cred.{Cred}
use Rattle.fal_base.specs.declared.entry.Entry.{Entry}
use Rattle.fal_base.specs.declared.entry.Entry.TheVariants.{Sent, Commit, Answered}
use Rattle.fal_base.specs.declared.op.Op.TheVariants.{Mkdir, Access}
use Rattle.fal_base.specs.declared.path.PathArg.TheVariants.{Good}
use Rattle.fal_base.specs.declared.reply.Errno.TheVariants.{Enoent}
use Rattle.fal_base.specs.declared.reply.Reply.{Reply}
use Rattle.fal_base.specs.declared.reply.Reply.TheVariants.{Fine, Fail}
use Rattle.fal_base.specs.History.{Reads, Makes, history, IsServed, KeepsOrder}
use Rattle.fal_base.specs.Tree.{tree0, key_cmp}

abbrev root : Cred
root = record { uid = 0; gid = 0 }

abbrev make : Call
make = record { cred = root; op = Mkdir (Good (codes "a" ∷ [])) 493 }

abbrev ask : Call
ask = record { cred = root; op = Access (Good (codes "a" ∷ [])) 4 }

-- lane 1 makes /a, lane 2 asks for it
abbrev config : Config
config = record { nodes = 1; batch = 1; lanes = (make ∷ []) ∷ (ask ∷ []) ∷ [] }

-- what it is answered after so many commits, before the other call is answered
abbrev told : ℕ → Reply → List Entry
told point reply = Sent 1 1 ∷ Sent 2 1 ∷ Commit 1 1 256 ∷ Answered 2 1 point reply ∷ Answered 1 1 0 Fine ∷ []

is_fine : (point : ℕ) (reply : Reply) (j told_point : ℕ) (answer : Reply) → slice_get (told point reply) j ≡ Some (Answered 1 1 told_point answer) → answer ≡ Fine
is_fine point reply zero p answer is = absurd (cc)
is_fine point reply (suc zero) p answer is = absurd (cc)
is_fine point reply (suc (suc zero)) p answer is = absurd (cc)
is_fine point reply (suc (suc (suc zero))) p answer is = absurd (cc)
is_fine point reply (suc (suc (suc (suc zero)))) p answer is = cc
is_fine point reply (suc (suc (suc (suc (suc j))))) p answer is = absurd (cc)

-- it has seen nothing at point 0
seen_nothing : IsServed (told 0 (Fail Enoent)) tree0 (history config (told 0 (Fail Enoent)))
unfolding key_cmp
seen_nothing = (refl, refl, (refl, (λ j p reply is. is_fine 0 (Fail Enoent) j p reply is), tt))

-- and the directory at point 1
seen_it : IsServed (told 1 Fine) tree0 (history config (told 1 Fine))
unfolding key_cmp
seen_it = (refl, (λ j p reply is. is_fine 1 Fine j p reply is), (refl, refl, tt))

-- but not at point 0
too_early : IsServed (told 0 Fine) tree0 (history config (told 0 Fine)) → ⊥
unfolding key_cmp
too_early served = let wrong : Fine ≡ Fail Enoent = served.0 in absurd (cc)

-- what was sent after the directory was there does not stand before it
turned : KeepsOrder (Sent 1 1 ∷ Commit 1 1 256 ∷ Answered 1 1 0 Fine ∷ Sent 2 1 ∷ Answered 2 1 0 (Fail Enoent) ∷ [])
    (history config (Sent 1 1 ∷ Commit 1 1 256 ∷ Answered 1 1 0 Fine ∷ Sent 2 1 ∷ Answered 2 1 0 (Fail Enoent) ∷ [])) → ⊥
turned keeps =
    let before : 1 < 0 = keeps 2 3 0 1 1 2 1 Fine 1 0 (Makes (record { lane = 1; seq = 1; cred = root; op = make.op; ino = 256 })) (Reads 2 1 ask (Fail Enoent)) refl refl (omega arith) refl refl (refl, refl) (refl, refl) in
    absurd (omega arith)
