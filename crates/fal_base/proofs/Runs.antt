-- A worked transcript: a directory is made and looked up, while another caller's look-up is answered as before it.
use Rattle.std.proofs.Common.{◌≡◌, List, [], ◌∷◌, refl}
use Rattle.std.specs.Prelude.{codes}
use Rattle.fal_base.specs.declared.call.Call.{Call}
use Rattle.fal_base.specs.declared.call.Config.{Config}
use Rattle.fal_base.specs.declared.call.Cred.{Cred}
use Rattle.fal_base.specs.declared.entry.Entry.{Entry}
use Rattle.fal_base.specs.declared.entry.Entry.TheVariants.{Sent, Commit, Answered, Stale}
use Rattle.fal_base.specs.declared.op.Op.TheVariants.{Mkdir, Stat}
use Rattle.fal_base.specs.declared.path.PathArg.TheVariants.{Good}
use Rattle.fal_base.specs.declared.reply.Errno.TheVariants.{Enoent, Eperm}
use Rattle.fal_base.specs.declared.reply.Reply.TheVariants as reply
use Rattle.fal_base.specs.declared.rule.Rule.TheVariants.{Hash}
use Rattle.fal_base.specs.Transcript.{commits_of, at, sents}
use Rattle.fal_base.specs.History.{Reads, Makes, history}
use Rattle.fal_base.specs.Places.{told, place_answer}

abbrev root : Cred
root = record { uid = 0; gid = 0 }

abbrev make : Call
make = record { cred = root; op = Mkdir (Good (codes "a" ∷ [])) 493 }

abbrev look : Call
look = record { cred = root; op = Stat (Good (codes "a" ∷ [])) }

-- lane 1 makes it, lane 2 looks it up
abbrev config : Config
config = record { nodes = 1; batch = 1; lanes = (make ∷ []) ∷ (look ∷ []) ∷ [] }

abbrev entries : List Entry
entries = Sent 1 1 ∷ Sent 2 1 ∷ Commit 1 1 256 ∷ Answered 1 1 0 reply.Fine ∷ Answered 2 1 0 (reply.Fail Enoent) ∷ []

one_commit : commits_of config entries ≡ record { lane = 1; seq = 1; cred = root; op = make.op; ino = 256 } ∷ []
one_commit = refl

before_and_after : at entries 2 ∷ at entries 4 ∷ [] ≡ 0 ∷ 1 ∷ []
before_and_after = refl

sent_once : sents 2 entries ≡ 1
sent_once = refl

-- the look-up with point 0 stands before commit 0, though it was answered after it
look_up_first : history config entries ≡ Reads 2 1 look (reply.Fail Enoent) ∷ Makes (record { lane = 1; seq = 1; cred = root; op = make.op; ino = 256 }) ∷ []
look_up_first = refl

told_last : told 2 0 (Stale 2 1 0 3 ∷ Stale 1 1 0 4 ∷ []) ≡ 3
told_last = refl

not_by_others : place_answer 3 [] (record { uid = 7; gid = 0 }) (codes "x") Hash ≡ reply.Fail Eperm
not_by_others = refl
