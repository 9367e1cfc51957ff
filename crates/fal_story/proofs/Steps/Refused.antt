-- A call that is not executed fails in the tree at a point since it was sent: this is its answer.
use Rattle.std.proofs.Common.{◌≡◌, ℕ, ◌≤◌, false, length, refl, sym}
use Rattle.fal_base.specs.declared.call.Config.{Config}
use Rattle.fal_base.specs.declared.call.Cred.{Cred}
use Rattle.fal_base.specs.declared.op.Op.{Op}
use Rattle.fal_base.specs.declared.op.Op.TheVariants as op
use Rattle.fal_base.specs.declared.reply.Errno.{Errno}
use Rattle.fal_base.specs.declared.reply.Reply.TheVariants.{Fail}
use Rattle.fal_base.specs.Answer.{answer}
use Rattle.fal_base.specs.Commits.{tree_at}
use Rattle.fal_base.specs.Transcript.{is_place}
use Rattle.fal_base.specs.Tree.{Tree}
use Rattle.fal_story.proofs.Families.Lanes.{IsRight}
use Rattle.fal_story.proofs.Good.{Good}
use Rattle.fal_story.proofs.Phase.{IsUnanswered}
use Rattle.fal_story.proofs.Trees.PathWalks.{failed_makes}
use Rattle.fal_story.proofs.View.{View}

failed_tree : (tree : Tree) (cred : Cred) (o : Op) (errno : Errno) → answer tree cred o ≡ Fail errno → is_place o ≡ false
failed_tree tree cred (op.Place name rule) errno fails = absurd (cc)
failed_tree tree cred other errno fails = refl

pub refused_right : (config : Config) (v : View) (l k : ℕ) (errno : Errno) → Good config v → IsUnanswered (v.phase l) → v.since l ≤ k → k ≤ length v.commits
    → answer (tree_at v.commits k) (v.call l).cred (v.call l).op ≡ Fail errno → IsRight v.commits (v.seq l) (v.call l) (v.since l) l k (Fail errno)
refused_right config v l k errno g live from to fails =
    let makes_none = failed_makes (tree_at v.commits k) (v.call l).cred (v.call l).op errno fails in
    record { tree = failed_tree (tree_at v.commits k) (v.call l).cred (v.call l).op errno fails; plain = refl; from = from; to = to; served = sym fails; made = λ makes. absurd (cc); only = λ i c at by. absurd (g.lanes.uncommitted l i c live at by) }
