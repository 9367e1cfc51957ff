-- A call that places a name: what the table answers it, and what is then so.
use Rattle.std.proofs.Common.{◌≡◌, Bool, true, false, not, ◌||◌, List, [], ◌∷◌, Option, Some, None, refl, sym, ap, ◌∙◌, ℕ}
use Rattle.std.specs.Prelude.{◌==◌, is_some, if◌then◌else◌}
use Rattle.fal_base.specs.declared.call.Cred.{Cred}
use Rattle.fal_base.specs.declared.op.Op.{Op}
use Rattle.fal_base.specs.declared.op.Op.TheVariants as op
use Rattle.fal_base.specs.declared.reply.Errno.{Errno}
use Rattle.fal_base.specs.declared.reply.Errno.TheVariants.{Eperm, Einval, Enospc}
use Rattle.fal_base.specs.declared.reply.Reply.{Reply}
use Rattle.fal_base.specs.declared.reply.Reply.TheVariants.{Fine, Fail}
use Rattle.fal_base.specs.declared.rule.Rule.{Rule}
use Rattle.fal_base.specs.Answer.{checked}
use Rattle.fal_coord.specs.Place.{place_refusal}
use Rattle.fal_coord.specs.Walks.{is_operation, is_walking, placing_of}
use Rattle.fal_place.specs.Placement.{Placement, Placing, is_full_for, is_within}
use Rattle.fal_run.specs.Calls.{is_making}
use Rattle.fal_story.proofs.Trees.PlaceAnswers.{table_reply}

-- ---- the call

pub placed_op : (call : Op) (placing : Placing) → placing_of call ≡ Some placing → call ≡ op.Place placing.name placing.rule
placed_op (op.Place name rule) placing is = cc
placed_op other placing is = absurd (cc)

-- it makes no row of a new number
pub place_makes_none : (call : Op) (placing : Placing) → placing_of call ≡ Some placing → is_making call ≡ false
place_makes_none call placing is = ap is_making (placed_op call placing is)

-- an operation that places no name walks its paths
pub walking_or : (call : Op) → is_operation call ≡ true → placing_of call ≡ None → is_walking call ≡ true
walking_or call is none = sym (or_false (is_walking call)) ∙ ap (λ (o : Option Placing). is_walking call || is_some o) (sym none) ∙ is
  where
    or_false : (b : Bool) → (b || false) ≡ b
    or_false true = refl
    or_false false = refl

-- ---- the answer

abbrev pub reply_by : Option Errno → Reply
reply_by None = Fine
reply_by (Some errno) = Fail errno

refused_by : (a b c : Bool) → checked ((a, Eperm) ∷ (b, Einval) ∷ (c, Enospc) ∷ []) Fine ≡ reply_by (if a then Some Eperm else if b then Some Einval else if c then Some Enospc else None)
refused_by true b c = refl
refused_by false true c = refl
refused_by false false true = refl
refused_by false false false = refl

-- the table answers what the coordinator finds
pub replies_refusal : (table : Placement) (cred : Cred) (placing : Placing) (refusal : Option Errno) → place_refusal table cred placing ≡ refusal → table_reply table.nodes table cred placing.name placing.rule ≡ reply_by refusal
replies_refusal table cred placing refusal is = refused_by (not (cred.uid == 0)) (not (is_within table.nodes placing.rule)) (is_full_for table placing.name) ∙ ap reply_by is

both_false : (a b c : Bool) → checked ((a, Eperm) ∷ (not b, Einval) ∷ (c, Enospc) ∷ []) Fine ≡ Fine → b ≡ true
both_false true b c fine = absurd (cc)
both_false false true c fine = refl
both_false false false c fine = absurd (cc)

-- a rule that is answered ok is one for nodes that are there
pub fine_within : (nodes : ℕ) (table : Placement) (cred : Cred) (name : List ℕ) (rule : Rule) → table_reply nodes table cred name rule ≡ Fine → is_within nodes rule ≡ true
fine_within nodes table cred name rule fine = both_false (not (cred.uid == 0)) (is_within nodes rule) (is_full_for table name) fine
