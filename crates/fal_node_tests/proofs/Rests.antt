-- Whatever comes to a coordinator that rests stays within the ranges, and leaves it at rest.
use Rattle.std.proofs.Common.{◌≡◌, ℕ, ◌&&◌, Bool, true, false, cond, [], Option, Some, None, Result, Ok, Err, refl, sym, subst, arith}
use Rattle.std.specs.List.{All}
use Rattle.fal_base.specs.declared.call.CallRec.{CallRec}
use Rattle.fal_base.specs.declared.event.Envelope.{Envelope}
use Rattle.fal_base.specs.Marks.{is_newer, last_mark, mark_of}
use Rattle.fal_wire.specs.declared.fault.WireFault.{WireFault}
use Rattle.fal_wire.specs.declared.letter.Letter.{Letter}
use Rattle.fal_wire.specs.declared.message.Message.{Message}
use Rattle.fal_wire.specs.declared.message.Message.TheVariants as message
use Rattle.fal_wire.specs.Messages.{Fits, reading}
use Rattle.fal_coord.specs.declared.event.CoordEvent.{CoordEvent}
use Rattle.fal_coord.specs.declared.event.CoordEvent.TheVariants.{Hear, Start}
use Rattle.fal_coord.specs.declared.patch.Prepared.{Prepared}
use Rattle.fal_coord.specs.Hear.{taken, take_call, take_found, take_locked, take_counted, take_done, take_blocked, take_installed, take_message, take_read, heard}
use Rattle.fal_coord.specs.Patch.{SeenCoord}
use Rattle.fal_coord.specs.Ready.{after, IsStepOf, IsStepFor}
use Rattle.fal_coord.specs.State.{CoordState, Work, begun, opening_coord}
use Rattle.fal_coord.specs.Step.{IsInRange, CanMake, is_to_coord, coord_step}
use Rattle.fal_coord.specs.Walks.{is_operation}
use Rattle.fal_node_tests.specs.Resting.{IsResting, IsHearing}

-- nothing is sent, and the coordinator rests
record IsCalm (work : Work) : Type 0 where
  coord : IsResting work.coord
  sent : work.sent ≡ []

pub resting_opening : (nodes : ℕ) → IsResting (opening_coord nodes)
unfolding opening_coord
resting_opening nodes = record { stage = refl; operation = refl; asked = refl; version = refl }

same_calm : (coord : CoordState) → IsResting coord → IsCalm (begun coord)
same_calm coord rests = record { coord = rests; sent = refl }

taken_calm : (coord : CoordState) (call : CallRec) → IsResting coord → IsCalm (begun (taken coord call))
unfolding taken
taken_calm coord call rests = record { coord = record { stage = rests.stage; operation = rests.operation; asked = rests.asked; version = rests.version }; sent = refl }

calm_call : (coord : CoordState) (call : CallRec) → IsResting coord → IsCalm (begun (take_call coord call))
calm_call coord call rests =
    elim (is_operation call.op && is_newer (mark_of call.id) (last_mark coord.last call.id.client)) as (λ b. IsCalm (begun (cond b (taken coord call) coord))) [
      | true ↦ taken_calm coord call rests
      | false ↦ same_calm coord rests
    ]

calm_message : (coord : CoordState) (point : ℕ) (m : Message) → IsResting coord → IsCalm (take_message coord point m)
calm_message coord point (message.Call call) rests = calm_call coord call rests
calm_message coord point (message.FetchGot number key what) rests = subst (λ stage. IsCalm (take_found coord point number key what stage)) (sym rests.stage) (same_calm coord rests)
calm_message coord point (message.Locked number node rows) rests = subst (λ stage. IsCalm (take_locked coord number node rows stage)) (sym rests.stage) (same_calm coord rests)
calm_message coord point (message.Counted number node count) rests = subst (λ stage. IsCalm (take_counted coord number node count stage)) (sym rests.stage) (same_calm coord rests)
calm_message coord point (message.Done number node) rests = subst (λ stage. IsCalm (begun (take_done coord number node stage))) (sym rests.stage) (same_calm coord rests)
calm_message coord point (message.Reply id reply) rests = same_calm coord rests
calm_message coord point (message.Stale id old new changes) rests = same_calm coord rests
calm_message coord point (message.Opened id dir) rests = same_calm coord rests
calm_message coord point (message.ListAsk id version dir) rests = same_calm coord rests
calm_message coord point (message.ListPart id from names) rests = same_calm coord rests
calm_message coord point (message.FetchAsk asker number key) rests = same_calm coord rests
calm_message coord point (message.Lock number keys) rests = same_calm coord rests
calm_message coord point (message.Count number dir) rests = same_calm coord rests
calm_message coord point (message.Commit number updates) rests = same_calm coord rests
calm_message coord point (message.Block number name) rests = same_calm coord rests
calm_message coord point (message.Blocked number node rows) rests = subst (λ stage. IsCalm (take_blocked coord number node rows stage)) (sym rests.stage) (same_calm coord rests)
calm_message coord point (message.Install number version rule rows) rests = same_calm coord rests
calm_message coord point (message.Installed number node) rests = subst (λ stage. IsCalm (begun (take_installed coord number node stage))) (sym rests.stage) (same_calm coord rests)

calm_read : (coord : CoordState) (point : ℕ) (read : Result Message WireFault) → IsResting coord → IsCalm (take_read coord point read)
calm_read coord point (Ok m) rests = calm_message coord point m rests
calm_read coord point (Err fault) rests = same_calm coord rests

calm_heard : (coord : CoordState) (e : Envelope) → IsResting coord → IsCalm (heard coord e)
unfolding heard
calm_heard coord e rests = calm_read coord e.point (reading e.bytes) rests

in_range : (work : Work) → IsCalm work → IsInRange work
in_range work calm =
    let none : All (λ (l : Letter). Fits l.message) [] = λ k d lt. absurd (omega arith) in
    let operation = calm.coord.operation in
    let asked = calm.coord.asked in
    let version = calm.coord.version in
    record {
      records = subst (λ ls. All (λ (l : Letter). Fits l.message) ls) (sym calm.sent) none;
      operation = omega arith;
      asked = omega arith;
      version = omega arith;
    }

if_there : (b : Bool) (x w : Work) (P : Work → Type 0) → P x → cond b (Some x) None ≡ Some w → P w
if_there true x w P p is = let same : x ≡ w = cc in subst P same p
if_there false x w P p is = absurd (cc)

stays : (coord : CoordState) (e : Envelope) → IsResting coord → CanMake coord (Hear e)
unfolding coord_step
stays coord e rests work is = if_there (is_to_coord e.to) (heard coord e) work IsInRange (in_range (heard coord e) (calm_heard coord e rests)) is

-- what comes stays within the ranges
pub hearing_stays : (coord : CoordState) (event : CoordEvent) → IsHearing event → IsResting coord → CanMake coord event
hearing_stays coord (Hear e) is rests = stays coord e rests
hearing_stays coord Start is rests = absurd is

resting_after : (coord : CoordState) (e : Envelope) (work : Work) → IsResting coord → coord_step coord (Hear e) ≡ Some work → IsResting work.coord
unfolding coord_step
resting_after coord e work rests is = if_there (is_to_coord e.to) (heard coord e) work (λ w. IsResting w.coord) (calm_heard coord e rests).coord is

resting_applied : (s : SeenCoord) (e : Envelope) (prepared : Prepared) (work : Option Work) → coord_step s.state (Hear e) ≡ work → IsStepOf s work prepared → IsResting s.state → IsResting (after s prepared)
resting_applied s e prepared None is step rests = absurd step
resting_applied s e prepared (Some work) is step rests = subst (λ coord. IsResting coord) step.coord_after (resting_after s.state e work rests is)

-- the coordinator rests still when what was prepared for what came is applied
pub hearing_applied : (s : SeenCoord) (event : CoordEvent) (prepared : Prepared) → IsHearing event → IsStepFor s event prepared → IsResting s.state → IsResting (after s prepared)
hearing_applied s (Hear e) prepared is step rests = resting_applied s e prepared (coord_step s.state (Hear e)) refl step rests
hearing_applied s Start prepared is step rests = absurd is
