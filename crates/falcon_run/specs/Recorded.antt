-- The one run of a script, and its text.
use Rattle.std.specs.Prelude.{◌≡◌, ℕ, List, Some, IsSome, slice_get}
use Rattle.fal_base.specs.declared.call.Config.{Config}
use Rattle.fal_base.specs.declared.entry.Entry.{Entry}
use Rattle.fal_base.specs.declared.entry.Entry.TheVariants as entry
use Rattle.fal_base.specs.declared.event.Event.{Event}
use Rattle.fal_base.specs.declared.reply.Reply.{Reply}
use Rattle.fal_base.specs.EachOnce.{IsEachOnce}
use Rattle.fal_base.specs.History.{IsLegalHistory}
use Rattle.fal_base.specs.Linear.{IsLinear}
use Rattle.fal_base.specs.Listing.{AreListings}
use Rattle.fal_base.specs.Places.{AreOlder, ArePlaced}
use Rattle.fal_base.specs.Transcript.{call_of}
use Rattle.fal_base.specs.Tree.{lines_of}
use Rattle.fal_report.specs.Transcripts.{transcript_text}
use Rattle.fal_story.specs.AllRows.{tree_left}
use Rattle.fal_story.specs.Fresh.{IsQuietAt, came}
use Rattle.fal_story.specs.Run.{IsLegal, run, transcript}
use Rattle.falcon_run.specs.Serial.{IsSerialRun}

-- every call of the cluster is answered
abbrev pub AreAllAnswered : Config → List Entry → Type 0
AreAllAnswered config entries = (lane seq : ℕ) → IsSome (call_of config lane seq)
    → (i : ℕ) × ((point : ℕ) × ((reply : Reply) × (slice_get entries i ≡ Some (entry.Answered lane seq point reply))))

-- a complete legal run, in the serial order of these lanes. Every call is answered, and once; a reply with names is a listing, one to a change of
-- placement is by what was placed, and each other one is the plain tree's at its point; these calls have one sequential history
pub record IsRecorded (config : Config) (lanes : List ℕ) (events : List Event) : Type 0 where
  pub legal : IsLegal config events
  pub serial : IsSerialRun config lanes events
  pub quiet : IsQuietAt config (run config events) (came events)
  pub answered : AreAllAnswered config (transcript config events)
  pub once : IsEachOnce config (transcript config events)
  pub linear : IsLinear config (transcript config events)
  pub listings : AreListings config (transcript config events)
  pub stale : AreOlder (transcript config events)
  pub placed : ArePlaced config (transcript config events)
  pub history : IsLegalHistory config (transcript config events)

-- the text of a run: its entries, line by line, and the tree that its commits leave
unfoldable pub run_text : Config → List Event → List ℕ
run_text config events = transcript_text config (transcript config events) (lines_of (tree_left config events))
