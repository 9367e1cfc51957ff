use Rattle.std.proofs.Common.{◌∙◌, sym, inl, inr, ⊎_elim, []}
use Rattle.std.proofs.KnownBytes.{Consumes-nil}
use Rattle.falcon_run.proofs.InRange.{script_may_run}
use Rattle.falcon_run.proofs.Wants.{fault_wants, gave_fault, reading_wants, run_wants}
use Rattle.falcon_run.proofs.run.run_serial.Goals as goal

pub run_script-requires-clause-cluster : goal.run_script-requires-clause-cluster
run_script-requires-clause-cluster g c =
    let gave = c.in-Ok-read_script.ensures.reading.gives in
    script_may_run c.in-Ok-read_script.script c.calls_in_range_may_run.ensures (c.scripts_are_in_range.ensures gave.0 c.in-Ok-read_script.script gave.4) gave.5

pub run_script-requires-clause-range : goal.run_script-requires-clause-range
run_script-requires-clause-range g c = let gave = c.in-Ok-read_script.ensures.reading.gives in c.scripts_are_in_range.ensures gave.0 c.in-Ok-read_script.script gave.4

pub returns-in-Ok-read_script-clause-memory : goal.returns-in-Ok-read_script-clause-memory
returns-in-Ok-read_script-clause-memory g c is =
    run_wants c.in-Ok-read_script.script (g.S.Source.left c.args.source.now) (g.S.Source.left c.read_script.new.source) (g.K.Sink.holds c.args.sink.now) (g.K.Sink.holds c.run_script.new.sink) c.run_script.new.trace.config
    c.run_script.new.trace.events.items c.in-Ok-read_script.ensures.reading.gives c.read_script.ensures.reading.lost (c.run_script.ensures.memory is)

-- want of memory for the words: nothing was read or written
pub returns-in-Err-OutOfMemory-clause-memory : goal.returns-in-Err-OutOfMemory-clause-memory
returns-in-Err-OutOfMemory-clause-memory g c is =
    reading_wants (g.S.Source.left c.args.source.now) (g.S.Source.left c.args.source.now) (g.K.Sink.holds c.args.sink.now) c.args.trace.now.config c.args.trace.now.events.items ([], Consumes-nil (g.S.Source.left c.args.source.now))
    c.requires.config c.requires.events

-- a script was read, so nothing but its run is owed
pub returns-in-Ok-read_script-clause-owed : goal.returns-in-Ok-read_script-clause-owed
returns-in-Ok-read_script-clause-owed g c asked asks bytes left calm =
    let none = c.in-Ok-read_script.ensures.owed bytes left calm in
    ⊎_elim
    (λ done. inl (done ∙ sym none))
    (λ more. ⊎_elim (λ cut. inr (inr (none, cut, c.run_script.ensures.failed cut))) (λ memory. inr (inl memory)) more)
    c.run_script.ensures.answered

pub returns-in-Err-OutOfMemory-read_script-clause-memory : goal.returns-in-Err-OutOfMemory-read_script-clause-memory
returns-in-Err-OutOfMemory-read_script-clause-memory g c is =
    reading_wants (g.S.Source.left c.args.source.now) (g.S.Source.left c.read_script.new.source) (g.K.Sink.holds c.args.sink.now) c.args.trace.now.config c.args.trace.now.events.items c.read_script.ensures.reading.lost
    c.requires.config c.requires.events

pub returns-in-Err-NoScript-clause-script : goal.returns-in-Err-NoScript-clause-script
returns-in-Err-NoScript-clause-script g c is =
    let gave = gave_fault (g.S.Source.left c.args.source.now) (g.S.Source.left c.read_script.new.source) (g.S.Source.faults c.args.source.now) (g.S.Source.faults c.read_script.new.source) c.in-Err-NoScript.field-0
    c.in-Err-NoScript.line c.in-Err-NoScript.rule c.in-Err-NoScript.field-0-is c.in-Err-NoScript.ensures.reading.gives in
    (c.in-Err-NoScript.line, c.in-Err-NoScript.rule, (gave, c.refuse_script.ensures.whole is))

pub returns-in-Err-NoScript-clause-memory : goal.returns-in-Err-NoScript-clause-memory
returns-in-Err-NoScript-clause-memory g c is =
    let gave = gave_fault (g.S.Source.left c.args.source.now) (g.S.Source.left c.read_script.new.source) (g.S.Source.faults c.args.source.now) (g.S.Source.faults c.read_script.new.source) c.in-Err-NoScript.field-0
    c.in-Err-NoScript.line c.in-Err-NoScript.rule c.in-Err-NoScript.field-0-is c.in-Err-NoScript.ensures.reading.gives in
    fault_wants (g.S.Source.left c.args.source.now) (g.S.Source.left c.read_script.new.source) (g.K.Sink.holds c.args.sink.now) (g.K.Sink.holds c.refuse_script.new.sink) c.args.trace.now.config c.args.trace.now.events.items
    c.in-Err-NoScript.line c.in-Err-NoScript.rule gave c.read_script.ensures.reading.lost c.refuse_script.ensures.front c.requires.config c.requires.events
