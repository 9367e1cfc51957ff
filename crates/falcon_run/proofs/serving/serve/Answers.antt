use Rattle.std.proofs.Common.{sym, subst}
use Rattle.fal_base.specs.EachOnce.{IsEachOnce}
use Rattle.fal_base.specs.History.{IsLegalHistory}
use Rattle.fal_base.specs.Linear.{IsLinear}
use Rattle.fal_base.specs.Listing.{AreListings}
use Rattle.fal_base.specs.Places.{AreOlder, ArePlaced}
use Rattle.fal_story.specs.Run.{IsLegal, transcript}
use Rattle.fal_story.specs.Told.{Told}
use Rattle.falcon_run.specs.Serving.{HasCallsFor}
use Rattle.falcon_run.proofs.ServedLines.{recorded}
use Rattle.falcon_run.proofs.serving.serve.Goals as goal

pub returns-clause-recorded : goal.returns-clause-recorded
returns-clause-recorded c =
    let told = c.serve_calls.new.cluster in
    let calls = subst (λ config. HasCallsFor config c.args.lanes.now) (sym c.serve_calls.ensures.config) c.requires.calls in
    let legal : IsLegal told.config told.events = subst (λ (t : Told). IsLegal t.config t.events) c.book-book.ensures c.legal.ensures in
    recorded told.config c.args.lanes.now told.events calls c.in_ok-serve_calls.ensures.served legal (λ lane. c.sends_are_recorded.ensures.recorded told.config told.events lane legal)
    (subst (λ (t : Told). IsEachOnce t.config (transcript t.config t.events)) c.book-book.ensures c.each_once.ensures.each)
    (subst (λ (t : Told). IsLinear t.config (transcript t.config t.events)) c.book-book.ensures c.linear.ensures.linear)
    (subst (λ (t : Told). IsLegalHistory t.config (transcript t.config t.events)) c.book-book.ensures c.linear.ensures.history)
    (subst (λ (t : Told). AreListings t.config (transcript t.config t.events)) c.book-book.ensures c.listings.ensures)
    (subst (λ (t : Told). AreOlder (transcript t.config t.events)) c.book-book.ensures c.stale_is_older.ensures)
    (subst (λ (t : Told). ArePlaced t.config (transcript t.config t.events)) c.book-book.ensures c.places.ensures)
