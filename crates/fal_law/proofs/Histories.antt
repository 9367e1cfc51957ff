-- A transcript of which each call happens once, that is linear and whose listings are right is a legal history.
use Rattle.std.proofs.Common.{List}
use Rattle.fal_base.specs.declared.call.Config.{Config}
use Rattle.fal_base.specs.declared.entry.Entry.{Entry}
use Rattle.fal_base.specs.EachOnce.{IsEachOnce}
use Rattle.fal_base.specs.History.{IsLegalHistory}
use Rattle.fal_base.specs.Linear.{IsLinear}
use Rattle.fal_base.specs.Listing.{AreListings}
use Rattle.fal_law.proofs.Ordered.{linear_keeps_order}
use Rattle.fal_law.proofs.Served.{linear_is_served}

pub legal_history : (config : Config) (entries : List Entry) → IsEachOnce config entries → IsLinear config entries → AreListings config entries → IsLegalHistory config entries
legal_history config entries once linear listings = record { served = linear_is_served config entries linear listings; ordered = linear_keeps_order config entries once linear }
