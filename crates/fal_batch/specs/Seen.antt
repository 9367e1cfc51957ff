-- What a plan that was answered is seen as, and what the node has at hand.
use Rattle.std.specs.Prelude.{ℕ}
use Rattle.fal_base.specs.declared.barred.Barred.{Barred}
use Rattle.fal_dentry.specs.Walk.{Dentries}
use Rattle.fal_locks.specs.Locks.{LockTable, shut_keys}
use Rattle.fal_place.specs.Placement.{Placement}
use Rattle.fal_batch.specs.declared.fate.Fate.{Fate as Told}
use Rattle.fal_batch.specs.declared.fate.Fate.TheVariants as told
use Rattle.fal_batch.specs.declared.fate.Site.{Site}
use Rattle.fal_batch.specs.declared.parts.Plan.{Plan}
use Rattle.fal_batch.specs.Fate.{Setting, Fate, Skips, Leaves, Waits, Joins}
use Rattle.fal_batch.specs.Plan.{Planning}

abbrev pub plan_seen : Plan → Planning
plan_seen plan = record { away = plan.away.items; fetches = plan.fetches.items; sends = plan.sends.items; calls = plan.calls.items; keys = plan.keys.items }

abbrev pub setting_of : Dentries → LockTable → Placement → ℕ → Barred → ℕ → Setting
setting_of dentries locks table me blocked limit = record { me = me; table = table; blocked = blocked; dentries = dentries; shut = shut_keys locks; limit = limit }

abbrev pub site_seen : Site → Setting
site_seen site = setting_of site.replica.now.entries site.locks.now.table site.table.now site.me site.blocked.now site.limit

abbrev pub fate_seen : Told → Fate
fate_seen told.Skips = Skips
fate_seen (told.Leaves to) = Leaves to
fate_seen (told.Waits key) = Waits key
fate_seen (told.Joins denied parent last keys) = Joins denied parent last keys.items
