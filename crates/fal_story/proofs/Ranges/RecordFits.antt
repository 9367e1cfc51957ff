-- A record that an actor sends is within the ranges of the format, and the number of a directory that it tells of or asks for is not 0.
use Rattle.std.proofs.Common.{ℕ, ◌<◌, ◌^◌, length}
use Rattle.fal_wire.specs.declared.message.Message.{Message}
use Rattle.fal_wire.specs.declared.message.Message.TheVariants as message
use Rattle.fal_wire.specs.Messages.{Fits, FieldsFit, body_spelling}

-- what opens a directory, and what asks for its names, says which one
abbrev pub HasDir : Message → Type 0
HasDir (message.Opened id dir) = 0 < dir
HasDir (message.ListAsk id version dir) = 0 < dir
HasDir other = Unit {0}

-- the number of a directory can be spelled, and is not 0
pub record IsDirRanged (dir : ℕ) : Type 0 where
  pub some : 0 < dir
  pub fits : dir < 256 ^ 8

pub record RecordFits (m : Message) : Type 0 where
  pub fields : FieldsFit m
  pub short : length (body_spelling m) < 2 ^ 32
  pub dir : HasDir m

-- such a record can be spelled
pub fits_of : (m : Message) → RecordFits m → Fits m
fits_of m record_fits = record { fields = record_fits.fields; short = record_fits.short }
