-- What a source and a sink in memory are seen as.
use Rattle.std.specs.Prelude.{ℕ, List}

-- the bytes left, the most that a call gives, the numbers of the calls that fail, and the calls and faults so far
pub record SourceState : Type 0 where
  pub left : List ℕ
  pub step : ℕ
  pub failing : List ℕ
  pub calls : ℕ
  pub faults : ℕ

-- the bytes held, the most that a call takes, the numbers of the calls that fail, and the calls and faults so far
pub record SinkState : Type 0 where
  pub holds : List ℕ
  pub step : ℕ
  pub failing : List ℕ
  pub calls : ℕ
  pub faults : ℕ
