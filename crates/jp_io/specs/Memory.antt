-- What contracts see of a source and a sink in memory, for tests. This product's own.
use Rattle.std.specs.Prelude.{ℕ, List}
use Rattle.device_faults.specs.Calls.{Calls}

-- the bytes still to come, and the calls
pub record SourceState : Type 0 where
  pub left : List ℕ
  pub calls : Calls

-- the bytes that were written, and the calls
pub record SinkState : Type 0 where
  pub written : List ℕ
  pub calls : Calls
