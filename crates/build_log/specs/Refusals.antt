-- When a log refuses a line or a piece (this product's own limit: 16,777,216 bytes).
use Rattle.std.specs.Prelude.{ℕ, nat_lt, if◌then◌else◌, List, length, Option, Some, None}
use Rattle.model_values.specs.declared.limit.LimitKind.{LimitKind}
use Rattle.model_values.specs.declared.limit.LimitKind.TheVariants.{LogSize}
use Rattle.model_run.specs.World.{run_limits}
use Rattle.build_log.specs.declared.refusal.LogRefusal.{LogRefusal}
use Rattle.build_log.specs.declared.refusal.LogRefusal.TheVariants.{Memory, LogLimit}

-- the limit that a log of these bytes passes
abbrev pub size_limit : List ℕ → Option LimitKind
size_limit log = if nat_lt run_limits.log (length log) then Some LogSize else None

-- the limit that a refusal tells; want of memory tells none
abbrev pub limit_of : LogRefusal → Option LimitKind
limit_of Memory = None
limit_of LogLimit = Some LogSize
