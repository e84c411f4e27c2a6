-- The status of a world.
use Rattle.std.proofs.Common.{◌≡◌, Bool, true, false, ap}
use Rattle.std.specs.Prelude.{if◌then◌else◌}
use Rattle.model_run.specs.World.{Build}
use Rattle.build_commands.specs.Statuses.{result_status, world_status}

-- the status of a world that has ended or not
pub ended_status : (w : Build) → w.ended ≡ true → world_status w ≡ result_status w.shared.result
ended_status w e = ap (λ (b : Bool). if b then result_status w.shared.result else 3) e

pub going_status : (w : Build) → w.ended ≡ false → world_status w ≡ 3
going_status w e = ap (λ (b : Bool). if b then result_status w.shared.result else 3) e
