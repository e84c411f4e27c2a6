-- A change that meets no limit, and a change behind which a step goes on.
use Rattle.std.specs.Prelude.{◌≡◌}
use Rattle.model_run.specs.State.{World}
use Rattle.cps_frames.specs.Standing.{Standing}
use Rattle.cps_frames.specs.Changes.{changed_by}

-- the change was made, and the frames stay
pub record Changes (g : World → World) (u v : Standing) : Type 0 where
  pub made : v.world ≡ changed_by g u.world
  pub stack : v.stack ≡ u.stack
  pub parent : v.parent ≡ u.parent
  pub heap : v.heap ≡ u.heap
