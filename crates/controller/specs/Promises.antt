-- What a call of the controller promises (this product's own).
use Rattle.controller.specs.Call.{Call, Devices}
use Rattle.controller.specs.Causes.{Causes}
use Rattle.controller.specs.Crash.{Crash}
use Rattle.controller.specs.FirstFault.{FirstFault}
use Rattle.controller.specs.Launches.{Launches}
use Rattle.controller.specs.Output.{Output}
use Rattle.controller.specs.Reads.{Reads}

pub record Promises {D H A : Type 0} (v : Devices D H A) (c : Call D H A) : Type 0 where
  -- what is written, and what the store holds then
  pub output : Output v c
  -- what a crash may leave of the store, at each moment
  pub crash : Crash v c
  -- what is said of a script or an agents file with a fault
  pub first_fault : FirstFault c
  -- when each status comes, and what came of the build
  pub causes : Causes v c
  -- what is read of the sources
  pub reads : Reads c
  -- what becomes of the hosts, and which tasks they have launched
  pub launches : Launches v c
