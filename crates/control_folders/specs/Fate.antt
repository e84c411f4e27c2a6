-- What is known of the process of a task that was started on the controller's machine. This product's own rules (docs/HOSTS.md).
use Rattle.std.specs.Prelude.{Bool, true, false, Option, Some, None}
use Rattle.control_folders.specs.declared.fate.Fate.{Fate}
use Rattle.control_folders.specs.declared.fate.Fate.TheVariants as fate
use Rattle.control_folders.specs.declared.machine.Boot.{Boot}
use Rattle.control_folders.specs.declared.machine.Boot.TheVariants as boot

-- by whether it is there, where that is known
abbrev pub fate_by_process : Option Bool → Fate
fate_by_process (Some true) = fate.Lives
fate_by_process (Some false) = fate.Gone
fate_by_process None = fate.Unknown

-- No process outlives its boot.
abbrev pub fate_by : Boot → Option Bool → Fate
fate_by boot.Other is_there = fate.OtherBoot
fate_by boot.Same is_there = fate_by_process is_there
fate_by boot.Unknown is_there = fate_by_process is_there
