use Rattle.std.proofs.Common.{◌≡◌, ◌++◌, drop}
use Rattle.std.specs.List.{flat_map}
use Rattle.control_folders.specs.TaskScript.{quoted_byte}
use Rattle.control_folders.proofs.elsewhere.put_quoted_bytes.Given as goal

abbrev pub invariant-loop-byte : goal.invariant-loop-byte
invariant-loop-byte l = l.text ++ flat_map quoted_byte (drop l.byte-index l.bytes) ≡ l.initial.text ++ flat_map quoted_byte l.bytes
