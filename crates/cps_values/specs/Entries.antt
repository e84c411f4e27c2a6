-- The entries of a map, one by one.
use Rattle.std.specs.Prelude.{List, Option, drop}
use Rattle.model_syntax.specs.declared.node.NodeForm.{NodeForm}
use Rattle.model_values.specs.declared.cell.Cell.{Cell}
use Rattle.model_values.specs.declared.key.Key.{Key}
use Rattle.model_values.specs.declared.value.Value.{Value}
use Rattle.model_run.specs.Gathering.{and_entries, entries_of, put_entry}
use Rattle.cps_values.specs.declared.entries.Entry.{Entry}

-- what follows behind this entry, from the values that it has not taken
abbrev pub entries_by : List Cell → List NodeForm → List Value → List (Key × Value) → Entry → Option (List (Key × Value))
entries_by h fs vs es e = and_entries (entries_of h fs (drop e.taken vs)) (put_entry e.key e.value es)
