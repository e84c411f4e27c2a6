use Rattle.std.proofs.Common.{◌≡◌, ◌-◌, []}
use Rattle.field_form.specs.Forms.{read_items}
use Rattle.field_form.specs.Cells.{entry_behind}
use Rattle.field_form.proofs.entries.take_entries.Given as goal

abbrev pub invariant-loop : goal.invariant-loop
invariant-loop l =
    read_items entry_behind (l.count - l.counter) l.entries l.bytes l.at
    ≡ read_items entry_behind l.count [] l.bytes l.fn.at
