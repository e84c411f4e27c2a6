use Rattle.std.proofs.Common.{◌≡◌, ◌-◌, []}
use Rattle.field_form.specs.Forms.{read_items}
use Rattle.field_form.proofs.list.take_items.Given as goal

abbrev pub invariant-loop : goal.invariant-loop
invariant-loop g l =
    read_items g.L.Listing.behind (l.count - l.counter) l.items l.bytes l.at
    ≡ read_items g.L.Listing.behind l.count [] l.bytes l.fn.at
