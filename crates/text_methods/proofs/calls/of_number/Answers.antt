use Rattle.std.proofs.lemmas.Int.{to_z-of_z}
use Rattle.text_methods.proofs.CallLemmas.{intdiv_here}
use Rattle.text_methods.proofs.calls.of_number.Goals as goal

pub returns-in-Intdiv-len1 : goal.returns-in-Intdiv-len1
returns-in-Intdiv-len1 c =
    let fits = c.ranges.number in
    let there = simp to_z-of_z at c.intdiv.ensures in
    intdiv_here c.args.heap.now.cells c.args.number c.args.method c.args.args.now _ _ c.intdiv.result c.in-Intdiv-len1.is-0 c.in-Intdiv-len1.len_at_least c.in-Intdiv-len1.len_below c.kind_of.ensures.kind there
