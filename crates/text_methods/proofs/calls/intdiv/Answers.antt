use Rattle.std.proofs.lemmas.Int.{to_z-of_z}
use Rattle.text_methods.proofs.MethodLemmas.{reads_always}
use Rattle.text_methods.proofs.calls.intdiv.Goals as goal

pub returns : goal.returns
returns c =
    let fits = c.ranges.number in
    let there = simp to_z-of_z at c.divided.ensures in
    reads_always _ _ _ c.found.ensures there
