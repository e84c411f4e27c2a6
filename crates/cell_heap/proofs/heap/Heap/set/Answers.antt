use Rattle.std.proofs.Common.{arith}
use Rattle.model_values.specs.Fitting.{HasVariable}
use Rattle.cell_heap.specs.ValueTypes.{Variable}
use Rattle.cell_heap.proofs.KeptLemmas.{IsKept-set, seen_at, written-follows}
use Rattle.cell_heap.proofs.PlaceLemmas.{no_text}
use Rattle.cell_heap.proofs.SoundLemmas.{bytes-variable, known_at}
use Rattle.cell_heap.proofs.heap.Heap.set.Goals as goal

pub invariant_of-self : goal.invariant_of-self
invariant_of-self c =
    let h = c.self.inside in
    let r = c.args.self.now in
    let was = c.index_mut.result.now in
    let got = seen_at h r c.self.view_is c.args.id was c.requires.within c.index_mut.ensures.value in
    let bytes = bytes-variable was (known_at HasVariable r.cells c.args.id was got c.requires.variable) in
    IsKept-set h r c.self.view_is c.args.id was (Variable c.args.value) c.set.new.self h.total c.self.invariant c.requires.within (no_text HasVariable (λ s is. is) _ c.requires.variable) c.index_mut.ensures.value
    (record { below = c.requires.below; small = omega arith }) c.set.ensures (omega (arith, bytes)) c.self.invariant.bounded

pub returns-clause-follows : goal.returns-clause-follows
returns-clause-follows c =
    written-follows c.self.inside c.args.self.now c.self.view_is c.args.id (Variable c.args.value) c.set.new.self c.self.inside.total c.self.invariant c.set.ensures
