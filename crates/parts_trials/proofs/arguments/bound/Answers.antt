use Rattle.std.proofs.Common.{[], length}
use Rattle.std.proofs.lemmas.List.Elements.{All-cons, All-nil}
use Rattle.cell_heap.specs.Soundness.{ValueBelow}
use Rattle.parts_trials.proofs.arguments.bound.Goals as goal

pub bind-requires : goal.bind-requires
bind-requires c = All-cons (ValueBelow (length c.new-heap.result.cells)) _ [] tt (All-nil (ValueBelow (length c.new-heap.result.cells)))
