use Rattle.std.proofs.Common.{◌≡◌, ◌++◌, drop, length, map}
use Rattle.model_values.specs.Kinds.{kind}
use Rattle.model_run.specs.Steps.{override_text}
use Rattle.step_arguments.proofs.uses.override_texts.Given as goal

abbrev pub invariant-loop-value : goal.invariant-loop-value
invariant-loop-value l = record {
  rest : l.pairs ++ map (λ v. override_text (kind l.heap.cells v)) (drop l.value-index l.values) ≡ map (λ v. override_text (kind l.heap.cells v)) l.values;
  many : length l.pairs ≡ l.value-index;
}
