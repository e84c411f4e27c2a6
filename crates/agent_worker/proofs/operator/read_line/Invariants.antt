use Rattle.std.proofs.Common.{◌≡◌, ◌++◌, ℕ, List}
use Rattle.std.specs.Io.KnownBytes.{Consumes}
use Rattle.agent_worker.specs.AnswerBytes.{short, NoNewline}
use Rattle.agent_worker.proofs.operator.read_line.Given as goal

abbrev pub invariant-loop : goal.invariant-loop
invariant-loop g l = record {
  next : (goal.iterator-loop g).can_next l.iterator';
  finite : (goal.iterator-loop g).is_finite l.iterator';
  faults : g.A.Source.faults l.answers ≡ g.A.Source.faults l.fn.answers;
  bytes : (bytes : List ℕ) × NoNewline bytes × Consumes (g.A.Source.left l.fn.answers) (g.A.Source.left l.answers) bytes × ((begun : List ℕ) → l.fn.line ≡ short begun → l.line ≡ short (begun ++ bytes));
}
