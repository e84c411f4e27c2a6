use Rattle.std.proofs.Common.{◌≡◌, ℕ, List, false}
use Rattle.std.specs.Io.KnownBytes.{Consumes}
use Rattle.agent_worker.specs.AnswerBytes.{short}
use Rattle.agent_worker.specs.Operating.{Ask, MayAsk, OperatesSoFar, read_in, has_ended}
use Rattle.agent_worker.proofs.AnswerLemmas.{LinesSoFar}
use Rattle.agent_worker.proofs.operator.work_operator.Given as goal

abbrev pub invariant-loop : goal.invariant-loop
invariant-loop g l = record {
  next : (goal.iterator-loop g).can_next l.iterator';
  finite : (goal.iterator-loop g).is_finite l.iterator';
  ended : l.ended ≡ false;
  failed : l.failed ≡ l.fn.failed;
  faults : g.A.Source.faults l.answers ≡ g.A.Source.faults l.fn.answers;
  so_far : (past : List Ask) × OperatesSoFar (g.G.Gate.tells l.fn.gate) (g.G.Gate.tells l.gate) past × MayAsk past
      × Consumes (g.A.Source.left l.fn.answers) (g.A.Source.left l.answers) (read_in past) × (has_ended past ≡ false) × ((begun : List ℕ) → l.fn.line ≡ short begun → LinesSoFar begun l.line past);
}
