use Rattle.std.proofs.Common.{◌≡◌, ◌≤◌, ◌↔◌, List}
use Rattle.agent_worker.specs.Gate.{Stays}
use Rattle.agent_worker.specs.Working.{Deed, WorksSoFar, MayClaim, telling}
use Rattle.agent_worker.proofs.executor.work_executor.Given as goal

abbrev pub invariant-loop : goal.invariant-loop
invariant-loop g l = record {
  next : (goal.iterator-loop g).can_next l.iterator';
  finite : (goal.iterator-loop g).is_finite l.iterator';
  so_far : (past : List Deed) × WorksSoFar l.number l.looks (g.H.Host.honest l.fn.host) (telling g.H.Host g.G.Gate.tells l.fn.host l.fn.gate)
      (telling g.H.Host g.G.Gate.tells l.host l.gate) past × MayClaim past;
  lines : Stays (g.G.Gate.tells l.fn.gate).lines (g.G.Gate.tells l.gate).lines;
  is_open : (g.G.Gate.tells l.gate).is_open ≡ (g.G.Gate.tells l.fn.gate).is_open;
  honest : g.H.Host.honest l.host ↔ g.H.Host.honest l.fn.host;
  faults : g.H.Host.faults l.fn.host ≤ g.H.Host.faults l.host;
}
