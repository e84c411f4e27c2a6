use Rattle.std.proofs.Common.{◌≡◌, ◌≤◌, ◌<◌, ◌↔◌, List}
use Rattle.agent_worker.specs.Acts.{Act}
use Rattle.agent_worker.specs.Serving.{Opened}
use Rattle.agent_worker.specs.Serve.{Seen, seen, KeepsGate}
use Rattle.agent_worker.specs.Standing.{Stands}
use Rattle.agent_worker.proofs.AwaitLemmas.{Awaits}
use Rattle.agent_worker.proofs.task.watch.Given as goal

abbrev pub invariant-loop : goal.invariant-loop
invariant-loop g l = record {
  next : (goal.iterator-loop g).can_next l.iterator';
  finite : (goal.iterator-loop g).is_finite l.iterator';
  few : l.vain < l.looks;
  awaits : (old : Seen) (past : List Act) → Opened l.order past
      → Stands (g.H.Host.honest l.fn.host) l.order l.looks old (seen g.H.Host g.G.Gate.tells l.fn.host l.fn.gate) past
      → Awaits (g.H.Host.honest l.host) l.order l.looks old (seen g.H.Host g.G.Gate.tells l.host l.gate) l.log l.out l.vain past;
  gate : KeepsGate (g.G.Gate.tells l.fn.gate) (g.G.Gate.tells l.gate);
  launches : g.H.Host.launches l.host ≡ g.H.Host.launches l.fn.host;
  folders : g.H.Host.honest l.fn.host → g.H.Host.dirs l.host ≡ g.H.Host.dirs l.fn.host;
  honest : g.H.Host.honest l.host ↔ g.H.Host.honest l.fn.host;
  faults : g.H.Host.faults l.fn.host ≤ g.H.Host.faults l.host;
}
