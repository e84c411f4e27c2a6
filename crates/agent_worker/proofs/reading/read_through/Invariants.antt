use Rattle.std.proofs.Common.{◌≡◌, ◌≤◌, ◌↔◌, ℕ, [], List}
use Rattle.agent_worker.specs.Acts.{Act, HasStream, kept, unreported}
use Rattle.agent_worker.specs.Causes.{IsReadNext}
use Rattle.agent_worker.specs.Serving.{IsInTurn}
use Rattle.agent_worker.specs.Serve.{Seen, seen, KeepsGate}
use Rattle.agent_worker.specs.Standing.{Stands}
use Rattle.agent_worker.proofs.ThroughLemmas.{ReadSoFar}
use Rattle.agent_worker.proofs.reading.read_through.Given as goal

abbrev pub invariant-loop : goal.invariant-loop
invariant-loop g l = record {
  next : (goal.iterator-loop g).can_next l.iterator';
  finite : (goal.iterator-loop g).is_finite l.iterator';
  reads : (looks : ℕ) (old : Seen) (past : List Act) → HasStream l.order l.stream → l.fn.place ≡ kept l.order l.stream past → unreported past ≡ [] → IsInTurn past → IsReadNext l.order l.stream past
      → Stands (g.H.Host.honest l.fn.host) l.order looks old (seen g.H.Host g.G.Gate.tells l.fn.host l.fn.gate) past
      → ReadSoFar (g.H.Host.honest l.host) l.order looks l.stream old (seen g.H.Host g.G.Gate.tells l.host l.gate) l.place past l.bytes;
  gate : KeepsGate (g.G.Gate.tells l.fn.gate) (g.G.Gate.tells l.gate);
  launches : g.H.Host.launches l.host ≡ g.H.Host.launches l.fn.host;
  folders : g.H.Host.honest l.fn.host → g.H.Host.dirs l.host ≡ g.H.Host.dirs l.fn.host;
  honest : g.H.Host.honest l.host ↔ g.H.Host.honest l.fn.host;
  faults : g.H.Host.faults l.fn.host ≤ g.H.Host.faults l.host;
}
