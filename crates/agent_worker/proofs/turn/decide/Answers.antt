use Rattle.std.proofs.Common.{ℕ}
use Rattle.agent_worker.specs.declared.turn.Turn.{Turn}
use Rattle.agent_worker.specs.declared.turn.Next.{Next}
use Rattle.agent_worker.specs.declared.turn.Next.TheVariants as next
use Rattle.agent_worker.specs.Turning.{Goes, Unread, Decides, Counts}
use Rattle.agent_worker.proofs.turn.decide.Goals as goal

counts-decides : (turn : Turn) (vain looks : ℕ) (then : Next) → Goes turn → Counts turn.bytes vain looks then → Decides turn vain looks then
counts-decides turn vain looks (next.Exited code) goes counts = absurd counts
counts-decides turn vain looks next.NotStarted goes counts = absurd counts
counts-decides turn vain looks next.Gone goes counts = (goes, counts.0, counts.1)
counts-decides turn vain looks (next.Pause count) goes counts = (goes, counts.0, counts.1)

pub returns-then-turn : goal.returns-then-turn
returns-then-turn c = record { decides = counts-decides c.args.turn c.args.vain c.args.looks c.count-then-turn.result (Unread c.in-Exited.code c.in-Exited.is c.if-turn.true) c.count-then-turn.ensures.counts }
