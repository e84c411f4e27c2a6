use Rattle.std.proofs.Common.{length, ap, ◌∙◌, arith}
use Rattle.green_threads.proofs.Forking.{fork_starts, fork_step, fork_returns, number_at}
use Rattle.green_threads.proofs.group.Group.fork.Goals as goal

pub loop-branch-init : goal.loop-branch-init
loop-branch-init g c = (
  fork_starts g.R.Runner.number g.R.Runner.parent g.R.Runner.branch g.R.Runner.seated c.args.self.now c.self.inside.seats.items c.self.inside.next c.self.view_is c.index.result.now.number _ _ _ (c.into_iter-branch-iterator.ensures.into_iter_gives.0 ∙ c.into_vec-branch-items.ensures) c.new-joins.ensures c.requires.branches,
  omega (arith, ap length c.into_iter-branch-iterator.ensures.into_iter_gives.0, c.into_iter-branch-iterator.ensures.into_iter_gives.1, c.into_vec-branch-items.result.ok.0),
)

pub loop-branch-preserved : goal.loop-branch-preserved
loop-branch-preserved g c = (
  fork_step g.R.Runner.number g.R.Runner.parent g.R.Runner.branch g.R.Runner.seated c.index.result.now.number c.args.self.now.seats c.args.self.now.next c.args.branches _ _ _ _ _ _ _ _ _ c.loop-branch.invariant.0 c.in-Some.ensures.steps.0 c.seat.ensures.seated c.seat.ensures.number c.seat.ensures.parent c.seat.ensures.branch c.in_ok-push-2.ensures.items c.in_ok-push.ensures.pushed,
  omega (arith, c.loop-branch.invariant.1, ap length c.in-Some.ensures.steps.0, c.in-Some.ensures.steps.1),
)

pub returns : goal.returns
returns g c = λ x at. fork_returns g.R.Runner.number g.R.Runner.parent g.R.Runner.branch g.R.Runner.seated c.index.result.now.number c.args.self.now.seats c.args.self.now.next c.args.branches c.args.place x _ _ _ _ _ c.loop-branch.invariant.0 (λ le. omega (arith, c.loop-branch.invariant.1, c.in-None.ensures.steps.0, le)) at (number_at g.R.Runner.number g.R.Runner.parent g.R.Runner.branch g.R.Runner.seated c.args.self.now c.self.inside.seats.items c.self.inside.next c.self.view_is c.args.place x c.index.result.now at c.index.ensures) c.wait_at.ensures
