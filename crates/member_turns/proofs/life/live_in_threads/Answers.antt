use Rattle.std.proofs.Common.{ap}
use Rattle.member_turns.proofs.life.live_in_threads.Goals as goal

pub returns-in-Ok-clause-lives : goal.returns-in-Ok-clause-lives
returns-in-Ok-clause-lives g c = c.live_in.ensures.lives c.args.state.base (ap (λ k. k.base) c.in-Ok.ensures.ok.1)
