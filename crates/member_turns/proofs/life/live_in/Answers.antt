use Rattle.program_lock.specs.Passes.{known}
use Rattle.member_turns.proofs.LifeLemmas.{lives}
use Rattle.member_turns.proofs.life.live_in.Goals as goal

pub returns : goal.returns
returns g c =
    let H = g.H.Host in
    let A = g.A.Source in
    record {
      lives = λ start is. lives H A c.args.looks g.R.ScriptThread.stance (λ b. b.value.build) _ _
          c.args.members.now.items c.live_over-how.new.members.items (known c.args.pass) (known c.live_over-how.new.pass) c.in-Ok.state start c.live_over-how.result is c.requires.first c.live_over-how.ensures.rounds c.in-Ok.ensures.ok;
    }
