use Rattle.std.proofs.Common.{◌∙◌, refl, sym}
use Rattle.program_lock.specs.Passes.{known}
use Rattle.member_turns.proofs.CallLemmas.{site_says}
use Rattle.member_turns.specs.Turns.{DidTurn}
use Rattle.member_turns.proofs.ServeLemmas.{served, serves_seat}
use Rattle.member_turns.proofs.seat.SeatWorker.work.Goals as goal

pub returns : goal.returns
returns g c =
    let H = g.H.Host in
    let A = g.A.Source in
    let me = c.args.self.now in
    let is = sym c.take.ensures.value ∙ c.in-Some.is in
    let e = c.work_through-pass.ensures in (
      refl,
      refl,
      serves_seat (DidTurn H A me.looks) (site_says g.R.ScriptThread.stance (λ b. b.value.build)) me.pass c.in-Some.pass c.work_through-pass.result.1 me.member c.work_through-pass.new.member is
          (e.belongs ∙ sym (me.belongs c.in-Some.pass is))
          (λ fresh. served H A me.looks (site_says g.R.ScriptThread.stance (λ b. b.value.build)) (known c.in-Some.pass) (known c.work_through-pass.result.1) me.member c.work_through-pass.new.member c.work_through-pass.result.0 fresh e.worked),
    )
