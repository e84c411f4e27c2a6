use Rattle.std.proofs.Common.{◌∙◌, sym, ap, map}
use Rattle.program_lock.specs.Passes.{known}
use Rattle.member_turns.specs.Turns.{DidTurn}
use Rattle.member_turns.proofs.LivingLemmas.{nothing_taken, taken_of, whole_slice}
use Rattle.member_turns.proofs.life.live_over.Goals as goal

pub returns-in-Ok-clause-rounds : goal.returns-in-Ok-clause-rounds
returns-in-Ok-clause-rounds g c =
    let H = g.H.Host in
    let A = g.A.Source in
    let old = c.as_mut_slice.result.now in
    let new = c.take_rounds-how.new.seats in
    let whole = whole_slice c.in-Ok.seats.len c.in-Ok.seats.items new (sym (c.take_rounds-how.ensures.len ∙ c.as_mut_slice.ensures.len)) in
    taken_of (DidTurn H A c.args.looks) g.R.ScriptThread.stance (λ b. b.value.build)
    (map (λ seat. seat.member) old) c.args.members.now.items (map (λ seat. seat.member) new) c.unseat.new.members.items (known c.args.pass.now) (known c.take_rounds-how.new.pass) c.take_rounds-how.result
    (ap (map (λ seat. seat.member)) c.as_mut_slice.ensures.value ∙ c.in-Ok.ensures.members.0) (sym (c.unseat.ensures.members ∙ ap (map (λ seat. seat.member)) whole)) c.take_rounds-how.ensures.rounds

pub returns-in-Err-clause-rounds : goal.returns-in-Err-clause-rounds
returns-in-Err-clause-rounds g c =
    let H = g.H.Host in
    let A = g.A.Source in
    nothing_taken (DidTurn H A c.args.looks) g.R.ScriptThread.stance (λ b. b.value.build)
    c.args.members.now.items c.seated.new.members.items (known c.args.pass.now) c.in-Err.memory c.in-Err.ensures.refused
