use Rattle.std.proofs.Common.{◌∷◌, inr, refl, arith}
use Rattle.agent_worker.specs.Acts.{looked}
use Rattle.agent_worker.proofs.StandLemmas.{stands-looked}
use Rattle.agent_worker.proofs.TurnLemmas.{turns-log, turns-both, out-kept, through-reported, through-in-turn, log-is-next, out-is-next}
use Rattle.agent_worker.proofs.turn.take_turn.Goals as goal

pub returns-in-Err-clause-turns : goal.returns-in-Err-clause-turns
returns-in-Err-clause-turns g c looks old past may log_at out_at stands =
    let goes = c.look-look.ensures.output in
    let begun = stands-looked (g.H.Host.honest c.look-look.new.self) _ _ _ _ _ _ _ _ (g.H.Host.output c.look-look.new.self) (g.H.Host.exited c.look-look.new.self) (g.H.Host.dirs c.args.host.now) (g.H.Host.launches c.args.host.now) stands c.look-look.ensures.honest.0 c.look-look.ensures.calls may goes c.look-look.ensures.state in
    let log = c.in-Err.ensures.reads looks old (looked c.args.order.now c.look-look.result ∷ past) tt log_at refl tt (log-is-next c.args.order.now c.look-look.result past) begun in
    record { next = log.next; stands = log.stands; adds = log.adds; still = λ act done. log.still act (inr done) }

pub returns-then-not-order-clause-turns : goal.returns-then-not-order-clause-turns
returns-then-not-order-clause-turns g c looks old past may log_at out_at stands =
    let goes = c.look-look.ensures.output in
    let begun = stands-looked (g.H.Host.honest c.look-look.new.self) _ _ _ _ _ _ _ _ (g.H.Host.output c.look-look.new.self) (g.H.Host.exited c.look-look.new.self) (g.H.Host.dirs c.args.host.now) (g.H.Host.launches c.args.host.now) stands c.look-look.ensures.honest.0 c.look-look.ensures.calls may goes c.look-look.ensures.state in
    let log = c.in-Ok.ensures.reads looks old (looked c.args.order.now c.look-look.result ∷ past) tt log_at refl tt (log-is-next c.args.order.now c.look-look.result past) begun in
    turns-log _ c.args.order.now _ _ _ _ _ _ _ c.in-Ok.reading c.if-not-order.true out_at log

pub returns-in-Err-read_through-clause-turns : goal.returns-in-Err-read_through-clause-turns
returns-in-Err-read_through-clause-turns g c looks old past may log_at out_at stands =
    let goes = c.look-look.ensures.output in
    let begun = stands-looked (g.H.Host.honest c.look-look.new.self) _ _ _ _ _ _ _ _ (g.H.Host.output c.look-look.new.self) (g.H.Host.exited c.look-look.new.self) (g.H.Host.dirs c.args.host.now) (g.H.Host.launches c.args.host.now) stands c.look-look.ensures.honest.0 c.look-look.ensures.calls may goes c.look-look.ensures.state in
    let log = c.in-Ok.ensures.reads looks old (looked c.args.order.now c.look-look.result ∷ past) tt log_at refl tt (log-is-next c.args.order.now c.look-look.result past) begun in
    let out_now = out-kept _ c.args.order.now looks old _ c.look-look.result past c.read_through.new.place c.args.out.now c.in-Ok.reading out_at log in
    let out = c.in-Err-read_through.ensures.reads looks old log.next c.if-not-order.false out_now (through-reported _ c.args.order.now looks _ old _ _ _ c.in-Ok.reading log) (through-in-turn _ c.args.order.now looks _ old _ _ _ c.in-Ok.reading log tt) (out-is-next _ c.args.order.now looks old _ c.look-look.result _ past c.in-Ok.reading log) log.stands in
    record { next = out.next; stands = out.stands; adds = out.adds; still = λ act done. out.still act (log.still act (inr done)) }

pub returns-clause-turns : goal.returns-clause-turns
returns-clause-turns g c looks old past may log_at out_at stands =
    let goes = c.look-look.ensures.output in
    let begun = stands-looked (g.H.Host.honest c.look-look.new.self) _ _ _ _ _ _ _ _ (g.H.Host.output c.look-look.new.self) (g.H.Host.exited c.look-look.new.self) (g.H.Host.dirs c.args.host.now) (g.H.Host.launches c.args.host.now) stands c.look-look.ensures.honest.0 c.look-look.ensures.calls may goes c.look-look.ensures.state in
    let log = c.in-Ok.ensures.reads looks old (looked c.args.order.now c.look-look.result ∷ past) tt log_at refl tt (log-is-next c.args.order.now c.look-look.result past) begun in
    let out_now = out-kept _ c.args.order.now looks old _ c.look-look.result past c.read_through.new.place c.args.out.now c.in-Ok.reading out_at log in
    let out = c.in-Ok-read_through.ensures.reads looks old log.next c.if-not-order.false out_now (through-reported _ c.args.order.now looks _ old _ _ _ c.in-Ok.reading log) (through-in-turn _ c.args.order.now looks _ old _ _ _ c.in-Ok.reading log tt) (out-is-next _ c.args.order.now looks old _ c.look-look.result _ past c.in-Ok.reading log) log.stands in
    turns-both _ _ c.args.order.now _ _ _ _ c.look-look.result past _ _ c.in-Ok.reading c.in-Ok-read_through.reading c.turn_of.result c.if-not-order.false c.turn_of.ensures.turn log out

pub returns-in-Err-clause-faults : goal.returns-in-Err-clause-faults
returns-in-Err-clause-faults g c = omega (arith, c.look-look.ensures.cause.never_falls, c.read_through.ensures.faults)

pub returns-then-not-order-clause-faults : goal.returns-then-not-order-clause-faults
returns-then-not-order-clause-faults g c = omega (arith, c.look-look.ensures.cause.never_falls, c.read_through.ensures.faults)

pub returns-in-Err-read_through-clause-faults : goal.returns-in-Err-read_through-clause-faults
returns-in-Err-read_through-clause-faults g c = omega (arith, c.look-look.ensures.cause.never_falls, c.read_through.ensures.faults, c.read_through-2.ensures.faults)

pub returns-clause-faults : goal.returns-clause-faults
returns-clause-faults g c = omega (arith, c.look-look.ensures.cause.never_falls, c.read_through.ensures.faults, c.read_through-2.ensures.faults)
