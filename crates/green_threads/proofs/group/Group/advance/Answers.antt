use Rattle.std.proofs.Common.{◌<◌, ◌+◌, length, slice_set, sym, subst, ◌∙◌, arith}
use Rattle.green_threads.specs.Turns.{rules}
use Rattle.green_threads.proofs.Turning.{place_below, place_in_set, fitting_here, waits_turn, forks_turn, too_many_over, set_grouped, ended_over, ends_turn, limit_over, parent_at}
use Rattle.green_threads.proofs.group.Group.advance.Goals as goal

pub index_mut-requires : goal.index_mut-requires
index_mut-requires g c = omega (arith, c.self.inside.seats.ok.0, place_below (rules g.R.Runner.number g.R.Runner.parent g.R.Runner.branch g.R.Runner.head g.R.Runner.seated g.R.Runner.room g.R.Runner.fits g.R.Runner.turns) c.args.self.now c.self.inside.seats.items c.self.inside.next c.self.view_is c.args.place c.requires.ready)

pub resume_seat-requires : goal.resume_seat-requires
resume_seat-requires g c = record { ready = fitting_here (rules g.R.Runner.number g.R.Runner.parent g.R.Runner.branch g.R.Runner.head g.R.Runner.seated g.R.Runner.room g.R.Runner.fits g.R.Runner.turns) c.args.self.now c.self.inside.seats.items c.self.inside.next c.self.view_is c.args.place c.requires.ready c.index_mut.result.now c.args.shared.now c.index_mut.ensures.value c.requires.fits }

pub wait_at-requires : goal.wait_at-requires
wait_at-requires g c = place_in_set (rules g.R.Runner.number g.R.Runner.parent g.R.Runner.branch g.R.Runner.head g.R.Runner.seated g.R.Runner.room g.R.Runner.fits g.R.Runner.turns) c.args.self.now c.self.inside.seats.items c.self.inside.next c.self.view_is c.args.place c.requires.ready c.resume_seat.new.seat

pub returns-in-Waits : goal.returns-in-Waits
returns-in-Waits g c = waits_turn (rules g.R.Runner.number g.R.Runner.parent g.R.Runner.branch g.R.Runner.head g.R.Runner.seated g.R.Runner.room g.R.Runner.fits g.R.Runner.turns) c.args.self.now c.self.inside.seats.items c.self.inside.next c.self.view_is c.args.place c.requires.ready c.index_mut.result.now c.resume_seat.new.seat c.args.shared.now c.resume_seat.new.shared c.in_ok-stop.stop c.index_mut.ensures.value c.requires.grouped c.requires.fits c.requires.bounded c.in_ok-stop.ensures c.in-Waits.request _ c.in-Waits.is c.wait_at.ensures

pub returns-then-exceeds_limit : goal.returns-then-exceeds_limit
returns-then-exceeds_limit g c = too_many_over (rules g.R.Runner.number g.R.Runner.parent g.R.Runner.branch g.R.Runner.head g.R.Runner.seated g.R.Runner.room g.R.Runner.fits g.R.Runner.turns) c.args.self.now c.self.inside.seats.items c.self.inside.next c.self.view_is c.args.place c.requires.ready c.index_mut.result.now c.resume_seat.new.seat c.args.shared.now c.resume_seat.new.shared c.in_ok-stop.stop c.index_mut.ensures.value c.requires.grouped c.requires.fits c.requires.bounded c.in_ok-stop.ensures c.in-Forks.branches c.in-Forks.is (subst (λ n. 256 < length (slice_set c.self.inside.seats.items c.args.place c.resume_seat.new.seat) + n) c.len.ensures (c.exceeds_limit.ensures.0 c.if-exceeds_limit.true))

pub fork-requires-clause-place : goal.fork-requires-clause-place
fork-requires-clause-place g c = place_in_set (rules g.R.Runner.number g.R.Runner.parent g.R.Runner.branch g.R.Runner.head g.R.Runner.seated g.R.Runner.room g.R.Runner.fits g.R.Runner.turns) c.args.self.now c.self.inside.seats.items c.self.inside.next c.self.view_is c.args.place c.requires.ready c.resume_seat.new.seat

pub returns-in_ok-fork-in-Forks : goal.returns-in_ok-fork-in-Forks
returns-in_ok-fork-in-Forks g c = forks_turn (rules g.R.Runner.number g.R.Runner.parent g.R.Runner.branch g.R.Runner.head g.R.Runner.seated g.R.Runner.room g.R.Runner.fits g.R.Runner.turns) c.args.self.now c.self.inside.seats.items c.self.inside.next c.self.view_is c.args.place c.requires.ready c.index_mut.result.now c.resume_seat.new.seat c.args.shared.now c.resume_seat.new.shared c.in_ok-stop.stop c.index_mut.ensures.value c.requires.grouped c.requires.fits c.requires.bounded c.in_ok-stop.ensures c.in-Forks.branches _ c.in-Forks.is (λ many. cc (sym (c.exceeds_limit.ensures.1 (subst (λ n. 256 < length (slice_set c.self.inside.seats.items c.args.place c.resume_seat.new.seat) + n) (sym c.len.ensures) many)) ∙ c.if-exceeds_limit.false)) c.in_ok-fork-in-Forks.ensures

pub index-requires : goal.index-requires
index-requires g c = omega (arith, c.self.inside.seats.ok.0, place_below (rules g.R.Runner.number g.R.Runner.parent g.R.Runner.branch g.R.Runner.head g.R.Runner.seated g.R.Runner.room g.R.Runner.fits g.R.Runner.turns) c.args.self.now c.self.inside.seats.items c.self.inside.next c.self.view_is c.args.place c.requires.ready)

pub returns-in-None : goal.returns-in-None
returns-in-None g c = ended_over (rules g.R.Runner.number g.R.Runner.parent g.R.Runner.branch g.R.Runner.head g.R.Runner.seated g.R.Runner.room g.R.Runner.fits g.R.Runner.turns) c.args.self.now c.self.inside.seats.items c.self.inside.next c.self.view_is c.args.place c.requires.ready c.index_mut.result.now c.resume_seat.new.seat c.args.shared.now c.resume_seat.new.shared c.in_ok-stop.stop c.index_mut.ensures.value c.requires.grouped c.requires.fits c.requires.bounded c.in_ok-stop.ensures c.in-Ended.outcome c.in-Ended.is (sym (parent_at (rules g.R.Runner.number g.R.Runner.parent g.R.Runner.branch g.R.Runner.head g.R.Runner.seated g.R.Runner.room g.R.Runner.fits g.R.Runner.turns) c.args.self.now c.self.inside.seats.items c.self.inside.next c.self.view_is c.args.place c.requires.ready c.index_mut.result.now c.resume_seat.new.seat c.args.shared.now c.resume_seat.new.shared c.in_ok-stop.stop c.index_mut.ensures.value c.requires.grouped c.requires.fits c.requires.bounded c.in_ok-stop.ensures c.index.result.now c.index.ensures) ∙ c.in-None.is)

pub end_branch-requires-clause-place : goal.end_branch-requires-clause-place
end_branch-requires-clause-place g c = place_in_set (rules g.R.Runner.number g.R.Runner.parent g.R.Runner.branch g.R.Runner.head g.R.Runner.seated g.R.Runner.room g.R.Runner.fits g.R.Runner.turns) c.args.self.now c.self.inside.seats.items c.self.inside.next c.self.view_is c.args.place c.requires.ready c.resume_seat.new.seat

pub end_branch-requires-clause-grouped : goal.end_branch-requires-clause-grouped
end_branch-requires-clause-grouped g c = set_grouped (rules g.R.Runner.number g.R.Runner.parent g.R.Runner.branch g.R.Runner.head g.R.Runner.seated g.R.Runner.room g.R.Runner.fits g.R.Runner.turns) c.args.self.now c.self.inside.seats.items c.self.inside.next c.self.view_is c.args.place c.requires.ready c.index_mut.result.now c.resume_seat.new.seat c.args.shared.now c.resume_seat.new.shared c.in_ok-stop.stop c.index_mut.ensures.value c.requires.grouped c.requires.fits c.requires.bounded c.in_ok-stop.ensures

pub returns-in_ok-end_branch-in-Some : goal.returns-in_ok-end_branch-in-Some
returns-in_ok-end_branch-in-Some g c = ends_turn (rules g.R.Runner.number g.R.Runner.parent g.R.Runner.branch g.R.Runner.head g.R.Runner.seated g.R.Runner.room g.R.Runner.fits g.R.Runner.turns) c.args.self.now c.self.inside.seats.items c.self.inside.next c.self.view_is c.args.place c.requires.ready c.index_mut.result.now c.resume_seat.new.seat c.args.shared.now c.resume_seat.new.shared c.in_ok-stop.stop c.index_mut.ensures.value c.requires.grouped c.requires.fits c.requires.bounded c.in_ok-stop.ensures c.in-Ended.outcome c.in-Some.parent _ c.in-Ended.is (sym (parent_at (rules g.R.Runner.number g.R.Runner.parent g.R.Runner.branch g.R.Runner.head g.R.Runner.seated g.R.Runner.room g.R.Runner.fits g.R.Runner.turns) c.args.self.now c.self.inside.seats.items c.self.inside.next c.self.view_is c.args.place c.requires.ready c.index_mut.result.now c.resume_seat.new.seat c.args.shared.now c.resume_seat.new.shared c.in_ok-stop.stop c.index_mut.ensures.value c.requires.grouped c.requires.fits c.requires.bounded c.in_ok-stop.ensures c.index.result.now c.index.ensures) ∙ c.in-Some.is) c.in_ok-end_branch-in-Some.ensures

pub returns-in-Limit : goal.returns-in-Limit
returns-in-Limit g c = limit_over (rules g.R.Runner.number g.R.Runner.parent g.R.Runner.branch g.R.Runner.head g.R.Runner.seated g.R.Runner.room g.R.Runner.fits g.R.Runner.turns) c.args.self.now c.self.inside.seats.items c.self.inside.next c.self.view_is c.args.place c.requires.ready c.index_mut.result.now c.resume_seat.new.seat c.args.shared.now c.resume_seat.new.shared c.in_ok-stop.stop c.index_mut.ensures.value c.requires.grouped c.requires.fits c.requires.bounded c.in_ok-stop.ensures c.in-Limit.kind c.in-Limit.is
