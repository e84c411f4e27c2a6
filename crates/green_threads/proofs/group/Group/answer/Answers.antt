use Rattle.std.proofs.Common.{refl, sym, ◌∙◌, arith}
use Rattle.green_threads.specs.WaitTypes.{Ready}
use Rattle.green_threads.proofs.Seats.{not_found}
use Rattle.green_threads.proofs.Calls.{found_below, ended_below, is_at, answer_is, waiting_grouped}
use Rattle.green_threads.proofs.group.Group.answer.Goals as goal

pub returns-in_default-clause-refused : goal.returns-in_default-clause-refused
returns-in_default-clause-refused g c = ((not_found {T = g.row.R.Denot} c.args.thread c.args.self.now.seats (sym c.find.ensures ∙ c.in_default.is)).0, refl)

pub index-requires : goal.index-requires
index-requires g c = omega (arith, c.self.inside.seats.ok.0, found_below {T = g.row.R.Denot} c.args.self.now c.self.inside.seats.items c.self.inside.next c.self.view_is c.args.thread c.in-Some.place (sym c.find.ensures ∙ c.in-Some.is))

pub returns-then-not-is_request-clause-refused : goal.returns-then-not-is_request-clause-refused
returns-then-not-is_request-clause-refused g c = ((is_at {T = g.row.R.Denot} c.args.self.now c.self.inside.seats.items c.self.inside.next c.self.view_is c.args.thread c.in-Some.place c.index.result.now (sym c.find.ensures ∙ c.in-Some.is) c.index.ensures).2 ∙ sym c.is_request.ensures ∙ c.if-not-is_request.true, refl)

pub wait_at-requires : goal.wait_at-requires
wait_at-requires g c = ended_below {T = g.row.R.Denot} c.args.thread c.in-Some.place c.args.self.now.seats (sym c.find.ensures ∙ c.in-Some.is)

pub returns-clause-answered : goal.returns-clause-answered
returns-clause-answered g c =
    let a = is_at {T = g.row.R.Denot} c.args.self.now c.self.inside.seats.items c.self.inside.next c.self.view_is c.args.thread c.in-Some.place c.index.result.now (sym c.find.ensures ∙ c.in-Some.is) c.index.ensures in
    (a.2 ∙ sym c.is_request.ensures ∙ c.if-not-is_request.false, answer_is c.args.self.now c.args.self.now.seats c.args.self.now.next refl g.R.Runner.number g.R.Runner.parent g.R.Runner.branch c.requires.grouped c.args.thread c.in-Some.place c.index.result.now (Ready c.args.answer) _ a.0 a.1 c.wait_at.ensures)

pub returns-clause-grouped : goal.returns-clause-grouped
returns-clause-grouped g c =
    let a = is_at {T = g.row.R.Denot} c.args.self.now c.self.inside.seats.items c.self.inside.next c.self.view_is c.args.thread c.in-Some.place c.index.result.now (sym c.find.ensures ∙ c.in-Some.is) c.index.ensures in
    waiting_grouped c.args.self.now c.args.self.now.seats c.args.self.now.next refl g.R.Runner.number g.R.Runner.parent g.R.Runner.branch c.requires.grouped c.in-Some.place c.index.result.now (Ready c.args.answer) _ a.0 tt c.wait_at.ensures
