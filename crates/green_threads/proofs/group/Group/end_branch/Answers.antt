use Rattle.std.proofs.Common.{◌<◌, length, refl, sym, ap, subst, ◌∙◌, arith}
use Rattle.model_run.specs.World.{join_wait}
use Rattle.green_threads.proofs.Seats.{set_length}
use Rattle.green_threads.proofs.Calls.{ended_nowhere, ended_below, ended_there, joins_few}
use Rattle.green_threads.specs.Grouping.{FewBranches}
use Rattle.green_threads.proofs.group.Group.end_branch.Goals as goal

pub returns-in_default : goal.returns-in_default
returns-in_default g c = λ x at. ended_nowhere c.args.self.now c.self.inside.seats.items c.self.inside.next c.self.view_is g.R.Runner.number g.R.Runner.parent g.R.Runner.branch c.requires.grouped c.args.place x c.remove-ended.new.self.items (g.R.Runner.head x.thread) c.args.outcome c.args.parent c.remove-ended.ensures.items at (sym c.find.ensures ∙ c.in_default.is)

pub index_mut-requires : goal.index_mut-requires
index_mut-requires g c = omega (arith, c.remove-ended.new.self.ok.0, ended_below {T = g.row.R.Denot} c.args.parent c.in-Some.at c.remove-ended.new.self.items (sym c.find.ensures ∙ c.in-Some.is))

pub joined-requires : goal.joined-requires
joined-requires g c = record { few_branches = subst FewBranches (sym c.replace-wait.ensures.value) (joins_few c.args.self.now c.self.inside.seats.items c.self.inside.next c.self.view_is g.R.Runner.number g.R.Runner.parent g.R.Runner.branch c.requires.grouped c.args.place c.index_mut.result.now c.remove-ended.new.self.items c.args.parent c.in-Some.at c.index_mut.result.now (subst (λ m. c.args.place < length m.seats) (sym c.self.view_is) c.requires.place) c.remove-ended.ensures.items (sym c.find.ensures ∙ c.in-Some.is) c.index_mut.ensures.value) }

pub wait_at-requires : goal.wait_at-requires
wait_at-requires g c = omega (arith, set_length c.remove-ended.new.self.items c.in-Some.at (record { number = c.index_mut.result.now.number; parent = c.index_mut.result.now.parent; wait = c.replace-wait.new.dest; thread = c.index_mut.result.now.thread }), ended_below {T = g.row.R.Denot} c.args.parent c.in-Some.at c.remove-ended.new.self.items (sym c.find.ensures ∙ c.in-Some.is))

pub returns : goal.returns
returns g c = λ x at. ended_there c.args.self.now c.self.inside.seats.items c.self.inside.next c.self.view_is g.R.Runner.number g.R.Runner.parent g.R.Runner.branch c.requires.grouped c.args.place x c.remove-ended.result c.remove-ended.new.self.items g.R.Runner.head c.head-node.result c.args.outcome c.args.parent c.in-Some.at c.index_mut.result.now _ c.replace-wait.new.dest _ _ c.remove-ended.ensures.items at c.remove-ended.ensures.value c.head-node.ensures.head (sym c.find.ensures ∙ c.in-Some.is) c.index_mut.ensures.value refl (c.in_ok-wait.ensures ∙ ap (λ w. join_wait c.remove-ended.result.number c.head-node.result c.args.outcome w) c.replace-wait.ensures.value) c.wait_at.ensures
