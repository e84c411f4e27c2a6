use Rattle.std.proofs.Common.{◌≡◌, ◌^◌, List, ap, length, refl, subst, sym, arith}
use Rattle.std.specs.List.{All}
use Rattle.cell_heap.specs.Soundness.{ValueBelow}
use Rattle.model_values.specs.declared.throwable.Class.TheVariants.{IllegalArgument}
use Rattle.model_values.specs.declared.value.Value.{Value}
use Rattle.model_run.specs.StepTable.{Refuses, Stops_at, bind_step}
use Rattle.model_run.specs.Steps.{begin_step, bound_step, throwing}
use Rattle.cps_frames.specs.Standing.{setting_of, standing, state}
use Rattle.cps_frames.proofs.MoveLaws.{beside_here, comes_hits, to_as}
use Rattle.cps_frames.proofs.RequestRoom.{request_room}
use Rattle.step_arguments.specs.Binding.{Comes_to}
use Rattle.step_library.specs.Beginning.{bound_says}
use Rattle.step_library.proofs.BeginLaws.{all_below, step_is}
use Rattle.step_library.proofs.beginning.begin.Goals as goal

pub bind-requires : goal.bind-requires
bind-requires c = subst (All (ValueBelow (length c.args.shared.now.heap.cells))) (sym c.as_slice.ensures) (all_below c.args.shared.now.heap.cells c.args.arguments c.requires.may.arguments)

pub begin_bound-requires : goal.begin_bound-requires
begin_bound-requires c = record { may = record { room = request_room (setting_of c.args.shared.now) (standing c.args.shared.now c.args.state.now).world c.requires.may.sound; executors = c.requires.may.executors; holds = c.requires.may.holds; enough = c.requires.may.enough }; usable = c.in-Ok.ensures.usable }

pub returns-in-Ok : goal.returns-in-Ok
returns-in-Ok c =
    let u = (standing c.args.shared.now c.args.state.now) in
    to_as c.args.node (2 ^ 66) (λ sh a. begin_step a c.args.node c.args.env c.args.step c.args.arguments) (λ sh a. bound_says a c.args.node c.args.env c.in-Ok.bound) u _ _
    (λ a rs. step_is a c.args.node c.args.env c.args.step c.args.arguments u.world rs c.in-Ok.bound (subst (λ (xs : List Value). Comes_to u.world c.args.step (bind_step u.world c.args.step xs) c.in-Ok.bound) c.as_slice.ensures (c.in-Ok.ensures.bound u.world))) c.begin_bound.ensures

pub returns-in-Err-Fault : goal.returns-in-Err-Fault
returns-in-Err-Fault c =
    let u = (standing c.args.shared.now c.args.state.now) in
    let told = subst (λ (xs : List Value). bind_step u.world c.args.step xs ≡ Refuses c.in-Err-Fault.message) c.as_slice.ensures (rw c.in-Err-Fault.field-0-is at (c.in-Err-Fault.ensures.bound u.world)) in
    to_as c.args.node (2 ^ 66) (λ sh a. begin_step a c.args.node c.args.env c.args.step c.args.arguments) (λ sh a. throwing IllegalArgument c.in-Err-Fault.message) u _ _
    (λ a rs. ap (λ x. bound_step a c.args.node c.args.env c.args.step u.world x (state u.world rs)) told) (c.throwing.ensures c.args.state.now c.args.node (2 ^ 66) (omega arith))

pub returns-in-Err-Limit : goal.returns-in-Err-Limit
returns-in-Err-Limit c =
    let u = (standing c.args.shared.now c.args.state.now) in
    let told = subst (λ (xs : List Value). bind_step u.world c.args.step xs ≡ Stops_at c.in-Err-Limit.limit) c.as_slice.ensures (rw c.in-Err-Limit.field-0-is at (c.in-Err-Limit.ensures.bound u.world)) in
    comes_hits c.args.node (2 ^ 66) (λ sh a. begin_step a c.args.node c.args.env c.args.step c.args.arguments) u u c.in-Err-Limit.limit refl (beside_here u) refl (omega arith) (omega arith)
    (λ a rs. ap (λ x. bound_step a c.args.node c.args.env c.args.step u.world x (state u.world rs)) told)
