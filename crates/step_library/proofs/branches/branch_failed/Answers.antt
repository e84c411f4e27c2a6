use Rattle.std.proofs.Common.{◌++◌, sym}
use Rattle.std.specs.Prelude.{codes}
use Rattle.model_run.specs.FlowNodes.{branch_name, logging}
use Rattle.model_run.specs.declared.ending.Ending.TheVariants.{Thrown}
use Rattle.cps_frames.specs.Standing.{standing, state}
use Rattle.model_run.specs.State.{Ended, seeing}
use Rattle.model_run.specs.Steps.{branch_failed}
use Rattle.cps_frames.proofs.MoveLaws.{comes_ended, to_as}
use Rattle.cps_frames.proofs.WayLaws.{throw_err, throw_ok}
use Rattle.step_library.proofs.branches.branch_failed.Goals as goal

pub returns-in-Ok : goal.returns-in-Ok
returns-in-Ok c = λ t k r pos.
    let u = standing c.args.shared.now t in
    to_as k r (λ sh a. branch_failed c.args.start c.args.ending) (λ sh a. logging (codes "Failed in branch " ++ branch_name c.args.start u.world.shared.nodes) (Ended (Thrown c.in-Ok.cell))) u _ _
    (λ a rs. throw_ok (λ cell. seeing (λ w. logging (codes "Failed in branch " ++ branch_name c.args.start w.shared.nodes) (Ended (Thrown cell)))) Ended c.args.ending c.in-Ok.cell (state u.world rs) (sym c.in-Ok.ensures)) (c.log_failure.ensures t k r pos)

pub returns-in-Err : goal.returns-in-Err
returns-in-Err c = λ t k r pos.
    let u = standing c.args.shared.now t in
    comes_ended k r (λ sh a. branch_failed c.args.start c.args.ending) u c.in-Err.ending pos
    (λ a rs. throw_err (λ cell. seeing (λ w. logging (codes "Failed in branch " ++ branch_name c.args.start w.shared.nodes) (Ended (Thrown cell)))) Ended c.args.ending c.in-Err.ending (state u.world rs) (sym c.in-Err.ensures))
