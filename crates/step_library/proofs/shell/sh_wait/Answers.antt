use Rattle.std.proofs.Common.{refl, subst, sym, arith}
use Rattle.model_run.specs.Around.{value_at}
use Rattle.model_run.specs.Steps.{after_sh, flag_at, sh_ended}
use Rattle.model_run.specs.declared.frame.FrameKind.TheVariants as kind
use Rattle.cps_frames.specs.Moves.{ComesTo}
use Rattle.cps_frames.specs.Order.{rank}
use Rattle.cps_frames.specs.Standing.{standing}
use Rattle.cps_frames.proofs.MoveLaws.{to_kind}
use Rattle.step_library.proofs.FrameFacts.{done_in, flags_in}
use Rattle.step_library.proofs.StepMoves.{low_rank}
use Rattle.step_library.proofs.shell.sh_wait.Goals as goal

pub task_end-end-requires : goal.task_end-end-requires
task_end-end-requires c = done_in (standing c.args.shared.now c.args.state.now) c.args.frame.now c.args.ending c.requires.may c.requires.kind

pub flag_at-status-requires : goal.flag_at-status-requires
flag_at-status-requires c = let s = flags_in (standing c.args.shared.now c.args.state.now) c.args.frame.now c.args.ending c.requires.may c.requires.kind in record { within = omega (arith, s.many); truth = s.status }

pub flag_at-keep_out-requires : goal.flag_at-keep_out-requires
flag_at-keep_out-requires c = let s = flags_in (standing c.args.shared.now c.args.state.now) c.args.frame.now c.args.ending c.requires.may c.requires.kind in record { within = omega (arith, s.many); truth = s.keep_out }

pub returns : goal.returns
returns c =
    let f = c.args.frame.now in
    let u = standing c.args.shared.now c.args.state.now in
    let v = standing c.sh_ended.new.shared c.args.state.now in
    let code = c.task_end-end.result.code in
    let out = c.task_end-end.result.out in
    to_kind (rank f) f kind.ShWait c.args.ending _ _ _ c.requires.kind
    (subst (λ e. ComesTo f.node (rank f) (λ sh a. after_sh (value_at 0 f.values) (value_at 1 f.values) e) u c.sh_ended.result v) (sym c.task_end-end.ensures)
    (subst (λ b. ComesTo f.node (rank f) (λ sh a. sh_ended b (flag_at (value_at 1 f.values)) code out) u c.sh_ended.result v) c.flag_at-status.ensures
    (subst (λ b. ComesTo f.node (rank f) (λ sh a. sh_ended c.flag_at-status.result b code out) u c.sh_ended.result v) c.flag_at-keep_out.ensures
    (c.sh_ended.ensures c.args.state.now f.node (rank f) (low_rank f kind.ShWait c.requires.kind refl)))))
