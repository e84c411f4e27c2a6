use Rattle.std.proofs.Common.{◌≡◌, [], ap, length, refl, arith}
use Rattle.std.specs.Prelude.{codes}
use Rattle.model_run.specs.Around.{position, value_at}
use Rattle.model_run.specs.Fitting.{holds_folder}
use Rattle.model_run.specs.FlowNodes.{end_block}
use Rattle.model_run.specs.State.{Ended, World, changed}
use Rattle.model_run.specs.declared.frame.FrameKind.TheVariants as kind
use Rattle.cps_frames.specs.Order.{rank}
use Rattle.cps_frames.specs.Standing.{standing}
use Rattle.cps_frames.proofs.MoveLaws.{to_kind}
use Rattle.model_run.specs.Steps.{without_folder}
use Rattle.step_library.proofs.FrameFacts.{starts_in}
use Rattle.step_library.proofs.StepMoves.{low_rank, to_body_end, to_left, to_start}
use Rattle.step_library.proofs.settings.dir_body.Goals as goal

pub number_at-requires : goal.number_at-requires
number_at-requires c = let s = (starts_in (standing c.args.shared.now c.args.state.now) c.args.frame c.args.ending kind.DirBody [] c.requires.may c.requires.kind (λ sh left env. refl)) in record { within = omega (arith, s.many); natural = s.body }

pub number_at-requires-2 : goal.number_at-requires-2
number_at-requires-2 c = let s = (starts_in (standing c.args.shared.now c.args.state.now) c.args.frame c.args.ending kind.DirBody [] c.requires.may c.requires.kind (λ sh left env. refl)) in record { within = omega (arith, s.many); natural = s.start }

pub leave_folder-requires : goal.leave_folder-requires
leave_folder-requires c =
    let as_many : length c.end_body.new.state.context.folders ≡ length c.args.state.now.context.folders = ap (λ (w : World). length w.own.context.folders) c.in_ok-end_body.ensures.made in
    omega (arith, as_many, c.requires.may.folder (ap holds_folder c.requires.kind))

pub returns : goal.returns
returns c =
    let f = c.args.frame in
    let u = standing c.end_body.new.shared c.end_body.new.state in
    let w = standing c.end_body.new.shared c.leave_folder.new.state in
    let s = position (value_at 0 f.values) in
    let pos = low_rank f kind.DirBody c.requires.kind refl in
    to_kind (rank f) f kind.DirBody c.args.ending _ _ _ c.requires.kind
    (to_body_end f.node (rank f) (position (value_at 1 f.values)) c.number_at.result (λ sh a. changed without_folder (end_block (codes "dir") s (Ended c.args.ending))) _ u _ _ c.number_at.ensures.number c.in_ok-end_body.ensures
    (to_left f.node (rank f) without_folder (λ w. omega arith) (λ sh a. end_block (codes "dir") s (Ended c.args.ending)) u w _ _ (c.leave_folder.ensures c.end_body.new.shared)
    (to_start f.node (rank f) (codes "dir") s c.number_at-2.result c.args.ending w _ _ c.number_at-2.ensures.number (c.close.ensures f.node (rank f) pos))))
