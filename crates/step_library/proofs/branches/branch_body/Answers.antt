use Rattle.std.proofs.Common.{ℕ, refl, subst, sym, arith}
use Rattle.model_run.specs.Fitting.{IsFlowNode}
use Rattle.model_run.specs.Steps.{after_branch}
use Rattle.model_run.specs.declared.frame.FrameKind.TheVariants as kind
use Rattle.cps_frames.specs.Moves.{ComesTo}
use Rattle.cps_frames.specs.Order.{rank}
use Rattle.cps_frames.specs.Standing.{standing}
use Rattle.cps_frames.proofs.EndLaws.{block_inside}
use Rattle.cps_frames.proofs.MoveLaws.{to_kind}
use Rattle.step_library.proofs.FrameFacts.{start_in}
use Rattle.step_library.proofs.StepMoves.{low_rank}
use Rattle.step_library.proofs.branches.branch_body.Goals as goal

pub number_at-start-requires : goal.number_at-start-requires
number_at-start-requires c = let s = start_in (standing c.args.shared.now c.args.state.now) c.args.frame c.args.ending kind.BranchBody c.requires.may c.requires.kind (λ sh left env. refl) in record { within = omega (arith, s.many); natural = s.start }

pub end_branch-requires : goal.end_branch-requires
end_branch-requires c =
    let s = start_in (standing c.args.shared.now c.args.state.now) c.args.frame c.args.ending kind.BranchBody c.requires.may c.requires.kind (λ sh left env. refl) in
    record {
      start = subst (IsFlowNode c.args.shared.now.graph) (sym c.number_at-start.ensures.number) s.there;
      ending = block_inside c.requires.may c.requires.kind refl;
    }

pub returns : goal.returns
returns c =
    let f = c.args.frame in
    let u = standing c.args.shared.now c.args.state.now in
    let v = standing c.end_branch.new.shared c.end_branch.new.state in
    to_kind (rank f) f kind.BranchBody c.args.ending _ _ _ c.requires.kind
    (subst (λ (x : ℕ). ComesTo f.node (rank f) (λ sh a. after_branch x c.args.ending) u c.end_branch.result v) c.number_at-start.ensures.number (c.end_branch.ensures f.node (rank f) (low_rank f kind.BranchBody c.requires.kind refl)))
