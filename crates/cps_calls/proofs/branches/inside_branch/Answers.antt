use Rattle.std.proofs.Common.{◌≡◌, ◌∙◌, ◌∷◌, ◌++◌, [], append_assoc, ap, sym}
use Rattle.model_run.specs.Around.{frame, whole}
use Rattle.model_run.specs.declared.frame.FrameKind.TheVariants as kind
use Rattle.cps_frames.specs.Standing.{standing}
use Rattle.cps_frames.proofs.MoveLaws.{beside_frames, same_world}
use Rattle.cps_frames.proofs.PartLaws.{part_there}
use Rattle.cps_calls.proofs.BranchLaws.{comes_inside_branch}
use Rattle.cps_calls.proofs.branches.inside_branch.Goals as goal

pub unreachable-requires : goal.unreachable-requires
unreachable-requires c = part_there _ _ _ c.requires.part (sym c.part.ensures.number ∙ c.in-None.is)

pub returns : goal.returns
returns c = λ r above.
    let k = c.args.node in
    let env = c.args.env in
    let f = frame kind.BranchBody k 0 env (whole c.args.start ∷ []) in
    let g = frame kind.CallBody k 0 env c.new.result in
    let u = standing c.args.shared.now c.args.state.now in
    let v = standing c.args.shared.now c.push-in-Some.new.self in
    let is : c.in_ok-branch-in-Some.branch ≡ f = c.in_ok-branch-in-Some.ensures ∙ ap (λ e. frame kind.BranchBody k 0 e (whole c.args.start ∷ [])) c.in_ok-clone-in-Some.ensures.cases in
    let stack : v.stack ≡ u.stack ++ f ∷ frame kind.CallBody k 0 env [] ∷ [] =
    c.in_ok-push-in-Some-2.ensures.pushed ∙ ap (λ s. s ++ g ∷ []) c.in_ok-push-in-Some.ensures.pushed ∙ append_assoc u.stack (c.in_ok-branch-in-Some.branch ∷ []) (g ∷ [])
    ∙ ap (λ x. u.stack ++ x ∷ g ∷ []) is ∙ ap (λ x. u.stack ++ f ∷ frame kind.CallBody k 0 env x ∷ []) c.new.ensures in
    comes_inside_branch k r c.in-Some.body c.args.start env c.args.bound u v
    (same_world c.args.shared.now c.args.state.now c.push-in-Some.new.self (c.in_ok-push-in-Some-2.ensures.same ∙ c.in_ok-push-in-Some.ensures.same)) stack
    (beside_frames c.args.shared.now c.args.state.now c.push-in-Some.new.self (c.push-in-Some.ensures.parent ∙ c.push.ensures.parent))
    (record { found = c.in-Some.ensures.found; behind = c.in-Some.ensures.behind.0; within = c.in-Some.ensures.behind.1 }) above
