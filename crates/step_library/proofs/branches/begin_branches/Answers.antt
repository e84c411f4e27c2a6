use Rattle.std.proofs.Common.{◌∙◌, ◌+◌, List, ℕ, ap, drop, refl, subst}
use Rattle.std.proofs.lemmas.Result.{err_from_is_err_and}
use Rattle.std.specs.Prelude.{Err}
use Rattle.std.proofs.lemmas.List.{at_drop_all}
use Rattle.model_run.specs.declared.callee.Callee.{Callee}
use Rattle.model_run.specs.FlowNodes.{body_line, branch_label, noted_branch, noted_limit}
use Rattle.model_run.specs.Steps.{begin_branches}
use Rattle.cps_frames.specs.Changes.{Passed, Passes}
use Rattle.cps_frames.specs.Standing.{standing, state}
use Rattle.step_arguments.proofs.Rests.{next_item}
use Rattle.step_library.proofs.BranchLaws.{BegunSo, begun_more, begun_stop, the_branch}
use Rattle.step_library.proofs.branches.begin_branches.Goals as goal

pub returns-in_err-head : goal.returns-in_err-head
returns-in_err-head c = λ k env start.
    let g = c.loop-name-item.result in
    let u = standing c.args.shared.now c.args.state.now in
    let v = standing c.loop-name.shared c.args.state.now in
    let rest = drop (c.loop-name.name-index + 1) c.args.named.now in
    let so = subst (λ (xs : List (List ℕ × Callee)). BegunSo c.args.named.now xs c.loop-name.branches u v) (next_item (λ (xs : List (List ℕ × Callee)). xs) c.args.named.now c.loop-name.name-index g c.loop-name-test.true c.loop-name-item.is) c.loop-name.invariant in
    let refused = subst (λ (n : List ℕ). Passes (noted_limit (body_line (branch_label n))) (noted_branch n) v (Err c.in_err-head.field-0.0) (standing c.note_branch.new.shared c.args.state.now)) c.as_slice.ensures c.in_err-head.ensures.noted in
    let p = err_from_is_err_and c.from_residual.result c.from_residual.ensures.1 in
    rw (p.1, p.2) (begun_stop k env start c.args.named.now rest g.0 g.1 c.loop-name.branches c.in_err-head.field-0.0 u v _ so refused)

pub loop-name-preserved : goal.loop-name-preserved
loop-name-preserved c =
    let g = c.loop-name-item.result in
    let u = standing c.args.shared.now c.args.state.now in
    let v = standing c.loop-name.shared c.args.state.now in
    let rest = drop (c.loop-name.name-index + 1) c.args.named.now in
    let so = subst (λ (xs : List (List ℕ × Callee)). BegunSo c.args.named.now xs c.loop-name.branches u v) (next_item (λ (xs : List (List ℕ × Callee)). xs) c.args.named.now c.loop-name.name-index g c.loop-name-test.true c.loop-name-item.is) c.loop-name.invariant in
    let w = standing c.note_branch.new.shared c.args.state.now in
    let noted = subst (λ (n : List ℕ). Passed (noted_limit (body_line (branch_label n))) (noted_branch n) v w) c.as_slice.ensures c.in_ok-head.ensures.noted in
    let told = c.in_ok-branch.ensures ∙ ap (λ (h : ℕ). the_branch g.0 g.1 h) c.in_ok-head.ensures.number in
    begun_more c.args.named.now rest g.0 g.1 c.loop-name.branches c.push.new.self c.in_ok-branch.field-0 u v w so noted told c.in_ok-push.ensures.pushed refl

pub returns : goal.returns
returns c = λ k env start.
    let so = c.loop-name.invariant in
    let u = standing c.args.shared.now c.args.state.now in
    let v = standing c.loop-name.shared c.args.state.now in
    record {
      is = λ rs. so.is k env start rs ∙ at_drop_all (λ (xs : List (List ℕ × Callee)). begin_branches k env start c.loop-name.branches xs (state v.world rs)) c.args.named.now c.loop-name.name-index c.loop-name-test.false;
      setting = so.setting;
      own = so.own;
      stack = so.stack;
      beside = so.beside;
      less = so.less;
    }
