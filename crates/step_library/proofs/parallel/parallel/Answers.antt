use Rattle.std.proofs.Common.{◌∙◌, [], ◌^◌, List, ℕ, ap, sym, arith}
use Rattle.std.proofs.lemmas.Result.{err_from_is_err_and}
use Rattle.std.specs.Prelude.{Ok, Err, Some, codes}
use Rattle.model_run.specs.declared.callee.Callee.{Callee}
use Rattle.model_run.specs.declared.ending.Asked.TheVariants.{ForBranches}
use Rattle.model_run.specs.declared.flow.NodeKind.TheVariants.{Block}
use Rattle.model_run.specs.Around.{Around, Shape}
use Rattle.model_run.specs.FlowNodes.{pipeline}
use Rattle.model_run.specs.State.{seeing}
use Rattle.model_run.specs.Steps.{begin_branches, branches_given}
use Rattle.cps_frames.specs.Standing.{standing, state}
use Rattle.cps_frames.specs.declared.thread.Move.TheVariants.{Asks}
use Rattle.cps_frames.proofs.MoveLaws.{beside_frames, same_world, to_as}
use Rattle.step_library.proofs.BranchLaws.{forks, forks_none, some_begun}
use Rattle.step_library.proofs.StepMoves.{to_note}
use Rattle.step_library.proofs.parallel.parallel.Goals as goal

pub returns-in_err-begun : goal.returns-in_err-begun
returns-in_err-begun c =
    let u = standing c.note_block.new.shared c.note_block.new.state in
    let start = c.note_block.new.state.head in
    let go = λ (sh : Shape) (a : Around). seeing (λ w. begin_branches c.args.node c.args.env w.own.head [] (branches_given w (Some c.args.branches.now))) in
    let named = c.as_slice.ensures.value ∙ c.in_ok-named.ensures c.note_block.new.state in
    let p = err_from_is_err_and c.from_residual-in_err-begun.result c.from_residual-in_err-begun.ensures.1 in
    rw (p.1, p.2) (to_note c.args.node (2 ^ 66) Block (codes "parallel") 0 (pipeline (codes "parallel")) go _ u (Err c.in_err-begun.field-0.0) _ c.in_ok-note_block.ensures
    (to_as c.args.node (2 ^ 66) go (λ sh a. begin_branches c.args.node c.args.env start [] c.as_slice.result.now) u (Err c.in_err-begun.field-0.0) _ (λ a rs. ap (λ (xs : List (List ℕ × Callee)). begin_branches c.args.node c.args.env start [] xs (state u.world rs)) (sym named))
    (c.in_err-begun.ensures c.args.node c.args.env start)))

pub returns-then-is_empty : goal.returns-then-is_empty
returns-then-is_empty c =
    let u = standing c.note_block.new.shared c.note_block.new.state in
    let start = c.note_block.new.state.head in
    let go = λ (sh : Shape) (a : Around). seeing (λ w. begin_branches c.args.node c.args.env w.own.head [] (branches_given w (Some c.args.branches.now))) in
    let named = c.as_slice.ensures.value ∙ c.in_ok-named.ensures c.note_block.new.state in
    let mid = standing c.begin_branches.new.shared c.note_block.new.state in
    (to_note c.args.node (2 ^ 66) Block (codes "parallel") 0 (pipeline (codes "parallel")) go _ u _ _ c.in_ok-note_block.ensures
    (to_as c.args.node (2 ^ 66) go (λ sh a. begin_branches c.args.node c.args.env start [] c.as_slice.result.now) u _ _ (λ a rs. ap (λ (xs : List (List ℕ × Callee)). begin_branches c.args.node c.args.env start [] xs (state u.world rs)) (sym named))
    (forks_none c.args.node c.args.env start c.as_slice.result.now c.in_ok-begun.begun u mid _ _ (c.in_ok-begun.ensures c.args.node c.args.env start) (c.is_empty.ensures.0 c.if-is_empty.true) (c.no_branches.ensures c.args.node (2 ^ 66) (omega arith)))))

pub returns : goal.returns
returns c =
    let u = standing c.note_block.new.shared c.note_block.new.state in
    let start = c.note_block.new.state.head in
    let go = λ (sh : Shape) (a : Around). seeing (λ w. begin_branches c.args.node c.args.env w.own.head [] (branches_given w (Some c.args.branches.now))) in
    let named = c.as_slice.ensures.value ∙ c.in_ok-named.ensures c.note_block.new.state in
    let mid = standing c.begin_branches.new.shared c.note_block.new.state in
    (to_note c.args.node (2 ^ 66) Block (codes "parallel") 0 (pipeline (codes "parallel")) go _ u (Ok (Asks (ForBranches c.in_ok-begun.begun))) _ c.in_ok-note_block.ensures
    (to_as c.args.node (2 ^ 66) go (λ sh a. begin_branches c.args.node c.args.env start [] c.as_slice.result.now) u (Ok (Asks (ForBranches c.in_ok-begun.begun))) _ (λ a rs. ap (λ (xs : List (List ℕ × Callee)). begin_branches c.args.node c.args.env start [] xs (state u.world rs)) (sym named))
    (forks c.args.node c.args.env start c.in_ok-values.values c.as_slice.result.now c.in_ok-begun.begun u mid _ (c.in_ok-begun.ensures c.args.node c.args.env start) (same_world c.begin_branches.new.shared c.note_block.new.state c.push.new.self c.in_ok-push.ensures.same) c.in_ok-push.ensures.pushed (beside_frames c.begin_branches.new.shared c.note_block.new.state c.push.new.self c.push.ensures.parent) c.in_ok-values.ensures (some_begun c.is_empty.result c.in_ok-begun.begun c.is_empty.ensures.1 c.if-is_empty.false))))
