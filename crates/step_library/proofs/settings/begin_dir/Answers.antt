use Rattle.std.proofs.Common.{◌∙◌, ◌++◌, ap, [], List, ℕ, subst, arith}
use Rattle.std.proofs.lemmas.Result.{err_from_is_err_and}
use Rattle.std.specs.Prelude.{Err, codes}
use Rattle.model_values.specs.declared.value.Value.TheVariants.{Null}
use Rattle.model_run.specs.Around.{ended}
use Rattle.model_run.specs.Callables.{calling, closure_of}
use Rattle.model_run.specs.FlowNodes.{logging}
use Rattle.model_run.specs.State.{changed}
use Rattle.model_run.specs.Steps.{dir_body, with_folder, starts}
use Rattle.model_run.specs.declared.frame.FrameKind.TheVariants.{DirBody}
use Rattle.cps_frames.specs.Moves.{ComesTo}
use Rattle.cps_frames.specs.Standing.{standing}
use Rattle.step_library.proofs.StepMoves.{no_line, to_called, to_kept, to_left, to_line}
use Rattle.step_library.proofs.settings.begin_dir.Goals as goal

pub returns-in_err-say : goal.returns-in_err-say
returns-in_err-say c = λ r pos.
    let u = (standing c.args.shared.now c.args.state.now) in
    let told = (c.as_slice-2.ensures ∙ c.in_ok-line.ensures ∙ ap (λ (t : List ℕ). codes "Running in " ++ t) c.as_slice.ensures) in
    let p = err_from_is_err_and c.from_residual-in_err-say.result c.from_residual-in_err-say.ensures.1 in
    rw (p.1, p.2) (subst (λ (x : List ℕ). ComesTo c.args.node r (λ sh a. logging x (changed (with_folder c.args.folder) (calling (closure_of u.world c.args.body.now) (ended Null) (dir_body a c.args.node c.args.env u.world)))) u (Err c.in_err-say.field-0.0) (standing c.say.new.shared c.args.state.now)) told
    (no_line c.args.node r c.as_slice-2.result.now (λ sh a. changed (with_folder c.args.folder) (calling (closure_of u.world c.args.body.now) (ended Null) (dir_body a c.args.node c.args.env u.world))) c.in_err-say.field-0.0 _ _ (c.in_err-say.ensures c.args.state.now) pos))

pub returns : goal.returns
returns c = λ r pos.
    let u = (standing c.args.shared.now c.args.state.now) in
    let u1 = standing c.say.new.shared c.args.state.now in
    let u2 = standing c.say.new.shared c.enter_folder.new.state in
    let v = standing c.run_body.new.shared c.run_body.new.state in
    let told = (c.as_slice-2.ensures ∙ c.in_ok-line.ensures ∙ ap (λ (t : List ℕ). codes "Running in " ++ t) c.as_slice.ensures) in
    subst (λ (x : List ℕ). ComesTo c.args.node r (λ sh a. logging x (changed (with_folder c.args.folder) (calling (closure_of u.world c.args.body.now) (ended Null) (dir_body a c.args.node c.args.env u.world)))) u c.run_body.result v) told
    (to_line c.args.node r c.as_slice-2.result.now (λ sh a. changed (with_folder c.args.folder) (calling (closure_of u.world c.args.body.now) (ended Null) (dir_body a c.args.node c.args.env u.world))) u u1 _ _ (c.in_ok-say.ensures c.args.state.now)
    (to_left c.args.node r (with_folder c.args.folder) (λ w. omega arith) (λ sh a. calling (closure_of u.world c.args.body.now) (ended Null) (dir_body a c.args.node c.args.env u.world)) u1 u2 _ _ (c.in_ok-enter_folder.ensures c.say.new.shared)
    (to_called c.args.node r u.world c.args.body.now c.in_ok-callee.callee (λ x sh a. dir_body a c.args.node c.args.env u.world x) u2 _ _ (c.in_ok-callee.ensures u.world)
    (to_kept c.args.node r DirBody c.args.env c.in_ok-values.values (starts u.world) [] c.in_ok-callee.callee u2 _ _ c.in_ok-values.ensures (c.run_body.ensures r pos)))))
