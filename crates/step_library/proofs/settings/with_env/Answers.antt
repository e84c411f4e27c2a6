use Rattle.std.proofs.Common.{◌∙◌, ◌∷◌, ◌++◌, [], ℕ, ap, length, refl, arith}
use Rattle.std.specs.Prelude.{codes}
use Rattle.model_values.specs.declared.value.Value.TheVariants.{Null}
use Rattle.model_run.specs.Around.{Around, Shape, ended, whole}
use Rattle.model_run.specs.Callables.{calling, closure_of}
use Rattle.model_run.specs.FlowNodes.{pipeline}
use Rattle.model_run.specs.State.{changed, seeing}
use Rattle.model_run.specs.Steps.{starts, with_env_body, with_overrides}
use Rattle.model_run.specs.declared.flow.NodeKind.TheVariants.{Block}
use Rattle.model_run.specs.declared.frame.FrameKind.TheVariants.{WithEnvBody}
use Rattle.cps_frames.specs.Standing.{standing}
use Rattle.cps_frames.proofs.MoveLaws.{to_as}
use Rattle.step_library.proofs.StepMoves.{to_called, to_kept, to_left, to_note}
use Rattle.step_library.proofs.settings.with_env.Goals as goal

pub returns : goal.returns
returns c = λ r pos.
    let n = length c.args.overrides in
    let u = standing c.note_block.new.shared c.note_block.new.state in
    let u1 = standing c.note_block.new.shared c.add_overrides.new.state in
    let kept = c.in_ok-values.ensures ∙ ap (λ (m : ℕ). starts u.world ++ whole m ∷ []) c.len.ensures in
    let go = λ (sh : Shape) (a : Around). seeing (λ w. changed (with_overrides c.args.overrides) (calling (closure_of w c.args.body.now) (ended Null) (with_env_body a c.args.node c.args.env (length c.args.overrides) w))) in
    let then = λ (sh : Shape) (a : Around). calling (closure_of u.world c.args.body.now) (ended Null) (with_env_body a c.args.node c.args.env n u.world) in
    to_note c.args.node r Block (codes "withEnv") 0 (pipeline (codes "withEnv")) go _ u _ _ c.in_ok-note_block.ensures
    (to_as c.args.node r go (λ sh a. changed (with_overrides c.args.overrides) (then sh a)) u _ _ (λ a rs. refl)
    (to_left c.args.node r (with_overrides c.args.overrides) (λ w. omega arith) then u u1 _ _ (c.in_ok-add_overrides.ensures c.note_block.new.shared)
    (to_called c.args.node r u.world c.args.body.now c.in_ok-callee.callee (λ x sh a. with_env_body a c.args.node c.args.env n u.world x) u1 _ _ (c.in_ok-callee.ensures u.world)
    (to_kept c.args.node r WithEnvBody c.args.env c.in_ok-values.values (starts u.world ++ whole n ∷ []) [] c.in_ok-callee.callee u1 _ _ kept (c.run_body.ensures r pos)))))
