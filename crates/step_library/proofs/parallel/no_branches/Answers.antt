use Rattle.std.proofs.Common.{[], List, subst}
use Rattle.std.proofs.lemmas.Result.{err_from_is_err_and}
use Rattle.std.specs.Prelude.{Err, codes}
use Rattle.model_values.specs.Cells.{new_map}
use Rattle.model_values.specs.declared.key.Key.{Key}
use Rattle.model_values.specs.declared.value.Value.{Value}
use Rattle.model_run.specs.Around.{cells, ended, limits}
use Rattle.model_run.specs.FlowNodes.{end_block, pipeline}
use Rattle.model_run.specs.State.{operating}
use Rattle.model_run.specs.declared.flow.NodeKind.TheVariants.{EndBlock}
use Rattle.cps_frames.specs.Moves.{ComesTo}
use Rattle.cps_frames.specs.Standing.{standing}
use Rattle.step_library.proofs.StepMoves.{no_line, no_note, to_line, to_note}
use Rattle.step_library.proofs.parallel.no_branches.Goals as goal

pub returns-in_err-say : goal.returns-in_err-say
returns-in_err-say c = λ k r pos.
    let p = err_from_is_err_and c.from_residual.result c.from_residual.ensures.1 in
    rw (p.1, p.2) (no_line k r (codes "No branches to run") (λ sh a. end_block (codes "parallel") c.args.state.now.head (operating (λ w. new_map (limits w) (cells w) []) ended)) c.in_err-say.field-0.0 _ _ (c.in_err-say.ensures c.args.state.now) pos)

pub returns-in_err-end_block : goal.returns-in_err-end_block
returns-in_err-end_block c = λ k r pos.
    let u = standing c.say.new.shared c.args.state.now in
    let p = err_from_is_err_and c.from_residual-in_err-end_block.result c.from_residual-in_err-end_block.ensures.1 in
    rw (p.1, p.2) (to_line k r (codes "No branches to run") (λ sh a. end_block (codes "parallel") c.args.state.now.head (operating (λ w. new_map (limits w) (cells w) []) ended)) _ u (Err c.in_err-end_block.field-0.0) _ (c.in_ok-say.ensures c.args.state.now)
    (no_note k r EndBlock [] c.args.state.now.head (pipeline (codes "// parallel")) (λ sh a. operating (λ w. new_map (limits w) (cells w) []) ended) c.in_err-end_block.field-0.0 _ _ c.in_err-end_block.ensures pos))

pub returns : goal.returns
returns c = λ k r pos.
    let u = standing c.say.new.shared c.args.state.now in
    let u1 = standing c.end_block.new.shared c.end_block.new.state in
    let v = standing c.give_map.new.shared c.end_block.new.state in
    to_line k r (codes "No branches to run") (λ sh a. end_block (codes "parallel") c.args.state.now.head (operating (λ w. new_map (limits w) (cells w) []) ended)) _ u _ _ (c.in_ok-say.ensures c.args.state.now)
    (to_note k r EndBlock [] c.args.state.now.head (pipeline (codes "// parallel")) (λ sh a. operating (λ w. new_map (limits w) (cells w) []) ended) _ u1 _ _ c.in_ok-end_block.ensures
    (subst (λ (es : List (Key × Value)). ComesTo k r (λ sh a. operating (λ w. new_map (limits w) (cells w) es) ended) u1 c.give_map.result v) c.new-none.ensures (c.give_map.ensures c.end_block.new.state k r pos)))
