use Rattle.std.proofs.Common.{refl}
use Rattle.std.proofs.lemmas.Result.{err_from_is_err_and}
use Rattle.std.specs.Prelude.{Ok, Err}
use Rattle.model_values.specs.Cells.{new_map}
use Rattle.model_run.specs.Around.{cells, ended, limits}
use Rattle.model_run.specs.declared.ending.Ending.TheVariants.{Normal}
use Rattle.cps_frames.specs.declared.thread.Move.TheVariants.{Ends}
use Rattle.cps_frames.proofs.MoveLaws.{comes_ended, done_answers, to_given, to_thrown}
use Rattle.step_library.proofs.parallel.give_map.Goals as goal

pub returns-in_err-value : goal.returns-in_err-value
returns-in_err-value c = λ t k r pos.
    let p = err_from_is_err_and c.from_residual.result c.from_residual.ensures.1 in
    rw (p.1, p.2) (to_thrown k r (λ w. new_map (limits w) (cells w) c.args.entries) (λ v sh a. ended v) c.in_err-value.field-0.0 _ _ (done_answers (λ w. new_map (limits w) (cells w) c.args.entries) c.args.shared.now.heap c.perform.new.heap _ (Err c.in_err-value.field-0.0) _ refl refl refl (record { parent = refl; heap = c.in_err-value.ensures.leaves.follows }) c.in_err-value.ensures.answer) pos)

pub returns : goal.returns
returns c = λ t k r pos.
    to_given k r (λ w. new_map (limits w) (cells w) c.args.entries) (λ v sh a. ended v) c.in_ok-value.value _ _ (Ok (Ends (Normal c.in_ok-value.value))) _ (done_answers (λ w. new_map (limits w) (cells w) c.args.entries) c.args.shared.now.heap c.perform.new.heap _ (Ok c.in_ok-value.value) _ refl refl refl (record { parent = refl; heap = c.in_ok-value.ensures.leaves.follows }) c.in_ok-value.ensures.answer) (comes_ended k r _ _ _ pos (λ a rs. refl))
