use Rattle.std.proofs.Common.{◌∙◌, ◌+◌, List, ℕ, ap, drop, sym}
use Rattle.std.proofs.lemmas.Result.{err_from_is_err_and}
use Rattle.std.proofs.lemmas.List.{at_drop_all}
use Rattle.model_run.specs.FlowNodes.{line_limit, logging, with_line}
use Rattle.model_run.specs.State.{Reply, State, Result}
use Rattle.model_run.specs.Steps.{logging_all}
use Rattle.cps_frames.specs.Standing.{standing, state}
use Rattle.cps_frames.proofs.MoveLaws.{passed}
use Rattle.step_arguments.proofs.Rests.{next_item}
use Rattle.step_library.proofs.StepMoves.{logs_more, logs_stop}
use Rattle.step_library.proofs.lines.say_all.Goals as goal

pub returns-in_err-say : goal.returns-in_err-say
returns-in_err-say c = λ t.
    let ls = c.args.lines.now in
    let rest = drop (c.loop-line.line-index + 1) ls in
    let v = standing c.loop-line.shared t in
    let at = λ (go : State → Result) (rs : List Reply). c.loop-line.invariant.rest t go rs ∙ next_item (λ (xs : List (List ℕ)). logging_all xs go (state v.world rs)) ls c.loop-line.line-index c.line-item.result c.loop-line-test.true c.line-item.is ∙ ap (λ (x : List ℕ). logging x (logging_all rest go) (state v.world rs)) (sym c.as_slice.ensures) in
    let p = err_from_is_err_and c.from_residual.result c.from_residual.ensures.1 in
    rw (p.1, p.2) (logs_stop (logging_all ls) (logging_all rest) c.as_slice.result.now _ v c.in_err-say.field-0.0 _ (c.loop-line.invariant.only t) at (c.in_err-say.ensures t))

pub loop-line-preserved : goal.loop-line-preserved
loop-line-preserved c =
    let ls = c.args.lines.now in
    let rest = drop (c.loop-line.line-index + 1) ls in
    record {
      only = λ t. logs_more c.as_slice.result.now _ (standing c.loop-line.shared t) _ (c.loop-line.invariant.only t) (c.in_ok-say.ensures t);
      rest = λ t go rs.
          let v = standing c.loop-line.shared t in
          c.loop-line.invariant.rest t go rs ∙ next_item (λ (xs : List (List ℕ)). logging_all xs go (state v.world rs)) ls c.loop-line.line-index c.line-item.result c.loop-line-test.true c.line-item.is
          ∙ ap (λ (x : List ℕ). logging x (logging_all rest go) (state v.world rs)) (sym c.as_slice.ensures)
          ∙ passed (line_limit c.as_slice.result.now) (with_line c.as_slice.result.now) v _ (c.in_ok-say.ensures t) (logging_all rest go) rs;
    }

pub returns : goal.returns
returns c = λ t. record {
  is = λ go rs. c.loop-line.invariant.rest t go rs ∙ at_drop_all (λ (xs : List (List ℕ)). logging_all xs go (state (standing c.loop-line.shared t).world rs)) c.args.lines.now c.loop-line.line-index c.loop-line-test.false;
  only = c.loop-line.invariant.only t;
}
