use Rattle.std.specs.Prelude.{codes}
use Rattle.std.proofs.lemmas.Result.{err_from_is_err_and}
use Rattle.model_values.specs.declared.value.Value.TheVariants.{Null}
use Rattle.model_run.specs.Around.{ended}
use Rattle.model_run.specs.Callables.{calling, closure_of}
use Rattle.model_run.specs.FlowNodes.{block}
use Rattle.model_run.specs.Results.{rank as result_rank}
use Rattle.model_run.specs.State.{seeing}
use Rattle.model_run.specs.Steps.{catch_error_body, kept_text}
use Rattle.cps_frames.specs.Standing.{standing}
use Rattle.cps_frames.proofs.MoveLaws.{to_given, to_thrown}
use Rattle.step_library.proofs.catch_error.catch_error.Goals as goal

pub returns-in_err-message : goal.returns-in_err-message
returns-in_err-message c = λ r pos.
    let p = err_from_is_err_and c.from_residual.result c.from_residual.ensures.1 in
    rw (p.1, p.2) (to_thrown c.args.node r (λ w. kept_text w c.args.message) (λ m sh a. block (codes "catchError") (seeing (λ w. calling (closure_of w c.args.body.now) (ended Null) (catch_error_body a c.args.node c.args.env (result_rank c.args.least) m w)))) c.in_err-message.field-0.0 _ _ (c.in_err-message.ensures.done c.args.state.now) pos)

pub begin_catch-requires : goal.begin_catch-requires
begin_catch-requires c = record { body = c.in_ok-message.ensures.stay c.args.body.now c.requires.body }

pub returns : goal.returns
returns c = λ r pos.
    to_given c.args.node r (λ w. kept_text w c.args.message) (λ m sh a. block (codes "catchError") (seeing (λ w. calling (closure_of w c.args.body.now) (ended Null) (catch_error_body a c.args.node c.args.env (result_rank c.args.least) m w)))) c.in_ok-message.message _ (standing c.keep_text.new.shared c.args.state.now) _ _ (c.in_ok-message.ensures.done c.args.state.now) (c.begin_catch.ensures r pos)
