use Rattle.std.proofs.Common.{◌≡◌, ◌<◌, ◌-◌, ◌^◌, ◌∙◌, ◌∷◌, suc, length, ap, arith, subst, sym}
use Rattle.std.proofs.lemmas.Result.{err_from_is_err_and}
use Rattle.model_run.specs.Around.{arity}
use Rattle.model_run.specs.Nesting.{shape_at}
use Rattle.cps_code.specs.Script.{script_of}
use Rattle.cps_frames.specs.declared.shared.Shared.{Shared}
use Rattle.cps_statements.proofs.TryLaws.{catch_within, to_caught, to_no_variable, to_uncaught}
use Rattle.cps_variables.proofs.NodeLaws.{count_is}
use Rattle.cps_statements.proofs.attempts.catching.Goals as goal

pub returns-in_err-variable-in-Some : goal.returns-in_err-variable-in-Some
returns-in_err-variable-in-Some c = λ r lt.
    let p = err_from_is_err_and c.from_residual-in_err-variable-in-Some.result c.from_residual-in_err-variable-in-Some.ensures.1 in
    rw (p.1, p.2) (to_no_variable c.args.node r c.args.cell _ _ c.args.env c.class_of-class.result c.in_err-variable-in-Some.field-0.0 _ _ c.class_of-class.ensures (sym c.in_ok-catch_among.ensures ∙ c.in-Some.is) (c.in_err-variable-in-Some.ensures.done c.args.state.now) (omega (arith, lt)))

pub overflow_sub-frame : goal.overflow_sub-frame
overflow_sub-frame c =
    let code = ap (λ (s : Shared). s.code) c.in_ok-variable-in-Some.ensures.rest in
    let e = c.parts.ensures ∙ count_is (script_of c.new_variable.new.shared.code) c.args.node ∙ ap (λ rows. arity (shape_at (script_of rows) c.args.node)) code in
    let lt : c.in-Some.at < length (shape_at (script_of c.args.shared.now.code) c.args.node).parts = catch_within c.class_of-class.result _ c.in-Some.at c.in-Some.name (sym c.in_ok-catch_among.ensures ∙ c.in-Some.is) in
    omega (arith, e, lt)

pub overflow_sub-frame-in-Some : goal.overflow_sub-frame-in-Some
overflow_sub-frame-in-Some c =
    let code = ap (λ (s : Shared). s.code) c.in_ok-variable-in-Some.ensures.rest in
    let e = c.parts.ensures ∙ count_is (script_of c.new_variable.new.shared.code) c.args.node ∙ ap (λ rows. arity (shape_at (script_of rows) c.args.node)) code in
    let lt : c.in-Some.at < length (shape_at (script_of c.args.shared.now.code) c.args.node).parts = catch_within c.class_of-class.result _ c.in-Some.at c.in-Some.name (sym c.in_ok-catch_among.ensures ∙ c.in-Some.is) in
    omega (arith, e, lt)

pub under-requires-clause-part : goal.under-requires-clause-part
under-requires-clause-part c =
    subst (λ rows. c.in-Some.at < arity (shape_at (script_of rows) c.args.node)) (sym (ap (λ (s : Shared). s.code) c.in_ok-variable-in-Some.ensures.rest))
    (catch_within c.class_of-class.result _ c.in-Some.at c.in-Some.name (sym c.in_ok-catch_among.ensures ∙ c.in-Some.is))

pub returns-in-None : goal.returns-in-None
returns-in-None c = λ r lt.
    to_uncaught c.args.node r c.args.cell c.args.env c.class_of-class.result _ _ _ c.class_of-class.ensures (sym c.in_ok-catch_among.ensures ∙ c.in-None.is) (c.after_catch.ensures r (omega (arith, lt)))

pub returns-in_ok-inner-in-Some : goal.returns-in_ok-inner-in-Some
returns-in_ok-inner-in-Some c =
    let code = ap (λ (s : Shared). s.code) c.in_ok-variable-in-Some.ensures.rest in
    let e : c.parts.result ≡ arity (shape_at (script_of c.args.shared.now.code) c.args.node) = c.parts.ensures ∙ count_is (script_of c.new_variable.new.shared.code) c.args.node ∙ ap (λ rows. arity (shape_at (script_of rows) c.args.node)) code in
    let place : c.parts.result - 1 - c.in-Some.at ≡ arity (shape_at (script_of c.args.shared.now.code) c.args.node) - suc c.in-Some.at = omega (arith, e) in
    let small : c.parts.result - 1 - c.in-Some.at < 2 ^ 32 = (let t : c.parts.result < 2 ^ 32 = c.parts.type_inv in omega (arith, t)) in
    to_caught c.args.node c.args.cell c.in-Some.at c.in_ok-variable-in-Some.variable c.in-Some.name c.args.env _ _ _ c.class_of-class.result _ _ _ _ c.class_of-class.ensures (sym c.in_ok-catch_among.ensures ∙ c.in-Some.is) (c.in_ok-variable-in-Some.ensures.done c.args.state.now) place small
    (c.in_ok-inner-in-Some.ensures ∙ ap (λ n. record { name = c.in-Some.name; cell = c.in_ok-variable-in-Some.variable } ∷ n) c.in_ok-clone-in-Some.ensures.cases) c.new.ensures c.under.ensures
