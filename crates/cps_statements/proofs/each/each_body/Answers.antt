use Rattle.std.proofs.Common.{◌<◌, ◌^◌, ◌∙◌, ◌++◌, ◌∷◌, [], w32, ap, arith, subst, sym}
use Rattle.std.proofs.lemmas.Int.{to_z_pos}
use Rattle.std.proofs.lemmas.Result.{err_from_is_err_and}
use Rattle.model_values.specs.declared.value.Value.TheVariants.{Int as Whole}
use Rattle.model_syntax.specs.declared.node.NodeForm.TheVariants as form
use Rattle.model_run.specs.Around.{arity, whole}
use Rattle.model_run.specs.Nesting.{shape_at}
use Rattle.cps_code.specs.Script.{script_of}
use Rattle.cps_frames.specs.declared.shared.Shared.{Shared}
use Rattle.cps_statements.proofs.EachLaws.{to_body, to_no_body}
use Rattle.cps_variables.proofs.NodeLaws.{part_within}
use Rattle.cps_statements.proofs.each.each_body.Goals as goal

pub returns-in_err-cell : goal.returns-in_err-cell
returns-in_err-cell c = λ r pos.
    let p = err_from_is_err_and c.from_residual.result c.from_residual.ensures.1 in
    rw (p.1, p.2) (to_no_body c.args.node r c.args.name c.args.env c.args.on c.args.at c.args.element c.in_err-cell.field-0.0 _ _ (c.in_err-cell.ensures.done c.args.state.now) (omega (arith, pos)))

pub under-requires-clause-part : goal.under-requires-clause-part
under-requires-clause-part c =
    let lt : 1 < 2 = omega arith in
    subst (λ code. 1 < arity (shape_at (script_of code) c.args.node)) (sym (ap (λ (s : Shared). s.code) c.in_ok-cell.ensures.rest)) (part_within _ _ (form.ForEach c.args.name) 1 c.requires.form lt)

pub returns : goal.returns
returns c =
    let small : c.args.at < 2 ^ 31 = omega (arith, c.requires.low) in
    to_body c.args.node c.args.name c.args.env _ c.args.on c.args.at c.args.element c.in_ok-cell.cell _ _ _ _ _ (c.in_ok-cell.ensures.done c.args.state.now)
    (c.in_ok-inner.ensures ∙ ap (λ n. record { name = c.args.name; cell = c.in_ok-cell.cell } ∷ n) c.in_ok-clone.ensures.cases)
    (c.in_ok-push-2.ensures.pushed ∙ ap (λ z. c.push.new.self ++ Whole z ∷ []) (to_z_pos w32 c.args.at small) ∙ ap (λ vs. vs ++ whole c.args.at ∷ []) (c.in_ok-push.ensures.pushed ∙ ap (λ vs. vs ++ c.args.on ∷ []) c.new-values.ensures)) c.under.ensures
