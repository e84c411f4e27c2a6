use Rattle.std.proofs.Common.{◌≡◌, ◌∙◌, true, not, ap, sym, subst}
use Rattle.std.specs.Prelude.{◌||◌}
use Rattle.model_run.specs.FrameTable.{is_function_form}
use Rattle.model_run.specs.Nesting.{CallsByName, shape_at}
use Rattle.cps_code.specs.Script.{script_of}
use Rattle.frame_rows.specs.Leading.{Decides}
use Rattle.frame_rows.proofs.StandLaws.{implied, never}
use Rattle.frame_rows.proofs.nesting.is_named_so.Goals as goal

pub returns-then-is_function : goal.returns-then-is_function
returns-then-is_function c =
    let root = script_of c.args.code.now in
    let form = is_function_form (shape_at root c.args.node).form in
    let so : form ≡ true = sym (ap is_function_form c.kind.ensures) ∙ sym c.is_function.ensures ∙ c.if-is_function.true in
    subst (λ b. Decides (not b || c.may_lead.result) (form ≡ true → CallsByName root c.args.outer)) so (implied (CallsByName root c.args.outer) form c.may_lead.result c.may_lead.ensures)

pub returns-else-is_function : goal.returns-else-is_function
returns-else-is_function c =
    let root = script_of c.args.code.now in
    λ e. absurd (never (sym e ∙ sym (ap is_function_form c.kind.ensures) ∙ sym c.is_function.ensures ∙ c.if-is_function.false))
