use Rattle.std.proofs.Common.{◌≡◌, ◌<◌, ◌∙◌, true, length, ap, arith, subst, sym}
use Rattle.std.proofs.lemmas.Result.{err_from_is_err_and}
use Rattle.model_run.specs.FrameTable.{is_block}
use Rattle.model_run.specs.Nesting.{shape_at}
use Rattle.model_run.specs.State.{World}
use Rattle.model_run.specs.Terms.{nodes_of}
use Rattle.cps_code.specs.Script.{IsScript, script_of}
use Rattle.cps_statements.specs.Kinds.{begins_here}
use Rattle.cps_statements.proofs.RowLaws.{all_statements, not_row, to_row, to_uncounted}
use Rattle.cps_variables.proofs.NodeLaws.{count_is}
use Rattle.cps_statements.proofs.dispatch.start.Goals as goal

pub statements-requires-clause-left : goal.statements-requires-clause-left
statements-requires-clause-left c = let e = c.parts-left.ensures ∙ count_is (script_of c.args.shared.now.code) c.args.node in omega (arith, e)

pub returns-then-is_row : goal.returns-then-is_row
returns-then-is_row c =
    to_row c.args.node c.args.env _ _ _ (ap is_block (sym c.kind.ensures) ∙ sym c.is_row.ensures ∙ c.if-is_row.true)
    (all_statements c.args.node c.parts-left.result _ c.args.env _ _ _ c.parts-left.ensures c.parts-left.type_inv c.statements.ensures)

pub returns-in_err-tick : goal.returns-in_err-tick
returns-in_err-tick c =
    let p = err_from_is_err_and c.from_residual.result c.from_residual.ensures.1 in
    rw (p.1, p.2) (to_uncounted c.args.node c.args.env c.in_err-tick.field-0.0 _ _ (not_row _ c.requires.form (ap is_block (sym c.kind.ensures) ∙ sym c.is_row.ensures ∙ c.if-is_row.false)) (c.in_err-tick.ensures c.args.state.now))

pub begin-requires : goal.begin-requires
begin-requires c =
    let p = c.in_ok-tick.ensures c.args.state.now in
    let same = sym (ap (λ (w : World). w.setting.script) p.made) in
    record {
      script = subst IsScript same c.requires.may.script;
      node = subst (λ root. c.args.node < length (nodes_of root)) same c.requires.may.node;
      form = subst (λ root. begins_here (shape_at root c.args.node).form ≡ true) same (not_row _ c.requires.form (ap is_block (sym c.kind.ensures) ∙ sym c.is_row.ensures ∙ c.if-is_row.false));
    }

pub returns : goal.returns
returns c = c.begin.ensures _ (c.in_ok-tick.ensures c.args.state.now)
