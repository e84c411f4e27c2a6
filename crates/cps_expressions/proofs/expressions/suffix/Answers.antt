use Rattle.std.proofs.Common.{◌∙◌, ◌^◌, ap, sym, arith}
use Rattle.model_syntax.specs.declared.node.NodeForm.TheVariants as form
use Rattle.model_run.specs.Forms.{suffix_on}
use Rattle.model_run.specs.FrameTable.{is_method}
use Rattle.cps_frames.specs.Standing.{standing}
use Rattle.cps_operators.proofs.FormLaws.{to_form}
use Rattle.cps_operators.proofs.FrameLaws.{below_there}
use Rattle.cps_operators.specs.Suffixes.{is_property}
use Rattle.cps_expressions.proofs.StartLaws.{parts_of, to_none}
use Rattle.cps_expressions.proofs.expressions.suffix.Goals as goal

pub property-requires-clause-value : goal.property-requires-clause-value
property-requires-clause-value c = below_there c.args.shared.now.heap.cells c.args.value (c.requires.may).entry.0

pub property-requires-clause-form : goal.property-requires-clause-form
property-requires-clause-form c = ap is_property (sym c.kind.ensures ∙ c.in-Property.is)

pub returns-in-Property : goal.returns-in-Property
returns-in-Property c = c.property.ensures c.args.env

pub method-requires-clause-form : goal.method-requires-clause-form
method-requires-clause-form c = ap is_method (sym c.kind.ensures ∙ c.in-Method.is)

pub indexed-requires-clause-part : goal.indexed-requires-clause-part
indexed-requires-clause-part c =
    let least = parts_of (standing c.args.shared.now c.args.state.now) c.args.node form.Index (c.requires.may).script (sym c.in-Index.is ∙ c.kind.ensures) in
    omega (arith, least)

pub returns-in-Index : goal.returns-in-Index
returns-in-Index c =
    to_form c.args.node (2 ^ 66) form.Index (λ f sh a. suffix_on a c.args.node sh c.args.env c.args.value f) (standing c.args.shared.now c.args.state.now) c.indexed.result (standing c.args.shared.now c.indexed.new.state) (sym c.kind.ensures ∙ c.in-Index.is) c.indexed.ensures

pub returns-in_default : goal.returns-in_default
returns-in_default c = to_none c.args.node (2 ^ 66) c.args.env c.args.value c.kind.result.now (standing c.args.shared.now c.args.state.now) (omega arith) c.kind.ensures c.in_default.not-Property c.in_default.not-Method c.in_default.not-Index
