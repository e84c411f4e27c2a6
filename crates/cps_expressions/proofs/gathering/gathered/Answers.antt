use Rattle.std.proofs.Common.{◌∙◌, ◌<◌, ap, sym, arith}
use Rattle.model_syntax.specs.declared.node.NodeForm.TheVariants as form
use Rattle.model_run.specs.Around.{arity}
use Rattle.model_run.specs.FrameTable.{count_before, count_of, is_method, is_name_call}
use Rattle.model_run.specs.Gathering.{is_call}
use Rattle.model_run.specs.Nesting.{shape_at}
use Rattle.cps_code.specs.Script.{script_of}
use Rattle.model_run.specs.Forms.{gathered}
use Rattle.cps_frames.specs.Standing.{standing}
use Rattle.cps_operators.proofs.FormLaws.{to_form}
use Rattle.cps_expressions.proofs.CountLaws.{all_given, count_some, method_before, name_before}
use Rattle.cps_expressions.proofs.MapLaws.{map_entries}
use Rattle.cps_expressions.proofs.gathering.gathered.Goals as goal

pub call_named-requires-clause-form : goal.call_named-requires-clause-form
call_named-requires-clause-form c = ap is_name_call (sym c.kind.ensures ∙ c.in-Call.is)

pub call_named-requires-clause-called : goal.call_named-requires-clause-called
call_named-requires-clause-called c = λ some.
    let sh = shape_at (script_of c.args.shared.now.code) c.args.node in
    let lt : 0 < count_of sh c.args.env (arity sh) = count_some sh c.args.env (arity sh) (name_before sh.form c.args.env (ap is_name_call (sym c.kind.ensures ∙ c.in-Call.is)) some) in
    omega (arith, lt, c.requires.count)

pub method_step-requires-clause-some : goal.method_step-requires-clause-some
method_step-requires-clause-some c =
    let sh = shape_at (script_of c.args.shared.now.code) c.args.node in
    let lt : 0 < count_of sh c.args.env (arity sh) = count_some sh c.args.env (arity sh) (method_before sh.form c.args.env (ap is_method (sym c.kind.ensures ∙ c.in-Method.is))) in
    omega (arith, lt, c.requires.count)

pub map-requires-clause-entries : goal.map-requires-clause-entries
map-requires-clause-entries c = map_entries (script_of c.args.shared.now.code) c.requires.may.script c.args.node (sym c.kind.ensures ∙ c.in-Map.is)

pub map-requires-clause-count : goal.map-requires-clause-count
map-requires-clause-count c =
    let sh = shape_at (script_of c.args.shared.now.code) c.args.node in
    let is = sym c.kind.ensures ∙ c.in-Map.is in
    let e = all_given sh c.args.env (ap is_call is) (ap (λ f. count_before f c.args.env) is) in
    omega (arith, e, c.requires.count)

pub text-requires-clause-count : goal.text-requires-clause-count
text-requires-clause-count c =
    let sh = shape_at (script_of c.args.shared.now.code) c.args.node in
    let is = sym c.kind.ensures ∙ c.in-GString.is in
    let e = all_given sh c.args.env (ap is_call is) (ap (λ f. count_before f c.args.env) is) in
    omega (arith, e, c.requires.count)

pub returns-in-List : goal.returns-in-List
returns-in-List c = λ r pos.
    to_form c.args.node r form.List (λ f sh a. gathered a c.args.node c.args.env sh f c.args.values) (standing c.args.shared.now c.args.state.now) c.list.result (standing c.list.new.shared c.args.state.now) (sym c.kind.ensures ∙ c.in-List.is) (c.list.ensures c.args.node r pos)

pub returns-in-Map : goal.returns-in-Map
returns-in-Map c = λ r pos.
    to_form c.args.node r form.Map (λ f sh a. gathered a c.args.node c.args.env sh f c.args.values) (standing c.args.shared.now c.args.state.now) c.map.result (standing c.map.new.shared c.args.state.now) (sym c.kind.ensures ∙ c.in-Map.is) (c.map.ensures r pos)

pub returns-in-GString : goal.returns-in-GString
returns-in-GString c = λ r pos.
    to_form c.args.node r form.GString (λ f sh a. gathered a c.args.node c.args.env sh f c.args.values) (standing c.args.shared.now c.args.state.now) c.text.result (standing c.text.new.shared c.args.state.now) (sym c.kind.ensures ∙ c.in-GString.is) (c.text.ensures r pos)

pub returns-in-New : goal.returns-in-New
returns-in-New c = λ r pos.
    to_form c.args.node r (form.New c.in-New.class) (λ f sh a. gathered a c.args.node c.args.env sh f c.args.values) (standing c.args.shared.now c.args.state.now) c.throwable.result (standing c.throwable.new.shared c.args.state.now) (sym c.kind.ensures ∙ c.in-New.is) (c.throwable.ensures c.args.node r pos)
