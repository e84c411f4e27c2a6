use Rattle.std.proofs.Common.{◌≡◌, ◌∙◌, ◌-◌, ◌^◌, length, false, ap, sym, subst, arith, refl}
use Rattle.model_run.specs.Calls.{called_value}
use Rattle.model_run.specs.Around.{arity}
use Rattle.model_run.specs.FrameTable.{count_of, gathers}
use Rattle.model_run.specs.Names.{look}
use Rattle.model_run.specs.Nesting.{shape_at}
use Rattle.script_laws.specs.NodeParts.{is_function}
use Rattle.cps_code.specs.Script.{script_of}
use Rattle.cps_frames.specs.Standing.{standing}
use Rattle.cps_expressions.proofs.CountLaws.{call_before, called_count}
use Rattle.cps_expressions.proofs.StartLaws.{call_of, declared, to_call}
use Rattle.cps_expressions.proofs.gathering.call.Goals as goal

pub unreachable-requires : goal.unreachable-requires
unreachable-requires c =
    let q = call_of (shape_at (script_of c.args.shared.now.code) c.args.node).form c.requires.form in
    c.in_default.not-Call q.0 (c.kind.ensures ∙ q.1)

pub called_value-requires : goal.called_value-requires
called_value-requires c = declared (standing c.args.shared.now c.args.state.now) c.args.node c.args.env c.kind.result.now c.requires.may c.kind.ensures (subst (λ f. is_function f ≡ false) (sym c.in-Call.is) refl)

pub gather-requires-clause-form : goal.gather-requires-clause-form
gather-requires-clause-form c = ap gathers (sym c.kind.ensures ∙ c.in-Call.is)

pub gather-requires-clause-count : goal.gather-requires-clause-count
gather-requires-clause-count c =
    let u = standing c.args.shared.now c.args.state.now in
    let sh = shape_at (script_of c.args.shared.now.code) c.args.node in
    let o = look c.in-Call.name c.args.env in
    let none : arity sh - c.arity-left.result ≡ 0 = let e = c.arity-left.ensures in omega (arith, e) in
    ap length (c.in_ok-kept.ensures.value c.args.state.now ∙ ap (λ n. called_value u.world (look n c.args.env)) c.as_slice.ensures) ∙ called_count u.world o
    ∙ sym (call_before sh.form c.in-Call.name c.args.env (sym c.kind.ensures ∙ c.in-Call.is)) ∙ ap (count_of sh c.args.env) (sym none)

pub returns : goal.returns
returns c =
    let u = standing c.args.shared.now c.args.state.now in
    to_call c.args.node (2 ^ 66) c.arity-left.result c.in-Call.name c.args.env c.in_ok-kept.kept u c.gather.result (standing c.gather.new.shared c.gather.new.state) (sym c.kind.ensures ∙ c.in-Call.is) c.arity-left.ensures
    (c.in_ok-kept.ensures.value c.args.state.now ∙ ap (λ n. called_value u.world (look n c.args.env)) c.as_slice.ensures) (c.gather.ensures (2 ^ 66) (omega arith))
