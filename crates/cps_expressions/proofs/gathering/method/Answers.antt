use Rattle.std.proofs.Common.{◌≡◌, ◌∙◌, ◌-◌, ◌^◌, length, ap, sym, subst, arith}
use Rattle.std.specs.List.{AllByRecursion as AllAre}
use Rattle.model_values.specs.Fitting.{There}
use Rattle.model_run.specs.Around.{arity}
use Rattle.model_run.specs.FrameTable.{count_of, gathers}
use Rattle.model_run.specs.Nesting.{shape_at}
use Rattle.cps_code.specs.Script.{script_of}
use Rattle.cps_frames.specs.Standing.{standing}
use Rattle.cps_expressions.proofs.CountLaws.{method_before}
use Rattle.cps_expressions.proofs.SoundLaws.{on_enters}
use Rattle.cps_expressions.proofs.StartLaws.{method_of, to_method}
use Rattle.cps_expressions.proofs.gathering.method.Goals as goal

pub gather-requires-clause-may : goal.gather-requires-clause-may
gather-requires-clause-may c = on_enters (standing c.args.shared.now c.args.state.now) c.args.value c.args.node c.args.env c.requires.may

pub gather-requires-clause-form : goal.gather-requires-clause-form
gather-requires-clause-form c = ap gathers (method_of (shape_at (script_of c.args.shared.now.code) c.args.node).form c.requires.form).2

pub gather-requires-clause-kept : goal.gather-requires-clause-kept
gather-requires-clause-kept c = subst (AllAre (There c.args.shared.now.heap.cells)) (sym c.in_ok-kept.ensures) ((c.requires.may).entry.0, tt)

pub gather-requires-clause-count : goal.gather-requires-clause-count
gather-requires-clause-count c =
    let sh = shape_at (script_of c.args.shared.now.code) c.args.node in
    let none : arity sh - c.arity-left.result ≡ 0 = let e = c.arity-left.ensures in omega (arith, e) in
    ap length c.in_ok-kept.ensures ∙ sym (method_before sh.form c.args.env c.requires.form) ∙ ap (count_of sh c.args.env) (sym none)

pub returns : goal.returns
returns c =
    let u = standing c.args.shared.now c.args.state.now in
    to_method c.args.node (2 ^ 66) c.arity-left.result c.args.value c.args.env c.in_ok-kept.kept u c.gather.result (standing c.gather.new.shared c.gather.new.state) c.requires.form c.arity-left.ensures c.in_ok-kept.ensures (c.gather.ensures (2 ^ 66) (omega arith))
