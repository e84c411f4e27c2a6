use Rattle.std.proofs.Common.{◌≡◌, ◌∙◌, ◌-◌, ◌^◌, length, ap, sym, arith}
use Rattle.model_run.specs.Around.{arity}
use Rattle.model_run.specs.FrameTable.{count_of}
use Rattle.model_run.specs.Nesting.{shape_at}
use Rattle.cps_code.specs.Script.{script_of}
use Rattle.cps_frames.specs.Standing.{standing}
use Rattle.cps_expressions.proofs.StartLaws.{to_all}
use Rattle.cps_expressions.proofs.gathering.gather_all.Goals as goal

pub gather-requires-clause-count : goal.gather-requires-clause-count
gather-requires-clause-count c =
    let sh = shape_at (script_of c.args.shared.now.code) c.args.node in
    let none : arity sh - c.arity-left.result ≡ 0 = let e = c.arity-left.ensures in omega (arith, e) in
    ap length c.new-kept.ensures ∙ sym c.requires.before ∙ ap (count_of sh c.args.env) (sym none)

pub returns : goal.returns
returns c =
    to_all c.args.node (2 ^ 66) c.arity-left.result c.args.env c.new-kept.result (standing c.args.shared.now c.args.state.now) c.gather.result (standing c.gather.new.shared c.gather.new.state) c.arity-left.ensures c.new-kept.ensures (c.gather.ensures (2 ^ 66) (omega arith))
