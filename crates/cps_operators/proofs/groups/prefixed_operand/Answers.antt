use Rattle.std.proofs.Common.{◌∙◌, ◌-◌, ap, sym, arith}
use Rattle.std.proofs.lemmas.Result.{err_from_is_err_and}
use Rattle.model_run.specs.Around.{form_at}
use Rattle.model_run.specs.Nesting.{shape_at}
use Rattle.cps_code.specs.Script.{script_of}
use Rattle.cps_frames.specs.Standing.{standing}
use Rattle.cps_operators.proofs.FrameLaws.{below_passed}
use Rattle.cps_operators.proofs.OperandLaws.{rank_pos}
use Rattle.cps_operators.proofs.SignLaws.{sign_here, signed_applies, signed_at, signed_met, signed_passes, signed_stops}
use Rattle.cps_operators.proofs.groups.prefixed_operand.Goals as goal

pub returns-in_err-tick : goal.returns-in_err-tick
returns-in_err-tick c =
    let f = c.args.frame in
    let t = c.args.state.now in
    let u = standing c.args.shared.now t in
    let v = standing c.loop-at.shared t in
    let n = c.loop-at.at - 1 in
    let p = err_from_is_err_and c.from_residual.result c.from_residual.ensures.1 in
    rw (p.1, p.2) (signed_met f u c.args.value n c.in-Prefix.prefix v c.loop-at.value c.in_err-tick.field-0.0 (standing c.tick.new.shared t) c.requires.kind (rank_pos f) (omega (arith, c.arity-at.ensures))
    (sign_here f.node u v n _ c.loop-at.invariant.signed.setting (sym c.part_form.ensures ∙ c.in-Prefix.is)) (signed_at _ u c.args.value c.loop-at.at v c.loop-at.value (omega arith) c.loop-at.invariant.signed) (c.in_err-tick.ensures t))

pub apply_prefix-requires : goal.apply_prefix-requires
apply_prefix-requires c = below_passed (standing c.loop-at.shared c.args.state.now) (standing c.tick.new.shared c.args.state.now) c.loop-at.value (c.in_ok-tick.ensures c.args.state.now) c.loop-at.invariant.below

pub returns-in_err-value : goal.returns-in_err-value
returns-in_err-value c =
    let f = c.args.frame in
    let t = c.args.state.now in
    let u = standing c.args.shared.now t in
    let v = standing c.loop-at.shared t in
    let n = c.loop-at.at - 1 in
    let p = err_from_is_err_and c.from_residual-in_err-value.result c.from_residual-in_err-value.ensures.1 in
    rw (p.1, p.2) (signed_stops f u c.args.value n c.in-Prefix.prefix v c.loop-at.value (standing c.tick.new.shared t) c.in_err-value.field-0.0 (standing c.apply_prefix.new.shared t) c.requires.kind (rank_pos f) (omega (arith, c.arity-at.ensures))
    (sign_here f.node u v n _ c.loop-at.invariant.signed.setting (sym c.part_form.ensures ∙ c.in-Prefix.is)) (signed_at _ u c.args.value c.loop-at.at v c.loop-at.value (omega arith) c.loop-at.invariant.signed) (c.in_ok-tick.ensures t) (c.in_err-value.ensures.yields t))

pub loop-at-preserved-in-Prefix : goal.loop-at-preserved-in-Prefix
loop-at-preserved-in-Prefix c =
    let f = c.args.frame in
    let t = c.args.state.now in
    let u = standing c.args.shared.now t in
    let v = standing c.loop-at.shared t in
    let n = c.loop-at.at - 1 in
    record {
      signed = signed_applies (shape_at (script_of c.args.shared.now.code) f.node).parts u c.args.value n c.in-Prefix.prefix v c.loop-at.value (standing c.tick.new.shared t) (standing c.apply_prefix.new.shared t) c.in_ok-value.value (omega (arith, c.arity-at.ensures))
          (sign_here f.node u v n _ c.loop-at.invariant.signed.setting (sym c.part_form.ensures ∙ c.in-Prefix.is)) (signed_at _ u c.args.value c.loop-at.at v c.loop-at.value (omega arith) c.loop-at.invariant.signed) (c.in_ok-tick.ensures t) (c.in_ok-value.ensures.yields t);
      below = c.in_ok-value.ensures.below;
    }

pub loop-at-preserved : goal.loop-at-preserved
loop-at-preserved c =
    let f = c.args.frame in
    let t = c.args.state.now in
    let u = standing c.args.shared.now t in
    let v = standing c.loop-at.shared t in
    let n = c.loop-at.at - 1 in
    record {
      signed = signed_passes (shape_at (script_of c.args.shared.now.code) f.node).parts u c.args.value n v c.loop-at.value (omega (arith, c.arity-at.ensures))
          (λ p e. c.in_default.not-Prefix p (c.part_form.ensures ∙ ap (λ g. form_at (shape_at g.script f.node).parts n) c.loop-at.invariant.signed.setting ∙ e)) (signed_at _ u c.args.value c.loop-at.at v c.loop-at.value (omega arith) c.loop-at.invariant.signed);
      below = c.loop-at.invariant.below;
    }
