use Rattle.std.proofs.Common.{◌≡◌, ◌∙◌, ◌-◌, ℕ, suc, List, ap, sym, arith}
use Rattle.model_syntax.specs.declared.node.NodeForm.TheVariants as form
use Rattle.model_run.specs.Around.{arity, form_at}
use Rattle.model_run.specs.Nesting.{shape_at}
use Rattle.cps_code.specs.Script.{script_of}
use Rattle.cps_expressions.proofs.CountLaws.{count_plain}
use Rattle.cps_expressions.proofs.GatherLaws.{plain_step}
use Rattle.cps_expressions.proofs.gathering.behind_plain.Goals as goal
use Rattle.cps_expressions.proofs.gathering.behind_plain.Goals.{in-PlainPart, in_default}

pub loop-left-preserved : goal.loop-left-preserved
loop-left-preserved c =
    let k = c.args.node in
    let sh = shape_at (script_of c.args.code.now) k in
    let n = c.loop-left.left in
    let plain : (t : List ℕ) × (c.part_form.result.now ≡ form.PlainPart t) = elim c.match-matches.branch [ in-PlainPart w ↦ (w.in-PlainPart.field-0, w.in-PlainPart.is) | in_default w ↦ absurd (cc (w.matches-is, c.if-not-matches.false)) ] in
    let e : suc (n - 1) ≡ n = omega arith in
    let here : form_at sh.parts (arity sh - n) ≡ form.PlainPart plain.0 = ap (λ i. form_at sh.parts (arity sh - i)) (sym e) ∙ ap (form_at sh.parts) (sym c.current-at.ensures.current) ∙ sym c.part_form.ensures ∙ plain.1 in
    record {
      less = omega (arith, c.loop-left.invariant.less);
      same = λ a env finish kept. c.loop-left.invariant.same a env finish kept ∙ plain_step a k sh env finish n kept plain.0 (omega arith) here;
      count = λ env. c.loop-left.invariant.count env ∙ count_plain sh env n plain.0 (omega arith) (omega (arith, c.requires.left, c.loop-left.invariant.less)) here;
    }
