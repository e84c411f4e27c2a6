use Rattle.std.proofs.Common.{◌∙◌, ap, sym, length, arith}
use Rattle.std.proofs.lemmas.List.{take_all}
use Rattle.model_run.specs.Gathering.{is_named, named_keys}
use Rattle.model_run.specs.Nesting.{shape_at}
use Rattle.cps_code.specs.Script.{script_of}
use Rattle.frame_rows.proofs.NamedLaws.{count_more, names_same}
use Rattle.frame_rows.proofs.counts.named_count.Goals as goal
use Rattle.frame_rows.proofs.counts.named_count.Goals.{then-is_named, else-is_named}

pub loop-at-preserved : goal.loop-at-preserved
loop-at-preserved c =
    let fs = (shape_at (script_of c.args.code.now) c.args.node).parts in
    elim c.if-is_named.branch [
      | then-is_named w ↦ let m = count_more fs c.loop-at.at (omega (arith, c.arity-at-end.ensures)) (sym (ap is_named c.part_form.ensures) ∙ sym c.is_named.ensures ∙ w.if-is_named.true) in record { count = omega (arith, w.count-is, m, c.loop-at.invariant.count); low = omega (arith, w.count-is, c.loop-at.invariant.low) }
      | else-is_named w ↦ let m = names_same fs c.loop-at.at (omega (arith, c.arity-at-end.ensures)) (sym (ap is_named c.part_form.ensures) ∙ sym c.is_named.ensures ∙ w.if-is_named.false) in record { count = w.count-is ∙ c.loop-at.invariant.count ∙ ap length (sym m); low = omega (arith, w.count-is, c.loop-at.invariant.low) }
    ]

pub returns : goal.returns
returns c =
    let fs = (shape_at (script_of c.args.code.now) c.args.node).parts in
    c.loop-at.invariant.count ∙ ap (λ xs. length (named_keys xs)) (take_all c.loop-at.at fs (omega (arith, c.arity-at-end.ensures)))
