use Rattle.std.proofs.Common.{◌∙◌, ◌-◌, ap, sym, arith}
use Rattle.model_run.specs.FrameTable.{count_behind}
use Rattle.model_run.specs.Nesting.{shape_at}
use Rattle.cps_code.specs.Script.{script_of}
use Rattle.frame_rows.proofs.CountLaws.{count_more}
use Rattle.frame_rows.proofs.counts.count_of.Goals as goal

pub loop-at-preserved : goal.loop-at-preserved
loop-at-preserved c =
    let sh = shape_at (script_of c.args.code.now) c.args.node in
    let left = c.arity-parts.result - 1 - c.loop-at.at in
    record {
      count = c.count_behind-count.ensures.count ∙ ap (count_behind sh left) c.loop-at.invariant.count ∙ sym (count_more sh c.args.env.now c.loop-at.at left (omega (arith, c.arity-parts.ensures)));
      few = omega (arith, c.count_behind-count.ensures.few, c.loop-at.invariant.few);
    }
