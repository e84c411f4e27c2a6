use Rattle.std.proofs.Common.{◌∙◌, sym}
use Rattle.cps_code.specs.Script.{script_of}
use Rattle.image_check.proofs.Insides.{first_behind, first_here}
use Rattle.image_check.proofs.inside.frames_fault.Goals as goal

pub returns-then-is_some : goal.returns-then-is_some
returns-then-is_some c =
    first_here (script_of c.args.table.now.code.now) c.args.lists.now.image.now c.args.thread.now c.loop-place.place c.as_slice-frames.result.now c.index-frames-place.result c.split_at.result.1.now c.fault_at-found.result
    c.index-frames-place.is c.loop-place-test.true c.split_at.ensures.back c.fault_at-found.ensures (sym c.is_some.ensures ∙ c.if-is_some.true)
    ∙ c.loop-place.invariant

pub loop-place-preserved : goal.loop-place-preserved
loop-place-preserved c =
    first_behind (script_of c.args.table.now.code.now) c.args.lists.now.image.now c.args.thread.now c.loop-place.place c.as_slice-frames.result.now c.index-frames-place.result c.split_at.result.1.now c.fault_at-found.result
    c.index-frames-place.is c.loop-place-test.true c.split_at.ensures.back c.fault_at-found.ensures (sym c.is_some.ensures ∙ c.if-is_some.false)
    ∙ c.loop-place.invariant
