use Rattle.std.proofs.Common.{◌<◌, ◌∙◌, subst, length, [], ◌∷◌, sym, arith}
use Rattle.jp_disk.specs.Images.{IsOutside}
use Rattle.jp_disk.specs.Medium.{ranges_of}
use Rattle.jp_disk.specs.declared.call.Call.{Call}
use Rattle.jp_disk.proofs.MediumLemmas.{outside_call}
use Rattle.jp_disk.proofs.tear.tear_writes.Goals.{then-backwards, else-backwards}
use Rattle.jp_disk.proofs.tear.tear_writes.Goals as goal

pub loop-k-preserved : goal.loop-k-preserved
loop-k-preserved c =
    let call = c.index-calls-place.result in
    let within : c.if-backwards.place < length c.args.calls.now =
    elim c.if-backwards.branch [ then-backwards w ↦ omega (arith, w.place-is, c.loop-k-test.true) | else-backwards w ↦ omega (arith, w.place-is, c.loop-k-test.true) ] in
    record {
      size = c.land_write-rest.ensures.length ∙ c.loop-k.invariant.size;
      others = λ place out.
          let here = subst (λ (x : Call). IsOutside (ranges_of (x ∷ [])) place) (sym c.index-calls-place.is) (outside_call c.args.calls.now c.if-backwards.place call place within out) in
          c.land_write-rest.ensures.outside place here ∙ c.loop-k.invariant.others place out;
    }
