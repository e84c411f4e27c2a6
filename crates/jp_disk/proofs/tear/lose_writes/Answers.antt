use Rattle.std.proofs.Common.{◌∙◌, subst, [], ◌∷◌, sym}
use Rattle.jp_disk.specs.Images.{IsOutside}
use Rattle.jp_disk.specs.Medium.{ranges_of}
use Rattle.jp_disk.specs.declared.call.Call.{Call}
use Rattle.jp_disk.proofs.MediumLemmas.{outside_call}
use Rattle.jp_disk.proofs.tear.lose_writes.Goals as goal

pub loop-call-preserved : goal.loop-call-preserved
loop-call-preserved c =
    let call = c.call-item.result in
    record {
      size = c.lose_write.ensures.length ∙ c.loop-call.invariant.size;
      others = λ place out.
          let here = subst (λ (x : Call). IsOutside (ranges_of (x ∷ [])) place) (sym c.call-item.is) (outside_call c.args.calls.now c.loop-call.call-index call place c.loop-call-test.true out) in
          c.lose_write.ensures.outside place here ∙ c.loop-call.invariant.others place out;
    }
