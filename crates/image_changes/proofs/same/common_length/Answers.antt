use Rattle.std.proofs.Common.{refl, arith, add-one}
use Rattle.std.proofs.lemmas.Option.{slice_get_within, slice_get_read}
use Rattle.image_changes.proofs.Gets.{both_fronts, past_differs}
use Rattle.image_changes.proofs.same.common_length.Goals as goal

pub loop-place-preserved : goal.loop-place-preserved
loop-place-preserved g c =
    let had = c.args.had.now in
    let has = c.args.has.now in
    let place = c.loop-place.place in
    let item = c.index-has-place.result in
    let at = c.is_at.ensures.0 c.if-not-is_at.false in
    rw add-one (record {
      same = both_fronts had has place item c.loop-place.invariant.same at (slice_get_read has _ place item refl c.loop-place-test.true c.index-has-place.is);
      within = slice_get_within had place item at;
    })

pub returns-clause-most : goal.returns-clause-most
returns-clause-most g c = λ lt e. past_differs c.args.had.now c.args.has.now _ lt (omega arith) e
