use Rattle.std.proofs.Common.{◌≡◌, ◌∙◌, ◌≤◌, ap, arith, drop, false, length, length-drop, sym, take, true}
use Rattle.std.proofs.Math.Seq.{take-append_seam}
use Rattle.image_changes.proofs.Gets.{front_and_rest, front_within}
use Rattle.image_changes.proofs.GrownCells.{map_grown, map_replaced}
use Rattle.image_changes.proofs.written.written_map.Goals as goal

pub returns-then-not-begins_with : goal.returns-then-not-begins_with
returns-then-not-begins_with c =
    let had = c.args.had.now in
    rw c.in_ok-entries.ensures.cases
    (map_replaced had c.args.has.now λ more is.
    let front = ap (take (length had)) is ∙ take-append_seam had more in
    let no : true ≡ false = sym (c.begins_with.ensures.1 front) ∙ c.if-not-begins_with.true in absurd cc)

pub returns : goal.returns
returns c =
    let had = c.args.had.now in
    let has = c.args.has.now in
    let begins = c.begins_with.ensures.0 c.if-not-begins_with.false in
    let some : 1 ≤ length (drop (length had) has) = omega (arith, c.if-len.false, c.len.ensures.len, c.len-2.ensures.len, front_within had has begins, length-drop (length had) has) in
    rw (c.in_ok-entries-2.ensures.copies ∙ ap (λ n. drop n has) c.len-3.ensures.len)
    (map_grown had (drop (length had) has) has c.len.ensures.distinct (front_and_rest had has begins) some)
