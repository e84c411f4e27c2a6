use Rattle.std.proofs.Common.{arith, length, length-append}
use Rattle.std.proofs.KnownBytes.{Consumes-trans}
use Rattle.jp_io.proofs.whole.read_up_to.Goals as goal

pub returns-in_err-read_piece-clause-most : goal.returns-in_err-read_piece-clause-most
returns-in_err-read_piece-clause-most g c =
    let before = c.loop-bytes.invariant in
    let taken = c.read_piece.ensures.most in
    let size = c.loop-bytes.bytes.ok.0 in
    (_, omega (arith, before.0, taken.1, size, length-append c.loop-bytes.bytes.items taken.0), Consumes-trans _ _ _ c.loop-bytes.bytes.items taken.0 before.1 taken.2)
