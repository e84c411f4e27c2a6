use Rattle.std.proofs.Common.{◌∙◌, ◌+◌, ◌-◌, sym, ap, arith, take, drop}
use Rattle.jp_io.proofs.Pieces.{piece_read}
use Rattle.jp_io.proofs.unread.Unread.read.Goals as goal

pub returns-clause-bytes : goal.returns-clause-bytes
returns-clause-bytes c =
    let at = c.self.inside.at in
    let front = c.copy_from_slice.ensures.after ∙ ap (λ bytes. take (at + c.min-count.result - at) (drop at bytes)) c.deref.ensures.value in
    sym c.self.view_is ∙ piece_read c.self.inside.bytes.items _ _ at c.min-count.result (omega arith) front
