use Rattle.std.proofs.Common.{List, ℕ, length, ap, sym, ◌∙◌, subst, refl}
use Rattle.jp_disk.specs.Medium.{Medium}
use Rattle.jp_disk.specs.History.{History, medium}
use Rattle.jp_disk.specs.Reading.{IsReadCount, HasRead}
use Rattle.jp_disk.specs.declared.call.Call.TheVariants.{Read}
use Rattle.jp_disk.proofs.HistoryLemmas.{medium_quiet, quiet_still, time_passes}
use Rattle.jp_disk.proofs.memory.device.MemoryDiskDisk.read_at.Goals as goal

pub returns-in_err-call_read-clause-end : goal.returns-in_err-call_read-clause-end
returns-in_err-call_read-clause-end c = ap (λ (m : Medium). length m.reads) (medium_quiet (Read c.args.at (length c.args.buf.now)) c.args.self.now c.call_read.new.self _ refl c.in_err-call_read.ensures)

pub returns-clause-end : goal.returns-clause-end
returns-clause-end c = ap (λ (m : Medium). length m.reads) (medium_quiet (Read c.args.at (length c.args.buf.now)) c.args.self.now c.call_read.new.self _ refl c.call_read.ensures)

pub returns-in_err-call_read-clause-still : goal.returns-in_err-call_read-clause-still
returns-in_err-call_read-clause-still c = quiet_still (Read c.args.at (length c.args.buf.now)) c.args.self.now c.call_read.new.self _ refl c.in_err-call_read.ensures

pub returns-in_err-call_read-clause-time : goal.returns-in_err-call_read-clause-time
returns-in_err-call_read-clause-time c = time_passes (Read c.args.at (length c.args.buf.now)) c.args.self.now c.call_read.new.self _ c.in_err-call_read.ensures

pub returns-clause-still : goal.returns-clause-still
returns-clause-still c = quiet_still (Read c.args.at (length c.args.buf.now)) c.args.self.now c.call_read.new.self _ refl c.call_read.ensures

pub returns-clause-time : goal.returns-clause-time
returns-clause-time c = time_passes (Read c.args.at (length c.args.buf.now)) c.args.self.now c.call_read.new.self _ c.call_read.ensures

pub returns-clause-count : goal.returns-clause-count
returns-clause-count c =
    let same = medium_quiet (Read c.args.at (length c.args.buf.now)) c.args.self.now c.call_read.new.self _ refl c.in_ok-call_read.ensures in
    let file = c.as_slice.ensures ∙ sym c.self.invariant.reads ∙ ap (λ (h : History). (medium h).reads) c.self.view_is ∙ ap (λ (m : Medium). m.reads) same in
    subst (λ (x : List ℕ). IsReadCount (length x) c.args.at c.args.buf.now c.copy_from.result) file c.copy_from.ensures.count

pub returns-clause-bytes : goal.returns-clause-bytes
returns-clause-bytes c =
    let same = medium_quiet (Read c.args.at (length c.args.buf.now)) c.args.self.now c.call_read.new.self _ refl c.in_ok-call_read.ensures in
    let file = c.as_slice.ensures ∙ sym c.self.invariant.reads ∙ ap (λ (h : History). (medium h).reads) c.self.view_is ∙ ap (λ (m : Medium). m.reads) same in
    subst (λ (x : List ℕ). HasRead x c.args.at c.copy_from.result c.args.buf.now c.copy_from.new.buf) file c.copy_from.ensures.copied
