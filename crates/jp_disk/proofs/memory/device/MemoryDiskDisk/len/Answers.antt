use Rattle.std.proofs.Common.{length, ap, refl}
use Rattle.jp_disk.specs.Medium.{Medium}
use Rattle.jp_disk.specs.declared.call.Call.TheVariants.{Len}
use Rattle.jp_disk.proofs.HistoryLemmas.{on_err, medium_quiet, quiet_still, time_passes}
use Rattle.jp_disk.proofs.memory.device.MemoryDiskDisk.len.Goals as goal

pub returns-in_err-call_len-clause-end : goal.returns-in_err-call_len-clause-end
returns-in_err-call_len-clause-end c = on_err c.from_residual.result _ (ap (λ (m : Medium). length m.reads) (medium_quiet Len c.args.self.now c.call_len.new.self _ refl c.in_err-call_len.ensures))

pub returns-in_err-call_len-clause-still : goal.returns-in_err-call_len-clause-still
returns-in_err-call_len-clause-still c = quiet_still Len c.args.self.now c.call_len.new.self _ refl c.in_err-call_len.ensures

pub returns-in_err-call_len-clause-time : goal.returns-in_err-call_len-clause-time
returns-in_err-call_len-clause-time c = time_passes Len c.args.self.now c.call_len.new.self _ c.in_err-call_len.ensures

pub returns-clause-still : goal.returns-clause-still
returns-clause-still c = quiet_still Len c.args.self.now c.call_len.new.self _ refl c.call_len.ensures

pub returns-clause-time : goal.returns-clause-time
returns-clause-time c = time_passes Len c.args.self.now c.call_len.new.self _ c.call_len.ensures
