use Rattle.std.proofs.Common.{ℕ, List, length, Some, ◌∙◌, ap}
use Rattle.jp_disk.specs.History.{medium}
use Rattle.jp_disk.specs.declared.call.Call.TheVariants.{Write}
use Rattle.jp_disk.proofs.HistoryLemmas.{on_ok, not_done, was_done, length-after_write, write_reads, write_told, write_images, time_passes, has_cause}
use Rattle.jp_disk.proofs.memory.device.MemoryDiskDisk.write_at.Goals as goal

pub returns-clause-told : goal.returns-clause-told
returns-clause-told c = write_told c.args.self.now c.call_write.new.self c.args.at c.args.bytes.now _ c.call_write.ensures

pub returns-clause-images : goal.returns-clause-images
returns-clause-images c = write_images c.args.self.now c.call_write.new.self c.args.at c.args.bytes.now _ c.call_write.ensures

pub returns-clause-time : goal.returns-clause-time
returns-clause-time c = time_passes (Write c.args.at c.args.bytes.now) c.args.self.now c.call_write.new.self _ c.call_write.ensures

pub returns-clause-cause : goal.returns-clause-cause
returns-clause-cause c = has_cause (Write c.args.at c.args.bytes.now) c.args.self.now c.call_write.new.self _ _ (not_done c.call_write.result) (was_done c.call_write.result) c.call_write.ensures

pub returns-clause-written : goal.returns-clause-written
returns-clause-written c = on_ok c.call_write.result _ (λ done. ap (λ (x : List ℕ). Some x) (write_reads c.args.self.now c.call_write.new.self c.args.at c.args.bytes.now _ c.call_write.ensures done))

pub returns-clause-end : goal.returns-clause-end
returns-clause-end c = on_ok c.call_write.result _ (λ done. ap length (write_reads c.args.self.now c.call_write.new.self c.args.at c.args.bytes.now _ c.call_write.ensures done) ∙ length-after_write (medium c.args.self.now).reads c.args.bytes.now c.args.at c.requires.within)

pub returns-clause-no_shorter : goal.returns-clause-no_shorter
returns-clause-no_shorter c = (write_told c.args.self.now c.call_write.new.self c.args.at c.args.bytes.now _ c.call_write.ensures).no_shorter
