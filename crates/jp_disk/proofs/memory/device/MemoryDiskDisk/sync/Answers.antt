use Rattle.std.proofs.Common.{length, ap, List, [], ℕ, Option}
use Rattle.std.specs.Prelude.{unwrap_or}
use Rattle.jp_disk.specs.declared.call.Call.TheVariants.{Sync}
use Rattle.jp_disk.proofs.HistoryLemmas.{on_ok, not_done, was_done, sync_still, sync_only, time_passes, has_cause}
use Rattle.jp_disk.proofs.memory.device.MemoryDiskDisk.sync.Goals as goal

pub returns-clause-durable : goal.returns-clause-durable
returns-clause-durable c = on_ok c.call_sync.result _ (λ done. sync_only c.args.self.now c.call_sync.new.self _ done c.call_sync.ensures)

pub returns-clause-end : goal.returns-clause-end
returns-clause-end c = ap (λ (told : Option (List ℕ)). length (unwrap_or told [])) (sync_still c.args.self.now c.call_sync.new.self _ c.call_sync.ensures).reads

pub returns-clause-still : goal.returns-clause-still
returns-clause-still c = sync_still c.args.self.now c.call_sync.new.self _ c.call_sync.ensures

pub returns-clause-time : goal.returns-clause-time
returns-clause-time c = time_passes Sync c.args.self.now c.call_sync.new.self _ c.call_sync.ensures

pub returns-clause-cause : goal.returns-clause-cause
returns-clause-cause c = has_cause Sync c.args.self.now c.call_sync.new.self _ _ (not_done c.call_sync.result) (was_done c.call_sync.result) c.call_sync.ensures
