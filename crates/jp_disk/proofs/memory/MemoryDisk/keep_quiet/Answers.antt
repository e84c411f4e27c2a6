use Rattle.jp_disk.proofs.StepLemmas.{in_step_quiet}
use Rattle.jp_disk.proofs.memory.MemoryDisk.keep_quiet.Goals as goal

pub invariant_of-self-2 : goal.invariant_of-self-2
invariant_of-self-2 c = let d = c.self.inside in in_step_quiet d.first d.synced d.bytes d.calls.items c.push.new.self.items d.settled c.args.call c.requires c.in_ok-push.ensures.items c.self.invariant
