use Rattle.std.proofs.Common.{◌≡◌, ◌++◌, ◌∷◌, [], rules}
use Rattle.jp_disk.specs.Images.{after_write}
use Rattle.jp_disk.specs.declared.call.Call.TheVariants.{Write}
use Rattle.jp_disk.proofs.StepLemmas.{in_step_written}
use Rattle.jp_disk.proofs.memory.MemoryDisk.keep_write.Goals as goal

pub invariant_of-self-2 : goal.invariant_of-self-2
invariant_of-self-2 c =
    let d = c.self.inside in
    let next : c.overlay.new.file ≡ after_write d.bytes c.args.at c.args.bytes.now = search rules in
    let pushed : c.push_reserved.new.self.items ≡ d.calls.items ++ Write c.args.at c.args.bytes.now c.args.done ∷ [] = search rules in
    in_step_written d.first c.keep_copy.new.copy d.synced c.keep_copy-2.new.copy d.bytes c.overlay.new.file d.calls.items c.push_reserved.new.self.items d.settled c.args.at c.args.bytes.now c.args.done
    (c.in_ok-keep_copy.ensures.kept _) (c.in_ok-keep_copy-2.ensures.kept _) next pushed c.self.invariant
