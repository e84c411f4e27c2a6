use Rattle.std.proofs.Common.{◌≡◌, None, drop}
use Rattle.std.specs.Option.{option_copied}
use Rattle.cps_code.specs.Script.{script_of}
use Rattle.image_check.specs.Scans.{each}
use Rattle.image_check.specs.Threads.{thread_fault}
use Rattle.image_check.proofs.image.each_thread.Given as goal

abbrev pub invariant-loop-thread : goal.invariant-loop-thread
invariant-loop-thread l = each (thread_fault (script_of l.around.code.now) l.lists.image.now) l.thread-index (option_copied l.before) (drop l.thread-index l.lists.image.now.threads) ≡ each (thread_fault (script_of l.around.code.now) l.lists.image.now) 0 None l.lists.image.now.threads
