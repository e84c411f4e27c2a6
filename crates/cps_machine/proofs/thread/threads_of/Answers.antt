use Rattle.std.proofs.Common.{◌∙◌, ap}
use Rattle.std.specs.Vec.Iter.{into_iter_items}
use Rattle.cps_machine.specs.declared.thread.Start.TheVariants as start
use Rattle.cps_machine.specs.Threads.{beginning, seen, to_begin}
use Rattle.saved_thread.proofs.ListLaws.{one_more}
use Rattle.cps_machine.proofs.thread.threads_of.Goals as goal

pub loop-branch-preserved : goal.loop-branch-preserved
loop-branch-preserved c =
    one_more seen (to_begin c.args.context.now) c.loop-branch.threads c.push.new.self _ c.in-Some.branch (into_iter_items c.loop-branch.branch-iterator) _ _
    (c.begin-thread.ensures c.in-Some.branch.name ∙ ap (λ x. beginning c.in-Some.branch.name (start.Branch (record { node = c.in-Some.branch.closure; env = c.in-Some.branch.env })) c.in-Some.branch.head x) c.in_ok-copied.ensures) c.in_ok-push.ensures.pushed c.in-Some.ensures.steps.0 c.loop-branch.invariant
