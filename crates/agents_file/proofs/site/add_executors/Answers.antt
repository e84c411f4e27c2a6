use Rattle.std.proofs.Common.{arith, length, length-append, ap, ◌∙◌, [], ◌∷◌}
use Rattle.agents_file.specs.Agents.{executor_of}
use Rattle.agents_file.proofs.SiteLemmas.{slot_more}
use Rattle.agents_file.proofs.site.add_executors.Goals as goal

pub loop-slot-preserved : goal.loop-slot-preserved
loop-slot-preserved c = record {
  count = omega (arith, ap length c.in_ok-push.ensures.pushed, length-append c.loop-slot.executors (c.in_ok-executor.field-0 ∷ []), c.loop-slot.invariant.count);
  rest =
      slot_more c.args.agent.now _ c.loop-slot.executors c.push.new.self c.in_ok-executor.field-0 c.loop-slot.slot c.args.agent.now.executors c.loop-slot-test.true c.loop-slot.invariant.rest
      (c.in_ok-executor.ensures ∙ ap (λ n. executor_of c.args.agent.now n c.loop-slot.slot) c.len-number.ensures) c.in_ok-push.ensures.pushed;
}
