use Rattle.std.proofs.Common.{ap, ◌∙◌}
use Rattle.cps_frames.specs.Standing.{setting_of, common_of}
use Rattle.agent_queue.specs.Standing.{first_unknown}
use Rattle.build_core.proofs.Granting.{held_known, never_unknown}
use Rattle.build_core.proofs.grants.rebuilt.Goals as goal

pub unreachable-requires : goal.unreachable-requires
unreachable-requires c = never_unknown _ c.in-Err-Unknown.field-0 c.in-Err-Unknown.field-0-0 c.in-Err-Unknown.field-0-is c.in-Err-Unknown.ensures.refused (ap (λ hs. first_unknown c.args.shared.now.site hs) c.as_slice.ensures ∙ held_known (setting_of c.args.shared.now) (common_of c.args.shared.now) c.requires.fit)
