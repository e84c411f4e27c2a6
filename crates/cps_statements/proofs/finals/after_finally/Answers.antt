use Rattle.std.proofs.Common.{◌∙◌, ap}
use Rattle.cps_frames.specs.Order.{rank}
use Rattle.cps_statements.specs.Finals.{over_final}
use Rattle.cps_frames.proofs.EndLaws.{ends_as_block}
use Rattle.cps_statements.proofs.BlockLaws.{final_quiet}
use Rattle.cps_statements.proofs.FinalLaws.{to_over}
use Rattle.cps_variables.proofs.NodeLaws.{rank_some}
use Rattle.cps_statements.proofs.finals.after_finally.Goals as goal

pub ending_behind-requires : goal.ending_behind-requires
ending_behind-requires c = ends_as_block c.requires.may (final_quiet c.args.frame.kind c.requires.kind)

pub returns : goal.returns
returns c = to_over (rank c.args.frame) c.args.frame c.args.ending _ _ c.requires.kind (c.ending_behind.ensures ∙ ap (λ b. over_final b c.args.ending) c.ending_before-before.ensures) (rank_some c.args.frame)
