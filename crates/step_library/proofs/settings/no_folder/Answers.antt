use Rattle.std.proofs.Common.{[]}
use Rattle.std.specs.Prelude.{codes}
use Rattle.model_run.specs.FlowNodes.{pipeline}
use Rattle.model_run.specs.Steps.{no_node}
use Rattle.model_run.specs.declared.flow.NodeKind.TheVariants.{EndBlock}
use Rattle.step_library.proofs.StepMoves.{to_note}
use Rattle.step_library.proofs.settings.no_folder.Goals as goal

pub returns : goal.returns
returns c = λ k r pos. to_note k r EndBlock [] c.args.state.now.head (pipeline (codes "// dir")) (λ sh a. no_node) _ _ _ _ c.in_ok-end_block.ensures (c.no_node.ensures c.end_block.new.state k r pos)
