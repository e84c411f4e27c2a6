use Rattle.std.proofs.Common.{List, length, subst}
use Rattle.model_values.specs.Cells.{new_map}
use Rattle.model_values.specs.declared.key.Key.{Key}
use Rattle.model_values.specs.declared.value.Value.{Value}
use Rattle.model_run.specs.Around.{cells, ended, limits}
use Rattle.model_run.specs.State.{operating}
use Rattle.cps_frames.specs.Moves.{ComesTo}
use Rattle.cps_frames.specs.Standing.{standing}
use Rattle.step_library.proofs.parallel.joined_values.Goals as goal

pub give_map-requires : goal.give_map-requires
give_map-requires c = c.in_ok-entries.ensures.below (length c.args.shared.now.heap.cells) c.requires.below

pub returns : goal.returns
returns c = λ t k r pos. subst (λ (es : List (Key × Value)). ComesTo k r (λ sh a. operating (λ w. new_map (limits w) (cells w) es) ended) (standing c.args.shared.now t) c.give_map.result (standing c.give_map.new.shared t)) c.in_ok-entries.ensures.entries (c.give_map.ensures t k r pos)
