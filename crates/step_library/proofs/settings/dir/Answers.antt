use Rattle.std.proofs.Common.{◌∙◌, ◌++◌, sym}
use Rattle.std.specs.Prelude.{codes}
use Rattle.model_values.specs.declared.value.Value.TheVariants.{Null}
use Rattle.model_run.specs.Around.{ended}
use Rattle.model_run.specs.Callables.{calling, closure_of}
use Rattle.model_run.specs.FlowNodes.{end_block, logging, pipeline}
use Rattle.model_run.specs.State.{changed, seeing}
use Rattle.model_run.specs.Steps.{dir_body, dir_in, no_node, place_of, with_folder}
use Rattle.model_run.specs.declared.flow.NodeKind.TheVariants.{Block}
use Rattle.cps_frames.specs.Standing.{standing, state}
use Rattle.cps_frames.proofs.MoveLaws.{to_as}
use Rattle.step_library.proofs.PlaceLaws.{dir_nowhere, dir_there}
use Rattle.step_library.proofs.StepMoves.{enough_noted, holds_noted, site_noted, to_note}
use Rattle.step_library.proofs.settings.dir.Goals as goal

pub folder_here-requires : goal.folder_here-requires
folder_here-requires c =
    let u = standing c.args.shared.now c.args.state.now in
    let v = standing c.note_block.new.shared c.note_block.new.state in
    record {
      executors = site_noted Block (codes "dir") 0 (pipeline (codes "dir")) u v c.in_ok-note_block.ensures c.requires.executors;
      holds = holds_noted Block (codes "dir") 0 (pipeline (codes "dir")) u v c.in_ok-note_block.ensures c.requires.holds;
      enough = enough_noted Block (codes "dir") 0 (pipeline (codes "dir")) u v c.in_ok-note_block.ensures c.requires.enough;
    }

pub returns-in-Some : goal.returns-in-Some
returns-in-Some c = λ r pos.
    let u = standing c.note_block.new.shared c.note_block.new.state in
    to_note c.args.node r Block (codes "dir") 0 (pipeline (codes "dir")) (λ sh a. seeing (λ w. dir_in a c.args.node c.args.env c.args.path c.args.body.now w (place_of w))) _ u _ _ c.in_ok-note_block.ensures
    (to_as c.args.node r (λ sh a. seeing (λ w. dir_in a c.args.node c.args.env c.args.path c.args.body.now w (place_of w))) (λ sh a. logging (codes "Running in " ++ c.in-Some.folder) (changed (with_folder c.in-Some.folder) (calling (closure_of u.world c.args.body.now) (ended Null) (dir_body a c.args.node c.args.env u.world)))) u _ _
    (λ a rs. dir_there a c.args.node c.args.env c.args.path c.args.body.now u.world (place_of u.world) c.in-Some.folder (state u.world rs) (sym c.in-Some.is ∙ c.in_ok-folder.ensures)) (c.begin_dir.ensures r pos))

pub returns-in-None : goal.returns-in-None
returns-in-None c = λ r pos.
    let u = standing c.note_block.new.shared c.note_block.new.state in
    to_note c.args.node r Block (codes "dir") 0 (pipeline (codes "dir")) (λ sh a. seeing (λ w. dir_in a c.args.node c.args.env c.args.path c.args.body.now w (place_of w))) _ u _ _ c.in_ok-note_block.ensures
    (to_as c.args.node r (λ sh a. seeing (λ w. dir_in a c.args.node c.args.env c.args.path c.args.body.now w (place_of w))) (λ sh a. end_block (codes "dir") u.world.own.head no_node) u _ _
    (λ a rs. dir_nowhere a c.args.node c.args.env c.args.path c.args.body.now u.world (place_of u.world) (state u.world rs) (sym c.in-None.is ∙ c.in_ok-folder.ensures)) (c.no_folder.ensures c.args.node r pos))
