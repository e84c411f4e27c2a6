use Rattle.std.proofs.Common.{◌∙◌, ◌∷◌, [], ◌^◌, List, subst, sym, arith}
use Rattle.std.specs.Prelude.{codes}
use Rattle.model_values.specs.declared.value.Value.{Value}
use Rattle.model_values.specs.declared.value.Value.TheVariants.{Bool as Truth}
use Rattle.model_run.specs.Around.{frame, value_at}
use Rattle.model_run.specs.FlowNodes.{pipeline}
use Rattle.model_run.specs.State.{seeing}
use Rattle.model_run.specs.Steps.{after_sh, no_node, place_of, sh_in, waiting_for}
use Rattle.model_run.specs.declared.flow.NodeKind.TheVariants.{Atom}
use Rattle.model_run.specs.declared.frame.FrameKind.TheVariants.{ShWait}
use Rattle.cps_frames.specs.Moves.{ComesTo}
use Rattle.cps_frames.specs.Standing.{standing, state}
use Rattle.cps_frames.proofs.MoveLaws.{to_as}
use Rattle.step_library.proofs.PlaceLaws.{sh_nowhere, sh_there}
use Rattle.step_library.proofs.StepMoves.{enough_noted, holds_noted, site_noted, to_note}
use Rattle.step_library.proofs.shell.sh.Goals as goal

pub task_here-requires : goal.task_here-requires
task_here-requires c =
    let u = standing c.args.shared.now c.args.state.now in
    let v = standing c.note_atom.new.shared c.note_atom.new.state in
    record {
      executors = site_noted Atom (codes "sh") 0 (pipeline (codes "sh")) u v c.in_ok-note_atom.ensures c.requires.executors;
      holds = holds_noted Atom (codes "sh") 0 (pipeline (codes "sh")) u v c.in_ok-note_atom.ensures c.requires.holds;
      enough = enough_noted Atom (codes "sh") 0 (pipeline (codes "sh")) u v c.in_ok-note_atom.ensures c.requires.enough;
    }

pub returns-in_ok-values-in-Some : goal.returns-in_ok-values-in-Some
returns-in_ok-values-in-Some c =
    let u = standing c.note_atom.new.shared c.note_atom.new.state in
    let v = standing c.wait_for.new.shared c.wait_for.new.state in
    to_note c.args.node (2 ^ 66) Atom (codes "sh") 0 (pipeline (codes "sh")) (λ sh a. seeing (λ w. sh_in c.args.node c.args.env c.args.script c.args.status c.args.keep_out w (place_of w))) _ u _ _ c.in_ok-note_atom.ensures
    (to_as c.args.node (2 ^ 66) (λ sh a. seeing (λ w. sh_in c.args.node c.args.env c.args.script c.args.status c.args.keep_out w (place_of w))) (λ sh a. seeing (waiting_for c.in-Some.request (frame ShWait c.args.node 0 c.args.env (Truth c.args.status ∷ Truth c.args.keep_out ∷ [])) (after_sh (Truth c.args.status) (Truth c.args.keep_out)))) u _ _
    (λ a rs. sh_there c.args.node c.args.env c.args.script c.args.status c.args.keep_out u.world (place_of u.world) c.in-Some.request (state u.world rs) (sym c.in-Some.is ∙ c.in_ok-request.ensures))
    (subst (λ (vs : List Value). ComesTo c.args.node (2 ^ 66) (λ sh a. seeing (waiting_for c.in-Some.request (frame ShWait c.args.node 0 c.args.env vs) (after_sh (value_at 0 vs) (value_at 1 vs)))) u c.wait_for.result v) c.in_ok-values-in-Some.ensures (c.wait_for.ensures (2 ^ 66) (omega arith))))

pub returns-in-None : goal.returns-in-None
returns-in-None c =
    let u = standing c.note_atom.new.shared c.note_atom.new.state in
    to_note c.args.node (2 ^ 66) Atom (codes "sh") 0 (pipeline (codes "sh")) (λ sh a. seeing (λ w. sh_in c.args.node c.args.env c.args.script c.args.status c.args.keep_out w (place_of w))) _ u _ _ c.in_ok-note_atom.ensures
    (to_as c.args.node (2 ^ 66) (λ sh a. seeing (λ w. sh_in c.args.node c.args.env c.args.script c.args.status c.args.keep_out w (place_of w))) (λ sh a. no_node) u _ _ (λ a rs. sh_nowhere c.args.node c.args.env c.args.script c.args.status c.args.keep_out u.world (place_of u.world) (state u.world rs) (sym c.in-None.is ∙ c.in_ok-request.ensures)) (c.no_node.ensures c.note_atom.new.state c.args.node (2 ^ 66) (omega arith)))
