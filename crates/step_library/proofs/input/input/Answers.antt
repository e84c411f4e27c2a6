use Rattle.std.proofs.Common.{◌∙◌, ◌++◌, [], ◌^◌, List, ℕ, ap, refl, subst, sym, arith}
use Rattle.std.proofs.lemmas.Result.{err_from_is_err_and}
use Rattle.std.specs.Prelude.{Err, codes}
use Rattle.model_values.specs.declared.value.Value.{Value}
use Rattle.model_run.specs.Around.{Around, Shape, frame}
use Rattle.model_run.specs.FlowNodes.{line_limit, logging, noted_limit, pipeline, with_line}
use Rattle.model_run.specs.State.{seeing}
use Rattle.model_run.specs.Steps.{after_input, input_asks, waiting_for}
use Rattle.model_run.specs.declared.flow.NodeKind.TheVariants.{Atom}
use Rattle.model_run.specs.declared.frame.FrameKind.TheVariants.{InputWait}
use Rattle.model_run.specs.declared.request.Request.TheVariants.{Input as InputRequest}
use Rattle.cps_frames.specs.Moves.{ComesTo}
use Rattle.cps_frames.specs.Standing.{standing, state}
use Rattle.cps_frames.proofs.MoveLaws.{to_as}
use Rattle.cps_frames.proofs.RequestRoom.{room_behind}
use Rattle.step_library.proofs.StepMoves.{no_line, noted_so, to_line, to_note}
use Rattle.step_library.proofs.input.input.Goals as goal

pub returns-in_err-say : goal.returns-in_err-say
returns-in_err-say c =
    let go2 = λ (sh : Shape) (a : Around). seeing (input_asks c.args.node c.args.env c.args.id) in
    let go1 = λ (sh : Shape) (a : Around). logging (c.args.ok ++ codes " or Abort") (go2 sh a) in
    let go = λ (sh : Shape) (a : Around). logging c.args.message.now (go1 sh a) in
    let p = err_from_is_err_and c.from_residual-in_err-say.result c.from_residual-in_err-say.ensures.1 in
    rw (p.1, p.2) (to_note c.args.node (2 ^ 66) Atom (codes "input") 0 (pipeline (codes "input")) go _ _ (Err c.in_err-say.field-0.0) _ c.in_ok-note_atom.ensures
    (no_line c.args.node (2 ^ 66) c.args.message.now go1 c.in_err-say.field-0.0 _ _ (c.in_err-say.ensures c.note_atom.new.state) (omega arith)))

pub returns-in_err-say-2 : goal.returns-in_err-say-2
returns-in_err-say-2 c =
    let go2 = λ (sh : Shape) (a : Around). seeing (input_asks c.args.node c.args.env c.args.id) in
    let go1 = λ (sh : Shape) (a : Around). logging (c.args.ok ++ codes " or Abort") (go2 sh a) in
    let go = λ (sh : Shape) (a : Around). logging c.args.message.now (go1 sh a) in
    let told = c.as_slice.ensures ∙ c.in_ok-append.ensures.appended in
    let p = err_from_is_err_and c.from_residual-in_err-say-2.result c.from_residual-in_err-say-2.ensures.1 in
    rw (p.1, p.2) (to_note c.args.node (2 ^ 66) Atom (codes "input") 0 (pipeline (codes "input")) go _ _ (Err c.in_err-say-2.field-0.0) _ c.in_ok-note_atom.ensures
    (to_line c.args.node (2 ^ 66) c.args.message.now go1 _ (standing c.say.new.shared c.note_atom.new.state) (Err c.in_err-say-2.field-0.0) _ (c.in_ok-say.ensures c.note_atom.new.state)
    (subst (λ (x : List ℕ). ComesTo c.args.node (2 ^ 66) (λ sh a. logging x (go2 sh a)) (standing c.say.new.shared c.note_atom.new.state) (Err c.in_err-say-2.field-0.0) (standing c.say-2.new.shared c.note_atom.new.state)) told
    (no_line c.args.node (2 ^ 66) c.as_slice.result.now go2 c.in_err-say-2.field-0.0 _ _ (c.in_err-say-2.ensures c.note_atom.new.state) (omega arith)))))

pub wait_for-requires : goal.wait_for-requires
wait_for-requires c =
    let t = c.note_atom.new.state in
    record {
      room = room_behind (line_limit c.as_slice.result.now) (with_line c.as_slice.result.now) (standing c.say.new.shared t) (standing c.say-2.new.shared t) (c.in_ok-say-2.ensures t) refl
          (room_behind (line_limit c.args.message.now) (with_line c.args.message.now) (standing c.note_atom.new.shared t) (standing c.say.new.shared t) (c.in_ok-say.ensures t) refl
          (room_behind (noted_limit (pipeline (codes "input"))) (noted_so Atom (codes "input") 0 (pipeline (codes "input"))) (standing c.args.shared.now c.args.state.now) (standing c.note_atom.new.shared t) c.in_ok-note_atom.ensures refl c.requires.room));
    }

pub returns : goal.returns
returns c =
    let go2 = λ (sh : Shape) (a : Around). seeing (input_asks c.args.node c.args.env c.args.id) in
    let go1 = λ (sh : Shape) (a : Around). logging (c.args.ok ++ codes " or Abort") (go2 sh a) in
    let go = λ (sh : Shape) (a : Around). logging c.args.message.now (go1 sh a) in
    let told = c.as_slice.ensures ∙ c.in_ok-append.ensures.appended in
    let t = c.note_atom.new.state in
    let u = standing c.say-2.new.shared t in
    let fr = frame InputWait c.args.node 0 c.args.env c.new-values.result in
    to_note c.args.node (2 ^ 66) Atom (codes "input") 0 (pipeline (codes "input")) go _ _ _ _ c.in_ok-note_atom.ensures
    (to_line c.args.node (2 ^ 66) c.args.message.now go1 _ (standing c.say.new.shared t) _ _ (c.in_ok-say.ensures t)
    (subst (λ (x : List ℕ). ComesTo c.args.node (2 ^ 66) (λ sh a. logging x (go2 sh a)) (standing c.say.new.shared t) c.wait_for.result (standing c.wait_for.new.shared c.wait_for.new.state)) told
    (to_line c.args.node (2 ^ 66) c.as_slice.result.now go2 _ u _ _ (c.in_ok-say-2.ensures t)
    (to_as c.args.node (2 ^ 66) go2 (λ sh a. seeing (waiting_for (InputRequest c.in_ok-id.id) (frame InputWait c.args.node 0 c.args.env []) after_input)) u _ _ (λ a rs. ap (λ x. waiting_for (InputRequest x) (frame InputWait c.args.node 0 c.args.env []) after_input u.world (state u.world rs)) (sym c.in_ok-id.ensures))
    (subst (λ (vs : List Value). ComesTo c.args.node (2 ^ 66) (λ sh a. seeing (waiting_for (InputRequest c.in_ok-id.id) (frame InputWait c.args.node 0 c.args.env vs) after_input)) u c.wait_for.result (standing c.wait_for.new.shared c.wait_for.new.state)) c.new-values.ensures (c.wait_for.ensures (2 ^ 66) (omega arith)))))))
