use Rattle.std.proofs.Common.{◌∙◌, sym, ap}
use Rattle.model_run.specs.Calls.{call_method, call_value}
use Rattle.model_run.specs.Nesting.{shape_at}
use Rattle.model_run.specs.State.{seeing}
use Rattle.cps_code.specs.Script.{script_of}
use Rattle.cps_frames.specs.Standing.{standing, state, world_of}
use Rattle.cps_frames.proofs.MoveLaws.{to_as}
use Rattle.cps_calls.specs.Calls.{method_name}
use Rattle.cps_calls.proofs.NameLaws.{name_called, name_calls}
use Rattle.cps_calls.proofs.names.call_value.Goals as goal

pub call_method-requires-clause-called : goal.call_method-requires-clause-called
call_method-requires-clause-called c = name_called (shape_at (script_of c.args.shared.now.code) c.args.node).form c.requires.form

pub returns : goal.returns
returns c = λ r above.
    let k = c.args.node in
    let w = world_of c.args.shared.now c.args.state.now in
    let u = standing c.args.shared.now c.args.state.now in
    let sh = shape_at (script_of c.args.shared.now.code) k in
    to_as k r (λ sh a. call_value a k sh c.args.env c.args.values) (λ sh a. seeing (call_method a k sh c.args.env (method_name sh.form) c.in-Some.on c.in-Some.arguments)) u _ _
    (λ a rs. ap (λ vs. call_value a k sh c.args.env vs (state w rs)) c.in-Some.ensures ∙ ap (λ x. call_method a k sh c.args.env x c.in-Some.on c.in-Some.arguments w (state w rs)) (sym (name_calls sh.form c.requires.form)))
    (c.call_method.ensures r above)
