use Rattle.std.proofs.Common.{◌≡◌, ◌∙◌, ◌<◌, ◌≤◌, ◌^◌, length, true, false, refl, sym, ap, subst, arith}
use Rattle.std.specs.Prelude.{is_some}
use Rattle.std.specs.List.{AllByRecursion as AllAre}
use Rattle.std.proofs.lemmas.Result.{err_from_is_err_and}
use Rattle.model_values.specs.Fitting.{There}
use Rattle.model_values.specs.Throws.{unknown_step}
use Rattle.model_run.specs.declared.ending.Entry.TheVariants.{Body}
use Rattle.model_run.specs.Around.{cells, ended, limits}
use Rattle.model_run.specs.Callables.{function_named}
use Rattle.model_run.specs.Calls.{Callee_of, Nothing, Step_of, call_value, meant_function}
use Rattle.model_run.specs.FrameTable.{is_name_call}
use Rattle.model_run.specs.Forms.{gathered}
use Rattle.model_run.specs.Names.{look}
use Rattle.model_run.specs.Nesting.{shape_at}
use Rattle.model_run.specs.State.{World, counted, may_count, operating, tick}
use Rattle.model_run.specs.Steps.{begin_step}
use Rattle.model_run.specs.Terms.{form_of, nodes_of, term_at}
use Rattle.model_run.proofs.Room.{spends_count}
use Rattle.run_laws.specs.Evaluation.{AllOfSite}
use Rattle.cps_code.specs.Script.{script_of}
use Rattle.cps_frames.specs.Places.{HasFolders, HoldsExecutors}
use Rattle.cps_frames.specs.Standing.{room_of, standing, state, world_of}
use Rattle.cps_frames.specs.declared.thread.Move.TheVariants.{Enter}
use Rattle.cps_frames.proofs.MoveLaws.{comes_as, comes_call, comes_hits, met_beside, to_as, to_counted}
use Rattle.cps_calls.specs.Meanings.{meant_of, name_at, unknown_at}
use Rattle.cps_calls.proofs.NameLaws.{meant_met, name_says, sound_counted, value_says}
use Rattle.cps_calls.proofs.names.call_named.Goals as goal

pub call_value-requires-clause-called : goal.call_value-requires-clause-called
call_value-requires-clause-called c =
    let x = name_at (shape_at (script_of c.args.shared.now.code) c.args.node).form in
    let name : x ≡ c.as_slice.result.now = sym (ap name_at c.kind.ensures) ∙ ap name_at c.in-Call.is ∙ sym c.as_slice.ensures in
    c.requires.called (ap (λ y. is_some (look y c.args.env)) name ∙ ap is_some (sym c.look.ensures) ∙ sym c.is_some.ensures ∙ c.if-is_some.true)

pub returns-then-is_some : goal.returns-then-is_some
returns-then-is_some c = λ r above.
    let k = c.args.node in
    let w = world_of c.args.shared.now c.args.state.now in
    let u = standing c.args.shared.now c.args.state.now in
    let sh = shape_at (script_of c.args.shared.now.code) k in
    let x = name_at sh.form in
    let name : x ≡ c.as_slice.result.now = sym (ap name_at c.kind.ensures) ∙ ap name_at c.in-Call.is ∙ sym c.as_slice.ensures in
    let some : is_some (look x c.args.env) ≡ true = ap (λ y. is_some (look y c.args.env)) name ∙ ap is_some (sym c.look.ensures) ∙ sym c.is_some.ensures ∙ c.if-is_some.true in
    to_as k r (λ sh a. gathered a k c.args.env sh sh.form c.args.values) (λ sh a. call_value a k sh c.args.env c.args.values) u _ _
    (λ a rs. value_says sh.form c.requires.form a k c.args.env sh c.args.values (state w rs) some)
    (c.call_value.ensures r above)

pub returns-in_err-tick : goal.returns-in_err-tick
returns-in_err-tick c = λ r above.
    let p = err_from_is_err_and c.from_residual-in_err-tick.result c.from_residual-in_err-tick.ensures.1 in
    let k = c.args.node in
    let w = world_of c.args.shared.now c.args.state.now in
    let u = standing c.args.shared.now c.args.state.now in
    let sh = shape_at (script_of c.args.shared.now.code) k in
    let x = name_at sh.form in
    let name : x ≡ c.as_slice.result.now = sym (ap name_at c.kind.ensures) ∙ ap name_at c.in-Call.is ∙ sym c.as_slice.ensures in
    let again = sym (ap name_at c.kind.ensures) ∙ ap name_at c.in-Call.is in
    let none : is_some (look x c.args.env) ≡ false = ap (λ y. is_some (look y c.args.env)) name ∙ ap is_some (sym c.look.ensures) ∙ sym c.is_some.ensures ∙ c.if-is_some.false in
    let v = standing c.tick.new.shared c.args.state.now in
    let l = c.in_err-tick.field-0.0 in
    let met = c.in_err-tick.ensures c.args.state.now in
    let m = meant_function x w (function_named x w) in
    rw (p.1, p.2) (comes_hits k r (λ sh a. gathered a k c.args.env sh sh.form c.args.values) u v l met.stack (met_beside may_count l u v met) (ap (λ y. y.setting) met.world) (subst (λ y. room_of y ≤ room_of u.world) (sym met.world) (omega arith)) above
    (λ a rs. name_says sh.form c.requires.form a k c.args.env sh c.args.values w rs m none refl ∙ meant_met a k sh c.args.env x c.args.values m l u v met rs))

pub begin-requires : goal.begin-requires
begin-requires c =
    let counted = c.in_ok-tick.ensures c.args.state.now in
    record {
      may = record {
        sound = sound_counted (standing c.args.shared.now c.args.state.now) (standing c.tick.new.shared c.args.state.now) counted c.requires.may.sound;
        executors = subst (λ (w : World). AllOfSite w.setting.site w.shared.held) (sym counted.made) c.requires.may.executors;
        holds = subst HoldsExecutors (sym counted.made) c.requires.may.holds;
        enough = subst (λ (w : World). HasFolders w.own.context) (sym counted.made) c.requires.may.enough;
        arguments = subst (λ h. AllAre (There h) c.args.values) (sym (ap (λ x. x.cells) counted.heap)) c.requires.values;
      };
    }

pub refuse_name-requires-clause-node : goal.refuse_name-requires-clause-node
refuse_name-requires-clause-node c =
    subst (λ root. c.args.node < length (nodes_of root)) (sym (ap (λ w. w.setting.script) (c.in_ok-tick.ensures c.args.state.now).made)) c.requires.may.node

pub refuse_name-requires-clause-form : goal.refuse_name-requires-clause-form
refuse_name-requires-clause-form c =
    subst (λ root. is_name_call (form_of (term_at root c.args.node)) ≡ true) (sym (ap (λ w. w.setting.script) (c.in_ok-tick.ensures c.args.state.now).made)) c.requires.form

pub returns-in-Body : goal.returns-in-Body
returns-in-Body c = λ r above.
    let k = c.args.node in
    let w = world_of c.args.shared.now c.args.state.now in
    let u = standing c.args.shared.now c.args.state.now in
    let sh = shape_at (script_of c.args.shared.now.code) k in
    let x = name_at sh.form in
    let name : x ≡ c.as_slice.result.now = sym (ap name_at c.kind.ensures) ∙ ap name_at c.in-Call.is ∙ sym c.as_slice.ensures in
    let again = sym (ap name_at c.kind.ensures) ∙ ap name_at c.in-Call.is in
    let none : is_some (look x c.args.env) ≡ false = ap (λ y. is_some (look y c.args.env)) name ∙ ap is_some (sym c.look.ensures) ∙ sym c.is_some.ensures ∙ c.if-is_some.false in
    let means : meant_function x w (function_named x w) ≡ Callee_of c.in-Body.callee = ap (λ y. meant_function y w (function_named y w)) again ∙ sym (c.in_ok-meant.ensures c.args.state.now) ∙ ap meant_of c.in-Body.is in
    let u2 = standing c.tick.new.shared c.args.state.now in
    comes_as k r (λ sh a. gathered a k c.args.env sh sh.form c.args.values) (λ sh a. tick (a.call c.in-Body.callee.node c.args.values c.in-Body.callee.env)) u (Enter (Body c.args.values) c.in-Body.callee.node c.in-Body.callee.env) u2
    (λ a rs. name_says sh.form c.requires.form a k c.args.env sh c.args.values w rs (Callee_of c.in-Body.callee) none means)
    (comes_call k r c.in-Body.callee.node c.args.values c.in-Body.callee.env may_count counted spends_count u u2 (c.in_ok-tick.ensures c.args.state.now))

pub returns-in-Begins : goal.returns-in-Begins
returns-in-Begins c = λ r above.
    let k = c.args.node in
    let w = world_of c.args.shared.now c.args.state.now in
    let u = standing c.args.shared.now c.args.state.now in
    let sh = shape_at (script_of c.args.shared.now.code) k in
    let x = name_at sh.form in
    let name : x ≡ c.as_slice.result.now = sym (ap name_at c.kind.ensures) ∙ ap name_at c.in-Call.is ∙ sym c.as_slice.ensures in
    let again = sym (ap name_at c.kind.ensures) ∙ ap name_at c.in-Call.is in
    let none : is_some (look x c.args.env) ≡ false = ap (λ y. is_some (look y c.args.env)) name ∙ ap is_some (sym c.look.ensures) ∙ sym c.is_some.ensures ∙ c.if-is_some.false in
    let means : meant_function x w (function_named x w) ≡ Step_of c.in-Begins.step = ap (λ y. meant_function y w (function_named y w)) again ∙ sym (c.in_ok-meant.ensures c.args.state.now) ∙ ap meant_of c.in-Begins.is in
    let u2 = standing c.tick.new.shared c.args.state.now in
    to_as k r (λ sh a. gathered a k c.args.env sh sh.form c.args.values) (λ sh a. tick (begin_step a k c.args.env c.in-Begins.step c.args.values)) u _ _
    (λ a rs. name_says sh.form c.requires.form a k c.args.env sh c.args.values w rs (Step_of c.in-Begins.step) none means)
    (to_counted k r (2 ^ 66) may_count counted spends_count (λ sh a. begin_step a k c.args.env c.in-Begins.step c.args.values) u u2 _ _ (c.in_ok-tick.ensures c.args.state.now) (omega arith) c.begin.ensures)

pub returns-in-Nothing : goal.returns-in-Nothing
returns-in-Nothing c = λ r above.
    let k = c.args.node in
    let w = world_of c.args.shared.now c.args.state.now in
    let u = standing c.args.shared.now c.args.state.now in
    let sh = shape_at (script_of c.args.shared.now.code) k in
    let x = name_at sh.form in
    let name : x ≡ c.as_slice.result.now = sym (ap name_at c.kind.ensures) ∙ ap name_at c.in-Call.is ∙ sym c.as_slice.ensures in
    let again = sym (ap name_at c.kind.ensures) ∙ ap name_at c.in-Call.is in
    let none : is_some (look x c.args.env) ≡ false = ap (λ y. is_some (look y c.args.env)) name ∙ ap is_some (sym c.look.ensures) ∙ sym c.is_some.ensures ∙ c.if-is_some.false in
    let means : meant_function x w (function_named x w) ≡ Nothing = ap (λ y. meant_function y w (function_named y w)) again ∙ sym (c.in_ok-meant.ensures c.args.state.now) ∙ ap meant_of c.in-Nothing.is in
    let begun = c.in_ok-tick.ensures c.args.state.now in
    let u2 = standing c.tick.new.shared c.args.state.now in
    let same : name_at (shape_at (script_of c.tick.new.shared.code) k).form ≡ x = ap (λ root. name_at (shape_at root k).form) (ap (λ y. y.setting.script) begun.made) in
    to_as k r (λ sh a. gathered a k c.args.env sh sh.form c.args.values) (λ sh a. tick (operating (λ y. unknown_step (limits y) (cells y) x) ended)) u _ _
    (λ a rs. name_says sh.form c.requires.form a k c.args.env sh c.args.values w rs Nothing none means)
    (to_counted k r 1 may_count counted spends_count (λ sh a. operating (λ y. unknown_step (limits y) (cells y) x) ended) u u2 _ _ begun (omega arith)
    (to_as k 1 (λ sh a. operating (λ y. unknown_step (limits y) (cells y) x) ended) (λ sh a. operating (unknown_at (shape_at (script_of c.tick.new.shared.code) k).form) ended) u2 _ _
    (λ a rs. ap (λ y. operating (λ z. unknown_step (limits z) (cells z) y) ended (state u2.world rs)) (sym same))
    (c.refuse_name.ensures c.args.state.now k 1 (omega arith))))
