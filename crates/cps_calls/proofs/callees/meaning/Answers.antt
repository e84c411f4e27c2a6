use Rattle.std.proofs.Common.{◌∙◌, sym, ap}
use Rattle.model_run.specs.Calls.{binding_closure, meant_binding, meant_function, meant_step}
use Rattle.model_run.specs.StepTable.{step_named}
use Rattle.cps_frames.specs.Standing.{world_of}
use Rattle.cps_calls.proofs.callees.meaning.Goals as goal

pub returns-in-Some : goal.returns-in-Some
returns-in-Some c = λ t. ap (meant_function c.args.name.now (world_of c.args.shared.now t)) (c.in-Some.ensures t)

pub returns-in-Some-2 : goal.returns-in-Some-2
returns-in-Some-2 c = λ t.
    let x = c.args.name.now in
    let w = world_of c.args.shared.now t in
    sym (ap (meant_function x w) (sym (c.function_named.ensures t) ∙ c.in_default.is) ∙ ap (meant_binding x) (ap (λ y. binding_closure y w) (sym c.as_slice.ensures) ∙ sym (c.in_ok-callee.ensures t) ∙ c.in-Some-2.is))

pub returns-in-Some-step_named : goal.returns-in-Some-step_named
returns-in-Some-step_named c = λ t.
    let x = c.args.name.now in
    let w = world_of c.args.shared.now t in
    sym (ap (meant_function x w) (sym (c.function_named.ensures t) ∙ c.in_default.is) ∙ ap (meant_binding x) (ap (λ y. binding_closure y w) (sym c.as_slice.ensures) ∙ sym (c.in_ok-callee.ensures t) ∙ c.in_default-2.is) ∙ ap meant_step (ap step_named (sym c.as_slice-2.ensures) ∙ sym c.in-Some-step_named.ensures))

pub returns-in-None : goal.returns-in-None
returns-in-None c = λ t.
    let x = c.args.name.now in
    let w = world_of c.args.shared.now t in
    sym (ap (meant_function x w) (sym (c.function_named.ensures t) ∙ c.in_default.is) ∙ ap (meant_binding x) (ap (λ y. binding_closure y w) (sym c.as_slice.ensures) ∙ sym (c.in_ok-callee.ensures t) ∙ c.in_default-2.is) ∙ ap meant_step (ap step_named (sym c.as_slice-2.ensures) ∙ sym c.in-None.ensures))
