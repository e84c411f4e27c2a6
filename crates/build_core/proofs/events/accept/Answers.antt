use Rattle.std.proofs.Common.{◌≡◌, ◌∙◌, refl, sym, ap, subst, to_z, of_z, w32}
use Rattle.model_run.specs.World as W
use Rattle.model_run.specs.declared.event.Why.{Why}
use Rattle.model_run.specs.declared.event.Why.TheVariants.{Gone, NotStarted}
use Rattle.script_thread.specs.Names.{Event, OutputEvent, ExitedEvent, LogStream, OutStream}
use Rattle.build_core.specs.Taking.{GoesOn, StepsOn}
use Rattle.build_core.proofs.Answering.{map_ok}
use Rattle.build_core.proofs.Stepping.{steps_lost}
use Rattle.build_core.proofs.events.accept.Goals as goal

pub returns-in-Log-clause-stands : goal.returns-in-Log-clause-stands
returns-in-Log-clause-stands g c =
    let event : OutputEvent c.in-Output.task LogStream c.in-Output.from c.as_slice.result.now ≡ c.args.event.now =
    ap (λ b. OutputEvent c.in-Output.task LogStream c.in-Output.from b) c.as_slice.ensures ∙ ap (λ s. OutputEvent c.in-Output.task s c.in-Output.from c.in-Output.bytes) (sym c.in-Log.is) ∙ sym c.in-Output.is in
    map_ok c.log_output.result c.log_output.ensures.stands
    (λ p k. subst (λ (e : Event). GoesOn g.R.ScriptThread.stance e c.args.group.now c.args.shared.now p c.log_output.new.group c.log_output.new.shared) event (k c.in-Output.from))

pub returns-in-Out-clause-stands : goal.returns-in-Out-clause-stands
returns-in-Out-clause-stands g c =
    let event : OutputEvent c.in-Output.task OutStream c.in-Output.from c.as_slice-in-Out.result.now ≡ c.args.event.now =
    ap (λ b. OutputEvent c.in-Output.task OutStream c.in-Output.from b) c.as_slice-in-Out.ensures ∙ ap (λ s. OutputEvent c.in-Output.task s c.in-Output.from c.in-Output.bytes) (sym c.in-Out.is) ∙ sym c.in-Output.is in
    map_ok c.keep_out.result c.keep_out.ensures.stands
    (λ p k. subst (λ (e : Event). GoesOn g.R.ScriptThread.stance e c.args.group.now c.args.shared.now p c.keep_out.new.group c.keep_out.new.shared) event (k c.in-Output.from))

pub returns-in-Log-clause-steps : goal.returns-in-Log-clause-steps
returns-in-Log-clause-steps g c =
    let event : OutputEvent c.in-Output.task LogStream c.in-Output.from c.as_slice.result.now ≡ c.args.event.now =
    ap (λ b. OutputEvent c.in-Output.task LogStream c.in-Output.from b) c.as_slice.ensures ∙ ap (λ s. OutputEvent c.in-Output.task s c.in-Output.from c.in-Output.bytes) (sym c.in-Log.is) ∙ sym c.in-Output.is in
    map_ok c.log_output.result c.log_output.ensures.steps
    (λ p k. subst (λ (e : Event). StepsOn g.R.ScriptThread.stance g.R.Runner.seated g.R.Runner.head g.R.Runner.turns g.R.Runner.room e c.args.group.now c.args.shared.now p c.log_output.new.group c.log_output.new.shared) event (k c.in-Output.from))

pub returns-in-Out-clause-steps : goal.returns-in-Out-clause-steps
returns-in-Out-clause-steps g c =
    let event : OutputEvent c.in-Output.task OutStream c.in-Output.from c.as_slice-in-Out.result.now ≡ c.args.event.now =
    ap (λ b. OutputEvent c.in-Output.task OutStream c.in-Output.from b) c.as_slice-in-Out.ensures ∙ ap (λ s. OutputEvent c.in-Output.task s c.in-Output.from c.in-Output.bytes) (sym c.in-Out.is) ∙ sym c.in-Output.is in
    map_ok c.keep_out.result c.keep_out.ensures.steps
    (λ p k. subst (λ (e : Event). StepsOn g.R.ScriptThread.stance g.R.Runner.seated g.R.Runner.head g.R.Runner.turns g.R.Runner.room e c.args.group.now c.args.shared.now p c.keep_out.new.group c.keep_out.new.shared) event (k c.in-Output.from))

-- the codes of losses are whole in 32 bits
lost_code_fits : (why : Why) → to_z w32 (of_z w32 (W.lost_code why)) ≡ W.lost_code why
lost_code_fits Gone = refl
lost_code_fits NotStarted = refl

pub returns-in-Lost-clause-steps : goal.returns-in-Lost-clause-steps
returns-in-Lost-clause-steps g c =
    map_ok c.end_task-in-Lost.result c.end_task-in-Lost.ensures.steps
    (λ p k. subst (λ (e : Event). StepsOn g.R.ScriptThread.stance g.R.Runner.seated g.R.Runner.head g.R.Runner.turns g.R.Runner.room e c.args.group.now c.args.shared.now p c.end_task-in-Lost.new.group c.end_task-in-Lost.new.shared) (sym c.in-Lost.is)
    (steps_lost g.R.ScriptThread.stance g.R.Runner.seated g.R.Runner.head g.R.Runner.turns g.R.Runner.room c.in-Lost.task c.in-Lost.why c.args.group.now c.args.shared.now p _ _
    (subst (λ code. StepsOn g.R.ScriptThread.stance g.R.Runner.seated g.R.Runner.head g.R.Runner.turns g.R.Runner.room (ExitedEvent c.in-Lost.task code) c.args.group.now c.args.shared.now p c.end_task-in-Lost.new.group c.end_task-in-Lost.new.shared) (ap (λ z. to_z w32 (of_z w32 z)) c.lost_code.ensures ∙ lost_code_fits c.in-Lost.why) k)))
