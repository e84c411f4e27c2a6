use Rattle.std.proofs.Common.{◌∙◌, ◌<◌, length, refl, ap, sym, subst}
use Rattle.std.specs.Prelude.{Ok, Err}
use Rattle.std.proofs.lemmas.Result.{err_from_is_err_and}
use Rattle.model_syntax.specs.declared.node.NodeForm.TheVariants as form
use Rattle.model_run.specs.declared.ending.Ending.TheVariants.{Normal}
use Rattle.model_run.specs.Around.{ended}
use Rattle.model_run.specs.Forms.{start}
use Rattle.model_run.specs.Names.{read_name}
use Rattle.model_run.specs.Nesting.{shape_at}
use Rattle.model_run.specs.State.{counted, may_count, operating}
use Rattle.model_run.specs.Terms.{form_of, nodes_of, term_at}
use Rattle.cps_code.specs.Script.{script_of}
use Rattle.cps_variables.specs.Sight.{Sees}
use Rattle.value_view.specs.Answers.{Answers}
use Rattle.cps_frames.specs.Halts.{halt_of}
use Rattle.cps_frames.specs.Standing.{standing}
use Rattle.cps_frames.specs.declared.halt.Halt.TheVariants.{Limit}
use Rattle.cps_frames.specs.declared.thread.Move.TheVariants.{Ends}
use Rattle.cps_frames.proofs.MoveLaws.{comes_met}
use Rattle.cps_operators.proofs.FormLaws.{to_form}
use Rattle.cps_operators.proofs.FrameLaws.{script_passed}
use Rattle.cps_values.proofs.AtomLaws.{variable_of}
use Rattle.cps_values.proofs.HeapLaws.{heap_ends, heap_stops}
use Rattle.cps_values.proofs.atoms.variable.Goals as goal

pub returns-in_err-tick : goal.returns-in_err-tick
returns-in_err-tick c = λ r pos.
    let k = c.args.node in
    let u = standing c.args.shared.now c.args.state.now in
    let w = standing c.tick.new.shared c.args.state.now in
    let q = variable_of (shape_at (script_of c.args.shared.now.code) k).form c.requires.form in
    let p = err_from_is_err_and c.from_residual.result c.from_residual.ensures.1 in
    rw (p.1, p.2) (to_form k r (form.Variable q.0) (λ f sh a. start a k sh c.args.env.now f) u (Err (Limit c.in_err-tick.field-0.0)) w q.1
    (comes_met k r may_count counted (λ sh a. operating (read_name q.0 c.args.env.now) ended) c.in_err-tick.field-0.0 u w (c.in_err-tick.ensures c.args.state.now) pos))

pub kind-requires : goal.kind-requires
kind-requires c = subst (λ s. c.args.node < length (nodes_of s)) (sym (script_passed (standing c.args.shared.now c.args.state.now) (standing c.tick.new.shared c.args.state.now) (c.in_ok-tick.ensures c.args.state.now))) c.requires.node

pub unreachable-requires : goal.unreachable-requires
unreachable-requires c =
    let q = variable_of (shape_at (script_of c.args.shared.now.code) c.args.node).form c.requires.form in
    let same = script_passed (standing c.args.shared.now c.args.state.now) (standing c.tick.new.shared c.args.state.now) (c.in_ok-tick.ensures c.args.state.now) in
    c.in_default.not-Variable q.0 (c.kind.ensures ∙ ap (λ s. form_of (term_at s c.args.node)) same ∙ q.1)

pub read_name-requires : goal.read_name-requires
read_name-requires c =
    subst (λ bs. Sees c.tick.new.shared.heap.cells bs c.args.env.now) (sym c.as_slice-binding.ensures.value) (subst (λ x. Sees x.shared.cells x.shared.binding c.args.env.now) (sym (c.in_ok-tick.ensures c.args.state.now).made) c.requires.sees)

pub returns-in_err-value : goal.returns-in_err-value
returns-in_err-value c = λ r pos.
    let k = c.args.node in
    let u = standing c.args.shared.now c.args.state.now in
    let v = standing c.tick.new.shared c.args.state.now in
    let w = standing (record c.tick.new.shared { heap = c.read_name.new.heap }) c.args.state.now in
    let o = c.in_err-value.field-0.0 in
    let same = script_passed u v (c.in_ok-tick.ensures c.args.state.now) in
    let h = c.in_err-value.ensures.answer v.world (record { limits = refl; cells = refl; binding_is = sym c.as_slice-binding.ensures.value }) in
    let p = err_from_is_err_and c.from_residual-in_err-value.result c.from_residual-in_err-value.ensures.1 in
    rw (p.1, p.2) (to_form k r (form.Variable c.in-Variable.name) (λ f sh a. start a k sh c.args.env.now f) u (Err (halt_of o)) w (sym (ap (λ s. form_of (term_at s k)) same) ∙ sym c.kind.ensures ∙ c.in-Variable.is)
    (heap_stops k r (read_name c.in-Variable.name c.args.env.now) u c.tick.new.shared c.args.state.now c.read_name.new.heap o (c.in_ok-tick.ensures c.args.state.now) c.read_name.ensures.leaves.follows
    (subst (λ n. Answers (read_name n c.args.env.now v.world) c.tick.new.shared.heap c.read_name.new.heap (Err o)) c.as_slice.ensures h) pos))

pub returns : goal.returns
returns c = λ r pos.
    let k = c.args.node in
    let u = standing c.args.shared.now c.args.state.now in
    let v = standing c.tick.new.shared c.args.state.now in
    let w = standing (record c.tick.new.shared { heap = c.read_name.new.heap }) c.args.state.now in
    let x = c.in_ok-value.value in
    let same = script_passed u v (c.in_ok-tick.ensures c.args.state.now) in
    let h = c.in_ok-value.ensures.answer v.world (record { limits = refl; cells = refl; binding_is = sym c.as_slice-binding.ensures.value }) in
    to_form k r (form.Variable c.in-Variable.name) (λ f sh a. start a k sh c.args.env.now f) u (Ok (Ends (Normal x))) w (sym (ap (λ s. form_of (term_at s k)) same) ∙ sym c.kind.ensures ∙ c.in-Variable.is)
    (heap_ends k r (read_name c.in-Variable.name c.args.env.now) u c.tick.new.shared c.args.state.now c.read_name.new.heap x (c.in_ok-tick.ensures c.args.state.now) c.read_name.ensures.leaves.follows
    (subst (λ n. Answers (read_name n c.args.env.now v.world) c.tick.new.shared.heap c.read_name.new.heap (Ok x)) c.as_slice.ensures h) pos)
