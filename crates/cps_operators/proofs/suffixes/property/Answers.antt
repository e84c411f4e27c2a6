use Rattle.std.proofs.Common.{◌≡◌, ◌∙◌, ◌^◌, ◌<◌, length, refl, ap, sym, subst, arith}
use Rattle.std.specs.Prelude.{Ok, Err}
use Rattle.std.proofs.lemmas.Result.{err_from_is_err_and}
use Rattle.model_syntax.specs.declared.node.NodeForm.TheVariants as form
use Rattle.model_values.specs.Index.{get_property}
use Rattle.model_values.specs.declared.value.Value.TheVariants.{Null}
use Rattle.model_run.specs.declared.ending.Ending.TheVariants.{Normal}
use Rattle.model_run.specs.Around.{cells, ended, limits}
use Rattle.model_run.specs.Forms.{suffix_on}
use Rattle.model_run.specs.Nesting.{shape_at}
use Rattle.model_run.specs.State.{counted, may_count, operating}
use Rattle.model_run.specs.Terms.{form_of, nodes_of, term_at}
use Rattle.cps_code.specs.Script.{script_of}
use Rattle.value_view.specs.Answers.{Answers}
use Rattle.cps_frames.specs.Halts.{halt_of}
use Rattle.cps_frames.specs.Standing.{standing}
use Rattle.cps_frames.specs.declared.halt.Halt.TheVariants.{Limit}
use Rattle.cps_frames.specs.declared.thread.Move.TheVariants.{Ends}
use Rattle.cps_frames.proofs.MoveLaws.{comes_met, done_answers}
use Rattle.cps_operators.proofs.FormLaws.{to_form}
use Rattle.cps_operators.proofs.FrameLaws.{below_passed, script_passed}
use Rattle.cps_operators.proofs.GrammarLaws.{property_of}
use Rattle.cps_operators.proofs.SuffixLaws.{property_answer, safely_null, safely_other}
use Rattle.cps_operators.proofs.YieldLaws.{counted_ends, counted_stops, yields_gives, yields_operating}
use Rattle.cps_operators.proofs.suffixes.property.Goals as goal

pub returns-in_err-tick : goal.returns-in_err-tick
returns-in_err-tick c = λ env.
    let k = c.args.node in
    let u = standing c.args.shared.now c.args.state.now in
    let w = standing c.tick.new.shared c.args.state.now in
    let q = property_of (shape_at (script_of c.args.shared.now.code) k).form c.requires.form in
    let p = err_from_is_err_and c.from_residual.result c.from_residual.ensures.1 in
    rw (p.1, p.2) (to_form k (2 ^ 66) (form.Property q.access q.name) (λ f sh a. suffix_on a k sh env c.args.value f) u (Err (Limit c.in_err-tick.field-0.0)) w q.is
    (comes_met k (2 ^ 66) may_count counted (λ sh a. operating (property_answer q.access q.name c.args.value) ended) c.in_err-tick.field-0.0 u w (c.in_err-tick.ensures c.args.state.now) (omega arith)))

pub kind-requires : goal.kind-requires
kind-requires c = subst (λ s. c.args.node < length (nodes_of s)) (sym (script_passed (standing c.args.shared.now c.args.state.now) (standing c.tick.new.shared c.args.state.now) (c.in_ok-tick.ensures c.args.state.now))) c.requires.node

pub unreachable-requires : goal.unreachable-requires
unreachable-requires c =
    let q = property_of (shape_at (script_of c.args.shared.now.code) c.args.node).form c.requires.form in
    let same = script_passed (standing c.args.shared.now c.args.state.now) (standing c.tick.new.shared c.args.state.now) (c.in_ok-tick.ensures c.args.state.now) in
    c.in_default.not-Property q.access q.name (c.kind.ensures ∙ ap (λ s. form_of (term_at s c.args.node)) same ∙ q.is)

pub gives_null-requires : goal.gives_null-requires
gives_null-requires c = below_passed (standing c.args.shared.now c.args.state.now) (standing c.tick.new.shared c.args.state.now) c.args.value (c.in_ok-tick.ensures c.args.state.now) c.requires.value

pub returns-then-gives_null : goal.returns-then-gives_null
returns-then-gives_null c = λ env.
    let k = c.args.node in
    let u = standing c.args.shared.now c.args.state.now in
    let w = standing c.tick.new.shared c.args.state.now in
    let same = script_passed u w (c.in_ok-tick.ensures c.args.state.now) in
    let answer = property_answer c.in-Property.access c.in-Property.name c.args.value in
    to_form k (2 ^ 66) (form.Property c.in-Property.access c.in-Property.name) (λ f sh a. suffix_on a k sh env c.args.value f) u (Ok (Ends (Normal Null))) w (sym (ap (λ s. form_of (term_at s k)) same) ∙ sym c.kind.ensures ∙ c.in-Property.is)
    (counted_ends k (2 ^ 66) (operating answer) Null u w w (c.in_ok-tick.ensures c.args.state.now) (yields_gives answer w Null (safely_null _ w.world c.args.value _ (sym c.gives_null.ensures ∙ c.if-gives_null.true))) (omega arith))

pub get_property-requires : goal.get_property-requires
get_property-requires c = below_passed (standing c.args.shared.now c.args.state.now) (standing c.tick.new.shared c.args.state.now) c.args.value (c.in_ok-tick.ensures c.args.state.now) c.requires.value

pub returns-in_err-given : goal.returns-in_err-given
returns-in_err-given c = λ env.
    let k = c.args.node in
    let u = standing c.args.shared.now c.args.state.now in
    let v = standing c.tick.new.shared c.args.state.now in
    let w = standing (record c.tick.new.shared { heap = c.get_property.new.heap }) c.args.state.now in
    let same = script_passed u v (c.in_ok-tick.ensures c.args.state.now) in
    let answer = property_answer c.in-Property.access c.in-Property.name c.args.value in
    let read : answer v.world ≡ get_property (limits v.world) (cells v.world) c.args.value c.as_slice.result.now = safely_other c.in-Property.access v.world c.args.value (get_property (limits v.world) (cells v.world) c.args.value c.in-Property.name) (sym c.gives_null.ensures ∙ c.if-gives_null.false) ∙ ap (get_property (limits v.world) (cells v.world) c.args.value) (sym c.as_slice.ensures) in
    let p = err_from_is_err_and c.from_residual-in_err-given.result c.from_residual-in_err-given.ensures.1 in
    rw (p.1, p.2) (to_form k (2 ^ 66) (form.Property c.in-Property.access c.in-Property.name) (λ f sh a. suffix_on a k sh env c.args.value f) u (Err (halt_of c.in_err-given.field-0.0)) w (sym (ap (λ s. form_of (term_at s k)) same) ∙ sym c.kind.ensures ∙ c.in-Property.is)
    (counted_stops k (2 ^ 66) (operating answer) (halt_of c.in_err-given.field-0.0) u v w (c.in_ok-tick.ensures c.args.state.now)
    (yields_operating answer v (Err c.in_err-given.field-0.0) w (done_answers answer c.tick.new.shared.heap c.get_property.new.heap v (Err c.in_err-given.field-0.0) w refl refl refl (record { parent = refl; heap = c.get_property.ensures.leaves.follows }) (subst (λ x. Answers x c.tick.new.shared.heap c.get_property.new.heap (Err c.in_err-given.field-0.0)) (sym read) c.in_err-given.ensures.answer)))
    (omega arith)))

pub returns : goal.returns
returns c = λ env.
    let k = c.args.node in
    let u = standing c.args.shared.now c.args.state.now in
    let v = standing c.tick.new.shared c.args.state.now in
    let w = standing (record c.tick.new.shared { heap = c.get_property.new.heap }) c.args.state.now in
    let same = script_passed u v (c.in_ok-tick.ensures c.args.state.now) in
    let answer = property_answer c.in-Property.access c.in-Property.name c.args.value in
    let read : answer v.world ≡ get_property (limits v.world) (cells v.world) c.args.value c.as_slice.result.now = safely_other c.in-Property.access v.world c.args.value (get_property (limits v.world) (cells v.world) c.args.value c.in-Property.name) (sym c.gives_null.ensures ∙ c.if-gives_null.false) ∙ ap (get_property (limits v.world) (cells v.world) c.args.value) (sym c.as_slice.ensures) in
    to_form k (2 ^ 66) (form.Property c.in-Property.access c.in-Property.name) (λ f sh a. suffix_on a k sh env c.args.value f) u (Ok (Ends (Normal c.in_ok-given.given))) w (sym (ap (λ s. form_of (term_at s k)) same) ∙ sym c.kind.ensures ∙ c.in-Property.is)
    (counted_ends k (2 ^ 66) (operating answer) c.in_ok-given.given u v w (c.in_ok-tick.ensures c.args.state.now)
    (yields_operating answer v (Ok c.in_ok-given.given) w (done_answers answer c.tick.new.shared.heap c.get_property.new.heap v (Ok c.in_ok-given.given) w refl refl refl (record { parent = refl; heap = c.get_property.ensures.leaves.follows }) (read ∙ c.in_ok-given.ensures.answer)))
    (omega arith))
