use Rattle.std.proofs.Common.{◌≡◌, ◌∙◌, ◌^◌, ℕ, Option, Some, ap, arith, refl, sym, subst}
use Rattle.std.specs.Prelude.{Ok}
use Rattle.model_values.specs.Limits.{product_limits}
use Rattle.model_values.specs.Walks.{Turns, loop_turn}
use Rattle.model_values.specs.declared.value.Value.{Value}
use Rattle.model_run.specs.Statements.{each_turn}
use Rattle.model_run.specs.declared.ending.Entry.TheVariants.{Turn as NextTurn}
use Rattle.cell_heap.specs.Region.{Region}
use Rattle.cps_frames.specs.Moves.{ComesTo}
use Rattle.cps_frames.specs.Places.{MayEnter}
use Rattle.cps_frames.specs.Standing.{standing}
use Rattle.cps_frames.specs.declared.shared.Shared.{Shared}
use Rattle.run_laws.proofs.Sizes.{loop_low}
use Rattle.value_walks.specs.Turns.{TurnAnswers, listed}
use Rattle.value_walks.specs.declared.turns.Turn.{Turn}
use Rattle.model_syntax.specs.declared.node.NodeForm.TheVariants as form
use Rattle.cps_code.specs.Script.{script_of}
use Rattle.cps_variables.specs.Nodes.{HasForm}
use Rattle.cps_statements.proofs.EachLaws.{low, to_element}
use Rattle.cps_statements.proofs.each.each_turn.Goals as goal

-- the turn that the definitions have there
turns_is : (h : Region) (new : Region) (on : Value) (i at : ℕ) (turn : Turn) (o : Option Turn) → i ≡ at → o ≡ Some turn → TurnAnswers (loop_turn product_limits h.cells on i) h new (Ok o) → loop_turn product_limits h.cells on at ≡ Turns new.cells (listed turn.arguments) (listed turn.element)
turns_is h new on i at turn o at_is is answer =
    ap (loop_turn product_limits h.cells on) (sym at_is) ∙ subst (λ (o : Option Turn). TurnAnswers (loop_turn product_limits h.cells on i) h new (Ok o)) is answer

pub each_body-requires-clause-low : goal.each_body-requires-clause-low
each_body-requires-clause-low c =
    let sh = c.loop_place-place.new.shared in
    let may = subst (λ (u : Shared). MayEnter (standing u c.args.state.now) (NextTurn c.args.at c.args.kept) c.args.node c.args.env) (sym c.loop_place-place.ensures.unchanged) c.requires.may in
    let turns = turns_is sh.heap c.loop_turn.new.heap c.value_at-on.result c.loop_place-place.result.at c.args.at _ _ c.loop_place-place.ensures.at c.in-Some.is c.in_ok-loop_turn.ensures.answer in
    low c.args.at _ _ _ _ (loop_low product_limits sh.heap.cells c.args.at may.sound.bounds.short c.value_at-on.result) turns

pub returns-in-Some : goal.returns-in-Some
returns-in-Some c =
    let sh = c.loop_place-place.new.shared in
    let turns = turns_is sh.heap c.loop_turn.new.heap c.value_at-on.result c.loop_place-place.result.at c.args.at _ _ c.loop_place-place.ensures.at c.in-Some.is c.in_ok-loop_turn.ensures.answer in
    subst (λ (u : Shared). ComesTo c.args.node (2 ^ 66) (λ sh a. each_turn a c.args.node c.args.name c.args.env c.args.at c.args.kept) (standing u c.args.state.now) c.each_body.result (standing c.each_body.new.shared c.each_body.new.state)) c.loop_place-place.ensures.unchanged
    (to_element c.args.node (2 ^ 66) c.args.at c.args.name c.args.env c.args.kept c.value_at-on.result c.first-element.result _ _ _ _ _ _ _ c.value_at-on.ensures turns c.first-element.ensures
    refl refl (record { parent = refl; heap = c.in_ok-loop_turn.ensures.leaves.follows }) (c.each_body.ensures (2 ^ 66) (omega arith)))

pub each_body-requires-clause-form : goal.each_body-requires-clause-form
each_body-requires-clause-form c = subst (λ (u : Shared). HasForm (script_of u.code) c.args.node (form.ForEach c.args.name)) (sym c.loop_place-place.ensures.unchanged) c.requires.form
