use Rattle.std.proofs.Common.{◌∙◌, ◌++◌, ◌∷◌, [], ap, sym, subst}
use Rattle.model_values.specs.Limits.{product_limits}
use Rattle.model_values.specs.Walks.{loop_turn}
use Rattle.model_run.specs.Statements.{each_from}
use Rattle.cps_frames.specs.Moves.{ComesTo}
use Rattle.cps_frames.specs.Standing.{standing}
use Rattle.cps_frames.specs.declared.shared.Shared.{Shared}
use Rattle.value_walks.specs.Turns.{has_turn}
use Rattle.cps_frames.specs.declared.thread.Move.TheVariants.{Ends}
use Rattle.model_run.specs.declared.ending.Ending.TheVariants.{Normal}
use Rattle.model_values.specs.declared.value.Value.TheVariants.{Null}
use Rattle.std.specs.Prelude.{Ok}
use Rattle.cps_statements.proofs.EachLaws.{to_no_turn, to_turn}
use Rattle.cps_statements.proofs.each.each_from.Goals as goal

pub returns : goal.returns
returns c = λ t r lt.
    let on = c.args.on in
    let sh = c.loop_place-place.new.shared in
    let same = c.loop_place-place.ensures.unchanged in
    let has = ap (λ i. has_turn (loop_turn product_limits sh.heap.cells on i)) (sym c.loop_place-place.ensures.at) ∙ sym c.has_loop_turn.ensures ∙ c.if-not-has_loop_turn.false in
    let kept = c.in_ok-push.ensures.pushed ∙ ap (λ vs. vs ++ on ∷ []) c.new-kept.ensures in
    subst (λ (u : Shared). ComesTo c.args.node r (λ sh a. each_from a c.args.env on c.args.at) (standing u t) c.turn.result (standing c.turn.new.shared t)) same
    (to_turn c.args.node r c.args.at on c.args.env _ _ _ _ has kept (c.turn.ensures t r lt))

pub returns-then-not-has_loop_turn : goal.returns-then-not-has_loop_turn
returns-then-not-has_loop_turn c = λ t r lt.
    let on = c.args.on in
    let sh = c.loop_place-place.new.shared in
    let same = c.loop_place-place.ensures.unchanged in
    let none = ap (λ i. has_turn (loop_turn product_limits sh.heap.cells on i)) (sym c.loop_place-place.ensures.at) ∙ sym c.has_loop_turn.ensures ∙ c.if-not-has_loop_turn.true in
    subst (λ (u : Shared). ComesTo c.args.node r (λ sh a. each_from a c.args.env on c.args.at) (standing u t) (Ok (Ends (Normal Null))) (standing sh t)) same
    (to_no_turn c.args.node r c.args.at on c.args.env (standing sh t) none lt)
