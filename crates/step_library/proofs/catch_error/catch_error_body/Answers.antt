use Rattle.std.proofs.Common.{[], ◌∷◌, List, ℕ, length, refl, subst, sym, arith}
use Rattle.std.specs.Prelude.{codes}
use Rattle.cell_heap.specs.Soundness.{ValueBelow}
use Rattle.model_values.specs.Kinds.{kind as kind_in}
use Rattle.model_values.specs.declared.cell.Cell.{Cell}
use Rattle.model_values.specs.declared.value.Value.{Value}
use Rattle.model_run.specs.Around.{position, value_at}
use Rattle.model_run.specs.FlowNodes.{pipeline}
use Rattle.model_run.specs.FrameTable.{Text_or_null, Up_to}
use Rattle.model_run.specs.Steps.{caught}
use Rattle.model_run.specs.declared.flow.NodeKind.TheVariants.{EndBody}
use Rattle.model_run.specs.declared.frame.FrameKind.TheVariants as kind
use Rattle.cps_frames.specs.Moves.{ComesTo}
use Rattle.cps_frames.specs.Order.{rank}
use Rattle.cps_frames.specs.Standing.{standing}
use Rattle.cps_frames.proofs.EndLaws.{block_inside}
use Rattle.cps_frames.proofs.MoveLaws.{to_kind}
use Rattle.step_library.specs.Kept.{IsMessage}
use Rattle.step_library.specs.Retries.{Throws}
use Rattle.step_library.proofs.FrameFacts.{body_throws, bounded_in, messages_in, starts_in, text_below, text_message}
use Rattle.step_library.proofs.StepMoves.{cells_noted, low_rank, to_body_end}
use Rattle.step_library.proofs.catch_error.catch_error_body.Goals as goal

pub number_at-requires : goal.number_at-requires
number_at-requires c = let s = starts_in (standing c.args.shared.now c.args.state.now) c.args.frame c.args.ending kind.CatchErrorBody (Up_to 4 ∷ Text_or_null ∷ []) c.requires.may c.requires.kind (λ sh left env. refl) in record { within = omega (arith, s.many); natural = s.body }

pub number_at-start-requires : goal.number_at-start-requires
number_at-start-requires c = let s = starts_in (standing c.args.shared.now c.args.state.now) c.args.frame c.args.ending kind.CatchErrorBody (Up_to 4 ∷ Text_or_null ∷ []) c.requires.may c.requires.kind (λ sh left env. refl) in record { within = omega (arith, s.many); natural = s.start }

pub number_at-least-requires : goal.number_at-least-requires
number_at-least-requires c = let s = bounded_in (standing c.args.shared.now c.args.state.now) c.args.frame c.args.ending kind.CatchErrorBody 4 (Text_or_null ∷ []) c.requires.may c.requires.kind (λ sh left env. refl) in record { within = omega (arith, s.many); natural = s.number }

pub value_at-message-requires : goal.value_at-message-requires
value_at-message-requires c = let s = messages_in (standing c.args.shared.now c.args.state.now) c.args.frame c.args.ending c.requires.may c.requires.kind in omega (arith, s.many)

pub caught-requires : goal.caught-requires
caught-requires c =
    let u = standing c.args.shared.now c.args.state.now in
    let v = standing c.end_body.new.shared c.end_body.new.state in
    let cells = cells_noted EndBody [] c.number_at.result (pipeline (codes "}")) u v c.in_ok-end_body.ensures in
    let s = messages_in (standing c.args.shared.now c.args.state.now) c.args.frame c.args.ending c.requires.may c.requires.kind in
    let b = bounded_in u c.args.frame c.args.ending kind.CatchErrorBody 4 (Text_or_null ∷ []) c.requires.may c.requires.kind (λ sh left env. refl) in
    record {
      least = omega (arith, b.low, c.number_at-least.ensures.number);
      message = subst (λ (h : List Cell). ValueBelow (length h) c.value_at-message.result) (sym cells) (subst (ValueBelow (length u.world.shared.cells)) (sym c.value_at-message.ensures) (text_below u.world.shared (value_at 3 c.args.frame.values) s.message));
      text = subst (λ (h : List Cell). IsMessage (kind_in h c.value_at-message.result)) (sym cells) (subst (λ (v : Value). IsMessage (kind_in u.world.shared.cells v)) (sym c.value_at-message.ensures) (text_message u.world.shared (value_at 3 c.args.frame.values) s.message));
      thrown = subst (λ (h : List Cell). Throws h c.args.ending) (sym cells) (body_throws u c.args.frame c.args.ending kind.CatchErrorBody c.requires.may c.requires.kind (λ root k sh left env. refl));
      ending = block_inside c.requires.may c.requires.kind refl;
    }

pub returns : goal.returns
returns c =
    let f = c.args.frame in
    let u = standing c.end_body.new.shared c.end_body.new.state in
    let v = standing c.caught.new.shared c.caught.new.state in
    let s = position (value_at 0 f.values) in
    let r = position (value_at 2 f.values) in
    let pos = low_rank f kind.CatchErrorBody c.requires.kind refl in
    to_kind (rank f) f kind.CatchErrorBody c.args.ending _ _ _ c.requires.kind
    (to_body_end f.node (rank f) (position (value_at 1 f.values)) c.number_at.result (λ sh a. caught s r (value_at 3 f.values) c.args.ending) _ u _ _ c.number_at.ensures.number c.in_ok-end_body.ensures
    (subst (λ (x : ℕ). ComesTo f.node (rank f) (λ sh a. caught x r (value_at 3 f.values) c.args.ending) u c.caught.result v) c.number_at-start.ensures.number
    (subst (λ (x : ℕ). ComesTo f.node (rank f) (λ sh a. caught c.number_at-start.result x (value_at 3 f.values) c.args.ending) u c.caught.result v) c.number_at-least.ensures.number
    (subst (λ (x : Value). ComesTo f.node (rank f) (λ sh a. caught c.number_at-start.result c.number_at-least.result x c.args.ending) u c.caught.result v) c.value_at-message.ensures (c.caught.ensures f.node (rank f) pos)))))
