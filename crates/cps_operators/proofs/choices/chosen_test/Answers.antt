use Rattle.std.proofs.Common.{◌∙◌, ap, sym}
use Rattle.cps_operators.proofs.choices.chosen_test.Goals as goal
use Rattle.std.proofs.Common.{true}
use Rattle.model_run.specs.Around.{form_at}
use Rattle.model_run.specs.FrameTable.{current, is_if_true}
use Rattle.model_run.specs.Nesting.{shape_at}
use Rattle.cps_code.specs.Script.{script_of}
use Rattle.std.specs.Prelude.{Ok}
use Rattle.cps_frames.specs.Order.{rank}
use Rattle.cps_frames.specs.Standing.{standing}
use Rattle.model_run.specs.declared.frame.FrameKind.TheVariants as kind
use Rattle.cps_operators.proofs.FrameLaws.{row_stands, script_passed}
use Rattle.cps_operators.proofs.GrammarLaws.{choice_behind}
use Rattle.cps_operators.proofs.OperandLaws.{choice_fails, choice_holds, rank_above, rank_pos, to_choice}
use Rattle.cps_operators.proofs.FormLaws.{to_size}
use Rattle.model_run.specs.declared.ending.Entry.TheVariants.{Inside}

pub returns-then-has_value : goal.returns-then-has_value
returns-then-has_value c =
    let f = c.args.frame in
    let sh = shape_at (script_of c.args.shared.now.code) f.node in
    let u = standing c.args.shared.now c.args.state.now in
    let w = standing c.counted_truth.new.shared c.args.state.now in
    to_choice f true c.args.value u (Ok c.part.result) w c.requires.kind (sym c.if-has_value.true ∙ c.is_if_true-has_value.ensures ∙ ap is_if_true (c.part_form.ensures ∙ ap (form_at sh.parts) c.current-at.ensures.current))
    (choice_holds f true c.args.value (rank f) u w (Ok c.part.result) w c.in_ok-holds.ensures.passes (sym c.in_ok-holds.ensures.truth ∙ c.if-holds.true)
    (to_size f.node (rank f) c.current-at.result (λ sh. current sh f.left) (λ i sh a. a.part (Inside 1) i f.env) w (Ok c.part.result) w (c.current-at.ensures.current ∙ ap (λ s. current (shape_at s f.node) f.left) (sym (script_passed u w c.in_ok-holds.ensures.passes))) (c.part.ensures c.args.state.now (rank f) (rank_pos f))))

pub choices-requires-clause-some : goal.choices-requires-clause-some
choices-requires-clause-some c =
    choice_behind (script_of c.args.shared.now.code) c.requires.may.script c.args.frame.node c.args.frame.left (row_stands (standing c.args.shared.now c.args.state.now) c.args.frame _ kind.ChosenTest c.requires.may c.requires.kind)

pub returns-else-holds : goal.returns-else-holds
returns-else-holds c =
    let f = c.args.frame in
    let sh = shape_at (script_of c.args.shared.now.code) f.node in
    to_choice f c.is_if_true-has_value.result c.args.value _ _ _ c.requires.kind (c.is_if_true-has_value.ensures ∙ ap is_if_true (c.part_form.ensures ∙ ap (form_at sh.parts) c.current-at.ensures.current))
    (choice_fails f c.is_if_true-has_value.result c.args.value (rank f) _ _ _ _ c.in_ok-holds.ensures.passes (sym c.in_ok-holds.ensures.truth ∙ c.if-holds.false) (c.choices.ensures (rank f) (rank_above f)))
