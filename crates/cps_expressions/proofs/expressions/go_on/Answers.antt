use Rattle.std.proofs.Common.{◌∙◌, sym}
use Rattle.std.proofs.lemmas.Result.{err_from_is_err_and}
use Rattle.cps_frames.specs.Order.{rank}
use Rattle.cps_frames.specs.Standing.{standing}
use Rattle.cps_frames.proofs.EndLaws.{ends_as_block}
use Rattle.cps_operators.proofs.OperandLaws.{rank_pos}
use Rattle.cps_expressions.proofs.FormLaws.{as_normal, expression_quiet, passes_on}
use Rattle.cps_expressions.proofs.expressions.go_on.Goals as goal

pub value_of-requires : goal.value_of-requires
value_of-requires c = ends_as_block c.requires.may (expression_quiet c.args.frame.kind c.requires.kind)

pub returns-in_err-value : goal.returns-in_err-value
returns-in_err-value c =
    let p = err_from_is_err_and c.from_residual.result c.from_residual.ensures.1 in
    rw (p.1, p.2) (passes_on (rank c.args.frame) c.args.frame c.args.ending c.in_err-value.field-0.0 (standing c.args.shared.now c.args.state.now) c.requires.kind (sym c.value_of.ensures ∙ c.in_err-value.was) (rank_pos c.args.frame))

pub returns-in-Gathered : goal.returns-in-Gathered
returns-in-Gathered c = as_normal (rank c.args.frame) c.args.frame c.args.ending c.in_ok-value.value (standing c.args.shared.now c.args.state.now) c.gathered_value.result (standing c.gathered_value.new.shared c.gathered_value.new.state) (sym c.value_of.ensures ∙ c.in_ok-value.was) c.gathered_value.ensures

pub returns-in-GatheredKey : goal.returns-in-GatheredKey
returns-in-GatheredKey c = as_normal (rank c.args.frame) c.args.frame c.args.ending c.in_ok-value.value (standing c.args.shared.now c.args.state.now) c.gathered_key.result (standing c.gathered_key.new.shared c.gathered_key.new.state) (sym c.value_of.ensures ∙ c.in_ok-value.was) c.gathered_key.ensures

pub returns-in-GroupValue : goal.returns-in-GroupValue
returns-in-GroupValue c = as_normal (rank c.args.frame) c.args.frame c.args.ending c.in_ok-value.value (standing c.args.shared.now c.args.state.now) c.group_value.result (standing c.group_value.new.shared c.group_value.new.state) (sym c.value_of.ensures ∙ c.in_ok-value.was) c.group_value.ensures

pub returns-in-ChosenTest : goal.returns-in-ChosenTest
returns-in-ChosenTest c = as_normal (rank c.args.frame) c.args.frame c.args.ending c.in_ok-value.value (standing c.args.shared.now c.args.state.now) c.chosen_test.result (standing c.chosen_test.new.shared c.chosen_test.new.state) (sym c.value_of.ensures ∙ c.in_ok-value.was) c.chosen_test.ensures

pub returns-in-ChainOperand : goal.returns-in-ChainOperand
returns-in-ChainOperand c = as_normal (rank c.args.frame) c.args.frame c.args.ending c.in_ok-value.value (standing c.args.shared.now c.args.state.now) c.chain_operand.result (standing c.chain_operand.new.shared c.chain_operand.new.state) (sym c.value_of.ensures ∙ c.in_ok-value.was) c.chain_operand.ensures

pub returns-in-JoinedFirst : goal.returns-in-JoinedFirst
returns-in-JoinedFirst c = as_normal (rank c.args.frame) c.args.frame c.args.ending c.in_ok-value.value (standing c.args.shared.now c.args.state.now) c.joined_first.result (standing c.joined_first.new.shared c.joined_first.new.state) (sym c.value_of.ensures ∙ c.in_ok-value.was) c.joined_first.ensures

pub returns-in-JoinedOperand : goal.returns-in-JoinedOperand
returns-in-JoinedOperand c = as_normal (rank c.args.frame) c.args.frame c.args.ending c.in_ok-value.value (standing c.args.shared.now c.args.state.now) c.joined_operand.result (standing c.joined_operand.new.shared c.joined_operand.new.state) (sym c.value_of.ensures ∙ c.in_ok-value.was) c.joined_operand.ensures

pub returns-in-PrefixedOperand : goal.returns-in-PrefixedOperand
returns-in-PrefixedOperand c = as_normal (rank c.args.frame) c.args.frame c.args.ending c.in_ok-value.value (standing c.args.shared.now c.args.state.now) c.prefixed_operand.result (standing c.prefixed_operand.new.shared c.prefixed_operand.new.state) (sym c.value_of.ensures ∙ c.in_ok-value.was) c.prefixed_operand.ensures

pub returns-in-SuffixedPart : goal.returns-in-SuffixedPart
returns-in-SuffixedPart c = as_normal (rank c.args.frame) c.args.frame c.args.ending c.in_ok-value.value (standing c.args.shared.now c.args.state.now) c.suffixed_part.result (standing c.suffixed_part.new.shared c.suffixed_part.new.state) (sym c.value_of.ensures ∙ c.in_ok-value.was) c.suffixed_part.ensures

pub returns-in-IndexValue : goal.returns-in-IndexValue
returns-in-IndexValue c = as_normal (rank c.args.frame) c.args.frame c.args.ending c.in_ok-value.value (standing c.args.shared.now c.args.state.now) c.index_value.result (standing c.index_value.new.shared c.index_value.new.state) (sym c.value_of.ensures ∙ c.in_ok-value.was) c.index_value.ensures
