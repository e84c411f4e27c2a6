use Rattle.model_syntax.specs.declared.token.TokenKind.TheVariants as kind
use Rattle.std.proofs.Common.{rules, ◌≡◌, sym, ap, ◌∙◌, arith, Some, w32}
use Rattle.std.proofs.lemmas.Int.{to_z-of_z}
use Rattle.std.proofs.lemmas.Result.{err_from_is_err_and}
use Rattle.model_syntax.specs.Stream.{places_of}
use Rattle.model_syntax.specs.Operators.{chained, joined}
use Rattle.groovy_expr.specs.Answers.{kinds}
use Rattle.groovy_expr.specs.Ranks.{chain_of, pair_of, terms_of}
use Rattle.groovy_expr.proofs.Calculus.{passed, tail_start}
use Rattle.groovy_expr.proofs.RankRules.{chain_join, chain_turn, terms_join, terms_turn, terms_more_read, terms_more_fails, terms_done, chain_more_read, chain_more_fails, chain_done, pair_fails, pair_one, pair_two, pair_two_fails, whole_start, whole_fails, whole_last, whole_set, whole_test_fails, whole_no_colon, whole_true}
use Rattle.groovy_expr.proofs.SuffixRules.{unary_prefix_fails, unary_fails, unary_suffix_fails, unary_ok}
use Rattle.groovy_expr.proofs.Lists.{more_read, more_fails, all_read, first_read, first_fails}
use Rattle.std.proofs.lemmas.Bool.{false≢true}
use Rattle.groovy_expr.proofs.SuffixRules.{suffix_many, suffixes_start, suffix_bad, index_fails, index_open, index_ok, member_no_name, member_property, member_fails, member_method}
use Rattle.groovy_expr.proofs.PrimaryRules.{number_ok, literal_ok, true_ok, false_ok, null_ok, text_ok, text_fails, variable_ok, call_ok, call_fails, group_fails, group_open, group_ok}
use Rattle.groovy_expr.proofs.NewRules.{new_no_class, new_closed, new_alone, new_fails, new_open, new_ok}
use Rattle.groovy_expr.proofs.BracketRules.{no_list, entry_fails, entries_fails, map_ok, elements_fails, list_rest_fails, list_ok, no_key, key_fails, map_rest_fails, computed_map_ok}
use Rattle.groovy_expr.proofs.RestRules.{rest_done, rest_closed, rest_next, rest_fails, rest_bad}
use Rattle.groovy_expr.proofs.CallRules.{exprs_list, named_list, named_no_key, named_no_colon, named_fails, named_ok, arguments_named_ok, arguments_named_fails, arguments_ordered_ok, arguments_ordered_fails, no_close_ok, close_ok, close_fails, call_closure_ok, call_closure_fails, call_empty_ok, call_empty_fails, call_some_fails, call_open, call_some_ok, call_close_fails}
use Rattle.groovy_expr.proofs.TextRules.{part_many, parts_start, no_part_kind, no_part_end, plain_ok, braces_fails, braces_open, braces_ok, text_none, text_parts_fails, text_open, text_closed}
use Rattle.groovy_expr.proofs.EntryRules.{suffix_longer, part_longer, named_as, text_as, part_as, number_as, key_as, kind_bad, end_bad, many_start, separated_fails, separated_last, separated_next, expr_no_close, entry_no_close, word_bad, sign_bad, closure_answer, plain_answer, numbered_no_colon, numbered_fails, numbered_ok, text_key_fails, text_key_no_colon, text_value_fails, text_value_ok, group_key_fails, group_key_open, group_key_no_colon, group_value_fails, group_value_ok}
use Rattle.groovy_expr.proofs.ClosureRules.{no_closure, headless_fails, headless_open, headless_ok, headed_fails, headed_stmts_fails, headed_open, headed_ok}
use Rattle.groovy_expr.proofs.StatementCalculus.{handed}
use Rattle.groovy_expr.proofs.StatementBlocks.{body_block_ok, body_block_fails, body_simple_ok, body_simple_fails, block_none, block_fails, block_open, block_ok, fill_guarded, guarded_none, guarded_fails, guarded_bad, guarded_ok, behind_none, behind_ok, behind_fails}
use Rattle.groovy_expr.proofs.StatementLists.{separates_forward, stmts_empty, stmts_fails, stmts_first, stmts_last, stmts_fails_later, stmts_step, rest_goes_on}
use Rattle.groovy_expr.proofs.StatementIfs.{stmt_simple_ok, stmt_simple_fails, blockless_token, if_fails, if_first, if_step, if_arm_fails, if_none, if_else_ok, if_else_fails, arm_none, arm_ok, arm_fails, while_ok, while_fails, CatchesOf}
use Rattle.groovy_expr.proofs.StatementWhole.{name_is, assign_is, whole_expr_ok, whole_expr_fails, whole_typed, call_says, whole_call_ok, whole_call_fails}
use Rattle.groovy_expr.proofs.StatementOthers.{plain_is, other_call_ok, other_call_fails, other_expr_fails, other_expr_ok, other_no_target, other_update_ok, other_update_fails, no_update}
use Rattle.groovy_expr.proofs.StatementSimple.{break_ok, continue_ok, def_no_name, def_alone, def_ok, def_fails, typed_ok, typed_fails, return_alone, return_ok, return_fails, throw_ok, throw_fails, simple_brace, update_up_ok, update_down_ok, update_none, update_value_ok, update_value_fails}
use Rattle.groovy_expr.proofs.StatementTests.{open_words}
use Rattle.groovy_expr.specs.Targets.{target_of}
use Rattle.groovy_expr.proofs.StatementHeads.{assign_primary, assign_primary_fails, assign_suffix, assign_no_update, assign_no_target, assign_ok, assign_update_fails, suffix_ahead, suffix_refused}
use Rattle.groovy_expr.proofs.StatementFors.{for_no_head, for_each_ok, for_each_fails, for_steps_ok, for_steps_fails, each_ok, each_fails, each_bad, steps_init_fails, steps_no_test, steps_test_fails, steps_no_update, steps_update_fails, steps_behind_fails, steps_ok, init_assign_ok, init_assign_fails, init_no_name, init_no_value, init_ok, init_fails, declaration_def, declaration_type, not_def, not_both}
use Rattle.groovy_expr.proofs.StatementTries.{try_block_fails, try_catches_fail, try_finally_ok, try_finally_fails, try_alone, try_unhandled, catch_longer, catches_step, catches_fails, catches_end, catch_none, catch_fails, catch_block_fails, catch_ok, finally_none, finally_fails, finally_ok}
use Rattle.groovy_expr.specs.Statements.{stops_catches}
use Rattle.groovy_expr.proofs.+parser.Goals as goal

pub ranks::read_chain-returns-in_err-first : goal.ranks::read_chain-returns-in_err-first
ranks::read_chain-returns-in_err-first t c =
    let p = err_from_is_err_and c.from_residual.result c.from_residual.ensures.1 in
    let h = rw c.within.ensures at c.in_err-first.ensures in
    let l = chain_of c.args.level in
    rw (p.1, p.2) (passed c.in_err-first.field-0.0 h (λ i f. first_fails (chained l) (chain_join (places_of c.args.tokens.now) l) (kinds c.args.tokens.now) (chain_turn (places_of c.args.tokens.now) l (kinds c.args.tokens.now) c.args.at) f))

pub ranks::read_chain-operands-init : goal.ranks::read_chain-operands-init
ranks::read_chain-operands-init t c =
    let h = rw c.within.ensures at c.in_ok-first.ensures in
    let l = chain_of c.args.level in
    rw c.new-others.ensures (first_read (chained l) (chain_join (places_of c.args.tokens.now) l) (kinds c.args.tokens.now) (chain_turn (places_of c.args.tokens.now) l (kinds c.args.tokens.now) c.args.at) h)

pub ranks::read_chain-returns-in_err-operand : goal.ranks::read_chain-returns-in_err-operand
ranks::read_chain-returns-in_err-operand t c =
    let p = err_from_is_err_and c.from_residual-in_err-operand.result c.from_residual-in_err-operand.ensures.1 in
    let h = rw c.within-in-operands.ensures at c.in_err-operand.ensures in
    let s = rw c.sign.ensures at c.operands-test.ensures.0 in
    rw (p.1, p.2) (passed c.in_err-operand.field-0.0 h (λ i f. chain_more_fails (places_of c.args.tokens.now) (chain_of c.args.level) (kinds c.args.tokens.now) _ _ c.operands.invariant s f))

pub ranks::read_chain-operands-preserved : goal.ranks::read_chain-operands-preserved
ranks::read_chain-operands-preserved t c =
    let h = rw c.within-in-operands.ensures at c.in_ok-operand.ensures in
    let s = rw c.sign.ensures at c.operands-test.ensures.0 in
    rw c.in_ok-push.ensures.ok (chain_more_read (places_of c.args.tokens.now) (chain_of c.args.level) (kinds c.args.tokens.now) _ _ c.operands.invariant s h)

pub ranks::read_chain-returns : goal.ranks::read_chain-returns
ranks::read_chain-returns t c =
    rw c.in_ok-chained.ensures (chain_done (places_of c.args.tokens.now) (chain_of c.args.level) (kinds c.args.tokens.now) _ _ c.operands.invariant (λ e. c.operands-test.ensures (rw c.sign.ensures e)))

pub ranks::read_terms-returns-in_err-first : goal.ranks::read_terms-returns-in_err-first
ranks::read_terms-returns-in_err-first t c =
    let p = err_from_is_err_and c.from_residual.result c.from_residual.ensures.1 in
    let h = rw c.within.ensures at c.in_err-first.ensures in
    let l = terms_of c.args.level in
    rw (p.1, p.2) (passed c.in_err-first.field-0.0 h (λ i f. first_fails joined (terms_join (places_of c.args.tokens.now) l) (kinds c.args.tokens.now) (terms_turn (places_of c.args.tokens.now) l (kinds c.args.tokens.now) c.args.at) f))

pub ranks::read_terms-operands-init : goal.ranks::read_terms-operands-init
ranks::read_terms-operands-init t c =
    let h = rw c.within.ensures at c.in_ok-first.ensures in
    let l = terms_of c.args.level in
    rw c.new-others.ensures (first_read joined (terms_join (places_of c.args.tokens.now) l) (kinds c.args.tokens.now) (terms_turn (places_of c.args.tokens.now) l (kinds c.args.tokens.now) c.args.at) h)

pub ranks::read_terms-returns-in_err-value : goal.ranks::read_terms-returns-in_err-value
ranks::read_terms-returns-in_err-value t c =
    let p = err_from_is_err_and c.from_residual-in_err-value.result c.from_residual-in_err-value.ensures.1 in
    let h = rw c.within-in-Some.ensures at c.in_err-value.ensures in
    let l = terms_of c.args.level in
    let s = c.in-Some.ensures in
    rw (p.1, p.2) (passed c.in_err-value.field-0.0 h (λ i f. terms_more_fails (places_of c.args.tokens.now) l (kinds c.args.tokens.now) _ _ c.operands.invariant s.1 s.2 f))

pub ranks::read_terms-operands-preserved : goal.ranks::read_terms-operands-preserved
ranks::read_terms-operands-preserved t c =
    let h = rw c.within-in-Some.ensures at c.in_ok-value.ensures in
    let l = terms_of c.args.level in
    let s = c.in-Some.ensures in
    rw c.in_ok-push.ensures.ok (terms_more_read (places_of c.args.tokens.now) l (kinds c.args.tokens.now) _ _ c.operands.invariant s.1 s.2 h)

pub ranks::read_terms-returns : goal.ranks::read_terms-returns
ranks::read_terms-returns t c =
    rw c.in_ok-joined.ensures (terms_done (places_of c.args.tokens.now) (terms_of c.args.level) (kinds c.args.tokens.now) _ _ c.operands.invariant (λ s o h q. c.in_default.ensures s o h q))

pub ranks::read_pair-returns-in_err-first : goal.ranks::read_pair-returns-in_err-first
ranks::read_pair-returns-in_err-first t c =
    let p = err_from_is_err_and c.from_residual.result c.from_residual.ensures.1 in
    let h = rw c.within.ensures at c.in_err-first.ensures in
    rw (p.1, p.2) (passed c.in_err-first.field-0.0 h (λ i f. pair_fails (places_of c.args.tokens.now) (pair_of c.args.level) (kinds c.args.tokens.now) f))

pub ranks::read_pair-returns-in_default : goal.ranks::read_pair-returns-in_default
ranks::read_pair-returns-in_default t c =
    let h = rw c.within.ensures at c.in_ok-first.ensures in
    pair_one (places_of c.args.tokens.now) (pair_of c.args.level) (kinds c.args.tokens.now) h c.in_default.ensures

pub ranks::read_pair-returns-in_err-value : goal.ranks::read_pair-returns-in_err-value
ranks::read_pair-returns-in_err-value t c =
    let p = err_from_is_err_and c.from_residual-in_err-value.result c.from_residual-in_err-value.ensures.1 in
    let g = rw c.within.ensures at c.in_ok-first.ensures in
    let h = rw c.within-2.ensures at c.in_err-value.ensures in
    let s = c.in-Some.ensures in
    rw (p.1, p.2) (passed c.in_err-value.field-0.0 h (λ i f. pair_two_fails (places_of c.args.tokens.now) (pair_of c.args.level) (kinds c.args.tokens.now) g s.1 s.2 f))

pub ranks::read_pair-returns : goal.ranks::read_pair-returns
ranks::read_pair-returns t c =
    let g = rw c.within.ensures at c.in_ok-first.ensures in
    let h = rw c.within-2.ensures at c.in_ok-value.ensures in
    let s = c.in-Some.ensures in
    rw (c.in_ok-joined.ensures, c.in_ok-push.ensures.ok, c.new-others.ensures) (pair_two (places_of c.args.tokens.now) (pair_of c.args.level) (kinds c.args.tokens.now) g s.1 s.2 h)

pub ranks::read_unary-returns-in_err-prefixes : goal.ranks::read_unary-returns-in_err-prefixes
ranks::read_unary-returns-in_err-prefixes t c =
    let p = err_from_is_err_and c.from_residual.result c.from_residual.ensures.1 in
    rw (p.1, p.2) (passed c.in_err-prefixes.field-0.0 c.in_err-prefixes.ensures (λ i f. unary_prefix_fails (places_of c.args.tokens.now) (kinds c.args.tokens.now) f))

pub ranks::read_unary-returns-in_err-primary : goal.ranks::read_unary-returns-in_err-primary
ranks::read_unary-returns-in_err-primary t c =
    let p = err_from_is_err_and c.from_residual-in_err-primary.result c.from_residual-in_err-primary.ensures.1 in
    rw (p.1, p.2) (passed c.in_err-primary.field-0.0 c.in_err-primary.ensures (λ i f. unary_fails (places_of c.args.tokens.now) (kinds c.args.tokens.now) c.in_ok-prefixes.ensures f))

pub ranks::read_unary-returns-in_err-suffixes : goal.ranks::read_unary-returns-in_err-suffixes
ranks::read_unary-returns-in_err-suffixes t c =
    let p = err_from_is_err_and c.from_residual-in_err-suffixes.result c.from_residual-in_err-suffixes.ensures.1 in
    rw (p.1, p.2) (passed c.in_err-suffixes.field-0.0 c.in_err-suffixes.ensures (λ i f. unary_suffix_fails (places_of c.args.tokens.now) (kinds c.args.tokens.now) c.in_ok-prefixes.ensures c.in_ok-primary.ensures f))

pub ranks::read_unary-returns : goal.ranks::read_unary-returns
ranks::read_unary-returns t c =
    rw (c.in_ok-prefixed.ensures, c.in_ok-operand.ensures) (unary_ok (places_of c.args.tokens.now) (kinds c.args.tokens.now) c.in_ok-prefixes.ensures c.in_ok-primary.ensures c.in_ok-suffixes.ensures)

pub ranks::read_expr-choices-init : goal.ranks::read_expr-choices-init
ranks::read_expr-choices-init t c = rw c.new-choices.ensures (whole_start (places_of c.args.tokens.now) (kinds c.args.tokens.now))

pub ranks::read_expr-returns-in_err-value : goal.ranks::read_expr-returns-in_err-value
ranks::read_expr-returns-in_err-value t c =
    let p = err_from_is_err_and c.from_residual.result c.from_residual.ensures.1 in
    rw (p.1, p.2) (passed c.in_err-value.field-0.0 c.in_err-value.ensures (λ i f. whole_fails (places_of c.args.tokens.now) (kinds c.args.tokens.now) c.choices.choices c.choices.invariant f))

pub ranks::read_expr-choices-preserved-then-sees : goal.ranks::read_expr-choices-preserved-then-sees
ranks::read_expr-choices-preserved-then-sees t c =
    rw c.in_ok-push.ensures.ok (whole_set (places_of c.args.tokens.now) (kinds c.args.tokens.now) c.choices.choices c.choices.invariant c.in_ok-value.ensures c.if-sees.ensures.0)

pub ranks::read_expr-returns-then-not-sees : goal.ranks::read_expr-returns-then-not-sees
ranks::read_expr-returns-then-not-sees t c =
    rw c.in_ok-chosen.ensures (whole_last (places_of c.args.tokens.now) (kinds c.args.tokens.now) c.choices.choices c.choices.invariant c.in_ok-value.ensures c.if-sees.ensures c.if-not-sees.ensures)

pub ranks::read_expr-returns-in_err-second : goal.ranks::read_expr-returns-in_err-second
ranks::read_expr-returns-in_err-second t c =
    let p = err_from_is_err_and c.from_residual-in_err-second.result c.from_residual-in_err-second.ensures.1 in
    rw (p.1, p.2) (passed c.in_err-second.field-0.0 c.in_err-second.ensures (λ i f. whole_test_fails (places_of c.args.tokens.now) (kinds c.args.tokens.now) c.choices.choices c.choices.invariant c.in_ok-value.ensures c.if-not-sees.ensures.0 f))

pub ranks::read_expr-returns-then-not-sees-2 : goal.ranks::read_expr-returns-then-not-sees-2
ranks::read_expr-returns-then-not-sees-2 t c =
    whole_no_colon (places_of c.args.tokens.now) (kinds c.args.tokens.now) c.choices.choices c.choices.invariant c.in_ok-value.ensures c.if-not-sees.ensures.0 c.in_ok-second.ensures c.if-not-sees-2.ensures

pub ranks::read_expr-choices-preserved : goal.ranks::read_expr-choices-preserved
ranks::read_expr-choices-preserved t c =
    rw c.in_ok-push-2.ensures.ok (whole_true (places_of c.args.tokens.now) (kinds c.args.tokens.now) c.choices.choices c.choices.invariant c.in_ok-value.ensures c.if-not-sees.ensures.0 c.in_ok-second.ensures c.if-not-sees-2.ensures.0)

pub suffixes::read_suffixes-suffixes-init : goal.suffixes::read_suffixes-suffixes-init
suffixes::read_suffixes-suffixes-init t c = rw c.new-suffixes.ensures (suffixes_start (places_of c.args.tokens.now) (kinds c.args.tokens.now) c.args.at)

pub suffixes::read_suffixes-returns-in_err-suffix : goal.suffixes::read_suffixes-returns-in_err-suffix
suffixes::read_suffixes-returns-in_err-suffix t c =
    let p = err_from_is_err_and c.from_residual.result c.from_residual.ensures.1 in
    rw (p.1, p.2) (passed c.in_err-suffix.field-0.0 c.in_err-suffix.ensures (λ i f. more_fails (suffix_many (places_of c.args.tokens.now)) (kinds c.args.tokens.now) (λ z. z) c.suffixes.suffixes c.suffixes.invariant (cc) f))

pub suffixes::read_suffixes-suffixes-preserved : goal.suffixes::read_suffixes-suffixes-preserved
suffixes::read_suffixes-suffixes-preserved t c = rw c.in_ok-push.ensures.ok (more_read (suffix_many (places_of c.args.tokens.now)) (kinds c.args.tokens.now) (λ z. z) c.suffixes.suffixes c.suffixes.invariant (cc) c.in_ok-suffix.ensures)

pub suffixes::read_suffixes-returns : goal.suffixes::read_suffixes-returns
suffixes::read_suffixes-returns t c = all_read (suffix_many (places_of c.args.tokens.now)) (kinds c.args.tokens.now) (λ z. z) c.suffixes.suffixes c.suffixes.invariant (λ e. false≢true (cc))

pub suffixes::read_suffixes-suffixes-smaller : goal.suffixes::read_suffixes-suffixes-smaller
suffixes::read_suffixes-suffixes-smaller t c =
    let le = suffix_longer (places_of c.args.tokens.now) (kinds c.args.tokens.now) c.in_ok-suffix.ensures in
    let lt = c.begins_suffix.ensures.within c.suffixes-test.true in
    omega arith

pub suffixes::read_suffix-returns-then-not-sees : goal.suffixes::read_suffix-returns-then-not-sees
suffixes::read_suffix-returns-then-not-sees t c = suffix_bad (places_of c.args.tokens.now) (kinds c.args.tokens.now) c.in_default.ensures c.if-not-sees.ensures

pub suffixes::read_suffix-returns-in_err-index : goal.suffixes::read_suffix-returns-in_err-index
suffixes::read_suffix-returns-in_err-index t c =
    let p = err_from_is_err_and c.from_residual.result c.from_residual.ensures.1 in
    rw (p.1, p.2) (passed c.in_err-index.field-0.0 c.in_err-index.ensures (λ i f. index_fails (places_of c.args.tokens.now) (kinds c.args.tokens.now) c.if-not-sees.ensures.0 f))

pub suffixes::read_suffix-returns-then-not-sees-2 : goal.suffixes::read_suffix-returns-then-not-sees-2
suffixes::read_suffix-returns-then-not-sees-2 t c = index_open (places_of c.args.tokens.now) (kinds c.args.tokens.now) c.if-not-sees.ensures.0 c.in_ok-index.ensures c.if-not-sees-2.ensures

pub suffixes::read_suffix-returns : goal.suffixes::read_suffix-returns
suffixes::read_suffix-returns t c = index_ok (places_of c.args.tokens.now) (kinds c.args.tokens.now) c.if-not-sees.ensures.0 c.in_ok-index.ensures c.if-not-sees-2.ensures.0

pub suffixes::read_member-returns-in_default : goal.suffixes::read_member-returns-in_default
suffixes::read_member-returns-in_default t c = member_no_name (places_of c.args.tokens.now) (kinds c.args.tokens.now) c.requires.seen c.in_default.ensures

pub suffixes::read_member-returns-then-not-opens_call : goal.suffixes::read_member-returns-then-not-opens_call
suffixes::read_member-returns-then-not-opens_call t c = member_property (places_of c.args.tokens.now) (kinds c.args.tokens.now) c.requires.seen (named_as c.in-Some.ensures.0 c.in_ok-name.ensures.cases) (cc)

pub suffixes::read_member-returns-in_err-arguments : goal.suffixes::read_member-returns-in_err-arguments
suffixes::read_member-returns-in_err-arguments t c =
    let p = err_from_is_err_and c.from_residual-in_err-arguments.result c.from_residual-in_err-arguments.ensures.1 in
    rw (p.1, p.2) (passed c.in_err-arguments.field-0.0 c.in_err-arguments.ensures (λ i f. member_fails (places_of c.args.tokens.now) (kinds c.args.tokens.now) c.requires.seen c.in-Some.ensures.0 (cc) f))

pub suffixes::read_member-returns : goal.suffixes::read_member-returns
suffixes::read_member-returns t c = member_method (places_of c.args.tokens.now) (kinds c.args.tokens.now) c.requires.seen (named_as c.in-Some.ensures.0 c.in_ok-name.ensures.cases) (cc) c.in_ok-arguments.ensures

pub primary::read_primary-returns-in_default : goal.primary::read_primary-returns-in_default
primary::read_primary-returns-in_default t c = end_bad (places_of c.args.tokens.now) (kinds c.args.tokens.now) (sym c.in_default.ensures.value)

pub primary::read_primary-returns-in_default-kind : goal.primary::read_primary-returns-in_default-kind
primary::read_primary-returns-in_default-kind t c = kind_bad (places_of c.args.tokens.now) (kinds c.args.tokens.now) (search rules) c.in_default-kind.not-Int c.in_default-kind.not-Text c.in_default-kind.not-Name c.in_default-kind.not-Word c.in_default-kind.not-Sign c.in_default-kind.not-GStringOpen

pub primary::read_primary-returns-in-Int : goal.primary::read_primary-returns-in-Int
primary::read_primary-returns-in-Int t c = number_ok (places_of c.args.tokens.now) (kinds c.args.tokens.now) (search rules)

pub primary::read_primary-returns-in_ok-clone-in-Text : goal.primary::read_primary-returns-in_ok-clone-in-Text
primary::read_primary-returns-in_ok-clone-in-Text t c = literal_ok (places_of c.args.tokens.now) (kinds c.args.tokens.now) (text_as (search rules) c.in_ok-clone-in-Text.ensures.cases)

pub primary::read_primary-returns-in_ok-parts-in-GStringOpen : goal.primary::read_primary-returns-in_ok-parts-in-GStringOpen
primary::read_primary-returns-in_ok-parts-in-GStringOpen t c = text_ok (places_of c.args.tokens.now) (kinds c.args.tokens.now) (search rules) c.in_ok-parts-in-GStringOpen.ensures

pub primary::read_primary-returns-in_err-parts-in-GStringOpen : goal.primary::read_primary-returns-in_err-parts-in-GStringOpen
primary::read_primary-returns-in_err-parts-in-GStringOpen t c =
    let p = err_from_is_err_and c.from_residual-in_err-parts-in-GStringOpen.result c.from_residual-in_err-parts-in-GStringOpen.ensures.1 in
    rw (p.1, p.2) (passed c.in_err-parts-in-GStringOpen.field-0.0 c.in_err-parts-in-GStringOpen.ensures (λ i f. text_fails (places_of c.args.tokens.now) (kinds c.args.tokens.now) (search rules) f))

pub primary::read_word-returns-in-True : goal.primary::read_word-returns-in-True
primary::read_word-returns-in-True t c = true_ok (places_of c.args.tokens.now) (kinds c.args.tokens.now) (rw (← c.in-True.is) c.requires.seen)

pub primary::read_word-returns-in-False : goal.primary::read_word-returns-in-False
primary::read_word-returns-in-False t c = false_ok (places_of c.args.tokens.now) (kinds c.args.tokens.now) (rw (← c.in-False.is) c.requires.seen)

pub primary::read_word-returns-in-Null : goal.primary::read_word-returns-in-Null
primary::read_word-returns-in-Null t c = null_ok (places_of c.args.tokens.now) (kinds c.args.tokens.now) (rw (← c.in-Null.is) c.requires.seen)

pub primary::read_word-returns-in_default : goal.primary::read_word-returns-in_default
primary::read_word-returns-in_default t c = word_bad (places_of c.args.tokens.now) (kinds c.args.tokens.now) c.requires.seen c.in_default.not-True c.in_default.not-False c.in_default.not-Null c.in_default.not-New

pub primary::read_enclosed-returns-in-BraceOpen : goal.primary::read_enclosed-returns-in-BraceOpen
primary::read_enclosed-returns-in-BraceOpen t c = closure_answer (places_of c.args.tokens.now) (kinds c.args.tokens.now) (rw (← c.in-BraceOpen.is) c.requires.seen) c.read_closure.result c.read_closure.ensures

pub primary::read_enclosed-returns-in_default : goal.primary::read_enclosed-returns-in_default
primary::read_enclosed-returns-in_default t c = sign_bad (places_of c.args.tokens.now) (kinds c.args.tokens.now) c.requires.seen c.in_default.not-ParenOpen c.in_default.not-BracketOpen c.in_default.not-BraceOpen

pub primary::read_named_primary-returns-then-not-opens_call : goal.primary::read_named_primary-returns-then-not-opens_call
primary::read_named_primary-returns-then-not-opens_call t c = variable_ok (places_of c.args.tokens.now) (kinds c.args.tokens.now) (named_as c.requires.seen c.in_ok-name.ensures.cases) (cc)

pub primary::read_named_primary-returns-in_err-arguments : goal.primary::read_named_primary-returns-in_err-arguments
primary::read_named_primary-returns-in_err-arguments t c =
    let p = err_from_is_err_and c.from_residual-in_err-arguments.result c.from_residual-in_err-arguments.ensures.1 in
    rw (p.1, p.2) (passed c.in_err-arguments.field-0.0 c.in_err-arguments.ensures (λ i f. call_fails (places_of c.args.tokens.now) (kinds c.args.tokens.now) c.requires.seen (cc) f))

pub primary::read_named_primary-returns : goal.primary::read_named_primary-returns
primary::read_named_primary-returns t c = call_ok (places_of c.args.tokens.now) (kinds c.args.tokens.now) (named_as c.requires.seen c.in_ok-name.ensures.cases) (cc) c.in_ok-arguments.ensures

pub primary::read_group-returns-in_err-inner : goal.primary::read_group-returns-in_err-inner
primary::read_group-returns-in_err-inner t c =
    let p = err_from_is_err_and c.from_residual.result c.from_residual.ensures.1 in
    rw (p.1, p.2) (passed c.in_err-inner.field-0.0 c.in_err-inner.ensures (λ i f. group_fails (places_of c.args.tokens.now) (kinds c.args.tokens.now) c.requires.seen f))

pub primary::read_group-returns-then-not-sees : goal.primary::read_group-returns-then-not-sees
primary::read_group-returns-then-not-sees t c = group_open (places_of c.args.tokens.now) (kinds c.args.tokens.now) c.requires.seen c.in_ok-inner.ensures c.if-not-sees.ensures

pub primary::read_group-returns : goal.primary::read_group-returns
primary::read_group-returns t c = rw c.in_ok-new.ensures (group_ok (places_of c.args.tokens.now) (kinds c.args.tokens.now) c.requires.seen c.in_ok-inner.ensures c.if-not-sees.ensures.0)

pub primary::read_new-returns-in_default : goal.primary::read_new-returns-in_default
primary::read_new-returns-in_default t c = new_no_class (places_of c.args.tokens.now) (kinds c.args.tokens.now) c.requires.seen c.in_default.ensures

pub primary::read_new-returns-then-not-sees : goal.primary::read_new-returns-then-not-sees
primary::read_new-returns-then-not-sees t c = new_closed (places_of c.args.tokens.now) (kinds c.args.tokens.now) c.requires.seen c.in-Some.class c.in-Some.ensures.0 c.if-not-sees.ensures

pub primary::read_new-returns-then-sees : goal.primary::read_new-returns-then-sees
primary::read_new-returns-then-sees t c = new_alone (places_of c.args.tokens.now) (kinds c.args.tokens.now) c.requires.seen c.in-Some.class c.in-Some.ensures.0 c.if-not-sees.ensures.0 c.if-sees.ensures.0

pub primary::read_new-returns-in_err-argument : goal.primary::read_new-returns-in_err-argument
primary::read_new-returns-in_err-argument t c =
    let p = err_from_is_err_and c.from_residual.result c.from_residual.ensures.1 in
    rw (p.1, p.2) (passed c.in_err-argument.field-0.0 c.in_err-argument.ensures (λ i f. new_fails (places_of c.args.tokens.now) (kinds c.args.tokens.now) c.requires.seen c.in-Some.class c.in-Some.ensures.0 c.if-not-sees.ensures.0 c.if-sees.ensures f))

pub primary::read_new-returns-then-not-sees-2 : goal.primary::read_new-returns-then-not-sees-2
primary::read_new-returns-then-not-sees-2 t c = new_open (places_of c.args.tokens.now) (kinds c.args.tokens.now) c.requires.seen c.in-Some.class c.in-Some.ensures.0 c.if-not-sees.ensures.0 c.if-sees.ensures c.in_ok-argument.ensures c.if-not-sees-2.ensures

pub primary::read_new-returns : goal.primary::read_new-returns
primary::read_new-returns t c = rw c.in_ok-new.ensures (new_ok (places_of c.args.tokens.now) (kinds c.args.tokens.now) c.requires.seen c.in-Some.class c.in-Some.ensures.0 c.if-not-sees.ensures.0 c.if-sees.ensures c.in_ok-argument.ensures c.if-not-sees-2.ensures.0)

pub calls::read_call-returns-in_err-closure : goal.calls::read_call-returns-in_err-closure
calls::read_call-returns-in_err-closure t c =
    let p = err_from_is_err_and c.from_residual.result c.from_residual.ensures.1 in
    rw (p.1, p.2) (passed c.in_err-closure.field-0.0 c.in_err-closure.ensures (λ i f. call_closure_fails (places_of c.args.tokens.now) (kinds c.args.tokens.now) c.if-sees.ensures f))

pub calls::read_call-returns : goal.calls::read_call-returns
calls::read_call-returns t c = rw (c.in_ok-push.ensures.ok, c.new-ordered.ensures, c.new-named.ensures) (call_closure_ok (places_of c.args.tokens.now) (kinds c.args.tokens.now) c.if-sees.ensures c.in_ok-closure.ensures)

pub calls::read_parenthesised-returns-in_err-ordered : goal.calls::read_parenthesised-returns-in_err-ordered
calls::read_parenthesised-returns-in_err-ordered t c =
    let p = err_from_is_err_and c.from_residual.result c.from_residual.ensures.1 in
    rw (p.1, p.2) (passed c.in_err-ordered.field-0.0 c.in_err-ordered.ensures (λ i f. call_empty_fails (places_of c.args.tokens.now) (kinds c.args.tokens.now) c.requires.seen c.if-sees.ensures.0 f))

pub calls::read_parenthesised-returns-then-sees : goal.calls::read_parenthesised-returns-then-sees
calls::read_parenthesised-returns-then-sees t c = rw c.new-named.ensures (call_empty_ok (places_of c.args.tokens.now) (kinds c.args.tokens.now) c.requires.seen c.if-sees.ensures.0 c.in_ok-ordered.ensures)

pub calls::read_parenthesised-returns-in_err-arguments : goal.calls::read_parenthesised-returns-in_err-arguments
calls::read_parenthesised-returns-in_err-arguments t c =
    let p = err_from_is_err_and c.from_residual-in_err-arguments.result c.from_residual-in_err-arguments.ensures.1 in
    rw (p.1, p.2) (passed c.in_err-arguments.field-0.0 c.in_err-arguments.ensures (λ i f. call_some_fails (places_of c.args.tokens.now) (kinds c.args.tokens.now) c.requires.seen c.if-sees.ensures f))

pub calls::read_parenthesised-returns-then-not-sees : goal.calls::read_parenthesised-returns-then-not-sees
calls::read_parenthesised-returns-then-not-sees t c = call_open (places_of c.args.tokens.now) (kinds c.args.tokens.now) c.requires.seen c.if-sees.ensures c.in_ok-arguments.ensures c.if-not-sees.ensures

pub calls::read_parenthesised-returns-in_err-closures : goal.calls::read_parenthesised-returns-in_err-closures
calls::read_parenthesised-returns-in_err-closures t c =
    let p = err_from_is_err_and c.from_residual-in_err-closures.result c.from_residual-in_err-closures.ensures.1 in
    rw (p.1, p.2) (passed c.in_err-closures.field-0.0 c.in_err-closures.ensures (λ i f. call_close_fails (places_of c.args.tokens.now) (kinds c.args.tokens.now) c.requires.seen c.if-sees.ensures c.in_ok-arguments.ensures c.if-not-sees.ensures.0 f))

pub calls::read_parenthesised-returns : goal.calls::read_parenthesised-returns
calls::read_parenthesised-returns t c = rw c.in_ok-append.ensures (call_some_ok (places_of c.args.tokens.now) (kinds c.args.tokens.now) c.requires.seen c.if-sees.ensures c.in_ok-arguments.ensures c.if-not-sees.ensures.0 c.in_ok-closures.ensures)

pub calls::read_may_close-returns-then-not-sees : goal.calls::read_may_close-returns-then-not-sees
calls::read_may_close-returns-then-not-sees t c = rw c.new-closures.ensures (no_close_ok (places_of c.args.tokens.now) (kinds c.args.tokens.now) c.if-not-sees.ensures)

pub calls::read_may_close-returns-in_err-closure : goal.calls::read_may_close-returns-in_err-closure
calls::read_may_close-returns-in_err-closure t c =
    let p = err_from_is_err_and c.from_residual.result c.from_residual.ensures.1 in
    rw (p.1, p.2) (passed c.in_err-closure.field-0.0 c.in_err-closure.ensures (λ i f. close_fails (places_of c.args.tokens.now) (kinds c.args.tokens.now) c.if-not-sees.ensures.0 f))

pub calls::read_may_close-returns : goal.calls::read_may_close-returns
calls::read_may_close-returns t c = rw (c.in_ok-push.ensures.ok, c.new-closures.ensures) (close_ok (places_of c.args.tokens.now) (kinds c.args.tokens.now) c.if-not-sees.ensures.0 c.in_ok-closure.ensures)

pub calls::read_arguments-returns-in_err-named : goal.calls::read_arguments-returns-in_err-named
calls::read_arguments-returns-in_err-named t c =
    let p = err_from_is_err_and c.from_residual.result c.from_residual.ensures.1 in
    rw (p.1, p.2) (passed c.in_err-named.field-0.0 c.in_err-named.ensures (λ i f. arguments_named_fails (places_of c.args.tokens.now) (kinds c.args.tokens.now) (cc) f))

pub calls::read_arguments-returns-then-is_named : goal.calls::read_arguments-returns-then-is_named
calls::read_arguments-returns-then-is_named t c = rw c.new-ordered.ensures (arguments_named_ok (places_of c.args.tokens.now) (kinds c.args.tokens.now) (cc) c.in_ok-named.ensures)

pub calls::read_arguments-returns-in_err-ordered : goal.calls::read_arguments-returns-in_err-ordered
calls::read_arguments-returns-in_err-ordered t c =
    let p = err_from_is_err_and c.from_residual-in_err-ordered.result c.from_residual-in_err-ordered.ensures.1 in
    rw (p.1, p.2) (passed c.in_err-ordered.field-0.0 c.in_err-ordered.ensures (λ i f. arguments_ordered_fails (places_of c.args.tokens.now) (kinds c.args.tokens.now) (cc) f))

pub calls::read_arguments-returns : goal.calls::read_arguments-returns
calls::read_arguments-returns t c = rw c.new-named.ensures (arguments_ordered_ok (places_of c.args.tokens.now) (kinds c.args.tokens.now) (cc) c.in_ok-ordered.ensures)

pub calls::read_exprs-exprs-init : goal.calls::read_exprs-exprs-init
calls::read_exprs-exprs-init t c = rw c.new-exprs.ensures (many_start (kinds c.args.tokens.now) c.args.at)

pub calls::read_exprs-returns-in_err-expr : goal.calls::read_exprs-returns-in_err-expr
calls::read_exprs-returns-in_err-expr t c =
    let p = err_from_is_err_and c.from_residual.result c.from_residual.ensures.1 in
    rw (p.1, p.2) (passed c.in_err-expr.field-0.0 c.in_err-expr.ensures (λ i f. separated_fails (exprs_list (places_of c.args.tokens.now)) (kinds c.args.tokens.now) c.exprs.exprs c.exprs.invariant f))

pub calls::read_exprs-returns-then-not-sees : goal.calls::read_exprs-returns-then-not-sees
calls::read_exprs-returns-then-not-sees t c = rw c.in_ok-push.ensures.ok (separated_last (exprs_list (places_of c.args.tokens.now)) (kinds c.args.tokens.now) c.exprs.exprs c.exprs.invariant c.in_ok-expr.ensures c.if-not-sees.ensures)

pub calls::read_exprs-exprs-preserved : goal.calls::read_exprs-exprs-preserved
calls::read_exprs-exprs-preserved t c = rw c.in_ok-push.ensures.ok (separated_next (exprs_list (places_of c.args.tokens.now)) (kinds c.args.tokens.now) c.exprs.exprs c.exprs.invariant c.in_ok-expr.ensures c.if-not-sees.ensures.0)

pub calls::read_named_list-entries-init : goal.calls::read_named_list-entries-init
calls::read_named_list-entries-init t c = rw c.new-entries.ensures (many_start (kinds c.args.tokens.now) c.args.at)

pub calls::read_named_list-returns-in_err-entry : goal.calls::read_named_list-returns-in_err-entry
calls::read_named_list-returns-in_err-entry t c =
    let p = err_from_is_err_and c.from_residual.result c.from_residual.ensures.1 in
    rw (p.1, p.2) (passed c.in_err-entry.field-0.0 c.in_err-entry.ensures (λ i f. separated_fails (named_list (places_of c.args.tokens.now)) (kinds c.args.tokens.now) c.entries.entries c.entries.invariant f))

pub calls::read_named_list-returns-then-not-sees : goal.calls::read_named_list-returns-then-not-sees
calls::read_named_list-returns-then-not-sees t c = rw c.in_ok-push.ensures.ok (separated_last (named_list (places_of c.args.tokens.now)) (kinds c.args.tokens.now) c.entries.entries c.entries.invariant c.in_ok-entry.ensures c.if-not-sees.ensures)

pub calls::read_named_list-entries-preserved : goal.calls::read_named_list-entries-preserved
calls::read_named_list-entries-preserved t c = rw c.in_ok-push.ensures.ok (separated_next (named_list (places_of c.args.tokens.now)) (kinds c.args.tokens.now) c.entries.entries c.entries.invariant c.in_ok-entry.ensures c.if-not-sees.ensures.0)

pub calls::read_named-returns-in_default : goal.calls::read_named-returns-in_default
calls::read_named-returns-in_default t c = named_no_key (places_of c.args.tokens.now) (kinds c.args.tokens.now) c.in_default.ensures

pub calls::read_named-returns-then-not-sees : goal.calls::read_named-returns-then-not-sees
calls::read_named-returns-then-not-sees t c = named_no_colon (places_of c.args.tokens.now) (kinds c.args.tokens.now) c.in-Some.ensures.0 c.if-not-sees.ensures

pub calls::read_named-returns-in_err-value : goal.calls::read_named-returns-in_err-value
calls::read_named-returns-in_err-value t c =
    let p = err_from_is_err_and c.from_residual-in_err-value.result c.from_residual-in_err-value.ensures.1 in
    rw (p.1, p.2) (passed c.in_err-value.field-0.0 c.in_err-value.ensures (λ i f. named_fails (places_of c.args.tokens.now) (kinds c.args.tokens.now) c.in-Some.ensures.0 c.if-not-sees.ensures.0 f))

pub calls::read_named-returns : goal.calls::read_named-returns
calls::read_named-returns t c = named_ok (places_of c.args.tokens.now) (kinds c.args.tokens.now) (key_as c.in-Some.ensures.0 c.in_ok-key.ensures.cases) c.if-not-sees.ensures.0 c.in_ok-value.ensures

pub collections::read_bracket-returns-then-sees : goal.collections::read_bracket-returns-then-sees
collections::read_bracket-returns-then-sees t c = rw c.new.ensures (no_list (places_of c.args.tokens.now) (kinds c.args.tokens.now) c.requires.seen c.if-sees.ensures.0)

pub collections::read_map-returns-in_err-first : goal.collections::read_map-returns-in_err-first
collections::read_map-returns-in_err-first t c =
    let p = err_from_is_err_and c.from_residual.result c.from_residual.ensures.1 in
    rw (p.1, p.2) (passed c.in_err-first.field-0.0 c.in_err-first.ensures (λ i f. entry_fails (places_of c.args.tokens.now) (kinds c.args.tokens.now) c.requires.seen c.requires.keyed f))

pub collections::read_map-returns-in_err-others : goal.collections::read_map-returns-in_err-others
collections::read_map-returns-in_err-others t c =
    let p = err_from_is_err_and c.from_residual-in_err-others.result c.from_residual-in_err-others.ensures.1 in
    rw (p.1, p.2) (passed c.in_err-others.field-0.0 c.in_err-others.ensures (λ i f. entries_fails (places_of c.args.tokens.now) (kinds c.args.tokens.now) c.requires.seen c.requires.keyed c.in_ok-first.ensures f))

pub collections::read_map-returns : goal.collections::read_map-returns
collections::read_map-returns t c = rw c.in_ok-prepended.ensures (map_ok (places_of c.args.tokens.now) (kinds c.args.tokens.now) c.requires.seen c.requires.keyed c.in_ok-first.ensures c.in_ok-others.ensures)

pub collections::read_elements-returns-in_err-first : goal.collections::read_elements-returns-in_err-first
collections::read_elements-returns-in_err-first t c =
    let p = err_from_is_err_and c.from_residual.result c.from_residual.ensures.1 in
    rw (p.1, p.2) (passed c.in_err-first.field-0.0 c.in_err-first.ensures (λ i f. elements_fails (places_of c.args.tokens.now) (kinds c.args.tokens.now) c.requires.seen c.requires.some c.requires.no_colon c.requires.not_keyed f))

pub collections::read_elements-returns-in_err-others : goal.collections::read_elements-returns-in_err-others
collections::read_elements-returns-in_err-others t c =
    let p = err_from_is_err_and c.from_residual-in_err-others.result c.from_residual-in_err-others.ensures.1 in
    rw (p.1, p.2) (passed c.in_err-others.field-0.0 c.in_err-others.ensures (λ i f. list_rest_fails (places_of c.args.tokens.now) (kinds c.args.tokens.now) c.requires.seen c.requires.some c.requires.no_colon c.requires.not_keyed c.in_ok-first.ensures c.if-not-sees.ensures f))

pub collections::read_elements-returns-then-not-sees : goal.collections::read_elements-returns-then-not-sees
collections::read_elements-returns-then-not-sees t c = rw c.in_ok-prepended.ensures (list_ok (places_of c.args.tokens.now) (kinds c.args.tokens.now) c.requires.seen c.requires.some c.requires.no_colon c.requires.not_keyed c.in_ok-first.ensures c.if-not-sees.ensures c.in_ok-others.ensures)

pub collections::read_elements-returns-in_default : goal.collections::read_elements-returns-in_default
collections::read_elements-returns-in_default t c = no_key (places_of c.args.tokens.now) (kinds c.args.tokens.now) c.requires.seen c.requires.some c.requires.no_colon c.requires.not_keyed c.in_ok-first.ensures c.if-not-sees.ensures.0 c.in_default.ensures

pub collections::read_elements-returns-in_err-value : goal.collections::read_elements-returns-in_err-value
collections::read_elements-returns-in_err-value t c =
    let p = err_from_is_err_and c.from_residual-in_err-value.result c.from_residual-in_err-value.ensures.1 in
    rw (p.1, p.2) (passed c.in_err-value.field-0.0 c.in_err-value.ensures (λ i f. key_fails (places_of c.args.tokens.now) (kinds c.args.tokens.now) c.requires.seen c.requires.some c.requires.no_colon c.requires.not_keyed c.in_ok-first.ensures c.if-not-sees.ensures.0 c.in-Some.ensures f))

pub collections::read_elements-returns-in_err-others-2 : goal.collections::read_elements-returns-in_err-others-2
collections::read_elements-returns-in_err-others-2 t c =
    let p = err_from_is_err_and c.from_residual-in_err-others-2.result c.from_residual-in_err-others-2.ensures.1 in
    rw (p.1, p.2) (passed c.in_err-others-2.field-0.0 c.in_err-others-2.ensures (λ i f. map_rest_fails (places_of c.args.tokens.now) (kinds c.args.tokens.now) c.requires.seen c.requires.some c.requires.no_colon c.requires.not_keyed c.in_ok-first.ensures c.if-not-sees.ensures.0 c.in-Some.ensures c.in_ok-value.ensures f))

pub collections::read_elements-returns : goal.collections::read_elements-returns
collections::read_elements-returns t c = rw c.in_ok-prepended-2.ensures (computed_map_ok (places_of c.args.tokens.now) (kinds c.args.tokens.now) c.requires.seen c.requires.some c.requires.no_colon c.requires.not_keyed c.in_ok-first.ensures c.if-not-sees.ensures.0 c.in-Some.ensures c.in_ok-value.ensures c.in_ok-others-2.ensures)

pub collections::read_list_rest-elements-init : goal.collections::read_list_rest-elements-init
collections::read_list_rest-elements-init t c = rw c.new-exprs.ensures (many_start (kinds c.args.tokens.now) c.args.at)

pub collections::read_list_rest-returns-then-sees : goal.collections::read_list_rest-returns-then-sees
collections::read_list_rest-returns-then-sees t c = rest_closed (expr_no_close (places_of c.args.tokens.now)) (kinds c.args.tokens.now) c.elements.exprs c.elements.invariant c.elements-test.ensures.0 c.if-sees.ensures.0

pub collections::read_list_rest-returns-in_err-expr : goal.collections::read_list_rest-returns-in_err-expr
collections::read_list_rest-returns-in_err-expr t c =
    let p = err_from_is_err_and c.from_residual.result c.from_residual.ensures.1 in
    rw (p.1, p.2) (passed c.in_err-expr.field-0.0 c.in_err-expr.ensures (λ i f. rest_fails (expr_no_close (places_of c.args.tokens.now)) (kinds c.args.tokens.now) c.elements.exprs c.elements.invariant c.elements-test.ensures.0 c.if-sees.ensures f))

pub collections::read_list_rest-elements-preserved : goal.collections::read_list_rest-elements-preserved
collections::read_list_rest-elements-preserved t c = rw c.in_ok-push.ensures.ok (rest_next (expr_no_close (places_of c.args.tokens.now)) (kinds c.args.tokens.now) c.elements.exprs c.elements.invariant c.elements-test.ensures.0 c.if-sees.ensures c.in_ok-expr.ensures)

pub collections::read_list_rest-returns-then-not-sees : goal.collections::read_list_rest-returns-then-not-sees
collections::read_list_rest-returns-then-not-sees t c = rest_bad (expr_no_close (places_of c.args.tokens.now)) (kinds c.args.tokens.now) c.elements.exprs c.elements.invariant c.elements-test.ensures c.if-not-sees.ensures

pub collections::read_list_rest-returns : goal.collections::read_list_rest-returns
collections::read_list_rest-returns t c = rest_done (expr_no_close (places_of c.args.tokens.now)) (kinds c.args.tokens.now) c.elements.exprs c.elements.invariant c.if-not-sees.ensures.0

pub collections::read_map_rest-entries-init : goal.collections::read_map_rest-entries-init
collections::read_map_rest-entries-init t c = rw c.new-entries.ensures (many_start (kinds c.args.tokens.now) c.args.at)

pub collections::read_map_rest-returns-then-sees : goal.collections::read_map_rest-returns-then-sees
collections::read_map_rest-returns-then-sees t c = rest_closed (entry_no_close (places_of c.args.tokens.now)) (kinds c.args.tokens.now) c.entries.entries c.entries.invariant c.entries-test.ensures.0 c.if-sees.ensures.0

pub collections::read_map_rest-returns-in_err-entry : goal.collections::read_map_rest-returns-in_err-entry
collections::read_map_rest-returns-in_err-entry t c =
    let p = err_from_is_err_and c.from_residual.result c.from_residual.ensures.1 in
    rw (p.1, p.2) (passed c.in_err-entry.field-0.0 c.in_err-entry.ensures (λ i f. rest_fails (entry_no_close (places_of c.args.tokens.now)) (kinds c.args.tokens.now) c.entries.entries c.entries.invariant c.entries-test.ensures.0 c.if-sees.ensures f))

pub collections::read_map_rest-entries-preserved : goal.collections::read_map_rest-entries-preserved
collections::read_map_rest-entries-preserved t c = rw c.in_ok-push.ensures.ok (rest_next (entry_no_close (places_of c.args.tokens.now)) (kinds c.args.tokens.now) c.entries.entries c.entries.invariant c.entries-test.ensures.0 c.if-sees.ensures c.in_ok-entry.ensures)

pub collections::read_map_rest-returns-then-not-sees : goal.collections::read_map_rest-returns-then-not-sees
collections::read_map_rest-returns-then-not-sees t c = rest_bad (entry_no_close (places_of c.args.tokens.now)) (kinds c.args.tokens.now) c.entries.entries c.entries.invariant c.entries-test.ensures c.if-not-sees.ensures

pub collections::read_map_rest-returns : goal.collections::read_map_rest-returns
collections::read_map_rest-returns t c = rest_done (entry_no_close (places_of c.args.tokens.now)) (kinds c.args.tokens.now) c.entries.entries c.entries.invariant c.if-not-sees.ensures.0

pub gstring::read_gstring-returns-then-not-opens_text : goal.gstring::read_gstring-returns-then-not-opens_text
gstring::read_gstring-returns-then-not-opens_text t c = text_none (places_of c.args.tokens.now) (kinds c.args.tokens.now) c.if-not-opens_text.ensures

pub gstring::read_gstring-returns-in_err-parts : goal.gstring::read_gstring-returns-in_err-parts
gstring::read_gstring-returns-in_err-parts t c =
    let p = err_from_is_err_and c.from_residual.result c.from_residual.ensures.1 in
    rw (p.1, p.2) (passed c.in_err-parts.field-0.0 c.in_err-parts.ensures (λ i f. text_parts_fails (places_of c.args.tokens.now) (kinds c.args.tokens.now) c.if-not-opens_text.ensures.0 f))

pub gstring::read_gstring-returns-then-not-closes_text : goal.gstring::read_gstring-returns-then-not-closes_text
gstring::read_gstring-returns-then-not-closes_text t c = text_open (places_of c.args.tokens.now) (kinds c.args.tokens.now) c.if-not-opens_text.ensures.0 c.in_ok-parts.ensures c.if-not-closes_text.ensures

pub gstring::read_gstring-returns : goal.gstring::read_gstring-returns
gstring::read_gstring-returns t c = text_closed (places_of c.args.tokens.now) (kinds c.args.tokens.now) c.if-not-opens_text.ensures.0 c.in_ok-parts.ensures c.if-not-closes_text.ensures.0

pub gstring::read_parts-parts-init : goal.gstring::read_parts-parts-init
gstring::read_parts-parts-init t c = rw c.new-parts.ensures (parts_start (places_of c.args.tokens.now) (kinds c.args.tokens.now) c.args.at)

pub gstring::read_parts-returns-in_err-part : goal.gstring::read_parts-returns-in_err-part
gstring::read_parts-returns-in_err-part t c =
    let p = err_from_is_err_and c.from_residual.result c.from_residual.ensures.1 in
    rw (p.1, p.2) (passed c.in_err-part.field-0.0 c.in_err-part.ensures (λ i f. more_fails (part_many (places_of c.args.tokens.now)) (kinds c.args.tokens.now) (λ z. z) c.parts.parts c.parts.invariant (cc) f))

pub gstring::read_parts-parts-preserved : goal.gstring::read_parts-parts-preserved
gstring::read_parts-parts-preserved t c = rw c.in_ok-push.ensures.ok (more_read (part_many (places_of c.args.tokens.now)) (kinds c.args.tokens.now) (λ z. z) c.parts.parts c.parts.invariant (cc) c.in_ok-part.ensures)

pub gstring::read_parts-returns : goal.gstring::read_parts-returns
gstring::read_parts-returns t c = all_read (part_many (places_of c.args.tokens.now)) (kinds c.args.tokens.now) (λ z. z) c.parts.parts c.parts.invariant (λ e. false≢true (cc))

pub gstring::read_parts-parts-smaller : goal.gstring::read_parts-parts-smaller
gstring::read_parts-parts-smaller t c =
    let le = part_longer (places_of c.args.tokens.now) (kinds c.args.tokens.now) c.in_ok-part.ensures in
    let lt = c.begins_part.ensures.within c.parts-test.true in
    omega arith

pub gstring::read_part-returns-in_default : goal.gstring::read_part-returns-in_default
gstring::read_part-returns-in_default t c = no_part_end (places_of c.args.tokens.now) (kinds c.args.tokens.now) (sym c.in_default.ensures.value)

pub gstring::read_part-returns-in_default-kind : goal.gstring::read_part-returns-in_default-kind
gstring::read_part-returns-in_default-kind t c = no_part_kind (places_of c.args.tokens.now) (kinds c.args.tokens.now) (search rules) c.in_default-kind.not-GStringPart c.in_default-kind.not-ExpressionOpen c.in_default-kind.not-PathOpen

pub gstring::read_part-returns-in_ok-clone-in-GStringPart : goal.gstring::read_part-returns-in_ok-clone-in-GStringPart
gstring::read_part-returns-in_ok-clone-in-GStringPart t c = plain_ok (places_of c.args.tokens.now) (kinds c.args.tokens.now) (part_as (search rules) c.in_ok-clone-in-GStringPart.ensures.cases)

pub gstring::read_braces-returns-in_err-inner : goal.gstring::read_braces-returns-in_err-inner
gstring::read_braces-returns-in_err-inner t c =
    let p = err_from_is_err_and c.from_residual.result c.from_residual.ensures.1 in
    rw (p.1, p.2) (passed c.in_err-inner.field-0.0 c.in_err-inner.ensures (λ i f. braces_fails (places_of c.args.tokens.now) (kinds c.args.tokens.now) c.requires.seen f))

pub gstring::read_braces-returns-then-not-sees : goal.gstring::read_braces-returns-then-not-sees
gstring::read_braces-returns-then-not-sees t c = braces_open (places_of c.args.tokens.now) (kinds c.args.tokens.now) c.requires.seen c.in_ok-inner.ensures c.if-not-sees.ensures

pub gstring::read_braces-returns : goal.gstring::read_braces-returns
gstring::read_braces-returns t c = braces_ok (places_of c.args.tokens.now) (kinds c.args.tokens.now) c.requires.seen c.in_ok-inner.ensures c.if-not-sees.ensures.0

pub collections::read_entry-returns : goal.collections::read_entry-returns
collections::read_entry-returns t c = plain_answer (places_of c.args.tokens.now) (kinds c.args.tokens.now) c.if-sees.ensures c.if-opens_text.ensures c.in_default.ensures c.read_named.result c.read_named.ensures

pub collections::read_numbered-returns-then-not-sees : goal.collections::read_numbered-returns-then-not-sees
collections::read_numbered-returns-then-not-sees t c = numbered_no_colon (places_of c.args.tokens.now) (kinds c.args.tokens.now) c.requires.seen c.if-not-sees.ensures

pub collections::read_numbered-returns-in_err-value : goal.collections::read_numbered-returns-in_err-value
collections::read_numbered-returns-in_err-value t c =
    let p = err_from_is_err_and c.from_residual.result c.from_residual.ensures.1 in
    rw (p.1, p.2) (passed c.in_err-value.field-0.0 c.in_err-value.ensures (λ i f. numbered_fails (places_of c.args.tokens.now) (kinds c.args.tokens.now) c.requires.seen c.if-not-sees.ensures.0 f))

pub collections::read_numbered-returns : goal.collections::read_numbered-returns
collections::read_numbered-returns t c = numbered_ok (places_of c.args.tokens.now) (kinds c.args.tokens.now) (number_as c.requires.seen (to_z-of_z w32 c.args.number c.ranges.number)) c.if-not-sees.ensures.0 c.in_ok-value.ensures

pub collections::read_text_entry-returns-in_err-parts : goal.collections::read_text_entry-returns-in_err-parts
collections::read_text_entry-returns-in_err-parts t c =
    let p = err_from_is_err_and c.from_residual.result c.from_residual.ensures.1 in
    rw (p.1, p.2) (passed c.in_err-parts.field-0.0 c.in_err-parts.ensures (λ i f. text_key_fails (places_of c.args.tokens.now) (kinds c.args.tokens.now) c.requires.seen f))

pub collections::read_text_entry-returns-then-not-sees : goal.collections::read_text_entry-returns-then-not-sees
collections::read_text_entry-returns-then-not-sees t c = text_key_no_colon (places_of c.args.tokens.now) (kinds c.args.tokens.now) c.requires.seen c.in_ok-parts.ensures c.if-not-sees.ensures

pub collections::read_text_entry-returns-in_err-value : goal.collections::read_text_entry-returns-in_err-value
collections::read_text_entry-returns-in_err-value t c =
    let p = err_from_is_err_and c.from_residual-in_err-value.result c.from_residual-in_err-value.ensures.1 in
    rw (p.1, p.2) (passed c.in_err-value.field-0.0 c.in_err-value.ensures (λ i f. text_value_fails (places_of c.args.tokens.now) (kinds c.args.tokens.now) c.requires.seen c.in_ok-parts.ensures c.if-not-sees.ensures.0 f))

pub collections::read_text_entry-returns : goal.collections::read_text_entry-returns
collections::read_text_entry-returns t c = text_value_ok (places_of c.args.tokens.now) (kinds c.args.tokens.now) c.requires.seen c.in_ok-parts.ensures c.if-not-sees.ensures.0 c.in_ok-value.ensures

pub collections::read_computed-returns-in_err-key : goal.collections::read_computed-returns-in_err-key
collections::read_computed-returns-in_err-key t c =
    let p = err_from_is_err_and c.from_residual.result c.from_residual.ensures.1 in
    rw (p.1, p.2) (passed c.in_err-key.field-0.0 c.in_err-key.ensures (λ i f. group_key_fails (places_of c.args.tokens.now) (kinds c.args.tokens.now) c.requires.seen f))

pub collections::read_computed-returns-then-not-sees : goal.collections::read_computed-returns-then-not-sees
collections::read_computed-returns-then-not-sees t c = group_key_open (places_of c.args.tokens.now) (kinds c.args.tokens.now) c.requires.seen c.in_ok-key.ensures c.if-not-sees.ensures

pub collections::read_computed-returns-then-not-sees-2 : goal.collections::read_computed-returns-then-not-sees-2
collections::read_computed-returns-then-not-sees-2 t c = group_key_no_colon (places_of c.args.tokens.now) (kinds c.args.tokens.now) c.requires.seen c.in_ok-key.ensures c.if-not-sees.ensures.0 c.if-not-sees-2.ensures

pub collections::read_computed-returns-in_err-value : goal.collections::read_computed-returns-in_err-value
collections::read_computed-returns-in_err-value t c =
    let p = err_from_is_err_and c.from_residual-in_err-value.result c.from_residual-in_err-value.ensures.1 in
    rw (p.1, p.2) (passed c.in_err-value.field-0.0 c.in_err-value.ensures (λ i f. group_value_fails (places_of c.args.tokens.now) (kinds c.args.tokens.now) c.requires.seen c.in_ok-key.ensures c.if-not-sees.ensures.0 c.if-not-sees-2.ensures.0 f))

pub collections::read_computed-returns : goal.collections::read_computed-returns
collections::read_computed-returns t c = group_value_ok (places_of c.args.tokens.now) (kinds c.args.tokens.now) c.requires.seen c.in_ok-key.ensures c.if-not-sees.ensures.0 c.if-not-sees-2.ensures.0 c.in_ok-value.ensures

pub closure::read_closure-returns-then-not-sees : goal.closure::read_closure-returns-then-not-sees
closure::read_closure-returns-then-not-sees t c = no_closure (places_of c.args.tokens.now) (kinds c.args.tokens.now) c.if-not-sees.ensures

pub closure::read_closure-returns-in_err-body : goal.closure::read_closure-returns-in_err-body
closure::read_closure-returns-in_err-body t c =
    let p = err_from_is_err_and c.from_residual.result c.from_residual.ensures.1 in
    rw (p.1, p.2) (passed c.in_err-body.field-0.0 c.in_err-body.ensures (λ i f. headless_fails (places_of c.args.tokens.now) (kinds c.args.tokens.now) c.if-not-sees.ensures.0 (cc) f))

pub closure::read_closure-returns-then-not-sees-2 : goal.closure::read_closure-returns-then-not-sees-2
closure::read_closure-returns-then-not-sees-2 t c = headless_open (places_of c.args.tokens.now) (kinds c.args.tokens.now) c.if-not-sees.ensures.0 (cc) c.in_ok-body.ensures c.if-not-sees-2.ensures

pub closure::read_closure-returns : goal.closure::read_closure-returns
closure::read_closure-returns t c = headless_ok (places_of c.args.tokens.now) (kinds c.args.tokens.now) c.if-not-sees.ensures.0 (cc) c.in_ok-body.ensures c.if-not-sees-2.ensures.0

pub closure::read_headed-returns-in_err-parameters : goal.closure::read_headed-returns-in_err-parameters
closure::read_headed-returns-in_err-parameters t c =
    let p = err_from_is_err_and c.from_residual.result c.from_residual.ensures.1 in
    rw (p.1, p.2) (passed c.in_err-parameters.field-0.0 c.in_err-parameters.ensures (λ i f. headed_fails (places_of c.args.tokens.now) (kinds c.args.tokens.now) c.requires.seen c.requires.headed f))

pub closure::read_headed-returns-in_err-body : goal.closure::read_headed-returns-in_err-body
closure::read_headed-returns-in_err-body t c =
    let p = err_from_is_err_and c.from_residual-in_err-body.result c.from_residual-in_err-body.ensures.1 in
    rw (p.1, p.2) (passed c.in_err-body.field-0.0 c.in_err-body.ensures (λ i f. headed_stmts_fails (places_of c.args.tokens.now) (kinds c.args.tokens.now) c.requires.seen c.requires.headed c.in_ok-parameters.ensures f))

pub closure::read_headed-returns-then-not-sees : goal.closure::read_headed-returns-then-not-sees
closure::read_headed-returns-then-not-sees t c = headed_open (places_of c.args.tokens.now) (kinds c.args.tokens.now) c.requires.seen c.requires.headed c.in_ok-parameters.ensures c.in_ok-body.ensures c.if-not-sees.ensures

pub closure::read_headed-returns : goal.closure::read_headed-returns
closure::read_headed-returns t c = headed_ok (places_of c.args.tokens.now) (kinds c.args.tokens.now) c.requires.seen c.requires.headed c.in_ok-parameters.ensures c.in_ok-body.ensures c.if-not-sees.ensures.0

pub block::read_body-returns-then-sees : goal.block::read_body-returns-then-sees
block::read_body-returns-then-sees t c = handed c.read_block.result c.read_block.ensures (λ x n e. body_block_ok (kinds c.args.tokens.now) (places_of c.args.tokens.now) c.if-sees.ensures.0 e) (λ i f. body_block_fails (kinds c.args.tokens.now) (places_of c.args.tokens.now) c.if-sees.ensures.0 f)

pub block::read_body-returns-in_err-only : goal.block::read_body-returns-in_err-only
block::read_body-returns-in_err-only t c =
    let p = err_from_is_err_and c.from_residual.result c.from_residual.ensures.1 in
    rw (p.1, p.2) (passed c.in_err-only.field-0.0 c.in_err-only.ensures (λ i f. body_simple_fails (kinds c.args.tokens.now) (places_of c.args.tokens.now) c.if-sees.ensures f))

pub block::read_body-returns : goal.block::read_body-returns
block::read_body-returns t c = rw (c.in_ok-push.ensures.ok, c.new-all.ensures) (body_simple_ok (kinds c.args.tokens.now) (places_of c.args.tokens.now) c.if-sees.ensures c.in_ok-only.ensures)

pub block::read_block-returns-then-not-sees : goal.block::read_block-returns-then-not-sees
block::read_block-returns-then-not-sees t c = block_none (kinds c.args.tokens.now) (places_of c.args.tokens.now) c.if-not-sees.ensures

pub block::read_block-returns-in_err-all : goal.block::read_block-returns-in_err-all
block::read_block-returns-in_err-all t c =
    let p = err_from_is_err_and c.from_residual.result c.from_residual.ensures.1 in
    rw (p.1, p.2) (passed c.in_err-all.field-0.0 c.in_err-all.ensures (λ i f. block_fails (kinds c.args.tokens.now) (places_of c.args.tokens.now) c.if-not-sees.ensures.0 f))

pub block::read_block-returns-then-not-sees-2 : goal.block::read_block-returns-then-not-sees-2
block::read_block-returns-then-not-sees-2 t c = block_open (kinds c.args.tokens.now) (places_of c.args.tokens.now) c.if-not-sees.ensures.0 c.in_ok-all.ensures c.if-not-sees-2.ensures

pub block::read_block-returns : goal.block::read_block-returns
block::read_block-returns t c = block_ok (kinds c.args.tokens.now) (places_of c.args.tokens.now) c.if-not-sees.ensures.0 c.in_ok-all.ensures c.if-not-sees-2.ensures.0

pub block::read_stmts-returns-then-ends_block : goal.block::read_stmts-returns-then-ends_block
block::read_stmts-returns-then-ends_block t c = rw c.new-all.ensures (stmts_empty (kinds c.args.tokens.now) (places_of c.args.tokens.now) c.skip_separators-start.ensures (sym c.ends_block.ensures ∙ c.if-ends_block.true))

pub block::read_stmts-returns-in_err-first : goal.block::read_stmts-returns-in_err-first
block::read_stmts-returns-in_err-first t c =
    let p = err_from_is_err_and c.from_residual.result c.from_residual.ensures.1 in
    rw (p.1, p.2) (passed c.in_err-first.field-0.0 c.in_err-first.ensures (λ i f. stmts_fails (kinds c.args.tokens.now) (places_of c.args.tokens.now) c.skip_separators-start.ensures (sym c.ends_block.ensures ∙ c.if-ends_block.false) f))

pub block::read_stmts-rest-init : goal.block::read_stmts-rest-init
block::read_stmts-rest-init t c = (rw (c.in_ok-push.ensures.ok, c.new-all.ensures) (stmts_first (kinds c.args.tokens.now) (places_of c.args.tokens.now) c.skip_separators-start.ensures (sym c.ends_block.ensures ∙ c.if-ends_block.false) c.in_ok-first.ensures), c.skip_separators-from.ensures)

pub block::read_stmts-returns-in_err-stmt : goal.block::read_stmts-returns-in_err-stmt
block::read_stmts-returns-in_err-stmt t c =
    let p = err_from_is_err_and c.from_residual-in_err-stmt.result c.from_residual-in_err-stmt.ensures.1 in
    rw (p.1, p.2) (passed c.in_err-stmt.field-0.0 c.in_err-stmt.ensures (λ i f. stmts_fails_later (kinds c.args.tokens.now) (places_of c.args.tokens.now) c.rest.all c.rest.invariant.0 c.rest.invariant.1 c.rest-test.ensures.0 c.rest-test.ensures.1 f))

pub block::read_stmts-rest-preserved : goal.block::read_stmts-rest-preserved
block::read_stmts-rest-preserved t c = (rw c.in_ok-push-2.ensures.ok (stmts_step (kinds c.args.tokens.now) (places_of c.args.tokens.now) c.rest.all c.rest.invariant.0 c.rest.invariant.1 c.rest-test.ensures.0 c.rest-test.ensures.1 c.in_ok-stmt.ensures), c.skip_separators-from-in-rest.ensures)

pub block::read_stmts-rest-smaller : goal.block::read_stmts-rest-smaller
block::read_stmts-rest-smaller t c =
    let r = rest_goes_on c.args.tokens.now c.rest.invariant.1 c.rest-test.ensures.0 c.in_ok-stmt.ensures.after in
    let lt = r.0 in
    let inside = r.1 in
    omega arith

pub block::read_stmts-returns : goal.block::read_stmts-returns
block::read_stmts-returns t c = stmts_last (kinds c.args.tokens.now) (places_of c.args.tokens.now) c.rest.all c.rest.invariant.0 c.rest.invariant.1 c.rest-test.ensures

pub block::read_stmt-returns : goal.block::read_stmt-returns
block::read_stmt-returns t c = let h = blockless_token (kinds c.args.tokens.now) c.if-sees_word.ensures c.if-sees_word-2.ensures c.if-sees_word-3.ensures c.if-sees_word-4.ensures in handed c.read_simple.result c.read_simple.ensures (λ x n e. stmt_simple_ok (kinds c.args.tokens.now) (places_of c.args.tokens.now) h e) (λ i f. stmt_simple_fails (kinds c.args.tokens.now) (places_of c.args.tokens.now) h f)

pub branches::read_if-returns-in_err-first : goal.branches::read_if-returns-in_err-first
branches::read_if-returns-in_err-first t c =
    let p = err_from_is_err_and c.from_residual.result c.from_residual.ensures.1 in
    rw (p.1, p.2) (passed c.in_err-first.field-0.0 c.in_err-first.ensures (λ i f. if_fails (kinds c.args.tokens.now) (places_of c.args.tokens.now) c.requires f))

pub branches::read_if-arms-init : goal.branches::read_if-arms-init
branches::read_if-arms-init t c = rw (c.in_ok-push.ensures.ok, c.new-arms.ensures) (if_first (kinds c.args.tokens.now) (places_of c.args.tokens.now) c.requires c.in_ok-first.ensures)

pub branches::read_if-arms-preserved : goal.branches::read_if-arms-preserved
branches::read_if-arms-preserved t c = rw c.in_ok-push-2.ensures.ok (if_step (kinds c.args.tokens.now) (places_of c.args.tokens.now) c.arms.arms c.arms.invariant c.arms-test.ensures.0 c.in_ok-arm.ensures)

pub branches::read_if-returns-in_err-arm : goal.branches::read_if-returns-in_err-arm
branches::read_if-returns-in_err-arm t c =
    let p = err_from_is_err_and c.from_residual-in_err-arm.result c.from_residual-in_err-arm.ensures.1 in
    rw (p.1, p.2) (passed c.in_err-arm.field-0.0 c.in_err-arm.ensures (λ i f. if_arm_fails (kinds c.args.tokens.now) (places_of c.args.tokens.now) c.arms.arms c.arms.invariant c.arms-test.ensures.0 f))

pub branches::read_if-returns-then-not-sees_word : goal.branches::read_if-returns-then-not-sees_word
branches::read_if-returns-then-not-sees_word t c = if_none (kinds c.args.tokens.now) (places_of c.args.tokens.now) c.arms.arms c.arms.invariant c.if-not-sees_word.ensures

pub branches::read_if-returns-in_err-other : goal.branches::read_if-returns-in_err-other
branches::read_if-returns-in_err-other t c =
    let p = err_from_is_err_and c.from_residual-in_err-other.result c.from_residual-in_err-other.ensures.1 in
    rw (p.1, p.2) (passed c.in_err-other.field-0.0 c.in_err-other.ensures (λ i f. if_else_fails (kinds c.args.tokens.now) (places_of c.args.tokens.now) c.arms.arms c.arms.invariant c.if-not-sees_word.ensures.0 (λ w. c.arms-test.ensures (c.if-not-sees_word.ensures.0, w)) c.skip_newline.ensures f))

pub branches::read_if-returns : goal.branches::read_if-returns
branches::read_if-returns t c = if_else_ok (kinds c.args.tokens.now) (places_of c.args.tokens.now) c.arms.arms c.arms.invariant c.if-not-sees_word.ensures.0 (λ w. c.arms-test.ensures (c.if-not-sees_word.ensures.0, w)) c.skip_newline.ensures c.in_ok-other.ensures

pub branches::read_arm-returns-then-not-sees_word : goal.branches::read_arm-returns-then-not-sees_word
branches::read_arm-returns-then-not-sees_word t c = arm_none (kinds c.args.tokens.now) (places_of c.args.tokens.now) (fill_guarded (places_of c.args.tokens.now)) c.if-not-sees_word.ensures

pub branches::read_arm-returns : goal.branches::read_arm-returns
branches::read_arm-returns t c = handed c.read_guarded.result c.read_guarded.ensures (λ x n e. arm_ok (kinds c.args.tokens.now) (places_of c.args.tokens.now) c.if-not-sees_word.ensures.0 e) (λ i f. arm_fails (kinds c.args.tokens.now) (places_of c.args.tokens.now) c.if-not-sees_word.ensures.0 f)

pub branches::read_guarded-returns-then-not-sees : goal.branches::read_guarded-returns-then-not-sees
branches::read_guarded-returns-then-not-sees t c = guarded_none (kinds c.args.tokens.now) (places_of c.args.tokens.now) c.if-not-sees.ensures

pub branches::read_guarded-returns-in_err-test : goal.branches::read_guarded-returns-in_err-test
branches::read_guarded-returns-in_err-test t c =
    let p = err_from_is_err_and c.from_residual.result c.from_residual.ensures.1 in
    rw (p.1, p.2) (passed c.in_err-test.field-0.0 c.in_err-test.ensures (λ i f. guarded_fails (kinds c.args.tokens.now) (places_of c.args.tokens.now) c.if-not-sees.ensures.0 f))

pub branches::read_guarded-returns-in_err-body : goal.branches::read_guarded-returns-in_err-body
branches::read_guarded-returns-in_err-body t c =
    let p = err_from_is_err_and c.from_residual-in_err-body.result c.from_residual-in_err-body.ensures.1 in
    rw (p.1, p.2) (passed c.in_err-body.field-0.0 c.in_err-body.ensures (λ i f. guarded_bad (kinds c.args.tokens.now) (places_of c.args.tokens.now) c.if-not-sees.ensures.0 c.in_ok-test.ensures f))

pub branches::read_guarded-returns : goal.branches::read_guarded-returns
branches::read_guarded-returns t c = guarded_ok (kinds c.args.tokens.now) (places_of c.args.tokens.now) c.if-not-sees.ensures.0 c.in_ok-test.ensures c.in_ok-body.ensures

pub branches::read_behind_head-returns-then-not-sees : goal.branches::read_behind_head-returns-then-not-sees
branches::read_behind_head-returns-then-not-sees t c = behind_none (kinds c.args.tokens.now) (places_of c.args.tokens.now) c.if-not-sees.ensures

pub branches::read_behind_head-returns : goal.branches::read_behind_head-returns
branches::read_behind_head-returns t c = handed c.read_body.result c.read_body.ensures (λ x n e. behind_ok (kinds c.args.tokens.now) (places_of c.args.tokens.now) c.if-not-sees.ensures.0 c.skip_newline.ensures e) (λ i f. behind_fails (kinds c.args.tokens.now) (places_of c.args.tokens.now) c.if-not-sees.ensures.0 c.skip_newline.ensures f)

pub simple::read_whole-returns-then-is_typed : goal.simple::read_whole-returns-then-is_typed
simple::read_whole-returns-then-is_typed t c = let t = c.if-is_typed.ensures in whole_typed (kinds c.args.tokens.now) (places_of c.args.tokens.now) (name_is _ t.type).1 (name_is _ t.name).1 (assign_is _ t.sign)

pub simple::read_whole-returns : goal.simple::read_whole-returns
simple::read_whole-returns t c = handed c.read_expr.result c.read_expr.ensures (λ x n e. whole_expr_ok (kinds c.args.tokens.now) (places_of c.args.tokens.now) (plain_is (kinds c.args.tokens.now) (sym c.is_call.ensures ∙ c.if-is_call.false) c.if-is_typed.ensures) e) (λ i f. whole_expr_fails (kinds c.args.tokens.now) (places_of c.args.tokens.now) (plain_is (kinds c.args.tokens.now) (sym c.is_call.ensures ∙ c.if-is_call.false) c.if-is_typed.ensures) f)

pub simple::read_command-returns-in_default : goal.simple::read_command-returns-in_default
simple::read_command-returns-in_default t c = absurd (c.in_default.ensures _ (name_is _ (call_says _ _ _ c.requires).0).1)

pub simple::read_command-returns-in_err-arguments : goal.simple::read_command-returns-in_err-arguments
simple::read_command-returns-in_err-arguments t c =
    let p = err_from_is_err_and c.from_residual-in_err-arguments.result c.from_residual-in_err-arguments.ensures.1 in
    rw (p.1, p.2) (passed c.in_err-arguments.field-0.0 c.in_err-arguments.ensures (λ i f. whole_call_fails (kinds c.args.tokens.now) (places_of c.args.tokens.now) c.in-Some.ensures.0 c.requires f))

pub simple::read_command-returns : goal.simple::read_command-returns
simple::read_command-returns t c =
    let n : kinds c.args.tokens.now c.args.at ≡ Some (kind.Name c.in_ok-name.name) = c.in-Some.ensures.0 ∙ ap (λ u. Some (kind.Name u)) (sym c.in_ok-name.ensures.cases) in
    whole_call_ok (kinds c.args.tokens.now) (places_of c.args.tokens.now) n c.requires c.in_ok-arguments.ensures

pub simple::read_simple-returns-then-sees_word-3 : goal.simple::read_simple-returns-then-sees_word-3
simple::read_simple-returns-then-sees_word-3 t c = rw c.place_at.ensures (break_ok (kinds c.args.tokens.now) (places_of c.args.tokens.now) c.if-sees_word-3.ensures.0)

pub simple::read_simple-returns-then-sees_word-4 : goal.simple::read_simple-returns-then-sees_word-4
simple::read_simple-returns-then-sees_word-4 t c = rw c.place_at-then-sees_word-4.ensures (continue_ok (kinds c.args.tokens.now) (places_of c.args.tokens.now) c.if-sees_word-4.ensures.0)

pub simple::read_simple-read_other-requires : goal.simple::read_simple-read_other-requires
simple::read_simple-read_other-requires t c = (search rules, open_words (kinds c.args.tokens.now) c.if-sees_word.ensures c.if-sees_word-2.ensures c.if-sees_word-3.ensures c.if-sees_word-4.ensures c.if-sees_word-5.ensures)

pub simple::read_def-returns-in_default : goal.simple::read_def-returns-in_default
simple::read_def-returns-in_default t c = let h = rw c.in_default.is at c.in_ok-name.ensures in def_no_name (kinds c.args.tokens.now) (places_of c.args.tokens.now) c.requires.seen h

pub simple::read_def-returns-then-not-sees : goal.simple::read_def-returns-then-not-sees
simple::read_def-returns-then-not-sees t c =
    let h = rw c.in-Some.is at c.in_ok-name.ensures in
    rw h.2 (def_alone (kinds c.args.tokens.now) (places_of c.args.tokens.now) c.requires.seen h.1 c.if-not-sees.ensures)

pub simple::read_def-returns-in_err-value : goal.simple::read_def-returns-in_err-value
simple::read_def-returns-in_err-value t c =
    let h = rw c.in-Some.is at c.in_ok-name.ensures in
    let p = err_from_is_err_and c.from_residual-in_err-value.result c.from_residual-in_err-value.ensures.1 in
    rw (p.1, p.2) (passed c.in_err-value.field-0.0 c.in_err-value.ensures (λ i f. def_fails (kinds c.args.tokens.now) (places_of c.args.tokens.now) c.requires.seen h.1 c.if-not-sees.ensures.0 f))

pub simple::read_def-returns : goal.simple::read_def-returns
simple::read_def-returns t c =
    let h = rw c.in-Some.is at c.in_ok-name.ensures in
    rw h.2 (def_ok (kinds c.args.tokens.now) (places_of c.args.tokens.now) c.requires.seen h.1 c.if-not-sees.ensures.0 c.in_ok-value.ensures)

pub simple::read_typed-returns-in_default : goal.simple::read_typed-returns-in_default
simple::read_typed-returns-in_default t c = let h = rw c.in_default.is at c.in_ok-name.ensures in absurd (h _ (name_is _ c.requires.name).1)

pub simple::read_typed-returns-in_err-value : goal.simple::read_typed-returns-in_err-value
simple::read_typed-returns-in_err-value t c =
    let h = rw c.in-Some.is at c.in_ok-name.ensures in
    let p = err_from_is_err_and c.from_residual-in_err-value.result c.from_residual-in_err-value.ensures.1 in
    rw (p.1, p.2) (passed c.in_err-value.field-0.0 c.in_err-value.ensures (λ i f. typed_fails (kinds c.args.tokens.now) (places_of c.args.tokens.now) (name_is _ c.requires.type).1 h.1 (assign_is _ c.requires.sign) f))

pub simple::read_typed-returns : goal.simple::read_typed-returns
simple::read_typed-returns t c =
    let h = rw c.in-Some.is at c.in_ok-name.ensures in
    rw h.2 (typed_ok (kinds c.args.tokens.now) (places_of c.args.tokens.now) (name_is _ c.requires.type).1 h.1 (assign_is _ c.requires.sign) c.in_ok-value.ensures)

pub simple::read_return-returns-then-ends_simple : goal.simple::read_return-returns-then-ends_simple
simple::read_return-returns-then-ends_simple t c = return_alone (kinds c.args.tokens.now) (places_of c.args.tokens.now) c.requires.seen (sym c.ends_simple.ensures ∙ c.if-ends_simple.true)

pub simple::read_return-returns-in_err-value : goal.simple::read_return-returns-in_err-value
simple::read_return-returns-in_err-value t c =
    let p = err_from_is_err_and c.from_residual.result c.from_residual.ensures.1 in
    rw (p.1, p.2) (passed c.in_err-value.field-0.0 c.in_err-value.ensures (λ i f. return_fails (kinds c.args.tokens.now) (places_of c.args.tokens.now) c.requires.seen (sym c.ends_simple.ensures ∙ c.if-ends_simple.false) f))

pub simple::read_return-returns : goal.simple::read_return-returns
simple::read_return-returns t c = return_ok (kinds c.args.tokens.now) (places_of c.args.tokens.now) c.requires.seen (sym c.ends_simple.ensures ∙ c.if-ends_simple.false) c.in_ok-value.ensures

pub simple::read_throw-returns-in_err-value : goal.simple::read_throw-returns-in_err-value
simple::read_throw-returns-in_err-value t c =
    let p = err_from_is_err_and c.from_residual.result c.from_residual.ensures.1 in
    rw (p.1, p.2) (passed c.in_err-value.field-0.0 c.in_err-value.ensures (λ i f. throw_fails (kinds c.args.tokens.now) (places_of c.args.tokens.now) c.requires.seen f))

pub simple::read_throw-returns : goal.simple::read_throw-returns
simple::read_throw-returns t c = throw_ok (kinds c.args.tokens.now) (places_of c.args.tokens.now) c.requires.seen c.in_ok-value.ensures

pub simple::read_other-returns-then-sees : goal.simple::read_other-returns-then-sees
simple::read_other-returns-then-sees t c = simple_brace (kinds c.args.tokens.now) (places_of c.args.tokens.now) c.if-sees.ensures.0

pub simple::read_other-returns-in_err-call : goal.simple::read_other-returns-in_err-call
simple::read_other-returns-in_err-call t c =
    let p = err_from_is_err_and c.from_residual.result c.from_residual.ensures.1 in
    rw (p.1, p.2) (passed c.in_err-call.field-0.0 c.in_err-call.ensures (λ i f. other_call_fails (kinds c.args.tokens.now) (places_of c.args.tokens.now) c.requires c.if-sees.ensures c.if-is_typed.ensures (sym c.is_call.ensures ∙ c.if-is_call.true) f))

pub simple::read_other-returns-then-is_call : goal.simple::read_other-returns-then-is_call
simple::read_other-returns-then-is_call t c = other_call_ok (kinds c.args.tokens.now) (places_of c.args.tokens.now) c.requires c.if-sees.ensures c.if-is_typed.ensures (sym c.is_call.ensures ∙ c.if-is_call.true) c.in_ok-call.ensures

pub simple::read_other-returns-in_err-value : goal.simple::read_other-returns-in_err-value
simple::read_other-returns-in_err-value t c =
    let p = err_from_is_err_and c.from_residual-in_err-value.result c.from_residual-in_err-value.ensures.1 in
    rw (p.1, p.2) (passed c.in_err-value.field-0.0 c.in_err-value.ensures (λ i f. other_expr_fails (kinds c.args.tokens.now) (places_of c.args.tokens.now) c.requires c.if-sees.ensures c.if-is_typed.ensures (plain_is (kinds c.args.tokens.now) (sym c.is_call.ensures ∙ c.if-is_call.false) c.if-is_typed.ensures) f))

pub simple::read_other-returns-then-not-is_update : goal.simple::read_other-returns-then-not-is_update
simple::read_other-returns-then-not-is_update t c = other_expr_ok (kinds c.args.tokens.now) (places_of c.args.tokens.now) c.requires c.if-sees.ensures c.if-is_typed.ensures (plain_is (kinds c.args.tokens.now) (sym c.is_call.ensures ∙ c.if-is_call.false) c.if-is_typed.ensures) c.in_ok-value.ensures (sym c.is_update.ensures ∙ c.if-not-is_update.true)

pub simple::read_other-returns-in_default : goal.simple::read_other-returns-in_default
simple::read_other-returns-in_default t c = other_no_target (kinds c.args.tokens.now) (places_of c.args.tokens.now) c.requires c.if-sees.ensures c.if-is_typed.ensures (plain_is (kinds c.args.tokens.now) (sym c.is_call.ensures ∙ c.if-is_call.false) c.if-is_typed.ensures) c.in_ok-value.ensures (sym c.is_update.ensures ∙ c.if-not-is_update.false) (sym c.to_target.ensures ∙ c.in_default.is)

pub simple::read_other-returns : goal.simple::read_other-returns
simple::read_other-returns t c =
    let u = sym c.is_update.ensures ∙ c.if-not-is_update.false in
    let t = sym c.to_target.ensures ∙ c.in-Some.is in
    other_update_ok (kinds c.args.tokens.now) (places_of c.args.tokens.now) c.requires c.if-sees.ensures c.if-is_typed.ensures (plain_is (kinds c.args.tokens.now) (sym c.is_call.ensures ∙ c.if-is_call.false) c.if-is_typed.ensures) c.in_ok-value.ensures u t c.in_ok-assignment.ensures

pub simple::read_other-returns-in_err-assignment : goal.simple::read_other-returns-in_err-assignment
simple::read_other-returns-in_err-assignment t c =
    let u = sym c.is_update.ensures ∙ c.if-not-is_update.false in
    let t = sym c.to_target.ensures ∙ c.in-Some.is in
    let p = err_from_is_err_and c.from_residual-in_err-assignment.result c.from_residual-in_err-assignment.ensures.1 in
    rw (p.1, p.2) (passed c.in_err-assignment.field-0.0 c.in_err-assignment.ensures (λ i f. other_update_fails (kinds c.args.tokens.now) (places_of c.args.tokens.now) c.requires c.if-sees.ensures c.if-is_typed.ensures (plain_is (kinds c.args.tokens.now) (sym c.is_call.ensures ∙ c.if-is_call.false) c.if-is_typed.ensures) c.in_ok-value.ensures u t f))

pub target::read_update-returns-then-sees : goal.target::read_update-returns-then-sees
target::read_update-returns-then-sees t c = update_up_ok (kinds c.args.tokens.now) (places_of c.args.tokens.now) c.args.target c.if-sees.ensures.0

pub target::read_update-returns-then-sees-2 : goal.target::read_update-returns-then-sees-2
target::read_update-returns-then-sees-2 t c = update_down_ok (kinds c.args.tokens.now) (places_of c.args.tokens.now) c.args.target c.if-sees-2.ensures.0

pub target::read_update-returns-in_default : goal.target::read_update-returns-in_default
target::read_update-returns-in_default t c = update_none (kinds c.args.tokens.now) (places_of c.args.tokens.now) c.args.target (no_update (kinds c.args.tokens.now) c.if-sees.ensures c.if-sees-2.ensures c.in_default.ensures)

pub target::read_update-returns-in_err-value : goal.target::read_update-returns-in_err-value
target::read_update-returns-in_err-value t c =
    let p = err_from_is_err_and c.from_residual.result c.from_residual.ensures.1 in
    rw (p.1, p.2) (passed c.in_err-value.field-0.0 c.in_err-value.ensures (λ i f. update_value_fails (kinds c.args.tokens.now) (places_of c.args.tokens.now) c.args.target c.in-Some.ensures.1 c.in-Some.ensures.2 f))

pub target::read_update-returns : goal.target::read_update-returns
target::read_update-returns t c = update_value_ok (kinds c.args.tokens.now) (places_of c.args.tokens.now) c.args.target c.in-Some.ensures.1 c.in-Some.ensures.2 c.in_ok-value.ensures

pub target::read_assign-suffixes-init : goal.target::read_assign-suffixes-init
target::read_assign-suffixes-init t c = rw c.new-suffixes.ensures (assign_primary (kinds c.args.tokens.now) (places_of c.args.tokens.now) c.in_ok-primary.ensures)

pub target::read_assign-suffixes-preserved : goal.target::read_assign-suffixes-preserved
target::read_assign-suffixes-preserved t c = rw c.in_ok-push.ensures.ok (assign_suffix (kinds c.args.tokens.now) (places_of c.args.tokens.now) c.suffixes.suffixes c.suffixes.invariant (sym c.begins_suffix.ensures.value ∙ c.suffixes-test.true) c.in_ok-suffix.ensures)

pub target::read_assign-suffixes-smaller : goal.target::read_assign-suffixes-smaller
target::read_assign-suffixes-smaller t c =
    let le = suffix_ahead (kinds c.args.tokens.now) (places_of c.args.tokens.now) c.in_ok-suffix.ensures in
    let lt = c.begins_suffix.ensures.within c.suffixes-test.true in
    omega arith

pub target::read_assign-returns-in_err-primary : goal.target::read_assign-returns-in_err-primary
target::read_assign-returns-in_err-primary t c =
    let p = err_from_is_err_and c.from_residual.result c.from_residual.ensures.1 in
    rw (p.1, p.2) (passed c.in_err-primary.field-0.0 c.in_err-primary.ensures (λ i f. assign_primary_fails (kinds c.args.tokens.now) (places_of c.args.tokens.now) f))

pub target::read_assign-returns-in_err-suffix : goal.target::read_assign-returns-in_err-suffix
target::read_assign-returns-in_err-suffix t c =
    let p = err_from_is_err_and c.from_residual-in_err-suffix.result c.from_residual-in_err-suffix.ensures.1 in
    rw (p.1, p.2) (passed c.in_err-suffix.field-0.0 c.in_err-suffix.ensures (λ i f. suffix_refused (kinds c.args.tokens.now) (places_of c.args.tokens.now) c.suffixes.suffixes c.suffixes.invariant (sym c.begins_suffix.ensures.value ∙ c.suffixes-test.true) f))

pub target::read_assign-returns-then-not-is_update : goal.target::read_assign-returns-then-not-is_update
target::read_assign-returns-then-not-is_update t c = assign_no_update (kinds c.args.tokens.now) (places_of c.args.tokens.now) c.suffixes.suffixes c.suffixes.invariant (sym c.begins_suffix.ensures.value ∙ c.suffixes-test.false) (sym c.is_update.ensures ∙ c.if-not-is_update.true)

pub target::read_assign-returns-in_default : goal.target::read_assign-returns-in_default
target::read_assign-returns-in_default t c = assign_no_target (kinds c.args.tokens.now) (places_of c.args.tokens.now) c.suffixes.suffixes c.suffixes.invariant (sym c.begins_suffix.ensures.value ∙ c.suffixes-test.false) (ap target_of (sym c.in_ok-suffixed.ensures) ∙ sym c.to_target.ensures ∙ c.in_default.is)

pub target::read_assign-returns : goal.target::read_assign-returns
target::read_assign-returns t c =
    let t = ap target_of (sym c.in_ok-suffixed.ensures) ∙ sym c.to_target.ensures ∙ c.in-Some.is in
    handed c.read_update.result c.read_update.ensures (λ x n e. assign_ok (kinds c.args.tokens.now) (places_of c.args.tokens.now) c.suffixes.suffixes c.suffixes.invariant (sym c.begins_suffix.ensures.value ∙ c.suffixes-test.false) t e) (λ i f. assign_update_fails (kinds c.args.tokens.now) (places_of c.args.tokens.now) c.suffixes.suffixes c.suffixes.invariant (sym c.begins_suffix.ensures.value ∙ c.suffixes-test.false) t f)

pub loops::read_while-returns-in_err-arm : goal.loops::read_while-returns-in_err-arm
loops::read_while-returns-in_err-arm t c =
    let p = err_from_is_err_and c.from_residual.result c.from_residual.ensures.1 in
    rw (p.1, p.2) (passed c.in_err-arm.field-0.0 c.in_err-arm.ensures (λ i f. while_fails (kinds c.args.tokens.now) (places_of c.args.tokens.now) c.requires.seen f))

pub loops::read_while-returns : goal.loops::read_while-returns
loops::read_while-returns t c = while_ok (kinds c.args.tokens.now) (places_of c.args.tokens.now) c.requires.seen c.in_ok-arm.ensures

pub loops::read_for-returns-then-not-sees : goal.loops::read_for-returns-then-not-sees
loops::read_for-returns-then-not-sees t c = for_no_head (kinds c.args.tokens.now) (places_of c.args.tokens.now) c.requires.seen c.if-not-sees.ensures

pub loops::read_for-returns-in-Some : goal.loops::read_for-returns-in-Some
loops::read_for-returns-in-Some t c =
    let h = rw c.in-Some.is at c.in_ok-name.ensures in
    handed c.read_each.result c.read_each.ensures (λ x n e. for_each_ok (kinds c.args.tokens.now) (places_of c.args.tokens.now) c.requires.seen c.if-not-sees.ensures.0 h e) (λ i f. for_each_fails (kinds c.args.tokens.now) (places_of c.args.tokens.now) c.requires.seen c.if-not-sees.ensures.0 h f)

pub loops::read_for-returns-in-None : goal.loops::read_for-returns-in-None
loops::read_for-returns-in-None t c =
    let h = rw c.in-None.is at c.in_ok-name.ensures in
    handed c.read_steps.result c.read_steps.ensures (λ x n e. for_steps_ok (kinds c.args.tokens.now) (places_of c.args.tokens.now) c.requires.seen c.if-not-sees.ensures.0 h e) (λ i f. for_steps_fails (kinds c.args.tokens.now) (places_of c.args.tokens.now) c.requires.seen c.if-not-sees.ensures.0 h f)

pub loops::read_each-returns-in_err-values : goal.loops::read_each-returns-in_err-values
loops::read_each-returns-in_err-values t c =
    let p = err_from_is_err_and c.from_residual.result c.from_residual.ensures.1 in
    rw (p.1, p.2) (passed c.in_err-values.field-0.0 c.in_err-values.ensures (λ i f. each_fails (kinds c.args.tokens.now) (places_of c.args.tokens.now) c.args.name f))

pub loops::read_each-returns-in_err-body : goal.loops::read_each-returns-in_err-body
loops::read_each-returns-in_err-body t c =
    let p = err_from_is_err_and c.from_residual-in_err-body.result c.from_residual-in_err-body.ensures.1 in
    rw (p.1, p.2) (passed c.in_err-body.field-0.0 c.in_err-body.ensures (λ i f. each_bad (kinds c.args.tokens.now) (places_of c.args.tokens.now) c.args.name c.in_ok-values.ensures f))

pub loops::read_each-returns : goal.loops::read_each-returns
loops::read_each-returns t c = each_ok (kinds c.args.tokens.now) (places_of c.args.tokens.now) c.args.name c.in_ok-values.ensures c.in_ok-body.ensures

pub loops::read_steps-returns-in_err-first : goal.loops::read_steps-returns-in_err-first
loops::read_steps-returns-in_err-first t c =
    let p = err_from_is_err_and c.from_residual.result c.from_residual.ensures.1 in
    rw (p.1, p.2) (passed c.in_err-first.field-0.0 c.in_err-first.ensures (λ i f. steps_init_fails (kinds c.args.tokens.now) (places_of c.args.tokens.now) f))

pub loops::read_steps-returns-then-not-sees : goal.loops::read_steps-returns-then-not-sees
loops::read_steps-returns-then-not-sees t c = steps_no_test (kinds c.args.tokens.now) (places_of c.args.tokens.now) c.in_ok-first.ensures c.if-not-sees.ensures

pub loops::read_steps-returns-in_err-test : goal.loops::read_steps-returns-in_err-test
loops::read_steps-returns-in_err-test t c =
    let p = err_from_is_err_and c.from_residual-in_err-test.result c.from_residual-in_err-test.ensures.1 in
    rw (p.1, p.2) (passed c.in_err-test.field-0.0 c.in_err-test.ensures (λ i f. steps_test_fails (kinds c.args.tokens.now) (places_of c.args.tokens.now) c.in_ok-first.ensures c.if-not-sees.ensures.0 f))

pub loops::read_steps-returns-then-not-sees-2 : goal.loops::read_steps-returns-then-not-sees-2
loops::read_steps-returns-then-not-sees-2 t c = steps_no_update (kinds c.args.tokens.now) (places_of c.args.tokens.now) c.in_ok-first.ensures c.if-not-sees.ensures.0 c.in_ok-test.ensures c.if-not-sees-2.ensures

pub loops::read_steps-returns-in_err-step : goal.loops::read_steps-returns-in_err-step
loops::read_steps-returns-in_err-step t c =
    let p = err_from_is_err_and c.from_residual-in_err-step.result c.from_residual-in_err-step.ensures.1 in
    rw (p.1, p.2) (passed c.in_err-step.field-0.0 c.in_err-step.ensures (λ i f. steps_update_fails (kinds c.args.tokens.now) (places_of c.args.tokens.now) c.in_ok-first.ensures c.if-not-sees.ensures.0 c.in_ok-test.ensures c.if-not-sees-2.ensures.0 f))

pub loops::read_steps-returns-in_err-body : goal.loops::read_steps-returns-in_err-body
loops::read_steps-returns-in_err-body t c =
    let p = err_from_is_err_and c.from_residual-in_err-body.result c.from_residual-in_err-body.ensures.1 in
    rw (p.1, p.2) (passed c.in_err-body.field-0.0 c.in_err-body.ensures (λ i f. steps_behind_fails (kinds c.args.tokens.now) (places_of c.args.tokens.now) c.in_ok-first.ensures c.if-not-sees.ensures.0 c.in_ok-test.ensures c.if-not-sees-2.ensures.0 c.in_ok-step.ensures f))

pub loops::read_steps-returns : goal.loops::read_steps-returns
loops::read_steps-returns t c = rw (c.in_ok-for_steps.ensures, c.in_ok-step-2.ensures) (steps_ok (kinds c.args.tokens.now) (places_of c.args.tokens.now) c.in_ok-first.ensures c.if-not-sees.ensures.0 c.in_ok-test.ensures c.if-not-sees-2.ensures.0 c.in_ok-step.ensures c.in_ok-body.ensures)

pub loops::read_init-returns-then-not-begins_declaration : goal.loops::read_init-returns-then-not-begins_declaration
loops::read_init-returns-then-not-begins_declaration t c = init_assign_ok (kinds c.args.tokens.now) (places_of c.args.tokens.now) (not_def c.if-not-begins_declaration.ensures) (not_both c.if-not-begins_declaration.ensures) c.in_ok-assignment.ensures

pub loops::read_init-returns-in_err-assignment : goal.loops::read_init-returns-in_err-assignment
loops::read_init-returns-in_err-assignment t c =
    let p = err_from_is_err_and c.from_residual.result c.from_residual.ensures.1 in
    rw (p.1, p.2) (passed c.in_err-assignment.field-0.0 c.in_err-assignment.ensures (λ i f. init_assign_fails (kinds c.args.tokens.now) (places_of c.args.tokens.now) (not_def c.if-not-begins_declaration.ensures) (not_both c.if-not-begins_declaration.ensures) f))

pub loops::read_init-returns-in_default : goal.loops::read_init-returns-in_default
loops::read_init-returns-in_default t c =
    let f = rw c.in_default.is at c.in_ok-name.ensures in
    init_no_name (kinds c.args.tokens.now) (places_of c.args.tokens.now) (declaration_def c.if-not-begins_declaration.ensures.0 f) f

pub loops::read_init-returns-then-not-sees : goal.loops::read_init-returns-then-not-sees
loops::read_init-returns-then-not-sees t c =
    let h = rw c.in-Some.is at c.in_ok-name.ensures in
    init_no_value (kinds c.args.tokens.now) (places_of c.args.tokens.now) (declaration_type c.if-not-begins_declaration.ensures.0) {n = h.0} h.1 c.if-not-sees.ensures

pub loops::read_init-returns-in_err-value : goal.loops::read_init-returns-in_err-value
loops::read_init-returns-in_err-value t c =
    let h = rw c.in-Some.is at c.in_ok-name.ensures in
    let p = err_from_is_err_and c.from_residual-in_err-value.result c.from_residual-in_err-value.ensures.1 in
    rw (p.1, p.2) (passed c.in_err-value.field-0.0 c.in_err-value.ensures (λ i f. init_fails (kinds c.args.tokens.now) (places_of c.args.tokens.now) (declaration_type c.if-not-begins_declaration.ensures.0) h.1 c.if-not-sees.ensures.0 f))

pub loops::read_init-returns : goal.loops::read_init-returns
loops::read_init-returns t c =
    let h = rw c.in-Some.is at c.in_ok-name.ensures in
    rw h.2 (init_ok (kinds c.args.tokens.now) (places_of c.args.tokens.now) (declaration_type c.if-not-begins_declaration.ensures.0) h.1 c.if-not-sees.ensures.0 c.in_ok-value.ensures)

pub tries::read_try-returns-in_err-body : goal.tries::read_try-returns-in_err-body
tries::read_try-returns-in_err-body t c =
    let p = err_from_is_err_and c.from_residual.result c.from_residual.ensures.1 in
    rw (p.1, p.2) (passed c.in_err-body.field-0.0 c.in_err-body.ensures (λ i f. try_block_fails (kinds c.args.tokens.now) (places_of c.args.tokens.now) c.requires.seen c.skip_newline.ensures f))

pub tries::read_try-returns-in_err-catches : goal.tries::read_try-returns-in_err-catches
tries::read_try-returns-in_err-catches t c =
    let p = err_from_is_err_and c.from_residual-in_err-catches.result c.from_residual-in_err-catches.ensures.1 in
    rw (p.1, p.2) (passed c.in_err-catches.field-0.0 c.in_err-catches.ensures (λ i f. try_catches_fail (kinds c.args.tokens.now) (places_of c.args.tokens.now) c.requires.seen c.skip_newline.ensures c.in_ok-body.ensures f))

pub tries::read_try-returns-in_err-last : goal.tries::read_try-returns-in_err-last
tries::read_try-returns-in_err-last t c =
    let p = err_from_is_err_and c.from_residual-in_err-last.result c.from_residual-in_err-last.ensures.1 in
    rw (p.1, p.2) (passed c.in_err-last.field-0.0 c.in_err-last.ensures (λ i f. try_finally_fails (kinds c.args.tokens.now) (places_of c.args.tokens.now) c.requires.seen c.skip_newline.ensures c.in_ok-body.ensures _ c.in_ok-catches.ensures c.if-sees_word.ensures.0 f))

pub tries::read_try-returns-then-sees_word : goal.tries::read_try-returns-then-sees_word
tries::read_try-returns-then-sees_word t c = try_finally_ok (kinds c.args.tokens.now) (places_of c.args.tokens.now) c.requires.seen c.skip_newline.ensures c.in_ok-body.ensures _ c.in_ok-catches.ensures c.if-sees_word.ensures.0 c.in_ok-last.ensures

pub tries::read_try-returns-then-is_empty : goal.tries::read_try-returns-then-is_empty
tries::read_try-returns-then-is_empty t c = try_unhandled (kinds c.args.tokens.now) (places_of c.args.tokens.now) c.requires.seen c.skip_newline.ensures c.in_ok-body.ensures _ c.in_ok-catches.ensures c.if-sees_word.ensures (search rules)

pub tries::read_try-returns : goal.tries::read_try-returns
tries::read_try-returns t c = try_alone (kinds c.args.tokens.now) (places_of c.args.tokens.now) c.requires.seen c.skip_newline.ensures c.in_ok-body.ensures _ c.in_ok-catches.ensures c.if-sees_word.ensures (search rules)

pub tries::read_catches-catches-init : goal.tries::read_catches-catches-init
tries::read_catches-catches-init t c = rw c.new-catches.ensures (tail_start (CatchesOf (places_of c.args.tokens.now)) stops_catches (kinds c.args.tokens.now) c.args.at)

pub tries::read_catches-catches-preserved : goal.tries::read_catches-catches-preserved
tries::read_catches-catches-preserved t c = rw c.in_ok-push.ensures.ok (catches_step (kinds c.args.tokens.now) (places_of c.args.tokens.now) c.catches.catches c.catches.invariant c.catches-test.ensures.0 c.in_ok-catch.ensures)

pub tries::read_catches-returns-in_err-catch : goal.tries::read_catches-returns-in_err-catch
tries::read_catches-returns-in_err-catch t c =
    let p = err_from_is_err_and c.from_residual.result c.from_residual.ensures.1 in
    rw (p.1, p.2) (passed c.in_err-catch.field-0.0 c.in_err-catch.ensures (λ i f. catches_fails (kinds c.args.tokens.now) (places_of c.args.tokens.now) c.catches.catches c.catches.invariant c.catches-test.ensures.0 f))

pub tries::read_catches-returns : goal.tries::read_catches-returns
tries::read_catches-returns t c = catches_end (kinds c.args.tokens.now) (places_of c.args.tokens.now) c.catches.catches c.catches.invariant c.catches-test.ensures

pub tries::read_catches-catches-smaller : goal.tries::read_catches-catches-smaller
tries::read_catches-catches-smaller t c =
    let le = catch_longer (kinds c.args.tokens.now) (places_of c.args.tokens.now) c.in_ok-catch.ensures in
    let lt = c.catches-test.ensures.1 in
    omega arith

pub tries::read_catch-returns-then-not-sees_word : goal.tries::read_catch-returns-then-not-sees_word
tries::read_catch-returns-then-not-sees_word t c = catch_none (kinds c.args.tokens.now) (places_of c.args.tokens.now) c.if-not-sees_word.ensures

pub tries::read_catch-returns-in_err-caught : goal.tries::read_catch-returns-in_err-caught
tries::read_catch-returns-in_err-caught t c =
    let p = err_from_is_err_and c.from_residual.result c.from_residual.ensures.1 in
    rw (p.1, p.2) (passed c.in_err-caught.field-0.0 c.in_err-caught.ensures (λ i f. catch_fails (kinds c.args.tokens.now) (places_of c.args.tokens.now) c.if-not-sees_word.ensures.0 f))

pub tries::read_catch-returns-in_err-body : goal.tries::read_catch-returns-in_err-body
tries::read_catch-returns-in_err-body t c =
    let p = err_from_is_err_and c.from_residual-in_err-body.result c.from_residual-in_err-body.ensures.1 in
    rw (p.1, p.2) (passed c.in_err-body.field-0.0 c.in_err-body.ensures (λ i f. catch_block_fails (kinds c.args.tokens.now) (places_of c.args.tokens.now) c.if-not-sees_word.ensures.0 _ c.in_ok-caught.ensures c.skip_newline.ensures f))

pub tries::read_catch-returns : goal.tries::read_catch-returns
tries::read_catch-returns t c = catch_ok (kinds c.args.tokens.now) (places_of c.args.tokens.now) c.if-not-sees_word.ensures.0 _ c.in_ok-caught.ensures c.skip_newline.ensures c.in_ok-body.ensures

pub tries::read_finally-returns-then-not-sees_word : goal.tries::read_finally-returns-then-not-sees_word
tries::read_finally-returns-then-not-sees_word t c = finally_none (kinds c.args.tokens.now) (places_of c.args.tokens.now) c.if-not-sees_word.ensures

pub tries::read_finally-returns : goal.tries::read_finally-returns
tries::read_finally-returns t c = handed c.read_block.result c.read_block.ensures (λ x n e. finally_ok (kinds c.args.tokens.now) (places_of c.args.tokens.now) c.if-not-sees_word.ensures.0 c.skip_newline.ensures e) (λ i f. finally_fails (kinds c.args.tokens.now) (places_of c.args.tokens.now) c.if-not-sees_word.ensures.0 c.skip_newline.ensures f)

pub block::read_stmts-read_stmt-requires : goal.block::read_stmts-read_stmt-requires
block::read_stmts-read_stmt-requires t c = let le = separates_forward c.skip_separators-start.ensures.run in omega arith

pub block::read_stmts-read_stmt-requires-in-rest : goal.block::read_stmts-read_stmt-requires-in-rest
block::read_stmts-read_stmt-requires-in-rest t c =
    let first = c.rest.invariant.0.after in
    let le = separates_forward c.rest.invariant.1.run in
    omega arith
