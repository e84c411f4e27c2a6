use Rattle.std.proofs.Common.{◌+◌, ◌++◌, length, ◌-◌, ◌*◌}
use Rattle.model_syntax.specs.Stream.{places_of}
use Rattle.model_syntax.specs.Operators.{rank_whole, rank_chain, rank_pair, rank_terms, rank_unary, chained, joined}
use Rattle.model_syntax.specs.Grammar.{IsExpr, ChainRest, TermsRest, Suffixes, ExprList, NamedList, IsEntry, Parts}
use Rattle.groovy_expr.specs.Answers.{kinds}
use Rattle.groovy_expr.specs.Stops.{stops_rank, stops_unary, stops_arguments, stops_closed, stops_parts}
use Rattle.groovy_expr.specs.Brackets.{BracketRest}
use Rattle.groovy_expr.specs.Ranks.{chain_of, pair_of, terms_of, rank_of}
use Rattle.groovy_expr.proofs.Calculus.{Tail}
use Rattle.groovy_expr.proofs.RankRules.{height, Chosen, put_choices}
use Rattle.groovy_expr.specs.Statements.{SeparatesTo}
use Rattle.groovy_expr.proofs.StatementLists.{StmtsLoop}
use Rattle.groovy_expr.proofs.StatementIfs.{IfLoop}
use Rattle.groovy_expr.proofs.StatementHeads.{AssignLoop}
use Rattle.groovy_expr.proofs.StatementTries.{CatchLoop}
use Rattle.groovy_expr.proofs.+parser.Given as goal

abbrev pub decreases-ranks::read_rank : goal.decreases-ranks::read_rank
decreases-ranks::read_rank l = 64 * (length l.tokens.now - l.at) + height (rank_of l.rank) + 1

abbrev pub decreases-ranks::read_expr : goal.decreases-ranks::read_expr
decreases-ranks::read_expr l = 64 * (length l.tokens.now - l.at) + height rank_whole

abbrev pub decreases-ranks::read_chain : goal.decreases-ranks::read_chain
decreases-ranks::read_chain l = 64 * (length l.tokens.now - l.at) + height (rank_chain (chain_of l.level))

abbrev pub decreases-ranks::read_pair : goal.decreases-ranks::read_pair
decreases-ranks::read_pair l = 64 * (length l.tokens.now - l.at) + height (rank_pair (pair_of l.level))

abbrev pub decreases-ranks::read_terms : goal.decreases-ranks::read_terms
decreases-ranks::read_terms l = 64 * (length l.tokens.now - l.at) + height (rank_terms (terms_of l.level))

abbrev pub decreases-ranks::read_unary : goal.decreases-ranks::read_unary
decreases-ranks::read_unary l = 64 * (length l.tokens.now - l.at) + height rank_unary

abbrev pub invariant-ranks::read_chain-operands : goal.invariant-ranks::read_chain-operands
invariant-ranks::read_chain-operands l = Tail (λ K. IsExpr K (places_of l.tokens) (rank_chain (chain_of l.level))) (λ K. ChainRest K (places_of l.tokens) (chain_of l.level)) (stops_rank (rank_chain (chain_of l.level))) (kinds l.tokens) l.fn.at (λ z. chained (chain_of l.level) l.first (l.others ++ z)) l.end

abbrev pub decreases-ranks::read_chain-operands : goal.decreases-ranks::read_chain-operands
decreases-ranks::read_chain-operands l = length l.tokens - l.end

abbrev pub invariant-ranks::read_terms-operands : goal.invariant-ranks::read_terms-operands
invariant-ranks::read_terms-operands l = Tail (λ K. IsExpr K (places_of l.tokens) (rank_terms (terms_of l.level))) (λ K. TermsRest K (places_of l.tokens) (terms_of l.level)) (stops_rank (rank_terms (terms_of l.level))) (kinds l.tokens) l.fn.at (λ z. joined l.first (l.others ++ z)) l.end

abbrev pub decreases-ranks::read_terms-operands : goal.decreases-ranks::read_terms-operands
decreases-ranks::read_terms-operands l = length l.tokens - l.end

abbrev pub invariant-ranks::read_expr-choices : goal.invariant-ranks::read_expr-choices
invariant-ranks::read_expr-choices l = Tail (λ K. IsExpr K (places_of l.tokens) rank_whole) (Chosen (places_of l.tokens)) (stops_rank rank_whole) (kinds l.tokens) l.fn.at (put_choices l.choices) l.from

abbrev pub decreases-ranks::read_expr-choices : goal.decreases-ranks::read_expr-choices
decreases-ranks::read_expr-choices l = length l.tokens - l.from

abbrev pub decreases-primary::read_primary : goal.decreases-primary::read_primary
decreases-primary::read_primary l = 64 * (length l.tokens.now - l.at) + 6

abbrev pub decreases-primary::read_word : goal.decreases-primary::read_word
decreases-primary::read_word l = 64 * (length l.tokens.now - l.at) + 4

abbrev pub decreases-primary::read_enclosed : goal.decreases-primary::read_enclosed
decreases-primary::read_enclosed l = 64 * (length l.tokens.now - l.at) + 4

abbrev pub decreases-primary::read_named_primary : goal.decreases-primary::read_named_primary
decreases-primary::read_named_primary l = 64 * (length l.tokens.now - l.at) + 2

abbrev pub decreases-primary::read_group : goal.decreases-primary::read_group
decreases-primary::read_group l = 64 * (length l.tokens.now - l.at) + 2

abbrev pub decreases-primary::read_new : goal.decreases-primary::read_new
decreases-primary::read_new l = 64 * (length l.tokens.now - l.at) + 2

abbrev pub decreases-suffixes::read_suffixes : goal.decreases-suffixes::read_suffixes
decreases-suffixes::read_suffixes l = 64 * (length l.tokens.now - l.at) + 5

abbrev pub decreases-suffixes::read_suffix : goal.decreases-suffixes::read_suffix
decreases-suffixes::read_suffix l = 64 * (length l.tokens.now - l.at) + 4

abbrev pub decreases-suffixes::read_member : goal.decreases-suffixes::read_member
decreases-suffixes::read_member l = 64 * (length l.tokens.now - l.at) + 2

abbrev pub decreases-calls::read_call : goal.decreases-calls::read_call
decreases-calls::read_call l = 64 * (length l.tokens.now - l.at) + 4

abbrev pub decreases-calls::read_parenthesised : goal.decreases-calls::read_parenthesised
decreases-calls::read_parenthesised l = 64 * (length l.tokens.now - l.at) + 3

abbrev pub decreases-calls::read_may_close : goal.decreases-calls::read_may_close
decreases-calls::read_may_close l = 64 * (length l.tokens.now - l.at) + 3

abbrev pub decreases-calls::read_arguments : goal.decreases-calls::read_arguments
decreases-calls::read_arguments l = 64 * (length l.tokens.now - l.at) + 31

abbrev pub decreases-calls::read_exprs : goal.decreases-calls::read_exprs
decreases-calls::read_exprs l = 64 * (length l.tokens.now - l.at) + 30

abbrev pub decreases-calls::read_named_list : goal.decreases-calls::read_named_list
decreases-calls::read_named_list l = 64 * (length l.tokens.now - l.at) + 3

abbrev pub decreases-calls::read_named : goal.decreases-calls::read_named
decreases-calls::read_named l = 64 * (length l.tokens.now - l.at) + 1

abbrev pub decreases-collections::read_bracket : goal.decreases-collections::read_bracket
decreases-collections::read_bracket l = 64 * (length l.tokens.now - l.at) + 3

abbrev pub decreases-collections::read_map : goal.decreases-collections::read_map
decreases-collections::read_map l = 64 * (length l.tokens.now - l.at) + 2

abbrev pub decreases-collections::read_elements : goal.decreases-collections::read_elements
decreases-collections::read_elements l = 64 * (length l.tokens.now - l.at) + 2

abbrev pub decreases-collections::read_list_rest : goal.decreases-collections::read_list_rest
decreases-collections::read_list_rest l = 64 * (length l.tokens.now - l.at) + 1

abbrev pub decreases-collections::read_map_rest : goal.decreases-collections::read_map_rest
decreases-collections::read_map_rest l = 64 * (length l.tokens.now - l.at) + 1

abbrev pub decreases-collections::read_entry : goal.decreases-collections::read_entry
decreases-collections::read_entry l = 64 * (length l.tokens.now - l.at) + 3

abbrev pub decreases-collections::read_numbered : goal.decreases-collections::read_numbered
decreases-collections::read_numbered l = 64 * (length l.tokens.now - l.at) + 1

abbrev pub decreases-collections::read_text_entry : goal.decreases-collections::read_text_entry
decreases-collections::read_text_entry l = 64 * (length l.tokens.now - l.at) + 2

abbrev pub decreases-collections::read_computed : goal.decreases-collections::read_computed
decreases-collections::read_computed l = 64 * (length l.tokens.now - l.at) + 1

abbrev pub decreases-gstring::read_gstring : goal.decreases-gstring::read_gstring
decreases-gstring::read_gstring l = 64 * (length l.tokens.now - l.at) + 1

abbrev pub decreases-gstring::read_parts : goal.decreases-gstring::read_parts
decreases-gstring::read_parts l = 64 * (length l.tokens.now - l.at) + 3

abbrev pub decreases-gstring::read_part : goal.decreases-gstring::read_part
decreases-gstring::read_part l = 64 * (length l.tokens.now - l.at) + 2

abbrev pub decreases-gstring::read_braces : goal.decreases-gstring::read_braces
decreases-gstring::read_braces l = 64 * (length l.tokens.now - l.at) + 1

abbrev pub decreases-closure::read_closure : goal.decreases-closure::read_closure
decreases-closure::read_closure l = 64 * (length l.tokens.now - l.at) + 1

abbrev pub decreases-closure::read_headed : goal.decreases-closure::read_headed
decreases-closure::read_headed l = 64 * (length l.tokens.now - l.at) + 0

abbrev pub decreases-block::read_stmts : goal.decreases-block::read_stmts
decreases-block::read_stmts l = 64 * (length l.tokens.now - l.at) + 47

abbrev pub invariant-suffixes::read_suffixes-suffixes : goal.invariant-suffixes::read_suffixes-suffixes
invariant-suffixes::read_suffixes-suffixes l = Tail (λ K. Suffixes K (places_of l.tokens)) (λ K. Suffixes K (places_of l.tokens)) stops_unary (kinds l.tokens) l.fn.at (λ z. l.suffixes ++ z) l.end

abbrev pub decreases-suffixes::read_suffixes-suffixes : goal.decreases-suffixes::read_suffixes-suffixes
decreases-suffixes::read_suffixes-suffixes l = length l.tokens - l.end

abbrev pub invariant-calls::read_exprs-exprs : goal.invariant-calls::read_exprs-exprs
invariant-calls::read_exprs-exprs l = Tail (λ K. ExprList K (places_of l.tokens)) (λ K. ExprList K (places_of l.tokens)) stops_arguments (kinds l.tokens) l.fn.at (λ z. l.exprs ++ z) l.from

abbrev pub decreases-calls::read_exprs-exprs : goal.decreases-calls::read_exprs-exprs
decreases-calls::read_exprs-exprs l = length l.tokens - l.from

abbrev pub invariant-calls::read_named_list-entries : goal.invariant-calls::read_named_list-entries
invariant-calls::read_named_list-entries l = Tail (λ K. NamedList K (places_of l.tokens)) (λ K. NamedList K (places_of l.tokens)) stops_arguments (kinds l.tokens) l.fn.at (λ z. l.entries ++ z) l.from

abbrev pub decreases-calls::read_named_list-entries : goal.decreases-calls::read_named_list-entries
decreases-calls::read_named_list-entries l = length l.tokens - l.from

abbrev pub invariant-collections::read_list_rest-elements : goal.invariant-collections::read_list_rest-elements
invariant-collections::read_list_rest-elements l = Tail (BracketRest (λ K. IsExpr K (places_of l.tokens) rank_whole)) (BracketRest (λ K. IsExpr K (places_of l.tokens) rank_whole)) stops_closed (kinds l.tokens) l.fn.at (λ z. l.exprs ++ z) l.end

abbrev pub decreases-collections::read_list_rest-elements : goal.decreases-collections::read_list_rest-elements
decreases-collections::read_list_rest-elements l = length l.tokens - l.end

abbrev pub invariant-collections::read_map_rest-entries : goal.invariant-collections::read_map_rest-entries
invariant-collections::read_map_rest-entries l = Tail (BracketRest (λ K. IsEntry K (places_of l.tokens))) (BracketRest (λ K. IsEntry K (places_of l.tokens))) stops_closed (kinds l.tokens) l.fn.at (λ z. l.entries ++ z) l.end

abbrev pub decreases-collections::read_map_rest-entries : goal.decreases-collections::read_map_rest-entries
decreases-collections::read_map_rest-entries l = length l.tokens - l.end

abbrev pub invariant-gstring::read_parts-parts : goal.invariant-gstring::read_parts-parts
invariant-gstring::read_parts-parts l = Tail (λ K. Parts K (places_of l.tokens)) (λ K. Parts K (places_of l.tokens)) stops_parts (kinds l.tokens) l.fn.at (λ z. l.parts ++ z) l.end

abbrev pub decreases-gstring::read_parts-parts : goal.decreases-gstring::read_parts-parts
decreases-gstring::read_parts-parts l = length l.tokens - l.end

abbrev pub invariant-block::read_stmts-rest : goal.invariant-block::read_stmts-rest
invariant-block::read_stmts-rest l = StmtsLoop (places_of l.tokens) (kinds l.tokens) l.fn.at l.all l.end × SeparatesTo (kinds l.tokens) l.end l.from

abbrev pub decreases-block::read_stmts-rest : goal.decreases-block::read_stmts-rest
decreases-block::read_stmts-rest l = length l.tokens + 1 - l.end

abbrev pub invariant-branches::read_if-arms : goal.invariant-branches::read_if-arms
invariant-branches::read_if-arms l = IfLoop (places_of l.tokens) (kinds l.tokens) l.fn.at l.arms l.end

abbrev pub decreases-branches::read_if-arms : goal.decreases-branches::read_if-arms
decreases-branches::read_if-arms l = length l.tokens - l.end

abbrev pub invariant-target::read_assign-suffixes : goal.invariant-target::read_assign-suffixes
invariant-target::read_assign-suffixes l = AssignLoop (kinds l.tokens) (places_of l.tokens) l.fn.at l.primary l.suffixes l.end

abbrev pub decreases-target::read_assign-suffixes : goal.decreases-target::read_assign-suffixes
decreases-target::read_assign-suffixes l = length l.tokens - l.end

abbrev pub invariant-tries::read_catches-catches : goal.invariant-tries::read_catches-catches
invariant-tries::read_catches-catches l = CatchLoop (places_of l.tokens) (kinds l.tokens) l.fn.at l.catches l.end

abbrev pub decreases-tries::read_catches-catches : goal.decreases-tries::read_catches-catches
decreases-tries::read_catches-catches l = length l.tokens - l.end

abbrev pub decreases-simple::read_whole : goal.decreases-simple::read_whole
decreases-simple::read_whole l = 64 * (length l.tokens.now - l.at) + 34

abbrev pub decreases-simple::read_command : goal.decreases-simple::read_command
decreases-simple::read_command l = 64 * (length l.tokens.now - l.at) + 33

abbrev pub decreases-target::read_update : goal.decreases-target::read_update
decreases-target::read_update l = 64 * (length l.tokens.now - l.at) + 35

abbrev pub decreases-target::read_assign : goal.decreases-target::read_assign
decreases-target::read_assign l = 64 * (length l.tokens.now - l.at) + 36

abbrev pub decreases-loops::read_init : goal.decreases-loops::read_init
decreases-loops::read_init l = 64 * (length l.tokens.now - l.at) + 37

abbrev pub decreases-simple::read_def : goal.decreases-simple::read_def
decreases-simple::read_def l = 64 * (length l.tokens.now - l.at) + 35

abbrev pub decreases-simple::read_typed : goal.decreases-simple::read_typed
decreases-simple::read_typed l = 64 * (length l.tokens.now - l.at) + 35

abbrev pub decreases-simple::read_return : goal.decreases-simple::read_return
decreases-simple::read_return l = 64 * (length l.tokens.now - l.at) + 35

abbrev pub decreases-simple::read_throw : goal.decreases-simple::read_throw
decreases-simple::read_throw l = 64 * (length l.tokens.now - l.at) + 35

abbrev pub decreases-simple::read_other : goal.decreases-simple::read_other
decreases-simple::read_other l = 64 * (length l.tokens.now - l.at) + 36

abbrev pub decreases-simple::read_simple : goal.decreases-simple::read_simple
decreases-simple::read_simple l = 64 * (length l.tokens.now - l.at) + 38

abbrev pub decreases-block::read_block : goal.decreases-block::read_block
decreases-block::read_block l = 64 * (length l.tokens.now - l.at) + 39

abbrev pub decreases-block::read_body : goal.decreases-block::read_body
decreases-block::read_body l = 64 * (length l.tokens.now - l.at) + 40

abbrev pub decreases-branches::read_behind_head : goal.decreases-branches::read_behind_head
decreases-branches::read_behind_head l = 64 * (length l.tokens.now - l.at) + 41

abbrev pub decreases-branches::read_guarded : goal.decreases-branches::read_guarded
decreases-branches::read_guarded l = 64 * (length l.tokens.now - l.at) + 42

abbrev pub decreases-branches::read_arm : goal.decreases-branches::read_arm
decreases-branches::read_arm l = 64 * (length l.tokens.now - l.at) + 43

abbrev pub decreases-branches::read_if : goal.decreases-branches::read_if
decreases-branches::read_if l = 64 * (length l.tokens.now - l.at) + 44

abbrev pub decreases-loops::read_each : goal.decreases-loops::read_each
decreases-loops::read_each l = 64 * (length l.tokens.now - l.at) + 42

abbrev pub decreases-loops::read_steps : goal.decreases-loops::read_steps
decreases-loops::read_steps l = 64 * (length l.tokens.now - l.at) + 42

abbrev pub decreases-loops::read_while : goal.decreases-loops::read_while
decreases-loops::read_while l = 64 * (length l.tokens.now - l.at) + 44

abbrev pub decreases-loops::read_for : goal.decreases-loops::read_for
decreases-loops::read_for l = 64 * (length l.tokens.now - l.at) + 44

abbrev pub decreases-tries::read_finally : goal.decreases-tries::read_finally
decreases-tries::read_finally l = 64 * (length l.tokens.now - l.at) + 40

abbrev pub decreases-tries::read_catch : goal.decreases-tries::read_catch
decreases-tries::read_catch l = 64 * (length l.tokens.now - l.at) + 40

abbrev pub decreases-tries::read_catches : goal.decreases-tries::read_catches
decreases-tries::read_catches l = 64 * (length l.tokens.now - l.at) + 41

abbrev pub decreases-tries::read_try : goal.decreases-tries::read_try
decreases-tries::read_try l = 64 * (length l.tokens.now - l.at) + 44

abbrev pub decreases-block::read_stmt : goal.decreases-block::read_stmt
decreases-block::read_stmt l = 64 * (length l.tokens.now - l.at) + 46
