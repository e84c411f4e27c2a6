-- The marks of a tree of the grammar stand in the order of its tokens.
use Rattle.std.proofs.Common.{◌≡◌, ℕ, ◌+◌, ◌≤◌, Option, Some, None, List, [], ◌∷◌, ◌++◌, map, length, refl, sym, ap, subst, ◌∙◌, arith, append-nil, append_assoc}
use Rattle.std.proofs.lemmas.List.{map-append}
use Rattle.model_syntax.specs.declared.place.Place.{Place}
use Rattle.model_syntax.specs.declared.place.Declared.{Declared}
use Rattle.model_syntax.specs.declared.token.TokenKind.{TokenKind}
use Rattle.model_syntax.specs.declared.tree.Caught.{Caught}
use Rattle.model_syntax.specs.declared.tree.Prefix.{Prefix}
use Rattle.model_syntax.specs.declared.tree.Operand.{Operand}
use Rattle.model_syntax.specs.declared.tree.Choice.{Choice}
use Rattle.model_syntax.specs.declared.tree.Arguments.{Arguments}
use Rattle.model_syntax.specs.declared.tree.Arm.{Arm}
use Rattle.model_syntax.specs.declared.tree.Catch.{Catch}
use Rattle.model_syntax.specs.declared.tree.Entry.{Entry}
use Rattle.model_syntax.specs.declared.tree.Part.{Part}
use Rattle.model_syntax.specs.declared.tree.Suffix.{Suffix}
use Rattle.model_syntax.specs.declared.tree.Target.{Target}
use Rattle.model_syntax.specs.declared.tree.Expr.{Expr}
use Rattle.model_syntax.specs.declared.tree.Expr.TheVariants.{Variable}
use Rattle.model_syntax.specs.declared.tree.Stmt.{Stmt}
use Rattle.model_syntax.specs.declared.tree.Assignment.{Assignment}
use Rattle.model_syntax.specs.declared.tree.Init.{Init}
use Rattle.model_syntax.specs.declared.tree.Init.TheVariants as head
use Rattle.model_syntax.specs.declared.tree.Function.{Function}
use Rattle.model_syntax.specs.declared.tree.Top.{Top}
use Rattle.model_syntax.specs.declared.tree.Tree.{Tree}
use Rattle.std.specs.Prelude.{option_map}
use Rattle.model_syntax.specs.Stream.{Stream, Places, declared}
use Rattle.model_syntax.specs.Operators.{Chain, by_or, by_and, Terms, Rank, chosen, chained, joined, suffixed, prefixed, operand, with_closure, for_steps}
use Rattle.model_syntax.specs.Grammar.{MayBreak, no_break, break, MaySeparate, no_separator, separator_line, separator_sign, Separates, separates_line, separates_sign, Prefixes, prefixes_none, prefixes_more, NameList, names_last, names_more, Heads, heads_none, heads_names, heads_typed, Dotted, dotted_none, dotted_more, Catches, catches_plain, catches_exception, catches_throwable, MayComma, no_comma, comma_behind, IsExpr, whole, chain, pair_alone, pair, terms, unary, Choices, choices_none, choices_true, choices_set, ChainRest, chain_end, chain_more, TermsRest, terms_end, terms_more, Suffixes, suffixes_none, suffixes_property, suffixes_method, suffixes_index, IsCall, call_empty, call_some, call_closure, MayClose, no_closure, closure_behind, IsArguments, arguments_named, arguments_ordered, IsNamed, named_by_name, named_by_text, NamedList, named_last, named_more, ExprList, exprs_last, exprs_more, IsPrimary, primary_number, primary_text, primary_gstring, primary_true, primary_false, primary_null, primary_name, primary_call, primary_group, primary_no_list, primary_list, primary_no_map, primary_map, primary_closure, primary_new, primary_new_with, IsGString, gstring, Parts, parts_none, parts_plain, parts_braces, parts_path, IsEntry, entry_named, entry_number, entry_gstring, entry_group, EntryList, entries_last, entries_more, IsClosure, closure_headed, closure_plain, IsWhole, whole_call, whole_expr, IsTarget, target_name, target_property, target_index, IsAssign, assign_value, assign_up, assign_down, IsSimple, simple_def, simple_declare, simple_assign, simple_evaluate, simple_return, simple_return_value, simple_break, simple_continue, simple_throw, IsStmt, stmt_if, stmt_while, stmt_for_each, stmt_for_steps, stmt_try_catch, stmt_try_finally, stmt_simple, IsArm, arm, ElseIfs, no_else_if, else_if, MayElse, no_else, else_body, IsEach, each_plain, each_typed, IsInit, init_declare, init_assign, IsCatch, catch, CatchList, no_catch, catch_more, IsFinally, finally, MayFinally, no_finally, finally_behind, IsBody, body_block, body_simple, IsBlock, block, IsStmts, stmts_none, stmts_some, StmtsRest, stmts_end, stmts_more}
use Rattle.model_syntax.specs.Scripts.{IsParameter, parameter_plain, parameter_typed, ParameterList, parameters_last, parameters_more, Parameters, no_parameters, some_parameters, IsFunction, function, IsTop, top_function, top_statement, TopsRest, tops_end, tops_more, Tops, tops_none, tops_some, IsScript}
use Rattle.model_syntax.specs.Scopes.{Mark, Marks, all, loop, callable, heads, block_if_any, block_begins, loop_begins, callable_begins, scope_ends, declares, declares_it, declares_function, breaks, continues, assignment_marks, choice_marks, entry_marks, expr_marks, part_marks, stmt_marks, suffix_marks, target_marks, arguments_marks, arm_marks, catch_marks, operand_marks, function_marks, top_marks, tree_marks}
use Rattle.model_syntax.specs.Scopes as scopes
use Rattle.model_syntax.proofs.ScopeLaws.{assignment-Write, assignment-Increment, assignment-Decrement, choice-IfTrue, choice-IfSet, entry-Named, entry-Numbered, entry-Computed, expr-Number, expr-Literal, expr-GString, expr-True, expr-False, expr-Null, expr-Variable, expr-Call, expr-Group, expr-List, expr-Map, expr-Closure, expr-New, expr-Suffixed, expr-Prefixed, expr-Joined, expr-And, expr-Or, expr-Chosen, part-Plain, part-Inner, stmt-If, stmt-While, stmt-ForEach, stmt-ForDeclared, stmt-ForSteps, stmt-Try, stmt-Declare, stmt-Assign, stmt-Evaluate, stmt-Return, stmt-Break, stmt-Continue, stmt-Throw, suffix-Property, suffix-Method, suffix-Index, target-ToName, target-ToProperty, target-ToIndex, arguments-is, arm-is, catch-is, operand-is}

-- The place of a mark, if it has one.
abbrev pub place_of : Mark → Option Place
place_of (declares d) = Some d.place
place_of (declares_function d) = Some d.place
place_of (breaks p) = Some p
place_of (continues p) = Some p
place_of m = None

-- From one token up to another stand these marks: each that has a place stands at a token, later ones at later tokens.
pub data Placed (P : Places) : Marks → ℕ → ℕ → Type 0 where
  placed_none : {a b : ℕ} → a ≤ b → Placed P [] a b
  placed_here : {m : Mark} {ms : Marks} {a b : ℕ} (k : ℕ) → place_of m ≡ Some (P k) → a ≤ k → Placed P ms (k + 1) b → Placed P (m ∷ ms) a b
  placed_apart : {m : Mark} {ms : Marks} {a b : ℕ} → place_of m ≡ None → Placed P ms a b → Placed P (m ∷ ms) a b

-- The marks of a tree that may be one part alone.
chosen-marks : (cs : List Choice) (e : Expr) → expr_marks (chosen cs e) ≡ all (map choice_marks cs) ++ expr_marks e
chosen-marks [] e = refl
chosen-marks (c ∷ cs) e = expr-Chosen (c ∷ cs) e

chained-marks : (l : Chain) (e : Expr) (es : List Expr) → expr_marks (chained l e es) ≡ expr_marks e ++ all (map expr_marks es)
chained-marks by_or e [] = sym (append-nil (expr_marks e))
chained-marks by_and e [] = sym (append-nil (expr_marks e))
chained-marks by_or e (f ∷ fs) = expr-Or (e ∷ f ∷ fs)
chained-marks by_and e (f ∷ fs) = expr-And (e ∷ f ∷ fs)

joined-marks : (e : Expr) (os : List Operand) → expr_marks (joined e os) ≡ expr_marks e ++ all (map operand_marks os)
joined-marks e [] = sym (append-nil (expr_marks e))
joined-marks e (o ∷ os) = expr-Joined e (o ∷ os)

suffixed-marks : (e : Expr) (ss : List Suffix) → expr_marks (suffixed e ss) ≡ expr_marks e ++ all (map suffix_marks ss)
suffixed-marks e [] = sym (append-nil (expr_marks e))
suffixed-marks e (s ∷ ss) = expr-Suffixed e (s ∷ ss)

prefixed-marks : (ps : List Prefix) (e : Expr) → expr_marks (prefixed ps e) ≡ expr_marks e
prefixed-marks [] e = refl
prefixed-marks (p ∷ ps) e = expr-Prefixed (p ∷ ps) e

-- the first part of a `for` with steps, and the whole of it
abbrev head_marks : Init → Marks
head_marks (head.Declare d v) = declares d ∷ expr_marks v
head_marks (head.Assign u) = assignment_marks u

for_steps-marks : (i : Init) (e : Expr) (u : Assignment) (ss : List Stmt) → stmt_marks (for_steps i e u ss) ≡ scopes.block (head_marks i ∷ expr_marks e ∷ assignment_marks u ∷ loop (map stmt_marks ss) ∷ [])
for_steps-marks (head.Declare d v) e u ss = stmt-ForDeclared d v e u ss
for_steps-marks (head.Assign i) e u ss = stmt-ForSteps i e u ss

all-append : (xs ys : List Marks) → all (xs ++ ys) ≡ all xs ++ all ys
all-append [] ys = refl
all-append (x ∷ xs) ys = ap (λ m. x ++ m) (all-append xs ys) ∙ sym (append_assoc x (all xs) (all ys))

with_closure-marks : (args : Arguments) (cs : List Expr) → arguments_marks (with_closure args cs) ≡ arguments_marks args ++ all (map expr_marks cs)
with_closure-marks args cs =
    arguments-is args.named (args.ordered ++ cs)
    ∙ ap (λ m. all (map entry_marks args.named) ++ m) (ap all (map-append expr_marks args.ordered cs) ∙ all-append (map expr_marks args.ordered) (map expr_marks cs))
    ∙ sym (append_assoc (all (map entry_marks args.named)) (all (map expr_marks args.ordered)) (all (map expr_marks cs)))
    ∙ ap (λ m. m ++ all (map expr_marks cs)) (sym (arguments-is args.named args.ordered))

module _ {K : Stream} where
  break-span : {a b : ℕ} → MayBreak K a b → a ≤ b
  break-span no_break = omega arith
  break-span (break k) = omega arith

  separate-span : {a b : ℕ} → MaySeparate K a b → a ≤ b
  separate-span no_separator = omega arith
  separate-span (separator_line k r) = omega (arith, separate-span r)
  separate-span (separator_sign k r) = omega (arith, separate-span r)

  separates-span : {a b : ℕ} → Separates K a b → a ≤ b
  separates-span (separates_line k r) = omega (arith, separate-span r)
  separates-span (separates_sign k r) = omega (arith, separate-span r)

  prefixes-span : {ps : List Prefix} {a b : ℕ} → Prefixes K ps a b → a ≤ b
  prefixes-span prefixes_none = omega arith
  prefixes-span (prefixes_more s i r) = omega (arith, prefixes-span r)

  comma-span : {a b : ℕ} → MayComma K a b → a ≤ b
  comma-span no_comma = omega arith
  comma-span (comma_behind k) = omega arith

module _ {P : Places} where
  pub span : {ms : Marks} {a b : ℕ} → Placed P ms a b → a ≤ b
  span (placed_none h) = h
  span (placed_here k e h p) = omega (arith, h, span p)
  span (placed_apart e p) = span p

  widen : {ms : Marks} {a b c d : ℕ} → Placed P ms b c → a ≤ b → c ≤ d → Placed P ms a d
  widen (placed_none h) l r = placed_none (omega (arith, h, l, r))
  widen (placed_here k e h p) l r = placed_here k e (omega (arith, h, l)) (widen p (omega arith) r)
  widen (placed_apart e p) l r = placed_apart e (widen p l r)

  left : {ms : Marks} {a b c : ℕ} → Placed P ms b c → a ≤ b → Placed P ms a c
  left p h = widen p h (omega arith)

  right : {ms : Marks} {a b c : ℕ} → Placed P ms a b → b ≤ c → Placed P ms a c
  right p h = widen p (omega arith) h

  join : {ms ns : Marks} {a b c : ℕ} → Placed P ms a b → Placed P ns b c → Placed P (ms ++ ns) a c
  join (placed_none h) q = left q h
  join (placed_here k e h p) q = placed_here k e h (join p q)
  join (placed_apart e p) q = placed_apart e (join p q)

  along : {ms ns : Marks} {a b : ℕ} → ms ≡ ns → Placed P ns a b → Placed P ms a b
  along {a = a} {b = b} e p = subst (λ m. Placed P m a b) (sym e) p

  alone : {ms : Marks} {a b : ℕ} → Placed P ms a b → Placed P (ms ++ []) a b
  alone p = join p (placed_none (omega arith))

  skip : {ms ns : Marks} {a b c : ℕ} → ms ≡ [] → Placed P ns b c → a ≤ b → Placed P (ms ++ ns) a c
  skip {ns = ns} e p h = along (ap (λ m. m ++ ns) e) (left p h)

  in_block : (ss : List Marks) {a b : ℕ} → Placed P (all ss) a b → Placed P (scopes.block ss) a b
  in_block ss p = placed_apart refl (join p (placed_apart refl (placed_none (omega arith))))

  in_loop : (ss : List Marks) {a b : ℕ} → Placed P (all ss) a b → Placed P (loop ss) a b
  in_loop ss p = placed_apart refl (join p (placed_apart refl (placed_none (omega arith))))

  in_callable : (ps ms : Marks) {a b c : ℕ} → Placed P ps a b → Placed P ms b c → Placed P (callable ps ms) a c
  in_callable ps ms p q = placed_apart refl (join p (join q (placed_apart refl (placed_none (omega arith)))))

  with_it : (ms : Marks) {a b : ℕ} → Placed P ms a b → Placed P (callable (heads None) ms) a b
  with_it ms p = placed_apart refl (placed_apart refl (join p (placed_apart refl (placed_none (omega arith)))))

module _ {K : Stream} {P : Places} where
  names : {ds : List Declared} {a b : ℕ} → NameList K P ds a b → Placed P (map declares ds) a b
  names (names_last {a = a} k) = placed_here a refl (omega arith) (placed_none (omega arith))
  names (names_more {a = a} k c r) = placed_here a refl (omega arith) (left (names r) (omega arith))

  head_names : {ds : List Declared} {a b : ℕ} → Heads K P ds a b → Placed P (map declares ds) a b
  head_names (heads_none k) = placed_none (omega arith)
  head_names (heads_names r k) = right (names r) (omega arith)
  head_names (heads_typed {a = a} t k s) = placed_here (a + 1) refl (omega arith) (placed_none (omega arith))

  dotted : {ss : List Suffix} {a b : ℕ} → Dotted K ss a b → Placed P (all (map suffix_marks ss)) a b
  dotted dotted_none = placed_none (omega arith)
  dotted (dotted_more d k r) = skip (suffix-Property _ _) (dotted r) (omega arith)

  caught_name : {c : Caught} {d : Declared} {a b : ℕ} → Catches K P c d a b → Placed P (declares d ∷ []) a b
  caught_name (catches_plain {a = a} o k c) = placed_here (a + 1) refl (omega arith) (placed_none (omega arith))
  caught_name (catches_exception {a = a} o t k c) = placed_here (a + 1 + 1) refl (omega arith) (placed_none (omega arith))
  caught_name (catches_throwable {a = a} o t k c) = placed_here (a + 1 + 1) refl (omega arith) (placed_none (omega arith))

  mutual
    expression : {r : Rank} {e : Expr} {a b : ℕ} → IsExpr K P r e a b → Placed P (expr_marks e) a b
    expression (whole {cs = cs} {e = e} c x) = along (chosen-marks cs e) (join (choices c) (expression x))
    expression (chain {l = l} {e = e} {es = es} x r) = along (chained-marks l e es) (join (expression x) (chain_rest r))
    expression (pair_alone x) = expression x
    expression (pair {o = o} {e = e} {f = f} x s i y) = along (joined-marks e (operand o f ∷ [])) (join (expression x) (alone (along (operand-is o f) (left (expression y) (omega arith)))))
    expression (terms {e = e} {os = os} x r) = along (joined-marks e os) (join (expression x) (terms_rest r))
    expression (unary {ps = ps} {e = e} {ss = ss} p x s) = along (prefixed-marks ps (suffixed e ss) ∙ suffixed-marks e ss) (left (join (primary x) (suffixes s)) (prefixes-span p))

    choices : {cs : List Choice} {a b : ℕ} → Choices K P cs a b → Placed P (all (map choice_marks cs)) a b
    choices choices_none = placed_none (omega arith)
    choices (choices_true {t = t} {v = v} x q y c r) = join (along (choice-IfTrue t v) (join (expression x) (left (expression y) (omega arith)))) (left (choices r) (omega arith))
    choices (choices_set {v = v} x q r) = join (along (choice-IfSet v) (expression x)) (left (choices r) (omega arith))

    chain_rest : {l : Chain} {es : List Expr} {a b : ℕ} → ChainRest K P l es a b → Placed P (all (map expr_marks es)) a b
    chain_rest chain_end = placed_none (omega arith)
    chain_rest (chain_more s x r) = join (left (expression x) (omega arith)) (chain_rest r)

    terms_rest : {l : Terms} {os : List Operand} {a b : ℕ} → TermsRest K P l os a b → Placed P (all (map operand_marks os)) a b
    terms_rest terms_end = placed_none (omega arith)
    terms_rest (terms_more {o = o} {e = e} s i x r) = join (along (operand-is o e) (left (expression x) (omega arith))) (terms_rest r)

    suffixes : {ss : List Suffix} {a b : ℕ} → Suffixes K P ss a b → Placed P (all (map suffix_marks ss)) a b
    suffixes suffixes_none = placed_none (omega arith)
    suffixes (suffixes_property {d = d} {n = n} s k r) = skip (suffix-Property d n) (suffixes r) (omega arith)
    suffixes (suffixes_method {d = d} {n = n} {args = args} s k c r) = join (along (suffix-Method d n args) (left (call c) (omega arith))) (suffixes r)
    suffixes (suffixes_index {e = e} o x c r) = join (along (suffix-Index e) (left (expression x) (omega arith))) (left (suffixes r) (omega arith))

    call : {args : Arguments} {a b : ℕ} → IsCall K P args a b → Placed P (arguments_marks args) a b
    call (call_empty {cs = cs} o c m) = along (arguments-is [] cs) (left (may_close m) (omega arith))
    call (call_some {args = args} {cs = cs} o x c m) = along (with_closure-marks args cs) (join (left (arguments x) (omega arith)) (left (may_close m) (omega arith)))
    call (call_closure {e = e} x) = along (arguments-is [] (e ∷ [])) (alone (closure x))

    may_close : {cs : List Expr} {a b : ℕ} → MayClose K P cs a b → Placed P (all (map expr_marks cs)) a b
    may_close no_closure = placed_none (omega arith)
    may_close (closure_behind x) = alone (closure x)

    arguments : {args : Arguments} {a b : ℕ} → IsArguments K P args a b → Placed P (arguments_marks args) a b
    arguments (arguments_named {es = es} i r) = along (arguments-is es []) (alone (named_list r))
    arguments (arguments_ordered {es = es} i r) = along (arguments-is [] es) (expr_list r)

    named : {e : Entry} {a b : ℕ} → IsNamed K P e a b → Placed P (entry_marks e) a b
    named (named_by_name {n = n} {e = e} k c x) = along (entry-Named n e) (left (expression x) (omega arith))
    named (named_by_text {t = t} {e = e} k c x) = along (entry-Named t e) (left (expression x) (omega arith))

    named_list : {es : List Entry} {a b : ℕ} → NamedList K P es a b → Placed P (all (map entry_marks es)) a b
    named_list (named_last x) = alone (named x)
    named_list (named_more x c r) = join (named x) (left (named_list r) (omega arith))

    expr_list : {es : List Expr} {a b : ℕ} → ExprList K P es a b → Placed P (all (map expr_marks es)) a b
    expr_list (exprs_last x) = alone (expression x)
    expr_list (exprs_more x c r) = join (expression x) (left (expr_list r) (omega arith))

    primary : {e : Expr} {a b : ℕ} → IsPrimary K P e a b → Placed P (expr_marks e) a b
    primary (primary_number {v = v} k) = along (expr-Number v) (placed_none (omega arith))
    primary (primary_text {t = t} k) = along (expr-Literal t) (placed_none (omega arith))
    primary (primary_gstring {ps = ps} g) = along (expr-GString ps) (inner g)
    primary (primary_true k) = along expr-True (placed_none (omega arith))
    primary (primary_false k) = along expr-False (placed_none (omega arith))
    primary (primary_null k) = along expr-Null (placed_none (omega arith))
    primary (primary_name {n = n} k) = along (expr-Variable n) (placed_none (omega arith))
    primary (primary_call {n = n} {args = args} k c) = along (expr-Call n args) (left (call c) (omega arith))
    primary (primary_group {e = e} o x c) = along (expr-Group e) (widen (expression x) (omega arith) (omega arith))
    primary (primary_no_list o c) = along (expr-List []) (placed_none (omega arith))
    primary (primary_list {es = es} o r m c) = along (expr-List es) (widen (expr_list r) (omega arith) (omega (arith, comma-span m)))
    primary (primary_no_map o m c) = along (expr-Map []) (placed_none (omega arith))
    primary (primary_map {es = es} o r m c) = along (expr-Map es) (widen (entry_list r) (omega arith) (omega (arith, comma-span m)))
    primary (primary_closure x) = closure x
    primary (primary_new {c = c} w n o k) = along (expr-New c None) (placed_none (omega arith))
    primary (primary_new_with {c = c} {e = e} w n o x k) = along (expr-New c (Some e)) (widen (expression x) (omega arith) (omega arith))

    inner : {ps : List Part} {a b : ℕ} → IsGString K P ps a b → Placed P (all (map part_marks ps)) a b
    inner (gstring o r c) = widen (parts r) (omega arith) (omega arith)

    parts : {ps : List Part} {a b : ℕ} → Parts K P ps a b → Placed P (all (map part_marks ps)) a b
    parts parts_none = placed_none (omega arith)
    parts (parts_plain {t = t} k r) = skip (part-Plain t) (parts r) (omega arith)
    parts (parts_braces {e = e} o x c r) = join (along (part-Inner e) (left (expression x) (omega arith))) (left (parts r) (omega arith))
    parts (parts_path {n = n} {ss = ss} o k d r) = join (along (part-Inner (suffixed (Variable n) ss) ∙ suffixed-marks (Variable n) ss) (skip (expr-Variable n) (dotted d) (omega arith))) (parts r)

    entry : {e : Entry} {a b : ℕ} → IsEntry K P e a b → Placed P (entry_marks e) a b
    entry (entry_named x) = named x
    entry (entry_number {v = v} {e = e} k c x) = along (entry-Numbered v e) (left (expression x) (omega arith))
    entry (entry_gstring {ps = ps} {e = e} g c x) = along (entry-Computed _ e) (join (along (expr-GString ps) (inner g)) (left (expression x) (omega arith)))
    entry (entry_group {k = k} {e = e} o y c s x) = along (entry-Computed k e) (join (left (expression y) (omega arith)) (left (expression x) (omega arith)))

    entry_list : {es : List Entry} {a b : ℕ} → EntryList K P es a b → Placed P (all (map entry_marks es)) a b
    entry_list (entries_last x) = alone (entry x)
    entry_list (entries_more x c r) = join (entry x) (left (entry_list r) (omega arith))

    closure : {e : Expr} {a b : ℕ} → IsClosure K P e a b → Placed P (expr_marks e) a b
    closure (closure_headed {ds = ds} {ss = ss} o h x r c) = along (expr-Closure (Some ds) ss) (widen (in_callable (map declares ds) (all (map stmt_marks ss)) (head_names x) (stmts r)) (omega arith) (omega arith))
    closure (closure_plain {ss = ss} o h r c) = along (expr-Closure None ss) (widen (with_it (all (map stmt_marks ss)) (stmts r)) (omega arith) (omega arith))

    whole_value : {e : Expr} {a b : ℕ} → IsWhole K P e a b → Placed P (expr_marks e) a b
    whole_value (whole_call {n = n} {args = args} i k x) = along (expr-Call n args) (left (arguments x) (omega arith))
    whole_value (whole_expr i x) = expression x

    target : {t : Target} {a b : ℕ} → IsTarget K P t a b → Placed P (target_marks t) a b
    target (target_name {n = n} k) = along (target-ToName n) (placed_none (omega arith))
    target (target_property {e = e} {ss = ss} {n = n} x s d k) = along (target-ToProperty (suffixed e ss) n ∙ suffixed-marks e ss) (right (join (primary x) (suffixes s)) (omega arith))
    target (target_index {e = e} {i = i} {ss = ss} x s o y c) = along (target-ToIndex (suffixed e ss) i ∙ ap (λ m. m ++ expr_marks i) (suffixed-marks e ss)) (join (join (primary x) (suffixes s)) (widen (expression y) (omega arith) (omega arith)))

    assign : {u : Assignment} {a b : ℕ} → IsAssign K P u a b → Placed P (assignment_marks u) a b
    assign (assign_value {t = t} {o = o} {e = e} x s i y) = along (assignment-Write t o e) (join (target x) (left (whole_value y) (omega arith)))
    assign (assign_up {t = t} x s) = along (assignment-Increment t) (right (target x) (omega arith))
    assign (assign_down {t = t} x s) = along (assignment-Decrement t) (right (target x) (omega arith))

    simple : {s : Stmt} {a b : ℕ} → IsSimple K P s a b → Placed P (stmt_marks s) a b
    simple (simple_def {n = n} {a = a} w k) = along (stmt-Declare (declared n (P (a + 1))) None) (placed_here (a + 1) refl (omega arith) (placed_none (omega arith)))
    simple (simple_declare {n = n} {e = e} {a = a} t k s x) = along (stmt-Declare (declared n (P (a + 1))) (Some e)) (placed_here (a + 1) refl (omega arith) (left (whole_value x) (omega arith)))
    simple (simple_assign {u = u} n x) = along (stmt-Assign u) (assign x)
    simple (simple_evaluate {e = e} n x) = along (stmt-Evaluate e) (whole_value x)
    simple (simple_return w) = along (stmt-Return None) (placed_none (omega arith))
    simple (simple_return_value {e = e} w x) = along (stmt-Return (Some e)) (left (whole_value x) (omega arith))
    simple (simple_break {a = a} w) = along (stmt-Break (P a)) (placed_here a refl (omega arith) (placed_none (omega arith)))
    simple (simple_continue {a = a} w) = along (stmt-Continue (P a)) (placed_here a refl (omega arith) (placed_none (omega arith)))
    simple (simple_throw {e = e} w x) = along (stmt-Throw e) (left (expression x) (omega arith))

    statement : {s : Stmt} {a b : ℕ} → IsStmt K P s a b → Placed P (stmt_marks s) a b
    statement (stmt_if {t = t} {ts = ts} {o = o} x r l) = along (stmt-If (t ∷ ts) o) (join (join (if_arm x) (else_ifs r)) (may_else l))
    statement (stmt_while {e = e} {ss = ss} w o x c m r) = along (stmt-While e ss) (join (left (expression x) (omega arith)) (left (in_loop (map stmt_marks ss) (body r)) (omega (arith, break-span m))))
    statement (stmt_for_each {d = d} {e = e} {ss = ss} w o x c m r) =
        along (stmt-ForEach d e ss) (in_block ((declares d ∷ []) ∷ expr_marks e ∷ loop (map stmt_marks ss) ∷ [])
        (join (left (each x) (omega arith)) (left (alone (in_loop (map stmt_marks ss) (body r))) (omega (arith, break-span m)))))
    statement (stmt_for_steps {i = i} {u = u} {e = e} {ss = ss} w o x s y t z c m r) =
        along (for_steps-marks i e u ss) (in_block (head_marks i ∷ expr_marks e ∷ assignment_marks u ∷ loop (map stmt_marks ss) ∷ [])
        (join (left (init x) (omega arith)) (join (left (expression y) (omega arith)) (join (left (assign z) (omega arith)) (left (alone (in_loop (map stmt_marks ss) (body r))) (omega (arith, break-span m)))))))
    statement (stmt_try_catch {ss = ss} {c = c} {cs = cs} {o = o} w m x y r f) =
        along (stmt-Try ss (c ∷ cs) o) (join (left (in_block (map stmt_marks ss) (block_body x)) (omega (arith, break-span m))) (join (join (catch_block y) (catch_list r)) (may_finally f)))
    statement (stmt_try_finally {ss = ss} {ts = ts} w m x f) =
        along (stmt-Try ss [] (Some ts)) (join (left (in_block (map stmt_marks ss) (block_body x)) (omega (arith, break-span m))) (finally_block f))
    statement (stmt_simple x) = simple x

    if_arm : {t : Arm} {a b : ℕ} → IsArm K P t a b → Placed P (arm_marks t) a b
    if_arm (arm {e = e} {ss = ss} w o x c m r) = along (arm-is e ss) (join (left (expression x) (omega arith)) (left (in_block (map stmt_marks ss) (body r)) (omega (arith, break-span m))))

    else_ifs : {ts : List Arm} {a b : ℕ} → ElseIfs K P ts a b → Placed P (all (map arm_marks ts)) a b
    else_ifs no_else_if = placed_none (omega arith)
    else_ifs (else_if w x r) = join (left (if_arm x) (omega arith)) (else_ifs r)

    may_else : {o : Option (List Stmt)} {a b : ℕ} → MayElse K P o a b → Placed P (block_if_any (option_map (map stmt_marks) o)) a b
    may_else no_else = placed_none (omega arith)
    may_else (else_body {ss = ss} w m r) = left (in_block (map stmt_marks ss) (body r)) (omega (arith, break-span m))

    each : {d : Declared} {e : Expr} {a b : ℕ} → IsEach K P d e a b → Placed P (declares d ∷ expr_marks e) a b
    each (each_plain {a = a} k w x) = placed_here a refl (omega arith) (left (expression x) (omega arith))
    each (each_typed {a = a} t k w x) = placed_here (a + 1) refl (omega arith) (left (expression x) (omega arith))

    init : {i : Init} {a b : ℕ} → IsInit K P i a b → Placed P (head_marks i) a b
    init (init_declare {a = a} t k s x) = placed_here (a + 1) refl (omega arith) (left (whole_value x) (omega arith))
    init (init_assign x) = assign x

    catch_block : {c : Catch} {a b : ℕ} → IsCatch K P c a b → Placed P (catch_marks c) a b
    catch_block (catch {c = c} {d = d} {ss = ss} w x m r) = along (catch-is c d ss) (in_block ((declares d ∷ []) ∷ map stmt_marks ss) (join (left (caught_name x) (omega arith)) (left (block_body r) (break-span m))))

    catch_list : {cs : List Catch} {a b : ℕ} → CatchList K P cs a b → Placed P (all (map catch_marks cs)) a b
    catch_list no_catch = placed_none (omega arith)
    catch_list (catch_more x r) = join (catch_block x) (catch_list r)

    finally_block : {ss : List Stmt} {a b : ℕ} → IsFinally K P ss a b → Placed P (scopes.block (map stmt_marks ss)) a b
    finally_block (finally {ss = ss} w m r) = left (in_block (map stmt_marks ss) (block_body r)) (omega (arith, break-span m))

    may_finally : {o : Option (List Stmt)} {a b : ℕ} → MayFinally K P o a b → Placed P (block_if_any (option_map (map stmt_marks) o)) a b
    may_finally no_finally = placed_none (omega arith)
    may_finally (finally_behind x) = finally_block x

    body : {ss : List Stmt} {a b : ℕ} → IsBody K P ss a b → Placed P (all (map stmt_marks ss)) a b
    body (body_block x) = block_body x
    body (body_simple x) = alone (simple x)

    block_body : {ss : List Stmt} {a b : ℕ} → IsBlock K P ss a b → Placed P (all (map stmt_marks ss)) a b
    block_body (block o r c) = widen (stmts r) (omega arith) (omega arith)

    stmts : {ss : List Stmt} {a b : ℕ} → IsStmts K P ss a b → Placed P (all (map stmt_marks ss)) a b
    stmts (stmts_none m) = placed_none (separate-span m)
    stmts (stmts_some m x r) = left (join (statement x) (stmts_rest r)) (separate-span m)

    stmts_rest : {ss : List Stmt} {a b : ℕ} → StmtsRest K P ss a b → Placed P (all (map stmt_marks ss)) a b
    stmts_rest (stmts_end m) = placed_none (separate-span m)
    stmts_rest (stmts_more m x r) = left (join (statement x) (stmts_rest r)) (separates-span m)

  parameter : {d : Declared} {a b : ℕ} → IsParameter K P d a b → Placed P (declares d ∷ []) a b
  parameter (parameter_plain {a = a} k) = placed_here a refl (omega arith) (placed_none (omega arith))
  parameter (parameter_typed {a = a} t k) = placed_here (a + 1) refl (omega arith) (placed_none (omega arith))

  parameter_list : {ds : List Declared} {a b : ℕ} → ParameterList K P ds a b → Placed P (map declares ds) a b
  parameter_list (parameters_last x) = parameter x
  parameter_list (parameters_more x c r) = join (parameter x) (left (parameter_list r) (omega arith))

  parameters : {ds : List Declared} {a b : ℕ} → Parameters K P ds a b → Placed P (map declares ds) a b
  parameters no_parameters = placed_none (omega arith)
  parameters (some_parameters r) = parameter_list r

  whole_function : {f : Function} {a b : ℕ} → IsFunction K P f a b → Placed P (function_marks f) a b
  whole_function (function {ds = ds} {ss = ss} {a = a} r k o p c m x) =
      placed_here (a + 1) refl (omega arith) (in_callable (map declares ds) (all (map stmt_marks ss)) (left (parameters p) (omega arith)) (left (block_body x) (omega (arith, break-span m))))

  top : {t : Top} {a b : ℕ} → IsTop K P t a b → Placed P (top_marks t) a b
  top (top_function x) = whole_function x
  top (top_statement x) = statement x

  tops_rest : {ts : List Top} {a b : ℕ} → TopsRest K P ts a b → Placed P (all (map top_marks ts)) a b
  tops_rest (tops_end m) = placed_none (separate-span m)
  tops_rest (tops_more m x r) = left (join (top x) (tops_rest r)) (separates-span m)

  pub tops : {ts : List Top} {a b : ℕ} → Tops K P ts a b → Placed P (all (map top_marks ts)) a b
  tops (tops_none m s) = placed_none (omega (arith, break-span m, separate-span s))
  tops (tops_some m x r) = left (join (top x) (tops_rest r)) (break-span m)

-- The marks of a script of the grammar stand at its tokens, one behind the other.
pub script-placed : {P : Places} {tree : Tree} (ks : List TokenKind) → IsScript ks P tree → Placed P (tree_marks tree) 0 (length ks)
script-placed ks s = tops s
