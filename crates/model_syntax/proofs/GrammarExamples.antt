-- Derivations of four scripts of different shape, from their tokens.
use Rattle.std.proofs.Common.{ℕ, List, [], ◌∷◌, refl, Some, pos}
use Rattle.std.specs.Prelude.{codes}
use Rattle.model_syntax.specs.declared.sign.Sign.{Sign}
use Rattle.model_syntax.specs.declared.sign.Sign.TheVariants as sign
use Rattle.model_syntax.specs.declared.word.Word.TheVariants as word
use Rattle.model_syntax.specs.declared.token.TokenKind.{TokenKind}
use Rattle.model_syntax.specs.declared.token.TokenKind.TheVariants as kind
use Rattle.model_syntax.specs.declared.tree.Access.TheVariants.{Direct}
use Rattle.model_syntax.specs.declared.tree.AssignSign.TheVariants.{Set}
use Rattle.model_syntax.specs.declared.tree.Assignment.TheVariants.{Write}
use Rattle.model_syntax.specs.declared.tree.Caught.TheVariants.{Exceptions}
use Rattle.model_syntax.specs.declared.tree.Expr.TheVariants as expr
use Rattle.model_syntax.specs.declared.tree.Stmt.TheVariants as stmt
use Rattle.model_syntax.specs.declared.tree.Target.TheVariants.{ToName}
use Rattle.model_syntax.specs.declared.tree.Suffix.TheVariants.{Method}
use Rattle.model_syntax.specs.declared.tree.Entry.TheVariants.{Named, Numbered, Computed}
use Rattle.model_syntax.specs.declared.tree.Arguments.{Arguments}
use Rattle.model_syntax.specs.declared.tree.Top.TheVariants.{Statement}
use Rattle.model_syntax.specs.Stream.{Places, declared}
use Rattle.model_syntax.specs.Grammar.{no_break, no_separator, heads_names, names_last, catches_exception, suffixes_none, suffixes_method, call_empty, call_closure, no_closure, arguments_ordered, exprs_last, primary_number, primary_text, primary_name, primary_call, primary_map, no_comma, named_by_name, entry_named, entry_number, entry_group, entries_last, entries_more, closure_headed, whole_call, whole_expr, target_name, assign_value, simple_declare, type_def, simple_assign, simple_evaluate, stmt_simple, stmt_if, arm, else_if, no_else_if, else_body, stmt_try_catch, catch, no_catch, finally, finally_behind, body_block, body_simple, block, stmts_none, stmts_some, stmts_end, dot}
use Rattle.model_syntax.specs.Scripts.{IsScript, tops_some, tops_end, top_statement}
use Rattle.model_syntax.proofs.GrammarLemmas.{just, with_suffixes}

abbrev pub n : List ℕ → TokenKind
n t = kind.Name t

abbrev pub s : Sign → TokenKind
s x = kind.Sign x

abbrev pub no_arguments : Arguments
no_arguments = record { named = []; ordered = [] }

-- `if (a) b() else if (c) { } else d = 1`
abbrev pub if_tokens : List TokenKind
if_tokens =
    kind.Word word.If ∷ s sign.ParenOpen ∷ n (codes "a") ∷ s sign.ParenClose ∷ n (codes "b") ∷ s sign.ParenOpen ∷ s sign.ParenClose ∷
    kind.Word word.Else ∷ kind.Word word.If ∷ s sign.ParenOpen ∷ n (codes "c") ∷ s sign.ParenClose ∷ s sign.BraceOpen ∷ s sign.BraceClose ∷
    kind.Word word.Else ∷ n (codes "d") ∷ s sign.Assign ∷ kind.Int (pos 1) ∷ []

pub if_script : (P : Places) → IsScript if_tokens P (record {
  tops = Statement (P 0) (stmt.If (
      record { test = expr.Variable (codes "a"); body = stmt.Evaluate (expr.Call (codes "b") no_arguments) ∷ [] } ∷
      record { test = expr.Variable (codes "c"); body = [] } ∷ [])
      (Some (stmt.Assign (Write (ToName (codes "d")) Set (expr.Number (pos 1))) ∷ []))) ∷ [];
})
if_script P = tops_some no_break (top_statement (stmt_if
    (arm refl refl (just (primary_name refl)) refl no_break (body_simple (simple_evaluate (λ e. cc) (whole_expr refl (just (primary_call refl (call_empty refl refl no_closure)))))))
    (else_if refl (arm refl refl (just (primary_name refl)) refl no_break (body_block (block refl (stmts_none no_separator) refl))) no_else_if)
    (else_body refl no_break (body_simple (simple_assign (λ e. cc) (assign_value (target_name refl) refl refl (whole_expr refl (just (primary_number refl)))))))))
    (tops_end no_separator)

-- `xs.each { x -> echo x }`
abbrev pub closure_tokens : List TokenKind
closure_tokens =
    n (codes "xs") ∷ s sign.Dot ∷ n (codes "each") ∷ s sign.BraceOpen ∷ n (codes "x") ∷ s sign.Arrow ∷ n (codes "echo") ∷ n (codes "x") ∷ s sign.BraceClose ∷ []

pub closure_script : (P : Places) → IsScript closure_tokens P (record {
  tops = Statement (P 0) (stmt.Evaluate (
      expr.Suffixed (expr.Variable (codes "xs")) (Method Direct (codes "each") (record {
        named = [];
        ordered =
            expr.Closure (Some (declared (codes "x") (P 4) ∷ [])) (stmt.Evaluate (expr.Call (codes "echo") (record { named = []; ordered = expr.Variable (codes "x") ∷ [] })) ∷ []) ∷ [];
      }) ∷ []))) ∷ [];
})
closure_script P = tops_some no_break (top_statement (stmt_simple (simple_evaluate (λ e. cc) (whole_expr refl (with_suffixes (primary_name refl)
    (suffixes_method (dot refl) refl (call_closure (closure_headed refl refl (heads_names (names_last refl) refl)
    (stmts_some no_separator (stmt_simple (simple_evaluate (λ e. cc) (whole_call refl refl (arguments_ordered refl (exprs_last (just (primary_name refl))))))) (stmts_end no_separator))
    refl)) suffixes_none))))))
    (tops_end no_separator)

-- `def m = [a: 1, 2: 'b', (c): d]`
abbrev pub map_tokens : List TokenKind
map_tokens =
    kind.Word word.Def ∷ n (codes "m") ∷ s sign.Assign ∷ s sign.BracketOpen ∷ n (codes "a") ∷ s sign.Colon ∷ kind.Int (pos 1) ∷ s sign.Comma ∷
    kind.Int (pos 2) ∷ s sign.Colon ∷ kind.Text (codes "b") ∷ s sign.Comma ∷ s sign.ParenOpen ∷ n (codes "c") ∷ s sign.ParenClose ∷ s sign.Colon ∷
    n (codes "d") ∷ s sign.BracketClose ∷ []

pub map_script : (P : Places) → IsScript map_tokens P (record {
  tops = Statement (P 0) (stmt.Declare (declared (codes "m") (P 1)) (Some (expr.Map (
      Named (codes "a") (expr.Number (pos 1)) ∷ Numbered (pos 2) (expr.Literal (codes "b")) ∷ Computed (expr.Variable (codes "c")) (expr.Variable (codes "d")) ∷ [])))) ∷ [];
})
map_script P = tops_some no_break (top_statement (stmt_simple (simple_declare (type_def refl) refl refl (whole_expr refl (just (primary_map refl
    (entries_more (entry_named (named_by_name refl refl (just (primary_number refl)))) refl
    (entries_more (entry_number refl refl (just (primary_text refl))) refl
    (entries_last (entry_group refl (just (primary_name refl)) refl refl (just (primary_name refl)))))) no_comma refl))))))
    (tops_end no_separator)

-- `try { a() } catch (Exception e) { } finally { b() }`
abbrev pub try_tokens : List TokenKind
try_tokens =
    kind.Word word.Try ∷ s sign.BraceOpen ∷ n (codes "a") ∷ s sign.ParenOpen ∷ s sign.ParenClose ∷ s sign.BraceClose ∷
    kind.Word word.Catch ∷ s sign.ParenOpen ∷ n (codes "Exception") ∷ n (codes "e") ∷ s sign.ParenClose ∷ s sign.BraceOpen ∷ s sign.BraceClose ∷
    kind.Word word.Finally ∷ s sign.BraceOpen ∷ n (codes "b") ∷ s sign.ParenOpen ∷ s sign.ParenClose ∷ s sign.BraceClose ∷ []

pub try_script : (P : Places) → IsScript try_tokens P (record {
  tops = Statement (P 0) (stmt.Try
      (stmt.Evaluate (expr.Call (codes "a") no_arguments) ∷ [])
      (record { caught = Exceptions; name = declared (codes "e") (P 9); body = [] } ∷ [])
      (Some (stmt.Evaluate (expr.Call (codes "b") no_arguments) ∷ []))) ∷ [];
})
try_script P = tops_some no_break (top_statement (stmt_try_catch refl no_break (block refl (stmts_some no_separator (stmt_simple (simple_evaluate (λ e. cc) (whole_expr refl (just (primary_call refl (call_empty refl refl no_closure)))))) (stmts_end no_separator)) refl)
    (catch refl (catches_exception refl refl refl refl) no_break (block refl (stmts_none no_separator) refl)) no_catch
    (finally_behind (finally refl no_break (block refl (stmts_some no_separator (stmt_simple (simple_evaluate (λ e. cc) (whole_expr refl (just (primary_call refl (call_empty refl refl no_closure)))))) (stmts_end no_separator)) refl)))))
    (tops_end no_separator)
