-- A script without a tree, and where its first fault stands: `while )` goes wrong at its second token.
use Rattle.std.proofs.Common.{◌≡◌, ℕ, zero, suc, ◌<◌, List, [], ◌∷◌, take, refl, sym, ap, ◌∙◌, arith, Option, Some, pos, inr, slice_get}
use Rattle.std.specs.Prelude.{codes}
use Rattle.std.proofs.lemmas.Bool.{true≢false}
use Rattle.std.proofs.lemmas.Option.{slice_get_within}
use Rattle.model_syntax.specs.declared.fault.FaultKind.TheVariants.{UnexpectedToken}
use Rattle.model_syntax.specs.declared.sign.Sign.TheVariants as sign
use Rattle.model_syntax.specs.declared.word.Word.TheVariants as word
use Rattle.model_syntax.specs.declared.token.TokenKind.{TokenKind}
use Rattle.model_syntax.specs.declared.token.TokenKind.TheVariants as kind
use Rattle.model_syntax.specs.declared.token.Token.{Token}
use Rattle.model_syntax.specs.declared.tree.Expr.TheVariants as expr
use Rattle.model_syntax.specs.declared.tree.Stmt.{Stmt}
use Rattle.model_syntax.specs.declared.tree.Stmt.TheVariants as stmt
use Rattle.model_syntax.specs.declared.tree.Top.{Top}
use Rattle.model_syntax.specs.declared.tree.Top.TheVariants.{Statement}
use Rattle.model_syntax.specs.Source.{Source, byte_at}
use Rattle.model_syntax.specs.Places.{line_at, column_at}
use Rattle.model_syntax.specs.OpenBrackets.{depth, innermost_text}
use Rattle.model_syntax.specs.Reading.{reads_code, code_blank, blank}
use Rattle.model_syntax.specs.Newlines.{kept, next_goes_on}
use Rattle.model_syntax.specs.Tokens.{raw_none, raw_more, Lexed}
use Rattle.model_syntax.specs.Stream.{Stream, Places, kind_at, kinds_of, places_of}
use Rattle.model_syntax.specs.Grammar.{no_break, break, no_separator, separator_line, separator_sign, type_def, type_name, primary_number, IsSimple, simple_def, simple_declare, simple_assign, simple_evaluate, simple_return, simple_return_value, simple_break, simple_continue, simple_throw, IsStmt, stmt_if, stmt_while, stmt_for_each, stmt_for_steps, stmt_try_catch, stmt_try_finally, stmt_simple, arm, body_block, block, stmts_none}
use Rattle.model_syntax.specs.Scripts.{Tops, tops_none, tops_some, tops_end, IsTop, top_function, top_statement, function, result_def, result_void}
use Rattle.model_syntax.specs.FirstFault.{BeginsScript, NoScriptThrough, SyntaxPlace, FirstFault, first_token}
use Rattle.model_syntax.proofs.StepLemmas.{reads_word, reads_sign, is_pair}
use Rattle.model_syntax.proofs.GrammarLemmas.{just, begins_expr, assign_begins, whole_begins}
use Rattle.model_syntax.proofs.TokenExamples.{at}

script : Source
script = byte_at (codes "while )")

abbrev pub tokens : List Token
tokens = at (kind.Word word.While) 0 5 1 1 ∷ at (kind.Sign sign.ParenClose) 6 7 1 7 ∷ []

pub lexed : Lexed (codes "while )") tokens
unfolding script is_pair depth kept next_goes_on line_at column_at innermost_text
lexed = record {
  raw = _;
  open_at_end = _;
  end = _;
  reads =
      raw_more _ (reads_word script [] 0 word.While tt (refl, (refl, (refl, (refl, (refl, tt))))) refl) (
      raw_more _ (reads_code tt (code_blank (blank refl refl))) (
      raw_more _ (reads_sign script [] 6 sign.ParenClose tt (refl, tt) (inr refl) (λ e. absurd (cc)))
      raw_none));
  ends = refl;
  closed = refl;
  newlines = refl;
}

-- `while` begins a script: `while (1) { }` is one.
pub begins : (P : Places) → BeginsScript P (kind.Word word.While ∷ [])
begins P = record {
  closing = kind.Sign sign.ParenOpen ∷ kind.Int (pos 1) ∷ kind.Sign sign.ParenClose ∷ kind.Sign sign.BraceOpen ∷ kind.Sign sign.BraceClose ∷ [];
  tree = record { tops = Statement (P 0) (stmt.While (expr.Number (pos 1)) []) ∷ [] };
  script = tops_some no_break (top_statement (stmt_while refl refl (just (primary_number refl)) refl no_break (body_block (block refl (stmts_none no_separator) refl)))) (tops_end no_separator);
}

get-take : {A : Type 0} (k n : ℕ) (xs : List A) → k < n → slice_get (take n xs) k ≡ slice_get xs k
get-take k zero xs h = absurd (let c : ⊥ = omega (arith, h) in c)
get-take k (suc n) [] h = refl
get-take zero (suc n) (x ∷ xs) h = refl
get-take (suc k) (suc n) (x ∷ xs) h = get-take k n xs (omega (arith, h))

-- No statement begins with `while )`.
no_simple : {K : Stream} {P : Places} {s : Stmt} {b : ℕ} → K 0 ≡ Some (kind.Word word.While) → IsSimple K P s 0 b → ⊥
no_simple w (simple_def d n) = let k : Some (kind.Word word.While) ≡ Some (kind.Word word.Def) = sym w ∙ d in cc
no_simple w (simple_declare (type_def d) n e r) = let k : Some (kind.Word word.While) ≡ Some (kind.Word word.Def) = sym w ∙ d in cc
no_simple w (simple_declare (type_name {t = t} d) n e r) = let k : Some (kind.Word word.While) ≡ Some (kind.Name t) = sym w ∙ d in cc
no_simple w (simple_assign n r) = true≢false (sym (assign_begins r) ∙ ap begins_expr w)
no_simple w (simple_evaluate n r) = true≢false (sym (whole_begins r) ∙ ap begins_expr w)
no_simple w (simple_return r) = let k : Some (kind.Word word.While) ≡ Some (kind.Word word.Return) = sym w ∙ r in cc
no_simple w (simple_return_value r e) = let k : Some (kind.Word word.While) ≡ Some (kind.Word word.Return) = sym w ∙ r in cc
no_simple w (simple_break r) = let k : Some (kind.Word word.While) ≡ Some (kind.Word word.Break) = sym w ∙ r in cc
no_simple w (simple_continue r) = let k : Some (kind.Word word.While) ≡ Some (kind.Word word.Continue) = sym w ∙ r in cc
no_simple w (simple_throw r e) = let k : Some (kind.Word word.While) ≡ Some (kind.Word word.Throw) = sym w ∙ r in cc

no_statement : {K : Stream} {P : Places} {s : Stmt} {b : ℕ} → K 0 ≡ Some (kind.Word word.While) → K 1 ≡ Some (kind.Sign sign.ParenClose) → IsStmt K P s 0 b → ⊥
no_statement w c (stmt_if (arm i o e p k b) ts r) = let k : Some (kind.Word word.While) ≡ Some (kind.Word word.If) = sym w ∙ i in cc
no_statement w c (stmt_while i o e p k b) = let k : Some (kind.Sign sign.ParenClose) ≡ Some (kind.Sign sign.ParenOpen) = sym c ∙ o in cc
no_statement w c (stmt_for_each i o e p k b) = let k : Some (kind.Word word.While) ≡ Some (kind.Word word.For) = sym w ∙ i in cc
no_statement w c (stmt_for_steps i o n x e y u p k b) = let k : Some (kind.Word word.While) ≡ Some (kind.Word word.For) = sym w ∙ i in cc
no_statement w c (stmt_try_catch i k b t ts f) = let k : Some (kind.Word word.While) ≡ Some (kind.Word word.Try) = sym w ∙ i in cc
no_statement w c (stmt_try_finally i k b f) = let k : Some (kind.Word word.While) ≡ Some (kind.Word word.Try) = sym w ∙ i in cc
no_statement w c (stmt_simple s) = no_simple w s

no_top : {K : Stream} {P : Places} {t : Top} {b : ℕ} → K 0 ≡ Some (kind.Word word.While) → K 1 ≡ Some (kind.Sign sign.ParenClose) → IsTop K P t 0 b → ⊥
no_top w c (top_function (function (result_def d) n o ps p k b)) = let k : Some (kind.Word word.While) ≡ Some (kind.Word word.Def) = sym w ∙ d in cc
no_top w c (top_function (function (result_void d) n o ps p k b)) = let k : Some (kind.Word word.While) ≡ Some (kind.Word word.Void) = sym w ∙ d in cc
no_top w c (top_statement s) = no_statement w c s

no_newline : (x : Option TokenKind) → x ≡ Some (kind.Word word.While) → x ≡ Some kind.Newline → ⊥
no_newline x w e = let k : Some (kind.Word word.While) ≡ Some kind.Newline = sym w ∙ e in cc

no_tops : {K : Stream} {P : Places} {ts : List Top} {b : ℕ} → K 0 ≡ Some (kind.Word word.While) → K 1 ≡ Some (kind.Sign sign.ParenClose) → 0 < b → Tops K P ts 0 b → ⊥
no_tops w c h (tops_none no_break no_separator) = omega (arith, h)
no_tops w c h (tops_none no_break (separator_line e r)) = no_newline _ w e
no_tops w c h (tops_none no_break (separator_sign e r)) = let k : Some (kind.Word word.While) ≡ Some (kind.Sign sign.Semicolon) = sym w ∙ e in cc
no_tops w c h (tops_none (break e) r) = no_newline _ w e
no_tops w c h (tops_some no_break t r) = no_top w c t
no_tops w c h (tops_some (break e) t r) = no_newline _ w e

pub no_script : (P : Places) → NoScriptThrough P (kinds_of tokens) 1
no_script P us tree e s =
    let w : kind_at us 0 ≡ Some (kind.Word word.While) = sym (get-take 0 2 us (omega arith)) ∙ ap (λ l. slice_get l 0) e in
    let c : kind_at us 1 ≡ Some (kind.Sign sign.ParenClose) = sym (get-take 1 2 us (omega arith)) ∙ ap (λ l. slice_get l 1) e in
    no_tops w c (slice_get_within us 0 _ w) s

-- The syntax place of these tokens.
pub place : SyntaxPlace tokens 1
place = record { inside = omega arith; begins = begins (places_of tokens); none = no_script (places_of tokens) }

-- The first fault of the script: unexpected token at line 1, column 7.
pub first_fault : FirstFault (codes "while )") (record { line = 1; column = 7; kind = UnexpectedToken })
first_fault = first_token lexed place (omega arith)
