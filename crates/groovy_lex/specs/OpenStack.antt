-- What the lexer keeps of what is open: its items, the innermost last, are the list of what is open, the innermost first.
use Rattle.std.specs.Prelude.{◌≡◌, ℕ, false, Option, Some, None, List, map, reverse}
use Rattle.model_syntax.specs.TextForms.{Form, single, triple_single, double, triple_double, is_triple}
use Rattle.model_syntax.specs.OpenBrackets.{Open, paren, bracket, brace, expression, text, innermost_text}
use Rattle.groovy_lex.specs.declared.open.TextForm.{TextForm}
use Rattle.groovy_lex.specs.declared.open.TextForm.TheVariants as form
use Rattle.groovy_lex.specs.declared.open.Opened.{Opened}
use Rattle.groovy_lex.specs.declared.open.Opened.TheVariants as opened

-- The form of a text.
abbrev pub form_of : TextForm → Form
form_of form.Single = single
form_of form.TripleSingle = triple_single
form_of form.Double = double
form_of form.TripleDouble = triple_double

-- One thing that is open.
abbrev pub open_of : Opened → Open
open_of opened.Paren = paren
open_of opened.Bracket = bracket
open_of opened.Brace = brace
open_of opened.Expression = expression
open_of (opened.Text f o) = text (form_of f) o

-- All that is open.
abbrev pub opens : List Opened → List Open
opens items = reverse (map open_of items)

-- It is no text.
abbrev pub IsBracket : Opened → Type 0
IsBracket (opened.Text f o) = ⊥
IsBracket o = Unit {0}

-- A text that was found, and where it opened.
abbrev pub text_of : Option (TextForm × ℕ) → Option (Form × ℕ)
text_of None = None
text_of (Some t) = Some (form_of t.0, t.1)

-- The innermost text opened at `o`, and it holds no newlines.
abbrev pub IsLineText : List Open → ℕ → Type 0
IsLineText s o = (f : Form) × (innermost_text s ≡ Some (f, o)) × (is_triple f ≡ false)
