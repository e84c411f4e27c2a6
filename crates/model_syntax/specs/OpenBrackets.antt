-- What is open at a place of a script: brackets, and texts around them. The innermost stands first.
use Rattle.std.specs.Prelude.{ℕ, ◌+◌, Bool, true, false, Option, Some, None, List, [], ◌∷◌}
use Rattle.model_syntax.specs.declared.sign.Sign.{Sign}
use Rattle.model_syntax.specs.declared.sign.Sign.TheVariants as sign
use Rattle.model_syntax.specs.TextForms.{Form, is_triple}

-- Something that is open: a bracket, or a text with expressions.
pub data Open : Type 0 where
  paren : Open
  bracket : Open
  brace : Open
  -- `${` in a text
  expression : Open
  -- a text with expressions, and where it opened
  text : Form → ℕ → Open

-- How many brackets are open. This product's own: `(`, `[`, `{` and `${` count over the whole script, texts do not.
unfoldable pub depth : List Open → ℕ
depth [] = 0
depth (text f o ∷ s) = depth s
depth (o ∷ s) = depth s + 1

-- The innermost text that is open, and where it opened.
unfoldable pub innermost_text : List Open → Option (Form × ℕ)
innermost_text [] = None
innermost_text (text f o ∷ s) = Some (f, o)
innermost_text (o ∷ s) = innermost_text s

-- The innermost is no text: what follows is code.
abbrev pub IsCode : List Open → Type 0
IsCode (text f o ∷ s) = ⊥
IsCode s = Unit {0}

-- A newline may end a statement: not inside `(`, `[` or `${` (this product's own: in `${ .. }` of a triple text it never
-- does).
abbrev pub ends_statements : List Open → Bool
ends_statements [] = true
ends_statements (brace ∷ s) = true
ends_statements s = false

-- The signs that open a bracket.
abbrev pub is_opening : Sign → Bool
is_opening sign.ParenOpen = true
is_opening sign.BracketOpen = true
is_opening sign.BraceOpen = true
is_opening s = false

-- Without the innermost.
abbrev pub closed : List Open → List Open
closed [] = []
closed (o ∷ s) = s

-- What is open behind a sign. A closing sign closes the innermost bracket of any kind, and where none is open it
-- closes nothing.
abbrev pub after_sign : Sign → List Open → List Open
after_sign sign.ParenOpen s = paren ∷ s
after_sign sign.BracketOpen s = bracket ∷ s
after_sign sign.BraceOpen s = brace ∷ s
after_sign sign.ParenClose s = closed s
after_sign sign.BracketClose s = closed s
after_sign sign.BraceClose s = closed s
after_sign x s = s

-- Only texts of the triple forms hold newlines (Groovy).
abbrev pub text_holds_newlines : Option (Form × ℕ) → Bool
text_holds_newlines None = true
text_holds_newlines (Some t) = is_triple t.0

-- A newline may stand here: no text is open, or the innermost is of a triple form.
abbrev pub holds_newlines : List Open → Bool
holds_newlines s = text_holds_newlines (innermost_text s)
