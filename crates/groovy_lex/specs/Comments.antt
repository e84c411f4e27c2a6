-- What ends a comment.
use Rattle.std.specs.Prelude.{◌≡◌, ℕ, codes}
use Rattle.model_syntax.specs.Source.{Source, Spelled}
use Rattle.groovy_lex.specs.declared.comments.Comment.{Comment}
use Rattle.groovy_lex.specs.declared.comments.Comment.TheVariants.{Line, Block}

-- A comment of this kind ends here: at a newline, or at `*/`.
abbrev pub Ends : Source → Comment → ℕ → Type 0
Ends B Line = λ k. B k ≡ 10
Ends B Block = Spelled B (codes "*/")
