-- The characters of a text, as the lexer takes them one by one.
use Rattle.std.specs.Prelude.{◌≡◌, ℕ, ◌+◌, ◌<◌, ◌≤◌, Option, Some, None, List, [], ◌∷◌, ◌++◌, length}
use Rattle.model_syntax.specs.Source.{Source, Spelled}
use Rattle.model_syntax.specs.TextForms.{Form, Item, GoesOn, Content}

-- Four bytes from a place on.
abbrev pub four : Source → ℕ → List ℕ
four B a = B a ∷ B (a + 1) ∷ B (a + 2) ∷ B (a + 3) ∷ []

-- No character of a text of this form stands here.
abbrev pub NoItem : Source → Form → ℕ → Type 0
NoItem B f a = (xs t : List ℕ) → Item f xs t → Spelled B xs a → ⊥

-- From one place up to another stands a character, and what it stands for was put behind a text.
pub record TakesTo (B : Source) (f : Form) (a n : ℕ) (old new : List ℕ) (e : ℕ) : Type 0 where
  pub spelling : List ℕ
  pub meaning : List ℕ
  pub item : Item f spelling meaning
  pub stands : Spelled B spelling a
  pub ends : e ≡ a + length spelling
  pub longer : new ≡ old ++ meaning
  pub forward : a < e
  pub inside : e ≤ n

-- A character was taken, or none stands there and the text is as before.
abbrev pub Takes : Source → Form → ℕ → ℕ → List ℕ → List ℕ → Option ℕ → Type 0
Takes B f a n old new None = NoItem B f a × (new ≡ old)
Takes B f a n old new (Some e) = TakesTo B f a n old new e

-- These are the characters of a text from one place up to another, where none goes on.
pub record IsContent (B : Source) (f : Form) (a n : ℕ) (t : List ℕ) (b : ℕ) : Type 0 where
  pub content : Content B f t a b
  pub stops : GoesOn B f b → ⊥
  pub forward : a ≤ b
  pub inside : b ≤ n
