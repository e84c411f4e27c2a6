-- Which bytes are words.
use Rattle.std.proofs.Common.{◌≡◌, ℕ, List, [], ◌∷◌, map, refl, sym, ap, ◌∙◌, Bool, true, false, Option, Some, None, cond, MatchOption}
use Rattle.std.specs.Cmp.Lexicographic.{same_text}
use Rattle.std.specs.Str.{bytes_eq}
use Rattle.model_syntax.specs.declared.word.Word.{Word}
use Rattle.model_syntax.specs.declared.word.Word.TheVariants as word
use Rattle.model_syntax.specs.Spelling.{word_text}
use Rattle.model_syntax.proofs.SpellingLemmas.{words}
use Rattle.groovy_lex.specs.declared.words.TheConstants.{WORDS}
use Rattle.groovy_lex.specs.Words.{lookup}

-- The table of these words.
rows : List Word → List (List ℕ × Word)
rows [] = []
rows (w ∷ ws) = (word_text w, w) ∷ rows ws

-- The lexer's table is that of all words.
table_is : map (λ row. (row.0.now, row.1)) WORDS ≡ rows words
unfolding rows words
table_is = refl

lookup-some : (ws : List Word) (t : List ℕ) (w : Word) → lookup (rows ws) t ≡ Some w → t ≡ word_text w
unfolding rows
lookup-some [] t w e = absurd (let k : None ≡ Some w = e in cc)
lookup-some (x ∷ ws) t w e = by (lookup-some ws t w) (bytes_eq t (word_text x)) refl
  where
    by : (lookup (rows ws) t ≡ Some w → t ≡ word_text w) → (b : Bool) → bytes_eq t (word_text x) ≡ b → t ≡ word_text w
    by next true d = let k : Some x ≡ Some w = sym (ap (λ z. cond z (Some x) (lookup (rows ws) t)) d) ∙ e in let l : x ≡ w = cc in same_text t (word_text x) (sym d) ∙ ap word_text l
    by next false d = next (sym (ap (λ z. cond z (Some x) (lookup (rows ws) t)) d) ∙ e)

-- Each word is in the table.
finds : (w : Word) → lookup (rows words) (word_text w) ≡ Some w
unfolding rows words
finds word.Def = refl
finds word.Void = refl
finds word.If = refl
finds word.Else = refl
finds word.While = refl
finds word.For = refl
finds word.In = refl
finds word.Return = refl
finds word.Break = refl
finds word.Continue = refl
finds word.Try = refl
finds word.Catch = refl
finds word.Finally = refl
finds word.Throw = refl
finds word.New = refl
finds word.True = refl
finds word.False = refl
finds word.Null = refl
finds word.Import = refl
finds word.Package = refl
finds word.Class = refl
finds word.Interface = refl
finds word.Enum = refl
finds word.Trait = refl
finds word.Extends = refl
finds word.Implements = refl
finds word.Static = refl
finds word.Final = refl
finds word.Switch = refl
finds word.Case = refl
finds word.Default = refl
finds word.Do = refl
finds word.Assert = refl
finds word.As = refl
finds word.InstanceOf = refl
finds word.This = refl
finds word.Super = refl

-- What the table gives is the word of these bytes.
pub word_found : (t : List ℕ) (o : Option Word) → o ≡ lookup (map (λ row. (row.0.now, row.1)) WORDS) t → MatchOption o ((w : Word) → t ≡ word_text w → ⊥) (λ w. t ≡ word_text w)
word_found t o e = by o (e ∙ ap (λ z. lookup z t) table_is)
  where
    by : (o : Option Word) → o ≡ lookup (rows words) t → MatchOption o ((w : Word) → t ≡ word_text w → ⊥) (λ w. t ≡ word_text w)
    by (Some w) e = lookup-some words t w (sym e)
    by None e = λ w d. let k : None ≡ Some w = e ∙ ap (lookup (rows words)) d ∙ finds w in cc
