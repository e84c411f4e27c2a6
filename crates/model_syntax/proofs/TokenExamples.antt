-- The tokens of five small scripts, with their places.
use Rattle.std.proofs.Common.{◌≡◌, ℕ, inl, inr, [], ◌∷◌, refl, sym, arith, true, false, pos}
use Rattle.std.specs.Prelude.{codes}
use Rattle.model_syntax.specs.declared.sign.Sign.TheVariants as sign
use Rattle.model_syntax.specs.declared.token.TokenKind.{TokenKind}
use Rattle.model_syntax.specs.declared.token.TokenKind.TheVariants as kind
use Rattle.model_syntax.specs.declared.token.Token.{Token}
use Rattle.model_syntax.specs.Source.{Source, byte_at, passed_none}
use Rattle.model_syntax.specs.Places.{line_at, column_at}
use Rattle.model_syntax.specs.Spelling.{is_name_byte}
use Rattle.model_syntax.specs.TextForms.{single, double, Content, content_none}
use Rattle.model_syntax.specs.OpenBrackets.{expression, text as in_text, depth, innermost_text}
use Rattle.model_syntax.specs.Reading.{reads_code, code_blank, blank, code_newline, newline_ends, line_comment, line_ends, code_text, text_begins, text_whole, text_opens, begins_braces, begins_path, reads_text, in_part, in_closing, in_braces, in_path, path_more, path_ends}
use Rattle.model_syntax.specs.Newlines.{kept, next_goes_on}
use Rattle.model_syntax.specs.Tokens.{raw_none, raw_more, Lexed}
use Rattle.model_syntax.proofs.SpellingLemmas.{words, word_of, same}
use Rattle.model_syntax.proofs.StepLemmas.{every, every-All, reads_name, reads_number, reads_sign, is_pair, leads_zero, good_number, opens_short, content_char, passed_char, fits_name}
use Rattle.model_syntax.proofs.TextLemmas.{stops_at}
use Rattle.model_syntax.proofs.ReadingLemmas.{quote_stops}

abbrev pub at : TokenKind → ℕ → ℕ → ℕ → ℕ → Token
at k a b l c = record { kind = k; start = a; end = b; place = record { line = l; column = c } }

-- `x = 1`
one : Source
one = byte_at (codes "x = 1")

pub assignment : Lexed (codes "x = 1") (
    at (kind.Name (codes "x")) 0 1 1 1 ∷
    at (kind.Sign sign.Assign) 2 3 1 3 ∷
    at (kind.Int (pos 1)) 4 5 1 5 ∷ [])
unfolding one leads_zero every is_pair words word_of same depth kept next_goes_on line_at column_at innermost_text
assignment = record {
  raw = _;
  open_at_end = _;
  end = _;
  reads =
      raw_more _ (reads_name one [] 0 (codes "x") tt (refl, every-All is_name_byte [] refl) refl (refl, tt) refl) (
      raw_more _ (reads_code tt (code_blank (blank refl refl))) (
      raw_more _ (reads_sign one [] 2 sign.Assign tt (refl, tt) (inr refl) (λ e. absurd (cc))) (
      raw_more _ (reads_code tt (code_blank (blank refl refl))) (
      raw_more _ (reads_number one [] 4 (codes "1") tt (omega arith, (omega arith, tt)) (refl, tt) refl (good_number one (codes "1") 5 (omega arith) refl refl (λ e. absurd (cc))))
      raw_none))));
  ends = refl;
  closed = refl;
  newlines = refl;
}

-- `echo 'hi'`
two : Source
two = byte_at (codes "echo 'hi'")

pub text : Lexed (codes "echo 'hi'") (
    at (kind.Name (codes "echo")) 0 4 1 1 ∷
    at (kind.Text (codes "hi")) 5 9 1 6 ∷ [])
unfolding two every words word_of same depth kept next_goes_on line_at column_at innermost_text
text = record {
  raw = _;
  open_at_end = _;
  end = _;
  reads =
      raw_more _ (reads_name two [] 0 (codes "echo") tt (refl, every-All is_name_byte (codes "cho") refl) refl (refl, (refl, (refl, (refl, tt)))) refl) (
      raw_more _ (reads_code tt (code_blank (blank refl refl))) (
      raw_more _ (reads_code tt (code_text (text_begins {f = single} (opens_short two single 5 refl (refl, tt) refl)
      (content_char two single 104 6 (omega arith) refl refl refl (content_char two single 105 7 (omega arith) refl refl refl content_none))
      (text_whole (refl, tt)))))
      raw_none));
  ends = refl;
  closed = refl;
  newlines = refl;
}

-- a comment, newlines before a dot, which are no tokens, and one at the end, which is one
three : Source
three = byte_at (codes "a // b\n\n.c\n")

pub lines : Lexed (codes "a // b\n\n.c\n") (
    at (kind.Name (codes "a")) 0 1 1 1 ∷
    at (kind.Sign sign.Dot) 8 9 3 1 ∷
    at (kind.Name (codes "c")) 9 10 3 2 ∷
    at kind.Newline 10 11 3 3 ∷ [])
unfolding three every is_pair words word_of same depth kept next_goes_on line_at column_at innermost_text
lines = record {
  raw = _;
  open_at_end = _;
  end = _;
  reads =
      raw_more _ (reads_name three [] 0 (codes "a") tt (refl, every-All is_name_byte [] refl) refl (refl, tt) refl) (
      raw_more _ (reads_code tt (code_blank (blank refl refl))) (
      raw_more _ (reads_code tt (code_blank (line_comment (inl (refl, (refl, tt)))
      (passed_char three (λ k. three k ≡ 10) 32 4 (omega arith) refl (λ e. absurd (omega (arith, e))) (passed_char three (λ k. three k ≡ 10) 98 5 (omega arith) refl (λ e. absurd (omega (arith, e))) passed_none))
      (line_ends (inl refl))))) (
      raw_more _ (reads_code tt (code_newline (newline_ends refl refl refl))) (
      raw_more _ (reads_code tt (code_newline (newline_ends refl refl refl))) (
      raw_more _ (reads_sign three [] 8 sign.Dot tt (refl, tt) (inr refl) (λ e. absurd (cc))) (
      raw_more _ (reads_name three [] 9 (codes "c") tt (refl, every-All is_name_byte [] refl) refl (refl, tt) refl) (
      raw_more _ (reads_code tt (code_newline (newline_ends refl refl refl)))
      raw_none)))))));
  ends = refl;
  closed = refl;
  newlines = refl;
}

-- a text with an expression in braces
four : Source
four = byte_at (codes "echo \"n=${n}\"")

pub braces : Lexed (codes "echo \"n=${n}\"") (
    at (kind.Name (codes "echo")) 0 4 1 1 ∷
    at kind.GStringOpen 5 6 1 6 ∷
    at (kind.GStringPart (codes "n=")) 6 8 1 7 ∷
    at kind.ExpressionOpen 8 10 1 9 ∷
    at (kind.Name (codes "n")) 10 11 1 11 ∷
    at (kind.Sign sign.BraceClose) 11 12 1 12 ∷
    at kind.GStringClose 12 13 1 13 ∷ [])
unfolding four every is_pair words word_of same depth kept next_goes_on line_at column_at innermost_text
braces = record {
  raw = _;
  open_at_end = _;
  end = _;
  reads =
      raw_more _ (reads_name four [] 0 (codes "echo") tt (refl, every-All is_name_byte (codes "cho") refl) refl (refl, (refl, (refl, (refl, tt)))) refl) (
      raw_more _ (reads_code tt (code_blank (blank refl refl))) (
      raw_more _ (reads_code tt (code_text (text_begins {f = double} (opens_short four double 5 refl (refl, tt) refl) part (text_opens refl (begins_braces (refl, (refl, tt)) (omega arith)))))) (
      raw_more _ (reads_text (in_part (omega arith) part (stops_at 36 (omega arith) (λ e. omega (arith, e)) refl refl))) (
      raw_more _ (reads_text (in_braces refl (refl, (refl, tt)) (omega arith))) (
      raw_more _ (reads_name four (expression ∷ in_text double 5 ∷ []) 10 (codes "n") tt (refl, every-All is_name_byte [] refl) refl (refl, tt) refl) (
      raw_more _ (reads_sign four (expression ∷ in_text double 5 ∷ []) 11 sign.BraceClose tt (refl, tt) (inr refl) (λ e. absurd (cc))) (
      raw_more _ (reads_text (in_closing (refl, tt)))
      raw_none)))))));
  ends = refl;
  closed = refl;
  newlines = refl;
}
  where
    part : Content four double (codes "n=") 6 8
    part = content_char four double 110 6 (omega arith) refl refl refl (content_char four double 61 7 (omega arith) refl refl refl content_none)

-- a text with a name and a further one behind `$`; the last dot is of the text
five : Source
five = byte_at (codes "\"$a.b.\"")

pub path : Lexed (codes "\"$a.b.\"") (
    at kind.GStringOpen 0 1 1 1 ∷
    at kind.PathOpen 1 2 1 2 ∷
    at (kind.Name (codes "a")) 2 3 1 3 ∷
    at (kind.Sign sign.Dot) 3 4 1 4 ∷
    at (kind.Name (codes "b")) 4 5 1 5 ∷
    at (kind.GStringPart (codes ".")) 5 6 1 6 ∷
    at kind.GStringClose 6 7 1 7 ∷ [])
unfolding five every is_pair words word_of same depth kept next_goes_on line_at column_at innermost_text
path = record {
  raw = _;
  open_at_end = _;
  end = _;
  reads =
      raw_more _ (reads_code tt (code_text (text_begins {f = double} (opens_short five double 0 refl (refl, tt) refl) content_none (text_opens refl (begins_path refl refl))))) (
      raw_more _ (reads_text (in_path refl refl (path_more {t = codes "a"} refl (fits_name five 2 (codes "a") (refl, every-All is_name_byte [] refl) refl (refl, tt) refl) refl refl
      (path_ends {t = codes "b"} refl (fits_name five 4 (codes "b") (refl, every-All is_name_byte [] refl) refl (refl, tt) refl) (λ e. let k : true ≡ false = sym e.1 in absurd (cc)))))) (
      raw_more _ (reads_text (in_part (omega arith) (content_char five double 46 5 (omega arith) refl refl refl content_none) (quote_stops (refl, tt)))) (
      raw_more _ (reads_text (in_closing (refl, tt)))
      raw_none)));
  ends = refl;
  closed = refl;
  newlines = refl;
}
