-- Texts that are cut off: the lexical faults of five small scripts, which all begin with `x = `, and their places.
use Rattle.std.proofs.Common.{◌≡◌, ℕ, ◌++◌, inr, List, [], ◌∷◌, refl, arith, false}
use Rattle.std.specs.Prelude.{codes, filter}
use Rattle.model_syntax.specs.declared.fault.FaultKind.{FaultKind}
use Rattle.model_syntax.specs.declared.fault.FaultKind.TheVariants.{NotUtf8, UnendedText, BadEscape}
use Rattle.model_syntax.specs.declared.sign.Sign.TheVariants as sign
use Rattle.model_syntax.specs.declared.token.TokenKind.TheVariants as kind
use Rattle.model_syntax.specs.declared.token.Token.{Token}
use Rattle.model_syntax.specs.Source.{byte_at}
use Rattle.model_syntax.specs.Places.{line_at, column_at, place_at}
use Rattle.model_syntax.specs.Spelling.{is_name_byte}
use Rattle.model_syntax.specs.TextForms.{single, double, content_none, begun_backslash, begun_unicode, begun_dollar}
use Rattle.model_syntax.specs.OpenBrackets.{depth}
use Rattle.model_syntax.specs.Reading.{Reads, reads_code, fails, code_blank, blank, code_text, text_begins, text_fails, fails_at_end, fails_not_utf8, fails_at_dollar}
use Rattle.model_syntax.specs.Newlines.{kept, next_goes_on}
use Rattle.model_syntax.specs.Tokens.{Raw, raw_none, raw_more, LexicalFault, begins_before}
use Rattle.model_syntax.proofs.SourceLemmas.{high_no_character}
use Rattle.model_syntax.proofs.SpellingLemmas.{words, word_of, same}
use Rattle.model_syntax.proofs.CutOffLemmas.{dollar_not_cut_off}
use Rattle.model_syntax.proofs.StepLemmas.{every, every-All, reads_name, reads_sign, is_pair, opens_short, content_char}
use Rattle.model_syntax.proofs.TokenExamples.{at}

-- `x = ` and what stands behind it.
abbrev pub script : List ℕ → List ℕ
script rest = codes "x = " ++ rest

abbrev pub x_assign : List Token
x_assign = at (kind.Name (codes "x")) 0 1 1 1 ∷ at (kind.Sign sign.Assign) 2 3 1 3 ∷ []

-- The script has this fault in its first line, at this column.
abbrev pub FailsAt : List ℕ → FaultKind → ℕ → ℕ → Type 0
FailsAt bytes k p column = LexicalFault bytes k p x_assign × (place_at (byte_at bytes) p ≡ record { line = 1; column = column })

start : (rest : List ℕ) → Raw (byte_at (script rest)) x_assign [] [] 0 4
unfolding every is_pair words word_of same depth line_at column_at
start rest =
    let B = byte_at (script rest) in
    raw_more _ (reads_name B [] 0 (codes "x") tt (refl, every-All is_name_byte [] refl) refl (refl, tt) refl) (
    raw_more _ (reads_code tt (code_blank (blank refl refl))) (
    raw_more _ (reads_sign B [] 2 sign.Assign tt (refl, tt) (inr refl) (λ e. absurd (cc))) (
    raw_more _ (reads_code tt (code_blank (blank refl refl)))
    raw_none)))

fault : (rest : List ℕ) (k : FaultKind) (p : ℕ) → Reads (byte_at (script rest)) [] 4 (fails k p) → x_assign ≡ kept false (filter (begins_before p) x_assign) → LexicalFault (script rest) k p x_assign
fault rest k p r n = record { raw = _; open_there = _; there = 4; reads = start rest; fault = r; newlines = n }

-- The script ends behind the backslash of an escape: the text has no end.
pub backslash_at_the_end : FailsAt (codes "x = 'ab\\") UnendedText 4 5
unfolding kept next_goes_on line_at column_at
backslash_at_the_end =
    let B = byte_at (codes "x = 'ab\\") in (
      fault (codes "'ab\\") UnendedText 4 (reads_code tt (code_text (text_begins {f = single} (opens_short B single 4 refl (refl, tt) refl)
          (content_char B single 97 5 (omega arith) refl refl refl (content_char B single 98 6 (omega arith) refl refl refl content_none))
          (text_fails (fails_at_end (begun_backslash refl) refl))))) refl,
      refl,
    )

-- Or within its hexadecimal digits.
pub unicode_at_the_end : FailsAt (codes "x = 'ab\\u00") UnendedText 4 5
unfolding kept next_goes_on line_at column_at
unicode_at_the_end =
    let B = byte_at (codes "x = 'ab\\u00") in (
      fault (codes "'ab\\u00") UnendedText 4 (reads_code tt (code_text (text_begins {f = single} (opens_short B single 4 refl (refl, tt) refl)
          (content_char B single 97 5 (omega arith) refl refl refl (content_char B single 98 6 (omega arith) refl refl refl content_none))
          (text_fails (fails_at_end (begun_unicode (codes "00") (omega arith) (omega arith, (omega arith, tt)) (refl, (refl, (refl, (refl, tt))))) refl))))) refl,
      refl,
    )

-- Or behind a `$`.
pub dollar_at_the_end : FailsAt (codes "x = \"ab$") UnendedText 4 5
unfolding kept next_goes_on line_at column_at
dollar_at_the_end =
    let B = byte_at (codes "x = \"ab$") in (
      fault (codes "\"ab$") UnendedText 4 (reads_code tt (code_text (text_begins {f = double} (opens_short B double 4 refl (refl, tt) refl)
          (content_char B double 97 5 (omega arith) refl refl refl (content_char B double 98 6 (omega arith) refl refl refl content_none))
          (text_fails (fails_at_end (begun_dollar refl refl) refl))))) refl,
      refl,
    )

-- A line that ends behind a `$`: a bad escape, at the `$`.
pub dollar_at_the_end_of_a_line : FailsAt (codes "x = \"ab$\n") BadEscape 7 8
unfolding kept next_goes_on line_at column_at
dollar_at_the_end_of_a_line =
    let B = byte_at (codes "x = \"ab$\n") in (
      fault (codes "\"ab$\n") BadEscape 7 (reads_code tt (code_text (text_begins {f = double} (opens_short B double 4 refl (refl, tt) refl)
          (content_char B double 97 5 (omega arith) refl refl refl (content_char B double 98 6 (omega arith) refl refl refl content_none))
          (text_fails (fails_at_dollar refl refl (λ e. omega (arith, e)) refl (λ c. dollar_not_cut_off refl (omega arith) c.1.0 c.1.1)))))) refl,
      refl,
    )

-- A byte outside UTF-8 behind a backslash: not UTF-8, at that byte.
pub no_utf8_in_an_escape : FailsAt (codes "x = 'ab\\" ++ 255 ∷ []) NotUtf8 8 9
unfolding kept next_goes_on line_at column_at
no_utf8_in_an_escape =
    let B = byte_at (codes "x = 'ab\\" ++ 255 ∷ []) in (
      fault (codes "'ab\\" ++ 255 ∷ []) NotUtf8 8 (reads_code tt (code_text (text_begins {f = single} (opens_short B single 4 refl (refl, tt) refl)
          (content_char B single 97 5 (omega arith) refl refl refl (content_char B single 98 6 (omega arith) refl refl refl content_none))
          (text_fails (fails_not_utf8 (begun_backslash refl) ((λ e. omega (arith, e)), high_no_character B 8 (omega arith))))))) refl,
      refl,
    )
