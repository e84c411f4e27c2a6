-- What reading gives, as tokens or a fault of the script.
use Rattle.std.proofs.Common.{◌≡◌, ℕ, List, [], ◌∷◌, sym, ap, subst, ◌∙◌, Option, Some, None, MatchOption, filter, false}
use Rattle.model_syntax.specs.declared.fault.FaultKind.TheVariants.{UnendedText}
use Rattle.model_syntax.specs.declared.token.Token.{Token}
use Rattle.model_syntax.specs.Source.{Source}
use Rattle.model_syntax.specs.TextForms.{Form, begun_nothing}
use Rattle.model_syntax.specs.OpenBrackets.{Open, paren, bracket, brace, expression, text, innermost_text}
use Rattle.model_syntax.specs.Reading.{Reads, reads_code, reads_text, code_nothing, nothing_ends, in_fault, fails, fails_at_end}
use Rattle.model_syntax.specs.Newlines.{kept}
use Rattle.model_syntax.specs.Tokens.{Lexed, LexicalFault, begins_before, InOrder}
use Rattle.model_syntax.proofs.TokenLaws.{lexed-only, lexical_fault-only, lexed_or_fault}
use Rattle.model_syntax.specs.BracketDepth.{IsShallow}
use Rattle.model_syntax.proofs.TokenOrder.{lexed-order, lexical_fault-order}
use Rattle.model_syntax.proofs.BracketDepthLaws.{lexed-shallow, lexical_fault-shallow}
use Rattle.groovy_lex.specs.declared.raw.LexicalFault.{LexicalFault as Found}
use Rattle.groovy_lex.specs.Raws.{StopsWith, IsRead, IsEndFault}
use Rattle.groovy_lex.specs.Refusals.{OnlyFault}

-- The end of the script is a fault where a text is open.
end_reads : (B : Source) (s : List Open) (a : ℕ) (f : Form) (o : ℕ) → B a ≡ 256 → innermost_text s ≡ Some (f, o) → Reads B s a (fails UnendedText o)
unfolding innermost_text
end_reads B [] a f o e i = reads_code tt (code_nothing (nothing_ends e i))
end_reads B (paren ∷ s) a f o e i = reads_code tt (code_nothing (nothing_ends e i))
end_reads B (bracket ∷ s) a f o e i = reads_code tt (code_nothing (nothing_ends e i))
end_reads B (brace ∷ s) a f o e i = reads_code tt (code_nothing (nothing_ends e i))
end_reads B (expression ∷ s) a f o e i = reads_code tt (code_nothing (nothing_ends e i))
end_reads B (text g w ∷ s) a f o e i = let q : (g, w) ≡ (f, o) = cc in let k : w ≡ o = ap (λ (z : Form × ℕ). z.1) q in subst (λ z. Reads B (text g w ∷ s) a (fails UnendedText z)) k (reads_text (in_fault (fails_at_end begun_nothing e)))

pub end_stops : (B : Source) (s : List Open) (a : ℕ) (o : Option Found) → B a ≡ 256 → MatchOption o (innermost_text s ≡ None) (λ f. IsEndFault s f) → StopsWith B s a o
end_stops B s a None e m = (e, m)
end_stops B s a (Some f) e m = subst (λ k. Reads B s a (fails k f.at)) (sym m.0) (end_reads B s a m.1.0 f.at e m.1.1)

pub lexed_by : (bytes : List ℕ) (raw tokens : List Token) → IsRead bytes raw None → tokens ≡ kept false raw → Lexed bytes tokens
lexed_by bytes raw tokens r e = record { raw = raw; open_at_end = r.open_there; end = r.there; reads = r.reads; ends = r.stops.0; closed = r.stops.1; newlines = e }

pub only_by : (bytes : List ℕ) (raw tokens : List Token) → IsRead bytes raw None → tokens ≡ kept false raw → (others : List Token) → Lexed bytes others → others ≡ tokens
only_by bytes raw tokens r e others l = lexed-only l (lexed_by bytes raw tokens r e)

pub order_by : (bytes : List ℕ) (raw tokens : List Token) → IsRead bytes raw None → tokens ≡ kept false raw → InOrder 0 tokens
order_by bytes raw tokens r e = lexed-order (lexed_by bytes raw tokens r e)

pub shallow_by : (bytes : List ℕ) (raw tokens : List Token) → IsRead bytes raw None → tokens ≡ kept false raw → IsShallow tokens
shallow_by bytes raw tokens r e = lexed-shallow (lexed_by bytes raw tokens r e)

pub fault_by : (bytes : List ℕ) (raw begun before : List Token) (f : Found) → IsRead bytes raw (Some f) → begun ≡ filter (begins_before f.at) raw → before ≡ kept false begun → OnlyFault bytes f.kind f.at before
fault_by bytes raw begun before f r b e = record { fault = found; no_tokens = λ ts l. lexed_or_fault l found; only = λ k p ts g. lexical_fault-only g found; order = lexical_fault-order found; shallow = lexical_fault-shallow found }
  where
    found : LexicalFault bytes f.kind f.at before
    found = record { raw = raw; open_there = r.open_there; there = r.there; reads = r.reads; fault = r.stops; newlines = e ∙ ap (kept false) b }
