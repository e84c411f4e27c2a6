use Rattle.std.proofs.Common.{ℕ, take, drop, arith, ⊎_elim, subst, ◌≡◌}
use Rattle.std.specs.Str.{IsUtf8}
use Rattle.std.proofs.lemmas.Bool.{cases_lt}
use Rattle.model_syntax.specs.Source.{byte_at}
use Rattle.groovy_lex.proofs.CharacterLemmas.{ascii_at, utf8_character, no_character}
use Rattle.groovy_lex.proofs.characters.character_end.Goals as goal

pub returns-then-byte-lt128-clause-stands : goal.returns-then-byte-lt128-clause-stands
returns-then-byte-lt128-clause-stands c = ascii_at (byte_at c.args.src.now) c.args.at (omega (arith, c.byte.ensures))

pub returns-then-is_utf8-clause-stands : goal.returns-then-is_utf8-clause-stands
returns-then-is_utf8-clause-stands c = utf8_character c.args.src.now c.args.at c.widths.width c.widths.auto.width c.if-is_utf8.ensures.0 (omega (arith, c.byte.ensures)) c.if-is_utf8.ensures.1 c.widths.invariant

pub widths-preserved : goal.widths-preserved
widths-preserved c = λ k h l i u. ⊎_elim
    (λ m. c.widths.invariant k h m i u)
    (λ m. let e : k ≡ c.widths.width = omega (arith, l, m) in c.if-is_utf8.ensures (omega (arith, e, i)) (subst (λ (z : ℕ). IsUtf8 (take z (drop c.args.at c.args.src.now))) e u))
    (cases_lt k c.widths.width)

pub returns-clause-stands : goal.returns-clause-stands
returns-clause-stands c = no_character c.args.src.now c.args.at c.requires (omega (arith, c.byte.ensures)) (λ k h l. c.widths.invariant k h (omega (arith, l)))
