use Rattle.std.proofs.Common.{inr}
use Rattle.model_syntax.specs.Source.{byte_at}
use Rattle.model_syntax.specs.TextForms.{begun_backslash}
use Rattle.groovy_lex.proofs.EscapeLemmas.{front_begun, front_furthest}
use Rattle.groovy_lex.proofs.escapes.escape_front.Goals as goal

pub returns-then-not-is_at-clause-begun : goal.returns-then-not-is_at-clause-begun
returns-then-not-is_at-clause-begun c = λ f. begun_backslash c.requires.backslash

pub returns-in-None-clause-begun : goal.returns-in-None-clause-begun
returns-in-None-clause-begun c = λ f. front_begun (byte_at c.args.src.now) f c.args.at c.digits.end c.requires.backslash c.if-not-is_at.ensures.0 c.digits.invariant.front c.digits.invariant.short c.digits.invariant.passes

pub returns-in-None-clause-furthest : goal.returns-in-None-clause-furthest
returns-in-None-clause-furthest c = λ f. front_furthest (byte_at c.args.src.now) f c.args.at c.digits.end c.digits.invariant.front (inr c.in-None.ensures)

pub returns-clause-begun : goal.returns-clause-begun
returns-clause-begun c = λ f. front_begun (byte_at c.args.src.now) f c.args.at c.digits.end c.requires.backslash c.if-not-is_at.ensures.0 c.digits.invariant.front c.digits.invariant.short c.digits.invariant.passes
