use Rattle.std.proofs.Common.{[], ◌∷◌, sym, subst, Bool, true, false, List}
use Rattle.model_syntax.specs.declared.token.TokenKind.TheVariants.{Sign}
use Rattle.model_syntax.specs.Source.{byte_at}
use Rattle.model_syntax.specs.OpenBrackets.{Open}
use Rattle.model_syntax.specs.Reading.{Reads, goes, token}
use Rattle.groovy_lex.specs.Turns.{Turns}
use Rattle.groovy_lex.proofs.CodeLemmas.{sign_reads, sign_fails}
use Rattle.groovy_lex.proofs.code.sign_step.Goals as goal

pub returns-then-not-branch : goal.returns-then-not-branch
returns-then-not-branch c =
    let t : Turns c.args.sign c.args.stack.now c.turn.new.stack false = subst (λ (b : Bool). Turns c.args.sign c.args.stack.now c.turn.new.stack b) c.if-not-branch.true c.in_ok-turn.ensures in
    sign_fails (byte_at c.args.src.now) c.args.stack.now c.args.at c.args.end c.args.sign c.requires.code c.requires.sign t.1 t.2

pub returns : goal.returns
returns c =
    let t : Turns c.args.sign c.args.stack.now c.turn.new.stack true = subst (λ (b : Bool). Turns c.args.sign c.args.stack.now c.turn.new.stack b) c.if-not-branch.false c.in_ok-turn.ensures in (
      subst (λ (u : List Open). Reads (byte_at c.args.src.now) c.args.stack.now c.args.at (goes (token (byte_at c.args.src.now) (Sign c.args.sign) c.args.at c.args.end ∷ []) u c.args.end)) (sym t.0) (sign_reads (byte_at c.args.src.now) c.args.stack.now c.args.at c.args.end c.args.sign c.requires.code c.requires.sign t.1),
      c.requires.past.0,
      c.requires.past.1,
    )
