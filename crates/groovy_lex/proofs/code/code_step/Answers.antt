use Rattle.std.proofs.Common.{◌≡◌, length, refl, sym, ◌∙◌, ap, arith, rules, true}
use Rattle.std.proofs.lemmas.Grind.{common_steps}
use Rattle.model_syntax.specs.Source.{byte_at}
use Rattle.model_syntax.specs.Reading.{is_blank, blank, code_blank, reads_code}
use Rattle.groovy_lex.proofs.code.code_step.Goals as goal

pub returns-in-32 : goal.returns-in-32
returns-in-32 c =
    let e : is_blank c.byte.result ≡ true = first_of (search rules, grind (arith, common_steps)) in
    (reads_code c.requires.code (code_blank (blank (ap is_blank (sym c.byte.ensures) ∙ e) refl)), omega arith, omega (arith, c.requires.inside))

pub returns-in-10 : goal.returns-in-10
returns-in-10 c = c.newline_step.ensures (byte_at c.args.src.now) (length c.args.src.now) (sym c.byte.ensures ∙ c.in-10.is) c.requires.inside
