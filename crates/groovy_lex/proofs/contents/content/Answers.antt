use Rattle.std.proofs.Common.{◌≡◌, List, ℕ, sym, arith, subst, length, Option}
use Rattle.std.proofs.lemmas.List.{get_or_past}
use Rattle.model_syntax.specs.Source.{byte_at}
use Rattle.model_syntax.specs.TextForms.{Content, content_none}
use Rattle.model_syntax.proofs.SourceLemmas.{end_no_character}
use Rattle.model_syntax.proofs.TextLemmas.{stops_at_none}
use Rattle.groovy_lex.specs.OpenStack.{form_of}
use Rattle.groovy_lex.specs.Contents.{NoItem, TakesTo, Takes}
use Rattle.groovy_lex.proofs.ContentLemmas.{content_taken, stops_by}
use Rattle.groovy_lex.proofs.contents.content.Goals as goal

pub characters-init : goal.characters-init
characters-init c = record { content = subst (λ (t : List ℕ). Content (byte_at c.args.src.now) (form_of c.args.form) t c.args.from c.args.from) (sym c.new-text.ensures) content_none; forward = omega arith; inside = omega arith }

pub characters-preserved : goal.characters-preserved
characters-preserved c =
    let k : TakesTo (byte_at c.args.src.now) (form_of c.args.form) c.characters.at (length c.args.src.now) c.characters.text c.take_character.new.text c.in-Some.end =
    subst (λ (o : Option ℕ). Takes (byte_at c.args.src.now) (form_of c.args.form) c.characters.at (length c.args.src.now) c.characters.text c.take_character.new.text o) c.in-Some.is c.in_ok-end.ensures.takes in
    record { content = content_taken c.characters.invariant.content c.if-closes.ensures k; forward = omega (arith, k.forward); inside = k.inside }

pub returns-in-None : goal.returns-in-None
returns-in-None c =
    let k : NoItem (byte_at c.args.src.now) (form_of c.args.form) c.characters.at × (c.take_character.new.text ≡ c.characters.text) =
    subst (λ (o : Option ℕ). Takes (byte_at c.args.src.now) (form_of c.args.form) c.characters.at (length c.args.src.now) c.characters.text c.take_character.new.text o) c.in-None.is c.in_ok-end.ensures.takes in
    record { content = subst (λ (t : List ℕ). Content (byte_at c.args.src.now) (form_of c.args.form) t c.args.from c.characters.at) (sym k.1) c.characters.invariant.content; stops = stops_by k.0; forward = c.characters.invariant.forward; inside = c.characters.invariant.inside }

pub returns : goal.returns
returns c = record { content = c.characters.invariant.content; stops = stops_at_none (end_no_character (byte_at c.args.src.now) c.characters.at (get_or_past c.args.src.now c.characters.at 256 c.characters-test.false)); forward = c.characters.invariant.forward; inside = c.characters.invariant.inside }
