use Rattle.std.proofs.Common.{◌-◌, ◌≤◌, length}
use Rattle.model_syntax.specs.Source.{byte_at}
use Rattle.model_syntax.specs.TextForms.{Content}
use Rattle.groovy_lex.specs.OpenStack.{form_of}
use Rattle.groovy_lex.proofs.contents.content.Given as goal

abbrev pub invariant-characters : goal.invariant-characters
invariant-characters l = record {
  content : Content (byte_at l.src) (form_of l.form) l.text l.from l.at;
  forward : l.from ≤ l.at;
  inside : l.at ≤ length l.src;
}

abbrev pub decreases-characters : goal.decreases-characters
decreases-characters l = length l.src - l.at
