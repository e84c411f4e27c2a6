use Rattle.std.proofs.Common.{◌≡◌, take}
use Rattle.model_syntax.specs.OpenBrackets.{innermost_text}
use Rattle.groovy_lex.specs.OpenStack.{opens, text_of}
use Rattle.groovy_lex.proofs.open.innermost_text_of.Given as goal

abbrev pub invariant-items : goal.invariant-items
invariant-items l = innermost_text (opens (take l.item-index l.items)) ≡ text_of l.found
