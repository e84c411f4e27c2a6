use Rattle.std.proofs.Common.{◌≡◌, length, map}
use Rattle.groovy_lex.specs.Words.{lookup}
use Rattle.groovy_lex.proofs.words.lookup.Given as goal

abbrev pub invariant-rows : goal.invariant-rows
invariant-rows l = lookup (map (λ row. (row.0.now, row.1)) l.table) l.text ≡ lookup (map (λ row. (row.0.now, row.1)) l.initial.table) l.text

abbrev pub decreases-rows : goal.decreases-rows
decreases-rows l = length l.table
