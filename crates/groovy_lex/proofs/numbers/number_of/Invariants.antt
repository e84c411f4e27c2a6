use Rattle.std.proofs.Common.{◌≡◌, ◌≤◌, take}
use Rattle.std.specs.Str.Parse.{digits_value}
use Rattle.groovy_lex.proofs.numbers.number_of.Given as goal

abbrev pub invariant-digits : goal.invariant-digits
invariant-digits l = record { so_far : l.value ≡ digits_value 10 (take l.digit-index l.digits); small : l.value ≤ 2147483647 }
