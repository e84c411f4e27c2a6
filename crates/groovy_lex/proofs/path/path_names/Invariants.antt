use Rattle.std.proofs.Common.{◌≡◌, ℕ, ◌-◌, ◌<◌, ◌≤◌, List, ◌++◌, length, true}
use Rattle.model_syntax.specs.declared.token.Token.{Token}
use Rattle.model_syntax.specs.Source.{byte_at}
use Rattle.model_syntax.specs.Places.{place_at}
use Rattle.model_syntax.specs.Spelling.{is_letter}
use Rattle.model_syntax.specs.Reading.{Path}
use Rattle.groovy_lex.proofs.path.path_names.Given as goal

abbrev pub invariant-names : goal.invariant-names
invariant-names l = record {
  forward : l.from ≤ l.at;
  inside : l.at < length l.src;
  letter : is_letter (byte_at l.src l.at) ≡ true;
  placed : l.place ≡ place_at (byte_at l.src) l.at;
  so_far : (us : List Token) (b : ℕ) → Path (byte_at l.src) us l.at b → (ts : List Token) × (Path (byte_at l.src) ts l.from b × (l.tokens ++ us ≡ l.fn.tokens ++ ts));
}

abbrev pub decreases-names : goal.decreases-names
decreases-names l = length l.src - l.at
