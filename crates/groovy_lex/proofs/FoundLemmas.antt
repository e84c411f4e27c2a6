-- What was found at a place, as what a step does.
use Rattle.std.proofs.Common.{◌≡◌, ℕ, ◌+◌, List, [], ◌∷◌, ◌++◌, sym, ◌∙◌, arith, append-nil, append_assoc}
use Rattle.model_syntax.specs.declared.place.Place.{Place}
use Rattle.model_syntax.specs.declared.token.TokenKind.{TokenKind}
use Rattle.model_syntax.specs.declared.token.TokenKind.TheVariants.{PathOpen}
use Rattle.model_syntax.specs.declared.token.Token.{Token}
use Rattle.model_syntax.specs.Source.{Source}
use Rattle.model_syntax.specs.Places.{place_at}
use Rattle.model_syntax.specs.OpenBrackets.{Open}
use Rattle.model_syntax.specs.Reading.{token}
use Rattle.groovy_lex.specs.declared.found.Found.TheVariants as found
use Rattle.groovy_lex.specs.Paths.{IsPath}
use Rattle.groovy_lex.specs.Steps.{IsFound, DoesTo}
use Rattle.groovy_lex.proofs.CodeLemmas.{token_behind}

pub blank_does : (B : Source) (n : ℕ) (s u : List Open) (a m : ℕ) (ts : List Token) → IsFound B n s u a (found.Blank m) → DoesTo B n s u a ts ts m
blank_does B n s u a m ts f = record { found = []; reads = f.0; longer = sym (append-nil ts); forward = f.1; inside = f.2 }

pub token_does : (B : Source) (n : ℕ) (s u : List Open) (k : TokenKind) (a m : ℕ) (p : Place) (old new : List Token) → IsFound B n s u a (found.Token k m) → p ≡ place_at B a → new ≡ old ++ record { kind = k; start = a; end = m; place = p } ∷ [] → DoesTo B n s u a old new m
token_does B n s u k a m p old new f e h = record { found = token B k a m ∷ []; reads = f.0; longer = token_behind B k a m p old new e h; forward = f.1; inside = f.2 }

pub path_does : (B : Source) (n : ℕ) (s u : List Open) (a m : ℕ) (old new : List Token) → IsFound B n s u a found.Path → IsPath B n (a + 1) (old ++ token B PathOpen a (a + 1) ∷ []) new m → DoesTo B n s u a old new m
path_does B n s u a m old new f p = record { found = token B PathOpen a (a + 1) ∷ p.found; reads = f.1 p.found m p.path; longer = p.longer ∙ append_assoc old (token B PathOpen a (a + 1) ∷ []) p.found; forward = omega (arith, p.forward); inside = p.inside }
