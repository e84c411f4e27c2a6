-- What `clap` makes of the words of a command, worked out for any word that may stand behind one.
use Rattle.std.proofs.Common.{refl, ap, sym, subst, codes, true, false, arith, List, Option, Some, None, [], ◌∷◌, ◌≡◌, ◌∙◌, ◌≢◌, ◌<◌, ◌≤◌, ℕ, option_map, MatchOption, get_or, is_none, Bor, Box}
use Rattle.std.proofs.lemmas.Bool.{ne_eqb}
use Rattle.std.proofs.lemmas.Fmt.{first_decimal}
use Rattle.std.specs.Prelude.{◌==◌}
use Rattle.std.specs.Box.{box_value}
use Rattle.clap.specs.Walk.{Row, Text, first_of}
use Rattle.clap.specs.Simple.{is_simple, subcommand_of, subcommand_rows}
use Rattle.clap.specs.Takes.{takes}
use Rattle.clap.specs.declared.parser.matches.SubCommand.{SubCommand}
use Rattle.clap.specs.declared.parser.matches.ArgMatches.TheViews.{out-SubCommand}
use Rattle.clap.proofs.OnLiterals.{clap_on_literals}
use Rattle.command_words.specs.Parser.{parser_app}
use Rattle.command_words.specs.Words.{Gives, IsCommand, IsFolder, IsGiven, IsOperand, word_of}
use Rattle.command_words.specs.declared.command.Command.{Command}
use Rattle.command_words.specs.declared.command.Command.TheVariants.{Run, Resume, Log, Graph, Check, Generate}

-- the program's name, the word of this command, and one word more
abbrev pub given : Text → Command → Text → List Text
given program command word = program ∷ (word_of command ∷ (word ∷ []))

no_hyphen : (first : ℕ) → first ≢ 45 → (first == 45) ≡ false
no_hyphen first h = ne_eqb first 45 h

-- clap takes them
pub taken : (program : Text) (command : Command) (first : ℕ) (more : Text) → first ≢ 45 → takes parser_app (given program command (first ∷ more)) ≡ true
unfolding clap_on_literals
taken program Run first more h = rw (ne_eqb first 45 h, no_hyphen first h) refl
taken program Resume first more h = rw (ne_eqb first 45 h, no_hyphen first h) refl
taken program Log first more h = rw (ne_eqb first 45 h, no_hyphen first h) refl
taken program Graph first more h = rw (ne_eqb first 45 h, no_hyphen first h) refl
taken program Check first more h = rw (ne_eqb first 45 h, no_hyphen first h) refl
taken program (Generate stages) first more h = rw (ne_eqb first 45 h, no_hyphen first h) refl

pub simple : is_simple parser_app ≡ true
unfolding clap_on_literals
simple = refl

-- the name of the part that was met, and its operand
abbrev pub met : Option (Text × List Row) → Option (Text × Option Text)
met = option_map (λ part. (part.0, first_of (codes "operand") part.1))

-- what clap reads in them
pub read : (program : Text) (command : Command) (first : ℕ) (more : Text) → first ≢ 45
    → met (subcommand_of parser_app (given program command (first ∷ more))) ≡ Some (word_of command, Some (first ∷ more))
unfolding clap_on_literals
read program Run first more h = rw (ne_eqb first 45 h, no_hyphen first h) refl
read program Resume first more h = rw (ne_eqb first 45 h, no_hyphen first h) refl
read program Log first more h = rw (ne_eqb first 45 h, no_hyphen first h) refl
read program Graph first more h = rw (ne_eqb first 45 h, no_hyphen first h) refl
read program Check first more h = rw (ne_eqb first 45 h, no_hyphen first h) refl
read program (Generate stages) first more h = rw (ne_eqb first 45 h, no_hyphen first h) refl

-- a word that may stand behind a command is not empty, and its first byte is no hyphen
pub record IsPlain (word : Text) : Type 0 where
  pub first : ℕ
  pub more : Text
  pub is : word ≡ first ∷ more
  pub no_hyphen : first ≢ 45

folder_plain : (word : Text) → IsFolder word → IsPlain word
folder_plain [] h = absurd h
folder_plain (first ∷ more) h = record { first = first; more = more; is = refl; no_hyphen = h }

digits_plain : (word : Text) → 48 < get_or word 0 0 → IsPlain word
digits_plain [] h = absurd (omega arith)
digits_plain (first ∷ more) h = record { first = first; more = more; is = refl; no_hyphen = λ e. absurd (omega arith) }

operand_plain : (command : Command) (word : Text) → IsOperand command word → IsPlain word
operand_plain Run word h = folder_plain word h
operand_plain Resume word h = folder_plain word h
operand_plain Log word h = folder_plain word h
operand_plain Graph word h = folder_plain word h
operand_plain Check word h = folder_plain word h
operand_plain (Generate stages) word h =
    let some : 0 < stages = h.some in
    let most : stages ≤ 2000 = h.most in
    digits_plain word (subst (λ w. 48 < get_or w 0 0) (sym h.is) (first_decimal stages some (omega arith)))

-- words that give a command are taken, and read as that command with its word
pub record IsRead (words : List Text) (command : Command) (word : Text) : Type 0 where
  pub takes : takes parser_app words ≡ true
  pub reads : met (subcommand_of parser_app words) ≡ Some (word_of command, Some word)

plain_read : (program : Text) (command : Command) (word : Text) → IsPlain word → IsRead (given program command word) command word
plain_read program command word p = subst (λ w. IsRead (given program command w) command w) (sym p.is)
    (record { takes = taken program command p.first p.more p.no_hyphen; reads = read program command p.first p.more p.no_hyphen })

pub gives_read : (words : List Text) (command : Command) (word : Text) → Gives words command word → IsRead words command word
gives_read [] command word g = absurd g
gives_read (program ∷ []) command word g = absurd g
gives_read (program ∷ (verb ∷ [])) command word g = absurd g
gives_read (program ∷ (verb ∷ (operand ∷ []))) command word g =
    subst (λ v. IsRead (program ∷ (v ∷ (operand ∷ []))) command word) g.1.0
    (subst (λ w. IsRead (given program command operand) command w) (sym g.0) (plain_read program command operand (operand_plain command operand g.1.1)))
gives_read (program ∷ (verb ∷ (operand ∷ (next ∷ more)))) command word g = absurd g

-- so the word and that behind it give it
pub given_so : (words : List Text) (command : Command) (word : Text) → Gives words command word → IsGiven (word_of command) word command
given_so [] command word g = absurd g
given_so (program ∷ []) command word g = absurd g
given_so (program ∷ (verb ∷ [])) command word g = absurd g
given_so (program ∷ (verb ∷ (operand ∷ []))) command word g = (refl, subst (IsOperand command) (sym g.0) g.1.1)
given_so (program ∷ (verb ∷ (operand ∷ (next ∷ more)))) command word g = absurd g

-- what is given by the same words is given by them
pub gives_so : (words : List Text) (command : Command) (word : Text) → Gives words command word → (other : Command) → IsGiven (word_of command) word other → Gives words other word
gives_so [] command word g other h = absurd g
gives_so (program ∷ []) command word g other h = absurd g
gives_so (program ∷ (verb ∷ [])) command word g other h = absurd g
gives_so (program ∷ (verb ∷ (operand ∷ []))) command word g other h = (g.0, subst (λ v. IsGiven v operand other) g.1.0 (subst (λ w. IsGiven (word_of command) w other) g.0 h))
gives_so (program ∷ (verb ∷ (operand ∷ (next ∷ more)))) command word g other h = absurd g

-- where something was given, it is a command
pub some_command : (words : List Text) (found : Option (Command × Bor Text)) → MatchOption found (¬ (IsCommand words)) (λ it. Gives words it.0 it.1.now) → is_none found ≡ false → IsCommand words
some_command words None h e = let bad : true ≡ false = e in (cc)
some_command words (Some it) h e = (it.0, it.1.now, h)

-- a part that was met is there, and has its name and its operand
pub no_part : (sub : Option (Text × List Row)) (part : Text × Option Text) → met sub ≡ Some part → None ≡ option_map (λ p. p.1) sub → ⊥
no_part None part e h = (cc)
no_part (Some it) part e h = (cc)

abbrev name_in : Text → Option (Text × Option Text) → Text
name_in other None = other
name_in other (Some part) = part.0

abbrev word_in : Option (Text × Option Text) → Option Text
word_in None = None
word_in (Some part) = part.1

abbrev pub text_in : Text → Option Text → Text
text_in other None = other
text_in other (Some text) = text

pub part_met : (sub : Option (Text × List Row)) (name verb word : Text) (rows : List Row) → Some name ≡ option_map (λ p. p.0) sub → Some rows ≡ option_map (λ p. p.1) sub
    → met sub ≡ Some (verb, Some word) → (name ≡ verb) × (first_of (codes "operand") rows ≡ Some word)
part_met None name verb word rows n r e = (cc)
part_met (Some it) name verb word rows n r e =
    let name_is : name ≡ it.0 = (cc) in
    let rows_are : rows ≡ it.1 = (cc) in
    let verb_is : it.0 ≡ verb = ap (name_in verb) e in
    let word_is : first_of (codes "operand") it.1 ≡ Some word = ap word_in e in
    (name_is ∙ verb_is, ap (first_of (codes "operand")) rows_are ∙ word_is)

module _ {Z : Type 0} where
  pub names_met : (sub : Option (Box SubCommand Z)) → option_map (λ b. (out-SubCommand (box_value b)).name.now) sub ≡ option_map (λ p. p.0) (subcommand_rows sub)
  names_met None = refl
  names_met (Some it) = refl
