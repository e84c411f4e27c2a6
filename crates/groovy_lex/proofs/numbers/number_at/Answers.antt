use Rattle.std.proofs.Common.{◌≡◌, ◌∙◌, arith, to_z, of_z, w32}
use Rattle.std.proofs.lemmas.Int.{ints, to_z-of_z}
use Rattle.groovy_lex.proofs.NumberLemmas.{digits_at, number_zero, number_letter, number_fraction, number_large, number_taken}
use Rattle.groovy_lex.proofs.numbers.number_at.Goals as goal

pub returns-then-leads_zero-clause-fits : goal.returns-then-leads_zero-clause-fits
returns-then-leads_zero-clause-fits c =
    let d = digits_at c.args.src.now c.args.at c.run_end-end.result c.run_end-end.ensures.run c.run_end-end.ensures.inside c.requires.digit in
    number_zero c.args.src.now c.args.at c.run_end-end.result d c.if-leads_zero.ensures.0 c.if-leads_zero.ensures.1

pub returns-then-letter_at-clause-fits : goal.returns-then-letter_at-clause-fits
returns-then-letter_at-clause-fits c =
    let d = digits_at c.args.src.now c.args.at c.run_end-end.result c.run_end-end.ensures.run c.run_end-end.ensures.inside c.requires.digit in
    number_letter c.args.src.now c.args.at c.run_end-end.result d cc

pub returns-then-has_fraction-clause-fits : goal.returns-then-has_fraction-clause-fits
returns-then-has_fraction-clause-fits c =
    let d = digits_at c.args.src.now c.args.at c.run_end-end.result c.run_end-end.ensures.run c.run_end-end.ensures.inside c.requires.digit in
    number_fraction c.args.src.now c.args.at c.run_end-end.result d c.if-has_fraction.ensures.0 c.if-has_fraction.ensures.1

pub number_of-requires : goal.number_of-requires
number_of-requires c =
    let d = digits_at c.args.src.now c.args.at c.run_end-end.result c.run_end-end.ensures.run c.run_end-end.ensures.inside c.requires.digit in
    d.each

pub returns-in-Some-clause-fits : goal.returns-in-Some-clause-fits
returns-in-Some-clause-fits c =
    let d = digits_at c.args.src.now c.args.at c.run_end-end.result c.run_end-end.ensures.run c.run_end-end.ensures.inside c.requires.digit in
    let e : to_z w32 (of_z w32 c.in-Some.value) ≡ c.in-Some.value = grind (arith, ints, to_z-of_z) in
    number_taken c.args.src.now c.args.at c.run_end-end.result (to_z w32 (of_z w32 c.in-Some.value)) d (e ∙ c.in-Some.ensures.0) c.in-Some.ensures.1 c.if-leads_zero.ensures (cc) c.if-has_fraction.ensures

pub returns-in-None-clause-fits : goal.returns-in-None-clause-fits
returns-in-None-clause-fits c =
    let d = digits_at c.args.src.now c.args.at c.run_end-end.result c.run_end-end.ensures.run c.run_end-end.ensures.inside c.requires.digit in
    number_large c.args.src.now c.args.at c.run_end-end.result d c.in-None.ensures
