use Rattle.std.proofs.Common.{◌≡◌, ℤ, sym, subst, arith, to_z, of_z, w32}
use Rattle.std.proofs.lemmas.Int.{ints, to_z-of_z}
use Rattle.model_syntax.specs.Source.{byte_at}
use Rattle.groovy_lex.specs.Numbers.{IsNumberAt}
use Rattle.groovy_lex.proofs.CodeLemmas.{number_reads, number_fails}
use Rattle.groovy_lex.proofs.code.number_step.Goals as goal

pub returns-in-Some : goal.returns-in-Some
returns-in-Some c =
    let h = c.in-Some.ensures.fits in
    let k = h.value in
    let l = h.small in
    let v : to_z w32 (of_z w32 c.in-Some.value) ≡ c.in-Some.value = grind (arith, ints, to_z-of_z) in
    λ s i. (
      number_reads (byte_at c.args.src.now) s c.args.at c.in-Some.end (to_z w32 (of_z w32 c.in-Some.value)) i (subst (λ (z : ℤ). IsNumberAt (byte_at c.args.src.now) c.args.at c.in-Some.end z) (sym v) h),
      c.in-Some.ensures.past.0,
      c.in-Some.ensures.past.1,
    )

pub returns-in-None : goal.returns-in-None
returns-in-None c = λ s i. number_fails (byte_at c.args.src.now) s c.args.at i c.in-None.ensures.fits
