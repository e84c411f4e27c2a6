use Rattle.std.proofs.Common.{List, ℕ, Err, subst}
use Rattle.durable_build.specs.Opening.{CodeOf, SourceOf}
use Rattle.durable_build.proofs.LoadLemmas.{no_code, passes_on}
use Rattle.durable_build.proofs.opening.source_of.Goals as goal

pub returns-in_err-code-clause-says : goal.returns-in_err-code-clause-says
returns-in_err-code-clause-says c =
    let f = c.in_err-code.field-0.0 in
    passes_on c.from_residual-in_err-code.result f (SourceOf c.args.script c.args.agents c.args.at) c.from_residual-in_err-code.ensures.1
    (no_code c.args.script c.args.agents c.args.at f (subst (λ (s : List ℕ). CodeOf s c.args.at (Err f)) c.as_slice-2.ensures c.in_err-code.ensures.says))
