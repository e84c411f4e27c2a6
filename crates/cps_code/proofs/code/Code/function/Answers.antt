use Rattle.std.proofs.Common.{◌∙◌, ap}
use Rattle.std.specs.Option.{option_map}
use Rattle.model_run.specs.Callables.{function_in}
use Rattle.model_run.specs.Terms.{parts_of}
use Rattle.cps_code.specs.Functions.{function_at}
use Rattle.cps_code.specs.Script.{script_of}
use Rattle.cps_code.proofs.code.Code.function.Goals as goal

pub returns : goal.returns
returns c =
    ap (option_map function_at) (c.copied.ensures ∙ c.get.ensures.value)
    ∙ c.self.invariant.functions c.args.name.now
    ∙ ap (λ rows. function_in c.args.name.now (parts_of (script_of rows))) c.self.view_is
