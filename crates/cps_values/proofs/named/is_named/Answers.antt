use Rattle.std.proofs.Common.{◌∙◌, ap, sym}
use Rattle.model_run.specs.Gathering.{is_named}
use Rattle.model_run.specs.Terms.{form_of, term_at}
use Rattle.cps_code.specs.Script.{script_of}
use Rattle.cps_operators.proofs.PartLaws.{missing_form, part_of_form}
use Rattle.cps_values.proofs.NamedLaws.{not_named}
use Rattle.cps_values.proofs.named.is_named.Goals as goal

pub returns-in-None : goal.returns-in-None
returns-in-None c = sym (ap is_named (missing_form (script_of c.args.code.now) c.args.node c.args.at (sym c.part.ensures.number ∙ c.in-None.is)))

pub returns-in-NamedEntry : goal.returns-in-NamedEntry
returns-in-NamedEntry c =
    let root = script_of c.args.code.now in
    ap is_named (sym c.in-NamedEntry.is ∙ c.kind.ensures ∙ ap form_of c.in-Some.ensures.found ∙ part_of_form root (term_at root c.args.node) c.args.at)

pub returns-in_default : goal.returns-in_default
returns-in_default c =
    let root = script_of c.args.code.now in
    sym (not_named c.kind.result.now c.in_default.not-NamedEntry) ∙ ap is_named (c.kind.ensures ∙ ap form_of c.in-Some.ensures.found ∙ part_of_form root (term_at root c.args.node) c.args.at)
