use Rattle.std.proofs.Common.{◌∙◌, ap, sym}
use Rattle.model_run.specs.Terms.{form_of, term_at}
use Rattle.cps_code.specs.Script.{script_of}
use Rattle.frame_rows.proofs.PartLaws.{missing_form, part_of_form}
use Rattle.frame_rows.proofs.parts.part_form.Goals as goal

pub returns-in-None : goal.returns-in-None
returns-in-None c = sym (missing_form (script_of c.args.code.now) c.args.node c.args.at (sym c.part.ensures.number ∙ c.in-None.is))

pub returns-in-Some : goal.returns-in-Some
returns-in-Some c =
    let root = script_of c.args.code.now in
    c.kind.ensures ∙ ap form_of c.in-Some.ensures.found ∙ part_of_form root (term_at root c.args.node) c.args.at
