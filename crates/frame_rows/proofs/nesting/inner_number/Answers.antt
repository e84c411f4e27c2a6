use Rattle.std.proofs.Common.{◌∙◌, ap, sym, length, arith}
use Rattle.model_run.specs.Nesting.{part_number}
use Rattle.model_run.specs.Terms.{nodes_of}
use Rattle.cps_code.specs.Script.{script_of}
use Rattle.frame_rows.proofs.LeadLaws.{part_none, part_past, part_some}
use Rattle.frame_rows.proofs.nesting.inner_number.Goals as goal

pub returns-in-None : goal.returns-in-None
returns-in-None c =
    let root = script_of c.args.code.now in
    c.len.ensures.len ∙ sym (part_past root (length (nodes_of root)) c.args.inner (omega arith))
    ∙ sym (ap (λ m. part_number root m c.args.inner) (part_none root c.args.node c.args.at (sym c.part.ensures.number ∙ c.in-None.is)))

pub returns-in-Some : goal.returns-in-Some
returns-in-Some c =
    let root = script_of c.args.code.now in
    c.part_number.ensures ∙ sym (ap (λ m. part_number root m c.args.inner) (part_some root c.args.node c.args.at c.in-Some.part (sym c.part.ensures.number ∙ c.in-Some.is)))
