use Rattle.std.proofs.Common.{◌∙◌, ap, sym, subst}
use Rattle.cps_code.specs.Script.{script_of}
use Rattle.frame_rows.specs.Leading.{Decides, LeadsTo, is_body, is_branch}
use Rattle.frame_rows.specs.declared.leading.Wanted.TheVariants as wanted
use Rattle.frame_rows.proofs.StandLaws.{at_begun_body, at_begun_own, no_branch_begun}
use Rattle.frame_rows.proofs.nesting.may_begin.Goals as goal

pub returns-then-is_branch : goal.returns-then-is_branch
returns-then-is_branch c = λ f k n.
    no_branch_begun (script_of c.args.code.now) f c.args.outer (ap is_branch k ∙ sym c.is_branch.ensures ∙ c.if-is_branch.true)

pub returns-then-is_body : goal.returns-then-is_body
returns-then-is_body c = λ f k n.
    at_begun_body (script_of c.args.code.now) f c.args.outer c.may_lead.result (ap is_body k ∙ sym c.is_body.ensures ∙ c.if-is_body.true) c.may_lead.ensures

pub returns-else-is_body : goal.returns-else-is_body
returns-else-is_body c = λ f k n.
    let root = script_of c.args.code.now in
    at_begun_own root f c.args.outer c.may_lead-else-is_body.result (ap is_body k ∙ sym c.is_body.ensures ∙ c.if-is_body.false)
    (ap is_branch k ∙ sym c.is_branch.ensures ∙ c.if-is_branch.false)
    (subst (λ m. Decides c.may_lead-else-is_body.result (LeadsTo root (wanted.Node m) c.args.outer)) (sym n) c.may_lead-else-is_body.ensures)
