use Rattle.std.proofs.Common.{◌∙◌, ap, sym, subst}
use Rattle.std.specs.Prelude.{◌&&◌, nat_eq}
use Rattle.model_run.specs.Nesting.{Any_body, Any_branch, Body_of, Enters}
use Rattle.cps_code.specs.Script.{script_of}
use Rattle.frame_rows.specs.Leading.{Decides, is_body, is_branch, spot_seen}
use Rattle.frame_rows.proofs.StandLaws.{at_any_body, at_any_branch, at_body_of, at_branches, at_executor, at_person, at_task}
use Rattle.frame_rows.proofs.nesting.may_stand.Goals as goal

pub returns-in-AnyBody : goal.returns-in-AnyBody
returns-in-AnyBody c = λ f k n.
    let root = script_of c.args.code.now in
    subst (λ s. Decides c.is_body.result (Enters root f (spot_seen s))) (sym c.in-AnyBody.is)
    (subst (λ b. Decides b (Enters root f Any_body)) (ap is_body k ∙ sym c.is_body.ensures) (at_any_body root f))

pub returns-in-BodyOf : goal.returns-in-BodyOf
returns-in-BodyOf c = λ f k n.
    let root = script_of c.args.code.now in
    subst (λ s. Decides c.is_body_at.result (Enters root f (spot_seen s))) (sym c.in-BodyOf.is)
    (subst (λ b. Decides b (Enters root f (Body_of c.in-BodyOf.closure)))
    (ap (λ d. is_body d && nat_eq f.node c.in-BodyOf.closure) k ∙ ap (λ m. is_body c.args.kind && nat_eq m c.in-BodyOf.closure) n ∙ sym c.is_body_at.ensures)
    (at_body_of root f c.in-BodyOf.closure))

pub returns-in-AnyBranch : goal.returns-in-AnyBranch
returns-in-AnyBranch c = λ f k n.
    let root = script_of c.args.code.now in
    subst (λ s. Decides c.is_branch.result (Enters root f (spot_seen s))) (sym c.in-AnyBranch.is)
    (subst (λ b. Decides b (Enters root f Any_branch)) (ap is_branch k ∙ sym c.is_branch.ensures) (at_any_branch root f))

pub returns-in-Executor : goal.returns-in-Executor
returns-in-Executor c = λ f k n h. at_executor (script_of c.args.code.now) f (subst (λ s. Enters (script_of c.args.code.now) f (spot_seen s)) c.in-Executor.is h)

pub returns-in-Task : goal.returns-in-Task
returns-in-Task c = λ f k n h. at_task (script_of c.args.code.now) f (subst (λ s. Enters (script_of c.args.code.now) f (spot_seen s)) c.in-Task.is h)

pub returns-in-Person : goal.returns-in-Person
returns-in-Person c = λ f k n h. at_person (script_of c.args.code.now) f (subst (λ s. Enters (script_of c.args.code.now) f (spot_seen s)) c.in-Person.is h)

pub returns-in-Branches : goal.returns-in-Branches
returns-in-Branches c = λ f k n h. at_branches (script_of c.args.code.now) f (subst (λ s. Enters (script_of c.args.code.now) f (spot_seen s)) c.in-Branches.is h)
