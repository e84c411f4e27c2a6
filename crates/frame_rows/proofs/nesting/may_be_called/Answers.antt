use Rattle.std.proofs.Common.{◌≡◌, ◌∙◌, true, ap, sym, subst}
use Rattle.model_run.specs.FrameTable.{is_closure_form, is_function_form}
use Rattle.model_run.specs.Nesting.{Any_body, CallsByName, IsClosureAt, shape_at}
use Rattle.cps_code.specs.Script.{script_of}
use Rattle.frame_rows.specs.Leading.{Decides, spot_seen}
use Rattle.frame_rows.proofs.StandLaws.{alike}
use Rattle.frame_rows.proofs.nesting.may_be_called.Goals as goal

pub returns-in-AnyBody : goal.returns-in-AnyBody
returns-in-AnyBody c = λ f n.
    let root = script_of c.args.code.now in
    subst (λ s. Decides c.is_closure.result (IsClosureAt root (spot_seen s) f)) (sym c.in-AnyBody.is)
    (subst (λ b. Decides b (IsClosureAt root Any_body f)) (ap (λ m. is_closure_form (shape_at root m).form) n ∙ sym (ap is_closure_form c.kind.ensures) ∙ sym c.is_closure.ensures)
    (alike (is_closure_form (shape_at root f.node).form)))

pub returns-in-Begun : goal.returns-in-Begun
returns-in-Begun c = λ f n.
    let root = script_of c.args.code.now in
    subst (λ s. Decides c.is_named_so.result (IsClosureAt root (spot_seen s) f)) (sym c.in-Begun.is)
    (subst (λ m. Decides c.is_named_so.result (is_function_form (shape_at root m).form ≡ true → CallsByName root c.in-Begun.outer)) (sym n) c.is_named_so.ensures)

pub returns-in-BodyOf : goal.returns-in-BodyOf
returns-in-BodyOf c = λ f n. subst (λ s. IsClosureAt (script_of c.args.code.now) (spot_seen s) f) (sym c.in-BodyOf.is) tt

pub returns-in-AnyBranch : goal.returns-in-AnyBranch
returns-in-AnyBranch c = λ f n. subst (λ s. IsClosureAt (script_of c.args.code.now) (spot_seen s) f) (sym c.in-AnyBranch.is) tt

pub returns-in-Executor : goal.returns-in-Executor
returns-in-Executor c = λ f n. subst (λ s. IsClosureAt (script_of c.args.code.now) (spot_seen s) f) (sym c.in-Executor.is) tt

pub returns-in-Task : goal.returns-in-Task
returns-in-Task c = λ f n. subst (λ s. IsClosureAt (script_of c.args.code.now) (spot_seen s) f) (sym c.in-Task.is) tt

pub returns-in-Person : goal.returns-in-Person
returns-in-Person c = λ f n. subst (λ s. IsClosureAt (script_of c.args.code.now) (spot_seen s) f) (sym c.in-Person.is) tt

pub returns-in-Branches : goal.returns-in-Branches
returns-in-Branches c = λ f n. subst (λ s. IsClosureAt (script_of c.args.code.now) (spot_seen s) f) (sym c.in-Branches.is) tt
