use Rattle.std.proofs.Common.{◌∙◌, ◌-◌, [], suc, ap, arith}
use Rattle.model_run.specs.declared.ending.Entry.TheVariants.{First, Inside}
use Rattle.model_run.specs.declared.frame.FrameKind.TheVariants as kind
use Rattle.model_run.specs.Around.{arity, form_at, frame, under}
use Rattle.model_run.specs.Expressions.{choices, choice_test}
use Rattle.model_run.specs.Forms.{after}
use Rattle.model_run.specs.FrameTable.{current}
use Rattle.model_run.specs.Nesting.{shape_at}
use Rattle.cps_code.specs.Script.{script_of}
use Rattle.cps_frames.specs.Standing.{standing, state}
use Rattle.std.specs.Prelude.{Ok}
use Rattle.cps_frames.proofs.MoveLaws.{to_as}
use Rattle.cps_operators.proofs.FormLaws.{to_more, to_size}
use Rattle.cps_operators.proofs.OperandLaws.{choice_else, choice_tests, either}
use Rattle.cps_operators.proofs.choices.choices.Goals as goal

pub returns-in_default : goal.returns-in_default
returns-in_default c = λ r lt.
    let sh = shape_at (script_of c.args.shared.now.code) c.args.node in
    let m = c.args.left - 1 in
    let u = standing c.args.shared.now c.args.state.now in
    let is = c.part_form.ensures ∙ ap (form_at sh.parts) c.current-at.ensures.current in
    to_more c.args.node r c.args.left (λ n sh a. choices a c.args.node sh c.args.env n) u (Ok c.part.result) u c.requires.some
    (to_as c.args.node r (λ sh a. choices a c.args.node sh c.args.env (suc m)) (λ sh a. a.part First (current sh m) c.args.env) u (Ok c.part.result) u
    (λ a rs. choice_else a c.args.node sh m c.args.env (choices a c.args.node sh c.args.env m) (form_at sh.parts (arity sh - suc m)) (state u.world rs) (λ e. c.in_default.not-IfTrue (is ∙ e)) (λ e. c.in_default.not-IfSet (is ∙ e)))
    (to_size c.args.node r c.current-at.result (λ sh. current sh m) (λ i sh a. a.part First i c.args.env) u (Ok c.part.result) u c.current-at.ensures.current (c.part.ensures c.args.state.now r (omega (arith, lt, c.requires.some)))))

pub returns-in-IfTrue : goal.returns-in-IfTrue
returns-in-IfTrue c = λ r lt.
    let sh = shape_at (script_of c.args.shared.now.code) c.args.node in
    let m = c.args.left - 1 in
    let u = standing c.args.shared.now c.args.state.now in
    let is = c.part_form.ensures ∙ ap (form_at sh.parts) c.current-at.ensures.current in
    let f = frame kind.ChosenTest c.args.node m c.args.env [] in
    to_more c.args.node r c.args.left (λ n sh a. choices a c.args.node sh c.args.env n) u _ _ c.requires.some
    (to_as c.args.node r (λ sh a. choices a c.args.node sh c.args.env (suc m)) (λ sh a. choice_test a c.args.node sh m c.args.env (choices a c.args.node sh c.args.env m)) u _ _
    (λ a rs. choice_tests a c.args.node sh m c.args.env (choices a c.args.node sh c.args.env m) (form_at sh.parts (arity sh - suc m)) (state u.world rs) (either c.part_form.result.now (form_at sh.parts (arity sh - suc m)) is c.in-IfTrue.is))
    (to_size c.args.node r c.current-at.result (λ sh. current sh m) (λ i sh a. under a f (after f sh a) (Inside 0) i c.args.env) u _ _ c.current-at.ensures.current (c.inside.ensures r (omega (arith, lt, c.requires.some)))))
