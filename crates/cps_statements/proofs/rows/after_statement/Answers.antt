use Rattle.std.proofs.Common.{◌≡◌, ◌+◌, ◌*◌, ◌^◌, ◌∙◌, arith, refl, sym}
use Rattle.model_run.specs.Around.{arity}
use Rattle.model_run.specs.Statements.{statements}
use Rattle.model_run.specs.declared.frame.FrameKind.TheVariants as kind
use Rattle.cps_frames.specs.Order.{rank}
use Rattle.cps_frames.proofs.EndLaws.{no_answer_inside}
use Rattle.cps_frames.proofs.MoveLaws.{to_kind}
use Rattle.cps_statements.proofs.WayLaws.{behind_statement}
use Rattle.cps_variables.proofs.NodeLaws.{rank_is}
use Rattle.cps_statements.proofs.rows.after_statement.Goals as goal

pub statement_of-requires : goal.statement_of-requires
statement_of-requires c = no_answer_inside c.requires.may c.requires.kind (λ sh left env. refl)

pub returns : goal.returns
returns c =
    let e : rank c.args.frame ≡ 0 * 2 ^ 34 + (c.args.frame.left + c.args.frame.left) + 1 = rank_is c.args.frame kind.Statement c.requires.kind in
    to_kind (rank c.args.frame) c.args.frame kind.Statement c.args.ending _ _ _ c.requires.kind
    (behind_statement c.args.frame.node (rank c.args.frame) c.args.frame.env (λ y n sh a. statements a c.args.frame.node (arity sh) c.args.frame.left y n) c.args.ending c.in_ok-value.value c.in_ok-value.env _ _ _
    (sym c.in_ok-statement_of.ensures ∙ c.in_ok-value.was)
    (c.statements.ensures (rank c.args.frame) (omega (arith, e))))
