use Rattle.std.proofs.Common.{◌≡◌, ◌∙◌, ◌<◌, ◌-◌, ℕ, suc, false, ap, subst, arith}
use Rattle.model_run.specs.declared.ending.Entry.{Entry}
use Rattle.model_run.specs.declared.frame.FrameKind.{FrameKind}
use Rattle.model_run.specs.Around.{arity, form_at, frame, under}
use Rattle.model_run.specs.FrameTable.{count_of, is_plain}
use Rattle.model_run.specs.Forms.{after, gather_all}
use Rattle.model_run.specs.Nesting.{shape_at}
use Rattle.cps_code.specs.Script.{script_of}
use Rattle.cps_frames.specs.Moves.{ComesTo}
use Rattle.cps_frames.specs.Order.{rank}
use Rattle.cps_frames.specs.Standing.{standing}
use Rattle.cps_operators.proofs.FormLaws.{to_none}
use Rattle.cps_expressions.proofs.GatherLaws.{first_rank, to_behind, to_part}
use Rattle.cps_expressions.proofs.gathering.gather.Goals as goal

pub gathered-requires-clause-count : goal.gathered-requires-clause-count
gathered-requires-clause-count c =
    let sh = shape_at (script_of c.args.shared.now.code) c.args.node in
    let all : arity sh - c.behind_plain-left.result ≡ arity sh = let e = c.if-left-eq0.true in omega (arith, e) in
    c.requires.count ∙ c.behind_plain-left.ensures.count c.args.env ∙ ap (count_of sh c.args.env) all

pub returns-then-left-eq0 : goal.returns-then-left-eq0
returns-then-left-eq0 c = λ r lt.
    let k = c.args.node in
    let u = standing c.args.shared.now c.args.state.now in
    let w = standing c.gathered.new.shared c.gathered.new.state in
    to_behind k r c.args.left c.behind_plain-left.result c.args.env c.args.kept u c.gathered.result w c.behind_plain-left.ensures.same
    (to_none k r c.behind_plain-left.result (λ n sh a. gather_all a k sh c.args.env n c.args.kept) u c.gathered.result w c.if-left-eq0.true (c.gathered.ensures r (omega (arith, lt))))

pub returns : goal.returns
returns c = λ r lt.
    let k = c.args.node in
    let u = standing c.args.shared.now c.args.state.now in
    let w = standing c.args.shared.now c.inside_with.new.state in
    let n = c.behind_plain-left.result in
    let m = n - 1 in
    let at = c.current-at.result in
    let p = c.part_form.result.now in
    let fs = (shape_at (script_of c.args.shared.now.code) k).parts in
    let some : 0 < n = omega arith in
    let e : suc m ≡ n = omega arith in
    let plain : is_plain p ≡ false = ap is_plain (c.part_form.ensures ∙ ap (form_at fs) c.current-at.ensures.current ∙ ap (λ i. form_at fs (arity (shape_at (script_of c.args.shared.now.code) k) - i)) e) ∙ c.behind_plain-left.ensures.plain some in
    to_behind k r c.args.left n c.args.env c.args.kept u c.inside_with.result w c.behind_plain-left.ensures.same
    (to_part k r n at c.args.env c.args.kept p u c.inside_with.result w some c.current-at.ensures.current c.part_form.ensures plain
    (subst (λ (q : FrameKind × Entry). (r : ℕ) → rank (frame q.0 k m c.args.env c.args.kept) < r → ComesTo k r (λ sh a. under a (frame q.0 k m c.args.env c.args.kept) (after (frame q.0 k m c.args.env c.args.kept) sh a) q.1 at c.args.env) u c.inside_with.result w) c.first_of-kind.ensures c.inside_with.ensures r
    (first_rank p k m r c.args.env c.args.kept (omega (arith, lt, c.behind_plain-left.ensures.less, e)))))
