use Rattle.std.proofs.Common.{sym, ap, ◌∙◌, ◌-◌, refl, arith, length, ◌∷◌, []}
use Rattle.std.proofs.lemmas.List.{length-append}
use Rattle.std.proofs.lemmas.Result.{err_from_is_err_and}
use Rattle.model_run.specs.Labels.{Read, Implies, Iff, and_then, atom, negation, conjunction, disjunction, more_negations, more_conjunctions, behind_implies, behind_iff, behind_disjunction, closed}
use Rattle.label_expr.specs.Conditions.{formula, negated}
use Rattle.label_expr.specs.Readings.{seen, inside}
use Rattle.label_expr.proofs.GrammarLaws.{stopped_by, stops_at, handed, atom_open, conjunction_to, conjunction_next, conjunction_last, disjunction_to, disjunction_next, disjunction_last, level_implies, level_iff, group_stops, group_reads, closed_none}
use Rattle.label_expr.proofs.parser.Parser.+parser.Goals as goal

pub atom-returns-clause-reads : goal.atom-returns-clause-reads
atom-returns-clause-reads t c n few =
    let b = c.in-Some-behind.ensures in
    handed c.args.self.now.length c.group.result (atom_open c.args.left n b.0 (seen c.args.spots.now) (seen c.in-Some-behind.next.now) c.if-left-eq0.false b.1) (c.group.ensures.reads n (omega (arith, b.2, few)))

pub behind_iff-returns-in_err-last-clause-reads : goal.behind_iff-returns-in_err-last-clause-reads
behind_iff-returns-in_err-last-clause-reads t c n few =
    let b = c.in-Some.ensures in
    let G = inside c.args.left n in
    let p = err_from_is_err_and c.from_residual-in_err-last.result c.from_residual-in_err-last.ensures.1 in
    rw (p.1, p.2) (stopped_by _ _ (disjunction G n (seen c.in-Some.next.now)) (λ h. Read (Iff (formula c.args.first) (Implies (formula c.args.second) h))) c.in_err-last.field-0.0 (ap (behind_iff G n (formula c.args.first) (formula c.args.second)) b.1) (c.in_err-last.ensures.reads n (omega (arith, b.2, few))))

pub behind_implies-returns-in_err-last-clause-reads : goal.behind_implies-returns-in_err-last-clause-reads
behind_implies-returns-in_err-last-clause-reads t c n few =
    let b = c.in-Some.ensures in
    let G = inside c.args.left n in
    let p = err_from_is_err_and c.from_residual.result c.from_residual.ensures.1 in
    rw (p.1, p.2) (stopped_by _ _ (disjunction G n (seen c.in-Some.next.now)) (λ g. Read (Iff (formula c.args.implied) g)) c.in_err-last.field-0.0 (ap (behind_implies G n (formula c.args.implied)) b.1) (c.in_err-last.ensures.reads n (omega (arith, b.2, few))))

pub conjunction-returns-in_err-first-clause-reads : goal.conjunction-returns-in_err-first-clause-reads
conjunction-returns-in_err-first-clause-reads t c n few =
    let G = inside c.args.left n in
    let p = err_from_is_err_and c.from_residual.result c.from_residual.ensures.1 in
    rw (p.1, p.2) (stopped_by _ _ (negation G n (seen c.args.spots.now)) (more_negations G n n) c.in_err-first.field-0.0 refl (c.in_err-first.ensures.reads n few))

pub conjunction-returns-in_err-operand-clause-reads : goal.conjunction-returns-in_err-operand-clause-reads
conjunction-returns-in_err-operand-clause-reads t c n few =
    let b = c.in-Some.ensures in
    let i = c.operands.invariant in
    let G = inside c.args.left n in
    let p = err_from_is_err_and c.from_residual-in_err-operand.result c.from_residual-in_err-operand.ensures.1 in
    rw (p.1, p.2) (stopped_by _ _ (negation G n (seen c.in-Some.next.now)) _ c.in_err-operand.field-0.0
    (conjunction_to G n _ (length c.operands.more) b.0 _ (seen c.operands.rest.now) (seen c.in-Some.next.now) (omega (arith, i.0, few)) b.1 (i.1 n few))
    (c.in_err-operand.ensures.reads n (omega (arith, b.2, i.0, few))))

pub conjunction-operands-preserved : goal.conjunction-operands-preserved
conjunction-operands-preserved t c =
    let b = c.in-Some.ensures in
    let i = c.operands.invariant in
    let size = length-append c.operands.more (c.in_ok-operand.operand ∷ []) in
    rw c.in_ok-push.ensures.ok (
      omega (arith, size, b.2, i.0, c.in_ok-operand.ensures.shorter),
      λ n few. conjunction_next (inside c.args.left n) n _ b.0 _ (seen c.operands.rest.now) (seen c.in-Some.next.now) (seen c.in_ok-operand.then.now) c.operands.more c.in_ok-operand.operand (omega (arith, i.0, few)) b.1 (i.1 n few) (c.in_ok-operand.ensures.reads n (omega (arith, b.2, i.0, few))),
    )

pub conjunction-returns-clause-reads : goal.conjunction-returns-clause-reads
conjunction-returns-clause-reads t c n few =
    conjunction_last (inside c.args.left n) n _ (n - length c.operands.more) _ (formula c.in_ok-all_of.field-0) (seen c.operands.rest.now) c.in_default.ensures (c.operands.invariant.1 n few) c.in_ok-all_of.ensures

pub disjunction-returns-in_err-first-clause-reads : goal.disjunction-returns-in_err-first-clause-reads
disjunction-returns-in_err-first-clause-reads t c n few =
    let G = inside c.args.left n in
    let p = err_from_is_err_and c.from_residual.result c.from_residual.ensures.1 in
    rw (p.1, p.2) (stopped_by _ _ (conjunction G n (seen c.args.spots.now)) (more_conjunctions G n n) c.in_err-first.field-0.0 refl (c.in_err-first.ensures.reads n few))

pub disjunction-returns-in_err-operand-clause-reads : goal.disjunction-returns-in_err-operand-clause-reads
disjunction-returns-in_err-operand-clause-reads t c n few =
    let b = c.in-Some.ensures in
    let i = c.operands.invariant in
    let G = inside c.args.left n in
    let p = err_from_is_err_and c.from_residual-in_err-operand.result c.from_residual-in_err-operand.ensures.1 in
    rw (p.1, p.2) (stopped_by _ _ (conjunction G n (seen c.in-Some.next.now)) _ c.in_err-operand.field-0.0
    (disjunction_to G n _ (length c.operands.more) b.0 _ (seen c.operands.rest.now) (seen c.in-Some.next.now) (omega (arith, i.0, few)) b.1 (i.1 n few))
    (c.in_err-operand.ensures.reads n (omega (arith, b.2, i.0, few))))

pub disjunction-operands-preserved : goal.disjunction-operands-preserved
disjunction-operands-preserved t c =
    let b = c.in-Some.ensures in
    let i = c.operands.invariant in
    let size = length-append c.operands.more (c.in_ok-operand.operand ∷ []) in
    rw c.in_ok-push.ensures.ok (
      omega (arith, size, b.2, i.0, c.in_ok-operand.ensures.shorter),
      λ n few. disjunction_next (inside c.args.left n) n _ b.0 _ (seen c.operands.rest.now) (seen c.in-Some.next.now) (seen c.in_ok-operand.then.now) c.operands.more c.in_ok-operand.operand (omega (arith, i.0, few)) b.1 (i.1 n few) (c.in_ok-operand.ensures.reads n (omega (arith, b.2, i.0, few))),
    )

pub disjunction-returns-clause-reads : goal.disjunction-returns-clause-reads
disjunction-returns-clause-reads t c n few =
    disjunction_last (inside c.args.left n) n _ (n - length c.operands.more) _ (formula c.in_ok-any_of.field-0) (seen c.operands.rest.now) c.in_default.ensures (c.operands.invariant.1 n few) c.in_ok-any_of.ensures

pub group-returns-in_err-condition-clause-reads : goal.group-returns-in_err-condition-clause-reads
group-returns-in_err-condition-clause-reads t c n few =
    let p = err_from_is_err_and c.from_residual.result c.from_residual.ensures.1 in
    rw (p.1, p.2) (group_stops _ c.args.left n (seen c.args.spots.now) c.in_err-condition.field-0.0 (c.in_err-condition.ensures.reads n few))

pub group-returns-in-Some-clause-reads : goal.group-returns-in-Some-clause-reads
group-returns-in-Some-clause-reads t c n few =
    group_reads c.args.left n (seen c.args.spots.now) _ _ (c.in_ok-condition.ensures.reads n few) ∙ ap (λ s. closed (Read (formula c.in_ok-condition.condition) s)) c.in-Some.ensures.1

pub group-returns-in-None-clause-reads : goal.group-returns-in-None-clause-reads
group-returns-in-None-clause-reads t c n few =
    rw c.fault.ensures (stops_at _ _ (seen c.in_ok-condition.rest.now) (group_reads c.args.left n (seen c.args.spots.now) _ _ (c.in_ok-condition.ensures.reads n few) ∙ closed_none (formula c.in_ok-condition.condition) (seen c.in_ok-condition.rest.now) c.in-None.ensures))

pub level-returns-in_err-first-clause-reads : goal.level-returns-in_err-first-clause-reads
level-returns-in_err-first-clause-reads t c n few =
    let G = inside c.args.left n in
    let p = err_from_is_err_and c.from_residual.result c.from_residual.ensures.1 in
    rw (p.1, p.2) (stopped_by _ _ (disjunction G n (seen c.args.spots.now)) (behind_disjunction G n) c.in_err-first.field-0.0 refl (c.in_err-first.ensures.reads n few))

pub level-returns-in_err-second-clause-reads : goal.level-returns-in_err-second-clause-reads
level-returns-in_err-second-clause-reads t c n few =
    let b = c.in-Some.ensures in
    let G = inside c.args.left n in
    let f = formula c.in_ok-first.first in
    let p = err_from_is_err_and c.from_residual-in_err-second.result c.from_residual-in_err-second.ensures.1 in
    rw (p.1, p.2) (stopped_by _ _ (disjunction G n (seen c.in-Some.next.now)) (λ g. behind_implies G n (Implies f g)) c.in_err-second.field-0.0
    (level_implies G n (seen c.args.spots.now) (seen c.in_ok-first.rest.now) (seen c.in-Some.next.now) b.0 f (c.in_ok-first.ensures.reads n few) b.1)
    (c.in_err-second.ensures.reads n (omega (arith, b.2, c.in_ok-first.ensures.shorter, few))))

pub level-returns-in-Some-clause-reads : goal.level-returns-in-Some-clause-reads
level-returns-in-Some-clause-reads t c n few =
    let b = c.in-Some.ensures in
    let G = inside c.args.left n in
    let f = formula c.in_ok-first.first in
    let second = c.in_ok-second.ensures.reads n (omega (arith, b.2, c.in_ok-first.ensures.shorter, few)) in
    handed _ c.behind_implies.result
    (level_implies G n (seen c.args.spots.now) (seen c.in_ok-first.rest.now) (seen c.in-Some.next.now) b.0 f (c.in_ok-first.ensures.reads n few) b.1
    ∙ ap (λ r. and_then r (λ g. behind_implies G n (Implies f g))) second
    ∙ ap (λ h. behind_implies G n h (seen c.in_ok-second.rest.now)) (sym c.in_ok-implied.ensures))
    (c.behind_implies.ensures.reads n (omega (arith, b.2, c.in_ok-first.ensures.shorter, c.in_ok-second.ensures.shorter, few)))

pub level-returns-in_err-second-2-clause-reads : goal.level-returns-in_err-second-2-clause-reads
level-returns-in_err-second-2-clause-reads t c n few =
    let b = c.in-Some-behind.ensures in
    let G = inside c.args.left n in
    let f = formula c.in_ok-first.first in
    let p = err_from_is_err_and c.from_residual-in_err-second-2.result c.from_residual-in_err-second-2.ensures.1 in
    rw (p.1, p.2) (stopped_by _ _ (disjunction G n (seen c.in-Some-behind.next.now)) (behind_iff G n f) c.in_err-second-2.field-0.0
    (level_iff G n (seen c.args.spots.now) (seen c.in_ok-first.rest.now) (seen c.in-Some-behind.next.now) b.0 f (c.in_ok-first.ensures.reads n few) b.1)
    (c.in_err-second-2.ensures.reads n (omega (arith, b.2, c.in_ok-first.ensures.shorter, few))))

pub level-returns-in-Some-behind-clause-reads : goal.level-returns-in-Some-behind-clause-reads
level-returns-in-Some-behind-clause-reads t c n few =
    let b = c.in-Some-behind.ensures in
    let G = inside c.args.left n in
    let f = formula c.in_ok-first.first in
    let second = c.in_ok-second-2.ensures.reads n (omega (arith, b.2, c.in_ok-first.ensures.shorter, few)) in
    handed _ c.behind_iff.result
    (level_iff G n (seen c.args.spots.now) (seen c.in_ok-first.rest.now) (seen c.in-Some-behind.next.now) b.0 f (c.in_ok-first.ensures.reads n few) b.1
    ∙ ap (λ r. and_then r (behind_iff G n f)) second)
    (c.behind_iff.ensures.reads n (omega (arith, b.2, c.in_ok-first.ensures.shorter, c.in_ok-second-2.ensures.shorter, few)))

pub negation-returns-in_err-condition-clause-reads : goal.negation-returns-in_err-condition-clause-reads
negation-returns-in_err-condition-clause-reads t c n few =
    let G = inside c.args.left n in
    let p = err_from_is_err_and c.from_residual.result c.from_residual.ensures.1 in
    rw (p.1, p.2) (stopped_by _ _ (atom G n (seen c.negations-signs.result.1.now)) (λ f. Read (negated c.negations-signs.result.0 f)) c.in_err-condition.field-0.0 (c.negations-signs.ensures.signs G n) (c.in_err-condition.ensures.reads n (omega (arith, c.negations-signs.ensures.no_longer, few))))
