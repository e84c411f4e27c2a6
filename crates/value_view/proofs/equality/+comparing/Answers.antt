use Rattle.std.proofs.Common.{◌≡◌, length, unwrap_or, sym, ap, ◌∙◌, arith}
use Rattle.std.specs.Map.{lookup}
use Rattle.std.proofs.lemmas.Result.{err_from_is_err_and}
use Rattle.model_values.specs.Keys.{same_key}
use Rattle.model_values.specs.Limits.{product_limits}
use Rattle.model_values.specs.declared.value.Value.TheVariants.{Null}
use Rattle.cell_heap.proofs.SizeLemmas.{slice_get-none}
use Rattle.value_view.proofs.DepthLemmas.{lists-first, maps-first}
use Rattle.value_view.proofs.PartLemmas.{ends, entry_below, goes_on, lookup_below}
use Rattle.value_view.proofs.equality.+comparing.Goals as goal
use Rattle.value_view.proofs.equality.+comparing.Goals.{maps_equal-in-Some+in_ok-equal_within+else-not-branch, maps_equal-in_default}

pub lists_equal-returns-in_err-equal_within : goal.lists_equal-returns-in_err-equal_within
lists_equal-returns-in_err-equal_within t c =
    let p = err_from_is_err_and c.from_residual.result c.from_residual.ensures.1 in
    let stops = lists-first product_limits c.args.heap.now.cells c.args.left c.args.xs.now c.args.ys.now c.loop-at.at c.loop-at.count _ _ _ _ c.loop-at-test.true c.requires.same_size c.in_err-equal_within.ensures c.loop-at.invariant in
    rw (p.1, p.2) stops

pub lists_equal-returns-then-not-branch : goal.lists_equal-returns-then-not-branch
lists_equal-returns-then-not-branch t c =
    let stops = lists-first product_limits c.args.heap.now.cells c.args.left c.args.xs.now c.args.ys.now c.loop-at.at c.loop-at.count _ _ _ _ c.loop-at-test.true c.requires.same_size c.in_ok-equal_within.ensures c.loop-at.invariant in
    ends _ _ _ _ stops c.if-not-branch.true

pub lists_equal-loop-at-preserved : goal.lists_equal-loop-at-preserved
lists_equal-loop-at-preserved t c =
    let more = lists-first product_limits c.args.heap.now.cells c.args.left c.args.xs.now c.args.ys.now c.loop-at.at c.loop-at.count _ _ _ _ c.loop-at-test.true c.requires.same_size c.in_ok-equal_within.ensures c.loop-at.invariant in
    goes_on _ _ _ _ more c.if-not-branch.false

pub maps_equal-equal_within-requires : goal.maps_equal-equal_within-requires
maps_equal-equal_within-requires t c =
    let n = length c.args.heap.now.cells in
    let y : c.unwrap_or-y.result ≡ unwrap_or (lookup (same_key c.in-Some.key.now) c.args.ys.now) Null = c.unwrap_or-y.ensures ∙ ap (λ o. unwrap_or o Null) c.get.ensures in
    (omega arith, (entry_below n c.args.xs.now c.loop-at.at (c.in-Some.key.now, c.in-Some.x.now) (sym c.in-Some.ensures) c.requires.left, rw y (lookup_below n c.in-Some.key.now c.args.ys.now c.requires.right)))

pub maps_equal-returns-in_err-equal_within : goal.maps_equal-returns-in_err-equal_within
maps_equal-returns-in_err-equal_within t c =
    let p = err_from_is_err_and c.from_residual.result c.from_residual.ensures.1 in
    let y : c.unwrap_or-y.result ≡ unwrap_or (lookup (same_key c.in-Some.key.now) c.args.ys.now) Null = c.unwrap_or-y.ensures ∙ ap (λ o. unwrap_or o Null) c.get.ensures in
    let first = rw y at c.in_err-equal_within.ensures in
    let stops = maps-first product_limits c.args.heap.now.cells c.args.left c.args.xs.now c.args.ys.now c.loop-at.at c.loop-at.count (c.in-Some.key.now, c.in-Some.x.now) _ _ (sym c.in-Some.ensures) first c.loop-at.invariant in
    rw (p.1, p.2) stops

pub maps_equal-returns-then-not-branch : goal.maps_equal-returns-then-not-branch
maps_equal-returns-then-not-branch t c =
    let y : c.unwrap_or-y.result ≡ unwrap_or (lookup (same_key c.in-Some.key.now) c.args.ys.now) Null = c.unwrap_or-y.ensures ∙ ap (λ o. unwrap_or o Null) c.get.ensures in
    let first = rw y at c.in_ok-equal_within.ensures in
    let stops = maps-first product_limits c.args.heap.now.cells c.args.left c.args.xs.now c.args.ys.now c.loop-at.at c.loop-at.count (c.in-Some.key.now, c.in-Some.x.now) _ _ (sym c.in-Some.ensures) first c.loop-at.invariant in
    ends _ _ _ _ stops c.if-not-branch.true

pub maps_equal-loop-at-preserved : goal.maps_equal-loop-at-preserved
maps_equal-loop-at-preserved t c =
    elim c.match-entry_at.branch [
      | maps_equal-in-Some+in_ok-equal_within+else-not-branch w ↦
          let y : w.unwrap_or-y.result ≡ unwrap_or (lookup (same_key w.in-Some.key.now) c.args.ys.now) Null = w.unwrap_or-y.ensures ∙ ap (λ o. unwrap_or o Null) w.get.ensures in
          let first = rw y at w.in_ok-equal_within.ensures in
          let more = maps-first product_limits c.args.heap.now.cells c.args.left c.args.xs.now c.args.ys.now c.loop-at.at c.loop-at.count (w.in-Some.key.now, w.in-Some.x.now) _ _ (sym w.in-Some.ensures) first c.loop-at.invariant in
          rw w.count-is (goes_on _ _ _ _ more w.if-not-branch.false)
      | maps_equal-in_default w ↦
          let past = slice_get-none c.args.xs.now c.loop-at.at (sym w.in_default.ensures) in
          absurd (omega (arith, past, c.loop-at-test.true, c.len-at-end.ensures.len))
    ]
