use Rattle.std.proofs.Common.{◌≡◌, ◌∙◌, true, false, ap, sym, arith, drop, map, take}
use Rattle.std.specs.Prelude.{◌&&◌}
use Rattle.frame_rows.specs.Rows.{further_seen, sort_seen}
use Rattle.frame_rows.specs.Values.{all_there, values_fit}
use Rattle.frame_rows.proofs.ValueLaws.{any_first, any_missing}
use Rattle.frame_rows.proofs.values.values_fit.Goals as goal

pub returns-then-values-row : goal.returns-then-values-row
returns-then-values-row c =
    sym (any_missing c.args.cells.now c.args.nodes (further_seen c.args.row.now.further) c.args.row.now.any (map sort_seen c.args.row.now.sorts.now) c.args.values.now (omega (arith, c.if-values-row.true)))

pub returns-then-all_there : goal.returns-then-all_there
returns-then-all_there c =
    let h = c.args.cells.now in
    let n = c.args.row.now.any in
    let vs = c.args.values.now in
    let rest = values_fit h c.args.nodes (further_seen c.args.row.now.further) (map sort_seen c.args.row.now.sorts.now) in
    let first : all_there h (take n vs) ≡ true = ap (all_there h) (sym c.split_at.ensures.front) ∙ sym c.all_there.ensures ∙ c.if-all_there.true in
    let whole = any_first h c.args.nodes (further_seen c.args.row.now.further) n (map sort_seen c.args.row.now.sorts.now) vs (omega (arith, c.if-values-row.false)) in
    c.sorted_fit.ensures ∙ ap rest c.split_at.ensures.back ∙ sym (ap (λ b. b && rest (drop n vs)) first) ∙ sym whole

pub returns-else-all_there : goal.returns-else-all_there
returns-else-all_there c =
    let h = c.args.cells.now in
    let n = c.args.row.now.any in
    let vs = c.args.values.now in
    let rest = values_fit h c.args.nodes (further_seen c.args.row.now.further) (map sort_seen c.args.row.now.sorts.now) in
    let first : all_there h (take n vs) ≡ false = ap (all_there h) (sym c.split_at.ensures.front) ∙ sym c.all_there.ensures ∙ c.if-all_there.false in
    let whole = any_first h c.args.nodes (further_seen c.args.row.now.further) n (map sort_seen c.args.row.now.sorts.now) vs (omega (arith, c.if-values-row.false)) in
    c.if-all_there.false ∙ sym (ap (λ b. b && rest (drop n vs)) first) ∙ sym whole
