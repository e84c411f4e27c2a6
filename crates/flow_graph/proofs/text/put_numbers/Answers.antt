use Rattle.std.proofs.Common.{◌∙◌, ◌++◌, ap, get_or, sym, List, ℕ, map, append_assoc, decimal}
use Rattle.std.specs.List.{flat_map, join_with_byte}
use Rattle.flow_graph.proofs.Pieces.{blank_decimal, put-step, put-done, joined_numbers, put_blank}
use Rattle.flow_graph.proofs.text.put_numbers.Goals as goal

pub loop-number-preserved : goal.loop-number-preserved
loop-number-preserved c =
    put-step blank_decimal _ _ _ 0 c.loop-number-test.true
    (put_blank (get_or c.in-Some.others.now c.loop-number.number-index 0) _ _ _ c.in_ok-push.ensures.pushed c.in_ok-put_number-2.ensures)
    c.loop-number.invariant

pub returns : goal.returns
returns c =
    let first : ℕ = c.in-Some.first.now in
    let others : List ℕ = c.in-Some.others.now in
    put-done blank_decimal others _ _ c.loop-number-test.false c.loop-number.invariant
    ∙ ap (λ (bs : List ℕ). bs ++ flat_map blank_decimal others) c.in_ok-put_number.ensures
    ∙ append_assoc c.args.text.now (decimal first) (flat_map blank_decimal others)
    ∙ ap (λ (bs : List ℕ). c.args.text.now ++ bs) (sym (joined_numbers first others))
    ∙ ap (λ (ns : List ℕ). c.args.text.now ++ join_with_byte 32 (map decimal ns)) (sym c.in-Some.ensures.cases.0)
