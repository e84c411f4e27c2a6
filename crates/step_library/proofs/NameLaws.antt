-- The name of a branch is that of the flow node at its number's place.
use Rattle.std.proofs.Common.{◌≡◌, ◌∙◌, ℕ, zero, suc, ◌+◌, ◌-◌, Bool, true, false, List, [], ◌∷◌, drop, nat_eq, Some, ap, sym, arith}
use Rattle.std.specs.Prelude.{slice_get, if◌then◌else◌}
use Rattle.model_run.specs.declared.flow.FlowNode.{FlowNode}
use Rattle.model_run.specs.Fitting.{IsFlowNode}
use Rattle.model_run.specs.FlowNodes.{branch_name}
use Rattle.flow_graph.specs.Numbers.{NumberedFrom, AreNumbered}

at_place : (m i start : ℕ) (ns : List FlowNode) (n : FlowNode) → NumberedFrom m ns → start ≡ m + i → Some n ≡ slice_get ns i → branch_name start ns ≡ drop 8 n.name
at_place m i start [] n h is there = absurd (cc there)
at_place m zero start (x ∷ ns) n h is there =
    let same : nat_eq x.id start ≡ true = grind (arith, h.0, is) in
    let its : n ≡ x = cc there in
    ap (λ (b : Bool). if b then drop 8 x.name else branch_name start ns) same ∙ ap (λ (y : FlowNode). drop 8 y.name) (sym its)
at_place m (suc i) start (x ∷ ns) n h is there =
    let other : nat_eq x.id start ≡ false = grind (arith, h.0, is) in
    ap (λ (b : Bool). if b then drop 8 x.name else branch_name start ns) other ∙ at_place (suc m) i start ns n h.1 (omega (arith, is)) there

pub its_name : (start : ℕ) (ns : List FlowNode) (n : FlowNode) → AreNumbered ns → IsFlowNode ns start → Some n ≡ slice_get ns (start - 2) → branch_name start ns ≡ drop 8 n.name
its_name start ns n a in_graph there = at_place 2 (start - 2) start ns n a.numbered (omega (arith, in_graph.0)) there
