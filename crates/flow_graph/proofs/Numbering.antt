-- One more node with the next number.
use Rattle.std.proofs.Common.{◌≡◌, ℕ, suc, ◌+◌, List, [], ◌∷◌, ◌++◌, length, length-append, sym, subst, arith}
use Rattle.model_run.specs.declared.flow.FlowNode.{FlowNode}
use Rattle.flow_graph.specs.Numbers.{NumberedFrom, AreNumbered}

numbered-push : (id : ℕ) (ns : List FlowNode) (n : FlowNode) → NumberedFrom id ns → n.id ≡ id + length ns → NumberedFrom id (ns ++ n ∷ [])
numbered-push id [] n h is = (omega (arith, is), tt)
numbered-push id (m ∷ ns) n h is = (h.0, numbered-push (suc id) ns n h.1 (omega (arith, is)))

pub numbered_more : (ns after : List FlowNode) (n : FlowNode) → AreNumbered ns → n.id ≡ length ns + 2 → after ≡ ns ++ n ∷ [] → AreNumbered after
numbered_more ns after n h is at =
    subst AreNumbered (sym at) (record {
      some = omega (arith, length-append ns (n ∷ []));
      numbered = numbered-push 2 ns n h.numbered (omega (arith, is));
    })
