-- The end of a branch makes a flow node.
use Rattle.std.proofs.Common.{◌≡◌, ℕ, suc, ◌+◌, ◌≤◌, ◌<◌, Bool, true, false, List, [], ◌∷◌, ◌++◌, length, length-append, Option, Some, None, arith, codes, refl, ap, sym}
use Rattle.std.specs.Prelude.{if◌then◌else◌}
use Rattle.std.proofs.lemmas.Bool.{ltb-true}
use Rattle.model_values.specs.declared.limit.LimitKind.{LimitKind}
use Rattle.model_values.specs.declared.limit.LimitKind.TheVariants.{FlowNodes}
use Rattle.model_run.specs.declared.ending.Ending.{Ending}
use Rattle.model_run.specs.declared.ending.Ending.TheVariants.{Normal, Thrown, Returned, Broke, Continued, Declared, Answered}
use Rattle.model_run.specs.declared.flow.FlowNode.{FlowNode}
use Rattle.model_run.specs.declared.flow.NodeKind.TheVariants.{EndBody as EndBodyNode}
use Rattle.model_run.specs.declared.frame.Frame.{Frame}
use Rattle.model_run.specs.FlowNodes.{branch_name, else_limit, line_limit, next_node, node_limit, noted, noted_limit, pipeline, with_line}
use Rattle.model_run.specs.State.{Ended, Limited, Result, State, Unfinished, Waits, World, changed, guarded, through, unless_limit, with_world}
use Rattle.model_run.specs.Steps.{after_branch, branch_failed}
use Rattle.cps_machine.specs.Stops.{nodes_left}

same_state : (e e' : Ending) (s s' : State) → Ended e s ≡ Ended e' s' → s ≡ s'
same_state e e' s s' h = cc h

-- behind what meets no limit
guard_ended : (limit : World → Option LimitKind) (g : World → World) (go : State → Result) (s : State) (e : Ending) (s' : State) → guarded limit g go s ≡ Ended e s' → (limit s.world ≡ None) × (go (with_world (g s.world) s) ≡ Ended e s')
guard_ended limit g go s e s' h = by_limit (limit s.world) refl h
  where
    by_limit : (o : Option LimitKind) → limit s.world ≡ o → unless_limit o (changed g go) s ≡ Ended e s' → (limit s.world ≡ None) × (go (with_world (g s.world) s) ≡ Ended e s')
    by_limit (Some k) is h = absurd (cc h)
    by_limit None is h = (is, h)

none_if : (b : Bool) (k : LimitKind) → (if b then None else Some k) ≡ None → b ≡ true
none_if true k e = refl
none_if false k e = absurd (cc e)

first_none : (a b : Option LimitKind) → else_limit a b ≡ None → a ≡ None
first_none None b e = refl
first_none (Some k) b e = absurd (cc e)

longer : (xs : List FlowNode) (x : FlowNode) → length (xs ++ x ∷ []) ≡ length xs + 1
longer xs x = omega (arith, length-append xs (x ∷ []))

-- what a branch's failure logs makes no flow node
failed_same : (start : ℕ) (e : Ending) (s : State) (e' : Ending) (s' : State) → branch_failed start e s ≡ Ended e' s' → nodes_left s'.world ≡ nodes_left s.world
failed_same start (Thrown c) s e' s' h =
    let l = guard_ended (line_limit (codes "Failed in branch " ++ branch_name start s.world.shared.nodes)) (with_line (codes "Failed in branch " ++ branch_name start s.world.shared.nodes)) (Ended (Thrown c)) s e' s' h in
    ap (λ (x : State). nodes_left x.world) (sym (same_state (Thrown c) e' (with_world (with_line (codes "Failed in branch " ++ branch_name start s.world.shared.nodes) s.world) s) s' l.1))
failed_same start (Normal v) s e' s' h = ap (λ (x : State). nodes_left x.world) (sym (same_state _ _ _ _ h))
failed_same start (Returned v) s e' s' h = ap (λ (x : State). nodes_left x.world) (sym (same_state _ _ _ _ h))
failed_same start Broke s e' s' h = ap (λ (x : State). nodes_left x.world) (sym (same_state _ _ _ _ h))
failed_same start Continued s e' s' h = ap (λ (x : State). nodes_left x.world) (sym (same_state _ _ _ _ h))
failed_same start (Declared b) s e' s' h = ap (λ (x : State). nodes_left x.world) (sym (same_state _ _ _ _ h))
failed_same start (Answered a) s e' s' h = ap (λ (x : State). nodes_left x.world) (sym (same_state _ _ _ _ h))

pub branch_end_spends : (start : ℕ) (e : Ending) (s : State) (e' : Ending) (s' : State) → after_branch start e s ≡ Ended e' s' → suc (nodes_left s'.world) ≤ nodes_left s.world
branch_end_spends start e s e' s' h =
    let end : World → World = λ w. noted EndBodyNode [] start (w.own.head ∷ []) (pipeline (codes "}")) w in
    let l = guard_ended (noted_limit (pipeline (codes "}"))) (λ w. noted EndBodyNode [] start (w.own.head ∷ []) (pipeline (codes "}")) w) (branch_failed start e) s e' s' h in
    let rest : nodes_left s'.world ≡ nodes_left (end s.world) = failed_same start e (with_world (end s.world) s) e' s' l.1 in
    let lt : length s.world.shared.nodes < s.world.setting.limits.flow_nodes = ltb-true (length s.world.shared.nodes) s.world.setting.limits.flow_nodes (none_if _ FlowNodes (first_none (node_limit s.world) _ l.0)) in
    omega (arith, rest, lt, longer s.world.shared.nodes (record { id = next_node s.world; kind = EndBodyNode; name = []; start = start; parents = s.world.own.head ∷ [] }))

-- what stands inside a frame that has ended has ended
pub through_ended : (f : Frame) (go : Ending → State → Result) (r : Result) (e' : Ending) (s' : State) → through f go r ≡ Ended e' s' → (e : Ending) × (s : State) × (r ≡ Ended e s) × (go e s ≡ Ended e' s')
unfolding through
through_ended f go (Ended e s) e' s' h = (e, s, refl, h)
through_ended f go (Waits asked path s) e' s' h = absurd (cc h)
through_ended f go (Limited k s) e' s' h = absurd (cc h)
through_ended f go Unfinished e' s' h = absurd (cc h)
