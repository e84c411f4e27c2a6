use Rattle.std.proofs.Common.{◌∙◌, ◌+◌, ◌++◌, ◌∷◌, List, ℕ, ap, drop, sym}
use Rattle.model_values.specs.declared.key.Key.{Key}
use Rattle.model_values.specs.declared.value.Value.{Value}
use Rattle.model_run.specs.declared.callee.Callee.{Callee}
use Rattle.model_run.specs.State.{put_cells}
use Rattle.model_run.specs.Steps.{branches_of}
use Rattle.step_arguments.proofs.Rests.{next_found, one_more}
use Rattle.step_library.proofs.BranchLaws.{callee_in_front}
use Rattle.step_library.proofs.branches.branches_of.Goals as goal

pub loop-at-preserved : goal.loop-at-preserved
loop-at-preserved c = λ w.
    let u = put_cells c.args.heap.now.cells w in
    let es = c.args.entries.now in
    let e : Key × Value = (c.in-Some.key.now, c.in-Some.value.now) in
    let rest = branches_of u (drop (c.loop-at.at + 1) es) in
    let front = c.loop-at.named.items in
    let name = c.in_ok-key_text.field-0 in
    let callee = c.in_ok-callee_of.field-0 in
    let here = callee_in_front u e name callee rest c.in_ok-key_text.ensures (c.in_ok-callee_of.ensures w) ∙ sym (next_found (branches_of u) es c.loop-at.at e c.in-Some.ensures) in
    ap (λ (xs : List (List ℕ × Callee)). xs ++ rest) c.in_ok-push.ensures.items
    ∙ one_more front (name, callee) rest (branches_of u es) (ap (λ (xs : List (List ℕ × Callee)). front ++ xs) here ∙ c.loop-at.invariant w)
