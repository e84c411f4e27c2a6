use Rattle.std.proofs.Common.{◌∙◌, ◌+◌, ◌++◌, ◌∷◌, [], List, ℕ, ap, drop, map, sym}
use Rattle.model_values.specs.TextOf.{key_text}
use Rattle.model_values.specs.declared.key.Key.{Key}
use Rattle.model_values.specs.declared.value.Value.{Value}
use Rattle.step_arguments.proofs.Rests.{next_found, one_more}
use Rattle.step_arguments.proofs.given.named.Goals as goal

pub loop-at-preserved : goal.loop-at-preserved
loop-at-preserved c =
    let f : Key × Value → List ℕ × Value = λ e. (key_text e.0, e.1) in
    let es = c.args.entries.now in
    let front = c.loop-at.given.items in
    let e : Key × Value = (c.in-Some.key.now, c.in-Some.value.now) in
    let rest = map f (drop (c.loop-at.at + 1) es) in
    let told = ap (λ (t : List ℕ). front ++ (t, c.in-Some.value.now) ∷ []) c.in_ok-key_text.ensures in
    ap (λ (xs : List (List ℕ × Value)). xs ++ rest) (c.in_ok-push.ensures.items ∙ told)
    ∙ one_more front (f e) rest (map f es) (ap (λ (ys : List (List ℕ × Value)). front ++ ys) (sym (next_found (map f) es c.loop-at.at e c.in-Some.ensures)) ∙ c.loop-at.invariant)
