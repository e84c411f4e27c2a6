use Rattle.std.proofs.Common.{◌≡◌, ◌∙◌, ◌++◌, ℕ, List, Some, length, sym, ap, subst, arith}
use Rattle.delta_form.specs.After.{grown}
use Rattle.model_run.specs.FlowNodes.{IsFront}
use Rattle.image_changes.proofs.Tasks.{grows, other_stays, out_of, output_grew, stays, taken_of}
use Rattle.image_changes.proofs.requests.grown.Goals.{else-taken-was-via-then-taken-was+else-len, else-taken-was-via-else-taken-was, in_default-via-in-Task+in_default, in_default-via-in_default}
use Rattle.image_changes.proofs.requests.grown.Goals as goal

pub added_bytes-requires : goal.added_bytes-requires
added_bytes-requires c =
    let had = ap out_of c.in-Task-Task.is-0 ∙ sym c.as_slice.ensures in
    let out = ap out_of c.in-Task-Task.is-1 ∙ sym c.as_slice-in-Task-Task.ensures in
    record { front = subst (λ (l : List ℕ). IsFront l c.as_slice-in-Task-Task.result.now) had (subst (IsFront (out_of c.args.stood.now)) out (output_grew c.args.stood.now c.args.item.now c.requires)) }

pub returns-then-len : goal.returns-then-len
returns-then-len c =
    let had = ap out_of c.in-Task-Task.is-0 in
    let out = ap out_of c.in-Task-Task.is-1 in
    stays c.args.stood.now c.args.item.now c.requires (ap taken_of c.in-Task-Task.is-0 ∙ sym c.if-taken-was.true ∙ sym (ap taken_of c.in-Task-Task.is-1))
    (omega (arith, ap length had, ap length out, c.len.ensures, c.len-then-taken-was.ensures, c.if-len.true))

pub returns-in_ok-added_bytes-in-Task-Task : goal.returns-in_ok-added_bytes-in-Task-Task
returns-in_ok-added_bytes-in-Task-Task c =
    let stood = c.args.stood.now in
    let item = c.args.item.now in
    let added = c.in_ok-added_bytes-in-Task-Task.field-0 in
    let had = ap out_of c.in-Task-Task.is-0 in
    let out = ap out_of c.in-Task-Task.is-1 in
    let grew : out_of item ≡ out_of stood ++ added =
    out ∙ sym c.as_slice-in-Task-Task.ensures ∙ c.in_ok-added_bytes-in-Task-Task.ensures ∙ ap (λ (l : List ℕ). l ++ added) (c.as_slice.ensures ∙ sym had) in
    let differs : stood ≡ item → ⊥ =
    λ e. elim c.else-taken-was.branch [
      | else-taken-was-via-then-taken-was+else-len w ↦ w.if-len.false (omega (arith, ap length had, ap length out, w.len.ensures, w.len-then-taken-was.ensures, ap length (ap out_of e)))
      | else-taken-was-via-else-taken-was w ↦ w.if-taken-was.false (sym (ap taken_of c.in-Task-Task.is-1) ∙ sym (ap taken_of e) ∙ ap taken_of c.in-Task-Task.is-0)
    ] in
    (differs, subst (λ (t : ℕ). grown t added stood ≡ Some item) (ap taken_of c.in-Task-Task.is-1) (grows stood item added c.requires differs grew))

pub returns-in_default : goal.returns-in_default
returns-in_default c =
    other_stays c.args.stood.now c.args.item.now c.requires
    (λ e w f v s t k m o e2 w2 f2 v2 s2 t2 k2 m2 o2 is was. elim c.in_default.branch [
      | in_default-via-in-Task+in_default d ↦ d.in_default.not-Task-1 e2 w2 f2 v2 s2 t2 k2 m2 o2 was
      | in_default-via-in_default d ↦ d.in_default.not-Task-0 e w f v s t k m o is
    ])
