-- What the label of a `node` step says, which may be blank.
use Rattle.std.proofs.Common.{◌≡◌, ◌∙◌, ap, sym, Bool, true, false, ℕ, List, Some, None, Result, Ok, Err, if◌then◌else◌}
use Rattle.std.specs.Prelude.{IfOk, IfErr, option_and_then}
use Rattle.std.specs.List.{list_all}
use Rattle.label_expr.specs.declared.condition.LabelExpr.{LabelExpr}
use Rattle.label_expr.specs.declared.condition.LabelExpr.TheVariants.{Any, Where}
use Rattle.label_expr.specs.declared.refusal.LabelRefusal.{LabelRefusal}
use Rattle.label_expr.specs.declared.refusal.LabelRefusal.TheVariants.{Memory, Fault}
use Rattle.label_expr.specs.Conditions.{IsLabel}
use Rattle.label_expr.specs.Readings.{IsRefusal, IsSaid, IsFault}
use Rattle.model_run.specs.LabelTokens.{is_blank}
use Rattle.model_run.specs.Labels.{expression, fault_of, kept_fits, label_fault}

pub fault-kept : (text : List ℕ) (b : Bool) → list_all is_blank text ≡ b → label_fault (Some text) ≡ option_and_then (λ t. fault_of (expression t)) (if b then None else Some text)
fault-kept text b is = ap (λ c. option_and_then (λ t. fault_of (expression t)) (if c then None else Some text)) is

pub blank_fits : (text : List ℕ) → list_all is_blank text ≡ true → IsLabel (Some text) Any
blank_fits text is labels = sym (ap (λ b. kept_fits labels (if b then None else Some text)) is)

said_faultless : (text : List ℕ) → list_all is_blank text ≡ false → (expr : LabelExpr) → IsSaid (expression text) expr → label_fault (Some text) ≡ None
said_faultless text some Any said = absurd said
said_faultless text some (Where condition) said = fault-kept text false some ∙ ap fault_of said

refused_fault : (text : List ℕ) → list_all is_blank text ≡ false → (refusal : LabelRefusal) → IsRefusal (expression text) refusal → IsFault (label_fault (Some text)) refusal
refused_fault text some Memory is = tt
refused_fault text some (Fault at) is = fault-kept text false some ∙ ap fault_of is

pub ok_faultless : (text : List ℕ) → list_all is_blank text ≡ false → (r : Result LabelExpr LabelRefusal) → IfOk r (IsSaid (expression text)) → IfOk r (λ _. label_fault (Some text) ≡ None)
ok_faultless text some (Ok expr) said = said_faultless text some expr said
ok_faultless text some (Err refusal) said = tt

pub err_fault : (text : List ℕ) → list_all is_blank text ≡ false → (r : Result LabelExpr LabelRefusal) → IfErr r (IsRefusal (expression text)) → IfErr r (IsFault (label_fault (Some text)))
err_fault text some (Ok expr) refused = tt
err_fault text some (Err refusal) refused = refused_fault text some refusal refused
