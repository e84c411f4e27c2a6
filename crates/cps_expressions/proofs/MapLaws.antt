-- The parts of a map are entries (the grammar of the language).
use Rattle.std.proofs.Common.{◌≡◌, ◌∙◌, ◌<◌, ◌++◌, ℕ, zero, suc, true, List, [], ◌∷◌, length, ap, sym, subst, arith}
use Rattle.std.proofs.lemmas.List.{append-nil}
use Rattle.std.proofs.Math.Bool.{Bool-set}
use Rattle.std.proofs.Math.Logic.{∥∥₁_elim}
use Rattle.model_syntax.specs.declared.node.NodeForm.{NodeForm}
use Rattle.model_syntax.specs.declared.node.NodeForm.TheVariants as form
use Rattle.model_run.specs.Around.{form_at}
use Rattle.model_run.specs.Nesting.{shape_at}
use Rattle.model_run.specs.Terms.{Term}
use Rattle.script_laws.specs.NodeParts.{AllOf, Any_number, HasParts, Stand, is_entry, parts_asked}
use Rattle.script_laws.proofs.ScriptParts.{script_parts}
use Rattle.cps_code.specs.Script.{IsScript}
use Rattle.cps_values.specs.Values.{AreEntries}

entries_in : (fs : List NodeForm) → Stand (Any_number is_entry ∷ []) fs → AllOf is_entry fs
entries_in fs h = subst (AllOf is_entry) (sym (h.split ∙ ap (λ rest. h.these ++ rest) h.behind ∙ append-nil h.these)) h.kind

entry_at : (fs : List NodeForm) (i : ℕ) → AllOf is_entry fs → i < length fs → is_entry (form_at fs i) ≡ true
entry_at [] i all lt = absurd (omega arith)
entry_at (f ∷ fs) zero all lt = all.0
entry_at (f ∷ fs) (suc i) all lt = entry_at fs i all.1 (omega arith)

pub map_entries : (root : Term) → IsScript root → (k : ℕ) → (shape_at root k).form ≡ form.Map → AreEntries (shape_at root k)
map_entries root script k is = λ i lt.
    ∥∥₁_elim script (hlevel (Bool-set)) (λ s.
    let parts : HasParts (shape_at root k) = subst (λ t. HasParts (shape_at t k)) (sym s.1) (script_parts s.0 k) in
    entry_at (shape_at root k).parts i (entries_in (shape_at root k).parts (subst (λ f. Stand (parts_asked f) (shape_at root k).parts) is parts)) lt)
