-- The entries of a map, one by one.
use Rattle.std.proofs.Common.{◌≡◌, ◌∙◌, ◌<◌, ◌+◌, ℕ, List, ◌∷◌, length, drop, Some, ap}
use Rattle.indexmap.specs.IndexMap.{insert_entry}
use Rattle.model_syntax.specs.declared.node.NodeForm.{NodeForm}
use Rattle.model_values.specs.declared.cell.Cell.{Cell}
use Rattle.model_values.specs.declared.key.Key.{Key}
use Rattle.model_values.specs.declared.value.Value.{Value}
use Rattle.model_run.specs.Gathering.{and_entries, entries_of, put_entry}
use Rattle.model_run.specs.Around.{form_at}
use Rattle.model_values.specs.Keys.{same_key}
use Rattle.cps_values.specs.Entries.{entries_by}
use Rattle.cps_values.specs.declared.entries.Entry.{Entry}
use Rattle.cps_values.proofs.ListLaws.{drop_more, from_part}

-- one entry more
module _ (h : List Cell) (fs : List NodeForm) (vs : List Value) (es : List (Key × Value)) (at used : ℕ) (f : NodeForm) (lt : at < length fs) (is : f ≡ form_at fs at) where
  pub goes_on : (e : Entry) (key : Key) → entries_of h (f ∷ drop (at + 1) fs) (drop used vs) es ≡ entries_by h (drop (at + 1) fs) (drop used vs) es e → e.key ≡ Some key → entries_of h (drop at fs) (drop used vs) es ≡ entries_of h (drop (at + 1) fs) (drop (used + e.taken) vs) (insert_entry same_key es key e.value)
  goes_on e key entry k =
      ap (λ gs. entries_of h gs (drop used vs) es) (from_part fs at f lt is) ∙ entry
      ∙ ap (λ o. and_entries (entries_of h (drop (at + 1) fs) (drop e.taken (drop used vs))) (put_entry o e.value es)) k
      ∙ ap (λ ws. entries_of h (drop (at + 1) fs) ws (insert_entry same_key es key e.value)) (drop_more vs used e.taken)
