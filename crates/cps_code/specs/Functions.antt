-- The functions of a script by their names (this product's own).
use Rattle.std.specs.Prelude.{◌≡◌, ℕ, List, []}
use Rattle.std.specs.Option.{option_map}
use Rattle.std.specs.BTreeMap.{BTreeMap, get}
use Rattle.std.specs.Cmp.Lexicographic.{slice_cmp}
use Rattle.std.specs.Ordering.{nat_cmp}
use Rattle.model_run.specs.Callables.{function_in}
use Rattle.model_run.specs.declared.callee.Callee.{Callee}
use Rattle.model_run.specs.Terms.{Terms}

-- the function at a node: it sees none of the variables that are declared round it
abbrev pub function_at : ℕ → Callee
function_at k = record { node = k; env = [] }

-- each name has the function that some nodes have of it
abbrev pub HasFunctions : Terms → BTreeMap (List ℕ) ℕ → Type 0
HasFunctions ts functions = (x : List ℕ) → option_map function_at (get (slice_cmp nat_cmp) functions x) ≡ function_in x ts
