-- What waits for somebody outside (this product's own): inputs for a decision, tasks for their end.
use Rattle.std.specs.Prelude.{ℕ, ◌+◌, nat_eq, Bool, true, false, if◌then◌else◌, List, [], ◌∷◌, find, Option, Some, option_map}
use Rattle.std.specs.Cmp.Lexicographic.{pointwise}
use Rattle.model_run.specs.Taking.{is_task, is_input}
use Rattle.build_requests.specs.Names.{OpenRequest, Request, NodeRequest, TaskRequest, InputRequest}

abbrev pub waiting_inputs : List OpenRequest → ℕ
waiting_inputs [] = 0
waiting_inputs (r ∷ rs) = (if is_input (Some r.request) then 1 else 0) + waiting_inputs rs

abbrev pub open_tasks : List OpenRequest → ℕ
open_tasks [] = 0
open_tasks (r ∷ rs) = (if is_task (Some r.request) then 1 else 0) + open_tasks rs

-- an input with this id
abbrev pub is_input_of : List ℕ → Request → Bool
is_input_of id (InputRequest i) = pointwise nat_eq i id
is_input_of id (NodeRequest label) = false
is_input_of id (TaskRequest executor workspace folder env script status keep_out taken out) = false

-- the number of the first one with this id
abbrev pub input_of : List ℕ → List OpenRequest → Option ℕ
input_of id rs = option_map (λ r. r.number) (find (λ r. is_input_of id r.request) rs)
