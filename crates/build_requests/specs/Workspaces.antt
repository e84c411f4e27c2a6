-- Held executors, as the code goes over them.
use Rattle.std.specs.Prelude.{ℕ, suc, nat_eq, nat_lt, Bool, ◌&&◌, if◌then◌else◌, List, [], ◌∷◌, Option, Some, None}
use Rattle.std.specs.List.{list_any}
use Rattle.build_requests.specs.Names.{Site, Executor, Held}
use Rattle.model_run.specs.Grants.{executor_of, is_of_agent, workspace_number, with_held}

-- whether a held executor of this agent uses the workspace of this number
abbrev pub is_used : Site → List Held → List ℕ → ℕ → Bool
is_used site held agent n = list_any (λ h. nat_eq h.workspace n && is_of_agent agent (executor_of site h.executor)) held

-- what is held when this request has got this executor (`World`, `held_as`)
abbrev pub row_held : Site → ℕ → ℕ → Option Executor → List Held → List Held
row_held site request executor None held = held
row_held site request executor (Some x) held = with_held (record { executor = executor; request = request; workspace = workspace_number site held x }) held

-- how many stand before an executor of this number
abbrev pub place_for : ℕ → List Held → ℕ
place_for n [] = 0
place_for n (h ∷ hs) = if nat_lt n h.executor then 0 else suc (place_for n hs)
