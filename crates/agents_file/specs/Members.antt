-- What a check says of one value, wherever it stands (the checks are this product's own).
use Rattle.std.specs.Prelude.{◌≡◌, ℕ, List, [], ◌∷◌, Option, Some, None, option_map}
use Rattle.std.specs.Borrow.{Bor}
use Rattle.serde_json.specs.Data.{Data, string}
use Rattle.serde_json.specs.View.{view}
use Rattle.serde_json.specs.declared.value.Value.{Value}
use Rattle.model_run.specs.declared.agents.AgentsKind.{AgentsKind}
use Rattle.model_run.specs.declared.agents.AgentsKind.TheVariants.{Missing, WrongType}
use Rattle.model_run.specs.AgentsFaults.{Fault, fault}

-- the data of a member that may be there
abbrev pub seen : Option (Bor Value) → Option Data
seen value = option_map (λ v. view v.now) value

-- the check finds nothing wrong
abbrev pub Passes : (List ℕ → Option Data → List Fault) → Option Data → Type 0
Passes check d = (path : List ℕ) → check path d ≡ []

-- the check finds this wrong, and nothing else
abbrev pub FailsBy : (List ℕ → Option Data → List Fault) → Option Data → AgentsKind → Type 0
FailsBy check d kind = (path : List ℕ) → check path d ≡ fault path kind ∷ []

-- why no text stands there
abbrev pub IsNoText : Option Data → AgentsKind → Type 0
IsNoText None kind = kind ≡ Missing
IsNoText (Some (string s)) kind = ⊥
IsNoText (Some d) kind = kind ≡ WrongType
